-- Rows in the order of their IDs are noted one after the other.
use Rattle.std.proofs.Common.{◌≡◌, ◌≢◌, ℕ, ◌+◌, ◌<◌, ◌≤◌, ◌-◌, ◌^◌, List, [], ◌∷◌, ◌++◌, length, get_or, drop, map, filter_map, Option, Some, None, refl, sym, ap, ◌∙◌, subst, arith}
use Rattle.std.proofs.lemmas.List.{append-nil, append_assoc, drop_all, drop_more, length-append}
use Rattle.std.specs.Prelude.{IsTrue}
use Rattle.std.specs.List.{AllByRecursion, cons_option}
use Rattle.std.specs.FinMap.Entries.{is_sorted}
use Rattle.r3_rows.specs.declared.rows.FlowRow.{FlowRow}
use Rattle.r3_rows.specs.declared.rows.Key.{Key}
use Rattle.r3_rows.specs.declared.rows.Key.TheVariants as keys
use Rattle.r3_entry.specs.declared.entry.Entry.{Entry}
use Rattle.r3_entry.specs.Formed.{IsFormed}
use Rattle.r3_entry.specs.History.{Map, Write, map_at}
use Rattle.r3_formed.specs.Answers.{flow_ids, flow_in}
use Rattle.r3_store.specs.Holds as store
use Rattle.sys_queue.specs.Lines.{Line, Place, bytes_cmp, declared_of, new_lines}
use Rattle.sys_queue.specs.Rows.{Rows}
use Rattle.sys_queue.specs.Index as queues
use Rattle.sys_pending.specs.Index as pending
use Rattle.r3_model.specs.Language.{Text}
use Rattle.r3_model.specs.Rows.{Flow, flow_at, flows_at}
use Rattle.r3_model.specs.Run.{restarted}
use Rattle.r3_laws.specs.OfPending.{RowsGather, RowsListed, RowsRise, id_in}
use Rattle.r3_laws.specs.OfQueues.{rows_of}
use Rattle.r3_laws.proofs.Flows.{flows_at-there}
use Rattle.r3_exec.specs.Runs.{ArePinned, Stands, rows_now}
use Rattle.r3_exec.specs.declared.exec.Exec.{Exec}
use Rattle.r3_exec.proofs.Few.{few_alone}

abbrev id_of : Text × FlowRow → Text
id_of f = f.0

abbrev with_id : Flow → Text × FlowRow
with_id f = (f.id, f.row)

-- The first rows are noted, and these IDs are left.
pub record IsGathered (h : List Entry) (ids : List Text) (lines : List Line) (places : List Place) : Type 0 where
  pub before : Rows
  pub after : Rows
  pub rows : rows_now h ≡ before ++ after
  pub left : ids ≡ map id_of after
  pub queues : queues.IsIndexOf lines before
  pub pending : pending.IsIndexOf places before

-- ---- the IDs that the store lists

same_in : (p : Key × Write) → flow_in p ≡ id_in p
same_in (keys.User table key, w) = refl
same_in (keys.Flow id, (j, Some cell)) = refl
same_in (keys.Flow id, (j, None)) = refl
same_in (keys.Step id n, w) = refl

same_ids : (m : Map) → filter_map flow_in m ≡ filter_map id_in m
same_ids [] = refl
same_ids (p ∷ ps) = ap (λ (o : Option Text). cons_option o (filter_map flow_in ps)) (same_in p) ∙ ap (λ (is : List Text). cons_option (id_in p) is) (same_ids ps)

-- nothing is noted yet
pub none_noted : (h : List Entry) (ids : List Text) (lines : List Line) (places : List Place) → RowsListed → IsFormed h → ids ≡ flow_ids h
    → queues.IsIndexOf lines [] → pending.IsIndexOf places [] → IsGathered h ids lines places
none_noted h ids lines places listed formed is in_queues in_pending = record {
  before = [];
  after = rows_now h;
  rows = refl;
  left = is ∙ same_ids (map_at h (length h)) ∙ listed h (length h) formed;
  queues = in_queues;
  pending = in_pending;
}

-- ---- one more

-- the first of the IDs that are left
pub with_first : (h : List Entry) (ids : List Text) (i : ℕ) (id : Text) (lines : List Line) (places : List Place) → i < length ids → id ≡ get_or ids i id
    → IsGathered h (drop i ids) lines places → IsGathered h (id ∷ drop (i + 1) ids) lines places
with_first h ids i id lines places lt is g =
    subst (λ (left : List Text). IsGathered h left lines places) (drop_more ids i id lt ∙ ap (λ (x : Text). x ∷ drop (i + 1) ids) (sym is)) g

abbrev Parts : Text → List Text → Rows → Type 0
Parts id ids after = (row : FlowRow) × (rest : Rows) × (after ≡ (id, row) ∷ rest) × (ids ≡ map id_of rest)

parts : (id : Text) (ids : List Text) (after : Rows) → id ∷ ids ≡ map id_of after → Parts id ids after
parts id ids [] is = absurd cc
parts id ids (f ∷ fs) is =
    let first : id ≡ f.0 = cc in
    let others : ids ≡ map id_of fs = cc in
    (f.1, fs, ap (λ (i : Text). (i, f.1) ∷ fs) (sym first), others)

at_place : (h : List Entry) (fs : List Flow) (before rest : Rows) (id : Text) (row : FlowRow) → AllByRecursion (λ (f : Flow). flow_at h (length h) f.id ≡ Some f.row) fs
    → rows_of fs ≡ before ++ (id, row) ∷ rest → flow_at h (length h) id ≡ Some row
at_place h [] [] rest id row all is = absurd cc
at_place h [] (b ∷ bs) rest id row all is = absurd cc
at_place h (f ∷ fs) [] rest id row all is =
    let same : with_id f ≡ (id, row) = cc in
    subst (λ (i : Text). flow_at h (length h) i ≡ Some row) (ap id_of same) (all.0 ∙ ap (λ (p : Text × FlowRow). Some p.1) same)
at_place h (f ∷ fs) (b ∷ bs) rest id row all is =
    let later : rows_of fs ≡ bs ++ (id, row) ∷ rest = cc in
    at_place h fs bs rest id row all.1 later

rows_split : (h : List Entry) (id : Text) (ids : List Text) (lines : List Line) (places : List Place) (g : IsGathered h (id ∷ ids) lines places)
    → (row : FlowRow) × (rest : Rows) × (rows_now h ≡ g.before ++ (id, row) ∷ rest) × (ids ≡ map id_of rest)
rows_split h id ids lines places g =
    let p = parts id ids g.after g.left in
    (p.0, p.1, g.rows ∙ ap (λ (fs : Rows). g.before ++ fs) p.2, p.3)

-- the next ID's workflow has a row
pub next_row : (h : List Entry) (id : Text) (ids : List Text) (lines : List Line) (places : List Place) → IsGathered h (id ∷ ids) lines places
    → (row : FlowRow) × (flow_at h (length h) id ≡ Some row)
next_row h id ids lines places g =
    let s = rows_split h id ids lines places g in
    (s.0, at_place h (flows_at h (length h)) g.before s.1 id s.0 (flows_at-there h (length h)) s.2)

pub one_noted : (h : List Entry) (id : Text) (ids : List Text) (lines lines' : List Line) (places places' : List Place)
    → RowsRise → RowsGather → IsFormed h → IsGathered h (id ∷ ids) lines places
    → ((row : FlowRow) → flow_at h (length h) id ≡ Some row → queues.Follows lines lines' id None row × pending.Follows places places' id None row)
    → IsGathered h ids lines' places'
one_noted h id ids lines lines' places places' rise gather formed g follows =
    let s = rows_split h id ids lines places g in
    let here = at_place h (flows_at h (length h)) g.before s.1 id s.0 (flows_at-there h (length h)) s.2 in
    let f = follows s.0 here in
    let put = gather g.before s.1 id s.0 (subst (λ (rows : Rows). IsTrue (is_sorted bytes_cmp rows)) s.2 (rise h (length h))) in
    let all : length (rows_now h) ≡ length g.before + length g.after = ap (λ (rows : Rows). length rows) g.rows ∙ length-append g.before g.after in
    let few : length g.before < 2 ^ 32 - 1 = omega (arith, all, few_alone h formed) in
    record {
      before = g.before ++ (id, s.0) ∷ [];
      after = s.1;
      rows = s.2 ∙ sym (append_assoc g.before ((id, s.0) ∷ []) s.1);
      left = s.3;
      queues = subst (λ (rows : Rows). queues.IsIndexOf lines' rows) put.1 (f.0 g.before g.queues put.0 few);
      pending = subst (λ (rows : Rows). pending.IsIndexOf places' rows) put.1 (f.1 g.before g.pending put.0);
    }

-- ---- all

none_left : (after : Rows) → [] ≡ map id_of after → after ≡ []
none_left [] is = refl
none_left (f ∷ fs) is = absurd cc

pub all_noted : (h : List Entry) (ids : List Text) (i : ℕ) (lines : List Line) (places : List Place) → length ids ≤ i → IsGathered h (drop i ids) lines places
    → queues.IsIndexOf lines (rows_now h) × pending.IsIndexOf places (rows_now h)
all_noted h ids i lines places le g =
    let none : g.after ≡ [] = none_left g.after (sym (drop_all i ids le) ∙ g.left) in
    let same : g.before ≡ rows_now h = sym (g.rows ∙ ap (λ (fs : Rows). g.before ++ fs) none ∙ append-nil g.before) in
    (subst (λ (rows : Rows). queues.IsIndexOf lines rows) same g.queues, subst (λ (rows : Rows). pending.IsIndexOf places rows) same g.pending)

-- ---- what is taken up

begins_too : (h h' : List Entry) → length h ≡ length h' → h ≢ [] → h' ≢ []
begins_too [] h' same begins = absurd (begins refl)
begins_too (e ∷ h) [] same begins = absurd (omega (arith, same))
begins_too (e ∷ h) (e' ∷ h') same begins = λ none. absurd cc

pub taken_up : (exec : Exec) (h h' : List Entry) → store.Stands exec.store h → h ≢ [] → exec.store.pins ≡ [] → store.Stands exec.store h'
    → exec.vacuumed ≡ length h' → exec.begun.entries ≡ [] → declared_of exec.queues ≡ declared_of (new_lines exec.program)
    → queues.IsIndexOf exec.queues (rows_now h') → pending.IsIndexOf exec.pending (rows_now h') → Stands exec (restarted h')
taken_up exec h h' known begins pins stands vacuumed begun declared in_queues in_pending = record {
  valid = record {
    formed = stands.formed;
    begins = begins_too h h' (sym known.count ∙ stands.count) begins;
    snapshots = record { sorted = refl; each = λ id s found. absurd cc };
  };
  keeps = record {
    store = stands;
    snapshots = begun;
    in_order = tt {0};
    pins = subst (λ (ps : List ℕ). ArePinned ps []) (sym pins) (λ s. refl);
    declared = declared;
    queues = in_queues;
    pending = in_pending;
    vacuumed = omega (arith, vacuumed);
  };
}
