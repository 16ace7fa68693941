-- The writes of an entry, one after another.
use Rattle.std.proofs.Common.{◌≡◌, ℕ, ◌<◌, List, [], ◌∷◌, ◌++◌, reverse, Option, refl, sym, ap, subst, ◌∙◌, cond, true, false, Bool}
use Rattle.std.proofs.lemmas.List.{reverse-append}
use Rattle.std.specs.Prelude.{T, ◌||◌, ◌&&◌}
use Rattle.std.specs.List.{AllByRecursion}
use Rattle.std.specs.Ordering.{is_lt, is_eq, eq_by_cmp, ordering_reverse}
use Rattle.std.specs.declared.cmp.Ordering.{Ordering}
use Rattle.std.specs.declared.cmp.Ordering.TheVariants.{Less, Equal, Greater}
use Rattle.std.specs.FinMap.Entries.{below_all}
use Rattle.r3_rows.specs.declared.rows.Key.{Key}
use Rattle.r3_rows.specs.declared.rows.Cell.{Cell}
use Rattle.r3_rows.specs.Keys.{key_cmp}
use Rattle.r3_chain.specs.Versions.{Versions, versions_of, installed, has_room, without, IsNext}
use Rattle.r3_chain.specs.VersionLaws.{versions_of-installed}
use Rattle.r3_rows.specs.KeyOrder.{key_cmp-total}
use Rattle.r3_formed.specs.Past.{AreReady}

abbrev pub Write : Type 0
Write = Key × Option Cell

pub first : (a b : Bool) → T (a && b) → T a
first true b p = tt
first false b p = p

pub second : (a b : Bool) → T (a && b) → T b
second true b p = p
second false b p = absurd p

pub less_of : (r : Ordering) → T (is_lt r) → r ≡ Less
less_of Less p = refl
less_of Equal p = absurd p
less_of Greater p = absurd p

-- a key above another isn't it
pub apart : (k q : Key) → key_cmp k q ≡ Less → key_cmp q k ≡ Greater
apart k q p = key_cmp-total.antisymm q k ∙ ap ordering_reverse p

kept : (c d e : Bool) → (d ≡ true → e ≡ true) → (c || d) ≡ true → (c || e) ≡ true
kept true d e f h = refl
kept false d e f h = f h

keeps_room : (k q : Key) → key_cmp k q ≡ Less → (room : List Key) → has_room key_cmp q room ≡ true → has_room key_cmp q (without key_cmp k room) ≡ true
keeps_room k q p [] h = h
keeps_room k q p (y ∷ ys) h =
    elim (key_cmp k y) as (λ r. key_cmp k y ≡ r → has_room key_cmp q (cond (is_eq r) ys (y ∷ without key_cmp k ys)) ≡ true) [
      | Less ↦ λ e. kept (eq_by_cmp key_cmp q y) _ _ (keeps_room k q p ys) h
      | Equal ↦ λ e. let other : eq_by_cmp key_cmp q y ≡ false = ap is_eq (apart y q (sym (key_cmp-total.congr k y q e) ∙ p)) in
          sym (ap (λ b. b || has_room key_cmp q ys) other) ∙ h
      | Greater ↦ λ e. kept (eq_by_cmp key_cmp q y) _ _ (keeps_room k q p ys) h
    ] refl

pub keeps_versions : (k q : Key) (j : ℕ) (x : Option Cell) (es : Versions Key Cell) → key_cmp k q ≡ Less → versions_of key_cmp q (installed key_cmp j k x es) ≡ versions_of key_cmp q es
keeps_versions k q j x es p =
    versions_of-installed key_cmp key_cmp-total q k j x es
    ∙ ap (λ r. cond (is_eq r) ((j, x) ∷ versions_of key_cmp q es) (versions_of key_cmp q es)) (apart k q p)

rest_ready : (j : ℕ) (w : Write) (ws : List Write) (room : List Key) (es : Versions Key Cell) → T (below_all key_cmp w.0 ws)
    → AllByRecursion (λ v. has_room key_cmp v.0 room ≡ true) ws → AllByRecursion (λ v. IsNext key_cmp j v.0 es) ws
    → AllByRecursion (λ v. has_room key_cmp v.0 (without key_cmp w.0 room) ≡ true) ws × AllByRecursion (λ v. IsNext key_cmp j v.0 (installed key_cmp j w.0 w.1 es)) ws
rest_ready j w [] room es b r n = (tt, tt)
rest_ready j w (v ∷ vs) room es b r n =
    let p : key_cmp w.0 v.0 ≡ Less = less_of _ (first _ _ b) in
    let rest : _ = rest_ready j w vs room es (second _ _ b) r.1 n.1 in (
      (keeps_room w.0 v.0 p room r.0, rest.0),
      (subst (AllByRecursion (λ x. x.0 < j)) (sym (keeps_versions w.0 v.0 j w.1 es p)) n.0, rest.1),
    )

pub one_less : (j : ℕ) (w : Write) (ws : List Write) (room : List Key) (es : Versions Key Cell) → AreReady j (w ∷ ws) room es
    → (has_room key_cmp w.0 room ≡ true) × IsNext key_cmp j w.0 es × AreReady j ws (without key_cmp w.0 room) (installed key_cmp j w.0 w.1 es)
one_less j w ws room es ready =
    let rest : _ = rest_ready j w ws room es (first _ _ ready.sorted) ready.room.1 ready.next.1 in
    (ready.room.0, ready.next.0, record { sorted = second _ _ ready.sorted; room = rest.0; next = rest.1 })

-- the last of a list is the first of its reverse
pub taken : (all rest : List Write) (w : Write) → all ≡ rest ++ w ∷ [] → reverse all ≡ w ∷ reverse rest
taken all rest w is = ap reverse is ∙ reverse-append rest (w ∷ [])
