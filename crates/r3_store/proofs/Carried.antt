-- What a store holds goes on: on a desk whose disk is the same, and where its memory alone changes.
use Rattle.std.proofs.Common.{◌≡◌, ℕ, List, take, drop, Option, sym, ap, subst, ◌∙◌, arith}
use Rattle.std.specs.Prelude.{map, Contains}
use Rattle.r3_gate.specs.Gate.{Tracks}
use Rattle.r3_gate.specs.declared.gate.Gate.{Gate}
use Rattle.r3_entry.specs.declared.entry.Entry.{Entry}
use Rattle.r3_entry.specs.Formed.{Follows}
use Rattle.r3_formed.specs.Past.{StandFor}
use Rattle.r3_formed.specs.Answers.{text_of}
use Rattle.r3_formed.specs.Load.{payloads}
use Rattle.r3_store.specs.Holds.{Stands, Holds, SameStore, MayFollow}
use Rattle.r3_store.specs.declared.store.Store.{Store}

pub stands_same : (old new : Store) (h : List Entry) → SameStore old new → Stands old h → Stands new h
stands_same old new h same stands = record {
  formed = stands.formed;
  count = ap (λ (g : Gate). g.count) same.gate ∙ stands.count;
  versions = subst (λ es. StandFor es h new.oldest) (sym same.versions) (subst (StandFor old.chains.versions h) (sym same.oldest) stands.versions);
  oldest = omega (arith, same.oldest, stands.oldest);
  pins = λ s there. let was : _ = stands.pins s (subst (λ (l : List ℕ). Contains l s) same.pins there) in (omega (arith, was.0, same.oldest), was.1);
  texts = ap (map text_of) same.texts ∙ stands.texts;
}

module _ {D : Type 0} (told_size : D → Option ℕ) (told_image : D → Option (List ℕ)) (may_leave : D → List ℕ → Type 0) where
  tracks_on : (old new : D) (gate : Gate) (ps qs : List (List ℕ)) → told_size new ≡ told_size old → told_image new ≡ told_image old → ((c : List ℕ) → may_leave new c → may_leave old c)
      → Tracks told_size told_image may_leave old gate ps qs → Tracks told_size told_image may_leave new gate ps qs
  tracks_on old new gate ps qs size image left t = record {
    published_end = t.published_end;
    end = t.end;
    count = t.count;
    fits = t.fits;
    fresh = t.fresh;
    size = λ made n told. t.size made n (sym size ∙ told);
    seen = λ i told. t.seen i (sym image ∙ told);
    left = λ c may. t.left c (left c may);
    quiet = λ none c may. image ∙ t.quiet none c (left c may);
  }

  pub holds_elsewhere : (old new : D) (store : Store) (h : List Entry) (k : ℕ) → told_size new ≡ told_size old → told_image new ≡ told_image old → ((c : List ℕ) → may_leave new c → may_leave old c)
      → Holds told_size told_image may_leave old store h k → Holds told_size told_image may_leave new store h k
  holds_elsewhere old new store h k size image left holds = record {
    stands = holds.stands;
    within = holds.within;
    settled_formed = holds.settled_formed;
    tracks = tracks_on old new store.gate _ _ size image left holds.tracks;
  }

  pub holds_with : (desk : D) (old new : Store) (h : List Entry) (k : ℕ) → new.gate ≡ old.gate → Stands new h
      → Holds told_size told_image may_leave desk old h k → Holds told_size told_image may_leave desk new h k
  holds_with desk old new h k gate stands holds = record {
    stands = stands;
    within = holds.within;
    settled_formed = holds.settled_formed;
    tracks = subst (λ (g : Gate). Tracks told_size told_image may_leave desk g (payloads (take k h)) (payloads (drop k h))) (sym gate) holds.tracks;
  }

pub follows_may : (h : List Entry) (e : Entry) → Follows h e → MayFollow h e
follows_may h e f = record {
  program = f.program;
  below = f.isolated.below;
  reads = f.isolated.reads;
  kinds = f.kinds;
  steps = f.steps;
  flows = f.flows;
  few_rows = f.few_rows;
  few_reads = f.few_reads;
}
