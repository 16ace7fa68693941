-- Worked cases of drains whose turns are spent within a pair, beside plain drains of as many turns.
use Rattle.std.proofs.Common.{◌≡◌, ℕ, List, [], ◌∷◌, drop, refl}
use Rattle.std.specs.Prelude.{codes}
use Rattle.r3_model.specs.Event.{Reply, Entry as EntryReply, Began, Empty, Idle, Spent}
use Rattle.r3_model.specs.Run.{Trail, next}
use Rattle.r3_model.specs.Drain.{Form, Plain, Paired, Drained, drained}
use Rattle.r3_model.proofs.Bank.{bank}
use Rattle.r3_model.proofs.WorkedTurns.{after, start, a, b, s1, s2}

abbrev drain : Form → ℕ → Trail → Drained
drain form n t = drained (next bank) bank.queues form n t

-- ---- one transfer

abbrev one : Trail
one = after (start s1 (codes "send") a b 3 ∷ [])

abbrev of_one : Form → ℕ → List Reply
of_one form n = drop 3 (drain form n one).trail.replies

-- a dequeue and the first turn of a pair: the second one isn't given, and the snapshot stays open
a_pair_that_is_cut : ((drain Paired 2 one).reply ≡ Spent 2) × (of_one Paired 2 ≡ Empty ∷ Began 3 ∷ []) × ((drain Paired 2 one).trail.state.begun ≡ (s1, 3) ∷ [])
a_pair_that_is_cut = (refl, refl, refl)

a_pair_that_is_whole : ((drain Paired 3 one).reply ≡ Spent 3) × (of_one Paired 3 ≡ Empty ∷ Began 3 ∷ EntryReply 4 ∷ []) × ((drain Paired 3 one).trail.state.begun ≡ [])
a_pair_that_is_whole = (refl, refl, refl)

-- three rounds, the last of which changes nothing: the dequeue alone
one_is_over : ((drain Paired 6 one).reply ≡ Idle 6) × ((drain Paired 5 one).reply ≡ Spent 5)
one_is_over = (refl, refl)

-- ---- two transfers

abbrev two : Trail
two = after (start s1 (codes "send") a b 3 ∷ start s2 (codes "send") a (codes "c") 4 ∷ [])

abbrev of_two : Form → ℕ → List Reply
of_two form n = drop 4 (drain form n two).trail.replies

-- the first pair is whole, and the second one has a turn, or none
the_second_pair_is_cut : ((drain Paired 4 two).reply ≡ Spent 4) × (of_two Paired 4 ≡ Empty ∷ Began 4 ∷ EntryReply 5 ∷ Began 5 ∷ [])
the_second_pair_is_cut = (refl, refl)

the_second_pair_has_no_turn : ((drain Paired 3 two).reply ≡ Spent 3) × (of_two Paired 3 ≡ Empty ∷ Began 4 ∷ EntryReply 5 ∷ [])
the_second_pair_has_no_turn = (refl, refl)

-- a plain drain of four: one turn of each, and the dequeue of the next round
a_plain_one_goes_round : ((drain Plain 4 two).reply ≡ Spent 4) × (of_two Plain 4 ≡ Empty ∷ Began 4 ∷ Began 4 ∷ Empty ∷ [])
a_plain_one_goes_round = (refl, refl)
