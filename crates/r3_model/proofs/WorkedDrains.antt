-- Worked cases of drains, restarts, made IDs and the text of replies.
use Rattle.std.proofs.Common.{◌≡◌, ℕ, [], ◌∷◌, ◌++◌, Some, None, refl, drop}
use Rattle.std.specs.Prelude.{codes, flat_map}
use Rattle.std.specs.Fmt.{digits}
use Rattle.serde_json.proofs.OnLiterals.{serde_json_on_literals}
use Rattle.uuid.specs.Text.{by_index}
use Rattle.sha1.specs.Sha1.{sha1, digest_bytes, hash_after, compress, rounds, schedule, first_words}
use Rattle.r3_value.specs.declared.value.Val.TheVariants.{Null}
use Rattle.r3_value.specs.declared.value.Outcome.TheVariants as outcomes
use Rattle.sys_flow.specs.declared.command.Command.TheVariants.{Start}
use Rattle.r3_model.specs.Event.{Event, Run, Turn, EntryOf, ShowStatus, Idle, Spent}
use Rattle.r3_model.specs.Names.{made_id}
use Rattle.r3_model.specs.Replies.{reply_text}
use Rattle.r3_model.specs.Run.{Trail, from_state, restarted, next, run, opening_events}
use Rattle.r3_model.specs.Drain.{Drained, drained, Plain}
use Rattle.r3_model.proofs.Bank.{bank, args1}
use Rattle.r3_model.proofs.WorkedTurns.{int, txt, after, replies_of, start_move, turns, moved, m1}

abbrev reopened : Trail → Trail
reopened t =
    let st = restarted t.state.history in
    run bank (from_state st (Some (outcomes.Value Null) ∷ [])) (opening_events (codes "bank") st)

abbrev drain : ℕ → Trail → Drained
drain n t = drained (next bank) bank.queues Plain n t

-- a second run goes on where the first one stopped, in its third turn or before
stopped_after_one_turn : (drain 100 (reopened (after (start_move ∷ Turn m1 ∷ start_move ∷ [])))).reply ≡ Idle 9
stopped_after_one_turn = refl

stopped_in_the_third_turn : (drain 100 (reopened (after (start_move ∷ turns 2 m1)))).reply ≡ Idle 5
stopped_in_the_third_turn = refl

-- a workflow that waits for itself changes nothing
abbrev wait_w1 : Event
wait_w1 = Run (Start (Some (codes "w1")) (codes "wait") (args1 (txt (codes "w1"))))

who_waits_for_itself_is_idle : (drain 100 (after (wait_w1 ∷ []))).reply ≡ Idle 2
who_waits_for_itself_is_idle = refl

turns_are_spent : (drain 3 (after (start_move ∷ []))).reply ≡ Spent 3
turns_are_spent = refl

nothing_to_do_takes_the_dequeue_alone : (drain 100 (after [])).reply ≡ Idle 1
nothing_to_do_takes_the_dequeue_alone = refl

-- ---- an ID that the machine makes

an_absent_id_is_made : replies_of (Run (Start None (codes "wait") (args1 (int 1))) ∷ []) ≡ EntryOf 3 (made_id 2) ∷ []
unfolding made_id by_index
an_absent_id_is_made = refl

-- the version 5 UUID of the nil namespace and the text `1`
made_of_one : made_id 1 ≡ codes "11116e73-1c03-5de6-9130-5f9925ae8ab4"
unfolding made_id by_index sha1 digits digest_bytes hash_after compress rounds schedule first_words
made_of_one = refl

-- ---- the text of replies

text_of_an_entry : reply_text (EntryOf 3 m1) ≡ codes "{\"entry\":3,\"id\":\"m1\"}\n"
unfolding digits serde_json_on_literals
text_of_an_entry = refl

text_of_a_row : flat_map reply_text (drop 6 (replies_of (moved ++ ShowStatus m1 ∷ [])))
    ≡ codes "{\"args\":[\"a\",\"b\",3],\"attempts\":0,\"fn\":\"move\",\"id\":\"m1\",\"outcome\":{\"value\":3},\"parent\":null,\"queue\":null,\"started\":3,\"status\":\"SUCCESS\"}\n"
unfolding digits serde_json_on_literals
text_of_a_row = refl
