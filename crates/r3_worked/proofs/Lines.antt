-- Worked cases of lines: those forms of a script that r3_model's own cases leave out, each read and each refused.
use Rattle.std.proofs.Common.{◌≡◌, [], replicate, Some, None, refl, pos}
use Rattle.std.specs.Prelude.{codes}
use Rattle.serde_json.specs.Data.{unsigned, Data, null, number, string, array, object, item, no_items, member, no_members}
use Rattle.r3_value.specs.declared.value.Val.{Val}
use Rattle.r3_value.specs.declared.value.Val.TheVariants.{List as ListOf}
use Rattle.r3_value.specs.Value as value
use Rattle.sys_flow.specs.declared.command.Command.TheVariants.{Enqueue, Cancel, Resume}
use Rattle.r3_model.specs.Language.{Text}
use Rattle.r3_model.specs.Event.{Run, Dequeue, ShowStatus, GetRow}
use Rattle.r3_model.specs.Script.{Line, Does, Unformed}
use Rattle.r3_model.specs.Forms.{line_read}

abbrev line : Data → Line
line d = line_read (Some d)

abbrev one : Text → Data → Data
one key d = object (member key d no_members)

abbrev two : Text → Data → Text → Data → Data
two k d l e = object (member k d (member l e no_members))

abbrev word : Text → Data
word s = string s

-- ---- an enqueue

abbrev enqueue : Data → Data → Data
enqueue args id = object (member (codes "args") args (member (codes "enqueue") id (member (codes "fn") (word (codes "send")) (member (codes "queue") (word (codes "mail")) no_members))))

abbrev seven : Data
seven = array (item (number (unsigned 7)) no_items)

abbrev list_of_7 : Val
list_of_7 = ListOf (value.item (value.integer (pos 7)) value.no_items)

an_enqueue : line (enqueue seven (word (codes "e1"))) ≡ Does (Run (Enqueue (Some (codes "e1")) (codes "mail") (codes "send") list_of_7))
an_enqueue = refl

an_enqueue_without_an_id : line (enqueue seven null) ≡ Does (Run (Enqueue None (codes "mail") (codes "send") list_of_7))
an_enqueue_without_an_id = refl

an_enqueue_whose_args_are_no_list : line (enqueue (word (codes "7")) null) ≡ Unformed
an_enqueue_whose_args_are_no_list = refl

an_enqueue_whose_id_is_a_number : line (enqueue seven (number (unsigned 7))) ≡ Unformed
an_enqueue_whose_id_is_a_number = refl

-- without its queue it has the members of no form
an_enqueue_without_a_queue : line (object (member (codes "args") seven (member (codes "enqueue") null (member (codes "fn") (word (codes "send")) no_members)))) ≡ Unformed
an_enqueue_without_a_queue = refl

-- ---- forms of one text

a_cancel : line (one (codes "cancel") (word (codes "m1"))) ≡ Does (Run (Cancel (codes "m1")))
a_cancel = refl

a_resume : line (one (codes "resume") (word (codes "m1"))) ≡ Does (Run (Resume (codes "m1")))
a_resume = refl

a_dequeue : line (one (codes "dequeue") (word (codes "mail"))) ≡ Does (Dequeue (codes "mail"))
a_dequeue = refl

a_status : line (one (codes "status") (word (codes "m1"))) ≡ Does (ShowStatus (codes "m1"))
a_status = refl

-- null makes an ID in a start alone
no_text : (line (one (codes "cancel") null) ≡ Unformed) × (line (one (codes "resume") (number (unsigned 1))) ≡ Unformed)
    × (line (one (codes "dequeue") null) ≡ Unformed) × (line (one (codes "status") seven) ≡ Unformed)
no_text = (refl, refl, refl, refl)

another_word : (line (one (codes "recover") (word (codes "m1"))) ≡ Unformed) × (line (object no_members) ≡ Unformed) × (line (word (codes "m1")) ≡ Unformed)
another_word = (refl, refl, refl)

-- ---- a get

abbrev get : Text → Data
get key = two (codes "get") (word (codes "acct")) (codes "key") (word key)

a_get : line (get (codes "a")) ≡ Does (GetRow (codes "acct") (codes "a"))
a_get = refl

-- a key has 1 to 256 bytes
keys_at_their_limits : (line (get []) ≡ Unformed) × (line (get (replicate 256 97)) ≡ Does (GetRow (codes "acct") (replicate 256 97))) × (line (get (replicate 257 97)) ≡ Unformed)
keys_at_their_limits = (refl, refl, refl)

a_get_without_a_key : line (one (codes "get") (word (codes "acct"))) ≡ Unformed
a_get_without_a_key = refl

-- two forms in one object are none
a_cancel_and_a_resume : line (two (codes "cancel") (word (codes "m1")) (codes "resume") (word (codes "m1"))) ≡ Unformed
a_cancel_and_a_resume = refl
