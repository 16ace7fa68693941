-- A recorded call, as the trait tells it.
use Rattle.std.specs.Prelude.{string_bytes}
use Rattle.r3_desk.specs.Asked.{Call}
use Rattle.r3_desk.specs.declared.asked.Asked.{Asked}

abbrev pub call_of : Asked → Call
call_of a = record { id = string_bytes a.id; number = a.n; name = string_bytes a.name; args = a.args; answer = a.answer }
