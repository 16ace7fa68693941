-- What a contract sees of a desk in memory.
use Rattle.std.specs.Prelude.{ℕ, List, map, length, drop, reverse, string_bytes}
use Rattle.r3_desk.specs.declared.asked.Asked.{Asked}
use Rattle.r3_desk.specs.declared.memory.MemDesk.{MemDesk}
use Rattle.r3_desk.specs.Asked.{Call}
use Rattle.r3_desk.specs.Contents.{Contents}
use Rattle.r3_desk.specs.Memory.{State, state_when}
use Rattle.r3_desk.specs.Recorded.{call_of}

-- what it shows
abbrev pub contents : MemDesk → Contents
contents d = record {
  image = d.image.items;
  said = d.said.items;
  asked = map call_of d.asked.items;
  answers = drop d.given d.answers.items;
  fails = d.calls.fails.items;
  room = d.calls.room;
  made = d.calls.made;
  recorded = length d.calls.steps.items;
  written = length d.written.items;
  disk_faults = d.disk_faults;
  say_faults = d.say_faults;
  ask_faults = d.ask_faults;
}

-- its state at a moment, which is a number of recorded calls
abbrev pub state_at : MemDesk → ℕ → State
state_at d moment = state_when d.first.items (reverse d.calls.steps.items) d.written.items moment
