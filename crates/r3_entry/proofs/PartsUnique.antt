-- No spelling of a part begins another.
use Rattle.std.proofs.Common.{ℕ, ◌<◌, ◌^◌, arith, lit<}
use Rattle.r3_bytes.specs.Spelling.{number, string}
use Rattle.r3_entry.specs.Bytes as spell
use Rattle.r3_entry.specs.Limits.{IsId, IsName, IsRowKey, IsBound, IsNumber, IsArgs, IsOutcome, IfThere, IsAct, IsRead, IsWrite, AreSome}
use Rattle.r3_entry.specs.Parse.{IsBetween}
use Rattle.r3_entry.specs.Parts as part
use Rattle.r3_entry.proofs.Codes.{IsUnique, number_unique, weaker, pair_unique, option_unique, list_unique}
use Rattle.r3_entry.proofs.EntryUnique.{sized_unique, args_unique, outcome_unique, read_unique, act_unique, write_unique, byte_unique, kind_of, kind_of-code}

pub between_unique : (least most : ℕ) → most < 2 ^ 32 → IsUnique number (IsBetween least most)
between_unique least most fits = weaker number (λ n. n < 2 ^ 32) (IsBetween least most) (λ n h. omega (arith, h.below)) number_unique

pub id_unique : IsUnique string IsId
id_unique = sized_unique 1 200 (lit< tt)

pub name_unique : IsUnique string IsName
name_unique = sized_unique 1 64 (lit< tt)

bound_unique : IsUnique string IsBound
bound_unique = sized_unique 0 256 (lit< tt)

-- ---- a flow row

pub call_unique : IsUnique part.call part.IsCall
call_unique = pair_unique string IsName spell.val IsArgs name_unique args_unique

pub called_unique : IsUnique part.called part.IsCalled
called_unique = pair_unique part.call part.IsCall (spell.option spell.outcome) (IfThere IsOutcome) call_unique (option_unique spell.outcome IsOutcome outcome_unique)

pub queue_unique : IsUnique (spell.option string) (IfThere IsName)
queue_unique = option_unique string IsName name_unique

pub queued_unique : IsUnique part.queued part.IsQueued
queued_unique = pair_unique (spell.option string) (IfThere IsName) number (IsBetween 1 1000000) queue_unique (between_unique 1 1000000 (lit< tt))

pub tried_unique : IsUnique part.tried part.IsTried
tried_unique = pair_unique part.queued part.IsQueued number (IsBetween 0 51) queued_unique (between_unique 0 51 (lit< tt))

-- ---- a step row

kind_unique : IsUnique part.kind part.IsAny
kind_unique = byte_unique spell.kind_code kind_of kind_of-code

pub named_unique : IsUnique part.named part.IsNamed
named_unique = pair_unique string IsName part.kind part.IsAny name_unique kind_unique

-- ---- read items

pub place_unique : IsUnique part.place part.IsPlace
place_unique = pair_unique string IsName string IsRowKey name_unique (sized_unique 1 256 (lit< tt))

pub from_unique : IsUnique part.place part.IsFrom
from_unique = pair_unique string IsName string IsBound name_unique bound_unique

pub bounds_unique : IsUnique part.bounds part.AreBounds
bounds_unique = pair_unique part.place part.IsFrom string IsBound from_unique bound_unique

-- ---- acts

pub step_unique : IsUnique part.step part.IsStepOf
step_unique = pair_unique string IsId number part.IsStepNumber id_unique (weaker number (λ n. n < 2 ^ 32) part.IsStepNumber (λ n h. omega (arith, h)) number_unique)

pub fork_unique : IsUnique part.place part.IsForkOf
fork_unique = pair_unique string IsId string IsId id_unique id_unique

-- ---- an entry

pub acted_unique : IsUnique part.acted part.IsActed
acted_unique = pair_unique spell.act IsAct number IsNumber act_unique number_unique

pub looks_unique : IsUnique part.looks part.AreLooks
looks_unique = pair_unique part.acted part.IsActed (spell.list spell.read) (AreSome IsRead) acted_unique (list_unique spell.read IsRead read_unique)

pub pairs_unique : IsUnique (spell.list part.write) (AreSome IsWrite)
pairs_unique = list_unique part.write IsWrite write_unique
