-- Counts of faults over a turn.
use Rattle.std.proofs.Common.{◌≡◌, ℕ, Ok, Err, Result, refl}
use Rattle.r3_desk.specs.Causes.{Rose}
use Rattle.r3_exec.specs.declared.ends.ExecFault.{ExecFault}
use Rattle.r3_exec.specs.declared.ends.TurnEnd.{TurnEnd}
use Rattle.r3_exec.specs.declared.ends.TurnEnd.TheVariants as turns
use Rattle.r3_recover.specs.Drained.{Raised}

pub turn-raises : (r : Result TurnEnd ExecFault) (before now : ℕ) → (r ≡ Ok turns.Again → Rose before now) → ((r ≡ Ok turns.Again → ⊥) → now ≡ before)
    → (n : ℕ) × Raised n before now
turn-raises (Ok (turns.None status)) before now rose still = (0, still (λ e. cc))
turn-raises (Ok (turns.Began snap)) before now rose still = (0, still (λ e. cc))
turn-raises (Ok (turns.Entry number)) before now rose still = (0, still (λ e. cc))
turn-raises (Ok (turns.Conflict entry)) before now rose still = (0, still (λ e. cc))
turn-raises (Ok (turns.Waiting id)) before now rose still = (0, still (λ e. cc))
turn-raises (Ok turns.Again) before now rose still = (1, (before, refl, rose refl))
turn-raises (Ok (turns.Unexpected n recorded asked)) before now rose still = (0, still (λ e. cc))
turn-raises (Ok (turns.Full limit)) before now rose still = (0, still (λ e. cc))
turn-raises (Err fault) before now rose still = (0, still (λ e. cc))
