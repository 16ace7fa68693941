-- The entry of a command or a dequeue stands on all that is before it.
use Rattle.std.proofs.Common.{◌≡◌, ℕ, length, List, Option, None, refl, ap, ◌∙◌}
use Rattle.r3_value.specs.declared.value.Outcome.{Outcome}
use Rattle.r3_entry.specs.declared.entry.Entry.{Entry}
use Rattle.r3_rows.specs.declared.rows.FlowRow.{FlowRow}
use Rattle.fn_tree.specs.declared.flow.Request.{Request}
use Rattle.sys_flow.specs.declared.command.Command.{Command}
use Rattle.r3_model.specs.Event.{Run, Turn}
use Rattle.r3_model.specs.Language.{Language, Text}
use Rattle.r3_laws.proofs.Cases.{AskCase, TurnCase, Case, commits, hears, bears, links, awaits, finishes, goes_on, programs, loads, starts, enqueues, dequeues, turns, cancels, resumes, forks, recovers}

snap_as : (h : List Entry) (e made : Entry) → e ≡ made → made.snap ≡ length h → e.snap ≡ length h
snap_as h e made same is = ap (λ (x : Entry). x.snap) same ∙ is

pub of_command : (P : Language) (h : List Entry) (c : Command) (snap : Option ℕ) (answer : Option Outcome) (e : Entry) → Case P h (Run c) snap answer e → e.snap ≡ length h
of_command P h c snap answer e (programs text is same) = absurd cc
of_command P h c snap answer e (loads table rows is same) = snap_as h e _ same refl
of_command P h c snap answer e (starts id function args is none passes same) = snap_as h e _ same refl
of_command P h c snap answer e (enqueues id queue function args is none passes same) = snap_as h e _ same refl
of_command P h c snap answer e (dequeues queue f is there waits same) = absurd cc
of_command P h c snap answer e (turns id row is there runs case) = absurd cc
of_command P h c snap answer e (cancels id row is there may same) = snap_as h e _ same refl
of_command P h c snap answer e (resumes id row is there may same) = snap_as h e _ same refl
of_command P h c snap answer e (forks id source below row is none there passes same) = snap_as h e _ same refl
of_command P h c snap answer e (recovers id row is there runs same) = snap_as h e _ same refl

of_ask : (P : Language) (h : List Entry) (id : Text) (q : Request) (e : Entry) → AskCase P h id q None None e → e.snap ≡ length h
of_ask P h id q e (commits s kind snap none same) = absurd cc
of_ask P h id q e (hears o kind answer same) = absurd cc
of_ask P h id q e (bears kind none short same) = snap_as h e _ same refl
of_ask P h id q e (links child o kind which linked same) = snap_as h e _ same refl
of_ask P h id q e (awaits o kind is same) = snap_as h e _ same refl

of_end : (P : Language) (h : List Entry) (id : Text) (row : FlowRow) (e : Entry) → TurnCase P h id row None None e → e.snap ≡ length h
of_end P h id row e (finishes o is same) = snap_as h e _ same refl
of_end P h id row e (goes_on q is case) = of_ask P h id q e case

-- of a turn, too, where no snapshot is open and the outside has not answered
pub of_turn : (P : Language) (h : List Entry) (id : Text) (e : Entry) → Case P h (Turn id) None None e → e.snap ≡ length h
of_turn P h id e (programs text is same) = absurd cc
of_turn P h id e (loads table rows is same) = absurd cc
of_turn P h id e (starts i function args is none passes same) = absurd cc
of_turn P h id e (enqueues i queue function args is none passes same) = absurd cc
of_turn P h id e (dequeues queue f is there waits same) = absurd cc
of_turn P h id e (turns i row is there runs case) = of_end P h i row e case
of_turn P h id e (cancels i row is there may same) = absurd cc
of_turn P h id e (resumes i row is there may same) = absurd cc
of_turn P h id e (forks i source below row is none there passes same) = absurd cc
of_turn P h id e (recovers i row is there runs same) = absurd cc
