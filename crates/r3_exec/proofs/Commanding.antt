-- A command that a caller may give, and whose entry it gives.
use Rattle.std.proofs.Common.{◌≡◌, None}
use Rattle.r3_entry.specs.declared.entry.Entry.{Entry}
use Rattle.sys_flow.specs.declared.command.Command.{Command}
use Rattle.r3_model.specs.Commands.{commanded}
use Rattle.r3_model.specs.Event.{Run, Reply}
use Rattle.r3_model.specs.Fits.{IsFit}
use Rattle.r3_model.specs.Given.{Enters}
use Rattle.r3_model.specs.Language.{Language}
use Rattle.r3_model.specs.Machine.{State}
use Rattle.r3_model.specs.Valid.{IsValid}
use Rattle.r3_laws.proofs.CasesOf.{case-of}
use Rattle.r3_exec.specs.Entered.{Gives}
use Rattle.r3_exec.proofs.Plain.{of_command}

pub gives : (P : Language) (st : State) (c : Command) (e : Entry) (r : Reply) → IsValid P st → IsFit c
    → commanded P st.history c ≡ Enters e r → Gives P st (Run c) None e r
gives P st c e r valid fit is = record {
  fits = (valid.begins, fit);
  outcome = tt {0};
  plain = of_command P st.history c None None e (case-of P st.history None None e r (Run c) is);
  given_is = is;
}
