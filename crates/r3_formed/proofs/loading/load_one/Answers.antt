use Rattle.std.proofs.Common.{◌≡◌, ◌+◌, Err, ap, ◌∙◌, sym, arith}
use Rattle.r3_formed.specs.declared.fault.LoadFault.TheVariants as faults
use Rattle.r3_formed.proofs.LoadLaws.{load_not}
use Rattle.r3_formed.proofs.Capacity.{room_behind}
use Rattle.r3_formed.proofs.loading.load_one.Goals as goal

pub load_either-requires-clause-room : goal.load_either-requires-clause-room
load_either-requires-clause-room c =
    let loads = c.requires.stands.2 in
    room_behind c.args.loaded.now.chains c.requires.stands.0 0 loads.versions loads.formed.small loads.cap

pub returns-in-Err-clause-unformed : goal.returns-in-Err-clause-unformed
returns-in-Err-clause-unformed c = λ h same loads k is.
    let fault : c.fault_at.result ≡ faults.NotFormed k = cc in
    let p = load_not c.in-Err.fault (c.args.count + 1) k (sym c.fault_at.ensures ∙ fault) in (
      omega (arith, p.1, same),
      λ e bytes formed. c.in-Err.ensures.unformed h same loads.versions (ap Err p.0) e bytes formed,
    )
