use Rattle.std.proofs.Common.{◌≡◌, ◌++◌, ◌∷◌, [], Err, ap, arith, length-append}
use Rattle.r3_formed.specs.Load.{bytes_of}
use Rattle.r3_formed.specs.declared.fault.LoadFault.TheVariants as faults
use Rattle.r3_formed.proofs.LoadLaws.{Next, next_in, done_in}
use Rattle.r3_formed.proofs.loading.load.Goals as goal

pub load_one-requires-clause-bytes : goal.load_one-requires-clause-bytes
load_one-requires-clause-bytes c =
    let i = c.payloads.invariant in
    let n : Next (bytes_of c.args.payloads.now) i.0 c.deref.result.now = next_in c.args.payloads.now c.payloads.payload-index c.payloads.count i.0 c.payload-item.result c.deref.result.now
    c.requires i.3 i.1 i.2 c.payloads-test.true c.payload-item.is c.deref.ensures.value in
    n.payload.1

pub returns-in-Err-clause-not_formed : goal.returns-in-Err-clause-not_formed
returns-in-Err-clause-not_formed c = λ k is.
    let i = c.payloads.invariant in
    let n : Next (bytes_of c.args.payloads.now) i.0 c.deref.result.now = next_in c.args.payloads.now c.payloads.payload-index c.payloads.count i.0 c.payload-item.result c.deref.result.now
    c.requires i.3 i.1 i.2 c.payloads-test.true c.payload-item.is c.deref.ensures.value in
    let fault : c.in-Err.fault ≡ faults.NotFormed k = cc in
    let u = c.in-Err.ensures.unformed i.0 i.1 i.4 k (ap Err fault) in
    record {
      before = i.0;
      payload = c.deref.result.now;
      rest = n.rest;
      is = n.is;
      formed = i.4.formed;
      number = u.0;
      unformed = u.1;
    }

pub payloads-preserved : goal.payloads-preserved
payloads-preserved c =
    let i = c.payloads.invariant in
    let n : Next (bytes_of c.args.payloads.now) i.0 c.deref.result.now = next_in c.args.payloads.now c.payloads.payload-index c.payloads.count i.0 c.payload-item.result c.deref.result.now
    c.requires i.3 i.1 i.2 c.payloads-test.true c.payload-item.is c.deref.ensures.value in
    let more = c.in-Ok.ensures.ok i.0 i.1 i.4 n.small in (
      i.0 ++ more.0 ∷ [],
      omega (arith, i.1, length-append i.0 (more.0 ∷ [])),
      omega (arith, i.2),
      done_in c.args.payloads.now c.payloads.payload-index i.0 more.0 c.payload-item.result c.deref.result.now i.3 c.payloads-test.true c.payload-item.is c.deref.ensures.value more.1,
      more.2,
    )
