use Rattle.std.proofs.Common.{◌≡◌, ℕ, List, length, Some, sym, ◌∙◌, ap, arith}
use Rattle.r3_gate.proofs.Opens.{Verdict, told_verdict, on_log, on_foreign, on_damaged, foreign_only, damaged_only, log_only, opens_result, still_quiet}
use Rattle.r3_gate.proofs.gate.Gate.open.Goals as goal

pub returns-clause-ok : goal.returns-clause-ok
returns-clause-ok g c =
    let read = c.read_image.ensures in
    opens_result g.D.Desk.size g.D.Desk.image g.D.Desk.may_leave c.read_image.new.desk c.deref.result.now c.log_of.result c.log_of.ensures.ok
    (still_quiet g.D.Desk.size g.D.Desk.image g.D.Desk.may_leave c.args.desk.now c.read_image.new.desk c.requires read.image read.pending)
    (λ i is. c.deref.ensures.value ∙ c.in_ok-bytes.ensures.bytes i (sym read.image ∙ is))
    (λ n is. omega (arith, c.in_ok-bytes.ensures.within n (sym read.size ∙ is), ap length c.deref.ensures.value))

pub returns-clause-log : goal.returns-clause-log
returns-clause-log g c =
    let v : (i : List ℕ) → g.D.Desk.image c.args.desk.now ≡ Some i → Verdict i c.log_of.result = told_verdict c.deref.result.now c.in_ok-bytes.bytes.items c.log_of.result (g.D.Desk.image c.args.desk.now) c.deref.ensures.value c.in_ok-bytes.ensures.bytes c.log_of.ensures.ok c.log_of.ensures.not_store c.log_of.ensures.damaged c.log_of.ensures.never_full in
    log_only (g.D.Desk.image c.args.desk.now) c.log_of.result v

pub returns-clause-not_store : goal.returns-clause-not_store
returns-clause-not_store g c =
    let v : (i : List ℕ) → g.D.Desk.image c.args.desk.now ≡ Some i → Verdict i c.log_of.result = told_verdict c.deref.result.now c.in_ok-bytes.bytes.items c.log_of.result (g.D.Desk.image c.args.desk.now) c.deref.ensures.value c.in_ok-bytes.ensures.bytes c.log_of.ensures.ok c.log_of.ensures.not_store c.log_of.ensures.damaged c.log_of.ensures.never_full in
    λ is i told. foreign_only i c.log_of.result (v i told) is

pub returns-clause-damaged : goal.returns-clause-damaged
returns-clause-damaged g c =
    let v : (i : List ℕ) → g.D.Desk.image c.args.desk.now ≡ Some i → Verdict i c.log_of.result = told_verdict c.deref.result.now c.in_ok-bytes.bytes.items c.log_of.result (g.D.Desk.image c.args.desk.now) c.deref.ensures.value c.in_ok-bytes.ensures.bytes c.log_of.ensures.ok c.log_of.ensures.not_store c.log_of.ensures.damaged c.log_of.ensures.never_full in
    λ k is i told. damaged_only i c.log_of.result k (v i told) is

pub returns-clause-on_log : goal.returns-clause-on_log
returns-clause-on_log g c =
    let v : (i : List ℕ) → g.D.Desk.image c.args.desk.now ≡ Some i → Verdict i c.log_of.result = told_verdict c.deref.result.now c.in_ok-bytes.bytes.items c.log_of.result (g.D.Desk.image c.args.desk.now) c.deref.ensures.value c.in_ok-bytes.ensures.bytes c.log_of.ensures.ok c.log_of.ensures.not_store c.log_of.ensures.damaged c.log_of.ensures.never_full in
    λ ps i told l. on_log i c.log_of.result ps (v i told) l

pub returns-clause-on_foreign : goal.returns-clause-on_foreign
returns-clause-on_foreign g c =
    let v : (i : List ℕ) → g.D.Desk.image c.args.desk.now ≡ Some i → Verdict i c.log_of.result = told_verdict c.deref.result.now c.in_ok-bytes.bytes.items c.log_of.result (g.D.Desk.image c.args.desk.now) c.deref.ensures.value c.in_ok-bytes.ensures.bytes c.log_of.ensures.ok c.log_of.ensures.not_store c.log_of.ensures.damaged c.log_of.ensures.never_full in
    λ i told f. on_foreign i c.log_of.result (v i told) f

pub returns-clause-on_damaged : goal.returns-clause-on_damaged
returns-clause-on_damaged g c =
    let v : (i : List ℕ) → g.D.Desk.image c.args.desk.now ≡ Some i → Verdict i c.log_of.result = told_verdict c.deref.result.now c.in_ok-bytes.bytes.items c.log_of.result (g.D.Desk.image c.args.desk.now) c.deref.ensures.value c.in_ok-bytes.ensures.bytes c.log_of.ensures.ok c.log_of.ensures.not_store c.log_of.ensures.damaged c.log_of.ensures.never_full in
    λ k i told d. on_damaged i c.log_of.result k (v i told) d
