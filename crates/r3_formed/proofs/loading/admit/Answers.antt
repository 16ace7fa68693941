use Rattle.std.proofs.Common.{◌+◌, subst, List, Option}
use Rattle.std.specs.Prelude.{IsTrue, ◌↔◌}
use Rattle.std.specs.List.{AllByRecursion}
use Rattle.r3_rows.specs.declared.rows.Key.{Key}
use Rattle.r3_rows.specs.declared.rows.Cell.{Cell}
use Rattle.r3_chain.specs.Versions.{as_of}
use Rattle.r3_formed.specs.Rules.{HasFlow}
use Rattle.r3_formed.proofs.RuleLaws.{not_fitting, stands_on, admitted}
use Rattle.r3_formed.proofs.loading.admit.Goals as goal

pub returns-then-not-branch-clause-follows : goal.returns-then-not-branch-clause-follows
returns-then-not-branch-clause-follows c = λ h same stand.
    not_fitting c.args.chains.now.versions h c.args.entry.now c.args.count c.in_ok-fits_behind.field-0 same stand c.in_ok-fits_behind.ensures c.if-not-branch.true

pub have_flows-requires : goal.have_flows-requires
have_flows-requires c =
    (stands_on c.args.chains.now.versions c.put_versions.new.chains.versions c.requires.stands.0 c.args.entry.now c.args.count c.requires.stands.1 c.requires.stands.2 c.in_ok-put_versions.ensures.versions).sorted

pub returns-clause-follows : goal.returns-clause-follows
returns-clause-follows c = λ h same stand.
    admitted c.args.chains.now.versions c.put_versions.new.chains.versions h c.args.entry.now c.args.count c.in_ok-flows.flows same stand c.in_ok-put_versions.ensures.versions
    ((c.is_program_first.ensures h same).0 c.if-not-is_program_first.false) (c.in_ok-fits_behind.ensures.0 c.if-not-branch.false)
    (subst (λ (ws : List (Key × Option Cell)). IsTrue c.in_ok-flows.flows ↔ AllByRecursion (λ w. HasFlow (as_of (c.args.count + 1) c.put_versions.new.chains.versions) w.0) ws) c.list.ensures c.in_ok-flows.ensures)

pub returns-clause-versions : goal.returns-clause-versions
returns-clause-versions c = λ h same stand _.
    stands_on c.args.chains.now.versions c.put_versions.new.chains.versions h c.args.entry.now c.args.count same stand c.in_ok-put_versions.ensures.versions
