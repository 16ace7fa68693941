use Rattle.std.proofs.Common.{◌++◌, ◌∷◌, [], Ok, sym, ap, subst}
use Rattle.r3_store.specs.declared.store.Store.{Store}
use Rattle.r3_store.specs.Holds.{Holds}
use Rattle.r3_exec.specs.declared.commit.Placed.{Placed}
use Rattle.r3_exec.proofs.Entered.{entered}
use Rattle.r3_exec.proofs.exec.Exec.place_noting.Goals as goal

pub note-requires : goal.note-requires
note-requires g c =
    let x = c.requires.keeping in
    let h = x.0 in
    let begun = x.1 in
    let keeping = x.4 in
    let n = c.in-Ok-Number.ensures.number h begun x.2 c.in-Ok-Number.number keeping x.3 (ap (λ (p : Placed). Ok p) c.in-Ok-Number.field-0-is) in
    record {
      entered = (
        h,
        c.args.entry,
        begun,
        entered c.args.self.now c.commit.new.self h c.args.entry begun keeping.keeps c.commit.ensures.rest n.2.stands c.in-Ok-Number.ensures.pins c.requires.limits c.requires.one_flow,
        c.requires.change h keeping.keeps.store,
      );
    }

pub returns-in-Ok-clause-placed : goal.returns-in-Ok-clause-placed
returns-in-Ok-clause-placed g c = λ h begun k keeping may.
    let n = c.in-Ok-Number.ensures.number h begun k c.in-Ok-Number.number keeping may (ap (λ (p : Placed). Ok p) c.in-Ok-Number.field-0-is) in
    let has = entered c.args.self.now c.commit.new.self h c.args.entry begun keeping.keeps c.commit.ensures.rest n.2.stands c.in-Ok-Number.ensures.pins c.requires.limits c.requires.one_flow in (
      n.0,
      n.1,
      record {
        keeps = c.in-Ok.ensures.noted h c.args.entry begun has (c.requires.change h keeping.keeps.store);
        holds = subst (λ (s : Store). Holds g.D.Desk.size g.D.Desk.image g.D.Desk.may_leave c.commit.new.desk s (h ++ c.args.entry ∷ []) k) (sym c.note.ensures.others.1) n.2;
      },
    )

pub returns-in-Ok-Full-clause-placed : goal.returns-in-Ok-Full-clause-placed
returns-in-Ok-Full-clause-placed g c = λ h begun k keeping may.
    c.in-Ok-Full.ensures.full h begun k c.in-Ok-Full.limit keeping (ap (λ (p : Placed). Ok p) c.in-Ok-Full.field-0-is)

pub returns-in-Ok-Conflict-clause-placed : goal.returns-in-Ok-Conflict-clause-placed
returns-in-Ok-Conflict-clause-placed g c = λ h begun k keeping may.
    c.in-Ok-Conflict.ensures.kept h begun k c.in-Ok-Conflict.entry keeping (ap (λ (p : Placed). Ok p) c.in-Ok-Conflict.field-0-is)
