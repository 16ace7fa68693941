use Rattle.std.proofs.Common.{◌≡◌, ℕ, ◌<◌, List, [], ◌∷◌, ◌++◌, length, Option, Some, None, Ok, sym, ap, ◌∙◌, subst, arith}
use Rattle.fn_tree.specs.declared.program.Item.{Item}
use Rattle.r3_snap.specs.Conflicts.{keys_of}
use Rattle.r3_formed.specs.Past.{first_conflict}
use Rattle.r3_model.specs.Functions.{language_of}
use Rattle.r3_model.specs.Language.{Text}
use Rattle.r3_model.specs.Machine.{Begun, Out}
use Rattle.r3_model.specs.Valid.{IsValid}
use Rattle.r3_exec.specs.Entered.{after_closing, state_after}
use Rattle.r3_exec.specs.Placed.{IsPlaced}
use Rattle.r3_exec.specs.Runs.{Keeps, language}
use Rattle.r3_exec.specs.declared.commit.Placed.{Placed}
use Rattle.r3_exec.specs.declared.enter.Entered.TheVariants as ends
use Rattle.r3_exec.proofs.Entering.{closes, may, no_conflict, one_flow, step_full, step_number, still_valid, within}
use Rattle.r3_exec.proofs.Discarding.{closes_behind, same_snapshots}
use Rattle.r3_exec.proofs.exec.Exec.enter_within.Goals as goal

pub place-requires-clause-limits : goal.place-requires-clause-limits
place-requires-clause-limits g c =
    let x = c.requires.gives in
    let items = c.args.self.now.program in
    let room : length x.0.history < 1000000 = omega (arith, c.requires.room.2, c.requires.room.1.count, x.5.stands.keeps.store.count) in
    (within (language c.args.self.now) x.0 x.2 x.3 c.args.entry x.4 x.6 (c.programs_are_lawful.ensures items)
    (c.programs_are_limited.ensures items c.program.ensures.sound c.holds_values.ensures) c.enters_what_follows.ensures.limits x.5.stands.valid room).0

pub place-requires-clause-payload : goal.place-requires-clause-payload
place-requires-clause-payload g c =
    let x = c.requires.gives in
    let items = c.args.self.now.program in
    let room : length x.0.history < 1000000 = omega (arith, c.requires.room.2, c.requires.room.1.count, x.5.stands.keeps.store.count) in
    (within (language c.args.self.now) x.0 x.2 x.3 c.args.entry x.4 x.6 (c.programs_are_lawful.ensures items)
    (c.programs_are_limited.ensures items c.program.ensures.sound c.holds_values.ensures) c.enters_what_follows.ensures.limits x.5.stands.valid room).1

pub place-requires-clause-one_flow : goal.place-requires-clause-one_flow
place-requires-clause-one_flow g c =
    let x = c.requires.gives in
    one_flow (language c.args.self.now) x.0 x.2 x.3 c.args.entry x.4 x.6 (c.programs_are_lawful.ensures c.args.self.now.program) c.enters_light.ensures.enters

pub place-requires-clause-keeping : goal.place-requires-clause-keeping
place-requires-clause-keeping g c =
    let x = c.requires.gives in
    let follows = may (language c.args.self.now) x.0 x.2 x.3 c.args.entry x.4 x.6 (c.programs_are_lawful.ensures c.args.self.now.program) c.enters_what_follows.ensures.follows x.5.stands.valid in
    (x.0.history, x.0.begun, x.1, c.may_follow.ensures x.0.history c.args.entry follows, record { keeps = x.5.stands.keeps; holds = x.5.holds })

pub close_of-requires : goal.close_of-requires
close_of-requires g c =
    let x = c.requires.gives in
    let follows = may (language c.args.self.now) x.0 x.2 x.3 c.args.entry x.4 x.6 (c.programs_are_lawful.ensures c.args.self.now.program) c.enters_what_follows.ensures.follows x.5.stands.valid in
    let p = subst (λ (o : Placed). IsPlaced g.D.Desk.size g.D.Desk.image g.D.Desk.may_leave c.place.new.desk c.place.new.self x.0.history x.0.begun x.1 c.args.entry o) c.in-Ok-Number.field-0-is
    (c.in-Ok-Number.ensures.placed x.0.history x.0.begun x.1 (record { keeps = x.5.stands.keeps; holds = x.5.holds }) (c.may_follow.ensures x.0.history c.args.entry follows)) in
    (x.0.history ++ c.args.entry ∷ [], x.0.begun, p.2.keeps)

pub unreachable-requires : goal.unreachable-requires
unreachable-requires g c =
    let x = c.requires.gives in
    let some = c.in-Ok-Conflict.ensures.conflict x.0.history x.5.stands.keeps.store c.in-Ok-Conflict.field-0-0 (ap (λ (o : Placed). Ok o) c.in-Ok-Conflict.field-0-is) in
    let none = ap (λ (s : ℕ). first_conflict x.0.history s (keys_of c.args.entry.writes)) x.6.plain ∙ no_conflict x.0.history (keys_of c.args.entry.writes) in
    let wrong : Some c.in-Ok-Conflict.field-0-0 ≡ None = sym some ∙ none in absurd cc

pub returns-in-Ok-Number-clause-come : goal.returns-in-Ok-Number-clause-come
returns-in-Ok-Number-clause-come g c = λ st k ev answer r runs gives.
    let P = language c.args.self.now in
    let e = c.args.entry in
    let items = c.args.self.now.program in
    let lawful = c.programs_are_lawful.ensures items in
    let limited = c.programs_are_limited.ensures items c.program.ensures.sound c.holds_values.ensures in
    let follows = may P st ev answer e r gives lawful c.enters_what_follows.ensures.follows runs.stands.valid in
    let p = subst (λ (o : Placed). IsPlaced g.D.Desk.size g.D.Desk.image g.D.Desk.may_leave c.place.new.desk c.place.new.self st.history st.begun k e o) c.in-Ok-Number.field-0-is
    (c.in-Ok-Number.ensures.placed st.history st.begun k (record { keeps = runs.stands.keeps; holds = runs.holds }) (c.may_follow.ensures st.history e follows)) in
    let step = step_number P st ev answer e r gives c.in-Ok-Number.number p.1 in
    let after = state_after st e (ends.Number c.in-Ok-Number.number) in
    let closed = ap (λ (o : Option Text). after_closing o st.begun) c.requires.closing ∙ closes e.act st.begun in
    let keeps = subst (λ (b : Begun). Keeps c.close_of.new.self (st.history ++ e ∷ []) b) closed (c.close_of.ensures.closed (st.history ++ e ∷ []) st.begun p.2.keeps) in
    let valid : IsValid P after = subst (λ (o : Out). IsValid P o.state) step (still_valid P st ev answer e r gives lawful limited c.keeps_valid.ensures.keeps runs.stands.valid) in
    let same = sym (c.close_of.ensures.program ∙ c.place.ensures.program) in
    record {
      number = p.0;
      step = step;
      runs = record {
        stands = record { valid = subst (λ (is : List Item). IsValid (language_of is) after) same valid; keeps = keeps };
        holds = c.holds_in_memory.ensures.gate c.place.new.desk c.place.new.self.store c.close_of.new.self.store (st.history ++ e ∷ []) k c.close_of.ensures.gate keeps.store p.2.holds;
      };
    }

pub returns-in-Ok-Full-clause-come : goal.returns-in-Ok-Full-clause-come
returns-in-Ok-Full-clause-come g c = λ st k ev answer r runs gives.
    let P = language c.args.self.now in
    let e = c.args.entry in
    let lawful = c.programs_are_lawful.ensures c.args.self.now.program in
    let follows = may P st ev answer e r gives lawful c.enters_what_follows.ensures.follows runs.stands.valid in
    let p = subst (λ (o : Placed). IsPlaced g.D.Desk.size g.D.Desk.image g.D.Desk.may_leave c.place.new.desk c.place.new.self st.history st.begun k e o) c.in-Ok-Full.field-0-is
    (c.in-Ok-Full.ensures.placed st.history st.begun k (record { keeps = runs.stands.keeps; holds = runs.holds }) (c.may_follow.ensures st.history e follows)) in
    record {
      number = tt {0};
      step = step_full P st ev answer e r gives c.in-Ok-Full.limit p.0;
      runs = record {
        stands = record { valid = subst (λ (is : List Item). IsValid (language_of is) st) (sym c.place.ensures.program) runs.stands.valid; keeps = p.1.keeps };
        holds = p.1.holds;
      };
    }

pub returns-in-Ok-Number-clause-discards : goal.returns-in-Ok-Number-clause-discards
returns-in-Ok-Number-clause-discards g c = closes_behind c.args.self.now c.place.new.self c.close_of.new.self c.place.ensures.others c.close_of.ensures.discards

pub returns-in-Ok-Full-clause-discards : goal.returns-in-Ok-Full-clause-discards
returns-in-Ok-Full-clause-discards g c = same_snapshots c.args.self.now c.place.new.self c.place.ensures.others
