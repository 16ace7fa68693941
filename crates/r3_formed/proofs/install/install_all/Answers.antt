use Rattle.std.proofs.Common.{◌≡◌, ◌∷◌, List, ap, ◌∙◌, sym, subst, reverse}
use Rattle.r3_formed.specs.Past.{all_installed, AreReady}
use Rattle.r3_formed.proofs.Writes.{Write, one_less, taken}
use Rattle.r3_formed.proofs.install.install_all.Goals as goal

pub writes-preserved : goal.writes-preserved
writes-preserved c =
    let rest : List Write = reverse c.pop.new.self.items in
    let now : reverse c.writes.writes.items ≡ c.in-Some.write ∷ rest = taken c.writes.writes.items c.pop.new.self.items c.in-Some.write c.in-Some.ensures.items in
    let s : _ = one_less c.args.index c.in-Some.write rest c.writes.chains.room c.writes.chains.versions
    (subst (λ ws. AreReady c.args.index ws c.writes.chains.room c.writes.chains.versions) now c.writes.invariant.ready) in
    record {
      ready = rw (c.install_write.ensures.versions, c.install_write.ensures.room) s.2;
      goes = ap (all_installed c.args.index rest) c.install_write.ensures.versions
          ∙ ap (λ ws. all_installed c.args.index ws c.writes.chains.versions) (sym now) ∙ c.writes.invariant.goes;
      cap = c.install_write.ensures.cap ∙ c.writes.invariant.cap;
    }
