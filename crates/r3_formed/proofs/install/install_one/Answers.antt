use Rattle.std.proofs.Common.{ap, ◌∙◌, sym, subst}
use Rattle.std.specs.Prelude.{IsTrue}
use Rattle.std.specs.FinMap.{IsAntisymmetric}
use Rattle.std.specs.declared.cmp.Ordering.{Ordering}
use Rattle.r3_rows.specs.declared.rows.Key.{Key}
use Rattle.r3_chain.specs.Versions.{has_room, without, installed, IsNext}
use Rattle.r3_snap.specs.DerivedOrder.{same_cmp}
use Rattle.r3_rows.specs.KeyOrder.{key_cmp-same}
use Rattle.r3_formed.proofs.install.install_one.Goals as goal

pub install-requires : goal.install-requires
install-requires c = record {
  exact = subst (λ (R : Key → Key → Ordering). IsAntisymmetric R) (sym same_cmp) key_cmp-same;
  room = subst (λ (R : Key → Key → Ordering). IsTrue (has_room R c.args.key.now c.args.chains.now.room)) (sym same_cmp) c.requires.room;
  next = subst (λ (R : Key → Key → Ordering). IsNext R c.args.index c.args.key.now c.args.chains.now.versions) (sym same_cmp) c.requires.next;
}

pub returns : goal.returns
returns c = record {
  versions = c.install.ensures.versions ∙ ap (λ (R : Key → Key → Ordering). installed R c.args.index c.args.key.now c.args.value c.args.chains.now.versions) same_cmp;
  room = c.install.ensures.room ∙ ap (λ (R : Key → Key → Ordering). without R c.args.key.now c.args.chains.now.room) same_cmp;
  cap = c.install.ensures.cap;
}
