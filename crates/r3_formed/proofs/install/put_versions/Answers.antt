use Rattle.std.proofs.Common.{◌≡◌, ap, ◌∙◌, sym, subst}
use Rattle.r3_rows.specs.Keys.{key_cmp}
use Rattle.r3_chain.specs.Versions.{key_set}
use Rattle.r3_snap.specs.Conflicts.{keys_of}
use Rattle.r3_formed.specs.Past.{StandFor}
use Rattle.r3_formed.proofs.Ready.{ready}
use Rattle.r3_formed.proofs.install.put_versions.Goals as goal

pub install_all-requires : goal.install_all-requires
install_all-requires c =
    let room : c.make_room.new.chains.room ≡ key_set key_cmp (keys_of c.in_ok-copy.copy) =
    c.in_ok-make_room.ensures.room ∙ ap (key_set key_cmp) (c.into_keys.ensures ∙ c.in_ok-keys.ensures ∙ ap keys_of (sym c.in_ok-copy.ensures)) in
    rw c.into_list.ensures.items
    (ready c.make_room.new.chains.versions c.requires.stands.0 0 c.args.index c.make_room.new.chains.room c.in_ok-copy.copy
    (subst (λ es. StandFor es c.requires.stands.0 0) (sym c.make_room.ensures.versions) c.requires.stands.2) c.requires.stands.1 room c.into_list.ensures.sorted)
