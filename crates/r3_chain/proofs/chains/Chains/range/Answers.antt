use Rattle.std.proofs.Common.{◌≡◌, ◌∷◌, ◌++◌, [], map, sym, ap, ◌∙◌, subst}
use Rattle.std.specs.List.{AllByRecursion}
use Rattle.std.specs.declared.cmp.Ordering.TheVariants.{Greater}
use Rattle.std.specs.Map.Iter.{deref_pair}
use Rattle.std.proofs.lemmas.Map.Iter.{iter_turn, iter_end}
use Rattle.r3_chain.specs.Versions.{present, last_upto as upto}
use Rattle.r3_chain.specs.Links.{chain_in}
use Rattle.r3_chain.specs.Sound.{IsHead}
use Rattle.r3_chain.proofs.RangeLemmas.{given, item_some, item_none, given_push, given_range, range_back, greater, map_push, nothing_after, all_filter, all_get}
use Rattle.r3_chain.proofs.chains.Chains.range.Goals as goal

pub returns-then-eq : goal.returns-then-eq
returns-then-eq g c =
    let back : g.K.Ord.cmp c.args.lo.now c.args.hi.now ≡ Greater = sym c.cmp.ensures ∙ greater c.cmp.result (sym c.eq.ensures ∙ c.if-eq.true) in
    ap (map (λ r. (r.0.now, r.1))) c.new-keys.ensures.items ∙ sym (range_back g.K.Ord.cmp c.args.index c.args.lo.now c.args.hi.now g.met.K.Ord.total back c.args.self.now.versions)

pub present_upto-requires : goal.present_upto-requires
present_upto-requires g c =
    let start : c.into_iter-key-iterator.result ≡ c.range-key-items.result = cc in
    let turn = iter_turn deref_pair c.range-key-items.result c.keys.yielded c.into_iter-key-iterator.result c.keys.key-iterator c.next.new.self c.next.result start c.keys.yielded_by
    (c.in-Some.key, c.in-Some.head) c.in-Some.is c.next.ensures.steps in
    let inside : AllByRecursion (λ e. IsHead c.self.inside.nodes c.self.inside.last e.1) c.range-key-items.result =
    subst (AllByRecursion (λ e. IsHead c.self.inside.nodes c.self.inside.last e.1)) (sym (c.range-key-items.ensures.between tt))
    (all_filter (λ e. IsHead c.self.inside.nodes c.self.inside.last e.1) _ c.self.inside.heads.entries c.self.invariant.sound.heads) in
    (all_get (λ e. IsHead c.self.inside.nodes c.self.inside.last e.1) c.range-key-items.result _ (c.in-Some.key.now, c.in-Some.head.now) inside turn.1).chain

pub keys-preserved-in-Continue-1 : goal.keys-preserved-in-Continue-1
keys-preserved-in-Continue-1 g c =
    let version = item_some (chain_in c.self.inside.nodes) c.args.index c.in-Some.key.now c.in-Some-present_upto.version (present (upto c.args.index (chain_in c.self.inside.nodes c.in-Some.head.now.newest)))
    (rw c.in-Some-present_upto.is at c.present_upto.ensures) in
    let more = given_push (chain_in c.self.inside.nodes) c.args.index (map deref_pair c.keys.yielded) (c.in-Some.key.now, c.in-Some.head.now) in
    ap (map (λ r. (r.0.now, r.1))) c.in_ok-push.ensures.items
    ∙ map_push (λ r. (r.0.now, r.1)) c.keys.keys.items (c.in-Some.key, c.in-Some-present_upto.version)
    ∙ ap (λ ks. ks ++ (c.in-Some.key.now, c.in-Some-present_upto.version) ∷ []) c.keys.invariant
    ∙ ap (λ ks. given (chain_in c.self.inside.nodes) c.args.index (map deref_pair c.keys.yielded) ++ ks) (sym version)
    ∙ sym more
    ∙ ap (given (chain_in c.self.inside.nodes) c.args.index) (sym (map_push deref_pair c.keys.yielded (c.in-Some.key, c.in-Some.head)))

pub keys-preserved : goal.keys-preserved
keys-preserved g c =
    let none = item_none (chain_in c.self.inside.nodes) c.args.index c.in-Some.key.now (present (upto c.args.index (chain_in c.self.inside.nodes c.in-Some.head.now.newest)))
    (rw c.in_default.is at c.present_upto.ensures) in
    let more = given_push (chain_in c.self.inside.nodes) c.args.index (map deref_pair c.keys.yielded) (c.in-Some.key.now, c.in-Some.head.now) in
    c.keys.invariant
    ∙ sym (nothing_after (given (chain_in c.self.inside.nodes) c.args.index (map deref_pair c.keys.yielded)))
    ∙ ap (λ ks. given (chain_in c.self.inside.nodes) c.args.index (map deref_pair c.keys.yielded) ++ ks) (sym none)
    ∙ sym more
    ∙ ap (given (chain_in c.self.inside.nodes) c.args.index) (sym (map_push deref_pair c.keys.yielded (c.in-Some.key, c.in-Some.head)))

pub returns : goal.returns
returns g c =
    let start : c.into_iter-key-iterator.result ≡ c.range-key-items.result = cc in
    let end = iter_end deref_pair c.range-key-items.result c.keys.yielded c.into_iter-key-iterator.result c.keys.key-iterator c.next.new.self c.next.result start c.keys.yielded_by c.in-None.is c.next.ensures.steps in
    rw (← c.self.view_is)
    (c.keys.invariant ∙ ap (given (chain_in c.self.inside.nodes) c.args.index) (end.0 ∙ c.range-key-items.ensures.between tt)
    ∙ given_range g.K.Ord.cmp (chain_in c.self.inside.nodes) c.args.index c.args.lo.now c.args.hi.now c.self.inside.heads.entries)
