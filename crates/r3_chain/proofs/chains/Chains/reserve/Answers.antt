use Rattle.std.proofs.Common.{◌≡◌, ◌<◌, ◌+◌, ◌≤◌, [], length, max, arith, refl, sym, ap, ◌∙◌, fold}
use Rattle.std.specs.Prelude.{vec_len, vec_capacity}
use Rattle.std.specs.BTreeSet.{insert_key}
use Rattle.r3_pool.specs.Slots.{live_count, with_spare}
use Rattle.r3_chain.specs.Versions.{kept_count, key_set}
use Rattle.r3_chain.specs.Links.{chain_in}
use Rattle.r3_chain.specs.Heads.{all_roomed, kept_by}
use Rattle.r3_chain.specs.Sound.{IsSound, room_count}
use Rattle.r3_chain.proofs.PutLemmas.{inserted_again}
use Rattle.r3_chain.proofs.RoomLemmas.{sound_all, kept_all, room_all, count_all, keys_all, none_yet, later_round, next_round, more_spare, view_same, on_ok}
use Rattle.r3_chain.proofs.WholeLemmas.{whole_spare, whole_rooms}
use Rattle.r3_chain.proofs.chains.Chains.reserve.Goals as goal

pub returns-then-count-self-clause-full : goal.returns-then-count-self-clause-full
returns-then-count-self-clause-full g c =
    let kept : kept_count c.args.self.now.versions ≡ live_count c.self.inside.nodes = rw (← c.self.view_is) c.self.invariant.sound.count in
    let top : c.args.self.now.cap ≡ c.self.inside.cap = rw (← c.self.view_is) refl in
    let limit : c.self.inside.nodes.cap ≡ c.self.inside.cap = c.self.invariant.sound.limit in
    let wanted : length (key_set g.K.Ord.cmp c.args.keys.items) ≡ length c.in-Ok.keys.keys = ap length (sym c.in-Ok.ensures) in
    let counted : c.len-count.result ≡ length c.in-Ok.keys.keys = c.len-count.ensures.len in
    let over : c.self.inside.cap < c.len-count.result = c.if-count-self.true in
    λ _. omega arith

pub invariant_of-self : goal.invariant_of-self
invariant_of-self g c = rw c.in-Err.ensures.err c.self.invariant

pub returns-in-Err-clause-full : goal.returns-in-Err-clause-full
returns-in-Err-clause-full g c =
    let kept : kept_count c.args.self.now.versions ≡ live_count c.self.inside.nodes = rw (← c.self.view_is) c.self.invariant.sound.count in
    let top : c.args.self.now.cap ≡ c.self.inside.cap = rw (← c.self.view_is) refl in
    let limit : c.self.inside.nodes.cap ≡ c.self.inside.cap = c.self.invariant.sound.limit in
    let wanted : length (key_set g.K.Ord.cmp c.args.keys.items) ≡ length c.in-Ok.keys.keys = ap length (sym c.in-Ok.ensures) in
    let counted : c.len-count.result ≡ length c.in-Ok.keys.keys = c.len-count.ensures.len in
    λ e. let over : c.self.inside.nodes.cap < live_count c.self.inside.nodes + c.len-count.result = c.in-Err.ensures.full.0 e in omega arith

pub invariant_of-self-then-is_err : goal.invariant_of-self-then-is_err
invariant_of-self-then-is_err g c =
    let roomy : c.reserve.new.self ≡ with_spare c.self.inside.nodes (max c.self.inside.nodes.spare c.len-count.result) = c.in-Ok-reserve.ensures.ok in
    whole_spare g.K.Ord.cmp g.met.K.Ord.total c.self.inside.heads.entries c.self.inside.nodes c.reserve.new.self c.self.inside.cap c.self.inside.round c.self.inside.last c.len-count.result c.self.inside.long.items c.reserve-2.new.self.items (vec_capacity c.self.inside.long) (vec_capacity c.reserve-2.new.self) c.self.invariant roomy c.reserve-2.ensures.items c.reserve-2.ensures.capacity

pub returns-then-is_err-clause-same : goal.returns-then-is_err-clause-same
returns-then-is_err-clause-same g c =
    let roomy : c.reserve.new.self ≡ with_spare c.self.inside.nodes (max c.self.inside.nodes.spare c.len-count.result) = c.in-Ok-reserve.ensures.ok in
    let same : kept_by (chain_in c.reserve.new.self) c.self.inside.heads.entries ≡ kept_by (chain_in c.self.inside.nodes) c.self.inside.heads.entries = rw roomy refl in
    rw (← c.self.view_is) (same, refl)

pub returns-then-is_err-clause-err : goal.returns-then-is_err-clause-err
returns-then-is_err-clause-err g c =
    let roomy : c.reserve.new.self ≡ with_spare c.self.inside.nodes (max c.self.inside.nodes.spare c.len-count.result) = c.in-Ok-reserve.ensures.ok in
    let same : kept_by (chain_in c.reserve.new.self) c.self.inside.heads.entries ≡ kept_by (chain_in c.self.inside.nodes) c.self.inside.heads.entries = rw roomy refl in
    rw (← c.self.view_is) (view_same _ _ _ _ c.self.inside.cap same refl)

pub invariant_of-self-then-self : goal.invariant_of-self-then-self
invariant_of-self-then-self g c =
    let roomy : c.reserve.new.self ≡ with_spare c.self.inside.nodes (max c.self.inside.nodes.spare c.len-count.result) = c.in-Ok-reserve.ensures.ok in
    whole_spare g.K.Ord.cmp g.met.K.Ord.total c.self.inside.heads.entries c.self.inside.nodes c.reserve.new.self c.self.inside.cap c.self.inside.round c.self.inside.last c.len-count.result c.self.inside.long.items c.reserve-2.new.self.items (vec_capacity c.self.inside.long) (vec_capacity c.reserve-2.new.self) c.self.invariant roomy c.reserve-2.ensures.items c.reserve-2.ensures.capacity

pub returns-then-self-clause-same : goal.returns-then-self-clause-same
returns-then-self-clause-same g c =
    let roomy : c.reserve.new.self ≡ with_spare c.self.inside.nodes (max c.self.inside.nodes.spare c.len-count.result) = c.in-Ok-reserve.ensures.ok in
    let same : kept_by (chain_in c.reserve.new.self) c.self.inside.heads.entries ≡ kept_by (chain_in c.self.inside.nodes) c.self.inside.heads.entries = rw roomy refl in
    rw (← c.self.view_is) (same, refl)

pub returns-then-self-clause-err : goal.returns-then-self-clause-err
returns-then-self-clause-err g c =
    let roomy : c.reserve.new.self ≡ with_spare c.self.inside.nodes (max c.self.inside.nodes.spare c.len-count.result) = c.in-Ok-reserve.ensures.ok in
    let same : kept_by (chain_in c.reserve.new.self) c.self.inside.heads.entries ≡ kept_by (chain_in c.self.inside.nodes) c.self.inside.heads.entries = rw roomy refl in
    rw (← c.self.view_is) (view_same _ _ _ _ c.self.inside.cap same refl)

pub invariant_of-self-then-is_err-2 : goal.invariant_of-self-then-is_err-2
invariant_of-self-then-is_err-2 g c =
    let roomy : c.reserve.new.self ≡ with_spare c.self.inside.nodes (max c.self.inside.nodes.spare c.len-count.result) = c.in-Ok-reserve.ensures.ok in
    rw c.give_rooms.ensures.some.1
    (whole_rooms g.K.Ord.cmp g.met.K.Ord.total c.self.inside.heads.entries c.reserve.new.self c.self.inside.cap c.self.inside.round c.self.inside.last c.give_rooms.ensures.some.0 c.reserve-2.new.self.items (vec_capacity c.reserve-2.new.self) (whole_spare g.K.Ord.cmp g.met.K.Ord.total c.self.inside.heads.entries c.self.inside.nodes c.reserve.new.self c.self.inside.cap c.self.inside.round c.self.inside.last c.len-count.result c.self.inside.long.items c.reserve-2.new.self.items (vec_capacity c.self.inside.long) (vec_capacity c.reserve-2.new.self) c.self.invariant roomy c.reserve-2.ensures.items c.reserve-2.ensures.capacity))

pub returns-then-is_err-2-clause-same : goal.returns-then-is_err-2-clause-same
returns-then-is_err-2-clause-same g c =
    let roomy : c.reserve.new.self ≡ with_spare c.self.inside.nodes (max c.self.inside.nodes.spare c.len-count.result) = c.in-Ok-reserve.ensures.ok in
    let base : IsSound g.K.Ord.cmp c.self.inside.heads.entries c.reserve.new.self c.self.inside.cap c.self.inside.round c.self.inside.last =
    rw roomy (more_spare g.K.Ord.cmp g.met.K.Ord.total c.self.inside.nodes c.self.inside.cap c.self.inside.round c.self.inside.last (max c.self.inside.nodes.spare c.len-count.result) c.self.inside.heads.entries (omega arith) c.self.invariant.sound) in
    let later : IsSound g.K.Ord.cmp c.self.inside.heads.entries c.reserve.new.self c.self.inside.cap c.self.inside.round (c.self.inside.last + 1) = later_round g.K.Ord.cmp g.met.K.Ord.total c.reserve.new.self c.self.inside.cap c.self.inside.round c.self.inside.last c.self.inside.heads.entries base in
    let within : c.self.inside.round ≤ c.self.inside.last = c.self.invariant.sound.rounds in
    let lt : c.self.inside.round < c.self.inside.last + 1 = omega arith in
    let le : c.self.inside.last + 1 ≤ c.self.inside.last + 1 = omega arith in
    let same : kept_by (chain_in c.reserve.new.self) c.self.inside.heads.entries ≡ kept_by (chain_in c.self.inside.nodes) c.self.inside.heads.entries = rw roomy refl in
    rw (c.give_rooms.ensures.some.1, ← c.self.view_is) (kept_all g.K.Ord.cmp g.met.K.Ord.total c.reserve.new.self c.self.inside.cap c.self.inside.round (c.self.inside.last + 1) (c.self.inside.last + 1) c.give_rooms.ensures.some.0 c.self.inside.heads.entries lt le later ∙ same, refl)

pub returns-then-is_err-2-clause-err : goal.returns-then-is_err-2-clause-err
returns-then-is_err-2-clause-err g c =
    let roomy : c.reserve.new.self ≡ with_spare c.self.inside.nodes (max c.self.inside.nodes.spare c.len-count.result) = c.in-Ok-reserve.ensures.ok in
    let base : IsSound g.K.Ord.cmp c.self.inside.heads.entries c.reserve.new.self c.self.inside.cap c.self.inside.round c.self.inside.last =
    rw roomy (more_spare g.K.Ord.cmp g.met.K.Ord.total c.self.inside.nodes c.self.inside.cap c.self.inside.round c.self.inside.last (max c.self.inside.nodes.spare c.len-count.result) c.self.inside.heads.entries (omega arith) c.self.invariant.sound) in
    let later : IsSound g.K.Ord.cmp c.self.inside.heads.entries c.reserve.new.self c.self.inside.cap c.self.inside.round (c.self.inside.last + 1) = later_round g.K.Ord.cmp g.met.K.Ord.total c.reserve.new.self c.self.inside.cap c.self.inside.round c.self.inside.last c.self.inside.heads.entries base in
    let within : c.self.inside.round ≤ c.self.inside.last = c.self.invariant.sound.rounds in
    let lt : c.self.inside.round < c.self.inside.last + 1 = omega arith in
    let le : c.self.inside.last + 1 ≤ c.self.inside.last + 1 = omega arith in
    let same : kept_by (chain_in c.reserve.new.self) c.self.inside.heads.entries ≡ kept_by (chain_in c.self.inside.nodes) c.self.inside.heads.entries = rw roomy refl in
    rw (c.give_rooms.ensures.some.1, ← c.self.view_is)
    (view_same _ _ _ _ c.self.inside.cap (kept_all g.K.Ord.cmp g.met.K.Ord.total c.reserve.new.self c.self.inside.cap c.self.inside.round (c.self.inside.last + 1) (c.self.inside.last + 1) c.give_rooms.ensures.some.0 c.self.inside.heads.entries lt le later ∙ same) (room_all g.K.Ord.cmp g.met.K.Ord.total c.reserve.new.self c.self.inside.cap c.self.inside.round (c.self.inside.last + 1) (c.self.inside.last + 1) c.give_rooms.ensures.some.0 c.self.inside.heads.entries lt le later))

pub invariant_of-self-2 : goal.invariant_of-self-2
invariant_of-self-2 g c =
    let roomy : c.reserve.new.self ≡ with_spare c.self.inside.nodes (max c.self.inside.nodes.spare c.len-count.result) = c.in-Ok-reserve.ensures.ok in
    let base : IsSound g.K.Ord.cmp c.self.inside.heads.entries c.reserve.new.self c.self.inside.cap c.self.inside.round c.self.inside.last =
    rw roomy (more_spare g.K.Ord.cmp g.met.K.Ord.total c.self.inside.nodes c.self.inside.cap c.self.inside.round c.self.inside.last (max c.self.inside.nodes.spare c.len-count.result) c.self.inside.heads.entries (omega arith) c.self.invariant.sound) in
    let later : IsSound g.K.Ord.cmp c.self.inside.heads.entries c.reserve.new.self c.self.inside.cap c.self.inside.round (c.self.inside.last + 1) = later_round g.K.Ord.cmp g.met.K.Ord.total c.reserve.new.self c.self.inside.cap c.self.inside.round c.self.inside.last c.self.inside.heads.entries base in
    let within : c.self.inside.round ≤ c.self.inside.last = c.self.invariant.sound.rounds in
    let lt : c.self.inside.round < c.self.inside.last + 1 = omega arith in
    let le : c.self.inside.last + 1 ≤ c.self.inside.last + 1 = omega arith in
    let same : kept_by (chain_in c.reserve.new.self) c.self.inside.heads.entries ≡ kept_by (chain_in c.self.inside.nodes) c.self.inside.heads.entries = rw roomy refl in
    let made : c.give_rooms.new.heads.entries ≡ all_roomed g.K.Ord.cmp c.self.inside.round (c.self.inside.last + 1) c.in-Ok.keys.keys c.self.inside.heads.entries =
    on_ok c.give_rooms.result _ (sym c.is_err-2.ensures.value ∙ c.if-is_err-2.false) c.give_rooms.ensures.ok in
    let none = none_yet g.K.Ord.cmp g.met.K.Ord.total c.reserve.new.self (c.self.inside.last + 1) c.self.inside.last c.self.inside.heads.entries base.heads (omega arith) in
    let counted : c.len-count.result ≡ length c.in-Ok.keys.keys = c.len-count.ensures.len in
    let spare : c.reserve.new.self.spare ≡ max c.self.inside.nodes.spare c.len-count.result = ap (λ p. p.spare) roomy in
    let most : room_count (c.self.inside.last + 1) (all_roomed g.K.Ord.cmp c.self.inside.round (c.self.inside.last + 1) c.in-Ok.keys.keys c.self.inside.heads.entries) ≤ room_count (c.self.inside.last + 1) c.self.inside.heads.entries + length c.in-Ok.keys.keys =
    count_all g.K.Ord.cmp g.met.K.Ord.total c.reserve.new.self c.self.inside.cap c.self.inside.round (c.self.inside.last + 1) (c.self.inside.last + 1) c.in-Ok.keys.keys c.self.inside.heads.entries lt le later in
    let zero : room_count (c.self.inside.last + 1) c.self.inside.heads.entries ≡ 0 = none.1 in
    let whole = whole_rooms g.K.Ord.cmp g.met.K.Ord.total c.self.inside.heads.entries c.reserve.new.self c.self.inside.cap c.self.inside.round c.self.inside.last c.in-Ok.keys.keys c.reserve-2.new.self.items (vec_capacity c.reserve-2.new.self) (whole_spare g.K.Ord.cmp g.met.K.Ord.total c.self.inside.heads.entries c.self.inside.nodes c.reserve.new.self c.self.inside.cap c.self.inside.round c.self.inside.last c.len-count.result c.self.inside.long.items c.reserve-2.new.self.items (vec_capacity c.self.inside.long) (vec_capacity c.reserve-2.new.self) c.self.invariant roomy c.reserve-2.ensures.items c.reserve-2.ensures.capacity) in
    let free : vec_len c.reserve-2.new.self + c.len-count.result ≤ vec_capacity c.reserve-2.new.self = on_ok c.reserve-2.result _ (sym c.is_err.ensures.value ∙ c.if-is_err.false) c.reserve-2.ensures.ok in
    rw made (record {
      sound = (next_round g.K.Ord.cmp g.met.K.Ord.total c.reserve.new.self c.self.inside.cap c.self.inside.round (c.self.inside.last + 1) (all_roomed g.K.Ord.cmp c.self.inside.round (c.self.inside.last + 1) c.in-Ok.keys.keys c.self.inside.heads.entries) (omega arith) (omega arith)
          (sound_all g.K.Ord.cmp g.met.K.Ord.total c.reserve.new.self c.self.inside.cap c.self.inside.round (c.self.inside.last + 1) (c.self.inside.last + 1) c.in-Ok.keys.keys c.self.inside.heads.entries lt le later));
      long = whole.long;
      fits = omega arith;
    })

pub returns-clause-ok : goal.returns-clause-ok
returns-clause-ok g c =
    let roomy : c.reserve.new.self ≡ with_spare c.self.inside.nodes (max c.self.inside.nodes.spare c.len-count.result) = c.in-Ok-reserve.ensures.ok in
    let base : IsSound g.K.Ord.cmp c.self.inside.heads.entries c.reserve.new.self c.self.inside.cap c.self.inside.round c.self.inside.last =
    rw roomy (more_spare g.K.Ord.cmp g.met.K.Ord.total c.self.inside.nodes c.self.inside.cap c.self.inside.round c.self.inside.last (max c.self.inside.nodes.spare c.len-count.result) c.self.inside.heads.entries (omega arith) c.self.invariant.sound) in
    let later : IsSound g.K.Ord.cmp c.self.inside.heads.entries c.reserve.new.self c.self.inside.cap c.self.inside.round (c.self.inside.last + 1) = later_round g.K.Ord.cmp g.met.K.Ord.total c.reserve.new.self c.self.inside.cap c.self.inside.round c.self.inside.last c.self.inside.heads.entries base in
    let within : c.self.inside.round ≤ c.self.inside.last = c.self.invariant.sound.rounds in
    let lt : c.self.inside.round < c.self.inside.last + 1 = omega arith in
    let le : c.self.inside.last + 1 ≤ c.self.inside.last + 1 = omega arith in
    let same : kept_by (chain_in c.reserve.new.self) c.self.inside.heads.entries ≡ kept_by (chain_in c.self.inside.nodes) c.self.inside.heads.entries = rw roomy refl in
    let made : c.give_rooms.new.heads.entries ≡ all_roomed g.K.Ord.cmp c.self.inside.round (c.self.inside.last + 1) c.in-Ok.keys.keys c.self.inside.heads.entries =
    on_ok c.give_rooms.result _ (sym c.is_err-2.ensures.value ∙ c.if-is_err-2.false) c.give_rooms.ensures.ok in
    let none = none_yet g.K.Ord.cmp g.met.K.Ord.total c.reserve.new.self (c.self.inside.last + 1) c.self.inside.last c.self.inside.heads.entries base.heads (omega arith) in
    λ exact. rw (made, ← c.self.view_is)
    (view_same _ _ _ _ c.self.inside.cap (kept_all g.K.Ord.cmp g.met.K.Ord.total c.reserve.new.self c.self.inside.cap c.self.inside.round (c.self.inside.last + 1) (c.self.inside.last + 1) c.in-Ok.keys.keys c.self.inside.heads.entries lt le later ∙ same)
    (keys_all g.K.Ord.cmp g.met.K.Ord.total c.reserve.new.self exact c.self.inside.cap c.self.inside.round (c.self.inside.last + 1) (c.self.inside.last + 1) c.in-Ok.keys.keys c.self.inside.heads.entries lt le later
    ∙ ap (λ zs. fold (insert_key g.K.Ord.cmp) zs c.in-Ok.keys.keys) none.0
    ∙ inserted_again g.K.Ord.cmp g.met.K.Ord.total [] c.in-Ok.keys.keys c.len-count.ensures.ordered
    ∙ c.in-Ok.ensures))

pub returns-clause-same : goal.returns-clause-same
returns-clause-same g c =
    let roomy : c.reserve.new.self ≡ with_spare c.self.inside.nodes (max c.self.inside.nodes.spare c.len-count.result) = c.in-Ok-reserve.ensures.ok in
    let base : IsSound g.K.Ord.cmp c.self.inside.heads.entries c.reserve.new.self c.self.inside.cap c.self.inside.round c.self.inside.last =
    rw roomy (more_spare g.K.Ord.cmp g.met.K.Ord.total c.self.inside.nodes c.self.inside.cap c.self.inside.round c.self.inside.last (max c.self.inside.nodes.spare c.len-count.result) c.self.inside.heads.entries (omega arith) c.self.invariant.sound) in
    let later : IsSound g.K.Ord.cmp c.self.inside.heads.entries c.reserve.new.self c.self.inside.cap c.self.inside.round (c.self.inside.last + 1) = later_round g.K.Ord.cmp g.met.K.Ord.total c.reserve.new.self c.self.inside.cap c.self.inside.round c.self.inside.last c.self.inside.heads.entries base in
    let within : c.self.inside.round ≤ c.self.inside.last = c.self.invariant.sound.rounds in
    let lt : c.self.inside.round < c.self.inside.last + 1 = omega arith in
    let le : c.self.inside.last + 1 ≤ c.self.inside.last + 1 = omega arith in
    let same : kept_by (chain_in c.reserve.new.self) c.self.inside.heads.entries ≡ kept_by (chain_in c.self.inside.nodes) c.self.inside.heads.entries = rw roomy refl in
    let made : c.give_rooms.new.heads.entries ≡ all_roomed g.K.Ord.cmp c.self.inside.round (c.self.inside.last + 1) c.in-Ok.keys.keys c.self.inside.heads.entries =
    on_ok c.give_rooms.result _ (sym c.is_err-2.ensures.value ∙ c.if-is_err-2.false) c.give_rooms.ensures.ok in
    let none = none_yet g.K.Ord.cmp g.met.K.Ord.total c.reserve.new.self (c.self.inside.last + 1) c.self.inside.last c.self.inside.heads.entries base.heads (omega arith) in
    rw (made, ← c.self.view_is) (kept_all g.K.Ord.cmp g.met.K.Ord.total c.reserve.new.self c.self.inside.cap c.self.inside.round (c.self.inside.last + 1) (c.self.inside.last + 1) c.in-Ok.keys.keys c.self.inside.heads.entries lt le later ∙ same, refl)

pub returns-clause-fits : goal.returns-clause-fits
returns-clause-fits g c =
    let kept : kept_count c.args.self.now.versions ≡ live_count c.self.inside.nodes = rw (← c.self.view_is) c.self.invariant.sound.count in
    let top : c.args.self.now.cap ≡ c.self.inside.cap = rw (← c.self.view_is) refl in
    let limit : c.self.inside.nodes.cap ≡ c.self.inside.cap = c.self.invariant.sound.limit in
    let wanted : length (key_set g.K.Ord.cmp c.args.keys.items) ≡ length c.in-Ok.keys.keys = ap length (sym c.in-Ok.ensures) in
    let counted : c.len-count.result ≡ length c.in-Ok.keys.keys = c.len-count.ensures.len in
    let no : c.self.inside.nodes.cap < live_count c.self.inside.nodes + c.len-count.result → ⊥ = λ p. let wrong = c.in-Ok-reserve.ensures.full.1 p in cc in
    omega (arith, no)
