use Rattle.std.proofs.Common.{rules, refl, arith, ◌≡◌, ◌+◌, ◌<◌, ◌≤◌, ap, length, reverse, get_or}
use Rattle.r3_desk.proofs.Replay.{Next, next_step, bytes_of, can_follow, replay_from, replay_to}
use Rattle.r3_desk.specs.declared.step.Step.TheVariants.{Idle}
use Rattle.r3_desk.proofs.crash.image_left.Goals as goal

pub loop-i-init : goal.loop-i-init
loop-i-init c =
    let image : c.in_ok-image.image.items ≡ c.args.first.now = search rules in
    let left : c.in_ok-left.left.items ≡ c.args.first.now = search rules in
    replay_from c.args.first.now (reverse c.args.steps.now) c.args.written.now c.args.torn _ _ c.requires.fitting image left

pub overflow_add-bytes : goal.overflow_add-bytes
overflow_add-bytes c =
    let i_lt : c.loop-i.i < length c.args.steps.now = omega (arith, c.requires.made) in
    let n = next_step c.args.steps.now c.args.written.now c.loop-i.i i_lt in
    let y = bytes_of c.args.first.now (reverse c.args.steps.now) c.args.written.now c.loop-i.i c.args.torn _ _ c.loop-i.from _ c.requires.fitting n c.loop-i.invariant in
    let within : c.loop-i.from + c.write_len.result ≤ length c.args.written.now = omega (arith, y.within, c.write_len.ensures) in
    search rules

pub slice_bounds-bytes-end : goal.slice_bounds-bytes-end
slice_bounds-bytes-end c =
    let i_lt : c.loop-i.i < length c.args.steps.now = omega (arith, c.requires.made) in
    let n = next_step c.args.steps.now c.args.written.now c.loop-i.i i_lt in
    let y = bytes_of c.args.first.now (reverse c.args.steps.now) c.args.written.now c.loop-i.i c.args.torn _ _ c.loop-i.from _ c.requires.fitting n c.loop-i.invariant in
    let within : c.loop-i.from + c.write_len.result ≤ length c.args.written.now = omega (arith, y.within, c.write_len.ensures) in
    search rules

pub step_over-requires : goal.step_over-requires
step_over-requires c =
    let i_lt : c.loop-i.i < length c.args.steps.now = omega (arith, c.requires.made) in
    let n = next_step c.args.steps.now c.args.written.now c.loop-i.i i_lt in
    can_follow c.args.first.now (reverse c.args.steps.now) c.args.written.now c.loop-i.i c.args.torn _ _ c.loop-i.from _ c.requires.fitting n c.loop-i.invariant

pub loop-i-preserved : goal.loop-i-preserved
loop-i-preserved c =
    let i_lt : c.loop-i.i < length c.args.steps.now = omega (arith, c.requires.made) in
    let n = next_step c.args.steps.now c.args.written.now c.loop-i.i i_lt in
    replay_to c.args.first.now (reverse c.args.steps.now) c.args.written.now c.loop-i.i c.args.torn _ _ c.loop-i.from _ c.requires.fitting n c.loop-i.invariant c.write_len.result _ _ _ c.write_len.ensures refl c.in_ok-step_over.ensures.image c.in_ok-step_over.ensures.left
