use Rattle.std.proofs.Common.{◌≤◌, length, arith}
use Rattle.region_rewrite.proofs.SetRows.{arms_none, arms_one_more, arms_all, grows_same}
use Rattle.region_rewrite.proofs.candidates.+targets.Goals as goal

pub put_arm_targets-loop-arm-init : goal.put_arm_targets-loop-arm-init
put_arm_targets-loop-arm-init t c = record {
  grows = grows_same c.args.labels.now;
  targets = arms_none c.args.arms.now c.args.labels.now;
}

pub put_arm_targets-loop-arm-preserved : goal.put_arm_targets-loop-arm-preserved
put_arm_targets-loop-arm-preserved t c = record {
  grows = λ l h. c.in_ok-put_targets.ensures.grows l (c.loop-arm.invariant.grows l h);
  targets = arms_one_more c.args.arms.now c.loop-arm.arm-index c.arm-item.result c.loop-arm.labels c.put_targets.new.labels
      c.loop-arm-test.true c.arm-item.is c.loop-arm.invariant.targets c.in_ok-put_targets.ensures.grows c.in_ok-put_targets.ensures.targets;
}

pub put_arm_targets-returns-clause-grows : goal.put_arm_targets-returns-clause-grows
put_arm_targets-returns-clause-grows t c = c.loop-arm.invariant.grows

pub put_arm_targets-returns-clause-targets : goal.put_arm_targets-returns-clause-targets
put_arm_targets-returns-clause-targets t c =
    let past : length c.args.arms.now ≤ c.loop-arm.arm-index = omega (arith, c.loop-arm-test.false) in
    arms_all c.args.arms.now c.loop-arm.arm-index c.loop-arm.labels past c.loop-arm.invariant.targets
