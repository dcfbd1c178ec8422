use Rattle.std.proofs.Common.{take}
use Rattle.branch_tree.specs.Tree.{seen_trees}
use Rattle.region_rewrite.specs.Candidates.{ArmTargetsIn, Grows}
use Rattle.region_rewrite.proofs.candidates.+targets.Given as goal

abbrev pub invariant-put_arm_targets-loop-arm : goal.invariant-put_arm_targets-loop-arm
invariant-put_arm_targets-loop-arm l = record {
  grows : Grows l.fn.labels l.labels;
  targets : ArmTargetsIn (seen_trees (take l.arm-index l.arms)) l.labels;
}
