use Rattle.std.proofs.Common.{◌≡◌, length}
use Rattle.cob_store.specs.Laying.{groups_of}
use Rattle.cob_store.proofs.laying.close_groups.Given as goal

abbrev pub invariant-loop-group : goal.invariant-loop-group
invariant-loop-group l = groups_of l.depth l.groups ≡ groups_of l.depth l.initial.groups

abbrev pub decreases-loop-group : goal.decreases-loop-group
decreases-loop-group l = length l.groups
