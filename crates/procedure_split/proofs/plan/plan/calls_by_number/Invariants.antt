use Rattle.std.proofs.Common.{◌≡◌, ◌++◌, drop}
use Rattle.procedure_split.specs.plan.Planned.{calls_of}
use Rattle.procedure_split.proofs.plan.plan.calls_by_number.Given as goal

abbrev pub invariant-loop-at : goal.invariant-loop-at
invariant-loop-at l = l.calls ++ calls_of (drop l.at l.ranges) ≡ calls_of l.ranges
