use Rattle.std.proofs.Common.{◌≡◌, ◌++◌, drop}
use Rattle.std.specs.Prelude.{map}
use Rattle.procedure_split.specs.plan.Planned.{range_at}
use Rattle.procedure_split.proofs.plan.plan.ranges_by.Given as goal

abbrev pub invariant-loop-at : goal.invariant-loop-at
invariant-loop-at l = l.made ++ map (range_at l.ranges) (drop l.at l.numbers) ≡ map (range_at l.ranges) l.numbers
