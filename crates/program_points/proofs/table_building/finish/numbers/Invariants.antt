use Rattle.program_points.specs.table_building.Numbering.{Counts}
use Rattle.program_points.proofs.table_building.finish.numbers.Given as goal

abbrev pub invariant-loop-number : goal.invariant-loop-number
invariant-loop-number l = Counts l.number l.starts
