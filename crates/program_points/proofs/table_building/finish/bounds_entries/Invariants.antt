use Rattle.program_points.proofs.table_building_lemmas.Tables.{BoundsFirst}
use Rattle.program_points.proofs.table_building.finish.bounds_entries.Given as goal

abbrev pub invariant-loop-range : goal.invariant-loop-range
invariant-loop-range l = BoundsFirst l.count l.range-index l.ranges
