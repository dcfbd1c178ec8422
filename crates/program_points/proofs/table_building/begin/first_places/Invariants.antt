use Rattle.std.proofs.Common.{◌≡◌, ◌+◌, length}
use Rattle.program_points.specs.declared.point_table.table.ProgramPoint.TheVariants.{Ends}
use Rattle.program_points.proofs.table_building_lemmas.Beginning.{Holding}
use Rattle.program_points.proofs.table_building.begin.first_places.Given as goal

abbrev pub invariant-loop-start : goal.invariant-loop-start
invariant-loop-start l = length l.places.items ≡ l.start

abbrev pub invariant-loop-number : goal.invariant-loop-number
invariant-loop-number l = record {
  size : length l.places.items ≡ l.count + l.number;
  ends : Holding Ends l.count l.number l.places.items;
}
