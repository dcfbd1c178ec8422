use Rattle.program_points.specs.table_building.Numbering.{Extends}
use Rattle.program_points.proofs.table_building.paragraph.own.Given as goal

abbrev pub invariant-loop-place : goal.invariant-loop-place
invariant-loop-place l = Extends l.fn.owners.items l.owners.items l.place l.number
