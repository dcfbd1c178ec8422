use Rattle.std.proofs.Common.{◌≡◌, ℕ, map, take, Some}
use Rattle.program_points.specs.point_table.Table.{AllBelow}
use Rattle.program_points.proofs.numbering.build.Builder.build_depending.Given as goal

abbrev pub invariant-loop-name : goal.invariant-loop-name
invariant-loop-name l = record {
  told : l.ways ≡ map (λ (n : ℕ). Some n) (take l.name-index l.names);
  below : AllBelow l.self.count l.ways;
}
