use Rattle.std.proofs.Common.{◌≡◌, ◌∷◌, Some, slice_get}
use Rattle.program_points.specs.perform_ranges.Named.{main_range}
use Rattle.program_points.proofs.perform_ranges_lemmas.Ordered.{IsRisingSoFar}
use Rattle.program_points.proofs.perform_ranges.rising.rising_of.Given as goal

abbrev pub invariant-loop-range : goal.invariant-loop-range
invariant-loop-range l = record {
  so : IsRisingSoFar l.sorted l.range-index l.ranges.items l.last;
  last : slice_get (main_range ∷ l.sorted) l.range-index ≡ Some l.last;
}
