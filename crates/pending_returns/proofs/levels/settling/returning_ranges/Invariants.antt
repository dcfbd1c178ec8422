use Rattle.std.proofs.Common.{Bool, ◌≡◌, ◌-◌, ℕ, length}
use Rattle.control_flow_theory.specs.language.Language.{Chooser, Program}
use Rattle.program_points.specs.paths.Step.{Point}
use Rattle.program_points.specs.point_table.Table.{IsTable, IsSound}
use Rattle.pending_returns.specs.levels.Reach.{IsMarked, trues}
use Rattle.pending_returns.proofs.levels.settling.returning_ranges.Given as goal

abbrev pub invariant-rounds : goal.invariant-rounds
invariant-rounds l = record {
  marked : IsMarked l.reach.places.items l.reach.marks.items;
  places : length l.reach.marks.items ≡ length l.table.places;
  size : length l.returns.items ≡ length l.table.ranges;
  sound : (never_first : Chooser → Bool) (program : Program) (points : ℕ → Point) → IsTable never_first program l.table points → IsSound never_first program l.table l.returns.items;
}

abbrev pub decreases-rounds : goal.decreases-rounds
decreases-rounds l = length l.returns.items - trues l.returns.items
