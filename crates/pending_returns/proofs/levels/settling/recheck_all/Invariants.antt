use Rattle.std.proofs.Common.{Bool, ◌≡◌, ◌<◌, ◌≤◌, ℕ, length, true, false, Some, slice_get}
use Rattle.cob_tree.specs.declared.program.Range.{Range}
use Rattle.control_flow_theory.specs.language.Language.{Chooser, Program}
use Rattle.program_points.specs.paths.Step.{Point}
use Rattle.program_points.specs.point_table.Table.{IsTable, IsSound, ReturnsHere}
use Rattle.pending_returns.specs.levels.Reach.{IsMarked, trues}
use Rattle.pending_returns.proofs.levels.settling.recheck_all.Given as goal

abbrev pub invariant-loop-number : goal.invariant-loop-number
invariant-loop-number l = record {
  marked : IsMarked l.reach.places.items l.reach.marks.items;
  places : length l.reach.marks.items ≡ length l.table.places;
  size : length l.returns.items ≡ length l.table.ranges;
  sound : (never_first : Chooser → Bool) (program : Program) (points : ℕ → Point) → IsTable never_first program l.table points → IsSound never_first program l.table l.fn.returns.items → IsSound never_first program l.table l.returns.items;
  grown : trues l.fn.returns.items ≤ trues l.returns.items;
  more : l.more ≡ true → trues l.fn.returns.items < trues l.returns.items;
  closed : l.more ≡ false → (number : ℕ) (range : Range) → number < l.number → slice_get l.table.ranges number ≡ Some range → ReturnsHere l.table l.returns.items range → slice_get l.returns.items number ≡ Some true;
}
