use Rattle.std.proofs.Common.{◌≤◌, length}
use Rattle.overlap_trail.proofs.finding_lemmas.Chaining.{CutSoFar}
use Rattle.overlap_trail.proofs.finding.chain.cut.Given as goal

abbrev pub invariant-loop-at : goal.invariant-loop-at
invariant-loop-at l = record {
  so_far : CutSoFar l.levels l.path l.at l.ranges.items;
  within : l.at ≤ length l.path;
}
