use Rattle.std.proofs.Common.{◌≡◌, ◌<◌, ◌^◌, length, drop}
use Rattle.ref_format.specs.LineRuns.{lines_in}
use Rattle.ref_format.proofs.line_runs.lines_behind.Given as goal

abbrev pub invariant-loop-rest : goal.invariant-loop-rest
invariant-loop-rest l = record {
  bound : length (lines_in l.rest) < 2 ^ 63;
  same : drop l.left (lines_in l.rest) ≡ drop l.passed (lines_in l.runs);
}

abbrev pub decreases-loop-rest : goal.decreases-loop-rest
decreases-loop-rest l = length l.rest
