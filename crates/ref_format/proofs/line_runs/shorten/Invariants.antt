use Rattle.std.proofs.Common.{◌≡◌, length}
use Rattle.ref_format.specs.LineRuns.{lines_in}
use Rattle.ref_format.proofs.line_runs.shorten.Given as goal

abbrev pub invariant-loop-run : goal.invariant-loop-run
invariant-loop-run l = lines_in l.runs.items ≡ lines_in l.initial.runs.items

abbrev pub decreases-loop-run : goal.decreases-loop-run
decreases-loop-run l = length l.runs.items
