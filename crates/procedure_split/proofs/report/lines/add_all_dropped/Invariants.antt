use Rattle.std.proofs.Common.{◌≡◌, ◌++◌, drop}
use Rattle.procedure_split.specs.report.Lines.{dropped_lines}
use Rattle.procedure_split.proofs.report.lines.add_all_dropped.Given as goal

abbrev pub invariant-loop-label : goal.invariant-loop-label
invariant-loop-label l =
    l.text ++ dropped_lines (drop l.label-index l.labels) ≡ l.fn.text ++ dropped_lines l.labels
