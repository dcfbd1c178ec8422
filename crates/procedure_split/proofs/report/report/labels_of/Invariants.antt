use Rattle.std.proofs.Common.{◌≡◌, ◌++◌, drop, map}
use Rattle.out_names.specs.Naming.{paragraph_label}
use Rattle.procedure_split.proofs.report.report.labels_of.Given as goal

abbrev pub invariant-loop-number : goal.invariant-loop-number
invariant-loop-number l =
    l.labels ++ map (paragraph_label l.paragraphs) (drop l.number-index l.numbers)
    ≡ map (paragraph_label l.paragraphs) l.numbers
