use Rattle.std.proofs.Common.{◌≡◌, ◌++◌, drop}
use Rattle.program_points.specs.perform_ranges.Named.{named_paragraphs}
use Rattle.program_points.proofs.perform_ranges.named.named_paragraphs.Given as goal

abbrev pub invariant-loop-paragraph : goal.invariant-loop-paragraph
invariant-loop-paragraph l = l.found.items ++ named_paragraphs (drop l.paragraph-index l.paragraphs) ≡ l.fn.found.items ++ named_paragraphs l.paragraphs
