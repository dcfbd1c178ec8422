use Rattle.std.proofs.Common.{◌≡◌, ◌++◌, drop, map}
use Rattle.program_points.specs.perform_ranges.Named.{joined, named_sentence}
use Rattle.program_points.proofs.perform_ranges.named.named_paragraph.Given as goal

abbrev pub invariant-loop-sentence : goal.invariant-loop-sentence
invariant-loop-sentence l = l.found.items ++ joined (map named_sentence (drop l.sentence-index l.sentence-items)) ≡ l.fn.found.items ++ joined (map named_sentence l.sentence-items)
