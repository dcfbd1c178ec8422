use Rattle.std.proofs.Common.{◌≡◌, ◌+◌, drop}
use Rattle.control_flow_theory.specs.language.Control.{section_last}
use Rattle.lowering_labels.proofs.points.fall_through.section_last.Given as goal

abbrev pub invariant-loop-paragraph : goal.invariant-loop-paragraph
invariant-loop-paragraph l =
    (l.last ≡ l.number + l.paragraph-index)
    × (section_last l.last (drop l.paragraph-index l.behind) ≡ section_last l.number l.behind)
