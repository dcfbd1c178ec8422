use Rattle.std.proofs.Common.{◌≡◌, ◌++◌, drop}
use Rattle.cobol_print.specs.units.Division.{paragraphs_units}
use Rattle.cobol_print.proofs.units.unit.Units.paragraphs.Given as goal

abbrev pub invariant-loop-paragraph : goal.invariant-loop-paragraph
invariant-loop-paragraph l =
    l.self ++ paragraphs_units l.program (drop l.paragraph-index l.paragraphs)
    ≡ l.initial.self ++ paragraphs_units l.program l.paragraphs
