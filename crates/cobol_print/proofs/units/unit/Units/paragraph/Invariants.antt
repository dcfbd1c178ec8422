use Rattle.std.proofs.Common.{◌≡◌, ◌++◌, drop}
use Rattle.std.specs.List.{flat_map}
use Rattle.cobol_print.specs.units.Division.{sentence_units}
use Rattle.cobol_print.proofs.units.unit.Units.paragraph.Given as goal

abbrev pub invariant-loop-sentence : goal.invariant-loop-sentence
invariant-loop-sentence l =
    l.self ++ flat_map (sentence_units l.program) (drop l.sentence-index l.sentence-items)
    ≡ l.initial.self ++ flat_map (sentence_units l.program) l.sentence-items
