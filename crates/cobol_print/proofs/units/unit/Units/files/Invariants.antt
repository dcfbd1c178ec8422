use Rattle.std.proofs.Common.{◌≡◌, ◌++◌, drop}
use Rattle.cobol_print.specs.units.Division.{file_units}
use Rattle.cobol_print.proofs.units.unit.Units.files.Given as goal

abbrev pub invariant-loop-file : goal.invariant-loop-file
invariant-loop-file l =
    l.self ++ file_units l.program (drop l.file-index l.files)
    ≡ l.initial.self ++ file_units l.program l.files
