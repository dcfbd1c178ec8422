-- What is stated of the generated programs, of each number that they are made for.
use Rattle.std.specs.Prelude.{ℕ, ◌≤◌, [], ◌∷◌}
use Rattle.round_trip.specs.declarations.Named.{IsTitled}
use Rattle.round_trip.specs.printable.Whole.{IsPrintableProgram}
use Rattle.round_trip.specs.declarations.printed_declarations.FileRules.{KeepsRules}
use Rattle.symbol_tables.specs.data_names.Names.{names_of}
use Rattle.cobol_grammar.specs.Whole.{parts_of}
use Rattle.round_trip.specs.spelling.stmt_spelling.Division.{SpellsDivision}
use Rattle.round_trip.specs.spelling.Kept.{kept_of}
use Rattle.round_trip.specs.procedures.Outline.{HasProcedures}
use Rattle.round_trip.specs.procedures.Told.{own_procedures}
use Rattle.program_gen.specs.Generated.{counter_entry, generated}

-- generated programs can be printed
abbrev pub GeneratedProgramsArePrintable : Type 0
GeneratedProgramsArePrintable = (n : ℕ) → n ≤ 1249 → IsPrintableProgram (generated n)

-- the names of generated programs may be names, and their values are literals
abbrev pub GeneratedProgramsAreTitled : Type 0
GeneratedProgramsAreTitled = (n : ℕ) → n ≤ 1249 → IsTitled (generated n)

-- generated programs keep the rules on entries, without an FD, and with the counter in working
-- storage
abbrev pub GeneratedProgramsKeepRules : Type 0
GeneratedProgramsKeepRules = (n : ℕ) → KeepsRules (generated n) [] (counter_entry ∷ [])

-- each has a name of its own
abbrev pub GeneratedProgramsHaveProcedures : Type 0
GeneratedProgramsHaveProcedures = (n : ℕ) → n ≤ 1249 → HasProcedures (generated n)

-- what is printed of each generated program spells it over its own names and procedures, after so
-- many tokens
abbrev pub GeneratedProgramsAreSpelled : Type 0
GeneratedProgramsAreSpelled =
    (n taken : ℕ) → n ≤ 1249 →
    SpellsDivision
    (parts_of (names_of [] (counter_entry ∷ [])) (counter_entry ∷ [])
    (own_procedures (generated n) taken))
    (kept_of (names_of [] (counter_entry ∷ [])) (generated n)) (generated n) taken
    (generated n).paragraphs
