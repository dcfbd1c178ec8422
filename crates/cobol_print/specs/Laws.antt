-- What holds of all that is printed.
use Rattle.std.specs.Prelude.{ℕ, ◌≡◌, ◌≤◌, ◌⊎◌, false, List, ◌∷◌, length, map, All, Ok, codes}
use Rattle.ref_format.specs.declared.placed.Placed.{Placed}
use Rattle.ref_format.specs.Joining.{program_text}
use Rattle.cobol_lex.specs.Token.{tokens_of}
use Rattle.cobol_lex.specs.declared.awaits.Awaits.TheVariants as awaits
use Rattle.cobol_lex.specs.declared.token.Token.{Token}
use Rattle.cob_tree.specs.declared.program.Program.{Program}
use Rattle.cobol_print.specs.declared.units.unit.PrintUnit.{PrintUnit}
use Rattle.cobol_print.specs.units.Unit.{header}
use Rattle.cobol_print.specs.units.Division.{program_id, program_units}
use Rattle.cobol_print.specs.Line.{lines_of, bytes_of_lines, NoEntryRow}
use Rattle.cobol_print.specs.Printed.{printed_tokens}
use Rattle.cobol_print.specs.Unit.{all_tokens, AreLawfulKinds, IsUnit}
use Rattle.cobol_print.specs.Given.{IsGiven}
use Rattle.cobol_print.specs.Program.{printed}

-- units of lawful tokens are printed as lines that have a text, and its tokens are theirs, each on
-- its line
abbrev pub PrintedReadsBack : Type 0
PrintedReadsBack =
    (units : List PrintUnit) → All IsUnit units → AreLawfulKinds awaits.Any (all_tokens units) →
    NoEntryRow false (lines_of units) →
    (text : List Placed)
    × (program_text (bytes_of_lines (lines_of units)) ≡ Ok text)
    × (tokens_of text ≡ Ok (printed_tokens 0 units))

-- these are the units' own tokens, all and in order
abbrev pub PrintsAll : Type 0
PrintsAll =
    (line : ℕ) (units : List PrintUnit) →
    map (λ (token : Token). token.kind) (printed_tokens line units) ≡ all_tokens units

-- where a program is printed as it must be, none of its lines begins a comment entry
abbrev pub HeadsBeginNoEntry : Type 0
HeadsBeginNoEntry =
    (name word : List ℕ) (units : List PrintUnit) → length name ≤ 30 →
    (word ≡ codes "ENVIRONMENT") ⊎ ((word ≡ codes "DATA") ⊎ (word ≡ codes "PROCEDURE")) →
    NoEntryRow false (lines_of (header (codes "IDENTIFICATION") (codes "DIVISION")
    ∷ program_id name ∷ header word (codes "DIVISION") ∷ units))

-- what is printed of a program that is given has a text, and its tokens are those of the program's
-- units, each on its line
abbrev pub ProgramsUnfold : Type 0
ProgramsUnfold =
    (program : Program) → IsGiven program →
    (text : List Placed)
    × (program_text (printed program) ≡ Ok text)
    × (tokens_of text ≡ Ok (printed_tokens 0 (program_units program)))
