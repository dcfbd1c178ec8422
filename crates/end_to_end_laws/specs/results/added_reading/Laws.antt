-- What holds of programs that are read.
use Rattle.std.specs.Prelude.{ℕ, ◌≡◌, ◌^◌, ◌<◌, List, length}
use Rattle.cob_tree.specs.declared.program.Program.{Program}
use Rattle.out_names.specs.Words.{program_words}
use Rattle.cobol_read.specs.Reading.{Reads}
use Rattle.round_trip.specs.declarations.added_entries.Items.{WholeItem, HasAdded}
use Rattle.round_trip.specs.declarations.fresh_items.Laws.{MayBeAdded}
use Rattle.end_to_end_laws.specs.results.added_reading.Declaring.{DeclaresReadably}

-- programs that are read have fewer words than 2^30
abbrev pub ProgramsThatAreReadHaveFewWords : Type 0
ProgramsThatAreReadHaveFewWords =
    (bytes : List ℕ) (program : Program) → Reads bytes program →
    length (program_words program) < 2 ^ 30

-- a program that is read, with these items after its entries, declares readably
abbrev pub ProgramsWithItemsDeclareReadably : Type 0
ProgramsWithItemsDeclareReadably =
    (bytes : List ℕ) (program made : Program) (items : List WholeItem) → Reads bytes program →
    HasAdded program items made → made.name ≡ program.name → MayBeAdded program items →
    DeclaresReadably made
