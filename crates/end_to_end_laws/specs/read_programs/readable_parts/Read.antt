-- References, files and records as they are read, where what is printed of them is read the same.
use Rattle.std.specs.Prelude.{ℕ, ◌≡◌, true, List, [], ◌∷◌, Option, Some, None}
use Rattle.cob_tree.specs.declared.file.FileEntry.{FileEntry}
use Rattle.cob_tree.specs.declared.place.Operand.TheVariants as operands
use Rattle.cob_tree.specs.declared.place.Place.{Place}
use Rattle.cob_tree.specs.declared.program.Program.{Program}
use Rattle.cobol_read.specs.Status.{is_status, kind_fault}
use Rattle.symbol_tables.specs.data_names.Names.{Names}
use Rattle.round_trip.specs.spelling.data_spelling.Printable.{IfAny}
use Rattle.cobol_grammar.specs.declared.expr_forms.side.Side.{Side}
use Rattle.cobol_grammar.specs.expr_forms.Levels.{data_reference}
use Rattle.round_trip.specs.spelling.expr_spelling.Printable.{IsPrintablePlace, judged_operand}
use Rattle.round_trip.specs.spelling.expr_spelling.Spelled.{paren_levels, IsOperandSide, PlaceHasRoom}
use Rattle.parser_combinators.specs.declared.note.Position.{Position}
use Rattle.grammar_laws.specs.form_results.Giving.{Gives}
use Rattle.round_trip.specs.spelling.Kept.{IsEntrySide}
use Rattle.round_trip.specs.spelling.Named.{IsNamedFile, IsNamedRecord}
use Rattle.round_trip.specs.printable.printable_tokens.Printable.{IsPrintable}
use Rattle.cobol_grammar.specs.Use.{entry_of, place_of}

-- the status items of these files, where they have any
abbrev pub EachStatus : (Place → Type 0) → List FileEntry → Type 0
EachStatus Has [] = Unit {0}
EachStatus Has (file ∷ files) = IfAny Has file.status × EachStatus Has files

module _ (names : Names) (program : Program) where
  -- a reference whose place can be printed so that it is read back
  pub record IsFitReference (side : Side) : Type 0 where
    -- its place can be printed so
    pub fit : IsPrintablePlace names program (place_of side.what)
    -- its window has room
    pub room : PlaceHasRoom true paren_levels 0 (place_of side.what)
    -- the same is known of it
    pub kept : IsOperandSide names program (operands.Place (place_of side.what)) side

  -- all that are read with no fault are
  abbrev pub ReferencesAreFit : Type 0
  ReferencesAreFit = Gives IsPrintable (data_reference names) IsFitReference

  -- a status item that can be printed so, of which no fault is noted wherever it is
  pub record IsFitStatus (place : Place) : Type 0 where
    -- its place can be printed so
    pub fit : IsPrintablePlace names program place
    -- its window has room
    pub room : PlaceHasRoom true paren_levels 0 place
    -- it has two bytes of any kind
    pub suits : (position : Position) →
        kind_fault (judged_operand names program (operands.Place place)).kind
        (is_status program.entries place) position ≡ None

  -- a file that was found
  abbrev pub IsFitFile : Option ℕ → Type 0
  IsFitFile None = ⊥
  IsFitFile (Some file) = IsNamedFile names program file

  -- a record that was found
  pub record IsFitRecord (side : Side) : Type 0 where
    -- the record's name finds it
    pub named : IsNamedRecord names program program.entries (entry_of side.what)
    -- the same is known of it
    pub kept : IsEntrySide names program (entry_of side.what) side
