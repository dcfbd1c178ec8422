-- What the table of a program's own procedures is to tell, so that what is printed of it is read.
use Rattle.std.specs.Prelude.{ℕ, ◌≡◌, ◌+◌, List, [], ◌∷◌, length, map, Option, Some, None}
use Rattle.cob_tree.specs.declared.program.Paragraph.{Paragraph}
use Rattle.cob_tree.specs.declared.program.Program.{Program}
use Rattle.cobol_print.specs.Unit.{all_tokens}
use Rattle.cobol_print.specs.units.Division.{paragraph_units}
use Rattle.symbol_tables.specs.declared.procedure_names.table.Header.{Header}
use Rattle.symbol_tables.specs.declared.procedure_names.table.ProcedureTable.{ProcedureTable}
use Rattle.cobol_grammar.specs.Name.{procedure_of}
use Rattle.round_trip.specs.spelling.Named.{IsHeader, IsLabel, IsRange}
use Rattle.round_trip.specs.procedures.Names.{header_names, AreDifferent}
use Rattle.round_trip.specs.procedures.Outline.{AreOutlined}
use Rattle.round_trip.specs.procedures.Told.{behind_section, own_procedures}

-- the header, if it is printed, is the first with its name
abbrev pub IfHeader : ProcedureTable → Option (List ℕ) → (taken : ℕ) → Type 0
IfHeader table None taken = Unit {0}
IfHeader table (Some name) taken = IsHeader table name taken

-- each header that is printed is the first with its name, after so many tokens
abbrev pub AreHeaders : ProcedureTable → Program → List Paragraph → (taken : ℕ) → Type 0
AreHeaders table program [] taken = Unit {0}
AreHeaders table program (paragraph ∷ paragraphs) taken =
    IfHeader table paragraph.section taken
    × (IfHeader table paragraph.name (behind_section paragraph.section taken)
    × AreHeaders table program paragraphs
    (taken + length (all_tokens (paragraph_units program paragraph))))

-- What a name stands for in the first table is named in the second by the labels of its first and
-- last paragraphs; so is what is from one to another.
pub record AreLabelled (source table : ProcedureTable) (program : Program) : Type 0 where
  -- of the first and the last paragraph
  pub entry : (name : List ℕ) (first last : ℕ) → procedure_of source name ≡ Some (first, last) →
      (exit : ℕ) × IsLabel table program first (first, exit)
  -- of what is from one to another
  pub range : (name other : List ℕ) (first last next exit : ℕ) →
      procedure_of source name ≡ Some (first, last) →
      procedure_of source other ≡ Some (next, exit) → IsRange table program first exit

-- ---- tables that differ in places alone

-- a header without its place
abbrev pub without_index : Header → Header
without_index header = record header { index = 0 }

-- a table without the places of its headers
abbrev pub without_indices : ProcedureTable → ProcedureTable
without_indices table = record table { headers = map without_index table.headers }

-- Paragraphs that were read with this table of procedures: they tell the same table but for
-- places, and no name comes twice.
pub record IsReadWith (source : ProcedureTable) (found : List Paragraph) : Type 0 where
  -- the paragraphs are told apart by their headers
  pub outlined : AreOutlined found
  -- no name comes twice
  pub different : AreDifferent (header_names found)
  -- their table is the same but for places
  pub same : (program : Program) (taken : ℕ) → program.paragraphs ≡ found →
      without_indices source ≡ without_indices (own_procedures program taken)
