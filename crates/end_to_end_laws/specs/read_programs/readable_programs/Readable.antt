-- Readable programs: what is printed of them can be read.
use Rattle.std.specs.Prelude.{ℕ, ◌≡◌, ◌≤◌, false, List, [], ◌∷◌, ◌++◌, length, drop, None, codes}
use Rattle.cob_tree.specs.declared.entry.Entry.{Entry}
use Rattle.cob_tree.specs.declared.program.Program.{Program}
use Rattle.cobol_lex.specs.declared.token.Token.{Token}
use Rattle.cobol_print.specs.declared.units.unit.PrintUnit.{PrintUnit}
use Rattle.cobol_print.specs.units.Unit.{header}
use Rattle.cobol_print.specs.units.Division.{program_id, environment_units, data_units, program_units}
use Rattle.cobol_print.specs.Printed.{printed_tokens}
use Rattle.cobol_print.specs.Program.{printed}
use Rattle.cobol_print.specs.Unit.{all_tokens}
use Rattle.round_trip.specs.fitting_statements.own_fits.Own.{own_names}
use Rattle.cobol_grammar.specs.declared.expr_forms.side.Side.{Side}
use Rattle.cob_store.specs.sizes.Storage.{storage_limit, storage_of}
use Rattle.symbol_tables.specs.declared.procedure_names.table.ProcedureTable.{ProcedureTable}
use Rattle.symbol_tables.specs.procedure_names.Procedures.{procedures_of}
use Rattle.cobol_grammar.specs.stmt_forms.Part.{Parts}
use Rattle.cobol_grammar.specs.declared.subject_kind.SubjectKind.{SubjectKind}
use Rattle.cobol_grammar.specs.Whole.{parts_of}
use Rattle.cobol_read.specs.LeftOut.{first_left_out}
use Rattle.cob_base.specs.Limit.{max_source, max_tokens, max_paragraphs}
use Rattle.cobol_read.specs.Status.{status}
use Rattle.round_trip.specs.printable.Whole.{IsPrintableProgram}
use Rattle.round_trip.specs.spelling.data_spelling.Sections.{Fd}
use Rattle.round_trip.specs.declarations.printed_declarations.FileRules.{KeepsRules}
use Rattle.round_trip.specs.declarations.Named.{IsTitled, AreStated}
use Rattle.round_trip.specs.spelling.stmt_spelling.Division.{SpellsDivision}
use Rattle.round_trip.specs.spelling.Kept.{kept_of}

-- the units before the paragraphs of a program
abbrev pub units_before : Program → List PrintUnit
units_before program =
    header (codes "IDENTIFICATION") (codes "DIVISION") ∷ program_id program.name
    ∷ environment_units program program.files ++ data_units program program.entries
    ++ header (codes "PROCEDURE") (codes "DIVISION") ∷ []

-- how many tokens are printed before its paragraphs
abbrev pub tokens_before : Program → ℕ
tokens_before program = length (all_tokens (units_before program))

-- the tokens that its printed bytes are cut into
abbrev pub own_tokens : Program → List Token
own_tokens program = printed_tokens 0 (program_units program)

-- the paragraphs and sections that its printed tokens tell
abbrev pub own_procedures : Program → ProcedureTable
own_procedures program =
    procedures_of (drop (tokens_before program) (own_tokens program)) (tokens_before program)

-- ---- what comes before its paragraphs

-- its status items are spelled over these names
abbrev pub IsStated : Program → Type 0
IsStated program = AreStated (status (own_names program) program.entries) program program.files

-- its names, numbers, literals and pictures are what a text can have, and no word that it is
-- printed with is left out; its entries are in such sections that they keep the rules
pub record IsFit (program : Program) : Type 0 where
  pub printable : IsPrintableProgram program
  pub titled : IsTitled program
  pub fds : List Fd
  pub storage : List Entry
  -- in these sections its entries keep the rules
  pub keeps : KeepsRules program fds storage
  -- its status items are spelled
  pub stated : IsStated program
  pub none_left_out : first_left_out (own_tokens program) ≡ None
  -- its items are within the limit of storage
  pub stored : storage_limit false (storage_of program.entries) ≡ None
  -- it has no more paragraphs than their limit
  pub few : length program.paragraphs ≤ max_paragraphs

-- ---- its paragraphs

-- what the statements of a program are made of
abbrev pub own_parts : Program → Parts Side SubjectKind
own_parts program = parts_of (own_names program) program.entries (own_procedures program)

-- the tokens of its paragraphs spell them
abbrev pub IsSpelled : Program → Type 0
IsSpelled program =
    SpellsDivision (own_parts program) (kept_of (own_names program) program) program
    (tokens_before program) program.paragraphs

-- ---- within the limits of reading

-- what is printed is within the limits of bytes and tokens
pub record IsShort (program : Program) : Type 0 where
  pub bytes : length (printed program) ≤ max_source
  pub tokens : length (all_tokens (program_units program)) ≤ max_tokens

-- what is printed of the program can be read
pub record IsReadable (program : Program) : Type 0 where
  pub fit : IsFit program
  pub spelled : IsSpelled program
  pub short : IsShort program
