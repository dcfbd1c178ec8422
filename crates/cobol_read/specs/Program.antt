-- The whole program, over the names that it declares itself.
use Rattle.std.specs.Prelude.{ℕ, ◌+◌, min, codes, drop, List, [], length, Option, None}
use Rattle.cob_tree.specs.declared.program.Paragraph.{Paragraph}
use Rattle.cob_tree.specs.declared.program.Program.{Program}
use Rattle.cobol_lex.specs.declared.token.Token.{Token}
use Rattle.parser_combinators.specs.declared.note.Note.{Note}
use Rattle.parser_combinators.specs.Note.{earliest}
use Rattle.parser_combinators.specs.Form.{Form, Outcome, Got, Stop, pure, ◌>>=◌, ◌>>◌}
use Rattle.parser_combinators.specs.Part.{key, period}
use Rattle.parser_combinators.specs.Reading.{start}
use Rattle.cobol_grammar.specs.declared.data_forms.draft.Divisions.{Divisions}
use Rattle.cobol_grammar.specs.data_forms.Divisions.{divisions}
use Rattle.symbol_tables.specs.data_names.Names.{names_of}
use Rattle.declaration_checks.specs.declared.declaring.Declared.{Declared}
use Rattle.declaration_checks.specs.Declaring.{declared_of}
use Rattle.symbol_tables.specs.procedure_names.Procedures.{procedures_of}
use Rattle.cobol_grammar.specs.stmt_forms.Paragraph as forms
use Rattle.cobol_grammar.specs.Whole.{parts_of}
use Rattle.cobol_read.specs.declared.program.Declarations.{Declarations}
use Rattle.cobol_read.specs.declared.declarations.Preamble.{Preamble}
use Rattle.cobol_read.specs.declared.program.ProgramDraft.{ProgramDraft}
use Rattle.cobol_read.specs.Status.{status}

-- ---- what the tokens declare

-- nothing is declared
abbrev pub nothing : Declared
nothing = record { files = []; entries = []; fault = None }

-- the divisions before the PROCEDURE DIVISION, where no name is known yet: what status items stand
-- for is left open
abbrev pub nameless : List Token → Outcome Divisions
nameless tokens = (divisions (status (names_of [] []) [])).reads (start tokens)

-- how many tokens come before the statements, which begin after the three tokens of their header
abbrev pub statements_at : List Token → Outcome Divisions → ℕ
statements_at tokens (Got found behind) = min (behind.taken + 3) (length tokens)
statements_at tokens (Stop why rest) = length tokens

-- what the divisions declare, if they were read
abbrev pub declared_by : Outcome Divisions → Declared
declared_by (Got found behind) = declared_of found
declared_by (Stop why rest) = nothing

-- the names of data and files, and of the paragraphs and sections from there on
abbrev pub declarations_from : List Token → Declared → (from : ℕ) → Declarations
declarations_from tokens declared from = record {
  names = names_of declared.files declared.entries;
  entries = declared.entries;
  fault = declared.fault;
  procedures = procedures_of (drop from tokens) from;
}

-- what the divisions declare, and where the statements begin
abbrev pub preamble_of : List Token → Outcome Divisions → Preamble
preamble_of tokens found =
    record { declared = declared_by found; from = statements_at tokens found }

-- all names that the tokens declare
abbrev pub declarations_of : List Token → Declarations
declarations_of tokens =
    declarations_from tokens (declared_by (nameless tokens))
    (statements_at tokens (nameless tokens))

-- ---- program = divisions PROCEDURE DIVISION . paragraphs

-- the header of the PROCEDURE DIVISION
unfoldable pub header : Form (Unit {0})
header = do
  key (codes "PROCEDURE")
  key (codes "DIVISION")
  period
  pure tt

-- the divisions before the PROCEDURE DIVISION, now with the names of status items
abbrev pub before_procedures : Declarations → Form Divisions
before_procedures known = divisions (status known.names known.entries)

-- the paragraphs of the PROCEDURE DIVISION
abbrev pub paragraphs : Declarations → Form (List Paragraph)
paragraphs known = forms.division (parts_of known.names known.entries known.procedures)

-- the PROCEDURE DIVISION with its header
unfoldable pub procedure_division : Declarations → Form (List Paragraph)
procedure_division known = header >> paragraphs known

-- the form of a program
unfoldable pub program : Declarations → Form ProgramDraft
program known = do
  before ← before_procedures known
  found ← procedure_division known
  pure (record { divisions = before; paragraphs = found })

-- ---- what is made of it

-- the first name fault: that of the rules on files and entries, or one that was noted
abbrev pub fault_in : Declarations → Option Note → Option Note
fault_in known noted = earliest known.fault noted

-- the program that was spelled so
abbrev pub program_of : Declarations → ProgramDraft → Program
program_of known draft = record {
  name = draft.divisions.name;
  files = (declared_of draft.divisions).files;
  entries = known.entries;
  paragraphs = draft.paragraphs;
}
