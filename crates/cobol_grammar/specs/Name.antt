-- Names of files, of records that are written, and of procedures.
use Rattle.std.specs.Prelude.{ℕ, ◌-◌, ◌==◌, ◌&&◌, not, nat_lt, nat_le, Bool, false, List, [], length, slice_get, slice_index, Option, Some, None, if◌then◌else◌}
use Rattle.std.specs.List.{list_all}
use Rattle.std.specs.Option.{is_some}
use Rattle.std.specs.Str.{bytes_eq}
use Rattle.cob_base.specs.Bytes.{hyphen}
use Rattle.cob_base.specs.Spelling.{folded, word_byte}
use Rattle.cob_tree.specs.declared.entry.Entry.{Entry}
use Rattle.cobol_lex.specs.declared.token.TokenKind.{TokenKind}
use Rattle.parser_combinators.specs.declared.note.NameKind.TheVariants as faults
use Rattle.parser_combinators.specs.declared.note.Note.{Note}
use Rattle.parser_combinators.specs.declared.note.Position.{Position}
use Rattle.parser_combinators.specs.Form.{Form, pure, note, ◌>>=◌, ◌>>◌}
use Rattle.parser_combinators.specs.Part.{valued}
use Rattle.symbol_tables.specs.declared.data_names.name.Referent.{Referent}
use Rattle.symbol_tables.specs.declared.data_names.name.Referent.TheVariants as found
use Rattle.symbol_tables.specs.data_names.Look.{look, look_file}
use Rattle.symbol_tables.specs.data_names.Names.{Names}
use Rattle.parser_combinators.specs.words.Word.{name}
use Rattle.cobol_grammar.specs.declared.expr_forms.side.Side.{Side}
use Rattle.cobol_grammar.specs.expr_forms.Fault.{fault_at, usage}
use Rattle.cobol_grammar.specs.expr_forms.Side.{ref_side}
use Rattle.symbol_tables.specs.declared.procedure_names.table.ProcedureTable.{ProcedureTable}
use Rattle.symbol_tables.specs.procedure_names.Procedures as procedures

-- ---- files

-- a name that no file has is unknown
abbrev pub file_fault : Option ℕ → Position → Option Note
file_fault None position = fault_at faults.Unknown position
file_fault (Some file) position = None

-- the name of a file
unfoldable pub file : Names → Form (Option ℕ)
file names = do
  word ← name
  note (file_fault (look_file names word.0) word.1)
  pure (look_file names word.0)

-- ---- records

-- the entry is of level 01 and of a file
abbrev pub is_record_entry : Option Entry → Bool
is_record_entry None = false
is_record_entry (Some entry) = entry.level == 1 && is_some entry.file

-- an entry of level 01 of a file
abbrev pub is_record : List Entry → ℕ → Bool
is_record entries item = is_record_entry (slice_get entries item)

-- what is wrong with a name where a record is written: it is unknown or ambiguous, or isn't one of
-- a record
abbrev pub record_fault : List Entry → Referent → Position → Option Note
record_fault entries found.Unknown position = fault_at faults.Unknown position
record_fault entries found.Ambiguous position = fault_at faults.Ambiguous position
record_fault entries (found.Item item kind dims) position =
    if is_record entries item then None else usage position

-- what was found, where it is a record; of anything else nothing is known
abbrev pub as_record : List Entry → Referent → Referent
as_record entries found.Unknown = found.Unknown
as_record entries found.Ambiguous = found.Unknown
as_record entries (found.Item item kind dims) =
    if is_record entries item then found.Item item kind dims else found.Unknown

-- the name of a record that is written, without qualifiers
unfoldable pub record_name : Names → List Entry → Form Side
record_name names entries = do
  word ← name
  note (record_fault entries (look names word.0 []) word.1)
  pure (ref_side (as_record entries (look names word.0 [])) [] [] None word.1)

-- ---- procedures

-- the name that the next token is for a header, if it is one
abbrev pub name_next : Option TokenKind → Option (List ℕ)
name_next None = None
name_next (Some kind) = procedures.header_name kind

-- the name has 1 to 30 bytes
abbrev pub is_short : List ℕ → Bool
is_short name = nat_lt 0 (length name) && nat_le (length name) 30

-- the name is of capitals, digits and hyphens
abbrev pub is_capital : List ℕ → Bool
is_capital name = list_all word_byte name && bytes_eq (folded name) name

-- no hyphen comes first or last
abbrev pub is_bounded : List ℕ → Bool
is_bounded name =
    not (slice_index name 0 == hyphen) && not (slice_index name (length name - 1) == hyphen)

-- a word in capitals, as tokens have it
abbrev pub is_capital_word : List ℕ → Bool
is_capital_word name = is_short name && (is_capital name && is_bounded name)

-- the first and the last paragraph of what has this name; no other name than a word has one
abbrev pub procedure_of : ProcedureTable → List ℕ → Option (ℕ × ℕ)
procedure_of table name =
    if is_capital_word name then procedures.range_of table (procedures.header_of table name)
    else None

-- the name that a paragraph or section is given
unfoldable pub header_name : Form (List ℕ × Position)
header_name = valued procedures.header_name
