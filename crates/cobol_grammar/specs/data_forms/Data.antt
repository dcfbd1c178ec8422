-- FD and the DATA DIVISION (ISO 1989:1985, the DATA DIVISION).
use Rattle.std.specs.Prelude.{Bool, ◌||◌, codes, List, []}
use Rattle.cobol_lex.specs.declared.token.TokenKind.{TokenKind}
use Rattle.cobol_grammar.specs.declared.data_forms.draft.DataDraft.{DataDraft}
use Rattle.cobol_grammar.specs.declared.data_forms.draft.EntryDraft.{EntryDraft}
use Rattle.cobol_grammar.specs.declared.data_forms.draft.FdDraft.{FdDraft}
use Rattle.parser_combinators.specs.Form.{Form, pure, ◌>>=◌, ◌>>◌, loop, where_next, many, some}
use Rattle.parser_combinators.specs.Part.{key, maybe, period, digits, is_key}
use Rattle.parser_combinators.specs.words.Word.{name, is_name}
use Rattle.parser_combinators.specs.words.Constant.{is_digits}
use Rattle.cobol_grammar.specs.data_forms.Choice.{either, header, maybe_either}
use Rattle.cobol_grammar.specs.data_forms.Entry.{entry}

-- ---- clauses of an FD, which say nothing

-- n [TO n]
unfoldable pub maybe_to : Form (Unit {0})
maybe_to = where_next (is_key (codes "TO")) (key (codes "TO") >> digits >> pure tt) (pure tt)

-- how many bytes or records: [CONTAINS] n [TO n]
unfoldable pub extent : Form (Unit {0})
extent = maybe (codes "CONTAINS") >> digits >> maybe_to

-- BLOCK [CONTAINS] n [TO n] [RECORDS | CHARACTERS]
unfoldable pub block_clause : Form (Unit {0})
block_clause = do
  key (codes "BLOCK")
  extent
  maybe_either (codes "RECORDS") (codes "CHARACTERS")

-- RECORD [CONTAINS] n [TO n] [CHARACTERS]
unfoldable pub record_clause : Form (Unit {0})
record_clause = key (codes "RECORD") >> extent >> maybe (codes "CHARACTERS")

-- (RECORD | RECORDS) [IS | ARE]
unfoldable pub records_are : Form (Unit {0})
records_are = either (codes "RECORD") (codes "RECORDS") >> maybe_either (codes "IS") (codes "ARE")

-- LABEL (RECORD | RECORDS) [IS | ARE] (STANDARD | OMITTED)
unfoldable pub label_clause : Form (Unit {0})
label_clause = do
  key (codes "LABEL")
  records_are
  either (codes "STANDARD") (codes "OMITTED")
  pure tt

-- one more name of a record
unfoldable pub next_name : Unit {0} → Form (Unit {0})
next_name before = name >> pure tt

-- DATA (RECORD | RECORDS) [IS | ARE] word+
unfoldable pub more_names : Unit {0} → Form (Unit {0})
more_names before = loop is_name next_name before

-- the DATA RECORDS clause: DATA (RECORD | RECORDS) [IS | ARE] word {word}
unfoldable pub records_clause : Form (Unit {0})
records_clause = do
  key (codes "DATA")
  records_are
  name
  more_names tt

-- a LABEL clause or a DATA clause
unfoldable pub labelled_clause : Form (Unit {0})
labelled_clause = where_next (is_key (codes "LABEL")) label_clause records_clause

-- one clause of an FD
unfoldable pub fd_clause : Unit {0} → Form (Unit {0})
fd_clause before =
    where_next (is_key (codes "BLOCK")) block_clause
    (where_next (is_key (codes "RECORD")) record_clause labelled_clause)

-- BLOCK, RECORD, LABEL or DATA
unfoldable pub begins_fd_clause : TokenKind → Bool
begins_fd_clause kind =
    is_key (codes "BLOCK") kind
    || (is_key (codes "RECORD") kind
    || (is_key (codes "LABEL") kind || is_key (codes "DATA") kind))

-- any number of clauses of an FD: {clause}
unfoldable pub fd_clauses : Unit {0} → Form (Unit {0})
fd_clauses before = loop begins_fd_clause fd_clause before

-- ---- fd = FD word {clause} . entry+

-- the records of an FD, one at least: entry {entry}
unfoldable pub records : Form (List EntryDraft)
records = some is_digits entry

-- an FD with its records: FD word {clause} . entry {entry}
unfoldable pub fd : Form FdDraft
fd = do
  key (codes "FD")
  file ← name
  fd_clauses tt
  period
  entries ← records
  pure (record { name = file.0; at = file.1; entries = entries })

-- ---- the sections

-- any number of FDs: {fd}
unfoldable pub fds : Form (List FdDraft)
fds = many (is_key (codes "FD")) fd

-- the FILE SECTION: FILE SECTION . {fd}
unfoldable pub file_section : Form (List FdDraft)
file_section = header (codes "FILE") (codes "SECTION") >> fds

-- the FILE SECTION, if there is one: [FILE SECTION . {fd}]
unfoldable pub files : Form (List FdDraft)
files = where_next (is_key (codes "FILE")) file_section (pure [])

-- any number of entries: {entry}
unfoldable pub entries : Form (List EntryDraft)
entries = many is_digits entry

-- the WORKING-STORAGE SECTION: WORKING-STORAGE SECTION . {entry}
unfoldable pub working_storage : Form (List EntryDraft)
working_storage = header (codes "WORKING-STORAGE") (codes "SECTION") >> entries

-- the WORKING-STORAGE SECTION, if there is one: [WORKING-STORAGE SECTION . {entry}]
unfoldable pub storage : Form (List EntryDraft)
storage = where_next (is_key (codes "WORKING-STORAGE")) working_storage (pure [])

-- the DATA DIVISION with its sections
unfoldable pub data_division : Form DataDraft
data_division = do
  header (codes "DATA") (codes "DIVISION")
  fds ← files
  items ← storage
  pure (record { fds = fds; storage = items })

-- the DATA DIVISION, or none
unfoldable pub data_part : Form DataDraft
data_part =
    where_next (is_key (codes "DATA")) data_division (pure (record { fds = []; storage = [] }))
