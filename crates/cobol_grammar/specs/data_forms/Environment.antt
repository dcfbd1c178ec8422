-- SELECT and the ENVIRONMENT DIVISION (ISO 1989:1985, the ENVIRONMENT DIVISION).
use Rattle.std.specs.Prelude.{ℕ, Bool, ◌||◌, codes, List, [], ◌∷◌, ◌++◌}
use Rattle.cobol_lex.specs.declared.token.TokenKind.{TokenKind}
use Rattle.cob_tree.specs.declared.place.Place.{Place}
use Rattle.cobol_grammar.specs.declared.data_forms.draft.SelectDraft.{SelectDraft}
use Rattle.cobol_grammar.specs.declared.data_forms.draft.StatusDraft.{StatusDraft}
use Rattle.parser_combinators.specs.declared.note.Position.{Position}
use Rattle.parser_combinators.specs.Form.{Form, pure, ◌>>=◌, ◌>>◌, loop, where_next, many}
use Rattle.parser_combinators.specs.Part.{key, maybe, period, literal, is_key}
use Rattle.parser_combinators.specs.words.Word.{name, user_word}
use Rattle.parser_combinators.specs.words.Constant.{is_text}
use Rattle.cobol_grammar.specs.data_forms.Choice.{header, is_either}

-- ---- select = SELECT word ASSIGN [TO] (literal | word) {clause} .

-- what follows ASSIGN; a word counts as the literal of its bytes
unfoldable pub assign : Form (List ℕ × Position)
assign = where_next is_text literal user_word

-- [ORGANIZATION [IS]] SEQUENTIAL | ACCESS [MODE] [IS] SEQUENTIAL, which says nothing

-- ORGANIZATION or SEQUENTIAL
abbrev pub is_organization : TokenKind → Bool
is_organization kind = is_either (codes "ORGANIZATION") (codes "SEQUENTIAL") kind

-- the ORGANIZATION clause: [ORGANIZATION [IS]] SEQUENTIAL
unfoldable pub organization : Form Position
organization =
    where_next (is_key (codes "ORGANIZATION"))
    (key (codes "ORGANIZATION") >> maybe (codes "IS") >> key (codes "SEQUENTIAL"))
    (key (codes "SEQUENTIAL"))

-- the ACCESS clause: ACCESS [MODE] [IS] SEQUENTIAL
unfoldable pub access : Form Position
access = do
  key (codes "ACCESS")
  maybe (codes "MODE")
  maybe (codes "IS")
  key (codes "SEQUENTIAL")

-- the FILE STATUS clause: [FILE] STATUS [IS] ref

-- FILE or STATUS
abbrev pub is_status : TokenKind → Bool
is_status kind = is_either (codes "FILE") (codes "STATUS") kind

-- FILE STATUS
unfoldable pub file_status : Form Position
file_status = key (codes "FILE") >>= (λ at. key (codes "STATUS") >> pure at)

-- the words of the FILE STATUS clause, and where it begins: [FILE] STATUS
unfoldable pub status_word : Form Position
status_word = where_next (is_key (codes "FILE")) file_status (key (codes "STATUS"))

-- the FILE STATUS clause: [FILE] STATUS [IS] ref
unfoldable pub status_clause : Form Place → Form StatusDraft
status_clause status = do
  at ← status_word
  maybe (codes "IS")
  place ← status
  pure (record { at = at; place = place })

-- a clause after the FILE STATUS clauses before it
unfoldable pub storage_clause : List StatusDraft → Form (List StatusDraft)
storage_clause before =
    where_next is_organization (organization >> pure before) (access >> pure before)

-- one clause after SELECT, with the FILE STATUS clauses before it
unfoldable pub select_clause : Form Place → List StatusDraft → Form (List StatusDraft)
select_clause status before =
    where_next is_status (status_clause status >>= (λ found. pure (before ++ found ∷ [])))
    (storage_clause before)

-- a word with which a clause after SELECT begins
unfoldable pub begins_select_clause : TokenKind → Bool
begins_select_clause kind =
    is_organization kind || (is_key (codes "ACCESS") kind || is_status kind)

-- any number of clauses after SELECT: {clause}
unfoldable pub select_clauses : Form Place → Form (List StatusDraft)
select_clauses status = loop begins_select_clause (select_clause status) []

-- the SELECT of a file: SELECT word ASSIGN [TO] (literal | word) {clause} .
unfoldable pub select : Form Place → Form SelectDraft
select status = do
  key (codes "SELECT")
  file ← name
  key (codes "ASSIGN")
  maybe (codes "TO")
  device ← assign
  statuses ← select_clauses status
  period
  pure (record { name = file.0; at = file.1; assign = device.0; statuses = statuses })

-- ---- the sections

-- COMPUTER . word .
unfoldable pub computer_named : List ℕ → Form (Unit {0})
computer_named computer = key computer >> period >> user_word >> period >> pure tt

-- a paragraph that names a computer, if it is there
unfoldable pub computer : List ℕ → Form (Unit {0})
computer word = where_next (is_key word) (computer_named word) (pure tt)

-- the CONFIGURATION SECTION, with its two computers or without
unfoldable pub configuration_section : Form (Unit {0})
configuration_section = do
  header (codes "CONFIGURATION") (codes "SECTION")
  computer (codes "SOURCE-COMPUTER")
  computer (codes "OBJECT-COMPUTER")

-- the CONFIGURATION SECTION, or none
unfoldable pub configuration : Form (Unit {0})
configuration = where_next (is_key (codes "CONFIGURATION")) configuration_section (pure tt)

-- any number of SELECTs: {select}
abbrev pub selects : Form Place → Form (List SelectDraft)
selects status = many (is_key (codes "SELECT")) (select status)

-- the INPUT-OUTPUT SECTION: INPUT-OUTPUT SECTION . FILE-CONTROL . {select}
unfoldable pub input_output_section : Form Place → Form (List SelectDraft)
input_output_section status = do
  header (codes "INPUT-OUTPUT") (codes "SECTION")
  key (codes "FILE-CONTROL")
  period
  selects status

-- the INPUT-OUTPUT SECTION, or none
unfoldable pub input_output : Form Place → Form (List SelectDraft)
input_output status =
    where_next (is_key (codes "INPUT-OUTPUT")) (input_output_section status) (pure [])

-- the ENVIRONMENT DIVISION with its sections
unfoldable pub environment_division : Form Place → Form (List SelectDraft)
environment_division status = do
  header (codes "ENVIRONMENT") (codes "DIVISION")
  configuration
  input_output status

-- the ENVIRONMENT DIVISION, or none
unfoldable pub environment : Form Place → Form (List SelectDraft)
environment status =
    where_next (is_key (codes "ENVIRONMENT")) (environment_division status) (pure [])
