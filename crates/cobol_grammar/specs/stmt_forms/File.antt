-- Statements on files that hold no others, and READ up to its arms (ISO 1989:1985, the OPEN, CLOSE,
-- WRITE, REWRITE and READ statements).
use Rattle.std.specs.Prelude.{ℕ, Bool, true, false, codes, List, [], ◌∷◌, ◌++◌, Option, Some, None, if◌then◌else◌}
use Rattle.std.specs.Str.{bytes_eq}
use Rattle.cobol_lex.specs.declared.token.Token.{Token}
use Rattle.cobol_lex.specs.declared.token.TokenKind.{TokenKind}
use Rattle.cobol_lex.specs.declared.token.TokenKind.TheVariants as kinds
use Rattle.cob_tree.specs.declared.file.How.{How}
use Rattle.cob_tree.specs.declared.file.How.TheVariants as hows
use Rattle.cob_tree.specs.declared.file.Opening.{Opening}
use Rattle.cob_tree.specs.declared.place.Operand.{Operand}
use Rattle.cob_tree.specs.declared.place.Place.{Place}
use Rattle.cob_tree.specs.declared.stmt.Stmt.{Stmt}
use Rattle.cob_tree.specs.declared.stmt.Stmt.TheVariants as stmts
use Rattle.parser_combinators.specs.Form.{Form, pure, note, one, ◌>>=◌, ◌>>◌, loop, where_next, some, added, next}
use Rattle.parser_combinators.specs.Part.{key, maybe, is_key}
use Rattle.cobol_grammar.specs.stmt_forms.Part.{Parts}
use Rattle.cobol_grammar.specs.stmt_forms.Move.{value}

-- the number of a file, or 0 where its name is unknown
abbrev pub index_or_0 : Option ℕ → ℕ
index_or_0 None = 0
index_or_0 (Some index) = index

-- the name of a file, as its number
unfoldable pub file_name : {Side Known : Type 0} → Parts Side Known → Form ℕ
file_name parts = parts.file >>= (λ found. pure (index_or_0 found))

-- ---- INPUT | OUTPUT | I-O | EXTEND

-- the mode of OPEN that a word is
unfoldable pub how_of_word : List ℕ → Option How
how_of_word word =
    if bytes_eq word (codes "INPUT") then Some hows.Input
    else if bytes_eq word (codes "OUTPUT") then Some hows.Output
    else if bytes_eq word (codes "I-O") then Some hows.InOut
    else if bytes_eq word (codes "EXTEND") then Some hows.Extend
    else None

-- the mode of OPEN that a token is
abbrev pub how_of : TokenKind → Option How
how_of (kinds.Word word) = how_of_word word
how_of _ = None

-- there is a value
abbrev pub is_some : {A : Type 0} → Option A → Bool
is_some None = false
is_some (Some a) = true

-- the mode that is next, if one is
abbrev pub how_in : Option TokenKind → Option How
how_in None = None
how_in (Some kind) = how_of kind

-- the mode that the next of these tokens is, if it is one
abbrev pub how_next : List Token → Option How
how_next tokens = how_in (next tokens)

-- INPUT, OUTPUT, I-O or EXTEND
unfoldable pub begins_opening : TokenKind → Bool
begins_opening kind = is_some (how_of kind)

-- the mode of OPEN: INPUT | OUTPUT | I-O | EXTEND
abbrev pub how : Form How
how = one (λ position kind. how_of kind)

-- ---- the statements

-- OPEN of one file in this mode
abbrev pub opening_of : How → ℕ → Opening
opening_of how file = record { how = how; file = file }

-- a file that is opened in this mode
unfoldable pub open_one : {Side Known : Type 0} → Parts Side Known → How → Form Opening
open_one parts how = file_name parts >>= (λ file. pure (opening_of how file))

-- any number of files in this mode, after those before
abbrev pub open_more : {Side Known : Type 0} → Parts Side Known →
    How → List Opening → Form (List Opening)
open_more parts how before = loop parts.is_name (added (open_one parts how)) before

-- (INPUT | OUTPUT | I-O | EXTEND) word+, after those before
unfoldable pub open_group : {Side Known : Type 0} → Parts Side Known →
    List Opening → Form (List Opening)
open_group parts before = do
  mode ← how
  first ← open_one parts mode
  open_more parts mode (before ++ first ∷ [])

-- any number of modes with their files, after those before
abbrev pub open_groups : {Side Known : Type 0} → Parts Side Known →
    List Opening → Form (List Opening)
open_groups parts before = loop begins_opening (open_group parts) before

-- OPEN, with one mode or more and the files of each
unfoldable pub open_stmt : {Side Known : Type 0} → Parts Side Known → Form Stmt
open_stmt parts = do
  key (codes "OPEN")
  first ← open_group parts []
  all ← open_groups parts first
  pure (stmts.Opens all)

-- the names of files, one at least: word {word}
abbrev pub file_names : {Side Known : Type 0} → Parts Side Known → Form (List ℕ)
file_names parts = some parts.is_name (file_name parts)

-- CLOSE word+
unfoldable pub close_stmt : {Side Known : Type 0} → Parts Side Known → Form Stmt
close_stmt parts = do
  key (codes "CLOSE")
  files ← file_names parts
  pure (stmts.Closes files)

-- the operand of FROM
unfoldable pub from_operand : {Side Known : Type 0} → (parts : Parts Side Known) →
    Side → Form (Option Operand)
from_operand parts target = do
  key (codes "FROM")
  side ← value parts
  note (parts.move_fault side target)
  pure (Some (parts.operand_of side))

-- [FROM operand]
unfoldable pub from_part : {Side Known : Type 0} → (parts : Parts Side Known) →
    Side → Form (Option Operand)
from_part parts target =
    where_next (is_key (codes "FROM")) (from_operand parts target) (pure None)

-- WRITE word [FROM operand] [END-WRITE]
unfoldable pub write_stmt : {Side Known : Type 0} → Parts Side Known → Form Stmt
write_stmt parts = do
  key (codes "WRITE")
  target ← parts.record_name
  from ← from_part parts target
  maybe (codes "END-WRITE")
  pure (stmts.Write (parts.entry_of target) from)

-- REWRITE word [FROM operand] [END-REWRITE]
unfoldable pub rewrite_stmt : {Side Known : Type 0} → Parts Side Known → Form Stmt
rewrite_stmt parts = do
  key (codes "REWRITE")
  target ← parts.record_name
  from ← from_part parts target
  maybe (codes "END-REWRITE")
  pure (stmts.Rewrite (parts.entry_of target) from)

-- ---- the head of READ

-- the place of INTO
unfoldable pub into_item : {Side Known : Type 0} → Parts Side Known → Option ℕ → Form (Option Place)
into_item parts file = do
  key (codes "INTO")
  side ← parts.reference
  note (parts.value_fault side)
  note (parts.into_fault file side)
  pure (Some (parts.place_of side))

-- [RECORD] [INTO ref]
unfoldable pub into_part : {Side Known : Type 0} → Parts Side Known → Option ℕ → Form (Option Place)
into_part parts file = do
  maybe (codes "RECORD")
  where_next (is_key (codes "INTO")) (into_item parts file) (pure None)

-- READ and the name of its file
unfoldable pub read_file : {Side Known : Type 0} → Parts Side Known → Form (Option ℕ)
read_file parts = key (codes "READ") >> parts.file
