-- Jumps, and what does nothing (ISO 1989:1985, the GO TO, STOP, EXIT and CONTINUE statements; ISO
-- 1989:2002, the EXIT statement).
use Rattle.std.specs.Prelude.{ℕ, Bool, true, false, ◌||◌, codes, List, [], ◌∷◌, Option, Some, None}
use Rattle.cobol_lex.specs.declared.token.TokenKind.{TokenKind}
use Rattle.cobol_lex.specs.declared.token.TokenKind.TheVariants as kinds
use Rattle.cob_tree.specs.declared.stmt.Stmt.{Stmt}
use Rattle.cob_tree.specs.declared.stmt.Stmt.TheVariants as stmts
use Rattle.parser_combinators.specs.declared.note.Note.{Note}
use Rattle.parser_combinators.specs.declared.note.NameKind.{NameKind}
use Rattle.parser_combinators.specs.declared.note.NameKind.TheVariants as names
use Rattle.parser_combinators.specs.declared.note.Position.{Position}
use Rattle.parser_combinators.specs.declared.why.Why.TheVariants.{Syntax}
use Rattle.parser_combinators.specs.Form.{Form, pure, refuse, note, ◌>>=◌, ◌>>◌, loop, where_next, added}
use Rattle.parser_combinators.specs.Part.{key, maybe, word, digits, is_key}
use Rattle.cobol_grammar.specs.declared.stmt_forms.scope.Scope.{Scope}
use Rattle.cobol_grammar.specs.stmt_forms.Part.{Parts}

-- a fault of this kind, at this position
abbrev pub fault_at : NameKind → Position → Option Note
fault_at kind position = Some (record { kind = kind; position = position })

-- ---- pname: a word or digits

-- digits
abbrev pub is_digits : TokenKind → Bool
is_digits (kinds.Digits found) = true
is_digits _ = false

-- a token with which the name of a procedure begins
unfoldable pub begins_procedure : {Side Known : Type 0} → Parts Side Known → TokenKind → Bool
begins_procedure parts kind = parts.is_procedure_word kind || is_digits kind

-- a name that no procedure has is unknown
abbrev pub unknown_fault : Option (ℕ × ℕ) → Position → Option Note
unknown_fault None position = fault_at names.Unknown position
unknown_fault (Some span) position = None

-- the entry and exit of a procedure, or 0 and 0 where its name is unknown
abbrev pub span_or_0 : Option (ℕ × ℕ) → ℕ × ℕ
span_or_0 None = (0, 0)
span_or_0 (Some span) = span

-- the entry and exit of what has this name
unfoldable pub procedure_named : {Side Known : Type 0} → Parts Side Known →
    List ℕ → Position → Form (ℕ × ℕ)
procedure_named parts name position = do
  note (unknown_fault (parts.procedure_of name) position)
  pure (span_or_0 (parts.procedure_of name))

-- the name of a procedure that is a word
unfoldable pub word_procedure : {Side Known : Type 0} → Parts Side Known → Form (ℕ × ℕ)
word_procedure parts = word >>= (λ name. procedure_named parts name.0 name.1)

-- the name of a procedure that is digits
unfoldable pub digits_procedure : {Side Known : Type 0} → Parts Side Known → Form (ℕ × ℕ)
digits_procedure parts = digits >>= (λ name. procedure_named parts name.0 name.1)

-- the name of a procedure, as its entry and exit
unfoldable pub procedure : {Side Known : Type 0} → Parts Side Known → Form (ℕ × ℕ)
procedure parts = where_next parts.is_procedure_word (word_procedure parts) (digits_procedure parts)

-- ---- GO

-- the name of a procedure, as its entry
unfoldable pub procedure_entry : {Side Known : Type 0} → Parts Side Known → Form ℕ
procedure_entry parts = procedure parts >>= (λ span. pure span.0)

-- any number of names of procedures, after those before
abbrev pub more_entries : {Side Known : Type 0} → Parts Side Known → List ℕ → Form (List ℕ)
more_entries parts before = loop (begins_procedure parts) (added (procedure_entry parts)) before

-- GO TO without DEPENDING; one name is enough, and all that may be
unfoldable pub go_alone : List ℕ → Form Stmt
go_alone (to ∷ []) = pure (stmts.Go to)
go_alone _ = refuse Syntax

-- the end of GO TO DEPENDING after its names: DEPENDING [ON] ref
unfoldable pub go_depending : {Side Known : Type 0} → Parts Side Known → List ℕ → Form Stmt
go_depending parts to = do
  key (codes "DEPENDING")
  maybe (codes "ON")
  side ← parts.reference
  note (parts.whole_fault side)
  pure (stmts.GoDepending to (parts.place_of side))

-- GO [TO] pname | GO [TO] pname+ DEPENDING [ON] ref
unfoldable pub go_stmt : {Side Known : Type 0} → Parts Side Known → Form Stmt
go_stmt parts = do
  key (codes "GO")
  maybe (codes "TO")
  first ← procedure_entry parts
  to ← more_entries parts (first ∷ [])
  where_next (is_key (codes "DEPENDING")) (go_depending parts to) (go_alone to)

-- ---- EXIT with a further word

-- a usage fault, unless it may be here
abbrev pub usage_unless : Bool → Position → Option Note
usage_unless true position = None
usage_unless false position = fault_at names.Usage position

-- the end of EXIT PARAGRAPH
unfoldable pub exit_paragraph : Form Stmt
exit_paragraph = key (codes "PARAGRAPH") >> pure stmts.ExitParagraph

-- EXIT SECTION; its fault is at EXIT
unfoldable pub exit_section : Scope → Position → Form Stmt
exit_section scope position = do
  key (codes "SECTION")
  note (usage_unless scope.in_section position)
  pure stmts.ExitSection

-- whether it is CYCLE
unfoldable pub cycle : Form Bool
cycle = where_next (is_key (codes "CYCLE")) (key (codes "CYCLE") >> pure true) (pure false)

-- the end of EXIT PERFORM: PERFORM [CYCLE]
unfoldable pub exit_perform : Scope → Position → Form Stmt
exit_perform scope position = do
  key (codes "PERFORM")
  again ← cycle
  note (usage_unless scope.in_loop position)
  pure (stmts.ExitPerform again)

-- PARAGRAPH | SECTION | PERFORM [CYCLE], after EXIT
unfoldable pub exit_behind : Scope → Position → Form Stmt
exit_behind scope position =
    where_next (is_key (codes "PARAGRAPH")) exit_paragraph
    (where_next (is_key (codes "SECTION")) (exit_section scope position)
    (exit_perform scope position))

-- EXIT (PARAGRAPH | SECTION | PERFORM [CYCLE])
unfoldable pub exit_stmt : Scope → Form Stmt
exit_stmt scope = key (codes "EXIT") >>= exit_behind scope

-- ---- the others

-- NEXT SENTENCE
unfoldable pub next_sentence : Form Stmt
next_sentence = key (codes "NEXT") >> key (codes "SENTENCE") >> pure stmts.NextSentence

-- STOP RUN
unfoldable pub stop_run : Form Stmt
stop_run = key (codes "STOP") >> key (codes "RUN") >> pure stmts.StopRun

-- the CONTINUE statement
unfoldable pub continue_stmt : Form Stmt
continue_stmt = key (codes "CONTINUE") >> pure stmts.Continue

-- a statement of these: NEXT SENTENCE | STOP RUN | CONTINUE
unfoldable pub still_stmt : Form Stmt
still_stmt =
    where_next (is_key (codes "NEXT")) next_sentence
    (where_next (is_key (codes "STOP")) stop_run continue_stmt)

-- a jump, or what does nothing
unfoldable pub jump_stmt : {Side Known : Type 0} → Parts Side Known → Scope → Form Stmt
jump_stmt parts scope =
    where_next (is_key (codes "GO")) (go_stmt parts)
    (where_next (is_key (codes "EXIT")) (exit_stmt scope) still_stmt)
