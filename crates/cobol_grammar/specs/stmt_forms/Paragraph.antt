-- Sentences, paragraphs and sections, and the whole procedure division after its header (ISO
-- 1989:1985, the PROCEDURE DIVISION).
use Rattle.std.specs.Prelude.{ℕ, Bool, true, false, ◌||◌, codes, List, [], ◌∷◌, ◌++◌, Option, Some, None}
use Rattle.cob_tree.specs.declared.program.Paragraph.{Paragraph}
use Rattle.cob_tree.specs.declared.program.Sentence.{Sentence}
use Rattle.cob_tree.specs.declared.stmt.Stmt.{Stmt}
use Rattle.cob_tree.specs.declared.stmt.Stmt.TheVariants as stmts
use Rattle.parser_combinators.specs.declared.note.Position.{Position}
use Rattle.parser_combinators.specs.declared.why.Why.TheVariants.{Syntax}
use Rattle.parser_combinators.specs.Form.{Form, pure, refuse, note, ◌>>=◌, ◌>>◌, loop, chosen, where_next, added}
use Rattle.parser_combinators.specs.Part.{key, period, word, is_key, ended}
use Rattle.cobol_lex.specs.declared.token.TokenKind.{TokenKind}
use Rattle.cobol_grammar.specs.declared.stmt_forms.outline.Outline.{Outline}
use Rattle.cobol_grammar.specs.declared.stmt_forms.scope.Scope.{Scope}
use Rattle.cobol_grammar.specs.stmt_forms.Part.{Parts}
use Rattle.cobol_grammar.specs.stmt_forms.Verb.{begins_stmt}
use Rattle.cobol_grammar.specs.stmt_forms.Jump.{begins_procedure, exit_behind}
use Rattle.cobol_grammar.specs.stmt_forms.Arms.{Found}
use Rattle.cob_base.specs.Limit.{max_nesting}
use Rattle.cobol_grammar.specs.stmt_forms.Stmt.{level, stmts_with, stmts_from}

-- ---- sentence = stmt+ .

-- the sentence of these statements
abbrev pub sentence_of : List Stmt → Sentence
sentence_of found = record { stmts = found }

-- the period that ends a sentence
unfoldable pub sentence_closed : List Stmt → Form Sentence
sentence_closed found = period >> pure (sentence_of found)

-- the end of a sentence; a NOT that no statement takes may not be there
unfoldable pub sentence_end : Found → Form Sentence
sentence_end found = chosen found.1 (refuse Syntax) (sentence_closed found.0)

-- a sentence: stmt {stmt} .
unfoldable pub sentence : {Side Known : Type 0} → Parts Side Known → Scope → Form Sentence
sentence parts scope = stmts_with parts (level parts max_nesting) scope >>= sentence_end

-- any number of sentences, after those before
abbrev pub sentences_from : {Side Known : Type 0} → Parts Side Known →
    Scope → List Sentence → Form (List Sentence)
sentences_from parts scope before = loop begins_stmt (added (sentence parts scope)) before

-- ---- the sentences of a paragraph: EXIT without a further word is its only statement

-- PARAGRAPH, SECTION or PERFORM
abbrev pub begins_exit_word : TokenKind → Bool
begins_exit_word kind =
    is_key (codes "PARAGRAPH") kind
    || (is_key (codes "SECTION") kind || is_key (codes "PERFORM") kind)

-- the period after EXIT alone
unfoldable pub exit_alone : Form (List Sentence)
exit_alone = period >> pure (sentence_of (stmts.Exit ∷ []) ∷ [])

-- a sentence that begins with an EXIT that has a further word
unfoldable pub exit_sentence : {Side Known : Type 0} → Parts Side Known →
    Scope → Position → Form Sentence
exit_sentence parts scope position = do
  first ← exit_behind scope position
  found ← stmts_from parts (level parts max_nesting) scope (first ∷ [], false)
  sentence_end found

-- the sentences of a paragraph that begins with such an EXIT
unfoldable pub exit_sentences : {Side Known : Type 0} → Parts Side Known →
    Scope → Position → Form (List Sentence)
exit_sentences parts scope position = do
  first ← exit_sentence parts scope position
  sentences_from parts scope (first ∷ [])

-- the sentences of a paragraph that begins with EXIT
unfoldable pub sentences_by_exit : {Side Known : Type 0} → Parts Side Known →
    Scope → Form (List Sentence)
sentences_by_exit parts scope = do
  position ← key (codes "EXIT")
  where_next begins_exit_word (exit_sentences parts scope position) exit_alone

-- {sentence}
unfoldable pub sentences : {Side Known : Type 0} → Parts Side Known → Scope → Form (List Sentence)
sentences parts scope =
    where_next (is_key (codes "EXIT")) (sentences_by_exit parts scope)
    (sentences_from parts scope [])

-- ---- paragraphs and sections

-- a paragraph with this name, in a section that it begins or none
abbrev pub paragraph_of : Option (List ℕ) → Option (List ℕ) → List Sentence → Paragraph
paragraph_of name section found =
    record { name = name; section = section; sentences = found }

-- the scope of a paragraph: in no loop, and in a section or none
abbrev pub scope_of : Bool → Scope
scope_of in_section = record { in_loop = false; in_section = in_section }

-- the paragraphs so far, a section that has none yet, and whether a section has begun
abbrev pub outline_of : List Paragraph → Option (List ℕ) → Bool → Outline
outline_of done pending in_section =
    record { done = done; pending = pending; in_section = in_section }

-- a section that has no paragraph has an empty one
abbrev pub with_pending : Option (List ℕ) → List Paragraph → List Paragraph
with_pending None done = done
with_pending (Some section) done = done ++ paragraph_of None (Some section) [] ∷ []

-- the first paragraph of a section
unfoldable pub section_start : {Side Known : Type 0} → Parts Side Known →
    List ℕ → List Paragraph → Form Outline
section_start parts name done = do
  found ← sentences parts (scope_of true)
  pure (outline_of (done ++ paragraph_of None (Some name) found ∷ []) None true)

-- pname SECTION . {sentence}
unfoldable pub section : {Side Known : Type 0} → Parts Side Known → List ℕ → Outline → Form Outline
section parts name state = do
  key (codes "SECTION")
  period
  where_next begins_stmt (section_start parts name (with_pending state.pending state.done))
      (pure (outline_of (with_pending state.pending state.done) (Some name) true))

-- one paragraph more
abbrev pub with_paragraph : Paragraph → Outline → Outline
with_paragraph next state = outline_of (state.done ++ next ∷ []) None state.in_section

-- pname . {sentence}
unfoldable pub paragraph : {Side Known : Type 0} → Parts Side Known →
    List ℕ → Outline → Form Outline
paragraph parts name state = do
  period
  found ← sentences parts (scope_of state.in_section)
  pure (with_paragraph (paragraph_of (Some name) state.pending found) state)

-- a paragraph or a section, from its name on
unfoldable pub headed : {Side Known : Type 0} → Parts Side Known → Outline → Form Outline
headed parts state = do
  name ← parts.header_name
  note (parts.duplicate_fault name.0 name.1)
  where_next (is_key (codes "SECTION")) (section parts name.0 state) (paragraph parts name.0 state)

-- any number of paragraphs and sections, after what is before
abbrev pub headed_from : {Side Known : Type 0} → Parts Side Known → Outline → Form Outline
headed_from parts first = loop (begins_procedure parts) (headed parts) first

-- the sentences before the first name
unfoldable pub unnamed_start : {Side Known : Type 0} → Parts Side Known → Form Outline
unnamed_start parts = do
  found ← sentences parts (scope_of false)
  pure (outline_of (paragraph_of None None found ∷ []) None false)

-- the sentences before the first name, if there are any
unfoldable pub start : {Side Known : Type 0} → Parts Side Known → Form Outline
start parts = where_next begins_stmt (unnamed_start parts) (pure (outline_of [] None false))

-- the paragraphs of a division; one without paragraphs has an empty one
abbrev pub at_least_one : List Paragraph → List Paragraph
at_least_one [] = paragraph_of None None [] ∷ []
at_least_one done = done

-- the paragraphs of a division
abbrev pub all_of : Outline → List Paragraph
all_of state = at_least_one (with_pending state.pending state.done)

-- {sentence} {para} {section}
unfoldable pub paragraphs : {Side Known : Type 0} → Parts Side Known → Form (List Paragraph)
paragraphs parts = do
  first ← start parts
  state ← headed_from parts first
  pure (all_of state)

-- ---- [END PROGRAM word .], and nothing after it

-- the program's name after END PROGRAM
unfoldable pub program_name : {Side Known : Type 0} → Parts Side Known → Form (Unit {0})
program_name parts = where_next parts.is_name (word >> pure tt) (refuse Syntax)

-- the end of a program: END PROGRAM word .
unfoldable pub end_program : {Side Known : Type 0} → Parts Side Known → Form (Unit {0})
end_program parts = do
  key (codes "END")
  key (codes "PROGRAM")
  program_name parts
  period
  pure tt

-- the end of a program, if it is written: [END PROGRAM word .]
unfoldable pub end_part : {Side Known : Type 0} → Parts Side Known → Form (Unit {0})
end_part parts = where_next (is_key (codes "END")) (end_program parts) (pure tt)

-- the whole PROCEDURE DIVISION after its header
unfoldable pub division : {Side Known : Type 0} → Parts Side Known → Form (List Paragraph)
division parts = do
  found ← paragraphs parts
  end_part parts
  ended
  pure found
