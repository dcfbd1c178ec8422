-- Sentences, paragraphs, sections and the division are lawful.
use Rattle.std.proofs.Common.{ℕ, true, false, List}
use Rattle.std.specs.Prelude.{codes}
use Rattle.cob_tree.specs.declared.program.Sentence.{Sentence}
use Rattle.parser_combinators.specs.declared.note.Position.{Position}
use Rattle.parser_combinators.proofs.MakerLaws.{Law, pure, refuse, note, key, period, word, chosen, where_next, loop, added, ended, loose, ◌>>=◌, ◌>>◌}
use Rattle.cobol_grammar.specs.declared.stmt_forms.outline.Outline.{Outline}
use Rattle.cobol_grammar.specs.declared.stmt_forms.scope.Scope.{Scope}
use Rattle.cobol_grammar.specs.stmt_forms.Part.{Parts}
use Rattle.cobol_grammar.specs.stmt_forms.Laws.{PartsAreLawful}
use Rattle.cobol_grammar.specs.stmt_forms.Arms.{Found}
use Rattle.cob_base.specs.Limit.{max_nesting}
use Rattle.cobol_grammar.specs.stmt_forms.Paragraph as paragraphs
use Rattle.cobol_grammar.proofs.stmt_forms_lemmas.SimpleLaws as simple
use Rattle.cobol_grammar.proofs.stmt_forms_lemmas.HoldingLaws as holding

pub sentence_end : (found : Found) → Law false (paragraphs.sentence_end found)
unfolding paragraphs.sentence_end paragraphs.sentence_closed
sentence_end found = chosen found.1 refuse (loose (period >> pure))

module _ {Side Known : Type 0} {parts : Parts Side Known} (P : PartsAreLawful parts) where
  pub sentence : (scope : Scope) → Law true (paragraphs.sentence parts scope)
  unfolding paragraphs.sentence
  sentence scope = holding.stmts P max_nesting scope >>= sentence_end

  pub sentences_from : (scope : Scope) {before : List Sentence} → Law false (paragraphs.sentences_from parts scope before)
  sentences_from scope = loop (λ front. added front (sentence scope))

  pub exit_sentence : (scope : Scope) (position : Position) → Law true (paragraphs.exit_sentence parts scope position)
  unfolding paragraphs.exit_sentence
  exit_sentence scope position = simple.exit_behind scope position >>= (λ first. loop (holding.stmts_turn P (holding.level P max_nesting) scope) >>= sentence_end)

  pub exit_sentences : (scope : Scope) (position : Position) → Law true (paragraphs.exit_sentences parts scope position)
  unfolding paragraphs.exit_sentences
  exit_sentences scope position = exit_sentence scope position >>= (λ first. sentences_from scope)

  pub sentences : (scope : Scope) → Law false (paragraphs.sentences parts scope)
  unfolding paragraphs.sentences paragraphs.sentences_by_exit paragraphs.exit_alone
  sentences scope = where_next (loose (key (codes "EXIT") >>= (λ position. where_next (exit_sentences scope position) (period >> pure)))) (sentences_from scope)

  pub section : (name : List ℕ) (state : Outline) → Law true (paragraphs.section parts name state)
  unfolding paragraphs.section paragraphs.section_start
  section name state = key (codes "SECTION") >> (period >> where_next (loose (sentences _ >>= (λ found. pure))) pure)

  pub paragraph : (name : List ℕ) (state : Outline) → Law true (paragraphs.paragraph parts name state)
  unfolding paragraphs.paragraph
  paragraph name state = period >> (sentences _ >>= (λ found. pure))

  pub headed : (state : Outline) → Law true (paragraphs.headed parts state)
  unfolding paragraphs.headed
  headed state = P.header_name >>= (λ name. note >> where_next (section name.0 state) (paragraph name.0 state))

  pub start : Law false (paragraphs.start parts)
  unfolding paragraphs.start paragraphs.unnamed_start
  start = where_next (sentences _ >>= (λ found. pure)) pure

  pub all : Law false (paragraphs.paragraphs parts)
  unfolding paragraphs.paragraphs
  all = start >>= (λ first. loop headed >>= (λ state. pure))

  pub end_part : Law false (paragraphs.end_part parts)
  unfolding paragraphs.end_part paragraphs.end_program paragraphs.program_name
  end_part = where_next (loose (key (codes "END") >> (key (codes "PROGRAM") >> (where_next (word >> pure) refuse >> (period >> pure))))) pure

  pub division : Law false (paragraphs.division parts)
  unfolding paragraphs.division
  division = all >>= (λ found. end_part >> (ended >> pure))
