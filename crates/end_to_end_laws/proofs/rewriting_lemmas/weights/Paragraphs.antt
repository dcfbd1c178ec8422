-- The paragraphs of a division weigh no more than its tokens, and one.
use Rattle.std.proofs.Common.{◌≤◌, ◌+◌, ℕ, List, [], ◌∷◌, Option, Some, None, arith}
use Rattle.std.specs.Prelude.{codes}
use Rattle.cob_tree.specs.declared.program.Paragraph.{Paragraph}
use Rattle.cob_tree.specs.declared.program.Sentence.{Sentence}
use Rattle.cob_base.specs.Limit.{max_nesting}
use Rattle.parser_combinators.specs.declared.note.Position.{Position}
use Rattle.parser_combinators.proofs.MakerLaws as laws
use Rattle.cobol_grammar.specs.declared.stmt_forms.outline.Outline.{Outline}
use Rattle.cobol_grammar.specs.declared.stmt_forms.scope.Scope.{Scope}
use Rattle.cobol_grammar.specs.stmt_forms.Part.{Parts}
use Rattle.cobol_grammar.specs.stmt_forms.Laws.{PartsAreLawful}
use Rattle.cobol_grammar.specs.stmt_forms.Arms.{Found}
use Rattle.cobol_grammar.specs.stmt_forms.Paragraph as paragraphs
use Rattle.cobol_grammar.proofs.stmt_forms_lemmas.ParagraphLaws as law
use Rattle.end_to_end_laws.proofs.rewriting_lemmas.weights.Weights as made
use Rattle.end_to_end_laws.proofs.rewriting_lemmas.weights.Weights.{one-more, paragraph_weighs, paragraphs_weigh, sentence_weighs, sentences_weigh, stmts_weigh}
use Rattle.end_to_end_laws.proofs.rewriting_lemmas.weights.Weighing.{Weighs, any, chosen, eased, framed, items, loop, pure, refuse, takes, where_next, ◌>>=◌, ◌>>◌}
use Rattle.end_to_end_laws.proofs.rewriting_lemmas.weights.Simple as simple
use Rattle.end_to_end_laws.proofs.rewriting_lemmas.weights.Holding as holding

-- a section without a paragraph will have one
abbrev pending_weighs : Option (List ℕ) → ℕ
pending_weighs None = 0
pending_weighs (Some section) = 1

abbrev outline_weighs : Outline → ℕ
outline_weighs state = 1 + (paragraphs_weigh state.done + pending_weighs state.pending)

with-pending : (section : Option (List ℕ)) (done : List Paragraph) → paragraphs_weigh (paragraphs.with_pending section done) ≤ paragraphs_weigh done + pending_weighs section
with-pending None done = omega arith
with-pending (Some section) done =
    let h = one-more paragraph_weighs done (paragraphs.paragraph_of None (Some section) []) in
    omega (arith, h)

at-least-one : (done : List Paragraph) → paragraphs_weigh (paragraphs.at_least_one done) ≤ 1 + paragraphs_weigh done
at-least-one [] = omega arith
at-least-one (paragraph ∷ done) = omega arith

sentence_end : (found : Found) → Weighs (stmts_weigh found.0) (paragraphs.sentence_end found) sentence_weighs
unfolding paragraphs.sentence_end paragraphs.sentence_closed
sentence_end found = chosen found.1 refuse (any laws.period >>= (λ _. pure (omega arith)))

module _ {Side Known : Type 0} {parts : Parts Side Known} (lawful : PartsAreLawful parts) where
  sentence : (scope : Scope) → Weighs 0 (paragraphs.sentence parts scope) sentence_weighs
  unfolding paragraphs.sentence
  sentence scope = holding.stmts_with lawful (holding.level lawful max_nesting) scope >>= (λ found. sentence_end found)

  sentences_from : (scope : Scope) {before : List Sentence} → Weighs (sentences_weigh before) (paragraphs.sentences_from parts scope before) sentences_weigh
  sentences_from scope = items sentence_weighs (sentence scope)

  exit_sentence : (scope : Scope) (position : Position) → Weighs 0 (paragraphs.exit_sentence parts scope position) sentence_weighs
  unfolding paragraphs.exit_sentence
  exit_sentence scope position = eased (omega arith) (λ stmt. omega arith) (simple.exit_behind scope position) >>= (λ first.
      loop {w = λ (found : Found). stmts_weigh found.0} (holding.stmts_turn lawful (holding.level lawful max_nesting) scope) >>= (λ found. sentence_end found))

  exit_sentences : (scope : Scope) (position : Position) → Weighs 0 (paragraphs.exit_sentences parts scope position) sentences_weigh
  unfolding paragraphs.exit_sentences
  exit_sentences scope position = eased (omega arith) (λ sentence. omega arith) (exit_sentence scope position) >>= (λ first. sentences_from scope)

  sentences : (scope : Scope) → Weighs 0 (paragraphs.sentences parts scope) sentences_weigh
  unfolding paragraphs.sentences paragraphs.sentences_by_exit paragraphs.exit_alone
  sentences scope =
      where_next (takes (laws.key (codes "EXIT")) >>= (λ position. where_next (eased (omega arith) (λ list. omega arith) (exit_sentences scope position)) (any laws.period >>= (λ _. pure (let h = made.made-Exit in omega (arith, h))))))
      (sentences_from scope)

  section : (name : List ℕ) (state : Outline) → Weighs (outline_weighs state) (paragraphs.section parts name state) outline_weighs
  unfolding paragraphs.section paragraphs.section_start
  section name state = laws.key (codes "SECTION") >> (any laws.period >>= (λ _. where_next
      (framed (sentences _) >>= (λ found. pure (
      let more = one-more paragraph_weighs (paragraphs.with_pending state.pending state.done) (paragraphs.paragraph_of None (Some name) found) in
      let pending = with-pending state.pending state.done in
      omega (arith, more, pending))))
      (pure (let pending = with-pending state.pending state.done in omega (arith, pending)))))

  paragraph : (name : List ℕ) (state : Outline) → Weighs (outline_weighs state) (paragraphs.paragraph parts name state) outline_weighs
  unfolding paragraphs.paragraph
  paragraph name state = laws.period >> (framed (sentences _) >>= (λ found. pure (
      let more = one-more paragraph_weighs state.done (paragraphs.paragraph_of (Some name) state.pending found) in
      omega (arith, more))))

  headed : (state : Outline) → Weighs (outline_weighs state) (paragraphs.headed parts state) outline_weighs
  unfolding paragraphs.headed
  headed state = any lawful.header_name >>= (λ name. any laws.note >>= (λ _. where_next (section name.0 state) (paragraph name.0 state)))

  start : Weighs 2 (paragraphs.start parts) outline_weighs
  unfolding paragraphs.start paragraphs.unnamed_start
  start = where_next (framed (sentences _) >>= (λ found. pure (omega arith))) (pure (omega arith))

  all_paragraphs : Weighs 2 (paragraphs.paragraphs parts) paragraphs_weigh
  unfolding paragraphs.paragraphs
  all_paragraphs = start >>= (λ first. loop {w = outline_weighs} headed >>= (λ state.
      pure (
      let one = at-least-one (paragraphs.with_pending state.pending state.done) in
      let pending = with-pending state.pending state.done in
      omega (arith, one, pending))))

  pub division : Weighs 2 (paragraphs.division parts) paragraphs_weigh
  unfolding paragraphs.division
  division = all_paragraphs >>= (λ found. any (law.end_part lawful) >>= (λ _. any laws.ended >>= (λ _. pure (omega arith))))
