-- What sentences, paragraphs and sections give.
use Rattle.std.proofs.Common.{◌≡◌, ℕ, true, List, [], ◌∷◌, Option, Some, None, refl}
use Rattle.std.specs.Prelude.{codes}
use Rattle.cob_tree.specs.declared.entry.Entry.{Entry}
use Rattle.cob_tree.specs.declared.program.Paragraph.{Paragraph}
use Rattle.cob_tree.specs.declared.program.Sentence.{Sentence}
use Rattle.parser_combinators.specs.declared.note.Position.{Position}
use Rattle.cobol_grammar.specs.declared.stmt_forms.outline.Outline.{Outline}
use Rattle.cobol_grammar.specs.declared.stmt_forms.scope.Scope.{Scope}
use Rattle.cobol_grammar.specs.stmt_forms.Part.{Parts}
use Rattle.cobol_grammar.specs.stmt_forms.Laws.{PartsAreLawful}
use Rattle.cobol_grammar.specs.stmt_forms.Arms.{Found}
use Rattle.cob_base.specs.Limit.{max_nesting}
use Rattle.cobol_grammar.specs.stmt_forms.Paragraph as paragraphs
use Rattle.cobol_grammar.proofs.stmt_forms_lemmas.ParagraphLaws as law
use Rattle.program_facts.proofs.well_scoped_lemmas.Made.{both, all-added}
use Rattle.grammar_laws.specs.form_results.Giving.{Gives}
use Rattle.grammar_laws.specs.form_results.Numbered.{IsNumbered}
use Rattle.grammar_laws.proofs.form_results_lemmas.Giving.{any, hence, still, pure, refuse, note, key, period, ended, chosen, where_next, loop, items_all, ◌>>=◌, ◌>>◌}
use Rattle.grammar_laws.specs.whole_counts.whole_stmts.Paragraph.{sentence_counts_whole, sentences_count_whole, paragraph_counts_whole, paragraphs_count_whole}
use Rattle.grammar_laws.specs.whole_counts.whole_stmts.Parts.{PartsCountWhole}
use Rattle.grammar_laws.proofs.whole_counts_lemmas.whole_stmts_lemmas.Made.{made-Exit}
use Rattle.grammar_laws.proofs.whole_counts_lemmas.whole_stmts_lemmas.Simple as simple
use Rattle.grammar_laws.proofs.whole_counts_lemmas.whole_stmts_lemmas.Simple.{Stmts}
use Rattle.grammar_laws.proofs.whole_counts_lemmas.whole_stmts_lemmas.Holding as holding

module _ (entries : List Entry) where
  abbrev Sentences : List Sentence → Type 0
  Sentences list = sentences_count_whole entries list ≡ true

  abbrev Paragraphs : List Paragraph → Type 0
  Paragraphs list = paragraphs_count_whole entries list ≡ true

  sentence_end : (found : Found) → Gives IsNumbered (paragraphs.sentence_end found) (λ sentence. Stmts entries found.0 → sentence_counts_whole entries sentence ≡ true)
  unfolding paragraphs.sentence_end paragraphs.sentence_closed
  sentence_end found = chosen found.1 refuse (period >> pure (λ _ h. h))

  -- a section without a paragraph
  pending_whole : (section : Option (List ℕ)) (done : List Paragraph) → Paragraphs done → Paragraphs (paragraphs.with_pending section done)
  pending_whole None done h = h
  pending_whole (Some section) done h = all-added (paragraph_counts_whole entries) done _ h refl

  one_whole : (done : List Paragraph) → Paragraphs done → Paragraphs (paragraphs.at_least_one done)
  one_whole [] h = refl
  one_whole (paragraph ∷ done) h = h

  module _ {Side Known : Type 0} {parts : Parts Side Known} (lawful : PartsAreLawful parts) (P : PartsCountWhole entries parts) where
    sentence : (scope : Scope) → Gives IsNumbered (paragraphs.sentence parts scope) (λ sentence. sentence_counts_whole entries sentence ≡ true)
    unfolding paragraphs.sentence
    sentence scope = holding.stmts_with entries lawful P (holding.level entries lawful P max_nesting) scope >>= sentence_end

    sentences_from : (scope : Scope) {before : List Sentence} → Gives IsNumbered (paragraphs.sentences_from parts scope before) (λ list. Sentences before → Sentences list)
    sentences_from scope = items_all (sentence_counts_whole entries) (sentence scope)

    exit_sentence : (scope : Scope) (position : Position) → Gives IsNumbered (paragraphs.exit_sentence parts scope position) (λ sentence. sentence_counts_whole entries sentence ≡ true)
    unfolding paragraphs.exit_sentence
    exit_sentence scope position = simple.exit_behind entries scope position >>= (λ first.
        loop {P = λ (found : Found). Stmts entries found.0} (holding.stmts_turn entries lawful P (holding.level entries lawful P max_nesting) scope)
        >>= (λ found. hence (λ sentence h w f. h (w (both f refl))) (sentence_end found)))

    exit_sentences : (scope : Scope) (position : Position) → Gives IsNumbered (paragraphs.exit_sentences parts scope position) Sentences
    unfolding paragraphs.exit_sentences
    exit_sentences scope position = exit_sentence scope position >>= (λ first. hence (λ list h f. h (both f refl)) (sentences_from scope))

    sentences : (scope : Scope) → Gives IsNumbered (paragraphs.sentences parts scope) Sentences
    unfolding paragraphs.sentences paragraphs.sentences_by_exit paragraphs.exit_alone
    sentences scope =
        where_next (key (codes "EXIT") >>= (λ position. where_next (still (exit_sentences scope position)) (period >> pure (λ _ _. both (both (made-Exit entries) refl) refl))))
        (hence (λ list h. h refl) (sentences_from scope))

    abbrev Done : Outline → Type 0
    Done state = Paragraphs state.done

    section : (name : List ℕ) (state : Outline) → Gives IsNumbered (paragraphs.section parts name state) (λ last. Done state → Done last)
    unfolding paragraphs.section paragraphs.section_start
    section name state = key (codes "SECTION") >> (period >> where_next
        (sentences _ >>= (λ found. pure (λ f _ _ d. all-added (paragraph_counts_whole entries) (paragraphs.with_pending state.pending state.done) _ (pending_whole state.pending state.done d) f)))
        (pure (λ _ _ d. pending_whole state.pending state.done d)))

    paragraph : (name : List ℕ) (state : Outline) → Gives IsNumbered (paragraphs.paragraph parts name state) (λ last. Done state → Done last)
    unfolding paragraphs.paragraph
    paragraph name state = period >> (sentences _ >>= (λ found. pure (λ f _ d. all-added (paragraph_counts_whole entries) state.done _ d f)))

    headed : (state : Outline) → Gives IsNumbered (paragraphs.headed parts state) (λ last. Done state → Done last)
    unfolding paragraphs.headed
    headed state = any lawful.header_name >>= (λ name. note >> where_next (still (still (section name.0 state))) (still (still (paragraph name.0 state))))

    start : Gives IsNumbered (paragraphs.start parts) Done
    unfolding paragraphs.start paragraphs.unnamed_start
    start = where_next (sentences _ >>= (λ found. pure (λ f. both f refl))) (pure refl)

    all_paragraphs : Gives IsNumbered (paragraphs.paragraphs parts) Paragraphs
    unfolding paragraphs.paragraphs
    all_paragraphs = start >>= (λ first. loop {P = Done} headed >>= (λ state.
        pure (λ h d. one_whole (paragraphs.with_pending state.pending state.done) (pending_whole state.pending state.done (h d)))))

    pub division : Gives IsNumbered (paragraphs.division parts) Paragraphs
    unfolding paragraphs.division
    division = all_paragraphs >>= (λ found. any (law.end_part lawful) >> (ended >> pure (λ _ _ h. h)))
