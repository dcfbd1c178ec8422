-- What sentences, paragraphs and sections give.
use Rattle.std.proofs.Common.{◌≡◌, ℕ, Bool, true, List, [], ◌∷◌, Option, Some, None, refl}
use Rattle.std.specs.Prelude.{codes}
use Rattle.cob_tree.specs.declared.program.Paragraph.{Paragraph}
use Rattle.cob_tree.specs.declared.program.Sentence.{Sentence}
use Rattle.parser_combinators.specs.declared.note.Position.{Position}
use Rattle.cobol_grammar.specs.declared.stmt_forms.outline.Outline.{Outline}
use Rattle.cobol_grammar.specs.declared.stmt_forms.scope.Scope.{Scope}
use Rattle.cobol_grammar.specs.stmt_forms.Part.{Parts}
use Rattle.cobol_grammar.specs.stmt_forms.Laws.{PartsAreLawful}
use Rattle.cobol_grammar.specs.stmt_forms.Arms.{Found}
use Rattle.cob_base.specs.Limit.{max_nesting}
use Rattle.cobol_grammar.specs.stmt_forms.Paragraph as paragraphs
use Rattle.cobol_grammar.proofs.stmt_forms_lemmas.ParagraphLaws as law
use Rattle.program_facts.specs.well_scoped.Part.{Counts, is_filled}
use Rattle.program_facts.specs.well_scoped.Named.{stmt_named, sentence_named, sentences_named, paragraphs_named}
use Rattle.program_facts.proofs.well_scoped_lemmas.Made.{both, all-added, made-Exit}
use Rattle.grammar_laws.specs.form_results.Giving.{Gives}
use Rattle.grammar_laws.specs.form_results.Numbered.{IsNumbered}
use Rattle.grammar_laws.proofs.form_results_lemmas.Giving.{full-one, any, hence, still, pure, refuse, note, key, period, ended, chosen, where_next, loop, items_all, ◌>>=◌, ◌>>◌}
use Rattle.grammar_laws.specs.well_scoped.named_stmts.Parts.{PartsGive}
use Rattle.grammar_laws.proofs.well_scoped_lemmas.named_stmts_lemmas.Simple as simple
use Rattle.grammar_laws.proofs.well_scoped_lemmas.named_stmts_lemmas.Holding as holding
use Rattle.grammar_laws.proofs.well_scoped_lemmas.named_stmts_lemmas.Holding.{Stmts}

module _ (counts : Counts) where
  abbrev paragraph_fine : Paragraph → Bool
  paragraph_fine paragraph = sentences_named counts paragraph.sentences

  sentence_end : (found : Found) → Gives IsNumbered (paragraphs.sentence_end found) (λ sentence. Stmts counts found.0 → sentence_named counts sentence ≡ true)
  unfolding paragraphs.sentence_end paragraphs.sentence_closed
  sentence_end found = chosen found.1 refuse (period >> pure (λ _ h. both h.0 h.1))

  -- a section without a paragraph
  pending_named : (section : Option (List ℕ)) (done : List Paragraph) → paragraphs_named counts done ≡ true → paragraphs_named counts (paragraphs.with_pending section done) ≡ true
  pending_named None done h = h
  pending_named (Some section) done h = all-added paragraph_fine done _ h refl

  one_named : (done : List Paragraph) → paragraphs_named counts done ≡ true → (is_filled (paragraphs.at_least_one done) ≡ true) × (paragraphs_named counts (paragraphs.at_least_one done) ≡ true)
  one_named [] h = (refl, refl)
  one_named (paragraph ∷ done) h = (refl, h)

  module _ {Side Known : Type 0} {parts : Parts Side Known} (lawful : PartsAreLawful parts) (P : PartsGive counts parts) where
    sentence : (scope : Scope) → Gives IsNumbered (paragraphs.sentence parts scope) (λ sentence. sentence_named counts sentence ≡ true)
    unfolding paragraphs.sentence
    sentence scope = holding.stmts_with counts lawful P (holding.level counts lawful P max_nesting) scope >>= sentence_end

    sentences_from : (scope : Scope) {before : List Sentence} → Gives IsNumbered (paragraphs.sentences_from parts scope before)
        (λ list. sentences_named counts before ≡ true → sentences_named counts list ≡ true)
    sentences_from scope = items_all (sentence_named counts) (sentence scope)

    exit_sentence : (scope : Scope) (position : Position) → Gives IsNumbered (paragraphs.exit_sentence parts scope position) (λ sentence. sentence_named counts sentence ≡ true)
    unfolding paragraphs.exit_sentence
    exit_sentence scope position = simple.exit_behind counts scope position >>= (λ first.
        loop {P = λ (found : Found). Stmts counts found.0} (holding.stmts_turn counts lawful P (holding.level counts lawful P max_nesting) scope)
        >>= (λ found. hence (λ sentence h w f. h (w (full-one (stmt_named counts) first f))) (sentence_end found)))

    exit_sentences : (scope : Scope) (position : Position) → Gives IsNumbered (paragraphs.exit_sentences parts scope position) (λ list. sentences_named counts list ≡ true)
    unfolding paragraphs.exit_sentences
    exit_sentences scope position = exit_sentence scope position >>= (λ first. hence (λ list h f. h (both f refl)) (sentences_from scope))

    sentences : (scope : Scope) → Gives IsNumbered (paragraphs.sentences parts scope) (λ list. sentences_named counts list ≡ true)
    unfolding paragraphs.sentences paragraphs.sentences_by_exit paragraphs.exit_alone
    sentences scope =
        where_next (key (codes "EXIT") >>= (λ position. where_next (still (exit_sentences scope position)) (period >> pure (λ _ _. both (both refl (both (made-Exit counts) refl)) refl))))
        (hence (λ list h. h refl) (sentences_from scope))

    abbrev Done : Outline → Type 0
    Done state = paragraphs_named counts state.done ≡ true

    section : (name : List ℕ) (state : Outline) → Gives IsNumbered (paragraphs.section parts name state) (λ last. Done state → Done last)
    unfolding paragraphs.section paragraphs.section_start
    section name state = key (codes "SECTION") >> (period >> where_next
        (sentences _ >>= (λ found. pure (λ f _ _ d. all-added paragraph_fine (paragraphs.with_pending state.pending state.done) _ (pending_named state.pending state.done d) f)))
        (pure (λ _ _ d. pending_named state.pending state.done d)))

    paragraph : (name : List ℕ) (state : Outline) → Gives IsNumbered (paragraphs.paragraph parts name state) (λ last. Done state → Done last)
    unfolding paragraphs.paragraph
    paragraph name state = period >> (sentences _ >>= (λ found. pure (λ f _ d. all-added paragraph_fine state.done _ d f)))

    headed : (state : Outline) → Gives IsNumbered (paragraphs.headed parts state) (λ last. Done state → Done last)
    unfolding paragraphs.headed
    headed state = any lawful.header_name >>= (λ name. note >> where_next (still (still (section name.0 state))) (still (still (paragraph name.0 state))))

    start : Gives IsNumbered (paragraphs.start parts) Done
    unfolding paragraphs.start paragraphs.unnamed_start
    start = where_next (sentences _ >>= (λ found. pure (λ f. both f refl))) (pure refl)

    all_paragraphs : Gives IsNumbered (paragraphs.paragraphs parts) (λ found. (is_filled found ≡ true) × (paragraphs_named counts found ≡ true))
    unfolding paragraphs.paragraphs
    all_paragraphs = start >>= (λ first. loop {P = Done} headed >>= (λ state.
        pure (λ h d. one_named (paragraphs.with_pending state.pending state.done) (pending_named state.pending state.done (h d)))))

    pub division : Gives IsNumbered (paragraphs.division parts) (λ found. (is_filled found ≡ true) × (paragraphs_named counts found ≡ true))
    unfolding paragraphs.division
    division = all_paragraphs >>= (λ found. any (law.end_part lawful) >> (ended >> pure (λ _ _ h. h)))
