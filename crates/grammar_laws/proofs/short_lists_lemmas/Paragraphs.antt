-- What sentences, paragraphs and sections give of few tokens.
use Rattle.std.proofs.Common.{◌≡◌, ◌<◌, ◌^◌, ℕ, Bool, true, List, [], ◌∷◌, Option, Some, None, refl, ap, sym, ◌∙◌}
use Rattle.std.specs.Prelude.{codes}
use Rattle.cob_tree.specs.declared.program.Paragraph.{Paragraph}
use Rattle.cob_tree.specs.declared.program.Sentence.{Sentence}
use Rattle.cob_tree.specs.declared.stmt.Stmt.{fold-roll-Stmt}
use Rattle.cob_tree.specs.declared.stmt.Stmt.TheOpen.{Stmt-F}
use Rattle.cob_tree.specs.declared.stmt.Stmt.TheVariants as stmts
use Rattle.cobol_theory.specs.fit_programs.Fit.{few_step, few_arms, few_when}
use Rattle.parser_combinators.specs.declared.note.Position.{Position}
use Rattle.parser_combinators.proofs.MakerLaws as laws
use Rattle.cobol_grammar.specs.declared.stmt_forms.outline.Outline.{Outline}
use Rattle.cobol_grammar.specs.declared.stmt_forms.scope.Scope.{Scope}
use Rattle.cobol_grammar.specs.stmt_forms.Part.{Parts}
use Rattle.cobol_grammar.specs.stmt_forms.Laws.{PartsAreLawful}
use Rattle.cobol_grammar.specs.stmt_forms.Arms.{Found}
use Rattle.cob_base.specs.Limit.{max_nesting}
use Rattle.cobol_grammar.specs.stmt_forms.Paragraph as paragraphs
use Rattle.cobol_grammar.proofs.stmt_forms_lemmas.ParagraphLaws as law
use Rattle.program_facts.proofs.well_scoped_lemmas.Made.{both, all-added}
use Rattle.grammar_laws.specs.short_lists.Giving.{GivesOfFew}
use Rattle.grammar_laws.specs.short_lists.Paragraph.{sentence_names_few, sentences_name_few, paragraph_names_few, paragraphs_name_few}
use Rattle.grammar_laws.proofs.short_lists_lemmas.Giving.{any, hence, still, pure, refuse, chosen, where_next, loop, items_all, ◌>>=◌, ◌>>◌}
use Rattle.grammar_laws.proofs.short_lists_lemmas.Passing.{Passes, Stmts, stmt_passes}
use Rattle.grammar_laws.proofs.short_lists_lemmas.Simple as simple
use Rattle.grammar_laws.proofs.short_lists_lemmas.Holding as holding
use Rattle.grammar_laws.proofs.short_lists_lemmas.Few.{few_fold, few-by-parts}

abbrev Sentences : List Sentence → Type 0
Sentences list = sentences_name_few list ≡ true

abbrev Paragraphs : List Paragraph → Type 0
Paragraphs list = paragraphs_name_few list ≡ true

abbrev Done : Outline → Type 0
Done state = Paragraphs state.done

-- a section without a paragraph
pending_few : (section : Option (List ℕ)) (done : List Paragraph) → Paragraphs done → Paragraphs (paragraphs.with_pending section done)
pending_few None done h = h
pending_few (Some section) done h = all-added paragraph_names_few done _ h refl

one_few : (done : List Paragraph) → Paragraphs done → Paragraphs (paragraphs.at_least_one done)
one_few [] h = refl
one_few (paragraph ∷ done) h = h

made-Exit : Passes few_fold stmts.Exit
made-Exit =
    ap (stmt_passes few_fold) (sym stmts.rolls-Exit) ∙ fold-roll-Stmt Bool Bool Bool few_step few_arms few_when Stmt-F.Exit

module _ (bound : ℕ) (small : bound < 10 ^ 18) where
  sentence_end : (found : Found) → GivesOfFew bound (paragraphs.sentence_end found) (λ sentence. Stmts few_fold found.0 → sentence_names_few sentence ≡ true)
  unfolding paragraphs.sentence_end paragraphs.sentence_closed
  sentence_end found = chosen found.1 refuse (laws.period >> pure (λ h. h))

  module _ {Side Known : Type 0} {parts : Parts Side Known} (lawful : PartsAreLawful parts) where
    sentence : (scope : Scope) → GivesOfFew bound (paragraphs.sentence parts scope) (λ sentence. sentence_names_few sentence ≡ true)
    unfolding paragraphs.sentence
    sentence scope = holding.stmts_with (few-by-parts bound small) lawful (holding.level (few-by-parts bound small) lawful max_nesting) scope >>= sentence_end

    sentences_from : (scope : Scope) {before : List Sentence} → GivesOfFew bound (paragraphs.sentences_from parts scope before) (λ list. Sentences before → Sentences list)
    sentences_from scope = items_all sentence_names_few (sentence scope)

    exit_sentence : (scope : Scope) (position : Position) → GivesOfFew bound (paragraphs.exit_sentence parts scope position) (λ sentence. sentence_names_few sentence ≡ true)
    unfolding paragraphs.exit_sentence
    exit_sentence scope position = simple.exit_behind (few-by-parts bound small) scope position >>= (λ first.
        loop {P = λ (found : Found). Stmts few_fold found.0} (holding.stmts_turn (few-by-parts bound small) lawful (holding.level (few-by-parts bound small) lawful max_nesting) scope)
        >>= (λ found. hence (λ sentence h w f. h (w (both f refl))) (sentence_end found)))

    exit_sentences : (scope : Scope) (position : Position) → GivesOfFew bound (paragraphs.exit_sentences parts scope position) Sentences
    unfolding paragraphs.exit_sentences
    exit_sentences scope position = exit_sentence scope position >>= (λ first. hence (λ list h f. h (both f refl)) (sentences_from scope))

    sentences : (scope : Scope) → GivesOfFew bound (paragraphs.sentences parts scope) Sentences
    unfolding paragraphs.sentences paragraphs.sentences_by_exit paragraphs.exit_alone
    sentences scope =
        where_next (any (laws.key (codes "EXIT")) >>= (λ position. still (where_next (exit_sentences scope position) (laws.period >> pure (both (both made-Exit refl) refl)))))
        (hence (λ list h. h refl) (sentences_from scope))

    section : (name : List ℕ) (state : Outline) → GivesOfFew bound (paragraphs.section parts name state) (λ last. Done state → Done last)
    unfolding paragraphs.section paragraphs.section_start
    section name state = laws.key (codes "SECTION") >> (laws.period >> where_next
        (sentences _ >>= (λ found. pure (λ f d. all-added paragraph_names_few (paragraphs.with_pending state.pending state.done) _ (pending_few state.pending state.done d) f)))
        (pure (λ d. pending_few state.pending state.done d)))

    paragraph : (name : List ℕ) (state : Outline) → GivesOfFew bound (paragraphs.paragraph parts name state) (λ last. Done state → Done last)
    unfolding paragraphs.paragraph
    paragraph name state = laws.period >> (sentences _ >>= (λ found. pure (λ f d. all-added paragraph_names_few state.done _ d f)))

    headed : (state : Outline) → GivesOfFew bound (paragraphs.headed parts state) (λ last. Done state → Done last)
    unfolding paragraphs.headed
    headed state = any lawful.header_name >>= (λ name. still (laws.note >> where_next (section name.0 state) (paragraph name.0 state)))

    start : GivesOfFew bound (paragraphs.start parts) Done
    unfolding paragraphs.start paragraphs.unnamed_start
    start = where_next (sentences _ >>= (λ found. pure (λ f. both f refl))) (pure refl)

    all_paragraphs : GivesOfFew bound (paragraphs.paragraphs parts) Paragraphs
    unfolding paragraphs.paragraphs
    all_paragraphs = start >>= (λ first. loop {P = Done} headed >>= (λ state.
        pure (λ h d. one_few (paragraphs.with_pending state.pending state.done) (pending_few state.pending state.done (h d)))))

    pub division : GivesOfFew bound (paragraphs.division parts) Paragraphs
    unfolding paragraphs.division
    division = all_paragraphs >>= (λ found. law.end_part lawful >> (laws.ended >> pure (λ h. h)))
