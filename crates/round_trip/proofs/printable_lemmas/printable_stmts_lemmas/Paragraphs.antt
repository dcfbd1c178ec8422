-- What sentences, paragraphs and sections give.
use Rattle.std.proofs.Common.{◌≡◌, ℕ, true, List, [], ◌∷◌, ◌++◌, Option, Some, None, refl}
use Rattle.std.specs.Prelude.{codes}
use Rattle.cob_tree.specs.declared.program.Paragraph.{Paragraph}
use Rattle.cob_tree.specs.declared.program.Sentence.{Sentence}
use Rattle.parser_combinators.specs.declared.note.Position.{Position}
use Rattle.cobol_grammar.specs.declared.stmt_forms.outline.Outline.{Outline}
use Rattle.cobol_grammar.specs.declared.stmt_forms.scope.Scope.{Scope}
use Rattle.cobol_grammar.specs.stmt_forms.Part.{Parts}
use Rattle.cobol_grammar.specs.stmt_forms.Laws.{PartsAreLawful}
use Rattle.cobol_grammar.specs.stmt_forms.Arms.{Found}
use Rattle.cob_base.specs.Limit.{max_nesting}
use Rattle.cobol_grammar.specs.stmt_forms.Paragraph as paragraphs
use Rattle.cobol_grammar.proofs.stmt_forms_lemmas.ParagraphLaws as law
use Rattle.program_facts.proofs.well_scoped_lemmas.Made.{both}
use Rattle.grammar_laws.specs.form_results.Giving.{Gives, Each}
use Rattle.grammar_laws.proofs.form_results_lemmas.Giving.{full-one, any, hence, still, pure, refuse, note, key, period, ended, chosen, where_next, loop, items_all, ◌>>=◌, ◌>>◌}
use Rattle.round_trip.specs.printable.printable_tokens.Header.{IsHeaderName}
use Rattle.round_trip.specs.printable.printable_tokens.Printable.{IsPrintable}
use Rattle.round_trip.specs.printable.Statement.{is_printable_stmt, is_printable_sentence, are_printable_sentences}
use Rattle.round_trip.specs.printable.Whole.{IfNamed, IsPrintableParagraph}
use Rattle.round_trip.proofs.printable_lemmas.Made.{made-Exit}
use Rattle.round_trip.specs.printable.printable_stmts.Printable.{PartsPrint}
use Rattle.round_trip.proofs.printable_lemmas.printable_stmts_lemmas.Simple as simple
use Rattle.round_trip.proofs.printable_lemmas.printable_stmts_lemmas.Holding as holding
use Rattle.round_trip.proofs.printable_lemmas.printable_stmts_lemmas.Holding.{Stmts}

pub each-added : {A : Type 0} (P : A → Type 0) (list : List A) (x : A) → Each P list → P x → Each P (list ++ x ∷ [])
each-added P [] x h k = (k, tt)
each-added P (y ∷ list) x h k = (h.0, each-added P list x h.1 k)

sentence_end : (found : Found) → Gives IsPrintable (paragraphs.sentence_end found) (λ sentence. Stmts found.0 → is_printable_sentence sentence ≡ true)
unfolding paragraphs.sentence_end paragraphs.sentence_closed
sentence_end found = chosen found.1 refuse (period >> pure (λ _ h. h.1))

module _ {Side Known : Type 0} {parts : Parts Side Known} (lawful : PartsAreLawful parts) (P : PartsPrint parts) where
  abbrev Paragraphs : List Paragraph → Type 0
  Paragraphs done = Each IsPrintableParagraph done

  -- a section without a paragraph
  pending-fine : (section : Option (List ℕ)) (done : List Paragraph) → IfNamed section → Paragraphs done → Paragraphs (paragraphs.with_pending section done)
  pending-fine None done n h = h
  pending-fine (Some section) done n h = each-added IsPrintableParagraph done _ h (record { name = tt; section = n; sentences = refl })

  one-fine : (done : List Paragraph) → Paragraphs done → Paragraphs (paragraphs.at_least_one done)
  one-fine [] h = (record { name = tt; section = tt; sentences = refl }, tt)
  one-fine (paragraph ∷ done) h = h

  sentence : (scope : Scope) → Gives IsPrintable (paragraphs.sentence parts scope) (λ sentence. is_printable_sentence sentence ≡ true)
  unfolding paragraphs.sentence
  sentence scope = holding.stmts_with lawful P (holding.level lawful P max_nesting) scope >>= sentence_end

  sentences_from : (scope : Scope) {before : List Sentence} → Gives IsPrintable (paragraphs.sentences_from parts scope before)
      (λ list. are_printable_sentences before ≡ true → are_printable_sentences list ≡ true)
  sentences_from scope = items_all is_printable_sentence (sentence scope)

  exit_sentence : (scope : Scope) (position : Position) → Gives IsPrintable (paragraphs.exit_sentence parts scope position) (λ sentence. is_printable_sentence sentence ≡ true)
  unfolding paragraphs.exit_sentence
  exit_sentence scope position = simple.exit_behind scope position >>= (λ first.
      loop {P = λ (found : Found). Stmts found.0} (holding.stmts_turn lawful P (holding.level lawful P max_nesting) scope)
      >>= (λ found. hence (λ sentence h w f. h (w (full-one is_printable_stmt first f))) (sentence_end found)))

  exit_sentences : (scope : Scope) (position : Position) → Gives IsPrintable (paragraphs.exit_sentences parts scope position) (λ list. are_printable_sentences list ≡ true)
  unfolding paragraphs.exit_sentences
  exit_sentences scope position = exit_sentence scope position >>= (λ first. hence (λ list h f. h (both f refl)) (sentences_from scope))

  sentences : (scope : Scope) → Gives IsPrintable (paragraphs.sentences parts scope) (λ list. are_printable_sentences list ≡ true)
  unfolding paragraphs.sentences paragraphs.sentences_by_exit paragraphs.exit_alone
  sentences scope =
      where_next (key (codes "EXIT") >>= (λ position. where_next (still (exit_sentences scope position)) (period >> pure (λ _ _. both (both made-Exit refl) refl))))
      (hence (λ list h. h refl) (sentences_from scope))

  -- what is read, and the name of a section that has no paragraph yet
  abbrev Done : Outline → Type 0
  Done state = Paragraphs state.done × IfNamed state.pending

  section : (name : List ℕ) (state : Outline) → Gives IsPrintable (paragraphs.section parts name state) (λ last. IsHeaderName name → Done state → Done last)
  unfolding paragraphs.section paragraphs.section_start
  section name state = key (codes "SECTION") >> (period >> where_next
      (sentences _ >>= (λ found. pure (λ f _ _ n d. (
        each-added IsPrintableParagraph (paragraphs.with_pending state.pending state.done) _ (pending-fine state.pending state.done d.1 d.0)
            (record { name = tt; section = n; sentences = f }),
        tt,
      ))))
      (pure (λ _ _ n d. (pending-fine state.pending state.done d.1 d.0, n))))

  paragraph : (name : List ℕ) (state : Outline) → Gives IsPrintable (paragraphs.paragraph parts name state) (λ last. IsHeaderName name → Done state → Done last)
  unfolding paragraphs.paragraph
  paragraph name state = period >> (sentences _ >>= (λ found.
      pure (λ f _ n d. (each-added IsPrintableParagraph state.done _ d.0 (record { name = n; section = d.1; sentences = f }), tt))))

  headed : (state : Outline) → Gives IsPrintable (paragraphs.headed parts state) (λ last. Done state → Done last)
  unfolding paragraphs.headed
  headed state = P.header_name >>= (λ name. note >> where_next (hence (λ last h _ n. h n) (section name.0 state)) (hence (λ last h _ n. h n) (paragraph name.0 state)))

  start : Gives IsPrintable (paragraphs.start parts) Done
  unfolding paragraphs.start paragraphs.unnamed_start
  start = where_next (sentences _ >>= (λ found. pure (λ f. ((record { name = tt; section = tt; sentences = f }, tt), tt)))) (pure (tt, tt))

  all_paragraphs : Gives IsPrintable (paragraphs.paragraphs parts) Paragraphs
  unfolding paragraphs.paragraphs
  all_paragraphs = start >>= (λ first. loop {P = Done} headed >>= (λ state.
      pure (λ h d. let last = h d in one-fine (paragraphs.with_pending state.pending state.done) (pending-fine state.pending state.done last.1 last.0))))

  pub division : Gives IsPrintable (paragraphs.division parts) Paragraphs
  unfolding paragraphs.division
  division = all_paragraphs >>= (λ found. any (law.end_part lawful) >> (ended >> pure (λ _ _ h. h)))
