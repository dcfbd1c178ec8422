-- Paragraphs and sections, and the whole division.
use Rattle.std.proofs.Common.{◌≡◌, ℕ, Bool, true, false, ◌||◌, is_some, inr, List, [], ◌∷◌, ◌++◌, Option, Some, None, refl, sym, subst, ◌∙◌}
use Rattle.std.specs.Prelude.{codes}
use Rattle.cob_tree.specs.declared.program.Paragraph.{Paragraph}
use Rattle.cob_tree.specs.declared.program.Sentence.{Sentence}
use Rattle.cobol_lex.specs.declared.token.TokenKind.{TokenKind}
use Rattle.cobol_grammar.specs.declared.stmt_forms.outline.Outline.{Outline}
use Rattle.cobol_grammar.specs.stmt_forms.Part.{Parts}
use Rattle.cobol_grammar.specs.stmt_forms.Laws.{PartsAreLawful}
use Rattle.cobol_grammar.specs.stmt_forms.Paragraph as paragraphs
use Rattle.cobol_grammar.specs.stmt_forms.Paragraph.{scope_of, paragraph_of}
use Rattle.cobol_grammar.proofs.stmt_forms_lemmas.ParagraphLaws as law
use Rattle.grammar_laws.specs.form_results.Giving.{Gives}
use Rattle.grammar_laws.proofs.form_results_lemmas.Giving.{any, still, pure, note, key, period, ended, where_next, loop, ◌>>=◌, ◌>>◌}
use Rattle.round_trip.specs.spelling.stmt_spelling.Part.{Kept}
use Rattle.round_trip.specs.fitting_statements.Fits.{Fits}
use Rattle.round_trip.specs.fitting_statements.Given.{PartsFit, FitSentences, FitParagraphs}
use Rattle.round_trip.proofs.procedures_lemmas.readable_stmts_lemmas.From.{bind_from, where_begun}
use Rattle.round_trip.proofs.fitting_statements_lemmas.Sentences as sentence

module _ (fits : Fits) where
  -- ---- one paragraph more

  -- whether a section has begun
  section_behind : Bool → List Paragraph → Bool
  section_behind before [] = before
  section_behind before (paragraph ∷ list) = section_behind (is_some paragraph.section || before) list

  section-added : (before : Bool) (list : List Paragraph) (last : Paragraph) → section_behind before (list ++ last ∷ []) ≡ (is_some last.section || section_behind before list)
  unfolding section_behind
  section-added before [] last = refl
  section-added before (paragraph ∷ list) last = section-added (is_some paragraph.section || before) list last

  fit-added : (before : Bool) (list : List Paragraph) (last : Paragraph) → FitParagraphs fits before list →
      FitSentences fits (scope_of (is_some last.section || section_behind before list)) last.sentences → FitParagraphs fits before (list ++ last ∷ [])
  unfolding section_behind
  fit-added before [] last h k = (k, tt)
  fit-added before (paragraph ∷ list) last h k = (h.0, fit-added (is_some paragraph.section || before) list last h.1 k)

  -- ---- what is read so far

  -- a section that has no paragraph yet is the last one
  abbrev Stands : Option (List ℕ) → Bool → List Paragraph → Type 0
  Stands None in_section done = section_behind false done ≡ in_section
  Stands (Some section) in_section done = in_section ≡ true

  record Done (state : Outline) : Type 0 where
    fit : FitParagraphs fits false state.done
    stands : Stands state.pending state.in_section state.done

  pending-fit : (pending : Option (List ℕ)) (done : List Paragraph) → FitParagraphs fits false done → FitParagraphs fits false (paragraphs.with_pending pending done)
  pending-fit None done h = h
  pending-fit (Some section) done h = fit-added false done (paragraph_of None (Some section) []) h (inr tt)

  -- a section with sentences, and one without
  section-done : (state : Outline) (name : List ℕ) (list : List Sentence) → FitSentences fits (scope_of true) list → Done state →
      Done (paragraphs.outline_of (paragraphs.with_pending state.pending state.done ++ paragraph_of None (Some name) list ∷ []) None true)
  section-done state name list h d =
      let front = paragraphs.with_pending state.pending state.done in
      let last = paragraph_of None (Some name) list in record {
        fit = fit-added false front last (pending-fit state.pending state.done d.fit) h;
        stands = section-added false front last;
      }

  bare-done : (state : Outline) (name : List ℕ) → Done state → Done (paragraphs.outline_of (paragraphs.with_pending state.pending state.done) (Some name) true)
  bare-done state name d = record { fit = pending-fit state.pending state.done d.fit; stands = refl }

  -- a paragraph, which may be the first of its section
  paragraph-done : (done : List Paragraph) (pending : Option (List ℕ)) (in_section : Bool) (name : List ℕ) (list : List Sentence) → FitSentences fits (scope_of in_section) list →
      Done (paragraphs.outline_of done pending in_section) → Done (paragraphs.outline_of (done ++ paragraph_of (Some name) pending list ∷ []) None in_section)
  paragraph-done done None in_section name list h d =
      let last = paragraph_of (Some name) None list in record {
        fit = fit-added false done last d.fit (subst (λ s. FitSentences fits (scope_of s) list) (sym d.stands) h);
        stands = section-added false done last ∙ d.stands;
      }
  paragraph-done done (Some section) in_section name list h d =
      let last = paragraph_of (Some name) (Some section) list in record {
        fit = fit-added false done last d.fit (subst (λ s. FitSentences fits (scope_of s) list) d.stands h);
        stands = section-added false done last ∙ sym d.stands;
      }

  -- ---- all of them

  at-least-one : (list : List Paragraph) → FitParagraphs fits false list → FitParagraphs fits false (paragraphs.at_least_one list)
  at-least-one [] h = (inr tt, tt)
  at-least-one (first ∷ others) h = h

  all-told : (state : Outline) → Done state → FitParagraphs fits false (paragraphs.all_of state)
  all-told state d = at-least-one (paragraphs.with_pending state.pending state.done) (pending-fit state.pending state.done d.fit)

module _ {Side Known : Type 0} {parts : Parts Side Known} {kept : Kept Side} {fits : Fits} {Kind : TokenKind → Type 0} (lawful : PartsAreLawful parts) (F : PartsFit parts kept fits Kind) where
  abbrev Outlined : Outline → Type 0
  Outlined state = Done fits state

  section : (name : List ℕ) (state : Outline) → Gives Kind (paragraphs.section parts name state) (λ last. Outlined state → Outlined last)
  unfolding paragraphs.section paragraphs.section_start
  section name state = key (codes "SECTION") >> (period >> where_begun
      (bind_from (sentence.filled_sentences lawful F (scope_of true)) (λ found. pure (λ f _ _ d. section-done fits state name found f.1 d)))
      (pure (λ _ _ d. bare-done fits state name d)))

  paragraph : (name : List ℕ) (state : Outline) → Gives Kind (paragraphs.paragraph parts name state) (λ last. Outlined state → Outlined last)
  unfolding paragraphs.paragraph
  paragraph name state = period >> (sentence.sentences lawful F (scope_of state.in_section) >>= (λ found.
      pure (λ f _ d. paragraph-done fits state.done state.pending state.in_section name found f d)))

  headed : (state : Outline) → Gives Kind (paragraphs.headed parts state) (λ last. Outlined state → Outlined last)
  unfolding paragraphs.headed
  headed state = any lawful.header_name >>= (λ name. note >> where_next (still (still (section name.0 state))) (still (still (paragraph name.0 state))))

  start : Gives Kind (paragraphs.start parts) Outlined
  unfolding paragraphs.start paragraphs.unnamed_start section_behind
  start = where_begun
      (bind_from (sentence.filled_sentences lawful F (scope_of false)) (λ found. pure (λ f. record { fit = (f.1, tt); stands = refl })))
      (pure (record { fit = tt; stands = refl }))

  all_paragraphs : Gives Kind (paragraphs.paragraphs parts) (FitParagraphs fits false)
  unfolding paragraphs.paragraphs
  all_paragraphs = start >>= (λ first. loop {P = Outlined} headed >>= (λ state. pure (λ h d. all-told fits state (h d))))

  pub division : Gives Kind (paragraphs.division parts) (FitParagraphs fits false)
  unfolding paragraphs.division
  division = all_paragraphs >>= (λ found. any (law.end_part lawful) >> (ended >> pure (λ _ _ h. h)))
