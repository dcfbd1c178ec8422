-- Paragraphs and sections, and the whole division.
use Rattle.std.proofs.Common.{◌≡◌, ℕ, Bool, true, false, ◌||◌, is_some, inl, inr, List, [], ◌∷◌, ◌++◌, Option, Some, None, refl, sym, ap, subst, ◌∙◌, append_assoc}
use Rattle.std.specs.Prelude.{codes}
use Rattle.cob_tree.specs.declared.program.Paragraph.{Paragraph}
use Rattle.cob_tree.specs.declared.program.Program.{Program}
use Rattle.cob_tree.specs.declared.program.Sentence.{Sentence}
use Rattle.cobol_lex.specs.declared.token.TokenKind.{TokenKind}
use Rattle.cobol_grammar.specs.declared.stmt_forms.outline.Outline.{Outline}
use Rattle.cobol_grammar.specs.stmt_forms.Part.{Parts}
use Rattle.cobol_grammar.specs.stmt_forms.Laws.{PartsAreLawful}
use Rattle.cobol_grammar.specs.stmt_forms.Paragraph as paragraphs
use Rattle.cobol_grammar.specs.stmt_forms.Paragraph.{scope_of, paragraph_of}
use Rattle.cobol_grammar.proofs.stmt_forms_lemmas.ParagraphLaws as law
use Rattle.program_facts.specs.well_scoped.Part.{is_filled}
use Rattle.grammar_laws.specs.form_results.Giving.{Gives}
use Rattle.grammar_laws.proofs.form_results_lemmas.Giving.{any, still, pure, note, key, period, ended, where_next, loop, ◌>>=◌, ◌>>◌}
use Rattle.round_trip.specs.spelling.stmt_spelling.Division.{is_bare_by, SpellsSentences}
use Rattle.round_trip.specs.spelling.stmt_spelling.Part.{Kept}
use Rattle.round_trip.specs.procedures.readable_stmts.Body.{SpellsBody, SpellsBehind, SpellsFirstBody, SpellsBodies, is_bare}
use Rattle.round_trip.specs.procedures.readable_stmts.Fit.{PartsFit}
use Rattle.round_trip.proofs.procedures_lemmas.readable_stmts_lemmas.From.{bind_from, where_begun}
use Rattle.round_trip.proofs.procedures_lemmas.readable_stmts_lemmas.Sentences as sentence

module _ {Side Known : Type 0} (again : Parts Side Known) (kept : Kept Side) (program : Program) where
  -- ---- one paragraph more

  abbrev bare : Paragraph → Bool
  bare paragraph = is_bare again kept program paragraph

  -- whether the last one is a bare section, and whether a section has begun
  bare_behind : Bool → List Paragraph → Bool
  bare_behind before [] = before
  bare_behind before (paragraph ∷ list) = bare_behind (bare paragraph) list

  section_behind : Bool → List Paragraph → Bool
  section_behind before [] = before
  section_behind before (paragraph ∷ list) = section_behind (is_some paragraph.section || before) list

  bare-added : (before : Bool) (list : List Paragraph) (last : Paragraph) → bare_behind before (list ++ last ∷ []) ≡ bare last
  unfolding bare_behind
  bare-added before [] last = refl
  bare-added before (paragraph ∷ list) last = bare-added (bare paragraph) list last

  section-added : (before : Bool) (list : List Paragraph) (last : Paragraph) → section_behind before (list ++ last ∷ []) ≡ (is_some last.section || section_behind before list)
  unfolding section_behind
  section-added before [] last = refl
  section-added before (paragraph ∷ list) last = section-added (is_some paragraph.section || before) list last

  abbrev Body : Bool → Bool → Paragraph → Type 0
  Body b s paragraph = SpellsBody again kept program b s paragraph.name paragraph.section paragraph.sentences

  behind-added : (b s : Bool) (list : List Paragraph) (last : Paragraph) → SpellsBehind again kept program b s list → Body (bare_behind b list) (section_behind s list) last →
      SpellsBehind again kept program b s (list ++ last ∷ [])
  unfolding bare_behind section_behind
  behind-added b s [] last h k = (k, tt)
  behind-added b s (paragraph ∷ list) last h k = (h.0, behind-added (bare paragraph) (is_some paragraph.section || s) list last h.1 k)

  -- ---- what is read so far, behind a first paragraph without name

  -- a section that has no paragraph yet is the last one; else the last one isn't bare
  abbrev Stands : Option (List ℕ) → Bool → List Paragraph → Type 0
  Stands None in_section rest = (bare_behind false rest ≡ false) × (section_behind false rest ≡ in_section)
  Stands (Some section) in_section rest = in_section ≡ true

  record Done (front : List Paragraph) (state : Outline) : Type 0 where
    rest : List Paragraph
    is : state.done ≡ front ++ rest
    bodies : SpellsBehind again kept program false false rest
    stands : Stands state.pending state.in_section rest

  -- the first paragraph, if it has no name
  abbrev IsFront : List Paragraph → Type 0
  IsFront [] = Unit {0}
  IsFront (first ∷ others) =
      ((list : List Sentence) × (first ∷ others ≡ paragraph_of None None list ∷ []) × (is_filled list ≡ true) × SpellsSentences again kept program (scope_of false) list)

  -- with a section that has no paragraph
  abbrev IsWith : (front all : List Paragraph) → Type 0
  IsWith front all = (rest : List Paragraph) × (all ≡ front ++ rest) × SpellsBehind again kept program false false rest

  more : (front all rest : List Paragraph) (last : Paragraph) → all ≡ front ++ rest → all ++ last ∷ [] ≡ front ++ (rest ++ last ∷ [])
  more front all rest last e = ap (λ l. l ++ last ∷ []) e ∙ append_assoc front rest (last ∷ [])

  pending-with : (front : List Paragraph) (pending : Option (List ℕ)) (all rest : List Paragraph) → all ≡ front ++ rest → SpellsBehind again kept program false false rest →
      IsWith front (paragraphs.with_pending pending all)
  pending-with front None all rest e h = (rest, e, h)
  pending-with front (Some section) all rest e h =
      let last = paragraph_of None (Some section) [] in
      (rest ++ last ∷ [], more front all rest last e, behind-added false false rest last h (inr tt))

  not-bare : (section : List ℕ) (list : List Sentence) → is_filled list ≡ true → is_bare_by None (Some section) list ≡ false
  not-bare section [] f = absurd cc
  not-bare section (x ∷ list) f = refl

  -- a section with sentences, and one without
  section-done : (front : List Paragraph) (state : Outline) (name : List ℕ) (list : List Sentence) → is_filled list ≡ true → SpellsSentences again kept program (scope_of true) list → Done front state →
      Done front (paragraphs.outline_of (paragraphs.with_pending state.pending state.done ++ paragraph_of None (Some name) list ∷ []) None true)
  section-done front state name list f h d =
      let w = pending-with front state.pending state.done d.rest d.is d.bodies in
      let last = paragraph_of None (Some name) list in record {
        rest = w.0 ++ last ∷ [];
        is = more front (paragraphs.with_pending state.pending state.done) w.0 last w.1;
        bodies = behind-added false false w.0 last w.2 h;
        stands = (bare-added false w.0 last ∙ not-bare name list f, section-added false w.0 last);
      }

  bare-done : (front : List Paragraph) (state : Outline) (name : List ℕ) → Done front state → Done front (paragraphs.outline_of (paragraphs.with_pending state.pending state.done) (Some name) true)
  bare-done front state name d =
      let w = pending-with front state.pending state.done d.rest d.is d.bodies in
      record { rest = w.0; is = w.1; bodies = w.2; stands = refl }

  -- a paragraph, which may be the first of its section
  paragraph-done : (front done : List Paragraph) (pending : Option (List ℕ)) (in_section : Bool) (name : List ℕ) (list : List Sentence) → SpellsSentences again kept program (scope_of in_section) list →
      Done front (paragraphs.outline_of done pending in_section) → Done front (paragraphs.outline_of (done ++ paragraph_of (Some name) pending list ∷ []) None in_section)
  paragraph-done front done None in_section name list h d =
      let last = paragraph_of (Some name) None list in record {
        rest = d.rest ++ last ∷ [];
        is = more front done d.rest last d.is;
        bodies = behind-added false false d.rest last d.bodies (d.stands.0, subst (λ s. SpellsSentences again kept program (scope_of s) list) (sym d.stands.1) h);
        stands = (bare-added false d.rest last, section-added false d.rest last ∙ d.stands.1);
      }
  paragraph-done front done (Some section) in_section name list h d =
      let last = paragraph_of (Some name) (Some section) list in record {
        rest = d.rest ++ last ∷ [];
        is = more front done d.rest last d.is;
        bodies = behind-added false false d.rest last d.bodies (subst (λ s. SpellsSentences again kept program (scope_of s) list) d.stands h);
        stands = (bare-added false d.rest last, section-added false d.rest last ∙ sym d.stands);
      }

  -- ---- all of them

  first-told : (name section : Option (List ℕ)) (first : Paragraph) (others : List Paragraph) → SpellsBody again kept program false false name section first.sentences →
      SpellsBehind again kept program false false (first ∷ others) → SpellsFirstBody again kept program name section first others
  first-told None None first others b h = absurd b
  first-told (Some name) None first others b h = h
  first-told None (Some section) first others b h = h
  first-told (Some name) (Some section) first others b h = h

  whole : (front rest : List Paragraph) → IsFront front → SpellsBehind again kept program false false rest → SpellsBodies again kept program (paragraphs.at_least_one (front ++ rest))
  whole [] [] f h = (inr tt, (inr refl, tt))
  whole [] (first ∷ others) f h = first-told first.name first.section first others h.0 h
  whole (first ∷ others) rest f h =
      subst (λ front. SpellsBodies again kept program (paragraphs.at_least_one (front ++ rest))) (sym f.1) (f.3, (inl f.2, h))

module _ {Side Known : Type 0} {parts again : Parts Side Known} {kept : Kept Side} {program : Program} {Kind : TokenKind → Type 0} (lawful : PartsAreLawful parts) (F : PartsFit parts again kept program Kind) where
  abbrev Outlined : List Paragraph → Outline → Type 0
  Outlined front state = Done again kept program front state

  section : (front : List Paragraph) (name : List ℕ) (state : Outline) → Gives Kind (paragraphs.section parts name state) (λ last. Outlined front state → Outlined front last)
  unfolding paragraphs.section paragraphs.section_start
  section front name state = key (codes "SECTION") >> (period >> where_begun
      (bind_from (sentence.filled_sentences lawful F (scope_of true)) (λ found. pure (λ f _ _ d. section-done again kept program front state name found f.0 f.1 d)))
      (pure (λ _ _ d. bare-done again kept program front state name d)))

  paragraph : (front : List Paragraph) (name : List ℕ) (state : Outline) → Gives Kind (paragraphs.paragraph parts name state) (λ last. Outlined front state → Outlined front last)
  unfolding paragraphs.paragraph
  paragraph front name state = period >> (sentence.sentences lawful F (scope_of state.in_section) >>= (λ found.
      pure (λ f _ d. paragraph-done again kept program front state.done state.pending state.in_section name found f d)))

  headed : (front : List Paragraph) (state : Outline) → Gives Kind (paragraphs.headed parts state) (λ last. Outlined front state → Outlined front last)
  unfolding paragraphs.headed
  headed front state = any lawful.header_name >>= (λ name. note >> where_next (still (still (section front name.0 state))) (still (still (paragraph front name.0 state))))

  start : Gives Kind (paragraphs.start parts) (λ first. IsFront again kept program first.done × Outlined first.done first)
  unfolding paragraphs.start paragraphs.unnamed_start bare_behind section_behind
  start = where_begun
      (bind_from (sentence.filled_sentences lawful F (scope_of false)) (λ found.
      pure (λ f. ((found, refl, f.0, f.1), record { rest = []; is = refl; bodies = tt; stands = (refl, refl) }))))
      (pure (tt, record { rest = []; is = refl; bodies = tt; stands = (refl, refl) }))

  all_told : (front : List Paragraph) (state : Outline) → IsFront again kept program front → Outlined front state → SpellsBodies again kept program (paragraphs.all_of state)
  all_told front state f d =
      let w = pending-with again kept program front state.pending state.done d.rest d.is d.bodies in
      subst (λ list. SpellsBodies again kept program (paragraphs.at_least_one list)) (sym w.1) (whole again kept program front w.0 f w.2)

  all_paragraphs : Gives Kind (paragraphs.paragraphs parts) (SpellsBodies again kept program)
  unfolding paragraphs.paragraphs
  all_paragraphs = start >>= (λ first. loop {P = Outlined first.done} (headed first.done) >>= (λ state. pure (λ h d. all_told first.done state d.0 (h d.1))))

  pub division : Gives Kind (paragraphs.division parts) (SpellsBodies again kept program)
  unfolding paragraphs.division
  division = all_paragraphs >>= (λ found. any (law.end_part lawful) >> (ended >> pure (λ _ _ h. h)))
