-- Paragraphs and sections, and the whole division.
use Rattle.std.proofs.Common.{◌≡◌, ℕ, ◌+◌, Bool, true, false, ◌||◌, ◌⊎◌, inl, inr, List, [], ◌∷◌, ◌++◌, map, length, Option, Some, None, is_some, refl, ap, sym, ◌∙◌, subst, append_assoc, append-nil, arith}
use Rattle.std.proofs.lemmas.List.{length-append}
use Rattle.std.specs.Prelude.{codes}
use Rattle.std.specs.List.{flat_map}
use Rattle.cob_tree.specs.declared.program.Paragraph.{Paragraph}
use Rattle.cob_tree.specs.declared.program.Program.{Program}
use Rattle.cob_tree.specs.declared.program.Sentence.{Sentence}
use Rattle.cobol_lex.specs.declared.token.TokenKind.{TokenKind}
use Rattle.cobol_lex.specs.declared.token.TokenKind.TheVariants as kinds
use Rattle.parser_combinators.specs.Form as form
use Rattle.parser_combinators.specs.Form.{begins_by}
use Rattle.parser_combinators.specs.Part as part
use Rattle.program_facts.specs.well_scoped.Part.{is_filled}
use Rattle.unparser.specs.Token.{Tokens, joined, procedure_token}
use Rattle.cobol_print.specs.units.Division.{sentence_units, paragraph_units, paragraphs_units}
use Rattle.cobol_print.specs.Unit.{all_tokens}
use Rattle.cobol_grammar.specs.declared.stmt_forms.outline.Outline.{Outline}
use Rattle.cobol_grammar.specs.stmt_forms.Jump.{begins_procedure}
use Rattle.cobol_grammar.specs.stmt_forms.Part.{Parts}
use Rattle.cobol_grammar.specs.stmt_forms.Paragraph as paragraphs
use Rattle.cobol_grammar.specs.stmt_forms.Verb.{begins_stmt}
use Rattle.round_trip.specs.spelled_forms.Spelling.{first_of, Spelled}
use Rattle.round_trip.proofs.spelled_forms_lemmas.Makers.{pure, note, hence, where_behind, bind, then, ending, behind_first, behind_none, by, there_next, other_next, no_turn, turn}
use Rattle.round_trip.proofs.spelled_forms_lemmas.Tokens.{key, period}
use Rattle.round_trip.specs.spelling.stmt_spelling.Part.{Kept, PartsAreTold}
use Rattle.round_trip.specs.spelling.stmt_spelling.Division.{SpellsSentences, SpellsHeader, SpellsHeaded, SpellsParagraphs, SpellsFirst, SpellsDivision, paragraph_tokens, is_bare_by, AtEnd}
use Rattle.round_trip.proofs.spelling_lemmas.stmt_spelling_lemmas.Behind.{first-append, true-false}
use Rattle.round_trip.proofs.spelling_lemmas.stmt_spelling_lemmas.Nested.{tokens-append}
use Rattle.round_trip.proofs.spelling_lemmas.stmt_spelling_lemmas.Bodies.{NoStmt, sentence_tokens, sentences, begins-sentences}

-- ---- the state of a reader behind these paragraphs

AtState : (bare in_section : Bool) → List Paragraph → Outline → Type 0
AtState false in_section before state = state ≡ paragraphs.outline_of before None in_section
AtState true in_section before state =
    (done : List Paragraph) × (section : List ℕ) × (state ≡ paragraphs.outline_of done (Some section) true) × (before ≡ done ++ paragraphs.paragraph_of None (Some section) [] ∷ [])

abbrev All_of : Outline → List Paragraph
All_of state = paragraphs.with_pending state.pending state.done

state-told : (bare in_section : Bool) (before : List Paragraph) (state : Outline) → AtState bare in_section before state → All_of state ≡ before
unfolding AtState
state-told false in_section before state e = ap All_of e
state-told true in_section before state e = ap All_of e.2 ∙ sym e.3

at-end : (test : TokenKind → Bool) (o : Option TokenKind) → AtEnd o → begins_by test o ≡ false
at-end test o e = ap (begins_by test) e

module _ {Side Known : Type 0} {parts : Parts Side Known} {kept : Kept Side} (T : PartsAreTold parts kept) (program : Program) where
  abbrev Body : List Sentence → Tokens
  Body list = joined (map (sentence_tokens T program) list)

  flat-told : (list : List Sentence) → all_tokens (flat_map (sentence_units program) list) ≡ Body list
  flat-told [] = refl
  flat-told (sentence ∷ list) = tokens-append (sentence_units program sentence) (flat_map (sentence_units program) list) ∙ ap (λ t. sentence_tokens T program sentence ++ t) (flat-told list)

  abbrev Section : List ℕ → Tokens
  Section name = procedure_token name ∷ kinds.Word (codes "SECTION") ∷ kinds.Period ∷ []

  abbrev Name : List ℕ → Tokens
  Name name = procedure_token name ∷ kinds.Period ∷ []

  abbrev Printed : (name section : Option (List ℕ)) → List Sentence → Tokens
  Printed None None list = Body list
  Printed (Some name) None list = Name name ++ Body list
  Printed None (Some section) list = Section section ++ Body list
  Printed (Some name) (Some section) list = Section section ++ (Name name ++ Body list)

  told : (name section : Option (List ℕ)) (list : List Sentence) → paragraph_tokens parts kept program (paragraphs.paragraph_of name section list) ≡ Printed name section list
  told None None list = flat-told list
  told (Some name) None list = ap (λ t. Name name ++ t) (flat-told list)
  told None (Some section) list = ap (λ t. Section section ++ t) (flat-told list)
  told (Some name) (Some section) list = ap (λ t. Section section ++ (Name name ++ t)) (flat-told list)

  -- ---- one header with what stands behind it

  section-turn : {Behind : Option TokenKind → Type 0} {Has : Outline → Type 0} (name : List ℕ) (taken : ℕ) → SpellsHeader parts kept program name taken → (state : Outline) (rest : Tokens) →
      Spelled (paragraphs.section parts name state) (taken + 1) (kinds.Word (codes "SECTION") ∷ rest) Behind Has →
      Spelled (paragraphs.headed parts state) taken (procedure_token name ∷ kinds.Word (codes "SECTION") ∷ rest) Behind Has
  unfolding paragraphs.headed
  section-turn {Behind = Behind} {Has = Has} name taken H state rest F =
      then H.spelled (λ found e. behind_none (note e.1) (λ _ _. there_next (part.is_key (codes "SECTION")) _ (λ o b. refl)
      (subst (λ w. Spelled (paragraphs.section parts w state) (taken + 1) (kinds.Word (codes "SECTION") ∷ rest) Behind Has) (sym e.0) F)))

  name-turn : {Behind : Option TokenKind → Type 0} {Has : Outline → Type 0} (name : List ℕ) (taken : ℕ) → SpellsHeader parts kept program name taken → (state : Outline) (rest : Tokens) →
      Spelled (paragraphs.paragraph parts name state) (taken + 1) (kinds.Period ∷ rest) Behind Has →
      Spelled (paragraphs.headed parts state) taken (procedure_token name ∷ kinds.Period ∷ rest) Behind Has
  unfolding paragraphs.headed
  name-turn {Behind = Behind} {Has = Has} name taken H state rest F =
      then H.spelled (λ found e. behind_none (note e.1) (λ _ _. other_next (part.is_key (codes "SECTION")) _ (λ o b. refl)
      (subst (λ w. Spelled (paragraphs.paragraph parts w state) (taken + 1) (kinds.Period ∷ rest) Behind Has) (sym e.0) F)))

  -- a section without sentences before its first name
  bare-section : {n : ℕ} (name : List ℕ) (before : List Paragraph) (state : Outline) → All_of state ≡ before →
      Spelled (paragraphs.section parts name state) n (kinds.Word (codes "SECTION") ∷ kinds.Period ∷ []) NoStmt (λ x. x ≡ paragraphs.outline_of before (Some name) true)
  unfolding paragraphs.section
  bare-section name before state e =
      then (key (codes "SECTION")) (λ _ _. ending (where_behind (λ o b. tt) period) (λ _ _. other_next begins_stmt _ (λ o b. b) (pure (ap (λ l. paragraphs.outline_of l (Some name) true) e))))

  some-section : {n : ℕ} (name : List ℕ) (list : List Sentence) → is_filled list ≡ true → SpellsSentences parts kept program (paragraphs.scope_of true) list → (before : List Paragraph) (state : Outline) → All_of state ≡ before →
      Spelled (paragraphs.section parts name state) n (kinds.Word (codes "SECTION") ∷ kinds.Period ∷ Body list) NoStmt (λ x. x ≡ paragraphs.outline_of (before ++ paragraphs.paragraph_of None (Some name) list ∷ []) None true)
  unfolding paragraphs.section paragraphs.section_start
  some-section name list f h before state e =
      then (key (codes "SECTION")) (λ _ _. then period (λ _ _. there_next begins_stmt _ (λ o b. begins-sentences T program (paragraphs.scope_of true) list h f o)
      (ending (sentences T program (paragraphs.scope_of true) list h _) (λ found k. pure (ap (λ l. paragraphs.outline_of (l ++ paragraphs.paragraph_of None (Some name) found ∷ []) None true) e
      ∙ ap (λ x. paragraphs.outline_of (before ++ paragraphs.paragraph_of None (Some name) x ∷ []) None true) k)))))

  named : {n : ℕ} (name : List ℕ) (pending : Option (List ℕ)) (in_section : Bool) (list : List Sentence) → SpellsSentences parts kept program (paragraphs.scope_of in_section) list → (before : List Paragraph) (state : Outline) →
      state ≡ paragraphs.outline_of before pending in_section →
      Spelled (paragraphs.paragraph parts name state) n (kinds.Period ∷ Body list) NoStmt (λ x. x ≡ paragraphs.outline_of (before ++ paragraphs.paragraph_of (Some name) pending list ∷ []) None in_section)
  unfolding paragraphs.paragraph
  named {n = n} name pending in_section list h before state e =
      subst (λ s. Spelled (paragraphs.paragraph parts name s) n (kinds.Period ∷ Body list) NoStmt (λ x. x ≡ paragraphs.outline_of (before ++ paragraphs.paragraph_of (Some name) pending list ∷ []) None in_section)) (sym e)
      (then period (λ _ _. ending (sentences T program (paragraphs.scope_of in_section) list h _)
      (λ found k. pure (ap (λ x. paragraphs.outline_of (before ++ paragraphs.paragraph_of (Some name) pending x ∷ []) None in_section) k))))

  -- ---- one paragraph as it is printed, and those behind it

  abbrev Loop : Outline → form.Form Outline
  Loop state = form.loop (begins_procedure parts) (paragraphs.headed parts) state

  module _ (taken : ℕ) (rest : Tokens) (Has : Outline → Type 0) (behind : (o : Option TokenKind) → AtEnd o → NoStmt (first_of rest o)) where
    abbrev Onward : Bool → Bool → List Paragraph → Tokens → Type 0
    Onward bare in_section before tokens = (state : Outline) → AtState bare in_section before state → Spelled (Loop state) (taken + length tokens) rest AtEnd Has

    headed-by : (bare in_section : Bool) (name section : Option (List ℕ)) (list : List Sentence) → SpellsHeaded parts kept program bare in_section taken name section list → (before : List Paragraph) (state : Outline) →
        AtState bare in_section before state →
        Onward (is_bare_by name section list) (is_some section || in_section) (before ++ paragraphs.paragraph_of name section list ∷ []) (Printed name section list) →
        Spelled (Loop state) taken (Printed name section list ++ rest) AtEnd Has
    unfolding AtState
    headed-by bare in_section None None list h before state e K = absurd h
    headed-by true in_section (Some name) None list h before state e K = absurd (true-false refl h.0)
    headed-by false in_section (Some name) None list h before state e K =
        turn (begins_procedure parts) (paragraphs.headed parts) (λ o. h.1.0.begins) (name-turn name taken h.1.0 state (Body list) (named name None in_section list h.1.1 before state e)) behind K
    headed-by bare in_section None (Some section) [] h before state e K =
        turn (begins_procedure parts) (paragraphs.headed parts) (λ o. h.0.begins) (section-turn section taken h.0 state (kinds.Period ∷ []) (bare-section section before state (state-told bare in_section before state e))) behind
        (λ mid k. K mid (before, section, k, refl))
    headed-by bare in_section None (Some section) (s ∷ list) h before state e K =
        turn (begins_procedure parts) (paragraphs.headed parts) (λ o. h.0.begins)
        (section-turn section taken h.0 state (kinds.Period ∷ Body (s ∷ list)) (some-section section (s ∷ list) refl h.1 before state (state-told bare in_section before state e))) behind K
    headed-by bare in_section (Some name) (Some section) list h before state e K =
        let u : Tokens = Name name ++ Body list in
        let count : (taken + 3) + length u ≡ taken + length (Section section ++ u) = omega (arith, length-append (Section section) u) in
        subst (λ t. Spelled (Loop state) taken t AtEnd Has) (sym (append_assoc (Section section) u rest))
        (turn (begins_procedure parts) (paragraphs.headed parts) (λ o. h.0.begins)
        (section-turn section taken h.0 state (kinds.Period ∷ []) (bare-section section before state (state-told bare in_section before state e))) (λ o b. h.1.0.no_stmt)
        (λ mid k. turn (begins_procedure parts) (paragraphs.headed parts) (λ o. h.1.0.begins) (name-turn name (taken + 3) h.1.0 mid (Body list) (named name (Some section) true list h.1.1 before mid k)) behind
        (λ last l. subst (λ m. Spelled (Loop last) m rest AtEnd Has) (sym count) (K last l))))

  -- ---- the first token

  first-no-stmt : (bare in_section : Bool) (taken : ℕ) (name section : Option (List ℕ)) (list : List Sentence) → SpellsHeaded parts kept program bare in_section taken name section list → (o : Option TokenKind) →
      NoStmt (first_of (Printed name section list) o)
  first-no-stmt bare in_section taken None None list h o = absurd h
  first-no-stmt bare in_section taken (Some name) None list h o = h.1.0.no_stmt
  first-no-stmt bare in_section taken None (Some section) list h o = h.0.no_stmt
  first-no-stmt bare in_section taken (Some name) (Some section) list h o = h.0.no_stmt

  abbrev pub All : List Paragraph → Tokens
  All list = joined (map (paragraph_tokens parts kept program) list)

  next-no-stmt : (bare in_section : Bool) (taken : ℕ) (list : List Paragraph) → SpellsParagraphs parts kept program bare in_section taken list → (o : Option TokenKind) → AtEnd o → NoStmt (first_of (All list) o)
  next-no-stmt bare in_section taken [] h o e = at-end begins_stmt o e
  next-no-stmt bare in_section taken (paragraph ∷ list) h o e =
      ap (begins_by begins_stmt) (first-append (paragraph_tokens parts kept program paragraph) (All list) o ∙ ap (λ t. first_of t (first_of (All list) o)) (told paragraph.name paragraph.section paragraph.sentences))
      ∙ first-no-stmt bare in_section taken paragraph.name paragraph.section paragraph.sentences h.0 (first_of (All list) o)

  -- ---- all of them

  from-state : (list : List Paragraph) (bare in_section : Bool) (taken : ℕ) → SpellsParagraphs parts kept program bare in_section taken list → (before : List Paragraph) (state : Outline) → AtState bare in_section before state →
      Spelled (Loop state) taken (All list) AtEnd (λ x. All_of x ≡ before ++ list)
  from-state [] bare in_section taken h before state e =
      no_turn (begins_procedure parts) (paragraphs.headed parts) (at-end (begins_procedure parts)) (state-told bare in_section before state e ∙ sym (append-nil before))
  from-state (paragraph ∷ list) bare in_section taken h before state e =
      let b = is_bare_by paragraph.name paragraph.section paragraph.sentences in
      let i = is_some paragraph.section || in_section in
      let t = paragraph_tokens parts kept program paragraph in
      let p = Printed paragraph.name paragraph.section paragraph.sentences in
      let is : t ≡ p = told paragraph.name paragraph.section paragraph.sentences in
      subst (λ t. Spelled (Loop state) taken (t ++ All list) AtEnd (λ x. All_of x ≡ before ++ paragraph ∷ list)) (sym is)
      (headed-by taken (All list) (λ x. All_of x ≡ before ++ paragraph ∷ list) (next-no-stmt b i (taken + length t) list h.1) bare in_section paragraph.name paragraph.section paragraph.sentences h.0 before state e
      (λ mid k. subst (λ m. Spelled (Loop mid) m (All list) AtEnd (λ x. All_of x ≡ before ++ paragraph ∷ list)) (ap (λ t. taken + length t) is)
      (hence (λ x l. l ∙ append_assoc before (paragraph ∷ []) list) (from-state list b i (taken + length t) h.1 (before ++ paragraph ∷ []) mid k))))

  empty-start : {n : ℕ} → Spelled (paragraphs.start parts) n [] NoStmt (λ x. x ≡ paragraphs.outline_of [] None false)
  unfolding paragraphs.start
  empty-start = other_next begins_stmt _ (λ o b. b) (pure refl)

  unnamed-start : {n : ℕ} (list : List Sentence) → SpellsSentences parts kept program (paragraphs.scope_of false) list → is_filled list ≡ true →
      Spelled (paragraphs.start parts) n (Body list) NoStmt (λ x. x ≡ paragraphs.outline_of (paragraphs.paragraph_of None None list ∷ []) None false)
  unfolding paragraphs.start paragraphs.unnamed_start
  unnamed-start list h f =
      there_next begins_stmt _ (λ o b. begins-sentences T program (paragraphs.scope_of false) list h f o)
      (ending (sentences T program (paragraphs.scope_of false) list h _) (λ found k. pure (ap (λ x. paragraphs.outline_of (paragraphs.paragraph_of None None x ∷ []) None false) k)))

  finished : {n : ℕ} {Behind : Option TokenKind → Type 0} (paragraph : Paragraph) (list : List Paragraph) (state : Outline) → All_of state ≡ paragraph ∷ list →
      Spelled (form.pure (paragraphs.all_of state)) n [] Behind (λ found. found ≡ paragraph ∷ list)
  finished paragraph list state e = pure (ap paragraphs.at_least_one e)

  no-header : {n : ℕ} (state : Outline) → state ≡ paragraphs.outline_of [] None false → Spelled (Loop state) n [] AtEnd (λ x. All_of x ≡ [])
  no-header state e = no_turn (begins_procedure parts) (paragraphs.headed parts) (at-end (begins_procedure parts)) (ap All_of e)

  unnamed-by : {n : ℕ} (sentences : List Sentence) (list : List Paragraph) → SpellsSentences parts kept program (paragraphs.scope_of false) sentences → (is_filled sentences ≡ true) ⊎ (list ≡ []) →
      SpellsParagraphs parts kept program false false (n + length (paragraph_tokens parts kept program (paragraphs.paragraph_of None None sentences))) list →
      Spelled (paragraphs.paragraphs parts) n (All (paragraphs.paragraph_of None None sentences ∷ list)) AtEnd (λ found. found ≡ paragraphs.paragraph_of None None sentences ∷ list)
  unfolding paragraphs.paragraphs AtState
  unnamed-by {n = n} (s ∷ more) list h f k =
      let p = paragraphs.paragraph_of None None (s ∷ more) in
      let is : paragraph_tokens parts kept program p ≡ Body (s ∷ more) = told None None (s ∷ more) in
      subst (λ t. Spelled (paragraphs.paragraphs parts) n (t ++ All list) AtEnd (λ found. found ≡ p ∷ list)) (sym is)
      (bind (unnamed-start (s ∷ more) h refl) (next-no-stmt false false (n + length (paragraph_tokens parts kept program p)) list k)
      (λ state e. ending (subst (λ m. Spelled (Loop state) m (All list) AtEnd (λ x. All_of x ≡ p ∷ list)) (ap (λ t. n + length t) is)
      (from-state list false false (n + length (paragraph_tokens parts kept program p)) k (p ∷ []) state e)) (λ x l. finished p list x l)))
  unnamed-by [] list h (inl f) k = absurd (true-false f refl)
  unnamed-by {n = n} [] list h (inr e) k =
      subst (λ l. Spelled (paragraphs.paragraphs parts) n (All (paragraphs.paragraph_of None None [] ∷ l)) AtEnd (λ found. found ≡ paragraphs.paragraph_of None None [] ∷ l)) (sym e)
      (ending (where_behind (λ o b. at-end begins_stmt o b) empty-start)
      (λ state s. ending (no-header state s) (λ x l. pure (ap paragraphs.at_least_one l))))

  headed-first : {n : ℕ} (paragraph : Paragraph) (list : List Paragraph) → SpellsParagraphs parts kept program false false n (paragraph ∷ list) →
      Spelled (paragraphs.paragraphs parts) n (All (paragraph ∷ list)) AtEnd (λ found. found ≡ paragraph ∷ list)
  unfolding paragraphs.paragraphs AtState
  headed-first {n = n} paragraph list h =
      behind_first empty-start (next-no-stmt false false n (paragraph ∷ list) h)
      (λ state e. ending (from-state (paragraph ∷ list) false false n h [] state e) (λ x l. finished paragraph list x l))

  first-by : {n : ℕ} (name section : Option (List ℕ)) (sentences : List Sentence) (list : List Paragraph) → SpellsFirst parts kept program name section n (paragraphs.paragraph_of name section sentences) list →
      Spelled (paragraphs.paragraphs parts) n (All (paragraphs.paragraph_of name section sentences ∷ list)) AtEnd (λ found. found ≡ paragraphs.paragraph_of name section sentences ∷ list)
  first-by None None sentences list h = unnamed-by sentences list h.0 h.1.0 h.1.1
  first-by (Some name) None sentences list h = headed-first (paragraphs.paragraph_of (Some name) None sentences) list h
  first-by None (Some section) sentences list h = headed-first (paragraphs.paragraph_of None (Some section) sentences) list h
  first-by (Some name) (Some section) sentences list h = headed-first (paragraphs.paragraph_of (Some name) (Some section) sentences) list h

  all-paragraphs : {n : ℕ} (list : List Paragraph) → SpellsDivision parts kept program n list → Spelled (paragraphs.paragraphs parts) n (All list) AtEnd (λ found. found ≡ list)
  all-paragraphs [] h = absurd h
  all-paragraphs (paragraph ∷ list) h = first-by paragraph.name paragraph.section paragraph.sentences list h

  units-told : (list : List Paragraph) → all_tokens (paragraphs_units program list) ≡ All list
  units-told [] = refl
  units-told (paragraph ∷ list) = tokens-append (paragraph_units program paragraph) (paragraphs_units program list) ∙ ap (λ t. paragraph_tokens parts kept program paragraph ++ t) (units-told list)

  end-part : {n : ℕ} → Spelled (paragraphs.end_part parts) n [] AtEnd (λ _. Unit {0})
  unfolding paragraphs.end_part
  end-part = other_next (part.is_key (codes "END")) _ (λ o b. at-end (part.is_key (codes "END")) o b) (pure tt)

  ended : {n : ℕ} → Spelled part.ended n [] AtEnd (λ _. Unit {0})
  ended {n = n} = by part.ended_by (λ o e. subst (λ x. Spelled (part.ended_by x) n [] (λ p. p ≡ o) (λ _. Unit {0})) (sym e) (pure tt))

  pub division : (n : ℕ) (list : List Paragraph) → SpellsDivision parts kept program n list →
      Spelled (paragraphs.division parts) n (all_tokens (paragraphs_units program list)) AtEnd (λ found. found ≡ list)
  unfolding paragraphs.division
  division n list h =
      subst (λ t. Spelled (paragraphs.division parts) n t AtEnd (λ found. found ≡ list)) (sym (units-told list))
      (ending (all-paragraphs list h) (λ found e. ending end-part (λ _ _. ending ended (λ _ _. pure e))))
