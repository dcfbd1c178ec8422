-- What spells literals, and the spans of a VALUE clause.
use Rattle.std.proofs.Common.{◌≡◌, ℕ, Bool, true, false, not, ◌&&◌, if◌then◌else◌, List, [], ◌∷◌, ◌++◌, map, Option, Some, None, refl, ap, sym, ◌∙◌, subst, append_assoc, append-nil, arith}
use Rattle.std.specs.Prelude.{◌==◌, codes}
use Rattle.std.proofs.lemmas.Bool.{and_parts}
use Rattle.std.proofs.lemmas.Bool.Decides.{nat_tests}
use Rattle.cob_tree.specs.declared.entry.Span.{Span}
use Rattle.cob_tree.specs.declared.number.Number.{Number}
use Rattle.cob_tree.specs.declared.place.Figure.{Figure}
use Rattle.cob_tree.specs.declared.place.Figure.TheVariants as figures
use Rattle.cob_tree.specs.declared.place.Expr.TheOpen.{Operand-F}
use Rattle.cob_tree.specs.declared.place.Operand.{Operand, fold-roll-Operand}
use Rattle.cob_tree.specs.declared.place.Operand.TheVariants as operands
use Rattle.cob_tree.specs.declared.program.Program.{Program}
use Rattle.cobol_lex.specs.declared.token.TokenKind.{TokenKind}
use Rattle.cobol_lex.specs.declared.token.TokenKind.TheVariants as kinds
use Rattle.cobol_grammar.specs.declared.data_forms.draft.SpanDraft.{SpanDraft}
use Rattle.cobol_grammar.specs.declared.data_forms.draft.ThruDraft.{ThruDraft}
use Rattle.cobol_grammar.specs.data_forms.Choice as choice
use Rattle.cobol_grammar.specs.data_forms.Clause as forms
use Rattle.declaration_checks.specs.Base.{span_of, to_of}
use Rattle.parser_combinators.specs.Form as form
use Rattle.parser_combinators.specs.Form.{begins_by}
use Rattle.parser_combinators.specs.Part as part
use Rattle.parser_combinators.specs.Part.{is_key}
use Rattle.parser_combinators.specs.words.Constant as constants
use Rattle.round_trip.specs.spelled_forms.Spelling.{first_of, Any, Spelled}
use Rattle.round_trip.proofs.spelled_forms_lemmas.Makers.{pure, hence, where_behind, bind, then as onward, ending, behind_first, there_next, other_next, no_turn, turn}
use Rattle.round_trip.proofs.spelled_forms_lemmas.Tokens.{same_word, key, valued, text}
use Rattle.unparser.specs.Token.{Tokens, number_token}
use Rattle.unparser.specs.Place.{expr_step, operand_step, place_step, sub_step, window_step, figure_word, operand_tokens}
use Rattle.cobol_print.specs.units.Entry.{thru_operand, span_tokens, spans_tokens}
use Rattle.round_trip.specs.spelling.data_spelling.Printable.{IsLiteral, IfAny, IsLiteralSpan, AreLiteralSpans}
use Rattle.round_trip.specs.spelling.data_spelling.Drafts.{IsSpans}

-- ---- a literal is one token

number-tokens : (program : Program) (number : Number) → operand_tokens program (operands.Number number) ≡ number_token number ∷ []
number-tokens program number =
    ap (operand_tokens program) (sym (operands.rolls-Number number))
    ∙ fold-roll-Operand (Bool → Tokens) Tokens Tokens Tokens Tokens expr_step operand_step (place_step program) sub_step window_step (Operand-F.Number number)

text-tokens : (program : Program) (text : List ℕ) → operand_tokens program (operands.Text text) ≡ kinds.Literal text ∷ []
text-tokens program text =
    ap (operand_tokens program) (sym (operands.rolls-Text text))
    ∙ fold-roll-Operand (Bool → Tokens) Tokens Tokens Tokens Tokens expr_step operand_step (place_step program) sub_step window_step (Operand-F.Text text)

figure-tokens : (program : Program) (figure : Figure) → operand_tokens program (operands.Figure figure) ≡ kinds.Word (figure_word figure) ∷ []
figure-tokens program figure =
    ap (operand_tokens program) (sym (operands.rolls-Figure figure))
    ∙ fold-roll-Operand (Bool → Tokens) Tokens Tokens Tokens Tokens expr_step operand_step (place_step program) sub_step window_step (Operand-F.Figure figure)

-- what is known of that token
record LiteralKind (operand : Operand) (kind : TokenKind) : Type 0 where
  begins : constants.begins_literal kind ≡ true
  no_is : is_key (codes "IS") kind ≡ false
  no_are : is_key (codes "ARE") kind ≡ false
  no_thru : forms.is_thru kind ≡ false
  spells : (n : ℕ) → Spelled constants.literal n (kind ∷ []) Any (λ found. found.0 ≡ operand)

-- ---- numbers

whole-same : (number : Number) → (not number.negative && number.scale == 0) ≡ true → constants.whole number.digits ≡ number
whole-same number e =
    let h = and_parts (not number.negative) (number.scale == 0) e in
    let none : 0 ≡ number.scale = zero-is number.scale h.1 in
    ap (λ (b : Bool). record { negative = b; digits = number.digits; scale = 0 }) (positive number.negative h.0)
    ∙ ap (λ (s : ℕ). record { negative = number.negative; digits = number.digits; scale = s }) none
  where
    positive : (b : Bool) → not b ≡ true → false ≡ b
    positive false e = refl
    positive true e = absurd cc

    zero-is : (n : ℕ) → (n == 0) ≡ true → 0 ≡ n
    zero-is n e = grind (arith, nat_tests)

whole-spelled : {n : ℕ} (number : Number) → constants.whole number.digits ≡ number → Spelled constants.literal n (kinds.Digits number.digits ∷ []) Any (λ found. found.0 ≡ operands.Number number)
unfolding constants.literal constants.whole_number
whole-spelled number same =
    there_next constants.is_digits _ (λ o b. refl)
    (ending (valued part.digits_of number.digits refl) (λ found h. pure (ap (λ d. operands.Number (constants.whole d)) h.0 ∙ ap (λ number. operands.Number number) same)))

decimal-spelled : {n : ℕ} (number : Number) → Spelled constants.literal n (kinds.Decimal number ∷ []) Any (λ found. found.0 ≡ operands.Number number)
unfolding constants.literal constants.other_number
decimal-spelled number =
    other_next constants.is_digits _ (λ o b. refl) (there_next constants.is_decimal _ (λ o b. refl)
    (ending (valued part.decimal_of number refl) (λ found h. pure (ap (λ number. operands.Number number) h.0))))

digits-kind : (number : Number) → constants.whole number.digits ≡ number → LiteralKind (operands.Number number) (kinds.Digits number.digits)
unfolding constants.begins_literal
digits-kind number same = record { begins = refl; no_is = refl; no_are = refl; no_thru = refl; spells = λ n. whole-spelled number same }

decimal-kind : (number : Number) → LiteralKind (operands.Number number) (kinds.Decimal number)
unfolding constants.begins_literal
decimal-kind number = record { begins = refl; no_is = refl; no_are = refl; no_thru = refl; spells = λ n. decimal-spelled number }

number-kind : (number : Number) → LiteralKind (operands.Number number) (number_token number)
number-kind number = go (not number.negative && number.scale == 0) refl
  where
    go : (b : Bool) → (not number.negative && number.scale == 0) ≡ b → LiteralKind (operands.Number number) (if b then kinds.Digits number.digits else kinds.Decimal number)
    go true e = digits-kind number (whole-same number e)
    go false e = decimal-kind number

-- ---- texts and figurative constants

text-kind : (bytes : List ℕ) → LiteralKind (operands.Text bytes) (kinds.Literal bytes)
unfolding constants.begins_literal
text-kind bytes = record { begins = refl; no_is = refl; no_are = refl; no_thru = refl; spells = λ n. text bytes }

figure-is : (figure : Figure) → constants.figure_of (kinds.Word (figure_word figure)) ≡ Some figure
unfolding constants.figure_of_word
figure-is figures.Zero = refl
figure-is figures.Space = refl
figure-is figures.HighValue = refl
figure-is figures.LowValue = refl
figure-is figures.Quote = refl

figure-spelled : {n : ℕ} (figure : Figure) → Spelled constants.literal n (kinds.Word (figure_word figure) ∷ []) Any (λ found. found.0 ≡ operands.Figure figure)
unfolding constants.literal constants.text_or_figure constants.figure
figure-spelled figure =
    other_next constants.is_digits _ (λ o b. refl) (other_next constants.is_decimal _ (λ o b. refl) (other_next constants.is_text _ (λ o b. refl)
    (ending (valued constants.figure_of figure (figure-is figure)) (λ found h. pure (ap (λ figure. operands.Figure figure) h.0)))))

figure-kind : (figure : Figure) → LiteralKind (operands.Figure figure) (kinds.Word (figure_word figure))
unfolding constants.begins_literal constants.figure_of_word
figure-kind figures.Zero = record { begins = refl; no_is = refl; no_are = refl; no_thru = refl; spells = λ n. figure-spelled figures.Zero }
figure-kind figures.Space = record { begins = refl; no_is = refl; no_are = refl; no_thru = refl; spells = λ n. figure-spelled figures.Space }
figure-kind figures.HighValue = record { begins = refl; no_is = refl; no_are = refl; no_thru = refl; spells = λ n. figure-spelled figures.HighValue }
figure-kind figures.LowValue = record { begins = refl; no_is = refl; no_are = refl; no_thru = refl; spells = λ n. figure-spelled figures.LowValue }
figure-kind figures.Quote = record { begins = refl; no_is = refl; no_are = refl; no_thru = refl; spells = λ n. figure-spelled figures.Quote }

-- ---- any literal

record LiteralTokens (program : Program) (operand : Operand) : Type 0 where
  kind : TokenKind
  tokens : operand_tokens program operand ≡ kind ∷ []
  known : LiteralKind operand kind

literal-tokens : (program : Program) (operand : Operand) → IsLiteral operand → LiteralTokens program operand
literal-tokens program (operands.Place place) h = absurd h
literal-tokens program (operands.Number number) h = record { kind = number_token number; tokens = number-tokens program number; known = number-kind number }
literal-tokens program (operands.Text bytes) h = record { kind = kinds.Literal bytes; tokens = text-tokens program bytes; known = text-kind bytes }
literal-tokens program (operands.Figure figure) h = record { kind = kinds.Word (figure_word figure); tokens = figure-tokens program figure; known = figure-kind figure }

module _ (program : Program) where
  literal : {n : ℕ} (operand : Operand) → IsLiteral operand → Spelled constants.literal n (operand_tokens program operand) Any (λ found. found.0 ≡ operand)
  literal {n = n} operand h =
      let is = literal-tokens program operand h in
      subst (λ list. Spelled constants.literal n list Any (λ found. found.0 ≡ operand)) (sym is.tokens) (is.known.spells n)

  -- the first token of one, and of what stands behind it
  first-literal : (operand : Operand) (h : IsLiteral operand) (more : Tokens) (o : Option TokenKind) → first_of (operand_tokens program operand ++ more) o ≡ Some (literal-tokens program operand h).kind
  first-literal operand h more o = ap (λ list. first_of (list ++ more) o) (literal-tokens program operand h).tokens

  -- ---- spans

  abbrev NoThru : Option TokenKind → Type 0
  NoThru behind = begins_by forms.is_thru behind ≡ false

  -- neither THRU nor another value
  abbrev pub EndsValues : Option TokenKind → Type 0
  EndsValues behind = NoThru behind × (begins_by constants.begins_literal behind ≡ false)

  thru : {n : ℕ} (to : Operand) → IsLiteral to → Spelled forms.thru n (kinds.Word (codes "THRU") ∷ operand_tokens program to) Any (λ (draft : ThruDraft). draft.to ≡ to)
  unfolding forms.thru choice.either
  thru to h =
      onward (there_next (is_key (codes "THRU")) _ (λ o b. same_word (codes "THRU")) (key (codes "THRU"))) (λ _ _. ending (literal to h) (λ found e. pure e))

  maybe_thru : {n : ℕ} (to : Option Operand) → IfAny IsLiteral to → Spelled forms.maybe_thru n (thru_operand program to) NoThru (λ found. to_of found ≡ to)
  unfolding forms.maybe_thru
  maybe_thru None h = other_next forms.is_thru _ (λ o b. b) (pure refl)
  maybe_thru (Some to) h = there_next forms.is_thru _ (λ o b. refl) (ending (where_behind (λ o b. tt) (thru to h)) (λ draft e. pure (ap (λ to. Some to) e)))

  span_spelled : {n : ℕ} (span : Span) → IsLiteralSpan span → Spelled forms.span n (span_tokens program span) NoThru (λ draft. span_of draft ≡ span)
  unfolding forms.span
  span_spelled span h =
      onward (literal span.from h.0) (λ found e. ending (maybe_thru span.to h.1)
      (λ end k. pure (ap (λ from. record { from = from; to = to_of end }) e ∙ ap (λ to. record { from = span.from; to = to }) k)))

  behind-spans : (spans : List Span) → AreLiteralSpans spans → (o : Option TokenKind) → EndsValues o → NoThru (first_of (spans_tokens program spans) o)
  behind-spans [] h o b = b.0
  behind-spans (span ∷ spans) h o b =
      ap (begins_by forms.is_thru)
      (ap (λ list. first_of list o) (append_assoc (operand_tokens program span.from) (thru_operand program span.to) (spans_tokens program spans))
      ∙ first-literal span.from h.0.0 (thru_operand program span.to ++ spans_tokens program spans) o)
      ∙ (literal-tokens program span.from h.0.0).known.no_thru

  begins-span : (span : Span) (h : IsLiteralSpan span) (o : Option TokenKind) → begins_by constants.begins_literal (first_of (span_tokens program span) o) ≡ true
  begins-span span h o = ap (begins_by constants.begins_literal) (first-literal span.from h.0 (thru_operand program span.to) o) ∙ (literal-tokens program span.from h.0).known.begins

  -- drafts of these spans, behind those before
  abbrev SpansBehind : List SpanDraft → List Span → List SpanDraft → Type 0
  SpansBehind front spans list = (more : List SpanDraft) × (map span_of more ≡ spans) × (list ≡ front ++ more)

  abbrev SpansLoop : List SpanDraft → form.Form (List SpanDraft)
  SpansLoop front = form.loop constants.begins_literal (form.added forms.span) front

  added : {n : ℕ} (front : List SpanDraft) (the : Span) → IsLiteralSpan the →
      Spelled (form.added forms.span front) n (span_tokens program the) NoThru (λ list. (draft : SpanDraft) × (span_of draft ≡ the) × (list ≡ front ++ draft ∷ []))
  added front the h = ending (span_spelled the h) (λ draft e. pure (draft, e, refl))

  spans_from : (spans : List Span) → AreLiteralSpans spans → (front : List SpanDraft) (n : ℕ) → Spelled (SpansLoop front) n (spans_tokens program spans) EndsValues (SpansBehind front spans)
  spans_from [] h front n = no_turn constants.begins_literal (form.added forms.span) (λ o b. b.1) ([], refl, sym (append-nil front))
  spans_from (the ∷ spans) h front n =
      turn constants.begins_literal (form.added forms.span) (begins-span the h.0) (added front the h.0) (behind-spans spans h.1)
      (λ mid e. hence
      (λ list k. (e.0 ∷ k.0, ap (λ s. s ∷ map span_of k.0) e.1 ∙ ap (λ list. the ∷ list) k.1, k.2 ∙ ap (λ f. f ++ k.0) e.2 ∙ append_assoc front (e.0 ∷ []) k.0))
      (spans_from spans h.1 mid _))

  spans_spelled : {n : ℕ} (the : Span) (spans : List Span) → AreLiteralSpans (the ∷ spans) → Spelled forms.spans n (spans_tokens program (the ∷ spans)) EndsValues (λ drafts. map span_of drafts ≡ the ∷ spans)
  unfolding forms.spans
  spans_spelled the spans h =
      bind (span_spelled the h.0) (behind-spans spans h.1)
      (λ draft e. hence
      (λ list k. ap (map span_of) k.2 ∙ ap (λ s. s ∷ map span_of k.0) e ∙ ap (λ list. the ∷ list) k.1)
      (spans_from spans h.1 (draft ∷ []) _))

  -- ---- the clause

  -- neither IS nor ARE
  no_word : {n : ℕ} → Spelled (choice.maybe_either (codes "IS") (codes "ARE")) n [] (λ o. (begins_by (is_key (codes "IS")) o ≡ false) × (begins_by (is_key (codes "ARE")) o ≡ false)) (λ _. Unit {0})
  unfolding choice.maybe_either
  no_word = other_next (is_key (codes "IS")) _ (λ o b. b.0) (other_next (is_key (codes "ARE")) _ (λ o b. b.1) (pure tt))

  pub values : {n : ℕ} (the : Span) (more : List Span) → AreLiteralSpans (the ∷ more) →
      Spelled forms.value_clause n (kinds.Word (codes "VALUE") ∷ spans_tokens program (the ∷ more)) EndsValues (λ clause. IsSpans (the ∷ more) (clause ∷ []))
  unfolding forms.value_clause choice.either
  values the more h =
      onward (there_next (is_key (codes "VALUE")) _ (λ o b. same_word (codes "VALUE")) (key (codes "VALUE")))
      (λ at _. behind_first no_word (λ o b. let first = first o in (ap (begins_by (is_key (codes "IS"))) first ∙ known.no_is, ap (begins_by (is_key (codes "ARE"))) first ∙ known.no_are))
      (λ _ _. ending (spans_spelled the more h) (λ drafts e. pure (at, drafts, e, refl))))
    where
      first : (o : Option TokenKind) → first_of (spans_tokens program (the ∷ more)) o ≡ Some (literal-tokens program the.from h.0.0).kind
      first o =
          ap (λ list. first_of list o) (append_assoc (operand_tokens program the.from) (thru_operand program the.to) (spans_tokens program more))
          ∙ first-literal the.from h.0.0 (thru_operand program the.to ++ spans_tokens program more) o

      known : LiteralKind the.from (literal-tokens program the.from h.0.0).kind
      known = (literal-tokens program the.from h.0.0).known
