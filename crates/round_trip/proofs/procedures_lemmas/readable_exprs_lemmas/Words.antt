-- What names, literals and counts give, whatever the tokens are.
use Rattle.std.proofs.Common.{◌≡◌, ℕ, ◌+◌, ◌≤◌, Bool, true, false, List, [], ◌∷◌, ◌++◌, Option, Some, None, refl, ap, sym, ◌∙◌, subst}
use Rattle.std.specs.Prelude.{codes, nat_lt, if◌then◌else◌}
use Rattle.std.proofs.lemmas.Bool.{and_parts, ltb-false}
use Rattle.cob_tree.specs.declared.number.Number.{Number}
use Rattle.cob_tree.specs.declared.place.Figure.{Figure}
use Rattle.cob_tree.specs.declared.place.Figure.TheVariants as figures
use Rattle.cob_tree.specs.declared.place.Operand.{Operand}
use Rattle.cob_tree.specs.declared.place.Operand.TheVariants as operands
use Rattle.cob_tree.specs.declared.program.Program.{Program}
use Rattle.cobol_lex.specs.declared.token.Token.{Token}
use Rattle.cobol_lex.specs.declared.token.TokenKind.{TokenKind}
use Rattle.cobol_lex.specs.declared.token.TokenKind.TheVariants as kinds
use Rattle.parser_combinators.specs.declared.note.Position.{Position}
use Rattle.parser_combinators.specs.declared.why.Why.{Why}
use Rattle.parser_combinators.specs.declared.why.Why.TheVariants.{Terms}
use Rattle.parser_combinators.specs.Form as form
use Rattle.parser_combinators.specs.Form.{Input, Got, position_of, taken_as, one_reads, begins_by, next}
use Rattle.parser_combinators.specs.Part as part
use Rattle.parser_combinators.proofs.MakerLaws as laws
use Rattle.parser_combinators.specs.words.Constant as constants
use Rattle.parser_combinators.specs.words.Word as words
use Rattle.parser_combinators.specs.words.Word.{is_data_word}
use Rattle.symbol_tables.specs.data_names.Names.{Names}
use Rattle.program_facts.specs.term_counts.Expression.{operand_terms}
use Rattle.cobol_grammar.specs.declared.expr_forms.side.ValueKind.{ValueKind}
use Rattle.cobol_grammar.specs.declared.expr_forms.side.ValueKind.TheVariants as values
use Rattle.cobol_grammar.specs.declared.expr_forms.side.ParsedExpr.TheVariants as whats
use Rattle.cob_base.specs.Limit.{max_terms}
use Rattle.cobol_grammar.specs.expr_forms.Limit as limits
use Rattle.cobol_grammar.specs.expr_forms.Reference as references
use Rattle.cobol_grammar.specs.expr_forms.Side.{figure_kind, literal_kind}
use Rattle.cobol_grammar.specs.expr_forms.Token.{is_of}
use Rattle.program_facts.proofs.well_scoped_lemmas.Made.{both}
use Rattle.grammar_laws.specs.form_results.Giving.{Gives}
use Rattle.grammar_laws.proofs.form_results_lemmas.Giving.{any, hence, pure, refuse, one, key, where_next, loop, ◌>>=◌, ◌>>◌}
use Rattle.round_trip.specs.spelling.expr_spelling.Printable.{are_data_words, judged_operand}
use Rattle.round_trip.specs.spelling.expr_spelling.Printable as judging
use Rattle.round_trip.specs.spelling.expr_spelling.Spelled.{what_of}
use Rattle.round_trip.proofs.spelling_lemmas.expr_spelling_lemmas.Layers.{judged-Number, judged-Text, judged-Figure, terms-Number, terms-Text, terms-Figure}

some-is : {A : Type 0} {x y : A} → Some x ≡ Some y → x ≡ y
some-is e = cc

-- ---- a token that is there only where it begins the form

module _ {A : Type 0} (Kind : TokenKind → Type 0) (begin : TokenKind → Bool) (test : Position → TokenKind → Option A) (why : Why) where
  abbrev tested : Position → TokenKind → Option A
  tested position kind = if begin kind then test position kind else None

  -- what is read where it begins is read by both tests
  read-both : (ts : List Token) (p : Input) (a : A) (q : Input) → p.rest ≡ ts →
      (form.chosen (begins_by begin (next ts)) (form.one test) (form.refuse why)).reads p ≡ Got a q → one_reads tested ts p ≡ Got a q
  read-both [] p a q is e = absurd cc
  read-both (t ∷ ts) p a q is e = go (begin t.kind) e
    where
      go : (v : Bool) → (form.chosen v (form.one test) (form.refuse why)).reads p ≡ Got a q →
          taken_as (if v then test (position_of p t) t.kind else None) t ts p ≡ Got a q
      go true e = sym (ap (λ rest. one_reads test rest p) is) ∙ e
      go false e = absurd cc

  both-read : (p : Input) (a : A) (q : Input) → (form.where_next begin (form.one test) (form.refuse why)).reads p ≡ Got a q → (form.one tested).reads p ≡ Got a q
  both-read p a q e = read-both p.rest p a q refl e

  pub begun : {P : A → Type 0} → ((position : Position) (kind : TokenKind) (a : A) → begin kind ≡ true → test position kind ≡ Some a → P a) →
      Gives Kind (form.where_next begin (form.one test) (form.refuse why)) P
  begun {P = P} h = record {
    keeps = λ p a q e k. F.keeps p a q (both-read p a q e) k;
    gives = λ p a q e k n. F.gives p a q (both-read p a q e) k n;
  }
    where
      passes : (position : Position) (kind : TokenKind) (a : A) → (v : Bool) → begin kind ≡ v →
          (if v then test position kind else None) ≡ Some a → P a
      passes position kind a true is e = h position kind a is e
      passes position kind a false is e = absurd cc

      F : Gives Kind (form.one tested) P
      F = one tested (λ position kind a k e. passes position kind a (begin kind) refl e)

-- ---- names

name-token : (position : Position) (kind : TokenKind) (found : List ℕ × Position) → words.is_name kind ≡ true →
    part.with_position position (part.word_of kind) ≡ Some found → is_data_word found.0 ≡ true
name-token position (kinds.Word word) found d e = subst (λ (f : List ℕ × Position). is_data_word f.0 ≡ true) (some-is e) d
name-token position (kinds.Digits digits) found d e = absurd cc
name-token position (kinds.Decimal number) found d e = absurd cc
name-token position (kinds.Literal text) found d e = absurd cc
name-token position (kinds.Picture picture) found d e = absurd cc
name-token position kinds.Period found d e = absurd cc
name-token position (kinds.Mark b) found d e = absurd cc
name-token position kinds.LessEqual found d e = absurd cc
name-token position kinds.GreaterEqual found d e = absurd cc
name-token position kinds.Power found d e = absurd cc

words-added : (front : List (List ℕ)) (word : List ℕ) → are_data_words front ≡ true → is_data_word word ≡ true → are_data_words (front ++ word ∷ []) ≡ true
words-added [] word f w = both w refl
words-added (first ∷ front) word f w =
    let h = and_parts (is_data_word first) (are_data_words front) f in
    both h.0 (words-added front word h.1 w)

-- ---- literals

-- a name that stands for something
abbrev pub is_there : ValueKind → Bool
is_there values.Unknown = false
is_there _ = true

figure-there : (figure : Figure) → is_there (figure_kind figure) ≡ true
figure-there figures.Zero = refl
figure-there figures.Space = refl
figure-there figures.HighValue = refl
figure-there figures.LowValue = refl
figure-there figures.Quote = refl

-- a literal stands for itself
pub record IsLiteral (names : Names) (program : Program) (operand : Operand) : Type 0 where
  pub what : what_of operand ≡ whats.Literal operand
  pub judged : judged_operand names program operand ≡ judging.literal (literal_kind operand)
  pub there : is_there (literal_kind operand) ≡ true
  pub terms : operand_terms operand ≡ 0

module _ (names : Names) (program : Program) where
  pub number-literal : (number : Number) → IsLiteral names program (operands.Number number)
  number-literal number = record { what = refl; judged = judged-Number names program number; there = refl; terms = terms-Number number }

  text-literal : (text : List ℕ) → IsLiteral names program (operands.Text text)
  text-literal text = record { what = refl; judged = judged-Text names program text; there = refl; terms = terms-Text text }

  figure-literal : (figure : Figure) → IsLiteral names program (operands.Figure figure)
  figure-literal figure = record { what = refl; judged = judged-Figure names program figure; there = figure-there figure; terms = terms-Figure figure }

module _ {Kind : TokenKind → Type 0} where
  pub name : Gives Kind words.name (λ found. is_data_word found.0 ≡ true)
  unfolding words.name
  name = begun Kind words.is_name (λ position kind. part.with_position position (part.word_of kind)) _ name-token

  qualifier : Gives Kind references.qualifier (λ found. is_data_word found ≡ true)
  unfolding references.qualifier
  qualifier = where_next (key (codes "OF")) (key (codes "IN")) >> (name >>= (λ found. pure (λ n _. n)))

  qualifiers_from : (front : List (List ℕ)) → Gives Kind (form.loop is_of (form.added references.qualifier) front) (λ of. are_data_words front ≡ true → are_data_words of ≡ true)
  qualifiers_from front = loop {P = λ of. are_data_words of ≡ true} (λ front. qualifier >>= (λ word. pure (λ w f. words-added front word f w)))

  pub qualifiers : Gives Kind references.qualifiers (λ of. are_data_words of ≡ true)
  qualifiers = hence (λ of h. h refl) (qualifiers_from [])

  -- ---- literals

  pub literal : (names : Names) (program : Program) → Gives Kind constants.literal (λ found. IsLiteral names program found.0)
  unfolding constants.literal constants.whole_number constants.other_number constants.text_or_figure constants.text constants.figure
  literal names program =
      where_next (any laws.digits >>= (λ found. pure (λ _. number-literal names program (constants.whole found.0))))
      (where_next (any laws.decimal >>= (λ found. pure (λ _. number-literal names program found.0)))
      (where_next (any laws.literal >>= (λ found. pure (λ _. text-literal names program found.0)))
      (any (laws.valued constants.figure_of) >>= (λ found. pure (λ _. figure-literal names program found.0)))))

  -- ---- counts

  pub tally : (count more : ℕ) → Gives Kind (limits.count_terms count more) (λ found. (found ≡ count + more) × (found ≤ 500))
  tally count more = by (nat_lt max_terms (count + more)) refl
    where
      by : (passes : Bool) → nat_lt max_terms (count + more) ≡ passes → Gives Kind (part.unless Terms passes (count + more)) (λ found. (found ≡ count + more) × (found ≤ 500))
      by true e = refuse
      by false e = pure (refl, ltb-false 500 (count + more) e)
