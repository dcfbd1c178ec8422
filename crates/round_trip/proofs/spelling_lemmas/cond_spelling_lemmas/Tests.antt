-- What of the tokens stands first, and tests of what stands behind.
use Rattle.std.proofs.Common.{◌≡◌, ℕ, Bool, true, false, not, ◌&&◌, ◌||◌, List, [], ◌∷◌, ◌++◌, Option, Some, None, refl, ap, ◌∙◌, subst}
use Rattle.std.specs.Prelude.{codes, ◌==◌, if◌then◌else◌}
use Rattle.std.specs.Str.{bytes_eq}
use Rattle.std.proofs.lemmas.Bool.{or_parts, or_from}
use Rattle.cob_base.specs.Bytes.{left_parenthesis, right_parenthesis, hyphen}
use Rattle.cob_words.specs.Lists.{reserved_words, is_listed}
use Rattle.cob_tree.specs.declared.number.Number.{Number}
use Rattle.cob_tree.specs.declared.place.Expr.{Expr}
use Rattle.cob_tree.specs.declared.place.Figure.{Figure}
use Rattle.cob_tree.specs.declared.place.Figure.TheVariants as figures
use Rattle.cob_tree.specs.declared.place.Operand.{Operand}
use Rattle.cob_tree.specs.declared.place.Place.{Place}
use Rattle.cob_tree.specs.declared.program.Program.{Program}
use Rattle.cobol_lex.specs.declared.token.TokenKind.{TokenKind}
use Rattle.cobol_lex.specs.declared.token.TokenKind.TheVariants as kinds
use Rattle.parser_combinators.specs.Form.{begins_by}
use Rattle.parser_combinators.specs.Part.{is_key}
use Rattle.unparser.specs.Token.{Tokens}
use Rattle.unparser.specs.Place.{item_name, op_mark, figure_word, place_tokens, operand_tokens, expr_tokens}
use Rattle.parser_combinators.specs.words.Word.{is_data_word}
use Rattle.symbol_tables.specs.data_names.Names.{Names}
use Rattle.cobol_grammar.specs.expr_forms.Token.{is_of, begins_turn}
use Rattle.cobol_grammar.specs.cond_forms.Token.{begins_rel, begins_rel_behind, begins_sign, begins_class, joins}
use Rattle.round_trip.specs.spelled_forms.Spelling.{first_of}
use Rattle.round_trip.specs.spelling.expr_spelling.Printable.{IsPrintableExpr, IsPrintableOperand, IsPrintablePlace}
use Rattle.round_trip.specs.spelling.expr_spelling.Spelled.{Ends, continues_place, continues_expr}
use Rattle.round_trip.proofs.spelling_lemmas.expr_spelling_lemmas.Layers.{expr-cases, operand-cases, place-cases, tokens-Leaf, tokens-Place, tokens-Number, tokens-Text, tokens-Figure, tokens-place, judged-Place}
use Rattle.round_trip.proofs.spelling_lemmas.expr_spelling_lemmas.Tests.{key-apart}
use Rattle.round_trip.proofs.spelling_lemmas.expr_spelling_lemmas.Places.{fit-place}
use Rattle.round_trip.proofs.spelling_lemmas.expr_spelling_lemmas.Exprs.{leaf-fit, both-fit, plain-Minus, plain-Both, within-Minus, within-Both}
use Rattle.round_trip.specs.spelling.cond_spelling.Behind.{begins_test, continues_part, continues_cond}

-- a test that no token passes with which an expression begins
pub record Rejects (test : TokenKind → Bool) : Type 0 where
  pub digits : (digits : List ℕ) → test (kinds.Digits digits) ≡ false
  pub decimal : (number : Number) → test (kinds.Decimal number) ≡ false
  pub text : (text : List ℕ) → test (kinds.Literal text) ≡ false
  pub figure : (figure : Figure) → test (kinds.Word (figure_word figure)) ≡ false
  pub word : (word : List ℕ) → is_data_word word ≡ true → test (kinds.Word word) ≡ false
  pub minus : test (kinds.Mark hyphen) ≡ false
  pub opens : test (kinds.Mark left_parenthesis) ≡ false

not-listed : is_listed reserved_words (codes "NOT") ≡ true
unfolding reserved_words
not-listed = refl

rel-listed : (is_listed reserved_words (codes "EQUAL") ≡ true) × (is_listed reserved_words (codes "GREATER") ≡ true) × (is_listed reserved_words (codes "LESS") ≡ true)
unfolding reserved_words
rel-listed = (refl, refl, refl)

not-figure : (figure : Figure) → is_key (codes "NOT") (kinds.Word (figure_word figure)) ≡ false
not-figure figures.Zero = refl
not-figure figures.Space = refl
not-figure figures.HighValue = refl
not-figure figures.LowValue = refl
not-figure figures.Quote = refl

pub rejects-not : Rejects (is_key (codes "NOT"))
rejects-not = record {
  digits = λ d. refl;
  decimal = λ d. refl;
  text = λ d. refl;
  figure = not-figure;
  word = λ word h. key-apart (codes "NOT") word not-listed h;
  minus = refl;
  opens = refl;
}

rel-figure : (figure : Figure) → begins_rel (kinds.Word (figure_word figure)) ≡ false
unfolding begins_rel
rel-figure figures.Zero = refl
rel-figure figures.Space = refl
rel-figure figures.HighValue = refl
rel-figure figures.LowValue = refl
rel-figure figures.Quote = refl

pub rejects-rel : Rejects begins_rel
unfolding begins_rel
rejects-rel = record {
  digits = λ d. refl;
  decimal = λ d. refl;
  text = λ d. refl;
  figure = rel-figure;
  word = λ word h.
      or_from (bytes_eq (codes "EQUAL") word) (bytes_eq (codes "GREATER") word || bytes_eq (codes "LESS") word) (key-apart (codes "EQUAL") word rel-listed.0 h)
      (or_from (bytes_eq (codes "GREATER") word) (bytes_eq (codes "LESS") word) (key-apart (codes "GREATER") word rel-listed.1 h) (key-apart (codes "LESS") word rel-listed.2 h));
  minus = refl;
  opens = refl;
}

module _ (names : Names) (program : Program) {test : TokenKind → Bool} (R : Rejects test) where
  pub place-rejects : (place : Place) → IsPrintablePlace names program place → (o : Option TokenKind) → Ends test (first_of (place_tokens program place) o)
  place-rejects place fit o =
      (place-cases (λ place. IsPrintablePlace names program place → Ends test (first_of (place_tokens program place) o))
      (λ item of subs window f. ap (λ list. begins_by test (first_of list o)) (tokens-place program item of subs window) ∙ R.word (item_name program item) (fit-place names program item of subs window f).word) place) fit

  number-rejects : (number : Number) (plain : Bool) → test (if plain then kinds.Digits number.digits else kinds.Decimal number) ≡ false
  number-rejects number true = R.digits number.digits
  number-rejects number false = R.decimal number

  operand-rejects : (operand : Operand) → IsPrintableOperand names program operand → (o : Option TokenKind) → Ends test (first_of (operand_tokens program operand) o)
  operand-rejects operand fit o =
      (operand-cases (λ operand. IsPrintableOperand names program operand → Ends test (first_of (operand_tokens program operand) o))
      (λ place f. ap (λ list. begins_by test (first_of list o)) (tokens-Place program place) ∙ place-rejects place (subst (λ j. j.fit ≡ true) (judged-Place names program place) f) o)
      (λ number f. ap (λ list. begins_by test (first_of list o)) (tokens-Number program number) ∙ number-rejects number (not number.negative && number.scale == 0))
      (λ text f. ap (λ list. begins_by test (first_of list o)) (tokens-Text program text) ∙ R.text text)
      (λ figure f. ap (λ list. begins_by test (first_of list o)) (tokens-Figure program figure) ∙ R.figure figure) operand) fit

  within-rejects : (expr : Expr) → IsPrintableExpr names program expr → (o : Option TokenKind) → Ends test (first_of (expr_tokens program expr true) o)
  within-rejects expr fit o =
      (expr-cases (λ expr. IsPrintableExpr names program expr → Ends test (first_of (expr_tokens program expr true) o))
      (λ operand f. ap (λ list. begins_by test (first_of list o)) (tokens-Leaf program operand true) ∙ operand-rejects operand (leaf-fit names program operand f) o)
      (λ inner f. ap (λ list. begins_by test (first_of list o)) (within-Minus names program inner) ∙ R.opens)
      (λ op left right f. ap (λ list. begins_by test (first_of list o)) (within-Both names program op left right) ∙ R.opens) expr) fit

  front-of : (list more : Tokens) (o : Option TokenKind) → first_of (list ++ more) o ≡ first_of list (first_of more o)
  front-of [] more o = refl
  front-of (x ∷ list) more o = refl

  pub expr-rejects : (expr : Expr) → IsPrintableExpr names program expr → (o : Option TokenKind) → Ends test (first_of (expr_tokens program expr false) o)
  expr-rejects expr fit o =
      (expr-cases (λ expr. IsPrintableExpr names program expr → Ends test (first_of (expr_tokens program expr false) o))
      (λ operand f. ap (λ list. begins_by test (first_of list o)) (tokens-Leaf program operand false) ∙ operand-rejects operand (leaf-fit names program operand f) o)
      (λ inner f. ap (λ list. begins_by test (first_of list o)) (plain-Minus names program inner) ∙ R.minus)
      (λ op left right f. ap (λ list. begins_by test (first_of list o)) (plain-Both names program op left right)
      ∙ ap (λ k. begins_by test k) (front-of (expr_tokens program left true) (kinds.Mark (op_mark op) ∷ expr_tokens program right true) o)
      ∙ within-rejects left (both-fit names program op left right f).left_fit (first_of (kinds.Mark (op_mark op) ∷ expr_tokens program right true) o)) expr) fit

  -- the same where more tokens follow
  pub expr-front : (expr : Expr) → IsPrintableExpr names program expr → (more : Tokens) (o : Option TokenKind) → Ends test (first_of (expr_tokens program expr false ++ more) o)
  expr-front expr fit more o = ap (λ k. begins_by test k) (front-of (expr_tokens program expr false) more o) ∙ expr-rejects expr fit (first_of more o)

  pub place-front : (place : Place) → IsPrintablePlace names program place → (more : Tokens) (o : Option TokenKind) → Ends test (first_of (place_tokens program place ++ more) o)
  place-front place fit more o = ap (λ k. begins_by test k) (front-of (place_tokens program place) more o) ∙ place-rejects place fit (first_of more o)

-- ---- behind a condition

pub record PartEnds (o : Option TokenKind) : Type 0 where
  pub expr : Ends continues_expr o
  pub no_is : Ends (is_key (codes "IS")) o
  pub no_not : Ends (is_key (codes "NOT")) o
  pub no_rel : Ends (begins_rel_behind false) o
  pub no_sign : Ends begins_sign o
  pub no_class : Ends begins_class o

pub part-ends : (o : Option TokenKind) → Ends continues_part o → PartEnds o
unfolding continues_part
part-ends None e = record { expr = refl; no_is = refl; no_not = refl; no_rel = refl; no_sign = refl; no_class = refl }
part-ends (Some kind) e =
    let a = or_parts (continues_expr kind) (is_key (codes "IS") kind || (is_key (codes "NOT") kind || begins_test kind)) e in
    let b = or_parts (is_key (codes "IS") kind) (is_key (codes "NOT") kind || begins_test kind) a.1 in
    let c = or_parts (is_key (codes "NOT") kind) (begins_test kind) b.1 in
    let d = or_parts (begins_rel_behind false kind) (begins_sign kind || begins_class kind) c.1 in
    let f = or_parts (begins_sign kind) (begins_class kind) d.1 in
    record { expr = a.0; no_is = b.0; no_not = c.0; no_rel = d.0; no_sign = f.0; no_class = f.1 }

pub cond-ends : (o : Option TokenKind) → Ends continues_cond o → Ends continues_part o × Ends joins o
unfolding continues_cond
cond-ends None e = (refl, refl)
cond-ends (Some kind) e = or_parts (continues_part kind) (joins kind) e

pub and-ends : continues_part (kinds.Word (codes "AND")) ≡ false
unfolding continues_part continues_expr continues_place is_of begins_turn begins_rel_behind begins_rel begins_sign begins_class
and-ends = refl

pub or-ends : continues_part (kinds.Word (codes "OR")) ≡ false
unfolding continues_part continues_expr continues_place is_of begins_turn begins_rel_behind begins_rel begins_sign begins_class
or-ends = refl

pub close-cond : continues_cond (kinds.Mark right_parenthesis) ≡ false
unfolding continues_cond continues_part continues_expr continues_place is_of begins_turn begins_rel_behind begins_rel begins_sign begins_class joins
close-cond = refl

pub and-joins : joins (kinds.Word (codes "AND")) ≡ true
unfolding joins
and-joins = refl

pub or-joins : joins (kinds.Word (codes "OR")) ≡ true
unfolding joins
or-joins = refl
