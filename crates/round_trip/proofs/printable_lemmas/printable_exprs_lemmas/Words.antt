-- What names and literals give, of tokens that can be printed.
use Rattle.std.proofs.Common.{◌≡◌, ℕ, ◌<◌, Bool, true, false, List, [], ◌∷◌, length, Option, Some, None, refl, ap, sym, ◌∙◌, subst, arith}
use Rattle.std.specs.Prelude.{if◌then◌else◌}
use Rattle.std.proofs.lemmas.Bool.{le-leb}
use Rattle.std.proofs.lemmas.Slice.Eq.{bytes_eq-Decides}
use Rattle.cob_base.specs.Spelling.{folded}
use Rattle.cob_tree.specs.declared.number.Number.{Number}
use Rattle.cob_tree.specs.declared.place.Operand.TheVariants as operands
use Rattle.cobol_lex.specs.Written.{AreDigits}
use Rattle.cobol_lex.specs.declared.token.Token.{Token}
use Rattle.cobol_lex.specs.declared.token.TokenKind.{TokenKind}
use Rattle.cobol_lex.specs.declared.token.TokenKind.TheVariants as kinds
use Rattle.cobol_lex.proofs.WordLemmas.{IsWord-fits}
use Rattle.parser_combinators.specs.declared.note.Position.{Position}
use Rattle.parser_combinators.specs.declared.why.Why.{Why}
use Rattle.parser_combinators.specs.Form as form
use Rattle.parser_combinators.specs.Form.{Input, Form, Got, position_of, taken_as, one_reads, begins_by, next}
use Rattle.parser_combinators.specs.Part as part
use Rattle.parser_combinators.proofs.MakerLaws as laws
use Rattle.parser_combinators.specs.words.Constant as constants
use Rattle.parser_combinators.specs.words.Word as words
use Rattle.parser_combinators.specs.words.Word.{is_data_word}
use Rattle.program_facts.specs.well_scoped.Part.{is_filled, are_digits, number_named}
use Rattle.program_facts.proofs.well_scoped_lemmas.Made.{both}
use Rattle.grammar_laws.specs.form_results.Giving.{Gives}
use Rattle.grammar_laws.proofs.form_results_lemmas.Giving.{any, pure, one, valued, where_next, ◌>>=◌}
use Rattle.grammar_laws.proofs.form_results_lemmas.Literals.{whole-named}
use Rattle.round_trip.specs.printable.printable_tokens.Printable.{IsPrintableWord, is_printable_text, begins_well, IsPrintable}
use Rattle.round_trip.specs.printable.Part.{is_printable_name, is_printable_operand}
use Rattle.round_trip.proofs.printable_lemmas.Made.{made-Number-operand, made-Text-operand, made-Figure-operand}

some-is : {A : Type 0} {x y : A} → Some x ≡ Some y → x ≡ y
some-is e = cc

-- ---- a token that is there only where it begins the form

module _ {A : Type 0} (Kind : TokenKind → Type 0) (begin : TokenKind → Bool) (test : Position → TokenKind → Option A) (why : Why) where
  abbrev tested : Position → TokenKind → Option A
  tested position kind = if begin kind then test position kind else None

  -- what is read where it begins is read by both tests
  read-both : (ts : List Token) (p : Input) (a : A) (q : Input) → p.rest ≡ ts →
      (form.chosen (begins_by begin (next ts)) (form.one test) (form.refuse why)).reads p ≡ Got a q → one_reads tested ts p ≡ Got a q
  read-both [] p a q is e = absurd cc
  read-both (t ∷ ts) p a q is e = go (begin t.kind) e
    where
      go : (v : Bool) → (form.chosen v (form.one test) (form.refuse why)).reads p ≡ Got a q →
          taken_as (if v then test (position_of p t) t.kind else None) t ts p ≡ Got a q
      go true e = sym (ap (λ rest. one_reads test rest p) is) ∙ e
      go false e = absurd cc

  both-read : (p : Input) (a : A) (q : Input) → (form.where_next begin (form.one test) (form.refuse why)).reads p ≡ Got a q → (form.one tested).reads p ≡ Got a q
  both-read p a q e = read-both p.rest p a q refl e

  pub begun : {P : A → Type 0} → ((position : Position) (kind : TokenKind) (a : A) → Kind kind → begin kind ≡ true → test position kind ≡ Some a → P a) →
      Gives Kind (form.where_next begin (form.one test) (form.refuse why)) P
  begun {P = P} h = record {
    keeps = λ p a q e k. F.keeps p a q (both-read p a q e) k;
    gives = λ p a q e k n. F.gives p a q (both-read p a q e) k n;
  }
    where
      passes : (position : Position) (kind : TokenKind) (a : A) → Kind kind → (v : Bool) → begin kind ≡ v →
          (if v then test position kind else None) ≡ Some a → P a
      passes position kind a k true is e = h position kind a k is e
      passes position kind a k false is e = absurd cc

      F : Gives Kind (form.one tested) P
      F = one tested (λ position kind a k e. passes position kind a k (begin kind) refl e)

-- ---- names

word-name : (word : List ℕ) → IsPrintableWord word → is_data_word word ≡ true → is_printable_name word ≡ true
word-name word h d = both (both (IsWord-fits word h.0.word) ((bytes_eq-Decides (folded word) word).1 h.0.capital)) d

name-token : (position : Position) (kind : TokenKind) (found : List ℕ × Position) → IsPrintable kind → words.is_name kind ≡ true →
    part.with_position position (part.word_of kind) ≡ Some found → is_printable_name found.0 ≡ true
name-token position (kinds.Word word) found k d e = subst (λ (f : List ℕ × Position). is_printable_name f.0 ≡ true) (some-is e) (word-name word k d)
name-token position (kinds.Digits digits) found k d e = absurd cc
name-token position (kinds.Decimal number) found k d e = absurd cc
name-token position (kinds.Literal text) found k d e = absurd cc
name-token position (kinds.Picture picture) found k d e = absurd cc
name-token position kinds.Period found k d e = absurd cc
name-token position (kinds.Mark b) found k d e = absurd cc
name-token position kinds.LessEqual found k d e = absurd cc
name-token position kinds.GreaterEqual found k d e = absurd cc
name-token position kinds.Power found k d e = absurd cc

pub name : Gives IsPrintable words.name (λ found. is_printable_name found.0 ≡ true)
unfolding words.name
name = begun IsPrintable words.is_name (λ position kind. part.with_position position (part.word_of kind)) _ name-token

-- ---- numbers

filled : (digits : List ℕ) → 0 < length digits → is_filled digits ≡ true
filled [] h = absurd (omega (arith, h))
filled (d ∷ digits) h = refl

pub digits-fine : (digits : List ℕ) → AreDigits digits → are_digits digits ≡ true
digits-fine digits h = both (both (filled digits h.some) (le-leb (length digits) 18 h.few)) h.digits_only

digits-token : (kind : TokenKind) (digits : List ℕ) → IsPrintable kind → part.digits_of kind ≡ Some digits → are_digits digits ≡ true
digits-token (kinds.Digits found) digits k e = subst (λ d. are_digits d ≡ true) (some-is e) (digits-fine found k)
digits-token (kinds.Word word) digits k e = absurd cc
digits-token (kinds.Decimal number) digits k e = absurd cc
digits-token (kinds.Literal text) digits k e = absurd cc
digits-token (kinds.Picture picture) digits k e = absurd cc
digits-token kinds.Period digits k e = absurd cc
digits-token (kinds.Mark byte) digits k e = absurd cc
digits-token kinds.LessEqual digits k e = absurd cc
digits-token kinds.GreaterEqual digits k e = absurd cc
digits-token kinds.Power digits k e = absurd cc

decimal-token : (kind : TokenKind) (number : Number) → IsPrintable kind → part.decimal_of kind ≡ Some number → number_named number ≡ true
decimal-token (kinds.Decimal found) number k e =
    subst (λ n. number_named n ≡ true) (some-is e) (both (digits-fine found.digits k.0) (le-leb found.scale (length found.digits) k.1))
decimal-token (kinds.Word word) number k e = absurd cc
decimal-token (kinds.Digits digits) number k e = absurd cc
decimal-token (kinds.Literal text) number k e = absurd cc
decimal-token (kinds.Picture picture) number k e = absurd cc
decimal-token kinds.Period number k e = absurd cc
decimal-token (kinds.Mark byte) number k e = absurd cc
decimal-token kinds.LessEqual number k e = absurd cc
decimal-token kinds.GreaterEqual number k e = absurd cc
decimal-token kinds.Power number k e = absurd cc

text-token : (kind : TokenKind) (text : List ℕ) → IsPrintable kind → part.literal_of kind ≡ Some text → is_printable_text text ≡ true
text-token (kinds.Literal found) text k e = subst (λ t. is_printable_text t ≡ true) (some-is e) k
text-token (kinds.Word word) text k e = absurd cc
text-token (kinds.Digits digits) text k e = absurd cc
text-token (kinds.Decimal number) text k e = absurd cc
text-token (kinds.Picture picture) text k e = absurd cc
text-token kinds.Period text k e = absurd cc
text-token (kinds.Mark byte) text k e = absurd cc
text-token kinds.LessEqual text k e = absurd cc
text-token kinds.GreaterEqual text k e = absurd cc
text-token kinds.Power text k e = absurd cc

picture-token : (kind : TokenKind) (picture : List ℕ) → IsPrintable kind → part.picture_of kind ≡ Some picture → begins_well picture ≡ true
picture-token (kinds.Picture found) picture k e = subst (λ t. begins_well t ≡ true) (some-is e) k
picture-token (kinds.Word word) picture k e = absurd cc
picture-token (kinds.Digits digits) picture k e = absurd cc
picture-token (kinds.Decimal number) picture k e = absurd cc
picture-token (kinds.Literal text) picture k e = absurd cc
picture-token kinds.Period picture k e = absurd cc
picture-token (kinds.Mark byte) picture k e = absurd cc
picture-token kinds.LessEqual picture k e = absurd cc
picture-token kinds.GreaterEqual picture k e = absurd cc
picture-token kinds.Power picture k e = absurd cc

pub digits : Gives IsPrintable part.digits (λ found. are_digits found.0 ≡ true)
digits = valued part.digits_of digits-token

pub decimal : Gives IsPrintable part.decimal (λ found. number_named found.0 ≡ true)
decimal = valued part.decimal_of decimal-token

pub picture : Gives IsPrintable part.picture (λ found. begins_well found.0 ≡ true)
picture = valued part.picture_of picture-token

pub text : Gives IsPrintable part.literal (λ found. is_printable_text found.0 ≡ true)
text = valued part.literal_of text-token

-- ---- literals

pub whole-literal : (digits : List ℕ) → are_digits digits ≡ true → is_printable_operand (operands.Number (constants.whole digits)) ≡ true
whole-literal digits h = made-Number-operand (constants.whole digits) (whole-named false digits h)

pub literal : Gives IsPrintable constants.literal (λ found. is_printable_operand found.0 ≡ true)
unfolding constants.literal constants.whole_number constants.other_number constants.text_or_figure constants.text constants.figure
literal =
    where_next (digits >>= (λ found. pure (λ h. whole-literal found.0 h)))
    (where_next (decimal >>= (λ found. pure (λ h. made-Number-operand found.0 h)))
    (where_next (text >>= (λ found. pure (λ h. made-Text-operand found.0 h)))
    (any (laws.valued constants.figure_of) >>= (λ found. pure (λ _. made-Figure-operand found.0)))))
