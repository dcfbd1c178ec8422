-- What of the tokens stands first, and tests of what stands behind.
use Rattle.std.proofs.Common.{◌≡◌, ℕ, Bool, true, false, not, ◌&&◌, List, [], ◌∷◌, ◌++◌, map, Option, Some, None, refl, ap, ◌∙◌, subst}
use Rattle.std.specs.Prelude.{codes, ◌==◌, if◌then◌else◌}
use Rattle.std.specs.Option.{is_some}
use Rattle.std.specs.Str.{bytes_eq}
use Rattle.std.proofs.lemmas.Bool.{and_parts, or_parts, or_from, or_left, or_right, and_left, and_right, not-true, not_from_true, both_ways, false_from_ne_true}
use Rattle.std.proofs.lemmas.Slice.Eq.{bytes_eq-Decides}
use Rattle.cob_base.specs.Bytes.{left_parenthesis, right_parenthesis, colon}
use Rattle.cob_words.specs.Lists.{reserved_words, left_out_words, is_listed}
use Rattle.cob_tree.specs.declared.place.Figure.{Figure}
use Rattle.cob_tree.specs.declared.place.Figure.TheVariants as figures
use Rattle.cob_tree.specs.declared.place.Op.{Op}
use Rattle.cob_tree.specs.declared.place.Op.TheVariants as ops
use Rattle.cob_tree.specs.declared.place.Operand.{Operand}
use Rattle.cob_tree.specs.declared.number.Number.{Number}
use Rattle.cob_tree.specs.declared.place.Sub.{Sub}
use Rattle.cob_tree.specs.declared.place.Window.{Window}
use Rattle.cob_tree.specs.declared.program.Program.{Program}
use Rattle.cobol_lex.specs.declared.token.TokenKind.{TokenKind}
use Rattle.cobol_lex.specs.declared.token.TokenKind.TheVariants as kinds
use Rattle.parser_combinators.specs.Form.{begins_by}
use Rattle.parser_combinators.specs.Part as part
use Rattle.unparser.specs.Token.{number_token}
use Rattle.unparser.specs.Place.{op_mark, figure_word, subs_tokens, place_tokens, operand_tokens, sub_tokens, window_tokens}
use Rattle.parser_combinators.specs.words.Word.{is_data_word, is_free, has_letter, is_name}
use Rattle.parser_combinators.specs.words.Constant.{begins_literal, figure_of_word}
use Rattle.cobol_grammar.specs.expr_forms.Token.{is_of, begins_operand, begins_turn}
use Rattle.round_trip.specs.spelled_forms.Spelling.{first_of}
use Rattle.round_trip.specs.spelling.expr_spelling.Spelled.{Ends, continues_place, continues_expr}
use Rattle.round_trip.proofs.spelling_lemmas.expr_spelling_lemmas.Layers.{operand-cases, place-cases, window-cases, tokens-Place, tokens-Number, tokens-Text, tokens-Figure, tokens-place, tokens-window, windows_tokens}

-- ---- words

data-free : (word : List ℕ) → is_data_word word ≡ true → is_listed reserved_words word ≡ false
unfolding is_data_word is_free
data-free word h =
    not-true (is_listed reserved_words word) (and_parts (not (is_listed reserved_words word)) (not (is_listed left_out_words word))
    (and_parts (has_letter word) (not (is_listed reserved_words word) && not (is_listed left_out_words word)) h).1).0

-- a word of a program is no word of the language
pub key-apart : (reserved word : List ℕ) → is_listed reserved_words reserved ≡ true → is_data_word word ≡ true → bytes_eq reserved word ≡ false
key-apart reserved word listed h =
    false_from_ne_true (bytes_eq reserved word)
    (λ e. both_ways (is_listed reserved_words word) (data-free word h) (subst (λ w. is_listed reserved_words w ≡ true) ((bytes_eq-Decides reserved word).0 e) listed))

pub no-data-word : (word : List ℕ) → is_listed reserved_words word ≡ true → is_data_word word ≡ false
unfolding is_data_word is_free
no-data-word word listed =
    and_right (has_letter word) (not (is_listed reserved_words word) && not (is_listed left_out_words word))
    (and_left (not (is_listed reserved_words word)) (not (is_listed left_out_words word)) (not_from_true (is_listed reserved_words word) listed))

of-listed : is_listed reserved_words (codes "OF") ≡ true
unfolding reserved_words
of-listed = refl

in-listed : is_listed reserved_words (codes "IN") ≡ true
unfolding reserved_words
in-listed = refl

pub no-of : (word : List ℕ) → is_data_word word ≡ true → is_of (kinds.Word word) ≡ false
unfolding is_of
no-of word h = or_from (bytes_eq (codes "OF") word) (bytes_eq (codes "IN") word) (key-apart (codes "OF") word of-listed h) (key-apart (codes "IN") word in-listed h)

pub of-is : is_of (kinds.Word (codes "OF")) ≡ true
unfolding is_of
of-is = refl

pub name-operand : (word : List ℕ) → is_data_word word ≡ true → begins_operand (kinds.Word word) ≡ true
unfolding begins_operand
name-operand word h = or_right (begins_literal (kinds.Word word)) (is_name (kinds.Word word)) h

pub digits-operand : (digits : List ℕ) → begins_operand (kinds.Digits digits) ≡ true
unfolding begins_operand begins_literal
digits-operand digits = refl

pub decimal-operand : (number : Number) → begins_operand (kinds.Decimal number) ≡ true
unfolding begins_operand begins_literal
decimal-operand number = refl

pub text-operand : (text : List ℕ) → begins_operand (kinds.Literal text) ≡ true
unfolding begins_operand begins_literal
text-operand text = refl

pub figure-listed : (figure : Figure) → is_listed reserved_words (figure_word figure) ≡ true
unfolding reserved_words
figure-listed figures.Zero = refl
figure-listed figures.Space = refl
figure-listed figures.HighValue = refl
figure-listed figures.LowValue = refl
figure-listed figures.Quote = refl

pub figure-found : (figure : Figure) → figure_of_word (figure_word figure) ≡ Some figure
unfolding figure_of_word
figure-found figures.Zero = refl
figure-found figures.Space = refl
figure-found figures.HighValue = refl
figure-found figures.LowValue = refl
figure-found figures.Quote = refl

pub figure-operand : (figure : Figure) → begins_operand (kinds.Word (figure_word figure)) ≡ true
unfolding begins_operand begins_literal
figure-operand figure = or_left (is_some (figure_of_word (figure_word figure))) (is_data_word (figure_word figure)) (ap (λ found. is_some found) (figure-found figure))

-- ---- behind

pub place-ends : (o : Option TokenKind) → Ends continues_place o → Ends is_of o × Ends (part.is_mark left_parenthesis) o
unfolding continues_place
place-ends None e = (refl, refl)
place-ends (Some kind) e = or_parts (is_of kind) (part.is_mark left_parenthesis kind) e

pub expr-ends : (o : Option TokenKind) → Ends continues_expr o → Ends continues_place o × Ends begins_turn o
unfolding continues_expr
expr-ends None e = (refl, refl)
expr-ends (Some kind) e = or_parts (continues_place kind) (begins_turn kind) e

pub op-ends : (op : Op) → continues_place (kinds.Mark (op_mark op)) ≡ false
unfolding continues_place is_of
op-ends ops.Add = refl
op-ends ops.Sub = refl
op-ends ops.Mul = refl
op-ends ops.Div = refl

pub op-turn : (op : Op) → begins_turn (kinds.Mark (op_mark op)) ≡ true
unfolding begins_turn
op-turn ops.Add = refl
op-turn ops.Sub = refl
op-turn ops.Mul = refl
op-turn ops.Div = refl

pub close-ends : continues_expr (kinds.Mark right_parenthesis) ≡ false
unfolding continues_expr continues_place is_of begins_turn
close-ends = refl

pub colon-ends : continues_expr (kinds.Mark colon) ≡ false
unfolding continues_expr continues_place is_of begins_turn
colon-ends = refl

pub mark-no-of : (byte : ℕ) → is_of (kinds.Mark byte) ≡ false
unfolding is_of
mark-no-of byte = refl

pub turn-no-word : (word : List ℕ) → begins_turn (kinds.Word word) ≡ false
unfolding begins_turn
turn-no-word word = refl

pub turn-no-digits : (digits : List ℕ) → begins_turn (kinds.Digits digits) ≡ false
unfolding begins_turn
turn-no-digits digits = refl

pub turn-no-close : begins_turn (kinds.Mark right_parenthesis) ≡ false
unfolding begins_turn
turn-no-close = refl

pub turn-no-open : begins_turn (kinds.Mark left_parenthesis) ≡ false
unfolding begins_turn
turn-no-open = refl

-- ---- what stands first

-- no mark of one byte
abbrev pub NoMark : TokenKind → Type 0
NoMark (kinds.Mark byte) = ⊥
NoMark _ = Unit {0}

pub no-mark : (byte : ℕ) (kind : TokenKind) → NoMark kind → part.is_mark byte kind ≡ false
no-mark byte (kinds.Mark b) h = absurd h
no-mark byte kind h = refl

pub number-first : (number : Number) → NoMark (number_token number)
number-first number = by (not number.negative && number.scale == 0)
  where
    by : (b : Bool) → NoMark (if b then kinds.Digits number.digits else kinds.Decimal number)
    by true = tt
    by false = tt

module _ (program : Program) where
  -- an operand begins with no mark
  pub operand-first : (byte : ℕ) (operand : Operand) (o : Option TokenKind) → begins_by (part.is_mark byte) (first_of (operand_tokens program operand) o) ≡ false
  operand-first byte operand o =
      operand-cases (λ operand. begins_by (part.is_mark byte) (first_of (operand_tokens program operand) o) ≡ false)
      (λ place. ap (λ list. begins_by (part.is_mark byte) (first_of list o)) (tokens-Place program place)
      ∙ place-cases (λ place. begins_by (part.is_mark byte) (first_of (place_tokens program place) o) ≡ false)
      (λ item of subs window. ap (λ list. begins_by (part.is_mark byte) (first_of list o)) (tokens-place program item of subs window)) place)
      (λ number. ap (λ list. begins_by (part.is_mark byte) (first_of list o)) (tokens-Number program number) ∙ no-mark byte (number_token number) (number-first number))
      (λ text. ap (λ list. begins_by (part.is_mark byte) (first_of list o)) (tokens-Text program text))
      (λ figure. ap (λ list. begins_by (part.is_mark byte) (first_of list o)) (tokens-Figure program figure)) operand

  -- what stands behind the words of a reference
  pub first-window : (test : TokenKind → Bool) → test (kinds.Mark left_parenthesis) ≡ false → (window : Option Window) (o : Option TokenKind) → Ends test o →
      Ends test (first_of (windows_tokens program window) o)
  first-window test t None o b = b
  first-window test t (Some window) o b =
      window-cases (λ window. Ends test (first_of (window_tokens program window) o))
      (λ from size. ap (λ list. begins_by test (first_of list o)) (tokens-window program from size) ∙ t) window

  pub first-tail : (test : TokenKind → Bool) → test (kinds.Mark left_parenthesis) ≡ false → (subs : List Sub) (window : Option Window) (o : Option TokenKind) → Ends test o →
      Ends test (first_of (subs_tokens (map (sub_tokens program) subs) ++ windows_tokens program window) o)
  first-tail test t [] window o b = first-window test t window o b
  first-tail test t (sub ∷ subs) window o b = t
