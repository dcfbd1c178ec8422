-- Words, names and literals that a line may have anywhere.
use Rattle.std.proofs.Common.{◌≡◌, ℕ, Bool, true, false, not, ◌&&◌, List, [], ◌∷◌, length, Some, None, refl, ap, sym, ◌∙◌, subst, arith, get_or}
use Rattle.std.specs.Prelude.{codes, nat_le, ◌||◌, ◌==◌, if◌then◌else◌}
use Rattle.std.specs.List.{list_all}
use Rattle.std.proofs.lemmas.Bool.{and_parts, leb-true}
use Rattle.std.proofs.lemmas.Bool.Decides.{nat_tests}
use Rattle.std.proofs.lemmas.List.Folds.{list_all_at}
use Rattle.std.proofs.lemmas.Slice.Eq.{bytes_eq-Decides}
use Rattle.cob_base.specs.Bytes.{space, line_feed}
use Rattle.cob_base.specs.Spelling.{IsCapitalWord, folded}
use Rattle.cob_words.specs.Lists.{reserved_words, left_out_words, is_listed}
use Rattle.cobol_lex.specs.Byte.{is_digit}
use Rattle.cobol_lex.specs.Word.{spells}
use Rattle.cobol_lex.specs.Written.{AreDigits}
use Rattle.cobol_lex.specs.declared.token.TokenKind.{TokenKind}
use Rattle.cobol_lex.specs.declared.token.TokenKind.TheVariants as kind
use Rattle.unparser.specs.Token.{is_capital, is_reserved_shape, procedure_token}
use Rattle.unparser.proofs.TokenLemmas.{HasShape, has_shape, reserved-folded, reserved-is_word}
use Rattle.parser_combinators.specs.words.Word.{is_free, is_data_word, has_letter}
use Rattle.symbol_tables.specs.procedure_names.Procedures.{header_name, is_number}
use Rattle.cobol_print.specs.Given.{IsFree}
use Rattle.round_trip.specs.printable.printable_tokens.Header.{IsHeaderName}
use Rattle.round_trip.specs.printable.printable_tokens.Printable.{IsPrintableWord, is_printable_text, IsPrintable}

-- ---- words of the language

no-digit : (b : ℕ) → is_capital b ≡ true → is_digit b ≡ false
no-digit b h = grind (arith, nat_tests)

pub reserved : (word : List ℕ) → is_reserved_shape word ≡ true → (spells (codes "PIC") word || spells (codes "PICTURE") word) ≡ false → IsFree (kind.Word word)
reserved word shape other =
    let has : HasShape word = has_shape word shape in
    let is : IsCapitalWord word = record { word = reserved-is_word word shape; capital = reserved-folded word shape } in
    ((is, list_all_at is_digit word 0 0 has.some (no-digit (get_or word 0 0) has.first)), other)

-- ---- names

-- a word that is free isn't that one, which is reserved
other-word : (word name : List ℕ) → is_listed reserved_words word ≡ true → is_free name ≡ true → folded name ≡ name → spells word name ≡ false
unfolding is_free
other-word word name listed free capital = go (spells word name) refl
  where
    apart : false ≡ true → ⊥
    apart e = cc

    go : (v : Bool) → spells word name ≡ v → v ≡ false
    go false e = refl
    go true e =
        let same : folded name ≡ word = (bytes_eq-Decides (folded name) word).0 e in
        let is : name ≡ word = sym capital ∙ same in
        let freed : (not (is_listed reserved_words word) && not (is_listed left_out_words word)) ≡ true = subst (λ w. (not (is_listed reserved_words w) && not (is_listed left_out_words w)) ≡ true) is free in
        absurd (apart (ap not (sym listed) ∙ (and_parts (not (is_listed reserved_words word)) (not (is_listed left_out_words word)) freed).0))

either-false : (x y : Bool) → x ≡ false → y ≡ false → (x || y) ≡ false
either-false x y h k = ap (λ v. v || y) h ∙ k

pub name-free : (name : List ℕ) → IsPrintableWord name → is_free name ≡ true → IsFree (kind.Word name)
unfolding reserved_words
name-free name printable free = (
  printable,
  either-false (spells (codes "PIC") name) (spells (codes "PICTURE") name)
      (other-word (codes "PIC") name refl free printable.0.capital) (other-word (codes "PICTURE") name refl free printable.0.capital),
)

pub data-free : (name : List ℕ) → is_data_word name ≡ true → is_free name ≡ true
unfolding is_data_word
data-free name h = (and_parts (has_letter name) (is_free name) h).1

-- the token of a header's name: a word, or digits
pub data LabelIs (label : List ℕ) : Type 0 where
  A_word : IsPrintableWord label → is_free label ≡ true → LabelIs label
  A_number : AreDigits label → is_number label ≡ true → LabelIs label

chosen-name : {A : Type 0} (v : Bool) (found name : A) → (if v then Some found else None) ≡ Some name → (v ≡ true) × (found ≡ name)
chosen-name true found name e = (refl, some_is e)
  where
    some_is : Some found ≡ Some name → found ≡ name
    some_is e = cc
chosen-name false found name e = absurd cc

pub label-is : (label : List ℕ) → IsHeaderName label → LabelIs label
unfolding header_name
label-is label h = go h.kind h.is h.printable
  where
    go : (k : TokenKind) → header_name k ≡ Some label → IsPrintable k → LabelIs label
    go (kind.Word word) e p =
        let s = chosen-name (is_free word) word label e in
        A_word (subst IsPrintableWord s.1 p) (subst (λ w. is_free w ≡ true) s.1 s.0)
    go (kind.Digits digits) e p =
        let s = chosen-name (is_number digits) digits label e in
        A_number (subst AreDigits s.1 p) (subst (λ w. is_number w ≡ true) s.1 s.0)
    go (kind.Decimal number) e p = absurd cc
    go (kind.Literal text) e p = absurd cc
    go (kind.Picture picture) e p = absurd cc
    go kind.Period e p = absurd cc
    go (kind.Mark b) e p = absurd cc
    go kind.LessEqual e p = absurd cc
    go kind.GreaterEqual e p = absurd cc
    go kind.Power e p = absurd cc

pub word-token : (label : List ℕ) → IsPrintableWord label → procedure_token label ≡ kind.Word label
word-token label p = ap (λ v. if v then kind.Digits label else kind.Word label) p.1

pub number-token : (label : List ℕ) → AreDigits label → procedure_token label ≡ kind.Digits label
number-token label d = ap (λ v. if v then kind.Digits label else kind.Word label) d.digits_only

label-by : (label : List ℕ) → LabelIs label → IsFree (procedure_token label)
label-by label (A_word p f) = subst IsFree (sym (word-token label p)) (name-free label p f)
label-by label (A_number d n) = subst IsFree (sym (number-token label d)) (d, tt)

pub label-free : (label : List ℕ) → IsHeaderName label → IsFree (procedure_token label)
label-free label h = label-by label (label-is label h)

-- ---- literals

no-line_feed : (b : ℕ) → nat_le space b ≡ true → not (b == line_feed) ≡ true
no-line_feed b h = grind (arith, nat_tests)

within-line : (text : List ℕ) → list_all (nat_le space) text ≡ true → list_all (λ b. not (b == line_feed)) text ≡ true
within-line [] h = refl
within-line (b ∷ text) h =
    let e = and_parts (nat_le space b) (list_all (nat_le space) text) h in
    ap (λ v. v && list_all (λ b. not (b == line_feed)) text) (no-line_feed b e.0) ∙ within-line text e.1

pub text-free : (text : List ℕ) → is_printable_text text ≡ true → IsFree (kind.Literal text)
text-free text h =
    let e = and_parts (nat_le 1 (length text) && nat_le (length text) 160) (list_all (nat_le space) text) h in
    let f = and_parts (nat_le 1 (length text)) (nat_le (length text) 160) e.0 in
    ((leb-true 1 (length text) f.0, leb-true (length text) 160 f.1, within-line text e.1), e.1)
