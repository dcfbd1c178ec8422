-- A stem with a number behind it is a word in capitals.
use Rattle.std.proofs.Common.{◌≡◌, ◌≢◌, ℕ, suc, ◌-◌, ◌+◌, ◌%◌, ◌<◌, ◌≤◌, ◌^◌, true, List, [], ◌∷◌, ◌++◌, length, get_or, refl, ap, sym, ◌∙◌, subst, arith}
use Rattle.std.specs.Prelude.{All}
use Rattle.std.specs.Fmt.{decimal}
use Rattle.std.specs.Char.{to_ascii_uppercase}
use Rattle.std.proofs.lemmas.Bool.Decides.{nat_tests}
use Rattle.std.proofs.lemmas.Fmt.{length-decimal-le, decimal_nonempty, decimal_by_steps}
use Rattle.std.proofs.lemmas.List.{length-append, get_or_append_left, get_or-append_right}
use Rattle.std.proofs.lemmas.List.Elements.{All-append, All-cons, All-nil}
use Rattle.cob_base.specs.Spelling.{word_byte, folded, IsWord, IsCapitalWord}
use Rattle.cob_words.specs.numbered.Stem.{IsStem, stem_byte, is_capital, is_decimal}

abbrev IsDigits : List ℕ → Type 0
IsDigits ds = All (λ b. is_decimal b ≡ true) ds

unit_is_decimal : (n : ℕ) → n < 10 → is_decimal (48 + n) ≡ true
unit_is_decimal n h = grind (arith, nat_tests)

one_digit : (n : ℕ) → n < 10 → IsDigits ((48 + n) ∷ [])
one_digit n h = All-cons (λ b. is_decimal b ≡ true) (48 + n) [] (unit_is_decimal n h) (All-nil (λ b. is_decimal b ≡ true))

pub decimal_is_digits : (n : ℕ) → n < 2 ^ 64 → IsDigits (decimal n)
decimal_is_digits = decimal_by_steps (λ n ds. IsDigits ds) one_digit
    (λ n ds h digits. All-append (λ b. is_decimal b ≡ true) ds ((48 + n % 10) ∷ []) digits (one_digit (n % 10) (omega arith)))

digit-word_byte : (b : ℕ) → is_decimal b ≡ true → word_byte b ≡ true
digit-word_byte b h = grind (arith, nat_tests)

digit-not_hyphen : (b : ℕ) → is_decimal b ≡ true → b ≢ 45
digit-not_hyphen b h e = grind (arith, nat_tests)

capital-not_hyphen : (b : ℕ) → is_capital b ≡ true → b ≢ 45
capital-not_hyphen b h e = grind (arith, nat_tests)

stem-word_byte : (b : ℕ) → stem_byte b ≡ true → word_byte b ≡ true
stem-word_byte b h = grind (arith, nat_tests)

stem-folds : (b : ℕ) → stem_byte b ≡ true → to_ascii_uppercase b ≡ b
stem-folds b h = grind (arith, nat_tests)

digit-stem_byte : (b : ℕ) → is_decimal b ≡ true → stem_byte b ≡ true
digit-stem_byte b h = grind (arith, nat_tests)

pub all_fold : (bs : List ℕ) → All (λ b. stem_byte b ≡ true) bs → folded bs ≡ bs
all_fold [] h = refl
all_fold (b ∷ bs) h =
    ap (λ x. x ∷ folded bs) (stem-folds b (h 0 0 (omega arith)))
    ∙ ap (λ xs. b ∷ xs) (all_fold bs (λ k d inside. h (suc k) d (omega arith)))

all_spelled : (stem : List ℕ) (n : ℕ) → IsStem stem → n < 2 ^ 32 → All (λ b. stem_byte b ≡ true) (stem ++ decimal n)
all_spelled stem n h small =
    All-append (λ b. stem_byte b ≡ true) stem (decimal n) h.spelled
    (λ k d inside. digit-stem_byte (get_or (decimal n) k d) (decimal_is_digits n (omega arith) k d inside))

numbered_folds : (stem : List ℕ) (n : ℕ) → IsStem stem → n < 2 ^ 32 → folded (stem ++ decimal n) ≡ stem ++ decimal n
numbered_folds stem n h small = all_fold (stem ++ decimal n) (all_spelled stem n h small)

numbered_is_word : (stem : List ℕ) (n : ℕ) → IsStem stem → n < 2 ^ 32 → IsWord (stem ++ decimal n)
numbered_is_word stem n h small =
    let digits : length (decimal n) ≤ 10 = length-decimal-le 10 n (omega arith) (omega arith) (omega arith) in
    let some : 0 < length (decimal n) = decimal_nonempty n (omega arith) in
    let whole : length (stem ++ decimal n) ≡ length stem + length (decimal n) = length-append stem (decimal n) in
    let last : length stem ≤ length (stem ++ decimal n) - 1 = omega arith in
    let inside : (length (stem ++ decimal n) - 1) - length stem < length (decimal n) = omega arith in
    record {
      begun = omega (arith, h.begun);
      short = omega (arith, h.short);
      spelled = λ k d inside. stem-word_byte (get_or (stem ++ decimal n) k d) (all_spelled stem n h small k d inside);
      first = subst (λ b. b ≢ 45) (sym (get_or_append_left stem (decimal n) 0 0 h.begun)) (capital-not_hyphen (get_or stem 0 0) h.first);
      last = subst (λ b. b ≢ 45) (sym (get_or-append_right stem (decimal n) (length stem) (length (stem ++ decimal n) - 1) 0 refl last))
          (digit-not_hyphen (get_or (decimal n) ((length (stem ++ decimal n) - 1) - length stem) 0)
          (decimal_is_digits n (omega arith) ((length (stem ++ decimal n) - 1) - length stem) 0 inside));
    }

-- a stem goes on with bytes of its kind
pub stem_goes_on : (stem more : List ℕ) → IsStem stem → All (λ b. stem_byte b ≡ true) more → length stem + length more ≤ 20 → IsStem (stem ++ more)
stem_goes_on stem more h spelled short =
    let whole : length (stem ++ more) ≡ length stem + length more = length-append stem more in
    record {
      begun = omega (arith, h.begun);
      short = omega arith;
      spelled = All-append (λ b. stem_byte b ≡ true) stem more h.spelled spelled;
      first = subst (λ b. is_capital b ≡ true) (sym (get_or_append_left stem more 0 0 h.begun)) h.first;
    }

pub decimal_is_spelled : (n : ℕ) → n < 2 ^ 64 → All (λ b. stem_byte b ≡ true) (decimal n)
decimal_is_spelled n small k d inside = digit-stem_byte (get_or (decimal n) k d) (decimal_is_digits n small k d inside)

pub numbered_is_capital_word : (stem : List ℕ) (n : ℕ) → IsStem stem → n < 2 ^ 32 → IsCapitalWord (stem ++ decimal n)
numbered_is_capital_word stem n h small = record { word = numbered_is_word stem n h small; capital = numbered_folds stem n h small }

-- one capital by itself
pub letter_is_capital_word : (b : ℕ) → is_capital b ≡ true → IsCapitalWord (b ∷ [])
letter_is_capital_word b h =
    let spelled : stem_byte b ≡ true = grind (arith, nat_tests) in
    record {
      word = record {
        begun = omega arith;
        short = omega arith;
        spelled = All-cons (λ x. word_byte x ≡ true) b [] (stem-word_byte b spelled) (All-nil (λ x. word_byte x ≡ true));
        first = capital-not_hyphen b h;
        last = capital-not_hyphen b h;
      };
      capital = ap (λ x. x ∷ []) (stem-folds b spelled);
    }
