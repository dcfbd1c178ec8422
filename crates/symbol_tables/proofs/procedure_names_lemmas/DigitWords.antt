-- Digits are a word in capitals.
use Rattle.std.proofs.Common.{◌≡◌, ◌≢◌, ℕ, zero, suc, ◌-◌, ◌<◌, ◌≤◌, true, List, [], ◌∷◌, length, get_or, refl, ap, ◌∙◌, arith}
use Rattle.std.specs.Char.{to_ascii_uppercase}
use Rattle.std.specs.List.{list_all}
use Rattle.std.proofs.lemmas.Bool.Decides.{nat_tests}
use Rattle.cob_base.specs.Spelling.{word_byte, folded, IsWord}
use Rattle.symbol_tables.specs.procedure_names.Procedures.{is_digit, is_number}

digit_capital : (b : ℕ) → is_digit b ≡ true → to_ascii_uppercase b ≡ b
digit_capital b h = grind (arith, nat_tests)

digit_spelled : (b : ℕ) → is_digit b ≡ true → word_byte b ≡ true
digit_spelled b h = grind (arith, nat_tests)

digit_no_hyphen : (b : ℕ) → is_digit b ≡ true → b ≢ 45
digit_no_hyphen b h e = grind (arith, nat_tests)

first_digit : (b : ℕ) (bs : List ℕ) → list_all is_digit (b ∷ bs) ≡ true → is_digit b ≡ true
first_digit b bs h = grind (arith, nat_tests)

more_digits : (b : ℕ) (bs : List ℕ) → list_all is_digit (b ∷ bs) ≡ true → list_all is_digit bs ≡ true
more_digits b bs h = grind (arith, nat_tests)

digit_at : (d : List ℕ) (k e : ℕ) → list_all is_digit d ≡ true → k < length d → is_digit (get_or d k e) ≡ true
digit_at [] k e h i = absurd (omega arith)
digit_at (b ∷ bs) zero e h i = first_digit b bs h
digit_at (b ∷ bs) (suc k) e h i = digit_at bs k e (more_digits b bs h) (omega arith)

pub digits_capital : (d : List ℕ) → list_all is_digit d ≡ true → folded d ≡ d
digits_capital [] h = refl
digits_capital (b ∷ bs) h = ap (λ x. x ∷ folded bs) (digit_capital b (first_digit b bs h)) ∙ ap (λ xs. b ∷ xs) (digits_capital bs (more_digits b bs h))

pub digits_word : (d : List ℕ) → 0 < length d → length d ≤ 30 → list_all is_digit d ≡ true → IsWord d
digits_word d some few h = record {
  begun = some;
  short = few;
  spelled = λ k e inside. digit_spelled (get_or d k e) (digit_at d k e h inside);
  first = digit_no_hyphen (get_or d 0 0) (digit_at d 0 0 h some);
  last = digit_no_hyphen (get_or d (length d - 1) 0) (digit_at d (length d - 1) 0 h (omega arith));
}

pub few_digits : (d : List ℕ) → is_number d ≡ true → (0 < length d) × (length d ≤ 30) × (list_all is_digit d ≡ true)
few_digits d h = (grind (arith, nat_tests), grind (arith, nat_tests), grind (arith, nat_tests))
