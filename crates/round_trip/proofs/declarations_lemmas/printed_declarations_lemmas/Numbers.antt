-- The digits that a count and a level are printed with, and the length of a picture.
use Rattle.std.proofs.Common.{◌≡◌, ℕ, ◌+◌, ◌/◌, ◌%◌, ◌<◌, ◌≤◌, Bool, true, false, ◌&&◌, if◌then◌else◌, List, [], ◌∷◌, ◌++◌, refl, ap, ◌∙◌, arith}
use Rattle.std.specs.Prelude.{nat_le, nat_lt, decimal}
use Rattle.std.specs.List.{fold}
use Rattle.std.proofs.lemmas.Bool.{le-leb}
use Rattle.std.proofs.lemmas.Bool.Decides.{nat_tests}
use Rattle.std.proofs.lemmas.Fmt.{decimal_by_steps}
use Rattle.declaration_checks.specs.Base.{with_digit, number_of, level_by, level_of, is_count, count_of}
use Rattle.cobol_print.specs.units.Entry.{level_text}
use Rattle.round_trip.specs.declarations.printed_declarations.Rules.{is_level}

number-behind : (ds es : List ℕ) (n : ℕ) → fold with_digit n (ds ++ es) ≡ fold with_digit (fold with_digit n ds) es
number-behind [] es n = refl
number-behind (d ∷ ds) es n = number-behind ds es (with_digit n d)

pub number-is : (n : ℕ) → n ≤ 65535 → number_of (decimal n) ≡ n
number-is n small = decimal_by_steps (λ m ds. m ≤ 65535 → number_of ds ≡ m) one more n (omega (arith, small)) small
  where
    one : (m : ℕ) → m < 10 → m ≤ 65535 → with_digit 0 (48 + m) ≡ m
    one m h less = omega (arith, h)

    step : (m : ℕ) → m ≤ 65535 → with_digit (m / 10) (48 + m % 10) ≡ m
    step m less = omega (arith, less)

    more : (m : ℕ) (ds : List ℕ) → 10 ≤ m → (m / 10 ≤ 65535 → number_of ds ≡ m / 10) → m ≤ 65535 → number_of (ds ++ (48 + m % 10) ∷ []) ≡ m
    more m ds large is less =
        number-behind ds ((48 + m % 10) ∷ []) 0 ∙ ap (λ k. with_digit k (48 + m % 10)) (is (omega (arith, less))) ∙ step m less

pub count-is : (n : ℕ) → 1 ≤ n → n ≤ 65535 → count_of (decimal n) ≡ n
count-is n some small =
    ap (λ k. if is_count k then k else 1) (number-is n small)
    ∙ ap (λ b. if b && nat_le n 65535 then n else 1) (le-leb 1 n some) ∙ ap (λ b. if b then n else 1) (le-leb n 65535 small)

level-number : (level : ℕ) → level ≤ 65535 → number_of (level_text level) ≡ level
level-number level small = go (nat_lt level 10)
  where
    go : (b : Bool) → number_of ((if b then 48 ∷ [] else []) ++ decimal level) ≡ level
    go true = number-is level small
    go false = number-is level small

is-small : (level : ℕ) → is_level level ≡ true → level ≤ 65535
is-small level e = grind (arith, nat_tests)

pub level-is : (level : ℕ) → is_level level ≡ true → level_of (level_text level) ≡ level
level-is level e = ap level_by (level-number level (is-small level e)) ∙ ap (λ b. if b then level else 0) e
