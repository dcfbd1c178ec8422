-- Runs at the front of a text.
use Rattle.std.proofs.Common.{ℕ, ◌≡◌, ◌+◌, ◌<◌, ◌≤◌, zero, suc, get_or, refl, ◌∙◌, drop-drop, Bool, true, false, List, [], ◌∷◌, take, drop, length, filter, ap, arith, cond}
use Rattle.std.specs.List.{take_while, prefix_len}
use Rattle.std.proofs.lemmas.Grind.{common_steps}
use Rattle.std.proofs.lemmas.List.{get_or-drop}
use Rattle.std.proofs.lemmas.List.Folds.{length-prefix_len}
use Rattle.std.proofs.lemmas.List.Sums.{prefix_len-le-length}
use Rattle.cobol_lex.specs.Number.{decimals, digits_of}

pub run_at_front : (p : ℕ → Bool) (bytes : List ℕ) → take (length (take_while p bytes)) bytes ≡ take_while p bytes
run_at_front p bytes = ap (λ n. take n bytes) (length-prefix_len p bytes)

pub run_within : (p : ℕ → Bool) (bytes : List ℕ) → length (take_while p bytes) ≤ length bytes
run_within p bytes = omega (arith, length-prefix_len p bytes, prefix_len-le-length p bytes)

-- what stands behind bytes that pass is run through next
prefix_on : (p : ℕ → Bool) (n : ℕ) (bytes : List ℕ) → n ≤ length bytes → ((k : ℕ) → k < n → p (get_or bytes k 0) ≡ true) → n + prefix_len p (drop n bytes) ≡ prefix_len p bytes
prefix_on p zero bytes within each = omega arith
prefix_on p (suc n) [] within each = absurd (omega arith)
prefix_on p (suc n) (b ∷ bytes) within each =
    let first : p b ≡ true = each 0 (omega arith) in
    let more = prefix_on p n bytes (omega arith) (λ k near. each (suc k) (omega arith)) in
    rw first (omega (arith, more))

prefix_ends : (p : ℕ → Bool) (bytes : List ℕ) → (0 < length bytes → p (get_or bytes 0 0) ≡ false) → prefix_len p bytes ≡ 0
prefix_ends p [] ends = refl
prefix_ends p (b ∷ bytes) ends =
    let first : p b ≡ false = ends (omega arith) in
    rw first refl

pub run_on : (p : ℕ → Bool) (n : ℕ) (bytes : List ℕ) → n ≤ length bytes → ((k : ℕ) → k < n → p (get_or bytes k 0) ≡ true) → n + length (take_while p (drop n bytes)) ≡ length (take_while p bytes)
run_on p n bytes within each = omega (arith, length-prefix_len p bytes, length-prefix_len p (drop n bytes), prefix_on p n bytes within each)

pub run_ends : (p : ℕ → Bool) (bytes : List ℕ) → (0 < length bytes → p (get_or bytes 0 0) ≡ false) → length (take_while p bytes) ≡ 0
run_ends p bytes ends = length-prefix_len p bytes ∙ prefix_ends p bytes ends

-- the same at a place in a text, of which the rest from there on is given
module _ (p : ℕ → Bool) (at n : ℕ) (bytes rest : List ℕ) (same : rest ≡ drop at bytes) (within : n ≤ length rest)
    (each : (k : ℕ) → k < n → p (get_or rest k 0) ≡ true) (so_far : at + length (take_while p (drop at bytes)) ≡ length (take_while p bytes)) where
  abbrev run_length : List ℕ → ℕ
  run_length xs = length (take_while p xs)

  pub run_on_at : at + n + length (take_while p (drop (at + n) bytes)) ≡ length (take_while p bytes)
  run_on_at =
      let more = run_on p n rest within each in
      let whole = ap run_length same in
      let left = ap run_length (ap (drop n) same ∙ drop-drop n at bytes) in
      omega (arith, so_far, more, whole, left)

  pub run_ends_at : p (get_or rest n 0) ≡ false → at + n ≡ length (take_while p bytes)
  run_ends_at ends =
      let more = run_on p n rest within each in
      let whole = ap run_length same in
      let place : n + 0 ≡ n = omega arith in
      let none = run_ends p (drop n rest) (λ _. ap p (get_or-drop n rest 0 0 ∙ ap (λ j. get_or rest j 0) place) ∙ ends) in
      omega (arith, so_far, more, whole, none)

filter_grows : (p : ℕ → Bool) (b : ℕ) (bytes : List ℕ) → length (filter p bytes) ≤ length (filter p (b ∷ bytes))
filter_grows p b bytes = elim (p b) as (λ v. length (filter p bytes) ≤ length (cond v (b ∷ filter p bytes) (filter p bytes))) [ true ↦ omega arith | false ↦ omega arith ]

filter_of_rest : (p : ℕ → Bool) (n : ℕ) (bytes : List ℕ) → length (filter p (drop n bytes)) ≤ length (filter p bytes)
filter_of_rest p n [] = grind (arith, common_steps)
filter_of_rest p zero (b ∷ bytes) = omega arith
filter_of_rest p (suc n) (b ∷ bytes) = omega (arith, filter_of_rest p n bytes, filter_grows p b bytes)

pub decimals_within : (bytes : List ℕ) → length (decimals bytes) ≤ length (digits_of bytes)
decimals_within bytes = filter_of_rest _ _ bytes
