-- What is stored behind a program's own.
use Rattle.std.proofs.Common.{◌≡◌, ◌≢◌, ℕ, zero, suc, ◌+◌, List, [], ◌∷◌, ◌++◌, length, Some, refl, ap, ◌∙◌, arith}
use Rattle.std.specs.Prelude.{slice_get, slice_set}

pub get-behind : {A : Type 0} (xs ys : List A) (n : ℕ) → slice_get (xs ++ ys) (length xs + n) ≡ slice_get ys n
get-behind {A} [] ys n = let none : length {A = A} [] + n ≡ n = omega arith in ap (slice_get ys) none
get-behind (x ∷ xs) ys n =
    let one : length (x ∷ xs) + n ≡ suc (length xs + n) = omega arith in
    ap (slice_get (x ∷ xs ++ ys)) one ∙ get-behind xs ys n

pub set-behind : {A : Type 0} (xs ys : List A) (n : ℕ) (y : A) → slice_set (xs ++ ys) (length xs + n) y ≡ xs ++ slice_set ys n y
set-behind {A} [] ys n y = let none : length {A = A} [] + n ≡ n = omega arith in ap (λ m. slice_set ys m y) none
set-behind (x ∷ xs) ys n y =
    let one : length (x ∷ xs) + n ≡ suc (length xs + n) = omega arith in
    ap (λ m. slice_set (x ∷ xs ++ ys) m y) one ∙ ap (λ zs. x ∷ zs) (set-behind xs ys n y)

pub set-own : {A : Type 0} (xs : List A) (n : ℕ) (x y : A) → slice_get xs n ≡ Some x → slice_get (slice_set xs n y) n ≡ Some y
set-own [] n x y is = cc
set-own (z ∷ xs) zero x y is = refl
set-own (z ∷ xs) (suc n) x y is = set-own xs n x y is

pub set-other : {A : Type 0} (xs : List A) (n m : ℕ) (y : A) → m ≢ n → slice_get (slice_set xs n y) m ≡ slice_get xs m
set-other [] n m y apart = refl
set-other (x ∷ xs) zero zero y apart = absurd (apart refl)
set-other (x ∷ xs) zero (suc m) y apart = refl
set-other (x ∷ xs) (suc n) zero y apart = refl
set-other (x ∷ xs) (suc n) (suc m) y apart = set-other xs n m y (λ e. apart (ap suc e))
