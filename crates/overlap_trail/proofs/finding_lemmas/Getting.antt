-- What stands where in lists.
use Rattle.std.proofs.Common.{◌≡◌, ◌+◌, ◌<◌, ◌≤◌, ℕ, zero, suc, List, [], ◌∷◌, ◌++◌, length, Some, slice_get, Result, Ok, Err, IfOk, refl, ap, ◌⊎◌, inl, inr, arith}
use Rattle.pending_returns.proofs.faults_lemmas.Standing.{get-below, get-some}

pub get-front : {A : Type 0} → (xs ys : List A) (at : ℕ) (x : A) → slice_get xs at ≡ Some x → slice_get (xs ++ ys) at ≡ Some x
get-front [] ys at x e = absurd (let k : ⊥ = cc in k)
get-front (y ∷ xs) ys zero x e = e
get-front (y ∷ xs) ys (suc at) x e = get-front xs ys at x e

pub get-last : {A : Type 0} → (xs : List A) (x : A) → slice_get (xs ++ x ∷ []) (length xs) ≡ Some x
get-last [] x = refl
get-last (y ∷ xs) x = get-last xs x

pub get-split : {A : Type 0} → (xs : List A) (x : A) (at : ℕ) (y : A) → slice_get (xs ++ x ∷ []) at ≡ Some y → (slice_get xs at ≡ Some y) ⊎ ((at ≡ length xs) × (x ≡ y))
get-split [] x zero y e = inr (refl, (let k : x ≡ y = cc in k))
get-split [] x (suc at) y e = absurd (let k : ⊥ = cc in k)
get-split (z ∷ xs) x zero y e = inl e
get-split (z ∷ xs) x (suc at) y e = elim (get-split xs x at y e) [ inl old ↦ inl old | inr new ↦ inr (ap (λ (n : ℕ). suc n) new.0, new.1) ]

pub same-some : {A : Type 0} → (x y : A) → Some x ≡ Some y → x ≡ y
same-some x y e = (let k : x ≡ y = cc in k)

pub longer : {A : Type 0} → (xs : List A) (x : A) → length (xs ++ x ∷ []) ≡ length xs + 1
longer [] x = refl
longer (y ∷ xs) x = (let h : length (xs ++ x ∷ []) ≡ length xs + 1 = longer xs x in omega (arith, h))

pub le-or : (a b : ℕ) → (a ≤ b) ⊎ (b + 1 ≤ a)
le-or zero b = inl (omega arith)
le-or (suc a) zero = inr (omega arith)
le-or (suc a) (suc b) = elim (le-or a b) [ inl le ↦ inl (omega (arith, le)) | inr more ↦ inr (omega (arith, more)) ]

pub kept-length : {A : Type 0} → (xs ys : List A) → ((at : ℕ) (x : A) → slice_get xs at ≡ Some x → slice_get ys at ≡ Some x) → length xs ≤ length ys
kept-length [] ys kept = omega arith
kept-length (x ∷ xs) ys kept =
    let last = get-some (x ∷ xs) (length xs) (omega arith) in
    let lt : length xs < length ys = get-below ys (length xs) last.0 (kept (length xs) last.0 last.1) in
    omega (arith, lt)

pub if-ok : {A E : Type 0} → (r : Result A E) (P Q : A → Type 0) → ((x : A) → P x → Q x) → IfOk r P → IfOk r Q
if-ok (Ok x) P Q f h = f x h
if-ok (Err e) P Q f h = h
