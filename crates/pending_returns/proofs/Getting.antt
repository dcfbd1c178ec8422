-- What stands where in a list.
use Rattle.std.proofs.Common.{◌≡◌, ◌+◌, ◌<◌, ℕ, zero, suc, true, false, List, [], ◌∷◌, ◌++◌, length, get_or, Some, slice_get, refl, ap, sym, ◌∙◌, subst, ◌⊎◌, inl, inr, arith, set, ◌==◌, eqb-true, eq-eqb}

pub get-last : {A : Type 0} → (xs : List A) (x : A) → slice_get (xs ++ x ∷ []) (length xs) ≡ Some x
get-last [] x = refl
get-last (y ∷ xs) x = get-last xs x

pub get-front : {A : Type 0} → (xs : List A) (x : A) (at : ℕ) (other : A) → slice_get xs at ≡ Some other → slice_get (xs ++ x ∷ []) at ≡ Some other
get-front [] x at other e = absurd (let k : ⊥ = cc in k)
get-front (y ∷ xs) x zero other e = e
get-front (y ∷ xs) x (suc at) other e = get-front xs x at other e

-- what stands in a longer list stood there, or is its last
pub get-back : {A : Type 0} → (xs : List A) (x : A) (at : ℕ) (other : A) → slice_get (xs ++ x ∷ []) at ≡ Some other → (slice_get xs at ≡ Some other) ⊎ ((at ≡ length xs) × (other ≡ x))
get-back [] x zero other e = inr (refl, let k : other ≡ x = cc in k)
get-back [] x (suc at) other e = absurd (let k : ⊥ = cc in k)
get-back (y ∷ xs) x zero other e = inl e
get-back (y ∷ xs) x (suc at) other e = elim (get-back xs x at other e) [ inl there ↦ inl there | inr last ↦ inr (ap (λ (n : ℕ). suc n) last.0, last.1) ]

pub get-below : {A : Type 0} → (xs : List A) (at : ℕ) (x : A) → slice_get xs at ≡ Some x → at < length xs
get-below [] at x e = absurd (let k : ⊥ = cc in k)
get-below (y ∷ xs) zero x e = omega arith
get-below (y ∷ xs) (suc at) x e = (let less : at < length xs = get-below xs at x e in omega arith)

pub get-some : {A : Type 0} → (xs : List A) (at : ℕ) → at < length xs → (x : A) × (slice_get xs at ≡ Some x)
get-some [] at lt = absurd (omega arith)
get-some (x ∷ xs) zero lt = (x, refl)
get-some (x ∷ xs) (suc at) lt = get-some xs at (omega arith)

read-or : {A : Type 0} → (xs : List A) (at : ℕ) (other : A) → at < length xs → slice_get xs at ≡ Some (get_or xs at other)
read-or [] at other lt = absurd (omega arith)
read-or (x ∷ xs) zero other lt = refl
read-or (x ∷ xs) (suc at) other lt = read-or xs at other (omega arith)

pub get-read : {A : Type 0} → (xs ys : List A) (at : ℕ) (other : A) → xs ≡ ys → at < length ys → slice_get ys at ≡ Some (get_or xs at other)
get-read {A} xs ys at other same lt = subst (λ (zs : List A). slice_get zs at ≡ Some (get_or xs at other)) same (read-or xs at other (subst (λ (zs : List A). at < length zs) (sym same) lt))

pub before-or-now : (number index : ℕ) → number < index + 1 → (number < index) ⊎ (number ≡ index)
before-or-now zero zero lt = inr refl
before-or-now zero (suc index) lt = inl (omega arith)
before-or-now (suc number) zero lt = absurd (omega arith)
before-or-now (suc number) (suc index) lt = elim (before-or-now number index (omega arith)) [ inl less ↦ inl (omega arith) | inr same ↦ inr (ap (λ (n : ℕ). suc n) same) ]

-- one that is set

pub set-here : {A : Type 0} → (xs : List A) (at : ℕ) (x : A) → at < length xs → slice_get (set xs at x) at ≡ Some x
set-here [] at x lt = absurd (omega arith)
set-here (y ∷ xs) zero x lt = refl
set-here (y ∷ xs) (suc at) x lt = set-here xs at x (omega arith)

pub set-other : {A : Type 0} → (xs : List A) (at other : ℕ) (x : A) → (other ≡ at → ⊥) → slice_get (set xs at x) other ≡ slice_get xs other
set-other [] at other x ne = refl
set-other (y ∷ xs) zero zero x ne = absurd (ne refl)
set-other (y ∷ xs) zero (suc other) x ne = refl
set-other (y ∷ xs) (suc at) zero x ne = refl
set-other (y ∷ xs) (suc at) (suc other) x ne = set-other xs at other x (λ e. ne (ap (λ (n : ℕ). suc n) e))

pub same-or-not : (a b : ℕ) → (a ≡ b) ⊎ (a ≡ b → ⊥)
same-or-not a b = (elim (a == b) as (λ z. (a == b) ≡ z → (a ≡ b) ⊎ (a ≡ b → ⊥)) [
  | true ↦ λ e. inl (eqb-true a b e)
  | false ↦ λ e. inr (λ s. (let t : (a == b) ≡ true = eq-eqb a b s in let both : true ≡ false = sym t ∙ e in let k : ⊥ = cc in k))
]) refl
