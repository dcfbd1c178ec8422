-- Numbers that stand once each in a list, and their places.
use Rattle.std.proofs.Common.{◌≡◌, ℕ, zero, suc, add-one, ◌+◌, ◌-◌, ◌<◌, ◌≤◌, ◌⊎◌, inl, inr, true, false, if◌then◌else◌, ◌==◌, List, [], ◌∷◌, ◌++◌, length, map, Option, Some, None, refl, ap, sym, ◌∙◌, subst, arith}
use Rattle.std.specs.Prelude.{is_some, slice_get}
use Rattle.std.proofs.Common.{eqb-true}
use Rattle.std.proofs.lemmas.Bool.{cases_Bool, cases_lt}
use Rattle.control_flow_theory.proofs.semantics_lemmas.Ranges.{eq-self}
use Rattle.added_items.specs.item_table.Owners.{further, place_in, with_number, each_once, counted_on}

some-same : {X : Type 0} (x y : X) → Some x ≡ Some y → x ≡ y
some-same x y e = cc

further-some : (place : Option ℕ) (n : ℕ) → further place ≡ Some n → (m : ℕ) × (place ≡ Some m) × (suc m ≡ n)
further-some None n is = cc
further-some (Some m) n is = (m, refl, some-same (suc m) n is)

further-none : (place : Option ℕ) → further place ≡ None → place ≡ None
further-none None is = refl
further-none (Some m) is = cc

-- at the first number, or behind it
at-first : (x : ℕ) (xs : List ℕ) (k : ℕ) → (x == k) ≡ true → place_in (x ∷ xs) k ≡ Some 0
at-first x xs k e = ap (λ b. if b then Some 0 else further (place_in xs k)) e

behind-first : (x : ℕ) (xs : List ℕ) (k : ℕ) → (x == k) ≡ false → place_in (x ∷ xs) k ≡ further (place_in xs k)
behind-first x xs k e = ap (λ b. if b then Some 0 else further (place_in xs k)) e

-- ---- one more number behind the others

pub place-kept : (xs : List ℕ) (h k n : ℕ) → place_in xs k ≡ Some n → place_in (xs ++ h ∷ []) k ≡ Some n
place-kept [] h k n is = cc
place-kept (x ∷ xs) h k n is = elim (cases_Bool (x == k)) [
  | inl e ↦ at-first x (xs ++ h ∷ []) k e ∙ sym (at-first x xs k e) ∙ is
  | inr e ↦
      let found = further-some (place_in xs k) n (sym (behind-first x xs k e) ∙ is) in
      behind-first x (xs ++ h ∷ []) k e ∙ ap further (place-kept xs h k found.0 found.1) ∙ ap Some found.2
]

pub place-new : (xs : List ℕ) (h : ℕ) → place_in xs h ≡ None → place_in (xs ++ h ∷ []) h ≡ Some (length xs)
place-new [] h is = at-first h [] h (eq-self h)
place-new (x ∷ xs) h is = elim (cases_Bool (x == h)) [
  | inl e ↦ let no : Some 0 ≡ None = sym (at-first x xs h e) ∙ is in cc
  | inr e ↦
      let none = further-none (place_in xs h) (sym (behind-first x xs h e) ∙ is) in
      behind-first x (xs ++ h ∷ []) h e ∙ ap further (place-new xs h none)
]

pub place-other : (xs : List ℕ) (h k : ℕ) → (h == k) ≡ false → place_in xs k ≡ None → place_in (xs ++ h ∷ []) k ≡ None
place-other [] h k other is = behind-first h [] k other
place-other (x ∷ xs) h k other is = elim (cases_Bool (x == k)) [
  | inl e ↦ let no : Some 0 ≡ None = sym (at-first x xs k e) ∙ is in cc
  | inr e ↦
      let none = further-none (place_in xs k) (sym (behind-first x xs k e) ∙ is) in
      behind-first x (xs ++ h ∷ []) k e ∙ ap further (place-other xs h k other none)
]

-- the number that stands there
pub place-holds : (xs : List ℕ) (k n : ℕ) → place_in xs k ≡ Some n → slice_get xs n ≡ Some k
place-holds [] k n is = cc
place-holds (x ∷ xs) k n is = elim (cases_Bool (x == k)) [
  | inl e ↦
      let at : 0 ≡ n = some-same 0 n (sym (at-first x xs k e) ∙ is) in
      subst (λ m. slice_get (x ∷ xs) m ≡ Some k) at (ap Some (eqb-true x k e))
  | inr e ↦
      let found = further-some (place_in xs k) n (sym (behind-first x xs k e) ∙ is) in
      subst (λ m. slice_get (x ∷ xs) m ≡ Some k) found.2 (place-holds xs k found.0 found.1)
]

-- so no two numbers have one place
pub place-apart : (xs : List ℕ) (j k n : ℕ) → place_in xs j ≡ Some n → place_in xs k ≡ Some n → j ≡ k
place-apart xs j k n one other = some-same j k (sym (place-holds xs j n one) ∙ place-holds xs k n other)

-- ---- each once

abbrev pub Stands : List ℕ → ℕ → Type 0
Stands xs k = (n : ℕ) × (place_in xs k ≡ Some n)

told : (place : Option ℕ) → ((n : ℕ) × (place ≡ Some n)) ⊎ (place ≡ None)
told None = inr refl
told (Some n) = inl (n, refl)

pub with-there : (xs : List ℕ) (h n : ℕ) → place_in xs h ≡ Some n → with_number xs h ≡ xs
with-there xs h n is = ap (λ place. if is_some place then xs else xs ++ h ∷ []) is

pub with-new : (xs : List ℕ) (h : ℕ) → place_in xs h ≡ None → with_number xs h ≡ xs ++ h ∷ []
with-new xs h is = ap (λ place. if is_some place then xs else xs ++ h ∷ []) is

with-keeps : (xs : List ℕ) (h k : ℕ) → Stands xs k → Stands (with_number xs h) k
with-keeps xs h k at = elim (told (place_in xs h)) [
  | inl there ↦ subst (λ ys. Stands ys k) (sym (with-there xs h there.0 there.1)) at
  | inr none ↦ subst (λ ys. Stands ys k) (sym (with-new xs h none)) (at.0, place-kept xs h k at.0 at.1)
]

with-has : (xs : List ℕ) (h : ℕ) → Stands (with_number xs h) h
with-has xs h = elim (told (place_in xs h)) [
  | inl there ↦ subst (λ ys. Stands ys h) (sym (with-there xs h there.0 there.1)) there
  | inr none ↦ subst (λ ys. Stands ys h) (sym (with-new xs h none)) (length xs, place-new xs h none)
]

once-keeps : (numbers xs : List ℕ) (k : ℕ) → Stands xs k → Stands (each_once xs numbers) k
once-keeps [] xs k at = at
once-keeps (n ∷ numbers) xs k at = once-keeps numbers (with_number xs n) k (with-keeps xs n k at)

abbrev pub Among : ℕ → List ℕ → Type 0
Among k [] = ⊥
Among k (n ∷ numbers) = (n ≡ k) ⊎ Among k numbers

once-has : (numbers xs : List ℕ) (k : ℕ) → Among k numbers → Stands (each_once xs numbers) k
once-has [] xs k at = absurd at
once-has (n ∷ numbers) xs k (inl e) =
    once-keeps numbers (with_number xs n) k (subst (λ m. Stands (with_number xs n) m) e (with-has xs n))
once-has (n ∷ numbers) xs k (inr later) = once-has numbers (with_number xs n) k later

pub once-stands : (numbers : List ℕ) (k : ℕ) → Among k numbers → Stands (each_once [] numbers) k
once-stands numbers k at = once-has numbers [] k at

pub among-map : (f : ℕ → ℕ) (k : ℕ) (numbers : List ℕ) → Among k numbers → Among (f k) (map f numbers)
among-map f k [] at = absurd at
among-map f k (n ∷ numbers) (inl e) = inl (ap f e)
among-map f k (n ∷ numbers) (inr later) = inr (among-map f k numbers later)

pub among-later : (k : ℕ) (first later : List ℕ) → Among k later → Among k (first ++ later)
among-later k [] later at = at
among-later k (n ∷ first) later at = inr (among-later k first later at)

pub counted-has : (count from k : ℕ) → from ≤ k → k < from + count → Among k (counted_on from count)
counted-has zero from k least most = absurd (omega arith)
counted-has (suc count) from k least most = elim (cases_lt from k) [
  | inl less ↦ inr (counted-has count (suc from) k (omega arith) (omega arith))
  | inr not ↦ inl (omega arith)
]

pub counted-next : (place count : ℕ) → place < count → counted_on place (count - place) ≡ place ∷ counted_on (place + 1) (count - (place + 1))
counted-next place count lt =
    let e : count - place ≡ suc (count - (place + 1)) = omega arith in
    rw (e, add-one place) refl
