-- Two lists in one order that have the same members are the same.
use Rattle.std.proofs.Common.{◌≡◌, ◌<◌, ℕ, zero, suc, List, [], ◌∷◌, Some, slice_get, refl, ap₂, sym, subst, arith}

-- each member is before any later one
abbrev pub Ascends : {A : Type 0} → (A → A → Type 0) → List A → Type 0
Ascends {A} Before xs = (at later : ℕ) (x y : A) → at < later → slice_get xs at ≡ Some x →
    slice_get xs later ≡ Some y → Before x y

abbrev pub Has : {A : Type 0} → List A → A → Type 0
Has xs x = (at : ℕ) × (slice_get xs at ≡ Some x)

-- none is before one that is before it
abbrev pub AreApart : {A : Type 0} → (A → A → Type 0) → Type 0
AreApart {A} Before = (x y : A) → Before x y → Before y x → ⊥

same-heads : {A : Type 0} → (Before : A → A → Type 0) → AreApart Before → (x y : A) (xs ys : List A) → Ascends Before (x ∷ xs) → Ascends Before (y ∷ ys) → (i j : ℕ) → slice_get (y ∷ ys) i ≡ Some x → slice_get (x ∷ xs) j ≡ Some y → x ≡ y
same-heads Before apart x y xs ys up up2 zero j here there = (let e : Some y ≡ Some x = here in let k : x ≡ y = cc in k)
same-heads Before apart x y xs ys up up2 (suc i) zero here there = (let e : Some x ≡ Some y = there in let k : x ≡ y = cc in k)
same-heads Before apart x y xs ys up up2 (suc i) (suc j) here there =
    absurd (apart x y (up 0 (suc j) x y (omega arith) refl there) (up2 0 (suc i) y x (omega arith) refl here))

ascends-behind : {A : Type 0} → (Before : A → A → Type 0) (x : A) (xs : List A) → Ascends Before (x ∷ xs) → Ascends Before xs
ascends-behind Before x xs up at later a b lt here there = up (suc at) (suc later) a b (omega (arith, lt)) here there

-- what is behind the first has its place behind it
has-behind : {A : Type 0} → (Before : A → A → Type 0) → AreApart Before → (x y a : A) (ys : List A) → x ≡ y → Before x a → (i : ℕ) → slice_get (y ∷ ys) i ≡ Some a → Has ys a
has-behind {A} Before apart x y a ys same before zero here =
    let e : Some y ≡ Some a = here in
    let is : a ≡ x = cc in
    let self : Before x x = subst (λ (b : A). Before x b) is before in
    absurd (apart x x self self)
has-behind Before apart x y a ys same before (suc i) here = (i, here)

pub same-lists : {A : Type 0} → (Before : A → A → Type 0) → AreApart Before → (xs ys : List A) → Ascends Before xs → Ascends Before ys → ((a : A) → Has xs a → Has ys a) → ((a : A) → Has ys a → Has xs a) → xs ≡ ys
same-lists Before apart [] [] up up2 forth back = refl
same-lists Before apart [] (y ∷ ys) up up2 forth back = absurd (let has = back y (0, refl) in let e = has.1 in let k : ⊥ = cc in k)
same-lists Before apart (x ∷ xs) [] up up2 forth back = absurd (let has = forth x (0, refl) in let e = has.1 in let k : ⊥ = cc in k)
same-lists {A} Before apart (x ∷ xs) (y ∷ ys) up up2 forth back =
    let there = forth x (0, refl) in
    let again = back y (0, refl) in
    let same : x ≡ y = same-heads Before apart x y xs ys up up2 there.0 again.0 there.1 again.1 in
    ap₂ (λ (b : A) (bs : List A). b ∷ bs) same
    (same-lists Before apart xs ys (ascends-behind Before x xs up) (ascends-behind Before y ys up2)
    (λ a has. let found = forth a (suc has.0, has.1) in has-behind Before apart x y a ys same (up 0 (suc has.0) x a (omega arith) refl has.1) found.0 found.1)
    (λ a has. let found = back a (suc has.0, has.1) in has-behind Before apart y x a xs (sym same) (up2 0 (suc has.0) y a (omega arith) refl has.1) found.0 found.1))
