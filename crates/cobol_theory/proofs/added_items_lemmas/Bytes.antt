-- Bytes of a store with more roots behind its own.
use Rattle.std.proofs.Common.{◌≡◌, ℕ, zero, suc, ◌<◌, Bool, true, false, if◌then◌else◌, List, [], ◌∷◌, ◌++◌, length, refl, ap, ◌∙◌, arith}
use Rattle.std.specs.Prelude.{◌+◌, slice_get, slice_set, unwrap_or, take, drop, nat_le, Ok, Some}
use Rattle.cob_store.specs.Answer.{and_then}
use Rattle.cob_store.specs.Number.{number_in}
use Rattle.cob_store.specs.declared.area.Form.{Form}
use Rattle.cob_store.specs.declared.area.Form.TheVariants as forms
use Rattle.cob_store.specs.declared.spot.Spot.{Spot}
use Rattle.cob_store.specs.Store.{Roots, root_bytes, spot_bytes, is_inside, put_at, replaced, number_of}
use Rattle.cob_store.specs.Place.{number_at}

pub get-append : {X : Type 0} (xs ys : List X) (i : ℕ) → i < length xs → slice_get (xs ++ ys) i ≡ slice_get xs i
get-append [] ys i h = absurd (omega (arith, h))
get-append (x ∷ xs) ys zero h = refl
get-append (x ∷ xs) ys (suc i) h = get-append xs ys i (omega (arith, h))

pub set-append : {X : Type 0} (xs ys : List X) (i : ℕ) (x : X) → i < length xs → slice_set (xs ++ ys) i x ≡ slice_set xs i x ++ ys
set-append [] ys i y h = absurd (omega (arith, h))
set-append (x ∷ xs) ys zero y h = refl
set-append (x ∷ xs) ys (suc i) y h = ap (λ l. x ∷ l) (set-append xs ys i y (omega (arith, h)))

pub set-long : {X : Type 0} (xs : List X) (i : ℕ) (x : X) → length (slice_set xs i x) ≡ length xs
set-long [] i y = refl
set-long (x ∷ xs) zero y = refl
set-long (x ∷ xs) (suc i) y = ap suc (set-long xs i y)

module _ (store tail : Roots) where
  pub root-same : (root : ℕ) → root < length store → root_bytes (store ++ tail) root ≡ root_bytes store root
  root-same root h = ap (λ b. unwrap_or b []) (get-append store tail root h)

  pub spot-same : (spot : Spot) → spot.root < length store → spot_bytes (store ++ tail) spot ≡ spot_bytes store spot
  spot-same spot h = ap (λ b. take spot.length (drop spot.start b)) (root-same spot.root h)

  pub put-same : (spot : Spot) (bytes : List ℕ) → spot.root < length store → put_at (store ++ tail) spot bytes ≡ put_at store spot bytes ++ tail
  put-same spot bytes h =
      ap (λ old. if nat_le (spot.start + spot.length) (length old) then slice_set (store ++ tail) spot.root (replaced old spot.start spot.length bytes) else store ++ tail) (root-same spot.root h)
      ∙ by_case (is_inside store spot)
    where
      by_case : (b : Bool) →
          (if b then slice_set (store ++ tail) spot.root (replaced (root_bytes store spot.root) spot.start spot.length bytes) else store ++ tail)
          ≡ (if b then slice_set store spot.root (replaced (root_bytes store spot.root) spot.start spot.length bytes) else store) ++ tail
      by_case true = set-append store tail spot.root (replaced (root_bytes store spot.root) spot.start spot.length bytes) h
      by_case false = refl

  pub put-long : (spot : Spot) (bytes : List ℕ) → length (put_at store spot bytes) ≡ length store
  put-long spot bytes = by_case (is_inside store spot)
    where
      by_case : (b : Bool) → length (if b then slice_set store spot.root (replaced (root_bytes store spot.root) spot.start spot.length bytes) else store) ≡ length store
      by_case true = set-long store spot.root (replaced (root_bytes store spot.root) spot.start spot.length bytes)
      by_case false = refl

  pub number-same : (spot : Spot) (form : Form) → spot.root < length store → number_at (store ++ tail) spot form ≡ number_at store spot form
  number-same spot (forms.Number signed whole part storage) h =
      ap (λ bytes. and_then (number_of (number_in signed storage bytes) part) (λ number. Ok (Some number))) (spot-same spot h)
  number-same spot forms.Edited h = refl
  number-same spot forms.Group h = refl
  number-same spot forms.Text h = refl
