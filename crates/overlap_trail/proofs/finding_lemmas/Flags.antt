-- Flags of numbers.
use Rattle.std.proofs.Common.{◌≡◌, ℕ, zero, suc, true, false, List, [], ◌∷◌, Option, Some, None, slice_get, ap}
use Rattle.overlap_trail.specs.finding.Search.{is_there, flags_of}

pub flag-there : (numbers : List (Option ℕ)) (at number : ℕ) → slice_get numbers at ≡ Some (Some number) → slice_get (flags_of numbers) at ≡ Some true
flag-there [] at number e = absurd (let k : ⊥ = cc in k)
flag-there (x ∷ numbers) zero number e = (let k : x ≡ Some number = cc in ap (λ (o : Option ℕ). Some (is_there o)) k)
flag-there (x ∷ numbers) (suc at) number e = flag-there numbers at number e

pub flag-missing : (numbers : List (Option ℕ)) (at : ℕ) → slice_get numbers at ≡ Some None → slice_get (flags_of numbers) at ≡ Some false
flag-missing [] at e = absurd (let k : ⊥ = cc in k)
flag-missing (x ∷ numbers) zero e = (let k : x ≡ None = cc in ap (λ (o : Option ℕ). Some (is_there o)) k)
flag-missing (x ∷ numbers) (suc at) e = flag-missing numbers at e

pub flag-not : (numbers : List (Option ℕ)) (at : ℕ) → slice_get numbers at ≡ Some None → slice_get (flags_of numbers) at ≡ Some true → ⊥
flag-not [] at e f = (let k : ⊥ = cc in k)
flag-not (None ∷ numbers) zero e f = (let k : ⊥ = cc in k)
flag-not (Some number ∷ numbers) zero e f = (let k : ⊥ = cc in k)
flag-not (x ∷ numbers) (suc at) e f = flag-not numbers at e f
