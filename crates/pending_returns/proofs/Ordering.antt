-- Numbers that are sorted.
use Rattle.std.proofs.Common.{◌≡◌, ◌<◌, ◌≤◌, ℕ, zero, suc, true, false, List, [], ◌∷◌, length, get_or, Some, slice_get, refl, ap, sym, ◌∙◌, subst, arith, eqb, eqb-true, eq-eqb}
use Rattle.std.specs.List.{IsDistinct, Contains}
use Rattle.std.specs.List.Sorted.{IsPermutation, IsSorted}
use Rattle.std.specs.Ordering.{nat_cmp}
use Rattle.std.proofs.lemmas.Option.{slice_get-get_or}
use Rattle.std.proofs.lemmas.List.Sorted.{IsPermutation-sym, Contains-permutation, IsNonDecreasingBy-from_sort}
use Rattle.std.proofs.lemmas.Map.Keys.{IsDistinct-head, IsDistinct-tail, IsDistinct-IsPermutation}
use Rattle.pending_returns.specs.levels.Reach.{Holds}
use Rattle.pending_returns.proofs.levels_lemmas.Searching.{distinct}
use Rattle.pending_returns.specs.Tabled.{Orders, StandOnce}
use Rattle.pending_returns.proofs.Getting.{get-below}

flips : (x y : ℕ) → eqb x y ≡ eqb y x
flips x y = (elim (eqb x y) as (λ b. eqb x y ≡ b → b ≡ eqb y x) [
  | true ↦ λ e. sym (eq-eqb y x (sym (eqb-true x y e)))
  | false ↦ λ e. (elim (eqb y x) as (λ d. eqb y x ≡ d → false ≡ d) [
    | true ↦ λ f. absurd (let t : eqb x y ≡ true = eq-eqb x y (sym (eqb-true y x f)) in let both : true ≡ false = sym t ∙ e in let k : ⊥ = cc in k)
    | false ↦ λ f. refl
  ]) refl
]) refl

next-apart : (numbers : List ℕ) (at number next : ℕ) → IsDistinct eqb numbers → slice_get numbers at ≡ Some number → slice_get numbers (suc at) ≡ Some next → number ≡ next → ⊥
next-apart [] at number next apart here there same = (let k : ⊥ = cc in k)
next-apart (x ∷ []) zero number next apart here there same = (let k : ⊥ = cc in k)
next-apart (x ∷ y ∷ numbers) zero number next apart here there same =
    let head = IsDistinct-head eqb x (y ∷ numbers) apart in
    let first : x ≡ number = cc in
    let second : y ≡ next = cc in
    let t : eqb x y ≡ true = eq-eqb x y (first ∙ same ∙ sym second) in
    let both : true ≡ false = sym t ∙ head.0 in
    let k : ⊥ = cc in k
next-apart (x ∷ numbers) (suc at) number next apart here there same = next-apart numbers at number next (IsDistinct-tail eqb x numbers apart) here there same

holds-contains : (numbers : List ℕ) (number : ℕ) → Holds numbers number → Contains numbers number
holds-contains numbers number h =
    let lt = get-below numbers h.0 number h.1 in
    let both : Some (get_or numbers h.0 number) ≡ Some number = sym (slice_get-get_or numbers h.0 number lt) ∙ h.1 in
    let same : get_or numbers h.0 number ≡ number = cc in
    (h.0, lt, same)

contains-holds : (numbers : List ℕ) (number : ℕ) → Contains numbers number → Holds numbers number
contains-holds numbers number c = (c.0, slice_get-get_or numbers c.0 number c.1 ∙ ap (λ (n : ℕ). Some n) c.2)

pub orders : (numbers taken sorted : List ℕ) → taken ≡ numbers → StandOnce numbers → IsPermutation taken sorted → IsSorted nat_cmp sorted → Orders numbers sorted
orders numbers taken sorted is once moved rising =
    let perm = subst (λ (ns : List ℕ). IsPermutation ns sorted) is moved in
    let up = IsNonDecreasingBy-from_sort (λ (n : ℕ). n) sorted rising in
    let apart = IsDistinct-IsPermutation eqb flips numbers sorted perm (distinct numbers once) in
    record {
      rises = λ at number next here there.
          let lt1 : at < length sorted = get-below sorted at number here in
          let lt2 : suc at < length sorted = get-below sorted (suc at) next there in
          let one : Some (get_or sorted at 0) ≡ Some number = sym (slice_get-get_or sorted at 0 lt1) ∙ here in
          let two : Some (get_or sorted (suc at) 0) ≡ Some next = sym (slice_get-get_or sorted (suc at) 0 lt2) ∙ there in
          let first : get_or sorted at 0 ≡ number = cc in
          let second : get_or sorted (suc at) 0 ≡ next = cc in
          let le : get_or sorted at 0 ≤ get_or sorted (suc at) 0 = up at (suc at) 0 (omega arith) lt2 in
          let ne : number ≡ next → ⊥ = next-apart sorted at number next apart here there in
          omega (arith, le, first, second, ne);
      same = λ number. (
        λ has. contains-holds sorted number (Contains-permutation numbers sorted number perm (holds-contains numbers number has)),
        λ has. contains-holds numbers number (Contains-permutation sorted numbers number (IsPermutation-sym numbers sorted perm) (holds-contains sorted number has)),
      );
    }
