-- What stands where in a list, and what the first of a list don't do.
use Rattle.std.proofs.Common.{◌≡◌, ◌+◌, ◌<◌, ◌≤◌, ◌↔◌, ℕ, zero, suc, true, false, List, [], ◌∷◌, length, Option, Some, None, Result, Ok, Err, slice_get, refl, ap, sym, ◌∙◌, subst, ◌⊎◌, inl, inr, eqb-true, eq-eqb, arith}
use Rattle.program_points.specs.paths.Flow.{is_exit}
use Rattle.pending_returns.specs.levels.Reach.{Holds}
use Rattle.pending_returns.specs.declared.facts.RangeFacts.{RangeFacts}
use Rattle.std.specs.Prelude.{MatchOption, IfOk}
use Rattle.cob_base.specs.declared.memory.NoMemory.{NoMemory}
use Rattle.pending_returns.specs.declared.faults.clash.Clash.{Clash}
use Rattle.pending_returns.specs.faults.Clash.{LeadsFrom, EndsOne, IsFine, IsClash, HasClash, NoneBelow, NoneFrom, NoClash}

pub get-below : {A : Type 0} → (xs : List A) (at : ℕ) (x : A) → slice_get xs at ≡ Some x → at < length xs
get-below [] at x e = absurd (let k : ⊥ = cc in k)
get-below (y ∷ xs) zero x e = omega arith
get-below (y ∷ xs) (suc at) x e = (let less : at < length xs = get-below xs at x e in omega arith)

pub get-some : {A : Type 0} → (xs : List A) (at : ℕ) → at < length xs → (x : A) × (slice_get xs at ≡ Some x)
get-some [] at lt = absurd (omega arith)
get-some (x ∷ xs) zero lt = (x, refl)
get-some (x ∷ xs) (suc at) lt = get-some xs at (omega arith)

pub before-or-now : (number index : ℕ) → number < index + 1 → (number < index) ⊎ (number ≡ index)
before-or-now zero zero lt = inr refl
before-or-now zero (suc index) lt = inl (omega arith)
before-or-now (suc number) zero lt = absurd (omega arith)
before-or-now (suc number) (suc index) lt = elim (before-or-now number index (omega arith)) [ inl less ↦ inl (omega arith) | inr same ↦ inr (ap (λ (n : ℕ). suc n) same) ]

-- none of the first of these is this one
abbrev pub NoneUpTo : List ℕ → ℕ → ℕ → Type 0
NoneUpTo numbers number index = (at : ℕ) → at < index → slice_get numbers at ≡ Some number → ⊥

pub none-more : (numbers : List ℕ) (number index other : ℕ) → slice_get numbers index ≡ Some other → (other ≡ number → ⊥) → NoneUpTo numbers number index → NoneUpTo numbers number (index + 1)
none-more numbers number index other here ne none = λ at lt e. elim (before-or-now at index lt) [
  | inl less ↦ none at less e
  | inr now ↦
      let both : Some other ≡ Some number = sym here ∙ ap (λ (n : ℕ). slice_get numbers n) (sym now) ∙ e in
      let same : other ≡ number = cc in
      ne same
]

pub none-all : (numbers : List ℕ) (number index : ℕ) → length numbers ≤ index → NoneUpTo numbers number index → Holds numbers number → ⊥
none-all numbers number index le none has = none has.0 (let less : has.0 < length numbers = get-below numbers has.0 number has.1 in omega (arith, less, le)) has.1

-- none of the first of these ranges ends there
abbrev pub NoneEnds : List RangeFacts → List ℕ → ℕ → ℕ → Type 0
NoneEnds levels numbers end index = (at number : ℕ) (facts : RangeFacts) → at < index → slice_get numbers at ≡ Some number → slice_get levels number ≡ Some facts → facts.range.exit ≡ Some end → ⊥

pub ends-is : (exit : Option ℕ) (end : ℕ) → is_exit exit end ≡ true → exit ≡ Some end
ends-is None end h = absurd (let k : ⊥ = cc in k)
ends-is (Some exit) end h = ap (λ (n : ℕ). Some n) (eqb-true exit end h)

pub is-ends : (exit : Option ℕ) (end : ℕ) → exit ≡ Some end → is_exit exit end ≡ true
is-ends None end h = absurd (let k : ⊥ = cc in k)
is-ends (Some exit) end h = eq-eqb exit end (let k : exit ≡ end = cc in k)

pub ends-more : (levels : List RangeFacts) (numbers : List ℕ) (end index number : ℕ) (facts : RangeFacts) → slice_get numbers index ≡ Some number → slice_get levels number ≡ Some facts → is_exit facts.range.exit end ≡ false → NoneEnds levels numbers end index → NoneEnds levels numbers end (index + 1)
ends-more levels numbers end index number facts here there out none = λ at other more lt e f x. elim (before-or-now at index lt) [
  | inl less ↦ none at other more less e f x
  | inr now ↦
      let both : Some number ≡ Some other = sym here ∙ ap (λ (n : ℕ). slice_get numbers n) (sym now) ∙ e in
      let same : number ≡ other = cc in
      let two : Some facts ≡ Some more = sym there ∙ ap (λ (n : ℕ). slice_get levels n) same ∙ f in
      let eq : facts ≡ more = cc in
      let yes_it_is : is_exit facts.range.exit end ≡ true = is-ends facts.range.exit end (ap (λ (r : RangeFacts). r.range.exit) eq ∙ x) in
      let wrong : true ≡ false = sym yes_it_is ∙ out in
      (let k : ⊥ = cc in k)
]

pub ends-all : (levels : List RangeFacts) (numbers : List ℕ) (end index : ℕ) → length numbers ≤ index → NoneEnds levels numbers end index → EndsOne levels numbers end → ⊥
ends-all levels numbers end index le none one = none one.2.0 one.0 one.1 (let less : one.2.0 < length numbers = get-below numbers one.2.0 one.0 one.2.1 in omega (arith, less, le)) one.2.1 one.3 one.4

-- no level of the first of these ranges faults on the end
abbrev pub FineUpTo : List RangeFacts → List ℕ → ℕ → ℕ → Type 0
FineUpTo levels numbers end index = (at number : ℕ) (facts : RangeFacts) → at < index → slice_get numbers at ≡ Some number → slice_get levels number ≡ Some facts → IsFine levels facts end

pub fine-more : (levels : List RangeFacts) (numbers : List ℕ) (end index number : ℕ) (here : RangeFacts) → slice_get numbers index ≡ Some number → slice_get levels number ≡ Some here → IsFine levels here end → FineUpTo levels numbers end index → FineUpTo levels numbers end (index + 1)
fine-more levels numbers end index number here at_here is fine so_far = λ at other facts lt e f. elim (before-or-now at index lt) [
  | inl less ↦ so_far at other facts less e f
  | inr now ↦
      let both : Some number ≡ Some other = sym at_here ∙ ap (λ (n : ℕ). slice_get numbers n) (sym now) ∙ e in
      let same : number ≡ other = cc in
      let two : Some here ≡ Some facts = sym is ∙ ap (λ (n : ℕ). slice_get levels n) same ∙ f in
      let eq : here ≡ facts = cc in
      subst (λ (r : RangeFacts). IsFine levels r end) eq fine
]

pub fine-all : (levels : List RangeFacts) (base end : ℕ) (numbers : List ℕ) (index : ℕ) → length numbers ≤ index → ((number : ℕ) → Holds numbers number ↔ LeadsFrom levels base number) → FineUpTo levels numbers end index → NoneBelow levels base end
fine-all levels base end numbers index le led so_far = λ number facts leads e.
    let has = (led number).1 leads in
    so_far has.0 number facts (let less : has.0 < length numbers = get-below numbers has.0 number has.1 in omega (arith, less, le)) has.1 e

-- none of the first of these has a clash below it
abbrev pub ClearUpTo : List RangeFacts → ℕ → Type 0
ClearUpTo levels index = (base end : ℕ) (facts : RangeFacts) → base < index → slice_get levels base ≡ Some facts → facts.range.exit ≡ Some end → NoneBelow levels base end

pub clear-more : (levels : List RangeFacts) (index : ℕ) → NoneFrom levels index → ClearUpTo levels index → ClearUpTo levels (index + 1)
clear-more levels index none so_far = λ base end facts lt e x. elim (before-or-now base index lt) [
  | inl less ↦ so_far base end facts less e x
  | inr now ↦ subst (λ (n : ℕ). NoneBelow levels n end) (sym now) (none end facts (ap (λ (n : ℕ). slice_get levels n) (sym now) ∙ e) x)
]

-- from one range, by what is found below its end
pub found-from : (levels : List RangeFacts) (base end : ℕ) (facts : RangeFacts) (found : Option Clash) → slice_get levels base ≡ Some facts → facts.range.exit ≡ Some end → MatchOption found (NoneBelow levels base end) (λ clash. IsClash levels base end clash) → MatchOption found (NoneFrom levels base) (λ clash. HasClash levels clash)
found-from levels base end facts None is ends h = λ other more e x.
    let two : Some facts ≡ Some more = sym is ∙ e in
    let eq : facts ≡ more = cc in
    let both : Some end ≡ Some other = sym ends ∙ ap (λ (r : RangeFacts). r.range.exit) eq ∙ x in
    let same : end ≡ other = cc in
    subst (λ (n : ℕ). NoneBelow levels base n) same h
found-from levels base end facts (Some clash) is ends h = (base, end, facts, is, ends, h)

pub found-or-memory : (levels : List RangeFacts) (base end : ℕ) (facts : RangeFacts) (result : Result (Option Clash) NoMemory) → slice_get levels base ≡ Some facts → facts.range.exit ≡ Some end → IfOk result (λ found. MatchOption found (NoneBelow levels base end) (λ clash. IsClash levels base end clash)) →
    IfOk result (λ found. MatchOption found (NoneFrom levels base) (λ clash. HasClash levels clash))
found-or-memory levels base end facts (Ok found) is ends h = found-from levels base end facts found is ends h
found-or-memory levels base end facts (Err error) is ends h = h

-- a range without an end has none below it
pub endless-from : (levels : List RangeFacts) (base : ℕ) (facts : RangeFacts) → slice_get levels base ≡ Some facts → facts.range.exit ≡ None → NoneFrom levels base
endless-from levels base facts is endless = λ other more e x.
    let two : Some facts ≡ Some more = sym is ∙ e in
    let eq : facts ≡ more = cc in
    let wrong : None ≡ Some other = sym endless ∙ ap (λ (r : RangeFacts). r.range.exit) eq ∙ x in
    absurd (let k : ⊥ = cc in k)

pub clear-all : (levels : List RangeFacts) (index : ℕ) → length levels ≤ index → ClearUpTo levels index → NoClash levels
clear-all levels index le so_far = λ base end facts e x. so_far base end facts (let less : base < length levels = get-below levels base facts e in omega (arith, less, le)) e x
