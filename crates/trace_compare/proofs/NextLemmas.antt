-- What is next of two programs that run beside each other.
use Rattle.std.proofs.Common.{◌≡◌, ◌∙◌, ℕ, zero, suc, ◌+◌, ◌≤◌, true, false, if◌then◌else◌, [], ◌∷◌, length, take, drop, Option, Some, None, slice_get, min, nat_lt, not, ◌&&◌, subst, ap, arith, inl, inr, refl, sym, ◌⊎◌}
use Rattle.std.proofs.lemmas.Bool.{cases_lt, lt-ltb, ltb-true}
use Rattle.std.proofs.lemmas.List.{drop_all}
use Rattle.std.specs.Str.{bytes_eq}
use Rattle.std.proofs.lemmas.Slice.Eq.{bytes_eq-Decides}
use Rattle.control_flow_theory.specs.semantics.Outcome.{Event, Trace}
use Rattle.trace_compare.specs.declared.compared.Compared.TheVariants as compared
use Rattle.trace_compare.specs.declared.next.Decision.TheVariants as next
use Rattle.trace_compare.specs.Differing.{Way, answer_from, way_eq}
use Rattle.trace_compare.specs.Next.{IsNext, are_some, front_of, may_step, next_of, settled}

-- ---- what is next

next_differ : (event following : Event) (first second : Trace) (one other : Option Way) → front_of (event ∷ first) (following ∷ second) ≡ 0 → (count : ℕ) → answer_from count (event ∷ first) one (following ∷ second) other ≡ compared.Differ (suc count)
next_differ event following first second one other front count =
    elim (bytes_eq event following) as (λ t. (if t then suc (front_of first second) else 0) ≡ 0 → (if t then answer_from (suc count) first one second other else compared.Differ (suc count)) ≡ compared.Differ (suc count)) [
      | true ↦ λ e. absurd (omega (arith, e))
      | false ↦ λ e. refl
    ] front

next_ended : (one other : Way) (left left_other : ℕ) → IsNext (if way_eq one other then next.Same else next.Differ) [] (Some one) left [] (Some other) left_other
next_ended one other left left_other =
    elim (way_eq one other) as (λ t. way_eq one other ≡ t → IsNext (if t then next.Same else next.Differ) [] (Some one) left [] (Some other) left_other) [
      | true ↦ λ e count. ap (λ t. if t then compared.Same count else compared.Differ (suc count)) e
      | false ↦ λ e front count. ap (λ t. if t then compared.Same count else compared.Differ (suc count)) e
    ] refl

no_left : (left : ℕ) → nat_lt 0 left ≡ false → left ≡ 0
no_left zero e = refl
no_left (suc left) e = absurd (let x : true ≡ false = sym (lt-ltb 0 (suc left) (omega arith)) ∙ e in cc)

-- the first has no more to show within its steps, and hasn't ended
first_out : (left : ℕ) → left ≡ 0 → (second : Trace) (other : Option Way) (left_other : ℕ) → IsNext (if not (are_some second) && may_step other left_other then next.Second else settled [] None second other) [] None left second other left_other
first_out left none [] None left_other =
    elim (nat_lt 0 left_other) as (λ t. nat_lt 0 left_other ≡ t → IsNext (if t then next.Second else next.Budget) [] None left [] None left_other) [
      | true ↦ λ e. (refl, refl, ltb-true 0 left_other e)
      | false ↦ λ e. inl (refl, refl, none)
    ] refl
first_out left none [] (Some other) left_other = inl (refl, refl, none)
first_out left none (event ∷ second) other left_other = inl (refl, refl, none)

-- the second may have more to show, and the first wants no step
second_may : (first : Trace) (one : Option Way) (left left_other : ℕ) → settled first one [] None ≡ next.Budget → IsNext (if nat_lt 0 left_other then next.Second else settled first one [] None) first one left [] None left_other
second_may first one left left_other is =
    elim (nat_lt 0 left_other) as (λ t. nat_lt 0 left_other ≡ t → IsNext (if t then next.Second else settled first one [] None) first one left [] None left_other) [
      | true ↦ λ e. (refl, refl, ltb-true 0 left_other e)
      | false ↦ λ e. subst (λ n. IsNext n first one left [] None left_other) (sym is) (inr (refl, refl, no_left left_other e))
    ] refl

pub next_right : (first : Trace) (one : Option Way) (left : ℕ) (second : Trace) (other : Option Way) (left_other : ℕ) → IsNext (next_of first one left second other left_other) first one left second other left_other
next_right [] None left second other left_other =
    elim (nat_lt 0 left) as (λ t. nat_lt 0 left ≡ t → IsNext (if t then next.First else (if not (are_some second) && may_step other left_other then next.Second else settled [] None second other)) [] None left second other left_other) [
      | true ↦ λ e. (refl, refl, ltb-true 0 left e)
      | false ↦ λ e. first_out left (no_left left e) second other left_other
    ] refl
next_right [] (Some one) left [] None left_other = second_may [] (Some one) left left_other refl
next_right [] (Some one) left [] (Some other) left_other = next_ended one other left left_other
next_right [] (Some one) left (event ∷ second) other left_other = λ front count. refl
next_right (event ∷ first) one left [] None left_other = second_may (event ∷ first) one left left_other refl
next_right (event ∷ first) one left [] (Some other) left_other = λ front count. refl
next_right (event ∷ first) one left (following ∷ second) other left_other =
    next_differ event following first second one other

-- ---- events that are the same

event_is : (one other : Event) → bytes_eq one other ≡ true → one ≡ other
event_is one other e = (bytes_eq-Decides one other).0 e

-- the front of the first is the front of the second
pub front_same : (first second : Trace) → take (front_of first second) first ≡ take (front_of first second) second
front_same [] [] = refl
front_same [] (event ∷ second) = refl
front_same (event ∷ first) [] = refl
front_same (event ∷ first) (following ∷ second) =
    elim (bytes_eq event following) as (λ t. bytes_eq event following ≡ t → take (if t then suc (front_of first second) else 0) (event ∷ first) ≡ take (if t then suc (front_of first second) else 0) (following ∷ second)) [
      | true ↦ λ e. ap (λ x. x ∷ take (front_of first second) first) (event_is event following e) ∙ ap (λ xs. following ∷ xs) (front_same first second)
      | false ↦ λ e. refl
    ] refl

pub front_within : (first second : Trace) → front_of first second ≤ length first
front_within [] second = omega arith
front_within (event ∷ first) [] = omega arith
front_within (event ∷ first) (following ∷ second) =
    elim (bytes_eq event following) as (λ t. (if t then suc (front_of first second) else 0) ≤ suc (length first)) [
      | true ↦ let w = front_within first second in omega (arith, w)
      | false ↦ omega arith
    ]

pub front_within_second : (first second : Trace) → front_of first second ≤ length second
front_within_second [] second = omega arith
front_within_second (event ∷ first) [] = omega arith
front_within_second (event ∷ first) (following ∷ second) =
    elim (bytes_eq event following) as (λ t. (if t then suc (front_of first second) else 0) ≤ suc (length second)) [
      | true ↦ let w = front_within_second first second in omega (arith, w)
      | false ↦ omega arith
    ]

-- behind the front they differ
pub front_ends : (first second : Trace) → front_of (drop (front_of first second) first) (drop (front_of first second) second) ≡ 0
front_ends [] [] = refl
front_ends [] (event ∷ second) = refl
front_ends (event ∷ first) [] = refl
front_ends (event ∷ first) (following ∷ second) =
    elim (bytes_eq event following) as (λ t. bytes_eq event following ≡ t → front_of (drop (if t then suc (front_of first second) else 0) (event ∷ first)) (drop (if t then suc (front_of first second) else 0) (following ∷ second)) ≡ 0) [
      | true ↦ λ e. front_ends first second
      | false ↦ λ e. ap (λ t. if t then suc (front_of first second) else 0) e
    ] refl

-- ---- the front, found one by one

-- so many are the same, and then the front of what follows
abbrev pub FoundTo : Trace → Trace → ℕ → Type 0
FoundTo first second at = front_of first second ≡ at + front_of (drop at first) (drop at second)

pub found_more : (first second : Trace) (at : ℕ) (one other : Event) → slice_get first at ≡ Some one → slice_get second at ≡ Some other → bytes_eq one other ≡ true → front_of (drop at first) (drop at second) ≡ suc (front_of (drop (suc at) first) (drop (suc at) second))
found_more [] second at one other x y same = absurd (let e : None ≡ Some one = x in cc)
found_more (event ∷ first) [] at one other x y same = absurd (let e : None ≡ Some other = y in cc)
found_more (event ∷ first) (following ∷ second) zero one other x y same =
    let p : event ≡ one = cc in
    let q : following ≡ other = cc in
    let e : bytes_eq event following ≡ true = ap (λ z. bytes_eq z following) p ∙ ap (bytes_eq one) q ∙ same in
    ap (λ t. if t then suc (front_of first second) else 0) e
found_more (event ∷ first) (following ∷ second) (suc at) one other x y same = found_more first second at one other x y same

pub found_last : (first second : Trace) (at : ℕ) (one other : Event) → slice_get first at ≡ Some one → slice_get second at ≡ Some other → bytes_eq one other ≡ false → front_of (drop at first) (drop at second) ≡ 0
found_last [] second at one other x y same = absurd (let e : None ≡ Some one = x in cc)
found_last (event ∷ first) [] at one other x y same = absurd (let e : None ≡ Some other = y in cc)
found_last (event ∷ first) (following ∷ second) zero one other x y same =
    let p : event ≡ one = cc in
    let q : following ≡ other = cc in
    let e : bytes_eq event following ≡ false = ap (λ z. bytes_eq z following) p ∙ ap (bytes_eq one) q ∙ same in
    ap (λ t. if t then suc (front_of first second) else 0) e
found_last (event ∷ first) (following ∷ second) (suc at) one other x y same = found_last first second at one other x y same

-- at the end of one of them nothing follows
front_none : (first : Trace) → front_of first [] ≡ 0
front_none [] = refl
front_none (event ∷ first) = refl

pub found_end_first : (first second : Trace) (at : ℕ) → length first ≤ at → front_of (drop at first) (drop at second) ≡ 0
found_end_first first second at past = ap (λ t. front_of t (drop at second)) (drop_all at first past)

pub found_end_second : (first second : Trace) (at : ℕ) → length second ≤ at → front_of (drop at first) (drop at second) ≡ 0
found_end_second first second at past = ap (front_of (drop at first)) (drop_all at second past) ∙ front_none (drop at first)

pub found_begin : (first second : Trace) → FoundTo first second 0
found_begin first second = omega arith

pub found_step : (first second : Trace) (at : ℕ) (one other : Event) → slice_get first at ≡ Some one → slice_get second at ≡ Some other → bytes_eq one other ≡ true → FoundTo first second at → FoundTo first second (at + 1)
found_step first second at one other x y same found =
    let e : suc at ≡ at + 1 = omega arith in
    let m = found_more first second at one other x y same in
    let so : FoundTo first second (suc at) = omega (arith, found, m) in
    subst (FoundTo first second) e so

pub found_differ : (first second : Trace) (at : ℕ) (one other : Event) → slice_get first at ≡ Some one → slice_get second at ≡ Some other → bytes_eq one other ≡ false → FoundTo first second at → at ≡ front_of first second
found_differ first second at one other x y same found =
    let l = found_last first second at one other x y same in omega (arith, found, l)

pub found_all : (first second : Trace) (at : ℕ) → (length first ≤ at) ⊎ (length second ≤ at) → FoundTo first second at → at ≡ front_of first second
found_all first second at (inl past) found = let l = found_end_first first second at past in omega (arith, found, l)
found_all first second at (inr past) found = let l = found_end_second first second at past in omega (arith, found, l)

-- past the shorter of the two
pub past_one : (count at : ℕ) (first second : Trace) → count ≡ min (length first) (length second) → count ≤ at → (length first ≤ at) ⊎ (length second ≤ at)
past_one count at first second is past =
    elim (cases_lt (length first) (length second)) [
      | inl less ↦ inl (omega (arith, is, past, less))
      | inr more ↦ inr (omega (arith, is, past, more))
    ]
