-- The ranges of a summary are apart.
use Rattle.std.proofs.Common.{◌≡◌, ◌<◌, ◌+◌, ℕ, zero, suc, true, false, ◌&&◌, ◌||◌, nat_eq, nat_lt, List, length, Option, Some, None, slice_get, refl, ap, sym, ◌∙◌, subst, ◌⊎◌, inl, inr, eqb-true, eq-eqb, ltb-true, arith}
use Rattle.std.proofs.lemmas.Bool.{lt-ltb}
use Rattle.std.proofs.lemmas.Option.{slice_get_within}
use Rattle.cob_tree.specs.declared.program.Range as tree
use Rattle.program_points.specs.perform_ranges.Named.{is_before, pair_before, exit_before}
use Rattle.pending_returns.specs.declared.facts.RangeFacts.{RangeFacts}
use Rattle.procedure_split.proofs.plan_lemmas.Layers.{get-there}

-- by entry, or at the same entry by exit
pair-is : (a b c d : ℕ) → pair_before a b c d ≡ true → (a < c) ⊎ ((a ≡ c) × (b < d))
pair-is a b c d h = (elim (nat_lt a c) as (λ t. nat_lt a c ≡ t → (t || (nat_eq a c && nat_lt b d)) ≡ true → (a < c) ⊎ ((a ≡ c) × (b < d))) [
  | true ↦ λ s e. inl (ltb-true a c s)
  | false ↦ λ s e. (elim (nat_eq a c) as (λ t. nat_eq a c ≡ t → (t && nat_lt b d) ≡ true → (a < c) ⊎ ((a ≡ c) × (b < d))) [
    | true ↦ λ s e. inr (eqb-true a c s, ltb-true b d e)
    | false ↦ λ s e. absurd (let k : ⊥ = cc in k)
  ]) refl e
]) refl h

is-pair : (a b c d : ℕ) → (a < c) ⊎ ((a ≡ c) × (b < d)) → pair_before a b c d ≡ true
is-pair a b c d (inl less) = ap (λ t. t || (nat_eq a c && nat_lt b d)) (lt-ltb a c less)
is-pair a b c d (inr both) = (elim (nat_lt a c) as (λ t. (t || (nat_eq a c && nat_lt b d)) ≡ true) [
  | true ↦ refl
  | false ↦ ap (λ t. t && nat_lt b d) (eq-eqb a c both.0) ∙ lt-ltb b d both.1
])

chain : (a b c d e f : ℕ) → pair_before a b c d ≡ true → pair_before c d e f ≡ true → pair_before a b e f ≡ true
chain a b c d e f h k = is-pair a b e f (elim (pair-is a b c d h) [
  | inl l1 ↦ elim (pair-is c d e f k) [
    | inl l2 ↦ inl (omega (arith, l1, l2))
    | inr s2 ↦ inl (let same = s2.0 in omega (arith, l1, same))
  ]
  | inr s1 ↦ elim (pair-is c d e f k) [
    | inl l2 ↦ inl (let same = s1.0 in omega (arith, l2, same))
    | inr s2 ↦ inr (s1.0 ∙ s2.0, (let l1 = s1.1 in let l2 = s2.1 in omega (arith, l1, l2)))
  ]
])

through : (a : ℕ) (x : Option ℕ) (b : ℕ) (y : Option ℕ) (c : ℕ) (z : Option ℕ) → exit_before a x b y ≡ true → exit_before b y c z ≡ true → exit_before a x c z ≡ true
through a x b y c None h k = absurd (let wrong : ⊥ = cc in wrong)
through a x b None c (Some z) h k = absurd (let wrong : ⊥ = cc in wrong)
through a None b (Some y) c (Some z) h k = refl
through a (Some x) b (Some y) c (Some z) h k = chain a x b y c z h k

never-itself : (a : ℕ) (x : Option ℕ) → exit_before a x a x ≡ true → ⊥
never-itself a None h = (let wrong : ⊥ = cc in wrong)
never-itself a (Some x) h = elim (pair-is a x a x h) [ inl less ↦ omega (arith, less) | inr both ↦ (let less = both.1 in omega (arith, less)) ]

abbrev Rising : List RangeFacts → Type 0
Rising ranges = (number : ℕ) (facts next : RangeFacts) → slice_get ranges number ≡ Some facts → slice_get ranges (suc number) ≡ Some next → is_before facts.range next.range ≡ true

within : (ranges : List RangeFacts) (number : ℕ) (later : RangeFacts) → slice_get ranges (suc number) ≡ Some later → number < length ranges
within ranges number later e = (let lt : suc number < length ranges = slice_get_within ranges (suc number) later e in omega (arith, lt))

gap-of : (one other : ℕ) → one < other → (gap : ℕ) × (other ≡ suc (one + gap))
gap-of zero zero lt = absurd (omega (arith, lt))
gap-of zero (suc other) lt = (other, omega arith)
gap-of (suc one) zero lt = absurd (omega (arith, lt))
gap-of (suc one) (suc other) lt = (let g = gap-of one other (omega (arith, lt)) in (g.0, let same = g.1 in omega (arith, same)))

ordered : (one other : ℕ) → (one < other) ⊎ ((one ≡ other) ⊎ (other < one))
ordered zero zero = inr (inl refl)
ordered zero (suc other) = inl (omega arith)
ordered (suc one) zero = inr (inr (omega arith))
ordered (suc one) (suc other) = elim (ordered one other) [
  | inl less ↦ inl (omega (arith, less))
  | inr (inl equal) ↦ inr (inl (ap (λ n. suc n) equal))
  | inr (inr more) ↦ inr (inr (omega (arith, more)))
]

module _ (ranges : List RangeFacts) (rising : Rising ranges) where
  behind : (gap number : ℕ) (facts later : RangeFacts) → slice_get ranges number ≡ Some facts → slice_get ranges (suc (number + gap)) ≡ Some later → is_before facts.range later.range ≡ true
  behind zero number facts later e f = rising number facts later e (subst (λ n. slice_get ranges (suc n) ≡ Some later) (let k : number + 0 ≡ number = omega arith in k) f)
  behind (suc gap) number facts later e f =
      let far : slice_get ranges (suc (suc (number + gap))) ≡ Some later = subst (λ n. slice_get ranges (suc n) ≡ Some later) (let k : number + suc gap ≡ suc (number + gap) = omega arith in k) f in
      let mid = get-there ranges (suc (number + gap)) (within ranges (suc (number + gap)) later far) in
      through facts.range.entry facts.range.exit mid.0.range.entry mid.0.range.exit later.range.entry later.range.exit (behind gap number facts mid.0 e mid.1) (rising (suc (number + gap)) mid.0 later mid.1 far)

  less-apart : (one other : ℕ) (facts later : RangeFacts) → one < other → slice_get ranges one ≡ Some facts → slice_get ranges other ≡ Some later → facts.range ≡ later.range → ⊥
  less-apart one other facts later lt e f same =
      let g = gap-of one other lt in
      let before : is_before facts.range later.range ≡ true = behind g.0 one facts later e (subst (λ n. slice_get ranges n ≡ Some later) g.1 f) in
      never-itself facts.range.entry facts.range.exit (subst (λ (r : tree.Range). is_before facts.range r ≡ true) (sym same) before)

  -- one range has one number
  pub one-number : (one other : ℕ) (facts later : RangeFacts) → slice_get ranges one ≡ Some facts → slice_get ranges other ≡ Some later → facts.range ≡ later.range → one ≡ other
  one-number one other facts later e f same = elim (ordered one other) [
    | inl less ↦ absurd (less-apart one other facts later less e f same)
    | inr (inl equal) ↦ equal
    | inr (inr more) ↦ absurd (less-apart other one later facts more f e (sym same))
  ]
