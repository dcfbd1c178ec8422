-- The nodes of a range that are kept, beside those at sorted labels.
use Rattle.std.proofs.Common.{◌≡◌, ℕ, zero, suc, ◌+◌, ◌≤◌, ◌<◌, ◌==◌, ◌⊎◌, inl, inr, Bool, true, false, if◌then◌else◌, List, [], ◌∷◌, get_or, length, map, Some, slice_get, refl, ap, ap₂, sym, ◌∙◌, subst, arith, eqb}
use Rattle.std.specs.List.{Contains, IsDistinct, AllByRecursion}
use Rattle.std.specs.List.Sorted.{IsNonDecreasingBy, IsPermutation}
use Rattle.std.proofs.lemmas.Bool.Decides.{eqb_tells}
use Rattle.std.proofs.lemmas.List.Sorted.{Contains-permutation, IsPermutation-sym}
use Rattle.std.proofs.lemmas.Map.Keys.{IsDistinct-head, IsDistinct-tail, IsDistinct-IsPermutation}
use Rattle.std.proofs.lemmas.Option.{slice_get_within, slice_get-get_or}
use Rattle.control_flow_theory.specs.semantics.Graph.{Label, Tree}
use Rattle.control_flow_theory.specs.lowering.Lower.{Node}
use Rattle.control_flow_theory.specs.lowering.Lowered.{Within}
use Rattle.control_flow_theory.specs.lowering.Reached.{kept_nodes}
use Rattle.control_flow_theory.specs.lowering.WellFormed.{IsLabelOf}
use Rattle.pending_returns.specs.levels.Reach.{Holds, IsMarked}
use Rattle.pending_returns.proofs.levels_lemmas.Searching.{distinct}
use Rattle.flow_graph.specs.Lowered.{node_by, node_of}
use Rattle.flow_graph.proofs.LabelRows.{label_above}

abbrev pub IsIn : List ℕ → ℕ → Type 0
IsIn [] label = ⊥
IsIn (x ∷ xs) label = (x ≡ label) ⊎ IsIn xs label

abbrev pub is_in : List ℕ → ℕ → Bool
is_in [] label = false
is_in (x ∷ xs) label = if x == label then true else is_in xs label

pub in_is : (xs : List ℕ) (label : ℕ) → IsIn xs label → is_in xs label ≡ true
in_is [] label h = absurd h
in_is (x ∷ xs) label h = elim (eqb_tells x label) [
  | inl e ↦ ap (λ b. if b then true else is_in xs label) e.0
  | inr e ↦ ap (λ b. if b then true else is_in xs label) e.0 ∙ (elim h [ inl same ↦ absurd (e.1 same) | inr later ↦ in_is xs label later ])
]

pub is_there : (xs : List ℕ) (label : ℕ) → is_in xs label ≡ true → IsIn xs label
is_there [] label h = absurd (let k : ⊥ = cc in k)
is_there (x ∷ xs) label h = elim (eqb_tells x label) [
  | inl e ↦ inl e.1
  | inr e ↦ inr (is_there xs label (sym (ap (λ b. if b then true else is_in xs label) e.0) ∙ h))
]

pub in_holds : (xs : List ℕ) (label : ℕ) → IsIn xs label → Holds xs label
in_holds [] label h = absurd h
in_holds (x ∷ xs) label (inl same) = (0, ap (λ (n : ℕ). Some n) same)
in_holds (x ∷ xs) label (inr later) = let h = in_holds xs label later in (suc h.0, h.1)

pub get_in : (xs : List ℕ) (at label : ℕ) → slice_get xs at ≡ Some label → IsIn xs label
get_in [] at label e = absurd (let k : ⊥ = cc in k)
get_in (x ∷ xs) zero label e = inl (let k : x ≡ label = cc in k)
get_in (x ∷ xs) (suc at) label e = inr (get_in xs at label e)

-- Rising labels.

abbrev pub Rising : ℕ → List ℕ → Type 0
Rising low [] = Unit {0}
Rising low (x ∷ xs) = (low ≤ x) × Rising (x + 1) xs

in_above : (low : ℕ) (xs : List ℕ) (label : ℕ) → Rising low xs → IsIn xs label → low ≤ label
in_above low [] label h there = absurd there
in_above low (x ∷ xs) label h (inl same) = omega (arith, h.0, same)
in_above low (x ∷ xs) label h (inr later) = omega (arith, h.0, in_above (x + 1) xs label h.1 later)

raised : (low new : ℕ) (xs : List ℕ) → Rising low xs → ((label : ℕ) → IsIn xs label → new ≤ label) → Rising new xs
raised low new [] h above = tt
raised low new (x ∷ xs) h above = (above x (inl refl), h.1)

-- each of these nodes is found
abbrev pub Found : (Label → Tree) → List Node → Type 0
Found trees [] = Unit {0}
Found trees (x ∷ xs) = (trees x.key ≡ x.tree) × Found trees xs

module _ (keep : Label → Bool) (trees : Label → Tree) where
  first : (low high : ℕ) (x : Node) (xs : List Node) (labels : List ℕ) → Within low high (x ∷ xs) → Rising low labels → Found trees (x ∷ xs) →
      ((label : ℕ) → IsIn labels label → IsLabelOf (x ∷ xs) label) → ((label : ℕ) → IsIn labels label → keep label ≡ true) →
      ((label : ℕ) → IsLabelOf (x ∷ xs) label → keep label ≡ true → IsIn labels label) → keep x.key ≡ true →
      ((ls : List ℕ) → Rising (x.key + 1) ls → ((label : ℕ) → IsIn ls label → IsLabelOf xs label) → ((label : ℕ) → IsIn ls label → keep label ≡ true) → ((label : ℕ) → IsLabelOf xs label → keep label ≡ true → IsIn ls label) →
      map (node_by trees) ls ≡ map node_of (kept_nodes keep xs)) →
      map (node_by trees) labels ≡ map node_of (x ∷ kept_nodes keep xs)
  first low high x xs [] within rising found known on all_in is others = absurd (all_in x.key (inl refl) is)
  first low high x xs (l ∷ ls) within rising found known on all_in is others =
      let same : l ≡ x.key = elim (all_in x.key (inl refl) is) [
        | inl e ↦ e
        | inr behind ↦ elim (known l (inl refl)) [
          | inl e ↦ sym e
          | inr after ↦ absurd (omega (arith, in_above (l + 1) ls x.key rising.1 behind, label_above (x.key + 1) high xs l within.1 after))
        ]
      ] in
      let rest : map (node_by trees) ls ≡ map node_of (kept_nodes keep xs) =
      others ls (subst (λ n. Rising (n + 1) ls) same rising.1)
      (λ label there. elim (known label (inr there)) [
        | inl e ↦ absurd (omega (arith, in_above (l + 1) ls label rising.1 there, same, e))
        | inr behind ↦ behind
      ])
      (λ label there. on label (inr there))
      (λ label l_is k. elim (all_in label (inr l_is) k) [
        | inl e ↦ absurd (omega (arith, e, same, label_above (x.key + 1) high xs label within.1 l_is))
        | inr behind ↦ behind
      ]) in
      ap₂ (λ n ns. n ∷ ns) (ap (node_by trees) same ∙ ap (λ t. node_of (record { key = x.key; tree = t })) found.0) rest

  pub same_nodes : (low high : ℕ) (all : List Node) (labels : List ℕ) → Within low high all → Rising low labels → Found trees all →
      ((label : ℕ) → IsIn labels label → IsLabelOf all label) → ((label : ℕ) → IsIn labels label → keep label ≡ true) →
      ((label : ℕ) → IsLabelOf all label → keep label ≡ true → IsIn labels label) →
      map (node_by trees) labels ≡ map node_of (kept_nodes keep all)
  same_nodes low high [] [] within rising found known on all_in = refl
  same_nodes low high [] (l ∷ ls) within rising found known on all_in = absurd (known l (inl refl))
  same_nodes low high (x ∷ xs) labels within rising found known on all_in =
      elim (keep x.key) as (λ b. keep x.key ≡ b → map (node_by trees) labels ≡ map node_of (if b then x ∷ kept_nodes keep xs else kept_nodes keep xs)) [
        | true ↦ λ is. first low high x xs labels within rising found known on all_in is (λ ls r k o a. same_nodes (x.key + 1) high xs ls within.1 r found.1 k o a)
        | false ↦ λ is.
            let later : (label : ℕ) → IsIn labels label → IsLabelOf xs label = λ label there. elim (known label there) [
              | inl same ↦ absurd (let both : true ≡ false = sym (on label there) ∙ ap keep (sym same) ∙ is in let k : ⊥ = cc in k)
              | inr behind ↦ behind
            ] in
            same_nodes (x.key + 1) high xs labels within.1 (raised low (x.key + 1) labels rising (λ label there. label_above (x.key + 1) high xs label within.1 (later label there))) found.1 later on (λ label l k. all_in label (inr l) k)
      ] refl

-- Sorted labels of which none stands twice.

flips : (x y : ℕ) → eqb x y ≡ eqb y x
flips x y = elim (eqb_tells x y) [
  | inl a ↦ elim (eqb_tells y x) [ inl b ↦ a.0 ∙ sym b.0 | inr b ↦ absurd (b.1 (sym a.1)) ]
  | inr a ↦ elim (eqb_tells y x) [ inl b ↦ absurd (a.1 (sym b.1)) | inr b ↦ a.0 ∙ sym b.0 ]
]

apart_in : (x : ℕ) (xs : List ℕ) (y : ℕ) → AllByRecursion (λ z. eqb x z ≡ false) xs → IsIn xs y → x ≡ y → ⊥
apart_in x [] y apart there same = there
apart_in x (z ∷ xs) y apart (inl is) same = elim (eqb_tells x z) [
  | inl e ↦ (let both : true ≡ false = sym e.0 ∙ apart.0 in let k : ⊥ = cc in k)
  | inr e ↦ e.1 (same ∙ sym is)
]
apart_in x (z ∷ xs) y apart (inr later) same = apart_in x xs y apart.1 later same

rising_of : (low : ℕ) (xs : List ℕ) → IsDistinct eqb xs → IsNonDecreasingBy (λ (n : ℕ). n) xs → ((label : ℕ) → IsIn xs label → low ≤ label) → Rising low xs
rising_of low [] apart up above = tt
rising_of low (x ∷ xs) apart up above = (
  above x (inl refl),
  rising_of (x + 1) xs (IsDistinct-tail eqb x xs apart) (λ i j d le lt. up (suc i) (suc j) d (omega (arith, le)) (omega (arith, lt)))
      (λ label there.
      let h = in_holds xs label there in
      let lt : h.0 < length xs = slice_get_within xs h.0 label h.1 in
      let both : Some (get_or xs h.0 x) ≡ Some label = sym (slice_get-get_or xs h.0 x lt) ∙ h.1 in
      let at : get_or xs h.0 x ≡ label = cc in
      let le : x ≤ get_or xs h.0 x = up 0 (suc h.0) x (omega arith) (omega (arith, lt)) in
      let ne : x ≡ label → ⊥ = apart_in x xs label (IsDistinct-head eqb x xs apart) there in
      omega (arith, le, at, ne)),
)

holds_contains : (xs : List ℕ) (label : ℕ) → Holds xs label → Contains xs label
holds_contains xs label h =
    let lt : h.0 < length xs = slice_get_within xs h.0 label h.1 in
    let both : Some (get_or xs h.0 label) ≡ Some label = sym (slice_get-get_or xs h.0 label lt) ∙ h.1 in
    let same : get_or xs h.0 label ≡ label = cc in
    (h.0, lt, same)

contains_holds : (xs : List ℕ) (label : ℕ) → Contains xs label → Holds xs label
contains_holds xs label c = (c.0, slice_get-get_or xs c.0 label c.1 ∙ ap (λ (n : ℕ). Some n) c.2)

module _ (places : List ℕ) (marks : List Bool) (marked : IsMarked places marks) (sorted : List ℕ) (moved : IsPermutation places sorted) where
  pub sorted_rising : IsNonDecreasingBy (λ (n : ℕ). n) sorted → Rising 0 sorted
  sorted_rising up =
      rising_of 0 sorted (IsDistinct-IsPermutation eqb flips places sorted moved (distinct places marked.once)) up (λ label there. omega arith)

  pub to_sorted : (label : ℕ) → Holds places label → IsIn sorted label
  to_sorted label h =
      let k = contains_holds sorted label (Contains-permutation places sorted label moved (holds_contains places label h)) in
      get_in sorted k.0 label k.1

  pub from_sorted : (label : ℕ) → IsIn sorted label → Holds places label
  from_sorted label h = contains_holds places label (Contains-permutation sorted places label (IsPermutation-sym places sorted moved) (holds_contains sorted label (in_holds sorted label h)))
