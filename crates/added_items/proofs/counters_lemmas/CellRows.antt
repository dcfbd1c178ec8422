-- The place of a cell among counters that rise.
use Rattle.std.proofs.Common.{◌≡◌, ℕ, zero, suc, ◌+◌, ◌<◌, ◌≤◌, if◌then◌else◌, List, [], ◌∷◌, length, get_or, Result, Ok, Err, ap, sym, ◌∙◌, subst, arith, inl, inr}
use Rattle.std.specs.Prelude.{MatchResult, Option, Some, None}
use Rattle.std.specs.List.Sorted.{IsBinarySearchResult}
use Rattle.std.specs.Ordering.{nat_cmp}
use Rattle.std.proofs.lemmas.Bool.Decides.{eqb_tells, leb_tells}
use Rattle.std.proofs.lemmas.List.Sorted.{searched}
use Rattle.control_flow_theory.specs.graph_rules.Reduced.{Node}
use Rattle.control_flow_theory.specs.main_theorem.Numbering.{place_among}
use Rattle.added_items.specs.counters.Counting.{head_cell, if_above, counter_at, counters_from, Rises}

-- each is at least the first number
risen : (least : ℕ) (cells : List ℕ) → Rises least cells → (at : ℕ) → at < length cells → least ≤ get_or cells at 0
risen least [] rises at within = absurd (omega (arith, within))
risen least (cell ∷ cells) rises zero within = rises.0
risen least (cell ∷ cells) rises (suc at) within =
    let k = risen (cell + 1) cells rises.1 at (omega (arith, within)) in
    let l = rises.0 in
    omega (arith, k, l)

-- so later ones are no smaller
sorted : (least : ℕ) (cells : List ℕ) → Rises least cells → (i j : ℕ) → i ≤ j → j < length cells → get_or cells i 0 ≤ get_or cells j 0
sorted least [] rises i j le within = absurd (omega (arith, within))
sorted least (cell ∷ cells) rises zero zero le within = omega arith
sorted least (cell ∷ cells) rises zero (suc j) le within =
    let k = risen (cell + 1) cells rises.1 j (omega (arith, within)) in omega (arith, k)
sorted least (cell ∷ cells) rises (suc i) zero le within = absurd (omega (arith, le))
sorted least (cell ∷ cells) rises (suc i) (suc j) le within = sorted (cell + 1) cells rises.1 i j (omega (arith, le)) (omega (arith, within))

placed-first : (first cell : ℕ) (others : List ℕ) → first ≡ cell → place_among (first ∷ others) cell ≡ 0
placed-first first cell others is = elim (eqb_tells first cell) [
  | inl e ↦ ap (λ b. if b then 0 else suc (place_among others cell)) e.0
  | inr e ↦ absurd (e.1 is)
]

placed-later : (first cell : ℕ) (others : List ℕ) → (first ≡ cell → ⊥) → place_among (first ∷ others) cell ≡ suc (place_among others cell)
placed-later first cell others isnt = elim (eqb_tells first cell) [
  | inl e ↦ absurd (isnt e.1)
  | inr e ↦ ap (λ b. if b then 0 else suc (place_among others cell)) e.0
]

-- the place of one that stands there
placed-at : (least : ℕ) (cells : List ℕ) → Rises least cells → (at cell : ℕ) → at < length cells → get_or cells at 0 ≡ cell → place_among cells cell ≡ at
placed-at least [] rises at cell within is = absurd (omega (arith, within))
placed-at least (first ∷ others) rises zero cell within is = placed-first first cell others is
placed-at least (first ∷ others) rises (suc at) cell within is =
    let less : at < length others = omega (arith, within) in
    let k = risen (first + 1) others rises.1 at less in
    placed-later first cell others (λ e. omega (arith, k, is, e))
    ∙ ap suc (placed-at (first + 1) others rises.1 at cell less is)

-- and of one that doesn't
placed-behind : (cells : List ℕ) (cell : ℕ) → ((at : ℕ) → at < length cells → get_or cells at 0 ≡ cell → ⊥) → place_among cells cell ≡ length cells + cell
placed-behind [] cell none = omega arith
placed-behind (first ∷ others) cell none =
    let later : place_among (first ∷ others) cell ≡ suc (place_among others cell) =
    placed-later first cell others (λ e. none zero (omega arith) e) in
    let rest : place_among others cell ≡ length others + cell =
    placed-behind others cell (λ at within e. none (suc at) (omega (arith, within)) e) in
    omega (arith, later, rest)

-- what a search says
pub found-place : (cells : List ℕ) (cell : ℕ) (r : Result ℕ ℕ) → Rises 0 cells → IsBinarySearchResult (λ y. nat_cmp y cell) cells r →
    MatchResult r (λ at. at ≡ place_among cells cell) (λ at. length cells + cell ≡ place_among cells cell)
found-place cells cell (Ok at) rises h =
    let k = searched cells cell (Ok at) h (sorted 0 cells rises) in
    sym (placed-at 0 cells rises at cell k.0 k.1)
found-place cells cell (Err at) rises h =
    let k = searched cells cell (Err at) h (sorted 0 cells rises) in
    sym (placed-behind cells cell (λ i within is. elim (leb_tells at i) [
      | inl ge ↦ (let m = k.2 i ge.1 within in omega (arith, m, is))
      | inr lt ↦ (let m = k.1 i lt.1 in omega (arith, m, is))
    ]))

-- counters rise
abbrev counted : ℕ → List Node → Option ℕ → List ℕ
counted least nodes found = elim found [
  | None ↦ counters_from least nodes
  | Some cell ↦ cell ∷ counters_from (cell + 1) nodes
]

pub counters-rise : (least : ℕ) (nodes : List Node) → Rises least (counters_from least nodes)
counters-rise least [] = tt
counters-rise least (node ∷ nodes) = elim (head_cell node) as (λ o. Rises least (counted least nodes (if_above least o))) [
  | None ↦ counters-rise least nodes
  | Some cell ↦ elim (leb_tells least cell) [
    | inl h ↦ subst (λ b. Rises least (counted least nodes (if b then Some cell else None))) (sym h.0) (h.1, counters-rise (cell + 1) nodes)
    | inr h ↦ subst (λ b. Rises least (counted least nodes (if b then Some cell else None))) (sym h.0) (counters-rise least nodes)
  ]
]

-- a node more
pub counters-some : (least cell : ℕ) (node : Node) (nodes : List Node) → Some cell ≡ counter_at least node →
    counters_from least (node ∷ nodes) ≡ cell ∷ counters_from (cell + 1) nodes
counters-some least cell node nodes is = ap (counted least nodes) (sym is)

pub counters-none : (least : ℕ) (node : Node) (nodes : List Node) → None ≡ counter_at least node →
    counters_from least (node ∷ nodes) ≡ counters_from least nodes
counters-none least node nodes is = ap (counted least nodes) (sym is)
