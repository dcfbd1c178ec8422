-- Where a node's live leaves have several targets, its exits are two or more.
use Rattle.std.proofs.Common.{◌≡◌, ◌≤◌, ◌+◌, ℕ, Bool, true, false, if◌then◌else◌, ◌==◌, List, [], ◌∷◌, refl, ap, sym, ◌∙◌, subst, inl, inr, arith}
use Rattle.std.specs.Prelude.{◌⊎◌}
use Rattle.std.proofs.lemmas.Bool.Decides.{eqb_tells}
use Rattle.control_flow_theory.specs.semantics.Graph.{Label, Tree, tree, End, Pick, Jump, Return, Stop, Dead, Trees, no_more, more}
use Rattle.control_flow_theory.specs.lowering.WellFormed.{tree_count}
use Rattle.control_flow_theory.specs.graph_rules.Shapes.{Live, ToLabel, Back, Targets, NoTarget, Only, Several, same_live, with_live, both_targets, other_targets, other_arms_targets}
use Rattle.control_flow_theory.specs.graph_rules.Shapes as shapes
use Rattle.control_flow_theory.specs.structuring.Closes.{are_several}
use Rattle.control_flow_theory.specs.structuring.Dispatches.{either, end_returns, tree_returns, trees_return, length_of, bare}
use Rattle.control_flow_theory.specs.structuring.Targets.{is_below, inserted, end_targets, tree_targets, trees_targets, targets_of}

-- ---- lists of labels

abbrev Among : Label → List Label → Type 0
Among label [] = ⊥
Among label (first ∷ others) = (label ≡ first) ⊎ Among label others

some-among : (label : Label) (labels : List Label) → Among label labels → 1 ≤ length_of labels
some-among label [] among = absurd among
some-among label (first ∷ others) among = omega arith

two-among : (one other : Label) (labels : List Label) → (one ≡ other → ⊥) → Among one labels → Among other labels → 2 ≤ length_of labels
two-among one other [] differ a b = absurd a
two-among one other (first ∷ others) differ (inl a) (inl b) = absurd (differ (a ∙ sym b))
two-among one other (first ∷ others) differ (inl a) (inr b) = let some = some-among other others b in omega (arith, some)
two-among one other (first ∷ others) differ (inr a) b = let some = some-among one others a in omega (arith, some)

-- all that are there stay there
record Keeps (labels more_labels : List Label) : Type 0 where
  among : (label : Label) → Among label labels → Among label more_labels
  count : length_of labels ≤ length_of more_labels

keeps-all : (labels : List Label) → Keeps labels labels
keeps-all labels = record { among = λ label a. a; count = omega arith }

keeps-on : (one other third : List Label) → Keeps one other → Keeps other third → Keeps one third
keeps-on one other third k l =
    let first = k.count in
    let second = l.count in
    record { among = λ label a. l.among label (k.among label a); count = omega (arith, first, second) }

inserted-among : (label : Label) (labels : List Label) → Among label (inserted label labels)
inserted-among label [] = inl refl
inserted-among label (first ∷ others) = elim (eqb_tells label first) [
  | inl e ↦
      subst (λ t. Among label (if t then first ∷ others else (if is_below label first then label ∷ first ∷ others else first ∷ inserted label others))) (sym e.0) (inl e.1)
  | inr e ↦
      subst (λ t. Among label (if t then first ∷ others else (if is_below label first then label ∷ first ∷ others else first ∷ inserted label others))) (sym e.0)
      (elim (is_below label first) as (λ t. Among label (if t then label ∷ first ∷ others else first ∷ inserted label others)) [
        | true ↦ inl refl
        | false ↦ inr (inserted-among label others)
      ])
]

inserted-keeps : (label : Label) (labels : List Label) → Keeps labels (inserted label labels)
inserted-keeps label [] = record { among = λ one a. absurd a; count = omega arith }
inserted-keeps label (first ∷ others) =
    elim (label == first) as (λ t. Keeps (first ∷ others) (if t then first ∷ others
    else (if is_below label first then label ∷ first ∷ others else first ∷ inserted label others))) [
      | true ↦ keeps-all (first ∷ others)
      | false ↦ elim (is_below label first) as (λ t. Keeps (first ∷ others) (if t then label ∷ first ∷ others else first ∷ inserted label others)) [
        | true ↦ record { among = λ one a. inr a; count = omega arith }
        | false ↦
            let behind = inserted-keeps label others in
            let more_of = behind.count in
            record {
              among = λ one a. elim a [ inl is ↦ inl is | inr in_others ↦ inr (behind.among one in_others) ];
              count = omega (arith, more_of);
            }
      ]
    ]

-- ---- targets that are told by labels, and whether some leaf returns

abbrev one_if : Bool → ℕ
one_if true = 1
one_if false = 0

abbrev Has : Live → List Label → Bool → Type 0
Has (ToLabel to) labels returns = Among to labels
Has Back labels returns = returns ≡ true

abbrev AreTold : Targets → List Label → Bool → Type 0
AreTold NoTarget labels returns = Unit {0}
AreTold (Only live) labels returns = Has live labels returns
AreTold Several labels returns = 2 ≤ length_of labels + one_if returns

one-more : (returns : Bool) → returns ≡ true → one_if returns ≡ 1
one-more returns is = ap one_if is

two-lives : (one other : Live) (labels : List Label) (returns : Bool) → same_live one other ≡ false → Has one labels returns → Has other labels returns →
    2 ≤ length_of labels + one_if returns
two-lives (ToLabel one) (ToLabel other) labels returns differ a b = elim (eqb_tells one other) [
  | inl e ↦ absurd (let both : true ≡ false = sym e.0 ∙ differ in cc)
  | inr e ↦ let two = two-among one other labels e.1 a b in omega (arith, two)
]
two-lives (ToLabel one) Back labels returns differ a b =
    let some = some-among one labels a in
    let more_of = one-more returns b in omega (arith, some, more_of)
two-lives Back (ToLabel other) labels returns differ a b =
    let some = some-among other labels b in
    let more_of = one-more returns a in omega (arith, some, more_of)
two-lives Back Back labels returns differ a b = absurd (let both : true ≡ false = differ in cc)

with-told : (live : Live) (others : Targets) (labels : List Label) (returns : Bool) → Has live labels returns → AreTold others labels returns →
    AreTold (with_live live others) labels returns
with-told live NoTarget labels returns h g = h
with-told live (Only other) labels returns h g =
    elim (same_live live other) as (λ t. same_live live other ≡ t → AreTold (if t then Only other else Several) labels returns) [
      | true ↦ λ e. g
      | false ↦ λ e. two-lives live other labels returns e h g
    ] refl
with-told live Several labels returns h g = g

both-told : (one other : Targets) (labels : List Label) (returns : Bool) → AreTold one labels returns → AreTold other labels returns →
    AreTold (both_targets one other) labels returns
both-told NoTarget other labels returns h g = g
both-told (Only live) other labels returns h g = with-told live other labels returns h g
both-told Several other labels returns h g = h

-- they stay so where labels stay there, and returns do
more-returns : (one other : Bool) → (one ≡ true → other ≡ true) → one_if one ≤ one_if other
more-returns true other more_of = let is = one-more other (more_of refl) in omega (arith, is)
more-returns false other more_of = omega arith

told-on : (targets : Targets) (labels more_labels : List Label) (returns other : Bool) → Keeps labels more_labels → (returns ≡ true → other ≡ true) →
    AreTold targets labels returns → AreTold targets more_labels other
told-on NoTarget labels more_labels returns other k r h = tt
told-on (Only (ToLabel to)) labels more_labels returns other k r h = k.among to h
told-on (Only Back) labels more_labels returns other k r h = r h
told-on Several labels more_labels returns other k r h =
    let count = k.count in
    let more_of = more-returns returns other r in omega (arith, h, count, more_of)

either-first : (one other : Bool) → one ≡ true → either one other ≡ true
either-first one other is = ap (λ b. either b other) is

either-second : (one other : Bool) → other ≡ true → either one other ≡ true
either-second true other is = refl
either-second false other is = is

module _ (label : Label) where
  mutual
    end-keeps : (end : End) (found : List Label) → Keeps found (end_targets label end found)
    end-keeps (Pick picker arms) found = trees-keep arms found
    end-keeps (Jump to) found =
        elim (to == label) as (λ t. Keeps found (if t then found else inserted to found)) [ true ↦ keeps-all found | false ↦ inserted-keeps to found ]
    end-keeps Return found = keeps-all found
    end-keeps Stop found = keeps-all found
    end-keeps Dead found = keeps-all found

    tree-keeps : (t : Tree) (found : List Label) → Keeps found (tree_targets label t found)
    tree-keeps (tree body end) found = end-keeps end found

    trees-keep : (ts : Trees) (found : List Label) → Keeps found (trees_targets label ts found)
    trees-keep no_more found = keeps-all found
    trees-keep (more first others) found =
        keeps-on found (tree_targets label first found) (trees_targets label others (tree_targets label first found))
        (tree-keeps first found) (trees-keep others (tree_targets label first found))

  mutual
    end-told : (end : End) (found : List Label) → AreTold (shapes.end_targets label end) (end_targets label end found) (end_returns end)
    end-told (Pick picker arms) found = trees-told arms found
    end-told (Jump to) found =
        elim (to == label) as (λ t. AreTold (if t then NoTarget else Only (ToLabel to)) (if t then found else inserted to found) false) [
          | true ↦ tt
          | false ↦ inserted-among to found
        ]
    end-told Return found = refl
    end-told Stop found = tt
    end-told Dead found = tt

    tree-told : (t : Tree) (found : List Label) → AreTold (other_targets label t) (tree_targets label t found) (tree_returns t)
    tree-told (tree body end) found = end-told end found

    trees-told : (ts : Trees) (found : List Label) → AreTold (other_arms_targets label ts) (trees_targets label ts found) (trees_return ts)
    trees-told no_more found = tt
    trees-told (more first others) found =
        let here = tree_targets label first found in
        let all = trees_targets label others here in
        let one = tree_returns first in
        let other = trees_return others in
        both-told (other_targets label first) (other_arms_targets label others) all (either one other)
        (told-on (other_targets label first) here all one (either one other) (trees-keep others here) (either-first one other) (tree-told first found))
        (told-on (other_arms_targets label others) all all other (either one other) (keeps-all all) (either-second one other) (trees-told others here))

-- ---- exits

bare-count : (labels : List Label) (returns : Bool) → tree_count (bare labels returns) ≡ length_of labels + one_if returns
bare-count [] false = refl
bare-count [] true = refl
bare-count (first ∷ others) returns = let behind = bare-count others returns in omega (arith, behind)

several-told : (targets : Targets) (labels : List Label) (returns : Bool) → are_several targets ≡ true → AreTold targets labels returns →
    2 ≤ length_of labels + one_if returns
several-told NoTarget labels returns is h = absurd cc
several-told (Only live) labels returns is h = absurd cc
several-told Several labels returns is h = h

pub two-exits : (label : Label) (t : Tree) → are_several (other_targets label t) ≡ true → 2 ≤ tree_count (bare (targets_of label t) (tree_returns t))
two-exits label t is =
    let many = several-told (other_targets label t) (targets_of label t) (tree_returns t) is (tree-told label t []) in
    let count = bare-count (targets_of label t) (tree_returns t) in omega (arith, many, count)
