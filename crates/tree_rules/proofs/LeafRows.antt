-- How many leaves jump to a label after Join and after Inline.
use Rattle.std.proofs.Common.{◌≡◌, ℕ, ◌+◌, ◌*◌, ◌≤◌, Bool, true, false, if◌then◌else◌, ◌==◌, refl, ap, arith}
use Rattle.std.proofs.lemmas.Bool.{eqb-true}
use Rattle.control_flow_theory.specs.language.Language.{Stmts, Picker}
use Rattle.control_flow_theory.specs.semantics.Graph.{Label, Tree, tree, End, Pick, Jump, Return, Stop, Dead, Trees, no_more, more, body_of, end_of}
use Rattle.control_flow_theory.specs.graph_rules.Shapes.{followed, Targets, NoTarget, Only, Several, ToLabel, end_at, same_live, both_targets, leaf_targets, arms_targets, join_by, joined, join_end, joined_arms, inlined, inline_end, inlined_arms, leaves_to, end_leaves_to, arms_leaves_to, other_targets, end_targets, other_arms_targets}

pub end_leaves : (l : Label) (t : Tree) → leaves_to l t ≡ end_leaves_to l (end_of t)
end_leaves l (tree body end) = refl

-- The leaves that one target stands for.
module _ (l : Label) where
  abbrev pub weight : Targets → ℕ
  weight NoTarget = 0
  weight (Only live) = end_leaves_to l (end_at live)
  weight Several = 0

  both_weight : (one two : Targets) → weight (both_targets one two) ≤ weight one + weight two
  both_weight NoTarget two = omega arith
  both_weight (Only a) NoTarget = omega arith
  both_weight (Only a) (Only b) =
      elim (same_live a b)
      as (λ z. weight (if z then Only b else Several) ≤ weight (Only a) + weight (Only b)) [
        | true ↦ omega arith
        | false ↦ omega arith
      ]
  both_weight (Only a) Several = omega arith
  both_weight Several two = omega arith

  leaf_weight : (end : End) → weight (leaf_targets end) ≤ end_leaves_to l end
  leaf_weight (Pick picker arms) = omega arith
  leaf_weight (Jump to) = omega arith
  leaf_weight Return = omega arith
  leaf_weight Stop = omega arith
  leaf_weight Dead = omega arith

  arms_weight : (arms : Trees) → weight (arms_targets arms) ≤ arms_leaves_to l arms
  arms_weight no_more = omega arith
  arms_weight (more first others) =
      let a = both_weight (leaf_targets (end_of first)) (arms_targets others) in
      let b = leaf_weight (end_of first) in
      let c = arms_weight others in
      let d = end_leaves l first in
      omega (arith, a, b, c, d)

  by_leaves : (body : Stmts) (picker : Picker) (arms : Trees) (targets : Targets) →
      arms_targets arms ≡ targets →
      leaves_to l (join_by body picker arms targets) ≤ arms_leaves_to l arms
  by_leaves body picker arms NoTarget is = omega arith
  by_leaves body picker arms (Only live) is =
      let a = arms_weight arms in let b = ap weight is in omega (arith, a, b)
  by_leaves body picker arms Several is = omega arith

  -- Join makes no jump.
  mutual
    pub joined_leaves : (t : Tree) → leaves_to l (joined t) ≤ leaves_to l t
    joined_leaves (tree body end) = joined_end_leaves body end

    joined_end_leaves : (body : Stmts) (end : End) →
        leaves_to l (join_end body end) ≤ end_leaves_to l end
    joined_end_leaves body (Pick picker arms) =
        let a = by_leaves body picker (joined_arms arms) (arms_targets (joined_arms arms)) refl in
        let b = joined_arms_leaves arms in
        omega (arith, a, b)
    joined_end_leaves body (Jump to) = omega arith
    joined_end_leaves body Return = omega arith
    joined_end_leaves body Stop = omega arith
    joined_end_leaves body Dead = omega arith

    joined_arms_leaves : (arms : Trees) → arms_leaves_to l (joined_arms arms) ≤ arms_leaves_to l arms
    joined_arms_leaves no_more = omega arith
    joined_arms_leaves (more first others) =
        let a = joined_leaves first in let b = joined_arms_leaves others in omega (arith, a, b)

  -- The one target of the leaves that don't jump to a label is that of a leaf.
  module _ (label : Label) where
    jump_weight : (to : Label) → weight (end_targets label (Jump to)) ≤ end_leaves_to l (Jump to)
    jump_weight to =
        elim (to == label)
        as (λ z. weight (if z then NoTarget else Only (ToLabel to)) ≤ end_leaves_to l (Jump to)) [
          | true ↦ omega arith
          | false ↦ omega arith
        ]

    mutual
      pub other_weight : (t : Tree) → weight (other_targets label t) ≤ leaves_to l t
      other_weight (tree body end) = other_end_weight end

      other_end_weight : (end : End) → weight (end_targets label end) ≤ end_leaves_to l end
      other_end_weight (Pick picker arms) = other_arms_weight arms
      other_end_weight (Jump to) = jump_weight to
      other_end_weight Return = omega arith
      other_end_weight Stop = omega arith
      other_end_weight Dead = omega arith

      other_arms_weight : (arms : Trees) →
          weight (other_arms_targets label arms) ≤ arms_leaves_to l arms
      other_arms_weight no_more = omega arith
      other_arms_weight (more first others) =
          let a = both_weight (other_targets label first) (other_arms_targets label others) in
          let b = other_weight first in
          let c = other_arms_weight others in
          omega (arith, a, b, c)

-- Inline takes each jump to the label, and brings the leaves of the tree for it.
module _ (l label : Label) (by : Tree) where
  -- whether a jump to the label is one to the other
  abbrev pub own : ℕ
  own = if label == l then 1 else 0

  abbrev brought : ℕ
  brought = leaves_to l by

  jump_by : (body : Stmts) (to : Label) (same : Bool) → (same ≡ true → to ≡ label) →
      leaves_to l (if same then tree (followed body (body_of by)) (end_of by) else tree body (Jump to))
      + (if same then 1 else 0) * own
      ≡ end_leaves_to l (Jump to) + (if same then 1 else 0) * brought
  jump_by body to true is =
      let a = end_leaves l by in
      let b : (if to == l then 1 else 0) ≡ own = ap (λ k. if k == l then 1 else 0) (is refl) in
      omega (arith, a, b)
  jump_by body to false is = omega arith

  jump_leaves : (body : Stmts) (to : Label) →
      leaves_to l (inline_end label by body (Jump to)) + end_leaves_to label (Jump to) * own
      ≡ end_leaves_to l (Jump to) + end_leaves_to label (Jump to) * brought
  jump_leaves body to = jump_by body to (to == label) (eqb-true to label)

  mutual
    inlined_each : (t : Tree) →
        leaves_to l (inlined label by t) + leaves_to label t * own
        ≡ leaves_to l t + leaves_to label t * brought
    inlined_each (tree body end) = inlined_end_each body end

    inlined_end_each : (body : Stmts) (end : End) →
        leaves_to l (inline_end label by body end) + end_leaves_to label end * own
        ≡ end_leaves_to l end + end_leaves_to label end * brought
    inlined_end_each body (Pick picker arms) = inlined_arms_each arms
    inlined_end_each body (Jump to) = jump_leaves body to
    inlined_end_each body Return = omega arith
    inlined_end_each body Stop = omega arith
    inlined_end_each body Dead = omega arith

    inlined_arms_each : (arms : Trees) →
        arms_leaves_to l (inlined_arms label by arms) + arms_leaves_to label arms * own
        ≡ arms_leaves_to l arms + arms_leaves_to label arms * brought
    inlined_arms_each no_more = omega arith
    inlined_arms_each (more first others) =
        let a = inlined_each first in let b = inlined_arms_each others in omega (arith, a, b)

  -- in the place of the one jump
  pub inlined_leaves : (t : Tree) → leaves_to label t ≡ 1 →
      leaves_to l (inlined label by t) + own ≡ leaves_to l t + leaves_to l by
  inlined_leaves t one =
      let each = inlined_each t in
      let a = ap (λ n. n * own) one in
      let b = ap (λ n. n * brought) one in
      omega (arith, each, a, b)
