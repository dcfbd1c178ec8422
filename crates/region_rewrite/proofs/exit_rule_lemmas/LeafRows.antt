-- A tree as a loop with its exits has no more leaves that jump to a label.
use Rattle.std.proofs.Common.{◌≡◌, ℕ, ◌+◌, ◌≤◌, Bool, true, false, if◌then◌else◌, ◌==◌, List, [], ◌∷◌, Result, Ok, Err, refl, ap, arith}
use Rattle.std.specs.Prelude.{OnOk, OnErr}
use Rattle.cob_base.specs.declared.memory.NoMemory.{NoMemory}
use Rattle.control_flow_theory.specs.semantics.Graph.{Label, Tree, tree, End, Pick, Jump, Return, Stop, Dead, Trees, no_more, more}
use Rattle.control_flow_theory.specs.structuring.Closes.{none_left_out}
use Rattle.control_flow_theory.specs.structuring.Dispatches.{bare, tree_returns}
use Rattle.control_flow_theory.specs.structuring.Targets.{inserted, is_below, end_targets, tree_targets, trees_targets, targets_of, with_exits}
use Rattle.control_flow_theory.specs.graph_rules.Shapes.{leaves_to, end_leaves_to, arms_leaves_to}

module _ (l : Label) where
  -- the jumps of the label itself
  abbrev jump : Label → ℕ
  jump to = end_leaves_to l (Jump to)

  abbrev count : List Label → ℕ
  count [] = 0
  count (first ∷ others) = jump first + count others

  bare_leaves : (targets : List Label) (returns : Bool) →
      arms_leaves_to l (bare targets returns) ≡ count targets
  bare_leaves [] true = omega arith
  bare_leaves [] false = refl
  bare_leaves (first ∷ others) returns = ap (λ n. jump first + n) (bare_leaves others returns)

  -- a label that stands there isn't put among them again
  inserted_by : (to first : Label) (others rest : List Label) (same below : Bool) →
      count rest ≤ count others + jump to →
      count (if same then first ∷ others else (if below then to ∷ first ∷ others else first ∷ rest))
      ≤ count (first ∷ others) + jump to
  inserted_by to first others rest true below h = omega arith
  inserted_by to first others rest false true h = omega arith
  inserted_by to first others rest false false h = omega (arith, h)

  inserted_count : (to : Label) (found : List Label) →
      count (inserted to found) ≤ count found + jump to
  inserted_count to [] = omega arith
  inserted_count to (first ∷ others) =
      inserted_by to first others (inserted to others) (to == first) (is_below to first)
      (inserted_count to others)

  module _ (label : Label) where
    jump_count : (to : Label) (found : List Label) (same : Bool) →
        count (if same then found else inserted to found) ≤ count found + jump to
    jump_count to found true = omega arith
    jump_count to found false = inserted_count to found

    mutual
      end_count : (end : End) (found : List Label) →
          count (end_targets label end found) ≤ count found + end_leaves_to l end
      end_count (Pick picker arms) found = arms_count arms found
      end_count (Jump to) found = jump_count to found (to == label)
      end_count Return found = omega arith
      end_count Stop found = omega arith
      end_count Dead found = omega arith

      tree_count : (t : Tree) (found : List Label) →
          count (tree_targets label t found) ≤ count found + leaves_to l t
      tree_count (tree body end) found = end_count end found

      arms_count : (arms : Trees) (found : List Label) →
          count (trees_targets label arms found) ≤ count found + arms_leaves_to l arms
      arms_count no_more found = omega arith
      arms_count (more first others) found =
          let a = tree_count first found in
          let b = arms_count others (tree_targets label first found) in
          omega (arith, a, b)

    pub exits_leaves : (cell : ℕ) (t : Tree) →
        leaves_to l (with_exits none_left_out cell label t) ≤ leaves_to l t
    exits_leaves cell t =
        let a = bare_leaves (targets_of label t) (tree_returns t) in
        let b = tree_count t [] in
        omega (arith, a, b)

-- also where memory ends
pub closes_leaves : (result : Result (Unit {0}) NoMemory) (l label : Label) (cell : ℕ) (old new : Tree) →
    OnOk result (new ≡ with_exits none_left_out cell label old) → OnErr result (new ≡ old) →
    leaves_to l new ≤ leaves_to l old
closes_leaves (Ok done) l label cell old new ok err =
    let e = ap (leaves_to l) ok in
    let less = exits_leaves l label cell old in
    omega (arith, e, less)
closes_leaves (Err fault) l label cell old new ok err =
    let e = ap (leaves_to l) err in omega (arith, e)
