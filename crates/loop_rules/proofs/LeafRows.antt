-- A tree as a loop has no more leaves that jump to a label.
use Rattle.std.proofs.Common.{◌≡◌, ℕ, ◌≤◌, Option, Some, None, Result, Ok, Err, refl, ap, arith}
use Rattle.control_flow_theory.specs.semantics.Graph.{Label, Tree}
use Rattle.control_flow_theory.specs.graph_rules.Shapes.{Targets, NoTarget, Only, Several, Live, leaves_to, other_targets}
use Rattle.control_flow_theory.specs.graph_rules.Reduced.{Form}
use Rattle.tree_rules.proofs.LeafRows.{weight, other_weight}
use Rattle.cob_base.specs.declared.memory.NoMemory.{NoMemory}
use Rattle.branch_tree.specs.declared.graph.Added as code
use Rattle.loop_rules.specs.Forms.{form_for}
use Rattle.loop_rules.specs.Nodes.{Closes, closed, closed_by, closed_form}

module _ (l label : Label) (cell : ℕ) (t : Tree) where
  -- behind the loop stands a leaf to its one target
  form_leaves : (live : Live) (form : Option Form) →
      leaves_to l (closed_form label cell t (Only live) form).node ≤ weight l (Only live)
  form_leaves live None = omega arith
  form_leaves live (Some form) = omega arith

  by_leaves : (targets : Targets) → other_targets label t ≡ targets →
      leaves_to l (closed_by label cell t targets).node ≤ leaves_to l t
  by_leaves NoTarget is = omega arith
  by_leaves (Only live) is =
      let a = form_leaves live (form_for label (Only live) t) in
      let b = ap (weight l) is in
      let c = other_weight l label t in
      omega (arith, a, b, c)
  by_leaves Several is = omega arith

  pub closed_leaves : leaves_to l (closed label cell t).node ≤ leaves_to l t
  closed_leaves = by_leaves (other_targets label t) refl

-- also where memory ends
pub closes_leaves : (result : Result (Option code.Added) NoMemory) (l label : Label) (cell : ℕ) (old new : Tree) →
    Closes result (closed label cell old) old new → leaves_to l new ≤ leaves_to l old
closes_leaves (Ok kind) l label cell old new h =
    let e = ap (λ c. leaves_to l c.node) h in
    let less = closed_leaves l label cell old in
    omega (arith, e, less)
closes_leaves (Err fault) l label cell old new h = let e = ap (leaves_to l) h in omega (arith, e)
