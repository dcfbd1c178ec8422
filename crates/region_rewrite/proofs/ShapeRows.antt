-- The one node that is left.
use Rattle.std.proofs.Common.{◌≡◌, ◌<◌, ◌≤◌, ◌-◌, ◌^◌, ◌++◌, ℕ, min, List, [], ◌∷◌, length, Result, Ok, Err, ap, sym, ◌∙◌, subst, arith}
use Rattle.std.specs.Prelude.{IfOk}
use Rattle.std.proofs.lemmas.List.{length-map}
use Rattle.cob_tree.specs.declared.fault.SplitFault.{SplitFault}
use Rattle.control_flow_theory.specs.semantics.Graph.{tree, body_of, end_of}
use Rattle.control_flow_theory.specs.graph_rules.Reduced.{Node, Graph}
use Rattle.control_flow_theory.specs.structuring.Closes.{IsClosed, closed_graph}
use Rattle.control_flow_theory.specs.structuring.Laws.{PlainEnd}
use Rattle.control_flow_theory.proofs.structuring_lemmas.closing.ClosedEnding.{closed-ends}
use Rattle.branch_tree.specs.declared.graph.Node as code
use Rattle.branch_tree.specs.Graph.{seen_node, seen_nodes}
use Rattle.branch_tree.specs.Tree.{seen_tree, seen_body, seen_end}
use Rattle.branch_tree.proofs.TreeRows.{seen_tree_is}
use Rattle.region_rewrite.specs.written_nesting.Nesting.{nesting}
use Rattle.region_rewrite.specs.declared.shaping.Shaped.{Shaped}
use Rattle.cob_base.specs.Limit.{max_nesting}
use Rattle.region_rewrite.specs.Shaping.{first_tree, Shapes}

-- the last of one node is that node
pub one_is : (nodes rest : List code.Node) (node : code.Node) → length nodes ≡ 1 → nodes ≡ rest ++ node ∷ [] →
    first_tree (seen_nodes nodes) ≡ seen_tree node.tree
one_is nodes [] node one is = ap (λ l. first_tree (seen_nodes l)) is
one_is nodes (first ∷ []) node one is =
    let two : length nodes ≡ 2 = ap length is in let no : ⊥ = omega (arith, one, two) in absurd no
one_is nodes (first ∷ next ∷ rest) node one is =
    let more : length nodes ≡ length (first ∷ next ∷ (rest ++ node ∷ [])) = ap length is in
    let no : ⊥ = omega (arith, one, more) in absurd no

pub too_deep : (n r : ℕ) → r ≡ min n (2 ^ 32 - 1) → 500 < r → max_nesting < n
too_deep n r is deep = omega (arith, is, deep)

pub not_deep : (n r : ℕ) → r ≡ min n (2 ^ 32 - 1) → r ≤ 500 → n ≤ max_nesting
not_deep n r is few = omega (arith, is, few)

-- that node's tree
module _ (nodes rest : List code.Node) (node : code.Node) (one : length nodes ≡ 1) (is : nodes ≡ rest ++ node ∷ []) where
  pub tree_left : first_tree (seen_nodes nodes) ≡ tree (seen_body node.tree.body.items) (seen_end node.tree.end)
  tree_left = one_is nodes rest node one is ∙ seen_tree_is node.tree

  pub nesting_left : nesting (body_of (first_tree (seen_nodes nodes))) ≡ nesting (seen_body node.tree.body.items)
  nesting_left = ap (λ t. nesting (body_of t)) tree_left

  -- of which this is counted
  pub passed : (r : ℕ) → r ≡ min (nesting (seen_body node.tree.body.items)) (2 ^ 32 - 1) → 500 < r →
      max_nesting < nesting (body_of (first_tree (seen_nodes nodes)))
  passed r is_r deep = let same = nesting_left in let more = too_deep (nesting (seen_body node.tree.body.items)) r is_r deep in omega (arith, same, more)

  pub within : (r : ℕ) → r ≡ min (nesting (seen_body node.tree.body.items)) (2 ^ 32 - 1) → r ≤ 500 →
      nesting (body_of (first_tree (seen_nodes nodes))) ≤ max_nesting
  within r is_r few = let same = nesting_left in let less = not_deep (nesting (seen_body node.tree.body.items)) r is_r few in omega (arith, same, less)

-- a graph of one node has one node as code
pub one_left : (nodes : List code.Node) (node : Node) → seen_nodes nodes ≡ node ∷ [] → length nodes ≡ 1
one_left nodes node is = sym (length-map nodes seen_node) ∙ ap length is

module _ (graph : Graph) (closed : IsClosed graph) where
  pub has_one : (nodes : List code.Node) → seen_nodes nodes ≡ (closed_graph graph).nodes → length nodes ≡ 1
  has_one nodes is =
      let ends = closed-ends graph closed in
      one_left nodes (record { label = (closed_graph graph).entry; tree = ends.0 }) (is ∙ ends.1)

  pub plain_of : (result : Result Shaped SplitFault) → Shapes result (closed_graph graph) → IfOk result (λ shaped. PlainEnd (seen_end shaped.end))
  plain_of (Ok shaped) h =
      let ends = closed-ends graph closed in
      let is : ends.0 ≡ tree (seen_body shaped.body.items) (seen_end shaped.end) = sym (ap first_tree ends.1) ∙ h.0 in
      subst (λ t. PlainEnd (end_of t)) is ends.2
  plain_of (Err fault) h = tt
