-- What becomes of a graph of which one node is left.
use Rattle.std.specs.Prelude.{ℕ, ◌≡◌, ◌+◌, ◌<◌, ◌≤◌, ◌^◌, true, List, [], ◌∷◌, length, map, Result, Ok, Err}
use Rattle.cob_base.specs.Limit.{max_nesting, past}
use Rattle.cob_base.specs.declared.limit.Limit.{Limit}
use Rattle.cob_base.specs.declared.limit.LimitKind.TheVariants.{Nesting}
use Rattle.cob_tree.specs.declared.fault.SplitFault.{SplitFault}
use Rattle.cob_tree.specs.declared.fault.SplitFault.TheVariants as fault
use Rattle.control_flow_theory.specs.language.Language.{none}
use Rattle.control_flow_theory.specs.semantics.Graph.{Tree, tree, Dead, body_of}
use Rattle.control_flow_theory.specs.graph_rules.Reduced.{Node, Graph, size}
use Rattle.branch_tree.specs.Graph.{seen_added}
use Rattle.branch_tree.specs.Tree.{seen_body, seen_end}
use Rattle.region_rewrite.specs.written_nesting.Nesting.{nesting}
use Rattle.region_rewrite.specs.declared.shaping.Shaped.{Shaped}

-- 32 bits number its nodes, and its added items with those that the rules add
pub record IsSmall (graph : Graph) : Type 0 where
  pub nodes : size graph.nodes ≤ 2 ^ 28
  pub added : length graph.added ≤ 2 ^ 28

-- the limit of the result's nesting, passed by one
abbrev pub nesting_passed : Limit
nesting_passed = past Nesting true (max_nesting + 1)

-- the tree of the first node
abbrev pub first_tree : List Node → Tree
first_tree [] = tree none Dead
first_tree (node ∷ nodes) = node.tree

-- how deep the result nests
abbrev pub result_nesting : Graph → ℕ
result_nesting graph = nesting (body_of (first_tree graph.nodes))

-- the node's tree and the added items; the limit is passed exactly where the result nests deeper
abbrev pub Shapes : Result Shaped SplitFault → Graph → Type 0
Shapes (Ok shaped) graph =
    (first_tree graph.nodes ≡ tree (seen_body shaped.body.items) (seen_end shaped.end))
    × (graph.added ≡ map seen_added shaped.added.items) × (result_nesting graph ≤ max_nesting)
Shapes (Err (fault.Limit limit)) graph =
    (max_nesting < result_nesting graph) × (limit ≡ nesting_passed)
Shapes (Err fault.NoMemory) graph = Unit {0}
