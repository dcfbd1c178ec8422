-- What the graphs of ranges are shaped to.
use Rattle.std.specs.Prelude.{ℕ, ◌≡◌, ◌≤◌, ◌<◌, List, [], ◌∷◌, ◌++◌, map, Some, slice_get}
use Rattle.cob_tree.specs.declared.fault.SplitFault.{SplitFault}
use Rattle.cob_tree.specs.declared.fault.SplitFault.TheVariants as fault
use Rattle.control_flow_theory.specs.semantics.Graph.{tree}
use Rattle.control_flow_theory.specs.graph_rules.Reduced as reduced
use Rattle.control_flow_theory.specs.structuring.Closes.{IsClosed, closed_graph}
use Rattle.branch_tree.specs.Graph.{seen_added, seen_graph}
use Rattle.branch_tree.specs.Tree.{seen_body, seen_end, seen_tree}
use Rattle.branch_tree.specs.declared.graph.Graph.{Graph}
use Rattle.cob_base.specs.Limit.{max_nesting}
use Rattle.region_rewrite.specs.Shaping.{IsSmall, first_tree, nesting_passed, result_nesting}
use Rattle.region_rewrite.specs.declared.shaping.Shaped.{Shaped}
use Rattle.procedure_split.specs.declared.shaped_ranges.shaping.Closed.{Closed}

-- the graph can be shaped: its jumps are to its nodes, and 32 bits number what the rules add
abbrev pub IsReady : Graph → Type 0
IsReady graph = IsClosed (seen_graph graph) × IsSmall (seen_graph graph)

-- each of them can be
abbrev pub AllReady : List Graph → Type 0
AllReady [] = Unit {0}
AllReady (graph ∷ graphs) = IsReady graph × AllReady graphs

-- the tree has this body and end, and these items are added
pub record IsClosedFrom (shaped : Shaped) (closed : Closed) : Type 0 where
  pub tree : seen_tree closed.tree ≡ tree (seen_body shaped.body.items) (seen_end shaped.end)
  pub added : closed.added ≡ shaped.added

-- the list has one more, with what the graph was shaped to
abbrev pub AddsClosed : Shaped → (old new : List Closed) → Type 0
AddsClosed shaped old new =
    (closed : Closed) × (new ≡ old ++ closed ∷ []) × IsClosedFrom shaped closed

-- the one node that is left of the graph has this tree, which nests within the limit
pub record IsShapedTo (graph : reduced.Graph) (closed : Closed) : Type 0 where
  pub tree : first_tree (closed_graph graph).nodes ≡ seen_tree closed.tree
  pub added : (closed_graph graph).added ≡ map seen_added closed.added.items
  pub within : result_nesting (closed_graph graph) ≤ max_nesting

-- each of these graphs is shaped so
abbrev pub AllShaped : List Graph → List Closed → Type 0
AllShaped [] [] = Unit {0}
AllShaped [] (one ∷ closed) = ⊥
AllShaped (graph ∷ graphs) [] = ⊥
AllShaped (graph ∷ graphs) (one ∷ closed) =
    IsShapedTo (seen_graph graph) one × AllShaped graphs closed

-- one of them nests deeper
pub record IsOneTooDeep (graphs : List Graph) : Type 0 where
  pub at : ℕ
  pub graph : Graph
  -- one of the graphs
  pub there : slice_get graphs at ≡ Some graph
  -- what it is shaped to nests deeper than the limit
  pub deep : max_nesting < result_nesting (closed_graph (seen_graph graph))

-- why they aren't shaped: one nests deeper than the limit; memory may run out at any place
abbrev pub IsTooDeep : List Graph → SplitFault → Type 0
IsTooDeep graphs (fault.Limit limit) = IsOneTooDeep graphs × (limit ≡ nesting_passed)
IsTooDeep graphs fault.NoMemory = Unit {0}
