-- What Exits and the dispatch make of a graph, and the order of all rules.
use Rattle.std.specs.Prelude.{ℕ, zero, suc, ◌*◌, ◌-◌, Bool, true, false, if◌then◌else◌, List, [], ◌∷◌, ◌++◌, Option, Some, None}
use Rattle.control_flow_theory.specs.language.Language.{Picker, Range}
use Rattle.control_flow_theory.specs.semantics.Doing.{is_above}
use Rattle.control_flow_theory.specs.semantics.Graph.{Label}
use Rattle.control_flow_theory.specs.graph_rules.Families.{State, Exit}
use Rattle.control_flow_theory.specs.graph_rules.Shapes.{Targets, NoTarget, Only, Several, leaves_to, other_targets}
use Rattle.control_flow_theory.specs.graph_rules.Reduced.{Node, Graph, tree_in, count, Graphs, with_graph, join_graph, shaped, looped_graph, lowest, rule_step, stepped, size}
use Rattle.control_flow_theory.specs.structuring.Dispatches.{LeavesTree, Numbered, labels_of, Rising, dispatched}
use Rattle.control_flow_theory.specs.structuring.Targets.{with_exits}

-- no arm is left out, be it empty
abbrev pub none_left_out : Picker → ℕ → Bool
none_left_out picker k = false

-- there are two targets or more
abbrev pub are_several : Targets → Bool
are_several NoTarget = false
are_several (Only live) = false
are_several Several = true

-- a leaf of the node jumps to it, and the other live leaves have two targets or more
abbrev pub has_exits : Graph → Label → Bool
has_exits graph label =
    if is_above (leaves_to label (tree_in graph.nodes label))
    then are_several (other_targets label (tree_in graph.nodes label)) else false

-- the graph in which the node is a loop, and then a Pick of its targets by a new cell
abbrev pub exits_graph : Label → Graph → Graph
exits_graph label graph =
    looped_graph label
    (with_exits none_left_out (count graph.added) label (tree_in graph.nodes label)) (Exit ∷ [])
    graph

-- Exits on the lowest label where neither Loop nor Inline applies, and Join.

-- Exits on this label, and then all joins
abbrev pub exits_step : Graph → Option Label → Option Graph
exits_step graph None = None
exits_step graph (Some label) = Some (join_graph (exits_graph label graph))

-- the graph that another rule gave, or else Exits on the lowest label that it applies to
abbrev pub or_exits : Graph → Option Graph → Option Graph
or_exits graph None = exits_step graph (lowest (has_exits graph) graph.nodes)
or_exits graph (Some next) = Some next

-- the graph after one rule of all, where one applies
abbrev pub any_step : Graph → Option Graph
any_step graph = or_exits graph (rule_step graph)

-- the graph after this many steps at most
abbrev pub reduced_by_all : ℕ → Graph → Graph
reduced_by_all zero graph = graph
reduced_by_all (suc most) graph = reduced_by_all most (stepped graph (any_step graph))

-- the graph with one node, which loops over a choice, by a new cell, of those that are left
abbrev pub dispatch_graph : Graph → Graph
dispatch_graph graph = record {
  entry = graph.entry;
  nodes =
      record {
        label = graph.entry;
        tree = dispatched none_left_out (count graph.added) graph.entry graph.nodes;
      } ∷ [];
  added = graph.added ++ State ∷ [];
}

-- the graph with one dispatch, where several nodes are left
abbrev pub dispatch_rest : Graph → Graph
dispatch_rest graph = if is_above (size graph.nodes - 1) then dispatch_graph graph else graph

-- all rules in their order: one node is left, which doesn't jump
abbrev pub closed_graph : Graph → Graph
closed_graph graph = dispatch_rest (reduced_by_all (3 * size graph.nodes) (shaped graph))

-- the jumps of each node are to nodes
abbrev pub AllNumbered : List Label → List Node → Type 0
AllNumbered labels [] = Unit {0}
AllNumbered labels (node ∷ nodes) =
    LeavesTree (Numbered labels) (Unit {0}) node.tree × AllNumbered labels nodes

-- its nodes are in label order, and its entry and its jumps are to nodes
pub record IsClosed (graph : Graph) : Type 0 where
  -- the nodes come in label order
  pub rising : Rising graph.nodes
  pub entry : Numbered (labels_of graph.nodes) graph.entry
  pub jumps : AllNumbered (labels_of graph.nodes) graph.nodes

-- the graphs of these ranges closed
abbrev pub all_closed : List Range → Graphs → Graphs
all_closed [] graphs = graphs
all_closed (range ∷ ranges) graphs =
    with_graph (all_closed ranges graphs) range (closed_graph (all_closed ranges graphs range))
