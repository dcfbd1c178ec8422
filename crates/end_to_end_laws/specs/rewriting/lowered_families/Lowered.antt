-- The graphs of some ranges, as a family.
use Rattle.std.specs.Prelude.{if◌then◌else◌, List, [], ◌∷◌, map}
use Rattle.cob_tree.specs.declared.program.Range as code
use Rattle.control_flow_theory.specs.language.Language.{Range, same_range}
use Rattle.control_flow_theory.specs.graph_rules.Reduced.{Graph, Graphs}
use Rattle.lowering_labels.specs.points.FallThrough.{seen_range}

-- a graph without nodes
abbrev pub no_graph : Graph
no_graph = record { entry = 0; nodes = []; added = [] }

-- each of these ranges has the graph beside it, and any other none
abbrev pub graphs_in : List code.Range → List Graph → Graphs
graphs_in [] graphs range = no_graph
graphs_in (first ∷ ranges) [] range = no_graph
graphs_in (first ∷ ranges) (graph ∷ graphs) range =
    if same_range (seen_range first) range then graph else graphs_in ranges graphs range

-- the ranges in their order, as the theory has them
abbrev pub in_order : List code.Range → List Range
in_order ranges = map seen_range ranges
