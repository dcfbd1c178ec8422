-- Graphs that are rewritten, from what they hold.
use Rattle.std.proofs.Common.{◌≡◌, ◌∷◌, List, map, ap, refl, ◌∙◌}
use Rattle.control_flow_theory.specs.graph_rules.Reduced.{Node, Graph}
use Rattle.branch_tree.specs.Graph.{seen_nodes, seen_added}
use Rattle.graph_rewriting.specs.Helds.{Held, seen_work}
use Rattle.tree_rules.proofs.InlineRows.{graph_with, graph_same}

-- the graph with these nodes
pub same_work : (new old : Held) (nodes : List Node) → seen_nodes new.nodes ≡ nodes → new.entry ≡ old.entry → new.added ≡ old.added →
    seen_work new ≡ graph_with old.entry nodes (map seen_added old.added.items)
same_work new old nodes nodes_are entry added =
    graph_same _ _ _ _ _ _ entry nodes_are (ap (λ a. map seen_added a.items) added)
