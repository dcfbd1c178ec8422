-- Graphs that are the same in their parts.
use Rattle.std.proofs.Common.{◌≡◌, List, ap, ◌∙◌}
use Rattle.control_flow_theory.specs.semantics.Graph.{Label}
use Rattle.control_flow_theory.specs.graph_rules.Families.{Added}
use Rattle.control_flow_theory.specs.graph_rules.Reduced.{Node, Graph}

abbrev pub graph_with : Label → List Node → List Added → Graph
graph_with entry nodes added = record { entry = entry; nodes = nodes; added = added }

pub graph_same : (e e' : Label) (n n' : List Node) (a a' : List Added) → e ≡ e' → n ≡ n' → a ≡ a' → graph_with e n a ≡ graph_with e' n' a'
graph_same e e' n n' a a' he hn ha =
    ap (λ x. graph_with x n a) he ∙ ap (λ x. graph_with e' x a) hn ∙ ap (graph_with e' n') ha
