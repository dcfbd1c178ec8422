-- A graph within the limit on labels and statements has few nodes, and no more counters.
use Rattle.std.proofs.Common.{◌≡◌, ◌≤◌, ◌+◌, ◌^◌, ℕ, zero, suc, List, [], ◌∷◌, length, sum_by, Option, Some, None, ap, sym, ◌∙◌, subst, refl, arith}
use Rattle.std.proofs.lemmas.List.Sums.{sum_by-cons}
use Rattle.cob_base.specs.Limit.{max_nodes}
use Rattle.control_flow_theory.specs.graph_rules.Reduced.{Node, size}
use Rattle.control_flow_theory.specs.graph_rules.Reduced as reduced
use Rattle.control_flow_theory.specs.main_theorem.Numbering.{place_among, counts}
use Rattle.control_flow_theory.specs.lowering.Renamed.{tree_anew}
use Rattle.control_flow_theory.proofs.graph_rules_lemmas.shapes.Ending.{each-size}
use Rattle.added_items.specs.counters.Counting.{counter_at, counters_from, counters_in, numbered_graph}
use Rattle.branch_tree.specs.Graph.{seen_graph}
use Rattle.branch_tree.specs.declared.graph.Graph.{Graph}
use Rattle.flow_graph.specs.graph_sizes.Sizing.{graph_size, node_size, tree_size}
use Rattle.region_rewrite.specs.Shaping.{IsSmall}

nodes-few : (nodes : List Node) → size nodes ≤ sum_by node_size nodes
nodes-few [] = omega arith
nodes-few (node ∷ nodes) =
    let sums : sum_by node_size (node ∷ nodes) ≡ 1 + tree_size node.tree + sum_by node_size nodes = sum_by-cons node_size node nodes in
    let few = nodes-few nodes in
    omega (arith, sums, few)

abbrev counted : ℕ → List Node → Option ℕ → List ℕ
counted least nodes found = elim found [
  | None ↦ counters_from least nodes
  | Some cell ↦ cell ∷ counters_from (cell + 1) nodes
]

counters-few : (least : ℕ) (nodes : List Node) → length (counters_from least nodes) ≤ size nodes
counters-few least [] = omega arith
counters-few least (node ∷ nodes) = elim (counter_at least node) as (λ found. length (counted least nodes found) ≤ suc (size nodes)) [
  | None ↦ let few = counters-few least nodes in omega (arith, few)
  | Some cell ↦ let few = counters-few (cell + 1) nodes in omega (arith, few)
]

counts-few : (cells : List ℕ) → length (counts cells) ≡ length cells
counts-few [] = refl
counts-few (cell ∷ cells) = ap (λ (n : ℕ). suc n) (counts-few cells)

numbered-small : (graph : reduced.Graph) → size graph.nodes ≤ max_nodes → IsSmall (numbered_graph graph)
numbered-small graph few =
    let cells = counters_in graph.nodes in
    let same = each-size (tree_anew (place_among cells)) graph.nodes in
    let added = counts-few cells in
    let counters = counters-few 0 graph.nodes in
    record { nodes = omega (arith, same, few); added = omega (arith, added, counters, few) }

pub small-graph : (old new : Graph) (most : ℕ) → seen_graph new ≡ numbered_graph (seen_graph old) →
    graph_size (seen_graph new) ≤ most → most ≤ max_nodes → IsSmall (seen_graph new)
small-graph old new most is within few =
    let same = each-size (tree_anew (place_among (counters_in (seen_graph old).nodes))) (seen_graph old).nodes in
    let nodes = ap (λ (graph : reduced.Graph). size graph.nodes) is in
    let under = nodes-few (seen_graph new).nodes in
    subst IsSmall (sym is) (numbered-small (seen_graph old) (omega (arith, same, nodes, under, within, few)))
