-- No graph has as many nodes as a state item has numbers, since all have few labels and statements.
use Rattle.std.proofs.Common.{◌≡◌, ◌≤◌, ◌<◌, ℕ, zero, suc, ◌+◌, true, if◌then◌else◌, List, [], ◌∷◌, map, length, Some, slice_get, sum_by, refl, ap, sym, subst, ◌∙◌, inl, inr, arith}
use Rattle.std.proofs.lemmas.List.Sums.{sum_by-cons}
use Rattle.cob_tree.specs.declared.program.Range as code
use Rattle.control_flow_theory.specs.language.Language as language
use Rattle.control_flow_theory.specs.language.Language.{Range}
use Rattle.control_flow_theory.proofs.semantics_lemmas.Ranges.{range-tells}
use Rattle.control_flow_theory.specs.lowering.FlowFacts.{FlowFacts}
use Rattle.control_flow_theory.specs.graph_rules.Walked.{In, is_in}
use Rattle.control_flow_theory.specs.graph_rules.Reduced as reduced
use Rattle.control_flow_theory.specs.graph_rules.Reduced.{Graphs, Node, size}
use Rattle.control_flow_theory.proofs.rendering_lemmas.Written.{or_else}
use Rattle.branch_tree.specs.Graph.{seen_graph}
use Rattle.branch_tree.specs.declared.graph.Graph.{Graph}
use Rattle.lowering_labels.specs.points.FallThrough.{seen_range}
use Rattle.flow_graph.specs.graph_sizes.Sizing.{graph_size, node_size, tree_size}
use Rattle.added_items.specs.item_table.Tables.{most_arms}
use Rattle.procedure_split.specs.shaped_ranges.Graphs.{AreGraphsOf, node_count}
use Rattle.cob_base.specs.Limit.{max_nodes}
use Rattle.procedure_split.proofs.made_procedures_lemmas.Rows.{beside}

nodes-counted : (nodes : List Node) → size nodes ≤ sum_by node_size nodes
nodes-counted [] = omega arith
nodes-counted (node ∷ nodes) =
    let more : sum_by node_size (node ∷ nodes)
    ≡ 1 + tree_size node.tree + sum_by node_size nodes = sum_by-cons node_size node nodes in
    let fewer = nodes-counted nodes in
    omega (arith, more, fewer)

abbrev count_of : Graph → ℕ
count_of graph = graph_size (seen_graph graph)

one-counted : (graphs : List Graph) (at : ℕ) (graph : Graph) →
    slice_get graphs at ≡ Some graph → count_of graph ≤ node_count graphs
one-counted [] at graph is = cc
one-counted (first ∷ graphs) zero graph is =
    let same : first ≡ graph = ap (or_else first) is in
    let more = sum_by-cons count_of first graphs in
    subst (λ one. count_of one ≤ node_count (first ∷ graphs)) same (omega (arith, more))
one-counted (first ∷ graphs) (suc at) graph is =
    let more = sum_by-cons count_of first graphs in
    let fewer = one-counted graphs at graph is in
    omega (arith, more, fewer)

pub as-many-graphs : (told : FlowFacts) (program : language.Program) (order : List code.Range)
    (graphs : List Graph) → AreGraphsOf told program order graphs → length graphs ≡ length order
as-many-graphs told program [] [] are = refl
as-many-graphs told program [] (graph ∷ graphs) are = absurd are
as-many-graphs told program (range ∷ order) [] are = absurd are
as-many-graphs told program (range ∷ order) (graph ∷ graphs) are =
    ap suc (as-many-graphs told program order graphs are.1)

-- a range that is in the order stands somewhere in it
stands-at : (order : List code.Range) (range : Range) → In range (map seen_range order) →
    (at : ℕ) × (one : code.Range) × (slice_get order at ≡ Some one) × (seen_range one ≡ range)
stands-at [] range is = cc
stands-at (first ∷ order) range is = elim (range-tells (seen_range first) range) [
  | inl found ↦ (0, first, refl, found.1)
  | inr other ↦
      let behind : In range (map seen_range order) =
      sym (ap (λ t. if t then true else is_in range (map seen_range order)) other.0) ∙ is in
      let later = stands-at order range behind in
      (suc later.0, later.1, later.2, later.3)
]

pub few-nodes : (graphs : Graphs) (order : List code.Range) (own : List Graph) →
    length own ≡ length order → node_count own ≤ max_nodes →
    ((at : ℕ) (range : code.Range) (graph : Graph) → slice_get order at ≡ Some range →
    slice_get own at ≡ Some graph → seen_graph graph ≡ graphs (seen_range range)) →
    (range : Range) → In range (map seen_range order) → size (graphs range).nodes < most_arms
few-nodes graphs order own many within each range is =
    let here = stands-at order range is in
    let one = beside order own many here.0 here.1 here.2 in
    let same : seen_graph one.0 ≡ graphs range =
    each here.0 here.1 one.0 here.2 one.1 ∙ ap graphs here.3 in
    let nodes = nodes-counted (seen_graph one.0).nodes in
    let counted = one-counted own here.0 one.0 one.1 in
    subst (λ (graph : reduced.Graph). size graph.nodes < most_arms) same
    (omega (arith, nodes, counted, within))
