-- There are no more procedures than lowered graphs may have labels, since each graph has one.
use Rattle.std.proofs.Common.{◌≡◌, ◌≤◌, ℕ, suc, ◌+◌, List, [], ◌∷◌, length, Some, slice_get, sum_by, refl, sym, subst, arith}
use Rattle.std.proofs.lemmas.List.Sums.{sum_by-cons}
use Rattle.cob_tree.specs.declared.program.Program.{Program}
use Rattle.cob_tree.specs.declared.program.Range as code
use Rattle.control_flow_theory.specs.language.Control.{control_of}
use Rattle.control_flow_theory.specs.language.Language as language
use Rattle.control_flow_theory.specs.language.Language.{Range, Main}
use Rattle.program_facts.specs.completion.FlowFacts.{flow_facts_of}
use Rattle.control_flow_theory.specs.graph_rules.Reduced.{Graph, Graphs, Node}
use Rattle.control_flow_theory.specs.graph_rules.Walked.{In}
use Rattle.control_flow_theory.specs.structuring.Closes.{IsClosed}
use Rattle.control_flow_theory.specs.structuring.Dispatches.{Numbered, labels_of}
use Rattle.control_flow_theory.proofs.rendering_lemmas.Written.{map-get}
use Rattle.control_flow_theory.specs.main_theorem.MainTheorem.{Plan}
use Rattle.branch_tree.specs.Graph.{seen_graph}
use Rattle.branch_tree.specs.declared.graph.Graph as tree
use Rattle.lowering_labels.specs.points.FallThrough.{seen_range}
use Rattle.flow_graph.specs.graph_sizes.Sizing.{graph_size, node_size, tree_size}
use Rattle.pending_returns.specs.declared.facts.Summary.{Summary}
use Rattle.cobol_theory.specs.cobol_headline.Alike.{naming_of}
use Rattle.procedure_split.specs.shaped_ranges.Graphs.{node_count}
use Rattle.cob_base.specs.Limit.{max_nodes}
use Rattle.procedure_split.proofs.made_procedures_lemmas.Plans.{each-closed}
use Rattle.procedure_split.proofs.made_procedures_lemmas.Rows.{beside, in-at}
use Rattle.procedure_split.specs.Splitting.{IsSplit}
use Rattle.procedure_split.specs.split_behaviour.Alike.{IsWellMade}
use Rattle.pending_returns.specs.FaultFree.{IsFaultFree}
use Rattle.procedure_split.proofs.split_behaviour_lemmas.FewNodes.{as-many-graphs}
use Rattle.procedure_split.proofs.split_behaviour_lemmas.Joined as split_program
use Rattle.end_to_end_laws.specs.results.result_bodies.Laws.{SplitProgramsHaveFewProcedures}

-- a graph whose jumps are to its nodes has one, its entry
has-node : (nodes : List Node) (entry : ℕ) → Numbered (labels_of nodes) entry →
    1 ≤ sum_by node_size nodes
has-node [] entry there = absurd (let e = there.1 in omega (arith, e))
has-node (node ∷ nodes) entry there =
    let more : sum_by node_size (node ∷ nodes)
    ≡ 1 + tree_size node.tree + sum_by node_size nodes = sum_by-cons node_size node nodes in
    omega (arith, more)

abbrev count_of : tree.Graph → ℕ
count_of graph = graph_size (seen_graph graph)

as-many : (graphs : List tree.Graph) →
    ((at : ℕ) (graph : tree.Graph) → slice_get graphs at ≡ Some graph → 1 ≤ count_of graph) →
    length graphs ≤ node_count graphs
as-many [] each = omega arith
as-many (graph ∷ graphs) each =
    let here = each 0 graph refl in
    let others = as-many graphs (λ at other is. each (suc at) other is) in
    let more = sum_by-cons count_of graph graphs in
    omega (arith, here, others, more)

module _ (program made : Program) (summary : Summary) (well : IsWellMade program)
    (flows : IsFaultFree program summary) (split : IsSplit program summary made) where
  abbrev order : List code.Range
  order = split.plan.order

  abbrev control : language.Program
  control = control_of program

  abbrev plan : Plan
  plan = split_program.plan program made summary well flows split

  abbrev graphs : Graphs
  graphs = split_program.graphs program made summary well flows split

  in-ranges : (at : ℕ) (range : code.Range) → slice_get order at ≡ Some range →
      In (seen_range range) (Main ∷ plan.others)
  in-ranges at range here =
      in-at (Main ∷ plan.others) at (seen_range range)
      (subst (λ all. slice_get all at ≡ Some (seen_range range))
      (split_program.in-order program made summary well flows split)
      (map-get seen_range order at range here))

  many : length split.graphs ≡ length order
  many =
      as-many-graphs (flow_facts_of program.files split.plan.returning) control order split.graphs
      split.lowered.are

  graph-counts : (at : ℕ) (graph : tree.Graph) → slice_get split.graphs at ≡ Some graph →
      1 ≤ count_of graph
  graph-counts at graph is =
      let range = beside split.graphs order (sym many) at graph is in
      let planned = split_program.planned program made summary well flows split in
      let closed : IsClosed (graphs (seen_range range.0)) =
      each-closed (naming_of program (split_program.writing program made summary well flows split))
      plan control (split_program.is-source program made summary well flows split)
      (split_program.some program made summary well flows split) planned.planned
      (seen_range range.0) (in-ranges at range.0 range.1) in
      subst (λ (g : Graph). 1 ≤ graph_size g) (sym (planned.each at range.0 graph range.1 is))
      (has-node (graphs (seen_range range.0)).nodes (graphs (seen_range range.0)).entry
      closed.entry)

  few : length made.paragraphs ≤ max_nodes
  few =
      let counted = as-many split.graphs graph-counts in
      let paragraphs = split.written.paragraphs.count in
      let within = split.lowered.within in
      omega (arith, counted, paragraphs, within, many)

pub few-procedures : SplitProgramsHaveFewProcedures
few-procedures program made summary well flows split = few program made summary well flows split
