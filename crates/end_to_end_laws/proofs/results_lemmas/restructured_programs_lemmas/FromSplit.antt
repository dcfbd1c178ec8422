-- What a program is split into is what it is restructured to.
use Rattle.std.proofs.Common.{◌≡◌, ◌≤◌, ℕ, zero, suc, List, [], ◌∷◌, ◌++◌, map, Some, slice_get, ap, ap₂, sym, subst, ◌∙◌}
use Rattle.cob_base.specs.Limit.{max_nesting, max_nodes}
use Rattle.cob_tree.specs.declared.program.Paragraph.{Paragraph}
use Rattle.cob_tree.specs.declared.program.Program.{Program}
use Rattle.cob_tree.specs.declared.program.Range as code
use Rattle.control_flow_theory.specs.language.Control.{control_of}
use Rattle.control_flow_theory.specs.language.Language as language
use Rattle.control_flow_theory.specs.graph_rules.Reduced.{Graph, Graphs}
use Rattle.control_flow_theory.specs.structuring.Closes.{IsClosed, closed_graph}
use Rattle.control_flow_theory.specs.rendering.Rendering.{Procedure, rendered}
use Rattle.control_flow_theory.specs.main_theorem.Chain.{procedures_of}
use Rattle.control_flow_theory.specs.main_theorem.MainTheorem.{graphs_by}
use Rattle.control_flow_theory.proofs.rendering_lemmas.Written.{or_else, map-get}
use Rattle.program_facts.specs.completion.FlowFacts.{flow_facts_of}
use Rattle.pending_returns.specs.FaultFree.{IsFaultFree}
use Rattle.pending_returns.specs.declared.facts.Summary.{Summary}
use Rattle.out_names.specs.Naming.{names_of}
use Rattle.out_names.specs.Words.{program_words, table_of}
use Rattle.cobol_theory.specs.cell_serving.Entries.{entries_of}
use Rattle.added_items.specs.item_table.Laws.{cell_range}
use Rattle.added_items.specs.item_table.Naming.{entries_for}
use Rattle.added_items.specs.item_table.Row.{CellRange}
use Rattle.branch_tree.specs.Graph.{seen_graph}
use Rattle.branch_tree.specs.declared.graph.Graph as made
use Rattle.lowering_labels.specs.points.FallThrough.{seen_range}
use Rattle.region_rewrite.specs.Shaping.{result_nesting}
use Rattle.procedure_split.specs.Rows.{rows_of}
use Rattle.procedure_split.specs.Splitting.{IsSplit}
use Rattle.procedure_split.specs.shaped_ranges.Graphs.{HaveGraphs}
use Rattle.procedure_split.specs.shaped_ranges.Shaping.{AllShaped}
use Rattle.procedure_split.specs.declared.shaped_ranges.shaping.Closed.{Closed}
use Rattle.procedure_split.specs.split_behaviour.Alike.{IsWellMade}
use Rattle.procedure_split.proofs.made_procedures_lemmas.Plans.{entry-first}
use Rattle.procedure_split.proofs.made_procedures_lemmas.Rows.{beside, in-at, shaped-at}
use Rattle.procedure_split.proofs.one_split_lemmas.Written.{procedures-same}
use Rattle.procedure_split.proofs.shaped_ranges_lemmas.GraphRows.{count-seen, have-seen}
use Rattle.procedure_split.proofs.split_behaviour_lemmas.ClosedRows.{all-rows, row-is}
use Rattle.procedure_split.proofs.split_behaviour_lemmas.FewNodes.{as-many-graphs}
use Rattle.procedure_split.proofs.split_behaviour_lemmas.Joined as joined
use Rattle.end_to_end_laws.specs.rewriting.lowered_families.Lowered.{graphs_in, in_order}
use Rattle.end_to_end_laws.specs.results.restructured_programs.Result.{IsCalled, IsRestructuredTo, IsWithinSplitting, naming_with, procedures_in, rows_in}
use Rattle.end_to_end_laws.specs.results.restructured_programs.Laws.{SplitsAreRestructured}
use Rattle.end_to_end_laws.proofs.results_lemmas.read_headline_lemmas.WellMade.{well-made}
use Rattle.end_to_end_laws.proofs.results_lemmas.restructured_programs_lemmas.Planned as planned
use Rattle.end_to_end_laws.proofs.rewriting_lemmas.LoweredFamily.{closed-in}

-- none of the graphs nests deeper
nested : (graphs : List made.Graph) (closed : List Closed) → AllShaped graphs closed → (at : ℕ)
    (graph : Graph) → slice_get (map seen_graph graphs) at ≡ Some graph →
    result_nesting (closed_graph graph) ≤ max_nesting
nested [] closed shaped at graph here = cc
nested (first ∷ graphs) [] shaped at graph here = absurd shaped
nested (first ∷ graphs) (one ∷ closed) shaped zero graph here =
    subst (λ (g : Graph). result_nesting (closed_graph g) ≤ max_nesting)
    (ap (or_else (seen_graph first)) here) shaped.0.within
nested (first ∷ graphs) (one ∷ closed) shaped (suc at) graph here =
    nested graphs closed shaped.1 at graph here

module _ (program result : Program) (summary : Summary) (well : IsWellMade program)
    (flows : IsFaultFree program summary) (split : IsSplit program summary result) where
  abbrev order : List code.Range
  order = split.plan.order

  abbrev listed : List Graph
  listed = map seen_graph split.graphs

  have : HaveGraphs (flow_facts_of program.files split.plan.returning) (control_of program) order
      listed
  have = have-seen (flow_facts_of program.files split.plan.returning) (control_of program) order
      split.graphs split.lowered.are

  abbrev mine : Graphs
  mine = graphs_in order listed

  abbrev theirs : Graphs
  theirs = graphs_by (joined.plan program result summary well flows split) (control_of program)

  -- each graph is that of its range

  theirs-at : (at : ℕ) (range : code.Range) (graph : made.Graph) → slice_get order at ≡ Some range →
      slice_get split.graphs at ≡ Some graph → seen_graph graph ≡ theirs (seen_range range)
  theirs-at = (joined.planned program result summary well flows split).each

  mine-at : (at : ℕ) (range : code.Range) (graph : Graph) → slice_get order at ≡ Some range →
      slice_get listed at ≡ Some graph → mine (seen_range range) ≡ graph
  mine-at at range graph here there =
      planned.listed-at program summary well flows split.plan listed have at range graph here there

  rows-are : rows_of order split.closed ≡ rows_in order listed
  rows-are =
      all-rows mine order split.closed split.written.many.trees
      (λ at range one here there.
      let shaped = shaped-at split.graphs split.closed split.shaped at one there in
      let graph = seen_graph shaped.0 in
      let is = mine-at at range graph here (map-get seen_graph split.graphs at shaped.0 shaped.1) in
      let closed : IsClosed graph =
      subst IsClosed is
      (closed-in program summary well flows split.plan listed have (seen_range range)
      (in-at (in_order order) at (seen_range range) (map-get seen_range order at range here))) in
      row-is range graph one (entry-first graph closed) shaped.2
      ∙ ap (λ (g : Graph). cell_range (seen_range range) (closed_graph g)) (sym is))

  procedures-are : procedures_of (language.Main ∷ (joined.plan program result summary well flows
      split).others) theirs ≡ procedures_in order listed
  procedures-are =
      ap (λ (ranges : List language.Range). procedures_of ranges theirs)
      (sym (joined.in-order program result summary well flows split))
      ∙ procedures-same order theirs mine
      (λ at range here.
      let many = as-many-graphs (flow_facts_of program.files split.plan.returning)
      (control_of program) order split.graphs split.lowered.are in
      let one = beside order split.graphs many at range here in
      sym (theirs-at at range one.0 here one.1)
      ∙ sym (mine-at at range (seen_graph one.0) here
      (map-get seen_graph split.graphs at one.0 one.1)))

  called : (at : ℕ) (name : List ℕ) (paragraph : Paragraph) →
      slice_get (names_of program order) at ≡ Some name →
      slice_get result.paragraphs at ≡ Some paragraph → IsCalled name paragraph
  called at name paragraph here there =
      let written = split.written in
      let range = beside (names_of program order) order (sym written.many.words) at name here in
      let one = beside order split.closed written.many.trees at range.0 range.1 in
      let own = beside order written.cells written.many.items at range.0 range.1 in
      let is = written.paragraphs.each at range.0 one.0 own.0 name paragraph range.1 one.1 own.1
      here there in
      record { named = is.named; free = is.bare }

  restructured : IsRestructuredTo program summary result
  restructured = record {
    plan = split.plan;
    graphs = listed;
    lowered = have;
    name = split.written.name;
    files = split.written.files;
    entries = split.written.entries
        ∙ ap (λ (rows : List CellRange). program.entries
        ++ entries_of (entries_for (table_of (program_words program)) rows)) rows-are;
    control = (joined.is-written program result summary well flows split).control
        ∙ ap₂ (λ (rows : List CellRange) (procedures : List Procedure).
        rendered (naming_with program rows) procedures) rows-are procedures-are;
    many = split.written.paragraphs.count;
    called = called;
  }

  within : IsWithinSplitting restructured
  unfolding restructured
  within = record {
    small = subst (λ (n : ℕ). n ≤ max_nodes) (count-seen split.graphs) split.lowered.within;
    shallow = nested split.graphs split.closed split.shaped;
  }

pub splits-restructured : SplitsAreRestructured
splits-restructured bytes program result summary reads flows split =
    let well = well-made bytes program reads in (
      restructured program result summary well flows split,
      within program result summary well flows split,
    )
