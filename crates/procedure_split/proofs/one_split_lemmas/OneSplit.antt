-- A program is split in one way.
use Rattle.std.proofs.Common.{◌≡◌, ◌<◌, ◌≤◌, ℕ, List, ◌∷◌, ◌++◌, map, length, Some, slice_get, ap, ap₂, sym, subst, ◌∙◌, inl, inr, arith}
use Rattle.cob_base.specs.declared.limit.Limit.{Limit}
use Rattle.cob_tree.specs.declared.entry.Entry.{Entry}
use Rattle.cob_tree.specs.declared.fault.SplitFault.TheVariants as fault
use Rattle.cob_tree.specs.declared.file.FileEntry.{FileEntry}
use Rattle.cob_tree.specs.declared.program.Paragraph.{Paragraph}
use Rattle.cob_tree.specs.declared.program.Program.{Program}
use Rattle.cob_tree.specs.declared.program.Range as code
use Rattle.control_flow_theory.specs.language.Control.{control_of}
use Rattle.control_flow_theory.specs.language.Language as language
use Rattle.control_flow_theory.specs.language.Own.{OwnParagraphs}
use Rattle.control_flow_theory.proofs.language_lemmas.Losing.{control-loses_nothing}
use Rattle.control_flow_theory.specs.lowering.FlowFacts.{FlowFacts}
use Rattle.program_facts.specs.completion.FlowFacts.{flow_facts_of}
use Rattle.control_flow_theory.specs.graph_rules.Reduced as reduced
use Rattle.control_flow_theory.specs.rendering.Rendering.{Procedure, Naming, rendered}
use Rattle.control_flow_theory.proofs.rendering_lemmas.Written.{or_else, map-get}
use Rattle.control_flow_theory.specs.main_theorem.Chain.{procedures_of}
use Rattle.control_flow_theory.specs.main_theorem.MainTheorem.{Plan, graphs_by}
use Rattle.program_points.specs.numbering.Kind.{never_first_of}
use Rattle.pending_returns.specs.declared.facts.RangeFacts.{RangeFacts}
use Rattle.pending_returns.specs.declared.facts.Summary.{Summary}
use Rattle.procedure_split.proofs.one_summary_lemmas.Facts.{summaries-same}
use Rattle.out_names.specs.Naming.{names_of}
use Rattle.out_names.specs.Ordering.{order_of}
use Rattle.out_names.specs.Words.{program_words, table_of}
use Rattle.procedure_split.specs.plan.Planned.{calls_of, range_at, table_by}
use Rattle.meanings.specs.statements.Does.{declared_in}
use Rattle.cobol_theory.specs.added_items.Own.{items}
use Rattle.cobol_theory.specs.cell_serving.Choosing.{written_chooser}
use Rattle.cobol_theory.specs.cell_serving.Entries.{whole_literal, entries_of}
use Rattle.cobol_theory.specs.cell_serving.Naming.{cell_naming}
use Rattle.statement_builders.specs.arms.EmptyArms.{empties}
use Rattle.added_items.specs.item_table.Owners.{item_kinds}
use Rattle.added_items.specs.item_table.Naming.{entries_for}
use Rattle.procedure_split.specs.declared.report.report.AddedCounts.{AddedCounts}
use Rattle.added_items.specs.item_table.Row.{CellRange}
use Rattle.added_items.specs.item_table.Tables.{table_of_cells}
use Rattle.branch_tree.specs.Graph.{seen_graph}
use Rattle.branch_tree.specs.declared.graph.Graph.{Graph}
use Rattle.lowering_labels.specs.points.FallThrough.{seen_range}
use Rattle.procedure_split.specs.shaped_ranges.Graphs.{AreGraphsOf, HaveGraphs, node_count, total_size}
use Rattle.cob_base.specs.Limit.{max_nodes}
use Rattle.procedure_split.specs.shaped_ranges.Limit.{nodes_passed}
use Rattle.procedure_split.proofs.made_procedures_lemmas.Rows.{beside}
use Rattle.procedure_split.specs.Rows.{rows_of}
use Rattle.procedure_split.specs.Counting.{counts_of}
use Rattle.procedure_split.specs.declared.writing.Split.{Split}
use Rattle.procedure_split.specs.Splitting.{Planned, IsSplit, IsSplitFault, IsSplitWith}
use Rattle.procedure_split.specs.split_behaviour.Alike.{IsWellMade}
use Rattle.pending_returns.specs.FaultFree.{IsFaultFree}
use Rattle.procedure_split.proofs.split_behaviour_lemmas.FewNodes.{as-many-graphs}
use Rattle.procedure_split.proofs.split_behaviour_lemmas.Joined as joined
use Rattle.procedure_split.specs.one_split.Laws.{SplitsAreOne}
use Rattle.procedure_split.proofs.one_split_lemmas.Graphs.{all_seen, one-list, rows-same, none-deep}
use Rattle.procedure_split.proofs.shaped_ranges_lemmas.GraphRows.{count-seen, have-seen}
use Rattle.procedure_split.proofs.one_split_lemmas.Owned.{rendered-own}
use Rattle.procedure_split.proofs.one_split_lemmas.Written.{lists-same, paragraph-same, statements-at, procedures-same}

some-same : {A : Type 0} (x y : A) → Some x ≡ Some y → x ≡ y
some-same x y e = ap (or_else x) e

module _ (program : Program) (one other : Summary) (well : IsWellMade program)
    (flows : IsFaultFree program one) (also_flows : IsFaultFree program other) where
  abbrev control : language.Program
  control = control_of program

  ranges-same : one.ranges ≡ other.ranges
  ranges-same = summaries-same (never_first_of program.files) control one other flows.is
      also_flows.is

  -- Both have one plan, and its ranges one list of graphs.

  returning-same : (p : Planned program one) (q : Planned program other) →
      q.returning ≡ p.returning
  returning-same p q =
      q.is.table ∙ ap (λ (rs : List RangeFacts). table_by rs) (sym ranges-same) ∙ sym p.is.table

  order-same : (p : Planned program one) (q : Planned program other) → q.order ≡ p.order
  order-same p q =
      q.is.stands
      ∙ ap (λ (rs : List RangeFacts). map (range_at rs) (order_of (calls_of rs))) (sym ranges-same)
      ∙ sym p.is.stands

  graphs-same : (p : Planned program one) (q : Planned program other)
      (graphs others : List reduced.Graph) →
      HaveGraphs (flow_facts_of program.files p.returning) control p.order graphs →
      HaveGraphs (flow_facts_of program.files q.returning) control q.order others → graphs ≡ others
  graphs-same p q graphs others have also_have =
      one-list (flow_facts_of program.files p.returning) control p.order graphs others have
      (subst (λ (order : List code.Range).
      HaveGraphs (flow_facts_of program.files p.returning) control order others) (order-same p q)
      (subst (λ (table : List (List ℕ)).
      HaveGraphs (flow_facts_of program.files table) control q.order others) (returning-same p q)
      also_have))

  abbrev told_in : (summary : Summary) → Planned program summary → FlowFacts
  told_in summary p = flow_facts_of program.files p.returning

  both-seen : (p : Planned program one) (q : Planned program other) (graphs others : List Graph)
      → AreGraphsOf (told_in one p) control p.order graphs →
      AreGraphsOf (told_in other q) control q.order others → all_seen graphs ≡ all_seen others
  both-seen p q graphs others are also_are =
      graphs-same p q (all_seen graphs) (all_seen others)
      (have-seen (told_in one p) control p.order graphs are)
      (have-seen (told_in other q) control q.order others also_are)

  -- One limit.

  -- graphs that are made aren't past it
  apart : (p : Planned program one) (q : Planned program other) (graphs : List Graph)
      (others : List reduced.Graph) → AreGraphsOf (told_in one p) control p.order graphs →
      node_count graphs ≤ max_nodes → HaveGraphs (told_in other q) control q.order others →
      max_nodes < total_size others → ⊥
  apart p q graphs others are within have past =
      let same = graphs-same p q (all_seen graphs) others
      (have-seen (told_in one p) control p.order graphs are) have in
      let counts : node_count graphs ≡ total_size others =
      count-seen graphs ∙ ap total_size same in
      omega (arith, counts, within, past)

  past-apart : (p : Planned program one) (q : Planned program other)
      (graphs : List reduced.Graph) (others : List Graph) →
      HaveGraphs (told_in one p) control p.order graphs → max_nodes < total_size graphs →
      AreGraphsOf (told_in other q) control q.order others → node_count others ≤ max_nodes → ⊥
  past-apart p q graphs others have past are within =
      let same = graphs-same p q graphs (all_seen others) have
      (have-seen (told_in other q) control q.order others are) in
      let counts : node_count others ≡ total_size graphs =
      count-seen others ∙ ap total_size (sym same) in
      omega (arith, counts, within, past)

  limit-same : (first second : Limit) → IsSplitFault program one (fault.Limit first) →
      IsSplitFault program other (fault.Limit second) → first ≡ second
  limit-same first second (inl h) (inl g) =
      h.past.is ∙ ap (λ graphs. nodes_passed (total_size graphs))
      (graphs-same h.plan g.plan h.past.graphs g.past.graphs h.past.have g.past.have)
      ∙ sym g.past.is
  limit-same first second (inl h) (inr g) =
      absurd (past-apart h.plan g.plan h.past.graphs g.graphs h.past.have h.past.past
      g.lowered.are g.lowered.within)
  limit-same first second (inr h) (inl g) =
      absurd (apart h.plan g.plan h.graphs g.past.graphs h.lowered.are h.lowered.within
      g.past.have g.past.past)
  limit-same first second (inr h) (inr g) = h.is ∙ sym g.is

  -- A program, or a limit.

  split-within : (made : Program) (limit : Limit) → IsSplit program one made →
      IsSplitFault program other (fault.Limit limit) → ⊥
  split-within made limit h (inl g) =
      apart h.plan g.plan h.graphs g.past.graphs h.lowered.are h.lowered.within g.past.have
      g.past.past
  split-within made limit h (inr g) =
      none-deep h.graphs g.graphs h.closed
      (both-seen h.plan g.plan h.graphs g.graphs h.lowered.are g.lowered.are) h.shaped g.deep

  -- One program.

  module _ (first second : Program) (h : IsSplit program one first)
      (g : IsSplit program other second) where
    abbrev rows : List CellRange
    rows = rows_of h.plan.order h.closed

    abbrev also_rows : List CellRange
    also_rows = rows_of g.plan.order g.closed

    seen-same : all_seen h.graphs ≡ all_seen g.graphs
    seen-same = both-seen h.plan g.plan h.graphs g.graphs h.lowered.are g.lowered.are

    both-rows : rows ≡ also_rows
    both-rows =
        rows-same h.plan.order h.graphs g.graphs h.closed g.closed seen-same h.shaped g.shaped
        ∙ ap (λ (order : List code.Range). rows_of order g.closed) (sym (order-same h.plan g.plan))

    abbrev plan : Plan
    plan = joined.plan program first one well flows h

    abbrev also_plan : Plan
    also_plan = joined.plan program second other well also_flows g

    abbrev naming_for : List CellRange → Naming
    naming_for rows = cell_naming whole_literal (items (declared_in program))
        (table_of_cells rows) (written_chooser whole_literal) (empties (table_of_cells rows))

    graph-same : (at : ℕ) (range : code.Range) → slice_get h.plan.order at ≡ Some range →
        graphs_by plan control (seen_range range) ≡ graphs_by also_plan control (seen_range range)
    graph-same at range here =
        let many = as-many-graphs (flow_facts_of program.files h.plan.returning) control h.plan.order
        h.graphs h.lowered.are in
        let also_many = as-many-graphs (flow_facts_of program.files g.plan.returning) control
        g.plan.order g.graphs g.lowered.are in
        let there = subst (λ (order : List code.Range). slice_get order at ≡ Some range)
        (sym (order-same h.plan g.plan)) here in
        let mine = beside h.plan.order h.graphs many at range here in
        let other_one = beside g.plan.order g.graphs also_many at range there in
        let seen : seen_graph mine.0 ≡ seen_graph other_one.0 =
        some-same (seen_graph mine.0) (seen_graph other_one.0)
        (sym (map-get seen_graph h.graphs at mine.0 mine.1)
        ∙ ap (λ (gs : List reduced.Graph). slice_get gs at) seen-same
        ∙ map-get seen_graph g.graphs at other_one.0 other_one.1) in
        sym ((joined.planned program first one well flows h).each at range mine.0 here mine.1)
        ∙ seen
        ∙ (joined.planned program second other well also_flows g).each at range other_one.0 there
        other_one.1

    procedures-are : procedures_of (language.Main ∷ plan.others) (graphs_by plan control)
        ≡ procedures_of (language.Main ∷ also_plan.others) (graphs_by also_plan control)
    procedures-are =
        ap (λ (ranges : List language.Range). procedures_of ranges (graphs_by plan control))
        (sym (joined.in-order program first one well flows h))
        ∙ procedures-same h.plan.order (graphs_by plan control) (graphs_by also_plan control)
        graph-same
        ∙ ap (λ (order : List code.Range).
        procedures_of (map seen_range order) (graphs_by also_plan control))
        (sym (order-same h.plan g.plan))
        ∙ ap (λ (ranges : List language.Range).
        procedures_of ranges (graphs_by also_plan control))
        (joined.in-order program second other well also_flows g)

    controls-same : control_of first ≡ control_of second
    controls-same =
        (joined.is-written program first one well flows h).control
        ∙ ap₂ (λ (rows : List CellRange) (procedures : List Procedure).
        rendered (naming_for rows) procedures) both-rows procedures-are
        ∙ sym ((joined.is-written program second other well also_flows g).control)

    own : OwnParagraphs (control_of first).paragraphs
    own =
        subst (λ (p : language.Program). OwnParagraphs p.paragraphs)
        (sym ((joined.is-written program first one well flows h).control))
        (rendered-own (naming_for rows)
        (procedures_of (language.Main ∷ plan.others) (graphs_by plan control)))

    paragraph-at : (at : ℕ) (here there : Paragraph) → slice_get first.paragraphs at ≡ Some here →
        slice_get second.paragraphs at ≡ Some there → here ≡ there
    paragraph-at at here there is also_is =
        let w = h.written in
        let v = g.written in
        let range = beside first.paragraphs h.plan.order (sym w.paragraphs.count) at here is in
        let also_range =
        beside second.paragraphs g.plan.order (sym v.paragraphs.count) at there also_is in
        let shaped = beside h.plan.order h.closed w.many.trees at range.0 range.1 in
        let also_shaped =
        beside g.plan.order g.closed v.many.trees at also_range.0 also_range.1 in
        let cells = beside h.plan.order w.cells w.many.items at range.0 range.1 in
        let also_cells =
        beside g.plan.order v.cells v.many.items at also_range.0 also_range.1 in
        let name = beside h.plan.order (names_of program h.plan.order) w.many.words at range.0
        range.1 in
        let also_name = beside g.plan.order (names_of program g.plan.order) v.many.words at
        also_range.0 also_range.1 in
        let made = w.paragraphs.each at range.0 shaped.0 cells.0 name.0 here range.1 shaped.1
        cells.1 name.1 is in
        let also_made = v.paragraphs.each at also_range.0 also_shaped.0 also_cells.0 also_name.0
        there also_range.1 also_shaped.1 also_cells.1 also_name.1 also_is in
        let names : Some name.0 ≡ Some also_name.0 =
        sym name.1
        ∙ ap (λ (order : List code.Range). slice_get (names_of program order) at)
        (sym (order-same h.plan g.plan))
        ∙ also_name.1 in
        paragraph-same here there (made.named ∙ names ∙ sym also_made.named)
        (made.bare ∙ sym also_made.bare)
        (statements-at first.paragraphs second.paragraphs
        (control-loses_nothing first second own controls-same) at here there is also_is)

    paragraphs-same : first.paragraphs ≡ second.paragraphs
    paragraphs-same =
        lists-same first.paragraphs second.paragraphs
        (h.written.paragraphs.count
        ∙ ap (λ (order : List code.Range). length order) (sym (order-same h.plan g.plan))
        ∙ sym g.written.paragraphs.count) paragraph-at

    entries-same : first.entries ≡ second.entries
    entries-same =
        h.written.entries
        ∙ ap (λ (rows : List CellRange).
        program.entries ++ entries_of (entries_for (table_of (program_words program)) rows))
        both-rows
        ∙ sym g.written.entries

    made-same : first ≡ second
    made-same =
        ap (λ (n : List ℕ). record {
          name = n;
          files = first.files;
          entries = first.entries;
          paragraphs = first.paragraphs;
        }) (h.written.name ∙ sym g.written.name)
        ∙ ap (λ (fs : List FileEntry). record {
          name = second.name;
          files = fs;
          entries = first.entries;
          paragraphs = first.paragraphs;
        }) (h.written.files ∙ sym g.written.files)
        ∙ ap₂ (λ (es : List Entry) (ps : List Paragraph). record {
          name = second.name;
          files = second.files;
          entries = es;
          paragraphs = ps;
        }) entries-same paragraphs-same

  split-same : (first second : Split) → IsSplitWith program one first →
      IsSplitWith program other second → first ≡ second
  split-same first second h g =
      ap₂ (λ (made : Program) (added : AddedCounts). (
      let split : Split = record { program = made; added = added } in split
      )) (made-same first.program second.program h.is g.is)
      (h.added
      ∙ ap (λ (rows : List CellRange). counts_of (item_kinds rows))
      (both-rows first.program second.program h.is g.is)
      ∙ sym g.added)

pub one-split : SplitsAreOne
one-split program one other well flows also_flows = record {
  made = split-same program one other well flows also_flows;
  limit = limit-same program one other well flows also_flows;
  within = split-within program one other well flows also_flows;
}
