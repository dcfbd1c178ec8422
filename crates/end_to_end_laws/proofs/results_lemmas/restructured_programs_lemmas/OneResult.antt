-- A program is restructured to one program.
use Rattle.std.proofs.Common.{◌≡◌, ◌<◌, ℕ, suc, List, [], ◌∷◌, ◌++◌, map, length, Some, slice_get, refl, ap, ap₂, sym, subst, ◌∙◌}
use Rattle.cob_base.specs.Limit.{max_nodes}
use Rattle.cob_tree.specs.declared.entry.Entry.{Entry}
use Rattle.cob_tree.specs.declared.file.FileEntry.{FileEntry}
use Rattle.cob_tree.specs.declared.program.Paragraph.{Paragraph}
use Rattle.cob_tree.specs.declared.program.Program.{Program}
use Rattle.cob_tree.specs.declared.program.Range as code
use Rattle.control_flow_theory.specs.language.Control.{control_of}
use Rattle.control_flow_theory.specs.language.Language as language
use Rattle.control_flow_theory.specs.language.Own.{OwnParagraphs}
use Rattle.control_flow_theory.proofs.language_lemmas.Losing.{control-loses_nothing}
use Rattle.control_flow_theory.specs.graph_rules.Reduced.{Graph}
use Rattle.control_flow_theory.specs.rendering.Rendering.{rendered}
use Rattle.program_facts.specs.completion.FlowFacts.{flow_facts_of}
use Rattle.program_points.specs.numbering.Kind.{never_first_of}
use Rattle.pending_returns.specs.FaultFree.{IsFaultFree}
use Rattle.pending_returns.specs.declared.facts.RangeFacts.{RangeFacts}
use Rattle.pending_returns.specs.declared.facts.Summary.{Summary}
use Rattle.out_names.specs.Naming.{named, names_behind, names_of, own_label}
use Rattle.out_names.specs.Ordering.{order_of}
use Rattle.out_names.specs.Words.{program_words, table_of}
use Rattle.cobol_theory.specs.cell_serving.Entries.{entries_of}
use Rattle.added_items.specs.item_table.Naming.{entries_for}
use Rattle.procedure_split.specs.plan.Planned.{calls_of, range_at, table_by}
use Rattle.procedure_split.specs.shaped_ranges.Graphs.{HaveGraphs, total_size}
use Rattle.procedure_split.specs.Splitting.{Planned}
use Rattle.procedure_split.proofs.made_procedures_lemmas.Rows.{beside}
use Rattle.procedure_split.proofs.one_split_lemmas.Graphs.{one-list}
use Rattle.procedure_split.proofs.one_split_lemmas.Owned.{rendered-own}
use Rattle.procedure_split.proofs.one_split_lemmas.Written.{lists-same, paragraph-same, statements-at}
use Rattle.procedure_split.proofs.one_summary_lemmas.Facts.{summaries-same}
use Rattle.end_to_end_laws.specs.results.restructured_programs.Result.{IsRestructuredTo, naming_with, procedures_in, rows_in}
use Rattle.end_to_end_laws.specs.results.restructured_programs.Laws.{LimitsTellOfResults, ResultsAreOne}

module _ (program : Program) (one other : Summary) (flows : IsFaultFree program one)
    (also_flows : IsFaultFree program other) where
  abbrev control : language.Program
  control = control_of program

  ranges-same : one.ranges ≡ other.ranges
  ranges-same = summaries-same (never_first_of program.files) control one other flows.is
      also_flows.is

  -- both have one plan, and its ranges one list of graphs

  returning-same : (p : Planned program one) (q : Planned program other) →
      q.returning ≡ p.returning
  returning-same p q =
      q.is.table ∙ ap (λ (rs : List RangeFacts). table_by rs) (sym ranges-same) ∙ sym p.is.table

  order-same : (p : Planned program one) (q : Planned program other) → q.order ≡ p.order
  order-same p q =
      q.is.stands
      ∙ ap (λ (rs : List RangeFacts). map (range_at rs) (order_of (calls_of rs))) (sym ranges-same)
      ∙ sym p.is.stands

  pub graphs-same : (p : Planned program one) (q : Planned program other)
      (graphs others : List Graph) →
      HaveGraphs (flow_facts_of program.files p.returning) control p.order graphs →
      HaveGraphs (flow_facts_of program.files q.returning) control q.order others → graphs ≡ others
  graphs-same p q graphs others have also_have =
      one-list (flow_facts_of program.files p.returning) control p.order graphs others have
      (subst (λ (order : List code.Range).
      HaveGraphs (flow_facts_of program.files p.returning) control order others) (order-same p q)
      (subst (λ (table : List (List ℕ)).
      HaveGraphs (flow_facts_of program.files table) control q.order others) (returning-same p q)
      also_have))

  module _ (first second : Program) (h : IsRestructuredTo program one first)
      (g : IsRestructuredTo program other second) where
    orders : h.plan.order ≡ g.plan.order
    orders = sym (order-same h.plan g.plan)

    graphs : h.graphs ≡ g.graphs
    graphs = graphs-same h.plan g.plan h.graphs g.graphs h.lowered g.lowered

    abbrev written : List code.Range → List Graph → language.Program
    written order graphs =
        rendered (naming_with program (rows_in order graphs)) (procedures_in order graphs)

    controls : control_of first ≡ control_of second
    controls = h.control ∙ ap₂ written orders graphs ∙ sym g.control

    own : OwnParagraphs (control_of first).paragraphs
    own =
        subst (λ (p : language.Program). OwnParagraphs p.paragraphs) (sym h.control)
        (rendered-own (naming_with program (rows_in h.plan.order h.graphs))
        (procedures_in h.plan.order h.graphs))

    paragraph-at : (many : length (names_of program h.plan.order) ≡ length h.plan.order) (at : ℕ)
        (here there : Paragraph) → slice_get first.paragraphs at ≡ Some here →
        slice_get second.paragraphs at ≡ Some there → here ≡ there
    paragraph-at many at here there is also_is =
        let name = beside first.paragraphs (names_of program h.plan.order) (many ∙ sym h.many) at
        here is in
        let mine = h.called at name.0 here name.1 is in
        let others = g.called at name.0 there
        (subst (λ (order : List code.Range). slice_get (names_of program order) at ≡ Some name.0)
        orders name.1) also_is in
        paragraph-same here there (mine.named ∙ sym others.named) (mine.free ∙ sym others.free)
        (statements-at first.paragraphs second.paragraphs
        (control-loses_nothing first second own controls) at here there is also_is)

    paragraphs : length (names_of program h.plan.order) ≡ length h.plan.order →
        first.paragraphs ≡ second.paragraphs
    paragraphs many =
        lists-same first.paragraphs second.paragraphs
        (h.many ∙ ap (λ (order : List code.Range). length order) orders ∙ sym g.many)
        (paragraph-at many)

    entries : first.entries ≡ second.entries
    entries =
        h.entries
        ∙ ap₂ (λ (order : List code.Range) (graphs : List Graph). program.entries
        ++ entries_of (entries_for (table_of (program_words program)) (rows_in order graphs)))
        orders graphs
        ∙ sym g.entries

    pub made-same : length (names_of program h.plan.order) ≡ length h.plan.order → first ≡ second
    made-same many =
        ap (λ (n : List ℕ). record {
          name = n;
          files = first.files;
          entries = first.entries;
          paragraphs = first.paragraphs;
        }) (h.name ∙ sym g.name)
        ∙ ap (λ (fs : List FileEntry). record {
          name = second.name;
          files = fs;
          entries = first.entries;
          paragraphs = first.paragraphs;
        }) (h.files ∙ sym g.files)
        ∙ ap₂ (λ (es : List Entry) (ps : List Paragraph). record {
          name = second.name;
          files = second.files;
          entries = es;
          paragraphs = ps;
        }) entries (paragraphs many)

-- there is a name for each range
names-many : (words : List (List ℕ)) (paragraphs : List Paragraph) (before : List code.Range)
    (from : ℕ) (ranges : List code.Range) →
    length (names_behind words paragraphs before from ranges) ≡ length ranges
names-many words paragraphs before from [] = refl
names-many words paragraphs before from (range ∷ ranges) =
    let next = named words (own_label paragraphs before range.entry) from in
    ap (λ (n : ℕ). suc n) (names-many words paragraphs (before ++ range ∷ []) next.next ranges)

pub names-as-many : (program : Program) (ranges : List code.Range) →
    length (names_of program ranges) ≡ length ranges
names-as-many program ranges =
    names-many (table_of (program_words program)) program.paragraphs [] 1 ranges

pub results-one : ResultsAreOne
results-one bytes program made other summary again reads flows also_flows h g =
    made-same program summary again flows also_flows made other h g
    (names-as-many program h.plan.order)

pub limits-tell : LimitsTellOfResults
limits-tell bytes program made summary limit reads flows large result =
    subst (λ (graphs : List Graph). max_nodes < total_size graphs)
    (graphs-same program summary summary flows flows large.plan result.plan large.past.graphs
    result.graphs large.past.have result.lowered)
    large.past.past
