-- What the headline asks, of a program that was split.
use Rattle.std.proofs.Common.{◌≡◌, ◌<◌, ℕ, true, false, List, [], ◌∷◌, map, length, Some, slice_get, IsTrue, refl, ap, sym, subst, ◌∙◌, arith}
use Rattle.cob_tree.specs.declared.program.Paragraph.{Paragraph}
use Rattle.cob_tree.specs.declared.program.Program.{Program}
use Rattle.cob_tree.specs.declared.program.Range as code
use Rattle.control_flow_theory.specs.language.Control.{control_of}
use Rattle.control_flow_theory.specs.language.Language as language
use Rattle.control_flow_theory.specs.language.Language.{Range, Main}
use Rattle.control_flow_theory.specs.language.Structured.{IsStructuredControl}
use Rattle.control_flow_theory.specs.lowering.FlowFacts.{IsSource}
use Rattle.control_flow_theory.specs.graph_rules.Walked.{In}
use Rattle.control_flow_theory.specs.graph_rules.Reduced.{Graphs, size}
use Rattle.program_facts.specs.completion.FlowFacts.{flow_facts_of}
use Rattle.control_flow_theory.specs.main_theorem.Chain.{EachCellServed, GraphsServed}
use Rattle.control_flow_theory.specs.main_theorem.MainTheorem.{Plan, graphs_by}
use Rattle.control_flow_theory.specs.expressible_graphs.Laws.{CountersAreServed}
use Rattle.cobol_theory.proofs.cobol_parts_lemmas.Sources.{source}
use Rattle.cobol_theory.specs.cobol_meaning.Same.{SameBehaviour}
use Rattle.meanings.specs.statements.Does.{declared_in}
use Rattle.cobol_theory.specs.added_items.Own.{items}
use Rattle.cobol_theory.proofs.added_items_lemmas.Layouts.{inside-of}
use Rattle.cobol_theory.specs.cell_serving.Entries.{added_to}
use Rattle.cobol_theory.specs.cell_serving.Tested.{kinds_of}
use Rattle.program_points.proofs.table_building_lemmas.Sections.{seen-length}
use Rattle.procedure_split.proofs.plan_lemmas.CobolPlans.{cobol-planned}
use Rattle.out_names.specs.Naming.{names_of}
use Rattle.out_names.specs.Words.{program_words, table_of}
use Rattle.program_facts.specs.well_scoped.Part.{is_filled}
use Rattle.statement_builders.specs.arms.EmptyArms.{empties}
use Rattle.statement_builders.specs.item_words.Words.{AreItems}
use Rattle.added_items.proofs.item_table_lemmas.Entered.{are-entries}
use Rattle.added_items.proofs.item_table_lemmas.Served.{are-served}
use Rattle.added_items.specs.item_table.CellItem.{StandOnce}
use Rattle.added_items.specs.item_table.Laws.{closed_ranges}
use Rattle.added_items.specs.item_table.Row.{CellRange}
use Rattle.added_items.specs.item_table.Tables.{most_arms, table_of_cells}
use Rattle.lowering_labels.specs.points.FallThrough.{seen_range}
use Rattle.control_flow_theory.proofs.rendering_lemmas.Written.{map-get}
use Rattle.procedure_split.proofs.counter_serving_lemmas.Served.{counters-served}
use Rattle.cobol_theory.specs.cobol_headline.Alike.{Writing, naming_of, writable_of, CanBeWritten, IsWrittenOf}
use Rattle.cobol_theory.proofs.cobol_headline_lemmas.Joined.{alike}
use Rattle.cobol_theory.specs.served_programs.Laws.{KeepsAtEnd}
use Rattle.cobol_theory.proofs.served_programs_lemmas.Taken.{graphs-served}
use Rattle.procedure_split.specs.shaped_ranges.Laws.{HasFlow, IsPlannedWith}
use Rattle.procedure_split.specs.shaped_ranges.Shaping.{IsShapedTo}
use Rattle.procedure_split.specs.declared.shaped_ranges.shaping.Closed.{Closed}
use Rattle.procedure_split.proofs.shaped_ranges_lemmas.Keeping.{AreApart}
use Rattle.procedure_split.proofs.shaped_ranges_lemmas.Planning.{are-planned}
use Rattle.procedure_split.specs.made_procedures.Laws.{AreMade}
use Rattle.procedure_split.specs.made_procedures.Made.{HaveItems, way_of}
use Rattle.procedure_split.proofs.made_procedures_lemmas.Making.{made-written}
use Rattle.procedure_split.proofs.made_procedures_lemmas.Plans.{each-closed, entry-first}
use Rattle.procedure_split.proofs.made_procedures_lemmas.Rows.{beside, shaped-at, all-as-planned, later-apart, in-at}
use Rattle.pending_returns.specs.declared.facts.Summary.{Summary}
use Rattle.procedure_split.specs.Rows.{row_of, rows_of}
use Rattle.procedure_split.specs.Splitting.{IsSplit}
use Rattle.procedure_split.specs.Writing.{added_entries}
use Rattle.procedure_split.specs.split_behaviour.Alike.{IsWellMade, SplitProgramsBehaveAlike}
use Rattle.pending_returns.specs.FaultFree.{IsFaultFree}
use Rattle.procedure_split.proofs.split_behaviour_lemmas.ClosedRows.{closed_row, row-is, row-at, all-rows, stand-once}
use Rattle.procedure_split.proofs.split_behaviour_lemmas.FewNodes.{as-many-graphs, few-nodes}

some-there : (paragraphs : List Paragraph) → IsTrue (is_filled paragraphs) → 0 < length paragraphs
some-there [] some = cc
some-there (paragraph ∷ paragraphs) some = omega arith

module _ (program made : Program) (summary : Summary) (well : IsWellMade program)
    (flows : IsFaultFree program summary) (split : IsSplit program summary made) where
  abbrev pub control : language.Program
  control = control_of program

  abbrev pub order : List code.Range
  order = split.plan.order

  abbrev pub rows : List CellRange
  rows = rows_of order split.closed

  pub flow : HasFlow program summary
  flow = record {
    items = well.proper.own_items;
    paragraphs = well.proper.own_paragraphs;
    some = some-there program.paragraphs well.fit.own.some;
    flow = flows;
  }

  pub some : 0 < length control.paragraphs
  some = subst (λ n. 0 < n) (sym (seen-length 0 program.paragraphs)) flow.some

  -- the plan

  pub found : (plan : Plan) × IsPlannedWith program split.plan.returning order split.graphs plan
  found = are-planned program summary split.plan.returning order split.graphs flow split.plan.is
      split.lowered.are

  abbrev pub plan : Plan
  plan = found.0

  pub planned : IsPlannedWith program split.plan.returning order split.graphs plan
  planned = found.1

  abbrev pub graphs : Graphs
  graphs = graphs_by plan control

  abbrev pub ranges : List Range
  ranges = Main ∷ plan.others

  pub is-source : IsSource plan.told control
  is-source =
      subst (λ told. IsSource told control) (sym planned.told)
      (source (declared_in program) split.plan.returning program flow.items flow.paragraphs)

  pub in-order : map seen_range order ≡ ranges
  in-order =
      all-as-planned order
      ∙ (cobol-planned program summary split.plan.returning order flow.items flow.paragraphs some
      flow.flow.never flow.flow.is split.plan.is).1.main
      ∙ ap (λ others. Main ∷ others) (sym planned.others)

  apart : AreApart ranges
  apart = later-apart plan.told control ranges planned.planned.order

  in-ranges : (at : ℕ) (range : code.Range) → slice_get order at ≡ Some range →
      In (seen_range range) ranges
  in-ranges at range here =
      in-at ranges at (seen_range range)
      (subst (λ all. slice_get all at ≡ Some (seen_range range)) in-order
      (map-get seen_range order at range here))

  -- how it is written

  abbrev pub writing : Writing
  writing = record {
    returning = split.plan.returning;
    plan = plan;
    cells = added_entries program order split.closed;
    table = table_of_cells rows;
    empty = empties (table_of_cells rows);
  }

  -- the rows are those of the closed graphs

  row-closed : (at : ℕ) (range : code.Range) (one : Closed) → slice_get order at ≡ Some range →
      slice_get split.closed at ≡ Some one →
      row_of range one ≡ closed_row graphs (seen_range range)
  row-closed at range one here there =
      let which = seen_range range in
      let shaped = shaped-at split.graphs split.closed split.shaped at one there in
      let closed = each-closed (naming_of program writing) plan control is-source some
      planned.planned which (in-ranges at range here) in
      row-is range (graphs which) one (entry-first (graphs which) closed)
      (subst (λ graph. IsShapedTo graph one) (planned.each at range shaped.0 here shaped.1)
      shaped.2)

  rows-are : rows ≡ closed_ranges ranges graphs
  rows-are =
      all-rows graphs order split.closed split.written.many.trees row-closed
      ∙ ap (λ all. closed_ranges all graphs) in-order

  once : StandOnce rows
  once = subst StandOnce (sym rows-are) (stand-once graphs ranges apart)

  -- the items of its cells

  own-items : length program.entries ≡ items (declared_in program)
  own-items = (inside-of program.entries well.proper.begins).0

  have-items : HaveItems program writing order split.written.cells
  have-items = λ at range own here there.
      let one = beside order split.closed split.written.many.trees at range here in
      let such = split.written.items.1 once at (row_of range one.0) own
      (row-at order split.closed at range one.0 here one.1) there in
      let way = way_of program writing range in
      subst (λ first. AreItems (record {
        first = first;
        table = way.table;
        place = way.place;
        range = way.range;
      }) own) own-items (such.1 way.place)

  few : (range : Range) → In range ranges → size (graphs range).nodes < most_arms
  few range here =
      few-nodes graphs order split.graphs
      (as-many-graphs (flow_facts_of program.files split.plan.returning) control order split.graphs
      split.lowered.are)
      split.lowered.within planned.each range
      (subst (λ all. In range all) (sym in-order) here)

  abbrev CellsServedBy : List CellRange → Type 0
  CellsServedBy rows = EachCellServed
      (kinds_of (declared_in program) (added_to program writing.cells) (table_of_cells rows))
      ranges graphs

  cells-served : CellsServedBy rows
  cells-served =
      subst CellsServedBy (sym rows-are)
      (are-served (declared_in program) (added_to program writing.cells) ranges graphs few)

  pub keeps : KeepsAtEnd writing
  keeps range file into true = refl
  keeps range file into false = refl

  abbrev CountersServedBy : List CellRange → Type 0
  CountersServedBy rows = CountersAreServed
      (kinds_of (declared_in program) (added_to program writing.cells) (table_of_cells rows))
      ranges graphs

  pub counters : CountersServedBy rows
  counters =
      subst CountersServedBy (sym rows-are)
      (counters-served (declared_in program) (added_to program writing.cells) ranges graphs)

  parts-served : GraphsServed (naming_of program writing) (writable_of program writing) ranges
      graphs
  parts-served =
      graphs-served program writing well.proper well.whole well.fit keeps planned.told
      planned.planned.just counters

  pub can-be : CanBeWritten program writing
  can-be = record {
    told = planned.told;
    some = some;
    fair = planned.fair;
    planned = planned.planned;
    called = planned.called;
    entries = are-entries (table_of (program_words program)) rows;
    cells = cells-served;
    parts = parts-served;
  }

  are-made : AreMade program made writing
  are-made = record {
    summary = summary;
    flow = flow;
    order = order;
    by = split.plan.is;
    graphs = split.graphs;
    planned = planned;
    closed = split.closed;
    shaped = split.shaped;
    empty = refl;
    cells = split.written.cells;
    items = have-items;
    places = split.written.places;
    placed = split.written.placed;
    names = names_of program order;
    many = split.written.many;
    paragraphs = split.written.paragraphs;
  }

  pub is-written : IsWrittenOf program made writing
  is-written = record {
    files = split.written.files;
    entries = split.written.entries;
    control = made-written program made writing are-made;
  }

  behaves : IsStructuredControl (control_of made) × SameBehaviour program made
  behaves = alike program made writing well.proper can-be is-written

pub behave-alike : SplitProgramsBehaveAlike
behave-alike = behaves
