-- What a program is restructured to behaves as it did.
use Rattle.std.proofs.Common.{◌≡◌, ◌<◌, true, false, List, refl, ap, sym, subst, ◌∙◌}
use Rattle.cob_tree.specs.declared.program.Program.{Program}
use Rattle.control_flow_theory.specs.language.Control.{control_of}
use Rattle.control_flow_theory.specs.language.Language.{Range}
use Rattle.control_flow_theory.specs.language.Structured.{IsStructuredControl}
use Rattle.control_flow_theory.specs.graph_rules.Walked.{In}
use Rattle.control_flow_theory.specs.graph_rules.Reduced.{Graphs, size}
use Rattle.control_flow_theory.specs.rendering.Rendering.{rendered}
use Rattle.control_flow_theory.specs.main_theorem.Chain.{EachCellServed, GraphsServed}
use Rattle.control_flow_theory.specs.expressible_graphs.Laws.{CountersAreServed}
use Rattle.meanings.specs.statements.Does.{declared_in}
use Rattle.cobol_theory.specs.cobol_meaning.Same.{SameBehaviour}
use Rattle.cobol_theory.specs.cell_serving.Entries.{added_to}
use Rattle.cobol_theory.specs.cell_serving.Tested.{kinds_of}
use Rattle.cobol_theory.specs.cobol_headline.Alike.{Writing, naming_of, writable_of, CanBeWritten, IsWrittenOf}
use Rattle.cobol_theory.proofs.cobol_headline_lemmas.Joined.{alike}
use Rattle.cobol_theory.specs.served_programs.Laws.{KeepsAtEnd}
use Rattle.cobol_theory.proofs.served_programs_lemmas.Taken.{graphs-served}
use Rattle.pending_returns.specs.FaultFree.{IsFaultFree}
use Rattle.pending_returns.specs.declared.facts.Summary.{Summary}
use Rattle.out_names.specs.Words.{program_words, table_of}
use Rattle.statement_builders.specs.arms.EmptyArms.{empties}
use Rattle.added_items.specs.item_table.Naming.{entries_for}
use Rattle.added_items.specs.item_table.Row.{CellRange}
use Rattle.added_items.specs.item_table.Tables.{most_arms, table_of_cells}
use Rattle.added_items.proofs.item_table_lemmas.Entered.{are-entries}
use Rattle.added_items.proofs.item_table_lemmas.Served.{are-served}
use Rattle.procedure_split.specs.split_behaviour.Alike.{IsWellMade}
use Rattle.procedure_split.proofs.counter_serving_lemmas.Served.{counters-served}
use Rattle.end_to_end_laws.specs.rewriting.lowered_families.Lowered.{in_order}
use Rattle.end_to_end_laws.specs.results.restructured_programs.Result.{IsRestructuredTo, rows_in}
use Rattle.end_to_end_laws.specs.results.restructured_programs.Laws.{ResultsBehaveAlike}
use Rattle.end_to_end_laws.proofs.results_lemmas.read_headline_lemmas.WellMade.{well-made}
use Rattle.end_to_end_laws.proofs.results_lemmas.restructured_programs_lemmas.Existing.{are-numbered}
use Rattle.end_to_end_laws.proofs.results_lemmas.restructured_programs_lemmas.Planned as planned

module _ (program made : Program) (summary : Summary) (well : IsWellMade program)
    (flows : IsFaultFree program summary) (result : IsRestructuredTo program summary made) where
  abbrev rows : List CellRange
  rows = rows_in result.plan.order result.graphs

  abbrev graphs : Graphs
  graphs = planned.graphs program summary well flows result.plan result.graphs result.lowered

  abbrev ranges : List Range
  ranges = planned.ranges program summary well flows result.plan result.graphs result.lowered

  pub ranges-are : in_order result.plan.order ≡ ranges
  ranges-are = planned.ranges-are program summary well flows result.plan result.graphs result.lowered

  rows-are : rows ≡ planned.rows_by program summary well flows result.plan result.graphs result.lowered
  rows-are = planned.rows-are program summary well flows result.plan result.graphs result.lowered

  abbrev pub writing : Writing
  writing = record {
    returning = result.plan.returning;
    plan = planned.plan program summary well flows result.plan result.graphs result.lowered;
    cells = entries_for (table_of (program_words program)) rows;
    table = table_of_cells rows;
    empty = empties (table_of_cells rows);
  }

  pub is-written : IsWrittenOf program made writing
  is-written = record {
    files = result.files;
    entries = result.entries;
    control = result.control
        ∙ ap (rendered (naming_of program writing))
        (planned.procedures-are program summary well flows result.plan result.graphs result.lowered);
  }

  abbrev CellsServedBy : List CellRange → Type 0
  CellsServedBy rows = EachCellServed
      (kinds_of (declared_in program) (added_to program writing.cells) (table_of_cells rows))
      ranges graphs

  abbrev CountersServedBy : List CellRange → Type 0
  CountersServedBy rows = CountersAreServed
      (kinds_of (declared_in program) (added_to program writing.cells) (table_of_cells rows))
      ranges graphs

  keeps : KeepsAtEnd writing
  keeps range file into true = refl
  keeps range file into false = refl

  counters : CountersServedBy rows
  counters =
      subst CountersServedBy (sym rows-are)
      (counters-served (declared_in program) (added_to program writing.cells) ranges graphs)

  parts-served : GraphsServed (naming_of program writing) (writable_of program writing) ranges
      graphs
  parts-served =
      graphs-served program writing well.proper well.whole well.fit keeps refl
      (planned.is-plan program summary well flows result.plan result.graphs result.lowered).just
      counters

  module _ (numbered : (range : Range) → In range (in_order result.plan.order) →
      size (graphs range).nodes < most_arms) where
    few : (range : Range) → In range ranges → size (graphs range).nodes < most_arms
    few range here = numbered range (subst (λ l. In range l) (sym ranges-are) here)

    cells-served : CellsServedBy rows
    cells-served =
        subst CellsServedBy (sym rows-are)
        (are-served (declared_in program) (added_to program writing.cells) ranges graphs few)

    can-be : CanBeWritten program writing
    can-be = record {
      told = refl;
      some = planned.some program summary well flows result.plan result.graphs result.lowered;
      fair = planned.fair program summary well flows result.plan result.graphs result.lowered;
      planned = planned.is-plan program summary well flows result.plan result.graphs result.lowered;
      called = planned.called program summary well flows result.plan result.graphs result.lowered;
      entries = are-entries (table_of (program_words program)) rows;
      cells = cells-served;
      parts = parts-served;
    }

    pub behaves : IsStructuredControl (control_of made) × SameBehaviour program made
    behaves = alike program made writing well.proper can-be is-written

pub results-alike : ResultsBehaveAlike
results-alike bytes program made summary reads flows result =
    let well = well-made bytes program reads in
    behaves program made summary well flows result
    (λ range here. are-numbered bytes program result.plan.returning range
    (planned.graphs program summary well flows result.plan result.graphs result.lowered range) reads
    (planned.is-graph program summary well flows result.plan result.graphs result.lowered range
    here))
