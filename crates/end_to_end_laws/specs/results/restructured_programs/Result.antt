-- What a program is restructured to, whatever the limits on a result.
use Rattle.std.specs.Prelude.{ℕ, ◌≡◌, ◌≤◌, List, ◌++◌, length, Some, None, slice_get}
use Rattle.cob_base.specs.Limit.{max_nesting, max_nodes}
use Rattle.cob_tree.specs.declared.program.Paragraph.{Paragraph}
use Rattle.cob_tree.specs.declared.program.Program.{Program}
use Rattle.cob_tree.specs.declared.program.Range as code
use Rattle.control_flow_theory.specs.language.Control.{control_of}
use Rattle.control_flow_theory.specs.graph_rules.Reduced.{Graph}
use Rattle.control_flow_theory.specs.structuring.Closes.{closed_graph}
use Rattle.control_flow_theory.specs.rendering.Rendering.{Naming, Procedure, rendered}
use Rattle.control_flow_theory.specs.main_theorem.Chain.{procedures_of}
use Rattle.meanings.specs.statements.Does.{declared_in}
use Rattle.cobol_theory.specs.added_items.Own.{items}
use Rattle.cobol_theory.specs.cell_serving.Choosing.{written_chooser}
use Rattle.cobol_theory.specs.cell_serving.Entries.{whole_literal, entries_of}
use Rattle.cobol_theory.specs.cell_serving.Naming.{cell_naming}
use Rattle.program_facts.specs.completion.FlowFacts.{flow_facts_of}
use Rattle.pending_returns.specs.declared.facts.Summary.{Summary}
use Rattle.out_names.specs.Naming.{names_of}
use Rattle.out_names.specs.Words.{program_words, table_of}
use Rattle.statement_builders.specs.arms.EmptyArms.{empties}
use Rattle.added_items.specs.item_table.Laws.{closed_ranges}
use Rattle.added_items.specs.item_table.Naming.{entries_for}
use Rattle.added_items.specs.item_table.Row.{CellRange}
use Rattle.added_items.specs.item_table.Tables.{table_of_cells}
use Rattle.region_rewrite.specs.Shaping.{result_nesting}
use Rattle.procedure_split.specs.shaped_ranges.Graphs.{HaveGraphs, total_size}
use Rattle.procedure_split.specs.Splitting.{Planned}
use Rattle.end_to_end_laws.specs.rewriting.lowered_families.Lowered.{graphs_in, in_order}

-- these ranges, with the cells of their closed graphs
abbrev pub rows_in : List code.Range → List Graph → List CellRange
rows_in order graphs = closed_ranges (in_order order) (graphs_in order graphs)

-- the procedures of these ranges: what all rules leave of their graphs
abbrev pub procedures_in : List code.Range → List Graph → List Procedure
procedures_in order graphs = procedures_of (in_order order) (graphs_in order graphs)

-- what the parts of a program are called in its result, with items for these cells
abbrev pub naming_with : Program → List CellRange → Naming
naming_with program rows =
    cell_naming whole_literal (items (declared_in program)) (table_of_cells rows)
    (written_chooser whole_literal) (empties (table_of_cells rows))

-- the paragraph has this name, and is in no section
pub record IsCalled (name : List ℕ) (paragraph : Paragraph) : Type 0 where
  pub named : paragraph.name ≡ Some name
  pub free : paragraph.section ≡ None

-- the other program is what this one is restructured to: the ranges of its plan are lowered, their
-- graphs are closed by the rules, and what is left is written, a paragraph for each range
pub record IsRestructuredTo (program : Program) (summary : Summary) (made : Program) : Type 0 where
  pub plan : Planned program summary
  pub graphs : List Graph
  -- the ranges of the plan have these graphs
  pub lowered : HaveGraphs (flow_facts_of program.files plan.returning) (control_of program)
      plan.order graphs
  pub name : made.name ≡ program.name
  pub files : made.files ≡ program.files
  -- its entries are the program's, and after them those of the added items
  pub entries : made.entries ≡ program.entries
      ++ entries_of (entries_for (table_of (program_words program)) (rows_in plan.order graphs))
  -- its statements are what is written of the procedures
  pub control : control_of made
      ≡ rendered (naming_with program (rows_in plan.order graphs)) (procedures_in plan.order graphs)
  -- there is a paragraph for each range
  pub many : length made.paragraphs ≡ length plan.order
  -- with the name of its procedure
  pub called : (at : ℕ) (name : List ℕ) (paragraph : Paragraph) →
      slice_get (names_of program plan.order) at ≡ Some name →
      slice_get made.paragraphs at ≡ Some paragraph → IsCalled name paragraph

-- the result is within the limits of splitting
pub record IsWithinSplitting {program : Program} {summary : Summary} {made : Program}
    (result : IsRestructuredTo program summary made) : Type 0 where
  -- all graphs together have no more labels and statements than their limit
  pub small : total_size result.graphs ≤ max_nodes
  -- no graph is closed to a body that nests deeper than the limit
  pub shallow : (at : ℕ) (graph : Graph) → slice_get result.graphs at ≡ Some graph →
      result_nesting (closed_graph graph) ≤ max_nesting
