-- What is made of the shaped ranges of a plan is its closed graphs, written.
use Rattle.std.specs.Prelude.{ℕ, ◌≡◌, List}
use Rattle.cob_tree.specs.declared.program.Program.{Program}
use Rattle.cob_tree.specs.declared.program.Range.{Range}
use Rattle.control_flow_theory.specs.language.Control.{control_of}
use Rattle.control_flow_theory.specs.rendering.Rendering.{rendered}
use Rattle.control_flow_theory.specs.main_theorem.MainTheorem.{procedures_by}
use Rattle.pending_returns.specs.declared.facts.Summary.{Summary}
use Rattle.procedure_split.specs.plan.Planned.{IsPlanOf}
use Rattle.branch_tree.specs.declared.graph.Graph.{Graph}
use Rattle.statement_builders.specs.arms.EmptyArms.{empties}
use Rattle.statement_builders.specs.declared.arms.placing.ProcedurePlace.{ProcedurePlace}
use Rattle.statement_builders.specs.declared.item_words.cells.CellItem.{CellItem}
use Rattle.cobol_theory.specs.cobol_headline.Alike.{Writing, naming_of}
use Rattle.procedure_split.specs.shaped_ranges.Laws.{HasFlow, IsPlannedWith}
use Rattle.procedure_split.specs.shaped_ranges.Shaping.{AllShaped}
use Rattle.procedure_split.specs.declared.shaped_ranges.shaping.Closed.{Closed}
use Rattle.procedure_split.specs.made_procedures.Made.{AreAsMany, ArePlacesIn, AreParagraphsOf, HaveItems}

-- a program's plan, its graphs and what they are shaped to; items for the cells, names and places;
-- and the paragraphs that are made of these
pub record AreMade (program result : Program) (writing : Writing) : Type 0 where
  pub summary : Summary
  -- the program has this flow, without a fault
  pub flow : HasFlow program summary
  pub order : List Range
  -- the summary gives the order, and which ranges return
  pub by : IsPlanOf summary.ranges writing.returning order
  pub graphs : List Graph
  -- these are the graphs of the plan
  pub planned : IsPlannedWith program writing.returning order graphs writing.plan
  -- what the graphs are shaped to
  pub closed : List Closed
  -- each graph is shaped so
  pub shaped : AllShaped graphs closed
  -- what becomes of empty arms, by the table of cells
  pub empty : writing.empty ≡ empties writing.table
  -- for each range the items of its cells
  pub cells : List (List CellItem)
  -- each cell has its item
  pub items : HaveItems program writing order cells
  pub places : List ProcedurePlace
  -- each range has its place
  pub placed : ArePlacesIn order places
  pub names : List (List ℕ)
  -- there are as many of each as ranges
  pub many : AreAsMany order closed cells names
  pub paragraphs : AreParagraphsOf order closed cells places names result.paragraphs

-- the result's control is what is written of the closed graphs
abbrev pub MadeProceduresAreWritten : Type 0
MadeProceduresAreWritten = (program result : Program) (writing : Writing) →
    AreMade program result writing →
    control_of result
    ≡ rendered (naming_of program writing) (procedures_by writing.plan (control_of program))
