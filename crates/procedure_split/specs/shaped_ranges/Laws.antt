-- With these graphs a COBOL program that isn't faulty is planned as the headline asks.
use Rattle.std.specs.Prelude.{ℕ, ◌≡◌, ◌<◌, List, ◌∷◌, length, Some, slice_get}
use Rattle.cob_tree.specs.declared.program.Program as cobol
use Rattle.cob_tree.specs.declared.program.Range as code
use Rattle.control_flow_theory.specs.language.Control.{control_of}
use Rattle.control_flow_theory.specs.language.Language.{Main}
use Rattle.control_flow_theory.specs.language.OwnItems.{NamesOwnItems}
use Rattle.control_flow_theory.specs.lowering.flow.Paths as theory
use Rattle.program_facts.specs.completion.FlowFacts.{flow_facts_of}
use Rattle.cobol_theory.specs.cobol_parts.Named.{NamesOwnParagraphs}
use Rattle.control_flow_theory.specs.main_theorem.Chain.{IsPlan}
use Rattle.control_flow_theory.specs.main_theorem.CallsReached.{CalledByPaths}
use Rattle.control_flow_theory.specs.main_theorem.MainTheorem.{Plan, graphs_by}
use Rattle.pending_returns.specs.declared.facts.Summary.{Summary}
use Rattle.pending_returns.specs.FaultFree.{IsFaultFree}
use Rattle.procedure_split.specs.plan.Planned.{IsPlanOf}
use Rattle.procedure_split.specs.plan.Laws.{others_of}
use Rattle.branch_tree.specs.Graph.{seen_graph}
use Rattle.branch_tree.specs.declared.graph.Graph.{Graph}
use Rattle.lowering_labels.specs.points.FallThrough.{seen_range}
use Rattle.procedure_split.specs.shaped_ranges.Graphs.{AreGraphsOf}

-- a program whose flow has this summary, without a fault
pub record HasFlow (program : cobol.Program) (summary : Summary) : Type 0 where
  -- it names its own items
  pub items : NamesOwnItems program
  -- and its own paragraphs
  pub paragraphs : NamesOwnParagraphs program
  -- it has a paragraph
  pub some : 0 < length program.paragraphs
  -- this is the summary of its flow, without a fault
  pub flow : IsFaultFree program summary

-- a plan whose graphs these are
pub record IsPlannedWith (program : cobol.Program) (returning : List (List ℕ))
    (order : List code.Range) (graphs : List Graph) (plan : Plan) : Type 0 where
  -- lowering knows the files and the ranges that return
  pub told : plan.told ≡ flow_facts_of program.files returning
  -- the ranges after main come in this order
  pub others : plan.others ≡ others_of order
  -- no flow path comes to a fault
  pub fair : theory.HasFaultyRun plan.told (control_of program) → ⊥
  pub planned : IsPlan plan.told (control_of program) plan.keep plan.others
  -- each other range is performed by a path of an earlier one
  pub called : CalledByPaths plan.told (control_of program) (Main ∷ plan.others)
  -- each graph is that of its range
  pub each : (at : ℕ) (range : code.Range) (graph : Graph) →
      slice_get order at ≡ Some range → slice_get graphs at ≡ Some graph →
      seen_graph graph ≡ graphs_by plan (control_of program) (seen_range range)

-- the graphs of a program's ranges are those of a plan
abbrev pub RangesArePlanned : Type 0
RangesArePlanned =
    (program : cobol.Program) (summary : Summary) (returning : List (List ℕ))
    (order : List code.Range) (graphs : List Graph) → HasFlow program summary →
    IsPlanOf summary.ranges returning order →
    AreGraphsOf (flow_facts_of program.files returning) (control_of program) order graphs →
    (plan : Plan) × IsPlannedWith program returning order graphs plan
