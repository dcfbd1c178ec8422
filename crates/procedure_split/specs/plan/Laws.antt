-- The plan of a program that isn't faulty, by flow paths.
use Rattle.std.specs.Prelude.{ℕ, Bool, ◌≡◌, ◌<◌, true, List, [], ◌∷◌, length, map, drop, Option, Some, None}
use Rattle.cob_tree.specs.declared.program.Range as tree
use Rattle.cob_tree.specs.declared.program.Program as cobol
use Rattle.control_flow_theory.specs.language.Control.{control_of}
use Rattle.control_flow_theory.specs.language.OwnItems.{NamesOwnItems}
use Rattle.control_flow_theory.specs.language.Language.{Program, Range, Main, Part}
use Rattle.control_flow_theory.specs.semantics.Graph.{Label}
use Rattle.control_flow_theory.specs.lowering.FlowFacts.{FlowFacts, IsSource}
use Rattle.control_flow_theory.specs.lowering.Lowered.{lowered}
use Rattle.control_flow_theory.specs.lowering.Reached.{AreReached}
use Rattle.control_flow_theory.specs.lowering.WellFormed.{AreJustReached}
use Rattle.control_flow_theory.specs.lowering.flow.Entered.{FreelyComes, IsEntered}
use Rattle.control_flow_theory.specs.lowering.flow.Paths.{HasFaultyRun}
use Rattle.control_flow_theory.specs.graph_rules.Walked.{In}
use Rattle.control_flow_theory.specs.main_theorem.Chain.{CallsStandLater, IsPlan}
use Rattle.control_flow_theory.specs.main_theorem.CallsReached.{GivesSome, CalledByPaths}
use Rattle.program_facts.specs.completion.FlowFacts.{flow_facts_of, returns_by}
use Rattle.cobol_theory.specs.cobol_parts.Named.{NamesOwnParagraphs}
use Rattle.program_points.specs.paths.Flow as flow
use Rattle.program_points.specs.numbering.Kind.{never_first_of}
use Rattle.pending_returns.specs.declared.facts.Summary.{Summary}
use Rattle.pending_returns.specs.Summary.{IsSummary}
use Rattle.procedure_split.specs.plan.Planned.{IsPlanOf}

-- the range from an entry to an exit, as the theory has it; without an exit it is main
abbrev pub ending_at : ℕ → Option ℕ → Range
ending_at entry None = Main
ending_at entry (Some exit) = Part entry exit

-- a range as the theory has it
abbrev pub as_control : tree.Range → Range
as_control range = ending_at range.entry range.exit

-- the ranges that follow main
abbrev pub others_of : List tree.Range → List Range
others_of order = map as_control (drop 1 order)

-- what a plan is by flow paths: main first, each range but main performed by a path of an earlier
-- one's level, none twice, and each that is performed in a range's level after it; the table names
-- the ranges that are entered and return, and none that doesn't return
pub record IsPlannedByPaths (told : FlowFacts) (program : Program) (returning : List (List ℕ))
    (order : List tree.Range) : Type 0 where
  -- main comes first
  pub main : map as_control order ≡ Main ∷ others_of order
  -- each other range is entered by a free flow path
  pub entered : (entry exit : ℕ) → In (Part entry exit) (Main ∷ others_of order) →
      (entry < length program.paragraphs) × IsEntered told program (Part entry exit)
  -- each range comes after those that perform it, and none twice
  pub later : CallsStandLater told program (Main ∷ others_of order)
  -- each other range is performed by a path of an earlier one
  pub called : CalledByPaths told program (Main ∷ others_of order)
  -- the table names each range that is entered and returns
  pub names : (entry exit : ℕ) → IsEntered told program (Part entry exit) →
      FreelyComes told program (Part entry exit) exit [] →
      returns_by returning entry exit ≡ true
  -- and none that doesn't return
  pub exact : (entry exit : ℕ) → returns_by returning entry exit ≡ true →
      FreelyComes told program (Part entry exit) exit []

-- a source that isn't faulty is planned so by its summary, whatever else is known of it
abbrev pub PlansAreByPaths : Type 0
PlansAreByPaths =
    (told : FlowFacts) (program : Program) (summary : Summary) (returning : List (List ℕ))
    (order : List tree.Range) → IsSource told program → GivesSome told →
    0 < length program.paragraphs → (HasFaultyRun told program → ⊥) →
    IsSummary told.never_first program summary → IsPlanOf summary.ranges returning order →
    IsPlannedByPaths told program returning order

-- no flow path of the theory faults in a COBOL program that names its own items and paragraphs and
-- isn't faulty, and its plan is one by paths, for what lowering knows of it
abbrev pub CobolPlansAreByPaths : Type 0
CobolPlansAreByPaths =
    (program : cobol.Program) (summary : Summary) (returning : List (List ℕ))
    (order : List tree.Range) → NamesOwnItems program → NamesOwnParagraphs program →
    0 < length (control_of program).paragraphs →
    (flow.IsFaulty (never_first_of program.files) (control_of program) → ⊥) →
    IsSummary (never_first_of program.files) (control_of program) summary →
    IsPlanOf summary.ranges returning order →
    (HasFaultyRun (flow_facts_of program.files returning) (control_of program) → ⊥)
    × IsPlannedByPaths (flow_facts_of program.files returning) (control_of program) returning order

-- such a program, with the nodes that are reached, has what the headline asks of its flow: it isn't
-- faulty, this is a plan for it, and each range of the order is performed by an earlier one
abbrev pub CobolProgramsHavePlans : Type 0
CobolProgramsHavePlans =
    (program : cobol.Program) (summary : Summary) (returning : List (List ℕ))
    (order : List tree.Range) (keep : Range → Label → Bool) →
    NamesOwnItems program → NamesOwnParagraphs program →
    0 < length (control_of program).paragraphs →
    (flow.IsFaulty (never_first_of program.files) (control_of program) → ⊥) →
    IsSummary (never_first_of program.files) (control_of program) summary →
    IsPlanOf summary.ranges returning order →
    let told = flow_facts_of program.files returning in
    let control = control_of program in
    AreReached (lowered told control) keep →
    ((range : Range) → In range (Main ∷ others_of order) →
    AreJustReached told control range (keep range)) →
    (HasFaultyRun told control → ⊥) × IsPlan told control keep (others_of order)
    × CalledByPaths told control (Main ∷ others_of order)
