-- The labels that are reached in a range.
use Rattle.std.specs.Prelude.{ℕ, ◌≡◌, List}
use Rattle.cob_tree.specs.declared.program.Program.{Program}
use Rattle.cob_tree.specs.declared.program.Range as code
use Rattle.control_flow_theory.specs.language.Control.{control_of}
use Rattle.control_flow_theory.specs.semantics.Graph as graph
use Rattle.control_flow_theory.specs.lowering.Lowered.{lowered}
use Rattle.control_flow_theory.specs.lowering.Reached.{IsReached}
use Rattle.control_flow_theory.specs.lowering.WellFormed.{IsRangeOf}
use Rattle.lowering_labels.specs.points.FallThrough.{seen_range}
use Rattle.statement_lowering.specs.LowerList.{flow_facts_by}
use Rattle.statement_lowering.specs.declared.context.LoweringContext.{LoweringContext}
use Rattle.statement_lowering.specs.declared.continuations.continuation.Continuation.{Continuation}
use Rattle.pending_returns.specs.levels.Reach.{Holds}
use Rattle.flow_graph.specs.label_trees.Node.{IsTableOf, node_in}
use Rattle.flow_graph.specs.Jumps.{AddsJumps, JumpBelow}

-- a program of which it is the table, and of which this is a range
pub record IsRangeIn (telling : LoweringContext) (spots : List Continuation) (range : code.Range)
    (program : Program) : Type 0 where
  pub table : IsTableOf telling spots program
  -- the range is one of the program
  pub own : IsRangeOf (control_of program) (seen_range range)

-- the label is reached in the range
abbrev pub Reaches : LoweringContext → Program → code.Range → ℕ → Type 0
Reaches telling program range label =
    IsReached (lowered (flow_facts_by telling) (control_of program)) (seen_range range) label

-- the range begins with this label, whatever the program
abbrev pub Begins : LoweringContext → List Continuation → code.Range → ℕ → Type 0
Begins telling spots range entry =
    (program : Program) → IsRangeIn telling spots range program →
    entry ≡ (lowered (flow_facts_by telling) (control_of program)).entry (seen_range range)

-- these are the labels that are reached, whatever the program
abbrev pub AreReachedIn : LoweringContext → List Continuation → code.Range → List ℕ → Type 0
AreReachedIn telling spots range labels =
    (program : Program) → IsRangeIn telling spots range program →
    ((label : ℕ) → Holds labels label → Reaches telling program range label)
    × ((label : ℕ) → Reaches telling program range label → Holds labels label)

-- those to which the node at a label jumps
abbrev pub AddsNodeJumps : LoweringContext → List Continuation → code.Range → ℕ →
    (before after : List ℕ) → Type 0
AddsNodeJumps telling spots range label before after =
    (program : Program) → IsTableOf telling spots program →
    AddsJumps (graph.end_of (node_in telling program range label)) before after

-- the node at a label jumps to labels below this one, in some program of which it is the table
abbrev pub NodeJumpsBelow : LoweringContext → List Continuation → code.Range → (label end : ℕ) →
    Type 0
NodeJumpsBelow telling spots range label end =
    (program : Program) × IsTableOf telling spots program
    × JumpBelow end (graph.end_of (node_in telling program range label))
