-- How large the graph of a range is.
use Rattle.std.specs.Prelude.{ℕ, ◌≡◌, ◌-◌, ◌^◌, min, Bool, List}
use Rattle.cob_tree.specs.declared.program.Program as source
use Rattle.cob_tree.specs.declared.program.Range as code
use Rattle.control_flow_theory.specs.language.Control.{control_of}
use Rattle.control_flow_theory.specs.language.Language.{Program, Range}
use Rattle.control_flow_theory.specs.semantics.Graph.{Label}
use Rattle.control_flow_theory.specs.lowering.FlowFacts.{FlowFacts}
use Rattle.control_flow_theory.specs.lowering.WellFormed.{AreJustReached}
use Rattle.flow_graph.specs.Lowered.{lowered_graph}
use Rattle.flow_graph.specs.Reaching.{IsRangeIn}
use Rattle.flow_graph.specs.graph_sizes.Sizing.{graph_size}
use Rattle.lowering_labels.specs.points.FallThrough.{seen_range}
use Rattle.statement_lowering.specs.LowerList.{flow_facts_by}
use Rattle.statement_lowering.specs.declared.context.LoweringContext.{LoweringContext}
use Rattle.statement_lowering.specs.declared.continuations.continuation.Continuation.{Continuation}

-- the graph of exactly the nodes that are reached in a range is so large
abbrev pub IsSizeOf : FlowFacts → Program → Range → ℕ → Type 0
IsSizeOf told program range size =
    (keep : Label → Bool) × AreJustReached told program range keep
    × (size ≡ min (graph_size (lowered_graph told program range keep)) (2 ^ 64 - 1))

-- the graph of the range is so large, whatever the program
abbrev pub IsSizeIn : LoweringContext → List Continuation → code.Range → ℕ → Type 0
IsSizeIn telling spots range size =
    (program : source.Program) → IsRangeIn telling spots range program →
    IsSizeOf (flow_facts_by telling) (control_of program) (seen_range range) size
