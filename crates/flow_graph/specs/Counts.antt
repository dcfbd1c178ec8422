-- How large the graph of a range is: its labels, and the statements of their trees.
use Rattle.std.specs.Prelude.{ℕ, ◌≡◌, ◌+◌, ◌-◌, ◌^◌, ◌<◌, ◌≤◌, min, Bool, List, Option, Some, None, sum_by}
use Rattle.cob_tree.specs.declared.program.Program as source
use Rattle.cob_tree.specs.declared.program.Range as code
use Rattle.control_flow_theory.specs.language.Control.{control_of}
use Rattle.control_flow_theory.specs.language.Language.{Program, Range}
use Rattle.control_flow_theory.specs.semantics.Graph.{Label}
use Rattle.control_flow_theory.specs.lowering.FlowFacts.{FlowFacts}
use Rattle.control_flow_theory.specs.lowering.WellFormed.{AreJustReached}
use Rattle.branch_tree.specs.Graph.{seen_graph}
use Rattle.branch_tree.specs.declared.graph.Graph.{Graph}
use Rattle.flow_graph.specs.graph_sizes.Sizing.{graph_size, tree_size}
use Rattle.lowering_labels.specs.points.FallThrough.{seen_range}
use Rattle.statement_lowering.specs.LowerList.{flow_facts_by}
use Rattle.statement_lowering.specs.declared.context.LoweringContext.{LoweringContext}
use Rattle.flow_graph.specs.label_trees.Node.{IsTableOf, node_in}
use Rattle.statement_lowering.specs.declared.continuations.continuation.Continuation.{Continuation}
use Rattle.flow_graph.specs.Lowered.{IsLoweredIn, lowered_graph}
use Rattle.flow_graph.specs.Reaching.{IsRangeIn}

-- how many statements the tree at a label has
abbrev pub IsSizeAt : LoweringContext → List Continuation → code.Range → ℕ → ℕ → Type 0
IsSizeAt telling spots range label size = (program : source.Program) →
    IsTableOf telling spots program →
    size ≡ min (tree_size (node_in telling program range label)) (2 ^ 64 - 1)

-- the trees at these labels, with the labels, count so many in any program, up to the last number
-- of 64 bits
abbrev pub CountsTo : LoweringContext → List Continuation → code.Range → List ℕ → ℕ → Type 0
CountsTo telling spots range labels count =
    (program : source.Program) → IsTableOf telling spots program →
    count
    ≡ min (sum_by (λ (label : ℕ). 1 + tree_size (node_in telling program range label)) labels)
    (2 ^ 64 - 1)

-- they count no more than this
abbrev pub CountsWithin : LoweringContext → List Continuation → code.Range → List ℕ → (most : ℕ) →
    Type 0
CountsWithin telling spots range labels most =
    (count : ℕ) × CountsTo telling spots range labels count × (count ≤ most)

-- the graph of exactly the nodes that are reached is larger than this
abbrev pub IsLarger : FlowFacts → Program → Range → ℕ → Type 0
IsLarger told program range most = (keep : Label → Bool) →
    AreJustReached told program range keep →
    most < graph_size (lowered_graph told program range keep)

-- the graph of the range is larger than this, whatever the program
abbrev pub IsLargerIn : LoweringContext → List Continuation → code.Range → ℕ → Type 0
IsLargerIn telling spots range most =
    (program : source.Program) → IsRangeIn telling spots range program →
    IsLarger (flow_facts_by telling) (control_of program) (seen_range range) most

-- the graph where it is no larger than this, and none where it is
abbrev pub IsLoweredWithin : LoweringContext → List Continuation → code.Range → (most : ℕ) →
    Option Graph → Type 0
IsLoweredWithin telling spots range most (Some graph) =
    IsLoweredIn telling spots range graph × (graph_size (seen_graph graph) ≤ most)
IsLoweredWithin telling spots range most None = IsLargerIn telling spots range most
