-- What the steps of lowering give, whatever the program.
use Rattle.std.specs.Prelude.{ℕ, ◌≡◌, ◌<◌, ◌≤◌, ◌+◌, ◌-◌, ◌^◌, min, List, Option, Result, Ok, Some, None, slice_get}
use Rattle.cob_base.specs.declared.memory.NoMemory.{NoMemory}
use Rattle.cob_tree.specs.declared.fault.SplitFault.{SplitFault}
use Rattle.cob_tree.specs.declared.fault.SplitFault.TheVariants as fault
use Rattle.cob_tree.specs.declared.program.Program.{Program}
use Rattle.cob_tree.specs.declared.program.Range as code
use Rattle.control_flow_theory.specs.language.Control.{control_of}
use Rattle.control_flow_theory.specs.language.Language as language
use Rattle.control_flow_theory.specs.lowering.WellFormed.{IsRangeOf}
use Rattle.control_flow_theory.specs.graph_rules.Reduced as reduced
use Rattle.branch_tree.specs.Graph.{seen_graph}
use Rattle.branch_tree.specs.declared.graph.Graph.{Graph}
use Rattle.lowering_labels.specs.points.FallThrough.{seen_range}
use Rattle.statement_lowering.specs.LowerList.{flow_facts_by}
use Rattle.statement_lowering.specs.declared.context.LoweringContext.{LoweringContext}
use Rattle.statement_lowering.specs.declared.continuations.continuation.Continuation.{Continuation}
use Rattle.flow_graph.specs.label_trees.Node.{IsTableOf}
use Rattle.flow_graph.specs.Counts.{IsLargerIn}
use Rattle.flow_graph.specs.Reaching.{IsRangeIn}
use Rattle.flow_graph.specs.graph_sizes.Sizing.{graph_size}
use Rattle.procedure_split.specs.shaped_ranges.Graphs.{HaveGraphs, IsGraphOf, total_size}
use Rattle.procedure_split.specs.shaped_ranges.Limit.{AreLowered, IsLoweringFault, nodes_passed}

-- the ranges begin with paragraphs of the program
abbrev pub AreRangesOf : language.Program → List code.Range → Type 0
AreRangesOf program ranges = (at : ℕ) (range : code.Range) →
    slice_get ranges at ≡ Some range → IsRangeOf program (seen_range range)

-- ranges of a program to which the context and its places belong
pub record AreRangesIn (context : LoweringContext) (spots : List Continuation) (program : Program)
    (ranges : List code.Range) : Type 0 where
  -- the context and its places belong to the program
  pub table : IsTableOf context spots program
  -- the ranges are the program's
  pub own : AreRangesOf (control_of program) ranges

-- the graph is the one of the range, in any program to which the context and its places belong
abbrev pub IsGraphIn : LoweringContext → List Continuation → code.Range → Graph → Type 0
IsGraphIn context spots range graph = (program : Program) →
    IsRangeIn context spots range program →
    IsGraphOf (flow_facts_by context) (control_of program) (seen_range range) (seen_graph graph)

-- it is the graph of the range and no larger than this; none where the graph is larger
abbrev pub IsGraphWithin : LoweringContext → List Continuation → code.Range → (most : ℕ) →
    Option Graph → Type 0
IsGraphWithin context spots range most (Some graph) =
    IsGraphIn context spots range graph × (graph_size (seen_graph graph) ≤ most)
IsGraphWithin context spots range most None = IsLargerIn context spots range most

-- the graphs are those of the ranges and within the limit, in any such program
abbrev pub AreLoweredIn : LoweringContext → List Continuation → List code.Range → List Graph →
    Type 0
AreLoweredIn context spots ranges graphs = (program : Program) →
    AreRangesIn context spots program ranges →
    AreLowered (flow_facts_by context) (control_of program) ranges graphs

-- the ranges aren't lowered for this reason, in any such program
abbrev pub IsLoweringFaultIn : LoweringContext → List Continuation → List code.Range → SplitFault →
    Type 0
IsLoweringFaultIn context spots ranges fault = (program : Program) →
    AreRangesIn context spots program ranges →
    IsLoweringFault (flow_facts_by context) (control_of program) ranges fault

-- the graphs that ranges have, with so many other labels and statements, come to this count; past
-- the last number of its type to that number
abbrev pub IsCountedOn : LoweringContext → List Continuation → List code.Range →
    (others count : ℕ) → Type 0
IsCountedOn context spots ranges others count = (program : Program) →
    AreRangesIn context spots program ranges →
    (graphs : List reduced.Graph)
    × HaveGraphs (flow_facts_by context) (control_of program) ranges graphs
    × (count ≡ min (others + total_size graphs) (2 ^ 64 - 1))

-- the limit tells the count, unless it is that last number, or memory ran out
abbrev pub IsPastBy : Result ℕ NoMemory → SplitFault → Type 0
IsPastBy counted (fault.Limit limit) = (count : ℕ) × (counted ≡ Ok count)
    × (count < 2 ^ 64 - 1) × (limit ≡ nodes_passed count)
IsPastBy counted fault.NoMemory = Unit {0}
