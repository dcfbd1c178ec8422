-- Trees up to where they go on as others.
use Rattle.std.specs.Prelude.{ℕ, ◌≡◌, ◌<◌, List, length, Option, Some, None, slice_get}
use Rattle.cob_tree.specs.declared.program.Program.{Program}
use Rattle.cob_tree.specs.declared.program.Range as code
use Rattle.control_flow_theory.specs.semantics.Graph as graph
use Rattle.control_flow_theory.specs.lowering.Lower.{point}
use Rattle.branch_tree.specs.Changes.{gone_on}
use Rattle.branch_tree.specs.Tree.{seen_tree}
use Rattle.statement_lowering.specs.declared.context.LoweringContext.{LoweringContext}
use Rattle.statement_lowering.specs.declared.continuations.continuation.Continuation.{Continuation}
use Rattle.flow_graph.specs.label_trees.Node.{GoAlike, IsTableOf, node_in}
use Rattle.flow_graph.specs.declared.label_trees.run.StraightRun.{StraightRun}

-- a tree has these statements, and goes on as the one at the next place; or it is this one
abbrev pub RunsOn : (graph.Label → graph.Tree) → (own : graph.Tree) → Option ℕ → graph.Tree → Type 0
RunsOn node own None whole = whole ≡ own
RunsOn node own (Some next) whole =
    (graph.end_of own ≡ graph.Dead) × (whole ≡ gone_on own (node (point next)))

-- it is the own run at a place in a range, whatever the program
abbrev pub IsStraightRunIn : LoweringContext → List Continuation → code.Range → ℕ → StraightRun →
    Type 0
IsStraightRunIn telling spots range place run = (program : Program) →
    IsTableOf telling spots program →
    RunsOn (node_in telling program range) (seen_tree run.tree) run.next
    (node_in telling program range (point place))

-- it is that run in each range that goes on alike from there
abbrev pub IsStraightRunAlike : LoweringContext → List Continuation → code.Range → ℕ → StraightRun →
    Type 0
IsStraightRunAlike telling spots range place run = (other : code.Range) (spot : Continuation) →
    slice_get spots place ≡ Some spot → GoAlike range other spot.onward →
    IsStraightRunIn telling spots other place run

-- the next place is the one after the rest, later in the table
pub record IsBehind (spots : List Continuation) (place next : ℕ) : Type 0 where
  pub later : place < next
  pub within : next < length spots
  -- there the tree of the rest goes on
  pub behind : (spot : Continuation) → slice_get spots place ≡ Some spot →
      spot.onward.behind ≡ Some next

-- the next place, if there is one, is the one after the rest
abbrev pub GoesBehind : List Continuation → ℕ → Option ℕ → Type 0
GoesBehind spots place None = Unit {0}
GoesBehind spots place (Some next) = IsBehind spots place next
