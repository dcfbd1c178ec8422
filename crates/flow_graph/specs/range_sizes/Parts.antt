-- What is counted of a tree.
use Rattle.std.specs.Prelude.{ℕ, ◌≡◌, ◌-◌, ◌^◌, ◌/◌, min, List}
use Rattle.cob_tree.specs.declared.program.Program.{Program}
use Rattle.cob_tree.specs.declared.program.Range as code
use Rattle.control_flow_theory.specs.semantics.Graph as graph
use Rattle.control_flow_theory.specs.lowering.Reached.{JumpsTo}
use Rattle.pending_returns.specs.levels.Reach.{Holds}
use Rattle.flow_graph.specs.graph_sizes.Sizing.{tree_size}
use Rattle.statement_lowering.specs.declared.context.LoweringContext.{LoweringContext}
use Rattle.flow_graph.specs.label_trees.Node.{IsTableOf, node_in}
use Rattle.statement_lowering.specs.declared.continuations.continuation.Continuation.{Continuation}
use Rattle.flow_graph.specs.range_sizes.Exits.{GoesSo}
use Rattle.flow_graph.specs.declared.range_sizes.exits.Passing.{Passing}

-- the tree has so many statements, and jumps to these labels
pub record IsPartOf (tree : graph.Tree) (count : ℕ) (jumps : List ℕ) : Type 0 where
  -- the count is of the tree's statements, as far as it goes
  pub size : count ≡ min (tree_size tree) (2 ^ 64 - 1)
  -- it jumps to each of these labels
  pub sound : (label : ℕ) → Holds jumps label → JumpsTo label (graph.end_of tree)
  -- and to no other
  pub all : (label : ℕ) → JumpsTo label (graph.end_of tree) → Holds jumps label

-- the tree at a label has so many statements, and jumps to these labels, whatever the program
abbrev pub IsPartIn : LoweringContext → List Continuation → code.Range → ℕ → ℕ → List ℕ → Type 0
IsPartIn telling spots range label count jumps =
    (program : Program) → IsTableOf telling spots program →
    IsPartOf (node_in telling program range label) count jumps

-- the same in each range that goes on so from there
abbrev pub IsPartBy : LoweringContext → List Continuation → ℕ → Passing → ℕ → List ℕ → Type 0
IsPartBy telling spots label passing count jumps =
    (range : code.Range) → GoesSo spots range (label / 3) passing →
    IsPartIn telling spots range label count jumps
