-- Trees that run on as others.
use Rattle.std.specs.Prelude.{ℕ, ◌≡◌, ◌+◌, ◌-◌, ◌^◌, ◌<◌, min, List, [], ◌∷◌, length}
use Rattle.cob_tree.specs.declared.program.Program.{Program}
use Rattle.cob_tree.specs.declared.program.Range as code
use Rattle.control_flow_theory.specs.semantics.Graph as graph
use Rattle.control_flow_theory.specs.lowering.Lower.{point}
use Rattle.flow_graph.specs.graph_sizes.Sizing.{tree_size}
use Rattle.statement_lowering.specs.declared.context.LoweringContext.{LoweringContext}
use Rattle.flow_graph.specs.label_trees.Node.{IsTableOf, node_in}
use Rattle.statement_lowering.specs.declared.continuations.continuation.Continuation.{Continuation}
use Rattle.flow_graph.specs.range_sizes.Exits.{GoesSo}
use Rattle.flow_graph.specs.range_sizes.Cache.{IsPartAt}
use Rattle.flow_graph.specs.declared.range_sizes.exits.Passing.{Passing}
use Rattle.flow_graph.specs.declared.range_sizes.parts.Jumps.{Jumps}
use Rattle.flow_graph.specs.declared.range_sizes.parts.TreeCount.{TreeCount}
use Rattle.flow_graph.specs.declared.range_sizes.segment.Segment.{Segment}

-- a tree has so many statements of its own, and those of the next one; and it ends as that one
pub record IsLonger (first next : graph.Tree) (count : ℕ) : Type 0 where
  -- how many statements it has of its own
  pub own : ℕ
  -- the count is of them, as far as it goes
  pub size : count ≡ min own (2 ^ 64 - 1)
  -- with those of the next tree they are all
  pub sum : tree_size first ≡ own + tree_size next
  -- both trees end alike
  pub end : graph.end_of first ≡ graph.end_of next

-- so is the tree before a place, by the one before the next place, in each range that goes on so
-- from there; and so it goes on from the next
pub record IsSegment (telling : LoweringContext) (spots : List Continuation) (passing : Passing)
    (stretch : Segment) (next : ℕ) : Type 0 where
  pub there : stretch.place < length spots
  -- a range goes on from the next place as it does from this one
  pub goes : (range : code.Range) → GoesSo spots range stretch.place passing →
      GoesSo spots range next passing
  -- the tree at this place has so many statements more than that at the next one
  pub longer : (range : code.Range) → GoesSo spots range stretch.place passing →
      (program : Program) → IsTableOf telling spots program →
      IsLonger (node_in telling program range (point stretch.place))
      (node_in telling program range (point next)) stretch.size

-- the stretches lead from one place to another
abbrev pub LeadsTo : LoweringContext → List Continuation → Passing → ℕ → List Segment → ℕ → Type 0
LeadsTo telling spots passing place [] here = here ≡ place
LeadsTo telling spots passing place (stretch ∷ others) here =
    (next : ℕ) × (stretch.place ≡ place) × IsSegment telling spots passing stretch next
    × LeadsTo telling spots passing next others here

-- the segments lead to a place at which this is the part of the tree
abbrev pub ComesToPart : LoweringContext → List Continuation → List Jumps → ℕ → Passing →
    List Segment → TreeCount →
    Type 0
ComesToPart telling spots lists place passing stretches part =
    (here : ℕ) × LeadsTo telling spots passing place stretches here
    × IsPartAt telling spots lists (point here) passing part
