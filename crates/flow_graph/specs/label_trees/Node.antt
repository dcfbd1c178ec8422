-- The nodes of ranges, by a table of rests.
use Rattle.std.specs.Prelude.{ℕ, ◌≡◌, ◌<◌, ◌^◌, ◌==◌, Bool, true, false, List, length, Option, Some, None, slice_get}
use Rattle.cob_tree.specs.declared.program.Program.{Program}
use Rattle.cob_tree.specs.declared.program.Range as code
use Rattle.cob_tree.specs.declared.stmt.Stmt.{Stmt}
use Rattle.control_flow_theory.specs.language.Control.{control_of, seen, seen_stmts}
use Rattle.control_flow_theory.specs.language.Language as language
use Rattle.control_flow_theory.specs.semantics.Graph as graph
use Rattle.control_flow_theory.specs.lowering.Lowered.{lowered, place_in}
use Rattle.control_flow_theory.specs.lowering.FlowFacts.{IsSource}
use Rattle.branch_tree.specs.Tree.{seen_tree}
use Rattle.branch_tree.specs.declared.tree.Tree as tree
use Rattle.lowering_labels.specs.points.FallThrough.{seen_range}
use Rattle.lowering_labels.specs.points.Layout.{IsLayout}
use Rattle.lowering_labels.specs.points.JumpTarget.{seen_target}
use Rattle.lowering_labels.specs.declared.points.jump_target.JumpTarget.{JumpTarget}
use Rattle.statement_lowering.specs.LowerList.{AreEscapeTargets, flow_facts_by}
use Rattle.statement_lowering.specs.declared.context.EscapeTargets.{EscapeTargets}
use Rattle.statement_lowering.specs.declared.context.LoweringContext.{LoweringContext}
use Rattle.statement_lowering.specs.continuations.Successors.{after_by, leaving_by}
use Rattle.statement_lowering.specs.continuations.Paragraphs.{AreRestsOf, graph_of}
use Rattle.statement_lowering.specs.continuations.Statements.{AllFit, turn_by}
use Rattle.statement_lowering.specs.declared.continuations.continuation.Successors.{Successors}
use Rattle.statement_lowering.specs.declared.continuations.continuation.Continuation.{Continuation}

-- the places of a program are numbered so
abbrev pub IsPlaced : LoweringContext → Program → Type 0
IsPlaced telling program =
    IsLayout program telling.layout.now.places.items telling.layout.now.end

-- the table of a program that can be lowered
pub record IsTableOf (telling : LoweringContext) (spots : List Continuation)
    (program : Program) : Type 0 where
  -- the places of the program are numbered so
  pub placed : IsPlaced telling program
  -- at each place is its rest
  pub rests : AreRestsOf telling program spots
  -- the program is a source
  pub source : IsSource (flow_facts_by telling) (control_of program)

-- each rest has a place, and goes on within the table
pub record IsWhole (telling : LoweringContext) (spots : List Continuation) : Type 0 where
  -- there is a rest for each place
  pub count : length spots ≡ telling.layout.now.end
  -- each rest goes on within the table
  pub fit : AllFit telling.layout.now.end 0 spots
  -- there are few places
  pub small : telling.layout.now.end < 2 ^ 30

-- these are where the escapes of a rest lead in a range, in any program with these places
abbrev pub LeavesIn : LoweringContext → code.Range → Successors → EscapeTargets → Type 0
LeavesIn telling range onward found =
    (program : Program) (placed : IsPlaced telling program) →
    AreEscapeTargets found onward.last
    (leaving_by telling.layout.now (graph_of telling program (seen_range range) placed) onward)

-- the target is where control goes on in the range, in any program with these places
abbrev pub GoesOnIn : LoweringContext → code.Range → Successors → JumpTarget → Type 0
GoesOnIn telling range onward found =
    (program : Program) (placed : IsPlaced telling program) →
    seen_target found
    ≡ after_by telling.layout.now (graph_of telling program (seen_range range) placed) onward

-- the tree at a label in a range
abbrev pub node_in : LoweringContext → Program → code.Range → graph.Label → graph.Tree
node_in telling program range label =
    (lowered (flow_facts_by telling) (control_of program)).node (seen_range range) label

-- the statement is no loop with a body of its own
abbrev pub is_no_loop : language.Stmt → Bool
is_no_loop (language.Loop control (language.Nested body)) = false
is_no_loop _ = true

-- the statement isn't a loop with a body of its own
abbrev pub HoldsNoLoop : Stmt → Type 0
HoldsNoLoop stmt = (last : ℕ) → is_no_loop (seen last stmt) ≡ true

-- it is this tree, whatever the program
abbrev pub IsNodeIn : LoweringContext → List Continuation → code.Range → graph.Label → tree.Tree →
    Type 0
IsNodeIn telling spots range label made =
    (program : Program) → IsTableOf telling spots program →
    seen_tree made ≡ node_in telling program range label

-- it is the tree at a label of the loop that a rest begins with, whatever the program
abbrev pub IsTurnIn : LoweringContext → Continuation → code.Range → ℕ → Bool → tree.Tree → Type 0
IsTurnIn telling spot range place is_head made =
    (program : Program) (placed : IsPlaced telling program) →
    seen_tree made
    ≡ turn_by (flow_facts_by telling) (place_in (control_of program)) is_head
    (seen_stmts spot.onward.last spot.stmts.now) place
    (leaving_by telling.layout.now (graph_of telling program (seen_range range) placed) spot.onward)
    (after_by telling.layout.now (graph_of telling program (seen_range range) placed) spot.onward)

-- whether a range with this exit returns at the end of a paragraph
abbrev pub returns_at : Option ℕ → ℕ → Bool
returns_at None number = false
returns_at (Some exit) number = exit == number

-- two ranges go on alike from a rest
pub record GoAlike (range other : code.Range) (onward : Successors) : Type 0 where
  -- both return at the end of the rest's paragraph, or neither
  pub paragraph : returns_at range.exit onward.paragraph ≡ returns_at other.exit onward.paragraph
  -- and so at the end of its section's last paragraph
  pub last : returns_at range.exit onward.last ≡ returns_at other.exit onward.last

-- the two ranges go on alike from the rest at a place, and from all that the tree may go on at
-- after it
pub record GoAlikeFrom (spots : List Continuation) (range other : code.Range) (place : ℕ) : Type 0
  where
    -- the places from which both go on alike
    pub along : ℕ → Bool
    -- this place is one of them
    pub here : along place ≡ true
    -- and so is the place at which such a tree goes on
    pub behind : (at next : ℕ) (spot : Continuation) → along at ≡ true →
        slice_get spots at ≡ Some spot →
        spot.onward.behind ≡ Some next → along next ≡ true
    -- from each of them both go on alike
    pub alike : (at : ℕ) (spot : Continuation) → along at ≡ true → slice_get spots at ≡ Some spot →
        GoAlike range other spot.onward

-- it is the tree at a label of this place in each range that goes on alike
abbrev pub IsNodeAlike : LoweringContext → List Continuation → code.Range → ℕ → graph.Label →
    tree.Tree → Type 0
IsNodeAlike telling spots range place label made =
    (other : code.Range) → GoAlikeFrom spots range other place →
    IsNodeIn telling spots other label made

-- it is the tree of the loop's turn in each range that goes on alike
abbrev pub IsTurnAlike : LoweringContext → Continuation → code.Range → ℕ → Bool → tree.Tree → Type 0
IsTurnAlike telling spot range place is_head made =
    (other : code.Range) → GoAlike range other spot.onward →
    IsTurnIn telling spot other place is_head made
