-- What a table of rests says of graphs.
use Rattle.std.specs.Prelude.{ℕ, ◌≡◌, ◌+◌, ◌-◌, ◌*◌, ◌<◌, ◌≤◌, Bool, true, if◌then◌else◌, List, [], ◌∷◌, ◌++◌, length, map, sum_by, Option, Some}
use Rattle.cob_tree.specs.Places.{stmt_places}
use Rattle.cob_tree.specs.declared.control.Control.{Control}
use Rattle.cob_tree.specs.declared.stmt.Stmt.{Stmt}
use Rattle.cob_tree.specs.declared.stmt.When.{When}
use Rattle.control_flow_theory.specs.language.Control.{arm_before, branches_before, control_in, loop_of, seen, seen_stmts, seen_when}
use Rattle.control_flow_theory.specs.language.Language as language
use Rattle.control_flow_theory.specs.language.OwnItems.{stmts_own}
use Rattle.control_flow_theory.specs.semantics.Graph as graph
use Rattle.control_flow_theory.specs.lowering.FlowFacts.{FlowFacts}
use Rattle.control_flow_theory.specs.lowering.Completes.{size}
use Rattle.control_flow_theory.specs.lowering.Lower as lower
use Rattle.control_flow_theory.specs.lowering.Lowered.{find}
use Rattle.program_facts.specs.completion.FlowFacts.{flow_facts_of}
use Rattle.lowering_labels.specs.declared.points.layout.PlaceTable.{PlaceTable}
use Rattle.statement_lowering.specs.Arms.{seen_phrase}
use Rattle.statement_lowering.specs.LoopParts.{loop_at}
use Rattle.statement_lowering.specs.declared.continuations.continuation.Successors.{Successors}
use Rattle.statement_lowering.specs.declared.continuations.continuation.Continuation.{Continuation}
use Rattle.statement_lowering.specs.continuations.Successors.{Lowering, leaving_by, after_by, behind_by, GoesLater}

-- the graph has these nodes from one label to below another, and no others
abbrev pub Agrees : (graph.Label → graph.Tree) → ℕ → ℕ → List lower.Node → Type 0
Agrees node low high nodes =
    (label : ℕ) → low ≤ label → label < high → node label ≡ find label nodes

-- the tree at the head of a rest's first statement, or at its test or step
abbrev pub turn_by : FlowFacts → (ℕ → ℕ) → Bool → language.Stmts → ℕ → lower.EscapeTargets →
    graph.End →
    graph.Tree
turn_by told place_of is_head
    (language.also (language.Loop control (language.Nested body)) others) place leaving after =
    loop_at told place_of is_head (Some control) body place leaving
    (lower.leaf told place_of others (place + size (language.Loop control (language.Nested body)))
    after)
turn_by told place_of is_head stmts place leaving after = lower.end_alone graph.Dead

module _ (layout : PlaceTable) (g : Lowering layout) where
  -- what lowering of the graph knows
  abbrev pub told : FlowFacts
  told = flow_facts_of g.files g.returning

  -- the nodes of statements from a place on, from which control goes on so
  abbrev pub nodes_by : List Stmt → ℕ → Successors → List lower.Node
  nodes_by stmts place onward =
      lower.nodes told g.place_of (seen_stmts onward.last stmts) place
      (leaving_by layout g onward) (after_by layout g onward) (behind_by layout g onward)

  -- the graph has them
  abbrev pub HasNodes : List Stmt → ℕ → Successors → Type 0
  HasNodes stmts place onward =
      Agrees g.node (3 * place) (3 * (place + sum_by stmt_places stmts))
      (nodes_by stmts place onward)

  -- the trees at a place are those of this rest
  pub record IsRest (place : ℕ) (spot : Continuation) : Type 0 where
    -- the tree before the rest's first statement
    pub point : g.node (lower.point place)
        ≡ lower.build told g.place_of (seen_stmts spot.onward.last spot.stmts.now) place
        (leaving_by layout g spot.onward) (after_by layout g spot.onward)
        (behind_by layout g spot.onward)
    -- the tree at the head of the loop with which it begins, or at its test or step
    pub turn : (is_head : Bool) →
        g.node (if is_head then lower.loop_head_label place else lower.loop_step_label place)
        ≡ turn_by told g.place_of is_head (seen_stmts spot.onward.last spot.stmts.now) place
        (leaving_by layout g spot.onward) (after_by layout g spot.onward)

-- what is at a place names own items, and goes on within the table
pub record Fits (end : ℕ) (place : ℕ) (spot : Continuation) : Type 0 where
  -- its statements name own items
  pub own : stmts_own spot.stmts.now ≡ true
  -- their places are within the table
  pub within : place + sum_by stmt_places spot.stmts.now ≤ end
  -- the place at which it goes on comes later
  pub later : GoesLater (place + 1) end spot.onward.behind

-- each of these spots, from a place on, fits
abbrev pub AllFit : ℕ → ℕ → List Continuation → Type 0
AllFit end place [] = Unit {0}
AllFit end place (spot ∷ spots) = Fits end place spot × AllFit end (place + 1) spots

-- the trees from a place on are those of these rests
abbrev pub AreRests : (layout : PlaceTable) → Lowering layout → ℕ → List Continuation → Type 0
AreRests layout g place [] = Unit {0}
AreRests layout g place (spot ∷ spots) =
    IsRest layout g place spot × AreRests layout g (place + 1) spots

-- So many rests are added, which are those of each graph that meets a premise.
pub record Adds (layout : PlaceTable) (places : ℕ) (premise : Lowering layout → Type 0)
    (old new : List Continuation) : Type 0 where
  -- the rests that are added
  pub made : List Continuation
  -- they come after the old ones
  pub is : new ≡ old ++ made
  -- there is one for each place
  pub count : length made ≡ places
  -- each goes on within the table
  pub fits : AllFit layout.end (length old) made
  -- they are those of each such graph
  pub rests : (g : Lowering layout) → premise g → AreRests layout g (length old) made

-- those of statements
abbrev pub AddsRests : PlaceTable → List Stmt → Successors → (old new : List Continuation) → Type 0
AddsRests layout stmts onward old new =
    Adds layout (sum_by stmt_places stmts)
    (λ g. HasNodes layout g stmts (length old) onward) old new

-- how many places a statement's lists have
abbrev pub inner_places : Stmt → ℕ
inner_places stmt = stmt_places stmt - 1

-- the graph has the nodes of a statement after this place
abbrev pub HasInner : (layout : PlaceTable) (g : Lowering layout) → language.Stmt → ℕ → ℕ →
    Successors →
    Type 0
HasInner layout g stmt place places onward =
    Agrees g.node (3 * place + 1) (3 * (place + 1 + places))
    (lower.nodes_in (told layout g) g.place_of stmt place (leaving_by layout g onward)
    (after_by layout g onward) (behind_by layout g onward))

-- those of a statement's lists
abbrev pub AddsWithin : PlaceTable → Stmt → ℕ → Successors → (old new : List Continuation) → Type 0
AddsWithin layout stmt place onward old new =
    Adds layout (inner_places stmt)
    (λ g. HasInner layout g (seen onward.last stmt) place (inner_places stmt) onward) old new

-- the rests of the body of a loop are added
abbrev pub AddsTurns : PlaceTable → Control → List Stmt → ℕ → Successors →
    (old new : List Continuation) → Type 0
AddsTurns layout control turns place onward old new =
    Adds layout (sum_by stmt_places turns)
    (λ g. HasInner layout g (loop_of (control_in control) (seen_stmts onward.last turns)) place
    (sum_by stmt_places turns) onward) old new

-- the rests of arms are added
abbrev pub AddsArms : PlaceTable → (ℕ → language.Arms) → ℕ → Successors →
    (old new : List Continuation) → Type 0
AddsArms layout arms places onward old new =
    Adds layout places
    (λ g. Agrees g.node (3 * length old) (3 * (length old + places))
    (lower.nodes_of_arms (told layout g) g.place_of (arms onward.last) (length old)
    (leaving_by layout g onward) (after_by layout g onward) (behind_by layout g onward))) old new

-- the arms of WHENs, and one that may be missing
abbrev pub branch_arms : List When → ℕ → language.Arms
branch_arms whens last = branches_before (map (seen_when last) whens) language.done

-- an arm that may be missing, alone
abbrev pub phrase_alone : Option (List Stmt) → ℕ → language.Arms
phrase_alone phrase last = arm_before (seen_phrase last phrase) language.done

-- one rest more is added
pub record AddsContinuation (stmts : List Stmt) (onward : Successors)
    (old new : List Continuation) : Type 0 where
  pub spot : Continuation
  -- it comes after the old ones
  pub is : new ≡ old ++ spot ∷ []
  -- it has these statements
  pub stands : spot.stmts.now ≡ stmts
  -- and goes on so
  pub goes : spot.onward ≡ onward
