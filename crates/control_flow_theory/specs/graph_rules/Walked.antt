-- What a family does, by recursion on its statements, its trees and its order.
use Rattle.std.specs.Prelude.{ℕ, zero, suc, ◌≡◌, Bool, true, false, if◌then◌else◌, List, [], ◌∷◌}
use Rattle.control_flow_theory.specs.runs.Run.{Going, Over}
use Rattle.control_flow_theory.specs.runs.Tied.{Meaning}
use Rattle.control_flow_theory.specs.runs.Machine.{Machine}
use Rattle.control_flow_theory.specs.semantics.Outcome.{Event, Ending, Normally, Returned, Lost, Run}
use Rattle.control_flow_theory.specs.language.Language.{Stmt, Do, Choose, Loop, Perform, Go, GoDepending, NextSentence, ExitParagraph, ExitSection, ExitPerform, StopRun, Stmts, none, also, Arms, done, given, missing, Body, Nested, Performed, Range, Part, same_range}
use Rattle.control_flow_theory.specs.semantics.Doing.{Acting, Doing, Celled, celled}
use Rattle.control_flow_theory.specs.semantics.Structural.{Outcome, Went, Stands}
use Rattle.control_flow_theory.specs.semantics.Structural as structural
use Rattle.control_flow_theory.specs.semantics.Graph.{Label, Tree, tree, End, Pick, Jump, Return, Stop, Dead, Trees, no_more, more, Family}
use Rattle.control_flow_theory.specs.semantics.Walk.{Walk, walk_step, walk_begun}
use Rattle.control_flow_theory.specs.graph_rules.Fits.{TreeFits}

module _ {Memory Left : Type 0} (acting : Acting Memory) (left : Memory → Left) where
  -- what a walk leaves
  abbrev pub left_of : Celled Memory → Left
  left_of memory = left memory.own

  -- what something does in a walk, from a memory and a number of units
  abbrev pub Walking : Type 0
  Walking = Celled Memory → ℕ → Outcome (Celled Memory) Left

  -- a run that is lost, since none can be here
  abbrev pub lost : Walking
  lost memory units = Stands [] (Over Lost)

  -- what the statements of a range do, where this is what a PERFORM does
  module _ (range : Range) (perform : Range → Walking) where
    -- what the parts of the range do
    abbrev pub doing : Doing (Celled Memory)
    doing = celled acting range

    abbrev mutual
      -- what a statement does in a walk; each one that is begun takes one unit
      pub stmt_walks : Stmt → Walking
      stmt_walks (Do act) =
          structural.unit_of doing left_of
          (structural.acts doing left_of act (structural.nothing doing left_of))
      stmt_walks (Choose picker arms) =
          structural.unit_of doing left_of
          (λ memory units. structural.gets doing left_of (doing.pick picker memory) (arm_walks arms)
          units)
      stmt_walks (Loop control body) =
          structural.unit_of doing left_of
          (structural.loop_does doing left_of control (body_walks body))
      stmt_walks (Perform entry exit) = structural.unit_of doing left_of (perform (Part entry exit))
      stmt_walks (Go to) = lost
      stmt_walks (GoDepending to chooser) = lost
      stmt_walks NextSentence = lost
      stmt_walks ExitParagraph = lost
      stmt_walks (ExitSection last) = lost
      stmt_walks (ExitPerform cycle) = lost
      stmt_walks StopRun =
          structural.unit_of doing left_of (structural.stops doing left_of Normally)

      -- statements are walked one after the other
      pub stmts_walk : Stmts → Walking
      stmts_walk none = structural.nothing doing left_of
      stmts_walk (also stmt stmts) =
          structural.one_then doing left_of (stmt_walks stmt) (stmts_walk stmts)

      -- what the arm with this number does; a missing one does nothing
      pub arm_walks : Arms → ℕ → Walking
      arm_walks done k = structural.nothing doing left_of
      arm_walks (given arm others) zero = stmts_walk arm
      arm_walks (given arm others) (suc k) = arm_walks others k
      arm_walks (missing others) zero = structural.nothing doing left_of
      arm_walks (missing others) (suc k) = arm_walks others k

      -- what the body of a loop does
      pub body_walks : Body → Walking
      body_walks (Nested stmts) = stmts_walk stmts
      body_walks (Performed entry exit) = perform (Part entry exit)

    -- a tree is walked to its return; a jump does what is given for it
    abbrev mutual
      pub tree_walks : Tree → (Label → Walking) → Walking
      tree_walks (tree body end) jump =
          structural.one_then doing left_of (stmts_walk body) (end_walks end jump)

      -- what an end does in a walk; each Pick and each Jump takes one unit
      pub end_walks : End → (Label → Walking) → Walking
      end_walks (Pick picker arms) jump =
          structural.unit_of doing left_of
          (λ memory units. structural.gets doing left_of (doing.pick picker memory)
          (trees_walk arms jump) units)
      end_walks (Jump to) jump = structural.unit_of doing left_of (jump to)
      end_walks Return jump = structural.nothing doing left_of
      end_walks Stop jump = structural.stops doing left_of Normally
      end_walks Dead jump = lost

      -- what the tree with this number does; a run that has no such tree is lost
      pub trees_walk : Trees → (Label → Walking) → ℕ → Walking
      trees_walk no_more jump k = lost
      trees_walk (more first others) jump zero = tree_walks first jump
      trees_walk (more first others) jump (suc k) = trees_walk others jump k

    -- what the nodes do from a label on; each jump takes a unit, so one more than the units are
    -- enough
    abbrev pub node_walks : (Label → Tree) → ℕ → Label → Walking
    node_walks node zero label memory units = Stands [] Going
    node_walks node (suc most) label memory units =
        tree_walks (node label) (node_walks node most) memory units

    -- what a graph does from its entry
    abbrev pub graph_walks : (Label → Tree) → Label → Walking
    graph_walks node entry memory units = node_walks node (suc units) entry memory units

  module _ (family : Family) where
    -- what a PERFORM of a range does: each range of the order sees only those after it
    abbrev pub performed : List Range → Range → Walking
    performed [] range = lost
    performed (first ∷ others) range =
        if same_range first range
        then graph_walks first (performed others) (family.node first) (family.entry first)
        else performed others range

    -- the run of a range: where its walk came to the end, it returned
    abbrev pub run_of : Outcome (Celled Memory) Left → Run Left
    run_of (Went trace memory units) =
        record { trace = trace; standing = Over (Returned (left_of memory)) }
    run_of (Stands trace standing) = record { trace = trace; standing = standing }

    -- the walk of a range, from its entry to its return
    abbrev pub walked : List Range → Range → Meaning (Celled Memory) Event (Ending Left)
    walked order range memory units = run_of (performed order range memory units)

-- The same walks, from the memories of some worlds.
module _ {Memory Left World : Type 0} (acting : Acting Memory) (left : Memory → Left)
    (memory : World → Celled Memory) where
  -- the walk of a range step by step
  abbrev pub machine_from : Family → Range → Machine World Event (Ending Left) (Walk Memory Left)
  machine_from family range =
      record {
        step = walk_step acting left family;
        run = λ walk. walk.run;
        begun = λ world. walk_begun acting left family range (memory world);
      }

  -- the walk of a range by recursion
  abbrev pub walked_from : Family → List Range → Range → Meaning World Event (Ending Left)
  walked_from family order range world units =
      walked acting left family order range (memory world) units

-- the range is among these
abbrev pub is_in : Range → List Range → Bool
is_in range [] = false
is_in range (first ∷ others) = if same_range first range then true else is_in range others

-- the range is in the order
abbrev pub In : Range → List Range → Type 0
In range order = is_in range order ≡ true

-- no range comes twice, each performs only ranges after it in the order, and names only such
-- cells as its own
abbrev pub Ordered : (Range → ℕ → Type 0) → (Range → ℕ → Type 0) → Family → List Range → Type 0
Ordered Reads Writes family [] = Unit {0}
Ordered Reads Writes family (first ∷ others) = (is_in first others ≡ false)
    × ((label : Label) →
    TreeFits (λ to. In to others) (Reads first) (Writes first) (family.node first label))
    × Ordered Reads Writes family others
