-- Two worked programs: a loop with two exits, and two labels that jump into each other from two
-- entries.
use Rattle.std.specs.Prelude.{ℕ, zero, suc, ◌≡◌, Bool, true, false, List, [], ◌∷◌}
use Rattle.control_flow_theory.specs.runs.Run.{Over}
use Rattle.control_flow_theory.specs.runs.Machine.{meaning}
use Rattle.control_flow_theory.specs.semantics.Parts.{says, is, small}
use Rattle.control_flow_theory.specs.semantics.Outcome.{Run, Normally, Stopped}
use Rattle.control_flow_theory.specs.language.Language.{Own, Set, Holds, Is, Above, Picker, If, By, ByCell, Until, Stmt, Choose, Loop, StopRun, Stmts, none, also, done, given, missing, Nested, Main}
use Rattle.control_flow_theory.specs.language.Language as language
use Rattle.control_flow_theory.specs.semantics.Graph.{Tree, tree, Pick, Jump, Dead, Trees, no_more, more}
use Rattle.control_flow_theory.specs.semantics.Walk.{main_machine}
use Rattle.control_flow_theory.specs.graph_rules.Families.{IsFamily}
use Rattle.control_flow_theory.specs.graph_rules.Walked.{walked}
use Rattle.control_flow_theory.specs.graph_rules.Reduced.{Node, Graphs, family_of, kinds_of, with_graph}
use Rattle.control_flow_theory.specs.structuring.Closes.{dispatch_graph, IsClosed}
use Rattle.control_flow_theory.specs.structuring.Dispatches.{dispatched}
use Rattle.control_flow_theory.specs.structuring.Targets.{with_exits}

-- an ELSE is left out where it is empty
abbrev pub else_left_out : Picker → ℕ → Bool
else_left_out (If test) zero = false
else_left_out (If test) (suc k) = true
else_left_out (By chooser) k = false
else_left_out (ByCell cell) k = false

-- one statement alone
abbrev pub one : Stmt → Stmts
one stmt = also stmt none

-- DISPLAY of one byte
abbrev pub say : ℕ → Stmt
say byte = language.Do (Own (says byte))

-- the trees of two arms
abbrev pub two : Tree → Tree → Trees
two a b = more a (more b no_more)

-- the jump to a label alone
abbrev pub go : ℕ → Tree
go label = tree none (Jump label)

-- L (at 0) adds, goes to X (at 30) or Y (at 60), displays, goes to X or Y, and goes on
abbrev pub exit_node : Tree
exit_node =
    tree (one (say 1)) (Pick (If (Holds (is 3))) (two (go 30)
    (tree none (Pick (If (Holds (is 5))) (two (go 60)
    (tree (one (say 2)) (Pick (If (Holds (is 7))) (two (go 30)
    (tree none (Pick (If (Holds (is 8))) (two (go 60) (go 0))))))))))))

-- IF with both arms
abbrev pub if_else : ℕ → Stmts → Stmts → Stmt
if_else cond a b = Choose (If (Holds (is cond))) (given a (given b done))

-- the cell with the number 9 takes this value
abbrev pub put : ℕ → Stmts
put n = one (language.Do (Set 9 n))

-- the first program as a loop with two exits
abbrev pub ALoopWithTwoExits : Type 0
ALoopWithTwoExits =
    with_exits else_left_out 9 0 exit_node ≡
    tree
    (also (language.Do (Set 9 0))
    (one (Loop (Until false (Above 9)) (Nested
    (also (say 1)
    (one (if_else 3 (put 1)
    (one (if_else 5 (put 2)
    (also (say 2)
    (one (if_else 7 (put 1)
    (one (Choose (If (Holds (is 8))) (given (put 2) (missing done)))))))))))))))
    )
    (Pick (ByCell 9) (two (go 30) (go 60)))

-- A (at 0) goes to C (at 6) or B (at 3), B goes to C, and C stops or goes to B
abbrev pub last_nodes : List Node
last_nodes =
    record {
      label = 6;
      tree =
          tree (also (say 2) (one (Choose (If (Holds (is 2)))
          (given (one StopRun) (missing done)))))
          (Jump 3);
    } ∷ []

-- the nodes of B and C
abbrev pub tail_nodes : List Node
tail_nodes = record { label = 3; tree = tree (one (say 1)) (Jump 6) } ∷ last_nodes

-- the nodes of A, B and C
abbrev pub state_nodes : List Node
state_nodes =
    record { label = 0; tree = tree none (Pick (If (Holds (is 1))) (two (go 6) (go 3))) }
    ∷ tail_nodes

-- the second program as a dispatch
abbrev pub TwoLabelsFromTwoEntries : Type 0
TwoLabelsFromTwoEntries =
    dispatched else_left_out 9 0 state_nodes ≡
    tree
    (also (language.Do (Set 9 1))
    (one (Loop (Until false (Is 9 0)) (Nested (one (Choose (ByCell 9)
    (given (one (if_else 1 (put 3) (put 2)))
    (given (also (say 1) (put 3))
    (given (also (say 2)
    (also (Choose (If (Holds (is 2))) (given (one StopRun) (missing done))) (put 2))) done))))))))
    )
    Dead

-- The second program and its dispatch, walked from N = 2: both show B and C, and stop.

-- the second program's nodes, as the graph of each range
abbrev pub graphs : Graphs
graphs range = record { entry = 0; nodes = state_nodes; added = [] }

-- a run that showed B and C and stopped
abbrev pub shown : Run ℕ
shown = record { trace = (1 ∷ []) ∷ (2 ∷ []) ∷ []; standing = Over (Stopped Normally 2) }

-- step by step, the second program and its dispatch walk to the same run
abbrev pub TheDispatchWalksAlike : Type 0
TheDispatchWalksAlike =
    (meaning (main_machine small (λ n. n) (family_of graphs)) 2 20 ≡ shown)
    × (meaning (main_machine small (λ n. n)
    (family_of (with_graph graphs Main (dispatch_graph (graphs Main))))) 2 40 ≡ shown)

-- the premises of the rules' laws hold of the second
abbrev pub ItMeetsThePremises : Type 0
ItMeetsThePremises =
    IsClosed (graphs Main) × IsFamily (kinds_of graphs) (family_of graphs) (Main ∷ [])

-- seven units by recursion are enough
abbrev pub ItTakesSevenUnits : Type 0
ItTakesSevenUnits =
    walked small (λ n. n) (family_of graphs) (Main ∷ []) Main
    (record { own = 2; cells = λ range cell. 0 }) 7 ≡ shown
