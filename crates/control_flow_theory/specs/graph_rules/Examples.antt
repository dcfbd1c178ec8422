-- Small graphs, and what shaping makes of them.
use Rattle.std.specs.Prelude.{ℕ, ◌≡◌, true, false, List, [], ◌∷◌}
use Rattle.control_flow_theory.specs.language.Language.{Own, Set, Stmt, Do, Picker, If, By, Holds, Not, Is, Until, Choose, Loop, StopRun, Stmts, none, also, given, done, Nested}
use Rattle.control_flow_theory.specs.semantics.Parts.{says, is, on_item}
use Rattle.control_flow_theory.specs.semantics.Graph.{Label, Tree, tree, End, Pick, Jump, Return, Stop, Dead, no_more, more}
use Rattle.control_flow_theory.specs.graph_rules.Families.{Added, Never, Flag}
use Rattle.control_flow_theory.specs.graph_rules.Shapes.{alone}
use Rattle.control_flow_theory.specs.graph_rules.Reduced.{Node, Graph, shaped}

-- DISPLAY of one byte
abbrev pub say : ℕ → Stmt
say byte = Do (Own (says byte))

-- the tree at this label
abbrev pub labelled : Label → Tree → Node
labelled label one = record { label = label; tree = one }

-- the jump to this label alone
abbrev pub to : Label → Tree
to label = tree none (Jump label)

-- one statement, and the jump to 0
abbrev pub again : ℕ → Tree
again byte = tree (alone (say byte)) (Jump 0)

-- a choice between two trees
abbrev pub either : Picker → Tree → Tree → End
either picker first second = Pick picker (more first (more second no_more))

-- a choice between two lists of statements
abbrev pub choice : Picker → Stmts → Stmts → Stmt
choice picker first second = Choose picker (given first (given second done))

-- IF 3
abbrev pub three : Picker
three = If (Holds (is 3))

-- a graph with this entry, these nodes and these added cells
abbrev pub graph : Label → List Node → List Added → Graph
graph entry nodes added = record { entry = entry; nodes = nodes; added = added }

-- a loop that reads, whose first arm leaves
abbrev pub AFlagLoop : Type 0
AFlagLoop =
    shaped (graph 0 (labelled 0
    (tree (alone (say 1)) (either (By (on_item 5)) (tree none Return) (again 2))) ∷ []) [])
    ≡ graph 0 (labelled 0
    (tree (also (Do (Set 0 0))
    (also (Loop (Until false (Is 0 1))
    (Nested (also (say 1)
    (also (choice (By (on_item 5)) (alone (Do (Set 0 1))) (alone (say 2))) none)))) none))
    Return) ∷ []) (Flag ∷ [])

-- tested before, leaving by the second arm
abbrev pub ALoopBefore : Type 0
ALoopBefore =
    shaped (graph 0 (labelled 0 (tree none (either three (again 2) (to 6)))
    ∷ labelled 6 (tree (alone (say 4)) Stop) ∷ []) [])
    ≡ graph 0 (labelled 0
    (tree (also (Loop (Until false (Not (Holds (is 3)))) (Nested (alone (say 2))))
    (also (say 4) none)) Stop) ∷ []) []

-- tested after
abbrev pub ALoopAfter : Type 0
ALoopAfter =
    shaped (graph 0 (labelled 0 (tree (alone (say 2)) (either three (tree none Return) (to 0))) ∷
    [])
    [])
    ≡ graph 0 (labelled 0
    (tree (also (Loop (Until true (Holds (is 3))) (Nested (alone (say 2)))) none) Return) ∷ []) []

-- no way out but STOP RUN
abbrev pub AnEndlessLoop : Type 0
AnEndlessLoop =
    shaped (graph 0 (labelled 0 (tree none (either three (tree none Stop) (to 0))) ∷ []) [])
    ≡ graph 0 (labelled 0
    (tree (also (Loop (Until false (Is 0 1)) (Nested (alone (choice three (alone StopRun) none))))
    none) Dead) ∷ []) (Never ∷ [])

-- a join, and a node in place of the jump to it
abbrev pub AJoinAndAnInline : Type 0
AJoinAndAnInline =
    shaped (graph 3 (labelled 3 (tree none (either three (tree (alone (say 1)) (Jump 9)) (to 9)))
    ∷ labelled 9 (tree (alone (say 4)) Return) ∷ []) [])
    ≡ graph 3 (labelled 3
    (tree (also (choice three (alone (say 1)) none) (also (say 4) none)) Return) ∷ []) []
