-- What a range's level performs: each PERFORM in a node that is reached is come to by a free flow
-- path of that level.
use Rattle.std.specs.Prelude.{ℕ, ◌≡◌, true, List, [], ◌∷◌}
use Rattle.control_flow_theory.specs.language.Language.{Stmt, Choose, Loop, Perform, Go, GoDepending, NextSentence, ExitParagraph, ExitSection, ExitPerform, StopRun, Stmts, none, also, Arms, done, given, missing, Body, Nested, Performed, Program, Range, Part}
use Rattle.control_flow_theory.specs.language.Language as language
use Rattle.control_flow_theory.specs.language.Items.{Item, Do}
use Rattle.control_flow_theory.specs.semantics.Graph.{Label, Tree, tree, End, Pick, Jump, Return, Stop, Dead, Trees, no_more, more}
use Rattle.control_flow_theory.specs.lowering.FlowFacts.{FlowFacts, IsSource}
use Rattle.control_flow_theory.specs.lowering.Lowered.{lowered}
use Rattle.control_flow_theory.specs.lowering.Reached.{IsReached}
use Rattle.control_flow_theory.specs.lowering.WellFormed.{IsRangeOf}
use Rattle.control_flow_theory.specs.lowering.flow.Entered.{FreelyComes}

module _ (told : FlowFacts) (program : Program) (range : Range) where
  -- a free flow path of the range's level performs the other range
  abbrev pub IsCalled : ℕ → ℕ → Type 0
  IsCalled entry exit = (number : ℕ) × (rest : List Item)
      × FreelyComes told program range number (Do (Perform entry exit) ∷ rest)

  abbrev mutual
    -- each range that the statement performs is called
    pub CallsStmt : Stmt → Type 0
    CallsStmt (language.Do act) = Unit {0}
    CallsStmt (Choose picker arms) = CallsArms arms
    CallsStmt (Loop control body) = CallsBody body
    CallsStmt (Perform entry exit) = IsCalled entry exit
    CallsStmt (Go to) = Unit {0}
    CallsStmt (GoDepending to on) = Unit {0}
    CallsStmt NextSentence = Unit {0}
    CallsStmt ExitParagraph = Unit {0}
    CallsStmt (ExitSection last) = Unit {0}
    CallsStmt (ExitPerform cycle) = Unit {0}
    CallsStmt StopRun = Unit {0}

    -- each range that these statements perform is called
    pub CallsStmts : Stmts → Type 0
    CallsStmts none = Unit {0}
    CallsStmts (also stmt stmts) = CallsStmt stmt × CallsStmts stmts

    -- each range that these arms perform is called
    pub CallsArms : Arms → Type 0
    CallsArms done = Unit {0}
    CallsArms (given arm others) = CallsStmts arm × CallsArms others
    CallsArms (missing others) = CallsArms others

    -- each range that a loop's body performs is called
    pub CallsBody : Body → Type 0
    CallsBody (Nested stmts) = CallsStmts stmts
    CallsBody (Performed entry exit) = IsCalled entry exit

  abbrev mutual
    -- each range that the trees of an end perform is called
    pub CallsEnd : End → Type 0
    CallsEnd (Pick picker arms) = CallsTrees arms
    CallsEnd (Jump to) = Unit {0}
    CallsEnd Return = Unit {0}
    CallsEnd Stop = Unit {0}
    CallsEnd Dead = Unit {0}

    -- each range that these trees perform is called
    pub CallsTrees : Trees → Type 0
    CallsTrees no_more = Unit {0}
    CallsTrees (more (tree body end) others) = CallsStmts body × CallsEnd end × CallsTrees others

  -- each range that the tree performs is called
  abbrev pub CallsTree : Tree → Type 0
  CallsTree (tree body end) = CallsStmts body × CallsEnd end

-- where the table names only ranges that return, a reached node performs only what its range's
-- level calls
abbrev pub ReachedNodesPerformWhatIsCalled : Type 0
ReachedNodesPerformWhatIsCalled =
    (told : FlowFacts) (program : Program) → IsSource told program →
    ((entry exit : ℕ) → told.returning entry exit ≡ true →
    FreelyComes told program (Part entry exit) exit []) →
    (range : Range) → IsRangeOf program range → (label : Label) →
    IsReached (lowered told program) range label →
    CallsTree told program range ((lowered told program).node range label)
