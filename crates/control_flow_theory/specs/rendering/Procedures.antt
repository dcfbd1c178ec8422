-- When the procedures of a shaped family can be written.
use Rattle.std.specs.Prelude.{ℕ, ◌≡◌, ◌<◌, ◌≤◌, Bool, true, false, if◌then◌else◌, List, [], ◌∷◌, length, Some, slice_get, ◌⊎◌}
use Rattle.control_flow_theory.specs.language.Language.{Simple, Cond, Chooser, Amount, Act, Own, Set, Take, Lower, Test, Holds, Not, Is, Above, Picker, If, By, ByCell, Control, Times, Until, Varying, Stmt, Do, Choose, Loop, Perform, Go, GoDepending, NextSentence, ExitParagraph, ExitSection, ExitPerform, StopRun, Stmts, none, also, Arms, done, given, missing, Body, Nested, Performed, Range, Main, Part, same_range}
use Rattle.control_flow_theory.specs.semantics.Graph.{tree, Family, IsLast}
use Rattle.control_flow_theory.specs.rendering.Rendering.{Naming, Procedure, place_of, count_arms, standing}

-- which parts the program has, and what the cells of each range are for
pub record Writable : Type 0 where
  -- the statement is one of the program
  pub simples : Simple → Bool
  -- the condition is one of the program
  pub conds : Cond → Bool
  -- a chooser with these arms, written or left out
  pub choosers : Chooser → (arms : List Bool) → Bool
  -- the operand of TIMES is one of the program
  pub amounts : Amount → Bool
  -- the value may be moved to the cell
  pub sets : Range → (cell value : ℕ) → Bool
  -- the cell may be compared with the value
  pub compares : Range → (cell value : ℕ) → Bool
  -- the cell holds the turns that are left of a TIMES
  pub counts : Range → (cell : ℕ) → Bool
  -- the cell may be tested for being above zero
  pub aboves : Range → (cell : ℕ) → Bool
  -- the cell chooses among so many arms
  pub chooses : Range → (cell arms : ℕ) → Bool

module _ (naming : Naming) (kinds : Writable) (procedures : List Procedure) (range : Range) where
  -- the act may be written
  abbrev pub ActFits : Act → Type 0
  ActFits (Own simple) = kinds.simples simple ≡ true
  ActFits (Set cell value) = kinds.sets range cell value ≡ true
  ActFits (Take cell amount) = (kinds.counts range cell ≡ true) × (kinds.amounts amount ≡ true)
  ActFits (Lower cell) = kinds.counts range cell ≡ true

  -- the test may be written
  abbrev pub TestFits : Test → Type 0
  TestFits (Holds cond) = kinds.conds cond ≡ true
  TestFits (Not test) = TestFits test
  TestFits (Is cell value) = kinds.compares range cell value ≡ true
  TestFits (Above cell) = kinds.aboves range cell ≡ true

  -- what chooses may be written; by a cell only where it can't be zero, see below
  abbrev pub PickerFits : Picker → (arms : List Bool) → Type 0
  PickerFits (If test) arms = TestFits test
  PickerFits (By chooser) arms = kinds.choosers chooser arms ≡ true
  PickerFits (ByCell cell) arms = ⊥

  -- the control of a loop may be written
  abbrev pub ControlFits : Control → Type 0
  ControlFits (Times amount) = kinds.amounts amount ≡ true
  ControlFits (Until after test) = TestFits test
  ControlFits (Varying after set step test) = ActFits set × ActFits step × TestFits test

  -- a procedure that comes later in the list
  abbrev pub StandsLater : Range → Type 0
  StandsLater other = (place_of procedures range < place_of procedures other)
      × (place_of procedures other < length procedures)

  -- the loop that ends where the cell is above zero
  abbrev pub StmtLeaves : ℕ → Stmt → Type 0
  StmtLeaves cell (Loop control body) = control ≡ Until false (Above cell)
  StmtLeaves cell (Do act) = ⊥
  StmtLeaves cell (Choose picker arms) = ⊥
  StmtLeaves cell (Perform entry exit) = ⊥
  StmtLeaves cell (Go to) = ⊥
  StmtLeaves cell (GoDepending to chooser) = ⊥
  StmtLeaves cell NextSentence = ⊥
  StmtLeaves cell ExitParagraph = ⊥
  StmtLeaves cell (ExitSection last) = ⊥
  StmtLeaves cell (ExitPerform cycle) = ⊥
  StmtLeaves cell StopRun = ⊥

  abbrev mutual
    -- the statement may be written: there is no jump in it, each range that it performs comes
    -- later, each part is one of the program, and each word on a cell one of its kind
    pub StmtStands : Stmt → Type 0
    StmtStands (Do act) = ActFits act
    StmtStands (Choose picker arms) =
        PickerFits picker (standing (naming.empty range picker) 0 arms) × ArmsStand arms
    StmtStands (Loop control body) = ControlFits control
        × (BodyStands body ⊎
        ((cell : ℕ) × (control ≡ Until false (Is cell 0)) × BodyChooses cell body))
    StmtStands (Perform entry exit) = StandsLater (Part entry exit)
    StmtStands (Go to) = ⊥
    StmtStands (GoDepending to chooser) = ⊥
    StmtStands NextSentence = ⊥
    StmtStands ExitParagraph = ⊥
    StmtStands (ExitSection last) = ⊥
    StmtStands (ExitPerform cycle) = ⊥
    StmtStands StopRun = Unit {0}

    -- the same of these statements, in order
    pub StmtsStand : Stmts → Type 0
    StmtsStand none = Unit {0}
    StmtsStand (also stmt stmts) = StmtStands stmt × (StmtsStand stmts ⊎ StmtsLeft stmts stmt)

    -- a choice by a cell comes after the statement, which leaves the cell above zero
    pub StmtsLeft : Stmts → Stmt → Type 0
    StmtsLeft none stmt = ⊥
    StmtsLeft (also next stmts) stmt =
        (cell : ℕ) × StmtLeaves cell stmt × StmtChooses cell next × StmtsStand stmts

    -- the same of each arm
    pub ArmsStand : Arms → Type 0
    ArmsStand done = Unit {0}
    ArmsStand (given arm others) = StmtsStand arm × ArmsStand others
    ArmsStand (missing others) = ArmsStand others

    -- the same of a loop's body
    pub BodyStands : Body → Type 0
    BodyStands (Nested stmts) = StmtsStand stmts
    BodyStands (Performed entry exit) = StandsLater (Part entry exit)

    -- a choice by a cell: it is the whole body of the loop that ends where the cell is zero, or
    -- follows the loop that ends where it is above zero
    pub StmtChooses : ℕ → Stmt → Type 0
    StmtChooses cell (Choose (ByCell by) arms) =
        (by ≡ cell) × (kinds.chooses range cell (count_arms arms) ≡ true) × ArmsStand arms
    StmtChooses cell (Choose (If test) arms) = ⊥
    StmtChooses cell (Choose (By chooser) arms) = ⊥
    StmtChooses cell (Do act) = ⊥
    StmtChooses cell (Loop control body) = ⊥
    StmtChooses cell (Perform entry exit) = ⊥
    StmtChooses cell (Go to) = ⊥
    StmtChooses cell (GoDepending to chooser) = ⊥
    StmtChooses cell NextSentence = ⊥
    StmtChooses cell ExitParagraph = ⊥
    StmtChooses cell (ExitSection last) = ⊥
    StmtChooses cell (ExitPerform cycle) = ⊥
    StmtChooses cell StopRun = ⊥

    -- the body of a loop is one statement that chooses so
    pub BodyChooses : ℕ → Body → Type 0
    BodyChooses cell (Nested none) = ⊥
    BodyChooses cell (Nested (also stmt none)) = StmtChooses cell stmt
    BodyChooses cell (Nested (also stmt (also next stmts))) = ⊥
    BodyChooses cell (Performed entry exit) = ⊥

-- it performs the range
abbrev mutual
  pub stmt_calls : Range → Stmt → Bool
  stmt_calls range (Do act) = false
  stmt_calls range (Choose picker arms) = arms_call range arms
  stmt_calls range (Loop control body) = body_calls range body
  stmt_calls range (Perform entry exit) = same_range (Part entry exit) range
  stmt_calls range (Go to) = false
  stmt_calls range (GoDepending to chooser) = false
  stmt_calls range NextSentence = false
  stmt_calls range ExitParagraph = false
  stmt_calls range (ExitSection last) = false
  stmt_calls range (ExitPerform cycle) = false
  stmt_calls range StopRun = false

  -- one of these statements performs it
  pub stmts_call : Range → Stmts → Bool
  stmts_call range none = false
  stmts_call range (also stmt stmts) =
      if stmt_calls range stmt then true else stmts_call range stmts

  -- a statement of one of these arms performs it
  pub arms_call : Range → Arms → Bool
  arms_call range done = false
  arms_call range (given arm others) = if stmts_call range arm then true else arms_call range others
  arms_call range (missing others) = arms_call range others

  -- the loop's body performs it
  pub body_calls : Range → Body → Bool
  body_calls range (Nested stmts) = stmts_call range stmts
  body_calls range (Performed entry exit) = same_range (Part entry exit) range

-- the first of these procedures is main's
abbrev pub FirstIsMain : List Procedure → Type 0
FirstIsMain [] = ⊥
FirstIsMain (procedure ∷ others) = procedure.range ≡ Main

-- each range that can be performed has one node, and they are in an order in which each performs
-- later ones alone
pub record AreProcedures (family : Family) (naming : Naming) (kinds : Writable)
    (procedures : List Procedure) : Type 0 where
  pub main : FirstIsMain procedures
  -- no range comes twice
  pub alone : (number : ℕ) (procedure : Procedure) → slice_get procedures number ≡ Some procedure →
      place_of procedures procedure.range ≡ number
  -- each is the one node of its range
  pub node : (number : ℕ) (procedure : Procedure) → slice_get procedures number ≡ Some procedure →
      family.node procedure.range (family.entry procedure.range) ≡ tree procedure.body procedure.end
  -- each ends without a jump and a choice
  pub last : (number : ℕ) (procedure : Procedure) → slice_get procedures number ≡ Some procedure →
      IsLast procedure.end
  -- each body may be written
  pub stands : (number : ℕ) (procedure : Procedure) → slice_get procedures number ≡ Some procedure →
      StmtsStand naming kinds procedures procedure.range procedure.body
  -- each but the first is performed by an earlier one
  pub performed : (number : ℕ) (procedure : Procedure) →
      slice_get procedures number ≡ Some procedure → 1 ≤ number →
      (from : ℕ) × (caller : Procedure) × (from < number)
      × (slice_get procedures from ≡ Some caller)
      × (stmts_call procedure.range caller.body ≡ true)
