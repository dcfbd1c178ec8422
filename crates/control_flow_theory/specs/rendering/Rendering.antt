-- How the procedures of a shaped family are written as a program: one paragraph for each range,
-- with items for its cells.
use Rattle.std.specs.Prelude.{ℕ, suc, Bool, true, false, if◌then◌else◌, List, [], ◌∷◌, map}
use Rattle.control_flow_theory.specs.language.Language.{Simple, Cond, Chooser, Amount, Act, Own, Set, Take, Lower, Test, Holds, Not, Is, Above, Picker, If, By, ByCell, Control, Times, Until, Varying, Stmt, Do, Choose, Loop, Perform, Go, GoDepending, NextSentence, ExitParagraph, ExitSection, ExitPerform, StopRun, Stmts, none, also, Arms, done, given, missing, Body, Nested, Performed, Paragraph, Program, Range, Main, Part, same_range}
use Rattle.control_flow_theory.specs.semantics.Graph.{End, Pick, Jump, Return, Stop, Dead}

-- a range that was shaped to one nested body, and its end
pub record Procedure : Type 0 where
  pub range : Range
  pub body : Stmts
  pub end : End

-- the place of a range in the list, from 0; past the last one, where it isn't there
abbrev pub place_of : List Procedure → Range → ℕ
place_of [] range = 0
place_of (procedure ∷ others) range =
    if same_range procedure.range range then 0 else suc (place_of others range)

-- an arm with nothing to do holds CONTINUE, does so where it was given and else stays missing, or
-- goes
pub data Empty : Type 0 where
  Continues : Empty
  Stays : Empty
  Goes : Empty

-- what the parts are called in the result: the program's own, and the words on each cell of each
-- range, which is an item there
pub record Naming : Type 0 where
  -- CONTINUE
  pub nothing : Simple
  -- a statement of the program's own
  pub simple : Simple → Simple
  -- a condition of the program
  pub cond : Cond → Cond
  -- what chooses, by which of its arms are there
  pub chooser : Chooser → (arms : List Bool) → Chooser
  -- an operand of TIMES
  pub amount : Amount → Amount
  -- MOVE a number TO the cell's item
  pub set : Range → (cell value : ℕ) → Simple
  -- MOVE the operand of TIMES TO the cell's item
  pub take : Range → (cell : ℕ) → Amount → Simple
  -- SUBTRACT 1 FROM the cell's item
  pub lower : Range → (cell : ℕ) → Simple
  -- the cell's item equals the number
  pub is : Range → (cell value : ℕ) → Cond
  -- the cell's item is above zero
  pub above : Range → (cell : ℕ) → Cond
  -- EVALUATE of the item, with these arms, written or left out
  pub by_cell : Range → (cell : ℕ) → (arms : List Bool) → Chooser
  -- whether each arm of it is a WHEN: a missing WHEN OTHER follows them
  pub lacks_other : Range → (cell : ℕ) → Bool
  -- what becomes of the arm with this number, where there is nothing to do in it
  pub empty : Range → Picker → ℕ → Empty

-- how many arms there are, with the missing ones
abbrev pub count_arms : Arms → ℕ
count_arms done = 0
count_arms (given arm others) = suc (count_arms others)
count_arms (missing others) = suc (count_arms others)

-- a required list that is empty holds CONTINUE
abbrev pub required : Simple → Stmts → Stmts
required nothing none = also (Do (Own nothing)) none
required nothing (also stmt stmts) = also stmt stmts

-- whether the arm is there
abbrev pub arm_stands : Empty → (was_given : Bool) → Stmts → Bool
arm_stands empty was_given (also stmt stmts) = true
arm_stands Continues was_given none = true
arm_stands Stays was_given none = was_given
arm_stands Goes was_given none = false

-- whether each of these arms is there, the first of which has this number
abbrev pub standing : (ℕ → Empty) → ℕ → Arms → List Bool
standing empty first done = []
standing empty first (given arm others) =
    arm_stands (empty first) true arm ∷ standing empty (suc first) others
standing empty first (missing others) =
    arm_stands (empty first) false none ∷ standing empty (suc first) others

-- an arm that was given, or missing
abbrev pub written_arm : Simple → Empty → (was_given : Bool) → Stmts → Arms → Arms
written_arm nothing empty was_given (also stmt stmts) others = given (also stmt stmts) others
written_arm nothing Continues was_given none others = given (also (Do (Own nothing)) none) others
written_arm nothing Stays true none others = given (also (Do (Own nothing)) none) others
written_arm nothing Stays false none others = missing others
written_arm nothing Goes was_given none others = missing others

-- the arms, and after them one that is missing
abbrev pub and_missing : Arms → Arms
and_missing done = missing done
and_missing (given arm others) = given arm (and_missing others)
and_missing (missing others) = missing (and_missing others)

-- the arms, and a missing WHEN OTHER where there is none among them
abbrev pub whole_arms : (lacks_other : Bool) → Arms → Arms
whole_arms true arms = and_missing arms
whole_arms false arms = arms

-- one list of statements after the other
abbrev pub then_stmts : Stmts → Stmts → Stmts
then_stmts none more = more
then_stmts (also stmt stmts) more = also stmt (then_stmts stmts more)

-- the statements of a range, with the places of all ranges
module _ (naming : Naming) (place : Range → ℕ) (range : Range) where
  -- an act as it is written
  abbrev pub written_act : Act → Act
  written_act (Own simple) = Own (naming.simple simple)
  written_act (Set cell value) = Own (naming.set range cell value)
  written_act (Take cell amount) = Own (naming.take range cell amount)
  written_act (Lower cell) = Own (naming.lower range cell)

  -- a test as it is written
  abbrev pub written_test : Test → Test
  written_test (Holds cond) = Holds (naming.cond cond)
  written_test (Not test) = Not (written_test test)
  written_test (Is cell value) = Holds (naming.is range cell value)
  written_test (Above cell) = Holds (naming.above range cell)

  -- what chooses, as it is written
  abbrev pub written_picker : Picker → (arms : List Bool) → Picker
  written_picker (If test) arms = If (written_test test)
  written_picker (By chooser) arms = By (naming.chooser chooser arms)
  written_picker (ByCell cell) arms = By (naming.by_cell range cell arms)

  -- a choice by this has no WHEN OTHER; one of the program has its last arm, given or missing
  abbrev pub picker_lacks : Picker → Bool
  picker_lacks (If test) = false
  picker_lacks (By chooser) = false
  picker_lacks (ByCell cell) = naming.lacks_other range cell

  -- the control of a loop as it is written
  abbrev pub written_control : Control → Control
  written_control (Times amount) = Times (naming.amount amount)
  written_control (Until after test) = Until after (written_test test)
  written_control (Varying after set step test) =
      Varying after (written_act set) (written_act step) (written_test test)

  abbrev mutual
    -- a statement as it is written; each PERFORM names the paragraph of its range
    pub written_stmt : Stmt → Stmt
    written_stmt (Do act) = Do (written_act act)
    written_stmt (Choose picker arms) =
        Choose (written_picker picker (standing (naming.empty range picker) 0 arms))
        (whole_arms (picker_lacks picker) (written_arms (naming.empty range picker) 0 arms))
    written_stmt (Loop control body) = Loop (written_control control) (written_body body)
    written_stmt (Perform entry exit) = Perform (place (Part entry exit)) (place (Part entry exit))
    written_stmt (Go to) = Go to
    written_stmt (GoDepending to chooser) = GoDepending to chooser
    written_stmt NextSentence = NextSentence
    written_stmt ExitParagraph = ExitParagraph
    written_stmt (ExitSection last) = ExitSection last
    written_stmt (ExitPerform cycle) = ExitPerform cycle
    written_stmt StopRun = StopRun

    -- statements as they are written
    pub written_stmts : Stmts → Stmts
    written_stmts none = none
    written_stmts (also stmt stmts) = also (written_stmt stmt) (written_stmts stmts)

    -- arms as they are written, the first of which has this number
    pub written_arms : (ℕ → Empty) → ℕ → Arms → Arms
    written_arms empty first done = done
    written_arms empty first (given arm others) =
        written_arm naming.nothing (empty first) true (written_stmts arm)
        (written_arms empty (suc first) others)
    written_arms empty first (missing others) =
        written_arm naming.nothing (empty first) false none (written_arms empty (suc first) others)

    -- the body of a loop as it is written
    pub written_body : Body → Body
    written_body (Nested stmts) = Nested (required naming.nothing (written_stmts stmts))
    written_body (Performed entry exit) =
        Performed (place (Part entry exit)) (place (Part entry exit))

-- main ends in STOP RUN always, another procedure where its end is Stop
abbrev pub closing : Range → End → Stmts
closing Main end = also StopRun none
closing (Part entry exit) Stop = also StopRun none
closing (Part entry exit) (Pick picker arms) = none
closing (Part entry exit) (Jump to) = none
closing (Part entry exit) Return = none
closing (Part entry exit) Dead = none

-- the paragraph of a procedure: one sentence
abbrev pub written_paragraph : Naming → (Range → ℕ) → Procedure → Paragraph
written_paragraph naming place procedure =
    required naming.nothing
    (then_stmts (written_stmts naming place procedure.range procedure.body)
    (closing procedure.range procedure.end)) ∷ []

-- the program that is written of these procedures, each a paragraph
abbrev pub rendered : Naming → List Procedure → Program
rendered naming procedures =
    record { paragraphs = map (written_paragraph naming (place_of procedures)) procedures }
