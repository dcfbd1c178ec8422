-- What is written of procedures has no word on an added item.
use Rattle.std.proofs.Common.{ℕ, suc, Bool, true, false, List, [], ◌∷◌, map}
use Rattle.control_flow_theory.specs.language.Language.{Simple, Act, Own, Set, Take, Lower, Test, Holds, Not, Is, Above, Picker, If, By, ByCell, Control, Times, Until, Varying, Stmt, Do, Choose, Loop, Perform, Go, GoDepending, NextSentence, ExitParagraph, ExitSection, ExitPerform, StopRun, Stmts, none, also, Arms, done, given, missing, Body, Nested, Performed, Range, Main, Part}
use Rattle.control_flow_theory.specs.language.Own.{OwnAct, OwnTest, OwnPicker, OwnControl, OwnStmt, OwnStmts, OwnArms, OwnBody, OwnParagraph, OwnParagraphs}
use Rattle.control_flow_theory.specs.semantics.Graph.{End, Pick, Jump, Return, Stop, Dead}
use Rattle.control_flow_theory.specs.rendering.Rendering.{Empty, Continues, Stays, Goes, Naming, Procedure, place_of, standing, required, written_arm, and_missing, whole_arms, picker_lacks, then_stmts, closing, written_act, written_test, written_picker, written_control, written_stmt, written_stmts, written_arms, written_body, written_paragraph, rendered}

module _ (nothing : Simple) where
  required-own : (stmts : Stmts) → OwnStmts stmts → OwnStmts (required nothing stmts)
  required-own none h = (tt, tt)
  required-own (also stmt stmts) h = h

  arm-own : (empty : Empty) (was_given : Bool) (stmts : Stmts) (others : Arms) →
      OwnStmts stmts → OwnArms others →
      OwnArms (written_arm nothing empty was_given stmts others)
  arm-own empty was_given (also stmt stmts) others h g = (h, g)
  arm-own Continues was_given none others h g = ((tt, tt), g)
  arm-own Stays true none others h g = ((tt, tt), g)
  arm-own Stays false none others h g = g
  arm-own Goes was_given none others h g = g

missing-own : (arms : Arms) → OwnArms arms → OwnArms (and_missing arms)
missing-own done h = h
missing-own (given arm others) h = (h.0, missing-own others h.1)
missing-own (missing others) h = missing-own others h

whole-own : (lacks : Bool) (arms : Arms) → OwnArms arms → OwnArms (whole_arms lacks arms)
whole-own true arms h = missing-own arms h
whole-own false arms h = h

then-own : (stmts more : Stmts) → OwnStmts stmts → OwnStmts more →
    OwnStmts (then_stmts stmts more)
then-own none more h g = g
then-own (also stmt stmts) more h g = (h.0, then-own stmts more h.1 g)

closing-own : (range : Range) (end : End) → OwnStmts (closing range end)
closing-own Main end = (tt, tt)
closing-own (Part entry exit) Stop = (tt, tt)
closing-own (Part entry exit) (Pick picker arms) = tt
closing-own (Part entry exit) (Jump to) = tt
closing-own (Part entry exit) Return = tt
closing-own (Part entry exit) Dead = tt

module _ (naming : Naming) (place : Range → ℕ) (range : Range) where
  act-own : (act : Act) → OwnAct (written_act naming place range act)
  act-own (Own simple) = tt
  act-own (Set cell value) = tt
  act-own (Take cell amount) = tt
  act-own (Lower cell) = tt

  test-own : (test : Test) → OwnTest (written_test naming place range test)
  test-own (Holds cond) = tt
  test-own (Not test) = test-own test
  test-own (Is cell value) = tt
  test-own (Above cell) = tt

  picker-own : (picker : Picker) (arms : List Bool) →
      OwnPicker (written_picker naming place range picker arms)
  picker-own (If test) arms = test-own test
  picker-own (By chooser) arms = tt
  picker-own (ByCell cell) arms = tt

  control-own : (control : Control) → OwnControl (written_control naming place range control)
  control-own (Times amount) = tt
  control-own (Until after test) = test-own test
  control-own (Varying after set step test) = (act-own set, act-own step, test-own test)

  mutual
    stmt-own : (stmt : Stmt) → OwnStmt (written_stmt naming place range stmt)
    stmt-own (Do act) = act-own act
    stmt-own (Choose picker arms) = (
      picker-own picker (standing (naming.empty range picker) 0 arms),
      whole-own (picker_lacks naming place range picker)
          (written_arms naming place range (naming.empty range picker) 0 arms)
          (arms-own (naming.empty range picker) 0 arms),
    )
    stmt-own (Loop control body) = (control-own control, body-own body)
    stmt-own (Perform entry exit) = tt
    stmt-own (Go to) = tt
    stmt-own (GoDepending to chooser) = tt
    stmt-own NextSentence = tt
    stmt-own ExitParagraph = tt
    stmt-own (ExitSection last) = tt
    stmt-own (ExitPerform cycle) = tt
    stmt-own StopRun = tt

    stmts-own : (stmts : Stmts) → OwnStmts (written_stmts naming place range stmts)
    stmts-own none = tt
    stmts-own (also stmt stmts) = (stmt-own stmt, stmts-own stmts)

    arms-own : (empty : ℕ → Empty) (first : ℕ) (arms : Arms) →
        OwnArms (written_arms naming place range empty first arms)
    arms-own empty first done = tt
    arms-own empty first (given arm others) =
        arm-own naming.nothing (empty first) true (written_stmts naming place range arm)
        (written_arms naming place range empty (suc first) others) (stmts-own arm)
        (arms-own empty (suc first) others)
    arms-own empty first (missing others) =
        arm-own naming.nothing (empty first) false none
        (written_arms naming place range empty (suc first) others) tt
        (arms-own empty (suc first) others)

    body-own : (body : Body) → OwnBody (written_body naming place range body)
    body-own (Nested stmts) =
        required-own naming.nothing (written_stmts naming place range stmts) (stmts-own stmts)
    body-own (Performed entry exit) = tt

paragraph-own : (naming : Naming) (place : Range → ℕ) (procedure : Procedure) →
    OwnParagraph (written_paragraph naming place procedure)
paragraph-own naming place procedure =
    let body = written_stmts naming place procedure.range procedure.body in
    let behind = closing procedure.range procedure.end in (
      required-own naming.nothing (then_stmts body behind)
          (then-own body behind (stmts-own naming place procedure.range procedure.body)
          (closing-own procedure.range procedure.end)),
      tt,
    )

paragraphs-own : (naming : Naming) (place : Range → ℕ) (procedures : List Procedure) →
    OwnParagraphs (map (written_paragraph naming place) procedures)
paragraphs-own naming place [] = tt
paragraphs-own naming place (procedure ∷ others) =
    (paragraph-own naming place procedure, paragraphs-own naming place others)

pub rendered-own : (naming : Naming) (procedures : List Procedure) →
    OwnParagraphs (rendered naming procedures).paragraphs
rendered-own naming procedures = paragraphs-own naming (place_of procedures) procedures
