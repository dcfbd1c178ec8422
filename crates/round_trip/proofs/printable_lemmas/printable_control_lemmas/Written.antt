-- What is written of statements that may stand can be printed, where their parts can.
use Rattle.std.proofs.Common.{◌≡◌, ℕ, suc, Bool, true, false, List, length, refl, ap, sym, subst, inl, inr}
use Rattle.control_flow_theory.specs.language.Language.{Act, Own, Set, Take, Lower, Test, Holds, Not, Is, Above, Picker, If, By, ByCell, Control, Times, Until, Varying, Stmt, Do, Choose, Loop, Perform, Go, GoDepending, NextSentence, ExitParagraph, ExitSection, ExitPerform, StopRun, Stmts, none, also, Arms, done, given, missing, Body, Nested, Performed, Range, Main, Part}
use Rattle.control_flow_theory.specs.semantics.Graph.{End, Pick, Jump, Return, Stop, Dead}
use Rattle.control_flow_theory.specs.rendering.Rendering.{Empty, Continues, Stays, Goes, Naming, Procedure, place_of, count_arms, standing, required, written_act, written_test, written_picker, written_control, written_arm, and_missing, whole_arms, picker_lacks, then_stmts, closing, written_stmt, written_stmts, written_arms, written_body}
use Rattle.control_flow_theory.specs.rendering.Procedures.{Writable, ActFits, TestFits, PickerFits, ControlFits, StmtStands, StmtsStand, StmtsLeft, ArmsStand, BodyStands, StmtChooses, BodyChooses}
use Rattle.round_trip.specs.printable.printable_control.Prints.{ActPrints, TestPrints, PickerPrints, ControlPrints, StmtPrints, StmtsPrint, ArmsPrint, BodyPrints}
use Rattle.round_trip.specs.printable.printable_control.Written.{NamesPrint}

missing-print : (arms : Arms) → ArmsPrint arms → ArmsPrint (and_missing arms)
missing-print done h = h
missing-print (given arm others) h = (h.0, missing-print others h.1)
missing-print (missing others) h = missing-print others h

whole-print : (lacks : Bool) (arms : Arms) → ArmsPrint arms → ArmsPrint (whole_arms lacks arms)
whole-print true arms h = missing-print arms h
whole-print false arms h = h

then-print : (stmts more : Stmts) → StmtsPrint stmts → StmtsPrint more →
    StmtsPrint (then_stmts stmts more)
then-print none more h g = g
then-print (also stmt stmts) more h g = (h.0, then-print stmts more h.1 g)

closing-prints : (range : Range) (end : End) → StmtsPrint (closing range end)
closing-prints Main end = (tt, tt)
closing-prints (Part entry exit) Stop = (tt, tt)
closing-prints (Part entry exit) (Pick picker arms) = tt
closing-prints (Part entry exit) (Jump to) = tt
closing-prints (Part entry exit) Return = tt
closing-prints (Part entry exit) Dead = tt

-- as many arms as there are
standing-counts : (empty : ℕ → Empty) (first : ℕ) (arms : Arms) → length (standing empty first arms) ≡ count_arms arms
standing-counts empty first done = refl
standing-counts empty first (given arm others) = ap suc (standing-counts empty (suc first) others)
standing-counts empty first (missing others) = ap suc (standing-counts empty (suc first) others)

module _ (naming : Naming) (kinds : Writable) (names : NamesPrint naming kinds)
    (procedures : List Procedure) (range : Range) where
  abbrev place : Range → ℕ
  place = place_of procedures

  required-print : (stmts : Stmts) → StmtsPrint stmts → StmtsPrint (required naming.nothing stmts)
  required-print none h = (names.nothing, tt)
  required-print (also stmt stmts) h = h

  arm-prints : (empty : Empty) (was_given : Bool) (stmts : Stmts) (others : Arms) →
      StmtsPrint stmts → ArmsPrint others →
      ArmsPrint (written_arm naming.nothing empty was_given stmts others)
  arm-prints empty was_given (also stmt stmts) others h g = (h, g)
  arm-prints Continues was_given none others h g = ((names.nothing, tt), g)
  arm-prints Stays true none others h g = ((names.nothing, tt), g)
  arm-prints Stays false none others h g = g
  arm-prints Goes was_given none others h g = g

  act-prints : (act : Act) → ActFits naming kinds procedures range act →
      ActPrints (written_act naming place range act)
  act-prints (Own simple) h = names.simples simple h
  act-prints (Set cell value) h = names.set range cell value h
  act-prints (Take cell amount) h = names.take range cell amount h.1
  act-prints (Lower cell) h = names.lower range cell

  test-prints : (test : Test) → TestFits naming kinds procedures range test → TestPrints (written_test naming place range test)
  test-prints (Holds cond) h = names.conds cond h
  test-prints (Not test) h = test-prints test h
  test-prints (Is cell value) h = names.is range cell value h
  test-prints (Above cell) h = names.above range cell

  picker-prints : (picker : Picker) (arms : List Bool) → PickerFits naming kinds procedures range picker arms → PickerPrints (written_picker naming place range picker arms)
  picker-prints (If test) arms h = test-prints test h
  picker-prints (By chooser) arms h = names.choosers chooser arms h
  picker-prints (ByCell cell) arms h = absurd h

  control-prints : (control : Control) → ControlFits naming kinds procedures range control → ControlPrints (written_control naming place range control)
  control-prints (Times amount) h = names.amounts amount h
  control-prints (Until after test) h = test-prints test h
  control-prints (Varying after set step test) h = (act-prints set h.0, act-prints step h.1, test-prints test h.2)

  mutual
    stmt-prints : (stmt : Stmt) → StmtStands naming kinds procedures range stmt →
        StmtPrints (written_stmt naming place range stmt)
    stmt-prints (Do act) = λ h. act-prints act h
    stmt-prints (Choose picker arms) = λ h. (
      picker-prints picker (standing (naming.empty range picker) 0 arms) h.0,
      whole-print (picker_lacks naming place range picker)
          (written_arms naming place range (naming.empty range picker) 0 arms)
          (arms-print (naming.empty range picker) 0 arms h.1),
    )
    stmt-prints (Loop control body) = λ h.
        (control-prints control h.0, elim h.1 [ inl s ↦ body-prints body s | inr c ↦ choosing-prints c.0 body c.2 ])
    stmt-prints (Perform entry exit) = λ h. tt
    stmt-prints (Go to) = λ h. tt
    stmt-prints (GoDepending to chooser) = λ h. absurd h
    stmt-prints NextSentence = λ h. tt
    stmt-prints ExitParagraph = λ h. tt
    stmt-prints (ExitSection last) = λ h. tt
    stmt-prints (ExitPerform cycle) = λ h. tt
    stmt-prints StopRun = λ h. tt

    pub stmts-print : (stmts : Stmts) → StmtsStand naming kinds procedures range stmts →
        StmtsPrint (written_stmts naming place range stmts)
    stmts-print none = λ h. tt
    stmts-print (also stmt stmts) = λ h.
        let here = stmt-prints stmt h.0 in
        (here, elim h.1 [ inl s ↦ stmts-print stmts s | inr l ↦ left-print stmts stmt l ])

    left-print : (stmts : Stmts) (stmt : Stmt) →
        StmtsLeft naming kinds procedures range stmts stmt →
        StmtsPrint (written_stmts naming place range stmts)
    left-print none stmt = λ h. absurd h
    left-print (also next stmts) stmt = λ h. (chosen-prints h.0 next h.2, stmts-print stmts h.3)

    arms-print : (empty : ℕ → Empty) (first : ℕ) (arms : Arms) →
        ArmsStand naming kinds procedures range arms →
        ArmsPrint (written_arms naming place range empty first arms)
    arms-print empty first done = λ h. tt
    arms-print empty first (given arm others) = λ h.
        arm-prints (empty first) true (written_stmts naming place range arm)
        (written_arms naming place range empty (suc first) others)
        (stmts-print arm h.0) (arms-print empty (suc first) others h.1)
    arms-print empty first (missing others) = λ h.
        arm-prints (empty first) false none
        (written_arms naming place range empty (suc first) others) tt
        (arms-print empty (suc first) others h)

    body-prints : (body : Body) → BodyStands naming kinds procedures range body →
        BodyPrints (written_body naming place range body)
    body-prints (Nested stmts) = λ h.
        required-print (written_stmts naming place range stmts) (stmts-print stmts h)
    body-prints (Performed entry exit) = λ h. tt

    chosen-prints : (cell : ℕ) (stmt : Stmt) →
        StmtChooses naming kinds procedures range cell stmt →
        StmtPrints (written_stmt naming place range stmt)
    chosen-prints cell (Choose (ByCell by) arms) = λ h. (
      names.by_cell range by (standing (naming.empty range (ByCell by)) 0 arms) (count_arms arms)
          (standing-counts (naming.empty range (ByCell by)) 0 arms)
          (subst (λ c. kinds.chooses range c (count_arms arms) ≡ true) (sym h.0) h.1),
      whole-print (naming.lacks_other range by)
          (written_arms naming place range (naming.empty range (ByCell by)) 0 arms)
          (arms-print (naming.empty range (ByCell by)) 0 arms h.2),
    )
    chosen-prints cell (Choose (If test) arms) = λ h. absurd h
    chosen-prints cell (Choose (By chooser) arms) = λ h. absurd h
    chosen-prints cell (Do act) = λ h. absurd h
    chosen-prints cell (Loop control body) = λ h. absurd h
    chosen-prints cell (Perform entry exit) = λ h. absurd h
    chosen-prints cell (Go to) = λ h. absurd h
    chosen-prints cell (GoDepending to chooser) = λ h. absurd h
    chosen-prints cell NextSentence = λ h. absurd h
    chosen-prints cell ExitParagraph = λ h. absurd h
    chosen-prints cell (ExitSection last) = λ h. absurd h
    chosen-prints cell (ExitPerform cycle) = λ h. absurd h
    chosen-prints cell StopRun = λ h. absurd h

    choosing-prints : (cell : ℕ) (body : Body) →
        BodyChooses naming kinds procedures range cell body →
        BodyPrints (written_body naming place range body)
    choosing-prints cell (Nested none) = λ h. absurd h
    choosing-prints cell (Nested (also stmt none)) = λ h. (chosen-prints cell stmt h, tt)
    choosing-prints cell (Nested (also stmt (also next stmts))) = λ h. absurd h
    choosing-prints cell (Performed entry exit) = λ h. absurd h

-- so does the sentence of a procedure
pub sentence-prints : (naming : Naming) (kinds : Writable) (names : NamesPrint naming kinds)
    (procedures : List Procedure) (procedure : Procedure) →
    StmtsStand naming kinds procedures procedure.range procedure.body →
    StmtsPrint (required naming.nothing
    (then_stmts (written_stmts naming (place_of procedures) procedure.range procedure.body)
    (closing procedure.range procedure.end)))
sentence-prints naming kinds names procedures procedure h =
    let body = written_stmts naming (place_of procedures) procedure.range procedure.body in
    let behind = closing procedure.range procedure.end in
    required-print naming kinds names procedures procedure.range (then_stmts body behind)
    (then-print body behind
    (stmts-print naming kinds names procedures procedure.range procedure.body h)
    (closing-prints procedure.range procedure.end))
