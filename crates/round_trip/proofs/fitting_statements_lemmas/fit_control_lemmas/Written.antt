-- What is written of statements that may stand fits, where their parts do.
use Rattle.std.proofs.Common.{◌≡◌, ℕ, suc, Bool, true, false, List, length, refl, ap, sym, subst, inl, inr}
use Rattle.control_flow_theory.specs.language.Language.{Simple, Act, Own, Set, Take, Lower, Test, Holds, Not, Is, Above, Picker, If, By, ByCell, Control, Times, Until, Varying, Stmt, Do, Choose, Loop, Perform, Go, GoDepending, NextSentence, ExitParagraph, ExitSection, ExitPerform, StopRun, Stmts, none, also, Arms, done, given, missing, Body, Nested, Performed, Range, Main, Part}
use Rattle.control_flow_theory.specs.semantics.Graph.{End, Pick, Jump, Return, Stop, Dead}
use Rattle.control_flow_theory.specs.rendering.Rendering.{Empty, Continues, Stays, Goes, Naming, Procedure, place_of, count_arms, standing, required, written_act, written_test, written_picker, written_control, written_arm, and_missing, whole_arms, picker_lacks, then_stmts, closing, written_stmt, written_stmts, written_arms, written_body}
use Rattle.control_flow_theory.specs.rendering.Procedures.{Writable, ActFits, TestFits, PickerFits, ControlFits, StandsLater, StmtStands, StmtsStand, StmtsLeft, ArmsStand, BodyStands, StmtChooses, BodyChooses}
use Rattle.round_trip.specs.fitting_statements.Fits.{Fits}
use Rattle.round_trip.specs.fitting_statements.fit_control.Fit.{IsFilled, ActIsFit, BeginsFit, TestIsFit, PickerIsFit, ControlIsFit, TurnsFit, StmtFits, StmtsFit, ArmsFit, BodyFits}
use Rattle.round_trip.specs.fitting_statements.sound_bodies.Sound.{ActBegins, ControlIsSound, StmtIsSound, StmtsAreSound, ArmsAreSound, BodyIsSound}
use Rattle.round_trip.specs.fitting_statements.fit_control.Written.{NamesFit}

module _ (fits : Fits) where
  missing-fit : (arms : Arms) → ArmsFit fits arms → ArmsFit fits (and_missing arms)
  missing-fit done h = h
  missing-fit (given arm others) h = (h.0, h.1, missing-fit others h.2)
  missing-fit (missing others) h = missing-fit others h

  whole-fit : (lacks : Bool) (arms : Arms) → ArmsFit fits arms → ArmsFit fits (whole_arms lacks arms)
  whole-fit true arms h = missing-fit arms h
  whole-fit false arms h = h

  then-fit : (stmts more : Stmts) → StmtsFit fits stmts → StmtsFit fits more →
      StmtsFit fits (then_stmts stmts more)
  then-fit none more h g = g
  then-fit (also stmt stmts) more h g = (h.0, then-fit stmts more h.1 g)

  closing-fits : (range : Range) (end : End) → StmtsFit fits (closing range end)
  closing-fits Main end = (tt, tt)
  closing-fits (Part entry exit) Stop = (tt, tt)
  closing-fits (Part entry exit) (Pick picker arms) = tt
  closing-fits (Part entry exit) (Jump to) = tt
  closing-fits (Part entry exit) Return = tt
  closing-fits (Part entry exit) Dead = tt

-- as many arms as there are
standing-counts : (empty : ℕ → Empty) (first : ℕ) (arms : Arms) → length (standing empty first arms) ≡ count_arms arms
standing-counts empty first done = refl
standing-counts empty first (given arm others) = ap suc (standing-counts empty (suc first) others)
standing-counts empty first (missing others) = ap suc (standing-counts empty (suc first) others)

module _ (naming : Naming) (kinds : Writable) (begins : Simple → Bool) (enough : Range → (cell arms : ℕ) → Bool) (fits : Fits)
    (procedures : List Procedure) (names : NamesFit naming kinds begins enough fits (length procedures)) (range : Range) where
  abbrev place : Range → ℕ
  place = place_of procedures

  required-filled : (stmts : Stmts) → IsFilled (required naming.nothing stmts)
  required-filled none = tt
  required-filled (also stmt stmts) = tt

  required-fit : (stmts : Stmts) → StmtsFit fits stmts → StmtsFit fits (required naming.nothing stmts)
  required-fit none h = (names.nothing, tt)
  required-fit (also stmt stmts) h = h

  arm-fits : (empty : Empty) (was_given : Bool) (stmts : Stmts) (others : Arms) →
      StmtsFit fits stmts → ArmsFit fits others →
      ArmsFit fits (written_arm naming.nothing empty was_given stmts others)
  arm-fits empty was_given (also stmt stmts) others h g = (tt, h, g)
  arm-fits Continues was_given none others h g = (tt, (names.nothing, tt), g)
  arm-fits Stays true none others h g = (tt, (names.nothing, tt), g)
  arm-fits Stays false none others h g = g
  arm-fits Goes was_given none others h g = g

  act-fits : (act : Act) → ActFits naming kinds procedures range act →
      ActIsFit fits (written_act naming place range act)
  act-fits (Own simple) h = names.simples simple h
  act-fits (Set cell value) h = names.set range cell value h
  act-fits (Take cell amount) h = names.take range cell amount h.0 h.1
  act-fits (Lower cell) h = names.lower range cell h

  begin-fits : (act : Act) → ActBegins begins (enough range) act → BeginsFit fits (written_act naming place range act)
  begin-fits (Own simple) h = names.begins simple h
  begin-fits (Set cell value) h = absurd h
  begin-fits (Take cell amount) h = absurd h
  begin-fits (Lower cell) h = absurd h

  test-fits : (test : Test) → TestFits naming kinds procedures range test → TestIsFit fits (written_test naming place range test)
  test-fits (Holds cond) h = names.conds cond h
  test-fits (Not test) h = test-fits test h
  test-fits (Is cell value) h = names.is range cell value h
  test-fits (Above cell) h = names.above range cell h

  picker-fits : (picker : Picker) (arms : List Bool) → PickerFits naming kinds procedures range picker arms → PickerIsFit fits (written_picker naming place range picker arms)
  picker-fits (If test) arms h = test-fits test h
  picker-fits (By chooser) arms h = names.choosers chooser arms h
  picker-fits (ByCell cell) arms h = absurd h

  control-fits : (control : Control) → ControlFits naming kinds procedures range control → ControlIsSound begins (enough range) control →
      ControlIsFit fits (written_control naming place range control)
  control-fits (Times amount) h s = (names.amounts amount h).0
  control-fits (Until after test) h s = test-fits test h
  control-fits (Varying after set step test) h s = (begin-fits set s, act-fits step h.1, test-fits test h.2)

  turns-fit : (control : Control) → ControlFits naming kinds procedures range control → TurnsFit fits (written_control naming place range control)
  turns-fit (Times amount) h = (names.amounts amount h).1
  turns-fit (Until after test) h = tt
  turns-fit (Varying after set step test) h = tt

  later-fits : (other : Range) → StandsLater naming kinds procedures range other → fits.range (place other) (place other) ≡ true
  later-fits other h = names.ranges (place other) h.1

  mutual
    stmt-fits : (stmt : Stmt) → StmtStands naming kinds procedures range stmt → StmtIsSound begins (enough range) stmt →
        StmtFits fits (written_stmt naming place range stmt)
    stmt-fits (Do act) = λ h s. act-fits act h
    stmt-fits (Choose picker arms) = λ h s. (
      picker-fits picker (standing (naming.empty range picker) 0 arms) h.0,
      whole-fit fits (picker_lacks naming place range picker)
          (written_arms naming place range (naming.empty range picker) 0 arms)
          (arms-fit (naming.empty range picker) 0 arms h.1 s.1),
    )
    stmt-fits (Loop control body) = λ h s. (
      control-fits control h.0 s.0,
      elim h.1 [ inl b ↦ body-fits control body h.0 b s.1 | inr c ↦ choosing-fits control c.0 body h.0 c.2 s.1 ],
    )
    stmt-fits (Perform entry exit) = λ h s. later-fits (Part entry exit) h
    stmt-fits (Go to) = λ h s. absurd h
    stmt-fits (GoDepending to chooser) = λ h s. absurd h
    stmt-fits NextSentence = λ h s. tt
    stmt-fits ExitParagraph = λ h s. tt
    stmt-fits (ExitSection last) = λ h s. tt
    stmt-fits (ExitPerform cycle) = λ h s. tt
    stmt-fits StopRun = λ h s. tt

    pub stmts-fit : (stmts : Stmts) → StmtsStand naming kinds procedures range stmts → StmtsAreSound begins (enough range) stmts →
        StmtsFit fits (written_stmts naming place range stmts)
    stmts-fit none = λ h s. tt
    stmts-fit (also stmt stmts) = λ h s.
        let here = stmt-fits stmt h.0 s.0 in
        (here, elim h.1 [ inl b ↦ stmts-fit stmts b s.1 | inr l ↦ left-fits stmts stmt l s.1 ])

    left-fits : (stmts : Stmts) (stmt : Stmt) →
        StmtsLeft naming kinds procedures range stmts stmt → StmtsAreSound begins (enough range) stmts →
        StmtsFit fits (written_stmts naming place range stmts)
    left-fits none stmt = λ h s. absurd h
    left-fits (also next stmts) stmt = λ h s. (chosen-fits h.0 next h.2 s.0, stmts-fit stmts h.3 s.1)

    arms-fit : (empty : ℕ → Empty) (first : ℕ) (arms : Arms) →
        ArmsStand naming kinds procedures range arms → ArmsAreSound begins (enough range) arms →
        ArmsFit fits (written_arms naming place range empty first arms)
    arms-fit empty first done = λ h s. tt
    arms-fit empty first (given arm others) = λ h s.
        arm-fits (empty first) true (written_stmts naming place range arm)
        (written_arms naming place range empty (suc first) others)
        (stmts-fit arm h.0 s.0) (arms-fit empty (suc first) others h.1 s.1)
    arms-fit empty first (missing others) = λ h s.
        arm-fits (empty first) false none
        (written_arms naming place range empty (suc first) others) tt
        (arms-fit empty (suc first) others h s)

    body-fits : (control : Control) (body : Body) → ControlFits naming kinds procedures range control →
        BodyStands naming kinds procedures range body → BodyIsSound begins (enough range) body →
        BodyFits fits (written_control naming place range control) (written_body naming place range body)
    body-fits control (Nested stmts) = λ c h s. (
      required-filled (written_stmts naming place range stmts),
      required-fit (written_stmts naming place range stmts) (stmts-fit stmts h s),
      turns-fit control c,
    )
    body-fits control (Performed entry exit) = λ c h s. later-fits (Part entry exit) h

    chosen-fits : (cell : ℕ) (stmt : Stmt) →
        StmtChooses naming kinds procedures range cell stmt → StmtIsSound begins (enough range) stmt →
        StmtFits fits (written_stmt naming place range stmt)
    chosen-fits cell (Choose (ByCell by) arms) = λ h s. (
      names.by_cell range by (standing (naming.empty range (ByCell by)) 0 arms) (count_arms arms)
          (standing-counts (naming.empty range (ByCell by)) 0 arms)
          (subst (λ c. kinds.chooses range c (count_arms arms) ≡ true) (sym h.0) h.1) s.0,
      whole-fit fits (naming.lacks_other range by)
          (written_arms naming place range (naming.empty range (ByCell by)) 0 arms)
          (arms-fit (naming.empty range (ByCell by)) 0 arms h.2 s.1),
    )
    chosen-fits cell (Choose (If test) arms) = λ h s. absurd h
    chosen-fits cell (Choose (By chooser) arms) = λ h s. absurd h
    chosen-fits cell (Do act) = λ h s. absurd h
    chosen-fits cell (Loop control body) = λ h s. absurd h
    chosen-fits cell (Perform entry exit) = λ h s. absurd h
    chosen-fits cell (Go to) = λ h s. absurd h
    chosen-fits cell (GoDepending to chooser) = λ h s. absurd h
    chosen-fits cell NextSentence = λ h s. absurd h
    chosen-fits cell ExitParagraph = λ h s. absurd h
    chosen-fits cell (ExitSection last) = λ h s. absurd h
    chosen-fits cell (ExitPerform cycle) = λ h s. absurd h
    chosen-fits cell StopRun = λ h s. absurd h

    choosing-fits : (control : Control) (cell : ℕ) (body : Body) → ControlFits naming kinds procedures range control →
        BodyChooses naming kinds procedures range cell body → BodyIsSound begins (enough range) body →
        BodyFits fits (written_control naming place range control) (written_body naming place range body)
    choosing-fits control cell (Nested none) = λ c h s. absurd h
    choosing-fits control cell (Nested (also stmt none)) = λ c h s. (tt, (chosen-fits cell stmt h s.0, tt), turns-fit control c)
    choosing-fits control cell (Nested (also stmt (also next stmts))) = λ c h s. absurd h
    choosing-fits control cell (Performed entry exit) = λ c h s. absurd h

-- so does the sentence of a procedure
pub sentence-fits : (naming : Naming) (kinds : Writable) (begins : Simple → Bool) (enough : Range → (cell arms : ℕ) → Bool) (fits : Fits)
    (procedures : List Procedure) (names : NamesFit naming kinds begins enough fits (length procedures)) (procedure : Procedure) →
    StmtsStand naming kinds procedures procedure.range procedure.body → StmtsAreSound begins (enough procedure.range) procedure.body →
    let sentence = required naming.nothing
    (then_stmts (written_stmts naming (place_of procedures) procedure.range procedure.body)
    (closing procedure.range procedure.end)) in
    IsFilled sentence × StmtsFit fits sentence
sentence-fits naming kinds begins enough fits procedures names procedure h s =
    let body = written_stmts naming (place_of procedures) procedure.range procedure.body in
    let behind = closing procedure.range procedure.end in (
      required-filled naming kinds begins enough fits procedures names procedure.range (then_stmts body behind),
      required-fit naming kinds begins enough fits procedures names procedure.range (then_stmts body behind)
          (then-fit fits body behind
          (stmts-fit naming kinds begins enough fits procedures names procedure.range procedure.body h s)
          (closing-fits fits procedure.range procedure.end)),
    )
