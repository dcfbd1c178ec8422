-- What is written of procedures that can be written leaves no section.
use Rattle.std.proofs.Common.{ℕ, suc, Bool, true, false, List, [], ◌∷◌, inl, inr}
use Rattle.control_flow_theory.specs.language.Language.{Simple, If, By, ByCell, Stmt, Do, Choose, Loop, Perform, Go, GoDepending, NextSentence, ExitParagraph, ExitSection, ExitPerform, StopRun, Stmts, none, also, Arms, done, given, missing, Body, Nested, Performed, Paragraph, Range, Main, Part}
use Rattle.control_flow_theory.specs.semantics.Graph.{End, Pick, Jump, Return, Stop, Dead}
use Rattle.control_flow_theory.specs.rendering.Rendering.{Empty, Continues, Stays, Goes, Naming, Procedure, place_of, required, written_arm, and_missing, whole_arms, picker_lacks, then_stmts, closing, written_stmt, written_stmts, written_arms, written_body, written_paragraph}
use Rattle.control_flow_theory.specs.rendering.Procedures.{Writable, StmtStands, StmtsStand, StmtsLeft, ArmsStand, BodyStands, StmtChooses, BodyChooses}
use Rattle.procedure_split.specs.made_procedures.Staying.{StmtStays, StmtsStay, ArmsStay, BodyStays}

-- each of its sentences does
abbrev pub SentencesStay : Paragraph → Type 0
SentencesStay [] = Unit {0}
SentencesStay (sentence ∷ sentences) = StmtsStay sentence × SentencesStay sentences

module _ (nothing : Simple) where
  required-stay : (stmts : Stmts) → StmtsStay stmts → StmtsStay (required nothing stmts)
  required-stay none h = (tt, tt)
  required-stay (also stmt stmts) h = h

  arm-stays : (empty : Empty) (was_given : Bool) (stmts : Stmts) (others : Arms) →
      StmtsStay stmts → ArmsStay others →
      ArmsStay (written_arm nothing empty was_given stmts others)
  arm-stays empty was_given (also stmt stmts) others h g = (h, g)
  arm-stays Continues was_given none others h g = ((tt, tt), g)
  arm-stays Stays true none others h g = ((tt, tt), g)
  arm-stays Stays false none others h g = g
  arm-stays Goes was_given none others h g = g

missing-stay : (arms : Arms) → ArmsStay arms → ArmsStay (and_missing arms)
missing-stay done h = h
missing-stay (given arm others) h = (h.0, missing-stay others h.1)
missing-stay (missing others) h = missing-stay others h

whole-stay : (lacks : Bool) (arms : Arms) → ArmsStay arms → ArmsStay (whole_arms lacks arms)
whole-stay true arms h = missing-stay arms h
whole-stay false arms h = h

then-stay : (stmts more : Stmts) → StmtsStay stmts → StmtsStay more →
    StmtsStay (then_stmts stmts more)
then-stay none more h g = g
then-stay (also stmt stmts) more h g = (h.0, then-stay stmts more h.1 g)

closing-stays : (range : Range) (end : End) → StmtsStay (closing range end)
closing-stays Main end = (tt, tt)
closing-stays (Part entry exit) Stop = (tt, tt)
closing-stays (Part entry exit) (Pick picker arms) = tt
closing-stays (Part entry exit) (Jump to) = tt
closing-stays (Part entry exit) Return = tt
closing-stays (Part entry exit) Dead = tt

module _ (naming : Naming) (kinds : Writable) (procedures : List Procedure) (range : Range) where
  abbrev place : Range → ℕ
  place = place_of procedures

  mutual
    stmt-stays : (stmt : Stmt) → StmtStands naming kinds procedures range stmt →
        StmtStays (written_stmt naming place range stmt)
    stmt-stays (Do act) = λ h. tt
    stmt-stays (Choose picker arms) = λ h.
        whole-stay (picker_lacks naming place range picker)
        (written_arms naming place range (naming.empty range picker) 0 arms)
        (arms-stay (naming.empty range picker) 0 arms h.1)
    stmt-stays (Loop control body) = λ h.
        elim h.1 [ inl s ↦ body-stays body s | inr c ↦ choosing-stays c.0 body c.2 ]
    stmt-stays (Perform entry exit) = λ h. tt
    stmt-stays (Go to) = λ h. tt
    stmt-stays (GoDepending to chooser) = λ h. tt
    stmt-stays NextSentence = λ h. tt
    stmt-stays ExitParagraph = λ h. tt
    stmt-stays (ExitSection last) = λ h. h
    stmt-stays (ExitPerform cycle) = λ h. tt
    stmt-stays StopRun = λ h. tt

    stmts-stay : (stmts : Stmts) → StmtsStand naming kinds procedures range stmts →
        StmtsStay (written_stmts naming place range stmts)
    stmts-stay none = λ h. tt
    stmts-stay (also stmt stmts) = λ h.
        let here = stmt-stays stmt h.0 in
        (here, elim h.1 [ inl s ↦ stmts-stay stmts s | inr l ↦ left-stay stmts stmt l ])

    left-stay : (stmts : Stmts) (stmt : Stmt) →
        StmtsLeft naming kinds procedures range stmts stmt →
        StmtsStay (written_stmts naming place range stmts)
    left-stay none stmt = λ h. absurd h
    left-stay (also next stmts) stmt = λ h. (chosen-stays h.0 next h.2, stmts-stay stmts h.3)

    arms-stay : (empty : ℕ → Empty) (first : ℕ) (arms : Arms) →
        ArmsStand naming kinds procedures range arms →
        ArmsStay (written_arms naming place range empty first arms)
    arms-stay empty first done = λ h. tt
    arms-stay empty first (given arm others) = λ h.
        arm-stays naming.nothing (empty first) true (written_stmts naming place range arm)
        (written_arms naming place range empty (suc first) others)
        (stmts-stay arm h.0) (arms-stay empty (suc first) others h.1)
    arms-stay empty first (missing others) = λ h.
        arm-stays naming.nothing (empty first) false none
        (written_arms naming place range empty (suc first) others) tt
        (arms-stay empty (suc first) others h)

    body-stays : (body : Body) → BodyStands naming kinds procedures range body →
        BodyStays (written_body naming place range body)
    body-stays (Nested stmts) = λ h.
        required-stay naming.nothing (written_stmts naming place range stmts) (stmts-stay stmts h)
    body-stays (Performed entry exit) = λ h. tt

    chosen-stays : (cell : ℕ) (stmt : Stmt) →
        StmtChooses naming kinds procedures range cell stmt →
        StmtStays (written_stmt naming place range stmt)
    chosen-stays cell (Choose (ByCell by) arms) = λ h.
        whole-stay (naming.lacks_other range by)
        (written_arms naming place range (naming.empty range (ByCell by)) 0 arms)
        (arms-stay (naming.empty range (ByCell by)) 0 arms h.2)
    chosen-stays cell (Choose (If test) arms) = λ h. absurd h
    chosen-stays cell (Choose (By chooser) arms) = λ h. absurd h
    chosen-stays cell (Do act) = λ h. absurd h
    chosen-stays cell (Loop control body) = λ h. absurd h
    chosen-stays cell (Perform entry exit) = λ h. absurd h
    chosen-stays cell (Go to) = λ h. absurd h
    chosen-stays cell (GoDepending to chooser) = λ h. absurd h
    chosen-stays cell NextSentence = λ h. absurd h
    chosen-stays cell ExitParagraph = λ h. absurd h
    chosen-stays cell (ExitSection last) = λ h. absurd h
    chosen-stays cell (ExitPerform cycle) = λ h. absurd h
    chosen-stays cell StopRun = λ h. absurd h

    choosing-stays : (cell : ℕ) (body : Body) →
        BodyChooses naming kinds procedures range cell body →
        BodyStays (written_body naming place range body)
    choosing-stays cell (Nested none) = λ h. absurd h
    choosing-stays cell (Nested (also stmt none)) = λ h. (chosen-stays cell stmt h, tt)
    choosing-stays cell (Nested (also stmt (also next stmts))) = λ h. absurd h
    choosing-stays cell (Performed entry exit) = λ h. absurd h

pub paragraph-stays : (naming : Naming) (kinds : Writable) (procedures : List Procedure)
    (procedure : Procedure) →
    StmtsStand naming kinds procedures procedure.range procedure.body →
    SentencesStay (written_paragraph naming (place_of procedures) procedure)
paragraph-stays naming kinds procedures procedure h =
    let body = written_stmts naming (place_of procedures) procedure.range procedure.body in
    let behind = closing procedure.range procedure.end in (
      required-stay naming.nothing (then_stmts body behind)
          (then-stay body behind
          (stmts-stay naming kinds procedures procedure.range procedure.body h)
          (closing-stays procedure.range procedure.end)),
      tt,
    )
