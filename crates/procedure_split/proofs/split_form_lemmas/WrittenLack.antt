-- What is written of statements that may stand holds no EXIT, where no simple one is.
use Rattle.std.proofs.Common.{◌≡◌, ℕ, suc, Bool, true, false, List, inl, inr}
use Rattle.control_flow_theory.specs.language.Language.{Simple, Amount, Act, Own, Set, Take, Lower, If, By, ByCell, Stmt, Do, Choose, Loop, Perform, Go, GoDepending, NextSentence, ExitParagraph, ExitSection, ExitPerform, StopRun, Stmts, none, also, Arms, done, given, missing, Body, Nested, Performed, Range, Main, Part}
use Rattle.control_flow_theory.specs.semantics.Graph.{End, Pick, Jump, Return, Stop, Dead}
use Rattle.control_flow_theory.specs.rendering.Rendering.{Empty, Continues, Stays, Goes, Naming, Procedure, place_of, required, written_act, written_arm, and_missing, whole_arms, picker_lacks, then_stmts, closing, written_stmt, written_stmts, written_arms, written_body}
use Rattle.control_flow_theory.specs.rendering.Procedures.{Writable, ActFits, StmtStands, StmtsStand, StmtsLeft, ArmsStand, BodyStands, StmtChooses, BodyChooses}
use Rattle.grammar_laws.specs.short_lists.lone_exits.Alone.{is_exit}
use Rattle.procedure_split.proofs.split_form_lemmas.Lacking.{ActLacks, StmtLacks, StmtsLack, ArmsLack, BodyLacks}

missing-lack : (arms : Arms) → ArmsLack arms → ArmsLack (and_missing arms)
missing-lack done h = h
missing-lack (given arm others) h = (h.0, missing-lack others h.1)
missing-lack (missing others) h = missing-lack others h

whole-lack : (lacks : Bool) (arms : Arms) → ArmsLack arms → ArmsLack (whole_arms lacks arms)
whole-lack true arms h = missing-lack arms h
whole-lack false arms h = h

then-lack : (stmts more : Stmts) → StmtsLack stmts → StmtsLack more →
    StmtsLack (then_stmts stmts more)
then-lack none more h g = g
then-lack (also stmt stmts) more h g = (h.0, then-lack stmts more h.1 g)

closing-lacks : (range : Range) (end : End) → StmtsLack (closing range end)
closing-lacks Main end = (tt, tt)
closing-lacks (Part entry exit) Stop = (tt, tt)
closing-lacks (Part entry exit) (Pick picker arms) = tt
closing-lacks (Part entry exit) (Jump to) = tt
closing-lacks (Part entry exit) Return = tt
closing-lacks (Part entry exit) Dead = tt

-- what parts are called is no EXIT, where the program's own aren't
pub record LackExits (naming : Naming) (kinds : Writable) : Type 0 where
  pub nothing : is_exit naming.nothing ≡ false
  pub simples : (simple : Simple) → kinds.simples simple ≡ true →
      is_exit (naming.simple simple) ≡ false
  pub set : (range : Range) (cell value : ℕ) → is_exit (naming.set range cell value) ≡ false
  pub take : (range : Range) (cell : ℕ) (amount : Amount) →
      is_exit (naming.take range cell amount) ≡ false
  pub lower : (range : Range) (cell : ℕ) → is_exit (naming.lower range cell) ≡ false

module _ (naming : Naming) (kinds : Writable) (lack : LackExits naming kinds)
    (procedures : List Procedure) (range : Range) where
  abbrev place : Range → ℕ
  place = place_of procedures

  required-lack : (stmts : Stmts) → StmtsLack stmts → StmtsLack (required naming.nothing stmts)
  required-lack none h = (lack.nothing, tt)
  required-lack (also stmt stmts) h = h

  arm-lacks : (empty : Empty) (was_given : Bool) (stmts : Stmts) (others : Arms) →
      StmtsLack stmts → ArmsLack others →
      ArmsLack (written_arm naming.nothing empty was_given stmts others)
  arm-lacks empty was_given (also stmt stmts) others h g = (h, g)
  arm-lacks Continues was_given none others h g = ((lack.nothing, tt), g)
  arm-lacks Stays true none others h g = ((lack.nothing, tt), g)
  arm-lacks Stays false none others h g = g
  arm-lacks Goes was_given none others h g = g

  act-lacks : (act : Act) → ActFits naming kinds procedures range act →
      ActLacks (written_act naming place range act)
  act-lacks (Own simple) h = lack.simples simple h
  act-lacks (Set cell value) h = lack.set range cell value
  act-lacks (Take cell amount) h = lack.take range cell amount
  act-lacks (Lower cell) h = lack.lower range cell

  mutual
    stmt-lacks : (stmt : Stmt) → StmtStands naming kinds procedures range stmt →
        StmtLacks (written_stmt naming place range stmt)
    stmt-lacks (Do act) = λ h. act-lacks act h
    stmt-lacks (Choose picker arms) = λ h.
        whole-lack (picker_lacks naming place range picker)
        (written_arms naming place range (naming.empty range picker) 0 arms)
        (arms-lack (naming.empty range picker) 0 arms h.1)
    stmt-lacks (Loop control body) = λ h.
        elim h.1 [ inl s ↦ body-lacks body s | inr c ↦ choosing-lacks c.0 body c.2 ]
    stmt-lacks (Perform entry exit) = λ h. tt
    stmt-lacks (Go to) = λ h. tt
    stmt-lacks (GoDepending to chooser) = λ h. tt
    stmt-lacks NextSentence = λ h. tt
    stmt-lacks ExitParagraph = λ h. tt
    stmt-lacks (ExitSection last) = λ h. tt
    stmt-lacks (ExitPerform cycle) = λ h. tt
    stmt-lacks StopRun = λ h. tt

    pub stmts-lack : (stmts : Stmts) → StmtsStand naming kinds procedures range stmts →
        StmtsLack (written_stmts naming place range stmts)
    stmts-lack none = λ h. tt
    stmts-lack (also stmt stmts) = λ h.
        let here = stmt-lacks stmt h.0 in
        (here, elim h.1 [ inl s ↦ stmts-lack stmts s | inr l ↦ left-lack stmts stmt l ])

    left-lack : (stmts : Stmts) (stmt : Stmt) →
        StmtsLeft naming kinds procedures range stmts stmt →
        StmtsLack (written_stmts naming place range stmts)
    left-lack none stmt = λ h. absurd h
    left-lack (also next stmts) stmt = λ h. (chosen-lacks h.0 next h.2, stmts-lack stmts h.3)

    arms-lack : (empty : ℕ → Empty) (first : ℕ) (arms : Arms) →
        ArmsStand naming kinds procedures range arms →
        ArmsLack (written_arms naming place range empty first arms)
    arms-lack empty first done = λ h. tt
    arms-lack empty first (given arm others) = λ h.
        arm-lacks (empty first) true (written_stmts naming place range arm)
        (written_arms naming place range empty (suc first) others)
        (stmts-lack arm h.0) (arms-lack empty (suc first) others h.1)
    arms-lack empty first (missing others) = λ h.
        arm-lacks (empty first) false none
        (written_arms naming place range empty (suc first) others) tt
        (arms-lack empty (suc first) others h)

    body-lacks : (body : Body) → BodyStands naming kinds procedures range body →
        BodyLacks (written_body naming place range body)
    body-lacks (Nested stmts) = λ h.
        required-lack (written_stmts naming place range stmts) (stmts-lack stmts h)
    body-lacks (Performed entry exit) = λ h. tt

    chosen-lacks : (cell : ℕ) (stmt : Stmt) →
        StmtChooses naming kinds procedures range cell stmt →
        StmtLacks (written_stmt naming place range stmt)
    chosen-lacks cell (Choose (ByCell by) arms) = λ h.
        whole-lack (naming.lacks_other range by)
        (written_arms naming place range (naming.empty range (ByCell by)) 0 arms)
        (arms-lack (naming.empty range (ByCell by)) 0 arms h.2)
    chosen-lacks cell (Choose (If test) arms) = λ h. absurd h
    chosen-lacks cell (Choose (By chooser) arms) = λ h. absurd h
    chosen-lacks cell (Do act) = λ h. absurd h
    chosen-lacks cell (Loop control body) = λ h. absurd h
    chosen-lacks cell (Perform entry exit) = λ h. absurd h
    chosen-lacks cell (Go to) = λ h. absurd h
    chosen-lacks cell (GoDepending to chooser) = λ h. absurd h
    chosen-lacks cell NextSentence = λ h. absurd h
    chosen-lacks cell ExitParagraph = λ h. absurd h
    chosen-lacks cell (ExitSection last) = λ h. absurd h
    chosen-lacks cell (ExitPerform cycle) = λ h. absurd h
    chosen-lacks cell StopRun = λ h. absurd h

    choosing-lacks : (cell : ℕ) (body : Body) →
        BodyChooses naming kinds procedures range cell body →
        BodyLacks (written_body naming place range body)
    choosing-lacks cell (Nested none) = λ h. absurd h
    choosing-lacks cell (Nested (also stmt none)) = λ h. (chosen-lacks cell stmt h, tt)
    choosing-lacks cell (Nested (also stmt (also next stmts))) = λ h. absurd h
    choosing-lacks cell (Performed entry exit) = λ h. absurd h

-- so does the sentence of a procedure
pub sentence-lacks : (naming : Naming) (kinds : Writable) (lack : LackExits naming kinds)
    (procedures : List Procedure) (procedure : Procedure) →
    StmtsStand naming kinds procedures procedure.range procedure.body →
    StmtsLack (required naming.nothing
    (then_stmts (written_stmts naming (place_of procedures) procedure.range procedure.body)
    (closing procedure.range procedure.end)))
sentence-lacks naming kinds lack procedures procedure h =
    let body = written_stmts naming (place_of procedures) procedure.range procedure.body in
    let behind = closing procedure.range procedure.end in
    required-lack naming kinds lack procedures procedure.range (then_stmts body behind)
    (then-lack body behind
    (stmts-lack naming kinds lack procedures procedure.range procedure.body h)
    (closing-lacks procedure.range procedure.end))
