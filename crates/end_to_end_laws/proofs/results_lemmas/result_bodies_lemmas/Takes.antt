-- What two kinds take of a program, a third takes that has both.
use Rattle.std.proofs.Common.{ℕ, List, [], ◌∷◌, inl, inr}
use Rattle.control_flow_theory.specs.language.Language.{Chooser, Act, Own, Set, Take, Lower, Test, Holds, Not, Is, Above, Picker, If, By, ByCell, Control, Times, Until, Varying, Stmt, Do, Choose, Loop, Perform, Go, GoDepending, NextSentence, ExitParagraph, ExitSection, ExitPerform, StopRun, Stmts, none, also, Arms, done, given, missing, Body, Nested, Performed, Paragraph, Program, Range}
use Rattle.control_flow_theory.specs.lowering.FlowFacts.{FlowFacts}
use Rattle.control_flow_theory.specs.rendering.Rendering.{Naming, count_arms}
use Rattle.control_flow_theory.specs.rendering.Procedures.{Writable}
use Rattle.control_flow_theory.specs.expressible_graphs.Served.{ActIsServed, TestIsServed, ChooserIsServed, PickerIsServed, ControlIsServed, StmtIsServed, StmtsAreServed, ArmsAreServed, BodyIsServed, SentenceIsServed, ParagraphIsServed, ParagraphsAreServed, ProgramIsServed}
use Rattle.end_to_end_laws.specs.results.result_bodies.Bodies.{TakesBoth}

module _ (naming : Naming) (own other kinds : Writable) (takes : TakesBoth own other kinds)
    (told : FlowFacts) (range : Range) where
  act-taken : (act : Act) → ActIsServed naming own told range act →
      ActIsServed naming other told range act → ActIsServed naming kinds told range act
  act-taken (Own simple) h k = takes.simples simple h k
  act-taken (Set cell value) h k = tt
  act-taken (Take cell amount) h k = tt
  act-taken (Lower cell) h k = tt

  test-taken : (test : Test) → TestIsServed naming own told range test →
      TestIsServed naming other told range test → TestIsServed naming kinds told range test
  test-taken (Holds cond) h k = takes.conds cond h k
  test-taken (Not test) h k = test-taken test h k
  test-taken (Is cell value) h k = tt
  test-taken (Above cell) h k = tt

  chooser-taken : (chooser : Chooser) (count : ℕ) →
      ChooserIsServed naming own told range chooser count →
      ChooserIsServed naming other told range chooser count →
      ChooserIsServed naming kinds told range chooser count
  chooser-taken chooser count h k = λ arms many starts.
      takes.choosers chooser _ (h arms many starts) (k arms many starts)

  picker-taken : (picker : Picker) (count : ℕ) →
      PickerIsServed naming own told range picker count →
      PickerIsServed naming other told range picker count →
      PickerIsServed naming kinds told range picker count
  picker-taken (If test) count h k = test-taken test h k
  picker-taken (By chooser) count h k = chooser-taken chooser count h k
  picker-taken (ByCell cell) count h k = tt

  control-taken : (control : Control) → ControlIsServed naming own told range control →
      ControlIsServed naming other told range control →
      ControlIsServed naming kinds told range control
  control-taken (Times amount) h k = takes.amounts amount h k
  control-taken (Until after test) h k = test-taken test h k
  control-taken (Varying after set step test) h k =
      (act-taken set h.0 k.0, act-taken step h.1 k.1, test-taken test h.2 k.2)

  mutual
    stmt-taken : (stmt : Stmt) → StmtIsServed naming own told range stmt →
        StmtIsServed naming other told range stmt → StmtIsServed naming kinds told range stmt
    stmt-taken (Do act) = λ h k. act-taken act h k
    stmt-taken (Choose picker arms) = λ h k.
        (picker-taken picker (count_arms arms) h.0 k.0, arms-taken arms h.1 k.1)
    stmt-taken (Loop control body) = λ h k.
        (control-taken control h.0 k.0, body-taken body h.1 k.1)
    stmt-taken (Perform entry exit) = λ h k. tt
    stmt-taken (Go to) = λ h k. tt
    stmt-taken (GoDepending to chooser) = λ h k. chooser-taken chooser _ h k
    stmt-taken NextSentence = λ h k. tt
    stmt-taken ExitParagraph = λ h k. tt
    stmt-taken (ExitSection last) = λ h k. tt
    stmt-taken (ExitPerform cycle) = λ h k. tt
    stmt-taken StopRun = λ h k. tt

    stmts-taken : (stmts : Stmts) → StmtsAreServed naming own told range stmts →
        StmtsAreServed naming other told range stmts →
        StmtsAreServed naming kinds told range stmts
    stmts-taken none = λ h k. tt
    stmts-taken (also stmt stmts) = λ h k. (stmt-taken stmt h.0 k.0, stmts-taken stmts h.1 k.1)

    arms-taken : (arms : Arms) → ArmsAreServed naming own told range arms →
        ArmsAreServed naming other told range arms → ArmsAreServed naming kinds told range arms
    arms-taken done = λ h k. tt
    arms-taken (given arm others) = λ h k. (stmts-taken arm h.0 k.0, arms-taken others h.1 k.1)
    arms-taken (missing others) = λ h k. arms-taken others h k

    body-taken : (body : Body) → BodyIsServed naming own told range body →
        BodyIsServed naming other told range body → BodyIsServed naming kinds told range body
    body-taken (Nested stmts) = λ h k. stmts-taken stmts h k
    body-taken (Performed entry exit) = λ h k. tt

  sentence-taken : (sentence : Stmts) → SentenceIsServed naming own told range sentence →
      SentenceIsServed naming other told range sentence →
      SentenceIsServed naming kinds told range sentence
  sentence-taken sentence (inr idle) k = inr idle
  sentence-taken sentence (inl h) (inr idle) = inr idle
  sentence-taken sentence (inl h) (inl k) = inl (stmts-taken sentence h k)

  paragraph-taken : (paragraph : Paragraph) → ParagraphIsServed naming own told range paragraph →
      ParagraphIsServed naming other told range paragraph →
      ParagraphIsServed naming kinds told range paragraph
  paragraph-taken [] h k = tt
  paragraph-taken (sentence ∷ sentences) h k =
      (sentence-taken sentence h.0 k.0, paragraph-taken sentences h.1 k.1)

  paragraphs-taken : (paragraphs : List Paragraph) →
      ParagraphsAreServed naming own told range paragraphs →
      ParagraphsAreServed naming other told range paragraphs →
      ParagraphsAreServed naming kinds told range paragraphs
  paragraphs-taken [] h k = tt
  paragraphs-taken (paragraph ∷ paragraphs) h k =
      (paragraph-taken paragraph h.0 k.0, paragraphs-taken paragraphs h.1 k.1)

  pub program-taken : (program : Program) → ProgramIsServed naming own told range program →
      ProgramIsServed naming other told range program →
      ProgramIsServed naming kinds told range program
  program-taken program h k = paragraphs-taken program.paragraphs h k
