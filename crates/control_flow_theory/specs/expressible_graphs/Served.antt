-- Which parts of a source program may be written, whatever lowering and the rules make of it.
use Rattle.std.specs.Prelude.{ℕ, suc, ◌≡◌, ◌⊎◌, true, List, [], ◌∷◌, length}
use Rattle.control_flow_theory.specs.language.Language.{Chooser, Act, Own, Set, Take, Lower, Test, Holds, Not, Is, Above, Picker, If, By, ByCell, Control, Times, Until, Varying, Stmt, Do, Choose, Loop, Perform, Go, GoDepending, NextSentence, ExitParagraph, ExitSection, ExitPerform, StopRun, Stmts, none, also, Arms, done, given, missing, Body, Nested, Performed, Paragraph, Program, Range}
use Rattle.control_flow_theory.specs.lowering.FlowFacts.{FlowFacts}
use Rattle.control_flow_theory.specs.lowering.Completes.{skips}
use Rattle.control_flow_theory.specs.rendering.Rendering.{Naming, count_arms, standing}
use Rattle.control_flow_theory.specs.rendering.Procedures.{Writable}
use Rattle.control_flow_theory.specs.main_theorem.Chain.{StartsEmpty}

-- Each part that is there may be written in the range; of the words on cells, which no source
-- has, nothing is asked.
module _ (naming : Naming) (kinds : Writable) (told : FlowFacts) (range : Range) where
  -- the act may be written
  abbrev pub ActIsServed : Act → Type 0
  ActIsServed (Own simple) = kinds.simples simple ≡ true
  ActIsServed (Set cell value) = Unit {0}
  ActIsServed (Take cell amount) = Unit {0}
  ActIsServed (Lower cell) = Unit {0}

  -- the test may be written
  abbrev pub TestIsServed : Test → Type 0
  TestIsServed (Holds cond) = kinds.conds cond ≡ true
  TestIsServed (Not test) = TestIsServed test
  TestIsServed (Is cell value) = Unit {0}
  TestIsServed (Above cell) = Unit {0}

  -- a chooser may be written with so many arms, whatever is in them, but nothing in a first one
  -- that is never given
  abbrev pub ChooserIsServed : Chooser → (arms : ℕ) → Type 0
  ChooserIsServed chooser count = (arms : Arms) → count_arms arms ≡ count →
      (told.never_first chooser ≡ true → StartsEmpty arms) →
      kinds.choosers chooser (standing (naming.empty range (By chooser)) 0 arms) ≡ true

  -- what chooses may be written, whatever its arms become
  abbrev pub PickerIsServed : Picker → (arms : ℕ) → Type 0
  PickerIsServed (If test) arms = TestIsServed test
  PickerIsServed (By chooser) arms = ChooserIsServed chooser arms
  PickerIsServed (ByCell cell) arms = Unit {0}

  -- the control of a loop may be written
  abbrev pub ControlIsServed : Control → Type 0
  ControlIsServed (Times amount) = kinds.amounts amount ≡ true
  ControlIsServed (Until after test) = TestIsServed test
  ControlIsServed (Varying after set step test) =
      ActIsServed set × ActIsServed step × TestIsServed test

  abbrev mutual
    -- the parts of a statement may be written
    pub StmtIsServed : Stmt → Type 0
    StmtIsServed (Do act) = ActIsServed act
    StmtIsServed (Choose picker arms) = PickerIsServed picker (count_arms arms) × ArmsAreServed arms
    StmtIsServed (Loop control body) = ControlIsServed control × BodyIsServed body
    StmtIsServed (Perform entry exit) = Unit {0}
    StmtIsServed (Go to) = Unit {0}
    -- it becomes a choice with an arm for each name, and one after them
    StmtIsServed (GoDepending to chooser) = ChooserIsServed chooser (suc (length to))
    StmtIsServed NextSentence = Unit {0}
    StmtIsServed ExitParagraph = Unit {0}
    StmtIsServed (ExitSection last) = Unit {0}
    StmtIsServed (ExitPerform cycle) = Unit {0}
    StmtIsServed StopRun = Unit {0}

    -- the parts of these statements may be written
    pub StmtsAreServed : Stmts → Type 0
    StmtsAreServed none = Unit {0}
    StmtsAreServed (also stmt stmts) = StmtIsServed stmt × StmtsAreServed stmts

    -- the parts of these arms may be written
    pub ArmsAreServed : Arms → Type 0
    ArmsAreServed done = Unit {0}
    ArmsAreServed (given arm others) = StmtsAreServed arm × ArmsAreServed others
    ArmsAreServed (missing others) = ArmsAreServed others

    -- the parts of a loop's body may be written
    pub BodyIsServed : Body → Type 0
    BodyIsServed (Nested stmts) = StmtsAreServed stmts
    BodyIsServed (Performed entry exit) = Unit {0}

  -- the sentence is one act that does nothing, which lowering leaves out
  abbrev pub IsIdle : Stmts → Type 0
  IsIdle sentence =
      (act : Act) × (sentence ≡ also (Do act) none) × (skips told act ≡ true)

  -- the parts of a sentence may be written, or it is one act that does nothing
  abbrev pub SentenceIsServed : Stmts → Type 0
  SentenceIsServed sentence = StmtsAreServed sentence ⊎ IsIdle sentence

  -- each sentence of a paragraph may be written so
  abbrev pub ParagraphIsServed : Paragraph → Type 0
  ParagraphIsServed [] = Unit {0}
  ParagraphIsServed (sentence ∷ sentences) =
      SentenceIsServed sentence × ParagraphIsServed sentences

  -- each sentence of these paragraphs may be written so
  abbrev pub ParagraphsAreServed : List Paragraph → Type 0
  ParagraphsAreServed [] = Unit {0}
  ParagraphsAreServed (paragraph ∷ others) =
      ParagraphIsServed paragraph × ParagraphsAreServed others

  -- each sentence of the program may be written so
  abbrev pub ProgramIsServed : Program → Type 0
  ProgramIsServed program = ParagraphsAreServed program.paragraphs
