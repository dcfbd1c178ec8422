-- What is asked of bodies beside their parts: each VARYING begins with such a statement, and each
-- choice by a cell has arms enough. That a part may be written doesn't tell it: a statement may
-- stand alone, and not begin a VARYING, and a cell may choose among any arms.
use Rattle.std.specs.Prelude.{ℕ, ◌≡◌, nat_le, Bool, true, List}
use Rattle.control_flow_theory.specs.language.Each.{EachStmt, EachStmts, EachArm, EachBody, EachSentence, EachParagraph}
use Rattle.control_flow_theory.specs.language.Language.{Simple, Act, Own, Set, Take, Lower, Picker, If, By, ByCell, Control, Times, Until, Varying, Stmt, Choose, Loop, Stmts, Arms, Body, Paragraph}
use Rattle.control_flow_theory.specs.rendering.Rendering.{count_arms}

-- there are two arms at least
abbrev pub two_arms : (cell arms : ℕ) → Bool
two_arms cell arms = nat_le 2 arms

module _ (begins : Simple → Bool) (enough : (cell arms : ℕ) → Bool) where
  -- an act is such a statement
  abbrev pub ActBegins : Act → Type 0
  ActBegins (Own simple) = begins simple ≡ true
  ActBegins (Set cell value) = ⊥
  ActBegins (Take cell amount) = ⊥
  ActBegins (Lower cell) = ⊥

  -- VARYING begins with such a statement
  abbrev pub ControlIsSound : Control → Type 0
  ControlIsSound (Times amount) = Unit {0}
  ControlIsSound (Until after test) = Unit {0}
  ControlIsSound (Varying after set step test) = ActBegins set

  -- what chooses may choose among so many arms
  abbrev pub PickerIsSound : Picker → (arms : ℕ) → Type 0
  PickerIsSound (If test) arms = Unit {0}
  PickerIsSound (By chooser) arms = Unit {0}
  PickerIsSound (ByCell cell) arms = enough cell arms ≡ true

  -- a statement is so, whatever is in it
  abbrev pub IsSound : Stmt → Type 0
  IsSound (Choose picker arms) = PickerIsSound picker (count_arms arms)
  IsSound (Loop control body) = ControlIsSound control
  IsSound stmt = Unit {0}

  -- a statement is so, and each in it
  abbrev pub StmtIsSound : Stmt → Type 0
  StmtIsSound stmt = EachStmt IsSound stmt

  -- these statements are so
  abbrev pub StmtsAreSound : Stmts → Type 0
  StmtsAreSound stmts = EachStmts IsSound stmts

  -- these arms are so
  abbrev pub ArmsAreSound : Arms → Type 0
  ArmsAreSound arms = EachArm IsSound arms

  -- a loop's body is so
  abbrev pub BodyIsSound : Body → Type 0
  BodyIsSound body = EachBody IsSound body

  -- each sentence of the paragraph is so
  abbrev pub ParagraphIsSound : Paragraph → Type 0
  ParagraphIsSound paragraph = EachSentence IsSound paragraph

  -- these paragraphs are so
  abbrev pub ParagraphsAreSound : List Paragraph → Type 0
  ParagraphsAreSound paragraphs = EachParagraph IsSound paragraphs
