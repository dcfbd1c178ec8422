-- What lowering knows of the parts that it doesn't look inside, and what holds of them.
use Rattle.std.specs.Prelude.{ℕ, suc, Bool, true, false, ◌≡◌, ◌≢◌, ◌<◌, List, [], ◌∷◌, length}
use Rattle.control_flow_theory.specs.semantics.Outcome.{Tried, Got, Ends}
use Rattle.control_flow_theory.specs.language.Language.{Simple, Chooser, Picker, If, By, ByCell, Stmt, Do, Choose, Loop, Perform, Go, GoDepending, NextSentence, ExitParagraph, ExitSection, ExitPerform, StopRun, Stmts, none, also, Arms, done, given, missing, Body, Nested, Performed, Paragraph, Program}
use Rattle.control_flow_theory.specs.language.Own.{OwnAct, OwnTest, OwnControl}
use Rattle.control_flow_theory.specs.semantics.Doing.{Acting}

-- the ranges that return, by entry and exit; the statements that do nothing (CONTINUE and EXIT);
-- the choosers that never
-- give their first arm; and how many arms a chooser has
pub record FlowFacts : Type 0 where
  -- the range from this entry to this exit returns
  pub returning : ℕ → ℕ → Bool
  -- the statement does nothing
  pub skipped : Simple → Bool
  -- the chooser never gives its first arm
  pub never_first : Chooser → Bool
  -- how many arms the chooser has
  pub width : Chooser → ℕ

-- what a chooser may give
abbrev pub MayGive : ℕ → Bool → ℕ → Type 0
MayGive width never_first arm = (arm < width) × (never_first ≡ true → arm ≢ 0)

-- what was tried gives an arm that the chooser may give, or ends the run
abbrev pub ChoiceIsTold : {Memory : Type 0} → ℕ → Bool → Tried Memory ℕ → Type 0
ChoiceIsTold width never_first (Got trace arm memory) = MayGive width never_first arm
ChoiceIsTold width never_first (Ends trace kind memory) = Unit {0}

-- the parts do what lowering knows of them
pub record IsTold {Memory : Type 0} (told : FlowFacts) (acting : Acting Memory) : Type 0 where
  -- a statement that does nothing does nothing
  pub skips : (simple : Simple) (memory : Memory) → told.skipped simple ≡ true →
      acting.act simple memory ≡ Got [] tt memory
  -- a choice gives an arm that its chooser may give
  pub chooses : (chooser : Chooser) (memory : Memory) →
      ChoiceIsTold (told.width chooser) (told.never_first chooser) (acting.choose chooser memory)

-- A source program: it names no cell, its choices have as many arms as their choosers give, and it
-- names its own paragraphs,
-- of which there are so many.

-- how many arms there are, with the missing ones
abbrev pub arm_count : Arms → ℕ
arm_count done = 0
arm_count (given arm others) = suc (arm_count others)
arm_count (missing others) = suc (arm_count others)

-- what chooses is the program's own, and gives just as many arms
abbrev pub OwnPicker : FlowFacts → Picker → ℕ → Type 0
OwnPicker told (If test) arms = OwnTest test × (arms ≡ 2)
OwnPicker told (By chooser) arms = told.width chooser ≡ arms
OwnPicker told (ByCell cell) arms = ⊥

-- where the chooser never gives the first arm, that arm is missing
abbrev pub IsFirstMissing : Arms → Type 0
IsFirstMissing done = ⊥
IsFirstMissing (given arm others) = ⊥
IsFirstMissing (missing others) = Unit {0}

-- the first arm is missing where the chooser never gives it
abbrev pub FirstMayBeMissing : FlowFacts → Picker → Arms → Type 0
FirstMayBeMissing told (If test) arms = Unit {0}
FirstMayBeMissing told (By chooser) arms = told.never_first chooser ≡ true → IsFirstMissing arms
FirstMayBeMissing told (ByCell cell) arms = Unit {0}

-- each of the numbers is below this one
abbrev pub AllBelow : ℕ → List ℕ → Type 0
AllBelow most [] = Unit {0}
AllBelow most (number ∷ numbers) = (number < most) × AllBelow most numbers

abbrev mutual
  -- a statement of a source program with so many paragraphs
  pub OwnStmt : FlowFacts → ℕ → Stmt → Type 0
  OwnStmt told paragraphs (Do act) = OwnAct act
  OwnStmt told paragraphs (Choose picker arms) = OwnPicker told picker (arm_count arms)
      × OwnArms told paragraphs arms × FirstMayBeMissing told picker arms
  OwnStmt told paragraphs (Loop control body) = OwnControl control × OwnBody told paragraphs body
  OwnStmt told paragraphs (Perform entry exit) = (entry < paragraphs) × (exit < paragraphs)
  OwnStmt told paragraphs (Go to) = to < paragraphs
  OwnStmt told paragraphs (GoDepending to on) =
      (told.width on ≡ suc (length to)) × AllBelow paragraphs to × (told.never_first on ≡ false)
  OwnStmt told paragraphs NextSentence = Unit {0}
  OwnStmt told paragraphs ExitParagraph = Unit {0}
  OwnStmt told paragraphs (ExitSection last) = last < paragraphs
  OwnStmt told paragraphs (ExitPerform cycle) = Unit {0}
  OwnStmt told paragraphs StopRun = Unit {0}

  -- statements of a source program with so many paragraphs
  pub OwnStmts : FlowFacts → ℕ → Stmts → Type 0
  OwnStmts told paragraphs none = Unit {0}
  OwnStmts told paragraphs (also stmt stmts) =
      OwnStmt told paragraphs stmt × OwnStmts told paragraphs stmts

  -- arms of a source program with so many paragraphs
  pub OwnArms : FlowFacts → ℕ → Arms → Type 0
  OwnArms told paragraphs done = Unit {0}
  OwnArms told paragraphs (given arm others) =
      OwnStmts told paragraphs arm × OwnArms told paragraphs others
  OwnArms told paragraphs (missing others) = OwnArms told paragraphs others

  -- a loop's body of a source program with so many paragraphs
  pub OwnBody : FlowFacts → ℕ → Body → Type 0
  OwnBody told paragraphs (Nested stmts) = OwnStmts told paragraphs stmts
  OwnBody told paragraphs (Performed entry exit) = (entry < paragraphs) × (exit < paragraphs)

-- a paragraph of a source program with so many paragraphs
abbrev pub OwnParagraph : FlowFacts → ℕ → Paragraph → Type 0
OwnParagraph told paragraphs [] = Unit {0}
OwnParagraph told paragraphs (sentence ∷ sentences) =
    OwnStmts told paragraphs sentence × OwnParagraph told paragraphs sentences

-- paragraphs of a source program with so many paragraphs
abbrev pub OwnParagraphs : FlowFacts → ℕ → List Paragraph → Type 0
OwnParagraphs told paragraphs [] = Unit {0}
OwnParagraphs told paragraphs (paragraph ∷ others) =
    OwnParagraph told paragraphs paragraph × OwnParagraphs told paragraphs others

-- a program as it is read
abbrev pub IsSource : FlowFacts → Program → Type 0
IsSource told program = OwnParagraphs told (length program.paragraphs) program.paragraphs
