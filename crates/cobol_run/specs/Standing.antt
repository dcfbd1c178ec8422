-- What holds of each part that is in a program, and in what is still to do.
use Rattle.std.specs.Prelude.{List, [], ◌∷◌}
use Rattle.control_flow_theory.specs.language.Language.{Act, Test, Picker, Control, Times, Until, Varying, Stmt, Do, Choose, Loop, Stmts, none, also, Arms, done, given, missing, Body, Nested, Performed, Paragraph}
use Rattle.control_flow_theory.specs.language.Items.{Turning, Counted, Tests, Steps, StepsAfter, Item, SentenceEnd, Turn, Pending}
use Rattle.control_flow_theory.specs.language.Items as items
use Rattle.control_flow_theory.specs.semantics.Source.{SourceState}

module _ (ActHas : Act → Type 0) (TestHas : Test → Type 0) (PickerHas : Picker → Type 0) where
  -- each part of a loop's control has it
  abbrev pub ControlHas : Control → Type 0
  ControlHas (Times amount) = Unit {0}
  ControlHas (Until after test) = TestHas test
  ControlHas (Varying after set step test) = ActHas set × ActHas step × TestHas test

  abbrev mutual
    -- each part of a statement has it
    pub StmtHas : Stmt → Type 0
    StmtHas (Do act) = ActHas act
    StmtHas (Choose picker arms) = PickerHas picker × ArmsHave arms
    StmtHas (Loop control body) = ControlHas control × BodyHas body
    StmtHas _ = Unit {0}

    -- each part of these statements has it
    pub StmtsHave : Stmts → Type 0
    StmtsHave none = Unit {0}
    StmtsHave (also stmt stmts) = StmtHas stmt × StmtsHave stmts

    -- each part of these arms has it
    pub ArmsHave : Arms → Type 0
    ArmsHave done = Unit {0}
    ArmsHave (given arm others) = StmtsHave arm × ArmsHave others
    ArmsHave (missing others) = ArmsHave others

    -- each part of a loop's body has it
    pub BodyHas : Body → Type 0
    BodyHas (Nested stmts) = StmtsHave stmts
    BodyHas (Performed entry exit) = Unit {0}

  -- each part of the paragraph's sentences has it
  abbrev pub ParagraphHas : Paragraph → Type 0
  ParagraphHas [] = Unit {0}
  ParagraphHas (sentence ∷ sentences) = StmtsHave sentence × ParagraphHas sentences

  -- each part of these paragraphs has it
  abbrev pub ParagraphsHave : List Paragraph → Type 0
  ParagraphsHave [] = Unit {0}
  ParagraphsHave (paragraph ∷ paragraphs) = ParagraphHas paragraph × ParagraphsHave paragraphs

  -- each part of a loop's remaining turns has it
  abbrev pub TurningHas : Turning → Type 0
  TurningHas (Counted turns) = Unit {0}
  TurningHas (Tests test) = TestHas test
  TurningHas (Steps reached step test) = ActHas step × TestHas test
  TurningHas (StepsAfter step test) = ActHas step × TestHas test

  -- each part of an item has it
  abbrev pub ItemHas : Item → Type 0
  ItemHas (items.Do stmt) = StmtHas stmt
  ItemHas SentenceEnd = Unit {0}
  ItemHas (Turn turning body) = TurningHas turning × BodyHas body

  -- each part of these items has it
  abbrev pub ItemsHave : List Item → Type 0
  ItemsHave [] = Unit {0}
  ItemsHave (item ∷ rest) = ItemHas item × ItemsHave rest

  -- each part of what the pending returns go on with has it
  abbrev pub PendingHave : List Pending → Type 0
  PendingHave [] = Unit {0}
  PendingHave (return ∷ returns) = ItemsHave return.rest × PendingHave returns

  -- each part of what a state has still to do has it
  abbrev pub StateHas : {Memory Left : Type 0} → SourceState Memory Left → Type 0
  StateHas state = ItemsHave state.rest × PendingHave state.pending
