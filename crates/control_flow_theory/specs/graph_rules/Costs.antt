-- What a step of a walk costs in units.
use Rattle.std.specs.Prelude.{ℕ, zero, suc, ◌+◌, Bool, true, false, List, [], ◌∷◌}
use Rattle.control_flow_theory.specs.runs.Run.{Going, Over}
use Rattle.control_flow_theory.specs.semantics.Outcome.{Standing, Tried, Got, Ends}
use Rattle.control_flow_theory.specs.language.Language.{Control, Times, Until, Varying, Stmt, Choose, Loop, Perform, Go, GoDepending, NextSentence, ExitParagraph, ExitSection, ExitPerform, StopRun, Body, Nested, Performed}
use Rattle.control_flow_theory.specs.language.Language as language
use Rattle.control_flow_theory.specs.semantics.Doing.{Acting, Doing, celled}
use Rattle.control_flow_theory.specs.language.Items.{Turning, Counted, Tests, Steps, StepsAfter, Item, Do, SentenceEnd, Turn}
use Rattle.control_flow_theory.specs.semantics.Graph.{End, Pick, Jump, Return, Stop, Dead}
use Rattle.control_flow_theory.specs.semantics.Walk.{Walk}

-- what follows a value costs this; nothing where there is none
abbrev pub tried_cost : {Memory Value : Type 0} → Tried Memory Value → (Value → Memory → ℕ) → ℕ
tried_cost (Got trace value memory) cost = cost value memory
tried_cost (Ends trace kind memory) cost = 0

-- one more turn, or none
abbrev pub round_cost : Bool → ℕ
round_cost true = 0
round_cost false = 1

-- what the first body of a loop costs: one where the test comes after
abbrev pub first_cost : Bool → ℕ
first_cost false = 0
first_cost true = 1

module _ {Memory : Type 0} (doing : Doing Memory) where
  -- what a loop's remainder costs: one for each turn that it begins
  abbrev pub turn_cost : Turning → Memory → ℕ
  turn_cost (Counted zero) memory = 0
  turn_cost (Counted (suc n)) memory = 1
  turn_cost (Tests test) memory = tried_cost (doing.test test memory) (λ ended m. round_cost ended)
  turn_cost (Steps false step test) memory =
      tried_cost (doing.test test memory) (λ ended m. round_cost ended)
  turn_cost (Steps true step test) memory =
      tried_cost (doing.act step memory)
      (λ u next. tried_cost (doing.test test next) (λ ended m. round_cost ended))
  turn_cost (StepsAfter step test) memory =
      tried_cost (doing.test test memory) (λ ended m. round_cost ended)

  -- what it costs to begin a loop, apart from the statement itself: one where its body is first
  -- done without a test
  abbrev pub loop_cost : Control → Memory → ℕ
  loop_cost (Times amount) memory = 0
  loop_cost (Until after test) memory = first_cost after
  loop_cost (Varying after set step test) memory =
      tried_cost (doing.act set memory) (λ u m. first_cost after)

  -- what a PERFORM at the head of a rest costs: nothing where it is the body of a loop, else one
  abbrev pub perform_cost : List Item → ℕ
  perform_cost (Turn turning (Performed entry exit) ∷ rest) = 0
  perform_cost (Turn turning (Nested stmts) ∷ rest) = 1
  perform_cost (Do stmt ∷ rest) = 1
  perform_cost (SentenceEnd ∷ rest) = 1
  perform_cost [] = 1

  -- what the step at a statement costs: one for the statement where it counts, and what a loop
  -- costs
  abbrev pub stmt_cost : Stmt → List Item → Memory → ℕ
  stmt_cost (language.Do act) rest memory = 1
  stmt_cost (Choose picker arms) rest memory = 1
  stmt_cost (Loop control body) rest memory = loop_cost control memory + 1
  stmt_cost (Perform entry exit) rest memory = perform_cost rest
  stmt_cost (Go to) rest memory = 0
  stmt_cost (GoDepending to chooser) rest memory = 0
  stmt_cost NextSentence rest memory = 0
  stmt_cost ExitParagraph rest memory = 0
  stmt_cost (ExitSection last) rest memory = 0
  stmt_cost (ExitPerform cycle) rest memory = 0
  stmt_cost StopRun rest memory = 1

  -- what the step at an item costs
  abbrev pub item_cost : Item → List Item → Memory → ℕ
  item_cost (Do stmt) rest memory = stmt_cost stmt rest memory
  item_cost SentenceEnd rest memory = 0
  item_cost (Turn turning body) rest memory = turn_cost turning memory

  -- what the step at an end costs: one for a choice or a jump
  abbrev pub end_cost : End → ℕ
  end_cost (Pick picker arms) = 1
  end_cost (Jump to) = 1
  end_cost Return = 0
  end_cost Stop = 0
  end_cost Dead = 0

  -- what the step at these items costs, or at the end where there are none
  abbrev pub items_cost : List Item → End → Memory → ℕ
  items_cost [] end memory = end_cost end
  items_cost (item ∷ rest) end memory = item_cost item rest memory

module _ {Memory Left : Type 0} (acting : Acting Memory) where
  -- what the next step costs; none of a walk that is over
  abbrev pub cost_by : Standing Left → Walk Memory Left → ℕ
  cost_by Going walk =
      items_cost (celled acting walk.level.range) walk.level.items walk.level.end walk.memory
  cost_by (Over ending) walk = 0

  -- what the next step of a walk costs
  abbrev pub cost : Walk Memory Left → ℕ
  cost walk = cost_by walk.run.standing walk

-- there are items to do, so units may end within the next step
abbrev pub at_item : List Item → Bool
at_item [] = false
at_item (item ∷ rest) = true

-- units may end within the next step, since there are items to do
abbrev pub parted : {Memory Left : Type 0} → Walk Memory Left → Bool
parted walk = at_item walk.level.items
