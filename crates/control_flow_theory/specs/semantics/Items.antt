-- What the head of a rest does: the same in a source paragraph and in the body of a tree.
use Rattle.control_flow_theory.specs.language.Items.{Turning, Item, before_body, before_arm, past_sentence, from_loop, Counted, Tests, Steps, StepsAfter, Do, SentenceEnd, Turn}
use Rattle.std.specs.Prelude.{ℕ, zero, suc, Bool, true, false, List, [], ◌∷◌, ◌++◌, Option, Some, None, slice_get}
use Rattle.control_flow_theory.specs.semantics.Outcome.{Trace, How, Normally, Abend, Tried, Got, Ends}
use Rattle.control_flow_theory.specs.language.Language.{Act, Test, Picker, By, Control, Times, Until, Varying, Stmt, Choose, Loop, Perform, Go, GoDepending, NextSentence, ExitParagraph, ExitSection, ExitPerform, StopRun, Stmts, none, also, Arms, done, given, missing, Body, Nested, Performed, Paragraph}
use Rattle.control_flow_theory.specs.language.Language as language
use Rattle.control_flow_theory.specs.semantics.Doing.{Doing}

-- what the head of the rest comes to, with what it showed and the memory after it
pub data Way (Memory : Type 0) : Type 0 where
  -- it goes on with these items
  On : (trace : Trace) → (memory : Memory) → (items : List Item) → Way Memory
  -- it stops the run
  Halts : (trace : Trace) → (how : How) → (memory : Memory) → Way Memory
  -- it performs a range, and then these items
  Into : (entry : ℕ) → (exit : ℕ) → (items : List Item) → Way Memory
  -- it goes to a paragraph
  To : (trace : Trace) → (memory : Memory) → (paragraph : ℕ) → Way Memory
  -- it goes to the end of a paragraph
  ToEnd : (trace : Trace) → (memory : Memory) → (paragraph : ℕ) → Way Memory

-- the same way, after this was shown
abbrev pub way_after : {Memory : Type 0} → Trace → Way Memory → Way Memory
way_after shown (On trace memory items) = On (shown ++ trace) memory items
way_after shown (Halts trace how memory) = Halts (shown ++ trace) how memory
way_after shown (Into entry exit items) = Into entry exit items
way_after shown (To trace memory paragraph) = To (shown ++ trace) memory paragraph
way_after shown (ToEnd trace memory paragraph) = ToEnd (shown ++ trace) memory paragraph

-- goes on with the value and the memory after it, or ends the run
abbrev pub tried : {Memory Value : Type 0} → Tried Memory Value → (Value → Memory → Way Memory) →
    Way Memory
tried (Got trace value memory) goes = way_after trace (goes value memory)
tried (Ends trace kind memory) goes = Halts trace (Abend kind) memory

module _ {Memory : Type 0} (doing : Doing Memory) where
  -- the way that goes on with these items, nothing being done
  abbrev pub on : List Item → Memory → Way Memory
  on items memory = On [] memory items

  -- the rest where a loop begins: its remainder, after one body where the test comes after
  abbrev pub first_turn : Bool → Turning → Body → List Item → List Item
  first_turn false turning body rest = Turn turning body ∷ rest
  first_turn true turning body rest = before_body body (Turn turning body ∷ rest)

  -- how a loop by VARYING turns, tested before or after
  abbrev pub varying : Bool → Act → Test → Turning
  varying false step test = Steps false step test
  varying true step test = StepsAfter step test

  -- TIMES takes its count, and VARYING does its setting MOVE
  abbrev pub loop_begins : Control → Body → List Item → Memory → Way Memory
  loop_begins (Times amount) body rest memory =
      tried (doing.count amount memory) (λ turns. on (Turn (Counted turns) body ∷ rest))
  loop_begins (Until after test) body rest memory =
      on (first_turn after (Tests test) body rest) memory
  loop_begins (Varying after set step test) body rest memory =
      tried (doing.act set memory) (λ u. on (first_turn after (varying after step test) body rest))

  -- the rest after a loop's test: nothing more of it where the test holds, else one more turn
  abbrev pub turns : Bool → Turning → Body → List Item → List Item
  turns true turning body rest = rest
  turns false turning body rest = before_body body (Turn turning body ∷ rest)

  -- a loop's test is made, and one more turn begins where it doesn't hold
  abbrev pub tests : Test → Turning → Body → List Item → Memory → Way Memory
  tests test turning body rest memory =
      tried (doing.test test memory) (λ ended. on (turns ended turning body rest))

  -- what VARYING tested after does after its test: the loop ends, or its item is augmented and one
  -- more turn begins
  abbrev pub steps_on : Bool → Act → Test → Body → List Item → Memory → Way Memory
  steps_on true step test body rest memory = on rest memory
  steps_on false step test body rest memory =
      tried (doing.act step memory)
      (λ u. on (before_body body (Turn (StepsAfter step test) body ∷ rest)))

  -- a loop's remainder; of VARYING tested before, each arrival but the first begins with the
  -- augmenting ADD
  abbrev pub turn_way : Turning → Body → List Item → Memory → Way Memory
  turn_way (Counted zero) body rest memory = on rest memory
  turn_way (Counted (suc n)) body rest memory =
      on (before_body body (Turn (Counted n) body ∷ rest)) memory
  turn_way (Tests test) body rest memory = tests test (Tests test) body rest memory
  turn_way (Steps false step test) body rest memory =
      tests test (Steps true step test) body rest memory
  turn_way (Steps true step test) body rest memory =
      tried (doing.act step memory) (λ u. tests test (Steps true step test) body rest)
  turn_way (StepsAfter step test) body rest memory =
      tried (doing.test test memory) (λ ended. steps_on ended step test body rest)

  -- the way to the paragraph that was chosen; where none was, the statement is dropped
  abbrev pub to_one : Option ℕ → List Item → Memory → Way Memory
  to_one None rest memory = on rest memory
  to_one (Some paragraph) rest memory = To [] memory paragraph

  -- what a statement does at the head of a rest
  abbrev pub stmt_way : Stmt → List Item → Memory → Way Memory
  stmt_way (language.Do act) rest memory = tried (doing.act act memory) (λ u. on rest)
  stmt_way (Choose picker arms) rest memory =
      tried (doing.pick picker memory) (λ k. on (before_arm arms k rest))
  stmt_way (Loop control body) rest memory = loop_begins control body rest memory
  stmt_way (Perform entry exit) rest memory = Into entry exit rest
  stmt_way (Go to) rest memory = To [] memory to
  stmt_way (GoDepending to chooser) rest memory =
      tried (doing.pick (By chooser) memory) (λ k. to_one (slice_get to k) rest)
  stmt_way NextSentence rest memory = on (past_sentence rest) memory
  stmt_way ExitParagraph rest memory = on [] memory
  stmt_way (ExitSection last) rest memory = ToEnd [] memory last
  stmt_way (ExitPerform cycle) rest memory = on (from_loop cycle rest) memory
  stmt_way StopRun rest memory = Halts [] Normally memory

  -- what the head of a rest does
  abbrev pub item_way : Item → List Item → Memory → Way Memory
  item_way (Do stmt) rest memory = stmt_way stmt rest memory
  item_way SentenceEnd rest memory = on rest memory
  item_way (Turn turning body) rest memory = turn_way turning body rest memory
