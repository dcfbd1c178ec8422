-- Small programs and their nodes.
use Rattle.std.specs.Prelude.{ℕ, ◌≡◌, Bool, true, false, [], ◌∷◌}
use Rattle.control_flow_theory.specs.language.Language.{Own, Take, Lower, Holds, Above, If, Times, Until, Stmt, Stmts, Do, Choose, Loop, Go, ExitParagraph, ExitSection, ExitPerform, StopRun, none, also, done, given, missing, Nested, Program, Main, Part}
use Rattle.control_flow_theory.specs.semantics.Parts.{says, is, amount}
use Rattle.control_flow_theory.specs.semantics.Graph.{tree, Pick, Jump, Return, Stop, no_more, more}
use Rattle.control_flow_theory.specs.lowering.FlowFacts.{FlowFacts}
use Rattle.control_flow_theory.specs.lowering.Completes.{completes}
use Rattle.control_flow_theory.specs.lowering.Lower.{end_alone}
use Rattle.control_flow_theory.specs.lowering.Lowered.{lowered}

-- facts by which every range returns and nothing is skipped
abbrev pub plainly : FlowFacts
plainly = record {
  returning = λ entry exit. true;
  skipped = λ simple. false;
  never_first = λ chooser. false;
  width = λ chooser. 0;
}

-- DISPLAY of one byte
abbrev pub shows : ℕ → Stmt
shows byte = Do (Own (says byte))

-- A. IF 0 IF 3 GO TO X END-IF DISPLAY 1 END-IF DISPLAY 2. X. DISPLAY 3.
abbrev pub inside_an_arm : Program
inside_an_arm = record {
  paragraphs =
      (also (Choose (If (Holds (is 0)))
      (given (also (Choose (If (Holds (is 3))) (given (also (Go 1) none) (missing done)))
      (also (shows 1) none)) (missing done))) (also (shows 2) none) ∷ [])
      ∷ (also (shows 3) none ∷ [])
      ∷ [];
}

-- The nodes that are reached: the start, the labels of DISPLAY 1 and of DISPLAY 2, and X. The label
-- of DISPLAY 1 shows 1
-- and 2 and goes to X; as an arm of the start it is a jump.
abbrev pub LabelInsideAnArmRunsOn : Type 0
LabelInsideAnArmRunsOn =
    ((lowered plainly inside_an_arm).node Main 0 ≡
    end_alone (Pick (If (Holds (is 0)))
    (more (end_alone
    (Pick (If (Holds (is 3)))
    (more (end_alone (Jump 18)) (more (end_alone (Jump 12)) no_more))))
    (more (end_alone (Jump 15)) no_more))))
    × ((lowered plainly inside_an_arm).node Main 12
    ≡ tree (also (shows 1) (also (shows 2) none)) (Jump 18))
    × ((lowered plainly inside_an_arm).node Main 15 ≡ tree (also (shows 2) none) (Jump 18))
    × ((lowered plainly inside_an_arm).node Main 18 ≡ tree (also (shows 3) none) Stop)

-- A. PERFORM 5 TIMES STOP RUN GO TO A END-PERFORM. PERFORM 6 TIMES IF 0 GO TO A END-IF DISPLAY 1
-- END-PERFORM.
abbrev pub counted : Program
counted = record {
  paragraphs =
      (also (Loop (Times (amount 5)) (Nested (also StopRun (also (Go 0) none)))) none
      ∷ also (Loop (Times (amount 6))
      (Nested (also (Choose (If (Holds (is 0))) (given (also (Go 0) none) (missing done)))
      (also (shows 1) none)))) none
      ∷ [])
      ∷ [];
}

-- the first loop is cut and stays a loop; the second counts in the cell of its place
abbrev pub CuttingComesFirst : Type 0
CuttingComesFirst =
    ((lowered plainly counted).node Main 0
    ≡ tree (also (Loop (Times (amount 5)) (Nested (also StopRun none)))
    (also (Do (Take 4 (amount 6))) none))
    (Jump 13))
    × ((lowered plainly counted).node Main 13 ≡
    end_alone (Pick (If (Above 4))
    (more (tree (also (Do (Lower 4)) none)
    (Pick (If (Holds (is 0))) (more (end_alone (Jump 0)) (more (end_alone (Jump 21)) no_more))))
    (more (end_alone Stop) no_more))))
    × ((lowered plainly counted).node Main 21 ≡ tree (also (shows 1) none) (Jump 13))

-- the statement where this condition holds
abbrev pub when : ℕ → Stmt → Stmt
when cond stmt = Choose (If (Holds (is cond))) (given (also stmt none) (missing done))

-- A. PERFORM UNTIL 5 DISPLAY 1 IF 3 EXIT PERFORM (or with CYCLE) END-IF DISPLAY 2 END-PERFORM.
-- DISPLAY 4.
abbrev pub left_within : Bool → Program
left_within cycle = record {
  paragraphs =
      (also (Loop (Until false (Holds (is 5))) (Nested
      (also (shows 1) (also (when 3 (ExitPerform cycle)) (also (shows 2) none))))) none
      ∷ also (shows 4) none ∷ [])
      ∷ [];
}

-- EXIT PERFORM goes on after the loop, and with CYCLE at its head; the label of either is that
-- jump
abbrev pub LoopsAreLeft : Type 0
LoopsAreLeft =
    ((lowered plainly (left_within false)).node Main 0 ≡ end_alone (Jump 4))
    × ((lowered plainly (left_within false)).node Main 4 ≡
    end_alone (Pick (If (Holds (is 5)))
    (more (end_alone (Jump 18)) (more (tree (also (shows 1) none)
    (Pick (If (Holds (is 3))) (more (end_alone (Jump 18)) (more (end_alone (Jump 15)) no_more))))
    no_more))))
    × ((lowered plainly (left_within false)).node Main 12 ≡ end_alone (Jump 18))
    × ((lowered plainly (left_within false)).node Main 15 ≡ tree (also (shows 2) none) (Jump 4))
    × ((lowered plainly (left_within false)).node Main 18 ≡ tree (also (shows 4) none) Stop)
    × ((lowered plainly (left_within true)).node Main 4 ≡
    end_alone (Pick (If (Holds (is 5)))
    (more (end_alone (Jump 18)) (more (tree (also (shows 1) none)
    (Pick (If (Holds (is 3))) (more (end_alone (Jump 4)) (more (end_alone (Jump 15)) no_more))))
    no_more))))
    × ((lowered plainly (left_within true)).node Main 12 ≡ end_alone (Jump 4))

-- S1 SECTION. A. DISPLAY 1. EXIT SECTION. B. DISPLAY 2. S2 SECTION. C. DISPLAY 3. EXIT PARAGRAPH.
-- DISPLAY 4.
abbrev pub sections : Program
sections = record {
  paragraphs =
      (also (shows 1) none ∷ also (ExitSection 1) none ∷ [])
      ∷ (also (shows 2) none ∷ [])
      ∷ (also (shows 3) none ∷ also ExitParagraph none ∷ also (shows 4) none ∷ [])
      ∷ [];
}

-- EXIT SECTION goes on at its section's end: to C, or back where the section is performed. After C
-- the run stops
abbrev pub SectionsAreLeft : Type 0
SectionsAreLeft =
    ((lowered plainly sections).node Main 0 ≡ tree (also (shows 1) none) (Jump 15))
    × ((lowered plainly sections).node (Part 0 1) 0 ≡ tree (also (shows 1) none) Return)
    × ((lowered plainly sections).node Main 15 ≡ tree (also (shows 3) none) Stop)

-- PERFORM WITH TEST AFTER UNTIL 5 of these statements
abbrev pub after_body : Stmts → Stmt
after_body stmts = Loop (Until true (Holds (is 5))) (Nested stmts)

-- a loop tested after completes where an EXIT PERFORM of its own leaves it; one after a jump, or
-- of a loop within, doesn't
abbrev pub LoopsCompleteByExit : Type 0
LoopsCompleteByExit =
    (completes plainly (after_body (also (when 3 (ExitPerform false)) (also (Go 0) none))) ≡ true)
    × (completes plainly (after_body (also (ExitPerform true) (also (Go 0) none))) ≡ true)
    × (completes plainly (after_body (also (Go 0) (also (ExitPerform true) none))) ≡ false)
    × (completes plainly
    (after_body (also (after_body (also (ExitPerform false) none)) (also (Go 0) none))) ≡ false)
