-- Small programs with jumps, run step by step, and the nested ones that do the same.
use Rattle.std.specs.Prelude.{ℕ, ◌≡◌, Bool, true, false, List, [], ◌∷◌}
use Rattle.control_flow_theory.specs.runs.Run.{Going, Over}
use Rattle.control_flow_theory.specs.runs.Machine.{meaning}
use Rattle.control_flow_theory.specs.semantics.Outcome.{Event, Normally, Overlap, Reentry, Stopped, Faulted, Run}
use Rattle.control_flow_theory.specs.language.Language.{Simple, Own, Set, Take, Lower, Holds, Is, Above, If, ByCell, Times, Until, Varying, Stmt, Do, Choose, Loop, Perform, Go, GoDepending, NextSentence, ExitParagraph, ExitSection, ExitPerform, StopRun, Stmts, none, also, done, given, missing, Nested, Performed, Paragraph}
use Rattle.control_flow_theory.specs.semantics.Parts.{says, shows, raises, lowers, continues, is, amount, on_item, small, small_doing}
use Rattle.control_flow_theory.specs.semantics.Source.{source_machine}
use Rattle.control_flow_theory.specs.semantics.Structural.{structural}
use Rattle.control_flow_theory.specs.semantics.Graph.{tree, Stop, Dead, Family}
use Rattle.control_flow_theory.specs.semantics.Walk.{main_machine}

-- an act of the program
abbrev pub act : Simple → Stmt
act simple = Do (Own simple)

-- DISPLAY of one byte
abbrev pub say : ℕ → Stmt
say byte = act (says byte)

-- one statement alone
abbrev pub one : Stmt → Stmts
one stmt = also stmt none

-- the condition that N is the number
abbrev pub when : ℕ → Stmt → Stmt
when number stmt = Choose (If (Holds (is number))) (given (one stmt) (missing done))

-- a paragraph of sentences of one statement
abbrev pub each : List Stmt → Paragraph
each [] = []
each (stmt ∷ stmts) = one stmt ∷ each stmts

-- the run of these paragraphs from N, after so many steps
abbrev pub after_steps : List Paragraph → ℕ → ℕ → Run ℕ
after_steps paragraphs n steps =
    meaning (source_machine small_doing (λ n. n) (record { paragraphs = paragraphs })) n steps

-- the nested meaning of a program from N, within so many units
abbrev pub within_units : List Paragraph → ℕ → ℕ → Run ℕ
within_units paragraphs n units =
    structural small_doing (λ n. n) (record { paragraphs = paragraphs }) n units

-- the events of so many displays of one byte
abbrev pub events : List ℕ → List Event
events [] = []
events (byte ∷ bytes) = (byte ∷ []) ∷ events bytes

-- a run that showed these bytes and is still going
abbrev pub goes : List ℕ → Run ℕ
goes bytes = record { trace = events bytes; standing = Going }

-- a run that showed these bytes and stopped normally, with this N
abbrev pub stopped : List ℕ → ℕ → Run ℕ
stopped bytes n = record { trace = events bytes; standing = Over (Stopped Normally n) }

-- a run that showed these bytes and met an overlap at the end of this paragraph
abbrev pub overlaps : List ℕ → ℕ → Run ℕ
overlaps bytes paragraph =
    record { trace = events bytes; standing = Over (Faulted (Overlap paragraph)) }

-- a run that showed these bytes and met a reentry at this paragraph
abbrev pub reenters : List ℕ → ℕ → Run ℕ
reenters bytes paragraph =
    record { trace = events bytes; standing = Over (Faulted (Reentry paragraph)) }

-- a jump over a paragraph, and what is written of it
abbrev pub jumping : List Paragraph
jumping = each (say 11 ∷ Go 2 ∷ []) ∷ each (say 12 ∷ []) ∷ each (say 13 ∷ StopRun ∷ []) ∷ []

-- the same without the jump
abbrev pub jumps_nested : List Paragraph
jumps_nested = (also (say 11) (also (say 13) (one StopRun)) ∷ []) ∷ []

-- a jump into the end of a range that is pending further out
abbrev pub overlapping : List Paragraph
overlapping =
    each (Perform 1 3 ∷ StopRun ∷ []) ∷ each (say 11 ∷ []) ∷ each (Perform 4 4 ∷ [])
    ∷ each (say 13 ∷ []) ∷ each (Go 3 ∷ []) ∷ []

-- a jump by N to one of two paragraphs, or on to the next statement
abbrev pub depending : List Paragraph
depending =
    each (GoDepending (1 ∷ 2 ∷ []) (on_item 0) ∷ say 10 ∷ StopRun ∷ [])
    ∷ each (say 11 ∷ StopRun ∷ []) ∷ each (say 12 ∷ StopRun ∷ []) ∷ []

-- two ranges with one entry
abbrev pub two_exits : List Paragraph
two_exits = each (Perform 1 2 ∷ Perform 1 3 ∷ StopRun ∷ []) ∷ each (say 11 ∷ [])
    ∷ each (say 12 ∷ []) ∷ each (say 13 ∷ []) ∷ []

-- a range whose exit comes before its entry
abbrev pub backward : List Paragraph
backward = each (Perform 3 1 ∷ StopRun ∷ []) ∷ each (say 11 ∷ []) ∷ each (say 12 ∷ [])
    ∷ each (say 13 ∷ Go 1 ∷ []) ∷ []

-- NEXT SENTENCE where N is 1
abbrev pub next_sentence : List Paragraph
next_sentence =
    (also (when 1 NextSentence) (one (say 20))
    ∷ one (say 21) ∷ one StopRun ∷ []) ∷ []

-- TIMES takes its count once, and is left by a jump
abbrev pub times_left : List Paragraph
times_left =
    each (Loop (Times (amount 0))
    (Nested (also (act lowers)
    (also (act shows) (one (when 1 (Go 1)))))) ∷ [])
    ∷ each (StopRun ∷ []) ∷ []

-- PERFORM of a paragraph N times
abbrev pub times_nested : List Paragraph
times_nested =
    (also (Loop (Times (amount 0)) (Performed 1 1)) (one StopRun) ∷ []) ∷ (one (say 11) ∷ []) ∷ []

-- N is lowered and shown until it is zero, tested before or after
abbrev pub until_zero : Bool → List Paragraph
until_zero after =
    (also (Loop (Until after (Holds (is 0))) (Nested (also (act lowers) (one (act shows)))))
    (one StopRun) ∷ [])
    ∷ []

-- N is shown until it is zero, and lowered by VARYING, tested before or after
abbrev pub varying_down : Bool → List Paragraph
varying_down after =
    (also (Loop (Varying after (Own continues) (Own lowers) (Holds (is 0)))
    (Nested (one (act shows))))
    (one StopRun)
    ∷ []) ∷ []

-- what the programs with jumps show, and how they end
abbrev pub SourcesRunAs : Type 0
SourcesRunAs =
    (after_steps jumping 0 5 ≡ goes (11 ∷ 13 ∷ []))
    × (after_steps jumping 0 6 ≡ stopped (11 ∷ 13 ∷ []) 0)
    × (after_steps overlapping 0 100 ≡ overlaps (11 ∷ 13 ∷ []) 3)
    × (after_steps (each (Perform 0 0 ∷ []) ∷ []) 0 100 ≡ reenters [] 0)
    × (after_steps depending 0 100 ≡ stopped (10 ∷ []) 0)
    × (after_steps depending 1 100 ≡ stopped (11 ∷ []) 1)
    × (after_steps depending 2 100 ≡ stopped (12 ∷ []) 2)
    × (after_steps depending 3 100 ≡ stopped (10 ∷ []) 3)
    × (after_steps two_exits 0 100 ≡ stopped (11 ∷ 12 ∷ 11 ∷ 12 ∷ 13 ∷ []) 0)
    × (after_steps backward 0 100 ≡ stopped (13 ∷ 11 ∷ []) 0)
    × (after_steps next_sentence 1 100 ≡ stopped (21 ∷ []) 1)
    × (after_steps next_sentence 9 100 ≡ stopped (20 ∷ 21 ∷ []) 9)
    × (after_steps times_left 3 100 ≡ stopped (2 ∷ 1 ∷ []) 1)
    × (after_steps times_left 0 100 ≡ stopped [] 0)
    × (after_steps (each (Go 0 ∷ []) ∷ []) 0 100 ≡ goes [])

-- what the nested programs show within these units, and how they end
abbrev pub NestedRunAs : Type 0
NestedRunAs =
    (within_units jumps_nested 0 2 ≡ goes (11 ∷ 13 ∷ []))
    × (within_units jumps_nested 0 3 ≡ stopped (11 ∷ 13 ∷ []) 0)
    × (within_units times_nested 2 5 ≡ goes (11 ∷ 11 ∷ []))
    × (within_units times_nested 2 6 ≡ stopped (11 ∷ 11 ∷ []) 2)
    × (within_units (until_zero false) 2 7 ≡ goes (1 ∷ 0 ∷ []))
    × (within_units (until_zero false) 2 8 ≡ stopped (1 ∷ 0 ∷ []) 0)
    × (within_units (until_zero true) 1 4 ≡ goes (0 ∷ []))
    × (within_units (until_zero true) 1 5 ≡ stopped (0 ∷ []) 0)
    × (within_units (varying_down false) 2 6 ≡ stopped (2 ∷ 1 ∷ []) 0)
    × (within_units (varying_down true) 2 8 ≡ stopped (2 ∷ 1 ∷ 0 ∷ []) 0)

-- these programs show the same by steps as by nesting
abbrev pub BothRunAlike : Type 0
BothRunAlike =
    (after_steps times_nested 2 100 ≡ stopped (11 ∷ 11 ∷ []) 2)
    × (after_steps (until_zero false) 2 100 ≡ stopped (1 ∷ 0 ∷ []) 0)
    × (after_steps (until_zero true) 1 100 ≡ stopped (0 ∷ []) 0)
    × (after_steps (varying_down false) 2 100 ≡ stopped (2 ∷ 1 ∷ []) 0)
    × (after_steps (varying_down true) 2 100 ≡ stopped (2 ∷ 1 ∷ 0 ∷ []) 0)

-- the TIMES that is left, as a family with a count and a flag
abbrev pub times_family : Family
times_family = record {
  entry = λ range. 0;
  node = λ range label. tree
      (also (Do (Take 2 (amount 0)))
      (also (Do (Set 0 0)) (one (Loop (Until false (Is 0 1)) (Nested (one (Choose (If (Above 2))
      (given (also (Do (Lower 2))
      (also (act lowers)
      (also (act shows) (one (when 1 (Do (Set 0 1)))))))
      (given (one (Do (Set 0 1))) done))))))))) Stop;
}

-- two nodes that go to each other, by a state
abbrev pub state_family : Family
state_family = record {
  entry = λ range. 0;
  node = λ range label. tree
      (also (Do (Set 1 1)) (one (Loop (Until false (Is 1 0)) (Nested (one (Choose (ByCell 1)
      (given (one (Choose (If (Holds (is 1)))
      (given (one (Do (Set 1 3))) (given (one (Do (Set 1 2))) done))))
      (given (also (say 11) (one (Do (Set 1 3))))
      (given (also (say 12)
      (also (when 2 StopRun) (one (Do (Set 1 2)))))
      done))))))))) Dead;
}

-- the walk of a family from N, after so many steps
abbrev pub walked_steps : Family → ℕ → ℕ → Run ℕ
walked_steps family n steps = meaning (main_machine small (λ n. n) family) n steps

-- what the two families show, and how they end
abbrev pub FamiliesWalkAs : Type 0
FamiliesWalkAs =
    (walked_steps times_family 3 100 ≡ stopped (2 ∷ 1 ∷ []) 1)
    × (walked_steps times_family 0 100 ≡ stopped [] 0)
    × (walked_steps state_family 2 100 ≡ stopped (11 ∷ 12 ∷ []) 2)

-- The four jumps within a paragraph, a section and a loop.

-- PERFORM UNTIL N = 5, ADD 1 TO N, IF N = 3 EXIT PERFORM (or with CYCLE) END-IF, DISPLAY N,
-- END-PERFORM. DISPLAY 99.
abbrev pub loop_left : Bool → List Paragraph
loop_left cycle =
    (one (Loop (Until false (Holds (is 5))) (Nested
    (also (act raises)
    (also (when 3 (ExitPerform cycle))
    (one (act shows))))))
    ∷ one (say 99) ∷ [])
    ∷ []

-- two loops, of which EXIT PERFORM leaves the inner one
abbrev pub inner_left : List Paragraph
inner_left =
    (one (Loop (Until false (Holds (is 5))) (Nested
    (also (act raises)
    (also (Loop (Until false (Holds (is 9))) (Nested (one (ExitPerform false))))
    (one (act shows))))))
    ∷ [])
    ∷ []

-- S1 SECTION. A. DISPLAY 65. EXIT SECTION. B. DISPLAY 66. S2 SECTION. C. DISPLAY 67.
abbrev pub section_left : List Paragraph
section_left = each (say 65 ∷ ExitSection 1 ∷ []) ∷ each (say 66 ∷ []) ∷ each (say 67 ∷ []) ∷ []

-- the section is performed, and its pending return is taken at its end
abbrev pub section_performed : List Paragraph
section_performed =
    each (Perform 1 2 ∷ say 64 ∷ StopRun ∷ []) ∷ each (say 65 ∷ ExitSection 2 ∷ [])
    ∷ each (say 66 ∷ []) ∷ []

-- a loop from within which EXIT PARAGRAPH leaves the loop and the next sentence
abbrev pub paragraph_left : List Paragraph
paragraph_left =
    (one (Loop (Until false (Holds (is 5)))
    (Nested (also (act raises) (also ExitParagraph (one (act shows))))))
    ∷ one (say 98) ∷ [])
    ∷ each (say 99 ∷ []) ∷ []

-- what the programs with EXIT statements show, and how they end
abbrev pub JumpsRunAs : Type 0
JumpsRunAs =
    (after_steps (loop_left false) 0 100 ≡ stopped (1 ∷ 2 ∷ 99 ∷ []) 3)
    × (after_steps (loop_left true) 0 100 ≡ stopped (1 ∷ 2 ∷ 4 ∷ 5 ∷ 99 ∷ []) 5)
    × (after_steps inner_left 3 100 ≡ stopped (4 ∷ 5 ∷ []) 5)
    × (after_steps section_left 0 100 ≡ stopped (65 ∷ 67 ∷ []) 0)
    × (after_steps section_performed 0 100 ≡ stopped (65 ∷ 64 ∷ []) 0)
    × (after_steps paragraph_left 0 100 ≡ stopped (99 ∷ []) 1)
