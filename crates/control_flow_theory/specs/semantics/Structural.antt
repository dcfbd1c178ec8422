-- What a structured program means: what its nested statements mean, within a number of units.
-- There is no rest, no pending return and no next paragraph.
use Rattle.std.specs.Prelude.{ℕ, zero, suc, Bool, true, false, if◌then◌else◌, ◌==◌, List, [], ◌∷◌, ◌++◌}
use Rattle.control_flow_theory.specs.runs.Run.{Going, Over}
use Rattle.control_flow_theory.specs.semantics.Outcome.{Trace, How, Normally, Abend, Stopped, Run, Standing, Tried, Got, Ends}
use Rattle.control_flow_theory.specs.language.Language.{Act, Test, Control, Times, Until, Varying, Stmt, Do, Choose, Loop, Perform, Go, GoDepending, NextSentence, ExitParagraph, ExitSection, ExitPerform, StopRun, Stmts, none, also, Arms, done, given, missing, Body, Nested, Performed, Paragraph, Program}
use Rattle.control_flow_theory.specs.semantics.Doing.{Doing}
use Rattle.control_flow_theory.specs.language.Items.{Turning, Counted, Tests, Steps, StepsAfter}

-- what a statement comes to, with what it showed: it went on, with the memory and the units that
-- are left, or the run stands so
pub data Outcome (Memory Left : Type 0) : Type 0 where
  Went : (trace : Trace) → (memory : Memory) → (units : ℕ) → Outcome Memory Left
  Stands : (trace : Trace) → (standing : Standing Left) → Outcome Memory Left

module _ {Memory Left : Type 0} (doing : Doing Memory) (left : Memory → Left) where
  -- what something does, from a memory and a number of units
  abbrev pub Does : Type 0
  Does = Memory → ℕ → Outcome Memory Left

  -- nothing is done, and no unit is taken
  abbrev pub nothing : Does
  nothing memory units = Went [] memory units

  -- what has no meaning, since structured programs have no jump
  abbrev pub meaningless : Does
  meaningless memory units = Stands [] Going

  -- the same, after this was shown
  abbrev pub behind : Trace → Outcome Memory Left → Outcome Memory Left
  behind shown (Went trace memory units) = Went (shown ++ trace) memory units
  behind shown (Stands trace standing) = Stands (shown ++ trace) standing

  -- this, and then more, where it went on
  abbrev pub then_do : Outcome Memory Left → Does → Outcome Memory Left
  then_do (Went trace memory units) more = behind trace (more memory units)
  then_do (Stands trace standing) more = Stands trace standing

  -- one thing after the other
  abbrev pub one_then : Does → Does → Does
  one_then first second = λ memory units. then_do (first memory units) second

  -- this, after taking one unit; where it is missing, the run is still going
  abbrev pub unit_of : Does → Does
  unit_of does memory zero = Stands [] Going
  unit_of does memory (suc units) = does memory units

  -- the run stops so
  abbrev pub stops : How → Does
  stops how memory units = Stands [] (Over (Stopped how (left memory)))

  -- what goes on with the value that was tried, or ends the run
  abbrev pub gets : {Value : Type 0} → Tried Memory Value → (Value → Does) → ℕ → Outcome Memory Left
  gets (Got trace value memory) go units = behind trace (go value memory units)
  gets (Ends trace kind memory) go units = behind trace (stops (Abend kind) memory units)

  -- an act, and then this
  abbrev pub acts : Act → Does → Does
  acts act go memory units = gets (doing.act act memory) (λ u. go) units

  -- The turns of a loop whose body does this: each takes a unit, so one more than the units are
  -- enough.

  -- a loop is left where its test holds, and takes one more turn otherwise
  abbrev pub goes_round : Bool → Does → Does
  goes_round true turn = nothing
  goes_round false turn = unit_of turn

  -- the turns of a loop, so many at most
  abbrev pub turns : ℕ → Turning → Does → Does
  turns zero turning body = meaningless
  turns (suc most) (Counted zero) body = nothing
  turns (suc most) (Counted (suc n)) body = unit_of (one_then body (turns most (Counted n) body))
  turns (suc most) (Tests test) body =
      λ memory units. gets (doing.test test memory)
      (λ ended. goes_round ended (one_then body (turns most (Tests test) body))) units
  turns (suc most) (Steps false step test) body =
      λ memory units. gets (doing.test test memory)
      (λ ended. goes_round ended (one_then body (turns most (Steps true step test) body))) units
  turns (suc most) (Steps true step test) body =
      acts step (λ memory units. gets (doing.test test memory)
      (λ ended. goes_round ended (one_then body (turns most (Steps true step test) body))) units)
  turns (suc most) (StepsAfter step test) body =
      λ memory units. gets (doing.test test memory)
      (λ ended. goes_round ended
      (acts step (one_then body (turns most (StepsAfter step test) body)))) units

  -- the turns of a loop, as many as there are units for
  abbrev pub all_turns : Turning → Does → Does
  all_turns turning body memory units = turns (suc units) turning body memory units

  -- the turns of a loop; where the test comes after, one body comes before it
  abbrev pub first_turn : Bool → Turning → Does → Does
  first_turn false turning body = all_turns turning body
  first_turn true turning body = unit_of (one_then body (all_turns turning body))

  -- how a loop by VARYING turns, tested before or after
  abbrev pub varying : Bool → Act → Test → Turning
  varying false step test = Steps false step test
  varying true step test = StepsAfter step test

  -- what a loop does, whose body does this
  abbrev pub loop_does : Control → Does → Does
  loop_does (Times amount) body memory units =
      gets (doing.count amount memory) (λ n. all_turns (Counted n) body) units
  loop_does (Until after test) body memory units = first_turn after (Tests test) body memory units
  loop_does (Varying after set step test) body memory units =
      acts set (first_turn after (varying after step test) body) memory units

  -- what a PERFORM of the paragraph with this number does
  abbrev pub Performing : Type 0
  Performing = ℕ → Does

  abbrev mutual
    -- what a statement does; each one that is begun takes one unit
    pub stmt_does : Stmt → Performing → Does
    stmt_does (Do act) perform = unit_of (acts act nothing)
    stmt_does (Choose picker arms) perform =
        unit_of (λ memory units. gets (doing.pick picker memory) (arm_does arms perform) units)
    stmt_does (Loop control body) perform = unit_of (loop_does control (body_does body perform))
    stmt_does (Perform entry exit) perform = unit_of (perform entry)
    stmt_does (Go to) perform = meaningless
    stmt_does (GoDepending to chooser) perform = meaningless
    stmt_does NextSentence perform = meaningless
    stmt_does ExitParagraph perform = meaningless
    stmt_does (ExitSection last) perform = meaningless
    stmt_does (ExitPerform cycle) perform = meaningless
    stmt_does StopRun perform = unit_of (stops Normally)

    -- statements are done one after the other
    pub stmts_do : Stmts → Performing → Does
    stmts_do none perform = nothing
    stmts_do (also stmt stmts) perform = one_then (stmt_does stmt perform) (stmts_do stmts perform)

    -- what the arm with this number does; a missing one does nothing
    pub arm_does : Arms → Performing → ℕ → Does
    arm_does done perform k = nothing
    arm_does (given arm others) perform zero = stmts_do arm perform
    arm_does (given arm others) perform (suc k) = arm_does others perform k
    arm_does (missing others) perform zero = nothing
    arm_does (missing others) perform (suc k) = arm_does others perform k

    -- what the body of a loop does
    pub body_does : Body → Performing → Does
    body_does (Nested stmts) perform = stmts_do stmts perform
    body_does (Performed entry exit) perform = perform entry

  -- the sentences of a paragraph are done one after the other
  abbrev pub paragraph_does : Paragraph → Performing → Does
  paragraph_does [] perform = nothing
  paragraph_does (sentence ∷ sentences) perform =
      one_then (stmts_do sentence perform) (paragraph_does sentences perform)

  -- what PERFORM of a paragraph does: it sees only those after it; the first of these has this
  -- number
  abbrev pub performing : ℕ → List Paragraph → Performing
  performing first [] number = meaningless
  performing first (paragraph ∷ others) number =
      if number == first then paragraph_does paragraph (performing (suc first) others)
      else performing (suc first) others number

  -- what the first paragraph does, in which the others are performed
  abbrev pub program_does : List Paragraph → Does
  program_does [] = nothing
  program_does (paragraph ∷ others) = paragraph_does paragraph (performing 1 others)

  -- the run of a program: it stops after its first paragraph
  abbrev pub run_of : Outcome Memory Left → Run Left
  run_of (Went trace memory units) =
      record { trace = trace; standing = Over (Stopped Normally (left memory)) }
  run_of (Stands trace standing) = record { trace = trace; standing = standing }

  -- the nested meaning of a program, from a memory and a number of units
  abbrev pub structural : Program → Memory → ℕ → Run Left
  structural program memory units = run_of (program_does program.paragraphs memory units)
