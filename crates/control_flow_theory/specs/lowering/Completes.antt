-- What a statement holds, whether it can complete, and what follows one that can't.
use Rattle.std.specs.Prelude.{ℕ, Bool, true, false, if◌then◌else◌, ◌+◌}
use Rattle.control_flow_theory.specs.language.Language.{Act, Own, Set, Take, Lower, Picker, If, By, ByCell, Control, Times, Until, Varying, Stmt, Do, Choose, Loop, Perform, Go, GoDepending, NextSentence, ExitParagraph, ExitSection, ExitPerform, StopRun, Stmts, none, also, Arms, done, given, missing, Body, Nested, Performed}
use Rattle.control_flow_theory.specs.lowering.FlowFacts.{FlowFacts}

-- the loop is tested after its body
abbrev pub is_after : Control → Bool
is_after (Times amount) = false
is_after (Until after test) = after
is_after (Varying after set step test) = after

-- what chooses is a chooser that never gives the first arm
abbrev pub first_is_dead : FlowFacts → Picker → Bool
first_is_dead told (If test) = false
first_is_dead told (By chooser) = told.never_first chooser
first_is_dead told (ByCell cell) = false

abbrev mutual
  -- control can come after it
  pub completes : FlowFacts → Stmt → Bool
  completes told (Do act) = true
  completes told (Choose picker arms) = choice_completes told (first_is_dead told picker) arms
  completes told (Loop control body) =
      if is_after control
      then (if body_completes told body then true else body_leaves_loop told body) else true
  completes told (Perform entry exit) = told.returning entry exit
  completes told (Go to) = false
  completes told (GoDepending to on) = true
  completes told NextSentence = false
  completes told ExitParagraph = false
  completes told (ExitSection last) = false
  completes told (ExitPerform cycle) = false
  completes told StopRun = false

  -- control can come to what follows these statements
  pub complete : FlowFacts → Stmts → Bool
  complete told none = true
  complete told (also stmt stmts) = if completes told stmt then complete told stmts else false

  -- an arm is missing or can complete; a missing first arm that is never given counts as one that
  -- can't
  pub choice_completes : FlowFacts → Bool → Arms → Bool
  choice_completes told first done = false
  choice_completes told first (given arm others) =
      if complete told arm then true else choice_completes told false others
  choice_completes told first (missing others) =
      if first then choice_completes told false others else true

  -- control can come to the end of a loop's body; of a range, where the range returns
  pub body_completes : FlowFacts → Body → Bool
  body_completes told (Nested stmts) = complete told stmts
  body_completes told (Performed entry exit) = told.returning entry exit

  -- an EXIT PERFORM of the loop around is in it, with or without CYCLE, and not after what
  -- can't complete
  pub leaves_loop : FlowFacts → Stmt → Bool
  leaves_loop told (Do act) = false
  leaves_loop told (Choose picker arms) = arms_leave_loop told arms
  leaves_loop told (Loop control body) = false
  leaves_loop told (Perform entry exit) = false
  leaves_loop told (Go to) = false
  leaves_loop told (GoDepending to on) = false
  leaves_loop told NextSentence = false
  leaves_loop told ExitParagraph = false
  leaves_loop told (ExitSection last) = false
  leaves_loop told (ExitPerform cycle) = true
  leaves_loop told StopRun = false

  -- the same of statements in order
  pub leave_loop : FlowFacts → Stmts → Bool
  leave_loop told none = false
  leave_loop told (also stmt stmts) =
      if leaves_loop told stmt then true
      else (if completes told stmt then leave_loop told stmts else false)

  -- the same of one of these arms
  pub arms_leave_loop : FlowFacts → Arms → Bool
  arms_leave_loop told done = false
  arms_leave_loop told (given arm others) =
      if leave_loop told arm then true else arms_leave_loop told others
  arms_leave_loop told (missing others) = arms_leave_loop told others

  -- the same of a loop's body
  pub body_leaves_loop : FlowFacts → Body → Bool
  body_leaves_loop told (Nested stmts) = leave_loop told stmts
  body_leaves_loop told (Performed entry exit) = false

-- lists end after the first statement that can't complete
abbrev mutual
  pub cut : FlowFacts → Stmt → Stmt
  cut told (Do act) = Do act
  cut told (Choose picker arms) = Choose picker (cut_arms told arms)
  cut told (Loop control body) = Loop control (cut_body told body)
  cut told (Perform entry exit) = Perform entry exit
  cut told (Go to) = Go to
  cut told (GoDepending to on) = GoDepending to on
  cut told NextSentence = NextSentence
  cut told ExitParagraph = ExitParagraph
  cut told (ExitSection last) = ExitSection last
  cut told (ExitPerform cycle) = ExitPerform cycle
  cut told StopRun = StopRun

  -- the statements as far as the first that can't complete, each cut
  pub cuts : FlowFacts → Stmts → Stmts
  cuts told none = none
  cuts told (also stmt stmts) =
      also (cut told stmt) (if completes told stmt then cuts told stmts else none)

  -- each arm cut
  pub cut_arms : FlowFacts → Arms → Arms
  cut_arms told done = done
  cut_arms told (given arm others) = given (cuts told arm) (cut_arms told others)
  cut_arms told (missing others) = missing (cut_arms told others)

  -- a loop's body cut
  pub cut_body : FlowFacts → Body → Body
  cut_body told (Nested stmts) = Nested (cuts told stmts)
  cut_body told (Performed entry exit) = Performed entry exit

-- there is no escape in it: GO TO, GO TO DEPENDING, NEXT SENTENCE, EXIT PARAGRAPH, EXIT SECTION or
-- EXIT PERFORM
abbrev mutual
  pub whole : Stmt → Bool
  whole (Do act) = true
  whole (Choose picker arms) = whole_arms arms
  whole (Loop control body) = whole_body body
  whole (Perform entry exit) = true
  whole (Go to) = false
  whole (GoDepending to on) = false
  whole NextSentence = false
  whole ExitParagraph = false
  whole (ExitSection last) = false
  whole (ExitPerform cycle) = false
  whole StopRun = true

  -- there is no escape in these statements
  pub wholes : Stmts → Bool
  wholes none = true
  wholes (also stmt stmts) = if whole stmt then wholes stmts else false

  -- there is no escape in these arms
  pub whole_arms : Arms → Bool
  whole_arms done = true
  whole_arms (given arm others) = if wholes arm then whole_arms others else false
  whole_arms (missing others) = whole_arms others

  -- there is no escape in a loop's body
  pub whole_body : Body → Bool
  whole_body (Nested stmts) = wholes stmts
  whole_body (Performed entry exit) = true

-- there is a NEXT SENTENCE in it
abbrev mutual
  pub leaves_sentence : Stmt → Bool
  leaves_sentence (Do act) = false
  leaves_sentence (Choose picker arms) = arms_leave_sentence arms
  leaves_sentence (Loop control body) = body_leaves_sentence body
  leaves_sentence (Perform entry exit) = false
  leaves_sentence (Go to) = false
  leaves_sentence (GoDepending to on) = false
  leaves_sentence NextSentence = true
  leaves_sentence ExitParagraph = false
  leaves_sentence (ExitSection last) = false
  leaves_sentence (ExitPerform cycle) = false
  leaves_sentence StopRun = false

  -- there is a NEXT SENTENCE in one of these statements
  pub leave_sentence : Stmts → Bool
  leave_sentence none = false
  leave_sentence (also stmt stmts) = if leaves_sentence stmt then true else leave_sentence stmts

  -- there is a NEXT SENTENCE in one of these arms
  pub arms_leave_sentence : Arms → Bool
  arms_leave_sentence done = false
  arms_leave_sentence (given arm others) =
      if leave_sentence arm then true else arms_leave_sentence others
  arms_leave_sentence (missing others) = arms_leave_sentence others

  -- there is a NEXT SENTENCE in a loop's body
  pub body_leaves_sentence : Body → Bool
  body_leaves_sentence (Nested stmts) = leave_sentence stmts
  body_leaves_sentence (Performed entry exit) = false

-- how many places it takes: its own, and those of what is nested in it; a PERFORM with a loop takes
-- one
abbrev mutual
  pub size : Stmt → ℕ
  size (Do act) = 1
  size (Choose picker arms) = 1 + size_arms arms
  size (Loop control body) = 1 + size_body body
  size (Perform entry exit) = 1
  size (Go to) = 1
  size (GoDepending to on) = 1
  size NextSentence = 1
  size ExitParagraph = 1
  size (ExitSection last) = 1
  size (ExitPerform cycle) = 1
  size StopRun = 1

  -- how many places these statements take
  pub sizes : Stmts → ℕ
  sizes none = 0
  sizes (also stmt stmts) = size stmt + sizes stmts

  -- how many places these arms take
  pub size_arms : Arms → ℕ
  size_arms done = 0
  size_arms (given arm others) = sizes arm + size_arms others
  size_arms (missing others) = size_arms others

  -- how many places a loop's body takes; a range takes none
  pub size_body : Body → ℕ
  size_body (Nested stmts) = sizes stmts
  size_body (Performed entry exit) = 0

-- the statement does nothing
abbrev pub skips : FlowFacts → Act → Bool
skips told (Own simple) = told.skipped simple
skips told (Set cell value) = false
skips told (Take cell amount) = false
skips told (Lower cell) = false
