-- How deep statements nest as they are written: a statement that holds statements is one level more
-- than the deepest of them.
use Rattle.std.specs.Prelude.{ℕ, suc, max, not, Bool, true, false, if◌then◌else◌}
use Rattle.control_flow_theory.specs.language.Language.{Picker, If, By, ByCell, Evaluate, Read, Arith, Depending, Stmt, Do, Choose, Loop, Perform, Go, GoDepending, NextSentence, ExitParagraph, ExitSection, ExitPerform, StopRun, Stmts, none, also, Arms, done, given, missing, Body, Nested, Performed}

-- Where it is empty, the first or a later arm of READ or arithmetic may be left out: AT END where
-- the source lacks it, and NOT AT END and NOT ON SIZE ERROR always. The others choose with an arm
-- that is always there, so what they leave out makes no level less.
abbrev pub leaves_out : Picker → Bool → Bool
leaves_out (If test) first = false
leaves_out (By (Evaluate subject tests has_other)) first = false
leaves_out (By (Read file into has_end)) first = if first then not has_end else true
leaves_out (By (Arith calc into)) first = not first
leaves_out (By (Depending on names)) first = false
leaves_out (ByCell cell) first = false

-- there is no statement
abbrev pub is_nothing : Stmts → Bool
is_nothing none = true
is_nothing (also first others) = false

-- the level of an arm that may be left out where there is nothing in it, of statements so deep
abbrev pub arm_level : Bool → Bool → ℕ → ℕ
arm_level out nothing deep = if out then (if nothing then 0 else suc deep) else suc deep

abbrev mutual
  -- how deep these statements nest
  pub nesting : Stmts → ℕ
  nesting none = 0
  nesting (also first others) = max (stmt_nesting first) (nesting others)

  -- how deep a statement nests
  pub stmt_nesting : Stmt → ℕ
  stmt_nesting (Do act) = 0
  stmt_nesting (Choose picker arms) = arms_nesting picker true arms
  stmt_nesting (Loop control body) = body_nesting body
  stmt_nesting (Perform entry exit) = 0
  stmt_nesting (Go to) = 0
  stmt_nesting (GoDepending to on) = 0
  stmt_nesting NextSentence = 0
  stmt_nesting ExitParagraph = 0
  stmt_nesting (ExitSection last) = 0
  stmt_nesting (ExitPerform cycle) = 0
  stmt_nesting StopRun = 0

  -- how deep a loop's body nests, a level more than its statements
  pub body_nesting : Body → ℕ
  body_nesting (Nested stmts) = suc (nesting stmts)
  body_nesting (Performed entry exit) = 0

  -- the arms from the first or a later one on
  pub arms_nesting : Picker → Bool → Arms → ℕ
  arms_nesting picker first done = 0
  arms_nesting picker first (given arm others) =
      max (arm_level (leaves_out picker first) (is_nothing arm) (nesting arm))
      (arms_nesting picker false others)
  arms_nesting picker first (missing others) = arms_nesting picker false others
