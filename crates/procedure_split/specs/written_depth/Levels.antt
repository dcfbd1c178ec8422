-- How deep control nests, as the tree of its program does: a statement that holds statements is one
-- level more than the deepest of them.
use Rattle.std.specs.Prelude.{ℕ, suc, max, map}
use Rattle.cob_tree.specs.Depth.{largest}
use Rattle.control_flow_theory.specs.language.Language.{Evaluate, Read, Arith, Depending, Picker, If, By, ByCell, Stmt, Do, Choose, Loop, Perform, Go, GoDepending, NextSentence, ExitParagraph, ExitSection, ExitPerform, StopRun, Stmts, none, also, Arms, done, given, missing, Body, Nested, Performed, Paragraph, Program}

-- how many levels a choice is at least: EVALUATE is one even where there is no WHEN in it, which no
-- text has; READ and arithmetic are none without an arm
abbrev pub least_levels : Picker → ℕ
least_levels (If test) = 0
least_levels (By (Evaluate subject tests has_other)) = 1
least_levels (By (Read file into has_end)) = 0
least_levels (By (Arith calc into)) = 0
least_levels (By (Depending on names)) = 1
least_levels (ByCell cell) = 1

abbrev mutual
  -- how deep these statements nest
  pub levels : Stmts → ℕ
  levels none = 0
  levels (also first others) = max (stmt_levels first) (levels others)

  -- how deep a statement nests
  pub stmt_levels : Stmt → ℕ
  stmt_levels (Do act) = 0
  stmt_levels (Choose picker arms) = max (least_levels picker) (arms_levels arms)
  stmt_levels (Loop control body) = body_levels body
  stmt_levels (Perform entry exit) = 0
  stmt_levels (Go to) = 0
  stmt_levels (GoDepending to on) = 0
  stmt_levels NextSentence = 0
  stmt_levels ExitParagraph = 0
  stmt_levels (ExitSection last) = 0
  stmt_levels (ExitPerform cycle) = 0
  stmt_levels StopRun = 0

  -- how deep these arms nest, each a level more than its statements
  pub arms_levels : Arms → ℕ
  arms_levels done = 0
  arms_levels (given arm others) = max (suc (levels arm)) (arms_levels others)
  arms_levels (missing others) = arms_levels others

  -- how deep a loop's body nests, a level more than its statements
  pub body_levels : Body → ℕ
  body_levels (Nested stmts) = suc (levels stmts)
  body_levels (Performed entry exit) = 0

-- how deep a paragraph nests
abbrev pub paragraph_levels : Paragraph → ℕ
paragraph_levels paragraph = largest (map levels paragraph)

-- how deep a program nests
abbrev pub program_levels : Program → ℕ
program_levels program = largest (map paragraph_levels program.paragraphs)
