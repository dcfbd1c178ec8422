-- Statements that leave no section: there is no EXIT SECTION among them.
use Rattle.std.specs.Prelude.{ℕ, ◌≡◌, List}
use Rattle.cob_tree.specs.declared.stmt.Stmt.{Stmt}
use Rattle.control_flow_theory.specs.language.Control.{seen_stmts}
use Rattle.control_flow_theory.specs.language.Language as language
use Rattle.control_flow_theory.specs.language.Language.{Do, Choose, Loop, Perform, Go, GoDepending, NextSentence, ExitParagraph, ExitSection, ExitPerform, StopRun, Stmts, none, also, Arms, done, given, missing, Body, Nested, Performed}

abbrev mutual
  -- there is no EXIT SECTION in a statement
  pub StmtStays : language.Stmt → Type 0
  StmtStays (Do act) = Unit {0}
  StmtStays (Choose picker arms) = ArmsStay arms
  StmtStays (Loop control body) = BodyStays body
  StmtStays (Perform entry exit) = Unit {0}
  StmtStays (Go to) = Unit {0}
  StmtStays (GoDepending to on) = Unit {0}
  StmtStays NextSentence = Unit {0}
  StmtStays ExitParagraph = Unit {0}
  StmtStays (ExitSection last) = ⊥
  StmtStays (ExitPerform cycle) = Unit {0}
  StmtStays StopRun = Unit {0}

  -- there is none in these statements
  pub StmtsStay : Stmts → Type 0
  StmtsStay none = Unit {0}
  StmtsStay (also stmt stmts) = StmtStays stmt × StmtsStay stmts

  -- there is none in these arms
  pub ArmsStay : Arms → Type 0
  ArmsStay done = Unit {0}
  ArmsStay (given arm others) = StmtsStay arm × ArmsStay others
  ArmsStay (missing others) = ArmsStay others

  -- there is none in a loop's body
  pub BodyStays : Body → Type 0
  BodyStays (Nested stmts) = StmtsStay stmts
  BodyStays (Performed entry exit) = Unit {0}

-- statements that stay are seen alike, whichever paragraph is the last one of their section
abbrev pub StatementsAreSeenAlike : Type 0
StatementsAreSeenAlike = (last : ℕ) (stmts : List Stmt) → StmtsStay (seen_stmts 0 stmts) →
    seen_stmts last stmts ≡ seen_stmts 0 stmts
