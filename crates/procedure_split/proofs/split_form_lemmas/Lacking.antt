-- Statements of control in which no EXIT stands.
use Rattle.std.proofs.Common.{◌≡◌, false}
use Rattle.control_flow_theory.specs.language.Language.{Act, Own, Set, Take, Lower, Stmt, Do, Choose, Loop, Perform, Go, GoDepending, NextSentence, ExitParagraph, ExitSection, ExitPerform, StopRun, Stmts, none, also, Arms, done, given, missing, Body, Nested, Performed}
use Rattle.grammar_laws.specs.short_lists.lone_exits.Alone.{is_exit}

abbrev pub ActLacks : Act → Type 0
ActLacks (Own simple) = is_exit simple ≡ false
ActLacks (Set cell value) = Unit {0}
ActLacks (Take cell amount) = Unit {0}
ActLacks (Lower cell) = Unit {0}

abbrev mutual
  pub StmtLacks : Stmt → Type 0
  StmtLacks (Do act) = ActLacks act
  StmtLacks (Choose picker arms) = ArmsLack arms
  StmtLacks (Loop control body) = BodyLacks body
  StmtLacks (Perform entry exit) = Unit {0}
  StmtLacks (Go to) = Unit {0}
  StmtLacks (GoDepending to on) = Unit {0}
  StmtLacks NextSentence = Unit {0}
  StmtLacks ExitParagraph = Unit {0}
  StmtLacks (ExitSection last) = Unit {0}
  StmtLacks (ExitPerform cycle) = Unit {0}
  StmtLacks StopRun = Unit {0}

  pub StmtsLack : Stmts → Type 0
  StmtsLack none = Unit {0}
  StmtsLack (also stmt stmts) = StmtLacks stmt × StmtsLack stmts

  pub ArmsLack : Arms → Type 0
  ArmsLack done = Unit {0}
  ArmsLack (given arm others) = StmtsLack arm × ArmsLack others
  ArmsLack (missing others) = ArmsLack others

  pub BodyLacks : Body → Type 0
  BodyLacks (Nested stmts) = StmtsLack stmts
  BodyLacks (Performed entry exit) = Unit {0}
