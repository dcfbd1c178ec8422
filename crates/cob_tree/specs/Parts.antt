-- What a statement is taken apart into.
use Rattle.std.specs.Prelude.{◌≡◌}
use Rattle.cob_tree.specs.declared.stmt.Arms.{Arms, out-Arms}
use Rattle.cob_tree.specs.declared.stmt.Stmt.{Stmt}
use Rattle.cob_tree.specs.declared.stmt.Stmt.TheVariants as stmts
use Rattle.cob_tree.specs.declared.parts.ArmParts.{ArmParts}
use Rattle.cob_tree.specs.declared.parts.StmtParts.{StmtParts}
use Rattle.cob_tree.specs.declared.parts.StmtParts.TheVariants.{Display, Move, Arith, SetTrue, Opens, Closes, Read, Write, Rewrite, If, Evaluate, Loop, Perform, Go, GoDepending, NextSentence, StopRun, Exit, ExitParagraph, ExitSection, ExitPerform, Continue}

-- the statement is the one that these parts are of
abbrev pub AreParts : Stmt → StmtParts → Type 0
AreParts stmt (Display items advance) = stmt ≡ stmts.Display items advance
AreParts stmt (Move from to) = stmt ≡ stmts.Move from to
AreParts stmt (Arith calc into arms) = stmt ≡ stmts.Arith calc into arms
AreParts stmt (SetTrue place) = stmt ≡ stmts.SetTrue place
AreParts stmt (Opens openings) = stmt ≡ stmts.Opens openings
AreParts stmt (Closes files) = stmt ≡ stmts.Closes files
AreParts stmt (Read file into arms) = stmt ≡ stmts.Read file into arms
AreParts stmt (Write entry from) = stmt ≡ stmts.Write entry from
AreParts stmt (Rewrite entry from) = stmt ≡ stmts.Rewrite entry from
AreParts stmt (If cond here there) = stmt ≡ stmts.If cond here there
AreParts stmt (Evaluate subject whens other) = stmt ≡ stmts.Evaluate subject whens other
AreParts stmt (Loop control body) = stmt ≡ stmts.Loop control body
AreParts stmt (Perform entry exit control) = stmt ≡ stmts.Perform entry exit control
AreParts stmt (Go to) = stmt ≡ stmts.Go to
AreParts stmt (GoDepending to on) = stmt ≡ stmts.GoDepending to on
AreParts stmt NextSentence = stmt ≡ stmts.NextSentence
AreParts stmt StopRun = stmt ≡ stmts.StopRun
AreParts stmt Exit = stmt ≡ stmts.Exit
AreParts stmt ExitParagraph = stmt ≡ stmts.ExitParagraph
AreParts stmt ExitSection = stmt ≡ stmts.ExitSection
AreParts stmt (ExitPerform cycle) = stmt ≡ stmts.ExitPerform cycle
AreParts stmt Continue = stmt ≡ stmts.Continue

-- the arms are those that these parts are of
abbrev pub ArmsAre : Arms → ArmParts → Type 0
ArmsAre arms parts =
    ((out-Arms arms).first ≡ parts.first) × ((out-Arms arms).second ≡ parts.second)
