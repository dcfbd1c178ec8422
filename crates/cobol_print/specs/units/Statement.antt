-- Statements as units: a line each, and the lines of what they hold.
use Rattle.std.specs.Prelude.{ℕ, ◌==◌, Bool, true, false, ◌&&◌, ◌||◌, is_some, List, [], ◌∷◌, ◌++◌, map, length, Option, Some, None, codes, if◌then◌else◌}
use Rattle.cob_tree.specs.declared.choice.Test.{Test}
use Rattle.cob_tree.specs.declared.program.Program.{Program}
use Rattle.cob_tree.specs.declared.stmt.Arms.{Arms, fold-Arms}
use Rattle.cob_tree.specs.declared.stmt.Stmt.{Stmt, fold-Stmt}
use Rattle.cob_tree.specs.declared.stmt.Stmt.TheOpen.{Arms-F, Stmt-F, When-F}
use Rattle.cob_tree.specs.declared.stmt.When.{When, fold-When}
use Rattle.cobol_lex.specs.declared.token.TokenKind.TheVariants as kind
use Rattle.unparser.specs.Token.{Tokens}
use Rattle.unparser.specs.Arithmetic.{end_word}
use Rattle.unparser.specs.Choice.{test_tokens}
use Rattle.unparser.specs.Condition.{not_tokens}
use Rattle.unparser.specs.Head.{head_step}
use Rattle.cobol_print.specs.declared.units.statement.ArmPhrase.{ArmPhrase}
use Rattle.cobol_print.specs.declared.units.statement.ArmPhrase.TheVariants.{AtEnd, OnSizeError}
use Rattle.cobol_print.specs.declared.units.unit.PrintUnit.{PrintUnit}
use Rattle.cobol_print.specs.units.Unit.{unit_at, deeper}

-- the lines of a part from a column on; a statement is closed by its END word where it has arms, or
-- comes last in an arm
abbrev pub Lines : Type 0
Lines = (column : ℕ) → (closed : Bool) → List PrintUnit

-- the lines of arms, by their phrase, and whether there are any
pub record ArmLines : Type 0 where
  -- there is an arm
  pub some : Bool
  -- the lines of the arms
  pub lines : ArmPhrase → (column : ℕ) → List PrintUnit

-- the lines of a WHEN, from a column on
abbrev pub WhenLines : Type 0
WhenLines = (column : ℕ) → List PrintUnit

-- ---- single lines

-- a line of one word
abbrev pub word_line : (column : ℕ) → List ℕ → PrintUnit
word_line column word = unit_at column (kind.Word word ∷ [])

-- the words of a phrase
abbrev pub phrase_tokens : ArmPhrase → Tokens
phrase_tokens AtEnd = kind.Word (codes "AT") ∷ kind.Word (codes "END") ∷ []
phrase_tokens OnSizeError =
    kind.Word (codes "ON") ∷ kind.Word (codes "SIZE") ∷ kind.Word (codes "ERROR") ∷ []

-- WHEN OTHER
abbrev pub other_tokens : Tokens
other_tokens = kind.Word (codes "WHEN") ∷ kind.Word (codes "OTHER") ∷ []

-- a WHEN with one test
abbrev pub when_unit : Program → (column : ℕ) → Test → PrintUnit
when_unit program column test =
    unit_at column (kind.Word (codes "WHEN") ∷ test_tokens program test)

-- the tests of one arm, a line each
abbrev pub tests_lines : Program → (column : ℕ) → List Test → List PrintUnit
tests_lines program column tests = map (when_unit program column) tests

-- the END word of a statement, where one is asked for
abbrev pub end_lines : (asked : Bool) → (word : List ℕ) → (column : ℕ) → List PrintUnit
end_lines asked word column = if asked then word_line column word ∷ [] else []

-- ---- lists of statements

-- statements, one after the other, the last one closed or not
abbrev pub some_lines : List Lines → Lines
some_lines [] column closed = []
some_lines (stmt ∷ stmts) column closed =
    stmt column (closed && length stmts == 0) ++ some_lines stmts column closed

-- the lines of a list of statements; CONTINUE stands for none
abbrev pub list_lines : List Lines → Lines
list_lines [] column closed = word_line column (codes "CONTINUE") ∷ []
list_lines (stmt ∷ stmts) column closed = some_lines (stmt ∷ stmts) column closed

-- ---- what holds statements

-- one of the two arms is there
abbrev pub has_arms : Arms → Bool
has_arms arms = is_some arms.first || is_some arms.second

-- an arm, with its phrase
abbrev pub arm_lines : List Lines → ArmPhrase → (not : Bool) → (column : ℕ) → List PrintUnit
arm_lines stmts phrase not column =
    unit_at (deeper column) (not_tokens not ++ phrase_tokens phrase)
    ∷ list_lines stmts (deeper (deeper column)) true

-- an arm, if it is there
abbrev pub arm_if_any : Option (List Lines) → ArmPhrase → (not : Bool) → (column : ℕ) →
    List PrintUnit
arm_if_any None phrase not column = []
arm_if_any (Some stmts) phrase not column = arm_lines stmts phrase not column

-- the lines of the two arms
abbrev pub arms_step : Arms-F Lines ArmLines WhenLines → ArmLines
arms_step arms = record {
  some = is_some arms.first || is_some arms.second;
  lines = λ phrase column.
      arm_if_any arms.first phrase false column ++ arm_if_any arms.second phrase true column;
}

-- the lines of a WHEN
abbrev pub when_step : Program → When-F Lines ArmLines WhenLines → WhenLines
when_step program when column =
    tests_lines program (deeper column) when.tests
    ++ list_lines when.stmts (deeper (deeper column)) false

-- the lines of these WHENs
abbrev pub whens_lines : List WhenLines → (column : ℕ) → List PrintUnit
whens_lines [] column = []
whens_lines (when ∷ whens) column = when column ++ whens_lines whens column

-- WHEN OTHER, if it is there, and END-EVALUATE
abbrev pub held_by_other : Option (List Lines) → (column : ℕ) → List PrintUnit
held_by_other None column = word_line column (codes "END-EVALUATE") ∷ []
held_by_other (Some stmts) column =
    unit_at (deeper column) other_tokens ∷ list_lines stmts (deeper (deeper column)) false
    ++ word_line column (codes "END-EVALUATE") ∷ []

-- ELSE, if it holds statements, and END-IF
abbrev pub held_by_else : List Lines → (column : ℕ) → List PrintUnit
held_by_else [] column = word_line column (codes "END-IF") ∷ []
held_by_else (stmt ∷ stmts) column =
    word_line column (codes "ELSE") ∷ list_lines (stmt ∷ stmts) (deeper column) false
    ++ word_line column (codes "END-IF") ∷ []

-- the body of an inline PERFORM, and END-PERFORM
abbrev pub held_by_loop : List Lines → (column : ℕ) → List PrintUnit
held_by_loop body column =
    list_lines body (deeper column) false ++ word_line column (codes "END-PERFORM") ∷ []

-- the lines below the first line of one level of a statement
abbrev pub held_step : Stmt-F Lines ArmLines WhenLines → Lines
held_step (Stmt-F.Arith calc into arms) column closed =
    arms.lines OnSizeError column ++ end_lines (arms.some || closed) (end_word calc) column
held_step (Stmt-F.Read file into arms) column closed =
    arms.lines AtEnd column ++ end_lines (arms.some || closed) (codes "END-READ") column
held_step (Stmt-F.If cond met unmet) column closed =
    list_lines met (deeper column) false ++ held_by_else unmet column
held_step (Stmt-F.Evaluate subject whens other) column closed =
    whens_lines whens column ++ held_by_other other column
held_step (Stmt-F.Loop control body) column closed = held_by_loop body column
held_step _ column closed = []

-- one level of a statement: its first line, and what is below it
abbrev pub stmt_step : Program → Stmt-F Lines ArmLines WhenLines → Lines
stmt_step program stmt column closed =
    unit_at column (head_step program stmt) ∷ held_step stmt column closed

-- ---- whole statements

-- the lines of a statement
abbrev pub stmt_lines : Program → Stmt → Lines
stmt_lines program =
    fold-Stmt Lines ArmLines WhenLines (stmt_step program) arms_step (when_step program)

-- the lines of a statement's arms
abbrev pub arms_lines : Program → Arms → ArmLines
arms_lines program =
    fold-Arms Lines ArmLines WhenLines (stmt_step program) arms_step (when_step program)

-- the lines of a WHEN
abbrev pub when_lines : Program → When → WhenLines
when_lines program =
    fold-When Lines ArmLines WhenLines (stmt_step program) arms_step (when_step program)
