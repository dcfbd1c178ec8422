-- Statements that can be printed, with what they hold.
use Rattle.std.specs.Prelude.{Bool, true, ◌&&◌, List, map}
use Rattle.cob_tree.specs.declared.program.Sentence.{Sentence}
use Rattle.cob_tree.specs.declared.stmt.Arms.{Arms, fold-Arms}
use Rattle.cob_tree.specs.declared.stmt.Stmt.{Stmt, fold-Stmt}
use Rattle.cob_tree.specs.declared.stmt.Stmt.TheOpen.{Stmt-F, Arms-F, When-F}
use Rattle.cob_tree.specs.declared.stmt.When.{When, fold-When}
use Rattle.control_flow_theory.specs.language.All.{all, all_if}
use Rattle.program_facts.specs.well_scoped.Part.{if_any}
use Rattle.round_trip.specs.printable.Part.{is_printable_place, are_printable_places, is_printable_operand, are_printable_operands}
use Rattle.round_trip.specs.printable.Beside.{is_printable_cond, is_printable_control, is_printable_calc, is_printable_target, is_printable_subject, is_printable_test}

-- one level of a statement can be printed
abbrev pub stmt_step : Stmt-F Bool Bool Bool → Bool
stmt_step (Stmt-F.Display items advance) = are_printable_operands items
stmt_step (Stmt-F.Move from to) = is_printable_operand from && are_printable_places to
stmt_step (Stmt-F.Arith calc into arms) =
    is_printable_calc calc && all (map is_printable_target into) && arms
stmt_step (Stmt-F.SetTrue place) = is_printable_place place
stmt_step (Stmt-F.Read file into arms) = if_any is_printable_place into && arms
stmt_step (Stmt-F.Write entry from) = if_any is_printable_operand from
stmt_step (Stmt-F.Rewrite entry from) = if_any is_printable_operand from
stmt_step (Stmt-F.If cond met unmet) = is_printable_cond cond && all met && all unmet
stmt_step (Stmt-F.Evaluate subject whens other) =
    is_printable_subject subject && all whens && all_if other
stmt_step (Stmt-F.Loop control body) = is_printable_control control && all body
stmt_step (Stmt-F.Perform entry exit control) = is_printable_control control
stmt_step (Stmt-F.GoDepending to on) = is_printable_place on
stmt_step _ = true

-- one level of a statement's arms
abbrev pub arms_step : Arms-F Bool Bool Bool → Bool
arms_step arms = all_if arms.first && all_if arms.second

-- one level of a WHEN
abbrev pub when_step : When-F Bool Bool Bool → Bool
when_step when = all (map is_printable_test when.tests) && all when.stmts

-- a statement
abbrev pub is_printable_stmt : Stmt → Bool
is_printable_stmt = fold-Stmt Bool Bool Bool stmt_step arms_step when_step

-- a statement's arms
abbrev pub are_printable_arms : Arms → Bool
are_printable_arms = fold-Arms Bool Bool Bool stmt_step arms_step when_step

-- a WHEN
abbrev pub is_printable_when : When → Bool
is_printable_when = fold-When Bool Bool Bool stmt_step arms_step when_step

-- these statements can be printed
abbrev pub are_printable_stmts : List Stmt → Bool
are_printable_stmts list = all (map is_printable_stmt list)

-- a sentence
abbrev pub is_printable_sentence : Sentence → Bool
is_printable_sentence sentence = are_printable_stmts sentence.stmts

-- these sentences can be printed
abbrev pub are_printable_sentences : List Sentence → Bool
are_printable_sentences sentences = all (map is_printable_sentence sentences)
