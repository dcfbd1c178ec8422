-- Statements as control sees them, row by row.
use Rattle.std.proofs.Common.{◌≡◌, ℕ, Bool, true, false, List, map, Option, Some, None, is_some, length, refl, ap, sym, ◌∙◌}
use Rattle.cob_tree.specs.declared.calc.Calc.{Calc}
use Rattle.cob_tree.specs.declared.calc.Target.{Target}
use Rattle.cob_tree.specs.declared.choice.Subject.{Subject}
use Rattle.cob_tree.specs.declared.cond.Cond.{Cond}
use Rattle.cob_tree.specs.declared.control.Control.{Control}
use Rattle.cob_tree.specs.declared.file.Opening.{Opening}
use Rattle.cob_tree.specs.declared.place.Operand.{Operand}
use Rattle.cob_tree.specs.declared.place.Place.{Place}
use Rattle.cob_tree.specs.declared.stmt.Arms.{Arms, fold_out-Arms, out-Arms, map-Arms}
use Rattle.cob_tree.specs.declared.stmt.When.{When, fold_out-When, out-When}
use Rattle.cob_tree.specs.declared.stmt.Stmt.{Stmt, fold-roll-Stmt}
use Rattle.cob_tree.specs.declared.stmt.Stmt.TheOpen.{Stmt-F}
use Rattle.cob_tree.specs.declared.stmt.Stmt.TheVariants.{Display, rolls-Display, Move, rolls-Move, SetTrue, rolls-SetTrue, Opens, rolls-Opens, Closes, rolls-Closes, Write, rolls-Write, Rewrite, rolls-Rewrite, If, rolls-If, Evaluate, rolls-Evaluate, Loop, rolls-Loop, Perform, rolls-Perform, Go, rolls-Go, GoDepending, rolls-GoDepending, NextSentence, rolls-NextSentence, StopRun, rolls-StopRun, Exit, rolls-Exit, ExitParagraph, rolls-ExitParagraph, ExitSection, rolls-ExitSection, ExitPerform, rolls-ExitPerform, Continue, rolls-Continue, Arith, rolls-Arith, Read, rolls-Read}
use Rattle.control_flow_theory.specs.language.Language as language
use Rattle.control_flow_theory.specs.language.Control.{test_of, move_of, evaluate_of, arith_stmt, control_in, loop_of, perform_of, arm_before, else_of, Branch, branches_before, tests_of, Both, both_arms, both_step, branch_step, seen_step, seen, seen_when, seen_both, seen_stmts}

-- statements that may be absent
abbrev pub seen_if_any : ℕ → Option (List Stmt) → Option language.Stmts
seen_if_any last None = None
seen_if_any last (Some stmts) = Some (seen_stmts last stmts)

pub seen_display : (last : ℕ) (items : List Operand) (advance : Bool) → seen last (Display items advance) ≡ language.Do (language.Own (Display items advance))
seen_display last items advance =
    ap (seen last) (sym (rolls-Display items advance)) ∙ fold-roll-Stmt language.Stmt Both Branch (seen_step last) both_step branch_step (Stmt-F.Display items advance)

pub seen_move : (last : ℕ) (from : Operand) (to : List Place) → seen last (Move from to) ≡ language.Do (move_of from to)
seen_move last from to =
    ap (seen last) (sym (rolls-Move from to)) ∙ fold-roll-Stmt language.Stmt Both Branch (seen_step last) both_step branch_step (Stmt-F.Move from to)

pub seen_set_true : (last : ℕ) (place : Place) → seen last (SetTrue place) ≡ language.Do (language.Own (SetTrue place))
seen_set_true last place =
    ap (seen last) (sym (rolls-SetTrue place)) ∙ fold-roll-Stmt language.Stmt Both Branch (seen_step last) both_step branch_step (Stmt-F.SetTrue place)

pub seen_opens : (last : ℕ) (openings : List Opening) → seen last (Opens openings) ≡ language.Do (language.Own (Opens openings))
seen_opens last openings =
    ap (seen last) (sym (rolls-Opens openings)) ∙ fold-roll-Stmt language.Stmt Both Branch (seen_step last) both_step branch_step (Stmt-F.Opens openings)

pub seen_closes : (last : ℕ) (files : List ℕ) → seen last (Closes files) ≡ language.Do (language.Own (Closes files))
seen_closes last files =
    ap (seen last) (sym (rolls-Closes files)) ∙ fold-roll-Stmt language.Stmt Both Branch (seen_step last) both_step branch_step (Stmt-F.Closes files)

pub seen_write : (last : ℕ) (entry : ℕ) (from : Option Operand) → seen last (Write entry from) ≡ language.Do (language.Own (Write entry from))
seen_write last entry from =
    ap (seen last) (sym (rolls-Write entry from)) ∙ fold-roll-Stmt language.Stmt Both Branch (seen_step last) both_step branch_step (Stmt-F.Write entry from)

pub seen_rewrite : (last : ℕ) (entry : ℕ) (from : Option Operand) → seen last (Rewrite entry from) ≡ language.Do (language.Own (Rewrite entry from))
seen_rewrite last entry from =
    ap (seen last) (sym (rolls-Rewrite entry from)) ∙ fold-roll-Stmt language.Stmt Both Branch (seen_step last) both_step branch_step (Stmt-F.Rewrite entry from)

pub seen_if : (last : ℕ) (cond : Cond) (met unmet : List Stmt) → seen last (If cond met unmet) ≡ language.Choose (language.If (test_of cond)) (language.given (seen_stmts last met) (arm_before (else_of (map (seen last) unmet)) language.done))
seen_if last cond met unmet =
    ap (seen last) (sym (rolls-If cond met unmet)) ∙ fold-roll-Stmt language.Stmt Both Branch (seen_step last) both_step branch_step (Stmt-F.If cond met unmet)

evaluate_some : (last : ℕ) (subject : Subject) (whens : List When) (other : List Stmt) → seen last (Evaluate subject whens (Some other)) ≡ language.Choose (evaluate_of subject (tests_of (map (seen_when last) whens)) true) (branches_before (map (seen_when last) whens) (language.given (seen_stmts last other) language.done))
evaluate_some last subject whens other =
    ap (seen last) (sym (rolls-Evaluate subject whens (Some other))) ∙ fold-roll-Stmt language.Stmt Both Branch (seen_step last) both_step branch_step (Stmt-F.Evaluate subject whens (Some other))

evaluate_none : (last : ℕ) (subject : Subject) (whens : List When) → seen last (Evaluate subject whens None) ≡ language.Choose (evaluate_of subject (tests_of (map (seen_when last) whens)) false) (branches_before (map (seen_when last) whens) (language.missing language.done))
evaluate_none last subject whens =
    ap (seen last) (sym (rolls-Evaluate subject whens None)) ∙ fold-roll-Stmt language.Stmt Both Branch (seen_step last) both_step branch_step (Stmt-F.Evaluate subject whens None)

pub seen_evaluate : (last : ℕ) (subject : Subject) (whens : List When) (other : Option (List Stmt)) → seen last (Evaluate subject whens other) ≡ language.Choose (evaluate_of subject (tests_of (map (seen_when last) whens)) (is_some other)) (branches_before (map (seen_when last) whens) (arm_before (seen_if_any last other) language.done))
seen_evaluate last subject whens None = evaluate_none last subject whens
seen_evaluate last subject whens (Some other) = evaluate_some last subject whens other

pub seen_loop : (last : ℕ) (control : Control) (body : List Stmt) → seen last (Loop control body) ≡ loop_of (control_in control) (seen_stmts last body)
seen_loop last control body =
    ap (seen last) (sym (rolls-Loop control body)) ∙ fold-roll-Stmt language.Stmt Both Branch (seen_step last) both_step branch_step (Stmt-F.Loop control body)

pub seen_perform : (last : ℕ) (entry exit : ℕ) (control : Control) → seen last (Perform entry exit control) ≡ perform_of (control_in control) entry exit
seen_perform last entry exit control =
    ap (seen last) (sym (rolls-Perform entry exit control)) ∙ fold-roll-Stmt language.Stmt Both Branch (seen_step last) both_step branch_step (Stmt-F.Perform entry exit control)

pub seen_go : (last : ℕ) (to : ℕ) → seen last (Go to) ≡ language.Go to
seen_go last to =
    ap (seen last) (sym (rolls-Go to)) ∙ fold-roll-Stmt language.Stmt Both Branch (seen_step last) both_step branch_step (Stmt-F.Go to)

pub seen_go_depending : (last : ℕ) (to : List ℕ) (on : Place) → seen last (GoDepending to on) ≡ language.GoDepending to (language.Depending on (length to))
seen_go_depending last to on =
    ap (seen last) (sym (rolls-GoDepending to on)) ∙ fold-roll-Stmt language.Stmt Both Branch (seen_step last) both_step branch_step (Stmt-F.GoDepending to on)

pub seen_next_sentence : (last : ℕ) → seen last NextSentence ≡ language.NextSentence
seen_next_sentence last =
    ap (seen last) (sym rolls-NextSentence) ∙ fold-roll-Stmt language.Stmt Both Branch (seen_step last) both_step branch_step Stmt-F.NextSentence

pub seen_stop_run : (last : ℕ) → seen last StopRun ≡ language.StopRun
seen_stop_run last =
    ap (seen last) (sym rolls-StopRun) ∙ fold-roll-Stmt language.Stmt Both Branch (seen_step last) both_step branch_step Stmt-F.StopRun

pub seen_exit : (last : ℕ) → seen last Exit ≡ language.Do (language.Own Exit)
seen_exit last =
    ap (seen last) (sym rolls-Exit) ∙ fold-roll-Stmt language.Stmt Both Branch (seen_step last) both_step branch_step Stmt-F.Exit

pub seen_exit_paragraph : (last : ℕ) → seen last ExitParagraph ≡ language.ExitParagraph
seen_exit_paragraph last =
    ap (seen last) (sym rolls-ExitParagraph) ∙ fold-roll-Stmt language.Stmt Both Branch (seen_step last) both_step branch_step Stmt-F.ExitParagraph

pub seen_exit_section : (last : ℕ) → seen last ExitSection ≡ language.ExitSection last
seen_exit_section last =
    ap (seen last) (sym rolls-ExitSection) ∙ fold-roll-Stmt language.Stmt Both Branch (seen_step last) both_step branch_step Stmt-F.ExitSection

pub seen_exit_perform : (last : ℕ) (cycle : Bool) → seen last (ExitPerform cycle) ≡ language.ExitPerform cycle
seen_exit_perform last cycle =
    ap (seen last) (sym (rolls-ExitPerform cycle)) ∙ fold-roll-Stmt language.Stmt Both Branch (seen_step last) both_step branch_step (Stmt-F.ExitPerform cycle)

pub seen_continue : (last : ℕ) → seen last Continue ≡ language.Do (language.Own Continue)
seen_continue last =
    ap (seen last) (sym rolls-Continue) ∙ fold-roll-Stmt language.Stmt Both Branch (seen_step last) both_step branch_step Stmt-F.Continue

pub seen_when_is : (last : ℕ) (when : When) → seen_when last when ≡ record { tests = (out-When when).tests; arm = seen_stmts last (out-When when).stmts }
seen_when_is last when = fold_out-When language.Stmt Both Branch (seen_step last) both_step branch_step when

both_fields : (last : ℕ) (first second : Option (List Stmt)) → both_step (map-Arms Stmt Arms When language.Stmt Both Branch (seen last) (seen_both last) (seen_when last) (record { first = first; second = second })) ≡ record { first = seen_if_any last first; second = seen_if_any last second }
both_fields last None None = refl
both_fields last None (Some b) = refl
both_fields last (Some a) None = refl
both_fields last (Some a) (Some b) = refl

pub seen_both_is : (last : ℕ) (arms : Arms) → seen_both last arms ≡ record { first = seen_if_any last (out-Arms arms).first; second = seen_if_any last (out-Arms arms).second }
seen_both_is last arms =
    fold_out-Arms language.Stmt Both Branch (seen_step last) both_step branch_step arms ∙ both_fields last (out-Arms arms).first (out-Arms arms).second

pub seen_arith : (last : ℕ) (calc : Calc) (into : List Target) (arms : Arms) → seen last (Arith calc into arms) ≡ arith_stmt calc into (seen_both last arms)
seen_arith last calc into arms =
    ap (seen last) (sym (rolls-Arith calc into arms)) ∙ fold-roll-Stmt language.Stmt Both Branch (seen_step last) both_step branch_step (Stmt-F.Arith calc into arms)

pub seen_read : (last : ℕ) (file : ℕ) (into : Option Place) (arms : Arms) → seen last (Read file into arms) ≡ language.Choose (language.By (language.Read file into (is_some (seen_both last arms).first))) (both_arms (seen_both last arms))
seen_read last file into arms =
    ap (seen last) (sym (rolls-Read file into arms)) ∙ fold-roll-Stmt language.Stmt Both Branch (seen_step last) both_step branch_step (Stmt-F.Read file into arms)
