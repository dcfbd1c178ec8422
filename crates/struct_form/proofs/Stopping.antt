-- A statement is STOP RUN where its control is.
use Rattle.std.proofs.Common.{◌≡◌, ℕ, Bool, true, false, List, [], ◌∷◌, map, length, ◌-◌, slice_get, Option, Some, None, refl, ap, sym, ◌∙◌}
use native.Mathlib.Numerals.{unary_clauses}
use Rattle.cob_tree.specs.declared.calc.Calc.{Calc}
use Rattle.cob_tree.specs.declared.calc.Target.{Target}
use Rattle.cob_tree.specs.declared.stmt.Arms.{Arms}
use Rattle.cob_tree.specs.declared.stmt.When.{When}
use Rattle.cob_tree.specs.declared.stmt.Stmt.{Stmt, map-Stmt, roll-Stmt, out-Stmt, roll-out-Stmt, fold_out-Stmt}
use Rattle.cob_tree.specs.declared.stmt.Stmt.TheOpen.{Stmt-F}
use Rattle.cob_tree.specs.declared.stmt.Stmt.TheVariants.{StopRun, rolls-Display, rolls-Move, rolls-Arith, rolls-SetTrue, rolls-Opens, rolls-Closes, rolls-Read, rolls-Write, rolls-Rewrite, rolls-If, rolls-Evaluate, rolls-Loop, rolls-Perform, rolls-Go, rolls-GoDepending, rolls-NextSentence, rolls-StopRun, rolls-Exit, rolls-ExitParagraph, rolls-ExitSection, rolls-ExitPerform, rolls-Continue}
use Rattle.control_flow_theory.specs.language.Language as language
use Rattle.control_flow_theory.specs.language.Control.{arith_stmt, control_in, loop_of, perform_of, Branch, Both, both_step, branch_step, seen_step, seen, seen_when, seen_both, seen_stmts, stmts_of}
use Rattle.control_flow_theory.specs.language.Structured.{EndsInStop}
use Rattle.struct_form.specs.Stops.{is_stop, ends_in_stop}

abbrev stop_seen : language.Stmt → Bool
stop_seen language.StopRun = true
stop_seen _ = false

arith-goes_on : (calc : Calc) (into : List Target) (first second : Option language.Stmts) → false ≡ stop_seen (arith_stmt calc into (record { first = first; second = second }))
arith-goes_on calc into None None = refl
arith-goes_on calc into None (Some second) = refl
arith-goes_on calc into (Some first) None = refl
arith-goes_on calc into (Some first) (Some second) = refl

loop-goes_on : (turns : Option language.Control) (body : language.Stmts) → false ≡ stop_seen (loop_of turns body)
loop-goes_on None body = refl
loop-goes_on (Some turns) body = refl

perform-goes_on : (turns : Option language.Control) (entry exit : ℕ) → false ≡ stop_seen (perform_of turns entry exit)
perform-goes_on None entry exit = refl
perform-goes_on (Some turns) entry exit = refl

module _ (last : ℕ) where
  abbrev shown : Stmt-F Stmt Arms When → language.Stmt
  shown y = seen_step last (map-Stmt Stmt Arms When language.Stmt Both Branch (seen last) (seen_both last) (seen_when last) y)

  stop-shown : (y : Stmt-F Stmt Arms When) → is_stop (roll-Stmt y) ≡ stop_seen (shown y)
  stop-shown (Stmt-F.Display items advance) = ap is_stop (rolls-Display items advance)
  stop-shown (Stmt-F.Move from to) = ap is_stop (rolls-Move from to)
  stop-shown (Stmt-F.Arith calc into arms) = ap is_stop (rolls-Arith calc into arms) ∙ arith-goes_on calc into (seen_both last arms).first (seen_both last arms).second
  stop-shown (Stmt-F.SetTrue place) = ap is_stop (rolls-SetTrue place)
  stop-shown (Stmt-F.Opens openings) = ap is_stop (rolls-Opens openings)
  stop-shown (Stmt-F.Closes files) = ap is_stop (rolls-Closes files)
  stop-shown (Stmt-F.Read file into arms) = ap is_stop (rolls-Read file into arms)
  stop-shown (Stmt-F.Write entry from) = ap is_stop (rolls-Write entry from)
  stop-shown (Stmt-F.Rewrite entry from) = ap is_stop (rolls-Rewrite entry from)
  stop-shown (Stmt-F.If cond met unmet) = ap is_stop (rolls-If cond met unmet)
  stop-shown (Stmt-F.Evaluate subject whens other) = ap is_stop (rolls-Evaluate subject whens other)
  stop-shown (Stmt-F.Loop turns body) = ap is_stop (rolls-Loop turns body) ∙ loop-goes_on (control_in turns) (stmts_of (map (seen last) body))
  stop-shown (Stmt-F.Perform entry exit turns) = ap is_stop (rolls-Perform entry exit turns) ∙ perform-goes_on (control_in turns) entry exit
  stop-shown (Stmt-F.Go to) = ap is_stop (rolls-Go to)
  stop-shown (Stmt-F.GoDepending to on) = ap is_stop (rolls-GoDepending to on)
  stop-shown Stmt-F.NextSentence = ap is_stop rolls-NextSentence
  stop-shown Stmt-F.StopRun = ap is_stop rolls-StopRun
  stop-shown Stmt-F.Exit = ap is_stop rolls-Exit
  stop-shown Stmt-F.ExitParagraph = ap is_stop rolls-ExitParagraph
  stop-shown Stmt-F.ExitSection = ap is_stop rolls-ExitSection
  stop-shown (Stmt-F.ExitPerform cycle) = ap is_stop (rolls-ExitPerform cycle)
  stop-shown Stmt-F.Continue = ap is_stop rolls-Continue

  stop-agrees : (stmt : Stmt) → is_stop stmt ≡ stop_seen (seen last stmt)
  stop-agrees stmt =
      ap is_stop (sym (roll-out-Stmt stmt)) ∙ stop-shown (out-Stmt stmt) ∙ ap stop_seen (sym (fold_out-Stmt language.Stmt Both Branch (seen_step last) both_step branch_step stmt))

  is-stop : (stmt : language.Stmt) → stop_seen stmt ≡ true → stmt ≡ language.StopRun
  is-stop language.StopRun e = refl
  is-stop _ e = cc

  pub stops-seen : (stmts : List Stmt) → ends_in_stop stmts ≡ true → EndsInStop (seen_stmts last stmts)
  stops-seen [] e = cc
  stops-seen (stmt ∷ []) e = is-stop (seen last stmt) (sym (stop-agrees stmt) ∙ e)
  stops-seen (stmt ∷ next ∷ stmts) e = stops-seen (next ∷ stmts) e

  pub stops-tested : (stmts : List Stmt) → EndsInStop (seen_stmts last stmts) → ends_in_stop stmts ≡ true
  stops-tested [] h = absurd h
  stops-tested (stmt ∷ []) h = stop-agrees stmt ∙ ap stop_seen h
  stops-tested (stmt ∷ next ∷ stmts) h = stops-tested (next ∷ stmts) h

-- the last of them decides

stops-at_last : (first : Stmt) (stmts : List Stmt) (stmt : Stmt) → Some stmt ≡ slice_get (first ∷ stmts) (length stmts) → is_stop stmt ≡ ends_in_stop (first ∷ stmts)
stops-at_last first [] stmt e = let same : stmt ≡ first = cc in ap is_stop same
stops-at_last first (next ∷ stmts) stmt e = stops-at_last next stmts stmt e

pub stops-by_last : (stmts : List Stmt) (stmt : Stmt) → Some stmt ≡ slice_get stmts (length stmts - 1) → is_stop stmt ≡ ends_in_stop stmts
stops-by_last [] stmt e = cc
stops-by_last (first ∷ stmts) stmt e = stops-at_last first stmts stmt (simp unary_clauses at e)

none-at_last : (first : Stmt) (stmts : List Stmt) → None ≡ slice_get (first ∷ stmts) (length stmts) → false ≡ ends_in_stop (first ∷ stmts)
none-at_last first [] e = cc
none-at_last first (next ∷ stmts) e = none-at_last next stmts e

pub stops-none : (stmts : List Stmt) → None ≡ slice_get stmts (length stmts - 1) → false ≡ ends_in_stop stmts
stops-none [] e = refl
stops-none (first ∷ stmts) e = none-at_last first stmts (simp unary_clauses at e)

pub not-stop : (stmt : Stmt) → (stmt ≡ StopRun → ⊥) → false ≡ is_stop stmt
not-stop StopRun h = absurd (h refl)
not-stop _ h = refl
