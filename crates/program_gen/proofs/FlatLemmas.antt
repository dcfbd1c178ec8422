-- Of a generated program only the first paragraph performs, and nothing leads to that one.
use Rattle.std.proofs.Common.{◌≡◌, ℕ, zero, suc, ◌+◌, ◌*◌, ◌-◌, ◌≤◌, true, false, List, [], ◌∷◌, ◌++◌, None, slice_get, map, ap, sym, ◌∙◌, subst, arith}
use Rattle.cob_tree.specs.declared.calc.Calc.TheVariants as calcs
use Rattle.cob_tree.specs.declared.calc.Target.{Target}
use Rattle.cob_tree.specs.declared.cond.Cond.TheVariants.{Relation}
use Rattle.cob_tree.specs.declared.cond.Rel.TheVariants.{Less}
use Rattle.cob_tree.specs.declared.control.Control.TheVariants.{Once}
use Rattle.cob_tree.specs.declared.place.Expr.TheVariants.{Leaf}
use Rattle.cob_tree.specs.declared.place.Operand.TheVariants as operands
use Rattle.cob_tree.specs.declared.program.Sentence.{Sentence}
use Rattle.cob_tree.specs.declared.stmt.Arms.{Arms, roll-Arms, fold-roll-Arms}
use Rattle.cob_tree.specs.declared.stmt.Stmt.TheVariants as stmts
use Rattle.control_flow_theory.specs.language.Language.{Stmt, Paragraph, Choose, If, given, missing, done, also, none, unless_absent}
use Rattle.control_flow_theory.specs.language.Language as language
use Rattle.control_flow_theory.specs.language.Items.{Do, SentenceEnd, items_of}
use Rattle.control_flow_theory.specs.language.Control.{arith_of, arith_stmt, Both, Branch, test_of, seen, seen_both, seen_step, both_step, branch_step, seen_sentence, seen_paragraph, seen_paragraphs, section_last, control_of}
use Rattle.control_flow_theory.proofs.language_lemmas.Rows.{seen_display, seen_if, seen_perform, seen_go, seen_stop_run, seen_exit, seen_arith}
use Rattle.program_gen.specs.Generated.{next_of, picked, counter, whole, count_one, jump_below, sentence, jumping, leaving, groups_of, perform_group, performs_of, main_of, generated}
use Rattle.program_gen.proofs.QuietLemmas.{Quiet, ends, acts, picks, Fit, quiet, performs, stops, AllQuiet, AllFit, IsFlat}

-- ---- the statements

abbrev bare : Arms
bare = roll-Arms (record { first = None; second = None })

bare-is : (last : ℕ) → seen_both last bare ≡ record { first = None; second = None }
bare-is last = fold-roll-Arms language.Stmt Both Branch (seen_step last) both_step branch_step (record { first = None; second = None })

count-quiet : (last : ℕ) → Quiet (Do (seen last count_one))
count-quiet last =
    let calc = calcs.Add (operands.Number (whole 1) ∷ []) in
    let into : List Target = record { place = counter; rounded = false } ∷ [] in
    let is : seen last count_one ≡ language.Do (arith_of calc into) = seen_arith last calc into bare ∙ ap (λ both. arith_stmt calc into both) (bare-is last) in
    subst (λ s. Quiet (Do s)) (sym is) (acts (arith_of calc into))

jump-quiet : (last bound to : ℕ) → 1 ≤ to → Quiet (Do (seen last (jump_below bound to)))
jump-quiet last bound to later =
    let below = Relation (Leaf (operands.Place counter)) Less (Leaf (operands.Number (whole bound))) in
    let is : seen last (jump_below bound to) ≡ Choose (If (test_of below)) (given (also (language.Go to) none) (missing done)) =
    seen_if last below (stmts.Go to ∷ []) [] ∙ ap (λ s. Choose (If (test_of below)) (given (also s none) (missing done))) (seen_go last to)
    in
    subst (λ s. Quiet (Do s)) (sym is) (picks (test_of below) to later)

exit-quiet : (last : ℕ) → Quiet (Do (seen last stmts.Exit))
exit-quiet last = subst (λ s. Quiet (Do s)) (sym (seen_exit last)) (acts (language.Own stmts.Exit))

perform-fit : (last group : ℕ) → 1 ≤ group → Fit (Do (seen last (perform_group group)))
perform-fit last group some =
    subst (λ s. Fit (Do s)) (sym (seen_perform last (4 * group - 3) (4 * group) Once))
    (performs (4 * group - 3) (4 * group) (omega (arith, some)))

display-fit : (last : ℕ) → Fit (Do (seen last (stmts.Display (operands.Place counter ∷ []) true)))
display-fit last =
    let shown = operands.Place counter ∷ [] in
    subst (λ s. Fit (Do s)) (sym (seen_display last shown true))
    (quiet (Do (language.Do (language.Own (stmts.Display shown true)))) (acts (language.Own (stmts.Display shown true))))

stop-fit : (last : ℕ) → Fit (Do (seen last stmts.StopRun))
stop-fit last = subst (λ s. Fit (Do s)) (sym (seen_stop_run last)) stops

-- ---- the paragraphs

abbrev IsQuiet : Paragraph → Type 0
IsQuiet paragraph = AllQuiet (items_of paragraph)

abbrev AreQuiet : List Paragraph → Type 0
AreQuiet [] = Unit {0}
AreQuiet (paragraph ∷ others) = IsQuiet paragraph × AreQuiet others

jumping-quiet : (last group number x : ℕ) → 1 ≤ group → IsQuiet (seen_paragraph last (jumping group number x))
jumping-quiet last group number x some =
    (count-quiet last, (ends, (jump-quiet last (10 * group) (4 * group - 4 + picked x) (omega arith), (ends, tt))))

leaving-quiet : (last group : ℕ) → IsQuiet (seen_paragraph last (leaving group))
leaving-quiet last group = (exit-quiet last, (ends, tt))

groups-quiet : (count group x number : ℕ) → 1 ≤ group → AreQuiet (seen_paragraphs number (groups_of count group x))
groups-quiet zero group x number some = tt
groups-quiet (suc count) group x number some = (
  jumping-quiet _ group 1 (next_of x) some,
  (
    jumping-quiet _ group 2 (next_of (next_of x)) some,
    (
      jumping-quiet _ group 3 (next_of (next_of (next_of x))) some,
      (leaving-quiet _ group, groups-quiet count (suc group) (next_of (next_of (next_of x))) _ (omega arith)),
    ),
  ),
)

quiet-at : (paragraphs : List Paragraph) → AreQuiet paragraphs → (number : ℕ) → AllQuiet (items_of (unless_absent (slice_get paragraphs number)))
quiet-at [] all number = tt
quiet-at (paragraph ∷ others) all zero = all.0
quiet-at (paragraph ∷ others) all (suc number) = quiet-at others all.1 number

performs-fit : (last count group : ℕ) (others : List Sentence) → 1 ≤ group → AllFit (items_of (map (seen_sentence last) others)) → AllFit (items_of (map (seen_sentence last) (performs_of count group ++ others)))
performs-fit last zero group others some h = h
performs-fit last (suc count) group others some h =
    (perform-fit last group some, (quiet SentenceEnd ends, performs-fit last count (suc group) others (omega arith) h))

main-fit : (last n : ℕ) → AllFit (items_of (seen_paragraph last (main_of n)))
main-fit last n =
    performs-fit last n 1 (sentence (stmts.Display (operands.Place counter ∷ []) true) ∷ sentence stmts.StopRun ∷ []) (omega arith)
    (display-fit last, (quiet SentenceEnd ends, (stop-fit last, (quiet SentenceEnd ends, tt))))

later-quiet : (n number : ℕ) → 1 ≤ number → AllQuiet (items_of (unless_absent (slice_get (control_of (generated n)).paragraphs number)))
later-quiet n zero later = absurd (omega (arith, later))
later-quiet n (suc number) later = quiet-at (seen_paragraphs 1 (groups_of n 1 n)) (groups-quiet n 1 n 1 (omega arith)) number

pub flat : (n : ℕ) → IsFlat (control_of (generated n))
flat n = record { first = main-fit (section_last 0 (groups_of n 1 n)) n; later = later-quiet n }
