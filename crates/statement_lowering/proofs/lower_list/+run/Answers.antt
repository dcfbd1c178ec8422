use Rattle.std.proofs.Common.{◌≡◌, ℕ, ◌+◌, ◌<◌, ◌≤◌, ◌^◌, ◌-◌, min, Bool, true, false, List, drop, length, map, sum_by, refl, ap, ap₂, sym, ◌∙◌, arith, subst, [], ◌∷◌, ◌++◌, rules}
use Rattle.cob_tree.specs.Places.{stmt_places, when_places}
use Rattle.cob_tree.specs.declared.stmt.Stmt.{Stmt}
use Rattle.std.specs.Prelude.{is_some}
use Rattle.control_flow_theory.specs.language.Control.{control_in, seen, seen_stmts, test_of, always}
use Rattle.control_flow_theory.specs.language.Language as language
use Rattle.control_flow_theory.specs.semantics.Graph as graph
use Rattle.control_flow_theory.specs.lowering.Completes.{cut, whole}
use Rattle.control_flow_theory.specs.lowering.Lower as lower
use Rattle.branch_tree.specs.Tree.{seen_body, seen_tree}
use Rattle.branch_tree.proofs.TreeRows.{seen_jump}
use Rattle.lowering_labels.specs.points.JumpTarget.{seen_target}
use Rattle.lowering_labels.specs.loop_nodes.Loops.{before}
use Rattle.statement_lowering.specs.declared.context.LoweringContext.{LoweringContext}
use Rattle.statement_lowering.specs.declared.context.EscapeTargets.{EscapeTargets}
use Rattle.control_flow_theory.specs.language.OwnItems.{stmt_own, stmts_own, when_own}
use Rattle.statement_lowering.specs.LowerList.{Setting, flow_facts_by, AreEscapeTargets, RunsBy}
use Rattle.statement_lowering.specs.Arms.{if_arms, left_by, when_arms, when_tests, arm_tree, phrase_arms, phrase_places}
use Rattle.statement_lowering.specs.LoopParts.{loop_begun}
use Rattle.statement_lowering.proofs.Bodies.{ends_by, before_nothing}
use Rattle.statement_lowering.proofs.EscapeRows.{built, go_row, depending_row, next_sentence_row, exit_paragraph_row, exit_section_row, exit_perform_row, if_row, evaluate_row, read_row, arith_row, loop_row, never, performs_whole}
use Rattle.lowering_labels.proofs.points_lemmas.SizeLemmas.{sizes-seen}
use Rattle.statement_lowering.proofs.ArmRows.{if_at, two_alone, one_alone, when_step, whens_over, phrase_at}
use Rattle.statement_lowering.proofs.ListRows.{rest_built, rest_step, rest_over}
use Rattle.statement_lowering.proofs.PartRows.{stmts_left, whens_left, stmt_in_own, stmt_in_places, if_own, evaluate_own, read_own, arith_own, loop_own, if_places, evaluate_places, read_places, arith_places, loop_places, when_in_own, when_in_places, phrases_own, some_own, phrases_places}
use Rattle.std.proofs.lemmas.List.{map-append, drop_all}
use Rattle.program_facts.specs.declared.completion.facts.Facts.{Facts}
use Rattle.cob_tree.specs.declared.stmt.When.{out-When}
use Rattle.control_flow_theory.proofs.language_lemmas.Rows.{seen_display, seen_move, seen_set_true, seen_opens, seen_closes, seen_write, seen_rewrite, seen_perform, seen_stop_run, seen_exit, seen_continue}
use Rattle.lowering_labels.specs.loop_nodes.Ends.{AddsArm}
use Rattle.statement_lowering.proofs.PhraseRows.{first_before, first_exact, second_alone}
use Rattle.statement_lowering.proofs.LoopPartRows.{along_to}
use Rattle.control_flow_theory.specs.language.All.{all}
use Rattle.statement_lowering.proofs.lower_list.+run.Goals as goal

-- what is built of a statement in a setting
module _ (telling : LoweringContext) (leaving : EscapeTargets) (s : Setting telling leaving) (place : ℕ) (after : graph.End) (behind : graph.Tree) where
  abbrev tree_by : Stmt → graph.Tree
  tree_by stmt = built telling.files.now telling.returning.now s.place_of s.last place s.theirs after behind (seen s.last stmt)

  -- where it is only an end
  ends_at : (old : language.Stmts) (stmt form : Stmt) (end other : graph.End) → stmt ≡ form → tree_by form ≡ lower.end_alone end → other ≡ end →
      before old (tree_by stmt) ≡ graph.tree old other
  ends_at old stmt form end other is row e = ends_by old (tree_by stmt) end other (ap tree_by is ∙ row) e

  escapes_at : (stmt form : Stmt) → stmt ≡ form → whole (cut (flow_facts_by telling) (seen s.last stmt)) ≡ false → whole (cut (flow_facts_by telling) (seen s.last form)) ≡ false
  escapes_at stmt form is h = sym (ap (λ x. whole (cut (flow_facts_by telling) (seen s.last x))) is) ∙ h

stmts_exact : (stmts : List Stmt) (found : ℕ) → found ≡ min (sum_by stmt_places stmts) (2 ^ 64 - 1) → sum_by stmt_places stmts < 2 ^ 32 → found ≡ sum_by stmt_places stmts
stmts_exact stmts found h lt = omega (arith, h, lt)

left_seen : (leaving : EscapeTargets) (last : ℕ) (theirs : lower.EscapeTargets) (cycle : Bool) → AreEscapeTargets leaving last theirs → seen_target (left_by cycle leaving) ≡ lower.loop_left cycle theirs
left_seen leaving last theirs true h = sym h.cycle
left_seen leaving last theirs false h = sym h.loop

pub run_escape-returns-in-Go : goal.run_escape-returns-in-Go
run_escape-returns-in-Go t c = λ s behind.
    let telling = c.args.context.telling.now in
    ends_at telling c.args.context.leaving.now s c.args.place (seen_target c.args.context.after.now) behind (seen_body c.args.body.now.items) c.args.stmt.now _ _ _ c.in-Go.is
    (go_row telling.files.now telling.returning.now s.place_of s.last c.args.place s.theirs (seen_target c.args.context.after.now) behind c.in-Go.to)
    (seen_jump c.point.result ∙ ap graph.Jump (c.point.ensures ∙ ap lower.point (c.place_of.ensures ∙ s.at c.in-Go.to)))

pub run_escape-returns-in_ok-end-in-GoDepending : goal.run_escape-returns-in_ok-end-in-GoDepending
run_escape-returns-in_ok-end-in-GoDepending t c = λ s behind.
    let telling = c.args.context.telling.now in
    ends_at telling c.args.context.leaving.now s c.args.place (seen_target c.args.context.after.now) behind (seen_body c.args.body.now.items) c.args.stmt.now _ _ _ c.in-GoDepending.is
    (depending_row telling.files.now telling.returning.now s.place_of s.last c.args.place s.theirs (seen_target c.args.context.after.now) behind c.in-GoDepending.to c.in-GoDepending.on)
    (c.in_ok-end-in-GoDepending.ensures telling.files.now telling.returning.now s.place_of s.at
    ∙ ap (λ to. graph.Pick (language.By (language.Depending c.in-GoDepending.on (length to))) (lower.depending (flow_facts_by telling) s.place_of to (seen_target c.args.context.after.now))) c.as_slice.ensures)

pub run_escape-returns-in-NextSentence : goal.run_escape-returns-in-NextSentence
run_escape-returns-in-NextSentence t c = λ s behind.
    let telling = c.args.context.telling.now in
    ends_at telling c.args.context.leaving.now s c.args.place (seen_target c.args.context.after.now) behind (seen_body c.args.body.now.items) c.args.stmt.now _ _ _ c.in-NextSentence.is
    (next_sentence_row telling.files.now telling.returning.now s.place_of s.last c.args.place s.theirs (seen_target c.args.context.after.now) behind)
    (c.end_at.ensures ∙ sym s.leaves.sentence)

pub run_escape-returns-in-ExitParagraph : goal.run_escape-returns-in-ExitParagraph
run_escape-returns-in-ExitParagraph t c = λ s behind.
    let telling = c.args.context.telling.now in
    ends_at telling c.args.context.leaving.now s c.args.place (seen_target c.args.context.after.now) behind (seen_body c.args.body.now.items) c.args.stmt.now _ _ _ c.in-ExitParagraph.is
    (exit_paragraph_row telling.files.now telling.returning.now s.place_of s.last c.args.place s.theirs (seen_target c.args.context.after.now) behind)
    (c.end_at-in-ExitParagraph.ensures ∙ sym s.leaves.paragraph)

pub run_escape-returns-in-ExitSection : goal.run_escape-returns-in-ExitSection
run_escape-returns-in-ExitSection t c = λ s behind.
    let telling = c.args.context.telling.now in
    ends_at telling c.args.context.leaving.now s c.args.place (seen_target c.args.context.after.now) behind (seen_body c.args.body.now.items) c.args.stmt.now _ _ _ c.in-ExitSection.is
    (exit_section_row telling.files.now telling.returning.now s.place_of s.last c.args.place s.theirs (seen_target c.args.context.after.now) behind)
    (c.end_at-in-ExitSection.ensures ∙ sym s.leaves.section)

pub run_escape-returns-in-ExitPerform : goal.run_escape-returns-in-ExitPerform
run_escape-returns-in-ExitPerform t c = λ s behind.
    let telling = c.args.context.telling.now in
    ends_at telling c.args.context.leaving.now s c.args.place (seen_target c.args.context.after.now) behind (seen_body c.args.body.now.items) c.args.stmt.now _ _ _ c.in-ExitPerform.is
    (exit_perform_row telling.files.now telling.returning.now s.place_of s.last c.args.place s.theirs (seen_target c.args.context.after.now) behind c.in-ExitPerform.cycle)
    (c.end_at-in-ExitPerform.ensures ∙ ap seen_target c.loop_left.ensures ∙ left_seen c.args.context.leaving.now s.last s.theirs c.in-ExitPerform.cycle s.leaves)

pub run_escape-returns-in_ok-end-in-If : goal.run_escape-returns-in_ok-end-in-If
run_escape-returns-in_ok-end-in-If t c = λ s behind.
    let telling = c.args.context.telling.now in
    ends_at telling c.args.context.leaving.now s c.args.place (seen_target c.args.context.after.now) behind (seen_body c.args.body.now.items) c.args.stmt.now _ _ _ c.in-If.is
    (if_row telling.files.now telling.returning.now s.place_of s.last c.args.place s.theirs (seen_target c.args.context.after.now) behind c.in-If.cond c.in-If.yes c.in-If.no
    (escapes_at telling c.args.context.leaving.now s c.args.place (seen_target c.args.context.after.now) behind c.args.stmt.now _ c.in-If.is (c.requires.escapes s.last)))
    (c.in_ok-end-in-If.ensures s
    ∙ ap₂ (λ met unmet. graph.Pick (language.If (test_of c.in-If.cond)) (lower.build_arms (flow_facts_by telling) s.place_of false (if_arms met unmet s.last) (c.args.place + 1) s.theirs (seen_target c.args.context.after.now)))
    c.as_slice-met.ensures c.as_slice-unmet.ensures)

pub run_escape-returns-in_ok-end-in-Evaluate : goal.run_escape-returns-in_ok-end-in-Evaluate
run_escape-returns-in_ok-end-in-Evaluate t c = λ s behind.
    let telling = c.args.context.telling.now in
    let own = evaluate_own c.in-Evaluate.subject c.in-Evaluate.whens c.in-Evaluate.other (sym (ap stmt_own c.in-Evaluate.is) ∙ c.requires.own) in
    ends_at telling c.args.context.leaving.now s c.args.place (seen_target c.args.context.after.now) behind (seen_body c.args.body.now.items) c.args.stmt.now _ _ _ c.in-Evaluate.is
    (evaluate_row telling.files.now telling.returning.now s.place_of s.last c.args.place s.theirs (seen_target c.args.context.after.now) behind c.in-Evaluate.subject c.in-Evaluate.whens c.in-Evaluate.other own.0
    (escapes_at telling c.args.context.leaving.now s c.args.place (seen_target c.args.context.after.now) behind c.args.stmt.now _ c.in-Evaluate.is (c.requires.escapes s.last)))
    (c.in_ok-end-in-Evaluate.ensures s
    ∙ ap (λ whens. graph.Pick (language.By (language.Evaluate c.in-Evaluate.subject (when_tests whens) (is_some c.in-Evaluate.other)))
    (lower.build_arms (flow_facts_by telling) s.place_of false (when_arms whens c.in-Evaluate.other s.last) (c.args.place + 1) s.theirs (seen_target c.args.context.after.now)))
    c.as_slice-whens.ensures)

pub run_escape-returns-in_ok-end-in-Read : goal.run_escape-returns-in_ok-end-in-Read
run_escape-returns-in_ok-end-in-Read t c = λ s behind.
    let telling = c.args.context.telling.now in
    ends_at telling c.args.context.leaving.now s c.args.place (seen_target c.args.context.after.now) behind (seen_body c.args.body.now.items) c.args.stmt.now _ _ _ c.in-Read.is
    (read_row telling.files.now telling.returning.now s.place_of s.last c.args.place s.theirs (seen_target c.args.context.after.now) behind c.in-Read.file c.in-Read.into c.in-Read.arms
    (escapes_at telling c.args.context.leaving.now s c.args.place (seen_target c.args.context.after.now) behind c.args.stmt.now _ c.in-Read.is (c.requires.escapes s.last)))
    (c.in_ok-end-in-Read.ensures s)

pub run_escape-returns-in_ok-end-in-Arith : goal.run_escape-returns-in_ok-end-in-Arith
run_escape-returns-in_ok-end-in-Arith t c = λ s behind.
    let telling = c.args.context.telling.now in
    ends_at telling c.args.context.leaving.now s c.args.place (seen_target c.args.context.after.now) behind (seen_body c.args.body.now.items) c.args.stmt.now _ _ _ c.in-Arith.is
    (arith_row telling.files.now telling.returning.now s.place_of s.last c.args.place s.theirs (seen_target c.args.context.after.now) behind c.in-Arith.calc c.in-Arith.into c.in-Arith.arms
    (escapes_at telling c.args.context.leaving.now s c.args.place (seen_target c.args.context.after.now) behind c.args.stmt.now _ c.in-Arith.is (c.requires.escapes s.last)))
    (c.in_ok-end-in-Arith.ensures s)

pub run_escape-returns-in_ok-end-in-Loop : goal.run_escape-returns-in_ok-end-in-Loop
run_escape-returns-in_ok-end-in-Loop t c = λ s behind.
    let telling = c.args.context.telling.now in
    ap (λ x. before (seen_body c.args.body.now.items) (tree_by telling c.args.context.leaving.now s c.args.place (seen_target c.args.context.after.now) behind x)) c.in-Loop.is
    ∙ ap (before (seen_body c.args.body.now.items))
    (loop_row telling.files.now telling.returning.now s.place_of s.last c.args.place s.theirs (seen_target c.args.context.after.now) behind c.in-Loop.control c.in-Loop.turns
    (escapes_at telling c.args.context.leaving.now s c.args.place (seen_target c.args.context.after.now) behind c.args.stmt.now _ c.in-Loop.is (c.requires.escapes s.last))
    ∙ ap (λ turns. loop_begun (flow_facts_by telling) s.place_of (control_in c.in-Loop.control) (seen_stmts s.last turns) c.args.place s.theirs (seen_target c.args.context.after.now)) (sym c.as_slice-turns.ensures))
    ∙ c.in_ok-end-in-Loop.ensures s

-- Along a list.

pub lower_rest-loop-stmt-init : goal.lower_rest-loop-stmt-init
lower_rest-loop-stmt-init t c = (refl, refl, c.requires.own, λ s behind. refl)

pub lower_rest-loop-stmt-preserved : goal.lower_rest-loop-stmt-preserved
lower_rest-loop-stmt-preserved t c =
    let inv = c.loop-stmt.invariant in
    let i = c.loop-stmt.stmt-index in
    let stmts = c.args.stmts.now in
    let stmt = c.stmt-item.result in
    let sums = stmt_in_places stmts i stmt c.loop-stmt-test.true c.stmt-item.is in
    let size : c.stmt_size.result ≡ stmt_places stmt = omega (arith, c.stmt_size.ensures, sums, inv.1, c.requires.fits) in
    let next = c.loop-stmt.here + c.stmt_size.result in (
      omega (arith, inv.0),
      omega (arith, sums, inv.1, size),
      (stmt_in_own stmts i stmt c.loop-stmt-test.true c.stmt-item.is inv.2).1,
      λ s behind.
          inv.3 s behind
          ∙ ap (before (seen_body c.loop-stmt.body.items))
          (rest_step (flow_facts_by c.args.context.telling.now) s.place_of s.last s.theirs (seen_target c.args.context.after.now) behind stmts i stmt c.loop-stmt.here next (seen_target c.jump_target_of-behind.result)
          c.loop-stmt-test.true c.stmt-item.is (ap (λ n. c.loop-stmt.here + n) size)
          (c.jump_target_of-behind.ensures c.args.context.telling.now.files.now c.args.context.telling.now.returning.now s.last s.place_of s.at
          ∙ ap (λ rest. lower.leaf (flow_facts_by c.args.context.telling.now) s.place_of (seen_stmts s.last rest) next (seen_target c.args.context.after.now))
          (c.rest_at.ensures ∙ ap (λ n. drop (n + 1) stmts) inv.0)))
          ∙ subst (λ e. RunsBy c.args.context.telling.now c.args.context.leaving.now stmt c.loop-stmt.here c.jump_target_of-behind.result e c.loop-stmt.body.items c.run_stmt.new.body.items) c.in-None.is c.in_ok-end.ensures s (rest_built (flow_facts_by c.args.context.telling.now) s.place_of s.last s.theirs (seen_target c.args.context.after.now) behind (drop (i + 1) stmts) next),
    )

pub lower_rest-returns : goal.lower_rest-returns
lower_rest-returns t c = λ s behind.
    let over : length c.args.stmts.now ≤ c.loop-stmt.stmt-index = omega (arith, c.loop-stmt-test.false) in
    c.loop-stmt.invariant.3 s behind
    ∙ ap (before (seen_body c.loop-stmt.body.items))
    (rest_over (flow_facts_by c.args.context.telling.now) s.place_of s.last s.theirs (seen_target c.args.context.after.now) behind c.args.stmts.now c.loop-stmt.stmt-index c.loop-stmt.here over)

-- The arms.

pub push_both-returns : goal.push_both-returns
push_both-returns t c = λ s.
    let told = flow_facts_by c.args.context.telling.now in
    two_alone c.args.arms.now c.push_arm.new.arms c.push_arm-2.new.arms _ _ c.requires.none (c.in_ok-push_arm.ensures s) (c.in_ok-push_arm-2.ensures s)
    ∙ sym (if_at told s.place_of s.last s.theirs (seen_target c.args.context.after.now) c.args.met.now c.args.unmet.now (c.args.place + 1) (c.args.place + 1 + c.stmts_size.result)
    (ap (λ n. c.args.place + 1 + n) (stmts_exact c.args.met.now c.stmts_size.result c.stmts_size.ensures (omega (arith, c.requires.fits)) ∙ sym (sizes-seen s.last c.args.met.now))))

pub lower_rest-returns-in-Some : goal.lower_rest-returns-in-Some
lower_rest-returns-in-Some t c =
    let inv = c.loop-stmt.invariant in
    let i = c.loop-stmt.stmt-index in
    let stmts = c.args.stmts.now in
    let stmt = c.stmt-item.result in
    let sums = stmt_in_places stmts i stmt c.loop-stmt-test.true c.stmt-item.is in
    let size : c.stmt_size.result ≡ stmt_places stmt = omega (arith, c.stmt_size.ensures, sums, inv.1, c.requires.fits) in
    let next = c.loop-stmt.here + c.stmt_size.result in
    λ s behind.
    inv.3 s behind
    ∙ ap (before (seen_body c.loop-stmt.body.items))
    (rest_step (flow_facts_by c.args.context.telling.now) s.place_of s.last s.theirs (seen_target c.args.context.after.now) behind stmts i stmt c.loop-stmt.here next (seen_target c.jump_target_of-behind.result)
    c.loop-stmt-test.true c.stmt-item.is (ap (λ n. c.loop-stmt.here + n) size)
    (c.jump_target_of-behind.ensures c.args.context.telling.now.files.now c.args.context.telling.now.returning.now s.last s.place_of s.at
    ∙ ap (λ rest. lower.leaf (flow_facts_by c.args.context.telling.now) s.place_of (seen_stmts s.last rest) next (seen_target c.args.context.after.now))
    (c.rest_at.ensures ∙ ap (λ n. drop (n + 1) stmts) inv.0)))
    ∙ subst (λ e. RunsBy c.args.context.telling.now c.args.context.leaving.now stmt c.loop-stmt.here c.jump_target_of-behind.result e c.loop-stmt.body.items c.run_stmt.new.body.items) c.in-Some.is c.in_ok-end.ensures s
    (rest_built (flow_facts_by c.args.context.telling.now) s.place_of s.last s.theirs (seen_target c.args.context.after.now) behind (drop (i + 1) stmts) next)

pub lower_rest-run_stmt-requires : goal.lower_rest-run_stmt-requires
lower_rest-run_stmt-requires t c =
    let stmts = c.args.stmts.now in
    let sums = stmt_in_places stmts c.loop-stmt.stmt-index c.stmt-item.result c.loop-stmt-test.true c.stmt-item.is in
    let inv = c.loop-stmt.invariant in
    (search (rules, sums, stmts_left c.loop-stmt.stmt-index stmts), ((stmt_in_own stmts c.loop-stmt.stmt-index c.stmt-item.result c.loop-stmt-test.true c.stmt-item.is inv.2).0, omega (arith, sums, inv.1, c.requires.fits)))

-- A statement.

pub run_stmt-run_whole-requires-clause-whole : goal.run_stmt-run_whole-requires-clause-whole
run_stmt-run_whole-requires-clause-whole t c = λ last.
    sym (ap (λ (f : Facts). f.whole) (c.stmt_facts-facts.ensures last)) ∙ c.if-facts.true

pub run_stmt-run_whole-requires-clause-completes : goal.run_stmt-run_whole-requires-clause-completes
run_stmt-run_whole-requires-clause-completes t c = λ last. ap (λ (f : Facts). f.completes) (c.stmt_facts-facts.ensures last)

pub run_stmt-run_escape-requires : goal.run_stmt-run_escape-requires
run_stmt-run_escape-requires t c =
    (search rules, ((λ last. sym (ap (λ (f : Facts). f.whole) (c.stmt_facts-facts.ensures last)) ∙ c.if-facts.false), (c.requires.own, c.requires.fits)))

-- Statements that are whole are no escapes.

pub run_escape-returns-in-Display : goal.run_escape-returns-in-Display
run_escape-returns-in-Display t c = λ s behind. absurd (never (flow_facts_by c.args.context.telling.now) s.last c.args.stmt.now _ _ c.in-Display.is (seen_display s.last c.in-Display.items c.in-Display.advance) refl (c.requires.escapes s.last))

pub run_escape-returns-in-Move : goal.run_escape-returns-in-Move
run_escape-returns-in-Move t c = λ s behind. absurd (never (flow_facts_by c.args.context.telling.now) s.last c.args.stmt.now _ _ c.in-Move.is (seen_move s.last c.in-Move.from c.in-Move.to) refl (c.requires.escapes s.last))

pub run_escape-returns-in-SetTrue : goal.run_escape-returns-in-SetTrue
run_escape-returns-in-SetTrue t c = λ s behind. absurd (never (flow_facts_by c.args.context.telling.now) s.last c.args.stmt.now _ _ c.in-SetTrue.is (seen_set_true s.last c.in-SetTrue.field-0) refl (c.requires.escapes s.last))

pub run_escape-returns-in-Opens : goal.run_escape-returns-in-Opens
run_escape-returns-in-Opens t c = λ s behind. absurd (never (flow_facts_by c.args.context.telling.now) s.last c.args.stmt.now _ _ c.in-Opens.is (seen_opens s.last c.in-Opens.field-0) refl (c.requires.escapes s.last))

pub run_escape-returns-in-Closes : goal.run_escape-returns-in-Closes
run_escape-returns-in-Closes t c = λ s behind. absurd (never (flow_facts_by c.args.context.telling.now) s.last c.args.stmt.now _ _ c.in-Closes.is (seen_closes s.last c.in-Closes.field-0) refl (c.requires.escapes s.last))

pub run_escape-returns-in-Write : goal.run_escape-returns-in-Write
run_escape-returns-in-Write t c = λ s behind. absurd (never (flow_facts_by c.args.context.telling.now) s.last c.args.stmt.now _ _ c.in-Write.is (seen_write s.last c.in-Write.entry c.in-Write.from) refl (c.requires.escapes s.last))

pub run_escape-returns-in-Rewrite : goal.run_escape-returns-in-Rewrite
run_escape-returns-in-Rewrite t c = λ s behind. absurd (never (flow_facts_by c.args.context.telling.now) s.last c.args.stmt.now _ _ c.in-Rewrite.is (seen_rewrite s.last c.in-Rewrite.entry c.in-Rewrite.from) refl (c.requires.escapes s.last))

pub run_escape-returns-in-Perform : goal.run_escape-returns-in-Perform
run_escape-returns-in-Perform t c = λ s behind. absurd (never (flow_facts_by c.args.context.telling.now) s.last c.args.stmt.now _ _ c.in-Perform.is (seen_perform s.last c.in-Perform.entry c.in-Perform.exit c.in-Perform.control) (performs_whole (flow_facts_by c.args.context.telling.now) (control_in c.in-Perform.control) c.in-Perform.entry c.in-Perform.exit) (c.requires.escapes s.last))

pub run_escape-returns-in-StopRun : goal.run_escape-returns-in-StopRun
run_escape-returns-in-StopRun t c = λ s behind. absurd (never (flow_facts_by c.args.context.telling.now) s.last c.args.stmt.now _ _ c.in-StopRun.is (seen_stop_run s.last) refl (c.requires.escapes s.last))

pub run_escape-returns-in-Exit : goal.run_escape-returns-in-Exit
run_escape-returns-in-Exit t c = λ s behind. absurd (never (flow_facts_by c.args.context.telling.now) s.last c.args.stmt.now _ _ c.in-Exit.is (seen_exit s.last) refl (c.requires.escapes s.last))

pub run_escape-returns-in-Continue : goal.run_escape-returns-in-Continue
run_escape-returns-in-Continue t c = λ s behind. absurd (never (flow_facts_by c.args.context.telling.now) s.last c.args.stmt.now _ _ c.in-Continue.is (seen_continue s.last) refl (c.requires.escapes s.last))

pub run_escape-run_if-requires : goal.run_escape-run_if-requires
run_escape-run_if-requires t c =
    let own = if_own c.in-If.cond c.in-If.yes c.in-If.no (sym (ap stmt_own c.in-If.is) ∙ c.requires.own) in
    let places = ap stmt_places c.in-If.is ∙ if_places c.in-If.cond c.in-If.yes c.in-If.no in
    let met = ap (sum_by stmt_places) c.as_slice-met.ensures in
    let unmet = ap (sum_by stmt_places) c.as_slice-unmet.ensures in
    (search (rules, places, met, unmet), (ap stmts_own c.as_slice-met.ensures ∙ own.0, (ap stmts_own c.as_slice-unmet.ensures ∙ own.1, omega (arith, places, met, unmet, c.requires.fits))))

pub run_escape-run_evaluate-requires : goal.run_escape-run_evaluate-requires
run_escape-run_evaluate-requires t c =
    let own = evaluate_own c.in-Evaluate.subject c.in-Evaluate.whens c.in-Evaluate.other (sym (ap stmt_own c.in-Evaluate.is) ∙ c.requires.own) in
    let places = ap stmt_places c.in-Evaluate.is ∙ evaluate_places c.in-Evaluate.subject c.in-Evaluate.whens c.in-Evaluate.other in
    let whens = ap (sum_by when_places) c.as_slice-whens.ensures in
    (search (rules, places, whens), (ap (λ ws. all (map when_own ws)) c.as_slice-whens.ensures ∙ own.1, (own.2, omega (arith, places, whens, c.requires.fits))))

pub run_escape-run_read-requires : goal.run_escape-run_read-requires
run_escape-run_read-requires t c =
    let places = ap stmt_places c.in-Read.is ∙ read_places c.in-Read.file c.in-Read.into c.in-Read.arms in
    (search (rules, places), (read_own c.in-Read.file c.in-Read.into c.in-Read.arms (sym (ap stmt_own c.in-Read.is) ∙ c.requires.own), omega (arith, places, c.requires.fits)))

pub run_escape-run_arith-requires : goal.run_escape-run_arith-requires
run_escape-run_arith-requires t c =
    let places = ap stmt_places c.in-Arith.is ∙ arith_places c.in-Arith.calc c.in-Arith.into c.in-Arith.arms in
    (search (rules, places), (arith_own c.in-Arith.calc c.in-Arith.into c.in-Arith.arms (sym (ap stmt_own c.in-Arith.is) ∙ c.requires.own), omega (arith, places, c.requires.fits)))

-- Choices.

pub run_if-returns-in_ok-end-in-Ok : goal.run_if-returns-in_ok-end-in-Ok
run_if-returns-in_ok-end-in-Ok t c = λ s. c.in_ok-end-in-Ok.ensures ∙ ap (graph.Pick (language.If (test_of c.args.cond.now))) (c.in-Ok.ensures s)

pub run_if-push_both-requires : goal.run_if-push_both-requires
run_if-push_both-requires t c =
    (search rules, (c.new-arms.ensures, (c.requires.met, (c.requires.unmet, c.requires.fits))))

pub run_arith-returns-in_ok-end-in-Ok : goal.run_arith-returns-in_ok-end-in-Ok
run_arith-returns-in_ok-end-in-Ok t c = λ s. c.in_ok-end-in-Ok.ensures ∙ ap (graph.Pick (language.By (language.Arith c.args.calc.now c.args.into.now))) (c.in-Ok.ensures s)

pub run_read-returns-in_ok-end-in-Ok : goal.run_read-returns-in_ok-end-in-Ok
run_read-returns-in_ok-end-in-Ok t c = λ s.
    c.in_ok-end-in-Ok.ensures
    ∙ ap₂ (λ has trees. graph.Pick (language.By (language.Read c.args.file c.args.into.now has)) trees) c.is_some.ensures
    (c.in-Ok.ensures s
    ∙ ap (λ d. lower.build_arms (flow_facts_by c.args.context.telling.now) s.place_of d (phrase_arms c.args.phrases.now s.last) (c.args.place + 1) s.theirs (seen_target c.args.context.after.now)) c.ends_at_end-is_dead.ensures)

pub run_evaluate-returns-in_ok-end-in-Ok : goal.run_evaluate-returns-in_ok-end-in-Ok
run_evaluate-returns-in_ok-end-in-Ok t c = λ s.
    c.in_ok-end-in-Ok.ensures
    ∙ ap₂ (λ has trees. graph.Pick (language.By (language.Evaluate c.args.subject.now (when_tests c.args.whens.now) has)) trees) c.is_some.ensures (c.in-Ok.ensures s)

pub run_evaluate-push_whens-requires : goal.run_evaluate-push_whens-requires
run_evaluate-push_whens-requires t c =
    (search rules, (c.new-arms.ensures, (c.requires.whens, (c.requires.other, c.requires.fits))))

pub push_both-push_arm-requires-2 : goal.push_both-push_arm-requires-2
push_both-push_arm-requires-2 t c =
    let exact = stmts_exact c.args.met.now c.stmts_size.result c.stmts_size.ensures (omega (arith, c.requires.fits)) in
    (search rules, (c.requires.unmet, omega (arith, exact, c.requires.fits)))

-- Arms.

pub push_arm-lower_rest_to-requires : goal.push_arm-lower_rest_to-requires
push_arm-lower_rest_to-requires t c =
    (search rules, (c.requires.own, c.requires.fits))

pub push_arm-returns : goal.push_arm-returns
push_arm-returns t c = λ s.
    let made = arm_tree c.args.context.telling.now c.args.context.leaving.now s c.args.stmts.now c.args.place c.args.context.after.now in
    ap (map seen_tree) c.in_ok-push.ensures.ok ∙ map-append seen_tree c.args.arms.now (c.in_ok-tree.tree ∷ [])
    ∙ ap (λ t. map seen_tree c.args.arms.now ++ t ∷ [])
    (c.in_ok-tree.ensures s ∙ ap (λ l. before (seen_body l) made) c.new.ensures.items ∙ before_nothing made)

pub lower_rest_to-returns-in-Ok : goal.lower_rest_to-returns-in-Ok
lower_rest_to-returns-in-Ok t c = λ s.
    c.body_with_end.ensures ∙ ap (graph.tree (seen_body c.lower_rest.new.body.items)) c.end_or.ensures
    ∙ along_to c.in-Ok.end (seen_body c.args.body.items) (seen_body c.lower_rest.new.body.items)
    (λ behind. lower.build (flow_facts_by c.args.context.telling.now) s.place_of (seen_stmts s.last c.args.stmts.now) c.args.place s.theirs (seen_target c.args.context.after.now) behind) c.args.context.after.now (c.in-Ok.ensures s)

pub push_whens-push_arm-requires : goal.push_whens-push_arm-requires
push_whens-push_arm-requires t c =
    let whens = c.args.whens.now in
    let i = c.loop-when.when-index in
    let when = c.when-item.result in
    let sums = when_in_places whens i when c.loop-when-test.true c.when-item.is in
    let own = (when_in_own whens i when c.loop-when-test.true c.when-item.is c.loop-when.invariant.1).0 in
    let slice = ap (sum_by stmt_places) c.as_slice-stmts.ensures in
    (search (rules, sums, slice, whens_left i whens), (ap stmts_own c.as_slice-stmts.ensures ∙ own, omega (arith, sums, slice, c.loop-when.invariant.0, c.requires.fits)))

pub push_whens-overflow_cast-here : goal.push_whens-overflow_cast-here
push_whens-overflow_cast-here t c =
    let sums = when_in_places c.args.whens.now c.loop-when.when-index c.when-item.result c.loop-when-test.true c.when-item.is in
    omega (arith, c.stmts_size.ensures, sums, ap (sum_by stmt_places) c.as_slice-stmts.ensures, c.loop-when.invariant.0, c.requires.fits)

pub push_whens-overflow_add-here-in-loop-when : goal.push_whens-overflow_add-here-in-loop-when
push_whens-overflow_add-here-in-loop-when t c =
    let sums = when_in_places c.args.whens.now c.loop-when.when-index c.when-item.result c.loop-when-test.true c.when-item.is in
    omega (arith, c.stmts_size.ensures, sums, ap (sum_by stmt_places) c.as_slice-stmts.ensures, c.loop-when.invariant.0, c.requires.fits)

pub push_whens-loop-when-preserved : goal.push_whens-loop-when-preserved
push_whens-loop-when-preserved t c =
    let inv = c.loop-when.invariant in
    let i = c.loop-when.when-index in
    let whens = c.args.whens.now in
    let when = c.when-item.result in
    let sums = when_in_places whens i when c.loop-when-test.true c.when-item.is in
    let slice = ap (sum_by stmt_places) c.as_slice-stmts.ensures in
    let size : c.stmts_size.result ≡ sum_by stmt_places (out-When when).stmts = omega (arith, c.stmts_size.ensures, sums, slice, inv.0, c.requires.fits) in (
      omega (arith, sums, inv.0, size),
      (when_in_own whens i when c.loop-when-test.true c.when-item.is inv.1).1,
      λ s.
          when_step (flow_facts_by c.args.context.telling.now) s.place_of s.last s.theirs (seen_target c.args.context.after.now) whens c.args.other.now i when c.loop-when.here (c.loop-when.here + c.stmts_size.result)
          c.loop-when.arms c.push_arm.new.arms c.loop-when-test.true c.when-item.is
          (ap (λ n. c.loop-when.here + n) (size ∙ sym (sizes-seen s.last (out-When when).stmts)))
          (subst (λ l. AddsArm (arm_tree c.args.context.telling.now c.args.context.leaving.now s l c.loop-when.here c.args.context.after.now) c.loop-when.arms c.push_arm.new.arms) c.as_slice-stmts.ensures (c.in_ok-push_arm.ensures s))
          ∙ inv.2 s,
    )

pub push_whens-push_arm-requires-in-Some : goal.push_whens-push_arm-requires-in-Some
push_whens-push_arm-requires-in-Some t c =
    let over = drop_all c.loop-when.when-index c.args.whens.now (omega (arith, c.loop-when-test.false)) in
    let none = ap (sum_by when_places) over in
    let phrase = ap phrase_places c.in-Some.is in
    let slice = ap (sum_by stmt_places) c.as_slice.ensures in
    (search (rules, phrase, slice), (ap stmts_own c.as_slice.ensures ∙ some_own c.args.other.now c.in-Some.stmts c.in-Some.is c.requires.other, omega (arith, none, phrase, slice, c.loop-when.invariant.0, c.requires.fits)))

pub push_whens-returns-in_ok-push_only-in-None : goal.push_whens-returns-in_ok-push_only-in-None
push_whens-returns-in_ok-push_only-in-None t c = λ s.
    let over : length c.args.whens.now ≤ c.loop-when.when-index = omega (arith, c.loop-when-test.false) in
    whens_over (flow_facts_by c.args.context.telling.now) s.place_of s.last s.theirs (seen_target c.args.context.after.now) c.args.whens.now c.args.other.now c.loop-when.when-index c.loop-when.here c.loop-when.arms c.push_only.new.arms over
    (subst (λ p. AddsArm (phrase_at (flow_facts_by c.args.context.telling.now) s.place_of s.last s.theirs (seen_target c.args.context.after.now) p c.loop-when.here) c.loop-when.arms c.push_only.new.arms) (sym c.in-None.is)
    (subst (λ e. AddsArm (lower.end_alone e) c.loop-when.arms c.push_only.new.arms) c.end_at.ensures c.in_ok-push_only-in-None.ensures))
    ∙ c.loop-when.invariant.2 s

pub push_whens-returns-in_ok-push_arm-in-Some : goal.push_whens-returns-in_ok-push_arm-in-Some
push_whens-returns-in_ok-push_arm-in-Some t c = λ s.
    let over : length c.args.whens.now ≤ c.loop-when.when-index = omega (arith, c.loop-when-test.false) in
    whens_over (flow_facts_by c.args.context.telling.now) s.place_of s.last s.theirs (seen_target c.args.context.after.now) c.args.whens.now c.args.other.now c.loop-when.when-index c.loop-when.here c.loop-when.arms c.push_arm-in-Some.new.arms over
    (subst (λ p. AddsArm (phrase_at (flow_facts_by c.args.context.telling.now) s.place_of s.last s.theirs (seen_target c.args.context.after.now) p c.loop-when.here) c.loop-when.arms c.push_arm-in-Some.new.arms) (sym c.in-Some.is)
    (subst (λ l. AddsArm (arm_tree c.args.context.telling.now c.args.context.leaving.now s l c.loop-when.here c.args.context.after.now) c.loop-when.arms c.push_arm-in-Some.new.arms) c.as_slice.ensures (c.in_ok-push_arm-in-Some.ensures s)))
    ∙ c.loop-when.invariant.2 s

-- Phrases.

pub push_phrases-push_arm-requires : goal.push_phrases-push_arm-requires
push_phrases-push_arm-requires t c =
    let own = (phrases_own c.args.phrases.now c.requires.own).1 in
    let places = phrases_places c.args.phrases.now in
    let second = ap phrase_places c.in-Some-second.is in
    let slice = ap (sum_by stmt_places) c.as_slice.ensures in
    (search (rules, places, second, slice), (ap stmts_own c.as_slice.ensures ∙ some_own c.args.phrases.now.second c.in-Some-second.stmts c.in-Some-second.is own, omega (arith, places, second, slice, c.requires.fits)))

pub push_phrases-overflow_cast-next : goal.push_phrases-overflow_cast-next
push_phrases-overflow_cast-next t c =
    let exact = first_exact c.args.phrases.now (c.args.place + 1) c.stmts_size.result c.in-Some.stmts _ c.in-Some.is c.as_slice-stmts.ensures c.requires.fits c.stmts_size.ensures in
    omega (arith, exact.1)

pub push_phrases-overflow_add-next-in-Some : goal.push_phrases-overflow_add-next-in-Some
push_phrases-overflow_add-next-in-Some t c =
    let exact = first_exact c.args.phrases.now (c.args.place + 1) c.stmts_size.result c.in-Some.stmts _ c.in-Some.is c.as_slice-stmts.ensures c.requires.fits c.stmts_size.ensures in
    omega (arith, exact.1)

pub push_phrases-push_arm-requires-in-Some-second-2 : goal.push_phrases-push_arm-requires-in-Some-second-2
push_phrases-push_arm-requires-in-Some-second-2 t c =
    let exact = first_exact c.args.phrases.now (c.args.place + 1) c.stmts_size.result c.in-Some.stmts _ c.in-Some.is c.as_slice-stmts.ensures c.requires.fits c.stmts_size.ensures in
    let own = (phrases_own c.args.phrases.now c.requires.own).1 in
    let places = phrases_places c.args.phrases.now in
    let second = ap phrase_places c.in-Some-second-2.is in
    let slice = ap (sum_by stmt_places) c.as_slice-in-Some-second-2.ensures in
    (search (rules, places, second, slice), (ap stmts_own c.as_slice-in-Some-second-2.ensures ∙ some_own c.args.phrases.now.second c.in-Some-second-2.stmts c.in-Some-second-2.is own, omega (arith, exact.1, second, slice)))

pub push_phrases-returns-in_ok-push_arm-in-Some-second : goal.push_phrases-returns-in_ok-push_arm-in-Some-second
push_phrases-returns-in_ok-push_arm-in-Some-second t c = λ s.
    second_alone (flow_facts_by c.args.context.telling.now) s.place_of s.last s.theirs (seen_target c.args.context.after.now) c.args.is_dead c.args.phrases.now (c.args.place + 1) c.in-Some-second.stmts _ _
    c.args.arms.now c.push_only.new.arms c.push_arm.new.arms c.requires.none c.in-None.is c.in-Some-second.is c.as_slice.ensures c.missing_end.ensures c.in_ok-push_only-in-None.ensures
    (c.in_ok-push_arm-in-Some-second.ensures s)

pub push_phrases-returns-in_ok-push_only-in-None-second-2 : goal.push_phrases-returns-in_ok-push_only-in-None-second-2
push_phrases-returns-in_ok-push_only-in-None-second-2 t c = λ s.
    let exact = first_exact c.args.phrases.now (c.args.place + 1) c.stmts_size.result c.in-Some.stmts _ c.in-Some.is c.as_slice-stmts.ensures c.requires.fits c.stmts_size.ensures in
    first_before (flow_facts_by c.args.context.telling.now) s.place_of s.last s.theirs (seen_target c.args.context.after.now) c.args.is_dead c.args.phrases.now (c.args.place + 1) (c.args.place + 1 + c.stmts_size.result) c.in-Some.stmts _
    c.args.arms.now c.push_arm-in-Some.new.arms c.push_only-in-None-second-2.new.arms c.requires.none c.in-Some.is c.as_slice-stmts.ensures
    (ap (λ n. c.args.place + 1 + n) (exact.0 ∙ sym (sizes-seen s.last _))) (c.in_ok-push_arm-in-Some.ensures s)
    (subst (λ p. AddsArm (phrase_at (flow_facts_by c.args.context.telling.now) s.place_of s.last s.theirs (seen_target c.args.context.after.now) p (c.args.place + 1 + c.stmts_size.result)) c.push_arm-in-Some.new.arms c.push_only-in-None-second-2.new.arms) (sym c.in-None-second-2.is)
    (subst (λ e. AddsArm (lower.end_alone e) c.push_arm-in-Some.new.arms c.push_only-in-None-second-2.new.arms) c.end_at-in-None-second-2.ensures c.in_ok-push_only-in-None-second-2.ensures))

pub push_phrases-returns-in_ok-push_arm-in-Some-second-2 : goal.push_phrases-returns-in_ok-push_arm-in-Some-second-2
push_phrases-returns-in_ok-push_arm-in-Some-second-2 t c = λ s.
    let exact = first_exact c.args.phrases.now (c.args.place + 1) c.stmts_size.result c.in-Some.stmts _ c.in-Some.is c.as_slice-stmts.ensures c.requires.fits c.stmts_size.ensures in
    first_before (flow_facts_by c.args.context.telling.now) s.place_of s.last s.theirs (seen_target c.args.context.after.now) c.args.is_dead c.args.phrases.now (c.args.place + 1) (c.args.place + 1 + c.stmts_size.result) c.in-Some.stmts _
    c.args.arms.now c.push_arm-in-Some.new.arms c.push_arm-in-Some-second-2.new.arms c.requires.none c.in-Some.is c.as_slice-stmts.ensures
    (ap (λ n. c.args.place + 1 + n) (exact.0 ∙ sym (sizes-seen s.last _))) (c.in_ok-push_arm-in-Some.ensures s)
    (subst (λ p. AddsArm (phrase_at (flow_facts_by c.args.context.telling.now) s.place_of s.last s.theirs (seen_target c.args.context.after.now) p (c.args.place + 1 + c.stmts_size.result)) c.push_arm-in-Some.new.arms c.push_arm-in-Some-second-2.new.arms) (sym c.in-Some-second-2.is)
    (subst (λ l. AddsArm (arm_tree c.args.context.telling.now c.args.context.leaving.now s l (c.args.place + 1 + c.stmts_size.result) c.args.context.after.now) c.push_arm-in-Some.new.arms c.push_arm-in-Some-second-2.new.arms) c.as_slice-in-Some-second-2.ensures (c.in_ok-push_arm-in-Some-second-2.ensures s)))

-- Loops.

pub run_loop-run_once-requires : goal.run_loop-run_once-requires
run_loop-run_once-requires t c =
    (search rules, (c.requires.own, c.requires.fits))

pub run_loop-returns-in_ok-end-in-Once : goal.run_loop-returns-in_ok-end-in-Once
run_loop-returns-in_ok-end-in-Once t c = λ s.
    ap (λ x. before (seen_body c.args.body.now.items) (loop_begun (flow_facts_by c.args.context.telling.now) s.place_of (control_in x) (seen_stmts s.last c.args.turns.now) c.args.place s.theirs (seen_target c.args.context.after.now))) c.in-Once.is
    ∙ ends_by (seen_body c.args.body.now.items) _ _ _ refl (c.in_ok-end-in-Once.ensures s)

pub run_once-push_arm-requires : goal.run_once-push_arm-requires
run_once-push_arm-requires t c =
    (search rules, (c.requires.own, c.requires.fits))

pub run_once-returns-in-Ok : goal.run_once-returns-in-Ok
run_once-returns-in-Ok t c = λ s.
    c.pick_always.ensures
    ∙ ap (graph.Pick (language.If (language.Holds always))) (one_alone c.new-arms.result c.push_arm.new.arms _ c.new-arms.ensures (c.in-Ok.ensures s))

pub run_escape-run_loop-requires : goal.run_escape-run_loop-requires
run_escape-run_loop-requires t c =
    let own = loop_own c.in-Loop.control c.in-Loop.turns (sym (ap stmt_own c.in-Loop.is) ∙ c.requires.own) in
    let places = ap stmt_places c.in-Loop.is ∙ loop_places c.in-Loop.control c.in-Loop.turns in
    let turns = ap (sum_by stmt_places) c.as_slice-turns.ensures in
    (search (rules, places, turns), (ap stmts_own c.as_slice-turns.ensures ∙ own.1, (own.0, omega (arith, places, turns, c.requires.fits))))

pub push_phrases-push_arm-requires-in-Some : goal.push_phrases-push_arm-requires-in-Some
push_phrases-push_arm-requires-in-Some t c =
    let own = (phrases_own c.args.phrases.now c.requires.own).0 in
    let places = phrases_places c.args.phrases.now in
    let first = ap phrase_places c.in-Some.is in
    let slice = ap (sum_by stmt_places) c.as_slice-stmts.ensures in
    (search (rules, places, first, slice), (ap stmts_own c.as_slice-stmts.ensures ∙ some_own c.args.phrases.now.first c.in-Some.stmts c.in-Some.is own, omega (arith, places, first, slice, c.requires.fits)))
