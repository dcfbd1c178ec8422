use Rattle.std.proofs.Common.{◌≤◌, ◌+◌, ◌∙◌, ℕ, true, false, List, Some, None, drop, length, slice_get, is_some, refl, ap, sym, subst, arith}
use Rattle.cob_tree.specs.declared.stmt.Arms.{out-Arms}
use Rattle.cob_tree.specs.declared.stmt.When.{When}
use Rattle.cob_tree.specs.declared.stmt.Stmt.TheVariants as tree
use Rattle.control_flow_theory.specs.language.Language.{also, none, Stmt, Choose, If, Holds, given, done, Loop, Nested, Go, GoDepending, Depending, NextSentence, StopRun, ExitParagraph, ExitSection, ExitPerform, Own}
use Rattle.control_flow_theory.specs.language.Control.{always, control_in, loop_of, perform_of, move_of, arith_stmt, Both, both_arms, seen, seen_stmts}
use Rattle.control_flow_theory.specs.language.Language as language
use Rattle.control_flow_theory.proofs.language_lemmas.Rows.{seen_both_is, seen_arith, seen_read, seen_if, seen_evaluate, seen_loop, seen_perform, seen_go, seen_go_depending, seen_next_sentence, seen_stop_run, seen_exit_paragraph, seen_exit_section, seen_exit_perform, seen_display, seen_move, seen_set_true, seen_opens, seen_closes, seen_write, seen_rewrite, seen_exit, seen_continue}
use Rattle.program_points.specs.numbering.Kind.{never_first_of}
use Rattle.program_points.specs.numbering.Build.{seen_branches, seen_maybe}
use Rattle.overlap_trail.specs.declared.follow.Followed.TheVariants.{Through, To, Left, Ended, SectionEnded, Broken, Cycled, Lost}
use Rattle.overlap_trail.specs.Follow.{known_of, Follows, FollowsArm, IsBetween}
use Rattle.overlap_trail.proofs.Steps.{taken-from, as-turned, cycled-taken}
use Rattle.overlap_trail.proofs.Rows.{loop-none, loop-some}
use Rattle.overlap_trail.proofs.Turning.{turn-leaves, turn-on, turn-out, turn-lost, turns-begin, turns-join, turns-end, loop-before, loop-again, loop-after, loop-out, once-through}
use Rattle.overlap_trail.proofs.Branches.{branches_with, both-as, two-first, two-second, two-lost, none-through, picked, not-picked, if-followed, evaluate-followed, arith-followed, read-followed, when-there, when-last, when-past, not-other, whens-several}
use Rattle.overlap_trail.proofs.Statements.{as-seen, same-stmt, act-through, go-to, sentence-left, stop-lost, paragraph-ended, section-ended, loop-left, turn-left, stmts-begin, stmts-on, stmts-out, stmts-end, FollowsOn, stmts-at, stmts-past}
use Rattle.overlap_trail.proofs.through.+follow.Goals as goal

pub follow_stmt-returns-in-Display-clause-follows : goal.follow_stmt-returns-in-Display-clause-follows
follow_stmt-returns-in-Display-clause-follows t c = λ last. act-through (known_of c.args.files.now c.args.lemmas.now) c.args.moves.now last c.args.taken (seen last c.args.stmt.now) (Own (tree.Display c.in-Display.items c.in-Display.advance)) (ap (seen last) c.in-Display.is ∙ seen_display last c.in-Display.items c.in-Display.advance)

pub follow_stmt-returns-in-Move-clause-follows : goal.follow_stmt-returns-in-Move-clause-follows
follow_stmt-returns-in-Move-clause-follows t c = λ last. act-through (known_of c.args.files.now c.args.lemmas.now) c.args.moves.now last c.args.taken (seen last c.args.stmt.now) (move_of c.in-Move.from c.in-Move.to) (ap (seen last) c.in-Move.is ∙ seen_move last c.in-Move.from c.in-Move.to)

pub follow_stmt-returns-in-SetTrue-clause-follows : goal.follow_stmt-returns-in-SetTrue-clause-follows
follow_stmt-returns-in-SetTrue-clause-follows t c = λ last. act-through (known_of c.args.files.now c.args.lemmas.now) c.args.moves.now last c.args.taken (seen last c.args.stmt.now) (Own (tree.SetTrue c.in-SetTrue.field-0)) (ap (seen last) c.in-SetTrue.is ∙ seen_set_true last c.in-SetTrue.field-0)

pub follow_stmt-returns-in-Opens-clause-follows : goal.follow_stmt-returns-in-Opens-clause-follows
follow_stmt-returns-in-Opens-clause-follows t c = λ last. act-through (known_of c.args.files.now c.args.lemmas.now) c.args.moves.now last c.args.taken (seen last c.args.stmt.now) (Own (tree.Opens c.in-Opens.field-0)) (ap (seen last) c.in-Opens.is ∙ seen_opens last c.in-Opens.field-0)

pub follow_stmt-returns-in-Closes-clause-follows : goal.follow_stmt-returns-in-Closes-clause-follows
follow_stmt-returns-in-Closes-clause-follows t c = λ last. act-through (known_of c.args.files.now c.args.lemmas.now) c.args.moves.now last c.args.taken (seen last c.args.stmt.now) (Own (tree.Closes c.in-Closes.field-0)) (ap (seen last) c.in-Closes.is ∙ seen_closes last c.in-Closes.field-0)

pub follow_stmt-returns-in-Write-clause-follows : goal.follow_stmt-returns-in-Write-clause-follows
follow_stmt-returns-in-Write-clause-follows t c = λ last. act-through (known_of c.args.files.now c.args.lemmas.now) c.args.moves.now last c.args.taken (seen last c.args.stmt.now) (Own (tree.Write c.in-Write.entry c.in-Write.from)) (ap (seen last) c.in-Write.is ∙ seen_write last c.in-Write.entry c.in-Write.from)

pub follow_stmt-returns-in-Rewrite-clause-follows : goal.follow_stmt-returns-in-Rewrite-clause-follows
follow_stmt-returns-in-Rewrite-clause-follows t c = λ last. act-through (known_of c.args.files.now c.args.lemmas.now) c.args.moves.now last c.args.taken (seen last c.args.stmt.now) (Own (tree.Rewrite c.in-Rewrite.entry c.in-Rewrite.from)) (ap (seen last) c.in-Rewrite.is ∙ seen_rewrite last c.in-Rewrite.entry c.in-Rewrite.from)

pub follow_stmt-returns-in-Exit-clause-follows : goal.follow_stmt-returns-in-Exit-clause-follows
follow_stmt-returns-in-Exit-clause-follows t c = λ last. act-through (known_of c.args.files.now c.args.lemmas.now) c.args.moves.now last c.args.taken (seen last c.args.stmt.now) (Own tree.Exit) (ap (seen last) c.in-Exit.is ∙ seen_exit last)

pub follow_stmt-returns-in-Continue-clause-follows : goal.follow_stmt-returns-in-Continue-clause-follows
follow_stmt-returns-in-Continue-clause-follows t c = λ last. act-through (known_of c.args.files.now c.args.lemmas.now) c.args.moves.now last c.args.taken (seen last c.args.stmt.now) (Own tree.Continue) (ap (seen last) c.in-Continue.is ∙ seen_continue last)

pub follow_stmt-returns-in-Go-clause-follows : goal.follow_stmt-returns-in-Go-clause-follows
follow_stmt-returns-in-Go-clause-follows t c = λ last. as-seen (known_of c.args.files.now c.args.lemmas.now) c.args.moves.now last c.args.taken c.args.stmt.now (Go c.in-Go.to) (To c.in-Go.to c.args.taken) (ap (seen last) c.in-Go.is ∙ seen_go last c.in-Go.to) (go-to (known_of c.args.files.now c.args.lemmas.now) c.args.moves.now last c.args.taken c.in-Go.to)

pub follow_stmt-returns-in-NextSentence-clause-follows : goal.follow_stmt-returns-in-NextSentence-clause-follows
follow_stmt-returns-in-NextSentence-clause-follows t c = λ last. as-seen (known_of c.args.files.now c.args.lemmas.now) c.args.moves.now last c.args.taken c.args.stmt.now NextSentence (Left c.args.taken) (ap (seen last) c.in-NextSentence.is ∙ seen_next_sentence last) (sentence-left (known_of c.args.files.now c.args.lemmas.now) c.args.moves.now last c.args.taken)

pub follow_stmt-returns-in-StopRun-clause-follows : goal.follow_stmt-returns-in-StopRun-clause-follows
follow_stmt-returns-in-StopRun-clause-follows t c = λ last. as-seen (known_of c.args.files.now c.args.lemmas.now) c.args.moves.now last c.args.taken c.args.stmt.now StopRun Lost (ap (seen last) c.in-StopRun.is ∙ seen_stop_run last) (stop-lost (known_of c.args.files.now c.args.lemmas.now) c.args.moves.now last c.args.taken)

pub follow_stmt-returns-in-ExitParagraph-clause-follows : goal.follow_stmt-returns-in-ExitParagraph-clause-follows
follow_stmt-returns-in-ExitParagraph-clause-follows t c = λ last. as-seen (known_of c.args.files.now c.args.lemmas.now) c.args.moves.now last c.args.taken c.args.stmt.now ExitParagraph (Ended c.args.taken) (ap (seen last) c.in-ExitParagraph.is ∙ seen_exit_paragraph last) (paragraph-ended (known_of c.args.files.now c.args.lemmas.now) c.args.moves.now last c.args.taken)

pub follow_stmt-returns-in-ExitSection-clause-follows : goal.follow_stmt-returns-in-ExitSection-clause-follows
follow_stmt-returns-in-ExitSection-clause-follows t c = λ last. as-seen (known_of c.args.files.now c.args.lemmas.now) c.args.moves.now last c.args.taken c.args.stmt.now (ExitSection last) (SectionEnded c.args.taken) (ap (seen last) c.in-ExitSection.is ∙ seen_exit_section last) (section-ended (known_of c.args.files.now c.args.lemmas.now) c.args.moves.now last c.args.taken)

pub follow_stmt-returns-then-cycle-clause-follows : goal.follow_stmt-returns-then-cycle-clause-follows
follow_stmt-returns-then-cycle-clause-follows t c = λ last. as-seen (known_of c.args.files.now c.args.lemmas.now) c.args.moves.now last c.args.taken c.args.stmt.now (ExitPerform true) (Cycled c.args.taken) (ap (seen last) c.in-ExitPerform.is ∙ seen_exit_perform last c.in-ExitPerform.cycle ∙ ap (λ b. ExitPerform b) c.if-cycle.true) (turn-left (known_of c.args.files.now c.args.lemmas.now) c.args.moves.now last c.args.taken)

pub follow_stmt-returns-else-cycle-clause-follows : goal.follow_stmt-returns-else-cycle-clause-follows
follow_stmt-returns-else-cycle-clause-follows t c = λ last. as-seen (known_of c.args.files.now c.args.lemmas.now) c.args.moves.now last c.args.taken c.args.stmt.now (ExitPerform false) (Broken c.args.taken) (ap (seen last) c.in-ExitPerform.is ∙ seen_exit_perform last c.in-ExitPerform.cycle ∙ ap (λ b. ExitPerform b) c.if-cycle.false) (loop-left (known_of c.args.files.now c.args.lemmas.now) c.args.moves.now last c.args.taken)

pub follow_stmt-returns-in-GoDepending-clause-follows : goal.follow_stmt-returns-in-GoDepending-clause-follows
follow_stmt-returns-in-GoDepending-clause-follows t c = λ last. as-seen (known_of c.args.files.now c.args.lemmas.now) c.args.moves.now last c.args.taken c.args.stmt.now (GoDepending c.in-GoDepending.to (Depending c.in-GoDepending.on (length c.in-GoDepending.to))) c.follow_depending.result (ap (seen last) c.in-GoDepending.is ∙ seen_go_depending last c.in-GoDepending.to c.in-GoDepending.on) (subst (λ (ns : List ℕ). Follows (known_of c.args.files.now c.args.lemmas.now) c.args.moves.now last c.args.taken (also (GoDepending ns (Depending c.in-GoDepending.on (length c.in-GoDepending.to))) none) c.follow_depending.result) c.as_slice.ensures (c.follow_depending.ensures.follows (known_of c.args.files.now c.args.lemmas.now) last (Depending c.in-GoDepending.on (length c.in-GoDepending.to))))

pub follow_stmt-returns-in-Perform-clause-follows : goal.follow_stmt-returns-in-Perform-clause-follows
follow_stmt-returns-in-Perform-clause-follows t c = λ last. as-seen (known_of c.args.files.now c.args.lemmas.now) c.args.moves.now last c.args.taken c.args.stmt.now (perform_of (control_in c.in-Perform.control) c.in-Perform.entry c.in-Perform.exit) c.follow_perform.result (ap (seen last) c.in-Perform.is ∙ seen_perform last c.in-Perform.entry c.in-Perform.exit c.in-Perform.control) (c.follow_perform.ensures.follows (never_first_of c.args.files.now) last)

pub follow_stmt-returns-in-Loop-clause-follows : goal.follow_stmt-returns-in-Loop-clause-follows
follow_stmt-returns-in-Loop-clause-follows t c = λ last. as-seen (known_of c.args.files.now c.args.lemmas.now) c.args.moves.now last c.args.taken c.args.stmt.now (loop_of (control_in c.in-Loop.control) (seen_stmts last c.in-Loop.body)) c.follow_loop.result (ap (seen last) c.in-Loop.is ∙ seen_loop last c.in-Loop.control c.in-Loop.body) (c.follow_loop.ensures.follows last)

pub follow_stmt-returns-in-Arith-clause-follows : goal.follow_stmt-returns-in-Arith-clause-follows
follow_stmt-returns-in-Arith-clause-follows t c = λ last.
    let arms = c.in-Arith.arms in
    as-seen (known_of c.args.files.now c.args.lemmas.now) c.args.moves.now last c.args.taken c.args.stmt.now _ c.follow_arms.result (ap (seen last) c.in-Arith.is ∙ seen_arith last c.in-Arith.calc c.in-Arith.into arms ∙ ap (λ (b : Both). arith_stmt c.in-Arith.calc c.in-Arith.into b) (seen_both_is last arms))
    (arith-followed c.args.files.now c.args.lemmas.now c.args.moves.now last c.args.taken c.in-Arith.calc c.in-Arith.into (out-Arms arms).first (out-Arms arms).second c.follow_arms.result (c.follow_arms.ensures.follows last))

pub follow_stmt-returns-in-Read-clause-follows : goal.follow_stmt-returns-in-Read-clause-follows
follow_stmt-returns-in-Read-clause-follows t c = λ last.
    let arms = c.in-Read.arms in
    as-seen (known_of c.args.files.now c.args.lemmas.now) c.args.moves.now last c.args.taken c.args.stmt.now _ c.follow_arms-in-Read.result (ap (seen last) c.in-Read.is ∙ seen_read last c.in-Read.file c.in-Read.into arms ∙ ap (λ (b : Both). Choose (language.By (language.Read c.in-Read.file c.in-Read.into (is_some b.first))) (both_arms b)) (seen_both_is last arms))
    (read-followed c.args.files.now c.args.lemmas.now c.args.moves.now last c.args.taken c.in-Read.file c.in-Read.into (out-Arms arms).first (out-Arms arms).second c.is_silent-silent.result c.follow_arms-in-Read.result c.is_silent-silent.ensures (c.follow_arms-in-Read.ensures.follows last))

pub follow_stmt-returns-in-None-clause-follows : goal.follow_stmt-returns-in-None-clause-follows
follow_stmt-returns-in-None-clause-follows t c = λ last.
    let whens = c.in-Evaluate.whens in
    as-seen (known_of c.args.files.now c.args.lemmas.now) c.args.moves.now last c.args.taken c.args.stmt.now _ Lost (ap (seen last) c.in-Evaluate.is ∙ seen_evaluate last c.in-Evaluate.subject whens c.in-Evaluate.other)
    (evaluate-followed c.args.files.now c.args.lemmas.now c.args.moves.now last c.args.taken c.in-Evaluate.subject whens c.in-Evaluate.other Lost
    (not-picked (known_of c.args.files.now c.args.lemmas.now) c.args.moves.now last c.args.taken (branches_with last whens c.in-Evaluate.other) (c.in-None.ensures.picks (branches_with last whens c.in-Evaluate.other) (whens-several last whens c.in-Evaluate.other c.len.result c.len.ensures))))

pub follow_first-returns-in-First-clause-follows : goal.follow_first-returns-in-First-clause-follows
follow_first-returns-in-First-clause-follows t c = λ last. two-first (known_of c.args.files.now c.args.lemmas.now) c.args.moves.now last c.args.taken (seen_stmts last c.args.stmts.now) none c.follow_stmts.result c.in-First.ensures (c.follow_stmts.ensures.follows last)

pub follow_first-returns-in-Second-clause-follows : goal.follow_first-returns-in-Second-clause-follows
follow_first-returns-in-Second-clause-follows t c = λ last. two-second (known_of c.args.files.now c.args.lemmas.now) c.args.moves.now last c.args.taken (seen_stmts last c.args.stmts.now) none (Through (c.args.taken + 1)) c.in-Second.ensures (none-through (known_of c.args.files.now c.args.lemmas.now) c.args.moves.now last c.args.taken (c.args.taken + 1))

pub follow_first-returns-in-Neither-clause-follows : goal.follow_first-returns-in-Neither-clause-follows
follow_first-returns-in-Neither-clause-follows t c = λ last. two-lost (known_of c.args.files.now c.args.lemmas.now) c.args.moves.now last c.args.taken (seen_stmts last c.args.stmts.now) none c.in-Neither.ensures

pub follow_second-returns-in-First-clause-follows : goal.follow_second-returns-in-First-clause-follows
follow_second-returns-in-First-clause-follows t c = λ last. two-first (known_of c.args.files.now c.args.lemmas.now) c.args.moves.now last c.args.taken none (seen_stmts last c.args.stmts.now) (Through (c.args.taken + 1)) c.in-First.ensures (none-through (known_of c.args.files.now c.args.lemmas.now) c.args.moves.now last c.args.taken (c.args.taken + 1))

pub follow_second-returns-in-Second-clause-follows : goal.follow_second-returns-in-Second-clause-follows
follow_second-returns-in-Second-clause-follows t c = λ last. two-second (known_of c.args.files.now c.args.lemmas.now) c.args.moves.now last c.args.taken none (seen_stmts last c.args.stmts.now) c.follow_stmts.result c.in-Second.ensures (c.follow_stmts.ensures.follows last)

pub follow_second-returns-in-Neither-clause-follows : goal.follow_second-returns-in-Neither-clause-follows
follow_second-returns-in-Neither-clause-follows t c = λ last. two-lost (known_of c.args.files.now c.args.lemmas.now) c.args.moves.now last c.args.taken none (seen_stmts last c.args.stmts.now) c.in-Neither.ensures

-- loops

pub follow_turns-turns-init : goal.follow_turns-turns-init
follow_turns-turns-init t c = record {
  turns = λ last. turns-begin (known_of c.args.files.now c.args.lemmas.now) c.args.moves.now (Nested (seen_stmts last c.args.body.now)) c.args.taken;
  begun = omega arith;
  within = c.requires;
}

pub follow_turns-returns-in-First-clause-turns : goal.follow_turns-returns-in-First-clause-turns
follow_turns-returns-in-First-clause-turns t c = λ last. turns-end (known_of c.args.files.now c.args.lemmas.now) c.args.moves.now (Nested (seen_stmts last c.args.body.now)) last c.args.taken c.turns.now (Through (c.turns.now + 1)) (c.turns.invariant.turns last) (turn-leaves (known_of c.args.files.now c.args.lemmas.now) c.args.moves.now last c.turns.now (Nested (seen_stmts last c.args.body.now)) c.in-First.ensures)

pub follow_turns-turns-preserved : goal.follow_turns-turns-preserved
follow_turns-turns-preserved t c = record {
  turns = λ last. turns-join (known_of c.args.files.now c.args.lemmas.now) c.args.moves.now (Nested (seen_stmts last c.args.body.now)) c.args.taken c.turns.now c.in-Cycled.behind (c.turns.invariant.turns last) (turn-on (known_of c.args.files.now c.args.lemmas.now) c.args.moves.now last c.turns.now (Nested (seen_stmts last c.args.body.now)) c.follow_stmts.result c.in-Cycled.behind c.in-Second.ensures c.in-Cycled.ensures (c.follow_stmts.ensures.follows last));
  begun = omega (arith, (cycled-taken (c.turns.now + 1) (length c.args.moves.now) c.in-Cycled.behind c.follow_stmts.result c.in-Cycled.ensures c.follow_stmts.ensures.taken).0, c.turns.invariant.begun);
  within = (cycled-taken (c.turns.now + 1) (length c.args.moves.now) c.in-Cycled.behind c.follow_stmts.result c.in-Cycled.ensures c.follow_stmts.ensures.taken).1;
}

pub follow_turns-returns-in_default : goal.follow_turns-returns-in_default
follow_turns-returns-in_default t c = record {
  turns = λ last. turns-end (known_of c.args.files.now c.args.lemmas.now) c.args.moves.now (Nested (seen_stmts last c.args.body.now)) last c.args.taken c.turns.now c.turned.result (c.turns.invariant.turns last) (turn-out (known_of c.args.files.now c.args.lemmas.now) c.args.moves.now last c.turns.now (Nested (seen_stmts last c.args.body.now)) c.follow_stmts.result c.turned.result c.in-Second.ensures c.turned.ensures c.in_default.not-Cycled (c.follow_stmts.ensures.follows last));
  taken = taken-from c.args.taken (c.turns.now + 1) (length c.args.moves.now) c.turned.result (omega (arith, c.turns.invariant.begun)) (as-turned (c.turns.now + 1) (length c.args.moves.now) c.follow_stmts.result c.turned.result c.turned.ensures c.follow_stmts.ensures.taken);
}

pub follow_turns-returns-in-Neither-clause-turns : goal.follow_turns-returns-in-Neither-clause-turns
follow_turns-returns-in-Neither-clause-turns t c = λ last. turns-end (known_of c.args.files.now c.args.lemmas.now) c.args.moves.now (Nested (seen_stmts last c.args.body.now)) last c.args.taken c.turns.now Lost (c.turns.invariant.turns last) (turn-lost (known_of c.args.files.now c.args.lemmas.now) c.args.moves.now last c.turns.now (Nested (seen_stmts last c.args.body.now)) c.in-Neither.ensures)

pub follow_stmts-loop-stmt-init : goal.follow_stmts-loop-stmt-init
follow_stmts-loop-stmt-init t c = record {
  follows = λ last. subst (λ xs. FollowsOn (known_of c.args.files.now c.args.lemmas.now) c.args.moves.now (seen_stmts last c.args.stmts.now) (seen_stmts last xs) c.args.taken c.args.taken) (sym c.as_slice-stmt-items.ensures) (stmts-begin (known_of c.args.files.now c.args.lemmas.now) c.args.moves.now last c.args.taken (seen_stmts last c.args.stmts.now));
  begun = omega arith;
  within = c.requires;
  same = c.as_slice-stmt-items.ensures;
}

pub follow_stmts-loop-stmt-preserved : goal.follow_stmts-loop-stmt-preserved
follow_stmts-loop-stmt-preserved t c =
    let items = c.as_slice-stmt-items.result.now in
    let i = c.loop-stmt.stmt-index in
    record {
      follows = λ last. stmts-on (known_of c.args.files.now c.args.lemmas.now) c.args.moves.now last c.args.taken (seen_stmts last c.args.stmts.now) (seen_stmts last (drop i items)) (seen_stmts last (drop (i + 1) items)) (seen last c.stmt-item.result) c.loop-stmt.now c.in-Through.behind
          (stmts-at last items i c.stmt-item.result c.loop-stmt-test.true c.stmt-item.is) (c.loop-stmt.invariant.follows last) (c.in-Through.ensures.follows last);
      begun = omega (arith, c.in-Through.ensures.taken.0, c.loop-stmt.invariant.begun);
      within = c.in-Through.ensures.taken.1;
      same = c.loop-stmt.invariant.same;
    }

pub follow_stmts-returns-in_default : goal.follow_stmts-returns-in_default
follow_stmts-returns-in_default t c =
    let items = c.as_slice-stmt-items.result.now in
    let i = c.loop-stmt.stmt-index in
    record {
      follows = λ last. stmts-out (known_of c.args.files.now c.args.lemmas.now) c.args.moves.now last c.args.taken (seen_stmts last c.args.stmts.now) (seen_stmts last (drop i items)) (seen_stmts last (drop (i + 1) items)) (seen last c.stmt-item.result) c.loop-stmt.now c.follow_stmt.result
          (stmts-at last items i c.stmt-item.result c.loop-stmt-test.true c.stmt-item.is) (c.loop-stmt.invariant.follows last) c.in_default.not-Through (c.follow_stmt.ensures.follows last);
      taken = taken-from c.args.taken c.loop-stmt.now (length c.args.moves.now) c.follow_stmt.result c.loop-stmt.invariant.begun c.follow_stmt.ensures.taken;
    }

pub follow_stmts-returns-clause-follows : goal.follow_stmts-returns-clause-follows
follow_stmts-returns-clause-follows t c = λ last.
    stmts-end (known_of c.args.files.now c.args.lemmas.now) c.args.moves.now last c.args.taken (seen_stmts last c.args.stmts.now) (seen_stmts last (drop c.loop-stmt.stmt-index c.as_slice-stmt-items.result.now)) c.loop-stmt.now
    (stmts-past last c.as_slice-stmt-items.result.now c.loop-stmt.stmt-index c.loop-stmt-test.false) (c.loop-stmt.invariant.follows last)

pub follow_loop-returns-in-None-clause-follows : goal.follow_loop-returns-in-None-clause-follows
follow_loop-returns-in-None-clause-follows t c = λ last. same-stmt (known_of c.args.files.now c.args.lemmas.now) c.args.moves.now last c.args.taken (loop_of (control_in c.args.control.now) (seen_stmts last c.args.body.now)) (Choose (If (Holds always)) (given (seen_stmts last c.args.body.now) done)) c.follow_stmts.result (loop-none (control_in c.args.control.now) (seen_stmts last c.args.body.now) c.in-None.ensures) (once-through (known_of c.args.files.now c.args.lemmas.now) c.args.moves.now last c.args.taken (seen_stmts last c.args.body.now) c.follow_stmts.result (c.follow_stmts.ensures.follows last))

pub follow_loop-returns-in-Before-clause-follows : goal.follow_loop-returns-in-Before-clause-follows
follow_loop-returns-in-Before-clause-follows t c = λ last.
    let e = loop-some (control_in c.args.control.now) (seen_stmts last c.args.body.now) c.in-Some.kind c.in-Some.ensures in
    same-stmt (known_of c.args.files.now c.args.lemmas.now) c.args.moves.now last c.args.taken (loop_of (control_in c.args.control.now) (seen_stmts last c.args.body.now)) (Loop e.0 (Nested (seen_stmts last c.args.body.now))) c.follow_turns.result e.2 (loop-before (known_of c.args.files.now c.args.lemmas.now) c.args.moves.now last c.args.taken e.0 (Nested (seen_stmts last c.args.body.now)) c.follow_turns.result (e.1 ∙ c.in-Before.is) (c.follow_turns.ensures.turns last))

pub follow_loop-returns-in-Again-clause-follows : goal.follow_loop-returns-in-Again-clause-follows
follow_loop-returns-in-Again-clause-follows t c = λ last.
    let e = loop-some (control_in c.args.control.now) (seen_stmts last c.args.body.now) c.in-Some.kind c.in-Some.ensures in
    same-stmt (known_of c.args.files.now c.args.lemmas.now) c.args.moves.now last c.args.taken (loop_of (control_in c.args.control.now) (seen_stmts last c.args.body.now)) (Loop e.0 (Nested (seen_stmts last c.args.body.now))) c.follow_turns-in-Again.result e.2 (loop-again (known_of c.args.files.now c.args.lemmas.now) c.args.moves.now last c.args.taken e.0 (Nested (seen_stmts last c.args.body.now)) c.follow_turns-in-Again.result (e.1 ∙ c.in-Again.is) (c.follow_turns-in-Again.ensures.turns last))

pub follow_loop-returns-in-Cycled-clause-follows : goal.follow_loop-returns-in-Cycled-clause-follows
follow_loop-returns-in-Cycled-clause-follows t c = λ last.
    let e = loop-some (control_in c.args.control.now) (seen_stmts last c.args.body.now) c.in-Some.kind c.in-Some.ensures in
    same-stmt (known_of c.args.files.now c.args.lemmas.now) c.args.moves.now last c.args.taken (loop_of (control_in c.args.control.now) (seen_stmts last c.args.body.now)) (Loop e.0 (Nested (seen_stmts last c.args.body.now))) c.follow_turns-in-Cycled.result e.2 (loop-after (known_of c.args.files.now c.args.lemmas.now) c.args.moves.now last c.args.taken e.0 (Nested (seen_stmts last c.args.body.now)) c.follow_stmts-in-After.result c.follow_turns-in-Cycled.result c.in-Cycled.now (e.1 ∙ c.in-After.is) c.in-Cycled.ensures (c.follow_stmts-in-After.ensures.follows last) (c.follow_turns-in-Cycled.ensures.turns last))

pub follow_loop-returns-in_default : goal.follow_loop-returns-in_default
follow_loop-returns-in_default t c = record {
  follows = λ last.
      let e = loop-some (control_in c.args.control.now) (seen_stmts last c.args.body.now) c.in-Some.kind c.in-Some.ensures in
      same-stmt (known_of c.args.files.now c.args.lemmas.now) c.args.moves.now last c.args.taken (loop_of (control_in c.args.control.now) (seen_stmts last c.args.body.now)) (Loop e.0 (Nested (seen_stmts last c.args.body.now))) c.turned.result e.2 (loop-out (known_of c.args.files.now c.args.lemmas.now) c.args.moves.now last c.args.taken e.0 (Nested (seen_stmts last c.args.body.now)) c.follow_stmts-in-After.result c.turned.result (e.1 ∙ c.in-After.is) c.turned.ensures c.in_default.not-Cycled (c.follow_stmts-in-After.ensures.follows last));
  taken = as-turned c.args.taken (length c.args.moves.now) c.follow_stmts-in-After.result c.turned.result c.turned.ensures c.follow_stmts-in-After.ensures.taken;
}

pub follow_when-returns-then-number-index-clause-follows : goal.follow_when-returns-then-number-index-clause-follows
follow_when-returns-then-number-index-clause-follows t c = λ last.
    subst (λ o. FollowsArm (known_of c.args.files.now c.args.lemmas.now) c.args.moves.now last c.args.taken o c.follow_stmts.result)
    (sym (ap (λ n. slice_get (seen_branches last c.args.whens.now) n) (sym c.if-number-index.true) ∙ when-there last c.args.whens.now c.as_slice-when-items.result.now c.loop-number.number c.when-item.result c.as_slice-when-items.ensures c.loop-number-test.true c.when-item.is))
    (c.follow_stmts.ensures.follows last)

pub follow_when-returns-clause-follows : goal.follow_when-returns-clause-follows
follow_when-returns-clause-follows t c = λ last.
    let past : length c.args.whens.now ≤ c.args.index = omega (arith, c.loop-number-test.false, c.loop-number.invariant, ap (λ (ws : List When). length ws) c.as_slice-when-items.ensures) in
    subst (λ o. FollowsArm (known_of c.args.files.now c.args.lemmas.now) c.args.moves.now last c.args.taken o Lost) (sym (when-past last c.args.whens.now c.args.index past)) refl

pub follow_stmt-returns-in-First-clause-follows : goal.follow_stmt-returns-in-First-clause-follows
follow_stmt-returns-in-First-clause-follows t c = λ last. as-seen (known_of c.args.files.now c.args.lemmas.now) c.args.moves.now last c.args.taken c.args.stmt.now _ c.follow_stmts.result (ap (seen last) c.in-If.is ∙ seen_if last c.in-If.cond c.in-If.yes c.in-If.no) (if-followed c.args.files.now c.args.lemmas.now c.args.moves.now last c.args.taken c.in-If.cond c.in-If.yes c.in-If.no c.follow_stmts.result (two-first (known_of c.args.files.now c.args.lemmas.now) c.args.moves.now last c.args.taken (seen_stmts last c.in-If.yes) (seen_stmts last c.in-If.no) c.follow_stmts.result c.in-First.ensures (c.follow_stmts.ensures.follows last)))

pub follow_stmt-returns-in-Second-clause-follows : goal.follow_stmt-returns-in-Second-clause-follows
follow_stmt-returns-in-Second-clause-follows t c = λ last. as-seen (known_of c.args.files.now c.args.lemmas.now) c.args.moves.now last c.args.taken c.args.stmt.now _ c.follow_stmts-in-Second.result (ap (seen last) c.in-If.is ∙ seen_if last c.in-If.cond c.in-If.yes c.in-If.no) (if-followed c.args.files.now c.args.lemmas.now c.args.moves.now last c.args.taken c.in-If.cond c.in-If.yes c.in-If.no c.follow_stmts-in-Second.result (two-second (known_of c.args.files.now c.args.lemmas.now) c.args.moves.now last c.args.taken (seen_stmts last c.in-If.yes) (seen_stmts last c.in-If.no) c.follow_stmts-in-Second.result c.in-Second.ensures (c.follow_stmts-in-Second.ensures.follows last)))

pub follow_stmt-returns-in-Neither-clause-follows : goal.follow_stmt-returns-in-Neither-clause-follows
follow_stmt-returns-in-Neither-clause-follows t c = λ last. as-seen (known_of c.args.files.now c.args.lemmas.now) c.args.moves.now last c.args.taken c.args.stmt.now _ Lost (ap (seen last) c.in-If.is ∙ seen_if last c.in-If.cond c.in-If.yes c.in-If.no) (if-followed c.args.files.now c.args.lemmas.now c.args.moves.now last c.args.taken c.in-If.cond c.in-If.yes c.in-If.no Lost (two-lost (known_of c.args.files.now c.args.lemmas.now) c.args.moves.now last c.args.taken (seen_stmts last c.in-If.yes) (seen_stmts last c.in-If.no) c.in-Neither.ensures))

pub follow_arms-returns-then-silent-clause-follows : goal.follow_arms-returns-then-silent-clause-follows
follow_arms-returns-then-silent-clause-follows t c = λ last. both-as (known_of c.args.files.now c.args.lemmas.now) c.args.moves.now last c.args.taken (out-Arms c.args.arms.now).first (out-Arms c.args.arms.now).second None (Some c.in-Some-second.stmts) c.args.silent true c.follow_stmts.result c.in-None.is c.in-Some-second.is c.if-silent.true (c.follow_stmts.ensures.follows last)

pub follow_arms-returns-else-silent-clause-follows : goal.follow_arms-returns-else-silent-clause-follows
follow_arms-returns-else-silent-clause-follows t c = λ last. both-as (known_of c.args.files.now c.args.lemmas.now) c.args.moves.now last c.args.taken (out-Arms c.args.arms.now).first (out-Arms c.args.arms.now).second None (Some c.in-Some-second.stmts) c.args.silent false c.follow_second.result c.in-None.is c.in-Some-second.is c.if-silent.false (c.follow_second.ensures.follows last)

pub follow_arms-returns-in-None-second-2-clause-follows : goal.follow_arms-returns-in-None-second-2-clause-follows
follow_arms-returns-in-None-second-2-clause-follows t c = λ last. both-as (known_of c.args.files.now c.args.lemmas.now) c.args.moves.now last c.args.taken (out-Arms c.args.arms.now).first (out-Arms c.args.arms.now).second (Some c.in-Some.stmts) None c.args.silent c.args.silent c.follow_first.result c.in-Some.is c.in-None-second-2.is refl (c.follow_first.ensures.follows last)

pub follow_arms-returns-in-First-clause-follows : goal.follow_arms-returns-in-First-clause-follows
follow_arms-returns-in-First-clause-follows t c = λ last. both-as (known_of c.args.files.now c.args.lemmas.now) c.args.moves.now last c.args.taken (out-Arms c.args.arms.now).first (out-Arms c.args.arms.now).second (Some c.in-Some.stmts) (Some c.in-Some-second-2.others) c.args.silent c.args.silent c.follow_stmts-in-First.result c.in-Some.is c.in-Some-second-2.is refl (two-first (known_of c.args.files.now c.args.lemmas.now) c.args.moves.now last c.args.taken (seen_stmts last c.in-Some.stmts) (seen_stmts last c.in-Some-second-2.others) c.follow_stmts-in-First.result c.in-First.ensures (c.follow_stmts-in-First.ensures.follows last))

pub follow_arms-returns-in-Second-clause-follows : goal.follow_arms-returns-in-Second-clause-follows
follow_arms-returns-in-Second-clause-follows t c = λ last. both-as (known_of c.args.files.now c.args.lemmas.now) c.args.moves.now last c.args.taken (out-Arms c.args.arms.now).first (out-Arms c.args.arms.now).second (Some c.in-Some.stmts) (Some c.in-Some-second-2.others) c.args.silent c.args.silent c.follow_stmts-in-Second.result c.in-Some.is c.in-Some-second-2.is refl (two-second (known_of c.args.files.now c.args.lemmas.now) c.args.moves.now last c.args.taken (seen_stmts last c.in-Some.stmts) (seen_stmts last c.in-Some-second-2.others) c.follow_stmts-in-Second.result c.in-Second.ensures (c.follow_stmts-in-Second.ensures.follows last))

pub follow_arms-returns-in-Neither-clause-follows : goal.follow_arms-returns-in-Neither-clause-follows
follow_arms-returns-in-Neither-clause-follows t c = λ last. both-as (known_of c.args.files.now c.args.lemmas.now) c.args.moves.now last c.args.taken (out-Arms c.args.arms.now).first (out-Arms c.args.arms.now).second (Some c.in-Some.stmts) (Some c.in-Some-second-2.others) c.args.silent c.args.silent Lost c.in-Some.is c.in-Some-second-2.is refl (two-lost (known_of c.args.files.now c.args.lemmas.now) c.args.moves.now last c.args.taken (seen_stmts last c.in-Some.stmts) (seen_stmts last c.in-Some-second-2.others) c.in-Neither.ensures)

pub follow_stmt-returns-then-pick-len-clause-follows : goal.follow_stmt-returns-then-pick-len-clause-follows
follow_stmt-returns-then-pick-len-clause-follows t c = λ last.
    let whens = c.in-Evaluate.whens in
    let other = c.in-Evaluate.other in
    as-seen (known_of c.args.files.now c.args.lemmas.now) c.args.moves.now last c.args.taken c.args.stmt.now _ c.follow_when.result (ap (seen last) c.in-Evaluate.is ∙ seen_evaluate last c.in-Evaluate.subject whens other)
    (evaluate-followed c.args.files.now c.args.lemmas.now c.args.moves.now last c.args.taken c.in-Evaluate.subject whens other c.follow_when.result
    (picked (known_of c.args.files.now c.args.lemmas.now) c.args.moves.now last c.args.taken (branches_with last whens other) c.in-Some.pick.index c.in-Some.pick.taken c.follow_when.result (c.in-Some.ensures.picks (branches_with last c.in-Evaluate.whens c.in-Evaluate.other) (whens-several last c.in-Evaluate.whens c.in-Evaluate.other c.len.result c.len.ensures))
    (subst (λ o. FollowsArm (known_of c.args.files.now c.args.lemmas.now) c.args.moves.now last c.in-Some.pick.taken o c.follow_when.result) (sym (not-other last whens other c.in-Some.pick.index (λ e. c.if-pick-len.true (e ∙ sym c.len-in-Some.ensures)))) (c.follow_when.ensures.follows last))))

pub follow_stmt-returns-then-pick-len-clause-taken : goal.follow_stmt-returns-then-pick-len-clause-taken
follow_stmt-returns-then-pick-len-clause-taken t c =
    let bounds : IsBetween c.args.taken (length c.args.moves.now) c.in-Some.pick.taken = (c.in-Some.ensures.picks (branches_with 0 c.in-Evaluate.whens c.in-Evaluate.other) (whens-several 0 c.in-Evaluate.whens c.in-Evaluate.other c.len.result c.len.ensures)).taken_then in
    taken-from c.args.taken c.in-Some.pick.taken (length c.args.moves.now) c.follow_when.result bounds.0 c.follow_when.ensures.taken

pub follow_stmt-returns-in-Some-other-clause-follows : goal.follow_stmt-returns-in-Some-other-clause-follows
follow_stmt-returns-in-Some-other-clause-follows t c = λ last.
    let whens = c.in-Evaluate.whens in
    let other = c.in-Evaluate.other in
    as-seen (known_of c.args.files.now c.args.lemmas.now) c.args.moves.now last c.args.taken c.args.stmt.now _ c.follow_stmts-in-Some-other.result (ap (seen last) c.in-Evaluate.is ∙ seen_evaluate last c.in-Evaluate.subject whens other)
    (evaluate-followed c.args.files.now c.args.lemmas.now c.args.moves.now last c.args.taken c.in-Evaluate.subject whens other c.follow_stmts-in-Some-other.result
    (picked (known_of c.args.files.now c.args.lemmas.now) c.args.moves.now last c.args.taken (branches_with last whens other) c.in-Some.pick.index c.in-Some.pick.taken c.follow_stmts-in-Some-other.result (c.in-Some.ensures.picks (branches_with last c.in-Evaluate.whens c.in-Evaluate.other) (whens-several last c.in-Evaluate.whens c.in-Evaluate.other c.len.result c.len.ensures))
    (subst (λ o. FollowsArm (known_of c.args.files.now c.args.lemmas.now) c.args.moves.now last c.in-Some.pick.taken o c.follow_stmts-in-Some-other.result) (sym (when-last last whens other c.in-Some.pick.index (c.if-pick-len.false ∙ c.len-in-Some.ensures) ∙ ap (λ o. Some (seen_maybe last o)) c.in-Some-other.is)) (c.follow_stmts-in-Some-other.ensures.follows last))))

pub follow_stmt-returns-in-Some-other-clause-taken : goal.follow_stmt-returns-in-Some-other-clause-taken
follow_stmt-returns-in-Some-other-clause-taken t c =
    let bounds : IsBetween c.args.taken (length c.args.moves.now) c.in-Some.pick.taken = (c.in-Some.ensures.picks (branches_with 0 c.in-Evaluate.whens c.in-Evaluate.other) (whens-several 0 c.in-Evaluate.whens c.in-Evaluate.other c.len.result c.len.ensures)).taken_then in
    taken-from c.args.taken c.in-Some.pick.taken (length c.args.moves.now) c.follow_stmts-in-Some-other.result bounds.0 c.follow_stmts-in-Some-other.ensures.taken

pub follow_stmt-returns-in-None-other-clause-follows : goal.follow_stmt-returns-in-None-other-clause-follows
follow_stmt-returns-in-None-other-clause-follows t c = λ last.
    let whens = c.in-Evaluate.whens in
    let other = c.in-Evaluate.other in
    as-seen (known_of c.args.files.now c.args.lemmas.now) c.args.moves.now last c.args.taken c.args.stmt.now _ (Through c.in-Some.pick.taken) (ap (seen last) c.in-Evaluate.is ∙ seen_evaluate last c.in-Evaluate.subject whens other)
    (evaluate-followed c.args.files.now c.args.lemmas.now c.args.moves.now last c.args.taken c.in-Evaluate.subject whens other (Through c.in-Some.pick.taken)
    (picked (known_of c.args.files.now c.args.lemmas.now) c.args.moves.now last c.args.taken (branches_with last whens other) c.in-Some.pick.index c.in-Some.pick.taken (Through c.in-Some.pick.taken) (c.in-Some.ensures.picks (branches_with last c.in-Evaluate.whens c.in-Evaluate.other) (whens-several last c.in-Evaluate.whens c.in-Evaluate.other c.len.result c.len.ensures))
    (subst (λ o. FollowsArm (known_of c.args.files.now c.args.lemmas.now) c.args.moves.now last c.in-Some.pick.taken o (Through c.in-Some.pick.taken)) (sym (when-last last whens other c.in-Some.pick.index (c.if-pick-len.false ∙ c.len-in-Some.ensures) ∙ ap (λ o. Some (seen_maybe last o)) c.in-None-other.is)) (none-through (known_of c.args.files.now c.args.lemmas.now) c.args.moves.now last c.in-Some.pick.taken c.in-Some.pick.taken))))

pub follow_stmt-returns-in-None-other-clause-taken : goal.follow_stmt-returns-in-None-other-clause-taken
follow_stmt-returns-in-None-other-clause-taken t c =
    let bounds : IsBetween c.args.taken (length c.args.moves.now) c.in-Some.pick.taken = (c.in-Some.ensures.picks (branches_with 0 c.in-Evaluate.whens c.in-Evaluate.other) (whens-several 0 c.in-Evaluate.whens c.in-Evaluate.other c.len.result c.len.ensures)).taken_then in
    bounds
