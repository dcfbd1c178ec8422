use Rattle.std.proofs.Common.{◌≡◌, ◌+◌, ◌∙◌, ◌++◌, ◌∷◌, [], ℕ, false, List, Option, Some, None, take, drop, length, if◌then◌else◌, is_some, refl, ap, sym, subst, arith}
use Rattle.cob_tree.specs.declared.stmt.Arms.{out-Arms}
use Rattle.cob_tree.specs.declared.stmt.When.{out-When}
use Rattle.control_flow_theory.specs.language.Language.{also, none, Stmts, Stmt, Choose, If, Holds, given, done, Loop, Nested, Go, GoDepending, Depending, NextSentence, StopRun, ExitParagraph, ExitSection, ExitPerform, Own}
use Rattle.control_flow_theory.specs.language.Language as language
use Rattle.control_flow_theory.specs.language.Control.{control_in, loop_of, perform_of, always, move_of, arith_stmt, Both, both_arms, seen, seen_stmts}
use Rattle.control_flow_theory.proofs.language_lemmas.Rows.{seen_if_any, seen_both_is, seen_arith, seen_read, seen_if, seen_evaluate, seen_loop, seen_perform, seen_go, seen_go_depending, seen_next_sentence, seen_stop_run, seen_exit_paragraph, seen_exit_section, seen_exit_perform, seen_display, seen_move, seen_set_true, seen_opens, seen_closes, seen_write, seen_rewrite, seen_exit, seen_continue}
use Rattle.cob_tree.specs.declared.stmt.Stmt.TheVariants as tree
use Rattle.program_points.specs.declared.point_table.table.ProgramPoint.TheVariants.{Goes, Stops}
use Rattle.program_points.specs.declared.numbering.build.Exits.{Exits}
use Rattle.program_points.specs.numbering.Kind.{never_first_of}
use Rattle.program_points.specs.numbering.Build.{Builds, BuildsBranches, BuildsChoice, BuildsBoth, IsClosed, after_at, seen_branches, seen_maybe}
use Rattle.program_points.proofs.numbering_lemmas.Growing.{build-none, build-also, branches-none, branches-more, if-added, if-ok}
use Rattle.program_points.proofs.numbering_lemmas.Steps.{build-leave, build-stop, build-exit-loop}
use Rattle.program_points.proofs.numbering_lemmas.Looping.{loop-built, loop-none, loop-some}
use Rattle.program_points.proofs.numbering_lemmas.Choosing.{recount, choice-added, two-added, act-stmt, same-stmt, arith-built, read-built, if-built, evaluate-built, once-built, both-second, both-first, both-both, stmts-past, stmts-down, stmts-whole, whens-taken, whens-all}
use Rattle.program_points.proofs.numbering.build.Builder.+build.Goals as goal
use Rattle.program_points.proofs.numbering.build.Builder.+build.Goals.{build_stmt-then-cycle, build_stmt-else-cycle}

pub build_both-returns-in_ok-unmet-in-Some-second-clause-builds : goal.build_both-returns-in_ok-unmet-in-Some-second-clause-builds
build_both-returns-in_ok-unmet-in-Some-second-clause-builds t c =
    let old = c.args.self.now in
    let n = c.args.here.number in
    let last = c.args.here.last in
    let files = c.args.files.now in
    let never = never_first_of files in
    let ex = c.args.exits in
    let p1 = c.build_stmts.new.self in
    both-second files old.count n last c.choose_two.result old.places.items p1.places.items c.choose_two.new.self.places.items old.ranges.items p1.ranges.items c.choose_two.new.self.ranges.items (out-Arms c.args.arms.now).first (out-Arms c.args.arms.now).second c.in-Some-second.stmts c.args.silent ex c.in_ok-unmet-in-Some-second.unmet
    c.in-None.is c.in-Some-second.is c.in_ok-unmet-in-Some-second.ensures.builds c.choose_two.ensures.ranges c.choose_two.ensures.added

pub build_both-returns-in-None-second-2-clause-builds : goal.build_both-returns-in-None-second-2-clause-builds
build_both-returns-in-None-second-2-clause-builds t c =
    let old = c.args.self.now in
    let n = c.args.here.number in
    let last = c.args.here.last in
    let files = c.args.files.now in
    let never = never_first_of files in
    let ex = c.args.exits in
    let p1 = c.build_stmts-in-Some.new.self in
    let r = c.choose_two-in-None-second-2 in
    both-first files old.count n last r.result old.places.items p1.places.items r.new.self.places.items old.ranges.items p1.ranges.items r.new.self.ranges.items (out-Arms c.args.arms.now).first (out-Arms c.args.arms.now).second c.in-Some.stmts c.args.silent ex c.in_ok-met-in-Some.met
    c.in-Some.is c.in-None-second-2.is c.in_ok-met-in-Some.ensures.builds r.ensures.ranges r.ensures.added

pub build_both-returns-in_ok-unmet-in-Some-second-2-clause-builds : goal.build_both-returns-in_ok-unmet-in-Some-second-2-clause-builds
build_both-returns-in_ok-unmet-in-Some-second-2-clause-builds t c =
    let old = c.args.self.now in
    let n = c.args.here.number in
    let last = c.args.here.last in
    let files = c.args.files.now in
    let never = never_first_of files in
    let ex = c.args.exits in
    let p1 = c.build_stmts-in-Some.new.self in
    let p2 = c.build_stmts-in-Some-second-2.new.self in
    let r = c.choose_two-in-Some-second-2 in
    both-both files old.count n last r.result old.places.items p1.places.items p2.places.items r.new.self.places.items old.ranges.items p1.ranges.items p2.ranges.items r.new.self.ranges.items (out-Arms c.args.arms.now).first (out-Arms c.args.arms.now).second c.in-Some.stmts c.in-Some-second-2.others c.args.silent ex c.in_ok-met-in-Some.met c.in_ok-unmet-in-Some-second-2.unmet
    c.in-Some.is c.in-Some-second-2.is c.in_ok-met-in-Some.ensures.builds
    (recount never old.count n p1.count p1.places.items p2.places.items p1.ranges.items p2.ranges.items (seen_stmts last c.in-Some-second-2.others) ex c.in_ok-unmet-in-Some-second-2.unmet c.in_ok-met-in-Some.ensures.count c.in_ok-unmet-in-Some-second-2.ensures.builds)
    r.ensures.ranges r.ensures.added

pub build_loop-returns-in_ok-push-in-None-clause-builds : goal.build_loop-returns-in_ok-push-in-None-clause-builds
build_loop-returns-in_ok-push-in-None-clause-builds t c =
    let old = c.args.self.now in
    let n = c.args.here.number in
    let last = c.args.here.last in
    let files = c.args.files.now in
    let never = never_first_of files in
    let ex = c.args.exits in
    let p1 = c.build_stmts.new.self in
    let new = c.add.new.self in
    let body = seen_stmts last c.args.body.now in
    let start = c.in_ok-start-in-None.start in
    let told = c.in_ok-push-in-None.ensures.ok ∙ ap (λ (ws : List (Option ℕ)). ws ++ Some start ∷ []) c.new-ways.ensures in
    let made = choice-added never old.count n c.add.result old.places.items p1.places.items new.places.items old.ranges.items p1.ranges.items new.ranges.items (body ∷ []) false ex (Some start ∷ []) c.push.new.self
    (branches-more never old.count n old.places.items old.places.items p1.places.items old.ranges.items old.ranges.items p1.ranges.items [] body ex start [] (branches-none never old.count n old.places.items old.ranges.items ex) c.in_ok-start-in-None.ensures.builds)
    told c.add.ensures.ranges c.add.ensures.added in
    same-stmt never old.count n c.add.result old.places.items new.places.items old.ranges.items new.ranges.items ex (loop_of (control_in c.args.control.now) body) (Choose (If (Holds always)) (given body done)) (loop-none (control_in c.args.control.now) body c.in-None.ensures)
    (if-ok c.add.result (λ begin. BuildsChoice never old.count n old.places.items new.places.items old.ranges.items new.ranges.items (body ∷ []) false ex begin) (λ begin. Builds never old.count n old.places.items new.places.items old.ranges.items new.ranges.items (also (Choose (If (Holds always)) (given body done)) none) ex begin)
    (λ begin k. once-built files old.count n last old.places.items new.places.items old.ranges.items new.ranges.items body ex begin k) made)

pub build_loop-returns-in_ok-start-in-Some-clause-builds : goal.build_loop-returns-in_ok-start-in-Some-clause-builds
build_loop-returns-in_ok-start-in-Some-clause-builds t c =
    let old = c.args.self.now in
    let n = c.args.here.number in
    let last = c.args.here.last in
    let files = c.args.files.now in
    let never = never_first_of files in
    let ex = c.args.exits in
    let p1 = c.add-in-Some.new.self in
    let p2 = c.build_stmts-in-Some.new.self in
    let p3 = c.close_loop.new.self in
    let body = seen_stmts last c.args.body.now in
    let turn = c.in_ok-turn-in-Some.turn in
    let start = c.in_ok-start-in-Some.start in
    let e = loop-some (control_in c.args.control.now) body c.in-Some.kind c.in-Some.ensures in
    same-stmt never old.count n c.close_loop.result old.places.items p3.places.items old.ranges.items p3.ranges.items ex (loop_of (control_in c.args.control.now) body) (Loop e.0 (Nested body)) e.2
    (if-ok c.close_loop.result (λ begin. IsClosed c.in-Some.kind turn ex.after start begin p2.places.items p3.places.items) (λ begin. Builds never old.count n old.places.items p3.places.items old.ranges.items p3.ranges.items (also (Loop e.0 (Nested body)) none) ex begin)
    (λ begin closed. loop-built never old.count n p1.count old.places.items p1.places.items p2.places.items p3.places.items old.ranges.items p1.ranges.items p2.ranges.items p3.ranges.items
    e.0 (Nested body) ex c.in-Some.kind turn start begin e.1
    c.in_ok-turn-in-Some.ensures.added.0 c.in_ok-turn-in-Some.ensures.added.1 c.in_ok-turn-in-Some.ensures.ranges c.in_ok-turn-in-Some.ensures.count
    (subst (λ (x : Exits). Builds never p1.count n p1.places.items p2.places.items p1.ranges.items p2.ranges.items body x start) c.inside.ensures c.in_ok-start-in-Some.ensures.builds) closed c.close_loop.ensures.ranges)
    c.close_loop.ensures.closed)

pub build_stmt-returns-in-Arith-clause-builds : goal.build_stmt-returns-in-Arith-clause-builds
build_stmt-returns-in-Arith-clause-builds t c =
    let old = c.args.self.now in
    let n = c.args.here.number in
    let last = c.args.here.last in
    let files = c.args.files.now in
    let never = never_first_of files in
    let ex = c.args.exits in
    let arms = c.in-Arith.arms in
    let both : Both = record { first = seen_if_any last (out-Arms arms).first; second = seen_if_any last (out-Arms arms).second } in
    let new = c.build_both.new.self in
    same-stmt never old.count n c.build_both.result old.places.items new.places.items old.ranges.items new.ranges.items ex (seen last c.args.stmt.now) (arith_stmt c.in-Arith.calc c.in-Arith.into both) (ap (seen last) c.in-Arith.is ∙ seen_arith last c.in-Arith.calc c.in-Arith.into arms ∙ ap (λ (b : Both). arith_stmt c.in-Arith.calc c.in-Arith.into b) (seen_both_is last arms))
    (if-ok c.build_both.result (λ begin. BuildsBoth never old.count n old.places.items new.places.items old.ranges.items new.ranges.items last (out-Arms arms).first (out-Arms arms).second false ex begin) (λ begin. Builds never old.count n old.places.items new.places.items old.ranges.items new.ranges.items (also (arith_stmt c.in-Arith.calc c.in-Arith.into both) none) ex begin)
    (λ begin k. arith-built files old.count n last old.places.items new.places.items old.ranges.items new.ranges.items c.in-Arith.calc c.in-Arith.into (out-Arms arms).first (out-Arms arms).second ex begin k) c.build_both.ensures.builds)

pub build_stmt-returns-in-Read-clause-builds : goal.build_stmt-returns-in-Read-clause-builds
build_stmt-returns-in-Read-clause-builds t c =
    let old = c.args.self.now in
    let n = c.args.here.number in
    let last = c.args.here.last in
    let files = c.args.files.now in
    let never = never_first_of files in
    let ex = c.args.exits in
    let arms = c.in-Read.arms in
    let both : Both = record { first = seen_if_any last (out-Arms arms).first; second = seen_if_any last (out-Arms arms).second } in
    let new = c.build_both-in-Read.new.self in
    same-stmt never old.count n c.build_both-in-Read.result old.places.items new.places.items old.ranges.items new.ranges.items ex (seen last c.args.stmt.now) (Choose (language.By (language.Read c.in-Read.file c.in-Read.into (is_some (seen_if_any last (out-Arms arms).first)))) (both_arms both)) (ap (seen last) c.in-Read.is ∙ seen_read last c.in-Read.file c.in-Read.into arms ∙ ap (λ (b : Both). Choose (language.By (language.Read c.in-Read.file c.in-Read.into (is_some b.first))) (both_arms b)) (seen_both_is last arms))
    (if-ok c.build_both-in-Read.result (λ begin. BuildsBoth never old.count n old.places.items new.places.items old.ranges.items new.ranges.items last (out-Arms arms).first (out-Arms arms).second c.is_silent-silent.result ex begin) (λ begin. Builds never old.count n old.places.items new.places.items old.ranges.items new.ranges.items (also (Choose (language.By (language.Read c.in-Read.file c.in-Read.into (is_some (seen_if_any last (out-Arms arms).first)))) (both_arms both)) none) ex begin)
    (λ begin k. read-built files old.count n last old.places.items new.places.items old.ranges.items new.ranges.items c.in-Read.file c.in-Read.into (out-Arms arms).first (out-Arms arms).second c.is_silent-silent.result ex begin c.is_silent-silent.ensures k) c.build_both-in-Read.ensures.builds)

pub build_stmt-returns-in_ok-unmet-in-If-clause-builds : goal.build_stmt-returns-in_ok-unmet-in-If-clause-builds
build_stmt-returns-in_ok-unmet-in-If-clause-builds t c =
    let old = c.args.self.now in
    let n = c.args.here.number in
    let last = c.args.here.last in
    let files = c.args.files.now in
    let never = never_first_of files in
    let ex = c.args.exits in
    let p1 = c.build_stmts.new.self in
    let p2 = c.build_stmts-in-If.new.self in
    let new = c.choose_two.new.self in
    let made = two-added never old.count n c.choose_two.result old.places.items p1.places.items p2.places.items new.places.items old.ranges.items p1.ranges.items p2.ranges.items new.ranges.items (seen_stmts last c.in-If.yes) (seen_stmts last c.in-If.no) false false ex c.in_ok-met-in-If.met c.in_ok-unmet-in-If.unmet
    c.in_ok-met-in-If.ensures.builds
    (recount never old.count n p1.count p1.places.items p2.places.items p1.ranges.items p2.ranges.items (seen_stmts last c.in-If.no) ex c.in_ok-unmet-in-If.unmet c.in_ok-met-in-If.ensures.count c.in_ok-unmet-in-If.ensures.builds)
    refl c.choose_two.ensures.ranges c.choose_two.ensures.added in
    same-stmt never old.count n c.choose_two.result old.places.items new.places.items old.ranges.items new.ranges.items ex (seen last c.args.stmt.now) _ (ap (seen last) c.in-If.is ∙ seen_if last c.in-If.cond c.in-If.yes c.in-If.no)
    (if-ok c.choose_two.result (λ begin. BuildsChoice never old.count n old.places.items new.places.items old.ranges.items new.ranges.items (seen_stmts last c.in-If.yes ∷ seen_stmts last c.in-If.no ∷ []) false ex begin) _
    (λ begin k. if-built files old.count n last old.places.items new.places.items old.ranges.items new.ranges.items c.in-If.cond c.in-If.yes c.in-If.no ex begin k) made)

pub build_stmt-returns-in-None-clause-builds : goal.build_stmt-returns-in-None-clause-builds
build_stmt-returns-in-None-clause-builds t c =
    let old = c.args.self.now in
    let n = c.args.here.number in
    let last = c.args.here.last in
    let files = c.args.files.now in
    let never = never_first_of files in
    let ex = c.args.exits in
    let p1 = c.build_whens.new.self in
    let new = c.choose_last.new.self in
    let whens = c.in-Evaluate.whens in
    let ways = c.in_ok-ways-in-Evaluate.ways in
    let made = choice-added never old.count n c.choose_last.result old.places.items p1.places.items new.places.items old.ranges.items p1.ranges.items new.ranges.items (seen_branches last whens ++ seen_maybe last (None) ∷ []) false ex (ways ++ Some ex.after ∷ []) (ways ++ Some ex.after ∷ [])
    (branches-more never old.count n old.places.items p1.places.items p1.places.items old.ranges.items p1.ranges.items p1.ranges.items (seen_branches last whens) (seen_maybe last (None)) ex ex.after ways c.in_ok-ways-in-Evaluate.ensures.builds
    (build-none never old.count n p1.places.items p1.ranges.items ex))
    refl c.choose_last.ensures.ranges c.choose_last.ensures.added in
    same-stmt never old.count n c.choose_last.result old.places.items new.places.items old.ranges.items new.ranges.items ex (seen last c.args.stmt.now) _ (ap (seen last) (c.in-Evaluate.is ∙ ap (λ o. tree.Evaluate c.in-Evaluate.subject whens o) c.in-None.is) ∙ seen_evaluate last c.in-Evaluate.subject whens (None))
    (if-ok c.choose_last.result (λ begin. BuildsChoice never old.count n old.places.items new.places.items old.ranges.items new.ranges.items (seen_branches last whens ++ seen_maybe last (None) ∷ []) false ex begin) _
    (λ begin k. evaluate-built files old.count n last old.places.items new.places.items old.ranges.items new.ranges.items c.in-Evaluate.subject whens (None) ex begin k) made)

pub build_stmt-returns-in_ok-last-in-Some-clause-builds : goal.build_stmt-returns-in_ok-last-in-Some-clause-builds
build_stmt-returns-in_ok-last-in-Some-clause-builds t c =
    let old = c.args.self.now in
    let n = c.args.here.number in
    let last = c.args.here.last in
    let files = c.args.files.now in
    let never = never_first_of files in
    let ex = c.args.exits in
    let p1 = c.build_whens.new.self in
    let p2 = c.build_stmts-in-Some.new.self in
    let new = c.choose_last-in-Some.new.self in
    let whens = c.in-Evaluate.whens in
    let ways = c.in_ok-ways-in-Evaluate.ways in
    let made = choice-added never old.count n c.choose_last-in-Some.result old.places.items p2.places.items new.places.items old.ranges.items p2.ranges.items new.ranges.items (seen_branches last whens ++ seen_maybe last (Some c.in-Some.stmts) ∷ []) false ex (ways ++ Some c.in_ok-last-in-Some.last ∷ []) (ways ++ Some c.in_ok-last-in-Some.last ∷ [])
    (branches-more never old.count n old.places.items p1.places.items p2.places.items old.ranges.items p1.ranges.items p2.ranges.items (seen_branches last whens) (seen_maybe last (Some c.in-Some.stmts)) ex c.in_ok-last-in-Some.last ways c.in_ok-ways-in-Evaluate.ensures.builds
    (recount never old.count n p1.count p1.places.items p2.places.items p1.ranges.items p2.ranges.items (seen_stmts last c.in-Some.stmts) ex c.in_ok-last-in-Some.last c.in_ok-ways-in-Evaluate.ensures.count c.in_ok-last-in-Some.ensures.builds))
    refl c.choose_last-in-Some.ensures.ranges c.choose_last-in-Some.ensures.added in
    same-stmt never old.count n c.choose_last-in-Some.result old.places.items new.places.items old.ranges.items new.ranges.items ex (seen last c.args.stmt.now) _ (ap (seen last) (c.in-Evaluate.is ∙ ap (λ o. tree.Evaluate c.in-Evaluate.subject whens o) c.in-Some.is) ∙ seen_evaluate last c.in-Evaluate.subject whens (Some c.in-Some.stmts))
    (if-ok c.choose_last-in-Some.result (λ begin. BuildsChoice never old.count n old.places.items new.places.items old.ranges.items new.ranges.items (seen_branches last whens ++ seen_maybe last (Some c.in-Some.stmts) ∷ []) false ex begin) _
    (λ begin k. evaluate-built files old.count n last old.places.items new.places.items old.ranges.items new.ranges.items c.in-Evaluate.subject whens (Some c.in-Some.stmts) ex begin k) made)

pub build_stmt-returns-in-Loop-clause-builds : goal.build_stmt-returns-in-Loop-clause-builds
build_stmt-returns-in-Loop-clause-builds t c =
    let old = c.args.self.now in
    let n = c.args.here.number in
    let last = c.args.here.last in
    let files = c.args.files.now in
    let never = never_first_of files in
    let ex = c.args.exits in
    let new = c.build_loop.new.self in
    same-stmt never old.count n c.build_loop.result old.places.items new.places.items old.ranges.items new.ranges.items ex (seen last c.args.stmt.now) (loop_of (control_in c.in-Loop.control) (seen_stmts last c.in-Loop.body)) (ap (seen last) c.in-Loop.is ∙ seen_loop last c.in-Loop.control c.in-Loop.body)
    c.build_loop.ensures.builds

pub build_stmt-returns-in-Perform-clause-builds : goal.build_stmt-returns-in-Perform-clause-builds
build_stmt-returns-in-Perform-clause-builds t c =
    let old = c.args.self.now in
    let n = c.args.here.number in
    let last = c.args.here.last in
    let files = c.args.files.now in
    let never = never_first_of files in
    let ex = c.args.exits in
    let new = c.build_perform.new.self in
    same-stmt never old.count n c.build_perform.result old.places.items new.places.items old.ranges.items new.ranges.items ex (seen last c.args.stmt.now) (perform_of (control_in c.in-Perform.control) c.in-Perform.entry c.in-Perform.exit) (ap (seen last) c.in-Perform.is ∙ seen_perform last c.in-Perform.entry c.in-Perform.exit c.in-Perform.control)
    (if-ok c.build_perform.result _ (λ begin. Builds never old.count n old.places.items new.places.items old.ranges.items new.ranges.items (also (perform_of (control_in c.in-Perform.control) c.in-Perform.entry c.in-Perform.exit) none) ex begin) (λ begin k. k never) c.build_perform.ensures.builds)

pub build_stmt-returns-in-Go-clause-builds : goal.build_stmt-returns-in-Go-clause-builds
build_stmt-returns-in-Go-clause-builds t c =
    let old = c.args.self.now in
    let n = c.args.here.number in
    let last = c.args.here.last in
    let files = c.args.files.now in
    let never = never_first_of files in
    let ex = c.args.exits in
    let new = c.build_go.new.self in
    same-stmt never old.count n c.build_go.result old.places.items new.places.items old.ranges.items new.ranges.items ex (seen last c.args.stmt.now) (Go c.in-Go.to) (ap (seen last) c.in-Go.is ∙ seen_go last c.in-Go.to)
    (if-ok c.build_go.result _ (λ begin. Builds never old.count n old.places.items new.places.items old.ranges.items new.ranges.items (also (Go c.in-Go.to) none) ex begin) (λ begin k. k never) c.build_go.ensures.builds)

pub build_stmt-returns-in-GoDepending-clause-builds : goal.build_stmt-returns-in-GoDepending-clause-builds
build_stmt-returns-in-GoDepending-clause-builds t c =
    let old = c.args.self.now in
    let n = c.args.here.number in
    let last = c.args.here.last in
    let files = c.args.files.now in
    let never = never_first_of files in
    let ex = c.args.exits in
    let new = c.build_depending.new.self in
    let names = c.in-GoDepending.to in
    let chooser = Depending c.in-GoDepending.on (length names) in
    same-stmt never old.count n c.build_depending.result old.places.items new.places.items old.ranges.items new.ranges.items ex (seen last c.args.stmt.now) (GoDepending names chooser) (ap (seen last) c.in-GoDepending.is ∙ seen_go_depending last names c.in-GoDepending.on)
    (if-ok c.build_depending.result _ (λ begin. Builds never old.count n old.places.items new.places.items old.ranges.items new.ranges.items (also (GoDepending names chooser) none) ex begin)
    (λ begin k. subst (λ (ns : List ℕ). Builds never old.count n old.places.items new.places.items old.ranges.items new.ranges.items (also (GoDepending ns chooser) none) ex begin) c.as_slice.ensures (k never chooser)) c.build_depending.ensures.builds)

pub build_stmt-returns-in-NextSentence-clause-builds : goal.build_stmt-returns-in-NextSentence-clause-builds
build_stmt-returns-in-NextSentence-clause-builds t c =
    let old = c.args.self.now in
    let n = c.args.here.number in
    let last = c.args.here.last in
    let files = c.args.files.now in
    let never = never_first_of files in
    let ex = c.args.exits in
    let new = c.add.new.self in
    same-stmt never old.count n c.add.result old.places.items new.places.items old.ranges.items new.ranges.items ex (seen last c.args.stmt.now) (NextSentence) (ap (seen last) c.in-NextSentence.is ∙ seen_next_sentence last)
    (if-added c.add.result old.places.items new.places.items (Goes ex.leave) old.ranges.items new.ranges.items (λ ps rs k. Builds never old.count n old.places.items ps old.ranges.items rs (also (NextSentence) none) ex k)
    (build-leave never old.count n old.places.items old.ranges.items ex) c.add.ensures.ranges c.add.ensures.added)

pub build_stmt-returns-in-StopRun-clause-builds : goal.build_stmt-returns-in-StopRun-clause-builds
build_stmt-returns-in-StopRun-clause-builds t c =
    let old = c.args.self.now in
    let n = c.args.here.number in
    let last = c.args.here.last in
    let files = c.args.files.now in
    let never = never_first_of files in
    let ex = c.args.exits in
    let new = c.add-in-StopRun.new.self in
    same-stmt never old.count n c.add-in-StopRun.result old.places.items new.places.items old.ranges.items new.ranges.items ex (seen last c.args.stmt.now) (StopRun) (ap (seen last) c.in-StopRun.is ∙ seen_stop_run last)
    (if-added c.add-in-StopRun.result old.places.items new.places.items (Stops) old.ranges.items new.ranges.items (λ ps rs k. Builds never old.count n old.places.items ps old.ranges.items rs (also (StopRun) none) ex k)
    (build-stop never old.count n old.places.items old.ranges.items ex) c.add-in-StopRun.ensures.ranges c.add-in-StopRun.ensures.added)

pub build_stmt-returns-in-ExitParagraph-clause-builds : goal.build_stmt-returns-in-ExitParagraph-clause-builds
build_stmt-returns-in-ExitParagraph-clause-builds t c =
    let old = c.args.self.now in
    let n = c.args.here.number in
    let last = c.args.here.last in
    let files = c.args.files.now in
    let never = never_first_of files in
    let ex = c.args.exits in
    let new = c.build_exit_paragraph.new.self in
    same-stmt never old.count n c.build_exit_paragraph.result old.places.items new.places.items old.ranges.items new.ranges.items ex (seen last c.args.stmt.now) (ExitParagraph) (ap (seen last) c.in-ExitParagraph.is ∙ seen_exit_paragraph last)
    (if-ok c.build_exit_paragraph.result _ (λ begin. Builds never old.count n old.places.items new.places.items old.ranges.items new.ranges.items (also (ExitParagraph) none) ex begin) (λ begin k. k never) c.build_exit_paragraph.ensures.builds)

pub build_stmt-returns-in-ExitSection-clause-builds : goal.build_stmt-returns-in-ExitSection-clause-builds
build_stmt-returns-in-ExitSection-clause-builds t c =
    let old = c.args.self.now in
    let n = c.args.here.number in
    let last = c.args.here.last in
    let files = c.args.files.now in
    let never = never_first_of files in
    let ex = c.args.exits in
    let new = c.build_exit_section.new.self in
    same-stmt never old.count n c.build_exit_section.result old.places.items new.places.items old.ranges.items new.ranges.items ex (seen last c.args.stmt.now) (ExitSection last) (ap (seen last) c.in-ExitSection.is ∙ seen_exit_section last)
    (if-ok c.build_exit_section.result _ (λ begin. Builds never old.count n old.places.items new.places.items old.ranges.items new.ranges.items (also (ExitSection last) none) ex begin) (λ begin k. k never) c.build_exit_section.ensures.builds)

pub build_stmt-returns-after-cycle-clause-builds : goal.build_stmt-returns-after-cycle-clause-builds
build_stmt-returns-after-cycle-clause-builds t c =
    let old = c.args.self.now in
    let n = c.args.here.number in
    let last = c.args.here.last in
    let files = c.args.files.now in
    let never = never_first_of files in
    let ex = c.args.exits in
    let new = c.add-in-ExitPerform.new.self in
    let cycle = c.in-ExitPerform.cycle in
    let place : c.if-cycle.add ≡ (if cycle then ex.cycled else ex.broken) = elim c.if-cycle.branch [
      | build_stmt-then-cycle w ↦ w.add-is ∙ ap (λ b. if b then ex.cycled else ex.broken) (sym w.if-cycle.true)
      | build_stmt-else-cycle w ↦ w.add-is ∙ ap (λ b. if b then ex.cycled else ex.broken) (sym w.if-cycle.false)
    ] in
    same-stmt never old.count n c.add-in-ExitPerform.result old.places.items new.places.items old.ranges.items new.ranges.items ex (seen last c.args.stmt.now) (ExitPerform cycle) (ap (seen last) c.in-ExitPerform.is ∙ seen_exit_perform last cycle)
    (if-added c.add-in-ExitPerform.result old.places.items new.places.items (Goes c.if-cycle.add) old.ranges.items new.ranges.items (λ ps rs k. Builds never old.count n old.places.items ps old.ranges.items rs (also (ExitPerform cycle) none) ex k)
    (subst (λ (p : ℕ). Builds never old.count n old.places.items (old.places.items ++ Goes p ∷ []) old.ranges.items old.ranges.items (also (ExitPerform cycle) none) ex (length old.places.items)) (sym place) (build-exit-loop never old.count n old.places.items old.ranges.items ex cycle)) c.add-in-ExitPerform.ensures.ranges c.add-in-ExitPerform.ensures.added)

pub build_stmt-returns-in-Display-clause-builds : goal.build_stmt-returns-in-Display-clause-builds
build_stmt-returns-in-Display-clause-builds t c =
    let old = c.args.self.now in
    let n = c.args.here.number in
    let last = c.args.here.last in
    let files = c.args.files.now in
    let never = never_first_of files in
    let ex = c.args.exits in
    let r = c.add-in-Display in
    act-stmt never old.count n r.result old.places.items r.new.self.places.items old.ranges.items r.new.self.ranges.items ex (seen last c.args.stmt.now) (Own (tree.Display c.in-Display.items c.in-Display.advance)) (ap (seen last) c.in-Display.is ∙ seen_display last c.in-Display.items c.in-Display.advance) r.ensures.ranges r.ensures.added

pub build_stmt-returns-in-Move-clause-builds : goal.build_stmt-returns-in-Move-clause-builds
build_stmt-returns-in-Move-clause-builds t c =
    let old = c.args.self.now in
    let n = c.args.here.number in
    let last = c.args.here.last in
    let files = c.args.files.now in
    let never = never_first_of files in
    let ex = c.args.exits in
    let r = c.add-in-Move in
    act-stmt never old.count n r.result old.places.items r.new.self.places.items old.ranges.items r.new.self.ranges.items ex (seen last c.args.stmt.now) (move_of c.in-Move.from c.in-Move.to) (ap (seen last) c.in-Move.is ∙ seen_move last c.in-Move.from c.in-Move.to) r.ensures.ranges r.ensures.added

pub build_stmt-returns-in-SetTrue-clause-builds : goal.build_stmt-returns-in-SetTrue-clause-builds
build_stmt-returns-in-SetTrue-clause-builds t c =
    let old = c.args.self.now in
    let n = c.args.here.number in
    let last = c.args.here.last in
    let files = c.args.files.now in
    let never = never_first_of files in
    let ex = c.args.exits in
    let r = c.add-in-SetTrue in
    act-stmt never old.count n r.result old.places.items r.new.self.places.items old.ranges.items r.new.self.ranges.items ex (seen last c.args.stmt.now) (Own (tree.SetTrue c.in-SetTrue.field-0)) (ap (seen last) c.in-SetTrue.is ∙ seen_set_true last c.in-SetTrue.field-0) r.ensures.ranges r.ensures.added

pub build_stmt-returns-in-Opens-clause-builds : goal.build_stmt-returns-in-Opens-clause-builds
build_stmt-returns-in-Opens-clause-builds t c =
    let old = c.args.self.now in
    let n = c.args.here.number in
    let last = c.args.here.last in
    let files = c.args.files.now in
    let never = never_first_of files in
    let ex = c.args.exits in
    let r = c.add-in-Opens in
    act-stmt never old.count n r.result old.places.items r.new.self.places.items old.ranges.items r.new.self.ranges.items ex (seen last c.args.stmt.now) (Own (tree.Opens c.in-Opens.field-0)) (ap (seen last) c.in-Opens.is ∙ seen_opens last c.in-Opens.field-0) r.ensures.ranges r.ensures.added

pub build_stmt-returns-in-Closes-clause-builds : goal.build_stmt-returns-in-Closes-clause-builds
build_stmt-returns-in-Closes-clause-builds t c =
    let old = c.args.self.now in
    let n = c.args.here.number in
    let last = c.args.here.last in
    let files = c.args.files.now in
    let never = never_first_of files in
    let ex = c.args.exits in
    let r = c.add-in-Closes in
    act-stmt never old.count n r.result old.places.items r.new.self.places.items old.ranges.items r.new.self.ranges.items ex (seen last c.args.stmt.now) (Own (tree.Closes c.in-Closes.field-0)) (ap (seen last) c.in-Closes.is ∙ seen_closes last c.in-Closes.field-0) r.ensures.ranges r.ensures.added

pub build_stmt-returns-in-Write-clause-builds : goal.build_stmt-returns-in-Write-clause-builds
build_stmt-returns-in-Write-clause-builds t c =
    let old = c.args.self.now in
    let n = c.args.here.number in
    let last = c.args.here.last in
    let files = c.args.files.now in
    let never = never_first_of files in
    let ex = c.args.exits in
    let r = c.add-in-Write in
    act-stmt never old.count n r.result old.places.items r.new.self.places.items old.ranges.items r.new.self.ranges.items ex (seen last c.args.stmt.now) (Own (tree.Write c.in-Write.entry c.in-Write.from)) (ap (seen last) c.in-Write.is ∙ seen_write last c.in-Write.entry c.in-Write.from) r.ensures.ranges r.ensures.added

pub build_stmt-returns-in-Rewrite-clause-builds : goal.build_stmt-returns-in-Rewrite-clause-builds
build_stmt-returns-in-Rewrite-clause-builds t c =
    let old = c.args.self.now in
    let n = c.args.here.number in
    let last = c.args.here.last in
    let files = c.args.files.now in
    let never = never_first_of files in
    let ex = c.args.exits in
    let r = c.add-in-Rewrite in
    act-stmt never old.count n r.result old.places.items r.new.self.places.items old.ranges.items r.new.self.ranges.items ex (seen last c.args.stmt.now) (Own (tree.Rewrite c.in-Rewrite.entry c.in-Rewrite.from)) (ap (seen last) c.in-Rewrite.is ∙ seen_rewrite last c.in-Rewrite.entry c.in-Rewrite.from) r.ensures.ranges r.ensures.added

pub build_stmt-returns-in-Exit-clause-builds : goal.build_stmt-returns-in-Exit-clause-builds
build_stmt-returns-in-Exit-clause-builds t c =
    let old = c.args.self.now in
    let n = c.args.here.number in
    let last = c.args.here.last in
    let files = c.args.files.now in
    let never = never_first_of files in
    let ex = c.args.exits in
    let r = c.add-in-Exit in
    act-stmt never old.count n r.result old.places.items r.new.self.places.items old.ranges.items r.new.self.ranges.items ex (seen last c.args.stmt.now) (Own tree.Exit) (ap (seen last) c.in-Exit.is ∙ seen_exit last) r.ensures.ranges r.ensures.added

pub build_stmt-returns-in-Continue-clause-builds : goal.build_stmt-returns-in-Continue-clause-builds
build_stmt-returns-in-Continue-clause-builds t c =
    let old = c.args.self.now in
    let n = c.args.here.number in
    let last = c.args.here.last in
    let files = c.args.files.now in
    let never = never_first_of files in
    let ex = c.args.exits in
    let r = c.add-in-Continue in
    act-stmt never old.count n r.result old.places.items r.new.self.places.items old.ranges.items r.new.self.ranges.items ex (seen last c.args.stmt.now) (Own tree.Continue) (ap (seen last) c.in-Continue.is ∙ seen_continue last) r.ensures.ranges r.ensures.added

pub build_stmts-loop-at-init : goal.build_stmts-loop-at-init
build_stmts-loop-at-init t c =
    let old = c.args.self.now in
    let n = c.args.here.number in
    let last = c.args.here.last in
    let files = c.args.files.now in
    let never = never_first_of files in
    let ex = c.args.exits in
    let list = c.as_slice-list.result.now in
    record {
      count = refl;
      longer = omega arith;
      builds = subst (λ (ss : Stmts). Builds never old.count n old.places.items old.places.items old.ranges.items old.ranges.items ss ex ex.after) (sym (stmts-past last list (length list) (omega arith))) (build-none never old.count n old.places.items old.ranges.items ex);
    }

pub build_stmts-loop-at-preserved : goal.build_stmts-loop-at-preserved
build_stmts-loop-at-preserved t c =
    let old = c.args.self.now in
    let n = c.args.here.number in
    let last = c.args.here.last in
    let files = c.args.files.now in
    let never = never_first_of files in
    let ex = c.args.exits in
    let list = c.as_slice-list.result.now in
    let mid = c.loop-at.self in
    let new = c.build_stmt.new.self in
    let stmt = c.index-list-at.result in
    record {
      count = c.in_ok-next.ensures.count ∙ c.loop-at.invariant.count;
      longer = omega (arith, c.loop-at.invariant.longer, c.in_ok-next.ensures.longer);
      builds = subst (λ (ss : Stmts). Builds never old.count n old.places.items new.places.items old.ranges.items new.ranges.items ss ex c.in_ok-next.next) (sym (stmts-down last list c.loop-at.at stmt (omega (arith, c.loop-at-test.true)) (omega (arith, c.loop-at.auto.at)) c.index-list-at.is))
          (build-also never old.count n old.places.items mid.places.items new.places.items old.ranges.items mid.ranges.items new.ranges.items (seen last stmt) (seen_stmts last (drop c.loop-at.at list)) ex c.loop-at.next c.in_ok-next.next c.loop-at.invariant.builds
          (recount never old.count n mid.count mid.places.items new.places.items mid.ranges.items new.ranges.items (also (seen last stmt) none) (after_at ex c.loop-at.next) c.in_ok-next.next c.loop-at.invariant.count
          (subst (λ (x : Exits). Builds never mid.count n mid.places.items new.places.items mid.ranges.items new.ranges.items (also (seen last stmt) none) x c.in_ok-next.next) c.behind.ensures c.in_ok-next.ensures.builds)));
    }

pub build_stmts-returns-clause-builds : goal.build_stmts-returns-clause-builds
build_stmts-returns-clause-builds t c =
    let old = c.args.self.now in
    let n = c.args.here.number in
    let last = c.args.here.last in
    let files = c.args.files.now in
    let never = never_first_of files in
    let ex = c.args.exits in
    let mid = c.loop-at.self in
    subst (λ (ss : Stmts). Builds never old.count n old.places.items mid.places.items old.ranges.items mid.ranges.items ss ex c.loop-at.next)
    (stmts-whole last c.args.stmts.now c.as_slice-list.result.now c.loop-at.at c.as_slice-list.ensures (omega (arith, c.loop-at-test.false))) c.loop-at.invariant.builds

pub build_whens-loop-when-init : goal.build_whens-loop-when-init
build_whens-loop-when-init t c =
    let old = c.args.self.now in
    let n = c.args.here.number in
    let last = c.args.here.last in
    let files = c.args.files.now in
    let never = never_first_of files in
    let ex = c.args.exits in
    record {
      count = refl;
      longer = omega arith;
      builds = subst (λ (ws : List (Option ℕ)). BuildsBranches never old.count n old.places.items old.places.items old.ranges.items old.ranges.items [] ex ws) (sym c.new-ways.ensures) (branches-none never old.count n old.places.items old.ranges.items ex);
    }

pub build_whens-loop-when-preserved : goal.build_whens-loop-when-preserved
build_whens-loop-when-preserved t c =
    let old = c.args.self.now in
    let n = c.args.here.number in
    let last = c.args.here.last in
    let files = c.args.files.now in
    let never = never_first_of files in
    let ex = c.args.exits in
    let items = c.as_slice-when-items.result.now in
    let mid = c.loop-when.self in
    let new = c.build_stmts.new.self in
    let i = c.loop-when.when-index in
    let start = c.in_ok-start.start in
    let when = c.when-item.result in
    record {
      count = c.in_ok-start.ensures.count ∙ c.loop-when.invariant.count;
      longer = omega (arith, c.loop-when.invariant.longer, c.in_ok-start.ensures.longer);
      builds = subst (λ (ws : List (Option ℕ)). BuildsBranches never old.count n old.places.items new.places.items old.ranges.items new.ranges.items (seen_branches last (take (i + 1) items)) ex ws) (sym c.in_ok-push.ensures.ok)
          (subst (λ (bs : List Stmts). BuildsBranches never old.count n old.places.items new.places.items old.ranges.items new.ranges.items bs ex (c.loop-when.ways ++ Some start ∷ [])) (sym (whens-taken last items i when c.loop-when-test.true c.when-item.is))
          (branches-more never old.count n old.places.items mid.places.items new.places.items old.ranges.items mid.ranges.items new.ranges.items (seen_branches last (take i items)) (seen_stmts last (out-When when).stmts) ex start c.loop-when.ways c.loop-when.invariant.builds
          (recount never old.count n mid.count mid.places.items new.places.items mid.ranges.items new.ranges.items (seen_stmts last (out-When when).stmts) ex start c.loop-when.invariant.count c.in_ok-start.ensures.builds)));
    }

pub build_whens-returns-clause-builds : goal.build_whens-returns-clause-builds
build_whens-returns-clause-builds t c =
    let old = c.args.self.now in
    let n = c.args.here.number in
    let last = c.args.here.last in
    let files = c.args.files.now in
    let never = never_first_of files in
    let ex = c.args.exits in
    let mid = c.loop-when.self in
    subst (λ (bs : List Stmts). BuildsBranches never old.count n old.places.items mid.places.items old.ranges.items mid.ranges.items bs ex c.loop-when.ways)
    (whens-all last c.args.whens.now c.as_slice-when-items.result.now c.loop-when.when-index c.as_slice-when-items.ensures (omega (arith, c.loop-when-test.false))) c.loop-when.invariant.builds
