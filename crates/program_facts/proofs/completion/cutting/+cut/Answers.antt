use Rattle.std.proofs.Common.{◌≡◌, ◌+◌, ◌≤◌, ◌++◌, [], ◌∷◌, drop, length, true, false, None, Some, map, sym, ap, ◌∙◌, arith}
use Rattle.std.specs.Prelude.{is_some}
use Rattle.std.proofs.Math.ListN.{drop_of_length-le}
use Rattle.std.proofs.lemmas.List.{append-nil}
use Rattle.cob_tree.specs.declared.stmt.Arms.{out-Arms}
use Rattle.cob_tree.specs.declared.stmt.When.{roll-When}
use Rattle.cob_tree.specs.declared.stmt.Stmt.TheVariants.{Arith, Read, If, Evaluate, Loop}
use Rattle.control_flow_theory.specs.language.Control.{seen, seen_stmts, seen_when}
use Rattle.control_flow_theory.specs.lowering.Completes.{completes, cut, cuts}
use Rattle.program_facts.specs.completion.FlowFacts.{flow_facts_of}
use Rattle.program_facts.specs.declared.completion.facts.Facts.{Facts}
use Rattle.program_facts.specs.completion.Cutting.{cut_branch}
use Rattle.program_facts.proofs.completion_lemmas.CutLemmas.{joined, joined_none}
use Rattle.program_facts.proofs.completion_lemmas.CutRows.{arith_row, read_row, if_row, loop_row, evaluate_row, both_row, some_row, none_row, goes_on, ends_here, when_goes_on}
use Rattle.program_facts.proofs.completion.cutting.+cut.Goals as goal

pub cut_arms-returns-in_ok-second-in-Some-second : goal.cut_arms-returns-in_ok-second-in-Some-second
cut_arms-returns-in_ok-second-in-Some-second t c = λ last.
    let told = flow_facts_of c.args.files.now c.args.returning.now in
    let second = c.in_ok-second-in-Some-second.ensures last ∙ ap (λ ss. cuts told (seen_stmts last ss)) c.as_slice.ensures in
    both_row told last c.args.arms.now None (Some c.in_ok-second-in-Some-second.second)
    (none_row told last (out-Arms c.args.arms.now).first c.in-None.is)
    (some_row told last (out-Arms c.args.arms.now).second c.in-Some-second.stmts c.in_ok-second-in-Some-second.second c.in-Some-second.is second)

pub cut_arms-returns-in-None-second-2 : goal.cut_arms-returns-in-None-second-2
cut_arms-returns-in-None-second-2 t c = λ last.
    let told = flow_facts_of c.args.files.now c.args.returning.now in
    let first = c.in_ok-first-in-Some.ensures last ∙ ap (λ ss. cuts told (seen_stmts last ss)) c.as_slice-in-Some.ensures in
    both_row told last c.args.arms.now (Some c.in_ok-first-in-Some.first) None
    (some_row told last (out-Arms c.args.arms.now).first c.in-Some.stmts c.in_ok-first-in-Some.first c.in-Some.is first)
    (none_row told last (out-Arms c.args.arms.now).second c.in-None-second-2.is)

pub cut_arms-returns-in_ok-second-in-Some-second-2 : goal.cut_arms-returns-in_ok-second-in-Some-second-2
cut_arms-returns-in_ok-second-in-Some-second-2 t c = λ last.
    let told = flow_facts_of c.args.files.now c.args.returning.now in
    let first = c.in_ok-first-in-Some.ensures last ∙ ap (λ ss. cuts told (seen_stmts last ss)) c.as_slice-in-Some.ensures in
    let second = c.in_ok-second-in-Some-second-2.ensures last ∙ ap (λ ss. cuts told (seen_stmts last ss)) c.as_slice-in-Some-second-2.ensures in
    both_row told last c.args.arms.now (Some c.in_ok-first-in-Some.first) (Some c.in_ok-second-in-Some-second-2.second)
    (some_row told last (out-Arms c.args.arms.now).first c.in-Some.stmts c.in_ok-first-in-Some.first c.in-Some.is first)
    (some_row told last (out-Arms c.args.arms.now).second c.in-Some-second-2.stmts c.in_ok-second-in-Some-second-2.second c.in-Some-second-2.is second)

pub cut_stmt-returns-in_ok-arms-in-Arith : goal.cut_stmt-returns-in_ok-arms-in-Arith
cut_stmt-returns-in_ok-arms-in-Arith t c = λ last.
    let told = flow_facts_of c.args.files.now c.args.returning.now in
    ap (λ calc. seen last (Arith calc c.in_ok-into-in-Arith.into c.in_ok-arms-in-Arith.arms)) c.in_ok-calc-in-Arith.ensures
    ∙ ap (λ into. seen last (Arith c.in-Arith.calc into c.in_ok-arms-in-Arith.arms)) c.in_ok-into-in-Arith.ensures
    ∙ arith_row told last c.in-Arith.calc c.in-Arith.into c.in-Arith.arms c.in_ok-arms-in-Arith.arms (c.in_ok-arms-in-Arith.ensures last)
    ∙ ap (λ s. cut told (seen last s)) (sym c.in-Arith.is)

pub cut_stmt-returns-in_ok-arms-in-Read : goal.cut_stmt-returns-in_ok-arms-in-Read
cut_stmt-returns-in_ok-arms-in-Read t c = λ last.
    let told = flow_facts_of c.args.files.now c.args.returning.now in
    ap (λ into. seen last (Read c.in-Read.file into c.in_ok-arms-in-Read.arms)) c.in_ok-into-in-Read.ensures
    ∙ read_row told last c.in-Read.file c.in-Read.into c.in-Read.arms c.in_ok-arms-in-Read.arms (c.in_ok-arms-in-Read.ensures last)
    ∙ ap (λ s. cut told (seen last s)) (sym c.in-Read.is)

pub cut_stmt-returns-in_ok-no-in-If : goal.cut_stmt-returns-in_ok-no-in-If
cut_stmt-returns-in_ok-no-in-If t c = λ last.
    let told = flow_facts_of c.args.files.now c.args.returning.now in
    let met = c.in_ok-yes-in-If.ensures last ∙ ap (λ ss. cuts told (seen_stmts last ss)) c.as_slice.ensures in
    let unmet = c.in_ok-no-in-If.ensures last ∙ ap (λ ss. cuts told (seen_stmts last ss)) c.as_slice-in-If.ensures in
    ap (λ cond. seen last (If cond c.in_ok-yes-in-If.yes c.in_ok-no-in-If.no)) c.in_ok-cond-in-If.ensures
    ∙ if_row told last c.in-If.cond c.in-If.yes c.in_ok-yes-in-If.yes c.in-If.no c.in_ok-no-in-If.no met unmet
    ∙ ap (λ s. cut told (seen last s)) (sym c.in-If.is)

pub cut_stmt-returns-in-None : goal.cut_stmt-returns-in-None
cut_stmt-returns-in-None t c = λ last.
    let told = flow_facts_of c.args.files.now c.args.returning.now in
    let whens = c.in_ok-whens-in-Evaluate.ensures last ∙ ap (λ ws. map (cut_branch told) (map (seen_when last) ws)) c.as_slice-in-Evaluate.ensures in
    ap (λ subject. seen last (Evaluate subject c.in_ok-whens-in-Evaluate.whens None)) c.in_ok-subject-in-Evaluate.ensures
    ∙ evaluate_row told last c.in-Evaluate.subject c.in-Evaluate.whens c.in_ok-whens-in-Evaluate.whens c.in-Evaluate.other None whens
    (none_row told last c.in-Evaluate.other c.in-None.is) (ap is_some (sym c.in-None.is))
    ∙ ap (λ s. cut told (seen last s)) (sym c.in-Evaluate.is)

pub cut_stmt-returns-in_ok-stmts-in-Some : goal.cut_stmt-returns-in_ok-stmts-in-Some
cut_stmt-returns-in_ok-stmts-in-Some t c = λ last.
    let told = flow_facts_of c.args.files.now c.args.returning.now in
    let whens = c.in_ok-whens-in-Evaluate.ensures last ∙ ap (λ ws. map (cut_branch told) (map (seen_when last) ws)) c.as_slice-in-Evaluate.ensures in
    let other = c.in_ok-stmts-in-Some.ensures last ∙ ap (λ ss. cuts told (seen_stmts last ss)) c.as_slice-in-Some.ensures in
    ap (λ subject. seen last (Evaluate subject c.in_ok-whens-in-Evaluate.whens (Some c.in_ok-stmts-in-Some.stmts))) c.in_ok-subject-in-Evaluate.ensures
    ∙ evaluate_row told last c.in-Evaluate.subject c.in-Evaluate.whens c.in_ok-whens-in-Evaluate.whens c.in-Evaluate.other (Some c.in_ok-stmts-in-Some.stmts) whens
    (some_row told last c.in-Evaluate.other c.in-Some.stmts c.in_ok-stmts-in-Some.stmts c.in-Some.is other) (ap is_some (sym c.in-Some.is))
    ∙ ap (λ s. cut told (seen last s)) (sym c.in-Evaluate.is)

pub cut_stmt-returns-in_ok-body-in-Loop : goal.cut_stmt-returns-in_ok-body-in-Loop
cut_stmt-returns-in_ok-body-in-Loop t c = λ last.
    let told = flow_facts_of c.args.files.now c.args.returning.now in
    let body = c.in_ok-body-in-Loop.ensures last ∙ ap (λ ss. cuts told (seen_stmts last ss)) c.as_slice-in-Loop.ensures in
    ap (λ control. seen last (Loop control c.in_ok-body-in-Loop.body)) c.in_ok-control-in-Loop.ensures
    ∙ loop_row told last c.in-Loop.control c.in-Loop.body c.in_ok-body-in-Loop.body body
    ∙ ap (λ s. cut told (seen last s)) (sym c.in-Loop.is)

pub cut_stmts-returns-then-not-facts : goal.cut_stmts-returns-then-not-facts
cut_stmts-returns-then-not-facts t c = λ last.
    let told = flow_facts_of c.args.files.now c.args.returning.now in
    let stops : completes told (seen last c.stmt-item.result) ≡ false =
    ap (λ (f : Facts). f.completes) (sym (c.stmt_facts-facts.ensures last)) ∙ c.if-not-facts.true in
    ap (seen_stmts last) c.in_ok-push.ensures.ok
    ∙ ends_here told last c.args.stmts.now c.loop-stmt.stmt-index c.stmt-item.result c.in_ok-cut_stmt.field-0 c.loop-stmt.made c.loop-stmt-test.true c.stmt-item.is (c.in_ok-cut_stmt.ensures last) stops
    ∙ c.loop-stmt.invariant last

pub cut_stmts-loop-stmt-preserved : goal.cut_stmts-loop-stmt-preserved
cut_stmts-loop-stmt-preserved t c = λ last.
    let told = flow_facts_of c.args.files.now c.args.returning.now in
    let through : completes told (seen last c.stmt-item.result) ≡ true =
    ap (λ (f : Facts). f.completes) (sym (c.stmt_facts-facts.ensures last)) ∙ c.if-not-facts.false in
    ap (λ ss. joined (seen_stmts last ss) (cuts told (seen_stmts last (drop (c.loop-stmt.stmt-index + 1) c.args.stmts.now)))) c.in_ok-push.ensures.ok
    ∙ goes_on told last c.args.stmts.now c.loop-stmt.stmt-index c.stmt-item.result c.in_ok-cut_stmt.field-0 c.loop-stmt.made c.loop-stmt-test.true c.stmt-item.is (c.in_ok-cut_stmt.ensures last) through
    ∙ c.loop-stmt.invariant last

pub cut_stmts-returns : goal.cut_stmts-returns
cut_stmts-returns t c = λ last.
    let told = flow_facts_of c.args.files.now c.args.returning.now in
    let over : length c.args.stmts.now ≤ c.loop-stmt.stmt-index = omega (arith, c.loop-stmt-test.false) in
    sym (joined_none (seen_stmts last c.loop-stmt.made))
    ∙ ap (λ ss. joined (seen_stmts last c.loop-stmt.made) (cuts told (seen_stmts last ss))) (sym (drop_of_length-le c.args.stmts.now over))
    ∙ c.loop-stmt.invariant last

pub cut_whens-loop-when-preserved : goal.cut_whens-loop-when-preserved
cut_whens-loop-when-preserved t c = λ last.
    let told = flow_facts_of c.args.files.now c.args.returning.now in
    let i = c.loop-when.when-index in
    let rest = map (cut_branch told) (map (seen_when last) (drop (i + 1) c.args.whens.now)) in
    let stmts = c.in_ok-stmts.ensures last ∙ ap (λ ss. cuts told (seen_stmts last ss)) c.as_slice.ensures in
    ap (λ ws. map (seen_when last) ws ++ rest) c.in_ok-push.ensures.ok
    ∙ ap (λ tests. map (seen_when last) (c.loop-when.made ++ roll-When (record { tests = tests; stmts = c.in_ok-stmts.stmts }) ∷ []) ++ rest) c.in_ok-tests.ensures
    ∙ when_goes_on told last c.args.whens.now i c.when-item.result c.in_ok-stmts.stmts c.loop-when.made c.loop-when-test.true c.when-item.is stmts
    ∙ c.loop-when.invariant last

pub cut_whens-returns : goal.cut_whens-returns
cut_whens-returns t c = λ last.
    let told = flow_facts_of c.args.files.now c.args.returning.now in
    let over : length c.args.whens.now ≤ c.loop-when.when-index = omega (arith, c.loop-when-test.false) in
    sym (append-nil (map (seen_when last) c.loop-when.made))
    ∙ ap (λ ws. map (seen_when last) c.loop-when.made ++ map (cut_branch told) (map (seen_when last) ws)) (sym (drop_of_length-le c.args.whens.now over))
    ∙ c.loop-when.invariant last
