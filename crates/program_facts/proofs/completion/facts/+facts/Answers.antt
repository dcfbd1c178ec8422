use Rattle.std.proofs.Math.ListN.{drop_of_length-le}
use Rattle.std.proofs.lemmas.Bool.{not-true}
use Rattle.std.proofs.Common.{◌≡◌, ◌+◌, ◌≤◌, not, length, drop, false, if◌then◌else◌, map, sym, ap, ◌∙◌, arith}
use Rattle.std.specs.Prelude.{slice_get, is_some}
use Rattle.cob_tree.specs.declared.stmt.Arms.{out-Arms}
use Rattle.control_flow_theory.specs.language.Language.{done}
use Rattle.control_flow_theory.specs.language.Control.{seen, seen_stmts, seen_when, arm_before, else_of, branches_before, control_in}
use Rattle.program_facts.specs.completion.FlowFacts.{flow_facts_of, status_missing}
use Rattle.program_facts.specs.completion.Facts.{facts_of, facts_of_all, facts_of_arms, behind, beside, missing_arm}
use Rattle.program_facts.specs.completion.Seen.{loop_facts}
use Rattle.program_facts.proofs.completion_lemmas.FactLemmas.{behind_assoc, behind_nothing, behind_shut, beside_assoc, beside_none}
use Rattle.program_facts.proofs.completion_lemmas.FactRows.{stmts_step, whens_step, arm_facts, if_facts, both_none, both_some, arm_none, arm_some, else_some, loop_row, evaluate_row, read_row, arith_row}
use Rattle.program_facts.proofs.completion.facts.+facts.Goals as goal
use Rattle.program_facts.proofs.completion.facts.+facts.Goals.{both_facts-in-None, both_facts-in-Some, stmt_facts-in-None, stmt_facts-in-Some, stmt_facts-then-is_none, stmt_facts-else-is_none}

pub both_facts-returns-in-None-first : goal.both_facts-returns-in-None-first
both_facts-returns-in-None-first t c = λ last.
    let told = flow_facts_of c.args.files.now c.args.returning.now in
    let second : c.match-arms.second ≡ arm_facts told last false (out-Arms c.args.arms.now).second = elim c.match-arms.branch [
      | both_facts-in-None w ↦ w.second-is ∙ w.missing_arm-second.ensures ∙ ap (missing_arm false) w.no_arms.ensures ∙ arm_none told last false ∙ ap (arm_facts told last false) (sym w.in-None.is)
      | both_facts-in-Some w ↦ w.second-is ∙ w.stmts_facts-second.ensures last ∙ ap (λ ss. facts_of_all told (seen_stmts last ss)) w.as_slice.ensures ∙ arm_some told last false w.in-Some.stmts ∙ ap (arm_facts told last false) (sym w.in-Some.is)
    ] in
    c.missing_arm.ensures ∙ both_none told last c.args.is_dead c.args.arms.now c.match-arms.second c.in-None-first.is second

pub both_facts-returns-in-Some-first : goal.both_facts-returns-in-Some-first
both_facts-returns-in-Some-first t c = λ last.
    let told = flow_facts_of c.args.files.now c.args.returning.now in
    let second : c.match-arms.second ≡ arm_facts told last false (out-Arms c.args.arms.now).second = elim c.match-arms.branch [
      | both_facts-in-None w ↦ w.second-is ∙ w.missing_arm-second.ensures ∙ ap (missing_arm false) w.no_arms.ensures ∙ arm_none told last false ∙ ap (arm_facts told last false) (sym w.in-None.is)
      | both_facts-in-Some w ↦ w.second-is ∙ w.stmts_facts-second.ensures last ∙ ap (λ ss. facts_of_all told (seen_stmts last ss)) w.as_slice.ensures ∙ arm_some told last false w.in-Some.stmts ∙ ap (arm_facts told last false) (sym w.in-Some.is)
    ] in
    let first = c.stmts_facts.ensures last ∙ ap (λ ss. facts_of_all told (seen_stmts last ss)) c.as_slice-in-Some-first.ensures in
    c.beside.ensures ∙ both_some told last c.args.is_dead c.args.arms.now c.in-Some-first.stmts c.stmts_facts.result c.match-arms.second c.in-Some-first.is first second

pub else_facts-returns : goal.else_facts-returns
else_facts-returns t c = λ last.
    c.stmts_facts.ensures last ∙ else_some (flow_facts_of c.args.files.now c.args.returning.now) last c.args.stmts.now (omega (arith, c.if-stmts-eq0.false))

pub stmt_facts-returns-in-Arith : goal.stmt_facts-returns-in-Arith
stmt_facts-returns-in-Arith t c = λ last.
    c.both_facts.ensures last ∙ arith_row c.args.files.now c.args.returning.now last c.in-Arith.calc c.in-Arith.into c.in-Arith.arms
    ∙ ap (λ s. facts_of (flow_facts_of c.args.files.now c.args.returning.now) (seen last s)) (sym c.in-Arith.is)

pub stmt_facts-returns-after-is_none : goal.stmt_facts-returns-after-is_none
stmt_facts-returns-after-is_none t c = λ last.
    let dead : c.if-is_none.is_dead ≡ (if is_some (out-Arms c.in-Read.arms).first then false else status_missing (slice_get c.args.files.now c.in-Read.file)) = elim c.if-is_none.branch [
      | stmt_facts-then-is_none w ↦ w.is_dead-is ∙ w.ends_at_end-is_dead.ensures ∙ sym (ap (λ b. if b then false else status_missing (slice_get c.args.files.now c.in-Read.file)) (c.is_none.ensures ∙ ap not w.if-is_none.true))
      | stmt_facts-else-is_none w ↦ w.is_dead-is ∙ w.if-is_none.false ∙ sym (ap (λ b. if b then false else status_missing (slice_get c.args.files.now c.in-Read.file)) (c.is_none.ensures ∙ ap not w.if-is_none.false))
    ] in
    c.both_facts-in-Read.ensures last ∙ read_row c.args.files.now c.args.returning.now last c.in-Read.file c.in-Read.into c.in-Read.arms c.if-is_none.is_dead dead
    ∙ ap (λ s. facts_of (flow_facts_of c.args.files.now c.args.returning.now) (seen last s)) (sym c.in-Read.is)

pub stmt_facts-returns-in-If : goal.stmt_facts-returns-in-If
stmt_facts-returns-in-If t c = λ last.
    let told = flow_facts_of c.args.files.now c.args.returning.now in
    let met = c.stmts_facts-met.ensures last ∙ ap (λ ss. facts_of_all told (seen_stmts last ss)) c.as_slice.ensures in
    let unmet = c.else_facts-unmet.ensures last ∙ ap (λ ss. facts_of_arms told false (arm_before (else_of (map (seen last) ss)) done)) c.as_slice-in-If.ensures in
    c.beside.ensures ∙ ap (λ f. beside f c.else_facts-unmet.result) met ∙ ap (beside (facts_of_all told (seen_stmts last c.in-If.yes))) unmet
    ∙ if_facts told last c.in-If.cond c.in-If.yes c.in-If.no ∙ ap (λ s. facts_of told (seen last s)) (sym c.in-If.is)

pub stmt_facts-returns-after-other : goal.stmt_facts-returns-after-other
stmt_facts-returns-after-other t c = λ last.
    let told = flow_facts_of c.args.files.now c.args.returning.now in
    let branches = c.whens_facts-branches.ensures last ∙ ap (λ ws. facts_of_arms told false (branches_before (map (seen_when last) ws) done)) c.as_slice-in-Evaluate.ensures in
    let other : c.match-other.other ≡ arm_facts told last false c.in-Evaluate.other = elim c.match-other.branch [
      | stmt_facts-in-None w ↦ w.other-is ∙ w.missing_arm-other.ensures ∙ ap (missing_arm false) w.no_arms.ensures ∙ arm_none told last false ∙ ap (arm_facts told last false) (sym w.in-None.is)
      | stmt_facts-in-Some w ↦ w.other-is ∙ w.stmts_facts-other.ensures last ∙ ap (λ ss. facts_of_all told (seen_stmts last ss)) w.as_slice-in-Some.ensures ∙ arm_some told last false w.in-Some.stmts ∙ ap (arm_facts told last false) (sym w.in-Some.is)
    ] in
    c.beside-in-Evaluate.ensures ∙ ap (λ f. beside f c.match-other.other) branches
    ∙ ap (beside (facts_of_arms told false (branches_before (map (seen_when last) c.in-Evaluate.whens) done))) other
    ∙ evaluate_row c.args.files.now c.args.returning.now last c.in-Evaluate.subject c.in-Evaluate.whens c.in-Evaluate.other
    ∙ ap (λ s. facts_of told (seen last s)) (sym c.in-Evaluate.is)

pub stmt_facts-returns-in-Loop : goal.stmt_facts-returns-in-Loop
stmt_facts-returns-in-Loop t c = λ last.
    let told = flow_facts_of c.args.files.now c.args.returning.now in
    let body = c.stmts_facts-body.ensures last ∙ ap (λ ss. facts_of_all told (seen_stmts last ss)) c.as_slice-in-Loop.ensures in
    c.loop_facts.ensures ∙ ap (loop_facts (control_in c.in-Loop.control)) body ∙ loop_row told last c.in-Loop.control c.in-Loop.body
    ∙ ap (λ s. facts_of told (seen last s)) (sym c.in-Loop.is)

pub stmts_facts-loop-stmt-preserved : goal.stmts_facts-loop-stmt-preserved
stmts_facts-loop-stmt-preserved t c = λ last.
    let told = flow_facts_of c.args.files.now c.args.returning.now in
    let i = c.loop-stmt.stmt-index in
    let later = facts_of_all told (seen_stmts last (drop (i + 1) c.args.stmts.now)) in
    let step = stmts_step told last c.args.stmts.now i c.stmt-item.result c.stmt_facts.result c.loop-stmt-test.true c.stmt-item.is (c.stmt_facts.ensures last) in
    ap (λ f. behind f later) c.behind-facts.ensures
    ∙ behind_assoc c.loop-stmt.facts c.stmt_facts.result later
    ∙ ap (behind c.loop-stmt.facts) step
    ∙ c.loop-stmt.invariant last

pub stmts_facts-returns-then-not-facts : goal.stmts_facts-returns-then-not-facts
stmts_facts-returns-then-not-facts t c = λ last.
    let told = flow_facts_of c.args.files.now c.args.returning.now in
    let i = c.loop-stmt.stmt-index in
    let later = facts_of_all told (seen_stmts last (drop (i + 1) c.args.stmts.now)) in
    let step = stmts_step told last c.args.stmts.now i c.stmt-item.result c.stmt_facts.result c.loop-stmt-test.true c.stmt-item.is (c.stmt_facts.ensures last) in
    sym (behind_shut c.behind-facts.result later (not-true c.behind-facts.result.completes c.if-not-facts.true))
    ∙ ap (λ f. behind f later) c.behind-facts.ensures
    ∙ behind_assoc c.loop-stmt.facts c.stmt_facts.result later
    ∙ ap (behind c.loop-stmt.facts) step
    ∙ c.loop-stmt.invariant last

pub stmts_facts-returns : goal.stmts_facts-returns
stmts_facts-returns t c = λ last.
    let told = flow_facts_of c.args.files.now c.args.returning.now in
    let i = c.loop-stmt.stmt-index in
    let over : length c.args.stmts.now ≤ i = omega (arith, c.loop-stmt-test.false) in
    sym (behind_nothing c.loop-stmt.facts)
    ∙ ap (λ ss. behind c.loop-stmt.facts (facts_of_all told (seen_stmts last ss))) (sym (drop_of_length-le c.args.stmts.now over))
    ∙ c.loop-stmt.invariant last

pub whens_facts-loop-when-preserved : goal.whens_facts-loop-when-preserved
whens_facts-loop-when-preserved t c = λ last.
    let told = flow_facts_of c.args.files.now c.args.returning.now in
    let i = c.loop-when.when-index in
    let later = facts_of_arms told false (branches_before (map (seen_when last) (drop (i + 1) c.args.whens.now)) done) in
    let one = c.stmts_facts.ensures last ∙ ap (λ ss. facts_of_all told (seen_stmts last ss)) c.as_slice.ensures in
    let step = whens_step told last c.args.whens.now i c.when-item.result c.stmts_facts.result c.loop-when-test.true c.when-item.is one in
    ap (λ f. beside f later) c.beside-facts.ensures
    ∙ beside_assoc c.loop-when.facts c.stmts_facts.result later
    ∙ ap (beside c.loop-when.facts) step
    ∙ c.loop-when.invariant last

pub whens_facts-returns : goal.whens_facts-returns
whens_facts-returns t c = λ last.
    let told = flow_facts_of c.args.files.now c.args.returning.now in
    let i = c.loop-when.when-index in
    let over : length c.args.whens.now ≤ i = omega (arith, c.loop-when-test.false) in
    sym (beside_none c.loop-when.facts)
    ∙ ap (λ ws. beside c.loop-when.facts (facts_of_arms told false (branches_before (map (seen_when last) ws) done))) (sym (drop_of_length-le c.args.whens.now over))
    ∙ c.loop-when.invariant last
