use Rattle.std.proofs.lemmas.Result.{err_from_is_err_and}
use Rattle.cobol_run.specs.Plan.{declared_by}
use Rattle.cobol_run.proofs.FiledLemmas.{closes_break, closes_keep, closes_over, opens_break, opens_keep, opens_over, rewritten_break, rewritten_keep, rewritten_over, written_break, written_keep, written_over}
use Rattle.cobol_run.proofs.ReadLemmas.{arm_break, read_break, read_keep, read_over}
use Rattle.cobol_run.proofs.filing.filed.Goals as goal

pub returns-in-Opens-clause-over : goal.returns-in-Opens-clause-over
returns-in-Opens-clause-over g c = λ world outer over.
    opens_over (declared_by c.args.plan.now) c.args.stmt.now c.args.held.now.store world _ c.all_opened.result c.all_opened.new.store _ _ c.args.frames.now _ _ c.as_slice-openings.ensures c.in-Opens.is (c.all_opened.ensures.does world over)

pub returns-in-Closes-clause-over : goal.returns-in-Closes-clause-over
returns-in-Closes-clause-over g c = λ world outer over.
    closes_over (declared_by c.args.plan.now) c.args.stmt.now c.args.held.now.store world _ c.all_shut.result c.all_shut.new.store _ _ c.args.frames.now _ _ c.as_slice.ensures c.in-Closes.is (c.all_shut.ensures.does world over)

pub returns-in-Write-clause-over : goal.returns-in-Write-clause-over
returns-in-Write-clause-over g c = λ world outer over.
    written_over (declared_by c.args.plan.now) c.args.stmt.now c.args.held.now.store world _ c.written.result c.written.new.store _ _ c.args.frames.now _ _ _ c.as_ref.ensures.value c.in-Write.is (c.written.ensures.does world over)

pub returns-in-Rewrite-clause-over : goal.returns-in-Rewrite-clause-over
returns-in-Rewrite-clause-over g c = λ world outer over.
    rewritten_over (declared_by c.args.plan.now) c.args.stmt.now c.args.held.now.store world _ c.rewritten.result c.rewritten.new.store _ _ c.args.frames.now _ _ _ c.as_ref-in-Rewrite.ensures.value c.in-Rewrite.is (c.rewritten.ensures.does world over)

pub returns-in_ok-done-in-Read-clause-over : goal.returns-in_ok-done-in-Read-clause-over
returns-in_ok-done-in-Read-clause-over g c = λ world outer over.
    read_over (declared_by c.args.plan.now) _ _ _ c.args.held.now.store world c.args.stmt.now c.in-Read.is c.in_ok-done-in-Read.done c.push_arm.result c.read_one.new.store _ _ _ c.args.frames.now c.push_arm.new.frames _ _ _ c.place_of.ensures c.is_some.ensures c.has_arms.ensures (c.in_ok-done-in-Read.ensures.does world over) c.push_arm.ensures.same c.push_arm.ensures.rest

pub returns-in-Opens-clause-breaks : goal.returns-in-Opens-clause-breaks
returns-in-Opens-clause-breaks g c = λ world outer over.
    opens_break (declared_by c.args.plan.now) c.args.stmt.now c.args.held.now.store world _ c.all_opened.result _ _ _ _ _ c.as_slice-openings.ensures c.in-Opens.is (c.all_opened.ensures.breaks world over)

pub returns-in-Closes-clause-breaks : goal.returns-in-Closes-clause-breaks
returns-in-Closes-clause-breaks g c = λ world outer over.
    closes_break (declared_by c.args.plan.now) c.args.stmt.now c.args.held.now.store world _ c.all_shut.result _ _ _ _ _ c.as_slice.ensures c.in-Closes.is (c.all_shut.ensures.breaks world over)

pub returns-in-Write-clause-breaks : goal.returns-in-Write-clause-breaks
returns-in-Write-clause-breaks g c = λ world outer over.
    written_break (declared_by c.args.plan.now) c.args.stmt.now c.args.held.now.store world _ c.written.result _ _ _ _ _ _ c.as_ref.ensures.value c.in-Write.is (c.written.ensures.breaks world over)

pub returns-in-Rewrite-clause-breaks : goal.returns-in-Rewrite-clause-breaks
returns-in-Rewrite-clause-breaks g c = λ world outer over.
    rewritten_break (declared_by c.args.plan.now) c.args.stmt.now c.args.held.now.store world _ c.rewritten.result _ _ _ _ _ _ c.as_ref-in-Rewrite.ensures.value c.in-Rewrite.is (c.rewritten.ensures.breaks world over)

pub returns-in_ok-done-in-Read-clause-breaks : goal.returns-in_ok-done-in-Read-clause-breaks
returns-in_ok-done-in-Read-clause-breaks g c = λ world outer over.
    arm_break (declared_by c.args.plan.now) _ _ _ c.args.held.now.store world c.args.stmt.now c.in-Read.is c.in_ok-done-in-Read.done c.push_arm.result c.read_one.new.store _ _ _ _ _ _ _ c.place_of.ensures c.is_some.ensures (c.in_ok-done-in-Read.ensures.does world over) c.push_arm.ensures.error

pub returns-in_err-done-in-Read-clause-breaks : goal.returns-in_err-done-in-Read-clause-breaks
returns-in_err-done-in-Read-clause-breaks g c = λ world outer over.
    let p = err_from_is_err_and c.from_residual.result c.from_residual.ensures.1 in
    rw (p.1, p.2)
    (read_break (declared_by c.args.plan.now) _ _ _ c.args.held.now.store world c.args.stmt.now c.in-Read.is c.in_err-done-in-Read.field-0.0 _ _ _ _ _ _ _ c.place_of.ensures c.is_some.ensures (c.in_err-done-in-Read.ensures.breaks world over))

pub returns-in-Opens-clause-logged : goal.returns-in-Opens-clause-logged
returns-in-Opens-clause-logged g c = λ world last outer over.
    opens_keep (declared_by c.args.plan.now) c.args.stmt.now c.args.held.now.store world c.all_opened.result c.args.work.now c.all_opened.new.work last _ _ c.as_slice-openings.ensures c.in-Opens.is (c.all_opened.ensures.logged world over)

pub returns-in-Closes-clause-logged : goal.returns-in-Closes-clause-logged
returns-in-Closes-clause-logged g c = λ world last outer over.
    closes_keep (declared_by c.args.plan.now) c.args.stmt.now c.args.held.now.store world c.all_shut.result c.args.work.now c.all_shut.new.work last _ _ c.as_slice.ensures c.in-Closes.is (c.all_shut.ensures.logged world over)

pub returns-in-Write-clause-logged : goal.returns-in-Write-clause-logged
returns-in-Write-clause-logged g c = λ world last outer over.
    written_keep (declared_by c.args.plan.now) c.args.stmt.now c.args.held.now.store world c.written.result c.args.work.now c.written.new.work last _ _ _ c.as_ref.ensures.value c.in-Write.is (c.written.ensures.logged world over)

pub returns-in-Rewrite-clause-logged : goal.returns-in-Rewrite-clause-logged
returns-in-Rewrite-clause-logged g c = λ world last outer over.
    rewritten_keep (declared_by c.args.plan.now) c.args.stmt.now c.args.held.now.store world c.rewritten.result c.args.work.now c.rewritten.new.work last _ _ _ c.as_ref-in-Rewrite.ensures.value c.in-Rewrite.is (c.rewritten.ensures.logged world over)

pub returns-in_ok-done-in-Read-clause-logged : goal.returns-in_ok-done-in-Read-clause-logged
returns-in_ok-done-in-Read-clause-logged g c = λ world last outer over.
    read_keep (declared_by c.args.plan.now) _ _ _ c.args.held.now.store world c.args.stmt.now c.in-Read.is c.in_ok-done-in-Read.done c.push_arm.result c.args.work.now c.read_one.new.work last _ _ _ c.place_of.ensures c.is_some.ensures (c.in_ok-done-in-Read.ensures.logged world over)
