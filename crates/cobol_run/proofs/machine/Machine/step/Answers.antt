use Rattle.std.proofs.lemmas.Result.{err_from_is_err_and}
use Rattle.std.proofs.Common.{◌∙◌, ap, refl}
use Rattle.cob_act.specs.declared.files.work.FileWork.{FileWork}
use Rattle.cobol_run.specs.Frames.{heads, last_of, rest_of}
use Rattle.cobol_run.specs.Machine.{state_in}
use Rattle.cobol_run.specs.Plan.{declared_by}
use Rattle.cobol_run.specs.Points.{operations_in}
use Rattle.cobol_run.proofs.FilingLemmas.{next_none, steps_none}
use Rattle.cobol_run.proofs.MachineLemmas.{files_breaks, files_shows, files_step, own_shows, own_step, plain_step}
use Rattle.cobol_run.proofs.OverRunLemmas.{live_breaks, not_begun}
use Rattle.cobol_run.proofs.FallLemmas.{none_fell}
use Rattle.cobol_run.proofs.machine.Machine.step.Goals as goal

pub returns-in-None-clause-step : goal.returns-in-None-clause-step
returns-in-None-clause-step g c =
    let last = last_of c.args.self.now.plan.program.now c.args.self.now.paragraph in
    plain_step c.args.self.now c.next.new.frames c.clear.new.shown c.head_step.new.self c.in_ok-head.head
    (c.in_ok-head.ensures.rest last) (c.in_ok-head.ensures.pending c.args.self.now.plan.program.now)
    c.head_step.result (c.filing_of.ensures.none c.in-None.is) c.head_step.ensures.step

pub returns-in-None-clause-over : goal.returns-in-None-clause-over
returns-in-None-clause-over g c =
    let last = last_of c.args.self.now.plan.program.now c.args.self.now.paragraph in
    own_step c.args.self.now c.next.new.frames c.clear.new.shown c.head_step.new.self c.in_ok-head.head
    (c.in_ok-head.ensures.rest last) (c.in_ok-head.ensures.pending c.args.self.now.plan.program.now) _
    c.head_step.result (c.filing_of.ensures.none c.in-None.is) c.head_step.ensures.step c.head_step.ensures.plan c.head_step.ensures.table

pub returns-in-Some-clause-step : goal.returns-in-Some-clause-step
returns-in-Some-clause-step g c =
    let last = last_of c.args.self.now.plan.program.now c.args.self.now.paragraph in
    steps_none c.args.self.now c.file_step.new.self c.in-Some.stmt.now (rest_of last c.next.new.frames) c.file_step.result
    (c.in_ok-head.ensures.rest last ∙ ap (λ head. heads last head (rest_of last c.next.new.frames)) c.in-Some.ensures.here.0) c.in-Some.ensures.here.2

pub returns-in-Some-clause-over : goal.returns-in-Some-clause-over
returns-in-Some-clause-over g c =
    let last = last_of c.args.self.now.plan.program.now c.args.self.now.paragraph in
    files_step c.args.self.now c.next.new.frames c.clear.new.shown c.file_step.new.self c.in_ok-head.head
    (c.in_ok-head.ensures.rest last) (c.in_ok-head.ensures.pending c.args.self.now.plan.program.now)
    c.in-Some.stmt.now _ _ c.file_step.result (λ rest. ap (λ head. heads last head rest) c.in-Some.ensures.here.0) c.in-Some.ensures.here.1 c.file_step.ensures.over

pub returns-in-Some-clause-kept : goal.returns-in-Some-clause-kept
returns-in-Some-clause-kept g c = λ world trace plain.
    let last = last_of c.args.self.now.plan.program.now c.args.self.now.paragraph in
    absurd (next_none c.args.self.now c.in-Some.stmt.now (rest_of last c.next.new.frames) world trace
    (c.in_ok-head.ensures.rest last ∙ ap (λ head. heads last head (rest_of last c.next.new.frames)) c.in-Some.ensures.here.0) c.in-Some.ensures.here.2 plain)

pub returns-in-Some-clause-breaks : goal.returns-in-Some-clause-breaks
returns-in-Some-clause-breaks g c = λ world trace own stands.
    let last = last_of c.args.self.now.plan.program.now c.args.self.now.paragraph in
    files_breaks c.args.self.now c.next.new.frames c.clear.new.shown c.file_step.new.self c.in_ok-head.head
    (c.in_ok-head.ensures.rest last) (c.in_ok-head.ensures.pending c.args.self.now.plan.program.now)
    c.in-Some.stmt.now (rest_of last c.next.new.frames) _ _ c.file_step.result
    (c.in_ok-head.ensures.rest last ∙ ap (λ head. heads last head (rest_of last c.next.new.frames)) c.in-Some.ensures.here.0) world trace
    (c.file_step.ensures.breaks world c.in-Some.ensures.here.1 stands)

pub returns-in-None-clause-breaks : goal.returns-in-None-clause-breaks
returns-in-None-clause-breaks g c = λ world trace own stands.
    live_breaks c.args.self.now c.head_step.new.self c.args.bench.now.left _ world (operations_in (declared_by c.args.self.now.plan) (state_in c.args.self.now world trace)) c.head_step.result c.head_step.ensures.live c.head_step.ensures.plan c.head_step.ensures.table stands

pub returns-then-len-clause-falls : goal.returns-then-len-clause-falls
returns-then-len-clause-falls g c = none_fell c.args.self.now.plan.program.now.files c.args.bench.now.left _

pub returns-then-len-clause-breaks : goal.returns-then-len-clause-breaks
returns-then-len-clause-breaks g c = λ world trace own stands.
    not_begun c.args.self.now c.args.self.now c.args.bench.now.left _ world (operations_in (declared_by c.args.self.now.plan) (state_in c.args.self.now world trace)) refl refl stands

pub returns-in_err-head-clause-breaks : goal.returns-in_err-head-clause-breaks
returns-in_err-head-clause-breaks g c = λ world trace own stands.
    let p = err_from_is_err_and c.from_residual.result c.from_residual.ensures.1 in
    rw p.1
    (not_begun c.args.self.now c.args.self.now c.args.bench.now.left _ world (operations_in (declared_by c.args.self.now.plan) (state_in c.args.self.now world trace)) refl refl stands)

pub returns-in-None-clause-events : goal.returns-in-None-clause-events
returns-in-None-clause-events g c =
    let last = last_of c.args.self.now.plan.program.now c.args.self.now.paragraph in
    own_shows c.args.self.now c.next.new.frames c.clear.new.shown c.head_step.new.self c.in_ok-head.head
    (c.in_ok-head.ensures.rest last) (c.in_ok-head.ensures.pending c.args.self.now.plan.program.now) _
    c.head_step.result (c.filing_of.ensures.none c.in-None.is) c.head_step.ensures.step (ap (λ (w : FileWork). w.done.items) c.head_step.ensures.work ∙ c.clear-2.ensures.none)

pub returns-in-Some-clause-events : goal.returns-in-Some-clause-events
returns-in-Some-clause-events g c =
    let last = last_of c.args.self.now.plan.program.now c.args.self.now.paragraph in
    files_shows c.args.self.now c.next.new.frames c.clear.new.shown c.file_step.new.self c.in_ok-head.head
    (c.in_ok-head.ensures.rest last) (c.in_ok-head.ensures.pending c.args.self.now.plan.program.now)
    c.in-Some.stmt.now _ c.clear-2.new.self c.file_step.result (λ rest. ap (λ head. heads last head rest) c.in-Some.ensures.here.0) c.in-Some.ensures.here.1 c.in-Some.ensures.shows c.clear-2.ensures.keeps c.clear-2.ensures.none c.file_step.ensures.events
