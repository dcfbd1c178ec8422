use Rattle.std.proofs.Common.{refl}
use Rattle.cobol_run.specs.Frames.{last_of}
use Rattle.cobol_run.proofs.OverLemmas.{broke_breaks, broke_falls, broke_ok, done_breaks, filed_goes}
use Rattle.cobol_run.proofs.EventLemmas.{file_shows}
use Rattle.cobol_run.proofs.machine.Machine.file_step.Goals as goal

pub returns-in-Ok-clause-over : goal.returns-in-Ok-clause-over
returns-in-Ok-clause-over g c = λ world trace rest outer stands.
    let over = c.in-Ok.ensures.over world outer stands in
    let old = c.args.self.now in
    let new = record old { frames = c.filed-done.new.frames; held = c.filed-done.new.held; table = c.filed-done.new.table; work = c.filed-done.new.work } in
    filed_goes old new _ c.args.stmt.now world over.0 over.1 over.2 refl refl (c.in-Ok.ensures.pending old.plan.program.now) over.4 trace rest c.in-Ok.done c.step_after.result c.step_after.ensures (over.3 (last_of old.plan.program.now old.paragraph))

pub returns-in-Ok-clause-breaks : goal.returns-in-Ok-clause-breaks
returns-in-Ok-clause-breaks g c = λ world outer stands.
    done_breaks _ world _ _ _ c.in-Ok.done c.step_after.result c.step_after.ensures

pub returns-in-Err-clause-over : goal.returns-in-Err-clause-over
returns-in-Err-clause-over g c =
    broke_ok _ c.in-Err.fault c.step_broken.result c.step_broken.ensures.device c.step_broken.ensures.memory (λ world trace rest outer stands. tt)

pub returns-in-Err-clause-falls : goal.returns-in-Err-clause-falls
returns-in-Err-clause-falls g c =
    broke_falls c.in-Err.fault c.step_broken.result c.args.self.now.plan.program.now.files _ _ _ _ _ c.step_broken.ensures.device c.step_broken.ensures.memory c.in-Err.ensures.bench

pub returns-in-Err-clause-breaks : goal.returns-in-Err-clause-breaks
returns-in-Err-clause-breaks g c = λ world outer stands.
    let old = c.args.self.now in
    let new = record old { frames = c.filed-done.new.frames; held = c.filed-done.new.held; table = c.filed-done.new.table; work = c.filed-done.new.work } in
    broke_breaks c.in-Err.fault c.step_broken.result new world _ _ _ c.step_broken.ensures.device c.step_broken.ensures.memory
    (c.in-Err.ensures.breaks world outer stands (last_of old.plan.program.now old.paragraph))

pub returns-in-Ok-clause-events : goal.returns-in-Ok-clause-events
returns-in-Ok-clause-events g c = λ world trace rest outer filed stands keeps none.
    let old = c.args.self.now in
    let new = record old { frames = c.filed-done.new.frames; held = c.filed-done.new.held; table = c.filed-done.new.table; work = c.filed-done.new.work } in
    file_shows old new c.args.stmt.now world trace rest filed (c.in-Ok.ensures.logged world (last_of old.plan.program.now old.paragraph) outer stands keeps none) c.in-Ok.done c.step_after.result c.step_after.ensures

pub returns-in-Err-clause-events : goal.returns-in-Err-clause-events
returns-in-Err-clause-events g c =
    broke_ok _ c.in-Err.fault c.step_broken.result c.step_broken.ensures.device c.step_broken.ensures.memory (λ world trace rest outer filed stands keeps none. tt)
