use Rattle.std.proofs.Common.{◌∙◌, sym}
use Rattle.std.proofs.lemmas.Bool.{ne_eqb}
use Rattle.cobol_run.proofs.MachineLemmas.{ends_falling, ends_passing}
use Rattle.cobol_run.proofs.machine.Machine.end.Goals as goal

pub returns-in-None-clause-step : goal.returns-in-None-clause-step
returns-in-None-clause-step c =
    ends_falling c.args.self.now c.take_return.new.frames c.fall.new.self c.fall.result (c.in-None.ensures c.args.self.now.plan.program.now).0 (c.in-None.ensures c.args.self.now.plan.program.now).1 c.fall.ensures.step

pub returns-in_ok-push_return-in-Some-clause-step : goal.returns-in_ok-push_return-in-Some-clause-step
returns-in_ok-push_return-in-Some-clause-step c =
    ends_passing c.args.self.now c.push_return.new.frames c.fall-in-Some.new.self c.fall-in-Some.result _ _
    (c.in-Some.ensures c.args.self.now.plan.program.now) (c.in_ok-push_return-in-Some.ensures.pending c.args.self.now.plan.program.now)
    (ne_eqb _ _ c.if-top-self.false) (sym (c.is_pending.ensures c.args.self.now.plan.program.now) ∙ c.if-is_pending.false) c.fall-in-Some.ensures.step
