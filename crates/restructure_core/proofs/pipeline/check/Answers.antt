use Rattle.restructure_core.proofs.pipeline.check.Goals as goal

pub returns-in-Ok-clause-done : goal.returns-in-Ok-clause-done
returns-in-Ok-clause-done c = (c.in-Ok.done.text, c.in-Ok.ensures.done)
