use Rattle.meanings.proofs.plain_lemmas.Stepping.{made-is-step, on-ok}
use Rattle.meanings.proofs.plain.step.plain_step.Goals as goal

pub returns-clause-ok : goal.returns-clause-ok
returns-clause-ok c =
    on-ok c.step.result (made-is-step c.args.program.now c.args.state.now c.step.new.state) c.step.ensures.ok
