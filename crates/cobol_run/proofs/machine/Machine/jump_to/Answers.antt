use Rattle.cobol_run.proofs.MachineLemmas.{jumped}
use Rattle.cobol_run.proofs.machine.Machine.jump_to.Goals as goal

pub returns-clause-step : goal.returns-clause-step
returns-clause-step c = λ world trace rest.
    jumped c.args.self.now c.go_to.new.self c.args.number rest world trace c.in_ok-go_to.ensures.plan c.in_ok-go_to.ensures.held c.in_ok-go_to.ensures.paragraph c.in_ok-go_to.ensures.pending c.in_ok-go_to.ensures.rest
