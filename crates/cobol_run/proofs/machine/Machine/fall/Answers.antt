use Rattle.std.proofs.Common.{ap, arith}
use Rattle.cobol_run.specs.Machine.{state_with}
use Rattle.cobol_run.specs.Plan.{memory_in}
use Rattle.cobol_run.proofs.MachineLemmas.{falls_on, falls_past}
use Rattle.cobol_run.proofs.machine.Machine.fall.Goals as goal

pub returns-in_ok-go_to-clause-step : goal.returns-in_ok-go_to-clause-step
returns-in_ok-go_to-clause-step c = λ world trace rest.
    falls_on c.args.self.now c.go_to.new.self rest world trace (omega (arith, c.if-self-len.true, c.len.ensures)) c.in_ok-go_to.ensures.plan c.in_ok-go_to.ensures.held c.in_ok-go_to.ensures.paragraph c.in_ok-go_to.ensures.pending c.in_ok-go_to.ensures.rest

pub returns-else-self-len-clause-step : goal.returns-else-self-len-clause-step
returns-else-self-len-clause-step c = λ world trace rest.
    let past = falls_past c.args.self.now.plan c.args.self.now.paragraph (state_with c.args.self.now rest (memory_in c.args.self.now.held.store world) trace) (omega (arith, c.if-self-len.false, c.len.ensures)) in
    (ap (λ state. state.run) past, ap (λ state. state.memory.world) past)
