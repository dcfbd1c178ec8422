use Rattle.std.proofs.Common.{subst}
use Rattle.restructure_core.specs.Made.{IsFlowOf}
use Rattle.restructure_core.proofs.Answering.{restructured_if}
use Rattle.restructure_core.proofs.ReadWell.{read_flow}
use Rattle.restructure_core.proofs.pipeline.restructured.Goals as goal

pub restructure_program-requires-clause-flow : goal.restructure_program-requires-clause-flow
restructure_program-requires-clause-flow c =
    let program = c.in_ok-program.program in
    read_flow c.args.bytes.now program c.in-Clear.summary c.in_ok-program.ensures.found
    (subst (λ found. IsFlowOf program found) c.in-Clear.is c.in_ok-trail.ensures)

pub returns-in-Clear-clause-done : goal.returns-in-Clear-clause-done
returns-in-Clear-clause-done c =
    restructured_if c.results_read_back.ensures c.args.bytes.now c.in_ok-program.program
    c.restructure_program.result
    c.in_ok-program.ensures.found c.restructure_program.ensures
