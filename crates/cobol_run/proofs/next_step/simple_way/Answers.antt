use Rattle.cobol_theory.specs.cobol_meaning.Acting.{does_to}
use Rattle.cobol_run.specs.Plan.{declared_by, memory_in}
use Rattle.cobol_run.proofs.StatementLemmas.{acted_ways}
use Rattle.cobol_run.proofs.next_step.simple_way.Goals as goal

pub returns : goal.returns
returns c =
    acted_ways c.acts.result c.acts.new.held (λ world. does_to (declared_by c.args.plan.now) c.args.stmt.now (memory_in c.args.held.now.store world)) c.acts.ensures
