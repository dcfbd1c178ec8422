use Rattle.std.proofs.Common.{length}
use Rattle.cobol_theory.specs.cobol_meaning.Acting.{chooses_in}
use Rattle.control_flow_theory.specs.language.Language.{Depending}
use Rattle.cobol_run.specs.Plan.{declared_by, memory_in}
use Rattle.cobol_run.proofs.MachineLemmas.{jumped_to_named, jumped_to_none}
use Rattle.cobol_run.proofs.machine.Machine.jump_to_one.Goals as goal

pub returns-in-None-clause-step : goal.returns-in-None-clause-step
returns-in-None-clause-step c =
    let old = c.args.self.now in
    jumped_to_none old c.args.to.now (λ world. chooses_in (declared_by old.plan) (Depending c.args.on.now (length c.args.to.now)) (memory_in old.held.store world)) c.in-Ok.name c.in-Ok.ensures c.in-None.ensures

pub returns-in-Some-clause-step : goal.returns-in-Some-clause-step
returns-in-Some-clause-step c =
    let old = c.args.self.now in
    jumped_to_named old c.jump_to.new.self c.jump_to.result c.args.to.now (λ world. chooses_in (declared_by old.plan) (Depending c.args.on.now (length c.args.to.now)) (memory_in old.held.store world)) c.in-Ok.name c.in-Some.paragraph c.in-Ok.ensures c.in-Some.ensures c.jump_to.ensures.step
