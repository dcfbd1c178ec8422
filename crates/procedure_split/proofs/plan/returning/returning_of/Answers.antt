use Rattle.std.proofs.Common.{◌≡◌, arith}
use Rattle.std.proofs.lemmas.Grind.{common_steps}
use Rattle.procedure_split.specs.plan.Planned.{table_by}
use Rattle.procedure_split.proofs.plan_lemmas.Tabling.{named_by}
use Rattle.procedure_split.proofs.plan.returning.returning_of.Goals as goal

pub returns-clause-names : goal.returns-clause-names
returns-clause-names c =
    let is : c.from_vec.result ≡ table_by c.args.ranges.now = grind (arith, common_steps) in
    named_by c.args.ranges.now c.from_vec.result is
