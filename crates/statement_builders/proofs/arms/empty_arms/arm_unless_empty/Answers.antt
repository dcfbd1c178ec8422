use Rattle.std.proofs.Common.{arith, ap, sym, ◌∙◌}
use Rattle.control_flow_theory.specs.language.Control.{seen_stmts}
use Rattle.statement_builders.specs.arms.EmptyArms.{kept_stmts}
use Rattle.statement_builders.proofs.arms_lemmas.ChoiceRows.{some_stays}
use Rattle.statement_builders.proofs.arms.empty_arms.arm_unless_empty.Goals as goal

pub returns-else-len-eq0 : goal.returns-else-len-eq0
returns-else-len-eq0 c =
    some_stays c.args.stmts (omega (arith, c.len.ensures, c.if-len-eq0.false))
    ∙ ap (λ continues. kept_stmts continues (seen_stmts 0 c.args.stmts)) (sym c.if-continues.false)
