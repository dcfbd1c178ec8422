use Rattle.std.proofs.Common.{◌∙◌, sym}
use Rattle.cobol_run.specs.Plan.{declared_by}
use Rattle.cobol_run.proofs.StatementLemmas.{alone_answered, evaluate_answered, if_answered, loop_answered}
use Rattle.cobol_run.proofs.statement.stmt_way.Goals as goal

pub returns-else-has_arms-clause-way : goal.returns-else-has_arms-clause-way
returns-else-has_arms-clause-way c =
    alone_answered (declared_by c.args.plan.now) c.args.stmt.now _ _ _ c.simple_way-else-has_arms.result c.args.frames.now c.args.held.now c.simple_way-else-has_arms.new.held c.in-Arith.is (sym c.has_arms.ensures ∙ c.if-has_arms.false) c.simple_way-else-has_arms.ensures

pub returns-in-If-clause-way : goal.returns-in-If-clause-way
returns-in-If-clause-way c =
    if_answered (declared_by c.args.plan.now) c.args.stmt.now _ _ _ _ _ c.if_way.result c.args.frames.now c.if_way.new.frames c.args.held.now c.args.held.now c.in-If.is c.as_slice-in-If.ensures c.as_slice-in-If-2.ensures c.if_way.ensures.way

pub returns-in-Evaluate-clause-way : goal.returns-in-Evaluate-clause-way
returns-in-Evaluate-clause-way c =
    evaluate_answered (declared_by c.args.plan.now) c.args.stmt.now _ _ _ _ c.evaluate_way.result c.args.frames.now c.evaluate_way.new.frames c.args.held.now c.args.held.now c.in-Evaluate.is c.as_slice-in-Evaluate.ensures c.evaluate_way.ensures.way

pub returns-in-Loop-clause-way : goal.returns-in-Loop-clause-way
returns-in-Loop-clause-way c =
    loop_answered (declared_by c.args.plan.now) c.args.stmt.now _ _ _ c.control_way.result c.args.frames.now c.control_way.new.frames c.args.held.now c.control_way.new.held c.in-Loop.is c.as_slice-in-Loop.ensures c.control_way.ensures.way
