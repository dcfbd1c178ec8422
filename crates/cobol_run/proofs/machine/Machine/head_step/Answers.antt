use Rattle.std.proofs.Common.{◌∙◌, ap, subst, sym}
use Rattle.cobol_run.specs.Frames.{body_seen, heads, last_of, rest_of, turning_seen}
use Rattle.cobol_run.specs.Own.{StandsAlone}
use Rattle.cobol_run.specs.Plan.{declared_by, memory_in}
use Rattle.control_flow_theory.specs.language.Control.{seen}
use Rattle.control_flow_theory.specs.language.Items.{Do, Turn}
use Rattle.cobol_run.proofs.MachineLemmas.{head_goes, headed}
use Rattle.cobol_run.proofs.StatementLemmas.{turn_led}
use Rattle.cobol_run.proofs.machine.Machine.head_step.Goals as goal

pub returns-in-Nothing-clause-step : goal.returns-in-Nothing-clause-step
returns-in-Nothing-clause-step c =
    let self = c.args.self.now in
    let last = last_of self.plan.program.now self.paragraph in
    headed self c.end.new.self c.end.result c.args.head _ (ap (λ head. heads last head (rest_of last self.frames)) c.in-Nothing.is) c.end.ensures.step

pub returns-then-jumps-clause-step : goal.returns-then-jumps-clause-step
returns-then-jumps-clause-step c =
    let self = c.args.self.now in
    let last = last_of self.plan.program.now self.paragraph in
    headed self c.jump.new.self c.jump.result c.args.head _ (ap (λ head. heads last head (rest_of last self.frames)) c.in-Stmt.is) c.jump.ensures.step

pub returns-in_ok-done-in-Stmt-clause-step : goal.returns-in_ok-done-in-Stmt-clause-step
returns-in_ok-done-in-Stmt-clause-step c =
    let self = c.args.self.now in
    let last = last_of self.plan.program.now self.paragraph in
    head_goes self c.stmt_way.new.frames c.stmt_way.new.held c.args.head (Do (seen last c.in-Stmt.stmt.now)) c.in_ok-done-in-Stmt.done c.step_of.result
    (ap (λ head. heads last head (rest_of last self.frames)) c.in-Stmt.is)
    (c.in_ok-done-in-Stmt.ensures.pending self.plan.program.now)
    (λ world alone. c.in_ok-done-in-Stmt.ensures.way world last (subst (StandsAlone last) c.in-Stmt.is alone, sym c.performed_once.ensures.of ∙ c.in_default.is, sym c.jumps.ensures ∙ c.if-jumps.false))
    c.step_of.ensures.step

pub returns-in_ok-done-in-Turn-clause-step : goal.returns-in_ok-done-in-Turn-clause-step
returns-in_ok-done-in-Turn-clause-step c =
    let self = c.args.self.now in
    let last = last_of self.plan.program.now self.paragraph in
    head_goes self c.turning_way.new.frames c.turning_way.new.held c.args.head (Turn (turning_seen c.in-Turn.turning) (body_seen last c.in-Turn.body)) c.in_ok-done-in-Turn.done c.step_of-in-Turn.result
    (ap (λ head. heads last head (rest_of last self.frames)) c.in-Turn.is)
    (c.in_ok-done-in-Turn.ensures.pending self.plan.program.now)
    (λ world alone. c.in_ok-done-in-Turn.ensures.way world last ∙ turn_led (declared_by self.plan) last c.in-Turn.turning (body_seen last c.in-Turn.body) (rest_of last self.frames) (memory_in self.held.store world) (subst (StandsAlone last) c.in-Turn.is alone))
    c.step_of-in-Turn.ensures.step
