use Rattle.std.proofs.Common.{◌≡◌, Some, ap, sym, ◌∙◌, arith}
use Rattle.control_flow_theory.specs.graph_rules.Reduced.{reduced, rule_step}
use Rattle.region_rewrite.specs.Reducing.{graph_in}
use Rattle.region_rewrite.proofs.StepRows.{took, kept, reduced_next, stays}
use Rattle.region_rewrite.proofs.RoomRows.{rule-room}
use Rattle.region_rewrite.proofs.reducing.steps.Goals as goal

pub loop-left-preserved : goal.loop-left-preserved
loop-left-preserved c =
    let g = graph_in c.loop-left.state in
    let new = graph_in c.step.new.state in
    let one : rule_step g ≡ Some new = took _ (rule_step g) g new c.if-not-branch.false c.in_ok-step.ensures.step in
    record {
      same = reduced_next c.loop-left.left g new c.loop-left-test.true one ∙ c.loop-left.invariant.same;
      holds = c.in_ok-step.ensures.holds;
      room =
          let more = rule-room c.loop-left.state c.step.new.state one in
          let was = c.loop-left.invariant.room in
          let some = c.loop-left-test.true in
          omega (arith, more, was, some);
    }

pub returns-then-not-branch-clause-graph : goal.returns-then-not-branch-clause-graph
returns-then-not-branch-clause-graph c =
    let g = graph_in c.loop-left.state in
    let new = graph_in c.step.new.state in
    let none = kept _ (rule_step g) g new c.if-not-branch.true c.in_ok-step.ensures.step in
    none.1 ∙ sym (stays c.loop-left.left g none.0) ∙ c.loop-left.invariant.same

pub returns-clause-graph : goal.returns-clause-graph
returns-clause-graph c =
    let last : 0 ≡ c.loop-left.left = omega arith in
    ap (λ n. reduced n (graph_in c.loop-left.state)) last ∙ c.loop-left.invariant.same

pub step-requires-clause-room : goal.step-requires-clause-room
step-requires-clause-room c =
    let was = c.loop-left.invariant.room in
    let some = c.loop-left-test.true in
    omega (arith, was, some)
