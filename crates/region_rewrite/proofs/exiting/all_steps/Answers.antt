use Rattle.std.proofs.Common.{◌≡◌, Some, ap, sym, ◌∙◌, arith}
use Rattle.control_flow_theory.specs.structuring.Closes.{reduced_by_all, any_step}
use Rattle.region_rewrite.specs.Reducing.{graph_in}
use Rattle.region_rewrite.proofs.StepRows.{took, kept, all_reduced_next, stays_all}
use Rattle.region_rewrite.proofs.RoomRows.{any-room}
use Rattle.region_rewrite.proofs.exiting.all_steps.Goals as goal

pub loop-left-preserved : goal.loop-left-preserved
loop-left-preserved c =
    let g = graph_in c.loop-left.state in
    let new = graph_in c.any_step.new.state in
    let one : any_step g ≡ Some new = took _ (any_step g) g new c.if-not-branch.false c.in_ok-any_step.ensures.step in
    record {
      same = all_reduced_next c.loop-left.left g new c.loop-left-test.true one ∙ c.loop-left.invariant.same;
      holds = c.in_ok-any_step.ensures.holds;
      room =
          let more = any-room c.loop-left.state c.any_step.new.state one in
          let was = c.loop-left.invariant.room in
          let some = c.loop-left-test.true in
          omega (arith, more, was, some);
    }

pub returns-then-not-branch : goal.returns-then-not-branch
returns-then-not-branch c =
    let g = graph_in c.loop-left.state in
    let new = graph_in c.any_step.new.state in
    let none = kept _ (any_step g) g new c.if-not-branch.true c.in_ok-any_step.ensures.step in
    none.1 ∙ sym (stays_all c.loop-left.left g none.0) ∙ c.loop-left.invariant.same

pub returns : goal.returns
returns c =
    let last : 0 ≡ c.loop-left.left = omega arith in
    ap (λ n. reduced_by_all n (graph_in c.loop-left.state)) last ∙ c.loop-left.invariant.same

pub any_step-requires-clause-room : goal.any_step-requires-clause-room
any_step-requires-clause-room c =
    let was = c.loop-left.invariant.room in
    let some = c.loop-left-test.true in
    omega (arith, was, some)
