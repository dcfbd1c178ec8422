use Rattle.std.proofs.Common.{◌≤◌, length, ap, ◌∙◌, arith}
use Rattle.control_flow_theory.specs.semantics.Graph as graph
use Rattle.control_flow_theory.specs.lowering.Lower as lower
use Rattle.program_facts.specs.completion.FlowFacts.{flow_facts_of}
use Rattle.lowering_labels.specs.declared.points.jump_target.Going.TheVariants as going
use Rattle.lowering_labels.specs.points.JumpTarget.{seen_target}
use Rattle.lowering_labels.proofs.points_lemmas.JumpTargetLemmas.{leaf_past, leaf_by, leaf_over}
use Rattle.lowering_labels.proofs.points_lemmas.SizeLemmas.{stmts_above}
use Rattle.lowering_labels.proofs.points.jump_target.jump_target_of.Goals as goal

pub loop-stmt-preserved : goal.loop-stmt-preserved
loop-stmt-preserved c = (
  omega arith,
  (λ files returning last place_of at.
      leaf_past (flow_facts_of files returning) place_of last c.args.stmts.now
      c.loop-stmt.stmt-index c.stmt-item.result c.loop-stmt.here (seen_target c.args.after) c.way_of.result
      c.loop-stmt-test.true c.stmt-item.is (c.way_of.ensures files returning last) c.in-Past.is
      ∙ c.loop-stmt.invariant.1 files returning last place_of at),
)

pub returns-in-To : goal.returns-in-To
returns-in-To c = λ files returning last place_of at.
    ap graph.Jump (c.point.ensures ∙ ap lower.point (c.place_of.ensures ∙ at c.in-To.to))
    ∙ leaf_by (flow_facts_of files returning) place_of last c.args.stmts.now
    c.loop-stmt.stmt-index c.stmt-item.result c.loop-stmt.here (seen_target c.args.after) c.way_of.result (going.To c.in-To.to)
    c.loop-stmt-test.true c.stmt-item.is (c.way_of.ensures files returning last) c.in-To.is
    ∙ c.loop-stmt.invariant.1 files returning last place_of at

pub returns-in-Stops : goal.returns-in-Stops
returns-in-Stops c = λ files returning last place_of at.
    leaf_by (flow_facts_of files returning) place_of last c.args.stmts.now
    c.loop-stmt.stmt-index c.stmt-item.result c.loop-stmt.here (seen_target c.args.after) c.way_of.result going.Stops
    c.loop-stmt-test.true c.stmt-item.is (c.way_of.ensures files returning last) c.in-Stops.is
    ∙ c.loop-stmt.invariant.1 files returning last place_of at

pub returns-in-Here : goal.returns-in-Here
returns-in-Here c = λ files returning last place_of at.
    ap graph.Jump c.point-in-Here.ensures
    ∙ leaf_by (flow_facts_of files returning) place_of last c.args.stmts.now
    c.loop-stmt.stmt-index c.stmt-item.result c.loop-stmt.here (seen_target c.args.after) c.way_of.result going.Here
    c.loop-stmt-test.true c.stmt-item.is (c.way_of.ensures files returning last) c.in-Here.is
    ∙ c.loop-stmt.invariant.1 files returning last place_of at

pub returns : goal.returns
returns c = λ files returning last place_of at.
    let over : length c.args.stmts.now ≤ c.loop-stmt.stmt-index = omega (arith, c.loop-stmt-test.false) in
    leaf_over (flow_facts_of files returning) place_of last c.args.stmts.now
    c.loop-stmt.stmt-index c.loop-stmt.here (seen_target c.args.after) over
    ∙ c.loop-stmt.invariant.1 files returning last place_of at

pub overflow_add-here : goal.overflow_add-here
overflow_add-here c = omega (arith, stmts_above c.args.stmts.now, c.requires, c.loop-stmt.invariant.0, c.loop-stmt-test.true)
