use Rattle.branch_tree.specs.Tree.{seen_end}
use Rattle.program_facts.specs.completion.FlowFacts.{flow_facts_of}
use Rattle.lowering_labels.specs.points.JumpTarget.{seen_target}
use Rattle.lowering_labels.proofs.loop_nodes_lemmas.DependingRows.{depending_arms}
use Rattle.lowering_labels.proofs.loop_nodes.ends.push_names.Goals as goal

pub returns : goal.returns
returns c = λ files returning place_of at.
    depending_arms (flow_facts_of files returning) place_of c.args.layout.now c.args.to.now
    (seen_end c.end_at.result) (seen_target c.args.after) c.args.arms.now c.push_jumps.new.arms c.push_only.new.arms
    at c.requires c.in_ok-push_jumps.ensures c.in_ok-push_only.ensures c.end_at.ensures
