use Rattle.branch_tree.specs.Graph.{seen_nodes}
use Rattle.region_rewrite.proofs.SetRows.{targets_absent}
use Rattle.region_rewrite.proofs.candidates.put_node_targets.Goals as goal

pub returns-in-None-clause-targets : goal.returns-in-None-clause-targets
returns-in-None-clause-targets c =
    targets_absent (seen_nodes c.args.work.now.nodes) c.args.label c.args.labels.now c.in-None.ensures
