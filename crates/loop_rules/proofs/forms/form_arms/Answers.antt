use Rattle.branch_tree.specs.Tree.{seen_body}
use Rattle.tree_rules.specs.Targets.{seen_targets}
use Rattle.loop_rules.specs.Forms.{is_nothing}
use Rattle.loop_rules.proofs.FormRows.{ways_other}
use Rattle.loop_rules.proofs.forms.form_arms.Goals as goal

pub returns-else-arms-eq2 : goal.returns-else-arms-eq2
returns-else-arms-eq2 c =
    ways_other (seen_targets c.args.live.now) c.args.label (is_nothing (seen_body c.args.body.now.items)) c.args.arms.now
    c.if-arms-eq2.false
