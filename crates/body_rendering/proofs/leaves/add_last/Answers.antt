use Rattle.std.proofs.Common.{ap, ◌∙◌}
use Rattle.control_flow_theory.specs.graph_rules.Shapes.{last_stmts}
use Rattle.branch_tree.specs.Tree.{seen_end}
use Rattle.branch_tree.proofs.TreeRows.{seen_pick, seen_jump, seen_return, seen_dead}
use Rattle.body_rendering.proofs.BodyRows.{none_added}
use Rattle.body_rendering.proofs.leaves.add_last.Goals as goal

pub returns-in-Pick : goal.returns-in-Pick
returns-in-Pick c =
    none_added c.args.made.now (last_stmts (seen_end c.args.end.now))
    (ap (λ e. last_stmts (seen_end e)) c.in-Pick.is ∙ ap last_stmts (seen_pick c.in-Pick.by c.in-Pick.arms))

pub returns-in-Jump : goal.returns-in-Jump
returns-in-Jump c =
    none_added c.args.made.now (last_stmts (seen_end c.args.end.now))
    (ap (λ e. last_stmts (seen_end e)) c.in-Jump.is ∙ ap last_stmts (seen_jump c.in-Jump.field-0))

pub returns-in-Return : goal.returns-in-Return
returns-in-Return c =
    none_added c.args.made.now (last_stmts (seen_end c.args.end.now))
    (ap (λ e. last_stmts (seen_end e)) c.in-Return.is ∙ ap last_stmts seen_return)

pub returns-in-Dead : goal.returns-in-Dead
returns-in-Dead c =
    none_added c.args.made.now (last_stmts (seen_end c.args.end.now))
    (ap (λ e. last_stmts (seen_end e)) c.in-Dead.is ∙ ap last_stmts seen_dead)
