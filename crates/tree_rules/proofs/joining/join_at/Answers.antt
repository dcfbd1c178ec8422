use Rattle.std.proofs.Common.{◌≡◌, ap, sym, ◌∙◌}
use Rattle.branch_tree.specs.Graph.{seen_nodes}
use Rattle.graph_rewriting.specs.Helds.{seen_work}
use Rattle.branch_tree.specs.Tree.{seen_tree}
use Rattle.tree_rules.proofs.JoinAtRows.{put_has, put_bare, put_fits, none_joins, joins_at}
use Rattle.tree_rules.proofs.joining.join_at.Goals as goal

pub put-requires-clause-has : goal.put-requires-clause-has
put-requires-clause-has c =
    put_has c.args.work.now c.take.new.self c.args.label c.in-Some.tree c.in-Some.ensures

pub put-requires-clause-bare : goal.put-requires-clause-bare
put-requires-clause-bare c =
    put_bare c.args.work.now c.take.new.self c.args.label c.in-Some.tree c.in-Some.ensures

pub put-requires-clause-fits : goal.put-requires-clause-fits
put-requires-clause-fits c =
    put_fits c.args.work.now c.take.new.self c.args.label c.in-Some.tree c.in-Some.ensures c.sound.ensures
    c.join-joins.result (seen_tree c.join-joins.new.tree) c.join-joins.ensures

pub returns-in-None : goal.returns-in-None
returns-in-None c = none_joins c.args.work.now c.take.new.self c.args.label c.in-None.ensures

pub returns-in-Some : goal.returns-in-Some
returns-in-Some c =
    joins_at c.args.work.now c.take.new.self c.args.label c.in-Some.tree c.in-Some.ensures c.sound.ensures
    c.join-joins.result (seen_tree c.join-joins.new.tree) c.join-joins.ensures c.put.new.self c.put.ensures
