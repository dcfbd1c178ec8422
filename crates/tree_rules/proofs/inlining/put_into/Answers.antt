use Rattle.std.proofs.Common.{◌≡◌, ap, sym, ◌∙◌}
use Rattle.control_flow_theory.specs.graph_rules.Reduced.{Graph, has_node, tree_in, inline_graph, with_tree}
use Rattle.branch_tree.specs.Graph.{seen_nodes}
use Rattle.graph_rewriting.specs.Helds.{seen_work, Held}
use Rattle.branch_tree.specs.Tree.{seen_tree}
use Rattle.tree_rules.proofs.MoveRows.{has_it, has_one, no_entry, jumps_once, put_has, put_bare, put_fits, remove_has, remove_bare, remove_unused, removed_is, again_has, again_bare, again_fits, again_nodes}
use Rattle.tree_rules.proofs.WorkRows.{same_work}
use Rattle.tree_rules.proofs.inlining.put_into.Goals as goal

pub unreachable-requires-in-None : goal.unreachable-requires-in-None
unreachable-requires-in-None c =
    let g = seen_work c.args.work.now in
    let has = ap (λ n. has_node n c.args.from) c.in-Some.ensures.2.nodes_are
    ∙ has_one g c.args.label c.args.from c.sound.ensures c.requires.applies c.requires.has c.requires.jumps in
    let none = c.in-None.ensures.0 in cc

pub put-back-requires : goal.put-back-requires
put-back-requires c =
    jumps_once (seen_work c.args.work.now) c.args.label c.args.from c.sound.ensures c.requires.applies c.requires.has c.requires.jumps
    (seen_nodes c.take.new.self.nodes) (seen_nodes c.take-2.new.self.nodes) (seen_tree c.in-Some.by) (seen_tree c.in-Some-take.tree)
    c.in-Some.ensures.2.nodes_are c.in-Some.ensures.1 c.in-Some-take.ensures.1 c.in-Some-take.ensures.2.nodes_are

pub put-requires-clause-has : goal.put-requires-clause-has
put-requires-clause-has c =
    put_has (seen_work c.args.work.now) c.args.label c.args.from c.sound.ensures c.requires.applies c.requires.has c.requires.jumps
    (seen_nodes c.take.new.self.nodes) (seen_nodes c.take-2.new.self.nodes) (seen_tree c.in-Some.by) (seen_tree c.in-Some-take.tree)
    c.in-Some.ensures.2.nodes_are c.in-Some.ensures.1 c.in-Some-take.ensures.1 c.in-Some-take.ensures.2.nodes_are

pub put-requires-clause-bare : goal.put-requires-clause-bare
put-requires-clause-bare c =
    put_bare (seen_work c.args.work.now) c.args.label c.args.from c.sound.ensures c.requires.applies c.requires.has c.requires.jumps
    (seen_nodes c.take.new.self.nodes) (seen_nodes c.take-2.new.self.nodes) (seen_tree c.in-Some.by) (seen_tree c.in-Some-take.tree)
    c.in-Some.ensures.2.nodes_are c.in-Some.ensures.1 c.in-Some-take.ensures.1 c.in-Some-take.ensures.2.nodes_are

pub put-requires-clause-fits : goal.put-requires-clause-fits
put-requires-clause-fits c =
    put_fits (seen_work c.args.work.now) c.args.label c.args.from c.sound.ensures c.requires.applies c.requires.has c.requires.jumps
    (seen_nodes c.take.new.self.nodes) (seen_nodes c.take-2.new.self.nodes) (seen_tree c.in-Some.by) (seen_tree c.in-Some-take.tree)
    c.in-Some.ensures.2.nodes_are c.in-Some.ensures.1 c.in-Some-take.ensures.1 c.in-Some-take.ensures.2.nodes_are
    c.put-back.result (seen_tree c.put-back.new.tree) c.put-back.ensures

pub remove-requires-clause-has : goal.remove-requires-clause-has
remove-requires-clause-has c =
    remove_has (seen_work c.args.work.now) c.args.label c.args.from c.sound.ensures c.requires.applies c.requires.has c.requires.jumps
    (seen_nodes c.take.new.self.nodes) (seen_nodes c.take-2.new.self.nodes) (seen_tree c.in-Some.by) (seen_tree c.in-Some-take.tree)
    c.in-Some.ensures.2.nodes_are c.in-Some.ensures.1 c.in-Some-take.ensures.1 c.in-Some-take.ensures.2.nodes_are
    (seen_nodes c.put.new.self.nodes) (seen_tree c.put-back.new.tree) c.in-None-back.ensures c.put.ensures.nodes_are

pub remove-requires-clause-bare : goal.remove-requires-clause-bare
remove-requires-clause-bare c =
    remove_bare (seen_work c.args.work.now) c.args.label c.args.from c.sound.ensures c.requires.applies c.requires.has c.requires.jumps
    (seen_nodes c.take.new.self.nodes) (seen_nodes c.take-2.new.self.nodes) (seen_tree c.in-Some.by) (seen_tree c.in-Some-take.tree)
    c.in-Some.ensures.2.nodes_are c.in-Some.ensures.1 c.in-Some-take.ensures.1 c.in-Some-take.ensures.2.nodes_are
    (seen_nodes c.put.new.self.nodes) (seen_tree c.put-back.new.tree) c.in-None-back.ensures c.put.ensures.nodes_are

pub remove-requires-clause-unused : goal.remove-requires-clause-unused
remove-requires-clause-unused c =
    remove_unused (seen_work c.args.work.now) c.args.label c.args.from c.sound.ensures c.requires.applies c.requires.has c.requires.jumps
    (seen_nodes c.take.new.self.nodes) (seen_nodes c.take-2.new.self.nodes) (seen_tree c.in-Some.by) (seen_tree c.in-Some-take.tree)
    c.in-Some.ensures.2.nodes_are c.in-Some.ensures.1 c.in-Some-take.ensures.1 c.in-Some-take.ensures.2.nodes_are
    (seen_nodes c.put.new.self.nodes) (seen_tree c.put-back.new.tree) c.in-None-back.ensures c.put.ensures.nodes_are

pub remove-requires-clause-entry : goal.remove-requires-clause-entry
remove-requires-clause-entry c = λ e.
    no_entry (seen_work c.args.work.now) c.args.label c.args.from c.sound.ensures c.requires.applies c.requires.has c.requires.jumps
    (e ∙ c.put.ensures.entry_stays ∙ c.in-Some-take.ensures.2.entry_stays ∙ c.in-Some.ensures.2.entry_stays)

pub put-requires-in-Some-back-clause-has : goal.put-requires-in-Some-back-clause-has
put-requires-in-Some-back-clause-has c =
    again_has (seen_work c.args.work.now) c.args.label c.args.from c.sound.ensures c.requires.applies c.requires.has c.requires.jumps
    (seen_nodes c.take.new.self.nodes) (seen_nodes c.take-2.new.self.nodes) (seen_tree c.in-Some.by) (seen_tree c.in-Some-take.tree)
    c.in-Some.ensures.2.nodes_are c.in-Some.ensures.1 c.in-Some-take.ensures.1 c.in-Some-take.ensures.2.nodes_are
    (seen_nodes c.put.new.self.nodes) (seen_tree c.put-back.new.tree) (seen_tree c.in-Some-back.by) c.in-Some-back.ensures.0 c.in-Some-back.ensures.1 c.put.ensures.nodes_are

pub put-requires-in-Some-back-clause-bare : goal.put-requires-in-Some-back-clause-bare
put-requires-in-Some-back-clause-bare c =
    again_bare (seen_work c.args.work.now) c.args.label c.args.from c.sound.ensures c.requires.applies c.requires.has c.requires.jumps
    (seen_nodes c.take.new.self.nodes) (seen_nodes c.take-2.new.self.nodes) (seen_tree c.in-Some.by) (seen_tree c.in-Some-take.tree)
    c.in-Some.ensures.2.nodes_are c.in-Some.ensures.1 c.in-Some-take.ensures.1 c.in-Some-take.ensures.2.nodes_are
    (seen_nodes c.put.new.self.nodes) (seen_tree c.put-back.new.tree) (seen_tree c.in-Some-back.by) c.in-Some-back.ensures.0 c.in-Some-back.ensures.1 c.put.ensures.nodes_are

pub put-requires-in-Some-back-clause-fits : goal.put-requires-in-Some-back-clause-fits
put-requires-in-Some-back-clause-fits c =
    again_fits (seen_work c.args.work.now) c.args.label c.args.from c.sound.ensures c.requires.applies c.requires.has c.requires.jumps
    (seen_nodes c.take.new.self.nodes) (seen_nodes c.take-2.new.self.nodes) (seen_tree c.in-Some.by) (seen_tree c.in-Some-take.tree)
    c.in-Some.ensures.2.nodes_are c.in-Some.ensures.1 c.in-Some-take.ensures.1 c.in-Some-take.ensures.2.nodes_are
    (seen_nodes c.put.new.self.nodes) (seen_tree c.put-back.new.tree) (seen_tree c.in-Some-back.by) c.in-Some-back.ensures.0 c.in-Some-back.ensures.1 c.put.ensures.nodes_are

pub returns-in-None-back-clause-ok : goal.returns-in-None-back-clause-ok
returns-in-None-back-clause-ok c =
    same_work c.remove.new.self c.args.work.now (inline_graph c.args.label (seen_work c.args.work.now)).nodes
    (removed_is (seen_work c.args.work.now) c.args.label c.args.from c.sound.ensures c.requires.applies c.requires.has c.requires.jumps
    (seen_nodes c.take.new.self.nodes) (seen_nodes c.take-2.new.self.nodes) (seen_tree c.in-Some.by) (seen_tree c.in-Some-take.tree)
    c.in-Some.ensures.2.nodes_are c.in-Some.ensures.1 c.in-Some-take.ensures.1 c.in-Some-take.ensures.2.nodes_are
    (seen_nodes c.put.new.self.nodes) (seen_tree c.put-back.new.tree) c.in-None-back.ensures c.put.ensures.nodes_are
    (seen_nodes c.remove.new.self.nodes) c.remove.ensures.nodes_are)
    (c.remove.ensures.entry_stays ∙ c.put.ensures.entry_stays ∙ c.in-Some-take.ensures.2.entry_stays ∙ c.in-Some.ensures.2.entry_stays)
    (c.remove.ensures.added_stays ∙ c.put.ensures.added_stays ∙ c.in-Some-take.ensures.2.added_stays ∙ c.in-Some.ensures.2.added_stays)

pub returns-in-Some-back-clause-err : goal.returns-in-Some-back-clause-err
returns-in-Some-back-clause-err c =
    same_work c.put-in-Some-back.new.self c.args.work.now (seen_nodes c.args.work.now.nodes)
    (again_nodes (seen_work c.args.work.now) c.args.label c.args.from c.sound.ensures c.requires.applies c.requires.has c.requires.jumps
    (seen_nodes c.take.new.self.nodes) (seen_nodes c.take-2.new.self.nodes) (seen_tree c.in-Some.by) (seen_tree c.in-Some-take.tree)
    c.in-Some.ensures.2.nodes_are c.in-Some.ensures.1 c.in-Some-take.ensures.1 c.in-Some-take.ensures.2.nodes_are
    (seen_nodes c.put.new.self.nodes) (seen_tree c.put-back.new.tree) (seen_tree c.in-Some-back.by) c.in-Some-back.ensures.0 c.in-Some-back.ensures.1 c.put.ensures.nodes_are
    (seen_nodes c.put-in-Some-back.new.self.nodes) c.put-in-Some-back.ensures.nodes_are)
    (c.put-in-Some-back.ensures.entry_stays ∙ c.put.ensures.entry_stays ∙ c.in-Some-take.ensures.2.entry_stays ∙ c.in-Some.ensures.2.entry_stays)
    (c.put-in-Some-back.ensures.added_stays ∙ c.put.ensures.added_stays ∙ c.in-Some-take.ensures.2.added_stays ∙ c.in-Some.ensures.2.added_stays)
