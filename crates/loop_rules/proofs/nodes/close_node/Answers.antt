use Rattle.std.proofs.Common.{◌≡◌, ◌≤◌, ◌∷◌, [], length, None, Some, rules, true, refl, ap, sym, ◌∙◌, subst}
use Rattle.control_flow_theory.specs.graph_rules.Shapes.{leaves_to}
use Rattle.control_flow_theory.specs.graph_rules.Reduced.{count, close_graph}
use Rattle.graph_rewriting.specs.Helds.{seen_work}
use Rattle.branch_tree.specs.Tree.{seen_tree}
use Rattle.loop_rules.specs.Nodes.{Closes, closed, may_loop, with_kinds}
use Rattle.loop_rules.proofs.LeafRows.{closes_leaves}
use Rattle.loop_rules.proofs.NodeRows.{count_is, append_none, close_row}
use Rattle.loop_rules.proofs.TakenRows.{has_taken, bare_taken, fits_taken, put_again, put_with}
use Rattle.loop_rules.proofs.nodes.close_node.Goals as goal

pub put-requires-clause-has : goal.put-requires-clause-has
put-requires-clause-has c =
    let takes = c.in-Some.ensures in
    has_taken c.reserve_added.new.self c.take.new.self c.args.label c.sound.ensures takes.0 takes.2

pub put-requires-clause-bare : goal.put-requires-clause-bare
put-requires-clause-bare c =
    let takes = c.in-Some.ensures in
    bare_taken c.reserve_added.new.self c.take.new.self c.args.label c.sound.ensures takes.0 takes.2

pub put-requires-clause-fits : goal.put-requires-clause-fits
put-requires-clause-fits c =
    let takes = c.in-Some.ensures in
    let label = c.args.label in
    let new = seen_tree c.close_tree-closed.new.tree in
    fits_taken c.reserve_added.new.self c.take.new.self label c.sound.ensures takes.0 takes.2 new
    (λ l. subst (λ t. leaves_to l new ≤ leaves_to l t) takes.1
    (closes_leaves c.close_tree-closed.result l label c.added_len-cell.result
    (seen_tree c.in-Some.tree) new c.close_tree-closed.ensures))

pub returns-in-Ok-None-clause-ok : goal.returns-in-Ok-None-clause-ok
returns-in-Ok-None-clause-ok c =
    let takes = c.in-Some.ensures in
    let label = c.args.label in
    let cell = c.added_len-cell.result in
    let old = c.reserve_added.new.self in
    let added = c.args.work.now.added.items in
    let same = c.in_ok-reserve_added.ensures.graph in
    let applies = subst (λ g. may_loop g label ≡ true) (sym same) c.requires.applies in
    let sized : cell ≡ length added = search rules in
    let cells : cell ≡ count (seen_work old).added =
    sized ∙ sym (count_is added) ∙ ap (λ g. count g.added) (sym same) in
    let was = seen_tree c.in-Some.tree in
    let new = seen_tree c.close_tree-closed.new.tree in
    let made = subst (λ r. Closes r (closed label cell was) was new) c.in-Ok-None.is c.close_tree-closed.ensures in
    let kind : c.in-Ok-None.field-0 ≡ None = search rules in
    put_with old c.take.new.self label c.sound.ensures takes.0 takes.2 c.put.new.self new c.put.ensures
    c.put.new.self ([]) refl refl (sym (append_none c.put.new.self.added.items))
    ∙ close_row label (seen_work old) applies cell new _ cells
    (ap (with_kinds new) (sym kind) ∙ made ∙ ap (closed label cell) takes.1)
    ∙ ap (close_graph label) same

pub returns-in-Ok-Some-clause-ok : goal.returns-in-Ok-Some-clause-ok
returns-in-Ok-Some-clause-ok c =
    let takes = c.in-Some.ensures in
    let label = c.args.label in
    let cell = c.added_len-cell.result in
    let old = c.reserve_added.new.self in
    let added = c.args.work.now.added.items in
    let same = c.in_ok-reserve_added.ensures.graph in
    let applies = subst (λ g. may_loop g label ≡ true) (sym same) c.requires.applies in
    let sized : cell ≡ length added = search rules in
    let cells : cell ≡ count (seen_work old).added =
    sized ∙ sym (count_is added) ∙ ap (λ g. count g.added) (sym same) in
    let was = seen_tree c.in-Some.tree in
    let new = seen_tree c.close_tree-closed.new.tree in
    let made = subst (λ r. Closes r (closed label cell was) was new) c.in-Ok-Some.is c.close_tree-closed.ensures in
    let kind : c.in-Ok-Some.field-0 ≡ Some c.in-Ok-Some.kind = search rules in
    put_with old c.take.new.self label c.sound.ensures takes.0 takes.2 c.put.new.self new c.put.ensures
    c.push_added.new.self (c.in-Ok-Some.kind ∷ []) c.push_added.ensures.entry c.push_added.ensures.nodes c.push_added.ensures.added
    ∙ close_row label (seen_work old) applies cell new _ cells
    (ap (with_kinds new) (sym kind) ∙ made ∙ ap (closed label cell) takes.1)
    ∙ ap (close_graph label) same

pub returns-in-Err-clause-err : goal.returns-in-Err-clause-err
returns-in-Err-clause-err c =
    let takes = c.in-Some.ensures in
    let new = seen_tree c.close_tree-closed.new.tree in
    put_again c.reserve_added.new.self c.take.new.self c.args.label c.sound.ensures takes.0 takes.2
    c.put.new.self new c.put.ensures (c.in-Err.ensures ∙ takes.1)
    ∙ c.in_ok-reserve_added.ensures.graph
