use Rattle.std.proofs.Common.{◌≡◌, ◌≤◌, ◌∷◌, [], length, rules, ap, sym, ◌∙◌, subst}
use Rattle.control_flow_theory.specs.graph_rules.Shapes.{leaves_to}
use Rattle.control_flow_theory.specs.graph_rules.Reduced.{count}
use Rattle.control_flow_theory.specs.structuring.Closes.{exits_graph}
use Rattle.branch_tree.specs.declared.graph.Added.TheVariants as added
use Rattle.graph_rewriting.specs.Helds.{seen_work}
use Rattle.branch_tree.specs.Tree.{seen_tree}
use Rattle.loop_rules.proofs.NodeRows.{count_is}
use Rattle.loop_rules.proofs.TakenRows.{has_taken, bare_taken, fits_taken, put_again, put_with}
use Rattle.region_rewrite.proofs.exit_rule_lemmas.ExitRows.{exit_row}
use Rattle.region_rewrite.proofs.exit_rule_lemmas.LeafRows.{closes_leaves}
use Rattle.region_rewrite.proofs.exit_rule.exits.exit_node.Goals as goal

pub put-requires-clause-has : goal.put-requires-clause-has
put-requires-clause-has c =
    let takes = c.in-Some.ensures in
    has_taken c.reserve_added.new.self c.take.new.self c.args.label c.sound.ensures takes.0 takes.2

pub put-requires-clause-bare : goal.put-requires-clause-bare
put-requires-clause-bare c =
    let takes = c.in-Some.ensures in
    bare_taken c.reserve_added.new.self c.take.new.self c.args.label c.sound.ensures takes.0 takes.2

pub put-requires-clause-fits : goal.put-requires-clause-fits
put-requires-clause-fits c =
    let takes = c.in-Some.ensures in
    let label = c.args.label in
    let new = seen_tree c.exit_tree-closed.new.tree in
    fits_taken c.reserve_added.new.self c.take.new.self label c.sound.ensures takes.0 takes.2 new
    (λ l. subst (λ t. leaves_to l new ≤ leaves_to l t) takes.1
    (closes_leaves c.exit_tree-closed.result l label c.added_len-cell.result
    (seen_tree c.in-Some.tree) new c.exit_tree-closed.ensures.ok c.exit_tree-closed.ensures.err))

pub returns-in-Ok-clause-ok : goal.returns-in-Ok-clause-ok
returns-in-Ok-clause-ok c =
    let takes = c.in-Some.ensures in
    let label = c.args.label in
    let cell = c.added_len-cell.result in
    let old = c.reserve_added.new.self in
    let items = c.args.work.now.added.items in
    let same = c.in_ok-reserve_added.ensures.graph in
    let sized : cell ≡ length items = search rules in
    let cells : cell ≡ count (seen_work old).added =
    sized ∙ sym (count_is items) ∙ ap (λ g. count g.added) (sym same) in
    let new = seen_tree c.exit_tree-closed.new.tree in
    put_with old c.take.new.self label c.sound.ensures takes.0 takes.2 c.put.new.self new c.put.ensures
    c.push_added.new.self (added.Exit ∷ []) c.push_added.ensures.entry c.push_added.ensures.nodes
    c.push_added.ensures.added
    ∙ exit_row label (seen_work old) cell (seen_tree c.in-Some.tree) new cells takes.1 c.in-Ok.ensures.ok
    ∙ ap (exits_graph label) same

pub returns-in-Err-clause-err : goal.returns-in-Err-clause-err
returns-in-Err-clause-err c =
    let takes = c.in-Some.ensures in
    let new = seen_tree c.exit_tree-closed.new.tree in
    put_again c.reserve_added.new.self c.take.new.self c.args.label c.sound.ensures takes.0 takes.2
    c.put.new.self new c.put.ensures (c.in-Err.ensures.err ∙ takes.1)
    ∙ c.in_ok-reserve_added.ensures.graph
