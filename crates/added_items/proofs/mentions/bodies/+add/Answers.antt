use Rattle.std.proofs.Common.{◌++◌, ap, ap₂, sym, ◌∙◌}
use Rattle.control_flow_theory.specs.graph_rules.Shapes.{arms_stmts}
use Rattle.branch_tree.specs.Choosers.{seen_picker, seen_test}
use Rattle.branch_tree.specs.Tree.{seen_piece, seen_body, seen_end, seen_tree, seen_trees, stated}
use Rattle.added_items.specs.mentions.CellUse.{cell_uses, stmt_mentions, arms_mentions, picker_mentions, test_mentions}
use Rattle.added_items.specs.mentions.Within.{end_within, trees_within}
use Rattle.added_items.proofs.mentions_lemmas.MentionRows.{pick_names, choose_names, loop_names, tree_names, both_added}
use Rattle.added_items.proofs.mentions.bodies.+add.Goals as goal

pub add_end-returns-in_ok-add_picker-in-Pick : goal.add_end-returns-in_ok-add_picker-in-Pick
add_end-returns-in_ok-add_picker-in-Pick t c =
    let leaves = c.args.leaves.now in
    let by = c.in-Pick.by in
    let front = picker_mentions (seen_picker by) c.len.result in
    let more = trees_within leaves (seen_trees c.as_slice.result.now) in
    both_added c.add_within.result c.args.made.now c.add_picker.new.made c.add_within.new.made front more _
    c.in_ok-add_picker-in-Pick.ensures
    (ap₂ (λ n ts. picker_mentions (seen_picker by) n ++ trees_within leaves (seen_trees ts)) c.len.ensures c.as_slice.ensures
    ∙ sym (pick_names leaves by c.in-Pick.arms) ∙ ap (λ e. cell_uses (end_within leaves (seen_end e))) (sym c.in-Pick.is))
    c.add_within.ensures

pub add_piece-returns-in_ok-add_picker-in-Choose : goal.add_piece-returns-in_ok-add_picker-in-Choose
add_piece-returns-in_ok-add_picker-in-Choose t c =
    let by = c.in-Choose.by in
    let front = picker_mentions (seen_picker by) c.len.result in
    let more = arms_mentions (arms_stmts (seen_trees c.as_slice.result.now)) in
    both_added c.add_arms.result c.args.made.now c.add_picker.new.made c.add_arms.new.made front more _
    c.in_ok-add_picker-in-Choose.ensures
    (ap₂ (λ n ts. picker_mentions (seen_picker by) n ++ arms_mentions (arms_stmts (seen_trees ts))) c.len.ensures c.as_slice.ensures
    ∙ sym (choose_names by c.in-Choose.arms) ∙ ap (λ p. stmt_mentions (seen_piece p)) (sym c.in-Choose.is))
    c.add_arms.ensures

pub add_piece-returns-in_ok-add_test-in-Loop : goal.add_piece-returns-in_ok-add_test-in-Loop
add_piece-returns-in_ok-add_test-in-Loop t c =
    let loop = c.in-Loop in
    both_added c.add_tree.result c.args.made.now c.add_test.new.made c.add_tree.new.made
    (test_mentions (seen_test loop.test)) (cell_uses (stated loop.leaves (seen_tree loop.body))) _
    c.in_ok-add_test-in-Loop.ensures
    (sym (loop_names loop.after loop.turned loop.test loop.leaves loop.body) ∙ ap (λ p. stmt_mentions (seen_piece p)) (sym loop.is))
    c.add_tree.ensures

pub add_tree-returns : goal.add_tree-returns
add_tree-returns t c =
    let leaves = c.args.leaves.now in
    let tree = c.args.tree.now in
    both_added c.add_end.result c.args.made.now c.add_body.new.made c.add_end.new.made
    (cell_uses (seen_body tree.body.items)) (cell_uses (end_within leaves (seen_end tree.end))) _
    c.in_ok-add_body.ensures
    (sym (tree_names leaves tree))
    c.add_end.ensures
