use Rattle.std.proofs.Common.{◌≡◌, ◌≤◌, length, map, ap, sym, ◌∙◌, arith}
use Rattle.std.proofs.lemmas.Grind.{common_steps}
use Rattle.std.proofs.lemmas.Result.{on_ok_weaker}
use Rattle.control_flow_theory.specs.language.Control.{stmts_of}
use Rattle.control_flow_theory.specs.lowering.Renamed.{picker_anew, stmt_anew, test_anew, tree_anew, trees_anew}
use Rattle.branch_tree.specs.Choosers.{seen_picker, seen_test}
use Rattle.control_flow_theory.specs.main_theorem.Numbering.{place_among}
use Rattle.branch_tree.specs.Tree.{seen_piece, seen_tree, seen_trees, trees_of}
use Rattle.branch_tree.specs.declared.tree.Piece.{out-Piece}
use Rattle.branch_tree.specs.declared.tree.Piece.TheVariants as piece
use Rattle.added_items.specs.counters.Anew.{leaves_anew}
use Rattle.added_items.proofs.counters_lemmas.AnewRows.{loop-out, piece-choose, piece-loop, stmts-anew, trees-anew}
use Rattle.added_items.proofs.counters_lemmas.Each.{next-changed, all-changed}
use Rattle.added_items.proofs.counters.trees.+number.Goals as goal

pub number_piece-returns-in-Own : goal.number_piece-returns-in-Own
number_piece-returns-in-Own t c =
    let number = place_among c.args.cells.now in
    on_ok_weaker c.own_piece.result (λ h. sym (h number)) c.own_piece.ensures

pub number_piece-returns-in_ok-number_picker-in-Choose :
    goal.number_piece-returns-in_ok-number_picker-in-Choose
number_piece-returns-in_ok-number_picker-in-Choose t c =
    let number = place_among c.args.cells.now in
    let p : seen_picker c.number_picker.new.by ≡ picker_anew number (seen_picker c.in-Choose.by) =
    c.in_ok-number_picker-in-Choose.ensures ∙ ap (λ b. picker_anew number (seen_picker b)) c.in-Choose.by-is in
    on_ok_weaker c.number_arms.result
    (λ h. piece-choose number c.in-Choose.by c.number_picker.new.by c.in-Choose.arms c.number_arms.new.arms
    p (h ∙ ap (λ a. trees_anew number (seen_trees a)) c.in-Choose.arms-is)
    ∙ ap (λ q. stmt_anew number (seen_piece q)) (sym c.in-Choose.is)) c.number_arms.ensures

pub number_piece-returns-in_ok-number_leaves-in-Loop :
    goal.number_piece-returns-in_ok-number_leaves-in-Loop
number_piece-returns-in_ok-number_leaves-in-Loop t c =
    let number = place_among c.args.cells.now in
    on_ok_weaker c.number_tree.result
    (λ h. (
    let row : seen_piece (piece.Loop c.in-Loop.after c.in-Loop.turned c.number_test.new.test c.number_leaves.new.leaves c.number_tree.new.tree)
    ≡ stmt_anew number (seen_piece c.args.piece.now) =
    piece-loop number c.in-Loop.after c.in-Loop.turned c.in-Loop.test c.number_test.new.test c.in-Loop.leaves c.number_leaves.new.leaves c.in-Loop.body c.number_tree.new.tree
    (c.in_ok-number_test-in-Loop.ensures ∙ ap (λ u. test_anew number (seen_test u)) c.in-Loop.test-is)
    (c.in_ok-number_leaves-in-Loop.ensures ∙ ap (leaves_anew number) c.in-Loop.leaves-is)
    (h ∙ ap (λ u. tree_anew number (seen_tree u)) c.in-Loop.body-is)
    ∙ ap (λ q. stmt_anew number (seen_piece q)) (sym c.in-Loop.is) in
    let out = ap out-Piece c.in-Loop.is ∙ loop-out c.in-Loop.after c.in-Loop.turned c.in-Loop.test c.in-Loop.leaves c.in-Loop.body in
    rw out row
    )) c.number_tree.ensures

pub number_pieces-loop-at-preserved : goal.number_pieces-loop-at-preserved
number_pieces-loop-at-preserved t c = record {
  same = next-changed seen_piece (stmt_anew (place_among c.args.cells.now)) c.args.pieces.now
      c.loop-at.pieces c.loop-at.at c.index-pieces-at.result c.number_piece.new.piece
      (omega (arith, c.loop-at-test.true)) c.loop-at.invariant.same c.in_ok-number_piece.ensures;
  unvisited = (grind (arith, common_steps), λ k d le. grind (arith, common_steps, c.loop-at.invariant.unvisited.1 k d));
}

pub number_pieces-returns : goal.number_pieces-returns
number_pieces-returns t c =
    let number = place_among c.args.cells.now in
    let pieces = c.args.pieces.now in
    let most : length pieces ≤ c.loop-at.at = grind (arith, common_steps) in
    ap stmts_of (c.loop-at.invariant.same ∙ all-changed seen_piece (stmt_anew number) pieces c.loop-at.at most)
    ∙ stmts-anew number (map seen_piece pieces)

pub number_trees-loop-at-preserved : goal.number_trees-loop-at-preserved
number_trees-loop-at-preserved t c = record {
  same = next-changed seen_tree (tree_anew (place_among c.args.cells.now)) c.args.trees.now
      c.loop-at.trees c.loop-at.at c.index-trees-at.result c.number_tree.new.tree
      (omega (arith, c.loop-at-test.true)) c.loop-at.invariant.same c.in_ok-number_tree.ensures;
  unvisited = (grind (arith, common_steps), λ k d le. grind (arith, common_steps, c.loop-at.invariant.unvisited.1 k d));
}

pub number_trees-returns : goal.number_trees-returns
number_trees-returns t c =
    let number = place_among c.args.cells.now in
    let trees = c.args.trees.now in
    let most : length trees ≤ c.loop-at.at = grind (arith, common_steps) in
    ap trees_of (c.loop-at.invariant.same ∙ all-changed seen_tree (tree_anew number) trees c.loop-at.at most)
    ∙ trees-anew number (map seen_tree trees)
