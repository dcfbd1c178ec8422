use Rattle.std.proofs.Common.{◌≡◌, map}
use Rattle.control_flow_theory.specs.lowering.Renamed.{stmt_anew, tree_anew}
use Rattle.control_flow_theory.specs.main_theorem.Numbering.{place_among}
use Rattle.branch_tree.specs.Tree.{seen_piece, seen_tree}
use Rattle.added_items.proofs.counters_lemmas.Each.{changed}
use Rattle.added_items.proofs.counters.trees.+number.Given as goal

abbrev pub invariant-number_pieces-loop-at : goal.invariant-number_pieces-loop-at
invariant-number_pieces-loop-at l = record {
  same : map seen_piece l.pieces
      ≡ changed seen_piece (stmt_anew (place_among l.cells)) l.at l.fn.pieces;
  unvisited : goal.unvisited-number_pieces-loop-at l;
}

abbrev pub invariant-number_trees-loop-at : goal.invariant-number_trees-loop-at
invariant-number_trees-loop-at l = record {
  same : map seen_tree l.trees
      ≡ changed seen_tree (tree_anew (place_among l.cells)) l.at l.fn.trees;
  unvisited : goal.unvisited-number_trees-loop-at l;
}
