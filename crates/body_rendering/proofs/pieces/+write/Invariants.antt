use Rattle.std.proofs.Common.{◌≡◌, ◌++◌, ◌+◌, ◌*◌, drop, map}
use Rattle.control_flow_theory.specs.language.Control.{seen_stmts}
use Rattle.control_flow_theory.specs.graph_rules.Shapes.{followed}
use Rattle.branch_tree.specs.Tree.{seen_body}
use Rattle.statement_builders.specs.arms.Written.{all_written}
use Rattle.body_rendering.specs.Pieces.{Each, within_arm, within_loop}
use Rattle.body_rendering.proofs.pieces.+write.Given as goal

abbrev pub invariant-add_pieces-loop-at : goal.invariant-add_pieces-loop-at
invariant-add_pieces-loop-at l = record {
  same : Each l.cells l.places (λ way.
      followed (seen_stmts 0 l.made) (all_written way (seen_body (drop l.at l.fn.pieces)))
      ≡ followed (seen_stmts 0 l.fn.made) (all_written way (seen_body l.fn.pieces)));
  unvisited : goal.unvisited-add_pieces-loop-at l;
}

abbrev pub invariant-add_arms-loop-at : goal.invariant-add_arms-loop-at
invariant-add_arms-loop-at l = record {
  same : Each l.cells l.places (λ way.
      map (seen_stmts 0) l.lists ++ map (all_written way) (map within_arm (drop l.at l.fn.arms))
      ≡ map (seen_stmts 0) l.fn.lists ++ map (all_written way) (map within_arm l.fn.arms));
  unvisited : goal.unvisited-add_arms-loop-at l;
}

abbrev pub invariant-add_stated_arms-loop-at : goal.invariant-add_stated_arms-loop-at
invariant-add_stated_arms-loop-at l = record {
  same : Each l.cells l.places (λ way.
      map (seen_stmts 0) l.lists
      ++ map (all_written way) (map (within_loop l.leaves) (drop l.at l.fn.arms))
      ≡ map (seen_stmts 0) l.fn.lists
      ++ map (all_written way) (map (within_loop l.leaves) l.fn.arms));
  unvisited : goal.unvisited-add_stated_arms-loop-at l;
}

abbrev pub decreases-write_piece : goal.decreases-write_piece
decreases-write_piece l = 14 * goal.size-write_piece l + 3

abbrev pub decreases-add_pieces : goal.decreases-add_pieces
decreases-add_pieces l = 14 * goal.size-add_pieces l + 4

abbrev pub decreases-add_arm : goal.decreases-add_arm
decreases-add_arm l = 14 * goal.size-add_arm l + 5

abbrev pub decreases-write_arm : goal.decreases-write_arm
decreases-write_arm l = 14 * goal.size-write_arm l + 6

abbrev pub decreases-add_arms : goal.decreases-add_arms
decreases-add_arms l = 14 * goal.size-add_arms l + 7

abbrev pub decreases-write_choice : goal.decreases-write_choice
decreases-write_choice l = 14 * goal.size-write_choice l + 8

abbrev pub decreases-add_stated : goal.decreases-add_stated
decreases-add_stated l = 14 * goal.size-add_stated l + 5

abbrev pub decreases-write_stated : goal.decreases-write_stated
decreases-write_stated l = 14 * goal.size-write_stated l + 6

abbrev pub decreases-write_turns : goal.decreases-write_turns
decreases-write_turns l = 14 * goal.size-write_turns l + 7

abbrev pub decreases-add_stated_arms : goal.decreases-add_stated_arms
decreases-add_stated_arms l = 14 * goal.size-add_stated_arms l + 7

abbrev pub decreases-write_stated_choice : goal.decreases-write_stated_choice
decreases-write_stated_choice l = 14 * goal.size-write_stated_choice l + 8

abbrev pub decreases-add_choice : goal.decreases-add_choice
decreases-add_choice l = 14 * goal.size-add_choice l + 9

abbrev pub decreases-add_end : goal.decreases-add_end
decreases-add_end l = 14 * goal.size-add_end l + 10
