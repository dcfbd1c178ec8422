use Rattle.std.proofs.Common.{◌≡◌, ◌++◌, get_or, map, refl, sym, subst, ap, ◌∙◌, arith}
use Rattle.std.proofs.lemmas.Grind.{common_steps}
use Rattle.std.proofs.lemmas.Result.{IfOk-weaker, on_ok_weaker}
use Rattle.control_flow_theory.specs.language.Control.{seen_stmts}
use Rattle.control_flow_theory.specs.graph_rules.Shapes.{alone, followed}
use Rattle.branch_tree.specs.Tree.{seen_body, seen_piece}
use Rattle.statement_builders.specs.arms.Written.{all_written, written}
use Rattle.body_rendering.specs.Pieces.{AddsLists, end_stmts, stated_choice, within_arm, within_loop}
use Rattle.body_rendering.proofs.BodyRows.{adds_nothing}
use Rattle.body_rendering.proofs.PieceRows.{pieces_next, pieces_end, arms_next, arms_end, arm_row, stated_both, adds_same, chosen_made, stated_made, one_row, pick_is, dead_is}
use Rattle.body_rendering.proofs.pieces.+write.Goals as goal

pub add_pieces-loop-at-preserved : goal.add_pieces-loop-at-preserved
add_pieces-loop-at-preserved t c =
    let at = c.loop-at.at in
    let d = c.index-pieces-at.result in
    let still : get_or c.loop-at.pieces at d ≡ get_or c.args.pieces.now at d =
    c.loop-at.invariant.unvisited.1 at d (omega arith) in
    record {
      same = λ way are placed.
          pieces_next way c.args.pieces.now at d (get_or c.args.pieces.now at d) c.loop-at.made
          c.push.new.self c.in_ok-stmt.stmt
          (followed (seen_stmts 0 c.args.made.now) (all_written way (seen_body c.args.pieces.now)))
          (omega (arith, c.loop-at-test.true)) refl c.in_ok-push.ensures.ok
          (c.in_ok-stmt.ensures way are placed ∙ ap (λ p. written way (seen_piece p)) still)
          (c.loop-at.invariant.same way are placed);
      unvisited = (grind (arith, common_steps), λ k d le. grind (arith, common_steps, c.loop-at.invariant.unvisited.1 k d));
    }

pub add_pieces-returns : goal.add_pieces-returns
add_pieces-returns t c = λ way are placed.
    pieces_end way c.args.pieces.now c.loop-at.at (seen_stmts 0 c.loop-at.made)
    (followed (seen_stmts 0 c.args.made.now) (all_written way (seen_body c.args.pieces.now)))
    (omega (arith, c.loop-at-test.false)) (c.loop-at.invariant.same way are placed)

pub add_arms-loop-at-preserved : goal.add_arms-loop-at-preserved
add_arms-loop-at-preserved t c =
    let at = c.loop-at.at in
    let d = c.index-arms-at.result in
    let still : get_or c.loop-at.arms at d ≡ get_or c.args.arms.now at d =
    c.loop-at.invariant.unvisited.1 at d (omega arith) in
    record {
      same = λ way are placed.
          arms_next way within_arm c.args.arms.now at d (get_or c.args.arms.now at d)
          c.loop-at.lists c.push.new.self c.in_ok-made.made
          (map (seen_stmts 0) c.args.lists.now
          ++ map (all_written way) (map within_arm c.args.arms.now))
          (omega (arith, c.loop-at-test.true)) refl c.in_ok-push.ensures.ok
          (c.in_ok-made.ensures way are placed ∙ ap (λ a. all_written way (within_arm a)) still)
          (c.loop-at.invariant.same way are placed);
      unvisited = (grind (arith, common_steps), λ k d le. grind (arith, common_steps, c.loop-at.invariant.unvisited.1 k d));
    }

pub add_arms-returns : goal.add_arms-returns
add_arms-returns t c = λ way are placed.
    arms_end way within_arm c.args.arms.now c.loop-at.at (map (seen_stmts 0) c.loop-at.lists)
    (map (seen_stmts 0) c.args.lists.now ++ map (all_written way) (map within_arm c.args.arms.now))
    (omega (arith, c.loop-at-test.false)) (c.loop-at.invariant.same way are placed)

pub add_stated_arms-loop-at-preserved : goal.add_stated_arms-loop-at-preserved
add_stated_arms-loop-at-preserved t c =
    let at = c.loop-at.at in
    let d = c.index-arms-at.result in
    let within = within_loop c.args.leaves.now in
    let still : get_or c.loop-at.arms at d ≡ get_or c.args.arms.now at d =
    c.loop-at.invariant.unvisited.1 at d (omega arith) in
    record {
      same = λ way are placed.
          arms_next way within c.args.arms.now at d (get_or c.args.arms.now at d)
          c.loop-at.lists c.push.new.self c.in_ok-made.made
          (map (seen_stmts 0) c.args.lists.now
          ++ map (all_written way) (map within c.args.arms.now))
          (omega (arith, c.loop-at-test.true)) refl c.in_ok-push.ensures.ok
          (c.in_ok-made.ensures way are placed ∙ ap (λ a. all_written way (within a)) still)
          (c.loop-at.invariant.same way are placed);
      unvisited = (grind (arith, common_steps), λ k d le. grind (arith, common_steps, c.loop-at.invariant.unvisited.1 k d));
    }

pub add_stated_arms-returns : goal.add_stated_arms-returns
add_stated_arms-returns t c = λ way are placed.
    let within = within_loop c.args.leaves.now in
    arms_end way within c.args.arms.now c.loop-at.at (map (seen_stmts 0) c.loop-at.lists)
    (map (seen_stmts 0) c.args.lists.now ++ map (all_written way) (map within c.args.arms.now))
    (omega (arith, c.loop-at-test.false)) (c.loop-at.invariant.same way are placed)

pub add_arm-returns : goal.add_arm-returns
add_arm-returns t c =
    on_ok_weaker c.add_last.result
    (λ e. arm_row c.args.cells.now c.args.places.now c.args.arm.now c.make_contiguous.result.now c.args.made.now c.add_pieces.new.made c.add_last.new.made c.make_contiguous.ensures.value c.in_ok-add_pieces.ensures e)
    c.add_last.ensures

pub add_stated-returns : goal.add_stated-returns
add_stated-returns t c =
    on_ok_weaker c.add_end.result
    (λ g. stated_both c.args.cells.now c.args.places.now c.args.leaves.now c.args.tree.now c.make_contiguous.result.now c.args.made.now c.add_pieces.new.made c.add_end.new.made c.make_contiguous.ensures.value c.in_ok-add_pieces.ensures g)
    c.add_end.ensures

pub add_choice-returns : goal.add_choice-returns
add_choice-returns t c =
    on_ok_weaker c.push.result
    (λ e. one_row c.args.cells.now c.args.places.now (stated_choice c.args.leaves.now c.args.by c.args.arms) c.args.made.now c.push.new.self c.in_ok-stmt.stmt c.in_ok-stmt.ensures e)
    c.push.ensures.ok

pub add_end-returns-in-Pick : goal.add_end-returns-in-Pick
add_end-returns-in-Pick t c =
    let leaves = c.args.leaves.now in
    on_ok_weaker c.add_choice.result
    (λ h. adds_same c.args.cells.now c.args.places.now (alone (stated_choice leaves c.in-Pick.by c.in-Pick.arms)) (end_stmts leaves c.args.end.now) c.args.made.now c.add_choice.new.made
    (ap (end_stmts leaves) (sym c.replace.ensures.value ∙ c.in-Pick.is) ∙ pick_is leaves c.in-Pick.by c.in-Pick.arms) h)
    c.add_choice.ensures

pub add_end-returns-in-Dead : goal.add_end-returns-in-Dead
add_end-returns-in-Dead t c = λ way are placed.
    adds_nothing way c.args.made.now (end_stmts c.args.leaves.now c.args.end.now) (ap (end_stmts c.args.leaves.now) (sym c.replace.ensures.value ∙ c.in-Dead.is) ∙ dead_is c.args.leaves.now)

pub write_choice-returns-in-Ok : goal.write_choice-returns-in-Ok
write_choice-returns-in-Ok t c =
    let lists = c.add_arms.new.lists in
    let added : AddsLists c.args.cells.now c.args.places.now within_arm c.args.arms c.new-lists.result lists =
    subst (λ arms. AddsLists c.args.cells.now c.args.places.now within_arm arms c.new-lists.result lists)
    (c.as_mut_slice.ensures.value ∙ c.into_vec-arms.ensures) c.in-Ok.ensures in
    IfOk-weaker c.choose.result _ _
    (λ made h. chosen_made c.args.cells.now c.args.places.now c.args.by c.args.arms c.new-lists.result lists made c.new-lists.ensures added h) c.choose.ensures

pub write_stated_choice-returns-in-Ok : goal.write_stated_choice-returns-in-Ok
write_stated_choice-returns-in-Ok t c =
    let within = within_loop c.args.leaves.now in
    let lists = c.add_stated_arms.new.lists in
    let added : AddsLists c.args.cells.now c.args.places.now within c.args.arms c.new-lists.result lists =
    subst (λ arms. AddsLists c.args.cells.now c.args.places.now within arms c.new-lists.result lists)
    (c.as_mut_slice.ensures.value ∙ c.into_vec-arms.ensures) c.in-Ok.ensures in
    IfOk-weaker c.choose.result _ _
    (λ made h. stated_made c.args.cells.now c.args.places.now c.args.leaves.now c.args.by c.args.arms c.new-lists.result lists made c.new-lists.ensures added h) c.choose.ensures
