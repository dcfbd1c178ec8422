use Rattle.std.proofs.Common.{◌≡◌, ◌<◌, ◌≤◌, ◌+◌, List, map, take, length, get_or, set, ap, sym, ◌∙◌, subst, arith, rules}
use Rattle.std.proofs.lemmas.Grind.{common_steps}
use Rattle.std.proofs.lemmas.List.{map-set, length-map, take-map}
use Rattle.std.proofs.Math.Seq.{map-set_same}
use denote.Param.Weighed.{at_most}
use Rattle.control_flow_theory.specs.semantics.Graph as graph
use Rattle.control_flow_theory.specs.graph_rules.Shapes.{inlined, leaves_to, arms_leaves_to}
use Rattle.branch_tree.proofs.tree.Tree.TheLaws.{the_size}
use Rattle.branch_tree.specs.Tree.{seen_tree, trees_of}
use Rattle.tree_rules.proofs.Arms.{seen_at}
use Rattle.tree_rules.proofs.OneJump.{few_in_arm, placed_set, none_next}
use Rattle.tree_rules.proofs.putting.+place.Goals as goal

pub place_one-place-requires : goal.place_one-place-requires
place_one-place-requires t c =
    let arms = c.args.arms.now in
    let at = c.loop-at.at in
    let d = c.index-arms-at.result in
    let label = c.args.label in
    let trees : List graph.Tree = map seen_tree arms in
    let mapped = length-map arms seen_tree in
    let inside : at < length arms = grind (arith, common_steps) in
    let within : at < length trees = omega (arith, mapped, inside) in
    let still : get_or c.loop-at.arms at d ≡ get_or arms at d = c.loop-at.invariant.unvisited.1 at d (omega arith) in
    let most = at_most the_size arms at d inside in
    let less = c.decreases in (
      rw still (search rules),
      subst (λ n. n ≤ 1) (sym (ap (λ a. leaves_to label (seen_tree a)) still ∙ ap (leaves_to label) (seen_at arms at d)))
          (few_in_arm label (seen_tree c.args.by) trees at (seen_tree d) within c.requires),
    )

pub place_one-returns-in-Done : goal.place_one-returns-in-Done
place_one-returns-in-Done t c =
    let arms = c.args.arms.now in
    let at = c.loop-at.at in
    let d = c.index-arms-at.result in
    let label = c.args.label in
    let by = seen_tree c.args.by in
    let trees : List graph.Tree = map seen_tree arms in
    let mapped = length-map arms seen_tree in
    let inside : at < length arms = grind (arith, common_steps) in
    let within : at < length trees = omega (arith, mapped, inside) in
    let still : get_or c.loop-at.arms at d ≡ get_or arms at d = c.loop-at.invariant.unvisited.1 at d (omega arith) in
    let new = seen_tree c.place.new.tree in
    let is : new ≡ inlined label by (get_or trees at (seen_tree d)) =
    c.in-Done.ensures.0 ∙ ap (λ b. inlined label b (seen_tree (get_or c.loop-at.arms at d))) c.loop-at.invariant.by
    ∙ ap (λ a. inlined label by (seen_tree a)) still ∙ ap (inlined label by) (seen_at arms at d) in
    let one : leaves_to label (get_or trees at (seen_tree d)) ≡ 1 =
    sym (ap (λ a. leaves_to label (seen_tree a)) still ∙ ap (leaves_to label) (seen_at arms at d)) ∙ c.in-Done.ensures.1 in
    let put = placed_set label by trees at (seen_tree d) new within c.requires is one in (
      ap trees_of (map-set seen_tree c.loop-at.arms at c.place.new.tree ∙ ap (λ l. set l at new) c.loop-at.invariant.same) ∙ put.0,
      put.1,
    )

pub place_one-returns-in-NoRoom : goal.place_one-returns-in-NoRoom
place_one-returns-in-NoRoom t c =
    let at = c.loop-at.at in
    let d = c.index-arms-at.result in (
      ap trees_of (map-set_same seen_tree c.loop-at.arms at c.place.new.tree d c.in-NoRoom.ensures.0 ∙ c.loop-at.invariant.same),
      c.in-NoRoom.ensures.1 ∙ c.loop-at.invariant.by,
    )

pub place_one-loop-at-preserved : goal.place_one-loop-at-preserved
place_one-loop-at-preserved t c =
    let arms = c.args.arms.now in
    let at = c.loop-at.at in
    let d = c.index-arms-at.result in
    let label = c.args.label in
    let trees : List graph.Tree = map seen_tree arms in
    let mapped = length-map arms seen_tree in
    let inside : at < length arms = grind (arith, common_steps) in
    let within : at < length trees = omega (arith, mapped, inside) in
    let still : get_or c.loop-at.arms at d ≡ get_or arms at d = c.loop-at.invariant.unvisited.1 at d (omega arith) in
    let none : leaves_to label (get_or trees at (seen_tree d)) ≡ 0 =
    sym (ap (λ a. leaves_to label (seen_tree a)) still ∙ ap (leaves_to label) (seen_at arms at d)) ∙ c.in-Elsewhere.ensures.2 in
    let before : arms_leaves_to label (trees_of (take at trees)) ≡ 0 =
    ap (λ l. arms_leaves_to label (trees_of l)) (take-map seen_tree at arms) ∙ c.loop-at.invariant.none in
    record {
      same = map-set_same seen_tree c.loop-at.arms at c.place.new.tree d c.in-Elsewhere.ensures.0 ∙ c.loop-at.invariant.same;
      by = c.in-Elsewhere.ensures.1 ∙ c.loop-at.invariant.by;
      none =
          ap (λ l. arms_leaves_to label (trees_of l)) (sym (take-map seen_tree (at + 1) arms))
          ∙ none_next label trees at (seen_tree d) within before none;
      unvisited = (grind (arith, common_steps), λ k d le. grind (arith, common_steps, c.loop-at.invariant.unvisited.1 k d));
    }
