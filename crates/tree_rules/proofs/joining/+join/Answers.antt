use Rattle.std.proofs.Common.{◌≡◌, ◌<◌, ◌≤◌, List, map, length, take, get_or, set, ap, subst, sym, ◌∙◌, arith, rules, ◌||◌}
use Rattle.std.specs.Prelude.{All}
use Rattle.std.proofs.lemmas.Grind.{common_steps}
use Rattle.std.proofs.lemmas.List.{map-set, length-map}
use Rattle.branch_tree.specs.Tree.{seen_tree, seen_trees, trees_of}
use Rattle.branch_tree.specs.declared.tree.End.TheViews.{the_lemmas}
use Rattle.control_flow_theory.specs.semantics.Graph as graph
use Rattle.control_flow_theory.specs.graph_rules.Shapes.{joined, joined_arms}
use Rattle.tree_rules.specs.Joining.{may_join, arms_may_join}
use Rattle.tree_rules.specs.Rooms.{HasRoom}
use Rattle.tree_rules.proofs.Arms.{changed_next, changed_all, joined_each, seen_at}
use Rattle.tree_rules.proofs.JoinRows.{joined_row, joins_row, some_joins}
use Rattle.tree_rules.proofs.RoomRows.{room_in_pick, written_back}
use Rattle.tree_rules.proofs.joining.+join.Goals as goal

pub join_all-join_arms-inner-requires : goal.join_all-join_arms-inner-requires
join_all-join_arms-inner-requires t c = (
  search (rules, the_lemmas),
  let room =
      room_in_pick c.args.tree.now c.in-Pick.by c.in-Pick.arms
      (sym c.replace.ensures.value ∙ c.in-Pick.is) c.requires in
      let passed : c.as_mut_slice.result.now ≡ c.in-Pick.arms =
      c.as_mut_slice.ensures.value ∙ c.into_vec-arms.ensures in
      subst (All HasRoom) (sym passed) room.1,
)

pub join_all-returns-in-Pick : goal.join_all-returns-in-Pick
join_all-returns-in-Pick t c =
    let old = c.args.tree.now in
    let by = c.in-Pick.by in
    let arms = c.in-Pick.arms in
    let news = c.from_vec.result in
    let is = sym c.replace.ensures.value ∙ c.in-Pick.is in
    let passed : c.as_mut_slice.result.now ≡ arms =
    c.as_mut_slice.ensures.value ∙ c.into_vec-arms.ensures in
    let kept = c.join_arms-inner.auto.arms in
    let back : news ≡ c.join_arms-inner.new.arms =
    written_back c.join_arms-inner.new.arms c.into_vec-arms.result.items news
    c.into_vec-arms.result.len c.from_vec.ensures
    (omega (arith, kept, c.as_mut_slice.ensures.len)) in
    let arms_are : seen_trees news ≡ joined_arms (seen_trees arms) =
    ap seen_trees back ∙ c.join_arms-inner.ensures.arms
    ∙ ap (λ l. joined_arms (seen_trees l)) passed in
    record {
      tree =
          joined_row old by arms news is arms_are (seen_tree c.join_pick-outer.new.tree)
          c.join_pick-outer.ensures.tree;
      joins =
          c.either.ensures
          ∙ joins_row old by arms news is arms_are c.join_arms-inner.result c.join_pick-outer.result
          (c.join_arms-inner.ensures.joins ∙ ap (λ l. arms_may_join (seen_trees l)) passed)
          c.join_pick-outer.ensures.joins;
    }

pub join_arms-loop-at-preserved : goal.join_arms-loop-at-preserved
join_arms-loop-at-preserved t c =
    let trees : List graph.Tree = map seen_tree c.args.arms.now in
    let at = c.loop-at.at in
    let d = c.index-arms-at.result in
    let within : at < length trees =
    let mapped : length trees ≡ length c.args.arms.now = length-map c.args.arms.now seen_tree in
    omega (arith, mapped, c.loop-at-test.true) in
    let still : get_or c.loop-at.arms at d ≡ get_or c.args.arms.now at d =
    c.loop-at.invariant.unvisited.1 at d (omega arith) in
    let seen : seen_tree (get_or c.loop-at.arms at d) ≡ get_or trees at (seen_tree d) =
    ap seen_tree still ∙ seen_at c.args.arms.now at d in
    record {
      same =
          map-set seen_tree c.loop-at.arms at c.join_all-joined.new.tree
          ∙ ap (λ l. set l at (seen_tree c.join_all-joined.new.tree)) c.loop-at.invariant.same
          ∙ ap (set _ at) (c.join_all-joined.ensures.tree ∙ ap joined seen)
          ∙ changed_next joined trees at (seen_tree d) within;
      joins =
          c.either-joins.ensures
          ∙ ap (λ z. z || c.join_all-joined.result) c.loop-at.invariant.joins
          ∙ ap (λ z. arms_may_join (trees_of (take at trees)) || z)
          (c.join_all-joined.ensures.joins ∙ ap may_join seen)
          ∙ some_joins trees at (seen_tree d) within;
      unvisited = (grind (arith, common_steps), λ k d le. grind (arith, common_steps, c.loop-at.invariant.unvisited.1 k d));
    }

pub join_arms-returns-clause-arms : goal.join_arms-returns-clause-arms
join_arms-returns-clause-arms t c =
    let trees : List graph.Tree = map seen_tree c.args.arms.now in
    let most : length trees ≤ c.loop-at.at =
    let mapped : length trees ≡ length c.args.arms.now = length-map c.args.arms.now seen_tree in
    grind (arith, common_steps) in
    ap trees_of (c.loop-at.invariant.same ∙ changed_all joined trees c.loop-at.at most)
    ∙ joined_each trees
