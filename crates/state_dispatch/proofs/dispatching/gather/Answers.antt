use Rattle.std.proofs.Common.{◌≡◌, map, ap, sym, ◌∙◌, subst}
use Rattle.control_flow_theory.specs.graph_rules.Reduced.{with_tree}
use Rattle.control_flow_theory.specs.structuring.Dispatches.{labels_of, trees_return}
use Rattle.branch_tree.specs.Graph.{seen_nodes}
use Rattle.graph_rewriting.specs.Rewriting.{bare}
use Rattle.branch_tree.specs.Tree.{seen_tree, seen_trees, seen_body}
use Rattle.state_dispatch.specs.Dispatching.{taken_trees, Clears, one_node}
use Rattle.state_dispatch.proofs.ClearRows.{all_trees, clears_taken, one_with}
use Rattle.state_dispatch.proofs.DispatchRows.{dispatch_row}
use Rattle.state_dispatch.proofs.dispatching.gather.Goals as goal

pub leave_entry-requires : goal.leave_entry-requires
leave_entry-requires c =
    let nodes = seen_nodes c.args.work.now.nodes in
    let taken = c.take_trees-arms.new.work in
    let takes = c.take_trees-arms.ensures.nodes in
    subst (λ l. Clears l c.as_slice-2.result.now (seen_nodes taken.nodes)) (sym takes.entry_stays)
    (clears_taken c.args.work.now.entry c.as_slice.result.now c.as_slice-2.result.now nodes
    (seen_nodes taken.nodes) c.sound.ensures.rising c.sound.ensures.entry
    (c.as_slice.ensures.value ∙ c.requires.labels) (c.as_slice-2.ensures.value ∙ c.requires.labels)
    takes.nodes_are)

pub returns : goal.returns
returns c =
    let old = c.args.work.now in
    let nodes = seen_nodes old.nodes in
    let takes = c.take_trees-arms.ensures.nodes in
    let leaves = c.leave_entry.ensures in
    let t = seen_tree c.gathered-tree.result in
    let arms = map seen_tree c.take_trees-arms.result.items in
    let labels : c.as_slice.result.now ≡ labels_of nodes = c.as_slice.ensures.value ∙ c.requires.labels in
    let row =
    dispatch_row c.args.state old.entry nodes c.from_vec.result (seen_body c.args.before.items) arms
    c.trees_return-returns.result t (c.from_vec.ensures ∙ c.requires.labels) c.requires.first
    (c.take_trees-arms.ensures.trees ∙ ap (λ ls. taken_trees ls nodes) labels
    ∙ all_trees nodes c.sound.ensures.rising)
    (c.trees_return-returns.ensures ∙ ap (λ l. trees_return (seen_trees l)) c.as_slice-3.ensures.value)
    c.gathered-tree.ensures in
    record {
      nodes_are =
          c.put.ensures.nodes_are
          ∙ ap (λ l. with_tree l t (seen_nodes c.leave_entry.new.work.nodes))
          (c.entry-entry.ensures ∙ leaves.entry_stays ∙ takes.entry_stays)
          ∙ ap (with_tree old.entry t) (leaves.nodes_are ∙ ap (λ l. one_node l bare) takes.entry_stays)
          ∙ one_with old.entry t bare
          ∙ ap (one_node old.entry) row;
      entry_stays = c.put.ensures.entry_stays ∙ leaves.entry_stays ∙ takes.entry_stays;
      added_stays = c.put.ensures.added_stays ∙ leaves.added_stays ∙ takes.added_stays;
    }
