use Rattle.std.proofs.Common.{◌++◌, ◌∷◌, map, drop, ◌+◌, ap, sym, ◌∙◌, arith}
use Rattle.std.proofs.lemmas.Grind.{common_steps}
use Rattle.branch_tree.specs.Graph.{seen_nodes}
use Rattle.branch_tree.specs.Tree.{seen_tree}
use Rattle.state_dispatch.specs.Dispatching.{all_taken, taken_trees}
use Rattle.state_dispatch.proofs.ClearRows.{length_next, trees_next, all_next, trees_past, all_past, pushed}
use Rattle.state_dispatch.proofs.dispatching.take_trees.Goals.{in-None, in-Some}
use Rattle.state_dispatch.proofs.dispatching.take_trees.Goals as goal

pub loop-label-preserved : goal.loop-label-preserved
loop-label-preserved c =
    let labels = c.args.labels.now in
    let i = c.loop-label.label-index in
    let label = c.label-item.result in
    let within = c.loop-label-test.true in
    let nodes = seen_nodes c.loop-label.work.nodes in
    let after = seen_nodes c.take.new.self.nodes in
    let trees = c.loop-label.trees.items in
    let rest = taken_trees (drop (i + 1) labels) after in
    let inv = c.loop-label.invariant in
    let shorter = length_next labels i label within c.label-item.is in
    elim c.match-take.branch [
      | in-None w ↦
          let stays = w.in-None.ensures.1 in
          record {
            trees =
                ap (λ v. map seen_tree v.items ++ rest) w.trees-is
                ∙ ap (λ h. map seen_tree trees ++ taken_trees (drop (i + 1) labels) (seen_nodes h.nodes)) stays
                ∙ ap (λ l. map seen_tree trees ++ l) (sym (trees_past labels i label within c.label-item.is nodes w.in-None.ensures.0))
                ∙ inv.trees;
            nodes =
                ap (λ h. all_taken (drop (i + 1) labels) (seen_nodes h.nodes)) stays
                ∙ sym (all_past labels i label within c.label-item.is nodes w.in-None.ensures.0)
                ∙ inv.nodes;
            enough = grind (arith, common_steps);
            entry = ap (λ h. h.entry) stays ∙ inv.entry;
            added = ap (λ h. h.added) stays ∙ inv.added;
          }
      | in-Some w ↦
          let takes = w.in-Some.ensures in
          record {
            trees =
                ap (λ v. map seen_tree v.items ++ rest) w.trees-is
                ∙ ap (λ l. map seen_tree l ++ rest) w.push_reserved.ensures.items
                ∙ pushed trees w.in-Some.tree rest
                ∙ ap (λ t. map seen_tree trees ++ t ∷ rest) takes.1
                ∙ ap (λ l. map seen_tree trees ++ l) (sym (trees_next labels i label within c.label-item.is nodes after takes.0 takes.2.nodes_are))
                ∙ inv.trees;
            nodes =
                sym (all_next labels i label within c.label-item.is nodes after takes.0 takes.2.nodes_are)
                ∙ inv.nodes;
            enough = grind (arith, common_steps);
            entry = takes.2.entry_stays ∙ inv.entry;
            added = takes.2.added_stays ∙ inv.added;
          }
    ]
