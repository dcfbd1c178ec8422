-- A node's tree comes out, and another one that isn't larger is put for it.
use Rattle.std.proofs.Common.{◌≡◌, ◌≤◌, ◌++◌, List, map, true, ap, sym, ◌∙◌, subst}
use Rattle.std.proofs.lemmas.List.{map-append}
use Rattle.control_flow_theory.specs.semantics.Graph.{Label, Tree}
use Rattle.control_flow_theory.specs.graph_rules.Shapes.{leaves_to}
use Rattle.control_flow_theory.specs.graph_rules.Reduced.{has_node, tree_in, with_tree, looped_graph}
use Rattle.branch_tree.specs.declared.graph.Added.{Added}
use Rattle.branch_tree.specs.Graph.{seen_nodes, seen_added}
use Rattle.graph_rewriting.specs.Helds.{Held, seen_work}
use Rattle.graph_rewriting.specs.Rewriting.{IsSound, bare, Fits, WithNodes}
use Rattle.graph_rewriting.proofs.NodeRows.{has_with, tree_with, with_twice, with_same}
use Rattle.graph_rewriting.proofs.ChangeRows.{fits_less}
use Rattle.tree_rules.proofs.InlineRows.{graph_same}

module _ (old taken : Held) (label : Label) (sound : IsSound (seen_work old))
    (has : has_node (seen_nodes old.nodes) label ≡ true)
    (takes : WithNodes (with_tree label bare (seen_nodes old.nodes)) old taken) where
  pub has_taken : has_node (seen_nodes taken.nodes) label ≡ true
  has_taken =
      ap (λ ns. has_node ns label) takes.nodes_are
      ∙ has_with label label bare (seen_nodes old.nodes) ∙ has

  pub bare_taken : tree_in (seen_nodes taken.nodes) label ≡ bare
  bare_taken =
      ap (λ ns. tree_in ns label) takes.nodes_are ∙ tree_with label bare (seen_nodes old.nodes) has

  pub fits_taken : (new : Tree) →
      ((l : Label) → leaves_to l new ≤ leaves_to l (tree_in (seen_nodes old.nodes) label)) →
      Fits new (seen_nodes taken.nodes)
  fits_taken new less =
      subst (λ ns. Fits new ns) (sym takes.nodes_are) (fits_less (seen_work old) label sound has new less)

  module _ (put : Held) (new : Tree)
      (puts : WithNodes (with_tree label new (seen_nodes taken.nodes)) taken put) where
    nodes_put : seen_nodes put.nodes ≡ with_tree label new (seen_nodes old.nodes)
    nodes_put =
        puts.nodes_are ∙ ap (with_tree label new) takes.nodes_are
        ∙ with_twice label new bare (seen_nodes old.nodes)

    pub added_put : put.added ≡ old.added
    added_put = puts.added_stays ∙ takes.added_stays

    -- the tree that stood there changes nothing
    pub put_again : new ≡ tree_in (seen_nodes old.nodes) label → seen_work put ≡ seen_work old
    put_again h =
        graph_same _ _ _ _ _ _ (puts.entry_stays ∙ takes.entry_stays)
        (nodes_put ∙ ap (λ t. with_tree label t (seen_nodes old.nodes)) h
        ∙ with_same label (seen_nodes old.nodes) sound.rising)
        (ap (λ v. map seen_added v.items) added_put)

    -- with added items
    pub put_with : (last : Held) (kinds : List Added) → last.entry ≡ put.entry → last.nodes ≡ put.nodes →
        last.added.items ≡ put.added.items ++ kinds →
        seen_work last ≡ looped_graph label new (map seen_added kinds) (seen_work old)
    put_with last kinds he hn ha =
        graph_same _ _ _ _ _ _ (he ∙ puts.entry_stays ∙ takes.entry_stays)
        (ap seen_nodes hn ∙ nodes_put)
        (ap (map seen_added) (ha ∙ ap (λ v. v.items ++ kinds) added_put)
        ∙ map-append seen_added old.added.items kinds)
