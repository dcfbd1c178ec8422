use Rattle.std.proofs.Common.{◌≡◌, ℕ, List, ◌++◌, refl, ap, sym, ◌∙◌, subst, rules}
use Rattle.control_flow_theory.specs.semantics.Graph as graph
use Rattle.branch_tree.specs.Tree.{seen_tree}
use Rattle.flow_graph.specs.Jumps.{AddsJumps}
use Rattle.flow_graph.proofs.range_sizes_lemmas.PartRows.{part-of}
use Rattle.flow_graph.proofs.range_sizes.cache.TreeSizeCache.count.Goals as goal

pub returns : goal.returns
returns c =
    let tree = seen_tree c.args.tree.now in
    let old = c.clear.new.self.places.items in
    let found = c.visit_tree.new.reach.places.items in
    let labels = c.extend_from_slice.new.self in
    let same : labels.items ≡ found =
    c.in_ok-extend_from_slice.ensures.items
    ∙ ap (λ (l : List ℕ). l ++ c.as_slice.result.now) c.new-labels.ensures.items
    ∙ c.as_slice.ensures.value in
    record {
      jumps = record { labels = labels };
      lists = c.in-Ok.ensures.items;
      number = search rules;
      is = part-of tree c.tree_size.result old labels.items c.clear.ensures.none
          (subst (AddsJumps (graph.end_of tree) old) (sym same) c.in_ok-visit_tree.ensures.adds)
          c.tree_size.ensures;
      rows = refl;
      parts = refl;
      shared = refl;
      marked = c.in_ok-visit_tree.ensures.marked;
      size = c.in_ok-visit_tree.ensures.size ∙ c.clear.ensures.size;
    }
