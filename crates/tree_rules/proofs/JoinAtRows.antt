-- Join on the tree of one node.
use Rattle.std.proofs.Common.{◌≡◌, ◌≤◌, ℕ, Bool, true, false, if◌then◌else◌, ◌==◌, List, [], ◌∷◌, Option, Some, None, Result, Ok, Err, map, refl, ap, sym, ◌∙◌, subst, arith, inl, inr}
use Rattle.std.proofs.lemmas.Bool.Decides.{eqb_tells}
use Rattle.cob_base.specs.declared.memory.NoMemory.{NoMemory}
use Rattle.control_flow_theory.specs.language.Language.{none}
use Rattle.control_flow_theory.specs.semantics.Graph.{Label, Tree, tree, Dead}
use Rattle.control_flow_theory.specs.graph_rules.Shapes.{joined, leaves_to}
use Rattle.control_flow_theory.specs.graph_rules.Reduced.{Node, Graph, tree_in, has_node, with_tree}
use Rattle.branch_tree.specs.Graph.{seen_nodes, seen_added}
use Rattle.graph_rewriting.specs.Helds.{Held, seen_work}
use Rattle.graph_rewriting.specs.Rewriting.{IsSound, Fits, bare, Takes, WithNodes}
use Rattle.branch_tree.specs.Tree.{seen_tree}
use Rattle.branch_tree.specs.declared.tree.Tree as code
use Rattle.graph_rewriting.proofs.ChangeRows.{fits_less}
use Rattle.graph_rewriting.proofs.NodeRows.{has_with, tree_with, with_twice, with_same, with_none}
use Rattle.tree_rules.specs.Joining.{JoinsAll, JoinsAt, joined_at, may_join}
use Rattle.tree_rules.proofs.JoinRows.{none_joined}
use Rattle.tree_rules.proofs.LeafRows.{joined_leaves}
use Rattle.tree_rules.proofs.WorkRows.{same_work}

tree_none : (nodes : List Node) (label : Label) → has_node nodes label ≡ false → tree_in nodes label ≡ bare
tree_none [] label absent = refl
tree_none (node ∷ nodes) label absent = elim (eqb_tells node.label label) [
  | inl e ↦ absurd (let here = ap (λ z. if z then true else has_node nodes label) e.0 in cc)
  | inr e ↦
      ap (λ z. if z then node.tree else tree_in nodes label) e.0
      ∙ tree_none nodes label (sym (ap (λ z. if z then true else has_node nodes label) e.0) ∙ absent)
]

-- there is no such node
pub none_joins : (old new : Held) (label : Label) → Takes None label old new → JoinsAt (Ok false) label (seen_work old) (seen_work new)
none_joins old new label takes = (
  ap may_join (tree_none (seen_nodes old.nodes) label takes.0),
  ap seen_work takes.1
      ∙ same_work old old (with_tree label (joined (tree_in (seen_nodes old.nodes) label)) (seen_nodes old.nodes))
      (sym (with_none label (joined (tree_in (seen_nodes old.nodes) label)) (seen_nodes old.nodes) takes.0)) refl refl,
)

module _ (old mid : Held) (label : Label) (t : code.Tree) (takes : Takes (Some t) label old mid) where
  abbrev nodes : List Node
  nodes = seen_nodes old.nodes

  pub put_has : has_node (seen_nodes mid.nodes) label ≡ true
  put_has = ap (λ n. has_node n label) takes.2.nodes_are ∙ has_with label label bare nodes ∙ takes.0

  pub put_bare : tree_in (seen_nodes mid.nodes) label ≡ bare
  put_bare = ap (λ n. tree_in n label) takes.2.nodes_are ∙ tree_with label bare nodes takes.0

  module _ (sound : IsSound (seen_work old)) where
    fits_by : (u : Tree) → ((l : Label) → leaves_to l u ≤ leaves_to l (seen_tree t)) → Fits u (seen_nodes mid.nodes)
    fits_by u less =
        subst (Fits u) (sym takes.2.nodes_are)
        (fits_less (seen_work old) label sound takes.0 u (λ l. let h = less l in let is = ap (leaves_to l) takes.1 in omega (arith, h, is)))

    pub put_fits : (result : Result Bool NoMemory) (u : Tree) → JoinsAll result (seen_tree t) u → Fits u (seen_nodes mid.nodes)
    put_fits (Ok true) u h = fits_by u (λ l. let less = joined_leaves l (seen_tree t) in let is = ap (leaves_to l) h.1 in omega (arith, less, is))
    put_fits (Ok false) u h = fits_by u (λ l. let is = ap (leaves_to l) h.1 in omega (arith, is))
    put_fits (Err fault) u h = fits_by u (λ l. let is = ap (leaves_to l) h in omega (arith, is))

    module _ (u : Tree) (new : Held) (puts : WithNodes (with_tree label u (seen_nodes mid.nodes)) mid new) where
      now_nodes : seen_nodes new.nodes ≡ with_tree label u nodes
      now_nodes = puts.nodes_are ∙ ap (with_tree label u) takes.2.nodes_are ∙ with_twice label u bare nodes

      now_work : (v : Tree) → u ≡ v → seen_work new ≡ record { entry = old.entry; nodes = with_tree label v nodes; added = map seen_added old.added.items }
      now_work v is =
          same_work new old (with_tree label v nodes) (now_nodes ∙ ap (λ x. with_tree label x nodes) is)
          (puts.entry_stays ∙ takes.2.entry_stays) (puts.added_stays ∙ takes.2.added_stays)

    pub joins_at : (result : Result Bool NoMemory) (u : Tree) → JoinsAll result (seen_tree t) u → (new : Held) →
        WithNodes (with_tree label u (seen_nodes mid.nodes)) mid new → JoinsAt result label (seen_work old) (seen_work new)
    joins_at (Ok true) u h new puts = (
      sym (ap may_join takes.1) ∙ h.0,
      now_work u new puts (joined (tree_in nodes label)) (h.1 ∙ ap joined takes.1),
    )
    joins_at (Ok false) u h new puts = (
      sym (ap may_join takes.1) ∙ h.0,
      now_work u new puts (joined (tree_in nodes label)) (h.1 ∙ sym (none_joined (seen_tree t) h.0) ∙ ap joined takes.1),
    )
    joins_at (Err fault) u h new puts =
        same_work new old nodes
        (now_nodes u new puts ∙ ap (λ x. with_tree label x nodes) (h ∙ takes.1) ∙ with_same label nodes sound.rising)
        (puts.entry_stays ∙ takes.2.entry_stays) (puts.added_stays ∙ takes.2.added_stays)
