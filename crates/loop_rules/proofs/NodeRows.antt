-- A node of a graph as a loop.
use Rattle.std.proofs.Common.{◌≡◌, ℕ, Bool, true, false, if◌then◌else◌, List, [], ◌∷◌, ◌++◌, Option, Some, None, map, length, refl, ap, sym, ◌∙◌, arith}
use Rattle.control_flow_theory.specs.semantics.Doing.{is_above}
use Rattle.control_flow_theory.specs.semantics.Graph.{Label, Tree}
use Rattle.control_flow_theory.specs.graph_rules.Families.{Added}
use Rattle.control_flow_theory.specs.graph_rules.Shapes.{Live, Targets, NoTarget, Only, Several, leaves_to, other_targets}
use Rattle.control_flow_theory.specs.graph_rules.Reduced.{Graph, Form, has_node, tree_in, count, form_of, looped_graph, close_form, close_by, close_graph, at_most_one, loops}
use Rattle.branch_tree.specs.declared.graph.Added as code_added
use Rattle.branch_tree.specs.Graph.{seen_added}
use Rattle.loop_rules.specs.Nodes.{closed_form, closed_by, closed, may_loop}

pub count_is : (added : List code_added.Added) → count (map seen_added added) ≡ length added
count_is [] = refl
count_is (kind ∷ added) = let h = count_is added in omega (arith, h)

pub append_none : {A : Type 0} (xs : List A) → xs ++ [] ≡ xs
append_none [] = refl
append_none (x ∷ xs) = ap (λ l. x ∷ l) (append_none xs)

form_is : (label : Label) (g : Graph) (live : Live) (form : Option Form) →
    close_form label live g form
    ≡ looped_graph label (closed_form label (count g.added) (tree_in g.nodes label) (Only live) form).node
    (closed_form label (count g.added) (tree_in g.nodes label) (Only live) form).kinds g
form_is label g live (Some form) = refl
form_is label g live None = refl

-- the graph with the closed tree at the label
close_by_is : (label : Label) (g : Graph) (targets : Targets) → at_most_one targets ≡ true →
    close_by label g targets
    ≡ looped_graph label (closed_by label (count g.added) (tree_in g.nodes label) targets).node
    (closed_by label (count g.added) (tree_in g.nodes label) targets).kinds g
close_by_is label g NoTarget h = refl
close_by_is label g (Only live) h = form_is label g live (form_of label live (tree_in g.nodes label))
close_by_is label g Several h = let no : ⊥ = cc in absurd no

-- Loop on the node with the label.

abbrev both : Bool → Bool → Bool
both z w = if z then w else false

second : (z w : Bool) → both z w ≡ true → w ≡ true
second true w h = h
second false w h = let no : ⊥ = cc in absurd no

module _ (label : Label) (g : Graph) (applies : may_loop g label ≡ true) where
  most : at_most_one (other_targets label (tree_in g.nodes label)) ≡ true
  most =
      second (is_above (leaves_to label (tree_in g.nodes label)))
      (at_most_one (other_targets label (tree_in g.nodes label)))
      (second (has_node g.nodes label) (loops g label) applies)

  pub close_row : (cell : ℕ) (new : Tree) (kinds : List Added) → cell ≡ count g.added →
      record { node = new; kinds = kinds } ≡ closed label cell (tree_in g.nodes label) →
      looped_graph label new kinds g ≡ close_graph label g
  close_row cell new kinds c h =
      ap (λ x. looped_graph label x.node x.kinds g)
      (h ∙ ap (λ n. closed label n (tree_in g.nodes label)) c)
      ∙ sym (close_by_is label g (other_targets label (tree_in g.nodes label)) most)
