-- Targets of jumps in label order, and a node as a loop with its exits.
use Rattle.std.proofs.Common.{◌≡◌, ◌<◌, ◌≤◌, ◌+◌, ◌++◌, ℕ, zero, suc, Bool, true, false, if◌then◌else◌, ◌==◌, List, [], ◌∷◌, length, take, drop, get_or, refl, ap, sym, ◌∙◌, arith, add-one}
use Rattle.std.specs.List.{insert}
use Rattle.control_flow_theory.specs.language.Language.{ByCell, Set, Do, none}
use Rattle.control_flow_theory.specs.semantics.Graph.{Label, Tree, tree, End, Pick, Jump, Return, more}
use Rattle.control_flow_theory.specs.graph_rules.Families.{Exit}
use Rattle.control_flow_theory.specs.graph_rules.Shapes.{alone}
use Rattle.control_flow_theory.specs.graph_rules.Reduced.{Graph, tree_in, count, looped_graph}
use Rattle.control_flow_theory.specs.structuring.Closes.{none_left_out, exits_graph}
use Rattle.control_flow_theory.specs.structuring.Dispatches.{bare, exited, tree_returns}
use Rattle.control_flow_theory.specs.structuring.Targets.{inserted, is_below, targets_of, with_exits}
use Rattle.branch_tree.specs.declared.chooser.Picker.TheVariants as picker
use Rattle.branch_tree.specs.declared.chooser.Test.TheVariants as test
use Rattle.branch_tree.specs.declared.tree.Tree as code_tree
use Rattle.branch_tree.specs.declared.tree.End.TheVariants as end
use Rattle.branch_tree.specs.declared.tree.Leaves.TheVariants as leaves
use Rattle.branch_tree.specs.declared.tree.Piece.{Piece}
use Rattle.branch_tree.specs.declared.tree.Piece.TheVariants as piece
use Rattle.branch_tree.specs.Tree.{seen_tree, seen_trees, seen_body, seen_end, trees_of}
use Rattle.branch_tree.proofs.TreeRows.{seen_tree_is, seen_pick, seen_jump, seen_return, seen_set}
use Rattle.loop_rules.specs.declared.forms.Turning.{Turning}
use Rattle.loop_rules.specs.Forms.{looped_by}
use Rattle.loop_rules.proofs.NodeRows.{append_none}
use Rattle.region_rewrite.specs.exit_rule.Exits.{jump_trees, return_trees}

drop_cons : (xs : List Label) (at : ℕ) (d : Label) → at < length xs → drop at xs ≡ get_or xs at d ∷ drop (suc at) xs
drop_cons [] at d within = let no : ⊥ = omega (arith, within) in absurd no
drop_cons (x ∷ xs) zero d within = refl
drop_cons (x ∷ xs) (suc at) d within = let less : at < length xs = omega (arith, within) in drop_cons xs at d less

take_more : (xs rest : List Label) (at : ℕ) (d : Label) → at < length xs → take at xs ++ get_or xs at d ∷ rest ≡ take (suc at) xs ++ rest
take_more [] rest at d within = let no : ⊥ = omega (arith, within) in absurd no
take_more (x ∷ xs) rest zero d within = refl
take_more (x ∷ xs) rest (suc at) d within =
    let less : at < length xs = omega (arith, within) in ap (λ l. x ∷ l) (take_more xs rest at d less)

take_drop : (xs : List Label) (at : ℕ) → take at xs ++ drop at xs ≡ xs
take_drop [] zero = refl
take_drop [] (suc at) = refl
take_drop (x ∷ xs) zero = refl
take_drop (x ∷ xs) (suc at) = ap (λ l. x ∷ l) (take_drop xs at)

-- up to this place the label goes further on
abbrev pub Further : Label → List Label → ℕ → Type 0
Further label xs at = inserted label xs ≡ take at xs ++ inserted label (drop at xs)

module _ (label : Label) (xs : List Label) (at : ℕ) (d : Label) (within : at < length xs) (further : Further label xs at) where
  abbrev here : Label
  here = get_or xs at d

  abbrev choice : Bool → Bool → List Label
  choice same below =
      if same then here ∷ drop (suc at) xs
      else (if below then label ∷ here ∷ drop (suc at) xs else here ∷ inserted label (drop (suc at) xs))

  opened : inserted label xs ≡ take at xs ++ choice (label == here) (is_below label here)
  opened = further ∙ ap (λ l. take at xs ++ inserted label l) (drop_cons xs at d within)

  pub stands : (label == here) ≡ true → xs ≡ inserted label xs
  stands h =
      sym (take_drop xs at) ∙ ap (λ l. take at xs ++ l) (drop_cons xs at d within)
      ∙ sym (opened ∙ ap (λ z. take at xs ++ choice z (is_below label here)) h)

  pub goes_here : (label == here) ≡ false → is_below label here ≡ true → insert xs at label ≡ inserted label xs
  goes_here n h =
      ap (λ l. take at xs ++ label ∷ l) (drop_cons xs at d within)
      ∙ sym (opened ∙ ap (λ z. take at xs ++ choice z (is_below label here)) n ∙ ap (λ z. take at xs ++ choice false z) h)

  pub goes_on : (label == here) ≡ false → is_below label here ≡ false → Further label xs (at + 1)
  goes_on n h =
      opened ∙ ap (λ z. take at xs ++ choice z (is_below label here)) n ∙ ap (λ z. take at xs ++ choice false z) h
      ∙ take_more xs (inserted label (drop (suc at) xs)) at d within
      ∙ ap (λ k. take k xs ++ inserted label (drop k xs)) (sym (add-one at))

-- What a loop with exits is.

-- the targets in order, a return last
pub bare_is : (targets : List Label) (returns : Bool) →
    trees_of (jump_trees targets ++ return_trees returns) ≡ bare targets returns
bare_is [] true = refl
bare_is [] false = refl
bare_is (label ∷ targets) returns = ap (more (tree none (Jump label))) (bare_is targets returns)

pub bare_return : (t : code_tree.Tree) → t.body.items ≡ [] → t.end ≡ end.Return →
    seen_tree t ≡ tree none Return
bare_return t h k =
    seen_tree_is t ∙ ap (λ b. tree (seen_body b) (seen_end t.end)) h
    ∙ ap (λ e. tree none (seen_end e)) k ∙ ap (tree none) seen_return

pub bare_jump : (to : Label) (t : code_tree.Tree) → t.body.items ≡ [] → t.end ≡ end.Jump to →
    seen_tree t ≡ tree none (Jump to)
bare_jump to t h k =
    seen_tree_is t ∙ ap (λ b. tree (seen_body b) (seen_end t.end)) h
    ∙ ap (λ e. tree none (seen_end e)) k ∙ ap (tree none) (seen_jump to)

-- the loop until the exit item is above zero
abbrev pub exit_loop : ℕ → Label → List Label → Turning
exit_loop cell label targets = record {
  after = false;
  turned = false;
  test = test.Above cell;
  leaves = leaves.Exit cell label targets;
}

-- the loop with its exits, from what its parts are
pub exits_row : (cell : ℕ) (label : Label) (t new : Tree) (targets : List Label) (before : List Piece)
    (out : End) (arms : List code_tree.Tree) (returns : Bool) →
    new ≡ looped_by (exit_loop cell label targets) (seen_body before) t out →
    before ≡ piece.Set cell 0 ∷ [] → out ≡ seen_end (end.Pick (picker.ByCell cell) arms) →
    seen_trees arms ≡ bare targets returns → targets ≡ targets_of label t → returns ≡ tree_returns t →
    new ≡ with_exits none_left_out cell label t
exits_row cell label t new targets before out arms returns h hb ho ha ht hr =
    h
    ∙ ap (λ b. looped_by (exit_loop cell label targets) b t out) (ap seen_body hb ∙ ap alone (seen_set cell 0))
    ∙ ap (looped_by (exit_loop cell label targets) (alone (Do (Set cell 0))) t)
    (ho ∙ seen_pick (picker.ByCell cell) arms ∙ ap (Pick (ByCell cell)) ha)
    ∙ ap (λ r. exited none_left_out cell label targets r t) hr
    ∙ ap (λ l. exited none_left_out cell label l (tree_returns t) t) ht

-- Exits on the node with the label.

pub exit_row : (label : Label) (g : Graph) (cell : ℕ) (t new : Tree) → cell ≡ count g.added →
    t ≡ tree_in g.nodes label → new ≡ with_exits none_left_out cell label t →
    looped_graph label new (Exit ∷ []) g ≡ exits_graph label g
exit_row label g cell t new c is h =
    ap (λ x. looped_graph label x (Exit ∷ []) g)
    (h ∙ ap (λ n. with_exits none_left_out n label t) c
    ∙ ap (with_exits none_left_out (count g.added) label) is)

-- behind the last target
none_behind : (targets : List Label) (at : ℕ) → length targets ≤ at → jump_trees (drop at targets) ≡ []
none_behind [] zero most = refl
none_behind [] (suc at) most = refl
none_behind (label ∷ targets) zero most = let no : ⊥ = omega (arith, most) in absurd no
none_behind (label ∷ targets) (suc at) most =
    let less : length targets ≤ at = omega (arith, most) in none_behind targets at less

pub bare_done : (trees : List Tree) (targets : List Label) (at : ℕ) (returns : Bool) → length targets ≤ at →
    trees ++ jump_trees (drop at targets) ≡ jump_trees targets →
    trees_of (trees ++ return_trees returns) ≡ bare targets returns
bare_done trees targets at returns most h =
    ap (λ l. trees_of (l ++ return_trees returns)) (sym (append_none trees) ∙ ap (λ l. trees ++ l) (sym (none_behind targets at most)) ∙ h)
    ∙ bare_is targets returns
