-- A node's tree moves into that of another, in the place of the one jump to it.
use Rattle.std.proofs.Common.{◌≡◌, ◌≢◌, ◌<◌, ◌≤◌, ◌^◌, ℕ, zero, suc, ◌+◌, Bool, true, false, if◌then◌else◌, ◌==◌, List, Option, Some, None, refl, ap, sym, ◌∙◌, subst, arith}
use Rattle.std.proofs.lemmas.Bool.{eqb-true}
use Rattle.std.proofs.lemmas.Bool.Decides.{eqb_tells}
use Rattle.control_flow_theory.specs.semantics.Doing.{is_above}
use Rattle.control_flow_theory.specs.semantics.Graph.{Label, Tree}
use Rattle.control_flow_theory.specs.graph_rules.Shapes.{inlined, leaves_to}
use Rattle.control_flow_theory.specs.graph_rules.Reduced.{Node, Graph, tree_in, has_node, without, with_tree, all_leaves_to, inlines, inline_graph}
use Rattle.control_flow_theory.proofs.graph_rules_lemmas.shapes.Reducing.{without-in, with-other}
use Rattle.graph_rewriting.specs.Rewriting.{IsSound, Fits, bare}
use Rattle.branch_tree.specs.declared.tree.Tree as code
use Rattle.graph_rewriting.proofs.ChangeRows.{fits_less}
use Rattle.graph_rewriting.proofs.NodeRows.{has_with, tree_with, with_twice, with_same, rising_with, leaves_with, leaves_split, leaves_without, has_without, rising_without}
use Rattle.tree_rules.specs.Inlining.{may_inline}
use Rattle.tree_rules.specs.Putting.{Puts}
use Rattle.tree_rules.proofs.OneJump.{above_one}
use Rattle.tree_rules.proofs.LeafRows.{own, inlined_leaves}
use Rattle.tree_rules.proofs.ByLabel.{alike, unlike, without_with, without_beside, one_most, inlined_in}

pub both : (z w : Bool) → (if z then w else false) ≡ true → (z ≡ true) × (w ≡ true)
both true w h = (refl, h)
both false w h = let no : ⊥ = cc in absurd no

pub neither : (z w : Bool) → (if z then false else w) ≡ true → (z ≡ false) × (w ≡ true)
neither true w h = let no : ⊥ = cc in absurd no
neither false w h = (refl, h)

above_most : (n m : ℕ) → n ≤ m → is_above n ≡ true → is_above m ≡ true
above_most zero m most above = let no : ⊥ = cc in absurd no
above_most (suc n) zero most above = let no : ⊥ = omega (arith, most) in absurd no
above_most (suc n) (suc m) most above = refl

abbrev once_if : Bool → ℕ
once_if z = if z then 1 else 0

module _ (graph : Graph) (label from : Label) (sound : IsSound graph) (applies : may_inline graph label ≡ true)
    (has_from : has_node graph.nodes from ≡ true) (jumps : is_above (leaves_to label (tree_in graph.nodes from)) ≡ true) where
  abbrev by : Tree
  by = tree_in graph.nodes label

  abbrev target : Tree
  target = tree_in graph.nodes from

  abbrev moved : Tree
  moved = inlined label by target

  -- the nodes once the tree is out, and once both are
  abbrev one : List Node
  one = with_tree label bare graph.nodes

  abbrev two : List Node
  two = with_tree from bare one

  abbrev rest : List Node
  rest = without label graph.nodes

  pub has_it : has_node graph.nodes label ≡ true
  has_it = (both (has_node graph.nodes label) (inlines graph label) applies).0

  tests : (label == graph.entry ≡ false) × ((leaves_to label by == 0) ≡ true) × ((all_leaves_to label graph.nodes == 1) ≡ true)
  tests =
      let a = (both (has_node graph.nodes label) (inlines graph label) applies).1 in
      let b = neither (label == graph.entry) (if leaves_to label by == 0 then all_leaves_to label graph.nodes == 1 else false) a in
      let c = both (leaves_to label by == 0) (all_leaves_to label graph.nodes == 1) b.1 in
      (b.0, c.0, c.1)

  pub no_entry : label ≢ graph.entry
  no_entry e = let is = ap (λ x. label == x) e ∙ tests.0 in let h = alike label in cc

  none_own : leaves_to label by ≡ 0
  none_own = eqb-true (leaves_to label by) 0 tests.1

  one_all : all_leaves_to label graph.nodes ≡ 1
  one_all = eqb-true (all_leaves_to label graph.nodes) 1 tests.2

  pub apart : from ≢ label
  apart e =
      let here = ap (λ x. leaves_to label (tree_in graph.nodes x)) e in
      let least = above_one (leaves_to label target) jumps in
      let none = none_own in
      omega (arith, here, least, none)

  pub once : leaves_to label target ≡ 1
  once =
      let most = one_most label from graph.nodes has_from in
      let least = above_one (leaves_to label target) jumps in
      let all = one_all in
      omega (arith, most, least, all)

  pub has_one : has_node one from ≡ true
  has_one = has_with label from bare graph.nodes ∙ has_from

  pub tree_one : tree_in one from ≡ target
  tree_one = with-other label from bare apart graph.nodes

  has_two : (l : Label) → has_node two l ≡ has_node graph.nodes l
  has_two l = has_with from l bare one ∙ has_with label l bare graph.nodes

  split : (l : Label) → all_leaves_to l graph.nodes ≡ leaves_to l by + (leaves_to l target + all_leaves_to l two)
  split l =
      let first = leaves_split l label graph.nodes sound.rising has_it in
      let second = leaves_split l from one (rising_with label bare graph.nodes sound.rising) has_one in
      let here = ap (leaves_to l) tree_one in
      omega (arith, first, second, here)

  leads : (l : Label) (t : Tree) → leaves_to l t ≤ all_leaves_to l graph.nodes → is_above (leaves_to l t) ≡ true → has_node graph.nodes l ≡ true
  leads l t most above = sound.closed l (above_most (leaves_to l t) (all_leaves_to l graph.nodes) most above)

  moved_leaves : (l : Label) → leaves_to l moved ≤ leaves_to l target + leaves_to l by
  moved_leaves l = let h = inlined_leaves l label by target once in omega (arith, h)

  -- it has room where the two were
  pub fits_moved : Fits moved two
  fits_moved = record {
    few = λ l. let m = moved_leaves l in let s = split l in let f = sound.few l in omega (arith, m, s, f);
    closed = λ l above. has_two l ∙ leads l moved (let m = moved_leaves l in let s = split l in omega (arith, m, s)) above;
  }

  pub bare_two : tree_in two from ≡ bare
  bare_two = tree_with from bare one has_one

  pub has_two_from : has_node two from ≡ true
  has_two_from = has_two from ∙ has_from

  -- The other goes back, and then the node's.
  pub fits_back : Fits target two
  fits_back = record {
    few = λ l. let s = split l in let f = sound.few l in omega (arith, s, f);
    closed = λ l above. has_two l ∙ leads l target (let s = split l in omega (arith, s)) above;
  }

  pub back_one : with_tree from target two ≡ one
  back_one =
      with_twice from target bare one ∙ ap (λ t. with_tree from t one) (sym tree_one)
      ∙ with_same from one (rising_with label bare graph.nodes sound.rising)

  pub has_back : has_node (with_tree from target two) label ≡ true
  has_back = ap (λ n. has_node n label) back_one ∙ has_with label label bare graph.nodes ∙ has_it

  pub bare_back : tree_in (with_tree from target two) label ≡ bare
  bare_back = ap (λ n. tree_in n label) back_one ∙ tree_with label bare graph.nodes has_it

  pub nodes_back : with_tree label by (with_tree from target two) ≡ graph.nodes
  nodes_back =
      ap (with_tree label by) back_one ∙ with_twice label by bare graph.nodes ∙ with_same label graph.nodes sound.rising

  -- The node goes.
  pub has_moved : has_node (with_tree from moved two) label ≡ true
  has_moved = has_with from label moved two ∙ has_two label ∙ has_it

  pub bare_moved : tree_in (with_tree from moved two) label ≡ bare
  bare_moved =
      with-other from label moved (λ e. apart (sym e)) two ∙ with-other from label bare (λ e. apart (sym e)) one
      ∙ tree_with label bare graph.nodes has_it

  pub unused : all_leaves_to label (with_tree from moved two) ≡ 0
  unused =
      let rising : _ = rising_with from bare one (rising_with label bare graph.nodes sound.rising) in
      let put = leaves_with label from moved two rising has_two_from in
      let out = ap (all_leaves_to label) (with_twice from bare bare one) in
      let left = inlined_leaves label label by target once in
      let its : own label label by ≡ 1 = ap once_if (alike label) in
      let s = split label in
      let all = one_all in
      let here = once in
      let none = none_own in
      omega (arith, put, out, left, its, s, all, here, none)

  -- What Inline gives.
  has_rest : has_node rest from ≡ true
  has_rest = has_without label from graph.nodes apart ∙ has_from

  tree_rest : tree_in rest from ≡ target
  tree_rest = without-in label from apart graph.nodes

  leaves_rest : (l : Label) → leaves_to l by + all_leaves_to l rest ≡ all_leaves_to l graph.nodes
  leaves_rest l =
      let left = leaves_without l label graph.nodes in
      let all = leaves_split l label graph.nodes sound.rising has_it in
      omega (arith, left, all)

  all_here : all_leaves_to label rest ≡ leaves_to label (tree_in rest from)
  all_here =
      let left = leaves_rest label in
      let here = ap (leaves_to label) tree_rest in
      let none = none_own in
      let all = one_all in
      let jump = once in
      omega (arith, left, here, none, all, jump)

  pub inline_is : (inline_graph label graph).nodes ≡ with_tree from moved rest
  inline_is =
      inlined_in label from by rest (rising_without label graph.nodes sound.rising) has_rest all_here
      ∙ ap (λ x. with_tree from (inlined label by x) rest) tree_rest

  pub moved_is : without label (with_tree from moved two) ≡ (inline_graph label graph).nodes
  moved_is =
      ap (without label) (with_twice from moved bare one) ∙ without_beside one label from moved apart
      ∙ ap (with_tree from moved) (without_with graph.nodes label bare) ∙ sym inline_is

  -- What is left elsewhere.
  pub has_inline : (l : Label) → l ≢ label → has_node (inline_graph label graph).nodes l ≡ has_node graph.nodes l
  has_inline l n =
      ap (λ x. has_node x l) inline_is ∙ has_with from l moved rest ∙ has_without label l graph.nodes n

  pub tree_inline : (l : Label) → l ≢ label → l ≢ from → tree_in (inline_graph label graph).nodes l ≡ tree_in graph.nodes l
  tree_inline l n m =
      ap (λ x. tree_in x l) inline_is ∙ with-other from l moved m rest ∙ without-in label l n graph.nodes

  pub count_inline : (l : Label) → l ≢ label → all_leaves_to l (inline_graph label graph).nodes ≡ all_leaves_to l graph.nodes
  count_inline l n =
      let rising : _ = rising_without label graph.nodes sound.rising in
      let is = ap (all_leaves_to l) inline_is in
      let put = leaves_with l from moved rest rising has_rest in
      let out = leaves_split l from rest rising has_rest in
      let here = ap (leaves_to l) tree_rest in
      let left = leaves_rest l in
      let each = inlined_leaves l label by target once in
      let other : own l label by ≡ 0 = ap once_if (unlike label l (λ e. n (sym e))) in
      omega (arith, is, put, out, here, left, each, other)

  -- The steps of the move, from what each call gives.
  module _ (first second : List Node) (b u : Tree) (first_is : first ≡ one) (b_is : b ≡ by) (u_is : u ≡ tree_in first from) (second_is : second ≡ with_tree from bare first) where
    both_out : second ≡ two
    both_out = second_is ∙ ap (with_tree from bare) first_is

    target_is : u ≡ target
    target_is = u_is ∙ ap (λ n. tree_in n from) first_is ∙ tree_one

    moved_as : inlined label b u ≡ moved
    moved_as = ap (λ x. inlined label x u) b_is ∙ ap (inlined label by) target_is

    pub jumps_once : leaves_to label u ≡ 1
    jumps_once = ap (leaves_to label) target_is ∙ once

    pub put_has : has_node second from ≡ true
    put_has = ap (λ n. has_node n from) both_out ∙ has_two_from

    pub put_bare : tree_in second from ≡ bare
    put_bare = ap (λ n. tree_in n from) both_out ∙ bare_two

    pub put_fits : (result : Option code.Tree) (new : Tree) → Puts result label b u new → Fits new second
    put_fits None new h =
        subst (λ n. Fits new n) (sym both_out) (subst (λ x. Fits x two) (sym (h ∙ moved_as)) fits_moved)
    put_fits (Some back) new h =
        subst (λ n. Fits new n) (sym both_out) (subst (λ x. Fits x two) (sym (h.0 ∙ target_is)) fits_back)

    -- the node's tree stands in the other
    module _ (third : List Node) (new : Tree) (new_is : new ≡ inlined label b u) (third_is : third ≡ with_tree from new second) where
      put_is : third ≡ with_tree from moved two
      put_is = third_is ∙ ap (λ t. with_tree from t second) (new_is ∙ moved_as) ∙ ap (with_tree from moved) both_out

      pub remove_has : has_node third label ≡ true
      remove_has = ap (λ n. has_node n label) put_is ∙ has_moved

      pub remove_bare : tree_in third label ≡ bare
      remove_bare = ap (λ n. tree_in n label) put_is ∙ bare_moved

      pub remove_unused : all_leaves_to label third ≡ 0
      remove_unused = ap (all_leaves_to label) put_is ∙ unused

      pub removed_is : (last : List Node) → last ≡ without label third → last ≡ (inline_graph label graph).nodes
      removed_is last last_is = last_is ∙ ap (without label) put_is ∙ moved_is

    -- both are put back
    module _ (third : List Node) (new again : Tree) (new_is : new ≡ u) (again_is : again ≡ b) (third_is : third ≡ with_tree from new second) where
      back_is : third ≡ with_tree from target two
      back_is = third_is ∙ ap (λ t. with_tree from t second) (new_is ∙ target_is) ∙ ap (with_tree from target) both_out

      pub again_has : has_node third label ≡ true
      again_has = ap (λ n. has_node n label) back_is ∙ has_back

      pub again_bare : tree_in third label ≡ bare
      again_bare = ap (λ n. tree_in n label) back_is ∙ bare_back

      pub again_fits : Fits again third
      again_fits =
          subst (λ n. Fits again n) (sym (back_is ∙ back_one))
          (subst (λ t. Fits t one) (sym (again_is ∙ b_is)) (fits_less graph label sound has_it by (λ l. omega arith)))

      pub again_nodes : (last : List Node) → last ≡ with_tree label again third → last ≡ graph.nodes
      again_nodes last last_is =
          last_is ∙ ap (λ t. with_tree label t third) (again_is ∙ b_is) ∙ ap (with_tree label by) back_is ∙ nodes_back
