-- The labels on which rules are to be tried, as graphs change.
use Rattle.std.proofs.Common.{◌≡◌, ◌≢◌, ◌<◌, ◌≤◌, ℕ, zero, suc, Bool, true, false, if◌then◌else◌, ◌==◌, List, [], ◌∷◌, Some, None, refl, ap, sym, ◌∙◌, subst, arith, inl, inr}
use Rattle.std.specs.Ordering.{nat_cmp}
use Rattle.std.specs.BTreeSet.{BTreeSet, contains}
use Rattle.std.proofs.lemmas.Bool.Decides.{eqb_tells}
use Rattle.control_flow_theory.specs.semantics.Doing.{is_above}
use Rattle.control_flow_theory.specs.semantics.Graph.{Label, Tree}
use Rattle.control_flow_theory.specs.graph_rules.Shapes.{joined, inlined, leaves_to, other_targets}
use Rattle.control_flow_theory.specs.graph_rules.Reduced.{Node, Graph, tree_in, has_node, each_tree, without, with_tree, all_leaves_to, join_graph, inline_graph, close_graph, inlines, loops, at_most_one, inline_step, loop_step, rule_step}
use Rattle.control_flow_theory.specs.structuring.Closes.{are_several, has_exits, exits_graph, exits_step, or_exits}
use Rattle.control_flow_theory.specs.structuring.Dispatches.{Rising}
use Rattle.tree_rules.specs.Inlining.{may_inline}
use Rattle.tree_rules.proofs.InlineRows.{graph_with, graph_same}
use Rattle.tree_rules.proofs.ByLabel.{without_with, first_alone, rising_tail, lowest_is, lowest_none}
use Rattle.tree_rules.proofs.MoveRows.{both, apart, inline_is, has_inline, tree_inline, count_inline}
use Rattle.control_flow_theory.proofs.graph_rules_lemmas.shapes.Reducing.{with-other}
use Rattle.graph_rewriting.specs.Rewriting.{IsSound}
use Rattle.graph_rewriting.proofs.NodeRows.{has_with, with_none, without_none, has_not_without, leaves_with, leaves_split}
use Rattle.loop_rules.specs.Nodes.{may_loop}
use Rattle.region_rewrite.specs.exit_rule.Exits.{may_exit}
use Rattle.region_rewrite.specs.Candidates.{AllIn, AllInBut, TargetsIn, Grows, Enters, Fixed, Holds, HoldsBut}

-- What the rules look at.

abbrev loop_by : Label → Bool → Tree → Bool
loop_by label has t =
    if has then (if is_above (leaves_to label t) then at_most_one (other_targets label t) else false) else false

abbrev exit_by : Label → Bool → Tree → Bool
exit_by label has t =
    if has then (if is_above (leaves_to label t) then are_several (other_targets label t) else false) else false

abbrev inline_by : Label → Label → Bool → Tree → ℕ → Bool
inline_by label entry has t n =
    if has then (if label == entry then false else (if leaves_to label t == 0 then n == 1 else false)) else false

not_above : (n : ℕ) → is_above n ≡ false → n ≡ 0
not_above zero h = refl
not_above (suc n) h = let no : ⊥ = cc in absurd no

above_not : (n : ℕ) → n ≡ 0 → is_above n ≡ false
above_not n h = ap is_above h

not_true : (z : Bool) → (z ≡ true → ⊥) → z ≡ false
not_true true h = absurd (h refl)
not_true false h = refl

loop_none : (label : Label) (t : Tree) → leaves_to label t ≡ 0 → loop_by label true t ≡ false
loop_none label t h = ap (λ z. if z then at_most_one (other_targets label t) else false) (above_not (leaves_to label t) h)

-- Trees that a change leaves as they are.

pub each_fixed : (f : Tree → Tree) (nodes : List Node) → Fixed f nodes → each_tree f nodes ≡ nodes
each_fixed f [] all = refl
each_fixed f (node ∷ nodes) all =
    ap (λ t. record { label = node.label; tree = t } ∷ each_tree f nodes) all.0 ∙ ap (λ l. node ∷ l) (each_fixed f nodes all.1)

abbrev out_node : Node → List Node → Bool → List Node
out_node node nodes z = if z then nodes else node ∷ nodes

abbrev put_node : Tree → Node → List Node → Bool → List Node
put_node t node nodes z = if z then record { label = node.label; tree = t } ∷ nodes else node ∷ nodes

abbrev tree_or : Tree → Tree → Bool → Tree
tree_or t other z = if z then t else other

pub fixed_without : (f : Tree → Tree) (label : Label) (nodes : List Node) → Fixed f nodes → Fixed f (without label nodes)
fixed_without f label [] all = tt
fixed_without f label (node ∷ nodes) all =
    let rest = fixed_without f label nodes all.1 in
    elim (node.label == label) as (λ z. Fixed f (out_node node (without label nodes) z)) [ true ↦ rest | false ↦ (all.0, rest) ]

-- all but one, and then that one
pub fixed_in : (f : Tree → Tree) (label : Label) (nodes : List Node) → Rising nodes → Fixed f (without label nodes) → f (tree_in nodes label) ≡ tree_in nodes label → Fixed f nodes
fixed_in f label [] rising all one = tt
fixed_in f label (node ∷ nodes) rising all one = elim (eqb_tells node.label label) [
  | inl e ↦
      (let here = ap (tree_or node.tree (tree_in nodes label)) e.0 in
      let rest : Fixed f (without label nodes) = subst (λ z. Fixed f (out_node node (without label nodes) z)) e.0 all in
      (subst (λ t. f t ≡ t) here one, subst (Fixed f) (without_none label nodes (first_alone node nodes rising label e.1)) rest))
  | inr e ↦
      (let here = ap (tree_or node.tree (tree_in nodes label)) e.0 in
      let rest : Fixed f (node ∷ without label nodes) = subst (λ z. Fixed f (out_node node (without label nodes) z)) e.0 all in
      (rest.0, fixed_in f label nodes (rising_tail node nodes rising) rest.1 (subst (λ t. f t ≡ t) here one)))
]

-- the change of all trees is that of the one
pub each_one : (f : Tree → Tree) (label : Label) (nodes : List Node) → Rising nodes → has_node nodes label ≡ true → Fixed f (without label nodes) →
    each_tree f nodes ≡ with_tree label (f (tree_in nodes label)) nodes
each_one f label [] rising has all = refl
each_one f label (node ∷ nodes) rising has all = elim (eqb_tells node.label label) [
  | inl e ↦
      (let here = ap (tree_or node.tree (tree_in nodes label)) e.0 in
      let rest : Fixed f (without label nodes) = subst (λ z. Fixed f (out_node node (without label nodes) z)) e.0 all in
      let alone = first_alone node nodes rising label e.1 in
      let v = f node.tree in
      ap (λ l. record { label = node.label; tree = v } ∷ l)
      (each_fixed f nodes (subst (Fixed f) (without_none label nodes alone) rest) ∙ sym (with_none label v nodes alone))
      ∙ sym (ap (put_node v node (with_tree label v nodes)) e.0)
      ∙ sym (ap (λ u. with_tree label (f u) (node ∷ nodes)) here))
  | inr e ↦
      (let here = ap (tree_or node.tree (tree_in nodes label)) e.0 in
      let rest : Fixed f (node ∷ without label nodes) = subst (λ z. Fixed f (out_node node (without label nodes) z)) e.0 all in
      let later : has_node nodes label ≡ true = sym (ap (λ z. if z then true else has_node nodes label) e.0) ∙ has in
      let v = f (tree_in nodes label) in
      ap (λ t. record { label = node.label; tree = t } ∷ each_tree f nodes) rest.0
      ∙ ap (λ l. node ∷ l) (each_one f label nodes (rising_tail node nodes rising) later rest.1)
      ∙ sym (ap (put_node v node (with_tree label v nodes)) e.0)
      ∙ sym (ap (λ u. with_tree label (f u) (node ∷ nodes)) here))
]

-- Sets of labels.

pub more_in : (label : Label) (applies : Label → Bool) (old new : BTreeSet ℕ) → AllInBut label applies old → Grows old new → contains nat_cmp new label ≡ true → AllIn applies new
more_in label applies old new all grows here l h = elim (eqb_tells l label) [
  | inl e ↦ ap (contains nat_cmp new) e.1 ∙ here
  | inr e ↦ grows l (all l e.1 h)
]

-- Another tree stands at a label, with no more leaves to any label.
module _ (g h : Graph) (label : Label) (t : Tree) (nodes : h.nodes ≡ with_tree label t g.nodes) (entry : h.entry ≡ g.entry) (rising : Rising g.nodes)
    (has : has_node g.nodes label ≡ true) (fewer : (l : Label) → leaves_to l t ≤ leaves_to l (tree_in g.nodes label)) where
  has_same : (l : Label) → has_node h.nodes l ≡ has_node g.nodes l
  has_same l = ap (λ n. has_node n l) nodes ∙ has_with label l t g.nodes

  tree_same : (l : Label) → l ≢ label → tree_in h.nodes l ≡ tree_in g.nodes l
  tree_same l n = ap (λ x. tree_in x l) nodes ∙ with-other label l t n g.nodes

  loop_same : (l : Label) → l ≢ label → may_loop h l ≡ may_loop g l
  loop_same l n =
      ap (λ z. loop_by l z (tree_in h.nodes l)) (has_same l) ∙ ap (loop_by l (has_node g.nodes l)) (tree_same l n)

  exit_same : (l : Label) → l ≢ label → may_exit h l ≡ may_exit g l
  exit_same l n =
      ap (λ z. exit_by l z (tree_in h.nodes l)) (has_same l) ∙ ap (exit_by l (has_node g.nodes l)) (tree_same l n)

  count_same : (l : Label) → leaves_to l (tree_in g.nodes label) ≡ 0 → all_leaves_to l h.nodes ≡ all_leaves_to l g.nodes
  count_same l none =
      let all = ap (all_leaves_to l) nodes in
      let put = leaves_with l label t g.nodes rising has in
      let split = leaves_split l label g.nodes rising has in
      let few = fewer l in
      omega (arith, all, put, split, few, none)

  inline_same : (l : Label) → l ≢ label → leaves_to l (tree_in g.nodes label) ≡ 0 → may_inline h l ≡ may_inline g l
  inline_same l n none =
      ap (λ e. inline_by l e (has_node h.nodes l) (tree_in h.nodes l) (all_leaves_to l h.nodes)) entry
      ∙ ap (λ z. inline_by l g.entry z (tree_in h.nodes l) (all_leaves_to l h.nodes)) (has_same l)
      ∙ ap (λ u. inline_by l g.entry (has_node g.nodes l) u (all_leaves_to l h.nodes)) (tree_same l n)
      ∙ ap (inline_by l g.entry (has_node g.nodes l) (tree_in g.nodes l)) (count_same l none)

  pub changed_but : (ls is es : BTreeSet ℕ) → HoldsBut label g ls is es → TargetsIn (tree_in g.nodes label) is → HoldsBut label h ls is es
  changed_but ls is es holds targets = record {
    joined = subst (Fixed joined) (sym (ap (without label) nodes ∙ without_with g.nodes label t)) holds.joined;
    loops = λ l n a. holds.loops l n (sym (loop_same l n) ∙ a);
    inlines = λ l n a. by l n a (is_above (leaves_to l (tree_in g.nodes label))) refl;
    exits = λ l n a. holds.exits l n (sym (exit_same l n) ∙ a);
  }
    where
      by : (l : Label) → l ≢ label → may_inline h l ≡ true → (z : Bool) → is_above (leaves_to l (tree_in g.nodes label)) ≡ z → contains nat_cmp is l ≡ true
      by l n a true e = targets l e
      by l n a false e =
          holds.inlines l n (sym (inline_same l n (not_above (leaves_to l (tree_in g.nodes label)) e)) ∙ a)

-- the label is entered
pub entered : (label : Label) (g : Graph) (ls is es ls' is' es' : BTreeSet ℕ) → Rising g.nodes → HoldsBut label g ls is es →
    joined (tree_in g.nodes label) ≡ tree_in g.nodes label → Enters label ls ls' → Enters label is is' → Enters label es es' → Holds g ls' is' es'
entered label g ls is es ls' is' es' rising holds one to_loop to_inline to_exit = record {
  joined = fixed_in joined label g.nodes rising holds.joined one;
  loops = more_in label (may_loop g) ls ls' holds.loops to_loop.0 to_loop.1;
  inlines = more_in label (may_inline g) is is' holds.inlines to_inline.0 to_inline.1;
  exits = more_in label (may_exit g) es es' holds.exits to_exit.0 to_exit.1;
}

-- Join at a label, where all other trees are joined, is Join everywhere
pub join_is : (label : Label) (g : Graph) (ls is es : BTreeSet ℕ) → Rising g.nodes → has_node g.nodes label ≡ true → HoldsBut label g ls is es →
    graph_with g.entry (with_tree label (joined (tree_in g.nodes label)) g.nodes) g.added ≡ join_graph g
join_is label g ls is es rising has holds =
    graph_same _ _ _ _ _ _ refl (sym (each_one joined label g.nodes rising has holds.joined)) refl

-- Inline on a node, into the tree of another.
module _ (g : Graph) (label from : Label) (sound : IsSound g) (applies : may_inline g label ≡ true)
    (has_from : has_node g.nodes from ≡ true) (jumps : is_above (leaves_to label (tree_in g.nodes from)) ≡ true) where
  abbrev h : Graph
  h = inline_graph label g

  has_same' : (l : Label) → l ≢ label → has_node h.nodes l ≡ has_node g.nodes l
  has_same' = has_inline g label from sound applies has_from jumps

  tree_same' : (l : Label) → l ≢ label → l ≢ from → tree_in h.nodes l ≡ tree_in g.nodes l
  tree_same' = tree_inline g label from sound applies has_from jumps

  count_same' : (l : Label) → l ≢ label → all_leaves_to l h.nodes ≡ all_leaves_to l g.nodes
  count_same' = count_inline g label from sound applies has_from jumps

  inline_nodes : h.nodes ≡ with_tree from (inlined label (tree_in g.nodes label) (tree_in g.nodes from)) (without label g.nodes)
  inline_nodes = inline_is g label from sound applies has_from jumps

  pub inline_has : has_node h.nodes from ≡ true
  inline_has = has_same' from (apart g label from sound applies has_from jumps) ∙ has_from

  has_none : has_node h.nodes label ≡ false
  has_none =
      ap (λ x. has_node x label) inline_nodes
      ∙ has_with from label (inlined label (tree_in g.nodes label) (tree_in g.nodes from)) (without label g.nodes)
      ∙ has_not_without label g.nodes

  pub inline_but : (ls is es : BTreeSet ℕ) → HoldsBut label g ls is es → HoldsBut from h ls is es
  inline_but ls is es holds = record {
    joined =
        subst (Fixed joined)
        (sym (ap (without from) inline_nodes ∙ without_with (without label g.nodes) from (inlined label (tree_in g.nodes label) (tree_in g.nodes from))))
        (fixed_without joined from (without label g.nodes) holds.joined);
    loops = λ l m a. let k = gone l a in holds.loops l k.0 (loop_as l m k);
    inlines = λ l m a. let n = gone_inline l a in holds.inlines l n (inline_as l m n a);
    exits = λ l m a. let k = gone_exit l a in holds.exits l k.0 (exit_as l m k);
  }
    where
      gone : (l : Label) → may_loop h l ≡ true → (l ≢ label) × (may_loop h l ≡ true)
      gone l a = ((λ e. let none = ap (λ z. loop_by l z (tree_in h.nodes l)) (ap (has_node h.nodes) e ∙ has_none) in cc), a)

      gone_exit : (l : Label) → may_exit h l ≡ true → (l ≢ label) × (may_exit h l ≡ true)
      gone_exit l a = ((λ e. let none = ap (λ z. exit_by l z (tree_in h.nodes l)) (ap (has_node h.nodes) e ∙ has_none) in cc), a)

      gone_inline : (l : Label) → may_inline h l ≡ true → l ≢ label
      gone_inline l a e =
          let none = ap (λ z. inline_by l h.entry z (tree_in h.nodes l) (all_leaves_to l h.nodes)) (ap (has_node h.nodes) e ∙ has_none) in cc

      loop_as : (l : Label) → l ≢ from → (l ≢ label) × (may_loop h l ≡ true) → may_loop g l ≡ true
      loop_as l m k =
          sym (ap (λ z. loop_by l z (tree_in h.nodes l)) (has_same' l k.0) ∙ ap (loop_by l (has_node g.nodes l)) (tree_same' l k.0 m)) ∙ k.1

      exit_as : (l : Label) → l ≢ from → (l ≢ label) × (may_exit h l ≡ true) → may_exit g l ≡ true
      exit_as l m k =
          sym (ap (λ z. exit_by l z (tree_in h.nodes l)) (has_same' l k.0) ∙ ap (exit_by l (has_node g.nodes l)) (tree_same' l k.0 m)) ∙ k.1

      inline_as : (l : Label) → l ≢ from → l ≢ label → may_inline h l ≡ true → may_inline g l ≡ true
      inline_as l m n a =
          sym (ap (λ z. inline_by l g.entry z (tree_in h.nodes l) (all_leaves_to l h.nodes)) (has_same' l n)
          ∙ ap (λ x. inline_by l g.entry (has_node g.nodes l) x (all_leaves_to l h.nodes)) (tree_same' l n m)
          ∙ ap (inline_by l g.entry (has_node g.nodes l) (tree_in g.nodes l)) (count_same' l n)) ∙ a

-- The rules in their order, by the labels on which they apply.

none_where : (z w : Bool) → (if z then w else false) ≡ false → z ≡ true → w ≡ false
none_where true w h e = h
none_where false w h e = let no : ⊥ = cc in absurd no

module _ (g : Graph) (rising : Rising g.nodes) where
  pub rule_loop : (label : Label) → may_loop g label ≡ true → ((l : Label) → l < label → may_loop g l ≡ false) → rule_step g ≡ Some (close_graph label g)
  rule_loop label holds below =
      let k = both (has_node g.nodes label) (loops g label) holds in
      ap (loop_step g)
      (lowest_is (loops g) g.nodes label rising k.0 k.1
      (λ l less has. none_where (has_node g.nodes l) (loops g l) (below l less) has))

  no_loop : ((l : Label) → may_loop g l ≡ false) → rule_step g ≡ loop_step g None
  no_loop none =
      ap (loop_step g) (lowest_none (loops g) g.nodes (λ l has. none_where (has_node g.nodes l) (loops g l) (none l) has))

  pub rule_inline : ((l : Label) → may_loop g l ≡ false) → (label : Label) → may_inline g label ≡ true → ((l : Label) → l < label → may_inline g l ≡ false) →
      rule_step g ≡ Some (join_graph (inline_graph label g))
  rule_inline none label holds below =
      let k = both (has_node g.nodes label) (inlines g label) holds in
      no_loop none
      ∙ ap (inline_step g)
      (lowest_is (inlines g) g.nodes label rising k.0 k.1
      (λ l less has. none_where (has_node g.nodes l) (inlines g l) (below l less) has))

  pub rule_none : ((l : Label) → may_loop g l ≡ false) → ((l : Label) → may_inline g l ≡ false) → rule_step g ≡ None
  rule_none none last =
      no_loop none
      ∙ ap (inline_step g) (lowest_none (inlines g) g.nodes (λ l has. none_where (has_node g.nodes l) (inlines g l) (last l) has))

  pub exits_at : (label : Label) → may_exit g label ≡ true → ((l : Label) → l < label → may_exit g l ≡ false) → or_exits g None ≡ Some (join_graph (exits_graph label g))
  exits_at label holds below =
      let k = both (has_node g.nodes label) (has_exits g label) holds in
      ap (exits_step g)
      (lowest_is (has_exits g) g.nodes label rising k.0 k.1
      (λ l less has. none_where (has_node g.nodes l) (has_exits g l) (below l less) has))

  pub exits_none : ((l : Label) → may_exit g l ≡ false) → or_exits g None ≡ None
  exits_none none =
      ap (exits_step g) (lowest_none (has_exits g) g.nodes (λ l has. none_where (has_node g.nodes l) (has_exits g l) (none l) has))

-- The lowest label was taken out of a set.

pub loop_popped : (label : Label) (g : Graph) (ls ls' is es : BTreeSet ℕ) → Holds g ls is es → AllInBut label (may_loop g) ls' → HoldsBut label g ls' is es
loop_popped label g ls ls' is es holds rest = record {
  joined = fixed_without joined label g.nodes holds.joined;
  loops = rest;
  inlines = λ l n a. holds.inlines l a;
  exits = λ l n a. holds.exits l a;
}

pub inline_popped : (label : Label) (g : Graph) (ls is is' es : BTreeSet ℕ) → Holds g ls is es → AllInBut label (may_inline g) is' → HoldsBut label g ls is' es
inline_popped label g ls is is' es holds rest = record {
  joined = fixed_without joined label g.nodes holds.joined;
  loops = λ l n a. holds.loops l a;
  inlines = rest;
  exits = λ l n a. holds.exits l a;
}

pub exits_popped : (label : Label) (g : Graph) (ls is es es' : BTreeSet ℕ) → Holds g ls is es → AllInBut label (may_exit g) es' → HoldsBut label g ls is es'
exits_popped label g ls is es es' holds rest = record {
  joined = fixed_without joined label g.nodes holds.joined;
  loops = λ l n a. holds.loops l a;
  inlines = λ l n a. holds.inlines l a;
  exits = rest;
}
