-- Nodes by their labels.
use Rattle.std.proofs.Common.{◌≡◌, ◌≢◌, ◌<◌, ◌≤◌, ℕ, zero, suc, ◌+◌, Bool, true, false, if◌then◌else◌, ◌==◌, List, [], ◌∷◌, Option, Some, None, refl, ap, sym, ◌∙◌, subst, arith, inl, inr}
use Rattle.std.proofs.lemmas.Bool.{eq-eqb}
use Rattle.std.proofs.lemmas.Bool.Decides.{eqb_tells}
use Rattle.control_flow_theory.specs.semantics.Graph.{Label, Tree}
use Rattle.control_flow_theory.specs.graph_rules.Shapes.{inlined, leaves_to}
use Rattle.control_flow_theory.specs.graph_rules.Reduced.{Node, tree_in, each_tree, without, with_tree, all_leaves_to, has_node, lowest}
use Rattle.control_flow_theory.specs.structuring.Dispatches.{Rising}
use Rattle.control_flow_theory.proofs.structuring_lemmas.closing.Closes.{AllAbove, rising-above}
use Rattle.graph_rewriting.proofs.NodeRows.{none_above, with_none}
use Rattle.tree_rules.proofs.OneJump.{tree_absent}

pub alike : (label : Label) → (label == label) ≡ true
alike label = eq-eqb label label refl

pub unlike : (a b : Label) → a ≢ b → (a == b) ≡ false
unlike a b n = elim (eqb_tells a b) [
  | inl e ↦ absurd (n e.1)
  | inr e ↦ e.0
]

-- what stands where a node was, as its label is the one or not
abbrev put_node : Tree → Node → List Node → Bool → List Node
put_node t node nodes z = if z then record { label = node.label; tree = t } ∷ nodes else node ∷ nodes

abbrev out_node : Node → List Node → Bool → List Node
out_node node nodes z = if z then nodes else node ∷ nodes

abbrev tree_or : Tree → Tree → Bool → Tree
tree_or t other z = if z then t else other

abbrev or_has : Bool → Bool → Bool
or_has has z = if z then true else has

-- further on, where this node isn't the one
has_later : (node : Node) (nodes : List Node) (label : Label) → node.label ≢ label → has_node (node ∷ nodes) label ≡ true → has_node nodes label ≡ true
has_later node nodes label n has = sym (ap (or_has (has_node nodes label)) (unlike node.label label n)) ∙ has

tree_later : (node : Node) (nodes : List Node) (label : Label) → node.label ≢ label → tree_in (node ∷ nodes) label ≡ tree_in nodes label
tree_later node nodes label n = ap (tree_or node.tree (tree_in nodes label)) (unlike node.label label n)

has_more : (node : Node) (nodes : List Node) (label : Label) → has_node nodes label ≡ true → has_node (node ∷ nodes) label ≡ true
has_more node nodes label has = elim (node.label == label) as (λ z. or_has (has_node nodes label) z ≡ true) [ true ↦ refl | false ↦ has ]

-- A node is taken out.

-- the tree goes with its node
pub without_with : (nodes : List Node) (label : Label) (t : Tree) → without label (with_tree label t nodes) ≡ without label nodes
without_with [] label t = refl
without_with (node ∷ nodes) label t = elim (eqb_tells node.label label) [
  | inl e ↦
      ap (λ z. without label (put_node t node (with_tree label t nodes) z)) e.0
      ∙ ap (out_node (record { label = node.label; tree = t }) (without label (with_tree label t nodes))) e.0
      ∙ without_with nodes label t
      ∙ sym (ap (out_node node (without label nodes)) e.0)
  | inr e ↦
      ap (λ z. without label (put_node t node (with_tree label t nodes) z)) e.0
      ∙ ap (λ l. out_node node l (node.label == label)) (without_with nodes label t)
]

-- another tree is put where it is
pub without_beside : (nodes : List Node) (gone label : Label) (t : Tree) → label ≢ gone → without gone (with_tree label t nodes) ≡ with_tree label t (without gone nodes)
without_beside [] gone label t n = refl
without_beside (node ∷ nodes) gone label t n = elim (eqb_tells node.label label) [
  | inl e ↦
      (let apart : node.label ≢ gone = λ k. n (sym e.1 ∙ k) in
      ap (λ z. without gone (put_node t node (with_tree label t nodes) z)) e.0
      ∙ ap (out_node (record { label = node.label; tree = t }) (without gone (with_tree label t nodes))) (unlike node.label gone apart)
      ∙ ap (λ l. record { label = node.label; tree = t } ∷ l) (without_beside nodes gone label t n)
      ∙ sym (ap (λ z. with_tree label t (out_node node (without gone nodes) z)) (unlike node.label gone apart)
      ∙ ap (put_node t node (with_tree label t (without gone nodes))) e.0))
  | inr e ↦
      ap (λ z. without gone (put_node t node (with_tree label t nodes) z)) e.0
      ∙ elim (node.label == gone) as (λ z. out_node node (without gone (with_tree label t nodes)) z ≡ with_tree label t (out_node node (without gone nodes) z)) [
        | true ↦ without_beside nodes gone label t n
        | false ↦
            ap (λ l. node ∷ l) (without_beside nodes gone label t n)
            ∙ sym (ap (put_node t node (with_tree label t (without gone nodes))) e.0)
      ]
]

-- Where labels rise.

above_of : (low l : Label) (nodes : List Node) → AllAbove low nodes → has_node nodes l ≡ true → low < l
above_of low l [] above has = let no : ⊥ = cc in absurd no
above_of low l (node ∷ nodes) above has = elim (eqb_tells node.label l) [
  | inl e ↦ subst (λ x. low < x) e.1 above.0
  | inr e ↦ above_of low l nodes above.1 (has_later node nodes l e.1 has)
]

-- no other node has the label of the first
pub first_alone : (node : Node) (nodes : List Node) → Rising (node ∷ nodes) → (label : Label) → node.label ≡ label → has_node nodes label ≡ false
first_alone node nodes rising label e =
    subst (λ x. has_node nodes x ≡ false) e (none_above node.label nodes (rising-above node nodes rising).0)

pub rising_tail : (node : Node) (nodes : List Node) → Rising (node ∷ nodes) → Rising nodes
rising_tail node nodes rising = (rising-above node nodes rising).1

-- The leaves of all trees.

pub one_most : (l label : Label) (nodes : List Node) → has_node nodes label ≡ true → leaves_to l (tree_in nodes label) ≤ all_leaves_to l nodes
one_most l label [] has = let no : ⊥ = cc in absurd no
one_most l label (node ∷ nodes) has = elim (eqb_tells node.label label) [
  | inl e ↦
      subst (λ t. leaves_to l t ≤ all_leaves_to l (node ∷ nodes)) (sym (ap (tree_or node.tree (tree_in nodes label)) e.0)) (omega arith)
  | inr e ↦
      (let h = one_most l label nodes (has_later node nodes label e.1 has) in
      let is = ap (leaves_to l) (tree_later node nodes label e.1) in
      omega (arith, h, is))
]

-- Inline, where all leaves that jump to the label are of one tree.

each_absent : (label : Label) (by : Tree) (nodes : List Node) → all_leaves_to label nodes ≡ 0 → each_tree (inlined label by) nodes ≡ nodes
each_absent label by [] none = refl
each_absent label by (node ∷ nodes) none =
    let first : leaves_to label node.tree ≡ 0 = omega (arith, none) in
    let rest : all_leaves_to label nodes ≡ 0 = omega (arith, none) in
    ap (λ t. record { label = node.label; tree = t } ∷ each_tree (inlined label by) nodes) (tree_absent label by node.tree first)
    ∙ ap (λ l. node ∷ l) (each_absent label by nodes rest)

pub inlined_in : (label from : Label) (by : Tree) (nodes : List Node) → Rising nodes → has_node nodes from ≡ true →
    all_leaves_to label nodes ≡ leaves_to label (tree_in nodes from) →
    each_tree (inlined label by) nodes ≡ with_tree from (inlined label by (tree_in nodes from)) nodes
inlined_in label from by [] rising has all = let no : ⊥ = cc in absurd no
inlined_in label from by (node ∷ nodes) rising has all = elim (eqb_tells node.label from) [
  | inl e ↦
      (let here = ap (tree_or node.tree (tree_in nodes from)) e.0 in
      let one = ap (leaves_to label) here in
      let rest : all_leaves_to label nodes ≡ 0 = omega (arith, all, one) in
      let v = inlined label by node.tree in
      ap (λ l. record { label = node.label; tree = v } ∷ l)
      (each_absent label by nodes rest ∙ sym (with_none from v nodes (first_alone node nodes rising from e.1)))
      ∙ sym (ap (put_node v node (with_tree from v nodes)) e.0)
      ∙ sym (ap (λ u. with_tree from (inlined label by u) (node ∷ nodes)) here))
  | inr e ↦
      (let here = tree_later node nodes from e.1 in
      let one = ap (leaves_to label) here in
      let later = has_later node nodes from e.1 has in
      let most = one_most label from nodes later in
      let first : leaves_to label node.tree ≡ 0 = omega (arith, all, one, most) in
      let rest : all_leaves_to label nodes ≡ leaves_to label (tree_in nodes from) = omega (arith, all, one, first) in
      let v = inlined label by (tree_in nodes from) in
      ap (λ t. record { label = node.label; tree = t } ∷ each_tree (inlined label by) nodes) (tree_absent label by node.tree first)
      ∙ ap (λ l. node ∷ l) (inlined_in label from by nodes (rising_tail node nodes rising) later rest)
      ∙ sym (ap (put_node v node (with_tree from v nodes)) e.0)
      ∙ sym (ap (λ u. with_tree from (inlined label by u) (node ∷ nodes)) here))
]

-- The lowest label on which a rule applies.

pub lowest_is : (applies : Label → Bool) (nodes : List Node) (label : Label) → Rising nodes → has_node nodes label ≡ true → applies label ≡ true →
    ((l : Label) → l < label → has_node nodes l ≡ true → applies l ≡ false) → lowest applies nodes ≡ Some label
lowest_is applies [] label rising has holds below = let no : ⊥ = cc in absurd no
lowest_is applies (node ∷ nodes) label rising has holds below = elim (eqb_tells node.label label) [
  | inl e ↦
      ap (λ z. if z then Some node.label else lowest applies nodes) (ap applies e.1 ∙ holds) ∙ ap (λ l. Some l) e.1
  | inr e ↦
      (let later = has_later node nodes label e.1 has in
      let less = above_of node.label label nodes (rising-above node nodes rising).0 later in
      ap (λ z. if z then Some node.label else lowest applies nodes)
      (below node.label less (ap (or_has (has_node nodes node.label)) (alike node.label)))
      ∙ lowest_is applies nodes label (rising_tail node nodes rising) later holds
      (λ l less has. below l less (has_more node nodes l has)))
]

pub lowest_none : (applies : Label → Bool) (nodes : List Node) → ((l : Label) → has_node nodes l ≡ true → applies l ≡ false) → lowest applies nodes ≡ None
lowest_none applies [] none = refl
lowest_none applies (node ∷ nodes) none =
    ap (λ z. if z then Some node.label else lowest applies nodes) (none node.label (ap (or_has (has_node nodes node.label)) (alike node.label)))
    ∙ lowest_none applies nodes (λ l has. none l (has_more node nodes l has))
