-- How all nodes but one go.
use Rattle.std.proofs.Common.{◌≡◌, ◌<◌, ◌+◌, ℕ, suc, Bool, true, false, if◌then◌else◌, ◌==◌, List, [], ◌∷◌, ◌++◌, map, length, drop, get_or, append_assoc, refl, ap, sym, ◌∙◌, subst, arith, inl, inr}
use Rattle.std.proofs.lemmas.List.{map-append, drop_more}
use Rattle.std.proofs.lemmas.Bool.{eq-eqb}
use Rattle.std.proofs.lemmas.Bool.Decides.{eqb_tells}
use Rattle.control_flow_theory.specs.semantics.Graph.{Label, Tree}
use Rattle.control_flow_theory.specs.graph_rules.Reduced.{Node, has_node, tree_in, with_tree, without, all_leaves_to}
use Rattle.control_flow_theory.specs.structuring.Dispatches.{Rising, labels_of}
use Rattle.control_flow_theory.proofs.structuring_lemmas.closing.Closes.{AllAbove, rising-above}
use Rattle.branch_tree.specs.declared.tree.Tree as code
use Rattle.branch_tree.specs.Tree.{seen_tree}
use Rattle.graph_rewriting.specs.Rewriting.{bare}
use Rattle.graph_rewriting.proofs.NodeRows.{none_above, with_none, without_none}
use Rattle.state_dispatch.specs.Trees.{node_trees}
use Rattle.state_dispatch.specs.Dispatching.{one_node, all_taken, taken_trees, MayGo, Clears}

same : (label : Label) → (label == label) ≡ true
same label = eq-eqb label label refl

above_unlike : (low label : Label) → low < label → (low == label) ≡ false
above_unlike low label less = elim (eqb_tells low label) [
  | inl e ↦ absurd (let is = e.1 in omega (arith, is, less))
  | inr e ↦ e.0
]

below_unlike : (low label : Label) → low < label → (label == low) ≡ false
below_unlike low label less = elim (eqb_tells label low) [
  | inl e ↦ absurd (let is = e.1 in omega (arith, is, less))
  | inr e ↦ e.0
]

-- a node with this label and this tree
abbrev at : Label → Tree → Node
at label t = record { label = label; tree = t }

-- the nodes, all bare
abbrev pub bared : List Node → List Node
bared [] = []
bared (node ∷ nodes) = at node.label bare ∷ bared nodes

-- Trees come out.

-- what is taken of the others leaves the first node
module _ (first : Node) where
  with_behind : (label : Label) (t : Tree) (nodes : List Node) → first.label < label →
      with_tree label t (first ∷ nodes) ≡ first ∷ with_tree label t nodes
  with_behind label t nodes less =
      ap (λ b. if b then at first.label t ∷ with_tree label t nodes else first ∷ with_tree label t nodes)
      (above_unlike first.label label less)

  all_behind : (rest nodes : List Node) → AllAbove first.label rest →
      all_taken (labels_of rest) (first ∷ nodes) ≡ first ∷ all_taken (labels_of rest) nodes
  all_behind [] nodes above = refl
  all_behind (node ∷ rest) nodes above =
      ap (all_taken (labels_of rest)) (with_behind node.label bare nodes above.0)
      ∙ all_behind rest (with_tree node.label bare nodes) above.1

  abbrev some_taken : Bool → Tree → List Tree → List Tree → List Tree
  some_taken has t taken others = if has then t ∷ taken else others

  taken_behind : (rest nodes : List Node) → AllAbove first.label rest →
      taken_trees (labels_of rest) (first ∷ nodes) ≡ taken_trees (labels_of rest) nodes
  taken_behind [] nodes above = refl
  taken_behind (node ∷ rest) nodes above =
      let label = node.label in
      let unlike = above_unlike first.label label above.0 in
      let after = with_tree label bare nodes in
      ap (λ b. some_taken (if b then true else has_node nodes label) (if b then first.tree else tree_in nodes label)
      (taken_trees (labels_of rest) (if b then at first.label bare ∷ after else first ∷ after))
      (taken_trees (labels_of rest) (first ∷ nodes))) unlike
      ∙ ap (λ l. some_taken (has_node nodes label) (tree_in nodes label) l (taken_trees (labels_of rest) (first ∷ nodes)))
      (taken_behind rest after above.1)
      ∙ ap (some_taken (has_node nodes label) (tree_in nodes label) (taken_trees (labels_of rest) after))
      (taken_behind rest nodes above.1)

first_out : (node : Node) (nodes : List Node) → AllAbove node.label nodes →
    with_tree node.label bare (node ∷ nodes) ≡ at node.label bare ∷ nodes
first_out node nodes above =
    ap (λ b. if b then at node.label bare ∷ with_tree node.label bare nodes else node ∷ with_tree node.label bare nodes)
    (same node.label)
    ∙ ap (λ l. at node.label bare ∷ l) (with_none node.label bare nodes (none_above node.label nodes above))

pub all_bare : (nodes : List Node) → Rising nodes → all_taken (labels_of nodes) nodes ≡ bared nodes
all_bare [] rising = refl
all_bare (node ∷ nodes) rising =
    let up = rising-above node nodes rising in
    ap (all_taken (labels_of nodes)) (first_out node nodes up.0)
    ∙ all_behind (at node.label bare) nodes nodes up.0
    ∙ ap (λ l. at node.label bare ∷ l) (all_bare nodes up.1)

pub all_trees : (nodes : List Node) → Rising nodes → taken_trees (labels_of nodes) nodes ≡ node_trees nodes
all_trees [] rising = refl
all_trees (node ∷ nodes) rising =
    let up = rising-above node nodes rising in
    let after = with_tree node.label bare (node ∷ nodes) in
    ap (λ b. if (if b then true else has_node nodes node.label)
    then (if b then node.tree else tree_in nodes node.label) ∷ taken_trees (labels_of nodes) after
    else taken_trees (labels_of nodes) (node ∷ nodes)) (same node.label)
    ∙ ap (λ l. node.tree ∷ taken_trees (labels_of nodes) l) (first_out node nodes up.0)
    ∙ ap (λ l. node.tree ∷ l) (taken_behind (at node.label bare) nodes nodes up.0 ∙ all_trees nodes up.1)

-- One label more.
module _ (labels : List Label) (i : ℕ) (label : Label) (within : i < length labels) (is : label ≡ get_or labels i label) where
  next_is : drop i labels ≡ label ∷ drop (i + 1) labels
  next_is = drop_more labels i label within ∙ ap (λ l. l ∷ drop (i + 1) labels) (sym is)

  pub length_next : length (drop i labels) ≡ suc (length (drop (i + 1) labels))
  length_next = ap length next_is

  module _ (nodes after : List Node) (has : has_node nodes label ≡ true) (after_is : after ≡ with_tree label bare nodes) where
    pub trees_next : taken_trees (drop i labels) nodes ≡ tree_in nodes label ∷ taken_trees (drop (i + 1) labels) after
    trees_next =
        ap (λ ls. taken_trees ls nodes) next_is
        ∙ ap (λ b. if b then tree_in nodes label ∷ taken_trees (drop (i + 1) labels) (with_tree label bare nodes)
        else taken_trees (drop (i + 1) labels) nodes) has
        ∙ ap (λ ns. tree_in nodes label ∷ taken_trees (drop (i + 1) labels) ns) (sym after_is)

    pub all_next : all_taken (drop i labels) nodes ≡ all_taken (drop (i + 1) labels) after
    all_next = ap (λ ls. all_taken ls nodes) next_is ∙ ap (all_taken (drop (i + 1) labels)) (sym after_is)

  module _ (nodes : List Node) (absent : has_node nodes label ≡ false) where
    pub trees_past : taken_trees (drop i labels) nodes ≡ taken_trees (drop (i + 1) labels) nodes
    trees_past =
        ap (λ ls. taken_trees ls nodes) next_is
        ∙ ap (λ b. if b then tree_in nodes label ∷ taken_trees (drop (i + 1) labels) (with_tree label bare nodes)
        else taken_trees (drop (i + 1) labels) nodes) absent

    pub all_past : all_taken (drop i labels) nodes ≡ all_taken (drop (i + 1) labels) nodes
    all_past =
        ap (λ ls. all_taken ls nodes) next_is
        ∙ ap (all_taken (drop (i + 1) labels)) (with_none label bare nodes absent)

pub pushed : (trees : List code.Tree) (t : code.Tree) (rest : List Tree) →
    map seen_tree (trees ++ t ∷ []) ++ rest ≡ map seen_tree trees ++ seen_tree t ∷ rest
pushed trees t rest =
    ap (λ l. l ++ rest) (map-append seen_tree trees (t ∷ []))
    ∙ append_assoc (map seen_tree trees) (seen_tree t ∷ []) rest

-- Bare nodes go.

has_bared : (label : Label) (nodes : List Node) → has_node (bared nodes) label ≡ has_node nodes label
has_bared label [] = refl
has_bared label (node ∷ nodes) =
    ap (λ b. if node.label == label then true else b) (has_bared label nodes)

tree_bared : (label : Label) (nodes : List Node) → tree_in (bared nodes) label ≡ bare
tree_bared label [] = refl
tree_bared label (node ∷ nodes) =
    elim (node.label == label) as (λ b. (if b then bare else tree_in (bared nodes) label) ≡ bare) [
      | true ↦ refl
      | false ↦ tree_bared label nodes
    ]

leaves_bared : (label : Label) (nodes : List Node) → all_leaves_to label (bared nodes) ≡ 0
leaves_bared label [] = refl
leaves_bared label (node ∷ nodes) = let h = leaves_bared label nodes in omega (arith, h)

may_go : (label : Label) (nodes : List Node) → has_node nodes label ≡ true → MayGo label (bared nodes)
may_go label nodes has = record {
  has = has_bared label nodes ∙ has;
  is_bare = tree_bared label nodes;
  unused = leaves_bared label nodes;
}

first_has : (node : Node) (nodes : List Node) → has_node (node ∷ nodes) node.label ≡ true
first_has node nodes = ap (λ b. if b then true else has_node nodes node.label) (same node.label)

without_first : (node : Node) (nodes : List Node) → AllAbove node.label nodes →
    without node.label (bared (node ∷ nodes)) ≡ bared nodes
without_first node nodes above =
    ap (λ b. if b then without node.label (bared nodes) else at node.label bare ∷ without node.label (bared nodes))
    (same node.label)
    ∙ without_none node.label (bared nodes) (has_bared node.label nodes ∙ none_above node.label nodes above)

-- Behind the entry's node.
module _ (first : Node) where
  second_has : (node : Node) (nodes : List Node) → has_node (first ∷ node ∷ nodes) node.label ≡ true
  second_has node nodes =
      elim (first.label == node.label)
      as (λ b. (if b then true else has_node (node ∷ nodes) node.label) ≡ true) [
        | true ↦ refl
        | false ↦ first_has node nodes
      ]

  clears_behind : (nodes : List Node) → AllAbove first.label nodes → Rising nodes →
      Clears first.label (labels_of nodes) (bared (first ∷ nodes))
  clears_behind [] above rising = refl
  clears_behind (node ∷ nodes) above rising =
      let up = rising-above node nodes rising in
      let rest : List Node = without node.label (bared (node ∷ nodes)) in (
        may_go node.label (first ∷ node ∷ nodes) (second_has node nodes),
        subst (λ ns. Clears first.label (labels_of nodes) ns)
            (sym (ap (λ b. if b then bared (first ∷ node ∷ nodes) else without node.label (bared (first ∷ node ∷ nodes)))
            (below_unlike first.label node.label above.0)
            ∙ ap (λ b. if b then rest else at first.label bare ∷ rest) (above_unlike first.label node.label above.0)
            ∙ ap (λ l. at first.label bare ∷ l) (without_first node nodes up.0)))
            (clears_behind nodes above.1 up.1),
      )

pub clears : (entry : Label) (nodes : List Node) → Rising nodes → has_node nodes entry ≡ true →
    Clears entry (labels_of nodes) (bared nodes)
clears entry [] rising has = absurd (cc)
clears entry (node ∷ nodes) rising has =
    let up = rising-above node nodes rising in
    let go = may_go node.label (node ∷ nodes) (first_has node nodes) in
    elim (eqb_tells node.label entry) [
      | inl e ↦ (
        go,
        subst (λ ns. Clears entry (labels_of nodes) ns)
            (sym (ap (λ b. if b then bared (node ∷ nodes) else without node.label (bared (node ∷ nodes))) e.0))
            (subst (λ l. Clears l (labels_of nodes) (bared (node ∷ nodes))) e.1 (clears_behind node nodes up.0 up.1)),
      )
      | inr e ↦ (
        go,
        subst (λ ns. Clears entry (labels_of nodes) ns)
            (sym (ap (λ b. if b then bared (node ∷ nodes) else without node.label (bared (node ∷ nodes))) e.0
            ∙ without_first node nodes up.0))
            (clears entry nodes up.1 (sym (ap (λ b. if b then true else has_node nodes entry) e.0) ∙ has)),
      )
    ]

-- once all trees came out
pub clears_taken : (entry : Label) (labels others : List Label) (nodes after : List Node) → Rising nodes →
    has_node nodes entry ≡ true → labels ≡ labels_of nodes → others ≡ labels_of nodes →
    after ≡ all_taken labels nodes → Clears entry others after
clears_taken entry labels others nodes after rising has hl ho ha =
    subst (λ ls. Clears entry ls after) (sym ho)
    (subst (λ ns. Clears entry (labels_of nodes) ns)
    (sym (ha ∙ ap (λ ls. all_taken ls nodes) hl ∙ all_bare nodes rising))
    (clears entry nodes rising has))

-- What is left.

pub one_has : (label : Label) (t : Tree) → has_node (one_node label t) label ≡ true
one_has label t = ap (λ b. if b then true else false) (same label)

pub one_tree : (label : Label) (t : Tree) → tree_in (one_node label t) label ≡ t
one_tree label t = ap (λ b. if b then t else bare) (same label)

pub one_with : (label : Label) (t u : Tree) → with_tree label t (one_node label u) ≡ one_node label t
one_with label t u = ap (λ b. if b then at label t ∷ [] else at label u ∷ []) (same label)
