-- Nodes of a graph, one of which gets another tree or goes.
use Rattle.std.proofs.Common.{◌≡◌, ◌≢◌, ◌<◌, ◌+◌, true, false, if◌then◌else◌, ◌==◌, List, [], ◌∷◌, refl, ap, sym, ◌∙◌, subst, arith, inl, inr}
use Rattle.std.proofs.lemmas.Bool.{eq-eqb}
use Rattle.std.proofs.lemmas.Bool.Decides.{eqb_tells}
use Rattle.control_flow_theory.specs.language.Language.{none}
use Rattle.control_flow_theory.specs.semantics.Graph.{Label, Tree, tree, Dead}
use Rattle.control_flow_theory.specs.graph_rules.Shapes.{leaves_to}
use Rattle.control_flow_theory.specs.graph_rules.Reduced.{Node, tree_in, has_node, without, with_tree, all_leaves_to}
use Rattle.control_flow_theory.specs.structuring.Dispatches.{Rising, labels_of}
use Rattle.control_flow_theory.specs.structuring.Targets.{RisingLabels}
use Rattle.control_flow_theory.proofs.structuring_lemmas.closing.Closes.{AllAbove, rising-above}
use Rattle.control_flow_theory.proofs.structuring_lemmas.closing.StayClosed.{with-labels, by-labels, from-labels}

same : (label : Label) → (label == label) ≡ true
same label = eq-eqb label label refl

unlike : (a b : Label) → a < b → (b == a) ≡ false
unlike a b less = elim (eqb_tells b a) [
  | inl e ↦ absurd (let is = e.1 in omega (arith, is, less))
  | inr e ↦ e.0
]

-- a node with this label and this tree
abbrev at : Label → Tree → Node
at label t = record { label = label; tree = t }

-- With another tree.

pub has_with : (label l : Label) (t : Tree) (nodes : List Node) →
    has_node (with_tree label t nodes) l ≡ has_node nodes l
has_with label l t [] = refl
has_with label l t (node ∷ nodes) =
    let next = has_with label l t nodes in
    elim (node.label == label) as (λ b.
    has_node (if b then at node.label t ∷ with_tree label t nodes else node ∷ with_tree label t nodes) l
    ≡ (if node.label == l then true else has_node nodes l)) [
      | true ↦ ap (λ z. if node.label == l then true else z) next
      | false ↦ ap (λ z. if node.label == l then true else z) next
    ]

pub tree_with : (label : Label) (t : Tree) (nodes : List Node) → has_node nodes label ≡ true →
    tree_in (with_tree label t nodes) label ≡ t
tree_with label t [] has = absurd (cc)
tree_with label t (node ∷ nodes) has =
    elim (node.label == label) as (λ b. (node.label == label) ≡ b →
    (if b then true else has_node nodes label) ≡ true →
    tree_in (if b then at node.label t ∷ with_tree label t nodes else node ∷ with_tree label t nodes) label ≡ t) [
      | true ↦ λ e h. ap (λ b. if b then t else tree_in (with_tree label t nodes) label) e
      | false ↦ λ e h. ap (λ b. if b then node.tree else tree_in (with_tree label t nodes) label) e ∙ tree_with label t nodes h
    ] refl has

-- the last tree stays
pub with_twice : (label : Label) (t u : Tree) (nodes : List Node) →
    with_tree label t (with_tree label u nodes) ≡ with_tree label t nodes
with_twice label t u [] = refl
with_twice label t u (node ∷ nodes) =
    let next = with_twice label t u nodes in
    elim (node.label == label) as (λ b. (node.label == label) ≡ b →
    with_tree label t (if b then at node.label u ∷ with_tree label u nodes else node ∷ with_tree label u nodes)
    ≡ (if b then at node.label t ∷ with_tree label t nodes else node ∷ with_tree label t nodes)) [
      | true ↦ λ e.
          ap (λ b. if b then at node.label t ∷ with_tree label t (with_tree label u nodes) else at node.label u ∷ with_tree label t (with_tree label u nodes)) e
          ∙ ap (λ l. at node.label t ∷ l) next
      | false ↦ λ e.
          ap (λ b. if b then at node.label t ∷ with_tree label t (with_tree label u nodes) else node ∷ with_tree label t (with_tree label u nodes)) e
          ∙ ap (λ l. node ∷ l) next
    ] refl

pub rising_with : (label : Label) (t : Tree) (nodes : List Node) → Rising nodes → Rising (with_tree label t nodes)
rising_with label t nodes rising =
    from-labels (with_tree label t nodes)
    (subst (λ ls. RisingLabels ls) (sym (with-labels label t nodes)) (by-labels nodes rising))

-- a label below all others has no node
pub none_above : (low : Label) (nodes : List Node) → AllAbove low nodes → has_node nodes low ≡ false
none_above low [] above = refl
none_above low (node ∷ nodes) above =
    ap (λ b. if b then true else has_node nodes low) (unlike low node.label above.0)
    ∙ none_above low nodes above.1

pub with_none : (label : Label) (t : Tree) (nodes : List Node) → has_node nodes label ≡ false → with_tree label t nodes ≡ nodes
with_none label t [] absent = refl
with_none label t (node ∷ nodes) absent =
    elim (node.label == label) as (λ b. (if b then true else has_node nodes label) ≡ false →
    (if b then at node.label t ∷ with_tree label t nodes else node ∷ with_tree label t nodes) ≡ node ∷ nodes) [
      | true ↦ λ h. absurd (cc)
      | false ↦ λ h. ap (λ l. node ∷ l) (with_none label t nodes h)
    ] absent

-- the tree that stands there changes nothing
pub with_same : (label : Label) (nodes : List Node) → Rising nodes → with_tree label (tree_in nodes label) nodes ≡ nodes
with_same label [] rising = refl
with_same label (node ∷ nodes) rising =
    let up = rising-above node nodes rising in
    elim (eqb_tells node.label label) [
      | inl e ↦
          ap (λ b. with_tree label (if b then node.tree else tree_in nodes label) (node ∷ nodes)) e.0
          ∙ ap (λ b. if b then at node.label node.tree ∷ with_tree label node.tree nodes else node ∷ with_tree label node.tree nodes) e.0
          ∙ ap (λ l. node ∷ l) (with_none label node.tree nodes (subst (λ l. has_node nodes l ≡ false) e.1 (none_above node.label nodes up.0)))
      | inr e ↦
          ap (λ b. with_tree label (if b then node.tree else tree_in nodes label) (node ∷ nodes)) e.0
          ∙ ap (λ b. if b then at node.label (tree_in nodes label) ∷ with_tree label (tree_in nodes label) nodes else node ∷ with_tree label (tree_in nodes label) nodes) e.0
          ∙ ap (λ l. node ∷ l) (with_same label nodes up.1)
    ]

-- Leaves of one tree, and of the others.

leaves_with_none : (l label : Label) (t : Tree) (nodes : List Node) → has_node nodes label ≡ false →
    all_leaves_to l (with_tree label t nodes) ≡ all_leaves_to l nodes
leaves_with_none l label t nodes absent = ap (all_leaves_to l) (with_none label t nodes absent)

-- the leaves of the tree that stands there, and of those beside it
pub leaves_with : (l label : Label) (t : Tree) (nodes : List Node) → Rising nodes → has_node nodes label ≡ true →
    all_leaves_to l (with_tree label t nodes) ≡ leaves_to l t + all_leaves_to l (with_tree label (tree none Dead) nodes)
leaves_with l label t [] rising has = absurd (cc)
leaves_with l label t (node ∷ nodes) rising has =
    let up = rising-above node nodes rising in
    let dead : Tree = tree none Dead in
    elim (eqb_tells node.label label) [
      | inl e ↦
          let absent : has_node nodes label ≡ false = subst (λ l. has_node nodes l ≡ false) e.1 (none_above node.label nodes up.0) in
          let one = leaves_with_none l label t nodes absent in
          let other = leaves_with_none l label dead nodes absent in
          let moved : leaves_to l t + all_leaves_to l (with_tree label t nodes) ≡ leaves_to l t + (0 + all_leaves_to l (with_tree label dead nodes)) = omega (arith, one, other) in
          ap (λ b. all_leaves_to l (if b then at node.label t ∷ with_tree label t nodes else node ∷ with_tree label t nodes)) e.0
          ∙ moved
          ∙ sym (ap (λ b. leaves_to l t + all_leaves_to l (if b then at node.label dead ∷ with_tree label dead nodes else node ∷ with_tree label dead nodes)) e.0)
      | inr e ↦
          let h : has_node nodes label ≡ true = sym (ap (λ b. if b then true else has_node nodes label) e.0) ∙ has in
          let next = leaves_with l label t nodes up.1 h in
          let moved : leaves_to l node.tree + all_leaves_to l (with_tree label t nodes) ≡ leaves_to l t + (leaves_to l node.tree + all_leaves_to l (with_tree label dead nodes)) = omega (arith, next) in
          ap (λ b. all_leaves_to l (if b then at node.label t ∷ with_tree label t nodes else node ∷ with_tree label t nodes)) e.0
          ∙ moved
          ∙ sym (ap (λ b. leaves_to l t + all_leaves_to l (if b then at node.label dead ∷ with_tree label dead nodes else node ∷ with_tree label dead nodes)) e.0)
    ]

pub leaves_split : (l label : Label) (nodes : List Node) → Rising nodes → has_node nodes label ≡ true →
    all_leaves_to l nodes ≡ leaves_to l (tree_in nodes label) + all_leaves_to l (with_tree label (tree none Dead) nodes)
leaves_split l label nodes rising has =
    sym (ap (all_leaves_to l) (with_same label nodes rising)) ∙ leaves_with l label (tree_in nodes label) nodes rising has

-- Without a node.

pub has_without : (label l : Label) (nodes : List Node) → l ≢ label → has_node (without label nodes) l ≡ has_node nodes l
has_without label l [] other = refl
has_without label l (node ∷ nodes) other =
    let next = has_without label l nodes other in
    elim (eqb_tells node.label label) [
      | inl e ↦
          ap (λ b. has_node (if b then without label nodes else node ∷ without label nodes) l) e.0 ∙ next
          ∙ sym (elim (eqb_tells node.label l) [
            | inl d ↦ absurd (other (sym d.1 ∙ e.1))
            | inr d ↦ ap (λ b. if b then true else has_node nodes l) d.0
          ])
      | inr e ↦
          ap (λ b. has_node (if b then without label nodes else node ∷ without label nodes) l) e.0
          ∙ ap (λ z. if node.label == l then true else z) next
    ]

pub has_not_without : (label : Label) (nodes : List Node) → has_node (without label nodes) label ≡ false
has_not_without label [] = refl
has_not_without label (node ∷ nodes) =
    let next = has_not_without label nodes in
    elim (node.label == label) as (λ b. (node.label == label) ≡ b →
    has_node (if b then without label nodes else node ∷ without label nodes) label ≡ false) [
      | true ↦ λ e. next
      | false ↦ λ e. ap (λ b. if b then true else has_node (without label nodes) label) e ∙ next
    ] refl

pub leaves_without : (l label : Label) (nodes : List Node) →
    all_leaves_to l (without label nodes) ≡ all_leaves_to l (with_tree label (tree none Dead) nodes)
leaves_without l label [] = refl
leaves_without l label (node ∷ nodes) =
    let next = leaves_without l label nodes in
    let dead : Tree = tree none Dead in
    elim (node.label == label) as (λ b.
    all_leaves_to l (if b then without label nodes else node ∷ without label nodes)
    ≡ all_leaves_to l (if b then at node.label dead ∷ with_tree label dead nodes else node ∷ with_tree label dead nodes)) [
      | true ↦ omega (arith, next)
      | false ↦ ap (λ n. leaves_to l node.tree + n) next
    ]

pub without_none : (label : Label) (nodes : List Node) → has_node nodes label ≡ false → without label nodes ≡ nodes
without_none label [] absent = refl
without_none label (node ∷ nodes) absent =
    elim (node.label == label) as (λ b. (if b then true else has_node nodes label) ≡ false →
    (if b then without label nodes else node ∷ without label nodes) ≡ node ∷ nodes) [
      | true ↦ λ h. absurd (cc)
      | false ↦ λ h. ap (λ l. node ∷ l) (without_none label nodes h)
    ] absent

above_without : (low label : Label) (nodes : List Node) → AllAbove low nodes → AllAbove low (without label nodes)
above_without low label [] above = tt
above_without low label (node ∷ nodes) above =
    let next = above_without low label nodes above.1 in
    elim (node.label == label) as (λ b. AllAbove low (if b then without label nodes else node ∷ without label nodes)) [
      | true ↦ next
      | false ↦ (above.0, next)
    ]

rising_cons : (node : Node) (nodes : List Node) → AllAbove node.label nodes → Rising nodes → Rising (node ∷ nodes)
rising_cons node [] above rising = tt
rising_cons node (next ∷ nodes) above rising = (above.0, rising)

pub rising_without : (label : Label) (nodes : List Node) → Rising nodes → Rising (without label nodes)
rising_without label [] rising = tt
rising_without label (node ∷ nodes) rising =
    let up = rising-above node nodes rising in
    let next = rising_without label nodes up.1 in
    elim (node.label == label) as (λ b. Rising (if b then without label nodes else node ∷ without label nodes)) [
      | true ↦ next
      | false ↦ rising_cons node (without label nodes) (above_without node.label label nodes up.0) next
    ]

-- Nodes from their labels.

abbrev pub nodes_from : (Label → Tree) → List Label → List Node
nodes_from trees [] = []
nodes_from trees (label ∷ labels) = at label (trees label) ∷ nodes_from trees labels

pub labels_from : (trees : Label → Tree) (labels : List Label) → labels_of (nodes_from trees labels) ≡ labels
labels_from trees [] = refl
labels_from trees (label ∷ labels) = ap (λ l. label ∷ l) (labels_from trees labels)

later_same : (first : Node) (nodes : List Node) (low : Label) (rest : List Node) → AllAbove first.label rest →
    nodes_from (tree_in (first ∷ nodes)) (labels_of rest) ≡ nodes_from (tree_in nodes) (labels_of rest)
later_same first nodes low [] above = refl
later_same first nodes low (node ∷ rest) above =
    let no : (first.label == node.label) ≡ false = elim (eqb_tells first.label node.label) [
      | inl e ↦ absurd (let is = e.1 in let less = above.0 in omega (arith, is, less))
      | inr e ↦ e.0
    ] in
    ap (λ t. at node.label t ∷ nodes_from (tree_in (first ∷ nodes)) (labels_of rest)) (ap (λ b. if b then first.tree else tree_in nodes node.label) no)
    ∙ ap (λ l. at node.label (tree_in nodes node.label) ∷ l) (later_same first nodes low rest above.1)

-- the nodes are those that are found by their labels
pub found_again : (nodes : List Node) → Rising nodes → nodes_from (tree_in nodes) (labels_of nodes) ≡ nodes
found_again [] rising = refl
found_again (node ∷ nodes) rising =
    let up = rising-above node nodes rising in
    ap (λ t. at node.label t ∷ nodes_from (tree_in (node ∷ nodes)) (labels_of nodes)) (ap (λ b. if b then node.tree else tree_in nodes node.label) (same node.label))
    ∙ ap (λ l. node ∷ l) (later_same node nodes node.label nodes up.0 ∙ found_again nodes up.1)
