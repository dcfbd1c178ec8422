-- Exits and the dispatch, as functions of a graph, are in their relations.
use Rattle.std.proofs.Common.{◌≡◌, ◌≢◌, ℕ, zero, suc, ◌<◌, if◌then◌else◌, List, [], ◌∷◌, ◌++◌, Some, None, refl, ap, sym, ◌∙◌, subst, arith, inl, inr}
use Rattle.std.proofs.lemmas.Bool.Decides.{eqb_tells}
use Rattle.control_flow_theory.specs.language.Language.{none, Range}
use Rattle.control_flow_theory.specs.semantics.Graph.{Label, Tree, tree, Dead, Family}
use Rattle.control_flow_theory.specs.graph_rules.Families.{Added, Never, State, Exit}
use Rattle.control_flow_theory.specs.graph_rules.Reduced.{Node, Graph, tree_in, kind_at, count, Graphs, family_of, kinds_of, with_tree}
use Rattle.control_flow_theory.specs.structuring.Dispatches.{one_further, number_in, Numbered, labels_of, Rising, AreNodes, dispatched, Dispatched}
use Rattle.control_flow_theory.specs.structuring.Targets.{with_exits, ClosedByExits}
use Rattle.control_flow_theory.specs.structuring.Keeps.{Gains}
use Rattle.control_flow_theory.specs.structuring.Closes.{none_left_out, exits_graph, dispatch_graph, AllNumbered, IsClosed}
use Rattle.control_flow_theory.proofs.semantics_lemmas.Ranges.{range-tells, eq-self}
use Rattle.control_flow_theory.proofs.graph_rules_lemmas.shapes.Shaped.{Replaced}
use Rattle.control_flow_theory.proofs.structuring_lemmas.gathering.Targets.{numbered-cases}

-- Cells that are added at the end.

kind-more : (kinds others : List Added) (cell : ℕ) (kind : Added) → kind_at kinds cell ≡ Some kind → kind_at (kinds ++ others) cell ≡ Some kind
kind-more [] others cell kind e = absurd (cc)
kind-more (first ∷ kinds) others zero kind e = e
kind-more (first ∷ kinds) others (suc cell) kind e = kind-more kinds others cell kind e

kind-none : (kinds : List Added) → kind_at kinds (count kinds) ≡ None
kind-none [] = refl
kind-none (first ∷ kinds) = kind-none kinds

kind-new : (kinds : List Added) (kind : Added) → kind_at (kinds ++ kind ∷ []) (count kinds) ≡ Some kind
kind-new [] kind = refl
kind-new (first ∷ kinds) kind = kind-new kinds kind

module _ (graphs changed : Graphs) (range : Range) (graph : Graph) (replaced : Replaced graphs changed range graph) where
  at-range : changed range ≡ graph
  at-range = replaced.here

  at-other : (r : Range) → r ≢ range → changed r ≡ graphs r
  at-other r differ = replaced.rest r differ

  -- the range has gained one cell
  gains : (kind : Added) → kind ≢ Never → graph.added ≡ (graphs range).added ++ kind ∷ [] → Gains (kinds_of graphs) (kinds_of changed) range (count (graphs range).added)
  gains kind no_never added = record {
    extends = λ r cell k e.
        elim (range-tells r range) [
          | inl f ↦ subst (λ x. kind_at (changed x).added cell ≡ Some k) (sym f.1)
              (ap (λ g. kind_at g.added cell) at-range ∙ ap (λ a. kind_at a cell) added ∙ kind-more (graphs range).added (kind ∷ []) cell k (subst (λ x. kind_at (graphs x).added cell ≡ Some k) f.1 e))
          | inr f ↦ ap (λ g. kind_at g.added cell) (at-other r f.1) ∙ e
        ];
    fresh = kind-none (graphs range).added;
    kind = kind;
    new = ap (λ g. kind_at g.added (count (graphs range).added)) at-range ∙ ap (λ a. kind_at a (count (graphs range).added)) added ∙ kind-new (graphs range).added kind;
    may_set = no_never;
  }

-- A node in a list of nodes.

with-tree-same : (label : Label) (t : Tree) (nodes : List Node) → Numbered (labels_of nodes) label → tree_in (with_tree label t nodes) label ≡ t
with-tree-same label t [] n = absurd (let e = n.1 in omega (arith, e))
with-tree-same label t (node ∷ nodes) n =
    let next = λ (k : Numbered (labels_of nodes) label). with-tree-same label t nodes k in
    elim (eqb_tells node.label label) [
      | inl e ↦
          ap (λ b. tree_in (if b then (let first : Node = record { label = node.label; tree = t } in first ∷ with_tree label t nodes) else node ∷ with_tree label t nodes) label) e.0
          ∙ ap (λ b. if b then t else tree_in (with_tree label t nodes) label) e.0
      | inr e ↦
          ap (λ b. tree_in (if b then (let first : Node = record { label = node.label; tree = t } in first ∷ with_tree label t nodes) else node ∷ with_tree label t nodes) label) e.0
          ∙ ap (λ b. if b then node.tree else tree_in (with_tree label t nodes) label) e.0
          ∙ next (elim (numbered-cases node.label label (labels_of nodes) n) [ inl is ↦ absurd (e.1 is) | inr k ↦ k ])
    ]

with-tree-other : (label : Label) (t : Tree) (nodes : List Node) (other : Label) → other ≢ label → tree_in (with_tree label t nodes) other ≡ tree_in nodes other
with-tree-other label t [] other differ = refl
with-tree-other label t (node ∷ nodes) other differ =
    let next = with-tree-other label t nodes other differ in
    elim (eqb_tells node.label label) [
      | inl e ↦
          ap (λ b. tree_in (if b then (let first : Node = record { label = node.label; tree = t } in first ∷ with_tree label t nodes) else node ∷ with_tree label t nodes) other) e.0
          ∙ elim (eqb_tells node.label other) [
            | inl f ↦ absurd (differ (sym f.1 ∙ e.1))
            | inr f ↦ ap (λ b. if b then t else tree_in (with_tree label t nodes) other) f.0 ∙ next ∙ sym (ap (λ b. if b then node.tree else tree_in nodes other) f.0)
          ]
      | inr e ↦
          ap (λ b. tree_in (if b then (let first : Node = record { label = node.label; tree = t } in first ∷ with_tree label t nodes) else node ∷ with_tree label t nodes) other) e.0
          ∙ elim (eqb_tells node.label other) [
            | inl f ↦ ap (λ b. if b then node.tree else tree_in (with_tree label t nodes) other) f.0 ∙ sym (ap (λ b. if b then node.tree else tree_in nodes other) f.0)
            | inr f ↦ ap (λ b. if b then node.tree else tree_in (with_tree label t nodes) other) f.0 ∙ next ∙ sym (ap (λ b. if b then node.tree else tree_in nodes other) f.0)
          ]
    ]

-- Exits.
module _ (graphs changed : Graphs) (range : Range) (label : Label) (there : Numbered (labels_of (graphs range).nodes) label) (replaced : Replaced graphs changed range (exits_graph label (graphs range))) where
  abbrev old : Graph
  old = graphs range

  abbrev new : Graph
  new = exits_graph label old

  pub exits-gain : Gains (kinds_of graphs) (kinds_of changed) range (count old.added)
  exits-gain = gains graphs changed range new replaced Exit (λ e. cc) refl

  pub exits-close : ClosedByExits none_left_out range label (count old.added) (family_of graphs) (family_of changed)
  exits-close = record {
    entries = λ r. elim (range-tells r range) [
      | inl e ↦ subst (λ x. (changed x).entry ≡ (graphs x).entry) (sym e.1) (ap (λ g. g.entry) (at-range graphs changed range new replaced))
      | inr e ↦ ap (λ g. g.entry) (at-other graphs changed range new replaced r e.1)
    ];
    node = ap (λ g. tree_in g.nodes label) (at-range graphs changed range new replaced) ∙ with-tree-same label (with_exits none_left_out (count old.added) label (tree_in old.nodes label)) old.nodes there;
    others = λ r l differ. elim (range-tells r range) [
      | inl e ↦ subst (λ x. tree_in (changed x).nodes l ≡ tree_in (graphs x).nodes l) (sym e.1)
          (ap (λ g. tree_in g.nodes l) (at-range graphs changed range new replaced) ∙ with-tree-other label (with_exits none_left_out (count old.added) label (tree_in old.nodes label)) old.nodes l (λ is. differ (e.1, is)))
      | inr e ↦ ap (λ g. tree_in g.nodes l) (at-other graphs changed range new replaced r e.1)
    ];
  }

-- The dispatch.

-- all labels are above this one
abbrev pub AllAbove : Label → List Node → Type 0
AllAbove label [] = Unit {0}
AllAbove label (node ∷ nodes) = (label < node.label) × AllAbove label nodes

pub above-more : (low label : Label) (nodes : List Node) → low < label → AllAbove label nodes → AllAbove low nodes
above-more low label [] lt h = tt
above-more low label (node ∷ nodes) lt h = ((let e = h.0 in omega (arith, lt, e)), above-more low label nodes lt h.1)

pub rising-above : (node : Node) (nodes : List Node) → Rising (node ∷ nodes) → AllAbove node.label nodes × Rising nodes
rising-above node [] rising = (tt, tt)
rising-above node (next ∷ nodes) rising =
    let h = rising-above next nodes rising.1 in
    ((rising.0, above-more node.label next.label nodes rising.0 h.0), rising.1)

-- each node is found by its label
pub are-nodes : (family : Family) (range : Range) (labels : List Label) (nodes : List Node) → Rising nodes → ((l : Label) (t : Tree) → tree_in nodes l ≡ t → Numbered (labels_of nodes) l → family.node range l ≡ t) → AllNumbered labels nodes →
    AreNodes family range (Numbered labels) nodes
are-nodes family range labels [] rising found jumps = tt
are-nodes family range labels (node ∷ nodes) rising found jumps =
    let up = rising-above node nodes rising in
    let first : tree_in (node ∷ nodes) node.label ≡ node.tree = ap (λ b. if b then node.tree else tree_in nodes node.label) (eq-self node.label) in
    let number : Numbered (labels_of (node ∷ nodes)) node.label = (0, ap (λ b. if b then 1 else one_further (number_in (labels_of nodes) node.label)) (eq-self node.label)) in (
      found node.label node.tree first number,
      jumps.0,
      are-nodes family range labels nodes up.1 (λ l t e n. later l t e n up.0) jumps.1,
    )
  where
    above-not : (l low : Label) (others : List Node) → AllAbove low others → Numbered (labels_of others) l → low < l
    above-not l low [] h n = absurd (let e = n.1 in omega (arith, e))
    above-not l low (one ∷ others) h n = elim (numbered-cases one.label l (labels_of others) n) [
      | inl is ↦ subst (λ x. low < x) is h.0
      | inr k ↦ above-not l low others h.1 k
    ]

    later : (l : Label) (t : Tree) → tree_in nodes l ≡ t → Numbered (labels_of nodes) l → AllAbove node.label nodes → family.node range l ≡ t
    later l t e n h =
        let lt = above-not l node.label nodes h n in
        elim (eqb_tells node.label l) [
          | inl f ↦ absurd (let x = f.1 in omega (arith, x, lt))
          | inr f ↦ found l t (ap (λ b. if b then node.tree else tree_in nodes l) f.0 ∙ e)
              (suc n.0, ap (λ b. if b then 1 else one_further (number_in (labels_of nodes) l)) f.0 ∙ ap one_further n.1)
        ]

module _ (graphs changed : Graphs) (range : Range) (closed : IsClosed (graphs range)) (replaced : Replaced graphs changed range (dispatch_graph (graphs range))) where
  abbrev before_it : Graph
  before_it = graphs range

  abbrev behind_it : Graph
  behind_it = dispatch_graph before_it

  pub dispatch-gains : Gains (kinds_of graphs) (kinds_of changed) range (count before_it.added)
  dispatch-gains = gains graphs changed range behind_it replaced State (λ e. cc) refl

  pub dispatch-closes : Dispatched none_left_out range (count before_it.added) before_it.nodes (family_of graphs) (family_of changed)
  dispatch-closes = record {
    entries = λ r. elim (range-tells r range) [
      | inl e ↦ subst (λ x. (changed x).entry ≡ (graphs x).entry) (sym e.1) (ap (λ g. g.entry) (at-range graphs changed range behind_it replaced))
      | inr e ↦ ap (λ g. g.entry) (at-other graphs changed range behind_it replaced r e.1)
    ];
    rising = closed.rising;
    entry = closed.entry;
    nodes_are = are-nodes (family_of graphs) range (labels_of before_it.nodes) before_it.nodes closed.rising (λ l t e n. e) closed.jumps;
    node =
        let t = dispatched none_left_out (count before_it.added) before_it.entry before_it.nodes in
        ap (λ g. tree_in g.nodes before_it.entry) (at-range graphs changed range behind_it replaced) ∙ ap (λ b. if b then t else tree none Dead) (eq-self before_it.entry);
    rest = λ l differ. inr (
        let t = dispatched none_left_out (count before_it.added) before_it.entry before_it.nodes in
        ap (λ g. tree_in g.nodes l) (at-range graphs changed range behind_it replaced)
        ∙ elim (eqb_tells before_it.entry l) [ inl e ↦ absurd (differ (sym e.1)) | inr e ↦ ap (λ b. if b then t else tree none Dead) e.0 ]);
    others = λ r differ l. ap (λ g. tree_in g.nodes l) (at-other graphs changed range behind_it replaced r differ);
  }
