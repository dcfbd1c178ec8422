-- Sets of labels on which rules are to be tried.
use Rattle.std.proofs.Common.{◌≡◌, ◌≢◌, ◌<◌, ◌≤◌, ℕ, zero, suc, ◌+◌, Bool, true, false, if◌then◌else◌, List, [], ◌∷◌, length, take, get_or, refl, ap, sym, ◌∙◌, subst, arith, inl, inr, add-one}
use Rattle.std.specs.Ordering.{nat_cmp, is_gt}
use Rattle.std.specs.BTreeMap.{is_at}
use Rattle.std.specs.BTreeSet.{BTreeSet, contains, btree_set_len, Updates, IsLowerBound}
use Rattle.std.proofs.lemmas.Bool.Decides.{eqb_tells, nat_tests}
use Rattle.control_flow_theory.specs.semantics.Doing.{is_above}
use Rattle.control_flow_theory.specs.semantics.Graph.{Label, Tree}
use Rattle.control_flow_theory.specs.graph_rules.Shapes.{leaves_to, arms_leaves_to}
use Rattle.control_flow_theory.specs.graph_rules.Reduced.{Node, tree_in, has_node}
use Rattle.branch_tree.specs.declared.graph.Node as code
use Rattle.branch_tree.specs.declared.tree.Tree as code_tree
use Rattle.branch_tree.specs.Graph.{seen_nodes}
use Rattle.branch_tree.specs.Tree.{seen_tree, seen_trees}
use Rattle.graph_rewriting.proofs.CountRows.{arm_next, arms_end}
use Rattle.region_rewrite.specs.Candidates.{AllIn, AllInBut, ArmTargetsIn, Grows, TargetsIn}

away : (k q : ℕ) → q ≢ k → is_at (nat_cmp k) q ≡ false
away k q differ = grind (arith, nat_tests)

below_is : (k q : ℕ) → q < k → is_gt (nat_cmp k q) ≡ true
below_is k q less = grind (arith, nat_tests)

not_true : (z : Bool) → (z ≡ true → ⊥) → z ≡ false
not_true true h = absurd (h refl)
not_true false h = refl

or_true : (z w : Bool) → w ≡ true → (if z then true else w) ≡ true
or_true true w h = refl
or_true false w h = h

-- One label more.

pub put_grows : (old new : BTreeSet ℕ) (k : ℕ) → Updates nat_cmp old new k true → Grows old new
put_grows old new k updates l has = elim (eqb_tells l k) [
  | inl e ↦ ap (contains nat_cmp new) e.1 ∙ updates.1
  | inr e ↦ updates.2 l (away k l e.1) ∙ has
]

pub put_there : (old new : BTreeSet ℕ) (k : ℕ) → Updates nat_cmp old new k true → contains nat_cmp new k ≡ true
put_there old new k updates = updates.1

pub grows_same : (set : BTreeSet ℕ) → Grows set set
grows_same set l has = has

-- The first label is taken out.
module _ (applies : Label → Bool) (old new : BTreeSet ℕ) (k : ℕ) (updates : Updates nat_cmp old new k false) (all : AllIn applies old) where
  pub all_but : AllInBut k applies new
  all_but l differ h = updates.2 l (away k l differ) ∙ all l h

  pub all_left : applies k ≡ false → AllIn applies new
  all_left none l h = elim (eqb_tells l k) [
    | inl e ↦ absurd (let here = ap applies (sym e.1) ∙ h in cc)
    | inr e ↦ all_but l e.1 h
  ]

  pub none_below : IsLowerBound nat_cmp old k → (l : Label) → l < k → applies l ≡ false
  none_below least l less = not_true (applies l) (λ h. let above = least l (all l h) in let more = below_is k l less in cc)

-- The set is empty.
none_in : (set : BTreeSet ℕ) (l : ℕ) → btree_set_len set ≡ 0 → contains nat_cmp set l ≡ false
none_in set l h = by set.keys h
  where
    by : (ks : List ℕ) → length ks ≡ 0 → contains nat_cmp (record { keys = ks }) l ≡ false
    by [] e = refl
    by (k ∷ ks) e = let no : ⊥ = omega (arith, e) in absurd no

pub none_applies : (applies : Label → Bool) (set : BTreeSet ℕ) → AllIn applies set → btree_set_len set ≡ 0 → (l : Label) → applies l ≡ false
none_applies applies set all none l =
    not_true (applies l) (λ h. let has = all l h in let not = none_in set l none in cc)

-- The targets of trees.

above_either : (a b n : ℕ) → a + b ≡ n → is_above n ≡ true → (is_above a ≡ false) → is_above b ≡ true
above_either zero b n e above none = ap is_above (omega (arith, e)) ∙ above
above_either (suc a) b n e above none = let no : ⊥ = cc in absurd no

pub targets_grow : (t : Tree) (old new : BTreeSet ℕ) → TargetsIn t old → Grows old new → TargetsIn t new
targets_grow t old new targets grows l above = grows l (targets l above)

pub arms_one_more : (arms : List code_tree.Tree) (i : ℕ) (arm : code_tree.Tree) (old new : BTreeSet ℕ) → i < length arms → arm ≡ get_or arms i arm →
    ArmTargetsIn (seen_trees (take i arms)) old → Grows old new → TargetsIn (seen_tree arm) new → ArmTargetsIn (seen_trees (take (i + 1) arms)) new
arms_one_more arms i arm old new within is before grows here l above =
    by (is_above (arms_leaves_to l (seen_trees (take i arms)))) refl
  where
    by : (z : Bool) → is_above (arms_leaves_to l (seen_trees (take i arms))) ≡ z → contains nat_cmp new l ≡ true
    by true e = grows l (before l e)
    by false e =
        here l
        (above_either (arms_leaves_to l (seen_trees (take i arms))) (leaves_to l (seen_tree arm)) (arms_leaves_to l (seen_trees (take (i + 1) arms)))
        (arm_next l arms i arm within is) above e)

pub arms_none : (arms : List code_tree.Tree) (set : BTreeSet ℕ) → ArmTargetsIn (seen_trees (take 0 arms)) set
arms_none [] set l above = let no : ⊥ = cc in absurd no
arms_none (arm ∷ arms) set l above = let no : ⊥ = cc in absurd no

pub arms_all : (arms : List code_tree.Tree) (i : ℕ) (set : BTreeSet ℕ) → length arms ≤ i → ArmTargetsIn (seen_trees (take i arms)) set → ArmTargetsIn (seen_trees arms) set
arms_all arms i set past = subst (λ ts. ArmTargetsIn (seen_trees ts) set) (arms_end arms i past)

-- where there is no node no leaf jumps
pub targets_absent : (nodes : List Node) (label : Label) (set : BTreeSet ℕ) → has_node nodes label ≡ false → TargetsIn (tree_in nodes label) set
targets_absent [] label set absent l above = let no : ⊥ = cc in absurd no
targets_absent (node ∷ nodes) label set absent l above = elim (eqb_tells node.label label) [
  | inl e ↦ absurd (let here = ap (λ z. if z then true else has_node nodes label) e.0 in cc)
  | inr e ↦
      targets_absent nodes label set (sym (ap (λ z. if z then true else has_node nodes label) e.0) ∙ absent) l
      (sym (ap (λ z. is_above (leaves_to l (if z then node.tree else tree_in nodes label))) e.0) ∙ above)
]

-- The labels of nodes.

abbrev pub LabelsIn : List code.Node → BTreeSet ℕ → Type 0
LabelsIn nodes set = (l : Label) → has_node (seen_nodes nodes) l ≡ true → contains nat_cmp set l ≡ true

has_next : (nodes : List code.Node) (i : ℕ) (d : code.Node) (l : Label) → i < length nodes → has_node (seen_nodes (take (suc i) nodes)) l ≡ true →
    has_node (seen_nodes (take i nodes)) l ≡ false → (get_or nodes i d).label ≡ l
has_next [] i d l within has none = let no : ⊥ = omega (arith, within) in absurd no
has_next (node ∷ nodes) zero d l within has none = elim (eqb_tells node.label l) [
  | inl e ↦ e.1
  | inr e ↦ absurd (let not = ap (λ z. if z then true else false) e.0 in cc)
]
has_next (node ∷ nodes) (suc i) d l within has none = elim (eqb_tells node.label l) [
  | inl e ↦ absurd (let here = ap (λ z. if z then true else has_node (seen_nodes (take i nodes)) l) e.0 in cc)
  | inr e ↦
      (let less : i < length nodes = omega (arith, within) in
      has_next nodes i d l less
      (sym (ap (λ z. if z then true else has_node (seen_nodes (take (suc i) nodes)) l) e.0) ∙ has)
      (sym (ap (λ z. if z then true else has_node (seen_nodes (take i nodes)) l) e.0) ∙ none))
]

pub labels_one_more : (nodes : List code.Node) (i : ℕ) (node : code.Node) (old new : BTreeSet ℕ) → i < length nodes → node ≡ get_or nodes i node →
    LabelsIn (take i nodes) old → Updates nat_cmp old new node.label true → LabelsIn (take (i + 1) nodes) new
labels_one_more nodes i node old new within is before updates l has =
    by (has_node (seen_nodes (take i nodes)) l) refl
  where
    by : (z : Bool) → has_node (seen_nodes (take i nodes)) l ≡ z → contains nat_cmp new l ≡ true
    by true e = put_grows old new node.label updates l (before l e)
    by false e =
        ap (contains nat_cmp new)
        (sym (has_next nodes i node l within (ap (λ n. has_node (seen_nodes (take n nodes)) l) (sym (add-one i)) ∙ has) e) ∙ ap (λ n. n.label) (sym is))
        ∙ updates.1

pub labels_none : (nodes : List code.Node) (set : BTreeSet ℕ) → LabelsIn (take 0 nodes) set
labels_none [] set l has = let no : ⊥ = cc in absurd no
labels_none (node ∷ nodes) set l has = let no : ⊥ = cc in absurd no

taken_all : (nodes : List code.Node) (i : ℕ) → length nodes ≤ i → take i nodes ≡ nodes
taken_all [] zero past = refl
taken_all [] (suc i) past = refl
taken_all (node ∷ nodes) zero past = let no : ⊥ = omega (arith, past) in absurd no
taken_all (node ∷ nodes) (suc i) past = let less : length nodes ≤ i = omega (arith, past) in ap (λ l. node ∷ l) (taken_all nodes i less)

pub labels_all : (nodes : List code.Node) (i : ℕ) (set : BTreeSet ℕ) → length nodes ≤ i → LabelsIn (take i nodes) set → LabelsIn nodes set
labels_all nodes i set past = subst (λ ns. LabelsIn ns set) (taken_all nodes i past)
