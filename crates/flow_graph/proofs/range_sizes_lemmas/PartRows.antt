-- What is counted of a tree, and the labels that it adds.
use Rattle.std.proofs.Common.{◌≡◌, ℕ, zero, suc, ◌+◌, ◌-◌, ◌^◌, ◌≤◌, ◌⊎◌, inl, inr, min, List, [], ◌∷◌, take, length, Some, slice_get, refl, ap, sym, ◌∙◌, subst, arith}
use Rattle.cob_tree.specs.declared.program.Program.{Program}
use Rattle.cob_tree.specs.declared.program.Range as code
use Rattle.control_flow_theory.specs.semantics.Graph as graph
use Rattle.flow_graph.specs.Counts.{IsSizeAt}
use Rattle.flow_graph.specs.Jumps.{AddsJumps, AddsThose, JumpBelow}
use Rattle.flow_graph.specs.Reaching.{AddsNodeJumps, NodeJumpsBelow}
use Rattle.flow_graph.proofs.JumpRows.{adds_same}
use Rattle.pending_returns.specs.levels.Reach.{Adds, AllPlaces, Holds}
use Rattle.flow_graph.specs.graph_sizes.Sizing.{tree_size}
use Rattle.statement_lowering.specs.declared.context.LoweringContext.{LoweringContext}
use Rattle.flow_graph.specs.label_trees.Node.{IsTableOf, node_in}
use Rattle.statement_lowering.specs.declared.continuations.continuation.Continuation.{Continuation}
use Rattle.flow_graph.specs.range_sizes.Parts.{IsPartIn, IsPartOf}

-- the labels that are added to an empty list
pub part-of : (t : graph.Tree) (count : ℕ) (old jumps : List ℕ) → old ≡ [] →
    AddsJumps (graph.end_of t) old jumps → count ≡ min (tree_size t) (2 ^ 64 - 1) →
    IsPartOf t count jumps
part-of t count old jumps none adds size = record {
  size = size;
  sound = λ label holds. elim (adds.only label holds) [
    | inl before ↦ absurd (
        let no : slice_get [] before.0 ≡ Some label =
        ap (λ (l : List ℕ). slice_get l before.0) (sym none) ∙ before.1 in
        let k : ⊥ = cc in k
        )
    | inr jumps ↦ jumps
  ];
  all = adds.added;
}

pub part-adds : (telling : LoweringContext) (spots : List Continuation) (range : code.Range) (label count : ℕ)
    (jumps old new : List ℕ) → IsPartIn telling spots range label count jumps →
    AddsThose (Holds jumps) old new → AddsNodeJumps telling spots range label old new
part-adds telling spots range label count jumps old new is adds = λ program table.
    let one = is program table in
    adds_same (Holds jumps) _ old new one.sound one.all adds

pub part-below : (telling : LoweringContext) (spots : List Continuation) (range : code.Range) (label end count : ℕ)
    (jumps : List ℕ) → IsPartIn telling spots range label count jumps →
    NodeJumpsBelow telling spots range label end → AllPlaces end jumps
part-below telling spots range label end count jumps is below = λ to holds.
    below.2 to ((is below.0 below.1).sound to holds)

pub part-size : (telling : LoweringContext) (spots : List Continuation) (range : code.Range) (label count : ℕ)
    (jumps : List ℕ) → IsPartIn telling spots range label count jumps →
    IsSizeAt telling spots range label count
part-size telling spots range label count jumps is = λ program table. (is program table).size

-- the tree at a label jumps below, where the node there does
pub tree-below : (telling : LoweringContext) (spots : List Continuation) (range : code.Range) (label end room : ℕ)
    (t : graph.Tree) → NodeJumpsBelow telling spots range label end → room ≡ end →
    ((program : Program) → IsTableOf telling spots program →
    t ≡ node_in telling program range label) → JumpBelow room (graph.end_of t)
tree-below telling spots range label end room t below size is =
    subst (λ (n : ℕ). JumpBelow n (graph.end_of t)) (sym size)
    (subst (λ x. JumpBelow end (graph.end_of x)) (sym (is below.0 below.1)) below.2)

-- labels that are added one after the other

take-holds : (labels : List ℕ) (index label : ℕ) → Holds (take index labels) label →
    Holds labels label
take-holds [] zero label h = h
take-holds [] (suc index) label h = h
take-holds (first ∷ labels) zero label h = absurd (
    let no : slice_get [] h.0 ≡ Some label = h.1 in let k : ⊥ = cc in k
    )
take-holds (first ∷ labels) (suc index) label (zero, is) = (0, is)
take-holds (first ∷ labels) (suc index) label (suc at, is) =
    let later = take-holds labels index label (at, is) in (suc later.0, later.1)

next-holds : (labels : List ℕ) (index here label : ℕ) → slice_get labels index ≡ Some here →
    Holds (take (suc index) labels) label → Holds (take index labels) label ⊎ (label ≡ here)
next-holds [] index here label is h = absurd (let k : ⊥ = cc in k)
next-holds (first ∷ labels) zero here label is (zero, at) = inr (let k : label ≡ here = cc in k)
next-holds (first ∷ labels) zero here label is (suc n, at) = absurd (let k : ⊥ = cc in k)
next-holds (first ∷ labels) (suc index) here label is (zero, at) = inl (0, at)
next-holds (first ∷ labels) (suc index) here label is (suc n, at) =
    elim (next-holds labels index here label is (n, at)) [
      | inl before ↦ inl (suc before.0, before.1)
      | inr same ↦ inr same
    ]

-- the first of them are among the labels, and nothing else is new
pub record SomeAdded (labels : List ℕ) (index : ℕ) (old now : List ℕ) : Type 0 where
  pub added : (label : ℕ) → Holds (take index labels) label → Holds now label
  pub kept : (at other : ℕ) → slice_get old at ≡ Some other → slice_get now at ≡ Some other
  pub only : (other : ℕ) → Holds now other → Holds old other ⊎ Holds labels other

pub added-none : (labels old : List ℕ) → SomeAdded labels 0 old old
added-none labels old = record {
  added = λ label h. absurd (none labels label h);
  kept = λ at other is. is;
  only = λ other h. inl h;
}
  where
    none : (labels : List ℕ) (label : ℕ) → Holds (take 0 labels) label → ⊥
    none [] label h = let no : slice_get [] h.0 ≡ Some label = h.1 in let k : ⊥ = cc in k
    none (first ∷ labels) label h =
        let no : slice_get [] h.0 ≡ Some label = h.1 in let k : ⊥ = cc in k

by-one : (index : ℕ) → index + 1 ≡ suc index
by-one index = omega arith

pub added-more : (labels : List ℕ) (index here : ℕ) (old now new : List ℕ) →
    slice_get labels index ≡ Some here → SomeAdded labels index old now → Adds now new here →
    SomeAdded labels (index + 1) old new
added-more labels index here old now new is so adds = record {
  added = λ label h. elim (next-holds labels index here label is
      (subst (λ (n : ℕ). Holds (take n labels) label) (by-one index) h)) [
        | inl before ↦ let was = so.added label before in (was.0, adds.kept was.0 label was.1)
        | inr same ↦ subst (Holds new) (sym same) adds.added
      ];
  kept = λ at other there. adds.kept at other (so.kept at other there);
  only = λ other h. elim (adds.only other h) [
    | inl before ↦ so.only other before
    | inr same ↦ inr (index, is ∙ ap (λ (n : ℕ). Some n) (sym same))
  ];
}

pub added-all : (labels : List ℕ) (index : ℕ) (old now : List ℕ) → length labels ≤ index →
    SomeAdded labels index old now → AddsThose (Holds labels) old now
added-all labels index old now le so = record {
  added = λ label h. so.added label (subst (λ l. Holds l label) (sym (whole labels index le)) h);
  kept = so.kept;
  only = so.only;
}
  where
    whole : (labels : List ℕ) (index : ℕ) → length labels ≤ index → take index labels ≡ labels
    whole [] zero le = refl
    whole [] (suc index) le = refl
    whole (first ∷ labels) zero le = let no : ⊥ = omega (arith, le) in absurd no
    whole (first ∷ labels) (suc index) le =
        ap (λ l. first ∷ l) (whole labels index (omega (arith, le)))
