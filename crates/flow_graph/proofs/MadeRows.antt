-- The nodes that are made, in the order in which their labels are come to, and sorted.
use Rattle.std.proofs.Common.{◌≡◌, ℕ, zero, suc, ◌+◌, ◌≤◌, ◌<◌, List, [], ◌∷◌, ◌++◌, get_or, length, map, take, Some, slice_get, refl, ap, ap₂, sym, ◌∙◌, subst, arith}
use Rattle.std.specs.Prelude.{All}
use Rattle.std.specs.List.Sorted.{IsNonDecreasingBy, IsPermutation}
use Rattle.std.proofs.lemmas.List.{get_or-map, length-map, map-append, take_all, take_more}
use Rattle.std.proofs.lemmas.List.Elements.{All-head, All-nil, All-push, All-same, All-tail}
use Rattle.std.proofs.lemmas.List.Sorted.{All-permutation, IsNonDecreasingBy-from_default, IsPermutation-map}
use Rattle.std.proofs.lemmas.Option.{slice_get-get_or}
use Rattle.cob_tree.specs.declared.program.Range as code
use Rattle.branch_tree.specs.declared.graph.Node.{Node}
use Rattle.statement_lowering.specs.declared.context.LoweringContext.{LoweringContext}
use Rattle.statement_lowering.specs.declared.continuations.continuation.Continuation.{Continuation}
use Rattle.flow_graph.specs.Lowered.{AddsNode, AreMade, AreNodesAt, IsMade}

abbrev pub label_of : Node → ℕ
label_of node = node.label

front_kept : (before later : List ℕ) → ((at other : ℕ) → slice_get before at ≡ Some other → slice_get later at ≡ Some other) → (n : ℕ) → n ≤ length before → take n later ≡ take n before
front_kept before later kept zero le = refl
front_kept [] later kept (suc n) le = absurd (omega (arith, le))
front_kept (x ∷ xs) [] kept (suc n) le = absurd (let there : slice_get [] 0 ≡ Some x = kept 0 x refl in let k : ⊥ = cc in k)
front_kept (x ∷ xs) (y ∷ ys) kept (suc n) le =
    let first : Some y ≡ Some x = kept 0 x refl in
    let same : y ≡ x = cc in
    ap₂ (λ z zs. z ∷ zs) same (front_kept xs ys (λ at other is. kept (suc at) other is) n (omega (arith, le)))

pub one_more : (before later : List ℕ) → ((at other : ℕ) → slice_get before at ≡ Some other → slice_get later at ≡ Some other) → (at here : ℕ) → at < length before → slice_get before at ≡ Some here →
    take (at + 1) later ≡ take at before ++ here ∷ []
one_more before later kept at here lt is =
    let both : Some (get_or before at here) ≡ Some here = sym (slice_get-get_or before at here lt) ∙ is in
    let same : get_or before at here ≡ here = cc in
    front_kept before later kept (at + 1) (omega (arith, lt)) ∙ take_more before at here lt ∙ ap (λ (h : ℕ). take at before ++ h ∷ []) same

pub labels_up : (nodes : List Node) → IsNonDecreasingBy label_of nodes → IsNonDecreasingBy (λ (n : ℕ). n) (map label_of nodes)
labels_up [] up = λ i j d le lt. absurd (omega (arith, lt))
labels_up (one ∷ more) up =
    let nodes : List Node = one ∷ more in
    IsNonDecreasingBy-from_default (λ (n : ℕ). n) (map label_of nodes) 0 (λ i j le lt.
    let near : j < length nodes = omega (arith, lt, length-map nodes label_of) in
    let ordered = up i j one le near in
    omega (arith, ordered, get_or-map label_of nodes i one 0 (omega (arith, le, near)), get_or-map label_of nodes j one 0 near))

module _ (telling : LoweringContext) (spots : List Continuation) (range : code.Range) where
  abbrev Made : List ℕ → List Node → Type 0
  Made labels nodes = AreMade telling spots range labels nodes

  pub made_none : (places : List ℕ) (nodes : List Node) → nodes ≡ [] → Made (take 0 places) nodes
  made_none places nodes none = record {
    order = ap (map label_of) none;
    trees = All-same (IsMade telling spots range) nodes [] none (All-nil (IsMade telling spots range));
  }

  pub made_more : (before later : List ℕ) → ((at other : ℕ) → slice_get before at ≡ Some other → slice_get later at ≡ Some other) → (at here : ℕ) → at < length before → slice_get before at ≡ Some here →
      (nodes new : List Node) → AddsNode telling spots range here nodes new → Made (take at before) nodes → Made (take (at + 1) later) new
  made_more before later kept at here lt is nodes new adds made =
      let node : Node = record { label = here; tree = adds.0 } in
      record {
        order = ap (map label_of) adds.2 ∙ map-append label_of nodes (node ∷ []) ∙ ap (λ labels. labels ++ here ∷ []) made.order ∙ sym (one_more before later kept at here lt is);
        trees = All-same (IsMade telling spots range) new (nodes ++ node ∷ []) adds.2 (All-push (IsMade telling spots range) nodes node made.trees adds.1);
      }

  pub made_all : (places : List ℕ) (at : ℕ) (nodes : List Node) → length places ≤ at → Made (take at places) nodes → Made places nodes
  made_all places at nodes le made = record { order = made.order ∙ take_all at places le; trees = made.trees }

  pub made_moved : (places : List ℕ) (nodes new : List Node) → IsPermutation nodes new → Made places nodes → IsPermutation places (map label_of new)
  made_moved places nodes new moved made = subst (λ labels. IsPermutation labels (map label_of new)) made.order (IsPermutation-map label_of nodes new moved)

  pub made_sorted : (places : List ℕ) (nodes new : List Node) → IsPermutation nodes new → Made places nodes → All (IsMade telling spots range) new
  made_sorted places nodes new moved made = All-permutation (IsMade telling spots range) nodes new moved made.trees

  pub are_nodes : (nodes : List Node) → All (IsMade telling spots range) nodes → AreNodesAt telling spots range (map label_of nodes) nodes
  are_nodes [] made program table = refl
  are_nodes (one ∷ more) made program table =
      ap₂ (λ n ns. n ∷ ns) (ap (λ t. record { label = one.label; tree = t }) (All-head (IsMade telling spots range) one more made program table))
      (are_nodes more (All-tail (IsMade telling spots range) one more made) program table)
