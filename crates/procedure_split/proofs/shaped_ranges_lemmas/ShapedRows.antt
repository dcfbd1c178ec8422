-- What the graphs of ranges are shaped to, one after the other.
use Rattle.std.proofs.Common.{◌≡◌, List, [], ◌∷◌, ◌++◌, reverse, map, length, Some, Ok, Err, slice_get, refl, ap, sym, ◌∙◌, subst}
use Rattle.std.proofs.lemmas.List.{append-nil, append_assoc, reverse-append, reverse-reverse}
use Rattle.cob_tree.specs.declared.fault.SplitFault.{SplitFault}
use Rattle.cob_tree.specs.declared.fault.SplitFault.TheVariants as faults
use Rattle.branch_tree.specs.Graph.{seen_added, seen_graph}
use Rattle.branch_tree.specs.declared.graph.Graph.{Graph}
use Rattle.control_flow_theory.specs.structuring.Closes.{closed_graph}
use Rattle.region_rewrite.specs.Shaping.{Shapes}
use Rattle.region_rewrite.specs.declared.shaping.Shaped.{Shaped}
use Rattle.procedure_split.specs.declared.shaped_ranges.shaping.Closed.{Closed}
use Rattle.procedure_split.specs.shaped_ranges.Shaping.{AllReady, AllShaped, IsClosedFrom, IsReady, IsShapedTo, IsTooDeep}

-- those that aren't left were shaped to these
pub record SoFar (graphs left : List Graph) (made : List Closed) : Type 0 where
  pub done : List Graph
  pub all : graphs ≡ done ++ reverse left
  pub shaped : AllShaped done made

pub begun : (graphs left : List Graph) → left ≡ reverse graphs → SoFar graphs left []
begun graphs left is =
    record { done = []; all = sym (ap reverse is ∙ reverse-reverse graphs); shaped = tt }

ready-behind : (done left : List Graph) → AllReady (done ++ left) → AllReady left
ready-behind [] left h = h
ready-behind (graph ∷ done) left h = ready-behind done left h.1

more-shaped : (done : List Graph) (made : List Closed) (graph : Graph) (closed : Closed) →
    AllShaped done made → IsShapedTo (seen_graph graph) closed →
    AllShaped (done ++ graph ∷ []) (made ++ closed ∷ [])
more-shaped [] [] graph closed h is = (is, tt)
more-shaped [] (one ∷ made) graph closed h is = absurd h
more-shaped (first ∷ done) [] graph closed h is = absurd h
more-shaped (first ∷ done) (one ∷ made) graph closed h is =
    (h.0, more-shaped done made graph closed h.1 is)

-- the last one of what is left is the next of all
next-of : (graphs old new : List Graph) (graph : Graph) (made : List Closed)
    (so : SoFar graphs old made) → old ≡ new ++ graph ∷ [] →
    graphs ≡ so.done ++ graph ∷ reverse new
next-of graphs old new graph made so is =
    so.all ∙ ap (λ l. so.done ++ reverse l) is
    ∙ ap (λ l. so.done ++ l) (reverse-append new (graph ∷ []))

pub ready-next : (graphs old new : List Graph) (graph : Graph) (made : List Closed)
    (so : SoFar graphs old made) → old ≡ new ++ graph ∷ [] → AllReady graphs → IsReady graph
ready-next graphs old new graph made so is ready =
    (ready-behind so.done (graph ∷ reverse new)
    (subst AllReady (next-of graphs old new graph made so is) ready)).0

-- a body and its end make the tree
pub shaped-to : (graph : Graph) (shaped : Shaped) (closed : Closed) →
    Shapes (Ok shaped) (closed_graph (seen_graph graph)) → IsClosedFrom shaped closed →
    IsShapedTo (seen_graph graph) closed
shaped-to graph shaped closed shapes from = record {
  tree = shapes.0 ∙ sym from.tree;
  added = shapes.1 ∙ ap (λ added. map seen_added added.items) (sym from.added);
  within = shapes.2;
}

pub so-far-more : (graphs old new : List Graph) (graph : Graph) (made : List Closed)
    (so : SoFar graphs old made) → old ≡ new ++ graph ∷ [] → (closed : Closed) →
    IsShapedTo (seen_graph graph) closed → (more : List Closed) → more ≡ made ++ closed ∷ [] →
    SoFar graphs new more
so-far-more graphs old new graph made so is closed shaped more adds = record {
  done = so.done ++ graph ∷ [];
  all = next-of graphs old new graph made so is ∙ sym (append_assoc so.done (graph ∷ []) (reverse new));
  shaped = subst (λ m. AllShaped (so.done ++ graph ∷ []) m) (sym adds)
      (more-shaped so.done made graph closed so.shaped shaped);
}

pub all-done : (graphs left : List Graph) (made : List Closed) → SoFar graphs left made →
    left ≡ [] → AllShaped graphs made
all-done graphs left made so is =
    subst (λ g. AllShaped g made) (sym (so.all ∙ ap (λ l. so.done ++ reverse l) is
    ∙ append-nil so.done)) so.shaped

at-length : (done : List Graph) (graph : Graph) (behind : List Graph) →
    slice_get (done ++ graph ∷ behind) (length done) ≡ Some graph
at-length [] graph behind = refl
at-length (first ∷ done) graph behind = at-length done graph behind

pub too-deep : (graphs old new : List Graph) (graph : Graph) (made : List Closed)
    (so : SoFar graphs old made) → old ≡ new ++ graph ∷ [] → (fault : SplitFault) →
    Shapes (Err fault) (closed_graph (seen_graph graph)) → IsTooDeep graphs fault
too-deep graphs old new graph made so is (faults.Limit limit) shapes = (
  record {
    at = length so.done;
    graph = graph;
    there = ap (λ l. slice_get l (length so.done)) (next-of graphs old new graph made so is)
        ∙ at-length so.done graph (reverse new);
    deep = shapes.0;
  },
  shapes.1,
)
too-deep graphs old new graph made so is faults.NoMemory shapes = tt
