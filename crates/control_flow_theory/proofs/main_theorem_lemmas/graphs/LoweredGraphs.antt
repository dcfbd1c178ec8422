-- The graphs of a lowered program: their family is the lowered one, and their jumps are to their nodes.
use Rattle.std.proofs.Common.{◌≡◌, ℕ, ◌+◌, Bool, true, false, if◌then◌else◌, ◌==◌, List, [], ◌∷◌, refl, ap, sym, ◌∙◌, arith, inl, inr}
use Rattle.control_flow_theory.specs.language.Language.{Program, Range}
use Rattle.control_flow_theory.specs.semantics.Graph.{Label, Tree, tree, End, Pick, Jump, Return, Stop, Dead, Trees, no_more, more, Family}
use Rattle.control_flow_theory.specs.lowering.FlowFacts.{FlowFacts, IsSource}
use Rattle.control_flow_theory.specs.lowering.Lower as lower
use Rattle.control_flow_theory.specs.lowering.Lowered.{find, nodes_of, lowered, Within}
use Rattle.control_flow_theory.specs.lowering.Reached.{kept, kept_nodes}
use Rattle.control_flow_theory.specs.lowering.Renamed.{end_anew, trees_anew, tree_anew, numbered_anew}
use Rattle.control_flow_theory.specs.lowering.WellFormed.{IsLabelOf, IsWellEnd, AreWell, IsWellTree, AllAreWell, IsRangeOf, AreJustReached}
use Rattle.control_flow_theory.specs.graph_rules.Families.{Added}
use Rattle.control_flow_theory.specs.graph_rules.Reduced.{tree_in, Graphs, family_of}
use Rattle.control_flow_theory.specs.structuring.Dispatches.{LeavesEnd, LeavesTree, LeavesTrees, Numbered, labels_of, Rising}
use Rattle.control_flow_theory.specs.structuring.Closes.{AllNumbered, IsClosed}
use Rattle.control_flow_theory.specs.main_theorem.Chain.{graph_nodes, lowered_graphs}
use Rattle.control_flow_theory.proofs.lowering_lemmas.graphs.Pruned.{kept-nodes-found}
use Rattle.control_flow_theory.proofs.lowering_lemmas.graphs.KeptWell.{kept-well}
use Rattle.control_flow_theory.proofs.structuring_lemmas.gathering.Targets.{numbered-here, numbered-there}

-- families with the same nodes and entries are one
pub one-family : (g h : Family) → ((r : Range) → g.entry r ≡ h.entry r) → ((r : Range) (l : Label) → g.node r l ≡ h.node r l) → g ≡ h
one-family g h entries nodes = λ i. record { entry = λ r. entries r i; node = λ r l. nodes r l i }

tree-found : (number : ℕ → ℕ) (label : Label) (xs : List lower.Node) → tree_in (graph_nodes number xs) label ≡ tree_anew number (find label xs)
tree-found number label [] = refl
tree-found number label (x ∷ xs) =
    elim (x.key == label) as (λ b. (if b then tree_anew number x.tree else tree_in (graph_nodes number xs) label) ≡ tree_anew number (if b then x.tree else find label xs)) [
      | true ↦ refl
      | false ↦ tree-found number label xs
    ]

-- the labels of the nodes
label-numbered : (number : ℕ → ℕ) (label : Label) (xs : List lower.Node) → IsLabelOf xs label → Numbered (labels_of (graph_nodes number xs)) label
label-numbered number label [] h = absurd h
label-numbered number label (x ∷ xs) (inl e) = numbered-here x.key label (labels_of (graph_nodes number xs)) e
label-numbered number label (x ∷ xs) (inr h) = numbered-there x.key label (labels_of (graph_nodes number xs)) (label-numbered number label xs h)

nodes-rise : (number : ℕ → ℕ) (a b : ℕ) (xs : List lower.Node) → Within a b xs → Rising (graph_nodes number xs)
nodes-rise number a b [] h = tt
nodes-rise number a b (x ∷ []) h = tt
nodes-rise number a b (x ∷ y ∷ xs) h = (let e = h.1.0 in omega (arith, e), nodes-rise number (x.key + 1) b (y ∷ xs) h.1)

module _ (told : FlowFacts) (number : ℕ → ℕ) (labels : List lower.Node) where
  abbrev Is : Label → Type 0
  Is = Numbered (labels_of (graph_nodes number labels))

  mutual
    end-numbered : (end : End) → IsWellEnd told labels end → LeavesEnd Is (Unit {0}) (end_anew number end)
    end-numbered (Pick picker arms) w = arms-numbered arms w.1
    end-numbered (Jump to) w = label-numbered number to labels w
    end-numbered Return w = tt
    end-numbered Stop w = tt
    end-numbered Dead w = tt

    arms-numbered : (arms : Trees) → AreWell told labels arms → LeavesTrees Is (Unit {0}) (trees_anew number arms)
    arms-numbered no_more w = tt
    arms-numbered (more (tree body end) others) w = (end-numbered end w.1, arms-numbered others w.2)

  tree-numbered : (t : Tree) → IsWellTree told labels t → LeavesTree Is (Unit {0}) (tree_anew number t)
  tree-numbered (tree body end) w = end-numbered end w.1

  all-numbered : (xs : List lower.Node) → AllAreWell told labels xs → AllNumbered (labels_of (graph_nodes number labels)) (graph_nodes number xs)
  all-numbered [] w = tt
  all-numbered (x ∷ xs) w = (tree-numbered x.tree w.0, all-numbered xs w.1)

module _ (told : FlowFacts) (program : Program) (keep : Range → Label → Bool) (numbers : Range → ℕ → ℕ) (added : Range → List Added) where
  abbrev graphs : Graphs
  graphs = lowered_graphs told program keep numbers added

  pub graphs-family : numbered_anew numbers (kept keep (lowered told program)) ≡ family_of graphs
  graphs-family =
      one-family (numbered_anew numbers (kept keep (lowered told program))) (family_of graphs) (λ r. refl)
      (λ r l. ap (tree_anew (numbers r)) (kept-nodes-found told program keep r l) ∙ sym (tree-found (numbers r) l (kept_nodes (keep r) (nodes_of told program r))))

  pub graphs-closed : IsSource told program → (range : Range) → IsRangeOf program range → AreJustReached told program range (keep range) → IsClosed (graphs range)
  graphs-closed source range lt just =
      let w = kept-well told program range (keep range) just source lt in
      let xs = kept_nodes (keep range) (nodes_of told program range) in
      record {
        rising = nodes-rise (numbers range) 0 w.2.0 xs w.2.1;
        entry = label-numbered (numbers range) ((lowered told program).entry range) xs w.1;
        jumps = all-numbered told (numbers range) xs xs w.0;
      }
