-- A graph whose jumps are to its nodes stays one: after Exits, and after the dispatch.
use Rattle.std.proofs.Common.{◌≡◌, Bool, true, false, if◌then◌else◌, ◌==◌, List, [], ◌∷◌, refl, ap, sym, subst}
use Rattle.control_flow_theory.specs.semantics.Graph.{Label, Tree, tree, End, Pick, Jump, Return, Stop, Dead, Trees, no_more, more}
use Rattle.control_flow_theory.specs.graph_rules.Reduced.{Node, Graph, tree_in, count, with_tree}
use Rattle.control_flow_theory.specs.structuring.Dispatches.{LeavesEnd, LeavesTree, LeavesTrees, one_further, Numbered, labels_of, Rising, bare, some_returns, return_if}
use Rattle.control_flow_theory.specs.structuring.Targets.{is_below, inserted, end_targets, tree_targets, trees_targets, targets_of, RisingLabels, with_exits}
use Rattle.control_flow_theory.specs.structuring.Closes.{none_left_out, exits_graph, dispatch_graph, AllNumbered, IsClosed}
use Rattle.control_flow_theory.proofs.semantics_lemmas.Ranges.{eq-self}

-- Each target is such a label where each jump is to one.
module _ (P : Label → Type 0) where
  abbrev pub All : List Label → Type 0
  All [] = Unit {0}
  All (first ∷ others) = P first × All others

  pub inserted-all : (label : Label) (found : List Label) → P label → All found → All (inserted label found)
  inserted-all label [] p all = (p, tt)
  inserted-all label (first ∷ others) p all =
      let next = inserted-all label others p all.1 in
      elim (label == first) as (λ b. All (if b then first ∷ others else (if is_below label first then label ∷ first ∷ others else first ∷ inserted label others))) [
        | true ↦ all
        | false ↦ elim (is_below label first) as (λ b. All (if b then label ∷ first ∷ others else first ∷ inserted label others)) [ true ↦ (p, all) | false ↦ (all.0, next) ]
      ]

  module _ (label : Label) where
    mutual
      end-all : (end : End) (found : List Label) → LeavesEnd P (Unit {0}) end → All found → All (end_targets label end found)
      end-all (Pick picker arms) = λ found l all. trees-all arms found l all
      end-all (Jump to) = λ found l all. elim (to == label) as (λ b. All (if b then found else inserted to found)) [ true ↦ all | false ↦ inserted-all to found l all ]
      end-all Return = λ found l all. all
      end-all Stop = λ found l all. all
      end-all Dead = λ found l all. all

      pub tree-all : (t : Tree) (found : List Label) → LeavesTree P (Unit {0}) t → All found → All (tree_targets label t found)
      tree-all (tree body end) = λ found l all. end-all end found l all

      trees-all : (arms : Trees) (found : List Label) → LeavesTrees P (Unit {0}) arms → All found → All (trees_targets label arms found)
      trees-all no_more = λ found l all. all
      trees-all (more first others) = λ found l all. trees-all others (tree_targets label first found) l.1 (tree-all first found l.0 all)

  bare-leaves : (targets : List Label) (returns : Bool) → All targets → LeavesTrees P (Unit {0}) (bare targets returns)
  bare-leaves [] false all = tt
  bare-leaves [] true all = (tt, tt)
  bare-leaves (first ∷ others) returns all = (all.0, bare-leaves others returns all.1)

pub with-labels : (label : Label) (t : Tree) (nodes : List Node) → labels_of (with_tree label t nodes) ≡ labels_of nodes
with-labels label t [] = refl
with-labels label t (node ∷ nodes) =
    let next = with-labels label t nodes in
    elim (node.label == label) as (λ b. labels_of (if b then (let first : Node = record { label = node.label; tree = t } in first ∷ with_tree label t nodes) else node ∷ with_tree label t nodes) ≡ node.label ∷ labels_of nodes) [
      | true ↦ ap (λ l. node.label ∷ l) next
      | false ↦ ap (λ l. node.label ∷ l) next
    ]

-- nodes rise by their labels alone
pub by-labels : (nodes : List Node) → Rising nodes → RisingLabels (labels_of nodes)
by-labels [] r = tt
by-labels (node ∷ []) r = tt
by-labels (node ∷ next ∷ nodes) r = (r.0, by-labels (next ∷ nodes) r.1)

pub from-labels : (nodes : List Node) → RisingLabels (labels_of nodes) → Rising nodes
from-labels [] r = tt
from-labels (node ∷ []) r = tt
from-labels (node ∷ next ∷ nodes) r = (r.0, from-labels (next ∷ nodes) r.1)

pub with-numbered : (labels : List Label) (label : Label) (t : Tree) (nodes : List Node) → LeavesTree (Numbered labels) (Unit {0}) t → AllNumbered labels nodes → AllNumbered labels (with_tree label t nodes)
with-numbered labels label t [] l all = tt
with-numbered labels label t (node ∷ nodes) l all =
    let next = with-numbered labels label t nodes l all.1 in
    elim (node.label == label) as (λ b. AllNumbered labels (if b then (let first : Node = record { label = node.label; tree = t } in first ∷ with_tree label t nodes) else node ∷ with_tree label t nodes)) [
      | true ↦ (l, next)
      | false ↦ (all.0, next)
    ]

-- the tree at a node's label
pub tree-numbered : (labels : List Label) (label : Label) (nodes : List Node) → AllNumbered labels nodes → LeavesTree (Numbered labels) (Unit {0}) (tree_in nodes label)
tree-numbered labels label [] all = tt
tree-numbered labels label (node ∷ nodes) all =
    let next = tree-numbered labels label nodes all.1 in
    elim (node.label == label) as (λ b. LeavesTree (Numbered labels) (Unit {0}) (if b then node.tree else tree_in nodes label)) [ true ↦ all.0 | false ↦ next ]

pub exits-closed : (graph : Graph) (label : Label) → IsClosed graph → IsClosed (exits_graph label graph)
exits-closed graph label closed =
    let old = tree_in graph.nodes label in
    let new = with_exits none_left_out (count graph.added) label old in
    let same = with-labels label new graph.nodes in
    let labels = labels_of graph.nodes in
    record {
      rising = from-labels (with_tree label new graph.nodes) (subst RisingLabels (sym same) (by-labels graph.nodes closed.rising));
      entry = subst (λ l. Numbered l graph.entry) (sym same) closed.entry;
      jumps = subst (λ l. AllNumbered l (with_tree label new graph.nodes)) (sym same)
          (with-numbered labels label new graph.nodes
          (bare-leaves (Numbered labels) (targets_of label old) _ (tree-all (Numbered labels) label old [] (tree-numbered labels label graph.nodes closed.jumps) tt)) closed.jumps);
    }

-- the one node of a dispatch doesn't jump
pub return-leaves : (P : Label → Type 0) (b : Bool) → LeavesEnd P (Unit {0}) (return_if b)
return-leaves P true = tt
return-leaves P false = tt

pub dispatch-closed : (graph : Graph) → IsClosed (dispatch_graph graph)
dispatch-closed graph = record {
  rising = tt;
  entry = (0, ap (λ b. if b then 1 else one_further 0) (eq-self graph.entry));
  jumps = (return-leaves (Numbered (graph.entry ∷ [])) (some_returns graph.nodes), tt);
}
