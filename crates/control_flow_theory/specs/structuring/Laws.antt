-- What holds of the rules that bring a number in a cell, and of all rules in their order.
use Rattle.std.specs.Prelude.{ℕ, ◌≡◌, Bool, true, List, ◌*◌, [], ◌∷◌, None}
use Rattle.control_flow_theory.specs.language.Language.{Test, Picker, Stmts, Range, Main}
use Rattle.control_flow_theory.specs.semantics.Doing.{Acting}
use Rattle.control_flow_theory.specs.semantics.Graph.{Label, Tree, End, Jump, Return, Family, Pick, Stop, Dead, end_of}
use Rattle.control_flow_theory.specs.graph_rules.Families.{Kinds, IsFamily, IsSound}
use Rattle.control_flow_theory.specs.structuring.Gathers.{Gathered}
use Rattle.control_flow_theory.specs.graph_rules.Reduced.{Node, Graphs, family_of, kinds_of, with_graph, Graph, shaped, size}
use Rattle.control_flow_theory.specs.structuring.Dispatches.{Numbered, labels_of, ClosedByFlag, Exited, Dispatched}
use Rattle.control_flow_theory.specs.structuring.Targets.{targets_of, RisingLabels, ClosedByExits}
use Rattle.control_flow_theory.specs.structuring.Closes.{exits_graph, dispatch_graph, IsClosed, any_step, reduced_by_all, closed_graph, all_closed}
use Rattle.control_flow_theory.specs.structuring.Keeps.{Gains, Kept}
use Rattle.control_flow_theory.specs.graph_rules.Walked.{In}
use Rattle.control_flow_theory.specs.graph_rules.Laws.{AsBefore, DoesTheSame}
use Rattle.control_flow_theory.specs.runs.Tied.{Tied}
use Rattle.control_flow_theory.specs.runs.Machine.{meaning}
use Rattle.control_flow_theory.specs.semantics.Walk.{main_machine}

-- what follows a loop with a flag
pub data Behind : Type 0 where
  Goes : (to : Label) → Behind
  Returns : Behind

-- the end that goes there
abbrev pub end_behind : Behind → End
end_behind (Goes to) = Jump to
end_behind Returns = Return

module _ (Memory Left : Type 0) where
  -- a set of nodes may become one loop, whose turns walk their trees and leave a number in a cell
  abbrev pub GatheringKeeps : Type 0
  GatheringKeeps =
      (acting : Acting Memory) (left : Memory → Left) (kinds more : Kinds) (g h : Family)
      (order : List Range) (range : Range) (cell : ℕ) → Gains kinds more range cell →
      IsFamily kinds g order → IsSound acting left kinds g order →
      (reached : Range → Label → Bool) (inside : ℕ → Label → Bool) (test : Test) (body : Stmts)
      (out : End) →
      Gathered (λ r l. reached r l ≡ true) (λ n l. inside n l ≡ true)
      range cell test body out g h → IsFamily more h order →
      Kept acting left kinds more g h order

  -- a node may become a loop with a flag
  abbrev pub FlagKeeps : Type 0
  FlagKeeps =
      (acting : Acting Memory) (left : Memory → Left) (kinds more : Kinds) (g h : Family)
      (order : List Range) (range : Range) (flag : ℕ) → Gains kinds more range flag →
      IsFamily kinds g order → IsSound acting left kinds g order →
      (left_out : Picker → ℕ → Bool) (label : Label) (behind : Behind) →
      ClosedByFlag left_out range label flag (end_behind behind) g h →
      Kept acting left kinds more g h order

  -- a node may become a loop with several exits
  abbrev pub ExitsKeep : Type 0
  ExitsKeep =
      (acting : Acting Memory) (left : Memory → Left) (kinds more : Kinds) (g h : Family)
      (order : List Range) (range : Range) (exit : ℕ) → Gains kinds more range exit →
      IsFamily kinds g order → IsSound acting left kinds g order →
      (left_out : Picker → ℕ → Bool) (label : Label) (targets : List Label) (returns : Bool) →
      Exited left_out range label exit targets returns g h →
      Kept acting left kinds more g h order

  -- the same, with the targets of the node's own leaves
  abbrev pub NodeExitsKeep : Type 0
  NodeExitsKeep =
      (acting : Acting Memory) (left : Memory → Left) (kinds more : Kinds) (g h : Family)
      (order : List Range) (range : Range) (exit : ℕ) → Gains kinds more range exit →
      IsFamily kinds g order → IsSound acting left kinds g order →
      (left_out : Picker → ℕ → Bool) (label : Label) → ClosedByExits left_out range label exit g h →
      Kept acting left kinds more g h order

  -- all nodes of a range may become one dispatch
  abbrev pub DispatchKeeps : Type 0
  DispatchKeeps =
      (acting : Acting Memory) (left : Memory → Left) (kinds more : Kinds) (g h : Family)
      (order : List Range) (range : Range) (state : ℕ) → Gains kinds more range state →
      IsFamily kinds g order → IsSound acting left kinds g order →
      (left_out : Picker → ℕ → Bool) (nodes : List Node) →
      Dispatched left_out range state nodes g h → Kept acting left kinds more g h order

  -- Both as functions of a graph.

  -- Exits on a node keeps what the walks of its graphs do
  abbrev pub ExitsGraphKeeps : Type 0
  ExitsGraphKeeps =
      (acting : Acting Memory) (left : Memory → Left) (graphs : Graphs) (order : List Range) →
      IsFamily (kinds_of graphs) (family_of graphs) order →
      IsSound acting left (kinds_of graphs) (family_of graphs) order →
      (range : Range) (label : Label) → Numbered (labels_of (graphs range).nodes) label →
      Kept acting left (kinds_of graphs)
      (kinds_of (with_graph graphs range (exits_graph label (graphs range)))) (family_of graphs)
      (family_of (with_graph graphs range (exits_graph label (graphs range)))) order

  -- the dispatch keeps what the walks of its graphs do
  abbrev pub DispatchGraphKeeps : Type 0
  DispatchGraphKeeps =
      (acting : Acting Memory) (left : Memory → Left) (graphs : Graphs) (order : List Range) →
      IsFamily (kinds_of graphs) (family_of graphs) order →
      IsSound acting left (kinds_of graphs) (family_of graphs) order →
      (range : Range) → IsClosed (graphs range) →
      Kept acting left (kinds_of graphs)
      (kinds_of (with_graph graphs range (dispatch_graph (graphs range)))) (family_of graphs)
      (family_of (with_graph graphs range (dispatch_graph (graphs range)))) order

-- the targets of a node are in label order
abbrev pub TargetsRise : Type 0
TargetsRise = (label : Label) (t : Tree) → RisingLabels (targets_of label t)

-- the closed family walks as the lowered one, and its jumps are to its nodes
abbrev pub ClosedKeeps : Type 0 → Type 0 → Type 0
ClosedKeeps Memory Left =
    (acting : Acting Memory) (left : Memory → Left) (graphs : Graphs) (order : List Range) →
    IsFamily (kinds_of graphs) (family_of graphs) order →
    IsSound acting left (kinds_of graphs) (family_of graphs) order →
    ((range : Range) → In range order → IsClosed (graphs range)) →
    AsBefore acting left graphs (all_closed order graphs) order
    × ((range : Range) → In range order → IsClosed (all_closed order graphs range))

-- an end after which a procedure ends
abbrev pub PlainEnd : End → Type 0
PlainEnd (Pick picker arms) = ⊥
PlainEnd (Jump to) = ⊥
PlainEnd Return = Unit {0}
PlainEnd Stop = Unit {0}
PlainEnd Dead = Unit {0}

-- all rules in their order leave one node, the entry's, which ends in a return, a stop or nowhere
abbrev pub ClosedEnds : Type 0
ClosedEnds = (graph : Graph) → IsClosed graph →
    (t : Tree) ×
    ((closed_graph graph).nodes ≡ record { label = (closed_graph graph).entry; tree = t } ∷ [])
    × PlainEnd (end_of t)

-- a dispatch is made only where no other rule applies to what is left
abbrev pub RulesEnd : Type 0
RulesEnd = (graph : Graph) → any_step (reduced_by_all (3 * size graph.nodes) (shaped graph)) ≡ None

module _ (Memory Left : Type 0) where
  -- the walks of whole programs are tied where a rule brought a cell
  abbrev pub KeptMainsAreTied : Type 0
  KeptMainsAreTied =
      (acting : Acting Memory) (left : Memory → Left) (kinds more : Kinds) (g h : Family)
      (order : List Range) → Kept acting left kinds more g h order → In Main order →
      Tied (meaning (main_machine acting left g)) (meaning (main_machine acting left h))

  -- the walks of whole programs are tied where a rule brought no cell, or one that never changes
  abbrev pub SameMainsAreTied : Type 0
  SameMainsAreTied =
      (acting : Acting Memory) (left : Memory → Left) (kinds more : Kinds) (g h : Family)
      (order : List Range) → IsFamily kinds g order → IsFamily more h order →
      DoesTheSame Memory Left acting left more g h order → In Main order →
      Tied (meaning (main_machine acting left g)) (meaning (main_machine acting left h))
