-- Graphs whose bodies are sound, and whose picks are.
use Rattle.std.specs.Prelude.{ℕ, Bool, List}
use Rattle.control_flow_theory.specs.language.Language.{Simple, Picker}
use Rattle.control_flow_theory.specs.semantics.Graph.{Trees}
use Rattle.control_flow_theory.specs.lowering.WellFormed.{tree_count}
use Rattle.control_flow_theory.specs.graph_rules.EachTree.{EachNode}
use Rattle.control_flow_theory.specs.graph_rules.Reduced.{Node}
use Rattle.round_trip.specs.fitting_statements.sound_bodies.Sound.{PickerIsSound, IsSound}

module _ (begins : Simple → Bool) (enough : (cell arms : ℕ) → Bool) where
  -- a choice among so many trees is so
  abbrev pub PickIsSound : Picker → Trees → Type 0
  PickIsSound picker trees = PickerIsSound begins enough picker (tree_count trees)

  -- the tree of each node is so
  abbrev pub NodesAreSound : List Node → Type 0
  NodesAreSound nodes = EachNode (IsSound begins enough) PickIsSound nodes
