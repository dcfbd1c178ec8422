-- The counter of a small program: of its two loops by TIMES one is counted, and its counter is
-- numbered 0.
use Rattle.std.specs.Prelude.{ℕ, Bool, true, if◌then◌else◌, ◌==◌, List, [], ◌∷◌}
use Rattle.control_flow_theory.specs.language.Language.{Range, Main}
use Rattle.control_flow_theory.specs.semantics.Graph.{Label}
use Rattle.control_flow_theory.specs.lowering.WellFormed.{AreJustReached}
use Rattle.control_flow_theory.specs.graph_rules.Families.{Added, Count}
use Rattle.control_flow_theory.specs.lowering.Examples.{plainly, counted}
use Rattle.control_flow_theory.specs.main_theorem.Chain.{NamesItsCells, lowered_graphs}

-- the nodes at 0, 13 and 21
abbrev pub counted_kept : Range → Label → Bool
counted_kept range label = if label == 0 then true else (if label == 13 then true else label == 21)

-- 4 is 0, and 0 is 4
abbrev pub counter_first : Range → ℕ → ℕ
counter_first range cell = if cell == 4 then 0 else (if cell == 0 then 4 else cell)

-- each range has one counter
abbrev pub one_counter : Range → List Added
one_counter range = Count ∷ []

-- these are just the nodes that are reached, and they name that counter alone
abbrev pub OneCounterIsNamed : Type 0
OneCounterIsNamed = AreJustReached plainly counted Main (counted_kept Main)
    × NamesItsCells (lowered_graphs plainly counted counted_kept counter_first one_counter) Main
