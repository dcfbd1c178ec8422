-- What may be written of a source may be written of its lowered graphs.
use Rattle.std.specs.Prelude.{ℕ, ◌≡◌, true, List, ◌∷◌, Some}
use Rattle.control_flow_theory.specs.language.Language.{Program, Range, Main}
use Rattle.control_flow_theory.specs.lowering.FlowFacts.{IsSource}
use Rattle.control_flow_theory.specs.lowering.WellFormed.{AreJustReached}
use Rattle.control_flow_theory.specs.graph_rules.Walked.{In}
use Rattle.control_flow_theory.specs.graph_rules.Families.{Count}
use Rattle.control_flow_theory.specs.graph_rules.Reduced.{Graphs, kind_at}
use Rattle.control_flow_theory.specs.rendering.Rendering.{Naming}
use Rattle.control_flow_theory.specs.rendering.Procedures.{Writable}
use Rattle.control_flow_theory.specs.main_theorem.Chain.{GraphsServed}
use Rattle.control_flow_theory.specs.main_theorem.MainTheorem.{Plan, graphs_by}
use Rattle.control_flow_theory.specs.expressible_graphs.Served.{ProgramIsServed}

-- each counter of these ranges may hold the turns that are left, and be tested for being above zero
abbrev pub CountersAreServed : Writable → List Range → Graphs → Type 0
CountersAreServed kinds order graphs = (range : Range) → In range order → (cell : ℕ) →
    kind_at (graphs range).added cell ≡ Some Count →
    (kinds.counts range cell ≡ true) × (kinds.aboves range cell ≡ true)

-- where each part of a source may be written in each range of the order, and so may the counters of
-- its graphs, whose nodes are just those that are reached, what is in them may be written
abbrev pub ServedSourcesHaveServedGraphs : Type 0
ServedSourcesHaveServedGraphs =
    (naming : Naming) (kinds : Writable) (plan : Plan) (program : Program) →
    IsSource plan.told program →
    ((range : Range) → In range (Main ∷ plan.others) →
    AreJustReached plan.told program range (plan.keep range)) →
    ((range : Range) → In range (Main ∷ plan.others) →
    ProgramIsServed naming kinds plan.told range program) →
    CountersAreServed kinds (Main ∷ plan.others) (graphs_by plan program) →
    GraphsServed naming kinds (Main ∷ plan.others) (graphs_by plan program)
