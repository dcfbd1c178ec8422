-- A graph while the rules reduce it.
use Rattle.std.specs.Prelude.{◌<◌, ◌^◌}
use Rattle.std.specs.Vec.{vec_len}
use Rattle.control_flow_theory.specs.semantics.Graph.{Label}
use Rattle.control_flow_theory.specs.graph_rules.Reduced.{Graph}
use Rattle.graph_rewriting.specs.Helds.{seen_work}
use Rattle.region_rewrite.specs.Candidates.{Holds, HoldsBut}
use Rattle.region_rewrite.specs.declared.reducing.Reducing.{Reducing}

-- the graph as the theory has it
abbrev pub graph_in : Reducing → Graph
graph_in state = seen_work state.work

-- 32 bits number one added item more
abbrev pub HasRoom : Reducing → Type 0
HasRoom state = vec_len state.work.added < 2 ^ 32

-- all trees are joined, and each rule applies only on labels on which it is to be tried
abbrev pub StateHolds : Reducing → Type 0
StateHolds state = Holds (graph_in state) state.loops state.inlines state.exits

-- the sets of the state hold so, but for this label
abbrev pub StateHoldsBut : Label → Reducing → Type 0
StateHoldsBut label state = HoldsBut label (graph_in state) state.loops state.inlines state.exits
