-- One step of the rules.
use Rattle.std.specs.Prelude.{◌≡◌, Bool, true, false, Option, Some, None, Result, Ok, Err}
use Rattle.cob_base.specs.declared.memory.NoMemory.{NoMemory}
use Rattle.control_flow_theory.specs.semantics.Graph.{Label}
use Rattle.control_flow_theory.specs.graph_rules.Reduced.{Graph, rule_step}
use Rattle.loop_rules.specs.Nodes.{may_loop}

-- true with the graph after the step, false where no rule applies
abbrev pub Steps : Result Bool NoMemory → Option Graph → Graph → Graph → Type 0
Steps (Ok true) step old new = step ≡ Some new
Steps (Ok false) step old new = (step ≡ None) × (new ≡ old)
Steps (Err fault) step old new = Unit {0}

-- true with the graph after the step of Loop, false where Loop applies on no label
abbrev pub LoopSteps : Result Bool NoMemory → Graph → Graph → Type 0
LoopSteps (Ok true) old new = rule_step old ≡ Some new
LoopSteps (Ok false) old new = ((l : Label) → may_loop old l ≡ false) × (new ≡ old)
LoopSteps (Err fault) old new = Unit {0}
