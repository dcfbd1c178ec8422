-- Where live leaves lead, as the theory has it.
use Rattle.control_flow_theory.specs.graph_rules.Shapes as shapes
use Rattle.tree_rules.specs.declared.targets.Targets.{Targets}
use Rattle.tree_rules.specs.declared.targets.Targets.TheVariants as targets

-- the targets of live leaves
abbrev pub seen_targets : Targets → shapes.Targets
seen_targets targets.NoTarget = shapes.NoTarget
seen_targets (targets.ToLabel to) = shapes.Only (shapes.ToLabel to)
seen_targets targets.Back = shapes.Only shapes.Back
seen_targets targets.Several = shapes.Several
