-- Where the rules apply.
use Rattle.std.specs.Prelude.{Bool}
use Rattle.control_flow_theory.specs.semantics.Graph.{Label}
use Rattle.control_flow_theory.specs.graph_rules.Reduced.{Graph}
use Rattle.tree_rules.specs.Inlining.{may_inline}
use Rattle.loop_rules.specs.Nodes.{may_loop}
use Rattle.region_rewrite.specs.exit_rule.Exits.{may_exit}
use Rattle.region_rewrite.specs.declared.candidates.Rule.{Rule}
use Rattle.region_rewrite.specs.declared.candidates.Rule.TheVariants as rule

-- the rule applies on the label
abbrev pub applies : Rule → Graph → Label → Bool
applies rule.Loop = may_loop
applies rule.Inline = may_inline
applies rule.Exits = may_exit
