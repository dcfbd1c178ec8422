use Rattle.std.proofs.Common.{ap, ◌∙◌}
use Rattle.control_flow_theory.specs.language.Control.{control_of}
use Rattle.control_flow_theory.specs.lowering.Lowered.{place_in}
use Rattle.statement_lowering.specs.continuations.Successors.{ended}
use Rattle.flow_graph.proofs.label_trees.node.after_of.Goals as goal

pub returns : goal.returns
returns c = λ program placed.
    c.ended_by.ensures ∙ ap (λ x. ended x c.args.onward.now.after) (c.paragraph_end_target-end.ensures program (place_in (control_of program)) placed placed.places_in)
