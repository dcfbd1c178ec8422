use Rattle.std.proofs.Common.{ap, sym, ◌∙◌}
use Rattle.control_flow_theory.specs.language.Control.{control_of}
use Rattle.control_flow_theory.specs.lowering.Lowered.{place_in}
use Rattle.statement_lowering.specs.continuations.Successors.{ended}
use Rattle.flow_graph.proofs.label_trees.node.leaving_of.Goals as goal

pub returns : goal.returns
returns c = λ program placed.
    let onward = c.args.onward.now in
    let end = c.paragraph_end_target-end.ensures program (place_in (control_of program)) placed placed.places_in in
    record {
      sentence = ap (λ x. ended x onward.sentence) (sym end) ∙ sym c.ended_by.ensures;
      paragraph = sym end;
      section = sym (c.paragraph_end_target.ensures program (place_in (control_of program)) placed placed.places_in);
      loop = ap (λ x. ended x onward.behind_loop) (sym end) ∙ sym c.ended_by-2.ensures;
      cycle = ap (λ x. ended x onward.cycle) (sym end) ∙ sym c.ended_by-3.ensures;
    }
