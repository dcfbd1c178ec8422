use Rattle.std.proofs.Common.{ap, sym, ◌∙◌}
use Rattle.std.proofs.lemmas.Bool.{ne_eqb}
use Rattle.control_flow_theory.specs.language.Control.{control_of}
use Rattle.control_flow_theory.specs.lowering.Lower as lower
use Rattle.lowering_labels.specs.points.FallThrough.{range_by}
use Rattle.lowering_labels.specs.points.JumpTarget.{seen_target}
use Rattle.lowering_labels.proofs.points_lemmas.FallThroughLemmas.{end_of-main, end_of-other}
use Rattle.lowering_labels.proofs.points.fall_through.paragraph_end_target.Goals as goal

pub returns-in-None : goal.returns-in-None
returns-in-None c = λ program place_of layout at.
    ap seen_target c.fall_leaf.ensures
    ∙ end_of-main program c.args.layout.now.places.items c.args.layout.now.end layout place_of at c.args.number
    ∙ ap (λ exit. lower.paragraph_end_target place_of (control_of program) (range_by c.args.range.entry exit) c.args.number) (sym c.in-None.is)

pub returns-else-exit-number : goal.returns-else-exit-number
returns-else-exit-number c = λ program place_of layout at.
    ap seen_target c.fall_leaf-in-Some.ensures
    ∙ end_of-other program c.args.layout.now.places.items c.args.layout.now.end layout place_of at c.args.number c.args.range.entry c.in-Some.exit
    (ne_eqb c.in-Some.exit c.args.number c.if-exit-number.false)
    ∙ ap (λ exit. lower.paragraph_end_target place_of (control_of program) (range_by c.args.range.entry exit) c.args.number) (sym c.in-Some.is)
