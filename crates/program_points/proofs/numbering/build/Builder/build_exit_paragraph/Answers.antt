use Rattle.std.proofs.Common.{Bool}
use Rattle.control_flow_theory.specs.language.Language.{Chooser, also, none, ExitParagraph}
use Rattle.program_points.specs.declared.point_table.table.ProgramPoint.TheVariants.{Goes}
use Rattle.program_points.specs.numbering.Build.{Builds}
use Rattle.program_points.proofs.numbering_lemmas.Growing.{if-added}
use Rattle.program_points.proofs.numbering_lemmas.Steps.{build-exit-paragraph}
use Rattle.program_points.proofs.numbering.build.Builder.build_exit_paragraph.Goals as goal

pub returns-clause-builds : goal.returns-clause-builds
returns-clause-builds c =
    let old = c.args.self.now in
    if-added c.add.result old.places.items c.add.new.self.places.items (Goes c.end_place-end.result) old.ranges.items c.add.new.self.ranges.items
    (λ ps rs n. (never_first : Chooser → Bool) → Builds never_first old.count c.args.here.number old.places.items ps old.ranges.items rs (also ExitParagraph none) c.args.exits n)
    (λ never_first. build-exit-paragraph never_first old.count c.args.here.number old.places.items old.ranges.items c.args.exits c.end_place-end.result c.end_place-end.ensures)
    c.add.ensures.ranges c.add.ensures.added
