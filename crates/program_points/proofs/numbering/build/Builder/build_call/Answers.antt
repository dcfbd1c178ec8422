use Rattle.std.proofs.Common.{◌++◌, ◌∷◌, [], List, Bool, length, subst}
use Rattle.control_flow_theory.specs.language.Language.{Chooser, also, none, Perform}
use Rattle.program_points.specs.declared.point_table.table.ProgramPoint.{ProgramPoint}
use Rattle.program_points.specs.declared.point_table.table.ProgramPoint.TheVariants.{Calls}
use Rattle.program_points.specs.numbering.Build.{Builds}
use Rattle.program_points.proofs.numbering_lemmas.Growing.{if-added}
use Rattle.program_points.proofs.numbering_lemmas.Steps.{build-call}
use Rattle.program_points.proofs.numbering.build.Builder.build_call.Goals as goal

pub returns-clause-builds : goal.returns-clause-builds
returns-clause-builds c =
    let old = c.args.self.now in
    let mid = c.range_number.new.self in
    let place = Calls c.in_ok-range.range c.args.exits.after in
    let stmts = also (Perform c.args.entry c.args.exit) none in
    if-added c.add.result mid.places.items c.add.new.self.places.items place mid.ranges.items c.add.new.self.ranges.items
    (λ ps rs n. (never_first : Chooser → Bool) → Builds never_first old.count c.args.here.number old.places.items ps old.ranges.items rs stmts c.args.exits n)
    (λ never_first. subst (λ (ps : List ProgramPoint). Builds never_first old.count c.args.here.number ps (mid.places.items ++ place ∷ []) old.ranges.items mid.ranges.items stmts c.args.exits (length mid.places.items)) c.in_ok-range.ensures.places
    (build-call never_first old.count c.args.here.number mid.places.items old.ranges.items mid.ranges.items c.in_ok-range.range c.args.entry c.args.exit c.args.exits c.in_ok-range.ensures.kept c.in_ok-range.ensures.number))
    c.add.ensures.ranges c.add.ensures.added
