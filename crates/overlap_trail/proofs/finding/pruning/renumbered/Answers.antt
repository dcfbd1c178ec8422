use Rattle.std.proofs.Common.{◌≡◌, [], ◌∷◌, ◌++◌, length, get_or, ap, ◌∙◌, arith}
use Rattle.std.proofs.lemmas.Option.{slice_get-get_or}
use Rattle.program_points.specs.declared.paths.trail.Move.{Move}
use Rattle.program_points.specs.declared.paths.trail.Move.TheVariants.{Arm}
use Rattle.overlap_trail.proofs.finding_lemmas.Needing.{renamed-none, renamed-more, renamed-all}
use Rattle.overlap_trail.proofs.finding.pruning.renumbered.Goals as goal

pub loop-number-init : goal.loop-number-init
loop-number-init c = renamed-none c.args.ranks.now c.args.moves.now c.new-made.result c.new-made.ensures

pub loop-number-preserved : goal.loop-number-preserved
loop-number-preserved c =
    let moves = c.args.moves.now in
    let number = c.loop-number.number in
    let none : Move = Arm 0 in
    let moved = get_or moves number none in
    renamed-more c.args.ranks.now moves c.loop-number.made c.push.new.self number moved (slice_get-get_or moves number none c.loop-number-test.true)
    (c.in_ok-push.ensures.ok ∙ ap (λ (m : Move). c.loop-number.made ++ m ∷ []) c.renamed.ensures) c.loop-number.invariant

pub returns : goal.returns
returns c =
    let whole : c.loop-number.number ≡ length c.args.moves.now = omega (arith, c.loop-number-test.false, c.loop-number.auto.number-end) in
    renamed-all c.args.ranks.now c.args.moves.now c.loop-number.made c.loop-number.number whole c.loop-number.invariant
