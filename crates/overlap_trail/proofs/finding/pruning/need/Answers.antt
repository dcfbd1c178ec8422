use Rattle.std.proofs.Common.{get_or}
use Rattle.std.proofs.lemmas.Option.{slice_get-get_or}
use Rattle.program_points.specs.declared.paths.trail.Move.{Move}
use Rattle.program_points.specs.declared.paths.trail.Move.TheVariants.{Arm}
use Rattle.overlap_trail.proofs.finding_lemmas.Needing.{need-none, need-more, need-all}
use Rattle.overlap_trail.proofs.finding.pruning.need.Goals as goal

pub loop-number-init : goal.loop-number-init
loop-number-init c = need-none c.args.until c.args.moves.now c.args.needed.now.items

pub loop-number-preserved : goal.loop-number-preserved
loop-number-preserved c =
    let moves = c.args.moves.now in
    let number = c.loop-number.number in
    let none : Move = Arm 0 in
    need-more c.args.until moves c.args.needed.now.items c.loop-number.needed.items c.flag_over.new.needed.items number (get_or moves number none) (slice_get-get_or moves number none c.loop-number-test.true)
    c.flag_over.ensures.adds c.flag_over.ensures.on c.loop-number.invariant

pub returns : goal.returns
returns c = record {
  adds = c.loop-number.invariant.adds;
  flags = need-all c.args.until c.args.moves.now c.args.needed.now.items c.loop-number.needed.items c.loop-number.number c.loop-number-test.false c.loop-number.invariant;
}
