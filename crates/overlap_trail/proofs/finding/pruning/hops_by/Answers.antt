use Rattle.std.proofs.Common.{Some, sym, ◌≡◌, List, length, ap, ◌∙◌, arith}
use Rattle.std.proofs.lemmas.Option.{slice_get-get_or}
use Rattle.program_points.specs.declared.paths.trail.Move.{Move}
use Rattle.program_points.specs.declared.paths.trail.Hop.{Hop}
use Rattle.overlap_trail.specs.finding.Pruning.{renumber}
use Rattle.overlap_trail.proofs.finding_lemmas.Needing.{by-none, by-more, by-all}
use Rattle.overlap_trail.proofs.finding.pruning.hops_by.Goals as goal

pub loop-number-init : goal.loop-number-init
loop-number-init c = by-none c.args.ranks.now c.args.hops.now c.new-made.result c.new-made.ensures

pub loop-number-preserved : goal.loop-number-preserved
loop-number-preserved c =
    let hops = c.args.hops.now in
    let number = c.loop-number.number in
    let hop = c.index-hops-number.result in
    let there = slice_get-get_or hops number hop c.loop-number-test.true ∙ ap (λ (h : Hop). Some h) (sym c.index-hops-number.is) in
    by-more c.args.ranks.now hops c.loop-number.made c.push.new.self number hop c.in_ok-moves.moves there
    (c.in_ok-moves.ensures ∙ ap (λ (ms : List Move). renumber c.args.ranks.now ms) c.as_slice.ensures) c.in_ok-push.ensures.ok c.loop-number.invariant

pub returns : goal.returns
returns c =
    let whole : c.loop-number.number ≡ length c.args.hops.now = omega (arith, c.loop-number-test.false, c.loop-number.auto.number-end) in
    by-all c.args.ranks.now c.args.hops.now c.loop-number.made c.loop-number.number whole c.loop-number.invariant
