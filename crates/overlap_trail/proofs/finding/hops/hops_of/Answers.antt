use Rattle.std.proofs.Common.{◌≡◌, ◌<◌, length, refl, subst, arith}
use Rattle.std.proofs.lemmas.Option.{slice_get_read}
use Rattle.overlap_trail.specs.declared.finding.goal.SearchGoal.{SearchGoal}
use Rattle.overlap_trail.specs.declared.finding.goal.SearchOutcome.{SearchOutcome}
use Rattle.overlap_trail.specs.finding.Goal.{IsRoute, IsMetBy}
use Rattle.overlap_trail.proofs.finding_lemmas.Hopping.{hops-more}
use Rattle.overlap_trail.proofs.finding.hops.hops_of.Goals as goal

pub loop-number-preserved : goal.loop-number-preserved
loop-number-preserved c =
    let ranges = c.args.chain.now.ranges.items in
    let number = c.loop-number.number in
    let range = c.index-range.result.now in
    let count : c.len-count.result ≡ length ranges = omega (arith, c.len-count.ensures) in
    let lt : number < length ranges = omega (arith, c.loop-number-test.true, count) in
    let here = slice_get_read ranges (length ranges) number range refl lt c.index-range.ensures in
    let route = subst (λ (f : SearchOutcome). IsRoute c.args.table.now c.args.numbers.now range c.aim_of-aim.result f) c.in-Moves.is c.in_ok-found.ensures in
    let met = subst (λ (a : SearchGoal). IsMetBy c.args.table.now c.args.numbers.now range a c.in-Moves.found) c.aim_of-aim.ensures route in
    hops-more c.args.table.now c.args.numbers.now ranges c.args.chain.now.fault c.loop-number.hops c.push.new.self number c.len-count.result range c.in-Moves.found c.in_ok-moves-in-Moves.moves count here met
    c.in_ok-moves-in-Moves.ensures.on c.in_ok-moves-in-Moves.ensures.off c.in_ok-push-in-Moves.ensures.ok c.loop-number.invariant
