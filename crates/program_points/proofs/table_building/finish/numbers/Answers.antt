use Rattle.std.proofs.Common.{◌≡◌, subst, arith}
use Rattle.program_points.specs.table_building.Numbering.{Counts}
use Rattle.program_points.proofs.table_building_lemmas.Beginning.{counts-none, counts-more}
use Rattle.program_points.proofs.table_building.finish.numbers.Goals as goal

pub loop-number-init : goal.loop-number-init
loop-number-init c = counts-none _ c.new-starts.ensures

pub loop-number-preserved : goal.loop-number-preserved
loop-number-preserved c = counts-more c.loop-number.number c.loop-number.starts c.push.new.self c.in_ok-push.ensures.ok c.loop-number.invariant

pub returns : goal.returns
returns c =
    let all : c.loop-number.number ≡ c.args.count = omega (arith, c.loop-number-test.false, c.loop-number.auto.number-end) in
    subst (λ n. Counts n c.loop-number.starts) all c.loop-number.invariant
