use Rattle.std.proofs.Common.{◌≡◌, length, arith}
use Rattle.program_points.proofs.table_building_lemmas.Beginning.{extends-none, extends-more}
use Rattle.program_points.proofs.table_building.paragraph.own.Goals as goal

pub loop-place-init : goal.loop-place-init
loop-place-init c = (let size : c.len-place.result ≡ length c.args.owners.now.items = omega (arith, c.len-place.ensures) in extends-none c.args.owners.now.items c.len-place.result c.args.number size)

pub loop-place-preserved : goal.loop-place-preserved
loop-place-preserved c = extends-more c.args.owners.now.items c.loop-place.owners.items c.push.new.self.items c.loop-place.place c.args.number (omega (arith, c.loop-place.auto.place, c.len-place.ensures)) c.in_ok-push.ensures.items c.loop-place.invariant
