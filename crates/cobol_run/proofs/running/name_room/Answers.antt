use Rattle.std.proofs.Common.{arith}
use Rattle.std.proofs.lemmas.List.{length-map}
use Rattle.cobol_run.proofs.ShutLemmas.{fits_all, fits_more}
use Rattle.cobol_run.proofs.running.name_room.Goals as goal

pub loop-at-preserved : goal.loop-at-preserved
loop-at-preserved g c = fits_more _ _ _ c.loop-at.at c.add_room.ensures.more c.in_ok-add_room.ensures.fits c.loop-at.invariant

pub returns : goal.returns
returns g c =
    let many = c.args.bench.now.devices.ok.0 in
    fits_all _ c.loop-at.at _ (simp length-map (omega (arith, c.loop-at-test.false))) c.loop-at.invariant
