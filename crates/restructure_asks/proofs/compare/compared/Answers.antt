use Rattle.std.proofs.Common.{Err, ap, inr, refl}
use Rattle.file_model.specs.contracts.operations.watched.BenchShown.TheImpl.{all-value}
use Rattle.restructure_core.specs.run.Bench.{bench_call}
use Rattle.restructure_asks.proofs.CompareLemmas.{paired}
use Rattle.restructure_asks.proofs.compare.compared.Goals as goal

pub returns-in-Ok : goal.returns-in-Ok
returns-in-Ok g c =
    let bench = bench_call (all-value g.dyn-1).it c.args.bench.now c.compare-came.new.bench in
    let second = bench_call (all-value g.dyn-1).it c.args.second.now c.compare-came.new.other_bench in
    paired c.args.bytes.now _ _ c.args.steps bench second c.compare-came.result c.told.result c.in-Ok.ensures.found c.compare-came.ensures c.told.ensures

pub returns-in-Err : goal.returns-in-Err
returns-in-Err g c = inr (record { why = c.in-Err.why; cause = c.in-Err.ensures.refused; tells = ap Err c.unpaired.ensures; stays = (refl, refl); stays_too = (refl, refl) })
