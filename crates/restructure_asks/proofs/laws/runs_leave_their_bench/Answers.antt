use Rattle.restructure_asks.proofs.BenchLawLemmas.{bench-left}
use Rattle.restructure_asks.proofs.laws.runs_leave_their_bench.Goals as goal

pub returns : goal.returns
returns c = bench-left
