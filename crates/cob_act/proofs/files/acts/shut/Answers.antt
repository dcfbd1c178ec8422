use Rattle.std.proofs.lemmas.Result.{err_from_is_err_and}
use Rattle.cob_act.proofs.files_lemmas.BenchLemmas.{wanted_memory}
use Rattle.cob_act.proofs.files_lemmas.DeskLemmas.{over_left}
use Rattle.cob_act.proofs.files.acts.shut.Goals as goal

pub returns-in_err-ready-in-Ok-clause-bench : goal.returns-in_err-ready-in-Ok-clause-bench
returns-in_err-ready-in-Ok-clause-bench g c =
    let p = err_from_is_err_and c.from_residual.result c.from_residual.ensures.1 in
    rw (p.1, p.2) (wanted_memory c.args.program.now.files c.args.bench.now.left _ c.args.table.now.rows)

pub returns-in_err-ready-in-Ok-clause-breaks : goal.returns-in_err-ready-in-Ok-clause-breaks
returns-in_err-ready-in-Ok-clause-breaks g c = λ world over.
    let p = err_from_is_err_and c.from_residual.result c.from_residual.ensures.1 in
    rw (p.1, p.2) (over_left c.args.program.now.files c.args.bench.now.left _ c.args.table.now.rows world over)
