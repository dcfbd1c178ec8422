use Rattle.std.proofs.Common.{length, refl}
use Rattle.std.proofs.lemmas.Option.{slice_get_read}
use Rattle.pending_returns.proofs.faults_lemmas.Standing.{found-or-memory, endless-from}
use Rattle.pending_returns.proofs.faults.clash.clash_from.Goals as goal

pub returns-in-None-clause-found : goal.returns-in-None-clause-found
returns-in-None-clause-found c =
    let levels = c.args.levels.now in
    let facts = c.index-levels-base.result in
    endless-from levels c.args.base facts (slice_get_read levels (length levels) c.args.base facts refl c.requires.base c.index-levels-base.is) c.in-None.is

pub returns-in-Some-clause-found : goal.returns-in-Some-clause-found
returns-in-Some-clause-found c =
    let levels = c.args.levels.now in
    let facts = c.index-levels-base.result in
    found-or-memory levels c.args.base c.in-Some.end facts c.clash_below.result (slice_get_read levels (length levels) c.args.base facts refl c.requires.base c.index-levels-base.is) c.in-Some.is c.clash_below.ensures.found
