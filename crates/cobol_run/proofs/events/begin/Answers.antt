use Rattle.std.proofs.Common.{refl}
use Rattle.cobol_run.proofs.TrackLemmas.{tracks_at_start}
use Rattle.cobol_run.proofs.events.begin.Goals as goal

pub returns-clause-tracks : goal.returns-clause-tracks
returns-clause-tracks c = λ devices files tell.
    tracks_at_start c.args.program.now _ devices files c.in_ok-machine.ensures.declared c.in_ok-machine.ensures.program refl c.in_ok-machine.ensures.closed c.in_ok-machine.ensures.few tell (c.in_ok-machine.ensures.begun files)
