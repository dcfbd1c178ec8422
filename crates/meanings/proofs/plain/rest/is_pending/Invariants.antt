use Rattle.std.proofs.Common.{◌≡◌, drop}
use Rattle.meanings.specs.plain.Stepped.{is_pending}
use Rattle.meanings.proofs.plain.rest.is_pending.Given as goal

abbrev pub invariant-loop-waiting : goal.invariant-loop-waiting
invariant-loop-waiting l = is_pending l.number (drop l.waiting-index l.pending) ≡ is_pending l.number l.pending
