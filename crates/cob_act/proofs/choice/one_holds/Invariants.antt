use Rattle.std.proofs.Common.{◌≡◌, drop}
use Rattle.cob_store.specs.Place.{memory_of}
use Rattle.meanings.specs.statements.Choice.{one_holds}
use Rattle.cob_act.specs.Choice.{seen_asked}
use Rattle.cob_act.proofs.choice.one_holds.Given as goal

abbrev pub invariant-loop-test : goal.invariant-loop-test
invariant-loop-test l = one_holds l.entries (memory_of l.areas l.store) (seen_asked l.subject) (drop l.test-index l.tests) ≡ one_holds l.entries (memory_of l.areas l.store) (seen_asked l.subject) l.tests
