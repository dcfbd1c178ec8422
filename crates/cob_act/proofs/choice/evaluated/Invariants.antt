use Rattle.std.proofs.Common.{◌≡◌, ◌+◌, drop, map}
use Rattle.cob_tree.specs.declared.stmt.When.{out-When}
use Rattle.cob_store.specs.Place.{memory_of}
use Rattle.meanings.specs.statements.Choice.{when_chosen}
use Rattle.cob_act.specs.Choice.{seen_asked}
use Rattle.cob_act.proofs.choice.evaluated.Given as goal

abbrev pub invariant-loop-when : goal.invariant-loop-when
invariant-loop-when l = record { count : l.number ≡ 1 + l.when-index; same : when_chosen l.entries (memory_of l.areas l.store) (seen_asked l.subject) l.number (map (λ when. (out-When when).tests) (drop l.when-index l.whens)) ≡ when_chosen l.entries (memory_of l.areas l.store) (seen_asked l.subject) 1 (map (λ when. (out-When when).tests) l.whens) }
