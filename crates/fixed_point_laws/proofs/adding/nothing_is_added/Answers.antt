use Rattle.fixed_point_laws.proofs.AddingLemmas.{count-nothing, add-nothing}
use Rattle.fixed_point_laws.proofs.adding.nothing_is_added.Goals as goal

pub returns-clause-counters : goal.returns-clause-counters
returns-clause-counters c = count-nothing

pub returns-clause-items : goal.returns-clause-items
returns-clause-items c = add-nothing
