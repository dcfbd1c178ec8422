use Rattle.fixed_point_laws.proofs.OrderingLemmas.{by-places}
use Rattle.fixed_point_laws.proofs.ordering.plans_go_by_places.Goals as goal

pub returns : goal.returns
returns c = by-places
