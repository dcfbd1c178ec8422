use Rattle.std.proofs.Common.{ap}
use Rattle.cob_store.proofs.KnownLemmas.{form_in, found_leads}
use Rattle.cob_store.proofs.place.reached_before.Goals as goal

pub returns-in-None : goal.returns-in-None
returns-in-None c =
    λ memory. found_leads c.args.place.now c.args.area.now memory _ _ c.known_spot.result _ c.whole_of.ensures c.in_ok-spot.was c.known_spot.ensures
    (ap (λ window. form_in window c.args.area.now.form) c.in-None.is)

pub returns-in-Some : goal.returns-in-Some
returns-in-Some c =
    λ memory. found_leads c.args.place.now c.args.area.now memory _ _ c.known_spot.result _ c.whole_of.ensures c.in_ok-spot.was c.known_spot.ensures
    (ap (λ window. form_in window c.args.area.now.form) c.in-Some.is)
