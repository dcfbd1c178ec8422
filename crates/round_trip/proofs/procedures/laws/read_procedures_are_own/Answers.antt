use Rattle.round_trip.proofs.procedures_lemmas.Division.{division-is-told}
use Rattle.round_trip.proofs.procedures.laws.read_procedures_are_own.Goals as goal

pub returns : goal.returns
returns c names entries p found q e none = division-is-told names entries p found q e none
