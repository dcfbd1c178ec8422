use Rattle.round_trip.proofs.declarations_lemmas.Declared.{declared_programs_keep_rules}
use Rattle.round_trip.proofs.declarations.laws.declared_programs_keep_rules.Goals as goal

pub returns : goal.returns
returns c = declared_programs_keep_rules
