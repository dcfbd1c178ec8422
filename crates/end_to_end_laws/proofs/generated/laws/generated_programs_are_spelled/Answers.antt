use Rattle.end_to_end_laws.proofs.generated_lemmas.Spelled.{division}
use Rattle.end_to_end_laws.proofs.generated.laws.generated_programs_are_spelled.Goals as goal

pub returns : goal.returns
returns c n taken small = division n taken small
