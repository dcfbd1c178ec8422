use Rattle.end_to_end_laws.proofs.generated_lemmas.Procedures.{has-procedures}
use Rattle.end_to_end_laws.proofs.generated.laws.generated_programs_have_procedures.Goals as goal

pub returns : goal.returns
returns c = has-procedures
