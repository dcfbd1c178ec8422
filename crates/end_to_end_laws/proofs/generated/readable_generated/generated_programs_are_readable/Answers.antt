use Rattle.end_to_end_laws.proofs.generated_lemmas.readable_generated_lemmas.Joint.{readable}
use Rattle.end_to_end_laws.proofs.generated.readable_generated.generated_programs_are_readable.Goals as goal

pub returns : goal.returns
returns c = readable
