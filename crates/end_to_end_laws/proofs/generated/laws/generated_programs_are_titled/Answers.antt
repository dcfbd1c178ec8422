use Rattle.end_to_end_laws.proofs.generated_lemmas.Counter.{titled}
use Rattle.end_to_end_laws.proofs.generated.laws.generated_programs_are_titled.Goals as goal

pub returns : goal.returns
returns c n small = titled n
