use Rattle.end_to_end_laws.proofs.generated_lemmas.short_generated_lemmas.Short.{short}
use Rattle.end_to_end_laws.proofs.generated.short_generated.generated_programs_are_short.Goals as goal

pub returns : goal.returns
returns c = short
