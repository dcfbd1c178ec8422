use Rattle.end_to_end_laws.proofs.generated_lemmas.Counter.{keeps}
use Rattle.end_to_end_laws.proofs.generated.laws.generated_programs_keep_rules.Goals as goal

pub returns : goal.returns
returns c = keeps
