use Rattle.end_to_end_laws.proofs.generated_lemmas.Printable.{printable}
use Rattle.end_to_end_laws.proofs.generated.laws.generated_programs_are_printable.Goals as goal

pub returns : goal.returns
returns c = printable
