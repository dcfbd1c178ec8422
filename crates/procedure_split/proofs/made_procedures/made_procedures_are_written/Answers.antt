use Rattle.procedure_split.proofs.made_procedures_lemmas.Making.{made-written}
use Rattle.procedure_split.proofs.made_procedures.made_procedures_are_written.Goals as goal

pub returns : goal.returns
returns c = made-written
