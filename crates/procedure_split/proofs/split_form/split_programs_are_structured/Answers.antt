use Rattle.procedure_split.proofs.split_form_lemmas.Formed.{are-structured}
use Rattle.procedure_split.proofs.split_form.split_programs_are_structured.Goals as goal

pub returns : goal.returns
returns c = are-structured
