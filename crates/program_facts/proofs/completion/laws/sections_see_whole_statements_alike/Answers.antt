use Rattle.program_facts.proofs.completion_lemmas.Alike.{stmt-alike}
use Rattle.program_facts.proofs.completion.laws.sections_see_whole_statements_alike.Goals as goal

pub returns : goal.returns
returns c = λ stmt last other. stmt-alike last other stmt
