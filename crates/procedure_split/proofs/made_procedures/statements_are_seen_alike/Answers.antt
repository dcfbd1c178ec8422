use Rattle.procedure_split.proofs.made_procedures_lemmas.Alike.{stmts-alike-all}
use Rattle.procedure_split.proofs.made_procedures.statements_are_seen_alike.Goals as goal

pub returns : goal.returns
returns c = stmts-alike-all
