use Rattle.procedure_split.proofs.kept_arms_lemmas.Rules.{closed-has}
use Rattle.procedure_split.proofs.kept_arms.rules_keep_arms.Goals as goal

pub returns : goal.returns
returns c graph h = closed-has graph h
