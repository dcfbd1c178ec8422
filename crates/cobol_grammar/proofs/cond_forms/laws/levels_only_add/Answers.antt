use Rattle.cobol_grammar.proofs.cond_forms_lemmas.ConditionLevels as levels
use Rattle.cobol_grammar.proofs.cond_forms.laws.levels_only_add.Goals as goal

pub returns : goal.returns
returns c = λ names count m n h. (levels.cond names m n h count).goes
