use Rattle.cobol_grammar.proofs.expr_forms_lemmas.ExpressionLevels as levels
use Rattle.cobol_grammar.proofs.expr_forms.laws.parentheses_only_add.Goals as goal

pub returns : goal.returns
returns c = λ names count m n h. (levels.expr names (levels.inner names m n h) count).goes
