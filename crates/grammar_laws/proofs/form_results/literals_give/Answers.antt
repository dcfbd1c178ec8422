use Rattle.grammar_laws.proofs.form_results_lemmas.Literals as literals
use Rattle.grammar_laws.proofs.form_results.literals_give.Goals as goal

pub returns : goal.returns
returns c = literals.literal
