use Rattle.stored_forms.proofs.RuleLemmas.{binary-one, packed-one}
use Rattle.stored_forms.proofs.laws.values_have_one_spelling_but_signs.Goals as goal

pub returns-clause-binary : goal.returns-clause-binary
returns-clause-binary c = λ one other digits signed value few are there e f. binary-one one other digits signed value are there e f

pub returns-clause-packed : goal.returns-clause-packed
returns-clause-packed c = packed-one
