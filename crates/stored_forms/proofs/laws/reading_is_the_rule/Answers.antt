use Rattle.stored_forms.proofs.RuleLemmas.{binary-rule, packed-rule}
use Rattle.stored_forms.proofs.laws.reading_is_the_rule.Goals as goal

pub returns-clause-binary : goal.returns-clause-binary
returns-clause-binary c = binary-rule

pub returns-clause-packed : goal.returns-clause-packed
returns-clause-packed c = packed-rule
