use Rattle.stored_forms.proofs.RuleLemmas.{binary-apart, packed-apart}
use Rattle.stored_forms.proofs.laws.values_share_no_bytes.Goals as goal

pub returns-clause-binary : goal.returns-clause-binary
returns-clause-binary c = binary-apart

pub returns-clause-packed : goal.returns-clause-packed
returns-clause-packed c = packed-apart
