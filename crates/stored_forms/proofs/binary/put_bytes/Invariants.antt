use Rattle.stored_forms.proofs.PuttingLemmas.{IsPutFrom}
use Rattle.stored_forms.proofs.binary.put_bytes.Given as goal

abbrev pub invariant-loop-place : goal.invariant-loop-place
invariant-loop-place l = IsPutFrom (λ digit. digit) 256 l.number l.into l.place l.rest
