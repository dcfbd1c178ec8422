use Rattle.stored_forms.specs.Packed.{pair_byte}
use Rattle.stored_forms.proofs.PuttingLemmas.{IsPutFrom}
use Rattle.stored_forms.proofs.packed.put_pairs.Given as goal

abbrev pub invariant-loop-place : goal.invariant-loop-place
invariant-loop-place l = IsPutFrom pair_byte 100 l.number l.into l.place l.rest
