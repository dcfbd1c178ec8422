use Rattle.std.proofs.Common.{◌≡◌, ◌<◌, ◌^◌, ℕ, ℤ, Option, Some, IfSome, unsigned_abs, to_z, of_z, sym, ap, subst, ◌∙◌}
use Rattle.std.specs.Int.{w128}
use Rattle.cob_num.specs.declared.number.Dec.{Dec}
use Rattle.cob_num.specs.Exact.{decimal}
use Rattle.cob_tree.specs.declared.ending.Abend.TheVariants.{BadDigits}
use Rattle.cob_store.specs.Answer.{there_or}
use Rattle.cob_store.specs.Store.{number_of}
use Rattle.cob_store.proofs.Signed.{read}
use Rattle.cob_store.proofs.store.number_of.Goals as goal

-- the number that was made of the bits is the one of the value
made : (number : Option ℤ) (z : ℤ) (places : ℕ) (answer : Option Dec) → number ≡ Some z → IfSome number (λ z. unsigned_abs z < 2 ^ 64) → answer ≡ decimal (to_z w128 (of_z w128 z)) places → number_of number places ≡ there_or BadDigits answer
made number z places answer is short new =
    ap (λ (n : Option ℤ). number_of n places) is
    ∙ ap (there_or BadDigits) (ap (λ (y : ℤ). decimal y places) (sym (read z (subst (λ (n : Option ℤ). IfSome n (λ z. unsigned_abs z < 2 ^ 64)) is short))) ∙ sym new)

pub returns-in-None-new : goal.returns-in-None-new
returns-in-None-new c = sym (made _ _ _ _ c.in-Some.is c.requires c.new.ensures ∙ ap (there_or BadDigits) c.in-None-new.is)

pub returns-in-Some-new : goal.returns-in-Some-new
returns-in-Some-new c = sym (made _ _ _ _ c.in-Some.is c.requires c.new.ensures ∙ ap (there_or BadDigits) c.in-Some-new.is)
