-- A text that is read on by one byte, or at its end; a symbol that is taken several times.
use Rattle.std.proofs.Common.{◌≡◌, ℕ, zero, suc, ◌+◌, ◌-◌, ◌<◌, List, ◌∷◌, length, get_or, drop, Ok, Err, Result, Option, Some, None, refl, sym, ap, ◌∙◌, arith, add-one, drop-cons}
use Rattle.std.proofs.Math.Seq.{drop-length}
use Rattle.std.specs.Char.{to_ascii_uppercase}
use Rattle.edit_fields.specs.declared.fault.MaskFault.{MaskFault}
use Rattle.edit_fields.specs.declared.reading.Reading.{Reading}
use Rattle.edit_fields.specs.Reading.{added, end_fault, fault_from, last_position, repeated_on, step}

-- one byte on
pub reads_on : (n : ℕ) (reading : Reading) (byte : ℕ) (rest : List ℕ) → fault_from n (Ok reading) (byte ∷ rest) ≡ fault_from (n + 1) (step (n + 1) (to_ascii_uppercase byte) reading) rest
unfolding fault_from
reads_on n reading byte rest = refl

pub goes_on : (text : List ℕ) (n : ℕ) (reading : Reading) (upper : ℕ) (next : Result Reading MaskFault) (all : Option MaskFault) → n < length text → upper ≡ to_ascii_uppercase (get_or text n 0) → next ≡ step (n + 1) upper reading → all ≡ fault_from n (Ok reading) (drop n text) → all ≡ fault_from (n + 1) next (drop (n + 1) text)
goes_on text n reading upper next all h u e is =
    is ∙ ap (fault_from n (Ok reading)) (drop-cons text n 0 h) ∙ reads_on n reading (get_or text n 0) (drop (suc n) text)
    ∙ ap (λ made. fault_from (n + 1) made (drop (suc n) text)) (ap (λ b. step (n + 1) b reading) (sym u) ∙ sym e)
    ∙ ap (λ k. fault_from (n + 1) next (drop k text)) (sym (add-one n))

pub stops : (n : ℕ) (fault : MaskFault) (rest : List ℕ) → fault_from n (Err fault) rest ≡ Some fault
unfolding fault_from
stops n fault rest = refl

pub ends : (text : List ℕ) (n : ℕ) (reading : Reading) (all : Option MaskFault) → n ≡ length text → all ≡ fault_from n (Ok reading) (drop n text) → all ≡ end_fault (last_position (length text)) reading
unfolding fault_from
ends text n reading all e is =
    is ∙ ap (λ k. fault_from k (Ok reading) (drop k text)) e ∙ ap (fault_from (length text) (Ok reading)) (drop-length text)

-- a symbol that may not come doesn't come later
pub none_on : (n symbol : ℕ) → repeated_on n symbol None ≡ None
none_on zero symbol = refl
none_on (suc n) symbol = refl

-- a symbol that is taken once more, and so often less behind it
pub once_more : (count turn symbol : ℕ) (reading : Reading) (next : Option Reading) (all : Option Reading) → turn < count → next ≡ added symbol reading → all ≡ repeated_on (count - turn) symbol (Some reading) → all ≡ repeated_on (count - (turn + 1)) symbol next
once_more count turn symbol reading next all h e is =
    let one : count - turn ≡ suc (count - (turn + 1)) = omega arith in
    is ∙ ap (λ n. repeated_on n symbol (Some reading)) one ∙ ap (repeated_on (count - (turn + 1)) symbol) (sym e)
