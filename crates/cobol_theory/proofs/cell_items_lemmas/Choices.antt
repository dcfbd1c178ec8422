-- EVALUATE beside the numbers 1, 2 and so on.
use Rattle.std.proofs.Common.{◌≡◌, ◌≢◌, ℕ, suc, ◌+◌, ◌<◌, ◌≤◌, Bool, true, false, if◌then◌else◌, List, [], ◌∷◌, length, map, refl, ap, sym, ◌∙◌, arith, int_cmp, inl, inr}
use Rattle.std.specs.Prelude.{Ok, ℤ, pos, unsigned_abs}
use Rattle.std.specs.Cmp.{signed_Decides}
use Rattle.std.specs.Ordering.{is_eq, int_eq}
use Rattle.std.proofs.lemmas.Bool.{cases_lt}
use Rattle.cob_num.specs.declared.number.Dec.{Dec}
use Rattle.cob_tree.specs.declared.number.Number.{Number}
use Rattle.cob_tree.specs.declared.choice.Subject.TheVariants as subjects
use Rattle.cob_tree.specs.declared.entry.Entry.{Entry}
use Rattle.cob_store.specs.declared.area.Area.{Area}
use Rattle.cob_store.specs.Answer.{Answer, and_then}
use Rattle.cob_store.specs.Store.{Roots}
use Rattle.cob_store.specs.Place.{Memory, memory_of}
use Rattle.meanings.specs.statements.Side.{Side, Literal, compared}
use Rattle.meanings.specs.statements.Choice.{Beside, one_holds, when_chosen, evaluated}
use Rattle.meanings.specs.statements.Condition.{turned}
use Rattle.cobol_theory.specs.stored_numbers.Laws.{Fits}
use Rattle.cobol_theory.specs.cell_items.Cell.{cell_operand, number_operand, operand_expr, IsCell, Holds}
use Rattle.cobol_theory.specs.cell_items.Laws.{IsWhole, IsNumbered, AreNumbered, is_number, number_tests}
use Rattle.cobol_theory.proofs.cell_items_lemmas.Tests.{cell-read-side, side, compared-number, leaf-side, number-side}

same-number : (v : ℕ) → is_eq (int_cmp (pos v) (pos v)) ≡ true
same-number v = (signed_Decides (pos v) (pos v)).1 refl

other-number : (value : ℤ) (n : ℕ) → value ≢ pos n → is_eq (int_cmp value (pos n)) ≡ false
other-number value n other =
    elim (int_eq value (pos n)) as (λ t. int_eq value (pos n) ≡ t → t ≡ false) [
      | true ↦ λ e. absurd (other ((signed_Decides value (pos n)).0 e))
      | false ↦ λ e. refl
    ] refl

-- what is compared by a value
module _ (entries : List Entry) (memory : Memory) (read : Side) (value : ℤ) (digits : ℕ) (compares : (number : Number) (worth : Dec) → IsWhole number worth digits → compared read (Literal number) ≡ Ok (int_cmp value worth.value)) where
  -- one literal
  tested : (n : ℕ) (number : Number) → IsNumbered digits n number →
      one_holds entries memory (Beside read) (is_number number ∷ []) ≡ Ok (is_eq (int_cmp value (pos n)))
  tested n number is =
      ap (λ low. and_then (and_then (and_then low (λ low. and_then (compared read low) (λ order. Ok (is_eq order)))) (λ test. Ok (turned false test))) (λ here. if here then Ok true else Ok false))
      (leaf-side memory (number_operand number) ∙ number-side memory number)
      ∙ ap (λ order. and_then (and_then (and_then order (λ order. Ok (is_eq order))) (λ test. Ok (turned false test))) (λ here. if here then Ok true else Ok false))
      (compares number is.worth is.is)
      ∙ ap (λ z. if is_eq (int_cmp value z) then Ok true else Ok false) is.value
      ∙ as-it-is (is_eq (int_cmp value (pos n)))
    where
      as-it-is : (b : Bool) → if◌then◌else◌ {A = Answer Bool} b (Ok true) (Ok false) ≡ Ok b
      as-it-is true = refl
      as-it-is false = refl

  abbrev pub chosen_from : ℕ → List Number → Answer ℕ
  chosen_from n numbers = when_chosen entries memory (Beside read) n (map number_tests numbers)

  here : (n : ℕ) (number : Number) (numbers : List Number) → IsNumbered digits n number → value ≡ pos n → chosen_from n (number ∷ numbers) ≡ Ok n
  here n number numbers is same =
      ap (λ holds. and_then holds (λ here. if here then Ok n else chosen_from (suc n) numbers)) (tested n number is)
      ∙ ap (λ b. if b then Ok n else chosen_from (suc n) numbers) (ap (λ z. is_eq (int_cmp z (pos n))) same ∙ same-number n)

  later : (n : ℕ) (number : Number) (numbers : List Number) → IsNumbered digits n number → value ≢ pos n → chosen_from n (number ∷ numbers) ≡ chosen_from (suc n) numbers
  later n number numbers is other =
      ap (λ holds. and_then holds (λ here. if here then Ok n else chosen_from (suc n) numbers)) (tested n number is)
      ∙ ap (λ b. if b then Ok n else chosen_from (suc n) numbers) (other-number value n other)

  pub among : (n : ℕ) (numbers : List Number) → AreNumbered digits n numbers → (v : ℕ) → value ≡ pos v → n ≤ v → v < n + length numbers → chosen_from n numbers ≡ Ok v
  among n [] are v is from to = absurd (omega (arith, from, to))
  among n (number ∷ numbers) are v is from to = elim (cases_lt n v) [
    | inl less ↦ later n number numbers are.0 (λ same. let equal = ap unsigned_abs (sym is ∙ same) in omega (arith, equal, less)) ∙ among (suc n) numbers are.1 v is less (omega (arith, to))
    | inr more ↦ here n number numbers are.0 (is ∙ ap pos (omega (arith, from, more))) ∙ ap Ok (omega (arith, from, more))
  ]

  pub behind : (n : ℕ) (numbers : List Number) → AreNumbered digits n numbers → ((k : ℕ) → n ≤ k → k < n + length numbers → value ≢ pos k) → chosen_from n numbers ≡ Ok (n + length numbers)
  behind n [] are none = ap Ok (omega arith)
  behind n (number ∷ numbers) are none =
      later n number numbers are.0 (none n (omega arith) (omega arith))
      ∙ behind (suc n) numbers are.1 (λ k from to. none k (omega (arith, from)) (omega (arith, to)))
      ∙ ap Ok (omega arith)

-- an added item
module _ (areas : List Area) (item root digits : ℕ) (signed : Bool) (cell : IsCell areas item root digits signed) (store : Roots) (v : ℕ) (fits : Fits signed digits (pos v)) (holding : Holds store root digits signed (pos v)) (entries : List Entry) where
  abbrev memory : Memory
  memory = memory_of areas store

  abbrev read : Side
  read = side areas item root digits signed cell store (pos v) fits holding

  abbrev compares : (number : Number) (worth : Dec) → IsWhole number worth digits → compared read (Literal number) ≡ Ok (int_cmp (pos v) worth.value)
  compares number worth is = compared-number areas item root digits signed cell store (pos v) fits holding number worth is

  evaluates : (numbers : List Number) → evaluated entries memory (subjects.Value (operand_expr (cell_operand item))) (map number_tests numbers) ≡ when_chosen entries memory (Beside read) 1 (map number_tests numbers)
  evaluates numbers = ap (λ side. and_then (and_then side (λ side. Ok (Beside side))) (λ read. when_chosen entries memory read 1 (map number_tests numbers))) (cell-read-side areas item root digits signed cell store (pos v) fits holding)

  pub chosen-among : (numbers : List Number) → AreNumbered digits 1 numbers → 1 ≤ v → v ≤ length numbers →
      evaluated entries memory (subjects.Value (operand_expr (cell_operand item))) (map number_tests numbers) ≡ Ok v
  chosen-among numbers are from to = evaluates numbers ∙ among entries memory read (pos v) digits compares 1 numbers are v refl from (omega (arith, to))

  pub chosen-behind : (numbers : List Number) → AreNumbered digits 1 numbers → length numbers < v →
      evaluated entries memory (subjects.Value (operand_expr (cell_operand item))) (map number_tests numbers) ≡ Ok (suc (length numbers))
  chosen-behind numbers are more =
      evaluates numbers ∙ behind entries memory read (pos v) digits compares 1 numbers are (λ k from to same. let equal = ap unsigned_abs same in omega (arith, more, to, equal)) ∙ ap Ok (omega arith)
