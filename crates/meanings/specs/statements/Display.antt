-- What DISPLAY shows.
use Rattle.std.specs.Prelude.{ℕ, Bool, if◌then◌else◌, ℤ, List, [], ◌∷◌, ◌++◌, Option, Ok}
use Rattle.cob_tree.specs.declared.ending.Abend.TheVariants.{BadDigits}
use Rattle.cob_tree.specs.declared.picture.Sign.TheVariants.{Within}
use Rattle.cob_tree.specs.declared.place.Operand.{Operand, out-Operand}
use Rattle.cob_tree.specs.declared.place.Expr.TheOpen.{Operand-F}
use Rattle.cob_store.specs.declared.area.Form.{Form}
use Rattle.cob_store.specs.declared.area.Form.TheVariants as forms
use Rattle.cob_store.specs.declared.area.Storage.{Storage}
use Rattle.cob_store.specs.declared.area.Storage.TheVariants as storages
use Rattle.cob_store.specs.Answer.{Answer, and_then, there_or}
use Rattle.cob_store.specs.Number.{number_bytes, number_in}
use Rattle.cob_store.specs.Place.{Memory, reached}
use Rattle.cob_store.specs.Starting.{figure_byte}
use Rattle.cob_store.specs.Store.{spot_bytes}
use Rattle.meanings.specs.statements.Text.{printed_number}

-- a number of so many digits as an item that is stored in digits has it, the sign within the last
abbrev pub digits_shown : Bool → ℕ → Option ℤ → Answer (List ℕ)
digits_shown signed digits number =
    and_then (there_or BadDigits number) (λ number.
    Ok (number_bytes signed (storages.Digits Within) digits number))

-- what is shown of an item's number: its digits and sign as they are stored, and of a binary or
-- packed one as DISPLAY would store them
abbrev pub number_shown : Bool → Storage → List ℕ → Answer (List ℕ)
number_shown signed (storages.Digits sign) bytes = Ok bytes
number_shown signed (storages.Binary digits) bytes =
    digits_shown signed digits (number_in signed (storages.Binary digits) bytes)
number_shown signed (storages.Packed digits) bytes =
    digits_shown signed digits (number_in signed (storages.Packed digits) bytes)

-- what is shown of a place of this form with these bytes: the bytes of all but a number
abbrev pub place_shown : Form → List ℕ → Answer (List ℕ)
place_shown (forms.Number signed whole part storage) bytes = number_shown signed storage bytes
place_shown forms.Group bytes = Ok bytes
place_shown forms.Edited bytes = Ok bytes
place_shown forms.Text bytes = Ok bytes

-- what a place shows, a number as it prints, a text, and a figure once
abbrev pub operand_shown : Memory → Operand → Answer (List ℕ)
operand_shown memory operand =
    elim (out-Operand operand) [
      | Operand-F.Place place ↦ and_then (reached place memory) (λ place.
          place_shown place.form (spot_bytes memory.store place.spot))
      | Operand-F.Number number ↦ Ok (printed_number number)
      | Operand-F.Text bytes ↦ Ok bytes
      | Operand-F.Figure figure ↦ Ok (figure_byte figure ∷ [])
    ]

-- the bytes of the operands after these
abbrev pub shown_on : Memory → List ℕ → List Operand → Answer (List ℕ)
shown_on memory bytes [] = Ok bytes
shown_on memory bytes (operand ∷ operands) =
    and_then (operand_shown memory operand) (λ more. shown_on memory (bytes ++ more) operands)

-- the operands one after the other, and a line feed unless NO ADVANCING
abbrev pub displayed : Memory → List Operand → Bool → Answer (List ℕ)
displayed memory operands advance =
    and_then (shown_on memory [] operands) (λ bytes.
    Ok (bytes ++ (if advance then 10 ∷ [] else [])))
