-- An added item beside a number.
use Rattle.std.proofs.Common.{◌≡◌, ℕ, ◌-◌, ◌^◌, ◌<◌, ◌≤◌, Bool, List, Some, ap, sym, ◌∙◌, arith, int_cmp}
use Rattle.std.specs.Prelude.{Ok, ℤ, pos, ◌*ℤ◌, unsigned_abs}
use Rattle.cob_num.specs.declared.number.Dec.{Dec}
use Rattle.cob_num.specs.Decimal.{order_of}
use Rattle.cob_num.specs.Exact.{decimal_of}
use Rattle.cob_num.specs.Digits.{FitsDigits}
use Rattle.cob_num.proofs.LimitLemmas.{decimal_yes}
use Rattle.cob_num.proofs.ScaleLemmas.{order_at}
use Rattle.cob_num.proofs.OrderLemmas.{order_scaled}
use Rattle.cob_num.proofs.PowerLemmas.{power_up_to}
use Rattle.cob_tree.specs.declared.ending.Abend.TheVariants.{BadDigits, OutOfRange}
use Rattle.cob_tree.specs.declared.number.Number.{Number}
use Rattle.cob_tree.specs.declared.entry.Entry.{Entry}
use Rattle.cob_tree.specs.declared.picture.Sign.TheVariants.{Within}
use Rattle.cob_tree.specs.declared.cond.Rel.{Rel}
use Rattle.cob_tree.specs.declared.cond.Cond.{fold-roll-Cond}
use Rattle.cob_tree.specs.declared.cond.Cond.TheOpen.{Cond-F}
use Rattle.cob_tree.specs.declared.place.Expr.{Expr, out-roll-Expr}
use Rattle.cob_tree.specs.declared.place.Operand.{Operand, out-roll-Operand}
use Rattle.cob_tree.specs.declared.place.Place.{Place}
use Rattle.cob_tree.specs.declared.place.Sub.{Sub}
use Rattle.cob_tree.specs.declared.place.Window.{Window}
use Rattle.cob_tree.specs.declared.place.Expr.TheOpen.{Expr-F, Operand-F}
use Rattle.cob_store.specs.declared.area.Area.{Area}
use Rattle.cob_store.specs.declared.area.Storage.TheVariants.{Digits}
use Rattle.cob_store.specs.declared.spot.Reached.{Reached}
use Rattle.cob_store.specs.Answer.{Answer, and_then, there_or}
use Rattle.cob_store.specs.Store.{Roots, spot_bytes, number_of}
use Rattle.cob_store.specs.Place.{Memory, memory_of, expr_value}
use Rattle.meanings.specs.statements.Side.{Side, Amount, Item, Literal, Bytes, valued, item_side, place_side, figure_side, operand_side, expr_side, compared, side_number}
use Rattle.meanings.specs.statements.Condition as condition
use Rattle.meanings.specs.statements.Condition.{Tests, rel_holds, holds}
use Rattle.cobol_theory.specs.stored_numbers.Laws.{Fits}
use Rattle.cobol_theory.specs.cell_items.Cell.{cell_place, cell_operand, number_operand, operand_expr, IsCell, cell_bytes, Holds}
use Rattle.cobol_theory.specs.cell_items.Laws.{IsWhole, cell_relation}
use Rattle.cobol_theory.proofs.cell_items_lemmas.Cells.{cell-found, cell-read, fits-of, read-whole}

unfoldable pub side_at : Memory → Operand-F Expr Operand Place Sub Window → Answer Side
side_at memory y = elim y [
  | Operand-F.Place place ↦ place_side memory place
  | Operand-F.Number number ↦ Ok (Literal number)
  | Operand-F.Text bytes ↦ Ok (Bytes bytes)
  | Operand-F.Figure figure ↦ Ok (figure_side figure)
]

pub number-side : (memory : Memory) (number : Number) → operand_side memory (number_operand number) ≡ Ok (Literal number)
unfolding side_at
number-side memory number = ap (side_at memory) (out-roll-Operand (Operand-F.Number number))

pub cell-side : (memory : Memory) (item : ℕ) → operand_side memory (cell_operand item) ≡ place_side memory (cell_place item)
unfolding side_at
cell-side memory item = ap (side_at memory) (out-roll-Operand (Operand-F.Place (cell_place item)))

expr_side_at : Memory → Expr → Expr-F Expr Operand Place Sub Window → Answer Side
expr_side_at memory expr y = elim y [
  | Expr-F.Leaf operand ↦ operand_side memory operand
  | _ ↦ and_then (expr_value expr memory) (λ value. and_then (valued value) (λ number. Ok (Amount number)))
]

pub leaf-side : (memory : Memory) (operand : Operand) → expr_side memory (operand_expr operand) ≡ operand_side memory operand
unfolding expr_side_at
leaf-side memory operand = ap (expr_side_at memory (operand_expr operand)) (out-roll-Expr (Expr-F.Leaf operand))

-- a whole number of at most 18 digits as a decimal number
pub below-limit : (value : ℤ) (digits : ℕ) → digits ≤ 18 → unsigned_abs value < 10 ^ digits → FitsDigits value
below-limit value digits few fits = let more = power_up_to digits 36 (omega (arith, few)) in omega (arith, fits, more)

abbrev pub whole_of : (value : ℤ) → FitsDigits value → Dec
whole_of value fits = decimal_of value 0 fits (omega arith)

pub number-is : (value : ℤ) (fits : FitsDigits value) → number_of (Some value) 0 ≡ Ok (whole_of value fits)
number-is value fits = ap (there_or BadDigits) (decimal_yes value 0 fits (omega arith))

module _ (areas : List Area) (item root digits : ℕ) (signed : Bool) (cell : IsCell areas item root digits signed) (store : Roots) (value : ℤ) (fits : Fits signed digits value) (holding : Holds store root digits signed value) where
  abbrev pub memory : Memory
  memory = memory_of areas store

  abbrev pub side : Side
  side = Item signed 0 (Digits Within) (cell_bytes digits signed value)

  pub cell-read-side : expr_side memory (operand_expr (cell_operand item)) ≡ Ok side
  cell-read-side =
      leaf-side memory (cell_operand item) ∙ cell-side memory item
      ∙ ap (λ r. and_then r (λ (place : Reached). Ok (item_side place.form (spot_bytes store place.spot)))) (cell-found areas item root digits signed cell store)
      ∙ ap (λ bytes. Ok (Item signed 0 (Digits Within) bytes)) (cell-read store root digits signed value holding)

  pub side-value : (within : FitsDigits value) → side_number side ≡ Ok (whole_of value within)
  side-value within = ap (λ z. number_of z 0) (read-whole areas item root digits signed cell value fits) ∙ number-is value within

  pub compared-number : (number : Number) (worth : Dec) → IsWhole number worth digits → compared side (Literal number) ≡ Ok (int_cmp value worth.value)
  compared-number number worth is =
      let within = below-limit value digits cell.few (fits-of digits signed value fits) in
      ap (λ a. and_then a (λ first. and_then (side_number (Literal number)) (λ second. Ok (order_of first second)))) (side-value within)
      ∙ ap (λ v. and_then (there_or OutOfRange v) (λ second. Ok (order_of (whole_of value within) second))) is.value
      ∙ ap Ok (sym (order_at (whole_of value within) worth 0 (omega arith) (omega (arith, is.whole)) (omega arith))
      ∙ ap (λ s. int_cmp (value *ℤ pos (10 ^ (0 - 0))) (worth.value *ℤ pos (10 ^ (0 - s)))) is.whole
      ∙ sym (order_scaled value worth.value 1 (omega arith)))

  pub tested : (number : Number) (worth : Dec) → IsWhole number worth digits → (rel : Rel) (entries : List Entry) →
      holds (cell_relation item rel number) entries memory ≡ Ok (rel_holds rel (int_cmp value worth.value))
  tested number worth is rel entries =
      ap (λ f. f entries memory) (fold-roll-Cond Tests condition.cond_step (Cond-F.Relation (operand_expr (cell_operand item)) rel (operand_expr (number_operand number))))
      ∙ ap (λ a. and_then a (λ a. and_then (expr_side memory (operand_expr (number_operand number))) (λ b. and_then (compared a b) (λ order. Ok (rel_holds rel order))))) cell-read-side
      ∙ ap (λ b. and_then b (λ b. and_then (compared side b) (λ order. Ok (rel_holds rel order)))) (leaf-side memory (number_operand number) ∙ number-side memory number)
      ∙ ap (λ order. and_then order (λ order. Ok (rel_holds rel order))) (compared-number number worth is)
