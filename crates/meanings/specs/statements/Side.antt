-- The two sides of a comparison. A number item is decoded only where it is compared as a number.
use Rattle.std.specs.Prelude.{ℕ, Bool, true, false, if◌then◌else◌, pos, List, [], length, replicate, Option, Some, None, Ok, Err}
use Rattle.std.specs.declared.cmp.Ordering.{Ordering}
use Rattle.cob_num.specs.declared.number.Dec.{Dec}
use Rattle.cob_num.specs.Decimal.{order_of}
use Rattle.cob_num.specs.Exact.{decimal}
use Rattle.cob_tree.specs.declared.ending.Abend.TheVariants.{OutOfRange}
use Rattle.cob_tree.specs.declared.place.Figure.{Figure}
use Rattle.cob_tree.specs.declared.place.Figure.TheVariants as figures
use Rattle.cob_tree.specs.declared.number.Number.{Number}
use Rattle.cob_tree.specs.declared.place.Expr.{Expr, out-Expr}
use Rattle.cob_tree.specs.declared.place.Operand.{Operand, out-Operand}
use Rattle.cob_tree.specs.declared.place.Place.{Place}
use Rattle.cob_tree.specs.declared.place.Expr.TheOpen.{Expr-F, Operand-F}
use Rattle.cob_store.specs.declared.area.Form.{Form}
use Rattle.cob_store.specs.declared.area.Form.TheVariants as forms
use Rattle.cob_store.specs.declared.area.Storage.{Storage}
use Rattle.cob_store.specs.Answer.{Answer, and_then, there_or}
use Rattle.cob_store.specs.Number.{number_in}
use Rattle.cob_store.specs.Store.{spot_bytes}
use Rattle.cob_store.specs.Place.{Memory, Value, literal_value, reached, expr_value}
use Rattle.cob_store.specs.Store.{number_of}
use Rattle.cob_store.specs.Starting.{figure_byte}
use Rattle.meanings.specs.statements.Text.{byte_order, text_order, printed_number}
use Rattle.std.specs.Ordering.{ordering_reverse}

-- one side of a comparison: a number that was worked out, a numeric literal, a number item with its
-- bytes, ZERO, bytes, or a figure that repeats one byte
pub data Side : Type 0 where
  Amount : Dec → Side
  Literal : Number → Side
  Item : (signed : Bool) → (part : ℕ) → (storage : Storage) → (bytes : List ℕ) → Side
  Nought : Side
  Bytes : List ℕ → Side
  Filler : (byte : ℕ) → Side

-- the number, or OUT-OF-RANGE where there is none
abbrev pub valued : Value → Answer Dec
valued = there_or OutOfRange

-- ---- reading

-- an item of this form with these bytes; an edited one is text
abbrev pub item_side : Form → List ℕ → Side
item_side (forms.Number signed whole part storage) bytes = Item signed part storage bytes
item_side forms.Group bytes = Bytes bytes
item_side forms.Edited bytes = Bytes bytes
item_side forms.Text bytes = Bytes bytes

-- a place as it is read
abbrev pub place_side : Memory → Place → Answer Side
place_side memory place =
    and_then (reached place memory) (λ place.
    Ok (item_side place.form (spot_bytes memory.store place.spot)))

-- a figurative constant; ZERO may be a number
abbrev pub figure_side : Figure → Side
figure_side figures.Zero = Nought
figure_side figure = Filler (figure_byte figure)

-- an operand as it is read
abbrev pub operand_side : Memory → Operand → Answer Side
operand_side memory operand =
    elim (out-Operand operand) [
      | Operand-F.Place place ↦ place_side memory place
      | Operand-F.Number number ↦ Ok (Literal number)
      | Operand-F.Text bytes ↦ Ok (Bytes bytes)
      | Operand-F.Figure figure ↦ Ok (figure_side figure)
    ]

-- an expression: an operand alone keeps its form, any other is its value
abbrev pub expr_side : Memory → Expr → Answer Side
expr_side memory expr =
    elim (out-Expr expr) [
      | Expr-F.Leaf operand ↦ operand_side memory operand
      | _ ↦ and_then (expr_value expr memory) (λ value. and_then (valued value) (λ number.
          Ok (Amount number)))
    ]

-- ---- comparing

-- the side may be compared as a number
abbrev pub is_numeric : Side → Bool
is_numeric (Bytes bytes) = false
is_numeric (Filler byte) = false
is_numeric _ = true

-- the number that it is
abbrev pub side_number : Side → Answer Dec
side_number (Amount number) = Ok number
side_number (Literal number) = valued (literal_value number)
side_number (Item signed part storage bytes) = number_of (number_in signed storage bytes) part
side_number Nought = valued (decimal (pos 0) 0)
side_number _ = Err OutOfRange

-- the byte that is repeated, where the side is a figure
abbrev pub filler_of : Side → Option ℕ
filler_of Nought = Some 48
filler_of (Filler byte) = Some byte
filler_of _ = None

-- the bytes of a side, those of an item as they are stored; a literal has its digits here, though
-- beside text it is as it prints
abbrev pub side_bytes : Side → List ℕ
side_bytes (Literal number) = number.digits
side_bytes (Item signed part storage bytes) = bytes
side_bytes (Bytes bytes) = bytes
side_bytes _ = []

-- two sides as texts, of which a literal is as it prints
abbrev pub texts_compared : Side → Side → Ordering
texts_compared (Literal number) b = text_order (printed_number number) (side_bytes b)
texts_compared a (Literal number) =
    ordering_reverse (text_order (printed_number number) (side_bytes a))
texts_compared a b = text_order (side_bytes a) (side_bytes b)

-- how two sides compare of which one or both are figures: a figure is repeated to the length of the
-- other side, and is one byte beside another figure
abbrev pub filled_order : Option ℕ → Option ℕ → Side → Side → Ordering
filled_order None None a b = texts_compared a b
filled_order (Some byte) None a b =
    text_order (replicate (length (side_bytes b)) byte) (side_bytes b)
filled_order None (Some byte) a b =
    text_order (side_bytes a) (replicate (length (side_bytes a)) byte)
filled_order (Some first) (Some second) a b = byte_order first second

-- two sides as numbers
abbrev pub numbers_compared : Side → Side → Answer Ordering
numbers_compared a b =
    and_then (side_number a) (λ first. and_then (side_number b) (λ second.
    Ok (order_of first second)))

-- two sides as bytes, of which a figure is repeated
abbrev pub bytes_compared : Side → Side → Ordering
bytes_compared a b = filled_order (filler_of a) (filler_of b) a b

-- how two sides compare: by value where both are numbers, and else by bytes
abbrev pub compared : Side → Side → Answer Ordering
compared a b =
    if is_numeric a
    then (if is_numeric b then numbers_compared a b else Ok (bytes_compared a b))
    else Ok (bytes_compared a b)
