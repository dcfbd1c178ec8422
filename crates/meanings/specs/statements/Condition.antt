-- Whether a condition holds.
use Rattle.std.specs.Prelude.{◌||◌, Bool, true, false, not, if◌then◌else◌, ◌==◌, pos, int_lt, List, [], ◌∷◌, Option, Some, None, is_some, Ok, slice_get}
use Rattle.std.specs.List.{list_all}
use Rattle.std.specs.declared.cmp.Ordering.{Ordering}
use Rattle.std.specs.Ordering.{is_eq, is_ne, is_lt, is_gt, is_le, is_ge, int_eq}
use Rattle.cob_num.specs.declared.number.Dec.{Dec}
use Rattle.cob_tree.specs.declared.cond.ClassKind.{ClassKind}
use Rattle.cob_tree.specs.declared.cond.ClassKind.TheVariants as classes
use Rattle.cob_tree.specs.declared.cond.Rel.{Rel}
use Rattle.cob_tree.specs.declared.cond.Rel.TheVariants as rels
use Rattle.cob_tree.specs.declared.cond.SignKind.{SignKind}
use Rattle.cob_tree.specs.declared.cond.SignKind.TheVariants as signs
use Rattle.cob_tree.specs.declared.entry.Entry.{Entry}
use Rattle.cob_tree.specs.declared.entry.Span.{Span}
use Rattle.cob_tree.specs.declared.place.Operand.{Operand}
use Rattle.cob_tree.specs.declared.place.Expr.{Expr}
use Rattle.cob_tree.specs.declared.place.Place.{Place, out-Place}
use Rattle.cob_tree.specs.declared.cond.Cond.{Cond, fold-Cond}
use Rattle.cob_tree.specs.declared.cond.Cond.TheOpen.{Cond-F}
use Rattle.cob_store.specs.Answer.{Answer, and_then}
use Rattle.cob_tree.specs.Digits.{is_digit}
use Rattle.cob_store.specs.Number.{number_in}
use Rattle.cob_store.specs.Place.{Memory, expr_value}
use Rattle.meanings.specs.statements.Text.{is_letter}
use Rattle.meanings.specs.statements.Side.{Side, Item, place_side, operand_side, expr_side, compared, side_bytes, valued}

-- whether something holds, by the entries of the program and what is stored
abbrev pub Tests : Type 0
Tests = List Entry → Memory → Answer Bool

-- the relation holds of two sides that compare so
abbrev pub rel_holds : Rel → Ordering → Bool
rel_holds rels.Equal = is_eq
rel_holds rels.NotEqual = is_ne
rel_holds rels.Less = is_lt
rel_holds rels.Greater = is_gt
rel_holds rels.LessEqual = is_le
rel_holds rels.GreaterEqual = is_ge

-- the two sides are related so
abbrev pub relation : Memory → Expr → Rel → Expr → Answer Bool
relation memory left rel right =
    and_then (expr_side memory left) (λ a. and_then (expr_side memory right) (λ b.
    and_then (compared a b) (λ order. Ok (rel_holds rel order))))

-- the item is NUMERIC: a number of the item's form, or digits for text
abbrev pub is_number : Side → Bool
is_number (Item signed part storage bytes) = is_some (number_in signed storage bytes)
is_number side = list_all is_digit (side_bytes side)

-- each byte of it is a letter or a space
abbrev pub is_alphabetic : Side → Bool
is_alphabetic side = list_all (λ byte. byte == 32 || is_letter byte) (side_bytes side)

-- the item is of this class
abbrev pub is_of_class : ClassKind → Side → Bool
is_of_class classes.Numeric = is_number
is_of_class classes.Alphabetic = is_alphabetic

-- the number is above zero, below, or zero
abbrev pub has_sign : SignKind → Dec → Bool
has_sign signs.Positive number = int_lt (pos 0) number.value
has_sign signs.Negative number = int_lt number.value (pos 0)
has_sign signs.Zero number = int_eq number.value (pos 0)

-- NOT turns the answer
abbrev pub turned : Bool → Bool → Bool
turned true test = not test
turned false test = test

-- the item's value is in this range; both ends are read before anything is compared
abbrev pub in_span : Memory → Side → Operand → Option Operand → Answer Bool
in_span memory side from None =
    and_then (operand_side memory from) (λ low. and_then (compared side low) (λ order.
    Ok (is_eq order)))
in_span memory side from (Some to) =
    and_then (operand_side memory from) (λ low. and_then (operand_side memory to) (λ high.
    and_then (compared side low) (λ order.
    if is_ge order then and_then (compared side high) (λ upper. Ok (is_le upper)) else Ok false)))

-- the item's value is in one of these ranges; the later ones aren't looked at
abbrev pub in_spans : Memory → Side → List Span → Answer Bool
in_spans memory side [] = Ok false
in_spans memory side (span ∷ spans) =
    and_then (in_span memory side span.from span.to) (λ test.
    if test then Ok true else in_spans memory side spans)

-- the values of a level 88, as ranges
abbrev pub spans_of : Option Entry → List Span
spans_of None = []
spans_of (Some entry) = entry.ranges

-- the item of the level 88 has one of its values
abbrev pub named : List Entry → Memory → Place → Answer Bool
named entries memory place =
    and_then (place_side memory place) (λ side.
    in_spans memory side (spans_of (slice_get entries (out-Place place).item)))

-- whether one level of a condition holds; the right side is tested only where it is needed
abbrev pub cond_step : Cond-F Tests → Tests
cond_step (Cond-F.Relation left rel right) = λ entries memory. relation memory left rel right
cond_step (Cond-F.Class place kind turn) =
    λ entries memory. and_then (place_side memory place) (λ side.
    Ok (turned turn (is_of_class kind side)))
cond_step (Cond-F.SignIs expr kind turn) =
    λ entries memory. and_then (expr_value expr memory) (λ value.
    and_then (valued value) (λ number. Ok (turned turn (has_sign kind number))))
cond_step (Cond-F.Named place) = λ entries memory. named entries memory place
cond_step (Cond-F.Not cond) =
    λ entries memory. and_then (cond entries memory) (λ test. Ok (not test))
cond_step (Cond-F.And left right) =
    λ entries memory. and_then (left entries memory) (λ test.
    if test then right entries memory else Ok false)
cond_step (Cond-F.Or left right) =
    λ entries memory. and_then (left entries memory) (λ test.
    if test then Ok true else right entries memory)

-- whether a condition holds
abbrev pub holds : Cond → Tests
holds = fold-Cond Tests cond_step
