-- Places and operands whose windows have few terms have room.
use Rattle.std.proofs.Common.{◌≡◌, ℕ, ◌+◌, ◌≤◌, max, true, List, Option, Some, None, refl, ap, sym, ◌∙◌, subst, arith}
use Rattle.cob_tree.specs.declared.place.Expr.{Expr}
use Rattle.cob_tree.specs.declared.place.Operand.{Operand, out-roll-Operand}
use Rattle.cob_tree.specs.declared.place.Operand.TheVariants as operands
use Rattle.cob_tree.specs.declared.place.Expr.TheOpen.{Operand-F}
use Rattle.cob_tree.specs.declared.place.Place.{Place, out-roll-Place}
use Rattle.cob_tree.specs.declared.place.Sub.{Sub}
use Rattle.cob_tree.specs.declared.place.Window.{Window, out-roll-Window}
use Rattle.program_facts.specs.term_counts.Expression.{if_any, expr_terms, window_most, place_most, most_by, operand_most}
use Rattle.round_trip.specs.spelling.expr_spelling.Spelled.{size_terms, HasRoom, made_window, made_place, PlaceHasRoom, OperandHasRoom}

sized : (size : Option Expr) → if_any expr_terms size ≡ size_terms size
sized None = refl
sized (Some size) = refl

window-most : (from : Expr) (size : Option Expr) → window_most (made_window from size) ≡ max (expr_terms from) (size_terms size)
window-most from size =
    ap (λ w. max (expr_terms w.from) (if_any expr_terms w.«length»)) (out-roll-Window (record { from = from; «length» = size })) ∙ ap (λ n. max (expr_terms from) n) (sized size)

made-most : (item : ℕ) (of : List (List ℕ)) (subs : List Sub) (from : Expr) (size : Option Expr) →
    place_most (made_place item of subs (Some (made_window from size))) ≡ max (expr_terms from) (size_terms size)
made-most item of subs from size =
    ap (λ p. if_any window_most p.window) (out-roll-Place (record { item = item; of = of; subs = subs; window = Some (made_window from size) })) ∙ window-most from size

most-of : (place : Place) (item : ℕ) (of : List (List ℕ)) (subs : List Sub) (window : Option Window) (from : Expr) (size : Option Expr) → place ≡ made_place item of subs window →
    window ≡ Some (made_window from size) → place_most place ≡ max (expr_terms from) (size_terms size)
most-of place item of subs window from size e is =
    ap (λ p. place_most p) e ∙ ap (λ w. place_most (made_place item of subs w)) is ∙ made-most item of subs from size

-- behind so many terms
few-room : (before a b most : ℕ) → most ≡ max a b → before + most ≤ 500 → (a ≤ 500) × (b ≤ 500) × (before + a ≤ 500)
few-room before a b most e few = (omega (arith, e, few), omega (arith, e, few), omega (arith, e, few))

room-by : (before : ℕ) (from : Expr) (size : Option Expr) → (expr_terms from ≤ 500) × (size_terms size ≤ 500) × (before + expr_terms from ≤ 500) → HasRoom true 501 before from size
room-by before from size h =
    let a = h.0 in
    let b = h.1 in
    let c = h.2 in
    record { first = omega (arith, a); second = omega (arith, b); some = c; all = omega (arith, b) }

pub place_room : (before : ℕ) (place : Place) → before + place_most place ≤ 500 → PlaceHasRoom true 501 before place
place_room before place few item of subs window e from size is =
    room-by before from size (few-room before (expr_terms from) (size_terms size) (place_most place) (most-of place item of subs window from size e is) few)

operand-most : (place : Place) → operand_most (operands.Place place) ≡ place_most place
operand-most place = ap (λ o. operand_most o) (sym (operands.rolls-Place place)) ∙ ap (λ x. most_by x) (out-roll-Operand (Operand-F.Place place))

pub operand_room : (before : ℕ) (operand : Operand) → before + operand_most operand ≤ 500 → OperandHasRoom true 501 before operand
operand_room before operand few place e =
    place_room before place (subst (λ n. before + n ≤ 500) (ap (λ o. operand_most o) e ∙ operand-most place) few)
