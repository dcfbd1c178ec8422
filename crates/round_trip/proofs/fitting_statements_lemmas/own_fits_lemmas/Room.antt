-- What has room by the test has room.
use Rattle.std.proofs.Common.{◌≡◌, ℕ, ◌+◌, true, ◌&&◌, List, Option, Some, None, refl, ap, sym, ◌∙◌, arith}
use Rattle.std.specs.Prelude.{nat_le}
use Rattle.std.proofs.lemmas.Bool.{and_parts, leb-true}
use Rattle.cob_tree.specs.declared.place.Expr.{Expr}
use Rattle.cob_tree.specs.declared.place.Operand.{Operand}
use Rattle.cob_tree.specs.declared.place.Place.{Place, out-roll-Place}
use Rattle.cob_tree.specs.declared.place.Sub.{Sub}
use Rattle.cob_tree.specs.declared.place.Window.{Window, out-roll-Window}
use Rattle.program_facts.specs.well_scoped.Part.{if_any}
use Rattle.program_facts.specs.term_counts.Expression as sizes
use Rattle.program_facts.specs.term_counts.Expression.{expr_terms}
use Rattle.round_trip.specs.spelling.expr_spelling.Spelled.{size_terms, HasRoom, made_window, made_place, PlaceHasRoom, OperandHasRoom}
use Rattle.round_trip.specs.fitting_statements.own_fits.Room.{window_has_room, place_has_room, operand_has_room}

sized : (size : Option Expr) → sizes.if_any expr_terms size ≡ size_terms size
sized None = refl
sized (Some size) = refl

pub window-test : (before : ℕ) (from : Expr) (size : Option Expr) →
    window_has_room before (made_window from size) ≡ (nat_le (before + expr_terms from) 500 && nat_le (size_terms size) 500)
window-test before from size =
    ap (λ w. nat_le (before + expr_terms w.from) 500 && nat_le (sizes.if_any expr_terms w.«length») 500) (out-roll-Window (record { from = from; «length» = size }))
    ∙ ap (λ n. nat_le (before + expr_terms from) 500 && nat_le n 500) (sized size)

pub place-test : (before item : ℕ) (of : List (List ℕ)) (subs : List Sub) (window : Option Window) →
    place_has_room before (made_place item of subs window) ≡ if_any (window_has_room before) window
place-test before item of subs window = ap (λ p. if_any (window_has_room before) p.window) (out-roll-Place (record { item = item; of = of; subs = subs; window = window }))

few-room : (before : ℕ) (from : Expr) (size : Option Expr) → (nat_le (before + expr_terms from) 500 && nat_le (size_terms size) 500) ≡ true → HasRoom true 501 before from size
few-room before from size h =
    let p = and_parts (nat_le (before + expr_terms from) 500) (nat_le (size_terms size) 500) h in
    let a = leb-true (before + expr_terms from) 500 p.0 in
    let b = leb-true (size_terms size) 500 p.1 in
    record { first = omega (arith, a); second = omega (arith, b); some = a; all = omega (arith, b) }

pub place-room : (before : ℕ) (place : Place) → place_has_room before place ≡ true → PlaceHasRoom true 501 before place
place-room before place h item of subs window e from size is =
    few-room before from size
    (sym (ap (λ p. place_has_room before p) e ∙ place-test before item of subs window ∙ ap (λ w. if_any (window_has_room before) w) is ∙ window-test before from size) ∙ h)

pub operand-room : (operand : Operand) → operand_has_room operand ≡ true → OperandHasRoom true 501 1 operand
operand-room operand h place e = place-room 1 place (sym (ap (λ o. operand_has_room o) e) ∙ h)
