-- What has room has it by the test.
use Rattle.std.proofs.Common.{◌≡◌, ℕ, ◌+◌, true, Option, Some, None, refl, ◌∙◌, arith}
use Rattle.std.proofs.lemmas.Bool.{le-leb}
use Rattle.cob_tree.specs.declared.place.Expr.{Expr}
use Rattle.cob_tree.specs.declared.place.Operand.{Operand}
use Rattle.cob_tree.specs.declared.place.Place.{Place}
use Rattle.cob_tree.specs.declared.place.Window.{Window}
use Rattle.program_facts.specs.well_scoped.Part.{if_any}
use Rattle.program_facts.proofs.well_scoped_lemmas.Made.{both}
use Rattle.program_facts.specs.term_counts.Expression.{expr_terms}
use Rattle.round_trip.specs.spelling.expr_spelling.Spelled.{size_terms, HasRoom, made_window, WindowHasRoom, PlaceHasRoom, OperandHasRoom}
use Rattle.round_trip.proofs.spelling_lemmas.expr_spelling_lemmas.Layers.{operand-cases, place-cases, window-cases}
use Rattle.round_trip.specs.fitting_statements.own_fits.Room.{window_has_room, place_has_room, operand_has_room}
use Rattle.round_trip.proofs.fitting_statements_lemmas.own_fits_lemmas.Room.{window-test, place-test}

window-passes : (before : ℕ) (from : Expr) (size : Option Expr) → HasRoom true 501 before from size → window_has_room before (made_window from size) ≡ true
window-passes before from size room =
    let all = room.all in
    window-test before from size ∙ both (le-leb (before + expr_terms from) 500 room.some) (le-leb (size_terms size) 500 (omega (arith, all)))

windows-pass : (before : ℕ) (window : Option Window) → WindowHasRoom true 501 before window → if_any (window_has_room before) window ≡ true
windows-pass before None room = refl
windows-pass before (Some window) room =
    window-cases (λ window. WindowHasRoom true 501 before (Some window) → window_has_room before window ≡ true) (λ from size room. window-passes before from size (room from size refl)) window room

pub place-passes : (before : ℕ) (place : Place) → PlaceHasRoom true 501 before place → place_has_room before place ≡ true
place-passes before place =
    place-cases (λ place. PlaceHasRoom true 501 before place → place_has_room before place ≡ true)
    (λ item of subs window room. place-test before item of subs window ∙ windows-pass before window (room item of subs window refl)) place

pub operand-passes : (operand : Operand) → OperandHasRoom true 501 1 operand → operand_has_room operand ≡ true
operand-passes operand =
    operand-cases (λ operand. OperandHasRoom true 501 1 operand → operand_has_room operand ≡ true) (λ place room. place-passes 1 place (room place refl)) (λ number room. refl) (λ text room. refl) (λ figure room. refl) operand
