-- A MOVE from an item as it stands, and to one.
use Rattle.std.proofs.Common.{◌≡◌, ℕ, Bool, true, false, not, ◌&&◌, List, [], ◌∷◌, None, is_some, slice_get, Ok, Err, refl, ap, sym, ◌∙◌}
use Rattle.cob_tree.specs.declared.place.Operand.{Operand, out-Operand, out-roll-Operand}
use Rattle.cob_tree.specs.declared.place.Operand.TheVariants as operands
use Rattle.cob_tree.specs.declared.place.Expr.TheOpen.{Operand-F}
use Rattle.cob_tree.specs.declared.place.Place.{Place, out-Place, out-roll-Place, fold-roll-Place}
use Rattle.cob_store.specs.declared.area.Area.{Area}
use Rattle.cob_store.specs.declared.spot.Reached.{Reached}
use Rattle.cob_store.specs.declared.spot.Spot.{Spot}
use Rattle.cob_store.specs.Answer.{Answer, and_then}
use Rattle.cob_store.specs.Area.{mask_at}
use Rattle.cob_store.specs.Store.{Roots, spot_bytes}
use Rattle.cob_store.specs.Place as place
use Rattle.cob_store.specs.Place.{Memory, memory_of, OfMemory, Value, reached}
use Rattle.meanings.specs.statements.Filing.{item_form}
use Rattle.meanings.specs.statements.Moving.{Sender, all_groups, area_form, form_of, is_group, item_reached, moved, operand_sent, place_sent, put_answer, receive, received, sent, sent_on}
use Rattle.meanings.specs.statements.Outcome.{done, each, go_on}
use Rattle.cob_act.specs.files.Record.{item_place}

reached-item : (item : ℕ) (memory : Memory) → reached (item_place item) memory ≡ item_reached item memory
reached-item item memory =
    ap (λ f. f memory)
    (fold-roll-Place (OfMemory Value) (OfMemory Value) (OfMemory Reached) (OfMemory Value) (Memory → Spot → Answer Spot) place.expr_step place.operand_step place.place_step place.sub_step place.window_step
    (record { item = item; of = []; subs = []; window = None }))

number-item : (item : ℕ) → (out-Place (item_place item)).item ≡ item
number-item item = ap (λ p. p.item) (out-roll-Place (record { item = item; of = []; subs = []; window = None }))

form-item : (areas : List Area) (item : ℕ) → form_of areas (item_place item) ≡ item_form areas item
form-item areas item = ap (λ p. area_form (is_some p.window) (slice_get areas p.item)) (out-roll-Place (record { item = item; of = []; subs = []; window = None }))

and-true : (b : Bool) → (b && true) ≡ b
and-true true = refl
and-true false = refl

one-group : (areas : List Area) (to : Place) → all_groups areas (to ∷ []) ≡ is_group (form_of areas to)
one-group areas to = and-true (is_group (form_of areas to))

whole-by : (store : Roots) (answer : Answer (Unit {0})) → go_on store answer (λ now u. done now tt) ≡ record { store = store; answer = answer }
whole-by store (Ok u) = refl
whole-by store (Err abend) = refl

-- one receiver
each-one : (areas : List Area) (to : Place) (store : Roots) (sender : Answer Sender) →
    go_on store sender (λ now read. each (λ store place. receive areas read store (out-Place place).item (reached place)) now (to ∷ [])) ≡ sent_on areas sender (out-Place to).item (reached to) store
each-one areas to store (Ok read) = whole-by (receive areas read store (out-Place to).item (reached to)).store (receive areas read store (out-Place to).item (reached to)).answer
each-one areas to store (Err abend) = refl

pub moves_one : (areas : List Area) (from : Operand) (to : Place) (store : Roots) →
    moved areas from (to ∷ []) store ≡ sent_on areas (operand_sent (memory_of areas store) (not (is_group (form_of areas to))) from) (out-Place to).item (reached to) store
moves_one areas from to store =
    ap (λ b. go_on store (operand_sent (memory_of areas store) (not b) from) (λ now read. each (λ store place. receive areas read store (out-Place place).item (reached place)) now (to ∷ []))) (one-group areas to)
    ∙ each-one areas to store (operand_sent (memory_of areas store) (not (is_group (form_of areas to))) from)

item-sent : (memory : Memory) (asked : Bool) (item : ℕ) → operand_sent memory asked (operands.Place (item_place item)) ≡ place_sent memory asked (item_reached item)
item-sent memory asked item =
    rw (ap out-Operand (sym (operands.rolls-Place (item_place item))) ∙ out-roll-Operand (Operand-F.Place (item_place item)), operand_sent)
    (ap (λ answer. and_then answer (λ place. sent asked place.form (spot_bytes memory.store place.spot))) (reached-item item memory))

-- from an item
pub moves_from : (areas : List Area) (item : ℕ) (to : Place) (store : Roots) →
    moved areas (operands.Place (item_place item)) (to ∷ []) store ≡ sent_on areas (place_sent (memory_of areas store) (not (is_group (form_of areas to))) (item_reached item)) (out-Place to).item (reached to) store
moves_from areas item to store =
    moves_one areas (operands.Place (item_place item)) to store
    ∙ ap (λ sender. sent_on areas sender (out-Place to).item (reached to) store) (item-sent (memory_of areas store) (not (is_group (form_of areas to))) item)

received-item : (areas : List Area) (read : Sender) (store : Roots) (item : ℕ) → receive areas read store (out-Place (item_place item)).item (reached (item_place item)) ≡ receive areas read store item (item_reached item)
received-item areas read store item =
    ap (λ number. receive areas read store number (reached (item_place item))) (number-item item)
    ∙ ap (λ answer. go_on store answer (λ now place. put_answer now place.spot (received (mask_at areas item) place.form place.spot.length read))) (reached-item item (memory_of areas store))

sent-item : (areas : List Area) (sender : Answer Sender) (store : Roots) (item : ℕ) → sent_on areas sender (out-Place (item_place item)).item (reached (item_place item)) store ≡ sent_on areas sender item (item_reached item) store
sent-item areas (Ok read) store item = received-item areas read store item
sent-item areas (Err abend) store item = refl

-- to an item
pub moves_to : (areas : List Area) (from : Operand) (item : ℕ) (store : Roots) →
    moved areas from (item_place item ∷ []) store ≡ sent_on areas (operand_sent (memory_of areas store) (not (is_group (item_form areas item))) from) item (item_reached item) store
moves_to areas from item store =
    moves_one areas from (item_place item) store
    ∙ sent-item areas (operand_sent (memory_of areas store) (not (is_group (form_of areas (item_place item)))) from) store item
    ∙ ap (λ form. sent_on areas (operand_sent (memory_of areas store) (not (is_group form)) from) item (item_reached item) store) (form-item areas item)
