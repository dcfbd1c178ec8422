-- A place of numbers alone leads where its numbers lead.
use Rattle.std.proofs.Common.{◌≡◌, ℕ, Bool, true, false, ◌||◌, not, if◌then◌else◌, ◌==◌, pos, List, [], ◌∷◌, map, Option, Some, None, Ok, Err, slice_get, IfSome, refl, ap, sym, ◌∙◌, subst, eqb-true}
use Rattle.std.proofs.lemmas.Bool.{and_parts}
use Rattle.std.specs.Option.{option_map, option_and_then}
use Rattle.cob_num.specs.Exact.{decimal}
use Rattle.cob_tree.specs.Digits.{digits_value}
use Rattle.cob_tree.specs.declared.number.Number.{Number}
use Rattle.cob_tree.specs.declared.place.Expr.{Expr, map-Expr, out-Expr, fold_out-Expr}
use Rattle.cob_tree.specs.declared.place.Operand.{Operand, map-Operand, out-Operand, fold_out-Operand}
use Rattle.cob_tree.specs.declared.place.Place.{Place, map-Place, out-Place, fold_out-Place}
use Rattle.cob_tree.specs.declared.place.Sub.{Sub, map-Sub, out-Sub, fold_out-Sub}
use Rattle.cob_tree.specs.declared.place.Window.{Window, map-Window, out-Window, fold_out-Window}
use Rattle.cob_tree.specs.declared.place.Expr.TheOpen.{Expr-F, Operand-F, Place-F}
use Rattle.cob_store.specs.declared.area.Area.{Area}
use Rattle.cob_store.specs.declared.area.Dim.{Dim}
use Rattle.cob_store.specs.declared.area.Form.{Form}
use Rattle.cob_store.specs.declared.area.Form.TheVariants as forms
use Rattle.cob_store.specs.declared.constant_place.ConstantPlace.{ConstantPlace}
use Rattle.cob_store.specs.declared.constant_place.WindowNumbers.{WindowNumbers}
use Rattle.cob_store.specs.declared.spot.Reached.{Reached}
use Rattle.cob_store.specs.declared.spot.Spot.{Spot}
use Rattle.cob_store.specs.Answer.{Answer, and_then}
use Rattle.cob_store.specs.ConstantPlace.{IsKnownOf, IsOf, KnownOf, alone, are_subs, expr_number, is_length, is_part, is_that, is_window, nowhere, number_alone, number_behind, numbers_spot, operand_number, part_spot, sub_number}
use Rattle.cob_store.specs.Place as steps
use Rattle.cob_store.specs.Place.{Memory, OfMemory, Value, expr_value, kept_behind, literal_value, long_by, memory_of, occurrence_at, offset_in, offsets_behind, operand_value, reached, reached_in, signed_by, spot_from, spot_of, sub_by, sub_value, subscripted, window_of, windowed_by}

then-same : {A B : Type 0} (answer : Answer A) (f g : A → Answer B) → ((a : A) → f a ≡ g a) → and_then answer f ≡ and_then answer g
then-same (Ok a) f g same = same a
then-same (Err abend) f g same = refl

-- numbers

number-in : (negative whole : Bool) (scale : ℕ) (digits : Option ℕ) (wanted : ℕ) → (whole ≡ true → scale ≡ 0) →
    is_that (if negative || not whole then None else digits) wanted ≡ true →
    option_and_then (λ n. decimal (signed_by negative n) scale) digits ≡ decimal (pos wanted) 0
number-in true whole scale digits wanted none e = cc
number-in false false scale digits wanted none e = cc
number-in false true scale None wanted none e = cc
number-in false true scale (Some value) wanted none e =
    ap (λ n. decimal (pos n) scale) (eqb-true value wanted e) ∙ ap (λ scale. decimal (pos wanted) scale) (none refl)

number-value : (number : Number) (wanted : ℕ) → is_that (number_alone number) wanted ≡ true → literal_value number ≡ decimal (pos wanted) 0
number-value number wanted e = number-in number.negative (number.scale == 0) number.scale (digits_value number.digits) wanted (eqb-true number.scale 0) e

-- subscripts

sub-by : (base : Option Place) (plus : Number) (wanted : ℕ) (memory : Memory) → is_that (number_behind base plus) wanted ≡ true →
    steps.sub_step (map-Sub Expr Operand Place Sub Window (OfMemory Value) (OfMemory Value) (OfMemory Reached) (OfMemory Value) (Memory → Spot → Answer Spot) expr_value operand_value reached sub_value window_of (record { base = base; plus = plus })) memory ≡ alone wanted memory
sub-by None plus wanted memory e = ap Ok (number-value plus wanted e)
sub-by (Some base) plus wanted memory e = cc

sub-alone : (sub : Sub) (wanted : ℕ) (memory : Memory) → is_that (sub_number sub) wanted ≡ true → sub_value sub memory ≡ alone wanted memory
sub-alone sub wanted memory e =
    ap (λ f. f memory) (fold_out-Sub (OfMemory Value) (OfMemory Value) (OfMemory Reached) (OfMemory Value) (Memory → Spot → Answer Spot) steps.expr_step steps.operand_step steps.place_step steps.sub_step steps.window_step sub)
    ∙ sub-by (out-Sub sub).base (out-Sub sub).plus wanted memory e

subs-alone : (memory : Memory) (read : List ℕ) (subs : List Sub) (numbers : List ℕ) (dims : List Dim) → are_subs subs numbers ≡ true →
    offsets_behind memory read (map sub_value subs) dims ≡ offsets_behind nowhere read (map alone numbers) dims
subs-alone memory read [] [] dims e = refl
subs-alone memory read [] (number ∷ numbers) dims e = cc
subs-alone memory read (sub ∷ subs) [] dims e = cc
subs-alone memory read (sub ∷ subs) (number ∷ numbers) [] e = refl
subs-alone memory read (sub ∷ subs) (number ∷ numbers) (dim ∷ dims) e =
    let parts = and_parts (is_that (sub_number sub) number) (are_subs subs numbers) e in
    ap (λ value. and_then value (λ value. and_then (offset_in value dim.count) (λ offset. and_then (kept_behind read offset) (λ now. offsets_behind memory now (map sub_value subs) dims)))) (sub-alone sub number memory parts.0)
    ∙ then-same (offset_in (decimal (pos number) 0) dim.count) _ _ (λ offset.
    then-same (kept_behind read offset) _ _ (λ now. subs-alone memory now subs numbers dims parts.1))

-- windows

operand-alone : (operand : Operand) (wanted : ℕ) (memory : Memory) → is_that (operand_number operand) wanted ≡ true → operand_value operand memory ≡ alone wanted memory
operand-alone operand wanted memory e =
    ap (λ f. f memory) (fold_out-Operand (OfMemory Value) (OfMemory Value) (OfMemory Reached) (OfMemory Value) (Memory → Spot → Answer Spot) steps.expr_step steps.operand_step steps.place_step steps.sub_step steps.window_step operand)
    ∙ by-variant (out-Operand operand) e
  where
    by-variant : (y : Operand-F Expr Operand Place Sub Window) → is_that (elim y [ Operand-F.Number number ↦ number_alone number | _ ↦ None ]) wanted ≡ true →
        steps.operand_step (map-Operand Expr Operand Place Sub Window (OfMemory Value) (OfMemory Value) (OfMemory Reached) (OfMemory Value) (Memory → Spot → Answer Spot) expr_value operand_value reached sub_value window_of y) memory ≡ alone wanted memory
    by-variant (Operand-F.Number number) e = ap Ok (number-value number wanted e)
    by-variant (Operand-F.Place place) e = cc
    by-variant (Operand-F.Text text) e = cc
    by-variant (Operand-F.Figure figure) e = cc

expr-alone : (expr : Expr) (wanted : ℕ) (memory : Memory) → is_that (expr_number expr) wanted ≡ true → expr_value expr memory ≡ alone wanted memory
expr-alone expr wanted memory e =
    ap (λ f. f memory) (fold_out-Expr (OfMemory Value) (OfMemory Value) (OfMemory Reached) (OfMemory Value) (Memory → Spot → Answer Spot) steps.expr_step steps.operand_step steps.place_step steps.sub_step steps.window_step expr)
    ∙ by-variant (out-Expr expr) e
  where
    by-variant : (y : Expr-F Expr Operand Place Sub Window) → is_that (elim y [ Expr-F.Leaf operand ↦ operand_number operand | _ ↦ None ]) wanted ≡ true →
        steps.expr_step (map-Expr Expr Operand Place Sub Window (OfMemory Value) (OfMemory Value) (OfMemory Reached) (OfMemory Value) (Memory → Spot → Answer Spot) expr_value operand_value reached sub_value window_of y) memory ≡ alone wanted memory
    by-variant (Expr-F.Leaf operand) e = operand-alone operand wanted memory e
    by-variant (Expr-F.Minus inner) e = cc
    by-variant (Expr-F.Both op left right) e = cc

window-by : (from : Expr) (long : Option Expr) (first : ℕ) (wanted : Option ℕ) (memory : Memory) (spot : Spot) → is_that (expr_number from) first ≡ true → is_length long wanted ≡ true →
    steps.window_step (map-Window Expr Operand Place Sub Window (OfMemory Value) (OfMemory Value) (OfMemory Reached) (OfMemory Value) (Memory → Spot → Answer Spot) expr_value operand_value reached sub_value window_of (record { from = from; «length» = long })) memory spot ≡ part_spot (Some (record { from = first; «length» = wanted })) spot
window-by from None first None memory spot e f =
    ap (λ value. and_then value (λ value. and_then (offset_in value spot.length) (λ offset. Ok (spot_from spot offset)))) (expr-alone from first memory e)
window-by from (Some expr) first (Some wanted) memory spot e f =
    ap (λ value. and_then value (λ value. and_then (offset_in value spot.length) (λ offset. long_by memory (Some (expr_value expr)) (spot_from spot offset)))) (expr-alone from first memory e)
    ∙ then-same (offset_in (decimal (pos first) 0) spot.length) _ _ (λ offset.
    ap (λ value. and_then value (λ value. and_then (offset_in value (spot_from spot offset).length) (λ last. Ok (steps.spot_long (spot_from spot offset) last)))) (expr-alone expr wanted memory f))
window-by from None first (Some wanted) memory spot e f = cc
window-by from (Some expr) first None memory spot e f = cc

window-alone : (window : Window) (part : WindowNumbers) (memory : Memory) (spot : Spot) → is_window window part ≡ true → window_of window memory spot ≡ part_spot (Some part) spot
window-alone window part memory spot e =
    let parts = and_parts (is_that (expr_number (out-Window window).from) part.from) (is_length (out-Window window).«length» part.«length») e in
    ap (λ f. f memory spot) (fold_out-Window (OfMemory Value) (OfMemory Value) (OfMemory Reached) (OfMemory Value) (Memory → Spot → Answer Spot) steps.expr_step steps.operand_step steps.place_step steps.sub_step steps.window_step window)
    ∙ window-by (out-Window window).from (out-Window window).«length» part.from part.«length» memory spot parts.0 parts.1

-- a window makes text of any item
abbrev pub form_in : Option Window → Form → Form
form_in None form = form
form_in (Some window) form = forms.Text

abbrev with_form : Option Window → Form → Spot → Answer Reached
with_form window form spot = Ok (record { spot = spot; form = form_in window form })

part-alone : (window : Option Window) (part : Option WindowNumbers) (memory : Memory) (spot : Spot) (form : Form) → is_part window part ≡ true →
    windowed_by memory (option_map window_of window) spot form ≡ and_then (part_spot part spot) (with_form window form)
part-alone None None memory spot form e = refl
part-alone (Some window) (Some part) memory spot form e = ap (λ answer. and_then answer (λ spot. Ok (record { spot = spot; form = forms.Text }))) (window-alone window part memory spot e)
part-alone None (Some part) memory spot form e = cc
part-alone (Some window) None memory spot form e = cc

-- whole places

then-then : {A B C : Type 0} (answer : Answer A) (f : A → Answer B) (g : B → Answer C) (h : A → Answer C) → ((a : A) → h a ≡ and_then (f a) g) → and_then answer h ≡ and_then (and_then answer f) g
then-then (Ok a) f g h same = same a
then-then (Err abend) f g h same = refl

place-by : (y : Place-F Expr Operand Place Sub Window) (window : Option Window) (memory : Memory) →
    steps.place_step (map-Place Expr Operand Place Sub Window (OfMemory Value) (OfMemory Value) (OfMemory Reached) (OfMemory Value) (Memory → Spot → Answer Spot) expr_value operand_value reached sub_value window_of (record y { window = window })) memory ≡ reached_in memory (map sub_value y.subs) (option_map window_of window) (slice_get memory.areas y.item)
place-by y None memory = refl
place-by y (Some window) memory = refl

place-alone : (place : Place) (area : Area) (memory : Memory) (numbers : List ℕ) (part : Option WindowNumbers) →
    slice_get memory.areas (out-Place place).item ≡ Some area → are_subs (out-Place place).subs numbers ≡ true → is_part (out-Place place).window part ≡ true →
    reached place memory ≡ and_then (numbers_spot area.dims (spot_of area area.start) numbers part) (with_form (out-Place place).window area.form)
place-alone place area memory numbers part lies subs window =
    ap (λ f. f memory) (fold_out-Place (OfMemory Value) (OfMemory Value) (OfMemory Reached) (OfMemory Value) (Memory → Spot → Answer Spot) steps.expr_step steps.operand_step steps.place_step steps.sub_step steps.window_step place)
    ∙ place-by (out-Place place) (out-Place place).window memory
    ∙ ap (reached_in memory (map sub_value (out-Place place).subs) (option_map window_of (out-Place place).window)) lies
    ∙ ap (λ answer. and_then (and_then answer (λ offsets. Ok (occurrence_at offsets area.dims area.start))) (λ start. windowed_by memory (option_map window_of (out-Place place).window) (spot_of area start) area.form)) (subs-alone memory [] (out-Place place).subs numbers area.dims subs)
    ∙ then-then (subscripted nowhere (map alone numbers) area.dims area.start) (λ start. part_spot part (spot_of area start)) (with_form (out-Place place).window area.form) _
    (λ start. part-alone (out-Place place).window part memory (spot_of area start) area.form window)

-- a place that is known leads to its spot
pub leads : (place : Place) (area : Area) (memory : Memory) (spot : Spot) → slice_get memory.areas (out-Place place).item ≡ Some area →
    KnownOf area.dims (spot_of area area.start) place spot → reached place memory ≡ Ok (record { spot = spot; form = form_in (out-Place place).window area.form })
leads place area memory spot lies of =
    place-alone place area memory of.known.subs.items of.known.part lies of.same.subs of.same.part
    ∙ ap (λ answer. and_then answer (with_form (out-Place place).window area.form))
    (ap (λ whole. numbers_spot area.dims whole of.known.subs.items of.known.part) (sym of.same.lies) ∙ of.right ∙ ap Ok of.there)

-- the same of what a search for the place found
pub found_leads : (place : Place) (area : Area) (memory : Memory) (whole spot : Spot) (found : Option Spot) (form : Form) → whole ≡ spot_of area area.start → found ≡ Some spot →
    IfSome found (λ spot. KnownOf area.dims whole place spot) → form_in (out-Place place).window area.form ≡ form → slice_get memory.areas (out-Place place).item ≡ Some area →
    reached place memory ≡ Ok (record { spot = spot; form = form })
found_leads place area memory whole spot found form is_whole is_found of is_form lies =
    leads place area memory spot lies (subst (λ whole. KnownOf area.dims whole place spot) is_whole (subst (λ found. IfSome found (λ spot. KnownOf area.dims whole place spot)) is_found of))
    ∙ ap (λ form. Ok (record { spot = spot; form = form })) is_form

spot-back : (answer : Answer Spot) (window : Option Window) (form : Form) (reached : Reached) → and_then answer (with_form window form) ≡ Ok reached → answer ≡ Ok reached.spot
spot-back (Ok spot) window form reached e = ap (λ answer. and_then answer (λ reached. Ok reached.spot)) e
spot-back (Err abend) window form reached e = cc

-- what is reached at a place of numbers alone is known from then on
pub learns : (place : Place) (area : Area) (memory : Memory) (known : ConstantPlace) (reached_there : Reached) → slice_get memory.areas (out-Place place).item ≡ Some area →
    IsOf known (spot_of area area.start) place → reached place memory ≡ Ok reached_there → numbers_spot area.dims known.whole known.subs.items known.part ≡ Ok reached_there.spot
learns place area memory known reached_there lies of there =
    ap (λ whole. numbers_spot area.dims whole known.subs.items known.part) of.lies
    ∙ spot-back _ (out-Place place).window area.form reached_there (sym (place-alone place area memory known.subs.items known.part lies of.subs of.part) ∙ there)

pub learned_of : (place : Place) (area : Area) (memory : Memory) (known : ConstantPlace) (there : Reached) → slice_get memory.areas (out-Place place).item ≡ Some area →
    IsOf known (spot_of area area.start) place → reached place memory ≡ Ok there →
    IsKnownOf (slice_get memory.areas (out-Place place).item) (record { whole = known.whole; subs = known.subs; part = known.part; spot = there.spot })
learned_of place area memory known there lies of e =
    subst (λ area. IsKnownOf area (record { whole = known.whole; subs = known.subs; part = known.part; spot = there.spot })) (sym lies) (learns place area memory known there lies of e)
