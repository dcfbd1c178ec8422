-- The store at the start of a run.
use Rattle.std.specs.Prelude.{ℕ, zero, suc, ◌+◌, ◌*◌, Bool, false, ◌&&◌, ◌||◌, not, if◌then◌else◌, pos, List, [], ◌∷◌, replicate, Option, Some, None, is_some, option_and_then}
use Rattle.cob_num.specs.declared.storing.Stored.{Stored}
use Rattle.cob_store.specs.declared.area.Form.{Form}
use Rattle.cob_store.specs.declared.area.Form.TheVariants as forms
use Rattle.cob_store.specs.declared.area.Storage.{Storage}
use Rattle.cob_tree.specs.declared.place.Figure.{Figure}
use Rattle.cob_tree.specs.declared.place.Figure.TheVariants as figures
use Rattle.cob_tree.specs.declared.place.Operand.{Operand, out-Operand}
use Rattle.cob_tree.specs.declared.place.Expr.TheOpen.{Operand-F}
use Rattle.cob_tree.specs.declared.entry.Entry.{Entry}
use Rattle.cob_store.specs.declared.area.Dim.{Dim}
use Rattle.cob_store.specs.declared.area.Area.{Area}
use Rattle.cob_store.specs.declared.area.Areas.{Areas}
use Rattle.cob_store.specs.declared.spot.Spot.{Spot}
use Rattle.cob_store.specs.declared.starting.Start.{Start}
use Rattle.cob_store.specs.declared.starting.Start.TheVariants as starts
use Rattle.cob_store.specs.Laying.{layout_of}
use Rattle.cob_store.specs.Number.{number_bytes, signed_bytes}
use Rattle.cob_store.specs.Place.{Value, kept, literal_value}
use Rattle.cob_store.specs.Size.{capped, is_condition}
use Rattle.cob_store.specs.Store.{Roots, blank, fitted, put_at}

-- the byte that a figurative constant repeats
abbrev pub figure_byte : Figure → ℕ
figure_byte figures.Zero = 48
figure_byte figures.Space = 32
figure_byte figures.HighValue = 255
figure_byte figures.LowValue = 0
figure_byte figures.Quote = 34

-- ---- the starting bytes of an item

-- the starting bytes of a number item: its VALUE, or zero
abbrev pub started_by : Bool → Storage → ℕ → Option Stored → List ℕ
started_by signed storage size None = number_bytes signed storage size (pos 0)
started_by signed storage size (Some stored) = number_bytes signed storage size stored.value

-- the starting bytes of a number item with this VALUE
abbrev pub number_started : Bool → ℕ → ℕ → Storage → ℕ → Value → List ℕ
number_started signed whole part storage size clause =
    started_by signed storage size (option_and_then (kept whole part false) clause)

-- the number of a VALUE that is a numeric literal
abbrev pub value_in : {A B C D E : Type 0} → Operand-F A B C D E → Value
value_in (Operand-F.Number number) = literal_value number
value_in _ = None

-- the number of a VALUE clause, if there is one
abbrev pub number_in_clause : Option Operand → Value
number_in_clause None = None
number_in_clause (Some operand) = value_in (out-Operand operand)

-- the starting bytes of any other item: its VALUE, or spaces
abbrev pub text_in : {A B C D E : Type 0} → ℕ → Operand-F A B C D E → List ℕ
text_in size (Operand-F.Text bytes) = fitted size bytes
text_in size (Operand-F.Figure figure) = replicate size (figure_byte figure)
text_in size _ = replicate size 32

-- the starting bytes of an item that is no number
abbrev pub text_started : ℕ → Option Operand → List ℕ
text_started size None = replicate size 32
text_started size (Some operand) = text_in size (out-Operand operand)

-- the starting bytes of an item, as the code holds them
abbrev pub start_bytes : ℕ → Start → List ℕ
start_bytes size (starts.Number signed storage minus number) =
    signed_bytes signed storage size minus number
start_bytes size (starts.Text bytes) = fitted size bytes.now
start_bytes size (starts.Filler byte) = replicate size byte

-- the starting bytes of an item of this form and length
abbrev pub started : Form → ℕ → Option Operand → List ℕ
started (forms.Number signed whole part storage) size clause =
    number_started signed whole part storage size (number_in_clause clause)
started forms.Group size clause = text_started size clause
started forms.Edited size clause = text_started size clause
started forms.Text size clause = text_started size clause

-- every lowest item sets starting bytes, and every group that has VALUE
abbrev pub sets_bytes : Entry → Bool
sets_bytes entry = not (is_condition entry) && (is_some entry.picture || is_some entry.value)

-- ---- the store

-- the store after this was done for as many occurrences as there are, one after the other
abbrev pub for_each : ℕ → (ℕ → Roots → Roots) → Roots → Roots
for_each zero put roots = roots
for_each (suc number) put roots = put number (for_each number put roots)

-- the spot so many bytes further on
abbrev pub moved_by : Spot → ℕ → Spot
moved_by spot bytes =
    record { root = spot.root; start = capped (spot.start + bytes); length = spot.length }

-- the store with the bytes in each occurrence of an item
abbrev pub put_each : List Dim → Spot → List ℕ → Roots → Roots
put_each [] spot bytes roots = put_at roots spot bytes
put_each (dim ∷ dims) spot bytes roots =
    for_each dim.count (λ number.
    put_each dims (moved_by spot (capped (number * dim.stride))) bytes) roots

-- the store with the starting bytes of an item
abbrev pub item_started : Entry → Area → Roots → Roots
item_started entry area roots =
    if sets_bytes entry
    then put_each area.dims (record { root = area.root; start = area.start; length = area.size })
    (started area.form area.size entry.value) roots
    else roots

-- the roots with the starting bytes of these items; where several lie over one byte the first of
-- them sets it, so the last is put first
abbrev pub started_over : List Entry → List Area → Roots → Roots
started_over (entry ∷ entries) (area ∷ areas) roots =
    item_started entry area (started_over entries areas roots)
started_over _ _ roots = roots

-- the store at the start, where the items lie so
abbrev pub store_of : List Entry → Areas → Roots
store_of entries areas = started_over entries areas.items (blank areas.roots)

-- the store at the start of a run
abbrev pub initial_store : List Entry → Roots
initial_store entries = store_of entries (layout_of entries)
