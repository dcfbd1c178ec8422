-- What MOVE and SET do.
use Rattle.std.specs.Prelude.{ℕ, ◌+◌, ◌-◌, Bool, true, false, not, if◌then◌else◌, pos, nat_le, unsigned_abs, List, [], ◌∷◌, length, drop, replicate, Option, Some, None, option_map, is_some, Ok, slice_get}
use Rattle.std.specs.List.{list_all}
use Rattle.cob_num.specs.declared.number.Dec.{Dec}
use Rattle.cob_num.specs.Exact.{decimal}
use Rattle.cob_tree.specs.declared.ending.Abend.TheVariants.{BadDigits}
use Rattle.cob_tree.specs.declared.place.Figure.{Figure}
use Rattle.cob_tree.specs.declared.place.Figure.TheVariants as figures
use Rattle.cob_tree.specs.declared.number.Number.{Number}
use Rattle.cob_tree.specs.declared.entry.Entry.{Entry}
use Rattle.cob_tree.specs.declared.entry.Span.{Span}
use Rattle.cob_tree.specs.declared.place.Operand.{Operand, out-Operand}
use Rattle.cob_tree.specs.declared.place.Place.{Place, out-Place}
use Rattle.cob_tree.specs.declared.place.Expr.TheOpen.{Operand-F}
use Rattle.cob_store.specs.declared.area.Area.{Area}
use Rattle.cob_store.specs.declared.area.Form.{Form}
use Rattle.cob_store.specs.declared.area.Form.TheVariants as forms
use Rattle.cob_store.specs.declared.area.Storage.{Storage}
use Rattle.cob_store.specs.declared.spot.Spot.{Spot}
use Rattle.cob_store.specs.declared.spot.Reached.{Reached}
use Rattle.cob_store.specs.Answer.{Answer, and_then, there_or}
use Rattle.cob_store.specs.Area.{mask_at}
use Rattle.cob_tree.specs.Digits.{digits_value}
use Rattle.cob_store.specs.Number.{number_in, number_bytes, padded}
use Rattle.cob_store.specs.Store.{Roots, edited_bytes, spot_bytes, put_at, fitted}
use Rattle.cob_store.specs.Place.{Memory, memory_of, Value, kept, literal_value, OfMemory, reached, reached_in}
use Rattle.cob_store.specs.Store.{number_of}
use Rattle.cob_store.specs.Starting.{figure_byte}
use Rattle.meanings.specs.statements.Outcome.{Outcome, done, go_on, each}
use Rattle.meanings.specs.statements.Condition.{spans_of}

-- ---- forms

-- the form of a place, whatever its subscripts; a window makes text of any item
abbrev pub area_form : Bool → Option Area → Form
area_form windowed None = forms.Text
area_form true (Some area) = forms.Text
area_form false (Some area) = area.form

-- the form of the item that a place names
abbrev pub form_of : List Area → Place → Form
form_of areas place =
    area_form (is_some (out-Place place).window) (slice_get areas (out-Place place).item)

-- the spot of a whole item, without subscripts and window
abbrev pub item_reached : ℕ → OfMemory Reached
item_reached item memory = reached_in memory [] None (slice_get memory.areas item)

-- the item is a group
abbrev pub is_group : Form → Bool
is_group forms.Group = true
is_group _ = false

-- ---- senders

-- a sender as it was read: a figure, the bytes of a group, those of text, a number literal, or a
-- number item with its bytes and, where a receiver isn't a group, its number
pub data Sender : Type 0 where
  Figured : Figure → Sender
  Grouped : List ℕ → Sender
  Spelled : List ℕ → Sender
  Written : Number → Sender
  Counted : (bytes : List ℕ) → (digits : ℕ) → (number : Option Dec) → Sender

-- a number item as a sender; the number is read where it is asked for
abbrev pub counted : Bool → Bool → ℕ → ℕ → Storage → List ℕ → Answer Sender
counted false signed whole part storage bytes = Ok (Counted bytes (whole + part) None)
counted true signed whole part storage bytes =
    and_then (number_of (number_in signed storage bytes) part) (λ number.
    Ok (Counted bytes (whole + part) (Some number)))

-- a sender with these bytes, by its form; an edited item is text
abbrev pub sent : Bool → Form → List ℕ → Answer Sender
sent asked forms.Group bytes = Ok (Grouped bytes)
sent asked forms.Edited bytes = Ok (Spelled bytes)
sent asked forms.Text bytes = Ok (Spelled bytes)
sent asked (forms.Number signed whole part storage) bytes =
    counted asked signed whole part storage bytes

-- a sender that is a place
abbrev pub place_sent : Memory → Bool → OfMemory Reached → Answer Sender
place_sent memory asked place =
    and_then (place memory) (λ place. sent asked place.form (spot_bytes memory.store place.spot))

-- a sender as it is read
abbrev pub operand_sent : Memory → Bool → Operand → Answer Sender
operand_sent memory asked operand =
    elim (out-Operand operand) [
      | Operand-F.Place place ↦ place_sent memory asked (reached place)
      | Operand-F.Number number ↦ Ok (Written number)
      | Operand-F.Text bytes ↦ Ok (Spelled bytes)
      | Operand-F.Figure figure ↦ Ok (Figured figure)
    ]

-- ---- receivers

-- the bytes of the number as an item with that picture takes it: aligned, high and low digits cut,
-- the sign dropped where unsigned
abbrev pub number_received : Bool → ℕ → ℕ → Storage → ℕ → Dec → Answer (List ℕ)
number_received signed whole part storage size number =
    and_then (there_or BadDigits (kept whole part false number)) (λ stored.
    Ok (number_bytes signed storage size stored.value))

-- the last 18 bytes as an unsigned integer
abbrev pub text_number : List ℕ → Answer Dec
text_number bytes =
    number_of (option_map (λ number. pos number) (digits_value (drop (length bytes - 18) bytes))) 0

-- the number, or BAD-DIGITS where there is none
abbrev pub none_is_bad : Value → Answer Dec
none_is_bad = there_or BadDigits

-- the number that a receiver takes from a sender
abbrev pub sender_number : Sender → Answer Dec
sender_number (Figured figure) = none_is_bad (decimal (pos 0) 0)
sender_number (Grouped bytes) = text_number bytes
sender_number (Spelled bytes) = text_number bytes
sender_number (Written number) = none_is_bad (literal_value number)
sender_number (Counted bytes digits number) = none_is_bad number

-- the digits of an integer without its sign
abbrev pub digits_of : ℕ → Value → List ℕ
digits_of digits None = []
digits_of digits (Some number) =
    if nat_le digits 18 then padded digits (unsigned_abs number.value) else []

-- the bytes that a text receiver of this length takes from a sender
abbrev pub sender_text : ℕ → Sender → List ℕ
sender_text size (Figured figure) = replicate size (figure_byte figure)
sender_text size (Grouped bytes) = fitted size bytes
sender_text size (Spelled bytes) = fitted size bytes
sender_text size (Written number) = fitted size number.digits
sender_text size (Counted bytes digits number) = fitted size (digits_of digits number)

-- the bytes that a group takes from a sender, whatever its form
abbrev pub sender_bytes : ℕ → Sender → List ℕ
sender_bytes size (Counted bytes digits number) = fitted size bytes
sender_bytes size sender = sender_text size sender

-- the bytes of the number as an item with that mask shows it
abbrev pub number_edited : List ℕ → ℕ → Answer Dec → Answer (List ℕ)
number_edited mask size number =
    and_then number (λ number. Ok (edited_bytes mask size number))

-- ZERO is edited as a number; any other figure fills the item
abbrev pub figure_edited : List ℕ → ℕ → Figure → Answer (List ℕ)
figure_edited mask size figures.Zero = number_edited mask size (none_is_bad (decimal (pos 0) 0))
figure_edited mask size figure = Ok (replicate size (figure_byte figure))

-- the bytes that an edited item is given: those of a group as they are, those of a figure, and of
-- anything else its number, edited
abbrev pub sender_edited : List ℕ → ℕ → Sender → Answer (List ℕ)
sender_edited mask size (Grouped bytes) = Ok (fitted size bytes)
sender_edited mask size (Figured figure) = figure_edited mask size figure
sender_edited mask size sender = number_edited mask size (sender_number sender)

-- an edited item has a mask; without one it would be text
abbrev pub edited_received : Option (List ℕ) → ℕ → Sender → Answer (List ℕ)
edited_received None size sender = Ok (sender_text size sender)
edited_received (Some mask) size sender = sender_edited mask size sender

-- the bytes that a receiver of that mask, form and length is given; to and from a group they are
-- moved as they are
abbrev pub received : Option (List ℕ) → Form → ℕ → Sender → Answer (List ℕ)
received mask forms.Group size sender = Ok (sender_bytes size sender)
received mask forms.Edited size sender = edited_received mask size sender
received mask forms.Text size sender = Ok (sender_text size sender)
received mask (forms.Number signed whole part storage) size (Grouped bytes) =
    Ok (fitted size bytes)
received mask (forms.Number signed whole part storage) size sender =
    and_then (sender_number sender) (number_received signed whole part storage size)

-- these bytes are stored at the spot
abbrev pub put_answer : Roots → Spot → Answer (List ℕ) → Outcome (Unit {0})
put_answer store spot bytes = go_on store bytes (λ now given. done (put_at now spot given) tt)

-- one receiver, a place of that item, is found, and takes the sender
abbrev pub receive : List Area → Sender → Roots → ℕ → OfMemory Reached → Outcome (Unit {0})
receive areas sender store item place =
    go_on store (place (memory_of areas store)) (λ now place.
    put_answer now place.spot
    (received (mask_at areas item) place.form place.spot.length sender))

-- whether all these are groups
abbrev pub all_groups : List Area → List Place → Bool
all_groups areas = list_all (λ place. is_group (form_of areas place))

-- MOVE: the sender is read once, then each receiver is reached and stored
abbrev pub moved : List Area → Operand → List Place → Roots → Outcome (Unit {0})
moved areas from to store =
    go_on store (operand_sent (memory_of areas store) (not (all_groups areas to)) from)
    (λ now sender. each (λ store place.
    receive areas sender store (out-Place place).item (reached place)) now to)

-- the store after a sender was moved to a place of that item
abbrev pub sent_on : List Area → Answer Sender → ℕ → OfMemory Reached → Roots → Outcome (Unit {0})
sent_on areas sender item to store =
    go_on store sender (λ now read. receive areas read now item to)

-- ---- SET

-- the first of these values is moved to the item
abbrev pub first_moved : List Area → Place → List Span → Roots → Outcome (Unit {0})
first_moved areas place [] store = done store tt
first_moved areas place (span ∷ spans) store = moved areas span.from (place ∷ []) store

-- the first value of a level 88 is moved to its item
abbrev pub set : List Entry → List Area → Place → Roots → Outcome (Unit {0})
set entries areas place store =
    first_moved areas place (spans_of (slice_get entries (out-Place place).item)) store
