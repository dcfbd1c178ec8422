-- How a text is read as a mask, byte by byte, and the first fault where it is none.
use Rattle.std.specs.Prelude.{ℕ, zero, suc, ◌+◌, ◌-◌, ◌*◌, min, Bool, true, false, not, ◌==◌, ◌&&◌, ◌||◌, nat_le, List, [], ◌∷◌, ◌++◌, replicate, Option, Some, None, Result, Ok, Err, if◌then◌else◌}
use Rattle.std.specs.Char.{to_ascii_uppercase}
use Rattle.std.specs.List.{list_all}
use Rattle.edit_fields.specs.declared.fault.MaskFault.{MaskFault}
use Rattle.edit_fields.specs.declared.fault.MaskFault.TheVariants as faults
use Rattle.edit_fields.specs.declared.shape.Shape.{Shape}
use Rattle.edit_fields.specs.declared.reading.SymbolPlace.{SymbolPlace}
use Rattle.edit_fields.specs.declared.reading.SymbolPlace.TheVariants as places
use Rattle.edit_fields.specs.declared.reading.Reading.{Reading}
use Rattle.edit_fields.specs.Symbol.{is_symbol, symbol_v}
use Rattle.edit_fields.specs.Shape.{behind, digits, empty, is_whole}
use Rattle.edit_fields.specs.Extent.{ends_well, is_short, longer, no_extent}

-- ---- bytes of a count

-- where a count begins
abbrev pub left_parenthesis : ℕ
left_parenthesis = 40

-- where it ends
abbrev pub right_parenthesis : ℕ
right_parenthesis = 41

-- one of the two
abbrev pub is_parenthesis : ℕ → Bool
is_parenthesis byte = byte == left_parenthesis || byte == right_parenthesis

-- a digit of a count
abbrev pub is_digit : ℕ → Bool
is_digit byte = nat_le 48 byte && nat_le byte 57

-- ---- one byte more

-- before the first byte
abbrev pub start : Reading
start = record { shape = empty; extent = no_extent; place = places.Open }

-- a byte that may not come: another one than those of masks is no symbol
abbrev pub fault_of : ℕ → ℕ → MaskFault
fault_of position byte =
    if is_symbol byte || is_parenthesis byte || is_digit byte
    then faults.Order position else faults.Symbol position

-- outside a count the digits but 0 and 9 are no symbols
abbrev pub symbol_fault : ℕ → ℕ → MaskFault
symbol_fault position byte =
    if is_symbol byte || is_parenthesis byte
    then faults.Order position else faults.Symbol position

-- the symbol once more, where it may come
abbrev pub added_by : ℕ → Option Shape → Reading → Option Reading
added_by symbol None reading = None
added_by symbol (Some shape) reading =
    Some (record reading { shape = shape; extent = longer symbol reading.extent })

-- the symbol after what was read
abbrev pub added : ℕ → Reading → Option Reading
added symbol reading = added_by symbol (behind symbol reading.shape) reading

-- the symbol so many times more
abbrev pub repeated_on : ℕ → ℕ → Option Reading → Option Reading
repeated_on zero symbol reading = reading
repeated_on (suc n) symbol None = None
repeated_on (suc n) symbol (Some reading) = repeated_on n symbol (added symbol reading)

-- the same, so many times
abbrev pub repeated : ℕ → ℕ → Reading → Option Reading
repeated count symbol reading = repeated_on count symbol (Some reading)

-- what was read and where the next byte is, or this fault
abbrev pub placed : MaskFault → SymbolPlace → Option Reading → Result Reading MaskFault
placed fault place None = Err fault
placed fault place (Some reading) = Ok (record reading { place = place })

-- a symbol, of which V takes no count
abbrev pub symbol : ℕ → ℕ → Reading → Result Reading MaskFault
symbol position byte reading =
    placed (symbol_fault position byte)
    (if byte == symbol_v then places.Open else places.Behind position)
    (added byte reading)

-- a count is at least 1; a fault within its run has the symbol's place
abbrev pub closed : ℕ → ℕ → ℕ → Reading → Result Reading MaskFault
closed position at count reading =
    if count == 0 then Err (faults.Order position) else
    placed (faults.Order at) places.Open (repeated (count - 1) reading.extent.last reading)

-- a count with one digit more; it stops at 200, where a mask is too long
abbrev pub counted : ℕ → ℕ → ℕ
counted count digit = min (count * 10 + digit) 200

-- a byte within a count: a digit, or its end
abbrev pub in_count : ℕ → ℕ → ℕ → ℕ → Reading → Result Reading MaskFault
in_count position at count byte reading =
    if is_digit byte
    then Ok (record reading { place = places.Count at (counted count (byte - 48)) }) else
    if byte == right_parenthesis then closed position at count reading
    else Err (fault_of position byte)

-- a byte after what was read, by where it is
abbrev pub step_by : SymbolPlace → ℕ → ℕ → Reading → Result Reading MaskFault
step_by places.Open position byte reading = symbol position byte reading
step_by (places.Behind at) position byte reading =
    if byte == left_parenthesis then Ok (record reading { place = places.Count at 0 })
    else symbol position byte reading
step_by (places.Count at count) position byte reading = in_count position at count byte reading

-- after one byte more, its letter in capitals
unfoldable pub step : ℕ → ℕ → Reading → Result Reading MaskFault
step position byte reading = step_by reading.place position byte reading

-- ---- the end

-- a count isn't ended
abbrev pub is_counting : SymbolPlace → Bool
is_counting (places.Count at count) = true
is_counting _ = false

-- what is wrong where no more bytes come, at the last byte
unfoldable pub end_fault : ℕ → Reading → Option MaskFault
end_fault last reading =
    if is_counting reading.place || not (is_whole reading.shape)
    then Some (faults.Order last) else
    if not (nat_le (digits reading.shape) 18) then Some (faults.TooManyDigits last) else
    if is_short reading.extent && reading.extent.edits && ends_well reading.extent
    then None else Some (faults.Order last)

-- the last byte's position, or 1 where there is none
abbrev pub last_position : ℕ → ℕ
last_position zero = 1
last_position (suc n) = suc n

-- reads on after so many bytes
unfoldable pub fault_from : ℕ → Result Reading MaskFault → List ℕ → Option MaskFault
fault_from count (Err fault) rest = Some fault
fault_from count (Ok reading) [] = end_fault (last_position count) reading
fault_from count (Ok reading) (byte ∷ rest) =
    fault_from (count + 1) (step (count + 1) (to_ascii_uppercase byte) reading) rest

-- why a text is no mask, or none where it is one
abbrev pub mask_fault_of : List ℕ → Option MaskFault
mask_fault_of text = fault_from 0 (Ok start) text

-- ---- masks whose counts are written out

-- no count is left
abbrev pub is_written_out : List ℕ → Bool
is_written_out text = list_all (λ byte. not (is_parenthesis byte)) text

-- the symbols of the rest, after this one: outside a count, or in one that is this so far
unfoldable pub written_from : Option ℕ → ℕ → List ℕ → List ℕ
written_from count last [] = []
written_from None last (byte ∷ rest) =
    if to_ascii_uppercase byte == left_parenthesis then written_from (Some 0) last rest
    else to_ascii_uppercase byte ∷ written_from None (to_ascii_uppercase byte) rest
written_from (Some count) last (byte ∷ rest) =
    if is_digit (to_ascii_uppercase byte)
    then written_from (Some (counted count (to_ascii_uppercase byte - 48))) last rest
    else replicate (count - 1) last ++ written_from None last rest

-- the symbols of a text, its letters in capitals and its counts written out
abbrev pub written_out : List ℕ → List ℕ
written_out text = written_from None 0 text
