-- How a picture is read, byte by byte.
use Rattle.std.specs.Prelude.{ℕ, zero, suc, ◌+◌, ◌-◌, ◌*◌, ◌==◌, ◌&&◌, ◌||◌, nat_le, List, [], ◌∷◌, Option, Some, None, Result, Ok, Err, if◌then◌else◌}
use Rattle.std.specs.Char.{to_ascii_uppercase}
use Rattle.cob_base.specs.Bytes.{digit_0, digit_9, left_parenthesis, right_parenthesis}
use Rattle.cob_tree.specs.declared.picture.Picture.{Picture}
use Rattle.picture_data.specs.declared.fault.PictureFault.{PictureFault}
use Rattle.picture_data.specs.declared.fault.Flaw.{Flaw}
use Rattle.picture_data.specs.declared.fault.Flaw.TheVariants as flaws
use Rattle.picture_data.specs.declared.symbols.PictureShape.{PictureShape}
use Rattle.picture_data.specs.declared.symbols.PictureShape.TheVariants as shapes
use Rattle.picture_data.specs.declared.symbols.PictureSymbols.{PictureSymbols}
use Rattle.picture_data.specs.declared.reading.SymbolPosition.{SymbolPosition}
use Rattle.picture_data.specs.declared.reading.SymbolPosition.TheVariants as places
use Rattle.picture_data.specs.declared.reading.PictureReading.{PictureReading}
use Rattle.picture_data.specs.Fault.{fault_at}
use Rattle.picture_data.specs.Edited.{edited_picture, is_edited}
use Rattle.picture_data.specs.Symbols.{symbol_s, symbol_v, symbol_9, symbol_a, symbol_x, behind, added, too_many, picture}

-- the picture before the first byte
abbrev pub start : PictureReading
start = record {
  symbols = record { shape = shapes.Start; whole = 0; part = 0 };
  place = places.Open;
}

-- the flaw of a byte that may not be there; another byte than those of the grammar is no symbol
abbrev pub flaw_of : ℕ → Flaw
flaw_of byte =
    if byte == symbol_s || byte == symbol_v || byte == symbol_9 || byte == symbol_a
    || byte == symbol_x || byte == left_parenthesis || byte == right_parenthesis
    then flaws.Order else flaws.Symbol

-- the symbols so far and where the next byte is, or the flaw
abbrev pub placed : SymbolPosition → Result PictureSymbols Flaw → Result PictureReading Flaw
placed place (Ok symbols) = Ok (record { symbols = symbols; place = place })
placed place (Err flaw) = Err flaw

-- one symbol more, by what it makes of those before it
abbrev pub symbol_by : ℕ → Option PictureShape → PictureSymbols → Result PictureReading Flaw
symbol_by byte None symbols = Err (flaw_of byte)
symbol_by byte (Some shape) symbols =
    if byte == symbol_s || byte == symbol_v
    then placed places.Open (added 0 (record symbols { shape = shape }))
    else placed places.Behind (added 1 (record symbols { shape = shape }))

-- the picture so far with one more symbol
abbrev pub symbol : ℕ → PictureReading → Result PictureReading Flaw
symbol byte reading = symbol_by byte (behind byte reading.symbols.shape) reading.symbols

-- the picture so far, where so many more of the last symbol are allowed, or the flaw
abbrev pub kept : SymbolPosition → PictureSymbols → Result PictureSymbols Flaw → Result PictureReading Flaw
kept place symbols (Ok more) = Ok (record { symbols = symbols; place = place })
kept place symbols (Err flaw) = Err flaw

-- one digit more of a count that is not too high
abbrev pub digit : ℕ → ℕ → PictureReading → Result PictureReading Flaw
digit count d reading =
    if nat_le (count * 10 + d) 65535
    then kept (places.Count (count * 10 + d)) reading.symbols
    (added (count * 10 + d - 1) reading.symbols)
    else Err (too_many reading.symbols.shape)

-- the picture so far with a count ended, which is at least 1
abbrev pub closed : ℕ → PictureReading → Result PictureReading Flaw
closed count reading =
    if count == 0 then Err flaws.Order else placed places.Open (added (count - 1) reading.symbols)

-- a byte within a count: a digit, or its end
abbrev pub in_count : ℕ → ℕ → PictureReading → Result PictureReading Flaw
in_count count byte reading =
    if nat_le digit_0 byte && nat_le byte digit_9 then digit count (byte - digit_0) reading else
    if byte == right_parenthesis then closed count reading else Err (flaw_of byte)

-- the picture after one byte more, by where it is
abbrev pub step_by : SymbolPosition → ℕ → PictureReading → Result PictureReading Flaw
step_by places.Open byte reading = symbol byte reading
step_by places.Behind byte reading =
    if byte == left_parenthesis then Ok (record reading { place = places.Count 0 })
    else symbol byte reading
step_by (places.Count count) byte reading = in_count count byte reading

-- the picture after one byte more, its letter in capitals
unfoldable pub step : ℕ → PictureReading → Result PictureReading Flaw
step byte reading = step_by reading.place byte reading

-- the picture, unless a count isn't ended
abbrev pub finish_by : SymbolPosition → PictureSymbols → Result Picture Flaw
finish_by (places.Count count) symbols = Err flaws.Order
finish_by _ symbols = picture symbols

-- the picture, where no more bytes come
unfoldable pub finish : PictureReading → Result Picture Flaw
finish reading = finish_by reading.place reading.symbols

-- the last byte's position, or 1 where there is none
abbrev pub last_position : ℕ → ℕ
last_position zero = 1
last_position (suc n) = suc n

-- the picture, or the flaw at the last byte
abbrev pub ended : ℕ → Result Picture Flaw → Result Picture PictureFault
ended count (Ok picture) = Ok picture
ended count (Err flaw) = Err (fault_at flaw (last_position count))

-- reads on after so many bytes
unfoldable pub read_from : ℕ → Result PictureReading Flaw → List ℕ → Result Picture PictureFault
read_from count (Err flaw) rest = Err (fault_at flaw count)
read_from count (Ok reading) [] = ended count (finish reading)
read_from count (Ok reading) (byte ∷ rest) =
    read_from (count + 1) (step (to_ascii_uppercase byte) reading) rest

-- the picture of a text that is no mask, or the first fault
abbrev pub plain_picture : List ℕ → Result Picture PictureFault
plain_picture text = read_from 0 (Ok start) text

-- the picture of a text, or the first fault
abbrev pub picture_of : List ℕ → Result Picture PictureFault
picture_of text = if is_edited text then edited_picture text else plain_picture text
