-- What the symbols of a picture say together.
use Rattle.std.specs.Prelude.{ℕ, ◌+◌, Bool, true, false, ◌==◌, nat_le, Option, Some, None, Result, Ok, Err, if◌then◌else◌}
use Rattle.cob_tree.specs.declared.picture.Picture.{Picture}
use Rattle.cob_tree.specs.declared.picture.Picture.TheVariants as pictures
use Rattle.picture_data.specs.declared.fault.Flaw.{Flaw}
use Rattle.picture_data.specs.declared.fault.Flaw.TheVariants as flaws
use Rattle.picture_data.specs.declared.symbols.PictureShape.{PictureShape}
use Rattle.picture_data.specs.declared.symbols.PictureShape.TheVariants as shapes
use Rattle.picture_data.specs.declared.symbols.PictureSymbols.{PictureSymbols}

-- ---- the symbols, in capitals

-- S, a sign
abbrev pub symbol_s : ℕ
symbol_s = 83

-- V, the decimal point
abbrev pub symbol_v : ℕ
symbol_v = 86

-- 9, a digit
abbrev pub symbol_9 : ℕ
symbol_9 = 57

-- A, a letter
abbrev pub symbol_a : ℕ
symbol_a = 65

-- X, any character
abbrev pub symbol_x : ℕ
symbol_x = 88

-- ---- what a symbol makes of those before it

-- an S is the first
abbrev pub behind_sign : PictureShape → Option PictureShape
behind_sign shapes.Start = Some shapes.Signed
behind_sign _ = None

-- one V, in a number
abbrev pub behind_point : PictureShape → Option PictureShape
behind_point shapes.Start = Some (shapes.Point false)
behind_point shapes.Nines = Some (shapes.Point false)
behind_point shapes.Signed = Some (shapes.Point true)
behind_point _ = None

-- a nine may be anywhere
abbrev pub behind_nine : PictureShape → PictureShape
behind_nine shapes.Start = shapes.Nines
behind_nine shapes.Letters = shapes.Any
behind_nine shape = shape

-- what a picture is after one more A; it may be in no number
abbrev pub behind_letter : PictureShape → Option PictureShape
behind_letter shapes.Start = Some shapes.Letters
behind_letter shapes.Letters = Some shapes.Letters
behind_letter shapes.Nines = Some shapes.Any
behind_letter shapes.Any = Some shapes.Any
behind_letter _ = None

-- what a picture is after one more X, which may be in no number, and makes of letters any
-- characters
abbrev pub behind_any : PictureShape → Option PictureShape
behind_any shapes.Signed = None
behind_any (shapes.Point signed) = None
behind_any _ = Some shapes.Any

-- what a symbol makes of those before it, if it may follow them
abbrev pub behind : ℕ → PictureShape → Option PictureShape
behind symbol shape =
    if symbol == symbol_s then behind_sign shape else
    if symbol == symbol_v then behind_point shape else
    if symbol == symbol_9 then Some (behind_nine shape) else
    if symbol == symbol_a then behind_letter shape else
    if symbol == symbol_x then behind_any shape else None

-- ---- how many there are

-- the symbols are a number with a sign or a decimal point
abbrev pub is_number : PictureShape → Bool
is_number shapes.Signed = true
is_number (shapes.Point signed) = true
is_number _ = false

-- how many symbols there may be: 18 digits of a number, 65,535 characters
abbrev pub most : PictureShape → ℕ
most shape = if is_number shape then 18 else 65535

-- the flaw of more than there may be
abbrev pub too_many : PictureShape → Flaw
too_many shape = if is_number shape then flaws.Digits else flaws.Order

-- the symbols with so many more before or after the decimal point
abbrev pub counted : ℕ → PictureSymbols → PictureShape → PictureSymbols
counted count symbols (shapes.Point signed) = record symbols { part = symbols.part + count }
counted count symbols _ = record symbols { whole = symbols.whole + count }

-- the symbols with so many more of the last one, or the flaw
abbrev pub added : ℕ → PictureSymbols → Result PictureSymbols Flaw
added count symbols =
    if nat_le (symbols.whole + symbols.part + count) (most symbols.shape)
    then Ok (counted count symbols symbols.shape)
    else Err (too_many symbols.shape)

-- ---- what they are together

-- a number with so many digits before and after its decimal point
abbrev pub number : Bool → ℕ → ℕ → Result Picture Flaw
number signed whole part =
    if whole + part == 0 then Err flaws.Order else
    if nat_le (whole + part) 18 then Ok (pictures.Number signed whole part) else Err flaws.Digits

-- the picture that these symbols are, by their shape
abbrev pub picture_by : PictureShape → PictureSymbols → Result Picture Flaw
picture_by shapes.Start symbols = Err flaws.Order
picture_by shapes.Nines symbols = number false symbols.whole 0
picture_by shapes.Signed symbols = number true symbols.whole 0
picture_by (shapes.Point signed) symbols = number signed symbols.whole symbols.part
picture_by shapes.Letters symbols = Ok (pictures.Letters symbols.whole)
picture_by shapes.Any symbols = Ok (pictures.Any symbols.whole)

-- the picture that these symbols are
abbrev pub picture : PictureSymbols → Result Picture Flaw
picture symbols = picture_by symbols.shape symbols
