-- Which symbol of a mask may follow which.
--
-- A mask is a lead, a body and a tail, the first and the last as it likes. The lead is a sign, then
-- `$`. The body is a suppression string, then nines: the string is of Z, of `*`, or of two or more
-- of one sign or of `$`, which floats. Insertions may be anywhere in the body, and one point.
-- The tail is a sign, CR or DB.
use Rattle.std.specs.Prelude.{ℕ, ◌+◌, min, Bool, true, false, not, ◌==◌, ◌&&◌, Option, Some, None, if◌then◌else◌}
use Rattle.edit_fields.specs.declared.shape.Stage.{Stage}
use Rattle.edit_fields.specs.declared.shape.Stage.TheVariants as stages
use Rattle.edit_fields.specs.declared.shape.Shape.{Shape}
use Rattle.edit_fields.specs.Symbol.{is_insertion, is_point, is_sign, is_suppressor, is_tail_letter, symbol_9, symbol_b, symbol_c, symbol_d, symbol_dollar, symbol_r}

-- a sum of counts that stops at 255, past each limit
abbrev pub tally : ℕ → ℕ → ℕ
tally count more = min (count + more) 255

-- the mask of no symbol
abbrev pub empty : Shape
empty = record {
  stage = stages.Start;
  string = 0;
  sign = false;
  point = false;
  nines = false;
  whole = 0;
  part = 0;
}

-- ---- what a symbol makes of the mask

-- the symbol has a digit, left or right of the point
abbrev pub with_digit : Shape → Shape
with_digit shape =
    if shape.point then record shape { part = tally shape.part 1 }
    else record shape { whole = tally shape.whole 1 }

-- the symbol belongs to the suppression string, and isn't the first of one that floats
abbrev pub in_string : ℕ → Shape → Shape
in_string symbol shape = with_digit (record shape { stage = stages.InString; string = symbol })

-- the symbol is a 9
abbrev pub in_nines : Shape → Shape
in_nines shape = with_digit (record shape { stage = stages.Nines; nines = true })

-- there is one sign at most: in the lead, floating or in the tail
abbrev pub signed : Stage → Shape → Option Shape
signed stage shape =
    if shape.sign then None else Some (record shape { stage = stage; sign = true })

-- a string that floats begins left of the point
abbrev pub begun : Stage → Shape → Option Shape
begun stage shape = if shape.point then None else Some (record shape { stage = stage })

-- a sign that may float begins left of the point, where there is none yet
abbrev pub begun_signed : ℕ → Shape → Option Shape
begun_signed sign shape = if shape.point then None else signed (stages.Once sign) shape

-- the string goes on by a symbol, where that is its own
abbrev pub again : ℕ → ℕ → Shape → Option Shape
again first symbol shape = if first == symbol then Some (in_string symbol shape) else None

-- ---- a sign

-- after a lead it begins a string where the lead is `$`
abbrev pub sign_behind_lead : ℕ → ℕ → Shape → Option Shape
sign_behind_lead lead sign shape =
    if lead == sign then Some (in_string sign shape) else
    if lead == symbol_dollar then begun_signed sign shape else None

-- a sign is the lead, floats, or ends the mask
abbrev pub sign_by : Stage → ℕ → Shape → Option Shape
sign_by stages.Start sign shape = signed (stages.Lead sign) shape
sign_by (stages.Lead lead) sign shape = sign_behind_lead lead sign shape
sign_by stages.Body sign shape = begun_signed sign shape
sign_by (stages.Led lead) sign shape = sign_behind_lead lead sign shape
sign_by (stages.Once first) sign shape = again first sign shape
sign_by stages.InString sign shape =
    if shape.string == sign then Some (in_string sign shape) else signed stages.Ended shape
sign_by stages.Nines sign shape = signed stages.Ended shape
sign_by (stages.Letter letter) sign shape = None
sign_by stages.Ended sign shape = None

-- ---- the `$`

-- a `$` is in the lead, or floats
abbrev pub dollar_by : Stage → Shape → Option Shape
dollar_by stages.Start shape = Some (record shape { stage = stages.Lead symbol_dollar })
dollar_by (stages.Lead lead) shape =
    if lead == symbol_dollar then Some (in_string symbol_dollar shape)
    else Some (record shape { stage = stages.Lead symbol_dollar })
dollar_by stages.Body shape = begun (stages.Once symbol_dollar) shape
dollar_by (stages.Led lead) shape =
    if lead == symbol_dollar then Some (in_string symbol_dollar shape)
    else begun (stages.Once symbol_dollar) shape
dollar_by (stages.Once first) shape = again first symbol_dollar shape
dollar_by stages.InString shape = again shape.string symbol_dollar shape
dollar_by stages.Nines shape = None
dollar_by (stages.Letter letter) shape = None
dollar_by stages.Ended shape = None

-- ---- Z and `*`

-- Z and `*` come before the first 9, all of one kind
abbrev pub suppressor_by : Stage → ℕ → Shape → Option Shape
suppressor_by stages.Start symbol shape = Some (in_string symbol shape)
suppressor_by (stages.Lead lead) symbol shape = Some (in_string symbol shape)
suppressor_by stages.Body symbol shape = Some (in_string symbol shape)
suppressor_by (stages.Led lead) symbol shape = Some (in_string symbol shape)
suppressor_by (stages.Once first) symbol shape = None
suppressor_by stages.InString symbol shape = again shape.string symbol shape
suppressor_by stages.Nines symbol shape = None
suppressor_by (stages.Letter letter) symbol shape = None
suppressor_by stages.Ended symbol shape = None

-- ---- the 9

-- none follows a string that goes on right of the point
abbrev pub nine_by : Stage → Shape → Option Shape
nine_by stages.Start shape = Some (in_nines shape)
nine_by (stages.Lead lead) shape = Some (in_nines shape)
nine_by stages.Body shape = Some (in_nines shape)
nine_by (stages.Led lead) shape = Some (in_nines shape)
nine_by (stages.Once first) shape = None
nine_by stages.InString shape = if shape.part == 0 then Some (in_nines shape) else None
nine_by stages.Nines shape = Some (in_nines shape)
nine_by (stages.Letter letter) shape = None
nine_by stages.Ended shape = None

-- ---- insertions and the point

-- where the body goes on by what has no digit
abbrev pub body_by : Stage → Shape → Option Shape
body_by stages.Start shape = Some (record shape { stage = stages.Body })
body_by (stages.Lead lead) shape = Some (record shape { stage = stages.Led lead })
body_by stages.Body shape = Some shape
body_by (stages.Led lead) shape = Some shape
body_by (stages.Once first) shape = Some shape
body_by stages.InString shape = Some shape
body_by stages.Nines shape = Some shape
body_by (stages.Letter letter) shape = None
body_by stages.Ended shape = None

-- an insertion may be anywhere before the tail; after the D of DB comes its B
abbrev pub insertion_by : Stage → ℕ → Shape → Option Shape
insertion_by (stages.Letter letter) symbol shape =
    if letter == symbol_d && symbol == symbol_b
    then Some (record shape { stage = stages.Ended }) else None
insertion_by stage symbol shape = body_by stage shape

-- there is one point
abbrev pub point_by : Stage → Shape → Option Shape
point_by stage shape = if shape.point then None else body_by stage (record shape { point = true })

-- ---- CR and DB

-- the tail begins after a digit
abbrev pub letter_by : Stage → ℕ → Shape → Option Shape
letter_by stages.InString letter shape = signed (stages.Letter letter) shape
letter_by stages.Nines letter shape = signed (stages.Letter letter) shape
letter_by _ letter shape = None

-- after the C of CR comes its R
abbrev pub last_letter_by : Stage → Shape → Option Shape
last_letter_by (stages.Letter letter) shape =
    if letter == symbol_c then Some (record shape { stage = stages.Ended }) else None
last_letter_by _ shape = None

-- ---- all symbols

-- the mask with one symbol more, where it may come
unfoldable pub behind : ℕ → Shape → Option Shape
behind symbol shape =
    if is_sign symbol then sign_by shape.stage symbol shape else
    if symbol == symbol_dollar then dollar_by shape.stage shape else
    if is_suppressor symbol then suppressor_by shape.stage symbol shape else
    if symbol == symbol_9 then nine_by shape.stage shape else
    if is_insertion symbol then insertion_by shape.stage symbol shape else
    if is_point symbol then point_by shape.stage shape else
    if is_tail_letter symbol then letter_by shape.stage symbol shape else
    if symbol == symbol_r then last_letter_by shape.stage shape else None

-- ---- the digits

-- left and right of the point together
abbrev pub digits : Shape → ℕ
digits shape = shape.whole + shape.part

-- the tail isn't whole
abbrev pub is_half : Stage → Bool
is_half (stages.Letter letter) = true
is_half _ = false

-- a mask has a digit, and its tail is whole
abbrev pub is_whole : Shape → Bool
is_whole shape = not (digits shape == 0) && not (is_half shape.stage)
