-- Kept lines as one text.
use Rattle.std.specs.Prelude.{ℕ, ◌≡◌, ◌==◌, ◌&&◌, ◌||◌, not, Bool, false, is_none, if◌then◌else◌, List, [], ◌∷◌, ◌++◌, drop, reverse, slice_index, Option, Some, None, Result, Ok, Err}
use Rattle.std.specs.List.{list_any}
use Rattle.cob_base.specs.Bytes.{line_feed, space, quote, apostrophe}
use Rattle.ref_format.specs.declared.placed.Placed.{Placed}
use Rattle.ref_format.specs.declared.fault.FormatFault.{FormatFault}
use Rattle.ref_format.specs.declared.fault.FormatError.{FormatError}
use Rattle.ref_format.specs.declared.fault.FormatError.TheVariants.{Fault}
use Rattle.ref_format.specs.declared.fault.FormatFault.TheVariants.{BadIndicator, BadByte, BadContinuation}
use Rattle.ref_format.specs.declared.joining.Joining.{Joining}
use Rattle.ref_format.specs.declared.joining.Literal.{Literal}
use Rattle.ref_format.specs.declared.joining.Literal.TheVariants.{Closed, InQuotes, InApostrophes}
use Rattle.ref_format.specs.Column.{columns, is_ordinary, is_continuation, is_blank, has_control, unspaced}
use Rattle.ref_format.specs.Line.{Line, kept_lines}
use Rattle.ref_format.specs.Placed.{placed, bytes_of}

-- ---- literals

-- the literal that is open after one byte more: a mark opens one and the same mark closes it; so
-- does a line's end
abbrev pub behind_byte : Literal → ℕ → Literal
behind_byte Closed b =
    if b == quote then InQuotes else if b == apostrophe then InApostrophes else Closed
behind_byte InQuotes b = if b == quote || b == line_feed then Closed else InQuotes
behind_byte InApostrophes b = if b == apostrophe || b == line_feed then Closed else InApostrophes

-- the literal that is open after these bytes
abbrev pub behind : Literal → List ℕ → Literal
behind literal [] = literal
behind literal (b ∷ bs) = behind (behind_byte literal b) bs

-- the literal that is open at the text's end
abbrev pub literal_at_end : List Placed → Literal
literal_at_end text = behind Closed (bytes_of text)

-- a mark that could open a literal is among the bytes
abbrev pub has_mark : List ℕ → Bool
has_mark bytes = list_any (λ b. b == quote) bytes || list_any (λ b. b == apostrophe) bytes

-- ---- what a line adds

-- less the spaces in front
abbrev pub unspaced_front : List Placed → List Placed
unspaced_front [] = []
unspaced_front (p ∷ text) = if p.byte == space then unspaced_front text else p ∷ text

-- a space is in front
abbrev pub begins_in_space : List Placed → Bool
begins_in_space [] = false
begins_in_space (p ∷ text) = p.byte == space

-- a space is at the end
abbrev pub ends_in_space : List Placed → Bool
ends_in_space text = begins_in_space (reverse text)

-- less the spaces at the end
abbrev pub unspaced_end : List Placed → List Placed
unspaced_end text = reverse (unspaced_front (reverse text))

-- what a continuation keeps of the text before it: outside a literal the spaces at its end go
abbrev pub trimmed : Literal → List Placed → List Placed
trimmed Closed text = unspaced_end text
trimmed _ text = text

-- what a continuation goes on with: within a literal the mark in front goes
abbrev pub continuing : Literal → List ℕ → List ℕ
continuing Closed card = unspaced (columns 12 72 card)
continuing _ card = drop 1 (unspaced (columns 12 72 card))

-- the end of the kept line before, where there is one
abbrev pub line_end : Option ℕ → List Placed
line_end None = []
line_end (Some number) = placed number (line_feed ∷ [])

-- this text with a continuation after it
abbrev pub with_continuation : List Placed → Line → List Placed
with_continuation text line =
    trimmed (literal_at_end text) text
    ++ placed line.number (continuing (literal_at_end text) line.card)

-- this text, whose last kept line is `last`, with a line after it
abbrev pub with_line : Option ℕ → List Placed → Line → List Placed
with_line last text line =
    if is_continuation line.card
    then with_continuation text line
    else text ++ line_end last ++ placed line.number (columns 8 72 line.card)

-- ---- faults

-- these bytes, with which a continuation begins, lack the mark of the open literal
abbrev pub lacks_mark : Literal → List ℕ → Bool
lacks_mark Closed bytes = false
lacks_mark InQuotes bytes = not (slice_index bytes 0 == quote)
lacks_mark InApostrophes bytes = not (slice_index bytes 0 == apostrophe)

-- a continuation has no kept line before it, something in columns 8 to 11, nothing from column 12
-- on, or not the mark of the open literal
abbrev pub is_bad_continuation : Option ℕ → Literal → List ℕ → Bool
is_bad_continuation last literal card =
    is_none last || not (is_blank (columns 8 11 card)) || is_blank (columns 12 72 card)
    || lacks_mark literal (unspaced (columns 12 72 card))

-- the fault of a kept line, after this kept line and within this literal
abbrev pub fault_of : Option ℕ → Literal → Line → Option FormatFault
fault_of last literal line =
    if not (is_ordinary line.card || is_continuation line.card) then Some (BadIndicator line.number)
    else if has_control (columns 8 72 line.card) then Some (BadByte line.number)
    else if is_continuation line.card && is_bad_continuation last literal line.card
    then Some (BadContinuation line.number)
    else None

-- ---- the text

-- the fault, or else this
abbrev pub joined_or : {A : Type 0} → Option FormatFault → Result A FormatError →
    Result A FormatError
joined_or (Some fault) rest = Err (Fault fault)
joined_or None rest = rest

-- this text, whose last kept line is `last`, with these lines after it, or their first fault
abbrev pub joined : Option ℕ → List Placed → List Line → Result (List Placed) FormatError
joined last text [] = Ok text
joined last text (line ∷ lines) =
    joined_or (fault_of last (literal_at_end text) line)
    (joined (Some line.number) (with_line last text line) lines)

-- the program text of a source, or its first fault
unfoldable pub program_text : List ℕ → Result (List Placed) FormatError
program_text bytes = joined None [] (kept_lines bytes)

-- ---- the text so far, as the code holds it

-- the literal is the one that is open at the text's end, and the text begins with a kept line
pub record IsSound (joining : Joining) : Type 0 where
  -- the literal is the one that is open at the end
  pub open_at_end : joining.literal ≡ literal_at_end joining.text
  -- without a kept line there is no text
  pub begins : joining.last ≡ None → joining.text ≡ []
