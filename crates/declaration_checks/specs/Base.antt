-- What a draft says of its entry by itself. 0 stands for each item that is redefined, DISPLAY for
-- each usage.
use Rattle.std.specs.Prelude.{ℕ, ◌+◌, ◌-◌, ◌*◌, ◌^◌, min, Bool, true, false, ◌&&◌, ◌||◌, ◌==◌, nat_lt, nat_le, List, [], ◌∷◌, length, map, Option, Some, None, Result, Ok, Err, if◌then◌else◌}
use Rattle.std.specs.List.{fold, list_any}
use Rattle.cob_base.specs.Bytes.{digit_0}
use Rattle.cob_tree.specs.declared.entry.Entry.{Entry}
use Rattle.cob_tree.specs.declared.entry.Span.{Span}
use Rattle.cob_tree.specs.declared.picture.Picture.{Picture}
use Rattle.cob_tree.specs.declared.picture.Sign.{Sign}
use Rattle.cob_tree.specs.declared.picture.Sign.TheVariants as signs
use Rattle.cob_tree.specs.declared.picture.Usage.TheVariants as usages
use Rattle.cob_tree.specs.declared.place.Operand.{Operand}
use Rattle.cobol_grammar.specs.declared.data_forms.draft.Clause.{Clause}
use Rattle.cobol_grammar.specs.declared.data_forms.draft.Clause.TheVariants as drafts
use Rattle.cobol_grammar.specs.declared.data_forms.draft.EntryDraft.{EntryDraft}
use Rattle.cobol_grammar.specs.declared.data_forms.draft.SpanDraft.{SpanDraft}
use Rattle.cobol_grammar.specs.declared.data_forms.draft.ThruDraft.{ThruDraft}
use Rattle.picture_data.specs.declared.fault.PictureFault.{PictureFault}
use Rattle.picture_data.specs.Reading.{picture_of as picture_of_text}
use Rattle.declaration_checks.specs.declared.clause.ClauseKind.TheVariants as kinds
use Rattle.declaration_checks.specs.Clause.{clause_of, is_of}

-- the number with one more digit; one past the last of 32 bits counts as that
abbrev pub with_digit : ℕ → ℕ → ℕ
with_digit number digit = min (min (number * 10) (2 ^ 32 - 1) + (digit - digit_0)) (2 ^ 32 - 1)

-- the number that these digits spell, up to the last of 32 bits
abbrev pub number_of : List ℕ → ℕ
number_of digits = fold with_digit 0 digits

-- the level of this number: 01 to 49, 77 or 88; 0 stands for any other number
abbrev pub level_by : ℕ → ℕ
level_by number = if nat_lt number 50 || (number == 77 || number == 88) then number else 0

-- the level that these digits spell
abbrev pub level_of : List ℕ → ℕ
level_of digits = level_by (number_of digits)

-- the picture, if the text is one
abbrev pub picture_if : Result Picture PictureFault → Option Picture
picture_if (Ok picture) = Some picture
picture_if (Err fault) = None

-- the picture of this text; one of 2^31 bytes, which no source has, is none
abbrev pub picture_by : List ℕ → Option Picture
picture_by text = if nat_lt (length text) (2 ^ 31) then picture_if (picture_of_text text) else None

-- the picture of a PICTURE clause
abbrev pub picture_in : Option Clause → Option Picture
picture_in (Some (drafts.Picture at text text_at)) = picture_by text
picture_in _ = None

-- the picture of the first PICTURE clause, where it is one
abbrev pub picture_of : List Clause → Option Picture
picture_of clauses = picture_in (clause_of kinds.Picture clauses)

-- how an item holds its sign
abbrev pub sign_by : (leading separate : Bool) → Sign
sign_by leading false = signs.Within
sign_by true true = signs.SeparateLeading
sign_by false true = signs.SeparateTrailing

-- how an item holds its sign, by its SIGN clause
abbrev pub sign_in : Option Clause → Sign
sign_in (Some (drafts.Sign at leading separate)) = sign_by leading separate
sign_in _ = signs.Within

-- how an item holds its sign, by the first SIGN clause
abbrev pub sign_of : List Clause → Sign
sign_of clauses = sign_in (clause_of kinds.Sign clauses)

-- an item may occur so often: from 1 to 65,535 times
abbrev pub is_count : ℕ → Bool
is_count number = nat_le 1 number && nat_le number 65535

-- how often these digits say that an item occurs
abbrev pub count_of : List ℕ → ℕ
count_of digits = if is_count (number_of digits) then number_of digits else 1

-- how often an item occurs, by its OCCURS clause
abbrev pub occurs_in : Option Clause → Option ℕ
occurs_in (Some (drafts.Occurs at count count_at)) = Some (count_of count)
occurs_in _ = None

-- how often an item occurs, by the first OCCURS clause
abbrev pub occurs_of : List Clause → Option ℕ
occurs_of clauses = occurs_in (clause_of kinds.Occurs clauses)

-- the values of a VALUE clause
abbrev pub spans_in : Option Clause → List SpanDraft
spans_in (Some (drafts.Value at spans)) = spans
spans_in _ = []

-- the values of the first VALUE clause
abbrev pub spans_of : List Clause → List SpanDraft
spans_of clauses = spans_in (clause_of kinds.Value clauses)

-- the first of these values
abbrev pub value_of : List SpanDraft → Option Operand
value_of [] = None
value_of (span ∷ spans) = Some span.from

-- the end of a range of values, if it is one
abbrev pub to_of : Option ThruDraft → Option Operand
to_of None = None
to_of (Some thru) = Some thru.to

-- a value or a range of values
abbrev pub span_of : SpanDraft → Span
span_of span = record { from = span.from; to = to_of span.thru }

-- 0 where there is a REDEFINES clause
abbrev pub redefines_of : List Clause → Option ℕ
redefines_of clauses = if list_any (is_of kinds.Redefines) clauses then Some 0 else None

-- the entry of a level 88
abbrev pub condition_of : EntryDraft → Option ℕ → Entry
condition_of draft file = record {
  level = 88;
  name = draft.name;
  file = file;
  redefines = None;
  picture = None;
  sign = signs.Within;
  usage = usages.Display;
  occurs = None;
  value = None;
  ranges = map span_of (spans_of draft.clauses);
}

-- the entry of an item of this level
abbrev pub item_of : EntryDraft → ℕ → Option ℕ → Entry
item_of draft level file = record {
  level = level;
  name = draft.name;
  file = file;
  redefines = redefines_of draft.clauses;
  picture = picture_of draft.clauses;
  sign = sign_of draft.clauses;
  usage = usages.Display;
  occurs = occurs_of draft.clauses;
  value = value_of (spans_of draft.clauses);
  ranges = [];
}

-- the entry of a draft of this level
abbrev pub base_by : EntryDraft → ℕ → Option ℕ → Entry
base_by draft level file =
    if level == 88 then condition_of draft file else item_of draft level file

-- the entry of a draft, in the FD of a file or in none
abbrev pub base_of : Option ℕ → EntryDraft → Entry
base_of file draft = base_by draft (level_of draft.level) file
