-- Entries of the data division as units.
use Rattle.std.specs.Prelude.{ℕ, ◌==◌, ◌||◌, nat_lt, List, [], ◌∷◌, ◌++◌, map, Option, Some, None, codes, decimal, if◌then◌else◌}
use Rattle.cob_base.specs.Bytes.{digit_0}
use Rattle.cob_tree.specs.declared.entry.Entry.{Entry}
use Rattle.cob_tree.specs.declared.entry.Span.{Span}
use Rattle.cob_tree.specs.declared.picture.Picture.{Picture}
use Rattle.cob_tree.specs.declared.picture.Sign.{Sign}
use Rattle.cob_tree.specs.declared.picture.Sign.TheVariants.{Within, SeparateLeading, SeparateTrailing}
use Rattle.cob_tree.specs.declared.picture.Usage.{Usage}
use Rattle.cob_tree.specs.declared.picture.Usage.TheVariants.{Display, Binary, Packed}
use Rattle.cob_tree.specs.declared.place.Operand.{Operand}
use Rattle.cob_tree.specs.declared.program.Program.{Program}
use Rattle.cobol_lex.specs.declared.token.TokenKind.TheVariants as kind
use Rattle.unparser.specs.Token.{Tokens, joined}
use Rattle.unparser.specs.Place.{entry_name, item_name, operand_tokens}
use Rattle.cobol_print.specs.declared.units.unit.PrintUnit.{PrintUnit}
use Rattle.cobol_print.specs.units.Picture.{picture_text}
use Rattle.cobol_print.specs.units.Unit.{unit_at}

-- the two digits of a level number
abbrev pub level_text : ℕ → List ℕ
level_text level = (if nat_lt level 10 then digit_0 ∷ [] else []) ++ decimal level

-- where an entry of this level begins
abbrev pub level_column : ℕ → ℕ
level_column level = if level == 1 || level == 77 then 8 else 12

-- ---- the clauses of an entry

-- the REDEFINES clause, if there is one
abbrev pub redefines_tokens : Program → Option ℕ → Tokens
redefines_tokens program None = []
redefines_tokens program (Some number) =
    kind.Word (codes "REDEFINES") ∷ kind.Word (item_name program number) ∷ []

-- the PICTURE clause, if there is one
abbrev pub picture_tokens : Option Picture → Tokens
picture_tokens None = []
picture_tokens (Some picture) =
    kind.Word (codes "PIC") ∷ kind.Picture (picture_text picture) ∷ []

-- the USAGE clause, which is its word alone; DISPLAY has none
abbrev pub usage_tokens : Usage → Tokens
usage_tokens Display = []
usage_tokens Binary = kind.Word (codes "BINARY") ∷ []
usage_tokens Packed = kind.Word (codes "PACKED-DECIMAL") ∷ []

-- the SIGN clause; a sign within the last digit has none
abbrev pub sign_tokens : Sign → Tokens
sign_tokens Within = []
sign_tokens SeparateLeading =
    kind.Word (codes "SIGN") ∷ kind.Word (codes "LEADING") ∷ kind.Word (codes "SEPARATE") ∷ []
sign_tokens SeparateTrailing =
    kind.Word (codes "SIGN") ∷ kind.Word (codes "TRAILING") ∷ kind.Word (codes "SEPARATE") ∷ []

-- the OCCURS clause, if there is one
abbrev pub occurs_tokens : Option ℕ → Tokens
occurs_tokens None = []
occurs_tokens (Some count) = kind.Word (codes "OCCURS") ∷ kind.Digits (decimal count) ∷ []

-- the VALUE clause, if there is one
abbrev pub value_tokens : Program → Option Operand → Tokens
value_tokens program None = []
value_tokens program (Some value) = kind.Word (codes "VALUE") ∷ operand_tokens program value

-- the end of a range of values, if it is one
abbrev pub thru_operand : Program → Option Operand → Tokens
thru_operand program None = []
thru_operand program (Some to) = kind.Word (codes "THRU") ∷ operand_tokens program to

-- a value or a range of values
abbrev pub span_tokens : Program → Span → Tokens
span_tokens program span = operand_tokens program span.from ++ thru_operand program span.to

-- values and ranges of values
abbrev pub spans_tokens : Program → List Span → Tokens
spans_tokens program spans = joined (map (span_tokens program) spans)

-- the values of a condition name
abbrev pub ranges_tokens : Program → List Span → Tokens
ranges_tokens program [] = []
ranges_tokens program (span ∷ spans) =
    kind.Word (codes "VALUE") ∷ spans_tokens program (span ∷ spans)

-- the clauses of an entry
abbrev pub clauses_tokens : Program → Entry → Tokens
clauses_tokens program entry =
    redefines_tokens program entry.redefines ++ picture_tokens entry.picture
    ++ usage_tokens entry.usage ++ sign_tokens entry.sign ++ occurs_tokens entry.occurs
    ++ value_tokens program entry.value ++ ranges_tokens program entry.ranges

-- an entry
abbrev pub entry_unit : Program → Entry → PrintUnit
entry_unit program entry =
    unit_at (level_column entry.level)
    (kind.Digits (level_text entry.level) ∷ kind.Word (entry_name (Some entry))
    ∷ clauses_tokens program entry ++ kind.Period ∷ [])
