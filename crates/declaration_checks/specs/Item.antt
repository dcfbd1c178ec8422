-- The rules on an entry's level, picture, sign and repetitions (ISO 1989:1985, the data description
-- entry).
use Rattle.std.specs.Prelude.{ℕ, Bool, true, false, not, ◌&&◌, ◌||◌, ◌==◌, nat_le, List, ◌∷◌, [], Option, Some, None}
use Rattle.std.specs.Option.{is_some}
use Rattle.cob_tree.specs.declared.picture.Picture.{Picture}
use Rattle.cob_tree.specs.declared.picture.Picture.TheVariants as pictures
use Rattle.cobol_grammar.specs.declared.data_forms.draft.Clause.{Clause}
use Rattle.cobol_grammar.specs.declared.data_forms.draft.Clause.TheVariants as drafts
use Rattle.parser_combinators.specs.declared.note.NameKind.TheVariants.{Picture as BadPicture, Usage}
use Rattle.parser_combinators.specs.declared.note.Note.{Note}
use Rattle.parser_combinators.specs.declared.note.Position.{Position}
use Rattle.declaration_checks.specs.declared.clause.ClauseKind.TheVariants as kinds
use Rattle.declaration_checks.specs.Base.{is_count, number_of}
use Rattle.declaration_checks.specs.Clause.{clause_of}
use Rattle.declaration_checks.specs.Fault.{fault_unless, first_of}

-- LEVEL: 01 and 77 stand alone, any other in an item or a group; 0 stands for what is no level.
-- That nothing is below a picture needs no rule here: that fault of the group comes before.
abbrev pub level_stands : ℕ → Option ℕ → Bool
level_stands level holder =
    level == 1 || (level == 77 || (not (level == 0) && is_some holder))

-- what is wrong with an entry's PICTURE: an item has one, a group has none
abbrev pub picture_by : Option Picture → (group : Bool) → Position → Option Clause → Option Note
picture_by picture group at (Some (drafts.Picture clause_at text text_at)) =
    fault_unless (not group && is_some picture) BadPicture text_at
picture_by picture group at _ = fault_unless group BadPicture at

-- what is wrong with an entry's picture
abbrev pub picture_fault : Option Picture → (group : Bool) → Position → List Clause → Option Note
picture_fault picture group at clauses =
    picture_by picture group at (clause_of kinds.Picture clauses)

-- the picture is of a number with a sign
abbrev pub is_signed : Option Picture → Bool
is_signed (Some (pictures.Number signed whole part)) = signed
is_signed _ = false

-- a separate sign is on an item that is a signed number, and LEADING only with SEPARATE
abbrev pub sign_stands : (signed leading separate : Bool) → Bool
sign_stands signed leading true = signed
sign_stands signed leading false = not leading

-- what is wrong with a SIGN clause: it is where none may be
abbrev pub sign_by : Option Picture → (group : Bool) → Option Clause → Option Note
sign_by picture group (Some (drafts.Sign at leading separate)) =
    fault_unless (sign_stands (not group && is_signed picture) leading separate) Usage at
sign_by picture group _ = None

-- what is wrong with an entry's SIGN clause
abbrev pub sign_fault : Option Picture → (group : Bool) → List Clause → Option Note
sign_fault picture group clauses = sign_by picture group (clause_of kinds.Sign clauses)

-- not on 01 or 77, and at most two above it repeat
abbrev pub may_repeat : (level dims : ℕ) → Bool
may_repeat level dims = not (level == 1) && (not (level == 77) && nat_le dims 2)

-- what is wrong with an OCCURS clause: it is where none may be, or doesn't count from 1 to 65,535
-- times
abbrev pub occurs_by : (level dims : ℕ) → Option Clause → Option Note
occurs_by level dims (Some (drafts.Occurs at count count_at)) =
    first_of
    (fault_unless (may_repeat level dims) Usage at
    ∷ fault_unless (is_count (number_of count)) Usage count_at ∷ [])
occurs_by level dims _ = None

-- what is wrong with an entry's OCCURS clause
abbrev pub occurs_fault : (level dims : ℕ) → List Clause → Option Note
occurs_fault level dims clauses = occurs_by level dims (clause_of kinds.Occurs clauses)
