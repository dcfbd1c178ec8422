-- What is wrong with how operands are used in statements, as far as their kinds say so; what is
-- made of them in the tree.
use Rattle.std.specs.Prelude.{ℕ, ◌==◌, Bool, false, List, [], ◌∷◌, Option, Some, None, if◌then◌else◌}
use Rattle.cob_tree.specs.declared.entry.Entry.{Entry}
use Rattle.cob_tree.specs.declared.place.Figure.TheVariants as figures
use Rattle.cob_tree.specs.declared.place.Operand.{Operand}
use Rattle.cob_tree.specs.declared.place.Operand.TheVariants as operands
use Rattle.cob_tree.specs.declared.place.Place.{Place, out-Place, roll-Place}
use Rattle.parser_combinators.specs.declared.note.Note.{Note}
use Rattle.parser_combinators.specs.declared.note.Position.{Position}
use Rattle.symbol_tables.specs.data_names.Names.{kind_of}
use Rattle.cobol_grammar.specs.declared.expr_forms.side.ExprContent.{ExprContent}
use Rattle.cobol_grammar.specs.declared.expr_forms.side.ExprContent.TheVariants as makes
use Rattle.cobol_grammar.specs.declared.expr_forms.side.Side.{Side}
use Rattle.cobol_grammar.specs.declared.expr_forms.side.ValueKind.{ValueKind}
use Rattle.cobol_grammar.specs.declared.expr_forms.side.ValueKind.TheVariants as kinds
use Rattle.cobol_grammar.specs.declared.expr_forms.side.ParsedExpr.{ParsedExpr}
use Rattle.cobol_grammar.specs.declared.expr_forms.side.ParsedExpr.TheVariants as whats
use Rattle.cobol_grammar.specs.expr_forms.Fault.{usage, inexact_fault, compared_as, item_kind}
use Rattle.cobol_grammar.specs.declared.subject_kind.SubjectKind.{SubjectKind}

-- ---- what is in the tree

-- an item without qualifiers, subscripts and window
abbrev pub bare_place : ℕ → Place
bare_place item = roll-Place (record { item = item; of = []; subs = []; window = None })

-- the operand that a side is; none is a sum
abbrev pub operand_of : ParsedExpr → Operand
operand_of (whats.Ref place) = operands.Place place
operand_of (whats.Literal operand) = operand
operand_of (whats.Enclosed place) = operands.Place place
operand_of (whats.Sum expr) = operands.Figure figures.Zero

-- the place of a reference; no other side is asked for one
abbrev pub place_of : ParsedExpr → Place
place_of (whats.Ref place) = place
place_of (whats.Literal operand) = bare_place 0
place_of (whats.Enclosed place) = place
place_of (whats.Sum expr) = bare_place 0

-- the number of the entry that a reference names
abbrev pub entry_of : ParsedExpr → ℕ
entry_of (whats.Ref place) = (out-Place place).item
entry_of (whats.Literal operand) = 0
entry_of (whats.Enclosed place) = (out-Place place).item
entry_of (whats.Sum expr) = 0

-- ---- moves

-- a usage fault, unless it is whole
abbrev pub unless_whole : (whole : Bool) → Position → Option Note
unless_whole whole position = if whole then None else usage position

-- only an item's number may go to a group whatever its decimals
abbrev pub to_group_fault : ExprContent → (whole : Bool) → Position → Option Note
to_group_fault makes.Literal whole position = unless_whole whole position
to_group_fault _ whole position = None

-- a number with decimals moved to text; an edited item takes any number
abbrev pub number_moved : ExprContent → (whole : Bool) → (to : ValueKind) → Position → Option Note
number_moved make whole kinds.Text position = unless_whole whole position
number_moved make whole kinds.Group position = to_group_fault make whole position
number_moved make whole _ position = None

-- what can't become a number, moved to one
abbrev pub to_number_fault : (to : ValueKind) → Position → Option Note
to_number_fault (kinds.Number whole) position = usage position
to_number_fault _ position = None

-- the fault of a move, which is at the position; an edited item, and a figurative constant other
-- than ZERO, can't become a number
abbrev pub moved_fault : ExprContent → (from to : ValueKind) → Position → Option Note
moved_fault make (kinds.Number whole) to position = number_moved make whole to position
moved_fault make kinds.Edited to position = to_number_fault to position
moved_fault make kinds.Figure to position = to_number_fault to position
moved_fault make _ to position = None

-- what is wrong with a move from the one to the other; the fault is at the sender
abbrev pub move_fault : (from to : Side) → Option Note
move_fault from to = moved_fault from.make from.kind to.kind from.position

-- the entry is of this file
abbrev pub is_of_file : ℕ → Option ℕ → Bool
is_of_file file None = false
is_of_file file (Some other) = other == file

-- what a file's first record holds
abbrev pub record_kind : List Entry → (file : ℕ) → ValueKind
record_kind [] file = kinds.Unknown
record_kind (entry ∷ behind) file =
    if is_of_file file entry.file then item_kind (kind_of entry behind) else record_kind behind file

-- what is wrong with READ INTO, which moves the file's first record; the fault is at the receiver
abbrev pub into_fault : List Entry → (file : Option ℕ) → (to : Side) → Option Note
into_fault entries None to = None
into_fault entries (Some file) to =
    moved_fault makes.Item (record_kind entries file) to.kind to.position

-- ---- EVALUATE

-- what is known of a subject, for what it is compared with
abbrev pub known_of : Side → SubjectKind
known_of side = record { kind = side.kind; make = side.make; position = side.position }

-- what is wrong with a subject of this kind and a value of that kind
abbrev pub compared_fault : ValueKind → ValueKind → SubjectKind → Side → Option Note
compared_fault kinds.Text (kinds.Number whole) known side =
    inexact_fault side.make side.kind side.position
compared_fault (kinds.Number whole) kinds.Text known side =
    inexact_fault known.make known.kind known.position
compared_fault (kinds.Number whole) kinds.Figure known side = usage side.position
compared_fault kinds.Figure (kinds.Number whole) known side = usage known.position
compared_fault _ _ known side = None

-- a subject and what it is compared with
unfoldable pub subject_fault : SubjectKind → Side → Option Note
subject_fault known side =
    compared_fault (compared_as known.kind) (compared_as side.kind) known side
