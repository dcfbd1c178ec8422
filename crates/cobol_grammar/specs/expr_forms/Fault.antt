-- What is wrong with how a side is used, as far as its kind says so.
use Rattle.std.specs.Prelude.{ℕ, ◌==◌, not, Bool, true, false, ◌&&◌, Option, Some, None, if◌then◌else◌}
use Rattle.parser_combinators.specs.declared.note.Note.{Note}
use Rattle.parser_combinators.specs.declared.note.NameKind.{NameKind}
use Rattle.parser_combinators.specs.declared.note.NameKind.TheVariants as faults
use Rattle.parser_combinators.specs.declared.note.Position.{Position}
use Rattle.symbol_tables.specs.declared.data_names.name.ItemKind.{ItemKind}
use Rattle.symbol_tables.specs.declared.data_names.name.ItemKind.TheVariants as items
use Rattle.symbol_tables.specs.declared.data_names.name.Referent.{Referent}
use Rattle.symbol_tables.specs.declared.data_names.name.Referent.TheVariants as found
use Rattle.cobol_grammar.specs.declared.expr_forms.side.ExprContent.{ExprContent}
use Rattle.cobol_grammar.specs.declared.expr_forms.side.ExprContent.TheVariants as makes
use Rattle.cobol_grammar.specs.declared.expr_forms.side.Side.{Side}
use Rattle.cobol_grammar.specs.declared.expr_forms.side.ValueKind.{ValueKind}
use Rattle.cobol_grammar.specs.declared.expr_forms.side.ValueKind.TheVariants as kinds

-- a fault of this kind, at this position
abbrev pub fault_at : NameKind → Position → Option Note
fault_at kind position = Some (record { kind = kind; position = position })

-- a name of the wrong use
abbrev pub usage : Position → Option Note
usage position = fault_at faults.Usage position

-- a number without decimals; what an unknown name stands for is not held against it
abbrev pub is_whole : ValueKind → Bool
is_whole (kinds.Number whole) = whole
is_whole kinds.Unknown = true
is_whole _ = false

-- what isn't a number is a usage fault
abbrev pub number_fault_at : Position → ValueKind → Option Note
number_fault_at position (kinds.Number whole) = None
number_fault_at position kinds.Unknown = None
number_fault_at position _ = usage position

-- the fault of a side that is under an operator or a sign and isn't a number
unfoldable pub number_fault : Side → Option Note
number_fault side = number_fault_at side.leaf side.kind

-- what is neither a number nor an edited item is a usage fault
abbrev pub result_fault_at : Position → ValueKind → Option Note
result_fault_at position kinds.Edited = None
result_fault_at position kind = number_fault_at position kind

-- the fault of a side after GIVING or of COMPUTE that can't take a result
unfoldable pub result_fault : Side → Option Note
result_fault side = result_fault_at side.leaf side.kind

-- what isn't a number without decimals is a usage fault
unfoldable pub whole_fault_at : Position → ValueKind → Option Note
whole_fault_at position (kinds.Number whole) = if whole then None else usage position
whole_fault_at position kinds.Unknown = None
whole_fault_at position _ = usage position

-- the fault of a side that is in a window and isn't a number without decimals
abbrev pub whole_fault : Side → Option Note
whole_fault side = whole_fault_at side.position side.kind

-- the name of a level 88 is a usage fault
abbrev pub value_fault_at : Position → ValueKind → Option Note
value_fault_at position kinds.Condition = usage position
value_fault_at position _ = None

-- the fault of a side that is the name of a level 88, and so no value
unfoldable pub value_fault : Side → Option Note
value_fault side = value_fault_at side.leaf side.kind

-- what isn't the name of a level 88 is a usage fault
abbrev pub condition_fault_at : Position → ValueKind → Option Note
condition_fault_at position kinds.Condition = None
condition_fault_at position kinds.Unknown = None
condition_fault_at position _ = usage position

-- the fault of a side that isn't the name of a level 88, and so no condition
unfoldable pub condition_fault : Side → Option Note
condition_fault side = condition_fault_at side.leaf side.kind

-- ---- relations

-- what was joined, or isn't a number without decimals, is a usage fault beside text
abbrev pub inexact_fault : ExprContent → ValueKind → Position → Option Note
inexact_fault makes.Joined kind position = usage position
inexact_fault _ kind position = whole_fault_at position kind

-- the kind as which a value is compared: an edited item and a group as text
abbrev pub compared_as : ValueKind → ValueKind
compared_as kinds.Edited = kinds.Text
compared_as kinds.Group = kinds.Text
compared_as kind = kind

-- what is wrong with a relation between sides of these kinds
abbrev pub kinds_fault : ValueKind → ValueKind → (left right : Side) → Option Note
kinds_fault kinds.Text (kinds.Number whole) left right =
    inexact_fault right.make right.kind right.position
kinds_fault (kinds.Number whole) kinds.Text left right =
    inexact_fault left.make left.kind left.position
kinds_fault (kinds.Number whole) kinds.Figure left right = usage right.position
kinds_fault kinds.Figure (kinds.Number whole) left right = usage left.position
kinds_fault _ _ left right = None

-- what is wrong with a relation: two literals, or two kinds that don't go together
abbrev pub makes_fault : ExprContent → ExprContent → (left right : Side) → Option Note
makes_fault makes.Literal makes.Literal left right = usage right.position
makes_fault _ _ left right = kinds_fault (compared_as left.kind) (compared_as right.kind) left right

-- the fault of a relation of two literals, of text beside a number that isn't without decimals, or
-- of a figurative constant beside a number
unfoldable pub relation_fault : Side → Side → Option Note
relation_fault left right = makes_fault left.make right.make left right

-- ---- names

-- the number of the item that was found
abbrev pub item_of : Referent → ℕ
item_of (found.Item item kind dims) = item
item_of _ = 0

-- the kind of value that an item of this kind holds
abbrev pub item_kind : ItemKind → ValueKind
item_kind (items.Number whole) = kinds.Number whole
item_kind items.Text = kinds.Text
item_kind items.Edited = kinds.Edited
item_kind items.Group = kinds.Group
item_kind items.Condition = kinds.Condition

-- the kind of value of what was found
abbrev pub kind_of : Referent → ValueKind
kind_of (found.Item item kind dims) = item_kind kind
kind_of _ = kinds.Unknown

-- the kind is the name of a level 88
abbrev pub is_condition : ValueKind → Bool
is_condition kinds.Condition = true
is_condition _ = false

-- a name with so many subscripts after it, and with a window or none
unfoldable pub found_fault : Referent → (subs : ℕ) → (windowed : Bool) → Position → Option Note
found_fault found.Unknown subs windowed position = fault_at faults.Unknown position
found_fault found.Ambiguous subs windowed position = fault_at faults.Ambiguous position
found_fault (found.Item item kind dims) subs windowed position =
    if dims == subs && not (is_condition (item_kind kind) && windowed) then None else usage position
