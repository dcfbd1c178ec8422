-- Which fault counts: of several the first in the order of tokens, and at one token the first kind.
use Rattle.std.specs.Prelude.{Bool, List, Option, Some, None, if◌then◌else◌}
use Rattle.std.specs.List.{fold}
use Rattle.parser_combinators.specs.declared.note.NameKind.{NameKind}
use Rattle.parser_combinators.specs.declared.note.Note.{Note}
use Rattle.parser_combinators.specs.declared.note.Position.{Position}
use Rattle.parser_combinators.specs.Note.{earliest}

-- a fault of this kind, at this position
abbrev pub fault_at : NameKind → Position → Option Note
fault_at kind position = Some (record { kind = kind; position = position })

-- the fault, unless something holds
abbrev pub fault_unless : Bool → NameKind → Position → Option Note
fault_unless holds kind position = if holds then None else fault_at kind position

-- the one that counts of these, where there is one
abbrev pub first_of : List (Option Note) → Option Note
first_of faults = fold earliest None faults
