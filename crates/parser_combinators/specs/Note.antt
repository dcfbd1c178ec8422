-- Which of two name faults counts.
use Rattle.std.specs.Prelude.{ℕ, Bool, ◌==◌, nat_lt, Option, Some, None, if◌then◌else◌}
use Rattle.parser_combinators.specs.declared.note.Note.{Note}
use Rattle.parser_combinators.specs.declared.note.NameKind.{NameKind}
use Rattle.parser_combinators.specs.declared.note.NameKind.TheVariants as kinds

-- the order of the kinds
abbrev pub rank : NameKind → ℕ
rank kinds.Duplicate = 0
rank kinds.Unknown = 1
rank kinds.Ambiguous = 2
rank kinds.Level = 3
rank kinds.Picture = 4
rank kinds.Redefines = 5
rank kinds.Value = 6
rank kinds.Usage = 7

-- the first is at an earlier token, or at the same one and its kind comes first
abbrev pub precedes : Note → Note → Bool
precedes a b =
    if a.position.index == b.position.index then nat_lt (rank a.kind) (rank b.kind)
    else nat_lt a.position.index b.position.index

-- the one that counts; of two alike the first that was noted
abbrev pub earliest : Option Note → Option Note → Option Note
earliest None late = late
earliest (Some early) None = Some early
earliest (Some early) (Some late) = if precedes late early then Some late else Some early
