-- The limits, and how one that was passed is reported.
use Rattle.std.specs.Prelude.{ℕ, nat_le, Bool, if◌then◌else◌, List, ◌++◌, codes, Option, Some, None}
use Rattle.std.specs.Fmt.{decimal}
use Rattle.cob_base.specs.declared.limit.Limit.{Limit}
use Rattle.cob_base.specs.declared.limit.LimitKind.{LimitKind}
use Rattle.cob_base.specs.declared.limit.LimitKind.TheVariants as kind

-- ---- the numbers

-- bytes of a source
abbrev pub max_source : ℕ
max_source = 4194304

-- tokens of a source, and of a result
abbrev pub max_tokens : ℕ
max_tokens = 500000

-- terms of one condition or expression
abbrev pub max_terms : ℕ
max_terms = 500

-- parentheses that are open at once
abbrev pub max_parens : ℕ
max_parens = 500

-- statements that hold statements, one in the other
abbrev pub max_nesting : ℕ
max_nesting = 500

-- how many bytes all items may have
abbrev pub max_storage : ℕ
max_storage = 16777216

-- how many paragraphs a source may have
abbrev pub max_paragraphs : ℕ
max_paragraphs = 5000

-- distinct ranges that PERFORM statements name, main included
abbrev pub max_ranges : ℕ
max_ranges = 5000

-- labels and statements of all lowered ranges
abbrev pub max_nodes : ℕ
max_nodes = 500000

-- bytes of the written text
abbrev pub max_bytes : ℕ
max_bytes = 4194304

-- ---- what is counted, and whether that is too much

-- the most of it
abbrev pub most : LimitKind → ℕ
most kind.Source = max_source
most kind.Tokens = max_tokens
most kind.Terms = max_terms
most kind.Parens = max_parens
most kind.Nesting = max_nesting
most kind.Storage = max_storage
most kind.Paragraphs = max_paragraphs
most kind.Ranges = max_ranges
most kind.Nodes = max_nodes
most kind.Bytes = max_bytes

-- the limit, passed by so many
abbrev pub past : LimitKind → (of_result : Bool) → (counted : ℕ) → Limit
past kind of_result counted =
    record { kind = kind; of_result = of_result; counted = counted; limit = most kind }

-- the limit, where so many pass it
abbrev pub passed : LimitKind → (of_result : Bool) → (counted : ℕ) → Option Limit
passed kind of_result counted =
    if nat_le counted (most kind) then None else Some (past kind of_result counted)

-- ---- how it is reported

-- the word of a limit
abbrev pub limit_kind_text : LimitKind → List ℕ
limit_kind_text kind.Source = codes "SOURCE"
limit_kind_text kind.Tokens = codes "TOKENS"
limit_kind_text kind.Terms = codes "TERMS"
limit_kind_text kind.Parens = codes "PARENS"
limit_kind_text kind.Nesting = codes "NESTING"
limit_kind_text kind.Storage = codes "STORAGE"
limit_kind_text kind.Paragraphs = codes "PARAGRAPHS"
limit_kind_text kind.Ranges = codes "RANGES"
limit_kind_text kind.Nodes = codes "NODES"
limit_kind_text kind.Bytes = codes "BYTES"

-- the name of a limit: its kind, and where it is one of the result that it is
abbrev pub limit_name : Limit → List ℕ
limit_name limit =
    let begin = if limit.of_result then codes "RESULT LIMIT " else codes "LIMIT " in
    begin ++ limit_kind_text limit.kind

-- the limit with what was counted: its kind, the count, and the limit's number
abbrev pub limit_text : Limit → List ℕ
limit_text limit =
    let numbers = decimal limit.counted ++ codes " LIMIT " ++ decimal limit.limit in
    limit_name limit ++ codes " COUNTED " ++ numbers
