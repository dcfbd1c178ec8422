-- The limits of the result. How deep it nests is judged as it is made.
use Rattle.std.specs.Prelude.{ℕ, true, length, Option, Some, None}
use Rattle.cob_base.specs.Limit.{passed}
use Rattle.cob_base.specs.declared.limit.Limit.{Limit}
use Rattle.cob_base.specs.declared.limit.LimitKind.TheVariants as limits
use Rattle.cob_tree.specs.declared.program.Program.{Program}
use Rattle.cob_store.specs.sizes.Storage.{storage_limit, storage_of}
use Rattle.program_facts.specs.term_counts.Program.{terms_limit}
use Rattle.cobol_print.specs.units.Division.{program_units}
use Rattle.cobol_print.specs.Unit.{all_tokens}
use Rattle.cobol_print.specs.Program.{printed}

-- the first of two, where they are passed
abbrev pub else_limit : (first second : Option Limit) → Option Limit
else_limit (Some limit) second = Some limit
else_limit None second = second

-- the tokens of what is printed of a program
abbrev pub token_count : Program → ℕ
token_count program = length (all_tokens (program_units program))

-- the bytes of what is printed of a program
abbrev pub byte_count : Program → ℕ
byte_count program = length (printed program)

-- the first of the two limits that is passed, each by its exact count
abbrev pub first_past : (tokens bytes : ℕ) → Option Limit
first_past tokens bytes =
    else_limit (passed limits.Tokens true tokens) (passed limits.Bytes true bytes)

-- the limit of its text that the result passes
abbrev pub text_limit : Program → Option Limit
text_limit result = first_past (token_count result) (byte_count result)

-- that of its items, or else of the terms of a condition or expression
abbrev pub part_limit : Program → Option Limit
part_limit result = else_limit (storage_limit true (storage_of result.entries)) (terms_limit result)

-- the first limit that it passes
abbrev pub result_limit : Program → Option Limit
result_limit result = else_limit (part_limit result) (text_limit result)
