-- The plan of a program, by the summary of its ranges.
use Rattle.std.specs.Prelude.{ℕ, zero, suc, ◌≡◌, ◌↔◌, true, if◌then◌else◌, List, [], ◌∷◌, ◌++◌, map, Option, Some, None, slice_get}
use Rattle.std.specs.List.{fold}
use Rattle.cob_tree.specs.declared.program.Range.{Range}
use Rattle.program_points.specs.paths.Flow.{main_range, part}
use Rattle.pending_returns.specs.declared.facts.RangeFacts.{RangeFacts}
use Rattle.program_facts.specs.completion.FlowFacts.{returns_by}
use Rattle.out_names.specs.Ordering.{order_of}

-- the table, with a row for this entry
abbrev pub lengthened : List (List ℕ) → ℕ → List (List ℕ)
lengthened [] zero = [] ∷ []
lengthened [] (suc entry) = [] ∷ lengthened [] entry
lengthened (row ∷ table) zero = row ∷ table
lengthened (row ∷ table) (suc entry) = row ∷ lengthened table entry

-- the table with this exit in the row of its entry
abbrev pub with_exit : List (List ℕ) → (entry exit : ℕ) → List (List ℕ)
with_exit [] zero exit = (exit ∷ []) ∷ []
with_exit [] (suc entry) exit = [] ∷ with_exit [] entry exit
with_exit (row ∷ table) zero exit = (row ++ exit ∷ []) ∷ table
with_exit (row ∷ table) (suc entry) exit = row ∷ with_exit table entry exit

-- the table with a range in it; main has no place there
abbrev pub with_part : List (List ℕ) → ℕ → Option ℕ → List (List ℕ)
with_part table entry None = table
with_part table entry (Some exit) = with_exit table entry exit

-- the table with the range of these facts, where it returns
abbrev pub with_facts : List (List ℕ) → RangeFacts → List (List ℕ)
with_facts table facts =
    if facts.returns then with_part table facts.range.entry facts.range.exit else table

-- the table of the ranges that return
abbrev pub table_by : List RangeFacts → List (List ℕ)
table_by = fold with_facts []

-- the summary has this range, and it returns
abbrev pub Returns : List RangeFacts → ℕ → ℕ → Type 0
Returns ranges entry exit = (number : ℕ) × (facts : RangeFacts)
    × (slice_get ranges number ≡ Some facts) × (facts.returns ≡ true)
    × (facts.range ≡ part entry exit)

-- the table names those ranges, and no other
abbrev pub NamesReturning : List RangeFacts → List (List ℕ) → Type 0
NamesReturning ranges table = (entry exit : ℕ) →
    returns_by table entry exit ≡ true ↔ Returns ranges entry exit

-- the numbers of the ranges that each range performs
abbrev pub calls_of : List RangeFacts → List (List ℕ)
calls_of ranges = map (λ (facts : RangeFacts). facts.calls) ranges

-- the range of these facts, or main where there are none
abbrev pub or_main : Option RangeFacts → Range
or_main None = main_range
or_main (Some facts) = facts.range

-- the range with this number
abbrev pub range_at : List RangeFacts → ℕ → Range
range_at ranges number = or_main (slice_get ranges number)

-- this is a plan by these facts: which ranges return, and the order in which they come
pub record IsPlanOf (ranges : List RangeFacts) (returning : List (List ℕ)) (order : List Range)
    : Type 0 where
  -- the table is made of these facts
  pub table : returning ≡ table_by ranges
  -- it names the ranges that return, and no other
  pub names : NamesReturning ranges returning
  -- the ranges come in this order
  pub stands : order ≡ map (range_at ranges) (order_of (calls_of ranges))
