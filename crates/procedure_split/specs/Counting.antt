-- How many items of each kind are added.
use Rattle.std.specs.Prelude.{◌+◌, List, [], ◌∷◌}
use Rattle.control_flow_theory.specs.graph_rules.Families.{Added, Never, Flag, Count, State, Exit}
use Rattle.procedure_split.specs.declared.report.report.AddedCounts.{AddedCounts}

-- none of any kind
abbrev pub none_added : AddedCounts
none_added = record { never = 0; flags = 0; counts = 0; states = 0; exits = 0 }

-- one more of the kind
abbrev pub with_one : AddedCounts → Added → AddedCounts
with_one counted Never = record counted { never = counted.never + 1 }
with_one counted Flag = record counted { flags = counted.flags + 1 }
with_one counted Count = record counted { counts = counted.counts + 1 }
with_one counted State = record counted { states = counted.states + 1 }
with_one counted Exit = record counted { exits = counted.exits + 1 }

-- each of the kinds beside those that are counted
abbrev pub counted_on : AddedCounts → List Added → AddedCounts
counted_on counted [] = counted
counted_on counted (kind ∷ kinds) = counted_on (with_one counted kind) kinds

-- how often each kind is in the list
abbrev pub counts_of : List Added → AddedCounts
counts_of kinds = counted_on none_added kinds
