-- Answers that may be an end of the run.
use Rattle.std.specs.Prelude.{Result, Ok, Err, Option, Some, None}
use Rattle.cob_tree.specs.declared.ending.Abend.{Abend}

-- what is read, or how the run ends there
abbrev pub Answer : Type 0 → Type 0
Answer A = Result A Abend

-- goes on with what was read
abbrev pub and_then : {A B : Type 0} → Answer A → (A → Answer B) → Answer B
and_then (Ok a) next = next a
and_then (Err abend) next = Err abend

-- what is to be there, and else that abend
abbrev pub there_or : {A : Type 0} → Abend → Option A → Answer A
there_or abend None = Err abend
there_or abend (Some a) = Ok a
