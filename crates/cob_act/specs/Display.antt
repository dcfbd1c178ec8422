-- What is shown, as the code answers it.
use Rattle.std.specs.Prelude.{ℕ, List, Ok, Err}
use Rattle.cob_store.specs.Answer.{Answer}

-- the bytes where there is no end of the run
abbrev pub with_bytes : Answer (Unit {0}) → List ℕ → Answer (List ℕ)
with_bytes (Ok _) bytes = Ok bytes
with_bytes (Err abend) bytes = Err abend
