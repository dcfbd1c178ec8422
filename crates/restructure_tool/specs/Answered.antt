-- What the host gets of a call.
use Rattle.std.specs.Prelude.{ℕ, ◌≡◌, ◌⊎◌, List, None}
use Rattle.cob_base.specs.Source.{SourceCall}
use Rattle.cob_base.specs.Sink.{SinkCall}
use Rattle.restructure_asks.specs.declared.status.Status.{Status}
use Rattle.restructure_asks.specs.declared.status.Status.TheVariants as status
use Rattle.restructure_asks.specs.Status.{status_number}
use Rattle.restructure_asks.specs.Tool.{Ends}
use Rattle.restructure_tool.specs.Folders.{Serves}

-- memory ran out for the words, or for the devices: nothing was read or written
abbrev pub IsStarved : SourceCall → SinkCall → SinkCall → Status → Type 0
IsStarved source out notes answer =
    (answer ≡ status.NoMemory) × Ends None source out notes answer

-- what words came to, with this exit status
pub record Answers (words : List (List ℕ)) (source : SourceCall) (out notes : SinkCall)
    (exit : ℕ) : Type 0 where
  pub status : Status
  -- the exit status is its number
  pub number : exit ≡ status_number status
  -- the words came to it, unless memory ran out for the devices
  pub serves : Serves words source out notes status ⊎ IsStarved source out notes status

-- what came of words for which there was no memory, with this exit status
pub record AnswersNone (source : SourceCall) (out notes : SinkCall) (exit : ℕ) : Type 0 where
  pub status : Status
  -- the exit status is its number
  pub number : exit ≡ status_number status
  -- memory ran out
  pub starved : IsStarved source out notes status
