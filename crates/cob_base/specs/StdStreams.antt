-- What the adapters make of std's readers and writers, by std's own words.
use Rattle.std.specs.Prelude.{ℕ, ◌≡◌, ◌<◌, List, length, take, Option}
use Rattle.std.specs.Io.KnownBytes.{Keeps, Appends, Consumes, IsAtEnd}
use Rattle.cob_base.specs.declared.source.Took.{Took}
use Rattle.cob_base.specs.declared.source.Took.TheVariants as took
use Rattle.cob_base.specs.declared.sink.Gave.{Gave}
use Rattle.cob_base.specs.declared.sink.Gave.TheVariants as gave

-- so many bytes were put into the front of this buffer: none only where none are left or none fit
abbrev pub ReadInto : Option (List ℕ) → Option (List ℕ) → List ℕ → ℕ → Type 0
ReadInto old new into n = Consumes old new (take n into) × (n ≡ 0 → 0 < length into → IsAtEnd new)

-- what a reader knows to have left, before and after the answer, and the buffer then
abbrev pub Reads : Option (List ℕ) → Option (List ℕ) → Took → List ℕ → Type 0
Reads old new (took.Bytes n) into = ReadInto old new into n
Reads old new took.End into = ReadInto old new into 0
Reads old new took.Failed into = Keeps old new

-- what a writer knows to hold, before and after the answer to these bytes; a writer that failed may
-- hold anything
abbrev pub Writes : Option (List ℕ) → Option (List ℕ) → Gave → List ℕ → Type 0
Writes old new gave.All bytes = Appends old new bytes
Writes old new (gave.Part n) bytes = Appends old new (take n bytes)
Writes old new gave.Failed bytes = Unit {0}
