-- What is printed of split programs.
use Rattle.std.specs.Prelude.{ℕ, ◌≡◌, ◌≤◌, false, List, length, None}
use Rattle.cob_tree.specs.declared.program.Program.{Program}
use Rattle.program_facts.specs.term_counts.Program.{terms_of}
use Rattle.cob_store.specs.sizes.Storage.{storage_limit, storage_of}
use Rattle.cob_base.specs.Limit.{max_paragraphs, max_terms}
use Rattle.cobol_read.specs.Reading.{Reads}
use Rattle.cobol_print.specs.Program.{printed}
use Rattle.end_to_end_laws.specs.read_programs.readable_programs.Readable.{IsReadable, IsShort}
use Rattle.pending_returns.specs.declared.facts.Summary.{Summary}
use Rattle.procedure_split.specs.Splitting.{IsSplit}
use Rattle.pending_returns.specs.FaultFree.{IsFaultFree}

-- the limits of reading that what a program is split into may pass
pub record IsWithinLimits (made : Program) : Type 0 where
  -- its items are within the limit of storage
  pub stored : storage_limit false (storage_of made.entries) ≡ None
  -- it has no more paragraphs than their limit
  pub few : length made.paragraphs ≤ max_paragraphs
  -- no condition or expression has more terms than their limit
  pub terms : terms_of made ≤ max_terms
  pub short : IsShort made

-- what is printed of a result within these limits can be read
abbrev pub SplitProgramsAreReadable : Type 0
SplitProgramsAreReadable =
    (bytes : List ℕ) (program made : Program) (summary : Summary) → Reads bytes program →
    IsFaultFree program summary → IsSplit program summary made → IsWithinLimits made →
    IsReadable made

-- what is printed of the result is read as that very result, within the limits
abbrev pub SplitProgramsReadBack : Type 0
SplitProgramsReadBack =
    (bytes : List ℕ) (program made : Program) (summary : Summary) → Reads bytes program →
    IsFaultFree program summary → IsSplit program summary made → IsWithinLimits made →
    Reads (printed made) made
