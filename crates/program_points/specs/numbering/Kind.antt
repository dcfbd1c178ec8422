-- What of loops and files control depends on.
use Rattle.std.specs.Prelude.{ℕ, Bool, true, false, if◌then◌else◌, List, Option, Some, None, is_some, not, slice_get}
use Rattle.cob_tree.specs.declared.file.FileEntry.{FileEntry}
use Rattle.control_flow_theory.specs.language.Language.{Chooser, Evaluate, Read, Arith, Depending, Control, Times, Until, Varying}
use Rattle.control_flow_theory.specs.language.Items.{Turning, Counted, Tests, Steps, StepsAfter}
use Rattle.program_points.specs.declared.numbering.kind.LoopStart.{LoopStart}
use Rattle.program_points.specs.declared.numbering.kind.LoopStart.TheVariants.{Before, Again, After}

-- where a loop begins: at its test or count, at its first test with the augmenting ADD before each
-- later one, or at its body
abbrev pub kind_in : Control → LoopStart
kind_in (Times amount) = Before
kind_in (Until after test) = if after then After else Before
kind_in (Varying after set step test) = if after then After else Again

-- what is left of a loop after its body
abbrev pub remainder : Control → Turning
remainder (Times amount) = Counted 0
remainder (Until after test) = Tests test
remainder (Varying false set step test) = Steps true step test
remainder (Varying true set step test) = StepsAfter step test

-- the file is there, and has no status item
abbrev pub has_no_status : Option FileEntry → Bool
has_no_status None = false
has_no_status (Some file) = not (is_some file.status)

-- the file with this number has no status item
abbrev pub is_silent : List FileEntry → ℕ → Bool
is_silent files file = has_no_status (slice_get files file)

-- the choosers of a program with these files that never give their first arm: a READ without AT
-- END,
-- of a file without a status item, ends the run where the file is at its end
abbrev pub never_first_of : List FileEntry → Chooser → Bool
never_first_of files (Evaluate subject tests has_other) = false
never_first_of files (Read file into has_end) = if has_end then false else is_silent files file
never_first_of files (Arith calc into) = false
never_first_of files (Depending on names) = false
