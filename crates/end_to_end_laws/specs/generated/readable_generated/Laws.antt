-- What is printed of generated programs.
use Rattle.std.specs.Prelude.{ℕ, ◌≤◌}
use Rattle.cobol_print.specs.Program.{printed}
use Rattle.cobol_read.specs.Reading.{Reads}
use Rattle.program_gen.specs.Generated.{generated}
use Rattle.end_to_end_laws.specs.read_programs.readable_programs.Readable.{IsReadable}

-- what is printed of them can be read
abbrev pub GeneratedProgramsAreReadable : Type 0
GeneratedProgramsAreReadable = (n : ℕ) → n ≤ 1249 → IsReadable (generated n)

-- what is printed of each generated program is read as that very program
abbrev pub GeneratedProgramsReadBack : Type 0
GeneratedProgramsReadBack = (n : ℕ) → n ≤ 1249 → Reads (printed (generated n)) (generated n)
