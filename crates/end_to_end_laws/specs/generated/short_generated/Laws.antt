-- How much is printed of generated programs: no more bytes and tokens than a source may have.
use Rattle.std.specs.Prelude.{ℕ, ◌≤◌, length}
use Rattle.cob_base.specs.Limit.{max_source, max_tokens}
use Rattle.cobol_print.specs.Program.{printed}
use Rattle.cobol_print.specs.Unit.{all_tokens}
use Rattle.program_gen.specs.Generated.{generated}
use Rattle.cobol_print.specs.units.Division.{program_units}

-- what is printed of each generated program is within the limits of bytes and tokens
abbrev pub GeneratedProgramsAreShort : Type 0
GeneratedProgramsAreShort =
    (n : ℕ) → n ≤ 1249 →
    (length (printed (generated n)) ≤ max_source)
    × (length (all_tokens (program_units (generated n))) ≤ max_tokens)
