-- How deep what a program is split into nests.
use Rattle.std.specs.Prelude.{◌≡◌, ◌≤◌, true}
use Rattle.cob_tree.specs.Depth.{program_depth}
use Rattle.cob_tree.specs.declared.program.Program.{Program}
use Rattle.program_facts.specs.well_scoped.Named.{counts_of, paragraphs_named}
use Rattle.pending_returns.specs.declared.facts.Summary.{Summary}
use Rattle.cob_base.specs.Limit.{max_nesting}
use Rattle.procedure_split.specs.shaped_ranges.Laws.{HasFlow}
use Rattle.procedure_split.specs.Splitting.{IsSplit}

-- within the limit, where the program's statements are as they are read
abbrev pub ProgramsSplitNestWithinTheLimit : Type 0
ProgramsSplitNestWithinTheLimit = (program made : Program) (summary : Summary) →
    HasFlow program summary → paragraphs_named (counts_of program) program.paragraphs ≡ true →
    IsSplit program summary made → program_depth made ≤ max_nesting
