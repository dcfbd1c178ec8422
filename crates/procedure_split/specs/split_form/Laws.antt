-- What a program is split into is structured.
use Rattle.std.specs.Prelude.{◌≡◌, true}
use Rattle.cob_tree.specs.declared.program.Program.{Program}
use Rattle.struct_form.specs.Structured.{IsStructured}
use Rattle.grammar_laws.specs.short_lists.lone_exits.Alone.{exits_alone}
use Rattle.pending_returns.specs.declared.facts.Summary.{Summary}
use Rattle.procedure_split.specs.Splitting.{IsSplit}
use Rattle.procedure_split.specs.split_behaviour.Alike.{IsWellMade}
use Rattle.pending_returns.specs.FaultFree.{IsFaultFree}

-- a well made program without a fault of flow, in which each EXIT is alone, is split into a
-- structured one
abbrev pub SplitProgramsAreStructured : Type 0
SplitProgramsAreStructured =
    (program made : Program) (summary : Summary) →
    IsWellMade program → exits_alone program ≡ true → IsFaultFree program summary →
    IsSplit program summary made → IsStructured made
