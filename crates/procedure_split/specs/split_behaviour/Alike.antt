-- What a program is split into behaves as it did.
use Rattle.std.specs.Prelude.{◌≡◌, true, All, IsSome, None}
use Rattle.cob_tree.specs.declared.program.Paragraph.{Paragraph}
use Rattle.cob_tree.specs.declared.program.Program.{Program}
use Rattle.control_flow_theory.specs.language.Control.{control_of}
use Rattle.control_flow_theory.specs.language.Structured.{IsStructuredControl}
use Rattle.program_facts.specs.whole_counts.Whole.{counts_whole}
use Rattle.cobol_theory.specs.fit_programs.Fit.{IsFit}
use Rattle.pending_returns.specs.declared.facts.Summary.{Summary}
use Rattle.pending_returns.specs.FaultFree.{IsFaultFree}
use Rattle.cobol_theory.specs.cobol_meaning.Same.{SameBehaviour}
use Rattle.cobol_theory.specs.cobol_headline.Alike.{IsProper}
use Rattle.procedure_split.specs.Splitting.{IsSplit}

-- a program as it is read
pub record IsWellMade (program : Program) : Type 0 where
  pub proper : IsProper program
  -- it counts by whole numbers
  pub whole : counts_whole program ≡ true
  -- its entries and lists of names are as they can be written
  pub fit : IsFit program

-- what a program is split into is structured, and behaves as it did over all files
abbrev pub SplitProgramsBehaveAlike : Type 0
SplitProgramsBehaveAlike =
    (program made : Program) (summary : Summary) →
    IsWellMade program → IsFaultFree program summary → IsSplit program summary made →
    IsStructuredControl (control_of made) × SameBehaviour program made

-- the paragraph has a name, and is in no section
abbrev pub StandsAlone : Paragraph → Type 0
StandsAlone paragraph = IsSome paragraph.name × (paragraph.section ≡ None)

-- each paragraph of what a program is split into has a name, and is in no section
abbrev pub SplitProgramsHaveNames : Type 0
SplitProgramsHaveNames =
    (program made : Program) (summary : Summary) → IsSplit program summary made →
    All StandsAlone made.paragraphs
