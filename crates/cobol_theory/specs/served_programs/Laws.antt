-- What may be written of proper programs.
use Rattle.std.specs.Prelude.{ℕ, ◌≡◌, Bool, true, if◌then◌else◌, ◌∷◌, Option}
use Rattle.cob_tree.specs.declared.place.Place.{Place}
use Rattle.cob_tree.specs.declared.program.Program.{Program}
use Rattle.control_flow_theory.specs.language.Control.{control_of}
use Rattle.control_flow_theory.specs.language.Language.{Range, Main, By, Read}
use Rattle.control_flow_theory.specs.lowering.WellFormed.{AreJustReached}
use Rattle.control_flow_theory.specs.graph_rules.Walked.{In}
use Rattle.program_facts.specs.completion.FlowFacts.{flow_facts_of}
use Rattle.control_flow_theory.specs.rendering.Rendering.{Continues, Goes}
use Rattle.control_flow_theory.specs.main_theorem.Chain.{GraphsServed}
use Rattle.control_flow_theory.specs.main_theorem.MainTheorem.{graphs_by}
use Rattle.control_flow_theory.specs.expressible_graphs.Served.{ProgramIsServed}
use Rattle.control_flow_theory.specs.expressible_graphs.Laws.{CountersAreServed}
use Rattle.program_facts.specs.whole_counts.Whole.{counts_whole}
use Rattle.cobol_theory.specs.cobol_headline.Alike.{IsProper, Writing, naming_of, writable_of}
use Rattle.cobol_theory.specs.fit_programs.Fit.{IsFit}

-- an empty first arm of a READ continues if the source has AT END, and else it goes
abbrev pub KeepsAtEnd : Writing → Type 0
KeepsAtEnd writing = (range : Range) (file : ℕ) (into : Option Place) (has_end : Bool) →
    writing.empty range (By (Read file into has_end)) 0 ≡ (if has_end then Continues else Goes)

-- each part may be written in every range, whatever becomes of the arms of its choices
abbrev pub ProperProgramsAreServed : Type 0
ProperProgramsAreServed =
    (program : Program) (writing : Writing) (range : Range) →
    IsProper program → counts_whole program ≡ true → IsFit program → KeepsAtEnd writing →
    ProgramIsServed (naming_of program writing) (writable_of program writing)
    (flow_facts_of program.files writing.returning) range (control_of program)

-- what is in the lowered graphs of a proper program may be written, where their counters may
abbrev pub ProperProgramsHaveServedGraphs : Type 0
ProperProgramsHaveServedGraphs =
    (program : Program) (writing : Writing) →
    IsProper program → counts_whole program ≡ true → IsFit program → KeepsAtEnd writing →
    writing.plan.told ≡ flow_facts_of program.files writing.returning →
    ((range : Range) → In range (Main ∷ writing.plan.others) →
    AreJustReached writing.plan.told (control_of program) range (writing.plan.keep range)) →
    CountersAreServed (writable_of program writing) (Main ∷ writing.plan.others)
    (graphs_by writing.plan (control_of program)) →
    GraphsServed (naming_of program writing) (writable_of program writing)
    (Main ∷ writing.plan.others) (graphs_by writing.plan (control_of program))
