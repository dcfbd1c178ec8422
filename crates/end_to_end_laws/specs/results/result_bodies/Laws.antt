-- What holds of the procedures that a program is split into.
use Rattle.std.specs.Prelude.{ℕ, ◌≡◌, ◌+◌, ◌^◌, ◌<◌, ◌≤◌, List, length, Some, slice_get}
use Rattle.cob_tree.specs.declared.program.Paragraph.{Paragraph}
use Rattle.cob_tree.specs.declared.program.Program.{Program}
use Rattle.program_facts.specs.completion.FlowFacts.{flow_facts_of}
use Rattle.control_flow_theory.specs.language.Control.{control_of}
use Rattle.control_flow_theory.specs.language.Language.{Range}
use Rattle.control_flow_theory.specs.rendering.Rendering.{Naming, Procedure, rendered}
use Rattle.control_flow_theory.specs.rendering.Procedures.{Writable}
use Rattle.control_flow_theory.specs.main_theorem.Chain.{EachStands}
use Rattle.control_flow_theory.specs.main_theorem.MainTheorem.{Plan, procedures_by}
use Rattle.control_flow_theory.specs.expressible_graphs.Served.{ProgramIsServed}
use Rattle.pending_returns.specs.declared.facts.Summary.{Summary}
use Rattle.added_items.specs.item_table.Owners.{item_kinds}
use Rattle.cobol_theory.specs.cobol_headline.Alike.{Writing, naming_of, writable_of, IsWrittenOf}
use Rattle.grammar_laws.specs.form_results.Giving.{Each}
use Rattle.out_names.specs.Naming.{names_of}
use Rattle.out_names.specs.Words.{program_words}
use Rattle.round_trip.specs.printable.printable_tokens.Header.{IsHeaderName}
use Rattle.round_trip.specs.printable.Whole.{IsPrintableProgram}
use Rattle.procedure_split.specs.Splitting.{IsSplit}
use Rattle.cob_base.specs.Limit.{max_nodes}
use Rattle.procedure_split.specs.split_behaviour.Alike.{IsWellMade}
use Rattle.pending_returns.specs.FaultFree.{IsFaultFree}
use Rattle.end_to_end_laws.specs.results.result_bodies.Bodies.{split_rows, writing_by, TakesBoth, IsWrittenParagraph}

-- where each part of the program may be written by some kinds, in each range, its procedures may be
-- by what these take beside the program's own
abbrev pub ProceduresStand : (program : Program) → Writing → Type 0
ProceduresStand program writing = (other kinds : Writable) →
    TakesBoth (writable_of program writing) other kinds →
    ((range : Range) → ProgramIsServed (naming_of program writing) other
    (flow_facts_of program.files writing.returning) range (control_of program)) →
    EachStands (naming_of program writing) kinds
    (procedures_by writing.plan (control_of program))

-- what a program is split into is written of procedures that stand so
abbrev pub SplitProceduresStand : Type 0
SplitProceduresStand =
    (program made : Program) (summary : Summary) → IsWellMade program →
    IsFaultFree program summary →
    (split : IsSplit program summary made) →
    (plan : Plan) × IsWrittenOf program made (writing_by program made summary split plan)
    × ProceduresStand program (writing_by program made summary split plan)

-- where control is written of procedures, each paragraph is one of them
abbrev pub ParagraphsAreWritten : Type 0
ParagraphsAreWritten =
    (made : Program) (naming : Naming) (procedures : List Procedure) →
    control_of made ≡ rendered naming procedures →
    (at : ℕ) (paragraph : Paragraph) → slice_get made.paragraphs at ≡ Some paragraph →
    (procedure : Procedure) × (slice_get procedures at ≡ Some procedure)
    × IsWrittenParagraph naming procedures procedure paragraph

-- there are no more than lowered graphs may have labels and statements
abbrev pub SplitProgramsHaveFewProcedures : Type 0
SplitProgramsHaveFewProcedures =
    (program made : Program) (summary : Summary) → IsWellMade program →
    IsFaultFree program summary →
    IsSplit program summary made → length made.paragraphs ≤ max_nodes

-- what a program that can be printed is split into can be printed, where the names of its
-- procedures can, and words and added items are so few that each number after a name has ten digits
abbrev pub SplitProgramsPrint : Type 0
SplitProgramsPrint =
    (program made : Program) (summary : Summary) → IsWellMade program →
    IsFaultFree program summary →
    (split : IsSplit program summary made) →
    length (program_words program)
    + length (item_kinds (split_rows program made summary split)) < 2 ^ 31 →
    Each IsHeaderName (names_of program split.plan.order) →
    IsPrintableProgram program → IsPrintableProgram made
