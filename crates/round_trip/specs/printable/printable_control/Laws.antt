-- What holds of control that can be printed.
use Rattle.std.specs.Prelude.{ℕ, ◌≡◌, true, List}
use Rattle.cob_tree.specs.declared.program.Program as trees
use Rattle.cob_tree.specs.declared.stmt.Stmt as stmts
use Rattle.control_flow_theory.specs.language.Language.{Range}
use Rattle.control_flow_theory.specs.language.Control.{control_of, seen_stmts}
use Rattle.control_flow_theory.specs.lowering.FlowFacts.{FlowFacts}
use Rattle.control_flow_theory.specs.rendering.Rendering.{Naming, Procedure, place_of, required, then_stmts, closing, written_stmts}
use Rattle.control_flow_theory.specs.rendering.Procedures.{Writable, StmtsStand}
use Rattle.control_flow_theory.specs.expressible_graphs.Served.{ProgramIsServed}
use Rattle.grammar_laws.specs.form_results.Giving.{Each}
use Rattle.round_trip.specs.printable.Statement.{are_printable_stmts}
use Rattle.round_trip.specs.printable.Whole.{IsPrintableParagraph}
use Rattle.round_trip.specs.printable.printable_control.Prints.{StmtsPrint}
use Rattle.round_trip.specs.printable.printable_control.Written.{PartsServed, NamesPrint}

-- each part of a program that can be printed may be written, where what can be printed may be
abbrev pub PrintableSourcesAreServed : Type 0
PrintableSourcesAreServed =
    (naming : Naming) (kinds : Writable) → PartsServed kinds → (told : FlowFacts) (range : Range)
    (program : trees.Program) → Each IsPrintableParagraph program.paragraphs →
    ProgramIsServed naming kinds told range (control_of program)

-- the sentence of a procedure can be printed, where its parts can
abbrev pub WrittenSentencesPrint : Type 0
WrittenSentencesPrint =
    (naming : Naming) (kinds : Writable) → NamesPrint naming kinds →
    (procedures : List Procedure) (procedure : Procedure) →
    StmtsStand naming kinds procedures procedure.range procedure.body →
    StmtsPrint (required naming.nothing
    (then_stmts (written_stmts naming (place_of procedures) procedure.range procedure.body)
    (closing procedure.range procedure.end)))

-- statements whose control can be printed can be
abbrev pub ControlTellsPrinting : Type 0
ControlTellsPrinting =
    (last : ℕ) (list : List stmts.Stmt) → StmtsPrint (seen_stmts last list) →
    are_printable_stmts list ≡ true
