-- What is written of a procedure.
use Rattle.std.specs.Prelude.{◌≡◌, Bool, true, false, ◌||◌, if◌then◌else◌, List, [], ◌∷◌}
use Rattle.cob_tree.specs.declared.program.Sentence.{Sentence}
use Rattle.cob_tree.specs.declared.stmt.Stmt.TheVariants.{Continue}
use Rattle.control_flow_theory.specs.language.Control.{seen_sentence}
use Rattle.control_flow_theory.specs.language.Language.{Range, Main, Part, StopRun, Stmts, none}
use Rattle.control_flow_theory.specs.semantics.Graph.{Tree, End, Pick, Jump, Return, Stop, Dead, body_of, end_of}
use Rattle.control_flow_theory.specs.graph_rules.Shapes.{alone, followed}
use Rattle.control_flow_theory.specs.rendering.Rendering.{Procedure, required, written_paragraph}
use Rattle.statement_builders.specs.arms.Written.{naming_in}
use Rattle.statement_builders.specs.declared.arms.placing.ProcedurePlace.{ProcedurePlace}
use Rattle.statement_builders.specs.declared.item_words.cells.CellItem.{CellItem}
use Rattle.body_rendering.specs.Pieces.{Each}

-- the end stops the run
abbrev pub stops : End → Bool
stops Stop = true
stops (Pick picker arms) = false
stops (Jump to) = false
stops Return = false
stops Dead = false

-- the statements of a procedure: its body, and STOP RUN after it where that is written
abbrev pub closed_stmts : (main : Bool) → Tree → Stmts
closed_stmts main whole =
    followed (body_of whole) (if main || stops (end_of whole) then alone StopRun else none)

-- the sentence has these statements, or CONTINUE where there are none
abbrev pub IsSentence : Stmts → Sentence → Type 0
IsSentence stmts made = seen_sentence 0 made ≡ required Continue stmts

-- the range is main
abbrev pub is_main : Range → Bool
is_main Main = true
is_main (Part entry exit) = false

-- the procedure of a range, by the one tree that it was shaped to
abbrev pub procedure_of : Range → Tree → Procedure
procedure_of range whole = record { range = range; body = body_of whole; end = end_of whole }

-- the sentence of main's procedure, or of another one, is all that it holds
abbrev pub IsProcedure : List CellItem → List ProcedurePlace → (main : Bool) → Tree → Sentence →
    Type 0
IsProcedure cells places main whole made = Each cells places
    (λ way. main ≡ is_main way.range → seen_sentence 0 made ∷ []
    ≡ written_paragraph (naming_in way) way.place (procedure_of way.range whole))
