-- Programs whose runs need no device and no added item.
use Rattle.std.specs.Prelude.{◌≡◌, ℕ, IsTrue, Option, Some, None}
use Rattle.cob_tree.specs.declared.program.Program.{Program}
use Rattle.cob_tree.specs.declared.stmt.Stmt.{Stmt, out-Stmt}
use Rattle.cob_tree.specs.declared.stmt.Stmt.TheOpen.{Stmt-F}
use Rattle.cob_act.specs.Acting.{is_inner}
use Rattle.control_flow_theory.specs.language.Control.{always, control_of}
use Rattle.cob_tree.specs.declared.control.Control.{Control}
use Rattle.cob_tree.specs.declared.control.Control.TheVariants.{Once, Times, Until, Varying}
use Rattle.cobol_run.specs.declared.statement.Entered.{Entered}
use Rattle.control_flow_theory.specs.language.Own.{OwnTest}
use Rattle.control_flow_theory.specs.language.Language.{Act, Own, Holds, Picker, If, By, ByCell, Chooser, Read}
use Rattle.control_flow_theory.specs.language.Language as language
use Rattle.cobol_run.specs.Standing as standing
use Rattle.cobol_theory.specs.cobol_meaning.Runs.{State}

-- an act of the program's own, that needs no device
abbrev pub PlainAct : Act → Type 0
PlainAct (Own simple) = IsTrue (is_inner simple)
PlainAct _ = ⊥

-- the chooser isn't a READ
abbrev pub PlainChooser : Chooser → Type 0
PlainChooser (Read file into has_end) = ⊥
PlainChooser _ = Unit {0}

-- no inline PERFORM without a control, which control sees as IF zero is zero
abbrev pub PlainPicker : Picker → Type 0
PlainPicker (If test) = OwnTest test × (test ≡ Holds always → ⊥)
PlainPicker (By chooser) = PlainChooser chooser
PlainPicker (ByCell cell) = ⊥

-- each part of a statement is plain
abbrev pub PlainStmt : language.Stmt → Type 0
PlainStmt = standing.StmtHas PlainAct OwnTest PlainPicker

-- each part of what a state has still to do is plain
abbrev pub PlainState : State → Type 0
PlainState = standing.StateHas PlainAct OwnTest PlainPicker

-- there is no statement on files in it, and no word on an added item
abbrev pub IsPlain : Program → Type 0
IsPlain program =
    standing.ParagraphsHave PlainAct OwnTest PlainPicker (control_of program).paragraphs

-- a PERFORM once
abbrev pub once_by : ℕ → ℕ → Control → Option Entered
once_by entry exit Once = Some (record { entry = entry; exit = exit })
once_by entry exit (Times amount) = None
once_by entry exit (Until after until) = None
once_by entry exit (Varying after item from by until) = None

-- the range that a statement performs once, if it is such a PERFORM
abbrev pub once_of : Stmt → Option Entered
once_of stmt =
    elim (out-Stmt stmt) [
      | Stmt-F.Perform entry exit control ↦ once_by entry exit control
      | _ ↦ None
    ]
