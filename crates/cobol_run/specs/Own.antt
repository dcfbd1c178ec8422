-- Programs without a word on an added item, as in each that is read.
use Rattle.std.specs.Prelude.{◌≡◌, ℕ, Bool, true, false, None}
use Rattle.cob_tree.specs.declared.program.Program.{Program}
use Rattle.cob_tree.specs.declared.stmt.Stmt.{Stmt, out-Stmt}
use Rattle.cob_tree.specs.declared.stmt.Stmt.TheOpen.{Stmt-F}
use Rattle.cob_act.specs.Acting.{is_inner}
use Rattle.control_flow_theory.specs.language.Control.{control_of, seen}
use Rattle.control_flow_theory.specs.language.Language as language
use Rattle.control_flow_theory.specs.language.Own.{OwnAct, OwnParagraphs, OwnPicker, OwnTest}
use Rattle.cobol_theory.specs.cobol_meaning.Runs.{State}
use Rattle.cobol_run.specs.declared.frames.Head.{Head}
use Rattle.cobol_run.specs.declared.frames.Head.TheVariants as head
use Rattle.cobol_run.specs.Frames.{turning_seen}
use Rattle.cobol_run.specs.Plain.{once_of}
use Rattle.cobol_run.specs.Standing as standing

-- no word on an added item is in the program
abbrev pub IsOwn : Program → Type 0
IsOwn program = OwnParagraphs (control_of program).paragraphs

-- no word on an added item is in what a state has still to do
abbrev pub OwnState : State → Type 0
OwnState = standing.StateHas OwnAct OwnTest OwnPicker

-- a statement's own act or choice, whatever else it holds
abbrev pub HeadOwn : language.Stmt → Type 0
HeadOwn (language.Do act) = OwnAct act
HeadOwn (language.Choose picker arms) = OwnPicker picker
HeadOwn _ = Unit {0}

-- ---- what is done without a device

-- a statement is own at its head, and isn't one on files
abbrev pub ActsInside : Stmt → ℕ → Type 0
ActsInside stmt last = HeadOwn (seen last stmt) × (is_inner stmt ≡ true)

-- the statement goes to another paragraph, without a pending return, or stops the run
abbrev pub jumps : Stmt → Bool
jumps stmt =
    elim (out-Stmt stmt) [
      | Stmt-F.Go to ↦ true
      | Stmt-F.GoDepending to on ↦ true
      | Stmt-F.ExitSection ↦ true
      | Stmt-F.StopRun ↦ true
      | _ ↦ false
    ]

-- nor a PERFORM once, and it doesn't jump
abbrev pub ActsAlone : Stmt → ℕ → Type 0
ActsAlone stmt last = ActsInside stmt last × (once_of stmt ≡ None) × (jumps stmt ≡ false)

-- what is next is so, in a section whose last paragraph is this one
abbrev pub StandsAlone : ℕ → Head → Type 0
StandsAlone last (head.Stmt stmt) = ActsInside stmt.now last
StandsAlone last (head.Turn turning body) =
    standing.TurningHas OwnAct OwnTest OwnPicker (turning_seen turning)
StandsAlone last _ = Unit {0}

-- what is next isn't a statement on files
abbrev pub NoFiling : Head → Type 0
NoFiling (head.Stmt stmt) = is_inner stmt.now ≡ true
NoFiling _ = Unit {0}
