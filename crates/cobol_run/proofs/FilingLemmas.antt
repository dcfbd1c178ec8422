-- Statements on files stand in no plain program.
use Rattle.std.proofs.Common.{◌≡◌, ℕ, true, false, List, ◌∷◌, Option, Result, Ok, Err, refl, ap, sym, ◌∙◌, subst}
use Rattle.std.specs.Prelude.{IfOk}
use Rattle.cob_base.specs.declared.memory.NoMemory.{NoMemory}
use Rattle.cob_tree.specs.declared.file.Opening.{Opening}
use Rattle.cob_tree.specs.declared.place.Operand.{Operand}
use Rattle.cob_tree.specs.declared.place.Place.{Place}
use Rattle.cob_tree.specs.declared.stmt.Arms.{Arms}
use Rattle.cob_tree.specs.declared.stmt.Stmt.{Stmt, out-Stmt, out-roll-Stmt}
use Rattle.cob_tree.specs.declared.stmt.Stmt.TheOpen.{Stmt-F}
use Rattle.cob_tree.specs.declared.stmt.Stmt.TheVariants as stmts
use Rattle.cob_act.specs.Acting.{is_inner}
use Rattle.file_model.specs.World.{World}
use Rattle.control_flow_theory.specs.semantics.Outcome.{Trace}
use Rattle.control_flow_theory.specs.language.Control.{seen}
use Rattle.control_flow_theory.specs.language.Items.{Do, Item}
use Rattle.control_flow_theory.specs.language.Language as language
use Rattle.control_flow_theory.specs.language.Own.{OwnTest}
use Rattle.control_flow_theory.proofs.language_lemmas.Rows.{seen_closes, seen_opens, seen_read, seen_rewrite, seen_write}
use Rattle.cobol_run.specs.declared.machine.Machine.{Machine}
use Rattle.cobol_run.specs.declared.machine.StepOutcome.{StepOutcome}
use Rattle.cobol_run.specs.Filing.{StandsInNone}
use Rattle.cobol_run.specs.Frames.{last_of}
use Rattle.cobol_run.specs.Machine.{Follows, rest_in, state_in, steps_by}
use Rattle.cobol_run.specs.Plain.{PlainAct, PlainPicker, PlainState, PlainStmt}
use Rattle.cobol_run.specs.Standing as standing

-- an act that isn't one of a plain program
own-none : (stmt inner : Stmt) → is_inner inner ≡ false → ((last : ℕ) → seen last stmt ≡ language.Do (language.Own inner)) → StandsInNone stmt
own-none stmt inner outer there last plain = let e : false ≡ true = sym outer ∙ subst PlainStmt (there last) plain in cc

pub opens_none : (stmt : Stmt) (openings : List Opening) → stmt ≡ stmts.Opens openings → StandsInNone stmt
opens_none stmt openings is =
    subst StandsInNone (sym is) (own-none (stmts.Opens openings) (stmts.Opens openings)
    (rw (ap out-Stmt (sym (stmts.rolls-Opens openings)) ∙ out-roll-Stmt (Stmt-F.Opens openings), is_inner) refl) (λ last. seen_opens last openings))

pub closes_none : (stmt : Stmt) (files : List ℕ) → stmt ≡ stmts.Closes files → StandsInNone stmt
closes_none stmt files is =
    subst StandsInNone (sym is) (own-none (stmts.Closes files) (stmts.Closes files)
    (rw (ap out-Stmt (sym (stmts.rolls-Closes files)) ∙ out-roll-Stmt (Stmt-F.Closes files), is_inner) refl) (λ last. seen_closes last files))

pub write_none : (stmt : Stmt) (entry : ℕ) (from : Option Operand) → stmt ≡ stmts.Write entry from → StandsInNone stmt
write_none stmt entry from is =
    subst StandsInNone (sym is) (own-none (stmts.Write entry from) (stmts.Write entry from)
    (rw (ap out-Stmt (sym (stmts.rolls-Write entry from)) ∙ out-roll-Stmt (Stmt-F.Write entry from), is_inner) refl) (λ last. seen_write last entry from))

pub rewrite_none : (stmt : Stmt) (entry : ℕ) (from : Option Operand) → stmt ≡ stmts.Rewrite entry from → StandsInNone stmt
rewrite_none stmt entry from is =
    subst StandsInNone (sym is) (own-none (stmts.Rewrite entry from) (stmts.Rewrite entry from)
    (rw (ap out-Stmt (sym (stmts.rolls-Rewrite entry from)) ∙ out-roll-Stmt (Stmt-F.Rewrite entry from), is_inner) refl) (λ last. seen_rewrite last entry from))

pub read_none : (stmt : Stmt) (file : ℕ) (into : Option Place) (arms : Arms) → stmt ≡ stmts.Read file into arms → StandsInNone stmt
read_none stmt file into arms is last plain =
    absurd (subst PlainStmt (ap (seen last) is ∙ seen_read last file into arms) plain).0

-- such a statement isn't next in a plain state
pub next_none : (old : Machine) (stmt : Stmt) (rest : List Item) (world : World) (trace : Trace) →
    rest_in old ≡ Do (seen (last_of old.plan.program.now old.paragraph) stmt) ∷ rest → StandsInNone stmt → PlainState (state_in old world trace) → ⊥
next_none old stmt rest world trace there none plain =
    none (last_of old.plan.program.now old.paragraph) (subst (standing.ItemsHave PlainAct OwnTest PlainPicker) there plain.0).0

-- so any step follows
pub steps_none : (old new : Machine) (stmt : Stmt) (rest : List Item) (result : Result StepOutcome NoMemory) →
    rest_in old ≡ Do (seen (last_of old.plan.program.now old.paragraph) stmt) ∷ rest → StandsInNone stmt →
    IfOk result (λ step. (world : World) (trace : Trace) → PlainState (state_in old world trace) → Follows step new world trace (steps_by old.plan (state_in old world trace)))
steps_none old new stmt rest (Err e) there none = tt
steps_none old new stmt rest (Ok step) there none = λ world trace plain. absurd (next_none old stmt rest world trace there none plain)

-- lemmas that are named together
pub ruleset filing_none = (opens_none, closes_none, read_none, write_none, rewrite_none)
