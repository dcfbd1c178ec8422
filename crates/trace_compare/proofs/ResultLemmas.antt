-- A program and a structured one that behaves as it does.
use Rattle.std.proofs.Common.{◌≡◌, ◌≢◌, ◌∙◌, ℕ, ◌+◌, ◌*◌, ◌≤◌, ap, arith, refl, subst, sym}
use Rattle.cob_tree.specs.declared.program.Program.{Program}
use Rattle.meanings.specs.statements.Does.{declared_in}
use Rattle.control_flow_theory.specs.language.Control.{control_of}
use Rattle.control_flow_theory.specs.language.Structured.{IsStructuredControl}
use Rattle.control_flow_theory.specs.runs.Machine.{meaning}
use Rattle.control_flow_theory.specs.runs.Run.{Covers, Going, IsOver, Over}
use Rattle.control_flow_theory.specs.runs.Tied.{Tied}
use Rattle.control_flow_theory.specs.semantics.Outcome.{Faulted, Lost, Returned, Run, Standing, Stopped, Trace}
use Rattle.control_flow_theory.specs.semantics.Source.{source_machine}
use Rattle.control_flow_theory.specs.semantics.Structural.{structural}
use Rattle.control_flow_theory.specs.semantics_agree.Same.{EndsFairly, IsMatchedBy}
use Rattle.control_flow_theory.proofs.runs_lemmas.Machines.{machine-steady}
use Rattle.control_flow_theory.proofs.runs_lemmas.Ties.{covers-trans}
use Rattle.control_flow_theory.proofs.semantics_lemmas.Growth.{source-grows}
use Rattle.control_flow_theory.proofs.semantics_agree_lemmas.Agreement.{structured-tied}
use Rattle.cobol_theory.specs.cobol_meaning.Runs.{Files, doing_in, files_left, first_memory, source_run, structural_run}
use Rattle.cobol_theory.specs.cobol_meaning.Same.{SameBehaviour}
use Rattle.trace_compare.specs.declared.compared.Compared.{Compared}
use Rattle.trace_compare.specs.declared.compared.Compared.TheVariants as compared
use Rattle.trace_compare.specs.Differing.{DifferAt, course_of}
use Rattle.trace_compare.specs.Comparing.{IsOf}
use Rattle.trace_compare.specs.Pair.{course_in}
use Rattle.trace_compare.specs.Laws.{ComparedResultsNeverDiffer, ResultsNeverDiffer}
use Rattle.trace_compare.proofs.DifferingLemmas.{from_itself, more_keep}

front_within : (x y : ℕ) → x ≤ x + y
front_within x y = omega arith

end_within : (x y : ℕ) → y ≤ x + y
end_within x y = omega arith

-- runs with the same trace that stand alike are the same
same_run : (one other : Run Files) → one.trace ≡ other.trace → one.standing ≡ other.standing → one ≡ other
same_run one other shown stands =
    let first : one ≡ record { trace = other.trace; standing = one.standing } = ap (λ (t : Trace). record { trace = t; standing = one.standing }) shown in
    first ∙ ap (λ (s : Standing Files). record { trace = other.trace; standing = s }) stands

-- a run that goes on or stopped is covered by one that matches it
module _ (first second : Run Files) (matched : IsMatchedBy first second) where
  is_it : (standing : Standing Files) → first.standing ≡ standing → EndsFairly standing → IsOver first → second ≡ first
  is_it Going is fair over = absurd (over is)
  is_it (Over (Stopped how left)) is fair over =
      let same = matched.stopped how left is in same_run second first same.1 (same.0 ∙ sym is)
  is_it (Over (Faulted fault)) is fair over = absurd fair
  is_it (Over (Returned left)) is fair over = absurd fair
  is_it (Over Lost) is fair over = absurd fair

  covered : EndsFairly first.standing → Covers first second
  covered fair = record { shows = matched.shown; ends = is_it first.standing refl fair }

pub never_differ : ResultsNeverDiffer
never_differ source result same structured files fair number steps other_steps differ =
    let doing = doing_in (declared_in result) in
    let control = control_of result in
    let memory = first_memory (declared_in result) files in
    let tied : Tied (meaning (source_machine doing files_left control)) (structural doing files_left control) = structured-tied doing files_left control structured in
    let units = same.units_per_step * (steps + 1) in
    let front = tied.back * (units + 1) in
    let last = front + other_steps in
    let here : Covers (source_run source files steps) (source_run result files last) =
    covers-trans (source_run source files steps) (structural_run result files units) (source_run result files last)
    (covered (source_run source files steps) (structural_run result files units) (same.there files steps) (fair steps))
    (tied.covers memory units last (front_within front other_steps)) in
    let there : Covers (source_run result files other_steps) (source_run result files last) =
    machine-steady (source_machine doing files_left control) (source-grows doing files_left control) memory other_steps last (end_within front other_steps) in
    from_itself number (course_of (source_run result files last))
    ((more_keep number (source_run source files steps) (source_run result files other_steps) (source_run result files last) (source_run result files last) here there).1 differ)

pub compared_never_differ : ComparedResultsNeverDiffer
compared_never_differ source result same structured own result_own files fair steps left left_now old new other other_now other_old other_new came tell result_tell compares number is =
    let told = compares.files files files own result_own tell result_tell in
    never_differ source result same structured files fair number steps steps
    (subst (λ (answer : Compared). IsOf answer (course_in source files steps) (course_in result files steps)) is told.0)
