-- COBOL programs that aren't faulty are planned as flow paths ask.
use Rattle.std.proofs.Common.{◌≡◌, ◌<◌, ℕ, false, if◌then◌else◌, List, length, Option, Some, None, slice_get, refl, ap, sym, subst}
use Rattle.cob_tree.specs.declared.file.FileEntry.{FileEntry}
use Rattle.cob_tree.specs.declared.program.Range as tree
use Rattle.cob_tree.specs.declared.program.Program as cobol
use Rattle.control_flow_theory.specs.language.Control.{control_of}
use Rattle.control_flow_theory.specs.language.Language.{Chooser, Evaluate, Read, Arith, Depending}
use Rattle.control_flow_theory.specs.language.OwnItems.{NamesOwnItems}
use Rattle.meanings.specs.statements.Does.{declared_in}
use Rattle.control_flow_theory.specs.lowering.flow.Paths as theory
use Rattle.program_facts.specs.completion.FlowFacts.{status_missing, never_ends, flow_facts_of}
use Rattle.cobol_theory.specs.cobol_parts.Named.{NamesOwnParagraphs}
use Rattle.cobol_theory.proofs.cobol_parts_lemmas.Sources.{source}
use Rattle.cobol_theory.proofs.cobol_parts_lemmas.SomeArm.{gives-some}
use Rattle.program_points.specs.paths.Flow.{IsFaulty}
use Rattle.program_points.specs.numbering.Kind.{has_no_status, never_first_of}
use Rattle.program_points.proofs.machine_paths_lemmas.SameFaults.{faulty-here}
use Rattle.pending_returns.specs.declared.facts.Summary.{Summary}
use Rattle.pending_returns.specs.Summary.{IsSummary}
use Rattle.procedure_split.specs.plan.Planned.{IsPlanOf}
use Rattle.procedure_split.specs.plan.Laws.{IsPlannedByPaths, CobolProgramsHavePlans}
use Rattle.procedure_split.proofs.plan_lemmas.ByPaths.{planned}

same-missing : (file : Option FileEntry) → has_no_status file ≡ status_missing file
same-missing None = refl
same-missing (Some file) = refl

same-first : (files : List FileEntry) (chooser : Chooser) → never_first_of files chooser ≡ never_ends files chooser
same-first files (Evaluate subject tests has_other) = refl
same-first files (Read file into has_end) = ap (λ b. if has_end then false else b) (same-missing (slice_get files file))
same-first files (Arith calc into) = refl
same-first files (Depending on names) = refl

-- flow and lowering are told the same
same-told : (files : List FileEntry) → never_first_of files ≡ never_ends files
same-told files = λ i chooser. same-first files chooser i

module _ (program : cobol.Program) (summary : Summary) (returning : List (List ℕ)) (order : List tree.Range) (items : NamesOwnItems program) (paragraphs : NamesOwnParagraphs program) (some : 0 < length (control_of program).paragraphs)
    (fine : IsFaulty (never_first_of program.files) (control_of program) → ⊥) where
  no-fault : theory.HasFaultyRun (flow_facts_of program.files returning) (control_of program) → ⊥
  no-fault faulty = fine (subst (λ never. IsFaulty never (control_of program)) (sym (same-told program.files))
      (faulty-here (flow_facts_of program.files returning) (control_of program) (source (declared_in program) returning program items paragraphs) (gives-some (declared_in program) returning) faulty))

  pub cobol-planned : IsSummary (never_first_of program.files) (control_of program) summary → IsPlanOf summary.ranges returning order →
      (theory.HasFaultyRun (flow_facts_of program.files returning) (control_of program) → ⊥) × IsPlannedByPaths (flow_facts_of program.files returning) (control_of program) returning order
  cobol-planned is plan = (
    no-fault,
    planned (flow_facts_of program.files returning) (control_of program) (source (declared_in program) returning program items paragraphs) (gives-some (declared_in program) returning) no-fault summary
        (subst (λ never. IsSummary never (control_of program) summary) (same-told program.files) is) returning order plan,
  )

-- with the nodes that are reached, this is a plan
pub has-plan : CobolProgramsHavePlans
has-plan = λ program summary returning order keep items paragraphs some fine is plan reached just.
    let p = cobol-planned program summary returning order items paragraphs some fine is plan in
    (p.0, record { returning = p.1.names; exact = p.1.exact; reached = reached; just = just; entered = p.1.entered; order = p.1.later }, p.1.called)
