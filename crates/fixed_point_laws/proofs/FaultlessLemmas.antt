-- No flow path of a structured program comes to a fault.
use Rattle.std.proofs.Common.{◌≡◌, List, [], Option, Some, None, if◌then◌else◌, false, slice_get, refl, ap, subst}
use Rattle.cob_tree.specs.declared.file.FileEntry.{FileEntry}
use Rattle.control_flow_theory.specs.language.Control.{control_of}
use Rattle.control_flow_theory.specs.language.Language.{Chooser, Evaluate, Read, Arith, Depending, Program}
use Rattle.control_flow_theory.specs.lowering.FlowFacts.{FlowFacts}
use Rattle.control_flow_theory.specs.language.Structured.{IsStructuredControl}
use Rattle.control_flow_theory.specs.lowering.flow.Paths.{free, nothing_left}
use Rattle.control_flow_theory.specs.lowering.flow.Paths as theory
use Rattle.control_flow_theory.proofs.semantics_agree_lemmas.Faultless.{structured-faultless}
use Rattle.program_facts.specs.completion.FlowFacts.{never_ends, status_missing, flow_facts_of}
use Rattle.meanings.specs.statements.Does.{declared_in}
use Rattle.cobol_theory.proofs.cobol_parts_lemmas.SomeArm.{gives-some}
use Rattle.cobol_theory.proofs.cobol_parts_lemmas.Sources.{source}
use Rattle.program_points.specs.numbering.Kind.{has_no_status, never_first_of}
use Rattle.program_points.specs.paths.Flow.{IsFaulty}
use Rattle.program_points.proofs.machine_paths_lemmas.Lifting.{faulty-there}
use Rattle.fixed_point_laws.specs.Faultless.{StructuredProgramsAreFaultless}

same-missing : (file : Option FileEntry) → has_no_status file ≡ status_missing file
same-missing None = refl
same-missing (Some file) = refl

same-first : (files : List FileEntry) (chooser : Chooser) → never_first_of files chooser ≡ never_ends files chooser
same-first files (Evaluate subject tests has_other) = refl
same-first files (Read file into has_end) = ap (λ b. if has_end then false else b) (same-missing (slice_get files file))
same-first files (Arith calc into) = refl
same-first files (Depending on names) = refl

-- flow and lowering are told the same
pub same-told : (files : List FileEntry) → never_first_of files ≡ never_ends files
same-told files = λ i chooser. same-first files chooser i

pub no-fault : (told : FlowFacts) (program : Program) → IsStructuredControl program → theory.HasFaultyRun told program → ⊥
no-fault told program structured there = structured-faultless (free told) nothing_left program structured there.0 there.1 there.2 there.3

pub are-faultless : StructuredProgramsAreFaultless
are-faultless = λ program items paragraphs structured faulty.
    let told : FlowFacts = flow_facts_of program.files [] in
    no-fault told (control_of program) structured
    (faulty-there told (control_of program) (source (declared_in program) [] program items paragraphs) (gives-some (declared_in program) [])
    (subst (λ never. IsFaulty never (control_of program)) (same-told program.files) faulty))
