use Rattle.control_flow_theory.specs.runs.Machine.{meaning}
use Rattle.cob_tree.specs.declared.program.Program.{Program}
use Rattle.meanings.specs.statements.Does.{declared_in}
use Rattle.control_flow_theory.specs.language.Control.{control_of}
use Rattle.control_flow_theory.specs.semantics.Source.{source_machine}
use Rattle.control_flow_theory.specs.semantics.Structural.{structural}
use Rattle.control_flow_theory.specs.semantics_agree.Same as meanings
use Rattle.control_flow_theory.proofs.semantics_agree_lemmas.Tying.{tied-same}
use Rattle.control_flow_theory.proofs.semantics_agree_lemmas.Agreement.{structured-tied}
use Rattle.control_flow_theory.proofs.semantics_agree_lemmas.Faultless.{structured-faultless}
use Rattle.cobol_theory.specs.cobol_meaning.Runs.{files_left, first_memory, doing_in}
use Rattle.cobol_theory.specs.cobol_meaning.Same.{SameBehaviour}
use Rattle.cobol_theory.proofs.cobol_meaning.a_structured_program_behaves_as_itself.Goals as goal

-- over all memories
same-from-all : (program : Program) → meanings.SameBehaviour (meaning (source_machine (doing_in (declared_in program)) files_left (control_of program))) (structural (doing_in (declared_in program)) files_left (control_of program)) → SameBehaviour program program
same-from-all program all = record {
  units_per_step = all.units_per_step;
  steps_per_unit = all.steps_per_unit;
  there = λ files steps. all.there (first_memory (declared_in program) files) steps;
  back = λ files units. all.back (first_memory (declared_in program) files) units;
}

pub returns-clause-same : goal.returns-clause-same
returns-clause-same c = λ program structured.
    same-from-all program (tied-same (meaning (source_machine (doing_in (declared_in program)) files_left (control_of program))) (structural (doing_in (declared_in program)) files_left (control_of program)) (structured-tied (doing_in (declared_in program)) files_left (control_of program) structured))

pub returns-clause-faultless : goal.returns-clause-faultless
returns-clause-faultless c = λ program structured files steps fault.
    structured-faultless (doing_in (declared_in program)) files_left (control_of program) structured (first_memory (declared_in program) files) steps fault
