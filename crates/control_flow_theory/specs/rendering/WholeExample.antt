-- The chain from end to end, for one small program.
use Rattle.std.specs.Prelude.{ℕ, true, false, [], ◌∷◌}
use Rattle.control_flow_theory.specs.runs.Machine.{meaning}
use Rattle.control_flow_theory.specs.language.Language.{Program, Main, also}
use Rattle.control_flow_theory.specs.semantics.Doing.{Acting, Celled, alone}
use Rattle.control_flow_theory.specs.semantics.Source.{source_machine}
use Rattle.control_flow_theory.specs.semantics.Graph.{tree, Stop, Family}
use Rattle.control_flow_theory.specs.semantics.Structural.{structural}
use Rattle.control_flow_theory.specs.language.Structured.{IsStructuredControl}
use Rattle.control_flow_theory.specs.semantics_agree.Same.{SameBehaviour}
use Rattle.control_flow_theory.specs.rendering.Rendering.{Naming, Procedure, rendered}
use Rattle.control_flow_theory.specs.rendering.Procedures.{Writable}
use Rattle.control_flow_theory.specs.semantics.Examples.{say, one, jumping}
use Rattle.control_flow_theory.specs.semantics.Parts.{small}

-- a jump over a paragraph
abbrev pub jumping_program : Program
jumping_program = record { paragraphs = jumping }

-- the first paragraph and the third, one after the other
abbrev pub jumping_procedure : Procedure
jumping_procedure = record { range = Main; body = also (say 11) (one (say 13)); end = Stop }

-- each range has that procedure as its one tree
abbrev pub jumping_family : Family
jumping_family =
    record {
      entry = λ range. 0;
      node = λ range label. tree jumping_procedure.body jumping_procedure.end;
    }

-- every part may be written, and no range has a cell
abbrev pub no_cells : Writable
no_cells = record {
  simples = λ simple. true;
  conds = λ cond. true;
  choosers = λ chooser arms. true;
  amounts = λ amount. true;
  sets = λ range cell value. false;
  compares = λ range cell value. false;
  counts = λ range cell. false;
  aboves = λ range cell. false;
  chooses = λ range cell arms. false;
}

-- there is a written program of the same behaviour, without a premise
abbrev pub TheJumpIsRestructured : Type 0
TheJumpIsRestructured =
    (result : Acting (Celled ℕ)) × (naming : Naming)
    × IsStructuredControl (rendered naming (jumping_procedure ∷ []))
    × SameBehaviour (λ (n : ℕ). meaning (source_machine (alone small) (λ n. n) jumping_program) n)
    (λ (n : ℕ). structural (alone result) (λ memory. memory.own)
    (rendered naming (jumping_procedure ∷ [])) (record { own = n; cells = λ range cell. 0 }))
