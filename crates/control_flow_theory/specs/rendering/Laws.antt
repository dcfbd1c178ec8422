-- From a source to the written program: the whole chain, and what each part of it has to give.
use Rattle.std.specs.Prelude.{ℕ, ◌≡◌, ◌≢◌, List}
use Rattle.control_flow_theory.specs.runs.Run.{Over}
use Rattle.control_flow_theory.specs.runs.Tied.{Tied}
use Rattle.control_flow_theory.specs.runs.Machine.{meaning}
use Rattle.control_flow_theory.specs.semantics.Outcome.{FlowFault, Faulted}
use Rattle.control_flow_theory.specs.language.Language.{Picker, Range, Main, Program}
use Rattle.control_flow_theory.specs.semantics.Doing.{Acting, Celled, alone}
use Rattle.control_flow_theory.specs.semantics.Source.{source_machine}
use Rattle.control_flow_theory.specs.semantics.Graph.{Family}
use Rattle.control_flow_theory.specs.semantics.Walk.{walk_machine, main_machine}
use Rattle.control_flow_theory.specs.semantics.Structural.{structural}
use Rattle.control_flow_theory.specs.language.Structured.{IsStructuredControl}
use Rattle.control_flow_theory.specs.semantics_agree.Same.{EndsFairly, SameBehaviour}
use Rattle.control_flow_theory.specs.rendering.Rendering.{Empty, Naming, Procedure, rendered}
use Rattle.control_flow_theory.specs.rendering.Procedures.{Writable, AreProcedures}
use Rattle.control_flow_theory.specs.rendering.Serving.{Serves}

-- no walk from the start is lost, or returns
abbrev pub IsNeverLost : {Memory Left : Type 0} → Acting Memory → (Memory → Left) → Family → Type 0
IsNeverLost {Memory} acting left family = (memory : Memory) (n : ℕ) →
    EndsFairly (meaning (main_machine acting left family) memory n).standing

-- the source meets no fault of its flow
abbrev pub NeverFaults : {Memory Left : Type 0} → Acting Memory → (Memory → Left) → Program → Type 0
NeverFaults {Memory} acting left program = (memory : Memory) (n : ℕ) (fault : FlowFault) →
    (meaning (source_machine (alone acting) left program) memory n).standing ≢ Over (Faulted fault)

-- the walk of the family does what the source does
abbrev pub Follows : {Memory Left : Type 0} → Acting Memory → (Memory → Left) → Program → Family →
    Type 0
Follows acting left program family =
    Tied (meaning (source_machine (alone acting) left program))
    (meaning (main_machine acting left family))

-- the walks of both families do the same
abbrev pub WalkAlike : {Memory Left : Type 0} → Acting Memory → (Memory → Left) → Family → Family →
    Type 0
WalkAlike acting left first second =
    Tied (meaning (main_machine acting left first)) (meaning (main_machine acting left second))

-- walks of main that are tied in worlds among which are the memories with no cell set: so rules
-- that speak of other worlds, as of ready memories, join the chain
abbrev pub MainWalksAlike : Type 0 → Type 0 → Type 0 → Type 0
MainWalksAlike Memory Left World =
    (acting : Acting Memory) (left : Memory → Left) (first second : Family)
    (celled_of : World → Celled Memory) (world_of : Memory → World) →
    ((memory : Memory) →
    celled_of (world_of memory) ≡ record { own = memory; cells = λ range cell. 0 }) →
    Tied (λ world. meaning (walk_machine acting left first Main) (celled_of world))
    (λ world. meaning (walk_machine acting left second Main) (celled_of world)) →
    WalkAlike acting left first second

-- the written program is structured
abbrev pub RenderingIsStructured : Type 0
RenderingIsStructured =
    (naming : Naming) (kinds : Writable) (family : Family) (procedures : List Procedure) →
    AreProcedures family naming kinds procedures → IsStructuredControl (rendered naming procedures)

-- what follows a source that meets no fault is sound
abbrev pub FollowersAreSound : Type 0 → Type 0 → Type 0
FollowersAreSound Memory Left =
    (acting : Acting Memory) (left : Memory → Left) (program : Program) (family : Family) →
    NeverFaults acting left program → Follows acting left program family →
    IsNeverLost acting left family

-- what walks alike is sound alike
abbrev pub SoundnessIsKept : Type 0 → Type 0 → Type 0
SoundnessIsKept Memory Left =
    (acting : Acting Memory) (left : Memory → Left) (family other : Family) →
    IsNeverLost acting left family → WalkAlike acting left family other →
    IsNeverLost acting left other

-- the parts of the written program, with a relation of the two memories
abbrev pub RenderingKeepsMeaning : {Memory Other : Type 0} → (Celled Memory → Other → Type 0) →
    Type 0 → Type 0 → Type 0
RenderingKeepsMeaning {Memory} {Other} Carries Left World =
    (acting : Acting Memory) (left : Memory → Left) (first : World → Memory) (result : Acting Other)
    (other_left : Other → Left) (other_first : World → Other) (naming : Naming) (kinds : Writable)
    (family : Family) (procedures : List Procedure) →
    Serves acting left first result other_left other_first Carries naming kinds →
    AreProcedures family naming kinds procedures → IsNeverLost acting left family →
    Tied (λ world. meaning (main_machine acting left family) (first world))
    (λ world. structural (alone result) other_left (rendered naming procedures)
    (other_first world))

-- there are a naming and parts of a result that serve any parts, so the premises of a written
-- program can be met
abbrev pub AnyPartsCanBeServed : Type 0 → Type 0 → Type 0 → Type 0
AnyPartsCanBeServed Memory Left World =
    (acting : Acting Memory) (left : Memory → Left) (first : World → Memory) (kinds : Writable)
    (empty : Range → Picker → ℕ → Empty) →
    (result : Acting (Celled Memory)) × (naming : Naming) × (naming.empty ≡ empty)
    × Serves acting left first result (λ memory. left memory.own)
    (λ world. record { own = first world; cells = λ range cell. 0 })
    (λ memory other. memory ≡ other) naming kinds

-- the source is lowered to one family and that is shaped to another, whose procedures are written
pub record IsRestructuredControl {Memory Left : Type 0} (acting : Acting Memory)
    (left : Memory → Left) (program : Program) (naming : Naming) (kinds : Writable)
    (procedures : List Procedure) : Type 0 where
  -- the family that the source is lowered to
  pub lowered : Family
  -- the family that the rules make of it
  pub shaped : Family
  -- the first walks as the source runs
  pub lowering : Follows acting left program lowered
  -- the second walks as the first
  pub shaping : WalkAlike acting left lowered shaped
  -- these are its procedures
  pub are : AreProcedures shaped naming kinds procedures

-- the headline: the written program is structured, and behaves as the source
abbrev pub RestructuringKeepsMeaning : {Memory Other : Type 0} → (Celled Memory → Other → Type 0) →
    Type 0 → Type 0 → Type 0
RestructuringKeepsMeaning {Memory} {Other} Carries Left World =
    (acting : Acting Memory) (left : Memory → Left) (first : World → Memory) (result : Acting Other)
    (other_left : Other → Left) (other_first : World → Other) (naming : Naming) (kinds : Writable)
    (program : Program) (procedures : List Procedure) →
    NeverFaults acting left program →
    IsRestructuredControl acting left program naming kinds procedures →
    Serves acting left first result other_left other_first Carries naming kinds →
    IsStructuredControl (rendered naming procedures)
    × SameBehaviour
    (λ world. meaning (source_machine (alone acting) left program) (first world))
    (λ world. structural (alone result) other_left (rendered naming procedures)
    (other_first world))
