-- Laws of structured programs.
use Rattle.std.specs.Prelude.{ℕ, ◌≡◌, ◌≢◌, List, [], ◌∷◌}
use Rattle.control_flow_theory.specs.runs.Run.{Going, Over}
use Rattle.control_flow_theory.specs.runs.Tied.{Steady, Tied}
use Rattle.control_flow_theory.specs.runs.Machine.{iterate, meaning}
use Rattle.control_flow_theory.specs.semantics.Outcome.{FlowFault, Faulted}
use Rattle.control_flow_theory.specs.language.Language.{Program}
use Rattle.control_flow_theory.specs.semantics.Doing.{Acting, Doing, alone}
use Rattle.control_flow_theory.specs.language.Items.{Pending}
use Rattle.control_flow_theory.specs.semantics.Source.{SourceState, source_step, source_begun, source_machine}
use Rattle.control_flow_theory.specs.semantics.Structural.{structural}
use Rattle.control_flow_theory.specs.language.Structured.{IsStructuredControl}
use Rattle.control_flow_theory.specs.semantics_agree.Same.{EndsFairly, SameBehaviour}

-- nested statements show more with more units, and what is over stays
abbrev pub MoreUnitsShowMore : Type 0 → Type 0 → Type 0
MoreUnitsShowMore Memory Left = (doing : Doing Memory) (left : Memory → Left) (program : Program) →
    Steady (structural doing left program)

-- nested statements go on or stop, and nothing else
abbrev pub NestedEndFairly : Type 0 → Type 0 → Type 0
NestedEndFairly Memory Left =
    (doing : Doing Memory) (left : Memory → Left) (program : Program) (memory : Memory) (units : ℕ)
    → EndsFairly (structural doing left program memory units).standing

-- the two meanings of a structured program are tied
abbrev pub StructuredAgrees : Type 0 → Type 0 → Type 0
StructuredAgrees Memory Left =
    (doing : Doing Memory) (left : Memory → Left) (program : Program) →
    IsStructuredControl program →
    Tied (meaning (source_machine doing left program)) (structural doing left program)

-- a structured program behaves by steps as its nested statements do
abbrev pub StructuredBehavesTheSame : Type 0 → Type 0 → Type 0
StructuredBehavesTheSame Memory Left =
    (acting : Acting Memory) (left : Memory → Left) (program : Program) →
    IsStructuredControl program →
    SameBehaviour (meaning (source_machine (alone acting) left program))
    (structural (alone acting) left program)

-- a structured program meets no fault of its flow, whatever its parts do, and so on every path
abbrev pub StructuredMeetsNoFault : Type 0 → Type 0 → Type 0
StructuredMeetsNoFault Memory Left =
    (doing : Doing Memory) (left : Memory → Left) (program : Program) →
    IsStructuredControl program →
    (memory : Memory) (n : ℕ) (fault : FlowFault) →
    (meaning (source_machine doing left program) memory n).standing ≢ Over (Faulted fault)

-- the return that was made last is taken at the end of this paragraph
abbrev pub Returns : {Memory Left : Type 0} → SourceState Memory Left → Type 0
Returns state = (top : Pending) × (others : List Pending) × (state.pending ≡ top ∷ others)
    × (top.end ≡ state.paragraph)

-- control returns at a paragraph's end of a structured program, and never passes to the next
-- paragraph
abbrev pub StructuredNeverFallsThrough : Type 0 → Type 0 → Type 0
StructuredNeverFallsThrough Memory Left =
    (doing : Doing Memory) (left : Memory → Left) (program : Program) →
    IsStructuredControl program →
    (memory : Memory) (n : ℕ) →
    let state : SourceState Memory Left =
    iterate (source_step doing left program) n (source_begun doing left program memory) in
    state.run.standing ≡ Going → state.rest ≡ [] → Returns state
