-- The whole headline, with its premises in two records: on the program and its plan, and on the
-- parts.
use Rattle.std.specs.Prelude.{ℕ, ◌≡◌, ◌<◌, Bool, List, ◌∷◌, length}
use Rattle.control_flow_theory.specs.runs.Tied.{Meaning}
use Rattle.control_flow_theory.specs.runs.Machine.{meaning}
use Rattle.control_flow_theory.specs.semantics.Outcome.{Event, Ending}
use Rattle.control_flow_theory.specs.language.Language.{Picker, Program, Range, Main}
use Rattle.control_flow_theory.specs.semantics.Doing.{Acting, Celled, alone}
use Rattle.control_flow_theory.specs.semantics.Source.{source_machine}
use Rattle.control_flow_theory.specs.semantics.Graph.{Label}
use Rattle.control_flow_theory.specs.semantics.Structural.{structural}
use Rattle.control_flow_theory.specs.language.Structured.{IsStructuredControl}
use Rattle.control_flow_theory.specs.semantics_agree.Same.{SameBehaviour}
use Rattle.control_flow_theory.specs.lowering.FlowFacts.{FlowFacts, IsTold, IsSource}
use Rattle.control_flow_theory.specs.lowering.flow.Paths.{HasFaultyRun}
use Rattle.control_flow_theory.specs.graph_rules.Reduced.{Graphs}
use Rattle.control_flow_theory.specs.rendering.Rendering.{Empty, Naming, Procedure, rendered}
use Rattle.control_flow_theory.specs.rendering.Procedures.{Writable}
use Rattle.control_flow_theory.specs.rendering.Serving.{Serves}
use Rattle.control_flow_theory.specs.main_theorem.Chain.{lowered_graphs, procedures_of, IsPlan, EachCellServed, GraphsServed}
use Rattle.control_flow_theory.specs.main_theorem.Numbering.{numbers_by, added_by}
use Rattle.control_flow_theory.specs.main_theorem.CallsReached.{GivesSome, CalledByPaths}

-- how a program is restructured: what lowering knows, which nodes are kept, and in which order
-- the ranges follow main
pub record Plan : Type 0 where
  -- what lowering knows
  pub told : FlowFacts
  -- the nodes that are kept, range by range
  pub keep : Range → Label → Bool
  -- the ranges after main, in order
  pub others : List Range

-- the graphs that the rules begin with, their counters numbered from 0
abbrev pub graphs_by : Plan → Program → Graphs
graphs_by plan program =
    lowered_graphs plan.told program plan.keep (numbers_by plan.keep program)
    (added_by plan.keep program)

-- the procedures that the rules leave
abbrev pub procedures_by : Plan → Program → List Procedure
procedures_by plan program = procedures_of (Main ∷ plan.others) (graphs_by plan program)

-- what the parts of a source do to its memory and what a run leaves; the same of what is written;
-- and what its parts are called
pub record Parts (Memory Other Left World : Type 0) : Type 0 where
  -- what the source's parts do
  pub acting : Acting Memory
  -- what a run leaves of the source's memory
  pub left : Memory → Left
  -- the source's memory in a world
  pub first : World → Memory
  -- what the written parts do
  pub result : Acting Other
  -- what a run leaves of the result's memory
  pub other_left : Other → Left
  -- the result's memory in a world
  pub other_first : World → Other
  -- what the parts are called
  pub naming : Naming
  -- which parts may be written
  pub kinds : Writable

-- the program is a source with a paragraph, isn't faulty, and the plan is one for it
pub record CanBeRestructured (plan : Plan) (program : Program) : Type 0 where
  -- the program is a source
  pub source : IsSource plan.told program
  -- there is a paragraph
  pub some : 0 < length program.paragraphs
  -- no flow path comes to a fault
  pub fair : HasFaultyRun plan.told program → ⊥
  -- each chooser may give some arm
  pub chooses : GivesSome plan.told
  -- the plan is one for it
  pub planned : IsPlan plan.told program plan.keep plan.others
  -- each range of the order but main is performed by a flow path of an earlier one
  pub called : CalledByPaths plan.told program (Main ∷ plan.others)

-- the premises on the parts, and no others
pub record PartsAgree {Memory Other Left World : Type 0} (Carries : Celled Memory → Other → Type 0)
    (parts : Parts Memory Other Left World) (plan : Plan) (program : Program) : Type 0 where
  -- the source's parts do what lowering knows of them
  pub told : IsTold plan.told parts.acting
  -- an own part does the same on both memories and leaves the cells; each word on a cell does what
  -- it says
  pub serves : Serves parts.acting parts.left parts.first parts.result parts.other_left
      parts.other_first Carries
      parts.naming parts.kinds
  -- what the rules write of the cells that they add may be written
  pub cells : EachCellServed parts.kinds (Main ∷ plan.others) (graphs_by plan program)
  -- each part of the lowered graphs may be written
  pub stand : GraphsServed parts.naming parts.kinds (Main ∷ plan.others) (graphs_by plan program)

-- the program that is written
abbrev pub written_by : {Memory Other Left World : Type 0} → Parts Memory Other Left World → Plan →
    Program → Program
written_by parts plan program = rendered parts.naming (procedures_by plan program)

-- the source's runs, in each world
abbrev pub source_of : {Memory Other Left World : Type 0} → Parts Memory Other Left World →
    Program → Meaning World Event (Ending Left)
source_of parts program world =
    meaning (source_machine (alone parts.acting) parts.left program) (parts.first world)

-- what the nested statements of the written program do, in each world
abbrev pub result_of : {Memory Other Left World : Type 0} → Parts Memory Other Left World →
    Program → Meaning World Event (Ending Left)
result_of parts program world =
    structural (alone parts.result) parts.other_left program (parts.other_first world)

-- the headline: where the plan fits the program and the parts agree, what is written is structured
-- and behaves as the source
abbrev pub WhatIsWrittenBehavesAlike : {Memory Other : Type 0} → (Celled Memory → Other → Type 0) →
    Type 0 → Type 0 → Type 0
WhatIsWrittenBehavesAlike {Memory} {Other} Carries Left World =
    (parts : Parts Memory Other Left World) (plan : Plan) (program : Program) →
    CanBeRestructured plan program → PartsAgree Carries parts plan program →
    IsStructuredControl (written_by parts plan program)
    × SameBehaviour (source_of parts program) (result_of parts (written_by parts plan program))

-- the result of a source's parts that keeps the cells beside its memory
abbrev pub Beside : Type 0 → Type 0 → Type 0 → Type 0
Beside Memory Left World = Parts Memory (Celled Memory) Left World

-- there are parts of a result that agree with a source's parts, whatever these do
abbrev pub SomePartsAgree : Type 0 → Type 0 → Type 0 → Type 0
SomePartsAgree Memory Left World =
    (acting : Acting Memory) (left : Memory → Left) (first : World → Memory)
    (empty : Range → Picker → ℕ → Empty)
    (plan : Plan) (program : Program) → CanBeRestructured plan program → IsTold plan.told acting →
    (parts : Beside Memory Left World)
    × (parts.acting ≡ acting) × (parts.left ≡ left) × (parts.first ≡ first)
    × (parts.naming.empty ≡ empty)
    × PartsAgree (λ memory other. memory ≡ other) parts plan program
