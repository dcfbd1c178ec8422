-- What is outside of a run, and what a run does to it.
use Rattle.std.specs.Prelude.{ℕ, Bool, if◌then◌else◌, List, [], ◌∷◌, ◌++◌}
use Rattle.std.specs.List.{flat_map}
use Rattle.cob_tree.specs.declared.place.Operand.{Operand}
use Rattle.cob_tree.specs.declared.place.Operand.TheVariants.{Text}
use Rattle.cob_tree.specs.declared.ending.FlowFault.{FlowFault}
use Rattle.control_flow_theory.specs.runs.Run as runs

-- a file, by its name and its bytes
pub record File : Type 0 where
  pub name : List ℕ
  pub bytes : List ℕ

-- the files; no statement of this language opens one
pub record World : Type 0 where
  pub files : List File

-- what is seen from outside
pub data Event : Type 0 where
  Display : (bytes : List ℕ) → Event

-- how a run stops
pub data Stopping : Type 0 where
  Normally : Stopping

-- what a run comes to: it stops, and leaves these files, or it met a fault
pub data Ending : Type 0 where
  Stopped : (how : Stopping) → (files : List File) → Ending
  Faulted : (fault : FlowFault) → Ending

-- what a run has shown so far, and how it stands
abbrev pub Run : Type 0
Run = runs.Run Event Ending

-- a run is still going, or came to an ending
abbrev pub Standing : Type 0
Standing = runs.Standing Ending

-- what a run showed, in order
abbrev pub Trace : Type 0
Trace = List Event

-- the bytes of an operand; the plain form has literals alone
abbrev pub operand_bytes : Operand → List ℕ
operand_bytes (Text bytes) = bytes
operand_bytes _ = []

-- DISPLAY shows its operands one after the other, and a line feed unless NO ADVANCING
abbrev pub displayed : List Operand → Bool → List ℕ
displayed items advance = flat_map operand_bytes items ++ (if advance then 10 ∷ [] else [])
