-- What the parts of a program do to what it stores and to the world.
use Rattle.std.specs.Prelude.{ℕ, ◌+◌, ◌-◌, Bool, true, if◌then◌else◌, nat_le, ◌&&◌, unsigned_abs, List, [], ◌∷◌, map, Ok, Err}
use Rattle.std.specs.Int.{is_positive}
use Rattle.cob_num.specs.declared.number.Dec.{Dec}
use Rattle.cob_tree.specs.declared.ending.Abend.{Abend}
use Rattle.cob_tree.specs.declared.ending.Abend.TheVariants.{BadDigits, OutOfRange, Io}
use Rattle.cob_tree.specs.declared.cond.Cond.{Cond}
use Rattle.cob_tree.specs.declared.place.Operand.{Operand}
use Rattle.cob_tree.specs.declared.stmt.Stmt.{Stmt}
use Rattle.cob_store.specs.Answer.{Answer, and_then}
use Rattle.cob_store.specs.Store.{Roots}
use Rattle.cob_store.specs.Place.{place_value, operand_value}
use Rattle.file_model.specs.World.{World, Event, Display, Filed, Verb, Open, Read, Write, Rewrite, Close}
use Rattle.meanings.specs.statements.Arithmetic.{calculated}
use Rattle.meanings.specs.statements.Choice.{evaluated}
use Rattle.meanings.specs.statements.Condition.{holds}
use Rattle.meanings.specs.statements.Side.{valued}
use Rattle.meanings.specs.statements.Filing as filing
use Rattle.meanings.specs.statements.Filing.{Declared, Effect, Operation, last_world}
use Rattle.meanings.specs.statements.Does.{does, memory_in, calculates}
use Rattle.control_flow_theory.specs.language.Language.{Chooser, Evaluate, Arith, Depending}
use Rattle.control_flow_theory.specs.language.Language as language
use Rattle.control_flow_theory.specs.semantics.Outcome as outcome
use Rattle.control_flow_theory.specs.semantics.Outcome.{Tried, Got, Ends}
use Rattle.control_flow_theory.specs.semantics.Doing.{Acting}

-- what a run changes: the store, and the world
pub record Memory : Type 0 where
  pub store : Roots
  pub world : World

-- ---- events and abends as the theory of control has them

-- the number of an operation on a file
abbrev pub verb_number : Verb → ℕ
verb_number Open = 1
verb_number Read = 2
verb_number Write = 3
verb_number Rewrite = 4
verb_number Close = 5

-- an event as a list of numbers, the first of which says what it is
abbrev pub event_seen : Event → outcome.Event
event_seen (Display bytes) = 0 ∷ bytes
event_seen (Filed verb file bytes status) = verb_number verb ∷ file ∷ status ∷ bytes

-- the number of an abend
abbrev pub abend_number : Abend → ℕ
abend_number BadDigits = 0
abend_number OutOfRange = 1
abend_number (Io status) = status + 2

-- the events of these operations, in order
abbrev pub events_of : List Operation → outcome.Trace
events_of operations = map (λ operation. event_seen operation.event) operations

-- ---- what a part does

-- the memory that a statement leaves
abbrev pub memory_after : Memory → Effect → Memory
memory_after memory effect =
    record { store = effect.store; world = last_world memory.world effect.operations }

-- what a statement that acts came to, by how it ended
abbrev pub acted_by : filing.Ended → outcome.Trace → Memory → Tried Memory (Unit {0})
acted_by filing.Went trace memory = Got trace tt memory
acted_by (filing.Chose arm) trace memory = Got trace tt memory
acted_by (filing.Abended abend) trace memory = Ends trace (abend_number abend) memory

-- what a statement that acts shows and leaves
abbrev pub acted : Memory → Effect → Tried Memory (Unit {0})
acted memory effect =
    acted_by effect.end (events_of effect.operations) (memory_after memory effect)

-- what a statement that chooses came to; its arms count from 1, and the theory's from 0
abbrev pub chosen_by : filing.Ended → outcome.Trace → Memory → Tried Memory ℕ
chosen_by filing.Went trace memory = Got trace 0 memory
chosen_by (filing.Chose arm) trace memory = Got trace (arm - 1) memory
chosen_by (filing.Abended abend) trace memory = Ends trace (abend_number abend) memory

-- what a statement that chooses shows, leaves and takes
abbrev pub chosen : Memory → Effect → Tried Memory ℕ
chosen memory effect =
    chosen_by effect.end (events_of effect.operations) (memory_after memory effect)

-- what is read, or the end of the run; nothing changes
abbrev pub answered : {A : Type 0} → Memory → Answer A → Tried Memory A
answered memory (Ok value) = Got [] value memory
answered memory (Err abend) = Ends [] (abend_number abend) memory

-- how often TIMES runs its body: never where the number isn't above zero
abbrev pub turns_in : Dec → ℕ
turns_in number = if is_positive number.value then unsigned_abs number.value else 0

-- the number of the name that DEPENDING ON chooses among so many, from 0; past them where it
-- chooses none
abbrev pub name_in : ℕ → Dec → ℕ
name_in names number =
    if is_positive number.value && nat_le (unsigned_abs number.value) names
    then unsigned_abs number.value - 1
    else names

-- the arm, from 0
abbrev pub arm_in : ℕ → Answer ℕ
arm_in arm = Ok (arm - 1)

module _ (declared : Declared) where
  -- what a statement does to a memory
  abbrev pub does_to : Stmt → Memory → Tried Memory (Unit {0})
  does_to stmt memory = acted memory (does declared stmt memory.store memory.world)

  -- whether a condition holds in a memory
  abbrev pub tests_in : Cond → Memory → Tried Memory Bool
  tests_in cond memory =
      answered memory (holds cond declared.entries (memory_in declared memory.store))

  -- what a chooser comes to: the arm that is taken, from 0; READ takes AT END as its first, and
  -- arithmetic SIZE ERROR
  abbrev pub chooses_in : Chooser → Memory → Tried Memory ℕ
  chooses_in (Evaluate subject tests has_other) memory =
      answered memory (and_then (evaluated declared.entries
      (memory_in declared memory.store) subject tests) arm_in)
  chooses_in (language.Read file into has_end) memory =
      chosen memory (filing.read declared memory.store memory.world file into has_end true)
  chooses_in (Arith calc into) memory =
      chosen memory (calculates declared memory.store true
      (calculated declared.areas.items calc true into memory.store))
  chooses_in (Depending place names) memory =
      answered memory (and_then (place_value place (memory_in declared memory.store)) (λ value.
      and_then (valued value) (λ number. Ok (name_in names number))))

  -- how often TIMES of an operand runs its body, in a memory
  abbrev pub counts_in : Operand → Memory → Tried Memory ℕ
  counts_in operand memory =
      answered memory (and_then (operand_value operand (memory_in declared memory.store)) (λ value.
      and_then (valued value) (λ number. Ok (turns_in number))))

  -- what the parts of a program do that declares this
  abbrev pub acting : Acting Memory
  acting = record { act = does_to; test = tests_in; choose = chooses_in; count = counts_in }
