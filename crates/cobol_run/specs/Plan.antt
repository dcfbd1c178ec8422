-- What a program declares and stores, and what its parts do, as the code holds it.
use Rattle.std.specs.Prelude.{ℕ, List, [], Ok, Err}
use Rattle.cob_store.specs.Answer.{Answer}
use Rattle.cob_store.specs.Store.{Roots}
use Rattle.file_model.specs.World.{World}
use Rattle.meanings.specs.statements.Filing.{Declared}
use Rattle.meanings.specs.statements.Does.{declared_with}
use Rattle.cob_act.specs.declared.acting.ActOutcome.{ActOutcome}
use Rattle.cob_act.specs.Acting.{effect_by}
use Rattle.control_flow_theory.specs.semantics.Outcome.{Tried, Got, Ends}
use Rattle.cobol_theory.specs.cobol_meaning.Acting.{Memory, acted, abend_number}
use Rattle.cobol_run.specs.declared.held.Plan.{Plan}

-- what the program of a plan declares, and where its items lie
abbrev pub declared_by : Plan → Declared
declared_by plan = declared_with plan.program.now plan.areas

-- what is stored, in this world
abbrev pub memory_in : Roots → World → Memory
memory_in store world = record { store = store; world = world }

-- what a statement that needs no device did, with these bytes shown and this memory left
abbrev pub did : ActOutcome → List ℕ → Memory → Tried Memory (Unit {0})
did done shown memory = acted memory (effect_by memory.world memory.store shown done)

-- a choice that leaves this memory
abbrev pub picked : Answer ℕ → Memory → Tried Memory ℕ
picked (Ok arm) memory = Got [] arm memory
picked (Err abend) memory = Ends [] (abend_number abend) memory
