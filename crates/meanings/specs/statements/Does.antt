-- What a simple statement does: the operations in order, then the store and how it ended.
use Rattle.std.specs.Prelude.{ℕ, ◌||◌, Bool, true, false, if◌then◌else◌, List, [], ◌∷◌, map, is_some, Ok, Err}
use Rattle.cob_tree.specs.declared.stmt.Arms.{Arms, out-Arms}
use Rattle.cob_tree.specs.declared.stmt.When.{out-When}
use Rattle.cob_tree.specs.declared.stmt.Stmt.{Stmt, out-Stmt}
use Rattle.cob_tree.specs.declared.stmt.Stmt.TheOpen.{Stmt-F}
use Rattle.cob_tree.specs.declared.program.Program.{Program}
use Rattle.cob_store.specs.declared.area.Areas.{Areas}
use Rattle.cob_store.specs.Answer.{Answer}
use Rattle.cob_store.specs.Laying.{layout_of}
use Rattle.cob_store.specs.Store.{Roots}
use Rattle.cob_store.specs.Place.{Memory, memory_of}
use Rattle.file_model.specs.World.{World, Display}
use Rattle.meanings.specs.statements.Outcome.{Outcome}
use Rattle.meanings.specs.statements.Display.{displayed}
use Rattle.meanings.specs.statements.Moving.{moved, set}
use Rattle.meanings.specs.statements.Arithmetic.{calculated}
use Rattle.meanings.specs.statements.Choice.{if_chosen, evaluated}
use Rattle.meanings.specs.statements.Filing.{Declared, Effect, Ended, Went, Chose, Abended, no_effect, of_outcome, each_file, opened, shut, read, written, rewritten}

-- what is stored, with where the items lie
abbrev pub memory_in : Declared → Roots → Memory
memory_in declared store = memory_of declared.areas.items store

-- DISPLAY of these bytes
abbrev pub shows : Roots → World → Answer (List ℕ) → Effect
shows store world (Ok bytes) =
    record {
      operations = record { world = world; event = Display bytes } ∷ [];
      store = store;
      end = Went;
    }
shows store world (Err abend) = no_effect store (Abended abend)

-- what stores and shows nothing: the statement went on, or ended the run
abbrev pub of_moves : Outcome (Unit {0}) → Effect
of_moves outcome = of_outcome outcome.store outcome.answer Went

-- how arithmetic ends: with a SIZE phrase the first arm is taken where a receiver had a size error,
-- and else the second
abbrev pub arm_of : Bool → Bool → Ended
arm_of false error = Went
arm_of true error = if error then Chose 1 else Chose 2

-- arithmetic: with a phrase an arm is chosen, without one the statement went on
abbrev pub of_sum : Bool → Roots → Answer Bool → Effect
of_sum guarded store (Ok error) = no_effect store (arm_of guarded error)
of_sum guarded store (Err abend) = no_effect store (Abended abend)

-- the effect of choosing this arm, nothing else being done
abbrev pub chooses : Roots → Answer ℕ → Effect
chooses store (Ok arm) = no_effect store (Chose arm)
chooses store (Err abend) = no_effect store (Abended abend)

-- the statement has its first arm
abbrev pub has_first : Arms → Bool
has_first arms = is_some (out-Arms arms).first

-- the statement has an arm
abbrev pub has_arms : Arms → Bool
has_arms arms = has_first arms || is_some (out-Arms arms).second

-- arithmetic, after it was worked out
abbrev pub calculates : Declared → Roots → Bool → Outcome Bool → Effect
calculates declared store guarded outcome = of_sum guarded outcome.store outcome.answer

-- what a simple statement does, and which arm one that chooses takes
abbrev pub does : Declared → Stmt → Roots → World → Effect
does declared stmt store world =
    elim (out-Stmt stmt) [
      | Stmt-F.Display items advance ↦ shows store world (displayed
          (memory_in declared store) items advance)
      | Stmt-F.Move from to ↦ of_moves (moved declared.areas.items from to store)
      | Stmt-F.Arith calc into arms ↦ calculates declared store (has_arms arms)
          (calculated declared.areas.items calc (has_arms arms) into store)
      | Stmt-F.SetTrue place ↦ of_moves (set declared.entries declared.areas.items place store)
      | Stmt-F.If cond yes_part no_part ↦ chooses store (if_chosen declared.entries
          (memory_in declared store) cond)
      | Stmt-F.Evaluate subject whens other ↦ chooses store (evaluated declared.entries
          (memory_in declared store) subject (map (λ when. (out-When when).tests) whens))
      | Stmt-F.Opens openings ↦ each_file (opened declared) store world openings
      | Stmt-F.Closes files ↦ each_file (shut declared) store world files
      | Stmt-F.Read file place arms ↦ read declared store world file place (has_first arms)
          (has_arms arms)
      | Stmt-F.Write entry from ↦ written declared store world entry from
      | Stmt-F.Rewrite entry from ↦ rewritten declared store world entry from
      | _ ↦ no_effect store Went
    ]

-- what a program declares, with the areas of its items
abbrev pub declared_with : Program → Areas → Declared
declared_with program areas =
    record { files = program.files; entries = program.entries; areas = areas }

-- what a program declares, and where its items lie
abbrev pub declared_in : Program → Declared
declared_in program = declared_with program (layout_of program.entries)
