-- What the head of the rest comes to, as the code answers it.
use Rattle.std.specs.Prelude.{ℕ, ◌≡◌, ◌==◌, Bool, true, false, List, [], ◌∷◌, length, Option, Some, None, Ok, Err, slice_get}
use Rattle.cob_tree.specs.declared.program.Program.{Program}
use Rattle.cob_tree.specs.declared.stmt.Stmt.{Stmt}
use Rattle.cob_tree.specs.declared.stmt.Arms.{Arms, out-Arms}
use Rattle.cob_tree.specs.declared.stmt.When.{When, out-When}
use Rattle.cob_store.specs.Answer.{Answer}
use Rattle.file_model.specs.World.{World}
use Rattle.control_flow_theory.specs.semantics.Outcome.{Abend}
use Rattle.control_flow_theory.specs.semantics.Doing.{Doing}
use Rattle.control_flow_theory.specs.semantics.Items as control
use Rattle.control_flow_theory.specs.semantics.Items.{loop_begins, tried, turn_way, turns}
use Rattle.control_flow_theory.specs.language.Control.{augmented, augmenting, test_of}
use Rattle.control_flow_theory.specs.language.Items.{Item, Turn, before_body}
use Rattle.control_flow_theory.specs.language.Items as items
use Rattle.control_flow_theory.specs.language.Language as language
use Rattle.cobol_theory.specs.cobol_meaning.Acting.{Memory, abend_number, does_to, tests_in}
use Rattle.cobol_theory.specs.cobol_meaning.Runs.{doing_in}
use Rattle.meanings.specs.statements.Filing.{Declared}
use Rattle.cob_tree.specs.declared.cond.Cond.{Cond}
use Rattle.cob_tree.specs.declared.control.Control.{Control}
use Rattle.cob_tree.specs.declared.control.Control.TheVariants.{Once, Times, Until, Varying}
use Rattle.cob_tree.specs.declared.place.Operand.{Operand}
use Rattle.cob_tree.specs.declared.place.Place.{Place}
use Rattle.cob_tree.specs.declared.stmt.Stmt.TheVariants.{Move}
use Rattle.cobol_run.specs.declared.frame.Frame.{Frame}
use Rattle.cobol_run.specs.declared.held.Held.{Held}
use Rattle.cobol_run.specs.declared.frame.LoopProgress.{LoopProgress}
use Rattle.cobol_run.specs.declared.frame.LoopProgress.TheVariants.{Counted, Tests, Steps, StepsAfter}
use Rattle.cob_act.specs.declared.acting.ActOutcome.{ActOutcome}
use Rattle.cob_act.specs.declared.acting.ActOutcome.TheVariants.{Went, Shown, Chose, Abended}
use Rattle.cobol_run.specs.Frames.{pending_of, rest_of}
use Rattle.cobol_run.specs.Plan.{memory_in}

-- what was done as a way of the theory, with these bytes shown, this memory left, and these items
-- to go on with
abbrev pub way_seen : ActOutcome → List ℕ → Memory → List Item → control.Way Memory
way_seen Went shown memory rest = control.On [] memory rest
way_seen Shown shown memory rest = control.On ((0 ∷ shown) ∷ []) memory rest
way_seen (Chose arm) shown memory rest = control.On [] memory rest
way_seen (Abended abend) shown memory rest =
    control.Halts [] (Abend (abend_number abend)) memory

-- the way that goes on with these items
abbrev pub on : List Item → Memory → control.Way Memory
on items memory = control.On [] memory items

-- what was meant of the rest and the memory is the way that was answered, where this holds
abbrev pub LeadsWhere : (ℕ → Type 0) → ActOutcome → (before after : List Frame) → (old new : Held) →
    (ℕ → List Item → Memory → control.Way Memory) → Type 0
LeadsWhere Holds way before after old new meant =
    (world : World) (last : ℕ) → Holds last →
    way_seen way new.shown (memory_in new.store world) (rest_of last after)
    ≡ meant last (rest_of last before) (memory_in old.store world)

-- always
abbrev pub Leads : ActOutcome → (before after : List Frame) → (old new : Held) →
    (ℕ → List Item → Memory → control.Way Memory) → Type 0
Leads way before after old new meant =
    (world : World) (last : ℕ) →
    way_seen way new.shown (memory_in new.store world) (rest_of last after)
    ≡ meant last (rest_of last before) (memory_in old.store world)

-- no return is made or taken
abbrev pub KeepsPending : (before after : List Frame) → Type 0
KeepsPending before after = (program : Program) → pending_of program after
    ≡ pending_of program before

-- ---- arms

-- the statements, or none where they are absent
abbrev pub stmts_or_none : Option (List Stmt) → List Stmt
stmts_or_none None = []
stmts_or_none (Some stmts) = stmts

-- the statements of WHEN, or those of WHEN OTHER after the last one
abbrev pub arm_by : Option When → Bool → Option (List Stmt) → List Stmt
arm_by (Some when) last other = (out-When when).stmts
arm_by None true other = stmts_or_none other
arm_by None false other = []

-- the statements of the arm with this number, from 0
abbrev pub arm_at : List When → Option (List Stmt) → ℕ → List Stmt
arm_at whens other arm = arm_by (slice_get whens arm) (arm == length whens) other

-- those on a size error, or the others
abbrev pub either : Arms → Bool → List Stmt
either arms true = stmts_or_none (out-Arms arms).first
either arms false = stmts_or_none (out-Arms arms).second

-- the number of the arm
abbrev pub arm_after : Answer Bool → Answer ℕ
arm_after (Ok true) = Ok 0
arm_after (Ok false) = Ok 1
arm_after (Err abend) = Err abend

-- ---- loops

-- a loop by VARYING begins: its remainder, after one body where the test comes after
abbrev pub steps_begun : Bool → Place → Operand → Cond → language.Body → List Item → List Item
steps_begun false item by until body rest =
    Turn (items.Steps false (augmented item by) (test_of until)) body ∷ rest
steps_begun true item by until body rest =
    before_body body (Turn (items.StepsAfter (augmented item by) (test_of until)) body ∷ rest)

module _ (declared : Declared) where
  abbrev doing : Doing Memory
  doing = doing_in declared

  -- one more turn, or none, by the test
  abbrev pub tested_meant : Cond → items.Turning → language.Body → List Item → Memory →
      control.Way Memory
  tested_meant until turning body rest memory =
      tried (tests_in declared until memory) (λ ended. on (turns doing ended turning body rest))

  abbrev stepped_meant : Place → Operand → Cond → language.Body → List Item → Memory →
      control.Way Memory
  stepped_meant item by until body rest memory =
      tested_meant until (items.Steps true (augmented item by) (test_of until)) body rest memory

  -- what VARYING tested before does at an arrival: each but the first begins with the augmenting
  -- ADD
  abbrev pub steps_meant : Bool → Place → Operand → Cond → language.Body → List Item → Memory →
      control.Way Memory
  steps_meant false item by until body rest memory = stepped_meant item by until body rest memory
  steps_meant true item by until body rest memory =
      tried (does_to declared (augmenting item by) memory)
      (λ u. stepped_meant item by until body rest)

  -- what VARYING tested after does after its test: the loop ends, or its item is augmented and one
  -- more turn begins
  abbrev pub steps_on_meant : Bool → Place → Operand → Cond → language.Body → List Item → Memory →
      control.Way Memory
  steps_on_meant true item by until body rest memory = on rest memory
  steps_on_meant false item by until body rest memory =
      tried (does_to declared (augmenting item by) memory)
      (λ u. on (steps_begun true item by until body rest))

  -- what is left of VARYING tested after, after its body
  abbrev pub steps_after_meant : Place → Operand → Cond → language.Body → List Item → Memory →
      control.Way Memory
  steps_after_meant item by until body rest memory =
      tried (tests_in declared until memory) (λ ended. steps_on_meant ended item by until body rest)

  -- what is left of a loop, with the program's own conditions
  abbrev pub turn_meant : LoopProgress → language.Body → List Item → Memory → control.Way Memory
  turn_meant (Counted turns) body rest memory =
      turn_way doing (items.Counted turns) body rest memory
  turn_meant (Tests until) body rest memory =
      tested_meant until.now (items.Tests (test_of until.now)) body rest memory
  turn_meant (Steps reached item by until) body rest memory =
      steps_meant reached item.now by.now until.now body rest memory
  turn_meant (StepsAfter item by until) body rest memory =
      steps_after_meant item.now by.now until.now body rest memory

  -- a loop begins, with the program's own words; without TIMES, UNTIL and VARYING its body is done
  abbrev pub loop_meant : Control → language.Body → List Item → Memory → control.Way Memory
  loop_meant Once body rest memory = on (before_body body rest) memory
  loop_meant (Times amount) body rest memory =
      loop_begins doing (language.Times amount) body rest memory
  loop_meant (Until after until) body rest memory =
      loop_begins doing (language.Until after (test_of until)) body rest memory
  loop_meant (Varying after item from by until) body rest memory =
      tried (does_to declared (Move from (item ∷ [])) memory)
      (λ u. on (steps_begun after item by until body rest))
