-- The machine's parts as those of the source machine.
use Rattle.std.proofs.Common.{◌≡◌, ℕ, zero, suc, ◌+◌, ◌<◌, ◌≤◌, ◌==◌, false, List, [], ◌∷◌, drop, get_or, length, ◌++◌, append-nil, Option, Some, None, is_some, slice_get, Result, Ok, Err, arith, refl, ap, sym, ◌∙◌, subst}
use Rattle.std.specs.Prelude.{if◌then◌else◌, IfOk, IsTrue}
use Rattle.std.proofs.Math.Seq.{drop-cons}
use Rattle.std.proofs.lemmas.Option.{slice_get-get_or, slice_get_past}
use Rattle.cob_base.specs.declared.memory.NoMemory.{NoMemory}
use Rattle.cob_tree.specs.declared.program.Paragraph.{Paragraph}
use Rattle.cob_tree.specs.declared.program.Program.{Program}
use Rattle.file_model.specs.World.{World}
use Rattle.control_flow_theory.specs.semantics.Outcome.{Trace, Tried, Got}
use Rattle.control_flow_theory.specs.semantics.Source as source
use Rattle.cob_act.specs.Acting.{is_inner}
use Rattle.cob_tree.specs.declared.stmt.Stmt.{Stmt}
use Rattle.control_flow_theory.specs.language.Control.{control_of, section_last, seen, seen_paragraph, seen_paragraphs}
use Rattle.control_flow_theory.specs.language.Items.{Item, Pending, ends_at, items_of}
use Rattle.control_flow_theory.specs.language.Items as items
use Rattle.control_flow_theory.specs.language.Language as language
use Rattle.cobol_theory.specs.cobol_meaning.Acting.{Memory}
use Rattle.cobol_theory.specs.cobol_meaning.Runs.{State, doing_in, files_left}
use Rattle.cobol_run.specs.declared.frame.Frame.{Frame}
use Rattle.cobol_run.specs.declared.held.Plan.{Plan}
use Rattle.cobol_run.specs.declared.machine.Machine.{Machine}
use Rattle.cobol_run.specs.declared.machine.Ending.TheVariants as ending
use Rattle.cobol_run.specs.declared.machine.StepOutcome.{StepOutcome}
use Rattle.cobol_run.specs.declared.machine.StepOutcome.TheVariants as step
use Rattle.cobol_run.specs.declared.frames.Head.{Head}
use Rattle.cobol_run.specs.Frames.{heads, last_in, last_of, pending_of, rest_of, sentences_before}
use Rattle.control_flow_theory.specs.semantics.Items.{item_way, to_one, tried, way_after}
use Rattle.control_flow_theory.specs.semantics.Items as way
use Rattle.cobol_run.specs.declared.held.Held.{Held}
use Rattle.cob_act.specs.declared.acting.ActOutcome.{ActOutcome}
use Rattle.cob_act.specs.declared.acting.ActOutcome.TheVariants as done
use Rattle.cobol_run.specs.Machine.{Follows, ending_seen, ends_by, falls_by, goes_by, rest_in, rests_by, state_in, state_with, step_of, steps_by}
use Rattle.cobol_run.specs.Over.{FollowsOver, StandsOver, StepBreaks, stmt_meant}
use Rattle.cobol_run.specs.Own.{NoFiling, OwnState, StandsAlone}
use Rattle.cobol_run.specs.Plain.{PlainAct, PlainPicker, PlainState}
use Rattle.file_model.specs.operations.Seen.{Seen}
use Rattle.control_flow_theory.specs.language.Own.{OwnAct, OwnPicker, OwnTest}
use Rattle.cobol_run.specs.Standing as standing
use Rattle.cobol_run.specs.Plan.{declared_by, memory_in}
use Rattle.cobol_run.specs.Points.{next_operations, operations_in, stmt_operations}
use Rattle.control_flow_theory.specs.runs.Run.{Going, Over}
use Rattle.meanings.specs.statements.Filing.{Operation}
use Rattle.cobol_run.specs.NextStep.{KeepsPending, way_seen}
use Rattle.cob_act.specs.declared.files.work.FileWork.{FileWork}
use Rattle.cobol_run.specs.Events.{IsFiled, Shows}
use Rattle.cobol_run.proofs.EventLemmas.{follows_shows}
use Rattle.cobol_run.proofs.FrameLemmas.{sentences_items}
use Rattle.cobol_run.proofs.OverLemmas.{follows_over}
use Rattle.cobol_run.proofs.OwnLemmas.{own_alone, plain_alone}

-- ---- paragraphs

pub next_last : (paragraphs : List Paragraph) (last : ℕ) (next : Paragraph) → last + 1 < length paragraphs → is_some (get_or paragraphs (last + 1) next).section ≡ false → last_in paragraphs (last + 1) ≡ last_in paragraphs last
next_last paragraphs last next within none =
    let one : suc last ≡ last + 1 = omega arith in
    let inside : suc last < length paragraphs = omega (arith, within) in
    ap (last_in paragraphs) (sym one)
    ∙ sym (ap (section_last last) (drop-cons paragraphs (suc last) next inside)
    ∙ ap (λ n. section_last last (get_or paragraphs n next ∷ drop (suc (suc last)) paragraphs)) one
    ∙ ap (λ b. if b then last else section_last (suc last) (drop (suc (suc last)) paragraphs)) none)

abbrev sentences-of : ℕ → Option Paragraph → language.Paragraph
sentences-of last None = []
sentences-of last (Some paragraph) = seen_paragraph last paragraph

seen-at : (from : ℕ) (paragraphs : List Paragraph) (number : ℕ) →
    language.unless_absent (slice_get (seen_paragraphs from paragraphs) number) ≡ sentences-of (section_last (from + number) (drop (suc number) paragraphs)) (slice_get paragraphs number)
seen-at from [] number = refl
seen-at from (paragraph ∷ others) zero =
    let e : from + 0 ≡ from = omega arith in
    ap (λ n. seen_paragraph (section_last n others) paragraph) (sym e)
seen-at from (paragraph ∷ others) (suc number) =
    let e : suc from + number ≡ from + suc number = omega arith in
    seen-at (suc from) others number ∙ ap (λ n. sentences-of (section_last n (drop (suc number) others)) (slice_get others number)) e

rest-at : (program : Program) (number : ℕ) → source.rest_of (control_of program) number ≡ items_of (sentences-of (last_of program number) (slice_get program.paragraphs number))
rest-at program number =
    let e : 0 + number ≡ number = omega arith in
    ap items_of (seen-at 0 program.paragraphs number ∙ ap (λ n. sentences-of (section_last n (drop (suc number) program.paragraphs)) (slice_get program.paragraphs number)) e)

pub rest_there : (program : Program) (number : ℕ) (paragraph : Paragraph) → slice_get program.paragraphs number ≡ Some paragraph → sentences_before (last_of program number) paragraph.sentences [] ≡ source.rest_of (control_of program) number
rest_there program number paragraph here =
    sentences_items (last_of program number) paragraph.sentences
    ∙ sym (rest-at program number ∙ ap (λ p. items_of (sentences-of (last_of program number) p)) here)

pub rest_found : (program : Program) (number : ℕ) (paragraphs : List Paragraph) (other : Paragraph) → paragraphs ≡ program.paragraphs → number < length paragraphs → sentences_before (last_of program number) (get_or paragraphs number other).sentences [] ≡ source.rest_of (control_of program) number
rest_found program number paragraphs other same within =
    rest_there program number (get_or paragraphs number other) (ap (λ list. slice_get list number) (sym same) ∙ slice_get-get_or paragraphs number other within)

pub rest_past : (program : Program) (number : ℕ) → length program.paragraphs ≤ number → [] ≡ source.rest_of (control_of program) number
rest_past program number past =
    sym (rest-at program number ∙ ap (λ p. items_of (sentences-of (last_of program number) p)) (slice_get_past program.paragraphs number past))

seen-length : (from : ℕ) (paragraphs : List Paragraph) → length (seen_paragraphs from paragraphs) ≡ length paragraphs
seen-length from [] = refl
seen-length from (paragraph ∷ others) = ap suc (seen-length (suc from) others)

-- ---- going on

-- the machine went to a paragraph
pub gone : (old new : Machine) (number : ℕ) (rest : List Item) (world : World) (trace : Trace) →
    new.plan ≡ old.plan → new.held ≡ old.held → new.paragraph ≡ number → KeepsPending old.frames new.frames →
    rest_of (last_of old.plan.program.now number) new.frames ≡ source.rest_of (control_of old.plan.program.now) number →
    source.goes_to (doing_in (declared_by old.plan)) files_left (control_of old.plan.program.now) number (state_with old rest (memory_in old.held.store world) trace) ≡ state_in new world trace
gone old new number rest world trace plan held paragraph pending there =
    rw (plan, held, paragraph, pending old.plan.program.now, there) refl

pub falls_on : (old new : Machine) (rest : List Item) (world : World) (trace : Trace) →
    old.paragraph + 1 < length old.plan.program.now.paragraphs →
    new.plan ≡ old.plan → new.held ≡ old.held → new.paragraph ≡ old.paragraph + 1 → KeepsPending old.frames new.frames →
    rest_of (last_of old.plan.program.now (old.paragraph + 1)) new.frames ≡ source.rest_of (control_of old.plan.program.now) (old.paragraph + 1) →
    falls_by old.plan old.paragraph (state_with old rest (memory_in old.held.store world) trace) ≡ state_in new world trace
falls_on old new rest world trace within plan held paragraph pending there =
    let one : suc old.paragraph ≡ old.paragraph + 1 = omega arith in
    let same : length (control_of old.plan.program.now).paragraphs ≡ length old.plan.program.now.paragraphs = seen-length 0 old.plan.program.now.paragraphs in
    let inside : suc old.paragraph < length (control_of old.plan.program.now).paragraphs = omega (arith, within, same) in
    ap (λ next. source.falls (doing_in (declared_by old.plan)) files_left (control_of old.plan.program.now) next (state_with old rest (memory_in old.held.store world) trace)) (slice_get-get_or (control_of old.plan.program.now).paragraphs (suc old.paragraph) [] inside)
    ∙ ap (λ n. source.goes_to (doing_in (declared_by old.plan)) files_left (control_of old.plan.program.now) n (state_with old rest (memory_in old.held.store world) trace)) one
    ∙ gone old new (old.paragraph + 1) rest world trace plan held paragraph pending there

-- there is no next paragraph
pub falls_past : (plan : Plan) (paragraph : ℕ) (state : State) → length plan.program.now.paragraphs ≤ paragraph + 1 →
    falls_by plan paragraph state ≡ source.falls (doing_in (declared_by plan)) files_left (control_of plan.program.now) None state
falls_past plan paragraph state past =
    let same : length (control_of plan.program.now).paragraphs ≡ length plan.program.now.paragraphs = seen-length 0 plan.program.now.paragraphs in
    let behind : length (control_of plan.program.now).paragraphs ≤ suc paragraph = omega (arith, past, same) in
    ap (λ next. source.falls (doing_in (declared_by plan)) files_left (control_of plan.program.now) next state) (slice_get_past (control_of plan.program.now).paragraphs (suc paragraph) behind)

-- ---- the end of a paragraph

-- no return is pending
pub ends_falling : (old : Machine) (frames : List Frame) (new : Machine) (result : Result StepOutcome NoMemory) →
    pending_of old.plan.program.now old.frames ≡ [] → pending_of old.plan.program.now frames ≡ [] →
    IfOk result (λ step. (world : World) (trace : Trace) (rest : List Item) → Follows step new world trace (falls_by old.plan old.paragraph (state_with (record old { frames = frames }) rest (memory_in old.held.store world) trace))) →
    IfOk result (λ step. (world : World) (trace : Trace) (rest : List Item) → Follows step new world trace (ends_by old.plan (pending_of old.plan.program.now old.frames) (state_with old rest (memory_in old.held.store world) trace)))
ends_falling old frames new result none empty h =
    rw none (subst (λ (list : List Pending). IfOk result (λ step. (world : World) (trace : Trace) (rest : List Item) → Follows step new world trace (falls_by old.plan old.paragraph (record (state_with old rest (memory_in old.held.store world) trace) { pending = list })))) empty h)

-- a return is pending that isn't made here
pub ends_passing : (old : Machine) (frames : List Frame) (new : Machine) (result : Result StepOutcome NoMemory) (top : Pending) (others : List Pending) →
    pending_of old.plan.program.now old.frames ≡ top ∷ others → pending_of old.plan.program.now frames ≡ top ∷ others →
    (top.end == old.paragraph) ≡ false → ends_at old.paragraph others ≡ false →
    IfOk result (λ step. (world : World) (trace : Trace) (rest : List Item) → Follows step new world trace (falls_by old.plan old.paragraph (state_with (record old { frames = frames }) rest (memory_in old.held.store world) trace))) →
    IfOk result (λ step. (world : World) (trace : Trace) (rest : List Item) → Follows step new world trace (ends_by old.plan (pending_of old.plan.program.now old.frames) (state_with old rest (memory_in old.held.store world) trace)))
ends_passing old frames new result top others before after here deeper h =
    rw (before, here, deeper) (subst (λ (list : List Pending). IfOk result (λ step. (world : World) (trace : Trace) (rest : List Item) → Follows step new world trace (falls_by old.plan old.paragraph (record (state_with old rest (memory_in old.held.store world) trace) { pending = list })))) after h)

-- ---- what is next

abbrev mid : Machine → List Frame → Held → Machine
mid old frames held = record old { frames = frames; held = held }

abbrev last-in : Machine → ℕ
last-in machine = last_of machine.plan.program.now machine.paragraph

-- what the step comes to whose head is this
abbrev Heads : Machine → Machine → Result StepOutcome NoMemory → Head → Type 0
Heads old new result next =
    IfOk result (λ step. (world : World) (trace : Trace) (rest : List Item) → StandsAlone (last-in old) next →
    Follows step new world trace (rests_by old.plan (heads (last-in old) next (rest_in old)) (state_with old rest (memory_in old.held.store world) trace)))

-- so it is by the items
pub headed : (old new : Machine) (result : Result StepOutcome NoMemory) (next : Head) (items : List Item) → heads (last-in old) next (rest_in old) ≡ items →
    IfOk result (λ step. (world : World) (trace : Trace) (rest : List Item) → Follows step new world trace (rests_by old.plan items (state_with old rest (memory_in old.held.store world) trace))) →
    Heads old new result next
headed old new (Err e) next items is h = tt
headed old new (Ok step) next items is h = λ world trace rest alone.
    subst (λ list. Follows step new world trace (rests_by old.plan list (state_with old rest (memory_in old.held.store world) trace))) (sym is) (h world trace rest)

-- a statement that did this goes on so
step-goes : (act : ActOutcome) (machine : Machine) (rest : List Item) (memory : Memory) (world : World) (trace : Trace) →
    Follows (step_of act) machine world trace (goes_by machine.plan (way_seen act machine.held.shown (memory_in machine.held.store world) (rest_in machine)) (state_with machine rest memory trace))
step-goes done.Went machine rest memory world trace = ap (λ t. state_in machine world t) (append-nil trace)
step-goes done.Shown machine rest memory world trace = refl
step-goes (done.Chose arm) machine rest memory world trace = ap (λ t. state_in machine world t) (append-nil trace)
step-goes (done.Abended abend) machine rest memory world trace =
    (ap (λ t. record { trace = t; standing = Over (ending_seen (ending.Abended abend) world.shelves) }) (append-nil trace), refl)

-- a jump to a paragraph
pub jumped : (old new : Machine) (number : ℕ) (rest : List Item) (world : World) (trace : Trace) →
    new.plan ≡ old.plan → new.held ≡ old.held → new.paragraph ≡ number → KeepsPending old.frames new.frames →
    rest_of (last_of old.plan.program.now number) new.frames ≡ source.rest_of (control_of old.plan.program.now) number →
    Follows step.On new world trace (goes_by old.plan (way.To [] (memory_in old.held.store world) number) (state_with old rest (memory_in old.held.store world) trace))
jumped old new number rest world trace plan held paragraph pending there =
    gone old new number rest world (trace ++ []) plan held paragraph pending there
    ∙ ap (λ t. state_in new world t) (append-nil trace)

-- a statement that jumps, as control sees it
pub jumps_so : (old new : Machine) (result : Result StepOutcome NoMemory) (stmt : Stmt) (there : language.Stmt) → seen (last-in old) stmt ≡ there →
    IfOk result (λ step. (world : World) (trace : Trace) (rest : List Item) → Follows step new world trace (goes_by old.plan (way.stmt_way (doing_in (declared_by old.plan)) there (rest_in old) (memory_in old.held.store world)) (state_with old rest (memory_in old.held.store world) trace))) →
    IfOk result (λ step. (world : World) (trace : Trace) (rest : List Item) → Follows step new world trace (goes_by old.plan (stmt_meant old stmt world) (state_with old rest (memory_in old.held.store world) trace)))
jumps_so old new (Err e) stmt there is h = tt
jumps_so old new (Ok step) stmt there is h = λ world trace rest.
    subst (λ (s : language.Stmt). Follows step new world trace (goes_by old.plan (way.stmt_way (doing_in (declared_by old.plan)) s (rest_in old) (memory_in old.held.store world)) (state_with old rest (memory_in old.held.store world) trace))) (sym is) (h world trace rest)

-- GO TO DEPENDING, by the name that was chosen
module _ (old new : Machine) (step : StepOutcome) (to : List ℕ) (rest : List Item) (world : World) (trace : Trace) where
  abbrev GoesTo : Tried Memory ℕ → Type 0
  GoesTo t = Follows step new world trace (goes_by old.plan (tried t (λ k. to_one (doing_in (declared_by old.plan)) (slice_get to k) (rest_in old))) (state_with old rest (memory_in old.held.store world) trace))

  jumped-to-one : (t : Tried Memory ℕ) (name : ℕ) (chosen : Option ℕ) → Got [] name (memory_in old.held.store world) ≡ t → chosen ≡ slice_get to name →
      Follows step new world trace (goes_by old.plan (to_one (doing_in (declared_by old.plan)) chosen (rest_in old) (memory_in old.held.store world)) (state_with old rest (memory_in old.held.store world) trace)) → GoesTo t
  jumped-to-one t name None is at h = subst GoesTo is (subst (λ (o : Option ℕ). Follows step new world trace (goes_by old.plan (way_after [] (to_one (doing_in (declared_by old.plan)) o (rest_in old) (memory_in old.held.store world))) (state_with old rest (memory_in old.held.store world) trace))) at h)
  jumped-to-one t name (Some paragraph) is at h = subst GoesTo is (subst (λ (o : Option ℕ). Follows step new world trace (goes_by old.plan (way_after [] (to_one (doing_in (declared_by old.plan)) o (rest_in old) (memory_in old.held.store world))) (state_with old rest (memory_in old.held.store world) trace))) at h)

pub jumped_to_named : (old new : Machine) (result : Result StepOutcome NoMemory) (to : List ℕ) (chooses : World → Tried Memory ℕ) (name paragraph : ℕ) →
    ((world : World) → Got [] name (memory_in old.held.store world) ≡ chooses world) → Some paragraph ≡ slice_get to name →
    IfOk result (λ step. (world : World) (trace : Trace) (rest : List Item) → Follows step new world trace (goes_by old.plan (way.To [] (memory_in old.held.store world) paragraph) (state_with old rest (memory_in old.held.store world) trace))) →
    IfOk result (λ step. (world : World) (trace : Trace) (rest : List Item) → GoesTo old new step to rest world trace (chooses world))
jumped_to_named old new (Err e) to chooses name paragraph is at h = tt
jumped_to_named old new (Ok step) to chooses name paragraph is at h = λ world trace rest.
    jumped-to-one old new step to rest world trace (chooses world) name (Some paragraph) (is world) at (h world trace rest)

pub jumped_to_none : (old : Machine) (to : List ℕ) (chooses : World → Tried Memory ℕ) (name : ℕ) →
    ((world : World) → Got [] name (memory_in old.held.store world) ≡ chooses world) → None ≡ slice_get to name →
    (world : World) (trace : Trace) (rest : List Item) → GoesTo old old step.On to rest world trace (chooses world)
jumped_to_none old to chooses name is at = λ world trace rest.
    jumped-to-one old old step.On to rest world trace (chooses world) name None (is world) at
    (step-goes done.Went old rest (memory_in old.held.store world) world trace)

-- an item goes its way
pub head_goes : (old : Machine) (frames : List Frame) (held : Held) (next : Head) (item : Item) (act : ActOutcome) (step : StepOutcome) →
    heads (last-in old) next (rest_in old) ≡ item ∷ rest_in old → pending_of old.plan.program.now frames ≡ pending_of old.plan.program.now old.frames →
    ((world : World) → StandsAlone (last-in old) next →
    way_seen act held.shown (memory_in held.store world) (rest_of (last-in old) frames) ≡ item_way (doing_in (declared_by old.plan)) item (rest_in old) (memory_in old.held.store world)) →
    step ≡ step_of act → Heads old (mid old frames held) (Ok step) next
head_goes old frames held next item act step is same meant done = λ world trace rest alone.
    let memory : Memory = memory_in old.held.store world in
    let new : Machine = mid old frames held in
    subst (λ list. Follows step new world trace (rests_by old.plan list (state_with old rest memory trace))) (sym is)
    (subst (λ pending. Follows step new world trace (goes_by old.plan (item_way (doing_in (declared_by old.plan)) item (rest_in old) memory) (record (state_with old rest memory trace) { pending = pending }))) same
    (subst (λ way. Follows step new world trace (goes_by old.plan way (state_with new rest memory trace))) (meant world alone)
    (subst (λ (s : StepOutcome). Follows s new world trace (goes_by old.plan (way_seen act held.shown (memory_in held.store world) (rest_of (last-in old) frames)) (state_with new rest memory trace))) (sym done)
    (step-goes act new rest memory world trace))))

-- ---- a step

-- what is said of the state after what was next is said of the next state
pub step_headed : (old : Machine) (frames : List Frame) (shown : List ℕ) (next : Head) (Said : State → Type 0) →
    rest_in old ≡ heads (last-in old) next (rest_of (last-in old) frames) → pending_of old.plan.program.now frames ≡ pending_of old.plan.program.now old.frames →
    (world : World) (trace : Trace) →
    Said (rests_by old.plan (heads (last-in old) next (rest_of (last-in old) frames)) (state_with (mid old frames (record old.held { shown = shown })) (rest_in old) (memory_in old.held.store world) trace)) →
    Said (steps_by old.plan (state_in old world trace))
step_headed old frames shown next Said there same world trace said =
    subst (λ list. Said (rests_by old.plan list (state_in old world trace))) (sym there)
    (subst (λ pending. Said (rests_by old.plan (heads (last-in old) next (rest_of (last-in old) frames)) (record (state_in old world trace) { pending = pending }))) same said)

module _ (old : Machine) (frames : List Frame) (shown : List ℕ) (new : Machine) (next : Head)
    (there : rest_in old ≡ heads (last-in old) next (rest_of (last-in old) frames)) (same : pending_of old.plan.program.now frames ≡ pending_of old.plan.program.now old.frames) where
  abbrev here : Machine
  here = mid old frames (record old.held { shown = shown })

  -- without devices
  pub plain_step : (result : Result StepOutcome NoMemory) → NoFiling next → Heads here new result next →
      IfOk result (λ step. (world : World) (trace : Trace) → PlainState (state_in old world trace) → Follows step new world trace (steps_by old.plan (state_in old world trace)))
  plain_step (Err e) free h = tt
  plain_step (Ok step) free h = λ world trace plain.
      step_headed old frames shown next (λ state. Follows step new world trace state) there same world trace
      (h world trace (rest_in old) (plain_alone (last-in old) next (rest_of (last-in old) frames) free (subst (standing.ItemsHave PlainAct OwnTest PlainPicker) there plain.0)))

  -- over devices, which it leaves alone
  pub own_step : (devices : List Seen) (result : Result StepOutcome NoMemory) → NoFiling next → Heads here new result next → new.plan ≡ old.plan → new.table ≡ old.table →
      IfOk result (λ step. (world : World) (trace : Trace) → OwnState (state_in old world trace) → StandsOver old devices world → FollowsOver step new devices world trace (steps_by old.plan (state_in old world trace)))
  own_step devices (Err e) free h plan table = tt
  own_step devices (Ok step) free h plan table = λ world trace own stands.
      step_headed old frames shown next (λ state. FollowsOver step new devices world trace state) there same world trace
      (follows_over step new devices world trace _
      (h world trace (rest_in old) (own_alone (last-in old) next (rest_of (last-in old) frames) free (subst (standing.ItemsHave OwnAct OwnTest OwnPicker) there own.0)))
      (rw (plan, table) stands))

  -- a statement on files
  pub files_step : (stmt : Stmt) (devices left : List Seen) (result : Result StepOutcome NoMemory) → ((rest : List Item) → heads (last-in old) next rest ≡ items.Do (seen (last-in old) stmt) ∷ rest) → is_inner stmt ≡ false →
      IfOk result (λ step. (world : World) (trace : Trace) (rest : List Item) → is_inner stmt ≡ false → StandsOver here devices world →
      FollowsOver step new left world trace (goes_by here.plan (stmt_meant here stmt world) (state_with here rest (memory_in here.held.store world) trace))) →
      IfOk result (λ step. (world : World) (trace : Trace) → OwnState (state_in old world trace) → StandsOver old devices world → FollowsOver step new left world trace (steps_by old.plan (state_in old world trace)))
  files_step stmt devices left (Err e) is outer h = tt
  files_step stmt devices left (Ok step) is outer h = λ world trace own stands.
      step_headed old frames shown next (λ state. FollowsOver step new left world trace state) there same world trace
      (subst (λ list. FollowsOver step new left world trace (rests_by old.plan list (state_with here (rest_in old) (memory_in old.held.store world) trace))) (sym (is (rest_in here)))
      (h world trace (rest_in old) outer stands))

  -- what it breaks off behind are operations of the step
  pub files_breaks : (stmt : Stmt) (rest : List Item) (left : ℕ) (devices : List Seen) (result : Result StepOutcome NoMemory) → rest_in old ≡ items.Do (seen (last-in old) stmt) ∷ rest → (world : World) (trace : Trace) →
      StepBreaks result new world (stmt_operations (declared_by old.plan) (seen (last-in old) stmt) (memory_in old.held.store world)) left devices → StepBreaks result new world (operations_in (declared_by old.plan) (state_in old world trace)) left devices
  files_breaks stmt rest left devices result is world trace breaks =
      subst (λ (operations : List Operation). StepBreaks result new world operations left devices)
      (sym (ap (λ (list : List Item). next_operations (declared_by old.plan) Going list (memory_in old.held.store world)) is)) breaks

  -- ---- the events of a step

  pub own_shows : (devices : List Seen) (result : Result StepOutcome NoMemory) → NoFiling next → Heads here new result next → new.work.done.items ≡ [] →
      IfOk result (λ step. (world : World) (trace : Trace) → OwnState (state_in old world trace) → StandsOver old devices world → IsTrue old.work.keeps → Shows step new trace (steps_by old.plan (state_in old world trace)))
  own_shows devices (Err e) free h none = tt
  own_shows devices (Ok step) free h none = λ world trace own stands keeps.
      step_headed old frames shown next (λ state. Shows step new trace state) there same world trace
      (follows_shows step new world trace _ none
      (h world trace (rest_in old) (own_alone (last-in old) next (rest_of (last-in old) frames) free (subst (standing.ItemsHave OwnAct OwnTest OwnPicker) there own.0))))

  pub files_shows : (stmt : Stmt) (devices : List Seen) (work : FileWork) (result : Result StepOutcome NoMemory) → ((rest : List Item) → heads (last-in old) next rest ≡ items.Do (seen (last-in old) stmt) ∷ rest) → is_inner stmt ≡ false → IsFiled stmt → work.keeps ≡ old.work.keeps → work.done.items ≡ [] →
      IfOk result (λ step. (world : World) (trace : Trace) (rest : List Item) → is_inner stmt ≡ false → IsFiled stmt → StandsOver here devices world → IsTrue work.keeps → work.done.items ≡ [] →
      Shows step new trace (goes_by here.plan (stmt_meant here stmt world) (state_with here rest (memory_in here.held.store world) trace))) →
      IfOk result (λ step. (world : World) (trace : Trace) → OwnState (state_in old world trace) → StandsOver old devices world → IsTrue old.work.keeps → Shows step new trace (steps_by old.plan (state_in old world trace)))
  files_shows stmt devices work (Err e) is outer filed keeping none h = tt
  files_shows stmt devices work (Ok step) is outer filed keeping none h = λ world trace own stands keeps.
      step_headed old frames shown next (λ state. Shows step new trace state) there same world trace
      (subst (λ list. Shows step new trace (rests_by old.plan list (state_with here (rest_in old) (memory_in old.held.store world) trace))) (sym (is (rest_in here)))
      (h world trace (rest_in old) outer filed stands (subst IsTrue (sym keeping) keeps) none))
