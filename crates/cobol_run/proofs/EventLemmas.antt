-- What a step shows, event by event.
use Rattle.std.proofs.Common.{◌≡◌, ◌∙◌, sym, subst, ap, refl, ℕ, true, List, [], ◌∷◌, ◌++◌, map, append-nil, Option}
use Rattle.cob_act.specs.declared.acting.ActOutcome.{ActOutcome}
use Rattle.cob_act.specs.declared.acting.ActOutcome.TheVariants as done
use Rattle.cob_act.specs.files.Work.{event_done, events_kept, events_made}
use Rattle.cob_tree.specs.declared.file.Opening.{Opening}
use Rattle.cob_tree.specs.declared.place.Operand.{Operand}
use Rattle.cob_tree.specs.declared.place.Place.{Place}
use Rattle.cob_tree.specs.declared.stmt.Arms.{Arms}
use Rattle.cob_tree.specs.declared.stmt.Stmt.{Stmt}
use Rattle.cob_tree.specs.declared.stmt.Stmt.TheVariants as stmts
use Rattle.file_model.specs.World.{World}
use Rattle.meanings.specs.statements.Does.{does}
use Rattle.meanings.specs.statements.Filing.{Effect, Operation}
use Rattle.meanings.specs.statements.Filing as filing
use Rattle.control_flow_theory.specs.semantics.Items.{item_way, tried}
use Rattle.control_flow_theory.specs.semantics.Outcome.{Trace}
use Rattle.control_flow_theory.specs.language.Control.{seen}
use Rattle.control_flow_theory.specs.language.Items.{Item, before_arm}
use Rattle.control_flow_theory.specs.language.Items as items
use Rattle.control_flow_theory.specs.language.Language as language
use Rattle.control_flow_theory.proofs.language_lemmas.Rows.{seen_closes, seen_opens, seen_read, seen_rewrite, seen_write}
use Rattle.cobol_theory.specs.cobol_meaning.Acting.{Memory, acted_by, chosen_by, event_seen, events_of, memory_after}
use Rattle.cobol_theory.specs.cobol_meaning.Runs.{State, doing_in}
use Rattle.cobol_run.specs.declared.held.Plan.{Plan}
use Rattle.cobol_run.specs.declared.machine.Machine.{Machine}
use Rattle.cobol_run.specs.declared.machine.StepOutcome.{StepOutcome}
use Rattle.cobol_run.specs.declared.machine.StepOutcome.TheVariants as step
use Rattle.cobol_run.specs.Events.{IsFiled, Shows, ShowsOperations, filed_events}
use Rattle.cobol_run.specs.Frames.{last_of}
use Rattle.cobol_run.specs.Machine.{Follows, goes_by, rest_in, state_with}
use Rattle.cobol_run.specs.Over.{step_done, stmt_meant}
use Rattle.cobol_run.specs.Plan.{declared_by, memory_in}
use Rattle.cobol_run.specs.Points.{stmt_operations}
use Rattle.cobol_run.specs.NextStep.{on}

-- ---- what a statement on files shows

own_shows : (stmt inner : Stmt) → ((last : ℕ) → seen last stmt ≡ language.Do (language.Own inner)) → IsFiled stmt
own_shows stmt inner there last = subst ShowsOperations (sym (there last)) tt

pub opens_shows : (stmt : Stmt) (openings : List Opening) → stmt ≡ stmts.Opens openings → IsFiled stmt
opens_shows stmt openings is = subst IsFiled (sym is) (own_shows (stmts.Opens openings) (stmts.Opens openings) (λ last. seen_opens last openings))

pub closes_shows : (stmt : Stmt) (files : List ℕ) → stmt ≡ stmts.Closes files → IsFiled stmt
closes_shows stmt files is = subst IsFiled (sym is) (own_shows (stmts.Closes files) (stmts.Closes files) (λ last. seen_closes last files))

pub write_shows : (stmt : Stmt) (entry : ℕ) (from : Option Operand) → stmt ≡ stmts.Write entry from → IsFiled stmt
write_shows stmt entry from is = subst IsFiled (sym is) (own_shows (stmts.Write entry from) (stmts.Write entry from) (λ last. seen_write last entry from))

pub rewrite_shows : (stmt : Stmt) (entry : ℕ) (from : Option Operand) → stmt ≡ stmts.Rewrite entry from → IsFiled stmt
rewrite_shows stmt entry from is = subst IsFiled (sym is) (own_shows (stmts.Rewrite entry from) (stmts.Rewrite entry from) (λ last. seen_rewrite last entry from))

pub read_shows : (stmt : Stmt) (file : ℕ) (into : Option Place) (arms : Arms) → stmt ≡ stmts.Read file into arms → IsFiled stmt
read_shows stmt file into arms is last = subst ShowsOperations (sym (ap (seen last) is ∙ seen_read last file into arms)) tt

-- lemmas that are named together
pub ruleset filing_shows = (opens_shows, closes_shows, read_shows, write_shows, rewrite_shows)

-- ---- what a way shows

acted-shows : (plan : Plan) (end : filing.Ended) (events : Trace) (memory : Memory) (rest : List Item) (state : State) → (goes_by plan (tried (acted_by end events memory) (λ u. on rest)) state).run.trace ≡ state.run.trace ++ events
acted-shows plan filing.Went events memory rest state = ap (λ l. state.run.trace ++ l) (append-nil events)
acted-shows plan (filing.Chose arm) events memory rest state = ap (λ l. state.run.trace ++ l) (append-nil events)
acted-shows plan (filing.Abended abend) events memory rest state = refl

chosen-shows : (plan : Plan) (end : filing.Ended) (events : Trace) (memory : Memory) (arms : language.Arms) (rest : List Item) (state : State) → (goes_by plan (tried (chosen_by end events memory) (λ k. on (before_arm arms k rest))) state).run.trace ≡ state.run.trace ++ events
chosen-shows plan filing.Went events memory arms rest state = ap (λ l. state.run.trace ++ l) (append-nil events)
chosen-shows plan (filing.Chose arm) events memory arms rest state = ap (λ l. state.run.trace ++ l) (append-nil events)
chosen-shows plan (filing.Abended abend) events memory arms rest state = refl

-- what it goes is what its operations show
abbrev GoesShowing : Plan → language.Stmt → List Item → Memory → State → Type 0
GoesShowing plan stmt rest memory state =
    (goes_by plan (item_way (doing_in (declared_by plan)) (items.Do stmt) rest memory) state).run.trace ≡ state.run.trace ++ events_of (stmt_operations (declared_by plan) stmt memory)

act-goes : (plan : Plan) (act : language.Act) → ShowsOperations (language.Do act) → (rest : List Item) (memory : Memory) (state : State) → GoesShowing plan (language.Do act) rest memory state
act-goes plan (language.Own stmt) is rest memory state =
    let effect : Effect = does (declared_by plan) stmt memory.store memory.world in
    acted-shows plan effect.end (events_of effect.operations) (memory_after memory effect) rest state
act-goes plan (language.Set cell value) is rest memory state = absurd is
act-goes plan (language.Take cell amount) is rest memory state = absurd is
act-goes plan (language.Lower cell) is rest memory state = absurd is

by-goes : (plan : Plan) (chooser : language.Chooser) (arms : language.Arms) → ShowsOperations (language.Choose (language.By chooser) arms) → (rest : List Item) (memory : Memory) (state : State) → GoesShowing plan (language.Choose (language.By chooser) arms) rest memory state
by-goes plan (language.Read file into has_end) arms is rest memory state =
    let effect : Effect = filing.read (declared_by plan) memory.store memory.world file into has_end true in
    chosen-shows plan effect.end (events_of effect.operations) (memory_after memory effect) arms rest state
by-goes plan (language.Evaluate subject tests has_other) arms is rest memory state = absurd is
by-goes plan (language.Arith calc into) arms is rest memory state = absurd is
by-goes plan (language.Depending place names) arms is rest memory state = absurd is

stmt-goes : (plan : Plan) (stmt : language.Stmt) → ShowsOperations stmt → (rest : List Item) (memory : Memory) (state : State) → GoesShowing plan stmt rest memory state
stmt-goes plan (language.Do act) is rest memory state = act-goes plan act is rest memory state
stmt-goes plan (language.Choose (language.By chooser) arms) is rest memory state = by-goes plan chooser arms is rest memory state
stmt-goes plan (language.Choose (language.If test) arms) is rest memory state = absurd is
stmt-goes plan (language.Choose (language.ByCell cell) arms) is rest memory state = absurd is
stmt-goes plan (language.Loop control body) is rest memory state = absurd is
stmt-goes plan (language.Perform entry exit) is rest memory state = absurd is
stmt-goes plan (language.Go to) is rest memory state = absurd is
stmt-goes plan (language.GoDepending to chooser) is rest memory state = absurd is
stmt-goes plan language.NextSentence is rest memory state = absurd is
stmt-goes plan language.ExitParagraph is rest memory state = absurd is
stmt-goes plan (language.ExitSection last) is rest memory state = absurd is
stmt-goes plan (language.ExitPerform cycle) is rest memory state = absurd is
stmt-goes plan language.StopRun is rest memory state = absurd is

-- ---- what is kept of it

events-seen : (operations : List Operation) → map event_seen (events_made operations) ≡ events_of operations
events-seen [] = refl
events-seen (operation ∷ operations) = ap (λ l. event_seen operation.event ∷ l) (events-seen operations)

module _ (old new : Machine) (stmt : Stmt) (world : World) (trace : Trace) (rest : List Item) (filed : IsFiled stmt) (kept : events_kept new.work ≡ events_made (stmt_operations (declared_by old.plan) (seen (last_of old.plan.program.now old.paragraph) stmt) (memory_in old.held.store world))) where
  abbrev state_then : State
  state_then = goes_by old.plan (stmt_meant old stmt world) (state_with old rest (memory_in old.held.store world) trace)

  shown-then : state_then.run.trace ≡ trace ++ filed_events new
  shown-then =
      stmt-goes old.plan (seen (last_of old.plan.program.now old.paragraph) stmt) (filed (last_of old.plan.program.now old.paragraph)) (rest_in old) (memory_in old.held.store world) (state_with old rest (memory_in old.held.store world) trace)
      ∙ ap (λ l. trace ++ l) (sym (ap (map event_seen) kept ∙ events-seen (stmt_operations (declared_by old.plan) (seen (last_of old.plan.program.now old.paragraph) stmt) (memory_in old.held.store world))))

  pub file_shows : (made : ActOutcome) (result : StepOutcome) → result ≡ step_done made → Shows result new trace (goes_by old.plan (stmt_meant old stmt world) (state_with old rest (memory_in old.held.store world) trace))
  file_shows made result is = subst (λ (s : StepOutcome). Shows s new trace state_then) (sym is) (go made)
    where
      go : (made : ActOutcome) → Shows (step_done made) new trace state_then
      go done.Went = shown-then
      go done.Shown = shown-then
      go (done.Chose arm) = shown-then
      go (done.Abended abend) = shown-then

-- ---- a step that does nothing with files

no-more : (machine : Machine) (trace : Trace) → machine.work.done.items ≡ [] → trace ≡ trace ++ filed_events machine
no-more machine trace none =
    sym (ap (λ ops. trace ++ map event_seen (map (event_done machine.work.bytes.items) ops)) none ∙ append-nil trace)

pub follows_shows : (made : StepOutcome) (machine : Machine) (world : World) (trace : Trace) (state : State) → machine.work.done.items ≡ [] → Follows made machine world trace state → Shows made machine trace state
follows_shows step.On machine world trace state none follows = ap (λ (s : State). s.run.trace) follows ∙ no-more machine trace none
follows_shows step.Shown machine world trace state none follows = ap (λ (s : State). s.run.trace) follows
follows_shows (step.Over ending) machine world trace state none follows = ap (λ r. r.trace) follows.0 ∙ no-more machine trace none
follows_shows step.Failed machine world trace state none follows = tt
