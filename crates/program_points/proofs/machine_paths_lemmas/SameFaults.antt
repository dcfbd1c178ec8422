-- What is faulty in the theory is faulty here.
use Rattle.std.proofs.Common.{◌≡◌, ℕ, zero, suc, Bool, true, false, if◌then◌else◌, nat_eq, List, [], ◌∷◌, ◌++◌, Option, Some, None, refl, ap, sym, ◌∙◌, subst, eqb-true}
use Rattle.std.specs.Prelude.{slice_get, length, map}
use Rattle.control_flow_theory.specs.runs.Run.{Going, Over}
use Rattle.control_flow_theory.specs.runs.Machine.{iterate}
use Rattle.control_flow_theory.specs.semantics.Outcome.{Trace, How, Normally, Stopped, Faulted}
use Rattle.control_flow_theory.specs.semantics.Outcome as outcome
use Rattle.control_flow_theory.specs.language.Language.{Chooser, Paragraph, Program}
use Rattle.control_flow_theory.specs.language.Items.{Item, ends_at}
use Rattle.control_flow_theory.specs.language.Items as language
use Rattle.control_flow_theory.specs.semantics.Items.{Way, On, Halts, Into, To, ToEnd, item_way}
use Rattle.control_flow_theory.specs.semantics.Source.{rest_of, comes_to, goes, falls, source_step}
use Rattle.control_flow_theory.specs.lowering.FlowFacts.{FlowFacts, IsSource}
use Rattle.control_flow_theory.specs.lowering.flow.Paths.{Flow, free, nothing_left}
use Rattle.control_flow_theory.specs.lowering.flow.Paths as theory
use Rattle.control_flow_theory.proofs.lowering_lemmas.flow.Faults.{over-stays}
use Rattle.control_flow_theory.proofs.lowering_lemmas.rests.Joints.{source_at}
use Rattle.control_flow_theory.proofs.lowering_lemmas.rests.Wholes.{OwnItem}
use Rattle.cob_tree.specs.declared.ending.FlowFault.TheVariants.{Overlap, Reentry}
use Rattle.program_points.specs.paths.Step.{Point, at, start, is_present, Ends, next}
use Rattle.program_points.specs.paths.Flow.{main_range, is_exit, Pending, returning, top_exit, FreeStep, FlowPath, begins_flow, steps_flow, is_among, fault_of, ends_of, IsFaulty}
use Rattle.program_points.specs.paths.Flow as flow
use Rattle.program_points.specs.paths.Levels.{Comes, Levels, bottom, called}
use Rattle.program_points.proofs.paths_lemmas.Runs.{stands}
use Rattle.program_points.proofs.paths_lemmas.Faults.{frees}
use Rattle.program_points.specs.machine_paths.Uncounted.{uncounted, point_at, range_of}
use Rattle.program_points.specs.machine_paths.Laws.{SomeArmIsGiven}
use Rattle.program_points.proofs.machine_paths_lemmas.Uncounting.{u-again}
use Rattle.program_points.proofs.machine_paths_lemmas.Telling.{Tells, tells}
use Rattle.program_points.proofs.machine_paths_lemmas.SameLevels.{whole-rest, own-first, comes-back}
use Rattle.cob_tree.specs.declared.program.Range as tree
use Rattle.control_flow_theory.specs.language.Language.{Range, Main, Part}

abbrev pub back_of : language.Pending → Pending
back_of one = returning one.end (point_at one.paragraph one.rest)

abbrev pub pending_here : List language.Pending → List Pending
pending_here pending = map back_of pending

pub among-same : (number : ℕ) (pending : List language.Pending) → is_among number (ends_of (pending_here pending)) ≡ ends_at number pending
among-same number [] = refl
among-same number (one ∷ others) = ap (λ b. if nat_eq one.end number then true else b) (among-same number others)

-- the level that runs is main's or a PERFORM's
pub level-range : (never_first : Chooser → Bool) (program : Program) (r : tree.Range) (pending : List Pending) → Levels never_first program main_range r pending → (range : Range) × (r ≡ range_of range)
level-range never_first program r pending (bottom) = (Main, refl)
level-range never_first program r pending (called under others from after entry exit l c e) = (Part entry exit, refl)

module _ (told : FlowFacts) (program : Program) (source : IsSource told program) (some : SomeArmIsGiven told) where
  abbrev stepped : Flow → Flow
  stepped f = source_step (free told) nothing_left program f

  abbrev Path : Point → List Pending → Type 0
  Path p pending = FlowPath told.never_first program p pending

  abbrev Step : Point → List Pending → Point → List Pending → Type 0
  Step p before q after = FreeStep told.never_first program main_range p before q after

  abbrev Faulty : Type 0
  Faulty = IsFaulty told.never_first program

  -- where a flow path comes are parts of the program
  pub own-path : (p : Point) (pending : List Pending) (x : Item) (xs : List Item) → Path p pending → uncounted (x ∷ xs) ≡ uncounted p.rest → OwnItem told (length program.paragraphs) x
  own-path p pending x xs path e =
      let s = stands told.never_first program main_range p pending (frees told.never_first program p pending path) in
      let l = level-range told.never_first program s.0 pending s.1 in
      own-first told program source some l.0 p.paragraph x xs (comes-back told program source some l.0 p (subst (λ r. Comes told.never_first program r p) l.1 s.2) (x ∷ xs) e)

  pub pop-path : (q : ℕ) (top : language.Pending) (others : List language.Pending) → nat_eq top.end q ≡ true → Path (at q []) (pending_here (top ∷ others)) → Path (point_at top.paragraph top.rest) (pending_here others)
  pop-path q top others is path =
      let back = point_at top.paragraph top.rest in
      let rest = pending_here others in
      steps_flow (at q []) back (pending_here (top ∷ others)) rest path
      (ap (λ b. if b then None else (if is_among q (ends_of rest) then Some (Overlap q) else None)) is)
      (subst (λ n. Step (at q []) (returning n back ∷ rest) back rest) (sym (eqb-true top.end q is)) (flow.returns (at q []) back rest q refl))

  pub fall-path : (q : ℕ) (pending : List Pending) (next : Paragraph) → slice_get program.paragraphs (suc q) ≡ Some next → fault_of (Ends q) (ends_of pending) ≡ None → is_exit (top_exit main_range pending) q ≡ false →
      Path (at q []) pending → Path (point_at (suc q) (rest_of program (suc q))) pending
  fall-path q pending next is fine out path =
      subst (λ p. Path p pending) (sym (whole-rest told program source some (suc q)))
      (steps_flow (at q []) (start program (suc q)) pending pending path fine (flow.falls (at q []) pending q refl out (ap is_present is)))

  abbrev Faults : ℕ → Flow → outcome.FlowFault → Type 0
  Faults n s fault = (iterate stepped n s).run.standing ≡ Over (Faulted fault)

  abbrev Shows : ℕ → Type 0
  Shows n = (q : ℕ) (rest : List Item) (pending : List language.Pending) (ways : List ℕ) (tr : Trace) (fault : outcome.FlowFault) → Path (point_at q rest) (pending_here pending) → Faults n (source_at q rest pending ways tr) fault → Faulty

  not-stopped : (n : ℕ) (s : Flow) (how : How) (fault : outcome.FlowFault) → s.run.standing ≡ Over (Stopped how tt) → Faults n s fault → ⊥
  not-stopped n s how fault e h = let k : Over (Stopped how tt) ≡ Over (Faulted fault) = sym (over-stays (free told) nothing_left program (Stopped how tt) n s e) ∙ h in cc

  fall-shows : (n : ℕ) → Shows n → (q : ℕ) (pending : List language.Pending) (ways : List ℕ) (tr : Trace) (fault : outcome.FlowFault) (found : Option Paragraph) → slice_get program.paragraphs (suc q) ≡ found →
      fault_of (Ends q) (ends_of (pending_here pending)) ≡ None → is_exit (top_exit main_range (pending_here pending)) q ≡ false → Path (at q []) (pending_here pending) →
      Faults n (falls (free told) nothing_left program found (source_at q [] pending ways tr)) fault → Faulty
  fall-shows n ih q pending ways tr fault None is fine out path f = absurd (not-stopped n (falls (free told) nothing_left program None (source_at q [] pending ways tr)) Normally fault refl f)
  fall-shows n ih q pending ways tr fault (Some next) is fine out path f = ih (suc q) (rest_of program (suc q)) pending ways tr fault (fall-path q (pending_here pending) next is fine out path) f

  end-shows : (n : ℕ) → Shows n → (q : ℕ) (pending : List language.Pending) (ways : List ℕ) (tr : Trace) (fault : outcome.FlowFault) → Path (at q []) (pending_here pending) → Faults (suc n) (source_at q [] pending ways tr) fault → Faulty
  end-shows n ih q [] ways tr fault path f = fall-shows n ih q [] ways tr fault (slice_get program.paragraphs (suc q)) refl refl refl path f
  end-shows n ih q (top ∷ others) ways tr fault path f =
      let begun : Flow = source_at q [] (top ∷ others) ways tr in
      let found = slice_get program.paragraphs (suc q) in
      let popped : Flow = source_at top.paragraph top.rest others ways tr in
      let faulted : Flow = comes_to (free told) nothing_left program (Faulted (outcome.Overlap q)) begun in
      let fallen : Flow = falls (free told) nothing_left program found begun in
      let ends = ends_of (pending_here others) in
      elim (nat_eq top.end q) as (λ b. nat_eq top.end q ≡ b → Faults n (if b then popped else (if ends_at q others then faulted else fallen)) fault → Faulty) [
        | true ↦ λ is f. ih top.paragraph top.rest others ways tr fault (pop-path q top others is path) f
        | false ↦ λ is. elim (ends_at q others) as (λ b. ends_at q others ≡ b → Faults n (if b then faulted else fallen) fault → Faulty) [
          | true ↦ λ within f. record {
            point = at q [];
            pending = pending_here (top ∷ others);
            fault = Overlap q;
            path = path;
            meets = ap (λ b. if b then None else (if is_among q ends then Some (Overlap q) else None)) is ∙ ap (λ b. if b then Some (Overlap q) else None) (among-same q others ∙ within);
          }
          | false ↦ λ within f. fall-shows n ih q (top ∷ others) ways tr fault found refl
              (ap (λ b. if b then None else (if is_among q ends then Some (Overlap q) else None)) is ∙ ap (λ b. if b then Some (Overlap q) else None) (among-same q others ∙ within)) is path f
        ] refl
      ] refl f

  goes-shows : (n : ℕ) → Shows n → (q : ℕ) (x : Item) (xs : List Item) (pending : List language.Pending) (ways : List ℕ) (tr : Trace) (fault : outcome.FlowFault) (way : Way (List ℕ)) →
      Tells told program q way (next told.never_first program (point_at q (x ∷ xs))) → Path (point_at q (x ∷ xs)) (pending_here pending) → Faults n (goes (free told) nothing_left program way (source_at q (x ∷ xs) pending ways tr)) fault → Faulty
  goes-shows n ih q x xs pending ways tr fault (On t m items) w path f =
      let from = point_at q (x ∷ xs) in
      let rest = pending_here pending in
      ih q items pending m (tr ++ t) fault
      (steps_flow from (point_at q items) rest rest path (ap (λ now. fault_of now (ends_of rest)) w.2) (flow.goes from (point_at q items) rest w.0 w.1 w.2 w.3)) f
  goes-shows n ih q x xs pending ways tr fault (Halts t how m) w path f =
      absurd (not-stopped n (goes (free told) nothing_left program (Halts t how m) (source_at q (x ∷ xs) pending ways tr)) how fault refl f)
  goes-shows n ih q x xs pending ways tr fault (Into entry exit items) w path f =
      let from = point_at q (x ∷ xs) in
      let rest = pending_here pending in
      let begun : Flow = source_at q (x ∷ xs) pending ways tr in
      let pushed : List language.Pending = record { end = exit; paragraph = q; rest = items } ∷ pending in
      let faulted : Flow = comes_to (free told) nothing_left program (Faulted (outcome.Reentry exit)) begun in
      elim (ends_at exit pending) as (λ b. ends_at exit pending ≡ b → Faults n (if b then faulted else source_at entry (rest_of program entry) pushed ways tr) fault → Faulty) [
        | true ↦ λ is f. record {
          point = from;
          pending = rest;
          fault = Reentry exit;
          path = path;
          meets = ap (λ now. fault_of now (ends_of rest)) w ∙ ap (λ b. if b then Some (Reentry exit) else None) (among-same exit pending ∙ is);
        }
        | false ↦ λ is f. ih entry (rest_of program entry) pushed ways tr fault
            (subst (λ p. Path p (pending_here pushed)) (sym (whole-rest told program source some entry))
            (steps_flow from (start program entry) rest (pending_here pushed) path
            (ap (λ now. fault_of now (ends_of rest)) w ∙ ap (λ b. if b then Some (Reentry exit) else None) (among-same exit pending ∙ is))
            (flow.calls from (point_at q items) rest entry exit w))) f
      ] refl f
  goes-shows n ih q x xs pending ways tr fault (To t m to) w path f =
      let from = point_at q (x ∷ xs) in
      let rest = pending_here pending in
      ih to (rest_of program to) pending m (tr ++ t) fault
      (subst (λ p. Path p rest) (sym (whole-rest told program source some to))
      (steps_flow from (start program to) rest rest path (ap (λ now. fault_of now (ends_of rest)) w.2) (flow.goes from (start program to) rest w.0 w.1 w.2 w.3))) f
  goes-shows n ih q x xs pending ways tr fault (ToEnd t m to) w path f =
      let from = point_at q (x ∷ xs) in
      let rest = pending_here pending in
      ih to [] pending m (tr ++ t) fault
      (steps_flow from (at to []) rest rest path (ap (λ now. fault_of now (ends_of rest)) w.2) (flow.goes from (at to []) rest w.0 w.1 w.2 w.3)) f

  shows : (n : ℕ) → Shows n
  shows zero q rest pending ways tr fault path f = let k : Going ≡ Over (Faulted fault) = f in absurd (let z : ⊥ = cc in z)
  shows (suc n) q [] pending ways tr fault path f = end-shows n (shows n) q pending ways tr fault path f
  shows (suc n) q (x ∷ xs) pending ways tr fault path f =
      goes-shows n (shows n) q x xs pending ways tr fault (item_way (free told) x xs ways)
      (tells told program q (length program.paragraphs) some x xs ways (own-path (point_at q (x ∷ xs)) (pending_here pending) x xs path (sym (u-again (x ∷ xs))))) path f

  pub faulty-here : theory.HasFaultyRun told program → Faulty
  faulty-here faulty = shows faulty.1 0 (rest_of program 0) [] faulty.0 [] faulty.2 (subst (λ p. Path p []) (sym (whole-rest told program source some 0)) begins_flow) faulty.3
