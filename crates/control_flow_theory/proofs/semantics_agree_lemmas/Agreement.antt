-- The source machine and the recursion keep pace on a structured program.
use Rattle.std.proofs.Common.{◌≡◌, ◌≢◌, ℕ, zero, suc, ◌+◌, ◌*◌, ◌<◌, ◌≤◌, Bool, true, false, if◌then◌else◌, ◌==◌, List, [], ◌∷◌, ◌++◌, length, slice_get, refl, ap, sym, ◌∙◌, subst, arith, append-nil, append_assoc, inl, inr}
use Rattle.std.proofs.lemmas.Bool.{ne_eqb}
use Rattle.std.proofs.lemmas.Bool.Decides.{eqb_tells}
use Rattle.control_flow_theory.specs.runs.Run.{Going, Over, Begins, Covers}
use Rattle.control_flow_theory.specs.runs.Tied.{Tied}
use Rattle.control_flow_theory.specs.runs.Machine.{iterate, meaning}
use Rattle.control_flow_theory.proofs.runs_lemmas.Ties.{covers-is, tied-sym, le_or}
use Rattle.control_flow_theory.proofs.runs_lemmas.Machines.{iterate-add, machine-steady}
use Rattle.control_flow_theory.specs.semantics.Outcome.{Trace, Normally, Abend, Overlap, Reentry, Ending, Stopped, Faulted, Run, Standing, Tried, Got, Ends}
use Rattle.control_flow_theory.specs.language.Language.{Act, Test, Control, Times, Until, Varying, Stmt, Choose, Loop, Perform, Go, GoDepending, NextSentence, ExitParagraph, ExitSection, ExitPerform, StopRun, Stmts, none, also, Arms, done, given, missing, Body, Nested, Performed, Paragraph, Program, unless_absent, paragraph_at}
use Rattle.control_flow_theory.specs.language.Language as language
use Rattle.control_flow_theory.specs.semantics.Doing.{Doing}
use Rattle.control_flow_theory.specs.language.Items.{Turning, Counted, Tests, Steps, StepsAfter, Item, Do, SentenceEnd, Turn, before, before_body, before_arm, items_of}
use Rattle.control_flow_theory.specs.semantics.Items.{Way, On, Halts, Into, To, ToEnd, way_after, tried, on, turns as loop_turns, first_turn as loop_first, varying as loop_varying, loop_begins, tests, steps_on}
use Rattle.control_flow_theory.specs.language.Items.{Pending, ends_at}
use Rattle.control_flow_theory.specs.semantics.Source.{SourceState, rest_of, comes_to, goes, falls, source_step, source_machine, source_begun}
use Rattle.control_flow_theory.specs.semantics.Structural.{Outcome, Went, Stands, nothing, behind, then_do, one_then, unit_of, stops, gets, acts, goes_round, turns, all_turns, first_turn, varying, loop_does, Performing, stmt_does, stmts_do, arm_does, body_does, paragraph_does, performing, program_does, run_of, structural}
use Rattle.control_flow_theory.specs.language.Structured.{StmtNests, StmtsNest, ArmsNest, BodyNests, NamesLater, ParagraphNests, ParagraphsNest, EndsInStop, FirstStops, IsStructuredControl}
use Rattle.control_flow_theory.proofs.semantics_lemmas.Growth.{source-grows}
use Rattle.control_flow_theory.proofs.semantics_agree_lemmas.Pacing.{Enclosed, enclosed-tied}

pub same_number : (n : ℕ) → (n == n) ≡ true
same_number n = elim (eqb_tells n n) [ inl h ↦ h.0 | inr h ↦ absurd (h.1 refl) ]

module _ {Memory Left : Type 0} (doing : Doing Memory) (left : Memory → Left) (program : Program) where
  abbrev State : Type 0
  State = SourceState Memory Left

  abbrev Out : Type 0
  Out = Outcome Memory Left

  abbrev D : Type 0
  D = Memory → ℕ → Out

  abbrev at : ℕ → List Item → List Pending → Memory → Trace → State
  at paragraph rest pending memory trace = record { paragraph = paragraph; rest = rest; pending = pending; memory = memory; run = record { trace = trace; standing = Going } }

  abbrev go_on : ℕ → State → State
  go_on = iterate (source_step doing left program)

  -- where a run goes on
  abbrev Target : Type 0
  Target = Memory → Trace → State

  abbrev run_as : Trace → Standing Left → Run Left
  run_as trace standing = record { trace = trace; standing = standing }

  -- what stands is between two runs of the source
  abbrev Between : State → Run Left → (few many : ℕ) → Type 0
  Between start run few many = Covers (go_on few start).run run × Covers run (go_on many start).run

  -- some steps lead from the start to where the outcome says; a unit is a half step at least, and four steps at most
  abbrev Meets : State → Target → Trace → (units over slack : ℕ) → Out → Type 0
  Meets start target trace units over slack (Went shown memory rest) =
      (k : ℕ) × (go_on k start ≡ target memory (trace ++ shown)) × (units ≤ rest + (2 * k + over)) × (k + 4 * rest ≤ 4 * units + slack)
  Meets start target trace units over slack (Stands shown standing) =
      (few : ℕ) × (many : ℕ) × Between start (run_as (trace ++ shown) standing) few many × (standing ≡ Going → units ≤ 2 * few + over) × (many ≤ 4 * units + slack)

  -- what is reached is between itself
  exactly : (start : State) (run : Run Left) (k : ℕ) → (go_on k start).run ≡ run → Between start run k k
  exactly start run k e = (covers-is (go_on k start).run run e, covers-is run (go_on k start).run (sym e))

  between-step : (start next : State) (run : Run Left) (few many : ℕ) → source_step doing left program start ≡ next → Between next run few many → Between start run (suc few) (suc many)
  between-step start next run few many e h =
      (subst (λ s. Covers (go_on few s).run run) (sym e) h.0, subst (λ s. Covers run (go_on many s).run) (sym e) h.1)

  between-after : (start mid : State) (run : Run Left) (k few many : ℕ) → go_on k start ≡ mid → Between mid run few many → Between start run (k + few) (k + many)
  between-after start mid run k few many e h =
      let back = λ (n : ℕ). iterate-add (source_step doing left program) k n start ∙ ap (go_on n) e in
      (subst (λ s. Covers s.run run) (sym (back few)) h.0, subst (λ s. Covers run s.run) (sym (back many)) h.1)

  -- a run that waits for a unit
  waits : (start : State) (target : Target) (trace : Trace) (over slack : ℕ) → start.run ≡ run_as trace Going → Meets start target trace 0 over slack (Stands [] Going)
  waits start target trace over slack is = (0, 0, exactly start (run_as (trace ++ []) Going) 0 (is ∙ ap (λ t. run_as t Going) (sym (append-nil trace))), (λ e. omega arith), omega arith)

  -- a run that is over
  over-at : (start : State) (target : Target) (trace shown : Trace) (units over slack : ℕ) (ending : Ending Left) → start.run ≡ run_as (trace ++ shown) (Over ending) → Meets start target trace units over slack (Stands shown (Over ending))
  over-at start target trace shown units over slack ending is = (0, 0, exactly start (run_as (trace ++ shown) (Over ending)) 0 is, (λ e. absurd (cc)), omega arith)

  -- a step for a unit
  meets-unit : (start next : State) (target : Target) (trace : Trace) (n : ℕ) (o : Out) → source_step doing left program start ≡ next → Meets next target trace n 1 3 o → Meets start target trace (suc n) 0 0 o
  meets-unit start next target trace n (Went shown memory rest) e h = (suc h.0, ap (go_on h.0) e ∙ h.1, omega (arith, h.2), omega (arith, h.3))
  meets-unit start next target trace n (Stands shown standing) e h = (suc h.0, suc h.1, between-step start next (run_as (trace ++ shown) standing) h.0 h.1 e h.2, (λ is. omega (arith, h.3 is)), omega (arith, h.4))

  -- a step without a unit
  meets-step : (start next : State) (target : Target) (trace : Trace) (units over slack : ℕ) (o : Out) → source_step doing left program start ≡ next → Meets next target trace units (over + 2) slack o → Meets start target trace units over (slack + 1) o
  meets-step start next target trace units over slack (Went shown memory rest) e h = (suc h.0, ap (go_on h.0) e ∙ h.1, omega (arith, h.2), omega (arith, h.3))
  meets-step start next target trace units over slack (Stands shown standing) e h = (suc h.0, suc h.1, between-step start next (run_as (trace ++ shown) standing) h.0 h.1 e h.2, (λ is. omega (arith, h.3 is)), omega (arith, h.4))

  -- a unit without a step
  meets-owed : (start : State) (target : Target) (trace : Trace) (n over slack : ℕ) (o : Out) → Meets start target trace n over (slack + 4) o → Meets start target trace (suc n) (over + 1) slack o
  meets-owed start target trace n over slack (Went shown memory rest) h = (h.0, h.1, omega (arith, h.2), omega (arith, h.3))
  meets-owed start target trace n over slack (Stands shown standing) h = (h.0, h.1, h.2, (λ is. omega (arith, h.3 is)), omega (arith, h.4))

  meets-more : (start : State) (target : Target) (trace : Trace) (units over slack more loose : ℕ) (o : Out) → over ≤ more → slack ≤ loose → Meets start target trace units over slack o → Meets start target trace units more loose o
  meets-more start target trace units over slack more loose (Went shown memory rest) a b h = (h.0, h.1, omega (arith, h.2, a), omega (arith, h.3, b))
  meets-more start target trace units over slack more loose (Stands shown standing) a b h = (h.0, h.1, h.2, (λ is. omega (arith, h.3 is, a)), omega (arith, h.4, b))

  -- with what was shown before
  meets-behind : (start : State) (target : Target) (trace shown : Trace) (units over slack : ℕ) (o : Out) → Meets start target (trace ++ shown) units over slack o → Meets start target trace units over slack (behind doing left shown o)
  meets-behind start target trace shown units over slack (Went more memory rest) h = (h.0, h.1 ∙ ap (target memory) (append_assoc trace shown more), h.2, h.3)
  meets-behind start target trace shown units over slack (Stands more standing) h =
      (h.0, h.1, subst (λ t. Between start (run_as t standing) h.0 h.1) (append_assoc trace shown more) h.2, h.3, h.4)

  meets-after : (start mid : State) (target : Target) (trace : Trace) (units rest k over slack over' slack' : ℕ) (o : Out) → go_on k start ≡ mid → units ≤ rest + (2 * k + over) → k + 4 * rest ≤ 4 * units + slack →
      Meets mid target trace rest over' slack' o → Meets start target trace units (over + over') (slack + slack') o
  meets-after start mid target trace units rest k over slack over' slack' (Went shown memory less) e u v h =
      (k + h.0, iterate-add (source_step doing left program) k h.0 start ∙ ap (go_on h.0) e ∙ h.1, omega (arith, u, h.2), omega (arith, v, h.3))
  meets-after start mid target trace units rest k over slack over' slack' (Stands shown standing) e u v h =
      (k + h.0, k + h.1, between-after start mid (run_as (trace ++ shown) standing) k h.0 h.1 e h.2, (λ is. omega (arith, u, h.3 is)), omega (arith, v, h.4))

  -- one after the other
  meets-then : (start : State) (mid target : Target) (trace : Trace) (units over slack over' slack' : ℕ) (o : Out) (d : D) → Meets start mid trace units over slack o →
      ((memory : Memory) (rest : ℕ) (t : Trace) → 4 * rest ≤ 4 * units + slack → Meets (mid memory t) target t rest over' slack' (d memory rest)) → Meets start target trace units (over + over') (slack + slack') (then_do doing left o d)
  meets-then start mid target trace units over slack over' slack' (Went shown memory rest) d h k =
      meets-behind start target trace shown units (over + over') (slack + slack') (d memory rest)
      (meets-after start (mid memory (trace ++ shown)) target (trace ++ shown) units rest h.0 over slack over' slack' (d memory rest) h.1 h.2 h.3 (k memory rest (trace ++ shown) (omega (arith, h.3))))
  meets-then start mid target trace units over slack over' slack' (Stands shown standing) d h k = (h.0, h.1, h.2, (λ is. omega (arith, h.3 is)), omega (arith, h.4))

  went : (start : State) (target : Target) (memory : Memory) (trace : Trace) (units over slack : ℕ) → start ≡ target memory trace → Meets start target trace units over slack (Went [] memory units)
  went start target memory trace units over slack e = (0, e ∙ ap (target memory) (sym (append-nil trace)), omega arith, omega arith)

  -- it goes on here
  abbrev Plain : Way Memory → Type 0
  Plain (On trace memory items) = Unit {0}
  Plain (Halts trace how memory) = Unit {0}
  Plain (Into entry exit items) = ⊥
  Plain (To trace memory paragraph) = Unit {0}
  Plain (ToEnd trace memory paragraph) = Unit {0}

  plain-after : (shown : Trace) (way : Way Memory) → Plain way → Plain (way_after shown way)
  plain-after shown (On trace memory items) h = tt
  plain-after shown (Halts trace how memory) h = tt
  plain-after shown (Into entry exit items) h = h
  plain-after shown (To trace memory paragraph) h = tt
  plain-after shown (ToEnd trace memory paragraph) h = tt

  plain-tried : {Value : Type 0} (t : Tried Memory Value) (k : Value → Memory → Way Memory) → ((v : Value) (m : Memory) → Plain (k v m)) → Plain (tried t k)
  plain-tried (Got trace value memory) k h = plain-after trace (k value memory) (h value memory)
  plain-tried (Ends trace kind memory) k h = tt

  -- no pending return is of a later paragraph
  abbrev EndsUpTo : ℕ → List Pending → Type 0
  EndsUpTo last [] = Unit {0}
  EndsUpTo last (return ∷ returns) = (return.end ≤ last) × EndsUpTo last returns

  ends-more : (first last : ℕ) (returns : List Pending) → first ≤ last → EndsUpTo first returns → EndsUpTo last returns
  ends-more first last [] le h = tt
  ends-more first last (return ∷ returns) le h = (omega (arith, le, h.0), ends-more first last returns le h.1)

  module _ (here : ℕ) (pending : List Pending) where
    goes-after : (items : List Item) (m memory : Memory) (trace shown : Trace) (way : Way Memory) → Plain way →
        goes doing left program (way_after shown way) (at here items pending m trace) ≡ goes doing left program way (at here items pending memory (trace ++ shown))
    goes-after items m memory trace shown (On more now rest) h = ap (at here rest pending now) (sym (append_assoc trace shown more))
    goes-after items m memory trace shown (Halts more how now) h =
        ap (λ t. (let s : State = record { paragraph = here; rest = items; pending = pending; memory = now; run = record { trace = t; standing = Over (Stopped how (left now)) } } in s)) (sym (append_assoc trace shown more))
    goes-after items m memory trace shown (Into entry exit rest) h = absurd h
    goes-after items m memory trace shown (To more now to) h = ap (at to (rest_of program to) pending now) (sym (append_assoc trace shown more))
    goes-after items m memory trace shown (ToEnd more now to) h = ap (at to [] pending now) (sym (append_assoc trace shown more))

    shows-more : (items : List Item) (m memory : Memory) (trace shown : Trace) (way : Way Memory) → Plain way → Begins (trace ++ (shown ++ [])) (goes doing left program (way_after shown way) (at here items pending memory trace)).run.trace
    shows-more items m memory trace shown (On more now rest) h = (more, ap (λ t. trace ++ t) (ap (λ t. t ++ more) (sym (append-nil shown))) ∙ sym (append_assoc trace (shown ++ []) more))
    shows-more items m memory trace shown (Halts more how now) h = (more, ap (λ t. trace ++ t) (ap (λ t. t ++ more) (sym (append-nil shown))) ∙ sym (append_assoc trace (shown ++ []) more))
    shows-more items m memory trace shown (Into entry exit rest) h = absurd h
    shows-more items m memory trace shown (To more now to) h = (more, ap (λ t. trace ++ t) (ap (λ t. t ++ more) (sym (append-nil shown))) ∙ sym (append_assoc trace (shown ++ []) more))
    shows-more items m memory trace shown (ToEnd more now to) h = (more, ap (λ t. trace ++ t) (ap (λ t. t ++ more) (sym (append-nil shown))) ∙ sym (append_assoc trace (shown ++ []) more))

    -- what was tried, and then what comes of it
    meets-tried : {Value : Type 0} (items : List Item) (memory : Memory) (trace : Trace) (target : Target) (units over slack : ℕ) (t : Tried Memory Value) (k : Value → Memory → Way Memory) (d : Value → D) →
        ((v : Value) (m : Memory) → Plain (k v m)) → ((v : Value) (m : Memory) (now : Trace) → Meets (goes doing left program (k v m) (at here items pending m now)) target now units over slack (d v m units)) →
        Meets (goes doing left program (tried t k) (at here items pending memory trace)) target trace units over slack (gets doing left t d units)
    meets-tried items memory trace target units over slack (Got shown value m) k d plain h =
        meets-behind (goes doing left program (way_after shown (k value m)) (at here items pending memory trace)) target trace shown units over slack (d value m units)
        (subst (λ s. Meets s target (trace ++ shown) units over slack (d value m units)) (sym (goes-after items memory m trace shown (k value m) (plain value m))) (h value m (trace ++ shown)))
    meets-tried items memory trace target units over slack (Ends shown kind m) k d plain h =
        over-at (goes doing left program (Halts shown (Abend kind) m) (at here items pending memory trace)) target trace (shown ++ []) units over slack (Stopped (Abend kind) (left m))
        (ap (λ t. run_as (trace ++ t) (Over (Stopped (Abend kind) (left m)))) (sym (append-nil shown)))

    -- these items do so, with any rest behind them
    abbrev Does_so : ℕ → (List Item → List Item) → D → Type 0
    Does_so slack first d = (rest : List Item) (memory : Memory) (units : ℕ) (trace : Trace) → Meets (at here (first rest) pending memory trace) (at here rest pending) trace units 0 slack (d memory units)

    module _ (body : Body) (d : D) (does : Does_so 3 (before_body body) d) where
      -- a turn, and those after it
      abbrev TurnsSo : ℕ → Turning → Type 0
      TurnsSo most turning = (rest : List Item) (memory : Memory) (units : ℕ) (trace : Trace) → units < most →
          Meets (at here (Turn turning body ∷ rest) pending memory trace) (at here rest pending) trace units 0 1 (turns doing left most turning d memory units)

      -- the body and the next turns, for what is left of a unit
      one-turn : (most : ℕ) (turning : Turning) → TurnsSo most turning → (rest : List Item) (memory : Memory) (n : ℕ) (trace : Trace) → n < most →
          Meets (at here (before_body body (Turn turning body ∷ rest)) pending memory trace) (at here rest pending) trace n 0 4 (one_then doing left d (turns doing left most turning d) memory n)
      one-turn most turning h rest memory n trace lt =
          meets-then (at here (before_body body (Turn turning body ∷ rest)) pending memory trace) (at here (Turn turning body ∷ rest) pending) (at here rest pending) trace n 0 3 0 1 (d memory n) (turns doing left most turning d)
          (does (Turn turning body ∷ rest) memory n trace)
          (λ m l t le. h rest m l t (omega (arith, le, lt)))

      -- a turn that waits for its unit
      meets-turn : (start : State) (target : Target) (trace : Trace) (does : D) (memory : Memory) (units : ℕ) → start.run ≡ run_as trace Going →
          ((n : ℕ) → n < units → Meets start target trace n 0 4 (does memory n)) → Meets start target trace units 2 0 (unit_of doing left does memory units)
      meets-turn start target trace does memory zero is h = waits start target trace 2 0 is
      meets-turn start target trace does memory (suc n) is h =
          meets-more start target trace (suc n) 1 0 2 0 (does memory n) (omega arith) (omega arith) (meets-owed start target trace n 0 0 (does memory n) (h n (omega arith)))

      -- behind a test: no turn, or one more and those after it
      turns-on : (most : ℕ) (turning : Turning) → TurnsSo most turning → (items rest : List Item) (ended : Bool) (memory : Memory) (units : ℕ) (trace : Trace) → units < suc most →
          Meets (goes doing left program (on doing (loop_turns doing ended turning body rest) memory) (at here items pending memory trace)) (at here rest pending) trace units 2 0 (goes_round doing left ended (one_then doing left d (turns doing left most turning d)) memory units)
      turns-on most turning h items rest true memory units trace lt =
          went (goes doing left program (on doing rest memory) (at here items pending memory trace)) (at here rest pending) memory trace units 2 0 (ap (at here rest pending memory) (append-nil trace))
      turns-on most turning h items rest false memory units trace lt =
          subst (λ t. Meets (at here (before_body body (Turn turning body ∷ rest)) pending memory t) (at here rest pending) trace units 2 0 (unit_of doing left (one_then doing left d (turns doing left most turning d)) memory units)) (sym (append-nil trace))
          (meets-turn (at here (before_body body (Turn turning body ∷ rest)) pending memory trace) (at here rest pending) trace (one_then doing left d (turns doing left most turning d)) memory units refl
          (λ n less. one-turn most turning h rest memory n trace (omega (arith, less, lt))))

      -- a test, and then the turns
      tests-on : (most : ℕ) (test : Test) (turning : Turning) → TurnsSo most turning → (items rest : List Item) (memory : Memory) (units : ℕ) (trace : Trace) → units < suc most →
          Meets (goes doing left program (tests doing test turning body rest memory) (at here items pending memory trace)) (at here rest pending) trace units 2 0
          (gets doing left (doing.test test memory) (λ ended. goes_round doing left ended (one_then doing left d (turns doing left most turning d))) units)
      tests-on most test turning h items rest memory units trace lt =
          meets-tried items memory trace (at here rest pending) units 2 0 (doing.test test memory) (λ ended. on doing (loop_turns doing ended turning body rest)) (λ ended. goes_round doing left ended (one_then doing left d (turns doing left most turning d)))
          (λ v m. tt) (λ ended m now. turns-on most turning h items rest ended m units now lt)

      -- a step behind which no body was done
      after-step : (start next : State) (target : Target) (trace : Trace) (units : ℕ) (o : Out) → source_step doing left program start ≡ next → Meets next target trace units 2 0 o → Meets start target trace units 0 1 o
      after-step start next target trace units o e h = meets-step start next target trace units 0 0 o e h

      -- VARYING with the test after: its step stands between the test and the body
      body-behind-step : (most : ℕ) (step : Act) (test : Test) → TurnsSo most (StepsAfter step test) → (items rest : List Item) (memory : Memory) (n : ℕ) (trace : Trace) → n < most →
          Meets (goes doing left program (steps_on doing false step test body rest memory) (at here items pending memory trace)) (at here rest pending) trace n 0 4
          (acts doing left step (one_then doing left d (turns doing left most (StepsAfter step test) d)) memory n)
      body-behind-step most step test h items rest memory n trace lt =
          meets-tried items memory trace (at here rest pending) n 0 4 (doing.act step memory) (λ u. on doing (before_body body (Turn (StepsAfter step test) body ∷ rest))) (λ u. one_then doing left d (turns doing left most (StepsAfter step test) d))
          (λ v m. tt)
          (λ u m now. subst (λ t. Meets (at here (before_body body (Turn (StepsAfter step test) body ∷ rest)) pending m t) (at here rest pending) now n 0 4 (one_then doing left d (turns doing left most (StepsAfter step test) d) m n)) (sym (append-nil now))
          (one-turn most (StepsAfter step test) h rest m n now lt))

      -- what the step of the remainder does, by what the test came to
      steps-by : (most : ℕ) (step : Act) (test : Test) → TurnsSo most (StepsAfter step test) → (items rest : List Item) (memory : Memory) (units : ℕ) (trace : Trace) (t : Tried Memory Bool) → units < suc most → (start : State) → start.run ≡ run_as trace Going →
          source_step doing left program start ≡ goes doing left program (tried t (λ ended. steps_on doing ended step test body rest)) (at here items pending memory trace) →
          Meets start (at here rest pending) trace units 0 1 (gets doing left t (λ ended. goes_round doing left ended (acts doing left step (one_then doing left d (turns doing left most (StepsAfter step test) d)))) units)
      steps-by most step test h items rest memory units trace (Ends shown kind m) lt start is e =
          let next = goes doing left program (Halts shown (Abend kind) m) (at here items pending memory trace) in
          meets-step start next (at here rest pending) trace units 0 0 (Stands (shown ++ []) (Over (Stopped (Abend kind) (left m)))) e
          (over-at next (at here rest pending) trace (shown ++ []) units 2 0 (Stopped (Abend kind) (left m)) (ap (λ t. run_as (trace ++ t) (Over (Stopped (Abend kind) (left m)))) (sym (append-nil shown))))
      steps-by most step test h items rest memory units trace (Got shown true m) lt start is e =
          let next = at here rest pending m (trace ++ (shown ++ [])) in
          meets-step start next (at here rest pending) trace units 0 0 (Went (shown ++ []) m units) e
          (meets-behind next (at here rest pending) trace shown units 2 0 (Went [] m units) (went next (at here rest pending) m (trace ++ shown) units 2 0 (ap (λ t. at here rest pending m (trace ++ t)) (append-nil shown))))
      steps-by most step test h items rest memory zero trace (Got shown false m) lt start is e =
          let way = steps_on doing false step test body rest m in
          let stood = run_as (trace ++ (shown ++ [])) Going in
          let next = goes doing left program (way_after shown way) (at here items pending memory trace) in
          let plain = plain-tried (doing.act step m) (λ u. on doing (before_body body (Turn (StepsAfter step test) body ∷ rest))) (λ v n. tt) in (
            0,
            1,
            (
              subst (λ r. Covers r stood) (sym is) (record { shows = (shown ++ [], refl); ends = λ over. absurd (over refl) }),
              subst (λ s. Covers stood s.run) (sym e) (record { shows = shows-more items m memory trace shown way plain; ends = λ over. absurd (over refl) }),
            ),
            (λ k. omega arith),
            omega arith,
          )
      steps-by most step test h items rest memory (suc n) trace (Got shown false m) lt start is e =
          let way = steps_on doing false step test body rest m in
          let next = goes doing left program (way_after shown way) (at here items pending memory trace) in
          let plain = plain-tried (doing.act step m) (λ u. on doing (before_body body (Turn (StepsAfter step test) body ∷ rest))) (λ v n. tt) in
          let o = acts doing left step (one_then doing left d (turns doing left most (StepsAfter step test) d)) m n in
          meets-step start next (at here rest pending) trace (suc n) 0 0 (behind doing left shown o) e
          (meets-behind next (at here rest pending) trace shown (suc n) 2 0 o
          (subst (λ s. Meets s (at here rest pending) (trace ++ shown) (suc n) 2 0 o) (sym (goes-after items memory m trace shown way plain))
          (meets-more (goes doing left program way (at here items pending m (trace ++ shown))) (at here rest pending) (trace ++ shown) (suc n) 1 0 2 0 o (omega arith) (omega arith)
          (meets-owed (goes doing left program way (at here items pending m (trace ++ shown))) (at here rest pending) (trace ++ shown) n 0 0 o
          (body-behind-step most step test h items rest m n (trace ++ shown) (omega (arith, lt)))))))

      turns-do : (most : ℕ) (turning : Turning) → TurnsSo most turning
      turns-do zero turning rest memory units trace lt = absurd (omega arith)
      turns-do (suc most) (Counted zero) rest memory units trace lt =
          after-step (at here (Turn (Counted zero) body ∷ rest) pending memory trace) (at here rest pending memory (trace ++ [])) (at here rest pending) trace units (Went [] memory units) refl
          (went (at here rest pending memory (trace ++ [])) (at here rest pending) memory trace units 2 0 (ap (at here rest pending memory) (append-nil trace)))
      turns-do (suc most) (Counted (suc n)) rest memory units trace lt =
          let next = at here (before_body body (Turn (Counted n) body ∷ rest)) pending memory in
          after-step (at here (Turn (Counted (suc n)) body ∷ rest) pending memory trace) (next (trace ++ [])) (at here rest pending) trace units (unit_of doing left (one_then doing left d (turns doing left most (Counted n) d)) memory units) refl
          (subst (λ t. Meets (next t) (at here rest pending) trace units 2 0 (unit_of doing left (one_then doing left d (turns doing left most (Counted n) d)) memory units)) (sym (append-nil trace))
          (meets-turn (next trace) (at here rest pending) trace (one_then doing left d (turns doing left most (Counted n) d)) memory units refl
          (λ m less. one-turn most (Counted n) (turns-do most (Counted n)) rest memory m trace (omega (arith, less, lt)))))
      turns-do (suc most) (Tests test) rest memory units trace lt =
          let all = Turn (Tests test) body ∷ rest in
          after-step (at here all pending memory trace) (goes doing left program (tests doing test (Tests test) body rest memory) (at here all pending memory trace)) (at here rest pending) trace units (turns doing left (suc most) (Tests test) d memory units) refl
          (tests-on most test (Tests test) (turns-do most (Tests test)) all rest memory units trace lt)
      turns-do (suc most) (Steps false step test) rest memory units trace lt =
          let all = Turn (Steps false step test) body ∷ rest in
          after-step (at here all pending memory trace) (goes doing left program (tests doing test (Steps true step test) body rest memory) (at here all pending memory trace)) (at here rest pending) trace units (turns doing left (suc most) (Steps false step test) d memory units) refl
          (tests-on most test (Steps true step test) (turns-do most (Steps true step test)) all rest memory units trace lt)
      turns-do (suc most) (Steps true step test) rest memory units trace lt =
          let all = Turn (Steps true step test) body ∷ rest in
          after-step (at here all pending memory trace) (goes doing left program (tried (doing.act step memory) (λ u. tests doing test (Steps true step test) body rest)) (at here all pending memory trace)) (at here rest pending) trace units (turns doing left (suc most) (Steps true step test) d memory units) refl
          (meets-tried all memory trace (at here rest pending) units 2 0 (doing.act step memory) (λ u. tests doing test (Steps true step test) body rest)
          (λ u memory units. gets doing left (doing.test test memory) (λ ended. goes_round doing left ended (one_then doing left d (turns doing left most (Steps true step test) d))) units)
          (λ v m. plain-tried (doing.test test m) (λ ended. on doing (loop_turns doing ended (Steps true step test) body rest)) (λ ended n. tt))
          (λ u m now. tests-on most test (Steps true step test) (turns-do most (Steps true step test)) all rest m units now lt))
      turns-do (suc most) (StepsAfter step test) rest memory units trace lt =
          let all = Turn (StepsAfter step test) body ∷ rest in
          steps-by most step test (turns-do most (StepsAfter step test)) all rest memory units trace (doing.test test memory) lt (at here all pending memory trace) refl refl

      -- a loop from its beginning, for what is left of its unit
      abbrev all : Turning → D
      all turning = all_turns doing left turning d

      all-do : (items rest : List Item) (turning : Turning) (memory : Memory) (units : ℕ) (trace : Trace) →
          Meets (goes doing left program (on doing (Turn turning body ∷ rest) memory) (at here items pending memory trace)) (at here rest pending) trace units 0 1 (all turning memory units)
      all-do items rest turning memory units trace =
          subst (λ t. Meets (at here (Turn turning body ∷ rest) pending memory t) (at here rest pending) trace units 0 1 (all turning memory units)) (sym (append-nil trace))
          (turns-do (suc units) turning rest memory units trace (omega arith))

      first-do : (items rest : List Item) (after : Bool) (turning : Turning) (memory : Memory) (units : ℕ) (trace : Trace) →
          Meets (goes doing left program (on doing (loop_first doing after turning body rest) memory) (at here items pending memory trace)) (at here rest pending) trace units 1 3 (first_turn doing left after turning d memory units)
      first-do items rest false turning memory units trace =
          meets-more (at here (Turn turning body ∷ rest) pending memory (trace ++ [])) (at here rest pending) trace units 0 1 1 3 (all turning memory units) (omega arith) (omega arith) (all-do items rest turning memory units trace)
      first-do items rest true turning memory zero trace =
          waits (at here (before_body body (Turn turning body ∷ rest)) pending memory (trace ++ [])) (at here rest pending) trace 1 3 (ap (λ t. run_as t Going) (append-nil trace))
      first-do items rest true turning memory (suc n) trace =
          let start = at here (before_body body (Turn turning body ∷ rest)) pending memory in
          let o = one_then doing left d (all turning) memory n in
          subst (λ t. Meets (start t) (at here rest pending) trace (suc n) 1 3 o) (sym (append-nil trace))
          (meets-owed (start trace) (at here rest pending) trace n 0 3 o
          (meets-more (start trace) (at here rest pending) trace n 0 4 0 7 o (omega arith) (omega arith)
          (meets-then (start trace) (at here (Turn turning body ∷ rest) pending) (at here rest pending) trace n 0 3 0 1 (d memory n) (all turning)
          (does (Turn turning body ∷ rest) memory n trace)
          (λ m l t le. turns-do (suc l) turning rest m l t (omega arith)))))

      loop-does : (items rest : List Item) (control : Control) (memory : Memory) (units : ℕ) (trace : Trace) →
          Meets (goes doing left program (loop_begins doing control body rest memory) (at here items pending memory trace)) (at here rest pending) trace units 1 3 (loop_does doing left control d memory units)
      loop-does items rest (Times amount) memory units trace =
          meets-tried items memory trace (at here rest pending) units 1 3 (doing.count amount memory) (λ n. on doing (Turn (Counted n) body ∷ rest)) (λ n. all (Counted n)) (λ v m. tt)
          (λ n m now. meets-more (at here (Turn (Counted n) body ∷ rest) pending m (now ++ [])) (at here rest pending) now units 0 1 1 3 (all (Counted n) m units) (omega arith) (omega arith) (all-do items rest (Counted n) m units now))
      loop-does items rest (Until after test) memory units trace = first-do items rest after (Tests test) memory units trace
      loop-does items rest (Varying after set step test) memory units trace =
          meets-tried items memory trace (at here rest pending) units 1 3 (doing.act set memory) (λ u. on doing (loop_first doing after (loop_varying doing after step test) body rest)) (λ u. first_turn doing left after (varying doing left after step test) d) (λ v m. tt)
          (λ u m now. varying-do after step test m now)
        where
          varying-do : (after : Bool) (step : Act) (test : Test) (m : Memory) (now : Trace) →
              Meets (goes doing left program (on doing (loop_first doing after (loop_varying doing after step test) body rest) m) (at here items pending m now)) (at here rest pending) now units 1 3 (first_turn doing left after (varying doing left after step test) d m units)
          varying-do true step test m now = first-do items rest true (StepsAfter step test) m units now
          varying-do false step test m now = first-do items rest false (Steps false step test) m units now

    module _ (count : ℕ) (perform : Performing doing left) where
      -- a later paragraph is run from its beginning to its end, whoever waits
      abbrev Can : ℕ → Type 0
      Can to = (waiting : List Pending) (memory : Memory) (units : ℕ) (trace : Trace) → EndsUpTo to waiting →
          Meets (at to (rest_of program to) waiting memory trace) (at to [] waiting) trace units 0 1 (perform to memory units)

      not-pending : (to : ℕ) (returns : List Pending) → here < to → EndsUpTo here returns → ends_at to returns ≡ false
      not-pending to [] lt h = refl
      not-pending to (return ∷ returns) lt h =
          let e : (return.end == to) ≡ false = ne_eqb return.end to (λ is. absurd (omega (arith, is, h.0, lt))) in
          subst (λ t. (if t then true else ends_at to returns) ≡ false) (sym e) (not-pending to returns lt h.1)

      module _ (below : EndsUpTo here pending) (able : (to : ℕ) → here < to → to < count → Can to) where
        -- who waits while the paragraph runs
        abbrev waiting_for : ℕ → List Item → List Pending
        waiting_for to rest = record { end = to; paragraph = here; rest = rest } ∷ pending

        goes-in : (to : ℕ) (rest : List Item) (memory : Memory) (trace : Trace) → here < to →
            source_step doing left program (at here (Do (Perform to to) ∷ rest) pending memory trace) ≡ at to (rest_of program to) (waiting_for to rest) memory trace
        goes-in to rest memory trace lt =
            ap (λ t. (let s : State = (if t then comes_to doing left program (Faulted (Reentry to)) (at here (Do (Perform to to) ∷ rest) pending memory trace) else at to (rest_of program to) (waiting_for to rest) memory trace) in s))
            (not-pending to pending lt below)

        goes-back : (to : ℕ) (rest : List Item) (memory : Memory) (trace : Trace) →
            source_step doing left program (at to [] (waiting_for to rest) memory trace) ≡ at here rest pending memory trace
        goes-back to rest memory trace =
            ap (λ t. (let s : State = (if t then at here rest pending memory trace
            else (if ends_at to pending then comes_to doing left program (Faulted (Overlap to)) (at to [] (waiting_for to rest) memory trace) else falls doing left program (slice_get program.paragraphs (suc to)) (at to [] (waiting_for to rest) memory trace))) in s))
            (same_number to)

        meets-returned : (to : ℕ) (rest : List Item) (start : State) (trace : Trace) (n : ℕ) (o : Out) →
            Meets start (at to [] (waiting_for to rest)) trace n 0 1 o → Meets start (at here rest pending) trace n 0 2 o
        meets-returned to rest start trace n (Went shown memory l) h =
            (h.0 + 1, iterate-add (source_step doing left program) h.0 1 start ∙ ap (source_step doing left program) h.1 ∙ goes-back to rest memory (trace ++ shown), omega (arith, h.2), omega (arith, h.3))
        meets-returned to rest start trace n (Stands shown standing) h = (h.0, h.1, h.2, h.3, omega (arith, h.4))

        inside : (to : ℕ) (rest : List Item) (memory : Memory) (units : ℕ) (trace : Trace) → here < to → to < count →
            Meets (at to (rest_of program to) (waiting_for to rest) memory trace) (at here rest pending) trace units 0 2 (perform to memory units)
        inside to rest memory units trace lt few =
            meets-returned to rest (at to (rest_of program to) (waiting_for to rest) memory trace) trace units (perform to memory units)
            (able to lt few (waiting_for to rest) memory units trace (omega arith, ends-more here to pending (omega (arith, lt)) below))

        -- for a unit, and as the body of a loop
        perform-does : (to : ℕ) → here < to → to < count → Does_so 0 (λ rest. Do (Perform to to) ∷ rest) (unit_of doing left (perform to))
        perform-does to lt few rest memory zero trace = waits (at here (Do (Perform to to) ∷ rest) pending memory trace) (at here rest pending) trace 0 0 refl
        perform-does to lt few rest memory (suc n) trace =
            let next = at to (rest_of program to) (waiting_for to rest) memory trace in
            meets-unit (at here (Do (Perform to to) ∷ rest) pending memory trace) next (at here rest pending) trace n (perform to memory n) (goes-in to rest memory trace lt)
            (meets-more next (at here rest pending) trace n 0 2 1 3 (perform to memory n) (omega arith) (omega arith) (inside to rest memory n trace lt few))

        performed-does : (to : ℕ) → here < to → to < count → Does_so 3 (before_body (Performed to to)) (perform to)
        performed-does to lt few rest memory units trace =
            let next = at to (rest_of program to) (waiting_for to rest) memory trace in
            meets-step (at here (Do (Perform to to) ∷ rest) pending memory trace) next (at here rest pending) trace units 0 2 (perform to memory units) (goes-in to rest memory trace lt)
            (meets-more next (at here rest pending) trace units 0 2 2 2 (perform to memory units) (omega arith) (omega arith) (inside to rest memory units trace lt few))

        -- a statement's first step, for its unit
        meets-begun : (stmt : Stmt) (rest : List Item) (next : State) (d : D) (memory : Memory) (units : ℕ) (trace : Trace) →
            source_step doing left program (at here (Do stmt ∷ rest) pending memory trace) ≡ next →
            ((n : ℕ) → Meets next (at here rest pending) trace n 1 3 (d memory n)) → Meets (at here (Do stmt ∷ rest) pending memory trace) (at here rest pending) trace units 0 0 (unit_of doing left d memory units)
        meets-begun stmt rest next d memory zero trace e h = waits (at here (Do stmt ∷ rest) pending memory trace) (at here rest pending) trace 0 0 refl
        meets-begun stmt rest next d memory (suc n) trace e h = meets-unit (at here (Do stmt ∷ rest) pending memory trace) next (at here rest pending) trace n (d memory n) e (h n)

        mutual
          stmt-does : (stmt : Stmt) → StmtNests (NamesLater count here) stmt → Does_so 0 (λ rest. Do stmt ∷ rest) (stmt_does doing left stmt perform)
          stmt-does (language.Do act) nests = λ rest memory units trace.
              let all = Do (language.Do act) ∷ rest in
              meets-begun (language.Do act) rest (goes doing left program (tried (doing.act act memory) (λ u. on doing rest)) (at here all pending memory trace)) (acts doing left act (nothing doing left)) memory units trace refl
              (λ n. meets-tried all memory trace (at here rest pending) n 1 3 (doing.act act memory) (λ u. on doing rest) (λ u. nothing doing left) (λ v m. tt)
              (λ u m now. went (at here rest pending m (now ++ [])) (at here rest pending) m now n 1 3 (ap (at here rest pending m) (append-nil now))))
          stmt-does (Choose picker arms) nests = λ rest memory units trace.
              let all = Do (Choose picker arms) ∷ rest in
              meets-begun (Choose picker arms) rest (goes doing left program (tried (doing.pick picker memory) (λ k. on doing (before_arm arms k rest))) (at here all pending memory trace))
              (λ memory units. gets doing left (doing.pick picker memory) (arm_does doing left arms perform) units) memory units trace refl
              (λ n. meets-tried all memory trace (at here rest pending) n 1 3 (doing.pick picker memory) (λ k. on doing (before_arm arms k rest)) (arm_does doing left arms perform) (λ v m. tt)
              (λ k m now. subst (λ t. Meets (at here (before_arm arms k rest) pending m t) (at here rest pending) now n 1 3 (arm_does doing left arms perform k m n)) (sym (append-nil now))
              (meets-more (at here (before_arm arms k rest) pending m now) (at here rest pending) now n 0 0 1 3 (arm_does doing left arms perform k m n) (omega arith) (omega arith)
              (arm-does arms nests k rest m n now))))
          stmt-does (Loop control body) nests = λ rest memory units trace.
              let all = Do (Loop control body) ∷ rest in
              meets-begun (Loop control body) rest (goes doing left program (loop_begins doing control body rest memory) (at here all pending memory trace)) (loop_does doing left control (body_does doing left body perform)) memory units trace refl
              (λ n. loop-does body (body_does doing left body perform) (body-does body nests) all rest control memory n trace)
          stmt-does (Perform entry exit) nests =
              subst (λ x. Does_so 0 (λ rest. Do (Perform entry x) ∷ rest) (unit_of doing left (perform entry))) nests.0 (perform-does entry nests.1 nests.2)
          stmt-does (Go to) nests = absurd nests
          stmt-does (GoDepending to chooser) nests = absurd nests
          stmt-does NextSentence nests = absurd nests
          stmt-does ExitParagraph nests = absurd nests
          stmt-does (ExitSection last) nests = absurd nests
          stmt-does (ExitPerform cycle) nests = absurd nests
          stmt-does StopRun nests = λ rest memory units trace.
              let next = goes doing left program (Halts [] Normally memory) (at here (Do StopRun ∷ rest) pending memory trace) in
              meets-begun StopRun rest next (stops doing left Normally) memory units trace refl
              (λ n. over-at next (at here rest pending) trace [] n 1 3 (Stopped Normally (left memory)) refl)

          stmts-do : (stmts : Stmts) → StmtsNest (NamesLater count here) stmts → Does_so 0 (before stmts) (stmts_do doing left stmts perform)
          stmts-do none nests = λ rest memory units trace. went (at here rest pending memory trace) (at here rest pending) memory trace units 0 0 refl
          stmts-do (also stmt stmts) nests = λ rest memory units trace.
              meets-then (at here (Do stmt ∷ before stmts rest) pending memory trace) (at here (before stmts rest) pending) (at here rest pending) trace units 0 0 0 0 (stmt_does doing left stmt perform memory units) (stmts_do doing left stmts perform)
              (stmt-does stmt nests.0 (before stmts rest) memory units trace) (λ m l t le. stmts-do stmts nests.1 rest m l t)

          arm-does : (arms : Arms) → ArmsNest (NamesLater count here) arms → (k : ℕ) → Does_so 0 (before_arm arms k) (arm_does doing left arms perform k)
          arm-does done nests k = λ rest memory units trace. went (at here rest pending memory trace) (at here rest pending) memory trace units 0 0 refl
          arm-does (given arm others) nests zero = stmts-do arm nests.0
          arm-does (given arm others) nests (suc k) = arm-does others nests.1 k
          arm-does (missing others) nests zero = λ rest memory units trace. went (at here rest pending memory trace) (at here rest pending) memory trace units 0 0 refl
          arm-does (missing others) nests (suc k) = arm-does others nests k

          body-does : (body : Body) → BodyNests (NamesLater count here) body → Does_so 3 (before_body body) (body_does doing left body perform)
          body-does (Nested stmts) nests = λ rest memory units trace.
              meets-more (at here (before stmts rest) pending memory trace) (at here rest pending) trace units 0 0 0 3 (stmts_do doing left stmts perform memory units) (omega arith) (omega arith) (stmts-do stmts nests rest memory units trace)
          body-does (Performed entry exit) nests =
              subst (λ x. Does_so 3 (before_body (Performed entry x)) (perform entry)) nests.0 (performed-does entry nests.1 nests.2)

  -- the whole of a paragraph, that far as its number is its own
  paragraph-does : (count here : ℕ) (paragraph : Paragraph) (perform : Performing doing left) → ParagraphNests count here paragraph → rest_of program here ≡ items_of paragraph →
      ((to : ℕ) → here < to → to < count → Can here [] count perform to) → (waiting : List Pending) (memory : Memory) (units : ℕ) (trace : Trace) → EndsUpTo here waiting →
      Meets (at here (rest_of program here) waiting memory trace) (at here [] waiting) trace units 0 1 (paragraph_does doing left paragraph perform memory units)
  paragraph-does count here [] perform nests is able waiting memory units trace below = absurd nests
  paragraph-does count here (sentence ∷ []) perform nests is able waiting memory units trace below =
      subst (λ rest. Meets (at here rest waiting memory trace) (at here [] waiting) trace units 0 1 (one_then doing left (stmts_do doing left sentence perform) (nothing doing left) memory units)) (sym is)
      (meets-then (at here (before sentence (SentenceEnd ∷ [])) waiting memory trace) (at here (SentenceEnd ∷ []) waiting) (at here [] waiting) trace units 0 0 0 1 (stmts_do doing left sentence perform memory units) (nothing doing left)
      (stmts-do here waiting count perform below able sentence nests (SentenceEnd ∷ []) memory units trace)
      (λ m l t le. meets-step (at here (SentenceEnd ∷ []) waiting m t) (at here [] waiting m (t ++ [])) (at here [] waiting) t l 0 0 (Went [] m l) refl
      (went (at here [] waiting m (t ++ [])) (at here [] waiting) m t l 2 0 (ap (at here [] waiting m) (append-nil t)))))
  paragraph-does count here (sentence ∷ next ∷ sentences) perform nests is able waiting memory units trace below = absurd nests

  -- these paragraphs are those of the program, from this number on
  abbrev StandsFrom : ℕ → List Paragraph → Type 0
  StandsFrom first paragraphs = (i : ℕ) → slice_get program.paragraphs (first + i) ≡ slice_get paragraphs i

  stands-next : (first : ℕ) (paragraph : Paragraph) (others : List Paragraph) → StandsFrom first (paragraph ∷ others) → StandsFrom (suc first) others
  stands-next first paragraph others h i = let e : suc first + i ≡ first + suc i = omega arith in ap (slice_get program.paragraphs) e ∙ h (suc i)

  stands-rest : (first : ℕ) (paragraph : Paragraph) (others : List Paragraph) → StandsFrom first (paragraph ∷ others) → rest_of program first ≡ items_of paragraph
  stands-rest first paragraph others h = let e : first ≡ first + 0 = omega arith in ap (λ n. items_of (unless_absent (slice_get program.paragraphs n))) e ∙ ap (λ o. items_of (unless_absent o)) (h 0)

  performing-can : (count first here : ℕ) (paragraphs : List Paragraph) → StandsFrom first paragraphs → count ≡ first + length paragraphs → ParagraphsNest count first paragraphs →
      (to : ℕ) → first ≤ to → to < count → Can here [] count (performing doing left first paragraphs) to
  performing-can count first here [] stands is nests to le lt = absurd (let e : count ≡ first + 0 = is in omega (arith, e, le, lt))
  performing-can count first here (paragraph ∷ others) stands is nests to le lt = λ waiting memory units trace below.
      let inner = performing doing left (suc first) others in
      let counted : count ≡ suc first + length others = (let e : length (paragraph ∷ others) ≡ suc (length others) = refl in omega (arith, is, e)) in
      let able = performing-can count (suc first) here others (stands-next first paragraph others stands) counted nests.1 in
      elim (eqb_tells to first) [
        | inl h ↦
            subst (λ t. Meets (at to (rest_of program to) waiting memory trace) (at to [] waiting) trace units 0 1 ((if t then paragraph_does doing left paragraph inner else inner to) memory units)) (sym h.0)
            (subst (λ n. EndsUpTo n waiting → Meets (at n (rest_of program n) waiting memory trace) (at n [] waiting) trace units 0 1 (paragraph_does doing left paragraph inner memory units)) (sym h.1)
            (paragraph-does count first paragraph inner nests.0 (stands-rest first paragraph others stands) able waiting memory units trace) below)
        | inr h ↦
            subst (λ t. Meets (at to (rest_of program to) waiting memory trace) (at to [] waiting) trace units 0 1 ((if t then paragraph_does doing left paragraph inner else inner to) memory units)) (sym h.0)
            (able to (past-other first to le h.1) lt waiting memory units trace below)
      ]
    where
      past-other : (first to : ℕ) → first ≤ to → to ≢ first → suc first ≤ to
      past-other first to le other = elim (le_or (suc first) to) [ inl h ↦ h | inr h ↦ absurd (other (omega (arith, le, h))) ]

  abbrev IsStands : Out → Type 0
  IsStands (Went trace memory units) = ⊥
  IsStands (Stands trace standing) = Unit {0}

  stands-behind : (shown : Trace) (o : Out) → IsStands o → IsStands (behind doing left shown o)
  stands-behind shown (Went trace memory units) h = h
  stands-behind shown (Stands trace standing) h = tt

  stands-then : (o : Out) (d : D) → ((memory : Memory) (units : ℕ) → IsStands (d memory units)) → IsStands (then_do doing left o d)
  stands-then (Went trace memory units) d h = stands-behind trace (d memory units) (h memory units)
  stands-then (Stands trace standing) d h = tt

  stands-first : (o : Out) (d : D) → IsStands o → IsStands (then_do doing left o d)
  stands-first (Went trace memory units) d h = absurd h
  stands-first (Stands trace standing) d h = tt

  -- STOP RUN never goes on
  stop-stands : (perform : Performing doing left) (memory : Memory) (units : ℕ) → IsStands (stmt_does doing left StopRun perform memory units)
  stop-stands perform memory zero = tt
  stop-stands perform memory (suc n) = tt

  stmts-stand : (perform : Performing doing left) (stmts : Stmts) → EndsInStop stmts → (memory : Memory) (units : ℕ) → IsStands (stmts_do doing left stmts perform memory units)
  stmts-stand perform none ends memory units = absurd ends
  stmts-stand perform (also stmt none) ends memory units =
      stands-first (stmt_does doing left stmt perform memory units) (nothing doing left) (subst (λ s. IsStands (stmt_does doing left s perform memory units)) (sym ends) (stop-stands perform memory units))
  stmts-stand perform (also stmt (also next stmts)) ends memory units =
      stands-then (stmt_does doing left stmt perform memory units) (stmts_do doing left (also next stmts) perform) (stmts-stand perform (also next stmts) ends)

  first-stands : (paragraphs : List Paragraph) → FirstStops paragraphs → (memory : Memory) (units : ℕ) → IsStands (program_does doing left paragraphs memory units)
  first-stands [] stops memory units = absurd stops
  first-stands ([] ∷ others) stops memory units = absurd stops
  first-stands ((sentence ∷ sentences) ∷ others) stops memory units =
      let perform = performing doing left 1 others in
      stands-first (stmts_do doing left sentence perform memory units) (paragraph_does doing left sentences perform) (stmts-stand perform sentence stops memory units)

  program-does : (paragraphs : List Paragraph) → program.paragraphs ≡ paragraphs → ParagraphsNest (length paragraphs) 0 paragraphs → FirstStops paragraphs → (memory : Memory) (units : ℕ) →
      Meets (at 0 (rest_of program 0) [] memory []) (at 0 [] []) [] units 0 1 (program_does doing left paragraphs memory units)
  program-does [] is nests stops memory units = absurd stops
  program-does (paragraph ∷ others) is nests stops memory units =
      let count = length (paragraph ∷ others) in
      let stands : StandsFrom 1 others = (λ i. (let e : 1 + i ≡ suc i = omega arith in ap (slice_get program.paragraphs) e ∙ ap (λ p. slice_get p (suc i)) is)) in
      paragraph-does count 0 paragraph (performing doing left 1 others) nests.0 (ap (λ p. items_of (unless_absent (slice_get p 0))) is)
      (λ to lt few. performing-can count 1 0 others stands (let e : length (paragraph ∷ others) ≡ suc (length others) = refl in omega (arith, e)) nests.1 to lt few) [] memory units [] tt

  -- each structural run is between two runs of the source
  outcome-enclosed : (memory : Memory) (n : ℕ) (o : Out) → IsStands o → Meets (source_begun doing left program memory) (at 0 [] []) [] n 0 1 o →
      (few : ℕ) × (many : ℕ) × Covers (meaning (source_machine doing left program) memory few) (run_of doing left o) × Covers (run_of doing left o) (meaning (source_machine doing left program) memory many) ×
      (many ≤ 4 * (n + 1)) × ((run_of doing left o).standing ≡ Going → n ≤ 2 * (few + 1))
  outcome-enclosed memory n (Went shown m units) stands h = absurd stands
  outcome-enclosed memory n (Stands shown standing) stands h = (h.0, h.1, h.2.0, h.2.1, omega (arith, h.4), (λ going. omega (arith, h.3 going)))

  pub structured-enclosed : IsStructuredControl program → Enclosed (structural doing left program) (meaning (source_machine doing left program))
  structured-enclosed structured = record {
    there = 4;
    back = 2;
    enclosed = λ memory n.
        outcome-enclosed memory n (program_does doing left program.paragraphs memory n) (first-stands program.paragraphs structured.stops memory n)
        (program-does program.paragraphs refl structured.nests structured.stops memory n);
  }

  -- the two meanings of a structured program are tied
  pub structured-tied : IsStructuredControl program → Tied (meaning (source_machine doing left program)) (structural doing left program)
  structured-tied structured =
      tied-sym (structural doing left program) (meaning (source_machine doing left program))
      (enclosed-tied (structural doing left program) (meaning (source_machine doing left program)) (machine-steady (source_machine doing left program) (source-grows doing left program)) (structured-enclosed structured))
