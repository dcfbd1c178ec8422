-- In a structured program control never passes from the end of one paragraph to the next.
use Rattle.std.proofs.Common.{◌≡◌, ◌≢◌, ℕ, zero, suc, ◌+◌, ◌<◌, Bool, true, false, if◌then◌else◌, ◌==◌, List, [], ◌∷◌, length, slice_get, refl, ap, sym, ◌∙◌, subst, arith, ◌⊎◌, inl, inr}
use Rattle.control_flow_theory.specs.runs.Run.{Going, Over}
use Rattle.control_flow_theory.specs.runs.Machine.{iterate}
use Rattle.control_flow_theory.specs.semantics.Outcome.{Trace, Overlap, Reentry, Faulted, Standing, Tried, Got, Ends}
use Rattle.control_flow_theory.specs.language.Language.{Act, Test, Picker, Control, Times, Until, Varying, Stmt, Choose, Loop, Perform, Go, GoDepending, NextSentence, ExitParagraph, ExitSection, ExitPerform, StopRun, Stmts, none, also, Arms, done, given, missing, Body, Nested, Performed, Paragraph, Program, unless_absent}
use Rattle.control_flow_theory.specs.language.Language as language
use Rattle.control_flow_theory.specs.semantics.Doing.{Doing}
use Rattle.control_flow_theory.specs.language.Items.{Turning, Counted, Tests, Steps, StepsAfter, Item, Do, SentenceEnd, Turn, before, before_body, before_arm, items_of}
use Rattle.control_flow_theory.specs.semantics.Items.{Way, On, Halts, Into, To, ToEnd, way_after, tried, on, first_turn, varying, loop_begins, turns, tests, steps_on, turn_way, stmt_way, item_way}
use Rattle.control_flow_theory.specs.language.Items.{Pending, ends_at}
use Rattle.control_flow_theory.specs.semantics.Source.{SourceState, rest_of, comes_to, goes, falls, end_step, source_step, source_begun}
use Rattle.control_flow_theory.specs.language.Structured.{StmtNests, StmtsNest, ArmsNest, BodyNests, NamesLater, ParagraphNests, ParagraphsNest, EndsInStop, FirstStops, IsStructuredControl}
use Rattle.control_flow_theory.specs.semantics_agree.Laws.{Returns}
use Rattle.control_flow_theory.proofs.semantics_agree_lemmas.Agreement.{same_number}

-- the last items are STOP RUN and the sentence's end
abbrev StopsLast : List Item → Type 0
StopsLast [] = ⊥
StopsLast (item ∷ []) = ⊥
StopsLast (item ∷ next ∷ []) = item ≡ Do StopRun
StopsLast (item ∷ next ∷ third ∷ items) = StopsLast (next ∷ third ∷ items)

stops-add : (item : Item) (items : List Item) → StopsLast items → StopsLast (item ∷ items)
stops-add item [] h = absurd h
stops-add item (next ∷ []) h = absurd h
stops-add item (next ∷ third ∷ items) h = h

stops-tail : (item : Item) (items : List Item) → StopsLast (item ∷ items) → (item ≡ Do StopRun) ⊎ StopsLast items
stops-tail item [] h = absurd h
stops-tail item (next ∷ []) h = inl h
stops-tail item (next ∷ third ∷ items) h = inr h

stops-before : (stmts : Stmts) → EndsInStop stmts → StopsLast (before stmts (SentenceEnd ∷ []))
stops-before none h = absurd h
stops-before (also stmt none) h = ap Do h
stops-before (also stmt (also next stmts)) h = stops-add (Do stmt) (Do next ∷ before stmts (SentenceEnd ∷ [])) (stops-before (also next stmts) h)

module _ {Memory : Type 0} (doing : Doing Memory) (Such : ℕ → ℕ → Type 0) (P : List Item → Type 0) where
  abbrev ItemNests : Item → Type 0
  ItemNests (Do stmt) = StmtNests Such stmt
  ItemNests SentenceEnd = Unit {0}
  ItemNests (Turn turning body) = BodyNests Such body

  -- what it goes on with is such a rest, and what it performs is such a range
  abbrev WayKeeps : Way Memory → Type 0
  WayKeeps (On trace memory items) = P items
  WayKeeps (Halts trace how memory) = Unit {0}
  WayKeeps (Into entry exit items) = Such entry exit × P items
  WayKeeps (To trace memory to) = ⊥
  WayKeeps (ToEnd trace memory to) = ⊥

  keeps-after : (shown : Trace) (way : Way Memory) → WayKeeps way → WayKeeps (way_after shown way)
  keeps-after shown (On trace memory items) h = h
  keeps-after shown (Halts trace how memory) h = h
  keeps-after shown (Into entry exit items) h = h
  keeps-after shown (To trace memory to) h = h
  keeps-after shown (ToEnd trace memory to) h = h

  keeps-tried : {Value : Type 0} (t : Tried Memory Value) (f : Value → Memory → Way Memory) → ((v : Value) (memory : Memory) → WayKeeps (f v memory)) → WayKeeps (tried t f)
  keeps-tried (Got trace value memory) f h = keeps-after trace (f value memory) (h value memory)
  keeps-tried (Ends trace kind memory) f h = tt

  module _ (add : (item : Item) (items : List Item) → ItemNests item → P items → P (item ∷ items)) where
    keeps-before : (stmts : Stmts) (items : List Item) → StmtsNest Such stmts → P items → P (before stmts items)
    keeps-before none items nests h = h
    keeps-before (also stmt stmts) items nests h = add (Do stmt) (before stmts items) nests.0 (keeps-before stmts items nests.1 h)

    keeps-arm : (arms : Arms) (k : ℕ) (items : List Item) → ArmsNest Such arms → P items → P (before_arm arms k items)
    keeps-arm done k items nests h = h
    keeps-arm (given arm others) zero items nests h = keeps-before arm items nests.0 h
    keeps-arm (given arm others) (suc k) items nests h = keeps-arm others k items nests.1 h
    keeps-arm (missing others) zero items nests h = h
    keeps-arm (missing others) (suc k) items nests h = keeps-arm others k items nests h

    keeps-body : (body : Body) (items : List Item) → BodyNests Such body → P items → P (before_body body items)
    keeps-body (Nested stmts) items nests h = keeps-before stmts items nests h
    keeps-body (Performed entry exit) items nests h = add (Do (Perform entry exit)) items nests h

    keeps-turn : (turning : Turning) (body : Body) (items : List Item) → BodyNests Such body → P items → P (before_body body (Turn turning body ∷ items))
    keeps-turn turning body items nests h = keeps-body body (Turn turning body ∷ items) nests (add (Turn turning body) items nests h)

    keeps-first : (after : Bool) (turning : Turning) (body : Body) (items : List Item) → BodyNests Such body → P items → P (first_turn doing after turning body items)
    keeps-first false turning body items nests h = add (Turn turning body) items nests h
    keeps-first true turning body items nests h = keeps-turn turning body items nests h

    keeps-turns : (ended : Bool) (turning : Turning) (body : Body) (items : List Item) → BodyNests Such body → P items → P (turns doing ended turning body items)
    keeps-turns true turning body items nests h = h
    keeps-turns false turning body items nests h = keeps-turn turning body items nests h

    keeps-tests : (test : Test) (turning : Turning) (body : Body) (items : List Item) (memory : Memory) → BodyNests Such body → P items → WayKeeps (tests doing test turning body items memory)
    keeps-tests test turning body items memory nests h =
        keeps-tried (doing.test test memory) (λ ended. on doing (turns doing ended turning body items)) (λ ended m. keeps-turns ended turning body items nests h)

    keeps-steps : (ended : Bool) (step : Act) (test : Test) (body : Body) (items : List Item) (memory : Memory) → BodyNests Such body → P items → WayKeeps (steps_on doing ended step test body items memory)
    keeps-steps true step test body items memory nests h = h
    keeps-steps false step test body items memory nests h =
        keeps-tried (doing.act step memory) (λ u. on doing (before_body body (Turn (StepsAfter step test) body ∷ items))) (λ u m. keeps-turn (StepsAfter step test) body items nests h)

    keeps-remainder : (turning : Turning) (body : Body) (items : List Item) (memory : Memory) → BodyNests Such body → P items → WayKeeps (turn_way doing turning body items memory)
    keeps-remainder (Counted zero) body items memory nests h = h
    keeps-remainder (Counted (suc n)) body items memory nests h = keeps-turn (Counted n) body items nests h
    keeps-remainder (Tests test) body items memory nests h = keeps-tests test (Tests test) body items memory nests h
    keeps-remainder (Steps false step test) body items memory nests h = keeps-tests test (Steps true step test) body items memory nests h
    keeps-remainder (Steps true step test) body items memory nests h =
        keeps-tried (doing.act step memory) (λ u. tests doing test (Steps true step test) body items) (λ u m. keeps-tests test (Steps true step test) body items m nests h)
    keeps-remainder (StepsAfter step test) body items memory nests h =
        keeps-tried (doing.test test memory) (λ ended. steps_on doing ended step test body items) (λ ended m. keeps-steps ended step test body items m nests h)

    keeps-loop : (control : Control) (body : Body) (items : List Item) (memory : Memory) → BodyNests Such body → P items → WayKeeps (loop_begins doing control body items memory)
    keeps-loop (Times amount) body items memory nests h =
        keeps-tried (doing.count amount memory) (λ n. on doing (Turn (Counted n) body ∷ items)) (λ n m. add (Turn (Counted n) body) items nests h)
    keeps-loop (Until after test) body items memory nests h = keeps-first after (Tests test) body items nests h
    keeps-loop (Varying after set step test) body items memory nests h =
        keeps-tried (doing.act set memory) (λ u. on doing (first_turn doing after (varying doing after step test) body items)) (λ u m. keeps-first after (varying doing after step test) body items nests h)

    keeps-stmt : (stmt : Stmt) (items : List Item) (memory : Memory) → StmtNests Such stmt → P items → WayKeeps (stmt_way doing stmt items memory)
    keeps-stmt (language.Do act) items memory nests h = keeps-tried (doing.act act memory) (λ u. on doing items) (λ u m. h)
    keeps-stmt (Choose picker arms) items memory nests h = keeps-tried (doing.pick picker memory) (λ k. on doing (before_arm arms k items)) (λ k m. keeps-arm arms k items nests h)
    keeps-stmt (Loop control body) items memory nests h = keeps-loop control body items memory nests h
    keeps-stmt (Perform entry exit) items memory nests h = (nests, h)
    keeps-stmt (Go to) items memory nests h = absurd nests
    keeps-stmt (GoDepending to chooser) items memory nests h = absurd nests
    keeps-stmt NextSentence items memory nests h = absurd nests
    keeps-stmt ExitParagraph items memory nests h = absurd nests
    keeps-stmt (ExitSection last) items memory nests h = absurd nests
    keeps-stmt (ExitPerform cycle) items memory nests h = absurd nests
    keeps-stmt StopRun items memory nests h = tt

    keeps-item : (item : Item) (items : List Item) (memory : Memory) → ItemNests item → P items → WayKeeps (item_way doing item items memory)
    keeps-item (Do stmt) items memory nests h = keeps-stmt stmt items memory nests h
    keeps-item SentenceEnd items memory nests h = h
    keeps-item (Turn turning body) items memory nests h = keeps-remainder turning body items memory nests h

module _ {Memory Left : Type 0} (doing : Doing Memory) (left : Memory → Left) (program : Program) (structured : IsStructuredControl program) where
  abbrev count : ℕ
  count = length program.paragraphs

  abbrev State : Type 0
  State = SourceState Memory Left

  abbrev Named : ℕ → Item → Type 0
  Named here = ItemNests doing (NamesLater count here) (λ items. Unit {0})

  abbrev AllNamed : ℕ → List Item → Type 0
  AllNamed here [] = Unit {0}
  AllNamed here (item ∷ items) = Named here item × AllNamed here items

  -- a rest of a paragraph: that of the first one ends in STOP RUN
  abbrev RestOf : ℕ → List Item → Type 0
  RestOf here items = AllNamed here items × (here ≡ 0 → StopsLast items)

  -- each paragraph but the first returns at its own end to an earlier one
  abbrev Waits : ℕ → List Pending → Type 0
  Waits here [] = here ≡ 0
  Waits here (top ∷ others) = (top.end ≡ here) × (top.paragraph < here) × RestOf top.paragraph top.rest × Waits top.paragraph others

  abbrev Ordered : State → Type 0
  Ordered state = RestOf state.paragraph state.rest × Waits state.paragraph state.pending

  abbrev Kept : State → Type 0
  Kept state = state.run.standing ≡ Going → Ordered state

  rest-add : (here : ℕ) (item : Item) (items : List Item) → Named here item → RestOf here items → RestOf here (item ∷ items)
  rest-add here item items nests h = ((nests, h.0), λ first. stops-add item items (h.1 first))

  named-before : (here : ℕ) (stmts : Stmts) (items : List Item) → StmtsNest (NamesLater count here) stmts → AllNamed here items → AllNamed here (before stmts items)
  named-before here none items nests h = h
  named-before here (also stmt stmts) items nests h = (nests.0, named-before here stmts items nests.1 h)

  -- a paragraph that is there nests
  nests-at : (first : ℕ) (paragraphs : List Paragraph) → ParagraphsNest count first paragraphs → (n : ℕ) → n < length paragraphs → ParagraphNests count (first + n) (unless_absent (slice_get paragraphs n))
  nests-at first [] nests n lt = absurd (omega (arith, lt))
  nests-at first (paragraph ∷ others) nests zero lt = let e : first + 0 ≡ first = omega arith in subst (λ m. ParagraphNests count m paragraph) (sym e) nests.0
  nests-at first (paragraph ∷ others) nests (suc n) lt =
      let e : first + suc n ≡ suc first + n = omega arith in
      subst (λ m. ParagraphNests count m (unless_absent (slice_get others n))) (sym e) (nests-at (suc first) others nests.1 n (let l : length (paragraph ∷ others) ≡ suc (length others) = refl in omega (arith, lt, l)))

  named-paragraph : (here : ℕ) (paragraph : Paragraph) → ParagraphNests count here paragraph → AllNamed here (items_of paragraph)
  named-paragraph here [] nests = absurd nests
  named-paragraph here (sentence ∷ []) nests = named-before here sentence (SentenceEnd ∷ []) nests (tt, tt)
  named-paragraph here (sentence ∷ next ∷ sentences) nests = absurd nests

  later-rest : (here : ℕ) → 0 < here → here < count → RestOf here (rest_of program here)
  later-rest here past lt =
      let e : 0 + here ≡ here = omega arith in (
        named-paragraph here (unless_absent (slice_get program.paragraphs here)) (subst (λ n. ParagraphNests count n (unless_absent (slice_get program.paragraphs here))) e (nests-at 0 program.paragraphs structured.nests here lt)),
        λ is. absurd (omega (arith, is, past)),
      )

  first-rest : (paragraphs : List Paragraph) → ParagraphsNest count 0 paragraphs → FirstStops paragraphs → RestOf 0 (items_of (unless_absent (slice_get paragraphs 0)))
  first-rest [] nests stops = absurd stops
  first-rest ([] ∷ others) nests stops = absurd stops
  first-rest ((sentence ∷ []) ∷ others) nests stops = (named-paragraph 0 (sentence ∷ []) nests.0, λ is. stops-before sentence stops)
  first-rest ((sentence ∷ next ∷ sentences) ∷ others) nests stops = absurd nests.0

  way-keeps : (here : ℕ) (item : Item) (items : List Item) (memory : Memory) → RestOf here (item ∷ items) → WayKeeps doing (NamesLater count here) (RestOf here) (item_way doing item items memory)
  way-keeps here item items memory h = by_number here refl
    where
      keeps : (StopsLast items ⊎ (here ≢ 0)) → WayKeeps doing (NamesLater count here) (RestOf here) (item_way doing item items memory)
      keeps g = keeps-item doing (NamesLater count here) (RestOf here) (rest-add here) item items memory h.0.0 (h.0.1, λ is. elim g [ inl s ↦ s | inr other ↦ absurd (other is) ])

      by_tail : ((item ≡ Do StopRun) ⊎ StopsLast items) → WayKeeps doing (NamesLater count here) (RestOf here) (item_way doing item items memory)
      by_tail (inl e) = subst (λ i. WayKeeps doing (NamesLater count here) (RestOf here) (item_way doing i items memory)) (sym e) tt
      by_tail (inr s) = keeps (inl s)

      by_number : (n : ℕ) → here ≡ n → WayKeeps doing (NamesLater count here) (RestOf here) (item_way doing item items memory)
      by_number zero is = by_tail (stops-tail item items (h.1 is))
      by_number (suc n) is = keeps (inr (λ e. absurd (omega (arith, is, e))))

  abbrev stepped : State → State
  stepped = source_step doing left program

  abbrev at : ℕ → List Item → List Pending → Memory → Trace → State
  at paragraph rest pending memory trace = record { paragraph = paragraph; rest = rest; pending = pending; memory = memory; run = record { trace = trace; standing = Going } }

  goes-kept : (here : ℕ) (rest : List Item) (pending : List Pending) (memory : Memory) (trace : Trace) (way : Way Memory) → WayKeeps doing (NamesLater count here) (RestOf here) way → Waits here pending → Kept (goes doing left program way (at here rest pending memory trace))
  goes-kept here rest pending memory trace (On shown next items) h waits = λ going. (h, waits)
  goes-kept here rest pending memory trace (Halts shown how next) h waits = λ going. absurd (cc)
  goes-kept here rest pending memory trace (Into entry exit items) h waits = by_test (ends_at exit pending)
    where
      by_test : (t : Bool) → Kept (if t then comes_to doing left program (Faulted (Reentry exit)) (at here rest pending memory trace) else at entry (rest_of program entry) (record { end = exit; paragraph = here; rest = items } ∷ pending) memory trace)
      by_test true = λ going. absurd (cc)
      by_test false = λ going. (later-rest entry (omega (arith, h.0.1)) h.0.2, (sym h.0.0, h.0.1, h.1, waits))
  goes-kept here rest pending memory trace (To shown next to) h waits = absurd h
  goes-kept here rest pending memory trace (ToEnd shown next to) h waits = absurd h

  end-kept : (here : ℕ) (pending : List Pending) (memory : Memory) (trace : Trace) → RestOf here [] → Waits here pending → Kept (end_step doing left program pending (at here [] pending memory trace))
  end-kept here [] memory trace rest waits = absurd (rest.1 waits)
  end-kept here (top ∷ others) memory trace rest waits =
      let same : (top.end == here) ≡ true = ap (λ n. n == here) waits.0 ∙ same_number here in
      subst (λ t. Kept (if t then at top.paragraph top.rest others memory trace
      else (if ends_at here others then comes_to doing left program (Faulted (Overlap here)) (at here [] (top ∷ others) memory trace) else falls doing left program (slice_get program.paragraphs (suc here)) (at here [] (top ∷ others) memory trace)))) (sym same)
      (λ going. (waits.2, waits.3))

  rest-kept : (here : ℕ) (rest : List Item) (pending : List Pending) (memory : Memory) (trace : Trace) → RestOf here rest → Waits here pending → Kept (stepped (at here rest pending memory trace))
  rest-kept here [] pending memory trace h waits = end-kept here pending memory trace h waits
  rest-kept here (item ∷ items) pending memory trace h waits =
      goes-kept here (item ∷ items) pending memory trace (item_way doing item items memory) (way-keeps here item items memory h) waits

  step-kept : (state : State) → Kept state → Kept (stepped state)
  step-kept state kept = by_standing state.run.standing refl
    where
      by_standing : (standing : Standing Left) → state.run.standing ≡ standing → Kept (stepped state)
      by_standing Going is =
          subst (λ s. Kept (stepped (record state { run = record { trace = state.run.trace; standing = s } }))) (sym is)
          (let h = kept is in rest-kept state.paragraph state.rest state.pending state.memory state.run.trace h.0 h.1)
      by_standing (Over ending) is =
          subst (λ s. Kept (stepped (record state { run = record { trace = state.run.trace; standing = s } }))) (sym is) (λ going. absurd (cc))

  all-kept : (n : ℕ) (state : State) → Kept state → Kept (iterate stepped n state)
  all-kept zero state kept = kept
  all-kept (suc n) state kept = all-kept n (stepped state) (step-kept state kept)

  begun-kept : (memory : Memory) → Kept (source_begun doing left program memory)
  begun-kept memory going = (first-rest program.paragraphs structured.nests structured.stops, refl)

  returns-there : (here : ℕ) (pending : List Pending) → RestOf here [] → Waits here pending → (top : Pending) × (others : List Pending) × (pending ≡ top ∷ others) × (top.end ≡ here)
  returns-there here [] rest waits = absurd (rest.1 waits)
  returns-there here (top ∷ others) rest waits = (top, others, refl, waits.0)

  -- at a paragraph's end control returns
  pub never-falls : (memory : Memory) (n : ℕ) → (iterate stepped n (source_begun doing left program memory)).run.standing ≡ Going → (iterate stepped n (source_begun doing left program memory)).rest ≡ [] →
      Returns (iterate stepped n (source_begun doing left program memory))
  never-falls memory n going over =
      let state = iterate stepped n (source_begun doing left program memory) in
      let kept = all-kept n (source_begun doing left program memory) (begun-kept memory) going in
      returns-there state.paragraph state.pending (subst (RestOf state.paragraph) over kept.0) kept.1
