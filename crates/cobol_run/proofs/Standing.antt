-- What holds of each part that stands in a program holds of what is still to do, at each step.
use Rattle.std.proofs.Common.{◌≡◌, ℕ, zero, suc, Bool, true, false, ◌==◌, List, [], ◌∷◌, Option, Some, None, slice_get, refl}
use Rattle.control_flow_theory.specs.runs.Run.{Going, Over}
use Rattle.control_flow_theory.specs.runs.Machine.{iterate}
use Rattle.control_flow_theory.specs.semantics.Outcome.{Trace, Tried, Got, Ends}
use Rattle.control_flow_theory.specs.semantics.Outcome as outcome
use Rattle.control_flow_theory.specs.language.Language.{Act, Test, Picker, By, Control, Times, Until, Varying, Stmt, Do, Choose, Loop, Perform, Go, GoDepending, NextSentence, ExitParagraph, ExitSection, ExitPerform, StopRun, Stmts, none, also, Arms, done, given, missing, Body, Nested, Performed, Paragraph, Program, unless_absent}
use Rattle.control_flow_theory.specs.language.Items.{Turning, Counted, Tests, Steps, StepsAfter, Item, SentenceEnd, Turn, Pending, before, before_arm, before_body, ends_at, from_loop, items_of, past_sentence}
use Rattle.control_flow_theory.specs.language.Items as items
use Rattle.control_flow_theory.specs.semantics.Doing.{Doing}
use Rattle.control_flow_theory.specs.semantics.Items.{Way, On, Halts, Into, To, ToEnd, way_after, tried, first_turn, varying, loop_begins, turns, tests, steps_on, turn_way, to_one, stmt_way, item_way, on}
use Rattle.control_flow_theory.specs.semantics.Source.{SourceState, goes_to, performs, goes, falls, end_step, rest_step, step_by, source_step, source_begun}
use Rattle.cobol_run.specs.Standing as standing

module _ (ActHas : Act → Type 0) (TestHas : Test → Type 0) (PickerHas : Picker → Type 0) where
  abbrev StmtsHave : Stmts → Type 0
  StmtsHave = standing.StmtsHave ActHas TestHas PickerHas

  abbrev ArmsHave : Arms → Type 0
  ArmsHave = standing.ArmsHave ActHas TestHas PickerHas

  abbrev BodyHas : Body → Type 0
  BodyHas = standing.BodyHas ActHas TestHas PickerHas

  abbrev StmtHas : Stmt → Type 0
  StmtHas = standing.StmtHas ActHas TestHas PickerHas

  abbrev ItemsHave : List Item → Type 0
  ItemsHave = standing.ItemsHave ActHas TestHas PickerHas

  abbrev TurningHas : Turning → Type 0
  TurningHas = standing.TurningHas ActHas TestHas PickerHas

  before-has : (stmts : Stmts) (rest : List Item) → StmtsHave stmts → ItemsHave rest → ItemsHave (before stmts rest)
  before-has none rest h r = r
  before-has (also stmt stmts) rest h r = (h.0, before-has stmts rest h.1 r)

  body-has : (body : Body) (rest : List Item) → BodyHas body → ItemsHave rest → ItemsHave (before_body body rest)
  body-has (Nested stmts) rest h r = before-has stmts rest h r
  body-has (Performed entry exit) rest h r = (tt, r)

  arm-has : (arms : Arms) (k : ℕ) (rest : List Item) → ArmsHave arms → ItemsHave rest → ItemsHave (before_arm arms k rest)
  arm-has done k rest h r = r
  arm-has (given arm others) zero rest h r = before-has arm rest h.0 r
  arm-has (given arm others) (suc k) rest h r = arm-has others k rest h.1 r
  arm-has (missing others) zero rest h r = r
  arm-has (missing others) (suc k) rest h r = arm-has others k rest h r

  past-has : (rest : List Item) → ItemsHave rest → ItemsHave (past_sentence rest)
  past-has [] r = tt
  past-has (items.Do stmt ∷ rest) r = past-has rest r.1
  past-has (SentenceEnd ∷ rest) r = r.1
  past-has (Turn turning body ∷ rest) r = past-has rest r.1

  loop-has : (cycle : Bool) (rest : List Item) → ItemsHave rest → ItemsHave (from_loop cycle rest)
  loop-has cycle [] r = tt
  loop-has cycle (items.Do stmt ∷ rest) r = loop-has cycle rest r.1
  loop-has cycle (SentenceEnd ∷ rest) r = loop-has cycle rest r.1
  loop-has true (Turn turning body ∷ rest) r = r
  loop-has false (Turn turning body ∷ rest) r = r.1

  items-have : (paragraph : Paragraph) → standing.ParagraphHas ActHas TestHas PickerHas paragraph → ItemsHave (items_of paragraph)
  items-have [] h = tt
  items-have (sentence ∷ sentences) h = before-has sentence (SentenceEnd ∷ items_of sentences) h.0 (tt, items-have sentences h.1)

  paragraph-has : (paragraphs : List Paragraph) (number : ℕ) → standing.ParagraphsHave ActHas TestHas PickerHas paragraphs → ItemsHave (items_of (unless_absent (slice_get paragraphs number)))
  paragraph-has [] number h = tt
  paragraph-has (paragraph ∷ others) zero h = items-have paragraph h.0
  paragraph-has (paragraph ∷ others) (suc number) h = paragraph-has others number h.1

  module _ {Memory Left : Type 0} (doing : Doing Memory) (left : Memory → Left) (program : Program) (all : standing.ParagraphsHave ActHas TestHas PickerHas program.paragraphs) where
    abbrev State : Type 0
    State = SourceState Memory Left

    abbrev StateHas : State → Type 0
    StateHas = standing.StateHas ActHas TestHas PickerHas

    abbrev WayHas : Way Memory → Type 0
    WayHas (On trace memory rest) = ItemsHave rest
    WayHas (Halts trace how memory) = Unit {0}
    WayHas (Into entry exit rest) = ItemsHave rest
    WayHas (To trace memory paragraph) = Unit {0}
    WayHas (ToEnd trace memory paragraph) = Unit {0}

    after-has : (trace : Trace) (way : Way Memory) → WayHas way → WayHas (way_after trace way)
    after-has trace (On shown memory rest) h = h
    after-has trace (Halts shown how memory) h = h
    after-has trace (Into entry exit rest) h = h
    after-has trace (To shown memory paragraph) h = h
    after-has trace (ToEnd shown memory paragraph) h = h

    tried-has : {Value : Type 0} (got : Tried Memory Value) (goes : Value → Memory → Way Memory) → ((value : Value) (memory : Memory) → WayHas (goes value memory)) → WayHas (tried got goes)
    tried-has (Got trace value memory) goes h = after-has trace (goes value memory) (h value memory)
    tried-has (Ends trace kind memory) goes h = tt

    first-has : (after : Bool) (turning : Turning) (body : Body) (rest : List Item) → TurningHas turning → BodyHas body → ItemsHave rest → ItemsHave (first_turn doing after turning body rest)
    first-has false turning body rest t b r = ((t, b), r)
    first-has true turning body rest t b r = body-has body (Turn turning body ∷ rest) b ((t, b), r)

    varying-has : (after : Bool) (step : Act) (test : Test) → ActHas step → TestHas test → TurningHas (varying doing after step test)
    varying-has false step test s t = (s, t)
    varying-has true step test s t = (s, t)

    begins-has : (control : Control) (body : Body) (rest : List Item) (memory : Memory) → standing.ControlHas ActHas TestHas PickerHas control → BodyHas body → ItemsHave rest → WayHas (loop_begins doing control body rest memory)
    begins-has (Times amount) body rest memory c b r = tried-has (doing.count amount memory) (λ turns. on doing (Turn (Counted turns) body ∷ rest)) (λ n m. ((tt, b), r))
    begins-has (Until after test) body rest memory c b r = first-has after (Tests test) body rest c b r
    begins-has (Varying after set step test) body rest memory c b r =
        tried-has (doing.act set memory) (λ u. on doing (first_turn doing after (varying doing after step test) body rest)) (λ n m. first-has after (varying doing after step test) body rest (varying-has after step test c.1 c.2) b r)

    turns-has : (ended : Bool) (turning : Turning) (body : Body) (rest : List Item) → TurningHas turning → BodyHas body → ItemsHave rest → ItemsHave (turns doing ended turning body rest)
    turns-has true turning body rest t b r = r
    turns-has false turning body rest t b r = body-has body (Turn turning body ∷ rest) b ((t, b), r)

    tests-has : (test : Test) (turning : Turning) (body : Body) (rest : List Item) (memory : Memory) → TurningHas turning → BodyHas body → ItemsHave rest → WayHas (tests doing test turning body rest memory)
    tests-has test turning body rest memory t b r =
        tried-has (doing.test test memory) (λ ended. on doing (turns doing ended turning body rest)) (λ ended m. turns-has ended turning body rest t b r)

    steps-has : (ended : Bool) (step : Act) (test : Test) (body : Body) (rest : List Item) (memory : Memory) → ActHas step → TestHas test → BodyHas body → ItemsHave rest → WayHas (steps_on doing ended step test body rest memory)
    steps-has true step test body rest memory s t b r = r
    steps-has false step test body rest memory s t b r =
        tried-has (doing.act step memory) (λ u. on doing (before_body body (Turn (StepsAfter step test) body ∷ rest))) (λ u m. body-has body (Turn (StepsAfter step test) body ∷ rest) b (((s, t), b), r))

    turn-has : (turning : Turning) (body : Body) (rest : List Item) (memory : Memory) → TurningHas turning → BodyHas body → ItemsHave rest → WayHas (turn_way doing turning body rest memory)
    turn-has (Counted zero) body rest memory t b r = r
    turn-has (Counted (suc n)) body rest memory t b r = body-has body (Turn (Counted n) body ∷ rest) b ((tt, b), r)
    turn-has (Tests test) body rest memory t b r = tests-has test (Tests test) body rest memory t b r
    turn-has (Steps false step test) body rest memory t b r = tests-has test (Steps true step test) body rest memory t b r
    turn-has (Steps true step test) body rest memory t b r =
        tried-has (doing.act step memory) (λ u. tests doing test (Steps true step test) body rest) (λ u m. tests-has test (Steps true step test) body rest m t b r)
    turn-has (StepsAfter step test) body rest memory t b r =
        tried-has (doing.test test memory) (λ ended. steps_on doing ended step test body rest) (λ ended m. steps-has ended step test body rest m t.0 t.1 b r)

    one-has : (to : Option ℕ) (rest : List Item) (memory : Memory) → ItemsHave rest → WayHas (to_one doing to rest memory)
    one-has None rest memory r = r
    one-has (Some paragraph) rest memory r = tt

    stmt-has : (stmt : Stmt) (rest : List Item) (memory : Memory) → StmtHas stmt → ItemsHave rest → WayHas (stmt_way doing stmt rest memory)
    stmt-has (Do act) rest memory h r = tried-has (doing.act act memory) (λ u. on doing rest) (λ u m. r)
    stmt-has (Choose picker arms) rest memory h r = tried-has (doing.pick picker memory) (λ k. on doing (before_arm arms k rest)) (λ k m. arm-has arms k rest h.1 r)
    stmt-has (Loop control body) rest memory h r = begins-has control body rest memory h.0 h.1 r
    stmt-has (Perform entry exit) rest memory h r = r
    stmt-has (Go to) rest memory h r = tt
    stmt-has (GoDepending to chooser) rest memory h r = tried-has (doing.pick (By chooser) memory) (λ k. to_one doing (slice_get to k) rest) (λ k m. one-has (slice_get to k) rest m r)
    stmt-has NextSentence rest memory h r = past-has rest r
    stmt-has ExitParagraph rest memory h r = tt
    stmt-has (ExitSection last) rest memory h r = tt
    stmt-has (ExitPerform cycle) rest memory h r = loop-has cycle rest r
    stmt-has StopRun rest memory h r = tt

    item-has : (item : Item) (rest : List Item) (memory : Memory) → standing.ItemHas ActHas TestHas PickerHas item → ItemsHave rest → WayHas (item_way doing item rest memory)
    item-has (items.Do stmt) rest memory h r = stmt-has stmt rest memory h r
    item-has SentenceEnd rest memory h r = r
    item-has (Turn turning body) rest memory h r = turn-has turning body rest memory h.0 h.1 r

    goes-to-has : (number : ℕ) (state : State) → StateHas state → StateHas (goes_to doing left program number state)
    goes-to-has number state h = (paragraph-has program.paragraphs number all, h.1)

    performs-has : (entry exit : ℕ) (rest : List Item) (state : State) (met : Bool) → ends_at exit state.pending ≡ met → StateHas state → ItemsHave rest → StateHas (performs doing left program entry exit rest state)
    performs-has entry exit rest state true e h r = rw e h
    performs-has entry exit rest state false e h r = rw e (paragraph-has program.paragraphs entry all, (r, h.1))

    goes-has : (way : Way Memory) (state : State) → WayHas way → StateHas state → StateHas (goes doing left program way state)
    goes-has (On trace memory rest) state w h = (w, h.1)
    goes-has (Halts trace how memory) state w h = h
    goes-has (Into entry exit rest) state w h = performs-has entry exit rest state (ends_at exit state.pending) refl h w
    goes-has (To trace memory number) state w h = (paragraph-has program.paragraphs number all, h.1)
    goes-has (ToEnd trace memory number) state w h = (tt, h.1)

    falls-has : (next : Option Paragraph) (state : State) → StateHas state → StateHas (falls doing left program next state)
    falls-has None state h = h
    falls-has (Some next) state h = (paragraph-has program.paragraphs (suc state.paragraph) all, h.1)

    returns-has : (top : Pending) (others : List Pending) (state : State) (here deeper : Bool) → (top.end == state.paragraph) ≡ here → ends_at state.paragraph others ≡ deeper → StateHas state → ItemsHave top.rest → standing.PendingHave ActHas TestHas PickerHas others → StateHas (end_step doing left program (top ∷ others) state)
    returns-has top others state true deeper e f h r p = rw e (r, p)
    returns-has top others state false true e f h r p = rw (e, f) h
    returns-has top others state false false e f h r p = rw (e, f) (falls-has (slice_get program.paragraphs (suc state.paragraph)) state h)

    end-has : (pending : List Pending) (state : State) → StateHas state → standing.PendingHave ActHas TestHas PickerHas pending → StateHas (end_step doing left program pending state)
    end-has [] state h p = falls-has (slice_get program.paragraphs (suc state.paragraph)) state h
    end-has (top ∷ others) state h p = returns-has top others state (top.end == state.paragraph) (ends_at state.paragraph others) refl refl h p.0 p.1

    rest-has : (rest : List Item) (state : State) → StateHas state → ItemsHave rest → StateHas (rest_step doing left program rest state)
    rest-has [] state h r = end-has state.pending state h h.1
    rest-has (item ∷ rest) state h r = goes-has (item_way doing item rest state.memory) state (item-has item rest state.memory r.0 r.1) h

    standing-has : (now : outcome.Standing Left) (state : State) → StateHas state → StateHas (step_by doing left program now state)
    standing-has Going state h = rest-has state.rest state h h.0
    standing-has (Over ending) state h = h

    pub step-has : (state : State) → StateHas state → StateHas (source_step doing left program state)
    step-has state h = standing-has state.run.standing state h

    pub iterate-has : (n : ℕ) (state : State) → StateHas state → StateHas (iterate (source_step doing left program) n state)
    iterate-has zero state h = h
    iterate-has (suc n) state h = iterate-has n (source_step doing left program state) (step-has state h)

    pub begun-has : (memory : Memory) → StateHas (source_begun doing left program memory)
    begun-has memory = (paragraph-has program.paragraphs 0 all, tt)
