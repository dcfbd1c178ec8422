-- What an item comes to, with more behind it, and with statements that fit.
use Rattle.std.proofs.Common.{◌≡◌, ℕ, zero, suc, Bool, true, false, List, [], ◌∷◌, ◌++◌, refl, ap, sym, ◌∙◌}
use Rattle.control_flow_theory.specs.semantics.Outcome.{Trace, Tried, Got, Ends}
use Rattle.control_flow_theory.specs.language.Language.{Act, Test, Control, Times, Until, Varying, Stmt, Choose, Loop, Perform, Go, GoDepending, NextSentence, ExitParagraph, ExitSection, ExitPerform, StopRun, Stmts, none, also, Arms, done, given, missing, Body, Nested, Performed, Range, Part}
use Rattle.control_flow_theory.specs.language.Language as language
use Rattle.control_flow_theory.specs.semantics.Doing.{Doing}
use Rattle.control_flow_theory.specs.language.Items.{Turning, Counted, Tests, Steps, StepsAfter, Item, Do, SentenceEnd, Turn, before, before_body, before_arm}
use Rattle.control_flow_theory.specs.semantics.Items.{Way, On, Halts, Into, To, ToEnd, way_after, tried, on, first_turn, varying, loop_begins, turns, tests, steps_on, turn_way, stmt_way, item_way}
use Rattle.control_flow_theory.specs.graph_rules.Fits.{ActFits, TestFits, StmtFits, StmtsFit, ArmsFit, BodyFits, ControlFits, TurningFits, ItemFits, ItemsFit, WayFits}

pub before-append : (stmts : Stmts) (items more : List Item) → before stmts items ++ more ≡ before stmts (items ++ more)
before-append none items more = refl
before-append (also stmt stmts) items more = ap (λ rest. Do stmt ∷ rest) (before-append stmts items more)

pub body-append : (body : Body) (items more : List Item) → before_body body items ++ more ≡ before_body body (items ++ more)
body-append (Nested stmts) items more = before-append stmts items more
body-append (Performed entry exit) items more = refl

pub arm-append : (arms : Arms) (k : ℕ) (items more : List Item) → before_arm arms k items ++ more ≡ before_arm arms k (items ++ more)
arm-append done k items more = refl
arm-append (given arm others) zero items more = before-append arm items more
arm-append (given arm others) (suc k) items more = arm-append others k items more
arm-append (missing others) zero items more = refl
arm-append (missing others) (suc k) items more = arm-append others k items more

-- with more items behind
abbrev pub further : {Memory : Type 0} → List Item → Way Memory → Way Memory
further more (On trace memory items) = On trace memory (items ++ more)
further more (Halts trace how memory) = Halts trace how memory
further more (Into entry exit items) = Into entry exit (items ++ more)
further more (To trace memory paragraph) = To trace memory paragraph
further more (ToEnd trace memory paragraph) = ToEnd trace memory paragraph

further-after : {Memory : Type 0} (more : List Item) (trace : Trace) (way : Way Memory) → way_after trace (further more way) ≡ further more (way_after trace way)
further-after more trace (On shown memory items) = refl
further-after more trace (Halts shown how memory) = refl
further-after more trace (Into entry exit items) = refl
further-after more trace (To shown memory paragraph) = refl
further-after more trace (ToEnd shown memory paragraph) = refl

further-tried : {Memory Value : Type 0} (more : List Item) (value : Tried Memory Value) (one two : Value → Memory → Way Memory) → ((v : Value) (m : Memory) → two v m ≡ further more (one v m)) → tried value two ≡ further more (tried value one)
further-tried more (Got trace v m) one two is = ap (way_after trace) (is v m) ∙ further-after more trace (one v m)
further-tried more (Ends trace kind m) one two is = refl

module _ {Memory : Type 0} (doing : Doing Memory) (more : List Item) where
  on-further : (one two : List Item) (memory : Memory) → one ++ more ≡ two → on doing two memory ≡ further more (on doing one memory)
  on-further one two memory is = ap (λ items. On [] memory items) (sym is)

  first-append : (after : Bool) (turning : Turning) (body : Body) (rest : List Item) → first_turn doing after turning body rest ++ more ≡ first_turn doing after turning body (rest ++ more)
  first-append false turning body rest = refl
  first-append true turning body rest = body-append body (Turn turning body ∷ rest) more

  turns-append : (ended : Bool) (turning : Turning) (body : Body) (rest : List Item) → turns doing ended turning body rest ++ more ≡ turns doing ended turning body (rest ++ more)
  turns-append true turning body rest = refl
  turns-append false turning body rest = body-append body (Turn turning body ∷ rest) more

  loop-further : (control : Control) (body : Body) (rest : List Item) (memory : Memory) → loop_begins doing control body (rest ++ more) memory ≡ further more (loop_begins doing control body rest memory)
  loop-further (Times amount) body rest memory =
      further-tried more (doing.count amount memory) (λ n. on doing (Turn (Counted n) body ∷ rest)) (λ n. on doing (Turn (Counted n) body ∷ (rest ++ more))) (λ n m. refl)
  loop-further (Until after test) body rest memory = on-further (first_turn doing after (Tests test) body rest) (first_turn doing after (Tests test) body (rest ++ more)) memory (first-append after (Tests test) body rest)
  loop-further (Varying after set step test) body rest memory =
      further-tried more (doing.act set memory) (λ u. on doing (first_turn doing after (varying doing after step test) body rest)) (λ u. on doing (first_turn doing after (varying doing after step test) body (rest ++ more)))
      (λ u m. on-further (first_turn doing after (varying doing after step test) body rest) (first_turn doing after (varying doing after step test) body (rest ++ more)) m (first-append after (varying doing after step test) body rest))

  tests-further : (test : Test) (turning : Turning) (body : Body) (rest : List Item) (memory : Memory) → tests doing test turning body (rest ++ more) memory ≡ further more (tests doing test turning body rest memory)
  tests-further test turning body rest memory =
      further-tried more (doing.test test memory) (λ ended. on doing (turns doing ended turning body rest)) (λ ended. on doing (turns doing ended turning body (rest ++ more)))
      (λ ended m. on-further (turns doing ended turning body rest) (turns doing ended turning body (rest ++ more)) m (turns-append ended turning body rest))

  steps-further : (ended : Bool) (step : Act) (test : Test) (body : Body) (rest : List Item) (memory : Memory) → steps_on doing ended step test body (rest ++ more) memory ≡ further more (steps_on doing ended step test body rest memory)
  steps-further true step test body rest memory = refl
  steps-further false step test body rest memory =
      further-tried more (doing.act step memory) (λ u. on doing (before_body body (Turn (StepsAfter step test) body ∷ rest))) (λ u. on doing (before_body body (Turn (StepsAfter step test) body ∷ (rest ++ more))))
      (λ u m. on-further (before_body body (Turn (StepsAfter step test) body ∷ rest)) (before_body body (Turn (StepsAfter step test) body ∷ (rest ++ more))) m (body-append body (Turn (StepsAfter step test) body ∷ rest) more))

  turn-further : (turning : Turning) (body : Body) (rest : List Item) (memory : Memory) → turn_way doing turning body (rest ++ more) memory ≡ further more (turn_way doing turning body rest memory)
  turn-further (Counted zero) body rest memory = refl
  turn-further (Counted (suc n)) body rest memory = on-further (before_body body (Turn (Counted n) body ∷ rest)) (before_body body (Turn (Counted n) body ∷ (rest ++ more))) memory (body-append body (Turn (Counted n) body ∷ rest) more)
  turn-further (Tests test) body rest memory = tests-further test (Tests test) body rest memory
  turn-further (Steps false step test) body rest memory = tests-further test (Steps true step test) body rest memory
  turn-further (Steps true step test) body rest memory =
      further-tried more (doing.act step memory) (λ u. tests doing test (Steps true step test) body rest) (λ u. tests doing test (Steps true step test) body (rest ++ more)) (λ u m. tests-further test (Steps true step test) body rest m)
  turn-further (StepsAfter step test) body rest memory =
      further-tried more (doing.test test memory) (λ ended. steps_on doing ended step test body rest) (λ ended. steps_on doing ended step test body (rest ++ more)) (λ ended m. steps-further ended step test body rest m)

  module _ (Calls : Range → Type 0) (Reads Writes : ℕ → Type 0) where
    stmt-further : (stmt : Stmt) (rest : List Item) (memory : Memory) → StmtFits Calls Reads Writes stmt → stmt_way doing stmt (rest ++ more) memory ≡ further more (stmt_way doing stmt rest memory)
    stmt-further (language.Do act) rest memory fits = further-tried more (doing.act act memory) (λ u. on doing rest) (λ u. on doing (rest ++ more)) (λ u m. refl)
    stmt-further (Choose picker arms) rest memory fits =
        further-tried more (doing.pick picker memory) (λ k. on doing (before_arm arms k rest)) (λ k. on doing (before_arm arms k (rest ++ more))) (λ k m. on-further (before_arm arms k rest) (before_arm arms k (rest ++ more)) m (arm-append arms k rest more))
    stmt-further (Loop control body) rest memory fits = loop-further control body rest memory
    stmt-further (Perform entry exit) rest memory fits = refl
    stmt-further (Go to) rest memory fits = absurd fits
    stmt-further (GoDepending to chooser) rest memory fits = absurd fits
    stmt-further NextSentence rest memory fits = absurd fits
    stmt-further ExitParagraph rest memory fits = absurd fits
    stmt-further (ExitSection last) rest memory fits = absurd fits
    stmt-further (ExitPerform cycle) rest memory fits = absurd fits
    stmt-further StopRun rest memory fits = refl

    -- what an item does with more items behind it
    pub item-further : (item : Item) (rest : List Item) (memory : Memory) → ItemFits Calls Reads Writes item → item_way doing item (rest ++ more) memory ≡ further more (item_way doing item rest memory)
    item-further (Do stmt) rest memory fits = stmt-further stmt rest memory fits
    item-further SentenceEnd rest memory fits = refl
    item-further (Turn turning body) rest memory fits = turn-further turning body rest memory

module _ (Calls : Range → Type 0) (Reads Writes : ℕ → Type 0) where
  abbrev Fit : List Item → Type 0
  Fit = ItemsFit Calls Reads Writes

  abbrev StmtFit : Stmt → Type 0
  StmtFit = StmtFits Calls Reads Writes

  abbrev BodyFit : Body → Type 0
  BodyFit = BodyFits Calls Reads Writes

  pub before-fits : (stmts : Stmts) (rest : List Item) → StmtsFit Calls Reads Writes stmts → Fit rest → Fit (before stmts rest)
  before-fits none rest h k = k
  before-fits (also stmt stmts) rest h k = (h.0, before-fits stmts rest h.1 k)

  pub body-fits : (body : Body) (rest : List Item) → BodyFit body → Fit rest → Fit (before_body body rest)
  body-fits (Nested stmts) rest h k = before-fits stmts rest h k
  body-fits (Performed entry exit) rest h k = (h, k)

  pub arm-fits : (arms : Arms) (k : ℕ) (rest : List Item) → ArmsFit Calls Reads Writes arms → Fit rest → Fit (before_arm arms k rest)
  arm-fits done k rest h f = f
  arm-fits (given arm others) zero rest h f = before-fits arm rest h.0 f
  arm-fits (given arm others) (suc k) rest h f = arm-fits others k rest h.1 f
  arm-fits (missing others) zero rest h f = f
  arm-fits (missing others) (suc k) rest h f = arm-fits others k rest h f

  pub fits-append : (items more : List Item) → Fit items → Fit more → Fit (items ++ more)
  fits-append [] more h k = k
  fits-append (item ∷ items) more h k = (h.0, fits-append items more h.1 k)

  module _ {Memory : Type 0} (doing : Doing Memory) where
    abbrev FitWay : Way Memory → Type 0
    FitWay = WayFits Calls Reads Writes

    after-fits : (trace : Trace) (way : Way Memory) → FitWay way → FitWay (way_after trace way)
    after-fits trace (On shown memory items) h = h
    after-fits trace (Halts shown how memory) h = h
    after-fits trace (Into entry exit items) h = h
    after-fits trace (To shown memory paragraph) h = h
    after-fits trace (ToEnd shown memory paragraph) h = h

    tried-fits : {Value : Type 0} (value : Tried Memory Value) (goes : Value → Memory → Way Memory) → ((v : Value) (m : Memory) → FitWay (goes v m)) → FitWay (tried value goes)
    tried-fits (Got trace v m) goes h = after-fits trace (goes v m) (h v m)
    tried-fits (Ends trace kind m) goes h = tt

    first-fits : (after : Bool) (turning : Turning) (body : Body) (rest : List Item) → TurningFits Calls Reads Writes turning → BodyFit body → Fit rest → Fit (first_turn doing after turning body rest)
    first-fits false turning body rest t b r = ((t, b), r)
    first-fits true turning body rest t b r = body-fits body (Turn turning body ∷ rest) b ((t, b), r)

    turns-fits : (ended : Bool) (turning : Turning) (body : Body) (rest : List Item) → TurningFits Calls Reads Writes turning → BodyFit body → Fit rest → Fit (turns doing ended turning body rest)
    turns-fits true turning body rest t b r = r
    turns-fits false turning body rest t b r = body-fits body (Turn turning body ∷ rest) b ((t, b), r)

    varying-fits : (after : Bool) (step : Act) (test : Test) → ActFits Calls Reads Writes step → TestFits Calls Reads Writes test → TurningFits Calls Reads Writes (varying doing after step test)
    varying-fits false step test s t = (s, t)
    varying-fits true step test s t = (s, t)

    loop-fits : (control : Control) (body : Body) (rest : List Item) (memory : Memory) → ControlFits Calls Reads Writes control → BodyFit body → Fit rest → FitWay (loop_begins doing control body rest memory)
    loop-fits (Times amount) body rest memory c b r = tried-fits (doing.count amount memory) (λ n. on doing (Turn (Counted n) body ∷ rest)) (λ n m. ((tt, b), r))
    loop-fits (Until after test) body rest memory c b r = first-fits after (Tests test) body rest c b r
    loop-fits (Varying after set step test) body rest memory c b r =
        tried-fits (doing.act set memory) (λ u. on doing (first_turn doing after (varying doing after step test) body rest)) (λ u m. first-fits after (varying doing after step test) body rest (varying-fits after step test c.1 c.2) b r)

    tests-fits : (test : Test) (turning : Turning) (body : Body) (rest : List Item) (memory : Memory) → TurningFits Calls Reads Writes turning → BodyFit body → Fit rest → FitWay (tests doing test turning body rest memory)
    tests-fits test turning body rest memory t b r = tried-fits (doing.test test memory) (λ ended. on doing (turns doing ended turning body rest)) (λ ended m. turns-fits ended turning body rest t b r)

    steps-fits : (ended : Bool) (step : Act) (test : Test) (body : Body) (rest : List Item) (memory : Memory) → TurningFits Calls Reads Writes (StepsAfter step test) → BodyFit body → Fit rest → FitWay (steps_on doing ended step test body rest memory)
    steps-fits true step test body rest memory t b r = r
    steps-fits false step test body rest memory t b r =
        tried-fits (doing.act step memory) (λ u. on doing (before_body body (Turn (StepsAfter step test) body ∷ rest))) (λ u m. body-fits body (Turn (StepsAfter step test) body ∷ rest) b ((t, b), r))

    turn-fits : (turning : Turning) (body : Body) (rest : List Item) (memory : Memory) → TurningFits Calls Reads Writes turning → BodyFit body → Fit rest → FitWay (turn_way doing turning body rest memory)
    turn-fits (Counted zero) body rest memory t b r = r
    turn-fits (Counted (suc n)) body rest memory t b r = body-fits body (Turn (Counted n) body ∷ rest) b ((tt, b), r)
    turn-fits (Tests test) body rest memory t b r = tests-fits test (Tests test) body rest memory t b r
    turn-fits (Steps false step test) body rest memory t b r = tests-fits test (Steps true step test) body rest memory t b r
    turn-fits (Steps true step test) body rest memory t b r =
        tried-fits (doing.act step memory) (λ u. tests doing test (Steps true step test) body rest) (λ u m. tests-fits test (Steps true step test) body rest m t b r)
    turn-fits (StepsAfter step test) body rest memory t b r =
        tried-fits (doing.test test memory) (λ ended. steps_on doing ended step test body rest) (λ ended m. steps-fits ended step test body rest m t b r)

    stmt-fits : (stmt : Stmt) (rest : List Item) (memory : Memory) → StmtFit stmt → Fit rest → FitWay (stmt_way doing stmt rest memory)
    stmt-fits (language.Do act) rest memory s r = tried-fits (doing.act act memory) (λ u. on doing rest) (λ u m. r)
    stmt-fits (Choose picker arms) rest memory s r = tried-fits (doing.pick picker memory) (λ k. on doing (before_arm arms k rest)) (λ k m. arm-fits arms k rest s.1 r)
    stmt-fits (Loop control body) rest memory s r = loop-fits control body rest memory s.0 s.1 r
    stmt-fits (Perform entry exit) rest memory s r = (s, r)
    stmt-fits (Go to) rest memory s r = absurd s
    stmt-fits (GoDepending to chooser) rest memory s r = absurd s
    stmt-fits NextSentence rest memory s r = absurd s
    stmt-fits ExitParagraph rest memory s r = absurd s
    stmt-fits (ExitSection last) rest memory s r = absurd s
    stmt-fits (ExitPerform cycle) rest memory s r = absurd s
    stmt-fits StopRun rest memory s r = tt

    -- what an item that fits comes to
    pub item-fits : (item : Item) (rest : List Item) (memory : Memory) → ItemFits Calls Reads Writes item → Fit rest → FitWay (item_way doing item rest memory)
    item-fits (Do stmt) rest memory s r = stmt-fits stmt rest memory s r
    item-fits SentenceEnd rest memory s r = absurd s
    item-fits (Turn turning body) rest memory s r = turn-fits turning body rest memory s.0 s.1 r
