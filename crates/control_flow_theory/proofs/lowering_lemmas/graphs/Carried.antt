-- What an item does carries over from one memory to another, and from one numbering to another.
use Rattle.std.proofs.Common.{◌≡◌, ℕ, zero, suc, Bool, true, false, List, [], ◌∷◌, refl, ap, ◌∙◌, Option, Some, None}
use Rattle.std.specs.Prelude.{slice_get}
use Rattle.control_flow_theory.specs.semantics.Outcome.{Trace, Tried, Got, Ends}
use Rattle.control_flow_theory.specs.language.Language.{Amount, Act, Test, Picker, If, By, ByCell, Control, Times, Until, Varying, Stmt, Choose, Loop, Perform, Go, GoDepending, NextSentence, ExitParagraph, ExitSection, ExitPerform, StopRun, Stmts, none, also, Arms, done, given, missing, Body, Nested, Performed}
use Rattle.control_flow_theory.specs.language.Language as language
use Rattle.control_flow_theory.specs.semantics.Doing.{Doing, keeping}
use Rattle.control_flow_theory.specs.language.Items.{Turning, Counted, Tests, Steps, StepsAfter, Item, Do, SentenceEnd, Turn, before, before_body, before_arm, past_sentence, from_loop}
use Rattle.control_flow_theory.specs.semantics.Items.{Way, On, Halts, Into, To, ToEnd, way_after, tried, on, first_turn, loop_begins, turns, tests, steps_on, turn_way, to_one, item_way}
use Rattle.control_flow_theory.specs.lowering.Renamed.{act_anew, test_anew, picker_anew, control_anew, stmt_anew, stmts_anew, arms_anew, body_anew, turning_anew, item_anew, items_anew}

-- with the memory changed
abbrev pub over_memory : {One Other : Type 0} → (One → Other) → Way One → Way Other
over_memory f (On t m items) = On t (f m) items
over_memory f (Halts t how m) = Halts t how (f m)
over_memory f (Into entry exit items) = Into entry exit items
over_memory f (To t m to) = To t (f m) to
over_memory f (ToEnd t m to) = ToEnd t (f m) to

-- with the items changed
abbrev pub over_items : {Memory : Type 0} → (List Item → List Item) → Way Memory → Way Memory
over_items f (On t m items) = On t m (f items)
over_items f (Halts t how m) = Halts t how m
over_items f (Into entry exit items) = Into entry exit (f items)
over_items f (To t m to) = To t m to
over_items f (ToEnd t m to) = ToEnd t m to

-- the parts do the same on both memories
pub record Carries {One Other : Type 0} (first : Doing One) (second : Doing Other) (f : Other → One) : Type 0 where
  pub act : (act : Act) (m : Other) → first.act act (f m) ≡ keeping f (second.act act m)
  pub test : (test : Test) (m : Other) → first.test test (f m) ≡ keeping f (second.test test m)
  pub pick : (picker : Picker) (m : Other) → first.pick picker (f m) ≡ keeping f (second.pick picker m)
  pub count : (amount : Amount) (m : Other) → first.count amount (f m) ≡ keeping f (second.count amount m)

module _ {One Other : Type 0} (first : Doing One) (second : Doing Other) (f : Other → One) (carries : Carries first second f) where
  after-carried : (t : Trace) (way : Way Other) → way_after t (over_memory f way) ≡ over_memory f (way_after t way)
  after-carried t (On s m items) = refl
  after-carried t (Halts s how m) = refl
  after-carried t (Into entry exit items) = refl
  after-carried t (To s m to) = refl
  after-carried t (ToEnd s m to) = refl

  tried-carried : {Value : Type 0} (a : Tried Other Value) (b : Tried One Value) (g : Value → One → Way One) (h : Value → Other → Way Other) → b ≡ keeping f a → ((v : Value) (m : Other) → g v (f m) ≡ over_memory f (h v m)) → tried b g ≡ over_memory f (tried a h)
  tried-carried (Got t v m) b g h e k = ap (λ x. tried x g) e ∙ ap (way_after t) (k v m) ∙ after-carried t (h v m)
  tried-carried (Ends t kind m) b g h e k = ap (λ x. tried x g) e

  tests-carried : (test : Test) (turning : Turning) (body : Body) (rest : List Item) (m : Other) → tests first test turning body rest (f m) ≡ over_memory f (tests second test turning body rest m)
  tests-carried test turning body rest m = tried-carried (second.test test m) (first.test test (f m)) (λ ended. on first (turns first ended turning body rest)) (λ ended. on second (turns second ended turning body rest)) (carries.test test m)
      (λ ended now. elim ended as (λ b. on first (turns first b turning body rest) (f now) ≡ over_memory f (on second (turns second b turning body rest) now)) [ true ↦ refl | false ↦ refl ])

  steps-carried : (ended : Bool) (step : Act) (test : Test) (body : Body) (rest : List Item) (m : Other) → steps_on first ended step test body rest (f m) ≡ over_memory f (steps_on second ended step test body rest m)
  steps-carried true step test body rest m = refl
  steps-carried false step test body rest m = tried-carried (second.act step m) (first.act step (f m)) (λ u. on first (before_body body (Turn (StepsAfter step test) body ∷ rest))) (λ u. on second (before_body body (Turn (StepsAfter step test) body ∷ rest))) (carries.act step m) (λ u now. refl)

  turn-carried : (turning : Turning) (body : Body) (rest : List Item) (m : Other) → turn_way first turning body rest (f m) ≡ over_memory f (turn_way second turning body rest m)
  turn-carried (Counted zero) body rest m = refl
  turn-carried (Counted (suc n)) body rest m = refl
  turn-carried (Tests test) body rest m = tests-carried test (Tests test) body rest m
  turn-carried (Steps false step test) body rest m = tests-carried test (Steps true step test) body rest m
  turn-carried (Steps true step test) body rest m = tried-carried (second.act step m) (first.act step (f m)) (λ u. tests first test (Steps true step test) body rest) (λ u. tests second test (Steps true step test) body rest) (carries.act step m) (λ u now. tests-carried test (Steps true step test) body rest now)
  turn-carried (StepsAfter step test) body rest m = tried-carried (second.test test m) (first.test test (f m)) (λ ended. steps_on first ended step test body rest) (λ ended. steps_on second ended step test body rest) (carries.test test m) (λ ended now. steps-carried ended step test body rest now)

  first-same : (after : Bool) (turning : Turning) (body : Body) (rest : List Item) → first_turn first after turning body rest ≡ first_turn second after turning body rest
  first-same false turning body rest = refl
  first-same true turning body rest = refl

  loop-carried : (control : Control) (body : Body) (rest : List Item) (m : Other) → loop_begins first control body rest (f m) ≡ over_memory f (loop_begins second control body rest m)
  loop-carried (Times amount) body rest m = tried-carried (second.count amount m) (first.count amount (f m)) (λ n. on first (Turn (Counted n) body ∷ rest)) (λ n. on second (Turn (Counted n) body ∷ rest)) (carries.count amount m) (λ n now. refl)
  loop-carried (Until after test) body rest m = ap (λ items. On [] (f m) items) (first-same after (Tests test) body rest)
  loop-carried (Varying false set step test) body rest m = tried-carried (second.act set m) (first.act set (f m)) (λ u. on first (Turn (Steps false step test) body ∷ rest)) (λ u. on second (Turn (Steps false step test) body ∷ rest)) (carries.act set m) (λ u now. refl)
  loop-carried (Varying true set step test) body rest m = tried-carried (second.act set m) (first.act set (f m)) (λ u. on first (before_body body (Turn (StepsAfter step test) body ∷ rest))) (λ u. on second (before_body body (Turn (StepsAfter step test) body ∷ rest))) (carries.act set m) (λ u now. refl)

  one-carried : (o : Option ℕ) (rest : List Item) (m : Other) → to_one first o rest (f m) ≡ over_memory f (to_one second o rest m)
  one-carried None rest m = refl
  one-carried (Some to) rest m = refl

  -- an item does the same on both memories
  pub item-carried : (item : Item) (rest : List Item) (m : Other) → item_way first item rest (f m) ≡ over_memory f (item_way second item rest m)
  item-carried (Do (language.Do act)) rest m = tried-carried (second.act act m) (first.act act (f m)) (λ u. on first rest) (λ u. on second rest) (carries.act act m) (λ u now. refl)
  item-carried (Do (Choose picker arms)) rest m = tried-carried (second.pick picker m) (first.pick picker (f m)) (λ k. on first (before_arm arms k rest)) (λ k. on second (before_arm arms k rest)) (carries.pick picker m) (λ k now. refl)
  item-carried (Do (Loop control body)) rest m = loop-carried control body rest m
  item-carried (Do (Perform e x)) rest m = refl
  item-carried (Do (Go to)) rest m = refl
  item-carried (Do (GoDepending to chooser)) rest m = tried-carried (second.pick (By chooser) m) (first.pick (By chooser) (f m)) (λ k. to_one first (slice_get to k) rest) (λ k. to_one second (slice_get to k) rest) (carries.pick (By chooser) m) (λ k now. one-carried (slice_get to k) rest now)
  item-carried (Do NextSentence) rest m = refl
  item-carried (Do ExitParagraph) rest m = refl
  item-carried (Do (ExitSection last)) rest m = refl
  item-carried (Do (ExitPerform cycle)) rest m = refl
  item-carried (Do StopRun) rest m = refl
  item-carried SentenceEnd rest m = refl
  item-carried (Turn turning body) rest m = turn-carried turning body rest m

module _ {Memory : Type 0} (doing : Doing Memory) (number : ℕ → ℕ) where
  -- the parts, on the cells that are numbered anew
  abbrev pub anew : Doing Memory
  anew = record {
    act = λ act. doing.act (act_anew number act);
    test = λ test. doing.test (test_anew number test);
    pick = λ picker. doing.pick (picker_anew number picker);
    count = doing.count;
  }

  abbrev new : List Item → List Item
  new items = items_anew number items

  before-anew : (ss : Stmts) (rest : List Item) → before (stmts_anew number ss) (new rest) ≡ new (before ss rest)
  before-anew none rest = refl
  before-anew (also s ss) rest = ap (λ r. Do (stmt_anew number s) ∷ r) (before-anew ss rest)

  body-before-anew : (body : Body) (rest : List Item) → before_body (body_anew number body) (new rest) ≡ new (before_body body rest)
  body-before-anew (Nested ss) rest = before-anew ss rest
  body-before-anew (Performed e x) rest = refl

  arm-before-anew : (arms : Arms) (k : ℕ) (rest : List Item) → before_arm (arms_anew number arms) k (new rest) ≡ new (before_arm arms k rest)
  arm-before-anew done k rest = refl
  arm-before-anew (given arm others) zero rest = before-anew arm rest
  arm-before-anew (given arm others) (suc k) rest = arm-before-anew others k rest
  arm-before-anew (missing others) zero rest = refl
  arm-before-anew (missing others) (suc k) rest = arm-before-anew others k rest

  past-anew : (rest : List Item) → past_sentence (new rest) ≡ new (past_sentence rest)
  past-anew [] = refl
  past-anew (Do s ∷ rest) = past-anew rest
  past-anew (SentenceEnd ∷ rest) = refl
  past-anew (Turn turning body ∷ rest) = past-anew rest

  left-anew : (cycle : Bool) (rest : List Item) → from_loop cycle (new rest) ≡ new (from_loop cycle rest)
  left-anew cycle [] = refl
  left-anew cycle (Do s ∷ rest) = left-anew cycle rest
  left-anew cycle (SentenceEnd ∷ rest) = left-anew cycle rest
  left-anew true (Turn turning body ∷ rest) = refl
  left-anew false (Turn turning body ∷ rest) = refl

  after-anew : (t : Trace) (way : Way Memory) → way_after t (over_items new way) ≡ over_items new (way_after t way)
  after-anew t (On s m items) = refl
  after-anew t (Halts s how m) = refl
  after-anew t (Into entry exit items) = refl
  after-anew t (To s m to) = refl
  after-anew t (ToEnd s m to) = refl

  tried-anew : {Value : Type 0} (a : Tried Memory Value) (g h : Value → Memory → Way Memory) → ((v : Value) (m : Memory) → g v m ≡ over_items new (h v m)) → tried a g ≡ over_items new (tried a h)
  tried-anew (Got t v m) g h k = ap (way_after t) (k v m) ∙ after-anew t (h v m)
  tried-anew (Ends t kind m) g h k = refl

  on-anew : (items others : List Item) (m : Memory) → items ≡ new others → on doing items m ≡ over_items new (on anew others m)
  on-anew items others m e = ap (λ r. On [] m r) e

  round-anew : (ended : Bool) (turning : Turning) (body : Body) (rest : List Item) (m : Memory) → on doing (turns doing ended (turning_anew number turning) (body_anew number body) (new rest)) m ≡ over_items new (on anew (turns anew ended turning body rest) m)
  round-anew true turning body rest m = refl
  round-anew false turning body rest m = on-anew (before_body (body_anew number body) (new (Turn turning body ∷ rest))) (before_body body (Turn turning body ∷ rest)) m (body-before-anew body (Turn turning body ∷ rest))

  tests-anew : (test : Test) (turning : Turning) (body : Body) (rest : List Item) (m : Memory) → tests doing (test_anew number test) (turning_anew number turning) (body_anew number body) (new rest) m ≡ over_items new (tests anew test turning body rest m)
  tests-anew test turning body rest m = tried-anew (doing.test (test_anew number test) m) (λ ended. on doing (turns doing ended (turning_anew number turning) (body_anew number body) (new rest))) (λ ended. on anew (turns anew ended turning body rest)) (λ ended now. round-anew ended turning body rest now)

  steps-anew : (ended : Bool) (step : Act) (test : Test) (body : Body) (rest : List Item) (m : Memory) → steps_on doing ended (act_anew number step) (test_anew number test) (body_anew number body) (new rest) m ≡ over_items new (steps_on anew ended step test body rest m)
  steps-anew true step test body rest m = refl
  steps-anew false step test body rest m =
      tried-anew (doing.act (act_anew number step) m) (λ u. on doing (before_body (body_anew number body) (new (Turn (StepsAfter step test) body ∷ rest)))) (λ u. on anew (before_body body (Turn (StepsAfter step test) body ∷ rest)))
      (λ u now. round-anew false (StepsAfter step test) body rest now)

  turn-anew : (turning : Turning) (body : Body) (rest : List Item) (m : Memory) → turn_way doing (turning_anew number turning) (body_anew number body) (new rest) m ≡ over_items new (turn_way anew turning body rest m)
  turn-anew (Counted zero) body rest m = refl
  turn-anew (Counted (suc n)) body rest m = round-anew false (Counted n) body rest m
  turn-anew (Tests test) body rest m = tests-anew test (Tests test) body rest m
  turn-anew (Steps false step test) body rest m = tests-anew test (Steps true step test) body rest m
  turn-anew (Steps true step test) body rest m =
      tried-anew (doing.act (act_anew number step) m) (λ u. tests doing (test_anew number test) (turning_anew number (Steps true step test)) (body_anew number body) (new rest)) (λ u. tests anew test (Steps true step test) body rest) (λ u now. tests-anew test (Steps true step test) body rest now)
  turn-anew (StepsAfter step test) body rest m =
      tried-anew (doing.test (test_anew number test) m) (λ ended. steps_on doing ended (act_anew number step) (test_anew number test) (body_anew number body) (new rest)) (λ ended. steps_on anew ended step test body rest) (λ ended now. steps-anew ended step test body rest now)

  first-anew : (after : Bool) (turning : Turning) (body : Body) (rest : List Item) (m : Memory) → on doing (first_turn doing after (turning_anew number turning) (body_anew number body) (new rest)) m ≡ over_items new (on anew (first_turn anew after turning body rest) m)
  first-anew false turning body rest m = refl
  first-anew true turning body rest m = round-anew false turning body rest m

  loop-anew : (control : Control) (body : Body) (rest : List Item) (m : Memory) → loop_begins doing (control_anew number control) (body_anew number body) (new rest) m ≡ over_items new (loop_begins anew control body rest m)
  loop-anew (Times amount) body rest m = tried-anew (doing.count amount m) (λ n. on doing (new (Turn (Counted n) body ∷ rest))) (λ n. on anew (Turn (Counted n) body ∷ rest)) (λ n now. refl)
  loop-anew (Until after test) body rest m = first-anew after (Tests test) body rest m
  loop-anew (Varying false set step test) body rest m = tried-anew (doing.act (act_anew number set) m) (λ u. on doing (new (Turn (Steps false step test) body ∷ rest))) (λ u. on anew (Turn (Steps false step test) body ∷ rest)) (λ u now. refl)
  loop-anew (Varying true set step test) body rest m =
      tried-anew (doing.act (act_anew number set) m) (λ u. on doing (before_body (body_anew number body) (new (Turn (StepsAfter step test) body ∷ rest)))) (λ u. on anew (before_body body (Turn (StepsAfter step test) body ∷ rest))) (λ u now. round-anew false (StepsAfter step test) body rest now)

  one-anew : (o : Option ℕ) (rest : List Item) (m : Memory) → to_one doing o (new rest) m ≡ over_items new (to_one anew o rest m)
  one-anew None rest m = refl
  one-anew (Some to) rest m = refl

  -- an item that is numbered anew does the same
  pub item-numbered : (item : Item) (rest : List Item) (m : Memory) → item_way doing (item_anew number item) (new rest) m ≡ over_items new (item_way anew item rest m)
  item-numbered (Do (language.Do act)) rest m = tried-anew (doing.act (act_anew number act) m) (λ u. on doing (new rest)) (λ u. on anew rest) (λ u now. refl)
  item-numbered (Do (Choose picker arms)) rest m =
      tried-anew (doing.pick (picker_anew number picker) m) (λ k. on doing (before_arm (arms_anew number arms) k (new rest))) (λ k. on anew (before_arm arms k rest)) (λ k now. on-anew (before_arm (arms_anew number arms) k (new rest)) (before_arm arms k rest) now (arm-before-anew arms k rest))
  item-numbered (Do (Loop control body)) rest m = loop-anew control body rest m
  item-numbered (Do (Perform e x)) rest m = refl
  item-numbered (Do (Go to)) rest m = refl
  item-numbered (Do (GoDepending to chooser)) rest m = tried-anew (doing.pick (By chooser) m) (λ k. to_one doing (slice_get to k) (new rest)) (λ k. to_one anew (slice_get to k) rest) (λ k now. one-anew (slice_get to k) rest now)
  item-numbered (Do NextSentence) rest m = on-anew (past_sentence (new rest)) (past_sentence rest) m (past-anew rest)
  item-numbered (Do ExitParagraph) rest m = on-anew [] [] m refl
  item-numbered (Do (ExitSection last)) rest m = refl
  item-numbered (Do (ExitPerform cycle)) rest m = on-anew (from_loop cycle (new rest)) (from_loop cycle rest) m (left-anew cycle rest)
  item-numbered (Do StopRun) rest m = refl
  item-numbered SentenceEnd rest m = refl
  item-numbered (Turn turning body) rest m = turn-anew turning body rest m
