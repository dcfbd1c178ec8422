-- The PERFORMs that take no unit, since they are the bodies of loops: each was paid by its turn.
use Rattle.std.proofs.Common.{◌≡◌, ℕ, zero, suc, ◌+◌, ◌≤◌, Bool, true, false, List, [], ◌∷◌, Option, Some, None, slice_get, refl, arith}
use Rattle.control_flow_theory.specs.semantics.Outcome.{Trace, Tried, Got, Ends}
use Rattle.control_flow_theory.specs.language.Language.{Act, Test, By, Control, Times, Until, Varying, Stmt, Choose, Loop, Perform, Go, GoDepending, NextSentence, ExitParagraph, ExitSection, ExitPerform, StopRun, Stmts, none, also, Arms, done, given, missing, Body, Nested, Performed, Range, Part}
use Rattle.control_flow_theory.specs.language.Language as language
use Rattle.control_flow_theory.specs.semantics.Doing.{Doing}
use Rattle.control_flow_theory.specs.language.Items.{Turning, Counted, Tests, Steps, StepsAfter, Item, Do, SentenceEnd, Turn, before, before_body, before_arm}
use Rattle.control_flow_theory.specs.semantics.Items.{Way, On, Halts, Into, To, ToEnd, way_after, tried, on, first_turn, varying, loop_begins, turns, tests, steps_on, turn_way, to_one, stmt_way, item_way}
use Rattle.control_flow_theory.specs.graph_rules.Fits.{StmtFits, ItemFits}
use Rattle.control_flow_theory.specs.graph_rules.Costs.{tried_cost, round_cost, turn_cost, loop_cost, perform_cost, stmt_cost, item_cost}

-- 1 where what is left of a loop over a range is next
abbrev pub next_free : List Item → ℕ
next_free [] = 0
next_free (Do stmt ∷ rest) = 0
next_free (SentenceEnd ∷ rest) = 0
next_free (Turn turning (Nested stmts) ∷ rest) = 0
next_free (Turn turning (Performed entry exit) ∷ rest) = 1

abbrev pub stmt_free : Stmt → List Item → ℕ
stmt_free (Perform entry exit) rest = next_free rest
stmt_free (language.Do act) rest = 0
stmt_free (Choose picker arms) rest = 0
stmt_free (Loop control body) rest = 0
stmt_free (Go to) rest = 0
stmt_free (GoDepending to chooser) rest = 0
stmt_free NextSentence rest = 0
stmt_free ExitParagraph rest = 0
stmt_free (ExitSection last) rest = 0
stmt_free (ExitPerform cycle) rest = 0
stmt_free StopRun rest = 0

abbrev pub item_free : Item → List Item → ℕ
item_free (Do stmt) rest = stmt_free stmt rest
item_free SentenceEnd rest = 0
item_free (Turn turning body) rest = 0

abbrev pub frees : List Item → ℕ
frees [] = 0
frees (item ∷ rest) = item_free item rest + frees rest

next-most : (rest : List Item) → next_free rest ≤ 1
next-most [] = omega arith
next-most (Do stmt ∷ rest) = omega arith
next-most (SentenceEnd ∷ rest) = omega arith
next-most (Turn turning (Nested stmts) ∷ rest) = omega arith
next-most (Turn turning (Performed entry exit) ∷ rest) = omega arith

stmt-most : (stmt : Stmt) (rest : List Item) → stmt_free stmt rest ≤ next_free rest
stmt-most (Perform entry exit) rest = omega arith
stmt-most (language.Do act) rest = omega arith
stmt-most (Choose picker arms) rest = omega arith
stmt-most (Loop control body) rest = omega arith
stmt-most (Go to) rest = omega arith
stmt-most (GoDepending to chooser) rest = omega arith
stmt-most NextSentence rest = omega arith
stmt-most ExitParagraph rest = omega arith
stmt-most (ExitSection last) rest = omega arith
stmt-most (ExitPerform cycle) rest = omega arith
stmt-most StopRun rest = omega arith

-- statements are freed by what stands behind them alone
pub frees-before : (stmts : Stmts) (rest : List Item) → frees (before stmts rest) ≤ frees rest + next_free rest
frees-before none rest = omega arith
frees-before (also stmt none) rest = let e = stmt-most stmt rest in omega (arith, e)
frees-before (also stmt (also next stmts)) rest = let e = stmt-most stmt (before (also next stmts) rest) in let f = frees-before (also next stmts) rest in omega (arith, e, f)

pub frees-root : (stmts : Stmts) → frees (before stmts []) ≡ 0
frees-root stmts = let e = frees-before stmts [] in omega (arith, e)

frees-body : (body : Body) (turning : Turning) (rest : List Item) → frees (before_body body (Turn turning body ∷ rest)) ≤ frees rest + 1
frees-body (Nested stmts) turning rest = let e = frees-before stmts (Turn turning (Nested stmts) ∷ rest) in omega (arith, e)
frees-body (Performed entry exit) turning rest = omega arith

frees-arm : (arms : Arms) (k : ℕ) (rest : List Item) → frees (before_arm arms k rest) ≤ frees rest + 1
frees-arm done k rest = omega arith
frees-arm (given arm others) zero rest = let e = frees-before arm rest in let f = next-most rest in omega (arith, e, f)
frees-arm (given arm others) (suc k) rest = frees-arm others k rest
frees-arm (missing others) zero rest = omega arith
frees-arm (missing others) (suc k) rest = frees-arm others k rest

-- where it goes on, at most so many stand in what follows
abbrev pub WayFrees : {Memory : Type 0} → ℕ → Way Memory → Type 0
WayFrees most (On trace memory items) = frees items ≤ most
WayFrees most (Halts trace how memory) = Unit {0}
WayFrees most (Into entry exit items) = frees items ≤ most
WayFrees most (To trace memory paragraph) = Unit {0}
WayFrees most (ToEnd trace memory paragraph) = Unit {0}

after-frees : {Memory : Type 0} (most : ℕ) (trace : Trace) (way : Way Memory) → WayFrees most way → WayFrees most (way_after trace way)
after-frees most trace (On shown memory items) h = h
after-frees most trace (Halts shown how memory) h = h
after-frees most trace (Into entry exit items) h = h
after-frees most trace (To shown memory paragraph) h = h
after-frees most trace (ToEnd shown memory paragraph) h = h

tried-frees : {Memory Value : Type 0} (most : ℕ) (value : Tried Memory Value) (goes : Value → Memory → Way Memory) (cost : Value → Memory → ℕ) → ((v : Value) (m : Memory) → WayFrees (most + cost v m) (goes v m)) → WayFrees (most + tried_cost value cost) (tried value goes)
tried-frees most (Got trace v m) goes cost h = after-frees (most + cost v m) trace (goes v m) (h v m)
tried-frees most (Ends trace kind m) goes cost h = tt

-- the same, whatever it costs
tried-plain : {Memory Value : Type 0} (most : ℕ) (value : Tried Memory Value) (goes : Value → Memory → Way Memory) → ((v : Value) (m : Memory) → WayFrees most (goes v m)) → WayFrees most (tried value goes)
tried-plain most (Got trace v m) goes h = after-frees most trace (goes v m) (h v m)
tried-plain most (Ends trace kind m) goes h = tt

way-more : {Memory : Type 0} (few most : ℕ) (way : Way Memory) → few ≤ most → WayFrees few way → WayFrees most way
way-more few most (On trace memory items) le h = omega (arith, le, h)
way-more few most (Halts trace how memory) le h = tt
way-more few most (Into entry exit items) le h = omega (arith, le, h)
way-more few most (To trace memory paragraph) le h = tt
way-more few most (ToEnd trace memory paragraph) le h = tt

module _ {Memory : Type 0} (doing : Doing Memory) where
  first-frees : (after : Bool) (turning : Turning) (body : Body) (rest : List Item) → frees (first_turn doing after turning body rest) ≤ frees rest + 1
  first-frees false turning body rest = omega arith
  first-frees true turning body rest = frees-body body turning rest

  turns-frees : (ended : Bool) (turning : Turning) (body : Body) (rest : List Item) → frees (turns doing ended turning body rest) ≤ frees rest + round_cost ended
  turns-frees true turning body rest = omega arith
  turns-frees false turning body rest = frees-body body turning rest

  tests-frees : (test : Test) (turning : Turning) (body : Body) (rest : List Item) (memory : Memory) → WayFrees (frees rest + tried_cost (doing.test test memory) (λ ended m. round_cost ended)) (tests doing test turning body rest memory)
  tests-frees test turning body rest memory = tried-frees (frees rest) (doing.test test memory) (λ ended. on doing (turns doing ended turning body rest)) (λ ended m. round_cost ended) (λ ended m. turns-frees ended turning body rest)

  steps-frees : (ended : Bool) (act : Act) (test : Test) (body : Body) (rest : List Item) (memory : Memory) → WayFrees (frees rest + round_cost ended) (steps_on doing ended act test body rest memory)
  steps-frees true act test body rest memory = turns-frees true (StepsAfter act test) body rest
  steps-frees false act test body rest memory =
      tried-plain (frees rest + 1) (doing.act act memory) (λ u. on doing (before_body body (Turn (StepsAfter act test) body ∷ rest))) (λ u m. frees-body body (StepsAfter act test) rest)

  turn-frees : (turning : Turning) (body : Body) (rest : List Item) (memory : Memory) → WayFrees (frees rest + turn_cost doing turning memory) (turn_way doing turning body rest memory)
  turn-frees (Counted zero) body rest memory = omega arith
  turn-frees (Counted (suc n)) body rest memory = frees-body body (Counted n) rest
  turn-frees (Tests test) body rest memory = tests-frees test (Tests test) body rest memory
  turn-frees (Steps false act test) body rest memory = tests-frees test (Steps true act test) body rest memory
  turn-frees (Steps true act test) body rest memory =
      tried-frees (frees rest) (doing.act act memory) (λ u. tests doing test (Steps true act test) body rest) (λ u next. tried_cost (doing.test test next) (λ ended m. round_cost ended)) (λ u m. tests-frees test (Steps true act test) body rest m)
  turn-frees (StepsAfter act test) body rest memory =
      tried-frees (frees rest) (doing.test test memory) (λ ended. steps_on doing ended act test body rest) (λ ended m. round_cost ended) (λ ended m. steps-frees ended act test body rest m)

  loop-frees : (control : Control) (body : Body) (rest : List Item) (memory : Memory) → WayFrees (frees rest + 1) (loop_begins doing control body rest memory)
  loop-frees (Times amount) body rest memory = tried-plain (frees rest + 1) (doing.count amount memory) (λ n. on doing (Turn (Counted n) body ∷ rest)) (λ n m. omega arith)
  loop-frees (Until after test) body rest memory = first-frees after (Tests test) body rest
  loop-frees (Varying after set act test) body rest memory =
      tried-plain (frees rest + 1) (doing.act set memory) (λ u. on doing (first_turn doing after (varying doing after act test) body rest)) (λ u m. first-frees after (varying doing after act test) body rest)

  module _ (Calls : Range → Type 0) (Reads Writes : ℕ → Type 0) where
    stmt-frees : (stmt : Stmt) (rest : List Item) (memory : Memory) → StmtFits Calls Reads Writes stmt → WayFrees (frees rest + stmt_cost doing stmt rest memory) (stmt_way doing stmt rest memory)
    stmt-frees (language.Do act) rest memory fits = tried-plain (frees rest + 1) (doing.act act memory) (λ u. on doing rest) (λ u m. omega arith)
    stmt-frees (Choose picker arms) rest memory fits = tried-plain (frees rest + 1) (doing.pick picker memory) (λ k. on doing (before_arm arms k rest)) (λ k m. frees-arm arms k rest)
    stmt-frees (Loop control body) rest memory fits = way-more (frees rest + 1) (frees rest + (loop_cost doing control memory + 1)) (loop_begins doing control body rest memory) (omega arith) (loop-frees control body rest memory)
    stmt-frees (Perform entry exit) rest memory fits = omega arith
    stmt-frees (Go to) rest memory fits = absurd fits
    stmt-frees (GoDepending to chooser) rest memory fits = absurd fits
    stmt-frees NextSentence rest memory fits = absurd fits
    stmt-frees ExitParagraph rest memory fits = absurd fits
    stmt-frees (ExitSection last) rest memory fits = absurd fits
    stmt-frees (ExitPerform cycle) rest memory fits = absurd fits
    stmt-frees StopRun rest memory fits = tt

    -- an item that costs nothing frees nothing
    pub item-frees : (item : Item) (rest : List Item) (memory : Memory) → ItemFits Calls Reads Writes item → WayFrees (frees rest + item_cost doing item rest memory) (item_way doing item rest memory)
    item-frees (Do stmt) rest memory fits = stmt-frees stmt rest memory fits
    item-frees SentenceEnd rest memory fits = absurd fits
    item-frees (Turn turning body) rest memory fits = turn-frees turning body rest memory

  free-cost : (rest : List Item) → perform_cost doing rest + next_free rest ≡ 1
  free-cost [] = refl
  free-cost (Do stmt ∷ rest) = refl
  free-cost (SentenceEnd ∷ rest) = refl
  free-cost (Turn turning (Nested stmts) ∷ rest) = refl
  free-cost (Turn turning (Performed entry exit) ∷ rest) = refl

  -- what a way that performs costs, with what stood free before it
  abbrev pub IntoCosts : Item → List Item → Memory → Way Memory → Type 0
  IntoCosts item rest memory (Into entry exit items) = (items ≡ rest) × (item_cost doing item rest memory + item_free item rest ≡ 1)
  IntoCosts item rest memory (On trace m items) = Unit {0}
  IntoCosts item rest memory (Halts trace how m) = Unit {0}
  IntoCosts item rest memory (To trace m paragraph) = Unit {0}
  IntoCosts item rest memory (ToEnd trace m paragraph) = Unit {0}

  -- a way that doesn't perform
  abbrev Quiet : Way Memory → Type 0
  Quiet (Into entry exit items) = ⊥
  Quiet (On trace m items) = Unit {0}
  Quiet (Halts trace how m) = Unit {0}
  Quiet (To trace m paragraph) = Unit {0}
  Quiet (ToEnd trace m paragraph) = Unit {0}

  quiet-after : (trace : Trace) (way : Way Memory) → Quiet way → Quiet (way_after trace way)
  quiet-after trace (On shown m items) q = tt
  quiet-after trace (Halts shown how m) q = tt
  quiet-after trace (Into entry exit items) q = q
  quiet-after trace (To shown m paragraph) q = tt
  quiet-after trace (ToEnd shown m paragraph) q = tt

  quiet-tried : {Value : Type 0} (value : Tried Memory Value) (goes : Value → Memory → Way Memory) → ((v : Value) (m : Memory) → Quiet (goes v m)) → Quiet (tried value goes)
  quiet-tried (Got trace v m) goes h = quiet-after trace (goes v m) (h v m)
  quiet-tried (Ends trace kind m) goes h = tt

  quiet-into : (item : Item) (rest : List Item) (memory : Memory) (way : Way Memory) → Quiet way → IntoCosts item rest memory way
  quiet-into item rest memory (On trace m items) q = tt
  quiet-into item rest memory (Halts trace how m) q = tt
  quiet-into item rest memory (Into entry exit items) q = absurd q
  quiet-into item rest memory (To trace m paragraph) q = tt
  quiet-into item rest memory (ToEnd trace m paragraph) q = tt

  steps-quiet : (ended : Bool) (act : Act) (test : Test) (body : Body) (rest : List Item) (memory : Memory) → Quiet (steps_on doing ended act test body rest memory)
  steps-quiet true act test body rest memory = tt
  steps-quiet false act test body rest memory = quiet-tried (doing.act act memory) (λ u. on doing (before_body body (Turn (StepsAfter act test) body ∷ rest))) (λ u m. tt)

  tests-quiet : (test : Test) (turning : Turning) (body : Body) (rest : List Item) (memory : Memory) → Quiet (tests doing test turning body rest memory)
  tests-quiet test turning body rest memory = quiet-tried (doing.test test memory) (λ ended. on doing (turns doing ended turning body rest)) (λ ended m. tt)

  turn-quiet : (turning : Turning) (body : Body) (rest : List Item) (memory : Memory) → Quiet (turn_way doing turning body rest memory)
  turn-quiet (Counted zero) body rest memory = tt
  turn-quiet (Counted (suc n)) body rest memory = tt
  turn-quiet (Tests test) body rest memory = tests-quiet test (Tests test) body rest memory
  turn-quiet (Steps false act test) body rest memory = tests-quiet test (Steps true act test) body rest memory
  turn-quiet (Steps true act test) body rest memory = quiet-tried (doing.act act memory) (λ u. tests doing test (Steps true act test) body rest) (λ u m. tests-quiet test (Steps true act test) body rest m)
  turn-quiet (StepsAfter act test) body rest memory = quiet-tried (doing.test test memory) (λ ended. steps_on doing ended act test body rest) (λ ended m. steps-quiet ended act test body rest m)

  loop-quiet : (control : Control) (body : Body) (rest : List Item) (memory : Memory) → Quiet (loop_begins doing control body rest memory)
  loop-quiet (Times amount) body rest memory = quiet-tried (doing.count amount memory) (λ n. on doing (Turn (Counted n) body ∷ rest)) (λ n m. tt)
  loop-quiet (Until after test) body rest memory = tt
  loop-quiet (Varying after set act test) body rest memory = quiet-tried (doing.act set memory) (λ u. on doing (first_turn doing after (varying doing after act test) body rest)) (λ u m. tt)

  to-quiet : (found : Option ℕ) (rest : List Item) (memory : Memory) → Quiet (to_one doing found rest memory)
  to-quiet None rest memory = tt
  to-quiet (Some paragraph) rest memory = tt

  pub item-into : (item : Item) (rest : List Item) (memory : Memory) → IntoCosts item rest memory (item_way doing item rest memory)
  item-into (Do (language.Do act)) rest memory = quiet-into (Do (language.Do act)) rest memory (tried (doing.act act memory) (λ u. on doing rest)) (quiet-tried (doing.act act memory) (λ u. on doing rest) (λ u m. tt))
  item-into (Do (Choose picker arms)) rest memory = quiet-into (Do (Choose picker arms)) rest memory (tried (doing.pick picker memory) (λ k. on doing (before_arm arms k rest))) (quiet-tried (doing.pick picker memory) (λ k. on doing (before_arm arms k rest)) (λ k m. tt))
  item-into (Do (Loop control body)) rest memory = quiet-into (Do (Loop control body)) rest memory (loop_begins doing control body rest memory) (loop-quiet control body rest memory)
  item-into (Do (Perform entry exit)) rest memory = (refl, free-cost rest)
  item-into (Do (Go to)) rest memory = tt
  item-into (Do (GoDepending to chooser)) rest memory = quiet-into (Do (GoDepending to chooser)) rest memory (stmt_way doing (GoDepending to chooser) rest memory) (quiet-tried (doing.pick (By chooser) memory) (λ k. to_one doing (slice_get to k) rest) (λ k m. to-quiet (slice_get to k) rest m))
  item-into (Do NextSentence) rest memory = tt
  item-into (Do ExitParagraph) rest memory = tt
  item-into (Do (ExitSection last)) rest memory = tt
  item-into (Do (ExitPerform cycle)) rest memory = tt
  item-into (Do StopRun) rest memory = tt
  item-into SentenceEnd rest memory = tt
  item-into (Turn turning body) rest memory = quiet-into (Turn turning body) rest memory (turn_way doing turning body rest memory) (turn-quiet turning body rest memory)
