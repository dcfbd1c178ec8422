-- The walk by recursion is the walk step by step, and takes as many units as its steps cost.
use Rattle.std.proofs.Common.{◌≡◌, ℕ, zero, suc, ◌+◌, ◌*◌, ◌≤◌, ◌<◌, Bool, true, false, if◌then◌else◌, List, [], ◌∷◌, ◌++◌, refl, ap, sym, ◌∙◌, subst, arith, append-nil, inl, inr}
use Rattle.control_flow_theory.specs.runs.Run.{Going, Over, Covers}
use Rattle.control_flow_theory.specs.runs.Tied.{Steady, Tied}
use Rattle.control_flow_theory.specs.runs.Machine.{meaning, Grows}
use Rattle.control_flow_theory.proofs.runs_lemmas.Machines.{iterate-add}
use Rattle.control_flow_theory.specs.semantics.Outcome.{Event, Trace, How, Normally, Abend, Ending, Stopped, Returned, Lost, Tried, Got, Ends}
use Rattle.control_flow_theory.specs.semantics.Outcome as outcome
use Rattle.control_flow_theory.specs.language.Language.{Act, Test, Picker, Control, Times, Until, Varying, Stmt, Choose, Loop, Perform, Go, GoDepending, NextSentence, ExitParagraph, ExitSection, ExitPerform, StopRun, Stmts, none, also, Arms, done, given, missing, Body, Nested, Performed, Range, Main, Part, same_range}
use Rattle.control_flow_theory.specs.language.Language as language
use Rattle.control_flow_theory.specs.semantics.Doing.{Acting, Doing, Celled, celled}
use Rattle.control_flow_theory.specs.language.Items.{Turning, Counted, Tests, Steps, StepsAfter, Item, Do, SentenceEnd, Turn, before, before_body, before_arm}
use Rattle.control_flow_theory.specs.semantics.Items.{Way, On, Halts, tried, on, first_turn, loop_begins, turns, tests, steps_on, turn_way}
use Rattle.control_flow_theory.specs.semantics.Structural.{Outcome, Went, Stands}
use Rattle.control_flow_theory.specs.semantics.Structural as structural
use Rattle.control_flow_theory.specs.semantics.Graph.{Label, Tree, tree, End, Pick, Jump, Return, Stop, Dead, Trees, no_more, more, body_of, end_of, Family}
use Rattle.control_flow_theory.specs.semantics.Walk.{Level, Walk, tree_at, walk_goes, walk_begun, walk_machine, picked, picks}
use Rattle.control_flow_theory.specs.graph_rules.Charged.{Payment, Paid}
use Rattle.control_flow_theory.specs.graph_rules.Costs.{tried_cost, round_cost, first_cost, turn_cost, loop_cost, perform_cost, item_cost, end_cost, items_cost, cost_by, cost, parted}
use Rattle.control_flow_theory.specs.graph_rules.Fits.{StmtFits, StmtsFit, ArmsFit, BodyFits, TreeFits, EndFits, TreesFit}
use Rattle.control_flow_theory.specs.graph_rules.Walked.{left_of, Walking, stmt_walks, stmts_walk, arm_walks, body_walks, tree_walks, end_walks, trees_walk, node_walks, graph_walks, performed, run_of, walked, machine_from, walked_from, is_in, In, Ordered}
use Rattle.control_flow_theory.proofs.graph_rules_lemmas.walks.Charges.{spent-add, later-covers, next-covers, paid-covers, paid-steady}
use Rattle.control_flow_theory.proofs.semantics_lemmas.Ranges.{same-range}
use Rattle.control_flow_theory.proofs.graph_rules_lemmas.walks.Fitting.{tree-more}
use Rattle.control_flow_theory.proofs.semantics_lemmas.Grown.{walks-grow}
use Rattle.control_flow_theory.proofs.graph_rules_lemmas.walks.Meets.{shows, State, step, paid, at, Target, ran, Meets, waits, is-here, went, meets-step, meets-slack, meets-behind, meets-then, Takes, takes-step, takes-unit, takes-on, takes-tried, Plain, plain-tried}

tried-free : {Memory Value : Type 0} (value : Tried Memory Value) → tried_cost value (λ v m. 0) ≡ 0
tried-free (Got trace v m) = refl
tried-free (Ends trace kind m) = refl

tried-most : {Memory Value : Type 0} (value : Tried Memory Value) (c : Value → Memory → ℕ) → ((v : Value) (m : Memory) → c v m ≤ 1) → tried_cost value c ≤ 1
tried-most (Got trace v m) c h = h v m
tried-most (Ends trace kind m) c h = omega arith

round-most : (ended : Bool) → round_cost ended ≤ 1
round-most true = omega arith
round-most false = omega arith

first-most : (after : Bool) → first_cost after ≤ 1
first-most true = omega arith
first-most false = omega arith

-- No step costs more than two units.
module _ {Memory : Type 0} (doing : Doing Memory) where
  turn-most : (turning : Turning) (memory : Memory) → turn_cost doing turning memory ≤ 2
  turn-most (Counted zero) memory = omega arith
  turn-most (Counted (suc n)) memory = omega arith
  turn-most (Tests test) memory = let e = tried-most (doing.test test memory) (λ ended m. round_cost ended) (λ ended m. round-most ended) in omega (arith, e)
  turn-most (Steps false act test) memory = let e = tried-most (doing.test test memory) (λ ended m. round_cost ended) (λ ended m. round-most ended) in omega (arith, e)
  turn-most (Steps true act test) memory =
      let e = tried-most (doing.act act memory) (λ u next. tried_cost (doing.test test next) (λ ended m. round_cost ended)) (λ u next. tried-most (doing.test test next) (λ ended m. round_cost ended) (λ ended m. round-most ended)) in omega (arith, e)
  turn-most (StepsAfter act test) memory = let e = tried-most (doing.test test memory) (λ ended m. round_cost ended) (λ ended m. round-most ended) in omega (arith, e)

  loop-most : (control : Control) (memory : Memory) → loop_cost doing control memory + 1 ≤ 2
  loop-most (Times amount) memory = omega arith
  loop-most (Until after test) memory = let e = first-most after in omega (arith, e)
  loop-most (Varying after set act test) memory = let e = tried-most (doing.act set memory) (λ u m. first_cost after) (λ u m. first-most after) in omega (arith, e)

  perform-most : (rest : List Item) → perform_cost doing rest ≤ 2
  perform-most [] = omega arith
  perform-most (Do stmt ∷ rest) = omega arith
  perform-most (SentenceEnd ∷ rest) = omega arith
  perform-most (Turn turning (Nested stmts) ∷ rest) = omega arith
  perform-most (Turn turning (Performed entry exit) ∷ rest) = omega arith

  pub item-most : (item : Item) (rest : List Item) (memory : Memory) → item_cost doing item rest memory ≤ 2
  item-most (Do (language.Do act)) rest memory = omega arith
  item-most (Do (Choose picker arms)) rest memory = omega arith
  item-most (Do (Loop control body)) rest memory = loop-most control memory
  item-most (Do (Perform entry exit)) rest memory = perform-most rest
  item-most (Do (Go to)) rest memory = omega arith
  item-most (Do (GoDepending to chooser)) rest memory = omega arith
  item-most (Do NextSentence) rest memory = omega arith
  item-most (Do ExitParagraph) rest memory = omega arith
  item-most (Do (ExitSection last)) rest memory = omega arith
  item-most (Do (ExitPerform cycle)) rest memory = omega arith
  item-most (Do StopRun) rest memory = omega arith
  item-most SentenceEnd rest memory = omega arith
  item-most (Turn turning body) rest memory = turn-most turning memory

  end-most : (end : End) → end_cost doing end ≤ 2
  end-most (Pick picker arms) = omega arith
  end-most (Jump to) = omega arith
  end-most Return = omega arith
  end-most Stop = omega arith
  end-most Dead = omega arith

  pub items-most : (items : List Item) (end : End) (memory : Memory) → items_cost doing items end memory ≤ 2
  items-most [] end memory = end-most end
  items-most (item ∷ rest) end memory = item-most item rest memory

pub cost-most : {Memory Left : Type 0} (acting : Acting Memory) (walk : Walk Memory Left) → cost acting walk ≤ 2
cost-most {Left = Left} acting walk = by walk.run.standing
  where
    by : (standing : outcome.Standing Left) → cost_by acting standing walk ≤ 2
    by Going = items-most (celled acting walk.level.range) walk.level.items walk.level.end walk.memory
    by (Over ending) = omega arith

module _ {Memory Left : Type 0} (acting : Acting Memory) (left : Memory → Left) (family : Family) where
  abbrev Meet : State acting left family → Target acting left family → Trace → ℕ → ℕ → Outcome (Celled Memory) Left → Type 0
  Meet = Meets acting left family

  abbrev stand : Range → List Item → End → List Level → Celled Memory → Trace → State acting left family
  stand = at acting left family

  -- at the root of a tree
  abbrev root : Range → Tree → List Level → Celled Memory → Trace → State acting left family
  root range t callers memory trace = stand range (before (body_of t) []) (end_of t) callers memory trace

  -- a range is walked from its entry to its return, whoever waits
  abbrev pub Can : (Range → Walking acting left) → Range → Type 0
  Can perform range = (callers : List Level) (memory : Celled Memory) (units : ℕ) (trace : Trace) →
      Meet (root range (family.node range (family.entry range)) callers memory trace) (stand range [] Return callers) trace units 0 (perform range memory units)

  -- the return of a range, one step more
  meets-returned : (rest : List Item) (end : End) (r : Range) (start : State acting left family) (trace : Trace) (n : ℕ) (o : Outcome (Celled Memory) Left) (range : Range) (callers : List Level) →
      Meet start (stand r [] Return (record { range = range; items = rest; end = end } ∷ callers)) trace n 0 o → Meet start (stand range rest end callers) trace n 1 o
  meets-returned rest end r start trace n (Went shown memory units) range callers h =
      let a = spent-add (step acting left family) (cost acting) h.0 1 start in let f = ap (paid acting left family 1) h.1 in let u = h.2 in let v = h.3 in
      (h.0 + 1, iterate-add (step acting left family) h.0 1 start ∙ ap (step acting left family) h.1, omega (arith, a, f, u), omega (arith, v))
  meets-returned rest end r start trace n (Stands shown standing) range callers h = meets-slack acting left family start (stand range rest end callers) trace n 0 1 (Stands shown standing) (omega arith) h

  module _ (range : Range) (callers : List Level) (perform : Range → Walking acting left) where
    abbrev doing : Doing (Celled Memory)
    doing = celled acting range

    abbrev whole : Celled Memory → Left
    whole = left_of acting left

    -- the next item isn't what is left of a loop over a range
    abbrev Calm : List Item → Type 0
    Calm rest = perform_cost doing rest ≡ 1

    calm-before : (stmts : Stmts) (rest : List Item) → Calm rest → Calm (before stmts rest)
    calm-before none rest h = h
    calm-before (also stmt stmts) rest h = refl

    module _ (items : List Item) (end : End) (here : Celled Memory) (target : Target acting left family) where
      abbrev Take : ℕ → ℕ → Way (Celled Memory) → ℕ → (ℕ → Outcome (Celled Memory) Left) → Type 0
      Take = Takes acting left family doing range items end callers here target

      takes-free : {Value : Type 0} (bound slack : ℕ) (value : Tried (Celled Memory) Value) (way : Value → Celled Memory → Way (Celled Memory)) (d : Value → Walking acting left) →
          1 ≤ slack → ((v : Value) (m : Celled Memory) → Plain acting left family doing (way v m)) → ((v : Value) (m : Celled Memory) → Take bound slack (way v m) 0 (d v m)) → Take bound slack (tried value way) 0 (structural.gets doing whole value d)
      takes-free bound slack value way d room plain t =
          subst (λ c. Take bound slack (tried value way) c (structural.gets doing whole value d)) (tried-free value)
          (takes-tried acting left family doing range items end callers here target bound slack value way (λ v m. 0) d room (λ v m. omega arith) plain t)

      takes-halt : (bound slack : ℕ) (memory : Celled Memory) → 1 ≤ slack → Take bound slack (Halts [] Normally memory) 0 (structural.stops doing whole Normally memory)
      takes-halt bound slack memory room = record {
        short = λ n lt. absurd (omega (arith, lt));
        extra = 0;
        room = omega (arith, room);
        full = λ n trace lt. is-here acting left family _ target trace [] n 0 (Over (Stopped Normally (left memory.own))) refl (λ e. cc);
      }

    -- the turns of a loop whose body does this
    abbrev BodyDoes : Body → Walking acting left → Type 0
    BodyDoes body d = (turning : Turning) (rest : List Item) (end : End) (memory : Celled Memory) (units : ℕ) (trace : Trace) →
        Meet (stand range (before_body body (Turn turning body ∷ rest)) end callers memory trace) (stand range (Turn turning body ∷ rest) end callers) trace units 2 (d memory units)

    module _ (body : Body) (d : Walking acting left) (h : BodyDoes body d) (rest : List Item) (end : End) where
      abbrev target : Target acting left family
      target = stand range rest end callers

      abbrev Turned : ℕ → Type 0
      Turned most = (turning : Turning) (memory : Celled Memory) (units : ℕ) (trace : Trace) → units < most → Meet (stand range (Turn turning body ∷ rest) end callers memory trace) target trace units 1 (structural.turns doing whole most turning d memory units)

      one-turn : (most : ℕ) → Turned most → (next : Turning) (memory : Celled Memory) (units : ℕ) (trace : Trace) → units < most →
          Meet (stand range (before_body body (Turn next body ∷ rest)) end callers memory trace) target trace units 3 (structural.one_then doing whole d (structural.turns doing whole most next d) memory units)
      one-turn most again next memory units trace lt =
          meets-then acting left family doing (stand range (before_body body (Turn next body ∷ rest)) end callers memory trace) (stand range (Turn next body ∷ rest) end callers) target trace units 2 1 3 (d memory units) (structural.turns doing whole most next d)
          (omega arith) (h next rest end memory units trace) (λ m left t le. again next m left t (omega (arith, le, lt)))

      module _ (items : List Item) (here : Celled Memory) where
        abbrev TakeTurn : ℕ → ℕ → Way (Celled Memory) → ℕ → (ℕ → Outcome (Celled Memory) Left) → Type 0
        TakeTurn = Take items end here target

        takes-next : (bound slack : ℕ) (memory : Celled Memory) (next : List Item) (d : ℕ → Outcome (Celled Memory) Left) → (extra : ℕ) → extra + 1 ≤ slack → ((n : ℕ) (trace : Trace) → n < bound → Meet (stand range next end callers memory trace) target trace n extra (d n)) → TakeTurn bound slack (On [] memory next) 0 d
        takes-next = takes-on acting left family doing range items end callers here target

        round : (most : ℕ) → Turned most → (ended : Bool) (next : Turning) (memory : Celled Memory) →
            TakeTurn (suc most) 1 (on doing (turns doing ended next body rest) memory) (round_cost ended) (structural.goes_round doing whole ended (structural.one_then doing whole d (structural.turns doing whole most next d)) memory)
        round most again true next memory = takes-next (suc most) 1 memory rest (structural.nothing doing whole memory) 0 (omega arith) (λ n trace lt. went acting left family (stand range rest end callers memory trace) target memory trace n 0 refl)
        round most again false next memory =
            takes-unit acting left family doing range items end callers here target most 1 (On [] memory (before_body body (Turn next body ∷ rest))) 0 (structural.one_then doing whole d (structural.turns doing whole most next d)) memory
            (takes-next most 4 memory (before_body body (Turn next body ∷ rest)) (structural.one_then doing whole d (structural.turns doing whole most next d) memory) 3 (omega arith) (λ n trace lt. one-turn most again next memory n trace lt))

        tests-round : (most : ℕ) → Turned most → (test : Test) (next : Turning) (memory : Celled Memory) →
            TakeTurn (suc most) 1 (tests doing test next body rest memory) (tried_cost (doing.test test memory) (λ ended m. round_cost ended))
            (structural.gets doing whole (doing.test test memory) (λ ended. structural.goes_round doing whole ended (structural.one_then doing whole d (structural.turns doing whole most next d))))
        tests-round most again test next memory =
            takes-tried acting left family doing range items end callers here target (suc most) 1 (doing.test test memory) (λ ended. on doing (turns doing ended next body rest)) (λ ended m. round_cost ended) (λ ended. structural.goes_round doing whole ended (structural.one_then doing whole d (structural.turns doing whole most next d)))
            (omega arith) (λ ended m. round-most ended) (λ ended m. tt) (λ ended m. round most again ended next m)

        steps-round : (most : ℕ) → Turned most → (ended : Bool) (act : Act) (test : Test) (memory : Celled Memory) →
            TakeTurn (suc most) 1 (steps_on doing ended act test body rest memory) (round_cost ended)
            (structural.goes_round doing whole ended (structural.acts doing whole act (structural.one_then doing whole d (structural.turns doing whole most (StepsAfter act test) d))) memory)
        steps-round most again true act test memory = round most again true (StepsAfter act test) memory
        steps-round most again false act test memory =
            takes-unit acting left family doing range items end callers here target most 1 (steps_on doing false act test body rest memory) 0 (structural.acts doing whole act (structural.one_then doing whole d (structural.turns doing whole most (StepsAfter act test) d))) memory
            (takes-free items end here target most 4 (doing.act act memory) (λ u. on doing (before_body body (Turn (StepsAfter act test) body ∷ rest))) (λ u. structural.one_then doing whole d (structural.turns doing whole most (StepsAfter act test) d))
            (omega arith) (λ u m. tt) (λ u m. takes-next most 4 m (before_body body (Turn (StepsAfter act test) body ∷ rest)) (structural.one_then doing whole d (structural.turns doing whole most (StepsAfter act test) d) m) 3 (omega arith) (λ n trace lt. one-turn most again (StepsAfter act test) m n trace lt)))

        steps-plain : (ended : Bool) (act : Act) (test : Test) (memory : Celled Memory) → Plain acting left family doing (steps_on doing ended act test body rest memory)
        steps-plain true act test memory = tt
        steps-plain false act test memory = plain-tried acting left family doing range items end callers here target (doing.act act memory) (λ u. on doing (before_body body (Turn (StepsAfter act test) body ∷ rest))) (λ u m. tt)

        tests-plain : (test : Test) (next : Turning) (memory : Celled Memory) → Plain acting left family doing (tests doing test next body rest memory)
        tests-plain test next memory = plain-tried acting left family doing range items end callers here target (doing.test test memory) (λ ended. on doing (turns doing ended next body rest)) (λ ended m. tt)

        turn-plain : (turning : Turning) (memory : Celled Memory) → Plain acting left family doing (turn_way doing turning body rest memory)
        turn-plain (Counted zero) memory = tt
        turn-plain (Counted (suc n)) memory = tt
        turn-plain (Tests test) memory = tests-plain test (Tests test) memory
        turn-plain (Steps false act test) memory = tests-plain test (Steps true act test) memory
        turn-plain (Steps true act test) memory = plain-tried acting left family doing range items end callers here target (doing.act act memory) (λ u. tests doing test (Steps true act test) body rest) (λ u m. tests-plain test (Steps true act test) m)
        turn-plain (StepsAfter act test) memory = plain-tried acting left family doing range items end callers here target (doing.test test memory) (λ ended. steps_on doing ended act test body rest) (λ ended m. steps-plain ended act test m)

        turn-takes : (most : ℕ) → Turned most → (turning : Turning) (memory : Celled Memory) → TakeTurn (suc most) 1 (turn_way doing turning body rest memory) (turn_cost doing turning memory) (structural.turns doing whole (suc most) turning d memory)
        turn-takes most again (Counted zero) memory = round most again true (Counted zero) memory
        turn-takes most again (Counted (suc n)) memory = round most again false (Counted n) memory
        turn-takes most again (Tests test) memory = tests-round most again test (Tests test) memory
        turn-takes most again (Steps false act test) memory = tests-round most again test (Steps true act test) memory
        turn-takes most again (Steps true act test) memory =
            takes-tried acting left family doing range items end callers here target (suc most) 1 (doing.act act memory) (λ u. tests doing test (Steps true act test) body rest) (λ u next. tried_cost (doing.test test next) (λ ended m. round_cost ended))
            (λ u m units. structural.gets doing whole (doing.test test m) (λ ended. structural.goes_round doing whole ended (structural.one_then doing whole d (structural.turns doing whole most (Steps true act test) d))) units)
            (omega arith) (λ u m. tried-most (doing.test test m) (λ ended next. round_cost ended) (λ ended next. round-most ended)) (λ u m. tests-plain test (Steps true act test) m) (λ u m. tests-round most again test (Steps true act test) m)
        turn-takes most again (StepsAfter act test) memory =
            takes-tried acting left family doing range items end callers here target (suc most) 1 (doing.test test memory) (λ ended. steps_on doing ended act test body rest) (λ ended m. round_cost ended)
            (λ ended. structural.goes_round doing whole ended (structural.acts doing whole act (structural.one_then doing whole d (structural.turns doing whole most (StepsAfter act test) d))))
            (omega arith) (λ ended m. round-most ended) (λ ended m. steps-plain ended act test m) (λ ended m. steps-round most again ended act test m)

      turn-does : (most : ℕ) → Turned most
      turn-does zero turning memory units trace lt = absurd (omega (arith, lt))
      turn-does (suc most) turning memory units trace lt =
          takes-step acting left family doing range (Turn turning body ∷ rest) end callers memory target (suc most) 1 (turn_way doing turning body rest memory) (turn_cost doing turning memory) (structural.turns doing whole (suc most) turning d memory) trace units
          (turn-plain (Turn turning body ∷ rest) memory turning memory) (turn-takes (Turn turning body ∷ rest) memory most (turn-does most) turning memory) refl refl refl lt

      all-turns : (turning : Turning) (memory : Celled Memory) (units : ℕ) (trace : Trace) → Meet (stand range (Turn turning body ∷ rest) end callers memory trace) target trace units 1 (structural.all_turns doing whole turning d memory units)
      all-turns turning memory units trace = turn-does (suc units) turning memory units trace (omega arith)

      module _ (items : List Item) (here : Celled Memory) where
        first-takes : (bound : ℕ) (after : Bool) (turning : Turning) (memory : Celled Memory) → Take items end here target (suc bound) 3 (on doing (first_turn doing after turning body rest) memory) (first_cost after) (structural.first_turn doing whole after turning d memory)
        first-takes bound false turning memory =
            takes-on acting left family doing range items end callers here target (suc bound) 3 memory (Turn turning body ∷ rest) (structural.all_turns doing whole turning d memory) 1 (omega arith) (λ n trace lt. all-turns turning memory n trace)
        first-takes bound true turning memory =
            takes-unit acting left family doing range items end callers here target bound 3 (On [] memory (before_body body (Turn turning body ∷ rest))) 0 (structural.one_then doing whole d (structural.all_turns doing whole turning d)) memory
            (takes-on acting left family doing range items end callers here target bound 6 memory (before_body body (Turn turning body ∷ rest)) (structural.one_then doing whole d (structural.all_turns doing whole turning d) memory) 3 (omega arith)
            (λ n trace lt. meets-then acting left family doing (stand range (before_body body (Turn turning body ∷ rest)) end callers memory trace) (stand range (Turn turning body ∷ rest) end callers) target trace n 2 1 3 (d memory n) (structural.all_turns doing whole turning d)
            (omega arith) (h turning rest end memory n trace) (λ m left t le. all-turns turning m left t)))

        loop-plain : (control : Control) (memory : Celled Memory) → Plain acting left family doing (loop_begins doing control body rest memory)
        loop-plain (Times amount) memory = plain-tried acting left family doing range items end callers here target (doing.count amount memory) (λ n. on doing (Turn (Counted n) body ∷ rest)) (λ n m. tt)
        loop-plain (Until after test) memory = tt
        loop-plain (Varying false set act test) memory = plain-tried acting left family doing range items end callers here target (doing.act set memory) (λ u. on doing (Turn (Steps false act test) body ∷ rest)) (λ u m. tt)
        loop-plain (Varying true set act test) memory = plain-tried acting left family doing range items end callers here target (doing.act set memory) (λ u. on doing (before_body body (Turn (StepsAfter act test) body ∷ rest))) (λ u m. tt)

        loop-takes : (bound : ℕ) (control : Control) (memory : Celled Memory) → Take items end here target (suc bound) 3 (loop_begins doing control body rest memory) (loop_cost doing control memory) (structural.loop_does doing whole control d memory)
        loop-takes bound (Times amount) memory =
            takes-free items end here target (suc bound) 3 (doing.count amount memory) (λ n. on doing (Turn (Counted n) body ∷ rest)) (λ n. structural.all_turns doing whole (Counted n) d) (omega arith) (λ n m. tt) (λ n m. first-takes bound false (Counted n) m)
        loop-takes bound (Until after test) memory = first-takes bound after (Tests test) memory
        loop-takes bound (Varying false set act test) memory =
            takes-tried acting left family doing range items end callers here target (suc bound) 3 (doing.act set memory) (λ u. on doing (Turn (Steps false act test) body ∷ rest)) (λ u m. 0) (λ u. structural.first_turn doing whole false (Steps false act test) d)
            (omega arith) (λ u m. omega arith) (λ u m. tt) (λ u m. first-takes bound false (Steps false act test) m)
        loop-takes bound (Varying true set act test) memory =
            takes-tried acting left family doing range items end callers here target (suc bound) 3 (doing.act set memory) (λ u. on doing (before_body body (Turn (StepsAfter act test) body ∷ rest))) (λ u m. 1) (λ u. structural.first_turn doing whole true (StepsAfter act test) d)
            (omega arith) (λ u m. omega arith) (λ u m. tt) (λ u m. first-takes bound true (StepsAfter act test) m)

    module _ (Reads Writes : ℕ → Type 0) where
      abbrev calls : Range → Type 0
      calls = Can perform

      -- one statement, with any rest behind it but what is left of a loop over a range
      abbrev Statement : Stmt → Type 0
      Statement stmt = (rest : List Item) (end : End) (memory : Celled Memory) (units : ℕ) (trace : Trace) → Calm rest →
          Meet (stand range (Do stmt ∷ rest) end callers memory trace) (stand range rest end callers) trace units 0 (stmt_walks acting left range perform stmt memory units)

      performs : (entry exit : ℕ) → calls (Part entry exit) → (rest : List Item) (end : End) (memory : Celled Memory) (units c slack : ℕ) (trace : Trace) → perform_cost doing rest ≡ c → 2 ≤ 3 * c + slack →
          Meet (stand range (Do (Perform entry exit) ∷ rest) end callers memory trace) (stand range rest end callers) trace (units + c) slack (perform (Part entry exit) memory units)
      performs entry exit can rest end memory units c slack trace is room =
          let r = Part entry exit in
          let waiting = record { range = range; items = rest; end = end } ∷ callers in
          let inside = root r (family.node r (family.entry r)) waiting memory trace in
          meets-step acting left family (stand range (Do (Perform entry exit) ∷ rest) end callers memory trace) inside (stand range rest end callers) trace units c 1 slack (perform r memory units) refl is (omega (arith, room))
          (meets-returned rest end r inside trace units (perform r memory units) range callers (can waiting memory units trace))

      module _ (stmt : Stmt) (rest : List Item) (end : End) (memory : Celled Memory) (trace : Trace) where
        -- a statement that takes its unit and then does what its way does
        unit-does : (way : Way (Celled Memory)) (c : ℕ) (d : Walking acting left) (units : ℕ) → Plain acting left family doing way →
            Take (Do stmt ∷ rest) end memory (stand range rest end callers) (suc units) 3 way c (d memory) →
            step acting left family (stand range (Do stmt ∷ rest) end callers memory trace) ≡ walk_goes acting left family way (stand range (Do stmt ∷ rest) end callers memory trace) → cost acting (stand range (Do stmt ∷ rest) end callers memory trace) ≡ c + 1 →
            Meet (stand range (Do stmt ∷ rest) end callers memory trace) (stand range rest end callers) trace units 0 (structural.unit_of doing whole d memory units)
        unit-does way c d units plain t e p =
            takes-step acting left family doing range (Do stmt ∷ rest) end callers memory (stand range rest end callers) (suc (suc units)) 0 way (c + 1) (structural.unit_of doing whole d memory) trace units plain
            (takes-unit acting left family doing range (Do stmt ∷ rest) end callers memory (stand range rest end callers) (suc units) 0 way c d memory t) e p refl (omega arith)

      abbrev Walked : Stmts → Type 0
      Walked stmts = (rest : List Item) (end : End) (memory : Celled Memory) (units : ℕ) (trace : Trace) → Calm rest →
          Meet (stand range (before stmts rest) end callers memory trace) (stand range rest end callers) trace units 0 (stmts_walk acting left range perform stmts memory units)

      performed-does : (entry exit : ℕ) → calls (Part entry exit) → Statement (Perform entry exit)
      performed-does entry exit can rest end memory zero trace calm = waits acting left family (stand range (Do (Perform entry exit) ∷ rest) end callers memory trace) (stand range rest end callers) trace 0 0 refl (omega (arith, calm))
      performed-does entry exit can rest end memory (suc units) trace calm =
          let e : units + 1 ≡ suc units = omega arith in
          subst (λ n. Meet (stand range (Do (Perform entry exit) ∷ rest) end callers memory trace) (stand range rest end callers) trace n 0 (perform (Part entry exit) memory units)) e
          (performs entry exit can rest end memory units 1 0 trace calm (omega arith))

      abbrev Armed : Arms → Type 0
      Armed arms = (k : ℕ) (rest : List Item) (end : End) (memory : Celled Memory) (units : ℕ) (trace : Trace) → Calm rest →
          Meet (stand range (before_arm arms k rest) end callers memory trace) (stand range rest end callers) trace units 0 (arm_walks acting left range perform arms k memory units)

      given-does : (arm : Stmts) (others : Arms) → Walked arm → Armed others → Armed (given arm others)
      given-does arm others one next zero rest end memory units trace calm = one rest end memory units trace calm
      given-does arm others one next (suc k) rest end memory units trace calm = next k rest end memory units trace calm

      missing-does : (others : Arms) → Armed others → Armed (missing others)
      missing-does others next zero rest end memory units trace calm = went acting left family (stand range rest end callers memory trace) (stand range rest end callers) memory trace units 0 refl
      missing-does others next (suc k) rest end memory units trace calm = next k rest end memory units trace calm

      mutual
        stmt-does : (stmt : Stmt) → StmtFits calls Reads Writes stmt → Statement stmt
        stmt-does (language.Do act) fits = λ rest end memory units trace calm.
            let target = stand range rest end callers in
            unit-does (language.Do act) rest end memory trace (tried (doing.act act memory) (λ u. on doing rest)) 0 (structural.acts doing whole act (structural.nothing doing whole)) units
            (plain-tried acting left family doing range (Do (language.Do act) ∷ rest) end callers memory target (doing.act act memory) (λ u. on doing rest) (λ u m. tt))
            (takes-free (Do (language.Do act) ∷ rest) end memory target (suc units) 3 (doing.act act memory) (λ u. on doing rest) (λ u. structural.nothing doing whole) (omega arith) (λ u m. tt)
            (λ u m. takes-on acting left family doing range (Do (language.Do act) ∷ rest) end callers memory target (suc units) 3 m rest (structural.nothing doing whole m) 0 (omega arith) (λ n t lt. went acting left family (stand range rest end callers m t) target m t n 0 refl)))
            refl refl
        stmt-does (Choose picker arms) fits = λ rest end memory units trace calm.
            let target = stand range rest end callers in
            unit-does (Choose picker arms) rest end memory trace (tried (doing.pick picker memory) (λ k. on doing (before_arm arms k rest))) 0 (λ memory units. structural.gets doing whole (doing.pick picker memory) (arm_walks acting left range perform arms) units) units
            (plain-tried acting left family doing range (Do (Choose picker arms) ∷ rest) end callers memory target (doing.pick picker memory) (λ k. on doing (before_arm arms k rest)) (λ k m. tt))
            (takes-free (Do (Choose picker arms) ∷ rest) end memory target (suc units) 3 (doing.pick picker memory) (λ k. on doing (before_arm arms k rest)) (arm_walks acting left range perform arms) (omega arith) (λ k m. tt)
            (λ k m. takes-on acting left family doing range (Do (Choose picker arms) ∷ rest) end callers memory target (suc units) 3 m (before_arm arms k rest) (arm_walks acting left range perform arms k m) 0 (omega arith) (λ n t lt. arms-do arms fits.1 k rest end m n t calm)))
            refl refl
        stmt-does (Loop control body) fits = λ rest end memory units trace calm.
            unit-does (Loop control body) rest end memory trace (loop_begins doing control body rest memory) (loop_cost doing control memory) (structural.loop_does doing whole control (body_walks acting left range perform body)) units
            (loop-plain body (body_walks acting left range perform body) (body-does body fits.1) rest end (Do (Loop control body) ∷ rest) memory control memory)
            (loop-takes body (body_walks acting left range perform body) (body-does body fits.1) rest end (Do (Loop control body) ∷ rest) memory units control memory)
            refl refl
        stmt-does (Perform entry exit) fits = performed-does entry exit fits
        stmt-does (Go to) fits = absurd fits
        stmt-does (GoDepending to chooser) fits = absurd fits
        stmt-does NextSentence fits = absurd fits
        stmt-does ExitParagraph fits = absurd fits
        stmt-does (ExitSection last) fits = absurd fits
        stmt-does (ExitPerform cycle) fits = absurd fits
        stmt-does StopRun fits = λ rest end memory units trace calm.
            unit-does StopRun rest end memory trace (Halts [] Normally memory) 0 (structural.stops doing whole Normally) units tt (takes-halt (Do StopRun ∷ rest) end memory (stand range rest end callers) (suc units) 3 memory (omega arith)) refl refl

        stmts-do : (stmts : Stmts) → StmtsFit calls Reads Writes stmts → Walked stmts
        stmts-do none fits = λ rest end memory units trace calm. went acting left family (stand range rest end callers memory trace) (stand range rest end callers) memory trace units 0 refl
        stmts-do (also stmt stmts) fits = λ rest end memory units trace calm.
            meets-then acting left family doing (stand range (Do stmt ∷ before stmts rest) end callers memory trace) (stand range (before stmts rest) end callers) (stand range rest end callers) trace units 0 0 0 (stmt_walks acting left range perform stmt memory units) (stmts_walk acting left range perform stmts)
            (omega arith) (stmt-does stmt fits.0 (before stmts rest) end memory units trace (calm-before stmts rest calm)) (λ m left t le. stmts-do stmts fits.1 rest end m left t calm)

        arms-do : (arms : Arms) → ArmsFit calls Reads Writes arms → (k : ℕ) (rest : List Item) (end : End) (memory : Celled Memory) (units : ℕ) (trace : Trace) → Calm rest →
            Meet (stand range (before_arm arms k rest) end callers memory trace) (stand range rest end callers) trace units 0 (arm_walks acting left range perform arms k memory units)
        arms-do done fits = λ k rest end memory units trace calm. went acting left family (stand range rest end callers memory trace) (stand range rest end callers) memory trace units 0 refl
        arms-do (given arm others) fits = given-does arm others (stmts-do arm fits.0) (arms-do others fits.1)
        arms-do (missing others) fits = missing-does others (arms-do others fits)

        body-does : (body : Body) → BodyFits calls Reads Writes body → BodyDoes body (body_walks acting left range perform body)
        body-does (Nested stmts) fits = λ turning rest end memory units trace.
            let items = Turn turning (Nested stmts) ∷ rest in
            meets-slack acting left family (stand range (before stmts items) end callers memory trace) (stand range items end callers) trace units 0 2 (stmts_walk acting left range perform stmts memory units) (omega arith)
            (stmts-do stmts fits items end memory units trace refl)
        body-does (Performed entry exit) fits = λ turning rest end memory units trace.
            let items = Turn turning (Performed entry exit) ∷ rest in
            let e : units + 0 ≡ units = omega arith in
            subst (λ n. Meet (stand range (Do (Perform entry exit) ∷ items) end callers memory trace) (stand range items end callers) trace n 2 (perform (Part entry exit) memory units)) e
            (performs entry exit fits items end memory units 0 2 trace refl (omega arith))

      -- a jump does what is assumed of it, for fewer units
      abbrev Jumps : ℕ → (Label → Walking acting left) → Type 0
      Jumps most jump = (label : Label) (memory : Celled Memory) (units : ℕ) (trace : Trace) → units < most → Meet (root range (family.node range label) callers memory trace) (stand range [] Return callers) trace units 0 (jump label memory units)

      -- a step at an end that takes its unit
      unit-end : (end : End) (memory : Celled Memory) (next : State acting left family) (d : Walking acting left) (trace : Trace) (units most : ℕ) → step acting left family (stand range [] end callers memory trace) ≡ next → cost acting (stand range [] end callers memory trace) ≡ 1 →
          units < suc most → ((n : ℕ) → n < most → Meet next (stand range [] Return callers) trace n 2 (d memory n)) →
          Meet (stand range [] end callers memory trace) (stand range [] Return callers) trace units 0 (structural.unit_of doing whole d memory units)
      unit-end end memory next d trace zero most e p lt h = waits acting left family (stand range [] end callers memory trace) (stand range [] Return callers) trace 0 0 refl (omega (arith, p))
      unit-end end memory next d trace (suc n) most e p lt h =
          let i : n + 1 ≡ suc n = omega arith in
          subst (λ x. Meet (stand range [] end callers memory trace) (stand range [] Return callers) trace x 0 (d memory n)) i
          (meets-step acting left family (stand range [] end callers memory trace) next (stand range [] Return callers) trace n 1 2 0 (d memory n) e p (omega arith) (h n (omega (arith, lt))))

      module _ (most : ℕ) (jump : Label → Walking acting left) (jumps : Jumps most jump) where
        -- the arm that was picked
        abbrev Chosen : Trees → Type 0
        Chosen arms = (k : ℕ) (memory : Celled Memory) (units : ℕ) (trace : Trace) (level : Level) → level.range ≡ range → units < suc most →
            Meet (picked acting left family (tree_at arms k) (record { level = level; callers = callers; memory = memory; run = record { trace = trace; standing = Going } })) (stand range [] Return callers) trace units 0 (trees_walk acting left range perform arms jump k memory units)

        abbrev Treed : Tree → Type 0
        Treed t = (memory : Celled Memory) (units : ℕ) (trace : Trace) → units < suc most → Meet (root range t callers memory trace) (stand range [] Return callers) trace units 0 (tree_walks acting left range perform t jump memory units)

        none-chosen : Chosen no_more
        none-chosen k memory units trace level is lt =
            is-here acting left family (record { level = level; callers = callers; memory = memory; run = record { trace = trace; standing = Over Lost } }) (stand range [] Return callers) trace [] units 0 (Over Lost) (ap (λ t. ran acting left family t (Over Lost)) (sym (append-nil trace))) (λ e. cc)

        some-chosen : (first : Tree) (others : Trees) → Treed first → Chosen others → Chosen (more first others)
        some-chosen first others one next zero memory units trace level is lt =
            subst (λ r. Meet (root r first callers memory trace) (stand range [] Return callers) trace units 0 (tree_walks acting left range perform first jump memory units)) (sym is) (one memory units trace lt)
        some-chosen first others one next (suc k) memory units trace level is lt = next k memory units trace level is lt

        picks-do : (arms : Trees) → Chosen arms → (value : Tried (Celled Memory) ℕ) (start : State acting left family) (units : ℕ) (trace : Trace) → start.level.range ≡ range → start.callers ≡ callers → start.run ≡ record { trace = trace; standing = Going } → units < suc most →
            Meet (picks acting left family arms value start) (stand range [] Return callers) trace units 2 (structural.gets doing whole value (trees_walk acting left range perform arms jump) units)
        picks-do arms chosen (Got shown k memory) start units trace r c is lt =
            let next = λ (t : Trace) (who : List Level). picked acting left family (tree_at arms k) (record { level = start.level; callers = who; memory = memory; run = record { trace = t; standing = Going } }) in
            let e : picks acting left family arms (Got shown k memory) start ≡ next (trace ++ shown) callers =
            ap (λ x. picked acting left family (tree_at arms k) (record { level = start.level; callers = start.callers; memory = memory; run = record { trace = x.trace ++ shown; standing = x.standing } })) is ∙ ap (next (trace ++ shown)) c in
            subst (λ s. Meet s (stand range [] Return callers) trace units 2 (structural.behind doing whole shown (trees_walk acting left range perform arms jump k memory units))) (sym e)
            (meets-slack acting left family (next (trace ++ shown) callers) (stand range [] Return callers) trace units 0 2 (structural.behind doing whole shown (trees_walk acting left range perform arms jump k memory units)) (omega arith)
            (meets-behind acting left family doing (next (trace ++ shown) callers) (stand range [] Return callers) trace shown units 0 (trees_walk acting left range perform arms jump k memory units)
            (chosen k memory units (trace ++ shown) start.level r lt)))
        picks-do arms chosen (Ends shown kind memory) start units trace r c is lt =
            is-here acting left family (picks acting left family arms (Ends shown kind memory) start) (stand range [] Return callers) trace (shown ++ []) units 2 (Over (Stopped (Abend kind) (left memory.own)))
            (ap (λ x. ran acting left family (x.trace ++ shown) (Over (Stopped (Abend kind) (left memory.own)))) is ∙ ap (λ t. ran acting left family (trace ++ t) (Over (Stopped (Abend kind) (left memory.own)))) (sym (append-nil shown))) (λ e. cc)

        -- the run ends at this end
        over-does : (end : End) (memory : Celled Memory) (trace : Trace) (units : ℕ) (ending : Ending Left) → (step acting left family (stand range [] end callers memory trace)).run ≡ ran acting left family trace (Over ending) → cost acting (stand range [] end callers memory trace) ≡ 0 →
            Meet (stand range [] end callers memory trace) (stand range [] Return callers) trace units 0 (Stands [] (Over ending))
        over-does end memory trace units ending is p = record {
          payment = record {
            steps = 1;
            paid = omega (arith, p);
            lacks = λ going. absurd (cc);
            shown = inl (is ∙ ap (λ t. ran acting left family t (Over ending)) (sym (append-nil trace)));
          };
          few = omega arith;
        }

        mutual
          tree-does : (t : Tree) → TreeFits calls Reads Writes t → Treed t
          tree-does (tree body end) fits = λ memory units trace lt.
              meets-then acting left family doing (stand range (before body []) end callers memory trace) (stand range [] end callers) (stand range [] Return callers) trace units 0 0 0 (stmts_walk acting left range perform body memory units) (end_walks acting left range perform end jump)
              (omega arith) (stmts-do body fits.0 [] end memory units trace refl) (λ m rest t le. end-does end fits.1 m rest t (omega (arith, le, lt)))

          end-does : (end : End) → EndFits calls Reads Writes end → (memory : Celled Memory) (units : ℕ) (trace : Trace) → units < suc most → Meet (stand range [] end callers memory trace) (stand range [] Return callers) trace units 0 (end_walks acting left range perform end jump memory units)
          end-does (Pick picker arms) fits = λ memory units trace lt.
              unit-end (Pick picker arms) memory (picks acting left family arms (doing.pick picker memory) (stand range [] (Pick picker arms) callers memory trace)) (λ m n. structural.gets doing whole (doing.pick picker m) (trees_walk acting left range perform arms jump) n) trace units most refl refl lt
              (λ n less. picks-do arms (trees-do arms fits.1) (doing.pick picker memory) (stand range [] (Pick picker arms) callers memory trace) n trace refl refl refl (omega (arith, less)))
          end-does (Jump to) fits = λ memory units trace lt.
              let next = root range (family.node range to) callers memory trace in
              unit-end (Jump to) memory next (jump to) trace units most refl refl lt
              (λ n less. meets-slack acting left family next (stand range [] Return callers) trace n 0 2 (jump to memory n) (omega arith) (jumps to memory n trace less))
          end-does Return fits = λ memory units trace lt. went acting left family (stand range [] Return callers memory trace) (stand range [] Return callers) memory trace units 0 refl
          end-does Stop fits = λ memory units trace lt. over-does Stop memory trace units (Stopped Normally (left memory.own)) refl refl
          end-does Dead fits = λ memory units trace lt. over-does Dead memory trace units Lost refl refl

          trees-do : (arms : Trees) → TreesFit calls Reads Writes arms → Chosen arms
          trees-do no_more fits = none-chosen
          trees-do (more first others) fits = some-chosen first others (tree-does first fits.0) (trees-do others fits.1)

      node-does : (most : ℕ) → ((label : Label) → TreeFits calls Reads Writes (family.node range label)) → Jumps most (node_walks acting left range perform (family.node range) most)
      node-does zero fits label memory units trace lt = absurd (omega (arith, lt))
      node-does (suc most) fits label memory units trace lt =
          tree-does most (node_walks acting left range perform (family.node range) most) (node-does most fits) (family.node range label) (fits label) memory units trace lt

  -- each range of the order does, whoever performs it, what it does by recursion
  pub order-can : (Reads Writes : Range → ℕ → Type 0) (order : List Range) → Ordered Reads Writes family order → (r : Range) → In r order → Can (performed acting left family order) r
  order-can Reads Writes [] ordered r here = absurd (let e : false ≡ true = here in cc)
  order-can Reads Writes (first ∷ others) ordered r here = λ callers memory units trace.
      let perform = performed acting left family others in
      elim (same_range first r) as (λ t. same_range first r ≡ t → (if t then true else is_in r others) ≡ true →
      Meet (root r (family.node r (family.entry r)) callers memory trace) (stand r [] Return callers) trace units 0 ((if t then graph_walks acting left first perform (family.node first) (family.entry first) else perform r) memory units)) [
        | true ↦ λ is here.
            let e : first ≡ r = same-range first r is in
            subst (λ x. Meet (root x (family.node x (family.entry x)) callers memory trace) (stand x [] Return callers) trace units 0 (graph_walks acting left first perform (family.node first) (family.entry first) memory units)) e
            (node-does first callers perform (Reads first) (Writes first) (suc units) (λ label. tree-more (λ to. In to others) (Can perform) (Reads first) (Reads first) (Writes first) (Writes first) (order-can Reads Writes others ordered.2) (λ c h. h) (λ c h. h) (family.node first label) (ordered.1 label)) (family.entry first) memory units trace (omega arith))
        | false ↦ λ is here. order-can Reads Writes others ordered.2 r here callers memory units trace
      ] refl here

  module _ (range : Range) (memory : Celled Memory) where
    abbrev begun : State acting left family
    begun = walk_begun acting left family range memory

    abbrev Pays : ℕ → outcome.Run Left → Type 0
    Pays units run = (payment : Payment (step acting left family) (shows acting left family) (cost acting) parted begun units run) × (payment.steps ≤ 3 * units + 2)

    outcome-pays : (units : ℕ) (o : Outcome (Celled Memory) Left) → Meet begun (stand range [] Return []) [] units 0 o → Pays units (run_of acting left family o)
    outcome-pays units (Went shown memory rest) h =
        let a = spent-add (step acting left family) (cost acting) h.0 1 begun in let f = ap (paid acting left family 1) h.1 in let u = h.2 in let v = h.3 in (
          record {
            steps = h.0 + 1;
            paid = omega (arith, a, f, u);
            lacks = λ going. absurd (cc);
            shown = inl (ap (λ s. s.run) (iterate-add (step acting left family) h.0 1 begun ∙ ap (step acting left family) h.1));
          },
          omega (arith, v),
        )
    outcome-pays units (Stands shown standing) h =
        (h.payment, (let v = h.few in omega (arith, v)))

  -- the walk by recursion pays the steps of the walk step by step, three of which are at most a unit
  pub walked-pays : (Reads Writes : Range → ℕ → Type 0) (order : List Range) → Ordered Reads Writes family order → (r : Range) → In r order → (memory : Celled Memory) (units : ℕ) → Pays r memory units (walked acting left family order r memory units)
  walked-pays Reads Writes order ordered r here memory units =
      outcome-pays r memory units (performed acting left family order r memory units) (order-can Reads Writes order ordered r here [] memory units [])

  -- the walk by recursion and the walk step by step are tied
  pub walked-tied : (Reads Writes : Range → ℕ → Type 0) (order : List Range) → Ordered Reads Writes family order → (r : Range) → In r order → Tied (walked acting left family order r) (meaning (walk_machine acting left family r))
  walked-tied Reads Writes order ordered r here =
      let m = walk_machine acting left family r in
      let grows = walks-grow acting left family r in
      let pays = walked-pays Reads Writes order ordered r here in
      record {
        there = 6;
        back = 2;
        covered = λ memory n k le.
            let p = pays memory n in
            let few = p.1 in
            elim p.0.shown [
              | inl is ↦ subst (λ x. Covers x (meaning m memory k)) is (later-covers m grows p.0.steps k (m.begun memory) (omega (arith, few, le)))
              | inr w ↦ next-covers m grows p.0.steps k (m.begun memory) (walked acting left family order r memory n) w.1.short (later-covers m grows (p.0.steps + 1) k (m.begun memory) (omega (arith, few, le)))
            ];
        covers = λ memory n k le.
            paid-covers m grows (cost acting) parted (m.begun memory) k (walked acting left family order r memory k) (pays memory k).0 n
            (let e = cheap n (m.begun memory) in omega (arith, e, le));
      }
    where
      cheap : (n : ℕ) (s : State acting left family) → paid acting left family n s ≤ 2 * n
      cheap zero s = omega arith
      cheap (suc n) s = let e = cheap n (step acting left family s) in let f = cost-most acting s in omega (arith, e, f)

  pub walked-steady : (Reads Writes : Range → ℕ → Type 0) (order : List Range) → Ordered Reads Writes family order → (r : Range) → In r order → Steady (walked acting left family order r)
  walked-steady Reads Writes order ordered r here =
      paid-steady (walk_machine acting left family r) (walks-grow acting left family r) (cost acting) parted (walked acting left family order r) (λ memory units. (walked-pays Reads Writes order ordered r here memory units).0)

-- The same from the memories of some worlds.
module _ {Memory Left World : Type 0} (acting : Acting Memory) (left : Memory → Left) (memory : World → Celled Memory) (family : Family) where
  pub grows-from : (r : Range) → Grows (machine_from acting left memory family r)
  grows-from r = let grows = walks-grow acting left family r in record { more = grows.more; stays = grows.stays }

  pub paid-from : (Reads Writes : Range → ℕ → Type 0) (order : List Range) → Ordered Reads Writes family order → (r : Range) → In r order → Paid (walked_from acting left memory family order r) (machine_from acting left memory family r) (cost acting) parted
  paid-from Reads Writes order ordered r here world units = (walked-pays acting left family Reads Writes order ordered r here (memory world) units).0

  pub steady-from : (Reads Writes : Range → ℕ → Type 0) (order : List Range) → Ordered Reads Writes family order → (r : Range) → In r order → Steady (walked_from acting left memory family order r)
  steady-from Reads Writes order ordered r here world = walked-steady acting left family Reads Writes order ordered r here (memory world)
