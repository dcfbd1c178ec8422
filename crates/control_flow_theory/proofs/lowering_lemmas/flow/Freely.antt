-- What an item of a source program does, it does by some ways.
use Rattle.std.proofs.Common.{◌≡◌, ◌≢◌, ℕ, zero, suc, ◌<◌, Bool, true, false, if◌then◌else◌, List, [], ◌∷◌, ◌++◌, refl, ap, sym, ◌∙◌, subst, arith, Option, Some, None}
use Rattle.std.specs.Prelude.{slice_get, length}
use Rattle.control_flow_theory.specs.semantics.Outcome.{Trace, Tried, Got, Ends}
use Rattle.control_flow_theory.specs.language.Language.{Amount, Act, Own, Set, Take, Lower, Test, Picker, If, By, ByCell, Control, Times, Until, Varying, Stmt, Choose, Loop, Perform, Go, GoDepending, NextSentence, ExitParagraph, ExitSection, ExitPerform, StopRun, Arms, Body, Range}
use Rattle.control_flow_theory.specs.language.Language as language
use Rattle.control_flow_theory.specs.semantics.Doing.{Acting, Doing, giving, arm_of, alone, alone_act, alone_test, alone_pick}
use Rattle.control_flow_theory.specs.language.Items.{Turning, Counted, Tests, Steps, StepsAfter, Item, Do, SentenceEnd, Turn, before_body, before_arm, past_sentence, from_loop}
use Rattle.control_flow_theory.specs.semantics.Items.{Way, On, Halts, Into, To, ToEnd, way_after, tried, on, first_turn, loop_begins, turns, tests, steps_on, turn_way, to_one, item_way}
use Rattle.control_flow_theory.specs.lowering.FlowFacts.{FlowFacts, IsTold, MayGive, OwnPicker, arm_count}
use Rattle.control_flow_theory.specs.lowering.flow.Paths.{is_first, is_below, first_arm, not_dead, arm_for, free_pick, free}
use Rattle.control_flow_theory.proofs.lowering_lemmas.rests.Wholes.{OwnItem, Gives, pick-gives}
use Rattle.control_flow_theory.proofs.lowering_lemmas.steps.Tries.{any, NoInto, tried-no-into}

-- by some ways the second does what the first does
abbrev pub Freely : {Memory : Type 0} → Way Memory → (List ℕ → Way (List ℕ)) → Type 0
Freely (On trace memory items) f = (ways : List ℕ) × ((more : List ℕ) → f (ways ++ more) ≡ On [] more items)
Freely (Halts trace how memory) f = Unit {0}
Freely (Into entry exit items) f = (more : List ℕ) → f more ≡ Into entry exit items
Freely (To trace memory to) f = (ways : List ℕ) × ((more : List ℕ) → f (ways ++ more) ≡ To [] more to)
Freely (ToEnd trace memory to) f = (ways : List ℕ) × ((more : List ℕ) → f (ways ++ more) ≡ ToEnd [] more to)

below-told : (k n : ℕ) → k < n → is_below k n ≡ true
below-told k zero lt = absurd (omega (arith, lt))
below-told zero (suc n) lt = refl
below-told (suc k) (suc n) lt = below-told k n (omega (arith, lt))

alive : (never : Bool) (k : ℕ) → (never ≡ true → k ≢ 0) → not_dead never k ≡ k
alive true zero h = absurd (h refl refl)
alive true (suc n) h = refl
alive false k h = refl

pub arm-told : (width : ℕ) (never : Bool) (k : ℕ) → MayGive width never k → arm_for width never k ≡ k
arm-told width never k may = ap (λ b. if b then not_dead never k else first_arm never) (below-told k width may.0) ∙ alive never k may.1

abbrev done : List ℕ → Tried (List ℕ) (Unit {0})
done ways = Got [] tt ways

abbrev number_of : Bool → ℕ
number_of true = 0
number_of false = 1

module _ {Memory : Type 0} where
  -- the first way is spent, and then some more
  spent : (k : ℕ) (w : Way Memory) (f g : List ℕ → Way (List ℕ)) → NoInto w → ((more : List ℕ) → f (k ∷ more) ≡ way_after [] (g more)) → Freely w g → Freely w f
  spent k (On t m items) f g plain e h = (k ∷ h.0, λ more. e (h.0 ++ more) ∙ ap (way_after []) (h.1 more))
  spent k (Halts t how m) f g plain e h = tt
  spent k (Into entry exit items) f g plain e h = absurd plain
  spent k (To t m to) f g plain e h = (k ∷ h.0, λ more. e (h.0 ++ more) ∙ ap (way_after []) (h.1 more))
  spent k (ToEnd t m to) f g plain e h = (k ∷ h.0, λ more. e (h.0 ++ more) ∙ ap (way_after []) (h.1 more))

  unspent : (w : Way Memory) (f g : List ℕ → Way (List ℕ)) → ((more : List ℕ) → f more ≡ way_after [] (g more)) → Freely w g → Freely w f
  unspent (On t m items) f g e h = (h.0, λ more. e (h.0 ++ more) ∙ ap (way_after []) (h.1 more))
  unspent (Halts t how m) f g e h = tt
  unspent (Into entry exit items) f g e h = λ more. e more ∙ ap (way_after []) (h more)
  unspent (To t m to) f g e h = (h.0, λ more. e (h.0 ++ more) ∙ ap (way_after []) (h.1 more))
  unspent (ToEnd t m to) f g e h = (h.0, λ more. e (h.0 ++ more) ∙ ap (way_after []) (h.1 more))

  after-freely : (t : Trace) (w : Way Memory) (f : List ℕ → Way (List ℕ)) → Freely w f → Freely (way_after t w) f
  after-freely t (On s m items) f h = h
  after-freely t (Halts s how m) f h = tt
  after-freely t (Into entry exit items) f h = h
  after-freely t (To s m to) f h = h
  after-freely t (ToEnd s m to) f h = h

  -- a part that gives a value, which a way names
  tried-freely : {Value : Type 0} (P : Value → Type 0) (a : Tried Memory Value) (g : Value → Memory → Way Memory) (b : List ℕ → Tried (List ℕ) Value) (h : Value → List ℕ → Way (List ℕ)) (name : Value → ℕ) →
      Gives P a → ((v : Value) (m : Memory) → NoInto (g v m)) → ((v : Value) (more : List ℕ) → P v → b (name v ∷ more) ≡ Got [] v more) → ((v : Value) (m : Memory) → P v → Freely (g v m) (h v)) → Freely (tried a g) (λ ways. tried (b ways) h)
  tried-freely P (Got t v m) g b h name p plain e k = after-freely t (g v m) (λ ways. tried (b ways) h) (spent (name v) (g v m) (λ ways. tried (b ways) h) (h v) (plain v m) (λ more. ap (λ x. tried x h) (e v more p)) (k v m p))
  tried-freely P (Ends t kind m) g b h name p plain e k = tt

  act-freely : (a : Tried Memory (Unit {0})) (g : Memory → Way Memory) (h : List ℕ → Way (List ℕ)) → ((m : Memory) → Freely (g m) h) → Freely (tried a (λ u. g)) (λ ways. tried (done ways) (λ u. h))
  act-freely (Got t u m) g h k = after-freely t (g m) (λ ways. tried (done ways) (λ u. h)) (unspent (g m) (λ ways. tried (done ways) (λ u. h)) h (λ more. refl) (k m))
  act-freely (Ends t kind m) g h k = tt

module _ {Memory : Type 0} (acting : Acting Memory) (told : FlowFacts) (is_told : IsTold told acting) (paragraphs : ℕ) where
  abbrev S : Doing Memory
  S = alone acting

  abbrev F : Doing (List ℕ)
  F = free told

  -- the arm of IF
  abbrev IsArm : ℕ → Type 0
  IsArm k = (b : Bool) × (k ≡ arm_of b)

  arm-gives : (a : Tried Memory Bool) → Gives IsArm (giving arm_of a)
  arm-gives (Got t b m) = (b, refl)
  arm-gives (Ends t kind m) = tt

  arm-named : (k : ℕ) (more : List ℕ) → IsArm k → Got [] (arm_of (is_first k)) more ≡ Got [] k more
  arm-named k more p = ap (λ n. Got [] n more) (subst (λ n. arm_of (is_first n) ≡ n) (sym p.1) (elim p.0 as (λ b. arm_of (is_first (arm_of b)) ≡ arm_of b) [ true ↦ refl | false ↦ refl ]))

  test-freely : (test : Test) (m : Memory) (g : Bool → Memory → Way Memory) (h : Bool → List ℕ → Way (List ℕ)) → ((b : Bool) (now : Memory) → NoInto (g b now)) → ((b : Bool) (now : Memory) → Freely (g b now) (h b)) → Freely (tried (alone_test acting test m) g) (λ ways. tried (F.test test ways) h)
  test-freely test m g h plain k = tried-freely (λ v. Unit {0}) (alone_test acting test m) g (F.test test) h number_of (any (alone_test acting test m)) plain (λ v more p. elim v as (λ b. F.test test (number_of b ∷ more) ≡ Got [] b more) [ true ↦ refl | false ↦ refl ]) (λ v now p. k v now)

  count-freely : (amount : Amount) (m : Memory) (g : ℕ → Memory → Way Memory) (h : ℕ → List ℕ → Way (List ℕ)) → ((n : ℕ) (now : Memory) → NoInto (g n now)) → ((n : ℕ) (now : Memory) → Freely (g n now) (h n)) → Freely (tried (acting.count amount m) g) (λ ways. tried (F.count amount ways) h)
  count-freely amount m g h plain k = tried-freely (λ v. Unit {0}) (acting.count amount m) g (F.count amount) h (λ n. n) (any (acting.count amount m)) plain (λ v more p. refl) (λ v now p. k v now)

  on-freely : (items : List Item) (m : Memory) → Freely (on S items m) (on F items)
  on-freely items m = ([], λ more. refl)

  steps-freely : (ended : Bool) (step : Act) (test : Test) (body : Body) (rest : List Item) (m : Memory) → Freely (steps_on S ended step test body rest m) (steps_on F ended step test body rest)
  steps-freely true step test body rest m = on-freely rest m
  steps-freely false step test body rest m = act-freely (alone_act acting step m) (on S (before_body body (Turn (StepsAfter step test) body ∷ rest))) (on F (before_body body (Turn (StepsAfter step test) body ∷ rest))) (λ now. on-freely (before_body body (Turn (StepsAfter step test) body ∷ rest)) now)

  steps-plain : (ended : Bool) (step : Act) (test : Test) (body : Body) (rest : List Item) (m : Memory) → NoInto (steps_on S ended step test body rest m)
  steps-plain true step test body rest m = tt
  steps-plain false step test body rest m = tried-no-into (alone_act acting step m) (λ u. on S (before_body body (Turn (StepsAfter step test) body ∷ rest))) (λ u now. tt)

  one-plain : (o : Option ℕ) (rest : List Item) (m : Memory) → NoInto (to_one S o rest m)
  one-plain None rest m = tt
  one-plain (Some to) rest m = tt

  round-freely : (ended : Bool) (turning : Turning) (body : Body) (rest : List Item) (m : Memory) → Freely (on S (turns S ended turning body rest) m) (on F (turns F ended turning body rest))
  round-freely true turning body rest m = on-freely rest m
  round-freely false turning body rest m = on-freely (before_body body (Turn turning body ∷ rest)) m

  tests-freely : (test : Test) (turning : Turning) (body : Body) (rest : List Item) (m : Memory) → Freely (tests S test turning body rest m) (tests F test turning body rest)
  tests-freely test turning body rest m = test-freely test m (λ ended. on S (turns S ended turning body rest)) (λ ended. on F (turns F ended turning body rest)) (λ b now. tt) (λ b now. round-freely b turning body rest now)

  turn-freely : (turning : Turning) (body : Body) (rest : List Item) (m : Memory) → Freely (turn_way S turning body rest m) (turn_way F turning body rest)
  turn-freely (Counted zero) body rest m = on-freely rest m
  turn-freely (Counted (suc n)) body rest m = on-freely (before_body body (Turn (Counted n) body ∷ rest)) m
  turn-freely (Tests test) body rest m = tests-freely test (Tests test) body rest m
  turn-freely (Steps false step test) body rest m = tests-freely test (Steps true step test) body rest m
  turn-freely (Steps true step test) body rest m = act-freely (alone_act acting step m) (tests S test (Steps true step test) body rest) (tests F test (Steps true step test) body rest) (λ now. tests-freely test (Steps true step test) body rest now)
  turn-freely (StepsAfter step test) body rest m = test-freely test m (λ ended. steps_on S ended step test body rest) (λ ended. steps_on F ended step test body rest) (λ b now. steps-plain b step test body rest now) (λ b now. steps-freely b step test body rest now)

  first-freely : (after : Bool) (turning : Turning) (body : Body) (rest : List Item) (m : Memory) → Freely (on S (first_turn S after turning body rest) m) (on F (first_turn F after turning body rest))
  first-freely false turning body rest m = on-freely (Turn turning body ∷ rest) m
  first-freely true turning body rest m = on-freely (before_body body (Turn turning body ∷ rest)) m

  loop-freely : (control : Control) (body : Body) (rest : List Item) (m : Memory) → Freely (loop_begins S control body rest m) (loop_begins F control body rest)
  loop-freely (Times amount) body rest m = count-freely amount m (λ n. on S (Turn (Counted n) body ∷ rest)) (λ n. on F (Turn (Counted n) body ∷ rest)) (λ n now. tt) (λ n now. on-freely (Turn (Counted n) body ∷ rest) now)
  loop-freely (Until after test) body rest m = first-freely after (Tests test) body rest m
  loop-freely (Varying false set step test) body rest m = act-freely (alone_act acting set m) (on S (Turn (Steps false step test) body ∷ rest)) (on F (Turn (Steps false step test) body ∷ rest)) (λ now. on-freely (Turn (Steps false step test) body ∷ rest) now)
  loop-freely (Varying true set step test) body rest m = act-freely (alone_act acting set m) (on S (before_body body (Turn (StepsAfter step test) body ∷ rest))) (on F (before_body body (Turn (StepsAfter step test) body ∷ rest))) (λ now. on-freely (before_body body (Turn (StepsAfter step test) body ∷ rest)) now)

  one-freely : (o : Option ℕ) (rest : List Item) (m : Memory) → Freely (to_one S o rest m) (to_one F o rest)
  one-freely None rest m = on-freely rest m
  one-freely (Some to) rest m = ([], λ more. refl)

  pick-freely : (picker : Picker) (arms : ℕ) (m : Memory) (g : ℕ → Memory → Way Memory) (h : ℕ → List ℕ → Way (List ℕ)) → OwnPicker told picker arms → ((k : ℕ) (now : Memory) → NoInto (g k now)) → ((k : ℕ) (now : Memory) → Freely (g k now) (h k)) → Freely (tried (alone_pick acting picker m) g) (λ ways. tried (free_pick told picker ways) h)
  pick-freely (If test) arms m g h own plain k =
      tried-freely IsArm (giving arm_of (alone_test acting test m)) g (free_pick told (If test)) h (λ n. n) (arm-gives (alone_test acting test m)) plain (λ v more p. arm-named v more p) (λ v now p. k v now)
  pick-freely (By chooser) arms m g h own plain k =
      tried-freely (MayGive arms (told.never_first chooser)) (acting.choose chooser m) g (free_pick told (By chooser)) h (λ n. n) (pick-gives acting told is_told paragraphs (By chooser) arms m own) plain
      (λ v more may. ap (λ z. Got [] z more) (ap (λ w. arm_for w (told.never_first chooser) v) own ∙ arm-told arms (told.never_first chooser) v may)) (λ v now p. k v now)
  pick-freely (ByCell cell) arms m g h own plain k = absurd own

  pub item-freely : (x : Item) (rest : List Item) (m : Memory) → OwnItem told paragraphs x → Freely (item_way S x rest m) (item_way F x rest)
  item-freely (Do (language.Do act)) rest m own = act-freely (alone_act acting act m) (on S rest) (on F rest) (λ now. on-freely rest now)
  item-freely (Do (Choose picker arms)) rest m own = pick-freely picker (arm_count arms) m (λ k. on S (before_arm arms k rest)) (λ k. on F (before_arm arms k rest)) own.0 (λ k now. tt) (λ k now. on-freely (before_arm arms k rest) now)
  item-freely (Do (Loop control body)) rest m own = loop-freely control body rest m
  item-freely (Do (Perform e x)) rest m own = λ more. refl
  item-freely (Do (Go to)) rest m own = ([], λ more. refl)
  item-freely (Do (GoDepending to chooser)) rest m own = pick-freely (By chooser) (suc (length to)) m (λ k. to_one S (slice_get to k) rest) (λ k. to_one F (slice_get to k) rest) own.0 (λ k now. one-plain (slice_get to k) rest now) (λ k now. one-freely (slice_get to k) rest now)
  item-freely (Do NextSentence) rest m own = on-freely (past_sentence rest) m
  item-freely (Do ExitParagraph) rest m own = on-freely [] m
  item-freely (Do (ExitSection last)) rest m own = ([], λ more. refl)
  item-freely (Do (ExitPerform cycle)) rest m own = on-freely (from_loop cycle rest) m
  item-freely (Do StopRun) rest m own = tt
  item-freely SentenceEnd rest m own = on-freely rest m
  item-freely (Turn turning body) rest m own = turn-freely turning body rest m
