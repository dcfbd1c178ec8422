-- What an item does that came out of a statement without an escape is the same in the source and in the walk.
use Rattle.std.proofs.Common.{◌≡◌, ℕ, zero, suc, Bool, true, false, if◌then◌else◌, List, ◌∷◌, ◌++◌, refl, ap, sym, subst, arith}
use Rattle.control_flow_theory.specs.semantics.Outcome.{Trace, Tried, Got, Ends}
use Rattle.control_flow_theory.specs.language.Language.{Act, Test, Picker, If, By, ByCell, Control, Times, Until, Varying, Stmt, Choose, Loop, Perform, Go, GoDepending, NextSentence, ExitParagraph, ExitSection, ExitPerform, StopRun, Stmts, none, also, Arms, Body, Nested, Performed, Range}
use Rattle.control_flow_theory.specs.language.Language as language
use Rattle.control_flow_theory.specs.semantics.Doing.{Acting, Doing, giving, keeping, arm_of, alone, alone_act, alone_test, alone_pick, Celled, own_is, celled, celled_act}
use Rattle.control_flow_theory.specs.language.Items.{Turning, Counted, Tests, Steps, StepsAfter, Item, Do, SentenceEnd, Turn, before_body, before_arm}
use Rattle.control_flow_theory.specs.semantics.Items.{Way, On, Halts, Into, To, ToEnd, way_after, tried, on, first_turn, varying, loop_begins, turns, tests, steps_on, turn_way, stmt_way, item_way}
use Rattle.control_flow_theory.specs.semantics.Graph.{Tree, End}
use Rattle.control_flow_theory.specs.language.Own.{OwnAct, OwnTest, OwnControl}
use Rattle.control_flow_theory.specs.lowering.FlowFacts.{FlowFacts, MayGive, ChoiceIsTold, IsTold, OwnPicker, OwnStmt, OwnBody, arm_count}
use Rattle.control_flow_theory.specs.lowering.Completes.{first_is_dead, completes, body_completes, body_leaves_loop, cut_arms, cut_body, whole_body}
use Rattle.control_flow_theory.proofs.lowering_lemmas.rests.Parts.{celled-acts, celled-tests, celled-picks}
use Rattle.control_flow_theory.proofs.lowering_lemmas.rests.Stands.{body-append, arm-append, cut_item, whole_item, item_completes, Stands, stands-body, stands-arm, after-completes}

abbrev pub OwnTurning : Turning → Type 0
OwnTurning (Counted left) = Unit {0}
OwnTurning (Tests test) = OwnTest test
OwnTurning (Steps reached step test) = OwnAct step × OwnTest test
OwnTurning (StepsAfter step test) = OwnAct step × OwnTest test

abbrev pub OwnItem : FlowFacts → ℕ → Item → Type 0
OwnItem told paragraphs (Do stmt) = OwnStmt told paragraphs stmt
OwnItem told paragraphs SentenceEnd = Unit {0}
OwnItem told paragraphs (Turn turning body) = OwnTurning turning × OwnBody told paragraphs body

-- a way of the source and one of the walk: they do the same, and what is now to do is related
abbrev pub Alike : {Memory : Type 0} → (Range → ℕ → ℕ) → (List Item → List Item → Type 0) → (ℕ → ℕ → List Item → List Item → Type 0) → Way Memory → Way (Celled Memory) → Type 0
Alike cells R Q (On s m a) (On t c b) = (s ≡ t) × (c ≡ record { own = m; cells = cells }) × R a b
Alike cells R Q (On s m a) (Halts t how c) = ⊥
Alike cells R Q (On s m a) (Into e x b) = ⊥
Alike cells R Q (On s m a) (To t c to) = ⊥
Alike cells R Q (On s m a) (ToEnd t c to) = ⊥
Alike cells R Q (Halts s how m) (On t c b) = ⊥
Alike cells R Q (Halts s how m) (Halts t so c) = (s ≡ t) × (how ≡ so) × (m ≡ c.own)
Alike cells R Q (Halts s how m) (Into e x b) = ⊥
Alike cells R Q (Halts s how m) (To t c to) = ⊥
Alike cells R Q (Halts s how m) (ToEnd t c to) = ⊥
Alike cells R Q (Into e x a) (On t c b) = ⊥
Alike cells R Q (Into e x a) (Halts t how c) = ⊥
Alike cells R Q (Into e x a) (Into f y b) = (e ≡ f) × (x ≡ y) × Q e x a b
Alike cells R Q (Into e x a) (To t c to) = ⊥
Alike cells R Q (Into e x a) (ToEnd t c to) = ⊥
Alike cells R Q (To s m to) b = ⊥
Alike cells R Q (ToEnd s m to) b = ⊥

abbrev pub Gives : {Memory Value : Type 0} → (Value → Type 0) → Tried Memory Value → Type 0
Gives P (Got trace value memory) = P value
Gives P (Ends trace kind memory) = Unit {0}

module _ {Memory : Type 0} (cells : Range → ℕ → ℕ) (R : List Item → List Item → Type 0) (Q : ℕ → ℕ → List Item → List Item → Type 0) where
  abbrev with_cells : Memory → Celled Memory
  with_cells m = record { own = m; cells = cells }

  pub after-alike : (trace : Trace) (a : Way Memory) (b : Way (Celled Memory)) → Alike cells R Q a b → Alike cells R Q (way_after trace a) (way_after trace b)
  after-alike trace (On s m a) (On t c b) h = (ap (λ x. trace ++ x) h.0, h.1, h.2)
  after-alike trace (Halts s how m) (Halts t so c) h = (ap (λ x. trace ++ x) h.0, h.1, h.2)
  after-alike trace (Into e x a) (Into f y b) h = h
  after-alike trace a b h = absurd h

  pub tried-alike : {Value : Type 0} (P : Value → Type 0) (m : Memory) (a : Tried Memory Value) (f : Value → Memory → Way Memory) (h : Value → Celled Memory → Way (Celled Memory)) →
      Gives P a → ((value : Value) (now : Memory) → P value → Alike cells R Q (f value now) (h value (with_cells now))) → Alike cells R Q (tried a f) (tried (keeping (own_is (with_cells m)) a) h)
  tried-alike P m (Got trace value now) f h p k = after-alike trace (f value now) (h value (with_cells now)) (k value now p)
  tried-alike P m (Ends trace kind now) f h p k = (refl, refl, refl)

any : {Memory Value : Type 0} (a : Tried Memory Value) → Gives (λ v. Unit {0}) a
any (Got trace value now) = tt
any (Ends trace kind now) = tt

choice-gives : {Memory : Type 0} (width : ℕ) (first : Bool) (a : Tried Memory ℕ) → ChoiceIsTold width first a → Gives (MayGive width first) a
choice-gives width first (Got trace arm memory) h = h
choice-gives width first (Ends trace kind memory) h = tt

test-gives : {Memory : Type 0} (a : Tried Memory Bool) → Gives (MayGive 2 false) (giving arm_of a)
test-gives (Got trace true memory) = (omega arith, λ f. cc)
test-gives (Got trace false memory) = (omega arith, λ f. cc)
test-gives (Ends trace kind memory) = tt

module _ {Memory : Type 0} (acting : Acting Memory) (told : FlowFacts) (is_told : IsTold told acting) (paragraphs : ℕ) where
  -- what chooses gives the number of an arm
  pub pick-gives : (picker : Picker) (arms : ℕ) (m : Memory) → OwnPicker told picker arms → Gives (MayGive arms (first_is_dead told picker)) (alone_pick acting picker m)
  pick-gives (If test) arms m own = subst (λ n. Gives (MayGive n false) (alone_pick acting (If test) m)) (sym own.1) (test-gives (alone_test acting test m))
  pick-gives (By chooser) arms m own =
      subst (λ n. Gives (MayGive n (told.never_first chooser)) (acting.choose chooser m)) own (choice-gives (told.width chooser) (told.never_first chooser) (acting.choose chooser m) (is_told.chooses chooser m))
  pick-gives (ByCell cell) arms m own = absurd own

  module _ (range : Range) (cells : Range → ℕ → ℕ) (t : Tree) (end : End) (behind : List Item) where
    abbrev These : List Item → List Item → Type 0
    These xs zs = Stands told t end xs zs

    -- the source's items are these and now those behind them
    abbrev pub Behind : List Item → List Item → Type 0
    Behind a b = (ys : List Item) × (a ≡ ys ++ behind) × These ys b

    abbrev pub BehindWhere : ℕ → ℕ → List Item → List Item → Type 0
    BehindWhere e x a b = (ys : List Item) × (a ≡ ys ++ behind) × (told.returning e x ≡ true → These ys b)

    abbrev Both : Way Memory → Way (Celled Memory) → Type 0
    Both a b = Alike cells Behind BehindWhere a b

    abbrev here : Memory → Celled Memory
    here m = record { own = m; cells = cells }

    abbrev S : Doing Memory
    S = alone acting

    abbrev W : Doing (Celled Memory)
    W = celled acting range

    on-alike : (ys a b : List Item) (m : Memory) → a ≡ ys ++ behind → These ys b → Both (on S a m) (on W b (here m))
    on-alike ys a b m e h = (refl, refl, (ys, e, h))

    -- one more body, and the remainder
    body-alike : (body : Body) (turning : Turning) (xs zs : List Item) (m : Memory) → whole_body (cut_body told body) ≡ true → These xs zs →
        Both (on S (before_body body (Turn turning body ∷ (xs ++ behind))) m) (on W (before_body (cut_body told body) (Turn turning (cut_body told body) ∷ zs)) (here m))
    body-alike body turning xs zs m w h =
        on-alike (before_body body (Turn turning body ∷ xs)) (before_body body (Turn turning body ∷ (xs ++ behind))) (before_body (cut_body told body) (Turn turning (cut_body told body) ∷ zs)) m
        (sym (body-append body (Turn turning body ∷ xs) behind)) (stands-body told t end body (Turn turning body ∷ xs) (Turn turning (cut_body told body) ∷ zs) w (λ c. (refl, w, λ u. h)))

    round-alike : (ended : Bool) (body : Body) (turning : Turning) (xs zs : List Item) (m : Memory) → whole_body (cut_body told body) ≡ true → These xs zs →
        Both (on S (turns S ended turning body (xs ++ behind)) m) (on W (turns W ended turning (cut_body told body) zs) (here m))
    round-alike true body turning xs zs m w h = on-alike xs (xs ++ behind) zs m refl h
    round-alike false body turning xs zs m w h = body-alike body turning xs zs m w h

    test-alike : (test : Test) (body : Body) (turning : Turning) (xs zs : List Item) (m : Memory) → OwnTest test → whole_body (cut_body told body) ≡ true → These xs zs →
        Both (tests S test turning body (xs ++ behind) m) (tests W test turning (cut_body told body) zs (here m))
    test-alike test body turning xs zs m own w h =
        subst (λ c. Both (tests S test turning body (xs ++ behind) m) (tried c (λ ended. on W (turns W ended turning (cut_body told body) zs)))) (sym (celled-tests acting range test (here m) own))
        (tried-alike cells Behind BehindWhere (λ v. Unit {0}) m (alone_test acting test m) (λ ended. on S (turns S ended turning body (xs ++ behind))) (λ ended. on W (turns W ended turning (cut_body told body) zs)) (any (alone_test acting test m))
        (λ ended now p. round-alike ended body turning xs zs now w h))

    act-alike : (act : Act) (f : Memory → Way Memory) (h : Celled Memory → Way (Celled Memory)) (m : Memory) → OwnAct act → ((now : Memory) → Both (f now) (h (here now))) →
        Both (tried (alone_act acting act m) (λ u. f)) (tried (celled_act acting range act (here m)) (λ u. h))
    act-alike act f h m own k =
        subst (λ c. Both (tried (alone_act acting act m) (λ u. f)) (tried c (λ u. h))) (sym (celled-acts acting range act (here m) own))
        (tried-alike cells Behind BehindWhere (λ v. Unit {0}) m (alone_act acting act m) (λ u. f) (λ u. h) (any (alone_act acting act m)) (λ u now p. k now))

    step-alike : (ended : Bool) (step : Act) (test : Test) (body : Body) (xs zs : List Item) (m : Memory) → OwnAct step → whole_body (cut_body told body) ≡ true → These xs zs →
        Both (steps_on S ended step test body (xs ++ behind) m) (steps_on W ended step test (cut_body told body) zs (here m))
    step-alike true step test body xs zs m own w h = on-alike xs (xs ++ behind) zs m refl h
    step-alike false step test body xs zs m own w h =
        act-alike step (on S (before_body body (Turn (StepsAfter step test) body ∷ (xs ++ behind)))) (on W (before_body (cut_body told body) (Turn (StepsAfter step test) (cut_body told body) ∷ zs))) m own
        (λ now. body-alike body (StepsAfter step test) xs zs now w h)

    turn-alike : (turning : Turning) (body : Body) (xs zs : List Item) (m : Memory) → OwnTurning turning → whole_body (cut_body told body) ≡ true → These xs zs →
        Both (turn_way S turning body (xs ++ behind) m) (turn_way W turning (cut_body told body) zs (here m))
    turn-alike (Counted zero) body xs zs m own w h = on-alike xs (xs ++ behind) zs m refl h
    turn-alike (Counted (suc n)) body xs zs m own w h = body-alike body (Counted n) xs zs m w h
    turn-alike (Tests test) body xs zs m own w h = test-alike test body (Tests test) xs zs m own w h
    turn-alike (Steps false step test) body xs zs m own w h = test-alike test body (Steps true step test) xs zs m own.1 w h
    turn-alike (Steps true step test) body xs zs m own w h =
        act-alike step (tests S test (Steps true step test) body (xs ++ behind)) (tests W test (Steps true step test) (cut_body told body) zs) m own.0 (λ now. test-alike test body (Steps true step test) xs zs now own.1 w h)
    turn-alike (StepsAfter step test) body xs zs m own w h =
        subst (λ c. Both (turn_way S (StepsAfter step test) body (xs ++ behind) m) (tried c (λ ended. steps_on W ended step test (cut_body told body) zs))) (sym (celled-tests acting range test (here m) own.1))
        (tried-alike cells Behind BehindWhere (λ v. Unit {0}) m (alone_test acting test m) (λ ended. steps_on S ended step test body (xs ++ behind)) (λ ended. steps_on W ended step test (cut_body told body) zs) (any (alone_test acting test m))
        (λ ended now p. step-alike ended step test body xs zs now own.0 w h))

    -- the loop begins
    first-alike : (after : Bool) (turning : Turning) (body : Body) (xs zs : List Item) (m : Memory) → whole_body (cut_body told body) ≡ true → ((if after then body_completes told body else true) ≡ true → These xs zs) →
        Both (on S (first_turn S after turning body (xs ++ behind)) m) (on W (first_turn W after turning (cut_body told body) zs) (here m))
    first-alike false turning body xs zs m w h = on-alike (Turn turning body ∷ xs) (Turn turning body ∷ (xs ++ behind)) (Turn turning (cut_body told body) ∷ zs) m refl (refl, w, λ c. h refl)
    first-alike true turning body xs zs m w h =
        on-alike (before_body body (Turn turning body ∷ xs)) (before_body body (Turn turning body ∷ (xs ++ behind))) (before_body (cut_body told body) (Turn turning (cut_body told body) ∷ zs)) m
        (sym (body-append body (Turn turning body ∷ xs) behind)) (stands-body told t end body (Turn turning body ∷ xs) (Turn turning (cut_body told body) ∷ zs) w (λ c. (refl, w, λ u. h c)))

    loop-alike : (control : Control) (body : Body) (xs zs : List Item) (m : Memory) → OwnControl control → whole_body (cut_body told body) ≡ true → (completes told (Loop control body) ≡ true → These xs zs) →
        Both (loop_begins S control body (xs ++ behind) m) (loop_begins W control (cut_body told body) zs (here m))
    loop-alike (Times amount) body xs zs m own w h =
        tried-alike cells Behind BehindWhere (λ v. Unit {0}) m (acting.count amount m) (λ left. on S (Turn (Counted left) body ∷ (xs ++ behind))) (λ left. on W (Turn (Counted left) (cut_body told body) ∷ zs)) (any (acting.count amount m))
        (λ left now p. on-alike (Turn (Counted left) body ∷ xs) (Turn (Counted left) body ∷ (xs ++ behind)) (Turn (Counted left) (cut_body told body) ∷ zs) now refl (refl, w, λ c. h refl))
    loop-alike (Until after test) body xs zs m own w h = first-alike after (Tests test) body xs zs m w (λ k. h (after-completes after (body_completes told body) (body_leaves_loop told body) k))
    loop-alike (Varying after set step test) body xs zs m own w h =
        act-alike set (on S (first_turn S after (varying S after step test) body (xs ++ behind))) (on W (first_turn W after (varying W after step test) (cut_body told body) zs)) m own.0
        (λ now. first-alike after (varying S after step test) body xs zs now w (λ k. h (after-completes after (body_completes told body) (body_leaves_loop told body) k)))

    pub item-alike : (x : Item) (xs zs : List Item) (m : Memory) → OwnItem told paragraphs x → whole_item (cut_item told x) ≡ true → (item_completes told x ≡ true → These xs zs) →
        Both (item_way S x (xs ++ behind) m) (item_way W (cut_item told x) zs (here m))
    item-alike (Do (language.Do act)) xs zs m own w h = act-alike act (on S (xs ++ behind)) (on W zs) m own (λ now. on-alike xs (xs ++ behind) zs now refl (h refl))
    item-alike (Do (Choose picker arms)) xs zs m own w h =
        subst (λ c. Both (stmt_way S (Choose picker arms) (xs ++ behind) m) (tried c (λ k. on W (before_arm (cut_arms told arms) k zs)))) (sym (celled-picks acting range told picker (arm_count arms) (here m) own.0))
        (tried-alike cells Behind BehindWhere (MayGive (arm_count arms) (first_is_dead told picker)) m (alone_pick acting picker m) (λ k. on S (before_arm arms k (xs ++ behind))) (λ k. on W (before_arm (cut_arms told arms) k zs)) (pick-gives picker (arm_count arms) m own.0)
        (λ k now may. on-alike (before_arm arms k xs) (before_arm arms k (xs ++ behind)) (before_arm (cut_arms told arms) k zs) now (sym (arm-append arms k xs behind)) (stands-arm told t end arms (first_is_dead told picker) k xs zs may w h)))
    item-alike (Do (Loop control body)) xs zs m own w h = loop-alike control body xs zs m own.0 w h
    item-alike (Do (Perform e x)) xs zs m own w h = (refl, refl, (xs, refl, h))
    item-alike (Do (Go to)) xs zs m own w h = cc
    item-alike (Do (GoDepending to on)) xs zs m own w h = cc
    item-alike (Do NextSentence) xs zs m own w h = cc
    item-alike (Do ExitParagraph) xs zs m own w h = cc
    item-alike (Do (ExitSection last)) xs zs m own w h = cc
    item-alike (Do (ExitPerform cycle)) xs zs m own w h = cc
    item-alike (Do StopRun) xs zs m own w h = (refl, refl, refl)
    item-alike SentenceEnd xs zs m own w h = cc
    item-alike (Turn turning body) xs zs m own w h = turn-alike turning body xs zs m own.0 w (h refl)
