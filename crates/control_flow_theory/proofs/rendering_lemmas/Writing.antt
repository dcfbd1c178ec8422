-- What an item does, its written form does.
use Rattle.std.proofs.Common.{◌≡◌, ℕ, zero, suc, ◌-◌, ◌≤◌, Bool, true, false, not, ◌==◌, List, [], ◌∷◌, ◌++◌, length, refl, ap, sym, ◌∙◌, subst, arith, ◌⊎◌, inl, inr}
use Rattle.control_flow_theory.specs.semantics.Outcome.{Trace, Abend, Tried, Got, Ends}
use Rattle.control_flow_theory.specs.language.Language.{Act, Own, Set, Take, Lower, Test, Holds, Not, Is, Above, Picker, If, By, ByCell, Control, Times, Until, Varying, Stmt, Choose, Loop, Perform, Go, GoDepending, NextSentence, ExitParagraph, ExitSection, ExitPerform, StopRun, Stmts, none, also, Arms, done, given, missing, Body, Nested, Performed, Range, Main, Part}
use Rattle.control_flow_theory.specs.language.Language as language
use Rattle.control_flow_theory.specs.semantics.Doing.{Acting, Doing, Celled, own_is, keeping, giving, arm_of, is_above, alone, alone_act, alone_test, alone_pick, celled, celled_act, celled_test, celled_pick}
use Rattle.control_flow_theory.specs.language.Items.{Turning, Counted, Tests, Steps, StepsAfter, Item, Do, SentenceEnd, Turn, before, before_body, before_arm}
use Rattle.control_flow_theory.specs.semantics.Items.{Way, On, Halts, Into, To, ToEnd, way_after, tried, on, first_turn, varying, loop_begins, turns, tests, steps_on, turn_way, stmt_way, item_way}
use Rattle.control_flow_theory.specs.rendering.Rendering.{Empty, Continues, Stays, Goes, Naming, Procedure, place_of, count_arms, standing, required, written_arm, and_missing, whole_arms, picker_lacks, written_act, written_test, written_picker, written_control, written_stmt, written_stmts, written_arms, written_body}
use Rattle.control_flow_theory.specs.rendering.Procedures.{Writable, ActFits, TestFits, PickerFits, ControlFits, StandsLater, StmtLeaves, StmtStands, StmtsStand, ArmsStand, BodyStands, StmtChooses, BodyChooses}
use Rattle.control_flow_theory.specs.rendering.Serving.{SameArm, Alike, Serves}

module _ {Memory Other Left World : Type 0} (acting : Acting Memory) (left : Memory → Left) (first : World → Memory) (result : Acting Other) (other_left : Other → Left) (other_first : World → Other) (Carries : Celled Memory → Other → Type 0) (naming : Naming) (kinds : Writable)
    (serves : Serves acting left first result other_left other_first Carries naming kinds) (procedures : List Procedure) (range : Range) where
  abbrev place : Range → ℕ
  place = place_of procedures

  abbrev Same : {Value : Type 0} → (Value → Value → Type 0) → Tried (Celled Memory) Value → Tried Other Value → Type 0
  Same {Value} = Alike {Value = Value} left other_left Carries

  abbrev here : Doing (Celled Memory)
  here = celled acting range

  abbrev there : Doing Other
  there = alone result

  -- CONTINUE may stand before the rest
  abbrev pub Eased : List Item → List Item → Type 0
  Eased rest plain = (rest ≡ plain) ⊎ (rest ≡ Do (language.Do (Own naming.nothing)) ∷ plain)

  abbrev pub written_turning : Turning → Turning
  written_turning (Counted n) = Counted n
  written_turning (Tests test) = Tests (written_test naming place range test)
  written_turning (Steps reached step test) = Steps reached (written_act naming place range step) (written_test naming place range test)
  written_turning (StepsAfter step test) = StepsAfter (written_act naming place range step) (written_test naming place range test)

  -- the written items, and then the tail
  abbrev pub written_items : List Item → List Item → List Item
  written_items [] tail = tail
  written_items (Do stmt ∷ items) tail = Do (written_stmt naming place range stmt) ∷ written_items items tail
  written_items (SentenceEnd ∷ items) tail = SentenceEnd ∷ written_items items tail
  written_items (Turn turning body ∷ items) tail = Turn (written_turning turning) (written_body naming place range body) ∷ written_items items tail

  abbrev TurningFits : Turning → Type 0
  TurningFits (Counted n) = Unit {0}
  TurningFits (Tests test) = TestFits naming kinds procedures range test
  TurningFits (Steps reached step test) = ActFits naming kinds procedures range step × TestFits naming kinds procedures range test
  TurningFits (StepsAfter step test) = ActFits naming kinds procedures range step × TestFits naming kinds procedures range test

  abbrev pub ItemStands : Item → Type 0
  ItemStands (Do stmt) = StmtStands naming kinds procedures range stmt
  ItemStands SentenceEnd = ⊥
  ItemStands (Turn turning body) = TurningFits turning × (BodyStands naming kinds procedures range body ⊎ ((cell : ℕ) × (turning ≡ Tests (Is cell 0)) × BodyChooses naming kinds procedures range cell body))

  -- the item ends only where the cell is above zero
  abbrev ItemLeaves : ℕ → Item → Type 0
  ItemLeaves cell (Do stmt) = StmtLeaves naming kinds procedures range cell stmt
  ItemLeaves cell SentenceEnd = ⊥
  ItemLeaves cell (Turn turning body) = turning ≡ Tests (Above cell)

  abbrev mutual
    pub AllStand : List Item → Type 0
    AllStand [] = Unit {0}
    AllStand (item ∷ items) = ItemStands item × (AllStand items ⊎ LeftBy items item)

    pub LeftBy : List Item → Item → Type 0
    LeftBy [] item = ⊥
    LeftBy (Do stmt ∷ items) item = (cell : ℕ) × ItemLeaves cell item × StmtChooses naming kinds procedures range cell stmt × AllStand items
    LeftBy (SentenceEnd ∷ items) item = ⊥
    LeftBy (Turn turning body ∷ items) item = ⊥

  -- a choice by a cell stands first, and the cell isn't zero
  abbrev Chooses : Celled Memory → List Item → Type 0
  Chooses memory [] = ⊥
  Chooses memory (Do stmt ∷ items) = (cell : ℕ) × (arm : ℕ) × StmtChooses naming kinds procedures range cell stmt × (memory.cells range cell ≡ suc arm) × AllStand items
  Chooses memory (SentenceEnd ∷ items) = ⊥
  Chooses memory (Turn turning body ∷ items) = ⊥

  abbrev pub Ready : Celled Memory → List Item → Type 0
  Ready memory items = AllStand items ⊎ Chooses memory items

  pub stand-before : (stmts : Stmts) (items : List Item) → StmtsStand naming kinds procedures range stmts → AllStand items → AllStand (before stmts items)
  stand-before none items h all = all
  stand-before (also stmt stmts) items (stands, inl others) all = (stands, inl (stand-before stmts items others all))
  stand-before (also stmt none) items (stands, inr leaves) all = absurd leaves
  stand-before (also stmt (also next stmts)) items (stands, inr (cell, leaves, chooses, others)) all = (stands, inr (cell, leaves, chooses, stand-before stmts items others all))

  stand-arm : (arms : Arms) (k : ℕ) (items : List Item) → ArmsStand naming kinds procedures range arms → AllStand items → AllStand (before_arm arms k items)
  stand-arm done k items h all = all
  stand-arm (given arm others) zero items h all = stand-before arm items h.0 all
  stand-arm (given arm others) (suc k) items h all = stand-arm others k items h.1 all
  stand-arm (missing others) zero items h all = all
  stand-arm (missing others) (suc k) items h all = stand-arm others k items h all

  stand-body : (body : Body) (items : List Item) → BodyStands naming kinds procedures range body → AllStand items → AllStand (before_body body items)
  stand-body (Nested stmts) items h all = stand-before stmts items h all
  stand-body (Performed entry exit) items h all = (h, inl all)

  -- the written list stands before the written rest
  pub written-before : (stmts : Stmts) (items tail : List Item) → before (written_stmts naming place range stmts) (written_items items tail) ≡ written_items (before stmts items) tail
  written-before none items tail = refl
  written-before (also stmt stmts) items tail = ap (λ r. Do (written_stmt naming place range stmt) ∷ r) (written-before stmts items tail)

  pub eased-required : (stmts : Stmts) (rest plain : List Item) → before stmts rest ≡ plain → Eased (before (required naming.nothing stmts) rest) plain
  eased-required none rest plain e = inr (ap (λ r. Do (language.Do (Own naming.nothing)) ∷ r) e)
  eased-required (also stmt stmts) rest plain e = inl e

  eased-body : (body : Body) (items tail : List Item) → Eased (before_body (written_body naming place range body) (written_items items tail)) (written_items (before_body body items) tail)
  eased-body (Nested stmts) items tail = eased-required (written_stmts naming place range stmts) (written_items items tail) (written_items (before stmts items) tail) (written-before stmts items tail)
  eased-body (Performed entry exit) items tail = inl refl

  -- an arm that is written, or left out
  eased-arm : (empty : Empty) (was_given : Bool) (stmts : Stmts) (others : Arms) (rest plain : List Item) → before stmts rest ≡ plain → Eased (before_arm (written_arm naming.nothing empty was_given stmts others) 0 rest) plain
  eased-arm empty was_given (also stmt stmts) others rest plain e = inl e
  eased-arm Continues was_given none others rest plain e = inr (ap (λ r. Do (language.Do (Own naming.nothing)) ∷ r) e)
  eased-arm Stays true none others rest plain e = inr (ap (λ r. Do (language.Do (Own naming.nothing)) ∷ r) e)
  eased-arm Stays false none others rest plain e = inl e
  eased-arm Goes was_given none others rest plain e = inl e

  later-arm : (empty : Empty) (was_given : Bool) (stmts : Stmts) (others : Arms) (k : ℕ) (rest : List Item) → before_arm (written_arm naming.nothing empty was_given stmts others) (suc k) rest ≡ before_arm others k rest
  later-arm empty was_given (also stmt stmts) others k rest = refl
  later-arm Continues was_given none others k rest = refl
  later-arm Stays true none others k rest = refl
  later-arm Stays false none others k rest = refl
  later-arm Goes was_given none others k rest = refl

  eased-arms : (empty : ℕ → Empty) (arms : Arms) (n k : ℕ) (items tail : List Item) →
      Eased (before_arm (written_arms naming place range empty n arms) k (written_items items tail)) (written_items (before_arm arms k items) tail)
  eased-arms empty done n k items tail = inl refl
  eased-arms empty (given arm others) n zero items tail =
      eased-arm (empty n) true (written_stmts naming place range arm) (written_arms naming place range empty (suc n) others) (written_items items tail) (written_items (before arm items) tail) (written-before arm items tail)
  eased-arms empty (given arm others) n (suc k) items tail =
      subst (λ r. Eased r (written_items (before_arm others k items) tail)) (sym (later-arm (empty n) true (written_stmts naming place range arm) (written_arms naming place range empty (suc n) others) k (written_items items tail))) (eased-arms empty others (suc n) k items tail)
  eased-arms empty (missing others) n zero items tail =
      eased-arm (empty n) false none (written_arms naming place range empty (suc n) others) (written_items items tail) (written_items items tail) refl
  eased-arms empty (missing others) n (suc k) items tail =
      subst (λ r. Eased r (written_items (before_arm others k items) tail)) (sym (later-arm (empty n) false none (written_arms naming place range empty (suc n) others) k (written_items items tail))) (eased-arms empty others (suc n) k items tail)

  -- a missing arm behind them changes nothing
  before-missing : (arms : Arms) (k : ℕ) (rest : List Item) → before_arm (and_missing arms) k rest ≡ before_arm arms k rest
  before-missing done zero rest = refl
  before-missing done (suc k) rest = refl
  before-missing (given arm others) zero rest = refl
  before-missing (given arm others) (suc k) rest = before-missing others k rest
  before-missing (missing others) zero rest = refl
  before-missing (missing others) (suc k) rest = before-missing others k rest

  before-whole : (lacks : Bool) (arms : Arms) (k : ℕ) (rest : List Item) → before_arm (whole_arms lacks arms) k rest ≡ before_arm arms k rest
  before-whole true arms k rest = before-missing arms k rest
  before-whole false arms k rest = refl

  -- past the last arm there is nothing
  past-arms : (arms : Arms) (k : ℕ) (items : List Item) → count_arms arms ≤ k → before_arm arms k items ≡ items
  past-arms done k items le = refl
  past-arms (given arm others) zero items le = absurd (omega (arith, le))
  past-arms (given arm others) (suc k) items le = past-arms others k items (omega (arith, le))
  past-arms (missing others) zero items le = absurd (omega (arith, le))
  past-arms (missing others) (suc k) items le = past-arms others k items (omega (arith, le))

  -- What both ways come to, with these items behind the written ones.
  module _ (tail : List Item) where
    abbrev pub Ways : Way (Celled Memory) → Way Other → Type 0
    Ways (On trace memory items) (On other_trace other rest) = (trace ≡ other_trace) × Carries memory other × Ready memory items × Eased rest (written_items items tail)
    Ways (On trace memory items) (Halts other_trace how other) = ⊥
    Ways (On trace memory items) (Into entry exit rest) = ⊥
    Ways (On trace memory items) (To other_trace other to) = ⊥
    Ways (On trace memory items) (ToEnd other_trace other to) = ⊥
    Ways (Halts trace how memory) (On other_trace other rest) = ⊥
    Ways (Halts trace how memory) (Halts other_trace other_how other) = (trace ≡ other_trace) × (how ≡ other_how) × (left memory.own ≡ other_left other)
    Ways (Halts trace how memory) (Into entry exit rest) = ⊥
    Ways (Halts trace how memory) (To other_trace other to) = ⊥
    Ways (Halts trace how memory) (ToEnd other_trace other to) = ⊥
    Ways (Into entry exit items) (On other_trace other rest) = ⊥
    Ways (Into entry exit items) (Halts other_trace how other) = ⊥
    Ways (Into entry exit items) (Into other_entry other_exit rest) =
        (other_entry ≡ place (Part entry exit)) × (other_exit ≡ place (Part entry exit)) × StandsLater naming kinds procedures range (Part entry exit) × AllStand items × (rest ≡ written_items items tail)
    Ways (Into entry exit items) (To other_trace other to) = ⊥
    Ways (Into entry exit items) (ToEnd other_trace other to) = ⊥
    Ways (To trace memory to) way = ⊥
    Ways (ToEnd trace memory to) way = ⊥

    ways-after : (trace other_trace : Trace) (a : Way (Celled Memory)) (b : Way Other) → trace ≡ other_trace → Ways a b → Ways (way_after trace a) (way_after other_trace b)
    ways-after trace other_trace (On more memory items) (On other_more other rest) e h = (ap (λ t. t ++ more) e ∙ ap (λ t. other_trace ++ t) h.0, h.1, h.2, h.3)
    ways-after trace other_trace (On more memory items) (Halts other_more how other) e h = h
    ways-after trace other_trace (On more memory items) (Into entry exit rest) e h = h
    ways-after trace other_trace (On more memory items) (To other_more other to) e h = h
    ways-after trace other_trace (On more memory items) (ToEnd other_more other to) e h = h
    ways-after trace other_trace (Halts more how memory) (On other_more other rest) e h = h
    ways-after trace other_trace (Halts more how memory) (Halts other_more other_how other) e h = (ap (λ t. t ++ more) e ∙ ap (λ t. other_trace ++ t) h.0, h.1, h.2)
    ways-after trace other_trace (Halts more how memory) (Into entry exit rest) e h = h
    ways-after trace other_trace (Halts more how memory) (To other_more other to) e h = h
    ways-after trace other_trace (Halts more how memory) (ToEnd other_more other to) e h = h
    ways-after trace other_trace (Into entry exit items) (On other_more other rest) e h = h
    ways-after trace other_trace (Into entry exit items) (Halts other_more how other) e h = h
    ways-after trace other_trace (Into entry exit items) (Into other_entry other_exit rest) e h = h
    ways-after trace other_trace (Into entry exit items) (To other_more other to) e h = h
    ways-after trace other_trace (Into entry exit items) (ToEnd other_more other to) e h = h
    ways-after trace other_trace (To more memory to) (On other_more other rest) e h = h
    ways-after trace other_trace (ToEnd more memory to) (On other_more other rest) e h = h
    ways-after trace other_trace (To more memory to) (Halts other_more how other) e h = h
    ways-after trace other_trace (ToEnd more memory to) (Halts other_more how other) e h = h
    ways-after trace other_trace (To more memory to) (Into entry exit rest) e h = h
    ways-after trace other_trace (ToEnd more memory to) (Into entry exit rest) e h = h
    ways-after trace other_trace (To more memory to) (To other_more other at) e h = h
    ways-after trace other_trace (ToEnd more memory to) (ToEnd other_more other at) e h = h
    ways-after trace other_trace (To more memory to) (ToEnd other_more other at) e h = h
    ways-after trace other_trace (ToEnd more memory to) (To other_more other at) e h = h

    ways-tried : {Value : Type 0} (Like : Value → Value → Type 0) (t : Tried (Celled Memory) Value) (u : Tried Other Value) (f : Value → Celled Memory → Way (Celled Memory)) (g : Value → Other → Way Other) → Same Like t u →
        ((v w : Value) (memory : Celled Memory) (other : Other) → Like v w → Carries memory other → Ways (f v memory) (g w other)) → Ways (tried t f) (tried u g)
    ways-tried Like (Got trace v memory) (Got other_trace w other) f g h k = ways-after trace other_trace (f v memory) (g w other) h.0 (k v w memory other h.1 h.2)
    ways-tried Like (Got trace v memory) (Ends other_trace kind other) f g h k = absurd h
    ways-tried Like (Ends trace kind memory) (Got other_trace w other) f g h k = absurd h
    ways-tried Like (Ends trace kind memory) (Ends other_trace other_kind other) f g h k = (h.0, ap Abend h.1, h.2)

    -- the same where the first part is known to go on
    ways-got : {Value : Type 0} (Like : Value → Value → Type 0) (trace : Trace) (v : Value) (memory : Celled Memory) (u : Tried Other Value) (f : Value → Celled Memory → Way (Celled Memory)) (g : Value → Other → Way Other) → Same Like (Got trace v memory) u →
        ((w : Value) (other : Other) → Like v w → Carries memory other → Ways (f v memory) (g w other)) → Ways (tried (Got trace v memory) f) (tried u g)
    ways-got Like trace v memory (Got other_trace w other) f g h k = ways-after trace other_trace (f v memory) (g w other) h.0 (k w other h.1 h.2)
    ways-got Like trace v memory (Ends other_trace kind other) f g h k = absurd h

    on-ways : (memory : Celled Memory) (other : Other) (items rest : List Item) → Carries memory other → AllStand items → Eased rest (written_items items tail) → Ways (on here items memory) (on there rest other)
    on-ways memory other items rest carries all eased = (refl, carries, inl all, eased)

  act-alike : (act : Act) (memory : Celled Memory) (other : Other) → ActFits naming kinds procedures range act → Carries memory other →
      Same (λ a b. Unit {0}) (celled_act acting range act memory) (alone_act result (written_act naming place range act) other)
  act-alike (Own simple) memory other fits carries = serves.simple simple memory other fits carries
  act-alike (Set cell value) memory other fits carries = serves.set range cell value memory other fits carries
  act-alike (Take cell amount) memory other fits carries = serves.take range cell amount memory other fits.0 fits.1 carries
  act-alike (Lower cell) memory other fits carries = serves.lower range cell memory other fits carries

  alike-giving : {A B : Type 0} (f : A → B) (t : Tried (Celled Memory) A) (u : Tried Other A) → Same (◌≡◌ {A = A}) t u → Same (◌≡◌ {A = B}) (giving f t) (giving f u)
  alike-giving f (Got trace v memory) (Got other_trace w other) h = (h.0, ap f h.1, h.2)
  alike-giving f (Got trace v memory) (Ends other_trace kind other) h = absurd h
  alike-giving f (Ends trace kind memory) (Got other_trace w other) h = absurd h
  alike-giving f (Ends trace kind memory) (Ends other_trace other_kind other) h = h

  test-alike : (test : Test) (memory : Celled Memory) (other : Other) → TestFits naming kinds procedures range test → Carries memory other →
      Same (◌≡◌ {A = Bool}) (celled_test acting range test memory) (alone_test result (written_test naming place range test) other)
  test-alike (Holds cond) memory other fits carries = serves.cond cond memory other fits carries
  test-alike (Not test) memory other fits carries =
      alike-giving not (celled_test acting range test memory) (alone_test result (written_test naming place range test) other) (test-alike test memory other fits carries)
  test-alike (Is cell value) memory other fits carries = serves.is range cell value memory other fits carries
  test-alike (Above cell) memory other fits carries = serves.above range cell memory other fits carries

  alike-more : {A : Type 0} (Like More : A → A → Type 0) → ((a b : A) → Like a b → More a b) → (t : Tried (Celled Memory) A) (u : Tried Other A) → Same Like t u → Same More t u
  alike-more Like More f (Got trace v memory) (Got other_trace w other) h = (h.0, f v w h.1, h.2)
  alike-more Like More f (Got trace v memory) (Ends other_trace kind other) h = absurd h
  alike-more Like More f (Ends trace kind memory) (Got other_trace w other) h = absurd h
  alike-more Like More f (Ends trace kind memory) (Ends other_trace other_kind other) h = h

  pick-alike : (picker : Picker) (arms : List Bool) (memory : Celled Memory) (other : Other) → PickerFits naming kinds procedures range picker arms → Carries memory other →
      Same (SameArm (length arms)) (celled_pick acting range picker memory) (alone_pick result (written_picker naming place range picker arms) other)
  pick-alike (If test) arms memory other fits carries =
      alike-more (◌≡◌ {A = ℕ}) (SameArm (length arms)) (λ a b e. inl e) (celled_pick acting range (If test) memory) (alone_pick result (written_picker naming place range (If test) arms) other)
      (alike-giving arm_of (celled_test acting range test memory) (alone_test result (written_test naming place range test) other) (test-alike test memory other fits carries))
  pick-alike (By chooser) arms memory other fits carries = serves.chooser chooser arms memory other fits carries
  pick-alike (ByCell cell) arms memory other fits carries = absurd fits

  counts-arm : (empty : Empty) (was_given : Bool) (stmts : Stmts) (others : Arms) → count_arms (written_arm naming.nothing empty was_given stmts others) ≡ suc (count_arms others)
  counts-arm empty was_given (also stmt stmts) others = refl
  counts-arm Continues was_given none others = refl
  counts-arm Stays true none others = refl
  counts-arm Stays false none others = refl
  counts-arm Goes was_given none others = refl

  counts-written : (empty : ℕ → Empty) (n : ℕ) (arms : Arms) → count_arms (written_arms naming place range empty n arms) ≡ count_arms arms
  counts-written empty n done = refl
  counts-written empty n (given arm others) = counts-arm (empty n) true (written_stmts naming place range arm) (written_arms naming place range empty (suc n) others) ∙ ap suc (counts-written empty (suc n) others)
  counts-written empty n (missing others) = counts-arm (empty n) false none (written_arms naming place range empty (suc n) others) ∙ ap suc (counts-written empty (suc n) others)

  counts-standing : (empty : ℕ → Empty) (n : ℕ) (arms : Arms) → length (standing empty n arms) ≡ count_arms arms
  counts-standing empty n done = refl
  counts-standing empty n (given arm others) = ap suc (counts-standing empty (suc n) others)
  counts-standing empty n (missing others) = ap suc (counts-standing empty (suc n) others)

  -- what a loop's remainder stands for
  abbrev BodyFits : Turning → Body → Type 0
  BodyFits turning body = BodyStands naming kinds procedures range body ⊎ ((cell : ℕ) × (turning ≡ Tests (Is cell 0)) × BodyChooses naming kinds procedures range cell body)

  module _ (tail : List Item) where
    abbrev Go_alike : Way (Celled Memory) → Way Other → Type 0
    Go_alike = Ways tail

    -- one more turn, or none
    round-ways : (turning : Turning) (body : Body) (items : List Item) → TurningFits turning → BodyStands naming kinds procedures range body → AllStand items →
        (ended other_ended : Bool) (memory : Celled Memory) (other : Other) → ended ≡ other_ended → Carries memory other →
        Go_alike (on here (turns here ended turning body items) memory) (on there (turns there other_ended (written_turning turning) (written_body naming place range body) (written_items items tail)) other)
    round-ways turning body items fits stands all ended other_ended memory other e carries =
        subst (λ t. Go_alike (on here (turns here ended turning body items) memory) (on there (turns there t (written_turning turning) (written_body naming place range body) (written_items items tail)) other)) e (at_once ended)
      where
        at_once : (t : Bool) → Go_alike (on here (turns here t turning body items) memory) (on there (turns there t (written_turning turning) (written_body naming place range body) (written_items items tail)) other)
        at_once true = on-ways tail memory other items (written_items items tail) carries all (inl refl)
        at_once false =
            on-ways tail memory other (before_body body (Turn turning body ∷ items)) (before_body (written_body naming place range body) (written_items (Turn turning body ∷ items) tail)) carries
            (stand-body body (Turn turning body ∷ items) stands ((fits, inl stands), inl all)) (eased-body body (Turn turning body ∷ items) tail)

    tests-ways : (test : Test) (turning : Turning) (body : Body) (items : List Item) → TestFits naming kinds procedures range test → TurningFits turning → BodyStands naming kinds procedures range body → AllStand items →
        (memory : Celled Memory) (other : Other) → Carries memory other →
        Go_alike (tests here test turning body items memory) (tests there (written_test naming place range test) (written_turning turning) (written_body naming place range body) (written_items items tail) other)
    tests-ways test turning body items good fits stands all memory other carries =
        ways-tried tail (◌≡◌ {A = Bool}) (celled_test acting range test memory) (alone_test result (written_test naming place range test) other)
        (λ ended. on here (turns here ended turning body items)) (λ ended. on there (turns there ended (written_turning turning) (written_body naming place range body) (written_items items tail)))
        (test-alike test memory other good carries)
        (λ v w m o e c. round-ways turning body items fits stands all v w m o e c)

    turn-ways : (turning : Turning) (body : Body) (items : List Item) → TurningFits turning → BodyStands naming kinds procedures range body → AllStand items → (memory : Celled Memory) (other : Other) → Carries memory other →
        Go_alike (turn_way here turning body items memory) (turn_way there (written_turning turning) (written_body naming place range body) (written_items items tail) other)
    turn-ways (Counted zero) body items fits stands all memory other carries = on-ways tail memory other items (written_items items tail) carries all (inl refl)
    turn-ways (Counted (suc n)) body items fits stands all memory other carries =
        on-ways tail memory other (before_body body (Turn (Counted n) body ∷ items)) (before_body (written_body naming place range body) (written_items (Turn (Counted n) body ∷ items) tail)) carries
        (stand-body body (Turn (Counted n) body ∷ items) stands ((tt, inl stands), inl all)) (eased-body body (Turn (Counted n) body ∷ items) tail)
    turn-ways (Tests test) body items fits stands all memory other carries = tests-ways test (Tests test) body items fits fits stands all memory other carries
    turn-ways (Steps false step test) body items fits stands all memory other carries = tests-ways test (Steps true step test) body items fits.1 fits stands all memory other carries
    turn-ways (Steps true step test) body items fits stands all memory other carries =
        ways-tried tail (λ (a : Unit {0}) (b : Unit {0}). Unit {0}) (celled_act acting range step memory) (alone_act result (written_act naming place range step) other)
        (λ u. tests here test (Steps true step test) body items) (λ u. tests there (written_test naming place range test) (written_turning (Steps true step test)) (written_body naming place range body) (written_items items tail))
        (act-alike step memory other fits.0 carries)
        (λ v w m o e c. tests-ways test (Steps true step test) body items fits.1 fits stands all m o c)
    turn-ways (StepsAfter step test) body items fits stands all memory other carries =
        ways-tried tail (◌≡◌ {A = Bool}) (celled_test acting range test memory) (alone_test result (written_test naming place range test) other)
        (λ ended. steps_on here ended step test body items) (λ ended. steps_on there ended (written_act naming place range step) (written_test naming place range test) (written_body naming place range body) (written_items items tail))
        (test-alike test memory other fits.1 carries)
        (λ v w m o e c. subst (λ t. Go_alike (steps_on here v step test body items m) (steps_on there t (written_act naming place range step) (written_test naming place range test) (written_body naming place range body) (written_items items tail) o)) e (by_end v m o c))
      where
        by_end : (ended : Bool) (m : Celled Memory) (o : Other) → Carries m o →
            Go_alike (steps_on here ended step test body items m) (steps_on there ended (written_act naming place range step) (written_test naming place range test) (written_body naming place range body) (written_items items tail) o)
        by_end true m o c = on-ways tail m o items (written_items items tail) c all (inl refl)
        by_end false m o c =
            ways-tried tail (λ (a : Unit {0}) (b : Unit {0}). Unit {0}) (celled_act acting range step m) (alone_act result (written_act naming place range step) o)
            (λ u. on here (before_body body (Turn (StepsAfter step test) body ∷ items))) (λ u. on there (before_body (written_body naming place range body) (written_items (Turn (StepsAfter step test) body ∷ items) tail)))
            (act-alike step m o fits.0 c)
            (λ v w m o e c. on-ways tail m o (before_body body (Turn (StepsAfter step test) body ∷ items)) (before_body (written_body naming place range body) (written_items (Turn (StepsAfter step test) body ∷ items) tail)) c
            (stand-body body (Turn (StepsAfter step test) body ∷ items) stands ((fits, inl stands), inl all)) (eased-body body (Turn (StepsAfter step test) body ∷ items) tail))

    -- the loop around a choice by a cell: where it goes on, the cell isn't zero
    choosing-on : (cell : ℕ) (body : Body) (items : List Item) → BodyChooses naming kinds procedures range cell body → AllStand items → TestFits naming kinds procedures range (Is cell 0) →
        (ended other_ended : Bool) (memory : Celled Memory) (other : Other) → (memory.cells range cell == 0) ≡ ended → ended ≡ other_ended → Carries memory other →
        Go_alike (on here (turns here ended (Tests (Is cell 0)) body items) memory) (on there (turns there other_ended (written_turning (Tests (Is cell 0))) (written_body naming place range body) (written_items items tail)) other)
    choosing-on cell body items chooses all fits ended other_ended memory other is e carries =
        subst (λ t. Go_alike (on here (turns here ended (Tests (Is cell 0)) body items) memory) (on there (turns there t (written_turning (Tests (Is cell 0))) (written_body naming place range body) (written_items items tail)) other)) e (at_once ended is)
      where
        above_zero : (n : ℕ) → (n == 0) ≡ false → (arm : ℕ) × (n ≡ suc arm)
        above_zero zero h = absurd (let e : true ≡ false = h in cc)
        above_zero (suc n) h = (n, refl)

        ready : (body : Body) → BodyChooses naming kinds procedures range cell body → (rest : List Item) → AllStand rest → (memory.cells range cell == 0) ≡ false → Ready memory (before_body body rest)
        ready (Nested none) h rest stand zero_not = absurd h
        ready (Nested (also stmt none)) h rest stand zero_not = let a = above_zero (memory.cells range cell) zero_not in inr (cell, a.0, h, a.1, stand)
        ready (Nested (also stmt (also next stmts))) h rest stand zero_not = absurd h
        ready (Performed entry exit) h rest stand zero_not = absurd h

        at_once : (t : Bool) → (memory.cells range cell == 0) ≡ t → Go_alike (on here (turns here t (Tests (Is cell 0)) body items) memory) (on there (turns there t (written_turning (Tests (Is cell 0))) (written_body naming place range body) (written_items items tail)) other)
        at_once true is = on-ways tail memory other items (written_items items tail) carries all (inl refl)
        at_once false is =
            (refl, carries, ready body chooses (Turn (Tests (Is cell 0)) body ∷ items) ((fits, inr (cell, refl, chooses)), inl all) is, eased-body body (Turn (Tests (Is cell 0)) body ∷ items) tail)

    choosing-ways : (cell : ℕ) (body : Body) (items : List Item) → BodyChooses naming kinds procedures range cell body → AllStand items → TestFits naming kinds procedures range (Is cell 0) → (memory : Celled Memory) (other : Other) → Carries memory other →
        Go_alike (turn_way here (Tests (Is cell 0)) body items memory) (turn_way there (written_turning (Tests (Is cell 0))) (written_body naming place range body) (written_items items tail) other)
    choosing-ways cell body items chooses all fits memory other carries =
        ways-got tail (◌≡◌ {A = Bool}) [] (memory.cells range cell == 0) memory (result.test (naming.is range cell 0) other)
        (λ ended. on here (turns here ended (Tests (Is cell 0)) body items)) (λ ended. on there (turns there ended (written_turning (Tests (Is cell 0))) (written_body naming place range body) (written_items items tail)))
        (serves.is range cell 0 memory other fits carries)
        (λ w o e c. choosing-on cell body items chooses all fits (memory.cells range cell == 0) w memory o refl e c)

    remainder-ways : (turning : Turning) (body : Body) (items : List Item) → TurningFits turning → BodyFits turning body → AllStand items → (memory : Celled Memory) (other : Other) → Carries memory other →
        Go_alike (turn_way here turning body items memory) (turn_way there (written_turning turning) (written_body naming place range body) (written_items items tail) other)
    remainder-ways turning body items fits (inl stands) all memory other carries = turn-ways turning body items fits stands all memory other carries
    remainder-ways turning body items fits (inr (cell, is, chooses)) all memory other carries =
        subst (λ t. TurningFits t → Go_alike (turn_way here t body items memory) (turn_way there (written_turning t) (written_body naming place range body) (written_items items tail) other)) (sym is)
        (λ good. choosing-ways cell body items chooses all good memory other carries) fits

    -- a loop begins
    first-ways : (after : Bool) (turning : Turning) (body : Body) (items : List Item) → TurningFits turning → BodyStands naming kinds procedures range body → AllStand items → (memory : Celled Memory) (other : Other) → Carries memory other →
        Go_alike (on here (first_turn here after turning body items) memory) (on there (first_turn there after (written_turning turning) (written_body naming place range body) (written_items items tail)) other)
    first-ways false turning body items fits stands all memory other carries =
        on-ways tail memory other (Turn turning body ∷ items) (written_items (Turn turning body ∷ items) tail) carries ((fits, inl stands), inl all) (inl refl)
    first-ways true turning body items fits stands all memory other carries =
        on-ways tail memory other (before_body body (Turn turning body ∷ items)) (before_body (written_body naming place range body) (written_items (Turn turning body ∷ items) tail)) carries
        (stand-body body (Turn turning body ∷ items) stands ((fits, inl stands), inl all)) (eased-body body (Turn turning body ∷ items) tail)

    varying-ways : (after : Bool) (step : Act) (test : Test) (body : Body) (items : List Item) → ActFits naming kinds procedures range step → TestFits naming kinds procedures range test → BodyStands naming kinds procedures range body → AllStand items → (memory : Celled Memory) (other : Other) → Carries memory other →
        Go_alike (on here (first_turn here after (varying here after step test) body items) memory)
        (on there (first_turn there after (varying there after (written_act naming place range step) (written_test naming place range test)) (written_body naming place range body) (written_items items tail)) other)
    varying-ways false step test body items a b stands all memory other carries = first-ways false (Steps false step test) body items (a, b) stands all memory other carries
    varying-ways true step test body items a b stands all memory other carries = first-ways true (StepsAfter step test) body items (a, b) stands all memory other carries

    loop-ways : (control : Control) (body : Body) (items : List Item) → ControlFits naming kinds procedures range control → BodyStands naming kinds procedures range body → AllStand items → (memory : Celled Memory) (other : Other) → Carries memory other →
        Go_alike (loop_begins here control body items memory) (loop_begins there (written_control naming place range control) (written_body naming place range body) (written_items items tail) other)
    loop-ways (Times amount) body items fits stands all memory other carries =
        ways-tried tail (◌≡◌ {A = ℕ}) (keeping (own_is memory) (acting.count amount memory.own)) (result.count (naming.amount amount) other)
        (λ n. on here (Turn (Counted n) body ∷ items)) (λ n. on there (Turn (Counted n) (written_body naming place range body) ∷ written_items items tail))
        (serves.amount amount memory other fits carries)
        (λ v w m o e c. on-ways tail m o (Turn (Counted v) body ∷ items) (Turn (Counted w) (written_body naming place range body) ∷ written_items items tail) c ((tt, inl stands), inl all)
        (inl (ap (λ (n : ℕ). Turn (Counted n) (written_body naming place range body) ∷ written_items items tail) (sym e))))
    loop-ways (Until after test) body items fits stands all memory other carries = first-ways after (Tests test) body items fits stands all memory other carries
    loop-ways (Varying after set step test) body items fits stands all memory other carries =
        ways-tried tail (λ (a : Unit {0}) (b : Unit {0}). Unit {0}) (celled_act acting range set memory) (alone_act result (written_act naming place range set) other)
        (λ u. on here (first_turn here after (varying here after step test) body items))
        (λ u. on there (first_turn there after (varying there after (written_act naming place range step) (written_test naming place range test)) (written_body naming place range body) (written_items items tail)))
        (act-alike set memory other fits.0 carries)
        (λ v w m o e c. varying-ways after step test body items fits.1 fits.2 stands all m o c)

    -- a choice of arms
    arms-ways : (empty : ℕ → Empty) (arms : Arms) (items : List Item) → ArmsStand naming kinds procedures range arms → AllStand items → (k other_k : ℕ) (memory : Celled Memory) (other : Other) → SameArm (count_arms arms) k other_k → Carries memory other →
        Go_alike (on here (before_arm arms k items) memory) (on there (before_arm (written_arms naming place range empty 0 arms) other_k (written_items items tail)) other)
    arms-ways empty arms items good all k other_k memory other (inl e) carries =
        subst (λ n. Go_alike (on here (before_arm arms k items) memory) (on there (before_arm (written_arms naming place range empty 0 arms) n (written_items items tail)) other)) e
        (on-ways tail memory other (before_arm arms k items) (before_arm (written_arms naming place range empty 0 arms) k (written_items items tail)) carries (stand-arm arms k items good all) (eased-arms empty arms 0 k items tail))
    arms-ways empty arms items good all k other_k memory other (inr past) carries =
        on-ways tail memory other (before_arm arms k items) (before_arm (written_arms naming place range empty 0 arms) other_k (written_items items tail)) carries (stand-arm arms k items good all)
        (inl (past-arms (written_arms naming place range empty 0 arms) other_k (written_items items tail) (let e = counts-written empty 0 arms in omega (arith, e, past.1))
        ∙ ap (λ l. written_items l tail) (sym (past-arms arms k items past.0))))

    whole-ways : (lacks : Bool) (empty : ℕ → Empty) (arms : Arms) (items : List Item) → ArmsStand naming kinds procedures range arms → AllStand items → (k other_k : ℕ) (memory : Celled Memory) (other : Other) → SameArm (count_arms arms) k other_k → Carries memory other →
        Go_alike (on here (before_arm arms k items) memory) (on there (before_arm (whole_arms lacks (written_arms naming place range empty 0 arms)) other_k (written_items items tail)) other)
    whole-ways lacks empty arms items good all k other_k memory other same carries =
        subst (λ rest. Go_alike (on here (before_arm arms k items) memory) (on there rest other)) (sym (before-whole lacks (written_arms naming place range empty 0 arms) other_k (written_items items tail)))
        (arms-ways empty arms items good all k other_k memory other same carries)

    -- a choice by a cell that isn't zero
    cell-ways : (cell arm : ℕ) (stmt : Stmt) (items : List Item) → StmtChooses naming kinds procedures range cell stmt → AllStand items → (memory : Celled Memory) (other : Other) → memory.cells range cell ≡ suc arm → Carries memory other →
        Go_alike (stmt_way here stmt items memory) (stmt_way there (written_stmt naming place range stmt) (written_items items tail) other)
    cell-ways cell arm (Choose (ByCell by) arms) items chooses all memory other is carries =
        let by_is : memory.cells range by ≡ suc arm = ap (memory.cells range) chooses.0 ∙ is in
        let lacks = naming.lacks_other range by in
        let news = whole_arms lacks (written_arms naming place range (naming.empty range (ByCell by)) 0 arms) in
        let stand = standing (naming.empty range (ByCell by)) 0 arms in
        let many : length stand ≡ count_arms arms = counts-standing (naming.empty range (ByCell by)) 0 arms in
        let kind = subst (λ n. kinds.chooses range by n ≡ true) (sym many) (subst (λ c. kinds.chooses range c (count_arms arms) ≡ true) (sym chooses.0) chooses.1) in
        let less : arm ≡ memory.cells range by - 1 = omega (arith, by_is) in
        subst (λ n. Go_alike (tried (Got [] n memory) (λ k. on here (before_arm arms k items)))
        (tried (result.choose (naming.by_cell range by stand) other) (λ k. on there (before_arm news k (written_items items tail))))) less
        (ways-got tail (SameArm (length stand)) [] arm memory (result.choose (naming.by_cell range by stand) other)
        (λ k. on here (before_arm arms k items)) (λ k. on there (before_arm news k (written_items items tail)))
        (serves.by_cell range by stand arm memory other kind by_is carries)
        (λ w o same c. whole-ways lacks (naming.empty range (ByCell by)) arms items chooses.2 all arm w memory o (subst (λ n. SameArm n arm w) many same) c))
    cell-ways cell arm (Choose (If test) arms) items chooses all memory other is carries = absurd chooses
    cell-ways cell arm (Choose (By chooser) arms) items chooses all memory other is carries = absurd chooses
    cell-ways cell arm (language.Do act) items chooses all memory other is carries = absurd chooses
    cell-ways cell arm (Loop control body) items chooses all memory other is carries = absurd chooses
    cell-ways cell arm (Perform entry exit) items chooses all memory other is carries = absurd chooses
    cell-ways cell arm (Go to) items chooses all memory other is carries = absurd chooses
    cell-ways cell arm (GoDepending to chooser) items chooses all memory other is carries = absurd chooses
    cell-ways cell arm NextSentence items chooses all memory other is carries = absurd chooses
    cell-ways cell arm ExitParagraph items chooses all memory other is carries = absurd chooses
    cell-ways cell arm (ExitSection last) items chooses all memory other is carries = absurd chooses
    cell-ways cell arm (ExitPerform cycle) items chooses all memory other is carries = absurd chooses
    cell-ways cell arm StopRun items chooses all memory other is carries = absurd chooses

    begins-ways : (control : Control) (body : Body) (items : List Item) → ControlFits naming kinds procedures range control → (BodyStands naming kinds procedures range body ⊎ ((cell : ℕ) × (control ≡ Until false (Is cell 0)) × BodyChooses naming kinds procedures range cell body)) → AllStand items →
        (memory : Celled Memory) (other : Other) → Carries memory other →
        Go_alike (loop_begins here control body items memory) (loop_begins there (written_control naming place range control) (written_body naming place range body) (written_items items tail) other)
    begins-ways control body items fits (inl stands) all memory other carries = loop-ways control body items fits stands all memory other carries
    begins-ways control body items fits (inr (cell, is, chooses)) all memory other carries =
        subst (λ t. ControlFits naming kinds procedures range t → Go_alike (loop_begins here t body items memory) (loop_begins there (written_control naming place range t) (written_body naming place range body) (written_items items tail) other)) (sym is)
        (λ good. on-ways tail memory other (Turn (Tests (Is cell 0)) body ∷ items) (written_items (Turn (Tests (Is cell 0)) body ∷ items) tail) carries ((good, inr (cell, refl, chooses)), inl all) (inl refl)) fits

    stmt-ways : (stmt : Stmt) (items : List Item) → StmtStands naming kinds procedures range stmt → AllStand items → (memory : Celled Memory) (other : Other) → Carries memory other →
        Go_alike (stmt_way here stmt items memory) (stmt_way there (written_stmt naming place range stmt) (written_items items tail) other)
    stmt-ways (language.Do act) items stands all memory other carries =
        ways-tried tail (λ (a : Unit {0}) (b : Unit {0}). Unit {0}) (celled_act acting range act memory) (alone_act result (written_act naming place range act) other) (λ u. on here items) (λ u. on there (written_items items tail))
        (act-alike act memory other stands carries) (λ v w m o e c. on-ways tail m o items (written_items items tail) c all (inl refl))
    stmt-ways (Choose picker arms) items stands all memory other carries =
        let lacks = picker_lacks naming place range picker in
        let stand = standing (naming.empty range picker) 0 arms in
        let many : length stand ≡ count_arms arms = counts-standing (naming.empty range picker) 0 arms in
        ways-tried tail (SameArm (length stand)) (celled_pick acting range picker memory) (alone_pick result (written_picker naming place range picker stand) other)
        (λ k. on here (before_arm arms k items)) (λ k. on there (before_arm (whole_arms lacks (written_arms naming place range (naming.empty range picker) 0 arms)) k (written_items items tail)))
        (pick-alike picker stand memory other stands.0 carries)
        (λ v w m o same c. whole-ways lacks (naming.empty range picker) arms items stands.1 all v w m o (subst (λ n. SameArm n v w) many same) c)
    stmt-ways (Loop control body) items stands all memory other carries = begins-ways control body items stands.0 stands.1 all memory other carries
    stmt-ways (Perform entry exit) items stands all memory other carries = (refl, refl, stands, all, refl)
    stmt-ways (Go to) items stands all memory other carries = absurd stands
    stmt-ways (GoDepending to chooser) items stands all memory other carries = absurd stands
    stmt-ways NextSentence items stands all memory other carries = absurd stands
    stmt-ways ExitParagraph items stands all memory other carries = absurd stands
    stmt-ways (ExitSection last) items stands all memory other carries = absurd stands
    stmt-ways (ExitPerform cycle) items stands all memory other carries = absurd stands
    stmt-ways StopRun items stands all memory other carries = (refl, refl, serves.leaves memory other carries)

    abbrev pub written_item : Item → Item
    written_item (Do stmt) = Do (written_stmt naming place range stmt)
    written_item SentenceEnd = SentenceEnd
    written_item (Turn turning body) = Turn (written_turning turning) (written_body naming place range body)

    -- a loop that ends where a cell is above zero, before a choice by that cell
    leaving-turn : (cell : ℕ) (body : Body) (next : Stmt) (items : List Item) → TestFits naming kinds procedures range (Above cell) → BodyFits (Tests (Above cell)) body → StmtChooses naming kinds procedures range cell next → AllStand items → (memory : Celled Memory) (other : Other) → Carries memory other →
        Go_alike (turn_way here (Tests (Above cell)) body (Do next ∷ items) memory) (turn_way there (written_turning (Tests (Above cell))) (written_body naming place range body) (written_items (Do next ∷ items) tail) other)
    leaving-turn cell body next items fits (inr dispatch) chooses all memory other carries = absurd (let e : Tests (Above cell) ≡ Tests (Is dispatch.0 0) = dispatch.1 in cc)
    leaving-turn cell body next items fits (inl stands) chooses all memory other carries =
        ways-got tail (◌≡◌ {A = Bool}) [] (is_above (memory.cells range cell)) memory (result.test (naming.above range cell) other)
        (λ ended. on here (turns here ended (Tests (Above cell)) body (Do next ∷ items))) (λ ended. on there (turns there ended (written_turning (Tests (Above cell))) (written_body naming place range body) (written_items (Do next ∷ items) tail)))
        (serves.above range cell memory other fits carries)
        (λ w o e c. subst (λ t. Go_alike (on here (turns here (is_above (memory.cells range cell)) (Tests (Above cell)) body (Do next ∷ items)) memory)
        (on there (turns there t (written_turning (Tests (Above cell))) (written_body naming place range body) (written_items (Do next ∷ items) tail)) o)) e (at_once (memory.cells range cell) refl o c))
      where
        at_once : (n : ℕ) → memory.cells range cell ≡ n → (o : Other) → Carries memory o →
            Go_alike (on here (turns here (is_above n) (Tests (Above cell)) body (Do next ∷ items)) memory) (on there (turns there (is_above n) (written_turning (Tests (Above cell))) (written_body naming place range body) (written_items (Do next ∷ items) tail)) o)
        at_once zero is o c =
            (refl, c, inl (stand-body body (Turn (Tests (Above cell)) body ∷ Do next ∷ items) stands ((fits, inl stands), inr (cell, refl, chooses, all))), eased-body body (Turn (Tests (Above cell)) body ∷ Do next ∷ items) tail)
        at_once (suc n) is o c = (refl, c, inr (cell, n, chooses, is, all), inl refl)

    leaving-begins : (cell : ℕ) (stmt next : Stmt) (items : List Item) → StmtStands naming kinds procedures range stmt → StmtLeaves naming kinds procedures range cell stmt → StmtChooses naming kinds procedures range cell next → AllStand items → (memory : Celled Memory) (other : Other) → Carries memory other →
        Go_alike (stmt_way here stmt (Do next ∷ items) memory) (stmt_way there (written_stmt naming place range stmt) (written_items (Do next ∷ items) tail) other)
    leaving-begins cell (Loop control body) next items stands leaves chooses all memory other carries =
        subst (λ t. StmtStands naming kinds procedures range (Loop t body) → Go_alike (loop_begins here t body (Do next ∷ items) memory) (loop_begins there (written_control naming place range t) (written_body naming place range body) (written_items (Do next ∷ items) tail) other)) (sym leaves)
        (λ good. (refl, carries, inl ((good.0, by_body good.1), inr (cell, refl, chooses, all)), inl refl)) stands
      where
        by_body : (BodyStands naming kinds procedures range body ⊎ ((c : ℕ) × (Until false (Above cell) ≡ Until false (Is c 0)) × BodyChooses naming kinds procedures range c body)) → BodyFits (Tests (Above cell)) body
        by_body (inl fits) = inl fits
        by_body (inr dispatch) = absurd (let e : Until false (Above cell) ≡ Until false (Is dispatch.0 0) = dispatch.1 in cc)
    leaving-begins cell (language.Do act) next items stands leaves chooses all memory other carries = absurd leaves
    leaving-begins cell (Choose picker arms) next items stands leaves chooses all memory other carries = absurd leaves
    leaving-begins cell (Perform entry exit) next items stands leaves chooses all memory other carries = absurd leaves
    leaving-begins cell (Go to) next items stands leaves chooses all memory other carries = absurd leaves
    leaving-begins cell (GoDepending to chooser) next items stands leaves chooses all memory other carries = absurd leaves
    leaving-begins cell NextSentence next items stands leaves chooses all memory other carries = absurd leaves
    leaving-begins cell ExitParagraph next items stands leaves chooses all memory other carries = absurd leaves
    leaving-begins cell (ExitSection last) next items stands leaves chooses all memory other carries = absurd leaves
    leaving-begins cell (ExitPerform cycle) next items stands leaves chooses all memory other carries = absurd leaves
    leaving-begins cell StopRun next items stands leaves chooses all memory other carries = absurd leaves

    left-ways : (item : Item) (items : List Item) (memory : Celled Memory) (other : Other) → ItemStands item → LeftBy items item → Carries memory other →
        Go_alike (item_way here item items memory) (item_way there (written_item item) (written_items items tail) other)
    left-ways item [] memory other stands left carries = absurd left
    left-ways item (SentenceEnd ∷ items) memory other stands left carries = absurd left
    left-ways item (Turn turning body ∷ items) memory other stands left carries = absurd left
    left-ways (Do stmt) (Do next ∷ items) memory other stands (cell, leaves, chooses, all) carries = leaving-begins cell stmt next items stands leaves chooses all memory other carries
    left-ways SentenceEnd (Do next ∷ items) memory other stands left carries = absurd stands
    left-ways (Turn turning body) (Do next ∷ items) memory other stands (cell, leaves, chooses, all) carries =
        subst (λ t. TurningFits t × BodyFits t body → Go_alike (turn_way here t body (Do next ∷ items) memory) (turn_way there (written_turning t) (written_body naming place range body) (written_items (Do next ∷ items) tail) other)) (sym leaves)
        (λ good. leaving-turn cell body next items good.0 good.1 chooses all memory other carries) stands

    pub item-ways : (item : Item) (items : List Item) (memory : Celled Memory) (other : Other) → Ready memory (item ∷ items) → Carries memory other →
        Go_alike (item_way here item items memory) (item_way there (written_item item) (written_items items tail) other)
    item-ways item items memory other (inl (stands, inr left)) carries = left-ways item items memory other stands left carries
    item-ways (Do stmt) items memory other (inl (stands, inl all)) carries = stmt-ways stmt items stands all memory other carries
    item-ways (Do stmt) items memory other (inr h) carries = cell-ways h.0 h.1 stmt items h.2 h.4 memory other h.3 carries
    item-ways SentenceEnd items memory other (inl (stands, inl all)) carries = absurd stands
    item-ways SentenceEnd items memory other (inr h) carries = absurd h
    item-ways (Turn turning body) items memory other (inl (stands, inl all)) carries = remainder-ways turning body items stands.0 stands.1 all memory other carries
    item-ways (Turn turning body) items memory other (inr h) carries = absurd h
