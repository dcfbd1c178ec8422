-- What a step adds to a rest: parts of a source program, and no more than the program holds.
use Rattle.std.proofs.Common.{◌≡◌, ℕ, zero, suc, ◌+◌, ◌<◌, ◌≤◌, Bool, true, false, List, [], ◌∷◌, subst, arith}
use Rattle.std.specs.Prelude.{slice_get, length}
use Rattle.control_flow_theory.specs.semantics.Outcome.{Trace, Tried, Got, Ends}
use Rattle.control_flow_theory.specs.language.Language.{Act, Test, Picker, If, By, ByCell, Control, Times, Until, Varying, Stmt, Choose, Loop, Perform, Go, GoDepending, NextSentence, ExitParagraph, ExitSection, ExitPerform, StopRun, Stmts, none, also, Arms, done, given, missing, Body, Nested, Performed, Range, Main, Part, Paragraph, Program, unless_absent, paragraph_at}
use Rattle.control_flow_theory.specs.language.Language as language
use Rattle.control_flow_theory.specs.semantics.Doing.{Doing}
use Rattle.control_flow_theory.specs.language.Items.{Turning, Counted, Tests, Steps, StepsAfter, Item, Do, SentenceEnd, Turn, before, before_body, before_arm, items_of, past_sentence, from_loop}
use Rattle.control_flow_theory.specs.semantics.Items.{Way, On, Halts, Into, To, ToEnd, way_after, tried, on, first_turn, loop_begins, turns, tests, steps_on, turn_way, to_one, item_way}
use Rattle.control_flow_theory.specs.semantics.Source.{rest_of}
use Rattle.control_flow_theory.specs.language.Own.{OwnAct, OwnTest, OwnControl}
use Rattle.control_flow_theory.specs.lowering.FlowFacts.{FlowFacts, OwnStmts, OwnArms, OwnBody, OwnParagraph, OwnParagraphs, IsSource, AllBelow}
use Rattle.control_flow_theory.specs.lowering.flow.Comes.{Comes, begins, enters, goes_on, goes_to, goes_to_end, over, falls}
use Rattle.control_flow_theory.proofs.lowering_lemmas.rests.Wholes.{OwnTurning, OwnItem}

-- a statement with all that is nested in it
abbrev mutual
  pub bulk : Stmt → ℕ
  bulk (language.Do act) = 2
  bulk (Choose picker arms) = 2 + bulk_of_arms arms
  bulk (Loop control body) = 2 + (1 + bulk_of_body body)
  bulk (Perform entry exit) = 2
  bulk (Go to) = 2
  bulk (GoDepending to on) = 2
  bulk NextSentence = 2
  bulk ExitParagraph = 2
  bulk (ExitSection last) = 2
  bulk (ExitPerform cycle) = 2
  bulk StopRun = 2

  pub bulks : Stmts → ℕ
  bulks none = 0
  bulks (also stmt stmts) = bulk stmt + bulks stmts

  pub bulk_of_arms : Arms → ℕ
  bulk_of_arms done = 0
  bulk_of_arms (given arm others) = bulks arm + bulk_of_arms others
  bulk_of_arms (missing others) = bulk_of_arms others

  pub bulk_of_body : Body → ℕ
  bulk_of_body (Nested stmts) = bulks stmts
  bulk_of_body (Performed entry exit) = 2

abbrev pub item_bulk : Item → ℕ
item_bulk (Do stmt) = bulk stmt
item_bulk SentenceEnd = 1
item_bulk (Turn turning body) = 1 + bulk_of_body body

abbrev pub items_bulk : List Item → ℕ
items_bulk [] = 0
items_bulk (x ∷ xs) = item_bulk x + items_bulk xs

abbrev pub paragraphs_bulk : List Paragraph → ℕ
paragraphs_bulk [] = 0
paragraphs_bulk (paragraph ∷ others) = items_bulk (items_of paragraph) + paragraphs_bulk others

-- no item is larger than this
abbrev pub program_bulk : Program → ℕ
program_bulk program = 2 + paragraphs_bulk program.paragraphs

abbrev pub weight_of : Item → ℕ
weight_of (Do stmt) = 2
weight_of SentenceEnd = 1
weight_of (Turn turning body) = 1

-- what is still to do, by numbers that fall where the walk stands still
abbrev pub weight : List Item → ℕ
weight [] = 0
weight (x ∷ xs) = weight_of x + weight xs

abbrev pub Fits : FlowFacts → ℕ → ℕ → List Item → Type 0
Fits told paragraphs most [] = Unit {0}
Fits told paragraphs most (x ∷ xs) = OwnItem told paragraphs x × (item_bulk x ≤ most) × Fits told paragraphs most xs

bulk-positive : (s : Stmt) → 2 ≤ bulk s
bulk-positive (language.Do act) = omega arith
bulk-positive (Choose picker arms) = omega arith
bulk-positive (Loop control body) = omega arith
bulk-positive (Perform entry exit) = omega arith
bulk-positive (Go to) = omega arith
bulk-positive (GoDepending to on) = omega arith
bulk-positive NextSentence = omega arith
bulk-positive ExitParagraph = omega arith
bulk-positive (ExitSection last) = omega arith
bulk-positive (ExitPerform cycle) = omega arith
bulk-positive StopRun = omega arith

weight-before : (ss : Stmts) (xs : List Item) → weight (before ss xs) ≤ bulks ss + weight xs
weight-before none xs = omega arith
weight-before (also s ss) xs = omega (arith, weight-before ss xs, bulk-positive s)

weight-body : (body : Body) (xs : List Item) → weight (before_body body xs) ≤ bulk_of_body body + weight xs
weight-body (Nested ss) xs = weight-before ss xs
weight-body (Performed e x) xs = omega arith

weight-arm : (arms : Arms) (k : ℕ) (xs : List Item) → weight (before_arm arms k xs) ≤ bulk_of_arms arms + weight xs
weight-arm done k xs = omega arith
weight-arm (given arm others) zero xs = omega (arith, weight-before arm xs)
weight-arm (given arm others) (suc k) xs = omega (arith, weight-arm others k xs)
weight-arm (missing others) zero xs = omega arith
weight-arm (missing others) (suc k) xs = omega (arith, weight-arm others k xs)

pub past-light : (xs : List Item) → weight (past_sentence xs) ≤ weight xs
past-light [] = omega arith
past-light (Do s ∷ xs) = omega (arith, past-light xs)
past-light (SentenceEnd ∷ xs) = omega arith
past-light (Turn turning body ∷ xs) = omega (arith, past-light xs)

pub loop-light : (cycle : Bool) (xs : List Item) → weight (from_loop cycle xs) ≤ weight xs
loop-light cycle [] = omega arith
loop-light cycle (Do s ∷ xs) = omega (arith, loop-light cycle xs)
loop-light cycle (SentenceEnd ∷ xs) = omega (arith, loop-light cycle xs)
loop-light true (Turn turning body ∷ xs) = omega arith
loop-light false (Turn turning body ∷ xs) = omega arith

weight-bulk : (xs : List Item) → weight xs ≤ items_bulk xs
weight-bulk [] = omega arith
weight-bulk (Do s ∷ xs) = omega (arith, weight-bulk xs, bulk-positive s)
weight-bulk (SentenceEnd ∷ xs) = omega (arith, weight-bulk xs)
weight-bulk (Turn turning body ∷ xs) = omega (arith, weight-bulk xs)

split : (ss : Stmts) (xs : List Item) → items_bulk (before ss xs) ≡ bulks ss + items_bulk xs
split none xs = omega arith
split (also s ss) xs = let e = split ss xs in omega (arith, e)

found-bulk : (ps : List Paragraph) (q : ℕ) → items_bulk (items_of (unless_absent (slice_get ps q))) ≤ paragraphs_bulk ps
found-bulk [] q = omega arith
found-bulk (x ∷ xs) zero = omega arith
found-bulk (x ∷ xs) (suc q) = omega (arith, found-bulk xs q)

module _ (told : FlowFacts) (paragraphs most : ℕ) where
  abbrev Fit : List Item → Type 0
  Fit xs = Fits told paragraphs most xs

  fits-before : (ss : Stmts) (xs : List Item) → OwnStmts told paragraphs ss → bulks ss ≤ most → Fit xs → Fit (before ss xs)
  fits-before none xs own le f = f
  fits-before (also s ss) xs own le f = (own.0, omega arith, fits-before ss xs own.1 (omega arith) f)

  fits-body : (body : Body) (xs : List Item) → OwnBody told paragraphs body → bulk_of_body body ≤ most → Fit xs → Fit (before_body body xs)
  fits-body (Nested ss) xs own le f = fits-before ss xs own le f
  fits-body (Performed e x) xs own le f = (own, le, f)

  fits-arm : (arms : Arms) (k : ℕ) (xs : List Item) → OwnArms told paragraphs arms → bulk_of_arms arms ≤ most → Fit xs → Fit (before_arm arms k xs)
  fits-arm done k xs own le f = f
  fits-arm (given arm others) zero xs own le f = fits-before arm xs own.0 (omega arith) f
  fits-arm (given arm others) (suc k) xs own le f = fits-arm others k xs own.1 (omega arith) f
  fits-arm (missing others) zero xs own le f = f
  fits-arm (missing others) (suc k) xs own le f = fits-arm others k xs own le f

  fits-past : (xs : List Item) → Fit xs → Fit (past_sentence xs)
  fits-past [] f = tt
  fits-past (Do s ∷ xs) f = fits-past xs f.2
  fits-past (SentenceEnd ∷ xs) f = f.2
  fits-past (Turn turning body ∷ xs) f = fits-past xs f.2

  fits-loop : (cycle : Bool) (xs : List Item) → Fit xs → Fit (from_loop cycle xs)
  fits-loop cycle [] f = tt
  fits-loop cycle (Do s ∷ xs) f = fits-loop cycle xs f.2
  fits-loop cycle (SentenceEnd ∷ xs) f = fits-loop cycle xs f.2
  fits-loop true (Turn turning body ∷ xs) f = f
  fits-loop false (Turn turning body ∷ xs) f = f.2

  -- what a way adds to a rest of this weight
  abbrev pub Adds : {Memory : Type 0} → ℕ → Way Memory → Type 0
  Adds heavy (On trace memory items) = (weight items ≤ heavy) × Fit items
  Adds heavy (Halts trace how memory) = Unit {0}
  Adds heavy (Into entry exit items) = (weight items ≤ heavy) × Fit items × (entry < paragraphs) × (exit < paragraphs)
  Adds heavy (To trace memory to) = to < paragraphs
  Adds heavy (ToEnd trace memory to) = to < paragraphs

  module _ {Memory : Type 0} (doing : Doing Memory) where
    after-adds : (heavy : ℕ) (trace : Trace) (way : Way Memory) → Adds heavy way → Adds heavy (way_after trace way)
    after-adds heavy trace (On t memory items) h = h
    after-adds heavy trace (Halts t how memory) h = h
    after-adds heavy trace (Into entry exit items) h = h
    after-adds heavy trace (To t memory to) h = h
    after-adds heavy trace (ToEnd t memory to) h = h

    tried-adds : {Value : Type 0} (heavy : ℕ) (a : Tried Memory Value) (f : Value → Memory → Way Memory) → ((value : Value) (m : Memory) → Adds heavy (f value m)) → Adds heavy (tried a f)
    tried-adds heavy (Got trace value memory) f h = after-adds heavy trace (f value memory) (h value memory)
    tried-adds heavy (Ends trace kind memory) f h = tt

    round-adds : (ended : Bool) (turning : Turning) (body : Body) (xs : List Item) (m : Memory) → OwnTurning turning → OwnBody told paragraphs body → 1 + bulk_of_body body ≤ most → Fit xs →
        Adds (1 + bulk_of_body body + weight xs) (on doing (turns doing ended turning body xs) m)
    round-adds true turning body xs m own_t own le f = (omega arith, f)
    round-adds false turning body xs m own_t own le f = (omega (arith, weight-body body (Turn turning body ∷ xs)), fits-body body (Turn turning body ∷ xs) own (omega arith) ((own_t, own), le, f))

    tests-adds : (test : Test) (turning : Turning) (body : Body) (xs : List Item) (m : Memory) → OwnTurning turning → OwnBody told paragraphs body → 1 + bulk_of_body body ≤ most → Fit xs →
        Adds (1 + bulk_of_body body + weight xs) (tests doing test turning body xs m)
    tests-adds test turning body xs m own_t own le f =
        tried-adds (1 + bulk_of_body body + weight xs) (doing.test test m) (λ ended. on doing (turns doing ended turning body xs)) (λ ended now. round-adds ended turning body xs now own_t own le f)

    steps-adds : (ended : Bool) (step : Act) (test : Test) (body : Body) (xs : List Item) (m : Memory) → OwnAct step → OwnTest test → OwnBody told paragraphs body → 1 + bulk_of_body body ≤ most → Fit xs →
        Adds (1 + bulk_of_body body + weight xs) (steps_on doing ended step test body xs m)
    steps-adds true step test body xs m own_s own_t own le f = (omega arith, f)
    steps-adds false step test body xs m own_s own_t own le f =
        tried-adds (1 + bulk_of_body body + weight xs) (doing.act step m) (λ u. on doing (before_body body (Turn (StepsAfter step test) body ∷ xs))) (λ u now. round-adds false (StepsAfter step test) body xs now (own_s, own_t) own le f)

    turn-adds : (turning : Turning) (body : Body) (xs : List Item) (m : Memory) → OwnTurning turning → OwnBody told paragraphs body → 1 + bulk_of_body body ≤ most → Fit xs →
        Adds (1 + bulk_of_body body + weight xs) (turn_way doing turning body xs m)
    turn-adds (Counted zero) body xs m own_t own le f = (omega arith, f)
    turn-adds (Counted (suc n)) body xs m own_t own le f = round-adds false (Counted n) body xs m tt own le f
    turn-adds (Tests test) body xs m own_t own le f = tests-adds test (Tests test) body xs m own_t own le f
    turn-adds (Steps false step test) body xs m own_t own le f = tests-adds test (Steps true step test) body xs m own_t own le f
    turn-adds (Steps true step test) body xs m own_t own le f =
        tried-adds (1 + bulk_of_body body + weight xs) (doing.act step m) (λ u. tests doing test (Steps true step test) body xs) (λ u now. tests-adds test (Steps true step test) body xs now own_t own le f)
    turn-adds (StepsAfter step test) body xs m own_t own le f =
        tried-adds (1 + bulk_of_body body + weight xs) (doing.test test m) (λ ended. steps_on doing ended step test body xs) (λ ended now. steps-adds ended step test body xs now own_t.0 own_t.1 own le f)

    first-adds : (after : Bool) (turning : Turning) (body : Body) (xs : List Item) (m : Memory) → OwnTurning turning → OwnBody told paragraphs body → 1 + bulk_of_body body ≤ most → Fit xs →
        Adds (1 + bulk_of_body body + weight xs) (on doing (first_turn doing after turning body xs) m)
    first-adds false turning body xs m own_t own le f = (omega arith, ((own_t, own), le, f))
    first-adds true turning body xs m own_t own le f = round-adds false turning body xs m own_t own le f

    loop-adds : (control : Control) (body : Body) (xs : List Item) (m : Memory) → OwnControl control → OwnBody told paragraphs body → 1 + bulk_of_body body ≤ most → Fit xs →
        Adds (1 + bulk_of_body body + weight xs) (loop_begins doing control body xs m)
    loop-adds (Times amount) body xs m own_c own le f =
        tried-adds (1 + bulk_of_body body + weight xs) (doing.count amount m) (λ left. on doing (Turn (Counted left) body ∷ xs)) (λ left now. (omega arith, ((tt, own), le, f)))
    loop-adds (Until after test) body xs m own_c own le f = first-adds after (Tests test) body xs m own_c own le f
    loop-adds (Varying false set step test) body xs m own_c own le f =
        tried-adds (1 + bulk_of_body body + weight xs) (doing.act set m) (λ u. on doing (first_turn doing false (Steps false step test) body xs)) (λ u now. first-adds false (Steps false step test) body xs now (own_c.1, own_c.2) own le f)
    loop-adds (Varying true set step test) body xs m own_c own le f =
        tried-adds (1 + bulk_of_body body + weight xs) (doing.act set m) (λ u. on doing (first_turn doing true (StepsAfter step test) body xs)) (λ u now. first-adds true (StepsAfter step test) body xs now (own_c.1, own_c.2) own le f)

    one-adds : (to : List ℕ) (k : ℕ) (xs : List Item) (m : Memory) → AllBelow paragraphs to → Fit xs → Adds (2 + weight xs) (to_one doing (slice_get to k) xs m)
    one-adds [] k xs m below f = (omega arith, f)
    one-adds (t ∷ ts) zero xs m below f = below.0
    one-adds (t ∷ ts) (suc k) xs m below f = one-adds ts k xs m below.1 f

    more-adds : (heavy higher : ℕ) (way : Way Memory) → heavy ≤ higher → Adds heavy way → Adds higher way
    more-adds heavy higher (On t memory items) le h = (omega (arith, h.0), h.1)
    more-adds heavy higher (Halts t how memory) le h = tt
    more-adds heavy higher (Into entry exit items) le h = (omega (arith, h.0), h.1, h.2, h.3)
    more-adds heavy higher (To t memory to) le h = h
    more-adds heavy higher (ToEnd t memory to) le h = h

    pub item-adds : (x : Item) (xs : List Item) (m : Memory) → OwnItem told paragraphs x → item_bulk x ≤ most → Fit xs → Adds (item_bulk x + weight xs) (item_way doing x xs m)
    item-adds (Do (language.Do act)) xs m own le f = tried-adds (2 + weight xs) (doing.act act m) (λ u. on doing xs) (λ u now. (omega arith, f))
    item-adds (Do (Choose picker arms)) xs m own le f =
        tried-adds (2 + bulk_of_arms arms + weight xs) (doing.pick picker m) (λ k. on doing (before_arm arms k xs)) (λ k now. (omega (arith, weight-arm arms k xs), fits-arm arms k xs own.1 (omega arith) f))
    item-adds (Do (Loop control body)) xs m own le f = more-adds (1 + bulk_of_body body + weight xs) (2 + (1 + bulk_of_body body) + weight xs) (loop_begins doing control body xs m) (omega arith) (loop-adds control body xs m own.0 own.1 (omega arith) f)
    item-adds (Do (Perform e x)) xs m own le f = (omega arith, f, own.0, own.1)
    item-adds (Do (Go to)) xs m own le f = own
    item-adds (Do (GoDepending to chooser)) xs m own le f = tried-adds (2 + weight xs) (doing.pick (By chooser) m) (λ k. to_one doing (slice_get to k) xs) (λ k now. one-adds to k xs now own.1 f)
    item-adds (Do NextSentence) xs m own le f = (omega (arith, past-light xs), fits-past xs f)
    item-adds (Do ExitParagraph) xs m own le f = (omega arith, tt)
    item-adds (Do (ExitSection last)) xs m own le f = own
    item-adds (Do (ExitPerform cycle)) xs m own le f = (omega (arith, loop-light cycle xs), fits-loop cycle xs f)
    item-adds (Do StopRun) xs m own le f = tt
    item-adds SentenceEnd xs m own le f = (omega arith, f)
    item-adds (Turn turning body) xs m own le f = turn-adds turning body xs m own.0 own.1 le f

  fits-paragraph : (ss : Paragraph) → OwnParagraph told paragraphs ss → items_bulk (items_of ss) ≤ most → Fit (items_of ss)
  fits-paragraph [] own le = tt
  fits-paragraph (s ∷ ss) own le =
      let e = split s (SentenceEnd ∷ items_of ss) in
      fits-before s (SentenceEnd ∷ items_of ss) own.0 (omega (arith, e)) (tt, omega (arith, e), fits-paragraph ss own.1 (omega (arith, e)))

  own-found : (ps : List Paragraph) (q : ℕ) → OwnParagraphs told paragraphs ps → OwnParagraph told paragraphs (unless_absent (slice_get ps q))
  own-found [] q own = tt
  own-found (x ∷ xs) zero own = own.0
  own-found (x ∷ xs) (suc q) own = own-found xs q own.1

module _ (told : FlowFacts) (program : Program) (source : IsSource told program) where
  abbrev pub FitsIn : List Item → Type 0
  FitsIn xs = Fits told (length program.paragraphs) (program_bulk program) xs

  pub rest-light : (q : ℕ) → weight (rest_of program q) ≤ program_bulk program
  rest-light q = omega (arith, found-bulk program.paragraphs q, weight-bulk (rest_of program q))

  pub rest-fits : (q : ℕ) → FitsIn (rest_of program q)
  rest-fits q = fits-paragraph told (length program.paragraphs) (program_bulk program) (paragraph_at program q) (own-found told (length program.paragraphs) (program_bulk program) program.paragraphs q source) (omega (arith, found-bulk program.paragraphs q))

  -- what a level comes to are parts of the program
  pub comes-fits : {Memory : Type 0} (doing : Doing Memory) (first : ℕ) (first_rest : List Item) → FitsIn first_rest → (range : Range) (q : ℕ) (rest : List Item) → Comes doing program first first_rest range q rest → FitsIn rest
  comes-fits doing first first_rest f range q rest begins = f
  comes-fits doing first first_rest f range q rest (enters entry exit) = rest-fits entry
  comes-fits doing first first_rest f range q rest (goes_on r n item others m trace after items c e) =
      let h = comes-fits doing first first_rest f r n (item ∷ others) c in
      (subst (Adds told (length program.paragraphs) (program_bulk program) (item_bulk item + weight others)) e (item-adds told (length program.paragraphs) (program_bulk program) doing item others m h.0 h.1 h.2)).1
  comes-fits doing first first_rest f range q rest (goes_to r n item others m trace after to c e) = rest-fits to
  comes-fits doing first first_rest f range q rest (goes_to_end r n item others m trace after to c e) = tt
  comes-fits doing first first_rest f range q rest (over r n item others m entry exit items c e d) =
      let h = comes-fits doing first first_rest f r n (item ∷ others) c in
      (subst (Adds told (length program.paragraphs) (program_bulk program) (item_bulk item + weight others)) e (item-adds told (length program.paragraphs) (program_bulk program) doing item others m h.0 h.1 h.2)).1
  comes-fits doing first first_rest f range q rest (falls r n next is out c) = rest-fits (suc n)
