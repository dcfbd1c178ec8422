-- What the levels of a structured program come to, and perform.
use Rattle.std.proofs.Common.{◌≡◌, ◌≢◌, ℕ, zero, suc, ◌+◌, ◌<◌, ◌≤◌, Bool, true, false, List, [], ◌∷◌, length, slice_get, refl, ap, sym, ◌∙◌, subst, arith, ◌⊎◌, inl, inr}
use Rattle.std.proofs.lemmas.Bool.Decides.{eqb_tells}
use Rattle.control_flow_theory.specs.semantics.Outcome.{Trace, Tried, Got, Ends}
use Rattle.control_flow_theory.specs.language.Language.{Act, Test, Picker, Control, Times, Until, Varying, Stmt, Choose, Loop, Perform, Go, GoDepending, NextSentence, ExitParagraph, ExitSection, ExitPerform, StopRun, Stmts, none, also, Arms, done, given, missing, Body, Nested, Performed, Paragraph, Program, unless_absent, Range, Main, Part}
use Rattle.control_flow_theory.specs.language.Language as language
use Rattle.control_flow_theory.specs.semantics.Doing.{Doing}
use Rattle.control_flow_theory.specs.language.Items.{Turning, Counted, Tests, Steps, StepsAfter, Item, Do, SentenceEnd, Turn, before, before_body, before_arm, items_of}
use Rattle.control_flow_theory.specs.semantics.Items.{Way, On, Halts, Into, To, ToEnd, way_after, tried, on, first_turn, varying, loop_begins, turns, tests, steps_on, turn_way, stmt_way, item_way}
use Rattle.control_flow_theory.specs.semantics.Source.{rest_of}
use Rattle.control_flow_theory.specs.language.Structured.{StmtNests, StmtsNest, ArmsNest, BodyNests, NamesLater, ParagraphNests, ParagraphsNest, EndsInStop, FirstStops, IsStructuredControl}
use Rattle.control_flow_theory.specs.lowering.FlowFacts.{FlowFacts}
use Rattle.control_flow_theory.specs.lowering.flow.Comes.{Comes, IsNoExit, begins, enters, goes_on, goes_to, goes_to_end, over, falls}
use Rattle.control_flow_theory.specs.lowering.flow.Paths.{free}
use Rattle.control_flow_theory.specs.lowering.flow.Entered.{IsEntered, main, performed}
use Rattle.control_flow_theory.specs.lowering.flow.Called.{IsCalled}
use Rattle.fixed_point.specs.Again.{IsRangeAt}
use Rattle.fixed_point_laws.specs.Levels.{LevelsPerformLater, EnteredAreParagraphs}

-- the last items are STOP RUN and the sentence's end
abbrev StopsLast : List Item → Type 0
StopsLast [] = ⊥
StopsLast (item ∷ []) = ⊥
StopsLast (item ∷ next ∷ []) = item ≡ Do StopRun
StopsLast (item ∷ next ∷ third ∷ items) = StopsLast (next ∷ third ∷ items)

stops-add : (item : Item) (items : List Item) → StopsLast items → StopsLast (item ∷ items)
stops-add item [] h = absurd h
stops-add item (next ∷ []) h = absurd h
stops-add item (next ∷ third ∷ items) h = h

stops-tail : (item : Item) (items : List Item) → StopsLast (item ∷ items) → (item ≡ Do StopRun) ⊎ StopsLast items
stops-tail item [] h = absurd h
stops-tail item (next ∷ []) h = inl h
stops-tail item (next ∷ third ∷ items) h = inr h

stops-before : (stmts : Stmts) → EndsInStop stmts → StopsLast (before stmts (SentenceEnd ∷ []))
stops-before none h = absurd h
stops-before (also stmt none) h = ap Do h
stops-before (also stmt (also next stmts)) h = stops-add (Do stmt) (Do next ∷ before stmts (SentenceEnd ∷ [])) (stops-before (also next stmts) h)

module _ {Memory : Type 0} (doing : Doing Memory) (Such : ℕ → ℕ → Type 0) (P : List Item → Type 0) where
  abbrev ItemNests : Item → Type 0
  ItemNests (Do stmt) = StmtNests Such stmt
  ItemNests SentenceEnd = Unit {0}
  ItemNests (Turn turning body) = BodyNests Such body

  -- what it goes on with is such a rest, and what it performs is such a range
  abbrev WayKeeps : Way Memory → Type 0
  WayKeeps (On trace memory items) = P items
  WayKeeps (Halts trace how memory) = Unit {0}
  WayKeeps (Into entry exit items) = Such entry exit × P items
  WayKeeps (To trace memory to) = ⊥
  WayKeeps (ToEnd trace memory to) = ⊥

  keeps-after : (shown : Trace) (way : Way Memory) → WayKeeps way → WayKeeps (way_after shown way)
  keeps-after shown (On trace memory items) h = h
  keeps-after shown (Halts trace how memory) h = h
  keeps-after shown (Into entry exit items) h = h
  keeps-after shown (To trace memory to) h = h
  keeps-after shown (ToEnd trace memory to) h = h

  keeps-tried : {Value : Type 0} (t : Tried Memory Value) (f : Value → Memory → Way Memory) → ((v : Value) (memory : Memory) → WayKeeps (f v memory)) → WayKeeps (tried t f)
  keeps-tried (Got trace value memory) f h = keeps-after trace (f value memory) (h value memory)
  keeps-tried (Ends trace kind memory) f h = tt

  module _ (add : (item : Item) (items : List Item) → ItemNests item → P items → P (item ∷ items)) where
    keeps-before : (stmts : Stmts) (items : List Item) → StmtsNest Such stmts → P items → P (before stmts items)
    keeps-before none items nests h = h
    keeps-before (also stmt stmts) items nests h = add (Do stmt) (before stmts items) nests.0 (keeps-before stmts items nests.1 h)

    keeps-arm : (arms : Arms) (k : ℕ) (items : List Item) → ArmsNest Such arms → P items → P (before_arm arms k items)
    keeps-arm done k items nests h = h
    keeps-arm (given arm others) zero items nests h = keeps-before arm items nests.0 h
    keeps-arm (given arm others) (suc k) items nests h = keeps-arm others k items nests.1 h
    keeps-arm (missing others) zero items nests h = h
    keeps-arm (missing others) (suc k) items nests h = keeps-arm others k items nests h

    keeps-body : (body : Body) (items : List Item) → BodyNests Such body → P items → P (before_body body items)
    keeps-body (Nested stmts) items nests h = keeps-before stmts items nests h
    keeps-body (Performed entry exit) items nests h = add (Do (Perform entry exit)) items nests h

    keeps-turn : (turning : Turning) (body : Body) (items : List Item) → BodyNests Such body → P items → P (before_body body (Turn turning body ∷ items))
    keeps-turn turning body items nests h = keeps-body body (Turn turning body ∷ items) nests (add (Turn turning body) items nests h)

    keeps-first : (after : Bool) (turning : Turning) (body : Body) (items : List Item) → BodyNests Such body → P items → P (first_turn doing after turning body items)
    keeps-first false turning body items nests h = add (Turn turning body) items nests h
    keeps-first true turning body items nests h = keeps-turn turning body items nests h

    keeps-turns : (ended : Bool) (turning : Turning) (body : Body) (items : List Item) → BodyNests Such body → P items → P (turns doing ended turning body items)
    keeps-turns true turning body items nests h = h
    keeps-turns false turning body items nests h = keeps-turn turning body items nests h

    keeps-tests : (test : Test) (turning : Turning) (body : Body) (items : List Item) (memory : Memory) → BodyNests Such body → P items → WayKeeps (tests doing test turning body items memory)
    keeps-tests test turning body items memory nests h =
        keeps-tried (doing.test test memory) (λ ended. on doing (turns doing ended turning body items)) (λ ended m. keeps-turns ended turning body items nests h)

    keeps-steps : (ended : Bool) (step : Act) (test : Test) (body : Body) (items : List Item) (memory : Memory) → BodyNests Such body → P items → WayKeeps (steps_on doing ended step test body items memory)
    keeps-steps true step test body items memory nests h = h
    keeps-steps false step test body items memory nests h =
        keeps-tried (doing.act step memory) (λ u. on doing (before_body body (Turn (StepsAfter step test) body ∷ items))) (λ u m. keeps-turn (StepsAfter step test) body items nests h)

    keeps-remainder : (turning : Turning) (body : Body) (items : List Item) (memory : Memory) → BodyNests Such body → P items → WayKeeps (turn_way doing turning body items memory)
    keeps-remainder (Counted zero) body items memory nests h = h
    keeps-remainder (Counted (suc n)) body items memory nests h = keeps-turn (Counted n) body items nests h
    keeps-remainder (Tests test) body items memory nests h = keeps-tests test (Tests test) body items memory nests h
    keeps-remainder (Steps false step test) body items memory nests h = keeps-tests test (Steps true step test) body items memory nests h
    keeps-remainder (Steps true step test) body items memory nests h =
        keeps-tried (doing.act step memory) (λ u. tests doing test (Steps true step test) body items) (λ u m. keeps-tests test (Steps true step test) body items m nests h)
    keeps-remainder (StepsAfter step test) body items memory nests h =
        keeps-tried (doing.test test memory) (λ ended. steps_on doing ended step test body items) (λ ended m. keeps-steps ended step test body items m nests h)

    keeps-loop : (control : Control) (body : Body) (items : List Item) (memory : Memory) → BodyNests Such body → P items → WayKeeps (loop_begins doing control body items memory)
    keeps-loop (Times amount) body items memory nests h =
        keeps-tried (doing.count amount memory) (λ n. on doing (Turn (Counted n) body ∷ items)) (λ n m. add (Turn (Counted n) body) items nests h)
    keeps-loop (Until after test) body items memory nests h = keeps-first after (Tests test) body items nests h
    keeps-loop (Varying after set step test) body items memory nests h =
        keeps-tried (doing.act set memory) (λ u. on doing (first_turn doing after (varying doing after step test) body items)) (λ u m. keeps-first after (varying doing after step test) body items nests h)

    keeps-stmt : (stmt : Stmt) (items : List Item) (memory : Memory) → StmtNests Such stmt → P items → WayKeeps (stmt_way doing stmt items memory)
    keeps-stmt (language.Do act) items memory nests h = keeps-tried (doing.act act memory) (λ u. on doing items) (λ u m. h)
    keeps-stmt (Choose picker arms) items memory nests h = keeps-tried (doing.pick picker memory) (λ k. on doing (before_arm arms k items)) (λ k m. keeps-arm arms k items nests h)
    keeps-stmt (Loop control body) items memory nests h = keeps-loop control body items memory nests h
    keeps-stmt (Perform entry exit) items memory nests h = (nests, h)
    keeps-stmt (Go to) items memory nests h = absurd nests
    keeps-stmt (GoDepending to chooser) items memory nests h = absurd nests
    keeps-stmt NextSentence items memory nests h = absurd nests
    keeps-stmt ExitParagraph items memory nests h = absurd nests
    keeps-stmt (ExitSection last) items memory nests h = absurd nests
    keeps-stmt (ExitPerform cycle) items memory nests h = absurd nests
    keeps-stmt StopRun items memory nests h = tt

    keeps-item : (item : Item) (items : List Item) (memory : Memory) → ItemNests item → P items → WayKeeps (item_way doing item items memory)
    keeps-item (Do stmt) items memory nests h = keeps-stmt stmt items memory nests h
    keeps-item SentenceEnd items memory nests h = h
    keeps-item (Turn turning body) items memory nests h = keeps-remainder turning body items memory nests h

module _ {Memory : Type 0} (doing : Doing Memory) (program : Program) (structured : IsStructuredControl program) where
  abbrev count : ℕ
  count = length program.paragraphs

  abbrev Named : ℕ → Item → Type 0
  Named here = ItemNests doing (NamesLater count here) (λ items. Unit {0})

  abbrev AllNamed : ℕ → List Item → Type 0
  AllNamed here [] = Unit {0}
  AllNamed here (item ∷ items) = Named here item × AllNamed here items

  -- a rest of a paragraph: that of the first one ends in STOP RUN
  abbrev RestOf : ℕ → List Item → Type 0
  RestOf here items = AllNamed here items × (here ≡ 0 → StopsLast items)

  rest-add : (here : ℕ) (item : Item) (items : List Item) → Named here item → RestOf here items → RestOf here (item ∷ items)
  rest-add here item items nests h = ((nests, h.0), λ first. stops-add item items (h.1 first))

  named-before : (here : ℕ) (stmts : Stmts) (items : List Item) → StmtsNest (NamesLater count here) stmts → AllNamed here items → AllNamed here (before stmts items)
  named-before here none items nests h = h
  named-before here (also stmt stmts) items nests h = (nests.0, named-before here stmts items nests.1 h)

  -- a paragraph that is there nests
  nests-at : (first : ℕ) (paragraphs : List Paragraph) → ParagraphsNest count first paragraphs → (n : ℕ) → n < length paragraphs → ParagraphNests count (first + n) (unless_absent (slice_get paragraphs n))
  nests-at first [] nests n lt = absurd (omega (arith, lt))
  nests-at first (paragraph ∷ others) nests zero lt = let e : first + 0 ≡ first = omega arith in subst (λ m. ParagraphNests count m paragraph) (sym e) nests.0
  nests-at first (paragraph ∷ others) nests (suc n) lt =
      let e : first + suc n ≡ suc first + n = omega arith in
      subst (λ m. ParagraphNests count m (unless_absent (slice_get others n))) (sym e) (nests-at (suc first) others nests.1 n (let l : length (paragraph ∷ others) ≡ suc (length others) = refl in omega (arith, lt, l)))

  named-paragraph : (here : ℕ) (paragraph : Paragraph) → ParagraphNests count here paragraph → AllNamed here (items_of paragraph)
  named-paragraph here [] nests = absurd nests
  named-paragraph here (sentence ∷ []) nests = named-before here sentence (SentenceEnd ∷ []) nests (tt, tt)
  named-paragraph here (sentence ∷ next ∷ sentences) nests = absurd nests

  later-rest : (here : ℕ) → 0 < here → here < count → RestOf here (rest_of program here)
  later-rest here past lt =
      let e : 0 + here ≡ here = omega arith in (
        named-paragraph here (unless_absent (slice_get program.paragraphs here)) (subst (λ n. ParagraphNests count n (unless_absent (slice_get program.paragraphs here))) e (nests-at 0 program.paragraphs structured.nests here lt)),
        λ is. absurd (omega (arith, is, past)),
      )

  first-rest : (paragraphs : List Paragraph) → ParagraphsNest count 0 paragraphs → FirstStops paragraphs → RestOf 0 (items_of (unless_absent (slice_get paragraphs 0)))
  first-rest [] nests stops = absurd stops
  first-rest ([] ∷ others) nests stops = absurd stops
  first-rest ((sentence ∷ []) ∷ others) nests stops = (named-paragraph 0 (sentence ∷ []) nests.0, λ is. stops-before sentence stops)
  first-rest ((sentence ∷ next ∷ sentences) ∷ others) nests stops = absurd nests.0

  way-keeps : (here : ℕ) (item : Item) (items : List Item) (memory : Memory) → RestOf here (item ∷ items) → WayKeeps doing (NamesLater count here) (RestOf here) (item_way doing item items memory)
  way-keeps here item items memory h = by_number here refl
    where
      keeps : (StopsLast items ⊎ (here ≢ 0)) → WayKeeps doing (NamesLater count here) (RestOf here) (item_way doing item items memory)
      keeps g = keeps-item doing (NamesLater count here) (RestOf here) (rest-add here) item items memory h.0.0 (h.0.1, λ is. elim g [ inl s ↦ s | inr other ↦ absurd (other is) ])

      by_tail : ((item ≡ Do StopRun) ⊎ StopsLast items) → WayKeeps doing (NamesLater count here) (RestOf here) (item_way doing item items memory)
      by_tail (inl e) = subst (λ i. WayKeeps doing (NamesLater count here) (RestOf here) (item_way doing i items memory)) (sym e) tt
      by_tail (inr s) = keeps (inl s)

      by_number : (n : ℕ) → here ≡ n → WayKeeps doing (NamesLater count here) (RestOf here) (item_way doing item items memory)
      by_number zero is = by_tail (stops-tail item items (h.1 is))
      by_number (suc n) is = keeps (inr (λ e. absurd (omega (arith, is, e))))

  start-rest : (here : ℕ) → here < count → RestOf here (rest_of program here)
  start-rest zero lt = first-rest program.paragraphs structured.nests structured.stops
  start-rest (suc here) lt = later-rest (suc here) (omega arith) lt

  -- what the way of an item keeps, where the item does it
  keeps-on : (here : ℕ) (item : Item) (items : List Item) (memory : Memory) (way : Way Memory) → item_way doing item items memory ≡ way → RestOf here (item ∷ items) → WayKeeps doing (NamesLater count here) (RestOf here) way
  keeps-on here item items memory way is h = subst (WayKeeps doing (NamesLater count here) (RestOf here)) is (way-keeps here item items memory h)

  -- the rest that a level comes to is one of its paragraph
  abbrev pub Inside : Range → ℕ → List Item → Type 0
  Inside Main number rest = (number ≡ 0) × RestOf 0 rest
  Inside (Part entry exit) number rest =
      entry ≡ exit → entry < count → (number ≡ entry) × RestOf entry rest

  inside-on : (range : Range) (number : ℕ) (item : Item) (rest : List Item) (memory : Memory) (way : Way Memory) (items : List Item) → item_way doing item rest memory ≡ way →
      ((here : ℕ) → WayKeeps doing (NamesLater count here) (RestOf here) way → RestOf here items) → Inside range number (item ∷ rest) → Inside range number items
  inside-on Main number item rest memory way items is so h = (h.0, so 0 (keeps-on 0 item rest memory way is h.1))
  inside-on (Part entry exit) number item rest memory way items is so h =
      λ same lt. (let k = h same lt in (k.0, so entry (keeps-on entry item rest memory way is k.1)))

  inside-never : (range range2 : Range) (number number2 : ℕ) (item : Item) (rest items : List Item) (memory : Memory) (way : Way Memory) → item_way doing item rest memory ≡ way →
      ((here : ℕ) → WayKeeps doing (NamesLater count here) (RestOf here) way → ⊥) → Inside range number (item ∷ rest) → range ≡ range2 → Inside range2 number2 items
  inside-never Main range2 number number2 item rest items memory way is never h same = absurd (never 0 (keeps-on 0 item rest memory way is h.1))
  inside-never (Part entry exit) range2 number number2 item rest items memory way is never h same =
      subst (λ r. Inside r number2 items) same (λ e lt. absurd (never entry (keeps-on entry item rest memory way is (h e lt).1)))

  inside-falls : (range : Range) (number : ℕ) → IsNoExit range number → Inside range number [] → (items : List Item) → Inside range (suc number) items
  inside-falls Main number passed h items = absurd (h.1.1 refl)
  inside-falls (Part entry exit) number passed h items = λ same lt.
      let k = h same lt in
      absurd (elim (eqb_tells exit number) [
        | inl t ↦ (let z : true ≡ false = sym t.0 ∙ passed in cc)
        | inr t ↦ t.1 (sym same ∙ sym k.0)
      ])

  pub inside : (range : Range) (number : ℕ) (rest : List Item) → Comes doing program 0 (rest_of program 0) range number rest → Inside range number rest
  inside range number rest (begins) = (refl, first-rest program.paragraphs structured.nests structured.stops)
  inside range number rest (enters entry exit) = λ same lt. (refl, start-rest entry lt)
  inside range number rest (goes_on r n item more memory trace after items c is) =
      inside-on r n item more memory (On trace after items) items is (λ here k. k) (inside r n (item ∷ more) c)
  inside range number rest (goes_to r n item more memory trace after to c is) =
      inside-never r r n to item more (rest_of program to) memory (To trace after to) is (λ here k. k) (inside r n (item ∷ more) c) refl
  inside range number rest (goes_to_end r n item more memory trace after to c is) =
      inside-never r r n to item more [] memory (ToEnd trace after to) is (λ here k. k) (inside r n (item ∷ more) c) refl
  inside range number rest (over r n item more memory entry exit items c is d) =
      inside-on r n item more memory (Into entry exit items) items is (λ here k. k.1) (inside r n (item ∷ more) c)
  inside range number rest (falls r n next there passed c) = inside-falls r n passed (inside r n [] c) (rest_of program (suc n))

module _ (told : FlowFacts) (program : Program) (structured : IsStructuredControl program) where
  -- what the level of a paragraph performs
  pub later : (number : ℕ) (range : Range) → number < length program.paragraphs → IsRangeAt number range → (entry exit : ℕ) → IsCalled told program range entry exit →
      NamesLater (length program.paragraphs) number entry exit
  later number Main lt is entry exit c =
      let k = inside (free told) program structured Main c.0 (Do (Perform entry exit) ∷ c.1) c.2 in
      subst (λ (n : ℕ). NamesLater (length program.paragraphs) n entry exit) (sym is) k.1.0.0
  later number (Part from to) lt is entry exit c =
      let k = inside (free told) program structured (Part from to) c.0 (Do (Perform entry exit) ∷ c.1) c.2 (is.0 ∙ sym is.1) (subst (λ (n : ℕ). n < length program.paragraphs) (sym is.0) lt) in
      subst (λ (n : ℕ). NamesLater (length program.paragraphs) n entry exit) is.0 k.1.0.0

  some-there : (paragraphs : List Paragraph) → FirstStops paragraphs → 0 < length paragraphs
  some-there [] h = absurd h
  some-there (paragraph ∷ paragraphs) h = omega arith

  abbrev Fine : Range → Type 0
  Fine Main = Unit {0}
  Fine (Part entry exit) = (entry ≡ exit) × (1 ≤ entry) × (entry < length program.paragraphs)

  named : (number entry exit : ℕ) → NamesLater (length program.paragraphs) number entry exit → Fine (Part entry exit)
  named number entry exit n = (n.0, (let e = n.1 in omega (arith, e)), n.2)

  performs : (range : Range) (entry exit : ℕ) → Fine range → IsCalled told program range entry exit → Fine (Part entry exit)
  performs Main entry exit h c = named 0 entry exit (later 0 Main (some-there program.paragraphs structured.stops) refl entry exit c)
  performs (Part from to) entry exit h c = named from entry exit (later from (Part from to) h.2 (refl, sym h.0) entry exit c)

  pub entered : (range : Range) → IsEntered told program range → Fine range
  entered range main = tt
  entered range (performed from number rest entry exit is c) = performs from entry exit (entered from is) (number, rest, c)

pub perform-later : LevelsPerformLater
perform-later = later

pub are-paragraphs : EnteredAreParagraphs
are-paragraphs = λ told program structured entry exit is. entered told program structured (Part entry exit) is
