-- What a level comes to in some memories it comes to by some ways; and what is entered, a free flow path performs.
use Rattle.std.proofs.Common.{◌≡◌, ℕ, zero, suc, true, false, Option, None, ◌+◌, if◌then◌else◌, nat_eq, List, [], ◌∷◌, ◌++◌, refl, ap, ◌∙◌, subst, append_assoc, eq-eqb, Some}
use Rattle.std.specs.Prelude.{slice_get, length}
use Rattle.control_flow_theory.specs.runs.Machine.{iterate}
use Rattle.control_flow_theory.proofs.runs_lemmas.Machines.{iterate-add}
use Rattle.control_flow_theory.specs.language.Language as language
use Rattle.control_flow_theory.specs.language.Language.{Act, Test, If, By, ByCell, Times, Until, Varying, Choose, Loop, Perform, Go, GoDepending, NextSentence, ExitParagraph, ExitSection, ExitPerform, StopRun, Body, Paragraph, Program, Range, Main, Part}
use Rattle.control_flow_theory.specs.language.Items.{Counted, Tests, Steps, StepsAfter, Item, Do, SentenceEnd, Turn}
use Rattle.control_flow_theory.specs.semantics.Doing.{Acting, alone}
use Rattle.control_flow_theory.specs.semantics.Items.{Way, On, Into, To, ToEnd, way_after, steps_on, to_one, item_way}
use Rattle.control_flow_theory.specs.language.Items.{Pending}
use Rattle.control_flow_theory.specs.semantics.Source.{rest_of, falls}
use Rattle.control_flow_theory.specs.lowering.FlowFacts.{FlowFacts, IsTold, IsSource}
use Rattle.control_flow_theory.specs.lowering.flow.Comes.{Comes, begins, enters, goes_on, goes_to, goes_to_end, over, IsNoExit}
use Rattle.control_flow_theory.specs.lowering.flow.Comes as come
use Rattle.control_flow_theory.specs.lowering.flow.Paths.{Flow, flow, free, nothing_left, free_goes, free_step, next_way, later_ways, is_first, arm_for}
use Rattle.control_flow_theory.specs.lowering.flow.Entered.{FreelyComes, IsEntered, main, performed}
use Rattle.control_flow_theory.proofs.lowering_lemmas.rests.Fits.{FitsIn, comes-fits, rest-fits}
use Rattle.control_flow_theory.proofs.lowering_lemmas.flow.Freely.{Freely, item-freely}

-- what a head does by some ways it does by those alone that it takes
module _ (told : FlowFacts) where
  stepped-free : (n : ℕ) (stp : Act) (test : Test) (body : Body) (rest : List Item) (m : List ℕ) → Freely (way_after [] (steps_on (free told) (is_first n) stp test body rest m)) (λ ways. way_after [] (steps_on (free told) (is_first (next_way ways)) stp test body rest (later_ways ways)))
  stepped-free zero stp test body rest m = (0 ∷ [], λ more. refl)
  stepped-free (suc n) stp test body rest m = (suc n ∷ [], λ more. refl)

  one-free : (o : Option ℕ) (n : ℕ) (rest : List Item) (m : List ℕ) (f : List ℕ → Way (List ℕ)) → ((more : List ℕ) → f (n ∷ more) ≡ way_after [] (to_one (free told) o rest more)) → Freely (way_after [] (to_one (free told) o rest m)) f
  one-free None n rest m f e = (n ∷ [], e)
  one-free (Some to) n rest m f e = (n ∷ [], e)

  item-free : (x : Item) (rest : List Item) (m : List ℕ) → Freely (item_way (free told) x rest m) (item_way (free told) x rest)
  item-free (Do (language.Do act)) rest m = ([], λ more. refl)
  item-free (Do (Choose (If test) arms)) rest m = (next_way m ∷ [], λ more. refl)
  item-free (Do (Choose (By chooser) arms)) rest m = (next_way m ∷ [], λ more. refl)
  item-free (Do (Choose (ByCell cell) arms)) rest m = ([], λ more. refl)
  item-free (Do (Loop (Times amount) body)) rest m = (next_way m ∷ [], λ more. refl)
  item-free (Do (Loop (Until after test) body)) rest m = ([], λ more. refl)
  item-free (Do (Loop (Varying after set stp test) body)) rest m = ([], λ more. refl)
  item-free (Do (Perform e x)) rest m = λ more. refl
  item-free (Do (Go to)) rest m = ([], λ more. refl)
  item-free (Do (GoDepending to on)) rest m = one-free (slice_get to (arm_for (told.width on) (told.never_first on) (next_way m))) (next_way m) rest (later_ways m) (item_way (free told) (Do (GoDepending to on)) rest) (λ more. refl)
  item-free (Do NextSentence) rest m = ([], λ more. refl)
  item-free (Do ExitParagraph) rest m = ([], λ more. refl)
  item-free (Do (ExitSection last)) rest m = ([], λ more. refl)
  item-free (Do (ExitPerform cycle)) rest m = ([], λ more. refl)
  item-free (Do StopRun) rest m = tt
  item-free SentenceEnd rest m = ([], λ more. refl)
  item-free (Turn (Counted zero) body) rest m = ([], λ more. refl)
  item-free (Turn (Counted (suc n)) body) rest m = ([], λ more. refl)
  item-free (Turn (Tests test) body) rest m = (next_way m ∷ [], λ more. refl)
  item-free (Turn (Steps false stp test) body) rest m = (next_way m ∷ [], λ more. refl)
  item-free (Turn (Steps true stp test) body) rest m = (next_way m ∷ [], λ more. refl)
  item-free (Turn (StepsAfter stp test) body) rest m = stepped-free (next_way m) stp test body rest (later_ways m)

  one-alone : (found : Option ℕ) (rest : List Item) (e x : ℕ) (items : List Item) → way_after [] (to_one (free told) found rest []) ≡ Into e x items → ⊥
  one-alone None rest e x items is = cc
  one-alone (Some to) rest e x items is = cc

  -- what enters a range is a PERFORM
  performs-alone : (item : Item) (rest : List Item) (e x : ℕ) (items : List Item) → item_way (free told) item rest [] ≡ Into e x items → item ∷ rest ≡ Do (Perform e x) ∷ items
  performs-alone (Do (language.Do act)) rest e x items is = absurd (let k : ⊥ = cc in k)
  performs-alone (Do (Choose (If test) arms)) rest e x items is = absurd (let k : ⊥ = cc in k)
  performs-alone (Do (Choose (By chooser) arms)) rest e x items is = absurd (let k : ⊥ = cc in k)
  performs-alone (Do (Choose (ByCell cell) arms)) rest e x items is = absurd (let k : ⊥ = cc in k)
  performs-alone (Do (Loop (Times amount) body)) rest e x items is = absurd (let k : ⊥ = cc in k)
  performs-alone (Do (Loop (Until false test) body)) rest e x items is = absurd (let k : ⊥ = cc in k)
  performs-alone (Do (Loop (Until true test) body)) rest e x items is = absurd (let k : ⊥ = cc in k)
  performs-alone (Do (Loop (Varying false set stp test) body)) rest e x items is = absurd (let k : ⊥ = cc in k)
  performs-alone (Do (Loop (Varying true set stp test) body)) rest e x items is = absurd (let k : ⊥ = cc in k)
  performs-alone (Do (Perform f y)) rest e x items is = cc
  performs-alone (Do (Go to)) rest e x items is = absurd (let k : ⊥ = cc in k)
  performs-alone (Do (GoDepending to on)) rest e x items is = absurd (one-alone (slice_get to (arm_for (told.width on) (told.never_first on) 0)) rest e x items is)
  performs-alone (Do NextSentence) rest e x items is = absurd (let k : ⊥ = cc in k)
  performs-alone (Do ExitParagraph) rest e x items is = absurd (let k : ⊥ = cc in k)
  performs-alone (Do (ExitSection last)) rest e x items is = absurd (let k : ⊥ = cc in k)
  performs-alone (Do (ExitPerform cycle)) rest e x items is = absurd (let k : ⊥ = cc in k)
  performs-alone (Do StopRun) rest e x items is = absurd (let k : ⊥ = cc in k)
  performs-alone SentenceEnd rest e x items is = absurd (let k : ⊥ = cc in k)
  performs-alone (Turn (Counted zero) body) rest e x items is = absurd (let k : ⊥ = cc in k)
  performs-alone (Turn (Counted (suc n)) body) rest e x items is = absurd (let k : ⊥ = cc in k)
  performs-alone (Turn (Tests test) body) rest e x items is = absurd (let k : ⊥ = cc in k)
  performs-alone (Turn (Steps false stp test) body) rest e x items is = absurd (let k : ⊥ = cc in k)
  performs-alone (Turn (Steps true stp test) body) rest e x items is = absurd (let k : ⊥ = cc in k)
  performs-alone (Turn (StepsAfter stp test) body) rest e x items is = absurd (let k : ⊥ = cc in k)

-- this stands on the stack while the range's level runs
abbrev Stack : Range → List Pending → Type 0
Stack Main [] = Unit {0}
Stack Main (top ∷ others) = ⊥
Stack (Part e x) [] = ⊥
Stack (Part e x) (top ∷ others) = top.end ≡ x

abbrev entry_number : Range → ℕ
entry_number Main = 0
entry_number (Part e x) = e

module _ (told : FlowFacts) (program : Program) where
  abbrev stepped : Flow → Flow
  stepped f = free_step told program f

  -- by some ways, whatever ways come after
  abbrev Leads : ℕ → List Item → List Pending → ℕ → List Item → List Pending → Type 0
  Leads q rest pending q' rest' pending' = (ways : List ℕ) × (n : ℕ) × ((more : List ℕ) → iterate stepped n (flow q rest pending (ways ++ more)) ≡ flow q' rest' pending' more)

  then-leads : (q0 q1 q2 : ℕ) (r0 r1 r2 : List Item) (p0 p1 p2 : List Pending) → Leads q0 r0 p0 q1 r1 p1 → Leads q1 r1 p1 q2 r2 p2 → Leads q0 r0 p0 q2 r2 p2
  then-leads q0 q1 q2 r0 r1 r2 p0 p1 p2 l m = (
    l.0 ++ m.0,
    l.1 + m.1,
    λ more.
        ap (λ ways. iterate stepped (l.1 + m.1) (flow q0 r0 p0 ways)) (append_assoc l.0 m.0 more)
        ∙ iterate-add stepped l.1 m.1 (flow q0 r0 p0 (l.0 ++ (m.0 ++ more)))
        ∙ ap (iterate stepped m.1) (l.2 (m.0 ++ more))
        ∙ m.2 more,
  )

  falls-on : (r : Range) (q : ℕ) (next : Paragraph) (pending : List Pending) → slice_get program.paragraphs (suc q) ≡ Some next → IsNoExit r q → Stack r pending → (more : List ℕ) → stepped (flow q [] pending more) ≡ flow (suc q) (rest_of program (suc q)) pending more
  falls-on Main q next [] is out s more = ap (λ o. falls (free told) nothing_left program o (flow q [] [] more)) is
  falls-on Main q next (top ∷ others) is out s more = absurd s
  falls-on (Part e x) q next [] is out s more = absurd s
  falls-on (Part e x) q next (top ∷ others) is out s more =
      let start = flow q [] (top ∷ others) more in
      ap (λ b. if b then flow top.paragraph top.rest others more else falls (free told) nothing_left program (slice_get program.paragraphs (suc q)) start) (ap (λ y. nat_eq y q) s ∙ out)
      ∙ ap (λ o. falls (free told) nothing_left program o start) is

  pub comes-by-path : (range : Range) (q : ℕ) (rest : List Item) → FreelyComes told program range q rest → (pending : List Pending) → Stack range pending → Leads (entry_number range) (rest_of program (entry_number range)) pending q rest pending
  comes-by-path range q rest begins [] s = ([], 0, λ more. refl)
  comes-by-path range q rest begins (top ∷ others) s = absurd s
  comes-by-path range q rest (enters e x) pending s = ([], 0, λ more. refl)
  comes-by-path range q rest (goes_on r n item others m t after items c is) pending s =
      let way = subst (λ w. Freely w (item_way (free told) item others)) is (item-free told item others m) in
      then-leads (entry_number r) n n (rest_of program (entry_number r)) (item ∷ others) items pending pending pending (comes-by-path r n (item ∷ others) c pending s)
      (way.0, 1, λ more. ap (λ w. free_goes told program w (flow n (item ∷ others) pending (way.0 ++ more))) (way.1 more))
  comes-by-path range q rest (goes_to r n item others m t after to c is) pending s =
      let way = subst (λ w. Freely w (item_way (free told) item others)) is (item-free told item others m) in
      then-leads (entry_number r) n to (rest_of program (entry_number r)) (item ∷ others) (rest_of program to) pending pending pending (comes-by-path r n (item ∷ others) c pending s)
      (way.0, 1, λ more. ap (λ w. free_goes told program w (flow n (item ∷ others) pending (way.0 ++ more))) (way.1 more))
  comes-by-path range q rest (goes_to_end r n item others m t after to c is) pending s =
      let way = subst (λ w. Freely w (item_way (free told) item others)) is (item-free told item others m) in
      then-leads (entry_number r) n to (rest_of program (entry_number r)) (item ∷ others) [] pending pending pending (comes-by-path r n (item ∷ others) c pending s)
      (way.0, 1, λ more. ap (λ w. free_goes told program w (flow n (item ∷ others) pending (way.0 ++ more))) (way.1 more))
  comes-by-path range q rest (over r n item others m e x items c is d) pending s =
      let way = subst (λ w. Freely w (item_way (free told) item others)) is (item-free told item others m) in
      let pushed : List Pending = record { end = x; paragraph = n; rest = items } ∷ pending in
      then-leads (entry_number r) n n (rest_of program (entry_number r)) (item ∷ others) items pending pending pending (comes-by-path r n (item ∷ others) c pending s)
      (then-leads n e n (item ∷ others) (rest_of program e) items pending pushed pending
      ([], 1, λ more. ap (λ w. free_goes told program w (flow n (item ∷ others) pending more)) (way more))
      (then-leads e x n (rest_of program e) [] items pushed pushed pending (comes-by-path (Part e x) x [] d pushed refl)
      ([], 1, λ more. ap (λ b. if b then flow n items pending more else falls (free told) nothing_left program (slice_get program.paragraphs (suc x)) (flow x [] pushed more)) (eq-eqb x x refl))))
  comes-by-path range q rest (come.falls r n next is out c) pending s =
      then-leads (entry_number r) n (suc n) (rest_of program (entry_number r)) [] (rest_of program (suc n)) pending pending pending (comes-by-path r n [] c pending s)
      ([], 1, λ more. falls-on r n next pending is out s more)

  -- by some ways a free flow path is about to perform the range
  abbrev pub IsPerformed : ℕ → ℕ → Type 0
  IsPerformed entry exit = (number : ℕ) × (rest : List Item) × (pending : List Pending) × Leads 0 (rest_of program 0) [] number (Do (Perform entry exit) ∷ rest) pending

  -- a free flow path stands at the beginning of the range's level
  abbrev Begins : Range → Type 0
  Begins range = (pending : List Pending) × Stack range pending × Leads 0 (rest_of program 0) [] (entry_number range) (rest_of program (entry_number range)) pending

  -- it comes to that rest, with something pending
  abbrev Behind : ℕ → List Item → Type 0
  Behind number rest = (pending : List Pending) × Leads 0 (rest_of program 0) [] number rest pending

  behind : (range : Range) (number : ℕ) (rest : List Item) → Begins range → FreelyComes told program range number rest → Behind number rest
  behind range number rest b c = (b.0, then-leads 0 (entry_number range) number (rest_of program 0) (rest_of program (entry_number range)) rest [] b.0 b.0 b.2 (comes-by-path range number rest c b.0 b.1))

  begun : (range : Range) → IsEntered told program range → Begins range
  begun range main = ([], tt, ([], 0, λ more. refl))
  begun range (performed from number rest entry exit is c) =
      let p = behind from number (Do (Perform entry exit) ∷ rest) (begun from is) c in
      let pushed : List Pending = record { end = exit; paragraph = number; rest = rest } ∷ p.0 in
      (pushed, refl, then-leads 0 number entry (rest_of program 0) (Do (Perform entry exit) ∷ rest) (rest_of program entry) [] p.0 pushed p.1 ([], 1, λ more. refl))

  abbrev Performs : Range → Type 0
  Performs Main = Unit {0}
  Performs (Part entry exit) = IsPerformed entry exit

  -- what is entered, a free flow path performs
  pub entered-performs : (range : Range) → IsEntered told program range → Performs range
  entered-performs range main = tt
  entered-performs range (performed from number rest entry exit is c) =
      let p = behind from number (Do (Perform entry exit) ∷ rest) (begun from is) c in
      (number, rest, p.0, p.1)

  -- what is performed in an entered range's level is entered
  pub freely-entered : (range : Range) (number : ℕ) (item : Item) (rest : List Item) (m : List ℕ) (entry exit : ℕ) (items : List Item) → IsEntered told program range → FreelyComes told program range number (item ∷ rest) →
      item_way (free told) item rest m ≡ Into entry exit items → IsEntered told program (Part entry exit)
  freely-entered range number item rest m entry exit items here c is =
      let way = subst (λ w. Freely w (item_way (free told) item rest)) is (item-free told item rest m) in
      performed range number items entry exit here (subst (FreelyComes told program range number) (performs-alone told item rest entry exit items (way [])) c)

module _ {Memory : Type 0} (acting : Acting Memory) (told : FlowFacts) (is_told : IsTold told acting) (program : Program) (source : IsSource told program) where
  fits-here : (range : Range) (q : ℕ) (rest : List Item) → Comes (alone acting) program 0 (rest_of program 0) range q rest → FitsIn told program source rest
  fits-here range q rest c = comes-fits told program source (alone acting) 0 (rest_of program 0) (rest-fits told program source 0) range q rest c

  freely-here : (r : Range) (n : ℕ) (item : Item) (others : List Item) (m : Memory) (way : Way Memory) → Comes (alone acting) program 0 (rest_of program 0) r n (item ∷ others) → item_way (alone acting) item others m ≡ way → Freely way (item_way (free told) item others)
  freely-here r n item others m way c is = subst (λ w. Freely w (item_way (free told) item others)) is (item-freely acting told is_told (length program.paragraphs) item others m (fits-here r n (item ∷ others) c).0)

  -- what a level comes to in some memories, it comes to by some ways
  pub comes-freely : (range : Range) (q : ℕ) (rest : List Item) → Comes (alone acting) program 0 (rest_of program 0) range q rest → FreelyComes told program range q rest
  comes-freely range q rest begins = begins
  comes-freely range q rest (enters e x) = enters e x
  comes-freely range q rest (goes_on r n item others m t after items c is) =
      let way = freely-here r n item others m (On t after items) c is in
      goes_on r n item others (way.0 ++ []) [] [] items (comes-freely r n (item ∷ others) c) (way.1 [])
  comes-freely range q rest (goes_to r n item others m t after to c is) =
      let way = freely-here r n item others m (To t after to) c is in
      goes_to r n item others (way.0 ++ []) [] [] to (comes-freely r n (item ∷ others) c) (way.1 [])
  comes-freely range q rest (goes_to_end r n item others m t after to c is) =
      let way = freely-here r n item others m (ToEnd t after to) c is in
      goes_to_end r n item others (way.0 ++ []) [] [] to (comes-freely r n (item ∷ others) c) (way.1 [])
  comes-freely range q rest (over r n item others m e x items c is d) =
      over r n item others [] e x items (comes-freely r n (item ∷ others) c) (freely-here r n item others m (Into e x items) c is []) (comes-freely (Part e x) x [] d)
  comes-freely range q rest (come.falls r n next is out c) = come.falls r n next is out (comes-freely r n [] c)

  abbrev Entered : Range → Type 0
  Entered range = IsEntered told program range

  -- what is performed in an entered range's level is entered
  pub calls-entered : (range : Range) (number : ℕ) (item : Item) (rest : List Item) (m : Memory) (entry exit : ℕ) (items : List Item) → Entered range → Comes (alone acting) program 0 (rest_of program 0) range number (item ∷ rest) →
      item_way (alone acting) item rest m ≡ Into entry exit items → Entered (Part entry exit)
  calls-entered range number item rest m entry exit items here c is =
      let way = freely-here range number item rest m (Into entry exit items) c is [] in
      performed range number items entry exit here (subst (FreelyComes told program range number) (performs-alone told item rest entry exit items way) (comes-freely range number (item ∷ rest) c))
