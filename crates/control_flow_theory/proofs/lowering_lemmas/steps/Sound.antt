-- No walk of a lowered range is lost.
use Rattle.std.proofs.Common.{◌≡◌, ◌≢◌, ℕ, zero, suc, ◌+◌, ◌*◌, ◌<◌, true, false, if◌then◌else◌, nat_eq, List, [], ◌∷◌, ◌++◌, refl, ap, sym, ◌∙◌, subst, arith, ◌⊎◌, inl, inr, Option, Some, None}
use Rattle.std.specs.Prelude.{slice_get, length}
use Rattle.control_flow_theory.specs.runs.Run.{Going, Over, IsOver}
use Rattle.control_flow_theory.specs.runs.Tied.{Tied}
use Rattle.control_flow_theory.specs.runs.Machine.{iterate, meaning}
use Rattle.control_flow_theory.specs.semantics.Outcome.{Event, Ending, Returned, Lost, Faulted, Reentry, Overlap, Run, Standing, Tried, Got, Ends}
use Rattle.control_flow_theory.specs.language.Language.{Paragraph, Program, Perform, Range, Main, Part}
use Rattle.control_flow_theory.specs.semantics.Doing.{Doing, Acting, alone, Celled, celled}
use Rattle.control_flow_theory.specs.language.Items.{Item, Do, before}
use Rattle.control_flow_theory.specs.semantics.Items.{Way, On, Halts, Into, To, ToEnd, item_way}
use Rattle.control_flow_theory.specs.language.Items.{Pending, ends_at}
use Rattle.control_flow_theory.specs.semantics.Source.{SourceState, rest_of, comes_to, goes_to, goes, falls, end_step, rest_step, step_by, source_step, source_begun}
use Rattle.control_flow_theory.specs.semantics.Graph.{Tree, End, Pick, Jump, Return, Stop, Dead, Trees, Family, body_of, end_of}
use Rattle.control_flow_theory.specs.semantics.Walk.{Level, Walk, walk_goes, picked, picks, tree_at, returns, walk_end, walk_items, walk_by, walk_step, walk_begun, walk_machine}
use Rattle.control_flow_theory.specs.lowering.FlowFacts.{FlowFacts, IsTold, IsSource}
use Rattle.control_flow_theory.specs.lowering.Lower.{paragraph_end_target}
use Rattle.control_flow_theory.specs.lowering.Rests as rests
use Rattle.control_flow_theory.specs.lowering.flow.Comes.{Comes, begins, enters, goes_on, IsLowered}
use Rattle.control_flow_theory.specs.lowering.flow.Comes as come
use Rattle.control_flow_theory.specs.lowering.Laws.{before_range, RangeHasNoFlowFault, NoFlowFault}
use Rattle.control_flow_theory.proofs.lowering_lemmas.rests.Fits.{program_bulk, rest-light, rest-fits}
use Rattle.control_flow_theory.proofs.lowering_lemmas.rests.Joints.{joint, both, walk_at, Met, CallsNamed, NamedReturn}
use Rattle.control_flow_theory.proofs.lowering_lemmas.steps.Moves.{arrives-whole}
use Rattle.control_flow_theory.proofs.lowering_lemmas.steps.Linked.{begun-tied}

-- The source is never lost.

module _ {Memory Left : Type 0} (doing : Doing Memory) (left : Memory → Left) (program : Program) where
  abbrev State : Type 0
  State = SourceState Memory Left

  abbrev NotLost : State → Type 0
  NotLost s = s.run.standing ≢ Over Lost

  goes-not-lost : (s : State) (way : Way Memory) → NotLost s → NotLost (goes doing left program way s)
  goes-not-lost s (On t m items) h = h
  goes-not-lost s (Halts t how m) h = λ e. cc
  goes-not-lost s (Into entry exit items) h =
      elim (ends_at exit s.pending) as (λ b. NotLost (if b then comes_to doing left program (Faulted (Reentry exit)) s else goes_to doing left program entry (record s { pending = record { end = exit; paragraph = s.paragraph; rest = items } ∷ s.pending }))) [
        | true ↦ λ e. cc
        | false ↦ h
      ]
  goes-not-lost s (To t m to) h = h
  goes-not-lost s (ToEnd t m to) h = h

  falls-not-lost : (s : State) (found : Option Paragraph) → NotLost s → NotLost (falls doing left program found s)
  falls-not-lost s None h = λ e. cc
  falls-not-lost s (Some next) h = h

  end-not-lost : (s : State) (pending : List Pending) → NotLost s → NotLost (end_step doing left program pending s)
  end-not-lost s [] h = falls-not-lost s (slice_get program.paragraphs (suc s.paragraph)) h
  end-not-lost s (top ∷ others) h =
      let faulted = comes_to doing left program (Faulted (Overlap s.paragraph)) s in
      let fallen = falls doing left program (slice_get program.paragraphs (suc s.paragraph)) s in
      elim (nat_eq top.end s.paragraph) as (λ b. NotLost (if b then record s { paragraph = top.paragraph; rest = top.rest; pending = others } else (if ends_at s.paragraph others then faulted else fallen))) [
        | true ↦ h
        | false ↦ elim (ends_at s.paragraph others) as (λ b. NotLost (if b then faulted else fallen)) [
          | true ↦ λ e. cc
          | false ↦ falls-not-lost s (slice_get program.paragraphs (suc s.paragraph)) h
        ]
      ]

  rest-not-lost : (s : State) (rest : List Item) → NotLost s → NotLost (rest_step doing left program rest s)
  rest-not-lost s [] h = end-not-lost s s.pending h
  rest-not-lost s (x ∷ xs) h = goes-not-lost s (item_way doing x xs s.memory) h

  step-not-lost : (standing : Standing Left) (s : State) → NotLost s → NotLost (step_by doing left program standing s)
  step-not-lost Going s h = rest-not-lost s s.rest h
  step-not-lost (Over ending) s h = h

  pub source-not-lost : (n : ℕ) (s : State) → NotLost s → NotLost (iterate (source_step doing left program) n s)
  source-not-lost zero s h = h
  source-not-lost (suc n) s h = source-not-lost n (source_step doing left program s) (step-not-lost s.run.standing s h)

-- What a part's level comes to doesn't depend on where main begins.

abbrev IsPart : Range → Type 0
IsPart Main = ⊥
IsPart (Part entry exit) = Unit {0}

pub comes-anywhere : {Memory : Type 0} (doing : Doing Memory) (program : Program) (first other : ℕ) (first_rest other_rest : List Item) (range : Range) (q : ℕ) (rest : List Item) → IsPart range →
    Comes doing program first first_rest range q rest → Comes doing program other other_rest range q rest
comes-anywhere doing program first other first_rest other_rest range q rest part begins = absurd part
comes-anywhere doing program first other first_rest other_rest range q rest part (enters e x) = enters e x
comes-anywhere doing program first other first_rest other_rest range q rest part (goes_on r n item others m t after items c is) =
    goes_on r n item others m t after items (comes-anywhere doing program first other first_rest other_rest r n (item ∷ others) part c) is
comes-anywhere doing program first other first_rest other_rest range q rest part (come.goes_to r n item others m t after to c is) =
    come.goes_to r n item others m t after to (comes-anywhere doing program first other first_rest other_rest r n (item ∷ others) part c) is
comes-anywhere doing program first other first_rest other_rest range q rest part (come.goes_to_end r n item others m t after to c is) =
    come.goes_to_end r n item others m t after to (comes-anywhere doing program first other first_rest other_rest r n (item ∷ others) part c) is
comes-anywhere doing program first other first_rest other_rest range q rest part (come.over r n item others m e x items c is d) =
    come.over r n item others m e x items (comes-anywhere doing program first other first_rest other_rest r n (item ∷ others) part c) is (comes-anywhere doing program first other first_rest other_rest (Part e x) x [] tt d)
comes-anywhere doing program first other first_rest other_rest range q rest part (come.falls r n next is out c) =
    come.falls r n next is out (comes-anywhere doing program first other first_rest other_rest r n [] part c)

-- A walk with one more level at the bottom does the same, until it returns there.

module _ {Memory Left : Type 0} (acting : Acting Memory) (left : Memory → Left) (family : Family) (bottom : Level) where
  abbrev Walking : Type 0
  Walking = Walk Memory Left

  abbrev stepped : Walking → Walking
  stepped w = walk_step acting left family w

  abbrev on_bottom : Walking → Walking
  on_bottom w = record { level = w.level; callers = w.callers ++ bottom ∷ []; memory = w.memory; run = w.run }

  -- a step of the walk, or it has returned from its first level
  abbrev Same : Walking → Walking → Type 0
  Same v w = (w ≡ on_bottom v) ⊎ (v.run.standing ≡ Over (Returned (left v.memory.own)))

  walk-goes-same : (w : Walking) (way : Way (Celled Memory)) → walk_goes acting left family way (on_bottom w) ≡ on_bottom (walk_goes acting left family way w)
  walk-goes-same w (On t m items) = refl
  walk-goes-same w (Halts t how m) = refl
  walk-goes-same w (Into entry exit items) = refl
  walk-goes-same w (To t m to) = refl
  walk-goes-same w (ToEnd t m to) = refl

  picked-same : (w : Walking) (found : Option Tree) → picked acting left family found (on_bottom w) ≡ on_bottom (picked acting left family found w)
  picked-same w None = refl
  picked-same w (Some t) = refl

  picks-same : (w : Walking) (arms : Trees) (a : Tried (Celled Memory) ℕ) → picks acting left family arms a (on_bottom w) ≡ on_bottom (picks acting left family arms a w)
  picks-same w arms (Got t k m) = picked-same (record w { memory = m; run = record { trace = w.run.trace ++ t; standing = w.run.standing } }) (tree_at arms k)
  picks-same w arms (Ends t kind m) = refl

  returns-same : (w : Walking) (callers : List Level) → Same (returns acting left family callers w) (returns acting left family (callers ++ bottom ∷ []) (on_bottom w))
  returns-same w [] = inr refl
  returns-same w (top ∷ others) = inl refl

  end-same : (w : Walking) (end : End) → Same (walk_end acting left family end w) (walk_end acting left family end (on_bottom w))
  end-same w (Pick picker arms) = inl (picks-same w arms ((celled acting w.level.range).pick picker w.memory))
  end-same w (Jump to) = inl refl
  end-same w Return = returns-same w w.callers
  end-same w Stop = inl refl
  end-same w Dead = inl refl

  items-same : (w : Walking) (items : List Item) → Same (walk_items acting left family items w) (walk_items acting left family items (on_bottom w))
  items-same w [] = end-same w w.level.end
  items-same w (x ∷ rest) = inl (walk-goes-same w (item_way (celled acting w.level.range) x rest w.memory))

  step-same : (standing : Standing Left) (w : Walking) → Same (walk_by acting left family standing w) (walk_by acting left family standing (on_bottom w))
  step-same Going w = items-same w w.level.items
  step-same (Over ending) w = inl refl

  stays-returned : (standing : Standing Left) (w : Walking) → w.run.standing ≡ standing → standing ≡ Over (Returned (left w.memory.own)) → walk_by acting left family standing w ≡ w
  stays-returned Going w is e = cc
  stays-returned (Over ending) w is e = refl

  same-step : (v w : Walking) → Same v w → Same (stepped v) (stepped w)
  same-step v w (inl e) = subst (λ x. Same (stepped v) (stepped x)) (sym e) (step-same v.run.standing v)
  same-step v w (inr e) = inr (subst (λ x. x.run.standing ≡ Over (Returned (left x.memory.own))) (sym (stays-returned v.run.standing v refl e)) e)

  pub same-steps : (n : ℕ) (v w : Walking) → Same v w → Same (iterate stepped n v) (iterate stepped n w)
  same-steps zero v w h = h
  same-steps (suc n) v w h = same-steps n (stepped v) (stepped w) (same-step v w h)

  pub lost-same : (v w : Walking) → Same v w → v.run.standing ≡ Over Lost → w.run.standing ≡ Over Lost
  lost-same v w (inl e) h = ap (λ x. x.run.standing) e ∙ h
  lost-same v w (inr e) h = absurd (let k : Over Lost ≡ Over (Returned (left v.memory.own)) = sym h ∙ e in cc)

-- what is over without being lost in the source isn't lost in the walk to which it is tied
tied-not-lost : {World Memory Left : Type 0} (doing : Doing Memory) (left : Memory → Left) (program : Program) (b : World → ℕ → Run Left) (begun : World → SourceState Memory Left) →
    ((world : World) → (begun world).run.standing ≢ Over Lost) → Tied {World = World} (meaning {World = World} {Event = Event} {End = Ending Left} (record { step = source_step doing left program; run = λ s. s.run; begun = begun })) b →
    (world : World) (n : ℕ) → (b world n).standing ≢ Over Lost
tied-not-lost {World} doing left program b begun fresh tied world n lost =
    let k = tied.back * (n + 1) in
    let over : IsOver (b world n) = λ e. absurd (let f : Over Lost ≡ Going = sym lost ∙ e in cc) in
    let c = (tied.covers world n k (omega arith)).ends over in
    source-not-lost doing left program k (begun world) (fresh world) (ap (λ r. r.standing) c ∙ lost)

-- Where the range alone is to be performed, main's level performs it and nothing else.

past-end : (ps : List Paragraph) (found : Paragraph) → slice_get ps (suc (length ps)) ≡ Some found → ⊥
past-end [] found is = absurd (let k : ⊥ = cc in k)
past-end (p ∷ ps) found is = past-end ps found is

module _ {Memory : Type 0} (doing : Doing Memory) (program : Program) (e x : ℕ) where
  abbrev alone_rest : List Item
  alone_rest = Do (Perform e x) ∷ []

  -- this is before the range or behind it
  abbrev Beside : Range → ℕ → List Item → Type 0
  Beside Main q rest = (q ≡ length program.paragraphs) × ((rest ≡ alone_rest) ⊎ (rest ≡ []))
  Beside (Part f y) q rest = Unit {0}

  -- what stands there enters the range
  abbrev Enters : List Item → Way Memory → Type 0
  Enters rest (Into f y items) = (f ≡ e) × (y ≡ x) × (items ≡ rest)
  Enters rest (On t m items) = ⊥
  Enters rest (Halts t how m) = ⊥
  Enters rest (To t m to) = ⊥
  Enters rest (ToEnd t m to) = ⊥

  head-enters : (r : Range) (q : ℕ) (item : Item) (rest : List Item) (m : Memory) → r ≡ Main → Beside r q (item ∷ rest) → Enters [] (item_way doing item rest m)
  head-enters Main q item rest m is h = elim h.1 [
    | inl one ↦
        let first : item ≡ Do (Perform e x) = cc in
        let none : rest ≡ [] = cc in
        subst (λ i. Enters [] (item_way doing i rest m)) (sym first) (refl, refl, none)
    | inr one ↦ absurd (let k : ⊥ = cc in k)
  ]
  head-enters (Part f y) q item rest m is h = absurd (let k : ⊥ = cc in k)

  stays-beside : (r : Range) (q : ℕ) (rest : List Item) → Comes doing program (length program.paragraphs) alone_rest r q rest → Beside r q rest
  stays-beside r q rest begins = (refl, inl refl)
  stays-beside r q rest (enters f y) = tt
  stays-beside r q rest (goes_on Main n item others m t after items c is) = absurd (subst (Enters []) is (head-enters Main n item others m refl (stays-beside Main n (item ∷ others) c)))
  stays-beside r q rest (goes_on (Part f y) n item others m t after items c is) = tt
  stays-beside r q rest (come.goes_to Main n item others m t after to c is) = absurd (subst (Enters []) is (head-enters Main n item others m refl (stays-beside Main n (item ∷ others) c)))
  stays-beside r q rest (come.goes_to (Part f y) n item others m t after to c is) = tt
  stays-beside r q rest (come.goes_to_end Main n item others m t after to c is) = absurd (subst (Enters []) is (head-enters Main n item others m refl (stays-beside Main n (item ∷ others) c)))
  stays-beside r q rest (come.goes_to_end (Part f y) n item others m t after to c is) = tt
  stays-beside r q rest (come.over Main n item others m f y items c is d) =
      let before = stays-beside Main n (item ∷ others) c in
      (before.0, inr (subst (Enters []) is (head-enters Main n item others m refl before)).2)
  stays-beside r q rest (come.over (Part g z) n item others m f y items c is d) = tt
  stays-beside r q rest (come.falls Main n next is out c) =
      let before = stays-beside Main n [] c in
      absurd (past-end program.paragraphs next (subst (λ k. slice_get program.paragraphs (suc k) ≡ Some next) before.0 is))
  stays-beside r q rest (come.falls (Part f y) n next is out c) = tt

-- so where the range is named, all that is performed there is
names-behind : {Memory : Type 0} (acting : Acting Memory) (told : FlowFacts) (program : Program) (place_of : ℕ → ℕ) (family : Family) (Named : ℕ → ℕ → Type 0) → CallsNamed acting told program place_of family 0 (rest_of program 0) Named →
    (e x : ℕ) → Named e x → CallsNamed acting told program place_of family (length program.paragraphs) (Do (Perform e x) ∷ []) Named
names-behind acting told program place_of family Named names e x named Main q item rest m f y items here c is =
    let h = subst (Enters (alone acting) program e x []) is (head-enters (alone acting) program e x Main q item rest m refl (stays-beside (alone acting) program e x Main q (item ∷ rest) c)) in
    subst (λ g. Named g y) (sym h.0) (subst (λ z. Named e z) (sym h.1) named)
names-behind acting told program place_of family Named names e x named (Part g z) q item rest m f y items here c is =
    names (Part g z) q item rest m f y items here (comes-anywhere (alone acting) program (length program.paragraphs) 0 (Do (Perform e x) ∷ []) (rest_of program 0) (Part g z) q (item ∷ rest) tt c) is

pub lowered-range-sound : {Memory Left : Type 0} (acting : Acting Memory) (left : Memory → Left) (told : FlowFacts) (program : Program) (place_of : ℕ → ℕ) (family : Family) (Named : ℕ → ℕ → Type 0) →
    CallsNamed acting told program place_of family 0 (rest_of program 0) Named → NamedReturn acting told program place_of family 0 (rest_of program 0) Named →
    IsTold told acting → IsSource told program → IsLowered told program place_of family →
    (entry exit : ℕ) → entry < length program.paragraphs → exit < length program.paragraphs → Named entry exit → RangeHasNoFlowFault acting left program entry exit →
    (c : Celled Memory) (n : ℕ) → (meaning (walk_machine acting left family (Part entry exit)) c n).standing ≢ Over Lost
lowered-range-sound {Memory} {Left} acting left told program place_of family Named names returning is_told source lowered e x lt_e lt_x named fine c n lost =
    let first = length program.paragraphs in
    let rest = Do (Perform e x) ∷ [] in
    let end0 = paragraph_end_target place_of program Main first in
    let begun_w : Celled Memory → Walk Memory Left = λ c. walk_at Main rest end0 [] c.own c.cells [] in
    let bottom : Level = record { range = Main; items = []; end = end0 } in
    let tied = begun-tied acting left told program place_of family first rest Named is_told source lowered ((lt_e, lt_x), omega arith, tt)
    (names-behind acting told program place_of family Named names e x named)
    (λ f y k at_end. returning f y k (comes-anywhere (alone acting) program first 0 rest (rest_of program 0) (Part f y) y [] tt at_end))
    (λ c. before_range program e x c.own) begun_w 2 (λ c. omega arith)
    (λ c. inl (record { to = both (joint Main first rest rests.Over rest end0) [] c.own c.cells []; sourced = refl; walked = refl; ok = ((refl, refl, λ k. (refl, refl)), (tt, tt, tt), tt); comes = begins }))
    (λ c n fault. fine c.own n fault) in
    let same = same-steps acting left family bottom n (walk_begun acting left family (Part e x) c) (walk_step acting left family (begun_w c)) (inl refl) in
    let below = lost-same acting left family bottom (iterate (walk_step acting left family) n (walk_begun acting left family (Part e x) c)) (iterate (walk_step acting left family) (suc n) (begun_w c)) same lost in
    tied-not-lost (alone acting) left program (λ c n. (iterate (walk_step acting left family) n (begun_w c)).run) (λ c. before_range program e x c.own) (λ c e. cc) tied c (suc n) below

pub lowered-main-sound : {Memory Left : Type 0} (acting : Acting Memory) (left : Memory → Left) (told : FlowFacts) (program : Program) (place_of : ℕ → ℕ) (family : Family) (Named : ℕ → ℕ → Type 0) →
    CallsNamed acting told program place_of family 0 (rest_of program 0) Named → NamedReturn acting told program place_of family 0 (rest_of program 0) Named →
    IsTold told acting → IsSource told program → 0 < length program.paragraphs → IsLowered told program place_of family → NoFlowFault acting left program →
    (c : Celled Memory) (n : ℕ) → (meaning (walk_machine acting left family Main) c n).standing ≢ Over Lost
lowered-main-sound {Memory} {Left} acting left told program place_of family Named names returning is_told source some lowered fine c n lost =
    let rest = rest_of program 0 in
    let tied = begun-tied acting left told program place_of family 0 rest Named is_told source lowered (rest-fits told program source 0) names returning
    (λ c. source_begun (alone acting) left program c.own) (λ c. walk_begun acting left family Main c) (program_bulk program)
    (λ c. let e = rest-light told program source 0 in omega (arith, e))
    (λ c. inl (subst (λ l. Met acting left told program place_of family 0 rest Named (source_begun (alone acting) left program c.own) (walk_at Main (before (body_of (family.node Main l)) []) (end_of (family.node Main l)) [] c.own c.cells [])) (sym (lowered.entry Main))
    (arrives-whole acting left told program place_of family 0 rest Named is_told source lowered (rest-fits told program source 0) names Main 0 [] c.own c.cells [] [] some refl tt begins)))
    (λ c n fault. fine c.own n fault) in
    tied-not-lost (alone acting) left program (λ c n. (iterate (walk_step acting left family) n (walk_begun acting left family Main c)).run) (λ c. source_begun (alone acting) left program c.own) (λ c e. cc) tied c n lost
