-- A source program and the walk of its lowered family are tied.
use Rattle.std.proofs.Common.{◌≡◌, ℕ, zero, suc, ◌+◌, ◌*◌, ◌<◌, ◌≤◌, true, false, if◌then◌else◌, nat_eq, List, [], ◌∷◌, refl, ap, sym, ◌∙◌, subst, arith, inl, inr, Option, Some, None}
use Rattle.std.specs.Prelude.{slice_get, length}
use Rattle.control_flow_theory.specs.runs.Run.{Going}
use Rattle.control_flow_theory.specs.runs.Tied.{Tied}
use Rattle.control_flow_theory.specs.runs.Machine.{Machine, iterate, meaning, Simulates}
use Rattle.control_flow_theory.proofs.runs_lemmas.Machines.{simulated-tied}
use Rattle.control_flow_theory.specs.semantics.Outcome.{Event, Trace, Ending, Faulted, Reentry, Overlap}
use Rattle.control_flow_theory.specs.language.Language.{Paragraph, Program, Range, Main}
use Rattle.control_flow_theory.specs.semantics.Doing.{Acting, alone}
use Rattle.control_flow_theory.specs.language.Items.{Item, Do, SentenceEnd, Turn, before}
use Rattle.control_flow_theory.specs.semantics.Items.{Way, On, Halts, Into, To, ToEnd, item_way}
use Rattle.control_flow_theory.specs.language.Items.{Pending, ends_at}
use Rattle.control_flow_theory.specs.semantics.Source.{SourceState, rest_of, comes_to, goes_to, goes, falls, end_step, source_step, source_begun, source_machine}
use Rattle.control_flow_theory.specs.semantics.Graph.{Family, body_of, end_of}
use Rattle.control_flow_theory.specs.semantics.Walk.{Walk, walk_step, walk_begun, main_machine}
use Rattle.control_flow_theory.specs.lowering.FlowFacts.{FlowFacts, IsTold, IsSource}
use Rattle.control_flow_theory.specs.lowering.flow.Comes.{Comes, begins, IsLowered}
use Rattle.control_flow_theory.specs.lowering.Laws.{NoFlowFault}
use Rattle.control_flow_theory.proofs.lowering_lemmas.rests.Fits.{item_bulk, program_bulk, weight_of, weight, FitsIn, Adds, item-adds, comes-fits, rest-light, rest-fits}
use Rattle.control_flow_theory.proofs.lowering_lemmas.rests.Joints.{Both, rest_at, pending_of, source_of, walk_at, walk_of, waiting_heft, heft, IsFine, Met, Together, Ok, CallsNamed, NamedReturn}
use Rattle.control_flow_theory.proofs.lowering_lemmas.steps.Moves.{arrives-whole}
use Rattle.control_flow_theory.proofs.lowering_lemmas.steps.Lowers.{moves-going}
use Rattle.control_flow_theory.proofs.semantics_lemmas.Grows.{source-grows, walk-grows}

module _ {Memory Left : Type 0} (acting : Acting Memory) (left : Memory → Left) (told : FlowFacts) (program : Program) (source : IsSource told program) where
  abbrev State : Type 0
  State = SourceState Memory Left

  abbrev most : ℕ
  most = program_bulk program

  abbrev stepped : State → State
  stepped s = source_step (alone acting) left program s

  weight-one : (x : Item) → weight_of x ≤ 2
  weight-one (Do s) = omega arith
  weight-one SentenceEnd = omega arith
  weight-one (Turn turning body) = omega arith

  goes-adds : (s : State) (x : Item) (xs : List Item) (way : Way Memory) → item_bulk x ≤ most → weight xs ≤ weight s.rest → Adds told (length program.paragraphs) most (item_bulk x + weight xs) way →
      heft (goes (alone acting) left program way s) ≤ weight s.rest + most + waiting_heft s.pending + most
  goes-adds s x xs (On t m items) le li h = let e = h.0 in omega (arith, le, li, e)
  goes-adds s x xs (Halts t how m) le li h = omega arith
  goes-adds s x xs (Into entry exit items) le li h =
      let e = h.0 in
      let faulted = comes_to (alone acting) left program (Faulted (Reentry exit)) s in
      let pushed = goes_to (alone acting) left program entry (record s { pending = record { end = exit; paragraph = s.paragraph; rest = items } ∷ s.pending }) in
      elim (ends_at exit s.pending) as (λ b. heft (if b then faulted else pushed) ≤ weight s.rest + most + waiting_heft s.pending + most) [
        | true ↦ omega arith
        | false ↦ omega (arith, le, li, e, rest-light told program source entry)
      ]
  goes-adds s x xs (To t m to) le li h = omega (arith, rest-light told program source to)
  goes-adds s x xs (ToEnd t m to) le li h = omega arith

  falls-adds : (s : State) (found : Option Paragraph) → heft (falls (alone acting) left program found s) ≤ heft s + most
  falls-adds s None = omega arith
  falls-adds s (Some next) = omega (arith, rest-light told program source (suc s.paragraph))

  end-adds : (s : State) (pending : List Pending) → s.pending ≡ pending → heft (end_step (alone acting) left program pending s) ≤ heft s + most
  end-adds s [] is = falls-adds s (slice_get program.paragraphs (suc s.paragraph))
  end-adds s (top ∷ others) is =
      let faulted = comes_to (alone acting) left program (Faulted (Overlap s.paragraph)) s in
      let fallen = falls (alone acting) left program (slice_get program.paragraphs (suc s.paragraph)) s in
      let e : waiting_heft s.pending ≡ weight top.rest + waiting_heft others = ap waiting_heft is in
      elim (nat_eq top.end s.paragraph) as (λ b. heft (if b then record s { paragraph = top.paragraph; rest = top.rest; pending = others } else (if ends_at s.paragraph others then faulted else fallen)) ≤ heft s + most) [
        | true ↦ omega (arith, e)
        | false ↦ elim (ends_at s.paragraph others) as (λ b. heft (if b then faulted else fallen) ≤ heft s + most) [
          | true ↦ omega arith
          | false ↦ falls-adds s (slice_get program.paragraphs (suc s.paragraph))
        ]
      ]

  -- a step adds no more than three times what the program holds
  pub step-adds : (q : ℕ) (rest : List Item) (pending : List Pending) (m : Memory) (tr : Trace) → FitsIn told program source rest →
      (let s : State = record { paragraph = q; rest = rest; pending = pending; memory = m; run = record { trace = tr; standing = Going } } in heft (stepped s) ≤ heft s + (most + most + most))
  step-adds q [] pending m tr fits =
      let s : State = record { paragraph = q; rest = []; pending = pending; memory = m; run = record { trace = tr; standing = Going } } in
      let e = end-adds s pending refl in
      omega (arith, e)
  step-adds q (x ∷ xs) pending m tr fits =
      let s : State = record { paragraph = q; rest = x ∷ xs; pending = pending; memory = m; run = record { trace = tr; standing = Going } } in
      let e = goes-adds s x xs (item_way (alone acting) x xs m) fits.1 (omega arith) (item-adds told (length program.paragraphs) most (alone acting) x xs m fits.0 fits.1 fits.2) in
      omega (arith, e)

module _ {Memory Left : Type 0} (acting : Acting Memory) (left : Memory → Left) (told : FlowFacts) (program : Program) (place_of : ℕ → ℕ) (family : Family) (first : ℕ) (first_rest : List Item) (Named : ℕ → ℕ → Type 0)
    (is_told : IsTold told acting) (source : IsSource told program) (lowered : IsLowered told program place_of family) (first_fits : FitsIn told program source first_rest) (names : CallsNamed acting told program place_of family first first_rest Named)
    (returning : NamedReturn acting told program place_of family first first_rest Named) where
  abbrev Walking : Type 0
  Walking = Walk Memory Left

  abbrev From_ : Type 0
  From_ = SourceState Memory Left

  abbrev walked : Walking → Walking
  walked w = walk_step acting left family w

  abbrev sourced : From_ → From_
  sourced s = source_step (alone acting) left program s

  abbrev AtOne : From_ → Walking → Type 0
  AtOne s w = Together acting left told program place_of family first first_rest Named s w

  -- no state that comes after is a fault
  abbrev pub NeverFaults : From_ → Type 0
  NeverFaults s = (n : ℕ) → IsFine (iterate sourced n s)

  pub record Related (s : From_) (w : Walking) : Type 0 where
    pub together : AtOne s w
    pub fine : NeverFaults s

  abbrev growth : ℕ
  growth = program_bulk program + program_bulk program + program_bulk program

  abbrev Next : From_ → Walking → Type 0
  Next s w = (j : ℕ) × Related (sourced s) (iterate walked j w) × (j ≤ 6) × (heft (sourced s) + 1 ≤ heft s + (growth + 1) * j)

  lighter : (after before bulk j : ℕ) → after ≤ before + bulk → (j ≡ 0 → after + 1 ≤ before) → after + 1 ≤ before + (bulk + 1) * j
  lighter after before bulk zero h light = omega (arith, light refl)
  lighter after before bulk (suc j) h light = omega (arith, h)

  next-both : (b : Both Memory) → Ok acting told program place_of family first first_rest Named b → Comes (alone acting) program first first_rest b.level.range b.level.paragraph (rest_at b.level) → NeverFaults (source_of b) → Next (source_of b) (walk_of b)
  next-both b ok came fine =
      let m = moves-going acting left told program place_of family first first_rest Named is_told source lowered first_fits names returning b ok came (fine 1) in
      let a = step-adds acting left told program source b.level.paragraph (rest_at b.level) (pending_of b.level.range b.waiting) b.memory b.trace
      (comes-fits told program source (alone acting) first first_rest first_fits b.level.range b.level.paragraph (rest_at b.level) came) in
      (m.steps, record { together = m.together; fine = λ n. fine (suc n) }, m.few, lighter (heft (sourced (source_of b))) (heft {Memory = Memory} {Left = Left} (source_of b)) growth m.steps a m.light)

  next : (s : From_) (w : Walking) → Related s w → s.run.standing ≡ Going → Next s w
  next s w r going = elim r.together [
    | inl m ↦
        subst (λ x. Next x w) (sym m.sourced)
        (subst (Next (source_of m.to)) (sym m.walked)
        (next-both m.to m.ok m.comes (subst NeverFaults m.sourced r.fine)))
    | inr e ↦ absurd (e.1 going)
  ]

  together-agree : (s : From_) (w : Walking) → AtOne s w → s.run ≡ w.run
  together-agree s w (inl m) = ap (λ x. x.run) m.sourced ∙ sym (ap (λ x. x.run) m.walked)
  together-agree s w (inr e) = e.0

  -- from any begin where both stand at one point
  pub begun-simulates : {World : Type 0} (begun_s : World → From_) (begun_w : World → Walking) (bound : ℕ) → ((world : World) → heft (begun_s world) ≤ bound) → ((world : World) → AtOne (begun_s world) (begun_w world)) → ((world : World) → NeverFaults (begun_s world)) →
      Simulates {World = World} {Event = Event} {End = Ending Left} (record { step = sourced; run = λ s. s.run; begun = begun_s }) (record { step = walked; run = λ w. w.run; begun = begun_w }) Related
  begun-simulates begun_s begun_w bound light together fine = record {
    weight = heft;
    first = bound;
    most = 6;
    growth = growth;
    light = light;
    starts = λ world. record { together = together world; fine = fine world };
    agree = λ s w r. together-agree s w r.together;
    moves = next;
  }

  pub begun-tied : {World : Type 0} (begun_s : World → From_) (begun_w : World → Walking) (bound : ℕ) → ((world : World) → heft (begun_s world) ≤ bound) → ((world : World) → AtOne (begun_s world) (begun_w world)) → ((world : World) → NeverFaults (begun_s world)) →
      Tied (meaning {World = World} {Event = Event} {End = Ending Left} (record { step = sourced; run = λ s. s.run; begun = begun_s })) (meaning {World = World} {Event = Event} {End = Ending Left} (record { step = walked; run = λ w. w.run; begun = begun_w }))
  begun-tied begun_s begun_w bound light together fine =
      let a : Machine _ Event (Ending Left) From_ = record { step = sourced; run = λ s. s.run; begun = begun_s } in
      let b : Machine _ Event (Ending Left) Walking = record { step = walked; run = λ w. w.run; begun = begun_w } in
      simulated-tied a b Related (source-grows (alone acting) left program begun_s) (begun-simulates begun_s begun_w bound light together fine) (walk-grows acting left family begun_w)

-- a source program and the walk of its lowered family
pub source-walk-tied : {Memory Left : Type 0} (acting : Acting Memory) (left : Memory → Left) (told : FlowFacts) (program : Program) (place_of : ℕ → ℕ) (family : Family) (Named : ℕ → ℕ → Type 0) →
    CallsNamed acting told program place_of family 0 (rest_of program 0) Named → NamedReturn acting told program place_of family 0 (rest_of program 0) Named →
    IsTold told acting → IsSource told program → 0 < length program.paragraphs → IsLowered told program place_of family → NoFlowFault acting left program →
    Tied (meaning (source_machine (alone acting) left program)) (meaning (main_machine acting left family))
source-walk-tied {Memory} {Left} acting left told program place_of family Named names returning is_told source some lowered fine =
    let begin = rest_of program 0 in
    let cells : Range → ℕ → ℕ = λ r k. 0 in
    begun-tied acting left told program place_of family 0 begin Named is_told source lowered (rest-fits told program source 0) names returning
    (source_begun (alone acting) left program) (λ m. walk_begun acting left family Main (record { own = m; cells = cells })) (program_bulk program)
    (λ m. let e = rest-light told program source 0 in omega (arith, e))
    (λ m. inl (subst (λ l. Met acting left told program place_of family 0 begin Named (source_begun (alone acting) left program m) (walk_at Main (before (body_of (family.node Main l)) []) (end_of (family.node Main l)) [] m cells [])) (sym (lowered.entry Main))
    (arrives-whole acting left told program place_of family 0 begin Named is_told source lowered (rest-fits told program source 0) names Main 0 [] m cells [] [] some refl tt begins)))
    (λ m n fault. fine m n fault)
