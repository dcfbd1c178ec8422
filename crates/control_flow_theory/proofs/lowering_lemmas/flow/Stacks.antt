-- A flow path that meets a fault with one range alone pending meets one with more pending below.
use Rattle.std.proofs.Common.{◌≡◌, ℕ, zero, suc, true, false, if◌then◌else◌, nat_eq, List, [], ◌∷◌, ◌++◌, refl, sym, ◌∙◌, subst, Option, Some, None}
use Rattle.std.specs.Prelude.{slice_get, length}
use Rattle.control_flow_theory.specs.runs.Run.{Going, Over}
use Rattle.control_flow_theory.specs.runs.Machine.{iterate}
use Rattle.control_flow_theory.specs.semantics.Outcome.{Trace, How, Normally, Stopped, Faulted, Reentry, Overlap, FlowFault}
use Rattle.control_flow_theory.specs.language.Language.{Paragraph, Program}
use Rattle.control_flow_theory.specs.language.Items.{Item}
use Rattle.control_flow_theory.specs.semantics.Items.{Way, On, Halts, Into, To, ToEnd, item_way}
use Rattle.control_flow_theory.specs.language.Items.{Pending, ends_at}
use Rattle.control_flow_theory.specs.semantics.Source.{rest_of, comes_to, goes, falls, source_step}
use Rattle.control_flow_theory.specs.lowering.FlowFacts.{FlowFacts}
use Rattle.control_flow_theory.specs.lowering.flow.Paths.{Flow, free, nothing_left}
use Rattle.control_flow_theory.proofs.lowering_lemmas.rests.Joints.{source_at}
use Rattle.control_flow_theory.proofs.lowering_lemmas.flow.Faults.{over-stays}

past-last : (ps : List Paragraph) → slice_get ps (suc (length ps)) ≡ None
past-last [] = refl
past-last (x ∷ xs) = past-last xs

module _ (told : FlowFacts) (program : Program) (x q0 : ℕ) (r0 : List Item) (below : List Pending) where
  abbrev stepped : Flow → Flow
  stepped f = source_step (free told) nothing_left program f

  abbrev FaultsAt : ℕ → Flow → FlowFault → Type 0
  FaultsAt n f fault = (iterate stepped n f).run.standing ≡ Over (Faulted fault)

  abbrev AnyFault : Flow → Type 0
  AnyFault f = (n : ℕ) × (fault : FlowFault) × FaultsAt n f fault

  later : (f : Flow) → AnyFault (stepped f) → AnyFault f
  later f h = (suc h.0, h.1, h.2)

  -- the range alone, which goes on past the last paragraph, and the range with more below
  abbrev pub small : List Pending
  small = record { end = x; paragraph = length program.paragraphs; rest = [] } ∷ []

  abbrev pub big : List Pending
  big = record { end = x; paragraph = q0; rest = r0 } ∷ below

  ends-more : (y : ℕ) (tops : List Pending) → ends_at y (tops ++ small) ≡ true → ends_at y (tops ++ big) ≡ true
  ends-more y [] h = elim (nat_eq x y) as (λ b. (if b then true else false) ≡ true → (if b then true else ends_at y below) ≡ true) [ true ↦ λ h. refl | false ↦ λ h. cc ] h
  ends-more y (t ∷ ts) h = elim (nat_eq t.end y) as (λ b. (if b then true else ends_at y (ts ++ small)) ≡ true → (if b then true else ends_at y (ts ++ big)) ≡ true) [ true ↦ λ h. refl | false ↦ λ h. ends-more y ts h ] h

  not-stopped : (n : ℕ) (f : Flow) (how : How) (l : Unit {0}) (fault : FlowFault) → f.run.standing ≡ Over (Stopped how l) → FaultsAt n f fault → ⊥
  not-stopped n f how l fault e h = let k : Over (Stopped how l) ≡ Over (Faulted fault) = sym (over-stays (free told) nothing_left program (Stopped how l) n f e) ∙ h in cc

  abbrev at : ℕ → List Item → List Pending → List ℕ → Trace → Flow
  at q rest pending ways tr = source_at q rest pending ways tr

  abbrev Bigger : ℕ → Type 0
  Bigger n = (q : ℕ) (rest : List Item) (tops : List Pending) (ways : List ℕ) (tr : Trace) (fault : FlowFault) → FaultsAt n (at q rest (tops ++ small) ways tr) fault → AnyFault (at q rest (tops ++ big) ways tr)

  goes-bigger : (n : ℕ) → Bigger n → (q : ℕ) (item : Item) (rest : List Item) (tops : List Pending) (ways : List ℕ) (tr : Trace) (fault : FlowFault) (way : Way (List ℕ)) →
      FaultsAt n (goes (free told) nothing_left program way (at q (item ∷ rest) (tops ++ small) ways tr)) fault → AnyFault (goes (free told) nothing_left program way (at q (item ∷ rest) (tops ++ big) ways tr))
  goes-bigger n ih q item rest tops ways tr fault (On t now items) f = ih q items tops now (tr ++ t) fault f
  goes-bigger n ih q item rest tops ways tr fault (Halts t how now) f =
      absurd (not-stopped n (goes (free told) nothing_left program (Halts t how now) (at q (item ∷ rest) (tops ++ small) ways tr)) how tt fault refl f)
  goes-bigger n ih q item rest tops ways tr fault (Into e y items) f =
      let start_s = at q (item ∷ rest) (tops ++ small) ways tr in
      let start_b = at q (item ∷ rest) (tops ++ big) ways tr in
      let tops' : List Pending = record { end = y; paragraph = q; rest = items } ∷ tops in
      let fault_s = comes_to (free told) nothing_left program (Faulted (Reentry y)) start_s in
      let fault_b = comes_to (free told) nothing_left program (Faulted (Reentry y)) start_b in
      let pushed_s = at e (rest_of program e) (tops' ++ small) ways tr in
      let pushed_b = at e (rest_of program e) (tops' ++ big) ways tr in
      elim (ends_at y (tops ++ big)) as (λ b. ends_at y (tops ++ big) ≡ b → AnyFault (if b then fault_b else pushed_b)) [
        | true ↦ λ is. (0, Reentry y, refl)
        | false ↦ λ is.
            (elim (ends_at y (tops ++ small)) as (λ b. ends_at y (tops ++ small) ≡ b → FaultsAt n (if b then fault_s else pushed_s) fault → AnyFault pushed_b) [
              | true ↦ λ has g. absurd (let k : true ≡ false = sym (ends-more y tops has) ∙ is in cc)
              | false ↦ λ has g. ih e (rest_of program e) tops' ways tr fault g
            ]) refl f
      ] refl
  goes-bigger n ih q item rest tops ways tr fault (To t now to) f = ih to (rest_of program to) tops now (tr ++ t) fault f
  goes-bigger n ih q item rest tops ways tr fault (ToEnd t now to) f = ih to [] tops now (tr ++ t) fault f

  falls-bigger : (n : ℕ) → Bigger n → (q : ℕ) (tops : List Pending) (ways : List ℕ) (tr : Trace) (fault : FlowFault) (found : Option Paragraph) →
      FaultsAt n (falls (free told) nothing_left program found (at q [] (tops ++ small) ways tr)) fault → AnyFault (falls (free told) nothing_left program found (at q [] (tops ++ big) ways tr))
  falls-bigger n ih q tops ways tr fault None f = absurd (not-stopped n (falls (free told) nothing_left program None (at q [] (tops ++ small) ways tr)) Normally tt fault refl f)
  falls-bigger n ih q tops ways tr fault (Some next) f = ih (suc q) (rest_of program (suc q)) tops ways tr fault f

  -- past the last paragraph nothing is pending: the run stops
  popped-stops : (n : ℕ) (ways : List ℕ) (tr : Trace) (fault : FlowFault) → FaultsAt n (at (length program.paragraphs) [] [] ways tr) fault → ⊥
  popped-stops zero ways tr fault f = let k : Going ≡ Over (Faulted fault) = f in cc
  popped-stops (suc n) ways tr fault f =
      let start = at (length program.paragraphs) [] [] ways tr in
      not-stopped n (falls (free told) nothing_left program None start) Normally tt fault refl
      (subst (λ o. FaultsAt n (falls (free told) nothing_left program o start) fault) (past-last program.paragraphs) f)

  -- at a paragraph's end, behind the check of the top
  deeper-bigger : (n : ℕ) → Bigger n → (q : ℕ) (tops deep_s deep_b : List Pending) (ways : List ℕ) (tr : Trace) (fault : FlowFault) → (ends_at q deep_s ≡ true → ends_at q deep_b ≡ true) →
      (let found = slice_get program.paragraphs (suc q) in
      let start_s = at q [] (tops ++ small) ways tr in
      let start_b = at q [] (tops ++ big) ways tr in
      FaultsAt n (if ends_at q deep_s then comes_to (free told) nothing_left program (Faulted (Overlap q)) start_s else falls (free told) nothing_left program found start_s) fault →
      AnyFault (if ends_at q deep_b then comes_to (free told) nothing_left program (Faulted (Overlap q)) start_b else falls (free told) nothing_left program found start_b))
  deeper-bigger n ih q tops deep_s deep_b ways tr fault more f =
      let found = slice_get program.paragraphs (suc q) in
      let start_s = at q [] (tops ++ small) ways tr in
      let start_b = at q [] (tops ++ big) ways tr in
      let fault_s = comes_to (free told) nothing_left program (Faulted (Overlap q)) start_s in
      let fault_b = comes_to (free told) nothing_left program (Faulted (Overlap q)) start_b in
      elim (ends_at q deep_b) as (λ b. ends_at q deep_b ≡ b → AnyFault (if b then fault_b else falls (free told) nothing_left program found start_b)) [
        | true ↦ λ is. (0, Overlap q, refl)
        | false ↦ λ is.
            (elim (ends_at q deep_s) as (λ b. ends_at q deep_s ≡ b → FaultsAt n (if b then fault_s else falls (free told) nothing_left program found start_s) fault → AnyFault (falls (free told) nothing_left program found start_b)) [
              | true ↦ λ has g. absurd (let k : true ≡ false = sym (more has) ∙ is in cc)
              | false ↦ λ has g. falls-bigger n ih q tops ways tr fault found g
            ]) refl f
      ] refl

  end-bigger : (n : ℕ) → Bigger n → (q : ℕ) (tops : List Pending) (ways : List ℕ) (tr : Trace) (fault : FlowFault) → FaultsAt (suc n) (at q [] (tops ++ small) ways tr) fault → AnyFault (stepped (at q [] (tops ++ big) ways tr))
  end-bigger n ih q [] ways tr fault f =
      let found = slice_get program.paragraphs (suc q) in
      let start_s = at q [] small ways tr in
      let start_b = at q [] big ways tr in
      let popped_s = at (length program.paragraphs) [] [] ways tr in
      let popped_b = at q0 r0 below ways tr in
      let deep_s = falls (free told) nothing_left program found start_s in
      let deep_b = if ends_at q below then comes_to (free told) nothing_left program (Faulted (Overlap q)) start_b else falls (free told) nothing_left program found start_b in
      (elim (nat_eq x q) as (λ b. FaultsAt n (if b then popped_s else deep_s) fault → AnyFault (if b then popped_b else deep_b)) [
        | true ↦ λ g. absurd (popped-stops n ways tr fault g)
        | false ↦ λ g. deeper-bigger n ih q [] [] below ways tr fault (λ h. cc) g
      ]) f
  end-bigger n ih q (t ∷ ts) ways tr fault f =
      let found = slice_get program.paragraphs (suc q) in
      let start_s = at q [] (t ∷ (ts ++ small)) ways tr in
      let start_b = at q [] (t ∷ (ts ++ big)) ways tr in
      let deep_s = if ends_at q (ts ++ small) then comes_to (free told) nothing_left program (Faulted (Overlap q)) start_s else falls (free told) nothing_left program found start_s in
      let deep_b = if ends_at q (ts ++ big) then comes_to (free told) nothing_left program (Faulted (Overlap q)) start_b else falls (free told) nothing_left program found start_b in
      (elim (nat_eq t.end q) as (λ b. FaultsAt n (if b then at t.paragraph t.rest (ts ++ small) ways tr else deep_s) fault → AnyFault (if b then at t.paragraph t.rest (ts ++ big) ways tr else deep_b)) [
        | true ↦ λ g. ih t.paragraph t.rest ts ways tr fault g
        | false ↦ λ g. deeper-bigger n ih q (t ∷ ts) (ts ++ small) (ts ++ big) ways tr fault (ends-more q ts) g
      ]) f

  pub bigger : (n : ℕ) → Bigger n
  bigger zero q rest tops ways tr fault f = let k : Going ≡ Over (Faulted fault) = f in cc
  bigger (suc n) q [] tops ways tr fault f = later (at q [] (tops ++ big) ways tr) (end-bigger n (bigger n) q tops ways tr fault f)
  bigger (suc n) q (item ∷ rest) tops ways tr fault f =
      later (at q (item ∷ rest) (tops ++ big) ways tr) (goes-bigger n (bigger n) q item rest tops ways tr fault (item_way (free told) item rest ways) f)
