-- Lowering by what flow paths say.
use Rattle.std.proofs.Common.{◌≡◌, ℕ, zero, suc, ◌+◌, ◌<◌, Bool, true, false, if◌then◌else◌, nat_eq, List, [], ◌∷◌, ◌++◌, refl, ap, sym, ◌∙◌, subst, arith, Option, Some, None}
use Rattle.std.specs.Prelude.{slice_get, length}
use Rattle.control_flow_theory.specs.runs.Run.{Going, Over, Covers}
use Rattle.control_flow_theory.specs.runs.Tied.{Meaning, Tied}
use Rattle.control_flow_theory.specs.runs.Machine.{iterate, meaning}
use Rattle.control_flow_theory.proofs.runs_lemmas.Machines.{iterate-add}
use Rattle.control_flow_theory.specs.semantics.Outcome.{Faulted, Reentry, Overlap, FlowFault, Standing}
use Rattle.control_flow_theory.specs.language.Language.{Paragraph, Program, Perform, Range, Main, Part}
use Rattle.control_flow_theory.specs.semantics.Doing.{Acting, alone}
use Rattle.control_flow_theory.specs.language.Items.{Item, Do}
use Rattle.control_flow_theory.specs.semantics.Items.{Way, On, Halts, Into, To, ToEnd, item_way}
use Rattle.control_flow_theory.specs.language.Items.{Pending, ends_at}
use Rattle.control_flow_theory.specs.semantics.Source.{rest_of, comes_to, goes_to, goes, falls, end_step, rest_step, step_by, source_step, source_machine}
use Rattle.control_flow_theory.specs.semantics.Graph.{Label}
use Rattle.control_flow_theory.specs.semantics.Walk.{main_machine}
use Rattle.control_flow_theory.specs.lowering.FlowFacts.{FlowFacts, IsTold, IsSource}
use Rattle.control_flow_theory.specs.lowering.Lowered.{place_in, lowered}
use Rattle.control_flow_theory.specs.lowering.Reached.{kept, AreReached}
use Rattle.control_flow_theory.specs.lowering.flow.Paths.{Flow, flow, free, nothing_left, HasFaultyRun}
use Rattle.control_flow_theory.specs.lowering.flow.Entered.{IsEntered, NamesWhatReturns, main}
use Rattle.control_flow_theory.specs.lowering.Laws.{NoFlowFault, IsSoundAt, RangeHasNoFlowFault, KeepsApart}
use Rattle.control_flow_theory.specs.lowering.Renamed.{numbered_anew, as_before}
use Rattle.control_flow_theory.proofs.lowering_lemmas.graphs.Renumbered.{same-numbered}
use Rattle.control_flow_theory.proofs.lowering_lemmas.rests.Fits.{item_bulk, program_bulk, weight, FitsIn, Adds, item-adds, rest-fits}
use Rattle.control_flow_theory.proofs.lowering_lemmas.graphs.Families.{lowered-is-lowered}
use Rattle.control_flow_theory.proofs.lowering_lemmas.graphs.Pruned.{same-walks}
use Rattle.control_flow_theory.proofs.lowering_lemmas.flow.Paths.{IsPerformed, entered-performs, comes-freely, calls-entered}
use Rattle.control_flow_theory.proofs.lowering_lemmas.flow.Faults.{PendingFit, frees}
use Rattle.control_flow_theory.proofs.lowering_lemmas.flow.Stacks.{bigger}
use Rattle.control_flow_theory.proofs.lowering_lemmas.flow.FreeFlow.{free-as-checked}
use Rattle.control_flow_theory.proofs.lowering_lemmas.rests.Joints.{CallsNamed, NamedReturn}
use Rattle.control_flow_theory.proofs.lowering_lemmas.steps.Linked.{source-walk-tied}
use Rattle.control_flow_theory.proofs.lowering_lemmas.steps.Sound.{lowered-main-sound, lowered-range-sound}

pub not-faulty-fine : {Memory Left : Type 0} (acting : Acting Memory) (left : Memory → Left) (told : FlowFacts) (program : Program) → IsTold told acting → IsSource told program → (HasFaultyRun told program → ⊥) → NoFlowFault acting left program
not-faulty-fine acting left told program is_told source not_faulty m n fault h =
    let f = frees told program source acting left is_told n 0 (rest_of program 0) [] m [] fault (rest-fits told program source 0) tt h in
    not_faulty (f.0 ++ [], n, fault, f.1 [])

-- What a flow path comes to are parts of the program.

module _ (told : FlowFacts) (program : Program) (source : IsSource told program) (not_faulty : HasFaultyRun told program → ⊥) where
  abbrev FlowFits : Flow → Type 0
  FlowFits f = FitsIn told program source f.rest × PendingFit told program source f.pending

  abbrev stepped : Flow → Flow
  stepped f = source_step (free told) nothing_left program f

  goes-fits : (f : Flow) (way : Way (List ℕ)) (heavy : ℕ) → FlowFits f → Adds told (length program.paragraphs) (program_bulk program) heavy way → FlowFits (goes (free told) nothing_left program way f)
  goes-fits f (On t m items) heavy fit adds = (adds.1, fit.1)
  goes-fits f (Halts t how m) heavy fit adds = fit
  goes-fits f (Into e x items) heavy fit adds =
      elim (ends_at x f.pending) as (λ b. FlowFits (if b then comes_to (free told) nothing_left program (Faulted (Reentry x)) f else goes_to (free told) nothing_left program e (record f { pending = record { end = x; paragraph = f.paragraph; rest = items } ∷ f.pending }))) [
        | true ↦ fit
        | false ↦ (rest-fits told program source e, (adds.1, fit.1))
      ]
  goes-fits f (To t m to) heavy fit adds = (rest-fits told program source to, fit.1)
  goes-fits f (ToEnd t m to) heavy fit adds = (tt, fit.1)

  falls-fits : (f : Flow) (found : Option Paragraph) → FlowFits f → FlowFits (falls (free told) nothing_left program found f)
  falls-fits f None fit = fit
  falls-fits f (Some next) fit = (rest-fits told program source (suc f.paragraph), fit.1)

  end-fits : (f : Flow) (pending : List Pending) → FlowFits f → PendingFit told program source pending → FlowFits (end_step (free told) nothing_left program pending f)
  end-fits f [] fit p = falls-fits f (slice_get program.paragraphs (suc f.paragraph)) fit
  end-fits f (top ∷ others) fit p =
      let faulted = comes_to (free told) nothing_left program (Faulted (Overlap f.paragraph)) f in
      let fallen = falls (free told) nothing_left program (slice_get program.paragraphs (suc f.paragraph)) f in
      elim (nat_eq top.end f.paragraph) as (λ b. FlowFits (if b then record f { paragraph = top.paragraph; rest = top.rest; pending = others } else (if ends_at f.paragraph others then faulted else fallen))) [
        | true ↦ p
        | false ↦ elim (ends_at f.paragraph others) as (λ b. FlowFits (if b then faulted else fallen)) [
          | true ↦ fit
          | false ↦ falls-fits f (slice_get program.paragraphs (suc f.paragraph)) fit
        ]
      ]

  rest-step-fits : (f : Flow) (rest : List Item) → FitsIn told program source rest → FlowFits f → FlowFits (rest_step (free told) nothing_left program rest f)
  rest-step-fits f [] fits fit = end-fits f f.pending fit fit.1
  rest-step-fits f (x ∷ xs) fits fit =
      goes-fits f (item_way (free told) x xs f.memory) (item_bulk x + weight xs) fit (item-adds told (length program.paragraphs) (program_bulk program) (free told) x xs f.memory fits.0 fits.1 fits.2)

  step-fits : (standing : Standing (Unit {0})) (f : Flow) → FlowFits f → FlowFits (step_by (free told) nothing_left program standing f)
  step-fits Going f fit = rest-step-fits f f.rest fit.0 fit
  step-fits (Over ending) f fit = fit

  steps-fit : (n : ℕ) (f : Flow) → FlowFits f → FlowFits (iterate stepped n f)
  steps-fit zero f fit = fit
  steps-fit (suc n) f fit = steps-fit n (stepped f) (step-fits f.run.standing f fit)

  -- a range that a flow path performs is one of the program's paragraphs
  performed-below : (e x : ℕ) → IsPerformed told program e x → (e < length program.paragraphs) × (x < length program.paragraphs)
  performed-below e x p =
      let fit = subst FlowFits (free-as-checked told program not_faulty p.3.1 (p.3.0 ++ []) ∙ p.3.2 []) (steps-fit p.3.1 (flow 0 (rest_of program 0) [] (p.3.0 ++ [])) (rest-fits told program source 0, tt)) in
      fit.0.0

  abbrev AnyFault : Flow → Type 0
  AnyFault f = (n : ℕ) × (fault : FlowFault) × ((iterate stepped n f).run.standing ≡ Over (Faulted fault))

  -- a fault with the range alone pending is one of the program
  alone-faulty : (e x : ℕ) → IsPerformed told program e x → (n : ℕ) (ways : List ℕ) (fault : FlowFault) →
      (iterate stepped n (flow (length program.paragraphs) (Do (Perform e x) ∷ []) [] ways)).run.standing ≡ Over (Faulted fault) → HasFaultyRun told program
  alone-faulty e x p zero ways fault f = let k : Going ≡ Over (Faulted fault) = f in cc
  alone-faulty e x p (suc n) ways fault f =
      let number = p.0 in
      let rest = p.1 in
      let pending = p.2 in
      let b = bigger told program x number rest pending n e (rest_of program e) [] ways [] fault f in
      let start = flow number (Do (Perform e x) ∷ rest) pending ways in
      let pushed = flow e (rest_of program e) (record { end = x; paragraph = number; rest = rest } ∷ pending) ways in
      let faulted = comes_to (free told) nothing_left program (Faulted (Reentry x)) start in
      let next : AnyFault (stepped start) = elim (ends_at x pending) as (λ c. AnyFault (if c then faulted else pushed)) [ true ↦ (0, Reentry x, refl) | false ↦ b ] in (
        p.3.0 ++ ways,
        p.3.1 + suc next.0,
        next.1,
        ap (λ s. s.run.standing) (iterate-add stepped p.3.1 (suc next.0) (flow 0 (rest_of program 0) [] (p.3.0 ++ ways)) ∙ ap (iterate stepped (suc next.0)) (free-as-checked told program not_faulty p.3.1 (p.3.0 ++ ways) ∙ p.3.2 ways)) ∙ next.2,
      )

  pub performed-fine : {Memory Left : Type 0} (acting : Acting Memory) (left : Memory → Left) → IsTold told acting → (e x : ℕ) → IsPerformed told program e x → RangeHasNoFlowFault acting left program e x
  performed-fine acting left is_told e x p m n fault h =
      let lt = performed-below e x p in
      let f = frees told program source acting left is_told n (length program.paragraphs) (Do (Perform e x) ∷ []) [] m [] fault (lt, omega arith, tt) tt h in
      not_faulty (alone-faulty e x p n (f.0 ++ []) fault (f.1 []))

tied-same : {World Event End : Type 0} (a b c : Meaning World Event End) → ((world : World) (n : ℕ) → c world n ≡ b world n) → Tied a b → Tied a c
tied-same a b c same t = record {
  there = t.there;
  back = t.back;
  covered = λ w n k le. subst (Covers (a w n)) (sym (same w k)) (t.covered w n k le);
  covers = λ w n k le. subst (λ r. Covers r (a w k)) (sym (same w n)) (t.covers w n k le);
}

module _ {Memory Left : Type 0} (acting : Acting Memory) (left : Memory → Left) (told : FlowFacts) (program : Program) (keep : Range → Label → Bool) (is_told : IsTold told acting) (source : IsSource told program)
    (some : 0 < length program.paragraphs) (returning : NamesWhatReturns told program) (not_faulty : HasFaultyRun told program → ⊥) (reached : AreReached (lowered told program) keep) where
  abbrev Named : ℕ → ℕ → Type 0
  Named entry exit = IsEntered told program (Part entry exit)

  abbrev place_of : ℕ → ℕ
  place_of = place_in program

  calls-named : CallsNamed acting told program place_of (lowered told program) 0 (rest_of program 0) Named
  calls-named Main number item rest m entry exit items here c is = calls-entered acting told is_told program source Main number item rest m entry exit items main c is
  calls-named (Part e x) number item rest m entry exit items here c is = calls-entered acting told is_told program source (Part e x) number item rest m entry exit items here c is

  named-return : NamedReturn acting told program place_of (lowered told program) 0 (rest_of program 0) Named
  named-return entry exit named c = returning entry exit named (comes-freely acting told is_told program source (Part entry exit) exit [] c)

  pub family-keeps : Tied (meaning (source_machine (alone acting) left program)) (meaning (main_machine acting left (kept keep (lowered told program))))
  family-keeps = tied-same (meaning (source_machine (alone acting) left program)) (meaning (main_machine acting left (lowered told program))) (meaning (main_machine acting left (kept keep (lowered told program))))
      (λ m n. same-walks acting left (lowered told program) keep reached Main (record { own = m; cells = λ range cell. 0 }) n)
      (source-walk-tied acting left told program (place_in program) (lowered told program) Named calls-named named-return is_told source some (lowered-is-lowered told program) (not-faulty-fine acting left told program is_told source not_faulty))

  pub family-main-sound : IsSoundAt acting left (kept keep (lowered told program)) Main
  family-main-sound m n lost =
      lowered-main-sound acting left told program (place_in program) (lowered told program) Named calls-named named-return is_told source some (lowered-is-lowered told program) (not-faulty-fine acting left told program is_told source not_faulty) m n
      (ap (λ r. r.standing) (sym (same-walks acting left (lowered told program) keep reached Main m n)) ∙ lost)

  pub family-part-sound : (e x : ℕ) → IsEntered told program (Part e x) → IsSoundAt acting left (kept keep (lowered told program)) (Part e x)
  family-part-sound e x p m n lost =
      let way = entered-performs told program (Part e x) p in
      let lt = performed-below told program source not_faulty e x way in
      lowered-range-sound acting left told program (place_in program) (lowered told program) Named calls-named named-return is_told source (lowered-is-lowered told program) e x lt.0 lt.1 p
      (performed-fine told program source not_faulty acting left is_told e x way) m n
      (ap (λ r. r.standing) (sym (same-walks acting left (lowered told program) keep reached (Part e x) m n)) ∙ lost)

  module _ (numbers : Range → ℕ → ℕ) (apart : KeepsApart numbers) where
    pub numbered-keeps : Tied (meaning (source_machine (alone acting) left program)) (meaning (main_machine acting left (numbered_anew numbers (kept keep (lowered told program)))))
    numbered-keeps =
        tied-same
        (meaning (source_machine (alone acting) left program))
        (meaning (main_machine acting left (kept keep (lowered told program))))
        (meaning (main_machine acting left (numbered_anew numbers (kept keep (lowered told program)))))
        (λ m n. same-numbered acting left (kept keep (lowered told program)) numbers apart Main (record { own = m; cells = λ range cell. 0 }) n)
        family-keeps

    pub numbered-sound : (range : Range) → IsSoundAt acting left (kept keep (lowered told program)) range → IsSoundAt acting left (numbered_anew numbers (kept keep (lowered told program))) range
    numbered-sound range sound m n lost =
        sound (as_before numbers m) n (ap (λ r. r.standing) (sym (same-numbered acting left (kept keep (lowered told program)) numbers apart range m n)) ∙ lost)
