-- A run that meets a fault of flow is a flow path that meets it.
use Rattle.std.proofs.Common.{◌≡◌, ℕ, zero, suc, ◌+◌, true, false, if◌then◌else◌, nat_eq, List, [], ◌∷◌, ◌++◌, refl, ap, sym, ◌∙◌, subst, append_assoc, Option, Some, None}
use Rattle.std.specs.Prelude.{slice_get, length}
use Rattle.control_flow_theory.specs.runs.Run.{Going, Over}
use Rattle.control_flow_theory.specs.runs.Machine.{iterate}
use Rattle.control_flow_theory.specs.semantics.Outcome.{Trace, How, Normally, Ending, Stopped, Faulted, Reentry, Overlap, FlowFault, Standing}
use Rattle.control_flow_theory.specs.language.Language.{Paragraph, Program}
use Rattle.control_flow_theory.specs.semantics.Doing.{Doing, Acting, alone}
use Rattle.control_flow_theory.specs.language.Items.{Item}
use Rattle.control_flow_theory.specs.semantics.Items.{Way, On, Halts, Into, To, ToEnd, item_way}
use Rattle.control_flow_theory.specs.language.Items.{Pending, ends_at}
use Rattle.control_flow_theory.specs.semantics.Source.{SourceState, rest_of, comes_to, goes, falls, step_by, source_step}
use Rattle.control_flow_theory.specs.lowering.FlowFacts.{FlowFacts, IsTold, IsSource}
use Rattle.control_flow_theory.specs.lowering.flow.Paths.{Flow, flow, free, nothing_left}
use Rattle.control_flow_theory.proofs.lowering_lemmas.rests.Fits.{item_bulk, program_bulk, weight, FitsIn, Adds, item-adds, rest-fits}
use Rattle.control_flow_theory.proofs.lowering_lemmas.rests.Joints.{source_at}
use Rattle.control_flow_theory.proofs.lowering_lemmas.flow.Freely.{Freely, item-freely}

module _ {Memory Left : Type 0} (doing : Doing Memory) (left : Memory → Left) (program : Program) where
  step-over : (ending : Ending Left) (standing : Standing Left) (s : SourceState Memory Left) → s.run.standing ≡ standing → standing ≡ Over ending → (step_by doing left program standing s).run.standing ≡ Over ending
  step-over ending Going s is e = cc
  step-over ending (Over other) s is e = is ∙ e

  -- a run that is over stays so
  pub over-stays : (ending : Ending Left) (n : ℕ) (s : SourceState Memory Left) → s.run.standing ≡ Over ending → (iterate (source_step doing left program) n s).run.standing ≡ Over ending
  over-stays ending zero s e = e
  over-stays ending (suc n) s e = over-stays ending n (source_step doing left program s) (step-over ending s.run.standing s refl e)

abbrev fault_of : {Left : Type 0} → FlowFault → Standing Left → FlowFault
fault_of other Going = other
fault_of other (Over (Faulted fault)) = fault
fault_of other (Over ending) = other

abbrev at_fault : (Left : Type 0) → FlowFault → Standing Left
at_fault Left fault = Over (Faulted fault)

same-fault : {Left : Type 0} (a b : FlowFault) → at_fault Left a ≡ at_fault Left b → at_fault (Unit {0}) a ≡ at_fault (Unit {0}) b
same-fault {Left} a b e = ap (at_fault (Unit {0})) (ap (fault_of a) e)

module _ (told : FlowFacts) (program : Program) (source : IsSource told program) where
  abbrev pub PendingFit : List Pending → Type 0
  PendingFit [] = Unit {0}
  PendingFit (x ∷ xs) = FitsIn told program source x.rest × PendingFit xs

  abbrev Added : {Memory : Type 0} → ℕ → Way Memory → Type 0
  Added heavy way = Adds told (length program.paragraphs) (program_bulk program) heavy way

  abbrev stepped : Flow → Flow
  stepped f = source_step (free told) nothing_left program f

  abbrev FaultsAt : ℕ → Flow → FlowFault → Type 0
  FaultsAt n f fault = (iterate stepped n f).run.standing ≡ Over (Faulted fault)

  abbrev free_faulted : ℕ → List Pending → List ℕ → Flow
  free_faulted q pending ways = comes_to (free told) nothing_left program (Faulted (Overlap q)) (flow q [] pending ways)

  abbrev free_fallen : ℕ → List Pending → List ℕ → Flow
  free_fallen q pending ways = falls (free told) nothing_left program (slice_get program.paragraphs (suc q)) (flow q [] pending ways)

  module _ {Memory Left : Type 0} (acting : Acting Memory) (left : Memory → Left) (is_told : IsTold told acting) where
    abbrev State : Type 0
    State = SourceState Memory Left

    abbrev real : State → State
    real s = source_step (alone acting) left program s

    abbrev Faults : ℕ → State → FlowFault → Type 0
    Faults n s fault = (iterate real n s).run.standing ≡ Over (Faulted fault)

    -- by some ways
    abbrev Freed : ℕ → ℕ → List Item → List Pending → FlowFault → Type 0
    Freed n q rest pending fault = (ways : List ℕ) × ((more : List ℕ) → FaultsAt n (flow q rest pending (ways ++ more)) fault)

    abbrev Frees : ℕ → Type 0
    Frees n = (q : ℕ) (rest : List Item) (pending : List Pending) (m : Memory) (tr : Trace) (fault : FlowFault) → FitsIn told program source rest → PendingFit pending → Faults n (source_at q rest pending m tr) fault → Freed n q rest pending fault

    not-stopped : (n : ℕ) (s : State) (how : How) (l : Left) (fault : FlowFault) → s.run.standing ≡ Over (Stopped how l) → Faults n s fault → ⊥
    not-stopped n s how l fault e h = let k : Over (Stopped how l) ≡ Over (Faulted fault) = sym (over-stays (alone acting) left program (Stopped how l) n s e) ∙ h in cc

    goes-freed : (n : ℕ) → Frees n → (q : ℕ) (x : Item) (xs : List Item) (pending : List Pending) (m : Memory) (tr : Trace) (fault : FlowFault) (way : Way Memory) (heavy : ℕ) → Freely way (item_way (free told) x xs) → Added heavy way → PendingFit pending →
        Faults n (goes (alone acting) left program way (source_at q (x ∷ xs) pending m tr)) fault → Freed (suc n) q (x ∷ xs) pending fault
    goes-freed n ih q x xs pending m tr fault (On t now items) heavy h adds fit f =
        let k = ih q items pending now (tr ++ t) fault adds.1 fit f in (
          h.0 ++ k.0,
          λ more.
              subst (λ ways. FaultsAt n (goes (free told) nothing_left program (item_way (free told) x xs ways) (flow q (x ∷ xs) pending ways)) fault) (sym (append_assoc h.0 k.0 more))
              (subst (λ w. FaultsAt n (goes (free told) nothing_left program w (flow q (x ∷ xs) pending (h.0 ++ (k.0 ++ more)))) fault) (sym (h.1 (k.0 ++ more))) (k.1 more)),
        )
    goes-freed n ih q x xs pending m tr fault (Halts t how now) heavy h adds fit f =
        absurd (not-stopped n (goes (alone acting) left program (Halts t how now) (source_at q (x ∷ xs) pending m tr)) how (left now) fault refl f)
    goes-freed n ih q x xs pending m tr fault (Into e y items) heavy h adds fit f =
        let start : State = source_at q (x ∷ xs) pending m tr in
        let pushed : List Pending = record { end = y; paragraph = q; rest = items } ∷ pending in
        let faulted : State = comes_to (alone acting) left program (Faulted (Reentry y)) start in
        elim (ends_at y pending) as (λ b. ends_at y pending ≡ b → Faults n (if b then faulted else source_at e (rest_of program e) pushed m tr) fault → Freed (suc n) q (x ∷ xs) pending fault) [
          | true ↦ λ is f. (
            [],
            λ more.
                let free_start = flow q (x ∷ xs) pending more in
                let free_faulted = comes_to (free told) nothing_left program (Faulted (Reentry y)) free_start in
                let same : Over (Faulted (Reentry y)) ≡ Over (Faulted fault) = sym (over-stays (alone acting) left program (Faulted (Reentry y)) n faulted refl) ∙ f in
                subst (λ w. FaultsAt n (goes (free told) nothing_left program w free_start) fault) (sym (h more))
                (subst (λ b. FaultsAt n (if b then free_faulted else flow e (rest_of program e) pushed more) fault) (sym is)
                (over-stays (free told) nothing_left program (Faulted (Reentry y)) n free_faulted refl ∙ same-fault (Reentry y) fault same)),
          )
          | false ↦ λ is f.
              let k = ih e (rest_of program e) pushed m tr fault (rest-fits told program source e) (adds.1, fit) f in (
                k.0,
                λ more.
                    let free_start = flow q (x ∷ xs) pending (k.0 ++ more) in
                    subst (λ w. FaultsAt n (goes (free told) nothing_left program w free_start) fault) (sym (h (k.0 ++ more)))
                    (subst (λ b. FaultsAt n (if b then comes_to (free told) nothing_left program (Faulted (Reentry y)) free_start else flow e (rest_of program e) pushed (k.0 ++ more)) fault) (sym is) (k.1 more)),
              )
        ] refl f
    goes-freed n ih q x xs pending m tr fault (To t now to) heavy h adds fit f =
        let k = ih to (rest_of program to) pending now (tr ++ t) fault (rest-fits told program source to) fit f in (
          h.0 ++ k.0,
          λ more.
              subst (λ ways. FaultsAt n (goes (free told) nothing_left program (item_way (free told) x xs ways) (flow q (x ∷ xs) pending ways)) fault) (sym (append_assoc h.0 k.0 more))
              (subst (λ w. FaultsAt n (goes (free told) nothing_left program w (flow q (x ∷ xs) pending (h.0 ++ (k.0 ++ more)))) fault) (sym (h.1 (k.0 ++ more))) (k.1 more)),
        )
    goes-freed n ih q x xs pending m tr fault (ToEnd t now to) heavy h adds fit f =
        let k = ih to [] pending now (tr ++ t) fault tt fit f in (
          h.0 ++ k.0,
          λ more.
              subst (λ ways. FaultsAt n (goes (free told) nothing_left program (item_way (free told) x xs ways) (flow q (x ∷ xs) pending ways)) fault) (sym (append_assoc h.0 k.0 more))
              (subst (λ w. FaultsAt n (goes (free told) nothing_left program w (flow q (x ∷ xs) pending (h.0 ++ (k.0 ++ more)))) fault) (sym (h.1 (k.0 ++ more))) (k.1 more)),
        )

    falls-freed : (n : ℕ) → Frees n → (q : ℕ) (pending : List Pending) (m : Memory) (tr : Trace) (fault : FlowFault) (found : Option Paragraph) → PendingFit pending → Faults n (falls (alone acting) left program found (source_at q [] pending m tr)) fault →
        (ways : List ℕ) × ((more : List ℕ) → FaultsAt n (falls (free told) nothing_left program found (flow q [] pending (ways ++ more))) fault)
    falls-freed n ih q pending m tr fault None fit f = absurd (not-stopped n (falls (alone acting) left program None (source_at q [] pending m tr)) Normally (left m) fault refl f)
    falls-freed n ih q pending m tr fault (Some next) fit f = ih (suc q) (rest_of program (suc q)) pending m tr fault (rest-fits told program source (suc q)) fit f

    end-freed : (n : ℕ) → Frees n → (q : ℕ) (pending : List Pending) (m : Memory) (tr : Trace) (fault : FlowFault) → PendingFit pending → Faults (suc n) (source_at q [] pending m tr) fault → Freed (suc n) q [] pending fault
    end-freed n ih q [] m tr fault fit f = falls-freed n ih q [] m tr fault (slice_get program.paragraphs (suc q)) fit f
    end-freed n ih q (top ∷ others) m tr fault fit f =
        let start : State = source_at q [] (top ∷ others) m tr in
        let found = slice_get program.paragraphs (suc q) in
        let popped : State = source_at top.paragraph top.rest others m tr in
        let faulted : State = comes_to (alone acting) left program (Faulted (Overlap q)) start in
        let fallen : State = falls (alone acting) left program found start in
        elim (nat_eq top.end q) as (λ b. nat_eq top.end q ≡ b → Faults n (if b then popped else (if ends_at q others then faulted else fallen)) fault → Freed (suc n) q [] (top ∷ others) fault) [
          | true ↦ λ is f.
              let k = ih top.paragraph top.rest others m tr fault fit.0 fit.1 f in
              (k.0, λ more. subst (λ b. FaultsAt n (if b then flow top.paragraph top.rest others (k.0 ++ more) else (if ends_at q others then free_faulted q (top ∷ others) (k.0 ++ more) else free_fallen q (top ∷ others) (k.0 ++ more))) fault) (sym is) (k.1 more))
          | false ↦ λ is. elim (ends_at q others) as (λ b. ends_at q others ≡ b → Faults n (if b then faulted else fallen) fault → Freed (suc n) q [] (top ∷ others) fault) [
            | true ↦ λ within f. (
              [],
              λ more.
                  let same : Over (Faulted (Overlap q)) ≡ Over (Faulted fault) = sym (over-stays (alone acting) left program (Faulted (Overlap q)) n faulted refl) ∙ f in
                  subst (λ b. FaultsAt n (if b then flow top.paragraph top.rest others more else (if ends_at q others then free_faulted q (top ∷ others) more else free_fallen q (top ∷ others) more)) fault) (sym is)
                  (subst (λ b. FaultsAt n (if b then free_faulted q (top ∷ others) more else free_fallen q (top ∷ others) more) fault) (sym within)
                  (over-stays (free told) nothing_left program (Faulted (Overlap q)) n (free_faulted q (top ∷ others) more) refl ∙ same-fault (Overlap q) fault same)),
            )
            | false ↦ λ within f.
                let k = falls-freed n ih q (top ∷ others) m tr fault found fit f in (
                  k.0,
                  λ more.
                      subst (λ b. FaultsAt n (if b then flow top.paragraph top.rest others (k.0 ++ more) else (if ends_at q others then free_faulted q (top ∷ others) (k.0 ++ more) else free_fallen q (top ∷ others) (k.0 ++ more))) fault) (sym is)
                      (subst (λ b. FaultsAt n (if b then free_faulted q (top ∷ others) (k.0 ++ more) else free_fallen q (top ∷ others) (k.0 ++ more)) fault) (sym within) (k.1 more)),
                )
          ] refl
        ] refl f

    pub frees : (n : ℕ) → Frees n
    frees zero q rest pending m tr fault fits fit f = let k : Going ≡ Over (Faulted fault) = f in cc
    frees (suc n) q [] pending m tr fault fits fit f = end-freed n (frees n) q pending m tr fault fit f
    frees (suc n) q (x ∷ xs) pending m tr fault fits fit f =
        goes-freed n (frees n) q x xs pending m tr fault (item_way (alone acting) x xs m) (item_bulk x + weight xs) (item-freely acting told is_told (length program.paragraphs) x xs m fits.0)
        (item-adds told (length program.paragraphs) (program_bulk program) (alone acting) x xs m fits.0 fits.1 fits.2) fit f
