-- From the source to the written program.
use Rattle.std.proofs.Common.{◌≡◌, ◌≢◌, ℕ, zero, suc, Bool, true, false, if◌then◌else◌, ◌==◌, List, [], ◌∷◌, Option, Some, None, slice_get, refl, ap, sym, subst, inl, inr}
use Rattle.control_flow_theory.specs.runs.Run.{Going, Over, Covers}
use Rattle.control_flow_theory.specs.runs.Tied.{Meaning, Tied}
use Rattle.control_flow_theory.specs.runs.Machine.{iterate, meaning}
use Rattle.control_flow_theory.proofs.runs_lemmas.Ties.{tied-sym, tied-trans, tied-at, tied-comes, going_or_not}
use Rattle.control_flow_theory.specs.semantics.Outcome.{Event, FlowFault, Overlap, Reentry, Ending, Stopped, Faulted, Returned, Lost, Standing}
use Rattle.control_flow_theory.specs.language.Language.{Main, Paragraph, Program}
use Rattle.control_flow_theory.specs.semantics.Doing.{Acting, Doing, Celled, alone}
use Rattle.control_flow_theory.specs.language.Items.{Item}
use Rattle.control_flow_theory.specs.semantics.Items.{Way, On, Halts, Into, To, ToEnd, item_way}
use Rattle.control_flow_theory.specs.language.Items.{Pending, ends_at}
use Rattle.control_flow_theory.specs.semantics.Source.{SourceState, comes_to, goes, goes_to, falls, end_step, rest_step, step_by, source_step, source_begun, source_machine}
use Rattle.control_flow_theory.specs.semantics.Graph.{Family}
use Rattle.control_flow_theory.specs.semantics.Walk.{walk_machine, main_machine}
use Rattle.control_flow_theory.specs.semantics.Structural.{structural}
use Rattle.control_flow_theory.specs.language.Structured.{IsStructuredControl}
use Rattle.control_flow_theory.specs.semantics_agree.Same.{EndsFairly, SameBehaviour}
use Rattle.control_flow_theory.specs.rendering.Rendering.{Naming, Procedure, rendered}
use Rattle.control_flow_theory.specs.rendering.Procedures.{Writable, AreProcedures}
use Rattle.control_flow_theory.specs.rendering.Serving.{Serves}
use Rattle.control_flow_theory.specs.rendering.Laws.{IsNeverLost, NeverFaults, Follows, WalkAlike, IsRestructuredControl}
use Rattle.control_flow_theory.proofs.semantics_agree_lemmas.Agreement.{structured-tied}
use Rattle.control_flow_theory.proofs.semantics_agree_lemmas.Tying.{tied-same}
use Rattle.control_flow_theory.proofs.rendering_lemmas.Written.{walks_from, written_from, written-tied}
use Rattle.control_flow_theory.proofs.rendering_lemmas.Structure.{rendered-structured}

-- the source is never lost, and returns from nothing
abbrev Sober : {Left : Type 0} → Standing Left → Type 0
Sober Going = Unit {0}
Sober (Over (Stopped how left)) = Unit {0}
Sober (Over (Faulted fault)) = Unit {0}
Sober (Over (Returned left)) = ⊥
Sober (Over Lost) = ⊥

module _ {Memory Left : Type 0} (doing : Doing Memory) (left : Memory → Left) (program : Program) where
  abbrev IsSober : SourceState Memory Left → Type 0
  IsSober state = Sober state.run.standing

  module _ (state : SourceState Memory Left) (sober : IsSober state) where
    falls-sober : (next : Option Paragraph) → IsSober (falls doing left program next state)
    falls-sober None = tt
    falls-sober (Some next) = sober

    behind-sober : (t : Bool) → IsSober (if t then comes_to doing left program (Faulted (Overlap state.paragraph)) state else falls doing left program (slice_get program.paragraphs (suc state.paragraph)) state)
    behind-sober true = tt
    behind-sober false = falls-sober (slice_get program.paragraphs (suc state.paragraph))

    end-sober : (returns : List Pending) → IsSober (end_step doing left program returns state)
    end-sober [] = falls-sober (slice_get program.paragraphs (suc state.paragraph))
    end-sober (top ∷ others) =
        elim (top.end == state.paragraph) as (λ t. IsSober (if t
        then record state { paragraph = top.paragraph; rest = top.rest; pending = others }
        else (if ends_at state.paragraph others then comes_to doing left program (Faulted (Overlap state.paragraph)) state else falls doing left program (slice_get program.paragraphs (suc state.paragraph)) state))) [
          | true ↦ sober
          | false ↦ behind-sober (ends_at state.paragraph others)
        ]

    performs-sober : (entry exit : ℕ) (rest : List Item) (t : Bool) → IsSober (if t
        then comes_to doing left program (Faulted (Reentry exit)) state
        else goes_to doing left program entry (record state { pending = record { end = exit; paragraph = state.paragraph; rest = rest } ∷ state.pending }))
    performs-sober entry exit rest true = tt
    performs-sober entry exit rest false = sober

    goes-sober : (way : Way Memory) → IsSober (goes doing left program way state)
    goes-sober (On trace memory items) = sober
    goes-sober (Halts trace how memory) = tt
    goes-sober (Into entry exit items) = performs-sober entry exit items (ends_at exit state.pending)
    goes-sober (To trace memory paragraph) = sober
    goes-sober (ToEnd trace memory paragraph) = sober

    rest-sober : (rest : List Item) → IsSober (rest_step doing left program rest state)
    rest-sober [] = end-sober state.pending
    rest-sober (item ∷ rest) = goes-sober (item_way doing item rest state.memory)

    step-sober : (standing : Standing Left) → IsSober (step_by doing left program standing state)
    step-sober Going = rest-sober state.rest
    step-sober (Over ending) = sober

  run-sober : (n : ℕ) (state : SourceState Memory Left) → IsSober state → IsSober (iterate (source_step doing left program) n state)
  run-sober zero state sober = sober
  run-sober (suc n) state sober = run-sober n (source_step doing left program state) (step-sober state sober state.run.standing)

  pub source-sober : (memory : Memory) (n : ℕ) → Sober (meaning (source_machine doing left program) memory n).standing
  source-sober memory n = run-sober n (source_begun doing left program memory) tt

sober-fair : {Left : Type 0} (standing : Standing Left) → Sober standing → ((fault : FlowFault) → standing ≢ Over (Faulted fault)) → EndsFairly standing
sober-fair Going sober fine = tt
sober-fair (Over (Stopped how left)) sober fine = tt
sober-fair (Over (Faulted fault)) sober fine = absurd (fine fault refl)
sober-fair (Over (Returned left)) sober fine = sober
sober-fair (Over Lost) sober fine = sober

-- what is tied to a meaning that ends fairly ends fairly
tied-fair : {World Left : Type 0} (a b : Meaning World Event (Ending Left)) → Tied a b → ((world : World) (n : ℕ) → EndsFairly (a world n).standing) → (world : World) (n : ℕ) → EndsFairly (b world n).standing
tied-fair a b tied fair world n =
    elim (going_or_not (b world n).standing) [
      | inl going ↦ subst EndsFairly (sym going) tt
      | inr over ↦
          let comes = tied-comes b a (tied-sym a b tied) world (b world n) over (n, refl) in
          subst (λ r. EndsFairly r.standing) comes.1 (fair world comes.0)
    ]

pub follows-sound : {Memory Left : Type 0} (acting : Acting Memory) (left : Memory → Left) (program : Program) (family : Family) → NeverFaults acting left program → Follows acting left program family → IsNeverLost acting left family
follows-sound acting left program family fine follows =
    tied-fair (meaning (source_machine (alone acting) left program)) (meaning (main_machine acting left family)) follows
    (λ memory n. sober-fair (meaning (source_machine (alone acting) left program) memory n).standing (source-sober (alone acting) left program memory n) (fine memory n))

pub alike-sound : {Memory Left : Type 0} (acting : Acting Memory) (left : Memory → Left) (family other : Family) → IsNeverLost acting left family → WalkAlike acting left family other → IsNeverLost acting left other
alike-sound acting left family other sound alike = tied-fair (meaning (main_machine acting left family)) (meaning (main_machine acting left other)) alike sound

-- with each run replaced by the same one
tied-as : {World Left : Type 0} (a b c d : Meaning World Event (Ending Left)) → ((world : World) (n : ℕ) → a world n ≡ c world n) → ((world : World) (n : ℕ) → b world n ≡ d world n) → Tied a b → Tied c d
tied-as a b c d e g h = record {
  there = h.there;
  back = h.back;
  covered = λ w n k le. subst (λ r. Covers r (d w k)) (e w n) (subst (Covers (a w n)) (g w k) (h.covered w n k le));
  covers = λ w n k le. subst (λ r. Covers r (c w k)) (g w n) (subst (Covers (b w n)) (e w k) (h.covers w n k le));
}

pub main-walks-alike : {Memory Left World : Type 0} (acting : Acting Memory) (left : Memory → Left) (first second : Family) (celled_of : World → Celled Memory) (world_of : Memory → World) →
    ((memory : Memory) → celled_of (world_of memory) ≡ record { own = memory; cells = λ range cell. 0 }) →
    Tied (λ world. meaning (walk_machine acting left first Main) (celled_of world)) (λ world. meaning (walk_machine acting left second Main) (celled_of world)) →
    WalkAlike acting left first second
main-walks-alike acting left first second celled_of world_of same tied =
    let walk = λ (family : Family). meaning (walk_machine acting left family Main) in
    tied-as (λ memory. walk first (celled_of (world_of memory))) (λ memory. walk second (celled_of (world_of memory))) (meaning (main_machine acting left first)) (meaning (main_machine acting left second))
    (λ memory n. ap (λ m. walk first m n) (same memory)) (λ memory n. ap (λ m. walk second m n) (same memory))
    (tied-at world_of (λ world. walk first (celled_of world)) (λ world. walk second (celled_of world)) tied)

module _ {Memory Other Left World : Type 0} (acting : Acting Memory) (left : Memory → Left) (first : World → Memory) (result : Acting Other) (other_left : Other → Left) (other_first : World → Other) (Carries : Celled Memory → Other → Type 0) (naming : Naming) (kinds : Writable)
    (serves : Serves acting left first result other_left other_first Carries naming kinds) where
  abbrev shown : List Procedure → Meaning World Event (Ending Left)
  shown procedures = λ world. structural (alone result) other_left (rendered naming procedures) (other_first world)

  pub rendered-tied : (family : Family) (procedures : List Procedure) → AreProcedures family naming kinds procedures → IsNeverLost acting left family →
      Tied (λ world. meaning (main_machine acting left family) (first world)) (shown procedures)
  rendered-tied family procedures are sound =
      let walks = meaning (walks_from acting left first result other_left other_first Carries naming kinds serves family procedures are) in
      let runs = meaning (written_from acting left first result other_left other_first Carries naming kinds serves family procedures are) in
      tied-trans walks runs (shown procedures)
      (written-tied acting left first result other_left other_first Carries naming kinds serves family procedures are (λ world n. sound (first world) n))
      (tied-at other_first (meaning (source_machine (alone result) other_left (rendered naming procedures))) (structural (alone result) other_left (rendered naming procedures))
      (structured-tied (alone result) other_left (rendered naming procedures) (rendered-structured naming kinds family procedures are)))

  pub restructured-tied : (program : Program) (procedures : List Procedure) → NeverFaults acting left program → IsRestructuredControl acting left program naming kinds procedures →
      Tied (λ world. meaning (source_machine (alone acting) left program) (first world)) (shown procedures)
  restructured-tied program procedures fine h =
      let source = meaning (source_machine (alone acting) left program) in
      let lowered = meaning (main_machine acting left h.lowered) in
      let shaped = meaning (main_machine acting left h.shaped) in
      let whole : Follows acting left program h.shaped = tied-trans source lowered shaped h.lowering h.shaping in
      tied-trans (λ world. source (first world)) (λ world. shaped (first world)) (shown procedures) (tied-at first source shaped whole)
      (rendered-tied h.shaped procedures h.are (follows-sound acting left program h.shaped fine whole))

  pub restructured-same : (program : Program) (procedures : List Procedure) → NeverFaults acting left program → IsRestructuredControl acting left program naming kinds procedures →
      IsStructuredControl (rendered naming procedures) × SameBehaviour (λ world. meaning (source_machine (alone acting) left program) (first world)) (shown procedures)
  restructured-same program procedures fine h =
      (rendered-structured naming kinds h.shaped procedures h.are, tied-same (λ world. meaning (source_machine (alone acting) left program) (first world)) (shown procedures) (restructured-tied program procedures fine h))
