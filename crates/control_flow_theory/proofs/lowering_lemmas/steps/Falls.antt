-- The end of a paragraph: a return, the next paragraph, or a stop.
use Rattle.std.proofs.Common.{◌≡◌, ℕ, zero, suc, ◌<◌, true, false, if◌then◌else◌, nat_eq, List, [], ◌∷◌, refl, sym, subst, arith, eqb-true, Option, Some, None}
use Rattle.std.specs.Prelude.{slice_get, length}
use Rattle.control_flow_theory.specs.semantics.Outcome.{Trace, Faulted, Overlap}
use Rattle.control_flow_theory.specs.language.Language.{Paragraph, Program, Range, Main, Part}
use Rattle.control_flow_theory.specs.semantics.Doing.{Acting, alone}
use Rattle.control_flow_theory.specs.language.Items.{Item}
use Rattle.control_flow_theory.specs.language.Items.{ends_at}
use Rattle.control_flow_theory.specs.semantics.Source.{SourceState, falls, comes_to}
use Rattle.control_flow_theory.specs.semantics.Graph.{Tree, Return, Family}
use Rattle.control_flow_theory.specs.semantics.Walk.{Walk}
use Rattle.control_flow_theory.specs.lowering.FlowFacts.{FlowFacts, IsTold, IsSource}
use Rattle.control_flow_theory.specs.lowering.Lower.{point, end_alone, fall_leaf, paragraph_end_target}
use Rattle.control_flow_theory.specs.lowering.flow.Comes.{Comes, IsNoExit, IsLowered}
use Rattle.control_flow_theory.specs.lowering.flow.Comes as come
use Rattle.control_flow_theory.proofs.lowering_lemmas.rests.Fits.{FitsIn}
use Rattle.control_flow_theory.proofs.lowering_lemmas.rests.Joints.{Joint, both, rest_at, pending_of, callers_of, source_at, walk_at, IsFine, CallsNamed, NamedReturn}
use Rattle.control_flow_theory.proofs.lowering_lemmas.steps.Moves.{S, W, Move, Come, Wait, step_s, step_w, at_tree, met-now, ended-now, move-after, arrives-whole}

found-below : (ps : List Paragraph) (k : ℕ) (next : Paragraph) → slice_get ps k ≡ Some next → k < length ps
found-below [] k next is = cc
found-below (x ∷ xs) zero next is = omega arith
found-below (x ∷ xs) (suc k) next is = let e = found-below xs k next is in omega (arith, e)

module _ {Memory Left : Type 0} (acting : Acting Memory) (left : Memory → Left) (told : FlowFacts) (program : Program) (place_of : ℕ → ℕ) (family : Family) (first : ℕ) (first_rest : List Item) (Named : ℕ → ℕ → Type 0)
    (is_told : IsTold told acting) (source : IsSource told program) (lowered : IsLowered told program place_of family) (first_fits : FitsIn told program source first_rest) (names : CallsNamed acting told program place_of family first first_rest Named)
    (returning : NamedReturn acting told program place_of family first first_rest Named) where
  abbrev Moving : ℕ → ℕ → S acting left told program place_of family first first_rest Named → W acting left told program place_of family first first_rest Named → Type 0
  Moving most heavy s w = Move acting left told program place_of family first first_rest Named most heavy s w

  abbrev Waiting : (Range → ℕ → ℕ) → Range → List Joint → Type 0
  Waiting cells range waiting = Wait acting left told program place_of family first first_rest Named cells range waiting

  abbrev Coming : Range → ℕ → List Item → Type 0
  Coming range q rest = Come acting left told program place_of family first first_rest Named range q rest

  abbrev State : Type 0
  State = SourceState Memory Left

  abbrev rest_state : Range → ℕ → List Item → List Joint → Memory → Trace → State
  rest_state range q rest waiting m tr = source_at q rest (pending_of range waiting) m tr

  abbrev tree_walk : Range → Tree → List Joint → Memory → (Range → ℕ → ℕ) → Trace → Walk Memory Left
  tree_walk range t waiting m cells tr = at_tree acting left told program place_of family first first_rest Named range t waiting m cells tr

  fall-move : (range : Range) (q : ℕ) (waiting : List Joint) (m : Memory) (cells : Range → ℕ → ℕ) (tr : Trace) (heavy : ℕ) (found : Option Paragraph) → slice_get program.paragraphs (suc q) ≡ found → IsNoExit range q → Waiting cells range waiting → Coming range q [] →
      Moving 1 heavy (falls (alone acting) left program found (rest_state range q [] waiting m tr)) (tree_walk range (end_alone (fall_leaf place_of q found)) waiting m cells tr)
  fall-move range q waiting m cells tr heavy None is out waits came =
      let s = falls (alone acting) left program None (rest_state range q [] waiting m tr) in
      let v = tree_walk range (end_alone (fall_leaf place_of q None)) waiting m cells tr in
      let w = step_w acting left told program place_of family first first_rest Named v in
      move-after acting left told program place_of family first first_rest Named 0 heavy s v w refl (ended-now acting left told program place_of family first first_rest Named s w (refl, λ e. cc))
  fall-move range q waiting m cells tr heavy (Some next) is out waits came =
      let s = falls (alone acting) left program (Some next) (rest_state range q [] waiting m tr) in
      let v = tree_walk range (end_alone (fall_leaf place_of q (Some next))) waiting m cells tr in
      let w = tree_walk range (family.node range (point (place_of (suc q)))) waiting m cells tr in
      move-after acting left told program place_of family first first_rest Named 0 heavy s v w refl (met-now acting left told program place_of family first first_rest Named s w
      (arrives-whole acting left told program place_of family first first_rest Named is_told source lowered first_fits names range (suc q) waiting m cells tr tr (found-below program.paragraphs (suc q) next is) refl waits (come.falls range q next is out came)))

  -- the end of a paragraph
  pub over-move : (range : Range) (q : ℕ) (waiting : List Joint) (m : Memory) (cells : Range → ℕ → ℕ) (tr : Trace) (heavy : ℕ) → Waiting cells range waiting → Coming range q [] →
      IsFine (step_s acting left told program place_of family first first_rest Named (rest_state range q [] waiting m tr)) →
      Moving 1 heavy (step_s acting left told program place_of family first first_rest Named (rest_state range q [] waiting m tr)) (tree_walk range (end_alone (paragraph_end_target place_of program range q)) waiting m cells tr)
  over-move Main q [] m cells tr heavy waits came fine = fall-move Main q [] m cells tr heavy (slice_get program.paragraphs (suc q)) refl tt waits came
  over-move Main q (j ∷ js) m cells tr heavy waits came fine = absurd waits
  over-move (Part e x) q [] m cells tr heavy waits came fine = absurd waits
  over-move (Part e x) q (j ∷ js) m cells tr heavy waits came fine =
      let found = slice_get program.paragraphs (suc q) in
      let start : State = rest_state (Part e x) q [] (j ∷ js) m tr in
      let popped : State = rest_state j.range j.paragraph (rest_at j) js m tr in
      let faulted : State = comes_to (alone acting) left program (Faulted (Overlap q)) start in
      let fallen : State = falls (alone acting) left program found start in
      let deeper : State = if ends_at q (pending_of j.range js) then faulted else fallen in
      elim (nat_eq x q) as (λ b. nat_eq x q ≡ b → IsFine (if b then popped else deeper) → Moving 1 heavy (if b then popped else deeper) (tree_walk (Part e x) (end_alone (if b then Return else fall_leaf place_of q found)) (j ∷ js) m cells tr)) [
        | true ↦ λ is fine.
            let at_end : Coming (Part e x) x [] = subst (λ y. Coming (Part e x) y []) (sym (eqb-true x q is)) came in
            let v = tree_walk (Part e x) (end_alone Return) (j ∷ js) m cells tr in
            let w : Walk Memory Left = walk_at j.range j.walk_items j.walk_end (callers_of js) m cells tr in
            move-after acting left told program place_of family first first_rest Named 0 heavy popped v w refl (met-now acting left told program place_of family first first_rest Named popped w record {
              to = both j js m cells tr;
              sourced = refl;
              walked = refl;
              ok = (waits.0 (returning e x waits.4 at_end), waits.1, waits.5);
              comes = waits.2 at_end;
            })
        | false ↦ λ is fine.
            elim (ends_at q (pending_of j.range js)) as (λ b. IsFine (if b then faulted else fallen) → Moving 1 heavy (if b then faulted else fallen) (tree_walk (Part e x) (end_alone (fall_leaf place_of q found)) (j ∷ js) m cells tr)) [
              | true ↦ λ fine. absurd (fine (Overlap q) refl)
              | false ↦ λ fine. fall-move (Part e x) q (j ∷ js) m cells tr heavy found refl is waits came
            ] fine
      ] refl fine
