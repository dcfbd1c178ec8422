-- What a statement without an escape does: one step of the source is one of the walk.
use Rattle.std.proofs.Common.{◌≡◌, ℕ, suc, ◌+◌, ◌<◌, ◌≤◌, Bool, true, false, if◌then◌else◌, List, [], ◌∷◌, ◌++◌, refl, ap, sym, ◌∙◌, subst, arith, inl, inr}
use Rattle.std.specs.Prelude.{length}
use Rattle.control_flow_theory.specs.runs.Machine.{iterate}
use Rattle.control_flow_theory.specs.semantics.Outcome.{Trace, How, Faulted, Reentry}
use Rattle.control_flow_theory.specs.language.Language.{Stmt, Stmts, none, also, Program, paragraph_at, Range, Part}
use Rattle.control_flow_theory.specs.semantics.Doing.{Acting, alone, Celled, celled}
use Rattle.control_flow_theory.specs.language.Items.{Item, Do, before}
use Rattle.control_flow_theory.specs.semantics.Items.{Way, On, Halts, Into, item_way}
use Rattle.control_flow_theory.specs.language.Items.{ends_at}
use Rattle.control_flow_theory.specs.semantics.Source.{SourceState, rest_of, goes, source_step, comes_to}
use Rattle.control_flow_theory.specs.semantics.Graph.{Tree, tree, End, Dead, body_of, end_of, Family}
use Rattle.control_flow_theory.specs.semantics.Walk.{Walk, walk_step, walk_goes}
use Rattle.control_flow_theory.specs.lowering.FlowFacts.{FlowFacts, IsTold, IsSource}
use Rattle.control_flow_theory.specs.lowering.Completes.{completes, cut, whole, size}
use Rattle.control_flow_theory.specs.lowering.Lower.{point, with_first, push, EscapeTargets}
use Rattle.control_flow_theory.specs.lowering.Rests.{Rest, From, items_in}
use Rattle.control_flow_theory.specs.lowering.flow.Comes.{Comes, goes_on, over, AreReturning, IsLowered}
use Rattle.control_flow_theory.specs.lowering.flow.Comes as come
use Rattle.control_flow_theory.proofs.lowering_lemmas.rests.Stands.{cut_item, whole_item, item_completes, Stands}
use Rattle.control_flow_theory.proofs.lowering_lemmas.rests.Wholes.{Alike, Behind, BehindWhere, item-alike}
use Rattle.control_flow_theory.proofs.lowering_lemmas.rests.Fits.{item_bulk, program_bulk, weight, FitsIn, Adds, item-adds, comes-fits}
use Rattle.control_flow_theory.proofs.lowering_lemmas.rests.Joints.{Joint, joint, both, pending_of, callers_of, source_at, walk_at, ComesTo, end_at, tree_in, whole_rest, RestOk, Waits, heft, IsFine, Met, Ended, Together, Reached, Moved, CallsNamed}
use Rattle.control_flow_theory.proofs.lowering_lemmas.rests.Counters.{items-from, apart-from, holds-from, fresh-new, waits-named}

module _ {Memory Left : Type 0} (acting : Acting Memory) (left : Memory → Left) (told : FlowFacts) (program : Program) (place_of : ℕ → ℕ) (family : Family) (first : ℕ) (first_rest : List Item) (Named : ℕ → ℕ → Type 0) where
  abbrev pub S : Type 0
  S = SourceState Memory Left

  abbrev pub W : Type 0
  W = Walk Memory Left

  abbrev pub Reach : ℕ → S → W → Type 0
  Reach most s w = Reached acting left told program place_of family first first_rest Named most s w

  abbrev pub Move : ℕ → ℕ → S → W → Type 0
  Move most heavy s w = Moved acting left told program place_of family first first_rest Named most heavy s w

  abbrev pub Meet : S → W → Type 0
  Meet s w = Met acting left told program place_of family first first_rest Named s w

  abbrev pub Come : Range → ℕ → List Item → Type 0
  Come range q rest = ComesTo acting told program place_of family first first_rest Named range q rest

  abbrev pub Right : (Range → ℕ → ℕ) → Range → ℕ → Rest → Type 0
  Right cells range q c = RestOk acting told program place_of family first first_rest Named cells range q c

  abbrev pub Wait : (Range → ℕ → ℕ) → Range → List Joint → Type 0
  Wait cells range waiting = Waits acting told program place_of family first first_rest Named cells range waiting

  abbrev pub tree_here : Range → ℕ → Rest → Tree
  tree_here range q c = tree_in acting told program place_of family first first_rest Named range q c

  abbrev pub end_here : Range → ℕ → EscapeTargets
  end_here range q = end_at acting told program place_of family first first_rest Named range q

  abbrev pub whole_from : ℕ → Rest
  whole_from q = whole_rest acting told program place_of family first first_rest Named q

  abbrev pub step_s : S → S
  step_s s = source_step (alone acting) left program s

  abbrev pub step_w : W → W
  step_w w = walk_step acting left family w

  -- the walk at a tree
  abbrev pub at_tree : Range → Tree → List Joint → Memory → (Range → ℕ → ℕ) → Trace → W
  at_tree range t waiting m cells tr = walk_at range (before (body_of t) []) (end_of t) (callers_of waiting) m cells tr

  -- the source at a rest
  abbrev pub at_rest : Range → ℕ → List Item → List Joint → Memory → Trace → S
  at_rest range q rest waiting m tr = source_at q rest (pending_of range waiting) m tr

  pub met-now : (s : S) (w : W) → Meet s w → Reach 0 s w
  met-now s w m = record { steps = 0; few = omega arith; together = inl m }

  pub ended-now : (s : S) (w : W) → Ended acting left told program place_of family first first_rest Named s w → Reach 0 s w
  ended-now s w e = record { steps = 0; few = omega arith; together = inr e }

  pub reach-later : (most : ℕ) (s : S) (v w : W) → step_w v ≡ w → Reach most s w → Reach (suc most) s v
  reach-later most s v w e r = record {
    steps = suc r.steps;
    few = omega (arith, r.few);
    together = subst (λ x. Together acting left told program place_of family first first_rest Named s (iterate step_w r.steps x)) (sym e) r.together;
  }

  pub reach-more : (most higher : ℕ) (s : S) (w : W) → most ≤ higher → Reach most s w → Reach higher s w
  reach-more most higher s w le r = record { steps = r.steps; few = omega (arith, le, r.few); together = r.together }

  pub move-after : (most heavy : ℕ) (s : S) (v w : W) → step_w v ≡ w → Reach most s w → Move (suc most) heavy s v
  move-after most heavy s v w e r =
      let l = reach-later most s v w e r in
      record { steps = suc r.steps; few = omega (arith, r.few); together = subst (λ x. Together acting left told program place_of family first first_rest Named s (iterate step_w r.steps x)) (sym e) r.together; light = λ z. absurd (omega arith) }

  pub move-now : (heavy : ℕ) (s : S) (w : W) → Meet s w → heft s + 1 ≤ heavy → Move 0 heavy s w
  move-now heavy s w m le = record { steps = 0; few = omega arith; together = inl m; light = λ z. le }

  pub move-more : (most higher heavy : ℕ) (s : S) (w : W) → most ≤ higher → Move most heavy s w → Move higher heavy s w
  move-more most higher heavy s w le r = record { steps = r.steps; few = omega (arith, le, r.few); together = r.together; light = r.light }

  pub move-later : (most heavy : ℕ) (s : S) (v w : W) → step_w v ≡ w → Move most heavy s w → Move (suc most) heavy s v
  move-later most heavy s v w e r = record {
    steps = suc r.steps;
    few = omega (arith, r.few);
    together = subst (λ x. Together acting left told program place_of family first first_rest Named s (iterate step_w r.steps x)) (sym e) r.together;
    light = λ z. absurd (omega arith);
  }

  -- both stand at this rest
  pub arrives : (range : Range) (q : ℕ) (c : Rest) (rest : List Item) (waiting : List Joint) (m : Memory) (cells : Range → ℕ → ℕ) (tr tr' : Trace) → rest ≡ items_in c → tr' ≡ tr →
      Right cells range q c → Wait cells range waiting → Come range q rest → Meet (at_rest range q rest waiting m tr') (at_tree range (tree_here range q c) waiting m cells tr)
  arrives range q c rest waiting m cells tr tr' is shown ok waits came =
      let t = tree_here range q c in
      record {
        to = both (joint range q [] c (before (body_of t) []) (end_of t)) waiting m cells tr;
        sourced = ap (λ r. at_rest range q r waiting m tr') is ∙ ap (at_rest range q (items_in c) waiting m) shown;
        walked = refl;
        ok = ((refl, refl), ok, waits);
        comes = subst (Come range q) is came;
      }

  module _ (is_told : IsTold told acting) (source : IsSource told program) (lowered : IsLowered told program place_of family) (first_fits : FitsIn told program source first_rest) (names : CallsNamed acting told program place_of family first first_rest Named) where
    pub here-fits : (range : Range) (q : ℕ) (rest : List Item) → Come range q rest → FitsIn told program source rest
    here-fits range q rest came = comes-fits told program source (alone acting) first first_rest first_fits range q rest came

    pub whole-right : (cells : Range → ℕ → ℕ) (range : Range) (q : ℕ) → q < length program.paragraphs → Right cells range q (whole_from q)
    whole-right cells range q lt = (lowered.has range q lt, holds-from told (cells range) (place_of q + 1) (paragraph_at program q), apart-from told (place_of q + 1) (paragraph_at program q))

    -- both stand at a paragraph's begin
    pub arrives-whole : (range : Range) (q : ℕ) (waiting : List Joint) (m : Memory) (cells : Range → ℕ → ℕ) (tr tr' : Trace) → q < length program.paragraphs → tr' ≡ tr →
        Wait cells range waiting → Come range q (rest_of program q) → Meet (at_rest range q (rest_of program q) waiting m tr') (at_tree range (family.node range (point (place_of q))) waiting m cells tr)
    arrives-whole range q waiting m cells tr tr' lt shown waits came =
        subst (λ t. Meet (at_rest range q (rest_of program q) waiting m tr') (at_tree range t waiting m cells tr)) (sym (lowered.at range q lt))
        (arrives range q (whole_from q) (rest_of program q) waiting m cells tr tr' (sym (items-from told (place_of q + 1) (paragraph_at program q))) shown (whole-right cells range q lt) waits came)

    module _ (range : Range) (q : ℕ) (x : Item) (rest : List Item) (c : Rest) (end : End) (waiting : List Joint) (m : Memory) (cells : Range → ℕ → ℕ) (tr : Trace)
        (ok : Right cells range q c) (waits : Wait cells range waiting) (came : Come range q (x ∷ rest)) where
      abbrev Here : List Item → List Item → Type 0
      Here ys zs = Stands told (tree_here range q c) end ys zs

      -- the source's state, whatever its rest
      abbrev pub st : S
      st = at_rest range q (x ∷ rest) waiting m tr

      abbrev pub goes_s : Way Memory → S
      goes_s a = goes (alone acting) left program a st

      on-moved : (heavy : ℕ) (s t : Trace) (now : Memory) (then_c : Celled Memory) (ys zs : List Item) (v : W) (before_items : List Item) → item_way (alone acting) x rest m ≡ On s now (ys ++ items_in c) → s ≡ t → then_c ≡ record { own = now; cells = cells } → Here ys zs →
          step_w v ≡ walk_goes acting left family (On t then_c zs) (walk_at range before_items end (callers_of waiting) m cells tr) → Move 1 heavy (goes_s (On s now (ys ++ items_in c))) v
      on-moved heavy s t now then_c ys zs v before_items e shown kept h walked =
          let w : W = walk_goes acting left family (On t then_c zs) (walk_at range before_items end (callers_of waiting) m cells tr) in
          move-after 0 heavy (goes_s (On s now (ys ++ items_in c))) v w walked (met-now (goes_s (On s now (ys ++ items_in c))) w record {
            to = both (joint range q ys c zs end) waiting now cells (tr ++ s);
            sourced = refl;
            walked = ap (λ u. walk_goes acting left family (On u then_c zs) (walk_at range before_items end (callers_of waiting) m cells tr)) (sym shown)
                ∙ ap (λ u. walk_goes acting left family (On s u zs) (walk_at range before_items end (callers_of waiting) m cells tr)) kept;
            ok = (h, ok, waits);
            comes = goes_on range q x rest m s now (ys ++ items_in c) came e;
          })

      halts-moved : (heavy : ℕ) (s t : Trace) (how so : How) (now : Memory) (then_c : Celled Memory) (v : W) (before_items : List Item) → s ≡ t → how ≡ so → now ≡ then_c.own →
          step_w v ≡ walk_goes acting left family (Halts t so then_c) (walk_at range before_items end (callers_of waiting) m cells tr) → Move 1 heavy (goes_s (Halts s how now)) v
      halts-moved heavy s t how so now then_c v before_items shown same kept walked =
          let w : W = walk_goes acting left family (Halts t so then_c) (walk_at range before_items end (callers_of waiting) m cells tr) in
          move-after 0 heavy (goes_s (Halts s how now)) v w walked (ended-now (goes_s (Halts s how now)) w
          (ap (λ u. (goes_s (Halts u how now)).run) shown ∙ ap (λ u. (goes_s (Halts t u now)).run) same ∙ ap (λ u. (goes_s (Halts t so u)).run) kept, λ e. cc))

      into-moved : (heavy : ℕ) (e y f z : ℕ) (ys zs : List Item) (v : W) (before_items : List Item) → item_way (alone acting) x rest m ≡ Into e y (ys ++ items_in c) → e < length program.paragraphs → e ≡ f → y ≡ z → (told.returning e y ≡ true → Here ys zs) →
          step_w v ≡ walk_goes acting left family (Into f z zs) (walk_at range before_items end (callers_of waiting) m cells tr) → IsFine (goes_s (Into e y (ys ++ items_in c))) → Move 1 heavy (goes_s (Into e y (ys ++ items_in c))) v
      into-moved heavy e y f z ys zs v before_items way lt same_e same_y h walked =
          let j = joint range q ys c zs end in
          let pushed : S = at_rest (Part e y) e (rest_of program e) (j ∷ waiting) m tr in
          let start : W = walk_at range before_items end (callers_of waiting) m cells tr in
          let at_entry : W = at_tree (Part e y) (family.node (Part e y) (point (place_of e))) (j ∷ waiting) m cells tr in
          let entered : walk_goes acting left family (Into f z zs) start ≡ at_entry =
          ap (λ n. walk_goes acting left family (Into n z zs) start) (sym same_e) ∙ ap (λ n. walk_goes acting left family (Into e n zs) start) (sym same_y)
          ∙ ap (λ l. at_tree (Part e y) (family.node (Part e y) l) (j ∷ waiting) m cells tr) (lowered.entry (Part e y)) in
          let faulted : S = comes_to (alone acting) left program (Faulted (Reentry y)) st in
          elim (ends_at y (pending_of range waiting)) as (λ b. ends_at y (pending_of range waiting) ≡ b → IsFine (if b then faulted else pushed) → Move 1 heavy (if b then faulted else pushed) v) [
            | true ↦ λ is fine. absurd (fine (Reentry y) refl)
            | false ↦ λ is fine.
                let fresh = fresh-new acting told program place_of family first first_rest Named e y cells range waiting waits is in
                let called = names range q x rest m e y (ys ++ items_in c) (waits-named acting told program place_of family first first_rest Named cells range waiting waits) came way in
                move-after 0 heavy pushed v at_entry (walked ∙ entered) (met-now pushed at_entry
                (arrives-whole (Part e y) e (j ∷ waiting) m cells tr tr lt refl
                (h, ok, (λ back. over range q x rest m e y (ys ++ items_in c) came way back), fresh, called, waits) (come.enters e y)))
          ] refl

      abbrev Same : Way Memory → Way (Celled Memory) → Type 0
      Same a b = Alike cells (Behind acting told is_told (length program.paragraphs) range cells (tree_here range q c) end (items_in c)) (BehindWhere acting told is_told (length program.paragraphs) range cells (tree_here range q c) end (items_in c)) a b

      abbrev Added : Way Memory → Type 0
      Added a = Adds told (length program.paragraphs) (program_bulk program) (item_bulk x + weight rest) a

      follow : (heavy : ℕ) (a : Way Memory) (b : Way (Celled Memory)) (v : W) (before_items : List Item) → item_way (alone acting) x rest m ≡ a → Added a → Same a b →
          step_w v ≡ walk_goes acting left family b (walk_at range before_items end (callers_of waiting) m cells tr) → IsFine (goes_s a) → Move 1 heavy (goes_s a) v
      follow heavy (On s now a) (On t then_c zs) v before_items e adds h walked fine =
          subst (λ l. item_way (alone acting) x rest m ≡ On s now l → Move 1 heavy (goes_s (On s now l)) v) (sym h.2.1)
          (λ e. on-moved heavy s t now then_c h.2.0 zs v before_items e h.0 h.1 h.2.2 walked) e
      follow heavy (Halts s how now) (Halts t so then_c) v before_items e adds h walked fine = halts-moved heavy s t how so now then_c v before_items h.0 h.1 h.2 walked
      follow heavy (Into n y a) (Into f z zs) v before_items e adds h walked fine =
          subst (λ l. item_way (alone acting) x rest m ≡ Into n y l → IsFine (goes_s (Into n y l)) → Move 1 heavy (goes_s (Into n y l)) v) (sym h.2.1)
          (λ e fine. into-moved heavy n y f z h.2.0 zs v before_items e adds.2 h.0 h.1 h.2.2 walked fine) e fine
      follow heavy a b v before_items e adds h walked fine = absurd h

    -- an item of a statement without an escape
    pub item-move : (range : Range) (q : ℕ) (x : Item) (xs : List Item) (c : Rest) (zs : List Item) (end : End) (waiting : List Joint) (m : Memory) (cells : Range → ℕ → ℕ) (tr : Trace) (heavy : ℕ) →
        whole_item (cut_item told x) ≡ true → (item_completes told x ≡ true → Stands told (tree_here range q c) end xs zs) → Right cells range q c → Wait cells range waiting → Come range q (x ∷ (xs ++ items_in c)) →
        IsFine (step_s (at_rest range q (x ∷ (xs ++ items_in c)) waiting m tr)) → Move 1 heavy (step_s (at_rest range q (x ∷ (xs ++ items_in c)) waiting m tr)) (walk_at range (cut_item told x ∷ zs) end (callers_of waiting) m cells tr)
    item-move range q x xs c zs end waiting m cells tr heavy w h ok waits came fine =
        let rest = xs ++ items_in c in
        let fit = here-fits range q (x ∷ rest) came in
        let a = item_way (alone acting) x rest m in
        let b = item_way (celled acting range) (cut_item told x) zs (record { own = m; cells = cells }) in
        follow range q x rest c end waiting m cells tr ok waits came heavy a b (walk_at range (cut_item told x ∷ zs) end (callers_of waiting) m cells tr) (cut_item told x ∷ zs) refl
        (item-adds told (length program.paragraphs) (program_bulk program) (alone acting) x rest m fit.0 fit.1 fit.2)
        (item-alike acting told is_told (length program.paragraphs) range cells (tree_here range q c) end (items_in c) x xs zs m fit.0 w h)
        refl fine

    pushed : (k : Bool) (s : Stmt) (t : Tree) (range : Range) (waiting : List Joint) (m : Memory) (cells : Range → ℕ → ℕ) (tr : Trace) →
        at_tree range (if k then with_first s t else tree (also s none) Dead) waiting m cells tr ≡ walk_at range (Do s ∷ (if k then before (body_of t) [] else [])) (if k then end_of t else Dead) (callers_of waiting) m cells tr
    pushed true s t range waiting m cells tr = refl
    pushed false s t range waiting m cells tr = refl

    -- a statement without an escape at the head of a rest
    pub pushed-move : (range : Range) (q place : ℕ) (s : Stmt) (ss : Stmts) (c : Rest) (waiting : List Joint) (m : Memory) (cells : Range → ℕ → ℕ) (tr : Trace) (heavy : ℕ) →
        whole (cut told s) ≡ true → Right cells range q (From (place + size s) ss c) → Wait cells range waiting → Come range q (items_in (From place (also s ss) c)) →
        IsFine (step_s (at_rest range q (items_in (From place (also s ss) c)) waiting m tr)) →
        Move 1 heavy (step_s (at_rest range q (items_in (From place (also s ss) c)) waiting m tr)) (at_tree range (push told place_of s (tree_here range q (From (place + size s) ss c))) waiting m cells tr)
    pushed-move range q place s ss c waiting m cells tr heavy w ok waits came fine =
        let rest = From (place + size s) ss c in
        let t = tree_here range q rest in
        let k = completes told s in
        let zs = if k then before (body_of t) [] else [] in
        let end = if k then end_of t else Dead in
        subst (Move 1 heavy (step_s (at_rest range q (items_in (From place (also s ss) c)) waiting m tr))) (sym (pushed k (cut told s) t range waiting m cells tr))
        (item-move range q (Do s) [] rest zs end waiting m cells tr heavy w
        (λ is. (ap (λ b. if b then before (body_of t) [] else []) is, ap (λ b. if b then end_of t else Dead) is)) ok waits came fine)
