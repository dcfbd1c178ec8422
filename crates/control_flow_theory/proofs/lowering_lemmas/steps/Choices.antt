-- A choice that holds an escape is a Pick, with one tree for each arm.
use Rattle.std.proofs.Common.{◌≡◌, ℕ, zero, suc, ◌+◌, ◌<◌, Bool, true, false, List, [], ◌∷◌, ◌++◌, refl, ap, sym, subst, arith, append-nil, Option, Some, None}
use Rattle.std.specs.Prelude.{slice_get, length}
use Rattle.control_flow_theory.specs.semantics.Outcome.{Trace, Tried, Got}
use Rattle.control_flow_theory.specs.language.Language.{Chooser, Picker, By, Program, Choose, GoDepending, Arms, done, given, missing, Range}
use Rattle.control_flow_theory.specs.semantics.Doing.{Acting, alone, alone_pick, Celled}
use Rattle.control_flow_theory.specs.language.Items.{Item, Do, before_arm}
use Rattle.control_flow_theory.specs.semantics.Items.{Way, To, tried, on, to_one}
use Rattle.control_flow_theory.specs.semantics.Source.{SourceState}
use Rattle.control_flow_theory.specs.semantics.Graph.{Tree, End, Pick, Jump, Family}
use Rattle.control_flow_theory.specs.semantics.Walk.{Walk, picks, picked, tree_at}
use Rattle.control_flow_theory.specs.lowering.FlowFacts.{FlowFacts, IsTold, IsSource, MayGive, OwnPicker, AllBelow, arm_count}
use Rattle.control_flow_theory.specs.lowering.Completes.{sizes, first_is_dead}
use Rattle.control_flow_theory.specs.lowering.Lower.{end_alone, point, build_arms, depending, nodes, nodes_of_arms, EscapeTargets}
use Rattle.control_flow_theory.specs.lowering.Rests.{Rest, From, Cut, items_in, uncut, leaf_of, leaving_of, tree_of, Has}
use Rattle.control_flow_theory.specs.lowering.flow.Comes.{IsLowered}
use Rattle.control_flow_theory.proofs.lowering_lemmas.rests.Parts.{celled-picks}
use Rattle.control_flow_theory.proofs.lowering_lemmas.rests.Wholes.{pick-gives}
use Rattle.control_flow_theory.proofs.lowering_lemmas.rests.Fits.{FitsIn}
use Rattle.control_flow_theory.proofs.lowering_lemmas.rests.Joints.{Joint, callers_of, walk_at, Outside, CallsNamed}
use Rattle.control_flow_theory.proofs.lowering_lemmas.rests.Counters.{has-left, has-right, outside-more}
use Rattle.control_flow_theory.proofs.lowering_lemmas.steps.Moves.{Reach, Move, Meet, Come, Right, Wait, tree_here, end_here, step_s, at_tree, at_rest, met-now, reach-later, reach-more, arrives, arrives-whole}
use Rattle.control_flow_theory.proofs.lowering_lemmas.steps.Tries.{NoInto, goes_from, Leads, leads-step, try-move}

module _ {Memory Left : Type 0} (acting : Acting Memory) (left : Memory → Left) (told : FlowFacts) (program : Program) (place_of : ℕ → ℕ) (family : Family) (first : ℕ) (first_rest : List Item) (Named : ℕ → ℕ → Type 0) where
  abbrev Good : (Range → ℕ → ℕ) → Range → ℕ → Rest → Type 0
  Good cells range q c = Right acting left told program place_of family first first_rest Named cells range q c

  abbrev tree_of_rest : Range → ℕ → Rest → Tree
  tree_of_rest range q c = tree_here acting left told program place_of family first first_rest Named range q c

  abbrev ending : Range → ℕ → EscapeTargets
  ending range q = end_here acting left told program place_of family first first_rest Named range q

  -- the tree that is picked is that of the rest to which the source goes
  record Taken (range : Range) (q : ℕ) (cells : Range → ℕ → ℕ) (items : List Item) (found : Option Tree) : Type 0 where
    rest : Rest
    same : items ≡ items_in rest
    tree_is : found ≡ Some (tree_of_rest range q rest)
    good : Good cells range q rest

  taken-arm : (range : Range) (q : ℕ) (cells : Range → ℕ → ℕ) (c : Rest) (arms : Arms) (dead : Bool) (place k : ℕ) → MayGive (arm_count arms) dead k → Good cells range q c → Outside place c →
      Has told place_of (family.node range) (nodes_of_arms told place_of arms place (leaving_of told place_of (ending range q) c) (leaf_of told place_of (ending range q) c) (tree_of told place_of (ending range q) (uncut c))) →
      Taken range q cells (before_arm arms k (items_in c)) (tree_at (build_arms told place_of dead arms place (leaving_of told place_of (ending range q) c) (leaf_of told place_of (ending range q) c)) k)
  taken-arm range q cells c done dead place k may ok out h = absurd (let e = may.0 in omega (arith, e))
  taken-arm range q cells c (given arm others) dead place zero may ok out h =
      let leaving = leaving_of told place_of (ending range q) c in
      let after = leaf_of told place_of (ending range q) c in
      let behind = tree_of told place_of (ending range q) (uncut c) in
      record {
        rest = From place arm (Cut c);
        same = refl;
        tree_is = refl;
        good = ((has-left (family.node range) told place_of (nodes told place_of arm place leaving after behind) (nodes_of_arms told place_of others (place + sizes arm) leaving after behind) h, ok.0), ok.1, (out, ok.2));
      }
  taken-arm range q cells c (given arm others) dead place (suc k) may ok out h =
      let leaving = leaving_of told place_of (ending range q) c in
      let after = leaf_of told place_of (ending range q) c in
      let behind = tree_of told place_of (ending range q) (uncut c) in
      taken-arm range q cells c others false (place + sizes arm) k (let e = may.0 in omega (arith, e), λ f. cc) ok (outside-more place (place + sizes arm) c (omega arith) out)
      (has-right (family.node range) told place_of (nodes told place_of arm place leaving after behind) (nodes_of_arms told place_of others (place + sizes arm) leaving after behind) h)
  taken-arm range q cells c (missing others) true place zero may ok out h = absurd (may.1 refl refl)
  taken-arm range q cells c (missing others) false place zero may ok out h = record { rest = Cut c; same = refl; tree_is = refl; good = ok }
  taken-arm range q cells c (missing others) dead place (suc k) may ok out h = taken-arm range q cells c others false place k (let e = may.0 in omega (arith, e), λ f. cc) ok out h

  module _ (is_told : IsTold told acting) (source : IsSource told program) (lowered : IsLowered told program place_of family) (first_fits : FitsIn told program source first_rest) (names : CallsNamed acting told program place_of family first first_rest Named)
      (range : Range) (q : ℕ) (waiting : List Joint) (m : Memory) (cells : Range → ℕ → ℕ) (tr : Trace) (heavy : ℕ) where
    -- a choice with an escape
    pub pick-move : (picker : Picker) (arms : Arms) (place : ℕ) (c : Rest) → OwnPicker told picker (arm_count arms) → Good cells range q c → Outside place c →
        Has told place_of (family.node range) (nodes_of_arms told place_of arms place (leaving_of told place_of (ending range q) c) (leaf_of told place_of (ending range q) c) (tree_of told place_of (ending range q) (uncut c))) →
        Wait acting left told program place_of family first first_rest Named cells range waiting → Come acting left told program place_of family first first_rest Named range q (Do (Choose picker arms) ∷ items_in c) →
        Move acting left told program place_of family first first_rest Named 1 heavy (step_s acting left told program place_of family first first_rest Named (at_rest acting left told program place_of family first first_rest Named range q (Do (Choose picker arms) ∷ items_in c) waiting m tr))
        (at_tree acting left told program place_of family first first_rest Named range (end_alone (Pick picker (build_arms told place_of (first_is_dead told picker) arms place (leaving_of told place_of (ending range q) c) (leaf_of told place_of (ending range q) c)))) waiting m cells tr)
    pick-move picker arms place c own ok out h waits came =
        let x = Do (Choose picker arms) in
        let rest = items_in c in
        let trees = build_arms told place_of (first_is_dead told picker) arms place (leaving_of told place_of (ending range q) c) (leaf_of told place_of (ending range q) c) in
        let v : Walk Memory Left = at_tree acting left told program place_of family first first_rest Named range (end_alone (Pick picker trees)) waiting m cells tr in
        let f : ℕ → Memory → Way Memory = λ k. on (alone acting) (before_arm arms k rest) in
        let k : Tried (Celled Memory) ℕ → Walk Memory Left = λ b. picks acting left family trees b v in
        try-move acting left told program place_of family first first_rest Named range q x rest waiting m cells m (MayGive (arm_count arms) (first_is_dead told picker)) (alone_pick acting picker m) f k tr v 0 heavy
        (λ n now. tt) (leads-step acting left told program place_of family first first_rest Named range q x rest waiting m cells came (tried (alone_pick acting picker m) f) refl)
        (pick-gives acting told is_told 0 picker (arm_count arms) m own)
        (ap k (celled-picks acting range told picker (arm_count arms) (record { own = m; cells = cells }) own))
        (λ t kind now. refl)
        (λ t n now may leads.
        let taken = taken-arm range q cells c arms (first_is_dead told picker) place n may ok out h in
        let s : SourceState Memory Left = goes_from acting left told program place_of family first first_rest Named range q x rest waiting m cells (f n now) (tr ++ t) in
        let w : Walk Memory Left = k (Got t n (record { own = now; cells = cells })) in
        met-now acting left told program place_of family first first_rest Named s w
        (subst (λ o. Meet acting left told program place_of family first first_rest Named s (picked acting left family o (at_tree acting left told program place_of family first first_rest Named range (end_alone (Pick picker trees)) waiting now cells (tr ++ t)))) (sym taken.tree_is)
        (arrives acting left told program place_of family first first_rest Named range q taken.rest (before_arm arms n rest) waiting now cells (tr ++ t) ((tr ++ t) ++ []) taken.same (append-nil (tr ++ t)) taken.good waits (leads.0 [] now (before_arm arms n rest) refl))))

    one-no-into : (o : Option ℕ) (rest : List Item) (now : Memory) → NoInto (to_one (alone acting) o rest now)
    one-no-into None rest now = tt
    one-no-into (Some t) rest now = tt

    -- the named paragraph, or the missing arm
    depend : (to : List ℕ) (n : ℕ) (c : Rest) (x : Item) (rest : List Item) (now : Memory) (tr' : Trace) (end : End) → n < suc (length to) → AllBelow (length program.paragraphs) to → Good cells range q c → rest ≡ items_in c →
        Wait acting left told program place_of family first first_rest Named cells range waiting → Leads acting left told program place_of family first first_rest Named range q x rest waiting m cells (to_one (alone acting) (slice_get to n) rest now) →
        Reach acting left told program place_of family first first_rest Named 1 (goes_from acting left told program place_of family first first_rest Named range q x rest waiting m cells (to_one (alone acting) (slice_get to n) rest now) tr')
        (picked acting left family (tree_at (depending told place_of to (leaf_of told place_of (ending range q) c)) n) (walk_at range [] end (callers_of waiting) now cells tr'))
    depend [] zero c x rest now tr' end lt below ok same waits leads =
        let s : SourceState Memory Left = goes_from acting left told program place_of family first first_rest Named range q x rest waiting m cells (on (alone acting) rest now) tr' in
        let w : Walk Memory Left = at_tree acting left told program place_of family first first_rest Named range (tree_of_rest range q (Cut c)) waiting now cells tr' in
        reach-more acting left told program place_of family first first_rest Named 0 1 s w (omega arith) (met-now acting left told program place_of family first first_rest Named s w
        (arrives acting left told program place_of family first first_rest Named range q (Cut c) rest waiting now cells tr' (tr' ++ []) same (append-nil tr') ok waits (leads.0 [] now rest refl)))
    depend [] (suc n) c x rest now tr' end lt below ok same waits leads = absurd (omega (arith, lt))
    depend (t ∷ ts) zero c x rest now tr' end lt below ok same waits leads =
        let s : SourceState Memory Left = goes_from acting left told program place_of family first first_rest Named range q x rest waiting m cells (To [] now t) tr' in
        let v : Walk Memory Left = at_tree acting left told program place_of family first first_rest Named range (end_alone (Jump (point (place_of t)))) waiting now cells tr' in
        let w : Walk Memory Left = at_tree acting left told program place_of family first first_rest Named range (family.node range (point (place_of t))) waiting now cells tr' in
        reach-later acting left told program place_of family first first_rest Named 0 s v w refl (met-now acting left told program place_of family first first_rest Named s w
        (arrives-whole acting left told program place_of family first first_rest Named is_told source lowered first_fits names range t waiting now cells tr' (tr' ++ []) below.0 (append-nil tr') waits (leads.1 [] now t refl)))
    depend (t ∷ ts) (suc n) c x rest now tr' end lt below ok same waits leads = depend ts n c x rest now tr' end (omega (arith, lt)) below.1 ok same waits leads

    -- GO TO DEPENDING
    pub depending-move : (to : List ℕ) (chooser : Chooser) (c : Rest) → told.width chooser ≡ suc (length to) → AllBelow (length program.paragraphs) to → Good cells range q c →
        Wait acting left told program place_of family first first_rest Named cells range waiting → Come acting left told program place_of family first first_rest Named range q (Do (GoDepending to chooser) ∷ items_in c) →
        Move acting left told program place_of family first first_rest Named 2 heavy (step_s acting left told program place_of family first first_rest Named (at_rest acting left told program place_of family first first_rest Named range q (Do (GoDepending to chooser) ∷ items_in c) waiting m tr))
        (at_tree acting left told program place_of family first first_rest Named range (end_alone (Pick (By chooser) (depending told place_of to (leaf_of told place_of (ending range q) c)))) waiting m cells tr)
    depending-move to chooser c wide below ok waits came =
        let x = Do (GoDepending to chooser) in
        let rest = items_in c in
        let trees = depending told place_of to (leaf_of told place_of (ending range q) c) in
        let v : Walk Memory Left = at_tree acting left told program place_of family first first_rest Named range (end_alone (Pick (By chooser) trees)) waiting m cells tr in
        let f : ℕ → Memory → Way Memory = λ k. to_one (alone acting) (slice_get to k) rest in
        let k : Tried (Celled Memory) ℕ → Walk Memory Left = λ b. picks acting left family trees b v in
        let way = tried (acting.choose chooser m) f in
        try-move acting left told program place_of family first first_rest Named range q x rest waiting m cells m (MayGive (suc (length to)) (told.never_first chooser)) (acting.choose chooser m) f k tr v 1 heavy
        (λ n now. one-no-into (slice_get to n) rest now) (leads-step acting left told program place_of family first first_rest Named range q x rest waiting m cells came way refl)
        (pick-gives acting told is_told 0 (By chooser) (suc (length to)) m wide)
        refl
        (λ t kind now. refl)
        (λ t n now may leads. depend to n c x rest now (tr ++ t) (Pick (By chooser) trees) may.0 below ok refl waits leads)
