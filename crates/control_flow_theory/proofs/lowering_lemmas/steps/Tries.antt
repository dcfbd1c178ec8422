-- What both do where a part gives a value or ends the run: an act, a test, a choice.
use Rattle.std.proofs.Common.{◌≡◌, ℕ, suc, Bool, true, false, if◌then◌else◌, List, [], ◌∷◌, ◌++◌, refl, ap, sym, ◌∙◌, subst, arith, append-nil, append_assoc}
use Rattle.control_flow_theory.specs.runs.Run.{Over}
use Rattle.control_flow_theory.specs.semantics.Outcome.{Trace, How, Abend, Stopped, Tried, Got, Ends}
use Rattle.control_flow_theory.specs.language.Language.{Act, Test, Picker, If, By, Program, Stmt, Range}
use Rattle.control_flow_theory.specs.language.Language as language
use Rattle.control_flow_theory.specs.semantics.Doing.{Acting, alone, giving, keeping, arm_of, alone_act, alone_test, Celled, own_is, celled}
use Rattle.control_flow_theory.specs.language.Items.{Item, Do}
use Rattle.control_flow_theory.specs.semantics.Items.{Way, On, Halts, Into, To, ToEnd, way_after, tried, on, item_way}
use Rattle.control_flow_theory.specs.semantics.Source.{SourceState, rest_of, goes}
use Rattle.control_flow_theory.specs.semantics.Graph.{Tree, End, no_more, more, Family}
use Rattle.control_flow_theory.specs.semantics.Walk.{Walk, walk_goes, picks}
use Rattle.control_flow_theory.specs.language.Own.{OwnAct, OwnTest}
use Rattle.control_flow_theory.specs.lowering.FlowFacts.{FlowFacts}
use Rattle.control_flow_theory.specs.lowering.Lower.{by_test}
use Rattle.control_flow_theory.specs.lowering.flow.Comes.{goes_on, goes_to}
use Rattle.control_flow_theory.proofs.lowering_lemmas.rests.Parts.{celled-acts, celled-tests}
use Rattle.control_flow_theory.proofs.lowering_lemmas.rests.Wholes.{Gives}
use Rattle.control_flow_theory.proofs.lowering_lemmas.rests.Joints.{Joint, pending_of, callers_of, source_at, walk_at}
use Rattle.control_flow_theory.proofs.lowering_lemmas.steps.Moves.{Reach, Move, Come, step_w, at_tree, ended-now, move-after, move-more}

pub any : {Memory Value : Type 0} (a : Tried Memory Value) → Gives (λ v. Unit {0}) a
any (Got trace value now) = tt
any (Ends trace kind now) = tt

-- it performs nothing
abbrev pub NoInto : {Memory : Type 0} → Way Memory → Type 0
NoInto (On trace memory items) = Unit {0}
NoInto (Halts trace how memory) = Unit {0}
NoInto (Into entry exit items) = ⊥
NoInto (To trace memory to) = Unit {0}
NoInto (ToEnd trace memory to) = Unit {0}

after-no-into : {Memory : Type 0} (trace : Trace) (way : Way Memory) → NoInto way → NoInto (way_after trace way)
after-no-into trace (On t memory items) h = tt
after-no-into trace (Halts t how memory) h = tt
after-no-into trace (Into entry exit items) h = h
after-no-into trace (To t memory to) h = tt
after-no-into trace (ToEnd t memory to) h = tt

pub tried-no-into : {Memory Value : Type 0} (a : Tried Memory Value) (f : Value → Memory → Way Memory) → ((value : Value) (now : Memory) → NoInto (f value now)) → NoInto (tried a f)
tried-no-into (Got trace value now) f h = after-no-into trace (f value now) (h value now)
tried-no-into (Ends trace kind now) f h = tt

module _ {Memory Left : Type 0} (acting : Acting Memory) (left : Memory → Left) (told : FlowFacts) (program : Program) (place_of : ℕ → ℕ) (family : Family) (first : ℕ) (first_rest : List Item) (Named : ℕ → ℕ → Type 0)
    (range : Range) (q : ℕ) (x : Item) (rest : List Item) (waiting : List Joint) (m : Memory) (cells : Range → ℕ → ℕ) where
  abbrev State : Type 0
  State = SourceState Memory Left

  abbrev Walking : Type 0
  Walking = Walk Memory Left

  abbrev Reaching : ℕ → State → Walking → Type 0
  Reaching most s w = Reach acting left told program place_of family first first_rest Named most s w

  abbrev Moving : ℕ → ℕ → State → Walking → Type 0
  Moving most heavy s w = Move acting left told program place_of family first first_rest Named most heavy s w

  abbrev stepped : Walking → Walking
  stepped w = step_w acting left told program place_of family first first_rest Named w

  -- the source before the step, whatever it showed
  abbrev pub start : Trace → State
  start tr = source_at q (x ∷ rest) (pending_of range waiting) m tr

  abbrev pub goes_from : Way Memory → Trace → State
  goes_from way tr = goes (alone acting) left program way (start tr)

  -- control comes to what the way goes on with
  abbrev pub Leads : Way Memory → Type 0
  Leads way =
      ((t : Trace) (now : Memory) (items : List Item) → way ≡ On t now items → Come acting left told program place_of family first first_rest Named range q items)
      × ((t : Trace) (now : Memory) (to : ℕ) → way ≡ To t now to → Come acting left told program place_of family first first_rest Named range to (rest_of program to))

  pub leads-step : Come acting left told program place_of family first first_rest Named range q (x ∷ rest) → (way : Way Memory) → item_way (alone acting) x rest m ≡ way → Leads way
  leads-step came way is = ((λ t now items e. goes_on range q x rest m t now items came (is ∙ e)), (λ t now to e. goes_to range q x rest m t now to came (is ∙ e)))

  leads-after : (t : Trace) (way : Way Memory) → Leads (way_after t way) → Leads way
  leads-after t way h = ((λ s now items e. h.0 (t ++ s) now items (ap (way_after t) e)), (λ s now to e. h.1 (t ++ s) now to (ap (way_after t) e)))

  abbrev over_at : How → Memory → Trace → State
  over_at how now tr = record { paragraph = q; rest = x ∷ rest; pending = pending_of range waiting; memory = now; run = record { trace = tr; standing = Over (Stopped how (left now)) } }

  goes-after : (tr t : Trace) (way : Way Memory) → NoInto way → goes_from (way_after t way) tr ≡ goes_from way (tr ++ t)
  goes-after tr t (On s now items) h = ap (λ u. source_at q items (pending_of range waiting) now u) (sym (append_assoc tr t s))
  goes-after tr t (Halts s how now) h = ap (λ u. over_at how now u) (sym (append_assoc tr t s))
  goes-after tr t (Into entry exit items) h = absurd h
  goes-after tr t (To s now to) h = ap (λ u. source_at to (rest_of program to) (pending_of range waiting) now u) (sym (append_assoc tr t s))
  goes-after tr t (ToEnd s now to) h = ap (λ u. source_at to [] (pending_of range waiting) now u) (sym (append_assoc tr t s))

  -- a part that gives a value, with which the source goes on, and so does the walk
  pub try-move : {Value : Type 0} (m1 : Memory) (P : Value → Type 0) (a : Tried Memory Value) (f : Value → Memory → Way Memory) (k : Tried (Celled Memory) Value → Walking) (tr : Trace) (v : Walking) (most heavy : ℕ) →
      ((value : Value) (now : Memory) → NoInto (f value now)) → Leads (tried a f) → Gives P a → stepped v ≡ k (keeping (own_is (record { own = m1; cells = cells })) a) →
      ((t : Trace) (kind : ℕ) (now : Memory) → (k (Ends t kind (record { own = now; cells = cells }))).run ≡ record { trace = tr ++ t; standing = Over (Stopped (Abend kind) (left now)) }) →
      ((t : Trace) (value : Value) (now : Memory) → P value → Leads (f value now) → Reaching most (goes_from (f value now) (tr ++ t)) (k (Got t value (record { own = now; cells = cells })))) →
      Moving (suc most) heavy (goes_from (tried a f) tr) v
  try-move m1 P (Got t value now) f k tr v most heavy plain leads gives walked ends go =
      let s = goes_from (way_after t (f value now)) tr in
      let w = k (Got t value (record { own = now; cells = cells })) in
      move-after acting left told program place_of family first first_rest Named most heavy s v w walked
      (subst (λ u. Reaching most u w) (sym (goes-after tr t (f value now) (plain value now))) (go t value now gives (leads-after t (f value now) leads)))
  try-move m1 P (Ends t kind now) f k tr v most heavy plain leads gives walked ends go =
      let s = goes_from (Halts t (Abend kind) now) tr in
      let w = k (Ends t kind (record { own = now; cells = cells })) in
      move-more acting left told program place_of family first first_rest Named 1 (suc most) heavy s v (omega arith)
      (move-after acting left told program place_of family first first_rest Named 0 heavy s v w walked (ended-now acting left told program place_of family first first_rest Named s w (sym (ends t kind now), λ e. cc)))

  pub reach-of : (most heavy : ℕ) (s : State) (w : Walking) → Moving most heavy s w → Reaching most s w
  reach-of most heavy s w r = record { steps = r.steps; few = r.few; together = r.together }

  -- an act of the source in the body of a tree
  pub act-move : (m1 : Memory) (act : Act) (f : Memory → Way Memory) (zs : List Item) (end : End) (tr : Trace) (most heavy : ℕ) → OwnAct act → ((now : Memory) → NoInto (f now)) → Leads (tried (alone_act acting act m1) (λ u. f)) →
      ((t : Trace) (now : Memory) → Leads (f now) → Reaching most (goes_from (f now) (tr ++ t)) (walk_at range zs end (callers_of waiting) now cells (tr ++ t))) →
      Moving (suc most) heavy (goes_from (tried (alone_act acting act m1) (λ u. f)) tr) (walk_at range (Do (language.Do act) ∷ zs) end (callers_of waiting) m1 cells tr)
  act-move m1 act f zs end tr most heavy own plain leads go =
      let v : Walking = walk_at range (Do (language.Do act) ∷ zs) end (callers_of waiting) m1 cells tr in
      let k : Tried (Celled Memory) (Unit {0}) → Walking = λ b. walk_goes acting left family (tried b (λ u. on (celled acting range) zs)) v in
      try-move m1 (λ u. Unit {0}) (alone_act acting act m1) (λ u. f) k tr v most heavy (λ u now. plain now) leads (any (alone_act acting act m1))
      (ap k (celled-acts acting range act (record { own = m1; cells = cells }) own))
      (λ t kind now. refl)
      (λ t u now p h. subst (λ z. Reaching most (goes_from (f now) (tr ++ t)) (walk_at range zs end (callers_of waiting) now cells (tr ++ z))) (sym (append-nil t)) (go t now h))

  -- a test of the source in a choice
  pub test-move : (m1 : Memory) (test : Test) (holds fails : Tree) (f : Bool → Memory → Way Memory) (tr : Trace) (most heavy : ℕ) → OwnTest test → ((ended : Bool) (now : Memory) → NoInto (f ended now)) → Leads (tried (alone_test acting test m1) f) →
      ((t : Trace) (ended : Bool) (now : Memory) → Leads (f ended now) → Reaching most (goes_from (f ended now) (tr ++ t)) (at_tree acting left told program place_of family first first_rest Named range (if ended then holds else fails) waiting now cells (tr ++ t))) →
      Moving (suc most) heavy (goes_from (tried (alone_test acting test m1) f) tr) (at_tree acting left told program place_of family first first_rest Named range (by_test test holds fails) waiting m1 cells tr)
  test-move m1 test holds fails f tr most heavy own plain leads go =
      let v : Walking = at_tree acting left told program place_of family first first_rest Named range (by_test test holds fails) waiting m1 cells tr in
      let k : Tried (Celled Memory) Bool → Walking = λ b. picks acting left family (more holds (more fails no_more)) (giving arm_of b) v in
      try-move m1 (λ u. Unit {0}) (alone_test acting test m1) f k tr v most heavy plain leads (any (alone_test acting test m1))
      (ap k (celled-tests acting range test (record { own = m1; cells = cells }) own))
      (λ t kind now. refl)
      (λ t ended now p h. (elim ended as (λ b. Reaching most (goes_from (f b now) (tr ++ t)) (at_tree acting left told program place_of family first first_rest Named range (if b then holds else fails) waiting now cells (tr ++ t)) →
      Reaching most (goes_from (f b now) (tr ++ t)) (k (Got t b (record { own = now; cells = cells })))) [ true ↦ λ r. r | false ↦ λ r. r ]) (go t ended now h))
