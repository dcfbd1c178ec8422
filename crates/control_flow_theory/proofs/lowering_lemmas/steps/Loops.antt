-- A loop that holds an escape: its begin, and its turns.
use Rattle.std.proofs.Common.{◌≡◌, ℕ, zero, suc, ◌+◌, ◌-◌, Bool, true, false, if◌then◌else◌, List, [], ◌∷◌, ◌++◌, refl, ap, sym, ◌∙◌, arith, append-nil, append_assoc}
use Rattle.control_flow_theory.specs.semantics.Outcome.{Trace, Tried, Got, Ends}
use Rattle.control_flow_theory.specs.language.Language.{Act, Take, Lower, Test, Above, If, Control, Times, Until, Varying, Program, Stmt, Loop, Stmts, none, also, Nested, Range}
use Rattle.control_flow_theory.specs.language.Language as language
use Rattle.control_flow_theory.specs.semantics.Doing.{Acting, alone, keeping, arm_of, is_above, alone_act, alone_test, Celled, own_is, put, taken, celled}
use Rattle.control_flow_theory.specs.language.Items.{Turning, Counted, Tests, Steps, StepsAfter, Item, Do, Turn, before, before_body}
use Rattle.control_flow_theory.specs.semantics.Items.{Way, tried, on, turns, steps_on}
use Rattle.control_flow_theory.specs.semantics.Source.{SourceState}
use Rattle.control_flow_theory.specs.semantics.Graph.{Tree, tree, End, Pick, Jump, no_more, more, Family}
use Rattle.control_flow_theory.specs.semantics.Walk.{Walk, walk_goes, picks}
use Rattle.control_flow_theory.specs.language.Own.{OwnAct, OwnControl}
use Rattle.control_flow_theory.specs.lowering.FlowFacts.{FlowFacts}
use Rattle.control_flow_theory.specs.lowering.Lower.{EscapeTargets, within_loop, end_alone, loop_head_label, loop_step_label, loop_back_label, loop_start, by_test, with_first, build, loop_nodes, nodes, nodes_in}
use Rattle.control_flow_theory.specs.lowering.Rests.{Rest, From, Turns, Cut, turning_of, items_in, to_turn, leaf_of, leaving_of, tree_of, Has, HasRest}
use Rattle.control_flow_theory.proofs.lowering_lemmas.rests.Joints.{Joint, pending_of, source_at, heft, CellHolds, CellsHold, Outside, Apart}
use Rattle.control_flow_theory.proofs.lowering_lemmas.rests.Wholes.{OwnTurning}
use Rattle.control_flow_theory.proofs.lowering_lemmas.rests.Counters.{has-left, has-right, outside-more, put_cells, put-here, holds-apart, waits-put, waits-fresh}
use Rattle.control_flow_theory.proofs.lowering_lemmas.steps.Moves.{Reach, Move, Meet, Come, Right, Wait, end_here, step_s, at_tree, met-now, move-after, move-now, move-more, move-later, reach-later, reach-more, arrives}
use Rattle.control_flow_theory.proofs.lowering_lemmas.steps.Tries.{NoInto, tried-no-into, goes_from, Leads, leads-step, try-move, reach-of, act-move, test-move, any}

-- what TIMES takes is in its cell
abbrev take_in : {Memory : Type 0} → Range → ℕ → Tried (Celled Memory) ℕ → Tried (Celled Memory) (Unit {0})
take_in range cell (Got trace value c) = Got trace tt (put range cell value c)
take_in range cell (Ends trace kind c) = Ends trace kind c

take-same : {Memory : Type 0} (range : Range) (cell : ℕ) (c : Celled Memory) (a : Tried Memory ℕ) → taken range cell c a ≡ take_in range cell (keeping (own_is c) a)
take-same range cell c (Got trace value now) = refl
take-same range cell c (Ends trace kind now) = refl

module _ {Memory Left : Type 0} (acting : Acting Memory) (left : Memory → Left) (told : FlowFacts) (program : Program) (place_of : ℕ → ℕ) (family : Family) (first : ℕ) (first_rest : List Item) (Named : ℕ → ℕ → Type 0)
    (range : Range) (q place : ℕ) (body : Stmts) (c : Rest) (waiting : List Joint) (m : Memory) (cells : Range → ℕ → ℕ) (tr : Trace) where
  abbrev State : Type 0
  State = SourceState Memory Left

  abbrev Walking : Type 0
  Walking = Walk Memory Left

  abbrev Reaching : ℕ → State → Walking → Type 0
  Reaching most s w = Reach acting left told program place_of family first first_rest Named most s w

  abbrev Moving : ℕ → ℕ → State → Walking → Type 0
  Moving most heavy s w = Move acting left told program place_of family first first_rest Named most heavy s w

  abbrev Meeting : State → Walking → Type 0
  Meeting s w = Meet acting left told program place_of family first first_rest Named s w

  abbrev stepped : State → State
  stepped s = step_s acting left told program place_of family first first_rest Named s

  abbrev rest_state : List Item → Memory → Trace → State
  rest_state items now t = source_at q items (pending_of range waiting) now t

  abbrev tree_walk : Tree → Memory → (Range → ℕ → ℕ) → Trace → Walking
  tree_walk t now cs u = at_tree acting left told program place_of family first first_rest Named range t waiting now cs u

  abbrev Good : (Range → ℕ → ℕ) → Rest → Type 0
  Good cs r = Right acting left told program place_of family first first_rest Named cs range q r

  abbrev Coming : List Item → Type 0
  Coming items = Come acting left told program place_of family first first_rest Named range q items

  abbrev ending : EscapeTargets
  ending = end_here acting left told program place_of family first first_rest Named range q

  abbrev after : End
  after = leaf_of told place_of ending c

  abbrev leaving : EscapeTargets
  leaving = leaving_of told place_of ending c

  -- where what leaves the body goes on
  abbrev from_body : Control → EscapeTargets
  from_body control = within_loop leaving after (Jump (loop_back_label control place))

  -- the remainder, and a turn before it
  abbrev remainder : Control → ℕ → Bool → Rest
  remainder control n reached = Turns place control n reached body c

  abbrev inner : Control → ℕ → Rest
  inner control n = From (place + 1) body (remainder control n true)

  abbrev inner_tree : Control → ℕ → Tree
  inner_tree control n = tree_of told place_of ending (inner control n)

  -- the graph has the loop's nodes
  abbrev pub HasLoop : Control → Type 0
  HasLoop control = Has told place_of (family.node range) (nodes_in told place_of (Loop control (Nested body)) place leaving after (end_alone after))

  abbrev body_built : Control → Tree
  body_built control = build told place_of body (place + 1) (from_body control) (Jump (loop_back_label control place)) (end_alone (Jump (loop_back_label control place)))

  abbrev own_nodes : Control → Type 0
  own_nodes control = Has told place_of (family.node range) (loop_nodes control place (body_built control) after)

  first-nodes : (control : Control) → HasLoop control → own_nodes control
  first-nodes control h = has-left (family.node range) told place_of (loop_nodes control place (body_built control) after) (nodes told place_of body (place + 1) (from_body control) (Jump (loop_back_label control place)) (end_alone (Jump (loop_back_label control place)))) h

  body-nodes : (control : Control) → HasLoop control → Has told place_of (family.node range) (nodes told place_of body (place + 1) (from_body control) (Jump (loop_back_label control place)) (end_alone (Jump (loop_back_label control place))))
  body-nodes control h = has-right (family.node range) told place_of (loop_nodes control place (body_built control) after) (nodes told place_of body (place + 1) (from_body control) (Jump (loop_back_label control place)) (end_alone (Jump (loop_back_label control place)))) h

  module _ (good : HasRest told place_of (family.node range) ending c) (apart : Apart c) (out : Outside place c) where
    remainder-good : (control : Control) (n : ℕ) (reached : Bool) (cs : Range → ℕ → ℕ) → HasLoop control → CellHolds (cs range) place control n → CellsHold (cs range) c → Good cs (remainder control n reached)
    remainder-good control n reached cs h held hold = ((h, good), (held, hold), (out, apart))

    inner-good : (control : Control) (n : ℕ) (cs : Range → ℕ → ℕ) → HasLoop control → Has told place_of (family.node range) (nodes told place_of body (place + 1) (within_loop leaving after (Jump (to_turn control true place))) (Jump (to_turn control true place)) (end_alone (Jump (to_turn control true place)))) → CellHolds (cs range) place control n → CellsHold (cs range) c → Good cs (inner control n)
    inner-good control n cs h k held hold = ((k, (h, good)), (held, hold), ((omega arith, outside-more place (place + 1) c (omega arith) out), (out, apart)))

    module _ (waits : Wait acting left told program place_of family first first_rest Named cells range waiting) (hold : CellsHold (cells range) c) where
      -- behind the loop
      out-met : (now : Memory) (u v : Trace) → v ≡ u → Coming (items_in c) → Meeting (rest_state (items_in c) now v) (tree_walk (end_alone after) now cells u)
      out-met now u v e came = arrives acting left told program place_of family first first_rest Named range q (Cut c) (items_in c) waiting now cells u v refl e (good, hold, apart) waits came

      -- at the body
      in-met : (control : Control) (n : ℕ) (now : Memory) (u v : Trace) → v ≡ u → HasLoop control → Has told place_of (family.node range) (nodes told place_of body (place + 1) (within_loop leaving after (Jump (to_turn control true place))) (Jump (to_turn control true place)) (end_alone (Jump (to_turn control true place)))) → CellHolds (cells range) place control n →
          Coming (before body (Turn (turning_of control n true) (Nested body) ∷ items_in c)) → Meeting (rest_state (before body (Turn (turning_of control n true) (Nested body) ∷ items_in c)) now v) (tree_walk (inner_tree control n) now cells u)
      in-met control n now u v e h k held came =
          arrives acting left told program place_of family first first_rest Named range q (inner control n) (before body (Turn (turning_of control n true) (Nested body) ∷ items_in c)) waiting now cells u v refl e (inner-good control n cells h k held hold) waits came

      -- the loop begins
      pub begin-move : (control : Control) → OwnControl control → HasLoop control → Coming (Do (Loop control (Nested body)) ∷ items_in c) →
          Moving 2 (heft (rest_state (Do (Loop control (Nested body)) ∷ items_in c) m tr)) (stepped (rest_state (Do (Loop control (Nested body)) ∷ items_in c) m tr)) (tree_walk (loop_start control place) m cells tr)
      begin-move (Times amount) own h came =
          let x = Do (Loop (Times amount) (Nested body)) in
          let rest = items_in c in
          let heavy = heft (rest_state (x ∷ rest) m tr) in
          let v = tree_walk (loop_start (Times amount) place) m cells tr in
          let f : ℕ → Memory → Way Memory = λ n. on (alone acting) (Turn (Counted n) (Nested body) ∷ rest) in
          let k : Tried (Celled Memory) ℕ → Walking = λ b. walk_goes acting left family (tried (take_in range place b) (λ u. on (celled acting range) [])) v in
          move-more acting left told program place_of family first first_rest Named 1 2 heavy (stepped (rest_state (x ∷ rest) m tr)) v (omega arith)
          (try-move acting left told program place_of family first first_rest Named range q x rest waiting m cells m (λ u. Unit {0}) (acting.count amount m) f k tr v 0 heavy
          (λ n now. tt) (leads-step acting left told program place_of family first first_rest Named range q x rest waiting m cells came (tried (acting.count amount m) f) refl)
          (any (acting.count amount m))
          (ap (λ b. walk_goes acting left family (tried b (λ u. on (celled acting range) [])) v) (take-same range place (record { own = m; cells = cells }) (acting.count amount m)))
          (λ t kind now. refl)
          (λ t n now p leads.
          let cs = put_cells range place n cells in
          met-now acting left told program place_of family first first_rest Named (rest_state (Turn (Counted n) (Nested body) ∷ rest) now ((tr ++ t) ++ [])) (tree_walk (end_alone (Jump (loop_head_label place))) now cs (tr ++ (t ++ [])))
          (arrives acting left told program place_of family first first_rest Named range q (remainder (Times amount) n true) (Turn (Counted n) (Nested body) ∷ rest) waiting now cs (tr ++ (t ++ [])) ((tr ++ t) ++ []) refl (append_assoc tr t [])
          (remainder-good (Times amount) n true cs h (put-here range place n cells) (holds-apart range place n cells c out hold))
          (waits-put acting told program place_of family first first_rest Named range place n cells range waiting (waits-fresh acting told program place_of family first first_rest Named cells range waiting waits) waits)
          (leads.0 [] now (Turn (Counted n) (Nested body) ∷ rest) refl))))
      begin-move (Until false test) own h came =
          let s = stepped (rest_state (Do (Loop (Until false test) (Nested body)) ∷ items_in c) m tr) in
          let heavy = heft (rest_state (Do (Loop (Until false test) (Nested body)) ∷ items_in c) m tr) in
          let items = Turn (Tests test) (Nested body) ∷ items_in c in
          let leads = leads-step acting left told program place_of family first first_rest Named range q (Do (Loop (Until false test) (Nested body))) (items_in c) waiting m cells came (on (alone acting) items m) refl in
          move-more acting left told program place_of family first first_rest Named 0 2 heavy s (tree_walk (end_alone (Jump (loop_head_label place))) m cells tr) (omega arith)
          (move-now acting left told program place_of family first first_rest Named heavy s (tree_walk (end_alone (Jump (loop_head_label place))) m cells tr)
          (arrives acting left told program place_of family first first_rest Named range q (remainder (Until false test) 0 true) items waiting m cells tr (tr ++ []) refl (append-nil tr) (remainder-good (Until false test) 0 true cells h tt hold) waits (leads.0 [] m items refl))
          (omega arith))
      begin-move (Until true test) own h came =
          let s = stepped (rest_state (Do (Loop (Until true test) (Nested body)) ∷ items_in c) m tr) in
          let heavy = heft (rest_state (Do (Loop (Until true test) (Nested body)) ∷ items_in c) m tr) in
          let items = before body (Turn (Tests test) (Nested body) ∷ items_in c) in
          let leads = leads-step acting left told program place_of family first first_rest Named range q (Do (Loop (Until true test) (Nested body))) (items_in c) waiting m cells came (on (alone acting) items m) refl in
          let v = tree_walk (end_alone (Jump (loop_head_label place))) m cells tr in
          let w = tree_walk (inner_tree (Until true test) 0) m cells tr in
          let own_n = first-nodes (Until true test) h in
          move-more acting left told program place_of family first first_rest Named 1 2 heavy s v (omega arith)
          (move-after acting left told program place_of family first first_rest Named 0 heavy s v w (ap (λ t. tree_walk t m cells tr) own_n.0) (met-now acting left told program place_of family first first_rest Named s w
          (in-met (Until true test) 0 m tr (tr ++ []) (append-nil tr) h (body-nodes (Until true test) h) tt (leads.0 [] m items refl))))
      begin-move (Varying false set step test) own h came =
          let x = Do (Loop (Varying false set step test) (Nested body)) in
          let rest = items_in c in
          let heavy = heft (rest_state (x ∷ rest) m tr) in
          let items = Turn (Steps false step test) (Nested body) ∷ rest in
          let v = tree_walk (loop_start (Varying false set step test) place) m cells tr in
          let f : Memory → Way Memory = on (alone acting) items in
          move-more acting left told program place_of family first first_rest Named 1 2 heavy (stepped (rest_state (x ∷ rest) m tr)) v (omega arith)
          (act-move acting left told program place_of family first first_rest Named range q x rest waiting m cells m set f [] (Jump (loop_head_label place)) tr 0 heavy own.0 (λ now. tt)
          (leads-step acting left told program place_of family first first_rest Named range q x rest waiting m cells came (tried (alone_act acting set m) (λ u. f)) refl)
          (λ t now leads. met-now acting left told program place_of family first first_rest Named (rest_state items now ((tr ++ t) ++ [])) (tree_walk (end_alone (Jump (loop_head_label place))) now cells (tr ++ t))
          (arrives acting left told program place_of family first first_rest Named range q (remainder (Varying false set step test) 0 false) items waiting now cells (tr ++ t) ((tr ++ t) ++ []) refl (append-nil (tr ++ t)) (remainder-good (Varying false set step test) 0 false cells h tt hold) waits (leads.0 [] now items refl))))
      begin-move (Varying true set step test) own h came =
          let x = Do (Loop (Varying true set step test) (Nested body)) in
          let rest = items_in c in
          let heavy = heft (rest_state (x ∷ rest) m tr) in
          let items = before body (Turn (StepsAfter step test) (Nested body) ∷ rest) in
          let own_n = first-nodes (Varying true set step test) h in
          let f : Memory → Way Memory = on (alone acting) items in
          act-move acting left told program place_of family first first_rest Named range q x rest waiting m cells m set f [] (Jump (loop_head_label place)) tr 1 heavy own.0 (λ now. tt)
          (leads-step acting left told program place_of family first first_rest Named range q x rest waiting m cells came (tried (alone_act acting set m) (λ u. f)) refl)
          (λ t now leads.
          let s = rest_state items now ((tr ++ t) ++ []) in
          let w = tree_walk (inner_tree (Varying true set step test) 0) now cells (tr ++ t) in
          reach-later acting left told program place_of family first first_rest Named 0 s (tree_walk (end_alone (Jump (loop_head_label place))) now cells (tr ++ t)) w (ap (λ z. tree_walk z now cells (tr ++ t)) own_n.0) (met-now acting left told program place_of family first first_rest Named s w
          (in-met (Varying true set step test) 0 now (tr ++ t) ((tr ++ t) ++ []) (append-nil (tr ++ t)) h (body-nodes (Varying true set step test) h) tt (leads.0 [] now items refl))))

      -- one turn, or none
      round-no-into : (ended : Bool) (turning : Turning) (items : List Item) (now : Memory) → NoInto (on (alone acting) (turns (alone acting) ended turning (Nested body) items) now)
      round-no-into ended turning items now = tt

      step-no-into : (ended : Bool) (step : Act) (test : Test) (items : List Item) (now : Memory) → NoInto (steps_on (alone acting) ended step test (Nested body) items now)
      step-no-into true step test items now = tt
      step-no-into false step test items now = tried-no-into (alone_act acting step now) (λ u. on (alone acting) (before_body (Nested body) (Turn (StepsAfter step test) (Nested body) ∷ items))) (λ u after. tt)

      abbrev leads_to : Item → Way Memory → Type 0
      leads_to x way = Leads acting left told program place_of family first first_rest Named range q x (items_in c) waiting m cells way

      -- behind a test: the loop ends, or its body begins
      round-reach : (x : Item) (control : Control) (n : ℕ) (ended : Bool) (now : Memory) (u : Trace) → HasLoop control → Has told place_of (family.node range) (nodes told place_of body (place + 1) (within_loop leaving after (Jump (to_turn control true place))) (Jump (to_turn control true place)) (end_alone (Jump (to_turn control true place)))) → CellHolds (cells range) place control n →
          leads_to x (on (alone acting) (turns (alone acting) ended (turning_of control n true) (Nested body) (items_in c)) now) →
          Reaching 0 (rest_state (turns (alone acting) ended (turning_of control n true) (Nested body) (items_in c)) now (u ++ [])) (tree_walk (if ended then end_alone after else inner_tree control n) now cells u)
      round-reach x control n true now u h k held leads =
          met-now acting left told program place_of family first first_rest Named (rest_state (items_in c) now (u ++ [])) (tree_walk (end_alone after) now cells u) (out-met now u (u ++ []) (append-nil u) (leads.0 [] now (items_in c) refl))
      round-reach x control n false now u h k held leads =
          let items = before body (Turn (turning_of control n true) (Nested body) ∷ items_in c) in
          met-now acting left told program place_of family first first_rest Named (rest_state items now (u ++ [])) (tree_walk (inner_tree control n) now cells u) (in-met control n now u (u ++ []) (append-nil u) h k held (leads.0 [] now items refl))

      -- behind a test behind the body: the loop ends, or its head is jumped to
      again-reach : (x : Item) (control : Control) (n : ℕ) (ended : Bool) (now : Memory) (u : Trace) → HasLoop control → Has told place_of (family.node range) (nodes told place_of body (place + 1) (within_loop leaving after (Jump (to_turn control true place))) (Jump (to_turn control true place)) (end_alone (Jump (to_turn control true place)))) → CellHolds (cells range) place control n →
          family.node range (loop_head_label place) ≡ inner_tree control n → leads_to x (on (alone acting) (turns (alone acting) ended (turning_of control n true) (Nested body) (items_in c)) now) →
          Reaching 1 (rest_state (turns (alone acting) ended (turning_of control n true) (Nested body) (items_in c)) now (u ++ [])) (tree_walk (if ended then end_alone after else end_alone (Jump (loop_head_label place))) now cells u)
      again-reach x control n true now u h k held is leads =
          reach-more acting left told program place_of family first first_rest Named 0 1 (rest_state (items_in c) now (u ++ [])) (tree_walk (end_alone after) now cells u) (omega arith) (round-reach x control n true now u h k held leads)
      again-reach x control n false now u h k held is leads =
          let items = before body (Turn (turning_of control n true) (Nested body) ∷ items_in c) in
          reach-later acting left told program place_of family first first_rest Named 0 (rest_state items now (u ++ [])) (tree_walk (end_alone (Jump (loop_head_label place))) now cells u) (tree_walk (inner_tree control n) now cells u) (ap (λ z. tree_walk z now cells u) is) (round-reach x control n false now u h k held leads)

      -- the same, with the augmenting ADD before the head
      stepping-reach : (x : Item) (set step : Act) (test : Test) (n : ℕ) (ended : Bool) (now : Memory) (u : Trace) → OwnAct step → HasLoop (Varying true set step test) → family.node range (loop_head_label place) ≡ inner_tree (Varying true set step test) n → (heavy : ℕ) →
          leads_to x (steps_on (alone acting) ended step test (Nested body) (items_in c) now) →
          Reaching 2 (goes_from acting left told program place_of family first first_rest Named range q x (items_in c) waiting m cells (steps_on (alone acting) ended step test (Nested body) (items_in c) now) u)
          (tree_walk (if ended then end_alone after else tree (also (language.Do step) none) (Jump (loop_head_label place))) now cells u)
      stepping-reach x set step test n true now u own h is heavy leads =
          reach-more acting left told program place_of family first first_rest Named 0 2 (rest_state (items_in c) now (u ++ [])) (tree_walk (end_alone after) now cells u) (omega arith)
          (met-now acting left told program place_of family first first_rest Named (rest_state (items_in c) now (u ++ [])) (tree_walk (end_alone after) now cells u) (out-met now u (u ++ []) (append-nil u) (leads.0 [] now (items_in c) refl)))
      stepping-reach x set step test n false now u own h is heavy leads =
          let control = Varying true set step test in
          let items = before body (Turn (StepsAfter step test) (Nested body) ∷ items_in c) in
          let f : Memory → Way Memory = on (alone acting) items in
          let s = goes_from acting left told program place_of family first first_rest Named range q x (items_in c) waiting m cells (tried (alone_act acting step now) (λ u. f)) u in
          let v = tree_walk (tree (also (language.Do step) none) (Jump (loop_head_label place))) now cells u in
          reach-of acting left told program place_of family first first_rest Named range q x (items_in c) waiting m cells 2 heavy s v
          (act-move acting left told program place_of family first first_rest Named range q x (items_in c) waiting m cells now step f [] (Jump (loop_head_label place)) u 1 heavy own (λ later. tt) leads
          (λ t later leads.
          let s1 = rest_state items later ((u ++ t) ++ []) in
          let w = tree_walk (inner_tree control n) later cells (u ++ t) in
          reach-later acting left told program place_of family first first_rest Named 0 s1 (tree_walk (end_alone (Jump (loop_head_label place))) later cells (u ++ t)) w (ap (λ z. tree_walk z later cells (u ++ t)) is)
          (met-now acting left told program place_of family first first_rest Named s1 w (in-met control n later (u ++ t) ((u ++ t) ++ []) (append-nil (u ++ t)) h (body-nodes control h) tt (leads.0 [] later items refl)))))

      -- a loop's remainder
      pub turn-move : (control : Control) (n : ℕ) (reached : Bool) → OwnTurning (turning_of control n reached) → HasLoop control → CellHolds (cells range) place control n → Coming (Turn (turning_of control n reached) (Nested body) ∷ items_in c) →
          (heavy : ℕ) → Moving 4 heavy (stepped (rest_state (Turn (turning_of control n reached) (Nested body) ∷ items_in c) m tr)) (tree_walk (end_alone (Jump (to_turn control reached place))) m cells tr)
      turn-move (Times amount) zero reached own h held came heavy =
          let x = Turn (Counted zero) (Nested body) in
          let own_n = first-nodes (Times amount) h in
          let s = stepped (rest_state (x ∷ items_in c) m tr) in
          let trees = more (with_first (language.Do (Lower place)) (inner_tree (Times amount) 0)) (more (end_alone after) no_more) in
          let v = tree_walk (end_alone (Pick (If (Above place)) trees)) m cells tr in
          let w = tree_walk (end_alone after) m cells (tr ++ []) in
          let leads = leads-step acting left told program place_of family first first_rest Named range q x (items_in c) waiting m cells came (on (alone acting) (items_in c) m) refl in
          move-more acting left told program place_of family first first_rest Named 2 4 heavy s (tree_walk (end_alone (Jump (loop_head_label place))) m cells tr) (omega arith)
          (move-later acting left told program place_of family first first_rest Named 1 heavy s (tree_walk (end_alone (Jump (loop_head_label place))) m cells tr) v (ap (λ t. tree_walk t m cells tr) own_n.0)
          (move-after acting left told program place_of family first first_rest Named 0 heavy s v w
          (ap (λ k. picks acting left family trees (Got [] (arm_of (is_above k)) (record { own = m; cells = cells })) v) held)
          (met-now acting left told program place_of family first first_rest Named s w (out-met m (tr ++ []) (tr ++ []) refl (leads.0 [] m (items_in c) refl)))))
      turn-move (Times amount) (suc n) reached own h held came heavy =
          let x = Turn (Counted (suc n)) (Nested body) in
          let own_n = first-nodes (Times amount) h in
          let s = stepped (rest_state (x ∷ items_in c) m tr) in
          let body_tree = inner_tree (Times amount) n in
          let counting = with_first (language.Do (Lower place)) body_tree in
          let trees = more counting (more (end_alone after) no_more) in
          let items = before body (Turn (Counted n) (Nested body) ∷ items_in c) in
          let v = tree_walk (end_alone (Pick (If (Above place)) trees)) m cells tr in
          let cs = put_cells range place (cells range place - 1) cells in
          let w = tree_walk body_tree m cs ((tr ++ []) ++ []) in
          let leads = leads-step acting left told program place_of family first first_rest Named range q x (items_in c) waiting m cells came (on (alone acting) items m) refl in
          let less : cells range place - 1 ≡ n = ap (λ k. k - 1) held ∙ omega arith in
          move-more acting left told program place_of family first first_rest Named 3 4 heavy s (tree_walk (end_alone (Jump (loop_head_label place))) m cells tr) (omega arith)
          (move-later acting left told program place_of family first first_rest Named 2 heavy s (tree_walk (end_alone (Jump (loop_head_label place))) m cells tr) v (ap (λ t. tree_walk t m cells tr) own_n.0)
          (move-later acting left told program place_of family first first_rest Named 1 heavy s v (tree_walk counting m cells (tr ++ []))
          (ap (λ k. picks acting left family trees (Got [] (arm_of (is_above k)) (record { own = m; cells = cells })) v) held)
          (move-after acting left told program place_of family first first_rest Named 0 heavy s (tree_walk counting m cells (tr ++ [])) w refl
          (met-now acting left told program place_of family first first_rest Named s w
          (arrives acting left told program place_of family first first_rest Named range q (inner (Times amount) n) items waiting m cs ((tr ++ []) ++ []) (tr ++ []) refl (sym (append-nil (tr ++ [])))
          (inner-good (Times amount) n cs h (body-nodes (Times amount) h) (put-here range place (cells range place - 1) cells ∙ less) (holds-apart range place (cells range place - 1) cells c out hold))
          (waits-put acting told program place_of family first first_rest Named range place (cells range place - 1) cells range waiting (waits-fresh acting told program place_of family first first_rest Named cells range waiting waits) waits)
          (leads.0 [] m items refl))))))
      turn-move (Until false test) n reached own h held came heavy =
          let x = Turn (Tests test) (Nested body) in
          let own_n = first-nodes (Until false test) h in
          let s = stepped (rest_state (x ∷ items_in c) m tr) in
          let f : Bool → Memory → Way Memory = λ ended. on (alone acting) (turns (alone acting) ended (Tests test) (Nested body) (items_in c)) in
          let v = tree_walk (by_test test (end_alone after) (inner_tree (Until false test) n)) m cells tr in
          move-more acting left told program place_of family first first_rest Named 2 4 heavy s (tree_walk (end_alone (Jump (loop_head_label place))) m cells tr) (omega arith)
          (move-later acting left told program place_of family first first_rest Named 1 heavy s (tree_walk (end_alone (Jump (loop_head_label place))) m cells tr) v (ap (λ t. tree_walk t m cells tr) own_n.0)
          (test-move acting left told program place_of family first first_rest Named range q x (items_in c) waiting m cells m test (end_alone after) (inner_tree (Until false test) n) f tr 0 heavy own (λ ended now. tt)
          (leads-step acting left told program place_of family first first_rest Named range q x (items_in c) waiting m cells came (tried (alone_test acting test m) f) refl)
          (λ t ended now leads. round-reach x (Until false test) n ended now (tr ++ t) h (body-nodes (Until false test) h) tt leads)))
      turn-move (Until true test) n reached own h held came heavy =
          let x = Turn (Tests test) (Nested body) in
          let own_n = first-nodes (Until true test) h in
          let s = stepped (rest_state (x ∷ items_in c) m tr) in
          let f : Bool → Memory → Way Memory = λ ended. on (alone acting) (turns (alone acting) ended (Tests test) (Nested body) (items_in c)) in
          let again = end_alone (Jump (loop_head_label place)) in
          let v = tree_walk (by_test test (end_alone after) again) m cells tr in
          move-more acting left told program place_of family first first_rest Named 3 4 heavy s (tree_walk (end_alone (Jump (loop_step_label place))) m cells tr) (omega arith)
          (move-later acting left told program place_of family first first_rest Named 2 heavy s (tree_walk (end_alone (Jump (loop_step_label place))) m cells tr) v (ap (λ t. tree_walk t m cells tr) own_n.1.0)
          (test-move acting left told program place_of family first first_rest Named range q x (items_in c) waiting m cells m test (end_alone after) again f tr 1 heavy own (λ ended now. tt)
          (leads-step acting left told program place_of family first first_rest Named range q x (items_in c) waiting m cells came (tried (alone_test acting test m) f) refl)
          (λ t ended now leads. again-reach x (Until true test) n ended now (tr ++ t) h (body-nodes (Until true test) h) tt own_n.0 leads)))
      turn-move (Varying false set step test) n false own h held came heavy =
          let control = Varying false set step test in
          let x = Turn (Steps false step test) (Nested body) in
          let own_n = first-nodes control h in
          let s = stepped (rest_state (x ∷ items_in c) m tr) in
          let f : Bool → Memory → Way Memory = λ ended. on (alone acting) (turns (alone acting) ended (Steps true step test) (Nested body) (items_in c)) in
          let v = tree_walk (by_test test (end_alone after) (inner_tree control n)) m cells tr in
          move-more acting left told program place_of family first first_rest Named 2 4 heavy s (tree_walk (end_alone (Jump (loop_head_label place))) m cells tr) (omega arith)
          (move-later acting left told program place_of family first first_rest Named 1 heavy s (tree_walk (end_alone (Jump (loop_head_label place))) m cells tr) v (ap (λ t. tree_walk t m cells tr) own_n.0)
          (test-move acting left told program place_of family first first_rest Named range q x (items_in c) waiting m cells m test (end_alone after) (inner_tree control n) f tr 0 heavy own.1 (λ ended now. tt)
          (leads-step acting left told program place_of family first first_rest Named range q x (items_in c) waiting m cells came (tried (alone_test acting test m) f) refl)
          (λ t ended now leads. round-reach x control n ended now (tr ++ t) h (body-nodes control h) tt leads)))
      turn-move (Varying false set step test) n true own h held came heavy =
          let control = Varying false set step test in
          let x = Turn (Steps true step test) (Nested body) in
          let own_n = first-nodes control h in
          let s = stepped (rest_state (x ∷ items_in c) m tr) in
          let f : Bool → Memory → Way Memory = λ ended. on (alone acting) (turns (alone acting) ended (Steps true step test) (Nested body) (items_in c)) in
          let g : Memory → Way Memory = λ now. tried (alone_test acting test now) f in
          let stepping = tree (also (language.Do step) none) (Jump (loop_head_label place)) in
          let choice = by_test test (end_alone after) (inner_tree control n) in
          move-later acting left told program place_of family first first_rest Named 3 heavy s (tree_walk (end_alone (Jump (loop_step_label place))) m cells tr) (tree_walk stepping m cells tr) (ap (λ t. tree_walk t m cells tr) own_n.1.0)
          (act-move acting left told program place_of family first first_rest Named range q x (items_in c) waiting m cells m step g [] (Jump (loop_head_label place)) tr 2 heavy own.0 (λ now. tried-no-into (alone_test acting test now) f (λ ended after. tt))
          (leads-step acting left told program place_of family first first_rest Named range q x (items_in c) waiting m cells came (tried (alone_act acting step m) (λ u. g)) refl)
          (λ t now leads.
          let s1 = goes_from acting left told program place_of family first first_rest Named range q x (items_in c) waiting m cells (g now) (tr ++ t) in
          reach-later acting left told program place_of family first first_rest Named 1 s1 (tree_walk (end_alone (Jump (loop_head_label place))) now cells (tr ++ t)) (tree_walk choice now cells (tr ++ t)) (ap (λ z. tree_walk z now cells (tr ++ t)) own_n.0)
          (reach-of acting left told program place_of family first first_rest Named range q x (items_in c) waiting m cells 1 heavy s1 (tree_walk choice now cells (tr ++ t))
          (test-move acting left told program place_of family first first_rest Named range q x (items_in c) waiting m cells now test (end_alone after) (inner_tree control n) f (tr ++ t) 0 heavy own.1 (λ ended later. tt) leads
          (λ u ended later leads. round-reach x control n ended later ((tr ++ t) ++ u) h (body-nodes control h) tt leads)))))
      turn-move (Varying true set step test) n reached own h held came heavy =
          let control = Varying true set step test in
          let x = Turn (StepsAfter step test) (Nested body) in
          let own_n = first-nodes control h in
          let s = stepped (rest_state (x ∷ items_in c) m tr) in
          let f : Bool → Memory → Way Memory = λ ended. steps_on (alone acting) ended step test (Nested body) (items_in c) in
          let again = tree (also (language.Do step) none) (Jump (loop_head_label place)) in
          let v = tree_walk (by_test test (end_alone after) again) m cells tr in
          move-later acting left told program place_of family first first_rest Named 3 heavy s (tree_walk (end_alone (Jump (loop_step_label place))) m cells tr) v (ap (λ t. tree_walk t m cells tr) own_n.1.0)
          (test-move acting left told program place_of family first first_rest Named range q x (items_in c) waiting m cells m test (end_alone after) again f tr 2 heavy own.1 (λ ended now. step-no-into ended step test (items_in c) now)
          (leads-step acting left told program place_of family first first_rest Named range q x (items_in c) waiting m cells came (tried (alone_test acting test m) f) refl)
          (λ t ended now leads. stepping-reach x set step test n ended now (tr ++ t) own.0 h own_n.0 heavy leads))
