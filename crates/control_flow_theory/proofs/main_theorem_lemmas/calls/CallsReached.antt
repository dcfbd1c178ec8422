-- Where a free flow path of a range's level comes to a PERFORM, a reached node of the range performs that range, and
-- where one comes to its end, a reached node returns.
use Rattle.std.proofs.Common.{◌≡◌, ℕ, zero, suc, ◌+◌, ◌<◌, Bool, true, false, if◌then◌else◌, List, [], ◌∷◌, refl, ap, sym, ◌∙◌, subst, arith, inl, inr, Some}
use Rattle.std.specs.Prelude.{slice_get, length}
use Rattle.control_flow_theory.specs.semantics.Doing.{arm_of}
use Rattle.control_flow_theory.specs.language.Language.{Act, Test, Picker, If, By, ByCell, Control, Times, Until, Varying, Stmt, Choose, Loop, Perform, Go, GoDepending, NextSentence, ExitParagraph, ExitSection, ExitPerform, StopRun, Stmts, none, also, Arms, done, given, missing, Body, Nested, Performed, Paragraph, Program, paragraph_at, Range, Main, Part}
use Rattle.control_flow_theory.specs.language.Language as language
use Rattle.control_flow_theory.specs.language.Items.{Turning, Counted, Tests, Steps, StepsAfter, Item, Do, Turn, before, before_body, before_arm}
use Rattle.control_flow_theory.specs.semantics.Items.{Way, On, Halts, Into, To, ToEnd, way_after, tried, on, turns, steps_on, turn_way, to_one, stmt_way, item_way}
use Rattle.control_flow_theory.specs.semantics.Source.{rest_of}
use Rattle.control_flow_theory.specs.semantics.Graph.{Label, Tree, tree, End, Pick, Jump, Return, Stop, Dead, Trees, no_more, more, end_of, Family}
use Rattle.control_flow_theory.specs.lowering.FlowFacts.{FlowFacts, IsSource, IsFirstMissing, MayGive, OwnPicker, OwnStmt, AllBelow, arm_count}
use Rattle.control_flow_theory.specs.lowering.Completes.{completes, complete, choice_completes, body_completes, body_leaves_loop, cut, cuts, cut_arms, cut_body, whole, wholes, whole_arms, whole_body, size, sizes, skips, first_is_dead}
use Rattle.control_flow_theory.specs.lowering.Lower.{point, loop_head_label, loop_step_label, end_alone, with_first, push, leaf, build, build_stmt, build_arms, depending, loop_start, loop_nodes, nodes, nodes_in, nodes_of_arms, fall_leaf, paragraph_end_target, EscapeTargets, leaving_at, within_loop}
use Rattle.control_flow_theory.specs.lowering.Rests.{Rest, From, Sent, Turns, Cut, turning_of, items_in, to_turn, after_sentence, after_loop, at_loop, uncut, rest_from, leaf_of, leaving_of, tree_of, Has, HasRest}
use Rattle.control_flow_theory.specs.lowering.Rests as rests
use Rattle.control_flow_theory.specs.lowering.flow.Comes.{IsNoExit, begins, enters, goes_on, goes_to, goes_to_end, over, falls, entry_of, IsLowered}
use Rattle.control_flow_theory.specs.lowering.Lowered.{place_in, lowered}
use Rattle.control_flow_theory.specs.lowering.Reached.{JumpsTo, ArmsJumpTo, IsReached, entered, jumped}
use Rattle.control_flow_theory.specs.lowering.flow.Paths.{next_way, is_first, is_below, not_dead, first_arm, arm_for, free_pick, free}
use Rattle.control_flow_theory.specs.lowering.flow.Entered.{FreelyComes, IsEntered, NamesWhatReturns}
use Rattle.control_flow_theory.specs.rendering.Procedures.{stmt_calls, stmts_call, arms_call, body_calls}
use Rattle.control_flow_theory.specs.main_theorem.Chain.{TreeCalls, EndCalls, TreesCall}
use Rattle.control_flow_theory.specs.main_theorem.CallsReached.{GivesSome, WhatIsCalledStands}
use Rattle.control_flow_theory.specs.structuring.Dispatches.{either, end_returns, tree_returns, trees_return}
use Rattle.control_flow_theory.specs.lowering.WellFormed.{IsRangeOf}
use Rattle.control_flow_theory.proofs.semantics_lemmas.Ranges.{eq-self}
use Rattle.control_flow_theory.proofs.semantics_lemmas.Ranges.{same-self}
use Rattle.control_flow_theory.proofs.lowering_lemmas.rests.Fits.{FitsIn, comes-fits, rest-fits}
use Rattle.control_flow_theory.proofs.lowering_lemmas.rests.Counters.{has-left, has-right, has-after, has-behind, has-turn, past-items, loop-items, items-from, items-uncut, has-uncut, built-uncut}
use Rattle.control_flow_theory.proofs.lowering_lemmas.graphs.Families.{lowered-is-lowered}
use Rattle.control_flow_theory.proofs.lowering_lemmas.flow.Paths.{freely-entered}

split : (a b : Bool) → (if a then b else false) ≡ true → (a ≡ true) × (b ≡ true)
split true b e = (refl, e)
split false b e = absurd (let f : false ≡ true = e in cc)

left-true : (a b : Bool) → a ≡ true → (if a then true else b) ≡ true
left-true a b e = ap (λ x. if x then true else b) e

right-true : (a b : Bool) → b ≡ true → (if a then true else b) ≡ true
right-true true b e = refl
right-true false b e = e

arm-below : (b : Bool) → arm_of b < 2
arm-below true = omega arith
arm-below false = omega arith

below-is : (k n : ℕ) → is_below k n ≡ true → k < n
below-is k zero e = absurd (let f : false ≡ true = e in cc)
below-is zero (suc n) e = omega arith
below-is (suc k) (suc n) e = let f = below-is k n e in omega (arith, f)

-- the way names an arm that may be given
first-given : (width k : ℕ) (never : Bool) → MayGive width never k → MayGive width never (first_arm never)
first-given width zero true may = absurd (may.1 refl refl)
first-given width (suc k) true may = (let e = may.0 in omega (arith, e), λ f e. absurd (omega (arith, e)))
first-given width k false may = (let e = may.0 in omega (arith, e), λ f. cc)

named-given : (width k way : ℕ) (never : Bool) → MayGive width never k → way < width → MayGive width never (not_dead never way)
named-given width zero zero true may lt = absurd (may.1 refl refl)
named-given width (suc k) zero true may lt = (let e = may.0 in omega (arith, e), λ f e. absurd (omega (arith, e)))
named-given width k (suc n) true may lt = (lt, λ f e. absurd (omega (arith, e)))
named-given width k way false may lt = (lt, λ f. cc)

arm-given : (width k way : ℕ) (never : Bool) → MayGive width never k → MayGive width never (arm_for width never way)
arm-given width k way never may =
    (elim (is_below way width) as (λ b. is_below way width ≡ b → MayGive width never (if b then not_dead never way else first_arm never)) [
      | true ↦ λ is. named-given width k way never may (below-is way width is)
      | false ↦ λ is. first-given width k never may
    ]) refl

module _ (told : FlowFacts) (program : Program) (source : IsSource told program) (some : GivesSome told) (range : Range) where
  abbrev count : ℕ
  count = length program.paragraphs

  abbrev places : ℕ → ℕ
  places q = place_in program q

  abbrev family : Family
  family = lowered told program

  abbrev graph : Label → Tree
  graph l = family.node range l

  low : IsLowered told program (place_in program) family
  low = lowered-is-lowered told program

  abbrev ending : ℕ → EscapeTargets
  ending q = leaving_at places program range q

  abbrev Tr : ℕ → Rest → Tree
  Tr q c = tree_of told places (ending q) c

  abbrev Lf : ℕ → Rest → End
  Lf q c = leaf_of told places (ending q) c

  abbrev Sn : ℕ → Rest → EscapeTargets
  Sn q c = leaving_of told places (ending q) c

  abbrev HR : ℕ → Rest → Type 0
  HR q c = HasRest told places graph (ending q) c

  -- a reached node performs the range
  abbrev pub Stands : ℕ → ℕ → Type 0
  Stands e x = (l : Label) × IsReached family range l × TreeCalls (Part e x) (graph l)

  -- a reached node returns
  abbrev pub Returns : Type 0
  Returns = (l : Label) × IsReached family range l × (tree_returns (graph l) ≡ true)

  either-right : (a b : Bool) → b ≡ true → either a b ≡ true
  either-right true b h = refl
  either-right false b h = h

  -- Each PERFORM and each return stands in a reached node, and each jump leads to one.
  abbrev mutual
    FineStmt : Stmt → Type 0
    FineStmt (language.Do act) = Unit {0}
    FineStmt (Choose picker arms) = FineArms arms
    FineStmt (Loop control body) = FineBody body
    FineStmt (Perform e x) = Stands e x
    FineStmt (Go to) = Unit {0}
    FineStmt (GoDepending to on) = Unit {0}
    FineStmt NextSentence = Unit {0}
    FineStmt ExitParagraph = Unit {0}
    FineStmt (ExitSection last) = Unit {0}
    FineStmt (ExitPerform cycle) = Unit {0}
    FineStmt StopRun = Unit {0}

    FineStmts : Stmts → Type 0
    FineStmts none = Unit {0}
    FineStmts (also s ss) = FineStmt s × FineStmts ss

    FineArms : Arms → Type 0
    FineArms done = Unit {0}
    FineArms (given arm others) = FineStmts arm × FineArms others
    FineArms (missing others) = FineArms others

    FineBody : Body → Type 0
    FineBody (Nested ss) = FineStmts ss
    FineBody (Performed e x) = Stands e x

  abbrev mutual
    FineEnd : End → Type 0
    FineEnd (Pick picker arms) = FineTrees arms
    FineEnd (Jump to) = IsReached family range to
    FineEnd Return = Returns
    FineEnd Stop = Unit {0}
    FineEnd Dead = Unit {0}

    FineTrees : Trees → Type 0
    FineTrees no_more = Unit {0}
    FineTrees (more (tree body end) others) = FineStmts body × FineEnd end × FineTrees others

  abbrev FineTree : Tree → Type 0
  FineTree (tree body end) = FineStmts body × FineEnd end

  mutual
    stmt-all : (s : Stmt) → ((e x : ℕ) → stmt_calls (Part e x) s ≡ true → Stands e x) → FineStmt s
    stmt-all (language.Do act) h = tt
    stmt-all (Choose picker arms) h = arms-all arms h
    stmt-all (Loop control body) h = body-all body h
    stmt-all (Perform e x) h = h e x (same-self (Part e x))
    stmt-all (Go to) h = tt
    stmt-all (GoDepending to on) h = tt
    stmt-all NextSentence h = tt
    stmt-all ExitParagraph h = tt
    stmt-all (ExitSection last) h = tt
    stmt-all (ExitPerform cycle) h = tt
    stmt-all StopRun h = tt

    stmts-all : (ss : Stmts) → ((e x : ℕ) → stmts_call (Part e x) ss ≡ true → Stands e x) → FineStmts ss
    stmts-all none h = tt
    stmts-all (also s ss) h = (
      stmt-all s (λ e x k. h e x (left-true (stmt_calls (Part e x) s) (stmts_call (Part e x) ss) k)),
      stmts-all ss (λ e x k. h e x (right-true (stmt_calls (Part e x) s) (stmts_call (Part e x) ss) k)),
    )

    arms-all : (arms : Arms) → ((e x : ℕ) → arms_call (Part e x) arms ≡ true → Stands e x) → FineArms arms
    arms-all done h = tt
    arms-all (given arm others) h = (
      stmts-all arm (λ e x k. h e x (left-true (stmts_call (Part e x) arm) (arms_call (Part e x) others) k)),
      arms-all others (λ e x k. h e x (right-true (stmts_call (Part e x) arm) (arms_call (Part e x) others) k)),
    )
    arms-all (missing others) h = arms-all others h

    body-all : (body : Body) → ((e x : ℕ) → body_calls (Part e x) body ≡ true → Stands e x) → FineBody body
    body-all (Nested ss) h = stmts-all ss h
    body-all (Performed e x) h = h e x (same-self (Part e x))

  mutual
    end-all : (end : End) → ((e x : ℕ) → EndCalls (Part e x) end → Stands e x) → ((to : Label) → JumpsTo to end → IsReached family range to) → (end_returns end ≡ true → Returns) → FineEnd end
    end-all (Pick picker arms) h g k = trees-all arms h g k
    end-all (Jump to) h g k = g to refl
    end-all Return h g k = k refl
    end-all Stop h g k = tt
    end-all Dead h g k = tt

    trees-all : (ts : Trees) → ((e x : ℕ) → TreesCall (Part e x) ts → Stands e x) → ((to : Label) → ArmsJumpTo to ts → IsReached family range to) → (trees_return ts ≡ true → Returns) → FineTrees ts
    trees-all no_more h g k = tt
    trees-all (more (tree body end) others) h g k = (
      stmts-all body (λ e x c. h e x (inl (inl c))),
      end-all end (λ e x c. h e x (inl (inr c))) (λ to j. g to (inl j)) (λ r. k (ap (λ b. either b (trees_return others)) r)),
      trees-all others (λ e x c. h e x (inr c)) (λ to j. g to (inr j)) (λ r. k (either-right (end_returns end) (trees_return others) r)),
    )

  tree-all : (t : Tree) → ((e x : ℕ) → TreeCalls (Part e x) t → Stands e x) → ((to : Label) → JumpsTo to (end_of t) → IsReached family range to) → (tree_returns t ≡ true → Returns) → FineTree t
  tree-all (tree body end) h g k = (stmts-all body (λ e x c. h e x (inl c)), end-all end (λ e x c. h e x (inr c)) g k)

  fine-at : (l : Label) → IsReached family range l → FineTree (graph l)
  fine-at l r = tree-all (graph l) (λ e x k. (l, r, k)) (λ to j. jumped l to r j) (λ k. (l, r, k))

  first-fine : (s : Stmt) (t : Tree) → FineTree (with_first s t) → FineStmt s × FineTree t
  first-fine s (tree body end) h = (h.0.0, (h.0.1, h.1))

  trees-first : (t : Tree) (ts : Trees) → FineTrees (more t ts) → FineTree t × FineTrees ts
  trees-first (tree body end) ts h = ((h.0, h.1), h.2)

  -- What is still to do: what is left of a paragraph, behind what is left of a statement in a body.
  data Frame : Type 0 where
    Base : Rest → Frame
    In : Stmts → Frame → Frame
    Round : Turning → Body → Frame → Frame

  abbrev items_of_frame : Frame → List Item
  items_of_frame (Base c) = items_in c
  items_of_frame (In ss f) = before ss (items_of_frame f)
  items_of_frame (Round t b f) = Turn t b ∷ items_of_frame f

  abbrev Ok : ℕ → Frame → Type 0
  Ok q (Base c) = FineTree (Tr q c) × HR q c
  Ok q (In ss f) = FineStmts (cuts told ss) × (wholes (cuts told ss) ≡ true) × (complete told ss ≡ true → Ok q f)
  Ok q (Round t b f) = FineBody (cut_body told b) × (whole_body (cut_body told b) ≡ true) × Ok q f

  abbrev Good : ℕ → List Item → Type 0
  Good q items = (f : Frame) × (items_of_frame f ≡ items) × Ok q f

  later-has : (q place : ℕ) (s : Stmt) (ss : Stmts) (c : Rest) → HR q (From place (also s ss) c) → HR q (From (place + size s) ss c)
  later-has q place s ss c h =
      (has-right graph told places (nodes_in told places s place (Sn q c) (leaf told places ss (place + size s) (Lf q c)) (build told places ss (place + size s) (Sn q c) (Lf q c) (Tr q (uncut c)))) (nodes told places ss (place + size s) (Sn q c) (Lf q c) (Tr q (uncut c))) h.0.1, h.1)

  in-has : (q place : ℕ) (s : Stmt) (ss : Stmts) (c : Rest) → HR q (From place (also s ss) c) →
      (let r = From (place + size s) ss c in Has told places graph (nodes_in told places s place (Sn q r) (Lf q r) (Tr q (uncut r))))
  in-has q place s ss c h =
      subst (λ t. Has told places graph (nodes_in told places s place (Sn q c) (leaf told places ss (place + size s) (Lf q c)) t)) (sym (built-uncut told places (ending q) (build told places ss (place + size s)) c))
      (has-left graph told places (nodes_in told places s place (Sn q c) (leaf told places ss (place + size s) (Lf q c)) (build told places ss (place + size s) (Sn q c) (Lf q c) (Tr q (uncut c)))) (nodes told places ss (place + size s) (Sn q c) (Lf q c) (Tr q (uncut c))) h.0.1)

  abbrev inner : ℕ → Control → Stmts → Rest → Rest
  inner place control body c = From (place + 1) body (Turns place control 0 true body c)

  loop-has : (q place : ℕ) (control : Control) (body : Stmts) (r : Rest) → Has told places graph (nodes_in told places (Loop control (Nested body)) place (Sn q r) (Lf q r) (Tr q (uncut r))) → HR q r → HR q (inner place control body r)
  loop-has q place (Times amount) body r h hr =
      (has-right graph told places (loop_nodes (Times amount) place (build told places body (place + 1) (within_loop (Sn q r) (Lf q r) (Jump (loop_head_label place))) (Jump (loop_head_label place)) (end_alone (Jump (loop_head_label place)))) (Lf q r)) (nodes told places body (place + 1) (within_loop (Sn q r) (Lf q r) (Jump (loop_head_label place))) (Jump (loop_head_label place)) (end_alone (Jump (loop_head_label place)))) h, (h, hr))
  loop-has q place (Until false test) body r h hr =
      (has-right graph told places (loop_nodes (Until false test) place (build told places body (place + 1) (within_loop (Sn q r) (Lf q r) (Jump (loop_head_label place))) (Jump (loop_head_label place)) (end_alone (Jump (loop_head_label place)))) (Lf q r)) (nodes told places body (place + 1) (within_loop (Sn q r) (Lf q r) (Jump (loop_head_label place))) (Jump (loop_head_label place)) (end_alone (Jump (loop_head_label place)))) h, (h, hr))
  loop-has q place (Until true test) body r h hr =
      (has-right graph told places (loop_nodes (Until true test) place (build told places body (place + 1) (within_loop (Sn q r) (Lf q r) (Jump (loop_step_label place))) (Jump (loop_step_label place)) (end_alone (Jump (loop_step_label place)))) (Lf q r)) (nodes told places body (place + 1) (within_loop (Sn q r) (Lf q r) (Jump (loop_step_label place))) (Jump (loop_step_label place)) (end_alone (Jump (loop_step_label place)))) h, (h, hr))
  loop-has q place (Varying false set stp test) body r h hr =
      (has-right graph told places (loop_nodes (Varying false set stp test) place (build told places body (place + 1) (within_loop (Sn q r) (Lf q r) (Jump (loop_step_label place))) (Jump (loop_step_label place)) (end_alone (Jump (loop_step_label place)))) (Lf q r)) (nodes told places body (place + 1) (within_loop (Sn q r) (Lf q r) (Jump (loop_step_label place))) (Jump (loop_step_label place)) (end_alone (Jump (loop_step_label place)))) h, (h, hr))
  loop-has q place (Varying true set stp test) body r h hr =
      (has-right graph told places (loop_nodes (Varying true set stp test) place (build told places body (place + 1) (within_loop (Sn q r) (Lf q r) (Jump (loop_step_label place))) (Jump (loop_step_label place)) (end_alone (Jump (loop_step_label place)))) (Lf q r)) (nodes told places body (place + 1) (within_loop (Sn q r) (Lf q r) (Jump (loop_step_label place))) (Jump (loop_step_label place)) (end_alone (Jump (loop_step_label place)))) h, (h, hr))

  -- from a continuation on, the tree at its label runs on
  point-frame : (q place : ℕ) (s : Stmt) (ss : Stmts) (r : Rest) → HR q (From place (also s ss) r) → IsReached family range (point place) → Ok q (Base (From place (also s ss) (uncut r)))
  point-frame q place s ss r h e =
      (subst FineTree (h.0.0 ∙ sym (built-uncut told places (ending q) (build told places (also s ss) place) r)) (fine-at (point place) e), has-uncut told places (ending q) graph (From place (also s ss) r) h)

  point-good : (q place : ℕ) (s : Stmt) (ss : Stmts) (r : Rest) → HR q (From place (also s ss) r) → IsReached family range (point place) → Good q (Do s ∷ before ss (items_in r))
  point-good q place s ss r h e = (Base (From place (also s ss) (uncut r)), ap (before (also s ss)) (items-uncut r), point-frame q place s ss r h e)

  resume-from : (q place : ℕ) (ss : Stmts) (r : Rest) → (FineEnd (Lf q r) → Good q (items_in r)) → HR q (From place ss r) → FineEnd (leaf told places ss place (Lf q r)) → Good q (before ss (items_in r))
  resume-from q place none r g h e = g e
  resume-from q place (also (language.Do act) ss) r g h e =
      (elim (skips told act) as (λ b. FineEnd (if b then leaf told places ss (place + 1) (Lf q r) else Jump (point place)) → Good q (Do (language.Do act) ∷ before ss (items_in r))) [
        | true ↦ λ e. let k = resume-from q (place + 1) ss r g (later-has q place (language.Do act) ss r h) e in (In (also (language.Do act) none) k.0, ap (λ xs. Do (language.Do act) ∷ xs) k.1, ((tt, tt), refl, λ z. k.2))
        | false ↦ λ e. point-good q place (language.Do act) ss r h e
      ]) e
  resume-from q place (also (Choose picker arms) ss) r g h e = point-good q place (Choose picker arms) ss r h e
  resume-from q place (also (Loop control body) ss) r g h e = point-good q place (Loop control body) ss r h e
  resume-from q place (also (Perform en x) ss) r g h e = point-good q place (Perform en x) ss r h e
  resume-from q place (also (Go to) ss) r g h e = (Base (From place (also (Go to) ss) r), refl, ((tt, e), h))
  resume-from q place (also (GoDepending to on) ss) r g h e = point-good q place (GoDepending to on) ss r h e
  resume-from q place (also NextSentence ss) r g h e = point-good q place NextSentence ss r h e
  resume-from q place (also ExitParagraph ss) r g h e = point-good q place ExitParagraph ss r h e
  resume-from q place (also (ExitSection last) ss) r g h e = point-good q place (ExitSection last) ss r h e
  resume-from q place (also (ExitPerform cycle) ss) r g h e = point-good q place (ExitPerform cycle) ss r h e
  resume-from q place (also StopRun ss) r g h e = (Base (From place (also StopRun ss) r), refl, ((tt, tt), h))

  resume : (q : ℕ) (c : Rest) → HR q c → FineEnd (Lf q c) → Good q (items_in c)
  resume q rests.Over h e = (Base rests.Over, refl, ((tt, e), tt))
  resume q (From place ss r) h e = resume-from q place ss r (resume q r h.1) h e
  resume q (Sent holds r) h e = (Base (Sent true r), refl, ((tt, e), h))
  resume q (Turns place control left reached body r) h e = (Base (Turns place control left reached body r), refl, ((tt, e), h))
  resume q (Cut r) h e = resume q r h e

  -- where the head of what is to do comes to
  abbrev Follows : ℕ → Way (List ℕ) → Type 0
  Follows q (On t m items) = Good q items
  Follows q (Halts t how m) = Unit {0}
  Follows q (Into e x items) = Stands e x × (told.returning e x ≡ true → Good q items)
  Follows q (To t m to) = IsReached family range (point (places to)) × (to < count)
  Follows q (ToEnd t m to) = FineEnd (paragraph_end_target places program range to)

  abbrev Next : ℕ → List Item → Type 0
  Next q [] = FineEnd (ending q).paragraph
  Next q (item ∷ rest) = (m : List ℕ) → Follows q (item_way (free told) item rest m)

  pick-follows : (q : ℕ) (picker : Picker) (n : ℕ) (g : ℕ → List Item) → OwnPicker told picker n → ((k : ℕ) → MayGive n (first_is_dead told picker) k → Good q (g k)) → (m : List ℕ) → Follows q (tried (free_pick told picker m) (λ k. on (free told) (g k)))
  pick-follows q (If test) n g own h m = h (arm_of (is_first (next_way m))) (subst (λ w. arm_of (is_first (next_way m)) < w) (sym own.1) (arm-below (is_first (next_way m))), λ f. cc)
  pick-follows q (By chooser) n g own h m =
      let s = some chooser in h (arm_for (told.width chooser) (told.never_first chooser) (next_way m)) (subst (λ w. MayGive w (told.never_first chooser) (arm_for (told.width chooser) (told.never_first chooser) (next_way m))) own (arm-given (told.width chooser) s.0 (next_way m) (told.never_first chooser) s.1))
  pick-follows q (ByCell cell) n g own h m = absurd own

  -- Inside a statement that stands whole in a node.

  body-good : (q : ℕ) (body : Body) (f : Frame) → FineBody (cut_body told body) → whole_body (cut_body told body) ≡ true → (body_completes told body ≡ true → Ok q f) → Good q (before_body body (items_of_frame f))
  body-good q (Nested ss) f fine w h = (In ss f, refl, (fine, w, h))
  body-good q (Performed e x) f fine w h = (In (also (Perform e x) none) f, refl, (((fine, elim (told.returning e x) as (λ b. FineStmts (if b then none else none)) [ true ↦ tt | false ↦ tt ]), elim (told.returning e x) as (λ b. wholes (if b then none else none) ≡ true) [ true ↦ refl | false ↦ refl ], λ k. h (split (told.returning e x) true k).0)))

  arm-good : (q : ℕ) (arms : Arms) (dead : Bool) (k : ℕ) (f : Frame) → FineArms (cut_arms told arms) → whole_arms (cut_arms told arms) ≡ true → (choice_completes told dead arms ≡ true → Ok q f) → MayGive (arm_count arms) dead k → Good q (before_arm arms k (items_of_frame f))
  arm-good q done dead k f fine w h may = absurd (let e = may.0 in omega (arith, e))
  arm-good q (given arm others) dead zero f fine w h may =
      (In arm f, refl, (fine.0, (split (wholes (cuts told arm)) (whole_arms (cut_arms told others)) w).0, λ c. h (left-true (complete told arm) (choice_completes told false others) c)))
  arm-good q (given arm others) dead (suc k) f fine w h may =
      arm-good q others false k f fine.1 (split (wholes (cuts told arm)) (whole_arms (cut_arms told others)) w).1 (λ c. h (right-true (complete told arm) (choice_completes told false others) c)) (let e = may.0 in omega (arith, e), λ z. cc)
  arm-good q (missing others) true zero f fine w h may = absurd (may.1 refl refl)
  arm-good q (missing others) false zero f fine w h may = (f, refl, h refl)
  arm-good q (missing others) true (suc k) f fine w h may = arm-good q others false k f fine w h (let e = may.0 in omega (arith, e), λ z. cc)
  arm-good q (missing others) false (suc k) f fine w h may = arm-good q others false k f fine w (λ c. h refl) (let e = may.0 in omega (arith, e), λ z. cc)

  inside : (q : ℕ) (s : Stmt) (f : Frame) → FineStmt (cut told s) → whole (cut told s) ≡ true → (completes told s ≡ true → Ok q f) → OwnStmt told count s → (m : List ℕ) → Follows q (stmt_way (free told) s (items_of_frame f) m)
  inside q (language.Do act) f fine w h own m = (f, refl, h refl)
  inside q (Choose picker arms) f fine w h own m = pick-follows q picker (arm_count arms) (λ k. before_arm arms k (items_of_frame f)) own.0 (λ k may. arm-good q arms (first_is_dead told picker) k f fine w h may) m
  inside q (Loop (Times amount) body) f fine w h own m = (Round (Counted (next_way m)) body f, refl, (fine, w, h refl))
  inside q (Loop (Until false test) body) f fine w h own m = (Round (Tests test) body f, refl, (fine, w, h refl))
  inside q (Loop (Until true test) body) f fine w h own m = body-good q body (Round (Tests test) body f) fine w (λ k. (fine, w, h (left-true (body_completes told body) (body_leaves_loop told body) k)))
  inside q (Loop (Varying false set stp test) body) f fine w h own m = (Round (Steps false stp test) body f, refl, (fine, w, h refl))
  inside q (Loop (Varying true set stp test) body) f fine w h own m = body-good q body (Round (StepsAfter stp test) body f) fine w (λ k. (fine, w, h (left-true (body_completes told body) (body_leaves_loop told body) k)))
  inside q (Perform e x) f fine w h own m = (fine, λ k. (f, refl, h k))
  inside q (Go to) f fine w h own m = absurd (let e : false ≡ true = w in cc)
  inside q (GoDepending to on) f fine w h own m = absurd (let e : false ≡ true = w in cc)
  inside q NextSentence f fine w h own m = absurd (let e : false ≡ true = w in cc)
  inside q ExitParagraph f fine w h own m = absurd (let e : false ≡ true = w in cc)
  inside q (ExitSection last) f fine w h own m = absurd (let e : false ≡ true = w in cc)
  inside q (ExitPerform cycle) f fine w h own m = absurd (let e : false ≡ true = w in cc)
  inside q StopRun f fine w h own m = tt

  -- a loop's remainder, by where one more turn and its end come to
  turned : (q : ℕ) (b : Bool) (t : Turning) (body : Body) (rest : List Item) → Good q rest → Good q (before_body body (Turn t body ∷ rest)) → Good q (turns (free told) b t body rest)
  turned q true t body rest g k = g
  turned q false t body rest g k = k

  stepped-on : (q : ℕ) (b : Bool) (stp : Act) (test : Test) (body : Body) (rest : List Item) (m : List ℕ) → Good q rest → Good q (before_body body (Turn (StepsAfter stp test) body ∷ rest)) → Follows q (way_after [] (steps_on (free told) b stp test body rest m))
  stepped-on q true stp test body rest m g k = g
  stepped-on q false stp test body rest m g k = k

  turn-inside : (q : ℕ) (t : Turning) (body : Body) (f : Frame) → FineBody (cut_body told body) → whole_body (cut_body told body) ≡ true → Ok q f → (m : List ℕ) → Follows q (turn_way (free told) t body (items_of_frame f) m)
  turn-inside q (Counted zero) body f fine w h m = (f, refl, h)
  turn-inside q (Counted (suc n)) body f fine w h m = body-good q body (Round (Counted n) body f) fine w (λ k. (fine, w, h))
  turn-inside q (Tests test) body f fine w h m = turned q (is_first (next_way m)) (Tests test) body (items_of_frame f) (f, refl, h) (body-good q body (Round (Tests test) body f) fine w (λ k. (fine, w, h)))
  turn-inside q (Steps false stp test) body f fine w h m = turned q (is_first (next_way m)) (Steps true stp test) body (items_of_frame f) (f, refl, h) (body-good q body (Round (Steps true stp test) body f) fine w (λ k. (fine, w, h)))
  turn-inside q (Steps true stp test) body f fine w h m = turned q (is_first (next_way m)) (Steps true stp test) body (items_of_frame f) (f, refl, h) (body-good q body (Round (Steps true stp test) body f) fine w (λ k. (fine, w, h)))
  turn-inside q (StepsAfter stp test) body f fine w h m = stepped-on q (is_first (next_way m)) stp test body (items_of_frame f) _ (f, refl, h) (body-good q body (Round (StepsAfter stp test) body f) fine w (λ k. (fine, w, h)))

  -- A statement of a paragraph: where it stands whole in the tree, and where its nodes do.

  abbrev HasIn : ℕ → ℕ → Stmt → Rest → Type 0
  HasIn q place s r = Has told places graph (nodes_in told places s place (Sn q r) (Lf q r) (Tr q (uncut r)))

  push-next : (q : ℕ) (s : Stmt) (r : Rest) → FineTree (push told places s (Tr q r)) → HR q r → whole (cut told s) ≡ true → OwnStmt told count s → (m : List ℕ) → Follows q (stmt_way (free told) s (items_in r) m)
  push-next q s r fine h w own m =
      (elim (completes told s) as (λ b. completes told s ≡ b → FineTree (if b then with_first (cut told s) (Tr q r) else tree (also (cut told s) none) Dead) → Follows q (stmt_way (free told) s (items_in r) m)) [
        | true ↦ λ is fine. let k = first-fine (cut told s) (Tr q r) fine in inside q s (Base r) k.0 w (λ c. (k.1, h)) own m
        | false ↦ λ is fine. inside q s (Base r) fine.0.0 w (λ c. absurd (let z : true ≡ false = sym c ∙ is in cc)) own m
      ]) refl fine

  arm-next : (q place : ℕ) (arms : Arms) (dead : Bool) (k : ℕ) (r : Rest) → FineTrees (build_arms told places dead arms place (Sn q r) (Lf q r)) → Has told places graph (nodes_of_arms told places arms place (Sn q r) (Lf q r) (Tr q (uncut r))) → HR q r →
      (dead ≡ true → IsFirstMissing arms) → MayGive (arm_count arms) dead k → Good q (before_arm arms k (items_in r))
  arm-next q place done dead k r fine h hr first may = absurd (let e = may.0 in omega (arith, e))
  arm-next q place (given arm others) true k r fine h hr first may = absurd (first refl)
  arm-next q place (given arm others) false zero r fine h hr first may =
      let xs = nodes told places arm place (Sn q r) (Lf q r) (Tr q (uncut r)) in
      let ys = nodes_of_arms told places others (place + sizes arm) (Sn q r) (Lf q r) (Tr q (uncut r)) in
      (Base (From place arm (Cut r)), refl, ((trees-first (build told places arm place (Sn q r) (Lf q r) (end_alone (Lf q r))) (build_arms told places false others (place + sizes arm) (Sn q r) (Lf q r)) fine).0, (has-left graph told places xs ys h, hr)))
  arm-next q place (given arm others) false (suc k) r fine h hr first may =
      let xs = nodes told places arm place (Sn q r) (Lf q r) (Tr q (uncut r)) in
      let ys = nodes_of_arms told places others (place + sizes arm) (Sn q r) (Lf q r) (Tr q (uncut r)) in
      arm-next q (place + sizes arm) others false k r (trees-first (build told places arm place (Sn q r) (Lf q r) (end_alone (Lf q r))) (build_arms told places false others (place + sizes arm) (Sn q r) (Lf q r)) fine).1 (has-right graph told places xs ys h) hr (λ f. cc) (let e = may.0 in omega (arith, e), λ z. cc)
  arm-next q place (missing others) true zero r fine h hr first may = absurd (may.1 refl refl)
  arm-next q place (missing others) false zero r fine h hr first may = resume q r hr fine.1
  arm-next q place (missing others) dead (suc k) r fine h hr first may = arm-next q place others false k r fine.2 h hr (λ f. cc) (let e = may.0 in omega (arith, e), λ z. cc)

  dead-missing : (picker : Picker) (arms : Arms) → OwnStmt told count (Choose picker arms) → first_is_dead told picker ≡ true → IsFirstMissing arms
  dead-missing (If test) arms own e = absurd (let f : false ≡ true = e in cc)
  dead-missing (By chooser) arms own e = own.2 e
  dead-missing (ByCell cell) arms own e = absurd own.0

  one-next : (q : ℕ) (to : List ℕ) (k : ℕ) (r : Rest) (m : List ℕ) → FineTrees (depending told places to (Lf q r)) → HR q r → AllBelow count to → Follows q (way_after [] (to_one (free told) (slice_get to k) (items_in r) m))
  one-next q [] k r m fine hr below = resume q r hr fine.1
  one-next q (t ∷ ts) zero r m fine hr below = (fine.1, below.0)
  one-next q (t ∷ ts) (suc k) r m fine hr below = one-next q ts k r m fine.2 hr below.1

  -- a loop with an escape, at its head and at its third label
  abbrev HasLoop : ℕ → ℕ → Control → Stmts → Rest → Type 0
  HasLoop q place control body r = HasIn q place (Loop control (Nested body)) r

  turn-next : (q place : ℕ) (control : Control) (left : ℕ) (reached : Bool) (body : Stmts) (r : Rest) → IsReached family range (to_turn control reached place) → HasLoop q place control body r → HR q r → (m : List ℕ) →
      Follows q (turn_way (free told) (turning_of control left reached) (Nested body) (items_in r) m)
  turn-next q place (Times amount) zero reached body r e h hr m =
      let t = subst FineTree h.0 (fine-at (loop_head_label place) e) in
      let f = trees-first (with_first (language.Do (language.Lower place)) (Tr q (inner place (Times amount) body r))) (more (end_alone (Lf q r)) no_more) t.1 in
      resume q r hr f.1.1
  turn-next q place (Times amount) (suc n) reached body r e h hr m =
      let t = subst FineTree h.0 (fine-at (loop_head_label place) e) in
      let f = trees-first (with_first (language.Do (language.Lower place)) (Tr q (inner place (Times amount) body r))) (more (end_alone (Lf q r)) no_more) t.1 in
      (Base (From (place + 1) body (Turns place (Times amount) n true body r)), refl, ((first-fine (language.Do (language.Lower place)) (Tr q (inner place (Times amount) body r)) f.0).1, loop-has q place (Times amount) body r h hr))
  turn-next q place (Until false test) left reached body r e h hr m =
      let t = subst FineTree h.0 (fine-at (loop_head_label place) e) in
      turned q (is_first (next_way m)) (Tests test) (Nested body) (items_in r) (resume q r hr t.1.1)
      (Base (inner place (Until false test) body r), refl, ((trees-first (Tr q (inner place (Until false test) body r)) no_more t.1.2).0, loop-has q place (Until false test) body r h hr))
  turn-next q place (Until true test) left reached body r e h hr m =
      let t = subst FineTree h.1.0 (fine-at (loop_step_label place) e) in
      turned q (is_first (next_way m)) (Tests test) (Nested body) (items_in r) (resume q r hr t.1.1)
      (Base (inner place (Until true test) body r), refl, (subst FineTree h.0 (fine-at (loop_head_label place) t.1.2.1), loop-has q place (Until true test) body r h hr))
  turn-next q place (Varying false set stp test) left false body r e h hr m =
      let t = subst FineTree h.0 (fine-at (loop_head_label place) e) in
      turned q (is_first (next_way m)) (Steps true stp test) (Nested body) (items_in r) (resume q r hr t.1.1)
      (Base (inner place (Varying false set stp test) body r), refl, ((trees-first (Tr q (inner place (Varying false set stp test) body r)) no_more t.1.2).0, loop-has q place (Varying false set stp test) body r h hr))
  turn-next q place (Varying false set stp test) left true body r e h hr m =
      let u = subst FineTree h.1.0 (fine-at (loop_step_label place) e) in
      let t = subst FineTree h.0 (fine-at (loop_head_label place) u.1) in
      turned q (is_first (next_way m)) (Steps true stp test) (Nested body) (items_in r) (resume q r hr t.1.1)
      (Base (inner place (Varying false set stp test) body r), refl, ((trees-first (Tr q (inner place (Varying false set stp test) body r)) no_more t.1.2).0, loop-has q place (Varying false set stp test) body r h hr))
  turn-next q place (Varying true set stp test) left reached body r e h hr m =
      let t = subst FineTree h.1.0 (fine-at (loop_step_label place) e) in
      stepped-on q (is_first (next_way m)) stp test (Nested body) (items_in r) _ (resume q r hr t.1.1)
      (Base (inner place (Varying true set stp test) body r), refl, (subst FineTree h.0 (fine-at (loop_head_label place) t.1.2.1), loop-has q place (Varying true set stp test) body r h hr))

  start-next : (q place : ℕ) (control : Control) (body : Stmts) (r : Rest) → FineTree (loop_start control place) → HasLoop q place control body r → HR q r → (m : List ℕ) → Follows q (stmt_way (free told) (Loop control (Nested body)) (items_in r) m)
  start-next q place (Times amount) body r fine h hr m = (Base (Turns place (Times amount) (next_way m) true body r), refl, ((tt, fine.1), (h, hr)))
  start-next q place (Until false test) body r fine h hr m = (Base (Turns place (Until false test) 0 true body r), refl, ((tt, fine.1), (h, hr)))
  start-next q place (Until true test) body r fine h hr m = (Base (inner place (Until true test) body r), refl, (subst FineTree h.0 (fine-at (loop_head_label place) fine.1), loop-has q place (Until true test) body r h hr))
  start-next q place (Varying false set stp test) body r fine h hr m = (Base (Turns place (Varying false set stp test) 0 false body r), refl, ((tt, fine.1), (h, hr)))
  start-next q place (Varying true set stp test) body r fine h hr m = (Base (inner place (Varying true set stp test) body r), refl, (subst FineTree h.0 (fine-at (loop_head_label place) fine.1), loop-has q place (Varying true set stp test) body r h hr))

  stmt-next : (q place : ℕ) (s : Stmt) (r : Rest) → FineTree (build_stmt told places s place (Sn q r) (Lf q r) (Tr q r)) → HasIn q place s r → HR q r → OwnStmt told count s → (m : List ℕ) → Follows q (stmt_way (free told) s (items_in r) m)
  stmt-next q place (language.Do act) r fine h hr own m =
      (elim (skips told act) as (λ b. FineTree (if b then Tr q r else push told places (language.Do act) (Tr q r)) → Good q (items_in r)) [
        | true ↦ λ fine. (Base r, refl, (fine, hr))
        | false ↦ λ fine. push-next q (language.Do act) r fine hr refl own m
      ]) fine
  stmt-next q place (Choose picker arms) r fine h hr own m =
      let trees = build_arms told places (first_is_dead told picker) arms (place + 1) (Sn q r) (Lf q r) in
      (elim (whole (cut told (Choose picker arms))) as (λ b. whole (cut told (Choose picker arms)) ≡ b → FineTree (if b then push told places (Choose picker arms) (Tr q r) else end_alone (Pick picker trees)) → Follows q (stmt_way (free told) (Choose picker arms) (items_in r) m)) [
        | true ↦ λ is fine. push-next q (Choose picker arms) r fine hr is own m
        | false ↦ λ is fine. pick-follows q picker (arm_count arms) (λ k. before_arm arms k (items_in r)) own.0 (λ k may. arm-next q (place + 1) arms (first_is_dead told picker) k r fine.1 h hr (dead-missing picker arms own) may) m
      ]) refl fine
  stmt-next q place (Loop control (Nested body)) r fine h hr own m =
      (elim (wholes (cuts told body)) as (λ b. wholes (cuts told body) ≡ b → FineTree (if b then push told places (Loop control (Nested body)) (Tr q r) else loop_start control place) → Follows q (stmt_way (free told) (Loop control (Nested body)) (items_in r) m)) [
        | true ↦ λ is fine. push-next q (Loop control (Nested body)) r fine hr is own m
        | false ↦ λ is fine. start-next q place control body r fine h hr m
      ]) refl fine
  stmt-next q place (Loop control (Performed e x)) r fine h hr own m = push-next q (Loop control (Performed e x)) r fine hr refl own m
  stmt-next q place (Perform e x) r fine h hr own m = push-next q (Perform e x) r fine hr refl own m
  stmt-next q place (Go to) r fine h hr own m = (fine.1, own)
  stmt-next q place (GoDepending to on) r fine h hr own m = one-next q to (arm_for (told.width on) (told.never_first on) (next_way m)) r _ fine.1 hr own.1
  stmt-next q place NextSentence r fine h hr own m = subst (Good q) (sym (past-items r)) (resume q (after_sentence r) (has-after graph told places (ending q) r hr) fine.1)
  stmt-next q place ExitParagraph r fine h hr own m = (Base rests.Over, refl, ((tt, fine.1), tt))
  stmt-next q place (ExitSection last) r fine h hr own m = fine.1
  stmt-next q place (ExitPerform false) r fine h hr own m = subst (Good q) (sym (loop-items false r)) (resume q (after_loop r) (has-behind graph told places (ending q) r hr) fine.1)
  stmt-next q place (ExitPerform true) r fine h hr own m = subst (Good q) (sym (loop-items true r)) (resume q (at_loop r) (has-turn graph told places (ending q) r hr) fine.1)
  stmt-next q place StopRun r fine h hr own m = tt

  -- at a continuation
  runs-on : (q place : ℕ) (s : Stmt) (ss : Stmts) (r : Rest) → HR q (From place (also s ss) r) → IsReached family range (point place) → OwnStmt told count s → (m : List ℕ) → Follows q (stmt_way (free told) s (before ss (items_in r)) m)
  runs-on q place s ss r h e own m =
      let ok = point-frame q place s ss r h e in
      subst (λ xs. Follows q (stmt_way (free told) s (before ss xs) m)) (items-uncut r)
      (stmt-next q place s (From (place + size s) ss (uncut r)) ok.0 (in-has q place s ss (uncut r) ok.1) (later-has q place s ss (uncut r) ok.1) own m)

  cut-next-from : (q place : ℕ) (ss : Stmts) (r : Rest) → (FineEnd (Lf q r) → Next q (items_in r)) → HR q (From place ss r) → FineEnd (leaf told places ss place (Lf q r)) → FitsIn told program source (before ss (items_in r)) → Next q (before ss (items_in r))
  cut-next-from q place none r g h e fit = g e
  cut-next-from q place (also (language.Do act) ss) r g h e fit = λ m.
      (elim (skips told act) as (λ b. FineEnd (if b then leaf told places ss (place + 1) (Lf q r) else Jump (point place)) → Good q (before ss (items_in r))) [
        | true ↦ λ e. resume-from q (place + 1) ss r (resume q r h.1) (later-has q place (language.Do act) ss r h) e
        | false ↦ λ e. runs-on q place (language.Do act) ss r h e fit.0 m
      ]) e
  cut-next-from q place (also (Choose picker arms) ss) r g h e fit = λ m. runs-on q place (Choose picker arms) ss r h e fit.0 m
  cut-next-from q place (also (Loop control body) ss) r g h e fit = λ m. runs-on q place (Loop control body) ss r h e fit.0 m
  cut-next-from q place (also (Perform en x) ss) r g h e fit = λ m. runs-on q place (Perform en x) ss r h e fit.0 m
  cut-next-from q place (also (Go to) ss) r g h e fit = λ m. (e, fit.0)
  cut-next-from q place (also (GoDepending to on) ss) r g h e fit = λ m. runs-on q place (GoDepending to on) ss r h e fit.0 m
  cut-next-from q place (also NextSentence ss) r g h e fit = λ m. runs-on q place NextSentence ss r h e fit.0 m
  cut-next-from q place (also ExitParagraph ss) r g h e fit = λ m. runs-on q place ExitParagraph ss r h e fit.0 m
  cut-next-from q place (also (ExitSection last) ss) r g h e fit = λ m. runs-on q place (ExitSection last) ss r h e fit.0 m
  cut-next-from q place (also (ExitPerform cycle) ss) r g h e fit = λ m. runs-on q place (ExitPerform cycle) ss r h e fit.0 m
  cut-next-from q place (also StopRun ss) r g h e fit = λ m. tt

  drop-fits : (ss : Stmts) (xs : List Item) → FitsIn told program source (before ss xs) → FitsIn told program source xs
  drop-fits none xs f = f
  drop-fits (also s ss) xs f = drop-fits ss xs f.2

  cut-next : (q : ℕ) (c : Rest) → HR q c → FineEnd (Lf q c) → FitsIn told program source (items_in c) → Next q (items_in c)
  cut-next q rests.Over h e fit = e
  cut-next q (From place ss r) h e fit = cut-next-from q place ss r (λ k. cut-next q r h.1 k (drop-fits ss (items_in r) fit)) h e fit
  cut-next q (Sent holds r) h e fit = λ m. resume q r h e
  cut-next q (Turns place control left reached body r) h e fit = λ m. turn-next q place control left reached body r e h.0 h.1 m
  cut-next q (Cut r) h e fit = cut-next q r h e fit

  rest-next : (q : ℕ) (c : Rest) → FineTree (Tr q c) → HR q c → FitsIn told program source (items_in c) → Next q (items_in c)
  rest-next q rests.Over fine h fit = fine.1
  rest-next q (From place none r) fine h fit = rest-next q r fine h.1 fit
  rest-next q (From place (also s ss) r) fine h fit = λ m. stmt-next q place s (From (place + size s) ss r) fine (in-has q place s ss r h) (later-has q place s ss r h) fit.0 m
  rest-next q (Sent true r) fine h fit = λ m. resume q r h fine.1
  rest-next q (Sent false r) fine h fit = λ m. (Base r, refl, (fine, h))
  rest-next q (Turns place control left reached body r) fine h fit = λ m. turn-next q place control left reached body r fine.1 h.0 h.1 m
  rest-next q (Cut r) fine h fit = cut-next q r h fine.1 fit

  behind-in : (q : ℕ) (s : Stmt) (ss : Stmts) (f : Frame) → Ok q (In (also s ss) f) → FineStmt (cut told s) × (whole (cut told s) ≡ true) × (completes told s ≡ true → Ok q (In ss f))
  behind-in q s ss f ok =
      (elim (completes told s) as (λ b. completes told s ≡ b → (FineStmt (cut told s) × FineStmts (if b then cuts told ss else none)) → (if whole (cut told s) then wholes (if b then cuts told ss else none) else false) ≡ true → ((if b then complete told ss else false) ≡ true → Ok q f) →
      FineStmt (cut told s) × (whole (cut told s) ≡ true) × (completes told s ≡ true → Ok q (In ss f))) [
        | true ↦ λ is fine w h. let both = split (whole (cut told s)) (wholes (cuts told ss)) w in (fine.0, both.0, λ c. (fine.1, both.1, h))
        | false ↦ λ is fine w h. (fine.0, (split (whole (cut told s)) (wholes none) w).0, λ c. absurd (let z : true ≡ false = sym c ∙ is in cc))
      ]) refl ok.0 ok.1 ok.2

  next : (q : ℕ) (f : Frame) → Ok q f → FitsIn told program source (items_of_frame f) → Next q (items_of_frame f)
  next q (Base c) ok fit = rest-next q c ok.0 ok.1 fit
  next q (In none f) ok fit = next q f (ok.2 refl) fit
  next q (In (also s ss) f) ok fit = λ m. (let b = behind-in q s ss f ok in inside q s (In ss f) b.0 b.1 b.2 fit.0 m)
  next q (Round t body f) ok fit = λ m. turn-inside q t body f ok.0 ok.1 ok.2 m

  good-next : (q : ℕ) (items : List Item) → Good q items → FitsIn told program source items → Next q items
  good-next q items g fit = subst (Next q) g.1 (next q g.0 g.2 (subst (FitsIn told program source) (sym g.1) fit))

  paragraph-good : (q : ℕ) → q < count → IsReached family range (point (places q)) → Good q (rest_of program q)
  paragraph-good q lt e =
      (Base (rest_from told (places q + 1) (paragraph_at program q)), items-from told (places q + 1) (paragraph_at program q), (subst FineTree (low.at range q lt) (fine-at (point (places q)) e), low.has range q lt))

below-found : (ps : List Paragraph) (k : ℕ) (found : Paragraph) → slice_get ps k ≡ Some found → k < length ps
below-found [] k found is = cc
below-found (x ∷ xs) zero found is = omega arith
below-found (x ∷ xs) (suc k) found is = let e = below-found xs k found is in omega (arith, e)

ends-on : (program : Program) (r : Range) (n : ℕ) (found : Paragraph) → slice_get program.paragraphs (suc n) ≡ Some found → IsNoExit r n → paragraph_end_target (place_in program) program r n ≡ Jump (point (place_in program (suc n)))
ends-on program Main n found is out = ap (fall_leaf (place_in program) n) is
ends-on program (Part e x) n found is out = ap (λ b. if b then Return else fall_leaf (place_in program) n (slice_get program.paragraphs (suc n))) out ∙ ap (fall_leaf (place_in program) n) is

module _ (told : FlowFacts) (program : Program) (source : IsSource told program) (some : GivesSome told) (returning : NamesWhatReturns told program) where
  fit-here : (r : Range) (q : ℕ) (rest : List Item) → FreelyComes told program r q rest → FitsIn told program source rest
  fit-here r q rest c = comes-fits told program source (free told) 0 (rest_of program 0) (rest-fits told program source 0) r q rest c

  come-good : (range : Range) (q : ℕ) (rest : List Item) → FreelyComes told program range q rest → entry_of range < length program.paragraphs → IsEntered told program range → Good told program source some range q rest
  come-good range q rest begins lt here = paragraph-good told program source some Main 0 lt entered
  come-good range q rest (enters e x) lt here = paragraph-good told program source some (Part e x) e lt entered
  come-good range q rest (goes_on r n item others m t after items c is) lt here =
      subst (Follows told program source some r n) is (good-next told program source some r n (item ∷ others) (come-good r n (item ∷ others) c lt here) (fit-here r n (item ∷ others) c) m)
  come-good range q rest (goes_to r n item others m t after to c is) lt here =
      let f = subst (Follows told program source some r n) is (good-next told program source some r n (item ∷ others) (come-good r n (item ∷ others) c lt here) (fit-here r n (item ∷ others) c) m) in
      paragraph-good told program source some r to f.1 f.0
  come-good range q rest (goes_to_end r n item others m t after to c is) lt here =
      let f = subst (Follows told program source some r n) is (good-next told program source some r n (item ∷ others) (come-good r n (item ∷ others) c lt here) (fit-here r n (item ∷ others) c) m) in
      (Base rests.Over, refl, ((tt, f), tt))
  come-good range q rest (over r n item others m e x items c is d) lt here =
      (subst (Follows told program source some r n) is (good-next told program source some r n (item ∷ others) (come-good r n (item ∷ others) c lt here) (fit-here r n (item ∷ others) c) m)).1 (returning e x (freely-entered told program r n item others m e x items here c is) d)
  come-good range q rest (falls r n found is out c) lt here =
      let e = good-next told program source some r n [] (come-good r n [] c lt here) (fit-here r n [] c) in
      paragraph-good told program source some r (suc n) (below-found program.paragraphs (suc n) found is) (subst (FineEnd told program source some r) (ends-on program r n found is out) e)

pub called-stands : WhatIsCalledStands
called-stands = λ told program source some returning range lt here entry exit called.
    (good-next told program source some range called.0 (Do (Perform entry exit) ∷ called.1) (come-good told program source some returning range called.0 (Do (Perform entry exit) ∷ called.1) called.2 lt here)
    (fit-here told program source some returning range called.0 (Do (Perform entry exit) ∷ called.1) called.2) []).0

-- at its exit the range returns
exit-returns : (program : Program) (e x : ℕ) → paragraph_end_target (place_in program) program (Part e x) x ≡ Return
exit-returns program e x = ap (λ b. if b then Return else fall_leaf (place_in program) x (slice_get program.paragraphs (suc x))) (eq-self x)

pub returns-stand : (told : FlowFacts) (program : Program) → IsSource told program → GivesSome told → NamesWhatReturns told program → (entry exit : ℕ) → IsRangeOf program (Part entry exit) → IsEntered told program (Part entry exit) → FreelyComes told program (Part entry exit) exit [] → (label : Label) × IsReached (lowered told program) (Part entry exit) label × (tree_returns ((lowered told program).node (Part entry exit) label) ≡ true)
returns-stand = λ told program source some returning entry exit lt here comes.
    let range = Part entry exit in
    let end = good-next told program source some range exit [] (come-good told program source some returning range exit [] comes lt here)
    (fit-here told program source some returning range exit [] comes) in
    subst (FineEnd told program source some range) (exit-returns program entry exit) end
