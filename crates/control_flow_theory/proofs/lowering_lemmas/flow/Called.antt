-- A reached node performs only what its range's level calls.
use Rattle.std.proofs.Common.{◌≡◌, ℕ, zero, suc, ◌+◌, ◌<◌, Bool, true, false, if◌then◌else◌, nat_eq, List, [], ◌∷◌, refl, ap, sym, ◌∙◌, subst, arith, ◌⊎◌, inl, inr, Option, Some, None}
use Rattle.std.specs.Prelude.{slice_get, length}
use Rattle.control_flow_theory.specs.language.Language.{Act, Take, Lower, Test, Above, If, Control, Times, Until, Varying, Picker, By, Stmt, Choose, Loop, Perform, Go, GoDepending, NextSentence, ExitParagraph, ExitSection, ExitPerform, StopRun, Stmts, none, also, Arms, done, given, missing, Body, Nested, Performed, Paragraph, Program, paragraph_at, Range, Main, Part}
use Rattle.control_flow_theory.specs.language.Language as language
use Rattle.control_flow_theory.specs.language.Items.{Turning, Counted, Tests, Steps, StepsAfter, Item, Do, SentenceEnd, Turn, before, before_body, before_arm, past_sentence, from_loop}
use Rattle.control_flow_theory.specs.semantics.Items.{On, way_after, tried, to_one, item_way}
use Rattle.control_flow_theory.specs.semantics.Source.{rest_of}
use Rattle.control_flow_theory.specs.semantics.Graph.{Label, Tree, tree, End, Pick, Jump, Return, Stop, Dead, Trees, no_more, more, end_of, Family}
use Rattle.control_flow_theory.specs.lowering.FlowFacts.{FlowFacts, IsSource, IsFirstMissing, MayGive, OwnStmt, OwnStmts, OwnArms, AllBelow, arm_count}
use Rattle.control_flow_theory.specs.lowering.Completes.{completes, cut, cuts, cut_arms, whole, wholes, size, sizes, skips, first_is_dead}
use Rattle.control_flow_theory.specs.lowering.Lower.{point, loop_head_label, loop_step_label, end_alone, with_first, push, leaf, leaf_stmt, build, build_stmt, build_arms, depending, loop_start, loop_nodes, nodes, nodes_in, nodes_of_arms, fall_leaf, paragraph_end_target, EscapeTargets, leaving_at, within_loop}
use Rattle.control_flow_theory.specs.lowering.Rests.{Rest, From, Sent, Turns, Cut, turning_of, items_in, to_turn, after_sentence, uncut, rest_from, leaf_of, leaving_of, tree_of, Has, HasRest}
use Rattle.control_flow_theory.specs.lowering.Rests as rests
use Rattle.control_flow_theory.specs.lowering.flow.Comes.{begins, enters, goes_to, falls, entry_of, IsLowered, goes_to_end}
use Rattle.control_flow_theory.specs.lowering.Lowered.{place_in, lowered}
use Rattle.control_flow_theory.specs.lowering.Reached.{JumpsTo, ArmsJumpTo, IsReached, entered, jumped}
use Rattle.control_flow_theory.specs.lowering.flow.Paths.{free}
use Rattle.control_flow_theory.specs.lowering.flow.Entered.{FreelyComes}
use Rattle.control_flow_theory.specs.lowering.flow.Called.{CallsStmt, CallsStmts, CallsArms, CallsEnd, CallsTrees, CallsTree}
use Rattle.control_flow_theory.proofs.lowering_lemmas.rests.Fits.{FitsIn, comes-fits, rest-fits}
use Rattle.control_flow_theory.proofs.lowering_lemmas.rests.Counters.{has-left, has-right, past-before, loop-before, items-from, items-uncut, has-uncut, built-uncut}
use Rattle.control_flow_theory.proofs.lowering_lemmas.graphs.Families.{lowered-is-lowered}
use Rattle.control_flow_theory.proofs.lowering_lemmas.flow.Passes.{missing-first, way-of, to-arm, by-ways, stmt-passes}

abbrev or_zero : Option ℕ → ℕ
or_zero None = 0
or_zero (Some n) = n

module _ (told : FlowFacts) (program : Program) (source : IsSource told program) (exact : (entry exit : ℕ) → told.returning entry exit ≡ true → FreelyComes told program (Part entry exit) exit []) (range : Range) where
  abbrev count : ℕ
  count = length program.paragraphs

  abbrev C : ℕ → List Item → Type 0
  C q rest = FreelyComes told program range q rest

  step : (q : ℕ) (item : Item) (rest items : List Item) (ways later : List ℕ) → item_way (free told) item rest ways ≡ On [] later items → C q (item ∷ rest) → C q items
  step q item rest items ways later e c = by-ways told program count 0 (rest_of program 0) exact range q item rest items ways later e c

  passes : (q : ℕ) (s : Stmt) (rest : List Item) → OwnStmt told count s → completes told s ≡ true → C q (Do s ∷ rest) → C q rest
  passes q s rest own k c = stmt-passes told program count 0 (rest_of program 0) exact range q s rest own k c

  arm-comes : (q : ℕ) (picker : Picker) (arms : Arms) (rest : List Item) → OwnStmt told count (Choose picker arms) → C q (Do (Choose picker arms) ∷ rest) → (k : ℕ) → MayGive (arm_count arms) (first_is_dead told picker) k → C q (before_arm arms k rest)
  arm-comes q picker arms rest own c k may = to-arm told program count 0 (rest_of program 0) exact range q picker arms k rest own.0 may c

  -- the body of a loop is come to, with its remainder behind it
  loop-in : (q : ℕ) (control : Control) (body : Body) (rest : List Item) → C q (Do (Loop control body) ∷ rest) → (turning : Turning) × C q (before_body body (Turn turning body ∷ rest))
  loop-in q (Times amount) body rest c =
      (Counted 0, step q (Turn (Counted 1) body) rest (before_body body (Turn (Counted 0) body ∷ rest)) [] [] refl (step q (Do (Loop (Times amount) body)) rest (Turn (Counted 1) body ∷ rest) (1 ∷ []) [] refl c))
  loop-in q (Until false test) body rest c =
      (Tests test, step q (Turn (Tests test) body) rest (before_body body (Turn (Tests test) body ∷ rest)) (1 ∷ []) [] refl (step q (Do (Loop (Until false test) body)) rest (Turn (Tests test) body ∷ rest) [] [] refl c))
  loop-in q (Until true test) body rest c = (Tests test, step q (Do (Loop (Until true test) body)) rest (before_body body (Turn (Tests test) body ∷ rest)) [] [] refl c)
  loop-in q (Varying false set stp test) body rest c =
      (Steps true stp test, step q (Turn (Steps false stp test) body) rest (before_body body (Turn (Steps true stp test) body ∷ rest)) (1 ∷ []) [] refl (step q (Do (Loop (Varying false set stp test) body)) rest (Turn (Steps false stp test) body ∷ rest) [] [] refl c))
  loop-in q (Varying true set stp test) body rest c = (StepsAfter stp test, step q (Do (Loop (Varying true set stp test) body)) rest (before_body body (Turn (StepsAfter stp test) body ∷ rest)) [] [] refl c)

  -- What is nested in a statement that is come to is called, as far as the statement isn't cut.

  mutual
    stmt-called : (q : ℕ) (s : Stmt) (rest : List Item) → OwnStmt told count s → C q (Do s ∷ rest) → CallsStmt told program range (cut told s)
    stmt-called q (language.Do act) rest own c = tt
    stmt-called q (Choose picker arms) rest own c = arms-called q arms (first_is_dead told picker) rest own.1 (missing-first told program count 0 (rest_of program 0) picker arms own.2) (arm-comes q picker arms rest own c)
    stmt-called q (Loop control (Nested body)) rest own c = let l = loop-in q control (Nested body) rest c in stmts-called q body (Turn l.0 (Nested body) ∷ rest) own.1 l.1
    stmt-called q (Loop control (Performed e x)) rest own c = let l = loop-in q control (Performed e x) rest c in (q, Turn l.0 (Performed e x) ∷ rest, l.1)
    stmt-called q (Perform e x) rest own c = (q, rest, c)
    stmt-called q (Go to) rest own c = tt
    stmt-called q (GoDepending to on) rest own c = tt
    stmt-called q NextSentence rest own c = tt
    stmt-called q ExitParagraph rest own c = tt
    stmt-called q (ExitSection last) rest own c = tt
    stmt-called q (ExitPerform cycle) rest own c = tt
    stmt-called q StopRun rest own c = tt

    stmts-called : (q : ℕ) (ss : Stmts) (rest : List Item) → OwnStmts told count ss → C q (before ss rest) → CallsStmts told program range (cuts told ss)
    stmts-called q none rest own c = tt
    stmts-called q (also s ss) rest own c = (
      stmt-called q s (before ss rest) own.0 c,
      (elim (completes told s) as (λ b. completes told s ≡ b → CallsStmts told program range (if b then cuts told ss else none)) [
        | true ↦ λ is. stmts-called q ss rest own.1 (passes q s (before ss rest) own.0 is c)
        | false ↦ λ is. tt
      ]) refl,
    )

    arms-called : (q : ℕ) (arms : Arms) (dead : Bool) (rest : List Item) → OwnArms told count arms → (dead ≡ true → IsFirstMissing arms) → ((k : ℕ) → MayGive (arm_count arms) dead k → C q (before_arm arms k rest)) → CallsArms told program range (cut_arms told arms)
    arms-called q done dead rest own first h = tt
    arms-called q (given arm others) true rest own first h = absurd (first refl)
    arms-called q (given arm others) false rest own first h =
        (stmts-called q arm rest own.0 (h 0 (omega arith, λ f. cc)), arms-called q others false rest own.1 (λ f. cc) (λ k may. h (suc k) (let e = may.0 in omega (arith, e), λ f. cc)))
    arms-called q (missing others) dead rest own first h = arms-called q others false rest own (λ f. cc) (λ k may. h (suc k) (let e = may.0 in omega (arith, e), λ f e. absurd (omega (arith, e))))

  abbrev places : ℕ → ℕ
  places q = place_in program q

  abbrev family : Family
  family = lowered told program

  abbrev graph : Label → Tree
  graph l = family.node range l

  low : IsLowered told program (place_in program) family
  low = lowered-is-lowered told program

  abbrev ending : ℕ → EscapeTargets
  ending q = leaving_at places program range q

  abbrev Tr : ℕ → Rest → Tree
  Tr q c = tree_of told places (ending q) c

  abbrev Lf : ℕ → Rest → End
  Lf q c = leaf_of told places (ending q) c

  abbrev Sn : ℕ → Rest → EscapeTargets
  Sn q c = leaving_of told places (ending q) c

  abbrev HR : ℕ → Rest → Type 0
  HR q c = HasRest told places graph (ending q) c

  abbrev inner : ℕ → Control → Stmts → Rest → Rest
  inner place control body c = From (place + 1) body (Turns place control 0 true body c)

  -- a loop with an escape that is passed and gone round
  abbrev LoopFacts : ℕ → ℕ → Control → Stmts → Rest → Type 0
  LoopFacts q place control body c =
      Has told places graph (nodes_in told places (Loop control (Nested body)) place (Sn q c) (Lf q c) (end_alone (Lf q c)))
      × C q (items_in c)
      × C q (items_in (inner place control body c))

  abbrev LoopsOk : ℕ → Rest → Type 0
  LoopsOk q rests.Over = Unit {0}
  LoopsOk q (From place stmts others) = LoopsOk q others
  LoopsOk q (Sent holds others) = LoopsOk q others
  LoopsOk q (Turns place control left reached body others) = (C q (items_in (Turns place control left reached body others)) → LoopFacts q place control body others) × LoopsOk q others
  LoopsOk q (Cut others) = LoopsOk q others

  abbrev LoopLabel : Control → ℕ → Label → Type 0
  LoopLabel (Times amount) place l = loop_head_label place ≡ l
  LoopLabel (Until false test) place l = loop_head_label place ≡ l
  LoopLabel (Until true test) place l = loop_step_label place ≡ l
  LoopLabel (Varying false set stp test) place l = (loop_head_label place ≡ l) ⊎ (loop_step_label place ≡ l)
  LoopLabel (Varying true set stp test) place l = loop_step_label place ≡ l

  abbrev RestKnown : Label → Type 0
  RestKnown l = (q : ℕ) × (c : Rest) × (graph l ≡ Tr q c) × HR q c × LoopsOk q c × C q (items_in c)

  abbrev LoopKnown : Label → Type 0
  LoopKnown l = (q : ℕ) × (place : ℕ) × (control : Control) × (body : Stmts) × (c : Rest) × LoopLabel control place l × LoopFacts q place control body c × HR q c × LoopsOk q c

  -- the node is the tree of a rest that is come to, or of a loop
  abbrev Known : Label → Type 0
  Known l = RestKnown l ⊎ LoopKnown l

  abbrev mutual
    GoodEnd : End → Type 0
    GoodEnd (Pick picker arms) = GoodTrees arms
    GoodEnd (Jump to) = Known to
    GoodEnd Return = Unit {0}
    GoodEnd Stop = Unit {0}
    GoodEnd Dead = Unit {0}

    GoodTrees : Trees → Type 0
    GoodTrees no_more = Unit {0}
    GoodTrees (more (tree body end) others) = CallsStmts told program range body × GoodEnd end × GoodTrees others

  abbrev GoodTree : Tree → Type 0
  GoodTree (tree body end) = CallsStmts told program range body × GoodEnd end

  trees-more : (t : Tree) (ts : Trees) → GoodTree t → GoodTrees ts → GoodTrees (more t ts)
  trees-more (tree body end) ts h k = (h.0, h.1, k)

  first-good : (s : Stmt) (t : Tree) → CallsStmt told program range s → GoodTree t → GoodTree (with_first s t)
  first-good s (tree body end) k h = ((k, h.0), h.1)

  push-good : (s : Stmt) (t : Tree) → CallsStmt told program range (cut told s) → (completes told s ≡ true → GoodTree t) → GoodTree (push told places s t)
  push-good s t k h =
      (elim (completes told s) as (λ b. completes told s ≡ b → GoodTree (if b then with_first (cut told s) t else tree (also (cut told s) none) Dead)) [
        | true ↦ λ is. first-good (cut told s) t k (h is)
        | false ↦ λ is. ((k, tt), tt)
      ]) refl

  loops-from : (q place : ℕ) (ss : Paragraph) → LoopsOk q (rest_from told place ss)
  loops-from q place [] = tt
  loops-from q place (s ∷ ss) = loops-from q (place + sizes s) ss

  paragraph-known : (q : ℕ) → q < count → C q (rest_of program q) → Known (point (places q))
  paragraph-known q lt c =
      inl (
        q,
        rest_from told (places q + 1) (paragraph_at program q),
        low.at range q lt,
        low.has range q lt,
        loops-from q (places q + 1) (paragraph_at program q),
        subst (C q) (sym (items-from told (places q + 1) (paragraph_at program q))) c,
      )

  fits-here : (q : ℕ) (rest : List Item) → C q rest → FitsIn told program source rest
  fits-here q rest c = comes-fits told program source (free told) 0 (rest_of program 0) (rest-fits told program source 0) range q rest c

  facts-uncut : (q place : ℕ) (control : Control) (body : Stmts) (c : Rest) → LoopFacts q place control body c → LoopFacts q place control body (uncut c)
  facts-uncut q place control body c h = (
    subst (Has told places graph) (sym (built-uncut told places (ending q) (λ s a t. nodes_in told places (Loop control (Nested body)) place s a (end_alone a)) c)) h.0,
    subst (C q) (sym (items-uncut c)) h.1,
    subst (λ r. C q (before body (Turn (turning_of control 0 true) (Nested body) ∷ r))) (sym (items-uncut c)) h.2,
  )

  loops-uncut : (q : ℕ) (c : Rest) → LoopsOk q c → LoopsOk q (uncut c)
  loops-uncut q rests.Over h = tt
  loops-uncut q (From place stmts others) h = loops-uncut q others h
  loops-uncut q (Sent holds others) h = loops-uncut q others h
  loops-uncut q (Turns place control left reached body others) h =
      ((λ c. facts-uncut q place control body others (h.0 (subst (λ r. C q (Turn (turning_of control left reached) (Nested body) ∷ r)) (items-uncut others) c))), loops-uncut q others h.1)
  loops-uncut q (Cut others) h = loops-uncut q others h

  point-known : (q place : ℕ) (s : Stmt) (ss : Stmts) (r : Rest) → HR q (From place (also s ss) r) → LoopsOk q r → C q (items_in (From place (also s ss) r)) → Known (point place)
  point-known q place s ss r h lo c =
      inl (
        q,
        From place (also s ss) (uncut r),
        h.0.0 ∙ sym (built-uncut told places (ending q) (build told places (also s ss) place) r),
        has-uncut told places (ending q) graph (From place (also s ss) r) h,
        loops-uncut q r lo,
        subst (λ rest. C q (Do s ∷ before ss rest)) (sym (items-uncut r)) c,
      )

  -- what is said of a rest
  record Behind (q : ℕ) (c : Rest) : Type 0 where
    whole_tree : C q (items_in c) → GoodTree (Tr q c)
    continuation : C q (items_in c) → GoodEnd (Lf q c)
    past : C q (past_sentence (items_in c)) → GoodEnd (Sn q c).sentence
    leaves : C q (from_loop false (items_in c)) → GoodEnd (Sn q c).loop
    cycles : C q (from_loop true (items_in c)) → GoodEnd (Sn q c).cycle
    has : HR q c
    loops : LoopsOk q c

  behind-cut : (q : ℕ) (c : Rest) → Behind q c → Behind q (Cut c)
  behind-cut q c b = record { whole_tree = λ k. (tt, b.continuation k); continuation = b.continuation; past = b.past; leaves = b.leaves; cycles = b.cycles; has = b.has; loops = b.loops }

  later-has : (q place : ℕ) (s : Stmt) (ss : Stmts) (c : Rest) → HR q (From place (also s ss) c) → HR q (From (place + size s) ss c)
  later-has q place s ss c h =
      (has-right graph told places (nodes_in told places s place (Sn q c) (leaf told places ss (place + size s) (Lf q c)) (build told places ss (place + size s) (Sn q c) (Lf q c) (Tr q (uncut c)))) (nodes told places ss (place + size s) (Sn q c) (Lf q c) (Tr q (uncut c))) h.0.1, h.1)

  in-has : (q place : ℕ) (s : Stmt) (ss : Stmts) (c : Rest) → HR q (From place (also s ss) c) →
      (let r = From (place + size s) ss c in Has told places graph (nodes_in told places s place (Sn q r) (Lf q r) (Tr q (uncut r))))
  in-has q place s ss c h =
      subst (λ t. Has told places graph (nodes_in told places s place (Sn q c) (leaf told places ss (place + size s) (Lf q c)) t)) (sym (built-uncut told places (ending q) (build told places ss (place + size s)) c))
      (has-left graph told places (nodes_in told places s place (Sn q c) (leaf told places ss (place + size s) (Lf q c)) (build told places ss (place + size s) (Sn q c) (Lf q c) (Tr q (uncut c)))) (nodes told places ss (place + size s) (Sn q c) (Lf q c) (Tr q (uncut c))) h.0.1)

  -- the names of a GO TO DEPENDING, and the missing arm
  depending-good : (to : List ℕ) (after : End) → ((k t : ℕ) → slice_get to k ≡ Some t → Known (point (places t))) → GoodEnd after → GoodTrees (depending told places to after)
  depending-good [] after h w = (tt, w, tt)
  depending-good (t ∷ ts) after h w = (tt, h 0 t refl, depending-good ts after (λ k n e. h (suc k) n e) w)

  found-in : (to : List ℕ) (k t : ℕ) → slice_get to k ≡ Some t → AllBelow count to → (k < length to) × (t < count)
  found-in [] k t e below = cc
  found-in (x ∷ xs) zero t e below = (omega arith, subst (λ n. n < count) (ap (λ o. or_zero o) e) below.0)
  found-in (x ∷ xs) (suc k) t e below = let f = found-in xs k t e below.1 in (let g = f.0 in omega (arith, g), f.1)

  loop-has : (q place : ℕ) (control : Control) (body : Stmts) (r : Rest) → Has told places graph (nodes_in told places (Loop control (Nested body)) place (Sn q r) (Lf q r) (Tr q (uncut r))) → HR q r → HR q (inner place control body r)
  loop-has q place (Times amount) body r h hr =
      (has-right graph told places (loop_nodes (Times amount) place (build told places body (place + 1) (within_loop (Sn q r) (Lf q r) (Jump (loop_head_label place))) (Jump (loop_head_label place)) (end_alone (Jump (loop_head_label place)))) (Lf q r)) (nodes told places body (place + 1) (within_loop (Sn q r) (Lf q r) (Jump (loop_head_label place))) (Jump (loop_head_label place)) (end_alone (Jump (loop_head_label place)))) h, (h, hr))
  loop-has q place (Until false test) body r h hr =
      (has-right graph told places (loop_nodes (Until false test) place (build told places body (place + 1) (within_loop (Sn q r) (Lf q r) (Jump (loop_head_label place))) (Jump (loop_head_label place)) (end_alone (Jump (loop_head_label place)))) (Lf q r)) (nodes told places body (place + 1) (within_loop (Sn q r) (Lf q r) (Jump (loop_head_label place))) (Jump (loop_head_label place)) (end_alone (Jump (loop_head_label place)))) h, (h, hr))
  loop-has q place (Until true test) body r h hr =
      (has-right graph told places (loop_nodes (Until true test) place (build told places body (place + 1) (within_loop (Sn q r) (Lf q r) (Jump (loop_step_label place))) (Jump (loop_step_label place)) (end_alone (Jump (loop_step_label place)))) (Lf q r)) (nodes told places body (place + 1) (within_loop (Sn q r) (Lf q r) (Jump (loop_step_label place))) (Jump (loop_step_label place)) (end_alone (Jump (loop_step_label place)))) h, (h, hr))
  loop-has q place (Varying false set stp test) body r h hr =
      (has-right graph told places (loop_nodes (Varying false set stp test) place (build told places body (place + 1) (within_loop (Sn q r) (Lf q r) (Jump (loop_step_label place))) (Jump (loop_step_label place)) (end_alone (Jump (loop_step_label place)))) (Lf q r)) (nodes told places body (place + 1) (within_loop (Sn q r) (Lf q r) (Jump (loop_step_label place))) (Jump (loop_step_label place)) (end_alone (Jump (loop_step_label place)))) h, (h, hr))
  loop-has q place (Varying true set stp test) body r h hr =
      (has-right graph told places (loop_nodes (Varying true set stp test) place (build told places body (place + 1) (within_loop (Sn q r) (Lf q r) (Jump (loop_step_label place))) (Jump (loop_step_label place)) (end_alone (Jump (loop_step_label place)))) (Lf q r)) (nodes told places body (place + 1) (within_loop (Sn q r) (Lf q r) (Jump (loop_step_label place))) (Jump (loop_step_label place)) (end_alone (Jump (loop_step_label place)))) h, (h, hr))

  -- a loop with an escape that is come to
  start-good : (q place : ℕ) (control : Control) (body : Stmts) (r : Rest) → Has told places graph (nodes_in told places (Loop control (Nested body)) place (Sn q r) (Lf q r) (Tr q (uncut r))) → HR q r → LoopsOk q r →
      C q (Do (Loop control (Nested body)) ∷ items_in r) → GoodTree (loop_start control place)
  start-good q place (Times amount) body r h hr lo c =
      let x = Do (Loop (Times amount) (Nested body)) in (
        (tt, tt),
        inr (
          q,
          place,
          Times amount,
          body,
          r,
          refl,
          (
            h,
            step q (Turn (Counted 0) (Nested body)) (items_in r) (items_in r) [] [] refl (step q x (items_in r) (Turn (Counted 0) (Nested body) ∷ items_in r) (0 ∷ []) [] refl c),
            step q (Turn (Counted 1) (Nested body)) (items_in r) (before body (Turn (Counted 0) (Nested body) ∷ items_in r)) [] [] refl (step q x (items_in r) (Turn (Counted 1) (Nested body) ∷ items_in r) (1 ∷ []) [] refl c),
          ),
          hr,
          lo,
        ),
      )
  start-good q place (Until false test) body r h hr lo c =
      let turn = Turn (Tests test) (Nested body) in
      let k = step q (Do (Loop (Until false test) (Nested body))) (items_in r) (turn ∷ items_in r) [] [] refl c in
      (tt, inr (q, place, Until false test, body, r, refl, (h, step q turn (items_in r) (items_in r) (0 ∷ []) [] refl k, step q turn (items_in r) (before body (turn ∷ items_in r)) (1 ∷ []) [] refl k), hr, lo))
  start-good q place (Until true test) body r h hr lo c =
      let turn = Turn (Tests test) (Nested body) in (
        tt,
        inl (
          q,
          inner place (Until true test) body r,
          h.0,
          loop-has q place (Until true test) body r h hr,
          ((λ k. (h, step q turn (items_in r) (items_in r) (0 ∷ []) [] refl k, step q turn (items_in r) (before body (turn ∷ items_in r)) (1 ∷ []) [] refl k)), lo),
          step q (Do (Loop (Until true test) (Nested body))) (items_in r) (before body (turn ∷ items_in r)) [] [] refl c,
        ),
      )
  start-good q place (Varying false set stp test) body r h hr lo c =
      let turn = Turn (Steps false stp test) (Nested body) in
      let k = step q (Do (Loop (Varying false set stp test) (Nested body))) (items_in r) (turn ∷ items_in r) [] [] refl c in
      ((tt, tt), inr (q, place, Varying false set stp test, body, r, inl refl, (h, step q turn (items_in r) (items_in r) (0 ∷ []) [] refl k, step q turn (items_in r) (before body (Turn (Steps true stp test) (Nested body) ∷ items_in r)) (1 ∷ []) [] refl k), hr, lo))
  start-good q place (Varying true set stp test) body r h hr lo c =
      let turn = Turn (StepsAfter stp test) (Nested body) in (
        (tt, tt),
        inl (
          q,
          inner place (Varying true set stp test) body r,
          h.0,
          loop-has q place (Varying true set stp test) body r h hr,
          ((λ k. (h, step q turn (items_in r) (items_in r) (0 ∷ []) [] refl k, step q turn (items_in r) (before body (turn ∷ items_in r)) (1 ∷ []) [] refl k)), lo),
          step q (Do (Loop (Varying true set stp test) (Nested body))) (items_in r) (before body (turn ∷ items_in r)) [] [] refl c,
        ),
      )

  below-found : (ps : List Paragraph) (k : ℕ) (next : Paragraph) → slice_get ps k ≡ Some next → k < length ps
  below-found [] k next is = cc
  below-found (x ∷ xs) zero next is = omega arith
  below-found (x ∷ xs) (suc k) next is = let e = below-found xs k next is in omega (arith, e)

  fall-good : (r : Range) (q : ℕ) (found : Option Paragraph) → slice_get program.paragraphs (suc q) ≡ found → ((next : Paragraph) → slice_get program.paragraphs (suc q) ≡ Some next → C (suc q) (rest_of program (suc q))) → GoodEnd (fall_leaf places q found)
  fall-good r q None is h = tt
  fall-good r q (Some next) is h = paragraph-known (suc q) (below-found program.paragraphs (suc q) next is) (h next is)

  end-good : (r : Range) (q : ℕ) → FreelyComes told program r q [] → ((number : ℕ) (rest : List Item) → FreelyComes told program r number rest → C number rest) → GoodEnd (paragraph_end_target places program r q)
  end-good Main q c same = fall-good Main q (slice_get program.paragraphs (suc q)) refl (λ next is. same (suc q) (rest_of program (suc q)) (falls Main q next is tt c))
  end-good (Part e x) q c same =
      (elim (nat_eq x q) as (λ b. nat_eq x q ≡ b → GoodEnd (if b then Return else fall_leaf places q (slice_get program.paragraphs (suc q)))) [
        | true ↦ λ out. tt
        | false ↦ λ out. fall-good (Part e x) q (slice_get program.paragraphs (suc q)) refl (λ next is. same (suc q) (rest_of program (suc q)) (falls (Part e x) q next is out c))
      ]) refl

  ends-here : (q : ℕ) → C q [] → GoodEnd (ending q).paragraph
  ends-here q c = end-good range q c (λ number rest k. k)

  mutual
    stmt-good : (q place : ℕ) (s : Stmt) (r : Rest) → Behind q r → Has told places graph (nodes_in told places s place (Sn q r) (Lf q r) (Tr q (uncut r))) → OwnStmt told count s → C q (Do s ∷ items_in r) →
        GoodTree (build_stmt told places s place (Sn q r) (Lf q r) (Tr q r))
    stmt-good q place (language.Do act) r b h own c =
        elim (skips told act) as (λ k. GoodTree (if k then Tr q r else push told places (language.Do act) (Tr q r))) [
          | true ↦ b.whole_tree (passes q (language.Do act) (items_in r) own refl c)
          | false ↦ push-good (language.Do act) (Tr q r) tt (λ k. b.whole_tree (passes q (language.Do act) (items_in r) own k c))
        ]
    stmt-good q place (Choose picker arms) r b h own c =
        let trees = build_arms told places (first_is_dead told picker) arms (place + 1) (Sn q r) (Lf q r) in
        (elim (whole (cut told (Choose picker arms))) as (λ k. GoodTree (if k then push told places (Choose picker arms) (Tr q r) else end_alone (Pick picker trees))) [
          | true ↦ push-good (Choose picker arms) (Tr q r) (stmt-called q (Choose picker arms) (items_in r) own c) (λ k. b.whole_tree (passes q (Choose picker arms) (items_in r) own k c))
          | false ↦ (tt, arms-good q (place + 1) arms (first_is_dead told picker) r b h own.1 (missing-first told program count 0 (rest_of program 0) picker arms own.2) (arm-comes q picker arms (items_in r) own c))
        ])
    stmt-good q place (Loop control (Nested body)) r b h own c =
        (elim (wholes (cuts told body)) as (λ k. GoodTree (if k then push told places (Loop control (Nested body)) (Tr q r) else loop_start control place)) [
          | true ↦ push-good (Loop control (Nested body)) (Tr q r) (stmt-called q (Loop control (Nested body)) (items_in r) own c) (λ k. b.whole_tree (passes q (Loop control (Nested body)) (items_in r) own k c))
          | false ↦ start-good q place control body r h b.has b.loops c
        ])
    stmt-good q place (Loop control (Performed e x)) r b h own c = push-good (Loop control (Performed e x)) (Tr q r) (stmt-called q (Loop control (Performed e x)) (items_in r) own c) (λ k. b.whole_tree (passes q (Loop control (Performed e x)) (items_in r) own k c))
    stmt-good q place (Perform e x) r b h own c = push-good (Perform e x) (Tr q r) (q, items_in r, c) (λ k. b.whole_tree (passes q (Perform e x) (items_in r) own k c))
    stmt-good q place (Go to) r b h own c = (tt, paragraph-known to own (goes_to range q (Do (Go to)) (items_in r) [] [] [] to c refl))
    stmt-good q place (GoDepending to on) r b h own c = (
      tt,
      depending-good to (Lf q r)
          (λ k t e. let f = found-in to k t e own.1 in
          paragraph-known t f.1 (goes_to range q (Do (GoDepending to on)) (items_in r) (k ∷ []) [] [] t c
          (ap (λ a. tried a (λ n. to_one (free told) (slice_get to n) (items_in r))) (way-of told program count 0 (rest_of program 0) (By on) (suc (length to)) k own.0 (let g = f.0 in omega (arith, g), λ z. absurd (let y : true ≡ false = sym z ∙ own.2 in cc))) ∙ ap (λ o. way_after [] (to_one (free told) o (items_in r) [])) e)))
          (b.continuation (passes q (GoDepending to on) (items_in r) own refl c)),
    )
    stmt-good q place NextSentence r b h own c = (tt, b.past (step q (Do NextSentence) (items_in r) (past_sentence (items_in r)) [] [] refl c))
    stmt-good q place ExitParagraph r b h own c = (tt, ends-here q (step q (Do ExitParagraph) (items_in r) [] [] [] refl c))
    stmt-good q place (ExitSection last) r b h own c = (tt, end-good range last (goes_to_end range q (Do (ExitSection last)) (items_in r) [] [] [] last c refl) (λ number rest k. k))
    stmt-good q place (ExitPerform false) r b h own c = (tt, b.leaves (step q (Do (ExitPerform false)) (items_in r) (from_loop false (items_in r)) [] [] refl c))
    stmt-good q place (ExitPerform true) r b h own c = (tt, b.cycles (step q (Do (ExitPerform true)) (items_in r) (from_loop true (items_in r)) [] [] refl c))
    stmt-good q place StopRun r b h own c = (tt, tt)

    arms-good : (q place : ℕ) (arms : Arms) (dead : Bool) (r : Rest) → Behind q r → Has told places graph (nodes_of_arms told places arms place (Sn q r) (Lf q r) (Tr q (uncut r))) → OwnArms told count arms → (dead ≡ true → IsFirstMissing arms) →
        ((k : ℕ) → MayGive (arm_count arms) dead k → C q (before_arm arms k (items_in r))) → GoodTrees (build_arms told places dead arms place (Sn q r) (Lf q r))
    arms-good q place done dead r b h own first come = tt
    arms-good q place (given arm others) true r b h own first come = absurd (first refl)
    arms-good q place (given arm others) false r b h own first come =
        let xs = nodes told places arm place (Sn q r) (Lf q r) (Tr q (uncut r)) in
        let ys = nodes_of_arms told places others (place + sizes arm) (Sn q r) (Lf q r) (Tr q (uncut r)) in
        trees-more (build told places arm place (Sn q r) (Lf q r) (end_alone (Lf q r))) (build_arms told places false others (place + sizes arm) (Sn q r) (Lf q r))
        ((stmts-behind q place arm (Cut r) (behind-cut q r b) own.0 (has-left graph told places xs ys h, b.has)).whole_tree (come 0 (omega arith, λ f. cc)))
        (arms-good q (place + sizes arm) others false r b (has-right graph told places xs ys h) own.1 (λ f. cc) (λ k may. come (suc k) (let e = may.0 in omega (arith, e), λ f. cc)))
    arms-good q place (missing others) true r b h own first come = (tt, tt, arms-good q place others false r b h own (λ f. cc) (λ k may. come (suc k) (let e = may.0 in omega (arith, e), λ f e. absurd (omega (arith, e)))))
    arms-good q place (missing others) false r b h own first come = (tt, b.continuation (come 0 (omega arith, λ f. cc)), arms-good q place others false r b h own (λ f. cc) (λ k may. come (suc k) (let e = may.0 in omega (arith, e), λ f. cc)))

    stmts-behind : (q place : ℕ) (ss : Stmts) (r : Rest) → Behind q r → OwnStmts told count ss → HR q (From place ss r) → Behind q (From place ss r)
    stmts-behind q place none r b own h = record { whole_tree = b.whole_tree; continuation = b.continuation; past = b.past; leaves = b.leaves; cycles = b.cycles; has = h; loops = b.loops }
    stmts-behind q place (also s ss) r b own h =
        let b1 = stmts-behind q (place + size s) ss r b own.1 (later-has q place s ss r h) in
        record {
          whole_tree = λ c. stmt-good q place s (From (place + size s) ss r) b1 (in-has q place s ss r h) own.0 c;
          continuation = λ c. leaf-good q place s ss r b1 b.loops own.0 h c;
          past = λ c. b.past (subst (C q) (past-before ss (items_in r)) c);
          leaves = λ c. b.leaves (subst (C q) (loop-before false ss (items_in r)) c);
          cycles = λ c. b.cycles (subst (C q) (loop-before true ss (items_in r)) c);
          has = h;
          loops = b.loops;
        }

    leaf-good : (q place : ℕ) (s : Stmt) (ss : Stmts) (r : Rest) → Behind q (From (place + size s) ss r) → LoopsOk q r → OwnStmt told count s → HR q (From place (also s ss) r) → C q (items_in (From place (also s ss) r)) →
        GoodEnd (leaf_stmt told places s place (leaf told places ss (place + size s) (Lf q r)))
    leaf-good q place (language.Do act) ss r b lo own h c =
        elim (skips told act) as (λ k. GoodEnd (if k then leaf told places ss (place + 1) (Lf q r) else Jump (point place))) [
          | true ↦ b.continuation (passes q (language.Do act) (before ss (items_in r)) own refl c)
          | false ↦ point-known q place (language.Do act) ss r h lo c
        ]
    leaf-good q place (Choose picker arms) ss r b lo own h c = point-known q place (Choose picker arms) ss r h lo c
    leaf-good q place (Loop control body) ss r b lo own h c = point-known q place (Loop control body) ss r h lo c
    leaf-good q place (Perform e x) ss r b lo own h c = point-known q place (Perform e x) ss r h lo c
    leaf-good q place (Go to) ss r b lo own h c = paragraph-known to own (goes_to range q (Do (Go to)) (before ss (items_in r)) [] [] [] to c refl)
    leaf-good q place (GoDepending to on) ss r b lo own h c = point-known q place (GoDepending to on) ss r h lo c
    leaf-good q place NextSentence ss r b lo own h c = point-known q place NextSentence ss r h lo c
    leaf-good q place ExitParagraph ss r b lo own h c = point-known q place ExitParagraph ss r h lo c
    leaf-good q place (ExitSection last) ss r b lo own h c = point-known q place (ExitSection last) ss r h lo c
    leaf-good q place (ExitPerform cycle) ss r b lo own h c = point-known q place (ExitPerform cycle) ss r h lo c
    leaf-good q place StopRun ss r b lo own h c = tt

  abbrev OwnRest : Rest → Type 0
  OwnRest rests.Over = Unit {0}
  OwnRest (From place stmts others) = OwnStmts told count stmts × OwnRest others
  OwnRest (Sent holds others) = OwnRest others
  OwnRest (Turns place control left reached body others) = OwnRest others
  OwnRest (Cut others) = OwnRest others

  own-before : (ss : Stmts) (xs : List Item) → FitsIn told program source (before ss xs) → OwnStmts told count ss × FitsIn told program source xs
  own-before none xs f = (tt, f)
  own-before (also s ss) xs f = let k = own-before ss xs f.2 in ((f.0, k.0), k.1)

  own-rest : (c : Rest) → FitsIn told program source (items_in c) → OwnRest c
  own-rest rests.Over f = tt
  own-rest (From place stmts others) f = let k = own-before stmts (items_in others) f in (k.0, own-rest others k.1)
  own-rest (Sent holds others) f = own-rest others f.2
  own-rest (Turns place control left reached body others) f = own-rest others f.2
  own-rest (Cut others) f = own-rest others f

  turn-label : (control : Control) (reached : Bool) (place : ℕ) → LoopLabel control place (to_turn control reached place)
  turn-label (Times amount) reached place = refl
  turn-label (Until false test) reached place = refl
  turn-label (Until true test) reached place = refl
  turn-label (Varying false set stp test) false place = inl refl
  turn-label (Varying false set stp test) true place = inr refl
  turn-label (Varying true set stp test) reached place = refl

  sent-behind : (q : ℕ) (holds : Bool) (c : Rest) → Behind q c → Behind q (Sent holds c)
  sent-behind q true c b = record {
    whole_tree = λ k. (tt, b.continuation (step q SentenceEnd (items_in c) (items_in c) [] [] refl k));
    continuation = λ k. b.continuation (step q SentenceEnd (items_in c) (items_in c) [] [] refl k);
    past = b.continuation;
    leaves = b.leaves;
    cycles = b.cycles;
    has = b.has;
    loops = b.loops;
  }
  sent-behind q false c b = record {
    whole_tree = λ k. b.whole_tree (step q SentenceEnd (items_in c) (items_in c) [] [] refl k);
    continuation = λ k. b.continuation (step q SentenceEnd (items_in c) (items_in c) [] [] refl k);
    past = b.continuation;
    leaves = b.leaves;
    cycles = b.cycles;
    has = b.has;
    loops = b.loops;
  }

  rest-behind : (q : ℕ) (c : Rest) → HR q c → LoopsOk q c → OwnRest c → Behind q c
  rest-behind q rests.Over h lo own = record { whole_tree = λ k. (tt, ends-here q k); continuation = ends-here q; past = ends-here q; leaves = ends-here q; cycles = ends-here q; has = tt; loops = tt }
  rest-behind q (From place stmts others) h lo own = stmts-behind q place stmts others (rest-behind q others h.1 lo own.1) own.0 h
  rest-behind q (Sent holds others) h lo own = sent-behind q holds others (rest-behind q others h lo own)
  rest-behind q (Turns place control left reached body others) h lo own =
      let b = rest-behind q others h.1 lo.1 own in
      let known : C q (items_in (Turns place control left reached body others)) → Known (to_turn control reached place) =
      λ k. inr (q, place, control, body, others, turn-label control reached place, lo.0 k, h.1, lo.1) in
      record { whole_tree = λ k. (tt, known k); continuation = known; past = b.past; leaves = b.continuation; cycles = known; has = h; loops = lo }
  rest-behind q (Cut others) h lo own = behind-cut q others (rest-behind q others h lo own)

  rest-good : (q : ℕ) (c : Rest) → HR q c → LoopsOk q c → C q (items_in c) → GoodTree (Tr q c)
  rest-good q c h lo come = (rest-behind q c h lo (own-rest c (fits-here q (items_in c) come))).whole_tree come

  after-good : (q : ℕ) (c : Rest) → HR q c → LoopsOk q c → C q (items_in c) → GoodEnd (Lf q c)
  after-good q c h lo come = (rest-behind q c h lo (own-rest c (fits-here q (items_in c) come))).continuation come

  -- the nodes of a loop
  loop-good : (l : Label) (q place : ℕ) (control : Control) (body : Stmts) (c : Rest) → LoopLabel control place l → LoopFacts q place control body c → HR q c → LoopsOk q c → GoodTree (graph l)
  loop-good l q place (Times amount) body c lab f h lo =
      let inside = rest-good q (inner place (Times amount) body c) (loop-has q place (Times amount) body c f.0 h) ((λ k. f), lo) f.2 in
      subst (λ n. GoodTree (graph n)) lab (subst GoodTree (sym f.0.0) (tt, trees-more (with_first (language.Do (Lower place)) (Tr q (inner place (Times amount) body c))) (more (end_alone (Lf q c)) no_more) (first-good (language.Do (Lower place)) (Tr q (inner place (Times amount) body c)) tt inside) (tt, after-good q c h lo f.1, tt)))
  loop-good l q place (Until false test) body c lab f h lo =
      let inside = rest-good q (inner place (Until false test) body c) (loop-has q place (Until false test) body c f.0 h) ((λ k. f), lo) f.2 in
      subst (λ n. GoodTree (graph n)) lab (subst GoodTree (sym f.0.0) (tt, (tt, after-good q c h lo f.1, trees-more (Tr q (inner place (Until false test) body c)) no_more inside tt)))
  loop-good l q place (Until true test) body c lab f h lo =
      let again : Known (loop_head_label place) = inl (q, inner place (Until true test) body c, f.0.0, loop-has q place (Until true test) body c f.0 h, ((λ k. f), lo), f.2) in
      subst (λ n. GoodTree (graph n)) lab (subst GoodTree (sym f.0.1.0) (tt, (tt, after-good q c h lo f.1, (tt, again, tt))))
  loop-good l q place (Varying false set stp test) body c (inl lab) f h lo =
      let inside = rest-good q (inner place (Varying false set stp test) body c) (loop-has q place (Varying false set stp test) body c f.0 h) ((λ k. f), lo) f.2 in
      subst (λ n. GoodTree (graph n)) lab (subst GoodTree (sym f.0.0) (tt, (tt, after-good q c h lo f.1, trees-more (Tr q (inner place (Varying false set stp test) body c)) no_more inside tt)))
  loop-good l q place (Varying false set stp test) body c (inr lab) f h lo =
      let again : Known (loop_head_label place) = inr (q, place, Varying false set stp test, body, c, inl refl, f, h, lo) in
      subst (λ n. GoodTree (graph n)) lab (subst GoodTree (sym f.0.1.0) ((tt, tt), again))
  loop-good l q place (Varying true set stp test) body c lab f h lo =
      let again : Known (loop_head_label place) = inl (q, inner place (Varying true set stp test) body c, f.0.0, loop-has q place (Varying true set stp test) body c f.0 h, ((λ k. f), lo), f.2) in
      subst (λ n. GoodTree (graph n)) lab (subst GoodTree (sym f.0.1.0) (tt, (tt, after-good q c h lo f.1, ((tt, tt), again, tt))))

  node-good : (l : Label) → Known l → GoodTree (graph l)
  node-good l (inl k) = subst GoodTree (sym k.2) (rest-good k.0 k.1 k.3 k.4 k.5)
  node-good l (inr k) = loop-good l k.0 k.1 k.2 k.3 k.4 k.5 k.6 k.7 k.8

  mutual
    end-jumps : (end : End) → GoodEnd end → (to : Label) → JumpsTo to end → Known to
    end-jumps (Pick picker arms) g to j = arms-jump arms g to j
    end-jumps (Jump l) g to j = subst Known j g
    end-jumps Return g to j = absurd j
    end-jumps Stop g to j = absurd j
    end-jumps Dead g to j = absurd j

    arms-jump : (arms : Trees) → GoodTrees arms → (to : Label) → ArmsJumpTo to arms → Known to
    arms-jump no_more g to j = absurd j
    arms-jump (more (tree body end) others) g to (inl j) = end-jumps end g.1 to j
    arms-jump (more (tree body end) others) g to (inr j) = arms-jump others g.2 to j

  tree-jumps : (t : Tree) → GoodTree t → (to : Label) → JumpsTo to (end_of t) → Known to
  tree-jumps (tree body end) g to j = end-jumps end g.1 to j

  mutual
    end-calls : (end : End) → GoodEnd end → CallsEnd told program range end
    end-calls (Pick picker arms) g = arms-call arms g
    end-calls (Jump l) g = tt
    end-calls Return g = tt
    end-calls Stop g = tt
    end-calls Dead g = tt

    arms-call : (arms : Trees) → GoodTrees arms → CallsTrees told program range arms
    arms-call no_more g = tt
    arms-call (more (tree body end) others) g = (g.0, end-calls end g.1, arms-call others g.2)

  tree-calls : (t : Tree) → GoodTree t → CallsTree told program range t
  tree-calls (tree body end) g = (g.0, end-calls end g.1)

  entry-comes : (r : Range) → FreelyComes told program r (entry_of r) (rest_of program (entry_of r))
  entry-comes Main = begins
  entry-comes (Part e x) = enters e x

  reached-known : entry_of range < count → (l : Label) → IsReached family range l → Known l
  reached-known lt l entered = paragraph-known (entry_of range) lt (entry-comes range)
  reached-known lt l (jumped label to h j) = tree-jumps (graph label) (node-good label (reached-known lt label h)) to j

  pub reached-calls : entry_of range < count → (l : Label) → IsReached family range l → CallsTree told program range (graph l)
  reached-calls lt l h = tree-calls (graph l) (node-good l (reached-known lt l h))
