-- Each source step is some steps of the walk of the lowered family.
use Rattle.std.proofs.Common.{◌≡◌, ℕ, ◌+◌, ◌≤◌, Bool, true, false, if◌then◌else◌, List, [], ◌∷◌, ◌++◌, refl, ap, sym, ◌∙◌, subst, arith, append-nil}
use Rattle.control_flow_theory.specs.runs.Run.{Over}
use Rattle.control_flow_theory.specs.semantics.Outcome.{Trace, Normally, Stopped, Run}
use Rattle.control_flow_theory.specs.language.Language.{Act, Own, Set, Take, Lower, Picker, Control, Program, Stmt, Choose, Loop, Perform, Go, GoDepending, NextSentence, ExitParagraph, ExitSection, ExitPerform, StopRun, Stmts, none, also, Arms, Nested, Performed, Range, Main, Part}
use Rattle.control_flow_theory.specs.language.Language as language
use Rattle.control_flow_theory.specs.semantics.Doing.{Acting, alone}
use Rattle.control_flow_theory.specs.language.Items.{Item, Do, SentenceEnd, Turn, before, past_sentence, from_loop}
use Rattle.control_flow_theory.specs.semantics.Items.{On, tried, on, item_way}
use Rattle.control_flow_theory.specs.semantics.Source.{SourceState, rest_of, goes}
use Rattle.control_flow_theory.specs.semantics.Graph.{Tree, End, Pick, Jump, Stop, body_of, Family}
use Rattle.control_flow_theory.specs.semantics.Walk.{Walk}
use Rattle.control_flow_theory.specs.language.Own.{OwnAct}
use Rattle.control_flow_theory.specs.lowering.FlowFacts.{FlowFacts, IsTold, IsSource}
use Rattle.control_flow_theory.specs.lowering.Completes.{cut, cuts, whole, wholes, size, skips, first_is_dead}
use Rattle.control_flow_theory.specs.lowering.Lower.{EscapeTargets, end_alone, point, leaf, build, build_arms, loop_start, push, nodes, nodes_in}
use Rattle.control_flow_theory.specs.lowering.Rests.{Rest, From, Sent, Turns, Cut, turning_of, items_in, to_turn, after_sentence, after_loop, at_loop, uncut, leaf_of, leaving_of, tree_of, Has, HasRest}
use Rattle.control_flow_theory.specs.lowering.Rests as rests
use Rattle.control_flow_theory.specs.lowering.flow.Comes.{goes_on, goes_to, goes_to_end, IsLowered}
use Rattle.control_flow_theory.proofs.lowering_lemmas.rests.Stands.{cut_item, whole_item}
use Rattle.control_flow_theory.proofs.lowering_lemmas.rests.Fits.{weight, FitsIn, past-light, loop-light}
use Rattle.control_flow_theory.proofs.lowering_lemmas.rests.Joints.{Joint, joint, Both, both, rest_at, pending_of, callers_of, source_at, walk_at, source_of, walk_of, heft, IsFine, Ok, CallsNamed, NamedReturn}
use Rattle.control_flow_theory.proofs.lowering_lemmas.rests.Counters.{has-left, has-right, outside-more, past-items, loop-items, ok-after, ok-behind, ok-turn, ok-uncut, items-uncut, built-uncut}
use Rattle.control_flow_theory.proofs.lowering_lemmas.steps.Moves.{Move, Come, Right, Wait, tree_here, end_here, step_s, step_w, at_tree, met-now, ended-now, move-after, move-now, move-more, move-later, arrives, arrives-whole, here-fits, item-move, pushed-move}
use Rattle.control_flow_theory.proofs.lowering_lemmas.steps.Falls.{over-move}
use Rattle.control_flow_theory.proofs.lowering_lemmas.steps.Choices.{pick-move, depending-move}
use Rattle.control_flow_theory.proofs.lowering_lemmas.steps.Loops.{begin-move, turn-move}

module _ {Memory Left : Type 0} (acting : Acting Memory) (left : Memory → Left) (told : FlowFacts) (program : Program) (place_of : ℕ → ℕ) (family : Family) (first : ℕ) (first_rest : List Item) (Named : ℕ → ℕ → Type 0)
    (is_told : IsTold told acting) (source : IsSource told program) (lowered : IsLowered told program place_of family) (first_fits : FitsIn told program source first_rest) (names : CallsNamed acting told program place_of family first first_rest Named)
    (returning : NamedReturn acting told program place_of family first first_rest Named) where
  abbrev State : Type 0
  State = SourceState Memory Left

  abbrev Moving : ℕ → ℕ → State → Walk Memory Left → Type 0
  Moving most heavy s w = Move acting left told program place_of family first first_rest Named most heavy s w

  abbrev stepped : State → State
  stepped s = step_s acting left told program place_of family first first_rest Named s

  abbrev rest_state : Range → ℕ → List Item → List Joint → Memory → Trace → State
  rest_state range q items waiting m tr = source_at q items (pending_of range waiting) m tr

  abbrev tree_walk : Range → Tree → List Joint → Memory → (Range → ℕ → ℕ) → Trace → Walk Memory Left
  tree_walk range t waiting m cells tr = at_tree acting left told program place_of family first first_rest Named range t waiting m cells tr

  abbrev ending : Range → ℕ → EscapeTargets
  ending range q = end_here acting left told program place_of family first first_rest Named range q

  abbrev tree_for : Range → ℕ → Rest → Tree
  tree_for range q c = tree_here acting left told program place_of family first first_rest Named range q c

  abbrev Good : (Range → ℕ → ℕ) → Range → ℕ → Rest → Type 0
  Good cells range q c = Right acting left told program place_of family first first_rest Named cells range q c

  abbrev Coming : Range → ℕ → List Item → Type 0
  Coming range q items = Come acting left told program place_of family first first_rest Named range q items

  abbrev Waiting : (Range → ℕ → ℕ) → Range → List Joint → Type 0
  Waiting cells range waiting = Wait acting left told program place_of family first first_rest Named cells range waiting

  -- the source steps from this rest, the walk from this tree
  abbrev Moves : ℕ → Range → ℕ → Rest → Tree → Type 0
  Moves most range q c t = (waiting : List Joint) (m : Memory) (cells : Range → ℕ → ℕ) (tr : Trace) → Good cells range q c → Waiting cells range waiting → Coming range q (items_in c) →
      IsFine (stepped (rest_state range q (items_in c) waiting m tr)) → Moving most (heft (rest_state range q (items_in c) waiting m tr)) (stepped (rest_state range q (items_in c) waiting m tr)) (tree_walk range t waiting m cells tr)

  -- the tree behind a statement, as the nodes have it
  abbrev behind_in : Range → ℕ → ℕ → Stmt → Stmts → Rest → Tree
  behind_in range q place s ss c = build told place_of ss (place + size s) (leaving_of told place_of (ending range q) c) (leaf_of told place_of (ending range q) c) (tree_for range q (uncut c))

  later-good : (cells : Range → ℕ → ℕ) (range : Range) (q place : ℕ) (s : Stmt) (ss : Stmts) (c : Rest) → Good cells range q (From place (also s ss) c) → Good cells range q (From (place + size s) ss c)
  later-good cells range q place s ss c ok =
      let leaving = leaving_of told place_of (ending range q) c in
      let after = leaf_of told place_of (ending range q) c in (
        (has-right (family.node range) told place_of (nodes_in told place_of s place leaving (leaf told place_of ss (place + size s) after) (behind_in range q place s ss c)) (nodes told place_of ss (place + size s) leaving after (tree_for range q (uncut c))) ok.0.0.1, ok.0.1),
        ok.1,
        (outside-more place (place + size s) c (omega arith) ok.2.0, ok.2.1),
      )

  in-has : (cells : Range → ℕ → ℕ) (range : Range) (q place : ℕ) (s : Stmt) (ss : Stmts) (c : Rest) → Good cells range q (From place (also s ss) c) →
      (let behind = From (place + size s) ss c in
      Has told place_of (family.node range) (nodes_in told place_of s place (leaving_of told place_of (ending range q) behind) (leaf_of told place_of (ending range q) behind) (tree_for range q (uncut behind))))
  in-has cells range q place s ss c ok =
      let leaving = leaving_of told place_of (ending range q) c in
      let after = leaf_of told place_of (ending range q) c in
      subst (λ t. Has told place_of (family.node range) (nodes_in told place_of s place leaving (leaf told place_of ss (place + size s) after) t)) (sym (built-uncut told place_of (ending range q) (build told place_of ss (place + size s)) c))
      (has-left (family.node range) told place_of (nodes_in told place_of s place leaving (leaf told place_of ss (place + size s) after) (behind_in range q place s ss c)) (nodes told place_of ss (place + size s) leaving after (tree_for range q (uncut c))) ok.0.0.1)

  push-moves : (range : Range) (q place : ℕ) (s : Stmt) (ss : Stmts) (c : Rest) → whole (cut told s) ≡ true → Moves 5 range q (From place (also s ss) c) (push told place_of s (tree_for range q (From (place + size s) ss c)))
  push-moves range q place s ss c w waiting m cells tr ok waits came fine =
      let heavy = heft (rest_state range q (items_in (From place (also s ss) c)) waiting m tr) in
      move-more acting left told program place_of family first first_rest Named 1 5 heavy (stepped (rest_state range q (items_in (From place (also s ss) c)) waiting m tr)) (tree_walk range (push told place_of s (tree_for range q (From (place + size s) ss c))) waiting m cells tr) (omega arith)
      (pushed-move acting left told program place_of family first first_rest Named is_told source lowered first_fits names range q place s ss c waiting m cells tr heavy w (later-good cells range q place s ss c ok) waits came fine)

  -- a statement that does nothing
  skip-way : (act : Act) (rest : List Item) (m : Memory) → OwnAct act → skips told act ≡ true → item_way (alone acting) (Do (language.Do act)) rest m ≡ On [] m rest
  skip-way (Own simple) rest m own e = ap (λ a. tried a (λ u. on (alone acting) rest)) (is_told.skips simple m e)
  skip-way (Set cell value) rest m own e = absurd own
  skip-way (Take cell amount) rest m own e = absurd own
  skip-way (Lower cell) rest m own e = absurd own

  -- the source goes on, and the walk stands there already
  still : (range : Range) (q : ℕ) (x : Item) (xs items : List Item) (c : Rest) (t : Tree) (waiting : List Joint) (m : Memory) (cells : Range → ℕ → ℕ) (tr : Trace) → item_way (alone acting) x xs m ≡ On [] m items → items ≡ items_in c → t ≡ tree_for range q c →
      weight items + 1 ≤ weight (x ∷ xs) → Good cells range q c → Waiting cells range waiting → Coming range q (x ∷ xs) →
      Moving 0 (heft (rest_state range q (x ∷ xs) waiting m tr)) (stepped (rest_state range q (x ∷ xs) waiting m tr)) (tree_walk range t waiting m cells tr)
  still range q x xs items c t waiting m cells tr way same is light ok waits came =
      let heavy = heft (rest_state range q (x ∷ xs) waiting m tr) in
      let s = rest_state range q items waiting m (tr ++ []) in
      subst (λ w. Moving 0 heavy (goes (alone acting) left program w (rest_state range q (x ∷ xs) waiting m tr)) (tree_walk range t waiting m cells tr)) (sym way)
      (subst (λ u. Moving 0 heavy s (tree_walk range u waiting m cells tr)) (sym is)
      (move-now acting left told program place_of family first first_rest Named heavy s (tree_walk range (tree_for range q c) waiting m cells tr)
      (arrives acting left told program place_of family first first_rest Named range q c items waiting m cells tr (tr ++ []) same (append-nil tr) ok waits (goes_on range q x xs m [] m items came way))
      (omega (arith, light))))

  abbrev stopped_at : Memory → Trace → Run Left
  stopped_at m u = record { trace = u; standing = Over (Stopped Normally (left m)) }

  head-move : (range : Range) (q place : ℕ) (s : Stmt) (ss : Stmts) (c : Rest) → Moves 5 range q (From place (also s ss) c) (tree_for range q (From place (also s ss) c))
  head-move range q place (language.Do act) ss c = λ waiting m cells tr ok waits came fine.
      let x = Do (language.Do act) in
      let behind = From (place + 1) ss c in
      let heavy = heft (rest_state range q (x ∷ items_in behind) waiting m tr) in
      let s = stepped (rest_state range q (x ∷ items_in behind) waiting m tr) in
      let t = tree_for range q behind in
      let fit = here-fits acting left told program place_of family first first_rest Named is_told source lowered first_fits names range q (x ∷ items_in behind) came in
      elim (skips told act) as (λ b. skips told act ≡ b → Moving 5 heavy s (tree_walk range (if b then t else push told place_of (language.Do act) t) waiting m cells tr)) [
        | true ↦ λ e. move-more acting left told program place_of family first first_rest Named 0 5 heavy s (tree_walk range t waiting m cells tr) (omega arith)
            (still range q x (items_in behind) (items_in behind) behind t waiting m cells tr (skip-way act (items_in behind) m fit.0 e) refl refl (omega arith) (later-good cells range q place (language.Do act) ss c ok) waits came)
        | false ↦ λ e. push-moves range q place (language.Do act) ss c refl waiting m cells tr ok waits came fine
      ] refl
  head-move range q place (Choose picker arms) ss c = λ waiting m cells tr ok waits came fine.
      let x = Do (Choose picker arms) in
      let behind = From (place + size (Choose picker arms)) ss c in
      let heavy = heft (rest_state range q (x ∷ items_in behind) waiting m tr) in
      let s = stepped (rest_state range q (x ∷ items_in behind) waiting m tr) in
      let t = tree_for range q behind in
      let picks = end_alone (Pick picker (build_arms told place_of (first_is_dead told picker) arms (place + 1) (leaving_of told place_of (ending range q) behind) (leaf_of told place_of (ending range q) behind))) in
      let fit = here-fits acting left told program place_of family first first_rest Named is_told source lowered first_fits names range q (x ∷ items_in behind) came in
      elim (whole (cut told (Choose picker arms))) as (λ b. whole (cut told (Choose picker arms)) ≡ b → Moving 5 heavy s (tree_walk range (if b then push told place_of (Choose picker arms) t else picks) waiting m cells tr)) [
        | true ↦ λ e. push-moves range q place (Choose picker arms) ss c e waiting m cells tr ok waits came fine
        | false ↦ λ e. move-more acting left told program place_of family first first_rest Named 1 5 heavy s (tree_walk range picks waiting m cells tr) (omega arith)
            (pick-move acting left told program place_of family first first_rest Named is_told source lowered first_fits names range q waiting m cells tr heavy picker arms (place + 1) behind fit.0.0
            (later-good cells range q place (Choose picker arms) ss c ok) (outside-more place (place + 1) c (omega arith) ok.2.0) (in-has cells range q place (Choose picker arms) ss c ok) waits came)
      ] refl
  head-move range q place (Loop control (Nested body)) ss c = λ waiting m cells tr ok waits came fine.
      let x = Do (Loop control (Nested body)) in
      let behind = From (place + size (Loop control (Nested body))) ss c in
      let heavy = heft (rest_state range q (x ∷ items_in behind) waiting m tr) in
      let s = stepped (rest_state range q (x ∷ items_in behind) waiting m tr) in
      let t = tree_for range q behind in
      let later = later-good cells range q place (Loop control (Nested body)) ss c ok in
      let fit = here-fits acting left told program place_of family first first_rest Named is_told source lowered first_fits names range q (x ∷ items_in behind) came in
      elim (wholes (cuts told body)) as (λ b. wholes (cuts told body) ≡ b → Moving 5 heavy s (tree_walk range (if b then push told place_of (Loop control (Nested body)) t else loop_start control place) waiting m cells tr)) [
        | true ↦ λ e. push-moves range q place (Loop control (Nested body)) ss c e waiting m cells tr ok waits came fine
        | false ↦ λ e. move-more acting left told program place_of family first first_rest Named 2 5 heavy s (tree_walk range (loop_start control place) waiting m cells tr) (omega arith)
            (begin-move acting left told program place_of family first first_rest Named range q place body behind waiting m cells tr later.0 later.2 ok.2.0 waits later.1 control fit.0.0 (in-has cells range q place (Loop control (Nested body)) ss c ok) came)
      ] refl
  head-move range q place (Loop control (Performed e x)) ss c = push-moves range q place (Loop control (Performed e x)) ss c refl
  head-move range q place (Perform e x) ss c = push-moves range q place (Perform e x) ss c refl
  head-move range q place (Go to) ss c = λ waiting m cells tr ok waits came fine.
      let behind = From (place + 1) ss c in
      let heavy = heft (rest_state range q (Do (Go to) ∷ items_in behind) waiting m tr) in
      let s = rest_state range to (rest_of program to) waiting m (tr ++ []) in
      let fit = here-fits acting left told program place_of family first first_rest Named is_told source lowered first_fits names range q (Do (Go to) ∷ items_in behind) came in
      let v = tree_walk range (end_alone (Jump (point (place_of to)))) waiting m cells tr in
      let w = tree_walk range (family.node range (point (place_of to))) waiting m cells tr in
      move-more acting left told program place_of family first first_rest Named 1 5 heavy s v (omega arith)
      (move-after acting left told program place_of family first first_rest Named 0 heavy s v w refl (met-now acting left told program place_of family first first_rest Named s w
      (arrives-whole acting left told program place_of family first first_rest Named is_told source lowered first_fits names range to waiting m cells tr (tr ++ []) fit.0 (append-nil tr) waits (goes_to range q (Do (Go to)) (items_in behind) m [] m to came refl))))
  head-move range q place (GoDepending to chooser) ss c = λ waiting m cells tr ok waits came fine.
      let x = Do (GoDepending to chooser) in
      let behind = From (place + 1) ss c in
      let heavy = heft (rest_state range q (x ∷ items_in behind) waiting m tr) in
      let fit = here-fits acting left told program place_of family first first_rest Named is_told source lowered first_fits names range q (x ∷ items_in behind) came in
      move-more acting left told program place_of family first first_rest Named 2 5 heavy (stepped (rest_state range q (x ∷ items_in behind) waiting m tr)) (tree_walk range (tree_for range q (From place (also (GoDepending to chooser) ss) c)) waiting m cells tr) (omega arith)
      (depending-move acting left told program place_of family first first_rest Named is_told source lowered first_fits names range q waiting m cells tr heavy to chooser behind fit.0.0 fit.0.1 (later-good cells range q place (GoDepending to chooser) ss c ok) waits came)
  head-move range q place NextSentence ss c = λ waiting m cells tr ok waits came fine.
      let behind = From (place + 1) ss c in
      let heavy = heft (rest_state range q (Do NextSentence ∷ items_in behind) waiting m tr) in
      let light = past-light (items_in behind) in
      move-more acting left told program place_of family first first_rest Named 0 5 heavy (stepped (rest_state range q (Do NextSentence ∷ items_in behind) waiting m tr)) (tree_walk range (end_alone (leaving_of told place_of (ending range q) c).sentence) waiting m cells tr) (omega arith)
      (still range q (Do NextSentence) (items_in behind) (past_sentence (items_in behind)) (Cut (after_sentence c)) (end_alone (leaving_of told place_of (ending range q) c).sentence) waiting m cells tr refl (past-items behind) refl (omega (arith, light))
      (ok-after acting told program place_of family first first_rest Named cells range q c (ok.0.1, ok.1, ok.2.1)) waits came)
  head-move range q place ExitParagraph ss c = λ waiting m cells tr ok waits came fine.
      let behind = From (place + 1) ss c in
      let x = Do ExitParagraph in
      move-more acting left told program place_of family first first_rest Named 0 5 (heft (rest_state range q (x ∷ items_in behind) waiting m tr)) (stepped (rest_state range q (x ∷ items_in behind) waiting m tr)) (tree_walk range (end_alone (ending range q).paragraph) waiting m cells tr) (omega arith)
      (still range q x (items_in behind) [] rests.Over (end_alone (ending range q).paragraph) waiting m cells tr refl refl refl (omega arith) (tt, tt, tt) waits came)
  head-move range q place (ExitSection last) ss c = λ waiting m cells tr ok waits came fine.
      let behind = From (place + 1) ss c in
      let x = Do (ExitSection last) in
      let heavy = heft (rest_state range q (x ∷ items_in behind) waiting m tr) in
      let s = rest_state range last [] waiting m (tr ++ []) in
      let w = tree_walk range (end_alone ((ending range q).section last)) waiting m cells tr in
      move-more acting left told program place_of family first first_rest Named 0 5 heavy s w (omega arith)
      (move-now acting left told program place_of family first first_rest Named heavy s w
      (arrives acting left told program place_of family first first_rest Named range last rests.Over [] waiting m cells tr (tr ++ []) refl (append-nil tr) (tt, tt, tt) waits (goes_to_end range q x (items_in behind) m [] m last came refl))
      (omega arith))
  head-move range q place (ExitPerform false) ss c = λ waiting m cells tr ok waits came fine.
      let behind = From (place + 1) ss c in
      let x = Do (ExitPerform false) in
      let light = loop-light false (items_in behind) in
      move-more acting left told program place_of family first first_rest Named 0 5 (heft (rest_state range q (x ∷ items_in behind) waiting m tr)) (stepped (rest_state range q (x ∷ items_in behind) waiting m tr)) (tree_walk range (end_alone (leaving_of told place_of (ending range q) c).loop) waiting m cells tr) (omega arith)
      (still range q x (items_in behind) (from_loop false (items_in behind)) (Cut (after_loop c)) (end_alone (leaving_of told place_of (ending range q) c).loop) waiting m cells tr refl (loop-items false behind) refl (omega (arith, light))
      (ok-behind acting told program place_of family first first_rest Named cells range q c (ok.0.1, ok.1, ok.2.1)) waits came)
  head-move range q place (ExitPerform true) ss c = λ waiting m cells tr ok waits came fine.
      let behind = From (place + 1) ss c in
      let x = Do (ExitPerform true) in
      let light = loop-light true (items_in behind) in
      move-more acting left told program place_of family first first_rest Named 0 5 (heft (rest_state range q (x ∷ items_in behind) waiting m tr)) (stepped (rest_state range q (x ∷ items_in behind) waiting m tr)) (tree_walk range (end_alone (leaving_of told place_of (ending range q) c).cycle) waiting m cells tr) (omega arith)
      (still range q x (items_in behind) (from_loop true (items_in behind)) (Cut (at_loop c)) (end_alone (leaving_of told place_of (ending range q) c).cycle) waiting m cells tr refl (loop-items true behind) refl (omega (arith, light))
      (ok-turn acting told program place_of family first first_rest Named cells range q c (ok.0.1, ok.1, ok.2.1)) waits came)
  head-move range q place StopRun ss c = λ waiting m cells tr ok waits came fine.
      let behind = From (place + 1) ss c in
      let heavy = heft (rest_state range q (Do StopRun ∷ items_in behind) waiting m tr) in
      let s = stepped (rest_state range q (Do StopRun ∷ items_in behind) waiting m tr) in
      let v = tree_walk range (end_alone Stop) waiting m cells tr in
      let w = step_w acting left told program place_of family first first_rest Named v in
      move-more acting left told program place_of family first first_rest Named 1 5 heavy s v (omega arith)
      (move-after acting left told program place_of family first first_rest Named 0 heavy s v w refl (ended-now acting left told program place_of family first first_rest Named s w (ap (stopped_at m) (append-nil tr), λ e. cc)))

  -- at a node: its tree runs on
  jumped : (range : Range) (q place : ℕ) (s : Stmt) (ss : Stmts) (c : Rest) → Moves 6 range q (From place (also s ss) c) (end_alone (Jump (point place)))
  jumped range q place s ss c = λ waiting m cells tr ok waits came fine.
      let rest = From place (also s ss) (uncut c) in
      let is : items_in rest ≡ items_in (From place (also s ss) c) = ap (λ r. Do s ∷ before ss r) (items-uncut c) in
      let here = built-uncut told place_of (ending range q) (build told place_of (also s ss) place) c in
      subst (λ items. Coming range q items → IsFine (stepped (rest_state range q items waiting m tr)) → Moving 6 (heft (rest_state range q items waiting m tr)) (stepped (rest_state range q items waiting m tr)) (tree_walk range (end_alone (Jump (point place))) waiting m cells tr)) is
      (λ came fine. move-later acting left told program place_of family first first_rest Named 5 (heft (rest_state range q (items_in rest) waiting m tr)) (stepped (rest_state range q (items_in rest) waiting m tr)) (tree_walk range (end_alone (Jump (point place))) waiting m cells tr) (tree_walk range (tree_for range q rest) waiting m cells tr)
      (ap (λ t. tree_walk range t waiting m cells tr) (ok.0.0.0 ∙ sym here)) (head-move range q place s ss (uncut c) waiting m cells tr (ok-uncut acting told program place_of family first first_rest Named cells range q (From place (also s ss) c) ok) waits came fine))
      came fine

  more-moves : (range : Range) (q : ℕ) (c : Rest) (t : Tree) (most : ℕ) → most ≤ 6 → Moves most range q c t → Moves 6 range q c t
  more-moves range q c t most le h = λ waiting m cells tr ok waits came fine.
      move-more acting left told program place_of family first first_rest Named most 6 (heft (rest_state range q (items_in c) waiting m tr)) (stepped (rest_state range q (items_in c) waiting m tr)) (tree_walk range t waiting m cells tr) le (h waiting m cells tr ok waits came fine)

  -- the head of a rest where the walk stands at its continuation
  leaf-head-move : (range : Range) (q place : ℕ) (s : Stmt) (ss : Stmts) (c : Rest) → Moves 6 range q (From place (also s ss) c) (end_alone (leaf_of told place_of (ending range q) (From place (also s ss) c)))
  leaf-head-move range q place (language.Do act) ss c = λ waiting m cells tr ok waits came fine.
      let x = Do (language.Do act) in
      let behind = From (place + 1) ss c in
      let heavy = heft (rest_state range q (x ∷ items_in behind) waiting m tr) in
      let s = stepped (rest_state range q (x ∷ items_in behind) waiting m tr) in
      let end = leaf_of told place_of (ending range q) behind in
      let fit = here-fits acting left told program place_of family first first_rest Named is_told source lowered first_fits names range q (x ∷ items_in behind) came in
      elim (skips told act) as (λ b. skips told act ≡ b → Moving 6 heavy s (tree_walk range (end_alone (if b then end else Jump (point place))) waiting m cells tr)) [
        | true ↦ λ e. move-more acting left told program place_of family first first_rest Named 0 6 heavy s (tree_walk range (end_alone end) waiting m cells tr) (omega arith)
            (still range q x (items_in behind) (items_in behind) (Cut behind) (end_alone end) waiting m cells tr (skip-way act (items_in behind) m fit.0 e) refl refl (omega arith)
            (let l = later-good cells range q place (language.Do act) ss c ok in (l.0, l.1, l.2)) waits came)
        | false ↦ λ e. jumped range q place (language.Do act) ss c waiting m cells tr ok waits came fine
      ] refl
  leaf-head-move range q place (Choose picker arms) ss c = jumped range q place (Choose picker arms) ss c
  leaf-head-move range q place (Loop control body) ss c = jumped range q place (Loop control body) ss c
  leaf-head-move range q place (Perform e x) ss c = jumped range q place (Perform e x) ss c
  leaf-head-move range q place (Go to) ss c = more-moves range q (From place (also (Go to) ss) c) (tree_for range q (From place (also (Go to) ss) c)) 5 (omega arith) (head-move range q place (Go to) ss c)
  leaf-head-move range q place (GoDepending to chooser) ss c = jumped range q place (GoDepending to chooser) ss c
  leaf-head-move range q place NextSentence ss c = jumped range q place NextSentence ss c
  leaf-head-move range q place ExitParagraph ss c = jumped range q place ExitParagraph ss c
  leaf-head-move range q place (ExitSection last) ss c = jumped range q place (ExitSection last) ss c
  leaf-head-move range q place (ExitPerform cycle) ss c = jumped range q place (ExitPerform cycle) ss c
  leaf-head-move range q place StopRun ss c = more-moves range q (From place (also StopRun ss) c) (tree_for range q (From place (also StopRun ss) c)) 5 (omega arith) (head-move range q place StopRun ss c)

  -- the end of a sentence
  sent-move : (range : Range) (q : ℕ) (holds : Bool) (c d : Rest) → items_in c ≡ items_in d → ((cells : Range → ℕ → ℕ) → Good cells range q (Sent holds c) → Good cells range q d) → Moves 6 range q (Sent holds c) (tree_for range q d)
  sent-move range q holds c d same good = λ waiting m cells tr ok waits came fine.
      move-more acting left told program place_of family first first_rest Named 0 6 (heft (rest_state range q (items_in (Sent holds c)) waiting m tr)) (stepped (rest_state range q (items_in (Sent holds c)) waiting m tr)) (tree_walk range (tree_for range q d) waiting m cells tr) (omega arith)
      (still range q SentenceEnd (items_in c) (items_in c) d (tree_for range q d) waiting m cells tr refl same refl (omega arith) (good cells ok) waits came)

  -- the end of the paragraph
  end-moves : (range : Range) (q : ℕ) → Moves 6 range q rests.Over (end_alone (ending range q).paragraph)
  end-moves range q = λ waiting m cells tr ok waits came fine.
      let heavy = heft (rest_state range q [] waiting m tr) in
      move-more acting left told program place_of family first first_rest Named 1 6 heavy (stepped (rest_state range q [] waiting m tr)) (tree_walk range (end_alone (ending range q).paragraph) waiting m cells tr) (omega arith)
      (over-move acting left told program place_of family first first_rest Named is_told source lowered first_fits names returning range q waiting m cells tr heavy waits came fine)

  -- the remainder of a loop
  turns-moves : (range : Range) (q place : ℕ) (control : Control) (n : ℕ) (reached : Bool) (body : Stmts) (c : Rest) → Moves 6 range q (Turns place control n reached body c) (end_alone (Jump (to_turn control reached place)))
  turns-moves range q place control n reached body c = λ waiting m cells tr ok waits came fine.
      let x = Turn (turning_of control n reached) (Nested body) in
      let heavy = heft (rest_state range q (x ∷ items_in c) waiting m tr) in
      let fit = here-fits acting left told program place_of family first first_rest Named is_told source lowered first_fits names range q (x ∷ items_in c) came in
      move-more acting left told program place_of family first first_rest Named 4 6 heavy (stepped (rest_state range q (x ∷ items_in c) waiting m tr)) (tree_walk range (end_alone (Jump (to_turn control reached place))) waiting m cells tr) (omega arith)
      (turn-move acting left told program place_of family first first_rest Named range q place body c waiting m cells tr ok.0.1 ok.2.1 ok.2.0 waits ok.1.1 control n reached fit.0.0 ok.0.0 ok.1.0 came heavy)

  mutual
    rest-moves : (range : Range) (q : ℕ) (c : Rest) → Moves 6 range q c (tree_for range q c)
    rest-moves range q rests.Over = end-moves range q
    rest-moves range q (From place none c) = λ waiting m cells tr ok waits came fine. rest-moves range q c waiting m cells tr (ok.0.1, ok.1, ok.2.1) waits came fine
    rest-moves range q (From place (also s ss) c) = more-moves range q (From place (also s ss) c) (tree_for range q (From place (also s ss) c)) 5 (omega arith) (head-move range q place s ss c)
    rest-moves range q (Sent true c) = sent-move range q true c (Cut c) refl (λ cells ok. ok)
    rest-moves range q (Sent false c) = sent-move range q false c c refl (λ cells ok. ok)
    rest-moves range q (Turns place control n reached body c) = turns-moves range q place control n reached body c
    rest-moves range q (Cut c) = leaf-moves range q c

    leaf-moves : (range : Range) (q : ℕ) (c : Rest) → Moves 6 range q c (end_alone (leaf_of told place_of (ending range q) c))
    leaf-moves range q rests.Over = end-moves range q
    leaf-moves range q (From place none c) = λ waiting m cells tr ok waits came fine. leaf-moves range q c waiting m cells tr (ok.0.1, ok.1, ok.2.1) waits came fine
    leaf-moves range q (From place (also s ss) c) = leaf-head-move range q place s ss c
    leaf-moves range q (Sent holds c) = sent-move range q holds c (Cut c) refl (λ cells ok. ok)
    leaf-moves range q (Turns place control n reached body c) = turns-moves range q place control n reached body c
    leaf-moves range q (Cut c) = leaf-moves range q c

  going-move : (j : Joint) (items zs : List Item) (end : End) (waiting : List Joint) (m : Memory) (cells : Range → ℕ → ℕ) (tr : Trace) →
      (let b : Both Memory = both (joint j.range j.paragraph items j.rest zs end) waiting m cells tr in
      Ok acting told program place_of family first first_rest Named b → Coming j.range j.paragraph (items ++ items_in j.rest) → IsFine (stepped (source_of b)) → Moving 6 (heft {Memory = Memory} {Left = Left} (source_of b)) (stepped (source_of b)) (walk_of b))
  going-move j [] zs end waiting m cells tr ok came fine =
      let s = rest_state j.range j.paragraph (items_in j.rest) waiting m tr in
      let t = tree_for j.range j.paragraph j.rest in
      subst (λ z. Moving 6 (heft s) (stepped s) (walk_at j.range z end (callers_of waiting) m cells tr)) (sym ok.0.0)
      (subst (λ e. Moving 6 (heft s) (stepped s) (walk_at j.range (before (body_of t) []) e (callers_of waiting) m cells tr)) (sym ok.0.1)
      (rest-moves j.range j.paragraph j.rest waiting m cells tr ok.1 ok.2 came fine))
  going-move j (x ∷ xs) [] end waiting m cells tr ok came fine = absurd ok.0
  going-move j (x ∷ xs) (z ∷ zs) end waiting m cells tr ok came fine =
      let s = rest_state j.range j.paragraph (x ∷ (xs ++ items_in j.rest)) waiting m tr in
      subst (λ y. Moving 6 (heft s) (stepped s) (walk_at j.range (y ∷ zs) end (callers_of waiting) m cells tr)) (sym ok.0.0)
      (move-more acting left told program place_of family first first_rest Named 1 6 (heft s) (stepped s) (walk_at j.range (cut_item told x ∷ zs) end (callers_of waiting) m cells tr) (omega arith)
      (item-move acting left told program place_of family first first_rest Named is_told source lowered first_fits names j.range j.paragraph x xs j.rest zs end waiting m cells tr (heft s)
      (ap whole_item (sym ok.0.0) ∙ ok.0.1) ok.0.2 ok.1 ok.2 came fine))

  -- from any common point
  pub moves-going : (b : Both Memory) → Ok acting told program place_of family first first_rest Named b → Coming b.level.range b.level.paragraph (rest_at b.level) → IsFine (stepped (source_of b)) →
      Moving 6 (heft {Memory = Memory} {Left = Left} (source_of b)) (stepped (source_of b)) (walk_of b)
  moves-going b ok came fine = going-move b.level b.level.items b.level.walk_items b.level.walk_end b.waiting b.memory b.cells b.trace ok came fine
