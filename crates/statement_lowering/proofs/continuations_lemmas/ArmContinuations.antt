-- The rests of the arms of choices.
use Rattle.std.proofs.Common.{◌≡◌, ℕ, zero, suc, ◌+◌, ◌*◌, ◌<◌, true, false, List, [], ◌∷◌, ◌++◌, map, take, drop, get_or, is_none, is_some, length, sum_by, Option, Some, None, refl, ap, ap₂, sym, ◌∙◌, subst, arith, add-one}
use Rattle.std.proofs.Math.Seq.{take-suc}
use Rattle.std.proofs.lemmas.List.{append-nil, append_assoc, drop_all, map-append, take_all}
use Rattle.std.proofs.lemmas.List.Sums.{sum_by-append, sum_by-cons}
use Rattle.cob_tree.specs.Places.{stmt_places, when_places, arms_places}
use Rattle.cob_tree.specs.declared.calc.Calc.{Calc}
use Rattle.cob_tree.specs.declared.calc.Target.{Target}
use Rattle.cob_tree.specs.declared.choice.Subject.{Subject}
use Rattle.cob_tree.specs.declared.cond.Cond.{Cond}
use Rattle.cob_tree.specs.declared.control.Control.{Control}
use Rattle.cob_tree.specs.declared.place.Place.{Place}
use Rattle.cob_tree.specs.declared.stmt.Arms.{Arms, out-Arms}
use Rattle.cob_tree.specs.declared.stmt.Stmt.{Stmt}
use Rattle.cob_tree.specs.declared.stmt.Stmt.TheVariants.{If, Evaluate, Loop, Arith, Read}
use Rattle.cob_tree.specs.declared.stmt.When.{When, out-When}
use Rattle.control_flow_theory.specs.language.Control.{arith_stmt, arm_before, both_arms, Branch, branches_before, control_in, else_of, evaluate_of, loop_of, seen, seen_both, seen_stmts, seen_when, stmts_of, tests_of}
use Rattle.control_flow_theory.specs.language.Language as language
use Rattle.control_flow_theory.proofs.language_lemmas.Rows.{seen_arith, seen_evaluate, seen_if, seen_loop, seen_read, seen_when_is}
use Rattle.control_flow_theory.specs.semantics.Graph as graph
use Rattle.control_flow_theory.specs.lowering.FlowFacts.{FlowFacts}
use Rattle.control_flow_theory.specs.lowering.Completes.{sizes, size_arms}
use Rattle.control_flow_theory.specs.lowering.Lower as lower
use Rattle.control_flow_theory.specs.lowering.Lowered.{find, Within}
use Rattle.lowering_labels.proofs.points_lemmas.SizeLemmas.{sizes-seen}
use Rattle.lowering_labels.specs.declared.points.layout.PlaceTable.{PlaceTable}
use Rattle.statement_lowering.specs.Arms.{if_arms, one_arm, phrase_arms, phrase_places, seen_phrase, when_arms}
use Rattle.statement_lowering.proofs.EscapeRows.{both_seen, phrase_seen}
use Rattle.statement_lowering.proofs.PartRows.{arith_places, evaluate_places, if_places, loop_places, phrases_places, read_places, when_sum}
use Rattle.statement_lowering.specs.declared.continuations.continuation.Successors.{Successors}
use Rattle.statement_lowering.specs.declared.continuations.continuation.Continuation.{Continuation}
use Rattle.statement_lowering.specs.continuations.Successors.{Lowering, after_by, behind_by, leaving_by}
use Rattle.statement_lowering.specs.continuations.Statements.{Adds, AddsArms, AddsRests, AddsWithin, Agrees, HasInner, HasNodes, branch_arms, inner_places, phrase_alone, told}
use Rattle.statement_lowering.proofs.continuations_lemmas.Adding.{adds_both, adds_none, adds_under, longer_by}
use Rattle.statement_lowering.proofs.continuations_lemmas.Within.{agrees_left, agrees_right, within-arms}

-- Arms behind others.

abbrev pub arms_then : language.Arms → language.Arms → language.Arms
arms_then language.done b = b
arms_then (language.given arm others) b = language.given arm (arms_then others b)
arms_then (language.missing others) b = language.missing (arms_then others b)

pub phrases_then : (first second : Option language.Stmts) → arm_before first (arm_before second language.done) ≡ arms_then (arm_before first language.done) (arm_before second language.done)
phrases_then None second = refl
phrases_then (Some first) second = refl

pub branches_then : (branches : List Branch) (others : language.Arms) → branches_before branches others ≡ arms_then (branches_before branches language.done) others
branches_then [] others = refl
branches_then (branch ∷ branches) others = ap (language.given branch.arm) (branches_then branches others)

branches_both : (first next : List Branch) → branches_before (first ++ next) language.done ≡ arms_then (branches_before first language.done) (branches_before next language.done)
branches_both [] next = refl
branches_both (branch ∷ branches) next = ap (language.given branch.arm) (branches_both branches next)

module _ (told : FlowFacts) (place_of : ℕ → ℕ) (leaving : lower.EscapeTargets) (after : graph.End) (behind : graph.Tree) where
  abbrev nodes_at : language.Arms → ℕ → List lower.Node
  nodes_at arms place = lower.nodes_of_arms told place_of arms place leaving after behind

  pub nodes_then : (a b : language.Arms) (place : ℕ) → nodes_at (arms_then a b) place ≡ nodes_at a place ++ nodes_at b (place + size_arms a)
  nodes_then language.done b place = ap (nodes_at b) (omega arith)
  nodes_then (language.given arm others) b place =
      let first = lower.nodes told place_of arm place leaving after behind in
      let far : (place + sizes arm) + size_arms others ≡ place + (sizes arm + size_arms others) = omega arith in
      ap (λ xs. first ++ xs) (nodes_then others b (place + sizes arm))
      ∙ ap (λ n. first ++ (nodes_at others (place + sizes arm) ++ nodes_at b n)) far
      ∙ sym (append_assoc first (nodes_at others (place + sizes arm)) (nodes_at b (place + (sizes arm + size_arms others))))
  nodes_then (language.missing others) b place = nodes_then others b place

  one_nodes : (stmts : language.Stmts) (place : ℕ) → nodes_at (language.given stmts language.done) place ≡ lower.nodes told place_of stmts place leaving after behind
  one_nodes stmts place = append-nil (lower.nodes told place_of stmts place leaving after behind)

  else_nodes : (stmts : List language.Stmt) (place : ℕ) → nodes_at (arm_before (else_of stmts) language.done) place ≡ lower.nodes told place_of (stmts_of stmts) place leaving after behind
  else_nodes [] place = refl
  else_nodes (stmt ∷ stmts) place = one_nodes (stmts_of (stmt ∷ stmts)) place

-- How many places they have.

pub one_size : (last : ℕ) (stmts : List Stmt) → size_arms (one_arm stmts last) ≡ sum_by stmt_places stmts
one_size last stmts = omega (arith, sizes-seen last stmts)

abbrev pub else_arm : List Stmt → ℕ → language.Arms
else_arm stmts last = arm_before (else_of (map (seen last) stmts)) language.done

pub else_size : (last : ℕ) (stmts : List Stmt) → size_arms (else_arm stmts last) ≡ sum_by stmt_places stmts
else_size last [] = refl
else_size last (stmt ∷ stmts) = omega (arith, sizes-seen last (stmt ∷ stmts))

pub phrase_size : (last : ℕ) (phrase : Option (List Stmt)) → size_arms (phrase_alone phrase last) ≡ phrase_places phrase
phrase_size last None = refl
phrase_size last (Some stmts) = omega (arith, sizes-seen last stmts)

pub branches_size : (last : ℕ) (whens : List When) → size_arms (branch_arms whens last) ≡ sum_by when_places whens
branches_size last [] = refl
branches_size last (when ∷ whens) =
    let arm : (seen_when last when).arm ≡ seen_stmts last (out-When when).stmts = ap (λ (b : Branch). b.arm) (seen_when_is last when) in
    let here : sizes (seen_when last when).arm ≡ when_places when = ap sizes arm ∙ sizes-seen last (out-When when).stmts ∙ sym (when_sum when) in
    ap₂ (λ a b. a + b) here (branches_size last whens) ∙ sym (sum_by-cons when_places when whens)

arith_nodes : (told : FlowFacts) (place_of : ℕ → ℕ) (calc : Calc) (into : List Target) (first second : Option language.Stmts) (place : ℕ) (leaving : lower.EscapeTargets) (after : graph.End) (behind : graph.Tree) →
    lower.nodes_in told place_of (arith_stmt calc into (record { first = first; second = second })) place leaving after behind
    ≡ lower.nodes_of_arms told place_of (both_arms (record { first = first; second = second })) (place + 1) leaving after behind
arith_nodes told place_of calc into None None place leaving after behind = refl
arith_nodes told place_of calc into None (Some second) place leaving after behind = refl
arith_nodes told place_of calc into (Some first) None place leaving after behind = refl
arith_nodes told place_of calc into (Some first) (Some second) place leaving after behind = refl

-- Rests of arms.

module _ (layout : PlaceTable) (onward : Successors) where
  -- the graph has the nodes of arms
  abbrev pub HasArms : Lowering layout → language.Arms → (place places : ℕ) → Type 0
  HasArms g arms place places =
      Agrees g.node (3 * place) (3 * (place + places)) (lower.nodes_of_arms (told layout g) g.place_of arms place (leaving_by layout g onward) (after_by layout g onward) (behind_by layout g onward))

  pub arms_none : (arms : ℕ → language.Arms) (old : List Continuation) → AddsArms layout arms 0 onward old old
  arms_none arms old = adds_none layout (λ g. HasArms g (arms onward.last) (length old) 0) old

  pub arms_same : (a b : ℕ → language.Arms) (m n : ℕ) (old new : List Continuation) → a onward.last ≡ b onward.last → m ≡ n → AddsArms layout a m onward old new → AddsArms layout b n onward old new
  arms_same a b m n old new same count h =
      adds_under layout m n (λ g. HasArms g (a onward.last) (length old) m) (λ g. HasArms g (b onward.last) (length old) n) old new
      (λ g has. subst (λ x. HasArms g x (length old) m) (sym same) (subst (HasArms g (b onward.last) (length old)) (sym count) has)) count h

  pub arms_count : (arms : ℕ → language.Arms) (places : ℕ) (old new : List Continuation) → AddsArms layout arms places onward old new → length new ≡ length old + places
  arms_count arms places old new h = longer_by layout places (λ g. HasArms g (arms onward.last) (length old) places) old new h

  -- of a list
  pub arm_rests : (arms : ℕ → language.Arms) (stmts : List Stmt) (old new : List Continuation) →
      ((g : Lowering layout) (place : ℕ) → lower.nodes_of_arms (told layout g) g.place_of (arms onward.last) place (leaving_by layout g onward) (after_by layout g onward) (behind_by layout g onward)
      ≡ lower.nodes (told layout g) g.place_of (seen_stmts onward.last stmts) place (leaving_by layout g onward) (after_by layout g onward) (behind_by layout g onward)) →
      AddsRests layout stmts onward old new → AddsArms layout arms (sum_by stmt_places stmts) onward old new
  arm_rests arms stmts old new same h =
      let places = sum_by stmt_places stmts in
      adds_under layout places places (λ g. HasNodes layout g stmts (length old) onward) (λ g. HasArms g (arms onward.last) (length old) places) old new
      (λ g has. subst (Agrees g.node (3 * length old) (3 * (length old + places))) (same g (length old)) has) refl h

  pub one_rests : (stmts : List Stmt) (old new : List Continuation) → AddsRests layout stmts onward old new → AddsArms layout (one_arm stmts) (sum_by stmt_places stmts) onward old new
  one_rests stmts old new h =
      arm_rests (one_arm stmts) stmts old new
      (λ g place. one_nodes (told layout g) g.place_of (leaving_by layout g onward) (after_by layout g onward) (behind_by layout g onward) (seen_stmts onward.last stmts) place) h

  pub else_rests : (stmts : List Stmt) (old new : List Continuation) → AddsRests layout stmts onward old new → AddsArms layout (else_arm stmts) (sum_by stmt_places stmts) onward old new
  else_rests stmts old new h =
      arm_rests (else_arm stmts) stmts old new
      (λ g place. else_nodes (told layout g) g.place_of (leaving_by layout g onward) (after_by layout g onward) (behind_by layout g onward) (map (seen onward.last) stmts) place) h

  arms_parts : (g : Lowering layout) (a b c : language.Arms) (place next m n : ℕ) → size_arms a ≡ m → size_arms b ≡ n → c ≡ arms_then a b → next ≡ place + m → HasArms g c place (m + n) →
      HasArms g a place m × HasArms g b next n
  arms_parts g a b c place next m n first second is far has =
      let leaving = leaving_by layout g onward in
      let after = after_by layout g onward in
      let tree = behind_by layout g onward in
      let xs = lower.nodes_of_arms (told layout g) g.place_of a place leaving after tree in
      let ys = lower.nodes_of_arms (told layout g) g.place_of b (place + size_arms a) leaving after tree in
      let all : Agrees g.node (3 * place) (3 * (place + (m + n))) (xs ++ ys) =
      subst (Agrees g.node (3 * place) (3 * (place + (m + n)))) (ap (λ x. lower.nodes_of_arms (told layout g) g.place_of x place leaving after tree) is ∙ nodes_then (told layout g) g.place_of leaving after tree a b place) has in
      let left : Within (3 * place) (3 * (place + m)) xs = subst (λ k. Within (3 * place) (3 * (place + k)) xs) first (within-arms (told layout g) g.place_of a place leaving after tree) in
      let right : Within (3 * (place + m)) (3 * (place + (m + n))) ys =
      subst (λ k. Within k (3 * (place + (m + n))) ys) (omega (arith, first))
      (subst (λ k. Within (3 * (place + size_arms a)) k ys) (omega (arith, first, second)) (within-arms (told layout g) g.place_of b (place + size_arms a) leaving after tree)) in (
        agrees_left g.node (3 * place) (3 * (place + m)) (3 * (place + (m + n))) xs ys left right (omega arith) all,
        subst (λ k. HasArms g b k n) (sym far)
            (subst (λ k. Agrees g.node (3 * (place + m)) k (lower.nodes_of_arms (told layout g) g.place_of b (place + m) leaving after tree)) (omega arith)
            (subst (λ k. Agrees g.node (3 * (place + m)) (3 * (place + (m + n))) (lower.nodes_of_arms (told layout g) g.place_of b k leaving after tree)) (ap (λ k. place + k) first)
            (agrees_right g.node (3 * place) (3 * (place + m)) (3 * (place + (m + n))) xs ys left (omega arith) all))),
      )

  -- some, and others behind them
  pub arms_both : (a b c : ℕ → language.Arms) (m n : ℕ) (old mid new : List Continuation) → size_arms (a onward.last) ≡ m → size_arms (b onward.last) ≡ n → c onward.last ≡ arms_then (a onward.last) (b onward.last) →
      AddsArms layout a m onward old mid → AddsArms layout b n onward mid new → AddsArms layout c (m + n) onward old new
  arms_both a b c m n old mid new first next is h k =
      let far = longer_by layout m (λ g. HasArms g (a onward.last) (length old) m) old mid h in
      adds_under layout (m + n) (m + n)
      (λ g. HasArms g (a onward.last) (length old) m × HasArms g (b onward.last) (length mid) n) (λ g. HasArms g (c onward.last) (length old) (m + n)) old new
      (λ g has. arms_parts g (a onward.last) (b onward.last) (c onward.last) (length old) (length mid) m n first next is far has) refl
      (adds_both layout m n (λ g. HasArms g (a onward.last) (length old) m) (λ g. HasArms g (b onward.last) (length mid) n) old mid new h k)

  -- one WHEN more
  pub when_more : (whens : List When) (i : ℕ) (when : When) (old mid new : List Continuation) → i < length whens → when ≡ get_or whens i when →
      AddsArms layout (branch_arms (take i whens)) (sum_by when_places (take i whens)) onward old mid → AddsRests layout (out-When when).stmts onward mid new →
      AddsArms layout (branch_arms (take (i + 1) whens)) (sum_by when_places (take (i + 1) whens)) onward old new
  when_more whens i when old mid new lt is h k =
      let more : take (i + 1) whens ≡ take i whens ++ when ∷ [] = rw (add-one i) (take-suc whens i when lt) ∙ ap (λ w. take i whens ++ w ∷ []) (sym is) in
      let arm : (seen_when onward.last when).arm ≡ seen_stmts onward.last (out-When when).stmts = ap (λ (b : Branch). b.arm) (seen_when_is onward.last when) in
      let one : AddsArms layout (branch_arms (when ∷ [])) (sum_by when_places (when ∷ [])) onward mid new =
      arms_same (one_arm (out-When when).stmts) (branch_arms (when ∷ [])) (sum_by stmt_places (out-When when).stmts) (sum_by when_places (when ∷ [])) mid new
      (ap (λ a. language.given a language.done) (sym arm)) (sym (when_sum when) ∙ omega (arith, sum_by-cons when_places when []))
      (one_rests (out-When when).stmts mid new k) in
      let both : AddsArms layout (branch_arms (take i whens ++ when ∷ [])) (sum_by when_places (take i whens) + sum_by when_places (when ∷ [])) onward old new =
      arms_both (branch_arms (take i whens)) (branch_arms (when ∷ [])) (branch_arms (take i whens ++ when ∷ [])) (sum_by when_places (take i whens)) (sum_by when_places (when ∷ [])) old mid new
      (branches_size onward.last (take i whens)) (branches_size onward.last (when ∷ []))
      (ap (λ bs. branches_before bs language.done) (map-append (seen_when onward.last) (take i whens) (when ∷ [])) ∙ branches_both (map (seen_when onward.last) (take i whens)) (map (seen_when onward.last) (when ∷ [])))
      h one in
      arms_same (branch_arms (take i whens ++ when ∷ [])) (branch_arms (take (i + 1) whens)) (sum_by when_places (take i whens) + sum_by when_places (when ∷ [])) (sum_by when_places (take (i + 1) whens)) old new
      (ap (λ ws. branch_arms ws onward.last) (sym more)) (sym (ap (sum_by when_places) more ∙ sum_by-append when_places (take i whens) (when ∷ []))) both

  -- Those of a statement.
  pub within_by : (stmt : Stmt) (arms : ℕ → language.Arms) (place : ℕ) (old new : List Continuation) → place + 1 ≡ length old →
      ((g : Lowering layout) → lower.nodes_in (told layout g) g.place_of (seen onward.last stmt) place (leaving_by layout g onward) (after_by layout g onward) (behind_by layout g onward)
      ≡ lower.nodes_of_arms (told layout g) g.place_of (arms onward.last) (place + 1) (leaving_by layout g onward) (after_by layout g onward) (behind_by layout g onward)) →
      AddsArms layout arms (inner_places stmt) onward old new → AddsWithin layout stmt place onward old new
  within_by stmt arms place old new at same h =
      adds_under layout (inner_places stmt) (inner_places stmt)
      (λ g. HasArms g (arms onward.last) (length old) (inner_places stmt)) (λ g. HasInner layout g (seen onward.last stmt) place (inner_places stmt) onward) old new
      (λ g has. subst (λ n. HasArms g (arms onward.last) n (inner_places stmt)) at
      (λ label low high. has label (omega (arith, low)) high ∙ ap (λ xs. find label xs) (same g))) refl h

  pub within_none : (stmt : Stmt) (place : ℕ) (old : List Continuation) → stmt_places stmt ≡ 1 → AddsWithin layout stmt place onward old old
  within_none stmt place old one =
      adds_under layout 0 (inner_places stmt) (λ g. HasInner layout g (seen onward.last stmt) place (inner_places stmt) onward) (λ g. HasInner layout g (seen onward.last stmt) place (inner_places stmt) onward) old old
      (λ g has. has) (omega (arith, one)) (adds_none layout (λ g. HasInner layout g (seen onward.last stmt) place (inner_places stmt) onward) old)

  -- what is added for the same places
  within_seen : (stmt : Stmt) (x : language.Stmt) (arms : ℕ → language.Arms) (place places : ℕ) (old new : List Continuation) → place + 1 ≡ length old → seen onward.last stmt ≡ x → places ≡ inner_places stmt →
      ((told : FlowFacts) (place_of : ℕ → ℕ) (leaving : lower.EscapeTargets) (after : graph.End) (behind : graph.Tree) →
      lower.nodes_in told place_of x place leaving after behind ≡ lower.nodes_of_arms told place_of (arms onward.last) (place + 1) leaving after behind) →
      AddsArms layout arms places onward old new → AddsWithin layout stmt place onward old new
  within_seen stmt x arms place places old new at is count same h =
      within_by stmt arms place old new at
      (λ g.
      ap (λ y. lower.nodes_in (told layout g) g.place_of y place (leaving_by layout g onward) (after_by layout g onward) (behind_by layout g onward)) is
      ∙ same (told layout g) g.place_of (leaving_by layout g onward) (after_by layout g onward) (behind_by layout g onward))
      (arms_same arms arms places (inner_places stmt) old new refl count h)

  pub if_within : (stmt : Stmt) (cond : Cond) (met unmet : List Stmt) (place : ℕ) (old mid new : List Continuation) → stmt ≡ If cond met unmet → place + 1 ≡ length old →
      AddsRests layout met onward old mid → AddsRests layout unmet onward mid new → AddsWithin layout stmt place onward old new
  if_within stmt cond met unmet place old mid new is at h k =
      within_seen stmt _ (if_arms met unmet) place (sum_by stmt_places met + sum_by stmt_places unmet) old new at (ap (seen onward.last) is ∙ seen_if onward.last cond met unmet)
      (omega (arith, ap stmt_places is ∙ if_places cond met unmet)) (λ told place_of leaving after behind. refl)
      (arms_both (one_arm met) (else_arm unmet) (if_arms met unmet) (sum_by stmt_places met) (sum_by stmt_places unmet) old mid new (one_size onward.last met) (else_size onward.last unmet) refl
      (one_rests met old mid h) (else_rests unmet mid new k))

  pub evaluate_within : (stmt : Stmt) (of : Subject) (whens : List When) (other : Option (List Stmt)) (place : ℕ) (old mid new : List Continuation) → stmt ≡ Evaluate of whens other → place + 1 ≡ length old →
      AddsArms layout (branch_arms whens) (sum_by when_places whens) onward old mid → AddsArms layout (phrase_alone other) (phrase_places other) onward mid new → AddsWithin layout stmt place onward old new
  evaluate_within stmt of whens other place old mid new is at h k =
      within_seen stmt _ (when_arms whens other) place (sum_by when_places whens + phrase_places other) old new at
      (ap (seen onward.last) is ∙ seen_evaluate onward.last of whens other ∙ ap (λ p. language.Choose (evaluate_of of (tests_of (map (seen_when onward.last) whens)) (is_some other)) (branches_before (map (seen_when onward.last) whens) (arm_before p language.done))) (phrase_seen onward.last other))
      (omega (arith, ap stmt_places is ∙ evaluate_places of whens other)) (λ told place_of leaving after behind. refl)
      (arms_both (branch_arms whens) (phrase_alone other) (when_arms whens other) (sum_by when_places whens) (phrase_places other) old mid new (branches_size onward.last whens) (phrase_size onward.last other)
      (branches_then (map (seen_when onward.last) whens) (arm_before (seen_phrase onward.last other) language.done)) h k)

  pub read_within : (stmt : Stmt) (file : ℕ) (into : Option Place) (arms : Arms) (place : ℕ) (old new : List Continuation) → stmt ≡ Read file into arms → place + 1 ≡ length old →
      AddsArms layout (phrase_arms arms) (arms_places arms) onward old new → AddsWithin layout stmt place onward old new
  read_within stmt file into arms place old new is at h =
      within_seen stmt _ (phrase_arms arms) place (arms_places arms) old new at (ap (seen onward.last) is ∙ seen_read onward.last file into arms)
      (omega (arith, ap stmt_places is ∙ read_places file into arms)) (λ told place_of leaving after behind. refl) h

  pub arith_within : (stmt : Stmt) (calc : Calc) (into : List Target) (arms : Arms) (place : ℕ) (old new : List Continuation) → stmt ≡ Arith calc into arms → place + 1 ≡ length old →
      AddsArms layout (phrase_arms arms) (arms_places arms) onward old new → AddsWithin layout stmt place onward old new
  arith_within stmt calc into arms place old new is at h =
      within_seen stmt _ (phrase_arms arms) place (arms_places arms) old new at (ap (seen onward.last) is ∙ seen_arith onward.last calc into arms)
      (omega (arith, ap stmt_places is ∙ arith_places calc into arms))
      (λ told place_of leaving after behind. arith_nodes told place_of calc into (seen_both onward.last arms).first (seen_both onward.last arms).second place leaving after behind) h

  -- the two arms of READ or of arithmetic
  pub phrases_rests : (arms : Arms) (old mid new : List Continuation) → AddsArms layout (phrase_alone (out-Arms arms).first) (phrase_places (out-Arms arms).first) onward old mid →
      AddsArms layout (phrase_alone (out-Arms arms).second) (phrase_places (out-Arms arms).second) onward mid new → AddsArms layout (phrase_arms arms) (arms_places arms) onward old new
  phrases_rests arms old mid new h k =
      arms_same (λ last. arm_before (seen_phrase last (out-Arms arms).first) (arm_before (seen_phrase last (out-Arms arms).second) language.done)) (phrase_arms arms)
      (phrase_places (out-Arms arms).first + phrase_places (out-Arms arms).second) (arms_places arms) old new (sym (both_seen onward.last arms)) (sym (phrases_places arms))
      (arms_both (phrase_alone (out-Arms arms).first) (phrase_alone (out-Arms arms).second) (λ last. arm_before (seen_phrase last (out-Arms arms).first) (arm_before (seen_phrase last (out-Arms arms).second) language.done))
      (phrase_places (out-Arms arms).first) (phrase_places (out-Arms arms).second) old mid new (phrase_size onward.last (out-Arms arms).first) (phrase_size onward.last (out-Arms arms).second)
      (phrases_then (seen_phrase onward.last (out-Arms arms).first) (seen_phrase onward.last (out-Arms arms).second)) h k)

  pub phrase_none : (phrase : Option (List Stmt)) (old : List Continuation) → phrase ≡ None → AddsArms layout (phrase_alone phrase) (phrase_places phrase) onward old old
  phrase_none phrase old is = subst (λ p. AddsArms layout (phrase_alone p) (phrase_places p) onward old old) (sym is) (arms_none (phrase_alone None) old)

  pub phrase_some : (phrase : Option (List Stmt)) (stmts slice : List Stmt) (old new : List Continuation) → phrase ≡ Some stmts → slice ≡ stmts → AddsRests layout slice onward old new →
      AddsArms layout (phrase_alone phrase) (phrase_places phrase) onward old new
  phrase_some phrase stmts slice old new is same h =
      subst (λ p. AddsArms layout (phrase_alone p) (phrase_places p) onward old new) (sym (is ∙ ap Some (sym same))) (one_rests slice old new h)

  -- a loop without a control is a choice of one arm
  pub once_within : (control : Option language.Control) (turns : List Stmt) (place : ℕ) (old new : List Continuation) → control ≡ None → place + 1 ≡ length old → AddsRests layout turns onward old new →
      Adds layout (sum_by stmt_places turns) (λ g. HasInner layout g (loop_of control (seen_stmts onward.last turns)) place (sum_by stmt_places turns) onward) old new
  once_within control turns place old new is at h =
      subst (λ c. Adds layout (sum_by stmt_places turns) (λ g. HasInner layout g (loop_of c (seen_stmts onward.last turns)) place (sum_by stmt_places turns) onward) old new) (sym is)
      (adds_under layout (sum_by stmt_places turns) (sum_by stmt_places turns) (λ g. HasArms g (one_arm turns onward.last) (length old) (sum_by stmt_places turns))
      (λ g. HasInner layout g (loop_of None (seen_stmts onward.last turns)) place (sum_by stmt_places turns) onward) old new
      (λ g has. subst (λ n. HasArms g (one_arm turns onward.last) n (sum_by stmt_places turns)) at (λ label low high. has label (omega (arith, low)) high)) refl (one_rests turns old new h))

  pub loop_within : (stmt : Stmt) (control : Control) (body slice : List Stmt) (place : ℕ) (old new : List Continuation) → stmt ≡ Loop control body → slice ≡ body →
      Adds layout (sum_by stmt_places slice) (λ g. HasInner layout g (loop_of (control_in control) (seen_stmts onward.last slice)) place (sum_by stmt_places slice) onward) old new →
      AddsWithin layout stmt place onward old new
  loop_within stmt control body slice place old new is same h =
      let places = sum_by stmt_places slice in
      let count : places ≡ inner_places stmt = omega (arith, ap stmt_places is ∙ loop_places control body, ap (sum_by stmt_places) same) in
      let seen_is : loop_of (control_in control) (seen_stmts onward.last slice) ≡ seen onward.last stmt =
      ap (λ b. loop_of (control_in control) (seen_stmts onward.last b)) same ∙ sym (ap (seen onward.last) is ∙ seen_loop onward.last control body) in
      adds_under layout places (inner_places stmt) (λ g. HasInner layout g (loop_of (control_in control) (seen_stmts onward.last slice)) place places onward)
      (λ g. HasInner layout g (seen onward.last stmt) place (inner_places stmt) onward) old new
      (λ g has. subst (λ x. HasInner layout g x place places onward) (sym seen_is) (subst (λ n. HasInner layout g (seen onward.last stmt) place n onward) (sym count) has)) count h

-- WHENs so far, and those left
pub whens_split : (i : ℕ) (whens : List When) → sum_by when_places (take i whens) + sum_by when_places (drop i whens) ≡ sum_by when_places whens
whens_split i [] = omega (arith, ap (sum_by when_places) (drop_all i [] (omega arith)), ap (sum_by when_places) (take_all i [] (omega arith)))
whens_split zero (when ∷ others) = omega arith
whens_split (suc i) (when ∷ others) = omega (arith, whens_split i others, sum_by-cons when_places when others, sum_by-cons when_places when (take i others))

pub none_of : (control : Option language.Control) → is_none control ≡ true → control ≡ None
none_of None h = refl
none_of (Some control) h = absurd cc

pub some_of : (control : Option language.Control) → is_none control ≡ false → (one : language.Control) × (control ≡ Some one)
some_of None h = absurd cc
some_of (Some control) h = (control, refl)
