-- Loops, form by form.
use Rattle.std.proofs.Common.{◌≡◌, ◌≢◌, ◌≤◌, ◌<◌, ℕ, length, get_or, arith, Bool, true, false, if◌then◌else◌, ◌==◌, ◌&&◌, List, [], ◌∷◌, Option, Some, None, is_some, refl, ap, sym, ◌∙◌, ◌⊎◌, inl, inr, slice_get}
use Rattle.std.proofs.lemmas.Bool.Decides.{eqb_tells}
use Rattle.control_flow_theory.specs.language.Language.{Set, Test, If, Do, Choose, StopRun, Stmts, none, also, Arms, done, given}
use Rattle.control_flow_theory.specs.semantics.Graph.{Label, Tree, tree, End, Pick, Jump, Return, Stop, Dead, Trees, no_more, more, body_of, end_of}
use Rattle.control_flow_theory.specs.graph_rules.Loops.{Flagged, Endless}
use Rattle.control_flow_theory.specs.graph_rules.Shapes.{followed, alone, Live, ToLabel, end_at, Targets, NoTarget, Only, Several, flat, flat_end, flat_arms}
use Rattle.control_flow_theory.specs.graph_rules.Reduced.{Form, pretest, posttest, form_two, is_bare, stays}
use Rattle.control_flow_theory.specs.structuring.Closes.{none_left_out}
use Rattle.control_flow_theory.specs.structuring.Dispatches.{stated_tree, stated_end, stated_arms, flag_jump, set_to}
use Rattle.control_flow_theory.specs.language.Language as language
use Rattle.loop_rules.specs.declared.forms.LoopForm as shape
use Rattle.loop_rules.specs.declared.forms.LoopForm.TheVariants as form
use Rattle.branch_tree.specs.declared.tree.Leaves.TheVariants as leaves
use Rattle.loop_rules.specs.Forms.{looped_by, form_at, form_for, formed_if, end_by, is_nothing, bare_by, when_after, way, two_ways, ways}
use Rattle.branch_tree.specs.declared.tree.Tree as code
use Rattle.branch_tree.specs.declared.tree.Piece.{Piece}
use Rattle.branch_tree.specs.Tree.{seen_tree, seen_trees, seen_body, seen_piece, seen_end, stated}
use Rattle.branch_tree.specs.Choosers.{seen_test, seen_picker}
use Rattle.branch_tree.specs.declared.chooser.Picker as picker
use Rattle.branch_tree.specs.declared.chooser.Picker.TheVariants as picker_is
use Rattle.branch_tree.specs.declared.tree.End.TheVariants as end
use Rattle.branch_tree.proofs.TreeRows.{seen_tree_is, seen_pick}
use Rattle.branch_tree.specs.declared.chooser.Test as code_test
use Rattle.loop_rules.specs.declared.forms.Turning.{Turning}

-- A tree within a loop with a flag, and within one without an end.
module _ (cell : ℕ) (label : Label) where
  mutual
    flagged_end : (end : End) → flat_end Flagged cell label end ≡ stated_end none_left_out (flag_jump cell label) (set_to cell 1) end
    flagged_end (Pick picker arms) = ap (λ a. alone (Choose picker a)) (flagged_arms picker 0 arms)
    flagged_end (Jump to) = refl
    flagged_end Return = refl
    flagged_end Stop = refl
    flagged_end Dead = refl

    pub flagged : (t : Tree) → flat Flagged cell label t ≡ stated_tree none_left_out (flag_jump cell label) (set_to cell 1) t
    flagged (tree body end) = ap (followed body) (flagged_end end)

    flagged_arms : (picker : language.Picker) (k : ℕ) (arms : Trees) → flat_arms Flagged cell label arms ≡ stated_arms none_left_out (flag_jump cell label) (set_to cell 1) picker k arms
    flagged_arms picker k no_more = refl
    flagged_arms picker k (more first others) =
        ap (λ a. given a (flat_arms Flagged cell label others)) (flagged first)
        ∙ ap (given (stated_tree none_left_out (flag_jump cell label) (set_to cell 1) first)) (flagged_arms picker _ others)

  nothing : (z : Bool) → (if z then none else none) ≡ none
  nothing true = refl
  nothing false = refl

  mutual
    endless_end : (end : End) → flat_end Endless cell label end ≡ stated_end none_left_out (λ to. none) none end
    endless_end (Pick picker arms) = ap (λ a. alone (Choose picker a)) (endless_arms picker 0 arms)
    endless_end (Jump to) = nothing (to == label)
    endless_end Return = refl
    endless_end Stop = refl
    endless_end Dead = refl

    pub endless : (t : Tree) → flat Endless cell label t ≡ stated_tree none_left_out (λ to. none) none t
    endless (tree body end) = ap (followed body) (endless_end end)

    endless_arms : (picker : language.Picker) (k : ℕ) (arms : Trees) → flat_arms Endless cell label arms ≡ stated_arms none_left_out (λ to. none) none picker k arms
    endless_arms picker k no_more = refl
    endless_arms picker k (more first others) =
        ap (λ a. given a (flat_arms Endless cell label others)) (endless first)
        ∙ ap (given (stated_tree none_left_out (λ to. none) none first)) (endless_arms picker _ others)

pretest_at : (turned : Bool) (test : Test) (leaves : Bool) (found : Option Stmts) (other : Option Form) →
    form_at (pretest turned test leaves found other) ≡ (if leaves && is_some found then form.Before turned else form_at other)
pretest_at turned test true (Some body) other = refl
pretest_at turned test true None other = refl
pretest_at turned test false found other = refl

posttest_at : (turned : Bool) (test : Test) (body : Stmts) (leaves stay : Bool) (other : Option Form) →
    form_at (posttest turned test body leaves stay other) ≡ (if leaves && stay then form.After turned else form_at other)
posttest_at turned test body true true other = refl
posttest_at turned test body true false other = refl
posttest_at turned test body false stay other = refl

bare_is : (live : Live) (t : Tree) → is_bare live t ≡ bare_by (Only live) t
bare_is live (tree none end) = refl
bare_is live (tree (also first others) end) = refl

two_ways_are : (label : Label) (live : Live) (body : Stmts) (test : Test) (one two : Tree) →
    form_at (form_two label live body test one two) ≡ two_ways (Only live) label (is_nothing body) one two
two_ways_are label live none test one two =
    pretest_at false test (is_bare live one) (stays label two) (pretest true test (is_bare live two) (stays label one) None)
    ∙ ap (λ f. if is_bare live one && is_some (stays label two) then form.Before false else f) (pretest_at true test (is_bare live two) (stays label one) None)
    ∙ ap (λ b. way false (b && is_some (stays label two)) (is_bare live two && is_some (stays label one))) (bare_is live one)
    ∙ ap (λ b. way false (bare_by (Only live) one && is_some (stays label two)) (b && is_some (stays label one))) (bare_is live two)
two_ways_are label live (also first others) test one two =
    posttest_at false test (also first others) (is_bare live one) (is_bare (ToLabel label) two) (posttest true test (also first others) (is_bare live two) (is_bare (ToLabel label) one) None)
    ∙ ap (λ f. if is_bare live one && is_bare (ToLabel label) two then form.After false else f) (posttest_at true test (also first others) (is_bare live two) (is_bare (ToLabel label) one) None)
    ∙ ap (λ b. way true (b && is_bare (ToLabel label) two) (is_bare live two && is_bare (ToLabel label) one)) (bare_is live one)
    ∙ ap (λ b. way true (bare_by (Only live) one && b) (is_bare live two && is_bare (ToLabel label) one)) (bare_is (ToLabel label) two)
    ∙ ap (λ b. way true (bare_by (Only live) one && bare_by (Only (ToLabel label)) two) (b && is_bare (ToLabel label) one)) (bare_is live two)
    ∙ ap (λ b. way true (bare_by (Only live) one && bare_by (Only (ToLabel label)) two) (bare_by (Only live) two && b)) (bare_is (ToLabel label) one)

none_of : (b : Bool) → (b && false) ≡ false
none_of true = refl
none_of false = refl

no_ways : (targets : Targets) (label : Label) (empty : Bool) (one two : Tree) → ((t : Tree) → bare_by targets t ≡ false) → form.Flag ≡ two_ways targets label empty one two
no_ways targets label true one two h =
    ap (λ b. way false (b && is_some (stays label two)) false) (sym (h one))
    ∙ ap (λ b. way false (bare_by targets one && is_some (stays label two)) (b && is_some (stays label one))) (sym (h two))
no_ways targets label false one two h =
    ap (λ b. way true (b && bare_by (Only (ToLabel label)) two) false) (sym (h one))
    ∙ ap (λ b. way true (bare_by targets one && bare_by (Only (ToLabel label)) two) (b && bare_by (Only (ToLabel label)) one)) (sym (h two))

-- the form of arms by a test
pub ways_are : (label : Label) (targets : Targets) (body : Stmts) (test : Test) (arms : Trees) →
    ways targets label (is_nothing body) arms ≡ form_at (form_for label targets (tree body (Pick (If test) arms)))
ways_are label NoTarget body test no_more = refl
ways_are label NoTarget body test (more one no_more) = refl
ways_are label NoTarget body test (more one (more two no_more)) = sym (no_ways NoTarget label (is_nothing body) one two (λ t. none_of (is_nothing (body_of t))))
ways_are label NoTarget body test (more one (more two (more three others))) = refl
ways_are label (Only live) body test no_more = refl
ways_are label (Only live) body test (more one no_more) = refl
ways_are label (Only live) body test (more one (more two no_more)) = sym (two_ways_are label live body test one two)
ways_are label (Only live) body test (more one (more two (more three others))) = refl
ways_are label Several body test no_more = refl
ways_are label Several body test (more one no_more) = refl
ways_are label Several body test (more one (more two no_more)) = sym (no_ways Several label (is_nothing body) one two (λ t. none_of (is_nothing (body_of t))))
ways_are label Several body test (more one (more two (more three others))) = refl

pub ways_two : (targets : Targets) (label : Label) (empty : Bool) (arms : List code.Tree) (d e : code.Tree) → length arms ≡ 2 →
    two_ways targets label empty (seen_tree (get_or arms 0 d)) (seen_tree (get_or arms 1 e)) ≡ ways targets label empty (seen_trees arms)
ways_two targets label empty [] d e h = let no : ⊥ = omega (arith, h) in absurd no
ways_two targets label empty (a ∷ []) d e h = let no : ⊥ = omega (arith, h) in absurd no
ways_two targets label empty (a ∷ b ∷ []) d e h = refl
ways_two targets label empty (a ∷ b ∷ c ∷ arms) d e h = let no : ⊥ = omega (arith, h) in absurd no

pub ways_other : (targets : Targets) (label : Label) (empty : Bool) (arms : List code.Tree) → length arms ≢ 2 →
    form.Flag ≡ ways targets label empty (seen_trees arms)
ways_other targets label empty [] h = refl
ways_other targets label empty (a ∷ []) h = refl
ways_other targets label empty (a ∷ b ∷ []) h = absurd (h refl)
ways_other targets label empty (a ∷ b ∷ c ∷ arms) h = refl

some_left : (n : ℕ) → 1 ≤ n → (n == 0) ≡ false
some_left n many =
    elim (eqb_tells n 0) [
      | inl e ↦ let none = e.1 in let no : ⊥ = omega (arith, many, none) in absurd no
      | inr e ↦ e.0
    ]

pub none_left : (pieces : List Piece) → (length pieces == 0) ≡ is_nothing (seen_body pieces)
none_left [] = refl
none_left (p ∷ pieces) =
    let some : false ≡ is_nothing (seen_body (p ∷ pieces)) = refl in
    some_left (length (p ∷ pieces)) (omega arith) ∙ some

apart : (z : Bool) → z ≡ true → z ≡ false → ⊥
apart true h k = let no : ⊥ = cc in no
apart false h k = let no : ⊥ = cc in no

pub not_two : (n : ℕ) → (n == 2) ≡ false → n ≢ 2
not_two n h e = apart (n == 2) (ap (λ k. k == 2) e) h

-- A form with a test of its own.

abbrev turned_of : shape.LoopForm → Bool
turned_of (form.Before turned) = turned
turned_of (form.After turned) = turned
turned_of form.Flag = false

abbrev is_before : shape.LoopForm → Bool
is_before (form.Before turned) = true
is_before (form.After turned) = false
is_before form.Flag = false

abbrev is_flag : shape.LoopForm → Bool
is_flag (form.Before turned) = false
is_flag (form.After turned) = false
is_flag form.Flag = true

-- which of the two ways it is
abbrev Way : Bool → Bool → Bool → Type 0
Way x y turned = ((x ≡ true) × (turned ≡ false)) ⊎ ((x ≡ false) × (y ≡ true) × (turned ≡ true))

way_is : (after x y turned : Bool) → way after x y ≡ when_after after turned → Way x y turned
way_is true true y turned h = inl (refl, sym (ap turned_of h))
way_is false true y turned h = inl (refl, sym (ap turned_of h))
way_is true false true turned h = inr (refl, refl, sym (ap turned_of h))
way_is false false true turned h = inr (refl, refl, sym (ap turned_of h))
way_is true false false turned h = absurd (apart true refl (ap is_flag h))
way_is false false false turned h = absurd (apart true refl (ap is_flag h))

after_not_before : (x y turned : Bool) → way true x y ≡ form.Before turned → ⊥
after_not_before true y turned h = apart true refl (sym (ap is_before h))
after_not_before false true turned h = apart true refl (sym (ap is_before h))
after_not_before false false turned h = apart true refl (sym (ap is_before h))

before_not_after : (x y turned : Bool) → way false x y ≡ form.After turned → ⊥
before_not_after true y turned h = apart true refl (ap is_before h)
before_not_after false true turned h = apart true refl (ap is_before h)
before_not_after false false turned h = apart true refl (ap is_flag h)

both_true : (a b : Bool) → (a && b) ≡ true → (a ≡ true) × (b ≡ true)
both_true true b h = (refl, h)
both_true false b h = absurd (apart false h refl)

stay_is : (label : Label) (t : Tree) → is_some (stays label t) ≡ true → (stays label t ≡ Some (body_of t)) × (end_of t ≡ Jump label)
stay_is label (tree body (Pick picker arms)) h = absurd (apart false h refl)
stay_is label (tree body (Jump to)) h = elim (eqb_tells to label) [
  | inl e ↦ (ap (λ z. if z then Some body else None) e.0, ap Jump e.1)
  | inr e ↦ absurd (apart false (ap (λ z. is_some (if z then Some body else None)) (sym e.0) ∙ h) refl)
]
stay_is label (tree body Return) h = absurd (apart false h refl)
stay_is label (tree body Stop) h = absurd (apart false h refl)
stay_is label (tree body Dead) h = absurd (apart false h refl)

pretest_hit : (turned : Bool) (test : Test) (b : Bool) (found : Option Stmts) (body : Stmts) (other : Option Form) → b ≡ true → found ≡ Some body →
    pretest turned test b found other ≡ Some (record { after = false; turned = turned; test = test; body = body })
pretest_hit turned test b found body other hb hf =
    ap (λ z. pretest turned test z found other) hb ∙ ap (λ f. pretest turned test true f other) hf

pretest_skip : (turned : Bool) (test : Test) (b : Bool) (found : Option Stmts) (other : Option Form) → (b && is_some found) ≡ false → pretest turned test b found other ≡ other
pretest_skip turned test true (Some body) other h = absurd (apart true refl h)
pretest_skip turned test true None other h = refl
pretest_skip turned test false found other h = refl

posttest_hit : (turned : Bool) (test : Test) (body : Stmts) (b stay : Bool) (other : Option Form) → b ≡ true → stay ≡ true →
    posttest turned test body b stay other ≡ Some (record { after = true; turned = turned; test = test; body = body })
posttest_hit turned test body b stay other hb hs =
    ap (λ z. posttest turned test body z stay other) hb ∙ ap (λ z. posttest turned test body true z other) hs

posttest_skip : (turned : Bool) (test : Test) (body : Stmts) (b stay : Bool) (other : Option Form) → (b && stay) ≡ false → posttest turned test body b stay other ≡ other
posttest_skip turned test body true true other h = absurd (apart true refl h)
posttest_skip turned test body true false other h = refl
posttest_skip turned test body false stay other h = refl

pub followed_none : (body : Stmts) → followed body none ≡ body
followed_none none = refl
followed_none (also first others) = ap (also first) (followed_none others)

-- within a loop with a test of its own, what ends in a jump or dead is its body
pub stated_jump : (t : Tree) (label : Label) → end_of t ≡ Jump label → stated leaves.Silent t ≡ body_of t
stated_jump (tree body end) label h = ap (λ e. followed body (stated_end none_left_out (λ to. none) none e)) h ∙ followed_none body

-- The loop tested before: the first arm leaves and the second stays, or the other way round.
module _ (label : Label) (live : Live) (test : Test) (one two : Tree) where
  abbrev leaves_by : Tree → Tree → Bool
  leaves_by a b = bare_by (Only live) a && is_some (stays label b)

  abbrev as_before : Bool → Tree → Option Form
  as_before turned stay = Some (record { after = false; turned = turned; test = test; body = body_of stay })

  first_leaves : leaves_by one two ≡ true → (form_two label live none test one two ≡ as_before false two) × (end_of two ≡ Jump label)
  first_leaves h =
      let parts = both_true (bare_by (Only live) one) (is_some (stays label two)) h in
      let stay = stay_is label two parts.1 in
      (pretest_hit false test (is_bare live one) (stays label two) (body_of two) _ (bare_is live one ∙ parts.0) stay.0, stay.1)

  second_leaves : leaves_by one two ≡ false → leaves_by two one ≡ true → (form_two label live none test one two ≡ as_before true one) × (end_of one ≡ Jump label)
  second_leaves n h =
      let parts = both_true (bare_by (Only live) two) (is_some (stays label one)) h in
      let stay = stay_is label one parts.1 in (
        pretest_skip false test (is_bare live one) (stays label two) _ (ap (λ b. b && is_some (stays label two)) (bare_is live one) ∙ n)
            ∙ pretest_hit true test (is_bare live two) (stays label one) (body_of one) _ (bare_is live two ∙ parts.0) stay.0,
        stay.1,
      )

-- The loop tested after, behind a body that isn't empty.
module _ (label : Label) (live : Live) (first : language.Stmt) (others : Stmts) (test : Test) (one two : Tree) where
  abbrev back_by : Tree → Tree → Bool
  back_by a b = bare_by (Only live) a && bare_by (Only (ToLabel label)) b

  abbrev as_after : Bool → Option Form
  as_after turned = Some (record { after = true; turned = turned; test = test; body = also first others })

  first_out : back_by one two ≡ true → form_two label live (also first others) test one two ≡ as_after false
  first_out h =
      let parts = both_true (bare_by (Only live) one) (bare_by (Only (ToLabel label)) two) h in
      posttest_hit false test (also first others) (is_bare live one) (is_bare (ToLabel label) two) _ (bare_is live one ∙ parts.0) (bare_is (ToLabel label) two ∙ parts.1)

  second_out : back_by one two ≡ false → back_by two one ≡ true → form_two label live (also first others) test one two ≡ as_after true
  second_out n h =
      let parts = both_true (bare_by (Only live) two) (bare_by (Only (ToLabel label)) one) h in
      posttest_skip false test (also first others) (is_bare live one) (is_bare (ToLabel label) two) _
      (ap (λ b. b && is_bare (ToLabel label) two) (bare_is live one) ∙ ap (λ b. bare_by (Only live) one && b) (bare_is (ToLabel label) two) ∙ n)
      ∙ posttest_hit true test (also first others) (is_bare live two) (is_bare (ToLabel label) one) _ (bare_is live two ∙ parts.0) (bare_is (ToLabel label) one ∙ parts.1)

abbrev unwrap : code.Tree → Option code.Tree → code.Tree
unwrap d None = d
unwrap d (Some t) = t

abbrev pub turning : Bool → Bool → code_test.Test → Turning
turning after turned test = record { after = after; turned = turned; test = test; leaves = leaves.Silent }

flag_not : (after turned : Bool) → form.Flag ≡ when_after after turned → ⊥
flag_not true turned h = apart true refl (ap is_flag h)
flag_not false turned h = apart true refl (ap is_flag h)

-- the old node, by its test and its arms
abbrev pub node_of : Stmts → code_test.Test → Trees → Tree
node_of body test arms = tree body (Pick (If (seen_test test)) arms)

-- the loop that is tested before is the arm that stays
before_two : (label : Label) (live : Live) (turned : Bool) (test : code_test.Test) (a b arm : code.Tree) (t : Tree) →
    way false (bare_by (Only live) (seen_tree a) && is_some (stays label (seen_tree b))) (bare_by (Only live) (seen_tree b) && is_some (stays label (seen_tree a))) ≡ form.Before turned →
    slice_get (a ∷ b ∷ []) (if turned then 0 else 1) ≡ Some arm →
    looped_by (turning false turned test) none (seen_tree arm) (end_at live)
    ≡ formed_if (Only live) (form_two label live none (seen_test test) (seen_tree a) (seen_tree b)) t
before_two label live turned test a b arm t h there =
    elim (way_is false (bare_by (Only live) (seen_tree a) && is_some (stays label (seen_tree b))) (bare_by (Only live) (seen_tree b) && is_some (stays label (seen_tree a))) turned h) [
      | inl w ↦
          let fact = first_leaves label live (seen_test test) (seen_tree a) (seen_tree b) w.0 in
          let at : Some b ≡ Some arm = ap (λ z. slice_get (a ∷ b ∷ []) (if z then 0 else 1)) (sym w.1) ∙ there in
          let is : b ≡ arm = ap (unwrap b) at in
          ap (λ z. looped_by (turning false z test) none (seen_tree arm) (end_at live)) w.1
          ∙ ap (λ x. looped_by (turning false false test) none (seen_tree x) (end_at live)) (sym is)
          ∙ ap (λ s. tree (alone (language.Loop (language.Until false (seen_test test)) (language.Nested s))) (end_at live)) (stated_jump (seen_tree b) label fact.1)
          ∙ sym (ap (λ f. formed_if (Only live) f t) fact.0)
      | inr w ↦
          let fact = second_leaves label live (seen_test test) (seen_tree a) (seen_tree b) w.0 w.1 in
          let at : Some a ≡ Some arm = ap (λ z. slice_get (a ∷ b ∷ []) (if z then 0 else 1)) (sym w.2) ∙ there in
          let is : a ≡ arm = ap (unwrap a) at in
          ap (λ z. looped_by (turning false z test) none (seen_tree arm) (end_at live)) w.2
          ∙ ap (λ x. looped_by (turning false true test) none (seen_tree x) (end_at live)) (sym is)
          ∙ ap (λ s. tree (alone (language.Loop (language.Until false (language.Not (seen_test test))) (language.Nested s))) (end_at live)) (stated_jump (seen_tree a) label fact.1)
          ∙ sym (ap (λ f. formed_if (Only live) f t) fact.0)
    ]

no_target : (targets : Targets) (label : Label) (empty after turned : Bool) (one two : Tree) → ((t : Tree) → bare_by targets t ≡ false) → two_ways targets label empty one two ≡ when_after after turned → ⊥
no_target targets label empty after turned one two h is = flag_not after turned (no_ways targets label empty one two h ∙ is)

pub before_row : (targets : Targets) (label : Label) (turned : Bool) (body : List Piece) (test : code_test.Test) (arms : List code.Tree) (arm : code.Tree) (t : Tree) →
    ways targets label (is_nothing (seen_body body)) (seen_trees arms) ≡ form.Before turned →
    slice_get arms (if turned then 0 else 1) ≡ Some arm →
    looped_by (turning false turned test) (seen_body body) (seen_tree arm) (end_by targets)
    ≡ formed_if targets (form_for label targets (node_of (seen_body body) test (seen_trees arms))) t
before_row targets label turned body test [] arm t h there = absurd (flag_not false turned h)
before_row targets label turned body test (a ∷ []) arm t h there = absurd (flag_not false turned h)
before_row NoTarget label turned body test (a ∷ b ∷ []) arm t h there =
    absurd (no_target NoTarget label (is_nothing (seen_body body)) false turned (seen_tree a) (seen_tree b) (λ x. none_of (is_nothing (body_of x))) h)
before_row (Only live) label turned [] test (a ∷ b ∷ []) arm t h there = before_two label live turned test a b arm t h there
before_row (Only live) label turned (p ∷ ps) test (a ∷ b ∷ []) arm t h there =
    absurd (after_not_before (bare_by (Only live) (seen_tree a) && bare_by (Only (ToLabel label)) (seen_tree b)) (bare_by (Only live) (seen_tree b) && bare_by (Only (ToLabel label)) (seen_tree a)) turned h)
before_row Several label turned body test (a ∷ b ∷ []) arm t h there =
    absurd (no_target Several label (is_nothing (seen_body body)) false turned (seen_tree a) (seen_tree b) (λ x. none_of (is_nothing (body_of x))) h)
before_row targets label turned body test (a ∷ b ∷ c ∷ arms) arm t h there = absurd (flag_not false turned h)

after_two : (label : Label) (live : Live) (turned : Bool) (first : language.Stmt) (others : Stmts) (test : code_test.Test) (a b t : Tree) →
    way true (bare_by (Only live) a && bare_by (Only (ToLabel label)) b) (bare_by (Only live) b && bare_by (Only (ToLabel label)) a) ≡ form.After turned →
    looped_by (turning true turned test) none (tree (also first others) Dead) (end_at live)
    ≡ formed_if (Only live) (form_two label live (also first others) (seen_test test) a b) t
after_two label live turned first others test a b t h =
    elim (way_is true (bare_by (Only live) a && bare_by (Only (ToLabel label)) b) (bare_by (Only live) b && bare_by (Only (ToLabel label)) a) turned h) [
      | inl w ↦
          ap (λ z. looped_by (turning true z test) none (tree (also first others) Dead) (end_at live)) w.1
          ∙ ap (λ s. tree (alone (language.Loop (language.Until true (seen_test test)) (language.Nested s))) (end_at live)) (followed_none (also first others))
          ∙ sym (ap (λ f. formed_if (Only live) f t) (first_out label live first others (seen_test test) a b w.0))
      | inr w ↦
          ap (λ z. looped_by (turning true z test) none (tree (also first others) Dead) (end_at live)) w.2
          ∙ ap (λ s. tree (alone (language.Loop (language.Until true (language.Not (seen_test test))) (language.Nested s))) (end_at live)) (followed_none (also first others))
          ∙ sym (ap (λ f. formed_if (Only live) f t) (second_out label live first others (seen_test test) a b w.0 w.1))
    ]

pub after_row : (targets : Targets) (label : Label) (turned : Bool) (body : List Piece) (test : code_test.Test) (arms : List code.Tree) (t : Tree) →
    ways targets label (is_nothing (seen_body body)) (seen_trees arms) ≡ form.After turned →
    looped_by (turning true turned test) none (tree (seen_body body) Dead) (end_by targets)
    ≡ formed_if targets (form_for label targets (node_of (seen_body body) test (seen_trees arms))) t
after_row targets label turned body test [] t h = absurd (flag_not true turned h)
after_row targets label turned body test (a ∷ []) t h = absurd (flag_not true turned h)
after_row NoTarget label turned body test (a ∷ b ∷ []) t h =
    absurd (no_target NoTarget label (is_nothing (seen_body body)) true turned (seen_tree a) (seen_tree b) (λ x. none_of (is_nothing (body_of x))) h)
after_row (Only live) label turned [] test (a ∷ b ∷ []) t h =
    absurd (before_not_after (bare_by (Only live) (seen_tree a) && is_some (stays label (seen_tree b))) (bare_by (Only live) (seen_tree b) && is_some (stays label (seen_tree a))) turned h)
after_row (Only live) label turned (p ∷ ps) test (a ∷ b ∷ []) t h =
    after_two label live turned (seen_piece p) (seen_body ps) test (seen_tree a) (seen_tree b) t h
after_row Several label turned body test (a ∷ b ∷ []) t h =
    absurd (no_target Several label (is_nothing (seen_body body)) true turned (seen_tree a) (seen_tree b) (λ x. none_of (is_nothing (body_of x))) h)
after_row targets label turned body test (a ∷ b ∷ c ∷ arms) t h = absurd (flag_not true turned h)

abbrev pub arm_place : Bool → ℕ
arm_place turned = if turned then 0 else 1

pub arm_place_small : (turned : Bool) → arm_place turned < 2
arm_place_small true = omega arith
arm_place_small false = omega arith

-- a loop with a test of its own has two arms
pub two_arms : (after turned : Bool) (targets : Targets) (label : Label) (empty : Bool) (arms : List code.Tree) →
    ways targets label empty (seen_trees arms) ≡ when_after after turned → length arms ≡ 2
two_arms after turned targets label empty [] h = absurd (flag_not after turned h)
two_arms after turned targets label empty (a ∷ []) h = absurd (flag_not after turned h)
two_arms after turned targets label empty (a ∷ b ∷ []) h = refl
two_arms after turned targets label empty (a ∷ b ∷ c ∷ arms) h = absurd (flag_not after turned h)

-- a tree that ends in a choice by a test
pub node_row : (t : code.Tree) (by : picker.Picker) (arms : List code.Tree) (test : code_test.Test) →
    end.Pick by arms ≡ t.end → by ≡ picker_is.If test → seen_tree t ≡ node_of (seen_body t.body.items) test (seen_trees arms)
node_row t by arms test h k =
    seen_tree_is t ∙ ap (λ e. tree (seen_body t.body.items) (seen_end e)) (sym h)
    ∙ ap (tree (seen_body t.body.items)) (seen_pick by arms)
    ∙ ap (λ p. tree (seen_body t.body.items) (Pick (seen_picker p) (seen_trees arms))) k

pub ways_from : (label : Label) (targets : Targets) (t : code.Tree) (test : code_test.Test) (arms : List code.Tree) (what : shape.LoopForm) →
    seen_tree t ≡ node_of (seen_body t.body.items) test (seen_trees arms) → form_at (form_for label targets (seen_tree t)) ≡ what →
    ways targets label (is_nothing (seen_body t.body.items)) (seen_trees arms) ≡ what
ways_from label targets t test arms what row h =
    ways_are label targets (seen_body t.body.items) (seen_test test) (seen_trees arms)
    ∙ ap (λ x. form_at (form_for label targets x)) (sym row) ∙ h

pub looped_same : (turn : Turning) (b b' : Stmts) (x x' : Tree) (e e' : End) → b ≡ b' → x ≡ x' → e ≡ e' → looped_by turn b x e ≡ looped_by turn b' x' e'
looped_same turn b b' x x' e e' hb hx he =
    ap (λ z. looped_by turn z x e) hb ∙ ap (λ z. looped_by turn b' z e) hx ∙ ap (looped_by turn b' x') he
