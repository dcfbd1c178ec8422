-- One pass of Join joins something exactly where one join does.
use Rattle.std.proofs.Common.{◌≡◌, ◌<◌, ℕ, zero, suc, ◌+◌, Bool, true, false, ◌||◌, List, [], ◌∷◌, length, take, get_or, Option, Some, None, is_some, Ok, refl, ap, sym, ◌∙◌, arith, add-one}
use Rattle.control_flow_theory.specs.language.Language.{Stmts, Picker}
use Rattle.control_flow_theory.specs.semantics.Graph.{Tree, tree, Pick, Trees, no_more, more}
use Rattle.control_flow_theory.specs.graph_rules.Shapes.{Targets, NoTarget, Only, Several, arms_targets, join_by, joined, joined_arms, later_arm, first_arm, once_by, joined_once, once_arms}
use Rattle.control_flow_theory.specs.graph_rules.Reduced.{at_most_one}
use Rattle.control_flow_theory.proofs.graph_rules_lemmas.shapes.Once.{no-join-is-left}
use Rattle.branch_tree.specs.Choosers.{seen_picker}
use Rattle.branch_tree.specs.Tree.{seen_tree, seen_body, seen_end, seen_trees, trees_of}
use Rattle.branch_tree.specs.declared.chooser.Picker as code_picker
use Rattle.branch_tree.specs.declared.tree.Tree as code
use Rattle.branch_tree.specs.declared.tree.End.TheVariants as end
use Rattle.branch_tree.proofs.TreeRows.{seen_tree_is, seen_pick}
use Rattle.tree_rules.specs.Joining.{may_join, arms_may_join, JoinsAll}

not_some : {A : Type 0} (o : Option A) → is_some o ≡ false → o ≡ None
not_some None h = refl
not_some (Some x) h = let no : ⊥ = cc in absurd no

-- where it joins nothing the tree is joined
pub none_joined : (t : Tree) → may_join t ≡ false → joined t ≡ t
none_joined t h = no-join-is-left t (not_some (joined_once t) h)

-- whatever it answers, the tree is joined
pub joins_joined : (some : Bool) (old new : Tree) → JoinsAll (Ok some) old new → new ≡ joined old
joins_joined true old new h = h.1
joins_joined false old new h = h.1 ∙ sym (none_joined old h.0)

-- and the other way round
pub joins_by : (some : Bool) (old new : Tree) → some ≡ may_join old → new ≡ joined old →
    JoinsAll (Ok some) old new
joins_by true old new h k = (sym h, k)
joins_by false old new h k = (sym h, k ∙ none_joined old (sym h))

-- The arms of a choice.

arm_cases : (first : Tree) (others : Trees) (one : Option Tree) (rest : Option Trees) →
    is_some (first_arm one others (later_arm first rest))
    ≡ (is_some one || is_some rest)
arm_cases first others (Some new) rest = refl
arm_cases first others None (Some news) = refl
arm_cases first others None None = refl

arms_may : (first : Tree) (others : Trees) →
    arms_may_join (more first others) ≡ (may_join first || arms_may_join others)
arms_may first others = arm_cases first others (joined_once first) (once_arms others)

neither : (one other : Bool) → (one || other) ≡ false →
    (one ≡ false) × (other ≡ false)
neither true other h = let no : ⊥ = cc in absurd no
neither false other h = (refl, h)

none_joined_arms : (arms : Trees) → arms_may_join arms ≡ false → joined_arms arms ≡ arms
none_joined_arms no_more h = refl
none_joined_arms (more first others) h =
    let both = neither (may_join first) (arms_may_join others) (sym (arms_may first others) ∙ h) in
    ap (λ t. more t (joined_arms others)) (none_joined first both.0)
    ∙ ap (more first) (none_joined_arms others both.1)

pick_cases : (body : Stmts) (picker : Picker) (arms : Trees) (targets : Targets)
    (inner : Option Trees) →
    is_some (once_by body picker arms targets inner)
    ≡ (is_some inner || at_most_one targets)
pick_cases body picker arms NoTarget None = refl
pick_cases body picker arms NoTarget (Some news) = refl
pick_cases body picker arms (Only live) None = refl
pick_cases body picker arms (Only live) (Some news) = refl
pick_cases body picker arms Several None = refl
pick_cases body picker arms Several (Some news) = refl

after_arms : (some : Bool) (one other : Bool) → (some ≡ false → one ≡ other) →
    (some || one) ≡ (some || other)
after_arms true one other h = refl
after_arms false one other h = h refl

-- a choice is joined, or one within its arms, which are joined first
pub pick_joins : (body : Stmts) (picker : Picker) (arms : Trees) →
    (arms_may_join arms || at_most_one (arms_targets (joined_arms arms)))
    ≡ may_join (tree body (Pick picker arms))
pick_joins body picker arms =
    after_arms (arms_may_join arms) (at_most_one (arms_targets (joined_arms arms)))
    (at_most_one (arms_targets arms))
    (λ h. ap (λ a. at_most_one (arms_targets a)) (none_joined_arms arms h))
    ∙ sym (pick_cases body picker arms (arms_targets arms) (once_arms arms))

either_later : (one two other : Bool) →
    (one || (two || other)) ≡ ((one || two) || other)
either_later true two other = refl
either_later false two other = refl

some_next : (ts : List Tree) (at : ℕ) (d : Tree) → at < length ts →
    (arms_may_join (trees_of (take at ts)) || may_join (get_or ts at d))
    ≡ arms_may_join (trees_of (take (suc at) ts))
some_next [] at d within = let no : ⊥ = omega (arith, within) in absurd no
some_next (t ∷ ts) zero d within = at_end (may_join t) ∙ sym (arms_may t no_more)
  where
    at_end : (some : Bool) → some ≡ (some || false)
    at_end true = refl
    at_end false = refl
some_next (t ∷ ts) (suc at) d within =
    let less : at < length ts = omega (arith, within) in
    ap (λ z. z || may_join (get_or ts at d)) (arms_may t (trees_of (take at ts)))
    ∙ sym (either_later (may_join t) (arms_may_join (trees_of (take at ts))) (may_join (get_or ts at d)))
    ∙ ap (λ z. may_join t || z) (some_next ts at d less)
    ∙ sym (arms_may t (trees_of (take (suc at) ts)))

-- one arm more
pub some_joins : (ts : List Tree) (at : ℕ) (d : Tree) → at < length ts →
    (arms_may_join (trees_of (take at ts)) || may_join (get_or ts at d))
    ≡ arms_may_join (trees_of (take (at + 1) ts))
some_joins ts at d within =
    some_next ts at d within ∙ ap (λ n. arms_may_join (trees_of (take n ts))) (sym (add-one at))

-- A tree that ends in a choice, whose arms are joined.
module _ (t : code.Tree) (by : code_picker.Picker) (arms news : List code.Tree)
    (is : t.end ≡ end.Pick by arms)
    (arms_are : seen_trees news ≡ joined_arms (seen_trees arms)) where
  seen_is : seen_tree t ≡ tree (seen_body t.body.items) (Pick (seen_picker by) (seen_trees arms))
  seen_is =
      seen_tree_is t
      ∙ ap (λ e. tree (seen_body t.body.items) e) (ap seen_end is ∙ seen_pick by arms)

  pub joined_row : (new : Tree) →
      new ≡ join_by (seen_body t.body.items) (seen_picker by) (seen_trees news)
      (arms_targets (seen_trees news)) →
      new ≡ joined (seen_tree t)
  joined_row new h =
      h
      ∙ ap (λ a. join_by (seen_body t.body.items) (seen_picker by) a (arms_targets a)) arms_are
      ∙ sym (ap joined seen_is)

  pub joins_row : (inner outer : Bool) → inner ≡ arms_may_join (seen_trees arms) →
      outer ≡ at_most_one (arms_targets (seen_trees news)) →
      (inner || outer) ≡ may_join (seen_tree t)
  joins_row inner outer h k =
      ap (λ z. z || outer) h
      ∙ ap (λ z. arms_may_join (seen_trees arms) || z)
      (k ∙ ap (λ a. at_most_one (arms_targets a)) arms_are)
      ∙ pick_joins (seen_body t.body.items) (seen_picker by) (seen_trees arms)
      ∙ sym (ap may_join seen_is)
