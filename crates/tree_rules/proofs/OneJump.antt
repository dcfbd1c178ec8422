-- The one arm, or the one node, with the jump to a label.
use Rattle.std.proofs.Common.{◌≡◌, ◌<◌, ◌≤◌, ℕ, zero, suc, ◌+◌, Bool, true, false, if◌then◌else◌, ◌==◌, List, [], ◌∷◌, length, take, get_or, set, refl, ap, sym, ◌∙◌, arith, add-one}
use Rattle.control_flow_theory.specs.language.Language.{Stmts}
use Rattle.control_flow_theory.specs.semantics.Doing.{is_above}
use Rattle.control_flow_theory.specs.semantics.Graph.{Label, Tree, tree, End, Pick, Jump, Return, Stop, Dead, Trees, no_more, more}
use Rattle.control_flow_theory.specs.graph_rules.Shapes.{inlined, inline_end, inlined_arms, leaves_to, end_leaves_to, arms_leaves_to}
use Rattle.branch_tree.specs.Changes.{gone_on}
use Rattle.branch_tree.specs.Tree.{trees_of}

abbrev once_if : Bool → ℕ
once_if z = if z then 1 else 0

one_of : (z : Bool) → once_if z ≡ 1 → z ≡ true
one_of true h = refl
one_of false h = let no : ⊥ = cc in absurd no

none_of : (z : Bool) → once_if z ≡ 0 → z ≡ false
none_of true h = let no : ⊥ = cc in absurd no
none_of false h = refl

-- the jump to the label
pub put_jump : (label to : Label) (body : Stmts) (by : Tree) →
    leaves_to label (tree body (Jump to)) ≡ 1 →
    gone_on (tree body Dead) by ≡ inlined label by (tree body (Jump to))
put_jump label to body by h =
    ap (λ z. if z then gone_on (tree body Dead) by else tree body (Jump to)) (sym (one_of (to == label) h))

pub above_one : (n : ℕ) → is_above n ≡ true → 1 ≤ n
above_one zero h = let no : ⊥ = cc in absurd no
above_one (suc n) h = omega arith

both_none : (a b : ℕ) → a + b ≡ 0 → (a ≡ 0) × (b ≡ 0)
both_none a b h = (omega (arith, h), omega (arith, h))

module _ (label : Label) (by : Tree) where
  mutual
    end_absent : (body : Stmts) (end : End) → end_leaves_to label end ≡ 0 →
        inline_end label by body end ≡ tree body end
    end_absent body (Pick picker arms) = λ h. ap (λ a. tree body (Pick picker a)) (arms_absent arms h)
    end_absent body (Jump to) = λ h.
        ap (λ z. if z then gone_on (tree body Dead) by else tree body (Jump to)) (none_of (to == label) h)
    end_absent body Return = λ h. refl
    end_absent body Stop = λ h. refl
    end_absent body Dead = λ h. refl

    -- without such a jump the tree stays
    pub tree_absent : (t : Tree) → leaves_to label t ≡ 0 → inlined label by t ≡ t
    tree_absent (tree body end) = λ h. end_absent body end h

    pub arms_absent : (arms : Trees) → arms_leaves_to label arms ≡ 0 → inlined_arms label by arms ≡ arms
    arms_absent no_more = λ h. refl
    arms_absent (more first others) = λ h.
        (let z = both_none (leaves_to label first) (arms_leaves_to label others) h in
        ap (λ t. more t (inlined_arms label by others)) (tree_absent first z.0)
        ∙ ap (more first) (arms_absent others z.1))

  leaves_most : (ts : List Tree) (at : ℕ) (d : Tree) → at < length ts →
      leaves_to label (get_or ts at d) ≤ arms_leaves_to label (trees_of ts)
  leaves_most [] at d within = let no : ⊥ = omega (arith, within) in absurd no
  leaves_most (t ∷ ts) zero d within = omega arith
  leaves_most (t ∷ ts) (suc at) d within =
      let less : at < length ts = omega (arith, within) in
      let h = leaves_most ts at d less in
      omega (arith, h)

  -- the one jump is in this arm
  pub arm_is_one : (ts : List Tree) (at : ℕ) (d : Tree) → at < length ts →
      arms_leaves_to label (trees_of ts) ≡ 1 → is_above (leaves_to label (get_or ts at d)) ≡ true →
      leaves_to label (get_or ts at d) ≡ 1
  arm_is_one ts at d within one here =
      let most = leaves_most ts at d within in
      let least = above_one (leaves_to label (get_or ts at d)) here in
      omega (arith, most, least, one)

  -- the arm with the one jump has changed
  pub put_set : (ts : List Tree) (at : ℕ) (d : Tree) → at < length ts →
      arms_leaves_to label (trees_of ts) ≡ 1 → leaves_to label (get_or ts at d) ≡ 1 →
      trees_of (set ts at (inlined label by (get_or ts at d))) ≡ inlined_arms label by (trees_of ts)
  put_set [] at d within one here = let no : ⊥ = omega (arith, within) in absurd no
  put_set (t ∷ ts) zero d within one here =
      let rest : arms_leaves_to label (trees_of ts) ≡ 0 = omega (arith, here, one) in
      ap (more (inlined label by t)) (sym (arms_absent (trees_of ts) rest))
  put_set (t ∷ ts) (suc at) d within one here =
      let less : at < length ts = omega (arith, within) in
      let most = leaves_most ts at d less in
      let first : leaves_to label t ≡ 0 = omega (arith, most, here, one) in
      let rest : arms_leaves_to label (trees_of ts) ≡ 1 = omega (arith, first, one) in
      ap (more t) (put_set ts at d less rest here)
      ∙ ap (λ x. more x (inlined_arms label by (trees_of ts))) (sym (tree_absent t first))

-- The arms one after the other.

leaves_next : (label : Label) (ts : List Tree) (at : ℕ) (d : Tree) → at < length ts →
    arms_leaves_to label (trees_of (take at ts)) + leaves_to label (get_or ts at d) ≡ arms_leaves_to label (trees_of (take (suc at) ts))
leaves_next label [] at d within = let no : ⊥ = omega (arith, within) in absurd no
leaves_next label (t ∷ ts) zero d within = omega arith
leaves_next label (t ∷ ts) (suc at) d within =
    let less : at < length ts = omega (arith, within) in
    let h = leaves_next label ts at d less in
    omega (arith, h)

-- one more without such a jump
pub none_next : (label : Label) (ts : List Tree) (at : ℕ) (d : Tree) → at < length ts → arms_leaves_to label (trees_of (take at ts)) ≡ 0 →
    leaves_to label (get_or ts at d) ≡ 0 → arms_leaves_to label (trees_of (take (at + 1) ts)) ≡ 0
none_next label ts at d within none here =
    let h = leaves_next label ts at d within in
    let e : arms_leaves_to label (trees_of (take (suc at) ts)) ≡ 0 = omega (arith, h, none, here) in
    ap (λ n. arms_leaves_to label (trees_of (take n ts))) (add-one at) ∙ e

pub few_in_arm : (label : Label) (by : Tree) (ts : List Tree) (at : ℕ) (d : Tree) → at < length ts → arms_leaves_to label (trees_of ts) ≤ 1 → leaves_to label (get_or ts at d) ≤ 1
few_in_arm label by ts at d within few = let most = leaves_most label by ts at d within in omega (arith, most, few)

-- the tree stands in the arm
pub placed_set : (label : Label) (by : Tree) (ts : List Tree) (at : ℕ) (d new : Tree) → at < length ts → arms_leaves_to label (trees_of ts) ≤ 1 →
    new ≡ inlined label by (get_or ts at d) → leaves_to label (get_or ts at d) ≡ 1 →
    (trees_of (set ts at new) ≡ inlined_arms label by (trees_of ts)) × (arms_leaves_to label (trees_of ts) ≡ 1)
placed_set label by ts at d new within few is here =
    let most = leaves_most label by ts at d within in
    let one : arms_leaves_to label (trees_of ts) ≡ 1 = omega (arith, most, few, here) in
    (ap (λ t. trees_of (set ts at t)) is ∙ put_set label by ts at d within one here, one)

-- the jump of a leaf
pub leaf_one : (label to : Label) (body : Stmts) → (to == label) ≡ true → leaves_to label (tree body (Jump to)) ≡ 1
leaf_one label to body h = ap once_if h

pub leaf_none : (label to : Label) (body : Stmts) → (to == label) ≡ false → leaves_to label (tree body (Jump to)) ≡ 0
leaf_none label to body h = ap once_if h
