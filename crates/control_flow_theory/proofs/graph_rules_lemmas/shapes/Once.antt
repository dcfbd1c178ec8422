-- Joins one by one.
use Rattle.std.proofs.Common.{◌≡◌, [], ◌∷◌, Option, Some, None, refl, ap, sym, ◌∙◌, subst, inl, inr}
use Rattle.control_flow_theory.specs.language.Language.{Picker, StopRun, Stmts}
use Rattle.control_flow_theory.specs.language.Items.{Do, before}
use Rattle.control_flow_theory.specs.semantics.Graph.{Tree, tree, End, Pick, Jump, Return, Stop, Dead, Trees, no_more, more, body_of, end_of}
use Rattle.control_flow_theory.specs.graph_rules.Joins.{JoinsTree, JoinsTrees}
use Rattle.control_flow_theory.specs.graph_rules.Shapes.{alone, Live, ToLabel, Back, Targets, NoTarget, Only, Several, leaf_targets, arms_targets, arms_stmts, arm_stmts, both_targets, join_by, joined, joined_arms, later_arm, first_arm, once_by, joined_once, once_end, once_arms}
use Rattle.control_flow_theory.proofs.graph_rules_lemmas.shapes.Shaping.{before-followed, JoinedAs, ArmsAs, nothing-more, join-by}
use Rattle.control_flow_theory.proofs.graph_rules_lemmas.rules.Sounds.{self-tree, self-trees}

-- a tree as itself
self-as : (t : Tree) → JoinedAs t t
self-as (tree body (Pick picker arms)) = (self-tree (tree body (Pick picker arms)), (λ end fits. absurd fits))
self-as (tree body (Jump to)) = (([], refl, (refl, refl)), (λ end fits. ([], nothing-more body, (refl, fits))))
self-as (tree body Return) = (([], refl, (refl, refl)), (λ end fits. ([], nothing-more body, (refl, fits))))
self-as (tree body Stop) = (([], refl, inl (refl, refl)), (λ end fits. (Do StopRun ∷ [], before-followed body (alone StopRun) [], inr refl)))
self-as (tree body Dead) = (([], refl, refl), (λ end fits. ([], nothing-more body, refl)))

self-arms-as : (arms : Trees) → ArmsAs arms arms
self-arms-as no_more = (refl, (λ end fits. refl))
self-arms-as (more first others) =
    let a = self-as first in let b = self-arms-as others in
    ((first, others, refl, a.0, b.0), (λ end fits. (arm_stmts first, arms_stmts others, inl refl, a.1 end fits.0, b.1 end fits.1)))

-- what one join gives, where it applies
abbrev OnceAs : Tree → Option Tree → Type 0
OnceAs t None = Unit {0}
OnceAs t (Some u) = JoinsTree t (before (body_of u) []) (end_of u)

abbrev OnceArms : Trees → Option Trees → Type 0
OnceArms arms None = Unit {0}
OnceArms arms (Some news) = JoinsTrees arms news

by-as : (body : Stmts) (picker : Picker) (arms : Trees) (targets : Targets) (inner : Option Trees) → arms_targets arms ≡ targets → OnceArms arms inner → OnceAs (tree body (Pick picker arms)) (once_by body picker arms targets inner)
by-as body picker arms NoTarget inner is h = (join-by body picker arms arms NoTarget is (self-arms-as arms)).0
by-as body picker arms (Only live) inner is h = (join-by body picker arms arms (Only live) is (self-arms-as arms)).0
by-as body picker arms Several None is h = tt
by-as body picker arms Several (Some news) is h = ([], refl, inl (news, refl, refl, h))

arm-as : (first : Tree) (others : Trees) (one : Option Tree) (rest : Option Trees) → OnceAs first one → OnceArms others rest → OnceArms (more first others) (first_arm one others (later_arm first rest))
arm-as first others (Some u) rest h k = (u, others, refl, h, self-trees others)
arm-as first others None (Some news) h k = (first, news, refl, self-tree first, k)
arm-as first others None None h k = tt

mutual
  once-as : (t : Tree) → OnceAs t (joined_once t)
  once-as (tree body end) = end-once body end

  end-once : (body : Stmts) (end : End) → OnceAs (tree body end) (once_end body end)
  end-once body (Pick picker arms) = by-as body picker arms (arms_targets arms) (once_arms arms) refl (arms-once arms)
  end-once body (Jump to) = tt
  end-once body Return = tt
  end-once body Stop = tt
  end-once body Dead = tt

  arms-once : (arms : Trees) → OnceArms arms (once_arms arms)
  arms-once no_more = tt
  arms-once (more first others) = arm-as first others (joined_once first) (once_arms others) (once-as first) (arms-once others)

pub one-join-gives : (t u : Tree) → joined_once t ≡ Some u → JoinsTree t (before (body_of u) []) (end_of u)
one-join-gives t u e = subst (OnceAs t) e (once-as t)

-- Arms whose ends are leaves are joined as they are.

abbrev Flat : Targets → Type 0
Flat NoTarget = Unit {0}
Flat (Only live) = Unit {0}
Flat Several = ⊥

flat-both : (one two : Targets) → Flat (both_targets one two) → Flat one × Flat two
flat-both NoTarget two h = (tt, h)
flat-both (Only a) NoTarget h = (tt, tt)
flat-both (Only a) (Only b) h = (tt, tt)
flat-both (Only a) Several h = absurd h
flat-both Several two h = absurd h

leaf-joined : (t : Tree) → Flat (leaf_targets (end_of t)) → joined t ≡ t
leaf-joined (tree body (Pick picker arms)) h = absurd h
leaf-joined (tree body (Jump to)) h = refl
leaf-joined (tree body Return) h = refl
leaf-joined (tree body Stop) h = refl
leaf-joined (tree body Dead) h = refl

flat-joined : (arms : Trees) → Flat (arms_targets arms) → joined_arms arms ≡ arms
flat-joined no_more h = refl
flat-joined (more first others) h =
    let b = flat-both (leaf_targets (end_of first)) (arms_targets others) h in
    ap (λ x. more x (joined_arms others)) (leaf-joined first b.0) ∙ ap (more first) (flat-joined others b.1)

-- After one join the same is left to do.

abbrev SameAfter : Tree → Option Tree → Type 0
SameAfter t None = joined t ≡ t
SameAfter t (Some u) = joined u ≡ joined t

abbrev SameArms : Trees → Option Trees → Type 0
SameArms arms None = joined_arms arms ≡ arms
SameArms arms (Some news) = joined_arms news ≡ joined_arms arms

by-same : (body : Stmts) (picker : Picker) (arms : Trees) (targets : Targets) (inner : Option Trees) → arms_targets arms ≡ targets → SameArms arms inner → SameAfter (tree body (Pick picker arms)) (once_by body picker arms targets inner)
by-same body picker arms NoTarget inner is h =
    sym (ap (λ x. join_by body picker x (arms_targets x)) (flat-joined arms (subst Flat (sym is) tt)) ∙ ap (join_by body picker arms) is)
by-same body picker arms (Only live) inner is h =
    leaf-same live ∙ sym (ap (λ x. join_by body picker x (arms_targets x)) (flat-joined arms (subst Flat (sym is) tt)) ∙ ap (join_by body picker arms) is)
  where
    leaf-same : (live : Live) → joined (join_by body picker arms (Only live)) ≡ join_by body picker arms (Only live)
    leaf-same (ToLabel to) = refl
    leaf-same Back = refl
by-same body picker arms Several (Some news) is h = ap (λ x. join_by body picker x (arms_targets x)) h
by-same body picker arms Several None is h = ap (λ x. join_by body picker x (arms_targets x)) h ∙ ap (join_by body picker arms) is

arm-same : (first : Tree) (others : Trees) (one : Option Tree) (rest : Option Trees) → SameAfter first one → SameArms others rest → SameArms (more first others) (first_arm one others (later_arm first rest))
arm-same first others (Some u) rest h k = ap (λ x. more x (joined_arms others)) h
arm-same first others None (Some news) h k = ap (more (joined first)) k
arm-same first others None None h k = ap (λ x. more x (joined_arms others)) h ∙ ap (more first) k

mutual
  same-after : (t : Tree) → SameAfter t (joined_once t)
  same-after (tree body end) = end-same body end

  end-same : (body : Stmts) (end : End) → SameAfter (tree body end) (once_end body end)
  end-same body (Pick picker arms) = by-same body picker arms (arms_targets arms) (once_arms arms) refl (arms-same arms)
  end-same body (Jump to) = refl
  end-same body Return = refl
  end-same body Stop = refl
  end-same body Dead = refl

  arms-same : (arms : Trees) → SameArms arms (once_arms arms)
  arms-same no_more = refl
  arms-same (more first others) = arm-same first others (joined_once first) (once_arms others) (same-after first) (arms-same others)

pub joins-add-up : (t u : Tree) → joined_once t ≡ Some u → joined u ≡ joined t
joins-add-up t u e = subst (SameAfter t) e (same-after t)

pub no-join-is-left : (t : Tree) → joined_once t ≡ None → joined t ≡ t
no-join-is-left t e = subst (SameAfter t) e (same-after t)
