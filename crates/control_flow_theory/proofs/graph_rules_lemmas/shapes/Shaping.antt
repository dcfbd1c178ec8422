-- What the functions of the rules give is in their relations.
use Rattle.std.proofs.Common.{◌≡◌, ℕ, true, false, if◌then◌else◌, ◌==◌, List, [], ◌∷◌, refl, ap, sym, ◌∙◌, subst, arith, eqb-true, inl, inr}
use Rattle.std.proofs.lemmas.Bool.Decides.{eqb_tells}
use Rattle.control_flow_theory.specs.language.Language.{Set, Test, If, Picker, Choose, StopRun, Stmts, none, also, Arms, done, given, missing, Range}
use Rattle.control_flow_theory.specs.language.Language as language
use Rattle.control_flow_theory.specs.language.Items.{Item, Do, before}
use Rattle.control_flow_theory.specs.semantics.Graph.{Label, Tree, tree, End, Pick, Jump, Return, Stop, Dead, Trees, no_more, more, body_of, end_of}
use Rattle.control_flow_theory.specs.graph_rules.Joins.{JoinsTree, JoinsTrees, JoinsArms}
use Rattle.control_flow_theory.specs.graph_rules.Inlines.{InlinesTree, InlinesTrees, PlainEnd, PlainTree, PlainTrees}
use Rattle.control_flow_theory.specs.graph_rules.Loops.{Keeper, Flagged, LoopsEnd, LoopsTree, LoopsArms}
use Rattle.control_flow_theory.specs.graph_rules.Shapes.{followed, alone, Live, ToLabel, Back, end_at, Targets, NoTarget, Only, Several, same_live, both_targets, leaf_targets, arms_targets, last_stmts, arm_stmts, arms_stmts, join_by, joined, join_end, joined_arms, inlined, inline_end, inlined_arms, leaves_to, end_leaves_to, arms_leaves_to, other_targets, end_targets, other_arms_targets, leaving, flat, flat_end, flat_arms}

pub before-followed : (one two : Stmts) (rest : List Item) → before (followed one two) rest ≡ before one (before two rest)
before-followed none two rest = refl
before-followed (also stmt stmts) two rest = ap (λ x. Do stmt ∷ x) (before-followed stmts two rest)

pub same-live : (a b : Live) → same_live a b ≡ true → a ≡ b
same-live (ToLabel to) (ToLabel other) e = ap ToLabel (eqb-true to other e)
same-live (ToLabel to) Back e = absurd (cc)
same-live Back (ToLabel to) e = absurd (cc)
same-live Back Back e = refl

-- all targets are this one
abbrev pub Within : Live → Targets → Type 0
Within live NoTarget = Unit {0}
Within live (Only other) = other ≡ live
Within live Several = ⊥

both-within : (live : Live) (one two : Targets) → Within live (both_targets one two) → Within live one × Within live two
both-within live NoTarget two h = (tt, h)
both-within live (Only a) NoTarget h = (h, tt)
both-within live (Only a) (Only b) h =
    elim (same_live a b) as (λ t. same_live a b ≡ t → Within live (if t then Only b else Several) → (a ≡ live) × (b ≡ live)) [
      | true ↦ λ e h. (same-live a b e ∙ h, h)
      | false ↦ λ e h. absurd h
    ] refl h
both-within live (Only a) Several h = absurd h
both-within live Several two h = absurd h

both-none : (one two : Targets) → both_targets one two ≡ NoTarget → (one ≡ NoTarget) × (two ≡ NoTarget)
both-none NoTarget two h = (refl, h)
both-none (Only a) NoTarget h = absurd (cc)
both-none (Only a) (Only b) h =
    elim (same_live a b) as (λ t. (if t then Only b else Several) ≡ NoTarget → (Only a ≡ NoTarget) × (Only b ≡ NoTarget)) [ true ↦ λ h. absurd (cc) | false ↦ λ h. absurd (cc) ] h
both-none (Only a) Several h = absurd (cc)
both-none Several two h = absurd (cc)

-- the leaf may become a statement before this end
abbrev pub FitsEnd : End → End → Type 0
FitsEnd (Pick picker arms) end = ⊥
FitsEnd (Jump to) end = end ≡ Jump to
FitsEnd Return end = end ≡ Return
FitsEnd Stop end = Unit {0}
FitsEnd Dead end = Unit {0}

abbrev pub FitAll : Trees → End → Type 0
FitAll no_more end = Unit {0}
FitAll (more first others) end = FitsEnd (end_of first) end × FitAll others end

fits-live : (leaf : End) (live : Live) → Within live (leaf_targets leaf) → FitsEnd leaf (end_at live)
fits-live (Pick picker arms) live h = h
fits-live (Jump to) live h = sym (ap end_at h)
fits-live Return live h = sym (ap end_at h)
fits-live Stop live h = tt
fits-live Dead live h = tt

fits-none : (leaf end : End) → leaf_targets leaf ≡ NoTarget → FitsEnd leaf end
fits-none (Pick picker arms) end h = absurd (cc)
fits-none (Jump to) end h = absurd (cc)
fits-none Return end h = absurd (cc)
fits-none Stop end h = tt
fits-none Dead end h = tt

all-live : (arms : Trees) (live : Live) → Within live (arms_targets arms) → FitAll arms (end_at live)
all-live no_more live h = tt
all-live (more first others) live h = let b = both-within live (leaf_targets (end_of first)) (arms_targets others) h in (fits-live (end_of first) live b.0, all-live others live b.1)

all-none : (arms : Trees) (end : End) → arms_targets arms ≡ NoTarget → FitAll arms end
all-none no_more end h = tt
all-none (more first others) end h = let b = both-none (leaf_targets (end_of first)) (arms_targets others) h in (fits-none (end_of first) end b.0, all-none others end b.1)

-- Join.

-- a tree and what it became, which may also become a statement before an end that fits
abbrev pub JoinedAs : Tree → Tree → Type 0
JoinedAs old new = JoinsTree old (before (body_of new) []) (end_of new) × ((end : End) → FitsEnd (end_of new) end → JoinsTree old (before (arm_stmts new) []) end)

abbrev pub ArmsAs : Trees → Trees → Type 0
ArmsAs olds news = JoinsTrees olds news × ((end : End) → FitAll news end → JoinsArms olds (arms_stmts news) end)

pub nothing-more : (body : Stmts) → before (followed body none) [] ≡ before body []
nothing-more body = before-followed body none []

pub join-by : (body : Stmts) (picker : Picker) (arms news : Trees) (targets : Targets) → arms_targets news ≡ targets → ArmsAs arms news → JoinedAs (tree body (Pick picker arms)) (join_by body picker news targets)
join-by body picker arms news NoTarget is both = (
  (Do (Choose picker (arms_stmts news)) ∷ [], before-followed body (alone (Choose picker (arms_stmts news))) [], inr (arms_stmts news, refl, both.1 Dead (all-none news Dead is))),
  (λ end fits. (Do (Choose picker (arms_stmts news)) ∷ [], nothing-more (followed body (alone (Choose picker (arms_stmts news)))) ∙ before-followed body (alone (Choose picker (arms_stmts news))) [], inr (arms_stmts news, refl, both.1 end (all-none news end is)))),
)
join-by body picker arms news (Only live) is both =
    let all = all-live news live (subst (Within live) (sym is) refl) in (
      (Do (Choose picker (arms_stmts news)) ∷ [], before-followed body (alone (Choose picker (arms_stmts news))) [], inr (arms_stmts news, refl, both.1 (end_at live) all)),
      (λ end fits. (Do (Choose picker (arms_stmts news)) ∷ [], last-none live (followed body (alone (Choose picker (arms_stmts news)))) ∙ before-followed body (alone (Choose picker (arms_stmts news))) [], inr (arms_stmts news, refl, subst (JoinsArms arms (arms_stmts news)) (sym (same live end fits)) (both.1 (end_at live) all)))),
    )
  where
    last-none : (live : Live) (stmts : Stmts) → before (followed stmts (last_stmts (end_at live))) [] ≡ before stmts []
    last-none (ToLabel to) stmts = nothing-more stmts
    last-none Back stmts = nothing-more stmts

    same : (live : Live) (end : End) → FitsEnd (end_at live) end → end ≡ end_at live
    same (ToLabel to) end h = h
    same Back end h = h
join-by body picker arms news Several is both = (([], refl, inl (news, refl, refl, both.0)), (λ end fits. absurd fits))

as-more : (first : Tree) (others : Trees) (one : Tree) (rest : Trees) → JoinedAs first one → ArmsAs others rest → ArmsAs (more first others) (more one rest)
as-more first others one rest a b = ((one, rest, refl, a.0, b.0), (λ end fits. (arm_stmts one, arms_stmts rest, inl refl, a.1 end fits.0, b.1 end fits.1)))

mutual
  pub joined-as : (t : Tree) → JoinedAs t (joined t)
  joined-as (tree body end) = end-as body end

  end-as : (body : Stmts) (end : End) → JoinedAs (tree body end) (join_end body end)
  end-as body (Pick picker arms) = join-by body picker arms (joined_arms arms) (arms_targets (joined_arms arms)) refl (arms-as arms)
  end-as body (Jump to) = (([], refl, (refl, refl)), (λ end fits. ([], nothing-more body, (refl, fits))))
  end-as body Return = (([], refl, (refl, refl)), (λ end fits. ([], nothing-more body, (refl, fits))))
  end-as body Stop = (([], refl, inl (refl, refl)), (λ end fits. (Do StopRun ∷ [], before-followed body (alone StopRun) [], inr refl)))
  end-as body Dead = (([], refl, refl), (λ end fits. ([], nothing-more body, refl)))

  arms-as : (arms : Trees) → ArmsAs arms (joined_arms arms)
  arms-as no_more = (refl, (λ end fits. refl))
  arms-as (more first others) = as-more first others (joined first) (joined_arms others) (joined-as first) (arms-as others)

-- the tree after all joins is one in which some choices became statements
pub joined-joins : (t : Tree) → JoinsTree t (before (body_of (joined t)) []) (end_of (joined t))
joined-joins t = (joined-as t).0

-- Inline.

module _ (label : Label) (node : Tree) (here : Label → Type 0) (at_it : (l : Label) → l ≡ label → here l) (only : (l : Label) → here l → l ≡ label) where
  jump-inlines : (body : Stmts) (to : Label) → InlinesTree here node (tree body (Jump to)) (before (body_of (inline_end label node body (Jump to))) []) (end_of (inline_end label node body (Jump to)))
  jump-inlines body to =
      elim (to == label) as (λ t. (to == label) ≡ t → InlinesTree here node (tree body (Jump to)) (before (body_of (if t then tree (followed body (body_of node)) (end_of node) else tree body (Jump to))) []) (end_of (if t then tree (followed body (body_of node)) (end_of node) else tree body (Jump to)))) [
        | true ↦ λ e. (before (body_of node) [], before-followed body (body_of node) [], inr (at_it to (eqb-true to label e), refl, refl))
        | false ↦ λ e. ([], refl, inl ((λ h. let f : (to == label) ≡ true = ap (λ x. x == label) (only to h) ∙ self label in let q = sym e ∙ f in cc), refl, refl))
      ] refl
    where
      self : (n : ℕ) → (n == n) ≡ true
      self n = elim (eqb_tells n n) [ inl e ↦ e.0 | inr e ↦ absurd (e.1 refl) ]

  mutual
    pub inlined-inlines : (t : Tree) → InlinesTree here node t (before (body_of (inlined label node t)) []) (end_of (inlined label node t))
    inlined-inlines (tree body end) = end-inlines body end

    end-inlines : (body : Stmts) (end : End) → InlinesTree here node (tree body end) (before (body_of (inline_end label node body end)) []) (end_of (inline_end label node body end))
    end-inlines body (Pick picker arms) = ([], refl, (inlined_arms label node arms, refl, refl, arms-inlines arms))
    end-inlines body (Jump to) = jump-inlines body to
    end-inlines body Return = ([], refl, (refl, refl))
    end-inlines body Stop = ([], refl, (refl, refl))
    end-inlines body Dead = ([], refl, (refl, refl))

    arms-inlines : (arms : Trees) → InlinesTrees here node arms (inlined_arms label node arms)
    arms-inlines no_more = refl
    arms-inlines (more first others) = (inlined label node first, inlined_arms label node others, refl, inlined-inlines first, arms-inlines others)

-- a tree without such a leaf is plain
module _ (label : Label) (here : Label → Type 0) (only : (l : Label) → here l → l ≡ label) where
  jump-plain : (to : Label) → end_leaves_to label (Jump to) ≡ 0 → here to → ⊥
  jump-plain to e h = elim (eqb_tells to label) [
    | inl d ↦ let one : ℕ = 1 in let f : end_leaves_to label (Jump to) ≡ one = ap (λ t. if t then one else 0) d.0 in omega (arith, e, f)
    | inr d ↦ d.1 (only to h)
  ]

  mutual
    pub no-leaves-plain : (t : Tree) → leaves_to label t ≡ 0 → PlainTree here t
    no-leaves-plain (tree body end) = end-plain end

    end-plain : (end : End) → end_leaves_to label end ≡ 0 → PlainEnd here end
    end-plain (Pick picker arms) = arms-plain arms
    end-plain (Jump to) = jump-plain to
    end-plain Return = λ e. tt
    end-plain Stop = λ e. tt
    end-plain Dead = λ e. tt

    arms-plain : (arms : Trees) → arms_leaves_to label arms ≡ 0 → PlainTrees here arms
    arms-plain no_more = λ e. tt
    arms-plain (more first others) = λ e. (no-leaves-plain first (omega (arith, e)), arms-plain others (omega (arith, e)))

-- Loop.

module _ (keeper : Keeper) (cell : ℕ) (label : Label) (out : End) where
  -- a target that leaves the loop
  abbrev pub Leaves : Targets → Type 0
  Leaves NoTarget = Unit {0}
  Leaves (Only live) = (keeper ≡ Flagged) × (out ≡ end_at live)
  Leaves Several = ⊥

  both-leave : (one two : Targets) → Leaves (both_targets one two) → Leaves one × Leaves two
  both-leave NoTarget two h = (tt, h)
  both-leave (Only a) NoTarget h = (h, tt)
  both-leave (Only a) (Only b) h =
      elim (same_live a b) as (λ t. same_live a b ≡ t → Leaves (if t then Only b else Several) → Leaves (Only a) × Leaves (Only b)) [
        | true ↦ λ e h. ((h.0, h.1 ∙ ap end_at (sym (same-live a b e))), h)
        | false ↦ λ e h. absurd h
      ] refl h
  both-leave (Only a) Several h = absurd h
  both-leave Several two h = absurd h

  leaving-is : keeper ≡ Flagged → before (leaving keeper cell) [] ≡ Do (language.Do (Set cell 1)) ∷ []
  leaving-is e = ap (λ k. before (leaving k cell) []) e

  jump-loops : (to : Label) → Leaves (if to == label then NoTarget else Only (ToLabel to)) → LoopsEnd keeper cell label out (Jump to) (before (if to == label then none else leaving keeper cell) [])
  jump-loops to h =
      elim (to == label) as (λ t. (to == label) ≡ t → Leaves (if t then NoTarget else Only (ToLabel to)) → LoopsEnd keeper cell label out (Jump to) (before (if t then none else leaving keeper cell) [])) [
        | true ↦ λ e h. inl (eqb-true to label e, refl)
        | false ↦ λ e h. inr (h.0, h.1, leaving-is h.0)
      ] refl h

  mutual
    pub flat-loops : (t : Tree) → Leaves (other_targets label t) → LoopsTree keeper cell label out t (before (flat keeper cell label t) [])
    flat-loops (tree body end) = λ h. (before (flat_end keeper cell label end) [], before-followed body (flat_end keeper cell label end) [], end-loops end h)

    end-loops : (end : End) → Leaves (end_targets label end) → LoopsEnd keeper cell label out end (before (flat_end keeper cell label end) [])
    end-loops (Pick picker arms) = λ h. (flat_arms keeper cell label arms, refl, arms-loops arms h)
    end-loops (Jump to) = jump-loops to
    end-loops Return = λ h. (h.0, h.1, leaving-is h.0)
    end-loops Stop = λ h. refl
    end-loops Dead = λ h. refl

    arms-loops : (arms : Trees) → Leaves (other_arms_targets label arms) → LoopsArms keeper cell label out arms (flat_arms keeper cell label arms)
    arms-loops no_more = λ h. refl
    arms-loops (more first others) = λ h.
        let b = both-leave (other_targets label first) (other_arms_targets label others) h in
        (flat keeper cell label first, flat_arms keeper cell label others, inl refl, flat-loops first b.0, arms-loops others b.1)
