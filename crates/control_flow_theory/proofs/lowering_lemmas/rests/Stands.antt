-- Items of the source that came out of statements without an escape, and the items of the walk.
use Rattle.std.proofs.Common.{◌≡◌, ℕ, zero, suc, Bool, true, false, if◌then◌else◌, List, [], ◌∷◌, ◌++◌, refl, ap, sym, ◌∙◌, subst, arith}
use Rattle.control_flow_theory.specs.language.Language.{Stmts, none, also, Arms, done, given, missing, Body, Nested, Performed}
use Rattle.control_flow_theory.specs.language.Items.{Item, Do, SentenceEnd, Turn, before, before_body, before_arm}
use Rattle.control_flow_theory.specs.semantics.Graph.{Tree, End, body_of, end_of}
use Rattle.control_flow_theory.specs.lowering.FlowFacts.{FlowFacts, MayGive, arm_count}
use Rattle.control_flow_theory.specs.lowering.Completes.{completes, complete, choice_completes, body_completes, cut, cuts, cut_arms, cut_body, whole, wholes, whole_arms, whole_body}

pub both-left : (a b : Bool) → (if a then b else false) ≡ true → a ≡ true
both-left true b h = refl
both-left false b h = cc

pub both-right : (a b : Bool) → (if a then b else false) ≡ true → b ≡ true
both-right true b h = h
both-right false b h = cc

pub or-left : (a b : Bool) → a ≡ true → (if a then true else b) ≡ true
or-left true b h = refl
or-left false b h = cc

pub or-right : (a b : Bool) → b ≡ true → (if a then true else b) ≡ true
or-right true b h = refl
or-right false b h = h

-- what completes by the end of its body completes
pub after-completes : (after a b : Bool) → (if after then a else true) ≡ true → (if after then (if a then true else b) else true) ≡ true
after-completes true a b h = or-left a b h
after-completes false a b h = refl

pub before-append : (stmts : Stmts) (xs ys : List Item) → before stmts xs ++ ys ≡ before stmts (xs ++ ys)
before-append none xs ys = refl
before-append (also s ss) xs ys = ap (λ r. Do s ∷ r) (before-append ss xs ys)

pub body-append : (body : Body) (xs ys : List Item) → before_body body xs ++ ys ≡ before_body body (xs ++ ys)
body-append (Nested stmts) xs ys = before-append stmts xs ys
body-append (Performed entry exit) xs ys = refl

pub arm-append : (arms : Arms) (k : ℕ) (xs ys : List Item) → before_arm arms k xs ++ ys ≡ before_arm arms k (xs ++ ys)
arm-append done k xs ys = refl
arm-append (given arm others) zero xs ys = before-append arm xs ys
arm-append (given arm others) (suc k) xs ys = arm-append others k xs ys
arm-append (missing others) zero xs ys = refl
arm-append (missing others) (suc k) xs ys = arm-append others k xs ys

abbrev pub cut_item : FlowFacts → Item → Item
cut_item told (Do stmt) = Do (cut told stmt)
cut_item told SentenceEnd = SentenceEnd
cut_item told (Turn turning body) = Turn turning (cut_body told body)

abbrev pub whole_item : Item → Bool
whole_item (Do stmt) = whole stmt
whole_item SentenceEnd = false
whole_item (Turn turning body) = whole_body body

abbrev pub item_completes : FlowFacts → Item → Bool
item_completes told (Do stmt) = completes told stmt
item_completes told SentenceEnd = true
item_completes told (Turn turning body) = true

-- the walk has the source's items, cut, and then the tree; behind an item that can't complete it may have anything
abbrev pub Stands : FlowFacts → Tree → End → List Item → List Item → Type 0
Stands told t end [] zs = (zs ≡ before (body_of t) []) × (end ≡ end_of t)
Stands told t end (x ∷ xs) [] = ⊥
Stands told t end (x ∷ xs) (z ∷ zs) = (z ≡ cut_item told x) × (whole_item z ≡ true) × (item_completes told x ≡ true → Stands told t end xs zs)

module _ (told : FlowFacts) (t : Tree) (end : End) where
  abbrev These : List Item → List Item → Type 0
  These xs zs = Stands told t end xs zs

  pub stands-before : (stmts : Stmts) (xs zs : List Item) → wholes (cuts told stmts) ≡ true → (complete told stmts ≡ true → These xs zs) → These (before stmts xs) (before (cuts told stmts) zs)
  stands-before none xs zs w h = h refl
  stands-before (also s ss) xs zs w h =
      let rest : Stmts = if completes told s then cuts told ss else none in (
        refl,
        both-left (whole (cut told s)) (wholes rest) w,
        λ c.
            subst (λ b. These (before ss xs) (before (if b then cuts told ss else none) zs)) (sym c)
            (stands-before ss xs zs (ap (λ b. wholes (if b then cuts told ss else none)) (sym c) ∙ both-right (whole (cut told s)) (wholes rest) w)
            (λ k. h (ap (λ b. if b then complete told ss else false) c ∙ k))),
      )

  pub stands-body : (body : Body) (xs zs : List Item) → whole_body (cut_body told body) ≡ true → (body_completes told body ≡ true → These xs zs) → These (before_body body xs) (before_body (cut_body told body) zs)
  stands-body (Nested stmts) xs zs w h = stands-before stmts xs zs w h
  stands-body (Performed entry exit) xs zs w h = (refl, refl, h)

  pub stands-arm : (arms : Arms) (first : Bool) (k : ℕ) (xs zs : List Item) → MayGive (arm_count arms) first k → whole_arms (cut_arms told arms) ≡ true → (choice_completes told first arms ≡ true → These xs zs) → These (before_arm arms k xs) (before_arm (cut_arms told arms) k zs)
  stands-arm done first k xs zs may w h = absurd (let e = may.0 in omega (arith, e))
  stands-arm (given arm others) first zero xs zs may w h =
      stands-before arm xs zs (both-left (wholes (cuts told arm)) (whole_arms (cut_arms told others)) w) (λ c. h (or-left (complete told arm) (choice_completes told false others) c))
  stands-arm (given arm others) first (suc k) xs zs may w h =
      stands-arm others false k xs zs (let e = may.0 in omega (arith, e), λ f. cc) (both-right (wholes (cuts told arm)) (whole_arms (cut_arms told others)) w) (λ c. h (or-right (complete told arm) (choice_completes told false others) c))
  stands-arm (missing others) true zero xs zs may w h = absurd (may.1 refl refl)
  stands-arm (missing others) false zero xs zs may w h = h refl
  stands-arm (missing others) true (suc k) xs zs may w h = stands-arm others false k xs zs (let e = may.0 in omega (arith, e), λ f. cc) w h
  stands-arm (missing others) false (suc k) xs zs may w h = stands-arm others false k xs zs (let e = may.0 in omega (arith, e), λ f. cc) w (λ c. h refl)
