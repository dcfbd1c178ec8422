-- Which labels are come to from an entry, of finitely many that lead on.
use Rattle.std.proofs.Common.{◌≡◌, ℕ, zero, suc, ◌+◌, ◌≤◌, Bool, true, false, if◌then◌else◌, ◌==◌, List, [], ◌∷◌, ◌++◌, Option, Some, None, refl, ap, sym, ◌∙◌, subst, inl, inr, arith}
use Rattle.std.proofs.lemmas.Bool.Decides.{eqb_tells}
use Rattle.control_flow_theory.proofs.semantics_lemmas.Ranges.{eq-self}

-- the label is one of these
abbrev pub is_one : ℕ → List ℕ → Bool
is_one label [] = false
is_one label (first ∷ others) = if first == label then true else is_one label others

pub one-before : (label : ℕ) (one other : List ℕ) → is_one label one ≡ true → is_one label (one ++ other) ≡ true
one-before label [] other is = cc
one-before label (first ∷ one) other is =
    elim (first == label) as (λ b. (if b then true else is_one label one) ≡ true → (if b then true else is_one label (one ++ other)) ≡ true) [
      | true ↦ λ is. refl
      | false ↦ λ is. one-before label one other is
    ] is

pub one-behind : (label : ℕ) (one other : List ℕ) → is_one label other ≡ true → is_one label (one ++ other) ≡ true
one-behind label [] other is = is
one-behind label (first ∷ one) other is =
    elim (first == label) as (λ b. (if b then true else is_one label (one ++ other)) ≡ true) [ true ↦ refl | false ↦ one-behind label one other is ]

-- the labels that lead on, and where each leads
module _ (keys : List ℕ) (go : ℕ → List ℕ) (entry : ℕ) where
  -- the label is come to
  pub data Comes : ℕ → Type 0 where
    enters : Comes entry
    leads : (from to : ℕ) → Comes from → is_one to (go from) ≡ true → Comes to

  abbrev Marks : Type 0
  Marks = ℕ → Bool

  abbrev all_to : List ℕ → List ℕ
  all_to [] = []
  all_to (from ∷ others) = go from ++ all_to others

  -- a marked one of these leads there
  abbrev from_any : Marks → ℕ → List ℕ → Bool
  from_any marks to [] = false
  from_any marks to (from ∷ others) =
      if marks from then (if is_one to (go from) then true else from_any marks to others) else from_any marks to others

  abbrev is_next : Marks → ℕ → Bool
  is_next marks to = if marks to then false else from_any marks to keys

  abbrev first_next : Marks → List ℕ → Option ℕ
  first_next marks [] = None
  first_next marks (to ∷ others) = if is_next marks to then Some to else first_next marks others

  abbrev marked : Marks → ℕ → Marks
  marked marks to label = if label == to then true else marks label

  abbrev more : Marks → Option ℕ → Marks
  more marks None = marks
  more marks (Some to) = marked marks to

  abbrev spread : ℕ → Marks → Marks
  spread zero marks = marks
  spread (suc most) marks = spread most (more marks (first_next marks (all_to keys)))

  -- how many of these aren't marked
  abbrev one_if : Bool → ℕ
  one_if true = 0
  one_if false = 1

  abbrev unmarked : Marks → List ℕ → ℕ
  unmarked marks [] = 0
  unmarked marks (label ∷ others) = one_if (marks label) + unmarked marks others

  next-parts : (marks : Marks) (to : ℕ) → is_next marks to ≡ true → (marks to ≡ false) × (from_any marks to keys ≡ true)
  next-parts marks to is = elim (marks to) as (λ b. (if b then false else from_any marks to keys) ≡ true → (b ≡ false) × (from_any marks to keys ≡ true)) [
    | true ↦ λ is. cc
    | false ↦ λ is. (refl, is)
  ] is

  some-inj : (one other : ℕ) → Some one ≡ Some other → one ≡ other
  some-inj one other is = cc

  first-parts : (marks : Marks) (tos : List ℕ) (to : ℕ) → first_next marks tos ≡ Some to → (is_next marks to ≡ true) × (is_one to tos ≡ true)
  first-parts marks [] to is = cc
  first-parts marks (first ∷ others) to is =
      elim (is_next marks first) as (λ b. is_next marks first ≡ b → (if b then Some first else first_next marks others) ≡ Some to → (is_next marks to ≡ true) × (is_one to (first ∷ others) ≡ true)) [
        | true ↦ λ e is.
            let same = some-inj first to is in
            (subst (λ l. is_next marks l ≡ true) same e, subst (λ l. is_one l (first ∷ others) ≡ true) same (ap (λ b. if b then true else is_one first others) (eq-self first)))
        | false ↦ λ e is.
            let k = first-parts marks others to is in
            (k.0, elim (first == to) as (λ b. (if b then true else is_one to others) ≡ true) [ true ↦ refl | false ↦ k.1 ])
      ] refl is

  none-next : (marks : Marks) (tos : List ℕ) → first_next marks tos ≡ None → (to : ℕ) → is_one to tos ≡ true → is_next marks to ≡ false
  none-next marks [] none to is = cc
  none-next marks (first ∷ others) none to is =
      elim (is_next marks first) as (λ b. is_next marks first ≡ b → (if b then Some first else first_next marks others) ≡ None → is_next marks to ≡ false) [
        | true ↦ λ e none. cc
        | false ↦ λ e none. elim (eqb_tells first to) [
          | inl f ↦ subst (λ l. is_next marks l ≡ false) f.1 e
          | inr f ↦ none-next marks others none to (sym (ap (λ b. if b then true else is_one to others) f.0) ∙ is)
        ]
      ] refl none

  -- a mark more leaves fewer
  one-fewer : (marks : Marks) (to label : ℕ) → one_if (marked marks to label) ≤ one_if (marks label)
  one-fewer marks to label = elim (label == to) as (λ b. one_if (if b then true else marks label) ≤ one_if (marks label)) [
    | true ↦ omega arith
    | false ↦ omega arith
  ]

  no-more : (marks : Marks) (to : ℕ) (labels : List ℕ) → unmarked (marked marks to) labels ≤ unmarked marks labels
  no-more marks to [] = omega arith
  no-more marks to (label ∷ labels) =
      let one = one-fewer marks to label in
      let rest = no-more marks to labels in
      omega (arith, one, rest)

  fewer : (marks : Marks) (to : ℕ) (labels : List ℕ) → marks to ≡ false → is_one to labels ≡ true → unmarked (marked marks to) labels + 1 ≤ unmarked marks labels
  fewer marks to [] free is = cc
  fewer marks to (label ∷ labels) free is = elim (eqb_tells label to) [
    | inl e ↦
        let now : one_if (marked marks to label) ≡ 0 = ap (λ b. one_if (if b then true else marks label)) e.0 in
        let old : one_if (marks label) ≡ 1 = ap one_if (ap marks e.1 ∙ free) in
        let rest = no-more marks to labels in
        omega (arith, now, old, rest)
    | inr e ↦
        let one = one-fewer marks to label in
        let rest = fewer marks to labels free (sym (ap (λ b. if b then true else is_one to labels) e.0) ∙ is) in
        omega (arith, one, rest)
  ]

  some-free : (marks : Marks) (to : ℕ) (labels : List ℕ) → marks to ≡ false → is_one to labels ≡ true → 1 ≤ unmarked marks labels
  some-free marks to labels free is = let k = fewer marks to labels free is in omega (arith, k)

  stays : (most : ℕ) (marks : Marks) → first_next marks (all_to keys) ≡ None → spread most marks ≡ marks
  stays zero marks none = refl
  stays (suc most) marks none = ap (λ next. spread most (more marks next)) none ∙ stays most marks none

  -- enough marks, and none is left
  ends : (most : ℕ) (marks : Marks) → unmarked marks (all_to keys) ≤ most → first_next (spread most marks) (all_to keys) ≡ None
  ends zero marks few = elim (first_next marks (all_to keys)) as (λ o. first_next marks (all_to keys) ≡ o → o ≡ None) [
    | None ↦ λ e. refl
    | Some to ↦ λ e.
        let k = first-parts marks (all_to keys) to e in
        let free = (next-parts marks to k.0).0 in
        let one = some-free marks to (all_to keys) free k.1 in
        absurd (omega (arith, one, few))
  ] refl
  ends (suc most) marks few = elim (first_next marks (all_to keys)) as (λ o. first_next marks (all_to keys) ≡ o → first_next (spread most (more marks o)) (all_to keys) ≡ None) [
    | None ↦ λ e. subst (λ m. first_next m (all_to keys) ≡ None) (sym (stays most marks e)) e
    | Some to ↦ λ e.
        let k = first-parts marks (all_to keys) to e in
        let free = (next-parts marks to k.0).0 in
        let less = fewer marks to (all_to keys) free k.1 in
        ends most (marked marks to) (omega (arith, less, few))
  ] refl

  -- what is marked is come to

  abbrev Sound : Marks → Type 0
  Sound marks = (label : ℕ) → marks label ≡ true → Comes label

  any-comes : (marks : Marks) → Sound marks → (to : ℕ) (labels : List ℕ) → from_any marks to labels ≡ true → Comes to
  any-comes marks sound to [] is = cc
  any-comes marks sound to (from ∷ others) is =
      elim (marks from) as (λ b. marks from ≡ b → (if b then (if is_one to (go from) then true else from_any marks to others) else from_any marks to others) ≡ true → Comes to) [
        | true ↦ λ e is. elim (is_one to (go from)) as (λ b. is_one to (go from) ≡ b → (if b then true else from_any marks to others) ≡ true → Comes to) [
          | true ↦ λ f is. leads from to (sound from e) f
          | false ↦ λ f is. any-comes marks sound to others is
        ] refl is
        | false ↦ λ e is. any-comes marks sound to others is
      ] refl is

  more-sound : (marks : Marks) → Sound marks → (next : Option ℕ) → first_next marks (all_to keys) ≡ next → Sound (more marks next)
  more-sound marks sound None e label is = sound label is
  more-sound marks sound (Some to) e label is =
      let k = first-parts marks (all_to keys) to e in
      let comes = any-comes marks sound to keys (next-parts marks to k.0).1 in
      elim (eqb_tells label to) [
        | inl f ↦ subst Comes (sym f.1) comes
        | inr f ↦ sound label (sym (ap (λ b. if b then true else marks label) f.0) ∙ is)
      ]

  all-sound : (most : ℕ) (marks : Marks) → Sound marks → Sound (spread most marks)
  all-sound zero marks sound = sound
  all-sound (suc most) marks sound = all-sound most (more marks (first_next marks (all_to keys))) (more-sound marks sound (first_next marks (all_to keys)) refl)

  -- marks stay

  more-keeps : (marks : Marks) (next : Option ℕ) (label : ℕ) → marks label ≡ true → more marks next label ≡ true
  more-keeps marks None label is = is
  more-keeps marks (Some to) label is = elim (label == to) as (λ b. (if b then true else marks label) ≡ true) [ true ↦ refl | false ↦ is ]

  all-keep : (most : ℕ) (marks : Marks) (label : ℕ) → marks label ≡ true → spread most marks label ≡ true
  all-keep zero marks label is = is
  all-keep (suc most) marks label is = all-keep most (more marks (first_next marks (all_to keys))) label (more-keeps marks (first_next marks (all_to keys)) label is)

  -- what is come to is marked

  any-from : (marks : Marks) (from to : ℕ) (labels : List ℕ) → is_one from labels ≡ true → marks from ≡ true → is_one to (go from) ≡ true → from_any marks to labels ≡ true
  any-from marks from to [] here mark go_on = cc
  any-from marks from to (first ∷ others) here mark go_on = elim (eqb_tells first from) [
    | inl e ↦
        let first_mark : marks first ≡ true = ap marks e.1 ∙ mark in
        let first_go : is_one to (go first) ≡ true = ap (λ l. is_one to (go l)) e.1 ∙ go_on in
        ap (λ b. if b then (if is_one to (go first) then true else from_any marks to others) else from_any marks to others) first_mark
        ∙ ap (λ b. if b then true else from_any marks to others) first_go
    | inr e ↦
        let behind = any-from marks from to others (sym (ap (λ b. if b then true else is_one from others) e.0) ∙ here) mark go_on in
        elim (marks first) as (λ b. (if b then (if is_one to (go first) then true else from_any marks to others) else from_any marks to others) ≡ true) [
          | true ↦ elim (is_one to (go first)) as (λ b. (if b then true else from_any marks to others) ≡ true) [ true ↦ refl | false ↦ behind ]
          | false ↦ behind
        ]
  ]

  in-all : (from to : ℕ) (labels : List ℕ) → is_one from labels ≡ true → is_one to (go from) ≡ true → is_one to (all_to labels) ≡ true
  in-all from to [] here go_on = cc
  in-all from to (first ∷ others) here go_on = elim (eqb_tells first from) [
    | inl e ↦ one-before to (go first) (all_to others) (ap (λ l. is_one to (go l)) e.1 ∙ go_on)
    | inr e ↦ one-behind to (go first) (all_to others) (in-all from to others (sym (ap (λ b. if b then true else is_one from others) e.0) ∙ here) go_on)
  ]

  module _ (out : (label : ℕ) → is_one label keys ≡ false → go label ≡ []) where
    follows : (marks : Marks) → first_next marks (all_to keys) ≡ None → (from to : ℕ) → marks from ≡ true → is_one to (go from) ≡ true → marks to ≡ true
    follows marks none from to mark go_on =
        elim (is_one from keys) as (λ b. is_one from keys ≡ b → marks to ≡ true) [
          | true ↦ λ here.
              let last = none-next marks (all_to keys) none to (in-all from to keys here go_on) in
              let any = any-from marks from to keys here mark go_on in
              elim (marks to) as (λ b. (if b then false else from_any marks to keys) ≡ false → b ≡ true) [
                | true ↦ λ last. refl
                | false ↦ λ last. let no : true ≡ false = sym any ∙ last in cc
              ] last
          | false ↦ λ away. let no : false ≡ true = sym (ap (is_one to) (out from away)) ∙ go_on in cc
        ] refl

    all-marked : (marks : Marks) → first_next marks (all_to keys) ≡ None → marks entry ≡ true → (label : ℕ) → Comes label → marks label ≡ true
    all-marked marks none begins label enters = begins
    all-marked marks none begins label (leads from to comes go_on) = follows marks none from to (all-marked marks none begins from comes) go_on

    abbrev begun : Marks
    begun label = label == entry

    -- the labels that are come to, and no other
    pub decided : (keep : ℕ → Bool) × ((label : ℕ) → keep label ≡ true → Comes label) × ((label : ℕ) → Comes label → keep label ≡ true)
    decided =
        let most = unmarked begun (all_to keys) in (
          spread most begun,
          all-sound most begun (λ label is. elim (eqb_tells label entry) [
            | inl e ↦ subst Comes (sym e.1) enters
            | inr e ↦ let no : false ≡ true = sym e.0 ∙ is in cc
          ]),
          all-marked (spread most begun) (ends most begun (omega arith)) (all-keep most begun entry (eq-self entry)),
        )
