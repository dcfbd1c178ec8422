-- What an order of ranges gives to every walk of a family.
use Rattle.std.proofs.Common.{◌≡◌, ℕ, suc, ◌<◌, true, false, if◌then◌else◌, List, [], ◌∷◌, ◌++◌, refl, ap, sym, ◌∙◌, subst, arith}
use Rattle.control_flow_theory.specs.language.Language.{Range, Main, Part, same_range, Stmts, none, also, Body, Nested, Performed, Act, Picker, Control, Stmt, Choose, Loop, Perform, Go, GoDepending, NextSentence, ExitParagraph, ExitSection, ExitPerform, StopRun}
use Rattle.control_flow_theory.specs.semantics.Doing.{Doing}
use Rattle.control_flow_theory.specs.language.Items.{Item, Do, SentenceEnd, Turn, before}
use Rattle.control_flow_theory.specs.language.Language as language
use Rattle.control_flow_theory.specs.semantics.Graph.{Label, Tree, tree, Family, body_of, end_of}
use Rattle.control_flow_theory.specs.graph_rules.Fits.{TreeFits, EndFits, ItemsFit}
use Rattle.control_flow_theory.specs.graph_rules.Costs.{perform_cost, item_cost}
use Rattle.control_flow_theory.specs.graph_rules.Walked.{is_in, In, Ordered}
use Rattle.control_flow_theory.proofs.semantics_lemmas.Ranges.{same-range}
use Rattle.control_flow_theory.proofs.graph_rules_lemmas.walks.Fitting.{tree-more}
use Rattle.control_flow_theory.proofs.graph_rules_lemmas.walks.Ways.{before-fits}

-- the place of a range in the order
abbrev pub place : List Range → Range → ℕ
place [] range = 0
place (first ∷ others) range = if same_range first range then 0 else suc (place others range)

-- a range of the order that stands behind this one
abbrev pub Behind : List Range → Range → Range → Type 0
Behind order from to = In to order × (place order from < place order to)

module _ (family : Family) (Reads Writes : Range → ℕ → Type 0) where
  in-behind : (first : Range) (others : List Range) (r to : Range) → is_in first others ≡ false → same_range first r ≡ true → In to others → Behind (first ∷ others) r to
  in-behind first others r to new is here =
      elim (same_range first to) as (λ t. same_range first to ≡ t → ((if t then true else is_in to others) ≡ true) × ((if same_range first r then 0 else suc (place others r)) < (if t then 0 else suc (place others to)))) [
        | true ↦ λ e. absurd (let f : is_in first others ≡ true = ap (λ x. is_in x others) (same-range first to e) ∙ here in let g = sym new ∙ f in cc)
        | false ↦ λ e. (here, subst (λ b. (if b then 0 else suc (place others r)) < suc (place others to)) (sym is) (omega arith))
      ] refl

  in-further : (first : Range) (others : List Range) (r to : Range) → is_in first others ≡ false → same_range first r ≡ false → Behind others r to → Behind (first ∷ others) r to
  in-further first others r to new is h =
      elim (same_range first to) as (λ t. same_range first to ≡ t → ((if t then true else is_in to others) ≡ true) × ((if same_range first r then 0 else suc (place others r)) < (if t then 0 else suc (place others to)))) [
        | true ↦ λ e. absurd (let f : is_in first others ≡ true = ap (λ x. is_in x others) (same-range first to e) ∙ h.0 in let g = sym new ∙ f in cc)
        | false ↦ λ e. (h.0, subst (λ b. (if b then 0 else suc (place others r)) < suc (place others to)) (sym is) (let x = h.1 in omega (arith, x)))
      ] refl

  -- the trees of a range perform only ranges that stand behind it
  pub ordered-fits : (order : List Range) → Ordered Reads Writes family order → (r : Range) → In r order → (l : Label) → TreeFits (Behind order r) (Reads r) (Writes r) (family.node r l)
  ordered-fits [] ordered r here l = absurd (let e : false ≡ true = here in cc)
  ordered-fits (first ∷ others) ordered r here l =
      elim (same_range first r) as (λ t. same_range first r ≡ t → (if t then true else is_in r others) ≡ true → TreeFits (Behind (first ∷ others) r) (Reads r) (Writes r) (family.node r l)) [
        | true ↦ λ is found.
            subst (λ x. TreeFits (Behind (first ∷ others) r) (Reads x) (Writes x) (family.node x l)) (same-range first r is)
            (tree-more (λ to. In to others) (Behind (first ∷ others) r) (Reads first) (Reads first) (Writes first) (Writes first) (λ to here. in-behind first others r to ordered.0 is here) (λ c h. h) (λ c h. h) (family.node first l) (ordered.1 l))
        | false ↦ λ is found.
            tree-more (Behind others r) (Behind (first ∷ others) r) (Reads r) (Reads r) (Writes r) (Writes r) (λ to h. in-further first others r to ordered.0 is h) (λ c h. h) (λ c h. h) (family.node r l) (ordered-fits others ordered.2 r found l)
      ] refl here

-- the items of a tree's root fit, and so does its end
pub root-fits : (Calls : Range → Type 0) (Reads Writes : ℕ → Type 0) (t : Tree) → TreeFits Calls Reads Writes t → ItemsFit Calls Reads Writes (before (body_of t) []) × EndFits Calls Reads Writes (end_of t)
root-fits Calls Reads Writes (tree body end) h = (before-fits Calls Reads Writes body [] h.0 tt, h.1)

-- What an item costs with more behind it.
module _ {Memory : Type 0} (doing : Doing Memory) where
  -- more items that don't begin with what is left of a loop over a range
  abbrev pub Calm : List Item → Type 0
  Calm rest = perform_cost doing rest ≡ 1

  pub calm-append : (items tail : List Item) → Calm tail → perform_cost doing (items ++ tail) ≡ perform_cost doing items
  calm-append [] tail h = h
  calm-append (Do stmt ∷ items) tail h = refl
  calm-append (SentenceEnd ∷ items) tail h = refl
  calm-append (Turn turning (Nested stmts) ∷ items) tail h = refl
  calm-append (Turn turning (Performed entry exit) ∷ items) tail h = refl

  pub cost-append : (item : Item) (items tail : List Item) (memory : Memory) → Calm tail → item_cost doing item (items ++ tail) memory ≡ item_cost doing item items memory
  cost-append (Do (language.Do act)) items tail memory h = refl
  cost-append (Do (Choose picker arms)) items tail memory h = refl
  cost-append (Do (Loop control body)) items tail memory h = refl
  cost-append (Do (Perform entry exit)) items tail memory h = calm-append items tail h
  cost-append (Do (Go to)) items tail memory h = refl
  cost-append (Do (GoDepending to chooser)) items tail memory h = refl
  cost-append (Do NextSentence) items tail memory h = refl
  cost-append (Do ExitParagraph) items tail memory h = refl
  cost-append (Do (ExitSection last)) items tail memory h = refl
  cost-append (Do (ExitPerform cycle)) items tail memory h = refl
  cost-append (Do StopRun) items tail memory h = refl
  cost-append SentenceEnd items tail memory h = refl
  cost-append (Turn turning body) items tail memory h = refl

  pub body-calm : (stmts : Stmts) → Calm (before stmts [])
  body-calm none = refl
  body-calm (also stmt stmts) = refl
