-- Paragraphs of ranges, one after the other.
use Rattle.std.proofs.Common.{◌≡◌, ℕ, zero, suc, ◌+◌, List, [], ◌∷◌, ◌++◌, length, Some, None, refl, ap, sym, ◌∙◌, subst, ◌⊎◌, inl, inr, arith}
use Rattle.std.specs.Prelude.{slice_get}
use Rattle.std.proofs.lemmas.List.{length_push}
use Rattle.cob_tree.specs.declared.program.Paragraph.{Paragraph}
use Rattle.cob_tree.specs.declared.program.Range.{Range}
use Rattle.lowering_labels.specs.points.FallThrough.{seen_range}
use Rattle.branch_tree.specs.Tree.{seen_tree}
use Rattle.statement_builders.specs.declared.arms.placing.ProcedurePlace.{ProcedurePlace}
use Rattle.statement_builders.specs.declared.item_words.cells.CellItem.{CellItem}
use Rattle.body_rendering.specs.Procedure.{is_main}
use Rattle.procedure_split.specs.declared.shaped_ranges.shaping.Closed.{Closed}
use Rattle.procedure_split.specs.made_procedures.Made.{AreParagraphsOf, IsParagraphOf}

same-some : {X : Type 0} (x y : X) → Some x ≡ Some y → x ≡ y
same-some x y is = cc

pushed-at : {X : Type 0} (xs : List X) (y : X) (at : ℕ) (x : X) →
    slice_get (xs ++ y ∷ []) at ≡ Some x →
    (slice_get xs at ≡ Some x) ⊎ ((at ≡ length xs) × (y ≡ x))
pushed-at [] y zero x got = inr (refl, same-some y x got)
pushed-at [] y (suc at) x got = absurd (let e : ⊥ = cc in e)
pushed-at (z ∷ zs) y zero x got = inl got
pushed-at (z ∷ zs) y (suc at) x got = elim (pushed-at zs y at x got) [
  | inl there ↦ inl there
  | inr end ↦ inr (ap suc end.0, end.1)
]

module _ (order : List Range) (closed : List Closed) (cells : List (List CellItem))
    (places : List ProcedurePlace) (names : List (List ℕ)) where
  -- those of the ranges before this place
  pub record AreDone (at : ℕ) (made : List Paragraph) : Type 0 where
    pub count : length made ≡ at
    pub each : (k : ℕ) (range : Range) (one : Closed) (own : List CellItem) (name : List ℕ)
        (paragraph : Paragraph) → slice_get order k ≡ Some range → slice_get closed k ≡ Some one →
        slice_get cells k ≡ Some own → slice_get names k ≡ Some name →
        slice_get made k ≡ Some paragraph →
        IsParagraphOf own places (is_main (seen_range range)) (seen_tree one.tree) name paragraph

  abbrev IsOf : Range → Closed → List CellItem → List ℕ → Paragraph → Type 0
  IsOf range one own name paragraph =
      IsParagraphOf own places (is_main (seen_range range)) (seen_tree one.tree) name paragraph

  moved : (range other : Range) (one two : Closed) (own its : List CellItem) (name word : List ℕ)
      (paragraph last : Paragraph) → range ≡ other → one ≡ two → own ≡ its → name ≡ word →
      paragraph ≡ last → IsOf range one own name paragraph → IsOf other two its word last
  moved range other one two own its name word paragraph last a b c d e is =
      subst (λ x. IsOf other two its word x) e (subst (λ x. IsOf other two its x paragraph) d
      (subst (λ x. IsOf other two x name paragraph) c (subst (λ x. IsOf other x own name paragraph) b
      (subst (λ x. IsOf x one own name paragraph) a is))))

  pub done-more : (at : ℕ) (made new : List Paragraph) (range : Range) (one : Closed)
      (own : List CellItem) (name : List ℕ) (paragraph : Paragraph) → AreDone at made →
      slice_get order at ≡ Some range → slice_get closed at ≡ Some one →
      slice_get cells at ≡ Some own → slice_get names at ≡ Some name →
      IsOf range one own name paragraph → new ≡ made ++ paragraph ∷ [] → AreDone (at + 1) new
  done-more at made new range one own name paragraph so a b c d is pushed =
      let size = length_push made paragraph in
      let longer = ap length pushed in
      let before = so.count in
      record {
        count = (let e : length new ≡ at + 1 = omega (arith, size, longer, before) in e);
        each = λ k other two its word last stands shaped given named got.
            elim (pushed-at made paragraph k last (subst (λ l. slice_get l k ≡ Some last) pushed got)) [
              | inl there ↦ so.each k other two its word last stands shaped given named there
              | inr end ↦
                  let here : at ≡ k = sym (end.0 ∙ before) in
                  moved range other one two own its name word paragraph last
                  (same-some range other (sym a ∙ ap (slice_get order) here ∙ stands))
                  (same-some one two (sym b ∙ ap (slice_get closed) here ∙ shaped))
                  (same-some own its (sym c ∙ ap (slice_get cells) here ∙ given))
                  (same-some name word (sym d ∙ ap (slice_get names) here ∙ named)) end.1 is
            ];
      }

  pub none-done : (made : List Paragraph) → made ≡ [] → AreDone 0 made
  none-done made empty = record {
    count = ap length empty;
    each = λ k range one own name paragraph stands shaped given named got.
        absurd (let none : None ≡ Some paragraph = sym (ap (λ l. slice_get l k) empty) ∙ got in
        let e : ⊥ = cc in e);
  }

  pub all-done : (at : ℕ) (made : List Paragraph) → at ≡ length order → AreDone at made →
      AreParagraphsOf order closed cells places names made
  all-done at made end so = record {
    count = so.count ∙ end;
    each = λ k range one own name paragraph stands shaped given named got.
        so.each k range one own name paragraph stands shaped given named got;
  }
