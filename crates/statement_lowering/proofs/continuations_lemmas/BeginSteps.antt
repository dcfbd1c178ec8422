-- The begins of sentences, one sentence back.
use Rattle.std.proofs.Common.{◌≡◌, ℕ, zero, suc, ◌+◌, ◌-◌, ◌≤◌, ◌<◌, List, [], ◌∷◌, ◌++◌, drop, get_or, length, reverse, refl, ap, sym, ◌∙◌, subst, arith, add-one}
use Rattle.std.proofs.Math.Seq.{drop-cons}
use Rattle.std.proofs.lemmas.List.{drop_all, reverse-append}
use Rattle.std.proofs.lemmas.List.Sums.{sum_by-cons}
use Rattle.cob_tree.specs.declared.program.Sentence.{Sentence}
use Rattle.lowering_labels.specs.declared.points.layout.PlaceTable.{PlaceTable}
use Rattle.statement_lowering.specs.declared.continuations.paragraphs.Begin.{Begin}
use Rattle.statement_lowering.specs.continuations.Paragraphs.{AreBegins, AreStacked, IsBegin, paragraph_end, sentence_size, sentence_sizes}

pub reverse_first : (first : Begin) (others : List Begin) → reverse (first ∷ others) ≡ reverse others ++ first ∷ []
reverse_first first others = reverse-append (first ∷ []) others

pub sizes_left : (i : ℕ) (sentences : List Sentence) → sentence_sizes (drop i sentences) ≤ sentence_sizes sentences
sizes_left i [] = omega (arith, ap sentence_sizes (drop_all i [] (omega arith)))
sizes_left zero (sentence ∷ others) = omega arith
sizes_left (suc i) (sentence ∷ others) = omega (arith, sizes_left i others, sum_by-cons sentence_size sentence others)

module _ (layout : PlaceTable) (sentences : List Sentence) where
  pub begins_first : (count end : ℕ) → count ≡ length sentences →
      (end + sentence_sizes (drop (count - 0) sentences) ≡ end) × AreBegins layout end (drop (count - 0) sentences) (paragraph_end ∷ [])
  begins_first count end is =
      let none : drop (count - 0) sentences ≡ [] = drop_all (count - 0) sentences (omega (arith, is)) in
      (omega (arith, ap sentence_sizes none), subst (λ ss. AreBegins layout end ss (paragraph_end ∷ [])) (sym none) refl)

  module _ (n i : ℕ) (sentence : Sentence) (lt : n < length sentences) (at : i ≡ length sentences - 1 - n) (is : sentence ≡ get_or sentences i sentence) where
    here : drop i sentences ≡ sentence ∷ drop (length sentences - n) sentences
    here =
        rw (add-one i) (drop-cons sentences i sentence (omega (arith, at, lt))) ∙ ap (λ s. s ∷ drop (i + 1) sentences) (sym is)
        ∙ ap (λ k. sentence ∷ drop k sentences) (omega (arith, at, lt))

    pub sums : sentence_sizes (drop i sentences) ≡ sentence_size sentence + sentence_sizes (drop (length sentences - n) sentences)
    sums = ap sentence_sizes here ∙ sum_by-cons sentence_size sentence (drop (length sentences - n) sentences)

    pub size_fits : (place end : ℕ) → place + sentence_sizes (drop (length sentences - n) sentences) ≡ end → sentence_sizes sentences ≤ end → sentence_size sentence ≤ place
    size_fits place end left le = omega (arith, sums, left, le, sizes_left i sentences)

    pub begins_more : (place back end : ℕ) (next first : Begin) (found items new : List Begin) → back + sentence_size sentence ≡ place →
        place + sentence_sizes (drop (length sentences - n) sentences) ≡ end → items ≡ reverse (next ∷ found) → AreBegins layout place (drop (length sentences - n) sentences) (next ∷ found) →
        IsBegin layout sentence.stmts back next first → new ≡ items ++ first ∷ [] →
        (back + sentence_sizes (drop (length sentences - (n + 1)) sentences) ≡ end)
        × ((begin : Begin) × (others : List Begin) × (new ≡ reverse (begin ∷ others)) × AreBegins layout back (drop (length sentences - (n + 1)) sentences) (begin ∷ others))
    begins_more place back end next first found items new far left stacked begins one pushed =
        let there : i ≡ length sentences - (n + 1) = omega (arith, at, lt) in (
          omega (arith, ap (λ k. sentence_sizes (drop k sentences)) (sym there), sums, left, far),
          (
            first,
            next ∷ found,
            pushed ∙ ap (λ l. l ++ first ∷ []) stacked ∙ sym (reverse_first first (next ∷ found)),
            subst (λ k. AreBegins layout back (drop k sentences) (first ∷ next ∷ found)) there
                (subst (λ ss. AreBegins layout back ss (first ∷ next ∷ found)) (sym here)
                (one, subst (λ p. AreBegins layout p (drop (length sentences - n) sentences) (next ∷ found)) (sym far) begins)),
          ),
        )

  pub begins_over : (n place end : ℕ) (begin : Begin) (found items : List Begin) → length sentences ≤ n → place + sentence_sizes (drop (length sentences - n) sentences) ≡ end →
      items ≡ reverse (begin ∷ found) → AreBegins layout place (drop (length sentences - n) sentences) (begin ∷ found) → AreStacked layout (end - sentence_sizes sentences) sentences items
  begins_over n place end begin found items le left stacked begins =
      let all : length sentences - n ≡ 0 = omega (arith, le) in record {
        firsts = begin ∷ found;
        are =
            subst (λ p. AreBegins layout p sentences (begin ∷ found)) (omega (arith, left, ap (λ k. sentence_sizes (drop k sentences)) all))
            (subst (λ k. AreBegins layout place (drop k sentences) (begin ∷ found)) all begins);
        is = stacked;
      }
