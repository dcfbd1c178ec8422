-- Names behind those that are given.
use Rattle.std.proofs.Common.{◌≡◌, ℕ, ◌+◌, ◌<◌, List, [], ◌∷◌, ◌++◌, length, take, drop, get_or, refl, sym, ap, ◌∙◌, add-one}
use Rattle.std.proofs.Math.Seq.{take-suc, drop-cons}
use Rattle.std.specs.Prelude.{Option}
use Rattle.std.proofs.lemmas.List.{append_assoc}
use Rattle.out_names.specs.declared.naming.Named.{Named}
use Rattle.cob_tree.specs.declared.program.Paragraph.{Paragraph}
use Rattle.cob_tree.specs.declared.program.Range.{Range}
use Rattle.out_names.specs.Naming.{named, own_label, names_behind}

pub one_named : (words : List (List ℕ)) (paragraphs : List Paragraph) (from at : ℕ) (ranges : List Range) (d : Range) → at < length ranges →
    let next = named words (own_label paragraphs (take at ranges) (get_or ranges at d).entry) from in
    names_behind words paragraphs (take at ranges) from (drop at ranges)
    ≡ next.name ∷ names_behind words paragraphs (take (at + 1) ranges) next.next (drop (at + 1) ranges)
one_named words paragraphs from at ranges d lt = rw (add-one at, take-suc ranges at d lt, drop-cons ranges at d lt) refl

-- one more name is given
pub name_given : (words : List (List ℕ)) (paragraphs : List Paragraph) (from at : ℕ) (ranges : List Range) (d : Range)
    (label : Option (List ℕ)) (next : Named) (names pushed all : List (List ℕ)) → at < length ranges →
    label ≡ own_label paragraphs (take at ranges) (get_or ranges at d).entry → next ≡ named words label from →
    pushed ≡ names ++ next.name ∷ [] →
    names ++ names_behind words paragraphs (take at ranges) from (drop at ranges) ≡ all →
    pushed ++ names_behind words paragraphs (take (at + 1) ranges) next.next (drop (at + 1) ranges) ≡ all
name_given words paragraphs from at ranges d label next names pushed all lt labelled is put before =
    let meant = named words (own_label paragraphs (take at ranges) (get_or ranges at d).entry) from in
    let same : next ≡ meant = is ∙ ap (λ l. named words l from) labelled in
    let later = λ (n : Named). names_behind words paragraphs (take (at + 1) ranges) n.next (drop (at + 1) ranges) in
    ap (λ p. p ++ later next) put
    ∙ ap (λ (n : Named). names ++ n.name ∷ [] ++ later n) same
    ∙ append_assoc names (meant.name ∷ []) (later meant)
    ∙ ap (λ ns. names ++ ns) (sym (one_named words paragraphs from at ranges d lt))
    ∙ before
