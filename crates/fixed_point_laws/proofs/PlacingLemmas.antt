-- Ranges in the order of their paragraphs are called as these.
use Rattle.std.proofs.Common.{◌≡◌, ℕ, zero, suc, ◌+◌, ◌≤◌, ◌<◌, Bool, true, false, if◌then◌else◌, ◌==◌, List, [], ◌∷◌, ◌++◌, length, Some, None, refl, ap, ◌∙◌, eqb-true, arith}
use Rattle.std.specs.Prelude.{slice_get}
use Rattle.cob_tree.specs.declared.program.Paragraph.{Paragraph}
use Rattle.cob_tree.specs.declared.program.Range.{Range}
use Rattle.out_names.specs.Naming.{either, label_of, paragraph_label, has_entry, own_label, named, names_behind}
use Rattle.out_names.specs.Words.{program_words, table_of}
use Rattle.fixed_point_laws.specs.Placing.{NamesComeAgain}

apart : (b : Bool) → (b ≡ true → ⊥) → b ≡ false
apart true h = absurd (h refl)
apart false h = refl

-- one range more, with another entry
has-behind : (ranges : List Range) (range : Range) (entry : ℕ) → has_entry ranges entry ≡ false → (range.entry == entry) ≡ false → has_entry (ranges ++ range ∷ []) entry ≡ false
has-behind [] range entry e f = ap (λ b. if b then true else false) f
has-behind (first ∷ ranges) range entry e f =
    (elim (first.entry == entry) as (λ b. (if b then true else has_entry ranges entry) ≡ false → (if b then true else has_entry (ranges ++ range ∷ []) entry) ≡ false) [
      | true ↦ λ k. k
      | false ↦ λ k. has-behind ranges range entry k f
    ]) e

module _ (words : List (List ℕ)) (paragraphs : List Paragraph) where
  abbrev name_of : List Range → ℕ → Range → List ℕ
  name_of before from range = (named words (own_label paragraphs before range.entry) from).name

  named-so : (before : List Range) (from number : ℕ) (range : Range) (paragraph : Paragraph) (name : List ℕ) → range.entry ≡ number → has_entry before number ≡ false →
      slice_get paragraphs number ≡ Some paragraph → paragraph.name ≡ Some name → name_of before from range ≡ name
  named-so before from number range paragraph name entry new here is =
      ap (λ n. (named words (own_label paragraphs before n) from).name) entry
      ∙ ap (λ b. (named words (if b then None else paragraph_label paragraphs number) from).name) new
      ∙ ap (λ p. (named words (label_of p) from).name) here
      ∙ ap (λ n. (named words (either n paragraph.section) from).name) is

  -- those behind as many as this number
  at : (ranges before : List Range) (first from : ℕ) → ((n : ℕ) (range : Range) → slice_get ranges n ≡ Some range → range.entry ≡ first + n) → ((entry : ℕ) → first ≤ entry → has_entry before entry ≡ false) →
      (n : ℕ) → n < length ranges → (paragraph : Paragraph) (name : List ℕ) → slice_get paragraphs (first + n) ≡ Some paragraph → paragraph.name ≡ Some name →
      slice_get (names_behind words paragraphs before from ranges) n ≡ Some name
  at [] before first from rising new n lt paragraph name here is = absurd (omega (arith, lt))
  at (range ∷ ranges) before first from rising new zero lt paragraph name here is =
      ap (λ (w : List ℕ). Some w) (named-so before from (first + 0) range paragraph name (rising 0 range refl) (new (first + 0) (omega arith)) here is)
  at (range ∷ ranges) before first from rising new (suc n) lt paragraph name here is =
      at ranges (before ++ range ∷ []) (suc first) (named words (own_label paragraphs before range.entry) from).next
      (λ k one e. (let r = rising (suc k) one e in omega (arith, r)))
      (λ entry le. has-behind before range entry (new entry (omega (arith, le)))
      (apart (range.entry == entry) (λ same. (let r = rising 0 range refl in let s = eqb-true range.entry entry same in absurd (omega (arith, r, s, le))))))
      n (omega (arith, lt)) paragraph name
      (let e : suc first + n ≡ first + suc n = omega arith in ap (λ (k : ℕ). slice_get paragraphs k) e ∙ here) is

pub names-again : NamesComeAgain
names-again = λ program order rising number lt paragraph name here is.
    at (table_of (program_words program)) program.paragraphs order [] 0 1
    (λ n range e. (let r = rising n range e in omega (arith, r))) (λ entry le. refl) number lt paragraph name
    (let e : 0 + number ≡ number = omega arith in ap (λ (k : ℕ). slice_get program.paragraphs k) e ∙ here) is
