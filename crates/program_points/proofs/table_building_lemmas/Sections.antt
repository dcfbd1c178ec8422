-- Sections, and the paragraphs of a program.
use Rattle.std.proofs.Common.{◌≡◌, ◌+◌, ◌<◌, ◌≤◌, ℕ, zero, suc, true, false, if◌then◌else◌, List, [], ◌∷◌, drop, length, length-drop, is_some, Option, Some, None, slice_get, refl, ap, sym, ◌∙◌, arith}
use Rattle.cob_tree.specs.declared.program.Paragraph as tree
use Rattle.control_flow_theory.specs.language.Language.{Paragraph, Program, paragraph_at, unless_absent}
use Rattle.control_flow_theory.specs.language.Control.{section_last, seen_paragraph, seen_paragraphs}

pub drop-at : {A : Type 0} → (xs : List A) (index : ℕ) (x : A) → slice_get xs index ≡ Some x → drop index xs ≡ x ∷ drop (suc index) xs
drop-at [] index x e = absurd (let k : ⊥ = cc in k)
drop-at (y ∷ ys) zero x e = (let k : y ≡ x = cc in ap (λ z. z ∷ ys) k)
drop-at (y ∷ ys) (suc index) x e = drop-at ys index x e

drop-past : {A : Type 0} → (xs : List A) (index : ℕ) → slice_get xs index ≡ None → drop index xs ≡ []
drop-past [] zero e = refl
drop-past [] (suc index) e = refl
drop-past (y ∷ ys) zero e = absurd (let k : ⊥ = cc in k)
drop-past (y ∷ ys) (suc index) e = drop-past ys index e

pub at-up : (paragraphs : List tree.Paragraph) (number up : ℕ) (found : Option tree.Paragraph) → up ≡ number + 1 → slice_get paragraphs up ≡ found → slice_get paragraphs (suc number) ≡ found
at-up paragraphs number up found is e = (let same : suc number ≡ up = omega (arith, is) in ap (λ (n : ℕ). slice_get paragraphs n) same ∙ e)

-- where the next paragraph begins a section, where it doesn't, and where there is none
pub last-here : (paragraphs : List tree.Paragraph) (number : ℕ) (other : tree.Paragraph) → slice_get paragraphs (suc number) ≡ Some other → is_some other.section ≡ true → number ≡ section_last number (drop (suc number) paragraphs)
last-here paragraphs number other e begins =
    sym (ap (λ ps. section_last number ps) (drop-at paragraphs (suc number) other e) ∙ ap (λ b. if b then number else section_last (suc number) (drop (suc (suc number)) paragraphs)) begins)

pub last-later : (paragraphs : List tree.Paragraph) (number next : ℕ) (other : tree.Paragraph) → slice_get paragraphs (suc number) ≡ Some other → is_some other.section ≡ false → next ≡ section_last (suc number) (drop (suc (suc number)) paragraphs) →
    next ≡ section_last number (drop (suc number) paragraphs)
last-later paragraphs number next other e goes_on is =
    is ∙ sym (ap (λ ps. section_last number ps) (drop-at paragraphs (suc number) other e) ∙ ap (λ b. if b then number else section_last (suc number) (drop (suc (suc number)) paragraphs)) goes_on)

pub last-none : (paragraphs : List tree.Paragraph) (number : ℕ) → slice_get paragraphs (suc number) ≡ None → number ≡ section_last number (drop (suc number) paragraphs)
last-none paragraphs number e = sym (ap (λ ps. section_last number ps) (drop-past paragraphs (suc number) e))

get-past : {A : Type 0} → (xs : List A) (index : ℕ) → length xs ≤ index → slice_get xs index ≡ None
get-past [] index le = refl
get-past (x ∷ xs) zero le = absurd (omega arith)
get-past (x ∷ xs) (suc index) le = get-past xs index (omega arith)

-- the same by the number as it was added up
pub last-past : (paragraphs : List tree.Paragraph) (number up : ℕ) → up ≡ number + 1 → length paragraphs ≤ up → number ≡ section_last number (drop (suc number) paragraphs)
last-past paragraphs number up is le = last-none paragraphs number (get-past paragraphs (suc number) (omega (arith, is, le)))

-- the last paragraph of a section is one of the paragraphs
section-end : (number : ℕ) (others : List tree.Paragraph) → section_last number others ≤ number + length others
section-end number [] = omega arith
section-end number (next ∷ others) =
    let k = section-end (suc number) others in
    elim (is_some next.section) as (λ b. (if b then number else section_last (suc number) others) ≤ number + suc (length others)) [
      | true ↦ omega arith
      | false ↦ omega (arith, k)
    ]

pub last-inside : (paragraphs : List tree.Paragraph) (number last : ℕ) → number < length paragraphs → last ≡ section_last number (drop (suc number) paragraphs) → last < length paragraphs
last-inside paragraphs number last lt is =
    let k = section-end number (drop (suc number) paragraphs) in
    let left = length-drop (suc number) paragraphs in
    omega (arith, k, left, lt, is)

-- the paragraph with this number, as control has it
seen-at : (first : ℕ) (paragraphs : List tree.Paragraph) (number : ℕ) (paragraph : tree.Paragraph) → slice_get paragraphs number ≡ Some paragraph →
    slice_get (seen_paragraphs first paragraphs) number ≡ Some (seen_paragraph (section_last (first + number) (drop (suc number) paragraphs)) paragraph)
seen-at first [] number paragraph e = absurd (let k : ⊥ = cc in k)
seen-at first (p ∷ ps) zero paragraph e =
    let k : p ≡ paragraph = cc in
    let same : first ≡ first + 0 = omega arith in
    ap (λ n. Some (seen_paragraph (section_last n ps) p)) same ∙ ap (λ q. Some (seen_paragraph (section_last (first + 0) ps) q)) k
seen-at first (p ∷ ps) (suc number) paragraph e =
    let same : suc first + number ≡ first + suc number = omega arith in
    seen-at (suc first) ps number paragraph e ∙ ap (λ n. Some (seen_paragraph (section_last n (drop (suc number) ps)) paragraph)) same

pub paragraph-at : (program : Program) (paragraphs : List tree.Paragraph) (number last : ℕ) (paragraph : tree.Paragraph) → program.paragraphs ≡ seen_paragraphs 0 paragraphs → slice_get paragraphs number ≡ Some paragraph →
    last ≡ section_last number (drop (suc number) paragraphs) → paragraph_at program number ≡ seen_paragraph last paragraph
paragraph-at program paragraphs number last paragraph is e ends =
    let same : 0 + number ≡ number = omega arith in
    ap (λ (ps : List Paragraph). unless_absent (slice_get ps number)) is ∙ ap unless_absent (seen-at 0 paragraphs number paragraph e)
    ∙ ap (λ n. seen_paragraph (section_last n (drop (suc number) paragraphs)) paragraph) same ∙ ap (λ n. seen_paragraph n paragraph) (sym ends)

pub seen-length : (first : ℕ) (paragraphs : List tree.Paragraph) → length (seen_paragraphs first paragraphs) ≡ length paragraphs
seen-length first [] = refl
seen-length first (p ∷ ps) = ap (λ n. suc n) (seen-length (suc first) ps)
