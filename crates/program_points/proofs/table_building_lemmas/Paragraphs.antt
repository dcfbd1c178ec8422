-- Paragraphs, from the last one back.
use Rattle.std.proofs.Common.{◌≡◌, ◌==◌, ◌+◌, ◌-◌, ◌<◌, ◌≤◌, ℕ, zero, suc, Bool, true, false, if◌then◌else◌, List, [], length, Some, slice_get, refl, ap, sym, ◌∙◌, subst, ◌⊎◌, inl, inr, arith, eqb-true, eq-eqb, ltb, lt-ltb, le-ltb, set, length-set}
use Rattle.cob_tree.specs.declared.program.Range.{Range}
use Rattle.control_flow_theory.specs.language.Language.{Chooser, Paragraph, Program, paragraph_at}
use Rattle.control_flow_theory.specs.language.Items.{items_of}
use Rattle.program_points.specs.paths.Step.{Point, at, start, Next, next}
use Rattle.program_points.specs.declared.point_table.table.ProgramPoint.{ProgramPoint}
use Rattle.program_points.specs.declared.point_table.table.ProgramPoint.TheVariants.{Ends}
use Rattle.program_points.specs.point_table.Table.{Describes}
use Rattle.program_points.specs.numbering.Build.{part_of, Grown, BuildsRest}
use Rattle.program_points.proofs.numbering_lemmas.Growing.{describes-more, still-paragraphs, set-here, set-other}
use Rattle.program_points.specs.table_building.Numbering.{HasEnds, CountsTwice, Extends, IsNumbered, Numbered, KeepsRanges, BuildsParagraph}

split-at : (number most : ℕ) → (number < most) ⊎ (most ≤ number)
split-at zero zero = inr (omega arith)
split-at zero (suc most) = inl (omega arith)
split-at (suc number) zero = inr (omega arith)
split-at (suc number) (suc most) = elim (split-at number most) [ inl lt ↦ inl (omega arith) | inr le ↦ inr (omega arith) ]

-- at first the points are the starts, and behind them the ends
abbrev pub first_point : Program → ℕ → ℕ → Point
first_point program count number = if ltb number count then start program number else at (number - count) []

first-start : (program : Program) (count number : ℕ) → number < count → first_point program count number ≡ start program number
first-start program count number lt = ap (λ b. if b then start program number else at (number - count) []) (lt-ltb number count lt)

first-end : (program : Program) (count number : ℕ) → first_point program count (count + number) ≡ at number []
first-end program count number =
    let small : count ≤ count + number = omega arith in
    let less : (count + number) - count ≡ number = omega arith in
    ap (λ b. if b then start program (count + number) else at ((count + number) - count) []) (le-ltb (count + number) count small) ∙ ap (λ (n : ℕ). at n []) less

module _ (never_first : Chooser → Bool) (program : Program) (count : ℕ) where
  pub numbered-grown : (old new : List ProgramPoint) (r0 r1 : List Range) (o0 o1 : List ℕ) (number from : ℕ) (points later : ℕ → Point) → number < count → Extends o0 o1 (length new) number → length o0 ≡ length old → IsNumbered never_first program count old r0 o0 from points → Grown never_first program number old new r0 r1 points later → IsNumbered never_first program count new r1 o1 from later
  numbered-grown old new r0 r1 o0 o1 home from points later small more size is grown = record {
    paragraphs = still-paragraphs never_first program count home old new r0 r1 points later grown is.paragraphs;
    owned = λ number lt.
        elim (split-at number (length old)) [
          | inl inner ↦
              let d = is.owned number inner in
              let same : (later number).paragraph ≡ (points number).paragraph = ap (λ (p : Point). p.paragraph) (grown.same number inner) in
              (more.kept number (omega (arith, size)) ∙ d.0 ∙ ap (λ (n : ℕ). Some n) (sym same), omega (arith, same, d.1))
          | inr outer ↦
              let same : (later number).paragraph ≡ home = grown.owned number outer lt in
              (more.more number (omega (arith, size)) lt ∙ ap (λ (n : ℕ). Some n) (sym same), omega (arith, same, small))
        ];
    told = λ number le lt.
        elim (split-at number (length old)) [
          | inl inner ↦
              let d = is.told number le inner in (
                d.0,
                grown.kept number inner ∙ d.1,
                subst (λ (p : Point). Describes (part_of new r1) later d.0 (next never_first program p)) (sym (grown.same number inner))
                    (describes-more old new r0 r1 points later d.0 (next never_first program (points number)) grown.longer grown.ranges grown.same d.2),
              )
          | inr outer ↦ grown.described number outer lt
        ];
  }

  -- the start of a paragraph is told by the place at which it was built
  numbered-set : (places : List ProgramPoint) (ranges : List Range) (owners : List ℕ) (number begin : ℕ) (place : ProgramPoint) (points : ℕ → Point) → IsNumbered never_first program count places ranges owners (suc number) points → number < count → begin < length places → number < begin →
      slice_get places begin ≡ Some place → points begin ≡ start program number → IsNumbered never_first program count (set places number place) ranges owners number points
  numbered-set places ranges owners number begin place points is lt within behind e same =
      let new = set places number place in
      let size : length new ≡ length places = length-set places number place in
      let from = is.told begin (omega arith) within in
      let place_same : Some from.0 ≡ Some place = sym from.1 ∙ e in
      let told : Describes (part_of places ranges) points place (next never_first program (points begin)) = (let k : from.0 ≡ place = cc in subst (λ (p : ProgramPoint). Describes (part_of places ranges) points p (next never_first program (points begin))) k from.2) in
      let more = λ (p : ProgramPoint) (now : Next) (d : Describes (part_of places ranges) points p now). describes-more places new ranges ranges points points p now (omega (arith, size)) (λ n r h. h) (λ n l. refl) d in
      record {
        paragraphs = record { starts = is.paragraphs.starts; ends = is.paragraphs.ends; room = omega (arith, is.paragraphs.room, size) };
        owned = λ n less. is.owned n (omega (arith, size));
        told = λ n le less.
            (elim (n == number) as (λ z. (n == number) ≡ z → (p : ProgramPoint) × (slice_get new n ≡ Some p) × Describes (part_of new ranges) points p (next never_first program (points n))) [
              | true ↦ λ b.
                  let here : n ≡ number = eqb-true n number b in
                  let point_same : points n ≡ points begin = ap points here ∙ is.paragraphs.starts number lt ∙ sym same in (
                    place,
                    ap (λ (k : ℕ). slice_get new k) here ∙ set-here places number place (omega (arith, is.paragraphs.room)),
                    subst (λ (p : Point). Describes (part_of new ranges) points place (next never_first program p)) (sym point_same) (more place (next never_first program (points begin)) told),
                  )
              | false ↦ λ b.
                  let other : n ≡ number → ⊥ = λ s. (let t : (n == number) ≡ true = eq-eqb n number s in let both : true ≡ false = sym t ∙ b in let k : ⊥ = cc in k) in
                  let up : suc number ≤ n = elim (split-at number n) [ inl above ↦ omega (arith, above) | inr below ↦ absurd (other (omega (arith, below, le))) ] in
                  let d = is.told n up (omega (arith, size)) in
                  (d.0, set-other places number n place other ∙ d.1, more d.0 (next never_first program (points n)) d.2)
            ]) refl;
      }

-- numbering begins with the ends alone told
pub numbers-begin : (never_first : Chooser → Bool) (program : Program) (count : ℕ) (places : List ProgramPoint) (ranges : List Range) (owners : List ℕ) → HasEnds count places → CountsTwice count owners → Numbered never_first program count places ranges owners count
numbers-begin never_first program count places ranges owners has twice =
    let points = λ (n : ℕ). first_point program count n in (
      points,
      record {
        paragraphs = record { starts = λ k lt. first-start program count k lt; ends = λ k lt. first-end program count k; room = omega (arith, has.size) };
        told = λ number le lt.
            let k : ℕ = number - count in
            let is : count + k ≡ number = omega arith in
            let small : k < count = omega (arith, has.size) in (
              Ends k,
              ap (λ (n : ℕ). slice_get places n) (sym is) ∙ has.ends k small,
              ap (λ (p : Point). next never_first program p) (ap points (sym is) ∙ first-end program count k),
            );
        owned = λ number lt.
            elim (split-at number count) [
              | inl inner ↦
                  let same : (points number).paragraph ≡ number = ap (λ (p : Point). p.paragraph) (first-start program count number inner) in
                  (twice.first number inner ∙ ap (λ (n : ℕ). Some n) (sym same), omega (arith, same, inner))
              | inr outer ↦
                  let k : ℕ = number - count in
                  let is : count + k ≡ number = omega arith in
                  let small : k < count = omega (arith, has.size) in
                  let same : (points number).paragraph ≡ k = ap (λ (p : Point). p.paragraph) (ap points (sym is) ∙ first-end program count k) in
                  (ap (λ (n : ℕ). slice_get owners n) (sym is) ∙ twice.second k small ∙ ap (λ (n : ℕ). Some n) (sym same), omega (arith, same, small))
            ];
      },
    )

pub build-paragraph : (never_first : Chooser → Bool) (count : ℕ) (old mid new : List ProgramPoint) (r0 r1 r2 : List Range) (o0 o1 : List ℕ) (paragraph : Paragraph) (number begin : ℕ) (place : ProgramPoint) → number < count → BuildsRest never_first count number old mid r0 r1 paragraph begin →
    begin < length mid → number < begin → slice_get mid begin ≡ Some place → length o0 ≡ length old → Extends o0 o1 (length mid) number → new ≡ set mid number place → r2 ≡ r1 → BuildsParagraph never_first count old new r0 r2 o0 o1 paragraph number
build-paragraph never_first count old mid new r0 r1 r2 o0 o1 paragraph number begin place lt builds within behind e_place size more e_new e_r program is numbered =
    let points = numbered.0 in
    let b = builds program points numbered.1.paragraphs lt in
    let later = numbered-grown never_first program count old mid r0 r1 o0 o1 number (suc number) points b.0 lt more size numbered.1 b.1 in
    let done = numbered-set never_first program count mid r1 o1 number begin place b.0 later lt within behind e_place (b.2.0 ∙ ap (λ (ss : Paragraph). at number (items_of ss)) (sym is)) in (
      subst (λ (ps : List ProgramPoint). Numbered never_first program count ps r2 o1 number) (sym e_new) (subst (λ (rs : List Range). Numbered never_first program count (set mid number place) rs o1 number) (sym e_r) (b.0, done)),
      λ n range e. subst (λ (rs : List Range). slice_get rs n ≡ Some range) (sym e_r) (b.1.ranges n range e),
    )

-- the paragraphs from one on, of so many
abbrev pub NumbersFrom : (Chooser → Bool) → List Paragraph → ℕ → ℕ → List ProgramPoint → List ProgramPoint → List Range → List Range → List ℕ → List ℕ → Type 0
NumbersFrom never_first paragraphs count from old new r0 r1 o0 o1 = (program : Program) → program.paragraphs ≡ paragraphs → Numbered never_first program count old r0 o0 count → Numbered never_first program count new r1 o1 from × KeepsRanges r0 r1

pub from-none : (never_first : Chooser → Bool) (paragraphs : List Paragraph) (count from : ℕ) (old : List ProgramPoint) (ranges : List Range) (owners : List ℕ) → from ≡ count → NumbersFrom never_first paragraphs count from old old ranges ranges owners owners
from-none never_first paragraphs count from old ranges owners same program is numbered =
    (subst (λ (n : ℕ). Numbered never_first program count old ranges owners n) (sym same) numbered, λ n range e. e)

pub from-more : (never_first : Chooser → Bool) (paragraphs : List Paragraph) (count c1 number from : ℕ) (old mid new : List ProgramPoint) (r0 r1 r2 : List Range) (o0 o1 o2 : List ℕ) (paragraph : Paragraph) → from ≡ suc number → c1 ≡ count →
    ((program : Program) → program.paragraphs ≡ paragraphs → paragraph_at program number ≡ paragraph) → NumbersFrom never_first paragraphs count from old mid r0 r1 o0 o1 → BuildsParagraph never_first c1 mid new r1 r2 o1 o2 paragraph number →
    NumbersFrom never_first paragraphs count number old new r0 r2 o0 o2
from-more never_first paragraphs count c1 number from old mid new r0 r1 r2 o0 o1 o2 paragraph same c at_it numbers builds program is numbered =
    let a = numbers program is numbered in
    let here : Numbered never_first program count mid r1 o1 (suc number) = subst (λ (n : ℕ). Numbered never_first program count mid r1 o1 n) same a.0 in
    let built = subst (λ (n : ℕ). BuildsParagraph never_first n mid new r1 r2 o1 o2 paragraph number) c builds in
    let b = built program (at_it program is) here in
    (b.0, λ n range e. b.1 n range (a.1 n range e))
