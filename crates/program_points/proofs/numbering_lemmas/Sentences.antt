-- Sentences, from the last one back.
use Rattle.std.proofs.Common.{◌≡◌, ◌+◌, ◌-◌, ◌<◌, ◌≤◌, ℕ, zero, suc, Bool, true, false, List, [], ◌∷◌, ◌++◌, map, drop, get_or, length, Some, refl, ap, sym, ◌∙◌, subst, arith, length-append}
use Rattle.std.proofs.lemmas.Option.{slice_get_read}
use Rattle.cob_tree.specs.declared.program.Range.{Range}
use Rattle.cob_tree.specs.declared.program.Sentence.{Sentence}
use Rattle.control_flow_theory.specs.language.Language.{Chooser, Stmts, Paragraph}
use Rattle.control_flow_theory.specs.language.Items.{Item, SentenceEnd, items_of, from_loop}
use Rattle.control_flow_theory.specs.language.Control.{seen_stmts, seen_sentence}
use Rattle.program_points.specs.paths.Step.{Point, at}
use Rattle.program_points.specs.paths.Step as lang
use Rattle.program_points.specs.declared.point_table.table.ProgramPoint.{ProgramPoint}
use Rattle.program_points.specs.declared.point_table.table.ProgramPoint.TheVariants.{Goes}
use Rattle.program_points.specs.declared.numbering.build.Exits.{Exits}
use Rattle.program_points.specs.numbering.Build.{IsAt, IsBehind, BuildsRest}
use Rattle.program_points.proofs.numbering_lemmas.Growing.{Built, with_point, point-here, grown-none, grown-then, grown-add, still-at, still-paragraphs, loop-before}
use Rattle.program_points.proofs.numbering_lemmas.Choosing.{drop-at}

loop-items : (cycle : Bool) (ss : Paragraph) → from_loop cycle (items_of ss) ≡ []
loop-items cycle [] = refl
loop-items cycle (s ∷ ss) = loop-before cycle s (SentenceEnd ∷ items_of ss) ∙ loop-items cycle ss

module _ (never_first : Chooser → Bool) (count number : ℕ) where
  abbrev R : List ProgramPoint → List ProgramPoint → List Range → List Range → Paragraph → ℕ → Type 0
  R old new r0 r1 sentences begin = BuildsRest never_first count number old new r0 r1 sentences begin

  pub rest-none : (old : List ProgramPoint) (ranges : List Range) (end : ℕ) → end ≡ count + number → R old old ranges ranges [] end
  rest-none old ranges end is = λ program points has lt. (points, grown-none never_first program number old ranges points, (ap points is ∙ has.ends number lt, omega (arith, has.room, lt, is)))

  pub rest-also : (c1 : ℕ) (old mid p1 new : List ProgramPoint) (r0 r1 ra r2 : List Range) (stmts : Stmts) (more : Paragraph) (exits : Exits) (end later closing begin : ℕ) → end ≡ count + number →
      exits ≡ record { after = closing; leave = later; broken = end; cycled = end } → c1 ≡ count → closing ≡ length mid → p1 ≡ mid ++ Goes later ∷ [] → ra ≡ r1 →
      R old mid r0 r1 more later → Built never_first c1 number p1 new ra r2 stmts exits begin → R old new r0 r2 (stmts ∷ more) begin
  rest-also c1 old mid p1 new r0 r1 ra r2 stmts more exits end later closing begin is ex c cl p r behind_it first = λ program points has lt.
      let a = behind_it program points has lt in
      let point = at number (SentenceEnd ∷ items_of more) in
      let closed = mid ++ Goes later ∷ [] in
      let with_end = with_point a.0 (length mid) point in
      let long : length closed ≡ length mid + 1 = length-append mid (Goes later ∷ []) in
      let grown = grown-add never_first program number mid r1 r1 a.0 (Goes later) point refl (λ n r e. e) (ap (λ (q : Point). lang.Ways (Some q ∷ [])) (sym a.2.0), a.2.1) in
      let both = grown-then never_first program number old mid closed r0 r1 r1 points a.0 with_end a.1 grown in
      let held = still-paragraphs never_first program count number old closed r0 r1 points with_end both has in
      let end_at : IsAt closed with_end end (at number []) = still-at never_first program count number old closed r0 r1 points with_end both end (at number []) (ap points is ∙ has.ends number lt, omega (arith, has.room, lt, is)) in
      let later_at : IsAt closed with_end later (at number (items_of more)) = still-at never_first program count number mid closed r1 r1 a.0 with_end grown later (at number (items_of more)) a.2 in
      let looped : (cycle : Bool) → IsAt closed with_end end (at number (from_loop cycle (SentenceEnd ∷ items_of more))) = λ cycle. subst (λ (rest : List Item). IsAt closed with_end end (at number rest)) (sym (loop-items cycle more)) end_at in
      let inside : Exits = record { after = length mid; leave = later; broken = end; cycled = end } in
      let behind : IsBehind program count number closed with_end (SentenceEnd ∷ items_of more) inside = record {
        paragraphs = held;
        here = lt;
        after = (point-here a.0 (length mid) point, omega (arith, long));
        leave = later_at;
        broken = looped false;
        cycled = looped true;
      } in
      let one = subst (λ (n : ℕ). Built never_first n number p1 new ra r2 stmts exits begin) c first in
      let two = subst (λ (ps : List ProgramPoint). Built never_first count number ps new ra r2 stmts exits begin) p one in
      let three = subst (λ (rs : List Range). Built never_first count number closed new rs r2 stmts exits begin) r two in
      let same : exits ≡ inside = ex ∙ ap (λ (n : ℕ). let x : Exits = record { after = n; leave = later; broken = end; cycled = end } in x) cl in
      let four = subst (λ (x : Exits). Built never_first count number closed new r1 r2 stmts x begin) same three in
      let b = four program with_end (SentenceEnd ∷ items_of more) behind in
      (b.0, grown-then never_first program number old closed new r0 r1 r2 points with_end b.0 both b.1, b.2)

pub sentences-past : (last : ℕ) (sentences : List Sentence) (index : ℕ) → length sentences ≤ index → map (seen_sentence last) (drop index sentences) ≡ []
sentences-past last [] zero le = refl
sentences-past last [] (suc index) le = refl
sentences-past last (s ∷ ss) zero le = absurd (omega arith)
sentences-past last (s ∷ ss) (suc index) le = sentences-past last ss index (omega arith)

pub sentences-down : (last : ℕ) (sentences : List Sentence) (at : ℕ) (sentence : Sentence) → 0 < at → at ≤ length sentences → sentence ≡ get_or sentences (at - 1) sentence →
    map (seen_sentence last) (drop (at - 1) sentences) ≡ seen_stmts last sentence.stmts ∷ map (seen_sentence last) (drop at sentences)
sentences-down last sentences at sentence some within is =
    let lt : at - 1 < length sentences = omega arith in
    let up : suc (at - 1) ≡ at = omega arith in
    ap (λ (ss : List Sentence). map (seen_sentence last) ss) (drop-at sentences (at - 1) sentence (slice_get_read sentences (length sentences) (at - 1) sentence refl lt is))
    ∙ ap (λ n. seen_stmts last sentence.stmts ∷ map (seen_sentence last) (drop n sentences)) up

pub sentences-whole : (last : ℕ) (items list : List Sentence) (at : ℕ) → list ≡ items → at ≡ 0 → map (seen_sentence last) (drop at list) ≡ map (seen_sentence last) items
sentences-whole last items list at same none_left = ap (λ n. map (seen_sentence last) (drop n list)) none_left ∙ ap (λ (xs : List Sentence). map (seen_sentence last) xs) same
