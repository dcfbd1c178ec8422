-- From one start of a paragraph to the next, and that no start need be passed twice.
use Rattle.std.proofs.Common.{◌≡◌, ◌+◌, ◌<◌, ◌≤◌, ℕ, zero, suc, true, false, ◌||◌, if◌then◌else◌, List, [], ◌∷◌, map, drop, length, get_or, Some, None, refl, ap, sym, ◌∙◌, subst, ◌⊎◌, inl, inr, slice_get, arith, add-one, eqb, eqb-true}
use Rattle.std.specs.List.{IsDistinct, AllByRecursion, list_any}
use Rattle.std.proofs.lemmas.Map.Keys.{IsDistinct-cons}
use Rattle.std.proofs.lemmas.Map.Steps.{length-le_from_distinct_below}
use Rattle.std.proofs.lemmas.Option.{slice_get-get_or}
use Rattle.cob_tree.specs.declared.program.Range.{Range}
use Rattle.cob_tree.specs.declared.program.Paragraph as tree_paragraph
use Rattle.cob_tree.specs.declared.program.Program as tree
use Rattle.cob_tree.specs.declared.program.Sentence as tree_sentence
use Rattle.control_flow_theory.specs.language.Language.{Paragraph, unless_absent}
use Rattle.control_flow_theory.specs.language.Items.{items_of}
use Rattle.control_flow_theory.specs.language.Control.{control_of, seen_paragraphs, seen_sentence, section_last}
use Rattle.program_points.specs.declared.paths.trail.Move.{Move}
use Rattle.program_points.specs.paths.Step.{at, start, Ends, is_present, is_paragraph}
use Rattle.program_points.specs.paths.Flow.{is_exit}
use Rattle.program_points.specs.paths.Accepted.{Walk, walk, past_end, Leads, here, further, Aim, Meets}
use Rattle.program_points.proofs.table_building_lemmas.Sections.{seen-length, paragraph-at}
use Rattle.overlap_trail.specs.declared.leg.ParagraphStep.{ParagraphStep}
use Rattle.overlap_trail.specs.declared.leg.ParagraphStep.TheVariants.{There, Nowhere, On}
use Rattle.overlap_trail.specs.Follow.{Known, Sought, sought_of, MeetsAt, onward_at, Quietly, rests, on_to, Goes, IsStuck}
use Rattle.overlap_trail.specs.Checking.{Arrives, IsLeg}
use Rattle.overlap_trail.proofs.Steps.{quietly-then, goes-then, then-goes, goes-quietly}

-- these starts of paragraphs were passed since the last move
abbrev pub HavePassed : Known → Sought → ℕ → Walk → List Move → List ℕ → Type 0
HavePassed known sought count now moves [] = Unit {0}
HavePassed known sought count now moves (paragraph ∷ paragraphs) =
    ((paragraph < count) × Goes known sought (walk (start sought.program paragraph) moves) now) × HavePassed known sought count now moves paragraphs

-- from the range's entry what is sought is come to exactly where it is from here, and no start was passed twice since the last move, unless it isn't come to
pub record IsOnWay (known : Known) (sought : Sought) (count : ℕ) (moves : List Move) (paragraph taken quiet : ℕ) : Type 0 where
  pub there : Arrives known sought (walk (start sought.program paragraph) (drop taken moves)) → Arrives known sought (walk (start sought.program sought.range.entry) moves)
  pub back : Arrives known sought (walk (start sought.program sought.range.entry) moves) → Arrives known sought (walk (start sought.program paragraph) (drop taken moves))
  pub passed : List ℕ
  pub quietly : length passed ≡ quiet
  pub passes : HavePassed known sought count (walk (start sought.program paragraph) (drop taken moves)) (drop taken moves) passed
  pub once : IsDistinct eqb passed ⊎ (Arrives known sought (walk (start sought.program paragraph) (drop taken moves)) → ⊥)
  pub within : taken ≤ length moves

-- paragraphs of the tree

present-at : (paragraphs : List Paragraph) (number : ℕ) → number < length paragraphs → is_present (slice_get paragraphs number) ≡ true
present-at [] number lt = absurd (omega arith)
present-at (paragraph ∷ paragraphs) zero lt = refl
present-at (paragraph ∷ paragraphs) (suc number) lt = present-at paragraphs number (omega arith)

absent-at : (paragraphs : List Paragraph) (number : ℕ) → length paragraphs ≤ number → slice_get paragraphs number ≡ None
absent-at [] number le = refl
absent-at (paragraph ∷ paragraphs) zero le = absurd (omega arith)
absent-at (paragraph ∷ paragraphs) (suc number) le = absent-at paragraphs number (omega arith)

module _ (program : tree.Program) (number : ℕ) where
  pub is-there : number < length program.paragraphs → is_paragraph (control_of program) number ≡ true
  is-there lt = present-at (seen_paragraphs 0 program.paragraphs) number (omega (arith, seen-length 0 program.paragraphs))

  not-there : length program.paragraphs ≤ number → slice_get (seen_paragraphs 0 program.paragraphs) number ≡ None
  not-there le = absent-at (seen_paragraphs 0 program.paragraphs) number (omega (arith, seen-length 0 program.paragraphs))

  pub is-not-there : length program.paragraphs ≤ number → is_paragraph (control_of program) number ≡ false
  is-not-there le = ap is_present (not-there le)

  pub start-missing : length program.paragraphs ≤ number → start (control_of program) number ≡ at number []
  start-missing le = ap (λ o. at number (items_of (unless_absent o))) (not-there le)

  -- where a paragraph starts, by the lists as they are lent
  pub start-there : (paragraphs : List tree_paragraph.Paragraph) (spare : tree_paragraph.Paragraph) (sentences : List tree_sentence.Sentence) → paragraphs ≡ program.paragraphs → number < length paragraphs → sentences ≡ (get_or paragraphs number spare).sentences →
      start (control_of program) number ≡ at number (items_of (map (seen_sentence (section_last number (drop (suc number) paragraphs))) sentences))
  start-there paragraphs spare sentences same lt are =
      let paragraph = get_or paragraphs number spare in
      let last = section_last number (drop (suc number) paragraphs) in
      ap (λ (p : Paragraph). at number (items_of p)) (paragraph-at (control_of program) paragraphs number last paragraph (ap (λ (ps : List tree_paragraph.Paragraph). seen_paragraphs 0 ps) (sym same)) (slice_get-get_or paragraphs number spare lt) refl)
      ∙ ap (λ (ss : List tree_sentence.Sentence). at number (items_of (map (seen_sentence last) ss))) (sym are)

module _ (known : Known) (sought : Sought) where
  stuck-by : (from end : Walk) → Leads known.never_first sought.program known.lemmas sought.range from end → MeetsAt known sought end → (MeetsAt known sought from → ⊥) → onward_at known sought from ≡ None → ⊥
  stuck-by from end (here there) meets free none = free meets
  stuck-by from end (further from1 via to step path) meets free none = (let both : None ≡ Some via = sym none ∙ step in let k : ⊥ = cc in k)

  pub stuck : (from : Walk) → (MeetsAt known sought from → ⊥) → onward_at known sought from ≡ None → Arrives known sought from → ⊥
  stuck from free none arrives = stuck-by from arrives.0 arrives.1 arrives.2 free none

  pub arrives-behind : (from to : Walk) → Quietly known sought from to → Arrives known sought to → Arrives known sought from
  arrives-behind from to (rests there) arrives = arrives
  arrives-behind from to (on_to from1 via to1 free step path) arrives =
      let later = arrives-behind via to1 path arrives in
      (later.0, further from1 via later.0 step later.1, later.2)

  same-via : (from via end : Walk) → (MeetsAt known sought from → ⊥) → onward_at known sought from ≡ Some via → Leads known.never_first sought.program known.lemmas sought.range from end → MeetsAt known sought end → Leads known.never_first sought.program known.lemmas sought.range via end
  same-via from via end free step (here there) meets = absurd (free meets)
  same-via from via end free step (further from1 via1 to1 step1 path) meets =
      let both : Some via1 ≡ Some via = sym step1 ∙ step in
      let same : via1 ≡ via = cc in
      subst (λ w. Leads known.never_first sought.program known.lemmas sought.range w to1) same path

  pub arrives-ahead : (from to : Walk) → Quietly known sought from to → Arrives known sought from → Arrives known sought to
  arrives-ahead from to (rests there) arrives = arrives
  arrives-ahead from to (on_to from1 via to1 free step path) arrives =
      arrives-ahead via to1 path (arrives.0, same-via from1 via arrives.0 free step arrives.1 arrives.2, arrives.2)

  -- what is stuck without what is sought never comes to it
  pub never-stuck : (from : Walk) → IsStuck known sought from → Arrives known sought from → ⊥
  never-stuck from is arrives = stuck is.0 is.2 is.3 (arrives-ahead from is.0 is.1 arrives)

  -- from the second step on it comes round too
  elim-around : (via from : Walk) → Quietly known sought via from → (MeetsAt known sought from → ⊥) × (onward_at known sought from ≡ Some via) → Goes known sought via via
  elim-around via from (rests there) one = (there, one.0, one.1, rests there)
  elim-around via from (on_to via1 mid from1 free step path) one = (mid, free, step, quietly-then known sought mid from1 via1 path (on_to from1 via1 via1 one.0 one.1 (rests via1)))

  around : (from end : Walk) → Leads known.never_first sought.program known.lemmas sought.range from end → MeetsAt known sought end → Goes known sought from from → ⊥
  around from end (here there) meets goes = goes.1 meets
  around from end (further from1 via1 to1 step1 path) meets goes =
      let both : Some goes.0 ≡ Some via1 = sym goes.2 ∙ step1 in
      let same : goes.0 ≡ via1 = cc in
      around via1 to1 path meets (elim-around via1 from1 (subst (λ w. Quietly known sought w from1) same goes.3) (goes.1, step1))

  -- nor does what comes round to itself
  pub never-around : (from : Walk) → Goes known sought from from → Arrives known sought from → ⊥
  never-around from goes arrives = around from arrives.0 arrives.1 arrives.2 goes

  pub leg-behind : (moves : List Move) (a b : Walk) (taken now : ℕ) (leg : ParagraphStep) → Quietly known sought a b → taken ≤ now → IsLeg known sought moves b now leg → IsLeg known sought moves a taken leg
  leg-behind moves a b taken now There path le leg = arrives-behind a b path leg
  leg-behind moves a b taken now Nowhere path le leg = λ arrives. leg (arrives-ahead a b path arrives)
  leg-behind moves a b taken now (On paragraph later) path le leg =
      (then-goes known sought a b (walk (start sought.program paragraph) (drop later moves)) path leg.0, (omega (arith, leg.1.0), leg.1.1))

  pub leg-earlier : (moves : List Move) (a : Walk) (taken now : ℕ) (leg : ParagraphStep) → taken ≤ now → IsLeg known sought moves a now leg → IsLeg known sought moves a taken leg
  leg-earlier moves a taken now leg le is = leg-behind moves a a taken now leg (rests a) le is

  -- what was passed leads on to what is come to next
  passed-on : (count : ℕ) (now to : Walk) (moves : List Move) (paragraphs : List ℕ) → Goes known sought now to → HavePassed known sought count now moves paragraphs → HavePassed known sought count to moves paragraphs
  passed-on count now to moves [] goes passed = tt
  passed-on count now to moves (paragraph ∷ paragraphs) goes passed =
      ((passed.0.0, goes-then known sought (walk (start sought.program paragraph) moves) now to passed.0.1 (goes-quietly known sought now to goes)), passed-on count now to moves paragraphs goes passed.1)

  below : (count : ℕ) (now : Walk) (moves : List Move) (paragraphs : List ℕ) → HavePassed known sought count now moves paragraphs → (paragraph : ℕ) → list_any (eqb paragraph) paragraphs ≡ true → paragraph < count
  below count now moves [] passed paragraph is = absurd (let k : ⊥ = cc in k)
  below count now moves (first ∷ paragraphs) passed paragraph is =
      (elim (eqb paragraph first) as (λ b. eqb paragraph first ≡ b → (b || list_any (eqb paragraph) paragraphs) ≡ true → paragraph < count) [
        | true ↦ λ e k. subst (λ n. n < count) (sym (eqb-true paragraph first e)) passed.0.0
        | false ↦ λ e k. below count now moves paragraphs passed.1 paragraph k
      ]) refl is

  again : (count : ℕ) (now : Walk) (moves : List Move) (paragraphs : List ℕ) → HavePassed known sought count now moves paragraphs → (paragraph : ℕ) →
      AllByRecursion (λ other. eqb paragraph other ≡ false) paragraphs ⊎ Goes known sought (walk (start sought.program paragraph) moves) now
  again count now moves [] passed paragraph = inl tt
  again count now moves (first ∷ paragraphs) passed paragraph =
      (elim (eqb paragraph first) as (λ b. eqb paragraph first ≡ b → AllByRecursion (λ other. eqb paragraph other ≡ false) (first ∷ paragraphs) ⊎ Goes known sought (walk (start sought.program paragraph) moves) now) [
        | true ↦ λ e. inr (subst (λ n. Goes known sought (walk (start sought.program n) moves) now) (sym (eqb-true paragraph first e)) passed.0.1)
        | false ↦ λ e. elim (again count now moves paragraphs passed.1 paragraph) [ inl all ↦ inl (e, all) | inr goes ↦ inr goes ]
      ]) refl

  distinct-none : IsDistinct eqb []
  unfolding IsDistinct
  distinct-none = tt

  distinct-more : (paragraph : ℕ) (paragraphs : List ℕ) → AllByRecursion (λ other. eqb paragraph other ≡ false) paragraphs → IsDistinct eqb paragraphs → IsDistinct eqb (paragraph ∷ paragraphs)
  distinct-more paragraph paragraphs all distinct = IsDistinct-cons eqb paragraph paragraphs all distinct

  pub on-way-begins : (count : ℕ) (moves : List Move) → IsOnWay known sought count moves sought.range.entry 0 0
  on-way-begins count moves = record {
    there = λ h. h;
    back = λ h. h;
    passed = [];
    quietly = refl;
    passes = tt;
    once = inl distinct-none;
    within = omega arith;
  }

  -- a move was taken
  pub on-way-taken : (count : ℕ) (moves : List Move) (paragraph taken quiet to now : ℕ) → IsOnWay known sought count moves paragraph taken quiet →
      Goes known sought (walk (start sought.program paragraph) (drop taken moves)) (walk (start sought.program to) (drop now moves)) → now ≤ length moves → IsOnWay known sought count moves to now 0
  on-way-taken count moves paragraph taken quiet to now on goes le =
      let from = walk (start sought.program paragraph) (drop taken moves) in
      let next_start = walk (start sought.program to) (drop now moves) in
      record {
        there = λ h. on.there (arrives-behind from next_start (goes-quietly known sought from next_start goes) h);
        back = λ h. arrives-ahead from next_start (goes-quietly known sought from next_start goes) (on.back h);
        passed = [];
        quietly = refl;
        passes = tt;
        once = inl distinct-none;
        within = le;
      }

  -- none was
  pub on-way-quiet : (count : ℕ) (moves : List Move) (paragraph taken quiet to now : ℕ) → IsOnWay known sought count moves paragraph taken quiet → paragraph < count → now ≡ taken →
      Goes known sought (walk (start sought.program paragraph) (drop taken moves)) (walk (start sought.program to) (drop now moves)) → IsOnWay known sought count moves to taken (quiet + 1)
  on-way-quiet count moves paragraph taken quiet to now on lt same goes =
      let from = walk (start sought.program paragraph) (drop taken moves) in
      let next_start = walk (start sought.program to) (drop taken moves) in
      let on_goes : Goes known sought from next_start = subst (λ n. Goes known sought from (walk (start sought.program to) (drop n moves))) same goes in
      let path = goes-quietly known sought from next_start on_goes in
      record {
        there = λ h. on.there (arrives-behind from next_start path h);
        back = λ h. arrives-ahead from next_start path (on.back h);
        passed = paragraph ∷ on.passed;
        quietly = ap (λ n. suc n) on.quietly ∙ sym (add-one quiet);
        passes = ((lt, on_goes), passed-on count from next_start (drop taken moves) on.passed on_goes on.passes);
        once = elim on.once [
          | inl distinct ↦ elim (again count from (drop taken moves) on.passed on.passes paragraph) [
            | inl all ↦ inl (distinct-more paragraph on.passed all distinct)
            | inr round ↦ inr (λ arrives. never-around from round (arrives-behind from next_start path arrives))
          ]
          | inr never ↦ inr (λ arrives. never (arrives-behind from next_start path arrives))
        ];
        within = on.within;
      }

  pub too-long : (count : ℕ) (moves : List Move) (paragraph taken quiet : ℕ) → IsOnWay known sought count moves paragraph taken quiet → count < quiet → Arrives known sought (walk (start sought.program sought.range.entry) moves) → ⊥
  too-long count moves paragraph taken quiet on lt arrives =
      elim on.once [
        | inl distinct ↦
            let few : length on.passed ≤ count = length-le_from_distinct_below on.passed count distinct (below count (walk (start sought.program paragraph) (drop taken moves)) (drop taken moves) on.passed on.passes) in
            (omega (arith, few, on.quietly))
        | inr never ↦ never (on.back arrives)
      ]

-- what the end of a paragraph leads to
module _ (program : tree.Program) (known : Known) (range : Range) (aim : Aim) where
  abbrev sought : Sought
  sought = sought_of (control_of program) range aim

  pub falls-on : (paragraph : ℕ) (moves : List Move) → (Meets aim range (Ends paragraph) moves → ⊥) → is_exit range.exit paragraph ≡ false → paragraph + 1 < length program.paragraphs →
      Goes known sought (walk (at paragraph []) moves) (walk (start (control_of program) (paragraph + 1)) moves)
  falls-on paragraph moves free out lt =
      let p = control_of program in
      let lt1 : suc paragraph < length program.paragraphs = omega arith in
      let step : past_end p range.exit paragraph moves ≡ Some (walk (start p (suc paragraph)) moves) =
      ap (λ b. if b then None else (if is_paragraph p (suc paragraph) then Some (walk (start p (suc paragraph)) moves) else None)) out
      ∙ ap (λ b. if b then Some (walk (start p (suc paragraph)) moves) else None) (is-there program (suc paragraph) lt1) in (
        walk (start p (suc paragraph)) moves,
        free,
        step,
        subst (λ n. Quietly known sought (walk (start p (suc paragraph)) moves) (walk (start p n) moves)) (sym (add-one paragraph)) (rests (walk (start p (suc paragraph)) moves)),
      )

  pub falls-off : (paragraph : ℕ) (moves : List Move) → (Meets aim range (Ends paragraph) moves → ⊥) → length program.paragraphs ≤ paragraph + 1 → Arrives known sought (walk (at paragraph []) moves) → ⊥
  falls-off paragraph moves free le =
      let p = control_of program in
      let le1 : length program.paragraphs ≤ suc paragraph = omega arith in
      let inner : (if is_paragraph p (suc paragraph) then Some (walk (start p (suc paragraph)) moves) else None) ≡ None = ap (λ b. if b then Some (walk (start p (suc paragraph)) moves) else None) (is-not-there program (suc paragraph) le1) in
      stuck known sought (walk (at paragraph []) moves) free
      ((elim (is_exit range.exit paragraph) as (λ b. (if b then None else (if is_paragraph p (suc paragraph) then Some (walk (start p (suc paragraph)) moves) else None)) ≡ None) [ true ↦ refl | false ↦ inner ]))

  -- at its exit the range doesn't go on
  pub at-exit : (paragraph : ℕ) (moves : List Move) → (Meets aim range (Ends paragraph) moves → ⊥) → is_exit range.exit paragraph ≡ true → Arrives known sought (walk (at paragraph []) moves) → ⊥
  at-exit paragraph moves free out =
      let p = control_of program in
      stuck known sought (walk (at paragraph []) moves) free
      (ap (λ b. if b then None else (if is_paragraph p (suc paragraph) then Some (walk (start p (suc paragraph)) moves) else None)) out)
