-- The statements of what a program is split into pass the tests by its own names.
use Rattle.std.proofs.Common.{◌≡◌, ◌≤◌, ℕ, zero, suc, max, Bool, true, List, [], ◌∷◌, map, length, Some, slice_get, refl, ap, sym, ◌∙◌, subst, arith}
use Rattle.cob_tree.specs.Depth.{largest}
use Rattle.cob_tree.specs.declared.program.Paragraph.{Paragraph}
use Rattle.cob_tree.specs.declared.program.Program.{Program}
use Rattle.cob_tree.specs.declared.program.Sentence.{Sentence}
use Rattle.control_flow_theory.specs.language.All.{all}
use Rattle.control_flow_theory.specs.language.Control.{control_of}
use Rattle.control_flow_theory.specs.language.Language as language
use Rattle.control_flow_theory.specs.language.Language.{Range}
use Rattle.program_facts.proofs.well_scoped_lemmas.Made.{both}
use Rattle.control_flow_theory.specs.rendering.Rendering.{Naming, Procedure, rendered}
use Rattle.control_flow_theory.specs.rendering.Procedures.{Writable}
use Rattle.control_flow_theory.specs.main_theorem.Chain.{EachStands}
use Rattle.cob_base.specs.Limit.{max_terms}
use Rattle.program_facts.specs.term_counts.Program.{terms_of, paragraph_most, file_most, sentence_most}
use Rattle.program_facts.specs.term_counts.Statement.{stmts_most}
use Rattle.program_points.proofs.table_building_lemmas.Sections.{seen-length}
use Rattle.round_trip.specs.fitting_statements.Fits.{Fits}
use Rattle.round_trip.specs.fitting_statements.Statement.{are_fit_paragraphs, fit_paragraph, fit_sentence}
use Rattle.round_trip.specs.fitting_statements.fit_control.Fit.{StmtsFit}
use Rattle.round_trip.specs.fitting_statements.fit_control.Written.{CondsFit, NamesFit}
use Rattle.round_trip.proofs.fitting_statements_lemmas.fit_control_lemmas.Back.{all-fit}
use Rattle.round_trip.proofs.fitting_statements_lemmas.fit_control_lemmas.Written.{sentence-fits}
use Rattle.round_trip.specs.fitting_statements.sound_bodies.Sound.{StmtsAreSound}
use Rattle.end_to_end_laws.proofs.results_lemmas.result_bodies_lemmas.Paragraphs.{are-written}

-- ---- lists

all-of : {X : Type 0} (test : X → Bool) (list : List X) →
    ((at : ℕ) (x : X) → slice_get list at ≡ Some x → test x ≡ true) → all (map test list) ≡ true
all-of test [] each = refl
all-of test (x ∷ list) each =
    both (each 0 x refl) (all-of test list (λ at y is. each (suc at) y is))

at-most : {X : Type 0} (size : X → ℕ) (list : List X) (at : ℕ) (x : X) →
    slice_get list at ≡ Some x → size x ≤ largest (map size list)
at-most size [] at x is = cc
at-most size (y ∷ list) zero x is =
    let same : y ≡ x = cc in
    let n = largest (map size list) in
    subst (λ z. size z ≤ max (size y) n) same (left (size y) n)
  where
    left : (a b : ℕ) → a ≤ max a b
    left a b = omega arith
at-most size (y ∷ list) (suc at) x is =
    right (size y) (largest (map size list)) (size x) (at-most size list at x is)
  where
    right : (a b n : ℕ) → n ≤ b → n ≤ max a b
    right a b n h = omega (arith, h)

-- ---- terms

left-under : (a b n : ℕ) → max a b ≤ n → a ≤ n
left-under a b n h = omega (arith, h)

one-under : (a n : ℕ) → max a 0 ≤ n → a ≤ n
one-under a n h = omega (arith, h)

through : (a b n : ℕ) → a ≤ b → b ≤ n → a ≤ n
through a b n h g = omega (arith, h, g)

-- of a paragraph's one sentence
few-terms : (made : Program) → terms_of made ≤ max_terms → (at : ℕ) (paragraph : Paragraph) →
    slice_get made.paragraphs at ≡ Some paragraph → (sentence : Sentence) →
    paragraph.sentences ≡ sentence ∷ [] → stmts_most sentence.stmts ≤ max_terms
few-terms made few at paragraph is sentence alone =
    let paragraphs = largest (map paragraph_most made.paragraphs) in
    let all = left-under paragraphs (largest (map file_most made.files)) max_terms few in
    let one = through (paragraph_most paragraph) paragraphs max_terms
    (at-most paragraph_most made.paragraphs at paragraph is) all in
    one-under (stmts_most sentence.stmts) max_terms
    (subst (λ list. largest (map sentence_most list) ≤ max_terms) alone one)

-- ---- paragraphs

module _ (made : Program) (naming : Naming) (kinds : Writable) (begins : language.Simple → Bool)
    (enough : Range → (cell arms : ℕ) → Bool) (fits : Fits) (procedures : List Procedure)
    (names : NamesFit naming kinds begins enough fits (length procedures)) (conds : CondsFit fits)
    (stands : EachStands naming kinds procedures)
    (sound : (number : ℕ) (procedure : Procedure) → slice_get procedures number ≡ Some procedure →
    StmtsAreSound begins (enough procedure.range) procedure.body)
    (few : terms_of made ≤ max_terms) (control : control_of made ≡ rendered naming procedures)
  where
    paragraph-fits : (at : ℕ) (paragraph : Paragraph) →
        slice_get made.paragraphs at ≡ Some paragraph → fit_paragraph fits paragraph ≡ true
    paragraph-fits at paragraph is =
        let written = are-written made naming procedures control at paragraph is in
        let procedure = written.0 in
        let one = written.2 in
        let fit = sentence-fits naming kinds begins enough fits procedures names procedure
        (stands at procedure written.1) (sound at procedure written.1) in
        let control_fits = subst (λ stmts. StmtsFit fits stmts) (sym one.seen) fit.1 in
        let passes = all-fit fits conds one.last one.sentence.stmts
        (few-terms made few at paragraph is one.sentence one.alone) control_fits in
        subst (λ list. all (map (fit_sentence fits) list) ≡ true) (sym one.alone) (both passes refl)

    pub paragraphs-fit : are_fit_paragraphs fits made.paragraphs ≡ true
    paragraphs-fit = all-of (fit_paragraph fits) made.paragraphs paragraph-fits

-- as many as there are procedures
map-length : {A B : Type 0} (f : A → B) (list : List A) → length (map f list) ≡ length list
map-length f [] = refl
map-length f (x ∷ list) = ap suc (map-length f list)

pub as-many : (made : Program) (naming : Naming) (procedures : List Procedure) →
    control_of made ≡ rendered naming procedures → length procedures ≡ length made.paragraphs
as-many made naming procedures control =
    sym (sym (seen-length 0 made.paragraphs)
    ∙ ap (λ (program : language.Program). length program.paragraphs) control ∙ map-length _ procedures)
