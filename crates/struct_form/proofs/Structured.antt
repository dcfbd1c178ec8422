-- The tests of the tree say what the definition says.
use Rattle.std.proofs.Common.{◌≡◌, ℕ, zero, suc, ◌<◌, Bool, true, false, ◌&&◌, ◌==◌, zero-lt-suc, suc-le-suc, if◌then◌else◌, List, [], ◌∷◌, map, length, take, Option, Some, None, slice_get, IsTrue, is_some, is_none, refl, ap, sym, ◌∙◌, subst, arith, nat_lt, eqb-true, ltb-true, eq-eqb, lt-ltb}
use Rattle.std.specs.Prelude.{All}
use Rattle.std.proofs.lemmas.Bool.{and_from, and_parts}
use Rattle.std.proofs.lemmas.List.Elements.{All-nil, All-cons, All-head, All-tail}
use Rattle.cob_tree.specs.declared.program.Sentence.{Sentence}
use Rattle.cob_tree.specs.declared.program.Paragraph.{Paragraph}
use Rattle.cob_tree.specs.declared.program.Program.{Program}
use Rattle.control_flow_theory.specs.language.Language as language
use Rattle.control_flow_theory.specs.language.Control.{seen_stmts, seen_sentence, seen_paragraph, seen_paragraphs, section_last}
use Rattle.control_flow_theory.specs.language.Structured as control
use Rattle.struct_form.specs.Structured.{stmts_exitless, IsProcedure, IsStructured}
use Rattle.struct_form.specs.Nested.{names_later, sentences_nest, paragraph_nests, paragraphs_nest}
use Rattle.struct_form.specs.Stops.{sentences_stop, first_stops}
use Rattle.struct_form.specs.Performed.{paragraph_performs, some_performs, EachPerformed}
use Rattle.struct_form.proofs.ControlTests.{stmts_pass, stmts-nest, stmts-pass}
use Rattle.struct_form.proofs.Nesting.{stmts-agree}
use Rattle.struct_form.proofs.Performing.{sentences-agree}
use Rattle.struct_form.proofs.Stopping.{stops-seen, stops-tested}

-- Nesting.

later-named : (count here entry exit : ℕ) → names_later count here entry exit ≡ true → control.NamesLater count here entry exit
later-named count here entry exit e =
    let h = and_parts (entry == exit && nat_lt here entry) (nat_lt entry count) e in
    let k = and_parts (entry == exit) (nat_lt here entry) h.0 in
    (eqb-true entry exit k.0, ltb-true here entry k.1, ltb-true entry count h.1)

later-tested : (count here entry exit : ℕ) → control.NamesLater count here entry exit → names_later count here entry exit ≡ true
later-tested count here entry exit h =
    and_from (entry == exit && nat_lt here entry) (nat_lt entry count)
    (and_from (entry == exit) (nat_lt here entry) (eq-eqb entry exit h.0) (lt-ltb here entry h.1)) (lt-ltb entry count h.2)

module _ (count here last : ℕ) where
  abbrev NoExits : List Sentence → Type 0
  NoExits sentences = All (λ sentence. IsTrue (stmts_exitless sentence.stmts)) sentences

  sentences-nest : (sentences : List Sentence) → sentences_nest count here sentences ≡ true →
      control.ParagraphNests count here (map (seen_sentence last) sentences) × NoExits sentences
  sentences-nest [] e = cc
  sentences-nest (sentence ∷ []) e =
      let h = and_parts (stmts_pass (names_later count here) (seen_stmts last sentence.stmts)) (stmts_exitless sentence.stmts) (sym (stmts-agree count here last sentence.stmts) ∙ e) in
      (stmts-nest (names_later count here) (control.NamesLater count here) (later-named count here) (seen_stmts last sentence.stmts) h.0, All-cons (λ sentence. IsTrue (stmts_exitless sentence.stmts)) sentence [] h.1 (All-nil (λ sentence. IsTrue (stmts_exitless sentence.stmts))))
  sentences-nest (sentence ∷ next ∷ others) e = cc

  sentences-tested : (sentences : List Sentence) → control.ParagraphNests count here (map (seen_sentence last) sentences) → NoExits sentences →
      sentences_nest count here sentences ≡ true
  sentences-tested [] h free = absurd h
  sentences-tested (sentence ∷ []) h free =
      stmts-agree count here last sentence.stmts
      ∙ and_from (stmts_pass (names_later count here) (seen_stmts last sentence.stmts)) (stmts_exitless sentence.stmts)
      (stmts-pass (names_later count here) (control.NamesLater count here) (later-tested count here) (seen_stmts last sentence.stmts) h)
      (All-head (λ sentence. IsTrue (stmts_exitless sentence.stmts)) sentence [] free)
  sentences-tested (sentence ∷ next ∷ others) h free = absurd h

  none-tested : {X : Type 0} (x : Option X) → is_none x ≡ true → x ≡ None
  none-tested None e = refl
  none-tested (Some x) e = cc

  paragraph-nests : (paragraph : Paragraph) → paragraph_nests count here paragraph ≡ true →
      control.ParagraphNests count here (seen_paragraph last paragraph) × IsProcedure paragraph
  paragraph-nests paragraph e =
      let h = and_parts (is_some paragraph.name && is_none paragraph.section) (sentences_nest count here paragraph.sentences) e in
      let k = and_parts (is_some paragraph.name) (is_none paragraph.section) h.0 in
      let s = sentences-nest paragraph.sentences h.1 in
      (s.0, record { named = k.0; free = none-tested paragraph.section k.1; exitless = s.1 })

  paragraph-tested : (paragraph : Paragraph) → control.ParagraphNests count here (seen_paragraph last paragraph) → IsProcedure paragraph →
      paragraph_nests count here paragraph ≡ true
  paragraph-tested paragraph h procedure =
      and_from (is_some paragraph.name && is_none paragraph.section) (sentences_nest count here paragraph.sentences)
      (and_from (is_some paragraph.name) (is_none paragraph.section) procedure.named (ap is_none procedure.free))
      (sentences-tested paragraph.sentences h procedure.exitless)

paragraphs-nest : (count first : ℕ) (paragraphs : List Paragraph) → paragraphs_nest count first paragraphs ≡ true →
    control.ParagraphsNest count first (seen_paragraphs first paragraphs) × All IsProcedure paragraphs
paragraphs-nest count first [] e = (tt, All-nil IsProcedure)
paragraphs-nest count first (paragraph ∷ others) e =
    let h = and_parts (paragraph_nests count first paragraph) (paragraphs_nest count (suc first) others) e in
    let p = paragraph-nests count first (section_last first others) paragraph h.0 in
    let more = paragraphs-nest count (suc first) others h.1 in
    ((p.0, more.0), All-cons IsProcedure paragraph others p.1 more.1)

paragraphs-tested : (count first : ℕ) (paragraphs : List Paragraph) →
    control.ParagraphsNest count first (seen_paragraphs first paragraphs) → All IsProcedure paragraphs → paragraphs_nest count first paragraphs ≡ true
paragraphs-tested count first [] h procedures = refl
paragraphs-tested count first (paragraph ∷ others) h procedures =
    and_from (paragraph_nests count first paragraph) (paragraphs_nest count (suc first) others)
    (paragraph-tested count first (section_last first others) paragraph h.0 (All-head IsProcedure paragraph others procedures))
    (paragraphs-tested count (suc first) others h.1 (All-tail IsProcedure paragraph others procedures))

seen-length : (first : ℕ) (paragraphs : List Paragraph) → length (seen_paragraphs first paragraphs) ≡ length paragraphs
seen-length first [] = refl
seen-length first (paragraph ∷ others) = ap suc (seen-length (suc first) others)

-- STOP RUN.

sentences-stop : (last : ℕ) (sentences : List Sentence) (others : List language.Paragraph) → sentences_stop sentences ≡ true → control.FirstStops (map (seen_sentence last) sentences ∷ others)
sentences-stop last [] others e = cc
sentences-stop last (sentence ∷ sentences) others e = stops-seen last sentence.stmts e

sentences-stopped : (last : ℕ) (sentences : List Sentence) (others : List language.Paragraph) → control.FirstStops (map (seen_sentence last) sentences ∷ others) → sentences_stop sentences ≡ true
sentences-stopped last [] others h = absurd h
sentences-stopped last (sentence ∷ sentences) others h = stops-tested last sentence.stmts h

first-stops : (paragraphs : List Paragraph) → first_stops paragraphs ≡ true → control.FirstStops (seen_paragraphs 0 paragraphs)
first-stops [] e = cc
first-stops (paragraph ∷ others) e = sentences-stop (section_last 0 others) paragraph.sentences (seen_paragraphs 1 others) e

first-tested : (paragraphs : List Paragraph) → control.FirstStops (seen_paragraphs 0 paragraphs) → first_stops paragraphs ≡ true
first-tested [] h = absurd h
first-tested (paragraph ∷ others) h = sentences-stopped (section_last 0 others) paragraph.sentences (seen_paragraphs 1 others) h

-- PERFORMs.

-- the paragraph with this number, of these whose first has the first one, performs the other
abbrev performs_at : ℕ → ℕ → List Paragraph → ℕ → Bool
performs_at number first paragraphs from = control.paragraph_performs number (language.unless_absent (slice_get (seen_paragraphs first paragraphs) from))

abbrev Found : (number first count : ℕ) → List Paragraph → Type 0
Found number first count paragraphs = (from : ℕ) × (from < count) × (performs_at number first paragraphs from ≡ true)

some-by : (number first count : ℕ) (paragraph : Paragraph) (others : List Paragraph) (here : Bool) → here ≡ paragraph_performs number paragraph →
    (if here then true else some_performs number (take count others)) ≡ true →
    (some_performs number (take count others) ≡ true → Found number (suc first) count others) → Found number first (suc count) (paragraph ∷ others)
some-by number first count paragraph others true is e later =
    (0, zero-lt-suc count, sym (sentences-agree number (section_last first others) paragraph.sentences) ∙ sym is)
some-by number first count paragraph others false is e later =
    let found = later e in
    (suc found.0, suc-le-suc found.1, found.2)

some-performs : (number first count : ℕ) (paragraphs : List Paragraph) → some_performs number (take count paragraphs) ≡ true → Found number first count paragraphs
some-performs number first zero paragraphs e = cc
some-performs number first (suc count) [] e = cc
some-performs number first (suc count) (paragraph ∷ others) e =
    some-by number first count paragraph others (paragraph_performs number paragraph) refl e (some-performs number (suc first) count others)

-- it is so, where the first test or the second holds
or-yes : (a b : Bool) → b ≡ true → (if a then true else b) ≡ true
or-yes false b e = e
or-yes true b e = refl

or-first : (a b : Bool) → a ≡ true → (if a then true else b) ≡ true
or-first false b e = cc
or-first true b e = refl

some-tested : (number first count : ℕ) (paragraphs : List Paragraph) (from : ℕ) → from < count → performs_at number first paragraphs from ≡ true →
    some_performs number (take count paragraphs) ≡ true
some-tested number first zero paragraphs from below e = absurd (omega arith)
some-tested number first (suc count) [] from below e = cc
some-tested number first (suc count) (paragraph ∷ others) zero below e =
    or-first (paragraph_performs number paragraph) (some_performs number (take count others))
    (sentences-agree number (section_last first others) paragraph.sentences ∙ e)
some-tested number first (suc count) (paragraph ∷ others) (suc from) below e =
    or-yes (paragraph_performs number paragraph) (some_performs number (take count others))
    (some-tested number (suc first) count others from (omega arith) e)

-- The whole.

pub structured_by_tests : (program : Program) → paragraphs_nest (length program.paragraphs) 0 program.paragraphs ≡ true →
    first_stops program.paragraphs ≡ true → EachPerformed program.paragraphs → IsStructured program
structured_by_tests program nests stops performed =
    let count = length program.paragraphs in
    let same = seen-length 0 program.paragraphs in
    let n = paragraphs-nest count 0 program.paragraphs nests in
    record {
      procedures = n.1;
      structured = record {
        nests = subst (λ c. control.ParagraphsNest c 0 (seen_paragraphs 0 program.paragraphs)) (sym same) n.0;
        stops = first-stops program.paragraphs stops;
        performed = λ number above below. some-performs number 0 number program.paragraphs (performed number above (subst (λ c. number < c) same below));
      };
    }

pub structured_nests : (program : Program) → IsStructured program → paragraphs_nest (length program.paragraphs) 0 program.paragraphs ≡ true
structured_nests program h =
    paragraphs-tested (length program.paragraphs) 0 program.paragraphs
    (subst (λ c. control.ParagraphsNest c 0 (seen_paragraphs 0 program.paragraphs)) (seen-length 0 program.paragraphs) h.structured.nests) h.procedures

pub structured_stops : (program : Program) → IsStructured program → first_stops program.paragraphs ≡ true
structured_stops program h = first-tested program.paragraphs h.structured.stops

pub structured_performed : (program : Program) → IsStructured program → EachPerformed program.paragraphs
structured_performed program h = λ number above below.
    let found = h.structured.performed number above (subst (λ c. number < c) (sym (seen-length 0 program.paragraphs)) below) in
    some-tested number 0 number program.paragraphs found.0 found.1 found.2
