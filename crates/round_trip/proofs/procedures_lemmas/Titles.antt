-- The names of paragraphs and sections that can be printed may head them.
use Rattle.std.proofs.Common.{◌≡◌, ◌≢◌, ℕ, zero, suc, ◌-◌, ◌<◌, ◌≤◌, Bool, true, if◌then◌else◌, List, [], ◌∷◌, length, get_or, Option, Some, None, refl, ap, ◌∙◌, arith}
use Rattle.std.specs.Char.{to_ascii_uppercase}
use Rattle.std.specs.List.{list_all}
use Rattle.std.proofs.lemmas.Bool.Decides.{nat_tests}
use Rattle.cob_base.specs.Spelling.{word_byte, folded, IsWord}
use Rattle.cob_tree.specs.declared.program.Paragraph.{Paragraph}
use Rattle.round_trip.proofs.printable_lemmas.Free.{LabelIs, A_word, A_number, label-is, word-token, number-token}
use Rattle.grammar_laws.specs.form_results.Giving.{Each}
use Rattle.round_trip.specs.printable.Whole.{IfNamed, IsPrintableParagraph}
use Rattle.symbol_tables.specs.procedure_names.Procedures.{header_name, is_digit, is_number}
use Rattle.cobol_grammar.proofs.WordLemmas.{word_is_capital}
use Rattle.round_trip.specs.procedures.Names.{IsTitle, IfTitle, AreTitled}

-- ---- digits are a word in capitals

digit_capital : (b : ℕ) → is_digit b ≡ true → to_ascii_uppercase b ≡ b
digit_capital b h = grind (arith, nat_tests)

digit_spelled : (b : ℕ) → is_digit b ≡ true → word_byte b ≡ true
digit_spelled b h = grind (arith, nat_tests)

digit_no_hyphen : (b : ℕ) → is_digit b ≡ true → b ≢ 45
digit_no_hyphen b h e = grind (arith, nat_tests)

first_digit : (b : ℕ) (bs : List ℕ) → list_all is_digit (b ∷ bs) ≡ true → is_digit b ≡ true
first_digit b bs h = grind (arith, nat_tests)

more_digits : (b : ℕ) (bs : List ℕ) → list_all is_digit (b ∷ bs) ≡ true → list_all is_digit bs ≡ true
more_digits b bs h = grind (arith, nat_tests)

digit_at : (d : List ℕ) (k e : ℕ) → list_all is_digit d ≡ true → k < length d → is_digit (get_or d k e) ≡ true
digit_at [] k e h i = absurd (omega arith)
digit_at (b ∷ bs) zero e h i = first_digit b bs h
digit_at (b ∷ bs) (suc k) e h i = digit_at bs k e (more_digits b bs h) (omega arith)

digits_capital : (d : List ℕ) → list_all is_digit d ≡ true → folded d ≡ d
digits_capital [] h = refl
digits_capital (b ∷ bs) h = ap (λ x. x ∷ folded bs) (digit_capital b (first_digit b bs h)) ∙ ap (λ xs. b ∷ xs) (digits_capital bs (more_digits b bs h))

digits_word : (d : List ℕ) → 0 < length d → length d ≤ 30 → list_all is_digit d ≡ true → IsWord d
digits_word d some few h = record {
  begun = some;
  short = few;
  spelled = λ k e inside. digit_spelled (get_or d k e) (digit_at d k e h inside);
  first = digit_no_hyphen (get_or d 0 0) (digit_at d 0 0 h some);
  last = digit_no_hyphen (get_or d (length d - 1) 0) (digit_at d (length d - 1) 0 h (omega arith));
}

few_digits : (d : List ℕ) → is_number d ≡ true → (0 < length d) × (length d ≤ 30) × (list_all is_digit d ≡ true)
few_digits d h = (grind (arith, nat_tests), grind (arith, nat_tests), grind (arith, nat_tests))

-- ---- names

may-by : (name : List ℕ) → LabelIs name → IsTitle name
unfolding header_name
may-by name (A_word p f) = record {
  named = ap header_name (word-token name p) ∙ ap (λ (b : Bool). if b then Some name else None) f;
  capital = word_is_capital name p.0.word p.0.capital;
}
may-by name (A_number d n) =
    let few = few_digits name n in
    record {
      named = ap header_name (number-token name d) ∙ ap (λ (b : Bool). if b then Some name else None) n;
      capital = word_is_capital name (digits_word name few.0 few.1 few.2) (digits_capital name few.2);
    }

if-may : (name : Option (List ℕ)) → IfNamed name → IfTitle name
if-may None h = tt
if-may (Some name) h = may-by name (label-is name h)

pub titled : (list : List Paragraph) → Each IsPrintableParagraph list → AreTitled list
titled [] h = tt
titled (p ∷ list) h = (if-may p.section h.0.section, (if-may p.name h.0.name, titled list h.1))
