-- The test of a word and the fact.
use Rattle.std.proofs.Common.{ℕ, ◌≡◌, Bool, true, false, List, refl, rules, tests}
use Rattle.std.specs.List.{list_all}
use Rattle.std.proofs.lemmas.List.Sums.{AllPass-from_list_all, list_all-from_AllPass}
use Rattle.std.specs.Prelude.{Ok, Err, if◌then◌else◌}
use Rattle.cob_base.specs.Spelling.{IsWord, word_byte, folded}
use Rattle.cobol_lex.specs.Word.{fits_word, word_kind}
use Rattle.cobol_lex.specs.declared.token.TokenKind.TheVariants as kind
use Rattle.cobol_lex.specs.declared.fault.LexFault.TheVariants as fault
use Rattle.cobol_lex.specs.declared.fault.LexError.TheVariants as error

pub fits-IsWord : (run : List ℕ) → fits_word run ≡ true → IsWord run
fits-IsWord run h =
    let spelled : list_all word_byte run ≡ true = search (rules, tests) in
    record {
      begun = search (rules, tests);
      short = search (rules, tests);
      spelled = AllPass-from_list_all word_byte run spelled;
      first = search (rules, tests);
      last = search (rules, tests);
    }

pub IsWord-fits : (run : List ℕ) → IsWord run → fits_word run ≡ true
IsWord-fits run w =
    let spelled : list_all word_byte run ≡ true = list_all-from_AllPass word_byte run w.spelled in
    search (rules, tests, w.begun, w.short, spelled, w.first, w.last)

pub word_kind-word : (line : ℕ) (run word : List ℕ) → IsWord run → word ≡ folded run → Ok (kind.Word word) ≡ word_kind line run
word_kind-word line run word is_word folded_is =
    let fits : fits_word run ≡ true = IsWord-fits run is_word in
    rw (folded_is, fits)

pub word_kind-none : (line : ℕ) (run : List ℕ) → (IsWord run → ⊥) → Err (error.Fault (fault.BadWord line)) ≡ word_kind line run
word_kind-none line run none =
    let P : Bool → Type 0 = λ v. (fits_word run ≡ v) → Err (error.Fault (fault.BadWord line)) ≡ (if v then Ok (kind.Word (folded run)) else Err (error.Fault (fault.BadWord line))) in
    let cases : (v : Bool) → P v = λ v. elim v as P [ true ↦ λ h. absurd (none (fits-IsWord run h)) | false ↦ λ h. refl ] in
    cases (fits_word run) refl
