-- When a name is a word in capitals.
use Rattle.std.proofs.Common.{◌≡◌, ◌≢◌, ℕ, zero, suc, ◌-◌, ◌<◌, true, false, Bool, ◌&&◌, not, nat_lt, nat_le, ◌==◌, List, [], ◌∷◌, length, get_or, refl, ap, sym, ◌∙◌, arith, leb-true, ltb-true, le-leb, lt-ltb, subst, Option, Some, None, IsSome, ◌↔◌, if◌then◌else◌}
use Rattle.std.specs.List.{list_all}
use Rattle.std.specs.Str.{bytes_eq}
use Rattle.std.proofs.lemmas.Bool.Decides.{nat_tests}
use Rattle.std.proofs.lemmas.Slice.Eq.{bytes_eq-Decides}
use Rattle.cob_base.specs.Bytes.{hyphen}
use Rattle.cob_base.specs.Spelling.{word_byte, folded, IsWord}
use Rattle.cobol_grammar.specs.Name.{is_short, is_capital, is_bounded, is_capital_word}

first_byte : (b : ℕ) (bs : List ℕ) → list_all word_byte (b ∷ bs) ≡ true → word_byte b ≡ true
first_byte b bs h = grind (arith, nat_tests)

more_bytes : (b : ℕ) (bs : List ℕ) → list_all word_byte (b ∷ bs) ≡ true → list_all word_byte bs ≡ true
more_bytes b bs h = grind (arith, nat_tests)

byte_at : (d : List ℕ) (k e : ℕ) → list_all word_byte d ≡ true → k < length d → word_byte (get_or d k e) ≡ true
byte_at [] k e h i = absurd (omega arith)
byte_at (b ∷ bs) zero e h i = first_byte b bs h
byte_at (b ∷ bs) (suc k) e h i = byte_at bs k e (more_bytes b bs h) (omega arith)

both : (a b : Bool) → a && b ≡ true → (a ≡ true) × (b ≡ true)
both true true h = (refl, refl)
both true false h = absurd cc
both false b h = absurd cc

pub capital_is_word : (name : List ℕ) → is_capital_word name ≡ true → IsWord name × (folded name ≡ name)
capital_is_word name h =
    let a = both (is_short name) (is_capital name && is_bounded name) h in
    let b = both (is_capital name) (is_bounded name) a.1 in
    let c = both (list_all word_byte name) (bytes_eq (folded name) name) b.0 in
    let s = both (nat_lt 0 (length name)) (nat_le (length name) 30) a.0 in
    let e = both (not (get_or name 0 0 == hyphen)) (not (get_or name (length name - 1) 0 == hyphen)) b.1 in (
      record {
        begun = ltb-true 0 (length name) s.0;
        short = leb-true (length name) 30 s.1;
        spelled = λ k d inside. byte_at name k d c.0 inside;
        first = differs (get_or name 0 0) e.0;
        last = differs (get_or name (length name - 1) 0) e.1;
      },
      (bytes_eq-Decides (folded name) name).0 c.1,
    )
  where
    differs : (b : ℕ) → not (b == hyphen) ≡ true → b ≢ 45
    differs b h e = grind (arith, nat_tests)

all_bytes : (d : List ℕ) → ((k e : ℕ) → k < length d → word_byte (get_or d k e) ≡ true) → list_all word_byte d ≡ true
all_bytes [] h = refl
all_bytes (b ∷ bs) h =
    let first : word_byte b ≡ true = h 0 0 (omega arith) in
    let more : list_all word_byte bs ≡ true = all_bytes bs (λ k e inside. h (suc k) e (omega arith)) in
    grind (arith, nat_tests, first, more)

pub word_is_capital : (name : List ℕ) → IsWord name → folded name ≡ name → is_capital_word name ≡ true
word_is_capital name w e =
    let bytes : list_all word_byte name ≡ true = all_bytes name w.spelled in
    let same : bytes_eq (folded name) name ≡ true = (bytes_eq-Decides (folded name) name).1 e in
    let some : nat_lt 0 (length name) ≡ true = lt-ltb 0 (length name) w.begun in
    let few : nat_le (length name) 30 ≡ true = le-leb (length name) 30 w.short in
    let first : not (get_or name 0 0 == hyphen) ≡ true = differs (get_or name 0 0) w.first in
    let last : not (get_or name (length name - 1) 0 == hyphen) ≡ true = differs (get_or name (length name - 1) 0) w.last in
    all_true (nat_lt 0 (length name)) (nat_le (length name) 30) (list_all word_byte name) (bytes_eq (folded name) name) (not (get_or name 0 0 == hyphen)) (not (get_or name (length name - 1) 0 == hyphen)) some few bytes same first last
  where
    differs : (b : ℕ) → b ≢ 45 → not (b == hyphen) ≡ true
    differs b h = grind (arith, nat_tests)

    all_true : (a b c d e f : Bool) → a ≡ true → b ≡ true → c ≡ true → d ≡ true → e ≡ true → f ≡ true → (a && b) && ((c && d) && (e && f)) ≡ true
    all_true true true true true true true ha hb hc hd he hf = refl
    all_true true true true true true false ha hb hc hd he hf = absurd cc
    all_true true true true true false f ha hb hc hd he hf = absurd cc
    all_true true true true false e f ha hb hc hd he hf = absurd cc
    all_true true true false d e f ha hb hc hd he hf = absurd cc
    all_true true false c d e f ha hb hc hd he hf = absurd cc
    all_true false b c d e f ha hb hc hd he hf = absurd cc

pub no_word : (name : List ℕ) (o : Option (List ℕ)) → (IsSome o ↔ IsWord name) → o ≡ None → None ≡ (if is_capital_word name then Some name else None)
no_word name o h e = go (is_capital_word name) refl
  where
    go : (b : Bool) → is_capital_word name ≡ b → None ≡ (if b then Some name else None)
    go true t = let s : IsSome {T = List ℕ} None = subst (λ (o : Option (List ℕ)). IsSome o) e (h.1 (capital_is_word name t).0) in absurd cc
    go false t = refl

pub the_word : (name word : List ℕ) (o : Option (List ℕ)) → (IsSome o ↔ IsWord name) → o ≡ Some word → word ≡ folded name → word ≡ name → Some word ≡ (if is_capital_word name then Some name else None)
the_word name word o h is folds same =
    let some : IsSome o = subst (λ (o : Option (List ℕ)). IsSome o) (sym is) refl in
    ap (λ (w : List ℕ). Some w) same
    ∙ sym (ap (λ b. if b then Some name else None) (word_is_capital name (h.0 some) (sym folds ∙ same)))
