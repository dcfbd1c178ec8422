-- Words of the shape of reserved words, and tokens that are added behind others.
use Rattle.std.proofs.Common.{ℕ, ◌≡◌, ◌≢◌, ◌-◌, ◌≤◌, true, false, Bool, List, [], ◌∷◌, length, get_or, refl, ap, ◌∙◌, arith, nat_le}
use Rattle.std.specs.Prelude.{◌++◌, ◌&&◌, Result, OnOk}
use Rattle.std.proofs.lemmas.List.{append_assoc}
use Rattle.std.proofs.lemmas.Result.{on_ok_weaker}
use Rattle.std.specs.List.{list_all}
use Rattle.std.specs.Char.{to_ascii_uppercase}
use Rattle.std.proofs.lemmas.Bool.{leb-true}
use Rattle.std.proofs.lemmas.Bool.Decides.{nat_tests}
use Rattle.std.proofs.lemmas.List.Sums.{AllPass-from_list_all}
use Rattle.cob_base.specs.Spelling.{word_byte, folded, IsWord}
use Rattle.unparser.specs.Token.{Tokens, is_capital, is_reserved_byte, is_reserved_shape}

pub and_left : (x y : Bool) → (x && y) ≡ true → x ≡ true
and_left true y h = refl
and_left false y h = cc

pub and_right : (x y : Bool) → (x && y) ≡ true → y ≡ true
and_right true y h = h
and_right false y h = cc

reserved-byte : (b : ℕ) → is_reserved_byte b ≡ true → word_byte b ≡ true
reserved-byte b h = grind (arith, nat_tests)

reserved-upper : (b : ℕ) → is_reserved_byte b ≡ true → to_ascii_uppercase b ≡ b
reserved-upper b h = grind (arith, nat_tests)

capital-no_hyphen : (b : ℕ) → is_capital b ≡ true → b ≢ 45
capital-no_hyphen b h e = grind (arith, nat_tests)

all-folded : (text : List ℕ) → list_all is_reserved_byte text ≡ true → folded text ≡ text
all-folded [] h = refl
all-folded (b ∷ bs) h =
    ap (λ x. x ∷ folded bs) (reserved-upper b (and_left (is_reserved_byte b) (list_all is_reserved_byte bs) h))
    ∙ ap (λ xs. b ∷ xs) (all-folded bs (and_right (is_reserved_byte b) (list_all is_reserved_byte bs) h))

all-word : (text : List ℕ) → list_all is_reserved_byte text ≡ true → list_all word_byte text ≡ true
all-word [] h = refl
all-word (b ∷ bs) h =
    let first : word_byte b ≡ true = reserved-byte b (and_left (is_reserved_byte b) (list_all is_reserved_byte bs) h) in
    let others : list_all word_byte bs ≡ true = all-word bs (and_right (is_reserved_byte b) (list_all is_reserved_byte bs) h) in
    ap (λ x. x && list_all word_byte bs) first ∙ others

-- what the test of the shape asks
pub record HasShape (text : List ℕ) : Type 0 where
  pub some : 1 ≤ length text
  pub few : length text ≤ 30
  pub first : is_capital (get_or text 0 0) ≡ true
  pub last : is_capital (get_or text (length text - 1) 0) ≡ true
  pub each : list_all is_reserved_byte text ≡ true

shape : (text : List ℕ) (a b c d e : Bool) → a ≡ nat_le 1 (length text) → b ≡ nat_le (length text) 30 →
    c ≡ is_capital (get_or text 0 0) → d ≡ is_capital (get_or text (length text - 1) 0) → e ≡ list_all is_reserved_byte text →
    (a && (b && (c && (d && e)))) ≡ true → HasShape text
shape text true true true true true p q r s t h = record {
  some = leb-true 1 (length text) (cc);
  few = leb-true (length text) 30 (cc);
  first = cc;
  last = cc;
  each = cc;
}
shape text false b c d e p q r s t h = absurd (cc)
shape text true false c d e p q r s t h = absurd (cc)
shape text true true false d e p q r s t h = absurd (cc)
shape text true true true false e p q r s t h = absurd (cc)
shape text true true true true false p q r s t h = absurd (cc)

pub has_shape : (text : List ℕ) → is_reserved_shape text ≡ true → HasShape text
has_shape text h =
    shape text (nat_le 1 (length text)) (nat_le (length text) 30) (is_capital (get_or text 0 0))
    (is_capital (get_or text (length text - 1) 0)) (list_all is_reserved_byte text) refl refl refl refl refl h

pub reserved-folded : (text : List ℕ) → is_reserved_shape text ≡ true → folded text ≡ text
reserved-folded text h = all-folded text (has_shape text h).each

pub reserved-is_word : (text : List ℕ) → is_reserved_shape text ≡ true → IsWord text
reserved-is_word text h =
    let has : HasShape text = has_shape text h in
    record {
      begun = has.some;
      short = has.few;
      spelled = AllPass-from_list_all word_byte text (all-word text has.each);
      first = capital-no_hyphen (get_or text 0 0) has.first;
      last = capital-no_hyphen (get_or text (length text - 1) 0) has.last;
    }

-- what is added behind what was added
pub joined_on : (old mid new front more : Tokens) → mid ≡ old ++ front → new ≡ mid ++ more →
    new ≡ old ++ (front ++ more)
joined_on old mid new front more first second =
    second ∙ ap (λ x. x ++ more) first ∙ append_assoc old front more

pub added_on : {A E : Type 0} (result : Result A E) (old mid new front more : Tokens) → mid ≡ old ++ front →
    OnOk result (new ≡ mid ++ more) → OnOk result (new ≡ old ++ (front ++ more))
added_on result old mid new front more first second =
    on_ok_weaker result (joined_on old mid new front more first) second
