-- Bytes that are read piece by piece.
use Rattle.std.proofs.Common.{◌≡◌, ℕ, ◌+◌, ◌<◌, ◌≤◌, List, [], ◌∷◌, ◌++◌, length, take, drop, Option, Some, None, refl, ap, sym, ◌∙◌, subst, arith, append-nil, add-zero}
use Rattle.std.specs.Prelude.{min}
use Rattle.std.proofs.lemmas.List.{take_all, length-take}
use Rattle.std.proofs.Math.ListN.{drop_of_length-le}
use Rattle.std.proofs.Math.Seq.{take-append_seam, drop-append_seam, drop-append-add}
use Rattle.cob_base.specs.Source.{Takes, SourceCall}
use Rattle.cob_base.specs.declared.source.Took.TheVariants as took
use Rattle.cob_base.specs.Limit.{max_source}
use Rattle.restructure_asks.specs.Reading.{IsRead, IsReadWithin}

-- all that was left, or the front of it up to the first byte past the limit
abbrev pub ReadUpTo : Option (List ℕ) → List ℕ → Option (List ℕ) → Type 0
ReadUpTo None text now = now ≡ None
ReadUpTo (Some bytes) text now = (text ≡ take (max_source + 1) bytes) × (now ≡ Some (drop (max_source + 1) bytes))

-- a source before and after a call
abbrev pub call : (told left : Option (List ℕ)) (count count_now : ℕ) → SourceCall
call told left count count_now = record { told = told; left = left; count = count; count_now = count_now }

-- what was read up to the limit is read
pub is-read : (told left : Option (List ℕ)) (text : List ℕ) (count count_now : ℕ) → length text ≤ max_source + 1 → ReadUpTo told text left → IsRead (call told left count count_now) text
is-read None left text count count_now short read = record {
  bytes = text;
  told = tt;
  front = sym (take_all (max_source + 1) text short);
  left = read;
}
is-read (Some bytes) left text count count_now short read = record {
  bytes = bytes;
  told = refl;
  front = read.0;
  left = read.1;
}

-- what was read is the front of what was left, and the rest of it is left
abbrev pub SoFar : Option (List ℕ) → List ℕ → Option (List ℕ) → Type 0
SoFar None text now = now ≡ None
SoFar (Some bytes) text now = (rest : List ℕ) × (now ≡ Some rest) × (bytes ≡ text ++ rest)

pub record ReadSoFar (told : Option (List ℕ)) (text : List ℕ) (now : Option (List ℕ)) (count count_now : ℕ) : Type 0 where
  pub front : SoFar told text now
  pub within : length text ≤ max_source + 1
  pub later : count ≤ count_now

-- the end was reached within the limit
read-whole : (bytes text : List ℕ) → length text ≤ max_source + 1 → bytes ≡ text → (text ≡ take (max_source + 1) bytes) × (Some [] ≡ Some (drop (max_source + 1) bytes))
read-whole bytes text short is =
    let short' : length bytes ≤ max_source + 1 = subst (λ t. length t ≤ max_source + 1) (sym is) short in
    (sym is ∙ sym (take_all (max_source + 1) bytes short'), ap Some (sym (drop_of_length-le bytes short')))

ended : (bytes text rest : List ℕ) → bytes ≡ text ++ rest → rest ≡ [] → bytes ≡ text
ended bytes text rest is none = is ∙ ap (λ t. text ++ t) none ∙ append-nil text

read-ended : (told mid now : Option (List ℕ)) (text old new : List ℕ) → SoFar told text mid → length text ≤ max_source + 1 → Takes mid took.End old new now → ReadUpTo told text now
read-ended None mid now text old new h short g = subst (λ m. Takes m took.End old new now) h g
read-ended (Some bytes) mid now text old new h short g =
    let end = subst (λ m. Takes m took.End old new now) h.1 g in
    let whole = read-whole bytes text short (ended bytes text h.0 h.2 end.0) in
    (whole.0, end.1 ∙ whole.1)

nothing-left : (rest old : List ℕ) → 0 < length old → (0 < length old → 0 < length rest → 0 < 0) → rest ≡ []
nothing-left [] old some h = refl
nothing-left (x ∷ xs) old some h = let more : 0 < length (x ∷ xs) = omega arith in absurd (let never : 0 < 0 = h some more in omega (arith, never))

read-nothing : (told mid now : Option (List ℕ)) (text old new : List ℕ) → SoFar told text mid → length text ≤ max_source + 1 → 0 < length old → Takes mid (took.Bytes 0) old new now → ReadUpTo told text now
read-nothing None mid now text old new h short some g = subst (λ m. Takes m (took.Bytes 0) old new now) h g
read-nothing (Some bytes) mid now text old new h short some g =
    let taken = subst (λ m. Takes m (took.Bytes 0) old new now) h.1 g in
    let none = nothing-left h.0 old some taken.moves in
    let whole = read-whole bytes text short (ended bytes text h.0 h.2 none) in
    (whole.0, taken.left ∙ ap Some none ∙ whole.1)

read-past : (told mid : Option (List ℕ)) (text : List ℕ) → SoFar told text mid → length text ≡ max_source + 1 → ReadUpTo told text mid
read-past None mid text h long = h
read-past (Some bytes) mid text h long =
    let front : take (max_source + 1) bytes ≡ text = ap (take (max_source + 1)) h.2 ∙ ap (λ n. take n (text ++ h.0)) (sym long) ∙ take-append_seam text h.0 in
    let behind : drop (max_source + 1) bytes ≡ h.0 = ap (drop (max_source + 1)) h.2 ∙ ap (λ n. drop n (text ++ h.0)) (sym long) ∙ drop-append_seam text h.0 in
    (sym front, h.1 ∙ ap Some (sym behind))

module _ (told mid : Option (List ℕ)) (text : List ℕ) (count count_mid count_now : ℕ) (so_far : ReadSoFar told text mid count count_mid) where
  pub is-read-ended : (now : Option (List ℕ)) (old new : List ℕ) → Takes mid took.End old new now → IsRead (call told now count count_now) text
  is-read-ended now old new g = is-read told now text count count_now so_far.within (read-ended told mid now text old new so_far.front so_far.within g)

  pub is-read-nothing : (now : Option (List ℕ)) (room : ℕ) (buffer new : List ℕ) (n : ℕ) → n ≡ 0 → 0 < room → 0 < length buffer → Takes mid (took.Bytes n) (take room buffer) new now → IsRead (call told now count count_now) text
  is-read-nothing now room buffer new n zero some long g =
      let fits : length (take room buffer) ≡ min room (length buffer) = length-take room buffer in
      is-read told now text count count_now so_far.within (read-nothing told mid now text (take room buffer) new so_far.front so_far.within (omega (arith, fits, some, long)) (subst (λ k. Takes mid (took.Bytes k) (take room buffer) new now) zero g))

  pub is-read-past : max_source < length text → IsRead (call told mid count count_now) text
  is-read-past long = is-read told mid text count count_now so_far.within (read-past told mid text so_far.front (omega (arith, so_far.within, long)))

-- what is left after a fault, or where the text has no room for what was taken

front-within : (bytes text rest : List ℕ) (n : ℕ) → bytes ≡ text ++ rest → drop n rest ≡ drop (length text + n) bytes
front-within bytes text rest n is = sym (ap (drop (length text + n)) is ∙ drop-append-add text rest n)

left-failed : (told mid now : Option (List ℕ)) (text old new : List ℕ) (count count_now : ℕ) → SoFar told text mid → length text ≤ max_source + 1 → Takes mid took.Failed old new now → IsReadWithin (max_source + 1) (call told now count count_now)
left-failed None mid now text old new count count_now h short g = record {
  count = 0;
  within = omega arith;
  left = subst (λ m. Takes m took.Failed old new now) h g;
}
left-failed (Some bytes) mid now text old new count count_now h short g =
    let kept = subst (λ m. Takes m took.Failed old new now) h.1 g in record {
      count = length text;
      within = short;
      left = kept ∙ ap Some (front-within bytes text h.0 0 h.2 ∙ ap (λ n. drop n bytes) (add-zero (length text)));
    }

left-taken : (told mid now : Option (List ℕ)) (text old new : List ℕ) (n count count_now : ℕ) → SoFar told text mid → length text + n ≤ max_source + 1 → Takes mid (took.Bytes n) old new now → IsReadWithin (max_source + 1) (call told now count count_now)
left-taken None mid now text old new n count count_now h short g = record {
  count = 0;
  within = omega arith;
  left = subst (λ m. Takes m (took.Bytes n) old new now) h g;
}
left-taken (Some bytes) mid now text old new n count count_now h short g =
    let taken = subst (λ m. Takes m (took.Bytes n) old new now) h.1 g in record {
      count = length text + n;
      within = short;
      left = taken.left ∙ ap Some (front-within bytes text h.0 n h.2);
    }

module _ (told mid : Option (List ℕ)) (text : List ℕ) (count count_mid count_now : ℕ) (so_far : ReadSoFar told text mid count count_mid) where
  pub is-left-failed : (now : Option (List ℕ)) (old new : List ℕ) → Takes mid took.Failed old new now → IsReadWithin (max_source + 1) (call told now count count_now)
  is-left-failed now old new g = left-failed told mid now text old new count count_now so_far.front so_far.within g

  pub is-left-taken : (now : Option (List ℕ)) (room : ℕ) (buffer new : List ℕ) (n : ℕ) → length text + room ≤ max_source + 1 → n ≤ length (take room buffer) → Takes mid (took.Bytes n) (take room buffer) new now → IsReadWithin (max_source + 1) (call told now count count_now)
  is-left-taken now room buffer new n short few g =
      let fits : length (take room buffer) ≡ min room (length buffer) = length-take room buffer in
      left-taken told mid now text (take room buffer) new n count count_now so_far.front (omega (arith, fits, short, few)) g
