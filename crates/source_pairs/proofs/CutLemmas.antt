-- The cut of two programs, as it is found from the front.
use Rattle.std.proofs.Common.{ℕ, zero, suc, ◌≡◌, ◌+◌, ◌<◌, ◌≤◌, inl, inr, Bool, true, false, ◌==◌, if◌then◌else◌, replicate, List, [], ◌∷◌, ◌++◌, length, take, drop, get_or, reverse, Some, None, refl, sym, ap, ◌∙◌, subst, arith}
use Rattle.std.proofs.lemmas.Bool.{eq-eqb, eqb-true}
use Rattle.std.proofs.lemmas.List.{drop-drop, drop_at, length-append, length-take-le, reverse-append, take-append-drop, take_at, take_more}
use Rattle.std.proofs.lemmas.Bool.Decides.{eqb_tells}
use Rattle.cob_base.specs.Bytes.{line_feed}
use Rattle.source_pairs.specs.Cut.{BeginsLine, IsBar, IsCut, IsUncut, bar, bar_length, carriage_return, end_length, equals, return_length, signs_length}

-- ---- the line of the cut

none-some : (n : ℕ) → None ≡ Some n → ⊥
none-some n h = cc

-- where the bytes have so many `=` first, their end is behind them
signs-end : (more : ℕ) (bytes : List ℕ) (n : ℕ) → signs_length more bytes ≡ Some n →
    (behind : List ℕ) × (bytes ≡ replicate more equals ++ behind) × (end_length behind ≡ Some n)
signs-end zero bytes n h = (bytes, refl, h)
signs-end (suc more) [] n h = absurd (none-some n h)
signs-end (suc more) (byte ∷ bytes) n h = by-test (byte == equals) (eqb-true byte equals) (signs-end more bytes n) h where
  by-test : (a : Bool) → (a ≡ true → byte ≡ equals) →
      (signs_length more bytes ≡ Some n → (behind : List ℕ) × (bytes ≡ replicate more equals ++ behind) × (end_length behind ≡ Some n)) →
      (if a then signs_length more bytes else None) ≡ Some n →
      (behind : List ℕ) × (byte ∷ bytes ≡ replicate (suc more) equals ++ behind) × (end_length behind ≡ Some n)
  by-test true is later h =
      let r = later h in
      (r.0, ap (λ b. b ∷ bytes) (is refl) ∙ ap (λ bs. equals ∷ bs) r.1, r.2)
  by-test false is later h = absurd (none-some n h)

-- the bytes begin with the line, which has so many
abbrev BarOf : List ℕ → ℕ → Type 0
BarOf bytes n = IsBar bytes (drop n bytes) × (n ≤ length bytes)

-- they are these, and it is that number
bar-of : (bytes whole : List ℕ) (n k : ℕ) → bytes ≡ whole → Some k ≡ Some n → BarOf whole k → BarOf bytes n
bar-of bytes whole n k is found h =
    let same : k ≡ n = cc in
    subst (λ w. BarOf w n) (sym is) (subst (λ m. BarOf whole m) same h)

end-bar : (bytes behind : List ℕ) (n : ℕ) → bytes ≡ bar ++ behind → end_length behind ≡ Some n → BarOf bytes n
end-bar bytes [] n is h = bar-of bytes bar n 6 is h (inr (inr (refl, refl)), omega arith)
end-bar bytes (byte ∷ behind) n is h = by-test (byte == line_feed) (byte == carriage_return) (eqb-true byte line_feed) (eqb-true byte carriage_return) h where
  returned : (rest : List ℕ) → bytes ≡ bar ++ carriage_return ∷ rest → return_length rest ≡ Some n → BarOf bytes n
  returned [] is h = absurd (none-some n h)
  returned (next ∷ rest) is h = by-next (next == line_feed) (eqb-true next line_feed) h where
    by-next : (a : Bool) → (a ≡ true → next ≡ line_feed) → (if a then Some 8 else None) ≡ Some n → BarOf bytes n
    by-next true feed h = bar-of bytes (bar ++ carriage_return ∷ line_feed ∷ rest) n 8 (is ∙ ap (λ b. bar ++ carriage_return ∷ b ∷ rest) (feed refl)) h (inr (inl refl), omega arith)
    by-next false feed h = absurd (none-some n h)

  by-test : (a b : Bool) → (a ≡ true → byte ≡ line_feed) → (b ≡ true → byte ≡ carriage_return) → (if a then Some 7 else if b then return_length behind else None) ≡ Some n → BarOf bytes n
  by-test true b feed return h = bar-of bytes (bar ++ line_feed ∷ behind) n 7 (is ∙ ap (λ b. bar ++ b ∷ behind) (feed refl)) h (inl refl, omega arith)
  by-test false true feed return h = returned behind (is ∙ ap (λ b. bar ++ b ∷ behind) (return refl)) h
  by-test false false feed return h = absurd (none-some n h)

-- where the length of the line is known, it is the line
pub length-bar : (bytes : List ℕ) (n : ℕ) → bar_length bytes ≡ Some n → BarOf bytes n
length-bar bytes n h = let r = signs-end 6 bytes n h in end-bar bytes r.0 n r.1 r.2

-- where the bytes begin with the line, its length is known
pub bar-length : (bytes behind : List ℕ) → IsBar bytes behind → (n : ℕ) × (bar_length bytes ≡ Some n) × (behind ≡ drop n bytes)
bar-length bytes behind (inl is) = (7, ap bar_length is, sym (ap (drop 7) is))
bar-length bytes behind (inr (inl is)) = (8, ap bar_length is, sym (ap (drop 8) is))
bar-length bytes behind (inr (inr is)) = (6, ap bar_length is.0, is.1 ∙ sym (ap (drop 6) is.0))

-- where it isn't known, the bytes don't begin with the line
pub none-no_bar : (bytes behind : List ℕ) → bar_length bytes ≡ None → IsBar bytes behind → ⊥
none-no_bar bytes behind h is = let known = bar-length bytes behind is in none-some known.0 (sym h ∙ known.1)

-- what is behind the line is one
pub bars-one : (bytes behind other : List ℕ) → IsBar bytes behind → IsBar bytes other → behind ≡ other
bars-one bytes behind other one two =
    let known = bar-length bytes behind one in
    let again = bar-length bytes other two in
    let found : Some known.0 ≡ Some again.0 = sym known.1 ∙ again.1 in
    let same : known.0 ≡ again.0 = cc in
    known.2 ∙ ap (λ n. drop n bytes) same ∙ sym again.2

-- ---- lines

-- the last of some bytes
last-byte : (front back : List ℕ) (b c : ℕ) → front ++ b ∷ [] ≡ back ++ c ∷ [] → b ≡ c
last-byte front back b c h =
    sym (ap (λ l. get_or l 0 0) (reverse-append front (b ∷ []))) ∙ ap (λ l. get_or (reverse l) 0 0) h
    ∙ ap (λ l. get_or l 0 0) (reverse-append back (c ∷ []))

-- a line begins behind a line feed
begins-behind : (bytes : List ℕ) (at : ℕ) → at < length bytes → get_or bytes at 0 ≡ line_feed → BeginsLine (take (at + 1) bytes)
begins-behind bytes at within h =
    inr (take at bytes, take_more bytes at 0 within ∙ ap (λ b. take at bytes ++ b ∷ []) h)

-- and behind another byte none does
begins-only : (bytes : List ℕ) (at : ℕ) → at < length bytes → BeginsLine (take (at + 1) bytes) → get_or bytes at 0 ≡ line_feed
begins-only bytes at within (inl none) =
    let long : length (take (at + 1) bytes) ≡ at + 1 = length-take-le (at + 1) bytes (omega arith) in
    let short : length (take (at + 1) bytes) ≡ 0 = ap length none in
    absurd (omega (arith, long, short))
begins-only bytes at within (inr (front, is)) =
    last-byte (take at bytes) front (get_or bytes at 0) line_feed (sym (take_more bytes at 0 within) ∙ is)

-- ---- as it is found

-- no line of the cut begins among so many bytes at the front; whether a line begins behind them is
-- known
pub record NoneBefore (bytes : List ℕ) (at : ℕ) (at_line : Bool) : Type 0 where
  pub begins : at_line ≡ true → BeginsLine (take at bytes)
  pub only : BeginsLine (take at bytes) → at_line ≡ true
  pub least : (before rest behind : List ℕ) → bytes ≡ before ++ rest → BeginsLine before →
      IsBar rest behind → at ≤ length before

-- none is before the first byte
pub none-first : (bytes : List ℕ) → NoneBefore bytes 0 true
none-first bytes = record {
  begins = λ h. inl refl;
  only = λ h. refl;
  least = λ before rest behind is begins here. omega arith;
}

-- where none begins at the next byte either, none is before the byte after it
pub none-more : (bytes : List ℕ) (at : ℕ) (at_line : Bool) → at < length bytes → NoneBefore bytes at at_line →
    (at_line ≡ true → bar_length (drop at bytes) ≡ None) → NoneBefore bytes (at + 1) (get_or bytes at 0 == line_feed)
none-more bytes at at_line within none here = record {
  begins = λ h. begins-behind bytes at within (eqb-true _ _ h);
  only = λ h. eq-eqb _ _ (begins-only bytes at within h);
  least = more;
} where
  more : (before rest behind : List ℕ) → bytes ≡ before ++ rest → BeginsLine before → IsBar rest behind → at + 1 ≤ length before
  more before rest behind is begins bar = elim (eqb_tells (length before) at) [
    | inl same ↦
        let front : take at bytes ≡ before = ap (take at) is ∙ take_at before rest at same.1 in
        let back : drop at bytes ≡ rest = ap (drop at) is ∙ drop_at before rest at same.1 in
        absurd (none-no_bar rest behind (ap bar_length (sym back) ∙ here (none.only (subst BeginsLine (sym front) begins))) bar)
    | inr other ↦ let least : at ≤ length before = none.least before rest behind is begins bar in omega (arith, least, other.1)
  ]

-- where the line begins at this byte, the bytes are cut there
pub cut-here : (bytes : List ℕ) (at n : ℕ) → at < length bytes → NoneBefore bytes at true → bar_length (drop at bytes) ≡ Some n →
    IsCut bytes (take at bytes) (drop (at + n) bytes)
cut-here bytes at n within none found = record {
  rest = drop at bytes;
  whole = sym (take-append-drop at bytes);
  begins = none.begins refl;
  here = subst (IsBar (drop at bytes)) (drop-drop n at bytes) (length-bar (drop at bytes) n found).0;
  least = λ before rest behind is begins bar. let least : at ≤ length before = none.least before rest behind is begins bar in omega (arith, least, length-take-le at bytes (omega arith));
}

-- where none begins before the end, there is none
pub uncut-end : (bytes : List ℕ) (at_line : Bool) → NoneBefore bytes (length bytes) at_line → IsUncut bytes
uncut-end bytes at_line none before rest behind is begins here =
    let least : length bytes ≤ length before = none.least before rest behind is begins here in
    let whole : length bytes ≡ length before + length rest = ap length is ∙ length-append before rest in
    let empty : length rest ≡ 0 = omega (arith, least, whole) in
    none-no_bar_empty rest behind empty here where
      none-no_bar_empty : (rest behind : List ℕ) → length rest ≡ 0 → IsBar rest behind → ⊥
      none-no_bar_empty rest behind empty (inl is) = omega (arith, empty, ap length is)
      none-no_bar_empty rest behind empty (inr (inl is)) = omega (arith, empty, ap length is)
      none-no_bar_empty rest behind empty (inr (inr is)) = omega (arith, empty, ap length is.0)

-- ---- one cut

module _ (bytes first second other behind : List ℕ) (one : IsCut bytes first second) (two : IsCut bytes other behind) where
  same-length : length first ≡ length other
  same-length =
      let front : length first ≤ length other = one.least other two.rest behind two.whole two.begins two.here in
      let back : length other ≤ length first = two.least first one.rest second one.whole one.begins one.here in
      omega (arith, front, back)

  pub cuts-first : first ≡ other
  cuts-first = sym (take_at first one.rest (length first) refl) ∙ ap (take (length first)) (sym one.whole ∙ two.whole) ∙ take_at other two.rest (length first) (sym same-length)

  pub cuts-second : second ≡ behind
  cuts-second =
      let rests : one.rest ≡ two.rest = sym (drop_at first one.rest (length first) refl) ∙ ap (drop (length first)) (sym one.whole ∙ two.whole) ∙ drop_at other two.rest (length first) (sym same-length) in
      bars-one two.rest second behind (subst (λ r. IsBar r second) rests one.here) two.here

pub cut-uncut : (bytes first second : List ℕ) → IsCut bytes first second → IsUncut bytes → ⊥
cut-uncut bytes first second one none = none first one.rest second one.whole one.begins one.here
