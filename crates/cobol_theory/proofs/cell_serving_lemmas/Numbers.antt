-- Numbers of items, and the cells that they stand for.
use Rattle.std.proofs.Common.{◌≡◌, ℕ, zero, suc, ◌+◌, ◌-◌, ◌%◌, ◌^◌, ◌<◌, ◌≤◌, Bool, true, false, length, refl, ap, sym, subst, ◌∙◌, arith, int_cmp, nat_le, le-leb, leb-true, cond, inl, inr, Less, Equal, Greater}
use Rattle.std.specs.Prelude.{ℤ, pos, negsuc, neg_ℤ, ◌-ℤ◌, ◌==◌, unsigned_abs, if◌then◌else◌}
use Rattle.std.specs.Int.{is_positive}
use Rattle.std.specs.Cmp.{signed_Decides}
use Rattle.std.specs.Ordering.{is_eq, is_gt, int_eq}
use Rattle.std.proofs.lemmas.Bool.Decides.{eqb_tells}
use Rattle.std.proofs.Math.IntN.{ -ℤ_one}
use Rattle.std.proofs.Math.Nat.{mod-lt, mod-eq_of_lt}
use Rattle.cob_num.specs.Storing.{with_sign}
use Rattle.control_flow_theory.specs.semantics.Doing.{is_above}
use Rattle.cobol_theory.specs.stored_numbers.Laws.{Fits}
use Rattle.cobol_theory.specs.cell_items.Laws.{less_in, AreNumbered}
use Rattle.cobol_theory.specs.cell_serving.Table.{left_of}
use Rattle.cobol_theory.specs.cell_serving.Naming.{numbers_from}
use Rattle.cobol_theory.specs.cell_serving.Laws.{AreLiterals}
use Rattle.cob_tree.specs.declared.number.Number.{Number}

false-le : (a b : ℕ) → b < a → nat_le a b ≡ false
false-le a b less = elim (nat_le a b) as (λ t. nat_le a b ≡ t → t ≡ false) [
  | true ↦ λ e. let more = leb-true a b e in absurd (omega (arith, less, more))
  | false ↦ λ e. refl
] refl

-- without a sign, it is the cell's value
pub unsigned-is : (digits : ℕ) (number : ℤ) (value : ℕ) → Fits false digits number → left_of number ≡ value → number ≡ pos value
unsigned-is digits (pos n) value fits is = ap pos is
unsigned-is digits (negsuc n) value fits is = cc

pub pos-fits : (signed : Bool) (digits n : ℕ) → n < 10 ^ digits → Fits signed digits (pos n)
pos-fits true digits n less = less
pos-fits false digits n less = (less, false-le (suc n) 0 (omega arith))

-- so often TIMES runs its body
pub turns-left : (value : ℤ) → (if is_positive value then unsigned_abs value else 0) ≡ left_of value
turns-left (pos zero) = refl
turns-left (pos (suc n)) = ap (λ b. if b then suc n else 0) (le-leb 1 (suc n) (omega arith))
turns-left (negsuc n) = refl

-- ---- comparisons

pub same-value : (m n : ℕ) → is_eq (int_cmp (pos m) (pos n)) ≡ (m == n)
same-value m n = elim (eqb_tells m n) [
  | inl same ↦ (signed_Decides (pos m) (pos n)).1 (ap pos same.1) ∙ sym same.0
  | inr other ↦ elim (int_eq (pos m) (pos n)) as (λ t. int_eq (pos m) (pos n) ≡ t → t ≡ (m == n)) [
    | true ↦ λ e. absurd (other.1 (ap unsigned_abs ((signed_Decides (pos m) (pos n)).0 e)))
    | false ↦ λ e. sym other.0
  ] refl
]

pub above-zero : (number : ℤ) (value : ℕ) → left_of number ≡ value → is_gt (int_cmp number (pos 0)) ≡ is_above value
above-zero (pos zero) value is = ap is_above is
above-zero (pos (suc n)) value is =
    ap (λ b. is_gt (cond b Less (cond (nat_le 1 (suc n)) Greater Equal))) (false-le (suc (suc n)) 0 (omega arith))
    ∙ ap (λ b. is_gt (cond b Greater Equal)) (le-leb 1 (suc n) (omega arith))
    ∙ ap is_above is
above-zero (negsuc n) value is = ap is_above is

-- ---- one less

less-of-none : (k : ℕ) → left_of (neg_ℤ (pos k)) ≡ 0
less-of-none zero = refl
less-of-none (suc k) = refl

pub less-left : (digits : ℕ) (number : ℤ) → unsigned_abs number < 10 ^ digits → left_of (less_in digits number (pos 1)) ≡ left_of number - 1
less-left digits (pos zero) fits = less-of-none (1 % 10 ^ digits)
less-left digits (pos (suc n)) fits =
    ap (λ z. left_of (with_sign z (unsigned_abs z % 10 ^ digits))) (one-less n) ∙ mod-eq_of_lt (omega (arith, fits)) ∙ omega arith
  where
    one-less : (n : ℕ) → pos (suc n) -ℤ pos 1 ≡ pos n
    one-less n = -ℤ_one (pos (suc n))
less-left digits (negsuc n) fits = less-of-none (unsigned_abs (negsuc n -ℤ pos 1) % 10 ^ digits)

with-sign-size : (z : ℤ) (k : ℕ) → unsigned_abs (with_sign z k) ≡ k
with-sign-size (pos n) k = refl
with-sign-size (negsuc n) zero = refl
with-sign-size (negsuc n) (suc k) = refl

pub less-fits : (digits : ℕ) (number : ℤ) → 0 < 10 ^ digits → Fits true digits (less_in digits number (pos 1))
less-fits digits number some =
    subst (λ k. k < 10 ^ digits) (sym (with-sign-size (number -ℤ pos 1) (unsigned_abs (number -ℤ pos 1) % 10 ^ digits))) (mod-lt (unsigned_abs (number -ℤ pos 1)) some)

-- ---- literals

pub long-as : (literal : ℕ → Number) (first more : ℕ) → length (numbers_from literal first more) ≡ more
long-as literal first zero = refl
long-as literal first (suc more) = ap suc (long-as literal (suc first) more)

pub are-numbered : (literal : ℕ → Number) (are : AreLiterals literal) (digits first more : ℕ) → digits ≤ 18 → first + more ≤ 10 ^ digits → AreNumbered digits first (numbers_from literal first more)
are-numbered literal are digits first zero short room = tt
are-numbered literal are digits first (suc more) short room = (are digits first short (omega (arith, room)), are-numbered literal are digits (suc first) more short (omega (arith, room)))
