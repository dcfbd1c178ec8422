-- GO TO DEPENDING as EVALUATE beside the numbers of its names.
use Rattle.std.proofs.Common.{◌≡◌, ◌≢◌, ℕ, zero, suc, ◌+◌, ◌-◌, ◌^◌, ◌<◌, ◌≤◌, nat_le, Bool, true, false, ◌&&◌, if◌then◌else◌, List, length, map, None, Some, Option, refl, ap, sym, ◌∙◌, arith, int_cmp, ◌⊎◌, inl, inr, le-leb, leb-true}
use Rattle.std.specs.Prelude.{Ok, Err, ℤ, pos, negsuc, unsigned_abs}
use Rattle.std.specs.Int.{is_positive}
use Rattle.std.proofs.lemmas.Bool.{cases_lt}
use Rattle.std.specs.Ordering.{is_eq}
use Rattle.cob_num.specs.declared.number.Dec.{Dec}
use Rattle.cob_num.specs.Decimal.{units, order_of}
use Rattle.cob_num.specs.Digits.{scale_limit}
use Rattle.cob_num.specs.Exact.{decimal, tested, fits_digits}
use Rattle.cob_num.proofs.ScaleLemmas.{order_at, units_own}
use Rattle.cob_tree.specs.declared.ending.Abend.{Abend}
use Rattle.cob_tree.specs.declared.ending.Abend.TheVariants.{BadDigits}
use Rattle.cob_tree.specs.declared.number.Number.{Number}
use Rattle.cob_tree.specs.declared.choice.Subject.TheVariants as subjects
use Rattle.cob_tree.specs.declared.place.Place.{Place}
use Rattle.cob_tree.specs.declared.place.Operand.{out-roll-Operand}
use Rattle.cob_tree.specs.declared.place.Expr.TheOpen.{Operand-F}
use Rattle.cob_store.specs.declared.area.Form.TheVariants as forms
use Rattle.cob_store.specs.declared.area.Storage.{Storage}
use Rattle.cob_store.specs.declared.spot.Spot.{Spot}
use Rattle.cob_store.specs.Answer.{Answer, and_then, there_or}
use Rattle.cob_store.specs.Number.{number_in}
use Rattle.cob_store.specs.Store.{spot_bytes, number_of}
use Rattle.cob_store.specs.Place.{Memory, reached, place_value, number_at}
use Rattle.meanings.specs.statements.Choice.{Beside, when_chosen, evaluated}
use Rattle.meanings.specs.statements.Condition.{turned}
use Rattle.meanings.specs.statements.Does.{memory_in}
use Rattle.meanings.specs.statements.Filing.{Declared}
use Rattle.meanings.specs.statements.Side.{Side, Item, Literal, item_side, valued, side_number, compared, expr_side}
use Rattle.cobol_theory.specs.cobol_meaning.Acting as acting
use Rattle.cobol_theory.specs.cobol_meaning.Acting.{name_in, arm_in}
use Rattle.cobol_theory.specs.cell_items.Cell.{number_operand}
use Rattle.cobol_theory.specs.cell_items.Laws.{IsWhole, AreNumbered, number_tests}
use Rattle.cobol_theory.proofs.cell_items_lemmas.Choices.{among, behind}
use Rattle.cobol_theory.proofs.cell_items_lemmas.Tests.{side_at, leaf-side, number-side}
use Rattle.cobol_theory.specs.cell_serving.Naming.{numbers_from}
use Rattle.cobol_theory.specs.cell_serving.Choosing.{place_expr, IsWholeItem}
use Rattle.cobol_theory.specs.cell_serving.Laws.{AreLiterals}
use Rattle.cobol_theory.proofs.cell_serving_lemmas.Numbers.{long-as, are-numbered}

-- ---- numbers without decimal places

tested-is : (value : ℤ) (scale : ℕ) (digits : Bool) (e : fits_digits value ≡ digits) (places : Bool) (h : nat_le scale scale_limit ≡ places) (number : Dec) →
    tested value scale digits e places h ≡ Some number → number.scale ≡ scale
unfolding tested
tested-is value scale true e true h number is = cc
tested-is value scale true e false h number is = cc
tested-is value scale false e places h number is = cc

number-whole : (read : Option ℤ) (number : Dec) → number_of read 0 ≡ Ok number → number.scale ≡ 0
number-whole None number is = cc
number-whole (Some value) number is = tested-is value 0 (fits_digits value) refl (nat_le 0 scale_limit) refl number (inner (decimal value 0) is)
  where
    inner : (x : Option Dec) → there_or BadDigits x ≡ Ok number → x ≡ Some number
    inner None e = cc
    inner (Some found) e = cc

order-whole : (a b : Dec) → a.scale ≡ 0 → b.scale ≡ 0 → order_of a b ≡ int_cmp a.value b.value
order-whole a b left right =
    sym (order_at a b 0 (omega (arith, left)) (omega (arith, right)) (omega arith))
    ∙ ap (λ z. int_cmp z (units b 0)) (units_own a 0 (sym left))
    ∙ ap (λ z. int_cmp a.value z) (units_own b 0 (sym right))

-- ---- which name

one-back : (v : ℕ) → v ≡ suc v - 1
one-back v = omega arith

past-one : (many names : ℕ) → many ≡ names → 1 + many - 1 ≡ names
past-one many names is = omega (arith, is)

module _ (memory : acting.Memory) (names : ℕ) where
  name-at : (number : Dec) (v : ℕ) → number.value ≡ pos (suc v) → suc v ≤ names → name_in names number ≡ v
  name-at number v is small =
      ap (λ z. if is_positive z && nat_le (unsigned_abs z) names then unsigned_abs z - 1 else names) is
      ∙ ap (λ b. if b && nat_le (suc v) names then suc v - 1 else names) (le-leb 1 (suc v) (omega arith))
      ∙ ap (λ b. if b then suc v - 1 else names) (le-leb (suc v) names small)
      ∙ omega arith

  past-names : (z : ℤ) → ((k : ℕ) → 1 ≤ k → k ≤ names → z ≢ pos k) → (if is_positive z && nat_le (unsigned_abs z) names then unsigned_abs z - 1 else names) ≡ names
  past-names (pos zero) none = refl
  past-names (negsuc n) none = refl
  past-names (pos (suc n)) none =
      ap (λ b. if b && nat_le (suc n) names then suc n - 1 else names) (le-leb 1 (suc n) (omega arith))
      ∙ elim (nat_le (suc n) names) as (λ b. nat_le (suc n) names ≡ b → (if b then suc n - 1 else names) ≡ names) [
        | true ↦ λ e. absurd (none (suc n) (omega arith) (leb-true (suc n) names e) refl)
        | false ↦ λ e. refl
      ] refl

  -- one of them, or none
  which : (z : ℤ) → ((v : ℕ) × (z ≡ pos (suc v)) × (suc v ≤ names)) ⊎ ((k : ℕ) → 1 ≤ k → k ≤ names → z ≢ pos k)
  which (pos zero) = inr (λ k from to same. let equal = ap unsigned_abs same in omega (arith, from, equal))
  which (negsuc n) = inr (λ k from to same. cc)
  which (pos (suc n)) = elim (cases_lt names (suc n)) [
    | inl more ↦ inr (λ k from to same. let equal = ap unsigned_abs same in omega (arith, more, to, equal))
    | inr small ↦ inl (n, refl, small)
  ]

module _ (declared : Declared) (literal : ℕ → Number) (worth : AreLiterals literal) (p : Place) (names : ℕ) (some : 1 ≤ names) (few : names < 10 ^ 18) (memory : acting.Memory) where
  abbrev inside : Memory
  inside = memory_in declared memory.store

  abbrev numbers : List Number
  numbers = numbers_from literal 1 names

  are : AreNumbered 18 1 numbers
  are = are-numbered literal worth 18 1 names (omega arith) (omega (arith, few))

  abbrev here : Answer ℕ
  here = and_then (place_value p inside) (λ value. and_then (valued value) (λ number. Ok (name_in names number)))

  abbrev there : Answer ℕ
  there = and_then (evaluated declared.entries inside (subjects.Value (place_expr p)) (map number_tests numbers)) arm_in

  side-is : expr_side inside (place_expr p) ≡ and_then (reached p inside) (λ r. Ok (item_side r.form (spot_bytes memory.store r.spot)))
  unfolding side_at
  side-is = leaf-side inside _ ∙ ap (side_at inside) (out-roll-Operand (Operand-F.Place p))

  unreached : (abend : Abend) → reached p inside ≡ Err abend → (here ≡ Err abend) × (there ≡ Err abend)
  unreached abend is = (
    ap (λ r. and_then (and_then r (λ r. number_at memory.store r.spot r.form)) (λ value. and_then (valued value) (λ number. Ok (name_in names number)))) is,
    ap (λ side. and_then (and_then (and_then side (λ side. Ok (Beside side))) (λ read. when_chosen declared.entries inside read 1 (map number_tests numbers))) arm_in)
        (side-is ∙ ap (λ r. and_then r (λ r. Ok (item_side r.form (spot_bytes memory.store r.spot)))) is),
  )

  module _ (spot : Spot) (signed : Bool) (whole : ℕ) (storage : Storage) (is : reached p inside ≡ Ok (record { spot = spot; form = forms.Number signed whole 0 storage })) where
    abbrev bytes : List ℕ
    bytes = spot_bytes memory.store spot

    abbrev item : Side
    item = Item signed 0 storage bytes

    abbrev read : Answer Dec
    read = number_of (number_in signed storage bytes) 0

    here-is : here ≡ and_then read (λ number. Ok (name_in names number))
    here-is =
        ap (λ r. and_then (and_then r (λ r. number_at memory.store r.spot r.form)) (λ value. and_then (valued value) (λ number. Ok (name_in names number)))) is
        ∙ by_read read
      where
        by_read : (read : Answer Dec) → and_then (and_then read (λ number. Ok (Some number))) (λ value. and_then (valued value) (λ number. Ok (name_in names number))) ≡ and_then read (λ number. Ok (name_in names number))
        by_read (Ok number) = refl
        by_read (Err abend) = refl

    there-is : there ≡ and_then (when_chosen declared.entries inside (Beside item) 1 (map number_tests numbers)) arm_in
    there-is =
        ap (λ side. and_then (and_then (and_then side (λ side. Ok (Beside side))) (λ read. when_chosen declared.entries inside read 1 (map number_tests numbers))) arm_in)
        (side-is ∙ ap (λ r. and_then r (λ r. Ok (item_side r.form (spot_bytes memory.store r.spot)))) is)

    compares : (number : Dec) → read ≡ Ok number → (lit : Number) (worth : Dec) → IsWhole lit worth 18 → compared item (Literal lit) ≡ Ok (int_cmp number.value worth.value)
    compares number got lit worth whole =
        ap (λ a. and_then a (λ first. and_then (side_number (Literal lit)) (λ second. Ok (order_of first second)))) got
        ∙ ap (λ v. and_then (valued v) (λ second. Ok (order_of number second))) whole.value
        ∙ ap Ok (order-whole number worth (number-whole (number_in signed storage bytes) number got) whole.whole)

    long : length numbers ≡ names
    long = long-as literal 1 names

    same-name : (number : Dec) → read ≡ Ok number → here ≡ there
    same-name number got =
        here-is ∙ ap (λ read. and_then read (λ number. Ok (name_in names number))) got
        ∙ elim (which memory names number.value) [
          | inl one ↦
              ap Ok (name-at memory names number one.0 one.1 one.2)
              ∙ ap Ok (one-back one.0)
              ∙ sym (ap (λ chosen. and_then chosen arm_in) (among declared.entries inside item number.value 18 (compares number got) 1 numbers are (suc one.0) one.1 (omega arith) (let small = one.2 in omega (arith, small, long))))
          | inr none ↦
              ap Ok (past-names memory names number.value none)
              ∙ sym (ap (λ chosen. and_then chosen arm_in) (behind declared.entries inside item number.value 18 (compares number got) 1 numbers are (λ k from to. none k from (omega (arith, to, long)))) ∙ ap Ok (past-one (length numbers) names long))
        ]
        ∙ sym there-is

    -- a first WHEN stands, which reads the item
    bad-name : (abend : Abend) → read ≡ Err abend → here ≡ there
    bad-name abend got =
        here-is ∙ ap (λ read. and_then read (λ number. Ok (name_in names number))) got
        ∙ sym (there-is ∙ first-bad names some)
      where
        first-bad : (names : ℕ) → 1 ≤ names → and_then (when_chosen declared.entries inside (Beside item) 1 (map number_tests (numbers_from literal 1 names))) arm_in ≡ Err abend
        first-bad zero some = absurd (omega (arith, some))
        first-bad (suc more) some =
            ap (λ low. and_then (and_then (and_then (and_then (and_then low (λ low. and_then (compared item low) (λ order. Ok (is_eq order)))) (λ test. Ok (turned false test))) (λ here. if here then Ok true else Ok false)) (λ here. if here then Ok 1 else when_chosen declared.entries inside (Beside item) 2 (map number_tests (numbers_from literal 2 more)))) arm_in)
            (leaf-side inside (number_operand (literal 1)) ∙ number-side inside (literal 1))
            ∙ ap (λ a. and_then (and_then (and_then (and_then (and_then (and_then a (λ first. and_then (side_number (Literal (literal 1))) (λ second. Ok (order_of first second)))) (λ order. Ok (is_eq order))) (λ test. Ok (turned false test))) (λ here. if here then Ok true else Ok false)) (λ here. if here then Ok 1 else when_chosen declared.entries inside (Beside item) 2 (map number_tests (numbers_from literal 2 more)))) arm_in) got

    same-by : (answer : Answer Dec) → read ≡ answer → here ≡ there
    same-by (Ok number) got = same-name number got
    same-by (Err abend) got = bad-name abend got

  pub same : IsWholeItem declared.areas.items p → here ≡ there
  same whole = elim (whole memory.store) [
    | inl bad ↦ let both = unreached bad.0 bad.1 in both.0 ∙ sym both.1
    | inr good ↦ same-by good.0 good.1 good.2 good.3 good.4 (number_of (number_in good.1 good.3 (spot_bytes memory.store good.0)) 0) refl
  ]
