-- The runs of a mask, one behind the other.
use Rattle.std.proofs.Common.{◌≡◌, ℕ, suc, ◌+◌, ◌/◌, ◌%◌, ◌<◌, ◌≤◌, Bool, true, false, ◌==◌, if◌then◌else◌, nat_lt, List, [], ◌∷◌, ◌++◌, length, drop, get_or, refl, sym, ap, ◌∙◌, arith, append_assoc, drop-cons, add-one, append-nil}
use Rattle.std.specs.Prelude.{decimal}
use Rattle.std.proofs.Math.Seq.{drop-length}
use Rattle.std.proofs.lemmas.Bool.{le-ltb, lt-ltb, ltb-true, ltb-false}
use Rattle.std.proofs.lemmas.Fmt.{decimal_by_steps}
use Rattle.edit_fields.specs.Laws.{count_text, printed_from}
use Rattle.edit_fields.specs.Laws as masks
use Rattle.edit_fields.proofs.BranchLemmas.{then_taken, else_taken}
use Rattle.cob_base.specs.Bytes.{left_parenthesis, right_parenthesis}
use Rattle.cobol_print.specs.units.Picture.{run_text}

-- these digits are a count of up to three
abbrev Counts : ℕ → List ℕ → Type 0
Counts m ds = m < 1000 → (more : List ℕ) → count_text m more ≡ ds ++ more

-- a count of up to three digits is written in decimal digits
count-is : (count : ℕ) → count < 1000 → (more : List ℕ) → count_text count more ≡ decimal count ++ more
count-is count small = decimal_by_steps Counts one step count (omega (arith, small)) small
  where
    one : (m : ℕ) → m < 10 → Counts m ((48 + m) ∷ [])
    one m h less more = then_taken (nat_lt m 10) ((48 + m) ∷ more) _ (lt-ltb m 10 h)

    -- the last digit stands behind the others
    last : (m : ℕ) → 10 ≤ m → m < 1000 → (more : List ℕ) → count_text m more ≡ count_text (m / 10) ((48 + m % 10) ∷ more)
    last m large less more =
        else_taken (nat_lt m 10) ((48 + m) ∷ more) _ (le-ltb m 10 large) ∙ go (nat_lt m 100) refl
      where
        rest : List ℕ
        rest = (48 + m % 10) ∷ more

        go : (b : Bool) → nat_lt m 100 ≡ b →
            (if b then (48 + m / 10) ∷ rest else (48 + m / 10 / 10) ∷ (48 + m / 10 % 10) ∷ rest) ≡ count_text (m / 10) rest
        go true e =
            let few : m < 100 = ltb-true m 100 e in
            sym (then_taken (nat_lt (m / 10) 10) ((48 + m / 10) ∷ rest) _ (lt-ltb (m / 10) 10 (omega (arith, few))))
        go false e =
            let many : 100 ≤ m = ltb-false m 100 e in
            sym (else_taken (nat_lt (m / 10) 10) ((48 + m / 10) ∷ rest) _ (le-ltb (m / 10) 10 (omega (arith, many)))
            ∙ then_taken (nat_lt (m / 10) 100) ((48 + m / 10 / 10) ∷ (48 + m / 10 % 10) ∷ rest) _ (lt-ltb (m / 10) 100 (omega (arith, less))))

    step : (m : ℕ) (ds : List ℕ) → 10 ≤ m → Counts (m / 10) ds → Counts m (ds ++ (48 + m % 10) ∷ [])
    step m ds large before less more =
        last m large less more ∙ before (omega (arith, less)) ((48 + m % 10) ∷ more)
        ∙ sym (append_assoc ds ((48 + m % 10) ∷ []) more)

-- a run as it is added
pub run-is : (symbol run : ℕ) → run < 1000 → (more : List ℕ) → masks.run_text symbol run more ≡ run_text symbol run ++ more
run-is symbol run small more = go (run == 1)
  where
    counted : count_text run (right_parenthesis ∷ more) ≡ (decimal run ++ right_parenthesis ∷ []) ++ more
    counted = count-is run small (right_parenthesis ∷ more) ∙ sym (append_assoc (decimal run) (right_parenthesis ∷ []) more)

    go : (b : Bool) →
        (if b then symbol ∷ more else symbol ∷ left_parenthesis ∷ count_text run (right_parenthesis ∷ more))
        ≡ (symbol ∷ (if b then [] else left_parenthesis ∷ decimal run ++ right_parenthesis ∷ [])) ++ more
    go true = refl
    go false = ap (λ l. symbol ∷ left_parenthesis ∷ l) counted

-- the run goes on
pub run-on : (text all rest : List ℕ) (symbol run at : ℕ) → at < length rest → (symbol == get_or rest at 0) ≡ true →
    text ++ printed_from symbol run (drop at rest) ≡ all → text ++ printed_from symbol (run + 1) (drop (at + 1) rest) ≡ all
unfolding printed_from
run-on text all rest symbol run at inside same e =
    ap (λ k. text ++ printed_from symbol (run + 1) (drop k rest)) (add-one at)
    ∙ ap (λ l. text ++ l) (sym (then_taken (symbol == get_or rest at 0) (printed_from symbol (run + 1) (drop (suc at) rest)) _ same))
    ∙ ap (λ l. text ++ printed_from symbol run l) (sym (drop-cons rest at 0 inside)) ∙ e

-- another run begins
pub run-ends : (text new all rest : List ℕ) (symbol run at : ℕ) → at < length rest → run < 1000 → (symbol == get_or rest at 0) ≡ false →
    new ≡ text ++ run_text symbol run → text ++ printed_from symbol run (drop at rest) ≡ all →
    new ++ printed_from (get_or rest at 0) 1 (drop (at + 1) rest) ≡ all
unfolding printed_from
run-ends text new all rest symbol run at inside small other is e =
    let behind : List ℕ = printed_from (get_or rest at 0) 1 (drop (suc at) rest) in
    ap (λ k. new ++ printed_from (get_or rest at 0) 1 (drop k rest)) (add-one at)
    ∙ ap (λ l. l ++ behind) is ∙ append_assoc text (run_text symbol run) behind
    ∙ ap (λ l. text ++ l) (sym (run-is symbol run small behind))
    ∙ ap (λ l. text ++ l) (sym (else_taken (symbol == get_or rest at 0) (printed_from symbol (run + 1) (drop (suc at) rest)) _ other))
    ∙ ap (λ l. text ++ printed_from symbol run l) (sym (drop-cons rest at 0 inside)) ∙ e

-- the last run
pub last-run : (text new all rest : List ℕ) (symbol run at : ℕ) → at ≡ length rest → run < 1000 →
    new ≡ text ++ run_text symbol run → text ++ printed_from symbol run (drop at rest) ≡ all → new ≡ all
unfolding printed_from
last-run text new all rest symbol run at past small is e =
    is ∙ ap (λ l. text ++ l) (sym (append-nil (run_text symbol run)))
    ∙ ap (λ l. text ++ l) (sym (run-is symbol run small []))
    ∙ ap (λ l. text ++ printed_from symbol run l) (sym (ap (λ k. drop k rest) past ∙ drop-length rest)) ∙ e
