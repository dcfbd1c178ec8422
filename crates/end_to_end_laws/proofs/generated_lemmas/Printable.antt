-- Generated programs can be printed.
use Rattle.std.proofs.Common.{◌≡◌, ℕ, zero, suc, ◌+◌, ◌*◌, ◌-◌, ◌<◌, ◌≤◌, Bool, true, ◌&&◌, List, [], ◌∷◌, ◌++◌, None, refl, ap, ◌∙◌, arith}
use Rattle.std.specs.Prelude.{◌^◌, false}
use Rattle.std.proofs.lemmas.Bool.{and_from}
use Rattle.cob_tree.specs.declared.calc.Calc.TheVariants as calcs
use Rattle.cob_tree.specs.declared.cond.Rel.TheVariants.{Less}
use Rattle.cob_tree.specs.declared.control.Control.TheVariants.{Once}
use Rattle.cob_tree.specs.declared.place.Expr.TheVariants.{Leaf}
use Rattle.cob_tree.specs.declared.place.Operand.TheVariants as operands
use Rattle.cob_tree.specs.declared.place.Place.{fold-roll-Place}
use Rattle.cob_tree.specs.declared.program.Sentence.{Sentence}
use Rattle.cob_tree.specs.declared.stmt.Arms.{roll-Arms}
use Rattle.cob_tree.specs.declared.stmt.Stmt.{Stmt}
use Rattle.cob_tree.specs.declared.stmt.Stmt.TheVariants.{Display, StopRun, Go, Exit}
use Rattle.grammar_laws.specs.form_results.Giving.{Each}
use Rattle.round_trip.specs.printable.Part as part
use Rattle.round_trip.specs.printable.Part.{is_printable_place, is_printable_operand}
use Rattle.round_trip.specs.printable.Statement.{is_printable_stmt, is_printable_sentence, are_printable_sentences}
use Rattle.round_trip.specs.printable.Whole.{is_printable_entry, IsPrintableParagraph, IsPrintableProgram}
use Rattle.round_trip.proofs.printable_lemmas.Made.{made-Place-operand, made-Number-operand, made-Leaf, made-Relation, made-Display, made-Arith, made-Arms, made-If, made-Perform, made-Go, made-StopRun, made-Exit}
use Rattle.program_gen.specs.Generated.{next_of, picked, counter, counter_entry, whole, count_one, jump_below, sentence, jumping, leaving, groups_of, perform_group, performs_of, main_of, generated}
use Rattle.end_to_end_laws.proofs.generated_lemmas.Names.{number-fits, gen-printable, counter-printable, group-heads, main-heads}

-- ---- statements

place-prints : is_printable_place counter ≡ true
place-prints = fold-roll-Place Bool Bool Bool Bool Bool part.expr_step part.operand_step part.place_step part.sub_step part.window_step (record { item = 0; of = []; subs = []; window = None })

item-prints : is_printable_operand (operands.Place counter) ≡ true
item-prints = made-Place-operand counter place-prints

number-prints : (n : ℕ) → n < 2 ^ 32 → is_printable_operand (operands.Number (whole n)) ≡ true
number-prints n small = made-Number-operand (whole n) (number-fits n small)

alone : (b : Bool) → b ≡ true → (b && true) ≡ true
alone b h = ap (λ x. x && true) h

display-prints : is_printable_stmt (Display (operands.Place counter ∷ []) true) ≡ true
display-prints = made-Display (operands.Place counter ∷ []) true (alone (is_printable_operand (operands.Place counter)) item-prints)

count-prints : is_printable_stmt count_one ≡ true
count-prints =
    made-Arith (calcs.Add (operands.Number (whole 1) ∷ [])) (record { place = counter; rounded = false } ∷ []) (roll-Arms (record { first = None; second = None }))
    (alone (is_printable_operand (operands.Number (whole 1))) (number-prints 1 (omega arith))) (alone (is_printable_place counter) place-prints) (made-Arms None None refl refl)

jump-prints : (bound to : ℕ) → bound < 2 ^ 32 → is_printable_stmt (jump_below bound to) ≡ true
jump-prints bound to small =
    let left = Leaf (operands.Place counter) in
    let right = Leaf (operands.Number (whole bound)) in
    made-If _ (Go to ∷ []) []
    (made-Relation left Less right (made-Leaf (operands.Place counter) item-prints) (made-Leaf (operands.Number (whole bound)) (number-prints bound small)))
    (alone (is_printable_stmt (Go to)) (made-Go to)) refl

-- ---- sentences

one-prints : (stmt : Stmt) → is_printable_stmt stmt ≡ true → is_printable_sentence (sentence stmt) ≡ true
one-prints stmt h = alone (is_printable_stmt stmt) h

more-print : (stmt : Stmt) (others : List Sentence) → is_printable_stmt stmt ≡ true → are_printable_sentences others ≡ true → are_printable_sentences (sentence stmt ∷ others) ≡ true
more-print stmt others h k = and_from (is_printable_sentence (sentence stmt)) (are_printable_sentences others) (one-prints stmt h) k

performs-print : (count group : ℕ) (others : List Sentence) → are_printable_sentences others ≡ true → are_printable_sentences (performs_of count group ++ others) ≡ true
performs-print zero group others h = h
performs-print (suc count) group others h =
    more-print (perform_group group) (performs_of count (suc group) ++ others) (made-Perform (4 * group - 3) (4 * group) Once refl) (performs-print count (suc group) others h)

-- ---- paragraphs

jumping-prints : (group number x : ℕ) → group ≤ 1249 → number < 2 ^ 32 → IsPrintableParagraph (jumping group number x)
jumping-prints group number x small few = record {
  name = group-heads group number small few;
  section = tt;
  sentences = more-print count_one (sentence (jump group x) ∷ []) count-prints (more-print (jump group x) [] (jump-prints (10 * group) (4 * group - 4 + picked x) (omega (arith, small))) refl);
}
  where
    jump : (group x : ℕ) → Stmt
    jump group x = jump_below (10 * group) (4 * group - 4 + picked x)

leaving-prints : (group : ℕ) → group ≤ 1249 → IsPrintableParagraph (leaving group)
leaving-prints group small = record {
  name = group-heads group 4 small (omega arith);
  section = tt;
  sentences = more-print Exit [] made-Exit refl;
}

groups-print : (count group x : ℕ) → group + count ≤ 1250 → Each IsPrintableParagraph (groups_of count group x)
groups-print zero group x small = tt
groups-print (suc count) group x small =
    let few : group ≤ 1249 = omega (arith, small) in (
      jumping-prints group 1 (next_of x) few (omega arith),
      (
        jumping-prints group 2 (next_of (next_of x)) few (omega arith),
        (
          jumping-prints group 3 (next_of (next_of (next_of x))) few (omega arith),
          (leaving-prints group few, groups-print count (suc group) (next_of (next_of (next_of x))) (omega (arith, small))),
        ),
      ),
    )

main-prints : (n : ℕ) → IsPrintableParagraph (main_of n)
main-prints n = record {
  name = main-heads;
  section = tt;
  sentences = performs-print n 1 (sentence (Display (operands.Place counter ∷ []) true) ∷ sentence StopRun ∷ [])
      (more-print (Display (operands.Place counter ∷ []) true) (sentence StopRun ∷ []) display-prints (more-print StopRun [] made-StopRun refl));
}

-- ---- all of it

entry-prints : is_printable_entry counter_entry ≡ true
entry-prints =
    let value = is_printable_operand (operands.Number (whole 0)) in
    ap (λ name. (((name && true) && true) && value) && true) counter-printable
    ∙ ap (λ b. b && true) (number-prints 0 (omega arith))

pub printable : (n : ℕ) → n ≤ 1249 → IsPrintableProgram (generated n)
printable n small = record {
  name = gen-printable n (omega (arith, small));
  files = refl;
  entries = alone (is_printable_entry counter_entry) entry-prints;
  paragraphs = (main-prints n, groups-print n 1 n (omega (arith, small)));
}
