-- Ranges that were sorted by entry and exit are in their order.
use Rattle.std.proofs.Common.{◌≡◌, ◌==◌, ◌||◌, ◌&&◌, nat_lt, ◌+◌, ◌<◌, ◌≤◌, ℕ, zero, suc, Bool, true, false, List, [], ◌∷◌, ◌++◌, map, length, get_or, Option, Some, None, slice_get, refl, ap, sym, ◌∙◌, subst, ◌⊎◌, inl, inr, arith, All, Ordering, Less, Equal, Greater}
use denote.Param.Members.{Mut}
use denote.Ref.{Bor}
use Rattle.std.specs.Fn.{Called, ComputesKey}
use Rattle.std.specs.Ordering.{is_lt, nat_cmp, ordering_then}
use Rattle.std.specs.Option.{option_cmp}
use Rattle.std.specs.Cmp.{nat_cmp_is}
use Rattle.std.specs.List.Sorted.{IsPermutation, IsSortedByKey}
use Rattle.std.proofs.lemmas.Fn.{always_returns_same}
use Rattle.std.proofs.lemmas.List.Sorted.{All-permutation}
use Rattle.std.proofs.lemmas.Option.{slice_get-get_or}
use Rattle.cob_tree.specs.declared.choice.Test.{Test}
use Rattle.cob_tree.specs.declared.program.Sentence.{Sentence}
use Rattle.cob_tree.specs.declared.program.Paragraph.{Paragraph}
use Rattle.cob_tree.specs.declared.program.Range.{Range}
use Rattle.cob_tree.specs.declared.stmt.Arms.{Arms, roll-Arms, map-Arms, fold-roll-Arms}
use Rattle.cob_tree.specs.declared.stmt.When.{When, roll-When, map-When, fold-roll-When}
use Rattle.cob_tree.specs.declared.stmt.Stmt.{Stmt, ind-Stmt, map-Stmt, roll-Stmt, fold-roll-Stmt}
use Rattle.cob_tree.specs.declared.stmt.Stmt.TheOpen.{Stmt-F, Arms-F, When-F}
use Rattle.program_points.specs.perform_ranges.Named.{named_step, arms_step, when_step, named_stmt, named_arms, named_when, named_stmts, named_sentence, named_paragraph, named_paragraphs, joined, pair_before, exit_before, is_before, main_range, Has, IsNext, IsInOrder}
use Rattle.program_points.proofs.perform_ranges_lemmas.Ordered.{is-pair-less, is-pair-same, get-below, has-all}

-- ---- a range that is named has an exit

abbrev pub Exits : Range → Type 0
Exits range = (exit : ℕ) × (range.exit ≡ Some exit)

abbrev pub AllExit : List Range → Type 0
AllExit [] = Unit {0}
AllExit (range ∷ ranges) = Exits range × AllExit ranges

both-exit : (xs ys : List Range) → AllExit xs → AllExit ys → AllExit (xs ++ ys)
both-exit [] ys h g = g
both-exit (x ∷ xs) ys h g = (h.0, both-exit xs ys h.1 g)

exit-at : (xs : List Range) (n : ℕ) (range : Range) → AllExit xs → slice_get xs n ≡ Some range → Exits range
exit-at [] n range h e = absurd (let k : ⊥ = cc in k)
exit-at (x ∷ xs) zero range h e = (let k : x ≡ range = cc in subst Exits k h.0)
exit-at (x ∷ xs) (suc n) range h e = exit-at xs n range h.1 e

abbrev StmtExits : Stmt → Type 0
StmtExits stmt = AllExit (named_stmt stmt)

abbrev ArmsExit : Arms → Type 0
ArmsExit arms = AllExit (named_arms arms)

abbrev WhenExits : When → Type 0
WhenExits when = AllExit (named_when when)

abbrev SuchStmt : Type 0
SuchStmt = (stmt : Stmt) × StmtExits stmt

abbrev SuchArms : Type 0
SuchArms = (arms : Arms) × ArmsExit arms

abbrev SuchWhen : Type 0
SuchWhen = (when : When) × WhenExits when

abbrev plain : List SuchStmt → List Stmt
plain stmts = map (λ e. e.0) stmts

stmts-exit : (xs : List SuchStmt) → AllExit (named_stmts (plain xs))
stmts-exit [] = tt
stmts-exit (x ∷ xs) = both-exit (named_stmt x.0) (named_stmts (plain xs)) x.1 (stmts-exit xs)

whens-exit : (xs : List SuchWhen) → AllExit (joined (map named_when (map (λ e. e.0) xs)))
whens-exit [] = tt
whens-exit (x ∷ xs) = both-exit (named_when x.0) (joined (map named_when (map (λ e. e.0) xs))) x.1 (whens-exit xs)

abbrev mapped : Stmt-F SuchStmt SuchArms SuchWhen → Stmt-F Stmt Arms When
mapped = map-Stmt SuchStmt SuchArms SuchWhen Stmt Arms When (λ e. e.0) (λ e. e.0) (λ e. e.0)

abbrev named : Stmt-F Stmt Arms When → List Range
named y = named_step (map-Stmt Stmt Arms When (List Range) (List Range) (List Range) named_stmt named_arms named_when y)

step-exits : (y : Stmt-F SuchStmt SuchArms SuchWhen) → AllExit (named (mapped y))
step-exits (Stmt-F.Display texts advance) = tt
step-exits (Stmt-F.Move from to) = tt
step-exits (Stmt-F.Arith calc into arms) = arms.1
step-exits (Stmt-F.SetTrue place) = tt
step-exits (Stmt-F.Opens openings) = tt
step-exits (Stmt-F.Closes files) = tt
step-exits (Stmt-F.Read file into arms) = arms.1
step-exits (Stmt-F.Write entry from) = tt
step-exits (Stmt-F.Rewrite entry from) = tt
step-exits (Stmt-F.If cond met unmet) = both-exit (named_stmts (plain met)) (named_stmts (plain unmet)) (stmts-exit met) (stmts-exit unmet)
step-exits (Stmt-F.Evaluate subject whens None) = both-exit (joined (map named_when (map (λ e. e.0) whens))) [] (whens-exit whens) tt
step-exits (Stmt-F.Evaluate subject whens (Some other)) = both-exit (joined (map named_when (map (λ e. e.0) whens))) (named_stmts (plain other)) (whens-exit whens) (stmts-exit other)
step-exits (Stmt-F.Loop control body) = stmts-exit body
step-exits (Stmt-F.Perform entry exit control) = ((exit, refl), tt)
step-exits (Stmt-F.Go to) = tt
step-exits (Stmt-F.GoDepending to on) = tt
step-exits Stmt-F.NextSentence = tt
step-exits Stmt-F.StopRun = tt
step-exits Stmt-F.Exit = tt
step-exits Stmt-F.ExitParagraph = tt
step-exits Stmt-F.ExitSection = tt
step-exits (Stmt-F.ExitPerform cycle) = tt
step-exits Stmt-F.Continue = tt

layer : (y : Stmt-F SuchStmt SuchArms SuchWhen) → StmtExits (roll-Stmt (mapped y))
layer y = subst AllExit (sym (fold-roll-Stmt (List Range) (List Range) (List Range) named_step arms_step when_step (mapped y))) (step-exits y)

abbrev mapped_arms : Arms-F SuchStmt SuchArms SuchWhen → Arms-F Stmt Arms When
mapped_arms = map-Arms SuchStmt SuchArms SuchWhen Stmt Arms When (λ e. e.0) (λ e. e.0) (λ e. e.0)

abbrev named_both : Arms-F Stmt Arms When → List Range
named_both arms = arms_step (map-Arms Stmt Arms When (List Range) (List Range) (List Range) named_stmt named_arms named_when arms)

both-are : (first second : Option (List SuchStmt)) → AllExit (named_both (mapped_arms (record { first = first; second = second })))
both-are None None = tt
both-are None (Some second) = stmts-exit second
both-are (Some first) None = both-exit (named_stmts (plain first)) [] (stmts-exit first) tt
both-are (Some first) (Some second) = both-exit (named_stmts (plain first)) (named_stmts (plain second)) (stmts-exit first) (stmts-exit second)

arms-layer : (first second : Option (List SuchStmt)) → ArmsExit (roll-Arms (mapped_arms (record { first = first; second = second })))
arms-layer first second =
    let y = mapped_arms (record { first = first; second = second }) in
    subst AllExit (sym (fold-roll-Arms (List Range) (List Range) (List Range) named_step arms_step when_step y)) (both-are first second)

when-layer : (tests : List Test) (stmts : List SuchStmt) →
    WhenExits (roll-When (map-When SuchStmt SuchArms SuchWhen Stmt Arms When (λ e. e.0) (λ e. e.0) (λ e. e.0) (record { tests = tests; stmts = stmts })))
when-layer tests stmts =
    let y : When-F Stmt Arms When = record { tests = tests; stmts = plain stmts } in
    subst AllExit (sym (fold-roll-When (List Range) (List Range) (List Range) named_step arms_step when_step y)) (stmts-exit stmts)

stmt-exits : (stmt : Stmt) → StmtExits stmt
stmt-exits stmt =
    ind-Stmt StmtExits ArmsExit WhenExits
    (λ x y is. subst (λ z. StmtExits (roll-Stmt z)) is (layer y))
    (λ x y is. subst (λ z. ArmsExit (roll-Arms z)) is (arms-layer y.first y.second))
    (λ x y is. subst (λ z. WhenExits (roll-When z)) is (when-layer y.tests y.stmts)) stmt

list-exits : (stmts : List Stmt) → AllExit (named_stmts stmts)
list-exits [] = tt
list-exits (stmt ∷ stmts) = both-exit (named_stmt stmt) (named_stmts stmts) (stmt-exits stmt) (list-exits stmts)

sentences-exit : (sentences : List Sentence) → AllExit (joined (map named_sentence sentences))
sentences-exit [] = tt
sentences-exit (sentence ∷ others) = both-exit (named_sentence sentence) (joined (map named_sentence others)) (list-exits sentence.stmts) (sentences-exit others)

paragraphs-exit : (paragraphs : List Paragraph) → AllExit (named_paragraphs paragraphs)
paragraphs-exit [] = tt
paragraphs-exit (paragraph ∷ others) = both-exit (named_paragraph paragraph) (named_paragraphs others) (sentences-exit paragraph.sentences) (paragraphs-exit others)

-- each range that the paragraphs name has one
pub named-exit : (paragraphs : List Paragraph) (range : Range) → Has (named_paragraphs paragraphs) range → Exits range
named-exit paragraphs range has = exit-at (named_paragraphs paragraphs) has.0 range (paragraphs-exit paragraphs) has.1

-- ---- the order of a sort

-- what ranges are sorted by
abbrev pub sort_key : Range → ℕ × Option ℕ
sort_key range = (range.entry, range.exit)

-- by entry, then by exit
abbrev pub key_order : ℕ × Option ℕ → ℕ × Option ℕ → Ordering
key_order a b = ordering_then (nat_cmp a.0 b.0) (option_cmp nat_cmp a.1 b.1)

which : (a b : ℕ) → (a < b) ⊎ ((a ≡ b) ⊎ (b < a))
which zero zero = inr (inl refl)
which zero (suc b) = inl (omega arith)
which (suc a) zero = inr (inr (omega arith))
which (suc a) (suc b) = elim (which a b) [
  | inl less ↦ inl (omega arith)
  | inr more ↦ elim more [ inl same ↦ inr (inl (ap (λ (n : ℕ). suc n) same)) | inr greater ↦ inr (inr (omega arith)) ]
]

next-pair : (entry exit later_entry later_exit : ℕ) → is_lt (ordering_then (nat_cmp later_entry entry) (nat_cmp later_exit exit)) ≡ false →
    ((later_entry ≡ entry) × (later_exit ≡ exit)) ⊎ (pair_before entry exit later_entry later_exit ≡ true)
next-pair entry exit later_entry later_exit h = elim (which entry later_entry) [
  | inl less ↦ inr (is-pair-less entry exit later_entry later_exit less)
  | inr more ↦ elim more [
    | inl same ↦
        let tied = nat_cmp_is later_entry entry Equal (sym same) in
        let rest : is_lt (nat_cmp later_exit exit) ≡ false = ap (λ o. is_lt (ordering_then o (nat_cmp later_exit exit))) tied ∙ h in
        elim (which exit later_exit) [
          | inl before ↦ inr (is-pair-same entry exit later_entry later_exit same before)
          | inr other ↦ elim other [
            | inl equal ↦ inl (sym same, sym equal)
            | inr greater ↦ absurd (let k = nat_cmp_is later_exit exit Less greater in let no : true ≡ false = ap is_lt k ∙ rest in let none : ⊥ = cc in none)
          ]
        ]
    | inr greater ↦ absurd (
        let k = nat_cmp_is later_entry entry Less greater in
        let no : true ≡ false = ap (λ o. is_lt (ordering_then o (nat_cmp later_exit exit))) k ∙ h in
        let none : ⊥ = cc in none
        )
  ]
]

next-exit : (entry : ℕ) (exit : Option ℕ) (last : ℕ) (later_entry : ℕ) (later_exit : Option ℕ) (later : ℕ) → exit ≡ Some last → later_exit ≡ Some later →
    is_lt (key_order (later_entry, later_exit) (entry, exit)) ≡ false →
    ((later_entry ≡ entry) × (later_exit ≡ exit)) ⊎ (exit_before entry exit later_entry later_exit ≡ true)
next-exit entry None last later_entry later_exit later is there h = absurd (let k : ⊥ = cc in k)
next-exit entry (Some x) last later_entry None later is there h = absurd (let k : ⊥ = cc in k)
next-exit entry (Some x) last later_entry (Some y) later is there h = elim (next-pair entry x later_entry y h) [
  | inl same ↦ inl (same.0, ap (λ (n : ℕ). Some n) same.1)
  | inr before ↦ inr before
]

next-range : (last range : Range) → Exits last → Exits range → is_lt (key_order (sort_key range) (sort_key last)) ≡ false → IsNext last range
next-range last range ends also h = elim (next-exit last.entry last.exit ends.0 range.entry range.exit also.0 ends.1 also.1 h) [
  | inl same ↦ inl (both same.0 same.1)
  | inr before ↦ inr before
]
  where
    both : range.entry ≡ last.entry → range.exit ≡ last.exit → range ≡ last
    both a b =
        let with_entry : ℕ → Range = λ e. record { entry = e; exit = range.exit } in
        let with_exit : Option ℕ → Range = λ x. record { entry = last.entry; exit = x } in
        ap with_entry a ∙ ap with_exit b

main-first : (range : Range) (exit : ℕ) → range.exit ≡ Some exit → is_before main_range range ≡ true
main-first range exit is = ap (λ (x : Option ℕ). exit_before 0 None range.entry x) is

-- sorted ranges, each with an exit, are in their order after main
pub sorted-in-order : (sorted : List Range) → ((range : Range) → Has sorted range → Exits range) → IsSortedByKey sort_key key_order sorted → IsInOrder (main_range ∷ sorted)
sorted-in-order sorted exits up zero range next here there =
    let is : main_range ≡ range = cc in
    let end = exits next (0, there) in
    inr (subst (λ (r : Range). is_before r next ≡ true) is (main-first next end.0 end.1))
sorted-in-order sorted exits up (suc number) range next here there =
    let inside : suc number < length sorted = get-below sorted (suc number) next there in
    let one : Some (get_or sorted number range) ≡ Some range = sym (slice_get-get_or sorted number range (omega (arith, inside))) ∙ here in
    let two : Some (get_or sorted (suc number) range) ≡ Some next = sym (slice_get-get_or sorted (suc number) range inside) ∙ there in
    let first : get_or sorted number range ≡ range = cc in
    let second : get_or sorted (suc number) range ≡ next = cc in
    let step : number + 1 ≡ suc number = omega arith in
    let up_here = up number range (omega arith) (omega (arith, inside)) in
    let not_before : is_lt (key_order (sort_key next) (sort_key range)) ≡ false =
    ap (λ (r : Range). is_lt (key_order (sort_key next) (sort_key r))) (sym first)
    ∙ ap (λ (r : Range). is_lt (key_order (sort_key r) (sort_key (get_or sorted number range)))) (sym (ap (λ (n : ℕ). get_or sorted n range) step ∙ second)) ∙ up_here in
    next-range range next (exits range (number, here)) (exits next (suc number, there)) not_before

-- ---- after a sort

-- from the clause of a sort, where each call of the closure gives the key
pub from-sort : {F : Type 0} {g : Mut F (Bor Range × Unit {0}) (ℕ × Option ℕ)} {f : F} (xs : List Range)
    → ((key : Range → ℕ × Option ℕ) → ComputesKey g key f → IsSortedByKey key key_order xs)
    → ((a : Bor Range × Unit {0}) (r : ℕ × Option ℕ) (f' : F) → Called g f a r f' → (r ≡ sort_key a.0.now) × (f' ≡ f)) → IsSortedByKey sort_key key_order xs
from-sort {g = g} {f = f} xs up h = up sort_key (always_returns_same g (λ a r. r ≡ sort_key a.0.now) f h)

-- the ranges that were named have exits in each order
pub sorted-exit : (found sorted list : List Range) (paragraphs : List Paragraph) → found ≡ named_paragraphs paragraphs → IsPermutation found sorted → list ≡ sorted → (range : Range) → Has list range → Exits range
sorted-exit found sorted list paragraphs is moved same range has =
    let all : All Exits found = λ k d lt. named-exit paragraphs (get_or found k d) (k, ap (λ (rs : List Range). slice_get rs k) (sym is) ∙ slice_get-get_or found k d lt) in
    has-all Exits sorted has.0 range (All-permutation Exits found sorted moved all) (ap (λ (rs : List Range). slice_get rs has.0) (sym same) ∙ has.1)
