-- With more units nested statements show more.
use Rattle.std.proofs.Common.{◌≡◌, ℕ, zero, suc, ◌==◌, true, false, if◌then◌else◌, List, ◌+◌, ◌-◌, ◌≤◌, [], ◌∷◌, ◌++◌, refl, ap, sym, ◌∙◌, subst, append_assoc, arith}
use Rattle.control_flow_theory.specs.runs.Run.{Going, Over, Begins, Covers}
use Rattle.control_flow_theory.specs.runs.Tied.{Meaning, Steady}
use Rattle.control_flow_theory.proofs.runs_lemmas.Ties.{covers-refl, covers-trans, covers-is}
use Rattle.meanings.specs.plain.Language.{Stmt, Display, Go, Perform, StopRun, Other, Sentence, Paragraph, Program}
use Rattle.meanings.specs.plain.World.{World, Normally, Stopped, Trace, displayed}
use Rattle.meanings.specs.plain.World as outside
use Rattle.meanings.specs.plain.Structural.{Outcome, Went, Stands, Does, nothing, meaningless, behind, then_do, unit_of, Performing, stmt_does, sentence_does, paragraph_does, performing, program_does, run_of, structural}

abbrev shown_by : Outcome → Trace
shown_by (Went trace world left) = trace
shown_by (Stands trace standing) = trace

-- no more units are left than these
abbrev Left : ℕ → Outcome → Type 0
Left n (Went trace world left) = left ≤ n
Left n (Stands trace standing) = Unit {0}

-- the second outcome is the first with one unit more
abbrev pub More : Outcome → Outcome → Type 0
More (Went trace world left) more = more ≡ Went trace world (suc left)
More (Stands trace Going) more = Begins trace (shown_by more)
More (Stands trace (Over ending)) more = more ≡ Stands trace (Over ending)

-- it leaves no more units than it is given, and with one more it does more
pub record GrowsInUnits (does : Does) : Type 0 where
  pub bound : (world : World) (n : ℕ) → Left n (does world n)
  pub more : (world : World) (n : ℕ) → More (does world n) (does world (suc n))

left-up : (n : ℕ) (o : Outcome) → Left n o → Left (suc n) o
left-up n (Went trace world left) h = omega (arith, h)
left-up n (Stands trace standing) h = tt

left-below : (m n : ℕ) (o : Outcome) → m ≤ n → Left m o → Left n o
left-below m n (Went trace world left) le h = omega (arith, h, le)
left-below m n (Stands trace standing) le h = tt

left-behind : (shown : Trace) (n : ℕ) (o : Outcome) → Left n o → Left n (behind shown o)
left-behind shown n (Went trace world left) h = h
left-behind shown n (Stands trace standing) h = tt

left-then : (n : ℕ) (a : Outcome) (b : Does) → Left n a → ((world : World) (l : ℕ) → l ≤ n → Left n (b world l)) → Left n (then_do a b)
left-then n (Went trace world left) b h g = left-behind trace n (b world left) (g world left h)
left-then n (Stands trace standing) b h g = tt

shown_by-behind : (shown : Trace) (o : Outcome) → shown_by (behind shown o) ≡ shown ++ shown_by o
shown_by-behind shown (Went trace world left) = refl
shown_by-behind shown (Stands trace standing) = refl

more-behind : (shown : Trace) (o more : Outcome) → More o more → More (behind shown o) (behind shown more)
more-behind shown (Went trace world left) more h = ap (behind shown) h
more-behind shown (Stands trace Going) more h =
    (h.0, shown_by-behind shown more ∙ ap (λ t. shown ++ t) h.1 ∙ sym (append_assoc shown trace h.0))
more-behind shown (Stands trace (Over ending)) more h = ap (behind shown) h

begins-then : (trace : Trace) (o : Outcome) (b : Does) → Begins trace (shown_by o) → Begins trace (shown_by (then_do o b))
begins-then trace (Went shown world left) b h =
    (h.0 ++ shown_by (b world left), shown_by-behind shown (b world left) ∙ ap (λ t. t ++ shown_by (b world left)) h.1 ∙ append_assoc trace h.0 (shown_by (b world left)))
begins-then trace (Stands shown standing) b h = h

more-then : (n : ℕ) (a more : Outcome) (b c : Does) → More a more → Left n a → ((world : World) (l : ℕ) → l ≤ n → More (b world l) (c world (suc l))) → More (then_do a b) (then_do more c)
more-then n (Went trace world left) more b c h k g =
    subst (λ o. More (behind trace (b world left)) (then_do o c)) (sym h) (more-behind trace (b world left) (c world (suc left)) (g world left k))
more-then n (Stands trace Going) more b c h k g = begins-then trace more c h
more-then n (Stands trace (Over ending)) more b c h k g = ap (λ o. then_do o c) h

pub nothing-grows : GrowsInUnits nothing
nothing-grows = record { bound = λ world n. omega arith; more = λ world n. refl }

pub then-grows : (a b : Does) → GrowsInUnits a → GrowsInUnits b → GrowsInUnits (λ world n. then_do (a world n) b)
then-grows a b g h = record {
  bound = λ world n. left-then n (a world n) b (g.bound world n) (λ w l le. left-below l n (b w l) le (h.bound w l));
  more = λ world n. more-then n (a world n) (a world (suc n)) b b (g.more world n) (g.bound world n) (λ w l le. h.more w l);
}

unit_of-bound : (does : Does) → GrowsInUnits does → (world : World) (n : ℕ) → Left n (unit_of does world n)
unit_of-bound does g world zero = tt
unit_of-bound does g world (suc n) = left-up n (does world n) (g.bound world n)

unit_of-more : (does : Does) → GrowsInUnits does → (world : World) (n : ℕ) → More (unit_of does world n) (unit_of does world (suc n))
unit_of-more does g world zero = (shown_by (does world 0), refl)
unit_of-more does g world (suc n) = g.more world n

pub unit_of-grows : (does : Does) → GrowsInUnits does → GrowsInUnits (unit_of does)
unit_of-grows does g = record { bound = unit_of-bound does g; more = unit_of-more does g }

meaningless-grows : GrowsInUnits meaningless
meaningless-grows = record { bound = λ world n. tt; more = λ world n. ([], refl) }

-- each paragraph that is performed does
abbrev pub GrowsPerforming : Performing → Type 0
GrowsPerforming perform = (number : ℕ) → GrowsInUnits (perform number)

module _ (perform : Performing) (grows : GrowsPerforming perform) where
  stmt-grows : (stmt : Stmt) → GrowsInUnits (stmt_does perform stmt)
  stmt-grows (Display items advance) =
      unit_of-grows (λ world units. Went (outside.Display (displayed items advance) ∷ []) world units) (record { bound = λ world n. omega arith; more = λ world n. refl })
  stmt-grows (Go to) = meaningless-grows
  stmt-grows (Perform entry exit) = unit_of-grows (perform entry) (grows entry)
  stmt-grows StopRun =
      unit_of-grows (λ world units. Stands [] (Over (Stopped Normally world.files))) (record { bound = λ world n. tt; more = λ world n. refl })
  stmt-grows Other = unit_of-grows nothing nothing-grows

  sentence-grows : (stmts : Sentence) → GrowsInUnits (sentence_does perform stmts)
  sentence-grows [] = nothing-grows
  sentence-grows (stmt ∷ stmts) = then-grows (stmt_does perform stmt) (sentence_does perform stmts) (stmt-grows stmt) (sentence-grows stmts)

  paragraph-grows : (sentences : Paragraph) → GrowsInUnits (paragraph_does perform sentences)
  paragraph-grows [] = nothing-grows
  paragraph-grows (sentence ∷ sentences) =
      then-grows (sentence_does perform sentence) (paragraph_does perform sentences) (sentence-grows sentence) (paragraph-grows sentences)

performing-grows : (first : ℕ) (paragraphs : List Paragraph) → GrowsPerforming (performing first paragraphs)
performing-grows first [] number = meaningless-grows
performing-grows first (paragraph ∷ others) number =
    elim (number == first) as (λ t. GrowsInUnits (if t then paragraph_does (performing (suc first) others) paragraph else performing (suc first) others number)) [
      | true ↦ paragraph-grows (performing (suc first) others) (performing-grows (suc first) others) paragraph
      | false ↦ performing-grows (suc first) others number
    ]

program-grows : (paragraphs : List Paragraph) → GrowsInUnits (program_does paragraphs)
program-grows [] = nothing-grows
program-grows (paragraph ∷ others) = paragraph-grows (performing 1 others) (performing-grows 1 others) paragraph

run_of-shown : (o : Outcome) → (run_of o).trace ≡ shown_by o
run_of-shown (Went trace world left) = refl
run_of-shown (Stands trace standing) = refl

more-covers : (o more : Outcome) → More o more → Covers (run_of o) (run_of more)
more-covers (Went trace world left) more h = covers-is (run_of (Went trace world left)) (run_of more) (sym (ap run_of h))
more-covers (Stands trace Going) more h = record { shows = (h.0, run_of-shown more ∙ h.1); ends = λ over. absurd (over refl) }
more-covers (Stands trace (Over ending)) more h = covers-is (run_of (Stands trace (Over ending))) (run_of more) (sym (ap run_of h))

-- where one more shows more, many do
more-steady : {W Event End : Type 0} (a : Meaning W Event End) → ((w : W) (n : ℕ) → Covers (a w n) (a w (suc n))) → (w : W) (k n : ℕ) → Covers (a w n) (a w (k + n))
more-steady a next w zero n = let e : 0 + n ≡ n = omega arith in subst (λ m. Covers (a w n) (a w m)) (sym e) (covers-refl (a w n))
more-steady a next w (suc k) n =
    let e : suc k + n ≡ suc (k + n) = omega arith in
    subst (λ m. Covers (a w n) (a w m)) (sym e) (covers-trans (a w n) (a w (k + n)) (a w (suc (k + n))) (more-steady a next w k n) (next w (k + n)))

pub structural-steady : (p : Program) → Steady (structural p)
structural-steady p w m n le =
    let next = λ (w : World) (n : ℕ). more-covers (program_does p.paragraphs w n) (program_does p.paragraphs w (suc n)) ((program-grows p.paragraphs).more w n) in
    let e : (n - m) + m ≡ n = omega arith in
    subst (λ k. Covers (structural p w m) (structural p w k)) e (more-steady (structural p) next w (n - m) m)
