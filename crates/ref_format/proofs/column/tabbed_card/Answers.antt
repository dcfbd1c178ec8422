use Rattle.std.proofs.Common.{◌≡◌, ℕ, suc, ◌==◌, false, ◌+◌, ◌-◌, ◌%◌, ◌<◌, ◌≤◌, List, [], ◌∷◌, ◌++◌, length, take, drop, set, get_or, replicate, refl, sym, ap, ◌∙◌, arith, append_assoc}
use Rattle.std.proofs.lemmas.List.{drop_more, drop_all, length-drop, length-replicate}
use Rattle.std.proofs.lemmas.Bool.Decides.{nat_tests}
use Rattle.ref_format.specs.Column.{card_of, untabbed}
use Rattle.ref_format.proofs.ColumnLemmas.{spaces_step, spaces_left, byte_step, byte_left, filled_all}
use Rattle.ref_format.proofs.column.tabbed_card.Goals as goal
use Rattle.ref_format.proofs.column.tabbed_card.Goals.{then-byte-eq9, else-byte-eq9}

pub loop-byte-init : goal.loop-byte-init
unfolding card_of
loop-byte-init c = record { within = omega arith; rest = refl; done = refl }

-- one more byte of the line
Turn : List ℕ → List ℕ → List ℕ → ℕ → ℕ → Type 0
Turn line card target i before = (before ≤ 72) × (drop before card ≡ replicate (72 - before) 32) × (take before card ++ take (72 - before) (untabbed before (drop i line) ++ replicate 72 32) ≡ target)

-- what a tab gives
tabbed : (rest more : List ℕ) (before m : ℕ) → m ≡ before + (8 - before % 8) → untabbed before (9 ∷ rest) ++ more ≡ replicate (8 - before % 8) 32 ++ (untabbed m rest ++ more)
tabbed rest more before m e = append_assoc (replicate (8 - before % 8) 32) (untabbed (before + (8 - before % 8)) rest) more ∙ ap (λ n. replicate (8 - before % 8) 32 ++ (untabbed n rest ++ more)) (sym e)

-- what another byte gives
plain : (rest more : List ℕ) (before b m : ℕ) → (b ≡ 9 → ⊥) → m ≡ before + 1 → untabbed before (b ∷ rest) ++ more ≡ b ∷ (untabbed m rest ++ more)
plain rest more before b m other e =
    let no : (b == 9) ≡ false = grind (arith, nat_tests, other) in
    rw (no, e) refl

module _ (line card target : List ℕ) (i before : ℕ) (h : i < length line) (small : before < 72) (turn : Turn line card target i before) where
  tab_turn : (m : ℕ) → get_or line i 0 ≡ 9 → m ≡ before + (8 - before % 8) → Turn line card target (i + 1) m
  unfolding Turn
  tab_turn m tab e =
      let w : ℕ = 8 - before % 8 in
      let k : ℕ = 72 - m in
      let rest : List ℕ = drop (i + 1) line in
      let spaces : List ℕ = replicate 72 32 in
      let within : m ≤ 72 = omega (arith, e) in
      let room : 72 - before ≡ w + k = omega (arith, e) in
      let here : drop i line ≡ 9 ∷ rest = drop_more line i 0 h ∙ ap (λ b. b ∷ rest) tab in
      let filled : drop before card ≡ replicate (w + k) 32 = turn.1 ∙ ap (λ n. replicate n 32) room in
      let opened : untabbed before (drop i line) ++ spaces ≡ replicate w 32 ++ (untabbed m rest ++ spaces) = ap (λ xs. untabbed before xs ++ spaces) here ∙ tabbed rest spaces before m e in
      let left : drop m card ≡ replicate k 32 = ap (λ n. drop n card) e ∙ spaces_left card before w k filled in
      let done : take m card ++ take k (untabbed m rest ++ spaces) ≡ target =
      ap (λ n. take n card ++ take k (untabbed m rest ++ spaces)) e
      ∙ sym (spaces_step card (untabbed m rest ++ spaces) before w k filled)
      ∙ sym (ap (λ xs. take before card ++ take (w + k) xs) opened)
      ∙ sym (ap (λ n. take before card ++ take n (untabbed before (drop i line) ++ spaces)) room)
      ∙ turn.2 in
      (within, left, done)

  byte_turn : (m b : ℕ) → (get_or line i 0 ≡ 9 → ⊥) → b ≡ get_or line i 0 → m ≡ before + 1 → Turn line (set card before b) target (i + 1) m
  unfolding Turn
  byte_turn m b other same e =
      let k : ℕ = 72 - m in
      let rest : List ℕ = drop (i + 1) line in
      let spaces : List ℕ = replicate 72 32 in
      let within : m ≤ 72 = omega (arith, e) in
      let room : 72 - before ≡ suc k = omega (arith, e) in
      let room_one : 72 - before ≡ 1 + k = omega (arith, e) in
      let here : drop i line ≡ b ∷ rest = drop_more line i 0 h ∙ ap (λ x. x ∷ rest) (sym same) in
      let not_tab : b ≡ 9 → ⊥ = λ t. other (sym same ∙ t) in
      let filled : drop before card ≡ replicate (1 + k) 32 = turn.1 ∙ ap (λ n. replicate n 32) room_one in
      let long : before < length card = omega (arith, simp (length-drop, length-replicate) at (ap length turn.1)) in
      let opened : untabbed before (drop i line) ++ spaces ≡ b ∷ (untabbed m rest ++ spaces) = ap (λ xs. untabbed before xs ++ spaces) here ∙ plain rest spaces before b m not_tab e in
      let left : drop m (set card before b) ≡ replicate k 32 = ap (λ n. drop n (set card before b)) e ∙ byte_left card before k b filled in
      let done : take m (set card before b) ++ take k (untabbed m rest ++ spaces) ≡ target =
      ap (λ n. take n (set card before b) ++ take k (untabbed m rest ++ spaces)) e
      ∙ sym (byte_step card (untabbed m rest ++ spaces) before k b long)
      ∙ sym (ap (λ xs. take before card ++ take (suc k) xs) opened)
      ∙ sym (ap (λ n. take before card ++ take n (untabbed before (drop i line) ++ spaces)) room)
      ∙ turn.2 in
      (within, left, done)

pub loop-byte-preserved : goal.loop-byte-preserved
unfolding Turn
loop-byte-preserved c =
    let i = c.loop-byte.invariant in
    let line = c.args.line.now in
    let card = c.loop-byte.card in
    let at = c.loop-byte.byte-index in
    let before = c.loop-byte.before in
    let turn : Turn line card (card_of line) at before = (i.within, i.rest, i.done) in
    elim c.if-byte-eq9.branch [
      | then-byte-eq9 w ↦
          let t = tab_turn line card (card_of line) at before c.loop-byte-test.true c.if-before-ge72.false turn c.if-byte-eq9.before w.if-byte-eq9.true w.before-is in
          rw w.card-is record { within = t.0; rest = t.1; done = t.2 }
      | else-byte-eq9 w ↦
          let t = byte_turn line card (card_of line) at before c.loop-byte-test.true c.if-before-ge72.false turn c.if-byte-eq9.before _ w.if-byte-eq9.false refl w.before-is in
          rw w.card-is record { within = t.0; rest = t.1; done = t.2 }
    ]

pub returns : goal.returns
returns c =
    let i = c.loop-byte.invariant in
    let e = filled_all c.loop-byte.card c.loop-byte.before (72 - c.loop-byte.before) (omega arith) i.rest in
    let none : drop c.loop-byte.byte-index c.args.line.now ≡ [] = drop_all c.loop-byte.byte-index c.args.line.now c.loop-byte-test.false in
    let done = i.done in
    sym e ∙ rw none at done
