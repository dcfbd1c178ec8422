-- Counter cells: each remainder keeps its own, and each range its own.
use Rattle.std.proofs.Common.{◌≡◌, ℕ, ◌+◌, ◌<◌, ◌≤◌, Bool, true, false, if◌then◌else◌, nat_eq, List, [], ◌∷◌, ◌++◌, refl, ap, sym, ◌∙◌, subst, arith, eq-eqb, inl, inr}
use Rattle.std.proofs.lemmas.Bool.Decides.{eqb_tells}
use Rattle.control_flow_theory.specs.language.Language.{Times, Until, Varying, Program, Paragraph, Range, Main, Part, same_range, Loop, Nested, Stmts, none, also}
use Rattle.control_flow_theory.specs.semantics.Doing.{Acting}
use Rattle.control_flow_theory.specs.language.Items.{Item, SentenceEnd, Turn, before, items_of, past_sentence, from_loop}
use Rattle.control_flow_theory.specs.language.Items.{ends_at}
use Rattle.control_flow_theory.specs.semantics.Graph.{Tree, End, Family, Label}
use Rattle.control_flow_theory.specs.lowering.FlowFacts.{FlowFacts}
use Rattle.control_flow_theory.specs.lowering.Completes.{cuts, leave_sentence, sizes}
use Rattle.control_flow_theory.specs.lowering.Lower.{EscapeTargets, Node, leaf, nodes, nodes_in}
use Rattle.control_flow_theory.specs.lowering.Rests.{Rest, From, Sent, Turns, Cut, turning_of, items_in, rest_from, after_sentence, after_loop, at_loop, uncut, leaf_of, leaving_of, tree_of, Has, HasRest}
use Rattle.control_flow_theory.specs.lowering.Rests as rests
use Rattle.control_flow_theory.proofs.lowering_lemmas.rests.Joints.{Joint, pending_of, CellsHold, Outside, Apart, Fresh, RestOk, HasName, Waits, end_at}

pub same-range-refl : (r : Range) → same_range r r ≡ true
same-range-refl Main = refl
same-range-refl (Part e x) = ap (λ b. if b then nat_eq x x else false) (eq-eqb e e refl) ∙ eq-eqb x x refl

abbrev pub put_cells : Range → ℕ → ℕ → (Range → ℕ → ℕ) → Range → ℕ → ℕ
put_cells range cell value cells = λ r c. if same_range r range then (if nat_eq c cell then value else cells r c) else cells r c

pub put-here : (range : Range) (cell value : ℕ) (cells : Range → ℕ → ℕ) → put_cells range cell value cells range cell ≡ value
put-here range cell value cells =
    ap (λ b. if b then (if nat_eq cell cell then value else cells range cell) else cells range cell) (same-range-refl range) ∙ ap (λ b. if b then value else cells range cell) (eq-eqb cell cell refl)

put-apart : (range : Range) (cell value place : ℕ) (cells : Range → ℕ → ℕ) → place < cell → put_cells range cell value cells range place ≡ cells range place
put-apart range cell value place cells lt =
    ap (λ b. if b then (if nat_eq place cell then value else cells range place) else cells range place) (same-range-refl range)
    ∙ (elim (eqb_tells place cell) [
      | inl e ↦ absurd (let k = e.1 in omega (arith, k, lt))
      | inr e ↦ ap (λ b. if b then value else cells range place) e.0
    ])

-- another counter of the range
pub holds-apart : (range : Range) (cell value : ℕ) (cells : Range → ℕ → ℕ) (c : Rest) → Outside cell c → CellsHold (cells range) c → CellsHold (put_cells range cell value cells range) c
holds-apart range cell value cells rests.Over out h = tt
holds-apart range cell value cells (From place stmts others) out h = holds-apart range cell value cells others out h
holds-apart range cell value cells (Sent holds others) out h = holds-apart range cell value cells others out h
holds-apart range cell value cells (Turns place (Times amount) left reached body others) out h = (put-apart range cell value place cells out.0 ∙ h.0, holds-apart range cell value cells others out.1 h.1)
holds-apart range cell value cells (Turns place (Until after test) left reached body others) out h = (tt, holds-apart range cell value cells others out.1 h.1)
holds-apart range cell value cells (Turns place (Varying after set step test) left reached body others) out h = (tt, holds-apart range cell value cells others out.1 h.1)
holds-apart range cell value cells (Cut others) out h = holds-apart range cell value cells others out h

-- another range
pub holds-other : (range other : Range) (cell value : ℕ) (cells : Range → ℕ → ℕ) (c : Rest) → same_range other range ≡ false → CellsHold (cells other) c → CellsHold (put_cells range cell value cells other) c
holds-other range other cell value cells c differ h =
    subst (λ b. CellsHold (λ k. if b then (if nat_eq k cell then value else cells other k) else cells other k) c) (sym differ) h

pub outside-more : (a b : ℕ) (c : Rest) → a ≤ b → Outside a c → Outside b c
outside-more a b rests.Over le h = tt
outside-more a b (From place stmts others) le h = outside-more a b others le h
outside-more a b (Sent holds others) le h = outside-more a b others le h
outside-more a b (Turns place control left reached body others) le h = (let e = h.0 in omega (arith, le, e), outside-more a b others le h.1)
outside-more a b (Cut others) le h = outside-more a b others le h

outside-after : (a : ℕ) (c : Rest) → Outside a c → Outside a (after_sentence c)
outside-after a rests.Over h = tt
outside-after a (From place stmts others) h = outside-after a others h
outside-after a (Sent holds others) h = h
outside-after a (Turns place control left reached body others) h = outside-after a others h.1
outside-after a (Cut others) h = outside-after a others h

outside-behind : (a : ℕ) (c : Rest) → Outside a c → Outside a (after_loop c)
outside-behind a rests.Over h = tt
outside-behind a (From place stmts others) h = outside-behind a others h
outside-behind a (Sent holds others) h = outside-behind a others h
outside-behind a (Turns place control left reached body others) h = h.1
outside-behind a (Cut others) h = outside-behind a others h

outside-turn : (a : ℕ) (c : Rest) → Outside a c → Outside a (at_loop c)
outside-turn a rests.Over h = tt
outside-turn a (From place stmts others) h = outside-turn a others h
outside-turn a (Sent holds others) h = outside-turn a others h
outside-turn a (Turns place control left reached body others) h = h
outside-turn a (Cut others) h = outside-turn a others h

apart-after : (c : Rest) → Apart c → Apart (after_sentence c)
apart-after rests.Over h = tt
apart-after (From place stmts others) h = apart-after others h.1
apart-after (Sent holds others) h = h
apart-after (Turns place control left reached body others) h = apart-after others h.1
apart-after (Cut others) h = apart-after others h

apart-behind : (c : Rest) → Apart c → Apart (after_loop c)
apart-behind rests.Over h = tt
apart-behind (From place stmts others) h = apart-behind others h.1
apart-behind (Sent holds others) h = apart-behind others h
apart-behind (Turns place control left reached body others) h = h.1
apart-behind (Cut others) h = apart-behind others h

apart-turn : (c : Rest) → Apart c → Apart (at_loop c)
apart-turn rests.Over h = tt
apart-turn (From place stmts others) h = apart-turn others h.1
apart-turn (Sent holds others) h = apart-turn others h
apart-turn (Turns place control left reached body others) h = h
apart-turn (Cut others) h = apart-turn others h

holds-after : (cells : ℕ → ℕ) (c : Rest) → CellsHold cells c → CellsHold cells (after_sentence c)
holds-after cells rests.Over h = tt
holds-after cells (From place stmts others) h = holds-after cells others h
holds-after cells (Sent holds others) h = h
holds-after cells (Turns place control left reached body others) h = holds-after cells others h.1
holds-after cells (Cut others) h = holds-after cells others h

holds-behind : (cells : ℕ → ℕ) (c : Rest) → CellsHold cells c → CellsHold cells (after_loop c)
holds-behind cells rests.Over h = tt
holds-behind cells (From place stmts others) h = holds-behind cells others h
holds-behind cells (Sent holds others) h = holds-behind cells others h
holds-behind cells (Turns place control left reached body others) h = h.1
holds-behind cells (Cut others) h = holds-behind cells others h

holds-turn : (cells : ℕ → ℕ) (c : Rest) → CellsHold cells c → CellsHold cells (at_loop c)
holds-turn cells rests.Over h = tt
holds-turn cells (From place stmts others) h = holds-turn cells others h
holds-turn cells (Sent holds others) h = holds-turn cells others h
holds-turn cells (Turns place control left reached body others) h = h
holds-turn cells (Cut others) h = holds-turn cells others h

pub past-before : (ss : Stmts) (rest : List Item) → past_sentence (before ss rest) ≡ past_sentence rest
past-before none rest = refl
past-before (also s ss) rest = past-before ss rest

pub past-items : (c : Rest) → past_sentence (items_in c) ≡ items_in (after_sentence c)
past-items rests.Over = refl
past-items (From place stmts others) = past-before stmts (items_in others) ∙ past-items others
past-items (Sent holds others) = refl
past-items (Turns place control left reached body others) = past-items others
past-items (Cut others) = past-items others

pub loop-before : (cycle : Bool) (ss : Stmts) (rest : List Item) → from_loop cycle (before ss rest) ≡ from_loop cycle rest
loop-before cycle none rest = refl
loop-before cycle (also s ss) rest = loop-before cycle ss rest

-- the rest that EXIT PERFORM leaves
abbrev pub left_by : Bool → Rest → Rest
left_by false c = after_loop c
left_by true c = at_loop c

pub loop-items : (cycle : Bool) (c : Rest) → from_loop cycle (items_in c) ≡ items_in (left_by cycle c)
loop-items false rests.Over = refl
loop-items true rests.Over = refl
loop-items false (From place stmts others) = loop-before false stmts (items_in others) ∙ loop-items false others
loop-items true (From place stmts others) = loop-before true stmts (items_in others) ∙ loop-items true others
loop-items false (Sent holds others) = loop-items false others
loop-items true (Sent holds others) = loop-items true others
loop-items false (Turns place control left reached body others) = refl
loop-items true (Turns place control left reached body others) = refl
loop-items false (Cut others) = loop-items false others
loop-items true (Cut others) = loop-items true others

pub items-from : (told : FlowFacts) (place : ℕ) (ss : Paragraph) → items_in (rest_from told place ss) ≡ items_of ss
items-from told place [] = refl
items-from told place (s ∷ ss) = ap (λ r. before s (SentenceEnd ∷ r)) (items-from told (place + sizes s) ss)

outside-from : (told : FlowFacts) (bound place : ℕ) (ss : Paragraph) → Outside bound (rest_from told place ss)
outside-from told bound place [] = tt
outside-from told bound place (s ∷ ss) = outside-from told bound (place + sizes s) ss

pub apart-from : (told : FlowFacts) (place : ℕ) (ss : Paragraph) → Apart (rest_from told place ss)
apart-from told place [] = tt
apart-from told place (s ∷ ss) = (outside-from told place (place + sizes s) ss, apart-from told (place + sizes s) ss)

pub holds-from : (told : FlowFacts) (cells : ℕ → ℕ) (place : ℕ) (ss : Paragraph) → CellsHold cells (rest_from told place ss)
holds-from told cells place [] = tt
holds-from told cells place (s ∷ ss) = holds-from told cells (place + sizes s) ss

pub items-uncut : (c : Rest) → items_in (uncut c) ≡ items_in c
items-uncut rests.Over = refl
items-uncut (From place stmts others) = ap (before stmts) (items-uncut others)
items-uncut (Sent holds others) = ap (λ r. SentenceEnd ∷ r) (items-uncut others)
items-uncut (Turns place control left reached body others) = ap (λ r. Turn (turning_of control left reached) (Nested body) ∷ r) (items-uncut others)
items-uncut (Cut others) = items-uncut others

pub uncut-twice : (c : Rest) → uncut (uncut c) ≡ uncut c
uncut-twice rests.Over = refl
uncut-twice (From place stmts others) = ap (From place stmts) (uncut-twice others)
uncut-twice (Sent holds others) = ap (Sent holds) (uncut-twice others)
uncut-twice (Turns place control left reached body others) = ap (Turns place control left reached body) (uncut-twice others)
uncut-twice (Cut others) = uncut-twice others

outside-uncut : (bound : ℕ) (c : Rest) → Outside bound c → Outside bound (uncut c)
outside-uncut bound rests.Over h = tt
outside-uncut bound (From place stmts others) h = outside-uncut bound others h
outside-uncut bound (Sent holds others) h = outside-uncut bound others h
outside-uncut bound (Turns place control left reached body others) h = (h.0, outside-uncut bound others h.1)
outside-uncut bound (Cut others) h = outside-uncut bound others h

apart-uncut : (c : Rest) → Apart c → Apart (uncut c)
apart-uncut rests.Over h = tt
apart-uncut (From place stmts others) h = (outside-uncut place others h.0, apart-uncut others h.1)
apart-uncut (Sent holds others) h = apart-uncut others h
apart-uncut (Turns place control left reached body others) h = (outside-uncut place others h.0, apart-uncut others h.1)
apart-uncut (Cut others) h = apart-uncut others h

holds-uncut : (cells : ℕ → ℕ) (c : Rest) → CellsHold cells c → CellsHold cells (uncut c)
holds-uncut cells rests.Over h = tt
holds-uncut cells (From place stmts others) h = holds-uncut cells others h
holds-uncut cells (Sent holds others) h = holds-uncut cells others h
holds-uncut cells (Turns place control left reached body others) h = (h.0, holds-uncut cells others h.1)
holds-uncut cells (Cut others) h = holds-uncut cells others h

pub uncut-from : (told : FlowFacts) (place : ℕ) (ss : Paragraph) → uncut (rest_from told place ss) ≡ rest_from told place ss
uncut-from told place [] = refl
uncut-from told place (s ∷ ss) = ap (λ c. From place s (Sent (leave_sentence (cuts told s)) c)) (uncut-from told (place + sizes s) ss)

module _ (told : FlowFacts) (place_of : ℕ → ℕ) (end : EscapeTargets) where
  pub leaf-uncut : (c : Rest) → leaf_of told place_of end (uncut c) ≡ leaf_of told place_of end c
  leaf-uncut rests.Over = refl
  leaf-uncut (From place stmts others) = ap (leaf told place_of stmts place) (leaf-uncut others)
  leaf-uncut (Sent holds others) = leaf-uncut others
  leaf-uncut (Turns place control left reached body others) = refl
  leaf-uncut (Cut others) = leaf-uncut others

  sentence-uncut : (c : Rest) → leaf_of told place_of end (after_sentence (uncut c)) ≡ leaf_of told place_of end (after_sentence c)
  sentence-uncut rests.Over = refl
  sentence-uncut (From place stmts others) = sentence-uncut others
  sentence-uncut (Sent holds others) = leaf-uncut others
  sentence-uncut (Turns place control left reached body others) = sentence-uncut others
  sentence-uncut (Cut others) = sentence-uncut others

  loop-uncut : (c : Rest) → leaf_of told place_of end (after_loop (uncut c)) ≡ leaf_of told place_of end (after_loop c)
  loop-uncut rests.Over = refl
  loop-uncut (From place stmts others) = loop-uncut others
  loop-uncut (Sent holds others) = loop-uncut others
  loop-uncut (Turns place control left reached body others) = leaf-uncut others
  loop-uncut (Cut others) = loop-uncut others

  turn-uncut : (c : Rest) → leaf_of told place_of end (at_loop (uncut c)) ≡ leaf_of told place_of end (at_loop c)
  turn-uncut rests.Over = refl
  turn-uncut (From place stmts others) = turn-uncut others
  turn-uncut (Sent holds others) = turn-uncut others
  turn-uncut (Turns place control left reached body others) = refl
  turn-uncut (Cut others) = turn-uncut others

  abbrev leaving_by : End → End → End → EscapeTargets
  leaving_by sentence loop cycle = record { sentence = sentence; paragraph = end.paragraph; section = end.section; loop = loop; cycle = cycle }

  pub leaving-uncut : (c : Rest) → leaving_of told place_of end (uncut c) ≡ leaving_of told place_of end c
  leaving-uncut c =
      ap (λ e. leaving_by e (leaf_of told place_of end (after_loop (uncut c))) (leaf_of told place_of end (at_loop (uncut c)))) (sentence-uncut c)
      ∙ ap (λ e. leaving_by (leaf_of told place_of end (after_sentence c)) e (leaf_of told place_of end (at_loop (uncut c)))) (loop-uncut c)
      ∙ ap (λ e. leaving_by (leaf_of told place_of end (after_sentence c)) (leaf_of told place_of end (after_loop c)) e) (turn-uncut c)

  -- a tree that is built from the continuations of a rest
  pub built-uncut : {A : Type 0} (f : EscapeTargets → End → Tree → A) (c : Rest) →
      f (leaving_of told place_of end (uncut c)) (leaf_of told place_of end (uncut c)) (tree_of told place_of end (uncut c)) ≡ f (leaving_of told place_of end c) (leaf_of told place_of end c) (tree_of told place_of end (uncut c))
  built-uncut f c =
      ap (λ e. f e (leaf_of told place_of end (uncut c)) (tree_of told place_of end (uncut c))) (leaving-uncut c)
      ∙ ap (λ e. f (leaving_of told place_of end c) e (tree_of told place_of end (uncut c))) (leaf-uncut c)

  pub has-uncut : (graph : Label → Tree) (c : Rest) → HasRest told place_of graph end c → HasRest told place_of graph end (uncut c)
  has-uncut graph rests.Over h = tt
  has-uncut graph (From place stmts others) h = (
    subst (λ u. Has told place_of graph (nodes told place_of stmts place (leaving_of told place_of end (uncut others)) (leaf_of told place_of end (uncut others)) (tree_of told place_of end u))) (sym (uncut-twice others))
        (subst (Has told place_of graph) (sym (built-uncut (nodes told place_of stmts place) others)) h.0),
    has-uncut graph others h.1,
  )
  has-uncut graph (Sent holds others) h = has-uncut graph others h
  has-uncut graph (Turns place control left reached body others) h = (
    subst (λ u. Has told place_of graph (nodes_in told place_of (Loop control (Nested body)) place (leaving_of told place_of end (uncut others)) (leaf_of told place_of end (uncut others)) (tree_of told place_of end u))) (sym (uncut-twice others))
        (subst (Has told place_of graph) (sym (built-uncut (nodes_in told place_of (Loop control (Nested body)) place) others)) h.0),
    has-uncut graph others h.1,
  )
  has-uncut graph (Cut others) h = has-uncut graph others h

module _ (graph : Label → Tree) where
  pub has-left : (told : FlowFacts) (place_of : ℕ → ℕ) (xs ys : List Node) → Has told place_of graph (xs ++ ys) → Has told place_of graph xs
  has-left told place_of [] ys h = tt
  has-left told place_of (x ∷ xs) ys h = (h.0, has-left told place_of xs ys h.1)

  pub has-right : (told : FlowFacts) (place_of : ℕ → ℕ) (xs ys : List Node) → Has told place_of graph (xs ++ ys) → Has told place_of graph ys
  has-right told place_of [] ys h = h
  has-right told place_of (x ∷ xs) ys h = has-right told place_of xs ys h.1

  pub has-after : (told : FlowFacts) (place_of : ℕ → ℕ) (end : EscapeTargets) (c : Rest) → HasRest told place_of graph end c → HasRest told place_of graph end (after_sentence c)
  has-after told place_of end rests.Over h = tt
  has-after told place_of end (From place stmts others) h = has-after told place_of end others h.1
  has-after told place_of end (Sent holds others) h = h
  has-after told place_of end (Turns place control left reached body others) h = has-after told place_of end others h.1
  has-after told place_of end (Cut others) h = has-after told place_of end others h

  pub has-behind : (told : FlowFacts) (place_of : ℕ → ℕ) (end : EscapeTargets) (c : Rest) → HasRest told place_of graph end c → HasRest told place_of graph end (after_loop c)
  has-behind told place_of end rests.Over h = tt
  has-behind told place_of end (From place stmts others) h = has-behind told place_of end others h.1
  has-behind told place_of end (Sent holds others) h = has-behind told place_of end others h
  has-behind told place_of end (Turns place control left reached body others) h = h.1
  has-behind told place_of end (Cut others) h = has-behind told place_of end others h

  pub has-turn : (told : FlowFacts) (place_of : ℕ → ℕ) (end : EscapeTargets) (c : Rest) → HasRest told place_of graph end c → HasRest told place_of graph end (at_loop c)
  has-turn told place_of end rests.Over h = tt
  has-turn told place_of end (From place stmts others) h = has-turn told place_of end others h.1
  has-turn told place_of end (Sent holds others) h = has-turn told place_of end others h
  has-turn told place_of end (Turns place control left reached body others) h = h
  has-turn told place_of end (Cut others) h = has-turn told place_of end others h

module _ {Memory : Type 0} (acting : Acting Memory) (told : FlowFacts) (program : Program) (place_of : ℕ → ℕ) (family : Family) (first : ℕ) (first_rest : List Item) (Named : ℕ → ℕ → Type 0) where
  abbrev Wait : (Range → ℕ → ℕ) → Range → List Joint → Type 0
  Wait cells range waiting = Waits acting told program place_of family first first_rest Named cells range waiting

  abbrev Right : (Range → ℕ → ℕ) → Range → ℕ → Rest → Type 0
  Right cells range q c = RestOk acting told program place_of family first first_rest Named cells range q c

  pub ok-uncut : (cells : Range → ℕ → ℕ) (range : Range) (q : ℕ) (c : Rest) → Right cells range q c → Right cells range q (uncut c)
  ok-uncut cells range q c h = (has-uncut told place_of (end_at acting told program place_of family first first_rest Named range q) (family.node range) c h.0, holds-uncut (cells range) c h.1, apart-uncut c h.2)

  pub ok-after : (cells : Range → ℕ → ℕ) (range : Range) (q : ℕ) (c : Rest) → Right cells range q c → Right cells range q (after_sentence c)
  ok-after cells range q c h = (has-after (family.node range) told place_of (end_at acting told program place_of family first first_rest Named range q) c h.0, holds-after (cells range) c h.1, apart-after c h.2)

  pub ok-behind : (cells : Range → ℕ → ℕ) (range : Range) (q : ℕ) (c : Rest) → Right cells range q c → Right cells range q (after_loop c)
  ok-behind cells range q c h = (has-behind (family.node range) told place_of (end_at acting told program place_of family first first_rest Named range q) c h.0, holds-behind (cells range) c h.1, apart-behind c h.2)

  pub ok-turn : (cells : Range → ℕ → ℕ) (range : Range) (q : ℕ) (c : Rest) → Right cells range q c → Right cells range q (at_loop c)
  ok-turn cells range q c h = (has-turn (family.node range) told place_of (end_at acting told program place_of family first first_rest Named range q) c h.0, holds-turn (cells range) c h.1, apart-turn c h.2)

  -- a counter of a range that doesn't wait
  pub waits-put : (range : Range) (cell value : ℕ) (cells : Range → ℕ → ℕ) (inner : Range) (waiting : List Joint) → Fresh range waiting → Wait cells inner waiting → Wait (put_cells range cell value cells) inner waiting
  waits-put range cell value cells Main [] fresh h = tt
  waits-put range cell value cells Main (j ∷ js) fresh h = absurd h
  waits-put range cell value cells (Part e x) [] fresh h = absurd h
  waits-put range cell value cells (Part e x) (j ∷ js) fresh h =
      (h.0, (h.1.0, holds-other range j.range cell value cells j.rest fresh.0 h.1.1, h.1.2), h.2, h.3, h.4, waits-put range cell value cells j.range js fresh.1 h.5)

  pub waits-fresh : (cells : Range → ℕ → ℕ) (range : Range) (waiting : List Joint) → Wait cells range waiting → Fresh range waiting
  waits-fresh cells Main [] h = tt
  waits-fresh cells Main (j ∷ js) h = absurd h
  waits-fresh cells (Part e x) [] h = absurd h
  waits-fresh cells (Part e x) (j ∷ js) h = h.3

  pub waits-named : (cells : Range → ℕ → ℕ) (range : Range) (waiting : List Joint) → Wait cells range waiting → HasName acting told program place_of family first first_rest Named range
  waits-named cells Main waiting h = tt
  waits-named cells (Part e x) [] h = absurd h
  waits-named cells (Part e x) (j ∷ js) h = h.4

  if-false : (a b : Bool) → (if a then true else b) ≡ false → (a ≡ false) × (b ≡ false)
  if-false true b h = cc
  if-false false b h = (refl, h)

  differs : (e x f y : ℕ) → nat_eq y x ≡ false → same_range (Part f y) (Part e x) ≡ false
  differs e x f y h = elim (nat_eq f e) as (λ b. (if b then nat_eq y x else false) ≡ false) [ true ↦ h | false ↦ refl ]

  -- a range whose exit isn't pending doesn't wait, and isn't the one that runs
  pub fresh-new : (e x : ℕ) (cells : Range → ℕ → ℕ) (range : Range) (waiting : List Joint) → Wait cells range waiting → ends_at x (pending_of range waiting) ≡ false → (same_range range (Part e x) ≡ false) × Fresh (Part e x) waiting
  fresh-new e x cells Main [] h out = (refl, tt)
  fresh-new e x cells Main (j ∷ js) h out = absurd h
  fresh-new e x cells (Part f y) [] h out = absurd h
  fresh-new e x cells (Part f y) (j ∷ js) h out =
      let o = if-false (nat_eq y x) (ends_at x (pending_of j.range js)) out in
      (differs e x f y o.0, fresh-new e x cells j.range js h.5 o.1)
