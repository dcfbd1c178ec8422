-- Memories that agree but for a loop's flag.
use Rattle.std.proofs.Common.{◌≡◌, ◌≢◌, ◌≤◌, arith, ℕ, true, false, if◌then◌else◌, ◌==◌, refl, ap, sym, ◌∙◌, inl, inr}
use Rattle.std.proofs.lemmas.Bool.Decides.{eqb_tells}
use Rattle.control_flow_theory.specs.language.Language.{Range, same_range}
use Rattle.control_flow_theory.specs.semantics.Doing.{Celled, own_is, put}
use Rattle.control_flow_theory.specs.graph_rules.Loops.{Keeper, Flagged, Endless, Seen}
use Rattle.control_flow_theory.proofs.semantics_lemmas.Ranges.{range-tells, same-self, eq-self}

-- what it costs to begin the loop
abbrev pub begin_cost : Keeper → ℕ
begin_cost Flagged = 3
begin_cost Endless = 2

pub begin-most : (k : Keeper) → begin_cost k ≤ 3
begin-most Flagged = omega arith
begin-most Endless = omega arith

module _ (keeper : Keeper) (cell : ℕ) (range : Range) where
  abbrev pub Reads : Range → ℕ → Type 0
  Reads r c = r ≡ range → Seen keeper cell c

  abbrev pub Writes : Range → ℕ → Type 0
  Writes r c = r ≡ range → c ≢ cell

  -- the flag isn't compared
  abbrev pub Hidden : Range → ℕ → Type 0
  Hidden r c = (keeper ≡ Flagged) × (r ≡ range) × (c ≡ cell)

  seen-flag : (k : Keeper) (c : ℕ) → k ≡ Flagged → Seen k cell c → c ≢ cell
  seen-flag Flagged c e seen = seen
  seen-flag Endless c e seen = absurd (cc)

module _ {Memory : Type 0} (keeper : Keeper) (cell : ℕ) (range : Range) where
  pub record Agree (s t : Celled Memory) : Type 0 where
    pub own : s.own ≡ t.own
    pub cells : (r : Range) (c : ℕ) → (Hidden keeper cell range r c → ⊥) → s.cells r c ≡ t.cells r c

  -- and the second's cell holds this
  abbrev pub Keeps : ℕ → Celled Memory → Celled Memory → Type 0
  Keeps value s t = Agree s t × (t.cells range cell ≡ value)

  pub put-same : (value : ℕ) (t : Celled Memory) → (put range cell value t).cells range cell ≡ value
  put-same value t = ap (λ b. if b then (if cell == cell then value else t.cells range cell) else t.cells range cell) (same-self range) ∙ ap (λ b. if b then value else t.cells range cell) (eq-self cell)

  put-other : (r : Range) (c value : ℕ) (t : Celled Memory) → Writes keeper cell range r c → (put r c value t).cells range cell ≡ t.cells range cell
  put-other r c value t w = elim (range-tells range r) [
    | inr d ↦ ap (λ b. if b then (if cell == c then value else t.cells range cell) else t.cells range cell) d.0
    | inl d ↦ ap (λ b. if b then (if cell == c then value else t.cells range cell) else t.cells range cell) d.0 ∙ elim (eqb_tells cell c) [
      | inl e ↦ absurd (w (sym d.1) (sym e.1))
      | inr e ↦ ap (λ b. if b then value else t.cells range cell) e.0
    ]
  ]

  agree-put : (r : Range) (c value : ℕ) (s t : Celled Memory) → Agree s t → Agree (put r c value s) (put r c value t)
  agree-put r c value s t a = record {
    own = a.own;
    cells = λ x y n. elim (same_range x r) as (λ b. (if b then (if y == c then value else s.cells x y) else s.cells x y) ≡ (if b then (if y == c then value else t.cells x y) else t.cells x y)) [
      | true ↦ elim (y == c) as (λ b. (if b then value else s.cells x y) ≡ (if b then value else t.cells x y)) [ true ↦ refl | false ↦ a.cells x y n ]
      | false ↦ a.cells x y n
    ];
  }

  -- the second's flag is set
  pub agree-flag : (value : ℕ) (s t : Celled Memory) → keeper ≡ Flagged → Agree s t → Agree s (put range cell value t)
  agree-flag value s t is a = record {
    own = a.own;
    cells = λ x y n. elim (range-tells x range) [
      | inr d ↦ a.cells x y n ∙ sym (ap (λ b. if b then (if y == cell then value else t.cells x y) else t.cells x y) d.0)
      | inl d ↦ elim (eqb_tells y cell) [
        | inl e ↦ absurd (n (is, d.1, e.1))
        | inr e ↦ a.cells x y n ∙ sym (ap (λ b. if b then (if y == cell then value else t.cells x y) else t.cells x y) d.0 ∙ ap (λ b. if b then value else t.cells x y) e.0)
      ]
    ];
  }

  -- what the items of a range need of memories that are alike
  pub owns : (value : ℕ) (s t : Celled Memory) → Keeps value s t → s.own ≡ t.own
  owns value s t k = k.0.own

  pub turned : (value : ℕ) (s t : Celled Memory) (o : Memory) → Keeps value s t → Keeps value (own_is s o) (own_is t o)
  turned value s t o k = (record { own = refl; cells = k.0.cells }, k.1)

  pub reads : (value : ℕ) (r : Range) (c : ℕ) (s t : Celled Memory) → Reads keeper cell range r c → Keeps value s t → s.cells r c ≡ t.cells r c
  reads value r c s t seen k = k.0.cells r c (λ n. seen-flag keeper cell range keeper c n.0 (seen n.1) n.2)

  pub puts : (value : ℕ) (r : Range) (c v : ℕ) (s t : Celled Memory) → Writes keeper cell range r c → Keeps value s t → Keeps value (put r c v s) (put r c v t)
  puts value r c v s t w k = (agree-put r c v s t k.0, put-other r c v t w ∙ k.1)
