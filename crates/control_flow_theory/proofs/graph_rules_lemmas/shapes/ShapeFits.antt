-- What fits before a rule fits after it.
use Rattle.std.proofs.Common.{◌≡◌, ℕ, true, false, if◌then◌else◌, ◌==◌, refl}
use Rattle.control_flow_theory.specs.language.Language.{Picker, Choose, Stmts, none, also, Range}
use Rattle.control_flow_theory.specs.semantics.Graph.{Label, Tree, tree, End, Pick, Jump, Return, Stop, Dead, Trees, no_more, more, body_of, end_of}
use Rattle.control_flow_theory.specs.graph_rules.Fits.{PickerFits, StmtsFit, ArmsFit, TreeFits, EndFits, TreesFit}
use Rattle.control_flow_theory.specs.graph_rules.Loops.{Keeper, Flagged, Endless}
use Rattle.control_flow_theory.specs.graph_rules.Shapes.{followed, alone, Live, ToLabel, Back, end_at, Targets, NoTarget, Only, Several, arms_targets, last_stmts, arms_stmts, join_by, joined, join_end, joined_arms, inlined, inline_end, inlined_arms, leaving, flat, flat_end, flat_arms}

module _ (Calls : Range → Type 0) (Reads Writes : ℕ → Type 0) where
  abbrev Stmts-fit : Stmts → Type 0
  Stmts-fit = StmtsFit Calls Reads Writes

  abbrev Tree-fits : Tree → Type 0
  Tree-fits = TreeFits Calls Reads Writes

  pub followed-fits : (one two : Stmts) → Stmts-fit one → Stmts-fit two → Stmts-fit (followed one two)
  followed-fits none two h k = k
  followed-fits (also stmt stmts) two h k = (h.0, followed-fits stmts two h.1 k)

  parts : (t : Tree) → Tree-fits t → Stmts-fit (body_of t) × EndFits Calls Reads Writes (end_of t)
  parts (tree body end) h = h

  pub live-fits : (live : Live) → EndFits Calls Reads Writes (end_at live)
  live-fits (ToLabel to) = tt
  live-fits Back = tt

  last-fits : (end : End) → Stmts-fit (last_stmts end)
  last-fits (Pick picker arms) = tt
  last-fits (Jump to) = tt
  last-fits Return = tt
  last-fits Stop = (tt, tt)
  last-fits Dead = tt

  arms-stmts-fit : (arms : Trees) → TreesFit Calls Reads Writes arms → ArmsFit Calls Reads Writes (arms_stmts arms)
  arms-stmts-fit no_more h = tt
  arms-stmts-fit (more first others) h = (followed-fits (body_of first) (last_stmts (end_of first)) (parts first h.0).0 (last-fits (end_of first)), arms-stmts-fit others h.1)

  join-by-fits : (body : Stmts) (picker : Picker) (arms : Trees) (targets : Targets) → Stmts-fit body → PickerFits Calls Reads Writes picker → TreesFit Calls Reads Writes arms → Tree-fits (join_by body picker arms targets)
  join-by-fits body picker arms NoTarget b p a = (followed-fits body (alone (Choose picker (arms_stmts arms))) b ((p, arms-stmts-fit arms a), tt), tt)
  join-by-fits body picker arms (Only live) b p a = (followed-fits body (alone (Choose picker (arms_stmts arms))) b ((p, arms-stmts-fit arms a), tt), live-fits live)
  join-by-fits body picker arms Several b p a = (b, (p, a))

  mutual
    pub joined-fits : (t : Tree) → Tree-fits t → Tree-fits (joined t)
    joined-fits (tree body end) = λ h. join-end-fits body end h.0 h.1

    join-end-fits : (body : Stmts) (end : End) → Stmts-fit body → EndFits Calls Reads Writes end → Tree-fits (join_end body end)
    join-end-fits body (Pick picker arms) = λ b e. join-by-fits body picker (joined_arms arms) (arms_targets (joined_arms arms)) b e.0 (joined-arms-fit arms e.1)
    join-end-fits body (Jump to) = λ b e. (b, tt)
    join-end-fits body Return = λ b e. (b, tt)
    join-end-fits body Stop = λ b e. (b, tt)
    join-end-fits body Dead = λ b e. (b, tt)

    joined-arms-fit : (arms : Trees) → TreesFit Calls Reads Writes arms → TreesFit Calls Reads Writes (joined_arms arms)
    joined-arms-fit no_more = λ h. tt
    joined-arms-fit (more first others) = λ h. (joined-fits first h.0, joined-arms-fit others h.1)

  module _ (label : Label) (node : Tree) (node_fits : Tree-fits node) where
    jump-fits : (body : Stmts) (to : Label) → Stmts-fit body → Tree-fits (inline_end label node body (Jump to))
    jump-fits body to b = elim (to == label) as (λ t. Tree-fits (if t then tree (followed body (body_of node)) (end_of node) else tree body (Jump to))) [
      | true ↦ (followed-fits body (body_of node) b (parts node node_fits).0, (parts node node_fits).1)
      | false ↦ (b, tt)
    ]

    mutual
      pub inlined-fits : (t : Tree) → Tree-fits t → Tree-fits (inlined label node t)
      inlined-fits (tree body end) = λ h. inline-end-fits body end h.0 h.1

      inline-end-fits : (body : Stmts) (end : End) → Stmts-fit body → EndFits Calls Reads Writes end → Tree-fits (inline_end label node body end)
      inline-end-fits body (Pick picker arms) = λ b e. (b, (e.0, inlined-arms-fit arms e.1))
      inline-end-fits body (Jump to) = λ b e. jump-fits body to b
      inline-end-fits body Return = λ b e. (b, tt)
      inline-end-fits body Stop = λ b e. (b, tt)
      inline-end-fits body Dead = λ b e. (b, tt)

      inlined-arms-fit : (arms : Trees) → TreesFit Calls Reads Writes arms → TreesFit Calls Reads Writes (inlined_arms label node arms)
      inlined-arms-fit no_more = λ h. tt
      inlined-arms-fit (more first others) = λ h. (inlined-fits first h.0, inlined-arms-fit others h.1)

  module _ (keeper : Keeper) (cell : ℕ) (label : Label) (sets : keeper ≡ Flagged → Writes cell) where
    leaving-fits : (k : Keeper) → (k ≡ Flagged → Writes cell) → Stmts-fit (leaving k cell)
    leaving-fits Flagged w = (w refl, tt)
    leaving-fits Endless w = tt

    leaf-fits : (to : Label) → Stmts-fit (flat_end keeper cell label (Jump to))
    leaf-fits to = elim (to == label) as (λ t. Stmts-fit (if t then none else leaving keeper cell)) [ true ↦ tt | false ↦ leaving-fits keeper sets ]

    mutual
      pub flat-fits : (t : Tree) → Tree-fits t → Stmts-fit (flat keeper cell label t)
      flat-fits (tree body end) = λ h. followed-fits body (flat_end keeper cell label end) h.0 (flat-end-fits end h.1)

      flat-end-fits : (end : End) → EndFits Calls Reads Writes end → Stmts-fit (flat_end keeper cell label end)
      flat-end-fits (Pick picker arms) = λ e. ((e.0, flat-arms-fit arms e.1), tt)
      flat-end-fits (Jump to) = λ e. leaf-fits to
      flat-end-fits Return = λ e. leaving-fits keeper sets
      flat-end-fits Stop = λ e. (tt, tt)
      flat-end-fits Dead = λ e. tt

      flat-arms-fit : (arms : Trees) → TreesFit Calls Reads Writes arms → ArmsFit Calls Reads Writes (flat_arms keeper cell label arms)
      flat-arms-fit no_more = λ h. tt
      flat-arms-fit (more first others) = λ h. (flat-fits first h.0, flat-arms-fit others h.1)
