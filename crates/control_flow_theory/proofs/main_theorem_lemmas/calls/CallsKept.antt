-- The rules lose no PERFORM.
use Rattle.std.proofs.Common.{◌≡◌, ℕ, true, false, if◌then◌else◌, List, [], ◌∷◌, refl, ap, inl, inr}
use Rattle.control_flow_theory.specs.language.Language.{Picker, Stmts, none, also, Arms, Range}
use Rattle.control_flow_theory.specs.semantics.Graph.{Tree, tree, End, Pick, Jump, Return, Stop, Dead, Trees, no_more, more}
use Rattle.control_flow_theory.specs.rendering.Procedures.{stmt_calls, stmts_call, arms_call}
use Rattle.control_flow_theory.specs.graph_rules.Shapes.{followed}
use Rattle.control_flow_theory.specs.graph_rules.Reduced.{Node}
use Rattle.control_flow_theory.specs.main_theorem.Chain.{TreeCalls, EndCalls, TreesCall, NodesCall, ClosingLosesNoPerform}
use Rattle.control_flow_theory.proofs.structuring_lemmas.closing.InOrder.{closed-kept}
use Rattle.control_flow_theory.proofs.structuring_lemmas.closing.SomeKept.{SomeTree, SomeEnd, SomeTrees, SomeNode, Finds, Stays, rules-lose-none, written-some}

module _ (range : Range) where
  abbrev Calls : Stmts → Type 0
  Calls stmts = stmts_call range stmts ≡ true

  abbrev ArmsCall : Arms → Type 0
  ArmsCall arms = arms_call range arms ≡ true

  -- no choice performs
  abbrev Never : Picker → ℕ → Type 0
  Never picker arms = ⊥

  call-left : (a b : Stmts) → Calls a → Calls (followed a b)
  call-left none b h = absurd (let e : false ≡ true = h in cc)
  call-left (also s a) b h = elim (stmt_calls range s) as (λ c. (if c then true else stmts_call range a) ≡ true → (if c then true else stmts_call range (followed a b)) ≡ true) [ true ↦ λ k. refl | false ↦ λ k. call-left a b k ] h

  call-right : (a b : Stmts) → Calls b → Calls (followed a b)
  call-right none b h = h
  call-right (also s a) b h = elim (stmt_calls range s) as (λ c. (if c then true else stmts_call range (followed a b)) ≡ true) [ true ↦ refl | false ↦ call-right a b h ]

  finds : Finds Calls ArmsCall Never
  finds = record {
    nowhere = λ h. cc;
    left = call-left;
    right = call-right;
    first = λ arm others h. ap (λ c. if c then true else arms_call range others) h;
    later = λ arm others h. elim (stmts_call range arm) as (λ c. (if c then true else arms_call range others) ≡ true) [ true ↦ refl | false ↦ h ];
    chooses = λ picker arms h. elim h [ inl p ↦ absurd p | inr k ↦ ap (λ c. if c then true else false) k ];
    loops = λ control body h. ap (λ b. if b then true else false) h;
    tests = λ test arms h. h;
  }

  mutual
    tree-some : (t : Tree) → TreeCalls range t → SomeTree Calls Never t
    tree-some (tree body end) = λ h. elim h [ inl c ↦ inl c | inr k ↦ inr (end-some end k) ]

    end-some : (end : End) → EndCalls range end → SomeEnd Calls Never end
    end-some (Pick picker arms) = λ h. inr (trees-some arms h)
    end-some (Jump to) = λ h. h
    end-some Return = λ h. h
    end-some Stop = λ h. h
    end-some Dead = λ h. h

    trees-some : (arms : Trees) → TreesCall range arms → SomeTrees Calls Never arms
    trees-some no_more = λ h. h
    trees-some (more first others) = λ h. elim h [ inl c ↦ inl (tree-some first c) | inr k ↦ inr (trees-some others k) ]

  nodes-some : (nodes : List Node) → NodesCall range nodes → SomeNode Calls Never nodes
  nodes-some [] h = h
  nodes-some (node ∷ nodes) h = elim h [ inl c ↦ inl (tree-some node.tree c) | inr k ↦ inr (nodes-some nodes k) ]

pub closed-calls : ClosingLosesNoPerform
closed-calls = λ range graph closed h.
    let kept = closed-kept (Stays (Calls range) (ArmsCall range) (Never range) (finds range)) (rules-lose-none (Calls range) (ArmsCall range) (Never range) (finds range)) graph (closed, nodes-some range graph.nodes h) in
    written-some (Calls range) (ArmsCall range) (Never range) (finds range) graph closed kept.1
