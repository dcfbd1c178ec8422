-- Bodies that go on.
use Rattle.std.proofs.Common.{◌≡◌, refl, ap, sym, ◌∙◌}
use Rattle.control_flow_theory.specs.language.Language.{Stmt, Stmts, none, also}
use Rattle.control_flow_theory.specs.semantics.Graph.{Tree, tree, End, Dead, body_of, end_of}
use Rattle.control_flow_theory.specs.graph_rules.Shapes.{followed, alone}
use Rattle.control_flow_theory.specs.lowering.Lower.{end_alone, with_first}
use Rattle.lowering_labels.specs.loop_nodes.Loops.{before}
use Rattle.lowering_labels.proofs.loop_nodes_lemmas.StartRows.{followed_none}

followed_twice : (a b c : Stmts) → followed (followed a b) c ≡ followed a (followed b c)
followed_twice none b c = refl
followed_twice (also stmt stmts) b c = ap (also stmt) (followed_twice stmts b c)

-- behind a statement more
pub past_cut : (old new : Stmts) (stmt : Stmt) (behind : Tree) → new ≡ followed old (alone stmt) → before old (with_first stmt behind) ≡ before new behind
past_cut old new stmt behind h =
    sym (ap (λ b. tree b (end_of behind)) (ap (λ s. followed s (body_of behind)) h ∙ followed_twice old (alone stmt) (body_of behind)))

-- where it can't complete
pub dead_cut : (old new : Stmts) (stmt : Stmt) → new ≡ followed old (alone stmt) → before old (tree (also stmt none) Dead) ≡ tree new Dead
dead_cut old new stmt h = ap (λ b. tree b Dead) (sym h)

-- where a tree is only an end
pub ends_by : (old : Stmts) (made : Tree) (end other : End) → made ≡ end_alone end → other ≡ end → before old made ≡ tree old other
ends_by old made end other h is = ap (before old) h ∙ ap (λ b. tree b end) (sym (followed_none old)) ∙ ap (tree old) (sym is)

-- where statements stand before it
pub ends_behind : (old new body : Stmts) (end other : End) → new ≡ followed old body → other ≡ end → before old (tree body end) ≡ tree new other
ends_behind old new body end other h is = ap (λ b. tree b end) (sym h) ∙ ap (tree new) (sym is)

-- bodies one behind the other
pub before_twice : (old body : Stmts) (t : Tree) → before (followed old body) t ≡ before old (before body t)
before_twice old body t = ap (λ b. tree b (end_of t)) (followed_twice old body (body_of t))

pub before_nothing : (t : Tree) → before none t ≡ t
before_nothing (tree body end) = refl
