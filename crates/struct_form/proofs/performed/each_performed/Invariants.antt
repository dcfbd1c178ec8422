use Rattle.std.proofs.Common.{ℕ, ◌≤◌, ◌<◌, take, IsTrue}
use Rattle.struct_form.specs.Performed.{some_performs}
use Rattle.struct_form.proofs.performed.each_performed.Given as goal

abbrev pub invariant-loop-number : goal.invariant-loop-number
invariant-loop-number l = (n : ℕ) → 1 ≤ n → n < l.number → IsTrue (some_performs n (take n l.paragraphs))
