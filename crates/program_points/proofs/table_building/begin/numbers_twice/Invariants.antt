use Rattle.std.proofs.Common.{◌≡◌, ◌+◌, ℕ, length}
use Rattle.program_points.proofs.table_building_lemmas.Beginning.{Holding}
use Rattle.program_points.proofs.table_building.begin.numbers_twice.Given as goal

abbrev pub invariant-loop-start : goal.invariant-loop-start
invariant-loop-start l = record {
  size : length l.owners.items ≡ l.start;
  first : Holding (λ (k : ℕ). k) 0 l.start l.owners.items;
}

abbrev pub invariant-loop-number : goal.invariant-loop-number
invariant-loop-number l = record {
  size : length l.owners.items ≡ l.count + l.number;
  first : Holding (λ (k : ℕ). k) 0 l.count l.owners.items;
  second : Holding (λ (k : ℕ). k) l.count l.number l.owners.items;
}
