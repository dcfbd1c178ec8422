-- Programs that name what they have, and whose entries and files are named.
use Rattle.std.specs.Prelude.{◌≡◌, ◌≤◌, true, length, map}
use Rattle.cob_tree.specs.declared.program.Program.{Program}
use Rattle.control_flow_theory.specs.language.All.{all}
use Rattle.cob_base.specs.Limit.{max_tokens}
use Rattle.program_facts.specs.well_scoped.Named.{counts_of, NamesItsOwn}
use Rattle.grammar_laws.specs.well_scoped.named_entries.Entries.{EntriesNamed, file_named}
use Rattle.grammar_laws.specs.whole_counts.entry_bounds.Bounds.{EntriesBound}

-- what its statements and files name is there
pub record IsNamed (program : Program) : Type 0 where
  -- what its statements name is there
  pub own : NamesItsOwn program
  pub files : all (map (file_named (counts_of program)) program.files) ≡ true
  pub entries : EntriesNamed program.entries
  -- what its entries name is there
  pub bound : EntriesBound (length program.files) program.entries
  -- no more than tokens
  pub few : length program.entries ≤ max_tokens
