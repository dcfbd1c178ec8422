-- The entry of the counter keeps the rules, and its name and value may be what they are.
use Rattle.std.proofs.Common.{◌≡◌, ℕ, true, false, ◌&&◌, [], ◌∷◌, Some, refl, ap, sym, ◌∙◌, subst, arith}
use Rattle.std.specs.Prelude.{slice_get}
use Rattle.std.specs.Fmt.{decimal}
use Rattle.std.proofs.lemmas.Fmt.{decimal_digit}
use Rattle.cob_tree.specs.declared.picture.Picture.TheVariants as pictures
use Rattle.cob_tree.specs.declared.place.Expr.TheOpen.{Operand-F}
use Rattle.cob_tree.specs.declared.place.Operand.{out-roll-Operand}
use Rattle.cob_tree.specs.declared.place.Operand.TheVariants as operands
use Rattle.symbol_tables.specs.data_names.Grouping.{groups_of, has_items}
use Rattle.symbol_tables.specs.data_names.Names.{is_group}
use Rattle.declaration_checks.specs.Literal.{fits}
use Rattle.declaration_checks.specs.Redefining.{size_at}
use Rattle.declaration_checks.specs.Rule.{target_by}
use Rattle.declaration_checks.specs.Standing.{standing_of}
use Rattle.declaration_checks.specs.Value.{may_have_value}
use Rattle.round_trip.specs.declarations.Named.{IsTitled}
use Rattle.grammar_laws.specs.form_results.Numbered.{is_literal, literal_step}
use Rattle.round_trip.specs.declarations.printed_declarations.FileRules.{KeepsRules}
use Rattle.round_trip.specs.declarations.printed_declarations.Rules.{base, sizes, PictureSuits, EntryKeeps}
use Rattle.program_gen.specs.Generated.{whole, counter_entry, generated}
use Rattle.end_to_end_laws.proofs.generated_lemmas.Names.{gen-data, counter-data, number-fits}

-- it has no items below it, and none above it
no-group : is_group (base counter_entry) [] ≡ false
unfolding has_items
no-group = refl

may-have : may_have_value (base counter_entry) false (standing_of (base counter_entry) []).barred ≡ true
unfolding groups_of
may-have = refl

zero-fits : (size : ℕ) → fits (operands.Number (whole 0)) (record { group = false; picture = Some (pictures.Number false 6 0); size = size }) ≡ true
zero-fits size =
    ap (λ digits. fits (operands.Number (record { negative = false; digits = digits; scale = 0 })) (record { group = false; picture = Some (pictures.Number false 6 0); size = size }))
    (decimal_digit 0 (omega arith))

entry-keeps : (n : ℕ) → EntryKeeps (generated n) 0 counter_entry
entry-keeps n = record {
  level = refl;
  stands = refl;
  kind = record {
    pictured = subst (λ b. PictureSuits b counter_entry.picture) (sym no-group) (omega arith, omega arith);
    signed = tt;
    used = refl;
    repeated = tt;
    valued = (
      ap (λ b. may_have_value (base counter_entry) b (standing_of (base counter_entry) []).barred) no-group ∙ may-have,
      subst (λ b. fits (operands.Number (whole 0)) (target_by b (sizes (generated n)) 0 (base counter_entry)) ≡ true) (sym no-group) (zero-fits (size_at (slice_get (sizes (generated n)) 0))),
    );
    redefines = tt;
    no_ranges = refl;
  };
}

pub keeps : (n : ℕ) → KeepsRules (generated n) [] (counter_entry ∷ [])
keeps n = record {
  sorted = record { is = refl; filed = tt; apart = tt; stored = (refl, tt) };
  distinct = tt;
  there = tt;
  apart = tt;
  described = tt;
  entries = (entry-keeps n, tt);
}

literal : is_literal (operands.Number (whole 0)) ≡ true
literal = ap is_literal (sym (operands.rolls-Number (whole 0))) ∙ ap literal_step (out-roll-Operand (Operand-F.Number (whole 0))) ∙ number-fits 0 (omega arith)

pub titled : (n : ℕ) → IsTitled (generated n)
titled n = record {
  title = gen-data (decimal n);
  files = refl;
  entries = ap (λ b. b && true) counter-data;
  values = ap (λ b. (b && true) && true) literal;
}
