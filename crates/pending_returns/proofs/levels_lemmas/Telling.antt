-- Lists of what places do.
use Rattle.std.proofs.Common.{◌≡◌, ◌+◌, ◌<◌, ◌≤◌, ℕ, false, List, [], length, Some, slice_get, ap, sym, ◌∙◌, subst, inl, inr, arith}
use Rattle.std.proofs.lemmas.Option.{slice_get_within}
use Rattle.cob_tree.specs.declared.program.Range.{Range}
use Rattle.program_points.specs.paths.Flow.{is_exit}
use Rattle.program_points.specs.declared.point_table.table.ProgramPoint.{ProgramPoint}
use Rattle.program_points.specs.declared.point_table.table.ProgramPoint.TheVariants.{Calls, Ends}
use Rattle.program_points.specs.declared.point_table.table.Table.{Table}
use Rattle.pending_returns.specs.levels.Reach.{Holds, Adds, IsCalled, IsEnded, GathersCalls, GathersEnds, GathersAllCalls, GathersAllEnds}
use Rattle.pending_returns.proofs.levels_lemmas.Searching.{before-or-now}

holds-after : (before after : List ℕ) (number : ℕ) → ((at other : ℕ) → slice_get before at ≡ Some other → slice_get after at ≡ Some other) → Holds before number → Holds after number
holds-after before after number kept h = (h.0, kept h.0 number h.1)

module _ (table : Table) (places : List ℕ) where
  pub calls-none : (calls : List ℕ) → calls ≡ [] → GathersCalls table places calls 0
  calls-none calls none = record {
    sound = λ range h. absurd (let f : slice_get [] h.0 ≡ Some range = ap (λ (ps : List ℕ). slice_get ps h.0) (sym none) ∙ h.1 in let k : ⊥ = cc in k);
    done = λ at place range after lt e f. absurd (omega arith);
  }

  pub calls-more : (calls more : List ℕ) (index here range after : ℕ) → GathersCalls table places calls index → slice_get places index ≡ Some here → slice_get table.places here ≡ Some (Calls range after) → Adds calls more range → GathersCalls table places more (index + 1)
  calls-more calls more index here range after so e f adds = record {
    sound = λ other g. elim (adds.only other g) [
      | inl old ↦ so.sound other old
      | inr same ↦ subst (λ (n : ℕ). IsCalled table places n) (sym same) (here, after, (index, e), f)
    ];
    done = λ at place other behind less g h. elim (before-or-now at index less) [
      | inl before ↦ holds-after calls more other adds.kept (so.done at place other behind before g h)
      | inr now ↦
          let first : Some here ≡ Some place = sym e ∙ ap (λ (n : ℕ). slice_get places n) (sym now) ∙ g in
          let same : here ≡ place = cc in
          let second : Some (Calls range after) ≡ Some (Calls other behind) = sym f ∙ ap (λ (n : ℕ). slice_get table.places n) same ∙ h in
          let range_same : range ≡ other = cc in
          subst (λ (n : ℕ). Holds more n) range_same adds.added
    ];
  }

  pub calls-skip : (calls : List ℕ) (index here : ℕ) (place : ProgramPoint) → GathersCalls table places calls index → slice_get places index ≡ Some here → slice_get table.places here ≡ Some place → ((range after : ℕ) → place ≡ Calls range after → ⊥) → GathersCalls table places calls (index + 1)
  calls-skip calls index here place so e f none = record {
    sound = so.sound;
    done = λ at other range after less g h. elim (before-or-now at index less) [
      | inl before ↦ so.done at other range after before g h
      | inr now ↦ absurd (
          let first : Some here ≡ Some other = sym e ∙ ap (λ (n : ℕ). slice_get places n) (sym now) ∙ g in
          let same : here ≡ other = cc in
          let second : Some place ≡ Some (Calls range after) = sym f ∙ ap (λ (n : ℕ). slice_get table.places n) same ∙ h in
          let k : place ≡ Calls range after = cc in
          none range after k)
    ];
  }

  pub calls-all : (calls : List ℕ) (index : ℕ) → GathersCalls table places calls index → length places ≤ index → GathersAllCalls table places calls
  calls-all calls index so le = λ range. (
    so.sound range,
    λ call. so.done call.2.0 call.0 range call.1 (let lt : call.2.0 < length places = slice_get_within places call.2.0 call.0 call.2.1 in omega arith) call.2.1 call.3,
  )

module _ (table : Table) (range : Range) (places : List ℕ) where
  pub ends-none : (ends : List ℕ) → ends ≡ [] → GathersEnds table range places ends 0
  ends-none ends none = record {
    sound = λ paragraph h. absurd (let f : slice_get [] h.0 ≡ Some paragraph = ap (λ (ps : List ℕ). slice_get ps h.0) (sym none) ∙ h.1 in let k : ⊥ = cc in k);
    done = λ at place paragraph lt e f g. absurd (omega arith);
  }

  pub ends-more : (ends more : List ℕ) (index here paragraph : ℕ) → GathersEnds table range places ends index → slice_get places index ≡ Some here → slice_get table.places here ≡ Some (Ends paragraph) → is_exit range.exit paragraph ≡ false → Adds ends more paragraph → GathersEnds table range places more (index + 1)
  ends-more ends more index here paragraph so e f out adds = record {
    sound = λ other g. elim (adds.only other g) [
      | inl old ↦ so.sound other old
      | inr same ↦ subst (λ (n : ℕ). IsEnded table range places n) (sym same) (here, (index, e), f, out)
    ];
    done = λ at place other less g h k. elim (before-or-now at index less) [
      | inl before ↦ holds-after ends more other adds.kept (so.done at place other before g h k)
      | inr now ↦
          let first : Some here ≡ Some place = sym e ∙ ap (λ (n : ℕ). slice_get places n) (sym now) ∙ g in
          let same : here ≡ place = cc in
          let second : Some (Ends paragraph) ≡ Some (Ends other) = sym f ∙ ap (λ (n : ℕ). slice_get table.places n) same ∙ h in
          let paragraph_same : paragraph ≡ other = cc in
          subst (λ (n : ℕ). Holds more n) paragraph_same adds.added
    ];
  }

  pub ends-skip : (ends : List ℕ) (index here : ℕ) (place : ProgramPoint) → GathersEnds table range places ends index → slice_get places index ≡ Some here → slice_get table.places here ≡ Some place → ((paragraph : ℕ) → place ≡ Ends paragraph → is_exit range.exit paragraph ≡ false → ⊥) → GathersEnds table range places ends (index + 1)
  ends-skip ends index here place so e f none = record {
    sound = so.sound;
    done = λ at other paragraph less g h out. elim (before-or-now at index less) [
      | inl before ↦ so.done at other paragraph before g h out
      | inr now ↦ absurd (
          let first : Some here ≡ Some other = sym e ∙ ap (λ (n : ℕ). slice_get places n) (sym now) ∙ g in
          let same : here ≡ other = cc in
          let second : Some place ≡ Some (Ends paragraph) = sym f ∙ ap (λ (n : ℕ). slice_get table.places n) same ∙ h in
          let k : place ≡ Ends paragraph = cc in
          none paragraph k out)
    ];
  }

  pub ends-all : (ends : List ℕ) (index : ℕ) → GathersEnds table range places ends index → length places ≤ index → GathersAllEnds table range places ends
  ends-all ends index so le = λ paragraph. (
    so.sound paragraph,
    λ end. so.done end.1.0 end.0 paragraph (let lt : end.1.0 < length places = slice_get_within places end.1.0 end.0 end.1.1 in omega arith) end.1.1 end.2 end.3,
  )
