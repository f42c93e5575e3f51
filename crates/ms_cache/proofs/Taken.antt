-- What is left where an instruction was taken that makes no pointer and passes none, and where a load gave way to a value.
use Rattle.std.proofs.Common.{◌≡◌, ◌⊎◌, ◌↔◌, ℕ, true, false, List, [], Some, refl, sym, ap, ◌∙◌, subst, inr, ⊎_elim, true≢false}
use Rattle.std.specs.Prelude.{◌≢◌, Contains, slice_get}
use Rattle.ms_ir.specs.declared.names.Ty.{Ty}
use Rattle.ms_ir.specs.declared.names.Ty.TheVariants.{I1, I8, I16, I32, I64, Ptr}
use Rattle.ms_ir.specs.declared.names.LocalNo.{LocalNo}
use Rattle.ms_ir.specs.declared.names.InstNo.{InstNo}
use Rattle.ms_ir.specs.declared.inst.Val.{Val}
use Rattle.ms_ir.specs.declared.inst.Arg.{Arg}
use Rattle.ms_ir.specs.declared.inst.Inst.{Inst}
use Rattle.ms_ir.specs.declared.inst.Inst.TheVariants.{Load}
use Rattle.ms_ir.specs.Func.{Placed, FuncState, IsAt, IsTaken, insts_at}
use Rattle.ms_ir.specs.Changes.{inst_with, val_with, placed_with, block_with, with_replaced}
use Rattle.ms_ir.specs.Inst.{result_type}
use Rattle.ms_ir.specs.Locals.{IsNumbered}
use Rattle.ms_ir.specs.Types.{is_integer, is_stored, types_stand}
use Rattle.ms_ir.specs.SoundFunc.{IsSoundFunc}
use Rattle.ms_alias.specs.declared.loc.Loc.{Loc}
use Rattle.ms_alias.specs.declared.loc.Loc.TheVariants.{Bytes, ReadBy}
use Rattle.ms_alias.specs.Roots.{makes_pointer}
use Rattle.ms_alias.specs.Bases.{Alloca as AllocaBase}
use Rattle.ms_alias.specs.Captured.{IsCaptured, args_of}
use Rattle.ms_alias.specs.Tables.{AliasState, IsAliasOf}
use Rattle.ms_alias.proofs.Makers.{pointer_from}
use Rattle.ms_cache.specs.Edited.{GivesWay, IsLoadGone, SamePointers, SameWrites, SameReads, SameLocs}
use Rattle.ms_cache.proofs.Alike.{Alike, alike_back, tables_alike}
use Rattle.ms_cache.proofs.Insts.{Has, within, cut_alike, cut_from, cut_to}
use Rattle.ms_cache.proofs.Accesses.{FindsMakers, Both, val_base, Finds, FindsLoc, WritesAlike, ReadsAlike, writes_same, reads_same, writes_between, reads_between, pointers_both, loc_read, loc_written}
use Rattle.ms_cache.proofs.Mapped.{at_from}
use Rattle.ms_cache.proofs.Replaced.{none_in, insts_are, number_same, replaced_tables, replaced_pointers, replaced_writes, replaced_reads, replaced_locs}

module _ (f g : FuncState) (n : ℕ) (inst : Inst) (t : IsTaken f g n inst) (idle : makes_pointer inst ≡ false) (bare : args_of inst ≡ []) where
  take_alike : Alike f g
  take_alike = subst (Alike f) (sym t.rest) (cut_alike f t.b t.place t.x t.at.found (sym (ap makes_pointer t.inst_is) ∙ idle))

  has_to : (y : Placed) → Has f.blocks y → (t.x ≡ y) ⊎ Has g.blocks y
  has_to y h = subst (λ (e : FuncState). (t.x ≡ y) ⊎ Has e.blocks y) (sym t.rest) (cut_to f.blocks t.b t.place t.x y t.at.found h)

  has_from : (y : Placed) → Has g.blocks y → Has f.blocks y
  has_from y h = cut_from f.blocks t.b t.place y (subst (λ (e : FuncState). Has e.blocks y) t.rest h)

  no_args : (y : Placed) → t.x ≡ y → args_of y.inst ≡ []
  no_args y e = sym (ap (λ (z : Placed). args_of z.inst) e) ∙ sym (ap args_of t.inst_is) ∙ bare

  captured_to : (l : LocalNo) → IsCaptured f l → IsCaptured g l
  captured_to l h =
      let k = h.4 in
      ⊎_elim
      (λ (s : t.x ≡ h.2). absurd (none_in k.0 (subst (λ (args : List Arg). Contains args k.0) (no_args h.2 s) k.1)))
      (λ (r : Has g.blocks h.2). (r.0, r.1, h.2, r.2, (k.0, k.1, k.2, val_base f g take_alike k.0.val (AllocaBase l) k.3)))
      (has_to h.2 (h.0, h.1, h.3))

  captured_from : (l : LocalNo) → IsCaptured g l → IsCaptured f l
  captured_from l h =
      let k = h.4 in
      let r = has_from h.2 (h.0, h.1, h.3) in
      (r.0, r.1, h.2, r.2, (k.0, k.1, k.2, val_base g f (alike_back f g take_alike) k.0.val (AllocaBase l) k.3))

  take_both : Both f g
  take_both = record { alike = take_alike; captured = λ l. (captured_to l, captured_from l) }

  pub take_tables : (a : AliasState) → IsAliasOf f a → IsAliasOf g a
  take_tables a is = tables_alike f g a take_alike take_both.captured is

  at_to : (i : ℕ) → i ≢ n → (b k : ℕ) (x : Placed) → IsAt f.blocks i b k x → (c : ℕ) × (j : ℕ) × IsAt g.blocks i c j x
  at_to i ne b k x at =
      ⊎_elim
      (λ (s : t.x ≡ x). absurd (ne (sym at.numbered ∙ sym (ap (λ (z : Placed). z.number) s) ∙ t.at.numbered)))
      (λ (r : Has g.blocks x). (r.0, r.1, record { block = within g.blocks r.0 r.1 x r.2; found = r.2; numbered = at.numbered }))
      (has_to x (b, k, at.found))

  at_back : (i : ℕ) (b k : ℕ) (x : Placed) → IsAt g.blocks i b k x → (c : ℕ) × (j : ℕ) × IsAt f.blocks i c j x
  at_back i b k x at = let r = has_from x (b, k, at.found) in (r.0, r.1, record { block = within f.blocks r.0 r.1 x r.2; found = r.2; numbered = at.numbered })

  makers_to : FindsMakers f g
  makers_to l q b k x at e =
      ⊎_elim
      (λ (s : t.x ≡ x). absurd (true≢false (sym (pointer_from l x e) ∙ ap (λ (z : Placed). makes_pointer z.inst) (sym s) ∙ sym (ap makes_pointer t.inst_is) ∙ idle)))
      (λ (r : Has g.blocks x). (r.0, r.1, x, record { block = within g.blocks r.0 r.1 x r.2; found = r.2; numbered = at.numbered }, e))
      (has_to x (b, k, at.found))

  makers_from : FindsMakers g f
  makers_from l q b k x at e = let r = at_back q b k x at in (r.0, r.1, x, r.2, e)

  pub take_pointers : SamePointers f g
  take_pointers = pointers_both f g take_both makers_to makers_from

  writes_to : (i : ℕ) → i ≢ n → Finds f g (WritesAlike f g) i
  writes_to i ne b k x at = let r = at_to i ne b k x at in (r.0, r.1, x, r.2, writes_same f g take_alike x.inst)

  writes_from : (i : ℕ) → Finds g f (WritesAlike g f) i
  writes_from i b k x at = let r = at_back i b k x at in (r.0, r.1, x, r.2, writes_same g f (alike_back f g take_alike) x.inst)

  reads_to : (i : ℕ) → i ≢ n → Finds f g (ReadsAlike f g) i
  reads_to i ne b k x at = let r = at_to i ne b k x at in (r.0, r.1, x, r.2, reads_same f g take_alike x.inst)

  reads_from : (i : ℕ) → Finds g f (ReadsAlike g f) i
  reads_from i b k x at = let r = at_back i b k x at in (r.0, r.1, x, r.2, reads_same g f (alike_back f g take_alike) x.inst)

  loc_to : (loc : Loc) → loc ≢ ReadBy (record { 0 = n }) → FindsLoc f g loc
  loc_to (Bytes root from len) h = tt
  loc_to (ReadBy j) h = reads_to j.0 (λ e. h (ap (λ m. ReadBy (record { 0 = m })) e))

  loc_from : (loc : Loc) → FindsLoc g f loc
  loc_from (Bytes root from len) = tt
  loc_from (ReadBy j) = reads_from j.0

  pub take_writes : (i : ℕ) (loc : Loc) → i ≢ n → loc ≢ ReadBy (record { 0 = n }) → SameWrites f g i loc
  take_writes i loc ne h = writes_between f g take_both i loc (writes_to i ne) (loc_to loc h) (writes_from i) (loc_from loc)

  pub take_reads : (i : ℕ) (loc : Loc) → i ≢ n → loc ≢ ReadBy (record { 0 = n }) → SameReads f g i loc
  take_reads i loc ne h = reads_between f g take_both i loc (reads_to i ne) (loc_to loc h) (reads_from i) (loc_from loc)

  pub take_locs : (i : InstNo) → i.0 ≢ n → SameLocs f g i
  take_locs i ne = record {
    reads = λ loc. (
      λ h. let r = at_to i.0 ne h.0 h.1 h.2 h.3 in (r.0, r.1, h.2, r.2, loc_read f g take_alike i h.2.inst loc h.4),
      λ h. let r = at_back i.0 h.0 h.1 h.2 h.3 in (r.0, r.1, h.2, r.2, loc_read g f (alike_back f g take_alike) i h.2.inst loc h.4),
    );
    writes = λ loc. (
      λ h. let r = at_to i.0 ne h.0 h.1 h.2 h.3 in (r.0, r.1, h.2, r.2, loc_written f g take_alike h.2.inst loc h.4),
      λ h. let r = at_back i.0 h.0 h.1 h.2 h.3 in (r.0, r.1, h.2, r.2, loc_written g f (alike_back f g take_alike) h.2.inst loc h.4),
    );
  }

-- ---- one edit behind another

both_ways : {A B C : Type 0} → A ↔ B → B ↔ C → A ↔ C
both_ways s t = (λ a. t.0 (s.0 a), λ c. s.1 (t.1 c))

pointers_on : (f g h : FuncState) → SamePointers f g → SamePointers g h → SamePointers f h
pointers_on f g h s t = record {
  roots = λ p r o. both_ways (s.roots p r o) (t.roots p r o);
  bases = λ p b. both_ways (s.bases p b) (t.bases p b);
  turning = λ r. both_ways (s.turning r) (t.turning r);
  turned = λ r q. both_ways (s.turned r q) (t.turned r q);
  captured = λ l. both_ways (s.captured l) (t.captured l);
}

-- ---- a load

stored_integer : (ty : Ty) → is_stored ty ≡ true → is_integer ty ≡ true
stored_integer I1 e = cc
stored_integer I8 e = refl
stored_integer I16 e = refl
stored_integer I32 e = refl
stored_integer I64 e = refl
stored_integer Ptr e = cc

module _ (f g : FuncState) (n : ℕ) (by : Val) (numbered : IsNumbered f) (sound : IsSoundFunc f) (gone : IsLoadGone f g n by) where
  way : GivesWay f gone.l by
  way = record {
    ty = gone.ty;
    integer = stored_integer gone.ty (sym (ap types_stand gone.load) ∙ (sound.insts gone.b gone.place gone.x gone.at.found).types);
    local = inr (gone.b, gone.place, gone.x, record { found = gone.at.found; gives = gone.result }, ap result_type gone.load);
    value = gone.value;
  }

  -- what was taken is the load
  load_is : gone.inst ≡ Load gone.ty (val_with gone.l by gone.ptr) gone.tail
  load_is =
      let t = gone.taken in
      let r = at_from (placed_with gone.l by) (block_with gone.l by) (insts_are gone.l by) (number_same gone.l by) f.blocks n t.b t.place t.x t.at in
      let place = numbered.one_place t.b t.place gone.b gone.place r.0 gone.x r.1.found gone.at.found (r.1.numbered ∙ sym gone.at.numbered) in
      let there : slice_get (insts_at f.blocks gone.b) gone.place ≡ Some r.0 = subst (λ k. slice_get (insts_at f.blocks gone.b) k ≡ Some r.0) place.1 (subst (λ c. slice_get (insts_at f.blocks c) t.place ≡ Some r.0) place.0 r.1.found) in
      let both : Some r.0 ≡ Some gone.x = sym there ∙ gone.at.found in
      let same : r.0 ≡ gone.x = cc in
      t.inst_is ∙ sym (ap (λ (z : Placed). z.inst) r.2) ∙ ap (λ (z : Placed). inst_with gone.l by z.inst) same ∙ ap (inst_with gone.l by) gone.load

  load_idle : makes_pointer gone.inst ≡ false
  load_idle = ap makes_pointer load_is

  load_bare : args_of gone.inst ≡ []
  load_bare = ap args_of load_is

  pub load_tables : (a : AliasState) → IsAliasOf f a → IsAliasOf g a
  load_tables a is = take_tables (with_replaced f gone.l by) g n gone.inst gone.taken load_idle load_bare a (replaced_tables f numbered gone.l by way sound a is)

  pub load_pointers : SamePointers f g
  load_pointers = pointers_on f (with_replaced f gone.l by) g (replaced_pointers f numbered gone.l by way sound) (take_pointers (with_replaced f gone.l by) g n gone.inst gone.taken load_idle load_bare)

  pub load_writes : (i : ℕ) (loc : Loc) → i ≢ n → loc ≢ ReadBy (record { 0 = n }) → SameWrites f g i loc
  load_writes i loc ne h =
      let s = replaced_writes f numbered gone.l by way sound i loc in
      let t = take_writes (with_replaced f gone.l by) g n gone.inst gone.taken load_idle load_bare i loc ne h in
      record { at_all = both_ways s.at_all t.at_all; in_turn = both_ways s.in_turn t.in_turn }

  pub load_reads : (i : ℕ) (loc : Loc) → i ≢ n → loc ≢ ReadBy (record { 0 = n }) → SameReads f g i loc
  load_reads i loc ne h = both_ways (replaced_reads f numbered gone.l by way sound i loc) (take_reads (with_replaced f gone.l by) g n gone.inst gone.taken load_idle load_bare i loc ne h)

  pub load_locs : (i : InstNo) → i.0 ≢ n → SameLocs f g i
  load_locs i ne =
      let s = replaced_locs f numbered gone.l by way sound i in
      let t = take_locs (with_replaced f gone.l by) g n gone.inst gone.taken load_idle load_bare i ne in
      record { reads = λ loc. both_ways (s.reads loc) (t.reads loc); writes = λ loc. both_ways (s.writes loc) (t.writes loc) }
