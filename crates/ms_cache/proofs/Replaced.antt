-- What is left where a local that holds numbers gave way to a value of its type.
use Rattle.std.proofs.Common.{◌≡◌, ◌<◌, ℕ, zero, suc, Bool, true, false, cond, List, [], ◌∷◌, Some, None, length, get_or, map, refl, sym, ap, ◌∙◌, subst, inl, inr, ⊎_elim, true≢false, arith}
use Rattle.std.specs.Prelude.{◌==◌, Contains, slice_get}
use Rattle.std.proofs.lemmas.Bool.{cond-true, cond-false, ne_eqb, and_parts, cases_Bool}
use Rattle.std.proofs.lemmas.Option.{slice_get_within}
use Rattle.ms_ir.specs.declared.names.Ty.{Ty}
use Rattle.ms_ir.specs.declared.names.Ty.TheVariants.{I1, I8, I16, I32, I64, Ptr}
use Rattle.ms_ir.specs.declared.names.LocalNo.{LocalNo}
use Rattle.ms_ir.specs.declared.names.InstNo.{InstNo}
use Rattle.ms_ir.specs.declared.names.Param.{Param}
use Rattle.ms_ir.specs.declared.inst.Val.{Val}
use Rattle.ms_ir.specs.declared.inst.Val.TheVariants.{Num, Local as LocalVal, Global as GlobalVal}
use Rattle.ms_ir.specs.declared.inst.Arg.{Arg}
use Rattle.ms_ir.specs.declared.inst.Entry.{Entry}
use Rattle.ms_ir.specs.declared.inst.Inst.{Inst}
use Rattle.ms_ir.specs.declared.inst.Inst.TheVariants.{Alloca as AllocaInst, Gep, Step as StepInst, Load, Store, Copy, Call, Bin, Cmp, Select, Cast, Phi}
use Rattle.ms_ir.specs.declared.inst.Term.{Term}
use Rattle.ms_ir.specs.declared.inst.Term.TheVariants.{Br, CondBr, Ret, Unreachable}
use Rattle.ms_ir.specs.Func.{Placed, Block, FuncState, IsAt, IsSomewhere, insts_at}
use Rattle.ms_ir.specs.Changes.{val_with, arg_with, entry_with, inst_with, term_with, placed_with, block_with, with_replaced}
use Rattle.ms_ir.specs.Graph.{successors}
use Rattle.ms_ir.specs.Inst.{result_type}
use Rattle.ms_ir.specs.Locals.{IsNumbered, HasType}
use Rattle.ms_ir.specs.Types.{is_integer, is_pointer, types_stand}
use Rattle.ms_ir.specs.Uses.{of_type, arg_operand, entry_operand, operands_of}
use Rattle.ms_ir.specs.SoundFunc.{IsValueIn, AreValues, IsSoundFunc}
use Rattle.ms_meaning.specs.Values.{size_of}
use Rattle.ms_alias.specs.declared.loc.Root.{Root}
use Rattle.ms_alias.specs.declared.loc.Root.TheVariants.{Local}
use Rattle.ms_alias.specs.declared.loc.Loc.{Loc}
use Rattle.ms_alias.specs.declared.loc.Loc.TheVariants.{Bytes, ReadBy}
use Rattle.ms_alias.specs.Roots.{makes, makes_pointer, maker_of, pointer_of, step_by}
use Rattle.ms_alias.specs.Bases.{Base, Alloca as AllocaBase, HasBase, HasValBase, IsBrought, IsNamed, with_pointer, pointers_in, leads_in}
use Rattle.ms_alias.specs.Captured.{IsCaptured, args_of}
use Rattle.ms_alias.specs.Reaches.{Reach, Called, IsSpan, IsLocRead, IsLocWritten}
use Rattle.ms_alias.specs.Tables.{AliasState, IsAliasOf}
use Rattle.ms_alias.proofs.Makers.{is_number, no_maker}
use Rattle.ms_cache.specs.Edited.{GivesWay, SamePointers, SameWrites, SameReads, SameLocs}
use Rattle.ms_cache.proofs.Alike.{Alike, alike_back, tables_alike}
use Rattle.ms_cache.proofs.Accesses.{FindsMakers, Both, val_base, lead, LeadTo, SameReach, reach_same, span_kept, Finds, FindsLoc, WritesAlike, ReadsAlike, writes_between, reads_between, pointers_both, loc_read, loc_written}
use Rattle.ms_cache.proofs.Mapped.{MakesAlike, makes_local, found_to, found_from, makers_map, edges_map, finds_to, finds_from, at_to, at_from}

-- ---- lists

here_in : {A : Type 0} (x : A) (xs : List A) → Contains (x ∷ xs) x
here_in x xs = (zero, omega arith, refl)

there_in : {A : Type 0} (y : A) (xs : List A) (x : A) → Contains xs x → Contains (y ∷ xs) x
there_in y xs x h = (suc h.0, let lt = h.1 in omega arith, h.2)

pub none_in : {A : Type 0} (x : A) → Contains [] x → ⊥
none_in x h = let below : h.0 < 0 = h.1 in omega arith

map_in : {A B : Type 0} (p : A → B) (xs : List A) (x : A) → Contains xs x → Contains (map p xs) (p x)
map_in p xs x h = at xs h.0 h.1 h.2 where
  at : (ys : List _) (k : ℕ) → k < length ys → get_or ys k x ≡ x → Contains (map p ys) (p x)
  at [] k lt e = absurd (omega arith)
  at (y ∷ ys) zero lt e = (zero, omega arith, ap p e)
  at (y ∷ ys) (suc k) lt e = let r = at ys k (omega arith) e in there_in (p y) (map p ys) (p x) r

in_map : {A B : Type 0} (p : A → B) (xs : List A) (z : B) → Contains (map p xs) z → (x : A) × Contains xs x × (p x ≡ z)
in_map p xs z h = at xs h.0 h.1 h.2 where
  at : (ys : List _) (k : ℕ) → k < length (map p ys) → get_or (map p ys) k z ≡ z → (x : _) × Contains ys x × (p x ≡ z)
  at [] k lt e = absurd (omega arith)
  at (y ∷ ys) zero lt e = (y, here_in y ys, e)
  at (y ∷ ys) (suc k) lt e = let r = at ys k (omega arith) e in (r.0, there_in y ys r.0 r.1, r.2)

-- ---- types

pointer_is : (ty : Ty) → is_pointer ty ≡ true → ty ≡ Ptr
pointer_is I1 e = cc
pointer_is I8 e = cc
pointer_is I16 e = cc
pointer_is I32 e = cc
pointer_is I64 e = cc
pointer_is Ptr e = refl

-- what makes a pointer has one as its result
pointer_type : (p : Inst) → makes_pointer p ≡ true → result_type p ≡ Some Ptr
pointer_type (AllocaInst size head tail) e = refl
pointer_type (Gep base offset head index tail) e = refl
pointer_type (StepInst base offset terms head index tail) e = refl
pointer_type (Select test ty a b tail) e = ap Some (pointer_is ty e)
pointer_type (Phi ty entries tail) e = ap Some (pointer_is ty e)
pointer_type (Load ty ptr tail) e = cc
pointer_type (Store ty val ptr tail) e = cc
pointer_type (Copy to from len head tail) e = cc
pointer_type (Call callee ret args effects head tail) e = cc
pointer_type (Bin op flags ty a b tail) e = cc
pointer_type (Cmp pred flags ty a b tail) e = cc
pointer_type (Cast op flags from a to tail) e = cc

-- a local has one type
one_type : (f : FuncState) (l : LocalNo) (a b : Ty) → IsNumbered f → HasType f l a → HasType f l b → a ≡ b
one_type f l a b n (inl p) (inl q) = let same : Some p.0 ≡ Some q.0 = sym p.1 ∙ q.1 in let one : p.0 ≡ q.0 = cc in sym p.2 ∙ ap (λ (x : Param). x.ty) one ∙ q.2
one_type f l a b n (inl p) (inr g) = let within = slice_get_within f.params l.0 p.0 p.1 in let range = (n.result_range l g.0 g.1 g.2 g.3).0 in absurd (omega arith)
one_type f l a b n (inr g) (inl p) = let within = slice_get_within f.params l.0 p.0 p.1 in let range = (n.result_range l g.0 g.1 g.2 g.3).0 in absurd (omega arith)
one_type f l a b n (inr g) (inr h) =
    let at = n.one_giver l g.0 g.1 h.0 h.1 g.2 h.2 g.3 h.3 in
    let there : slice_get (insts_at f.blocks h.0) h.1 ≡ Some g.2 = subst (λ k. slice_get (insts_at f.blocks h.0) k ≡ Some g.2) at.1 (subst (λ c. slice_get (insts_at f.blocks c) g.1 ≡ Some g.2) at.0 g.3.found) in
    let same : Some g.2 ≡ Some h.2 = sym there ∙ h.3.found in
    let one : g.2 ≡ h.2 = cc in
    let both : Some a ≡ Some b = sym g.4 ∙ ap (λ (x : Placed). result_type x.inst) one ∙ h.4 in
    cc

successors_same : (l : LocalNo) (by : Val) (t : Term) → successors (term_with l by t) ≡ successors t
successors_same l by (Br b text) = refl
successors_same l by (CondBr test a b text) = refl
successors_same l by (Ret None text) = refl
successors_same l by (Ret (Some p) text) = refl
successors_same l by (Unreachable text) = refl

args_with : (l : LocalNo) (by : Val) (p : Inst) → args_of (inst_with l by p) ≡ map (arg_with l by) (args_of p)
args_with l by (AllocaInst size head tail) = refl
args_with l by (Gep base offset head index tail) = refl
args_with l by (StepInst base offset terms head index tail) = refl
args_with l by (Load ty ptr tail) = refl
args_with l by (Store ty val ptr tail) = refl
args_with l by (Copy to from len head tail) = refl
args_with l by (Call callee ret args effects head tail) = refl
args_with l by (Bin op flags ty a b tail) = refl
args_with l by (Cmp pred flags ty a b tail) = refl
args_with l by (Select test ty a b tail) = refl
args_with l by (Cast op flags from a to tail) = refl
args_with l by (Phi ty entries tail) = refl

pub insts_are : (l : LocalNo) (by : Val) (b : Block) → (block_with l by b).insts ≡ map (placed_with l by) b.insts
insts_are l by b = refl

pub number_same : (l : LocalNo) (by : Val) (x : Placed) → (placed_with l by x).number ≡ x.number
number_same l by x = refl

pub replaced_there : (f : FuncState) (l : LocalNo) (by : Val) (n : ℕ) → IsSomewhere f.blocks n → IsSomewhere (with_replaced f l by).blocks n
replaced_there f l by n h = (h.0, h.1, placed_with l by h.2, at_to (placed_with l by) (block_with l by) (insts_are l by) (number_same l by) f.blocks n h.0 h.1 h.2 h.3)

module _ (f : FuncState) (n : IsNumbered f) (l : LocalNo) (by : Val) (w : GivesWay f l by) where
  -- ---- values

  no_pointer : (k : LocalNo) (ty : Ty) → HasType f k ty → is_integer ty ≡ true → HasType f k Ptr → ⊥
  no_pointer k ty h i p = true≢false (sym i ∙ ap is_integer (one_type f k ty Ptr n h p))

  -- a pointer stays what it is
  stays : (v : Val) → IsValueIn f Ptr v → val_with l by v ≡ v
  stays (Num ty m) h = refl
  stays (GlobalVal g) h = refl
  stays (LocalVal k) h = cond-false (k.0 == l.0) by (LocalVal k) (ne_eqb k.0 l.0 (λ e. no_pointer l w.ty w.local w.integer (subst (λ (m : LocalNo). HasType f m Ptr) (is_number k l e) h)))

  stays_typed : (ty : Ty) (v : Val) → is_pointer ty ≡ true → IsValueIn f ty v → val_with l by v ≡ v
  stays_typed ty v e h = stays v (subst (λ (t : Ty). IsValueIn f t v) (pointer_is ty e) h)

  no_maker_of : (k : LocalNo) (ty : Ty) → HasType f k ty → is_integer ty ≡ true → maker_of f k ≡ None
  no_maker_of k ty h i = no_maker f k (λ c j x g p. no_pointer k ty h i (inr (c, j, x, g, pointer_type x.inst p)))

  not_named : (k : LocalNo) (ty : Ty) → HasType f k ty → is_integer ty ≡ true → (b : Base) → IsNamed f (Local k) b → ⊥
  not_named k ty h i b (inl a) = let m = a.0 in let both : Some m.0 ≡ None = sym m.1 ∙ no_maker_of k ty h i in cc
  not_named k ty h i b (inr a) = let p = a.0 in no_pointer k ty h i (inl (p.0, p.1, pointer_is p.0.ty p.2))

  not_brought : (k : LocalNo) (ty : Ty) → HasType f k ty → is_integer ty ≡ true → (b : Base) (m : ℕ) (q : Root) → IsBrought f m (Local k) q → IsNamed f q b → ⊥
  not_brought k ty h i b zero q e named = not_named k ty h i b (subst (λ (r : Root). IsNamed f r b) (sym e) named)
  not_brought k ty h i b (suc m) q e named = none_in e.0 (subst (λ ps. Contains ps e.0) (ap leads_in (no_maker_of k ty h i)) e.1)

  -- a number has no base
  no_base : (v : Val) (ty : Ty) → is_integer ty ≡ true → IsValueIn f ty v → (b : Base) → HasValBase f v b → ⊥
  no_base (Num own m) ty i h b k = let none : None ≡ Some k.0 = k.1 in cc
  no_base (LocalVal j) ty i h b k =
      let some : Some (Local j) ≡ Some k.0 = k.1 in
      let same : Local j ≡ k.0 = cc in
      let base : HasBase f (Local j) b = subst (λ (r : Root). HasBase f r b) (sym same) k.2 in
      not_brought j ty h i b base.0 base.1 base.2 base.3
  no_base (GlobalVal g) ty i h b k = true≢false (sym i ∙ ap is_integer h)

  base_to : (v : Val) (b : Base) → HasValBase f v b → HasValBase f (val_with l by v) b
  base_to (Num own m) b h = h
  base_to (GlobalVal g) b h = h
  base_to (LocalVal k) b h =
      let other : (k.0 == l.0) ≡ false = ne_eqb k.0 l.0 (λ e. no_base (LocalVal l) w.ty w.integer w.local b (subst (λ (m : LocalNo). HasValBase f (LocalVal m) b) (is_number k l e) h)) in
      subst (λ (v : Val). HasValBase f v b) (sym (cond-false (k.0 == l.0) by (LocalVal k) other)) h

  base_from : (v : Val) (b : Base) → HasValBase f (val_with l by v) b → HasValBase f v b
  base_from (Num own m) b h = h
  base_from (GlobalVal g) b h = h
  base_from (LocalVal k) b h =
      ⊎_elim
      (λ (t : (k.0 == l.0) ≡ true). absurd (no_base by w.ty w.integer w.value b (subst (λ (v : Val). HasValBase f v b) (cond-true (k.0 == l.0) by (LocalVal k) t) h)))
      (λ (e : (k.0 == l.0) ≡ false). subst (λ (v : Val). HasValBase f v b) (cond-false (k.0 == l.0) by (LocalVal k) e) h)
      (cases_Bool (k.0 == l.0))

  lead_to : (args : List Arg) (b : Base) → LeadTo f args b → LeadTo f (map (arg_with l by) args) b
  lead_to args b h = (arg_with l by h.0, map_in (arg_with l by) args h.0 h.1, base_to h.0.val b h.2)

  lead_from : (args : List Arg) (b : Base) → LeadTo f (map (arg_with l by) args) b → LeadTo f args b
  lead_from args b h =
      let r = in_map (arg_with l by) args h.0 h.1 in
      (r.0, r.1, base_from r.0.val b (subst (λ (a : Arg). HasValBase f a.val b) (sym r.2) h.2))

  -- ---- makers

  entries_lead : (ty : Ty) → is_pointer ty ≡ true → (es : List Entry) → AreValues f (map (entry_operand ty) es)
      → pointers_in (map (λ (e : Entry). e.val) es) ≡ pointers_in (map (λ (e : Entry). e.val) (map (entry_with l by) es))
  entries_lead ty t [] h = refl
  entries_lead ty t (e ∷ es) h =
      let first = stays_typed ty e.val t (h (entry_operand ty e) (here_in (entry_operand ty e) (map (entry_operand ty) es))) in
      ap (λ v. with_pointer (pointer_of v) (pointers_in (map (λ (d : Entry). d.val) es))) (sym first)
      ∙ ap (with_pointer (pointer_of (val_with l by e.val))) (entries_lead ty t es (λ o c. h o (there_in (entry_operand ty e) (map (entry_operand ty) es) o c)))

  makes_with : (p : Inst) → AreValues f (operands_of p) → MakesAlike p (inst_with l by p)
  makes_with (Gep base offset head index tail) h =
      let same = sym (stays base (h (of_type Ptr base) (here_in (of_type Ptr base) []))) in
      record { makes = refl; alloca = refl; step = λ e. ap (λ v. step_by offset (pointer_of v)) same; leads = λ e. ap (λ v. with_pointer (pointer_of v) []) same }
  makes_with (StepInst base offset terms head index tail) h =
      let same = sym (stays base (h (of_type Ptr base) (here_in (of_type Ptr base) _))) in
      record { makes = refl; alloca = refl; step = λ e. refl; leads = λ e. ap (λ v. with_pointer (pointer_of v) []) same }
  makes_with (Select test ty a b tail) h = record { makes = refl; alloca = refl; step = λ e. refl; leads = both }
    where
      both : is_pointer ty ≡ true → with_pointer (pointer_of a) (with_pointer (pointer_of b) []) ≡ with_pointer (pointer_of (val_with l by a)) (with_pointer (pointer_of (val_with l by b)) [])
      both e =
          let first = stays_typed ty a e (h (of_type ty a) (there_in (of_type I1 test) (of_type ty a ∷ of_type ty b ∷ []) (of_type ty a) (here_in (of_type ty a) (of_type ty b ∷ [])))) in
          let second = stays_typed ty b e (h (of_type ty b) (there_in (of_type I1 test) (of_type ty a ∷ of_type ty b ∷ []) (of_type ty b) (there_in (of_type ty a) (of_type ty b ∷ []) (of_type ty b) (here_in (of_type ty b) [])))) in
          ap (λ v. with_pointer (pointer_of v) (with_pointer (pointer_of b) [])) (sym first) ∙ ap (λ v. with_pointer (pointer_of (val_with l by a)) (with_pointer (pointer_of v) [])) (sym second)
  makes_with (Phi ty entries tail) h = record { makes = refl; alloca = refl; step = λ e. refl; leads = λ e. entries_lead ty e entries h }
  makes_with (AllocaInst size head tail) h = record { makes = refl; alloca = refl; step = λ e. refl; leads = λ e. refl }
  makes_with (Load ty ptr tail) h = record { makes = refl; alloca = refl; step = λ e. refl; leads = λ e. refl }
  makes_with (Store ty val ptr tail) h = record { makes = refl; alloca = refl; step = λ e. refl; leads = λ e. refl }
  makes_with (Copy to from len head tail) h = record { makes = refl; alloca = refl; step = λ e. refl; leads = λ e. refl }
  makes_with (Call callee ret args effects head tail) h = record { makes = refl; alloca = refl; step = λ e. refl; leads = λ e. refl }
  makes_with (Bin op flags ty a b tail) h = record { makes = refl; alloca = refl; step = λ e. refl; leads = λ e. refl }
  makes_with (Cmp pred flags ty a b tail) h = record { makes = refl; alloca = refl; step = λ e. refl; leads = λ e. refl }
  makes_with (Cast op flags from a to tail) h = record { makes = refl; alloca = refl; step = λ e. refl; leads = λ e. refl }

  module _ (sound : IsSoundFunc f) where
    with_alike : Alike f (with_replaced f l by)
    with_alike = record {
      makers = λ m. makers_map (placed_with l by) (block_with l by) (insts_are l by) 0 f.blocks m (λ c b k x e. makes_local m x (placed_with l by x) refl (makes_with x.inst (sound.insts b k x e).operands) c);
      params = refl;
      edges = sym (edges_map (placed_with l by) (block_with l by) (insts_are l by) (λ b. successors_same l by b.term) f.blocks);
    }

    captured_to : (m : LocalNo) → IsCaptured f m → IsCaptured (with_replaced f l by) m
    captured_to m h =
        let k = h.4 in
        let a = arg_with l by k.0 in (
          h.0,
          h.1,
          placed_with l by h.2,
          found_to (placed_with l by) (block_with l by) (insts_are l by) f.blocks h.0 h.1 h.2 h.3,
          (
            a,
            subst (λ (args : List Arg). Contains args a) (sym (args_with l by h.2.inst)) (map_in (arg_with l by) (args_of h.2.inst) k.0 k.1),
            k.2,
            val_base f (with_replaced f l by) with_alike a.val (AllocaBase m) (base_to k.0.val (AllocaBase m) k.3),
          ),
        )

    captured_from : (m : LocalNo) → IsCaptured (with_replaced f l by) m → IsCaptured f m
    captured_from m h =
        let k = h.4 in
        let r = found_from (placed_with l by) (block_with l by) (insts_are l by) f.blocks h.0 h.1 h.2 h.3 in
        let among = subst (λ (args : List Arg). Contains args k.0) (ap (λ (y : Placed). args_of y.inst) (sym r.2) ∙ args_with l by r.0.inst) k.1 in
        let a = in_map (arg_with l by) (args_of r.0.inst) k.0 among in
        let back = val_base (with_replaced f l by) f (alike_back f (with_replaced f l by) with_alike) k.0.val (AllocaBase m) k.3 in (
          h.0,
          h.1,
          r.0,
          r.1,
          (a.0, a.1, ap (λ (z : Arg). z.keeps) a.2 ∙ k.2, base_from a.0.val (AllocaBase m) (subst (λ (z : Arg). HasValBase f z.val (AllocaBase m)) (sym a.2) back)),
        )

    with_both : Both f (with_replaced f l by)
    with_both = record { alike = with_alike; captured = λ m. (captured_to m, captured_from m) }

    pub replaced_tables : (a : AliasState) → IsAliasOf f a → IsAliasOf (with_replaced f l by) a
    replaced_tables a is = tables_alike f (with_replaced f l by) a with_alike with_both.captured is

    makers_to : FindsMakers f (with_replaced f l by)
    makers_to m q b k x at e = (
      b,
      k,
      placed_with l by x,
      at_to (placed_with l by) (block_with l by) (insts_are l by) (number_same l by) f.blocks q b k x at,
      sym (makes_local m x (placed_with l by x) refl (makes_with x.inst (sound.insts b k x at.found).operands) 0).0 ∙ e,
    )

    makers_from : FindsMakers (with_replaced f l by) f
    makers_from m q b k y at e =
        let r = at_from (placed_with l by) (block_with l by) (insts_are l by) (number_same l by) f.blocks q b k y at in
        (b, k, r.0, r.1, (makes_local m r.0 (placed_with l by r.0) refl (makes_with r.0.inst (sound.insts b k r.0 r.1.found).operands) 0).0 ∙ ap (makes m) r.2 ∙ e)

    pub replaced_pointers : SamePointers f (with_replaced f l by)
    replaced_pointers = pointers_both f (with_replaced f l by) with_both makers_to makers_from

    -- ---- accesses

    called_to : (t : Bool) (args : List Arg) (other hidden : Bool)
        → SameReach f (with_replaced f l by) (Called (cond t args []) other hidden) (Called (cond t (map (arg_with l by) args) []) other hidden)
    called_to true args other hidden = (
      map (arg_with l by) args,
      refl,
      λ b. (
        λ h. lead f (with_replaced f l by) with_alike (map (arg_with l by) args) b (lead_to args b h),
        λ h. lead_from args b (lead (with_replaced f l by) f (alike_back f (with_replaced f l by) with_alike) (map (arg_with l by) args) b h),
      ),
    )
    called_to false args other hidden = reach_same f (with_replaced f l by) with_alike (Called [] other hidden)

    called_from : (t : Bool) (args : List Arg) (other hidden : Bool)
        → SameReach (with_replaced f l by) f (Called (cond t (map (arg_with l by) args) []) other hidden) (Called (cond t args []) other hidden)
    called_from true args other hidden = (
      args,
      refl,
      λ b. (
        λ h. lead_from args b (lead (with_replaced f l by) f (alike_back f (with_replaced f l by) with_alike) (map (arg_with l by) args) b h),
        λ h. lead f (with_replaced f l by) with_alike (map (arg_with l by) args) b (lead_to args b h),
      ),
    )
    called_from false args other hidden = reach_same (with_replaced f l by) f (alike_back f (with_replaced f l by) with_alike) (Called [] other hidden)

    span_to : (v : Val) (len : ℕ) (u : Reach) → val_with l by v ≡ v → IsSpan f v len u → IsSpan (with_replaced f l by) (val_with l by v) len u
    span_to v len u e h = subst (λ (x : Val). IsSpan (with_replaced f l by) x len u) (sym e) (span_kept f (with_replaced f l by) with_alike v len u h)

    span_from : (v : Val) (len : ℕ) (u : Reach) → val_with l by v ≡ v → IsSpan (with_replaced f l by) (val_with l by v) len u → IsSpan f v len u
    span_from v len u e h = span_kept (with_replaced f l by) f (alike_back f (with_replaced f l by) with_alike) v len u (subst (λ (x : Val). IsSpan (with_replaced f l by) x len u) e h)

    same_to : (u : Reach) → SameReach f (with_replaced f l by) u u
    same_to u = reach_same f (with_replaced f l by) with_alike u

    same_from : (u : Reach) → SameReach (with_replaced f l by) f u u
    same_from u = reach_same (with_replaced f l by) f (alike_back f (with_replaced f l by) with_alike) u

    -- the pointers that loads, stores and memcpys use
    load_stays : (ty : Ty) (ptr : Val) (tail : List ℕ) → AreValues f (operands_of (Load ty ptr tail)) → val_with l by ptr ≡ ptr
    load_stays ty ptr tail h = stays ptr (h (of_type Ptr ptr) (here_in (of_type Ptr ptr) []))

    store_stays : (ty : Ty) (val ptr : Val) (tail : List ℕ) → AreValues f (operands_of (Store ty val ptr tail)) → val_with l by ptr ≡ ptr
    store_stays ty val ptr tail h = stays ptr (h (of_type Ptr ptr) (there_in (of_type ty val) (of_type Ptr ptr ∷ []) (of_type Ptr ptr) (here_in (of_type Ptr ptr) [])))

    to_stays : (to from : Arg) (len : ℕ) (head tail : List ℕ) → AreValues f (operands_of (Copy to from len head tail)) → types_stand (Copy to from len head tail) ≡ true → val_with l by to.val ≡ to.val
    to_stays to from len head tail h t = stays_typed to.ty to.val (and_parts (is_pointer to.ty) (is_pointer from.ty) t).0 (h (arg_operand to) (here_in (arg_operand to) (arg_operand from ∷ [])))

    from_stays : (to from : Arg) (len : ℕ) (head tail : List ℕ) → AreValues f (operands_of (Copy to from len head tail)) → types_stand (Copy to from len head tail) ≡ true → val_with l by from.val ≡ from.val
    from_stays to from len head tail h t =
        stays_typed from.ty from.val (and_parts (is_pointer to.ty) (is_pointer from.ty) t).1 (h (arg_operand from) (there_in (arg_operand to) (arg_operand from ∷ []) (arg_operand from) (here_in (arg_operand from) [])))

    writes_to : (p : Inst) → AreValues f (operands_of p) → types_stand p ≡ true → WritesAlike f (with_replaced f l by) p (inst_with l by p)
    writes_to (Store ty val ptr tail) h t u k = (u, span_to ptr (size_of ty) u (store_stays ty val ptr tail h) k, same_to u)
    writes_to (Copy to from len head tail) h t u k = (u, span_to to.val len u (to_stays to from len head tail h t) k, same_to u)
    writes_to (Call callee ret args effects head tail) h t u k = (
      Called (cond effects.arg_write (map (arg_with l by) args) []) effects.other_write effects.hidden_write,
      refl,
      subst (λ (x : Reach). SameReach f (with_replaced f l by) x (Called (cond effects.arg_write (map (arg_with l by) args) []) effects.other_write effects.hidden_write)) (sym k)
          (called_to effects.arg_write args effects.other_write effects.hidden_write),
    )
    writes_to (AllocaInst size head tail) h t u k = absurd k
    writes_to (Gep base offset head index tail) h t u k = absurd k
    writes_to (StepInst base offset terms head index tail) h t u k = absurd k
    writes_to (Load ty ptr tail) h t u k = absurd k
    writes_to (Bin op flags ty a b tail) h t u k = absurd k
    writes_to (Cmp pred flags ty a b tail) h t u k = absurd k
    writes_to (Select test ty a b tail) h t u k = absurd k
    writes_to (Cast op flags from a to tail) h t u k = absurd k
    writes_to (Phi ty entries tail) h t u k = absurd k

    writes_from : (p : Inst) → AreValues f (operands_of p) → types_stand p ≡ true → WritesAlike (with_replaced f l by) f (inst_with l by p) p
    writes_from (Store ty val ptr tail) h t u k = (u, span_from ptr (size_of ty) u (store_stays ty val ptr tail h) k, same_from u)
    writes_from (Copy to from len head tail) h t u k = (u, span_from to.val len u (to_stays to from len head tail h t) k, same_from u)
    writes_from (Call callee ret args effects head tail) h t u k = (
      Called (cond effects.arg_write args []) effects.other_write effects.hidden_write,
      refl,
      subst (λ (x : Reach). SameReach (with_replaced f l by) f x (Called (cond effects.arg_write args []) effects.other_write effects.hidden_write)) (sym k)
          (called_from effects.arg_write args effects.other_write effects.hidden_write),
    )
    writes_from (AllocaInst size head tail) h t u k = absurd k
    writes_from (Gep base offset head index tail) h t u k = absurd k
    writes_from (StepInst base offset terms head index tail) h t u k = absurd k
    writes_from (Load ty ptr tail) h t u k = absurd k
    writes_from (Bin op flags ty a b tail) h t u k = absurd k
    writes_from (Cmp pred flags ty a b tail) h t u k = absurd k
    writes_from (Select test ty a b tail) h t u k = absurd k
    writes_from (Cast op flags from a to tail) h t u k = absurd k
    writes_from (Phi ty entries tail) h t u k = absurd k

    reads_to : (p : Inst) → AreValues f (operands_of p) → types_stand p ≡ true → ReadsAlike f (with_replaced f l by) p (inst_with l by p)
    reads_to (Load ty ptr tail) h t u k = (u, span_to ptr (size_of ty) u (load_stays ty ptr tail h) k, same_to u)
    reads_to (Copy to from len head tail) h t u k = (u, span_to from.val len u (from_stays to from len head tail h t) k, same_to u)
    reads_to (Call callee ret args effects head tail) h t u k = (
      Called (cond effects.arg_read (map (arg_with l by) args) []) effects.other_read effects.hidden_read,
      refl,
      subst (λ (x : Reach). SameReach f (with_replaced f l by) x (Called (cond effects.arg_read (map (arg_with l by) args) []) effects.other_read effects.hidden_read)) (sym k)
          (called_to effects.arg_read args effects.other_read effects.hidden_read),
    )
    reads_to (AllocaInst size head tail) h t u k = absurd k
    reads_to (Gep base offset head index tail) h t u k = absurd k
    reads_to (StepInst base offset terms head index tail) h t u k = absurd k
    reads_to (Store ty val ptr tail) h t u k = absurd k
    reads_to (Bin op flags ty a b tail) h t u k = absurd k
    reads_to (Cmp pred flags ty a b tail) h t u k = absurd k
    reads_to (Select test ty a b tail) h t u k = absurd k
    reads_to (Cast op flags from a to tail) h t u k = absurd k
    reads_to (Phi ty entries tail) h t u k = absurd k

    reads_from : (p : Inst) → AreValues f (operands_of p) → types_stand p ≡ true → ReadsAlike (with_replaced f l by) f (inst_with l by p) p
    reads_from (Load ty ptr tail) h t u k = (u, span_from ptr (size_of ty) u (load_stays ty ptr tail h) k, same_from u)
    reads_from (Copy to from len head tail) h t u k = (u, span_from from.val len u (from_stays to from len head tail h t) k, same_from u)
    reads_from (Call callee ret args effects head tail) h t u k = (
      Called (cond effects.arg_read args []) effects.other_read effects.hidden_read,
      refl,
      subst (λ (x : Reach). SameReach (with_replaced f l by) f x (Called (cond effects.arg_read args []) effects.other_read effects.hidden_read)) (sym k)
          (called_from effects.arg_read args effects.other_read effects.hidden_read),
    )
    reads_from (AllocaInst size head tail) h t u k = absurd k
    reads_from (Gep base offset head index tail) h t u k = absurd k
    reads_from (StepInst base offset terms head index tail) h t u k = absurd k
    reads_from (Store ty val ptr tail) h t u k = absurd k
    reads_from (Bin op flags ty a b tail) h t u k = absurd k
    reads_from (Cmp pred flags ty a b tail) h t u k = absurd k
    reads_from (Select test ty a b tail) h t u k = absurd k
    reads_from (Cast op flags from a to tail) h t u k = absurd k
    reads_from (Phi ty entries tail) h t u k = absurd k

    finds_writes_to : (i : ℕ) → Finds f (with_replaced f l by) (WritesAlike f (with_replaced f l by)) i
    finds_writes_to i = finds_to (placed_with l by) (block_with l by) (insts_are l by) (number_same l by) f (with_replaced f l by) refl (WritesAlike f (with_replaced f l by)) i
        (λ b k x at. let s = sound.insts b k x at.found in writes_to x.inst s.operands s.types)

    finds_writes_from : (i : ℕ) → Finds (with_replaced f l by) f (WritesAlike (with_replaced f l by) f) i
    finds_writes_from i = finds_from (placed_with l by) (block_with l by) (insts_are l by) (number_same l by) f (with_replaced f l by) refl (WritesAlike (with_replaced f l by) f) i
        (λ b k x at. let s = sound.insts b k x at.found in writes_from x.inst s.operands s.types)

    finds_reads_to : (i : ℕ) → Finds f (with_replaced f l by) (ReadsAlike f (with_replaced f l by)) i
    finds_reads_to i = finds_to (placed_with l by) (block_with l by) (insts_are l by) (number_same l by) f (with_replaced f l by) refl (ReadsAlike f (with_replaced f l by)) i
        (λ b k x at. let s = sound.insts b k x at.found in reads_to x.inst s.operands s.types)

    finds_reads_from : (i : ℕ) → Finds (with_replaced f l by) f (ReadsAlike (with_replaced f l by) f) i
    finds_reads_from i = finds_from (placed_with l by) (block_with l by) (insts_are l by) (number_same l by) f (with_replaced f l by) refl (ReadsAlike (with_replaced f l by) f) i
        (λ b k x at. let s = sound.insts b k x at.found in reads_from x.inst s.operands s.types)

    loc_to : (loc : Loc) → FindsLoc f (with_replaced f l by) loc
    loc_to (Bytes root from len) = tt
    loc_to (ReadBy j) = finds_reads_to j.0

    loc_from : (loc : Loc) → FindsLoc (with_replaced f l by) f loc
    loc_from (Bytes root from len) = tt
    loc_from (ReadBy j) = finds_reads_from j.0

    pub replaced_writes : (i : ℕ) (loc : Loc) → SameWrites f (with_replaced f l by) i loc
    replaced_writes i loc = writes_between f (with_replaced f l by) with_both i loc (finds_writes_to i) (loc_to loc) (finds_writes_from i) (loc_from loc)

    pub replaced_reads : (i : ℕ) (loc : Loc) → SameReads f (with_replaced f l by) i loc
    replaced_reads i loc = reads_between f (with_replaced f l by) with_both i loc (finds_reads_to i) (loc_to loc) (finds_reads_from i) (loc_from loc)

    -- ---- locations

    loc_read_to : (i : InstNo) (loc : Loc) (p : Inst) → AreValues f (operands_of p) → types_stand p ≡ true → IsLocRead f i p loc → IsLocRead (with_replaced f l by) i (inst_with l by p) loc
    loc_read_to i loc (Load ty ptr tail) h t k =
        subst (λ (v : Val). IsLocRead (with_replaced f l by) i (Load ty v tail) loc) (sym (load_stays ty ptr tail h)) (loc_read f (with_replaced f l by) with_alike i (Load ty ptr tail) loc k)
    loc_read_to i loc (Copy to from len head tail) h t k =
        subst (λ (v : Val). IsLocRead (with_replaced f l by) i (Copy to (record from { val = v }) len head tail) loc) (sym (from_stays to from len head tail h t))
        (loc_read f (with_replaced f l by) with_alike i (Copy to from len head tail) loc k)
    loc_read_to i loc (Call callee ret args effects head tail) h t k = k
    loc_read_to i loc (AllocaInst size head tail) h t k = absurd k
    loc_read_to i loc (Gep base offset head index tail) h t k = absurd k
    loc_read_to i loc (StepInst base offset terms head index tail) h t k = absurd k
    loc_read_to i loc (Store ty val ptr tail) h t k = absurd k
    loc_read_to i loc (Bin op flags ty a b tail) h t k = absurd k
    loc_read_to i loc (Cmp pred flags ty a b tail) h t k = absurd k
    loc_read_to i loc (Select test ty a b tail) h t k = absurd k
    loc_read_to i loc (Cast op flags from a to tail) h t k = absurd k
    loc_read_to i loc (Phi ty entries tail) h t k = absurd k

    loc_read_from : (i : InstNo) (loc : Loc) (p : Inst) → AreValues f (operands_of p) → types_stand p ≡ true → IsLocRead (with_replaced f l by) i (inst_with l by p) loc → IsLocRead f i p loc
    loc_read_from i loc (Load ty ptr tail) h t k =
        loc_read (with_replaced f l by) f (alike_back f (with_replaced f l by) with_alike) i (Load ty ptr tail) loc (subst (λ (v : Val). IsLocRead (with_replaced f l by) i (Load ty v tail) loc) (load_stays ty ptr tail h) k)
    loc_read_from i loc (Copy to from len head tail) h t k =
        loc_read (with_replaced f l by) f (alike_back f (with_replaced f l by) with_alike) i (Copy to from len head tail) loc
        (subst (λ (v : Val). IsLocRead (with_replaced f l by) i (Copy to (record from { val = v }) len head tail) loc) (from_stays to from len head tail h t) k)
    loc_read_from i loc (Call callee ret args effects head tail) h t k = k
    loc_read_from i loc (AllocaInst size head tail) h t k = absurd k
    loc_read_from i loc (Gep base offset head index tail) h t k = absurd k
    loc_read_from i loc (StepInst base offset terms head index tail) h t k = absurd k
    loc_read_from i loc (Store ty val ptr tail) h t k = absurd k
    loc_read_from i loc (Bin op flags ty a b tail) h t k = absurd k
    loc_read_from i loc (Cmp pred flags ty a b tail) h t k = absurd k
    loc_read_from i loc (Select test ty a b tail) h t k = absurd k
    loc_read_from i loc (Cast op flags from a to tail) h t k = absurd k
    loc_read_from i loc (Phi ty entries tail) h t k = absurd k

    loc_written_to : (loc : Loc) (p : Inst) → AreValues f (operands_of p) → types_stand p ≡ true → IsLocWritten f p loc → IsLocWritten (with_replaced f l by) (inst_with l by p) loc
    loc_written_to loc (Store ty val ptr tail) h t k =
        subst (λ (v : Val). IsLocWritten (with_replaced f l by) (Store ty val v tail) loc) (sym (store_stays ty val ptr tail h)) (loc_written f (with_replaced f l by) with_alike (Store ty val ptr tail) loc k)
    loc_written_to loc (Copy to from len head tail) h t k =
        subst (λ (v : Val). IsLocWritten (with_replaced f l by) (Copy (record to { val = v }) from len head tail) loc) (sym (to_stays to from len head tail h t))
        (loc_written f (with_replaced f l by) with_alike (Copy to from len head tail) loc k)
    loc_written_to loc (Call callee ret args effects head tail) h t k = absurd k
    loc_written_to loc (AllocaInst size head tail) h t k = absurd k
    loc_written_to loc (Gep base offset head index tail) h t k = absurd k
    loc_written_to loc (StepInst base offset terms head index tail) h t k = absurd k
    loc_written_to loc (Load ty ptr tail) h t k = absurd k
    loc_written_to loc (Bin op flags ty a b tail) h t k = absurd k
    loc_written_to loc (Cmp pred flags ty a b tail) h t k = absurd k
    loc_written_to loc (Select test ty a b tail) h t k = absurd k
    loc_written_to loc (Cast op flags from a to tail) h t k = absurd k
    loc_written_to loc (Phi ty entries tail) h t k = absurd k

    loc_written_from : (loc : Loc) (p : Inst) → AreValues f (operands_of p) → types_stand p ≡ true → IsLocWritten (with_replaced f l by) (inst_with l by p) loc → IsLocWritten f p loc
    loc_written_from loc (Store ty val ptr tail) h t k =
        loc_written (with_replaced f l by) f (alike_back f (with_replaced f l by) with_alike) (Store ty val ptr tail) loc
        (subst (λ (v : Val). IsLocWritten (with_replaced f l by) (Store ty val v tail) loc) (store_stays ty val ptr tail h) k)
    loc_written_from loc (Copy to from len head tail) h t k =
        loc_written (with_replaced f l by) f (alike_back f (with_replaced f l by) with_alike) (Copy to from len head tail) loc
        (subst (λ (v : Val). IsLocWritten (with_replaced f l by) (Copy (record to { val = v }) from len head tail) loc) (to_stays to from len head tail h t) k)
    loc_written_from loc (Call callee ret args effects head tail) h t k = absurd k
    loc_written_from loc (AllocaInst size head tail) h t k = absurd k
    loc_written_from loc (Gep base offset head index tail) h t k = absurd k
    loc_written_from loc (StepInst base offset terms head index tail) h t k = absurd k
    loc_written_from loc (Load ty ptr tail) h t k = absurd k
    loc_written_from loc (Bin op flags ty a b tail) h t k = absurd k
    loc_written_from loc (Cmp pred flags ty a b tail) h t k = absurd k
    loc_written_from loc (Select test ty a b tail) h t k = absurd k
    loc_written_from loc (Cast op flags from a to tail) h t k = absurd k
    loc_written_from loc (Phi ty entries tail) h t k = absurd k

    locs_to : (P Q : Inst → Type 0) → ((p : Inst) → AreValues f (operands_of p) → types_stand p ≡ true → P p → Q (inst_with l by p)) → (i : ℕ)
        → (b : ℕ) × (place : ℕ) × (x : Placed) × IsAt f.blocks i b place x × P x.inst → (b : ℕ) × (place : ℕ) × (x : Placed) × IsAt (with_replaced f l by).blocks i b place x × Q x.inst
    locs_to P Q each i h =
        let s = sound.insts h.0 h.1 h.2 h.3.found in
        (h.0, h.1, placed_with l by h.2, at_to (placed_with l by) (block_with l by) (insts_are l by) (number_same l by) f.blocks i h.0 h.1 h.2 h.3, each h.2.inst s.operands s.types h.4)

    locs_from : (P Q : Inst → Type 0) → ((p : Inst) → AreValues f (operands_of p) → types_stand p ≡ true → Q (inst_with l by p) → P p) → (i : ℕ)
        → (b : ℕ) × (place : ℕ) × (x : Placed) × IsAt (with_replaced f l by).blocks i b place x × Q x.inst → (b : ℕ) × (place : ℕ) × (x : Placed) × IsAt f.blocks i b place x × P x.inst
    locs_from P Q each i h =
        let r = at_from (placed_with l by) (block_with l by) (insts_are l by) (number_same l by) f.blocks i h.0 h.1 h.2 h.3 in
        let s = sound.insts h.0 h.1 r.0 r.1.found in
        (h.0, h.1, r.0, r.1, each r.0.inst s.operands s.types (subst (λ (y : Placed). Q y.inst) (sym r.2) h.4))

    pub replaced_locs : (i : InstNo) → SameLocs f (with_replaced f l by) i
    replaced_locs i = record {
      reads = λ loc. (locs_to (λ p. IsLocRead f i p loc) (λ p. IsLocRead (with_replaced f l by) i p loc) (loc_read_to i loc) i.0, locs_from (λ p. IsLocRead f i p loc) (λ p. IsLocRead (with_replaced f l by) i p loc) (loc_read_from i loc) i.0);
      writes = λ loc. (locs_to (λ p. IsLocWritten f p loc) (λ p. IsLocWritten (with_replaced f l by) p loc) (loc_written_to loc) i.0, locs_from (λ p. IsLocWritten f p loc) (λ p. IsLocWritten (with_replaced f l by) p loc) (loc_written_from loc) i.0);
    }
