-- In a sound function a pointer that is made in a reached block has a base.
use Rattle.std.proofs.Common.{◌≡◌, ◌∙◌, ◌<◌, ℕ, zero, suc, Bool, true, false, List, [], ◌∷◌, length, map, Option, Some, refl, sym, ap, subst, inl, inr, ⊎_elim, arith}
use Rattle.std.specs.Prelude.{◌&&◌, Contains, slice_get}
use Rattle.std.proofs.lemmas.Bool.{and_from, eq-eqb, cases_Bool}
use Rattle.ms_paths.specs.Flow.{IsPath, IsReached, HasEdge, LiesOnEvery, IsMet}
use Rattle.ms_ir.specs.declared.names.Ty.{Ty}
use Rattle.ms_ir.specs.declared.names.Ty.TheVariants.{I1, I8, I16, I32, I64, Ptr}
use Rattle.ms_ir.specs.declared.names.LocalNo.{LocalNo}
use Rattle.ms_ir.specs.declared.inst.Val.{Val}
use Rattle.ms_ir.specs.declared.inst.Val.TheVariants.{Num, Local as LocalVal, Global as GlobalVal}
use Rattle.ms_ir.specs.declared.inst.Entry.{Entry}
use Rattle.ms_ir.specs.declared.inst.Inst.{Inst}
use Rattle.ms_ir.specs.declared.inst.Inst.TheVariants.{Alloca as AllocaInst, Gep, Step as StepInst, Load, Store, Copy, Call, Bin, Cmp, Select, Cast, Phi}
use Rattle.ms_ir.specs.Inst.{result_type}
use Rattle.ms_ir.specs.Func.{Placed, Block, FuncState, IsAt, insts_at}
use Rattle.ms_ir.specs.Graph.{graph_of}
use Rattle.ms_ir.specs.Locals.{IsNumbered, IsGiver}
use Rattle.ms_ir.specs.Types.{is_pointer, is_alloca, is_phi, is_stored, is_integer, is_given, has_entry, types_stand}
use Rattle.ms_ir.specs.Uses.{Operand, operands_of, entry_use, entry_operand, of_type}
use Rattle.ms_ir.specs.SoundFunc.{IsSoundFunc, IsSoundInst, IsValueIn}
use Rattle.ms_alias.specs.declared.loc.Root.{Root}
use Rattle.ms_alias.specs.declared.loc.Root.TheVariants.{Local, Global}
use Rattle.ms_alias.specs.Roots.{maker_of, makes, makes_pointer, is_local, pointer_of, IsTurnedBy}
use Rattle.ms_alias.specs.Bases.{Base, Alloca, Argument, Object, HasBase, leads_of, leads_in, sources_in}
use Rattle.ms_alias.proofs.Makers.{giver_from, pointer_from, giver_makes}
use Rattle.ms_steady.proofs.Entries.{entry_for, has_edge, none_first}
use Rattle.ms_steady.proofs.Phis.{parts_of_phi}
use Rattle.ms_steady.proofs.Holds.{entry_among}
use Rattle.ms_sound.proofs.Chains.{val_lead, brings}
use Rattle.ms_sound.proofs.Operands.{value_in}
use Rattle.ms_sound.proofs.Orders.{Passes, used_behind}
use Rattle.ms_kept.proofs.Passing.{passes_or, front, met_passes}

-- ---- instructions

pointer_is : (ty : Ty) → is_pointer ty ≡ true → ty ≡ Ptr
pointer_is Ptr e = refl
pointer_is I1 e = cc
pointer_is I8 e = cc
pointer_is I16 e = cc
pointer_is I32 e = cc
pointer_is I64 e = cc

some_type : (a b : Ty) → Some a ≡ Some b → a ≡ b
some_type a b e = cc

never : {A : Type 0} (b : Bool) → b ≡ true → b ≡ false → A
never b t f = let x : true ≡ false = sym t ∙ f in cc

never_given : (ret : Option Ty) → ret ≡ Some Ptr → is_given ret ≡ true → ⊥
never_given ret e t = never (is_given ret) t (ap is_given e)

-- what gives a pointer makes it, since none is read from memory or comes from a call
gives_pointer : (inst : Inst) → types_stand inst ≡ true → result_type inst ≡ Some Ptr → makes_pointer inst ≡ true
gives_pointer (AllocaInst size head tail) t e = refl
gives_pointer (Gep base offset head index tail) t e = refl
gives_pointer (StepInst base offset terms head index tail) t e = refl
gives_pointer (Load ty ptr tail) t e = never (is_stored ty) t (ap is_stored (some_type ty Ptr e))
gives_pointer (Store ty val ptr tail) t e = cc
gives_pointer (Copy to from len head tail) t e = cc
gives_pointer (Call callee ret args effects head tail) t e = absurd (never_given ret e t)
gives_pointer (Bin op flags ty a b tail) t e = never (is_integer ty) t (ap is_integer (some_type ty Ptr e))
gives_pointer (Cmp pred flags ty a b tail) t e = let x : I1 ≡ Ptr = some_type I1 Ptr e in cc
gives_pointer (Select cond ty a b tail) t e = ap is_pointer (some_type ty Ptr e)
gives_pointer (Cast op flags from a to tail) t e = never (is_integer to) (second (is_integer from) (is_integer to) _ t) (ap is_integer (some_type to Ptr e)) where
  second : (p q r : Bool) → p && q && r ≡ true → q ≡ true
  second true true r h = refl
  second true false r h = cc
  second false q r h = cc
gives_pointer (Phi ty entries tail) t e = ap is_pointer (some_type ty Ptr e)

-- a value that a pointer is made of
record Source (inst : Inst) : Type 0 where
  val : Val
  among : Contains (sources_in inst) val
  used : Contains (operands_of inst) (of_type Ptr val)

source_of : (inst : Inst) → makes_pointer inst ≡ true → is_alloca inst ≡ false → is_phi inst ≡ false → Source inst
source_of (AllocaInst size head tail) m a p = cc
source_of (Gep base offset head index tail) m a p = record { val = base; among = (zero, omega arith, refl); used = (zero, omega arith, refl) }
source_of (StepInst base offset terms head index tail) m a p = record { val = base; among = (zero, omega arith, refl); used = (zero, omega arith, refl) }
source_of (Load ty ptr tail) m a p = cc
source_of (Store ty val ptr tail) m a p = cc
source_of (Copy to from len head tail) m a p = cc
source_of (Call callee ret args effects head tail) m a p = cc
source_of (Bin op flags ty x y tail) m a p = cc
source_of (Cmp pred flags ty x y tail) m a p = cc
source_of (Select cond ty x y tail) m a p =
    record { val = x; among = (zero, omega arith, refl); used = (suc zero, omega arith, ap (λ t. of_type t x) (pointer_is ty m)) }
source_of (Cast op flags from x to tail) m a p = cc
source_of (Phi ty entries tail) m a p = cc

val_among : (operands : List Operand) (o : Operand) → Contains operands o → Contains (map value_in operands) o.val
val_among [] o (k, lt, is) = absurd (let l : k < 0 = lt in omega arith)
val_among (q ∷ operands) o (zero, lt, is) = (zero, omega arith, ap value_in is)
val_among (q ∷ operands) o (suc k, lt, is) = let r = val_among operands o (k, omega arith, is) in (suc r.0, (let l = r.1 in omega arith), r.2)

entry_source : (entries : List Entry) (e : Entry) → Contains entries e → Contains (map (λ (x : Entry). x.val) entries) e.val
entry_source [] e (k, lt, is) = absurd (let l : k < 0 = lt in omega arith)
entry_source (d ∷ entries) e (zero, lt, is) = (zero, omega arith, ap (λ (x : Entry). x.val) is)
entry_source (d ∷ entries) e (suc k, lt, is) = let r = entry_source entries e (k, omega arith, is) in (suc r.0, (let l = r.1 in omega arith), r.2)

use_among : (blocks : List Block) (entries : List Entry) (e : Entry) → Contains entries e → Contains (map (entry_use blocks) entries) (entry_use blocks e)
use_among blocks [] e (k, lt, is) = absurd (let l : k < 0 = lt in omega arith)
use_among blocks (d ∷ entries) e (zero, lt, is) = (zero, omega arith, ap (entry_use blocks) is)
use_among blocks (d ∷ entries) e (suc k, lt, is) = let r = use_among blocks entries e (k, omega arith, is) in (suc r.0, (let l = r.1 in omega arith), r.2)

some_entry : (ty : Ty) (entries : List Entry) (tail : List ℕ) → has_entry (Phi ty entries tail) ≡ true → (e : Entry) × Contains entries e
some_entry ty [] tail h = cc
some_entry ty (e ∷ entries) tail h = (e, (zero, omega arith, refl))

-- ---- bases

abbrev pub IsBased : FuncState → Root → Type 0
IsBased f p = (b : Base) × HasBase f p b

module _ (f : FuncState) (numbered : IsNumbered f) (sound : IsSoundFunc f) where
  -- the instruction at a place makes the local, which is a pointer
  abbrev MadeAt : LocalNo → ℕ → ℕ → Placed → Type 0
  MadeAt l b j x = (slice_get (insts_at f.blocks b) j ≡ Some x) × (makes l x ≡ true)

  -- what is made at the end of a path of fewer blocks
  abbrev Shorter : ℕ → Type 0
  Shorter n = (p : List ℕ) → length p < n → (b j : ℕ) → IsPath (graph_of f.blocks) b p → (l : LocalNo) (x : Placed) → MadeAt l b j x → IsBased f (Local l)

  -- what is made before a place of a block
  abbrev Earlier : ℕ → ℕ → Type 0
  Earlier b m = (j : ℕ) → j < m → (l : LocalNo) (x : Placed) → MadeAt l b j x → IsBased f (Local l)

  passed_based : (b k : ℕ) (p : List ℕ) → IsPath (graph_of f.blocks) b p → Shorter (length p) → Earlier b k → (l : LocalNo) (c j : ℕ) (y : Placed) → MadeAt l c j y → Passes c j b k p → IsBased f (Local l)
  passed_based b k p path shorter earlier l c j y made (inl here) = earlier j here.1 l y (subst (λ d. slice_get (insts_at f.blocks d) j ≡ Some y) here.0 made.0, made.1)
  passed_based b k p path shorter earlier l c j y made (inr on) = let r = front (graph_of f.blocks) b p c path on in shorter r.path r.shorter c j r.is_path l y made

  -- the pointer that a value is, and a base of it
  abbrev IsBasedVal : Val → Type 0
  IsBasedVal v = (q : Root) × (pointer_of v ≡ Some q) × IsBased f q

  val_based : (v : Val) → IsValueIn f Ptr v → ((l : LocalNo) (c j : ℕ) (y : Placed) → v ≡ LocalVal l → MadeAt l c j y → IsGiver f.blocks l c j y → IsBased f (Local l)) → IsBasedVal v
  val_based (Num ty n) h k = let x = h.1 in cc
  val_based (LocalVal l) (inl p) k = (Local l, refl, (Argument l, (zero, Local l, refl, inr ((p.0, p.1, ap is_pointer p.2), refl))))
  val_based (LocalVal l) (inr g) k =
      let pointer = gives_pointer g.2.inst (sound.insts g.0 g.1 g.2 g.3.found).types g.4 in
      let made : makes l g.2 ≡ true = and_from (makes_pointer g.2.inst) (is_local l g.2.result) pointer (ap (is_local l) g.3.gives ∙ eq-eqb l.0 l.0 refl) in
      (Local l, refl, k l g.0 g.1 g.2 refl (g.3.found, made) g.3)
  val_based (GlobalVal g) h k = (Global g, refl, (Object g, (zero, Global g, refl, refl)))

  -- a pointer that is made of one that has a base
  lead_based : (l : LocalNo) (b j : ℕ) (x : Placed) → MadeAt l b j x → (v : Val) → Contains (sources_in x.inst) v → IsBasedVal v → IsBased f (Local l)
  lead_based l b j x made v among based =
      let maker : maker_of f l ≡ Some (record { block = b; inst = x.inst }) = giver_makes f numbered l b j x (record { found = made.0; gives = giver_from l x made.1 }) (pointer_from l x made.1) in
      let lead : Contains (leads_of f (Local l)) based.0 = subst (λ o. Contains (leads_in o) based.0) (sym maker) (val_lead (sources_in x.inst) v based.0 among based.1) in
      (based.2.0, brings f (Local l) based.0 based.2.0 lead based.2.1)

  module _ (b j : ℕ) (p : List ℕ) (path : IsPath (graph_of f.blocks) b p) (shorter : Shorter (length p)) (earlier : Earlier b j) (l : LocalNo) (x : Placed) (made : MadeAt l b j x) where
    alloca_based : is_alloca x.inst ≡ true → IsBased f (Local l)
    alloca_based e =
        let maker : maker_of f l ≡ Some (record { block = b; inst = x.inst }) = giver_makes f numbered l b j x (record { found = made.0; gives = giver_from l x made.1 }) (pointer_from l x made.1) in
        (Alloca l, (zero, Local l, refl, inl ((record { block = b; inst = x.inst }, maker, e), refl)))

    other_based : is_alloca x.inst ≡ false → is_phi x.inst ≡ false → IsBased f (Local l)
    other_based a no_phi =
        let s = source_of x.inst (pointer_from l x made.1) a no_phi in
        lead_based l b j x made s.val s.among
        (val_based s.val ((sound.insts b j x made.0).operands (of_type Ptr s.val) s.used)
        (λ k c i y is there giver.
        passed_based b j p path shorter earlier k c i y there
        (used_behind f numbered sound b j x made.0 no_phi k (subst (λ v. Contains (map value_in (operands_of x.inst)) v) is (val_among (operands_of x.inst) (of_type Ptr s.val) s.used)) c i y giver p path)))

    module _ (ty : Ty) (entries : List Entry) (tail : List ℕ) (is : x.inst ≡ Phi ty entries tail) where
      inst_is : IsSoundInst f b j (Phi ty entries tail)
      inst_is = subst (IsSoundInst f b j) is (sound.insts b j x made.0)

      pointer_phi : ty ≡ Ptr
      pointer_phi = pointer_is ty (sym (ap makes_pointer is) ∙ pointer_from l x made.1)

      -- the value of an entry, whose block a shorter path leads to
      entry_based : (e : Entry) → Contains entries e → (q : List ℕ) → IsPath (graph_of f.blocks) e.from.0 q → length q < length p → IsBased f (Local l)
      entry_based e among q to less =
          lead_based l b j x made e.val (subst (λ i. Contains (sources_in i) e.val) (sym is) (entry_source entries e among))
          (val_based e.val (subst (λ t. IsValueIn f t e.val) pointer_phi (inst_is.operands (entry_operand ty e) (entry_among ty entries e among)))
          (λ k c i y of there giver.
          passed_based e.from.0 (length (insts_at f.blocks e.from.0)) q to (λ r lt. shorter r (omega arith)) (λ m lt n z. shorter q less e.from.0 m to n z) k c i y there
          (⊎_elim
          (λ (h : Passes c i e.from.0 (length (insts_at f.blocks e.from.0)) q). h)
          (λ (none : Passes c i e.from.0 (length (insts_at f.blocks e.from.0)) q → ⊥).
          absurd (inst_is.uses (entry_use f.blocks e) (use_among f.blocks entries e among) (
            q,
            record {
              local = k;
              is_local = of;
              block = c;
              place = i;
              giver = y;
              gives = giver;
              path_is = to;
              not_met = λ m. none (met_passes f numbered c i y giver.found e.from.0 (length (insts_at f.blocks e.from.0)) q m);
            },
          )))
          (passes_or c i e.from.0 (length (insts_at f.blocks e.from.0)) q))))

      phi_based : (q : List ℕ) → p ≡ q → IsBased f (Local l)
      phi_based [] is_none =
          let first : b ≡ 0 = subst (IsPath (graph_of f.blocks) b) is_none path in
          let e = some_entry ty entries tail inst_is.entered in
          absurd (none_first f sound e.0.from.0 (subst (HasEdge (graph_of f.blocks) e.0.from.0) first (has_edge f b ty entries tail inst_is.entries e.0 e.1)))
      phi_based (a ∷ q) is_more =
          let on : HasEdge (graph_of f.blocks) a b × IsPath (graph_of f.blocks) a q = subst (IsPath (graph_of f.blocks) b) is_more path in
          let e = entry_for f a b ty entries tail inst_is.entries on.0 in
          let longer : length p ≡ suc (length q) = ap length is_more in
          entry_based e.0 e.1 q (subst (λ d. IsPath (graph_of f.blocks) d q) (sym e.2) on.1) (omega arith)

    made_based : IsBased f (Local l)
    made_based =
        ⊎_elim
        (λ (t : is_phi x.inst ≡ true). let r = parts_of_phi x.inst t in phi_based r.ty r.entries r.tail r.is p refl)
        (λ (no_phi : is_phi x.inst ≡ false).
        ⊎_elim
        (λ (t : is_alloca x.inst ≡ true). alloca_based t)
        (λ (a : is_alloca x.inst ≡ false). other_based a no_phi)
        (cases_Bool (is_alloca x.inst)))
        (cases_Bool (is_phi x.inst))

  within_block : (p : List ℕ) → Shorter (length p) → (b : ℕ) → IsPath (graph_of f.blocks) b p → (m : ℕ) → Earlier b m
  within_block p shorter b path zero j lt l x made = absurd (omega arith)
  within_block p shorter b path (suc m) j lt l x made =
      made_based b j p path shorter (λ i less. within_block p shorter b path m i (omega arith)) l x made

  by_length : (n : ℕ) → Shorter n
  by_length zero p lt b j path l x made = absurd (omega arith)
  by_length (suc n) p lt b j path l x made = within_block p (λ q less. by_length n q (omega arith)) b path (suc j) j (omega arith) l x made

  pub reached_based : (b j : ℕ) → IsReached (graph_of f.blocks) b → (l : LocalNo) (x : Placed) → slice_get (insts_at f.blocks b) j ≡ Some x → makes l x ≡ true → IsBased f (Local l)
  reached_based b j r l x found e = by_length (suc (length r.0)) r.0 (omega arith) b j r.1 l x (found, e)

  -- so has a turning root whose instruction lies on every path to a reached block
  pub turned_based : (root : Root) (q b k : ℕ) → IsReached (graph_of f.blocks) b → LiesOnEvery (graph_of f.blocks) q b k → IsTurnedBy f root q → IsBased f root
  turned_based (Global g) q b k r lies t = absurd t
  turned_based (Local l) q b k r lies t =
      let x : Placed = t.3 in
      let at : IsAt f.blocks q t.1 t.2 x = t.4 in
      let met : IsMet (graph_of f.blocks) x.number b k r.0 = subst (λ i. IsMet (graph_of f.blocks) i b k r.0) (sym at.numbered) (lies r.0 r.1) in
      ⊎_elim
      (λ (here : (t.1 ≡ b) × (t.2 < k)). reached_based t.1 t.2 (r.0, subst (λ d. IsPath (graph_of f.blocks) d r.0) (sym here.0) r.1) l x at.found t.5)
      (λ (on : Contains r.0 t.1). let s = front (graph_of f.blocks) b r.0 t.1 r.1 on in reached_based t.1 t.2 (s.path, s.is_path) l x at.found t.5)
      (met_passes f numbered t.1 t.2 x at.found b k r.0 met)
