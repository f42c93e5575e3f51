-- Uses that some path comes to before the definition of what is used.
use Rattle.std.proofs.Common.{◌≡◌, ◌∙◌, ◌<◌, ◌⊎◌, ℕ, zero, suc, Bool, false, List, [], ◌∷◌, length, map, Some, refl, sym, ap, subst, inl, inr, arith}
use Rattle.std.specs.Prelude.{IsTrue, ◌↔◌, Contains, slice_get}
use Rattle.std.proofs.lemmas.Bool.{false≢true}
use Rattle.std.proofs.lemmas.Option.{slice_get_within}
use Rattle.ms_paths.specs.Flow.{IsPath}
use Rattle.ms_ir.specs.declared.names.LocalNo.{LocalNo}
use Rattle.ms_ir.specs.declared.inst.Val.{Val}
use Rattle.ms_ir.specs.declared.inst.Val.TheVariants.{Local}
use Rattle.ms_ir.specs.declared.inst.Entry.{Entry}
use Rattle.ms_ir.specs.declared.inst.Inst.{Inst}
use Rattle.ms_ir.specs.declared.inst.Inst.TheVariants.{Alloca, Gep, Step, Load, Store, Copy, Call, Bin, Cmp, Select, Cast, Phi}
use Rattle.ms_ir.specs.declared.inst.Term.{Term}
use Rattle.ms_ir.specs.Func.{Placed, Block, FuncState, insts_at}
use Rattle.ms_ir.specs.Graph.{graph_of}
use Rattle.ms_ir.specs.Locals.{IsGiver, IsNumbered, IsUngiven}
use Rattle.ms_ir.specs.Types.{is_phi}
use Rattle.ms_ir.specs.Uses.{Operand, Use, operands_of, term_operands, used_at, entry_use, entry_operand, uses_at, term_uses_at}
use Rattle.ms_ir.specs.Sound.{IsUsedBefore}
use Rattle.ms_flow.specs.Table.{edges_of}
use Rattle.ms_edited.proofs.OnPaths.{met_stands, stands_met}
use Rattle.ms_edits.specs.Told.{IsPassed, IsMissed, IsLate}

-- that the graph without instructions has the same paths
abbrev pub SamePaths : Type 0
SamePaths = (blocks : List Block) (b : ℕ) (p : List ℕ) → IsPath (edges_of blocks) b p ↔ IsPath (graph_of blocks) b p

local_one : (v : Val) (k l : LocalNo) → v ≡ Local k → v ≡ Local l → k ≡ l
local_one v k l e d = let both : Local k ≡ Local l = sym e ∙ d in cc

pub late_told : SamePaths → (f : FuncState) (v : Val) (l : LocalNo) (c j b k : ℕ) (x : Placed) (t : Bool) → IsNumbered f → v ≡ Local l → IsGiver f.blocks l c j x
    → (IsTrue t ↔ IsMissed (edges_of f.blocks) c j b k) → IsTrue t ↔ IsLate f v b k
late_told law f v l c j b k x t num is gives told = (
  λ s. let w = told.0 s in (l, c, j, x, is, gives, (w.0, (law f.blocks b w.0).0 w.1, w.2)),
  λ (m, d, i, y, is', gives', (p, path, not)).
      let one = num.one_giver l c j d i x y gives (subst (λ (k : LocalNo). IsGiver f.blocks k d i y) (local_one v m l is' is) gives') in
      told.1 (p, (law f.blocks b p).1 path, λ passed. not (subst (λ a. IsPassed a i b k p) one.0 (subst (λ a. IsPassed c a b k p) one.1 passed))),
)

pub not_late : (f : FuncState) (v : Val) (l : LocalNo) (b k : ℕ) → v ≡ Local l → IsUngiven f.blocks l → IsTrue false ↔ IsLate f v b k
not_late f v l b k is none = (
  λ s. absurd (false≢true s),
  λ (m, d, i, y, is', gives', missed). absurd (none d i y (subst (λ (k : LocalNo). IsGiver f.blocks k d i y) (local_one v m l is' is) gives')),
)

-- ---- uses in two functions

-- Each instruction of this number in f is in g, in the same block, and before the one use in g where it is before the other in f.
abbrev pub IsKeptBefore : List Block → List Block → ℕ → Use → Use → Type 0
IsKeptBefore old new n u v =
    (c j : ℕ) (z : Placed) → slice_get (insts_at old c) j ≡ Some z → z.number ≡ n
    → (i : ℕ) × (slice_get (insts_at new c) i ≡ Some z) × (c ≡ u.block → j < u.place → i < v.place)

-- a use that a path comes to before its definition was so before
pub was_before : (f g : FuncState) (u v : Use) → ((p : List ℕ) → IsPath (graph_of g.blocks) v.block p → IsPath (graph_of f.blocks) v.block p) → v.block ≡ u.block → v.val ≡ u.val
    → (before : IsUsedBefore g v) → ((c j : ℕ) × IsGiver f.blocks before.1.local c j before.1.giver) → IsKeptBefore f.blocks g.blocks before.1.giver.number u v → IsUsedBefore f u
was_before f g u v paths block val (path, h) (c, j, gives) kept = (
  path,
  record {
    local = h.local;
    is_local = sym val ∙ h.is_local;
    block = c;
    place = j;
    giver = h.giver;
    gives = gives;
    path_is = subst (λ b. IsPath (graph_of f.blocks) b path) block (paths path h.path_is);
    not_met = λ met. h.not_met (stands_met g.blocks h.giver.number v.block v.place path (elim (met_stands f.blocks h.giver.number u.block u.place path met) [
      | inl here ↦
          let r = kept u.block here.0 here.1 here.2 here.3 in
          inl (r.0, here.1, subst (λ b. slice_get (insts_at g.blocks b) r.0 ≡ Some here.1) (sym block) r.1, here.3, r.2 refl here.4)
      | inr on ↦
          let r = kept on.0 on.2 on.3 on.4 on.5 in
          inr (on.0, on.1, r.0, on.3, r.1, on.5)
    ]));
  },
)

-- ---- uses of an instruction

-- an instruction but a phi uses its operands where it stands
pub plain_uses : (blocks : List Block) (b k : ℕ) (inst : Inst) → is_phi inst ≡ false → uses_at blocks b k inst ≡ map (used_at b k) (operands_of inst)
plain_uses blocks b k (Alloca size head tail) e = refl
plain_uses blocks b k (Gep base offset head index tail) e = refl
plain_uses blocks b k (Step base offset terms head index tail) e = refl
plain_uses blocks b k (Load ty ptr tail) e = refl
plain_uses blocks b k (Store ty val ptr tail) e = refl
plain_uses blocks b k (Copy to from len head tail) e = refl
plain_uses blocks b k (Call callee ret args effects head tail) e = refl
plain_uses blocks b k (Bin op flags ty x y tail) e = refl
plain_uses blocks b k (Cmp pred flags ty x y tail) e = refl
plain_uses blocks b k (Select cond ty x y tail) e = refl
plain_uses blocks b k (Cast op flags from x to tail) e = refl
plain_uses blocks b k (Phi ty entries tail) e = cc

-- a member of a mapped list comes from a member
pub of_member : {A B : Type 0} (F : A → B) (xs : List A) (y : B) → Contains (map F xs) y → (x : A) × Contains xs x × (F x ≡ y)
of_member F [] y (i, lt, is) = absurd (let l : i < 0 = lt in omega (arith, l))
of_member F (x ∷ xs) y (zero, lt, is) = (x, (zero, omega arith, refl), is)
of_member F (x ∷ xs) y (suc i, lt, is) =
    let r = of_member F xs y (i, (let l : suc i < suc (length (map F xs)) = lt in omega (arith, l)), is) in
    (r.0, (suc r.1.0, (let l = r.1.1 in omega (arith, l)), r.1.2), r.2)

pub member_of : {A B : Type 0} (F : A → B) (xs : List A) (x : A) → Contains xs x → Contains (map F xs) (F x)
member_of F [] x (i, lt, is) = absurd (let l : i < 0 = lt in omega (arith, l))
member_of F (y ∷ xs) x (zero, lt, is) = (zero, omega arith, ap F is)
member_of F (y ∷ xs) x (suc i, lt, is) =
    let r = member_of F xs x (i, (let l : suc i < suc (length xs) = lt in omega (arith, l)), is) in
    (suc r.0, (let l = r.1 in omega (arith, l)), r.2)

-- A use of one function, by an instruction at a place or at the end of a block, and the same use in another function.
pub record IsAlike (old new : List Block) (c k m : ℕ) (operands : List Operand) (u v : Use) : Type 0 where
  pub block : v.block ≡ u.block
  pub val : v.val ≡ u.val
  pub operand : (o : Operand) × Contains operands o × (o.val ≡ v.val)
  pub at : ((u.block ≡ c) × (u.place ≡ k) × (v.place ≡ m)) ⊎ ((u.place ≡ length (insts_at old u.block)) × (v.place ≡ length (insts_at new u.block)))

abbrev pub WasAlike : List Block → List Block → ℕ → ℕ → ℕ → List Operand → List Use → Use → Type 0
WasAlike old new c k m operands uses v = (u : Use) × Contains uses u × IsAlike old new c k m operands u v

pub plain_alike : (old new : List Block) (c k m : ℕ) (operands : List Operand) (v : Use) → Contains (map (used_at c m) operands) v → WasAlike old new c k m operands (map (used_at c k) operands) v
plain_alike old new c k m operands v among =
    let r = of_member (used_at c m) operands v among in (
      used_at c k r.0,
      member_of (used_at c k) operands r.0 r.1,
      record {
        block = ap (λ (w : Use). w.block) (sym r.2);
        val = ap (λ (w : Use). w.val) (sym r.2);
        operand = (r.0, r.1, ap (λ (w : Use). w.val) r.2);
        at = inl (refl, refl, ap (λ (w : Use). w.place) (sym r.2));
      },
    )

phi_alike : (old new : List Block) (c k m : ℕ) (operands : List Operand) (entries : List Entry) (F : Entry → Operand) → ((e : Entry) → (F e).val ≡ e.val) → operands ≡ map F entries → (v : Use)
    → Contains (map (entry_use new) entries) v → WasAlike old new c k m operands (map (entry_use old) entries) v
phi_alike old new c k m operands entries F same is v among =
    let r = of_member (entry_use new) entries v among in (
      entry_use old r.0,
      member_of (entry_use old) entries r.0 r.1,
      record {
        block = ap (λ (w : Use). w.block) (sym r.2);
        val = ap (λ (w : Use). w.val) (sym r.2);
        operand = (F r.0, subst (λ os. Contains os (F r.0)) (sym is) (member_of F entries r.0 r.1), same r.0 ∙ ap (λ (w : Use). w.val) r.2);
        at = inr (refl, ap (λ (w : Use). w.place) (sym r.2));
      },
    )

pub inst_alike : (old new : List Block) (c k m : ℕ) (inst : Inst) (v : Use) → Contains (uses_at new c m inst) v → WasAlike old new c k m (operands_of inst) (uses_at old c k inst) v
inst_alike old new c k m (Phi ty entries tail) = phi_alike old new c k m (operands_of (Phi ty entries tail)) entries (entry_operand ty) (λ e. refl) refl
inst_alike old new c k m (Alloca size head tail) = plain_alike old new c k m (operands_of (Alloca size head tail))
inst_alike old new c k m (Gep base offset head index tail) = plain_alike old new c k m (operands_of (Gep base offset head index tail))
inst_alike old new c k m (Step base offset terms head index tail) = plain_alike old new c k m (operands_of (Step base offset terms head index tail))
inst_alike old new c k m (Load ty ptr tail) = plain_alike old new c k m (operands_of (Load ty ptr tail))
inst_alike old new c k m (Store ty val ptr tail) = plain_alike old new c k m (operands_of (Store ty val ptr tail))
inst_alike old new c k m (Copy to from len head tail) = plain_alike old new c k m (operands_of (Copy to from len head tail))
inst_alike old new c k m (Call callee ret args effects head tail) = plain_alike old new c k m (operands_of (Call callee ret args effects head tail))
inst_alike old new c k m (Bin op flags ty x y tail) = plain_alike old new c k m (operands_of (Bin op flags ty x y tail))
inst_alike old new c k m (Cmp pred flags ty x y tail) = plain_alike old new c k m (operands_of (Cmp pred flags ty x y tail))
inst_alike old new c k m (Select cond ty x y tail) = plain_alike old new c k m (operands_of (Select cond ty x y tail))
inst_alike old new c k m (Cast op flags from x to tail) = plain_alike old new c k m (operands_of (Cast op flags from x to tail))

pub term_alike : (old new : List Block) (c : ℕ) (term : Term) (v : Use) → Contains (term_uses_at new c term) v
    → WasAlike old new c (length (insts_at old c)) (length (insts_at new c)) (term_operands term) (term_uses_at old c term) v
term_alike old new c term = plain_alike old new c (length (insts_at old c)) (length (insts_at new c)) (term_operands term)

-- instructions of this number stay before a place where they were before another
abbrev pub AreKept : List Block → List Block → ℕ → ℕ → ℕ → ℕ → Type 0
AreKept old new n c k m =
    (d j : ℕ) (z : Placed) → slice_get (insts_at old d) j ≡ Some z → z.number ≡ n → (i : ℕ) × (slice_get (insts_at new d) i ≡ Some z) × (d ≡ c → j < k → i < m)

pub kept_before : (old new : List Block) (n c k m : ℕ) (operands : List Operand) (u v : Use) → IsAlike old new c k m operands u v → AreKept old new n c k m → IsKeptBefore old new n u v
kept_before old new n c k m operands u v alike each d j z found is =
    let r = each d j z found is in (
      r.0,
      r.1,
      λ same less. elim alike.at [
        | inl here ↦ (let last = here.2 in let l = r.2 (same ∙ here.0) (let e = here.1 in omega (arith, e, less)) in omega (arith, last, l))
        | inr end ↦ (
            let last : v.place ≡ length (insts_at new d) = end.1 ∙ ap (λ b. length (insts_at new b)) (sym same) in
            let within = slice_get_within (insts_at new d) r.0 z r.1 in
            omega (arith, last, within))
      ],
    )
