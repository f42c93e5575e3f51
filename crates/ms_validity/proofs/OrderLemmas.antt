-- Where the definition of a local comes before its use.
use Rattle.std.proofs.Common.{◌≡◌, ℕ, zero, suc, ◌<◌, Bool, List, [], ◌∷◌, length, take, Some, refl, sym, ap, ◌∙◌, subst, inl, inr, ⊎_elim, arith}
use Rattle.std.specs.Prelude.{Contains, IsTrue, ◌↔◌}
use Rattle.std.specs.List.{slice_get}
use Rattle.std.proofs.lemmas.List.{take_all, length-map}
use Rattle.std.proofs.lemmas.Option.{slice_get_within}
use Rattle.ms_paths.specs.Flow.{block_at, IsPath, IsMet}
use Rattle.ms_ir.specs.declared.names.LocalNo.{LocalNo}
use Rattle.ms_ir.specs.declared.inst.Val.TheVariants.{Local}
use Rattle.ms_ir.specs.declared.inst.Inst.{Inst}
use Rattle.ms_ir.specs.declared.inst.Inst.TheVariants.{Alloca, Gep, Step, Load, Store, Copy, Call, Bin, Cmp, Select, Cast, Phi}
use Rattle.ms_ir.specs.Func.{Placed, Block, FuncState, insts_at}
use Rattle.ms_ir.specs.Graph.{graph_of, numbers}
use Rattle.ms_ir.specs.Locals.{IsGiver, IsNumbered}
use Rattle.ms_ir.specs.Sound.{IsUsedBefore}
use Rattle.ms_ir.specs.Uses.{Use, operands_of, uses_at, entry_use, entry_operand, used_at}
use Rattle.ms_flow.specs.Table.{edges_of}
use Rattle.ms_flow.proofs.Members.{here_is, there, in_none, in_cons}
use Rattle.ms_validity.specs.declared.spots.Spot.{Spot}
use Rattle.ms_validity.specs.Tables.{spot_at}
use Rattle.ms_validity.specs.Told.{IsPassed}
use Rattle.ms_validity.proofs.PathLemmas.{Without}

events_at : (blocks : List Block) (b : ℕ) → (block_at (graph_of blocks) b).events ≡ numbers (insts_at blocks b)
events_at [] b = refl
events_at (x ∷ blocks) zero = refl
events_at (x ∷ blocks) (suc b) = events_at blocks b

-- an instruction of this number stands before a place
abbrev StandsBefore : List Placed → ℕ → ℕ → Type 0
StandsBefore xs m n = (j : ℕ) × (y : Placed) × (j < m) × (slice_get xs j ≡ Some y) × (y.number ≡ n)

stands_before : (xs : List Placed) (m n : ℕ) → Contains (take m (numbers xs)) n → StandsBefore xs m n
stands_before [] zero n c = absurd (in_none n c)
stands_before [] (suc m) n c = absurd (in_none n c)
stands_before (x ∷ xs) zero n c = absurd (in_none n c)
stands_before (x ∷ xs) (suc m) n c =
    ⊎_elim (λ (e : x.number ≡ n). (0, x, omega arith, refl, e))
    (λ (k : Contains (take m (numbers xs)) n). let rest = stands_before xs m n k in (suc rest.0, rest.1, omega (arith, rest.2), rest.3, rest.4))
    (in_cons x.number (take m (numbers xs)) n c)

before_stands : (xs : List Placed) (m j : ℕ) (y : Placed) → j < m → slice_get xs j ≡ Some y → Contains (take m (numbers xs)) y.number
before_stands [] m j y lt e = cc
before_stands (x ∷ xs) zero j y lt e = absurd (omega arith)
before_stands (x ∷ xs) (suc m) zero y lt e =
    let same : x ≡ y = cc in here_is x.number (take m (numbers xs)) y.number (ap (λ (p : Placed). p.number) same)
before_stands (x ∷ xs) (suc m) (suc j) y lt e = there x.number (take m (numbers xs)) y.number (before_stands xs m j y (omega arith) e)

length_numbers : (xs : List Placed) → length (numbers xs) ≡ length xs
length_numbers [] = refl
length_numbers (x ∷ xs) = ap suc (length_numbers xs)

stands_in : (xs : List Placed) (n : ℕ) → Contains (numbers xs) n → StandsBefore xs (length xs) n
stands_in xs n c =
    stands_before xs (length xs) n (subst (λ (l : List ℕ). Contains l n) (sym (take_all (length xs) (numbers xs) (let e = length_numbers xs in omega arith))) c)

in_stands : (xs : List Placed) (j : ℕ) (y : Placed) → slice_get xs j ≡ Some y → Contains (numbers xs) y.number
in_stands xs j y e =
    subst (λ (l : List ℕ). Contains l y.number) (take_all (length xs) (numbers xs) (let e' = length_numbers xs in omega arith))
    (before_stands xs (length xs) j y (slice_get_within xs j y e) e)

-- a path meets a giver exactly where it passes the place of the giver
met_passed : (f : FuncState) (b k : ℕ) (x : Placed) (at : Spot) (p : List ℕ) → IsNumbered f → slice_get (insts_at f.blocks b) k ≡ Some x
    → IsMet (graph_of f.blocks) x.number at.block at.place p → IsPassed (spot_at b k) at p
met_passed f b k x at p num found met =
    ⊎_elim
    (λ (c : Contains (take at.place (block_at (graph_of f.blocks) at.block).events) x.number).
    let s = stands_before (insts_at f.blocks at.block) at.place x.number (subst (λ (l : List ℕ). Contains (take at.place l) x.number) (events_at f.blocks at.block) c) in
    let one = num.one_place b k at.block s.0 x s.1 found s.3 (sym s.4) in
    inl (one.0, let lt = s.2 in let e = one.1 in omega arith))
    (λ (w : (a : ℕ) × Contains p a × Contains (block_at (graph_of f.blocks) a).events x.number).
    let s = stands_in (insts_at f.blocks w.0) x.number (subst (λ (l : List ℕ). Contains l x.number) (events_at f.blocks w.0) w.2) in
    let one = num.one_place b k w.0 s.0 x s.1 found s.3 (sym s.4) in
    inr (subst (λ a. Contains p a) (sym one.0) w.1))
    met

passed_met : (f : FuncState) (b k : ℕ) (x : Placed) (at : Spot) (p : List ℕ) → slice_get (insts_at f.blocks b) k ≡ Some x
    → IsPassed (spot_at b k) at p → IsMet (graph_of f.blocks) x.number at.block at.place p
passed_met f b k x at p found passed =
    ⊎_elim
    (λ (e : (b ≡ at.block) × (k < at.place)).
    inl (subst (λ (l : List ℕ). Contains (take at.place l) x.number) (sym (events_at f.blocks at.block))
    (before_stands (insts_at f.blocks at.block) at.place k x e.1 (subst (λ a. slice_get (insts_at f.blocks a) k ≡ Some x) e.0 found))))
    (λ (c : Contains p b).
    inr (b, c, subst (λ (l : List ℕ). Contains l x.number) (sym (events_at f.blocks b)) (in_stands (insts_at f.blocks b) k x found)))
    passed

-- that the graph without instructions has the same paths
abbrev pub SamePaths : Type 0
SamePaths = (blocks : List Block) (b : ℕ) (p : List ℕ) → IsPath (edges_of blocks) b p ↔ IsPath (graph_of blocks) b p

-- the use of a local comes before its definition exactly where a path comes there without passing the definition
pub before_told : SamePaths → (f : FuncState) (at : Spot) (u : Use) (l : LocalNo) (b k : ℕ) (x : Placed) (t : Bool) → IsNumbered f → u.val ≡ Local l
    → u.block ≡ at.block → u.place ≡ at.place → IsGiver f.blocks l b k x
    → (IsTrue t ↔ Without (edges_of f.blocks) (spot_at b k) at) → IsTrue t ↔ IsUsedBefore f u
before_told law f at u l b k x t num is ub up gives told = (
  λ s. let w = told.0 s in (
    w.0,
    record {
      local = l;
      is_local = is;
      block = b;
      place = k;
      giver = x;
      gives = gives;
      path_is = subst (λ a. IsPath (graph_of f.blocks) a w.0) (sym ub) ((law f.blocks at.block w.0).0 w.1);
      not_met = λ met. w.2 (met_passed f b k x at w.0 num gives.found
          (subst (λ a. IsMet (graph_of f.blocks) x.number a at.place w.0) ub (subst (λ a. IsMet (graph_of f.blocks) x.number u.block a w.0) up met)));
    },
  ),
  λ h.
      let q = h.1 in
      let l_is : q.local ≡ l = let e = q.is_local in cc in
      let other : IsGiver f.blocks l q.block q.place q.giver = subst (λ (m : LocalNo). IsGiver f.blocks m q.block q.place q.giver) l_is q.gives in
      let one = num.one_giver l b k q.block q.place x q.giver gives other in
      told.1 (
        h.0,
        (law f.blocks at.block h.0).1 (subst (λ a. IsPath (graph_of f.blocks) a h.0) ub q.path_is),
        λ passed. q.not_met
            (subst (λ a. IsMet (graph_of f.blocks) q.giver.number a u.place h.0) (sym ub)
            (subst (λ a. IsMet (graph_of f.blocks) q.giver.number at.block a h.0) (sym up)
            (passed_met f q.block q.place q.giver at h.0 q.gives.found
            (subst (λ a. IsPassed (spot_at a q.place) at h.0) one.0 (subst (λ a. IsPassed (spot_at b a) at h.0) one.1 passed))))),
      ),
)

-- an instruction has a use for each operand
pub as_many_uses : (blocks : List Block) (b k : ℕ) (inst : Inst) → length (uses_at blocks b k inst) ≡ length (operands_of inst)
as_many_uses blocks b k (Alloca _ _ _) = refl
as_many_uses blocks b k (Gep _ _ _ _ _) = refl
as_many_uses blocks b k (Step base offset terms h i t) = length-map (operands_of (Step base offset terms h i t)) (used_at b k)
as_many_uses blocks b k (Load _ _ _) = refl
as_many_uses blocks b k (Store _ _ _ _) = refl
as_many_uses blocks b k (Copy _ _ _ _ _) = refl
as_many_uses blocks b k (Call c r args e h t) = length-map (operands_of (Call c r args e h t)) (used_at b k)
as_many_uses blocks b k (Bin _ _ _ _ _ _) = refl
as_many_uses blocks b k (Cmp _ _ _ _ _ _) = refl
as_many_uses blocks b k (Select _ _ _ _ _) = refl
as_many_uses blocks b k (Cast _ _ _ _ _ _) = refl
as_many_uses blocks b k (Phi ty entries t) = length-map entries (entry_use blocks) ∙ sym (length-map entries (entry_operand ty))
