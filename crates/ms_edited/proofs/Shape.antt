-- A sound function, apart from its uses, and what of it a function has that has no other edges.
use Rattle.std.proofs.Common.{◌≡◌, ◌∙◌, ◌<◌, ℕ, zero, suc, Bool, true, false, List, [], ◌∷◌, length, get_or, Some, refl, sym, ap, subst, inl, inr, arith}
use Rattle.std.specs.Prelude.{Contains, slice_get, filter}
use Rattle.std.proofs.lemmas.Option.{slice_get-get_or, get_or_from_slice_get, slice_get_within}
use Rattle.ms_paths.specs.Flow.{Block as Run, block_at, HasEdge, IsPath, IsClosed, IsReducible}
use Rattle.ms_paths.specs.Edits.{IsPartOf}
use Rattle.ms_ir.specs.declared.names.Ty.{Ty}
use Rattle.ms_ir.specs.declared.names.LocalNo.{LocalNo}
use Rattle.ms_ir.specs.declared.inst.Val.{Val}
use Rattle.ms_ir.specs.declared.inst.Val.TheVariants.{Num, Local, Global}
use Rattle.ms_ir.specs.declared.inst.Inst.{Inst}
use Rattle.ms_ir.specs.declared.inst.Inst.TheVariants.{Phi}
use Rattle.ms_ir.specs.declared.inst.Term.{Term}
use Rattle.ms_ir.specs.Inst.{result_type}
use Rattle.ms_ir.specs.Func.{Placed, Block, FuncState, insts_at, no_block}
use Rattle.ms_ir.specs.Graph.{graph_of, successors, numbers}
use Rattle.ms_ir.specs.Locals.{HasType, IsGiver}
use Rattle.ms_ir.specs.Types.{is_alloca, is_phi, has_entry, types_stand, term_stands}
use Rattle.ms_ir.specs.Uses.{Operand, Use, operands_of, term_operands}
use Rattle.ms_ir.specs.Sound.{IsUsedBefore, LeadsToFirst, HasBadEntries, times_in}
use Rattle.ms_ir.specs.SoundFunc.{IsValueIn, AreValues, IsAmongPhis, IsSoundInst, IsSoundFunc}
use Rattle.ms_ir.specs.Edits.{term_at, IsUseIn}

-- ---- the graph

pub events_at : (blocks : List Block) (b : ℕ) → (block_at (graph_of blocks) b).events ≡ numbers (insts_at blocks b)
events_at [] b = refl
events_at (x ∷ blocks) zero = refl
events_at (x ∷ blocks) (suc b) = events_at blocks b

next_at : (blocks : List Block) (b : ℕ) → (block_at (graph_of blocks) b).next ≡ successors (term_at blocks b)
next_at [] b = refl
next_at (x ∷ blocks) zero = refl
next_at (x ∷ blocks) (suc b) = next_at blocks b

graph_size : (blocks : List Block) → length (graph_of blocks) ≡ length blocks
graph_size [] = refl
graph_size (x ∷ blocks) = ap suc (graph_size blocks)

-- the law that a graph with fewer edges is reducible where the larger one is
abbrev pub PartIsReducible : Type 0
PartIsReducible = (h g : List Run) (D : ℕ → Bool) → IsPartOf h g D → IsReducible g → IsReducible h

none_pass : (xs : List ℕ) → filter (λ (i : ℕ). false) xs ≡ []
none_pass [] = refl
none_pass (x ∷ xs) = none_pass xs

-- the new blocks have no edges but those of the old ones
abbrev pub HasNoOtherEdge : List Block → List Block → Type 0
HasNoOtherEdge old new = (a b : ℕ) → Contains (successors (term_at new a)) b → Contains (successors (term_at old a)) b

module _ (old new : List Block) (size : length new ≡ length old) (within : HasNoOtherEdge old new) where
  edge_within : (a b : ℕ) → HasEdge (graph_of new) a b → HasEdge (graph_of old) a b
  edge_within a b e = subst (λ bs. Contains bs b) (sym (next_at old a)) (within a b (subst (λ bs. Contains bs b) (next_at new a) e))

  pub path_within : (b : ℕ) (p : List ℕ) → IsPath (graph_of new) b p → IsPath (graph_of old) b p
  path_within b [] h = h
  path_within b (a ∷ p) h = (edge_within a b h.0, path_within a p h.1)

  same_size : length (graph_of old) ≡ length (graph_of new)
  same_size = graph_size old ∙ sym size ∙ sym (graph_size new)

  closed_within : IsClosed (graph_of old) → IsClosed (graph_of new)
  closed_within h = record {
    has_entry = subst (λ n. 0 < n) same_size h.has_entry;
    edges_in = λ a b e. subst (λ n. b < n) same_size (h.edges_in a b (edge_within a b e));
  }

  reducible_within : PartIsReducible → IsReducible (graph_of old) → IsReducible (graph_of new)
  reducible_within part h =
      part (graph_of new) (graph_of old) (λ i. false)
      (record { events_same = λ b. none_pass (block_at (graph_of new) b).events ∙ sym (none_pass (block_at (graph_of old) b).events); edges_of = edge_within }) h

-- ---- values

pub value_in : (f g : FuncState) (ty : Ty) (v : Val) → ((l : LocalNo) → v ≡ Local l → HasType f l ty → HasType g l ty) → IsValueIn f ty v → IsValueIn g ty v
value_in f g ty (Num own n) h is = is
value_in f g ty (Local l) h is = h l refl is
value_in f g ty (Global k) h is = is

-- what gives the local in the one function, or an instruction of the same type, gives it in the other
abbrev pub IsGivenStill : List Block → List Block → LocalNo → Type 0
IsGivenStill old new l = (b k : ℕ) (x : Placed) → IsGiver old l b k x → (c : ℕ) × (j : ℕ) × (y : Placed) × IsGiver new l c j y × (result_type y.inst ≡ result_type x.inst)

pub type_in : (f g : FuncState) (l : LocalNo) (ty : Ty) → g.params ≡ f.params → IsGivenStill f.blocks g.blocks l → HasType f l ty → HasType g l ty
type_in f g l ty same given (inl p) = inl (p.0, ap (λ ps. slice_get ps l.0) same ∙ p.1, p.2)
type_in f g l ty same given (inr h) = let r = given h.0 h.1 h.2 h.3 in inr (r.0, r.1, r.2, r.3, r.4 ∙ h.4)

pub same_values : (f g : FuncState) (operands : List Operand) → g.params ≡ f.params
    → ((o : Operand) (l : LocalNo) → Contains operands o → o.val ≡ Local l → IsGivenStill f.blocks g.blocks l) → AreValues f operands → AreValues g operands
same_values f g operands same given h = λ o c. value_in f g o.ty o.val (λ l is. type_in f g l o.ty same (given o l c is)) (h o c)

-- ---- instructions

-- an instruction that stands where it may, apart from its operands and uses
pub record IsShaped (blocks : List Block) (b k : ℕ) (inst : Inst) : Type 0 where
  pub types : types_stand inst ≡ true
  pub alloca : is_alloca inst ≡ true → b ≡ 0
  pub phi : is_phi inst ≡ true → IsAmongPhis blocks b k
  pub entered : has_entry inst ≡ true
  pub entries : HasBadEntries blocks b inst → ⊥

pub shape_of : (f : FuncState) (b k : ℕ) (inst : Inst) → IsSoundInst f b k inst → IsShaped f.blocks b k inst
shape_of f b k inst h = record { types = h.types; alloca = h.alloca; phi = h.phi; entered = h.entered; entries = h.entries }

-- where the terminators are the same, entries that do not fit did not fit
pub entries_back : (old new : List Block) → ((c : ℕ) → term_at new c ≡ term_at old c) → (b : ℕ) (inst : Inst) → HasBadEntries new b inst → HasBadEntries old b inst
entries_back old new same b (Phi ty entries tail) (inl (a, other)) = inl (a, λ e. other (e ∙ ap (λ (t : Term). times_in b (successors t)) (sym (same a))))
entries_back old new same b (Phi ty entries tail) (inr two) = inr two
entries_back old new same b inst h = absurd h

-- ---- functions

-- a terminator that may end a block, apart from its uses
pub record IsShapedTerm (g : FuncState) (term : Term) : Type 0 where
  pub types : term_stands term ≡ true
  pub operands : AreValues g (term_operands term)
  pub targets : LeadsToFirst term → ⊥

-- the block that had the terminator
pub old_block : (old new : List Block) → length new ≡ length old → (b : ℕ) (x : Block) → slice_get new b ≡ Some x → term_at new b ≡ term_at old b → (y : Block) × (slice_get old b ≡ Some y) × (y.term ≡ x.term)
old_block old new size b x found same =
    let lt = slice_get_within new b x found in
    let in' : b < length old = omega (arith, lt, size) in
    (get_or old b no_block, slice_get-get_or old b no_block in', sym same ∙ ap (λ (z : Block). z.term) (get_or_from_slice_get new b x no_block found))

pub sound_by : PartIsReducible → (f g : FuncState) → IsSoundFunc f → length g.blocks ≡ length f.blocks → HasNoOtherEdge f.blocks g.blocks
    → ((b k : ℕ) (x : Placed) → slice_get (insts_at g.blocks b) k ≡ Some x → IsShaped g.blocks b k x.inst)
    → ((b k : ℕ) (x : Placed) → slice_get (insts_at g.blocks b) k ≡ Some x → AreValues g (operands_of x.inst))
    → ((b : ℕ) (x : Block) → slice_get g.blocks b ≡ Some x → IsShapedTerm g x.term)
    → ((u : Use) → IsUseIn g.blocks u → IsUsedBefore g u → ⊥) → IsSoundFunc g
sound_by part f g sound size within shapes values terms behind = record {
  closed = closed_within f.blocks g.blocks size within sound.closed;
  insts = λ b k x found.
      let s = shapes b k x found in
      record {
        types = s.types;
        operands = values b k x found;
        alloca = s.alloca;
        phi = s.phi;
        entered = s.entered;
        entries = s.entries;
        uses = λ u c. behind u (inl (b, k, x, found, c));
      };
  terms = λ b x found.
      let t = terms b x found in
      record { types = t.types; operands = t.operands; targets = t.targets; uses = λ u c. behind u (inr (b, x, found, c)) };
  reducible = reducible_within f.blocks g.blocks size within part sound.reducible;
}

-- where the terminators are the same
pub sound_as : PartIsReducible → (f g : FuncState) → IsSoundFunc f → g.params ≡ f.params → length g.blocks ≡ length f.blocks → ((c : ℕ) → term_at g.blocks c ≡ term_at f.blocks c)
    → ((b k : ℕ) (x : Placed) → slice_get (insts_at g.blocks b) k ≡ Some x → IsShaped g.blocks b k x.inst)
    → ((b k : ℕ) (x : Placed) → slice_get (insts_at g.blocks b) k ≡ Some x → AreValues g (operands_of x.inst))
    → ((b : ℕ) (x : Block) → slice_get f.blocks b ≡ Some x → (o : Operand) (l : LocalNo) → Contains (term_operands x.term) o → o.val ≡ Local l → IsGivenStill f.blocks g.blocks l)
    → ((u : Use) → IsUseIn g.blocks u → IsUsedBefore g u → ⊥) → IsSoundFunc g
sound_as part f g sound params size same shapes values given behind =
    sound_by part f g sound size (λ a b c. subst (λ (t : Term). Contains (successors t) b) (same a) c) shapes values
    (λ b x found.
    let old = old_block f.blocks g.blocks size b x found (same b) in
    let s = sound.terms b old.0 old.1 in
    subst (λ (t : Term). IsShapedTerm g t) old.2
    (record { types = s.types; operands = same_values f g (term_operands old.0.term) params (given b old.0 old.1) s.operands; targets = s.targets }))
    behind
