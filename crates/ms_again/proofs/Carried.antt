-- What holds of a function holds of one that is the same but for its written numbers.
use Rattle.std.proofs.Common.{◌≡◌, inl, inr, ⊎_elim, ℕ, zero, suc, List, [], ◌∷◌, Some, map, length, refl, sym, ap, subst, ◌∙◌}
use Rattle.std.specs.Prelude.{slice_get, slice_index_or}
use Rattle.ms_paths.specs.Flow.{Block as Run, IsPath, IsMet}
use Rattle.ms_ir.specs.declared.names.Ty.{Ty}
use Rattle.ms_ir.specs.declared.names.Param.{Param}
use Rattle.ms_ir.specs.declared.names.LocalNo.{LocalNo}
use Rattle.ms_ir.specs.declared.inst.Entry.{Entry}
use Rattle.ms_ir.specs.declared.inst.Inst.{Inst}
use Rattle.ms_ir.specs.declared.inst.Inst.TheVariants.{Alloca, Gep, Step, Load, Store, Copy, Call, Bin, Cmp, Select, Cast, Phi}
use Rattle.ms_ir.specs.declared.inst.Term.{Term}
use Rattle.ms_ir.specs.Inst.{result_type}
use Rattle.ms_ir.specs.Func.{Placed, Block, FuncState, insts_at, no_block}
use Rattle.ms_ir.specs.Graph.{graph_of, numbers, successors}
use Rattle.ms_ir.specs.Locals.{HasType, IsGiver}
use Rattle.ms_ir.specs.Uses.{Operand, Use, entry_use, used_at, term_operands, uses_at, term_uses_at}
use Rattle.ms_ir.specs.Sound.{HasOtherType, IsPathBefore, IsUsedBefore, HasOtherEdges, HasTwoValues, HasBadEntries, edges_between, times_in}
use Rattle.ms_validity.proofs.ListLemmas.{get_map, map_get}
use Rattle.ms_again.specs.Same.{plain_param, plain_inst, plain_block, plain_func}

-- the functions are the same but for their names and room
abbrev pub AreAlike : FuncState → FuncState → Type 0
AreAlike f g = plain_func f ≡ plain_func g

-- instructions and terminators at their places
plain_insts_at : (bs : List Block) (b : ℕ) → insts_at (map plain_block bs) b ≡ map plain_inst (insts_at bs b)
plain_insts_at [] b = refl
plain_insts_at (x ∷ bs) zero = refl
plain_insts_at (x ∷ bs) (suc b) = plain_insts_at bs b

plain_term_at : (bs : List Block) (b : ℕ) → (slice_index_or (map plain_block bs) b no_block).term ≡ (slice_index_or bs b no_block).term
plain_term_at [] b = refl
plain_term_at (x ∷ bs) zero = refl
plain_term_at (x ∷ bs) (suc b) = plain_term_at bs b

plain_numbers : (xs : List Placed) → numbers (map plain_inst xs) ≡ numbers xs
plain_numbers [] = refl
plain_numbers (x ∷ xs) = ap (λ (ns : List ℕ). x.number ∷ ns) (plain_numbers xs)

plain_graph : (bs : List Block) → graph_of (map plain_block bs) ≡ graph_of bs
plain_graph [] = refl
plain_graph (b ∷ bs) =
    ap (λ ns. let r : Run = record { events = ns; next = successors b.term } in r ∷ graph_of (map plain_block bs)) (plain_numbers b.insts)
    ∙ ap (λ (rest : List Run). let r : Run = record { events = numbers b.insts; next = successors b.term } in r ∷ rest) (plain_graph bs)

blocks_alike : (f g : FuncState) → AreAlike f g → map plain_block f.blocks ≡ map plain_block g.blocks
blocks_alike f g e = ap (λ (h : FuncState). h.blocks) e

insts_alike : (f g : FuncState) → AreAlike f g → (b : ℕ) → map plain_inst (insts_at f.blocks b) ≡ map plain_inst (insts_at g.blocks b)
insts_alike f g e b = sym (plain_insts_at f.blocks b) ∙ ap (λ (bs : List Block). insts_at bs b) (blocks_alike f g e) ∙ plain_insts_at g.blocks b

pub graph_alike : (f g : FuncState) → AreAlike f g → graph_of f.blocks ≡ graph_of g.blocks
graph_alike f g e = sym (plain_graph f.blocks) ∙ ap graph_of (blocks_alike f g e) ∙ plain_graph g.blocks

term_alike : (f g : FuncState) → AreAlike f g → (b : ℕ) → (slice_index_or f.blocks b no_block).term ≡ (slice_index_or g.blocks b no_block).term
term_alike f g e b = sym (plain_term_at f.blocks b) ∙ ap (λ (bs : List Block). (slice_index_or bs b no_block).term) (blocks_alike f g e) ∙ plain_term_at g.blocks b

length_plain : (xs : List Placed) → length (map plain_inst xs) ≡ length xs
length_plain [] = refl
length_plain (x ∷ xs) = ap suc (length_plain xs)

count_alike : (f g : FuncState) → AreAlike f g → (b : ℕ) → length (insts_at f.blocks b) ≡ length (insts_at g.blocks b)
count_alike f g e b = sym (length_plain (insts_at f.blocks b)) ∙ ap length (insts_alike f g e b) ∙ length_plain (insts_at g.blocks b)

-- the instruction at the same place
pub record Other (g : FuncState) (b k : ℕ) (x : Placed) : Type 0 where
  pub y : Placed
  pub there : slice_get (insts_at g.blocks b) k ≡ Some y
  pub same : plain_inst y ≡ plain_inst x

pub other_inst : (f g : FuncState) → AreAlike f g → (b k : ℕ) (x : Placed) → slice_get (insts_at f.blocks b) k ≡ Some x → Other g b k x
other_inst f g e b k x at =
    let plain = map_get plain_inst (insts_at f.blocks b) k x at in
    let r = get_map plain_inst (insts_at g.blocks b) k (plain_inst x) (ap (λ (xs : List Placed). slice_get xs k) (sym (insts_alike f g e b)) ∙ plain) in
    record { y = r.0; there = r.1; same = r.2 }

pub record OtherBlock (g : FuncState) (b : ℕ) (x : Block) : Type 0 where
  pub y : Block
  pub there : slice_get g.blocks b ≡ Some y
  pub same : plain_block y ≡ plain_block x

pub other_block : (f g : FuncState) → AreAlike f g → (b : ℕ) (x : Block) → slice_get f.blocks b ≡ Some x → OtherBlock g b x
other_block f g e b x at =
    let plain = map_get plain_block f.blocks b x at in
    let r = get_map plain_block g.blocks b (plain_block x) (ap (λ (xs : List Block). slice_get xs b) (sym (blocks_alike f g e)) ∙ plain) in
    record { y = r.0; there = r.1; same = r.2 }

-- types
giver_alike : (f g : FuncState) → AreAlike f g → (l : LocalNo) (b k : ℕ) (x : Placed) → IsGiver f.blocks l b k x → (y : Placed) × IsGiver g.blocks l b k y × (plain_inst y ≡ plain_inst x)
giver_alike f g e l b k x h =
    let o = other_inst f g e b k x h.found in
    (o.y, record { found = o.there; gives = ap (λ (p : Placed). p.result) o.same ∙ h.gives }, o.same)

type_alike : (f g : FuncState) → AreAlike f g → (l : LocalNo) (ty : Ty) → HasType f l ty → HasType g l ty
type_alike f g e l ty h = ⊎_elim
    (λ (w : (p : Param) × (slice_get f.params l.0 ≡ Some p) × (p.ty ≡ ty)).
    let plain = map_get plain_param f.params l.0 w.0 w.1 in
    let r = get_map plain_param g.params l.0 (plain_param w.0) (ap (λ (h : FuncState). slice_get h.params l.0) (sym e) ∙ plain) in
    inl (r.0, r.1, ap (λ (p : Param). p.ty) r.2 ∙ w.2))
    (λ (w : (b : ℕ) × (place : ℕ) × (x : Placed) × IsGiver f.blocks l b place x × (result_type x.inst ≡ Some ty)).
    let r = giver_alike f g e l w.0 w.1 w.2 w.3 in
    inr (w.0, w.1, r.0, r.1, ap (λ (p : Placed). result_type p.inst) r.2 ∙ w.4))
    h

pub other_type_alike : (f g : FuncState) → AreAlike f g → (o : Operand) → HasOtherType f o → HasOtherType g o
other_type_alike f g e o h = (h.0, h.1, h.2, type_alike f g e h.0 h.1 h.3, h.4)

-- edges
edges_alike : (f g : FuncState) → AreAlike f g → (a b : ℕ) → edges_between f.blocks a b ≡ edges_between g.blocks a b
edges_alike f g e a b = ap (λ (t : Term). times_in b (successors t)) (term_alike f g e a)

other_edges_alike : (f g : FuncState) → AreAlike f g → (b : ℕ) (entries : List Entry) → HasOtherEdges f.blocks b entries → HasOtherEdges g.blocks b entries
other_edges_alike f g e b entries h = (h.0, λ same. h.1 (same ∙ sym (edges_alike f g e h.0 b)))

pub entries_alike : (f g : FuncState) → AreAlike f g → (b : ℕ) (i : Inst) → HasBadEntries f.blocks b i → HasBadEntries g.blocks b i
entries_alike f g e b (Phi ty entries tail) h = ⊎_elim (λ (w : HasOtherEdges f.blocks b entries). inl (other_edges_alike f g e b entries w)) (λ (w : HasTwoValues entries). inr w) h
entries_alike f g e b (Alloca size head rest) h = absurd h
entries_alike f g e b (Gep base offset head index rest) h = absurd h
entries_alike f g e b (Step base offset terms head index rest) h = absurd h
entries_alike f g e b (Load ty ptr rest) h = absurd h
entries_alike f g e b (Store ty val ptr rest) h = absurd h
entries_alike f g e b (Copy to from len head rest) h = absurd h
entries_alike f g e b (Call callee ret args effects head rest) h = absurd h
entries_alike f g e b (Bin op flags ty x y rest) h = absurd h
entries_alike f g e b (Cmp pred flags ty x y rest) h = absurd h
entries_alike f g e b (Select cond ty x y rest) h = absurd h
entries_alike f g e b (Cast op flags from x to rest) h = absurd h

-- uses
entry_uses : (f g : FuncState) → AreAlike f g → (es : List Entry) → map (entry_use f.blocks) es ≡ map (entry_use g.blocks) es
entry_uses f g e [] = refl
entry_uses f g e (x ∷ es) =
    ap (λ k. let u : Use = record { block = x.from.0; place = k; val = x.val } in u ∷ map (entry_use f.blocks) es) (count_alike f g e x.from.0)
    ∙ ap (λ (us : List Use). entry_use g.blocks x ∷ us) (entry_uses f g e es)

pub uses_alike : (f g : FuncState) → AreAlike f g → (b k : ℕ) (i : Inst) → uses_at f.blocks b k i ≡ uses_at g.blocks b k i
uses_alike f g e b k (Phi ty entries tail) = entry_uses f g e entries
uses_alike f g e b k (Alloca size head rest) = refl
uses_alike f g e b k (Gep base offset head index rest) = refl
uses_alike f g e b k (Step base offset terms head index rest) = refl
uses_alike f g e b k (Load ty ptr rest) = refl
uses_alike f g e b k (Store ty val ptr rest) = refl
uses_alike f g e b k (Copy to from len head rest) = refl
uses_alike f g e b k (Call callee ret args effects head rest) = refl
uses_alike f g e b k (Bin op flags ty x y rest) = refl
uses_alike f g e b k (Cmp pred flags ty x y rest) = refl
uses_alike f g e b k (Select cond ty x y rest) = refl
uses_alike f g e b k (Cast op flags from x to rest) = refl

pub term_uses_alike : (f g : FuncState) → AreAlike f g → (b : ℕ) (t : Term) → term_uses_at f.blocks b t ≡ term_uses_at g.blocks b t
term_uses_alike f g e b t = ap (λ k. map (used_at b k) (term_operands t)) (count_alike f g e b)

path_alike : (f g : FuncState) → AreAlike f g → (u : Use) (path : List ℕ) → IsPathBefore f u path → IsPathBefore g u path
path_alike f g e u path h =
    let graph = graph_alike f g e in
    let r = giver_alike f g e h.local h.block h.place h.giver h.gives in
    let number : r.0.number ≡ h.giver.number = ap (λ (p : Placed). p.number) r.2 in
    record {
      local = h.local;
      is_local = h.is_local;
      block = h.block;
      place = h.place;
      giver = r.0;
      gives = r.1;
      path_is = subst (λ (runs : List Run). IsPath runs u.block path) graph h.path_is;
      not_met = λ met. h.not_met
          (subst (λ (runs : List Run). IsMet runs h.giver.number u.block u.place path) (sym graph) (subst (λ n. IsMet (graph_of g.blocks) n u.block u.place path) number met));
    }

pub before_alike : (f g : FuncState) → AreAlike f g → (u : Use) → IsUsedBefore f u → IsUsedBefore g u
before_alike f g e u h = (h.0, path_alike f g e u h.0 h.1)
