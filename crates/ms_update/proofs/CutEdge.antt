-- The instructions of a function behind a cut edge.
use Rattle.std.proofs.Common.{◌≡◌, ◌⊎◌, ◌↔◌, ℕ, zero, suc, List, [], ◌∷◌, length, take, map, get_or, Option, Some, None, refl, ap, sym, ◌∙◌, subst, ⊎_elim, inl, inr, arith, if◌then◌else◌}
use Rattle.std.specs.Prelude.{slice_get, option_map}
use Rattle.std.specs.List.{take-map}
use Rattle.std.proofs.lemmas.Bool.Decides.{eqb_tells}
use Rattle.ms_paths.specs.Flow.{Block as Run, HasEdge, IsClosed}
use Rattle.ms_ir.specs.declared.names.InstNo.{InstNo}
use Rattle.ms_ir.specs.declared.inst.Inst.{Inst}
use Rattle.ms_ir.specs.declared.inst.Inst.TheVariants.{Alloca, Gep, Step, Load, Store, Copy, Call, Bin, Cmp, Select, Cast, Phi}
use Rattle.ms_ir.specs.declared.inst.Term.{Term}
use Rattle.ms_ir.specs.declared.inst.Term.TheVariants.{Br, CondBr, Ret, Unreachable}
use Rattle.ms_ir.specs.Inst.{kind_of_inst}
use Rattle.ms_ir.specs.Func.{Placed, Block, FuncState, insts_at, no_block}
use Rattle.ms_ir.specs.Graph.{graph_of, is_def, successors}
use Rattle.ms_ir.specs.Changes.{IsCondBr, inst_without, placed_without, with_entry_lost, with_term, with_edge_cut, kept_target, cut_target}
use Rattle.ms_flow.specs.declared.sources.Source.{Source}
use Rattle.ms_flow.specs.Table.{edges_of, next_of}
use Rattle.ms_flow.proofs.Tables.{length-edges_of, length-graph_of}
use Rattle.ms_flow.specs.Cut.{AreBefore, cut_graph, edge_before, place_before}
use Rattle.ms_build.specs.Filled.{last_from, last_step}
use Rattle.ms_build.proofs.Whole.{EdgesTold, source_edge}
use Rattle.ms_update.specs.Dropped.{StoodBefore}

-- Instructions keep their numbers and what they are to memory.

kind_without : (from : ℕ) (inst : Inst) → kind_of_inst (inst_without from inst) ≡ kind_of_inst inst
kind_without from (Alloca size head tail) = refl
kind_without from (Gep base offset head index tail) = refl
kind_without from (Step base offset terms head index tail) = refl
kind_without from (Load ty ptr tail) = refl
kind_without from (Store ty val ptr tail) = refl
kind_without from (Copy to src len head tail) = refl
kind_without from (Call callee ret args effects head tail) = refl
kind_without from (Bin op flags ty a b tail) = refl
kind_without from (Cmp pred flags ty a b tail) = refl
kind_without from (Select cond ty a b tail) = refl
kind_without from (Cast op flags src a to tail) = refl
kind_without from (Phi ty entries tail) = refl

last_map : (from : ℕ) (l : Option InstNo) (xs : List Placed) → last_from l (map (placed_without from) xs) ≡ last_from l xs
last_map from l [] = refl
last_map from l (x ∷ xs) =
    let step : last_step l (placed_without from x) ≡ last_step l x = ap (λ k. if is_def k then Some (record { 0 = x.number }) else l) (kind_without from x.inst) in
    ap (λ (m : Option InstNo). last_from m (map (placed_without from) xs)) step ∙ last_map from (last_step l x) xs

-- The same instructions, but for entries of phis.
pub record AreAlike (old new : List Placed) : Type 0 where
  pub back : (k : ℕ) (x : Placed) → slice_get new k ≡ Some x → (y : Placed) × (slice_get old k ≡ Some y) × (y.number ≡ x.number) × (kind_of_inst y.inst ≡ kind_of_inst x.inst)
  pub on : (k : ℕ) (y : Placed) → slice_get old k ≡ Some y → (x : Placed) × (slice_get new k ≡ Some x) × (y.number ≡ x.number) × (kind_of_inst y.inst ≡ kind_of_inst x.inst)
  pub lasts : (k : ℕ) → last_from None (take k new) ≡ last_from None (take k old)
  pub last : last_from None new ≡ last_from None old

alike_same : (old new : List Placed) → new ≡ old → AreAlike old new
alike_same old new e = record {
  back = λ k x found. (x, subst (λ (xs : List Placed). slice_get xs k ≡ Some x) e found, refl, refl);
  on = λ k y found. (y, subst (λ (xs : List Placed). slice_get xs k ≡ Some y) (sym e) found, refl, refl);
  lasts = λ k. ap (λ (xs : List Placed). last_from None (take k xs)) e;
  last = ap (last_from None) e;
}

get_map : (from : ℕ) (xs : List Placed) (k : ℕ) → slice_get (map (placed_without from) xs) k ≡ option_map (placed_without from) (slice_get xs k)
get_map from [] k = refl
get_map from (x ∷ xs) zero = refl
get_map from (x ∷ xs) (suc k) = get_map from xs k

from_map : (from : ℕ) (o : Option Placed) (z : Placed) → option_map (placed_without from) o ≡ Some z → (y : Placed) × (o ≡ Some y) × (placed_without from y ≡ z)
from_map from None z e = cc
from_map from (Some y) z e = let one : placed_without from y ≡ z = cc in (y, refl, one)

alike_map : (from : ℕ) (old new : List Placed) → new ≡ map (placed_without from) old → AreAlike old new
alike_map from old new e = record {
  back = λ k x found.
      let m = from_map from (slice_get old k) x (sym (get_map from old k) ∙ subst (λ (xs : List Placed). slice_get xs k ≡ Some x) e found) in
      (m.0, m.1, ap (λ (z : Placed). z.number) m.2, sym (kind_without from m.0.inst) ∙ ap (λ (z : Placed). kind_of_inst z.inst) m.2);
  on = λ k y found.
      (placed_without from y, subst (λ (xs : List Placed). slice_get xs k ≡ Some (placed_without from y)) (sym e) (get_map from old k ∙ ap (option_map (placed_without from)) found), refl, sym (kind_without from y.inst));
  lasts = λ k. ap (λ (xs : List Placed). last_from None (take k xs)) e ∙ ap (last_from None) (take-map (placed_without from) k old) ∙ last_map from None (take k old);
  last = ap (last_from None) e ∙ last_map from None old;
}

term_insts : (blocks : List Block) (b : ℕ) (t : Term) (c : ℕ) → insts_at (with_term blocks b t) c ≡ insts_at blocks c
term_insts [] b t c = refl
term_insts (x ∷ blocks) zero t zero = refl
term_insts (x ∷ blocks) zero t (suc c) = refl
term_insts (x ∷ blocks) (suc b) t zero = refl
term_insts (x ∷ blocks) (suc b) t (suc c) = term_insts blocks b t c

entry_insts : (blocks : List Block) (d from c : ℕ) → (insts_at (with_entry_lost blocks d from) c ≡ insts_at blocks c) ⊎ (insts_at (with_entry_lost blocks d from) c ≡ map (placed_without from) (insts_at blocks c))
entry_insts [] d from c = inl refl
entry_insts (x ∷ blocks) zero from zero = inr refl
entry_insts (x ∷ blocks) zero from (suc c) = inl refl
entry_insts (x ∷ blocks) (suc d) from zero = inl refl
entry_insts (x ∷ blocks) (suc d) from (suc c) = entry_insts blocks d from c

pub alike_cut : (f : FuncState) (b slot c : ℕ) → AreAlike (insts_at f.blocks c) (insts_at (with_edge_cut f b slot).blocks c)
alike_cut f b slot c =
    let term = (get_or f.blocks b no_block).term in
    let branched = with_term f.blocks b (Br (kept_target term slot) []) in
    let before : insts_at branched c ≡ insts_at f.blocks c = term_insts f.blocks b (Br (kept_target term slot) []) c in
    ⊎_elim
    (λ (e : insts_at (with_edge_cut f b slot).blocks c ≡ insts_at branched c). alike_same (insts_at f.blocks c) (insts_at (with_edge_cut f b slot).blocks c) (e ∙ before))
    (λ (e : insts_at (with_edge_cut f b slot).blocks c ≡ map (placed_without b) (insts_at branched c)).
    alike_map b (insts_at f.blocks c) (insts_at (with_edge_cut f b slot).blocks c) (e ∙ ap (map (placed_without b)) before))
    (entry_insts branched (cut_target term slot).0 b c)

pub two_targets : (t : Term) → IsCondBr t → length (successors t) ≡ 2
two_targets (CondBr test x y text) c = refl
two_targets (Br a text) c = absurd c
two_targets (Ret value text) c = absurd c
two_targets (Unreachable text) c = absurd c

-- Edges of the cut graph, as they were.

from_before : (c slot : ℕ) (e : Source) → (edge_before c slot e).from ≡ e.from
from_before c slot e = elim (eqb_tells e.from c) [
  | inl same ↦ rw same.0 (sym same.1)
  | inr other ↦ rw other.0 refl
]

pub stood_cut : (g : List Run) (c slot : ℕ) (rows : List (List ℕ)) → length (cut_graph g c slot) ≡ length g → IsClosed (cut_graph g c slot) → EdgesTold (cut_graph g c slot) → AreBefore g c slot rows
    → StoodBefore g (cut_graph g c slot) (place_before rows)
stood_cut g c slot rows same closed told before = record {
  over = λ b k e found.
      let lt = closed.edges_in e.from b (source_edge (cut_graph g c slot) told b k e found).1 in
      (edge_before c slot e, before.stood b k e (omega arith) found, from_before c slot e);
  behind = λ b k lt at. before.behind b k (omega arith) at;
}

pub two_next : (g : List Run) (blocks : List Block) (b : ℕ) → g ≡ edges_of blocks → next_of (edges_of blocks) b ≡ successors (get_or blocks b no_block).term → IsCondBr (get_or blocks b no_block).term → length (next_of g b) ≡ 2
two_next g blocks b same next c = ap (λ (h : List Run). length (next_of h b)) same ∙ ap (λ (l : List ℕ). length l) next ∙ two_targets (get_or blocks b no_block).term c

pub closed_func : (blocks : List Block) → ((x y : ℕ) → HasEdge (edges_of blocks) x y ↔ HasEdge (graph_of blocks) x y) → IsClosed (edges_of blocks) → IsClosed (graph_of blocks)
closed_func blocks same c =
    let size : length (edges_of blocks) ≡ length (graph_of blocks) = length-edges_of blocks ∙ sym (length-graph_of blocks) in
    record { has_entry = (let e = c.has_entry in omega arith); edges_in = λ x y h. (let e = c.edges_in x y ((same x y).1 h) in omega arith) }
