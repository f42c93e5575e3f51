-- A memcpy with another source, and a load that gives way: the edges and the form stay.
use Rattle.std.proofs.Common.{◌≡◌, ◌∙◌, ℕ, List, [], Option, Some, None, refl, sym, ap, subst, inl, inr}
use Rattle.std.specs.Prelude.{◌==◌}
use Rattle.std.proofs.lemmas.Bool.{cases_Bool}
use Rattle.ms_paths.specs.Flow.{IsClosed}
use Rattle.ms_ir.specs.declared.names.LocalNo.{LocalNo}
use Rattle.ms_ir.specs.declared.inst.Val.{Val}
use Rattle.ms_ir.specs.declared.inst.Arg.{Arg}
use Rattle.ms_ir.specs.declared.inst.Inst.{Inst}
use Rattle.ms_ir.specs.declared.inst.Inst.TheVariants.{Alloca, Gep, Step, Load, Store, Copy, Call, Bin, Cmp, Select, Cast, Phi}
use Rattle.ms_ir.specs.declared.inst.Term.{Term}
use Rattle.ms_ir.specs.declared.inst.Term.TheVariants.{Br, CondBr, Ret, Unreachable}
use Rattle.ms_ir.specs.Inst.{kind_of_inst}
use Rattle.ms_ir.specs.Func.{Placed, Block, FuncState, IsAt, IsSomewhere, IsTaken}
use Rattle.ms_ir.specs.Graph.{graph_of, successors}
use Rattle.ms_ir.specs.Changes.{inst_sourced, placed_sourced, block_sourced, with_source, inst_with, placed_with, block_with, term_with, with_replaced}
use Rattle.ms_flow.specs.Table.{edges_of}
use Rattle.ms_form.specs.Form.{FormState}
use Rattle.ms_build.specs.Built.{IsFormOf}
use Rattle.ms_ir.specs.SoundFunc.{IsSoundFunc}
use Rattle.ms_flow.specs.Flow.{FlowState}
use Rattle.ms_form.specs.Form.{HasPlaces}
use Rattle.ms_form.specs.Counts.{pred_counts}
use Rattle.ms_alias.specs.Tables.{AliasState, IsAliasOf}
use Rattle.ms_update.specs.Edits.{func_without}
use Rattle.ms_update.proofs.Without.{edges_without}
use Rattle.ms_cache.specs.Stays.{Kept}
use Rattle.ms_cache.specs.Edited.{IsLoadGone}
use Rattle.ms_cache.proofs.Replaced.{replaced_there}
use Rattle.ms_kept.specs.Answers.{AreRight}
use Rattle.ms_whole.specs.Whole.{IsWhole, IsLoadThere}
use Rattle.ms_whole.proofs.Mapped.{edges_map, graph_map, form_map}

-- ---- another source
kind_sourced : (arg : Arg) (inst : Inst) → kind_of_inst (inst_sourced arg inst) ≡ kind_of_inst inst
kind_sourced arg (Copy to from len head tail) = refl
kind_sourced arg inst = refl

sourced_cases : (n : ℕ) (arg : Arg) (P : Placed → Type 0) (x : Placed) → P x → P (record x { inst = inst_sourced arg x.inst }) → P (placed_sourced n arg x)
sourced_cases n arg P x same other = elim (cases_Bool (x.number == n)) [
  | inl t ↦ rw t other
  | inr e ↦ rw e same
]

number_sourced : (n : ℕ) (arg : Arg) (x : Placed) → (placed_sourced n arg x).number ≡ x.number
number_sourced n arg x = sourced_cases n arg (λ (y : Placed). y.number ≡ x.number) x refl refl

same_kind : (n : ℕ) (arg : Arg) (x : Placed) → kind_of_inst (placed_sourced n arg x).inst ≡ kind_of_inst x.inst
same_kind n arg x = sourced_cases n arg (λ (y : Placed). kind_of_inst y.inst ≡ kind_of_inst x.inst) x refl (kind_sourced arg x.inst)

pub source_edges : (f : FuncState) (n : ℕ) (arg : Arg) → edges_of (with_source f n arg).blocks ≡ edges_of f.blocks
source_edges f n arg = edges_map (placed_sourced n arg) (block_sourced n arg) (λ b. refl) (number_sourced n arg) (same_kind n arg) (λ b. refl) f.blocks

pub source_form : (f : FuncState) (n : ℕ) (arg : Arg) (h : FormState) → IsFormOf f h → IsFormOf (with_source f n arg) h
source_form f n arg h = form_map (placed_sourced n arg) (block_sourced n arg) (λ b. refl) (number_sourced n arg) (same_kind n arg) (λ b. refl) f h

-- ---- another value for a local
kind_with : (l : LocalNo) (by : Val) (x : Placed) → kind_of_inst (placed_with l by x).inst ≡ kind_of_inst x.inst
kind_with l by x = of x.inst
  where
    of : (inst : Inst) → kind_of_inst (inst_with l by inst) ≡ kind_of_inst inst
    of (Alloca size head tail) = refl
    of (Gep base offset head index tail) = refl
    of (Step base offset terms head index tail) = refl
    of (Load ty ptr tail) = refl
    of (Store ty val ptr tail) = refl
    of (Copy to from len head tail) = refl
    of (Call callee ret args effects head tail) = refl
    of (Bin op flags ty a b tail) = refl
    of (Cmp pred flags ty a b tail) = refl
    of (Select cond ty a b tail) = refl
    of (Cast op flags from a to tail) = refl
    of (Phi ty entries tail) = refl

next_with : (l : LocalNo) (by : Val) (b : Block) → successors (block_with l by b).term ≡ successors b.term
next_with l by b = of b.term
  where
    of : (t : Term) → successors (term_with l by t) ≡ successors t
    of (Br a text) = refl
    of (CondBr cond a c text) = refl
    of (Ret None text) = refl
    of (Ret (Some v) text) = refl
    of (Unreachable text) = refl

pub replaced_edges : (f : FuncState) (l : LocalNo) (by : Val) → edges_of (with_replaced f l by).blocks ≡ edges_of f.blocks
replaced_edges f l by = edges_map (placed_with l by) (block_with l by) (λ b. refl) (λ x. refl) (kind_with l by) (next_with l by) f.blocks

replaced_graph : (f : FuncState) (l : LocalNo) (by : Val) → graph_of (with_replaced f l by).blocks ≡ graph_of f.blocks
replaced_graph f l by = graph_map (placed_with l by) (block_with l by) (λ b. refl) (λ x. refl) (kind_with l by) (next_with l by) f.blocks

pub replaced_form : (f : FuncState) (l : LocalNo) (by : Val) (h : FormState) → IsFormOf f h → IsFormOf (with_replaced f l by) h
replaced_form f l by h = form_map (placed_with l by) (block_with l by) (λ b. refl) (λ x. refl) (kind_with l by) (next_with l by) f h

-- ---- whole again
pub source_whole : (f g : FuncState) (n : ℕ) (arg : Arg) (flow : FlowState) (h : FormState) (a : AliasState) (old new : List Kept) → g ≡ with_source f n arg → IsWhole f flow h a old
    → IsSoundFunc (with_source f n arg) → IsAliasOf (with_source f n arg) a → AreRight (with_source f n arg) new → IsWhole g flow h a new
source_whole f g n arg flow h a old new is w sound alias right = subst (λ (k : FuncState). IsWhole k flow h a new) (sym is) (record {
  formed = record {
    graph = w.formed.graph ∙ sym (source_edges f n arg);
    closed = sound.closed;
    reducible = w.formed.reducible;
    form = source_form f n arg h w.formed.form;
  };
  places = w.places;
  waiting = w.waiting;
  alias = alias;
  sound = sound;
  right = right;
})

-- what `remove` asks of a function in which a local gave way
pub record WayReady (g : FuncState) (flow : FlowState) (h : FormState) (n : ℕ) : Type 0 where
  pub graph : flow.graph ≡ edges_of g.blocks
  pub closed : IsClosed (graph_of g.blocks)
  pub there : IsSomewhere g.blocks n
  pub form : IsFormOf g h
  pub places : HasPlaces (pred_counts flow) g.made h

pub way_ready : (f g : FuncState) (l : LocalNo) (by : Val) (flow : FlowState) (h : FormState) (a : AliasState) (kept : List Kept) (n : ℕ) → g ≡ with_replaced f l by → IsWhole f flow h a kept
    → IsSomewhere f.blocks n → WayReady g flow h n
way_ready f g l by flow h a kept n is w there = subst (λ (k : FuncState). WayReady k flow h n) (sym is) (record {
  graph = w.formed.graph ∙ sym (replaced_edges f l by);
  closed = subst IsClosed (sym (replaced_graph f l by)) w.formed.closed;
  there = replaced_there f l by n there;
  form = replaced_form f l by h w.formed.form;
  places = w.places;
})

pub load_gone : (f g k : FuncState) (n : ℕ) (l : LocalNo) (by : Val) (o : Option LocalNo) (inst : Inst) → (t : IsLoadThere f n by) → o ≡ Some l
    → ((b place : ℕ) (x : Placed) → IsAt f.blocks n b place x → o ≡ x.result) → k ≡ with_replaced f l by → IsTaken k g n inst → IsLoadGone f g n by
load_gone f g k n l by o inst t is each way taken = record {
  b = t.b;
  place = t.place;
  x = t.x;
  at = t.at;
  ty = t.ty;
  ptr = t.ptr;
  tail = t.tail;
  load = t.load;
  l = l;
  result = sym (each t.b t.place t.x t.at) ∙ is;
  value = t.value;
  inst = inst;
  taken = subst (λ (m : FuncState). IsTaken m g n inst) way taken;
}

pub gone_whole : (f k g : FuncState) (n : ℕ) (inst : Inst) (flow : FlowState) (h h' : FormState) (a : AliasState) (old new : List Kept) → IsWhole f flow h a old → WayReady k flow h n
    → IsTaken k g n inst → g ≡ func_without n k → IsFormOf (func_without n k) h' → HasPlaces (pred_counts flow) k.made h' → h'.waiting ≡ [] → IsSoundFunc g → IsAliasOf g a
    → AreRight g new → IsWhole g flow h' a new
gone_whole f k g n inst flow h h' a old new w ready taken is form places waiting sound alias right = record {
  formed = record {
    graph = ready.graph ∙ sym (ap (λ (m : FuncState). edges_of m.blocks) is ∙ edges_without n k.blocks);
    closed = sound.closed;
    reducible = w.formed.reducible;
    form = subst (λ (m : FuncState). IsFormOf m h') (sym is) form;
  };
  places = subst (λ (m : ℕ). HasPlaces (pred_counts flow) m h') (sym (ap (λ (m : FuncState). m.made) is)) places;
  waiting = waiting;
  alias = alias;
  sound = sound;
  right = right;
}
