-- What one step of a run changes.
use Rattle.std.proofs.Common.{◌≡◌, ℕ, suc, Bool, true, false, cond, Option, Some, None, ◌∙◌, refl, sym, subst, arith}
use Rattle.std.specs.Prelude.{Contains, slice_index_or, ◌==◌}
use Rattle.ms_paths.specs.Flow.{HasEdge}
use Rattle.ms_ir.specs.declared.inst.Term.{Term}
use Rattle.ms_ir.specs.declared.inst.Term.TheVariants.{Br, CondBr, Ret, Unreachable}
use Rattle.ms_ir.specs.Func.{Placed, FuncState, insts_at, no_block}
use Rattle.ms_ir.specs.Graph.{graph_of, successors}
use Rattle.ms_meaning.specs.Values.{Value}
use Rattle.ms_meaning.specs.States.{Input, State, value_of, operand_of, number_as}
use Rattle.ms_meaning.specs.Steps.{Deed, Doing, Does, Waits, Fails, doing, Moment, On, Over, Waiting, Lost, next, after_deed, after_doing, phis_among, with_phis, entered, enters, branches, leaves, returns, step, step_at}
use Rattle.ms_meaning.specs.Traces.{IsOn, inst_of}
use Rattle.ms_ir.specs.declared.names.Ty.TheVariants.{I1}
use Rattle.ms_meaning.specs.Runs.{moment}
use Rattle.ms_meaning.proofs.LastEvents.{next_at}

-- an instruction was run, or a block was left for another
abbrev pub in_block : FuncState → State → ℕ → (ℕ → Option Value) → State
in_block f t b locals = record t { block = b; place = phis_among (insts_at f.blocks b); locals = locals }

pub data Goes (f : FuncState) (t s : State) : Type 0 where
  ran : (x : Placed) (d : Deed) → inst_of f t ≡ Some x → doing t x.inst ≡ Does d → s ≡ after_deed t x.result d → Goes f t s
  left : (b : ℕ) (locals : ℕ → Option Value) → inst_of f t ≡ None → HasEdge (graph_of f.blocks) t.block b →
      with_phis t.locals t.block (insts_at f.blocks b) ≡ Some locals → s ≡ in_block f t b locals → Goes f t s

edge_to : (f : FuncState) (a b : ℕ) → Contains (successors (slice_index_or f.blocks a no_block).term) b → HasEdge (graph_of f.blocks) a b
edge_to f a b h = subst (λ bs. Contains bs b) (sym (next_at f.blocks a)) h

ran_by : (f : FuncState) (t s : State) (x : Placed) → inst_of f t ≡ Some x → (d : Doing) → doing t x.inst ≡ d → after_doing t x.result d ≡ On s → Goes f t s
ran_by f t s x e (Does deed) is h = ran x deed e is (let same : after_deed t x.result deed ≡ s = cc in sym same)
ran_by f t s x e (Waits made) is h = cc
ran_by f t s x e Fails is h = cc

entered_by : (f : FuncState) (t s : State) (b : ℕ) → inst_of f t ≡ None → HasEdge (graph_of f.blocks) t.block b →
    (o : Option (ℕ → Option Value)) → with_phis t.locals t.block (insts_at f.blocks b) ≡ o → entered f t b o ≡ On s → Goes f t s
entered_by f t s b e edge None is h = cc
entered_by f t s b e edge (Some locals) is h = left b locals e edge is (let same : in_block f t b locals ≡ s = cc in sym same)

branched_if : (f : FuncState) (t s : State) (a b : ℕ) → inst_of f t ≡ None → HasEdge (graph_of f.blocks) t.block a → HasEdge (graph_of f.blocks) t.block b →
    (zero : Bool) → cond zero (enters f t b) (enters f t a) ≡ On s → Goes f t s
branched_if f t s a b e to_a to_b true h = entered_by f t s b e to_b (with_phis t.locals t.block (insts_at f.blocks b)) refl h
branched_if f t s a b e to_a to_b false h = entered_by f t s a e to_a (with_phis t.locals t.block (insts_at f.blocks a)) refl h

branched_by : (f : FuncState) (t s : State) (a b : ℕ) → inst_of f t ≡ None → HasEdge (graph_of f.blocks) t.block a → HasEdge (graph_of f.blocks) t.block b →
    (o : Option ℕ) → branches f t o a b ≡ On s → Goes f t s
branched_by f t s a b e to_a to_b None h = cc
branched_by f t s a b e to_a to_b (Some n) h = branched_if f t s a b e to_a to_b (n == 0) h

returned_by : (f : FuncState) (t s : State) (o : Option Value) → returns t o ≡ On s → Goes f t s
returned_by f t s None h = cc
returned_by f t s (Some v) h = cc

left_by : (f : FuncState) (t s : State) → inst_of f t ≡ None → (term : Term) → (slice_index_or f.blocks t.block no_block).term ≡ term → leaves f t term ≡ On s → Goes f t s
left_by f t s e (Br a tail) is h =
    entered_by f t s a.0 e (edge_to f t.block a.0 (subst (λ u. Contains (successors u) a.0) (sym is) (0, omega arith, refl)))
    (with_phis t.locals t.block (insts_at f.blocks a.0)) refl h
left_by f t s e (CondBr cond a b tail) is h =
    branched_by f t s a.0 b.0 e
    (edge_to f t.block a.0 (subst (λ u. Contains (successors u) a.0) (sym is) (0, omega arith, refl)))
    (edge_to f t.block b.0 (subst (λ u. Contains (successors u) b.0) (sym is) (1, omega arith, refl)))
    (number_as I1 (value_of t.locals cond)) h
left_by f t s e (Ret None tail) is h = cc
left_by f t s e (Ret (Some given) tail) is h = returned_by f t s (operand_of t.locals given.0 given.1) h
left_by f t s e (Unreachable tail) is h = cc

goes_by : (f : FuncState) (t s : State) (o : Option Placed) → inst_of f t ≡ o → step_at f t o ≡ On s → Goes f t s
goes_by f t s None e h = left_by f t s e (slice_index_or f.blocks t.block no_block).term refl h
goes_by f t s (Some x) e h = ran_by f t s x e (doing t x.inst) refl h

pub goes : (f : FuncState) (t s : State) → step f t ≡ On s → Goes f t s
goes f t s h = goes_by f t s (inst_of f t) refl h

-- the state before a step
abbrev pub IsBefore : FuncState → Input → ℕ → State → Type 0
IsBefore f input n s = (t : State) × IsOn f input n t × (step f t ≡ On s)

before_by : (f : FuncState) (input : Input) (n : ℕ) (s : State) (m : Moment) → moment f input n ≡ m → next f m ≡ On s → IsBefore f input n s
before_by f input n s (On t) e h = (t, e, h)
before_by f input n s (Over r t) e h = cc
before_by f input n s (Waiting t) e h = cc
before_by f input n s Lost e h = cc

pub before : (f : FuncState) (input : Input) (n : ℕ) (s : State) → IsOn f input (suc n) s → IsBefore f input n s
before f input n s h = before_by f input n s (moment f input n) refl h

-- the two states of one moment
pub one_state : (f : FuncState) (input : Input) (n : ℕ) (t s : State) → IsOn f input n t → IsOn f input n s → t ≡ s
one_state f input n t s p q = let same : On t ≡ On s = sym p ∙ q in cc
