-- What holds at each moment of a run, and that pointers that are fixed stay.
use Rattle.std.proofs.Common.{◌≡◌, ◌∙◌, ◌<◌, ◌≤◌, ◌⊎◌, ℕ, ℤ, true, false, length, Some, sym, ap, subst, inl, inr, ⊎_elim, arith}
use Rattle.std.proofs.lemmas.Bool.{cases_Bool}
use Rattle.ms_paths.specs.Flow.{HasEdge}
use Rattle.ms_ir.specs.declared.names.LocalNo.{LocalNo}
use Rattle.ms_ir.specs.Func.{Placed, FuncState}
use Rattle.ms_ir.specs.Locals.{IsNumbered, IsGiver}
use Rattle.ms_ir.specs.Graph.{graph_of}
use Rattle.ms_flow.specs.Table.{edges_of}
use Rattle.ms_flow.specs.Flow.{IsOnCycle}
use Rattle.ms_alias.specs.declared.loc.Root.TheVariants.{Local}
use Rattle.ms_alias.specs.Roots.{makes_pointer, is_alloca, IsFixed}
use Rattle.ms_alias.specs.Bases.{IsAllocaLocal}
use Rattle.ms_alias.proofs.Makers.{giver_makes}
use Rattle.ms_meaning.specs.Values.{Value, Pointer}
use Rattle.ms_meaning.specs.States.{Input, State}
use Rattle.ms_meaning.specs.Steps.{is_phi}
use Rattle.ms_meaning.specs.Traces.{IsOn}
use Rattle.ms_sound.specs.Bytes.{BeginsOnce}
use Rattle.ms_meaning.proofs.Goes.{Goes, ran, left}
use Rattle.ms_sound.proofs.Walks.{comes_again, enters_again}
use Rattle.ms_sound.proofs.Given.{Gives, given}
use Rattle.ms_sound.specs.Objects.{IsKnownObject}
use Rattle.ms_sound.proofs.Told.{Told, Keeps}

-- the run was at the instruction before, or in its block where it is a phi
abbrev pub RanBefore : FuncState → Input → ℕ → ℕ → ℕ → Placed → Type 0
RanBefore f input n b k x = (m : ℕ) × (u : State) × IsOn f input m u × (u.block ≡ b) × (((m < n) × (u.place ≡ k)) ⊎ ((m ≤ n) × (is_phi x.inst ≡ true)))

pub record Holds (f : FuncState) (input : Input) (n : ℕ) (s : State) : Type 0 where
  pub on : IsOn f input n s
  pub outer : s.outer ≡ length input.objects
  pub room : s.outer ≤ length s.objects
  pub told : (l : LocalNo) (o : ℕ) (at : ℤ) → s.locals l.0 ≡ Some (Pointer o at) → Told f s (Local l) o at
  pub made : (l : LocalNo) (o : ℕ) (at : ℤ) → s.locals l.0 ≡ Some (Pointer o at) → (b k : ℕ) (x : Placed) → IsGiver f.blocks l b k x → makes_pointer x.inst ≡ true
  pub allocas : (l : LocalNo) (o : ℕ) (at : ℤ) → IsAllocaLocal f l → s.locals l.0 ≡ Some (Pointer o at) → (s.outer ≤ o) × (o < length s.objects)
  pub apart : (k l : LocalNo) (o : ℕ) (at to : ℤ) → IsAllocaLocal f k → IsAllocaLocal f l → s.locals k.0 ≡ Some (Pointer o at) → s.locals l.0 ≡ Some (Pointer o to) → k ≡ l
  pub escaped : (o : ℕ) → s.escaped o ≡ true → IsKnownObject f s o
  pub before : (l : LocalNo) (b k : ℕ) (x : Placed) → IsGiver f.blocks l b k x → (v : Value) → s.locals l.0 ≡ Some v → RanBefore f input n b k x

-- a local that has a value is given one again only on a cycle
given_again : (f : FuncState) (input : Input) (n : ℕ) (t s : State) (l : LocalNo) (v : Value) → Holds f input n t → Gives f t s l → t.locals l.0 ≡ Some v → IsOnCycle (edges_of f.blocks) s.block
given_again f input n t s l v h g e = again g.by (h.before l s.block g.place g.inst (record { found = g.found; gives = g.result }) v e) where
  again : ((is_phi g.inst.inst ≡ false) × (t.block ≡ s.block) × (t.place ≡ g.place)) ⊎ ((is_phi g.inst.inst ≡ true) × HasEdge (graph_of f.blocks) t.block s.block)
      → RanBefore f input n s.block g.place g.inst → IsOnCycle (edges_of f.blocks) s.block
  again (inl run) (m, u, on, block, inl was) =
      subst (λ b. IsOnCycle (edges_of f.blocks) b) run.1
      (comes_again f input m n u t was.0 on h.on (block ∙ sym run.1) (let p = was.1 in let q = run.2 in omega arith))
  again (inl run) (m, u, on, block, inr was) = let p = was.1 in let q = run.0 in cc
  again (inr come) (m, u, on, block, inl was) = enters_again f input m n u t s.block (let p = was.0 in omega arith) on h.on block come.1
  again (inr come) (m, u, on, block, inr was) = enters_again f input m n u t s.block was.0 on h.on block come.1

no_cycle_at_first : (f : FuncState) → BeginsOnce f → IsOnCycle (edges_of f.blocks) 0 → ⊥
no_cycle_at_first f once (reached, (c, w, walk)) = once.first c walk.0

-- so a fixed pointer that has a value keeps it
stays_fixed : (f : FuncState) (input : Input) (n : ℕ) (t s : State) → IsNumbered f → BeginsOnce f → Holds f input n t → (l : LocalNo) (o : ℕ) (at : ℤ) →
    t.locals l.0 ≡ Some (Pointer o at) → IsFixed f (Local l) → Gives f t s l → ⊥
stays_fixed f input n t s numbered once h l o at e fixed g =
    let giver : IsGiver f.blocks l s.block g.place g.inst = record { found = g.found; gives = g.result } in
    let makes = h.made l o at e s.block g.place g.inst giver in
    let maker = giver_makes f numbered l s.block g.place g.inst giver makes in
    let cycle = given_again f input n t s l (Pointer o at) h g e in
    ⊎_elim
    (λ (alloca : is_alloca g.inst.inst ≡ true). no_cycle_at_first f once (subst (λ b. IsOnCycle (edges_of f.blocks) b) (once.allocas s.block g.place g.inst g.found alloca) cycle))
    (λ (other : is_alloca g.inst.inst ≡ false). fixed (record { block = s.block; inst = g.inst.inst }, maker, other, cycle))
    (cases_Bool (is_alloca g.inst.inst))

outer_stays : (f : FuncState) (t s : State) → Goes f t s → t.outer ≡ s.outer
outer_stays f t s (ran x d e is same) = sym (ap (λ (u : State). u.outer) same)
outer_stays f t s (left b locals e edge phis same) = sym (ap (λ (u : State). u.outer) same)

pub keeps_step : (f : FuncState) (input : Input) (n : ℕ) (t s : State) → IsNumbered f → BeginsOnce f → Holds f input n t → Goes f t s → Keeps f t s
keeps_step f input n t s numbered once h go = record {
  outer = outer_stays f t s go;
  fixed = λ l o at e fixed.
      ⊎_elim
      (λ (was : s.locals l.0 ≡ t.locals l.0). was ∙ e)
      (λ (g : Gives f t s l). absurd (stays_fixed f input n t s numbered once h l o at e fixed g))
      (given f t s go l);
}
