-- Stores that are dead, and stores that are not, in small functions.
use Rattle.std.proofs.Common.{◌≡◌, ◌∙◌, ◌<◌, ◌⊎◌, ℕ, zero, suc, ◌+◌, ℤ, pos, ◌+ℤ◌, [], ◌∷◌, Some, refl, sym, ap, subst, inl, inr, false, arith}
use Rattle.std.specs.Prelude.{◌≢◌, ◌==◌, Contains, IsTrue, slice_get, ◌≤ℤ◌, ◌<ℤ◌}
use Rattle.std.proofs.lemmas.Bool.{eqb-true, true≢false}
use Rattle.std.proofs.lemmas.Int.{ints}
use Rattle.ms_paths.specs.Flow.{HasEdge}
use Rattle.ms_ir.specs.Func.{Placed, FuncState, IsAt, insts_at}
use Rattle.ms_ir.specs.Graph.{graph_of}
use Rattle.ms_alias.specs.declared.loc.Root.{Root}
use Rattle.ms_alias.specs.declared.loc.Loc.{Loc}
use Rattle.ms_alias.specs.declared.loc.Loc.TheVariants.{Bytes}
use Rattle.ms_alias.specs.Roots.{Maker, is_alloca, IsFixed}
use Rattle.ms_alias.specs.Bases.{Argument, IsBrought, IsNamed}
use Rattle.ms_alias.specs.Reaches.{Reach, Span, IsRead, IsWritten, IsSpan}
use Rattle.ms_alias.specs.Meeting.{MayRead, MustWrite, IsOuter, IsOuterBase}
use Rattle.ms_meaning.specs.Memory.{HoldsByte}
use Rattle.ms_meaning.specs.Samples.{local, param}
use Rattle.ms_ir.specs.declared.names.Ty.TheVariants.{Ptr}
use Rattle.ms_live.specs.Live.{IsLeft, IsLive}
use Rattle.ms_live.specs.Dead.{IsDead, AreDead}
use Rattle.ms_live.specs.Columns.{HasColumns, IsBelow}
use Rattle.ms_live.specs.Samples.{first_local, stores_four, makes_four, loads_one, copies_no_byte, stores_twice, loads_back, stores_to_own, copies_nothing}
use Rattle.ms_alias.proofs.RootLemmas.{reach_written_once}
use Rattle.ms_live.proofs.Backwards.{live_read, live_left, live_at, live_at_end}

-- an instruction has one number
one_number : (x y : Placed) (i : ℕ) → Some x ≡ Some y → y.number ≡ i → x.number ≢ i → ⊥
one_number x y i e numbered other = other (let same : x ≡ y = cc in ap (λ (z : Placed). z.number) same ∙ numbered)

-- where the only instruction of a number writes a byte that is live behind it, it is not dead
is_wanted : (f : FuncState) (i b j : ℕ) (x : Placed) (r : Root) (from k : ℤ) (len : ℕ) → ((c n : ℕ) (y : Placed) → IsAt f.blocks i c n y → (c ≡ b) × (n ≡ j) × (y ≡ x)) →
    IsWritten f x.inst (Span r from len) → HoldsByte from len k → IsLive f r k b (j + 1) → IsDead f i → ⊥
is_wanted f i b j x r from k len only writes among live h =
    let at = only h.block h.place h.inst h.there in
    let same = reach_written_once f x.inst (Span h.root h.from h.len) (Span r from len) (subst (λ (y : Placed). IsWritten f y.inst (Span h.root h.from h.len)) at.2 h.writes) writes in
    let root : r ≡ h.root = cc in
    let start : from ≡ h.from = cc in
    let size : len ≡ h.len = cc in
    h.unused k (subst (λ z. HoldsByte z h.len k) start (subst (λ n. HoldsByte from n k) size among))
    (subst (λ q. IsLive f q k h.block (h.place + 1)) root (subst (λ n. IsLive f r k h.block (n + 1)) (sym at.1) (subst (λ c. IsLive f r k c (j + 1)) (sym at.0) live)))

-- ---- two stores to an argument

argument_fixed : IsFixed stores_twice first_local
argument_fixed (m, made, moves, cycle) = cc

argument_span : (len : ℕ) → IsSpan stores_twice (local 0) len (Span first_local (pos 0) len)
argument_span len = (first_local, refl, first_local, pos 0, (zero, (refl, refl, inl refl)), refl)

each_stores : (b j : ℕ) (x : Placed) → slice_get (insts_at stores_twice.blocks b) j ≡ Some x → (i : ℕ) × (i < 2) × (stores_four i ≡ x)
each_stores zero zero x e = (0, omega arith, cc)
each_stores zero (suc zero) x e = (1, omega arith, cc)
each_stores zero (suc (suc j)) x e = cc
each_stores (suc b) j x e = cc

reads_none : (b j : ℕ) (x : Placed) (u : Reach) → slice_get (insts_at stores_twice.blocks b) j ≡ Some x → IsRead stores_twice x.inst u → ⊥
reads_none b j x u e read = let s = each_stores b j x e in subst (λ (z : Placed). IsRead stores_twice z.inst u) (sym s.2) read

writes_four : (b j : ℕ) (x : Placed) (u : Reach) → slice_get (insts_at stores_twice.blocks b) j ≡ Some x → IsWritten stores_twice x.inst u → u ≡ Span first_local (pos 0) 4
writes_four b j x u e written =
    let s = each_stores b j x e in
    reach_written_once stores_twice (stores_four s.0).inst u (Span first_local (pos 0) 4) (subst (λ (z : Placed). IsWritten stores_twice z.inst u) (sym s.2) written) (argument_span 4)

nothing_read : (i : ℕ) (loc : Loc) → MayRead stores_twice i loc → ⊥
nothing_read i loc (b, place, y, at, u, v, read, is, meet) = reads_none b place y u at.found read

pub first_is_dead : IsDead stores_twice 0
first_is_dead = record {
  block = 0;
  place = 0;
  inst = stores_four 0;
  there = record { block = omega arith; found = refl; numbered = refl };
  reached = ([], refl);
  root = first_local;
  from = pos 0;
  len = 4;
  fixed = argument_fixed;
  writes = argument_span 4;
  unused = λ k among live. overwritten k among ((live_at stores_twice first_local k 0 1 (stores_four 1) refl).0 live);
} where
  overwritten : (k : ℤ) → HoldsByte (pos 0) 4 k → MayRead stores_twice 1 (Bytes first_local k 1) ⊎ ((MustWrite stores_twice 1 first_local k → ⊥) × IsLive stores_twice first_local k 0 2) → ⊥
  overwritten k among (inl may) = nothing_read 1 (Bytes first_local k 1) may
  overwritten k among (inr (not, live)) =
      not (0, 1, stores_four 1, record { block = omega arith; found = refl; numbered = refl }, argument_fixed, pos 0, 4, argument_span 4, among)

pub second_is_left : IsDead stores_twice 1 → ⊥
second_is_left =
    is_wanted stores_twice 1 0 1 (stores_four 1) first_local (pos 0) (pos 0) 4 only (argument_span 4) (omega (arith, ints), omega (arith, ints))
    (live_left stores_twice first_local (pos 0) 0 2 refl (tt, (Argument (record { 0 = 0 }), (zero, first_local, refl, inr ((param Ptr, refl, refl), refl)), tt))) where
      only : (c n : ℕ) (y : Placed) → IsAt stores_twice.blocks 1 c n y → (c ≡ 0) × (n ≡ 1) × (y ≡ stores_four 1)
      only zero zero y at = absurd (one_number (stores_four 0) y 1 at.found at.numbered (omega arith))
      only zero (suc zero) y at = let e = at.found in (refl, refl, cc)
      only zero (suc (suc n)) y at = let e = at.found in cc
      only (suc c) n y at = let e = at.found in cc

-- so the first is dead, and nothing else
pub first_alone : AreDead stores_twice (λ i. i == 0)
first_alone i = (
  (λ t. subst (λ n. IsDead stores_twice n) (sym (eqb-true i 0 t)) first_is_dead),
  (λ h.
      let s = each_stores h.block h.place h.inst h.there.found in
      let number : s.0 ≡ i = ap (λ (z : Placed). z.number) s.2 ∙ h.there.numbered in
      by_number i (subst (λ n. n < 2) number s.1) h),
) where
  by_number : (i : ℕ) → i < 2 → IsDead stores_twice i → IsTrue (i == 0)
  by_number zero lt h = refl
  by_number (suc zero) lt h = absurd (second_is_left h)
  by_number (suc (suc i)) lt h = absurd (omega arith)

pub begin_and_end : HasColumns stores_twice first_local (pos 0 ∷ pos 4 ∷ [])
begin_and_end = record {
  reads = λ b j x e from len read. absurd (reads_none b j x (Span first_local from len) e read);
  writes = λ b j x e from len written.
      let same = writes_four b j x (Span first_local from len) e written in
      let start : pos 0 ≡ from = cc in
      (0, omega arith, start);
  ends = λ b j x e from len written.
      let same = writes_four b j x (Span first_local from len) e written in
      let start : pos 0 ≡ from = cc in
      let size : 4 ≡ len = cc in
      (1, omega arith, ap (λ z. z +ℤ pos 4) start ∙ ap (λ n. from +ℤ pos n) size);
}

pub below_three : IsBelow (pos 0 ∷ pos 4 ∷ []) (pos 0) (pos 3)
below_three = record { below = omega (arith, ints); nearest = λ d c low high. not_between d c low high } where
  not_between : (d : ℤ) → Contains (pos 0 ∷ pos 4 ∷ []) d → pos 0 <ℤ d → d ≤ℤ pos 3 → ⊥
  not_between d (zero, lt, is) low high = let e : pos 0 ≡ d = is in absurd (omega (arith, ints))
  not_between d (suc zero, lt, is) low high = let e : pos 4 ≡ d = is in absurd (omega (arith, ints))
  not_between d (suc (suc i), lt, is) low high = let l : suc (suc i) < 2 = lt in absurd (omega arith)

-- ---- a store to an alloca of which a byte is loaded

loaded_fixed : IsFixed loads_back first_local
loaded_fixed (m, made, moves, cycle) =
    let same : record { block = 0; inst = makes_four.inst } ≡ m = cc in
    true≢false (subst (λ (n : Maker). is_alloca n.inst ≡ false) (sym same) moves)

loaded_span : (len : ℕ) → IsSpan loads_back (local 0) len (Span first_local (pos 0) len)
loaded_span len = (first_local, refl, first_local, pos 0, (zero, (refl, refl, inl refl)), refl)

pub loaded_is_live : IsLive loads_back first_local (pos 0) 0 2
loaded_is_live =
    live_read loads_back first_local (pos 0) 0 2 loads_one refl (
      0,
      2,
      loads_one,
      record { block = omega arith; found = refl; numbered = refl },
      Span first_local (pos 0) 1,
      Span first_local (pos 0) 1,
      loaded_span 1,
      refl,
      inl ((refl, loaded_fixed), (pos 0, (omega (arith, ints), omega (arith, ints)), (omega (arith, ints), omega (arith, ints)))),
    )

pub loaded_is_stored : IsDead loads_back 1 → ⊥
loaded_is_stored = is_wanted loads_back 1 0 1 (stores_four 1) first_local (pos 0) (pos 0) 4 only (loaded_span 4) (omega (arith, ints), omega (arith, ints)) loaded_is_live where
  only : (c n : ℕ) (y : Placed) → IsAt loads_back.blocks 1 c n y → (c ≡ 0) × (n ≡ 1) × (y ≡ stores_four 1)
  only zero zero y at = absurd (one_number makes_four y 1 at.found at.numbered (omega arith))
  only zero (suc zero) y at = let e = at.found in (refl, refl, cc)
  only zero (suc (suc zero)) y at = absurd (one_number loads_one y 1 at.found at.numbered (omega arith))
  only zero (suc (suc (suc n))) y at = let e = at.found in cc
  only (suc c) n y at = let e = at.found in cc

-- ---- a store to an alloca, and a return

own_fixed : IsFixed stores_to_own first_local
own_fixed (m, made, moves, cycle) =
    let same : record { block = 0; inst = makes_four.inst } ≡ m = cc in
    true≢false (subst (λ (n : Maker). is_alloca n.inst ≡ false) (sym same) moves)

own_inner : IsOuter stores_to_own first_local → ⊥
own_inner (b, (n, q, brought, named), outer) = by_steps n brought where
  is_own : IsNamed stores_to_own first_local b → ⊥
  is_own (inl (alloca, is)) = subst (λ c. IsOuterBase c) is outer
  is_own (inr ((p, there, pointer), is)) = cc

  by_steps : (n : ℕ) → IsBrought stores_to_own n first_local q → ⊥
  by_steps zero same = is_own (subst (λ p. IsNamed stores_to_own p b) (sym same) named)
  by_steps (suc n) (r, on, rest) = let lt : on.0 < 0 = on.1 in absurd (omega arith)

pub own_is_dead : IsDead stores_to_own 1
own_is_dead = record {
  block = 0;
  place = 1;
  inst = stores_four 1;
  there = record { block = omega arith; found = refl; numbered = refl };
  reached = ([], refl);
  root = first_local;
  from = pos 0;
  len = 4;
  fixed = own_fixed;
  writes = (first_local, refl, first_local, pos 0, (zero, (refl, refl, inl refl)), refl);
  unused = λ k among live. at_end k ((live_at_end stores_to_own first_local k 0 2 refl).0 live);
} where
  at_end : (k : ℤ) → IsLeft stores_to_own first_local 0 ⊎ ((c : ℕ) × HasEdge (graph_of stores_to_own.blocks) 0 c × IsLive stores_to_own first_local k c 0) → ⊥
  at_end k (inl (ret, outer)) = own_inner outer
  at_end k (inr (c, edge, live)) = let lt : edge.0 < 0 = edge.1 in absurd (omega arith)

-- ---- a memcpy of no byte

pub empty_is_dead : IsDead copies_nothing 0
empty_is_dead = record {
  block = 0;
  place = 0;
  inst = copies_no_byte;
  there = record { block = omega arith; found = refl; numbered = refl };
  reached = ([], refl);
  root = first_local;
  from = pos 0;
  len = 0;
  fixed = λ (m, made, moves, cycle). cc;
  writes = (first_local, refl, first_local, pos 0, (zero, (refl, refl, inl refl)), refl);
  unused = λ k among live. (let low : pos 0 ≤ℤ k = among.0 in let high : k <ℤ (pos 0 +ℤ pos 0) = among.1 in absurd (omega (arith, ints)));
}
