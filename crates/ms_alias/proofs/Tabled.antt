-- Tables by local, filled in the order of the numbers.
use Rattle.std.proofs.Common.{◌≡◌, ◌<◌, ◌≤◌, ◌+◌, ◌↔◌, ℕ, zero, suc, pos, Bool, true, false, List, [], ◌∷◌, ◌++◌, Option, Some, None, length, get_or, set, refl, sym, ap, ◌∙◌, subst, inl, ⊎_elim, get_or-set_other, get_or-set_same, arith}
use Rattle.std.proofs.lemmas.Bool.{both_ways, cases_eq, cases_lt, cases_Bool, cond-true, cond-false}
use Rattle.std.proofs.lemmas.List.{get_or_past, get_or_append_left}
use Rattle.std.proofs.Math.Seq.{get_or-append_seam}
use Rattle.ms_flow.specs.Table.{edges_of}
use Rattle.ms_flow.specs.Flow.{IsOnCycle}
use Rattle.ms_ir.specs.declared.names.LocalNo.{LocalNo}
use Rattle.ms_ir.specs.Func.{Block, FuncState}
use Rattle.ms_ir.proofs.FuncLemmas.{block_there}
use Rattle.ms_alias.specs.declared.loc.Root.TheVariants.{Local}
use Rattle.ms_alias.specs.declared.origins.Origin.{Origin}
use Rattle.ms_alias.specs.Roots.{Maker, maker_of, step_by_maker, is_alloca, moving_block, IsRing, HasRoot, IsTurning}
use Rattle.ms_alias.specs.Building.{IsBeyond, AreRings}
use Rattle.ms_alias.specs.Tables.{origin_at, own_origin, IsOrigins, IsTurnings}
use Rattle.ms_alias.proofs.Makers.{maker_in_blocks}
use Rattle.ms_alias.proofs.Rings.{local}

-- one more mark says what holds of its local
pub told_more : (P : ℕ → Type 0) (marks : List Bool) (l : ℕ) (b : Bool) → l < length marks → ((k : ℕ) → k < l → (get_or marks k false ≡ true) ↔ P k) → (b ≡ true) ↔ P l
    → (k : ℕ) → k < l + 1 → (get_or (set marks l b) k false ≡ true) ↔ P k
told_more P marks l b lt old new k h =
    ⊎_elim
    (λ (e : k ≡ l).
    let at : get_or (set marks l b) k false ≡ b = ap (λ j. get_or (set marks l b) j false) e ∙ get_or-set_same marks l b false lt in
    (λ t. subst P (sym e) (new.0 (sym at ∙ t)), λ p. at ∙ new.1 (subst P e p)))
    (λ (n : k ≡ l → ⊥).
    let at : get_or (set marks l b) k false ≡ get_or marks k false = get_or-set_other marks l k b false n in
    let o = old k (omega (arith, n)) in
    (λ t. o.0 (sym at ∙ t), λ p. at ∙ o.1 p))
    (cases_eq k l)

no_ring_beyond : (f : FuncState) (l : LocalNo) → maker_of f l ≡ None → IsRing f (Local l) → ⊥
no_ring_beyond f l e ring = let h = ring.1 in let both : None ≡ Some h.0 = sym (ap step_by_maker e) ∙ h.1 in cc

pub rings_all : (f : FuncState) (rings : List Bool) → IsBeyond f (length rings) → ((k : ℕ) → k < length rings → (get_or rings k false ≡ true) ↔ IsRing f (local k)) → AreRings f rings
rings_all f rings beyond h = record {
  each = λ l. ⊎_elim (λ (lt : l.0 < length rings). h l.0 lt) (λ (ge : length rings ≤ l.0). (λ t. absurd (both_ways (get_or rings l.0 false) (get_or_past rings l.0 false ge) t), λ r. absurd (no_ring_beyond f l (beyond l ge) r))) (cases_lt l.0 (length rings));
}

pub turnings_all : (f : FuncState) (turning : List Bool) → IsBeyond f (length turning) → ((k : ℕ) → k < length turning → (get_or turning k false ≡ true) ↔ IsTurning f (local k)) → IsTurnings f turning
turnings_all f turning beyond h = record {
  each = λ l. ⊎_elim
      (λ (lt : l.0 < length turning). h l.0 lt)
      (λ (ge : length turning ≤ l.0). (λ t. absurd (both_ways (get_or turning l.0 false) (get_or_past turning l.0 false ge) t), λ r. absurd (let both : None ≡ Some r.0 = sym (beyond l ge) ∙ r.1 in cc)))
      (cases_lt l.0 (length turning));
}

own_root : (f : FuncState) (l : LocalNo) → maker_of f l ≡ None → HasRoot f (Local l) (Local l) (pos 0)
own_root f l e = (zero, (refl, refl, inl (ap step_by_maker e)))

pub origins_all : (f : FuncState) (origins : List Origin) → IsBeyond f (length origins) → ((k : ℕ) → k < length origins → HasRoot f (local k) (origin_at origins k).root (origin_at origins k).offset) → IsOrigins f origins
origins_all f origins beyond h = record {
  each = λ l. ⊎_elim
      (λ (lt : l.0 < length origins). h l.0 lt)
      (λ (ge : length origins ≤ l.0). subst (λ (o : Origin). HasRoot f (Local l) o.root o.offset) (sym (get_or_past origins l.0 (own_origin l.0) ge)) (own_root f l (beyond l ge)))
      (cases_lt l.0 (length origins));
}

pub origins_more : (f : FuncState) (xs ys : List Origin) (l : ℕ) (o : Origin) → length xs ≡ l → ys ≡ xs ++ o ∷ [] → ((k : ℕ) → k < l → HasRoot f (local k) (origin_at xs k).root (origin_at xs k).offset) → HasRoot f (local l) o.root o.offset
    → (k : ℕ) → k < l + 1 → HasRoot f (local k) (origin_at ys k).root (origin_at ys k).offset
origins_more f xs ys l o len is old new k h =
    ⊎_elim
    (λ (e : k ≡ l).
    let at : origin_at ys k ≡ o = ap (λ zs. origin_at zs k) is ∙ at_last xs k o (e ∙ sym len) in
    subst (λ (p : Origin). HasRoot f (local k) p.root p.offset) (sym at) (subst (λ j. HasRoot f (local j) o.root o.offset) (sym e) new))
    (λ (n : k ≡ l → ⊥).
    let lt : k < length xs = omega (arith, n) in
    let at : origin_at ys k ≡ origin_at xs k = ap (λ zs. origin_at zs k) is ∙ at_front xs k o lt in
    subst (λ (p : Origin). HasRoot f (local k) p.root p.offset) (sym at) (old k (omega arith)))
    (cases_eq k l) where
      last_of : (xs : List Origin) (k : ℕ) (o d : Origin) → k ≡ length xs → get_or (xs ++ o ∷ []) k d ≡ o
      last_of xs k o d e = ap (λ j. get_or (xs ++ o ∷ []) j d) e ∙ get_or-append_seam xs o [] d

      front_of : (xs : List Origin) (k : ℕ) (o d : Origin) → k < length xs → get_or (xs ++ o ∷ []) k d ≡ get_or xs k d
      front_of xs k o d h = get_or_append_left xs (o ∷ []) d k h

      at_last : (xs : List Origin) (k : ℕ) (o : Origin) → k ≡ length xs → origin_at (xs ++ o ∷ []) k ≡ o
      at_last xs k o e = last_of xs k o (own_origin k) e

      at_front : (xs : List Origin) (k : ℕ) (o : Origin) → k < length xs → origin_at (xs ++ o ∷ []) k ≡ origin_at xs k
      at_front xs k o h = front_of xs k o (own_origin k) h

pub edges_len : (blocks : List Block) → length (edges_of blocks) ≡ length blocks
edges_len [] = refl
edges_len (b ∷ bs) = ap suc (edges_len bs)

moved_in : (o : Option Maker) (b : ℕ) → moving_block o ≡ Some b → (m : Maker) × (o ≡ Some m) × (is_alloca m.inst ≡ false) × (m.block ≡ b)
moved_in None b e = cc
moved_in (Some m) b e =
    ⊎_elim
    (λ (t : is_alloca m.inst ≡ true). absurd (let none : None ≡ Some b = sym (cond-true (is_alloca m.inst) None (Some m.block) t) ∙ e in cc))
    (λ (f : is_alloca m.inst ≡ false). let some : Some m.block ≡ Some b = sym (cond-false (is_alloca m.inst) None (Some m.block) f) ∙ e in let same : m.block ≡ b = cc in (m, refl, f, same))
    (cases_Bool (is_alloca m.inst))

-- the block of a moving pointer is there
pub moved_within : (f : FuncState) (l : LocalNo) (b : ℕ) → moving_block (maker_of f l) ≡ Some b → b < length f.blocks
moved_within f l b e =
    let m = moved_in (maker_of f l) b e in
    let there = maker_in_blocks 0 f.blocks l m.0 m.1 in
    let lt = block_there f.blocks there.0 there.1 there.2 there.4 in
    let at = there.3 in
    let same = m.3 in
    omega (arith, lt, at, same)

pub turns_told : (f : FuncState) (l : LocalNo) (b : ℕ) (r : Bool) → moving_block (maker_of f l) ≡ Some b → (r ≡ true) ↔ IsOnCycle (edges_of f.blocks) b → (r ≡ true) ↔ IsTurning f (Local l)
turns_told f l b r e cycle =
    let m = moved_in (maker_of f l) b e in (
      λ t. (m.0, m.1, m.2, subst (IsOnCycle (edges_of f.blocks)) (sym m.3) (cycle.0 t)),
      λ h. cycle.1 (subst (IsOnCycle (edges_of f.blocks)) (let same : Some h.0 ≡ Some m.0 = sym h.1 ∙ m.1 in let one : h.0 ≡ m.0 = cc in ap (λ (z : Maker). z.block) one ∙ m.3) h.3),
    )

pub turns_none : (f : FuncState) (l : LocalNo) → moving_block (maker_of f l) ≡ None → IsTurning f (Local l) → ⊥
turns_none f l e h =
    let none : None ≡ Some h.0.block = sym e ∙ ap moving_block h.1 ∙ cond-false (is_alloca h.0.inst) None (Some h.0.block) h.2 in
    cc
