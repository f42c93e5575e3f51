-- A function each of whose instructions became another one at its place, with its number.
use Rattle.std.proofs.Common.{◌≡◌, ℕ, zero, suc, Bool, true, false, cond, List, [], ◌∷◌, Option, Some, None, map, refl, sym, ap, ◌∙◌, subst}
use Rattle.std.specs.Prelude.{◌&&◌, slice_get}
use Rattle.ms_ir.specs.declared.names.LocalNo.{LocalNo}
use Rattle.ms_ir.specs.declared.inst.Inst.{Inst}
use Rattle.ms_ir.specs.Func.{Placed, Block, FuncState, IsAt, insts_at}
use Rattle.ms_ir.specs.Graph.{successors}
use Rattle.ms_flow.specs.Table.{edges_of, run_to}
use Rattle.ms_alias.specs.Roots.{Maker, Step, makes, makes_pointer, is_alloca, is_local, step_in, maker_in, maker_from, or_else}
use Rattle.ms_alias.proofs.Makers.{pointer_from}
use Rattle.ms_alias.specs.Bases.{pointers_in, sources_in}
use Rattle.ms_alias.specs.declared.loc.Root.{Root}
use Rattle.ms_cache.proofs.Alike.{Look, look, seen}
use Rattle.ms_cache.proofs.Insts.{within}
use Rattle.ms_cache.proofs.Accesses.{Finds}

-- what an instruction makes, another one makes alike
pub record MakesAlike (p q : Inst) : Type 0 where
  pub makes : makes_pointer p ≡ makes_pointer q
  pub alloca : is_alloca p ≡ is_alloca q
  pub step : makes_pointer p ≡ true → step_in p ≡ step_in q
  pub leads : makes_pointer p ≡ true → pointers_in (sources_in p) ≡ pointers_in (sources_in q)

pub makes_itself : (p : Inst) → MakesAlike p p
makes_itself p = record { makes = refl; alloca = refl; step = λ e. refl; leads = λ e. refl }

look_same : (b : ℕ) (p q : Inst) → MakesAlike p q → makes_pointer p ≡ true → look (record { block = b; inst = p }) ≡ look (record { block = b; inst = q })
look_same b p q h e =
    let make : Bool → Look = λ a. record { block = b; alloca = a; step = step_in p; leads = pointers_in (sources_in p) } in
    let step : Option Step → Look = λ s. record { block = b; alloca = is_alloca q; step = s; leads = pointers_in (sources_in p) } in
    let lead : List Root → Look = λ r. record { block = b; alloca = is_alloca q; step = step_in q; leads = r } in
    ap make h.alloca ∙ ap step (h.step e) ∙ ap lead (h.leads e)

seen_cond : (t u : Bool) (m n : Maker) (o p : Option Maker) → t ≡ u → (t ≡ true → look m ≡ look n) → seen o ≡ seen p → seen (cond t (Some m) o) ≡ seen (cond u (Some n) p)
seen_cond true true m n o p e h k = ap Some (h refl)
seen_cond false false m n o p e h k = k
seen_cond true false m n o p e h k = cc
seen_cond false true m n o p e h k = cc

seen_or : (o p q r : Option Maker) → seen o ≡ seen p → seen q ≡ seen r → seen (or_else o q) ≡ seen (or_else p r)
seen_or None None q r h k = k
seen_or None (Some n) q r h k = cc
seen_or (Some m) None q r h k = cc
seen_or (Some m) (Some n) q r h k = h

pub slice_map : (p : Placed → Placed) (xs : List Placed) (k : ℕ) (x : Placed) → slice_get xs k ≡ Some x → slice_get (map p xs) k ≡ Some (p x)
slice_map p [] k x e = cc
slice_map p (y ∷ ys) zero x e = let same : y ≡ x = cc in ap Some (ap p same)
slice_map p (y ∷ ys) (suc k) x e = slice_map p ys k x e

pub map_slice : (p : Placed → Placed) (xs : List Placed) (k : ℕ) (y : Placed) → slice_get (map p xs) k ≡ Some y → (x : Placed) × (slice_get xs k ≡ Some x) × (p x ≡ y)
map_slice p [] k y e = cc
map_slice p (x ∷ xs) zero y e = (x, refl, cc)
map_slice p (x ∷ xs) (suc k) y e = map_slice p xs k y e

module _ (p : Placed → Placed) (change : Block → Block) (is : (b : Block) → (change b).insts ≡ map p b.insts) where
  insts_map : (blocks : List Block) (b : ℕ) → insts_at (map change blocks) b ≡ map p (insts_at blocks b)
  insts_map [] b = refl
  insts_map (x ∷ xs) zero = is x
  insts_map (x ∷ xs) (suc b) = insts_map xs b

  pub found_to : (blocks : List Block) (b k : ℕ) (x : Placed) → slice_get (insts_at blocks b) k ≡ Some x → slice_get (insts_at (map change blocks) b) k ≡ Some (p x)
  found_to blocks b k x e = ap (λ xs. slice_get xs k) (insts_map blocks b) ∙ slice_map p (insts_at blocks b) k x e

  pub found_from : (blocks : List Block) (b k : ℕ) (y : Placed) → slice_get (insts_at (map change blocks) b) k ≡ Some y → (x : Placed) × (slice_get (insts_at blocks b) k ≡ Some x) × (p x ≡ y)
  found_from blocks b k y e = map_slice p (insts_at blocks b) k y (sym (ap (λ xs. slice_get xs k) (insts_map blocks b)) ∙ e)

  makers_in : (n : ℕ) (xs : List Placed) (l : LocalNo) → ((k : ℕ) (x : Placed) → slice_get xs k ≡ Some x → (makes l x ≡ makes l (p x)) × (makes l x ≡ true → look (record { block = n; inst = x.inst }) ≡ look (record { block = n; inst = (p x).inst })))
      → seen (maker_in n xs l) ≡ seen (maker_in n (map p xs) l)
  makers_in n [] l h = refl
  makers_in n (x ∷ xs) l h =
      let here = h 0 x refl in
      seen_cond (makes l x) (makes l (p x)) _ _ (maker_in n xs l) (maker_in n (map p xs) l) here.0 here.1 (makers_in n xs l (λ k y e. h (suc k) y e))

  pub makers_map : (n : ℕ) (blocks : List Block) (l : LocalNo)
      → ((c b k : ℕ) (x : Placed) → slice_get (insts_at blocks b) k ≡ Some x → (makes l x ≡ makes l (p x)) × (makes l x ≡ true → look (record { block = c; inst = x.inst }) ≡ look (record { block = c; inst = (p x).inst })))
      → seen (maker_from n blocks l) ≡ seen (maker_from n (map change blocks) l)
  makers_map n [] l h = refl
  makers_map n (x ∷ xs) l h =
      seen_or (maker_in n x.insts l) (maker_in n (change x).insts l) (maker_from (suc n) xs l) (maker_from (suc n) (map change xs) l)
      (makers_in n x.insts l (λ k y e. h n 0 k y e) ∙ ap (λ ys. seen (maker_in n ys l)) (sym (is x)))
      (makers_map (suc n) xs l (λ c b k y e. h c (suc b) k y e))

  pub edges_map : ((b : Block) → successors (change b).term ≡ successors b.term) → (blocks : List Block) → edges_of (map change blocks) ≡ edges_of blocks
  edges_map s [] = refl
  edges_map s (x ∷ xs) = ap (λ t. run_to t ∷ edges_of (map change xs)) (s x) ∙ ap (λ es. run_to (successors x.term) ∷ es) (edges_map s xs)

  pub at_to : ((x : Placed) → (p x).number ≡ x.number) → (blocks : List Block) (n b k : ℕ) (x : Placed) → IsAt blocks n b k x → IsAt (map change blocks) n b k (p x)
  at_to same blocks n b k x at =
      let found = found_to blocks b k x at.found in
      record { block = within (map change blocks) b k (p x) found; found = found; numbered = same x ∙ at.numbered }

  pub at_from : ((x : Placed) → (p x).number ≡ x.number) → (blocks : List Block) (n b k : ℕ) (y : Placed) → IsAt (map change blocks) n b k y → (x : Placed) × IsAt blocks n b k x × (p x ≡ y)
  at_from same blocks n b k y at =
      let r = found_from blocks b k y at.found in
      (r.0, record { block = within blocks b k r.0 r.1; found = r.1; numbered = sym (same r.0) ∙ ap (λ (z : Placed). z.number) r.2 ∙ at.numbered }, r.2)

  -- what each instruction becomes is found there, and the other way round
  pub finds_to : ((x : Placed) → (p x).number ≡ x.number) → (f g : FuncState) → g.blocks ≡ map change f.blocks → (P : Inst → Inst → Type 0) (n : ℕ)
      → ((b k : ℕ) (x : Placed) → IsAt f.blocks n b k x → P x.inst (p x).inst) → Finds f g P n
  finds_to same f g e P n h b k x at = (b, k, p x, subst (λ blocks. IsAt blocks n b k (p x)) (sym e) (at_to same f.blocks n b k x at), h b k x at)

  pub finds_from : ((x : Placed) → (p x).number ≡ x.number) → (f g : FuncState) → g.blocks ≡ map change f.blocks → (P : Inst → Inst → Type 0) (n : ℕ)
      → ((b k : ℕ) (x : Placed) → IsAt f.blocks n b k x → P (p x).inst x.inst) → Finds g f P n
  finds_from same f g e P n h b k y at =
      let r = at_from same f.blocks n b k y (subst (λ blocks. IsAt blocks n b k y) e at) in
      (b, k, r.0, r.1, subst (λ (z : Placed). P z.inst r.0.inst) r.2 (h b k r.0 r.1))

-- both make a local alike
pub makes_local : (l : LocalNo) (x y : Placed) → x.result ≡ y.result → MakesAlike x.inst y.inst
    → (c : ℕ) → (makes l x ≡ makes l y) × (makes l x ≡ true → look (record { block = c; inst = x.inst }) ≡ look (record { block = c; inst = y.inst }))
makes_local l x y r h c = (both, λ e. look_same c x.inst y.inst h (pointer_from l x e)) where
  both : makes l x ≡ makes l y
  both = ap (λ t. t && is_local l x.result) h.makes ∙ ap (λ o. makes_pointer y.inst && is_local l o) r
