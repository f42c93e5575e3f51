-- Where an edge was cut, pointers have no bases, allocas no captures and roots no turns that they did not have before.
use Rattle.std.proofs.Common.{◌≡◌, ◌<◌, ℕ, zero, suc, Bool, true, false, cond, List, [], ◌∷◌, Option, Some, None, length, get_or, set, map, refl, sym, ap, ◌∙◌, subst, inl, inr, ⊎_elim, arith}
use Rattle.std.specs.Prelude.{◌&&◌, ◌==◌, Contains, position, remove}
use Rattle.std.proofs.lemmas.List.Elements.{Contains-append_left, Contains-append_right}
use Rattle.ms_paths.specs.Flow.{HasEdge, IsPath, IsWalk}
use Rattle.ms_flow.specs.Table.{edges_of}
use Rattle.ms_flow.specs.Flow.{IsOnCycle}
use Rattle.ms_ir.specs.declared.names.LocalNo.{LocalNo}
use Rattle.ms_ir.specs.declared.inst.Val.{Val}
use Rattle.ms_ir.specs.declared.inst.Arg.{Arg}
use Rattle.ms_ir.specs.declared.inst.Entry.{Entry}
use Rattle.ms_ir.specs.declared.inst.Inst.{Inst}
use Rattle.ms_ir.specs.declared.inst.Inst.TheVariants.{Phi}
use Rattle.ms_ir.specs.declared.inst.Term.{Term}
use Rattle.ms_ir.specs.declared.inst.Term.TheVariants.{Br, CondBr, Ret, Unreachable}
use Rattle.ms_ir.specs.Graph.{successors}
use Rattle.ms_ir.specs.Func.{Placed, Block, FuncState, no_block, insts_at, with_insts}
use Rattle.ms_ir.specs.Changes.{IsCondBr, is_from, without, inst_without, placed_without, with_edge_cut, kept_target}
use Rattle.ms_alias.specs.declared.loc.Root.{Root}
use Rattle.ms_alias.specs.declared.loc.Root.TheVariants.{Local, Global}
use Rattle.ms_alias.specs.Roots.{Maker, is_alloca, is_local, makes, maker_in, maker_from, maker_of, or_else, IsTurning}
use Rattle.ms_alias.specs.Bases.{Base, Alloca as AllocaBase, HasBase, HasValBase, IsBrought, IsNamed, with_pointer, pointers_in, sources_in, leads_in, leads_of}
use Rattle.ms_alias.specs.Captured.{IsCaptured, args_of}
use Rattle.ms_alias.proofs.Cuts.{with_more}
use Rattle.ms_cache.proofs.Insts.{Has}
use Rattle.ms_cache.proofs.Cut.{branched, cut_block, makes_without, term_from, entry_from}

-- ---- phis

with_same : (o : Option Root) (ps qs : List Root) (p : Root) → (Contains ps p → Contains qs p) → Contains (with_pointer o ps) p → Contains (with_pointer o qs) p
with_same None ps qs p sub h = sub h
with_same (Some q) ps qs p sub h = at h.0 h.1 h.2 where
  at : (k : ℕ) (lt : k < length (q ∷ ps)) → get_or (q ∷ ps) k p ≡ p → Contains (q ∷ qs) p
  at zero lt e = (zero, omega arith, e)
  at (suc k) lt e = let r = sub (k, omega arith, e) in (suc r.0, let below = r.1 in omega arith, r.2)

abbrev values : List Entry → List Val
values es = map (λ (e : Entry). e.val) es

remove_leads : (es : List Entry) (at : ℕ) (p : Root) → Contains (pointers_in (values (remove es at))) p → Contains (pointers_in (values es)) p
remove_leads [] zero p h = h
remove_leads [] (suc at) p h = h
remove_leads (e ∷ es) zero p h = with_more _ (pointers_in (values es)) p h
remove_leads (e ∷ es) (suc at) p h = with_same _ (pointers_in (values (remove es at))) (pointers_in (values es)) p (remove_leads es at p) h

without_leads : (es : List Entry) (at : Option ℕ) (p : Root) → Contains (pointers_in (values (without es at))) p → Contains (pointers_in (values es)) p
without_leads es None p h = h
without_leads es (Some at) p h = remove_leads es at p h

-- ---- makers

record Loses (m n : Maker) : Type 0 where
  pub block : m.block ≡ n.block
  pub alloca : is_alloca m.inst ≡ is_alloca n.inst
  pub leads : (p : Root) → Contains (pointers_in (sources_in n.inst)) p → Contains (pointers_in (sources_in m.inst)) p

loses : (from b : ℕ) (p : Inst) → Loses (record { block = b; inst = p }) (record { block = b; inst = inst_without from p })
loses from b (Phi ty entries tail) = record { block = refl; alloca = refl; leads = without_leads entries (position (is_from from) entries) }
loses from b p = record { block = refl; alloca = refl; leads = λ q h. h }

-- the maker has lost entries at most
abbrev IsLess : Option Maker → Option Maker → Type 0
IsLess None None = Unit {0}
IsLess None (Some n) = ⊥
IsLess (Some m) None = ⊥
IsLess (Some m) (Some n) = Loses m n

less_same : (o : Option Maker) → IsLess o o
less_same None = tt
less_same (Some m) = record { block = refl; alloca = refl; leads = λ p h. h }

less_on : (o p q : Option Maker) → IsLess o p → IsLess p q → IsLess o q
less_on None None None h k = tt
less_on None None (Some n) h k = k
less_on None (Some m) q h k = absurd h
less_on (Some l) None q h k = absurd h
less_on (Some l) (Some m) None h k = k
less_on (Some l) (Some m) (Some n) h k = record { block = h.block ∙ k.block; alloca = h.alloca ∙ k.alloca; leads = λ p c. h.leads p (k.leads p c) }

less_or : (o p q r : Option Maker) → IsLess o p → IsLess q r → IsLess (or_else o q) (or_else p r)
less_or None None q r h k = k
less_or None (Some n) q r h k = absurd h
less_or (Some m) None q r h k = absurd h
less_or (Some m) (Some n) q r h k = h

less_cond : (t : Bool) (o p q r : Option Maker) → IsLess o p → IsLess q r → IsLess (cond t o q) (cond t p r)
less_cond true o p q r h k = h
less_cond false o p q r h k = k

less_in : (from n : ℕ) (xs : List Placed) (l : LocalNo) → IsLess (maker_in n xs l) (maker_in n (map (placed_without from) xs) l)
less_in from n [] l = tt
less_in from n (x ∷ xs) l =
    let here : Maker = record { block = n; inst = x.inst } in
    let new : Maker = record { block = n; inst = inst_without from x.inst } in
    let old = maker_in n xs l in
    let rest = maker_in n (map (placed_without from) xs) l in
    subst (λ t. IsLess (cond (makes l x) (Some here) old) (cond (t && is_local l x.result) (Some new) rest)) (makes_without from x.inst)
    (less_cond (makes l x) (Some here) (Some new) old rest (loses from n x.inst) (less_in from n xs l))

less_set : (k : ℕ) (blocks : List Block) (b : ℕ) (new : Block) (l : LocalNo) → ((n : ℕ) → IsLess (maker_in n (insts_at blocks b) l) (maker_in n new.insts l)) → IsLess (maker_from k blocks l) (maker_from k (set blocks b new) l)
less_set k [] b new l h = tt
less_set k (x ∷ xs) zero new l h = less_or (maker_in k x.insts l) (maker_in k new.insts l) _ _ (h k) (less_same (maker_from (suc k) xs l))
less_set k (x ∷ xs) (suc b) new l h = less_or (maker_in k x.insts l) _ (maker_from (suc k) xs l) _ (less_same (maker_in k x.insts l)) (less_set (suc k) xs b new l h)

abbrev branch : FuncState → ℕ → ℕ → Term
branch f b slot = Br (kept_target (get_or f.blocks b no_block).term slot) []

abbrev lost_block : FuncState → ℕ → ℕ → Block
lost_block f b slot = with_insts (get_or (branched f b slot) (cut_block f b slot) no_block) (map (placed_without b) (insts_at (branched f b slot) (cut_block f b slot)))

less_cut : (f : FuncState) (b slot : ℕ) (l : LocalNo) → IsLess (maker_of f l) (maker_of (with_edge_cut f b slot) l)
less_cut f b slot l =
    less_on (maker_of f l) (maker_from 0 (branched f b slot) l) _
    (less_set 0 f.blocks b (record (get_or f.blocks b no_block) { term = branch f b slot }) l (λ n. less_same (maker_in n (insts_at f.blocks b) l)))
    (less_set 0 (branched f b slot) (cut_block f b slot) (lost_block f b slot) l (λ n. less_in b n (insts_at (branched f b slot) (cut_block f b slot)) l))

leads_less : (o p : Option Maker) → IsLess o p → (q : Root) → Contains (leads_in p) q → Contains (leads_in o) q
leads_less None None h q c = c
leads_less None (Some n) h q c = absurd h
leads_less (Some m) None h q c = absurd h
leads_less (Some m) (Some n) h q c = h.leads q c

some_less : (o p : Option Maker) (n : Maker) → IsLess o p → p ≡ Some n → (m : Maker) × (o ≡ Some m) × Loses m n
some_less None None n h e = cc
some_less None (Some x) n h e = absurd h
some_less (Some m) None n h e = absurd h
some_less (Some m) (Some x) n h e = let same : x ≡ n = cc in (m, refl, subst (Loses m) same h)

-- ---- bases

cut_leads : (f : FuncState) (b slot : ℕ) (p q : Root) → Contains (leads_of (with_edge_cut f b slot) p) q → Contains (leads_of f p) q
cut_leads f b slot (Local l) q c = leads_less (maker_of f l) (maker_of (with_edge_cut f b slot) l) (less_cut f b slot l) q c
cut_leads f b slot (Global g) q c = c

cut_brought : (f : FuncState) (b slot n : ℕ) (p q : Root) → IsBrought (with_edge_cut f b slot) n p q → IsBrought f n p q
cut_brought f b slot zero p q h = h
cut_brought f b slot (suc n) p q h = (h.0, cut_leads f b slot p h.0 h.1, cut_brought f b slot n h.0 q h.2)

cut_named : (f : FuncState) (b slot : ℕ) (q : Root) (c : Base) → IsNamed (with_edge_cut f b slot) q c → IsNamed f q c
cut_named f b slot (Local l) c (inl h) =
    let n = h.0 in
    let m = some_less (maker_of f l) (maker_of (with_edge_cut f b slot) l) n.0 (less_cut f b slot l) n.1 in
    inl ((m.0, m.1, m.2.alloca ∙ n.2), h.1)
cut_named f b slot (Local l) c (inr h) = inr h
cut_named f b slot (Global g) c h = h

pub cut_bases : (f : FuncState) (b slot : ℕ) (p : Root) (c : Base) → HasBase (with_edge_cut f b slot) p c → HasBase f p c
cut_bases f b slot p c h = (h.0, h.1, cut_brought f b slot h.0 p h.1 h.2, cut_named f b slot h.1 c h.3)

-- ---- captures

args_without : (from : ℕ) (p : Inst) → args_of (inst_without from p) ≡ args_of p
args_without from (Phi ty entries tail) = refl
args_without from p = refl

pub cut_captured : (f : FuncState) (b slot : ℕ) (l : LocalNo) → IsCaptured (with_edge_cut f b slot) l → IsCaptured f l
cut_captured f b slot l h =
    let k = h.4 in
    let v = k.3 in
    let base : HasValBase f k.0.val (AllocaBase l) = (v.0, v.1, cut_bases f b slot v.0 (AllocaBase l) v.2) in
    ⊎_elim
    (λ (t : (x : Placed) × Has (branched f b slot) x × (placed_without b x ≡ h.2)).
    let r = term_from f.blocks b (branch f b slot) t.0 t.1 in
    (r.0, r.1, t.0, r.2, (k.0, subst (λ (args : List Arg). Contains args k.0) (ap (λ (z : Placed). args_of z.inst) (sym t.2) ∙ args_without b t.0.inst) k.1, k.2, base)))
    (λ (t : Has (branched f b slot) h.2).
    let r = term_from f.blocks b (branch f b slot) h.2 t in
    (r.0, r.1, h.2, r.2, (k.0, k.1, k.2, base)))
    (entry_from (branched f b slot) (cut_block f b slot) b h.2 (h.0, h.1, h.3))

-- ---- turns

edge_from : (blocks : List Block) (b : ℕ) (new : Block) (a t : ℕ) → (Contains (successors new.term) t → Contains (successors (get_or blocks b no_block).term) t)
    → HasEdge (edges_of (set blocks b new)) a t → HasEdge (edges_of blocks) a t
edge_from [] b new a t h k = k
edge_from (x ∷ xs) zero new zero t h k = h k
edge_from (x ∷ xs) zero new (suc a) t h k = k
edge_from (x ∷ xs) (suc b) new zero t h k = k
edge_from (x ∷ xs) (suc b) new (suc a) t h k = edge_from xs b new a t h k

kept_among : (t : Term) (slot q : ℕ) → IsCondBr t → Contains (successors (Br (kept_target t slot) [])) q → Contains (successors t) q
kept_among (CondBr test x y text) slot q c h = pick (slot == 0) h where
  pick : (t : Bool) → Contains ((cond t y x).0 ∷ []) q → Contains (x.0 ∷ y.0 ∷ []) q
  pick true k = Contains-append_right (x.0 ∷ []) (y.0 ∷ []) q k
  pick false k = Contains-append_left (x.0 ∷ []) (y.0 ∷ []) q k
kept_among (Br a text) slot q c h = absurd c
kept_among (Ret value text) slot q c h = absurd c
kept_among (Unreachable text) slot q c h = absurd c

cut_edge : (f : FuncState) (b slot : ℕ) → IsCondBr (get_or f.blocks b no_block).term → (a t : ℕ) → HasEdge (edges_of (with_edge_cut f b slot).blocks) a t → HasEdge (edges_of f.blocks) a t
cut_edge f b slot c a t h =
    edge_from f.blocks b (record (get_or f.blocks b no_block) { term = branch f b slot }) a t (kept_among (get_or f.blocks b no_block).term slot t c)
    (edge_from (branched f b slot) (cut_block f b slot) (lost_block f b slot) a t (λ k. k) h)

path_from : (f : FuncState) (b slot : ℕ) → IsCondBr (get_or f.blocks b no_block).term → (t : ℕ) (p : List ℕ) → IsPath (edges_of (with_edge_cut f b slot).blocks) t p → IsPath (edges_of f.blocks) t p
path_from f b slot c t [] h = h
path_from f b slot c t (a ∷ p) h = (cut_edge f b slot c a t h.0, path_from f b slot c a p h.1)

walk_from : (f : FuncState) (b slot : ℕ) → IsCondBr (get_or f.blocks b no_block).term → (s t : ℕ) (w : List ℕ) → IsWalk (edges_of (with_edge_cut f b slot).blocks) s t w → IsWalk (edges_of f.blocks) s t w
walk_from f b slot c s t [] h = h
walk_from f b slot c s t (a ∷ w) h = (cut_edge f b slot c a t h.0, walk_from f b slot c s a w h.1)

cycle_from : (f : FuncState) (b slot : ℕ) → IsCondBr (get_or f.blocks b no_block).term → (t : ℕ) → IsOnCycle (edges_of (with_edge_cut f b slot).blocks) t → IsOnCycle (edges_of f.blocks) t
cycle_from f b slot c t h =
    let path = h.0 in
    let walk = h.1 in
    ((path.0, path_from f b slot c t path.0 path.1), (walk.0, walk.1, walk_from f b slot c t t (walk.0 ∷ walk.1) walk.2))

pub cut_turning : (f : FuncState) (b slot : ℕ) → IsCondBr (get_or f.blocks b no_block).term → (r : Root) → IsTurning (with_edge_cut f b slot) r → IsTurning f r
cut_turning f b slot c (Local l) h =
    let m = some_less (maker_of f l) (maker_of (with_edge_cut f b slot) l) h.0 (less_cut f b slot l) h.1 in
    (m.0, m.1, m.2.alloca ∙ h.2, subst (IsOnCycle (edges_of f.blocks)) (sym m.2.block) (cycle_from f b slot c h.0.block h.3))
cut_turning f b slot c (Global g) h = h
