-- What the cut of an edge leaves of a function's pointers: phis lose entries, and nothing else changes.
use Rattle.std.proofs.Common.{◌≡◌, ◌<◌, ◌∙◌, ℕ, zero, suc, ℤ, Bool, true, false, cond, List, [], ◌∷◌, Option, Some, None, length, get_or, map, set, refl, sym, ap, subst, inl, inr, arith}
use Rattle.std.specs.Prelude.{◌&&◌, Contains, position, remove}
use Rattle.ms_ir.specs.declared.names.LocalNo.{LocalNo}
use Rattle.ms_ir.specs.declared.inst.Val.{Val}
use Rattle.ms_ir.specs.declared.inst.Entry.{Entry}
use Rattle.ms_ir.specs.declared.inst.Inst.{Inst}
use Rattle.ms_ir.specs.declared.inst.Inst.TheVariants.{Phi}
use Rattle.ms_ir.specs.declared.inst.Term.{Term}
use Rattle.ms_ir.specs.declared.inst.Term.TheVariants.{Br}
use Rattle.ms_ir.specs.Func.{Placed, Block, FuncState, no_block, insts_at}
use Rattle.ms_ir.specs.Changes.{is_from, without, inst_without, placed_without, with_entry_lost, with_term, with_edge_cut, kept_target, cut_target}
use Rattle.ms_alias.specs.declared.loc.Root.{Root}
use Rattle.ms_alias.specs.declared.loc.Root.TheVariants.{Local, Global}
use Rattle.ms_alias.specs.declared.sets.Set.{Set}
use Rattle.ms_alias.specs.declared.sets.Set.TheVariants.{Nothing, Argument, Alloca, Object, Brought}
use Rattle.ms_alias.specs.Roots.{Maker, is_alloca, is_local, makes, makes_pointer, maker_in, maker_from, maker_of, or_else, step_in, step_by_maker, step_of, LeadsBack, IsEnd, IsRootAfter}
use Rattle.ms_alias.specs.Bases.{pointers_in, with_pointer, sources_in, leads_in, leads_of}
use Rattle.ms_alias.specs.Tables.{AliasState, BasesState, IsFor, IsReady, IsAliasOf, set_of}

-- ---- the pointers of a phi that lost an entry

pub with_more : (o : Option Root) (ps : List Root) (p : Root) → Contains ps p → Contains (with_pointer o ps) p
with_more None ps p h = h
with_more (Some q) ps p h = (suc h.0, let lt = h.1 in omega arith, h.2)

with_same : (o : Option Root) (ps qs : List Root) (p : Root) → (Contains ps p → Contains qs p) → Contains (with_pointer o ps) p → Contains (with_pointer o qs) p
with_same None ps qs p sub h = sub h
with_same (Some q) ps qs p sub h = at h.0 h.1 h.2 where
  at : (k : ℕ) (lt : k < length (q ∷ ps)) → get_or (q ∷ ps) k p ≡ p → Contains (q ∷ qs) p
  at zero lt e = (zero, omega arith, e)
  at (suc k) lt e = let r = sub (k, omega arith, e) in (suc r.0, let below = r.1 in omega arith, r.2)

abbrev values : List Entry → List Val
values es = map (λ (e : Entry). e.val) es

remove_leads : (es : List Entry) (at : ℕ) (p : Root) → Contains (pointers_in (values (remove es at))) p → Contains (pointers_in (values es)) p
remove_leads [] zero p h = h
remove_leads [] (suc at) p h = h
remove_leads (e ∷ es) zero p h = with_more _ (pointers_in (values es)) p h
remove_leads (e ∷ es) (suc at) p h = with_same _ (pointers_in (values (remove es at))) (pointers_in (values es)) p (remove_leads es at p) h

without_leads : (es : List Entry) (at : Option ℕ) (p : Root) → Contains (pointers_in (values (without es at))) p → Contains (pointers_in (values es)) p
without_leads es None p h = h
without_leads es (Some at) p h = remove_leads es at p h

-- ---- makers

record Loses (old new : Inst) : Type 0 where
  pub makes : makes_pointer old ≡ makes_pointer new
  pub step : step_in old ≡ step_in new
  pub alloca : is_alloca old ≡ is_alloca new
  pub leads : (p : Root) → Contains (pointers_in (sources_in new)) p → Contains (pointers_in (sources_in old)) p

loses : (b : ℕ) (inst : Inst) → Loses inst (inst_without b inst)
loses b (Phi ty entries tail) = record { makes = refl; step = refl; alloca = refl; leads = without_leads entries (position (is_from b) entries) }
loses b inst = record { makes = refl; step = refl; alloca = refl; leads = λ p h. h }

-- the maker has lost entries at most
abbrev IsLess : Option Maker → Option Maker → Type 0
IsLess None None = Unit {0}
IsLess None (Some n) = ⊥
IsLess (Some m) None = ⊥
IsLess (Some m) (Some n) = Loses m.inst n.inst

less_same : (o : Option Maker) → IsLess o o
less_same None = tt
less_same (Some m) = record { makes = refl; step = refl; alloca = refl; leads = λ p h. h }

less_on : (o p q : Option Maker) → IsLess o p → IsLess p q → IsLess o q
less_on None None None h k = tt
less_on None None (Some n) h k = k
less_on None (Some m) q h k = absurd h
less_on (Some l) None q h k = absurd h
less_on (Some l) (Some m) None h k = k
less_on (Some l) (Some m) (Some n) h k = record { makes = h.makes ∙ k.makes; step = h.step ∙ k.step; alloca = h.alloca ∙ k.alloca; leads = λ p c. h.leads p (k.leads p c) }

less_or : (o p q r : Option Maker) → IsLess o p → IsLess q r → IsLess (or_else o q) (or_else p r)
less_or None None q r h k = k
less_or None (Some n) q r h k = absurd h
less_or (Some m) None q r h k = absurd h
less_or (Some m) (Some n) q r h k = h

less_cond : (t : Bool) (o p q r : Option Maker) → IsLess o p → IsLess q r → IsLess (cond t o q) (cond t p r)
less_cond true o p q r h k = h
less_cond false o p q r h k = k

less_in : (b n : ℕ) (xs : List Placed) (l : LocalNo) → IsLess (maker_in n xs l) (maker_in n (map (placed_without b) xs) l)
less_in b n [] l = tt
less_in b n (x ∷ xs) l =
    let here : Maker = record { block = n; inst = x.inst } in
    let new : Maker = record { block = n; inst = inst_without b x.inst } in
    let old = maker_in n xs l in
    let rest = maker_in n (map (placed_without b) xs) l in
    let lost = loses b x.inst in
    subst (λ t. IsLess (cond (makes l x) (Some here) old) (cond (t && is_local l x.result) (Some new) rest)) lost.makes
    (less_cond (makes l x) (Some here) (Some new) old rest lost (less_in b n xs l))

less_set : (k : ℕ) (blocks : List Block) (b : ℕ) (new : Block) (l : LocalNo) → ((n : ℕ) → IsLess (maker_in n (insts_at blocks b) l) (maker_in n new.insts l)) → IsLess (maker_from k blocks l) (maker_from k (set blocks b new) l)
less_set k [] b new l h = tt
less_set k (x ∷ xs) zero new l h = less_or (maker_in k x.insts l) (maker_in k new.insts l) _ _ (h k) (less_same (maker_from (suc k) xs l))
less_set k (x ∷ xs) (suc b) new l h = less_or (maker_in k x.insts l) _ (maker_from (suc k) xs l) _ (less_same (maker_in k x.insts l)) (less_set (suc k) xs b new l h)

less_term : (blocks : List Block) (b : ℕ) (term : Term) (l : LocalNo) → IsLess (maker_from 0 blocks l) (maker_from 0 (with_term blocks b term) l)
less_term blocks b term l = less_set 0 blocks b (record (get_or blocks b no_block) { term = term }) l (λ n. less_same (maker_in n (insts_at blocks b) l))

less_entry : (blocks : List Block) (c b : ℕ) (l : LocalNo) → IsLess (maker_from 0 blocks l) (maker_from 0 (with_entry_lost blocks c b) l)
less_entry blocks c b l = less_set 0 blocks c _ l (λ n. less_in b n (insts_at blocks c) l)

less_cut : (f : FuncState) (b slot : ℕ) (l : LocalNo) → IsLess (maker_of f l) (maker_of (with_edge_cut f b slot) l)
less_cut f b slot l =
    let old : Term = (get_or f.blocks b no_block).term in
    let blocks = with_term f.blocks b (Br (kept_target old slot) []) in
    less_on (maker_of f l) (maker_from 0 blocks l) _ (less_term f.blocks b _ l) (less_entry blocks (cut_target old slot).0 b l)

-- ---- what makers tell

step_less : (o p : Option Maker) → IsLess o p → step_by_maker o ≡ step_by_maker p
step_less None None h = refl
step_less None (Some n) h = absurd h
step_less (Some m) None h = absurd h
step_less (Some m) (Some n) h = h.step

leads_less : (o p : Option Maker) → IsLess o p → (q : Root) → Contains (leads_in p) q → Contains (leads_in o) q
leads_less None None h q c = c
leads_less None (Some n) h q c = absurd h
leads_less (Some m) None h q c = absurd h
leads_less (Some m) (Some n) h q c = h.leads q c

none_less : (o p : Option Maker) → IsLess o p → o ≡ None → p ≡ None
none_less None None h e = refl
none_less None (Some n) h e = absurd h
none_less (Some m) None h e = refl
none_less (Some m) (Some n) h e = absurd (cc)

some_less : (o p : Option Maker) (t : Bool) → IsLess o p → (m : Maker) × (o ≡ Some m) × (is_alloca m.inst ≡ t) → (n : Maker) × (p ≡ Some n) × (is_alloca n.inst ≡ t)
some_less None p t h k = let clash = k.1 in absurd (cc)
some_less (Some m) None t h k = absurd h
some_less (Some m) (Some n) t h k =
    let same = k.1 in
    let is : m ≡ k.0 = cc in
    (n, refl, sym h.alloca ∙ ap (λ (x : Maker). is_alloca x.inst) is ∙ k.2)

-- ---- roots and tables

record SameSteps (f g : FuncState) : Type 0 where
  pub at : (p : Root) → step_of f p ≡ step_of g p

steps_back : (f g : FuncState) → SameSteps f g → SameSteps g f
steps_back f g s = record { at = λ p. sym (s.at p) }

back_kept : (f g : FuncState) → SameSteps f g → (n : ℕ) (p q : Root) → LeadsBack f n p q → LeadsBack g n p q
back_kept f g s zero p q h = h
back_kept f g s (suc n) p q h = (h.0, sym (s.at p) ∙ h.1, back_kept f g s n h.0.base q h.2)

end_kept : (f g : FuncState) → SameSteps f g → (p : Root) → IsEnd f p → IsEnd g p
end_kept f g s p (inl e) = inl (sym (s.at p) ∙ e)
end_kept f g s p (inr r) = inr (r.0, back_kept f g s (suc r.0) p p r.1)

root_kept : (f g : FuncState) → SameSteps f g → (n : ℕ) (p r : Root) (o : ℤ) → IsRootAfter f n p r o → IsRootAfter g n p r o
root_kept f g s zero p r o h = (h.0, h.1, end_kept f g s p h.2)
root_kept f g s (suc n) p r o h = ((λ e. h.0 (end_kept g f (steps_back f g s) p e)), h.1, sym (s.at p) ∙ h.2, h.3, root_kept f g s n h.1.base r h.3 h.4, h.5)

cut_steps : (f : FuncState) (b slot : ℕ) → SameSteps f (with_edge_cut f b slot)
cut_steps f b slot = record { at = at }
  where
    at : (p : Root) → step_of f p ≡ step_of (with_edge_cut f b slot) p
    at (Local l) = step_less (maker_of f l) (maker_of (with_edge_cut f b slot) l) (less_cut f b slot l)
    at (Global g) = refl

cut_leads : (f : FuncState) (b slot : ℕ) (p q : Root) → Contains (leads_of (with_edge_cut f b slot) p) q → Contains (leads_of f p) q
cut_leads f b slot (Local l) q c = leads_less (maker_of f l) (maker_of (with_edge_cut f b slot) l) (less_cut f b slot l) q c
cut_leads f b slot (Global g) q c = c

cut_for : (t : BasesState) (f : FuncState) (b slot : ℕ) (l : LocalNo) (u : Set) → IsFor t f l u → IsFor t (with_edge_cut f b slot) l u
cut_for t f b slot l Nothing h = (none_less (maker_of f l) (maker_of (with_edge_cut f b slot) l) (less_cut f b slot l) h.0, h.1)
cut_for t f b slot l Argument h = (none_less (maker_of f l) (maker_of (with_edge_cut f b slot) l) (less_cut f b slot l) h.0, h.1)
cut_for t f b slot l (Alloca c) h = (h.0, some_less (maker_of f l) (maker_of (with_edge_cut f b slot) l) true (less_cut f b slot l) h.1, h.2)
cut_for t f b slot l (Object g) h = h
cut_for t f b slot l (Brought k) h = (h.0, h.1, some_less (maker_of f l) (maker_of (with_edge_cut f b slot) l) false (less_cut f b slot l) h.2, h.3)

-- the tables of a function are ready to be made anew once an edge is cut
pub cut_ready : (f : FuncState) (a : AliasState) (b slot : ℕ) → IsAliasOf f a → IsReady (with_edge_cut f b slot) a
cut_ready f a b slot h = record {
  room = record {
    rows = h.room.rows;
    sets = λ l. cut_for a.bases f b slot l (set_of a.bases (Local l)) (h.room.sets l);
    globals = λ p g c. h.room.globals p g (cut_leads f b slot p (Global g) c);
  };
  origins = record { each = λ l. let r = h.origins.each l in (r.0, root_kept f (with_edge_cut f b slot) (cut_steps f b slot) r.0 (Local l) _ _ r.1) };
}
