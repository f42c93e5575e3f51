-- A sound function is sound in order.
use Rattle.std.proofs.Common.{◌≡◌, ◌<◌, ◌+◌, ℕ, zero, suc, Bool, true, false, if◌then◌else◌, nat_lt, List, [], ◌∷◌, length, map, filter, Option, Some, None, refl, sym, ap, subst, ◌∙◌, inl, inr, arith, tests}
use Rattle.std.specs.Prelude.{Contains, slice_get}
use Rattle.std.specs.Option.{option_map}
use Rattle.std.proofs.lemmas.Option.{slice_get_within}
use Rattle.ms_paths.specs.Flow.{block_at, HasEdge, IsMet, IsClosed, IsReducible}
use Rattle.ms_ir.specs.declared.names.Ty.{Ty}
use Rattle.ms_ir.specs.declared.names.LocalNo.{LocalNo}
use Rattle.ms_ir.specs.declared.inst.Val.{Val}
use Rattle.ms_ir.specs.declared.inst.Val.TheVariants.{Num, Local, Global}
use Rattle.ms_ir.specs.declared.inst.Entry.{Entry}
use Rattle.ms_ir.specs.declared.inst.Inst.{Inst}
use Rattle.ms_ir.specs.declared.inst.Inst.TheVariants.{Alloca, Gep, Step, Load, Store, Copy, Call, Bin, Cmp, Select, Cast, Phi}
use Rattle.ms_ir.specs.declared.inst.Term.{Term}
use Rattle.ms_ir.specs.Func.{Placed, Block, FuncState, insts_at}
use Rattle.ms_ir.specs.Graph.{graph_of, successors}
use Rattle.ms_ir.specs.Locals.{IsNumbered, IsGiver, HasType}
use Rattle.ms_ir.specs.Types.{is_phi}
use Rattle.ms_ir.specs.Uses.{Operand, Use, operands_of, term_operands, uses_at, term_uses_at}
use Rattle.ms_ir.specs.Sound.{IsUsedBefore, HasTwoValues, HasBadEntries, edges_between, times_in, from_of}
use Rattle.ms_ir.specs.SoundFunc.{IsValueIn, AreValues, AreBehind, IsAmongPhis, IsSoundInst, IsSoundTerm, IsSoundFunc}
use Rattle.ms_ir.specs.Edits.{term_at}
use Rattle.ms_validity.proofs.ListLemmas.{get_map, map_get}
use Rattle.ms_edited.proofs.Shape.{PartIsReducible, path_within}
use Rattle.ms_edited.proofs.OnPaths.{StandsOn, met_stands, stands_met}
use Rattle.ms_again.specs.Same.{plain_param}
use Rattle.ms_again.specs.Ordered.{place_in, ordered, ordered_local, ordered_val, ordered_inst, results_in, inst_by, entry_by, term_by}
use Rattle.ms_again.proofs.InOrder.{one_local}
use Rattle.ms_reprint.proofs.Parts.{From, at_from, at_to, blocks_size, term_in_order, block_from, given_in, same_targets, same_stands, term_operands_by, same_result, same_form, FromOperand, from_mapped, operands_by, FromUse, use_by, uses_by, term_uses_by}

-- ---- locals

-- a parameter stays where it is
pub param_stays : (f : FuncState) (l : LocalNo) → l.0 < length f.params → (ordered_local f l).0 ≡ l.0
param_stays f l h = let t : nat_lt l.0 (length f.params) ≡ true = grind (arith, tests) in ap (λ (b : Bool). if b then l.0 else length f.params + place_in (results_in f.blocks) l.0) t

same_option : (a b : LocalNo) → Some a ≡ Some b → a ≡ b
same_option a b e = cc

pub type_on : (f : FuncState) (l : LocalNo) (ty : Ty) → HasType f l ty → HasType (ordered f) (ordered_local f l) ty
type_on f l ty (inl (p, at, is)) =
    let stays = param_stays f l (slice_get_within f.params l.0 p at) in
    inl (plain_param p, ap (λ k. slice_get (map plain_param f.params) k) stays ∙ map_get plain_param f.params l.0 p at, is)
type_on f l ty (inr (b, k, x, gives, is)) =
    let there = at_to f 0 f.blocks b k x gives.found in
    inr (b, k, ordered_inst f there.0 x, record { found = there.1; gives = ap (option_map (ordered_local f)) gives.gives }, same_result (ordered_val f) x.inst ∙ is)

value_on : (f : FuncState) (ty : Ty) (v : Val) → IsValueIn f ty v → IsValueIn (ordered f) ty (ordered_val f v)
value_on f ty (Num own n) h = h
value_on f ty (Local l) h = type_on f l ty h
value_on f ty (Global g) h = h

values_on : (f : FuncState) (os news : List Operand) → ((o : Operand) → Contains news o → FromOperand (ordered_val f) os o) → AreValues f os → AreValues (ordered f) news
values_on f os news back h = λ o on.
    let r = back o on in
    subst (λ (p : Operand). IsValueIn (ordered f) p.ty p.val) r.is (value_on f r.was.ty r.was.val (h r.was r.there))

-- ---- edges

edges_same : (f : FuncState) (a b : ℕ) → edges_between (ordered f).blocks a b ≡ edges_between f.blocks a b
edges_same f a b = ap (λ (t : Term). times_in b (successors t)) (term_in_order f 0 f.blocks a) ∙ ap (λ (ts : List ℕ). times_in b ts) (same_targets (ordered_val f) (term_at f.blocks a))

froms_same : (v : Val → Val) (es : List Entry) → map from_of (map (entry_by v) es) ≡ map from_of es
froms_same v [] = refl
froms_same v (e ∷ es) = ap (λ (ns : List ℕ). from_of e ∷ ns) (froms_same v es)

two_back : (v : Val → Val) (es : List Entry) → HasTwoValues (map (entry_by v) es) → HasTwoValues es
two_back v es (j, k, d, e, at_d, at_e, same, other) =
    let p = get_map (entry_by v) es j d at_d in
    let q = get_map (entry_by v) es k e at_e in (
      j,
      k,
      p.0,
      q.0,
      p.1,
      q.1,
      ap (λ (x : Entry). x.from) p.2 ∙ same ∙ sym (ap (λ (x : Entry). x.from) q.2),
      λ is. other (sym (ap (λ (x : Entry). x.val) p.2) ∙ ap v is ∙ ap (λ (x : Entry). x.val) q.2),
    )

no_entries : (bs : List Block) (b : ℕ) (i : Inst) → is_phi i ≡ false → HasBadEntries bs b i → ⊥
no_entries bs b (Phi ty entries tail) t h = absurd (cc)
no_entries bs b (Alloca size head tail) t h = h
no_entries bs b (Gep base offset head index tail) t h = h
no_entries bs b (Step base offset terms head index tail) t h = h
no_entries bs b (Load ty ptr tail) t h = h
no_entries bs b (Store ty val ptr tail) t h = h
no_entries bs b (Copy to from len head tail) t h = h
no_entries bs b (Call callee ret args effects head tail) t h = h
no_entries bs b (Bin op flags ty x y tail) t h = h
no_entries bs b (Cmp pred flags ty x y tail) t h = h
no_entries bs b (Select cond ty x y tail) t h = h
no_entries bs b (Cast op flags from x to tail) t h = h

phi_entries : (f : FuncState) (b : ℕ) (ty : Ty) (es : List Entry) (tail : List ℕ) → HasBadEntries (ordered f).blocks b (Phi ty (map (entry_by (ordered_val f)) es) tail) → HasBadEntries f.blocks b (Phi ty es tail)
phi_entries f b ty es tail (inl (a, other)) =
    inl (a, λ e. other (ap (λ (ns : List ℕ). times_in a ns) (froms_same (ordered_val f) es) ∙ e ∙ sym (edges_same f a b)))
phi_entries f b ty es tail (inr two) = inr (two_back (ordered_val f) es two)

no_phi : (f : FuncState) (b : ℕ) (i : Inst) → is_phi i ≡ false → HasBadEntries (ordered f).blocks b (inst_by (ordered_val f) i) → ⊥
no_phi f b i t h = no_entries (ordered f).blocks b (inst_by (ordered_val f) i) ((same_form (ordered_val f) i).phi ∙ t) h

entries_back : (f : FuncState) (b : ℕ) (i : Inst) → HasBadEntries (ordered f).blocks b (inst_by (ordered_val f) i) → HasBadEntries f.blocks b i
entries_back f b (Phi ty es tail) h = phi_entries f b ty es tail h
entries_back f b (Alloca size head tail) h = h
entries_back f b (Gep base offset head index tail) h = h
entries_back f b (Step base offset terms head index tail) h = absurd (no_phi f b (Step base offset terms head index tail) refl h)
entries_back f b (Load ty ptr tail) h = h
entries_back f b (Store ty val ptr tail) h = h
entries_back f b (Copy to from len head tail) h = h
entries_back f b (Call callee ret args effects head tail) h = h
entries_back f b (Bin op flags ty x y tail) h = h
entries_back f b (Cmp pred flags ty x y tail) h = h
entries_back f b (Select cond ty x y tail) h = h
entries_back f b (Cast op flags from x to tail) h = h

no_other_edge : (f : FuncState) (a b : ℕ) → Contains (successors (term_at (ordered f).blocks a)) b → Contains (successors (term_at f.blocks a)) b
no_other_edge f a b h =
    subst (λ (ts : List ℕ). Contains ts b) (same_targets (ordered_val f) (term_at f.blocks a))
    (subst (λ (t : Term). Contains (successors t) b) (term_in_order f 0 f.blocks a) h)

next_at : (bs : List Block) (b : ℕ) → (block_at (graph_of bs) b).next ≡ successors (term_at bs b)
next_at [] b = refl
next_at (x ∷ bs) zero = refl
next_at (x ∷ bs) (suc b) = next_at bs b

graph_size : (bs : List Block) → length (graph_of bs) ≡ length bs
graph_size [] = refl
graph_size (x ∷ bs) = ap suc (graph_size bs)

none_pass : (xs : List ℕ) → filter (λ (i : ℕ). false) xs ≡ []
none_pass [] = refl
none_pass (x ∷ xs) = none_pass xs

edge_back : (f : FuncState) (a b : ℕ) → HasEdge (graph_of (ordered f).blocks) a b → HasEdge (graph_of f.blocks) a b
edge_back f a b e =
    subst (λ (ns : List ℕ). Contains ns b) (sym (next_at f.blocks a)) (no_other_edge f a b (subst (λ (ns : List ℕ). Contains ns b) (next_at (ordered f).blocks a) e))

closed_on : (f : FuncState) → IsClosed (graph_of f.blocks) → IsClosed (graph_of (ordered f).blocks)
closed_on f h =
    let size : length (graph_of f.blocks) ≡ length (graph_of (ordered f).blocks) = graph_size f.blocks ∙ sym (blocks_size f 0 f.blocks) ∙ sym (graph_size (ordered f).blocks) in
    record {
      has_entry = subst (λ n. 0 < n) size h.has_entry;
      edges_in = λ a b e. subst (λ n. b < n) size (h.edges_in a b (edge_back f a b e));
    }

reducible_on : PartIsReducible → (f : FuncState) → IsReducible (graph_of f.blocks) → IsReducible (graph_of (ordered f).blocks)
reducible_on part f h =
    part (graph_of (ordered f).blocks) (graph_of f.blocks) (λ i. false)
    (record { events_same = λ b. none_pass (block_at (graph_of (ordered f).blocks) b).events ∙ sym (none_pass (block_at (graph_of f.blocks) b).events); edges_of = edge_back f }) h

-- ---- uses

-- the giver of a local in order
pub record WasGiver (f : FuncState) (l : LocalNo) (b k : ℕ) (y : Placed) : Type 0 where
  pub x : Placed
  pub number : ℕ
  pub gives : IsGiver f.blocks l b k x
  pub is : y ≡ ordered_inst f number x

local_same : (k l : LocalNo) → k.0 ≡ l.0 → k ≡ l
local_same k l e = ap (λ (n : ℕ). let m : LocalNo = record { 0 = n } in m) e

pub was_giver : (f : FuncState) (l : LocalNo) (b k : ℕ) (y : Placed) → IsGiver (ordered f).blocks (ordered_local f l) b k y → WasGiver f l b k y
was_giver f l b k y h =
    let r = at_from f 0 f.blocks b k y h.found in
    by r (r.x.result) refl (ap (λ (z : Placed). z.result) (sym r.is) ∙ h.gives)
  where
    by : (r : From f (insts_at f.blocks b) k y) (o : Option LocalNo) → r.x.result ≡ o → option_map (ordered_local f) r.x.result ≡ Some (ordered_local f l) → WasGiver f l b k y
    by r None e gives = let none : None ≡ Some (ordered_local f l) = sym (ap (option_map (ordered_local f)) e) ∙ gives in absurd (cc)
    by r (Some m) e gives =
        let some : Some (ordered_local f m) ≡ Some (ordered_local f l) = sym (ap (option_map (ordered_local f)) e) ∙ gives in
        let same : ordered_local f m ≡ ordered_local f l = same_option (ordered_local f m) (ordered_local f l) some in
        let on = given_in f.blocks b k r.x m r.there e in
        let one = one_local (length f.params) (results_in f.blocks) on.0 m.0 l.0 on.1 (ap (λ (n : LocalNo). n.0) same) in
        record { x = r.x; number = r.number; gives = record { found = r.there; gives = e ∙ ap Some (local_same m l one) }; is = r.is }

met_on : (f : FuncState) → IsNumbered f → (b k : ℕ) (x y : Placed) → slice_get (insts_at f.blocks b) k ≡ Some x → slice_get (insts_at (ordered f).blocks b) k ≡ Some y → (c j : ℕ) (p : List ℕ) →
    IsMet (graph_of f.blocks) x.number c j p → IsMet (graph_of (ordered f).blocks) y.number c j p
met_on f numbered b k x y at_x at_y c j p met = stands_met (ordered f).blocks y.number c j p (by (met_stands f.blocks x.number c j p met))
  where
    moved : (a i : ℕ) → b ≡ a → k ≡ i → slice_get (insts_at (ordered f).blocks a) i ≡ Some y
    moved a i one two = subst (λ n. slice_get (insts_at (ordered f).blocks a) n ≡ Some y) two (subst (λ n. slice_get (insts_at (ordered f).blocks n) k ≡ Some y) one at_y)

    by : StandsOn f.blocks x.number c j p → StandsOn (ordered f).blocks y.number c j p
    by (inl (i, z, found, is, less)) = let one = numbered.one_place b k c i x z at_x found (sym is) in inl (i, y, moved c i one.0 one.1, refl, less)
    by (inr (a, on, i, z, found, is)) = let one = numbered.one_place b k a i x z at_x found (sym is) in inr (a, on, i, y, moved a i one.0 one.1, refl)

pub was_local : (f : FuncState) (v : Val) (l : LocalNo) → ordered_val f v ≡ Local l → (m : LocalNo) × (v ≡ Local m) × (ordered_local f m ≡ l)
was_local f (Num ty n) l e = absurd (cc)
was_local f (Local m) l e = (m, refl, (let same : Local (ordered_local f m) ≡ Local l = e in cc))
was_local f (Global g) l e = absurd (cc)

before_back : (f : FuncState) → IsNumbered f → (u : Use) → IsUsedBefore (ordered f) (use_by (ordered_val f) u) → IsUsedBefore f u
before_back f numbered u (path, h) =
    let m = was_local f u.val h.local h.is_local in
    let giver = was_giver f m.0 h.block h.place h.giver (subst (λ (l : LocalNo). IsGiver (ordered f).blocks l h.block h.place h.giver) (sym m.2) h.gives) in (
      path,
      record {
        local = m.0;
        is_local = m.1;
        block = h.block;
        place = h.place;
        giver = giver.x;
        gives = giver.gives;
        path_is = path_within f.blocks (ordered f).blocks (blocks_size f 0 f.blocks) (no_other_edge f) u.block path h.path_is;
        not_met = λ met. h.not_met (met_on f numbered h.block h.place giver.x h.giver giver.gives.found h.gives.found u.block u.place path met);
      },
    )

behind_on : (f : FuncState) → IsNumbered f → (us news : List Use) → ((u : Use) → Contains news u → FromUse (ordered_val f) us u) → AreBehind f us → AreBehind (ordered f) news
behind_on f numbered us news back h = λ u on before.
    let r = back u on in
    h r.was r.there (before_back f numbered r.was (subst (λ (w : Use). IsUsedBefore (ordered f) w) (sym r.is) before))

-- ---- the function

among_on : (f : FuncState) (b k : ℕ) → IsAmongPhis f.blocks b k → IsAmongPhis (ordered f).blocks b k
among_on f b k h = λ j y less at.
    let r = at_from f 0 f.blocks b j y at in
    ap (λ (z : Placed). is_phi z.inst) r.is ∙ (same_form (ordered_val f) r.x.inst).phi ∙ h j r.x less r.there

inst_on : (f : FuncState) → IsNumbered f → (b k : ℕ) (i : Inst) → IsSoundInst f b k i → IsSoundInst (ordered f) b k (inst_by (ordered_val f) i)
inst_on f numbered b k i h =
    let v = ordered_val f in
    let form = same_form v i in
    record {
      types = form.types h.types;
      operands = values_on f (operands_of i) (operands_of (inst_by v i)) (operands_by v i) h.operands;
      alloca = λ t. h.alloca (sym form.alloca ∙ t);
      phi = λ t. among_on f b k (h.phi (sym form.phi ∙ t));
      entered = form.entered ∙ h.entered;
      entries = λ bad. h.entries (entries_back f b i bad);
      uses = behind_on f numbered (uses_at f.blocks b k i) (uses_at (ordered f).blocks b k (inst_by v i)) (uses_by f 0 f.blocks b k i) h.uses;
    }

term_on : (f : FuncState) → IsNumbered f → (b : ℕ) (t : Term) → IsSoundTerm f b t → IsSoundTerm (ordered f) b (term_by (ordered_val f) t)
term_on f numbered b t h =
    let v = ordered_val f in
    record {
      types = same_stands v t ∙ h.types;
      operands = values_on f (term_operands t) (term_operands (term_by v t)) (λ o on. from_mapped v (term_operands t) (term_operands (term_by v t)) o (term_operands_by v t) on) h.operands;
      targets = λ first. h.targets (subst (λ (ts : List ℕ). Contains ts 0) (same_targets v t) first);
      uses = behind_on f numbered (term_uses_at f.blocks b t) (term_uses_at (ordered f).blocks b (term_by v t)) (term_uses_by f 0 f.blocks b t) h.uses;
    }

pub in_order : PartIsReducible → (f : FuncState) → IsNumbered f → IsSoundFunc f → IsSoundFunc (ordered f)
in_order part f numbered sound = record {
  closed = closed_on f sound.closed;
  insts = λ b k y at.
      let r = at_from f 0 f.blocks b k y at in
      subst (λ (z : Placed). IsSoundInst (ordered f) b k z.inst) (sym r.is) (inst_on f numbered b k r.x.inst (sound.insts b k r.x r.there));
  terms = λ b y at.
      let r = block_from f 0 f.blocks b y at in
      subst (λ (t : Term). IsSoundTerm (ordered f) b t) (sym r.term_is) (term_on f numbered b r.x.term (sound.terms b r.x r.there));
  reducible = reducible_on part f sound.reducible;
}
