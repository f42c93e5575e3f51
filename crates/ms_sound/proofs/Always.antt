-- What holds at the beginning of a run holds at each moment.
use Rattle.std.proofs.Common.{◌≡◌, ◌∙◌, ◌<◌, ◌≤◌, ◌⊎◌, ℕ, zero, suc, ℤ, true, false, List, [], ◌∷◌, ◌++◌, length, Some, None, refl, sym, ap, subst, inl, inr, ⊎_elim, arith}
use Rattle.std.specs.Prelude.{Contains, slice_get, map}
use Rattle.std.proofs.lemmas.Bool.{false≢true}
use Rattle.std.proofs.lemmas.List.{length-append}
use Rattle.ms_paths.specs.Flow.{HasEdge}
use Rattle.ms_ir.specs.Graph.{graph_of}
use Rattle.ms_ir.specs.declared.names.Param.{Param}
use Rattle.ms_ir.specs.declared.names.LocalNo.{LocalNo}
use Rattle.ms_ir.specs.declared.inst.Inst.{Inst}
use Rattle.ms_ir.specs.declared.inst.Inst.TheVariants.{Alloca as AllocaInst, Gep, Step as StepInst, Load, Store, Copy, Call, Bin, Cmp, Select, Cast, Phi}
use Rattle.ms_ir.specs.Func.{Placed, FuncState, insts_at}
use Rattle.ms_ir.specs.Locals.{IsNumbered, IsGiver}
use Rattle.ms_ir.specs.Uses.{operands_of}
use Rattle.ms_alias.specs.declared.loc.Root.TheVariants.{Local}
use Rattle.ms_alias.specs.Roots.{Maker, makes_pointer, is_alloca, is_pointer, step_by_maker}
use Rattle.ms_alias.specs.Bases.{Base, Alloca, Argument, Object, Outside, Hidden, HasBase, IsAllocaLocal, IsArgument}
use Rattle.ms_alias.specs.Captured.{IsCaptured, IsKept}
use Rattle.ms_alias.proofs.Makers.{giver_makes, no_maker}
use Rattle.ms_meaning.specs.Values.{Value, Pointer, type_of}
use Rattle.ms_meaning.specs.Memory.{with_written}
use Rattle.ms_meaning.specs.States.{Input, State, IsInput, begun, type_of_param}
use Rattle.ms_meaning.specs.Steps.{Deed, Doing, Does, Waits, Fails, doing, is_phi, On}
use Rattle.ms_meaning.specs.Traces.{IsOn, inst_of}
use Rattle.ms_sound.specs.Objects.{Denotes, IsKnownObject}
use Rattle.ms_sound.specs.Bytes.{BeginsOnce}
use Rattle.ms_meaning.proofs.Goes.{before, one_state, Goes, ran, left, goes}
use Rattle.ms_sound.proofs.Walks.{split}
use Rattle.ms_sound.proofs.Chains.{root_base}
use Rattle.ms_sound.proofs.Told.{Told, Keeps, keeps_none, keeps_both, told_later, told_root, denotes_later}
use Rattle.ms_sound.proofs.Given.{Gives, MadeFrom, given}
use Rattle.ms_sound.proofs.Held.{Holds, RanBefore, keeps_step}
use Rattle.ms_sound.proofs.Escapes.{escaped_from, EscapesBy, written_length}
use Rattle.ms_sound.proofs.Operands.{gives_told, gives_makes, operand_told, arg_used, value_in}

-- the object of a base that a pointer leads to
known_object : (f : FuncState) (s : State) (b : Base) (o : ℕ) → Denotes f s b o → ((l : LocalNo) → b ≡ Alloca l → IsCaptured f l) → IsKnownObject f s o
known_object f s (Alloca l) o is captured = inr (l, captured l refl, is)
known_object f s (Argument l) o is captured = inl is
known_object f s (Object g) o is captured = inl is.1
known_object f s Outside o is captured = inl is
known_object f s Hidden o is captured = absurd is

known_later : (f : FuncState) (t s : State) (o : ℕ) → Keeps f t s → IsKnownObject f t o → IsKnownObject f s o
known_later f t s o k (inl lt) = inl (subst (λ n. o < n) k.outer lt)
known_later f t s o k (inr alloca) = inr (alloca.0, alloca.1, denotes_later f t s (Alloca alloca.0) o k alloca.2)

module _ (f : FuncState) (input : Input) (fits : IsInput f input) (numbered : IsNumbered f) where
  -- a parameter's value is an argument
  param_of : (ps : List Param) (vs : List Value) (k : ℕ) (v : Value) → map type_of vs ≡ map type_of_param ps → slice_get vs k ≡ Some v → (p : Param) × (slice_get ps k ≡ Some p) × (p.ty ≡ type_of v)
  param_of [] [] k v e h = cc
  param_of [] (w ∷ vs) k v e h = cc
  param_of (p ∷ ps) [] k v e h = cc
  param_of (p ∷ ps) (w ∷ vs) zero v e h = (p, refl, (let x : type_of w ≡ p.ty = cc in let y : w ≡ v = cc in sym x ∙ ap type_of y))
  param_of (p ∷ ps) (w ∷ vs) (suc k) v e h = param_of ps vs k v (let x : map type_of vs ≡ map type_of_param ps = cc in x) h

  get_in : (vs : List Value) (k : ℕ) (v : Value) → slice_get vs k ≡ Some v → Contains vs v
  get_in [] k v e = cc
  get_in (w ∷ vs) zero v e = (zero, omega arith, (let x : w ≡ v = cc in x))
  get_in (w ∷ vs) (suc k) v e = let rest = get_in vs k v e in (suc rest.0, omega arith, rest.2)

  within : (ps : List Param) (k : ℕ) (p : Param) → slice_get ps k ≡ Some p → k < length ps
  within [] k p e = cc
  within (q ∷ ps) zero p e = omega arith
  within (q ∷ ps) (suc k) p e = let rest = within ps k p e in omega arith

  -- no instruction gives a parameter
  param_ungiven : (l : LocalNo) (p : Param) → slice_get f.params l.0 ≡ Some p → (b k : ℕ) (x : Placed) → IsGiver f.blocks l b k x → ⊥
  param_ungiven l p e b k x g = let range = (numbered.result_range l b k x g).0 in let lt = within f.params l.0 p e in omega arith

  begun_param : (l : LocalNo) (v : Value) → slice_get input.args l.0 ≡ Some v → (p : Param) × (slice_get f.params l.0 ≡ Some p) × (p.ty ≡ type_of v)
  begun_param l v e = param_of f.params input.args l.0 v fits.types e

  begun_told : (l : LocalNo) (o : ℕ) (at : ℤ) → slice_get input.args l.0 ≡ Some (Pointer o at) → Told f (begun input) (Local l) o at
  begun_told l o at e =
      let p = begun_param l (Pointer o at) e in
      let argument : IsArgument f l = (p.0, p.1, ap is_pointer p.2) in
      let none = no_maker f l (λ b k x g makes. param_ungiven l p.0 p.1 b k x g) in
      told_root f (begun input) l o at (Argument l) (ap step_by_maker none) e (0, Local l, refl, inr (argument, refl)) (fits.args (Pointer o at) (get_in input.args l.0 (Pointer o at) e)).0

  no_alloca : (l : LocalNo) (v : Value) → slice_get input.args l.0 ≡ Some v → IsAllocaLocal f l → ⊥
  no_alloca l v e a =
      let p = begun_param l v e in
      let none = no_maker f l (λ b k x g makes. param_ungiven l p.0 p.1 b k x g) in
      let x : None ≡ Some a.0 = sym none ∙ a.1 in cc

  pub holds_begun : Holds f input 0 (begun input)
  holds_begun = record {
    on = refl;
    outer = refl;
    room = omega arith;
    told = begun_told;
    made = (λ l o at e b k x g. let p = begun_param l (Pointer o at) e in absurd (param_ungiven l p.0 p.1 b k x g));
    allocas = (λ l o at a e. absurd (no_alloca l (Pointer o at) e a));
    apart = (λ k l o at to a b e d. absurd (no_alloca k (Pointer o at) e a));
    escaped = (λ o e. absurd (false≢true e));
    before = (λ l b k x g v e. let p = begun_param l v e in absurd (param_ungiven l p.0 p.1 b k x g));
  }

-- an alloca makes one object, and is no phi
alloca_objects : (t : State) (inst : Inst) (d : Deed) → is_alloca inst ≡ true → doing t inst ≡ Does d → length d.objects ≡ 1
alloca_objects t (AllocaInst size head tail) d a e = let objects : Deed → ℕ = λ d. length d.objects in let same = e in sym (ap (λ x. doing_objects x) same) where
  doing_objects : Doing → ℕ
  doing_objects (Does d) = length d.objects
  doing_objects (Waits made) = 1
  doing_objects Fails = 1
alloca_objects t (Gep base offset head index tail) d a e = cc
alloca_objects t (StepInst base offset terms head index tail) d a e = cc
alloca_objects t (Load ty ptr tail) d a e = cc
alloca_objects t (Store ty val ptr tail) d a e = cc
alloca_objects t (Copy to from len head tail) d a e = cc
alloca_objects t (Call callee ret args effects head tail) d a e = cc
alloca_objects t (Bin op flags ty x y tail) d a e = cc
alloca_objects t (Cmp pred flags ty x y tail) d a e = cc
alloca_objects t (Select cond ty x y tail) d a e = cc
alloca_objects t (Cast op flags from x to tail) d a e = cc
alloca_objects t (Phi ty entries tail) d a e = cc

no_alloca_phi : (inst : Inst) → is_alloca inst ≡ true → is_phi inst ≡ true → ⊥
no_alloca_phi (AllocaInst size head tail) a p = cc
no_alloca_phi (Gep base offset head index tail) a p = cc
no_alloca_phi (StepInst base offset terms head index tail) a p = cc
no_alloca_phi (Load ty ptr tail) a p = cc
no_alloca_phi (Store ty val ptr tail) a p = cc
no_alloca_phi (Copy to from len head tail) a p = cc
no_alloca_phi (Call callee ret args effects head tail) a p = cc
no_alloca_phi (Bin op flags ty x y tail) a p = cc
no_alloca_phi (Cmp pred flags ty x y tail) a p = cc
no_alloca_phi (Select cond ty x y tail) a p = cc
no_alloca_phi (Cast op flags from x to tail) a p = cc
no_alloca_phi (Phi ty entries tail) a p = cc

alloca_made : (t : State) (inst : Inst) (o : ℕ) (at : ℤ) → is_alloca inst ≡ true → MadeFrom t inst o at → o ≡ length t.objects
alloca_made t (AllocaInst size head tail) o at a m = m.0
alloca_made t (Gep base offset head index tail) o at a m = cc
alloca_made t (StepInst base offset terms head index tail) o at a m = cc
alloca_made t (Load ty ptr tail) o at a m = cc
alloca_made t (Store ty val ptr tail) o at a m = cc
alloca_made t (Copy to from len head tail) o at a m = cc
alloca_made t (Call callee ret args effects head tail) o at a m = cc
alloca_made t (Bin op flags ty x y tail) o at a m = cc
alloca_made t (Cmp pred flags ty x y tail) o at a m = cc
alloca_made t (Select cond ty x y tail) o at a m = cc
alloca_made t (Cast op flags from x to tail) o at a m = cc
alloca_made t (Phi ty entries tail) o at a m = cc

-- the instruction of a step is the one that gives an alloca its pointer
given_inst : (f : FuncState) (t s : State) (l : LocalNo) (g : Gives f t s l) → is_alloca g.inst.inst ≡ true → inst_of f t ≡ Some g.inst
given_inst f t s l g a =
    ⊎_elim
    (λ (run : (is_phi g.inst.inst ≡ false) × (t.block ≡ s.block) × (t.place ≡ g.place)).
    ap (λ b. slice_get (insts_at f.blocks b) t.place) run.1 ∙ ap (slice_get (insts_at f.blocks s.block)) run.2 ∙ g.found)
    (λ (come : (is_phi g.inst.inst ≡ true) × HasEdge (graph_of f.blocks) t.block s.block). absurd (no_alloca_phi g.inst.inst a come.0))
    g.by

grown : (f : FuncState) (t s : State) → Goes f t s → length t.objects ≤ length s.objects
grown f t s (ran x d e is same) =
    let now : length s.objects ≡ length (with_written t.objects d.writes ++ d.objects) = ap (λ (u : State). length u.objects) same in
    let all = length-append (with_written t.objects d.writes) d.objects in
    let old = written_length t.objects d.writes in
    omega arith
grown f t s (left b locals e edge phis same) = let now : length s.objects ≡ length t.objects = ap (λ (u : State). length u.objects) same in omega arith

alloca_room : (f : FuncState) (t s : State) (l : LocalNo) (g : Gives f t s l) → Goes f t s → is_alloca g.inst.inst ≡ true → length t.objects < length s.objects
alloca_room f t s l g (ran x d e is same) a =
    let two : Some x ≡ Some g.inst = sym e ∙ given_inst f t s l g a in
    let one : g.inst ≡ x = cc in
    let objects = alloca_objects t x.inst d (ap (λ (y : Placed). is_alloca y.inst) (sym one) ∙ a) is in
    let now : length s.objects ≡ length (with_written t.objects d.writes ++ d.objects) = ap (λ (u : State). length u.objects) same in
    let all = length-append (with_written t.objects d.writes) d.objects in
    let old = written_length t.objects d.writes in
    omega arith
alloca_room f t s l g (left b locals e edge phis same) a = let x : None ≡ Some g.inst = sym e ∙ given_inst f t s l g a in cc

module _ (f : FuncState) (input : Input) (fits : IsInput f input) (n : ℕ) (t : State) (h : Holds f input n t) where
  -- a kept pointer's object is known
  pub kept_known : (b k : ℕ) (x : Placed) (inst : Inst) (o : ℕ) → x.inst ≡ inst → slice_get (insts_at f.blocks b) k ≡ Some x → EscapesBy t inst o → IsKnownObject f t o
  kept_known b k x (Call callee ret args effects head tail) o is found (a, there, keeps, (at, value)) =
      let told = operand_told f input fits n t h b k x a.ty a.val o at (found, subst (λ i. Contains (map value_in (operands_of i)) a.val) (sym is) (arg_used args a there)) value in
      known_object f t told.2.base o told.2.denotes
      (λ l same. (
        b,
        k,
        x,
        found,
        subst (λ i. IsKept f i (Alloca l)) (sym is)
            (a, there, keeps, (told.0, told.1, subst (λ c. HasBase f told.0 c) same (root_base f told.2.steps told.0 told.2.root told.2.offset told.2.base told.2.ends told.2.has_base))),
      ))
  kept_known b k x (AllocaInst size head tail) o is found e = absurd e
  kept_known b k x (Gep base offset head index tail) o is found e = absurd e
  kept_known b k x (StepInst base offset terms head index tail) o is found e = absurd e
  kept_known b k x (Load ty ptr tail) o is found e = absurd e
  kept_known b k x (Store ty val ptr tail) o is found e = absurd e
  kept_known b k x (Copy to from len head tail) o is found e = absurd e
  kept_known b k x (Bin op flags ty y z tail) o is found e = absurd e
  kept_known b k x (Cmp pred flags ty y z tail) o is found e = absurd e
  kept_known b k x (Select cond ty y z tail) o is found e = absurd e
  kept_known b k x (Cast op flags from y to tail) o is found e = absurd e
  kept_known b k x (Phi ty entries tail) o is found e = absurd e

module _ (f : FuncState) (input : Input) (fits : IsInput f input) (numbered : IsNumbered f) (once : BeginsOnce f) (n : ℕ) (t s : State) (h : Holds f input n t) (on : IsOn f input (suc n) s) (go : Goes f t s) (keep : Keeps f t s) where
  same_giver : (l : LocalNo) (g : Gives f t s l) (b k : ℕ) (x : Placed) → IsGiver f.blocks l b k x → (s.block ≡ b) × (g.place ≡ k) × (g.inst ≡ x)
  same_giver l g b k x giver =
      let one = numbered.one_giver l s.block g.place b k g.inst x (record { found = g.found; gives = g.result }) giver in
      let two : Some g.inst ≡ Some x = sym g.found ∙ ap (λ c. slice_get (insts_at f.blocks c) g.place) one.0 ∙ ap (slice_get (insts_at f.blocks b)) one.1 ∙ giver.found in
      (one.0, one.1, (let is : g.inst ≡ x = cc in is))

  -- an alloca's pointer comes from the alloca
  is_alloca_there : (l : LocalNo) (o : ℕ) (at : ℤ) (g : Gives f t s l) → s.locals l.0 ≡ Some (Pointer o at) → IsAllocaLocal f l → is_alloca g.inst.inst ≡ true
  is_alloca_there l o at g e a =
      let maker = giver_makes f numbered l s.block g.place g.inst (record { found = g.found; gives = g.result }) (gives_makes f t s l o at g e) in
      let two : Some a.0 ≡ Some (record { block = s.block; inst = g.inst.inst }) = sym a.1 ∙ maker in
      let is : a.0 ≡ record { block = s.block; inst = g.inst.inst } = cc in
      ap (λ (m : Maker). is_alloca m.inst) (sym is) ∙ a.2

  new_object : (l : LocalNo) (o : ℕ) (at : ℤ) (g : Gives f t s l) → s.locals l.0 ≡ Some (Pointer o at) → IsAllocaLocal f l → o ≡ length t.objects
  new_object l o at g e a = alloca_made t g.inst.inst o at (is_alloca_there l o at g e a) (g.from o at e)

  told_s : (l : LocalNo) (o : ℕ) (at : ℤ) → s.locals l.0 ≡ Some (Pointer o at) → Told f s (Local l) o at
  told_s l o at e =
      ⊎_elim
      (λ (was : s.locals l.0 ≡ t.locals l.0). told_later f t s (Local l) o at keep (h.told l o at (sym was ∙ e)))
      (λ (g : Gives f t s l). gives_told f input fits numbered n t s h keep l o at g e)
      (given f t s go l)

  made_s : (l : LocalNo) (o : ℕ) (at : ℤ) → s.locals l.0 ≡ Some (Pointer o at) → (b k : ℕ) (x : Placed) → IsGiver f.blocks l b k x → makes_pointer x.inst ≡ true
  made_s l o at e b k x giver =
      ⊎_elim
      (λ (was : s.locals l.0 ≡ t.locals l.0). h.made l o at (sym was ∙ e) b k x giver)
      (λ (g : Gives f t s l). ap (λ (y : Placed). makes_pointer y.inst) (sym (same_giver l g b k x giver).2) ∙ gives_makes f t s l o at g e)
      (given f t s go l)

  allocas_s : (l : LocalNo) (o : ℕ) (at : ℤ) → IsAllocaLocal f l → s.locals l.0 ≡ Some (Pointer o at) → (s.outer ≤ o) × (o < length s.objects)
  allocas_s l o at a e =
      ⊎_elim
      (λ (was : s.locals l.0 ≡ t.locals l.0).
      let old = h.allocas l o at a (sym was ∙ e) in
      let more = grown f t s go in
      let outer = keep.outer in
      ((let p = old.0 in omega arith), (let p = old.1 in omega arith)))
      (λ (g : Gives f t s l).
      let new = new_object l o at g e a in
      let more = alloca_room f t s l g go (is_alloca_there l o at g e a) in
      let outer = keep.outer in
      let room = h.room in
      (omega arith, omega arith))
      (given f t s go l)

  both_given : (k l : LocalNo) (g : Gives f t s k) (d : Gives f t s l) → is_alloca g.inst.inst ≡ true → is_alloca d.inst.inst ≡ true → k ≡ l
  both_given k l g d a b =
      let two : Some g.inst ≡ Some d.inst = sym (given_inst f t s k g a) ∙ given_inst f t s l d b in
      let is : g.inst ≡ d.inst = cc in
      let results : Some k ≡ Some l = sym g.result ∙ ap (λ (y : Placed). y.result) is ∙ d.result in
      cc

  apart_s : (k l : LocalNo) (o : ℕ) (at to : ℤ) → IsAllocaLocal f k → IsAllocaLocal f l → s.locals k.0 ≡ Some (Pointer o at) → s.locals l.0 ≡ Some (Pointer o to) → k ≡ l
  apart_s k l o at to a b e d = by_cases (given f t s go k) (given f t s go l) where
    by_cases : (s.locals k.0 ≡ t.locals k.0) ⊎ Gives f t s k → (s.locals l.0 ≡ t.locals l.0) ⊎ Gives f t s l → k ≡ l
    by_cases (inl was) (inl same) = h.apart k l o at to a b (sym was ∙ e) (sym same ∙ d)
    by_cases (inl was) (inr g) = let old = (h.allocas k o at a (sym was ∙ e)).1 in let new = new_object l o to g d b in absurd (let x : o < o = omega arith in omega arith)
    by_cases (inr g) (inl was) = let old = (h.allocas l o to b (sym was ∙ d)).1 in let new = new_object k o at g e a in absurd (let x : o < o = omega arith in omega arith)
    by_cases (inr g) (inr c) = both_given k l g c (is_alloca_there k o at g e a) (is_alloca_there l o to c d b)

  escaped_t : (o : ℕ) → Goes f t s → s.escaped o ≡ true → IsKnownObject f t o
  escaped_t o (ran x d e is same) esc =
      ⊎_elim
      (λ (was : t.escaped o ≡ true). h.escaped o was)
      (λ (by : EscapesBy t x.inst o). kept_known f input fits n t h t.block t.place x x.inst o refl e by)
      (escaped_from t x.inst d o is (sym (ap (λ (u : State). u.escaped o) same) ∙ esc))
  escaped_t o (left b locals e edge phis same) esc = h.escaped o (sym (ap (λ (u : State). u.escaped o) same) ∙ esc)

  before_s : (l : LocalNo) (b k : ℕ) (x : Placed) → IsGiver f.blocks l b k x → (v : Value) → s.locals l.0 ≡ Some v → RanBefore f input (suc n) b k x
  before_s l b k x giver v e = by_cases (given f t s go l) where
    later : RanBefore f input n b k x → RanBefore f input (suc n) b k x
    later (m, u, there, block, inl was) = (m, u, there, block, inl ((let p = was.0 in omega arith), was.1))
    later (m, u, there, block, inr was) = (m, u, there, block, inr ((let p = was.0 in omega arith), was.1))

    by_step : (g : Gives f t s l) → ((is_phi g.inst.inst ≡ false) × (t.block ≡ s.block) × (t.place ≡ g.place)) ⊎ ((is_phi g.inst.inst ≡ true) × HasEdge (graph_of f.blocks) t.block s.block) → RanBefore f input (suc n) b k x
    by_step g (inl run) = let one = same_giver l g b k x giver in (n, t, h.on, run.1 ∙ one.0, inl (omega arith, run.2 ∙ one.1))
    by_step g (inr come) = let one = same_giver l g b k x giver in (suc n, s, on, one.0, inr (omega arith, ap (λ (y : Placed). is_phi y.inst) (sym one.2) ∙ come.0))

    by_cases : (s.locals l.0 ≡ t.locals l.0) ⊎ Gives f t s l → RanBefore f input (suc n) b k x
    by_cases (inl was) = later (h.before l b k x giver v (sym was ∙ e))
    by_cases (inr g) = by_step g g.by

  holds_step : Holds f input (suc n) s
  holds_step = record {
    on = on;
    outer = sym keep.outer ∙ h.outer;
    room = (let outer = keep.outer in let room = h.room in let more = grown f t s go in omega arith);
    told = told_s;
    made = made_s;
    allocas = allocas_s;
    apart = apart_s;
    escaped = (λ o e. known_later f t s o keep (escaped_t o go e));
    before = before_s;
  }

module _ (f : FuncState) (input : Input) (fits : IsInput f input) (numbered : IsNumbered f) (once : BeginsOnce f) where
  pub holds : (n : ℕ) (s : State) → IsOn f input n s → Holds f input n s
  holds zero s on = let same : begun input ≡ s = (let e : On (begun input) ≡ On s = on in cc) in subst (λ u. Holds f input zero u) same (holds_begun f input fits numbered)
  holds (suc n) s on =
      let u = before f input n s on in
      let h = holds n u.0 u.1 in
      let go = goes f u.0 s u.2 in
      holds_step f input fits numbered once n u.0 s h on go (keeps_step f input n u.0 s numbered once h go)

  keeps_by : (m n : ℕ) (t s : State) → IsOn f input m t → IsOn f input n s → (m ≡ n) → Keeps f t s
  keeps_by m n t s p q e = subst (λ u. Keeps f t u) (one_state f input n t s (subst (λ k. IsOn f input k t) e p) q) (keeps_none f t)

  -- fixed pointers stay from a moment to each later one
  pub keeps : (m n : ℕ) (t s : State) → m ≤ n → IsOn f input m t → IsOn f input n s → Keeps f t s
  keeps m zero t s le p q = keeps_by m zero t s p q (omega arith)
  keeps m (suc n) t s le p q =
      ⊎_elim
      (λ (e : m ≡ suc n). keeps_by m (suc n) t s p q e)
      (λ (l : m ≤ n).
      let u = before f input n s q in
      keeps_both f t u.0 s (keeps m n t u.0 l p u.1) (keeps_step f input n u.0 s numbered once (holds n u.0 u.1) (goes f u.0 s u.2)))
      (split m n le)
