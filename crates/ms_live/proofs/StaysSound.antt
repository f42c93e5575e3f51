-- A sound function without some instructions that give no result is sound.
use Rattle.std.proofs.Common.{◌≡◌, ◌∙◌, ◌<◌, ◌≤◌, ℕ, zero, suc, ℤ, Bool, true, false, List, [], ◌∷◌, length, map, take, Option, Some, None, refl, sym, ap, subst, inl, inr, ⊎_elim, arith}
use Rattle.std.specs.Prelude.{Contains, slice_get, filter, nat_lt, is_some}
use Rattle.std.proofs.lemmas.Bool.{cases_Bool, true≢false}
use Rattle.std.proofs.lemmas.Bool.Decides.{nat_tests}
use Rattle.std.proofs.lemmas.List.{length-map}
use Rattle.ms_paths.specs.Flow.{Block as Run, block_at, HasEdge, IsPath, IsMet, IsClosed, IsReducible}
use Rattle.ms_ir.specs.declared.names.Ty.{Ty}
use Rattle.ms_ir.specs.declared.names.LocalNo.{LocalNo}
use Rattle.ms_ir.specs.declared.inst.Val.{Val}
use Rattle.ms_ir.specs.declared.inst.Val.TheVariants.{Num, Local, Global}
use Rattle.ms_ir.specs.declared.inst.Entry.{Entry}
use Rattle.ms_ir.specs.declared.inst.Inst.{Inst}
use Rattle.ms_ir.specs.declared.inst.Inst.TheVariants.{Alloca, Gep, Step, Load, Store, Copy, Call, Bin, Cmp, Select, Cast, Phi}
use Rattle.ms_ir.specs.declared.inst.Term.{Term}
use Rattle.ms_ir.specs.Func.{Placed, Block, FuncState, insts_at}
use Rattle.ms_ir.specs.Graph.{graph_of, successors, numbers}
use Rattle.ms_ir.specs.Inst.{has_result}
use Rattle.ms_ir.specs.Locals.{HasType, IsGiver, IsNumbered}
use Rattle.ms_ir.specs.Uses.{Operand, Use, operands_of, term_operands, used_at, entry_use, uses_at, term_uses_at}
use Rattle.ms_ir.specs.Sound.{IsUsedBefore, edges_between, times_in, HasBadEntries}
use Rattle.ms_ir.specs.SoundFunc.{IsValueIn, AreValues, AreBehind, IsAmongPhis, IsSoundInst, IsSoundTerm, IsSoundFunc}
use Rattle.ms_flow.specs.Table.{edges_of, run_to}
use Rattle.ms_flow.proofs.Tables.{length-graph_of}
use Rattle.ms_flow.proofs.Same.{edges_same, paths_same, reducible_same}
use Rattle.ms_alias.specs.declared.loc.Root.{Root}
use Rattle.ms_alias.specs.Reaches.{Span, IsWritten}
use Rattle.ms_meaning.proofs.LastEvents.{events_at}
use Rattle.ms_live.specs.Dead.{IsDead, is_kept, kept_in, kept_before, dse}
use Rattle.ms_live.proofs.Kept.{one_inst, insts_kept, term_kept, kept_at, first_kept, first_left, count_kept, count_left}
use Rattle.ms_live.proofs.Taken.{Stood, stood_in}

-- a use at a place of the function, and the same use at its place among what is kept
pub record IsMoved (dead : ℕ → Bool) (blocks : List Block) (old new : Use) : Type 0 where
  pub block : new.block ≡ old.block
  pub place : new.place ≡ kept_before dead old.place (insts_at blocks old.block)
  pub val : new.val ≡ old.val

-- ---- lists

module _ (dead : ℕ → Bool) where
  -- before a later place at least as many are kept
  count_up : (xs : List Placed) (i n : ℕ) → i ≤ n → kept_before dead i xs ≤ kept_before dead n xs
  count_up xs zero n le = omega arith
  count_up [] (suc i) n le = omega arith
  count_up (x ∷ xs) (suc i) zero le = absurd (omega arith)
  count_up (x ∷ xs) (suc i) (suc n) le =
      let rest = count_up xs i n (omega arith) in
      ⊎_elim
      (λ (t : dead x.number ≡ true). let a = count_left dead i x xs t in let b = count_left dead n x xs t in omega arith)
      (λ (k : dead x.number ≡ false). let a = count_kept dead i x xs k in let b = count_kept dead n x xs k in omega arith)
      (cases_Bool (dead x.number))

  count_all : (xs : List Placed) → length (filter (is_kept dead) xs) ≡ kept_before dead (length xs) xs
  count_all [] = refl
  count_all (x ∷ xs) =
      ⊎_elim
      (λ (t : dead x.number ≡ true). ap length (first_left dead x xs t) ∙ count_all xs ∙ sym (count_left dead (length xs) x xs t))
      (λ (k : dead x.number ≡ false). ap length (first_kept dead x xs k) ∙ ap suc (count_all xs) ∙ sym (count_kept dead (length xs) x xs k))
      (cases_Bool (dead x.number))

  module _ (n : ℕ) (kept : dead n ≡ false) where
    none_in : {A : Type 0} (is : List ℕ) → is ≡ [] → Contains is n → A
    none_in is e c = let h = subst (λ (zs : List ℕ). Contains zs n) e c in absurd (let lt : h.0 < 0 = h.1 in omega arith)

    -- a number that is kept stands among the first of what is kept where it stood among the first
    before_kept : (xs : List Placed) (k : ℕ) → Contains (take k (numbers xs)) n → Contains (take (kept_before dead k xs) (numbers (filter (is_kept dead) xs))) n
    before_kept xs zero c = none_in (take 0 (numbers xs)) refl c
    before_kept [] (suc k) c = none_in (take (suc k) (numbers [])) refl c
    before_kept (x ∷ xs) (suc k) c =
        ⊎_elim
        (λ (t : dead x.number ≡ true).
        subst (λ m. Contains (take m (numbers (filter (is_kept dead) (x ∷ xs)))) n) (sym (count_left dead k x xs t))
        (subst (λ ys. Contains (take (kept_before dead k xs) (numbers ys)) n) (sym (first_left dead x xs t)) (behind (before_kept xs k) t c)))
        (λ (f : dead x.number ≡ false).
        subst (λ m. Contains (take m (numbers (filter (is_kept dead) (x ∷ xs)))) n) (sym (count_kept dead k x xs f))
        (subst (λ ys. Contains (take (suc (kept_before dead k xs)) (numbers ys)) n) (sym (first_kept dead x xs f)) (with_first (before_kept xs k) c)))
        (cases_Bool (dead x.number)) where
          behind : (Contains (take k (numbers xs)) n → Contains (take (kept_before dead k xs) (numbers (filter (is_kept dead) xs))) n) →
              dead x.number ≡ true → Contains (x.number ∷ take k (numbers xs)) n → Contains (take (kept_before dead k xs) (numbers (filter (is_kept dead) xs))) n
          behind rest t (zero, lt, is) = let one : x.number ≡ n = is in let never : true ≡ false = sym t ∙ ap dead one ∙ kept in cc
          behind rest t (suc i, lt, is) = rest (i, (let l : suc i < suc (length (take k (numbers xs))) = lt in omega arith), is)

          with_first : (Contains (take k (numbers xs)) n → Contains (take (kept_before dead k xs) (numbers (filter (is_kept dead) xs))) n) →
              Contains (x.number ∷ take k (numbers xs)) n → Contains (x.number ∷ take (kept_before dead k xs) (numbers (filter (is_kept dead) xs))) n
          with_first rest (zero, lt, is) = (zero, omega arith, is)
          with_first rest (suc i, lt, is) =
              let r = rest (i, (let l : suc i < suc (length (take k (numbers xs))) = lt in omega arith), is) in
              (suc r.0, (let l = r.1 in omega arith), r.2)

    among_kept : (xs : List Placed) → Contains (numbers xs) n → Contains (numbers (filter (is_kept dead) xs)) n
    among_kept [] c = none_in (numbers []) refl c
    among_kept (x ∷ xs) c =
        ⊎_elim
        (λ (t : dead x.number ≡ true). subst (λ ys. Contains (numbers ys) n) (sym (first_left dead x xs t)) (behind (among_kept xs) t c))
        (λ (f : dead x.number ≡ false). subst (λ ys. Contains (numbers ys) n) (sym (first_kept dead x xs f)) (with_first (among_kept xs) c))
        (cases_Bool (dead x.number)) where
          behind : (Contains (numbers xs) n → Contains (numbers (filter (is_kept dead) xs)) n) → dead x.number ≡ true → Contains (x.number ∷ numbers xs) n → Contains (numbers (filter (is_kept dead) xs)) n
          behind rest t (zero, lt, is) = let one : x.number ≡ n = is in let never : true ≡ false = sym t ∙ ap dead one ∙ kept in cc
          behind rest t (suc i, lt, is) = rest (i, (let l : suc i < suc (length (numbers xs)) = lt in omega arith), is)

          with_first : (Contains (numbers xs) n → Contains (numbers (filter (is_kept dead) xs)) n) → Contains (x.number ∷ numbers xs) n → Contains (x.number ∷ numbers (filter (is_kept dead) xs)) n
          with_first rest (zero, lt, is) = (zero, omega arith, is)
          with_first rest (suc i, lt, is) =
              let r = rest (i, (let l : suc i < suc (length (numbers xs)) = lt in omega arith), is) in
              (suc r.0, (let l = r.1 in omega arith), r.2)

edges_kept : (dead : ℕ → Bool) (blocks : List Block) → edges_of (map (kept_in dead) blocks) ≡ edges_of blocks
edges_kept dead [] = refl
edges_kept dead (b ∷ blocks) = ap (λ es. run_to (successors b.term) ∷ es) (edges_kept dead blocks)

-- the block of one that is left
block_before : (dead : ℕ → Bool) (blocks : List Block) (b : ℕ) (new : Block) → slice_get (map (kept_in dead) blocks) b ≡ Some new → (x : Block) × (slice_get blocks b ≡ Some x) × (x.term ≡ new.term)
block_before dead [] b new e = cc
block_before dead (x ∷ blocks) zero new e = let one : kept_in dead x ≡ new = cc in (x, refl, ap (λ (c : Block). c.term) one)
block_before dead (x ∷ blocks) (suc b) new e = block_before dead blocks b new e

-- what is used in two ways is one use that is moved
moved_in : {A : Type 0} (dead : ℕ → Bool) (blocks : List Block) (F G : A → Use) → ((x : A) → IsMoved dead blocks (F x) (G x)) → (xs : List A) (u : Use) → Contains (map G xs) u →
    (v : Use) × Contains (map F xs) v × IsMoved dead blocks v u
moved_in dead blocks F G all [] u (i, lt, is) = absurd (let l : i < 0 = lt in omega arith)
moved_in dead blocks F G all (x ∷ xs) u (zero, lt, is) = (F x, (zero, omega arith, refl), subst (λ (w : Use). IsMoved dead blocks (F x) w) is (all x))
moved_in dead blocks F G all (x ∷ xs) u (suc i, lt, is) =
    let r = moved_in dead blocks F G all xs u (i, (let l : suc i < suc (length (map G xs)) = lt in omega arith), is) in
    (r.0, (suc r.1.0, (let l = r.1.1 in omega arith), r.1.2), r.2)

-- ---- dead stores

-- a store or memcpy gives no result
spans_give_none : (f : FuncState) (inst : Inst) (r : Root) (from : ℤ) (len : ℕ) → IsWritten f inst (Span r from len) → has_result inst ≡ false
spans_give_none f (Store ty val ptr tail) r from len w = refl
spans_give_none f (Copy to source size head tail) r from len w = refl
spans_give_none f (Call callee ret args effects head tail) r from len w = cc
spans_give_none f inst r from len w = absurd w

none_given : (o : Option LocalNo) → is_some o ≡ false → o ≡ None
none_given None e = refl
none_given (Some l) e = absurd (true≢false e)

dead_give_none : (f : FuncState) (dead : ℕ → Bool) → IsNumbered f → ((i : ℕ) → dead i ≡ true → IsDead f i) → (b k : ℕ) (x : Placed) → slice_get (insts_at f.blocks b) k ≡ Some x → dead x.number ≡ true → x.result ≡ None
dead_give_none f dead numbered all b k x found gone =
    let h = all x.number gone in
    let same = (one_inst f numbered h.block h.place b k h.inst x h.there.found found h.there.numbered).2 in
    none_given x.result (numbered.gives b k x found ∙ spans_give_none f x.inst h.root h.from h.len (subst (λ (z : Placed). IsWritten f z.inst (Span h.root h.from h.len)) same h.writes))

-- ---- the function

module _ (f : FuncState) (dead : ℕ → Bool) (none : (b k : ℕ) (x : Placed) → slice_get (insts_at f.blocks b) k ≡ Some x → dead x.number ≡ true → x.result ≡ None) where
  abbrev g : FuncState
  g = dse f dead

  -- ---- the graph
  edge_stays : (a b : ℕ) → HasEdge (graph_of g.blocks) a b → HasEdge (graph_of f.blocks) a b
  edge_stays a b e = (edges_same f.blocks a b).0 (subst (λ (h : List Run). HasEdge h a b) (edges_kept dead f.blocks) ((edges_same g.blocks a b).1 e))

  path_stays : (b : ℕ) (p : List ℕ) → IsPath (graph_of g.blocks) b p → IsPath (graph_of f.blocks) b p
  path_stays b p e = (paths_same f.blocks b p).0 (subst (λ (h : List Run). IsPath h b p) (edges_kept dead f.blocks) ((paths_same g.blocks b p).1 e))

  size_stays : length (graph_of g.blocks) ≡ length (graph_of f.blocks)
  size_stays = length-graph_of g.blocks ∙ length-map f.blocks (kept_in dead) ∙ sym (length-graph_of f.blocks)

  closed_stays : IsClosed (graph_of f.blocks) → IsClosed (graph_of g.blocks)
  closed_stays h = record {
    has_entry = subst (λ n. 0 < n) (sym size_stays) h.has_entry;
    edges_in = λ a b e. subst (λ n. b < n) (sym size_stays) (h.edges_in a b (edge_stays a b e));
  }

  reducible_stays : IsReducible (graph_of f.blocks) → IsReducible (graph_of g.blocks)
  reducible_stays h = (reducible_same g.blocks).0 (subst (λ (r : List Run). IsReducible r) (sym (edges_kept dead f.blocks)) ((reducible_same f.blocks).1 h))

  -- ---- values
  giver_kept : (l : LocalNo) (b k : ℕ) (x : Placed) → IsGiver f.blocks l b k x → dead x.number ≡ false
  giver_kept l b k x h =
      ⊎_elim
      (λ (t : dead x.number ≡ true). let never : None ≡ Some l = sym (none b k x h.found t) ∙ h.gives in cc)
      (λ (n : dead x.number ≡ false). n)
      (cases_Bool (dead x.number))

  type_stays : (l : LocalNo) (ty : Ty) → HasType f l ty → HasType g l ty
  type_stays l ty (inl param) = inl param
  type_stays l ty (inr (b, k, x, giver, is)) = inr (
    b,
    kept_before dead k (insts_at f.blocks b),
    x,
    record {
      found = ap (λ ys. slice_get ys (kept_before dead k (insts_at f.blocks b))) (insts_kept dead f.blocks b) ∙ kept_at dead k (insts_at f.blocks b) x giver.found (giver_kept l b k x giver);
      gives = giver.gives;
    },
    is,
  )

  value_stays : (ty : Ty) (v : Val) → IsValueIn f ty v → IsValueIn g ty v
  value_stays ty (Num own n) h = h
  value_stays ty (Local l) h = type_stays l ty h
  value_stays ty (Global k) h = h

  values_stay : (operands : List Operand) → AreValues f operands → AreValues g operands
  values_stay operands h = λ o c. value_stays o.ty o.val (h o c)

  -- ---- places
  -- what stands before stood before
  stood_before : (b j k : ℕ) (x y : Placed) (u : Stood dead (insts_at f.blocks b) j x) (v : Stood dead (insts_at f.blocks b) k y) → j < k → u.place < v.place
  stood_before b j k x y u v lt =
      ⊎_elim
      (λ (t : nat_lt u.place v.place ≡ true). grind (arith, nat_tests))
      (λ (n : nat_lt u.place v.place ≡ false).
      let le : v.place ≤ u.place = grind (arith, nat_tests) in
      let more = count_up dead (insts_at f.blocks b) v.place u.place le in
      let c = u.count in
      let d = v.count in
      absurd (omega arith))
      (cases_Bool (nat_lt u.place v.place))

  phis_before : (b k : ℕ) (x : Placed) (u : Stood dead (insts_at f.blocks b) k x) → IsAmongPhis f.blocks b u.place → IsAmongPhis g.blocks b k
  phis_before b k x u h j y lt e = let v = stood_in f dead b j y e in h v.place y (stood_before b j k y x v u lt) v.found

  between_stays : (a b : ℕ) → edges_between g.blocks a b ≡ edges_between f.blocks a b
  between_stays a b = ap (λ (t : Term). times_in b (successors t)) (term_kept dead f.blocks a)

  entries_back : (b : ℕ) (inst : Inst) → HasBadEntries g.blocks b inst → HasBadEntries f.blocks b inst
  entries_back b (Phi ty entries tail) (inl (a, other)) = inl (a, λ e. other (e ∙ sym (between_stays a b)))
  entries_back b (Phi ty entries tail) (inr two) = inr two
  entries_back b inst h = absurd h

  -- ---- uses
  end_stays : (b : ℕ) → length (insts_at g.blocks b) ≡ kept_before dead (length (insts_at f.blocks b)) (insts_at f.blocks b)
  end_stays b = ap length (insts_kept dead f.blocks b) ∙ count_all dead (insts_at f.blocks b)

  used_moved : (b k : ℕ) (o : Operand) → IsMoved dead f.blocks (used_at b k o) (used_at b (kept_before dead k (insts_at f.blocks b)) o)
  used_moved b k o = record { block = refl; place = refl; val = refl }

  entry_moved : (e : Entry) → IsMoved dead f.blocks (entry_use f.blocks e) (entry_use g.blocks e)
  entry_moved e = record { block = refl; place = end_stays e.from.0; val = refl }

  abbrev WasUsed : List Use → Use → Type 0
  WasUsed uses u = (v : Use) × Contains uses v × IsMoved dead f.blocks v u

  operands_used : (b k : ℕ) (os : List Operand) (u : Use) → Contains (map (used_at b (kept_before dead k (insts_at f.blocks b))) os) u → WasUsed (map (used_at b k) os) u
  operands_used b k = moved_in dead f.blocks (used_at b k) (used_at b (kept_before dead k (insts_at f.blocks b))) (used_moved b k)

  inst_used : (b k : ℕ) (inst : Inst) (u : Use) → Contains (uses_at g.blocks b (kept_before dead k (insts_at f.blocks b)) inst) u → WasUsed (uses_at f.blocks b k inst) u
  inst_used b k (Phi ty entries tail) = moved_in dead f.blocks (entry_use f.blocks) (entry_use g.blocks) entry_moved entries
  inst_used b k (Alloca size head tail) = operands_used b k (operands_of (Alloca size head tail))
  inst_used b k (Gep base offset head index tail) = operands_used b k (operands_of (Gep base offset head index tail))
  inst_used b k (Step base offset terms head index tail) = operands_used b k (operands_of (Step base offset terms head index tail))
  inst_used b k (Load ty ptr tail) = operands_used b k (operands_of (Load ty ptr tail))
  inst_used b k (Store ty val ptr tail) = operands_used b k (operands_of (Store ty val ptr tail))
  inst_used b k (Copy to from len head tail) = operands_used b k (operands_of (Copy to from len head tail))
  inst_used b k (Call callee ret args effects head tail) = operands_used b k (operands_of (Call callee ret args effects head tail))
  inst_used b k (Bin op flags ty x y tail) = operands_used b k (operands_of (Bin op flags ty x y tail))
  inst_used b k (Cmp pred flags ty x y tail) = operands_used b k (operands_of (Cmp pred flags ty x y tail))
  inst_used b k (Select c ty x y tail) = operands_used b k (operands_of (Select c ty x y tail))
  inst_used b k (Cast op flags from x to tail) = operands_used b k (operands_of (Cast op flags from x to tail))

  term_used : (b : ℕ) (term : Term) (u : Use) → Contains (term_uses_at g.blocks b term) u → WasUsed (term_uses_at f.blocks b term) u
  term_used b term u c =
      operands_used b (length (insts_at f.blocks b)) (term_operands term) u (subst (λ n. Contains (map (used_at b n) (term_operands term)) u) (end_stays b) c)

  events_kept : (b : ℕ) → (block_at (graph_of g.blocks) b).events ≡ numbers (filter (is_kept dead) (insts_at f.blocks b))
  events_kept b = events_at g.blocks b ∙ ap numbers (insts_kept dead f.blocks b)

  -- a path still meets what is kept
  met_still : (n : ℕ) → dead n ≡ false → (b k : ℕ) (p : List ℕ) → IsMet (graph_of f.blocks) n b k p → IsMet (graph_of g.blocks) n b (kept_before dead k (insts_at f.blocks b)) p
  met_still n kept b k p (inl here) =
      inl (subst (λ is. Contains (take (kept_before dead k (insts_at f.blocks b)) is) n) (sym (events_kept b))
      (before_kept dead n kept (insts_at f.blocks b) k (subst (λ is. Contains (take k is) n) (events_at f.blocks b) here)))
  met_still n kept b k p (inr (a, on, there)) =
      inr (a, on, subst (λ is. Contains is n) (sym (events_kept a)) (among_kept dead n kept (insts_at f.blocks a) (subst (λ is. Contains is n) (events_at f.blocks a) there)))

  used_before : (u v : Use) → IsMoved dead f.blocks v u → IsUsedBefore g u → IsUsedBefore f v
  used_before u v moved (path, h) =
      let s = stood_in f dead h.block h.place h.giver h.gives.found in (
        path,
        record {
          local = h.local;
          is_local = sym moved.val ∙ h.is_local;
          block = h.block;
          place = s.place;
          giver = h.giver;
          gives = record { found = s.found; gives = h.gives.gives };
          path_is = subst (λ b. IsPath (graph_of f.blocks) b path) moved.block (path_stays u.block path h.path_is);
          not_met = λ met. h.not_met
              (subst (λ b. IsMet (graph_of g.blocks) h.giver.number b u.place path) (sym moved.block)
              (subst (λ k. IsMet (graph_of g.blocks) h.giver.number v.block k path) (sym moved.place) (met_still h.giver.number s.kept v.block v.place path met)));
        },
      )

  behind_still : (old new : List Use) → ((u : Use) → Contains new u → WasUsed old u) → AreBehind f old → AreBehind g new
  behind_still old new was h u c bad = let v = was u c in h v.0 v.1 (used_before u v.0 v.2 bad)

  -- ---- instructions, terminators
  inst_sound : (b k : ℕ) (x : Placed) (u : Stood dead (insts_at f.blocks b) k x) → IsSoundInst f b u.place x.inst → IsSoundInst g b k x.inst
  inst_sound b k x u h = record {
    types = h.types;
    operands = values_stay (operands_of x.inst) h.operands;
    alloca = h.alloca;
    phi = λ is. phis_before b k x u (h.phi is);
    entered = h.entered;
    entries = λ bad. h.entries (entries_back b x.inst bad);
    uses = behind_still (uses_at f.blocks b u.place x.inst) (uses_at g.blocks b k x.inst)
        (λ v c. inst_used b u.place x.inst v (subst (λ n. Contains (uses_at g.blocks b n x.inst) v) (sym u.count) c)) h.uses;
  }

  term_sound : (b : ℕ) (term : Term) → IsSoundTerm f b term → IsSoundTerm g b term
  term_sound b term h = record {
    types = h.types;
    operands = values_stay (term_operands term) h.operands;
    targets = h.targets;
    uses = behind_still (term_uses_at f.blocks b term) (term_uses_at g.blocks b term) (term_used b term) h.uses;
  }

  sound_without : IsSoundFunc f → IsSoundFunc g
  sound_without h = record {
    closed = closed_stays h.closed;
    insts = λ b k x e. let u = stood_in f dead b k x e in inst_sound b k x u (h.insts b u.place x u.found);
    terms = λ b new e. let old = block_before dead f.blocks b new e in subst (λ (t : Term). IsSoundTerm g b t) old.2 (term_sound b old.0.term (h.terms b old.0 old.1));
    reducible = reducible_stays h.reducible;
  }

pub stays_sound : (f : FuncState) (dead : ℕ → Bool) → IsNumbered f → IsSoundFunc f → ((i : ℕ) → dead i ≡ true → IsDead f i) → IsSoundFunc (dse f dead)
stays_sound f dead numbered sound all = sound_without f dead (dead_give_none f dead numbered all) sound
