-- An edge is cut.
use Rattle.std.proofs.Common.{◌≡◌, ◌∙◌, ◌<◌, ◌⊎◌, ◌+◌, ◌^◌, ℕ, zero, suc, Bool, true, false, List, [], ◌∷◌, length, get_or, map, Option, Some, None, refl, sym, ap, subst, inl, inr, arith, length-set}
use Rattle.std.specs.Prelude.{Contains, slice_get, option_map, is_some, if◌then◌else◌, ◌==◌}
use Rattle.std.proofs.lemmas.Bool.{cases_Bool, cases_eq, cases_lt, true≢false}
use Rattle.std.proofs.lemmas.List.{length-map}
use Rattle.std.proofs.lemmas.Option.{slice_get-get_or, get_or_from_slice_get}
use Rattle.ms_paths.specs.Flow.{IsMet}
use Rattle.ms_ir.specs.declared.names.BlockNo.{BlockNo}
use Rattle.ms_ir.specs.declared.names.LocalNo.{LocalNo}
use Rattle.ms_ir.specs.declared.inst.Entry.{Entry}
use Rattle.ms_ir.specs.declared.inst.Inst.{Inst}
use Rattle.ms_ir.specs.declared.inst.Inst.TheVariants.{Phi}
use Rattle.ms_ir.specs.declared.inst.Term.{Term}
use Rattle.ms_ir.specs.declared.inst.Term.TheVariants.{Br, CondBr, Ret, Unreachable}
use Rattle.ms_ir.specs.declared.inst.Edit.TheVariants.{Unlink}
use Rattle.ms_ir.specs.declared.faults.EditFault.TheVariants as fault
use Rattle.ms_ir.specs.Inst.{has_result}
use Rattle.ms_ir.specs.Func.{Placed, Block, FuncState, insts_at, no_block, with_insts}
use Rattle.ms_ir.specs.Changes.{IsCondBr, kept_target, cut_target, placed_without, without_first, inst_without, with_entry_lost, with_term, with_edge_cut}
use Rattle.ms_ir.specs.Graph.{graph_of, successors}
use Rattle.ms_ir.specs.Locals.{IsGiver, IsNumbered}
use Rattle.ms_ir.specs.Types.{is_phi, has_entry}
use Rattle.ms_ir.specs.Uses.{Operand, Use, operands_of, term_operands, used_at, entry_use, uses_at, term_uses_at}
use Rattle.ms_ir.specs.Sound.{IsUsedBefore, LeadsToFirst, HasBadEntries, edges_between, times_in, from_of}
use Rattle.ms_ir.specs.SoundFunc.{AreValues, IsSoundFunc}
use Rattle.ms_ir.specs.Edits.{edited, term_at, IsFaultless, IsUseIn}
use Rattle.ms_edited.proofs.Places.{term_stays}
use Rattle.ms_edited.proofs.Shape.{PartIsReducible, HasNoOtherEdge, IsGivenStill, IsShaped, IsShapedTerm, path_within, same_values, old_block, sound_by}
use Rattle.ms_edited.proofs.OnPaths.{met_stands, stands_met}
use Rattle.ms_edited.proofs.Faults.{block_in}
use Rattle.ms_edited.proofs.Lost.{lost, lost_at, lost_inst, lost_cases, lost_types, lost_alloca, lost_phi, lost_result, lost_type, lost_operands, lost_uses, lost_other, lost_one, two_without, times_one, times_none, times_first, same_number, no_entry}

-- ---- terminators

-- of the two targets one is kept and one is cut
record AreTargets (term : Term) (kept cut : BlockNo) : Type 0 where
  pub times : (c : ℕ) → times_in c (successors term) ≡ times_in c (kept.0 ∷ []) + times_in c (cut.0 ∷ [])
  pub keeps : (c : ℕ) → Contains (kept.0 ∷ []) c → Contains (successors term) c

two_ways : (b : Bool) (x y : BlockNo) (c : ℕ) → times_in c (x.0 ∷ y.0 ∷ []) ≡ times_in c ((if b then y else x).0 ∷ []) + times_in c ((if b then x else y).0 ∷ [])
two_ways true x y c = (let e = times_first c x.0 (y.0 ∷ []) in omega (arith, e))
two_ways false x y c = times_first c x.0 (y.0 ∷ [])

either_way : (b : Bool) (x y : BlockNo) (c : ℕ) → Contains ((if b then y else x).0 ∷ []) c → Contains (x.0 ∷ y.0 ∷ []) c
either_way true x y c (zero, lt, is) = (suc zero, omega arith, is)
either_way false x y c (zero, lt, is) = (zero, omega arith, is)
either_way true x y c (suc k, lt, is) = absurd (let l : suc k < 1 = lt in omega arith)
either_way false x y c (suc k, lt, is) = absurd (let l : suc k < 1 = lt in omega arith)

targets_of : (term : Term) (slot : ℕ) → IsCondBr term → AreTargets term (kept_target term slot) (cut_target term slot)
targets_of (CondBr cond x y text) slot h = record { times = two_ways (slot == 0) x y; keeps = either_way (slot == 0) x y }
targets_of (Br to text) slot h = absurd h
targets_of (Ret given text) slot h = absurd h
targets_of (Unreachable text) slot h = absurd h

cond_or_not : (term : Term) → IsCondBr term ⊎ (IsCondBr term → ⊥)
cond_or_not (CondBr cond x y text) = inl tt
cond_or_not (Br to text) = inr (λ h. h)
cond_or_not (Ret given text) = inr (λ h. h)
cond_or_not (Unreachable text) = inr (λ h. h)

-- ---- blocks with another terminator

term_keeps : (blocks : List Block) (b : ℕ) (t : Term) (c : ℕ) → insts_at (with_term blocks b t) c ≡ insts_at blocks c
term_keeps [] b t c = refl
term_keeps (x ∷ blocks) zero t zero = refl
term_keeps (x ∷ blocks) zero t (suc c) = refl
term_keeps (x ∷ blocks) (suc b) t zero = refl
term_keeps (x ∷ blocks) (suc b) t (suc c) = term_keeps blocks b t c

term_here : (blocks : List Block) (b : ℕ) (t : Term) → b < length blocks → term_at (with_term blocks b t) b ≡ t
term_here [] b t lt = absurd (omega arith)
term_here (x ∷ blocks) zero t lt = refl
term_here (x ∷ blocks) (suc b) t lt = term_here blocks b t (omega arith)

term_there : (blocks : List Block) (b : ℕ) (t : Term) (c : ℕ) → (c ≡ b → ⊥) → term_at (with_term blocks b t) c ≡ term_at blocks c
term_there [] b t c ne = refl
term_there (x ∷ blocks) zero t zero ne = absurd (ne refl)
term_there (x ∷ blocks) zero t (suc c) ne = refl
term_there (x ∷ blocks) (suc b) t zero ne = refl
term_there (x ∷ blocks) (suc b) t (suc c) ne = term_there blocks b t c (λ e. ne (ap suc e))

-- what is there behind a change was there before
from_map : (F : Placed → Placed) (o : Option Placed) (z : Placed) → option_map F o ≡ Some z → (x : Placed) × (o ≡ Some x) × (F x ≡ z)
from_map F None z e = cc
from_map F (Some x) z e = let one : F x ≡ z = cc in (x, refl, one)

lost_size : (blocks : List Block) (at from c : ℕ) → length (insts_at (with_entry_lost blocks at from) c) ≡ length (insts_at blocks c)
lost_size [] at from c = refl
lost_size (x ∷ blocks) zero from zero = length-map x.insts (placed_without from)
lost_size (x ∷ blocks) zero from (suc c) = refl
lost_size (x ∷ blocks) (suc at) from zero = refl
lost_size (x ∷ blocks) (suc at) from (suc c) = lost_size blocks at from c

same_map : {A B : Type 0} (F G : A → B) → ((x : A) → F x ≡ G x) → (xs : List A) → map F xs ≡ map G xs
same_map F G same [] = refl
same_map F G same (x ∷ xs) = ap (λ y. y ∷ map F xs) (same x) ∙ ap (λ ys. G x ∷ ys) (same_map F G same xs)

-- uses tell of the blocks only where they end
same_uses : (old new : List Block) → ((c : ℕ) → length (insts_at new c) ≡ length (insts_at old c)) → (b k : ℕ) (inst : Inst) → uses_at new b k inst ≡ uses_at old b k inst
same_uses old new ends b k (Phi ty entries tail) =
    let used : Entry → ℕ → Use = λ e n. record { block = e.from.0; place = n; val = e.val } in
    same_map (entry_use new) (entry_use old) (λ e. ap (used e) (ends e.from.0)) entries
same_uses old new ends b k inst = refl

-- ---- the function

module _ (f : FuncState) (n : IsNumbered f) (block : BlockNo) (slot : ℕ) (fine : IsFaultless f (Unlink block slot)) where
  abbrev b : ℕ
  b = block.0

  abbrev term : Term
  term = term_at f.blocks b

  abbrev kept : BlockNo
  kept = kept_target term slot

  abbrev cut : BlockNo
  cut = cut_target term slot

  abbrev g : FuncState
  g = with_edge_cut f b slot

  in_block : b < length f.blocks
  in_block = block_in f b (λ bad. fine fault.Name bad)

  is_cond : IsCondBr term
  is_cond = elim (cond_or_not term) [
    | inl is ↦ is
    | inr other ↦ absurd (fine fault.NoEdge (inl other))
  ]

  low_slot : slot < 2
  low_slot = elim (cases_lt slot 2) [
    | inl lt ↦ lt
    | inr le ↦ absurd (fine fault.NoEdge (inr le))
  ]

  targets : AreTargets term kept cut
  targets = targets_of term slot is_cond

  -- ---- instructions
  abbrev middle : List Block
  middle = with_term f.blocks b (Br kept [])

  cut_at_place : (c k : ℕ) → slice_get (insts_at g.blocks c) k ≡ option_map (lost cut.0 b c) (slice_get (insts_at f.blocks c) k)
  cut_at_place c k = lost_at middle cut.0 b c k ∙ ap (λ xs. option_map (lost cut.0 b c) (slice_get xs k)) (term_keeps f.blocks b (Br kept []) c)

  from_unlink : (c k : ℕ) (z : Placed) → slice_get (insts_at g.blocks c) k ≡ Some z → (x : Placed) × (slice_get (insts_at f.blocks c) k ≡ Some x) × (lost cut.0 b c x ≡ z)
  from_unlink c k z found = from_map (lost cut.0 b c) (slice_get (insts_at f.blocks c) k) z (sym (cut_at_place c k) ∙ found)

  to_unlink : (c k : ℕ) (x : Placed) → slice_get (insts_at f.blocks c) k ≡ Some x → slice_get (insts_at g.blocks c) k ≡ Some (lost cut.0 b c x)
  to_unlink c k x found = cut_at_place c k ∙ ap (option_map (lost cut.0 b c)) found

  same_end : (c : ℕ) → length (insts_at g.blocks c) ≡ length (insts_at f.blocks c)
  same_end c = lost_size middle cut.0 b c ∙ ap (λ (xs : List Placed). length xs) (term_keeps f.blocks b (Br kept []) c)

  same_size : length g.blocks ≡ length f.blocks
  same_size =
      length-set middle cut.0 (with_insts (get_or middle cut.0 no_block) (map (placed_without b) (insts_at middle cut.0)))
      ∙ length-set f.blocks b (record (get_or f.blocks b no_block) { term = Br kept [] })

  -- ---- terminators
  term_middle : (c : ℕ) → term_at g.blocks c ≡ term_at middle c
  term_middle c = term_stays middle cut.0 c (map (placed_without b) (insts_at middle cut.0))

  new_term : term_at g.blocks b ≡ Br kept []
  new_term = term_middle b ∙ term_here f.blocks b (Br kept []) in_block

  same_term : (c : ℕ) → (c ≡ b → ⊥) → term_at g.blocks c ≡ term_at f.blocks c
  same_term c ne = term_middle c ∙ term_there f.blocks b (Br kept []) c ne

  fewer_edges : HasNoOtherEdge f.blocks g.blocks
  fewer_edges a c h = elim (cases_eq a b) [
    | inl here ↦
        subst (λ m. Contains (successors (term_at f.blocks m)) c) (sym here)
        (targets.keeps c (subst (λ (t : Term). Contains (successors t) c) new_term (subst (λ m. Contains (successors (term_at g.blocks m)) c) here h)))
    | inr other ↦ subst (λ (t : Term). Contains (successors t) c) (same_term a other) h
  ]

  edges_here : (c : ℕ) → edges_between f.blocks b c ≡ edges_between g.blocks b c + times_in c (cut.0 ∷ [])
  edges_here c = targets.times c ∙ ap (λ (t : Term). times_in c (successors t) + times_in c (cut.0 ∷ [])) (sym new_term)

  edges_there : (a c : ℕ) → (a ≡ b → ⊥) → edges_between g.blocks a c ≡ edges_between f.blocks a c
  edges_there a c ne = ap (λ (t : Term). times_in c (successors t)) (same_term a ne)

  -- ---- numbers
  pub unlinked_numbers : IsNumbered (edited f (Unlink block slot))
  unlinked_numbers = record {
    one_place = λ c j d k x y hx hy e.
        let u = from_unlink c j x hx in
        let v = from_unlink d k y hy in
        n.one_place c j d k u.0 v.0 u.1 v.1 (ap (λ (z : Placed). z.number) u.2 ∙ e ∙ sym (ap (λ (z : Placed). z.number) v.2));
    below_made = λ c j x hx.
        let u = from_unlink c j x hx in
        subst (λ (z : Placed). z.number < f.made) u.2 (n.below_made c j u.0 u.1);
    one_giver = λ l c j d k x y hx hy.
        let u = giver_was l c j x hx in
        let v = giver_was l d k y hy in
        n.one_giver l c j d k u.0 v.0 u.1 v.1;
    result_range = λ l c j x hx. let u = giver_was l c j x hx in n.result_range l c j u.0 u.1;
    gives = λ c j x hx.
        let u = from_unlink c j x hx in
        subst (λ (z : Placed). is_some z.result ≡ has_result z.inst) u.2 (n.gives c j u.0 u.1 ∙ sym (lost_result cut.0 b c u.0.inst));
    few_made = n.few_made;
    few_blocks = subst (λ m. m < 2 ^ 31) (sym same_size) n.few_blocks;
    few_params = n.few_params;
    few_locals = n.few_locals;
    params_first = n.params_first;
  } where
    giver_was : (l : LocalNo) (c k : ℕ) (z : Placed) → IsGiver g.blocks l c k z → (x : Placed) × IsGiver f.blocks l c k x
    giver_was l c k z h = let u = from_unlink c k z h.found in (u.0, record { found = u.1; gives = ap (λ (y : Placed). y.result) u.2 ∙ h.gives })

  -- ---- values
  given_unlinked : (l : LocalNo) → IsGivenStill f.blocks g.blocks l
  given_unlinked l c k x h = (c, k, lost cut.0 b c x, record { found = to_unlink c k x h.found; gives = h.gives }, lost_type cut.0 b c x.inst)

  values_unlinked : (operands : List Operand) → AreValues f operands → AreValues g operands
  values_unlinked operands = same_values f g operands refl (λ o l c is. given_unlinked l)

  -- ---- entries
  module _ (sound : IsSoundFunc f) where
    -- the entries that are left are the edges that are left
    fit_cut : (c : ℕ) (entries : List Entry) → c ≡ cut.0 → ((a : ℕ) → times_in a (map from_of entries) ≡ edges_between f.blocks a c)
        → (a : ℕ) → times_in a (map from_of (without_first b entries)) ≡ edges_between g.blocks a c
    fit_cut c entries is_cut fit a = elim (cases_eq a b) [
      | inl here ↦
          let one = times_one c cut.0 [] (sym is_cut) in
          let all = fit b in
          let here_is = edges_here c in
          let less = lost_one b entries (omega (arith, all, here_is, one)) in
          let same : times_in b (map from_of (without_first b entries)) ≡ edges_between g.blocks b c = omega (arith, all, here_is, one, less) in
          subst (λ m. times_in m (map from_of (without_first b entries)) ≡ edges_between g.blocks m c) (sym here) same
      | inr other ↦ lost_other a b entries other ∙ fit a ∙ sym (edges_there a c other)
    ]

    fit_other : (c : ℕ) (entries : List Entry) → (c ≡ cut.0 → ⊥) → ((a : ℕ) → times_in a (map from_of entries) ≡ edges_between f.blocks a c)
        → (a : ℕ) → times_in a (map from_of entries) ≡ edges_between g.blocks a c
    fit_other c entries not_cut fit a = elim (cases_eq a b) [
      | inl here ↦
          let none = times_none c cut.0 [] (λ e. not_cut (sym e)) in
          let here_is = edges_here c in
          let all = fit b in
          let same : times_in b (map from_of entries) ≡ edges_between g.blocks b c = omega (arith, all, here_is, none) in
          subst (λ m. times_in m (map from_of entries) ≡ edges_between g.blocks m c) (sym here) same
      | inr other ↦ fit a ∙ sym (edges_there a c other)
    ]

    good_cut : (c : ℕ) (inst : Inst) → c ≡ cut.0 → (HasBadEntries f.blocks c inst → ⊥) → HasBadEntries g.blocks c (inst_without b inst) → ⊥
    good_cut c (Phi ty entries tail) is_cut good (inl (a, other)) =
        other (fit_cut c entries is_cut (λ d. same_number (times_in d (map from_of entries)) (edges_between f.blocks d c) (λ differ. good (inl (d, differ)))) a)
    good_cut c (Phi ty entries tail) is_cut good (inr two) = good (inr (two_without b entries two))
    good_cut c inst is_cut good bad = absurd bad

    good_other : (c : ℕ) (inst : Inst) → (c ≡ cut.0 → ⊥) → (HasBadEntries f.blocks c inst → ⊥) → HasBadEntries g.blocks c inst → ⊥
    good_other c (Phi ty entries tail) not_cut good (inl (a, other)) =
        other (fit_other c entries not_cut (λ d. same_number (times_in d (map from_of entries)) (edges_between f.blocks d c) (λ differ. good (inl (d, differ)))) a)
    good_other c (Phi ty entries tail) not_cut good (inr two) = good (inr two)
    good_other c inst not_cut good bad = absurd bad

    good_entries : (c : ℕ) (inst : Inst) → (HasBadEntries f.blocks c inst → ⊥) → HasBadEntries g.blocks c (lost_inst cut.0 b c inst) → ⊥
    good_entries c inst good = elim (lost_cases cut.0 b c inst) [
      | inl here ↦ λ bad. good_cut c inst here.0 good (subst (λ (i : Inst). HasBadEntries g.blocks c i) here.1 bad)
      | inr other ↦ λ bad. good_other c inst other.0 good (subst (λ (i : Inst). HasBadEntries g.blocks c i) other.1 bad)
    ]

    -- where a phi has no entry, no edge leads to its block
    no_edge : (c : ℕ) (inst : Inst) → has_entry inst ≡ false → (HasBadEntries g.blocks c inst → ⊥) → (a : ℕ) → edges_between g.blocks a c ≡ 0
    no_edge c (Phi ty [] tail) e good a = sym (same_number 0 (edges_between g.blocks a c) (λ differ. good (inl (a, differ))))
    no_edge c (Phi ty (d ∷ entries) tail) e good a = absurd (true≢false e)
    no_edge c inst e good a = absurd (true≢false e)

    still_entered : (c k : ℕ) (x : Placed) → slice_get (insts_at f.blocks c) k ≡ Some x → has_entry (lost_inst cut.0 b c x.inst) ≡ true
    still_entered c k x found = elim (lost_cases cut.0 b c x.inst) [
      | inr other ↦ ap has_entry other.1 ∙ (sound.insts c k x found).entered
      | inl here ↦ elim (cases_Bool (has_entry (lost_inst cut.0 b c x.inst))) [
        | inl is ↦ is
        | inr none ↦
            let idle = no_edge c (lost_inst cut.0 b c x.inst) none (good_entries c x.inst (sound.insts c k x found).entries) in
            absurd
            (fine fault.Kind (
              is_cond,
              low_slot,
              (
                (k, lost cut.0 b c x, ap (λ m. slice_get (insts_at g.blocks m) k) (sym here.0) ∙ to_unlink c k x found, no_entry (lost_inst cut.0 b c x.inst) none),
                λ a. ap (λ m. edges_between g.blocks a m) (sym here.0) ∙ idle a,
              ),
            ))
      ]
    ]

    shaped_unlinked : (c k : ℕ) (z : Placed) → slice_get (insts_at g.blocks c) k ≡ Some z → IsShaped g.blocks c k z.inst
    shaped_unlinked c k z found =
        let u = from_unlink c k z found in
        let x = u.0 in
        let s = sound.insts c k x u.1 in
        subst (λ (y : Placed). IsShaped g.blocks c k y.inst) u.2
        (record {
          types = lost_types cut.0 b c x.inst ∙ s.types;
          alloca = λ e. s.alloca (sym (lost_alloca cut.0 b c x.inst) ∙ e);
          phi = λ e j y less at.
              let v = from_unlink c j y at in
              ap (λ (w : Placed). is_phi w.inst) (sym v.2) ∙ lost_phi cut.0 b c v.0.inst ∙ s.phi (sym (lost_phi cut.0 b c x.inst) ∙ e) j v.0 less v.1;
          entered = still_entered c k x u.1;
          entries = good_entries c x.inst s.entries;
        })

    inst_values : (c k : ℕ) (z : Placed) → slice_get (insts_at g.blocks c) k ≡ Some z → AreValues g (operands_of z.inst)
    inst_values c k z found =
        let u = from_unlink c k z found in
        subst (λ (y : Placed). AreValues g (operands_of y.inst)) u.2
        (λ o among. values_unlinked (operands_of u.0.inst) (sound.insts c k u.0 u.1).operands o (lost_operands cut.0 b c u.0.inst o among))

    block_is : (blocks : List Block) (c : ℕ) (x : Block) → slice_get blocks c ≡ Some x → term_at blocks c ≡ x.term
    block_is blocks c x found = ap (λ (y : Block). y.term) (get_or_from_slice_get blocks c x no_block found)

    -- no branch leads to the first block
    kept_fits : LeadsToFirst (Br kept []) → ⊥
    kept_fits first = (sound.terms b (get_or f.blocks b no_block) (slice_get-get_or f.blocks b no_block in_block)).targets (targets.keeps 0 first)

    none_among : {A : Type 0} (o : Operand) → Contains [] o → A
    none_among o (i, lt, is) = absurd (let l : i < 0 = lt in omega arith)

    terms_unlinked : (c : ℕ) (x : Block) → slice_get g.blocks c ≡ Some x → IsShapedTerm g x.term
    terms_unlinked c x found = elim (cases_eq c b) [
      | inl here ↦
          let is : Br kept [] ≡ x.term = sym new_term ∙ ap (term_at g.blocks) (sym here) ∙ block_is g.blocks c x found in
          subst (λ (t : Term). IsShapedTerm g t) is (record { types = refl; operands = λ o among. none_among o among; targets = kept_fits })
      | inr other ↦
          let old = old_block f.blocks g.blocks same_size c x found (same_term c other) in
          let s = sound.terms c old.0 old.1 in
          subst (λ (t : Term). IsShapedTerm g t) old.2 (record { types = s.types; operands = values_unlinked (term_operands old.0.term) s.operands; targets = s.targets })
    ]

    -- ---- uses
    met_unlinked : (i c k : ℕ) (p : List ℕ) → IsMet (graph_of f.blocks) i c k p → IsMet (graph_of g.blocks) i c k p
    met_unlinked i c k p met = elim (met_stands f.blocks i c k p met) [
      | inl here ↦ stands_met g.blocks i c k p (inl (here.0, lost cut.0 b c here.1, to_unlink c here.0 here.1 here.2, here.3, here.4))
      | inr on ↦ stands_met g.blocks i c k p (inr (on.0, on.1, on.2, lost cut.0 b on.0 on.3, to_unlink on.0 on.2 on.3 on.4, on.5))
    ]

    used_before : (u : Use) → IsUsedBefore g u → IsUsedBefore f u
    used_before u (path, h) =
        let was = from_unlink h.block h.place h.giver h.gives.found in
        let number : was.0.number ≡ h.giver.number = ap (λ (z : Placed). z.number) was.2 in (
          path,
          record {
            local = h.local;
            is_local = h.is_local;
            block = h.block;
            place = h.place;
            giver = was.0;
            gives = record { found = was.1; gives = ap (λ (z : Placed). z.result) was.2 ∙ h.gives.gives };
            path_is = path_within f.blocks g.blocks same_size fewer_edges u.block path h.path_is;
            not_met = λ met. h.not_met (subst (λ i. IsMet (graph_of g.blocks) i u.block u.place path) number (met_unlinked was.0.number u.block u.place path met));
          },
        )

    behind_unlinked : (u : Use) → IsUseIn g.blocks u → IsUsedBefore g u → ⊥
    behind_unlinked u (inl (c, k, z, found, among)) before =
        let was = from_unlink c k z found in
        let now : Contains (uses_at f.blocks c k z.inst) u = subst (λ us. Contains us u) (same_uses f.blocks g.blocks same_end c k z.inst) among in
        let lost_there : Contains (uses_at f.blocks c k (lost_inst cut.0 b c was.0.inst)) u = subst (λ (y : Placed). Contains (uses_at f.blocks c k y.inst) u) (sym was.2) now in
        (sound.insts c k was.0 was.1).uses u (lost_uses f.blocks c k cut.0 b c was.0.inst u lost_there) (used_before u before)
    behind_unlinked u (inr (c, x, found, among)) before = elim (cases_eq c b) [
      | inl here ↦
          let is : x.term ≡ Br kept [] = sym (block_is g.blocks c x found) ∙ ap (term_at g.blocks) here ∙ new_term in
          no_use (subst (λ (t : Term). Contains (term_uses_at g.blocks c t) u) is among)
      | inr other ↦
          let old = old_block f.blocks g.blocks same_size c x found (same_term c other) in
          let there : Contains (term_uses_at g.blocks c old.0.term) u = subst (λ (t : Term). Contains (term_uses_at g.blocks c t) u) (sym old.2) among in
          (sound.terms c old.0 old.1).uses u (subst (λ m. Contains (map (used_at c m) (term_operands old.0.term)) u) (same_end c) there) (used_before u before)
    ] where
      no_use : Contains [] u → ⊥
      no_use (i, lt, is) = (let l : i < 0 = lt in omega arith)

    pub unlinked_sound : PartIsReducible → IsSoundFunc (edited f (Unlink block slot))
    unlinked_sound part = sound_by part f g sound same_size fewer_edges shaped_unlinked inst_values terms_unlinked behind_unlinked
