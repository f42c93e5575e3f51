-- Behind an unlink without a fault an accepted function is accepted.
use Rattle.std.proofs.Common.{◌≡◌, ◌∙◌, ◌<◌, ℕ, zero, suc, true, List, [], ◌∷◌, ◌++◌, length, get_or, map, Option, Some, None, refl, sym, ap, subst, inl, inr, arith, length-set}
use Rattle.std.specs.Prelude.{slice_get, option_map}
use Rattle.std.proofs.lemmas.Bool.{cases_eq}
use Rattle.std.proofs.lemmas.Option.{slice_get-get_or, get_or_from_slice_get}
use Rattle.ms_ir.specs.declared.names.BlockNo.{BlockNo}
use Rattle.ms_ir.specs.declared.names.Name.{Name}
use Rattle.ms_ir.specs.declared.inst.Inst.{Inst}
use Rattle.ms_ir.specs.declared.inst.Inst.TheVariants.{Phi}
use Rattle.ms_ir.specs.declared.inst.Term.{Term}
use Rattle.ms_ir.specs.declared.inst.Term.TheVariants.{Br, CondBr, Ret, Unreachable}
use Rattle.ms_ir.specs.declared.inst.Edit.TheVariants.{Unlink}
use Rattle.ms_ir.specs.declared.faults.EditFault.TheVariants as fault
use Rattle.ms_ir.specs.Func.{Placed, Block, FuncState, insts_at, no_block, with_insts}
use Rattle.ms_ir.specs.Changes.{IsCondBr, kept_target, cut_target, placed_without, inst_without, with_entry_lost, with_term}
use Rattle.ms_ir.specs.Locals.{IsNumbered}
use Rattle.ms_ir.specs.Module.{ModuleState}
use Rattle.ms_ir.specs.SoundFunc.{IsSoundFunc}
use Rattle.ms_ir.specs.Types.{has_entry}
use Rattle.ms_ir.specs.Edits.{edited, term_at, IsFaultless}
use Rattle.ms_resolve.specs.Faults.{IsIn}
use Rattle.ms_validity.specs.Faults.{CallsOtherwise}
use Rattle.ms_edited.proofs.Places.{term_stays}
use Rattle.ms_edited.proofs.Shape.{old_block}
use Rattle.ms_edited.proofs.Faults.{block_in}
use Rattle.ms_edited.proofs.Lost.{lost, lost_at, lost_inst, lost_cases}
use Rattle.ms_valid.specs.Func.{IsSaidInst, IsAcceptedFunc, IsWordOrNone, AreApart, name_of_param, name_of_inst, names_of_block}
use Rattle.ms_valid.proofs.OneMore.{names_of}
use Rattle.ms_valid.proofs.Fewer.{kept_said, less_said}
use Rattle.ms_valid.proofs.Edited.{SoundStays, IsFine, IsFineTerm, fine_at, fine_term, accepted_with}

-- ---- names stay

same_names : (b : ℕ) (xs : List Placed) → map name_of_inst (map (placed_without b) xs) ≡ map name_of_inst xs
same_names b [] = refl
same_names b (x ∷ xs) = ap (λ (names : List Name). x.name ∷ names) (same_names b xs)

term_names : (blocks : List Block) (b : ℕ) (t : Term) → names_of (with_term blocks b t) ≡ names_of blocks
term_names [] b t = refl
term_names (x ∷ blocks) zero t = refl
term_names (x ∷ blocks) (suc b) t = ap (λ (names : List Name). names_of_block x ++ names) (term_names blocks b t)

lost_names : (blocks : List Block) (at from : ℕ) → names_of (with_entry_lost blocks at from) ≡ names_of blocks
lost_names [] at from = refl
lost_names (x ∷ blocks) zero from = ap (λ (names : List Name). x.name ∷ (names ++ names_of blocks)) (same_names from x.insts)
lost_names (x ∷ blocks) (suc at) from = ap (λ (names : List Name). names_of_block x ++ names) (lost_names blocks at from)

-- ---- blocks with another terminator

term_keeps : (blocks : List Block) (b : ℕ) (t : Term) (c : ℕ) → insts_at (with_term blocks b t) c ≡ insts_at blocks c
term_keeps [] b t c = refl
term_keeps (x ∷ blocks) zero t zero = refl
term_keeps (x ∷ blocks) zero t (suc c) = refl
term_keeps (x ∷ blocks) (suc b) t zero = refl
term_keeps (x ∷ blocks) (suc b) t (suc c) = term_keeps blocks b t c

term_here : (blocks : List Block) (b : ℕ) (t : Term) → b < length blocks → term_at (with_term blocks b t) b ≡ t
term_here [] b t lt = absurd (omega arith)
term_here (x ∷ blocks) zero t lt = refl
term_here (x ∷ blocks) (suc b) t lt = term_here blocks b t (omega arith)

term_there : (blocks : List Block) (b : ℕ) (t : Term) (c : ℕ) → (c ≡ b → ⊥) → term_at (with_term blocks b t) c ≡ term_at blocks c
term_there [] b t c ne = refl
term_there (x ∷ blocks) zero t zero ne = absurd (ne refl)
term_there (x ∷ blocks) zero t (suc c) ne = refl
term_there (x ∷ blocks) (suc b) t zero ne = refl
term_there (x ∷ blocks) (suc b) t (suc c) ne = term_there blocks b t c (λ e. ne (ap suc e))

cond_is : (t : Term) → ((IsCondBr t → ⊥) → ⊥) → IsCondBr t
cond_is (CondBr cond x y text) h = tt
cond_is (Br to text) h = h (λ never. never)
cond_is (Ret given text) h = h (λ never. never)
cond_is (Unreachable text) h = h (λ never. never)

from_map : (F : Placed → Placed) (o : Option Placed) (z : Placed) → option_map F o ≡ Some z → (x : Placed) × (o ≡ Some x) × (F x ≡ z)
from_map F None z e = cc
from_map F (Some x) z e = let one : F x ≡ z = cc in (x, refl, one)

calls_less : (m : ModuleState) (b : ℕ) (i : Inst) → CallsOtherwise m (inst_without b i) → CallsOtherwise m i
calls_less m b (Phi ty entries tail) h = h
calls_less m b i h = h

module _ (stays : SoundStays) (m : ModuleState) (f : FuncState) (block : BlockNo) (slot : ℕ) (n : IsNumbered f) (a : IsAcceptedFunc m f) (fine : IsFaultless f (Unlink block slot)) where
  abbrev b : ℕ
  b = block.0

  abbrev term : Term
  term = term_at f.blocks b

  abbrev kept : BlockNo
  kept = kept_target term slot

  abbrev cut : BlockNo
  cut = cut_target term slot

  abbrev middle : List Block
  middle = with_term f.blocks b (Br kept [])

  abbrev new : List Block
  new = with_entry_lost middle cut.0 b

  in_block : b < length f.blocks
  in_block = block_in f b (λ bad. fine fault.Name bad)

  is_cond : IsCondBr term
  is_cond = cond_is term (λ other. fine fault.NoEdge (inl other))

  sound_new : IsSoundFunc (edited f (Unlink block slot))
  sound_new = stays f (Unlink block slot) n a.sound tt fine

  same_size : length new ≡ length f.blocks
  same_size =
      length-set middle cut.0 (with_insts (get_or middle cut.0 no_block) (map (placed_without b) (insts_at middle cut.0)))
      ∙ length-set f.blocks b (record (get_or f.blocks b no_block) { term = Br kept [] })

  term_kept : (c : ℕ) → term_at new c ≡ term_at middle c
  term_kept c = term_stays middle cut.0 c (map (placed_without b) (insts_at middle cut.0))

  -- ---- instructions
  was : (c k : ℕ) (z : Placed) → slice_get (insts_at new c) k ≡ Some z → (x : Placed) × (slice_get (insts_at f.blocks c) k ≡ Some x) × (lost cut.0 b c x ≡ z)
  was c k z found =
      let at = lost_at middle cut.0 b c k ∙ ap (λ xs. option_map (lost cut.0 b c) (slice_get xs k)) (term_keeps f.blocks b (Br kept []) c) in
      from_map (lost cut.0 b c) (slice_get (insts_at f.blocks c) k) z (sym at ∙ found)

  said_lost : (c : ℕ) (i : Inst) → IsSaidInst m i → has_entry (lost_inst cut.0 b c i) ≡ true → IsSaidInst m (lost_inst cut.0 b c i)
  said_lost c i h some = elim (lost_cases cut.0 b c i) [
    | inl here ↦ subst (λ (j : Inst). IsSaidInst m j) (sym here.1) (less_said m b i h (ap has_entry (sym here.1) ∙ some))
    | inr other ↦ subst (λ (j : Inst). IsSaidInst m j) (sym other.1) h
  ]

  calls_lost : (c : ℕ) (i : Inst) → CallsOtherwise m (lost_inst cut.0 b c i) → CallsOtherwise m i
  calls_lost c i h = elim (lost_cases cut.0 b c i) [
    | inl here ↦ calls_less m b i (subst (λ (j : Inst). CallsOtherwise m j) here.1 h)
    | inr other ↦ subst (λ (j : Inst). CallsOtherwise m j) other.1 h
  ]

  insts_fine : (c k : ℕ) (z : Placed) → slice_get (insts_at new c) k ≡ Some z → IsFine m z
  insts_fine c k z found =
      let u = was c k z found in
      let old = fine_at m f a c k u.0 u.1 in
      let some : has_entry (lost_inst cut.0 b c u.0.inst) ≡ true = ap (λ (y : Placed). has_entry y.inst) u.2 ∙ (sound_new.insts c k z found).entered in
      subst (λ (y : Placed). IsFine m y) u.2
      (record {
        said = said_lost c u.0.inst old.said some;
        unnamed = old.unnamed;
        calls = λ other. old.calls (calls_lost c u.0.inst other);
      })

  -- ---- terminators
  branch_fine : IsFineTerm m f (Br kept [])
  branch_fine = record {
    said = kept_said m term slot (fine_term m f a b (get_or f.blocks b no_block) (slice_get-get_or f.blocks b no_block in_block)).said is_cond;
    returns = λ never. never;
  }

  terms_fine : (c : ℕ) (x : Block) → slice_get new c ≡ Some x → IsFineTerm m f x.term
  terms_fine c x found = elim (cases_eq c b) [
    | inl here ↦
        let at : term_at new c ≡ x.term = ap (λ (y : Block). y.term) (get_or_from_slice_get new c x no_block found) in
        let is : term_at new c ≡ Br kept [] = term_kept c ∙ ap (term_at middle) here ∙ term_here f.blocks b (Br kept []) in_block in
        subst (λ (t : Term). IsFineTerm m f t) (sym is ∙ at) branch_fine
    | inr other ↦
        let old = old_block f.blocks new same_size c x found (term_kept c ∙ term_there f.blocks b (Br kept []) c other) in
        subst (λ (t : Term). IsFineTerm m f t) old.2 (fine_term m f a c old.0 old.1)
  ]

  -- ---- names
  names_stay : names_of f.blocks ≡ names_of new
  names_stay = sym (lost_names middle cut.0 b ∙ term_names f.blocks b (Br kept []))

  pub unlink_accepted : IsAcceptedFunc m (edited f (Unlink block slot))
  unlink_accepted =
      accepted_with m f new _ _ _ a sound_new insts_fine terms_fine
      (subst (λ (names : List Name). (name : Name) → IsIn (map name_of_param f.params ++ names) name → IsWordOrNone name) names_stay a.words)
      (subst (λ (names : List Name). AreApart (map name_of_param f.params ++ names)) names_stay a.apart)
