-- What is left of roots and locations where an edge was cut.
use Rattle.std.proofs.Common.{◌≡◌, ◌⊎◌, ◌↔◌, ℕ, zero, suc, ℤ, Bool, true, false, cond, List, [], ◌∷◌, Option, Some, None, get_or, set, map, refl, sym, ap, ◌∙◌, subst, inl, inr, ⊎_elim}
use Rattle.std.specs.Prelude.{◌&&◌, slice_get}
use Rattle.ms_ir.specs.declared.names.LocalNo.{LocalNo}
use Rattle.ms_ir.specs.declared.names.InstNo.{InstNo}
use Rattle.ms_ir.specs.declared.inst.Inst.{Inst}
use Rattle.ms_ir.specs.declared.inst.Inst.TheVariants.{Phi}
use Rattle.ms_ir.specs.declared.inst.Term.{Term}
use Rattle.ms_ir.specs.declared.inst.Term.TheVariants.{Br}
use Rattle.ms_ir.specs.Func.{Placed, Block, FuncState, IsAt, no_block, insts_at, with_insts}
use Rattle.ms_ir.specs.Changes.{inst_without, placed_without, with_entry_lost, with_term, with_edge_cut, kept_target, cut_target}
use Rattle.ms_alias.specs.declared.loc.Root.{Root}
use Rattle.ms_alias.specs.declared.loc.Root.TheVariants.{Local, Global}
use Rattle.ms_alias.specs.declared.loc.Loc.{Loc}
use Rattle.ms_alias.specs.Roots.{Maker, Step, is_local, makes, makes_pointer, maker_in, maker_from, maker_of, or_else, step_in, step_by_maker, step_of, HasRoot}
use Rattle.ms_alias.specs.Reaches.{IsLocRead, IsLocWritten}
use Rattle.ms_cache.specs.Edited.{SameLocs}
use Rattle.ms_cache.proofs.Alike.{SameSteps, root_kept}
use Rattle.ms_cache.proofs.Insts.{Has, within, set_from, set_to, set_here}
use Rattle.ms_cache.proofs.Accesses.{RootsStay, loc_read_by, loc_written_by}
use Rattle.ms_cache.proofs.Mapped.{slice_map, map_slice}

-- ---- steps

-- the step of the maker, where there is one
abbrev stepped : Option Maker → Option (Option Step)
stepped None = None
stepped (Some m) = Some (step_in m.inst)

by_stepped : (o p : Option Maker) → stepped o ≡ stepped p → step_by_maker o ≡ step_by_maker p
by_stepped None None e = refl
by_stepped None (Some n) e = cc
by_stepped (Some m) None e = cc
by_stepped (Some m) (Some n) e = cc

stepped_or : (o p q r : Option Maker) → stepped o ≡ stepped p → stepped q ≡ stepped r → stepped (or_else o q) ≡ stepped (or_else p r)
stepped_or None None q r h k = k
stepped_or None (Some n) q r h k = cc
stepped_or (Some m) None q r h k = cc
stepped_or (Some m) (Some n) q r h k = h

stepped_cond : (t u : Bool) (m n : Maker) (o p : Option Maker) → t ≡ u → step_in m.inst ≡ step_in n.inst → stepped o ≡ stepped p → stepped (cond t (Some m) o) ≡ stepped (cond u (Some n) p)
stepped_cond true true m n o p e h k = ap Some h
stepped_cond false false m n o p e h k = k
stepped_cond true false m n o p e h k = cc
stepped_cond false true m n o p e h k = cc

pub makes_without : (from : ℕ) (p : Inst) → makes_pointer p ≡ makes_pointer (inst_without from p)
makes_without from (Phi ty entries tail) = refl
makes_without from p = refl

step_without : (from : ℕ) (p : Inst) → step_in p ≡ step_in (inst_without from p)
step_without from (Phi ty entries tail) = refl
step_without from p = refl

stepped_in : (from n : ℕ) (xs : List Placed) (l : LocalNo) → stepped (maker_in n xs l) ≡ stepped (maker_in n (map (placed_without from) xs) l)
stepped_in from n [] l = refl
stepped_in from n (x ∷ xs) l =
    stepped_cond (makes l x) (makes l (placed_without from x)) _ _ (maker_in n xs l) (maker_in n (map (placed_without from) xs) l)
    (ap (λ t. t && is_local l x.result) (makes_without from x.inst)) (step_without from x.inst) (stepped_in from n xs l)

stepped_set : (k : ℕ) (blocks : List Block) (b : ℕ) (new : Block) (l : LocalNo) → ((n : ℕ) → stepped (maker_in n (insts_at blocks b) l) ≡ stepped (maker_in n new.insts l)) → stepped (maker_from k blocks l) ≡ stepped (maker_from k (set blocks b new) l)
stepped_set k [] b new l h = refl
stepped_set k (x ∷ xs) zero new l h = stepped_or (maker_in k x.insts l) (maker_in k new.insts l) (maker_from (suc k) xs l) (maker_from (suc k) xs l) (h k) refl
stepped_set k (x ∷ xs) (suc b) new l h = stepped_or (maker_in k x.insts l) (maker_in k x.insts l) (maker_from (suc k) xs l) (maker_from (suc k) (set xs b new) l) refl (stepped_set (suc k) xs b new l h)

abbrev pub branched : FuncState → ℕ → ℕ → List Block
branched f b slot = with_term f.blocks b (Br (kept_target (get_or f.blocks b no_block).term slot) [])

abbrev pub cut_block : FuncState → ℕ → ℕ → ℕ
cut_block f b slot = (cut_target (get_or f.blocks b no_block).term slot).0

stepped_cut : (f : FuncState) (b slot : ℕ) (l : LocalNo) → stepped (maker_of f l) ≡ stepped (maker_of (with_edge_cut f b slot) l)
stepped_cut f b slot l =
    stepped_set 0 f.blocks b (record (get_or f.blocks b no_block) { term = Br (kept_target (get_or f.blocks b no_block).term slot) [] }) l (λ n. refl)
    ∙ stepped_set 0 (branched f b slot) (cut_block f b slot) (with_insts (get_or (branched f b slot) (cut_block f b slot) no_block) (map (placed_without b) (insts_at (branched f b slot) (cut_block f b slot)))) l
    (λ n. stepped_in b n (insts_at (branched f b slot) (cut_block f b slot)) l)

cut_steps : (f : FuncState) (b slot : ℕ) → SameSteps f (with_edge_cut f b slot)
cut_steps f b slot = record { each = at }
  where
    at : (p : Root) → step_of f p ≡ step_of (with_edge_cut f b slot) p
    at (Local l) = by_stepped (maker_of f l) (maker_of (with_edge_cut f b slot) l) (stepped_cut f b slot l)
    at (Global g) = refl

roots_to : (f : FuncState) (b slot : ℕ) → RootsStay f (with_edge_cut f b slot)
roots_to f b slot = root_kept f (with_edge_cut f b slot) (cut_steps f b slot)

roots_from : (f : FuncState) (b slot : ℕ) → RootsStay (with_edge_cut f b slot) f
roots_from f b slot = root_kept (with_edge_cut f b slot) f (record { each = λ p. sym ((cut_steps f b slot).each p) })

pub cut_roots : (f : FuncState) (b slot : ℕ) → (p r : Root) (o : ℤ) → HasRoot f p r o ↔ HasRoot (with_edge_cut f b slot) p r o
cut_roots f b slot p r o = (roots_to f b slot p r o, roots_from f b slot p r o)

-- ---- instructions

term_to : (blocks : List Block) (b : ℕ) (term : Term) (y : Placed) → Has blocks y → Has (with_term blocks b term) y
term_to blocks b term y h =
    ⊎_elim
    (λ (none : ⊥). absurd none)
    (λ (r : Has (with_term blocks b term) y). r)
    (set_to blocks b (record (get_or blocks b no_block) { term = term }) ⊥ h.0 h.1 y h.2 (λ j e. inr (j, e)))

pub term_from : (blocks : List Block) (b : ℕ) (term : Term) (y : Placed) → Has (with_term blocks b term) y → Has blocks y
term_from blocks b term y h =
    ⊎_elim
    (λ (l : (j : ℕ) × (slice_get (insts_at blocks b) j ≡ Some y)). (b, l.0, l.1))
    (λ (r : Has blocks y). r)
    (set_from blocks b (record (get_or blocks b no_block) { term = term }) h.0 h.1 y h.2)

entry_to : (blocks : List Block) (c from : ℕ) (x : Placed) → Has blocks x → Has (with_entry_lost blocks c from) (placed_without from x) ⊎ Has (with_entry_lost blocks c from) x
entry_to blocks c from x h =
    let new : Block = with_insts (get_or blocks c no_block) (map (placed_without from) (insts_at blocks c)) in
    set_to blocks c new (Has (with_entry_lost blocks c from) (placed_without from x)) h.0 h.1 x h.2
    (λ j e. inl (set_here blocks c new j (placed_without from x) (within blocks c j x e) (slice_map (placed_without from) (insts_at blocks c) j x e)))

pub entry_from : (blocks : List Block) (c from : ℕ) (y : Placed) → Has (with_entry_lost blocks c from) y → ((x : Placed) × Has blocks x × (placed_without from x ≡ y)) ⊎ Has blocks y
entry_from blocks c from y h =
    ⊎_elim
    (λ (l : (j : ℕ) × (slice_get (map (placed_without from) (insts_at blocks c)) j ≡ Some y)).
    let r = map_slice (placed_without from) (insts_at blocks c) l.0 y l.1 in
    inl (r.0, (c, l.0, r.1), r.2))
    (λ (r : Has blocks y). inr r)
    (set_from blocks c (with_insts (get_or blocks c no_block) (map (placed_without from) (insts_at blocks c))) h.0 h.1 y h.2)

-- ---- locations

module _ (f : FuncState) (b slot : ℕ) (P Q : Inst → Type 0) where
  -- what holds of an instruction, and lasts, where no phi has it
  locs_to : ((p : Inst) → P p → Q p) → ((p : Inst) → P p → Q (inst_without b p)) → (i : ℕ)
      → (c : ℕ) × (place : ℕ) × (x : Placed) × IsAt f.blocks i c place x × P x.inst → (c : ℕ) × (place : ℕ) × (x : Placed) × IsAt (with_edge_cut f b slot).blocks i c place x × Q x.inst
  locs_to same lost i h =
      ⊎_elim
      (λ (r : Has (with_edge_cut f b slot).blocks (placed_without b h.2)).
      (r.0, r.1, placed_without b h.2, record { block = within (with_edge_cut f b slot).blocks r.0 r.1 (placed_without b h.2) r.2; found = r.2; numbered = h.3.numbered }, lost h.2.inst h.4))
      (λ (r : Has (with_edge_cut f b slot).blocks h.2). (r.0, r.1, h.2, record { block = within (with_edge_cut f b slot).blocks r.0 r.1 h.2 r.2; found = r.2; numbered = h.3.numbered }, same h.2.inst h.4))
      (entry_to (branched f b slot) (cut_block f b slot) b h.2 (term_to f.blocks b (Br (kept_target (get_or f.blocks b no_block).term slot) []) h.2 (h.0, h.1, h.3.found)))

  locs_from : ((p : Inst) → Q p → P p) → ((p : Inst) → Q (inst_without b p) → P p) → (i : ℕ)
      → (c : ℕ) × (place : ℕ) × (x : Placed) × IsAt (with_edge_cut f b slot).blocks i c place x × Q x.inst → (c : ℕ) × (place : ℕ) × (x : Placed) × IsAt f.blocks i c place x × P x.inst
  locs_from same lost i h =
      let term : Term = Br (kept_target (get_or f.blocks b no_block).term slot) [] in
      ⊎_elim
      (λ (l : (x : Placed) × Has (branched f b slot) x × (placed_without b x ≡ h.2)).
      let r = term_from f.blocks b term l.0 l.1 in
      (r.0, r.1, l.0, record { block = within f.blocks r.0 r.1 l.0 r.2; found = r.2; numbered = ap (λ (z : Placed). z.number) l.2 ∙ h.3.numbered }, lost l.0.inst (subst (λ (z : Placed). Q z.inst) (sym l.2) h.4)))
      (λ (k : Has (branched f b slot) h.2).
      let r = term_from f.blocks b term h.2 k in
      (r.0, r.1, h.2, record { block = within f.blocks r.0 r.1 h.2 r.2; found = r.2; numbered = h.3.numbered }, same h.2.inst h.4))
      (entry_from (branched f b slot) (cut_block f b slot) b h.2 (h.0, h.1, h.3.found))

read_lost : (f : FuncState) (from : ℕ) (i : InstNo) (loc : Loc) (p : Inst) → IsLocRead f i p loc → IsLocRead f i (inst_without from p) loc
read_lost f from i loc (Phi ty entries tail) h = absurd h
read_lost f from i loc p h = h

read_had : (f : FuncState) (from : ℕ) (i : InstNo) (loc : Loc) (p : Inst) → IsLocRead f i (inst_without from p) loc → IsLocRead f i p loc
read_had f from i loc (Phi ty entries tail) h = absurd h
read_had f from i loc p h = h

written_lost : (f : FuncState) (from : ℕ) (loc : Loc) (p : Inst) → IsLocWritten f p loc → IsLocWritten f (inst_without from p) loc
written_lost f from loc (Phi ty entries tail) h = absurd h
written_lost f from loc p h = h

written_had : (f : FuncState) (from : ℕ) (loc : Loc) (p : Inst) → IsLocWritten f (inst_without from p) loc → IsLocWritten f p loc
written_had f from loc (Phi ty entries tail) h = absurd h
written_had f from loc p h = h

pub cut_locs : (f : FuncState) (b slot : ℕ) (i : InstNo) → SameLocs f (with_edge_cut f b slot) i
cut_locs f b slot i =
    let g = with_edge_cut f b slot in
    let to = roots_to f b slot in
    let from = roots_from f b slot in
    record {
      reads = λ loc. (
        locs_to f b slot (λ p. IsLocRead f i p loc) (λ p. IsLocRead g i p loc) (λ p. loc_read_by f g to i p loc) (λ p h. read_lost g b i loc p (loc_read_by f g to i p loc h)) i.0,
        locs_from f b slot (λ p. IsLocRead f i p loc) (λ p. IsLocRead g i p loc) (λ p. loc_read_by g f from i p loc) (λ p h. loc_read_by g f from i p loc (read_had g b i loc p h)) i.0,
      );
      writes = λ loc. (
        locs_to f b slot (λ p. IsLocWritten f p loc) (λ p. IsLocWritten g p loc) (λ p. loc_written_by f g to p loc) (λ p h. written_lost g b loc p (loc_written_by f g to p loc h)) i.0,
        locs_from f b slot (λ p. IsLocWritten f p loc) (λ p. IsLocWritten g p loc) (λ p. loc_written_by g f from p loc) (λ p h. loc_written_by g f from p loc (written_had g b loc p h)) i.0,
      );
    }
