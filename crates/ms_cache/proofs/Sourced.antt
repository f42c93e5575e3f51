-- What another source of a memcpy leaves.
use Rattle.std.proofs.Common.{◌≡◌, ◌↔◌, ℕ, Bool, true, false, cond, List, map, refl, sym, ap, ◌∙◌, subst}
use Rattle.std.specs.Prelude.{◌==◌, ◌≢◌, Contains}
use Rattle.std.proofs.lemmas.Bool.{cond-false, ne_eqb}
use Rattle.ms_ir.specs.declared.names.LocalNo.{LocalNo}
use Rattle.ms_ir.specs.declared.names.InstNo.{InstNo}
use Rattle.ms_ir.specs.declared.inst.Arg.{Arg}
use Rattle.ms_ir.specs.declared.inst.Inst.{Inst}
use Rattle.ms_ir.specs.declared.inst.Inst.TheVariants.{Copy}
use Rattle.ms_ir.specs.Func.{Placed, Block, FuncState}
use Rattle.ms_ir.specs.Changes.{inst_sourced, placed_sourced, block_sourced, with_source}
use Rattle.ms_alias.specs.declared.loc.Loc.{Loc}
use Rattle.ms_alias.specs.declared.loc.Loc.TheVariants.{Bytes, ReadBy}
use Rattle.ms_alias.specs.Roots.{makes}
use Rattle.ms_alias.specs.Bases.{Alloca as AllocaBase}
use Rattle.ms_alias.specs.Captured.{IsCaptured, args_of}
use Rattle.ms_alias.specs.Reaches.{ReadsLoc, WritesLoc, IsLocRead, IsLocWritten}
use Rattle.ms_alias.specs.Tables.{AliasState, IsAliasOf}
use Rattle.ms_cache.specs.Edited.{SamePointers, SameWrites, SameReads}
use Rattle.ms_cache.proofs.Alike.{Alike, alike_back, tables_alike, look}
use Rattle.ms_cache.proofs.Accesses.{FindsMakers, Both, val_base, Finds, FindsLoc, WritesAlike, ReadsAlike, writes_same, reads_same, writes_between, reads_between, pointers_both, loc_read, loc_written}
use Rattle.ms_cache.proofs.Mapped.{MakesAlike, makes_itself, makes_local, found_to, found_from, makers_map, edges_map, finds_to, finds_from, at_to, at_from}

-- ---- instructions

makes_sourced : (arg : Arg) (p : Inst) → MakesAlike p (inst_sourced arg p)
makes_sourced arg (Copy to from len head tail) = record { makes = refl; alloca = refl; step = λ e. refl; leads = λ e. refl }
makes_sourced arg p = makes_itself p

args_sourced : (arg : Arg) (p : Inst) → args_of p ≡ args_of (inst_sourced arg p)
args_sourced arg (Copy to from len head tail) = refl
args_sourced arg p = refl

writes_sourced : (f g : FuncState) → Alike f g → (arg : Arg) (p : Inst) → WritesAlike f g p (inst_sourced arg p)
writes_sourced f g s arg (Copy to from len head tail) = writes_same f g s (Copy to from len head tail)
writes_sourced f g s arg p = writes_same f g s p

writes_back : (f g : FuncState) → Alike f g → (arg : Arg) (p : Inst) → WritesAlike f g (inst_sourced arg p) p
writes_back f g s arg (Copy to from len head tail) = writes_same f g s (Copy to from len head tail)
writes_back f g s arg p = writes_same f g s p

written_sourced : (f g : FuncState) → Alike f g → (arg : Arg) (p : Inst) (loc : Loc) → IsLocWritten f p loc → IsLocWritten g (inst_sourced arg p) loc
written_sourced f g s arg (Copy to from len head tail) loc h = loc_written f g s (Copy to from len head tail) loc h
written_sourced f g s arg p loc h = loc_written f g s p loc h

written_back : (f g : FuncState) → Alike f g → (arg : Arg) (p : Inst) (loc : Loc) → IsLocWritten f (inst_sourced arg p) loc → IsLocWritten g p loc
written_back f g s arg (Copy to from len head tail) loc h = loc_written f g s (Copy to from len head tail) loc h
written_back f g s arg p loc h = loc_written f g s p loc h

-- ---- what stands at a place

abbrev changed : Arg → Placed → Placed
changed arg x = record x { inst = inst_sourced arg x.inst }

-- a fact of the changed instruction and of the one that was there
either : (n : ℕ) (arg : Arg) (P : Placed → Type 0) (x : Placed) → P x → P (changed arg x) → P (placed_sourced n arg x)
either n arg P x old new = pick (x.number == n) where
  pick : (t : Bool) → P (cond t (changed arg x) x)
  pick true = new
  pick false = old

number_same : (n : ℕ) (arg : Arg) (x : Placed) → (placed_sourced n arg x).number ≡ x.number
number_same n arg x = either n arg (λ y. y.number ≡ x.number) x refl refl

other_same : (n : ℕ) (arg : Arg) (x : Placed) → (x.number ≡ n → ⊥) → placed_sourced n arg x ≡ x
other_same n arg x h = cond-false (x.number == n) (changed arg x) x (ne_eqb x.number n h)

insts_are : (n : ℕ) (arg : Arg) (b : Block) → (block_sourced n arg b).insts ≡ map (placed_sourced n arg) b.insts
insts_are n arg b = refl

-- ---- the function

source_alike : (f : FuncState) (n : ℕ) (arg : Arg) → Alike f (with_source f n arg)
source_alike f n arg = record {
  makers = λ l. makers_map (placed_sourced n arg) (block_sourced n arg) (insts_are n arg) 0 f.blocks l (λ c b k x e.
      either n arg (λ y. (makes l x ≡ makes l y) × (makes l x ≡ true → look (record { block = c; inst = x.inst }) ≡ look (record { block = c; inst = y.inst }))) x
      (refl, λ t. refl)
      (makes_local l x (changed arg x) refl (makes_sourced arg x.inst) c));
  params = refl;
  edges = sym (edges_map (placed_sourced n arg) (block_sourced n arg) (insts_are n arg) (λ b. refl) f.blocks);
}

args_same : (n : ℕ) (arg : Arg) (x : Placed) → args_of x.inst ≡ args_of (placed_sourced n arg x).inst
args_same n arg x = either n arg (λ y. args_of x.inst ≡ args_of y.inst) x refl (args_sourced arg x.inst)

captured_to : (f : FuncState) (n : ℕ) (arg : Arg) (l : LocalNo) → IsCaptured f l → IsCaptured (with_source f n arg) l
captured_to f n arg l h =
    let k = h.4 in
    let s = source_alike f n arg in (
      h.0,
      h.1,
      placed_sourced n arg h.2,
      found_to (placed_sourced n arg) (block_sourced n arg) (insts_are n arg) f.blocks h.0 h.1 h.2 h.3,
      (k.0, subst (λ (args : List Arg). Contains args k.0) (args_same n arg h.2) k.1, k.2, val_base f (with_source f n arg) s k.0.val (AllocaBase l) k.3),
    )

captured_from : (f : FuncState) (n : ℕ) (arg : Arg) (l : LocalNo) → IsCaptured (with_source f n arg) l → IsCaptured f l
captured_from f n arg l h =
    let k = h.4 in
    let s = alike_back f (with_source f n arg) (source_alike f n arg) in
    let r = found_from (placed_sourced n arg) (block_sourced n arg) (insts_are n arg) f.blocks h.0 h.1 h.2 h.3 in (
      h.0,
      h.1,
      r.0,
      r.1,
      (k.0, subst (λ (args : List Arg). Contains args k.0) (ap (λ (y : Placed). args_of y.inst) (sym r.2) ∙ sym (args_same n arg r.0)) k.1, k.2, val_base (with_source f n arg) f s k.0.val (AllocaBase l) k.3),
    )

source_both : (f : FuncState) (n : ℕ) (arg : Arg) → Both f (with_source f n arg)
source_both f n arg = record { alike = source_alike f n arg; captured = λ l. (captured_to f n arg l, captured_from f n arg l) }

pub source_tables : (f : FuncState) (n : ℕ) (arg : Arg) (a : AliasState) → IsAliasOf f a → IsAliasOf (with_source f n arg) a
source_tables f n arg a is = let s = source_both f n arg in tables_alike f (with_source f n arg) a s.alike s.captured is

makers_to : (f : FuncState) (n : ℕ) (arg : Arg) → FindsMakers f (with_source f n arg)
makers_to f n arg l q b k x at e = (
  b,
  k,
  placed_sourced n arg x,
  at_to (placed_sourced n arg) (block_sourced n arg) (insts_are n arg) (number_same n arg) f.blocks q b k x at,
  either n arg (λ y. makes l y ≡ true) x e (sym (makes_local l x (changed arg x) refl (makes_sourced arg x.inst) 0).0 ∙ e),
)

makers_from : (f : FuncState) (n : ℕ) (arg : Arg) → FindsMakers (with_source f n arg) f
makers_from f n arg l q b k y at e =
    let r = at_from (placed_sourced n arg) (block_sourced n arg) (insts_are n arg) (number_same n arg) f.blocks q b k y at in
    let back = either n arg (λ z. makes l z ≡ true → makes l r.0 ≡ true) r.0 (λ t. t) (λ t. (makes_local l r.0 (changed arg r.0) refl (makes_sourced arg r.0.inst) 0).0 ∙ t) in
    (b, k, r.0, r.1, back (ap (makes l) r.2 ∙ e))

pub source_pointers : (f : FuncState) (n : ℕ) (arg : Arg) → SamePointers f (with_source f n arg)
source_pointers f n arg = pointers_both f (with_source f n arg) (source_both f n arg) (makers_to f n arg) (makers_from f n arg)

writes_to : (f : FuncState) (n : ℕ) (arg : Arg) (i : ℕ) → Finds f (with_source f n arg) (WritesAlike f (with_source f n arg)) i
writes_to f n arg i =
    let g = with_source f n arg in
    let s = source_alike f n arg in
    finds_to (placed_sourced n arg) (block_sourced n arg) (insts_are n arg) (number_same n arg) f g refl (WritesAlike f g) i
    (λ b k x at. either n arg (λ y. WritesAlike f g x.inst y.inst) x (writes_same f g s x.inst) (writes_sourced f g s arg x.inst))

writes_from : (f : FuncState) (n : ℕ) (arg : Arg) (i : ℕ) → Finds (with_source f n arg) f (WritesAlike (with_source f n arg) f) i
writes_from f n arg i =
    let g = with_source f n arg in
    let s = alike_back f g (source_alike f n arg) in
    finds_from (placed_sourced n arg) (block_sourced n arg) (insts_are n arg) (number_same n arg) f g refl (WritesAlike g f) i
    (λ b k x at. either n arg (λ y. WritesAlike g f y.inst x.inst) x (writes_same g f s x.inst) (writes_back g f s arg x.inst))

reads_to : (f : FuncState) (n : ℕ) (arg : Arg) (i : ℕ) → i ≢ n → Finds f (with_source f n arg) (ReadsAlike f (with_source f n arg)) i
reads_to f n arg i ne =
    let g = with_source f n arg in
    let s = source_alike f n arg in
    finds_to (placed_sourced n arg) (block_sourced n arg) (insts_are n arg) (number_same n arg) f g refl (ReadsAlike f g) i
    (λ b k x at. subst (λ (y : Placed). ReadsAlike f g x.inst y.inst) (sym (other_same n arg x (λ e. ne (sym at.numbered ∙ e)))) (reads_same f g s x.inst))

reads_from : (f : FuncState) (n : ℕ) (arg : Arg) (i : ℕ) → i ≢ n → Finds (with_source f n arg) f (ReadsAlike (with_source f n arg) f) i
reads_from f n arg i ne =
    let g = with_source f n arg in
    let s = alike_back f g (source_alike f n arg) in
    finds_from (placed_sourced n arg) (block_sourced n arg) (insts_are n arg) (number_same n arg) f g refl (ReadsAlike g f) i
    (λ b k x at. subst (λ (y : Placed). ReadsAlike g f y.inst x.inst) (sym (other_same n arg x (λ e. ne (sym at.numbered ∙ e)))) (reads_same g f s x.inst))

read_by_other : (j : InstNo) (n : ℕ) → ReadBy j ≢ ReadBy (record { 0 = n }) → j.0 ≢ n
read_by_other j n h e = h (ap (λ m. ReadBy (record { 0 = m })) e)

loc_to : (f : FuncState) (n : ℕ) (arg : Arg) (loc : Loc) → loc ≢ ReadBy (record { 0 = n }) → FindsLoc f (with_source f n arg) loc
loc_to f n arg (Bytes root from len) h = tt
loc_to f n arg (ReadBy j) h = reads_to f n arg j.0 (read_by_other j n h)

loc_from : (f : FuncState) (n : ℕ) (arg : Arg) (loc : Loc) → loc ≢ ReadBy (record { 0 = n }) → FindsLoc (with_source f n arg) f loc
loc_from f n arg (Bytes root from len) h = tt
loc_from f n arg (ReadBy j) h = reads_from f n arg j.0 (read_by_other j n h)

pub source_writes : (f : FuncState) (n : ℕ) (arg : Arg) (i : ℕ) (loc : Loc) → loc ≢ ReadBy (record { 0 = n }) → SameWrites f (with_source f n arg) i loc
source_writes f n arg i loc h = writes_between f (with_source f n arg) (source_both f n arg) i loc (writes_to f n arg i) (loc_to f n arg loc h) (writes_from f n arg i) (loc_from f n arg loc h)

pub source_reads : (f : FuncState) (n : ℕ) (arg : Arg) (i : ℕ) (loc : Loc) → i ≢ n → loc ≢ ReadBy (record { 0 = n }) → SameReads f (with_source f n arg) i loc
source_reads f n arg i loc ne h = reads_between f (with_source f n arg) (source_both f n arg) i loc (reads_to f n arg i ne) (loc_to f n arg loc h) (reads_from f n arg i ne) (loc_from f n arg loc h)

-- ---- locations

pub source_written : (f : FuncState) (n : ℕ) (arg : Arg) (i : InstNo) (loc : Loc) → WritesLoc f i loc ↔ WritesLoc (with_source f n arg) i loc
source_written f n arg i loc = (
  λ h. (
    h.0,
    h.1,
    placed_sourced n arg h.2,
    at_to (placed_sourced n arg) (block_sourced n arg) (insts_are n arg) (number_same n arg) f.blocks i.0 h.0 h.1 h.2 h.3,
    either n arg (λ y. IsLocWritten (with_source f n arg) y.inst loc) h.2 (loc_written f (with_source f n arg) (source_alike f n arg) h.2.inst loc h.4)
        (written_sourced f (with_source f n arg) (source_alike f n arg) arg h.2.inst loc h.4),
  ),
  λ h.
      let s = alike_back f (with_source f n arg) (source_alike f n arg) in
      let r = at_from (placed_sourced n arg) (block_sourced n arg) (insts_are n arg) (number_same n arg) f.blocks i.0 h.0 h.1 h.2 h.3 in
      let back = either n arg (λ y. IsLocWritten (with_source f n arg) y.inst loc → IsLocWritten f r.0.inst loc) r.0 (loc_written (with_source f n arg) f s r.0.inst loc) (written_back (with_source f n arg) f s arg r.0.inst loc) in
      (h.0, h.1, r.0, r.1, back (subst (λ (y : Placed). IsLocWritten (with_source f n arg) y.inst loc) (sym r.2) h.4)),
)

pub source_read : (f : FuncState) (n : ℕ) (arg : Arg) (i : InstNo) (loc : Loc) → i.0 ≢ n → ReadsLoc f i loc ↔ ReadsLoc (with_source f n arg) i loc
source_read f n arg i loc ne = (
  λ h.
      let same = other_same n arg h.2 (λ e. ne (sym h.3.numbered ∙ e)) in (
        h.0,
        h.1,
        placed_sourced n arg h.2,
        at_to (placed_sourced n arg) (block_sourced n arg) (insts_are n arg) (number_same n arg) f.blocks i.0 h.0 h.1 h.2 h.3,
        subst (λ (y : Placed). IsLocRead (with_source f n arg) i y.inst loc) (sym same) (loc_read f (with_source f n arg) (source_alike f n arg) i h.2.inst loc h.4),
      ),
  λ h.
      let s = alike_back f (with_source f n arg) (source_alike f n arg) in
      let r = at_from (placed_sourced n arg) (block_sourced n arg) (insts_are n arg) (number_same n arg) f.blocks i.0 h.0 h.1 h.2 h.3 in
      let same = other_same n arg r.0 (λ e. ne (sym r.1.numbered ∙ e)) in
      (h.0, h.1, r.0, r.1, loc_read (with_source f n arg) f s i r.0.inst loc (subst (λ (y : Placed). IsLocRead (with_source f n arg) i y.inst loc) (sym r.2 ∙ same) h.4)),
)
