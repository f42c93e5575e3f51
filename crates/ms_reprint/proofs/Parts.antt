-- The parts of a function in order: what stands at each place, and what each instruction uses.
use Rattle.std.proofs.Common.{◌≡◌, ◌<◌, ◌+◌, ◌&&◌, ◌+ℤ◌, ℕ, zero, suc, ℤ, Bool, true, false, List, [], ◌∷◌, length, map, filter, cond, Option, Some, None, refl, sym, ap, subst, ◌∙◌, arith}
use Rattle.std.specs.Prelude.{Contains, slice_get}
use Rattle.std.specs.List.{list_all}
use Rattle.ms_ir.specs.declared.names.Ty.{Ty}
use Rattle.ms_ir.specs.declared.names.Ty.TheVariants.{Ptr}
use Rattle.ms_ir.specs.declared.names.LocalNo.{LocalNo}
use Rattle.ms_ir.specs.declared.inst.Val.{Val}
use Rattle.ms_ir.specs.declared.inst.Arg.{Arg}
use Rattle.ms_ir.specs.declared.inst.Entry.{Entry}
use Rattle.ms_ir.specs.declared.inst.IndexTerm.{IndexTerm}
use Rattle.ms_ir.specs.declared.inst.Inst.{Inst}
use Rattle.ms_ir.specs.declared.inst.Inst.TheVariants.{Alloca, Gep, Step, Load, Store, Copy, Call, Bin, Cmp, Select, Cast, Phi}
use Rattle.ms_ir.specs.declared.inst.Term.{Term}
use Rattle.ms_ir.specs.declared.inst.Term.TheVariants.{Br, CondBr, Ret, Unreachable}
use Rattle.ms_ir.specs.Inst.{result_type}
use Rattle.ms_ir.specs.Func.{Placed, Block, FuncState, insts_at}
use Rattle.ms_ir.specs.Graph.{successors}
use Rattle.ms_ir.specs.Types.{is_alloca, is_phi, has_entry, is_indexed, types_stand, term_stands}
use Rattle.ms_ir.specs.Uses.{Operand, Use, of_type, arg_operand, index_operand, entry_operand, operands_of, term_operands, used_at, entry_use, uses_at, term_uses_at}
use Rattle.ms_ir.specs.Edits.{term_at}
use Rattle.ms_resolve.specs.Faults.{IsIn}
use Rattle.ms_validity.proofs.ListLemmas.{in_here, flat_in}
use Rattle.ms_grammar.specs.Parts.{filled}
use Rattle.ms_again.specs.Ordered.{is_open, added_in, step_of, kept_term, arg_by, index_by, entry_by, inst_by, term_by, number_in, result_of, results_of, results_in, ordered_val, ordered_inst, ordered_insts, ordered_blocks}

-- ---- places

-- an instruction in order, and the one that it was
pub record From (f : FuncState) (xs : List Placed) (k : ℕ) (y : Placed) : Type 0 where
  pub x : Placed
  pub number : ℕ
  pub there : slice_get xs k ≡ Some x
  pub is : y ≡ ordered_inst f number x

same_placed : (x y : Placed) → Some x ≡ Some y → x ≡ y
same_placed x y e = cc

pub insts_from : (f : FuncState) (n : ℕ) (xs : List Placed) (k : ℕ) (y : Placed) → slice_get (ordered_insts f n xs) k ≡ Some y → From f xs k y
insts_from f n [] k y e = absurd (cc)
insts_from f n (x ∷ xs) zero y e = record { x = x; number = n; there = refl; is = sym (same_placed (ordered_inst f n x) y e) }
insts_from f n (x ∷ xs) (suc k) y e = let r = insts_from f (suc n) xs k y e in record { x = r.x; number = r.number; there = r.there; is = r.is }

pub insts_to : (f : FuncState) (n : ℕ) (xs : List Placed) (k : ℕ) (x : Placed) → slice_get xs k ≡ Some x → (m : ℕ) × (slice_get (ordered_insts f n xs) k ≡ Some (ordered_inst f m x))
insts_to f n [] k x e = absurd (cc)
insts_to f n (z ∷ xs) zero x e = (n, ap (λ w. Some (ordered_inst f n w)) (same_placed z x e))
insts_to f n (z ∷ xs) (suc k) x e = insts_to f (suc n) xs k x e

pub at_from : (f : FuncState) (n : ℕ) (bs : List Block) (b k : ℕ) (y : Placed) → slice_get (insts_at (ordered_blocks f n bs) b) k ≡ Some y → From f (insts_at bs b) k y
at_from f n [] b k y e = absurd (cc)
at_from f n (z ∷ bs) zero k y e = insts_from f n z.insts k y e
at_from f n (z ∷ bs) (suc b) k y e = at_from f (n + length z.insts) bs b k y e

pub at_to : (f : FuncState) (n : ℕ) (bs : List Block) (b k : ℕ) (x : Placed) → slice_get (insts_at bs b) k ≡ Some x → (m : ℕ) × (slice_get (insts_at (ordered_blocks f n bs) b) k ≡ Some (ordered_inst f m x))
at_to f n [] b k x e = absurd (cc)
at_to f n (z ∷ bs) zero k x e = insts_to f n z.insts k x e
at_to f n (z ∷ bs) (suc b) k x e = at_to f (n + length z.insts) bs b k x e

insts_size : (f : FuncState) (n : ℕ) (xs : List Placed) → length (ordered_insts f n xs) ≡ length xs
insts_size f n [] = refl
insts_size f n (x ∷ xs) = ap suc (insts_size f (suc n) xs)

pub at_size : (f : FuncState) (n : ℕ) (bs : List Block) (b : ℕ) → length (insts_at (ordered_blocks f n bs) b) ≡ length (insts_at bs b)
at_size f n [] b = refl
at_size f n (z ∷ bs) zero = insts_size f n z.insts
at_size f n (z ∷ bs) (suc b) = at_size f (n + length z.insts) bs b

pub blocks_size : (f : FuncState) (n : ℕ) (bs : List Block) → length (ordered_blocks f n bs) ≡ length bs
blocks_size f n [] = refl
blocks_size f n (z ∷ bs) = ap suc (blocks_size f (n + length z.insts) bs)

pub term_in_order : (f : FuncState) (n : ℕ) (bs : List Block) (b : ℕ) → term_at (ordered_blocks f n bs) b ≡ term_by (ordered_val f) (term_at bs b)
term_in_order f n [] b = refl
term_in_order f n (z ∷ bs) zero = refl
term_in_order f n (z ∷ bs) (suc b) = term_in_order f (n + length z.insts) bs b

-- the block that had a terminator
pub record FromBlock (f : FuncState) (bs : List Block) (b : ℕ) (y : Block) : Type 0 where
  pub x : Block
  pub there : slice_get bs b ≡ Some x
  pub term_is : y.term ≡ term_by (ordered_val f) x.term

same_block : (x y : Block) → Some x ≡ Some y → x ≡ y
same_block x y e = cc

pub block_from : (f : FuncState) (n : ℕ) (bs : List Block) (b : ℕ) (y : Block) → slice_get (ordered_blocks f n bs) b ≡ Some y → FromBlock f bs b y
block_from f n [] b y e = absurd (cc)
block_from f n (z ∷ bs) zero y e = record { x = z; there = refl; term_is = ap (λ (w : Block). w.term) (sym (same_block _ y e)) }
block_from f n (z ∷ bs) (suc b) y e = let r = block_from f (n + length z.insts) bs b y e in record { x = r.x; there = r.there; term_is = r.term_is }

pub block_there : (bs : List Block) (b k : ℕ) (x : Placed) → slice_get (insts_at bs b) k ≡ Some x → (z : Block) × (slice_get bs b ≡ Some z) × (slice_get z.insts k ≡ Some x)
block_there [] b k x e = absurd (cc)
block_there (z ∷ bs) zero k x e = (z, refl, e)
block_there (z ∷ bs) (suc b) k x e = block_there bs b k x e

-- a result is among the results
result_in : (x : Placed) (l : LocalNo) → x.result ≡ Some l → IsIn (result_of x) l.0
result_in x l e = subst (λ (r : Option LocalNo). IsIn (number_in r) l.0) (sym e) (in_here l.0 [])

pub given_in : (bs : List Block) (b k : ℕ) (x : Placed) (l : LocalNo) → slice_get (insts_at bs b) k ≡ Some x → x.result ≡ Some l → IsIn (results_in bs) l.0
given_in bs b k x l at gives =
    let z = block_there bs b k x at in
    flat_in results_of bs z.0 l.0 (b, z.1) (flat_in result_of z.0.insts x l.0 (k, z.2) (result_in x l gives))

-- ---- terminators

pub same_targets : (v : Val → Val) (t : Term) → successors (term_by v t) ≡ successors t
same_targets v (Br b text) = refl
same_targets v (CondBr cond a b text) = refl
same_targets v (Ret given text) = refl
same_targets v (Unreachable text) = refl

pub same_stands : (v : Val → Val) (t : Term) → term_stands (term_by v t) ≡ term_stands t
same_stands v (Br b text) = refl
same_stands v (CondBr cond a b text) = refl
same_stands v (Ret None text) = refl
same_stands v (Ret (Some given) text) = refl
same_stands v (Unreachable text) = refl

abbrev pub operand_by : (Val → Val) → Operand → Operand
operand_by v o = record { ty = o.ty; val = v o.val }

pub term_operands_by : (v : Val → Val) (t : Term) → term_operands (term_by v t) ≡ map (operand_by v) (term_operands t)
term_operands_by v (Br b text) = refl
term_operands_by v (CondBr cond a b text) = refl
term_operands_by v (Ret None text) = refl
term_operands_by v (Ret (Some given) text) = refl
term_operands_by v (Unreachable text) = refl

-- ---- instructions

pub same_result : (v : Val → Val) (i : Inst) → result_type (inst_by v i) ≡ result_type i
same_result v (Alloca size head tail) = refl
same_result v (Gep base offset head index tail) = refl
same_result v (Step base offset terms head index tail) = step (v base) (offset +ℤ added_in (map (index_by v) terms)) (filter is_open (map (index_by v) terms)) (filled (map kept_term (map (index_by v) terms)) index)
  where
    step : (b : Val) (o : ℤ) (ts : List IndexTerm) (text : List ℕ) → result_type (step_of b o ts head text tail) ≡ Some Ptr
    step b o [] text = refl
    step b o (t ∷ ts) text = refl
same_result v (Load ty ptr tail) = refl
same_result v (Store ty val ptr tail) = refl
same_result v (Copy to from len head tail) = refl
same_result v (Call callee ret args effects head tail) = refl
same_result v (Bin op flags ty a b tail) = refl
same_result v (Cmp pred flags ty a b tail) = refl
same_result v (Select cond ty a b tail) = refl
same_result v (Cast op flags from a to tail) = refl
same_result v (Phi ty entries tail) = refl

-- what the tests on an instruction's form tell
pub record HasForm (i j : Inst) : Type 0 where
  pub types : types_stand i ≡ true → types_stand j ≡ true
  pub alloca : is_alloca j ≡ is_alloca i
  pub phi : is_phi j ≡ is_phi i
  pub entered : has_entry j ≡ has_entry i

plain_form : (i j : Inst) → types_stand j ≡ types_stand i → is_alloca j ≡ is_alloca i → is_phi j ≡ is_phi i → has_entry j ≡ has_entry i → HasForm i j
plain_form i j t a p e = record { types = λ h. t ∙ h; alloca = a; phi = p; entered = e }

both_true : (a b : Bool) → (a && b) ≡ true → (a ≡ true) × (b ≡ true)
both_true true b h = (refl, h)
both_true false b h = absurd (cc)

indexed_by : (v : Val → Val) (ts : List IndexTerm) → list_all is_indexed ts ≡ true → list_all is_indexed (filter is_open (map (index_by v) ts)) ≡ true
indexed_by v [] h = refl
indexed_by v (t ∷ ts) h = let both = both_true (is_indexed t) (list_all is_indexed ts) h in by (is_open (index_by v t)) both.0 (indexed_by v ts both.1)
  where
    by : (c : Bool) → is_indexed t ≡ true → list_all is_indexed (filter is_open (map (index_by v) ts)) ≡ true → list_all is_indexed (cond c (index_by v t ∷ filter is_open (map (index_by v) ts)) (filter is_open (map (index_by v) ts))) ≡ true
    by true one rest = ap (λ (c : Bool). c && list_all is_indexed (filter is_open (map (index_by v) ts))) one ∙ rest
    by false one rest = rest

step_form : (base b : Val) (offset o : ℤ) (terms ts : List IndexTerm) (head index text tail : List ℕ) → (list_all is_indexed terms ≡ true → list_all is_indexed ts ≡ true) →
    HasForm (Step base offset terms head index tail) (step_of b o ts head text tail)
step_form base b offset o terms [] head index text tail h = record { types = λ t. refl; alloca = refl; phi = refl; entered = refl }
step_form base b offset o terms (t ∷ ts) head index text tail h = record { types = h; alloca = refl; phi = refl; entered = refl }

pub same_form : (v : Val → Val) (i : Inst) → HasForm i (inst_by v i)
same_form v (Alloca size head tail) = plain_form _ _ refl refl refl refl
same_form v (Gep base offset head index tail) = plain_form _ _ refl refl refl refl
same_form v (Step base offset terms head index tail) =
    step_form base (v base) offset (offset +ℤ added_in (map (index_by v) terms)) terms (filter is_open (map (index_by v) terms)) head index (filled (map kept_term (map (index_by v) terms)) index) tail (indexed_by v terms)
same_form v (Load ty ptr tail) = plain_form _ _ refl refl refl refl
same_form v (Store ty val ptr tail) = plain_form _ _ refl refl refl refl
same_form v (Copy to from len head tail) = plain_form _ _ refl refl refl refl
same_form v (Call callee ret args effects head tail) = plain_form _ _ refl refl refl refl
same_form v (Bin op flags ty a b tail) = plain_form _ _ refl refl refl refl
same_form v (Cmp pred flags ty a b tail) = plain_form _ _ refl refl refl refl
same_form v (Select cond ty a b tail) = plain_form _ _ refl refl refl refl
same_form v (Cast op flags from a to tail) = plain_form _ _ refl refl refl refl
same_form v (Phi ty [] tail) = plain_form _ _ refl refl refl refl
same_form v (Phi ty (e ∷ es) tail) = plain_form _ _ refl refl refl refl

-- ---- operands

pub back_map : {A B : Type 0} (g : A → B) (xs : List A) (y : B) → Contains (map g xs) y → (x : A) × Contains xs x × (g x ≡ y)
back_map g [] y (k, lt, is) = absurd (let l : k < 0 = lt in omega arith)
back_map g (x ∷ xs) y (zero, lt, is) = (x, (zero, omega arith, refl), is)
back_map g (x ∷ xs) y (suc k, lt, is) =
    let r = back_map g xs y (k, omega arith, is) in
    (r.0, (suc r.1.0, (let l = r.1.1 in omega arith), r.1.2), r.2)

pub on_cons : {A : Type 0} (z : A) (xs : List A) (x : A) → Contains xs x → Contains (z ∷ xs) x
on_cons z xs x h = (suc h.0, (let l = h.1 in omega arith), h.2)

pub back_filter : {A : Type 0} (p : A → Bool) (xs : List A) (x : A) → Contains (filter p xs) x → Contains xs x
back_filter p [] x h = h
back_filter {A} p (z ∷ xs) x h = by (p z) h (back_filter p xs x)
  where
    by : (c : Bool) → Contains (cond c (z ∷ filter p xs) (filter p xs)) x → (Contains (filter p xs) x → Contains xs x) → Contains (z ∷ xs) x
    by true (zero, lt, is) more = (zero, omega arith, is)
    by true (suc k, lt, is) more = on_cons z xs x (more (k, omega arith, is))
    by false h more = on_cons z xs x (more h)

args_operands : (v : Val → Val) (args : List Arg) → map arg_operand (map (arg_by v) args) ≡ map (operand_by v) (map arg_operand args)
args_operands v [] = refl
args_operands v (a ∷ args) = ap (λ (os : List Operand). arg_operand (arg_by v a) ∷ os) (args_operands v args)

entries_operands : (v : Val → Val) (ty : Ty) (es : List Entry) → map (entry_operand ty) (map (entry_by v) es) ≡ map (operand_by v) (map (entry_operand ty) es)
entries_operands v ty [] = refl
entries_operands v ty (e ∷ es) = ap (λ (os : List Operand). entry_operand ty (entry_by v e) ∷ os) (entries_operands v ty es)

terms_operands : (v : Val → Val) (ts : List IndexTerm) → map index_operand (map (index_by v) ts) ≡ map (operand_by v) (map index_operand ts)
terms_operands v [] = refl
terms_operands v (t ∷ ts) = ap (λ (os : List Operand). index_operand (index_by v t) ∷ os) (terms_operands v ts)

-- an operand in order, and the one that it was
pub record FromOperand (v : Val → Val) (os : List Operand) (o : Operand) : Type 0 where
  pub was : Operand
  pub there : Contains os was
  pub is : operand_by v was ≡ o

pub from_mapped : (v : Val → Val) (os news : List Operand) (o : Operand) → news ≡ map (operand_by v) os → Contains news o → FromOperand v os o
from_mapped v os news o e h =
    let r = back_map (operand_by v) os o (subst (λ (l : List Operand). Contains l o) e h) in record { was = r.0; there = r.1; is = r.2 }

step_operands : (b : Val) (o : ℤ) (ts : List IndexTerm) (head index tail : List ℕ) → operands_of (step_of b o ts head index tail) ≡ of_type Ptr b ∷ map index_operand ts
step_operands b o [] head index tail = refl
step_operands b o (t ∷ ts) head index tail = refl

pub on_map : {A B : Type 0} (g : A → B) (xs : List A) (x : A) → Contains xs x → Contains (map g xs) (g x)
on_map g [] x (k, lt, is) = absurd (let l : k < 0 = lt in omega arith)
on_map g (z ∷ xs) x (zero, lt, is) = (zero, omega arith, ap g is)
on_map g (z ∷ xs) x (suc k, lt, is) = on_cons (g z) (map g xs) (g x) (on_map g xs x (k, omega arith, is))

open_operands : (v : Val → Val) (b : Val) (ts : List IndexTerm) (o : Operand) → Contains (of_type Ptr (v b) ∷ map index_operand (filter is_open (map (index_by v) ts))) o →
    Contains (of_type Ptr (v b) ∷ map index_operand (map (index_by v) ts)) o
open_operands v b ts o (zero, lt, is) = (zero, omega arith, is)
open_operands v b ts o (suc k, lt, is) =
    let news = map (index_by v) ts in
    let r = back_map index_operand (filter is_open news) o (k, omega arith, is) in
    on_cons (of_type Ptr (v b)) (map index_operand news) o (subst (λ w. Contains (map index_operand news) w) r.2 (on_map index_operand news r.0 (back_filter is_open news r.0 r.1)))

pub operands_by : (v : Val → Val) (i : Inst) (o : Operand) → Contains (operands_of (inst_by v i)) o → FromOperand v (operands_of i) o
operands_by v (Alloca size head tail) o h = from_mapped v [] [] o refl h
operands_by v (Gep base offset head index tail) o h = from_mapped v _ _ o refl h
operands_by v (Step base offset terms head index tail) o h =
    let news = map (index_by v) terms in
    let at = subst (λ (l : List Operand). Contains l o) (step_operands (v base) (offset +ℤ added_in news) (filter is_open news) head (filled (map kept_term news) index) tail) h in
    from_mapped v (of_type Ptr base ∷ map index_operand terms) (of_type Ptr (v base) ∷ map index_operand news) o
    (ap (λ (os : List Operand). of_type Ptr (v base) ∷ os) (terms_operands v terms)) (open_operands v base terms o at)
operands_by v (Load ty ptr tail) o h = from_mapped v _ _ o refl h
operands_by v (Store ty val ptr tail) o h = from_mapped v _ _ o refl h
operands_by v (Copy to from len head tail) o h = from_mapped v _ _ o refl h
operands_by v (Call callee ret args effects head tail) o h = from_mapped v (map arg_operand args) _ o (args_operands v args) h
operands_by v (Bin op flags ty a b tail) o h = from_mapped v _ _ o refl h
operands_by v (Cmp pred flags ty a b tail) o h = from_mapped v _ _ o refl h
operands_by v (Select cond ty a b tail) o h = from_mapped v _ _ o refl h
operands_by v (Cast op flags from a to tail) o h = from_mapped v _ _ o refl h
operands_by v (Phi ty entries tail) o h = from_mapped v (map (entry_operand ty) entries) _ o (entries_operands v ty entries) h

-- ---- uses

abbrev pub use_by : (Val → Val) → Use → Use
use_by v u = record { block = u.block; place = u.place; val = v u.val }

pub record FromUse (v : Val → Val) (us : List Use) (u : Use) : Type 0 where
  pub was : Use
  pub there : Contains us was
  pub is : use_by v was ≡ u

used_by : (v : Val → Val) (b k : ℕ) (os news : List Operand) (u : Use) → ((o : Operand) → Contains news o → FromOperand v os o) → Contains (map (used_at b k) news) u → FromUse v (map (used_at b k) os) u
used_by v b k os news u back h =
    let r = back_map (used_at b k) news u h in
    let o = back r.0 r.1 in
    record { was = used_at b k o.was; there = on_map (used_at b k) os o.was o.there; is = ap (used_at b k) o.is ∙ r.2 }

entries_used : (f : FuncState) (n : ℕ) (bs : List Block) (es : List Entry) →
    map (entry_use (ordered_blocks f n bs)) (map (entry_by (ordered_val f)) es) ≡ map (use_by (ordered_val f)) (map (entry_use bs) es)
entries_used f n bs [] = refl
entries_used f n bs (e ∷ es) =
    ap (λ k. let u : Use = record { block = e.from.0; place = k; val = ordered_val f e.val } in u ∷ map (entry_use (ordered_blocks f n bs)) (map (entry_by (ordered_val f)) es)) (at_size f n bs e.from.0)
    ∙ ap (λ (us : List Use). use_by (ordered_val f) (entry_use bs e) ∷ us) (entries_used f n bs es)

-- no phi: each operand is used where the instruction stands
pub is_used : (bs : List Block) (b k : ℕ) (i : Inst) → is_phi i ≡ false → uses_at bs b k i ≡ map (used_at b k) (operands_of i)
is_used bs b k (Alloca size head tail) h = refl
is_used bs b k (Gep base offset head index tail) h = refl
is_used bs b k (Step base offset terms head index tail) h = refl
is_used bs b k (Load ty ptr tail) h = refl
is_used bs b k (Store ty val ptr tail) h = refl
is_used bs b k (Copy to from len head tail) h = refl
is_used bs b k (Call callee ret args effects head tail) h = refl
is_used bs b k (Bin op flags ty x y tail) h = refl
is_used bs b k (Cmp pred flags ty x y tail) h = refl
is_used bs b k (Select cond ty x y tail) h = refl
is_used bs b k (Cast op flags from x to tail) h = refl
is_used bs b k (Phi ty entries tail) h = absurd (cc)

pub uses_by : (f : FuncState) (n : ℕ) (bs : List Block) (b k : ℕ) (i : Inst) (u : Use) → Contains (uses_at (ordered_blocks f n bs) b k (inst_by (ordered_val f) i)) u →
    FromUse (ordered_val f) (uses_at bs b k i) u
uses_by f n bs b k i u h = by (is_phi i) refl
  where
    phi : (i : Inst) → Contains (uses_at (ordered_blocks f n bs) b k (inst_by (ordered_val f) i)) u → is_phi i ≡ true → FromUse (ordered_val f) (uses_at bs b k i) u
    phi (Phi ty entries tail) h t =
        let r = back_map (use_by (ordered_val f)) (map (entry_use bs) entries) u (subst (λ (us : List Use). Contains us u) (entries_used f n bs entries) h) in
        record { was = r.0; there = r.1; is = r.2 }
    phi (Alloca size head tail) h t = absurd (cc)
    phi (Gep base offset head index tail) h t = absurd (cc)
    phi (Step base offset terms head index tail) h t = absurd (cc)
    phi (Load ty ptr tail) h t = absurd (cc)
    phi (Store ty val ptr tail) h t = absurd (cc)
    phi (Copy to from len head tail) h t = absurd (cc)
    phi (Call callee ret args effects head tail) h t = absurd (cc)
    phi (Bin op flags ty x y tail) h t = absurd (cc)
    phi (Cmp pred flags ty x y tail) h t = absurd (cc)
    phi (Select cond ty x y tail) h t = absurd (cc)
    phi (Cast op flags from x to tail) h t = absurd (cc)

    by : (t : Bool) → is_phi i ≡ t → FromUse (ordered_val f) (uses_at bs b k i) u
    by true t = phi i h t
    by false t =
        let no : is_phi (inst_by (ordered_val f) i) ≡ false = (same_form (ordered_val f) i).phi ∙ t in
        let at = subst (λ (us : List Use). Contains us u) (is_used (ordered_blocks f n bs) b k (inst_by (ordered_val f) i) no) h in
        subst (λ (us : List Use). FromUse (ordered_val f) us u) (sym (is_used bs b k i t))
        (used_by (ordered_val f) b k (operands_of i) (operands_of (inst_by (ordered_val f) i)) u (operands_by (ordered_val f) i) at)

pub term_uses_by : (f : FuncState) (n : ℕ) (bs : List Block) (b : ℕ) (t : Term) (u : Use) → Contains (term_uses_at (ordered_blocks f n bs) b (term_by (ordered_val f) t)) u →
    FromUse (ordered_val f) (term_uses_at bs b t) u
term_uses_by f n bs b t u h =
    let v = ordered_val f in
    let at = subst (λ k. Contains (map (used_at b k) (term_operands (term_by v t))) u) (at_size f n bs b) h in
    used_by v b (length (insts_at bs b)) (term_operands t) (term_operands (term_by v t)) u (λ o on. from_mapped v (term_operands t) (term_operands (term_by v t)) o (term_operands_by v t) on) at
