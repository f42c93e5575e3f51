-- A function in order is in order.
use Rattle.std.proofs.Common.{◌≡◌, ◌≤◌, ◌<◌, ◌+◌, ◌==◌, ℕ, suc, Bool, true, false, if◌then◌else◌, nat_lt, List, [], ◌∷◌, ◌++◌, Option, Some, None, option_map, length, map, refl, sym, ap, ◌∙◌, arith, tests}
use Rattle.std.specs.List.{flat_map}
use Rattle.std.proofs.lemmas.List.{length-map, map-append}
use Rattle.ms_ir.specs.declared.names.Name.{Name}
use Rattle.ms_ir.specs.declared.names.LocalNo.{LocalNo}
use Rattle.ms_ir.specs.declared.names.Param.{Param}
use Rattle.ms_ir.specs.declared.inst.Val.{Val}
use Rattle.ms_ir.specs.declared.inst.Val.TheVariants.{Num, Local, Global}
use Rattle.ms_ir.specs.declared.inst.Arg.{Arg}
use Rattle.ms_ir.specs.declared.inst.Entry.{Entry}
use Rattle.ms_ir.specs.declared.inst.IndexTerm.{IndexTerm}
use Rattle.ms_ir.specs.declared.inst.Inst.{Inst}
use Rattle.ms_ir.specs.declared.inst.Inst.TheVariants.{Alloca, Gep, Step, Load, Store, Copy, Call, Bin, Cmp, Select, Cast, Phi}
use Rattle.ms_ir.specs.declared.inst.Term.{Term}
use Rattle.ms_ir.specs.declared.inst.Term.TheVariants.{Br, CondBr, Ret, Unreachable}
use Rattle.ms_ir.specs.Func.{Placed, Block, FuncState}
use Rattle.ms_grammar.specs.Kept.{Each}
use Rattle.ms_again.specs.Same.{own_name, plain_param}
use Rattle.ms_again.specs.Ordered.{joined, arg_by, index_by, entry_by, inst_by, term_by, number_in, result_of, results_of, results_in, place_in, local_at, ordered_local, ordered_val, ordered_inst, ordered_insts, ordered_blocks, insts_count, ordered}
use Rattle.ms_again.proofs.Carried.{AreAlike}
use Rattle.ms_again.proofs.InOrder.{IsTold, told}
use Rattle.ms_again.proofs.Ordered.{own_twice, params_twice, ordered_plain}
use Rattle.ms_reprint.proofs.Joined.{IsKeeping, ordered_keeps, joined_by}

-- ---- locals

place_mapped : (p : ℕ) (rs : List ℕ) (l : ℕ) (ks : List ℕ) → Each (IsTold p rs l) ks → place_in (map (local_at p rs) ks) (local_at p rs l) ≡ place_in ks l
place_mapped p rs l [] h = refl
place_mapped p rs l (k ∷ ks) h =
    ap (λ (b : Bool). if b then 0 else suc (place_in (map (local_at p rs) ks) (local_at p rs l))) h.0 ∙ ap (λ (n : ℕ). if k == l then 0 else suc n) (place_mapped p rs l ks h.1)

at_twice : (p : ℕ) (rs : List ℕ) (l : ℕ) → local_at p (map (local_at p rs) rs) (local_at p rs l) ≡ local_at p rs l
at_twice p rs l = by (nat_lt (local_at p rs l) p) refl (nat_lt l p) refl
  where
    by : (t : Bool) → nat_lt (local_at p rs l) p ≡ t → (u : Bool) → nat_lt l p ≡ u → local_at p (map (local_at p rs) rs) (local_at p rs l) ≡ local_at p rs l
    by true t u e = ap (λ (b : Bool). if b then local_at p rs l else p + place_in (map (local_at p rs) rs) (local_at p rs l)) t
    by false t true e =
        let stays = ap (λ (b : Bool). if b then l else p + place_in rs l) e in
        let less : l < p = grind (arith, tests) in
        let more : p ≤ local_at p rs l = grind (arith, tests) in
        absurd (omega arith)
    by false t false e =
        ap (λ (b : Bool). if b then local_at p rs l else p + place_in (map (local_at p rs) rs) (local_at p rs l)) t
        ∙ ap (λ (n : ℕ). p + n) (place_mapped p rs l rs (told p rs l)) ∙ sym (ap (λ (b : Bool). if b then l else p + place_in rs l) e)

option_numbers : (f : FuncState) (o : Option LocalNo) → number_in (option_map (ordered_local f) o) ≡ map (local_at (length f.params) (results_in f.blocks)) (number_in o)
option_numbers f None = refl
option_numbers f (Some l) = refl

insts_results : (f : FuncState) (n : ℕ) (xs : List Placed) → flat_map result_of (ordered_insts f n xs) ≡ map (local_at (length f.params) (results_in f.blocks)) (flat_map result_of xs)
insts_results f n [] = refl
insts_results f n (x ∷ xs) =
    let at = local_at (length f.params) (results_in f.blocks) in
    ap (λ (ks : List ℕ). ks ++ flat_map result_of (ordered_insts f (suc n) xs)) (option_numbers f x.result) ∙ ap (λ (ks : List ℕ). map at (result_of x) ++ ks) (insts_results f (suc n) xs)
    ∙ sym (map-append at (result_of x) (flat_map result_of xs))

blocks_results : (f : FuncState) (n : ℕ) (bs : List Block) → results_in (ordered_blocks f n bs) ≡ map (local_at (length f.params) (results_in f.blocks)) (results_in bs)
blocks_results f n [] = refl
blocks_results f n (b ∷ bs) =
    let at = local_at (length f.params) (results_in f.blocks) in
    ap (λ (ks : List ℕ). ks ++ results_in (ordered_blocks f (n + length b.insts) bs)) (insts_results f n b.insts) ∙ ap (λ (ks : List ℕ). map at (results_of b) ++ ks) (blocks_results f (n + length b.insts) bs)
    ∙ sym (map-append at (results_of b) (results_in bs))

local_twice : (f : FuncState) (l : LocalNo) → ordered_local (ordered f) (ordered_local f l) ≡ ordered_local f l
local_twice f l =
    let at = local_at (length f.params) (results_in f.blocks) in
    ap (λ (k : ℕ). let n : LocalNo = record { 0 = k } in n)
    (ap (λ p. local_at p (results_in (ordered_blocks f 0 f.blocks)) (at l.0)) (length-map f.params plain_param) ∙ ap (λ ks. local_at (length f.params) ks (at l.0)) (blocks_results f 0 f.blocks)
    ∙ at_twice (length f.params) (results_in f.blocks) l.0)

val_twice : (f : FuncState) (v : Val) → ordered_val (ordered f) (ordered_val f v) ≡ ordered_val f v
val_twice f (Num ty n) = refl
val_twice f (Local l) = ap (λ (k : LocalNo). Local k) (local_twice f l)
val_twice f (Global g) = refl

-- ---- instructions

module _ (v w : Val → Val) (keeps : IsKeeping w) (h : (x : Val) → w (v x) ≡ v x) where
  arg_twice : (a : Arg) → arg_by w (arg_by v a) ≡ arg_by v a
  arg_twice a = ap (λ x. let b : Arg = record a { val = x } in b) (h a.val)

  args_twice : (args : List Arg) → map (arg_by w) (map (arg_by v) args) ≡ map (arg_by v) args
  args_twice [] = refl
  args_twice (a ∷ args) = ap (λ (b : Arg). b ∷ map (arg_by w) (map (arg_by v) args)) (arg_twice a) ∙ ap (λ (bs : List Arg). arg_by v a ∷ bs) (args_twice args)

  entries_twice : (es : List Entry) → map (entry_by w) (map (entry_by v) es) ≡ map (entry_by v) es
  entries_twice [] = refl
  entries_twice (e ∷ es) =
      ap (λ x. let d : Entry = record e { val = x } in d ∷ map (entry_by w) (map (entry_by v) es)) (h e.val) ∙ ap (λ (ds : List Entry). entry_by v e ∷ ds) (entries_twice es)

  terms_twice : (ts : List IndexTerm) → map (index_by w) (map (index_by v) ts) ≡ map (index_by v) ts
  terms_twice [] = refl
  terms_twice (t ∷ ts) =
      ap (λ x. let i : IndexTerm = record t { val = x } in i ∷ map (index_by w) (map (index_by v) ts)) (h t.val) ∙ ap (λ (us : List IndexTerm). index_by v t ∷ us) (terms_twice ts)

  inst_twice : (i : Inst) → inst_by w (inst_by v i) ≡ inst_by v i
  inst_twice (Alloca size head tail) = refl
  inst_twice (Gep base offset head index tail) = ap (λ x. Gep x offset head index tail) (h base)
  inst_twice (Step base offset terms head index tail) =
      let news = map (index_by v) terms in
      joined_by w keeps (v base) offset news head index tail
      ∙ ap (λ x. joined x offset (map (index_by w) news) head index tail) (h base)
      ∙ ap (λ (us : List IndexTerm). joined (v base) offset us head index tail) (terms_twice terms)
  inst_twice (Load ty ptr tail) = ap (λ x. Load ty x tail) (h ptr)
  inst_twice (Store ty a ptr tail) = ap (λ x. Store ty x (w (v ptr)) tail) (h a) ∙ ap (λ x. Store ty (v a) x tail) (h ptr)
  inst_twice (Copy to from len head tail) = ap (λ x. Copy x (arg_by w (arg_by v from)) len head tail) (arg_twice to) ∙ ap (λ x. Copy (arg_by v to) x len head tail) (arg_twice from)
  inst_twice (Call callee ret args effects head tail) = ap (λ xs. Call callee ret xs effects head tail) (args_twice args)
  inst_twice (Bin op flags ty a b tail) = ap (λ x. Bin op flags ty x (w (v b)) tail) (h a) ∙ ap (λ x. Bin op flags ty (v a) x tail) (h b)
  inst_twice (Cmp pred flags ty a b tail) = ap (λ x. Cmp pred flags ty x (w (v b)) tail) (h a) ∙ ap (λ x. Cmp pred flags ty (v a) x tail) (h b)
  inst_twice (Select c ty a b tail) =
      ap (λ x. Select x ty (w (v a)) (w (v b)) tail) (h c) ∙ ap (λ x. Select (v c) ty x (w (v b)) tail) (h a) ∙ ap (λ x. Select (v c) ty (v a) x tail) (h b)
  inst_twice (Cast op flags from a to tail) = ap (λ x. Cast op flags from x to tail) (h a)
  inst_twice (Phi ty entries tail) = ap (λ es. Phi ty es tail) (entries_twice entries)

  term_twice : (t : Term) → term_by w (term_by v t) ≡ term_by v t
  term_twice (Br to tail) = refl
  term_twice (CondBr c a b tail) = ap (λ x. CondBr x a b tail) (h c)
  term_twice (Ret None tail) = refl
  term_twice (Ret (Some g) tail) = ap (λ x. Ret (Some (g.0, x)) tail) (h g.1)
  term_twice (Unreachable tail) = refl

result_twice : (f : FuncState) (o : Option LocalNo) → option_map (ordered_local (ordered f)) (option_map (ordered_local f) o) ≡ option_map (ordered_local f) o
result_twice f None = refl
result_twice f (Some l) = ap (λ (k : LocalNo). Some k) (local_twice f l)

insts_twice : (f : FuncState) (n : ℕ) (xs : List Placed) → ordered_insts (ordered f) n (ordered_insts f n xs) ≡ ordered_insts f n xs
insts_twice f n [] = refl
insts_twice f n (x ∷ xs) =
    let P : Option LocalNo → Name → Inst → Placed = λ r m i. record { number = n; result = r; name = m; inst = i } in
    let rest = ordered_insts (ordered f) (suc n) (ordered_insts f (suc n) xs) in
    let i = inst_by (ordered_val (ordered f)) (inst_by (ordered_val f) x.inst) in
    ap (λ r. P r (own_name (own_name x.name)) i ∷ rest) (result_twice f x.result)
    ∙ ap (λ m. P (option_map (ordered_local f) x.result) m i ∷ rest) (own_twice x.name)
    ∙ ap (λ j. P (option_map (ordered_local f) x.result) (own_name x.name) j ∷ rest) (inst_twice (ordered_val f) (ordered_val (ordered f)) (ordered_keeps (ordered f)) (val_twice f) x.inst)
    ∙ ap (λ (ys : List Placed). ordered_inst f n x ∷ ys) (insts_twice f (suc n) xs)

insts_size : (f : FuncState) (n : ℕ) (xs : List Placed) → length (ordered_insts f n xs) ≡ length xs
insts_size f n [] = refl
insts_size f n (x ∷ xs) = ap suc (insts_size f (suc n) xs)

blocks_twice : (f : FuncState) (n : ℕ) (bs : List Block) → ordered_blocks (ordered f) n (ordered_blocks f n bs) ≡ ordered_blocks f n bs
blocks_twice f n [] = refl
blocks_twice f n (b ∷ bs) =
    let B : Name → List Placed → Term → Block = λ m xs t. record { name = m; insts = xs; term = t } in
    let xs = ordered_insts (ordered f) n (ordered_insts f n b.insts) in
    let t = term_by (ordered_val (ordered f)) (term_by (ordered_val f) b.term) in
    let more = ordered_blocks f (n + length b.insts) bs in
    let rest = ordered_blocks (ordered f) (n + length (ordered_insts f n b.insts)) more in
    ap (λ m. B m xs t ∷ rest) (own_twice b.name)
    ∙ ap (λ (ys : List Placed). B (own_name b.name) ys t ∷ rest) (insts_twice f n b.insts)
    ∙ ap (λ e. B (own_name b.name) (ordered_insts f n b.insts) e ∷ rest) (term_twice (ordered_val f) (ordered_val (ordered f)) (ordered_keeps (ordered f)) (val_twice f) b.term)
    ∙ ap (λ (k : ℕ). B (own_name b.name) (ordered_insts f n b.insts) (term_by (ordered_val f) b.term) ∷ ordered_blocks (ordered f) (n + k) more) (insts_size f n b.insts)
    ∙ ap (λ (ys : List Block). B (own_name b.name) (ordered_insts f n b.insts) (term_by (ordered_val f) b.term) ∷ ys) (blocks_twice f (n + length b.insts) bs)

count_twice : (f : FuncState) (n : ℕ) (bs : List Block) → insts_count (ordered_blocks f n bs) ≡ insts_count bs
count_twice f n [] = refl
count_twice f n (b ∷ bs) = ap (λ (k : ℕ). k + insts_count (ordered_blocks f (n + length b.insts) bs)) (insts_size f n b.insts) ∙ ap (λ (k : ℕ). length b.insts + k) (count_twice f (n + length b.insts) bs)

pub ordered_twice : (f : FuncState) → ordered (ordered f) ≡ ordered f
ordered_twice f =
    let F : List Param → List Block → ℕ → ℕ → FuncState = λ ps bs n l. record f { params = ps; blocks = bs; made = n; locals = l; spare = 0 } in
    let at = local_at (length f.params) (results_in f.blocks) in
    let bs = ordered_blocks (ordered f) 0 (ordered_blocks f 0 f.blocks) in
    let n = insts_count (ordered_blocks f 0 f.blocks) in
    let ks = results_in (ordered_blocks f 0 f.blocks) in
    let l = length (map plain_param f.params) + length ks in
    ap (λ ps. F ps bs n l) (params_twice f.params)
    ∙ ap (λ (cs : List Block). F (map plain_param f.params) cs n l) (blocks_twice f 0 f.blocks)
    ∙ ap (λ (k : ℕ). F (map plain_param f.params) (ordered_blocks f 0 f.blocks) k l) (count_twice f 0 f.blocks)
    ∙ ap (λ (k : ℕ). F (map plain_param f.params) (ordered_blocks f 0 f.blocks) (insts_count f.blocks) (k + length ks)) (length-map f.params plain_param)
    ∙ ap (λ (k : ℕ). F (map plain_param f.params) (ordered_blocks f 0 f.blocks) (insts_count f.blocks) (length f.params + k)) (ap length (blocks_results f 0 f.blocks) ∙ length-map (results_in f.blocks) at)

pub ordered_alike : (g f : FuncState) → AreAlike g (ordered f) → ordered g ≡ ordered f
ordered_alike g f alike = sym (ordered_plain g) ∙ ap ordered alike ∙ ordered_plain (ordered f) ∙ ordered_twice f
