-- Modules that are the same but for written numbers and room are the same in order.
use Rattle.std.proofs.Common.{◌≡◌, ◌+◌, ℕ, suc, List, [], ◌∷◌, ◌++◌, Option, Some, None, length, map, refl, sym, ap, ◌∙◌}
use Rattle.std.specs.List.{flat_map}
use Rattle.std.specs.Option.{option_map}
use Rattle.std.proofs.lemmas.List.{length-map}
use mathlib.Core.Path.{fun_ext}
use Rattle.ms_ir.specs.declared.names.Name.{Name}
use Rattle.ms_ir.specs.declared.names.Name.TheVariants.{Word, Number, Absent}
use Rattle.ms_ir.specs.declared.names.LocalNo.{LocalNo}
use Rattle.ms_ir.specs.declared.names.Param.{Param}
use Rattle.ms_ir.specs.declared.inst.Val.{Val}
use Rattle.ms_ir.specs.declared.inst.Val.TheVariants.{Num, Local, Global}
use Rattle.ms_ir.specs.Func.{Placed, Block, FuncState}
use Rattle.ms_ir.specs.Module.{ModuleState}
use Rattle.ms_again.specs.Same.{own_name, plain_param, plain_inst, plain_block, plain_func, plain_module, IsSameModule}
use Rattle.ms_again.specs.Ordered.{inst_by, term_by, result_of, results_of, results_in, local_at, ordered_local, ordered_val, ordered_insts, ordered_blocks, insts_count, ordered, ordered_module, IsSameInOrder}

pub own_twice : (n : Name) → own_name (own_name n) ≡ own_name n
own_twice (Word text) = refl
own_twice (Number k) = refl
own_twice Absent = refl

pub params_twice : (ps : List Param) → map plain_param (map plain_param ps) ≡ map plain_param ps
params_twice [] = refl
params_twice (p ∷ ps) =
    ap (λ n. let q : Param = record p { name = n } in q ∷ map plain_param (map plain_param ps)) (own_twice p.name) ∙ ap (λ (rest : List Param). plain_param p ∷ rest) (params_twice ps)

insts_results : (xs : List Placed) → flat_map result_of (map plain_inst xs) ≡ flat_map result_of xs
insts_results [] = refl
insts_results (x ∷ xs) = ap (λ (rest : List ℕ). result_of x ++ rest) (insts_results xs)

plain_results : (bs : List Block) → results_in (map plain_block bs) ≡ results_in bs
plain_results [] = refl
plain_results (b ∷ bs) =
    ap (λ (front : List ℕ). front ++ results_in (map plain_block bs)) (insts_results b.insts) ∙ ap (λ (rest : List ℕ). results_of b ++ rest) (plain_results bs)

plain_count : (bs : List Block) → insts_count (map plain_block bs) ≡ insts_count bs
plain_count [] = refl
plain_count (b ∷ bs) = ap (λ (n : ℕ). n + insts_count (map plain_block bs)) (length-map b.insts plain_inst) ∙ ap (λ (n : ℕ). length b.insts + n) (plain_count bs)

-- a function's locals in order
abbrev at_by : ℕ → List ℕ → LocalNo → LocalNo
at_by p ks l = record { 0 = local_at p ks l.0 }

plain_local : (f : FuncState) → ordered_local (plain_func f) ≡ ordered_local f
plain_local f = ap (λ p. at_by p (results_in (map plain_block f.blocks))) (length-map f.params plain_param) ∙ ap (λ ks. at_by (length f.params) ks) (plain_results f.blocks)

abbrev val_by : (LocalNo → LocalNo) → Val → Val
val_by g (Num ty n) = Num ty n
val_by g (Local l) = Local (g l)
val_by g (Global k) = Global k

val_is : (f : FuncState) → ordered_val f ≡ val_by (ordered_local f)
val_is f = fun_ext one
  where
    one : (v : Val) → ordered_val f v ≡ val_by (ordered_local f) v
    one (Num ty n) = refl
    one (Local l) = refl
    one (Global k) = refl

plain_val : (f : FuncState) → ordered_val (plain_func f) ≡ ordered_val f
plain_val f = val_is (plain_func f) ∙ ap val_by (plain_local f) ∙ sym (val_is f)

insts_plain : (f : FuncState) (n : ℕ) (xs : List Placed) → ordered_insts (plain_func f) n (map plain_inst xs) ≡ ordered_insts f n xs
insts_plain f n [] = refl
insts_plain f n (x ∷ xs) =
    let P : (LocalNo → LocalNo) → Name → (Val → Val) → Placed = λ g m v. record { number = n; result = option_map g x.result; name = m; inst = inst_by v x.inst } in
    let rest = ordered_insts (plain_func f) (suc n) (map plain_inst xs) in
    ap (λ g. P g (own_name (own_name x.name)) (ordered_val (plain_func f)) ∷ rest) (plain_local f)
    ∙ ap (λ m. P (ordered_local f) m (ordered_val (plain_func f)) ∷ rest) (own_twice x.name)
    ∙ ap (λ v. P (ordered_local f) (own_name x.name) v ∷ rest) (plain_val f)
    ∙ ap (λ (more : List Placed). P (ordered_local f) (own_name x.name) (ordered_val f) ∷ more) (insts_plain f (suc n) xs)

blocks_plain : (f : FuncState) (n : ℕ) (bs : List Block) → ordered_blocks (plain_func f) n (map plain_block bs) ≡ ordered_blocks f n bs
blocks_plain f n [] = refl
blocks_plain f n (b ∷ bs) =
    let B : Name → List Placed → (Val → Val) → Block = λ m xs v. record { name = m; insts = xs; term = term_by v b.term } in
    let xs = ordered_insts (plain_func f) n (map plain_inst b.insts) in
    let rest = ordered_blocks (plain_func f) (n + length (map plain_inst b.insts)) (map plain_block bs) in
    ap (λ m. B m xs (ordered_val (plain_func f)) ∷ rest) (own_twice b.name)
    ∙ ap (λ (ys : List Placed). B (own_name b.name) ys (ordered_val (plain_func f)) ∷ rest) (insts_plain f n b.insts)
    ∙ ap (λ v. B (own_name b.name) (ordered_insts f n b.insts) v ∷ rest) (plain_val f)
    ∙ ap (λ (k : ℕ). B (own_name b.name) (ordered_insts f n b.insts) (ordered_val f) ∷ ordered_blocks (plain_func f) (n + k) (map plain_block bs)) (length-map b.insts plain_inst)
    ∙ ap (λ (more : List Block). B (own_name b.name) (ordered_insts f n b.insts) (ordered_val f) ∷ more) (blocks_plain f (n + length b.insts) bs)

pub ordered_plain : (f : FuncState) → ordered (plain_func f) ≡ ordered f
ordered_plain f =
    let F : List Param → List Block → ℕ → ℕ → FuncState = λ ps bs n l. record f { params = ps; blocks = bs; made = n; locals = l; spare = 0 } in
    let bs = ordered_blocks (plain_func f) 0 (map plain_block f.blocks) in
    let n = insts_count (map plain_block f.blocks) in
    let l = length (map plain_param f.params) + length (results_in (map plain_block f.blocks)) in
    ap (λ ps. F ps bs n l) (params_twice f.params)
    ∙ ap (λ (cs : List Block). F (map plain_param f.params) cs n l) (blocks_plain f 0 f.blocks)
    ∙ ap (λ (k : ℕ). F (map plain_param f.params) (ordered_blocks f 0 f.blocks) k l) (plain_count f.blocks)
    ∙ ap (λ (k : ℕ). F (map plain_param f.params) (ordered_blocks f 0 f.blocks) (insts_count f.blocks) (k + length (results_in (map plain_block f.blocks)))) (length-map f.params plain_param)
    ∙ ap (λ (ks : List ℕ). F (map plain_param f.params) (ordered_blocks f 0 f.blocks) (insts_count f.blocks) (length f.params + length ks)) (plain_results f.blocks)

bodies_plain : (bs : List (Option FuncState)) → map (option_map ordered) (map (option_map plain_func) bs) ≡ map (option_map ordered) bs
bodies_plain [] = refl
bodies_plain (None ∷ bs) = ap (λ (rest : List (Option FuncState)). None ∷ rest) (bodies_plain bs)
bodies_plain (Some f ∷ bs) =
    ap (λ (g : FuncState). Some g ∷ map (option_map ordered) (map (option_map plain_func) bs)) (ordered_plain f) ∙ ap (λ (rest : List (Option FuncState)). Some (ordered f) ∷ rest) (bodies_plain bs)

module_plain : (m : ModuleState) → ordered_module (plain_module m) ≡ ordered_module m
module_plain m = ap (λ (bs : List (Option FuncState)). let n : ModuleState = record m { bodies = bs } in n) (bodies_plain m.bodies)

pub in_order : (m n : ModuleState) → IsSameModule m n → IsSameInOrder m n
in_order m n h = record { same = sym (module_plain m) ∙ ap ordered_module h.same ∙ module_plain n }
