-- A function built line by line is the function of its blocks.
use Rattle.std.proofs.Common.{◌≡◌, ◌∙◌, ℕ, suc, ◌+◌, Bool, true, false, List, [], ◌∷◌, ◌++◌, Option, Some, None, length, map, refl, sym, ap, arith, append_assoc, insert}
use Rattle.std.specs.Prelude.{if◌then◌else◌, slice_index_or, slice_set}
use Rattle.std.specs.List.{flat_map}
use Rattle.std.proofs.Math.Seq.{set-append_seam, get_or-append_seam}
use Rattle.std.proofs.lemmas.List.Edits.{insert_end}
use Rattle.ms_ir.specs.declared.names.Name.TheVariants.{Absent}
use Rattle.ms_ir.specs.declared.names.Param.{Param}
use Rattle.ms_ir.specs.Inst.{has_result}
use Rattle.ms_ir.specs.Func.{Placed, Block, FuncState, no_block, with_insts, put_at, insts_at}
use Rattle.ms_grammar.specs.declared.line.Line.{Line}
use Rattle.ms_grammar.specs.declared.line.Line.TheVariants as said
use Rattle.ms_grammar.specs.declared.line.RawInst.{RawInst}
use Rattle.ms_grammar.specs.declared.line.RawInst.TheVariants.{Alloca, Gep, Step, Load, Store, Copy, Call, Bin, Cmp, Select, Cast, Phi}
use Rattle.ms_names.specs.Shape.{LabelLine, InstLine, BlockLines, FuncLines, inst_line, label_lines, block_lines}
use Rattle.ms_names.specs.Made.{makes}
use Rattle.ms_resolve.specs.Scope.{Scope, inst_of, term_of, placed_at, local_behind, insts_from, locals_behind, blocks_from, all_made, all_locals, params_from, func_of}
use Rattle.ms_resolve.specs.Build.{with_shell, shell_line, shells_after, result_name, with_inst, insts_after, head_in, func_in}

-- a function in the making
abbrev made_so : FuncState → List Block → ℕ → ℕ → FuncState
made_so h blocks made locals = record h { blocks = blocks; made = made; locals = locals; spare = 0 }

-- the blocks before their instructions come
abbrev shell : Scope → ℕ → BlockLines → Block
shell s b x = record { name = slice_index_or s.blocks b Absent; insts = []; term = term_of s x.end.term }

abbrev shells : Scope → ℕ → List BlockLines → List Block
shells s b [] = []
shells s b (x ∷ xs) = shell s b x ∷ shells s (suc b) xs

shells-append : (s : Scope) (f : FuncState) (xs ys : List (ℕ × Line)) → shells_after s f (xs ++ ys) ≡ shells_after s (shells_after s f xs) ys
shells-append s f [] ys = refl
shells-append s f (x ∷ xs) ys = shells-append s (shell_line s f x.1) xs ys

shells_insts : (s : Scope) (f : FuncState) (xs : List InstLine) → shells_after s f (map inst_line xs) ≡ f
shells_insts s f [] = refl
shells_insts s f (x ∷ xs) = shells_insts s f xs

shells_labels : (s : Scope) (f : FuncState) (l : Option LabelLine) → shells_after s f (label_lines l) ≡ f
shells_labels s f None = refl
shells_labels s f (Some l) = refl

shells_block : (s : Scope) (f : FuncState) (b : BlockLines) → shells_after s f (block_lines b) ≡ with_shell s f b.end.term
shells_block s f b =
    let end : List (ℕ × Line) = (b.end.line, said.Term b.end.term) ∷ [] in
    shells-append s f (label_lines b.label ++ map inst_line b.insts) end
    ∙ ap (λ g. shells_after s g end) (shells-append s f (label_lines b.label) (map inst_line b.insts) ∙ ap (λ g. shells_after s g (map inst_line b.insts)) (shells_labels s f b.label) ∙ shells_insts s f b.insts)

length_push : {X : Type 0} (xs : List X) (y : X) → length (xs ++ y ∷ []) ≡ suc (length xs)
length_push [] y = refl
length_push (x ∷ xs) y = ap suc (length_push xs y)

append_none : {X : Type 0} (xs : List X) → xs ≡ xs ++ []
append_none [] = refl
append_none (x ∷ xs) = ap (λ r. x ∷ r) (append_none xs)

shells_blocks : (s : Scope) (h : FuncState) (bs : List BlockLines) (done : List Block) (b : ℕ) → b ≡ length done
    → shells_after s (record h { blocks = done }) (flat_map block_lines bs) ≡ record h { blocks = done ++ shells s b bs }
shells_blocks s h [] done b e = ap (λ bs. let f : FuncState = record h { blocks = bs } in f) (append_none done)
shells_blocks s h (x ∷ xs) done b e =
    let rest = flat_map block_lines xs in
    let here : List Block = done ++ shell s (length done) x ∷ [] in
    shells-append s (record h { blocks = done }) (block_lines x) rest
    ∙ ap (λ g. shells_after s g rest) (shells_block s (record h { blocks = done }) x)
    ∙ shells_blocks s h xs here (suc b) (ap suc e ∙ sym (length_push done (shell s (length done) x)))
    ∙ ap (λ bs. let f : FuncState = record h { blocks = bs } in f)
    (append_assoc done (shell s (length done) x ∷ []) (shells s (suc b) xs) ∙ ap (λ k. done ++ shell s k x ∷ shells s (suc b) xs) (sym e))

-- an instruction's result
makes_result : (s : Scope) (i : RawInst) → has_result (inst_of s i) ≡ makes i
makes_result s (Alloca size head rest) = refl
makes_result s (Gep base offset head index rest) = refl
makes_result s (Step base offset terms head index rest) = refl
makes_result s (Load ty ptr rest) = refl
makes_result s (Store ty v ptr rest) = refl
makes_result s (Copy to from len head behind rest) = refl
makes_result s (Call callee ret args head behind rest) = refl
makes_result s (Bin op flags ty a b rest) = refl
makes_result s (Cmp pred flags ty a b rest) = refl
makes_result s (Select cond ty a b rest) = refl
makes_result s (Cast op flags from a to rest) = refl
makes_result s (Phi ty entries rest) = refl

-- one instruction at the end of a block
abbrev with_placed : Block → List Placed → Block
with_placed x ys = record x { insts = ys }

put_end : (done more : List Block) (x : Block) (ys : List Placed) (z : Placed)
    → put_at (done ++ with_placed x ys ∷ more) (length done) (length (insts_at (done ++ with_placed x ys ∷ more) (length done))) z ≡ done ++ with_placed x (ys ++ z ∷ []) ∷ more
put_end done more x ys z =
    let blocks = done ++ with_placed x ys ∷ more in
    let here : slice_index_or blocks (length done) no_block ≡ with_placed x ys = get_or-append_seam done (with_placed x ys) more no_block in
    ap (λ (w : Block). slice_set blocks (length done) (with_insts w (insert w.insts (length w.insts) z))) here
    ∙ ap (λ zs. slice_set blocks (length done) (with_placed x zs)) (insert_end ys z)
    ∙ set-append_seam done (with_placed x ys) more (with_placed x (ys ++ z ∷ []))

local_next : (b : Bool) (l : ℕ) → (if b then l + 1 else l) ≡ (if b then suc l else l)
local_next true l = omega arith
local_next false l = refl

abbrev placed_with : Scope → RawInst → ℕ → ℕ → Bool → Placed
placed_with s i n l gives = record {
  number = n;
  result = (if gives then Some (record { 0 = l }) else None);
  name = result_name s i l;
  inst = inst_of s i;
}

with_inst_is : (s : Scope) (h : FuncState) (done more : List Block) (x : Block) (ys : List Placed) (n l : ℕ) (i : InstLine)
    → with_inst s (length done) (made_so h (done ++ with_placed x ys ∷ more) n l) i.inst
    ≡ made_so h (done ++ with_placed x (ys ++ placed_at s n l i ∷ []) ∷ more) (suc n) (local_behind l i)
with_inst_is s h done more x ys n l i =
    let f = made_so h (done ++ with_placed x ys ∷ more) n l in
    let z = placed_with s i.inst n l (has_result (inst_of s i.inst)) in
    let next : n + 1 ≡ suc n = omega arith in
    let same : z ≡ placed_at s n l i = ap (λ b. placed_with s i.inst n l b) (makes_result s i.inst) in
    ap (λ bs. made_so h bs (n + 1) (if has_result (inst_of s i.inst) then l + 1 else l)) (put_end done more x ys z)
    ∙ ap (λ z. made_so h (done ++ with_placed x (ys ++ z ∷ []) ∷ more) (n + 1) (if has_result (inst_of s i.inst) then l + 1 else l)) same
    ∙ ap (λ k. made_so h (done ++ with_placed x (ys ++ placed_at s n l i ∷ []) ∷ more) k (if has_result (inst_of s i.inst) then l + 1 else l)) next
    ∙ ap (λ k. made_so h (done ++ with_placed x (ys ++ placed_at s n l i ∷ []) ∷ more) (suc n) k)
    (ap (λ b. if b then l + 1 else l) (makes_result s i.inst) ∙ local_next (makes i.inst) l)

insts_block : (s : Scope) (h : FuncState) (done more : List Block) (x : Block) (xs : List InstLine) (ys : List Placed) (n l b : ℕ) (rest : List (ℕ × Line)) → b ≡ length done
    → insts_after s b (made_so h (done ++ with_placed x ys ∷ more) n l) (map inst_line xs ++ rest)
    ≡ insts_after s b (made_so h (done ++ with_placed x (ys ++ insts_from s n l xs) ∷ more) (n + length xs) (locals_behind l xs)) rest
insts_block s h done more x [] ys n l b rest e =
    let zero : n ≡ n + 0 = omega arith in
    ap (λ ys. insts_after s b (made_so h (done ++ with_placed x ys ∷ more) n l) rest) (append_none ys)
    ∙ ap (λ k. insts_after s b (made_so h (done ++ with_placed x (ys ++ []) ∷ more) k l) rest) zero
insts_block s h done more x (i ∷ xs) ys n l b rest e =
    let z = placed_at s n l i in
    let count : suc n + length xs ≡ n + suc (length xs) = omega arith in
    ap (λ k. insts_after s b (with_inst s k (made_so h (done ++ with_placed x ys ∷ more) n l) i.inst) (map inst_line xs ++ rest)) e
    ∙ ap (λ g. insts_after s b g (map inst_line xs ++ rest)) (with_inst_is s h done more x ys n l i)
    ∙ insts_block s h done more x xs (ys ++ z ∷ []) (suc n) (local_behind l i) b rest e
    ∙ ap (λ ys. insts_after s b (made_so h (done ++ with_placed x ys ∷ more) (suc n + length xs) (locals_behind (local_behind l i) xs)) rest) (append_assoc ys (z ∷ []) (insts_from s (suc n) (local_behind l i) xs))
    ∙ ap (λ k. insts_after s b (made_so h (done ++ with_placed x (ys ++ z ∷ insts_from s (suc n) (local_behind l i) xs) ∷ more) k (locals_behind (local_behind l i) xs)) rest) count

insts_labels : (s : Scope) (h : FuncState) (blocks : List Block) (n l b : ℕ) (label : Option LabelLine) (rest : List (ℕ × Line))
    → insts_after s b (made_so h blocks n l) (label_lines label ++ rest) ≡ insts_after s b (made_so h blocks n l) rest
insts_labels s h blocks n l b None rest = refl
insts_labels s h blocks n l b (Some x) rest = refl

insts_blocks : (s : Scope) (h : FuncState) (bs : List BlockLines) (done : List Block) (n l b : ℕ) → b ≡ length done
    → insts_after s b (made_so h (done ++ shells s b bs) n l) (flat_map block_lines bs) ≡ made_so h (done ++ blocks_from s b n l bs) (all_made n bs) (all_locals l bs)
insts_blocks s h [] done n l b e = refl
insts_blocks s h (x ∷ xs) done n l b e =
    let rest = flat_map block_lines xs in
    let end : List (ℕ × Line) = (x.end.line, said.Term x.end.term) ∷ [] in
    let insts = map inst_line x.insts in
    let f = made_so h (done ++ shells s b (x ∷ xs)) n l in
    let full = with_placed (shell s b x) (insts_from s n l x.insts) in
    let n' = n + length x.insts in
    let l' = locals_behind l x.insts in
    ap (λ ls. insts_after s b f ls) (append_assoc (label_lines x.label ++ insts) end rest ∙ append_assoc (label_lines x.label) insts (end ++ rest))
    ∙ insts_labels s h (done ++ shells s b (x ∷ xs)) n l b x.label (insts ++ (end ++ rest))
    ∙ insts_block s h done (shells s (suc b) xs) (shell s b x) x.insts [] n l b (end ++ rest) e
    ∙ ap (λ bs. insts_after s (suc b) (made_so h bs n' l') rest) (sym (append_assoc done (full ∷ []) (shells s (suc b) xs)))
    ∙ insts_blocks s h xs (done ++ full ∷ []) n' l' (suc b) (ap suc e ∙ sym (length_push done full))
    ∙ ap (λ bs. made_so h bs (all_made n' xs) (all_locals l' xs)) (append_assoc done (full ∷ []) (blocks_from s (suc b) n' l' xs))

params-length : (s : Scope) (l : ℕ) (ps : List Param) → length (params_from s l ps) ≡ length ps
params-length s l [] = refl
params-length s l (p ∷ ps) = ap suc (params-length s (suc l) ps)

pub func_is : (s : Scope) (f : FuncLines) → func_in s f.head (flat_map block_lines f.blocks) ≡ func_of s 0 f
func_is s f =
    let lines = flat_map block_lines f.blocks in
    let h = head_in s f.head in
    ap (λ g. insts_after s 0 g lines) (shells_blocks s h f.blocks [] 0 refl)
    ∙ insts_blocks s h f.blocks [] 0 (length (params_from s 0 f.head.params)) 0 refl
    ∙ ap (λ k. made_so h (blocks_from s 0 0 k f.blocks) (all_made 0 f.blocks) (all_locals k f.blocks)) (params-length s 0 f.head.params)
