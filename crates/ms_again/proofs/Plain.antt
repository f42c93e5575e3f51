-- A function as its lines give it, without written numbers: by the names that its lines have.
use Rattle.std.proofs.Common.{◌≡◌, ◌+◌, ℕ, suc, Bool, true, false, List, [], ◌∷◌, ◌++◌, Some, None, map, length, if◌then◌else◌, refl, sym, ap, subst, ◌∙◌}
use Rattle.std.specs.Prelude.{slice_index_or}
use Rattle.ms_ir.specs.declared.names.Name.{Name}
use Rattle.ms_ir.specs.declared.names.Name.TheVariants.{Word, Number, Absent}
use Rattle.ms_ir.specs.declared.names.Param.{Param}
use Rattle.ms_ir.specs.Func.{Placed, Block, FuncState}
use Rattle.ms_resolve.specs.Shape.{InstLine, BlockLines, FuncLines}
use Rattle.ms_resolve.specs.Made.{makes, full_name, free_behind, locals_of, blocks_of}
use Rattle.ms_resolve.specs.Scope.{Scope, inst_of, term_of, local_behind, insts_from, locals_behind, blocks_from, all_made, all_locals, params_from, func_of}
use Rattle.ms_again.specs.Same.{own_name, plain_param, plain_inst, plain_block, plain_func}
use Rattle.ms_again.proofs.Names.{full, label_name, param_names, params_free, inst_free, block_free, all_results, locals_listed, blocks_listed, locals_full, blocks_full, AlongInsts, AlongBlocks, func_along, Place, one_more, here}

-- an instruction and a block by the names of their lines
abbrev pub plain_at : Scope → ℕ → ℕ → InstLine → Placed
plain_at s n l x = record {
  number = n;
  result = (if makes x.inst then Some (record { 0 = l }) else None);
  name = (if makes x.inst then own_name x.name else Absent);
  inst = inst_of s x.inst;
}

abbrev pub plain_insts : Scope → ℕ → ℕ → List InstLine → List Placed
plain_insts s n l [] = []
plain_insts s n l (x ∷ xs) = plain_at s n l x ∷ plain_insts s (suc n) (local_behind l x) xs

abbrev pub plain_blocks : Scope → ℕ → ℕ → List BlockLines → List Block
plain_blocks s n l [] = []
plain_blocks s n l (x ∷ xs) =
    record { name = own_name (label_name x.label); insts = plain_insts s n l x.insts; term = term_of s x.end.term }
    ∷ plain_blocks s (n + length x.insts) (locals_behind l x.insts) xs

abbrev pub plain_of : Scope → FuncLines → FuncState
plain_of s f = record {
  name = f.head.name;
  head = f.head.attrs;
  ret = f.head.ret;
  params = map plain_param f.head.params;
  tail = f.head.post;
  blocks = plain_blocks s 0 (length f.head.params) f.blocks;
  made = all_made 0 f.blocks;
  locals = all_locals (length f.head.params) f.blocks;
  spare = 0;
}

own_full : (next : ℕ) (n : Name) → own_name (full_name next n) ≡ own_name n
own_full next (Word text) = refl
own_full next (Number n) = refl
own_full next Absent = refl

own_made : (b : Bool) (next : ℕ) (n w : Name) → (b ≡ true → n ≡ full_name next w) → own_name (if b then n else Absent) ≡ (if b then own_name w else Absent)
own_made true next n w h = ap own_name (h refl) ∙ own_full next w
own_made false next n w h = refl

abbrev placed_named : Scope → ℕ → ℕ → InstLine → Name → Placed
placed_named s n l x name = record { number = n; result = (if makes x.inst then Some (record { 0 = l }) else None); name = name; inst = inst_of s x.inst }

insts_plain : (s : Scope) (next n l : ℕ) (xs : List InstLine) → AlongInsts full s.locals next l xs → map plain_inst (insts_from s n l xs) ≡ plain_insts s n l xs
insts_plain s next n l [] h = refl
insts_plain s next n l (x ∷ xs) h =
    ap (λ name. placed_named s n l x name ∷ map plain_inst (insts_from s (suc n) (local_behind l x) xs)) (own_made (makes x.inst) next (slice_index_or s.locals l Absent) x.name h.0)
    ∙ ap (λ (rest : List Placed). plain_at s n l x ∷ rest) (insts_plain s (inst_free full next x) (suc n) (local_behind l x) xs h.1)

blocks_plain : (s : Scope) (next b n l : ℕ) (bs : List BlockLines) → AlongBlocks full s.locals s.blocks next l b bs → map plain_block (blocks_from s b n l bs) ≡ plain_blocks s n l bs
blocks_plain s next b n l [] h = refl
blocks_plain s next b n l (x ∷ xs) h =
    let rest = map plain_block (blocks_from s (suc b) (n + length x.insts) (locals_behind l x.insts) xs) in
    ap (λ name. let block : Block = record { name = name; insts = map plain_inst (insts_from s n l x.insts); term = term_of s x.end.term } in block ∷ rest)
    (ap own_name h.0 ∙ own_full next (label_name x.label))
    ∙ ap (λ insts. let block : Block = record { name = own_name (label_name x.label); insts = insts; term = term_of s x.end.term } in block ∷ rest)
    (insts_plain s (free_behind next (label_name x.label)) n l x.insts h.1)
    ∙ ap (λ (more : List Block). let block : Block = record { name = own_name (label_name x.label); insts = plain_insts s n l x.insts; term = term_of s x.end.term } in block ∷ more)
    (blocks_plain s (block_free full next x) (suc b) (n + length x.insts) (locals_behind l x.insts) xs h.2)

params_plain : (s : Scope) (pre rest : List Name) (next l : ℕ) (ps : List Param) → Place s.locals pre (param_names full next ps ++ rest) l → map plain_param (params_from s l ps) ≡ map plain_param ps
params_plain s pre rest next l [] h = refl
params_plain s pre rest next l (p ∷ ps) h =
    let more = param_names full (free_behind next p.name) ps ++ rest in
    ap (λ name. let q : Param = record p { name = name } in q ∷ map plain_param (params_from s (suc l) ps))
    (ap own_name (here s.locals pre (full_name next p.name) more l h) ∙ own_full next p.name)
    ∙ ap (λ (ps : List Param). plain_param p ∷ ps)
    (params_plain s (pre ++ full_name next p.name ∷ []) rest (free_behind next p.name) (suc l) ps (one_more s.locals pre (full_name next p.name) more l h))

-- a function of lines, under the names of its locals and blocks
pub func_plain : (s : Scope) (spare : ℕ) (f : FuncLines) → s.locals ≡ locals_of f → s.blocks ≡ blocks_of f → plain_func (func_of s spare f) ≡ plain_of s f
func_plain s spare f locals blocks =
    let names : s.locals ≡ locals_listed full f = locals ∙ locals_full f in
    let labels : s.blocks ≡ blocks_listed full f = blocks ∙ blocks_full f in
    let P : List Name → Type 0 = λ ns. AlongBlocks full ns s.blocks (params_free full 0 f.head.params) (length f.head.params) 0 f.blocks in
    let Q : List Name → Type 0 = λ ns. AlongBlocks full (locals_listed full f) ns (params_free full 0 f.head.params) (length f.head.params) 0 f.blocks in
    let along = subst P (sym names) (subst Q (sym labels) (func_along full f)) in
    let F : List Param → List Block → FuncState = λ ps bs. record {
      name = f.head.name;
      head = f.head.attrs;
      ret = f.head.ret;
      params = ps;
      tail = f.head.post;
      blocks = bs;
      made = all_made 0 f.blocks;
      locals = all_locals (length f.head.params) f.blocks;
      spare = 0;
    } in
    ap (λ ps. F ps (map plain_block (blocks_from s 0 0 (length f.head.params) f.blocks)))
    (params_plain s [] (all_results full (params_free full 0 f.head.params) f.blocks) 0 0 f.head.params (record { split = names; count = refl }))
    ∙ ap (λ bs. F (map plain_param f.head.params) bs) (blocks_plain s (params_free full 0 f.head.params) 0 0 (length f.head.params) f.blocks along)
