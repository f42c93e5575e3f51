-- The names of what a function makes, along its lines: those that it gets, and those that are printed.
use Rattle.std.proofs.Common.{◌≡◌, ◌+◌, ℕ, suc, Bool, true, false, List, [], ◌∷◌, ◌++◌, Option, Some, None, map, length, if◌then◌else◌, refl, sym, ap, subst, ◌∙◌, append_assoc}
use Rattle.std.specs.Prelude.{filter, not, slice_index_or}
use Rattle.std.specs.List.{flat_map}
use Rattle.std.proofs.lemmas.List.{map-append, get_or_at}
use Rattle.std.proofs.lemmas.List.Elements.{filter-append}
use Rattle.ms_ir.specs.declared.names.Name.{Name}
use Rattle.ms_ir.specs.declared.names.Name.TheVariants.{Absent}
use Rattle.ms_ir.specs.declared.names.Param.{Param}
use Rattle.ms_resolve.specs.Shape.{LabelLine, InstLine, BlockLines, FuncLines}
use Rattle.ms_resolve.specs.Made.{Made, makes, param_made, inst_made, label_made, block_made, made_in, full_name, free_behind, named_from, name_of_made, locals_of, blocks_of}
use Rattle.ms_resolve.specs.Scope.{locals_behind}
use Rattle.ms_print.specs.Numbering.{shown_name, free_after}

-- how names are given: the name of a thing, where this number is the next free one, and the next free number behind it
pub record Naming : Type 0 where
  pub name : ℕ → Name → Name
  pub free : ℕ → Name → ℕ

-- as lines are read, and as they are printed
abbrev pub full : Naming
full = record { name = full_name; free = free_behind }

abbrev pub shown : Naming
shown = record { name = shown_name; free = free_after }

abbrev pub named_by : Naming → ℕ → List Made → List Made
named_by g next [] = []
named_by g next (m ∷ ms) = record m { name = g.name next m.name } ∷ named_by g (g.free next m.name) ms

abbrev pub free_by : Naming → ℕ → List Made → ℕ
free_by g next [] = next
free_by g next (m ∷ ms) = free_by g (g.free next m.name) ms

pub named_full : (next : ℕ) (ms : List Made) → named_from next ms ≡ named_by full next ms
named_full next [] = refl
named_full next (m ∷ ms) = ap (λ (rest : List Made). record m { name = full_name next m.name } ∷ rest) (named_full (free_behind next m.name) ms)

pub named_append : (g : Naming) (next : ℕ) (xs ys : List Made) → named_by g next (xs ++ ys) ≡ named_by g next xs ++ named_by g (free_by g next xs) ys
named_append g next [] ys = refl
named_append g next (x ∷ xs) ys = ap (λ (rest : List Made). record x { name = g.name next x.name } ∷ rest) (named_append g (g.free next x.name) xs ys)

pub free_append : (g : Naming) (next : ℕ) (xs ys : List Made) → free_by g next (xs ++ ys) ≡ free_by g (free_by g next xs) ys
free_append g next [] ys = refl
free_append g next (x ∷ xs) ys = free_append g (g.free next x.name) xs ys

-- the names of locals, and of blocks, among things
abbrev pub locals_in : List Made → List Name
locals_in ms = map name_of_made (filter (λ m. not m.is_block) ms)

abbrev pub blocks_in : List Made → List Name
blocks_in ms = map name_of_made (filter (λ m. m.is_block) ms)

pub locals_append : (xs ys : List Made) → locals_in (xs ++ ys) ≡ locals_in xs ++ locals_in ys
locals_append xs ys =
    ap (λ (l : List Made). map name_of_made l) (filter-append (λ (m : Made). not m.is_block) xs ys)
    ∙ map-append name_of_made (filter (λ (m : Made). not m.is_block) xs) (filter (λ (m : Made). not m.is_block) ys)

pub blocks_append : (xs ys : List Made) → blocks_in (xs ++ ys) ≡ blocks_in xs ++ blocks_in ys
blocks_append xs ys =
    ap (λ (l : List Made). map name_of_made l) (filter-append (λ (m : Made). m.is_block) xs ys)
    ∙ map-append name_of_made (filter (λ (m : Made). m.is_block) xs) (filter (λ (m : Made). m.is_block) ys)

-- the same along parameters, instructions and blocks
abbrev pub label_name : Option LabelLine → Name
label_name None = Absent
label_name (Some l) = l.name

abbrev pub param_names : Naming → ℕ → List Param → List Name
param_names g next [] = []
param_names g next (p ∷ ps) = g.name next p.name ∷ param_names g (g.free next p.name) ps

abbrev pub params_free : Naming → ℕ → List Param → ℕ
params_free g next [] = next
params_free g next (p ∷ ps) = params_free g (g.free next p.name) ps

abbrev pub inst_free : Naming → ℕ → InstLine → ℕ
inst_free g next x = if makes x.inst then g.free next x.name else next

abbrev pub insts_free : Naming → ℕ → List InstLine → ℕ
insts_free g next [] = next
insts_free g next (x ∷ xs) = insts_free g (inst_free g next x) xs

abbrev pub block_free : Naming → ℕ → BlockLines → ℕ
block_free g next b = insts_free g (g.free next (label_name b.label)) b.insts

abbrev pub result_of : Naming → ℕ → InstLine → List Name
result_of g next x = if makes x.inst then g.name next x.name ∷ [] else []

abbrev pub results : Naming → ℕ → List InstLine → List Name
results g next [] = []
results g next (x ∷ xs) = result_of g next x ++ results g (inst_free g next x) xs

abbrev pub all_results : Naming → ℕ → List BlockLines → List Name
all_results g next [] = []
all_results g next (b ∷ bs) = results g (g.free next (label_name b.label)) b.insts ++ all_results g (block_free g next b) bs

abbrev pub block_names : Naming → ℕ → List BlockLines → List Name
block_names g next [] = []
block_names g next (b ∷ bs) = g.name next (label_name b.label) ∷ block_names g (block_free g next b) bs

-- parameters
params_locals : (g : Naming) (n next : ℕ) (ps : List Param) → locals_in (named_by g next (map (param_made n) ps)) ≡ param_names g next ps
params_locals g n next [] = refl
params_locals g n next (p ∷ ps) = ap (λ (rest : List Name). g.name next p.name ∷ rest) (params_locals g n (g.free next p.name) ps)

params_blocks : (g : Naming) (n next : ℕ) (ps : List Param) → blocks_in (named_by g next (map (param_made n) ps)) ≡ []
params_blocks g n next [] = refl
params_blocks g n next (p ∷ ps) = params_blocks g n (g.free next p.name) ps

params_by : (g : Naming) (n next : ℕ) (ps : List Param) → free_by g next (map (param_made n) ps) ≡ params_free g next ps
params_by g n next [] = refl
params_by g n next (p ∷ ps) = params_by g n (g.free next p.name) ps

-- one instruction
abbrev pub made_if : InstLine → Bool → List Made
made_if x b = if b then record { line = x.line; is_block = false; name = x.name } ∷ [] else []

inst_locals : (g : Naming) (next : ℕ) (x : InstLine) (b : Bool) → locals_in (named_by g next (made_if x b)) ≡ (if b then g.name next x.name ∷ [] else [])
inst_locals g next x true = refl
inst_locals g next x false = refl

inst_blocks : (g : Naming) (next : ℕ) (x : InstLine) (b : Bool) → blocks_in (named_by g next (made_if x b)) ≡ []
inst_blocks g next x true = refl
inst_blocks g next x false = refl

inst_by : (g : Naming) (next : ℕ) (x : InstLine) (b : Bool) → free_by g next (made_if x b) ≡ (if b then g.free next x.name else next)
inst_by g next x true = refl
inst_by g next x false = refl

-- instructions
insts_locals : (g : Naming) (next : ℕ) (xs : List InstLine) → locals_in (named_by g next (flat_map inst_made xs)) ≡ results g next xs
insts_locals g next [] = refl
insts_locals g next (x ∷ xs) =
    ap locals_in (named_append g next (inst_made x) (flat_map inst_made xs))
    ∙ locals_append (named_by g next (inst_made x)) (named_by g (free_by g next (inst_made x)) (flat_map inst_made xs))
    ∙ ap (λ l. l ++ locals_in (named_by g (free_by g next (inst_made x)) (flat_map inst_made xs))) (inst_locals g next x (makes x.inst))
    ∙ ap (λ k. result_of g next x ++ locals_in (named_by g k (flat_map inst_made xs))) (inst_by g next x (makes x.inst))
    ∙ ap (λ l. result_of g next x ++ l) (insts_locals g (inst_free g next x) xs)

insts_blocks : (g : Naming) (next : ℕ) (xs : List InstLine) → blocks_in (named_by g next (flat_map inst_made xs)) ≡ []
insts_blocks g next [] = refl
insts_blocks g next (x ∷ xs) =
    ap blocks_in (named_append g next (inst_made x) (flat_map inst_made xs))
    ∙ blocks_append (named_by g next (inst_made x)) (named_by g (free_by g next (inst_made x)) (flat_map inst_made xs))
    ∙ ap (λ l. l ++ blocks_in (named_by g (free_by g next (inst_made x)) (flat_map inst_made xs))) (inst_blocks g next x (makes x.inst))
    ∙ insts_blocks g (free_by g next (inst_made x)) xs

insts_by : (g : Naming) (next : ℕ) (xs : List InstLine) → free_by g next (flat_map inst_made xs) ≡ insts_free g next xs
insts_by g next [] = refl
insts_by g next (x ∷ xs) =
    free_append g next (inst_made x) (flat_map inst_made xs)
    ∙ ap (λ k. free_by g k (flat_map inst_made xs)) (inst_by g next x (makes x.inst))
    ∙ insts_by g (inst_free g next x) xs

-- a block's label
label_line : ℕ → Option LabelLine → ℕ
label_line n None = n
label_line n (Some l) = l.line

label_is : (n : ℕ) (l : Option LabelLine) → label_made n l ≡ record { line = label_line n l; is_block = true; name = label_name l }
unfolding label_line
label_is n None = refl
label_is n (Some l) = refl

block_locals : (g : Naming) (n next : ℕ) (b : BlockLines) → locals_in (named_by g next (block_made n b)) ≡ results g (g.free next (label_name b.label)) b.insts
block_locals g n next b =
    ap (λ (m : Made). locals_in (named_by g next (m ∷ flat_map inst_made b.insts))) (label_is n b.label)
    ∙ insts_locals g (g.free next (label_name b.label)) b.insts

block_blocks : (g : Naming) (n next : ℕ) (b : BlockLines) → blocks_in (named_by g next (block_made n b)) ≡ g.name next (label_name b.label) ∷ []
block_blocks g n next b =
    ap (λ (m : Made). blocks_in (named_by g next (m ∷ flat_map inst_made b.insts))) (label_is n b.label)
    ∙ ap (λ (l : List Name). g.name next (label_name b.label) ∷ l) (insts_blocks g (g.free next (label_name b.label)) b.insts)

block_by : (g : Naming) (n next : ℕ) (b : BlockLines) → free_by g next (block_made n b) ≡ block_free g next b
block_by g n next b =
    ap (λ (m : Made). free_by g next (m ∷ flat_map inst_made b.insts)) (label_is n b.label) ∙ insts_by g (g.free next (label_name b.label)) b.insts

blocks_locals : (g : Naming) (n next : ℕ) (bs : List BlockLines) → locals_in (named_by g next (flat_map (block_made n) bs)) ≡ all_results g next bs
blocks_locals g n next [] = refl
blocks_locals g n next (b ∷ bs) =
    let rest = flat_map (block_made n) bs in
    ap locals_in (named_append g next (block_made n b) rest)
    ∙ locals_append (named_by g next (block_made n b)) (named_by g (free_by g next (block_made n b)) rest)
    ∙ ap (λ l. l ++ locals_in (named_by g (free_by g next (block_made n b)) rest)) (block_locals g n next b)
    ∙ ap (λ k. results g (g.free next (label_name b.label)) b.insts ++ locals_in (named_by g k rest)) (block_by g n next b)
    ∙ ap (λ l. results g (g.free next (label_name b.label)) b.insts ++ l) (blocks_locals g n (block_free g next b) bs)

blocks_blocks : (g : Naming) (n next : ℕ) (bs : List BlockLines) → blocks_in (named_by g next (flat_map (block_made n) bs)) ≡ block_names g next bs
blocks_blocks g n next [] = refl
blocks_blocks g n next (b ∷ bs) =
    let rest = flat_map (block_made n) bs in
    ap blocks_in (named_append g next (block_made n b) rest)
    ∙ blocks_append (named_by g next (block_made n b)) (named_by g (free_by g next (block_made n b)) rest)
    ∙ ap (λ l. l ++ blocks_in (named_by g (free_by g next (block_made n b)) rest)) (block_blocks g n next b)
    ∙ ap (λ k. g.name next (label_name b.label) ∷ blocks_in (named_by g k rest)) (block_by g n next b)
    ∙ ap (λ (l : List Name). g.name next (label_name b.label) ∷ l) (blocks_blocks g n (block_free g next b) bs)

-- the names of a function's locals, and of its blocks
abbrev pub locals_listed : Naming → FuncLines → List Name
locals_listed g f = param_names g 0 f.head.params ++ all_results g (params_free g 0 f.head.params) f.blocks

abbrev pub blocks_listed : Naming → FuncLines → List Name
blocks_listed g f = block_names g (params_free g 0 f.head.params) f.blocks

pub locals_by : (g : Naming) (f : FuncLines) → locals_in (named_by g 0 (made_in f)) ≡ locals_listed g f
locals_by g f =
    let ps = map (param_made f.line) f.head.params in
    let rest = flat_map (block_made f.line) f.blocks in
    ap locals_in (named_append g 0 ps rest)
    ∙ locals_append (named_by g 0 ps) (named_by g (free_by g 0 ps) rest)
    ∙ ap (λ l. l ++ locals_in (named_by g (free_by g 0 ps) rest)) (params_locals g f.line 0 f.head.params)
    ∙ ap (λ k. param_names g 0 f.head.params ++ locals_in (named_by g k rest)) (params_by g f.line 0 f.head.params)
    ∙ ap (λ l. param_names g 0 f.head.params ++ l) (blocks_locals g f.line (params_free g 0 f.head.params) f.blocks)

pub blocks_by : (g : Naming) (f : FuncLines) → blocks_in (named_by g 0 (made_in f)) ≡ blocks_listed g f
blocks_by g f =
    let ps = map (param_made f.line) f.head.params in
    let rest = flat_map (block_made f.line) f.blocks in
    ap blocks_in (named_append g 0 ps rest)
    ∙ blocks_append (named_by g 0 ps) (named_by g (free_by g 0 ps) rest)
    ∙ ap (λ l. l ++ blocks_in (named_by g (free_by g 0 ps) rest)) (params_blocks g f.line 0 f.head.params)
    ∙ ap (λ k. blocks_in (named_by g k rest)) (params_by g f.line 0 f.head.params)
    ∙ blocks_blocks g f.line (params_free g 0 f.head.params) f.blocks

pub locals_full : (f : FuncLines) → locals_of f ≡ locals_listed full f
locals_full f = ap locals_in (named_full 0 (made_in f)) ∙ locals_by full f

pub blocks_full : (f : FuncLines) → blocks_of f ≡ blocks_listed full f
blocks_full f = ap blocks_in (named_full 0 (made_in f)) ∙ blocks_by full f

-- the names in a list, along instructions and blocks
abbrev pub AlongInsts : Naming → List Name → ℕ → ℕ → List InstLine → Type 0
AlongInsts g names next l [] = Unit {0}
AlongInsts g names next l (x ∷ xs) =
    (makes x.inst ≡ true → slice_index_or names l Absent ≡ g.name next x.name) × AlongInsts g names (inst_free g next x) (if makes x.inst then suc l else l) xs

abbrev pub AlongBlocks : Naming → List Name → List Name → ℕ → ℕ → ℕ → List BlockLines → Type 0
AlongBlocks g names labels next l b [] = Unit {0}
AlongBlocks g names labels next l b (x ∷ xs) =
    (slice_index_or labels b Absent ≡ g.name next (label_name x.label)) × AlongInsts g names (g.free next (label_name x.label)) l x.insts
    × AlongBlocks g names labels (block_free g next x) (locals_behind l x.insts) (suc b) xs

length_push : (xs : List Name) (y : Name) → length (xs ++ y ∷ []) ≡ suc (length xs)
length_push [] y = refl
length_push (x ∷ xs) y = ap suc (length_push xs y)

-- where the list goes on with the results of instructions, it has their names
pub record Place (names pre rest : List Name) (l : ℕ) : Type 0 where
  pub split : names ≡ pre ++ rest
  pub count : length pre ≡ l

pub one_more : (names pre : List Name) (y : Name) (rest : List Name) (l : ℕ) → Place names pre (y ∷ rest) l → Place names (pre ++ y ∷ []) rest (suc l)
one_more names pre y rest l h = record {
  split = h.split ∙ sym (append_assoc pre (y ∷ []) rest);
  count = length_push pre y ∙ ap suc h.count;
}

pub here : (names pre : List Name) (y : Name) (rest : List Name) (l : ℕ) → Place names pre (y ∷ rest) l → slice_index_or names l Absent ≡ y
here names pre y rest l h = ap (λ (n : List Name). slice_index_or n l Absent) h.split ∙ get_or_at pre y rest Absent l h.count

pub record Past (names rest : List Name) (l : ℕ) : Type 0 where
  pub pre : List Name
  pub place : Place names pre rest l

abbrev HeadAlong : Naming → List Name → List Name → ℕ → ℕ → InstLine → List InstLine → Bool → Type 0
HeadAlong g names rest next l x xs c =
    ((c ≡ true → slice_index_or names l Absent ≡ g.name next x.name) × AlongInsts g names (if c then g.free next x.name else next) (if c then suc l else l) xs)
    × Past names rest (locals_behind (if c then suc l else l) xs)

insts_along : (g : Naming) (names pre rest : List Name) (next l : ℕ) (xs : List InstLine) → Place names pre (results g next xs ++ rest) l →
    AlongInsts g names next l xs × Past names rest (locals_behind l xs)
insts_along g names pre rest next l [] h = (tt, record { pre = pre; place = h })
insts_along g names pre rest next l (x ∷ xs) h = by (makes x.inst) refl (λ more free k place. insts_along g names more rest free k xs place)
  where
    by : (b : Bool) → makes x.inst ≡ b → ((more : List Name) (free k : ℕ) → Place names more (results g free xs ++ rest) k → AlongInsts g names free k xs × Past names rest (locals_behind k xs)) →
        AlongInsts g names next l (x ∷ xs) × Past names rest (locals_behind l (x ∷ xs))
    by true t again =
        let P : Bool → Type 0 = λ c. Place names pre (((if c then g.name next x.name ∷ [] else []) ++ results g (if c then g.free next x.name else next) xs) ++ rest) l in
        let there : Place names pre (g.name next x.name ∷ (results g (g.free next x.name) xs ++ rest)) l = subst P t h in
        let r = again (pre ++ g.name next x.name ∷ []) (g.free next x.name) (suc l) (one_more names pre (g.name next x.name) (results g (g.free next x.name) xs ++ rest) l there) in
        subst (λ c. HeadAlong g names rest next l x xs c) (sym t) ((λ e. here names pre (g.name next x.name) (results g (g.free next x.name) xs ++ rest) l there, r.0), r.1)
    by false t again =
        let P : Bool → Type 0 = λ c. Place names pre (((if c then g.name next x.name ∷ [] else []) ++ results g (if c then g.free next x.name else next) xs) ++ rest) l in
        let there : Place names pre (results g next xs ++ rest) l = subst P t h in
        let r = again pre next l there in
        subst (λ c. HeadAlong g names rest next l x xs c) (sym t) ((λ e. absurd (cc), r.0), r.1)

blocks_along : (g : Naming) (names labels pre before : List Name) (next l b : ℕ) (bs : List BlockLines) → Place names pre (all_results g next bs) l → Place labels before (block_names g next bs) b →
    AlongBlocks g names labels next l b bs
blocks_along g names labels pre before next l b [] h k = tt
blocks_along g names labels pre before next l b (x ∷ xs) h k =
    let free = g.free next (label_name x.label) in
    let r = insts_along g names pre (all_results g (block_free g next x) xs) free l x.insts h in
    let past = r.1 in (
      here labels before (g.name next (label_name x.label)) (block_names g (block_free g next x) xs) b k,
      r.0,
      blocks_along g names labels past.pre (before ++ g.name next (label_name x.label) ∷ []) (block_free g next x) (locals_behind l x.insts) (suc b) xs past.place
          (one_more labels before (g.name next (label_name x.label)) (block_names g (block_free g next x) xs) b k),
    )

pub param_count : (g : Naming) (next : ℕ) (ps : List Param) → length (param_names g next ps) ≡ length ps
param_count g next [] = refl
param_count g next (p ∷ ps) = ap suc (param_count g (g.free next p.name) ps)

-- the names of a function stand in its lists
pub func_along : (g : Naming) (f : FuncLines) → AlongBlocks g (locals_listed g f) (blocks_listed g f) (params_free g 0 f.head.params) (length f.head.params) 0 f.blocks
func_along g f =
    blocks_along g (locals_listed g f) (blocks_listed g f) (param_names g 0 f.head.params) [] (params_free g 0 f.head.params) (length f.head.params) 0 f.blocks
    (record { split = refl; count = param_count g 0 f.head.params }) (record { split = refl; count = refl })

-- how many lines blocks have at least
abbrev pub blocks_size : List BlockLines → ℕ
blocks_size [] = 0
blocks_size (b ∷ bs) = suc (length b.insts) + blocks_size bs

-- how much a function makes at most
abbrev pub size_of : FuncLines → ℕ
size_of f = length f.head.params + blocks_size f.blocks
