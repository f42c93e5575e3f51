-- The names under which a function's parameters, blocks and results are printed. A thing without a word has the
-- next free number. Numbers begin at 0 and go by the order of the text: the parameters, then each block and its results.
use Rattle.std.specs.Prelude.{ℕ, ◌+◌, ◌^◌, ◌==◌, Bool, false, List, [], ◌∷◌, Option, Some, None, if◌then◌else◌, is_some, nat_lt, decimal, map, slice_index_or}
use Rattle.ms_ir.specs.declared.names.Name.{Name}
use Rattle.ms_ir.specs.declared.names.Name.TheVariants.{Word, Number, Absent}
use Rattle.ms_ir.specs.declared.names.Param.{Param}
use Rattle.ms_ir.specs.declared.names.LocalNo.{LocalNo}
use Rattle.ms_ir.specs.Func.{Placed, Block, FuncState}

-- a number as a name; past 2^32 - 1, where a name can hold no number, its digits as a word
abbrev pub numbered : ℕ → Name
numbered n = if nat_lt n (2 ^ 32) then Number n else Word (decimal n)

-- the printed name, where this number is the next free one
abbrev pub shown_name : ℕ → Name → Name
shown_name next (Word text) = Word text
shown_name next (Number _) = numbered next
shown_name next Absent = numbered next

-- the next free number behind a name
abbrev pub free_after : ℕ → Name → ℕ
free_after next (Word _) = next
free_after next (Number _) = next + 1
free_after next Absent = next + 1

-- parameters with their printed names
abbrev pub shown_params : ℕ → List Param → List Param
shown_params next [] = []
shown_params next (p ∷ ps) = record p { name = shown_name next p.name } ∷ shown_params (free_after next p.name) ps

-- the next free number behind parameters
abbrev pub free_after_params : ℕ → List Param → ℕ
free_after_params next [] = next
free_after_params next (p ∷ ps) = free_after_params (free_after next p.name) ps

-- the next free number behind an instruction
abbrev pub free_after_inst : ℕ → Placed → ℕ
free_after_inst next x = if is_some x.result then free_after next x.name else next

-- the next free number behind instructions
abbrev pub free_after_insts : ℕ → List Placed → ℕ
free_after_insts next [] = next
free_after_insts next (x ∷ xs) = free_after_insts (free_after_inst next x) xs

-- the next free number behind a block and its results
abbrev pub free_after_block : ℕ → Block → ℕ
free_after_block next b = free_after_insts (free_after next b.name) b.insts

-- the printed names of blocks
abbrev pub shown_labels : ℕ → List Block → List Name
shown_labels next [] = []
shown_labels next (b ∷ bs) = shown_name next b.name ∷ shown_labels (free_after_block next b) bs

-- whether this is the local that an instruction gives
abbrev pub is_given : Option LocalNo → ℕ → Bool
is_given None l = false
is_given (Some k) l = k.0 == l

-- the printed name of a local that one of the instructions gives; another local's is as before them
abbrev pub name_among : ℕ → List Placed → ℕ → Name → Name
name_among next [] l before = before
name_among next (x ∷ xs) l before =
    name_among (free_after_inst next x) xs l (if is_given x.result l then shown_name next x.name else before)

-- the same for the instructions of blocks
abbrev pub name_in : ℕ → List Block → ℕ → Name → Name
name_in next [] l before = before
name_in next (b ∷ bs) l before = name_in (free_after_block next b) bs l (name_among (free_after next b.name) b.insts l before)

-- the name of a parameter
abbrev pub name_of_param : Param → Name
name_of_param p = p.name

-- the printed name of a parameter, and `Absent` for another local
abbrev pub param_name : List Param → ℕ → Name
param_name params l = slice_index_or (map name_of_param (shown_params 0 params)) l Absent

-- the printed name of a local; `Absent` for one that nothing gives
abbrev pub local_name : FuncState → ℕ → Name
local_name f l = name_in (free_after_params 0 f.params) f.blocks l (param_name f.params l)

-- the printed names of a function's blocks
abbrev pub labels_of : FuncState → List Name
labels_of f = shown_labels (free_after_params 0 f.params) f.blocks
