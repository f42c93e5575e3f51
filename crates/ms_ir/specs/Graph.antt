-- A function as a flow graph, and which of its instructions write memory.
use Rattle.std.specs.Prelude.{ℕ, Bool, true, false, List, [], ◌∷◌, nat_eq, ◌&&◌, ◌||◌}
use Rattle.ms_paths.specs.Flow.{Block as Run}
use Rattle.ms_ir.specs.declared.inst.Term.{Term}
use Rattle.ms_ir.specs.declared.inst.Term.TheVariants.{Br, CondBr, Ret, Unreachable}
use Rattle.ms_ir.specs.declared.inst.Kind.{Kind}
use Rattle.ms_ir.specs.declared.inst.Kind.TheVariants.{Def, Reads, Neither}
use Rattle.ms_ir.specs.Inst.{kind_of_inst}
use Rattle.ms_ir.specs.Func.{Placed, Block}

-- the blocks that may come next, by slot
abbrev pub successors : Term → List ℕ
successors (Br a _) = a.0 ∷ []
successors (CondBr _ a b _) = a.0 ∷ b.0 ∷ []
successors (Ret _ _) = []
successors (Unreachable _) = []

abbrev pub numbers : List Placed → List ℕ
numbers [] = []
numbers (x ∷ xs) = x.number ∷ numbers xs

-- each block runs its instructions, which are told by their numbers
abbrev pub graph_of : List Block → List Run
graph_of [] = []
graph_of (b ∷ bs) = record { events = numbers b.insts; next = successors b.term } ∷ graph_of bs

abbrev pub is_def : Kind → Bool
is_def Def = true
is_def Reads = false
is_def Neither = false

-- whether an instruction of the list has this number and is a Def
abbrev pub has_def : List Placed → ℕ → Bool
has_def [] i = false
has_def (x ∷ xs) i = (nat_eq x.number i && is_def (kind_of_inst x.inst)) || has_def xs i

-- the Defs of a function
abbrev pub defs_of : List Block → ℕ → Bool
defs_of [] i = false
defs_of (b ∷ bs) i = has_def b.insts i || defs_of bs i
