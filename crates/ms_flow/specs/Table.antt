-- Tables of the blocks that may come next.
use Rattle.std.specs.Prelude.{ℕ, ◌<◌, List, [], ◌∷◌}
use Rattle.ms_paths.specs.Flow.{Block as Run, block_at}
use Rattle.ms_ir.specs.Func.{Block}
use Rattle.ms_ir.specs.Graph.{successors}
use Rattle.ms_flow.specs.declared.table.Targets.{Targets}
use Rattle.ms_flow.specs.declared.table.Targets.TheVariants.{Ends, One, Two}

-- the blocks that may come next, by slot
abbrev pub list_of : Targets → List ℕ
list_of Ends = []
list_of (One a) = a ∷ []
list_of (Two a b) = a ∷ b ∷ []

-- a block without instructions
abbrev pub run_to : List ℕ → Run
run_to next = record { events = []; next = next }

-- the graph that a table keeps
abbrev pub edges : List Targets → List Run
edges [] = []
edges (t ∷ ts) = run_to (list_of t) ∷ edges ts

-- the graph of a function's blocks, without their instructions
abbrev pub edges_of : List Block → List Run
edges_of [] = []
edges_of (b ∷ bs) = run_to (successors b.term) ∷ edges_of bs

-- the blocks that may come after a block, by slot
abbrev pub next_of : List Run → ℕ → List ℕ
next_of g b = (block_at g b).next

-- the targets are below a number
abbrev pub IsWithin : ℕ → Targets → Type 0
IsWithin n Ends = Unit {0}
IsWithin n (One a) = a < n
IsWithin n (Two a b) = (a < n) × (b < n)

abbrev pub AreWithin : ℕ → List Targets → Type 0
AreWithin n [] = Unit {0}
AreWithin n (t ∷ ts) = IsWithin n t × AreWithin n ts
