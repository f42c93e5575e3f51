-- The locals of a function, and that each number stands for one thing.
use Rattle.std.specs.Prelude.{◌≡◌, ◌≢◌, ◌<◌, ◌≤◌, ◌^◌, ◌+◌, ◌⊎◌, ℕ, List, length, Some, slice_index_or, slice_get, is_some}
use Rattle.ms_ir.specs.declared.names.Name.{Name}
use Rattle.ms_ir.specs.declared.names.Name.TheVariants.{Absent}
use Rattle.ms_ir.specs.declared.names.Ty.{Ty}
use Rattle.ms_ir.specs.declared.names.Param.{Param}
use Rattle.ms_ir.specs.declared.names.LocalNo.{LocalNo}
use Rattle.ms_ir.specs.declared.func.Node.{Node}
use Rattle.ms_ir.specs.Inst.{has_result, result_type}
use Rattle.ms_ir.specs.Func.{Placed, Block, FuncState, insts_at, no_node}

-- x gives this local, and stands at this place of this block
pub record IsGiver (blocks : List Block) (l : LocalNo) (b place : ℕ) (x : Placed) : Type 0 where
  pub found : slice_get (insts_at blocks b) place ≡ Some x
  pub gives : x.result ≡ Some l

-- no instruction gives this local
abbrev pub IsUngiven : List Block → LocalNo → Type 0
IsUngiven blocks l = (b place : ℕ) (x : Placed) → IsGiver blocks l b place x → ⊥

-- the function has no such local
abbrev pub IsNoLocal : FuncState → LocalNo → Type 0
IsNoLocal f l = (length f.params ≤ l.0) × IsUngiven f.blocks l

-- a parameter's type, or that of an instruction's result
abbrev pub HasType : FuncState → LocalNo → Ty → Type 0
HasType f l ty = ((p : Param) × (slice_get f.params l.0 ≡ Some p) × (p.ty ≡ ty))
    ⊎ ((b : ℕ) × (place : ℕ) × (x : Placed) × IsGiver f.blocks l b place x × (result_type x.inst ≡ Some ty))

-- a parameter's name, or that of an instruction's result
abbrev pub HasName : FuncState → LocalNo → Name → Type 0
HasName f l name = ((p : Param) × (slice_get f.params l.0 ≡ Some p) × (p.name ≡ name))
    ⊎ ((b : ℕ) × (place : ℕ) × (x : Placed) × IsGiver f.blocks l b place x × (x.name ≡ name))

-- of the locals with this name, l was made first
pub record IsFirstLocal (f : FuncState) (name : Name) (l : LocalNo) : Type 0 where
  pub is_name : name ≢ Absent
  pub named : HasName f l name
  pub first : (k : LocalNo) → k.0 < l.0 → HasName f k name → ⊥

-- no local has this name; Absent is no name
abbrev pub NoLocalNamed : FuncState → Name → Type 0
NoLocalNamed f name = (name ≡ Absent) ⊎ ((l : LocalNo) → HasName f l name → ⊥)

abbrev pub IsBlockNamed : List Block → Name → ℕ → Type 0
IsBlockNamed blocks name b = (x : Block) × (slice_get blocks b ≡ Some x) × (x.name ≡ name)

-- of the blocks with this name, b was made first
pub record IsFirstBlock (blocks : List Block) (name : Name) (b : ℕ) : Type 0 where
  pub is_name : name ≢ Absent
  pub named : IsBlockNamed blocks name b
  pub first : (a : ℕ) → a < b → IsBlockNamed blocks name a → ⊥

-- no block has this name; Absent is no name
abbrev pub NoBlockNamed : List Block → Name → Type 0
NoBlockNamed blocks name = (name ≡ Absent) ⊎ ((b : ℕ) → IsBlockNamed blocks name b → ⊥)

-- Each number stands for one thing: an instruction for one place, a local for one parameter or one instruction.
pub record IsNumbered (f : FuncState) : Type 0 where
  pub one_place : (b j c k : ℕ) (x y : Placed) → slice_get (insts_at f.blocks b) j ≡ Some x → slice_get (insts_at f.blocks c) k ≡ Some y → x.number ≡ y.number → (b ≡ c) × (j ≡ k)
  pub below_made : (b j : ℕ) (x : Placed) → slice_get (insts_at f.blocks b) j ≡ Some x → x.number < f.made
  pub one_giver : (l : LocalNo) (b j c k : ℕ) (x y : Placed) → IsGiver f.blocks l b j x → IsGiver f.blocks l c k y → (b ≡ c) × (j ≡ k)
  pub result_range : (l : LocalNo) (b j : ℕ) (x : Placed) → IsGiver f.blocks l b j x → (length f.params ≤ l.0) × (l.0 < f.locals)
  pub gives : (b j : ℕ) (x : Placed) → slice_get (insts_at f.blocks b) j ≡ Some x → is_some x.result ≡ has_result x.inst
  pub few_made : f.made < 2 ^ 32
  pub few_blocks : length f.blocks < 2 ^ 31
  pub few_params : length f.params < 2 ^ 32
  pub few_locals : f.locals ≤ length f.params + f.made
  pub params_first : length f.params ≤ f.locals

-- Of the results given so far, in their order, each leads to its instruction, and each instruction with a result is there.
pub record IsGiven (nodes : List Node) (results : List ℕ) (params : ℕ) : Type 0 where
  pub back : (k : ℕ) → k < length results → (slice_index_or nodes (slice_index_or results k 0) no_node).result ≡ Some (record { 0 = params + k })
  pub forth : (n : ℕ) (l : LocalNo) → (slice_index_or nodes n no_node).result ≡ Some l → (k : ℕ) × (k < length results) × (l.0 ≡ params + k) × (slice_index_or results k 0 ≡ n)
  pub gives : (n : ℕ) → n < length nodes → is_some (slice_index_or nodes n no_node).result ≡ has_result (slice_index_or nodes n no_node).inst
  pub few : length results ≤ length nodes
