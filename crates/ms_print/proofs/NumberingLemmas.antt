-- Numbers and names along the text.
use Rattle.std.proofs.Common.{◌≡◌, ◌<◌, ◌≤◌, ◌+◌, ℕ, suc, zero, List, [], ◌∷◌, ◌++◌, length, get_or, Option, Some, None, if◌then◌else◌, refl, arith}
use Rattle.std.specs.Option.{is_some, IfSome}
use Rattle.ms_ir.specs.declared.names.Name.{Name}
use Rattle.ms_ir.specs.declared.names.Name.TheVariants.{Word, Number, Absent}
use Rattle.ms_ir.specs.declared.names.Param.{Param}
use Rattle.ms_ir.specs.declared.names.LocalNo.{LocalNo}
use Rattle.ms_ir.specs.declared.func.Node.{Node}
use Rattle.ms_ir.specs.Func.{Placed, placed_as}
use Rattle.ms_print.specs.Numbering.{shown_name, shown_params, free_after, free_after_insts, name_among, is_given}

pub free_after-le : (next : ℕ) (name : Name) → free_after next name ≤ next + 1
free_after-le next (Word text) = omega arith
free_after-le next (Number n) = omega arith
free_after-le next Absent = omega arith

-- an instruction takes at most one number
pub free_after_result-le : (next : ℕ) (name : Name) (r : Option LocalNo) → (if is_some r then free_after next name else next) ≤ next + 1
free_after_result-le next name None = omega arith
free_after_result-le next name (Some l) = free_after-le next name

pub within_some : (r : Option LocalNo) (n : ℕ) → ((l : LocalNo) → r ≡ Some l → l.0 < n) → IfSome r (λ l. l.0 < n)
within_some None n h = tt
within_some (Some l) n h = h l refl

-- the name of a local behind one instruction more
pub among_step : (xs ys : List Placed) (n k free after : ℕ) (node : Node) (old new : Name) → xs ≡ placed_as n node ∷ ys
    → after ≡ (if is_some node.result then free_after free node.name else free)
    → new ≡ (if is_given node.result k then shown_name free node.name else old)
    → name_among after ys k new ≡ name_among free xs k old
among_step xs ys n k free after node old new first next named = rw (first, next, named) refl

pub free_step : (xs ys : List Placed) (n free after : ℕ) (node : Node) → xs ≡ placed_as n node ∷ ys
    → after ≡ (if is_some node.result then free_after free node.name else free)
    → free_after_insts after ys ≡ free_after_insts free xs
free_step xs ys n free after node first next = rw (first, next) refl

pub shown_params-length : (next : ℕ) (params : List Param) → length (shown_params next params) ≡ length params
shown_params-length next [] = refl
shown_params-length next (p ∷ ps) = let rest = shown_params-length (free_after next p.name) ps in omega arith

-- a list with its default behind it reads the same
pub default_behind : (xs : List Name) (k : ℕ) (d : Name) → get_or (xs ++ d ∷ []) k d ≡ get_or xs k d
default_behind [] zero d = refl
default_behind [] (suc k) d = refl
default_behind (x ∷ xs) zero d = refl
default_behind (x ∷ xs) (suc k) d = default_behind xs k d
