use Rattle.std.proofs.Common.{◌≡◌, ◌<◌, ◌≤◌, inl, inr, ℕ, suc, zero, List, [], ◌∷◌, length, Some, None, refl, ap, sym, ◌∙◌, arith}
use Rattle.std.specs.Prelude.{false}
use Rattle.std.specs.List.{slice_get}
use Rattle.std.specs.Option.{option_map}
use Rattle.std.proofs.lemmas.Option.{slice_get_within}
use Rattle.ms_ir.specs.declared.names.Name.{Name}
use Rattle.ms_ir.specs.declared.names.Ty.{Ty}
use Rattle.ms_ir.specs.declared.names.LocalNo.{LocalNo}
use Rattle.ms_ir.specs.declared.inst.Inst.{Inst}
use Rattle.ms_ir.specs.declared.inst.Inst.TheVariants.{Alloca, Gep, Step, Load, Store, Copy, Call, Bin, Cmp, Select, Cast, Phi}
use Rattle.ms_ir.specs.Inst.{has_result, result_type}
use Rattle.ms_ir.specs.Func.{Placed, Block, FuncState, IsAt}
use Rattle.ms_ir.specs.Locals.{IsGiver, IsNoLocal, HasType, HasName, IsBlockNamed, IsNumbered}
use Rattle.ms_ir.proofs.FuncLemmas.{block_there}

-- what gives a local stands at its place under its number
pub giver_at : (blocks : List Block) (l : LocalNo) (b place n : ℕ) (x : Placed) → IsGiver blocks l b place x → x.number ≡ n → IsAt blocks n b place x
giver_at blocks l b place n x g e = record { block = block_there blocks b place x g.found; found = g.found; numbered = e }

pub no_local_no_name : (f : FuncState) (l : LocalNo) (name : Name) → IsNoLocal f l → HasName f l name → ⊥
no_local_no_name f l name h (inl p) = let within = slice_get_within f.params l.0 p.0 p.1 in omega (arith, within, h.0)
no_local_no_name f l name h (inr g) = h.1 g.0 g.1 g.2 g.3

-- a local that has a name is one of those given out
pub name_below : (f : FuncState) (l : LocalNo) (name : Name) → IsNumbered f → HasName f l name → l.0 < f.locals
name_below f l name n (inl p) = let within = slice_get_within f.params l.0 p.0 p.1 in omega (arith, within, n.params_first)
name_below f l name n (inr g) = (n.result_range l g.0 g.1 g.2 g.3).1

pub one_type : (f : FuncState) (l : LocalNo) (ty t : Ty) (inst : Inst) → length f.params ≤ l.0 → result_type inst ≡ Some ty
    → ((b place : ℕ) (x : Placed) → IsGiver f.blocks l b place x → x.inst ≡ inst) → HasType f l t → t ≡ ty
one_type f l ty t inst le is each (inl p) = absurd (let within = slice_get_within f.params l.0 p.0 p.1 in omega (arith, within))
one_type f l ty t inst le is each (inr g) =
    let both : Some t ≡ Some ty = sym g.4 ∙ ap result_type (each g.0 g.1 g.2 g.3) ∙ is in
    cc

-- what has a result has its type
pub typed : (inst : Inst) → result_type inst ≡ None → has_result inst ≡ false
typed (Alloca size head tail) e = cc
typed (Gep base offset head index tail) e = cc
typed (Step base offset terms head index tail) e = cc
typed (Load ty ptr tail) e = cc
typed (Store ty val ptr tail) e = refl
typed (Copy to from len head tail) e = refl
typed (Call callee None args effects head tail) e = refl
typed (Call callee (Some ty) args effects head tail) e = cc
typed (Bin op flags ty a b tail) e = cc
typed (Cmp pred flags ty a b tail) e = cc
typed (Select cond ty a b tail) e = cc
typed (Cast op flags from a to tail) e = cc
typed (Phi ty entries tail) e = cc

pub named_block : (blocks : List Block) (b : ℕ) (name : Name) → option_map (λ (x : Block). x.name) (slice_get blocks b) ≡ Some name → IsBlockNamed blocks name b
named_block [] b name e = cc
named_block (x ∷ blocks) zero name e = let same : x.name ≡ name = cc in (x, refl, same)
named_block (x ∷ blocks) (suc b) name e = named_block blocks b name e

pub block_named : (blocks : List Block) (b : ℕ) (name : Name) → IsBlockNamed blocks name b → option_map (λ (x : Block). x.name) (slice_get blocks b) ≡ Some name
block_named blocks b name h = ap (option_map (λ (x : Block). x.name)) h.1 ∙ ap Some h.2

pub block_within : (blocks : List Block) (b : ℕ) (name : Name) → IsBlockNamed blocks name b → b < length blocks
block_within blocks b name h = slice_get_within blocks b h.0 h.1

pub past_none : {A : Type 0} (xs : List A) (i : ℕ) → None ≡ slice_get xs i → length xs ≤ i
past_none [] i e = omega arith
past_none (x ∷ xs) zero e = cc
past_none (x ∷ xs) (suc i) e = let deeper = past_none xs i e in omega (arith, deeper)
