-- Building a function and a module line by line.
use Rattle.std.proofs.Common.{◌≡◌, ◌∙◌, ℕ, suc, zero, ◌+◌, List, [], ◌∷◌, ◌++◌, Option, Some, None, drop, map, length, refl, sym, ap, add-one, append_assoc}
use Rattle.std.specs.Option.{option_map}
use Rattle.ms_ir.specs.declared.names.Mark.{Mark}
use Rattle.ms_ir.specs.declared.inst.Arg.{Arg}
use Rattle.std.specs.List.{slice_get, slice_set}
use Rattle.std.proofs.Math.Seq.{set-append_seam}
use Rattle.ms_ir.specs.declared.names.FuncNo.{FuncNo}
use Rattle.ms_ir.specs.declared.module.Item.TheVariants as item
use Rattle.ms_ir.specs.declared.module.Sig.{Sig}
use Rattle.ms_ir.specs.Func.{FuncState}
use Rattle.ms_ir.specs.Module.{ModuleState}
use Rattle.ms_grammar.specs.declared.line.RawArg.{RawArg}
use Rattle.ms_grammar.specs.declared.line.Line.{Line}
use Rattle.ms_grammar.specs.declared.line.Line.TheVariants as said
use Rattle.ms_resolve.specs.Scope.{Scope, behind_first, keeps_at, arg_of, args_of}
use Rattle.ms_resolve.specs.Build.{bare, inst_line, insts_after, block_behind, bare_module, with_declared, with_defined}

behind_drop : (at : ℕ) (marks : List Mark) → behind_first (drop at marks) ≡ drop (suc at) marks
behind_drop zero [] = refl
behind_drop zero (m ∷ ms) = refl
behind_drop (suc n) [] = refl
behind_drop (suc n) (m ∷ ms) = behind_drop n ms

behind_first_drop : (at : ℕ) (marks : List Mark) → behind_first (drop at marks) ≡ drop (at + 1) marks
behind_first_drop at marks = rw add-one (behind_drop at marks)

-- an argument more
pub args_more : (s : Scope) (marks : List Mark) (rest here : List RawArg) (a : RawArg) (at : ℕ) (b : Arg) (out out' all : List Arg) → here ≡ a ∷ rest
    → out' ≡ out ++ b ∷ [] → b ≡ arg_of s (keeps_at (drop at marks)) a → out ++ args_of s (drop at marks) here ≡ all → out' ++ args_of s (drop (at + 1) marks) rest ≡ all
args_more s marks rest here a at b out out' all cut push is before =
    ap (λ o. o ++ args_of s (drop (at + 1) marks) rest) push ∙ append_assoc out (b ∷ []) (args_of s (drop (at + 1) marks) rest)
    ∙ ap (λ x. out ++ (x ∷ args_of s (drop (at + 1) marks) rest)) is
    ∙ ap (λ ms. out ++ (arg_of s (keeps_at (drop at marks)) a ∷ args_of s ms rest)) (sym (behind_first_drop at marks))
    ∙ ap (λ h. out ++ args_of s (drop at marks) h) (sym cut) ∙ before

-- room says nothing of the rest
bare_line : (s : Scope) (b : ℕ) (f : FuncState) (line : Line) → inst_line s b (bare f) line ≡ inst_line s b f line
bare_line s b f (said.Inst name inst) = refl
bare_line s b f _ = refl

bare_after : (s : Scope) (b : ℕ) (f : FuncState) (ls : List (ℕ × Line)) → insts_after s b (bare f) ls ≡ insts_after s b f ls
bare_after s b f [] = refl
bare_after s b f (l ∷ ls) = ap (λ g. insts_after s (block_behind b l.1) g ls) (bare_line s b f l.1)

-- a line more
pub insts_more : (s : Scope) (b b' : ℕ) (f f' : FuncState) (x : ℕ × Line) (rest here : List (ℕ × Line)) (all : FuncState) → here ≡ x ∷ rest
    → bare f' ≡ inst_line s b f x.1 → b' ≡ block_behind b x.1 → insts_after s b f here ≡ all → insts_after s b' f' rest ≡ all
insts_more s b b' f f' x rest here all cut put behind before =
    sym (bare_after s b' f' rest) ∙ ap (λ g. insts_after s b' g rest) put ∙ ap (λ k. insts_after s k (inst_line s b f x.1) rest) behind
    ∙ ap (λ h. insts_after s b f h) (sym cut) ∙ before

pub map_push : {A B : Type 0} (f : A → B) (xs : List A) (y : A) → map f (xs ++ y ∷ []) ≡ map f xs ++ f y ∷ []
map_push f [] y = refl
map_push f (x ∷ xs) y = ap (λ r. f x ∷ r) (map_push f xs y)

-- a function more, but for the room of bodies
abbrev bodies_bare : List (Option FuncState) → List (Option FuncState)
bodies_bare bs = map (option_map bare) bs

declared_parts : ModuleState → ℕ → List ℕ → Sig → List ℕ → List (Option FuncState) → ModuleState
declared_parts m f name sig text bodies = record m {
  items = m.items ++ item.Declared (record { 0 = f }) text ∷ [];
  sigs = m.sigs ++ sig ∷ [];
  bodies = bodies;
  names = record m.names { funcs = m.names.funcs ++ name ∷ [] };
}

pub declared_bare : (m m' : ModuleState) (f : FuncNo) (name name' : List ℕ) (sig sig' : Sig) (text text' : List ℕ) → f.0 ≡ length m.names.funcs
    → m' ≡ record m { items = m.items ++ item.Declared f text' ∷ []; sigs = m.sigs ++ sig' ∷ []; bodies = m.bodies ++ None ∷ []; names = record m.names { funcs = m.names.funcs ++ name' ∷ [] } }
    → name' ≡ name → sig' ≡ sig → text' ≡ text → bare_module m' ≡ with_declared (bare_module m) name sig text
unfolding declared_parts
declared_bare m m' f name name' sig sig' text text' number is names sigs texts =
    ap bare_module is ∙ ap (λ bs. declared_parts m f.0 name' sig' text' bs) (map_push (option_map bare) m.bodies None)
    ∙ ap (λ n. declared_parts m n name' sig' text' (bodies_bare m.bodies ++ None ∷ [])) number
    ∙ ap (λ w. declared_parts m (length m.names.funcs) w sig' text' (bodies_bare m.bodies ++ None ∷ [])) names
    ∙ ap (λ s. declared_parts m (length m.names.funcs) name s text' (bodies_bare m.bodies ++ None ∷ [])) sigs
    ∙ ap (λ t. declared_parts m (length m.names.funcs) name sig t (bodies_bare m.bodies ++ None ∷ [])) texts

defined_parts : ModuleState → ℕ → List ℕ → Sig → List (Option FuncState) → ModuleState
defined_parts m f name sig bodies = record m {
  items = m.items ++ item.Defined (record { 0 = f }) ∷ [];
  sigs = m.sigs ++ sig ∷ [];
  bodies = bodies;
  names = record m.names { funcs = m.names.funcs ++ name ∷ [] };
}

pub defined_bare : (m m' : ModuleState) (name name' : List ℕ) (sig sig' : Sig) (func body : FuncState) → m' ≡ with_defined m name' sig' func
    → bare func ≡ body → name' ≡ name → sig' ≡ sig → bare_module m' ≡ with_defined (bare_module m) name sig body
unfolding defined_parts
defined_bare m m' name name' sig sig' func body is bodies names sigs =
    ap bare_module is ∙ ap (λ bs. defined_parts m (length m.names.funcs) name' sig' bs) (map_push (option_map bare) m.bodies (Some func))
    ∙ ap (λ b. defined_parts m (length m.names.funcs) name' sig' (bodies_bare m.bodies ++ Some b ∷ [])) bodies
    ∙ ap (λ w. defined_parts m (length m.names.funcs) w sig' (bodies_bare m.bodies ++ Some body ∷ [])) names
    ∙ ap (λ s. defined_parts m (length m.names.funcs) name s (bodies_bare m.bodies ++ Some body ∷ [])) sigs

pub last_there : {A : Type 0} (xs : List A) (y : A) → slice_get (xs ++ y ∷ []) (length xs) ≡ Some y
last_there [] y = refl
last_there (x ∷ xs) y = last_there xs y

pub defined_put : (m m1 m2 : ModuleState) (f : FuncNo) (name : List ℕ) (sig : Sig) (func : FuncState) → f.0 ≡ length m.names.funcs → length m.bodies ≡ length m.names.funcs
    → m1 ≡ record m { items = m.items ++ item.Defined f ∷ []; sigs = m.sigs ++ sig ∷ []; bodies = m.bodies ++ None ∷ []; names = record m.names { funcs = m.names.funcs ++ name ∷ [] } }
    → m2 ≡ record m1 { bodies = slice_set m1.bodies f.0 (Some func) } → m2 ≡ with_defined m name sig func
unfolding defined_parts
defined_put m m1 m2 f name sig func number len is put =
    let place : f.0 ≡ length m.bodies = number ∙ sym len in
    put ∙ ap (λ (x : ModuleState). record x { bodies = slice_set x.bodies f.0 (Some func) }) is
    ∙ ap (λ k. defined_parts m f.0 name sig (slice_set (m.bodies ++ None ∷ []) k (Some func))) place
    ∙ ap (λ bs. defined_parts m f.0 name sig bs) (set-append_seam m.bodies None [] (Some func))
    ∙ ap (λ n. defined_parts m n name sig (m.bodies ++ Some func ∷ [])) number
