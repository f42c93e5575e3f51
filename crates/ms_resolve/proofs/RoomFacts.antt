-- How much room the bodies of a module have, by their functions' names.
use Rattle.std.proofs.Common.{◌≡◌, ◌∙◌, inl, inr, ⊎_elim, ℕ, suc, Bool, true, false, List, [], ◌∷◌, Option, Some, None, map, refl, sym, ap, subst, arith, bytes_eq}
use Rattle.std.specs.Prelude.{if◌then◌else◌}
use Rattle.std.specs.List.{flat_map}
use Rattle.std.specs.Option.{option_map}
use Rattle.std.specs.Cmp.Lexicographic.{bytes_decides, nat_list_eq_equiv}
use Rattle.std.proofs.lemmas.Bool.{cases_Bool}
use Rattle.ms_ir.specs.declared.inst.Effects.{Effects}
use Rattle.ms_ir.specs.Func.{FuncState}
use Rattle.ms_ir.specs.Module.{ModuleState}
use Rattle.ms_ir.specs.Symbols.{AreDistinct}
use Rattle.ms_grammar.specs.Kept.{Each}
use Rattle.ms_grammar.specs.declared.line.Line.{Line}
use Rattle.ms_grammar.specs.declared.line.Line.TheVariants as said
use Rattle.ms_names.specs.Shape.{FuncLines, ItemLines, plain, body, stands_outside, IsItem}
use Rattle.ms_resolve.specs.Scope.{Scope, func_of}
use Rattle.ms_resolve.specs.Module.{func_names_in, bodies_in, scope_of, module_of}
use Rattle.ms_resolve.specs.Build.{bare, bare_module}
use Rattle.ms_names.proofs.Members.{Among, among_in}

abbrev pub room_of : Option FuncState → ℕ
room_of None = 0
room_of (Some f) = f.spare

-- the room of the first body of a name
abbrev pub room_in : List (List ℕ) → List (Option FuncState) → List ℕ → ℕ
room_in [] bs q = 0
room_in (w ∷ ws) [] q = 0
room_in (w ∷ ws) (b ∷ bs) q = if bytes_eq w q then room_of b else room_in ws bs q

-- names with the room of their bodies
abbrev Agree : (List ℕ → ℕ) → List (List ℕ) → List (Option FuncState) → Type 0
Agree room [] bs = Unit {0}
Agree room (w ∷ ws) [] = Unit {0}
Agree room (w ∷ ws) (b ∷ bs) = (room w ≡ room_of b) × Agree room ws bs

abbrev AllApart : List (List ℕ) → Type 0
AllApart [] = Unit {0}
AllApart (w ∷ ws) = (Among ws w → ⊥) × AllApart ws

agree_change : (r r' : List ℕ → ℕ) (ws : List (List ℕ)) (bs : List (Option FuncState)) → ((q : List ℕ) → Among ws q → r' q ≡ r q) → Agree r ws bs → Agree r' ws bs
agree_change r r' [] bs same h = tt
agree_change r r' (w ∷ ws) [] same h = tt
agree_change r r' (w ∷ ws) (b ∷ bs) same h = (same w (inl refl) ∙ h.0, agree_change r r' ws bs (λ q a. same q (inr a)) h.1)

other_word : (ws : List (List ℕ)) (w q : List ℕ) → (Among ws w → ⊥) → Among ws q → bytes_eq w q ≡ false
other_word ws w q apart h = ⊎_elim
    (λ (t : bytes_eq w q ≡ true). let P : List ℕ → Type 0 = λ v. Among ws v in absurd (apart (subst P (sym ((bytes_decides w q).0 t)) h)))
    (λ (f : bytes_eq w q ≡ false). f)
    (cases_Bool (bytes_eq w q))

room_agrees : (ws : List (List ℕ)) (bs : List (Option FuncState)) → AllApart ws → Agree (room_in ws bs) ws bs
room_agrees [] bs h = tt
room_agrees (w ∷ ws) [] h = tt
room_agrees (w ∷ ws) (b ∷ bs) h = (
  ap (λ t. if t then room_of b else room_in ws bs w) (nat_list_eq_equiv.refl w),
  agree_change (room_in ws bs) (room_in (w ∷ ws) (b ∷ bs)) ws bs (λ q a. ap (λ t. if t then room_of b else room_in ws bs q) (other_word ws w q h.0 a)) (room_agrees ws bs h.1),
)

distinct_tail : (w : List ℕ) (ws : List (List ℕ)) → AreDistinct (w ∷ ws) → AreDistinct ws
distinct_tail w ws d = λ i j v ei ej. let e : suc i ≡ suc j = d (suc i) (suc j) v ei ej in omega arith

all_apart : (ws : List (List ℕ)) → AreDistinct ws → AllApart ws
all_apart [] d = tt
all_apart (w ∷ ws) d = (
  λ h. let r = among_in ws w h in let e : 0 ≡ suc r.0 = d 0 (suc r.0) w refl r.1 in absurd (omega arith),
  all_apart ws (distinct_tail w ws d),
)

bare_none : (b : Option FuncState) → option_map bare b ≡ None → b ≡ None
bare_none None e = refl
bare_none (Some f) e = cc

bare_some : (b : Option FuncState) (s : Scope) (f : FuncLines) (room : ℕ) → option_map bare b ≡ Some (func_of s 0 f) → room ≡ room_of b → b ≡ Some (func_of s room f)
bare_some None s f room e r = cc
bare_some (Some g) s f room e r =
    let same : bare g ≡ func_of s 0 f = cc in
    ap (λ (h : FuncState). let k : FuncState = record h { spare = g.spare } in Some k) same ∙ ap (λ n. Some (func_of s n f)) (sym r)

rest_same : (x y : Option FuncState) (xs ys : List (Option FuncState)) → (let l : List (Option FuncState) = x ∷ xs in l) ≡ y ∷ ys → (x ≡ y) × (xs ≡ ys)
rest_same x y xs ys e = (cc, cc)

abbrev BodiesBy : (FuncLines → Scope) → List ItemLines → Type 0
BodiesBy scope items = (room : List ℕ → ℕ) (bs : List (Option FuncState)) → Agree room (flat_map func_names_in items) bs
    → map (option_map bare) bs ≡ flat_map (bodies_in scope (λ w. 0)) items → bs ≡ flat_map (bodies_in scope room) items

one_body : (scope : FuncLines → Scope) (items : List ItemLines) → BodiesBy scope items → (name : List ℕ) (func zero : Option FuncState) (room : List ℕ → ℕ)
    → ((b : Option FuncState) → option_map bare b ≡ zero → room name ≡ room_of b → b ≡ func)
    → (bs : List (Option FuncState)) → Agree room (name ∷ flat_map func_names_in items) bs → map (option_map bare) bs ≡ zero ∷ flat_map (bodies_in scope (λ w. 0)) items
    → bs ≡ func ∷ flat_map (bodies_in scope room) items
one_body scope items rest name func zero room is [] agree e = cc
one_body scope items rest name func zero room is (b ∷ bs) agree e =
    let parts = rest_same (option_map bare b) zero (map (option_map bare) bs) (flat_map (bodies_in scope (λ w. 0)) items) e in
    ap (λ x. x ∷ bs) (is b parts.0 agree.0) ∙ ap (λ xs. func ∷ xs) (rest room bs agree.1 parts.1)

empty_map : (bs : List (Option FuncState)) → map (option_map bare) bs ≡ [] → bs ≡ []
empty_map [] e = refl
empty_map (b ∷ bs) e = cc

line_bodies : (scope : FuncLines → Scope) (n : ℕ) (line : Line) → stands_outside line ≡ true → (items : List ItemLines) → BodiesBy scope items → BodiesBy scope (plain n line ∷ items)
line_bodies scope n (said.Declare head) h items rest = λ room bs agree e. one_body scope items rest head.name None None room (λ b z r. bare_none b z) bs agree e
line_bodies scope n (said.Kept text) h items rest = rest
line_bodies scope n (said.Group number text) h items rest = rest
line_bodies scope n (said.GlobalVar name text) h items rest = rest
line_bodies scope n _ h items rest = cc

bodies_by : (scope : FuncLines → Scope) (items : List ItemLines) → Each IsItem items → BodiesBy scope items
bodies_by scope [] h = λ room bs agree e. empty_map bs e
bodies_by scope (plain n line ∷ items) h = line_bodies scope n line h.0 items (bodies_by scope items h.1)
bodies_by scope (body f ∷ items) h = λ room bs agree e.
    one_body scope items (bodies_by scope items h.1) f.head.name (Some (func_of (scope f) (room f.head.name) f)) (Some (func_of (scope f) 0 f)) room
    (λ b z r. bare_some b (scope f) f (room f.head.name) z r) bs agree e

-- a module that is this one but for its room
pub room_is : (effects : List ℕ → Effects) (keeps : List ℕ → Bool) (items : List ItemLines) → Each IsItem items → (m : ModuleState) → AreDistinct m.names.funcs
    → bare_module m ≡ module_of effects keeps (λ w. 0) items → m ≡ module_of effects keeps (room_in (flat_map func_names_in items) m.bodies) items
room_is effects keeps items h m distinct e =
    let names : m.names.funcs ≡ flat_map func_names_in items = ap (λ (x : ModuleState). x.names.funcs) e in
    let P : List (List ℕ) → Type 0 = λ ws. AreDistinct ws in
    let ws = flat_map func_names_in items in
    let room = room_in ws m.bodies in
    let scope : FuncLines → Scope = scope_of effects keeps items in
    let agree = room_agrees ws m.bodies (all_apart ws (subst P names distinct)) in
    let bodies : m.bodies ≡ flat_map (bodies_in scope room) items = bodies_by scope items h room m.bodies agree (ap (λ (x : ModuleState). x.bodies) e) in
    ap (λ (x : ModuleState). let y : ModuleState = record x { bodies = m.bodies } in y) e
    ∙ ap (λ bs. let y : ModuleState = record (module_of effects keeps (λ w. 0) items) { bodies = bs } in y) bodies
