-- Each function of an accepted module may be opened: it is sound, and no getelementptr in it passes the greatest offset.
use Rattle.std.proofs.Common.{◌≡◌, ⊎_elim, ℕ, List, [], ◌∷◌, Some, subst, slice_get}
use Rattle.std.specs.List.{flat_map}
use Rattle.ms_ir.specs.Func.{FuncState}
use Rattle.ms_ir.specs.Module.{ModuleState}
use Rattle.ms_ir.specs.SoundFunc.{IsSoundFunc}
use Rattle.ms_grammar.specs.declared.line.Line.{Line}
use Rattle.ms_resolve.specs.Shape.{FuncLines, ItemLines, body, func_lines, item_lines}
use Rattle.ms_resolve.specs.Faults.{IsIn}
use Rattle.ms_validity.specs.Cause.{IsAccepted}
use Rattle.ms_validity.specs.Faults.{body_there, bodies_there}
use Rattle.ms_validity.proofs.FaultLemmas.{scope_in, body_at, func_in}
use Rattle.ms_validity.proofs.ListLemmas.{in_nil, in_cons, in_here, flat_in}
use Rattle.ms_alias.specs.Offsets.{AreOffsetsNear}
use Rattle.ms_output.specs.Forms.{AreOpen, AreSmall, IsSmallAt}
use Rattle.ms_output.proofs.Near.{each_front, each_rest, func_near}

-- the lines of one function are among those of all items
func_small : (items : List ItemLines) (l : FuncLines) → AreSmall (flat_map item_lines items) → IsIn items (body l) → AreSmall (func_lines l)
func_small [] l small i = absurd (in_nil (body l) i)
func_small (x ∷ items) l small i =
    ⊎_elim
    (λ (e : x ≡ body l). subst (λ (z : ItemLines). AreSmall (item_lines z)) e (each_front IsSmallAt (item_lines x) (flat_map item_lines items) small))
    (λ (r : IsIn items (body l)). func_small items l (each_rest IsSmallAt (item_lines x) (flat_map item_lines items) small) r)
    (in_cons x items (body l) i)

near_of : (draft : List (ℕ × Line)) (m : ModuleState) → AreSmall draft → IsAccepted draft m → (n : ℕ) (f : FuncState) → slice_get m.bodies n ≡ Some (Some f) → AreOffsetsNear f
near_of draft m small a n f e =
    let whole = a.named.whole in
    let there : IsIn (bodies_there m) f = flat_in body_there m.bodies (Some f) f (n, e) (in_here f []) in
    let r = body_at a.items m whole there.0 f there.1 in
    let lines = func_small a.items r.0 (subst AreSmall a.named.shape.lines small) (func_in a.items there.0 r.0 r.1) in
    subst AreOffsetsNear r.2 (func_near (scope_in a.items m whole r.0) (whole.spare r.0.head.name) r.0 lines)

pub open_of : (draft : List (ℕ × Line)) (m : ModuleState) → AreSmall draft → ((n : ℕ) (f : FuncState) → slice_get m.bodies n ≡ Some (Some f) → IsSoundFunc f) → IsAccepted draft m → AreOpen m
open_of draft m small sound a n f e = (sound n f e, near_of draft m small a n f e)
