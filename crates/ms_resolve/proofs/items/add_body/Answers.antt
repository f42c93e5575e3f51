use Rattle.std.proofs.Common.{◌≡◌, ◌∙◌, ◌++◌, ◌∷◌, [], ℕ, Option, None, length, ap, sym}
use Rattle.std.specs.List.{slice_get}
use Rattle.ms_ir.specs.Func.{FuncState}
use Rattle.ms_ir.specs.declared.module.Item.TheVariants.{Defined}
use Rattle.ms_ir.specs.Module.{ModuleState}
use Rattle.ms_resolve.proofs.BuildLemmas.{defined_put, last_there}
use Rattle.ms_resolve.proofs.items.add_body.Goals as goal

pub put_func-requires-clause-defined : goal.put_func-requires-clause-defined
put_func-requires-clause-defined c =
    let items = c.args.module.now.items in
    (length items, ap (λ (m : ModuleState). slice_get m.items (length items)) c.in_ok-f.ensures.ok.1 ∙ last_there items (Defined c.in_ok-f.f))

pub put_func-requires-clause-taken : goal.put_func-requires-clause-taken
put_func-requires-clause-taken c =
    let bodies = c.args.module.now.bodies in
    let none : Option FuncState = None in
    let place : c.in_ok-f.f.0 ≡ length bodies = c.in_ok-f.ensures.ok.0 ∙ sym c.whole.ensures.bodies in
    ap (λ (m : ModuleState). slice_get m.bodies c.in_ok-f.f.0) c.in_ok-f.ensures.ok.1
    ∙ ap (λ (k : ℕ). slice_get (bodies ++ none ∷ []) k) place ∙ last_there bodies none

pub returns : goal.returns
returns c =
    defined_put c.args.module.now c.add_defined.new.self c.put_func.new.self c.in_ok-f.f c.args.name c.args.sig c.args.func
    c.in_ok-f.ensures.ok.0 c.whole.ensures.bodies c.in_ok-f.ensures.ok.1 c.put_func.ensures
