use Rattle.std.proofs.Common.{Some, sym, ap, subst, ◌∙◌, slice_get}
use Rattle.ms_ir.specs.Module.{ModuleState, IsDefined}
use Rattle.ms_validity.proofs.BodyLemmas.{body_found}
use Rattle.ms_output.proofs.Taken.{set_there, put_back, none_taken}
use Rattle.ms_output.proofs.forms.push_forms.Goals as goal

pub push_func-requires-clause-sound : goal.push_func-requires-clause-sound
push_func-requires-clause-sound c =
    let m = c.args.module.now in
    (c.requires c.args.f.0 c.in-Some.func (body_found (slice_get m.bodies c.args.f.0) c.in-Some.func c.in-Some.ensures.body)).0

pub push_func-requires-clause-near : goal.push_func-requires-clause-near
push_func-requires-clause-near c =
    let m = c.args.module.now in
    (c.requires c.args.f.0 c.in-Some.func (body_found (slice_get m.bodies c.args.f.0) c.in-Some.func c.in-Some.ensures.body)).1

pub put_func-requires-clause-defined : goal.put_func-requires-clause-defined
put_func-requires-clause-defined c =
    let m = c.args.module.now in
    let at = body_found (slice_get m.bodies c.args.f.0) c.in-Some.func c.in-Some.ensures.body in
    subst (λ (k : ModuleState). IsDefined k c.args.f) (sym c.take_func.ensures.rest) (c.whole.ensures.defined c.args.f c.in-Some.func at)

pub put_func-requires-clause-taken : goal.put_func-requires-clause-taken
put_func-requires-clause-taken c =
    let m = c.args.module.now in
    let f = c.args.f.0 in
    let at = body_found (slice_get m.bodies f) c.in-Some.func c.in-Some.ensures.body in
    ap (λ (k : ModuleState). slice_get k.bodies f) c.take_func.ensures.rest ∙ set_there m.bodies f _ (Some c.in-Some.func) at

pub returns-in_ok-func-in-Some-clause-same : goal.returns-in_ok-func-in-Some-clause-same
returns-in_ok-func-in-Some-clause-same c =
    let m = c.args.module.now in
    let f = c.args.f.0 in
    let at = body_found (slice_get m.bodies f) c.in-Some.func c.in-Some.ensures.body in
    put_back m _ _ f c.in-Some.func _ at c.take_func.ensures.rest c.in_ok-func-in-Some.ensures.same c.put_func.ensures

pub returns-in-None-clause-same : goal.returns-in-None-clause-same
returns-in-None-clause-same c = none_taken c.args.module.now _ c.args.f.0 c.in-None.ensures.body c.take_func.ensures.rest
