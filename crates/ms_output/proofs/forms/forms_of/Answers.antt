use Rattle.std.proofs.Common.{sym, subst, ◌∙◌, arith}
use Rattle.ms_ir.specs.Module.{ModuleState}
use Rattle.ms_output.specs.Forms.{AreOpen}
use Rattle.ms_output.proofs.FormLemmas.{front_more, front_all, sig_within, sig_past, few_funcs, same_count}
use Rattle.ms_output.proofs.forms.forms_of.Goals as goal

pub push_forms-requires : goal.push_forms-requires
push_forms-requires c = subst (λ (m : ModuleState). AreOpen m) (sym c.funcs.invariant.same) c.requires

pub overflow_add-n : goal.overflow_add-n
overflow_add-n c =
    let within = sig_within c.args.module.now c.funcs.module c.funcs.n _ c.funcs.invariant.same c.in-Some.ensures in
    let few = few_funcs c.args.module.now c.whole.ensures in
    omega arith

pub funcs-smaller : goal.funcs-smaller
funcs-smaller c =
    let within = sig_within c.args.module.now c.funcs.module c.funcs.n _ c.funcs.invariant.same c.in-Some.ensures in
    omega arith

pub funcs-preserved : goal.funcs-preserved
funcs-preserved c =
    let m = c.args.module.now in
    let told = c.in_ok-push_forms.ensures in
    let within = sig_within m c.funcs.module c.funcs.n _ c.funcs.invariant.same c.in-Some.ensures in
    let count = same_count m c.whole.ensures in
    record {
      within = omega arith;
      same = told.same ∙ c.funcs.invariant.same;
      formed = front_more m c.funcs.module c.args.prints c.funcs.n _ _ c.funcs.invariant.same (omega arith) c.funcs.invariant.formed told.forms;
    }

pub returns-clause-forms : goal.returns-clause-forms
returns-clause-forms c =
    let m = c.args.module.now in
    let past = sig_past m c.funcs.module c.funcs.n c.funcs.invariant.same c.in_default.ensures in
    let count = same_count m c.whole.ensures in
    front_all m c.args.prints c.funcs.n _ (omega arith) c.funcs.invariant.formed
