use Rattle.std.proofs.Common.{◌≡◌, ◌∙◌, ap, sym, subst, Some}
use Rattle.std.specs.Prelude.{slice_get}
use Rattle.ms_form.specs.declared.access.Access.TheVariants.{Phi}
use Rattle.ms_form.specs.Form.{FormState, users_of, without_user}
use Rattle.ms_build.specs.Changes.{IsChanged, one_set, waiting_for}
use Rattle.ms_build.proofs.Entries.{named_entry, has_entry-waiting, has_list-waiting, users-waiting, shorter_without}
use Rattle.ms_build.proofs.Replacing.{replacing_begun, replacing_next, replaced_all, all_awaited, first_names, awaiting, replacing_list}
use Rattle.ms_build.proofs.settling.replace_phi.Goals as goal

pub users-init : goal.users-init
users-init c = (replacing_begun c.args.b c.args.a c.args.form.now, c.uses.ensures.users, c.uses.ensures.table)

pub wait_for-requires : goal.wait_for-requires
wait_for-requires c =
    named_entry c.users.form c.in-Some.u (Phi c.args.b) c.users.invariant.2 (first_names c.args.b c.users.form c.in-Some.u c.users.invariant.1 c.in-Some.ensures)

pub link-requires-clause-user : goal.link-requires-clause-user
link-requires-clause-user c =
    rw c.wait_for.ensures.wait (has_entry-waiting c.users.form (waiting_for c.in-Some.u c.users.form.waiting) c.in-Some.u
    (named_entry c.users.form c.in-Some.u (Phi c.args.b) c.users.invariant.2 (first_names c.args.b c.users.form c.in-Some.u c.users.invariant.1 c.in-Some.ensures)))

pub link-requires-clause-access : goal.link-requires-clause-access
link-requires-clause-access c =
    rw c.wait_for.ensures.wait (has_list-waiting c.users.form (waiting_for c.in-Some.u c.users.form.waiting) c.args.a
    (replacing_list c.args.b c.args.a c.args.form.now c.users.form c.args.a c.users.invariant.0 c.requires.access))

pub users-smaller : goal.users-smaller
users-smaller c =
    let u = c.in-Some.u in
    let f = c.users.form in
    let first : slice_get (users_of f (Phi c.args.b)) 0 ≡ Some u = sym c.in-Some.ensures in
    let between : users_of c.wait_for.new.form (Phi c.args.b) ≡ users_of f (Phi c.args.b) = rw c.wait_for.ensures.wait (users-waiting f (waiting_for u f.waiting) (Phi c.args.b)) in
    let now : users_of c.link.new.form (Phi c.args.b) ≡ without_user u (users_of f (Phi c.args.b)) =
    c.link.ensures.users (Phi c.args.b) (λ w. c.requires.other (sym w)) ∙ ap (without_user u) between in
    rw now (shorter_without u (users_of f (Phi c.args.b)) first)

pub users-preserved : goal.users-preserved
users-preserved c =
    let u = c.in-Some.u in
    let f = c.users.form in
    let changed : IsChanged (one_set u (Some c.args.a)) (awaiting u f) c.link.new.form = subst (λ (g : FormState). IsChanged (one_set u (Some c.args.a)) g c.link.new.form) c.wait_for.ensures.wait c.link.ensures.changed in (
      replacing_next c.args.b c.args.a c.args.form.now f c.link.new.form u c.users.invariant.0 c.requires.other (first_names c.args.b f u c.users.invariant.1 c.in-Some.ensures)
          changed (c.link.ensures.waiting ∙ ap (λ (g : FormState). g.waiting) c.wait_for.ensures.wait),
      c.uses-in-Some.ensures.users,
      c.uses-in-Some.ensures.table,
    )

pub returns-clause-changed : goal.returns-clause-changed
returns-clause-changed c = replaced_all c.args.b c.args.a c.args.form.now c.users.form c.users.invariant.0 c.users.invariant.1 (sym c.in_default.is ∙ c.first_use.ensures)

pub returns-clause-awaited : goal.returns-clause-awaited
returns-clause-awaited c = all_awaited c.args.b c.args.a c.args.form.now c.users.form c.users.invariant.0 c.users.invariant.1 (sym c.in_default.is ∙ c.first_use.ensures)
