use Rattle.std.proofs.Common.{◌≡◌, ◌∙◌, ◌+◌, ◌++◌, ℕ, false, None, List, sym, ap, arith, rules, length}
use Rattle.std.proofs.Math.ListN.{replicate, length-replicate}
use Rattle.std.proofs.lemmas.List.{length-map, length-append}
use Rattle.ms_form.specs.Form.{empty_form}
use Rattle.ms_form.specs.Places.{IsPlaced, inst_users_up_to}
use Rattle.ms_form.proofs.FormLemmas.{places-empty}
use Rattle.ms_form.proofs.UserLemmas.{is_form-empty, form-empty, length-insts}
use Rattle.ms_form.proofs.form.Form.with_places.Goals as goal

pub invariant_of-result : goal.invariant_of-result
invariant_of-result c =
    let rooms = c.in_ok-rooms.field-0.rooms in
    let users = c.in_ok-rooms.field-0.users in
    let counts_are : length rooms.items ≡ length c.args.counts.now = simp length-map at (ap length c.in_ok-rooms.ensures.1) in
    let base_is : c.len-base.result ≡ length users.items = omega (arith, users.ok.0) in
    let blocks_are : c.len-3.result ≡ length rooms.items = omega (arith, rooms.ok.0) in
    let same_len : c.len-4.result ≡ c.len-3.result = omega arith in
    let phis_are : c.in_ok-phis.phis.items ≡ replicate c.len-3.result false = search rules in
    let lasts_are' : c.in_ok-lasts.lasts.items ≡ replicate c.len-4.result None = search rules in
    let lasts_are : c.in_ok-lasts.lasts.items ≡ replicate c.len-3.result None = rw same_len at lasts_are' in
    let users_are : c.push_insts.new.users.items ≡ users.items ++ inst_users_up_to c.args.insts = c.in_ok-push_insts.ensures in
    let count_is : c.len.result ≡ length (users.items ++ inst_users_up_to c.args.insts) = omega (arith, c.push_insts.new.users.ok.0, ap length users_are) in
    let lists_are : c.len-2.result + 1 + c.args.insts ≡ c.len-3.result + 1 + c.args.insts = omega arith in
    let placed : IsPlaced rooms.items c.len-base.result users.items = rw base_is c.in_ok-rooms.ensures.0 in
    rw (phis_are, lasts_are, users_are, c.in_ok-chains.ensures, c.in_ok-waiting.ensures) (
      is_form-empty rooms.items c.len-base.result users.items c.len-3.result c.args.insts c.len.result (c.len-2.result + 1 + c.args.insts) placed (sym base_is) blocks_are (omega (arith, c.requires)) (omega arith) count_is lists_are,
      omega arith,
      omega (arith, length-replicate c.len-3.result false),
    )

pub returns-clause-form : goal.returns-clause-form
returns-clause-form c =
    let rooms = c.in_ok-rooms.field-0.rooms in
    let users = c.in_ok-rooms.field-0.users in
    let counts_are : length rooms.items ≡ length c.args.counts.now = simp length-map at (ap length c.in_ok-rooms.ensures.1) in
    let base_is : c.len-base.result ≡ length users.items = omega (arith, users.ok.0) in
    let blocks_are : c.len-3.result ≡ length rooms.items = omega (arith, rooms.ok.0) in
    let same_len : c.len-4.result ≡ c.len-3.result = omega arith in
    let phis_are : c.in_ok-phis.phis.items ≡ replicate c.len-3.result false = search rules in
    let lasts_are' : c.in_ok-lasts.lasts.items ≡ replicate c.len-4.result None = search rules in
    let lasts_are : c.in_ok-lasts.lasts.items ≡ replicate c.len-3.result None = rw same_len at lasts_are' in
    let users_are : c.push_insts.new.users.items ≡ users.items ++ inst_users_up_to c.args.insts = c.in_ok-push_insts.ensures in
    let count_is : c.len.result ≡ length (users.items ++ inst_users_up_to c.args.insts) = omega (arith, c.push_insts.new.users.ok.0, ap length users_are) in
    let lists_are : c.len-2.result + 1 + c.args.insts ≡ c.len-3.result + 1 + c.args.insts = omega arith in
    let placed : IsPlaced rooms.items c.len-base.result users.items = rw base_is c.in_ok-rooms.ensures.0 in
    rw (phis_are, lasts_are, c.in_ok-chains.ensures, c.in_ok-waiting.ensures)
    (form-empty rooms.items c.len-base.result c.push_insts.new.users.items c.len-3.result c.args.insts c.len.result (c.len-2.result + 1 + c.args.insts) placed.within blocks_are
    (omega (arith, count_is, length-append users.items (inst_users_up_to c.args.insts), length-insts c.args.insts)) lists_are
    ∙ ap (λ (counts : List ℕ). empty_form counts c.args.insts) c.in_ok-rooms.ensures.1)

pub returns-clause-places : goal.returns-clause-places
returns-clause-places c =
    let rooms = c.in_ok-rooms.field-0.rooms in
    let users = c.in_ok-rooms.field-0.users in
    let counts_are : length rooms.items ≡ length c.args.counts.now = simp length-map at (ap length c.in_ok-rooms.ensures.1) in
    let base_is : c.len-base.result ≡ length users.items = omega (arith, users.ok.0) in
    let blocks_are : c.len-3.result ≡ length rooms.items = omega (arith, rooms.ok.0) in
    let same_len : c.len-4.result ≡ c.len-3.result = omega arith in
    let phis_are : c.in_ok-phis.phis.items ≡ replicate c.len-3.result false = search rules in
    let lasts_are' : c.in_ok-lasts.lasts.items ≡ replicate c.len-4.result None = search rules in
    let lasts_are : c.in_ok-lasts.lasts.items ≡ replicate c.len-3.result None = rw same_len at lasts_are' in
    let users_are : c.push_insts.new.users.items ≡ users.items ++ inst_users_up_to c.args.insts = c.in_ok-push_insts.ensures in
    let count_is : c.len.result ≡ length (users.items ++ inst_users_up_to c.args.insts) = omega (arith, c.push_insts.new.users.ok.0, ap length users_are) in
    let lists_are : c.len-2.result + 1 + c.args.insts ≡ c.len-3.result + 1 + c.args.insts = omega arith in
    let placed : IsPlaced rooms.items c.len-base.result users.items = rw base_is c.in_ok-rooms.ensures.0 in
    let form = form-empty rooms.items c.len-base.result c.push_insts.new.users.items c.len-3.result c.args.insts c.len.result (c.len-2.result + 1 + c.args.insts) placed.within blocks_are
    (omega (arith, count_is, length-append users.items (inst_users_up_to c.args.insts), length-insts c.args.insts)) lists_are
    ∙ ap (λ (counts : List ℕ). empty_form counts c.args.insts) c.in_ok-rooms.ensures.1 in
    rw (phis_are, lasts_are, c.in_ok-chains.ensures, c.in_ok-waiting.ensures, form) (places-empty c.args.counts.now c.args.insts)
