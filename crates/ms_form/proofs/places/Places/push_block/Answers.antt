use Rattle.std.proofs.Common.{◌≡◌, arith, length}
use Rattle.ms_form.proofs.PlaceLemmas.{placed-block}
use Rattle.ms_form.proofs.places.Places.push_block.Goals as goal

pub returns-clause-placed : goal.returns-clause-placed
returns-clause-placed c =
    let first_is : c.len-first.result ≡ length c.args.self.now.users.items = omega (arith, c.args.self.now.users.ok.0) in
    rw (c.in_ok-push-2.ensures.items, c.in_ok-push_operands.ensures, c.in_ok-push.ensures.items, first_is)
    (placed-block c.args.self.now.rooms.items c.args.self.now.users.items _ c.args.slots c.requires.placed (omega (arith, c.args.self.now.rooms.ok.0)))
