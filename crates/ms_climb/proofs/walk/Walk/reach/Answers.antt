use Rattle.std.proofs.Common.{sym, subst}
use Rattle.ms_climb.specs.Chains.{first_of}
use Rattle.ms_climb.specs.Walk.{WalkState, IsWalked, IsStep}
use Rattle.ms_climb.proofs.WalkLemmas.{reached}
use Rattle.ms_climb.proofs.walk.Walk.reach.Goals as goal

pub returns : goal.returns
returns g c =
    let f = c.args.form.now in
    let E = g.W.Writes.test c.args.counted.now in
    let old : WalkState = record { chains = c.self.inside.chains; met = c.self.inside.met.items; phis = c.self.inside.phis.items } in
    let walked : IsWalked f E old = subst (IsWalked f E) (sym c.self.view_is) c.requires.walked in
    subst (λ (w : WalkState). IsStep f E (first_of c.args.passed.now c.args.access) w c.meet.new.self) c.self.view_is
    (rw c.in_ok-meet.ensures (reached f E (first_of c.args.passed.now c.args.access) c.in_ok-stop.stop old c.climb.new.self walked c.in_ok-stop.ensures))
