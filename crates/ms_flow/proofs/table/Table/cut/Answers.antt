use Rattle.std.proofs.Common.{◌≡◌, List, [], ◌∷◌, length, get_or, set, ap, ◌∙◌, arith}
use Rattle.ms_paths.specs.Flow.{Block as Run}
use Rattle.ms_flow.specs.Table.{next_of, run_to}
use Rattle.ms_flow.specs.Cut.{kept_slot}
use Rattle.ms_flow.proofs.Tables.{length-edges, edges_set_one, within_set_one}
use Rattle.ms_flow.proofs.Cuts.{fork_within, kept_below}
use Rattle.ms_flow.proofs.table.Table.cut.Goals as goal

pub at-kept-requires-clause-block : goal.at-kept-requires-clause-block
at-kept-requires-clause-block c = fork_within c.args.self.now c.args.b c.requires.two

pub index_mut-requires : goal.index_mut-requires
index_mut-requires c =
    let within = fork_within _ c.args.b (rw (← c.self.view_is) at c.requires.two) in
    omega (arith, within, length-edges c.self.inside.targets.items, c.self.inside.targets.ok.0)

pub invariant_of-self : goal.invariant_of-self
invariant_of-self c =
    let to = c.at-kept.ensures.within in
    let size = ap length c.self.view_is in
    (within_set_one _ c.self.inside.targets.items c.args.b c.at-kept.result c.self.invariant.0 (omega (arith, to, size, length-edges c.self.inside.targets.items, c.self.inside.targets.ok.0)), c.self.invariant.1)

pub at-kept-requires-clause-slot : goal.at-kept-requires-clause-slot
at-kept-requires-clause-slot c =
    let below = kept_below c.args.slot in
    let is = c.other_slot.ensures in
    let two = c.requires.two in
    omega arith

pub returns : goal.returns
returns c =
    let items = c.self.inside.targets.items in
    let to : c.at-kept.result ≡ get_or (next_of c.args.self.now c.args.b) (kept_slot c.args.slot) 0 = c.at-kept.ensures.target ∙ ap (λ k. get_or (next_of c.args.self.now c.args.b) k 0) c.other_slot.ensures in
    edges_set_one items c.args.b c.at-kept.result ∙ ap (λ (g : List Run). set g c.args.b (run_to (c.at-kept.result ∷ []))) c.self.view_is ∙ ap (λ n. set c.args.self.now c.args.b (run_to (n ∷ []))) to
