use Rattle.std.proofs.Common.{◌≡◌, ◌<◌, List, ℕ, length, get_or, sym, ap, ◌∙◌, subst, arith}
use Rattle.ms_flow.specs.Table.{list_of, next_of, edges}
use Rattle.ms_flow.proofs.Tables.{length-edges, next_at, target_within}
use Rattle.ms_flow.proofs.table.Table.at.Goals as goal

pub index-requires : goal.index-requires
index-requires c =
    let within = rw (← c.self.view_is) at c.requires.block in
    omega (arith, within, length-edges c.self.inside.targets.items, c.self.inside.targets.ok.0)

pub at-requires : goal.at-requires
at-requires c =
    let within = rw (← c.self.view_is) at c.requires.block in
    let slot = rw (← c.self.view_is) at c.requires.slot in
    let items = c.self.inside.targets.items in
    let in' : c.args.b < length items = omega (arith, within, length-edges items) in
    let same : next_of (edges items) c.args.b ≡ list_of c.index.result.now = next_at items c.args.b c.index.result.now in' ∙ ap list_of (sym c.index.ensures) in
    subst (λ (l : List ℕ). c.args.slot < length l) same slot

pub returns-clause-target : goal.returns-clause-target
returns-clause-target c =
    let within = rw (← c.self.view_is) at c.requires.block in
    let items = c.self.inside.targets.items in
    let in' : c.args.b < length items = omega (arith, within, length-edges items) in
    let same : next_of (edges items) c.args.b ≡ list_of c.index.result.now = next_at items c.args.b c.index.result.now in' ∙ ap list_of (sym c.index.ensures) in
    rw (← c.self.view_is) (c.at.ensures ∙ sym (ap (λ (l : List ℕ). get_or l c.args.slot 0) same))

pub returns-clause-within : goal.returns-clause-within
returns-clause-within c =
    let within = rw (← c.self.view_is) at c.requires.block in
    let slot = rw (← c.self.view_is) at c.requires.slot in
    let items = c.self.inside.targets.items in
    let in' : c.args.b < length items = omega (arith, within, length-edges items) in
    let same : next_of (edges items) c.args.b ≡ list_of (get_or items c.args.b c.index.result.now) = next_at items c.args.b c.index.result.now in' in
    let far = subst (λ (l : List ℕ). c.args.slot < length l) same slot in
    let below = target_within _ items c.args.b c.args.slot c.index.result.now c.self.invariant.0 in' far in
    let here : c.at.result ≡ get_or (list_of (get_or items c.args.b c.index.result.now)) c.args.slot 0 = c.at.ensures ∙ ap (λ t. get_or (list_of t) c.args.slot 0) c.index.ensures in
    rw (← c.self.view_is) (omega (arith, below, here, length-edges items, c.self.inside.targets.ok.0))
