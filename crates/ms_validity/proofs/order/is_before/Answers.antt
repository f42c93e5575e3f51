use Rattle.std.proofs.Common.{◌≡◌, Some, List, length, refl, ap, ◌∙◌, subst, arith}
use Rattle.std.specs.Prelude.{IsTrue, ◌↔◌}
use Rattle.std.specs.List.{slice_get}
use Rattle.std.proofs.lemmas.Option.{same_Some}
use Rattle.ms_paths.specs.Flow.{Block as Run}
use Rattle.ms_validity.specs.declared.spots.Spot.{Spot}
use Rattle.ms_validity.specs.Tables.{spot_at}
use Rattle.ms_validity.specs.Told.{as_use}
use Rattle.ms_validity.proofs.PathLemmas.{Without}
use Rattle.ms_validity.proofs.OrderLemmas.{before_told}
use Rattle.ms_validity.proofs.order.is_before.Goals as goal

pub comes_without-requires-clause-first : goal.comes_without-requires-clause-first
comes_without-requires-clause-first c =
    let w = c.in-Some.ensures.found in
    let spot = subst (λ n. slice_get c.args.spots.now n ≡ Some (spot_at w.0 w.1)) w.3.numbered (c.requires.spots w.0 w.1 w.2 w.3.found) in
    let is : c.in-Some-spot_of.first ≡ spot_at w.0 w.1 = same_Some _ _ (c.in-Some-spot_of.ensures ∙ spot) in
    let block : c.in-Some-spot_of.first.block ≡ w.0 = ap (λ (s : Spot). s.block) is in
    let len = c.same_paths.ensures.blocks c.args.func.now.blocks in
    let flow = ap (length {A = Run}) c.requires.flow in
    let lt = w.3.block in
    omega arith

pub returns-in-Some-spot_of-clause-told : goal.returns-in-Some-spot_of-clause-told
returns-in-Some-spot_of-clause-told c =
    let w = c.in-Some.ensures.found in
    let spot = subst (λ n. slice_get c.args.spots.now n ≡ Some (spot_at w.0 w.1)) w.3.numbered (c.requires.spots w.0 w.1 w.2 w.3.found) in
    let is : c.in-Some-spot_of.first ≡ spot_at w.0 w.1 = same_Some _ _ (c.in-Some-spot_of.ensures ∙ spot) in
    let told = subst (λ (s : Spot). IsTrue c.comes_without.result ↔ Without c.args.flow.now.graph s c.args.used.at) is c.comes_without.ensures.told in
    let told' = subst (λ (g : List Run). IsTrue c.comes_without.result ↔ Without g (spot_at w.0 w.1) c.args.used.at) c.requires.flow told in
    before_told (λ blocks b p. c.same_paths.ensures.paths blocks b p) c.args.func.now c.args.used.at (as_use c.args.used) c.in-Local.l w.0 w.1 w.2 c.comes_without.result
    c.numbered.ensures c.in-Local.is refl refl (record { found = w.3.found; gives = w.4 }) told'
