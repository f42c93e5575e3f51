use Rattle.std.proofs.Common.{◌≡◌, ℕ, Option, Some, arith}
use Rattle.std.specs.Prelude.{nat_eq}
use Rattle.std.specs.Map.{update}
use Rattle.std.specs.HashMap.{get}
use Rattle.std.proofs.lemmas.Grind.{common_steps}
use Rattle.ms_names.proofs.PlaceLemmas.{number_new, number_there}
use Rattle.ms_names.proofs.table.put_number.Goals as goal

pub returns-in_ok-insert-in-None-clause-ok : goal.returns-in_ok-insert-in-None-clause-ok
returns-in_ok-insert-in-None-clause-ok c =
    let old : ℕ → Option ℕ = λ q. get nat_eq c.args.places.now q in
    let new : ℕ → Option ℕ = λ q. get nat_eq c.insert.new.self q in
    number_new old new c.args.number c.args.place c.in-None.ensures.value
    (λ q. let goes : get nat_eq c.insert.new.self q ≡ update nat_eq old c.args.number (Some c.args.place) q = grind (arith, common_steps) in goes)

pub returns-in-Some-clause-ok : goal.returns-in-Some-clause-ok
returns-in-Some-clause-ok c =
    let old : ℕ → Option ℕ = λ q. get nat_eq c.args.places.now q in
    number_there old c.args.number c.args.place c.in-Some.field-0.now c.in-Some.ensures.value
