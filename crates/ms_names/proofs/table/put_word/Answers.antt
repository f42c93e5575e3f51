use Rattle.std.proofs.Common.{ℕ, List, Option, bytes_eq}
use Rattle.std.specs.HashMap.{get_by}
use Rattle.std.proofs.lemmas.Map.Text.{hash_map_updates_str}
use Rattle.ms_names.proofs.PlaceLemmas.{word_new, word_there}
use Rattle.ms_names.proofs.table.put_word.Goals as goal

pub returns-in_ok-insert-in-None-clause-ok : goal.returns-in_ok-insert-in-None-clause-ok
returns-in_ok-insert-in-None-clause-ok c =
    let old : List ℕ → Option ℕ = λ q. get_by (λ k. bytes_eq q k.now) c.args.places.now in
    let new : List ℕ → Option ℕ = λ q. get_by (λ k. bytes_eq q k.now) c.insert.new.self in
    word_new old new c.args.word.now c.args.place c.in-None.ensures.value
    (hash_map_updates_str c.args.word.now c.args.places.now c.insert.new.self _ c.in_ok-insert-in-None.ensures.updates)

pub returns-in-Some-clause-ok : goal.returns-in-Some-clause-ok
returns-in-Some-clause-ok c =
    let old : List ℕ → Option ℕ = λ q. get_by (λ k. bytes_eq q k.now) c.args.places.now in
    word_there old c.args.word.now c.args.place c.in-Some.field-0.now c.in-Some.ensures.value
