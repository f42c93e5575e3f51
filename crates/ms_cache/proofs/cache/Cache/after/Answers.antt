use Rattle.std.proofs.Common.{rules}
use Rattle.std.proofs.lemmas.Map.Made.{filter_same_pairs}
use Rattle.ms_cache.specs.Stays.{Kept, stays_by}
use Rattle.ms_cache.proofs.Keys.{once_told}
use Rattle.ms_cache.proofs.Tested.{stays_tested}
use Rattle.ms_cache.proofs.cache.Cache.after.Goals as goal

pub invariant_of-self : goal.invariant_of-self
invariant_of-self c = once_told c.retain.new.self.entries c.retain.ensures.unique

pub returns-clause-stays : goal.returns-clause-stays
returns-clause-stays c =
    let f = c.args.func.now in
    let a = c.args.alias.now in
    let e = c.args.change.now in (
      λ (x : Kept). stays_by f a e x.0,
      λ x. stays_tested f a (c.tests_told.ensures.writes f a) e c.requires x.0,
      rw (← c.self.view_is) (filter_same_pairs _ (λ (x : Kept). stays_by f a e x.0) _ (λ k v b w g call. search rules) c.self.inside.answers.entries c.retain.new.self.entries c.retain.ensures.filtered),
    )

pub returns-clause-once : goal.returns-clause-once
returns-clause-once c = once_told c.retain.new.self.entries c.retain.ensures.unique
