use Rattle.std.proofs.Common.{◌≡◌, ◌++◌, ◌∙◌, ◌<◌, ◌∷◌, [], List, map, length, suc, ap, arith}
use Rattle.std.proofs.lemmas.List.{map-append, length-map}
use Rattle.ms_paths.specs.Flow.{Event, Of, Phi, Entry}
use Rattle.ms_build.specs.Accesses.{event_of}
use Rattle.ms_session.proofs.NumberLemmas.{phi_given, def_given, entry_given}
use Rattle.ms_session.proofs.numbers.Numbers.push.Goals as goal

pub invariant_of-self-in-Entry : goal.invariant_of-self-in-Entry
invariant_of-self-in-Entry c =
    let s = c.self.inside in
    let all : List Event = map event_of s.accesses.items in
    let mapped : map event_of c.push.new.self.items ≡ all ++ Entry ∷ [] =
    ap (map event_of) c.in_ok-push.ensures.items ∙ map-append event_of s.accesses.items (c.args.access ∷ []) ∙ ap (λ a. all ++ event_of a ∷ []) c.in-Entry.is in
    rw mapped (entry_given all s.phis.items s.defs.items c.self.invariant)

pub invariant_of-self-in-Phi : goal.invariant_of-self-in-Phi
invariant_of-self-in-Phi c =
    let s = c.self.inside in
    let b = c.in-Phi.b.0 in
    let all : List Event = map event_of s.accesses.items in
    let mapped : map event_of c.push.new.self.items ≡ all ++ Phi b ∷ [] =
    ap (map event_of) c.in_ok-push.ensures.items ∙ map-append event_of s.accesses.items (c.args.access ∷ []) ∙ ap (λ a. all ++ event_of a ∷ []) c.in-Phi.is in
    let place = rw (← c.self.view_is, c.in-Phi.is) at c.requires in
    let within : b < length s.phis.items = omega (arith, place, s.phis.ok.0) in
    let number : c.len-number.result ≡ suc (length all) = omega (arith, c.len-number.ensures, c.in_ok-push.ensures.len, length-map s.accesses.items event_of, s.accesses.ok.0) in
    rw (mapped, c.give.ensures.items) (phi_given all s.phis.items s.defs.items b c.len-number.result c.self.invariant within number)

pub invariant_of-self-in-Of : goal.invariant_of-self-in-Of
invariant_of-self-in-Of c =
    let s = c.self.inside in
    let i = c.in-Of.i.0 in
    let all : List Event = map event_of s.accesses.items in
    let mapped : map event_of c.push.new.self.items ≡ all ++ Of i ∷ [] =
    ap (map event_of) c.in_ok-push.ensures.items ∙ map-append event_of s.accesses.items (c.args.access ∷ []) ∙ ap (λ a. all ++ event_of a ∷ []) c.in-Of.is in
    let place = rw (← c.self.view_is, c.in-Of.is) at c.requires in
    let within : i < length s.defs.items = omega (arith, place, s.defs.ok.0) in
    let number : c.len-number.result ≡ suc (length all) = omega (arith, c.len-number.ensures, c.in_ok-push.ensures.len, length-map s.accesses.items event_of, s.accesses.ok.0) in
    rw (mapped, c.give-in-Of.ensures.items) (def_given all s.phis.items s.defs.items i c.len-number.result c.self.invariant within number)
