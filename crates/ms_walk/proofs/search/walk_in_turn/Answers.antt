use Rattle.std.proofs.Common.{◌≡◌, sym}
use Rattle.std.proofs.lemmas.Bool.{both_ways}
use Rattle.ms_paths.specs.Flow.{Of}
use Rattle.ms_build.specs.Accesses.{event_of}
use Rattle.ms_climb.proofs.Options.{if_ok}
use Rattle.ms_walk.specs.Clobber.{IsLastWriterBefore, IsClobber}
use Rattle.ms_walk.proofs.Turns.{not_passed, found_in_turn, found_before, maker_reached}
use Rattle.ms_walk.proofs.search.walk_in_turn.Goals as goal

pub returns-then-not-has : goal.returns-then-not-has
returns-then-not-has c =
    let f = c.args.of.now.func.now in
    let loc = c.args.loc.now in
    if_ok (λ a. IsLastWriterBefore f c.args.i.0 loc (event_of a)) (λ a. IsClobber f c.args.i.0 loc (event_of a)) c.last_writer.result
    (λ a last. not_passed f c.args.q.0 c.args.i.0 loc (event_of a) c.in_ok-turn.turn.insts.items c.in_ok-turn.turn.starts.items c.requires.reached c.in_ok-turn.ensures c.requires.only (sym c.if-not-has.ensures) last)
    c.last_writer.ensures

pub last_writer-requires-then-is_inst-clause-reached : goal.last_writer-requires-then-is_inst-clause-reached
last_writer-requires-then-is_inst-clause-reached c =
    maker_reached c.args.of.now.func.now c.args.q.0 c.args.i.0 c.in_ok-turn.turn.insts.items c.in_ok-turn.turn.starts.items c.requires.reached c.in_ok-turn.ensures (sym c.if-not-has.ensures)

pub returns-then-is_inst : goal.returns-then-is_inst
returns-then-is_inst c =
    let f = c.args.of.now.func.now in
    let loc = c.args.loc.now in
    if_ok (λ a. IsLastWriterBefore f c.args.q.0 loc (event_of a)) (λ a. IsClobber f c.args.i.0 loc (event_of a)) c.last_writer-then-is_inst.result
    (λ a before. found_before f c.args.q.0 c.args.i.0 loc (event_of c.in_ok-found.found) (event_of a) c.in_ok-turn.turn.insts.items c.in_ok-turn.turn.starts.items c.requires.reached c.in_ok-turn.ensures
    c.requires.turned c.requires.only (sym c.if-not-has.ensures) c.in_ok-found.ensures (c.is_inst.ensures.0 c.if-is_inst.true) before)
    c.last_writer-then-is_inst.ensures

pub returns : goal.returns
returns c =
    let no : event_of c.in_ok-found.found ≡ Of c.args.q.0 → ⊥ = λ e. let t = c.is_inst.ensures.1 e in let n = c.if-is_inst.false in both_ways c.is_inst.result n t in
    found_in_turn c.args.of.now.func.now c.args.q.0 c.args.i.0 c.args.loc.now (event_of c.in_ok-found.found) c.in_ok-turn.turn.insts.items c.in_ok-turn.turn.starts.items c.requires.reached c.in_ok-turn.ensures
    c.requires.turned c.requires.only (sym c.if-not-has.ensures) c.in_ok-found.ensures no
