use Rattle.std.proofs.Common.{arith}
use Rattle.ms_grammar.specs.Parts.{texts, bytes_at}
use Rattle.ms_line_parts.proofs.Variables.{so_far_first, so_far_more, so_far_end, no_level, no_name, at_next, no_members, behind_mark, short_texts}
use Rattle.ms_line_parts.proofs.terms.index_terms.Goals as goal

pub loop-ty-init : goal.loop-ty-init
loop-ty-init c =
    (c.requires.indices, λ sizes items names f g. so_far_first sizes items names c.in_ok-levels.levels.items (texts c.args.line.now c.args.indices.now) c.new-terms.result (c.in_ok-levels.ensures sizes f) g c.new-terms.ensures)

pub returns-in_default-pop : goal.returns-in_default-pop
returns-in_default-pop c = λ sizes items names f g.
    let is = c.in-Some.ensures.is in
    no_level sizes items names c.loop-ty.levels.items (bytes_at c.args.line.now c.in-Some.ty) (bytes_at c.args.line.now c.in-Some.name) (texts c.args.line.now is.0) c.loop-ty.terms
    (at_next sizes items names c.loop-ty.levels.items c.args.line.now c.loop-ty.left.now c.in-Some.ty c.in-Some.name is.0 c.loop-ty.terms (c.loop-ty.invariant.1 sizes items names f g) is.1)
    (no_members c.loop-ty.levels.items (omega (arith, c.loop-ty.levels.ok.0, c.in_default-pop.ensures.cases.0)))

pub returns-then-not-branch : goal.returns-then-not-branch
returns-then-not-branch c = λ sizes items names f g.
    let is = c.in-Some.ensures.is in
    no_name sizes items names c.loop-ty.levels.items c.pop.new.self.items c.in-Some-pop.size (bytes_at c.args.line.now c.in-Some.ty) (bytes_at c.args.line.now c.in-Some.name) (texts c.args.line.now is.0) c.loop-ty.terms
    (at_next sizes items names c.loop-ty.levels.items c.args.line.now c.loop-ty.left.now c.in-Some.ty c.in-Some.name is.0 c.loop-ty.terms (c.loop-ty.invariant.1 sizes items names f g) is.1)
    c.in-Some-pop.ensures.items (c.in_ok-put_term.ensures.no c.if-not-branch.true) (c.in_ok-put_term.ensures.none c.if-not-branch.true)

pub loop-ty-preserved : goal.loop-ty-preserved
loop-ty-preserved c =
    let is = c.in-Some.ensures.is in (
      c.in-Some.ensures.owned.2,
      λ sizes items names f g.
          so_far_more sizes items names c.loop-ty.levels.items c.pop.new.self.items c.in-Some-pop.size (bytes_at c.args.line.now c.in-Some.ty) (bytes_at c.args.line.now c.in-Some.name) (texts c.args.line.now is.0)
          (texts c.args.line.now c.in-Some.rest.now) c.loop-ty.terms c.put_term.new.terms
          (at_next sizes items names c.loop-ty.levels.items c.args.line.now c.loop-ty.left.now c.in-Some.ty c.in-Some.name is.0 c.loop-ty.terms (c.loop-ty.invariant.1 sizes items names f g) is.1)
          c.in-Some-pop.ensures.items (behind_mark c.args.line.now is.0 c.in-Some.rest.now is.2) (c.in_ok-put_term.ensures.yes c.if-not-branch.false),
    )

pub returns : goal.returns
returns c = λ sizes items names f g.
    so_far_end sizes items names c.loop-ty.levels.items (texts c.args.line.now c.loop-ty.left.now) c.loop-ty.terms (c.loop-ty.invariant.1 sizes items names f g)
    (short_texts c.args.line.now c.loop-ty.left.now c.in_default.ensures.is)
