use Rattle.ms_line_parts.proofs.Levels.{scaled_more}
use Rattle.ms_line_parts.proofs.terms.scales.Goals as goal

pub loop-count-preserved : goal.loop-count-preserved
loop-count-preserved c =
    scaled_more c.args.counts.now.items c.loop-count.counts.items c.pop.new.self.items c.loop-count.sizes.items c.push-in-Some.new.self.items c.args.bytes c.loop-count.size c.in-Some.count
    c.saturating_mul-size.result c.loop-count.invariant c.in-Some.ensures.items c.saturating_mul-size.ensures c.in_ok-push-2.ensures.items
