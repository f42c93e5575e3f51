use Rattle.ms_whole.proofs.Own.{others_stay}
use Rattle.ms_whole.proofs.Replaced.{way_ready, load_gone, gone_whole}
use Rattle.ms_whole.proofs.replacing.replace.Goals as goal

pub remove-requires-clause-graph : goal.remove-requires-clause-graph
remove-requires-clause-graph c =
    let old = c.args.parts.now in
    let t = c.requires.load in
    (way_ready old.func c.replace_local.new.self c.in-Some.l c.args.by old.flow old.form old.alias old.kept c.args.load.0 c.replace_local.ensures c.requires.whole (t.b, t.place, t.x, t.at)).graph

pub remove-requires-clause-closed : goal.remove-requires-clause-closed
remove-requires-clause-closed c =
    let old = c.args.parts.now in
    let t = c.requires.load in
    (way_ready old.func c.replace_local.new.self c.in-Some.l c.args.by old.flow old.form old.alias old.kept c.args.load.0 c.replace_local.ensures c.requires.whole (t.b, t.place, t.x, t.at)).closed

pub remove-requires-clause-there : goal.remove-requires-clause-there
remove-requires-clause-there c =
    let old = c.args.parts.now in
    let t = c.requires.load in
    (way_ready old.func c.replace_local.new.self c.in-Some.l c.args.by old.flow old.form old.alias old.kept c.args.load.0 c.replace_local.ensures c.requires.whole (t.b, t.place, t.x, t.at)).there

pub remove-requires-clause-form : goal.remove-requires-clause-form
remove-requires-clause-form c =
    let old = c.args.parts.now in
    let t = c.requires.load in
    (way_ready old.func c.replace_local.new.self c.in-Some.l c.args.by old.flow old.form old.alias old.kept c.args.load.0 c.replace_local.ensures c.requires.whole (t.b, t.place, t.x, t.at)).form

pub take-requires : goal.take-requires
take-requires c =
    let old = c.args.parts.now in
    let t = c.requires.load in
    (way_ready old.func c.replace_local.new.self c.in-Some.l c.args.by old.flow old.form old.alias old.kept c.args.load.0 c.replace_local.ensures c.requires.whole (t.b, t.place, t.x, t.at)).there

pub returns-clause-func : goal.returns-clause-func
returns-clause-func c =
    load_gone c.args.parts.now.func c.take.new.func c.replace_local.new.self c.args.load.0 c.in-Some.l c.args.by c.result_of.result c.take.ensures.0 c.requires.load c.in-Some.is c.result_of.ensures.there
    c.replace_local.ensures c.take.ensures.1

pub returns-clause-whole : goal.returns-clause-whole
returns-clause-whole c =
    let old = c.args.parts.now in
    let f = c.args.parts.now.func in
    let k = c.replace_local.new.self in
    let g = c.take.new.func in
    let n = c.args.load.0 in
    let t = c.requires.load in
    let ready = way_ready f k c.in-Some.l c.args.by old.flow old.form old.alias old.kept n c.replace_local.ensures c.requires.whole (t.b, t.place, t.x, t.at) in
    let gone = load_gone f g k n c.in-Some.l c.args.by c.result_of.result c.take.ensures.0 t c.in-Some.is c.result_of.ensures.there c.replace_local.ensures c.take.ensures.1 in
    gone_whole f k g n c.take.ensures.0 old.flow old.form c.remove.new.form old.alias old.kept c.after.new.self c.requires.whole ready c.take.ensures.1
    (c.without_told.ensures.taken k g n c.take.ensures.0 c.numbered-2.ensures c.take.ensures.1) c.remove.ensures.form c.remove.ensures.places c.remove.ensures.waiting (c.requires.sound g gone)
    (c.load_gone.ensures.tables f g n c.args.by c.numbered.ensures c.requires.whole.sound gone old.alias c.requires.whole.alias)
    (c.answers_stay.ensures.gone f g n c.args.by c.numbered.ensures c.requires.whole.sound gone c.own.result (record { inst = c.own.ensures.inst; own_only = c.own.ensures.own }) old.kept c.after.new.self
    c.requires.whole.right c.after.ensures.stays)

pub returns-clause-kept : goal.returns-clause-kept
returns-clause-kept c = others_stay c.args.parts.now.func c.own.result c.args.load c.own.ensures.inst c.own.ensures.own c.args.parts.now.kept c.after.new.self c.after.ensures.stays
