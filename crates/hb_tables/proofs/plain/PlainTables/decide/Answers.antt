use Rattle.hb_tables.proofs.PlainLemmas.{decides_here, look_stays}
use Rattle.hb_tables.proofs.plain.PlainTables.decide.Goals as goal

pub returns-clause-answer : goal.returns-clause-answer
returns-clause-answer c =
    let r = c.requires.look in
    decides_here c.args.self.now.caller c.args.self.now.log c.write.new.self.log c.args.q c.args.key c.args.owner c.args.look c.args.args c.args.verdict c.write.ensures.log
    (look_stays c.args.owner c.args.look c.look-newer.result r.0 c.args.self.now.log r.1 r.2 c.look-newer.ensures.seen c.if-newer-look.false)
