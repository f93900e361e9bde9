use Rattle.std.proofs.Common.{rules, ◌≡◌}
use Rattle.hb_draft.proofs.{Apart.kept-once, Laid.kept-laid}
use Rattle.hb_draft.proofs.draft.Draft.finish.Goals as goal

pub returns-clause-once : goal.returns-clause-once
returns-clause-once c =
    let same : c.make.result ≡ c.args.self.table = search rules in
    rw same (kept-once _ _ c.self.view_is _ c.self.invariant)

pub returns-clause-laid : goal.returns-clause-laid
returns-clause-laid c =
    let same : c.make.result ≡ c.args.self.table = search rules in
    rw same (kept-laid _ _ c.self.view_is _ c.self.invariant)
