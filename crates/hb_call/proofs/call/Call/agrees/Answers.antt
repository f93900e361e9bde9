use Rattle.std.proofs.Common.{◌≡◌, Some, None, sym, ap, ◌∙◌, rules}
use Rattle.std.specs.Prelude.{option_copied}
use Rattle.hb_cache.specs.Kept.{of_body, kept_at}
use Rattle.hb_call.specs.Seen.{given_of, moment_of}
use Rattle.hb_call.proofs.{EndedLemmas.ends_unfound, OwnComparedLemmas.other_rightly, OwnComparedLemmas.unfound_rightly, RulingLemmas.found_kept}
use Rattle.hb_call.proofs.call.Call.agrees.Goals as goal

pub returns-in_default-clause-ended : goal.returns-in_default-clause-ended
returns-in_default-clause-ended g c =
    let o = c.args.self.now in
    let gone : c.find.result ≡ None = search rules in
    let none : of_body c.args.body.0 (kept_at o.cache.now o.key.0) ≡ None = sym c.find.ensures.found ∙ ap option_copied gone in
    ends_unfound (given_of g.D.Desk.fixed o) (moment_of g.D.Desk.front g.N.Names.known g.N.Names.asked o) o.held.now.items o.compared.now.items o.answers.now.items c.args.body c.requires.fresh.1
    c.requires.fresh.0 c.requires.calling (unfound_rightly (given_of g.D.Desk.fixed o) c.args.body none)

pub returns-then-kept-self-clause-ended : goal.returns-then-kept-self-clause-ended
returns-then-kept-self-clause-ended g c =
    let o = c.args.self.now in let kept = c.in-Some.kept.now in
    let e : Some kept ≡ option_copied c.find.result = ap option_copied (sym c.in-Some.is) in
    let f = found_kept c.args.body.0 (kept_at o.cache.now o.key.0) kept (e ∙ c.find.ensures.found) in
    let key = c.find.ensures.own kept (sym e) in
    ends_unfound (given_of g.D.Desk.fixed o) (moment_of g.D.Desk.front g.N.Names.known g.N.Names.asked o) o.held.now.items o.compared.now.items o.answers.now.items c.args.body c.requires.fresh.1
    c.requires.fresh.0 c.requires.calling (other_rightly (given_of g.D.Desk.fixed o) kept (Some c.args.body) f.0 key c.if-kept-self.true)
