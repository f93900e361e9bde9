use Rattle.std.proofs.Common.{◌≡◌, ◌++◌, [], sym, ap, ◌∙◌, subst}
use Rattle.hb_tables.specs.Frames.{acts}
use Rattle.hb_call.specs.Held.{MayFree, frees, stands}
use Rattle.hb_call.specs.Calling.{IsCalling}
use Rattle.hb_call.specs.Seen.{given_of, moment_of}
use Rattle.hb_call.proofs.StepLemmas.{alike_door, goes_frees}
use Rattle.hb_call.proofs.RetreatLemmas.{retreat_rules, others_may, retreated, are_others, tail_of, head_of}
use Rattle.hb_call.proofs.call.Call.retreat.Goals as goal

pub free_keys-requires : goal.free_keys-requires
free_keys-requires g c =
    let s = c.args.self.now in let answers = c.requires.holding.0 in let h = c.requires.holding.1 in
    record { held = subst (λ ks. MayFree ks (stands (g.D.Desk.fixed s.desk.now).caller s.q.0 (g.D.Desk.front s.desk.now))) (sym (tail_of s.key h.first.0 c.deref.result.now (c.deref.ensures.value ∙ h.first.1))) (others_may s.prog.now (g.D.Desk.fixed s.desk.now) s.q _ _ _ s.key s.own s.held.now.items answers h) }

pub returns-clause-calling : goal.returns-clause-calling
returns-clause-calling g c =
    let s = c.args.self.now in let answers = c.requires.holding.0 in let h = c.requires.holding.1 in let f = c.free_keys.ensures in
    let door = g.D.Desk.fixed s.desk.now in let old = g.D.Desk.front s.desk.now in let new = g.D.Desk.front c.free_keys.new.desk in
    let more : acts door.caller new ≡ acts door.caller old ++ frees s.q h.first.0 = f.acts ∙ ap (λ ks. acts door.caller old ++ frees s.q ks) (tail_of s.key h.first.0 c.deref.result.now (c.deref.ensures.value ∙ h.first.1)) in
    let done = retreated s.prog.now door s.q (g.N.Names.known s.names.now) (g.N.Names.asked s.names.now) old s.key s.own s.held.now.items answers h new f.kept more (f.legal h.legal) (f.room h.room) in
    rw (f.fixed, c.clear.ensures.items, c.clear-2.ensures.items) (subst (λ ks. IsCalling s.prog.now door s.q.0 (g.N.Names.known s.names.now) (g.N.Names.asked s.names.now) new s.key s.own ks []) (sym (c.truncate.ensures.items ∙ head_of s.key h.first.0 s.held.now.items h.first.1)) done)

pub returns-clause-alike : goal.returns-clause-alike
returns-clause-alike g c =
    let s = c.args.self.now in let answers = c.requires.holding.0 in let h = c.requires.holding.1 in let f = c.free_keys.ensures in
    let door = g.D.Desk.fixed s.desk.now in let old = g.D.Desk.front s.desk.now in let new = g.D.Desk.front c.free_keys.new.desk in
    let more : acts door.caller new ≡ acts door.caller old ++ frees s.q h.first.0 = f.acts ∙ ap (λ ks. acts door.caller old ++ frees s.q ks) (tail_of s.key h.first.0 c.deref.result.now (c.deref.ensures.value ∙ h.first.1)) in
    alike_door (given_of g.D.Desk.fixed s) (g.D.Desk.fixed c.free_keys.new.desk) (moment_of g.D.Desk.front g.N.Names.known g.N.Names.asked s) _ f.fixed
    (goes_frees (given_of g.D.Desk.fixed s) (g.N.Names.known s.names.now) (g.N.Names.asked s.names.now) old new h.first.0 f.kept more f.legal (are_others s.prog.now door s.q _ _ _ s.key s.own s.held.now.items answers h))

pub returns-clause-rules : goal.returns-clause-rules
returns-clause-rules g c =
    let s = c.args.self.now in let answers = c.requires.holding.0 in let h = c.requires.holding.1 in let f = c.free_keys.ensures in
    let door = g.D.Desk.fixed s.desk.now in let old = g.D.Desk.front s.desk.now in let new = g.D.Desk.front c.free_keys.new.desk in
    let more : acts door.caller new ≡ acts door.caller old ++ frees s.q h.first.0 = f.acts ∙ ap (λ ks. acts door.caller old ++ frees s.q ks) (tail_of s.key h.first.0 c.deref.result.now (c.deref.ensures.value ∙ h.first.1)) in
    retreat_rules s.prog.now door s.q (g.N.Names.known s.names.now) _ old s.key s.own s.held.now.items answers h new c.requires.may more

pub returns-clause-freed : goal.returns-clause-freed
returns-clause-freed g c =
    let s = c.args.self.now in let answers = c.requires.holding.0 in let h = c.requires.holding.1 in let f = c.free_keys.ensures in
    let door = g.D.Desk.fixed s.desk.now in let old = g.D.Desk.front s.desk.now in
    (h.first.0, h.first.1, f.acts ∙ ap (λ ks. acts door.caller old ++ frees s.q ks) (tail_of s.key h.first.0 c.deref.result.now (c.deref.ensures.value ∙ h.first.1)))
