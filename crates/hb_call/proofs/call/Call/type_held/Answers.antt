use Rattle.std.proofs.Common.{◌≡◌, ◌++◌, inl, inr, refl, sym, ◌∙◌, subst, Some, None}
use Rattle.std.specs.Prelude.{ℕ}
use Rattle.hb_call.specs.Calling.{HasType, held_among}
use Rattle.hb_call.proofs.StayLemmas.{hold_finds}
use Rattle.hb_call.proofs.CallingLemmas.{noted, not_held, has_room, holding, type_found, site_below}
use Rattle.hb_call.proofs.call.Call.type_held.Goals as goal

pub returns-then-key-self-clause-finds : goal.returns-then-key-self-clause-finds
returns-then-key-self-clause-finds g c =
    let s = c.args.self.now in
    inl (refl, subst (λ (k : ℕ). HasType (g.D.Desk.front s.desk.now) ((g.D.Desk.fixed s.desk.now).caller, s.q.0) k s.own) (sym c.if-key-self.true) c.requires.calling.own_is)

pub returns-then-key-self-clause-calling : goal.returns-then-key-self-clause-calling
returns-then-key-self-clause-calling g c class name place =
    let s = c.args.self.now in let h = c.requires.calling in
    noted s.prog.now (g.D.Desk.fixed s.desk.now) s.q _ _ _ s.key s.own s.held.now.items (s.compared.now.items ++ s.answers.now.items) h (record { class = class; name = name; key = c.args.key; held = s.own }) place
    (subst (λ (k : ℕ). HasType (g.D.Desk.front s.desk.now) ((g.D.Desk.fixed s.desk.now).caller, s.q.0) k s.own) (sym c.if-key-self.true) h.own_is)

pub returns-then-key-self-clause-below : goal.returns-then-key-self-clause-below
returns-then-key-self-clause-below g c = let s = c.args.self.now in let h = c.requires.calling in site_below (g.D.Desk.fixed s.desk.now).limit s.key.0 (g.D.Desk.front s.desk.now) s.own.ty h.legal h.own_is.1

pub returns-in-Some-clause-finds : goal.returns-in-Some-clause-finds
returns-in-Some-clause-finds g c =
    let s = c.args.self.now in let h = c.requires.calling in
    let is : Some c.in-Some.held ≡ held_among (s.compared.now.items ++ s.answers.now.items) c.args.key.0 = sym c.in-Some.is ∙ c.known.ensures in
    inl (
      refl,
      type_found s.prog.now (g.N.Names.known s.names.now) (g.D.Desk.front s.desk.now) ((g.D.Desk.fixed s.desk.now).caller, s.q.0)
          (s.compared.now.items ++ s.answers.now.items) c.args.key.0 c.in-Some.held h.answered is,
    )

pub returns-in-Some-clause-calling : goal.returns-in-Some-clause-calling
returns-in-Some-clause-calling g c class name place =
    let s = c.args.self.now in let h = c.requires.calling in
    let is : Some c.in-Some.held ≡ held_among (s.compared.now.items ++ s.answers.now.items) c.args.key.0 = sym c.in-Some.is ∙ c.known.ensures in
    noted s.prog.now (g.D.Desk.fixed s.desk.now) s.q _ _ _ s.key s.own s.held.now.items (s.compared.now.items ++ s.answers.now.items) h
    (record { class = class; name = name; key = c.args.key; held = c.in-Some.held }) place
    (type_found s.prog.now (g.N.Names.known s.names.now) (g.D.Desk.front s.desk.now) ((g.D.Desk.fixed s.desk.now).caller, s.q.0) (s.compared.now.items ++ s.answers.now.items) c.args.key.0 c.in-Some.held h.answered is)

pub returns-in-Some-clause-below : goal.returns-in-Some-clause-below
returns-in-Some-clause-below g c =
    let s = c.args.self.now in let h = c.requires.calling in
    let is : Some c.in-Some.held ≡ held_among (s.compared.now.items ++ s.answers.now.items) c.args.key.0 = sym c.in-Some.is ∙ c.known.ensures in
    site_below (g.D.Desk.fixed s.desk.now).limit c.args.key.0 (g.D.Desk.front s.desk.now) c.in-Some.held.ty h.legal
    (type_found s.prog.now (g.N.Names.known s.names.now) (g.D.Desk.front s.desk.now) ((g.D.Desk.fixed s.desk.now).caller, s.q.0) (s.compared.now.items ++ s.answers.now.items) c.args.key.0 c.in-Some.held h.answered is).1

pub hold-held-requires-clause-free : goal.hold-held-requires-clause-free
hold-held-requires-clause-free g c =
    let s = c.args.self.now in let h = c.requires.calling in
    let is : None ≡ held_among (s.compared.now.items ++ s.answers.now.items) c.args.key.0 = sym c.in_default.is ∙ c.known.ensures in
    not_held s.prog.now (g.D.Desk.fixed s.desk.now) s.q _ _ _ s.key s.own s.held.now.items (s.compared.now.items ++ s.answers.now.items) h c.args.key.0 c.if-key-self.false is

pub hold-held-requires-clause-few : goal.hold-held-requires-clause-few
hold-held-requires-clause-few g c =
    let s = c.args.self.now in let h = c.requires.calling in
    let is : None ≡ held_among (s.compared.now.items ++ s.answers.now.items) c.args.key.0 = sym c.in_default.is ∙ c.known.ensures in
    let none = not_held s.prog.now (g.D.Desk.fixed s.desk.now) s.q _ _ _ s.key s.own s.held.now.items (s.compared.now.items ++ s.answers.now.items) h c.args.key.0 c.if-key-self.false is in
    has_room s.prog.now (g.D.Desk.fixed s.desk.now) s.q _ _ _ s.key s.own s.held.now.items (s.compared.now.items ++ s.answers.now.items) h c.args.key.0 none

pub returns-clause-finds : goal.returns-clause-finds
returns-clause-finds g c = inr c.hold-held.ensures.entry

pub returns-clause-calling : goal.returns-clause-calling
returns-clause-calling g c class name place =
    let s = c.args.self.now in let h = c.requires.calling in let door = g.D.Desk.fixed s.desk.now in
    let is : None ≡ held_among (s.compared.now.items ++ s.answers.now.items) c.args.key.0 = sym c.in_default.is ∙ c.known.ensures in
    let none = not_held s.prog.now door s.q _ _ _ s.key s.own s.held.now.items (s.compared.now.items ++ s.answers.now.items) h c.args.key.0 c.if-key-self.false is in
    rw (c.push_reserved.ensures.items)
    (holding s.prog.now door s.q _ _ (g.D.Desk.front s.desk.now) s.key s.own s.held.now.items (s.compared.now.items ++ s.answers.now.items) h
    (g.D.Desk.front c.hold-held.new.self) c.args.key c.hold-held.result
    (record { class = class; name = name; key = c.args.key; held = c.hold-held.result }) c.hold-held.ensures.entry c.hold-held.ensures.legal none c.requires.below c.requires.asked refl refl
    place)

pub returns-clause-below : goal.returns-clause-below
returns-clause-below g c =
    let s = c.args.self.now in let door = g.D.Desk.fixed s.desk.now in
    site_below door.limit c.args.key.0 (g.D.Desk.front c.hold-held.new.self) c.hold-held.result.ty c.hold-held.ensures.legal
    (hold_finds door.limit door.caller s.q c.args.key c.hold-held.result.ty c.hold-held.result.changes (g.D.Desk.front s.desk.now)
    (g.D.Desk.front c.hold-held.new.self) c.hold-held.ensures.entry c.hold-held.ensures.legal).0
