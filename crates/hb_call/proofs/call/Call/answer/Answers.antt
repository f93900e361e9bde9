use Rattle.std.proofs.Common.{◌≡◌, List, [], ◌∷◌, ◌++◌, Some, refl, sym, subst, append_assoc}
use Rattle.hb_names.specs.Names.{Name, place, with_name}
use Rattle.hb_tables.specs.declared.entry.Entry.{Entry}
use Rattle.hb_tables.specs.Names.{name_of}
use Rattle.hb_call.specs.declared.answers.Answer.{Answer}
use Rattle.hb_call.specs.Calling.{Given, IsAsking, IsCalling, Moment}
use Rattle.hb_call.proofs.EnteringLemmas.{bytes_found}
use Rattle.hb_call.proofs.LookingLemmas.{asking_key, asking_names}
use Rattle.hb_names.proofs.NameLemmas.{with_name-begins}
use Rattle.hb_call.specs.Alike.{alike_on}
use Rattle.hb_call.specs.Seen.{given_of, moment_of}
use Rattle.hb_call.specs.GrowthLaws.{prefix_itself}
use Rattle.hb_call.proofs.GrowthLemmas.{asked_now}
use Rattle.hb_call.proofs.StepLemmas.{at, goes_key, goes_names}
use Rattle.hb_call.proofs.CallingLemmas.{calling_as, named_on}
use Rattle.hb_call.proofs.call.Call.answer.Goals as goal

pub returns-in-Err-Full-clause-calling : goal.returns-in-Err-Full-clause-calling
returns-in-Err-Full-clause-calling g c =
    let s = c.make_room.new.self in
    rw (c.in-Err-Full.ensures.unasked) (named_on s.prog.now (g.D.Desk.fixed s.desk.now) s.q _ _ _ s.key s.own s.held.now.items (s.compared.now.items ++ s.answers.now.items) c.make_room.ensures.calling (g.N.Names.known c.key.new.self) _ c.key.ensures.kept (prefix_itself _))

pub returns-in-Err-NoMemory-clause-calling : goal.returns-in-Err-NoMemory-clause-calling
returns-in-Err-NoMemory-clause-calling g c =
    let s = c.make_room.new.self in
    rw (c.in-Err-NoMemory.ensures.unasked) (named_on s.prog.now (g.D.Desk.fixed s.desk.now) s.q _ _ _ s.key s.own s.held.now.items (s.compared.now.items ++ s.answers.now.items) c.make_room.ensures.calling (g.N.Names.known c.key.new.self) _ c.key.ensures.kept (prefix_itself _))

pub returns-in-Err-Full-clause-alike : goal.returns-in-Err-Full-clause-alike
returns-in-Err-Full-clause-alike g c =
    let s = c.make_room.new.self in
    alike_on _ _ _ _ (moment_of g.D.Desk.front g.N.Names.known g.N.Names.asked s) _ c.make_room.ensures.alike
    (record { same = refl; goes = rw (c.in-Err-Full.ensures.unasked) (goes_names (given_of g.D.Desk.fixed s) (g.N.Names.known s.names.now) (g.N.Names.asked s.names.now) (g.N.Names.known c.key.new.self) (g.D.Desk.front s.desk.now) c.key.ensures.kept c.key.ensures.few c.key.ensures.differ) })

pub returns-in-Err-NoMemory-clause-alike : goal.returns-in-Err-NoMemory-clause-alike
returns-in-Err-NoMemory-clause-alike g c =
    let s = c.make_room.new.self in
    alike_on _ _ _ _ (moment_of g.D.Desk.front g.N.Names.known g.N.Names.asked s) _ c.make_room.ensures.alike
    (record { same = refl; goes = rw (c.in-Err-NoMemory.ensures.unasked) (goes_names (given_of g.D.Desk.fixed s) (g.N.Names.known s.names.now) (g.N.Names.asked s.names.now) (g.N.Names.known c.key.new.self) (g.D.Desk.front s.desk.now) c.key.ensures.kept c.key.ensures.few c.key.ensures.differ) })

pub type_held-held-requires-clause-calling : goal.type_held-held-requires-clause-calling
type_held-held-requires-clause-calling g c =
    let s = c.make_room.new.self in
    rw (c.in-Ok.ensures.asked) (named_on s.prog.now (g.D.Desk.fixed s.desk.now) s.q _ _ _ s.key s.own s.held.now.items (s.compared.now.items ++ s.answers.now.items) c.make_room.ensures.calling (g.N.Names.known c.key.new.self) _ c.key.ensures.kept (with_name-begins (g.N.Names.asked s.names.now) (c.args.class.0, c.name.result.now)))

pub type_held-held-requires-clause-asked : goal.type_held-held-requires-clause-asked
type_held-held-requires-clause-asked g c =
    let s = c.make_room.new.self in
    rw (c.in-Ok.ensures.asked) (asked_now (g.N.Names.known c.key.new.self) (g.N.Names.asked s.names.now) (c.args.class.0, c.name.result.now) c.in-Ok.key.0 c.in-Ok.ensures.key)

pub returns-clause-alike : goal.returns-clause-alike
returns-clause-alike g c =
    let s = c.make_room.new.self in let h = c.make_room.ensures.calling in
    alike_on _ _ _ _ (moment_of g.D.Desk.front g.N.Names.known g.N.Names.asked s) _ c.make_room.ensures.alike (record {
      same = c.type_held-held.ensures.same;
      goes = rw (c.type_held-held.ensures.names) (goes_key (given_of g.D.Desk.fixed s) (g.N.Names.known s.names.now) (g.N.Names.asked s.names.now) (g.N.Names.known c.key.new.self) (g.N.Names.asked c.key.new.self) (g.D.Desk.front s.desk.now) (g.D.Desk.front c.type_held-held.new.self.desk.now)
          (c.args.class.0, c.name.result.now) c.in-Ok.key c.type_held-held.result c.key.ensures.kept c.key.ensures.few c.key.ensures.differ c.in-Ok.ensures.key c.in-Ok.ensures.asked c.type_held-held.ensures.finds (λ one. h.asked_for c.in-Ok.key.0 one) c.type_held-held.ensures.legal);
    })

pub returns-clause-calling : goal.returns-clause-calling
returns-clause-calling g c =
    let s = c.make_room.new.self in let n = c.type_held-held.new.self in
    let a : Answer = record { class = c.args.class; name = c.args.name; key = c.in-Ok.key; held = c.type_held-held.result } in
    let named : place (g.N.Names.known c.key.new.self) (name_of s.prog.now (c.args.class.0, c.args.name.0)) ≡ Some c.in-Ok.key.0 = rw (bytes_found s.prog.now.names c.args.name.0 c.name.result.now c.name.ensures.value) c.in-Ok.ensures.key in
    let done = c.type_held-held.ensures.calling c.args.class c.args.name named in
    rw (c.push_reserved.ensures.items, c.type_held-held.ensures.answers, c.type_held-held.ensures.names, c.type_held-held.ensures.compared)
    (calling_as (given_of g.D.Desk.fixed s) (given_of g.D.Desk.fixed n) _ _ _ _ _ c.type_held-held.ensures.same (subst (λ (l : List Answer). IsCalling s.prog.now (g.D.Desk.fixed s.desk.now) s.q.0 (g.N.Names.known c.key.new.self) (g.N.Names.asked c.key.new.self) (g.D.Desk.front n.desk.now) s.key s.own n.held.now.items l) (append_assoc s.compared.now.items s.answers.now.items (a ∷ [])) done))

pub returns-then-is_err-clause-asks : goal.returns-then-is_err-clause-asks
returns-then-is_err-clause-asks g c = rw (c.make_room.ensures.front, c.make_room.ensures.answers) (asking_names _ _ _ _ _ _ _)

pub returns-in-Err-Full-clause-asks : goal.returns-in-Err-Full-clause-asks
returns-in-Err-Full-clause-asks g c = rw (c.make_room.ensures.front, c.make_room.ensures.answers) (asking_names _ _ _ _ _ _ _)

pub returns-in-Err-NoMemory-clause-asks : goal.returns-in-Err-NoMemory-clause-asks
returns-in-Err-NoMemory-clause-asks g c = rw (c.make_room.ensures.front, c.make_room.ensures.answers) (asking_names _ _ _ _ _ _ _)

pub returns-clause-asks : goal.returns-clause-asks
returns-clause-asks g c =
    let s = c.make_room.new.self in let o = c.args.self.now in
    let old = g.D.Desk.front s.desk.now in let new = g.D.Desk.front c.type_held-held.new.self.desk.now in
    let longer = g.N.Names.known c.key.new.self in let more = g.N.Names.asked c.key.new.self in
    let a : Answer = record { class = c.args.class; name = c.args.name; key = c.in-Ok.key; held = c.type_held-held.result } in
    let calling = named_on s.prog.now (g.D.Desk.fixed s.desk.now) s.q _ _ _ s.key s.own s.held.now.items (s.compared.now.items ++ s.answers.now.items) c.make_room.ensures.calling longer (with_name (g.N.Names.asked s.names.now) (c.args.class.0, c.name.result.now)) c.key.ensures.kept (with_name-begins (g.N.Names.asked s.names.now) (c.args.class.0, c.name.result.now)) in
    let named : place longer (name_of s.prog.now (c.args.class.0, c.args.name.0)) ≡ Some c.in-Ok.key.0 = rw (bytes_found s.prog.now.names c.args.name.0 c.name.result.now c.name.ensures.value) c.in-Ok.ensures.key in
    let one = asking_key (given_of g.D.Desk.fixed s) (g.N.Names.known o.names.now) longer (g.N.Names.asked o.names.now) (with_name (g.N.Names.asked s.names.now) (c.args.class.0, c.name.result.now)) old new s.key s.own s.held.now.items s.compared.now.items s.answers.now.items a calling named c.type_held-held.ensures.finds c.type_held-held.ensures.legal in
    let was : List Entry → Moment = λ l. at (g.N.Names.known o.names.now) (g.N.Names.asked o.names.now) l in
    let two = subst (λ (h : Given). IsAsking h (was old) (at longer (with_name (g.N.Names.asked s.names.now) (c.args.class.0, c.name.result.now)) new) s.answers.now.items (s.answers.now.items ++ a ∷ [])) (sym c.make_room.ensures.alike.same) one in
    let three = subst (λ (l : List Entry). IsAsking (given_of g.D.Desk.fixed o) (was l) (at longer (with_name (g.N.Names.asked s.names.now) (c.args.class.0, c.name.result.now)) new) s.answers.now.items (s.answers.now.items ++ a ∷ [])) c.make_room.ensures.front two in
    let four = subst (λ (m : List Name). IsAsking (given_of g.D.Desk.fixed o) (was (g.D.Desk.front o.desk.now)) (at longer m new) s.answers.now.items (s.answers.now.items ++ a ∷ [])) (sym c.in-Ok.ensures.asked) three in
    rw (c.push_reserved.ensures.items, c.type_held-held.ensures.answers, c.type_held-held.ensures.names)
    (subst (λ (l : List Answer). IsAsking (given_of g.D.Desk.fixed o) (was (g.D.Desk.front o.desk.now)) (at longer more new) l (s.answers.now.items ++ a ∷ [])) c.make_room.ensures.answers four)
