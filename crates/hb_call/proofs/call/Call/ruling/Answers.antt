use Rattle.std.proofs.Common.{◌≡◌, ◌++◌, [], Some, None, Ok, refl, sym, ap, ◌∙◌, subst, arith, rules}
use Rattle.std.proofs.lemmas.List.{append-nil}
use Rattle.std.proofs.lemmas.Option.{slice_get_past}
use Rattle.std.specs.Option.{option_map}
use Rattle.std.specs.Prelude.{Bool, IfOk, Option, List}
use Rattle.hb_types.specs.declared.ids.BodySite.{BodySite}
use Rattle.hb_names.proofs.NameLemmas.{place-longer}
use Rattle.hb_tables.specs.declared.entry.Verdict.TheVariants as verdict
use Rattle.hb_tables.specs.Rows.{body_at, kinds_of}
use Rattle.hb_call.specs.declared.answers.Answer.{Answer}
use Rattle.hb_call.specs.declared.ruling.Ruling.TheVariants as ruling
use Rattle.hb_call.specs.Alike.{alike_itself, alike_on, fits_since_on}
use Rattle.hb_call.specs.Calling.{HasBody}
use Rattle.hb_call.specs.Comparing.{TellsWhether}
use Rattle.hb_call.specs.Deciding.{IsRuledAt, type_declared}
use Rattle.hb_call.specs.Entering.{IsFullFor, IsRightlyFor}
use Rattle.hb_call.specs.GrowthLaws.{each_itself}
use Rattle.hb_call.specs.Seen.{given_of, moment_of}
use Rattle.hb_call.proofs.AgreedLemmas.{body_as, body_known, calling_compared, live_as, live_on, named_as, own_as, takes_as, there, type_known}
use Rattle.hb_call.proofs.FullLemmas.{if_err}
use Rattle.hb_call.proofs.RetreatLemmas.{early_unfit}
use Rattle.hb_call.proofs.TakesLemmas.{never_unfit}
use Rattle.hb_call.proofs.RulingLemmas.{bad_args, no_body, no_type, ruled_early, ruled_kept}
use Rattle.hb_call.proofs.call.Call.ruling.Goals as goal

pub returns-in_default-clause-alike : goal.returns-in_default-clause-alike
returns-in_default-clause-alike g c = alike_itself _ _

pub returns-in_default-clause-rules : goal.returns-in_default-clause-rules
returns-in_default-clause-rules g c = each_itself _ _ _

pub returns-in_default-clause-unfit : goal.returns-in_default-clause-unfit
returns-in_default-clause-unfit g c =
    let s = c.args.self.now in
    early_unfit (given_of g.D.Desk.fixed s) _ _ (g.D.Desk.front s.desk.now) s.held.now.items s.compared.now.items s.answers.now.items c.requires.fresh.1 c.requires.fresh.0 c.requires.calling

pub returns-in_default-clause-live : goal.returns-in_default-clause-live
returns-in_default-clause-live g c = ([], append-nil _, tt)

pub returns-in_default-clause-holding : goal.returns-in_default-clause-holding
returns-in_default-clause-holding g c = (_, c.requires.calling)

pub returns-in_default-clause-ruled : goal.returns-in_default-clause-ruled
returns-in_default-clause-ruled g c =
    let s = c.args.self.now in let gone : c.args.site ≡ None = search rules in
    ruled_early (given_of g.D.Desk.fixed s) (moment_of g.D.Desk.front g.N.Names.known g.N.Names.asked s) s.held.now.items s.answers.now.items (s.compared.now.items ++ s.answers.now.items) c.args.site verdict.NoBody
    (no_body s.prog.now s.class.0 c.args.site s.own.ty (kinds_of s.args) (ap (body_at s.prog.now) gone)) (λ x past k log. tt) refl (ap (λ (l : List Answer). s.compared.now.items ++ l) c.requires.fresh.0 ∙ ap (λ (l : List Answer). l ++ []) c.requires.fresh.1) c.requires.calling

pub returns-then-body-bodies-clause-alike : goal.returns-then-body-bodies-clause-alike
returns-then-body-bodies-clause-alike g c = alike_itself _ _

pub returns-then-body-bodies-clause-rules : goal.returns-then-body-bodies-clause-rules
returns-then-body-bodies-clause-rules g c = each_itself _ _ _

pub returns-then-body-bodies-clause-unfit : goal.returns-then-body-bodies-clause-unfit
returns-then-body-bodies-clause-unfit g c =
    let s = c.args.self.now in
    early_unfit (given_of g.D.Desk.fixed s) _ _ (g.D.Desk.front s.desk.now) s.held.now.items s.compared.now.items s.answers.now.items c.requires.fresh.1 c.requires.fresh.0 c.requires.calling

pub returns-then-body-bodies-clause-live : goal.returns-then-body-bodies-clause-live
returns-then-body-bodies-clause-live g c = ([], append-nil _, tt)

pub returns-then-body-bodies-clause-holding : goal.returns-then-body-bodies-clause-holding
returns-then-body-bodies-clause-holding g c = (_, c.requires.calling)

pub returns-then-body-bodies-clause-ruled : goal.returns-then-body-bodies-clause-ruled
returns-then-body-bodies-clause-ruled g c =
    let s = c.args.self.now in let here : body_at s.prog.now c.args.site ≡ None = ap (body_at s.prog.now) c.in-Some.is ∙ slice_get_past s.prog.now.bodies c.in-Some.body.0 (omega arith) in
    subst (λ (o : Option BodySite). IsRuledAt (given_of g.D.Desk.fixed s) (moment_of g.D.Desk.front g.N.Names.known g.N.Names.asked s) s.held.now.items s.answers.now.items c.args.site (ruling.Refused o verdict.NoBody)) c.in-Some.is
    (ruled_early (given_of g.D.Desk.fixed s) (moment_of g.D.Desk.front g.N.Names.known g.N.Names.asked s) s.held.now.items s.answers.now.items (s.compared.now.items ++ s.answers.now.items) c.args.site verdict.NoBody
    (no_body s.prog.now s.class.0 c.args.site s.own.ty (kinds_of s.args) here) (λ x past k log. tt) refl (ap (λ (l : List Answer). s.compared.now.items ++ l) c.requires.fresh.0 ∙ ap (λ (l : List Answer). l ++ []) c.requires.fresh.1) c.requires.calling)

pub returns-in_default-ty-clause-alike : goal.returns-in_default-ty-clause-alike
returns-in_default-ty-clause-alike g c = alike_itself _ _

pub returns-in_default-ty-clause-rules : goal.returns-in_default-ty-clause-rules
returns-in_default-ty-clause-rules g c = each_itself _ _ _

pub returns-in_default-ty-clause-unfit : goal.returns-in_default-ty-clause-unfit
returns-in_default-ty-clause-unfit g c =
    let s = c.args.self.now in
    early_unfit (given_of g.D.Desk.fixed s) _ _ (g.D.Desk.front s.desk.now) s.held.now.items s.compared.now.items s.answers.now.items c.requires.fresh.1 c.requires.fresh.0 c.requires.calling

pub returns-in_default-ty-clause-live : goal.returns-in_default-ty-clause-live
returns-in_default-ty-clause-live g c = ([], append-nil _, tt)

pub returns-in_default-ty-clause-holding : goal.returns-in_default-ty-clause-holding
returns-in_default-ty-clause-holding g c = (_, c.requires.calling)

pub returns-in_default-ty-clause-ruled : goal.returns-in_default-ty-clause-ruled
returns-in_default-ty-clause-ruled g c =
    let s = c.args.self.now in let has = there s.prog.now.bodies c.in-Some.body.0 (omega arith) in let gone : s.own.ty ≡ None = search rules in
    subst (λ (o : Option BodySite). IsRuledAt (given_of g.D.Desk.fixed s) (moment_of g.D.Desk.front g.N.Names.known g.N.Names.asked s) s.held.now.items s.answers.now.items c.args.site (ruling.Refused o verdict.NoType)) c.in-Some.is
    (ruled_early (given_of g.D.Desk.fixed s) (moment_of g.D.Desk.front g.N.Names.known g.N.Names.asked s) s.held.now.items s.answers.now.items (s.compared.now.items ++ s.answers.now.items) c.args.site verdict.NoType
    (no_type s.prog.now s.class.0 c.args.site s.own.ty (kinds_of s.args) has.0 (ap (body_at s.prog.now) c.in-Some.is ∙ has.1) (ap (type_declared s.prog.now) gone)) (λ x past k log. tt) refl (ap (λ (l : List Answer). s.compared.now.items ++ l) c.requires.fresh.0 ∙ ap (λ (l : List Answer). l ++ []) c.requires.fresh.1) c.requires.calling)

pub returns-then-declared-types-clause-alike : goal.returns-then-declared-types-clause-alike
returns-then-declared-types-clause-alike g c = alike_itself _ _

pub returns-then-declared-types-clause-rules : goal.returns-then-declared-types-clause-rules
returns-then-declared-types-clause-rules g c = each_itself _ _ _

pub returns-then-declared-types-clause-unfit : goal.returns-then-declared-types-clause-unfit
returns-then-declared-types-clause-unfit g c =
    let s = c.args.self.now in
    early_unfit (given_of g.D.Desk.fixed s) _ _ (g.D.Desk.front s.desk.now) s.held.now.items s.compared.now.items s.answers.now.items c.requires.fresh.1 c.requires.fresh.0 c.requires.calling

pub returns-then-declared-types-clause-live : goal.returns-then-declared-types-clause-live
returns-then-declared-types-clause-live g c = ([], append-nil _, tt)

pub returns-then-declared-types-clause-holding : goal.returns-then-declared-types-clause-holding
returns-then-declared-types-clause-holding g c = (_, c.requires.calling)

pub returns-then-declared-types-clause-ruled : goal.returns-then-declared-types-clause-ruled
returns-then-declared-types-clause-ruled g c =
    let s = c.args.self.now in let has = there s.prog.now.bodies c.in-Some.body.0 (omega arith) in let gone : type_declared s.prog.now s.own.ty ≡ None = ap (type_declared s.prog.now) c.in-Some-ty.is ∙ ap (option_map (λ y. y.0)) (slice_get_past s.prog.now.types c.in-Some-ty.declared.0 (omega arith)) in
    subst (λ (o : Option BodySite). IsRuledAt (given_of g.D.Desk.fixed s) (moment_of g.D.Desk.front g.N.Names.known g.N.Names.asked s) s.held.now.items s.answers.now.items c.args.site (ruling.Refused o verdict.NoType)) c.in-Some.is
    (ruled_early (given_of g.D.Desk.fixed s) (moment_of g.D.Desk.front g.N.Names.known g.N.Names.asked s) s.held.now.items s.answers.now.items (s.compared.now.items ++ s.answers.now.items) c.args.site verdict.NoType
    (no_type s.prog.now s.class.0 c.args.site s.own.ty (kinds_of s.args) has.0 (ap (body_at s.prog.now) c.in-Some.is ∙ has.1) gone) (λ x past k log. tt) refl (ap (λ (l : List Answer). s.compared.now.items ++ l) c.requires.fresh.0 ∙ ap (λ (l : List Answer). l ++ []) c.requires.fresh.1) c.requires.calling)

pub returns-then-not-takes-clause-alike : goal.returns-then-not-takes-clause-alike
returns-then-not-takes-clause-alike g c = alike_itself _ _

pub returns-then-not-takes-clause-rules : goal.returns-then-not-takes-clause-rules
returns-then-not-takes-clause-rules g c = each_itself _ _ _

pub returns-then-not-takes-clause-unfit : goal.returns-then-not-takes-clause-unfit
returns-then-not-takes-clause-unfit g c =
    let s = c.args.self.now in
    early_unfit (given_of g.D.Desk.fixed s) _ _ (g.D.Desk.front s.desk.now) s.held.now.items s.compared.now.items s.answers.now.items c.requires.fresh.1 c.requires.fresh.0 c.requires.calling

pub returns-then-not-takes-clause-live : goal.returns-then-not-takes-clause-live
returns-then-not-takes-clause-live g c = ([], append-nil _, tt)

pub returns-then-not-takes-clause-holding : goal.returns-then-not-takes-clause-holding
returns-then-not-takes-clause-holding g c = (_, c.requires.calling)

pub returns-then-not-takes-clause-ruled : goal.returns-then-not-takes-clause-ruled
returns-then-not-takes-clause-ruled g c =
    let s = c.args.self.now in let has = there s.prog.now.bodies c.in-Some.body.0 (omega arith) in let typed : type_declared s.prog.now s.own.ty ≡ Some c.type_of.result = ap (type_declared s.prog.now) c.in-Some-ty.is ∙ c.type_of.ensures.value in
    subst (λ (o : Option BodySite). IsRuledAt (given_of g.D.Desk.fixed s) (moment_of g.D.Desk.front g.N.Names.known g.N.Names.asked s) s.held.now.items s.answers.now.items c.args.site (ruling.Refused o verdict.BadArgs)) c.in-Some.is
    (ruled_early (given_of g.D.Desk.fixed s) (moment_of g.D.Desk.front g.N.Names.known g.N.Names.asked s) s.held.now.items s.answers.now.items (s.compared.now.items ++ s.answers.now.items) c.args.site verdict.BadArgs
    (bad_args s.prog.now s.class.0 c.args.site s.own.ty (kinds_of s.args) has.0 c.type_of.result (ap (body_at s.prog.now) c.in-Some.is ∙ has.1) typed (sym c.takes.ensures ∙ c.if-not-takes.true)) (λ x past k log. tt) refl (ap (λ (l : List Answer). s.compared.now.items ++ l) c.requires.fresh.0 ∙ ap (λ (l : List Answer). l ++ []) c.requires.fresh.1) c.requires.calling)

pub takes-requires-clause-form : goal.takes-requires-clause-form
takes-requires-clause-form g c = c.type_of.ensures.meets.form

pub agrees-requires-clause-takes : goal.agrees-requires-clause-takes
agrees-requires-clause-takes g c =
    record { declared = c.in-Some-ty.declared; typed = c.in-Some-ty.is; ty = c.type_of.result; is = c.type_of.ensures.value; fits = sym c.takes.ensures ∙ c.if-not-takes.false }

pub agrees-requires-clause-defined : goal.agrees-requires-clause-defined
agrees-requires-clause-defined g c =
    let s = c.args.self.now in
    subst (λ (o : Option BodySite). HasBody (g.D.Desk.fixed s.desk.now).caller s.q s.key o (g.D.Desk.front s.desk.now)) c.in-Some.is c.requires.defined

pub returns-in_err-agrees-clause-holding : goal.returns-in_err-agrees-clause-holding
returns-in_err-agrees-clause-holding g c = c.agrees.ensures.ended.holding

pub returns-in_err-agrees-clause-alike : goal.returns-in_err-agrees-clause-alike
returns-in_err-agrees-clause-alike g c = c.agrees.ensures.ended.alike

pub returns-in_err-agrees-clause-names : goal.returns-in_err-agrees-clause-names
returns-in_err-agrees-clause-names g c = subst (λ x. g.N.Names.alike c.args.self.now.names.now x.now) (sym c.agrees.ensures.names) (g.N.Names.alike_itself c.args.self.now.names.now)

pub returns-in_err-agrees-clause-unfit : goal.returns-in_err-agrees-clause-unfit
returns-in_err-agrees-clause-unfit g c = never_unfit (given_of g.D.Desk.fixed c.args.self.now) (record { declared = c.in-Some-ty.declared; typed = c.in-Some-ty.is; ty = c.type_of.result; is = c.type_of.ensures.value; fits = sym c.takes.ensures ∙ c.if-not-takes.false }) _ _ _

pub returns-in_err-agrees-clause-live : goal.returns-in_err-agrees-clause-live
returns-in_err-agrees-clause-live g c = c.agrees.ensures.ended.live

pub returns-in_err-agrees-clause-rules : goal.returns-in_err-agrees-clause-rules
returns-in_err-agrees-clause-rules g c = c.agrees.ensures.ended.rules

pub returns-in_err-agrees-clause-full : goal.returns-in_err-agrees-clause-full
returns-in_err-agrees-clause-full g c =
    let n = c.agrees.new.self in
    if_err (IsFullFor (given_of g.D.Desk.fixed n) (g.N.Names.known n.names.now)) c.from_residual.result c.in_err-agrees.field-0.0 c.from_residual.ensures.1 (subst (IsFullFor (given_of g.D.Desk.fixed n) (g.N.Names.known n.names.now)) (sym c.in_err-agrees.ensures.ended.tells) tt)

pub returns-in_err-agrees-clause-rightly : goal.returns-in_err-agrees-clause-rightly
returns-in_err-agrees-clause-rightly g c =
    let n = c.agrees.new.self in let rightly = IsRightlyFor n.prog.now (g.N.Names.known n.names.now) (g.D.Desk.fixed n.desk.now).caller n.q n.key (g.D.Desk.front n.desk.now) in
    if_err rightly c.from_residual.result c.in_err-agrees.field-0.0 c.from_residual.ensures.1 (subst rightly (sym c.in_err-agrees.ensures.ended.tells) tt)

pub returns-then-branch-clause-holding : goal.returns-then-branch-clause-holding
returns-then-branch-clause-holding g c = c.agrees.ensures.ended.holding

pub returns-then-branch-clause-alike : goal.returns-then-branch-clause-alike
returns-then-branch-clause-alike g c = c.agrees.ensures.ended.alike

pub returns-then-branch-clause-names : goal.returns-then-branch-clause-names
returns-then-branch-clause-names g c = subst (λ x. g.N.Names.alike c.args.self.now.names.now x.now) (sym c.agrees.ensures.names) (g.N.Names.alike_itself c.args.self.now.names.now)

pub returns-then-branch-clause-unfit : goal.returns-then-branch-clause-unfit
returns-then-branch-clause-unfit g c = never_unfit (given_of g.D.Desk.fixed c.args.self.now) (record { declared = c.in-Some-ty.declared; typed = c.in-Some-ty.is; ty = c.type_of.result; is = c.type_of.ensures.value; fits = sym c.takes.ensures ∙ c.if-not-takes.false }) _ _ _

pub returns-then-branch-clause-live : goal.returns-then-branch-clause-live
returns-then-branch-clause-live g c = c.agrees.ensures.ended.live

pub returns-then-branch-clause-rules : goal.returns-then-branch-clause-rules
returns-then-branch-clause-rules g c = c.agrees.ensures.ended.rules

pub returns-then-branch-clause-ruled : goal.returns-then-branch-clause-ruled
returns-then-branch-clause-ruled g c =
    let n = c.agrees.new.self in
    let tells = subst (λ (b : Bool). TellsWhether (given_of g.D.Desk.fixed n) (moment_of g.D.Desk.front g.N.Names.known g.N.Names.asked n) n.held.now.items n.compared.now.items c.in-Some.body (Ok b)) c.if-branch.true c.in_ok-agrees.ensures.ended.tells in
    subst (λ (o : Option BodySite). IsRuledAt (given_of g.D.Desk.fixed n) (moment_of g.D.Desk.front g.N.Names.known g.N.Names.asked n) n.held.now.items n.answers.now.items o (ruling.Kept c.in-Some.body)) (sym c.in-Some.is) (ruled_kept (given_of g.D.Desk.fixed n) (moment_of g.D.Desk.front g.N.Names.known g.N.Names.asked n) n.held.now.items n.answers.now.items c.in-Some.body tells)

pub returns-then-branch-clause-marks : goal.returns-then-branch-clause-marks
returns-then-branch-clause-marks g c =
    let n = c.agrees.new.self in
    let tells = subst (λ (b : Bool). TellsWhether (given_of g.D.Desk.fixed n) (moment_of g.D.Desk.front g.N.Names.known g.N.Names.asked n) n.held.now.items n.compared.now.items c.in-Some.body (Ok b)) c.if-branch.true c.in_ok-agrees.ensures.ended.tells in
    tells.marks

pub checked-requires-clause-calling : goal.checked-requires-clause-calling
checked-requires-clause-calling g c =
    let n = c.agrees.new.self in
    let tells = subst (λ (b : Bool). TellsWhether (given_of g.D.Desk.fixed n) (moment_of g.D.Desk.front g.N.Names.known g.N.Names.asked n) n.held.now.items n.compared.now.items c.in-Some.body (Ok b)) c.if-branch.false c.in_ok-agrees.ensures.ended.tells in
    calling_compared (given_of g.D.Desk.fixed n) (moment_of g.D.Desk.front g.N.Names.known g.N.Names.asked n) n.held.now.items n.compared.now.items n.answers.now.items c.agrees.ensures.fresh.0 tells.0

pub checked-requires-clause-differed : goal.checked-requires-clause-differed
checked-requires-clause-differed g c =
    let n = c.agrees.new.self in
    let tells = subst (λ (b : Bool). TellsWhether (given_of g.D.Desk.fixed n) (moment_of g.D.Desk.front g.N.Names.known g.N.Names.asked n) n.held.now.items n.compared.now.items c.in-Some.body (Ok b)) c.if-branch.false c.in_ok-agrees.ensures.ended.tells in
    tells.1

pub checked-requires-clause-named : goal.checked-requires-clause-named
checked-requires-clause-named g c =
    let s = c.args.self.now in let n = c.agrees.new.self in let ended = c.agrees.ensures.ended in
    (c.requires.named.0, named_as (given_of g.D.Desk.fixed s) (given_of g.D.Desk.fixed n) ended.alike.same (g.N.Names.known n.names.now) c.requires.named.0 (place-longer (g.N.Names.known s.names.now) (g.N.Names.known n.names.now) (s.class.0, c.requires.named.0) s.key.0 ended.alike.goes.went.named c.requires.named.1))

pub checked-requires-clause-takes : goal.checked-requires-clause-takes
checked-requires-clause-takes g c =
    let s = c.args.self.now in let n = c.agrees.new.self in let ended = c.agrees.ensures.ended in
    takes_as (given_of g.D.Desk.fixed s) (given_of g.D.Desk.fixed n) ended.alike.same (record { declared = c.in-Some-ty.declared; typed = c.in-Some-ty.is; ty = c.type_of.result; is = c.type_of.ensures.value; fits = sym c.takes.ensures ∙ c.if-not-takes.false })

pub checked-requires-clause-defined : goal.checked-requires-clause-defined
checked-requires-clause-defined g c =
    let s = c.args.self.now in let n = c.agrees.new.self in let ended = c.agrees.ensures.ended in
    body_as (given_of g.D.Desk.fixed s) (given_of g.D.Desk.fixed n) ended.alike.same (moment_of g.D.Desk.front g.N.Names.known g.N.Names.asked s) (moment_of g.D.Desk.front g.N.Names.known g.N.Names.asked n) c.in-Some.body ended.alike.goes (subst (λ (o : Option BodySite). HasBody (g.D.Desk.fixed s.desk.now).caller s.q s.key o (g.D.Desk.front s.desk.now)) c.in-Some.is c.requires.defined)

pub checked-requires-clause-body : goal.checked-requires-clause-body
checked-requires-clause-body g c =
    let s = c.args.self.now in let n = c.agrees.new.self in let ended = c.agrees.ensures.ended in
    body_known (given_of g.D.Desk.fixed s) (given_of g.D.Desk.fixed n) ended.alike.same c.in-Some.body.0 (omega arith)

pub checked-requires-clause-declared : goal.checked-requires-clause-declared
checked-requires-clause-declared g c =
    let s = c.args.self.now in let n = c.agrees.new.self in let ended = c.agrees.ensures.ended in
    own_as (given_of g.D.Desk.fixed s) (given_of g.D.Desk.fixed n) ended.alike.same c.in-Some-ty.declared c.in-Some-ty.is

pub checked-requires-clause-known : goal.checked-requires-clause-known
checked-requires-clause-known g c =
    let s = c.args.self.now in let n = c.agrees.new.self in let ended = c.agrees.ensures.ended in
    type_known (given_of g.D.Desk.fixed s) (given_of g.D.Desk.fixed n) ended.alike.same c.in-Some-ty.declared.0 (omega arith)

pub checked-requires-clause-fresh : goal.checked-requires-clause-fresh
checked-requires-clause-fresh g c = c.agrees.ensures.fresh

pub returns-clause-holding : goal.returns-clause-holding
returns-clause-holding g c = c.checked.ensures.holding

pub returns-clause-alike : goal.returns-clause-alike
returns-clause-alike g c = alike_on _ _ _ _ _ _ c.agrees.ensures.ended.alike c.checked.ensures.alike

pub returns-clause-names : goal.returns-clause-names
returns-clause-names g c = subst (λ x. g.N.Names.alike x.now c.checked.new.self.names.now) c.agrees.ensures.names c.checked.ensures.names

pub returns-clause-unfit : goal.returns-clause-unfit
returns-clause-unfit g c = never_unfit (given_of g.D.Desk.fixed c.args.self.now) (record { declared = c.in-Some-ty.declared; typed = c.in-Some-ty.is; ty = c.type_of.result; is = c.type_of.ensures.value; fits = sym c.takes.ensures ∙ c.if-not-takes.false }) _ _ _

pub returns-clause-live : goal.returns-clause-live
returns-clause-live g c =
    let s = c.args.self.now in let n = c.agrees.new.self in let ended = c.agrees.ensures.ended in let e = c.checked.new.self in let door = g.D.Desk.fixed s.desk.now in
    live_on door.caller s.q.0 (g.D.Desk.front s.desk.now) (g.D.Desk.front n.desk.now) (g.D.Desk.front e.desk.now) ended.live (live_as (given_of g.D.Desk.fixed s) (given_of g.D.Desk.fixed n) ended.alike.same (g.D.Desk.front n.desk.now) (g.D.Desk.front e.desk.now) c.checked.ensures.live)

pub returns-clause-rules : goal.returns-clause-rules
returns-clause-rules g c =
    let s = c.args.self.now in let n = c.agrees.new.self in let ended = c.agrees.ensures.ended in let e = c.checked.new.self in
    fits_since_on (given_of g.D.Desk.fixed s) (given_of g.D.Desk.fixed n) (moment_of g.D.Desk.front g.N.Names.known g.N.Names.asked s) (moment_of g.D.Desk.front g.N.Names.known g.N.Names.asked n) (moment_of g.D.Desk.front g.N.Names.known g.N.Names.asked e) ended.alike.same c.checked.ensures.alike.goes.went ended.rules c.checked.ensures.rules

pub returns-clause-ruled : goal.returns-clause-ruled
returns-clause-ruled g c =
    let e = c.checked.new.self in
    subst (λ (o : Option BodySite). IfOk c.checked.result (λ r. IsRuledAt (given_of g.D.Desk.fixed e) (moment_of g.D.Desk.front g.N.Names.known g.N.Names.asked e) e.held.now.items e.answers.now.items o r)) (sym c.in-Some.is) c.checked.ensures.ruled

pub returns-clause-marks : goal.returns-clause-marks
returns-clause-marks g c = c.checked.ensures.marks
