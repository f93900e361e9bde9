use Rattle.std.proofs.Common.{◌≡◌, ◌+◌, ◌-◌, length, ◌⊎◌, ℕ, List, [], ◌∷◌, ◌++◌, Some, Ok, Err, refl, sym, ap, ◌∙◌, subst, arith, add-one, drop, map, get_or}
use Rattle.std.specs.Prelude.{IfOk, slice_get}
use Rattle.hb_tree.specs.declared.parts.Body.{Body}
use Rattle.hb_tables.specs.declared.entry.Verdict.{Verdict}
use Rattle.hb_tables.specs.declared.entry.By.{By}
use Rattle.hb_tables.specs.declared.entry.By.TheVariants as by
use Rattle.hb_call.specs.declared.frame.Frame.{Frame}
use Rattle.std.proofs.lemmas.List.{length-map}
use Rattle.std.proofs.lemmas.Option.{slice_get_within}
use Rattle.std.proofs.lemmas.Result.{IfOk-weaker}
use Rattle.hb_types.specs.declared.ids.CallNo.{CallNo}
use Rattle.hb_names.specs.Names.{Name}
use Rattle.hb_tree.specs.Canon.{bytes_at}
use Rattle.hb_tables.specs.declared.entry.Entry.{Entry}
use Rattle.hb_call.specs.declared.frame.CallFail.{CallFail}
use Rattle.hb_call.specs.declared.frame.Entered.{Entered}
use Rattle.hb_call.specs.Entering.{Asks, Enters, IsFramed, IsTold, IsFullAtOnce, IsFullLater, IsRefused}
use Rattle.hb_call.specs.Growth.{Grown}
use Rattle.hb_call.specs.GrowthLaws.{grown_itself, grown_on}
use Rattle.hb_call.specs.OwnCache.{KeepsChecks}
use Rattle.hb_call.specs.GrowthLaws.{prefix_itself}
use Rattle.hb_call.specs.OwnLaws.{keeps_on}
use Rattle.hb_eval.specs.declared.value.Value.TheVariants as value
use Rattle.hb_eval.specs.declared.framed.Framed.{Framed}
use Rattle.hb_eval.specs.declared.state.State.{State}
use Rattle.hb_eval.specs.declared.state.Move.{Move}
use Rattle.hb_eval.specs.Values.{IsKnown, kind_of}
use Rattle.hb_eval.specs.Entries.{calling, counted, entered, refusal, IsPlaced, asked_again}
use Rattle.hb_eval.specs.Turns.{Goes, Reads, after, with_operands}
use Rattle.hb_eval.specs.Holding.{Holding, frames_of}
use Rattle.hb_eval.proofs.HoldingLemmas.{holding_unused, holding_room, holding_undone, holding_refused, holding_framed, holding_pushed, failed_none}
use Rattle.hb_eval.proofs.StackLemmas.{tail_of}
use Rattle.hb_eval.proofs.GoesLemmas.{each_at}
use Rattle.hb_eval.proofs.CallLemmas.{body_there, not_shared}
use Rattle.hb_eval.proofs.EntryLemmas.{call_refused, call_full_later, call_full_once}
use Rattle.hb_eval.proofs.DecideLemmas.{class_known, goes_counted, goes_kept, reads_kept, reads_longer, enters_body, later_full, once_full, grown_again}
use Rattle.hb_eval.proofs.ApplyLemmas.{on_ok}
use Rattle.hb_eval.proofs.KeepingLemmas.{keeps_again}
use Rattle.hb_call.specs.Held.{stands}
use Rattle.hb_call.specs.Sharing.{Collects}
use Rattle.hb_eval.proofs.GatheringLemmas.{shares_entered, shares_quiet}
use Rattle.hb_eval.proofs.calls.decide.Goals as goal

pub enter-requires-clause-unused : goal.enter-requires-clause-unused
enter-requires-clause-unused g c = holding_unused _ _ _ _ c.requires.holding

pub enter-requires-clause-room : goal.enter-requires-clause-room
enter-requires-clause-room g c = holding_room _ _ (frames_of c.args.frames.now.items) _ c.requires.holding (omega (arith, length-map c.args.frames.now.items (λ (f : Framed). f.frame), c.requires.room))

pub start_body-requires-clause-body : goal.start_body-requires-clause-body
start_body-requires-clause-body g c =
    let asks : Asks = record { t = c.args.prog.now; door = g.D.Desk.fixed c.args.desk.now; q = record { 0 = c.args.state.now.made + 1 }; class = c.args.class; bytes = bytes_at c.args.prog.now.names c.args.name.0; args = c.kinds-args.result } in
    let f = c.in-Ok-Frame.frame in
    let e = subst (λ (x : Entered). Enters asks (g.N.Names.known c.enter.new.names) (g.D.Desk.front c.args.desk.now) (g.D.Desk.front c.enter.new.desk) (Ok x)) c.in-Ok-Frame.field-0-is c.in-Ok-Frame.ensures.entered in
    let b = body_there asks _ _ _ f.key c.in-Ok-Frame.way (Some f.body) f.held.items e.1 in
    let lt = slice_get_within c.args.prog.now.bodies f.body.0 b.0 b.1 in
    rw c.in-Ok-Frame.field-0-is lt

pub start_body-requires-clause-class : goal.start_body-requires-clause-class
start_body-requires-clause-class g c =
    class_known c.args.prog.now (get_or c.args.state.now.operands.items c.args.at value.Nil) c.args.class (c.requires.object value.Nil)
    (each_at (IsKnown c.args.prog.now) c.args.state.now.operands.items c.args.at value.Nil c.requires.known.state.operands c.requires.at)

pub returns-in_err-is_placed-in-Err-Full-clause-holding : goal.returns-in_err-is_placed-in-Err-Full-clause-holding
returns-in_err-is_placed-in-Err-Full-clause-holding g c =
    let asks : Asks = record { t = c.args.prog.now; door = g.D.Desk.fixed c.args.desk.now; q = record { 0 = c.args.state.now.made + 1 }; class = c.args.class; bytes = bytes_at c.args.prog.now.names c.args.name.0; args = c.kinds-args.result } in
    let unused = holding_unused _ _ _ _ c.requires.holding in
    let none = failed_none asks (g.N.Names.known c.enter.new.names) _ (g.D.Desk.front c.enter.new.desk) c.in-Err-Full.field-0 c.in-Err-Full.ensures.entered unused in
    subst (λ (l : List Framed). Holding (g.D.Desk.fixed c.args.desk.now).caller (c.args.state.now.made + 1) (frames_of l) (g.D.Desk.front c.enter.new.desk)) (sym c.reserve.ensures.items)
    (holding_undone _ _ (frames_of c.args.frames.now.items) _ _ c.requires.holding none c.enter.ensures.others c.enter.ensures.kept)

pub returns-in-Ok-Frame-clause-reads : goal.returns-in-Ok-Frame-clause-reads
returns-in-Ok-Frame-clause-reads g c =
    let t = c.args.prog.now in
    let door = g.D.Desk.fixed c.args.desk.now in
    let q : CallNo = record { 0 = c.args.state.now.made + 1 } in
    let asks : Asks = record { t = t; door = door; q = q; class = c.args.class; bytes = bytes_at t.names c.args.name.0; args = c.kinds-args.result } in
    let f = c.in-Ok-Frame.frame in
    let known = g.N.Names.known c.enter.new.names in
    let was = g.D.Desk.front c.args.desk.now in
    let now = g.D.Desk.front c.enter.new.desk in
    let old = c.args.state.now in
    let e = subst (λ (x : Entered). Enters asks known was now (Ok x)) c.in-Ok-Frame.field-0-is c.in-Ok-Frame.ensures.entered in
    let apart : c.in-Ok-Frame.way ≡ by.Shared → ⊥ = not_shared asks known was now f.key c.in-Ok-Frame.way (Some f.body) f.held.items e.1 in
    let b = body_there asks known was now f.key c.in-Ok-Frame.way (Some f.body) f.held.items e.1 in
    let mid = c.count.new.state in
    let from : State = record old { cache = c.enter.new.cache } in
    let W : By → Type 0 = λ w. mid ≡ counted w from in
    let counts : W c.in-Ok-Frame.way = rw c.in-Ok-Frame.field-0-is at c.count.ensures in
    let kinds = c.kinds-args.ensures.kinds ∙ ap (map kind_of) (tail_of c.deref.result.now (c.args.at + 1) ∙ ap (drop (c.args.at + 1)) c.deref.ensures.value ∙ ap (λ k. drop k old.operands.items) (add-one c.args.at)) in
    let P : Frame → Type 0 = λ f. (known : List Name) (who : ℕ) (log : List Entry) (b : Body) → slice_get t.bodies f.body.0 ≡ Some b → IfOk c.start_body.result (λ m. Reads known who log log mid c.start_body.new.state (with_operands t c.args.at (λ w room vs s. entered w room f c.args.class b vs s) c.reserve.new.self.items mid) (after t m c.start_body.new.frames.items c.start_body.new.state)) in
    let r : P f = rw c.in-Ok-Frame.field-0-is at c.start_body.ensures.reads in
    IfOk-weaker c.start_body.result _ _ (λ (m : Move) r. reads_kept known door.caller was now old c.start_body.new.state c.enter.new.cache _ _ (enters_body known t door q c.args.class c.args.name.0 c.kinds-args.result c.args.id c.args.at value.Nil c.args.frames.now.items c.reserve.new.self.items c.start_body.new.frames.items from mid c.start_body.new.state f c.in-Ok-Frame.way b.0 was now m
    refl c.requires.at c.requires.room (c.requires.object value.Nil) kinds e.0 e.1 apart b.1 counts c.reserve.ensures.items c.start_body.ensures.steady.begun r)) (r known door.caller now b.0 b.1)

pub returns-in-Ok-Frame-clause-holding : goal.returns-in-Ok-Frame-clause-holding
returns-in-Ok-Frame-clause-holding g c =
    let door = g.D.Desk.fixed c.args.desk.now in
    let q : CallNo = record { 0 = c.args.state.now.made + 1 } in
    let f = c.in-Ok-Frame.frame in
    let now = g.D.Desk.front c.enter.new.desk in
    let old = c.args.state.now in
    let fr = subst (λ (x : Entered). IsFramed door.caller q now x) c.in-Ok-Frame.field-0-is c.in-Ok-Frame.ensures.framed in
    let mid = c.count.new.state in
    let top : Framed = record { frame = f; base = mid.base; class = mid.class } in
    let held = holding_framed door.caller q (frames_of c.args.frames.now.items) f c.in-Ok-Frame.way (g.D.Desk.front c.args.desk.now) now c.requires.holding fr c.enter.ensures.others c.enter.ensures.kept in
    let Q : Frame → Type 0 = λ f. c.start_body.new.frames.items ≡ c.reserve.new.self.items ++ record { frame = f; base = mid.base; class = mid.class } ∷ [] in
    let all : Q f = rw c.in-Ok-Frame.field-0-is at c.start_body.ensures.pushed in
    let pushed = holding_pushed door.caller _ c.args.frames.now.items top now held in
    subst (λ (n : ℕ). Holding door.caller (n + 1) (frames_of c.start_body.new.frames.items) now) (sym (c.start_body.ensures.steady.calls.made ∙ ap (λ (s : State). s.made) c.count.ensures))
    (subst (λ (l : List Framed). Holding door.caller (old.made + 1 + 1) (frames_of l) now) (sym (all ∙ ap (λ l. l ++ top ∷ []) c.reserve.ensures.items)) pushed)

pub returns-in-Some-clause-reads : goal.returns-in-Some-clause-reads
returns-in-Some-clause-reads g c =
    let t = c.args.prog.now in
    let door = g.D.Desk.fixed c.args.desk.now in
    let q : CallNo = record { 0 = c.args.state.now.made + 1 } in
    let asks : Asks = record { t = t; door = door; q = q; class = c.args.class; bytes = bytes_at t.names c.args.name.0; args = c.kinds-args.result } in
    let known = g.N.Names.known c.enter.new.names in
    let was = g.D.Desk.front c.args.desk.now in
    let now = g.D.Desk.front c.enter.new.desk in
    let old = c.args.state.now in
    let from : State = record old { cache = c.enter.new.cache } in
    let e : IsRefused asks known was now c.in-Ok-Refused.verdict = subst (λ (x : Entered). Enters asks known was now (Ok x)) c.in-Ok-Refused.field-0-is c.in-Ok-Refused.ensures.entered in
    let kinds = c.kinds-args.ensures.kinds ∙ ap (map kind_of) (tail_of c.deref.result.now (c.args.at + 1) ∙ ap (drop (c.args.at + 1)) c.deref.ensures.value ∙ ap (λ k. drop k old.operands.items) (add-one c.args.at)) in
    let R : Verdict → Type 0 = λ v. c.stop_of.result ≡ refusal v in
    let why : R c.in-Ok-Refused.verdict = rw c.in-Ok-Refused.field-0-is at c.stop_of.ensures in
    reads_kept known door.caller was now old c.refused.new.state c.enter.new.cache _ _
    (subst (λ (l : List Framed). Reads known door.caller was now from c.refused.new.state (with_operands t c.args.at (λ w room vs s. calling w room c.args.id.0 c.args.name.0 vs s) c.args.frames.now.items from) (after t c.refused.result l c.refused.new.state)) (sym c.reserve.ensures.items)
    (call_refused known t door q c.args.class c.args.name.0 c.kinds-args.result c.args.id c.args.at value.Nil c.args.frames.now.items from refl c.requires.at c.requires.room (c.requires.object value.Nil) kinds
    c.in-Ok-Refused.verdict c.in-Some.stop was now c.refused.new.state c.refused.new.state.operands c.refused.result (sym why ∙ c.in-Some.is) e c.refused.ensures.cut c.refused.ensures.state c.refused.ensures.value))

pub returns-in-Some-clause-holding : goal.returns-in-Some-clause-holding
returns-in-Some-clause-holding g c =
    let door = g.D.Desk.fixed c.args.desk.now in
    let asks : Asks = record { t = c.args.prog.now; door = door; q = record { 0 = c.args.state.now.made + 1 }; class = c.args.class; bytes = bytes_at c.args.prog.now.names c.args.name.0; args = c.kinds-args.result } in
    let now = g.D.Desk.front c.enter.new.desk in
    let e : IsRefused asks (g.N.Names.known c.enter.new.names) (g.D.Desk.front c.args.desk.now) now c.in-Ok-Refused.verdict = subst (λ (x : Entered). Enters asks (g.N.Names.known c.enter.new.names) (g.D.Desk.front c.args.desk.now) now (Ok x)) c.in-Ok-Refused.field-0-is c.in-Ok-Refused.ensures.entered in
    subst (λ (n : ℕ). Holding door.caller (n + 1) (frames_of c.reserve.new.self.items) now) (sym (ap (λ (s : State). s.made) c.refused.ensures.state))
    (subst (λ (l : List Framed). Holding door.caller (c.args.state.now.made + 1 + 1) (frames_of l) now) (sym c.reserve.ensures.items)
    (holding_refused _ _ (frames_of c.args.frames.now.items) _ _ c.requires.holding e.none c.enter.ensures.others c.enter.ensures.kept))

pub returns-in-None-clause-holding : goal.returns-in-None-clause-holding
returns-in-None-clause-holding g c =
    let door = g.D.Desk.fixed c.args.desk.now in
    let asks : Asks = record { t = c.args.prog.now; door = door; q = record { 0 = c.args.state.now.made + 1 }; class = c.args.class; bytes = bytes_at c.args.prog.now.names c.args.name.0; args = c.kinds-args.result } in
    let now = g.D.Desk.front c.enter.new.desk in
    let e : IsRefused asks (g.N.Names.known c.enter.new.names) (g.D.Desk.front c.args.desk.now) now c.in-Ok-Refused.verdict = subst (λ (x : Entered). Enters asks (g.N.Names.known c.enter.new.names) (g.D.Desk.front c.args.desk.now) now (Ok x)) c.in-Ok-Refused.field-0-is c.in-Ok-Refused.ensures.entered in
    subst (λ (l : List Framed). Holding door.caller (c.args.state.now.made + 1) (frames_of l) now) (sym c.reserve.ensures.items)
    (holding_undone _ _ (frames_of c.args.frames.now.items) _ _ c.requires.holding e.none c.enter.ensures.others c.enter.ensures.kept)

pub returns-then-branch-clause-reads : goal.returns-then-branch-clause-reads
returns-then-branch-clause-reads g c =
    let t = c.args.prog.now in
    let door = g.D.Desk.fixed c.args.desk.now in
    let q : CallNo = record { 0 = c.args.state.now.made + 1 } in
    let asks : Asks = record { t = t; door = door; q = q; class = c.args.class; bytes = bytes_at t.names c.args.name.0; args = c.kinds-args.result } in
    let known = g.N.Names.known c.enter.new.names in
    let longer = g.N.Names.known c.is_placed.new.names in
    let was = g.D.Desk.front c.args.desk.now in
    let now = g.D.Desk.front c.enter.new.desk in
    let old = c.args.state.now in
    let from : State = record old { cache = c.enter.new.cache } in
    let e : IsFullAtOnce asks known was now ⊎ IsFullLater asks known was now = subst (λ (x : CallFail). Enters asks known was now (Err x)) c.in-Err-Full.field-0-is c.in-Err-Full.ensures.entered in
    let p = subst (λ b. IsPlaced b longer (c.args.class.0, bytes_at t.names c.args.name.0)) c.if-branch.true c.in_ok-is_placed-in-Err-Full.ensures.placed in
    let kinds = c.kinds-args.ensures.kinds ∙ ap (map kind_of) (tail_of c.deref.result.now (c.args.at + 1) ∙ ap (drop (c.args.at + 1)) c.deref.ensures.value ∙ ap (λ k. drop k old.operands.items) (add-one c.args.at)) in
    reads_longer known longer _ _ _ _ _ _ _ c.is_placed.ensures.named
    (reads_kept known door.caller was now old c.full.new.state c.enter.new.cache _ _
    (subst (λ (l : List Framed). Reads known door.caller was now from c.full.new.state (with_operands t c.args.at (λ w room vs s. calling w room c.args.id.0 c.args.name.0 vs s) c.args.frames.now.items from) (after t c.full.result l c.full.new.state)) (sym c.reserve.ensures.items)
    (call_full_later known t door q c.args.class c.args.name.0 c.kinds-args.result c.args.id c.args.at value.Nil c.args.frames.now.items from refl c.requires.at c.requires.room (c.requires.object value.Nil) kinds
    was now c.full.new.state c.full.new.state.operands c.full.result (later_full asks known longer was now c.is_placed.ensures.named c.is_placed.ensures.few p e) c.full.ensures.cut c.full.ensures.state c.full.ensures.value)))

pub returns-then-branch-clause-holding : goal.returns-then-branch-clause-holding
returns-then-branch-clause-holding g c =
    let door = g.D.Desk.fixed c.args.desk.now in
    let asks : Asks = record { t = c.args.prog.now; door = door; q = record { 0 = c.args.state.now.made + 1 }; class = c.args.class; bytes = bytes_at c.args.prog.now.names c.args.name.0; args = c.kinds-args.result } in
    let now = g.D.Desk.front c.enter.new.desk in
    let unused = holding_unused _ _ _ _ c.requires.holding in
    let none = failed_none asks (g.N.Names.known c.enter.new.names) _ now c.in-Err-Full.field-0 c.in-Err-Full.ensures.entered unused in
    subst (λ (n : ℕ). Holding door.caller (n + 1) (frames_of c.reserve.new.self.items) now) (sym (ap (λ (s : State). s.made) c.full.ensures.state))
    (subst (λ (l : List Framed). Holding door.caller (c.args.state.now.made + 1 + 1) (frames_of l) now) (sym c.reserve.ensures.items)
    (holding_refused _ _ (frames_of c.args.frames.now.items) _ _ c.requires.holding none c.enter.ensures.others c.enter.ensures.kept))

pub returns-then-branch-clause-grown : goal.returns-then-branch-clause-grown
returns-then-branch-clause-grown g c =
    let t = c.args.prog.now in
    let door = g.D.Desk.fixed c.args.desk.now in
    let asks : Asks = record { t = t; door = door; q = record { 0 = c.args.state.now.made + 1 }; class = c.args.class; bytes = bytes_at t.names c.args.name.0; args = c.kinds-args.result } in
    let known = g.N.Names.known c.enter.new.names in
    let longer = g.N.Names.known c.is_placed.new.names in
    let was = g.D.Desk.front c.args.desk.now in
    let now = g.D.Desk.front c.enter.new.desk in
    let name : Name = (c.args.class.0, bytes_at t.names c.args.name.0) in
    let e : IsFullAtOnce asks known was now ⊎ IsFullLater asks known was now = subst (λ (x : CallFail). Enters asks known was now (Err x)) c.in-Err-Full.field-0-is c.in-Err-Full.ensures.entered in
    let p = subst (λ b. IsPlaced b longer name) c.if-branch.true c.in_ok-is_placed-in-Err-Full.ensures.placed in
    let again = c.in_ok-is_placed-in-Err-Full.ensures.asked ∙ ap (λ b. asked_again b (g.N.Names.asked c.enter.new.names) name) c.if-branch.true in
    let told = subst (λ (x : CallFail). IsTold {X = Entered} (Err x)) (sym c.in-Err-Full.field-0-is) tt in
    grown_again asks known longer _ _ _ was now c.is_placed.ensures.named (later_full asks known longer was now c.is_placed.ensures.named c.is_placed.ensures.few p e) again (c.in-Err-Full.ensures.grown told)

pub returns-else-branch-clause-reads : goal.returns-else-branch-clause-reads
returns-else-branch-clause-reads g c =
    let t = c.args.prog.now in
    let door = g.D.Desk.fixed c.args.desk.now in
    let q : CallNo = record { 0 = c.args.state.now.made + 1 } in
    let asks : Asks = record { t = t; door = door; q = q; class = c.args.class; bytes = bytes_at t.names c.args.name.0; args = c.kinds-args.result } in
    let known = g.N.Names.known c.enter.new.names in
    let longer = g.N.Names.known c.is_placed.new.names in
    let was = g.D.Desk.front c.args.desk.now in
    let now = g.D.Desk.front c.enter.new.desk in
    let old = c.args.state.now in
    let from : State = record old { cache = c.enter.new.cache } in
    let e : IsFullAtOnce asks known was now ⊎ IsFullLater asks known was now = subst (λ (x : CallFail). Enters asks known was now (Err x)) c.in-Err-Full.field-0-is c.in-Err-Full.ensures.entered in
    let p = subst (λ b. IsPlaced b longer (c.args.class.0, bytes_at t.names c.args.name.0)) c.if-branch.false c.in_ok-is_placed-in-Err-Full.ensures.placed in
    let once = once_full asks known longer was now c.is_placed.ensures.named p e in
    reads_longer known longer _ _ _ _ _ _ _ c.is_placed.ensures.named
    (reads_kept known door.caller was now old c.refuse.new.state c.enter.new.cache _ _
    (subst (λ (l : List Framed). Reads known door.caller was now from c.refuse.new.state (with_operands t c.args.at (λ w room vs s. calling w room c.args.id.0 c.args.name.0 vs s) c.args.frames.now.items from) (after t c.refuse.result l c.refuse.new.state)) (sym c.reserve.ensures.items)
    (subst (λ (l : List Entry). Reads known door.caller was l from c.refuse.new.state (with_operands t c.args.at (λ w room vs s. calling w room c.args.id.0 c.args.name.0 vs s) c.args.frames.now.items from) (after t c.refuse.result c.args.frames.now.items c.refuse.new.state)) (sym once.same)
    (call_full_once known t door.caller was c.args.id c.args.name.0 c.args.at value.Nil c.args.class c.args.frames.now.items from c.refuse.new.state c.refuse.new.state.operands c.refuse.result c.requires.at c.refuse.ensures.cut c.refuse.ensures.state c.refuse.ensures.value c.requires.room (c.requires.object value.Nil) once.full))))

pub returns-else-branch-clause-holding : goal.returns-else-branch-clause-holding
returns-else-branch-clause-holding g c =
    let door = g.D.Desk.fixed c.args.desk.now in
    let asks : Asks = record { t = c.args.prog.now; door = door; q = record { 0 = c.args.state.now.made + 1 }; class = c.args.class; bytes = bytes_at c.args.prog.now.names c.args.name.0; args = c.kinds-args.result } in
    let now = g.D.Desk.front c.enter.new.desk in
    let unused = holding_unused _ _ _ _ c.requires.holding in
    let none = failed_none asks (g.N.Names.known c.enter.new.names) _ now c.in-Err-Full.field-0 c.in-Err-Full.ensures.entered unused in
    subst (λ (n : ℕ). Holding door.caller (n + 1) (frames_of c.reserve.new.self.items) now) (sym (ap (λ (s : State). s.made) c.refuse.ensures.state))
    (subst (λ (l : List Framed). Holding door.caller (c.args.state.now.made + 1) (frames_of l) now) (sym c.reserve.ensures.items)
    (holding_undone _ _ (frames_of c.args.frames.now.items) _ _ c.requires.holding none c.enter.ensures.others c.enter.ensures.kept))

pub returns-else-branch-clause-grown : goal.returns-else-branch-clause-grown
returns-else-branch-clause-grown g c =
    let t = c.args.prog.now in
    let known = g.N.Names.known c.enter.new.names in
    let longer = g.N.Names.known c.is_placed.new.names in
    let now = g.D.Desk.front c.enter.new.desk in
    let name : Name = (c.args.class.0, bytes_at t.names c.args.name.0) in
    let again = c.in_ok-is_placed-in-Err-Full.ensures.asked ∙ ap (λ b. asked_again b (g.N.Names.asked c.enter.new.names) name) c.if-branch.false in
    let told = subst (λ (x : CallFail). IsTold {X = Entered} (Err x)) (sym c.in-Err-Full.field-0-is) tt in
    subst (λ (l : List Name). Grown t (g.D.Desk.fixed c.args.desk.now).caller longer (g.N.Names.asked c.args.names.now) l (g.D.Desk.front c.args.desk.now) now) (sym again)
    (grown_on t _ known longer _ _ _ _ now now (c.in-Err-Full.ensures.grown told) (grown_itself t _ longer _ now) c.is_placed.ensures.named)

pub returns-in-Err-NoMemory-clause-holding : goal.returns-in-Err-NoMemory-clause-holding
returns-in-Err-NoMemory-clause-holding g c =
    let door = g.D.Desk.fixed c.args.desk.now in
    let asks : Asks = record { t = c.args.prog.now; door = door; q = record { 0 = c.args.state.now.made + 1 }; class = c.args.class; bytes = bytes_at c.args.prog.now.names c.args.name.0; args = c.kinds-args.result } in
    let now = g.D.Desk.front c.enter.new.desk in
    let unused = holding_unused _ _ _ _ c.requires.holding in
    let none = failed_none asks (g.N.Names.known c.enter.new.names) _ now c.in-Err-NoMemory.field-0 c.in-Err-NoMemory.ensures.entered unused in
    subst (λ (l : List Framed). Holding door.caller (c.args.state.now.made + 1) (frames_of l) now) (sym c.reserve.ensures.items)
    (holding_undone _ _ (frames_of c.args.frames.now.items) _ _ c.requires.holding none c.enter.ensures.others c.enter.ensures.kept)

pub returns-in-Ok-Frame-clause-own : goal.returns-in-Ok-Frame-clause-own
returns-in-Ok-Frame-clause-own g c =
    on_ok c.start_body.result _
    (subst (KeepsChecks c.args.prog.now (g.D.Desk.fixed c.args.desk.now).caller (g.N.Names.known c.args.names.now) (g.N.Names.known c.enter.new.names) (g.N.Names.asked c.args.names.now) (g.N.Names.asked c.enter.new.names) (g.D.Desk.front c.args.desk.now) (g.D.Desk.front c.enter.new.desk) c.args.state.now.cache)
    (sym (c.start_body.ensures.steady.cache ∙ ap (λ (s : State). s.cache) c.count.ensures)) (c.in-Ok-Frame.ensures.own tt))

pub returns-in-Some-clause-own : goal.returns-in-Some-clause-own
returns-in-Some-clause-own g c =
    subst (KeepsChecks c.args.prog.now (g.D.Desk.fixed c.args.desk.now).caller (g.N.Names.known c.args.names.now) (g.N.Names.known c.enter.new.names) (g.N.Names.asked c.args.names.now) (g.N.Names.asked c.enter.new.names) (g.D.Desk.front c.args.desk.now) (g.D.Desk.front c.enter.new.desk) c.args.state.now.cache)
    (sym (ap (λ (s : State). s.cache) c.refused.ensures.state)) (c.in-Ok-Refused.ensures.own tt)

pub returns-then-branch-clause-own : goal.returns-then-branch-clause-own
returns-then-branch-clause-own g c =
    let told = subst (λ (x : CallFail). IsTold {X = Entered} (Err x)) (sym c.in-Err-Full.field-0-is) tt in
    subst (KeepsChecks c.args.prog.now (g.D.Desk.fixed c.args.desk.now).caller (g.N.Names.known c.args.names.now) (g.N.Names.known c.is_placed.new.names) (g.N.Names.asked c.args.names.now) (g.N.Names.asked c.is_placed.new.names) (g.D.Desk.front c.args.desk.now) (g.D.Desk.front c.enter.new.desk) c.args.state.now.cache)
    (sym (ap (λ (s : State). s.cache) c.full.ensures.state))
    (keeps_on c.args.prog.now _ _ _ _ _ _ _ _ _ _ _ _ _ (prefix_itself _) (c.in-Err-Full.ensures.own told)
    (keeps_again c.in_ok-is_placed-in-Err-Full.field-0 c.args.prog.now _ _ _ _ _ (c.args.class.0, bytes_at c.args.prog.now.names c.args.name.0) _ _ c.is_placed.ensures.named c.in_ok-is_placed-in-Err-Full.ensures.asked))

pub returns-else-branch-clause-own : goal.returns-else-branch-clause-own
returns-else-branch-clause-own g c =
    let told = subst (λ (x : CallFail). IsTold {X = Entered} (Err x)) (sym c.in-Err-Full.field-0-is) tt in
    subst (KeepsChecks c.args.prog.now (g.D.Desk.fixed c.args.desk.now).caller (g.N.Names.known c.args.names.now) (g.N.Names.known c.is_placed.new.names) (g.N.Names.asked c.args.names.now) (g.N.Names.asked c.is_placed.new.names) (g.D.Desk.front c.args.desk.now) (g.D.Desk.front c.enter.new.desk) c.args.state.now.cache)
    (sym (ap (λ (s : State). s.cache) c.refuse.ensures.state))
    (keeps_on c.args.prog.now _ _ _ _ _ _ _ _ _ _ _ _ _ (prefix_itself _) (c.in-Err-Full.ensures.own told)
    (keeps_again c.in_ok-is_placed-in-Err-Full.field-0 c.args.prog.now _ _ _ _ _ (c.args.class.0, bytes_at c.args.prog.now.names c.args.name.0) _ _ c.is_placed.ensures.named c.in_ok-is_placed-in-Err-Full.ensures.asked))

pub returns-in-Ok-Frame-clause-goes : goal.returns-in-Ok-Frame-clause-goes
returns-in-Ok-Frame-clause-goes g c =
    let t = c.args.prog.now in
    let old = c.args.state.now in
    let mid = c.count.new.state in
    let from : State = record old { cache = c.enter.new.cache } in
    let W : By → Type 0 = λ w. mid ≡ counted w from in
    let counts : W c.in-Ok-Frame.way = rw c.in-Ok-Frame.field-0-is at c.count.ensures in
    IfOk-weaker c.start_body.result _ _ (λ (m : Move) r.
    goes_kept t (length old.operands.items - c.args.at) 0 1 c.args.frames.now.items old c.enter.new.cache c.start_body.new.frames.items c.start_body.new.state m
    (goes_counted t (length old.operands.items - c.args.at) c.in-Ok-Frame.way c.args.frames.now.items from c.start_body.new.frames.items c.start_body.new.state m
    (subst (λ (x : State). Goes t (length x.operands.items - c.args.at) 0 0 c.args.frames.now.items x c.start_body.new.frames.items c.start_body.new.state m) counts
    (subst (λ (l : List Framed). Goes t (length mid.operands.items - c.args.at) 0 0 l mid c.start_body.new.frames.items c.start_body.new.state m) c.reserve.ensures.items r)))) c.start_body.ensures.goes

pub returns-in-Ok-Frame-clause-shares : goal.returns-in-Ok-Frame-clause-shares
returns-in-Ok-Frame-clause-shares g c =
    let t = c.args.prog.now in
    let door = g.D.Desk.fixed c.args.desk.now in
    let known = g.N.Names.known c.enter.new.names in
    let now = g.D.Desk.front c.enter.new.desk in
    let q : CallNo = record { 0 = c.args.state.now.made + 1 } in
    let asks : Asks = record { t = t; door = door; q = q; class = c.args.class; bytes = bytes_at t.names c.args.name.0; args = c.kinds-args.result } in
    let was = g.D.Desk.front c.args.desk.now in
    let e = subst (λ (x : Entered). Enters asks known was now (Ok x)) c.in-Ok-Frame.field-0-is c.in-Ok-Frame.ensures.entered in
    let took = subst (λ (x : Entered). Collects t known (stands door.caller q.0 now) c.enter.new.cache c.args.share.now c.enter.new.share (Ok x)) c.in-Ok-Frame.field-0-is c.in-Ok-Frame.ensures.collects in
    on_ok c.start_body.result _ (shares_entered asks known (g.N.Names.asked c.enter.new.names) was now c.enter.new.cache c.in-Ok-Frame.frame c.in-Ok-Frame.way c.args.share.now c.enter.new.share e.1 c.enter.ensures.cache took)

pub returns-in-Some-clause-shares : goal.returns-in-Some-clause-shares
returns-in-Some-clause-shares g c =
    let t = c.args.prog.now in
    let door = g.D.Desk.fixed c.args.desk.now in
    let known = g.N.Names.known c.enter.new.names in
    let now = g.D.Desk.front c.enter.new.desk in
    let left = subst (λ (x : Entered). Collects t known (stands door.caller (c.args.state.now.made + 1) now) c.enter.new.cache c.args.share.now c.enter.new.share (Ok x)) c.in-Ok-Refused.field-0-is c.in-Ok-Refused.ensures.collects in
    shares_quiet t known known door.caller _ now c.args.state.now c.refused.new.state _ _ c.args.share.now c.enter.new.share (returns-in-Some-clause-reads g c) (ap (λ (s : State). s.fresh) c.refused.ensures.state) left

pub returns-then-branch-clause-shares : goal.returns-then-branch-clause-shares
returns-then-branch-clause-shares g c =
    shares_quiet c.args.prog.now _ _ _ _ _ c.args.state.now c.full.new.state _ _ c.args.share.now c.enter.new.share (returns-then-branch-clause-reads g c) (ap (λ (s : State). s.fresh) c.full.ensures.state) c.in-Err-Full.ensures.collects

pub returns-else-branch-clause-shares : goal.returns-else-branch-clause-shares
returns-else-branch-clause-shares g c =
    shares_quiet c.args.prog.now _ _ _ _ _ c.args.state.now c.refuse.new.state _ _ c.args.share.now c.enter.new.share (returns-else-branch-clause-reads g c) (ap (λ (s : State). s.fresh) c.refuse.ensures.state) c.in-Err-Full.ensures.collects
