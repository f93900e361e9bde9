-- What the entry into a call comes to, from how the call ended and what was kept of it.
use Rattle.std.proofs.Common.{◌≡◌, ℕ, List, [], ◌++◌, sym, ap, ◌∙◌, subst, append_assoc}
use Rattle.std.proofs.lemmas.List.{append_cancel_left}
use mathlib.Core.List.{IsPrefix}
use Rattle.std.specs.Prelude.{Option, Result, Ok, Err, IfErr, IfOk, IsErrAnd, OnOk}
use Rattle.hb_types.specs.declared.ids.CallNo.{CallNo}
use Rattle.hb_names.specs.Names.{Name, with_name}
use Rattle.hb_tables.specs.declared.entry.Act.{Act}
use Rattle.hb_tables.specs.Frames.{StaysLive, acts}
use Rattle.hb_tables.proofs.FrameLemmas.{acts_append, live_parts}
use Rattle.hb_tables.specs.declared.entry.Entry.{Entry}
use Rattle.hb_tables.specs.Answers.{Fixed}
use Rattle.hb_call.specs.declared.frame.CallFail.{CallFail}
use Rattle.hb_call.specs.declared.frame.CallFail.TheVariants as fail
use Rattle.hb_call.specs.declared.frame.Entered.{Entered}
use Rattle.hb_call.specs.declared.ruling.Ended.{Ended}
use Rattle.hb_call.specs.declared.ruling.Ended.TheVariants as ended
use Rattle.hb_call.specs.Entering.{Asks, Enters, IsEndedWell, IsFramed, IsOwnAtEnd, IsTold, IsUndone, MarksOnce, MayUndo, entered_of}
use Rattle.hb_call.specs.Comparing.{EndsAsking}
use Rattle.hb_call.specs.declared.answers.Answer.{Answer}
use Rattle.hb_call.specs.Calling.{Given, Moment}
use Rattle.hb_call.specs.Held.{Holds, stands}

pub may_undo : (c : ℕ) (q : CallNo) (log : List Entry) (e : Ended) → IsEndedWell c q log e → MayUndo c log e
may_undo c q log (ended.Own f) h = tt
may_undo c q log (ended.Fresh f d) h = subst (λ (p : CallNo). Holds c p.0 f.held.items log) (sym h.0) h.1
may_undo c q log (ended.Refused v) h = tt

framed_of : (c : ℕ) (q : CallNo) (log : List Entry) (e : Ended) → IsEndedWell c q log e → IsFramed c q log (entered_of e)
framed_of c q log (ended.Own f) h = h
framed_of c q log (ended.Fresh f d) h = h
framed_of c q log (ended.Refused v) h = tt

not_told : (x : CallFail) → x ≡ fail.NoMemory → IsTold {X = Entered} (Err x) → ⊥
not_told x e told = subst (λ (y : CallFail). IsTold {X = Entered} (Err y)) e told

module _ (c : ℕ) (q : CallNo) (mid new : List Entry) (e : Ended) (well : IsEndedWell c q mid e) where
  -- the call that was undone is this one
  undone_of : (u : IsUndone c mid new e) → u.frame.q ≡ q
  undone_of u = (subst (λ (x : Ended). IsEndedWell c q mid x) u.is well).0

  undone_none : IsUndone c mid new e → stands c q.0 new ≡ []
  undone_none u = ap (λ (p : CallNo). stands c p.0 new) (sym (undone_of u)) ∙ u.none

  pub kept_others : (r : Result Entered CallFail) → IfOk r (λ x. (x ≡ entered_of e) × (new ≡ mid)) → IfErr r (λ x. (x ≡ fail.NoMemory) × IsUndone c mid new e) → (p : ℕ) → (p ≡ q.0 → ⊥) → stands c p new ≡ stands c p mid
  kept_others (Ok x) done undone p other = ap (stands c p) done.1
  kept_others (Err x) done undone p other = undone.1.others p (λ same. other (same ∙ ap (λ (n : CallNo). n.0) (undone_of undone.1)))

  pub kept_framed : (r : Result Entered CallFail) → IfOk r (λ x. (x ≡ entered_of e) × (new ≡ mid)) → IfOk r (IsFramed c q new)
  kept_framed (Ok x) done = subst (λ (y : Entered). IsFramed c q new y) (sym done.0) (subst (λ (l : List Entry). IsFramed c q l (entered_of e)) (sym done.1) (framed_of c q mid e well))
  kept_framed (Err x) done = tt

  -- where the caller is told of the call, nothing came since its end
  pub kept_told : (P : List Entry → Type 0) (r : Result Entered CallFail) → IfOk r (λ x. (x ≡ entered_of e) × (new ≡ mid)) → IfErr r (λ x. (x ≡ fail.NoMemory) × IsUndone c mid new e) → IsTold r → P mid → P new
  kept_told P (Ok x) done undone told h = subst P (sym done.1) h
  kept_told P (Err x) done undone told h = absurd (not_told x undone.0 told)

  pub kept_own : {P : Type 0} (r : Result Entered CallFail) → IfErr r (λ x. (x ≡ fail.NoMemory) × IsUndone c mid new e) → IsTold r → OnOk r P → P
  kept_own (Ok x) undone told h = h
  kept_own (Err x) undone told h = absurd (not_told x undone.0 told)

pub kept_enters : (a : Asks) (names : List Name) (old mid new : List Entry) (e : Ended) → IsEndedWell a.door.caller a.q mid e → (r : Result Entered CallFail) → IfOk r (λ x. (x ≡ entered_of e) × (new ≡ mid)) → IfErr r (λ x. (x ≡ fail.NoMemory) × IsUndone a.door.caller mid new e) → Enters a names old mid (Ok (entered_of e)) → Enters a names old new r
kept_enters a names old mid new e well (Ok x) done undone h = subst (λ (y : Entered). Enters a names old new (Ok y)) (sym done.0) (subst (λ (l : List Entry). Enters a names old l (Ok (entered_of e))) (sym done.1) h)
kept_enters a names old mid new e well (Err x) done undone h = subst (λ (y : CallFail). Enters a names old new (Err y)) (sym undone.0) (undone_none a.door.caller a.q mid new e well undone.1)

-- what is kept at the end, of the same entries and answers
pub own_moved : (g : Given) (past : Option (List Act)) (known asked : List Name) (a b : List Entry) (x y : List Answer) (r : Result Ended CallFail) → a ≡ b → x ≡ y → IsOwnAtEnd g past known asked a x r → IsOwnAtEnd g past known asked b y r
own_moved g past known asked a b x y r e f own = subst (λ (l : List Answer). IsOwnAtEnd g past known asked b l r) f (subst (λ (l : List Entry). IsOwnAtEnd g past known asked l x r) e own)

-- the caller was told of the end
pub told_back : (r : Result Entered CallFail) (cause : CallFail) → IsErrAnd r (λ x. x ≡ cause) → IsTold r → IsTold {X = Ended} (Err cause)
told_back (Ok x) cause e told = absurd e
told_back (Err fail.Full) cause e told = subst (λ (y : CallFail). IsTold {X = Ended} (Err y)) e tt
told_back (Err fail.NoMemory) cause e told = absurd told

-- where the call enters by a kept check, and gave nothing back, the name of its method alone was asked for
pub ended_marks : (a : Asks) (was : List Name) (old : List Entry) (g : Given) (start is : Moment) (e : Ended) (door : g.door ≡ a.door) (q : g.q ≡ a.q) (made : List Act) → acts a.door.caller start.log ≡ acts a.door.caller old ++ made → IsPrefix start.log is.log → start.asked ≡ with_name was (a.class.0, a.bytes) → EndsAsking g start is e → MarksOnce a was is.asked old is.log (Ok (entered_of e))
ended_marks a was old g start is (ended.Own f) door q made first goes asked asks = λ all since live.
    let c = a.door.caller in let later = acts c goes.0 in
    let more : acts c is.log ≡ acts c start.log ++ later = ap (acts c) (sym goes.1) ∙ acts_append c start.log goes.0 in
    let split : all ≡ made ++ later = append_cancel_left (acts c old) all (made ++ later) (sym since ∙ more ∙ ap (λ l. l ++ later) first ∙ append_assoc (acts c old) made later) in
    let lives = (live_parts a.q.0 made later (subst (StaysLive a.q.0) split live)).1 in
    asks later (subst (λ (d : Fixed). acts d.caller is.log ≡ acts d.caller start.log ++ later) (sym door) more) (subst (λ (p : CallNo). StaysLive p.0 later) (sym q) lives) ∙ asked
ended_marks a was old g start is (ended.Fresh f d) door q made first goes asked asks = tt
ended_marks a was old g start is (ended.Refused v) door q made first goes asked asks = tt

pub kept_marks : (a : Asks) (was asked : List Name) (old mid new : List Entry) (e : Ended) (r : Result Entered CallFail) → IfOk r (λ x. (x ≡ entered_of e) × (new ≡ mid)) → MarksOnce a was asked old mid (Ok (entered_of e)) → MarksOnce a was asked old new r
kept_marks a was asked old mid new e (Ok x) done h = subst (λ (y : Entered). MarksOnce a was asked old new (Ok y)) (sym done.0) (subst (λ (l : List Entry). MarksOnce a was asked old l (Ok (entered_of e))) (sym done.1) h)
kept_marks a was asked old mid new e (Err x) done h = tt
