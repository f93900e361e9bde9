-- The first caller's seats, while seats of others are made, and the jobs that come to it.
use Rattle.std.proofs.Common.{◌≡◌, ℕ, suc, List, [], ◌∷◌, ◌++◌, length, refl, sym, ap, subst, ◌∙◌, arith, append_assoc, append-nil}
use Rattle.std.proofs.lemmas.List.{get_or_push, length_push, get_or_append_left}
use native.Mathlib.Decide.{dec_lt}
use mathlib.Core.Logic.{dite}
use mathlib.Core.List.{IsPrefix}
use Rattle.hb_tables.specs.declared.entry.Entry.{Entry}
use Rattle.hb_tables.specs.History.{journal}
use Rattle.hb_tables.proofs.HistoryLemmas.{journal_append}
use Rattle.hb_row.specs.declared.seat.NameSeat.{NameSeat}
use Rattle.hb_row.specs.Seats.{known_of, asked_by}
use Rattle.hb_fronts.specs.Exits.{View}
use Rattle.hb_words.specs.declared.view.View.{View as WordView}
use Rattle.hb_words.specs.declared.words.WordSeat.{WordSeat}
use Rattle.hb_words.specs.Seats.{view_of}
use Rattle.hb_words.specs.Words.{Looks, forked}
use Rattle.hb_threads.specs.declared.job.Job.{Job}
use Rattle.hb_threads.specs.Heads.{IsSince}
use Rattle.hb_threads.specs.Jobs.{AreJobs}
use Rattle.hb_threads.specs.Seated.{known_at}

pub prefix_on : {A : Type 0} (xs ys zs : List A) → IsPrefix xs ys → IsPrefix ys zs → IsPrefix xs zs
prefix_on xs ys zs p q = (p.0 ++ q.0, sym (append_assoc xs p.0 q.0) ∙ ap (λ l. l ++ q.0) p.1 ∙ q.1)

nil_left : (xs ys : List Entry) → xs ++ ys ≡ [] → xs ≡ []
nil_left [] ys is = refl
nil_left (x ∷ xs) ys is = absurd (cc is)

-- where a list has no entry of a caller, its beginning has none
pub journal_begins : (c : ℕ) (xs ys : List Entry) → IsPrefix xs ys → journal c ys ≡ [] → journal c xs ≡ []
journal_begins c xs ys p none = nil_left (journal c xs) (journal c p.0) (sym (journal_append c xs p.0) ∙ ap (journal c) p.1 ∙ none)

pub since_itself : (seat : WordSeat) (names : NameSeat) → IsSince (known_at seat names) seat names
since_itself seat names = record { begins = ([], append-nil (view_of seat).seen); same = refl; known = refl; asked = refl }

pub since_on : (once : View) (seat later : WordSeat) (names asking : NameSeat) → IsSince once seat names → IsSince (known_at seat names) later asking → IsSince once later asking
since_on once seat later names asking a b = record {
  begins = prefix_on once.front (view_of seat).seen (view_of later).seen a.begins b.begins;
  same = b.same ∙ a.same;
  known = b.known ∙ a.known;
  asked = b.asked ∙ a.asked;
}

pub since_looks : (seat later : WordSeat) (names asking : NameSeat) (v : WordView) → (view_of seat).caller ≡ 0 → Looks (view_of seat) v → view_of later ≡ forked v
    → known_of asking ≡ known_of names → asked_by asking ≡ asked_by names → IsSince (known_at seat names) later asking
since_looks seat later names asking v zero_is looks is knows asks =
    let between = looks.0.0 in
    let seen : (view_of later).seen ≡ (view_of seat).seen ++ between = ap (λ (w : WordView). w.seen) is ∙ looks.0.1 in
    let none : journal 0 between ≡ [] = subst (λ (c : ℕ). journal c between ≡ []) zero_is looks.0.2 in record {
      begins = (between, sym seen);
      same = ap (journal 0) seen ∙ journal_append 0 (view_of seat).seen between ∙ ap (λ l. journal 0 (view_of seat).seen ++ l) none ∙ append-nil (journal 0 (view_of seat).seen);
      known = knows;
      asked = asks;
    }

-- one more job
pub jobs_push : (P : Job → Type 0) (jobs : List Job) (j : Job) → AreJobs P jobs → P j → j.caller.0 ≡ suc (length jobs) → AreJobs P (jobs ++ j ∷ [])
jobs_push P jobs j are one mine k d below = dite (dec_lt k (length jobs))
    (λ early. subst (λ (x : Job). P x × (x.caller.0 ≡ suc k)) (sym (get_or_append_left jobs (j ∷ []) d k early)) (are k d early))
    (λ late. let last : k ≡ length jobs = (let n = length_push jobs j in omega (arith, n, below, late)) in
    subst (λ (x : Job). P x × (x.caller.0 ≡ suc k)) (sym (get_or_push jobs j d k (sym last))) (one, mine ∙ ap suc (sym last)))
