-- Turns, one behind another.
use Rattle.std.proofs.Common.{◌≡◌, ℕ, ◌+◌, List, [], ◌∷◌, ◌++◌, take, refl, sym, ap, ◌∙◌, arith, append_assoc, append-nil}
use Rattle.std.specs.Prelude.{reverse, count_by, Bool, cond}
use Rattle.std.proofs.lemmas.List.Sums.{sum_by-append}
use Rattle.hb_tables.specs.declared.entry.By.TheVariants as by
use mathlib.Core.List.{IsPrefix}
use Rattle.hb_names.specs.Names.{Name}
use Rattle.hb_tables.specs.declared.{entry.Entry.Entry, entry.Act.Act}
use Rattle.hb_tables.specs.Frames.{acts}
use Rattle.hb_eval.specs.declared.{cont.Cont.Cont, framed.Framed.Framed, state.State.State}
use Rattle.hb_eval.specs.{State.tagged, Stacks.views, Stacks.frames_at, Steps.SameCalls, Runs.is_call, Runs.is_entered}
use Rattle.hb_eval.specs.Turns.{Telling, Tallies, Reads}

pub tagged_append : (n : ℕ) (a b : List Act) → tagged n (a ++ b) ≡ tagged n a ++ tagged n b
tagged_append n [] b = refl
tagged_append n (e ∷ a) b = ap (λ l. (n, e) ∷ l) (tagged_append n a b)

pub frames_stay : (frames : List Framed) (old new : State) → take new.base new.vars.items ≡ take old.base old.vars.items → frames_at frames new ≡ frames_at frames old
frames_stay frames old new e = ap (views (reverse frames)) e

pub prefix_on : {A : Type 0} (a b c : List A) → IsPrefix a b → IsPrefix b c → IsPrefix a c
prefix_on a b c p q = (p.0 ++ q.0, sym (append_assoc a p.0 q.0) ∙ ap (λ w. w ++ q.0) p.1 ∙ q.1)

counted : {A : Type 0} (p : A → Bool) (a b : List A) → count_by p (a ++ b) ≡ count_by p a + count_by p b
counted p a b = sum_by-append (λ x. cond (p x) 1 0) a b

no_tallies : (old new : State) → SameCalls old new → Tallies old new []
no_tallies old new h = record { decided = omega (arith, h.decided); own = omega (arith, h.own); fresh = omega (arith, h.fresh); shared = refl }

pub tallies_on : (old mid new : State) (a b : List Act) → Tallies old mid a → Tallies mid new b → Tallies old new (a ++ b)
tallies_on old mid new a b p q = record {
  decided = omega (arith, p.decided, q.decided, counted is_call a b);
  fresh = omega (arith, p.fresh, q.fresh, counted (is_entered by.Fresh) a b);
  own = omega (arith, p.own, q.own, counted (is_entered by.Own) a b);
  shared = omega (arith, p.shared, q.shared, counted (is_entered by.Shared) a b);
}

-- no act comes
pub reads_none : (known : List Name) (c : ℕ) (was now : List Entry) (old new : State) (told telling : Telling) → acts c now ≡ acts c was → SameCalls old new
    → ((names : List Name) (ks : List Cont) (read : List (ℕ × Act)) (journal : List Act) → told names ks read journal ≡ telling names ks read journal)
    → Reads known c was now old new told telling
reads_none known c was now old new told telling same calls e = record {
  more = [];
  grows = same ∙ sym (append-nil (acts c was));
  same = λ names p few ks read journal. e names ks read journal ∙ ap (λ r. telling names ks r journal) (sym (append-nil read));
  tallies = no_tallies old new calls;
}

-- one turn behind another
pub reads_on : (known longer : List Name) (c : ℕ) (was half now : List Entry) (old mid new : State) (first second third : Telling) → IsPrefix known longer → mid.begun ≡ new.begun
    → Reads known c was half old mid first second → Reads longer c half now mid new second third → Reads longer c was now old new first third
reads_on known longer c was half now old mid new first second third named begun a b = record {
  more = a.more ++ b.more;
  grows = b.grows ∙ ap (λ l. l ++ b.more) a.grows ∙ append_assoc (acts c was) a.more b.more;
  same = λ names p few ks read journal.
      ap (first names ks read) (append_assoc a.more b.more journal)
      ∙ a.same names (prefix_on known longer names named p) few ks read (b.more ++ journal)
      ∙ b.same names p few ks (read ++ tagged mid.begun a.more) journal
      ∙ ap (λ r. third names ks r journal)
      (append_assoc read (tagged mid.begun a.more) (tagged new.begun b.more)
      ∙ ap (λ n. read ++ (tagged n a.more ++ tagged new.begun b.more)) begun
      ∙ ap (λ l. read ++ l) (sym (tagged_append new.begun a.more b.more)));
  tallies = tallies_on old mid new a.more b.more a.tallies b.tallies;
}

-- the same behind what is the same
pub reads_from : (known : List Name) (c : ℕ) (was now : List Entry) (old new : State) (first second third : Telling)
    → ((names : List Name) (ks : List Cont) (read : List (ℕ × Act)) (journal : List Act) → first names ks read journal ≡ second names ks read journal)
    → Reads known c was now old new second third → Reads known c was now old new first third
reads_from known c was now old new first second third e a = record {
  more = a.more;
  grows = a.grows;
  same = λ names p few ks read journal. e names ks read (a.more ++ journal) ∙ a.same names p few ks read journal;
  tallies = a.tallies;
}

-- the same from a state with the same counts
pub reads_before : (known : List Name) (c : ℕ) (was now : List Entry) (old mid new : State) (first second third : Telling) → mid.decided ≡ old.decided → mid.own ≡ old.own → mid.fresh ≡ old.fresh
    → ((names : List Name) (ks : List Cont) (read : List (ℕ × Act)) (journal : List Act) → first names ks read journal ≡ second names ks read journal)
    → Reads known c was now mid new second third → Reads known c was now old new first third
reads_before known c was now old mid new first second third decided own fresh e a = record {
  more = a.more;
  grows = a.grows;
  same = λ names p few ks read journal. e names ks read (a.more ++ journal) ∙ a.same names p few ks read journal;
  tallies = record {
    decided = a.tallies.decided ∙ ap (λ n. n + count_by is_call a.more) decided;
    own = a.tallies.own ∙ ap (λ n. n + count_by (is_entered by.Own) a.more) own;
    fresh = a.tallies.fresh ∙ ap (λ n. n + count_by (is_entered by.Fresh) a.more) fresh;
    shared = a.tallies.shared;
  };
}
