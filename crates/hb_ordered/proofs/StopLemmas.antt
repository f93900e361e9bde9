-- What stops with Full stays so, behind Frees.
use Rattle.std.proofs.Common.{◌≡◌, ℕ, List, [], ◌∷◌, ◌++◌, Option, Some, None, sym, ap, ◌∙◌, append_assoc}
use Rattle.hb_types.specs.declared.ids.ClassId.{ClassId}
use Rattle.hb_tables.specs.declared.entry.Act.{Act}
use Rattle.hb_tables.specs.declared.entry.Act.TheVariants.{Hold, Free, Retype, Busy, WornType, Define, WornDef, Call}
use Rattle.hb_tables.specs.Standing.{Stand}
use Rattle.hb_call.specs.Reading.{freed}
use Rattle.hb_eval.specs.declared.value.Value.{Value}
use Rattle.hb_eval.specs.declared.stop.Stop.TheVariants as stop
use Rattle.hb_eval.specs.State.{Bindings, St, Answer, Lost, Done, Halt, then_do, tagged}
use Rattle.hb_eval.specs.Calls.{acts_before, leave, read_frees}
use Rattle.hb_eval.proofs.EndLemmas.{before_rest}
use Rattle.hb_eval.proofs.TurnLemmas.{tagged_append}
use Rattle.hb_ordered.specs.Parting.{AreFrees}
use Rattle.hb_ordered.proofs.PartLemmas.{FreesTo, freed_frees}

-- the answer is none, or the stop Full, where so many expressions have begun, behind these acts and Frees
unfoldable pub EndsFull : (begun : ℕ) → List (ℕ × Act) → List Act → Answer → Type 0
EndsFull g rd l Lost = Unit {0}
EndsFull g rd l (Done v s) = ⊥
EndsFull g rd l (Halt e id s) = (e ≡ stop.Full) × (s.begun ≡ g) × ((fs : List Act) × AreFrees fs × (s.read ≡ rd ++ tagged g fs) × (l ≡ fs ++ s.journal))

pub ends_then : (g : ℕ) (rd : List (ℕ × Act)) (l : List Act) (a : Answer) (go : Value → St → Answer) → EndsFull g rd l a → EndsFull g rd l (then_do a go)
unfolding EndsFull then_do
ends_then g rd l Lost go h = tt
ends_then g rd l (Done v s) go h = absurd h
ends_then g rd l (Halt e id s) go h = h

frees_both : (l m : List Act) → AreFrees l → AreFrees m → AreFrees (l ++ m)
frees_both [] m h k = k
frees_both (Free key p ∷ l) m h k = frees_both l m h k
frees_both _ _ h _ = absurd h

pub ends_leave : (g : ℕ) (rd : List (ℕ × Act)) (l : List Act) (q : ℕ) (held : List Stand) (vars : Bindings) (self : Option ClassId) (a : Answer) → EndsFull g rd l a → EndsFull g rd l
    (leave q held vars self a)
unfolding EndsFull FreesTo
ends_leave g rd l q held vars self Lost h = tt
ends_leave g rd l q held vars self (Done v s) h = absurd h
ends_leave g rd l q held vars self (Halt e id s) h = go (freed q held s.journal) (freed_frees q held s.journal)
  where
    go : (o : Option (List Act)) → FreesTo s.journal o → EndsFull g rd l (read_frees o s (λ s. Halt e id (record s { vars = vars; self = self })))
    go None f = tt
    go (Some rest) f =
        let more : acts_before rest s.journal ≡ f.0 = ap (acts_before rest) f.2 ∙ before_rest f.0 rest in
        let x = h.2 in (
          h.0,
          h.1,
          (
            x.0 ++ f.0,
            frees_both x.0 f.0 x.1 f.1,
            ap (λ m. s.read ++ tagged s.begun m) more ∙ ap (λ n. s.read ++ tagged n f.0) h.1 ∙ ap (λ r. r ++ tagged g f.0) x.2 ∙ append_assoc rd (tagged g x.0) (tagged g f.0)
                ∙ ap (λ r. rd ++ r) (sym (tagged_append g x.0 f.0)),
            x.3 ∙ ap (λ r. x.0 ++ r) f.2 ∙ sym (append_assoc x.0 f.0 rest),
          ),
        )
