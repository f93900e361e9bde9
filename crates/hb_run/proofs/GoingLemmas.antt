-- A machine that goes on twice has gone on.
use Rattle.std.proofs.Common.{◌≡◌, ℕ, List, [], ◌∷◌, ◌++◌, map, refl, sym, ap, ◌∙◌, subst, append_assoc}
use Rattle.std.proofs.lemmas.List.{append-nil, append_cancel_left, map-append}
use Rattle.hb_names.specs.Names.{Name}
use Rattle.hb_tree.specs.Table.{Table}
use Rattle.hb_tables.specs.declared.entry.Entry.{Entry}
use Rattle.hb_tables.specs.declared.entry.Act.{Act}
use Rattle.hb_tables.specs.Answers.{Fixed}
use Rattle.hb_tables.specs.Frames.{acts}
use Rattle.hb_call.specs.Growth.{Grown}
use Rattle.hb_call.specs.OwnCache.{KeepsChecks}
use Rattle.hb_call.specs.OwnLaws.{keeps_itself, keeps_on}
use Rattle.hb_call.specs.GrowthLaws.{grown_itself, grown_on, prefix_itself, prefix_more}
use Rattle.hb_eval.specs.declared.machine.Machine.{Machine}
use Rattle.hb_eval.specs.Machines.{StandsFor, keeps}
use Rattle.hb_eval.specs.State.{tagged}
use Rattle.hb_eval.specs.Staying.{Stays}
use Rattle.hb_run.specs.Going.{Went}

pub went_itself : (t : Table) (door : Fixed) (names asked : List Name) (log : List Entry) (m : Machine) → Went t door door names names asked asked log log m m
went_itself t door names asked log m = record {
  goes = record { made = []; grows = sym (append-nil (acts door.caller log)); stands = λ block steps done s. subst (λ (l : List (ℕ × Act)). StandsFor t names block steps l m) (sym (append-nil done)) s };
  stays = record { fixed = refl; kept = prefix_itself log; legal = λ x. x; named = prefix_itself names; few = λ x. x; differ = λ x. x };
  grown = grown_itself t door.caller names asked log;
  checks = keeps_itself t door.caller names asked log m.state.cache;
  caller = refl;
  keeps = refl;
}

-- the acts without their numbers
untagged : (n : ℕ) (l : List Act) → map (λ (e : ℕ × Act). e.1) (tagged n l) ≡ l
untagged n [] = refl
untagged n (a ∷ l) = ap (λ x. a ∷ x) (untagged n l)

-- one turn more
pub went_turn : (t : Table) (door later latest : Fixed) (names known more : List Name) (was asked again : List Name) (log now last : List Entry) (old mid new : Machine) (begun : ℕ)
    → Went t door later names known was asked log now old mid
    → ((block steps : ℕ) (done : List (ℕ × Act)) → StandsFor t known block steps done mid
    → (made : List Act) × (acts later.caller last ≡ acts later.caller now ++ made) × StandsFor t more block steps (done ++ tagged begun made) new)
    → Stays later latest now last known more → Grown t later.caller more asked again now last → KeepsChecks t later.caller known more asked again now last mid.state.cache new.state.cache
    → new.caller ≡ mid.caller → keeps new ≡ keeps mid
    → Went t door latest names more was again log last old new
went_turn t door later latest names known more was asked again log now last old mid new begun w turn stays grown checks caller kept =
    go later w.stays.fixed w turn stays grown checks
  where
    go : (mine : Fixed) → mine ≡ door → Went t door mine names known was asked log now old mid
        → ((block steps : ℕ) (done : List (ℕ × Act)) → StandsFor t known block steps done mid
        → (made : List Act) × (acts mine.caller last ≡ acts mine.caller now ++ made) × StandsFor t more block steps (done ++ tagged begun made) new)
        → Stays mine latest now last known more → Grown t mine.caller more asked again now last → KeepsChecks t mine.caller known more asked again now last mid.state.cache new.state.cache
        → Went t door latest names more was again log last old new
    go mine same w turn stays grown checks = by (subst (λ (d : Fixed). Parts d) same (turn, stays, grown, checks))
      where
        Parts : Fixed → Type 0
        Parts d = ((block steps : ℕ) (done : List (ℕ × Act)) → StandsFor t known block steps done mid
            → (made : List Act) × (acts d.caller last ≡ acts d.caller now ++ made) × StandsFor t more block steps (done ++ tagged begun made) new)
            × Stays d latest now last known more × Grown t d.caller more asked again now last × KeepsChecks t d.caller known more asked again now last mid.state.cache new.state.cache

        by : Parts door → Went t door latest names more was again log last old new
        by (turn, stays, grown, checks) = record {
          goes = record {
            made = w.goes.made ++ tagged begun grown.made;
            grows =
                grown.grows
                ∙ ap (λ x. x ++ grown.made) w.goes.grows
                ∙ append_assoc (acts door.caller log) (map (λ (e : ℕ × Act). e.1) w.goes.made) grown.made
                ∙ ap (λ x. acts door.caller log ++ x)
                (ap (λ x. map (λ (e : ℕ × Act). e.1) w.goes.made ++ x) (sym (untagged begun grown.made)) ∙ sym (map-append (λ (e : ℕ × Act). e.1) w.goes.made (tagged begun grown.made)));
            stands = λ block steps done s.
                let r = turn block steps (done ++ w.goes.made) (w.goes.stands block steps done s) in
                let same : r.0 ≡ grown.made = append_cancel_left (acts door.caller now) r.0 grown.made (sym r.1 ∙ grown.grows) in
                subst (λ (l : List (ℕ × Act)). StandsFor t more block steps l new) (append_assoc done w.goes.made (tagged begun grown.made))
                (subst (λ (l : List Act). StandsFor t more block steps ((done ++ w.goes.made) ++ tagged begun l) new) same r.2);
          };
          stays = record {
            fixed = stays.fixed;
            kept = prefix_more log now last w.stays.kept stays.kept;
            legal = λ x. stays.legal (w.stays.legal x);
            named = prefix_more names known more w.stays.named stays.named;
            few = λ x. stays.few (w.stays.few x);
            differ = λ x. stays.differ (w.stays.differ x);
          };
          grown = grown_on t door.caller known more was asked again log now last w.grown grown stays.named;
          checks = keeps_on t door.caller names known more was asked again log now last old.state.cache mid.state.cache new.state.cache stays.kept w.checks checks;
          caller = caller ∙ w.caller;
          keeps = kept ∙ w.keeps;
        }
