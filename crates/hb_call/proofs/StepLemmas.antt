-- What one step of a call adds to names and entries.
use Rattle.std.proofs.Common.{◌≡◌, ◌≢◌, inl, inr, ℕ, ◌≤◌, false, List, [], ◌∷◌, ◌++◌, length, Some, refl, sym, ap, ◌∙◌, subst, ne_eqb}
use Rattle.std.specs.Prelude.{Option}
use mathlib.Core.List.{IsPrefix}
use Rattle.hb_types.specs.declared.ids.KeyId.{KeyId}
use Rattle.hb_types.specs.declared.ids.TypeSite.{TypeSite}
use Rattle.hb_types.specs.declared.ids.BodySite.{BodySite}
use Rattle.hb_names.specs.Names.{Name, Differ, place, with_name}
use Rattle.hb_names.specs.declared.names.TheConstants.{NAMES_MAX}
use Rattle.hb_tables.specs.declared.desk.Held.{Held}
use Rattle.hb_tables.specs.declared.entry.Entry.{Entry}
use Rattle.hb_tables.specs.declared.entry.Act.{Act}
use Rattle.hb_tables.specs.declared.entry.Act.TheVariants.{Hold, Call}
use Rattle.hb_tables.specs.declared.entry.Verdict.{Verdict}
use Rattle.hb_types.specs.declared.ids.CallNo.{CallNo}
use Rattle.hb_tables.specs.Answers.{Fixed}
use Rattle.hb_tables.specs.History.{spot, times, Adds, Learns, IsLegal}
use Rattle.hb_tables.specs.Frames.{acts}
use Rattle.hb_tables.specs.Standing.{standing}
use Rattle.hb_tables.specs.Rows.{IsDecided, IsFilled, kinds_of}
use Rattle.hb_tables.proofs.DeskLemmas.{adds_apart, adds_prefix, learns_acts, learns_prefix}
use Rattle.hb_tables.proofs.StandingLemmas.{has_part}
use Rattle.hb_call.specs.Held.{frees}
use Rattle.hb_call.specs.Calling.{AreParts, Given, Goes, Grew, IsAlike, IsAskedFor, IsHeldFrom, Moment, Went}
use Rattle.hb_call.specs.GrowthLaws.{grows_itself, prefix_itself, with_rules}
use Rattle.hb_call.specs.Rules.{FitsRules, IsWhole}
use Rattle.hb_call.specs.Alike.{goes_on}
use Rattle.hb_call.proofs.GrowthLemmas.{asked_again, asked_on, each_adds, grows_adds, grows_frees, grows_learns, key_named, others_frees}
use Rattle.hb_call.proofs.BegunLemmas.{AreOthers, begun_frees, begun_hold, begun_learns, keeps_others}

parts_frees : (q : CallNo) (keys : List KeyId) → AreParts q (frees q keys)
parts_frees q [] = tt
parts_frees q (key ∷ keys) = (refl, parts_frees q keys)

abbrev pub at : List Name → List Name → List Entry → Moment
at known asked log = record { known = known; asked = asked; log = log }

pub alike_door : (g : Given) (door : Fixed) (was is : Moment) → door ≡ g.door → Goes g was is → IsAlike g (record g { door = door }) was is
alike_door g door was is e goes = record { same = ap (λ (d : Fixed). record g { door = d }) (sym e); goes = goes }

module _ (g : Given) (known asked : List Name) where
  went_names : (longer : List Name) (log : List Entry) → IsPrefix known longer → length longer ≤ NAMES_MAX → Differ longer → Went g (at known asked log) (at longer asked log)
  went_names longer log named few differ = record { named = named; few = λ h. few; differ = λ h. differ; kept = prefix_itself log; legal = λ h. h; others = λ p other. refl }

  pub goes_names : (longer : List Name) (log : List Entry) → IsPrefix known longer → length longer ≤ NAMES_MAX → Differ longer → Goes g (at known asked log) (at longer asked log)
  goes_names longer log named few differ = record { went = went_names longer log named few differ; grew = grows_itself g.door.caller longer asked log; keeps = tt; parts = tt; begun = λ fits start b. b }

  pub went_adds : (more : List Name) (old new : List Entry) (a : Act) → Adds g.door.caller old new a → IsLegal g.door.limit new → ((p : ℕ) → p ≢ g.q.0 → has_part p a ≡ false) → Went g (at known asked old) (at known more new)
  went_adds more old new a adds legal apart = record {
    named = prefix_itself known;
    few = λ h. h;
    differ = λ h. h;
    kept = adds_prefix g.door.caller old new a adds;
    legal = λ h. legal;
    others = λ p other. adds_apart g.door.caller p old new a adds (apart p other);
  }

  pub goes_hold : (longer : List Name) (old new : List Entry) (name : Name) (key : KeyId) (ty : Option TypeSite) (n : ℕ) → place longer name ≡ Some key.0 → Adds g.door.caller old new (Hold key g.q ty n) → IsLegal g.door.limit new → Goes g (at longer asked old) (at longer (with_name asked name) new)
  goes_hold longer old new name key ty n e adds legal = record {
    went = record {
      named = prefix_itself longer;
      few = λ h. h;
      differ = λ h. h;
      kept = adds_prefix g.door.caller old new (Hold key g.q ty n) adds;
      legal = λ h. legal;
      others = λ p other. adds_apart g.door.caller p old new (Hold key g.q ty n) adds (ne_eqb p g.q.0 other);
    };
    grew = grows_adds g.door.caller longer asked (with_name asked name) old new (Hold key g.q ty n) adds (λ names p. sym (key_named longer names asked name key.0 e p));
    keeps = (refl, tt);
    parts = (refl, tt);
    begun = λ fits start b. begun_hold g key ty n start old new adds fits b;
  }

  -- a key was asked for, and is held from before or from here on
  pub goes_key : (longer more : List Name) (old new : List Entry) (name : Name) (key : KeyId) (held : Held) → IsPrefix known longer → length longer ≤ NAMES_MAX → Differ longer → place longer name ≡ Some key.0 → more ≡ with_name asked name
      → IsHeldFrom g.door.caller g.q key held old new → (times (g.door.caller, g.q.0) (spot key.0 old).calls ≡ 1 → IsAskedFor known asked key.0) → IsLegal g.door.limit new → Goes g (at known asked old) (at longer more new)
  goes_key longer more old new name key held named few differ e is (inl h) before legal =
      let again = asked_again longer asked name key.0 (asked_on known longer asked asked key.0 named (prefix_itself asked) (before h.1.0)) e in
      subst (λ (l : List Entry). Goes g (at known asked old) (at longer more l)) (sym h.0)
      (subst (λ (m : List Name). Goes g (at known asked old) (at longer m old)) (sym (is ∙ again)) (goes_names longer old named few differ))
  goes_key longer more old new name key held named few differ e is (inr h) before legal =
      goes_on g (at known asked old) (at longer asked old) (at longer more new) (goes_names longer old named few differ)
      (subst (λ (m : List Name). Goes g (at longer asked old) (at longer m new)) (sym is) (goes_hold longer old new name key held.ty held.changes e h legal))

  pub goes_learns : (old new : List Entry) → Learns g.door.caller old new → IsLegal g.door.limit new → Goes g (at known asked old) (at known asked new)
  goes_learns old new learns legal = record {
    went = record {
      named = prefix_itself known;
      few = λ h. h;
      differ = λ h. h;
      kept = learns_prefix g.door.caller old new learns;
      legal = λ h. legal;
      others = λ p other. ap (standing p) (learns_acts g.door.caller old new learns);
    };
    grew = grows_learns g.door.caller known asked asked old new learns refl;
    keeps = tt;
    parts = tt;
    begun = λ fits start b. begun_learns g start old new learns b;
  }

  pub went_frees : (old new : List Entry) (keys : List KeyId) → IsPrefix old new → acts g.door.caller new ≡ acts g.door.caller old ++ frees g.q keys → (IsLegal g.door.limit old → IsLegal g.door.limit new) → Went g (at known asked old) (at known asked new)
  went_frees old new keys kept is legal = record {
    named = prefix_itself known;
    few = λ h. h;
    differ = λ h. h;
    kept = kept;
    legal = legal;
    others = λ p other. others_frees g.door.caller p g.q old new keys is other;
  }

  pub goes_frees : (old new : List Entry) (keys : List KeyId) → IsPrefix old new → acts g.door.caller new ≡ acts g.door.caller old ++ frees g.q keys → (IsLegal g.door.limit old → IsLegal g.door.limit new) → AreOthers g.key.0 keys → Goes g (at known asked old) (at known asked new)
  goes_frees old new keys kept is legal others = record {
    went = went_frees old new keys kept is legal;
    grew = grows_frees g.door.caller known asked g.q keys old new kept is;
    keeps = keeps_others g.q g.key.0 keys others;
    parts = parts_frees g.q keys;
    begun = λ fits start b. begun_frees g keys start old new is others fits b;
  }

  -- the Call comes last, as its row says
  pub grew_call : (old new : List Entry) (site : Option BodySite) (v : Verdict) (adds : Adds g.door.caller old new (Call g.key g.q site g.args v)) → IsFilled g.args → IsDecided g.t known (old ++ adds.0) (g.door.caller, g.q.0) g.key.0 site (kinds_of g.args) v → IsWhole g.door.caller g.q.0 (old ++ adds.0) → Grew g (at known asked old) (at known asked new)
  grew_call old new site v adds filled row whole =
      with_rules g.t g.door.caller known asked asked old new (grows_adds g.door.caller known asked asked old new (Call g.key g.q site g.args v) adds (λ names p. refl))
      (each_adds (FitsRules g.t known g.door.caller) g.door.caller old new (Call g.key g.q site g.args v) adds (record { row = (row, filled); hold = tt; free = tt; whole = whole; named = tt }))

  pub went_call : (old new : List Entry) (site : Option BodySite) (v : Verdict) → Adds g.door.caller old new (Call g.key g.q site g.args v) → IsLegal g.door.limit new → Went g (at known asked old) (at known asked new)
  went_call old new site v adds legal = went_adds asked old new (Call g.key g.q site g.args v) adds legal (λ p other. refl)
