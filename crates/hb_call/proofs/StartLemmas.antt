-- The first Hold of a call.
use Rattle.std.proofs.Common.{◌≡◌, ℕ, ◌<◌, ◌≤◌, inl, inr, false, ⊎_elim, List, [], ◌∷◌, ◌++◌, Some, map, length, refl, sym, ap, ◌∙◌, subst, arith}
use Rattle.std.specs.Prelude.{Option}
use Rattle.std.proofs.lemmas.List.{append-nil}
use mathlib.Core.List.{IsPrefix}
use Rattle.hb_types.specs.declared.ids.KeyId.{KeyId}
use Rattle.hb_types.specs.declared.ids.CallNo.{CallNo}
use Rattle.hb_types.specs.declared.ids.TypeSite.{TypeSite}
use Rattle.hb_tree.specs.Table.{Table}
use Rattle.hb_names.specs.Names.{Differ, Name, place, with_name}
use Rattle.hb_names.specs.declared.names.TheConstants.{NAMES_MAX}
use Rattle.hb_tables.specs.declared.entry.TheConstants.{HOLDS_MAX}
use Rattle.hb_tables.specs.declared.desk.Held.{Held}
use Rattle.hb_tables.specs.declared.entry.Entry.{Entry}
use Rattle.hb_tables.specs.declared.entry.Act.TheVariants.{Hold}
use Rattle.hb_tables.specs.Answers.{Fixed}
use Rattle.hb_tables.specs.History.{spot, times, of_caller, IsLegal, Adds, Learns}
use Rattle.hb_tables.specs.Standing.{Stand, count_of, standing}
use Rattle.hb_tables.proofs.AddingLemmas.{held_after}
use Rattle.hb_tables.proofs.StandingLemmas.{held_stands}
use Rattle.hb_call.specs.Held.{HasRoom, stands}
use Rattle.hb_call.specs.Calling.{Given, Goes, HasLooked, IsAskedFor, IsCalling}
use Rattle.hb_call.specs.Alike.{goes_on}
use Rattle.hb_call.specs.Growth.{EachNew}
use Rattle.hb_call.specs.GrowthLaws.{each_on}
use Rattle.hb_call.specs.Rules.{FitsRules, runs}
use Rattle.hb_tables.specs.Answers.{IsLookAt}
use Rattle.hb_tables.specs.declared.desk.Look.{Look}
use Rattle.hb_tables.proofs.FrontLemmas.{acts_none}
use Rattle.hb_tables.proofs.HistoryLemmas.{redefs_grow}
use Rattle.hb_call.proofs.GrowthLemmas.{each_adds, each_learns, whole_hold}
use Rattle.hb_tables.proofs.DeskLemmas.{learns_acts, learns_prefix}
use Rattle.hb_call.proofs.StepLemmas.{at, goes_key, goes_learns}
use Rattle.hb_call.proofs.RoomLemmas.{room_hold}
use Rattle.hb_call.proofs.StayLemmas.{hold_finds, held_once, keeps_none}
use Rattle.hb_call.proofs.CallingLemmas.{hold_keys, held_then}

pub none_held : (c q k : ℕ) (log : List Entry) → stands c q log ≡ [] → times (c, q) (spot k log).calls ≡ 0
none_held c q k log none = held_stands c q k log ∙ ap (count_of k) none

pub first_room : (c q k : ℕ) (log : List Entry) → stands c q log ≡ [] → HasRoom log c q → length (of_caller c (spot k log).calls) < HOLDS_MAX
first_room c q k log none room = let r = room k in let z = none_held c q k log none in omega (arith, r, z)

pub started : (t : Table) (door : Fixed) (q : CallNo) (names asked : List Name) (old new : List Entry) (key : KeyId) (own : Held) → Adds door.caller old new (Hold key q own.ty own.changes) → IsLegal door.limit new → stands door.caller q.0 old ≡ [] → HasRoom old door.caller q.0 → key.0 < NAMES_MAX → IsAskedFor names asked key.0 → IsCalling t door q.0 names asked new key own (key ∷ []) []
started t door q names asked old new key own adds legal none room low asks =
    let c = door.caller in let n = own.changes in
    record {
      legal = legal;
      room = room_hold c q key own.ty n old new adds room;
      holds = record { keys = hold_keys c q key own.ty n old new [] adds (ap (map (λ (h : Stand). h.key)) none); once = held_once door.limit c q.0 new legal; below = (low, tt) };
      first = ([], refl);
      own_is = let finds = hold_finds door.limit c q key own.ty n old new adds legal in (held_after c old new q key own.ty n adds (none_held c q.0 key.0 old none), finds.0, finds.1);
      answered = tt;
      only = λ k one. ⊎_elim (λ e. inl e) (λ o. absurd (let z = none_held c q.0 k old none in omega (arith, o, z))) (held_then c q key own.ty n old new k adds one);
      asked_for = λ k one. ⊎_elim (λ e. subst (IsAskedFor names asked) (sym e) asks) (λ o. absurd (let z = none_held c q.0 k old none in omega (arith, o, z))) (held_then c q key own.ty n old new k adds one);
      whole = whole_hold c q key own.ty n old new adds;
    }

-- the first Hold fits the rules
pub first_fits : (t : Table) (known : List Name) (c : ℕ) (q : CallNo) (old mid first : List Entry) (key : KeyId) (ty : Option TypeSite) (n : ℕ) → Adds c old mid (Hold key q ty n) → stands c q.0 old ≡ [] → key.0 < length known → Learns c mid first → EachNew (FitsRules t known c) c old first
first_fits t known c q old mid first key ty n adds none named learns =
    let F = FitsRules t known c in
    each_on F c old mid first (learns_prefix c mid first learns)
    (each_adds F c old mid (Hold key q ty n) adds (record { row = tt; hold = inl (ap (standing q.0) (learns_acts c old (old ++ adds.0) (adds.0, refl, adds.2)) ∙ none); free = tt; whole = inl (ap (standing q.0) (learns_acts c old (old ++ adds.0) (adds.0, refl, adds.2)) ∙ none); named = named }))
    (each_learns F c mid first learns)

-- the look behind the first Hold
pub looked_first : (c : ℕ) (q : CallNo) (old mid log : List Entry) (key : KeyId) (ty : Option TypeSite) (n : ℕ) (seen : Look) → Adds c old mid (Hold key q ty n) → stands c q.0 old ≡ [] → Learns c mid log → IsLookAt key.0 seen log → HasLooked c q key seen log
looked_first c q old mid log key ty n seen adds none learns fact = record {
  start = mid;
  began = record {
    before = old ++ adds.0;
    ty = ty;
    changes = n;
    is = adds.1;
    none = ap (standing q.0) (learns_acts c old (old ++ adds.0) (adds.0, refl, adds.2)) ∙ none;
    since = learns.0;
    goes = sym learns.1;
    keeps = keeps_none c q.0 key.0 learns.0 learns.2;
  };
  at = log;
  from = (learns.0, sym learns.1);
  to = ([], append-nil log);
  is = fact;
  few = let z = ap (runs q.0 false) (acts_none c learns.0 learns.2) in let grow = redefs_grow key.0 mid log (learns.0, sym learns.1) in let n = fact.1 in omega (arith, z, grow, n);
}

-- the method's key is asked for and held, and then its definition is looked at
pub begins : (g : Given) (known asked longer more : List Name) (old mid first : List Entry) (name : Name) (own : Held) → IsPrefix known longer → length longer ≤ NAMES_MAX → Differ longer → place longer name ≡ Some g.key.0 → more ≡ with_name asked name
    → Adds g.door.caller old mid (Hold g.key g.q own.ty own.changes) → IsLegal g.door.limit mid → stands g.door.caller g.q.0 old ≡ [] → Learns g.door.caller mid first → IsLegal g.door.limit first → Goes g (at known asked old) (at longer more first)
begins g known asked longer more old mid first name own named few differ e is adds legal none learns later =
    goes_on g (at known asked old) (at longer more mid) (at longer more first)
    (goes_key g known asked longer more old mid name g.key own named few differ e is (inr adds) (λ one. absurd (let z = none_held g.door.caller g.q.0 g.key.0 old none in omega (arith, one, z))) legal)
    (goes_learns g longer more mid first learns later)
