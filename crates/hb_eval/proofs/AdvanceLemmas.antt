-- How a machine goes on, turn by turn.
use Rattle.std.proofs.Common.{◌≡◌, ℕ, ◌+◌, ◌<◌, ◌≤◌, ◌^◌, inl, inr, Bool, true, false, List, [], ◌∷◌, ◌++◌, length, Option, Some, None, refl, sym, ap, ◌∙◌, subst, arith, length-append, Vec, Global}
use Rattle.std.specs.Prelude.{reverse}
use Rattle.std.specs.List.{AllByRecursion}
use mathlib.Core.List.{IsPrefix}
use Rattle.hb_tree.specs.Table.{Table}
use Rattle.hb_names.specs.Names.{Name}
use Rattle.hb_tables.specs.declared.entry.Entry.{Entry}
use Rattle.hb_tables.specs.declared.entry.Act.{Act}
use Rattle.hb_call.specs.Growth.{Grown}
use Rattle.hb_cache.specs.declared.kept.Kept.{Kept as KeptCheck}
use Rattle.hb_call.specs.OwnCache.{KeepsChecks}
use Rattle.hb_call.specs.OwnLaws.{keeps_itself, keeps_on}
use Rattle.hb_call.specs.GrowthLaws.{grown_itself, grown_on}
use Rattle.hb_eval.specs.declared.state.Hand.{Hand}
use Rattle.hb_eval.specs.declared.state.Hand.TheVariants as hands
use Rattle.hb_eval.specs.declared.cont.Cont.{Cont}
use Rattle.hb_eval.specs.declared.cont.Cont.TheVariants as cont
use Rattle.hb_eval.specs.declared.framed.Framed.{Framed}
use Rattle.hb_eval.specs.declared.state.State.{State}
use Rattle.hb_eval.specs.declared.state.Move.{Move}
use Rattle.hb_eval.specs.declared.machine.Machine.{Machine}
use Rattle.hb_eval.specs.declared.machine.Turn.{Turn}
use Rattle.hb_eval.specs.declared.machine.Turn.TheVariants as turn
use Rattle.hb_call.specs.Held.{stands}
use Rattle.hb_eval.specs.Holding.{Holding, frames_of}
use Rattle.hb_eval.proofs.HoldingLemmas.{holding_end}
use Rattle.hb_eval.specs.State.{tagged}
use Rattle.hb_eval.specs.Machine.{need, frames_in}
use Rattle.hb_eval.specs.Steps.{onto, InEach, Moves, HasCounted, IsFed, IsFine, IsLight, IsPlain, SameCalls, Started, Steady, AreKnown, TakesFuel, Took, weigh_one, weigh_push}
use Rattle.hb_eval.specs.Stacks.{calls_in}
use Rattle.hb_eval.specs.Ends.{Lowers, with_stop}
use Rattle.hb_eval.specs.Turns.{Telling, Reads, Goes, Turned, after, at_beginning, stands_at, with_value}
use Rattle.hb_eval.specs.Machines.{Advances, Begins, Carries, IsFineMachine, IsGoing, IsLast, IsNext, IsOneBlock, IsRest, IsSettledAt, IsTimed, Opens, Turns, answer, of_machine, sum_over, turns_left, weigh}
use Rattle.hb_eval.proofs.StackLemmas.{pushed_first, next_last}
use Rattle.hb_eval.proofs.TurnLemmas.{reads_none, reads_on}
use Rattle.hb_eval.proofs.ApplyLemmas.{begins_reads}
use Rattle.hb_eval.proofs.GoesLemmas.{begun_goes, keeps_moves, plain_goes}
use Rattle.hb_eval.proofs.MachineLemmas.{moves_same, needs_onto, frames_onto, calls_onto, fine_move, falls_by, lowers_moves}

-- a move that was done leaves the machine fine
fine_moved : (t : Table) (taken ended pending : ℕ) (old new : Machine) (ks : List Cont) (m : Move) → IsFineMachine t old → Goes t taken ended pending old.frames.items old.state new.frames.items new.state m
    → AllByRecursion (IsFine t) ks → length old.state.operands.items ≡ taken + sum_over need ks → length old.frames.items ≡ ended + sum_over frames_in ks → old.state.made + (pending + sum_over calls_in ks) ≤ old.state.begun
    → new.hand ≡ m.hand → reverse new.conts.items ≡ onto m.push (onto m.under ks) → IsTimed m.hand new.state → IsFineMachine t new
fine_moved t taken ended pending old new ks m f g all ops frs calls hand conts time = record {
  conts = subst (AllByRecursion (IsFine t)) (sym conts) (fine_move t m ks g.push g.under all);
  step = rw hand g.step;
  operands = let e = ap (sum_over need) conts ∙ needs_onto m ks in let h = g.operands in omega (arith, e, h, ops);
  frames = let e = ap (sum_over frames_in) conts ∙ frames_onto m ks in let h = g.frames in omega (arith, e, h, frs);
  calls = let e = ap (sum_over calls_in) conts ∙ calls_onto m ks in let h = g.calls in omega (arith, e, h, calls);
  decided = g.decided f.decided;
  entered = g.entered f.entered;
  based = g.based f.based;
  known = g.known f.known;
  time = subst (λ b. IsTimed b new.state) (sym hand) time;
}

time_on : (b : Hand) (x y : State) → x.begun + x.fuel < 2 ^ 32 → y.begun ≡ x.begun → y.fuel ≡ x.fuel → IsTimed b y
time_on hands.Stops x y h begun fuel = tt
time_on hands.Gives x y h begun fuel = omega (arith, h, begun, fuel)
time_on hands.Begins x y h begun fuel = omega (arith, h, begun, fuel)

time_fed : (b : Hand) (x y : State) → x.begun + x.fuel < 2 ^ 32 → IsFed b x y → IsTimed b y
time_fed hands.Stops x y h fed = tt
time_fed hands.Gives x y h fed = omega (arith, h, fed)
time_fed hands.Begins x y h fed = omega (arith, h, fed)

-- at least one expression began
pub counted_some : (far : Bool) (x y : State) → HasCounted far x y → x.begun < y.begun
counted_some true x y h = h
counted_some false x y h = omega (arith, h)

-- one did
pub counted_one : (far : Bool) (x y : State) → y.begun ≡ x.begun + 1 → HasCounted far x y
counted_one true x y h = omega (arith, h)
counted_one false x y h = h

pub counted_on : (far : Bool) (x y z : State) → z.begun ≡ y.begun → HasCounted far x y → HasCounted far x z
counted_on true x y z e h = omega (arith, e, h)
counted_on false x y z e h = e ∙ h

-- the answer of a machine behind a move
moved_same : (t : Table) (new : Machine) (ks : List Cont) (m : Move) → new.hand ≡ m.hand → reverse new.conts.items ≡ onto m.push (onto m.under ks)
    → (names : List Name) (read : List (ℕ × Act)) (journal : List Act) → after t m new.frames.items new.state names ks read journal ≡ answer t names new read journal
moved_same t new ks m hand conts names read journal =
    ap (λ l. stands_at t names l new.frames.items m.hand new.state read journal) (sym conts)
    ∙ ap (λ b. stands_at t names (reverse new.conts.items) new.frames.items b new.state read journal) (sym hand)

-- the answer of a machine that is seen so
seen_same : (t : Table) (old : Machine) (ks : List Cont) (h : Hand) → old.hand ≡ h → reverse old.conts.items ≡ ks
    → (names : List Name) (read : List (ℕ × Act)) (journal : List Act) → answer t names old read journal ≡ stands_at t names ks old.frames.items h old.state read journal
seen_same t old ks h hand conts names read journal =
    ap (λ l. stands_at t names l old.frames.items old.hand old.state read journal) conts
    ∙ ap (λ b. stands_at t names ks old.frames.items b old.state read journal) hand

moved_reads : (t : Table) (known : List Name) (c : ℕ) (past now : List Entry) (old new : Machine) (ks : List Cont) (m : Move) (told : Telling)
    → ((names : List Name) (read : List (ℕ × Act)) (journal : List Act) → answer t names old read journal ≡ told names ks read journal)
    → Reads known c past now old.state new.state told (after t m new.frames.items new.state) → new.hand ≡ m.hand → reverse new.conts.items ≡ onto m.push (onto m.under ks)
    → Reads known c past now old.state new.state (of_machine t old) (of_machine t new)
moved_reads t known c past now old new ks m told is r hand conts = record {
  more = r.more;
  grows = r.grows;
  same = λ names p few low read journal.
      is names read (r.more ++ journal)
      ∙ r.same names p few ks read journal
      ∙ moved_same t new ks m hand conts names (read ++ tagged new.state.begun r.more) journal;
  tallies = r.tallies;
}

rest_fine : (t : Table) (m : Machine) (k : Cont) (ks : List Cont) → reverse m.conts.items ≡ k ∷ ks → IsFineMachine t m → AllByRecursion (IsFine t) ks
rest_fine t m k ks top f = (subst (AllByRecursion (IsFine t)) top f.conts).1

rest_calls : (t : Table) (m : Machine) (k : Cont) (ks : List Cont) → reverse m.conts.items ≡ k ∷ ks → IsFineMachine t m → m.state.made + (calls_in k + sum_over calls_in ks) ≤ m.state.begun
rest_calls t m k ks top f = subst (λ l. m.state.made + sum_over calls_in l ≤ m.state.begun) top f.calls

some_weight : (k : Cont) → 1 ≤ weigh_one k
some_weight (cont.Test c b) = omega arith
some_weight _ = omega arith

-- a stop passed what was to be done, and the machine is fine
pub stop_fine : (t : Table) (old new : Machine) (k : Cont) (ks : List Cont) → old.hand ≡ hands.Stops → reverse old.conts.items ≡ k ∷ ks → IsFineMachine t old → Lowers t (need k) (frames_in k) old.frames.items old.state new.frames.items new.state
    → new.hand ≡ old.hand → reverse new.conts.items ≡ ks → IsFineMachine t new
stop_fine t old new k ks stopped top f low hand conts =
    let m : Move = record { under = None; push = None; hand = hands.Stops } in
    fine_moved t (need k) (frames_in k) (calls_in k) old new ks m f (lowers_moves t k old.frames.items old.state new.frames.items new.state low) (rest_fine t old k ks top f) (f.operands ∙ ap (sum_over need) top) (f.frames ∙ ap (sum_over frames_in) top) (rest_calls t old k ks top f) (hand ∙ stopped) conts tt

-- the same, in the words of turns
pub stop_turn : (t : Table) (c : ℕ) (known asked : List Name) (past now : List Entry) (old new : Machine) (k : Cont) (ks : List Cont) → old.hand ≡ hands.Stops → reverse old.conts.items ≡ k ∷ ks → IsFineMachine t old
    → Reads known c past now old.state new.state (with_stop t (k ∷ []) old.frames.items old.state) (with_stop t [] new.frames.items new.state) → Lowers t (need k) (frames_in k) old.frames.items old.state new.frames.items new.state
    → Grown t c known asked asked past now → KeepsChecks t c known known asked asked past now old.state.cache new.state.cache → new.hand ≡ old.hand → reverse new.conts.items ≡ ks
    → Carries t c known known asked asked past now old new
stop_turn t c known asked past now old new k ks stopped top f r low grown own hand conts =
    let m : Move = record { under = None; push = None; hand = hands.Stops } in
    record {
      reads = moved_reads t known c past now old new ks m (with_stop t (k ∷ []) old.frames.items old.state) (seen_same t old (k ∷ ks) hands.Stops stopped top) r (hand ∙ stopped) conts;
      fine = stop_fine t old new k ks stopped top f low hand conts;
      begun = low.steady.begun;
      fuel = low.steady.fuel;
      stops = λ h. hand ∙ h;
      grown = grown;
      own = own;
    }

-- with no value in hand, there is nothing to do with one
pub settled_apart : (hand : Hand) (ks : List Cont) → (hand ≡ hands.Gives → ⊥) → IsSettledAt hand ks
settled_apart hands.Gives ks h = absurd (h refl)
settled_apart hands.Begins ks h = tt
settled_apart hands.Stops ks h = tt

-- without a stop, what is settled is at rest
pub settled_rest : (hand : Hand) (ks : List Cont) → (hand ≡ hands.Stops → ⊥) → IsSettledAt hand ks → IsRest hand ks
settled_rest hands.Gives ks no_stop h = h
settled_rest hands.Begins ks no_stop h = tt
settled_rest hands.Stops ks no_stop h = absurd (no_stop refl)

-- what is at rest, and begins nothing, has ended
pub rest_last : (hand : Hand) (ks : List Cont) → (hand ≡ hands.Begins → ⊥) → IsRest hand ks → IsLast hand ks
rest_last hands.Begins ks no_more h = absurd (no_more refl)
rest_last hands.Gives ks no_more h = h
rest_last hands.Stops ks no_more h = h

-- a run that goes on and begins nothing is a new one, whose block has its value
pub none_begun : (was now : Hand) (n : ℕ) (ks : List Cont) → IsNext was n ks → (was ≡ hands.Begins → now ≡ hands.Begins) → (now ≡ hands.Begins → ⊥) → was ≡ hands.Gives
none_begun hands.Begins now n ks going stays no_more = absurd (no_more (stays refl))
none_begun hands.Gives now n ks going stays no_more = refl
none_begun hands.Stops now n ks going stays no_more = absurd going

pub carries_held : (t : Table) (c : ℕ) (known asked : List Name) (log : List Entry) (old : Machine) (v : Vec Cont Global) → v.items ≡ old.conts.items → IsFineMachine t old → Carries t c known known asked asked log log old (record old { conts = v })
carries_held t c known asked log old v e f = record {
  reads = reads_none known c log log old.state old.state (of_machine t old) (of_machine t (record old { conts = v })) refl (record { made = refl; decided = refl; own = refl; fresh = refl })
      (λ names ks read journal. ap (λ l. stands_at t names (reverse l) old.frames.items old.hand old.state read journal) (sym e));
  fine = record {
    conts = subst (λ l. AllByRecursion (IsFine t) (reverse l)) (sym e) f.conts;
    step = f.step;
    operands = subst (λ l. length old.state.operands.items ≡ sum_over need (reverse l)) (sym e) f.operands;
    frames = subst (λ l. length old.frames.items ≡ sum_over frames_in (reverse l)) (sym e) f.frames;
    calls = subst (λ l. old.state.made + sum_over calls_in (reverse l) ≤ old.state.begun) (sym e) f.calls;
    decided = f.decided;
    entered = f.entered;
    based = f.based;
    known = f.known;
    time = f.time;
  };
  begun = refl;
  fuel = refl;
  stops = λ h. h;
  grown = grown_itself t c known asked log;
  own = keeps_itself t c known asked log old.state.cache;
}

pub carries_on : (t : Table) (c : ℕ) (names known longer was mid asked : List Name) (past half now : List Entry) (old m new : Machine) → IsPrefix known longer → Carries t c names known was mid past half old m → Carries t c known longer mid asked half now m new → Carries t c names longer was asked past now old new
carries_on t c names known longer was mid asked past half now old m new p a b = record {
  reads = reads_on known longer c past half now old.state m.state new.state (of_machine t old) (of_machine t m) (of_machine t new) p (sym b.begun) a.reads b.reads;
  fine = b.fine;
  begun = b.begun ∙ a.begun;
  fuel = b.fuel ∙ a.fuel;
  stops = λ h. b.stops (a.stops h);
  grown = grown_on t c known longer was mid asked past half now a.grown b.grown p;
  own = keeps_on t c names known longer was mid asked past half now old.state.cache m.state.cache new.state.cache b.grown.kept a.own b.own;
}

-- something was done with the value in hand
pub value_turn : (t : Table) (c : ℕ) (names known was asked : List Name) (past now : List Entry) (old new : Machine) (k : Cont) (rest : List Cont) → old.hand ≡ hands.Gives → old.conts.items ≡ rest ++ k ∷ [] → IsFineMachine t old
    → Turned t known c past now (need k) (frames_in k) (calls_in k) (weigh_one k) old.frames.items old.state new.frames.items new.state (with_value t k old.frames.items old.state) rest new.conts.items new.hand
    → (new.state.begun ≡ old.state.begun) × (new.state.fuel ≡ old.state.fuel) → Grown t c known was asked past now → KeepsChecks t c names known was asked past now old.state.cache new.state.cache
    → Carries t c names known was asked past now old new
value_turn t c names known was asked past now old new k rest given all f turned timed grown own =
    let ks = reverse rest in
    let top : reverse old.conts.items ≡ k ∷ ks = ap reverse all ∙ pushed_first rest k in
    let m = turned.move in
    record {
      reads = moved_reads t known c past now old new ks m (with_value t k old.frames.items old.state) (seen_same t old (k ∷ ks) hands.Gives given top) turned.reads turned.took.hand turned.took.conts;
      fine = fine_moved t (need k) (frames_in k) (calls_in k) old new ks m f turned.goes (rest_fine t old k ks top f) (f.operands ∙ ap (sum_over need) top) (f.frames ∙ ap (sum_over frames_in) top) (rest_calls t old k ks top f)
          turned.took.hand turned.took.conts (time_on m.hand old.state new.state (subst (λ b. IsTimed b old.state) given f.time) timed.0 timed.1);
      begun = timed.0;
      fuel = timed.1;
      stops = λ h. absurd (cc (h, given));
      grown = grown;
      own = own;
    }

-- fewer turns are left behind it
pub value_falls : (t : Table) (c : ℕ) (known : List Name) (past now : List Entry) (old new : Machine) (k : Cont) (rest : List Cont) → old.hand ≡ hands.Gives → old.conts.items ≡ rest ++ k ∷ []
    → Turned t known c past now (need k) (frames_in k) (calls_in k) (weigh_one k) old.frames.items old.state new.frames.items new.state (with_value t k old.frames.items old.state) rest new.conts.items new.hand
    → turns_left new < turns_left old
value_falls t c known past now old new k rest given all turned =
    let top : reverse old.conts.items ≡ k ∷ reverse rest = ap reverse all ∙ pushed_first rest k in
    let m = turned.move in
    let less = falls_by m.hand k m.push m.under (reverse rest) turned.goes.light turned.light in
    let left : turns_left new ≡ weigh m.hand (onto m.push (onto m.under (reverse rest))) = ap (λ (h : Hand). weigh h (reverse new.conts.items)) turned.took.hand ∙ ap (weigh m.hand) turned.took.conts in
    let right : turns_left old ≡ 1 + (weigh_one k + sum_over weigh_one (reverse rest)) = ap (λ (h : Hand). weigh h (reverse old.conts.items)) given ∙ ap (weigh hands.Gives) top in
    omega (arith, less, left, right)

-- expressions began
pub begin_turn : (far : Bool) (t : Table) (c : ℕ) (known asked : List Name) (log : List Entry) (old new : Machine) → old.hand ≡ hands.Begins → IsFineMachine t old
    → Started t old.state new.state old.conts.items new.conts.items new.hand → new.frames.items ≡ old.frames.items
    → HasCounted far old.state new.state → IsFed new.hand old.state new.state → SameCalls old.state new.state → (AreKnown t old.state → AreKnown t new.state) → new.state.cache ≡ old.state.cache
    → Begins far t c known known asked asked log log old new
begin_turn far t c known asked log old new going f s frames begun fed calls known_stays cache =
    let ks = reverse old.conts.items in
    let m = s.move in
    let at : List Framed → Type 0 = λ fs. Reads known c log log old.state new.state (at_beginning t old.frames.items old.state) (after t m fs new.state) in
    let goes : Goes t 0 0 0 old.frames.items old.state new.frames.items new.state m =
    subst (λ fs. Goes t 0 0 0 old.frames.items old.state fs new.state m) (sym frames) (begun_goes t old.frames.items old.state new.state m (keeps_moves t None hands.Begins old.state new.state m s.moves) s.under s.push (counted_some far old.state new.state begun) calls known_stays) in
    record {
      reads = moved_reads t known c log log old new ks m (at_beginning t old.frames.items old.state) (seen_same t old ks hands.Begins going refl) (subst at (sym frames) (begins_reads known t c log old.frames.items old.state new.state m s.moves calls)) s.took.hand s.took.conts;
      fine = fine_moved t 0 0 0 old new ks m f goes f.conts (let e = f.operands in omega (arith, e)) (let e = f.frames in omega (arith, e)) (let e = f.calls in omega (arith, e)) s.took.hand s.took.conts
          (time_fed m.hand old.state new.state (subst (λ b. IsTimed b old.state) going f.time) (subst (λ b. IsFed b old.state new.state) s.took.hand fed));
      begun = begun;
      fed = fed;
      grown = grown_itself t c known asked log;
      own = subst (KeepsChecks t c known known asked asked log log old.state.cache) (sym cache) (keeps_itself t c known asked log old.state.cache);
    }

pub takes_fed : (b : Hand) (x y : State) → TakesFuel x y → IsFed b x y
takes_fed hands.Stops x y h = inl h
takes_fed hands.Gives x y h = h
takes_fed hands.Begins x y h = h

fed_on : (a b : Hand) (x y z : State) → (a ≡ hands.Stops → b ≡ hands.Stops) → z.begun ≡ y.begun → z.fuel ≡ y.fuel → IsFed a x y → IsFed b x z
fed_on hands.Stops hands.Stops x y z h begun fuel (inl taken) = inl (omega (arith, begun, fuel, taken))
fed_on hands.Stops hands.Stops x y z h begun fuel (inr none) = inr (none.0, fuel ∙ none.1)
fed_on hands.Stops hands.Gives x y z h begun fuel fed = let w = h refl in absurd (cc w)
fed_on hands.Stops hands.Begins x y z h begun fuel fed = let w = h refl in absurd (cc w)
fed_on hands.Gives b x y z h begun fuel fed = takes_fed b x z (omega (arith, begun, fuel, fed))
fed_on hands.Begins b x y z h begun fuel fed = takes_fed b x z (omega (arith, begun, fuel, fed))

pub begins_on : (far : Bool) (t : Table) (c : ℕ) (names known longer was mid asked : List Name) (past half now : List Entry) (old m new : Machine) → IsPrefix known longer → Begins far t c names known was mid past half old m → Carries t c known longer mid asked half now m new → Begins far t c names longer was asked past now old new
begins_on far t c names known longer was mid asked past half now old m new p a b = record {
  reads = reads_on known longer c past half now old.state m.state new.state (of_machine t old) (of_machine t m) (of_machine t new) p (sym b.begun) a.reads b.reads;
  fine = b.fine;
  begun = counted_on far old.state m.state new.state b.begun a.begun;
  fed = fed_on m.hand new.hand old.state m.state new.state b.stops b.begun b.fuel a.fed;
  grown = grown_on t c known longer was mid asked past half now a.grown b.grown p;
  own = keeps_on t c names known longer was mid asked past half now old.state.cache m.state.cache new.state.cache b.grown.kept a.own b.own;
}

next_first : (h : Hand) (n : ℕ) (ks : List Cont) → IsNext h n ks → h ≡ hands.Gives → (n ≡ 0) × IsOneBlock ks
next_first hands.Gives n ks h e = h
next_first hands.Begins n ks h e = absurd (cc e)
next_first hands.Stops n ks h e = absurd h

one_block : (ks rest : List Cont) (k : Cont) → IsOneBlock ks → ks ≡ rest ++ k ∷ [] → rest ≡ []
one_block [] rest k one e = absurd one
one_block (x ∷ y ∷ ks) rest k (one) e = absurd (no_two x y ks one)
  where
    no_two : (x y : Cont) (ks : List Cont) → IsOneBlock (x ∷ y ∷ ks) → ⊥
    no_two (cont.Items block at) y ks one = one
    no_two _ y ks one = one
one_block (x ∷ []) [] k one e = refl
one_block (x ∷ []) (y ∷ rest) k one e = let n = ap length e in let a = length-append rest (k ∷ []) in absurd (omega (arith, n, a))

none_reversed : (xs : List Cont) → reverse xs ≡ [] → xs ≡ []
none_reversed [] e = refl
none_reversed (x ∷ xs) e = let n = ap length (sym (next_last x xs) ∙ e) in let a = length-append (reverse xs) (x ∷ []) in absurd (omega (arith, n, a))

no_under : (k : Option Cont) → weigh_push k < 1 → onto k [] ≡ []
no_under None h = refl
no_under (Some k) h = let w = some_weight k in absurd (omega (arith, h, w))

rest_moved : (hand : Hand) (push under : Option Cont) (ks : List Cont) → IsLight hand push → weigh_push under < 1 → reverse ks ≡ onto push (onto under []) → IsRest hand ks
rest_moved hands.Begins push under ks light less e = tt
rest_moved hands.Gives push under ks light less e = none_reversed ks (e ∙ ap (λ p. onto p (onto under [])) light ∙ no_under under less)
rest_moved hands.Stops push under ks light less e = none_reversed ks (e ∙ ap (λ p. onto p (onto under [])) light ∙ no_under under less)

-- the block of a new machine begins
pub opens_block : (t : Table) (old new : Machine) (rest : List Cont) (k : Cont) (m : Move) → IsFineMachine t old → IsGoing old → old.hand ≡ hands.Gives → old.conts.items ≡ rest ++ k ∷ []
    → InEach t (Moves (Some k) hands.Gives old.state new.state m) → IsPlain m.under × IsPlain m.push → Steady old.state new.state → (AreKnown t old.state → AreKnown t new.state) → weigh_push m.under < 1 → (frames_in k ≡ 0) × (calls_in k ≡ 0)
    → new.frames.items ≡ old.frames.items → Took m rest new.conts.items new.hand
    → Opens t old new
opens_block t old new rest k m f going given all moves plain steady known less quiet frames took =
    let first = next_first old.hand old.state.begun old.conts.items going given in
    let none : rest ≡ [] = one_block old.conts.items rest k first.1 all in
    let ks = reverse rest in
    let top : reverse old.conts.items ≡ k ∷ ks = ap reverse all ∙ pushed_first rest k in
    let goes : Goes t (need k) 0 0 old.frames.items old.state old.frames.items new.state m = plain_goes t (Some k) old.frames.items old.state new.state m (keeps_moves t (Some k) hands.Gives old.state new.state m moves) plain.0 plain.1 steady.begun steady.calls known in
    let g : Goes t (need k) (frames_in k) (calls_in k) old.frames.items old.state new.frames.items new.state m =
    subst (λ n. Goes t (need k) n (calls_in k) old.frames.items old.state new.frames.items new.state m) (sym quiet.0) (subst (λ n. Goes t (need k) 0 n old.frames.items old.state new.frames.items new.state m) (sym quiet.1)
    (subst (λ l. Goes t (need k) 0 0 old.frames.items old.state l new.state m) (sym frames) goes)) in
    record {
      same = λ names read journal.
          seen_same t old (k ∷ ks) hands.Gives given top names read journal
          ∙ moves_same t (Some k) hands.Gives old.frames.items old.state new.state m moves names ks read journal
          ∙ ap (λ l. after t m l new.state names ks read journal) (sym frames)
          ∙ moved_same t new ks m took.hand took.conts names read journal;
      fine = fine_moved t (need k) (frames_in k) (calls_in k) old new ks m f g (rest_fine t old k ks top f) (f.operands ∙ ap (sum_over need) top) (f.frames ∙ ap (sum_over frames_in) top) (rest_calls t old k ks top f)
          took.hand took.conts (time_on m.hand old.state new.state (subst (λ b. IsTimed b old.state) given f.time) steady.begun steady.fuel);
      steady = steady;
      rest = rw took.hand (rest_moved m.hand m.push m.under new.conts.items g.light less (took.conts ∙ ap (λ l. onto m.push (onto m.under (reverse l))) none));
      first = λ h. absurd (cc (h, given));
    }

-- the block has its value at once
pub opened_advances : (t : Table) (c : ℕ) (known asked : List Name) (log : List Entry) (old new : Machine) → Opens t old new → Advances t c known known asked asked log log old new
opened_advances t c known asked log old new o = record {
  reads = reads_none known c log log old.state new.state (of_machine t old) (of_machine t new) refl o.steady.calls (λ names ks read journal. o.same names read journal);
  fine = o.fine;
  grown = grown_itself t c known asked log;
  own = subst (KeepsChecks t c known known asked asked log log old.state.cache) (sym o.steady.cache) (keeps_itself t c known asked log old.state.cache);
}

pub begun_advances : (far : Bool) (t : Table) (c : ℕ) (names known was asked : List Name) (past now : List Entry) (old m new : Machine) → Opens t old m → Begins far t c names known was asked past now m new → Advances t c names known was asked past now old new
begun_advances far t c names known was asked past now old m new o b = record {
  reads = record {
    more = b.reads.more;
    grows = b.reads.grows;
    same = λ names p few ks read journal. o.same names read (b.reads.more ++ journal) ∙ b.reads.same names p few ks read journal;
    tallies = record {
      decided = let e = b.reads.tallies.decided in let s = o.steady.calls.decided in omega (arith, e, s);
      own = let e = b.reads.tallies.own in let s = o.steady.calls.own in omega (arith, e, s);
      fresh = let e = b.reads.tallies.fresh in let s = o.steady.calls.fresh in omega (arith, e, s);
      shared = b.reads.tallies.shared;
    };
  };
  fine = b.fine;
  grown = b.grown;
  own = subst (λ (cache : List (Option KeptCheck)). KeepsChecks t c names known was asked past now cache new.state.cache) o.steady.cache b.own;
}

no_frames : (fs : List Framed) → length fs ≡ 0 → fs ≡ []
no_frames [] e = refl
no_frames (f ∷ fs) e = absurd (omega (arith, e))

pub last_none : (hand : Hand) (ks : List Cont) → IsLast hand ks → ks ≡ []
last_none hands.Begins ks h = absurd h
last_none hands.Gives ks h = h
last_none hands.Stops ks h = h

-- a run that has ended has no frame, and holds nothing
pub ended_nothing : (t : Table) (c next : ℕ) (front : List Entry) (old m : Machine) (way : Turn) → IsFineMachine t m → Holding c next (frames_of m.frames.items) front → Turns way old m → way ≡ turn.Ended → (q : ℕ) → stands c q front ≡ []
ended_nothing t c next front old m turn.More f h turns is q = absurd (cc is)
ended_nothing t c next front old m turn.Ended f h turns is q =
    let none = no_frames m.frames.items (f.frames ∙ ap (λ l. sum_over frames_in (reverse l)) (last_none m.hand m.conts.items turns)) in
    holding_end c next front (subst (λ l. Holding c next (frames_of l) front) none h) q
