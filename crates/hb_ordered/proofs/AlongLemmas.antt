-- Two runs go along the same way until they read different answers to one question.
use Rattle.std.proofs.Common.{◌≡◌, ◌⊎◌, inl, inr, ℕ, zero, suc, ◌+◌, ◌-◌, ◌<◌, ◌≤◌, Bool, true, false, List, [], ◌∷◌, ◌++◌, length, map, Option}
use Rattle.std.proofs.Common.{Some, None, refl, sym, ap, ◌∙◌, subst, arith, append_assoc, nat_eq, nat_le}
use Rattle.std.specs.Prelude.{Result, Ok, Err, if◌then◌else◌, ◌&&◌}
use Rattle.std.specs.List.{AllByRecursion}
use Rattle.std.proofs.lemmas.Bool.{eqb-true}
use Rattle.std.proofs.lemmas.List.{append-nil, map-append}
use Rattle.std.proofs.lemmas.Option.{none-some, same_Some}
use mathlib.Core.List.{IsPrefix}
use Rattle.hb_types.specs.declared.ids.ClassId.{ClassId}
use Rattle.hb_types.specs.declared.types.Ty.{Ty}
use Rattle.hb_tree.specs.declared.parts.Body.{Body}
use Rattle.hb_tree.specs.Table.{Table}
use Rattle.hb_tree.specs.TreeAt.{tree_at}
use Rattle.hb_tree.specs.Nodes.{params_of}
use Rattle.hb_tree.specs.Canon.{bytes_at}
use Rattle.hb_tree.specs.Tree.{Tree, TNil, TTrue, TFalse, TSelf, TInt, TText, TVar, TNew, TAssign, TPrint, TToStr, TNot, TBinary, TIf, TWhile, TCall, TDef, TDefComputed}
use Rattle.hb_tree.specs.Tree.{TDeclare, TDeclareComputed, TBlock, Forest, NoTree, Trees}
use Rattle.hb_names.specs.declared.names.TheConstants.{NAMES_MAX}
use Rattle.hb_names.specs.Names.{Differ, IsFull, Name, place}
use Rattle.hb_tables.specs.declared.entry.Act.{Act}
use Rattle.hb_tables.specs.declared.entry.Act.TheVariants.{Hold, Free, Retype, Busy, WornType, Define, WornDef, Call}
use Rattle.hb_tables.specs.declared.entry.Verdict.{Verdict}
use Rattle.hb_tables.specs.declared.entry.Verdict.TheVariants as verdict
use Rattle.hb_tables.specs.Standing.{Stand}
use Rattle.hb_tables.specs.Rows.{body_at}
use Rattle.hb_call.specs.Reading.{Read, Called, FullAt, Lost as NoCall, call_of, decision, takes_at}
use Rattle.hb_eval.specs.declared.printed.TheConstants.{OUTPUT_MAX}
use Rattle.hb_eval.specs.declared.value.Value.{Value}
use Rattle.hb_eval.specs.declared.value.Value.TheVariants as value
use Rattle.hb_eval.specs.declared.stop.Stop.{Stop}
use Rattle.hb_eval.specs.declared.stop.Stop.TheVariants as stop
use Rattle.hb_eval.specs.Values.{kind_of, is_false, object}
use Rattle.hb_eval.specs.Operators.{operate}
use Rattle.hb_eval.specs.Printing.{shown, print_line}
use Rattle.hb_eval.specs.State.{Bindings, St, Answer, Lost, Done, Halt, then_do, gives, begin, bind, value_at, read_act, meant, next_act, reads, tagged}
use Rattle.hb_eval.specs.Methods.{is_name, named, keyed, with_key, define_meaning, declare_meaning, define, declare}
use Rattle.hb_eval.specs.Meaning.{Calls, variable, self_value, printed, turns, loop, ev, ev_items, ev_arguments}
use Rattle.hb_eval.specs.Calls.{acts_before, bindings, call_in, called, decided, leave, numbered, read_frees, read_to, receiver, received, run_body}
use Rattle.hb_eval.specs.declared.stop.Outcome.{Outcome}
use Rattle.hb_eval.specs.declared.stop.Outcome.TheVariants as outcome
use Rattle.hb_eval.specs.Runs.{Run, ended, run_of, script_run, start}
use Rattle.hb_eval.proofs.EndLemmas.{before_rest}
use Rattle.hb_eval.proofs.TurnLemmas.{tagged_append}
use Rattle.hb_ordered.specs.Asking.{Question, Defines, Declares, Starts, Ends, Answers, AsksOne, DefineOne, DeclareOne, StartOne, GoOne, EndOne}
use Rattle.hb_ordered.specs.Parting.{AreFrees, FirstLacks, GoesPast, GoOn, IsBelow, IsReadFor, Neither, Parted, Parting, SecondLacks, StopsFull, read_with}
use Rattle.hb_ordered.specs.Sharing.{AreShared, HasKey, IsOwnFree, IsShared}
use Rattle.hb_ordered.proofs.AnswerLemmas.{declares_key, defines_key, moves}
use Rattle.hb_ordered.proofs.MeaningLemmas.{declare_answers, declare_quiet, define_answers, define_quiet}
use Rattle.hb_ordered.proofs.StopLemmas.{EndsFull, ends_leave, ends_then}
use Rattle.hb_ordered.proofs.LaterLemmas.{Later, Keeps, KeepCalls, later_then, later_if, later_gives, later_printed, later_define, later_declare, later_named, later_decided}
use Rattle.hb_ordered.proofs.LaterLemmas.{later_body, later_ev, later_items, later_args, later_calls, later_leave, later_turns}
use Rattle.hb_ordered.proofs.NamesLemmas.{shared_at}
use Rattle.hb_ordered.proofs.PartLemmas.{all_both, below_more}
use Rattle.hb_ordered.proofs.PartLemmas.{Behind, First, FullRead, Head, Leaves, start_head, TwoFrees, NoFirst, NoSecond, Alike, PartAt, two_frees}
use Rattle.hb_ordered.proofs.PartLemmas.{TwoReads, NoCallFirst, NoCallSecond, BothCalled, BothFull, PartIn, Asks, two_calls}

-- ── what was read ──

pub untagged : (n : ℕ) (xs : List Act) → map (λ e. e.1) (tagged n xs) ≡ xs
untagged n [] = refl
untagged n (x ∷ xs) = ap (λ l. x ∷ l) (untagged n xs)

-- an act behind common ones was read
read_on : (s : St) (pre l m x rest : List Act) (a : Act) → l ≡ a ∷ m → m ≡ x ++ rest → IsPrefix (s.read ++ tagged s.begun (pre ++ a ∷ [])) (s.read ++ tagged s.begun (acts_before rest (pre ++ l)))
read_on s pre l m x rest a e f =
    let all : pre ++ l ≡ ((pre ++ a ∷ []) ++ x) ++ rest = ap (λ w. pre ++ w) (e ∙ ap (λ w. a ∷ w) f) ∙ sym (append_assoc pre (a ∷ []) (x ++ rest)) ∙ sym (append_assoc (pre ++ a ∷ []) x rest) in
    let used : acts_before rest (pre ++ l) ≡ (pre ++ a ∷ []) ++ x = ap (acts_before rest) all ∙ before_rest ((pre ++ a ∷ []) ++ x) rest in (
      tagged s.begun x,
      append_assoc s.read (tagged s.begun (pre ++ a ∷ [])) (tagged s.begun x) ∙ ap (λ w. s.read ++ w)
          (sym (tagged_append s.begun (pre ++ a ∷ []) x) ∙ ap (tagged s.begun) (sym used)),
    )

-- the state with these acts left
abbrev at : St → List Act → St
at s l = record s { journal = l }

-- a name that is wanted: a full list lacks it, and the other one has it and reads an act
pub record Wants (names others : List Name) (second : List Act) : Type 0 where
  pub begun : ℕ
  pub read : List (ℕ × Act)
  pub name : Name
  pub full : IsFull names name
  pub key : ℕ
  pub has : place others name ≡ Some key
  pub act : Act
  pub behind : List Act
  pub is : second ≡ act ∷ behind

-- What follows a key reads an act by it, or gives no answer.
record Keyed (f : St → Answer) (k : ℕ) : Type 0 where
  pub none : (s : St) → f (at s []) ≡ Lost
  pub other : (s : St) (c : Act) (l : List Act) → HasKey k c ⊎ (f (at s (c ∷ l)) ≡ Lost)
  pub reads : (s : St) (c : Act) (l : List Act) → Later (s.read ++ (s.begun, c) ∷ []) (f (at s (c ∷ l)))

module _ (t : Table) (names others : List Name) (done first second : List Act) where
  -- What was read and these acts are the common ones, and the next call has at least this number, which is above those of the calls that were read.
  abbrev pub Together : (low : ℕ) → St → List Act → Type 0
  Together n s pre = (map (λ e. e.1) s.read ++ pre ≡ done) × (n ≤ s.next) × AllByRecursion (IsBelow s.next) (map (λ e. e.1) s.read)

  -- One of the answers fails, or the runs have parted, or both are the same but for the acts that are left.
  pub data Along (n : ℕ) : Answer → Answer → Type 0 where
    FailsFirst : (b : Answer) → Along n Lost b
    FailsSecond : (a : Answer) → Along n a Lost
    Apart : (x : Parting t names others done first second) (a b : Answer) → Later (read_with x x.a) a → Later (read_with x x.b) b
        → (IsOwnFree x.question x.a → EndsFull x.state.begun (x.state.read ++ tagged x.state.begun x.since) first a)
        → (IsOwnFree x.other x.b → EndsFull x.state.begun (x.state.read ++ tagged x.state.begun x.since) second b) → Along n a b
    LacksFirst : (x : Wants names others second) (a b : Answer) → map (λ e. e.1) x.read ≡ done → Later (x.read ++ (x.begun, x.act) ∷ []) b → EndsFull x.begun x.read first a → Along n a b
    LacksSecond : (x : Wants others names first) (a b : Answer) → map (λ e. e.1) x.read ≡ done → Later (x.read ++ (x.begun, x.act) ∷ []) a → EndsFull x.begun x.read second b → Along n a b
    Both : (v : Value) (s : St) (pre : List Act) → Together n s pre → Along n (Done v (at s (pre ++ first))) (Done v (at s (pre ++ second)))
    Halts : (e : Stop) (id : ℕ) (s : St) (pre : List Act) → Together n s pre → Along n (Halt e id (at s (pre ++ first))) (Halt e id (at s (pre ++ second)))

  -- from one state, with common acts and then others, these go along
  abbrev pub Walks : (f g : St → Answer) → Type 0
  Walks f g = (n : ℕ) (s : St) (pre : List Act) → Together n s pre → Along n (f (at s (pre ++ first))) (g (at s (pre ++ second)))

  -- whatever was read stays read
  abbrev pub AllKeep : (St → Answer) → Type 0
  AllKeep f = (rd : List (ℕ × Act)) → Keeps rd f

  along_then : (n : ℕ) (a b : Answer) (f g : Value → St → Answer) → Along n a b → ((v : Value) → Walks (f v) (g v)) → ((v : Value) → AllKeep (f v)) → ((v : Value) → AllKeep (g v)) → Along n
      (then_do a f) (then_do b g)
  unfolding then_do
  along_then n _ _ f g (FailsFirst b) w k l = FailsFirst (then_do b g)
  along_then n _ _ f g (FailsSecond a) w k l = FailsSecond (then_do a f)
  along_then n _ _ f g (Apart x a b u m oa ob) w k l = Apart x (then_do a f) (then_do b g) (later_then (read_with x x.a) a f u (λ v. k v (read_with x x.a)))
      (later_then (read_with x x.b) b g m (λ v. l v (read_with x x.b)))
      (λ own. ends_then x.state.begun (x.state.read ++ tagged x.state.begun x.since) first a f (oa own))
      (λ own. ends_then x.state.begun (x.state.read ++ tagged x.state.begun x.since) second b g (ob own))
  along_then n _ _ f g (LacksFirst x a b r m e) w k l = LacksFirst x (then_do a f) (then_do b g) r
      (later_then (x.read ++ (x.begun, x.act) ∷ []) b g m (λ v. l v (x.read ++ (x.begun, x.act) ∷ []))) (ends_then x.begun x.read first a f e)
  along_then n _ _ f g (LacksSecond x a b r m e) w k l = LacksSecond x (then_do a f) (then_do b g) r
      (later_then (x.read ++ (x.begun, x.act) ∷ []) a f m (λ v. k v (x.read ++ (x.begun, x.act) ∷ []))) (ends_then x.begun x.read second b g e)
  along_then n _ _ f g (Both v s pre h) w k l = w v n s pre h
  along_then n _ _ f g (Halts e id s pre h) w k l = Halts e id s pre h

  along_if : (n : ℕ) (c : Bool) (a b x y : Answer) → Along n a b → Along n x y → Along n (if c then a else x) (if c then b else y)
  along_if n true a b x y h k = h
  along_if n false a b x y h k = k

  walk_begin : (id : ℕ) (f g : St → Answer) → Walks f g → Walks (λ s. begin id s f) (λ s. begin id s g)
  unfolding begin
  walk_begin id f g w n s pre h = along_if n (nat_eq s.fuel 0) _ _ _ _ (Halts stop.Steps id (record s { begun = s.begun + 1 }) pre h) (w n (record s { begun = s.begun + 1; fuel = s.fuel - 1 }) pre h)

  walk_gives : (id : ℕ) (r : Result Value Stop) → Walks (gives id r) (gives id r)
  walk_gives id (Ok v) n s pre h = Both v s pre h
  walk_gives id (Err e) n s pre h = Halts e id s pre h

  walk_variable : (id : ℕ) (o : Option Value) → Walks (variable id o) (variable id o)
  walk_variable id None n s pre h = Halts stop.Unbound id s pre h
  walk_variable id (Some v) n s pre h = Both v s pre h

  walk_self : (id : ℕ) (o : Option ClassId) → Walks (self_value id o) (self_value id o)
  walk_self id None n s pre h = Halts stop.NoSelf id s pre h
  walk_self id (Some c) n s pre h = Both (value.Object c) s pre h

  walk_printed : (id : ℕ) (text : List ℕ) → Walks (printed id text) (printed id text)
  walk_printed id text n s pre h = along_if n (nat_le (length (s.output ++ print_line text)) OUTPUT_MAX) _ _ _ _ (Both value.Nil (record s { output = s.output ++ print_line text }) pre h)
      (Halts stop.OutputFull id s pre h)

  walk_turns : (m : ℕ) (test test' body body' : St → Answer) → Walks test test' → Walks body body' → AllKeep test → AllKeep test' → AllKeep body → AllKeep body' → Walks (turns m test body)
      (turns m test' body')
  unfolding turns Keeps Later
  walk_turns zero test test' body body' w x k k' l l' n s pre h = FailsFirst Lost
  walk_turns (suc m) test test' body body' w x k k' l l' n s pre h = along_then n (test (at s (pre ++ first))) (test' (at s (pre ++ second))) _ _ (w n s pre h)
      (λ v n s pre h. along_if n (is_false v) _ _ _ _ (Both value.Nil s pre h)
      (along_then n (body (at s (pre ++ first))) (body' (at s (pre ++ second))) _ _ (x n s pre h) (λ v n s pre h. walk_turns m test test' body body' w x k k' l l' n s pre h)
      (λ v rd s p. later_turns rd m test body (k rd) (l rd) s p) (λ v rd s p. later_turns rd m test' body' (k' rd) (l' rd) s p)))
      (λ v rd s p. later_if rd (is_false v) _ _ p (later_then rd (body s) _ (l rd s p) (λ w s p. later_turns rd m test body (k rd) (l rd) s p)))
      (λ v rd s p. later_if rd (is_false v) _ _ p (later_then rd (body' s) _ (l' rd s p) (λ w s p. later_turns rd m test' body' (k' rd) (l' rd) s p)))

  walk_loop : (test test' body body' : St → Answer) → Walks test test' → Walks body body' → AllKeep test → AllKeep test' → AllKeep body → AllKeep body' → Walks (loop test body) (loop test' body')
  unfolding loop
  walk_loop test test' body body' w x k k' l l' n s pre h = walk_turns (suc s.fuel) test test' body body' w x k k' l l' n s pre h

  -- ── keys ──

  -- a common act is read
  walk_read : (m : Act → Option (Result Value Stop)) → ((n : ℕ) (a : Act) (r : Result Value Stop) → m a ≡ Some r → IsBelow n a) → (id n : ℕ) (s : St) (c : Act) (pre : List Act) → Together n s
      (c ∷ pre)
      → Along n (reads m id (at s ((c ∷ pre) ++ first))) (reads m id (at s ((c ∷ pre) ++ second)))
  unfolding reads
  walk_read m quiet id n s c pre h = go (m c) refl
    where
      go : (o : Option (Result Value Stop)) → m c ≡ o → Along n (meant id o (read_act c (pre ++ first) (at s ((c ∷ pre) ++ first))))
          (meant id o (read_act c (pre ++ second) (at s ((c ∷ pre) ++ second))))
      go None e = FailsFirst Lost
      go (Some r) e = walk_gives id r n (record s { read = s.read ++ (s.begun, c) ∷ [] }) pre (
        ap (λ l. l ++ pre) (map-append (λ (e : ℕ × Act). e.1) s.read ((s.begun, c) ∷ [])) ∙ append_assoc (map (λ e. e.1) s.read) (c ∷ []) pre ∙ h.0,
        h.1,
        subst (AllByRecursion (IsBelow s.next)) (sym (map-append (λ (e : ℕ × Act). e.1) s.read ((s.begun, c) ∷ [])))
            (all_both (IsBelow s.next) (map (λ e. e.1) s.read) (c ∷ []) h.2 (quiet s.next c r e, tt)),
      )

  -- behind the common acts each reads its own, which answers its question
  part_read : (m k : Act → Option (Result Value Stop)) (u v : Question) → AsksOne names others u v → ((a : Act) (r : Result Value Stop) → m a ≡ Some r → Answers u a) →
      ((a : Act) (r : Result Value Stop) → k a ≡ Some r → Answers v a)
      → ((n : ℕ) → IsReadFor n u []) → ((a : Act) → GoesPast t u [] a) → ((a : Act) → GoesPast t v [] a) → ((a : Act) → IsOwnFree u a → ⊥) → ((a : Act) → IsOwnFree v a → ⊥)
      → (id n : ℕ) (s : St) → Together n s [] → Along n (reads m id (at s first)) (reads k id (at s second))
  unfolding reads Keeps Later
  part_read m k u v asked answers answers' none past past' own own' id n s h = go first second refl refl
    where
      one : (a b : Act) (x y : List Act) → first ≡ a ∷ x → second ≡ b ∷ y → (o p : Option (Result Value Stop)) → m a ≡ o → k b ≡ p → Along n (meant id o (read_act a x s))
          (meant id p (read_act b y s))
      one a b x y e f None p g i = FailsFirst (meant id p (read_act b y s))
      one a b x y e f (Some r) None g i = FailsSecond (meant id (Some r) (read_act a x s))
      one a b x y e f (Some r) (Some d) g i =
          let z : Parting t names others done first second = record {
            state = s;
            since = [];
            read = h.0;
            below = h.2;
            question = u;
            other = v;
            one = asked;
            since_is = none s.next;
            a = a;
            b = b;
            behind_a = x;
            behind_b = y;
            is_a = e;
            is_b = f;
            answer_a = answers a r g;
            answer_b = answers' b d i;
            past_a = past a;
            past_b = past' b;
          } in
          Apart z (gives id r (read_act a x s)) (gives id d (read_act b y s)) (later_gives (read_with z a) id r (read_act a x s) ([], append-nil (s.read ++ (s.begun, a) ∷ [])))
          (later_gives (read_with z b) id d (read_act b y s) ([], append-nil (s.read ++ (s.begun, b) ∷ []))) (λ o. absurd (own a o)) (λ o. absurd (own' b o))

      go : (x y : List Act) → first ≡ x → second ≡ y → Along n (next_act m id (at s first) x) (next_act k id (at s second) y)
      go [] y e f = FailsFirst (next_act k id (at s second) y)
      go (a ∷ x) [] e f = FailsSecond (next_act m id (at s first) (a ∷ x))
      go (a ∷ x) (b ∷ y) e f = one a b x y e f (m a) (k b) refl refl

  -- an act that is read means something for the key, or it gives no answer
  keyed_read : (m : Act → Option (Result Value Stop)) (k id : ℕ) → ((a : Act) (r : Result Value Stop) → m a ≡ Some r → HasKey k a) → Keyed (reads m id) k
  unfolding reads Later Keeps
  keyed_read m k id key = record {
    none = λ s. refl;
    other = λ s c l. go s c l (m c) refl;
    reads = λ s c l. went s c l (m c);
  }
    where
      go : (s : St) (c : Act) (l : List Act) (o : Option (Result Value Stop)) → m c ≡ o → HasKey k c ⊎ (meant id o (read_act c l (at s (c ∷ l))) ≡ Lost)
      go s c l None e = inr refl
      go s c l (Some r) e = inl (key c r e)

      went : (s : St) (c : Act) (l : List Act) (o : Option (Result Value Stop)) → Later (s.read ++ (s.begun, c) ∷ []) (meant id o (read_act c l (at s (c ∷ l))))
      went s c l None = tt
      went s c l (Some r) = later_gives (s.read ++ (s.begun, c) ∷ []) id r (read_act c l (at s (c ∷ l))) ([], append-nil (s.read ++ (s.begun, c) ∷ []))

  module _ (differ : Differ names) (differ' : Differ others) (shared : AreShared names others done) where
    here_shared : (l : List Act) (c : Act) (m : List Act) → AreShared names others (l ++ c ∷ m) → IsShared names others c
    here_shared [] c m h = h.0
    here_shared (a ∷ l) c m h = here_shared l c m h.1

    walk_key : (id : ℕ) (name : Name) (f g : ℕ → St → Answer) → ((k : ℕ) → Keyed (f k) k) → ((k : ℕ) → Keyed (g k) k)
        → ((k : ℕ) → place names name ≡ Some k → place others name ≡ Some k → (n : ℕ) (s : St) (c : Act) (pre : List Act) → Together n s (c ∷ pre) → Along n (f k (at s ((c ∷ pre) ++ first)))
        (g k (at s ((c ∷ pre) ++ second))))
        → ((k j : ℕ) → place names name ≡ Some k → place others name ≡ Some j → (n : ℕ) (s : St) → Together n s [] → Along n (f k (at s first)) (g j (at s second)))
        → Walks (λ s. with_key names id (place names name) s (λ k. f k s)) (λ s. with_key others id (place others name) s (λ k. g k s))
    unfolding EndsFull
    walk_key id name f g kf kg more part n s pre h = go (place names name) (place others name) refl refl pre h
      where
        known : (c : Act) (pre : List Act) → Together n s (c ∷ pre) → IsShared names others c
        known c pre h = here_shared (map (λ e. e.1) s.read) c pre (subst (AreShared names others) (sym h.0) shared)

        lacks_second : (k : ℕ) → place names name ≡ Some k → place others name ≡ None → Together n s [] → (b : Bool) → nat_eq (length others) NAMES_MAX ≡ b → (x : List Act) → first ≡ x
            → Along n (f k (at s x)) (if b then Halt stop.Full id (at s second) else Lost)
        lacks_second k e e' h false full x is = FailsSecond (f k (at s x))
        lacks_second k e e' h true full [] is = subst (λ a. Along n a (Halt stop.Full id (at s second))) (sym ((kf k).none s)) (FailsFirst (Halt stop.Full id (at s second)))
        lacks_second k e e' h true full (c ∷ l) is =
            let wants : Wants others names first = record
            { begun = s.begun; read = s.read; name = name; full = (eqb-true (length others) NAMES_MAX full, e'); key = k; has = e; act = c; behind = l; is = is } in
            LacksSecond wants (f k (at s (c ∷ l))) (Halt stop.Full id (at s second)) (sym (append-nil (map (λ e. e.1) s.read)) ∙ h.0) ((kf k).reads s c l)
            (refl, refl, ([], tt, sym (append-nil s.read), refl))

        lacks_first : (k : ℕ) → place others name ≡ Some k → place names name ≡ None → Together n s [] → (b : Bool) → nat_eq (length names) NAMES_MAX ≡ b → (x : List Act) → second ≡ x
            → Along n (if b then Halt stop.Full id (at s first) else Lost) (g k (at s x))
        lacks_first k e e' h false full x is = FailsFirst (g k (at s x))
        lacks_first k e e' h true full [] is = subst (λ a. Along n (Halt stop.Full id (at s first)) a) (sym ((kg k).none s)) (FailsSecond (Halt stop.Full id (at s first)))
        lacks_first k e e' h true full (c ∷ l) is =
            let wants : Wants names others second = record
            { begun = s.begun; read = s.read; name = name; full = (eqb-true (length names) NAMES_MAX full, e'); key = k; has = e; act = c; behind = l; is = is } in
            LacksFirst wants (Halt stop.Full id (at s first)) (g k (at s (c ∷ l))) (sym (append-nil (map (λ e. e.1) s.read)) ∙ h.0) ((kg k).reads s c l)
            (refl, refl, ([], tt, sym (append-nil s.read), refl))

        both : (a b : Bool) (pre : List Act) → Together n s pre → Along n (if a then Halt stop.Full id (at s (pre ++ first)) else Lost) (if b then Halt stop.Full id (at s (pre ++ second)) else Lost)
        both true true pre h = Halts stop.Full id s pre h
        both true false pre h = FailsSecond (Halt stop.Full id (at s (pre ++ first)))
        both false b pre h = FailsFirst (if b then Halt stop.Full id (at s (pre ++ second)) else Lost)

        go : (o u : Option ℕ) → place names name ≡ o → place others name ≡ u → (pre : List Act) → Together n s pre
            → Along n (with_key names id o (at s (pre ++ first)) (λ k. f k (at s (pre ++ first)))) (with_key others id u (at s (pre ++ second)) (λ k. g k (at s (pre ++ second))))
        go None None e e' pre h = both (nat_eq (length names) NAMES_MAX) (nat_eq (length others) NAMES_MAX) pre h
        go (Some k) (Some j) e e' [] h = part k j e e' n s h
        go (Some k) (Some j) e e' (c ∷ pre) h = elim ((kf k).other s c (pre ++ first)) [
          | inl has ↦ (let is : place others name ≡ Some k = moves names others name k differ' (shared_at names others k c (known c pre h) has) e in
              subst (λ i. Along n (f k (at s ((c ∷ pre) ++ first))) (g i (at s ((c ∷ pre) ++ second)))) (same_Some k j (sym is ∙ e')) (more k e is n s c pre h))
          | inr lost ↦ subst (λ a. Along n a (g j (at s ((c ∷ pre) ++ second)))) (sym lost) (FailsFirst (g j (at s ((c ∷ pre) ++ second))))
        ]
        go (Some k) None e e' [] h = lacks_second k e e' h (nat_eq (length others) NAMES_MAX) refl first refl
        go (Some k) None e e' (c ∷ pre) h = elim ((kf k).other s c (pre ++ first)) [
          | inl has ↦ absurd (none-some k (sym e' ∙ moves names others name k differ' (shared_at names others k c (known c pre h) has) e))
          | inr lost ↦ subst (λ a. Along n a (if nat_eq (length others) NAMES_MAX then Halt stop.Full id (at s ((c ∷ pre) ++ second)) else Lost)) (sym lost)
              (FailsFirst (if nat_eq (length others) NAMES_MAX then Halt stop.Full id (at s ((c ∷ pre) ++ second)) else Lost))
        ]
        go None (Some k) e e' [] h = lacks_first k e' e h (nat_eq (length names) NAMES_MAX) refl second refl
        go None (Some k) e e' (c ∷ pre) h = elim ((kg k).other s c (pre ++ second)) [
          | inl has ↦ absurd (none-some k (sym e ∙ moves others names name k differ (sym (shared_at names others k c (known c pre h) has)) e'))
          | inr lost ↦ subst (λ a. Along n (if nat_eq (length names) NAMES_MAX then Halt stop.Full id (at s ((c ∷ pre) ++ first)) else Lost) a) (sym lost)
              (FailsSecond (if nat_eq (length names) NAMES_MAX then Halt stop.Full id (at s ((c ∷ pre) ++ first)) else Lost))
        ]

    walk_define : (id : ℕ) (name : Name) (site : ℕ) → Walks (define names id name site) (define others id name site)
    walk_define id name site n s pre h =
        let keyed = λ (k : ℕ). keyed_read (define_meaning k site) k id (λ a r m. defines_key k site a (define_answers k site a r m)) in
        walk_key id name (λ k. reads (define_meaning k site) id) (λ k. reads (define_meaning k site) id) keyed keyed
        (λ k e f. walk_read (define_meaning k site) (λ n a r m. define_quiet k site n a (define_answers k site a r m)) id)
        (λ k j e f. part_read (define_meaning k site) (define_meaning j site) (Defines k site) (Defines j site) (DefineOne name k j site e f) (define_answers k site) (define_answers j site)
        (λ n. refl) (λ a. tt) (λ a. tt) (λ a own. own) (λ a own. own) id) n s pre h

    walk_declare : (id : ℕ) (asks : Bool) (name : Name) (site : ℕ) → Walks (declare names id asks name site) (declare others id asks name site)
    walk_declare id asks name site n s pre h =
        let keyed = λ (k : ℕ). keyed_read (declare_meaning asks k site) k id (λ a r m. declares_key k site a (declare_answers asks k site a r m)) in
        walk_key id name (λ k. reads (declare_meaning asks k site) id) (λ k. reads (declare_meaning asks k site) id) keyed keyed
        (λ k e f. walk_read (declare_meaning asks k site) (λ n a r m. declare_quiet k site n a (declare_answers asks k site a r m)) id)
        (λ k j e f. part_read (declare_meaning asks k site) (declare_meaning asks j site) (Declares k site) (Declares j site) (DeclareOne name k j site e f) (declare_answers asks k site)
        (declare_answers asks j site)
        (λ n. refl) (λ a. tt) (λ a. tt) (λ a own. own) (λ a own. own) id) n s pre h

    walk_named : (id : ℕ) (v : Value) (f g : List ℕ → St → Answer) → ((bytes : List ℕ) → Walks (f bytes) (g bytes)) → Walks (λ s. named id v s (λ bytes. f bytes s))
        (λ s. named id v s (λ bytes. g bytes s))
    walk_named id value.Nil f g w n s pre h = Halts stop.NilValue id s pre h
    walk_named id (value.Str bytes) f g w n s pre h = along_if n (is_name bytes) _ _ _ _ (w bytes n s pre h) (Halts stop.BadName id s pre h)
    walk_named id _ _ _ _ _ s pre h = Halts stop.BadOperand id s pre h

    -- each call goes along
    abbrev pub WalkCalls : (call call' : Calls) → Type 0
    WalkCalls call call' = (id : ℕ) (r : Value) (m : ℕ) (vs : List Value) → Walks (call id r m vs) (call' id r m vs)

    module _ (call call' : Calls) (ok : WalkCalls call call') (keep : (rd : List (ℕ × Act)) → KeepCalls rd call) (keep' : (rd : List (ℕ × Act)) → KeepCalls rd call') where
      keeps_ev : (e : Tree) → AllKeep (ev t names call e)
      keeps_ev e rd = later_ev rd t names call (keep rd) e

      others_ev : (e : Tree) → AllKeep (ev t others call' e)
      others_ev e rd = later_ev rd t others call' (keep' rd) e

      mutual
        unfolding Keeps Later KeepCalls

        pub walk_ev : (e : Tree) → Walks (ev t names call e) (ev t others call' e)
        walk_ev (TNil id) n s pre h = walk_begin id _ _ (λ n s pre h. Both value.Nil s pre h) n s pre h
        walk_ev (TTrue id) n s pre h = walk_begin id _ _ (λ n s pre h. Both (value.Bool true) s pre h) n s pre h
        walk_ev (TFalse id) n s pre h = walk_begin id _ _ (λ n s pre h. Both (value.Bool false) s pre h) n s pre h
        walk_ev (TSelf id) n s pre h = walk_begin id _ _ (λ n s pre h. walk_self id s.self n s pre h) n s pre h
        walk_ev (TInt id z) n s pre h = walk_begin id _ _ (λ n s pre h. Both (value.Int z) s pre h) n s pre h
        walk_ev (TText id x) n s pre h = walk_begin id _ _ (λ n s pre h. Both (value.Str (bytes_at t.texts x)) s pre h) n s pre h
        walk_ev (TVar id x) n s pre h = walk_begin id _ _ (λ n s pre h. walk_variable id (value_at s.vars x) n s pre h) n s pre h
        walk_ev (TNew id c) n s pre h = walk_begin id _ _ (λ n s pre h. Both (object c) s pre h) n s pre h
        walk_ev (TAssign id x e) n s pre h = walk_begin id _ _ (λ n s pre h. along_then n (ev t names call e (at s (pre ++ first))) (ev t others call' e (at s (pre ++ second))) _ _
            (walk_ev e n s pre h)
            (λ v n s pre h. Both v (record s { vars = bind s.vars x v }) pre h) (λ v rd s p. p) (λ v rd s p. p)) n s pre h
        walk_ev (TPrint id e) n s pre h = walk_begin id _ _ (λ n s pre h. along_then n (ev t names call e (at s (pre ++ first))) (ev t others call' e (at s (pre ++ second))) _ _ (walk_ev e n s pre h)
            (λ v n s pre h. walk_printed id (shown t v) n s pre h) (λ v rd s p. later_printed rd id (shown t v) s p) (λ v rd s p. later_printed rd id (shown t v) s p)) n s pre h
        walk_ev (TToStr id e) n s pre h = walk_begin id _ _ (λ n s pre h. along_then n (ev t names call e (at s (pre ++ first))) (ev t others call' e (at s (pre ++ second))) _ _ (walk_ev e n s pre h)
            (λ v n s pre h. Both (value.Str (shown t v)) s pre h) (λ v rd s p. p) (λ v rd s p. p)) n s pre h
        walk_ev (TNot id e) n s pre h = walk_begin id _ _ (λ n s pre h. along_then n (ev t names call e (at s (pre ++ first))) (ev t others call' e (at s (pre ++ second))) _ _ (walk_ev e n s pre h)
            (λ v n s pre h. Both (value.Bool (is_false v)) s pre h) (λ v rd s p. p) (λ v rd s p. p)) n s pre h
        walk_ev (TBinary id o a b) n s pre h = walk_begin id _ _ (λ n s pre h. along_then n (ev t names call a (at s (pre ++ first))) (ev t others call' a (at s (pre ++ second))) _ _
            (walk_ev a n s pre h)
            (λ v n s pre h. along_then n (ev t names call b (at s (pre ++ first))) (ev t others call' b (at s (pre ++ second))) _ _ (walk_ev b n s pre h)
            (λ w n s pre h. walk_gives id (operate o v w) n s pre h) (λ w rd s p. later_gives rd id (operate o v w) s p) (λ w rd s p. later_gives rd id (operate o v w) s p))
            (λ v rd s p. later_then rd (ev t names call b s) _ (keeps_ev b rd s p) (λ w s p. later_gives rd id (operate o v w) s p))
            (λ v rd s p. later_then rd (ev t others call' b s) _ (others_ev b rd s p) (λ w s p. later_gives rd id (operate o v w) s p))) n s pre h
        walk_ev (TIf id c a b) n s pre h = walk_begin id _ _ (λ n s pre h. along_then n (ev t names call c (at s (pre ++ first))) (ev t others call' c (at s (pre ++ second))) _ _
            (walk_ev c n s pre h)
            (λ v n s pre h. along_if n (is_false v) _ _ _ _ (walk_ev b n s pre h) (walk_ev a n s pre h))
            (λ v rd s p. later_if rd (is_false v) _ _ (keeps_ev b rd s p) (keeps_ev a rd s p)) (λ v rd s p. later_if rd (is_false v) _ _ (others_ev b rd s p) (others_ev a rd s p))) n s pre h
        walk_ev (TWhile id c b) n s pre h = walk_begin id _ _ (λ n s pre h. walk_loop (ev t names call c) (ev t others call' c) (ev t names call b) (ev t others call' b)
            (λ n s pre h. walk_ev c n s pre h) (λ n s pre h. walk_ev b n s pre h)
            (keeps_ev c) (others_ev c) (keeps_ev b) (others_ev b) n s pre h) n s pre h
        walk_ev (TCall id r m args) n s pre h = walk_begin id _ _ (λ n s pre h. along_then n (ev t names call r (at s (pre ++ first))) (ev t others call' r (at s (pre ++ second))) _ _
            (walk_ev r n s pre h)
            (λ v n s pre h. walk_args args [] (λ vs s. call id v m vs s) (λ vs s. call' id v m vs s) (λ vs n s pre h. ok id v m vs n s pre h) (λ vs rd s p. keep rd id v m vs s p)
            (λ vs rd s p. keep' rd id v m vs s p) n s pre h)
            (λ v rd s p. later_args rd t names call (keep rd) args [] (λ vs s. call id v m vs s) (λ vs s p. keep rd id v m vs s p) s p)
            (λ v rd s p. later_args rd t others call' (keep' rd) args [] (λ vs s. call' id v m vs s) (λ vs s p. keep' rd id v m vs s p) s p)) n s pre h
        walk_ev (TDef id c m site b) n s pre h = walk_begin id _ _ (λ n s pre h. walk_define id (c, bytes_at t.names m) site n s pre h) n s pre h
        walk_ev (TDefComputed id c e site b) n s pre h = walk_begin id _ _ (λ n s pre h. along_then n (ev t names call e (at s (pre ++ first))) (ev t others call' e (at s (pre ++ second))) _ _
            (walk_ev e n s pre h)
            (λ v n s pre h. walk_named id v (λ bytes s. define names id (c, bytes) site s) (λ bytes s. define others id (c, bytes) site s)
            (λ bytes n s pre h. walk_define id (c, bytes) site n s pre h) n s pre h)
            (λ v rd s p. later_named rd id v _ (λ bytes s p. later_define rd names id (c, bytes) site s p) s p)
            (λ v rd s p. later_named rd id v _ (λ bytes s p. later_define rd others id (c, bytes) site s p) s p)) n s pre h
        walk_ev (TDeclare id c m site asks) n s pre h = walk_begin id _ _ (λ n s pre h. walk_declare id asks (c, bytes_at t.names m) site n s pre h) n s pre h
        walk_ev (TDeclareComputed id c e site asks) n s pre h = walk_begin id _ _ (λ n s pre h. along_then n (ev t names call e (at s (pre ++ first)))
            (ev t others call' e (at s (pre ++ second))) _ _ (walk_ev e n s pre h)
            (λ v n s pre h. walk_named id v (λ bytes s. declare names id asks (c, bytes) site s) (λ bytes s. declare others id asks (c, bytes) site s)
            (λ bytes n s pre h. walk_declare id asks (c, bytes) site n s pre h) n s pre h)
            (λ v rd s p. later_named rd id v _ (λ bytes s p. later_declare rd names id asks (c, bytes) site s p) s p)
            (λ v rd s p. later_named rd id v _ (λ bytes s p. later_declare rd others id asks (c, bytes) site s p) s p)) n s pre h
        walk_ev (TBlock id es) n s pre h = walk_items es value.Nil n s pre h

        walk_items : (es : Forest) (v : Value) → Walks (ev_items t names call es v) (ev_items t others call' es v)
        walk_items NoTree v n s pre h = Both v s pre h
        walk_items (Trees e es) v n s pre h = along_then n (ev t names call e (at s (pre ++ first))) (ev t others call' e (at s (pre ++ second))) _ _ (walk_ev e n s pre h)
            (λ w n s pre h. walk_items es w n s pre h) (λ w rd s p. later_items rd t names call (keep rd) es w s p) (λ w rd s p. later_items rd t others call' (keep' rd) es w s p)

        walk_args : (es : Forest) (vs : List Value) (f g : List Value → St → Answer) → ((us : List Value) → Walks (f us) (g us)) → ((us : List Value) → AllKeep (f us)) →
            ((us : List Value) → AllKeep (g us))
            → Walks (ev_arguments t names call es vs f) (ev_arguments t others call' es vs g)
        walk_args NoTree vs f g w k l n s pre h = w vs n s pre h
        walk_args (Trees e es) vs f g w k l n s pre h = along_then n (ev t names call e (at s (pre ++ first))) (ev t others call' e (at s (pre ++ second))) _ _ (walk_ev e n s pre h)
            (λ v n s pre h. walk_args es (vs ++ v ∷ []) f g w k l n s pre h)
            (λ v rd s p. later_args rd t names call (keep rd) es (vs ++ v ∷ []) f (λ us. k us rd) s p)
            (λ v rd s p. later_args rd t others call' (keep' rd) es (vs ++ v ∷ []) g (λ us. l us rd) s p)

  -- ── calls ──

  -- where the acts that are left are these, others were read
  read_alike : (used left pre tail : List Act) → pre ≡ used ++ left → acts_before (left ++ tail) (pre ++ tail) ≡ used
  read_alike used left pre tail e = ap (acts_before (left ++ tail)) (ap (λ l. l ++ tail) e ∙ append_assoc used left tail) ∙ before_rest used (left ++ tail)

  -- behind these acts the next call has this number
  together_more : (n m next : ℕ) (s : St) (used left pre : List Act) → pre ≡ used ++ left → s.next ≤ next → m ≤ next → AllByRecursion (IsBelow next) used → Together n s pre
      → Together m (record s { read = s.read ++ tagged s.begun used; next = next }) left
  together_more n m next s used left pre e up low below h =
      let acts_are = map-append (λ (e : ℕ × Act). e.1) s.read (tagged s.begun used) ∙ ap (λ l. map (λ (e : ℕ × Act). e.1) s.read ++ l) (untagged s.begun used) in (
        ap (λ l. l ++ left) acts_are ∙ append_assoc (map (λ (e : ℕ × Act). e.1) s.read) used left ∙ ap (λ l. map (λ (e : ℕ × Act). e.1) s.read ++ l) (sym e) ∙ h.0,
        low,
        subst (AllByRecursion (IsBelow next)) (sym acts_are) (all_both (IsBelow next) (map (λ e. e.1) s.read) used (below_more s.next next (map (λ e. e.1) s.read) up h.2) below),
      )

  -- from the state with these acts read, what goes on goes along
  walk_from : (n m : ℕ) (f g : St → Answer) (s : St) (pre used left : List Act) → pre ≡ used ++ left
      → (Along n (f (record s { read = s.read ++ tagged s.begun used; journal = left ++ first })) (g (record s { read = s.read ++ tagged s.begun used; journal = left ++ second })))
      → Along n (f (read_to (left ++ first) (at s (pre ++ first)))) (g (read_to (left ++ second) (at s (pre ++ second))))
  walk_from n m f g s pre used left e both =
      let u : St = record s { read = s.read ++ tagged s.begun used } in
      let one = read_alike used left pre first e in
      let two = read_alike used left pre second e in
      subst (λ (l : List Act). Along n (f (record s { read = s.read ++ tagged s.begun l; journal = left ++ first })) (g (read_to (left ++ second) (at s (pre ++ second))))) (sym one)
      (subst (λ (l : List Act). Along n (f (at u (left ++ first))) (g (record s { read = s.read ++ tagged s.begun l; journal = left ++ second }))) (sym two) both)

  walk_frees : (n m q : ℕ) (s : St) (pre : List Act) → n ≤ m → q < m → Together m s pre → (x y : Option (List Act)) → TwoFrees t first second q pre x y → (go : St → Answer) → Walks go go
      → AllKeep go → Along n (read_frees x (at s (pre ++ first)) go) (read_frees y (at s (pre ++ second)) go)
  unfolding Keeps Behind Later
  walk_frees n m q s pre le lt h _ _ (NoFirst o) go w k = FailsFirst (read_frees o (at s (pre ++ second)) go)
  walk_frees n m q s pre le lt h _ _ (NoSecond o) go w k = FailsSecond (read_frees o (at s (pre ++ first)) go)
  walk_frees n m q s pre le lt h _ _ (Alike used left b e) go w k =
      let up = h.1 in
      walk_from n m go go s pre used left e (w n (record s { read = s.read ++ tagged s.begun used }) left
      (together_more m n s.next s used left pre e (omega arith) (omega (arith, le, up)) (below_more (suc q) s.next used (omega (arith, lt, up)) b) h))
  walk_frees n m q s pre le lt h _ _ (PartAt j a b k l x y e f g i u v) go w keep =
      let p : Parting t names others done first second = record {
        state = s;
        since = pre;
        read = h.0;
        below = h.2;
        question = Ends q j;
        other = Ends q j;
        one = EndOne q j;
        since_is = tt;
        a = a;
        b = b;
        behind_a = k;
        behind_b = l;
        is_a = e;
        is_b = f;
        answer_a = g;
        answer_b = i;
        past_a = tt;
        past_b = tt;
      } in
      Apart p (read_frees x (at s (pre ++ first)) go) (read_frees y (at s (pre ++ second)) go) (one first k a e x u) (one second l b f y v) (λ own. absurd own) (λ own. absurd own)
    where
      one : (l m : List Act) (a : Act) → l ≡ a ∷ m → (o : Option (List Act)) → Behind m o → Later (s.read ++ tagged s.begun (pre ++ a ∷ [])) (read_frees o (at s (pre ++ l)) go)
      one l m a e None u = tt
      one l m a e (Some rest) u = keep (s.read ++ tagged s.begun (pre ++ a ∷ [])) (read_to rest (at s (pre ++ l))) (read_on s pre l m u.0 rest a e u.1)

  along_leave : (n m q : ℕ) (held : List Stand) (vars : Bindings) (self : Option ClassId) (a b : Answer) → n ≤ m → q < m → Along m a b → Along n (leave q held vars self a) (leave q held vars self b)
  unfolding Keeps Later
  along_leave n m q held vars self _ _ le lt (FailsFirst b) = FailsFirst (leave q held vars self b)
  along_leave n m q held vars self _ _ le lt (FailsSecond a) = FailsSecond (leave q held vars self a)
  along_leave n m q held vars self _ _ le lt (Apart x a b l k oa ob) = Apart x (leave q held vars self a) (leave q held vars self b) (later_leave (read_with x x.a) q held vars self a l)
      (later_leave (read_with x x.b) q held vars self b k)
      (λ own. ends_leave x.state.begun (x.state.read ++ tagged x.state.begun x.since) first q held vars self a (oa own))
      (λ own. ends_leave x.state.begun (x.state.read ++ tagged x.state.begun x.since) second q held vars self b (ob own))
  along_leave n m q held vars self _ _ le lt (LacksFirst x a b r l e) = LacksFirst x (leave q held vars self a) (leave q held vars self b) r
      (later_leave (x.read ++ (x.begun, x.act) ∷ []) q held vars self b l)
      (ends_leave x.begun x.read first q held vars self a e)
  along_leave n m q held vars self _ _ le lt (LacksSecond x a b r l e) = LacksSecond x (leave q held vars self a) (leave q held vars self b) r
      (later_leave (x.read ++ (x.begun, x.act) ∷ []) q held vars self a l)
      (ends_leave x.begun x.read second q held vars self b e)
  along_leave n m q held vars self _ _ le lt (Both v s pre h) = walk_frees n m q s pre le lt h _ _ (two_frees t first second q held pre) (λ s. Done v (record s { vars = vars; self = self }))
      (λ n s pre h. Both v (record s { vars = vars; self = self }) pre h) (λ rd s p. p)
  along_leave n m q held vars self _ _ le lt (Halts e id s pre h) = walk_frees n m q s pre le lt h _ _ (two_frees t first second q held pre)
      (λ s. Halt e id (record s { vars = vars; self = self })) (λ n s pre h. Halts e id (record s { vars = vars; self = self }) pre h) (λ rd s p. p)

  -- the body of a call, whose number is below the next
  walk_body : (run run' : ℕ → St → Answer) → ((block : ℕ) → Walks (run block) (run' block)) → (q : ℕ) (c : ClassId) (args : List Value) (held : List Stand) (b : Option Body) (n : ℕ) (s : St)
      (pre : List Act)
      → q < s.next → Together n s pre → Along n (run_body run q c args held b (at s (pre ++ first))) (run_body run' q c args held b (at s (pre ++ second)))
  walk_body run run' w q c args held None n s pre lt h = FailsFirst Lost
  walk_body run run' w q c args held (Some b) n s pre lt h = along_leave n s.next q held s.vars s.self _ _ h.1 lt
      (w b.block.0 s.next (record s { vars = bindings (params_of b) args; self = Some c }) pre (h.0, omega arith, h.2))

  walk_decided : (id : ℕ) (body body' : St → Answer) (v : Verdict) (n : ℕ) (s : St) (pre : List Act) → Along n (body (at s (pre ++ first))) (body' (at s (pre ++ second))) → Together n s pre
      → Along n (decided id body v (at s (pre ++ first))) (decided id body' v (at s (pre ++ second)))
  walk_decided id body body' (verdict.Enter way) n s pre w h = w
  walk_decided id body body' verdict.NoBody n s pre w h = Halts stop.NoBody id s pre h
  walk_decided id body body' verdict.NoType n s pre w h = Halts stop.NoType id s pre h
  walk_decided id body body' verdict.BadArgs n s pre w h = Halts stop.BadArgs id s pre h
  walk_decided id body body' (verdict.IllTyped f) n s pre w h = Halts (stop.IllTyped f) id s pre h

  module _ (run : ℕ → St → Answer) (k : (block : ℕ) → AllKeep (run block)) (id : ℕ) (c : ClassId) (args : List Value) where
    later_one : (s : St) (pre l m : List Act) (a : Act) → l ≡ a ∷ m → (r : Read) → Leaves m r → Later (s.read ++ tagged s.begun (pre ++ a ∷ [])) (called t run id c args r (at s (pre ++ l)))
    unfolding Later Leaves Keeps
    later_one s pre l m a e NoCall u = tt
    later_one s pre l m a e (FullAt rest) u = read_on s pre l m u.0 rest a e u.1
    later_one s pre l m a e (Called site v held rest) u =
        let rd = s.read ++ tagged s.begun (pre ++ a ∷ []) in
        later_decided rd id (run_body run s.next c args held (body_at t site)) (λ x p. later_body rd run (λ b x p. k b rd x p) s.next c args held (body_at t site) x p) v
        (numbered (read_to rest (at s (pre ++ l)))) (read_on s pre l m u.0 rest a e u.1)

    -- a call that is Full behind Frees ends so
    full_called : (s : St) (pre l : List Act) (r : Read) → FullRead l r → EndsFull s.begun (s.read ++ tagged s.begun pre) l (called t run id c args r (at s (pre ++ l)))
    unfolding FullRead EndsFull
    full_called s pre l NoCall h = tt
    full_called s pre l (Called site v held rest) h = absurd h
    full_called s pre l (FullAt rest) h =
        let used : acts_before rest (pre ++ l) ≡ pre ++ h.0 = ap (acts_before rest) (ap (λ w. pre ++ w) h.2 ∙ sym (append_assoc pre h.0 rest)) ∙ before_rest (pre ++ h.0) rest in (
          refl,
          refl,
          (
            h.0,
            h.1,
            ap (λ w. s.read ++ tagged s.begun w) used ∙ ap (λ w. s.read ++ w) (tagged_append s.begun pre h.0) ∙ sym (append_assoc s.read (tagged s.begun pre) (tagged s.begun h.0)),
            h.2,
          ),
        )

    -- a call goes on with an act of it, by its key
    keyed_call : (key : ℕ) (kinds : List Ty) → Keyed (λ s. called t run id c args (call_of t s.next key kinds s.journal) s) key
    unfolding Later
    keyed_call key kinds = record { none = λ s. refl; other = λ s c l. go s c l; reads = λ s c l. went s c l (start_head t first second s.next key kinds (c ∷ l)) }
      where
        go : (s : St) (a : Act) (l : List Act) → HasKey key a ⊎ (called t run id c args (call_of t s.next key kinds (a ∷ l)) (at s (a ∷ l)) ≡ Lost)
        go s (Hold j p ty n) l = one (nat_eq p.0 s.next) (nat_eq j.0 key) refl
          where
            one : (x y : Bool) → nat_eq j.0 key ≡ y
                → (j.0 ≡ key) ⊎ (called t run id c args (if x && y then decision (takes_at t ty kinds) s.next key kinds (record { key = j.0; ty = ty; changes = n } ∷ []) l else NoCall)
                (at s (Hold j p ty n ∷ l)) ≡ Lost)
            one x true e = inl (eqb-true j.0 key e)
            one true false e = inr refl
            one false false e = inr refl
        go s (Free j p) l = inr refl
        go s (Retype j site) l = inr refl
        go s (Busy j pins) l = inr refl
        go s (WornType j) l = inr refl
        go s (Define j site) l = inr refl
        go s (WornDef j) l = inr refl
        go s (Call j p site given v) l = inr refl

        went : (s : St) (a : Act) (l : List Act) → (call_of t s.next key kinds (a ∷ l) ≡ NoCall) ⊎ Head (Starts s.next key) (a ∷ l) (λ b m. Leaves m (call_of t s.next key kinds (a ∷ l)))
            → Later (s.read ++ (s.begun, a) ∷ []) (called t run id c args (call_of t s.next key kinds (a ∷ l)) (at s (a ∷ l)))
        went s a l (inl e) = subst (λ r. Later (s.read ++ (s.begun, a) ∷ []) (called t run id c args r (at s (a ∷ l)))) (sym e) tt
        went s a l (inr (First b m e f u)) =
            let same : b ≡ a = (let h : a ∷ l ≡ b ∷ m = e in sym (cc h)) in
            subst (λ x. Later (s.read ++ (s.begun, x) ∷ []) (called t run id c args (call_of t s.next key kinds (a ∷ l)) (at s (a ∷ l)))) same
            (later_one s [] (a ∷ l) m b e (call_of t s.next key kinds (a ∷ l)) u)

  module _ (run run' : ℕ → St → Answer) (w : (block : ℕ) → Walks (run block) (run' block)) (k : (block : ℕ) → AllKeep (run block)) (k' : (block : ℕ) → AllKeep (run' block))
      (id : ℕ) (c : ClassId) (args : List Value) (kinds : List Ty) where
    -- behind the common acts each call begins by its own key
    part_called : (name : Name) (key key' : ℕ) → place names name ≡ Some key → place others name ≡ Some key' → (n : ℕ) (s : St) → Together n s []
        → Along n (called t run id c args (call_of t s.next key kinds first) (at s first)) (called t run' id c args (call_of t s.next key' kinds second) (at s second))
    part_called name key key' e e' n s h = go (call_of t s.next key kinds first) (call_of t s.next key' kinds second) (start_head t first second s.next key kinds first)
        (start_head t first second s.next key' kinds second)
      where
        go : (x y : Read) → (x ≡ NoCall) ⊎ Head (Starts s.next key) first (λ a m. Leaves m x) → (y ≡ NoCall) ⊎ Head (Starts s.next key') second (λ a m. Leaves m y)
            → Along n (called t run id c args x (at s first)) (called t run' id c args y (at s second))
        go x y (inl f) r = subst (λ z. Along n (called t run id c args z (at s first)) (called t run' id c args y (at s second))) (sym f) (FailsFirst (called t run' id c args y (at s second)))
        go x y (inr f) (inl g) = subst (λ z. Along n (called t run id c args x (at s first)) (called t run' id c args z (at s second))) (sym g) (FailsSecond (called t run id c args x (at s first)))
        go x y (inr (First a m f i u)) (inr (First b l g j v)) =
            let p : Parting t names others done first second = record {
              state = s;
              since = [];
              read = h.0;
              below = h.2;
              question = Starts s.next key;
              other = Starts s.next key';
              one = StartOne name key key' s.next e e';
              since_is = (refl, refl);
              a = a;
              b = b;
              behind_a = m;
              behind_b = l;
              is_a = f;
              is_b = g;
              answer_a = i;
              answer_b = j;
              past_a = tt;
              past_b = tt;
            } in
            Apart p (called t run id c args x (at s first)) (called t run' id c args y (at s second)) (later_one run k id c args s [] first m a f x u)
            (later_one run' k' id c args s [] second l b g y v)
            (λ own. absurd own) (λ own. absurd own)

    -- a call that has begun by common acts
    walk_called : (key n : ℕ) (s : St) (d : Act) (pre : List Act) → Together n s (d ∷ pre) → (x y : Read) → TwoReads t first second s.next key kinds [] (d ∷ pre) x y
        → Along n (called t run id c args x (at s ((d ∷ pre) ++ first))) (called t run' id c args y (at s ((d ∷ pre) ++ second)))
    unfolding Asks
    walk_called key n s d pre h _ _ (NoCallFirst r) = FailsFirst (called t run' id c args r (at s ((d ∷ pre) ++ second)))
    walk_called key n s d pre h _ _ (NoCallSecond r) = FailsSecond (called t run id c args r (at s ((d ∷ pre) ++ first)))
    walk_called key n s d pre h _ _ (BothCalled site v held used left b e) =
        let u : St = record s { read = s.read ++ tagged s.begun used; next = s.next + 1 } in
        let up = h.1 in
        let below : AllByRecursion (IsBelow (s.next + 1)) used = below_more (suc s.next) (s.next + 1) used (omega arith) b in
        let on : Together n u left = together_more n n (s.next + 1) s used left (d ∷ pre) e (omega arith) (omega (arith, up)) below h in
        walk_from n n (λ x. decided id (run_body run s.next c args held (body_at t site)) v (numbered x)) (λ x. decided id (run_body run' s.next c args held (body_at t site)) v (numbered x)) s
        (d ∷ pre) used left e
        (walk_decided id (run_body run s.next c args held (body_at t site)) (run_body run' s.next c args held (body_at t site)) v n u left
        (walk_body run run' w s.next c args held (body_at t site) n u left (omega arith) on) on)
    walk_called key n s d pre h _ _ (BothFull used left b e) =
        let up = h.1 in
        let below : AllByRecursion (IsBelow (s.next + 1)) used = below_more (suc s.next) (s.next + 1) used (omega arith) b in
        walk_from n n (λ x. Halt stop.Full id (numbered x)) (λ x. Halt stop.Full id (numbered x)) s (d ∷ pre) used left e
        (Halts stop.Full id (record s { read = s.read ++ tagged s.begun used; next = s.next + 1 }) left
        (together_more n n (s.next + 1) s used left (d ∷ pre) e (omega arith) (omega (arith, up)) below h))
    walk_called key n s d pre h _ _ (PartIn u a b m l x y asks e f g i j o pa pb oa ob) =
        let p : Parting t names others done first second = record {
          state = s;
          since = d ∷ pre;
          read = h.0;
          below = h.2;
          question = u;
          other = u;
          one = asked u asks;
          since_is = for u asks;
          a = a;
          b = b;
          behind_a = m;
          behind_b = l;
          is_a = e;
          is_b = f;
          answer_a = g;
          answer_b = i;
          past_a = pa;
          past_b = pb;
        } in
        Apart p (called t run id c args x (at s ((d ∷ pre) ++ first))) (called t run' id c args y (at s ((d ∷ pre) ++ second)))
        (later_one run k id c args s (d ∷ pre) first m a e x j) (later_one run' k' id c args s (d ∷ pre) second l b f y o)
        (λ own. full_called run k id c args s (d ∷ pre) first x (oa own)) (λ own. full_called run' k' id c args s (d ∷ pre) second y (ob own))
      where
        for : (u : Question) → Asks t first second s.next key kinds (d ∷ pre) u → IsReadFor s.next u (d ∷ pre)
        for u (inl x) = absurd (let none : d ∷ pre ≡ [] = x.1 in cc none)
        for u (inr (inl x)) = subst (λ v. IsReadFor s.next v (d ∷ pre)) (sym x.0) (refl, x.1)
        for u (inr (inr x)) = subst (λ v. IsReadFor s.next v (d ∷ pre)) (sym x.1) tt

        asked : (u : Question) → Asks t first second s.next key kinds (d ∷ pre) u → AsksOne names others u u
        asked u (inl x) = absurd (let none : d ∷ pre ≡ [] = x.1 in cc none)
        asked u (inr (inl x)) = subst (λ v. AsksOne names others v v) (sym x.0) (GoOne s.next key kinds)
        asked u (inr (inr x)) = subst (λ v. AsksOne names others v v) (sym x.1) (EndOne s.next x.0)

  walk_received : (id : ℕ) (r : Result ClassId Stop) (f g : ClassId → St → Answer) → ((c : ClassId) → Walks (f c) (g c)) → Walks (λ s. received id r s (λ c. f c s))
      (λ s. received id r s (λ c. g c s))
  walk_received id (Err e) f g w n s pre h = Halts e id s pre h
  walk_received id (Ok c) f g w n s pre h = w c n s pre h

  module _ (differ : Differ names) (differ' : Differ others) (shared : AreShared names others done) where
    -- what a call does with its receiver's class
    abbrev on_class : (ns : List Name) (room id m : ℕ) → List Value → ClassId → St → Answer
    on_class ns room id m vs c s = keyed ns id (c.0, bytes_at t.names m) s (λ key. called t (λ block s. ev t ns (call_in t ns room) (tree_at t block) s) id c vs
        (call_of t s.next key (map kind_of vs) s.journal) s)

    -- a body runs with room for so many calls more
    abbrev body_run : (ns : List Name) (room block : ℕ) → St → Answer
    body_run ns room block s = ev t ns (call_in t ns room) (tree_at t block) s

    walk_class : (room : ℕ) → WalkCalls differ differ' shared (call_in t names room) (call_in t others room) → (id m : ℕ) (vs : List Value) (c : ClassId) → Walks (on_class names room id m vs c)
        (on_class others room id m vs c)
    unfolding Keeps
    walk_class room calls id m vs c n s pre h =
        let walks : (block : ℕ) → Walks (body_run names room block) (body_run others room block) = λ block n s pre h.
        walk_ev differ differ' shared (call_in t names room) (call_in t others room) calls (λ rd. later_calls rd t names room) (λ rd. later_calls rd t others room)
        (tree_at t block) n s pre h in
        let keeps : (block : ℕ) → AllKeep (body_run names room block) = λ block rd s p. later_ev rd t names (call_in t names room) (later_calls rd t names room) (tree_at t block) s p in
        let keeps' : (block : ℕ) → AllKeep (body_run others room block) = λ block rd s p. later_ev rd t others (call_in t others room) (later_calls rd t others room) (tree_at t block) s p in
        walk_key differ differ' shared id (c.0, bytes_at t.names m) (λ key s. called t (body_run names room) id c vs (call_of t s.next key (map kind_of vs) s.journal) s)
        (λ key s. called t (body_run others room) id c vs (call_of t s.next key (map kind_of vs) s.journal) s)
        (λ key. keyed_call (body_run names room) keeps id c vs key (map kind_of vs)) (λ key. keyed_call (body_run others room) keeps' id c vs key (map kind_of vs))
        (λ key e f n s d pre h. walk_called (body_run names room) (body_run others room) walks keeps keeps' id c vs (map kind_of vs) key n s d pre h _ _
        (two_calls t first second s.next key (map kind_of vs) (d ∷ pre)))
        (λ key key' e f n s h. part_called (body_run names room) (body_run others room) walks keeps keeps' id c vs (map kind_of vs) (c.0, bytes_at t.names m) key key' e f n s h) n s pre h

    pub walk_calls : (room : ℕ) → WalkCalls differ differ' shared (call_in t names room) (call_in t others room)
    unfolding call_in Keeps
    walk_calls zero id r m vs n s pre h = walk_received id (receiver r) (λ c s. Halt stop.Deep id s) (λ c s. Halt stop.Deep id s) (λ c n s pre h. Halts stop.Deep id s pre h) n s pre h
    walk_calls (suc room) id r m vs n s pre h = walk_received id (receiver r) (on_class names room id m vs) (on_class others room id m vs)
        (λ c n s pre h. walk_class room (walk_calls room) id m vs c n s pre h) n s pre h

  -- ── whole runs ──

  ended_is : (o : Outcome) (s : St) (l : List Act) (r : Run) → ended o s l ≡ Some r → (l ≡ []) × (record { outcome = o; output = s.output; acts = s.read; begun = s.begun } ≡ r)
  ended_is o s [] r e = (refl, same_Some (record { outcome = o; output = s.output; acts = s.read; begun = s.begun }) r e)
  ended_is o s (a ∷ l) r e = absurd (none-some r e)

  later_run : (rd : List (ℕ × Act)) (a : Answer) (r : Run) → Later rd a → run_of a ≡ Some r → IsPrefix rd r.acts
  unfolding Later
  later_run rd Lost r h e = absurd (none-some r e)
  later_run rd (Done v s) r h e = subst (λ (x : Run). IsPrefix rd x.acts) (ended_is (outcome.Done v) s s.journal r e).1 h
  later_run rd (Halt x id s) r h e = subst (λ (y : Run). IsPrefix rd y.acts) (ended_is (outcome.Stopped x (record { 0 = id })) s s.journal r e).1 h

  ends_run : (g : ℕ) (rd : List (ℕ × Act)) (l : List Act) (a : Answer) (r : Run) → EndsFull g rd l a → run_of a ≡ Some r → StopsFull g rd l r
  unfolding EndsFull
  ends_run g rd l Lost r h e = absurd (none-some r e)
  ends_run g rd l (Done v s) r h e = absurd h
  ends_run g rd l (Halt x id s) r h e =
      let is = ended_is (outcome.Stopped x (record { 0 = id })) s s.journal r e in
      let f = h.2 in
      let rest : l ≡ f.0 = f.3 ∙ ap (λ w. f.0 ++ w) is.0 ∙ append-nil f.0 in
      record {
        id = record { 0 = id };
        stops = ap (λ (y : Run). y.outcome) (sym is.1) ∙ ap (λ (y : Stop). outcome.Stopped y (record { 0 = id })) h.0;
        begun_is = ap (λ (y : Run). y.begun) (sym is.1) ∙ h.1;
        frees = subst AreFrees (sym rest) f.1;
        acts_are = ap (λ (y : Run). y.acts) (sym is.1) ∙ f.2 ∙ ap (λ w. rd ++ tagged g w) (sym rest);
      }

  none_of : (xs ys : List Act) → xs ++ ys ≡ [] → ys ≡ []
  none_of [] ys e = e
  none_of (x ∷ xs) ys e = cc e

  along_ends : (n : ℕ) (a b : Answer) (r w : Run) → Along n a b → run_of a ≡ Some r → run_of b ≡ Some w → GoOn t names others done first second r w
  along_ends n _ _ r w (FailsFirst b) e f = absurd (none-some r e)
  along_ends n _ _ r w (FailsSecond a) e f = absurd (none-some w f)
  along_ends n _ _ r w (Apart x a b l m oa ob) e f = Parted (record {
    at = x;
    first_read = later_run (read_with x x.a) a r l e;
    second_read = later_run (read_with x x.b) b w m f;
    first_stops = λ own. ends_run x.state.begun (x.state.read ++ tagged x.state.begun x.since) first a r (oa own) e;
    second_stops = λ own. ends_run x.state.begun (x.state.read ++ tagged x.state.begun x.since) second b w (ob own) f;
  })
  along_ends n _ _ r w (LacksFirst x a b rd l h) e f = FirstLacks (record {
    begun = x.begun;
    read = x.read;
    read_is = rd;
    name = x.name;
    full = x.full;
    key = x.key;
    has = x.has;
    b = x.act;
    behind = x.behind;
    is = x.is;
    goes_on = later_run (x.read ++ (x.begun, x.act) ∷ []) b w l f;
    stops = ends_run x.begun x.read first a r h e;
  })
  along_ends n _ _ r w (LacksSecond x a b rd l h) e f = SecondLacks (record {
    begun = x.begun;
    read = x.read;
    read_is = rd;
    name = x.name;
    full = x.full;
    key = x.key;
    has = x.has;
    b = x.act;
    behind = x.behind;
    is = x.is;
    goes_on = later_run (x.read ++ (x.begun, x.act) ∷ []) a r l e;
    stops = ends_run x.begun x.read second b w h f;
  })
  along_ends n _ _ r w (Both v s pre h) e f = Neither (none_of pre first (ended_is (outcome.Done v) (at s (pre ++ first)) (pre ++ first) r e).0)
      (none_of pre second (ended_is (outcome.Done v) (at s (pre ++ second)) (pre ++ second) w f).0)
      (sym (ended_is (outcome.Done v) (at s (pre ++ first)) (pre ++ first) r e).1 ∙ (ended_is (outcome.Done v) (at s (pre ++ second)) (pre ++ second) w f).1)
  along_ends n _ _ r w (Halts x id s pre h) e f = Neither (none_of pre first (ended_is (outcome.Stopped x (record { 0 = id })) (at s (pre ++ first)) (pre ++ first) r e).0)
      (none_of pre second (ended_is (outcome.Stopped x (record { 0 = id })) (at s (pre ++ second)) (pre ++ second) w f).0)
      (sym (ended_is (outcome.Stopped x (record { 0 = id })) (at s (pre ++ first)) (pre ++ first) r e).1 ∙
      (ended_is (outcome.Stopped x (record { 0 = id })) (at s (pre ++ second)) (pre ++ second) w f).1)

  pub runs_part : (room block steps : ℕ) (r w : Run) → Differ names → Differ others → AreShared names others done → script_run t names (call_in t names room) block steps (done ++ first) ≡ Some r
      → script_run t others (call_in t others room) block steps (done ++ second) ≡ Some w → GoOn t names others done first second r w
  runs_part room block steps r w differ differ' shared e f =
      along_ends 0 _ _ r w (walk_ev differ differ' shared (call_in t names room) (call_in t others room) (walk_calls differ differ' shared room) (λ rd. later_calls rd t names room)
      (λ rd. later_calls rd t others room)
      (tree_at t block) 0 (start steps []) done (refl, omega arith, tt)) e f
