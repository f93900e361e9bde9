-- Acts and entries under other keys.
use Rattle.std.proofs.Common.{◌≡◌, inl, inr, ℕ, Bool, true, false, List, [], ◌∷◌, ◌++◌, ◌+◌, map, refl, sym, ap, ◌∙◌, subst, cond, eqb, eq-eqb, ne_eqb}
use Rattle.std.proofs.lemmas.Bool.Decides.{eqb_tells}
use Rattle.std.proofs.lemmas.List.{map-append}
use mathlib.Core.List.{IsPrefix}
use Rattle.std.specs.Prelude.{◌&&◌}
use Rattle.hb_types.specs.declared.ids.KeyId.{KeyId}
use Rattle.hb_types.specs.declared.ids.CallNo.{CallNo}
use Rattle.hb_tables.specs.declared.entry.Act.{Act}
use Rattle.hb_tables.specs.declared.entry.Act.TheVariants.{Hold, Free, Retype, Busy, WornType, Define, WornDef, Call}
use Rattle.hb_tables.specs.declared.entry.Entry.{Entry}
use Rattle.hb_tables.specs.Frames.{KeepsHold, acts, frees_key}
use Rattle.hb_tables.specs.History.{Every, Fits, FitsAct, IsLegal, Spot, blank, done, entry, key_of, spot, spot_from, turn}
use Rattle.hb_tables.specs.Standing.{Stand, all_but, stand_done, standing, standing_from}
use Rattle.hb_call.specs.Held.{HasCall, stands}
use Rattle.hb_call.specs.Rules.{Began, IsWhole, gives, runs}
use Rattle.hb_renamed.specs.Renaming.{rename, rename_entry, rename_key, renamed}

-- ── there and back ──

-- one renaming behind another one is a third
along_act : (f g h : ℕ → ℕ) → ((k : ℕ) → g (f k) ≡ h k) → (a : Act) → rename g (rename f a) ≡ rename h a
along_act f g h gf (Hold key q ty n) i = Hold (record { 0 = gf key.0 i }) q ty n
along_act f g h gf (Free key q) i = Free (record { 0 = gf key.0 i }) q
along_act f g h gf (Retype key site) i = Retype (record { 0 = gf key.0 i }) site
along_act f g h gf (Busy key pins) i = Busy (record { 0 = gf key.0 i }) pins
along_act f g h gf (WornType key) i = WornType (record { 0 = gf key.0 i })
along_act f g h gf (Define key site) i = Define (record { 0 = gf key.0 i }) site
along_act f g h gf (WornDef key) i = WornDef (record { 0 = gf key.0 i })
along_act f g h gf (Call key q site args v) i = Call (record { 0 = gf key.0 i }) q site args v

pub renamed_along : (f g h : ℕ → ℕ) → ((k : ℕ) → g (f k) ≡ h k) → (log : List Entry) → renamed g (renamed f log) ≡ renamed h log
renamed_along f g h gf [] = refl
renamed_along f g h gf (e ∷ log) = λ i. record { caller = e.caller; act = along_act f g h gf e.act i } ∷ renamed_along f g h gf log i

same_act : (a : Act) → rename (λ k. k) a ≡ a
same_act (Hold key q ty n) = refl
same_act _ = refl

same_log : (log : List Entry) → renamed (λ k. k) log ≡ log
same_log [] = refl
same_log (e ∷ log) = λ i. record { caller = e.caller; act = same_act e.act i } ∷ same_log log i

pub back_entry : (f g : ℕ → ℕ) → ((k : ℕ) → g (f k) ≡ k) → (e : Entry) → rename_entry g (rename_entry f e) ≡ e
back_entry f g gf e i = record { caller = e.caller; act = (along_act f g (λ k. k) gf e.act ∙ same_act e.act) i }

pub back : (f g : ℕ → ℕ) → ((k : ℕ) → g (f k) ≡ k) → (log : List Entry) → renamed g (renamed f log) ≡ log
back f g gf log = renamed_along f g (λ k. k) gf log ∙ same_log log

pub join : (r : ℕ → ℕ) (l m : List Entry) → renamed r (l ++ m) ≡ renamed r l ++ renamed r m
join r l m = map-append (rename_entry r) l m

pub prefix_renamed : (r : ℕ → ℕ) (l m : List Entry) → IsPrefix l m → IsPrefix (renamed r l) (renamed r m)
prefix_renamed r l m p = (renamed r p.0, sym (join r l p.0) ∙ ap (renamed r) p.1)

pub cut_renamed : (r : ℕ → ℕ) (log before after : List Entry) (e : Entry) → log ≡ before ++ e ∷ after → renamed r log ≡ renamed r before ++ rename_entry r e ∷ renamed r after
cut_renamed r log before after e is = ap (renamed r) is ∙ join r before (e ∷ after)

pub key_renamed : (r : ℕ → ℕ) (a : Act) → key_of (rename r a) ≡ r (key_of a)
key_renamed r (Hold key q ty n) = refl
key_renamed r _ = refl

pub acts_renamed : (r : ℕ → ℕ) (c : ℕ) (log : List Entry) → acts c (renamed r log) ≡ map (rename r) (acts c log)
acts_renamed r c [] = refl
acts_renamed r c (e ∷ log) = go (eqb c e.caller.0) (acts_renamed r c log)
  where
    go : (b : Bool) → acts c (renamed r log) ≡ map (rename r) (acts c log) → cond b (rename r e.act ∷ acts c (renamed r log)) (acts c (renamed r log)) ≡ map (rename r) (cond b (e.act ∷ acts c log)
        (acts c log))
    go true h = ap (λ l. rename r e.act ∷ l) h
    go false h = h

-- a Hold that stands, of its key under the other name
abbrev pub stand : (ℕ → ℕ) → Stand → Stand
stand r h = record h { key = r h.key }

-- ── for keys that stay apart ──

module _ (r s : ℕ → ℕ) (there : (k : ℕ) → s (r k) ≡ k) (here : (k : ℕ) → r (s k) ≡ k) where
  pub eqb_renamed : (j k : ℕ) → eqb (r j) (r k) ≡ eqb j k
  eqb_renamed j k = elim (eqb_tells j k) [
    | inl same ↦ eq-eqb (r j) (r k) (ap r same.1) ∙ sym same.0
    | inr not ↦ ne_eqb (r j) (r k) (λ e. not.1 (sym (there j) ∙ ap s e ∙ there k)) ∙ sym not.0
  ]

  pub every_renamed : (F G : List Entry → Entry → Type 0) → ((before : List Entry) (e : Entry) → F before e → G (renamed r before) (rename_entry r e)) → (log : List Entry) → Every F log
      → Every G (renamed r log)
  every_renamed F G step log h before after e is =
      let cut : log ≡ renamed s before ++ rename_entry s e ∷ renamed s after = sym (back r s there log) ∙ cut_renamed s (renamed r log) before after e is in
      subst (λ b. G b e) (back s r here before) (subst (G (renamed r (renamed s before))) (back_entry s r here e) (step (renamed s before) (rename_entry s e)
      (h (renamed s before) (renamed s after) (rename_entry s e) cut)))

  -- ── the state of a key ──

  done_renamed : (c : ℕ) (x : Spot) (a : Act) → done c x (rename r a) ≡ done c x a
  done_renamed c x (Hold key q ty n) = refl
  done_renamed c x _ = refl

  turn_renamed : (k : ℕ) (x : Spot) (e : Entry) → turn (r k) x (rename_entry r e) ≡ turn k x e
  turn_renamed k x e = ap (λ n. cond (eqb (r k) n) (done e.caller.0 x (rename r e.act)) x) (key_renamed r e.act) ∙ (λ i. cond (eqb_renamed k (key_of e.act) i) (done_renamed e.caller.0 x e.act i) x)

  spot_from_renamed : (k : ℕ) (x : Spot) (log : List Entry) → spot_from (r k) x (renamed r log) ≡ spot_from k x log
  spot_from_renamed k x [] = refl
  spot_from_renamed k x (e ∷ log) = ap (λ y. spot_from (r k) y (renamed r log)) (turn_renamed k x e) ∙ spot_from_renamed k (turn k x e) log

  pub spot_renamed : (k : ℕ) (log : List Entry) → spot (r k) (renamed r log) ≡ spot k log
  spot_renamed k log = spot_from_renamed k blank log

  pub spot_back : (k : ℕ) (log : List Entry) → spot k (renamed r log) ≡ spot (s k) log
  spot_back k log = ap (λ n. spot n (renamed r log)) (sym (here k)) ∙ spot_renamed (s k) log

  fits_act : (limit c : ℕ) (x : Spot) (a : Act) → FitsAct limit c x a → FitsAct limit c x (rename r a)
  fits_act limit c x (Hold key q ty n) h = h
  fits_act limit c x _ h = h

  pub legal_renamed : (limit : ℕ) (log : List Entry) → IsLegal limit log → IsLegal limit (renamed r log)
  legal_renamed limit log h = every_renamed (Fits limit) (Fits limit) (λ before e fits.
      subst (λ x. FitsAct limit e.caller.0 x (rename r e.act)) (sym (ap (λ n. spot n (renamed r before)) (key_renamed r e.act) ∙ spot_renamed (key_of e.act) before))
      (fits_act limit e.caller.0 (spot (key_of e.act) before) e.act fits)) log h

  -- ── what a call holds ──

  pub all_but_renamed : (k : ℕ) (hs : List Stand) → all_but (r k) (map (stand r) hs) ≡ map (stand r) (all_but k hs)
  all_but_renamed k [] = refl
  all_but_renamed k (h ∷ hs) = ap (λ b. cond b (all_but (r k) (map (stand r) hs)) (stand r h ∷ all_but (r k) (map (stand r) hs))) (eqb_renamed k h.key) ∙ go (eqb k h.key) (all_but_renamed k hs)
    where
      go : (b : Bool) → all_but (r k) (map (stand r) hs) ≡ map (stand r) (all_but k hs) → cond b (all_but (r k) (map (stand r) hs)) (stand r h ∷ all_but (r k) (map (stand r) hs)) ≡ map (stand r)
          (cond b (all_but k hs) (h ∷ all_but k hs))
      go true e = e
      go false e = ap (λ l. stand r h ∷ l) e

  stand_done_renamed : (q : ℕ) (hs : List Stand) (a : Act) → stand_done q (map (stand r) hs) (rename r a) ≡ map (stand r) (stand_done q hs a)
  stand_done_renamed q hs (Hold key p ty n) = go (eqb q p.0)
    where
      new : Stand
      new = record { key = key.0; ty = ty; changes = n }

      go : (b : Bool) → cond b (map (stand r) hs ++ stand r new ∷ []) (map (stand r) hs) ≡ map (stand r) (cond b (hs ++ new ∷ []) hs)
      go true = sym (map-append (stand r) hs (new ∷ []))
      go false = refl
  stand_done_renamed q hs (Free key p) = go (eqb q p.0)
    where
      go : (b : Bool) → cond b (all_but (r key.0) (map (stand r) hs)) (map (stand r) hs) ≡ map (stand r) (cond b (all_but key.0 hs) hs)
      go true = all_but_renamed key.0 hs
      go false = refl
  stand_done_renamed q hs _ = refl

  standing_from_renamed : (q : ℕ) (hs : List Stand) (l : List Act) → standing_from q (map (stand r) hs) (map (rename r) l) ≡ map (stand r) (standing_from q hs l)
  standing_from_renamed q hs [] = refl
  standing_from_renamed q hs (a ∷ l) = ap (λ z. standing_from q z (map (rename r) l)) (stand_done_renamed q hs a) ∙ standing_from_renamed q (stand_done q hs a) l

  pub standing_renamed : (q : ℕ) (l : List Act) → standing q (map (rename r) l) ≡ map (stand r) (standing q l)
  standing_renamed q l = standing_from_renamed q [] l

  pub stands_renamed : (c q : ℕ) (log : List Entry) → stands c q (renamed r log) ≡ map (stand r) (stands c q log)
  stands_renamed c q log = ap (standing q) (acts_renamed r c log) ∙ standing_renamed q (acts c log)

  frees_key_renamed : (q k : ℕ) (a : Act) → frees_key q (r k) (rename r a) ≡ frees_key q k a
  frees_key_renamed q k (Free key p) = ap (λ b. eqb q p.0 && b) (eqb_renamed k key.0)
  frees_key_renamed q k _ = refl

  pub keeps_renamed : (q k : ℕ) (l : List Act) → KeepsHold q k l → KeepsHold q (r k) (map (rename r) l)
  keeps_renamed q k [] h = tt
  keeps_renamed q k (a ∷ l) h = (frees_key_renamed q k a ∙ h.0, keeps_renamed q k l h.1)

  pub runs_renamed : (q : ℕ) (going : Bool) (l : List Act) → runs q going (map (rename r) l) ≡ runs q going l
  runs_renamed q going [] = refl
  runs_renamed q going (Hold key p ty n ∷ l) = λ i. cond (eqb q p.0) (runs_renamed q false l i) (runs_renamed q going l i)
  runs_renamed q going (Free key p ∷ l) = λ i. cond (eqb q p.0) (cond going 0 1 + runs_renamed q true l i) (runs_renamed q going l i)
  runs_renamed q going (_ ∷ l) = runs_renamed q going l

  gives_renamed : (q : ℕ) (going : Bool) (l : List Act) → gives q going (map (rename r) l) ≡ gives q going l
  gives_renamed q going [] = refl
  gives_renamed q going (Hold key p ty n ∷ l) = gives_renamed q (cond (eqb q p.0) false going) l
  gives_renamed q going (Free key p ∷ l) = gives_renamed q (cond (eqb q p.0) true going) l
  gives_renamed q going (_ ∷ l) = gives_renamed q going l

  pub whole_renamed : (c q : ℕ) (log : List Entry) → IsWhole c q log → IsWhole c q (renamed r log)
  whole_renamed c q log h e =
      let one = h (sym (ap (gives q false) (acts_renamed r c log) ∙ gives_renamed q false (acts c log)) ∙ e) in
      (stand r one.0, stands_renamed c q log ∙ ap (map (stand r)) one.1)

  pub none_renamed : (c q : ℕ) (log : List Entry) → stands c q log ≡ [] → stands c q (renamed r log) ≡ []
  none_renamed c q log h = stands_renamed c q log ∙ ap (map (stand r)) h

  pub has_call_renamed : (c q : ℕ) (log : List Entry) → HasCall c q log → HasCall c q (renamed r log)
  has_call_renamed c q log h = record {
    before = renamed r h.before;
    call = h.call;
    key = rename_key r h.key;
    site = h.site;
    args = h.args;
    verdict = h.verdict;
    after = renamed r h.after;
    is = cut_renamed r log h.before h.after (entry c (Call h.key h.call h.site h.args h.verdict)) h.is;
    number = h.number;
  }

  unfoldable pub began_renamed : (c : ℕ) (q : CallNo) (key : KeyId) (start log : List Entry) → Began c q key start log → Began c q (rename_key r key) (renamed r start) (renamed r log)
  began_renamed c q key start log b = record {
    before = renamed r b.before;
    ty = b.ty;
    changes = b.changes;
    is = cut_renamed r start b.before [] (entry c (Hold key q b.ty b.changes)) b.is;
    none = none_renamed c q.0 b.before b.none;
    since = renamed r b.since;
    goes = sym (join r start b.since) ∙ ap (renamed r) b.goes;
    keeps = subst (KeepsHold q.0 (r key.0)) (sym (acts_renamed r c b.since)) (keeps_renamed q.0 key.0 (acts c b.since) b.keeps);
  }
