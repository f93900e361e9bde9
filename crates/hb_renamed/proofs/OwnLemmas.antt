-- What a caller keeps of its checks, under other keys.
use Rattle.std.proofs.Common.{◌≡◌, ℕ, Bool, true, false, List, [], ◌∷◌, ◌++◌, map, Option, Some, None, refl, sym, ap, ◌∙◌, subst, eqb}
use Rattle.std.proofs.lemmas.List.{map-append}
use Rattle.std.specs.Prelude.{if◌then◌else◌, is_some}
use Rattle.std.specs.Option.{option_map}
use Rattle.hb_types.specs.declared.ids.BodySite.{BodySite}
use Rattle.hb_cache.specs.Cache.{Item, Items, nothing, unless_used, with_item, without_item, without_key_used}
use Rattle.hb_tables.specs.declared.entry.Act.{Act}
use Rattle.hb_tables.specs.declared.entry.Act.TheVariants.{Retype, Define, Call}
use Rattle.hb_tables.specs.declared.entry.By.{By}
use Rattle.hb_tables.specs.declared.entry.By.TheVariants as by
use Rattle.hb_tables.specs.declared.entry.Entry.{Entry}
use Rattle.hb_tables.specs.declared.entry.Verdict.{Verdict}
use Rattle.hb_tables.specs.declared.entry.Verdict.TheVariants as verdict
use Rattle.hb_tables.specs.Frames.{acts}
use Rattle.hb_tables.specs.History.{Every, Spot, spot}
use Rattle.hb_tables.specs.Standing.{Stand, standing}
use Rattle.hb_call.specs.Own.{OwnAgrees, brings, cache_from, cache_since, counts_of, item_by, kept_by}
use Rattle.hb_call.specs.Rules.{EntersBy, IsRightWay, IsWay}
use Rattle.hb_renamed.specs.Renaming.{rename, renamed}
use Rattle.hb_renamed.proofs.ActLemmas.{acts_renamed, back, eqb_renamed, every_renamed, spot_back, stand, standing_renamed}

-- what is kept of a check, and all that is kept, where s tells the former key
abbrev item_from : (ℕ → ℕ) → Item → Item
item_from s item = record { body = item.body; count = λ k. item.count (s k) }

abbrev items_from : (ℕ → ℕ) → Items → Items
items_from s items k = option_map (item_from s) (items (s k))

module _ (r s : ℕ → ℕ) (there : (k : ℕ) → s (r k) ≡ k) (here : (k : ℕ) → r (s k) ≡ k) where
  across : (j k : ℕ) → eqb (r j) k ≡ eqb j (s k)
  across j k = ap (eqb (r j)) (sym (here k)) ∙ eqb_renamed r s there here j (s k)

  back_across : (k j : ℕ) → eqb k (r j) ≡ eqb (s k) j
  back_across k j = ap (λ n. eqb n (r j)) (sym (here k)) ∙ eqb_renamed r s there here (s k) j

  counts_from : (hs : List Stand) (k : ℕ) → counts_of (map (stand r) hs) k ≡ counts_of hs (s k)
  counts_from [] k = refl
  counts_from (h ∷ hs) k = λ i. if back_across k h.key i then Some h.changes else counts_from hs k i

  item_by_from : (hs : List Stand) (site : BodySite) → item_by (map (stand r) hs) site ≡ item_from s (item_by hs site)
  item_by_from hs site i = record { body = site; count = λ k. counts_from hs k i }

  with_from : (key : ℕ) (item : Item) (items : Items) → with_item (r key) (item_from s item) (items_from s items) ≡ items_from s (with_item key item items)
  with_from key item items i k = (ap (λ b. if b then Some (item_from s item) else items_from s items k) (across key k) ∙ go (eqb key (s k))) i
    where
      go : (b : Bool) → (if b then Some (item_from s item) else items_from s items k) ≡ option_map (item_from s) (if b then Some item else items (s k))
      go true = refl
      go false = refl

  without_from : (key : ℕ) (items : Items) → without_item (r key) (items_from s items) ≡ items_from s (without_item key items)
  without_from key items i k = (ap (λ b. if b then None else items_from s items k) (across key k) ∙ go (eqb key (s k))) i
    where
      go : (b : Bool) → (if b then None else items_from s items k) ≡ option_map (item_from s) (if b then None else items (s k))
      go true = refl
      go false = refl

  used_from : (key : ℕ) (o : Option Item) → unless_used (r key) (option_map (item_from s) o) ≡ option_map (item_from s) (unless_used key o)
  used_from key None = refl
  used_from key (Some item) = ap (λ n. if is_some (item.count n) then None else Some (item_from s item)) (there key) ∙ go (is_some (item.count key))
    where
      go : (b : Bool) → (if b then None else Some (item_from s item)) ≡ option_map (item_from s) (if b then None else Some item)
      go true = refl
      go false = refl

  without_used_from : (key : ℕ) (items : Items) → without_key_used (r key) (items_from s items) ≡ items_from s (without_key_used key items)
  without_used_from key items i k = used_from key (items (s k)) i

  kept_from : (before : List Act) (items : Items) (a : Act) → kept_by (map (rename r) before) (items_from s items) (rename r a) ≡ items_from s (kept_by before items a)
  kept_from before items (Call key q (Some site) args v) = go (brings v)
    where
      new : with_item (r key.0) (item_by (standing q.0 (map (rename r) before)) site) (items_from s items) ≡ items_from s (with_item key.0 (item_by (standing q.0 before) site) items)
      new = ap (λ hs. with_item (r key.0) (item_by hs site) (items_from s items)) (standing_renamed r s there here q.0 before)
          ∙ ap (λ x. with_item (r key.0) x (items_from s items)) (item_by_from (standing q.0 before) site) ∙ with_from key.0 (item_by (standing q.0 before) site) items

      go : (b : Bool) → (if b then with_item (r key.0) (item_by (standing q.0 (map (rename r) before)) site) (items_from s items) else items_from s items)
          ≡ items_from s (if b then with_item key.0 (item_by (standing q.0 before) site) items else items)
      go true = new
      go false = refl
  kept_from before items (Retype key site) = without_used_from key.0 items
  kept_from before items (Define key site) = without_from key.0 items
  kept_from before items _ = refl

  cache_renamed : (before : List Act) (items : Items) (l : List Act) → cache_from (map (rename r) before) (items_from s items) (map (rename r) l) ≡ items_from s (cache_from before items l)
  cache_renamed before items [] = refl
  cache_renamed before items (a ∷ l) =
      (λ i. cache_from (sym (map-append (rename r) before (a ∷ [])) i) (kept_from before items a i) (map (rename r) l)) ∙ cache_renamed (before ++ a ∷ []) (kept_by before items a) l

  since_renamed : (c : ℕ) (log : List Entry) → cache_since [] (acts c (renamed r log)) ≡ items_from s (cache_since [] (acts c log))
  since_renamed c log = ap (cache_since []) (acts_renamed r c log) ∙ cache_renamed [] nothing (acts c log)

  pub agrees_renamed : (c k : ℕ) (log : List Entry) → OwnAgrees c [] k log → OwnAgrees c [] (r k) (renamed r log)
  agrees_renamed c k log x = record {
    item = item_from s x.item;
    kept = ap (λ (f : Items). f (r k)) (since_renamed c log) ∙ ap (λ n. option_map (item_from s) (cache_since [] (acts c log) n)) (there k) ∙ ap (option_map (item_from s)) x.kept;
    agrees = record {
      body = ap (λ (y : Spot). y.body) (spot_back r s there here (r k) log) ∙ ap (λ n. (spot n log).body) (there k) ∙ x.agrees.body;
      counts = λ j n e. ap (λ (y : Spot). y.changes) (spot_back r s there here j log) ∙ x.agrees.counts (s j) n e;
    };
  }

module _ (r s : ℕ → ℕ) (there : (k : ℕ) → s (r k) ≡ k) (here : (k : ℕ) → r (s k) ≡ k) where
  way_renamed : (c k : ℕ) (log : List Entry) (w : By) → IsWay c [] k log w → IsWay c [] (r k) (renamed r log) w
  way_renamed c k log by.Own h = agrees_renamed r s there here c k log h
  way_renamed c k log by.Fresh h = λ x. h (subst (λ n. OwnAgrees c [] n log) (there k)
      (subst (OwnAgrees c [] (s (r k))) (back r s there log) (agrees_renamed s r here there c (r k) (renamed r log) x)))
  way_renamed c k log by.Shared h = h

  right_renamed : (c k : ℕ) (log : List Entry) (v : Verdict) → IsRightWay c [] k log v → IsRightWay c [] (r k) (renamed r log) v
  right_renamed c k log (verdict.Enter w) h = way_renamed c k log w h
  right_renamed c k log _ h = tt

  enters_renamed : (c : ℕ) (log : List Entry) (a : Act) → EntersBy c [] log a → EntersBy c [] (renamed r log) (rename r a)
  enters_renamed c log (Call key q site args v) h = right_renamed c key.0 log v h
  enters_renamed c log _ h = tt

  pub ways_renamed : (log : List Entry) → Every (λ before e. EntersBy e.caller.0 [] before e.act) log → Every (λ before e. EntersBy e.caller.0 [] before e.act) (renamed r log)
  ways_renamed log h = every_renamed r s there here (λ before e. EntersBy e.caller.0 [] before e.act) (λ before e. EntersBy e.caller.0 [] before e.act)
      (λ before e x. enters_renamed e.caller.0 before e.act x) log h
