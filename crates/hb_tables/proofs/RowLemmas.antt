-- The row of a Call depends on the needed methods alone, and holds for longer lists of names.
use Rattle.std.proofs.Common.{◌≡◌, ℕ, suc, List, [], ◌∷◌, ◌++◌, Option, Some, sym, refl, ap, ◌∙◌, subst, arith}
use Rattle.std.specs.Prelude.{map, Contains}
use Rattle.hb_types.specs.declared.types.Ty.{Ty}
use Rattle.hb_types.specs.declared.ids.BodySite.{BodySite}
use Rattle.hb_tree.specs.Table.{Table}
use Rattle.hb_deriv.specs.Judge.{Key}
use Rattle.hb_deriv.specs.Events.{SameAt}
use Rattle.hb_deriv.specs.Derivation.{type_at}
use Rattle.hb_deriv.specs.Programs.{sites_of}
use Rattle.hb_tables.specs.declared.entry.Entry.{Entry}
use Rattle.hb_tables.specs.declared.entry.Act.{Act}
use Rattle.hb_tables.specs.declared.entry.Act.TheVariants.{Hold, Free, Retype, Busy, WornType, Define, WornDef, Call}
use Rattle.hb_tables.specs.declared.entry.Verdict.{Verdict}
use Rattle.hb_names.specs.Names.{Name}
use Rattle.hb_names.proofs.NameLemmas.{place-append}
use Rattle.hb_tables.specs.Names.{name_of, key_in}
use Rattle.hb_tables.specs.Verdicts.{looks_of}
use Rattle.hb_tables.proofs.VerdictLemmas.{verdict_same}
use Rattle.hb_tables.specs.Rows.{site_in, body_at, types_in, type_of_key, needs_in, HoldsName, IsDecided, kinds_of, FitsCall, HasCallRows}

name_longer : (names more : List Name) (log : List Entry) (x : ℕ × ℕ) (p : Name) → HoldsName names log x p → HoldsName (names ++ more) log x p
name_longer names more log x p h = (h.0, place-append names more p h.0 h.1, h.2)

-- a method whose name has a key has that key's type
pub key_type : (t : Table) (names : List Name) (log : List Entry) (k : Key) (j : ℕ) → key_in t names k ≡ Some j → types_in t names log k ≡ type_of_key t log j
key_type t names log k j is = ap (λ o. type_at (sites_of t) (site_in log o)) is

-- a list of names and a longer one give held keys the same types
types_longer : (t : Table) (names more : List Name) (log : List Entry) (x : ℕ × ℕ) (ks : List Key) → ((p : Name) → Contains (map (name_of t) ks) p → HoldsName names log x p)
    → SameAt (types_in t names log) (types_in t (names ++ more) log) ks
types_longer t names more log x [] h = tt
types_longer t names more log x (k ∷ ks) h =
    let one = h (name_of t k) (0, omega arith, refl) in
    (ap (λ o. type_at (sites_of t) (site_in log o)) (one.1 ∙ sym (place-append names more (name_of t k) one.0 one.1)), types_longer t names more log x ks (λ p i. h p (let n = i.1 in (suc i.0, omega arith, i.2))))

-- a Call that fits its row for a list of names fits it for every longer list
pub row_longer : (t : Table) (names more : List Name) (log : List Entry) (x : ℕ × ℕ) (key : ℕ) (site : Option BodySite) (kinds : List Ty) (v : Verdict) → IsDecided t names log x key site kinds v
    → IsDecided t (names ++ more) log x key site kinds v
row_longer t names more log x key site kinds v d =
    let b = body_at t site in let m = type_of_key t log key in
    let ks : List Key = looks_of t (types_in t names log) d.name.0 b m kinds in
    let r = verdict_same t (types_in t names log) (types_in t (names ++ more) log) d.name.0 b m kinds (types_longer t names more log x ks (λ p i. d.held p (let n = i.1 in (suc i.0, omega arith, i.2)))) in
    let same : needs_in t names log d.name key site kinds ≡ needs_in t (names ++ more) log d.name key site kinds = ap (λ l. d.name ∷ map (name_of t) l) r.keys in
    record {
      name = d.name;
      is = place-append names more d.name key d.is;
      defined = d.defined;
      rules = d.rules ∙ r.verdict;
      held = λ p i. name_longer names more log x p (d.held p (subst (λ (l : List Name). Contains l p) (sym same) i));
      only = λ j h. let o = d.only j h in (o.0, subst (λ (l : List Name). Contains l o.0) same o.1, place-append names more o.0 j o.2);
    }

fits_longer : (t : Table) (names more : List Name) (c : ℕ) (log : List Entry) (a : Act) → FitsCall t names c log a → FitsCall t (names ++ more) c log a
fits_longer t names more c log (Call key q site args v) d = (row_longer t names more log (c, q.0) key.0 site (kinds_of args) v d.0, d.1)
fits_longer _ _ _ _ _ _ d = d

-- and so do all Calls of a list
pub rows_longer : (t : Table) (names more : List Name) (log : List Entry) → HasCallRows t names log → HasCallRows t (names ++ more) log
rows_longer t names more log rows before after e is = fits_longer t names more e.caller.0 before e.act (rows before after e is)
