-- What a call does behind its first Hold, it does for arguments that its method's type takes.
use Rattle.std.proofs.Common.{◌≡◌, ℕ, true, List, [], ◌∷◌, ◌++◌, Option, Some, None, refl, sym, ap, ◌∙◌, subst}
use Rattle.std.proofs.lemmas.List.{append-nil}
use Rattle.std.specs.Option.{option_map}
use Rattle.hb_types.specs.declared.ids.CallNo.{CallNo}
use Rattle.hb_types.specs.declared.ids.KeyId.{KeyId}
use Rattle.hb_types.specs.declared.ids.TypeSite.{TypeSite}
use Rattle.hb_types.specs.declared.types.MethodTy.{MethodTy}
use Rattle.hb_types.specs.declared.types.Ty.{Ty}
use Rattle.hb_tree.specs.Table.{Table}
use Rattle.hb_deriv.specs.Derivation.{type_at}
use Rattle.hb_deriv.specs.Programs.{sites_of}
use Rattle.hb_tables.specs.declared.desk.Held.{Held}
use Rattle.hb_tables.specs.declared.entry.Act.TheVariants.{Hold}
use Rattle.hb_tables.specs.declared.entry.Entry.{Entry}
use Rattle.hb_tables.specs.History.{Adds, IsLegal, entry, spot}
use Rattle.hb_tables.specs.Rows.{type_of_key}
use Rattle.hb_tables.specs.Verdicts.{takes, typed_takes}
use Rattle.hb_tables.proofs.AddingLemmas.{held_after}
use Rattle.hb_tables.proofs.HistoryLemmas.{legal_prefix}
use Rattle.hb_call.specs.Calling.{HasType}
use Rattle.hb_call.specs.Reading.{takes_at}
use Rattle.hb_call.specs.Rules.{Began}
use Rattle.hb_call.proofs.StartLemmas.{none_held}
use Rattle.hb_call.proofs.StayLemmas.{hold_finds, type_stays}
use Rattle.hb_ordered.specs.Asking.{TakesAt}

-- the type that the first Hold found is that of the key
began_type : (limit c : ℕ) (q : CallNo) (key : KeyId) (start log : List Entry) (b : Began c q key start log) → IsLegal limit log → b.ty ≡ (spot key.0 log).ty
began_type limit c q key start log b legal =
    let low : IsLegal limit start = legal_prefix limit start log (b.since, b.goes) legal in
    let adds : Adds c b.before start (Hold key q b.ty b.changes) = ([], b.is ∙ ap (λ w. w ++ entry c (Hold key q b.ty b.changes) ∷ []) (sym (append-nil b.before)), refl) in
    let finds = hold_finds limit c q key b.ty b.changes b.before start adds low in
    let found : Held = record { ty = b.ty; changes = b.changes } in
    let typed : HasType start (c, q.0) key.0 found = (held_after c b.before start q key b.ty b.changes adds (none_held c q.0 key.0 b.before b.none), finds.0, finds.1) in
    (subst (λ l. HasType l (c, q.0) key.0 found) b.goes (type_stays limit c q.0 start b.since (subst (IsLegal limit) (sym b.goes) legal) key.0 b.keeps found typed)).1

typed_so : (m : Option MethodTy) (kinds : List Ty) → typed_takes m kinds ≡ true → (n : MethodTy) × (m ≡ Some n) × (takes n kinds ≡ true)
typed_so None kinds h = absurd (cc h)
typed_so (Some m) kinds h = (m, refl, h)

pub began_takes : (t : Table) (limit c : ℕ) (q : CallNo) (key : KeyId) (start log : List Entry) (b : Began c q key start log) (kinds : List Ty) → IsLegal limit log → takes_at t b.ty kinds ≡ true
    → TakesAt t log key.0 kinds
began_takes t limit c q key start log b kinds legal fits =
    let ty : takes_at t b.ty kinds ≡ typed_takes (type_of_key t log key.0) kinds = ap (λ (o : Option TypeSite). typed_takes (type_at (sites_of t) (option_map (λ (s : TypeSite). s.0) o)) kinds)
    (began_type limit c q key start log b legal) in
    typed_so (type_of_key t log key.0) kinds (sym ty ∙ fits)
