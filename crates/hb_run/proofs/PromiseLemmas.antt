-- Why each history keeps the promise.
use Rattle.std.proofs.Common.{◌≡◌, ℕ, zero, suc, List, [], ◌∷◌, ◌++◌, map, Option, Some, None, Bool, true, false, refl, sym, ap, ◌∙◌, subst, arith, option_map}
use Rattle.std.specs.Prelude.{◌↔◌, Contains, slice_get}
use Rattle.std.specs.List.{AllByRecursion}
use Rattle.std.proofs.lemmas.List.Elements.{Contains-append_right}
use Rattle.std.proofs.lemmas.Option.{none-some}
use Rattle.hb_types.specs.declared.ids.NameId.{NameId}
use Rattle.hb_types.specs.declared.types.Ty.{Ty}
use Rattle.hb_types.specs.declared.types.MethodTy.{MethodTy}
use Rattle.hb_types.specs.declared.ids.NodeId.{NodeId}
use Rattle.hb_tree.specs.declared.parts.Body.{Body}
use Rattle.hb_tree.specs.Roots.{roots, setup_root}
use Rattle.hb_tree.specs.Table.{Table}
use Rattle.hb_tree.specs.TreeAt.{tree_at}
use Rattle.hb_deriv.specs.Judge.{Types}
use Rattle.hb_deriv.specs.Judgement.{IsJudged}
use Rattle.hb_names.specs.Names.{Name}
use Rattle.hb_tables.specs.declared.entry.Act.{Act}
use Rattle.hb_tables.specs.declared.entry.Act.TheVariants.{Hold, Free, Retype, Busy, WornType, Define, WornDef, Call}
use Rattle.hb_tables.specs.declared.entry.By.TheVariants as by
use Rattle.hb_tables.specs.declared.entry.Entry.{Entry}
use Rattle.hb_tables.specs.declared.entry.Verdict.{Verdict}
use Rattle.hb_tables.specs.declared.entry.Verdict.TheVariants as verdict
use Rattle.hb_tables.specs.Rows.{FitsCall, body_at, kinds_of, type_of_key, types_in}
use Rattle.hb_tables.specs.Verdicts.{Reaches, as_fresh, verdict_of}
use Rattle.hb_eval.specs.Told.{Told, is_done}
use Rattle.hb_eval.specs.declared.stop.Outcome.TheVariants.{Stopped}
use Rattle.hb_eval.specs.declared.stop.Stop.{Stop}
use Rattle.hb_sound.specs.Scripts.{EndsWell, IsInBody}
use Rattle.hb_sound.specs.Sound.{IsNamed}
use Rattle.hb_run.specs.History.{AreAllRuns, AreRuns, IsRunOf, RunBehind, block_of, callers_from}
use Rattle.hb_run.specs.Headline.{DoesEnter, EntersRightly, StopsInBodies, StopsRightly}

-- a verdict enters exactly where a fresh one does
enters-fresh : (v : Verdict) → DoesEnter v → as_fresh v ≡ verdict.Enter by.Fresh
enters-fresh v (way, is) = ap as_fresh is

fresh-enters : (v : Verdict) → as_fresh v ≡ verdict.Enter by.Fresh → DoesEnter v
fresh-enters (verdict.Enter way) e = (way, refl)
fresh-enters _ e = absurd cc

abbrev pub Enters : Type 0
Enters = (t : Table) (types : Types) (class : ℕ) (b : Option Body) (m : Option MethodTy) (kinds : List Ty)
    → (verdict_of t types class b m kinds ≡ verdict.Enter by.Fresh) ↔ Reaches (IsJudged types) t class b m kinds

-- an act that fits the row of a Call enters rightly
pub enters-rightly : Enters → (t : Table) (names : List Name) (c : ℕ) (before : List Entry) (a : Act) → FitsCall t names c before a → EntersRightly t names before a
enters-rightly law t names c before (Call key q site args v) row =
    let same = law t (types_in t names before) row.0.name.0 (body_at t site) (type_of_key t before key.0) (kinds_of args) in
    (row.0.name, row.0.is, row.0.defined, ((λ enters. same.0 (sym row.0.rules ∙ enters-fresh v enters)), (λ reaches. fresh-enters v (row.0.rules ∙ same.1 reaches))))
enters-rightly _ _ _ _ _ _ _ = tt

-- what is true of each run is true of all
run-all : (P : Told → Type 0) (t : Table) (names : List Name) (steps : ℕ) (log : List Entry) → ((c : ℕ) (r : Told) → IsRunOf t names steps log c r → P r)
    → (cs : List ℕ) (rs : List Told) → AreRuns t names steps log cs rs → AllByRecursion P rs
run-all P t names steps log each [] [] are = tt
run-all P t names steps log each (c ∷ cs) (r ∷ rs) are = (each c r are.0, run-all P t names steps log each cs rs are.1)
run-all _ _ _ _ _ _ _ _ are = absurd are

behind-all : (P : Told → Type 0) (t : Table) (names : List Name) (steps : ℕ) (log : List Entry) → ((c : ℕ) (r : Told) → IsRunOf t names steps log c r → P r)
    → (setup_done : Bool) (rs : List Told) → RunBehind t names steps log setup_done rs → AllByRecursion P rs
behind-all P t names steps log each true rs are = run-all P t names steps log each (callers_from 1 t.scripts) rs are
behind-all P t names steps log each false rs are = subst (AllByRecursion P) (sym are.0) tt

pub each-run : (P : Told → Type 0) (t : Table) (names : List Name) (steps : ℕ) (log : List Entry) → ((c : ℕ) (r : Told) → IsRunOf t names steps log c r → P r)
    → (setup : Option NodeId) (rs : List Told) → AreAllRuns t names steps log setup rs → AllByRecursion P rs
each-run P t names steps log each None rs are = run-all P t names steps log each (callers_from 1 t.scripts) rs are
each-run P t names steps log each (Some block) [] are = absurd are
each-run P t names steps log each (Some block) (r ∷ rs) are = (each 0 r are.0, behind-all P t names steps log each (is_done r.outcome) rs are.1)

-- one block is a caller's
same-some : {X : Type 0} (a b : X) (o : Option X) → o ≡ Some a → o ≡ Some b → b ≡ a
same-some a b o x y = let s : Some b ≡ Some a = sym y ∙ x in cc

pub stops-rightly : (t : Table) (names : List Name) (steps : ℕ) (log : List Entry) (c : ℕ) (r : Told) → ((x : IsRunOf t names steps log c r) → EndsWell (tree_at t x.block.0) x.run.outcome)
    → IsRunOf t names steps log c r → StopsRightly t r
stops-rightly t names steps log c r law x = λ block is.
    let caller : r.caller ≡ c = ap (λ (y : Told). y.caller) x.tells in
    let own : block_of t c ≡ Some block = subst (λ (d : ℕ). block_of t d ≡ Some block) caller is in
    let same : block ≡ x.block = same-some x.block block (block_of t c) x.runs own in
    let ends : EndsWell (tree_at t x.block.0) r.outcome = subst (λ (y : Told). EndsWell (tree_at t x.block.0) y.outcome) (sym x.tells) (law x) in
    subst (λ (b : NodeId). EndsWell (tree_at t b.0) r.outcome) (sym same) ends

-- the block that a caller runs is a root
script-root : (ss : List (NameId × NodeId)) (i : ℕ) (b : NodeId) → option_map (λ s. s.1) (slice_get ss i) ≡ Some b → Contains (map (λ s. s.1.0) ss) b.0
script-root [] i b e = absurd (none-some b e)
script-root (s ∷ ss) zero b e = let same : s.1 ≡ b = cc in (0, omega arith, ap (λ (n : NodeId). n.0) same)
script-root (s ∷ ss) (suc i) b e = let r = script-root ss i b e in (suc r.0, (let n = r.1 in omega (arith, n)), r.2)

block-root : (t : Table) (c : ℕ) (b : NodeId) → block_of t c ≡ Some b → Contains (roots t) b.0
block-root t zero b e = subst (λ (o : Option NodeId). Contains (setup_root o ++ map (λ s. s.1.0) t.scripts) b.0) (sym e) (0, omega arith, refl)
block-root t (suc i) b e = Contains-append_right (setup_root t.setup) (map (λ s. s.1.0) t.scripts) b.0 (script-root t.scripts i b e)

pub stops-in-bodies : (t : Table) (names : List Name) (steps : ℕ) (log : List Entry) (c : ℕ) (r : Told)
    → ((x : IsRunOf t names steps log c r) (e : Stop) (id : NodeId) → Contains (roots t) x.block.0 → x.run.outcome ≡ Stopped e id → IsInBody t id.0 → IsNamed e)
    → IsRunOf t names steps log c r → StopsInBodies t r
stops-in-bodies t names steps log c r law x = λ e id stops body.
    law x e id (block-root t c x.block x.runs) (sym (ap (λ (y : Told). y.outcome) x.tells) ∙ stops) body
