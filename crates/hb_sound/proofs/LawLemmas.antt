-- The laws, from the inductions.
use Rattle.std.proofs.Common.{inl, inr, ◌⊎◌, ◌≡◌, ℕ, suc, List, [], ◌∷◌, length, map, Option, Some, refl, sym, ap, ◌∙◌, subst, arith}
use Rattle.std.specs.Prelude.{Contains}
use Rattle.std.proofs.lemmas.Bool.{eqb-true}
use Rattle.hb_types.specs.declared.{ids.BodySite.BodySite, ids.CallNo.CallNo, ids.KeyId.KeyId, types.Ty.Ty, ids.NodeId.NodeId}
use Rattle.hb_types.specs.{Types.params_of as types_of, Variables.Variables}
use Rattle.hb_tree.specs.{Program.IsProgram, Roots.IsReachedOnce, Roots.roots, Table.Table, Nodes.params_of, Tree.Tree, TreeAt.tree_at}
use Rattle.hb_deriv.specs.Judge.{Types, all_below}
use Rattle.hb_deriv.proofs.JudgementLemmas.{and_both}
use Rattle.hb_names.specs.Names.{Name}
use Rattle.hb_tables.specs.declared.{entry.Act.Act, entry.Act.TheVariants.Call, entry.ArgKinds.ArgKinds, entry.By.By, entry.Entry.Entry, entry.Verdict.TheVariants.Enter}
use Rattle.hb_tables.specs.{Frames.acts, History.IsLegal}
use Rattle.hb_tables.specs.Rows.{HasCallRows, HoldsName, IsDecided, body_at, kinds_of, type_of_key, types_in}
use Rattle.hb_tables.proofs.VerdictLemmas.{enters_from}
use Rattle.hb_eval.specs.declared.{value.Value.Value, stop.Outcome.Outcome, stop.Stop.Stop}
use Rattle.hb_eval.specs.declared.stop.Outcome.TheVariants as outcome
use Rattle.hb_eval.specs.{Calls.call_in, Meaning.ev, Values.kind_of}
use Rattle.hb_eval.specs.Runs.{Run, start, ended, run_of, script_run}
use Rattle.hb_eval.specs.State.{St, Answer, Lost, Done, Halt}
use Rattle.hb_sound.specs.Bodies.{Enters, IsJudgedIn, begun_with}
use Rattle.hb_sound.specs.Frames.{AreLive, Frame}
use Rattle.hb_sound.specs.Scripts.{EndsWell, IsInBody, IsNodeIn, Tame}
use Rattle.hb_sound.specs.Sound.{IsNamed, Rest, Sound, Stands}
use Rattle.hb_sound.proofs.{ValueLemmas.some_same, ValueLemmas.params_fit, SoundLemmas.sound, SoundLemmas.weaker, RowLemmas.entered_looks, CallLemmas.Within, CallLemmas.within}
use Rattle.hb_sound.proofs.{ScriptLemmas.script_tame, NodeLemmas.apart_nodes}

pub call_enters : (t : Table) (names : List Name) (before after : List Entry) (c : ℕ) (q : CallNo) (key : KeyId) (site : Option BodySite) (args : ArgKinds) (way : By)
    → IsDecided t names before (c, q.0) key.0 site (kinds_of args) (Enter way)
    → Enters t names c (record { q = q.0; call = Call key q site args (Enter way); before = before; after = after }) key.0 site (kinds_of args)
call_enters t names before after c q key site args way d =
    let T : Types = types_in t names before in
    let kinds = kinds_of args in
    let e = enters_from t T d.name.0 (body_at t site) (type_of_key t before key.0) kinds (sym d.rules) in
    let k = and_both _ _ e.fits in
    record {
      name = d.name;
      body = e.body;
      declared = e.declared;
      behind = e.holds.behind;
      ty = e.holds.ty;
      is = d.is;
      defined = e.has_body;
      typed = e.has_type;
      judged = record {
        judged = e.holds.judged;
        held = entered_looks t (HoldsName names before (c, q.0)) T d.name.0 (body_at t site) (type_of_key t before key.0) kinds e (λ p i. d.held p (let n = i.1 in (suc i.0, omega (arith, n), i.2)));
      };
      below = e.holds.below;
      fit = λ vs same. params_fit (params_of e.body) (types_of e.declared) vs (ap length same ∙ eqb-true _ _ k.0 ∙ sym e.holds.count) (ap (λ ks. all_below ks (types_of e.declared)) same ∙ k.1);
    }

pub frame_sound : (t : Table) (names : List Name) (limit : ℕ) (log : List Entry) (c : ℕ) → IsLegal limit log → HasCallRows t names log
    → (room me : ℕ) (f : Frame) (fs : List Frame) (G behind : Variables) (e : Tree) (ty : Ty) (s : St)
    → IsJudgedIn t names c f me G e behind ty → Stands (AreLive log c (f ∷ fs)) me G s → Sound (AreLive log c (f ∷ fs)) me behind ty (ev t names (call_in t names room) e s)
unfolding Within
frame_sound t names limit log c legal rows room me f fs G behind e ty s j stands =
    sound (AreLive log c (f ∷ fs)) me t names (call_in t names room) j.judged (within t names limit log c legal rows room me fs f) j.held s stands

pub body_sound : (t : Table) (names : List Name) (limit : ℕ) (log : List Entry) (c : ℕ) → IsLegal limit log → HasCallRows t names log
    → (room : ℕ) (f : Frame) (fs : List Frame) (key : ℕ) (site : Option BodySite) (kinds : List Ty) (x : Enters t names c f key site kinds) (vs : List Value) (s : St)
    → map kind_of vs ≡ kinds → AreLive log c (f ∷ fs) s.next s.journal
    → Sound (AreLive log c (f ∷ fs)) x.name.0 x.behind x.declared.result (ev t names (call_in t names room) (tree_at t x.body.block.0) (begun_with x.name.0 x.body vs s))
body_sound t names limit log c legal rows room f fs key site kinds x vs s same live =
    weaker (AreLive log c (f ∷ fs)) x.name.0 x.behind x.behind x.ty x.declared.result _ x.below (λ vars h. h)
    (frame_sound t names limit log c legal rows room x.name.0 f fs _ x.behind (tree_at t x.body.block.0) x.ty (begun_with x.name.0 x.body vs s) x.judged
    (record { vars = x.fit vs same; self = refl; inv = live }))

ends_well : (Inv : Rest) (block : Tree) (a : Answer) (run : Run) → Tame Inv (IsNodeIn block) a → run_of a ≡ Some run → EndsWell block run.outcome
ends_well Inv block Lost run h e = absurd (cc)
ends_well Inv block (Done v s) run h e = go s.journal e
  where
    go : (l : List Act) → ended (outcome.Done v) s l ≡ Some run → EndsWell block run.outcome
    go [] e = subst (λ (r : Run). EndsWell block r.outcome) (some_same _ run e) tt
    go (a ∷ l) e = absurd (cc)
ends_well Inv block (Halt x id s) run h e = go s.journal e
  where
    go : (l : List Act) → ended (outcome.Stopped x (record { 0 = id })) s l ≡ Some run → EndsWell block run.outcome
    go [] e = subst (λ (r : Run). EndsWell block r.outcome) (some_same _ run e) h
    go (a ∷ l) e = absurd (cc)

pub script_ends_well : (t : Table) (names : List Name) (limit : ℕ) (log : List Entry) (c : ℕ) → IsLegal limit log → HasCallRows t names log → (room block steps : ℕ) (run : Run)
    → script_run t names (call_in t names room) block steps (acts c log) ≡ Some run → EndsWell (tree_at t block) run.outcome
script_ends_well t names limit log c legal rows room block steps run e =
    ends_well (AreLive log c []) (tree_at t block) (ev t names (call_in t names room) (tree_at t block) (start steps (acts c log))) run
    (script_tame t names limit log c legal rows (IsNodeIn (tree_at t block)) room (tree_at t block) (λ n h. h) (start steps (acts c log)) ([], refl)) e

pub body_stops : (t : Table) (names : List Name) (limit : ℕ) (log : List Entry) (c : ℕ) → IsLegal limit log → HasCallRows t names log → IsProgram t → IsReachedOnce t
    → (room block steps : ℕ) (run : Run) (e : Stop) (id : NodeId) → Contains (roots t) block → script_run t names (call_in t names room) block steps (acts c log) ≡ Some run
    → run.outcome ≡ outcome.Stopped e id → IsInBody t id.0 → IsNamed e
body_stops t names limit log c legal rows program once room block steps run e id root is stops body =
    by (subst (λ (o : Outcome). EndsWell (tree_at t block) o) stops (script_ends_well t names limit log c legal rows room block steps run is))
  where
    by : IsNamed e ⊎ IsNodeIn (tree_at t block) id.0 → IsNamed e
    by (inl h) = h
    by (inr h) = absurd (apart_nodes t program once block root id.0 h body)
