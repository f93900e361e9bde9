-- Where a script stops since the list of names is full, all names are known by the end of its last turn.
use Rattle.std.proofs.Common.{◌≡◌, ℕ, zero, suc, ◌+◌, ◌≤◌, List, [], ◌∷◌, ◌++◌, length, map, Some, true, false, Bool, cond, eqb, refl, sym, ap, ◌∙◌, subst, arith, append_assoc, eq-eqb}
use Rattle.std.specs.Prelude.{slice_get}
use Rattle.std.proofs.lemmas.List.{append-nil, length-append}
use Rattle.std.proofs.lemmas.Option.{same_Some}
use mathlib.Core.List.{IsPrefix}
use Rattle.hb_types.specs.declared.ids.NodeId.{NodeId}
use Rattle.hb_tree.specs.Table.{Table}
use Rattle.hb_names.specs.declared.names.TheConstants.{NAMES_MAX}
use Rattle.hb_names.specs.Names.{Name}
use Rattle.hb_tables.specs.declared.entry.Act.{Act}
use Rattle.hb_tables.specs.declared.entry.Entry.{Entry}
use Rattle.hb_tables.specs.Frames.{acts}
use Rattle.hb_tables.proofs.FrameLemmas.{acts_append}
use Rattle.hb_call.specs.GrowthLaws.{prefix_itself}
use Rattle.hb_eval.specs.Calls.{call_in}
use Rattle.hb_eval.specs.declared.script_run.ScriptRun.{ScriptRun}
use Rattle.hb_eval.specs.Runs.{Run, script_run}
use Rattle.hb_eval.specs.Told.{Told}
use Rattle.hb_sound.proofs.FillLemmas.{full_stop}
use Rattle.hb_turns.specs.declared.player.Player.{Player}
use Rattle.hb_turns.specs.Playing.{Taken, acts_by, entries_by, entries_of, turns_by}
use Rattle.hb_turns.specs.Players.{AreAllByThen, AreFinished, FinishesAs, HavePlayed}
use Rattle.hb_turns.proofs.PlayingLemmas.{acts_by_other}

-- a full list does not grow
full_is_all : (known names : List Name) → IsPrefix known names → length known ≡ NAMES_MAX → length names ≤ NAMES_MAX → names ≡ known
full_is_all known names more full few =
    let n = ap length more.1 in let a = length-append known more.0 in
    sym more.1 ∙ ap (λ l. known ++ l) (nothing more.0 (omega (arith, n, a, full, few))) ∙ append-nil known
  where
    nothing : (l : List Name) → length l ≡ 0 → l ≡ []
    nothing [] e = refl
    nothing (x ∷ l) e = absurd (omega (arith, e))

entries_parts : (us vs : List Taken) → entries_of (us ++ vs) ≡ entries_of us ++ entries_of vs
entries_parts [] vs = refl
entries_parts (u ∷ us) vs = ap (λ l. entries_by u.caller u.acts ++ l) (entries_parts us vs) ∙ sym (append_assoc (entries_by u.caller u.acts) (entries_of us) (entries_of vs))

-- a caller that takes no turn does nothing
idle : (c : ℕ) (us : List Taken) → turns_by c us ≡ 0 → acts c (entries_of us) ≡ []
idle c [] none = refl
idle c (u ∷ us) none = go (eqb c u.caller) refl none (idle c us)
  where
    go : (b : Bool) → eqb c u.caller ≡ b → cond b 1 0 + turns_by c us ≡ 0 → (turns_by c us ≡ 0 → acts c (entries_of us) ≡ []) → acts c (entries_by u.caller u.acts ++ entries_of us) ≡ []
    go true e n rec = absurd (omega (arith, n))
    go false e n rec = acts_append c (entries_by u.caller u.acts) (entries_of us)
        ∙ ap (λ l. l ++ acts c (entries_of us)) (acts_by_other u.caller c u.acts (λ is. let same = eq-eqb c u.caller (sym is) in cc (same, e))) ∙ rec (omega (arith, n))

finished_at : (ps : List Player) (rs : List ScriptRun) (at : ℕ) (p : Player) → AreFinished ps rs → slice_get ps at ≡ Some p → (r : ScriptRun) × FinishesAs p.machine r
finished_at [] rs at p f is = absurd (cc is)
finished_at (q ∷ ps) [] at p f is = absurd f
finished_at (q ∷ ps) (r ∷ rs) zero p f is = (r, let same : q ≡ p = cc is in subst (λ (x : Player). FinishesAs x.machine r) same f.0)
finished_at (q ∷ ps) (r ∷ rs) (suc at) p f is = finished_at ps rs at p f.1 is

pub all_then : (t : Table) (limit steps first : ℕ) (start : List Entry) (us : List Taken) (names : List Name) (log : List Entry) (ps : List Player) (rs : List ScriptRun)
    → HavePlayed t limit steps first start us names log ps → AreFinished ps rs → AreAllByThen t steps names start log us
all_then t limit steps first start us names log ps rs h finished before after u is none block run id runs reads stops =
    let c : ℕ = u.caller in
    let s = h.stood before after u is none in
    let f = finished_at ps rs s.at s.player finished s.there in
    let upto : List Taken = before ++ u ∷ [] in
    let past : List Entry = start ++ entries_of upto in
    let done : List (ℕ × Act) = acts_by c upto in
    let then = f.1 t s.known s.known s.plays.block.0 steps done s.plays.stands (prefix_itself s.known) s.under_way.few in
    let now = f.1 t s.known names s.plays.block.0 steps done s.plays.stands s.named h.under_way.few in
    let whole : log ≡ past ++ entries_of after =
    h.is ∙ ap (λ l. start ++ entries_of l) (is ∙ sym (append_assoc before (u ∷ []) after)) ∙ ap (λ l. start ++ l) (entries_parts upto after)
    ∙ sym (append_assoc start (entries_of upto) (entries_of after)) in
    let own : acts c log ≡ acts c past = ap (acts c) whole ∙ acts_append c past (entries_of after) ∙ ap (λ l. acts c past ++ l) (idle c after none) ∙ append-nil (acts c past) in
    let same : block ≡ s.plays.block = same_Some block s.plays.block (sym runs ∙ s.plays.runs) in
    let again : script_run t names (call_in t names 4096) s.plays.block.0 steps (map (λ e. e.1) done) ≡ Some run =
    ap (λ (l : List Act). script_run t names (call_in t names 4096) s.plays.block.0 steps l) (sym (own ∙ s.plays.reads))
    ∙ ap (λ (b : NodeId). script_run t names (call_in t names 4096) b.0 steps (acts c log)) (sym same) ∙ reads in
    let one : run ≡ now.run = same_Some run now.run (sym again ∙ now.reads) in
    let ends = ap (λ (r : Told). r.outcome) (sym then.tells ∙ now.tells) ∙ ap (λ (r : Run). r.outcome) (sym one) ∙ stops in
    let full = full_stop t s.known limit past c s.under_way.legal s.under_way.rules s.under_way.few 4096 s.plays.block.0 steps then.run id
    (ap (λ (l : List Act). script_run t s.known (call_in t s.known 4096) s.plays.block.0 steps l) s.plays.reads ∙ then.reads) ends in
    full_is_all s.known names s.named full h.under_way.few ∙ s.under_way.asked names s.named
