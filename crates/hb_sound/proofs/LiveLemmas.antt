-- Frames stay live over acts that free none of them, and keep the types of their methods.
use Rattle.std.proofs.Common.{◌≡◌, ◌≢◌, ℕ, ◌<◌, ◌≤◌, false, List, [], ◌∷◌, ◌++◌, sym, refl, ap, ◌∙◌, subst, arith, eq-eqb, append_assoc}
use Rattle.std.specs.Prelude.{option_map}
use Rattle.hb_tree.specs.Table.{Table}
use Rattle.hb_deriv.specs.{Judge.Key, Derivation.type_at, Programs.sites_of}
use Rattle.hb_names.specs.Names.{Name}
use Rattle.hb_tables.specs.declared.{entry.Act.Act, entry.Entry.Entry}
use Rattle.hb_tables.specs.History.{spot, entry, IsLegal}
use Rattle.hb_tables.specs.Frames.{acts, frees, StaysLive}
use Rattle.hb_tables.specs.Rows.{site_in, types_in}
use Rattle.hb_tables.proofs.{HistoryLemmas.legal_prefix, FrameLemmas.live_join, FrameLemmas.frame_keeps}
use Rattle.hb_sound.specs.Frames.{Frame, IsLive, AreLive, Holds}

-- these acts end none of the frames
pub Spares : List Frame → List Act → Type 0
Spares [] l = Unit {0}
Spares (f ∷ fs) l = StaysLive f.q l × Spares fs l

-- the frames are older than the call q
pub AreOlder : List Frame → ℕ → Type 0
AreOlder [] q = Unit {0}
AreOlder (f ∷ fs) q = (f.q < q) × AreOlder fs q

pub older_of : (log : List Entry) (c : ℕ) (fs : List Frame) (next : ℕ) (left : List Act) → AreLive log c fs next left → AreOlder fs next
unfolding AreOlder
older_of log c [] next left h = tt
older_of log c (f ∷ fs) next left h = (h.0.older, older_of log c fs next left h.1)

pub spares_older : (fs : List Frame) (q : ℕ) (l : List Act) → AreOlder fs q → ((n : ℕ) → n ≢ q → StaysLive n l) → Spares fs l
unfolding AreOlder Spares
spares_older [] q l h g = tt
spares_older (f ∷ fs) q l h g = (g f.q (λ e. let less = h.0 in absurd (omega (arith, e, less))), spares_older fs q l h.1 g)

pub spares_all : (fs : List Frame) (l : List Act) → ((n : ℕ) → StaysLive n l) → Spares fs l
unfolding Spares
spares_all [] l g = tt
spares_all (f ∷ fs) l g = (g f.q, spares_all fs l g)

pub live_past : (log : List Entry) (c : ℕ) (fs : List Frame) (next later : ℕ) (l left : List Act) → next ≤ later → Spares fs l → AreLive log c fs next (l ++ left) → AreLive log c fs later left
unfolding Spares
live_past log c [] next later l left le g h = (h.0 ++ l, h.1 ∙ sym (append_assoc h.0 l left))
live_past log c (f ∷ fs) next later l left le g h =
    let o = h.0.older in (
      record {
        is = h.0.is;
        quiet = h.0.quiet;
        since = h.0.since ++ l;
        rest = h.0.rest ∙ sym (append_assoc h.0.since l left);
        live = live_join f.q h.0.since l h.0.live g.0;
        older = omega (arith, o, le);
      },
      live_past log c fs next later l left le g.1 h.1,
    )

-- frames stay live behind an act that gives no key back
pub live_quiet : (log : List Entry) (c : ℕ) (fs : List Frame) (a : Act) (next : ℕ) (left : List Act) → ((q : ℕ) → frees q a ≡ false) → AreLive log c fs next (a ∷ left) → AreLive log c fs next left
live_quiet log c fs a next left f h = live_past log c fs next next (a ∷ []) left (omega arith) (spares_all fs (a ∷ []) (λ n. (f n, tt))) h

-- the acts of a live frame's caller, from its Call on
pub own_acts : (log : List Entry) (c : ℕ) (f : Frame) (next : ℕ) (left : List Act) (l : IsLive log c f next left) → acts c (entry c f.call ∷ f.after) ≡ (f.call ∷ l.since) ++ left
own_acts log c f next left l = let e = eq-eqb c c refl in rw e (ap (λ w. f.call ∷ w) l.rest)

-- a place of the history that a caller's call q reached behind these acts
pub record Reached (log : List Entry) (c : ℕ) (pre : List Entry) (since : List Act) (q : ℕ) (before : List Entry) : Type 0 where
  pub between : List Entry
  pub rest : List Entry
  pub is : before ≡ pre ++ between
  pub whole : log ≡ before ++ rest
  pub stays : (n : ℕ) → n < q → StaysLive n since → StaysLive n (acts c between)

-- the type of a method that a frame uses is the same at each place within it
pub types_kept : (t : Table) (names : List Name) (limit : ℕ) (log : List Entry) (c : ℕ) → IsLegal limit log → (f : Frame) (since : List Act) (q : ℕ) (before : List Entry) (k : Key)
    → Reached log c f.before (f.call ∷ since) q before → f.q < q → frees f.q f.call ≡ false → StaysLive f.q since → Holds t names c f k → types_in t names before k ≡ types_in t names f.before k
types_kept t names limit log c legal f since q before k at older quiet live h =
    let upto : IsLegal limit before = legal_prefix limit before log (at.rest, sym at.whole) legal in
    let keeps = frame_keeps limit h.0 c f.q f.before at.between (subst (IsLegal limit) at.is upto) (at.stays f.q older (quiet, live)) h.2 in
    ap (λ o. type_at (sites_of t) (site_in before o)) h.1
    ∙ ap (λ b. type_at (sites_of t) (option_map (λ s. s.0) (spot h.0 b).ty)) at.is
    ∙ ap (λ o. type_at (sites_of t) (option_map (λ s. s.0) o)) keeps.0
    ∙ sym (ap (λ o. type_at (sites_of t) (site_in f.before o)) h.1)
