-- A text of a derivation ends with its first line `end`, so bytes are cut into texts in one way.
use Rattle.std.proofs.Common.{◌≡◌, ℕ, ◌+◌, List, [], ◌∷◌, ◌++◌, length, Bool, true, false, refl, sym, ap, ◌∙◌, subst, append_assoc, eq-eqb, eqb-true, true≢false}
use Rattle.std.specs.Prelude.{Option, Some, None, Result, Ok, Err, nat_eq, bytes_eq, codes, if◌then◌else◌}
use Rattle.std.specs.Option.{option_map}
use Rattle.std.specs.List.{AllByRecursion}
use Rattle.hb_tree.specs.Table.{Table}
use Rattle.hb_deriv.specs.declared.raw.Used.{Used}
use Rattle.hb_deriv.specs.declared.raw.Step.{Step}
use Rattle.hb_deriv.specs.Derivation.{Content}
use Rattle.hb_deriv_text.specs.Text.{head_word}
use Rattle.hb_deriv_text.specs.declared.stage.Stage.{Stage}
use Rattle.hb_deriv_text.specs.declared.stage.Stage.TheVariants as stage
use Rattle.hb_deriv_text.specs.Reading.{Head, Draft, nothing, begun, head_in, use_in, step_in, ended, step_or_end, use_or_more, with_line_at, with_line, is_ended, go_on, read_from, read_of}
use Rattle.hb_deriv_text.specs.Faults.{IsLine}
use Rattle.hb_deriv_text.proofs.ReadLemmas.{same_bytes}
use Rattle.hb_deriv_text.proofs.MarkLemmas.{lacks_join}
use Rattle.hb_bundle.specs.Lines.{lines_of, IsOther, IsEnded}
use Rattle.hb_bundle.proofs.ListLemmas.{same_some, head_same, tail_same}

-- ── lines ──

pub feed_inside : (line rest : List ℕ) → IsLine (line ++ 10 ∷ rest) → ⊥
feed_inside [] rest h = true≢false h.0
feed_inside (b ∷ line) rest h = feed_inside line rest h.1

no_feed : (b : ℕ) → nat_eq b 10 ≡ false → b ≡ 10 → ⊥
no_feed b h e = true≢false (sym (eq-eqb b 10 e) ∙ h)

-- two whole lines at one place
pub same_line : (a b x y : List ℕ) → IsLine a → IsLine b → a ++ 10 ∷ x ≡ b ++ 10 ∷ y → (a ≡ b) × (x ≡ y)
same_line [] [] x y h k e = (refl, tail_same 10 10 x y e)
same_line [] (c ∷ b) x y h k e = absurd (no_feed c k.0 (sym (head_same 10 c x (b ++ 10 ∷ y) e)))
same_line (c ∷ a) [] x y h k e = absurd (no_feed c h.0 (head_same c 10 (a ++ 10 ∷ x) y e))
same_line (c ∷ a) (d ∷ b) x y h k e =
    let rest = same_line a b x y h.1 k.1 (tail_same c d (a ++ 10 ∷ x) (b ++ 10 ∷ y) e) in
    (ap (λ (n : ℕ). n ∷ a) (head_same c d (a ++ 10 ∷ x) (b ++ 10 ∷ y) e) ∙ ap (λ (l : List ℕ). d ∷ l) rest.0, rest.1)

end_plain : IsLine (codes "end")
end_plain = (refl, (refl, (refl, tt)))

-- the first of some lines, and what stands behind it
pub first_line : (line : List ℕ) (lines : List (List ℕ)) (rest : List ℕ) → lines_of (line ∷ lines) ++ rest ≡ line ++ 10 ∷ (lines_of lines ++ rest)
first_line line lines rest = append_assoc (line ++ 10 ∷ []) (lines_of lines) rest ∙ append_assoc line (10 ∷ []) (lines_of lines ++ rest)

-- other lines up to a line `end`: it is the same one
pub one_end : (ls ms : List (List ℕ)) (x y : List ℕ) → AllByRecursion IsOther ls → AllByRecursion IsOther ms
    → lines_of ls ++ (codes "end\n" ++ x) ≡ lines_of ms ++ (codes "end\n" ++ y) → (ls ≡ ms) × (x ≡ y)
one_end [] [] x y h k e = (refl, (same_line (codes "end") (codes "end") x y end_plain end_plain e).1)
one_end [] (m ∷ ms) x y h k e =
    absurd (k.0.1 (sym (same_line (codes "end") m x (lines_of ms ++ (codes "end\n" ++ y)) end_plain k.0.0 (e ∙ first_line m ms (codes "end\n" ++ y))).0))
one_end (l ∷ ls) [] x y h k e =
    absurd (h.0.1 (same_line l (codes "end") (lines_of ls ++ (codes "end\n" ++ x)) y h.0.0 end_plain (sym (first_line l ls (codes "end\n" ++ x)) ∙ e)).0)
one_end (l ∷ ls) (m ∷ ms) x y h k e =
    let one = same_line l m (lines_of ls ++ (codes "end\n" ++ x)) (lines_of ms ++ (codes "end\n" ++ y)) h.0.0 k.0.0
    (sym (first_line l ls (codes "end\n" ++ x)) ∙ e ∙ first_line m ms (codes "end\n" ++ y)) in
    let rest = one_end ls ms x y h.1 k.1 one.1 in
    (ap (λ (line : List ℕ). line ∷ ls) one.0 ∙ ap (λ (lines : List (List ℕ)). m ∷ lines) rest.0, rest.1)

-- where no line `end` stands there is none
pub no_end : (ls ms : List (List ℕ)) (last x : List ℕ) → AllByRecursion IsOther ls → AllByRecursion IsOther ms → IsLine last
    → lines_of ls ++ (codes "end\n" ++ x) ≡ lines_of ms ++ last → ⊥
no_end [] [] last x h k p e = feed_inside (codes "end") x (subst IsLine (sym e) p)
no_end [] (m ∷ ms) last x h k p e = k.0.1 (sym (same_line (codes "end") m x (lines_of ms ++ last) end_plain k.0.0 (e ∙ first_line m ms last)).0)
no_end (l ∷ ls) [] last x h k p e = feed_inside l (lines_of ls ++ (codes "end\n" ++ x)) (subst IsLine (sym e ∙ first_line l ls (codes "end\n" ++ x)) p)
no_end (l ∷ ls) (m ∷ ms) last x h k p e =
    no_end ls ms last x h.1 k.1 p (same_line l m (lines_of ls ++ (codes "end\n" ++ x)) (lines_of ms ++ last) h.0.0 k.0.0
    (sym (first_line l ls (codes "end\n" ++ x)) ∙ e ∙ first_line m ms last)).1

pub others_join : (ls ms : List (List ℕ)) → AllByRecursion IsOther ls → AllByRecursion IsOther ms → AllByRecursion IsOther (ls ++ ms)
others_join [] ms h k = k
others_join (l ∷ ls) ms h k = (h.0, others_join ls ms h.1 k)

-- ── what ends a text ──

apart : {A : Type 0} (x : A) (at : ℕ) → (let r : Result A ℕ = Err at in r) ≡ Ok x → ⊥
apart x at h = cc

not_none : {A : Type 0} (x : A) → (let o : Option A = None in o) ≡ Some x → ⊥
not_none x h = cc

abbrev closed : Content → Draft
closed c = record { stage = stage.Ended; content = c }

-- no line follows the end
none_behind : (t : Table) (s : Stage) (c : Content) (line : List ℕ) → is_ended s ≡ true → with_line_at t s c line ≡ None
none_behind t stage.Ended c line h = refl
none_behind t stage.Head c line h = absurd (true≢false (sym h))
none_behind t stage.Uses c line h = absurd (true≢false (sym h))
none_behind t stage.Steps c line h = absurd (true≢false (sym h))

-- a draft that ends ends by the line `end`
ended_by : (c : Content) (line : List ℕ) (z : Draft) → ended c line ≡ Some z → line ≡ codes "end"
ended_by c line z h = go (bytes_eq line (codes "end")) refl h
  where
    go : (b : Bool) → bytes_eq line (codes "end") ≡ b → (if b then Some (closed c) else None) ≡ Some z → line ≡ codes "end"
    go true e k = same_bytes line (codes "end") e
    go false e k = absurd (not_none z k)

step_ends_by : (c : Content) (line : List ℕ) (o : Option Step) (z : Draft) → step_or_end c line o ≡ Some z → is_ended z.stage ≡ true → line ≡ codes "end"
step_ends_by c line None z h e = ended_by c line z h
step_ends_by c line (Some s) z h e = absurd (true≢false (sym e ∙ ap (λ (d : Draft). is_ended d.stage) (sym (same_some _ z h))))

use_ends_by : (t : Table) (c : Content) (line : List ℕ) (o : Option Used) (z : Draft) → use_or_more t c line o ≡ Some z → is_ended z.stage ≡ true → line ≡ codes "end"
use_ends_by t c line None z h e = step_ends_by c line (step_in t line) z h e
use_ends_by t c line (Some u) z h e = absurd (true≢false (sym e ∙ ap (λ (d : Draft). is_ended d.stage) (sym (same_some _ z h))))

head_goes_on : (c : Content) (o : Option Head) (z : Draft) → option_map (begun c) o ≡ Some z → is_ended z.stage ≡ true → ⊥
head_goes_on c None z h e = not_none z h
head_goes_on c (Some d) z h e = true≢false (sym e ∙ ap (λ (x : Draft). is_ended x.stage) (sym (same_some (begun c d) z h)))

ends_by : (t : Table) (s : Stage) (c : Content) (line : List ℕ) (z : Draft) → with_line_at t s c line ≡ Some z → is_ended z.stage ≡ true → line ≡ codes "end"
ends_by t stage.Head c line z h e = absurd (head_goes_on c (head_in t line) z h e)
ends_by t stage.Uses c line z h e = use_ends_by t c line (use_in t line) z h e
ends_by t stage.Steps c line z h e = step_ends_by c line (step_in t line) z h e
ends_by t stage.Ended c line z h e = absurd (not_none z h)

no_head : (t : Table) → head_in t (codes "end") ≡ None
unfolding head_word
no_head t = refl

-- the line `end` ends a draft
end_ends : (t : Table) (s : Stage) (c : Content) (z : Draft) → with_line_at t s c (codes "end") ≡ Some z → is_ended z.stage ≡ true
end_ends t stage.Head c z h = absurd (not_none z (sym (ap (option_map (begun c)) (no_head t)) ∙ h))
end_ends t stage.Uses c z h = ap (λ (d : Draft). is_ended d.stage) (sym (same_some (closed c) z h))
end_ends t stage.Steps c z h = ap (λ (d : Draft). is_ended d.stage) (sym (same_some (closed c) z h))
end_ends t stage.Ended c z h = absurd (not_none z h)

not_empty : (line : List ℕ) (b : ℕ) → line ++ b ∷ [] ≡ [] → ⊥
not_empty [] b h = absurd (cc)
not_empty (x ∷ line) b h = absurd (cc)

-- behind its end nothing is read
finished : (t : Table) (d : Draft) (at : ℕ) (line bytes : List ℕ) (c : Content) → is_ended d.stage ≡ true → read_from t d at line bytes ≡ Ok c → line ++ bytes ≡ []
finished t d at [] [] c e h = refl
finished t d at (b ∷ line) [] c e h = absurd (apart c at h)
finished t d at line (b ∷ bytes) c e h = go (nat_eq b 10) h (λ k. finished t d at (line ++ b ∷ []) bytes c e k)
  where
    go : (x : Bool) → (if x then go_on at (with_line t d line) (λ z. read_from t z (at + length line + 1) [] bytes) else read_from t d at (line ++ b ∷ []) bytes) ≡ Ok c
        → (read_from t d at (line ++ b ∷ []) bytes ≡ Ok c → (line ++ b ∷ []) ++ bytes ≡ []) → line ++ b ∷ bytes ≡ []
    go true k rest =
        absurd (apart c at (sym (ap (λ (o : Option Draft). go_on at o (λ z. read_from t z (at + length line + 1) [] bytes)) (none_behind t d.stage d.content line e)) ∙ k))
    go false k rest = sym (append_assoc line (b ∷ []) bytes) ∙ rest k

-- what is read to its end has one line `end`, its last
ends : (t : Table) (d : Draft) (at : ℕ) (line bytes : List ℕ) (c : Content) → is_ended d.stage ≡ false → IsLine line → read_from t d at line bytes ≡ Ok c → IsEnded (line ++ bytes)
ends t d at [] [] c open_yet plain h = absurd (apart c at (sym (ap (λ (b : Bool). if b then Ok d.content else Err at) open_yet) ∙ h))
ends t d at (b ∷ line) [] c open_yet plain h = absurd (apart c at h)
ends t d at line (b ∷ bytes) c open_yet plain h = go (nat_eq b 10) refl h (λ z x k. ends t z (at + length line + 1) [] bytes c x tt k)
    (λ e k. ends t d at (line ++ b ∷ []) bytes c open_yet (lacks_join 10 line (b ∷ []) plain (e, tt)) k)
  where
    behind_feed : b ≡ 10 → (z : Draft) → with_line t d line ≡ Some z → read_from t z (at + length line + 1) [] bytes ≡ Ok c
        → ((z : Draft) → is_ended z.stage ≡ false → read_from t z (at + length line + 1) [] bytes ≡ Ok c → IsEnded bytes)
        → (x : Bool) → is_ended z.stage ≡ x → IsEnded (line ++ b ∷ bytes)
    behind_feed e z k h rest true s = record {
      lines = [];
      others = tt;
      parts = ap (λ (l : List ℕ). l ++ 10 ∷ []) (sym (ends_by t d.stage d.content line z k s)) ∙ ap (λ (l : List ℕ). line ++ 10 ∷ l) (sym (finished t z (at + length line + 1) [] bytes c s h))
          ∙ ap (λ (n : ℕ). line ++ n ∷ bytes) (sym e);
    }
    behind_feed e z k h rest false s =
        let r = rest z s h in
        record {
          lines = line ∷ r.lines;
          others = ((plain, λ same. true≢false (sym (end_ends t d.stage d.content z (ap (with_line_at t d.stage d.content) (sym same) ∙ k)) ∙ s)), r.others);
          parts = first_line line r.lines (codes "end\n") ∙ ap (λ (l : List ℕ). line ++ 10 ∷ l) r.parts ∙ ap (λ (n : ℕ). line ++ n ∷ bytes) (sym e);
        }

    at_feed : b ≡ 10 → (next : Option Draft) → with_line t d line ≡ next → go_on at next (λ z. read_from t z (at + length line + 1) [] bytes) ≡ Ok c
        → ((z : Draft) → is_ended z.stage ≡ false → read_from t z (at + length line + 1) [] bytes ≡ Ok c → IsEnded bytes) → IsEnded (line ++ b ∷ bytes)
    at_feed e None k h rest = absurd (apart c at h)
    at_feed e (Some z) k h rest = behind_feed e z k h rest (is_ended z.stage) refl

    go : (x : Bool) → nat_eq b 10 ≡ x
        → (if x then go_on at (with_line t d line) (λ z. read_from t z (at + length line + 1) [] bytes) else read_from t d at (line ++ b ∷ []) bytes) ≡ Ok c
        → ((z : Draft) → is_ended z.stage ≡ false → read_from t z (at + length line + 1) [] bytes ≡ Ok c → IsEnded bytes)
        → (nat_eq b 10 ≡ false → read_from t d at (line ++ b ∷ []) bytes ≡ Ok c → IsEnded ((line ++ b ∷ []) ++ bytes)) → IsEnded (line ++ b ∷ bytes)
    go true e k rest other = at_feed (eqb-true b 10 e) (with_line t d line) refl k rest
    go false e k rest other = subst IsEnded (append_assoc line (b ∷ []) bytes) (other e k)

pub read_ends : (t : Table) (bytes : List ℕ) (c : Content) → read_of t bytes ≡ Ok c → IsEnded bytes
read_ends t bytes c h = ends t nothing 0 [] bytes c refl tt h
