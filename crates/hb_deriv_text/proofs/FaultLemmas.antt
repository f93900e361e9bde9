-- Where a text is not read, it goes wrong.
use Rattle.std.proofs.Common.{◌≡◌, ◌⊎◌, inl, inr, ℕ, ◌+◌, List, [], ◌∷◌, ◌++◌, length, Bool, true}
use Rattle.std.proofs.Common.{false, refl, sym, ap, ◌∙◌, subst, append_assoc, append-nil, eq-eqb, eqb-true, true≢false, length-append, arith}
use Rattle.std.specs.Prelude.{Option, Some, None, Result, Ok, Err, nat_eq, codes, if◌then◌else◌}
use Rattle.hb_tree.specs.Table.{Table}
use Rattle.hb_tree.specs.Program.{IsProgram}
use Rattle.hb_deriv.specs.Derivation.{Content}
use Rattle.hb_deriv_text.specs.Text.{text_of}
use Rattle.hb_deriv_text.specs.declared.stage.Stage.{Stage}
use Rattle.hb_deriv_text.specs.declared.stage.Stage.TheVariants as stage
use Rattle.hb_deriv_text.specs.Reading.{Draft, nothing, with_line, is_ended, go_on, read_from, read_of}
use Rattle.hb_deriv_text.specs.Written.{HasSmallPlaces, IsText, first_of}
use Rattle.hb_deriv_text.specs.Faults.{IsLine, Begins, HasWholeLines, IsFault}
use Rattle.hb_deriv_text.proofs.ReadLemmas.{IsOrdered, written_at, line_grows}
use Rattle.hb_deriv_text.proofs.MarkLemmas.{lacks_join}
use Rattle.hb_deriv_text.proofs.FitLemmas.{IsBehindHead, IsSound, sound_behind, line_fits}
use Rattle.hb_deriv_text.proofs.WholeLemmas.{written_is_read, line_is_read}

-- ── lines ──

head_same : (x y : ℕ) (xs ys : List ℕ) → x ∷ xs ≡ y ∷ ys → x ≡ y
head_same x y xs ys h = cc

tail_same : (x y : ℕ) (xs ys : List ℕ) → x ∷ xs ≡ y ∷ ys → xs ≡ ys
tail_same x y xs ys h = cc

feed_inside : (line rest : List ℕ) → IsLine (line ++ 10 ∷ rest) → ⊥
feed_inside [] rest h = true≢false h.0
feed_inside (b ∷ line) rest h = feed_inside line rest h.1

no_feed : (b : ℕ) → nat_eq b 10 ≡ false → b ≡ 10 → ⊥
no_feed b h e = true≢false (sym (eq-eqb b 10 e) ∙ h)

same_line : (a b x y : List ℕ) → IsLine a → IsLine b → a ++ 10 ∷ x ≡ b ++ 10 ∷ y → a ≡ b
same_line [] [] x y h k e = refl
same_line [] (c ∷ b) x y h k e = absurd (no_feed c k.0 (sym (head_same 10 c x (b ++ 10 ∷ y) e)))
same_line (c ∷ a) [] x y h k e = absurd (no_feed c h.0 (head_same c 10 (a ++ 10 ∷ x) y e))
same_line (c ∷ a) (d ∷ b) x y h k e =
    ap (λ (n : ℕ). n ∷ a) (head_same c d (a ++ 10 ∷ x) (b ++ 10 ∷ y) e)
    ∙ ap (λ (l : List ℕ). d ∷ l) (same_line a b x y h.1 k.1 (tail_same c d (a ++ 10 ∷ x) (b ++ 10 ∷ y) e))

apart : {A : Type 0} (x : A) (at : ℕ) → (let r : Result A ℕ = Err at in r) ≡ Ok x → ⊥
apart x at h = cc

same_fault : {A : Type 0} (n m : ℕ) → (let r : Result A ℕ = Err n in r) ≡ Err m → n ≡ m
same_fault n m h = cc

longer : (front line : List ℕ) → length (front ++ (line ++ 10 ∷ [])) ≡ length front + length line + 1
longer front line = simp (length-append) (omega arith)

-- ── drafts begin texts ──

begins : (t : Table) (s : Stage) (c : Content) → IsBehindHead t s c → Begins (IsText t) (written_at t s c)
begins t stage.Head c h = absurd h
begins t stage.Uses c h = record { behind = codes "end\n"; text = record { content = c; sayable = h; written = refl } }
begins t stage.Steps c h = record { behind = codes "end\n"; text = record { content = c; sayable = h; written = refl } }
begins t stage.Ended c h = record { behind = []; text = record { content = c; sayable = h; written = sym (append-nil (text_of t c)) } }

module _ (t : Table) (program : IsProgram t) (small : HasSmallPlaces t) where
  pub text_is_read : (bytes : List ℕ) → IsText t bytes → (c : Content) × (read_of t bytes ≡ Ok c)
  text_is_read bytes h = (first_of t h.content, subst (λ (l : List ℕ). read_of t l ≡ Ok (first_of t h.content)) h.written (written_is_read t program small h.content h.sayable))

  -- no text is read as a fault
  refused : (bytes : List ℕ) (at : ℕ) → read_of t bytes ≡ Err at → IsText t bytes → ⊥
  refused bytes at h text = let r = text_is_read bytes text in apart r.0 at (sym h ∙ r.1)

  -- a draft, and the lines that were read for it
  record IsDraftOf (front : List ℕ) (d : Draft) : Type 0 where
    pub sound : IsSound t d.stage d.content
    pub ordered : IsOrdered d.stage d.content
    pub written : written_at t d.stage d.content ≡ front
    pub leads : (bytes : List ℕ) → read_of t (front ++ bytes) ≡ read_from t d (length front) [] bytes
    pub fits : (front ≡ []) ⊎ HasWholeLines (IsText t) front

  record Stops (bytes : List ℕ) (at : ℕ) : Type 0 where
    pub front : List ℕ
    pub rest : List ℕ
    pub parts : front ++ rest ≡ bytes
    pub place : length front ≡ at
    pub fits : (front ≡ []) ⊎ HasWholeLines (IsText t) front
    pub stops : (line behind : List ℕ) → IsLine line → rest ≡ line ++ 10 ∷ behind → Begins (IsText t) (front ++ (line ++ 10 ∷ [])) → ⊥

  -- a line that does not follow begins no text
  not_begun : (front : List ℕ) (d : Draft) (line : List ℕ) → IsDraftOf front d → IsLine line → with_line t d line ≡ None → Begins (IsText t) (front ++ (line ++ 10 ∷ [])) → ⊥
  not_begun front d line is plain none b =
      refused ((front ++ (line ++ 10 ∷ [])) ++ b.behind) (length front)
      (ap (read_of t) (append_assoc front (line ++ 10 ∷ []) b.behind) ∙ is.leads ((line ++ 10 ∷ []) ++ b.behind)
      ∙ ap (read_from t d (length front) []) (append_assoc line (10 ∷ []) b.behind) ∙ line_is_read t d (length front) [] line b.behind plain
      ∙ ap (λ (o : Option Draft). go_on (length front) o (λ z. read_from t z (length front + length line + 1) [] b.behind)) none) b.text

  next_draft : (front : List ℕ) (d z : Draft) (line : List ℕ) → IsDraftOf front d → IsLine line → with_line t d line ≡ Some z → IsDraftOf (front ++ (line ++ 10 ∷ [])) z
  next_draft front d z line is plain e =
      let grown = line_grows t d.stage d.content line z is.ordered e in
      let behind = line_fits t d.stage d.content line z is.sound e in
      let written : written_at t z.stage z.content ≡ front ++ (line ++ 10 ∷ []) = grown.written ∙ ap (λ (l : List ℕ). l ++ (line ++ 10 ∷ [])) is.written in
      record {
        sound = sound_behind t z.stage z.content behind;
        ordered = grown.ordered;
        written = written;
        leads = λ bytes.
            ap (read_of t) (append_assoc front (line ++ 10 ∷ []) bytes) ∙ is.leads ((line ++ 10 ∷ []) ++ bytes)
            ∙ ap (read_from t d (length front) []) (append_assoc line (10 ∷ []) bytes) ∙ line_is_read t d (length front) [] line bytes plain
            ∙ ap (λ (o : Option Draft). go_on (length front) o (λ x. read_from t x (length front + length line + 1) [] bytes)) e
            ∙ ap (λ (n : ℕ). read_from t z n [] bytes) (sym (longer front line));
        fits = inr (record { lines = front ++ line; ends = sym (append_assoc front line (10 ∷ [])); begins = subst (Begins (IsText t)) written (begins t z.stage z.content behind) });
      }

  fault : (front : List ℕ) (d : Draft) (line bytes : List ℕ) (at : ℕ) → IsDraftOf front d → IsLine line → read_from t d (length front) line bytes ≡ Err at → Stops
      (front ++ (line ++ bytes)) at
  fault front d line [] at is plain h = record {
    front = front;
    rest = line ++ [];
    parts = refl;
    place = place line h;
    fits = is.fits;
    stops = λ l behind p e b. feed_inside l behind (subst IsLine (sym (append-nil line) ∙ e) plain);
  }
    where
      ends : (b : Bool) → (if b then Ok d.content else Err (length front)) ≡ Err at → length front ≡ at
      ends true h = absurd (apart d.content at (sym h))
      ends false h = same_fault {A = Content} (length front) at h

      place : (line : List ℕ) → read_from t d (length front) line [] ≡ Err at → length front ≡ at
      place [] h = ends (is_ended d.stage) h
      place (b ∷ line) h = same_fault {A = Content} (length front) at h
  fault front d line (b ∷ bytes) at is plain h = go (nat_eq b 10) refl h (λ z x k. fault (front ++ (line ++ 10 ∷ [])) z [] bytes at x tt k)
      (λ e k. fault front d (line ++ b ∷ []) bytes at is (lacks_join 10 line (b ∷ []) plain (e, tt)) k)
    where
      behind_feed : b ≡ 10 → (next : Option Draft) → with_line t d line ≡ next → go_on (length front) next (λ z. read_from t z (length front + length line + 1) [] bytes) ≡ Err at
          → ((z : Draft) → IsDraftOf (front ++ (line ++ 10 ∷ [])) z → read_from t z (length (front ++ (line ++ 10 ∷ []))) [] bytes ≡ Err at → Stops
          ((front ++ (line ++ 10 ∷ [])) ++ bytes) at)
          → Stops (front ++ (line ++ b ∷ bytes)) at
      behind_feed e None k h rest = record {
        front = front;
        rest = line ++ b ∷ bytes;
        parts = refl;
        place = same_fault {A = Content} (length front) at h;
        fits = is.fits;
        stops = λ l behind p same text.
            let one = same_line line l bytes behind plain p (ap (λ (n : ℕ). line ++ n ∷ bytes) (sym e) ∙ same) in
            not_begun front d line is plain k (subst (λ (x : List ℕ). Begins (IsText t) (front ++ (x ++ 10 ∷ []))) (sym one) text);
      }
      behind_feed e (Some z) k h rest =
          subst (λ (l : List ℕ). Stops l at) (append_assoc front (line ++ 10 ∷ []) bytes ∙ ap (λ (l : List ℕ). front ++ l)
          (append_assoc line (10 ∷ []) bytes ∙ ap (λ (n : ℕ). line ++ n ∷ bytes) (sym e)))
          (rest z (next_draft front d z line is plain k) (ap (λ (n : ℕ). read_from t z n [] bytes) (longer front line) ∙ h))

      go : (x : Bool) → nat_eq b 10 ≡ x
          → (if x then go_on (length front) (with_line t d line) (λ z. read_from t z (length front + length line + 1) [] bytes) else read_from t d (length front)
          (line ++ b ∷ []) bytes) ≡ Err at
          → ((z : Draft) → IsDraftOf (front ++ (line ++ 10 ∷ [])) z → read_from t z (length (front ++ (line ++ 10 ∷ []))) [] bytes ≡ Err at → Stops
          ((front ++ (line ++ 10 ∷ [])) ++ bytes) at)
          → (nat_eq b 10 ≡ false → read_from t d (length front) (line ++ b ∷ []) bytes ≡ Err at → Stops (front ++ ((line ++ b ∷ []) ++ bytes)) at)
          → Stops (front ++ (line ++ b ∷ bytes)) at
      go true e h rest other = behind_feed (eqb-true b 10 e) (with_line t d line) refl h rest
      go false e h rest other = subst (λ (l : List ℕ). Stops (front ++ l) at) (append_assoc line (b ∷ []) bytes) (other e h)

  pub refused_at_fault : (bytes : List ℕ) (at : ℕ) → read_of t bytes ≡ Err at → IsFault (IsText t) bytes at
  refused_at_fault bytes at h =
      let s = fault [] nothing [] bytes at (record { sound = (refl, refl); ordered = (refl, refl); written = refl; leads = λ rest. refl; fits = inl refl }) tt h in
      record { other = refused bytes at h; front = s.front; rest = s.rest; parts = s.parts; place = s.place; fits = s.fits; stops = s.stops }
