-- Where texts of derivations go wrong: where the first one that is none does.
use Rattle.std.proofs.Common.{◌≡◌, ◌⊎◌, inl, inr, ℕ, ◌+◌, List, [], ◌∷◌, ◌++◌, length, refl, sym, ap, ◌∙◌, subst, append_assoc, append-nil, length-append}
use Rattle.std.proofs.lemmas.List.Elements.{All-nil, All-append, All-head, All-tail, All-push}
use Rattle.std.proofs.lemmas.Grind.{flat_map-append}
use Rattle.std.proofs.lemmas.List.{append_cancel_left}
use Rattle.std.specs.Prelude.{All, codes}
use Rattle.hb_tree.specs.Table.{Table}
use Rattle.hb_tree.specs.Program.{IsProgram}
use Rattle.hb_deriv.specs.Derivation.{Content}
use Rattle.hb_deriv_text.specs.Text.{text_of}
use Rattle.hb_deriv_text.specs.Written.{HasSmallPlaces, IsSayable, IsText}
use Rattle.hb_deriv_text.specs.Faults.{IsLine, Begins, HasWholeLines, IsFault}
use Rattle.hb_deriv_text.proofs.FaultLemmas.{text_is_read}
use Rattle.hb_bundle.specs.Bundle.{AreTexts, texts_of}
use Rattle.hb_bundle.specs.Lines.{lines_of, IsEnded, IsUnended}
use Rattle.hb_bundle.proofs.EndLemmas.{one_end, no_end, read_ends}
use Rattle.hb_bundle.proofs.ListLemmas.{IsFront, compared, none_left}

-- ── texts ──

one_cut : (a b c d : List ℕ) → IsEnded a → IsEnded c → a ++ b ≡ c ++ d → (a ≡ c) × (b ≡ d)
one_cut a b c d p q e =
    let one = one_end p.lines q.lines b d p.others q.others
    (sym (append_assoc (lines_of p.lines) (codes "end\n") b) ∙ ap (λ (l : List ℕ). l ++ b) p.parts ∙ e
    ∙ ap (λ (l : List ℕ). l ++ d) (sym q.parts) ∙ append_assoc (lines_of q.lines) (codes "end\n") d) in
    (sym p.parts ∙ ap (λ (lines : List (List ℕ)). lines_of lines ++ codes "end\n") one.0 ∙ q.parts, one.1)

some_bytes : (a b : List ℕ) → IsEnded a → a ++ b ≡ [] → ⊥
some_bytes a b p e = go (lines_of p.lines) (ap (λ (l : List ℕ). l ++ b) p.parts ∙ e)
  where
    go : (front : List ℕ) → (front ++ codes "end\n") ++ b ≡ [] → ⊥
    go [] h = absurd (cc)
    go (x ∷ front) h = absurd (cc)

-- a text that begins the bytes is all that stands up to the first line `end`
first_text : (w more slice rem : List ℕ) → IsEnded w → IsEnded slice ⊎ ((rem ≡ []) × IsUnended slice) → w ++ more ≡ slice ++ rem → w ≡ slice
first_text w more slice rem p (inl q) e = (one_cut w more slice rem p q e).0
first_text w more slice rem p (inr q) e =
    absurd (no_end p.lines q.1.lines q.1.last more p.others q.1.others q.1.plain
    (sym (append_assoc (lines_of p.lines) (codes "end\n") more) ∙ ap (λ (l : List ℕ). l ++ more) p.parts ∙ e
    ∙ ap (λ (l : List ℕ). slice ++ l) q.0 ∙ append-nil slice ∙ sym q.1.parts))

module _ (t : Table) (program : IsProgram t) (small : HasSmallPlaces t) where
  text_ends : (bytes : List ℕ) → IsText t bytes → IsEnded bytes
  text_ends bytes h = let r = text_is_read t program small bytes h in read_ends t bytes r.0 r.1

  sayable_ends : (c : Content) → IsSayable t c → IsEnded (text_of t c)
  sayable_ends c h = text_ends (text_of t c) (record { content = c; sayable = h; written = refl })

  -- behind texts that begin the bytes of texts stand texts
  texts_behind : (cs ds : List Content) (rest : List ℕ) → All (IsSayable t) cs → All (IsSayable t) ds → texts_of t cs ++ rest ≡ texts_of t ds → AreTexts t rest
  texts_behind [] ds rest h k e = record { contents = ds; sayable = k; written = sym e }
  texts_behind (c ∷ cs) [] rest h k e =
      absurd (some_bytes (text_of t c) (texts_of t cs ++ rest) (sayable_ends c (All-head (IsSayable t) c cs h)) (sym (append_assoc (text_of t c) (texts_of t cs) rest) ∙ e))
  texts_behind (c ∷ cs) (d ∷ ds) rest h k e =
      let one = one_cut (text_of t c) (texts_of t cs ++ rest) (text_of t d) (texts_of t ds)
      (sayable_ends c (All-head (IsSayable t) c cs h)) (sayable_ends d (All-head (IsSayable t) d ds k)) (sym (append_assoc (text_of t c) (texts_of t cs) rest) ∙ e) in
      texts_behind cs ds rest (All-tail (IsSayable t) c cs h) (All-tail (IsSayable t) d ds k) one.1

  -- bytes that begin with no text
  module _ (slice rem : List ℕ) (at : ℕ) (up : IsEnded slice ⊎ ((rem ≡ []) × IsUnended slice)) (some : slice ++ rem ≡ [] → ⊥) (f : IsFault (IsText t) slice at) where
    no_text : (w more : List ℕ) → IsText t w → w ++ more ≡ slice ++ rem → ⊥
    no_text w more h e = f.other (subst (IsText t) (first_text w more slice rem (text_ends w h) up e) h)

    no_texts : (ds : List Content) → All (IsSayable t) ds → texts_of t ds ≡ slice ++ rem → ⊥
    no_texts [] h e = some (sym e)
    no_texts (d ∷ ds) h e = no_text (text_of t d) (texts_of t ds) (record { content = d; sayable = All-head (IsSayable t) d ds h; written = refl }) e

    -- no line goes on
    stuck : (line behind : List ℕ) → IsLine line → f.rest ++ rem ≡ line ++ 10 ∷ behind → Begins (IsText t) (f.front ++ (line ++ 10 ∷ [])) → ⊥
    stuck line behind plain e b = go (compared slice rem (f.front ++ (line ++ 10 ∷ [])) behind whole)
      where
        whole : slice ++ rem ≡ (f.front ++ (line ++ 10 ∷ [])) ++ behind
        whole =
            ap (λ (l : List ℕ). l ++ rem) (sym f.parts) ∙ append_assoc f.front f.rest rem ∙ ap (λ (l : List ℕ). f.front ++ l) e
            ∙ ap (λ (l : List ℕ). f.front ++ l) (sym (append_assoc line (10 ∷ []) behind)) ∙ sym (append_assoc f.front (line ++ 10 ∷ []) behind)

        -- the line stands in the slice
        inside : (more : List ℕ) → (f.front ++ (line ++ 10 ∷ [])) ++ more ≡ slice → ⊥
        inside more p = f.stops line more plain (append_cancel_left f.front f.rest (line ++ 10 ∷ more)
            (f.parts ∙ sym p ∙ append_assoc f.front (line ++ 10 ∷ []) more ∙ ap (λ (l : List ℕ). f.front ++ l) (append_assoc line (10 ∷ []) more))) b

        -- the line goes on behind the slice
        past : (more : List ℕ) → slice ++ more ≡ f.front ++ (line ++ 10 ∷ []) → more ++ behind ≡ rem → ⊥
        past more p q = ended up
          where
            at_end : more ≡ [] → ⊥
            at_end none = inside [] (append-nil (f.front ++ (line ++ 10 ∷ [])) ∙ sym p ∙ ap (λ (l : List ℕ). slice ++ l) none ∙ append-nil slice)

            text : List ℕ
            text = (f.front ++ (line ++ 10 ∷ [])) ++ b.behind

            longer : slice ++ (more ++ b.behind) ≡ text ++ []
            longer = sym (append_assoc slice more b.behind) ∙ ap (λ (l : List ℕ). l ++ b.behind) p ∙ sym (append-nil text)

            ended : IsEnded slice ⊎ ((rem ≡ []) × IsUnended slice) → ⊥
            ended (inl s) = at_end (none_left more b.behind (one_cut slice (more ++ b.behind) text [] s (text_ends text b.text) longer).1).0
            ended (inr s) = at_end (none_left more behind (q ∙ s.0)).0

        go : IsFront slice rem (f.front ++ (line ++ 10 ∷ [])) behind ⊎ IsFront (f.front ++ (line ++ 10 ∷ [])) behind slice rem → ⊥
        go (inl p) = past p.more p.front p.rest
        go (inr p) = inside p.more p.front

    -- the whole lines of a text are those of texts
    fits : (f.front ≡ []) ⊎ HasWholeLines (IsText t) f.front → (f.front ≡ []) ⊎ HasWholeLines (AreTexts t) f.front
    fits (inl none) = inl none
    fits (inr h) = inr (record {
      lines = h.lines;
      ends = h.ends;
      begins = record {
        behind = h.begins.behind;
        text = record {
          contents = h.begins.text.content ∷ [];
          sayable = All-append (IsSayable t) [] (h.begins.text.content ∷ []) (All-nil (IsSayable t)) (All-push (IsSayable t) [] h.begins.text.content (All-nil (IsSayable t)) h.begins.text.sayable);
          written = append-nil (text_of t h.begins.text.content) ∙ h.begins.text.written;
        };
      };
    })

    -- a line that goes on with texts goes on with the first of them
    stops : (line behind : List ℕ) → IsLine line → f.rest ++ rem ≡ line ++ 10 ∷ behind → Begins (AreTexts t) (f.front ++ (line ++ 10 ∷ [])) → ⊥
    stops line behind plain e b = go b.text.contents b.text.sayable b.text.written
      where
        front : List ℕ
        front = f.front ++ (line ++ 10 ∷ [])

        whole : slice ++ rem ≡ front ++ behind
        whole =
            ap (λ (l : List ℕ). l ++ rem) (sym f.parts) ∙ append_assoc f.front f.rest rem ∙ ap (λ (l : List ℕ). f.front ++ l) e
            ∙ ap (λ (l : List ℕ). f.front ++ l) (sym (append_assoc line (10 ∷ []) behind)) ∙ sym (append_assoc f.front (line ++ 10 ∷ []) behind)

        nothing : (a c d : List ℕ) → (a ++ (c ++ 10 ∷ [])) ++ d ≡ [] → ⊥
        nothing [] [] d h = absurd (cc)
        nothing [] (x ∷ c) d h = absurd (cc)
        nothing (x ∷ a) c d h = absurd (cc)

        first : (d : Content) (rest : List ℕ) → IsSayable t d → IsFront (text_of t d) rest front b.behind ⊎ IsFront front b.behind (text_of t d) rest → ⊥
        first d rest h (inl p) =
            no_text (text_of t d) (p.more ++ behind) (record { content = d; sayable = h; written = refl })
            (sym (append_assoc (text_of t d) p.more behind) ∙ ap (λ (l : List ℕ). l ++ behind) p.front ∙ sym whole)
        first d rest h (inr p) = stuck line behind plain e (record { behind = p.more; text = record { content = d; sayable = h; written = sym p.front } })

        go : (ds : List Content) → All (IsSayable t) ds → texts_of t ds ≡ front ++ b.behind → ⊥
        go [] h k = nothing f.front line b.behind (sym k)
        go (d ∷ ds) h k = first d (texts_of t ds) (All-head (IsSayable t) d ds h) (compared (text_of t d) (texts_of t ds) front b.behind k)

    pub fault_of_first : IsFault (AreTexts t) (slice ++ rem) at
    fault_of_first = record {
      other = λ texts. no_texts texts.contents texts.sayable texts.written;
      front = f.front;
      rest = f.rest ++ rem;
      parts = sym (append_assoc f.front f.rest rem) ∙ ap (λ (l : List ℕ). l ++ rem) f.parts;
      place = f.place;
      fits = fits f.fits;
      stops = stops;
    }

  -- ── behind texts ──

  join : (cs ds : List Content) → texts_of t (cs ++ ds) ≡ texts_of t cs ++ texts_of t ds
  join cs ds = flat_map-append (text_of t) cs ds

  module _ (cs : List Content) (said : All (IsSayable t) cs) (bytes : List ℕ) (at : ℕ) (f : IsFault (AreTexts t) bytes at) where
    -- whole lines behind texts
    lines_behind : HasWholeLines (AreTexts t) f.front → HasWholeLines (AreTexts t) (texts_of t cs ++ f.front)
    lines_behind h = record {
      lines = texts_of t cs ++ h.lines;
      ends = ap (λ (l : List ℕ). texts_of t cs ++ l) h.ends ∙ sym (append_assoc (texts_of t cs) h.lines (10 ∷ []));
      begins = record {
        behind = h.begins.behind;
        text = record {
          contents = cs ++ h.begins.text.contents;
          sayable = All-append (IsSayable t) cs h.begins.text.contents said h.begins.text.sayable;
          written = join cs h.begins.text.contents ∙ ap (λ (l : List ℕ). texts_of t cs ++ l) h.begins.text.written ∙ sym (append_assoc (texts_of t cs) f.front h.begins.behind);
        };
      };
    }

    -- texts are whole lines
    ends_line : (ds : List Content) → All (IsSayable t) ds → (texts_of t ds ≡ []) ⊎ ((lines : List ℕ) × (texts_of t ds ≡ lines ++ 10 ∷ []))
    ends_line [] h = inl refl
    ends_line (d ∷ ds) h = inr (go (ends_line ds (All-tail (IsSayable t) d ds h)))
      where
        one : (lines : List ℕ) × (text_of t d ≡ lines ++ 10 ∷ [])
        one = let p = sayable_ends d (All-head (IsSayable t) d ds h) in (lines_of p.lines ++ codes "end", sym p.parts ∙ sym (append_assoc (lines_of p.lines) (codes "end") (10 ∷ [])))

        go : (texts_of t ds ≡ []) ⊎ ((lines : List ℕ) × (texts_of t ds ≡ lines ++ 10 ∷ [])) → (lines : List ℕ) × (texts_of t (d ∷ ds) ≡ lines ++ 10 ∷ [])
        go (inl none) = (one.0, ap (λ (l : List ℕ). text_of t d ++ l) none ∙ append-nil (text_of t d) ∙ one.1)
        go (inr more) = (text_of t d ++ more.0, ap (λ (l : List ℕ). text_of t d ++ l) more.1 ∙ sym (append_assoc (text_of t d) more.0 (10 ∷ [])))

    fits_behind : (f.front ≡ []) ⊎ HasWholeLines (AreTexts t) f.front → (texts_of t cs ++ f.front ≡ []) ⊎ HasWholeLines (AreTexts t) (texts_of t cs ++ f.front)
    fits_behind (inr h) = inr (lines_behind h)
    fits_behind (inl none) = go (ends_line cs said)
      where
        same : texts_of t cs ++ f.front ≡ texts_of t cs
        same = ap (λ (l : List ℕ). texts_of t cs ++ l) none ∙ append-nil (texts_of t cs)

        go : (texts_of t cs ≡ []) ⊎ ((lines : List ℕ) × (texts_of t cs ≡ lines ++ 10 ∷ []))
            → (texts_of t cs ++ f.front ≡ []) ⊎ HasWholeLines (AreTexts t) (texts_of t cs ++ f.front)
        go (inl empty) = inl (same ∙ empty)
        go (inr whole) = inr (record {
          lines = whole.0;
          ends = same ∙ whole.1;
          begins = record {
            behind = [];
            text = record {
              contents = cs;
              sayable = said;
              written = sym same ∙ sym (append-nil (texts_of t cs ++ f.front));
            };
          };
        })

    pub fault_behind : IsFault (AreTexts t) (texts_of t cs ++ bytes) (length (texts_of t cs) + at)
    fault_behind = record {
      other = λ texts. f.other (texts_behind cs texts.contents bytes said texts.sayable (sym texts.written));
      front = texts_of t cs ++ f.front;
      rest = f.rest;
      parts = append_assoc (texts_of t cs) f.front f.rest ∙ ap (λ (l : List ℕ). texts_of t cs ++ l) f.parts;
      place = length-append (texts_of t cs) f.front ∙ ap (λ (n : ℕ). length (texts_of t cs) + n) f.place;
      fits = fits_behind f.fits;
      stops = λ line behind plain e b. f.stops line behind plain e (record {
        behind = b.behind;
        text = texts_behind cs b.text.contents ((f.front ++ (line ++ 10 ∷ [])) ++ b.behind) said b.text.sayable
            (sym (append_assoc (texts_of t cs) (f.front ++ (line ++ 10 ∷ [])) b.behind) ∙ ap (λ (l : List ℕ). l ++ b.behind) (sym (append_assoc (texts_of t cs) f.front (line ++ 10 ∷ [])))
            ∙ sym b.text.written);
      });
    }
