-- A whole text that was written is read again.
use Rattle.std.proofs.Common.{◌≡◌, ℕ, ◌+◌, List, [], ◌∷◌, ◌++◌, length, map, refl, sym, ap, ◌∙◌, subst, append_assoc, append-nil}
use Rattle.std.specs.Prelude.{All, Option, Some, None, Result, Ok, nat_eq, codes}
use Rattle.std.specs.Option.{option_map}
use Rattle.std.specs.List.{flat_map}
use Rattle.std.proofs.lemmas.List.Elements.{All-head, All-tail}
use Rattle.hb_tree.specs.Table.{Table}
use Rattle.hb_tree.specs.Program.{IsProgram}
use Rattle.hb_deriv.specs.declared.raw.Used.{Used}
use Rattle.hb_deriv.specs.declared.raw.Step.{Step}
use Rattle.hb_deriv.specs.Derivation.{Content}
use Rattle.hb_deriv_text.specs.Text.{head_line, use_line, step_line, text_of, IsUseIn, IsStepIn}
use Rattle.hb_deriv_text.specs.declared.stage.Stage.{Stage}
use Rattle.hb_deriv_text.specs.declared.stage.Stage.TheVariants as stage
use Rattle.hb_deriv_text.specs.Reading.{Head, use_in, step_in, Draft, nothing, begun, with_use}
use Rattle.hb_deriv_text.specs.Reading.{with_step, step_or_end, use_or_more, with_line_at, with_line, go_on, read_from, read_of}
use Rattle.hb_deriv_text.specs.Written.{HasSmallPlaces, HasPlacesApart, IsOfExpression, IsSayable, first_body, first_type, first_use, first_step, first_of}
use Rattle.hb_deriv_text.proofs.MarkLemmas.{if_false, Lacks}
use Rattle.hb_deriv_text.proofs.FoundLemmas.{same_expr, same_body, same_type}
use Rattle.hb_deriv_text.proofs.LineLemmas.{head_words, use_words, step_words, head_ends, use_read, use_ends, step_read, step_ends, head_read, head_ends_once}

abbrev says : Content → Result Content ℕ
says c = Ok c

-- from this draft on, these bytes are read to their end, wherever they stand
abbrev Reaches : Table → Draft → List ℕ → Content → Type 0
Reaches t d bytes c = (at : ℕ) → read_from t d at [] bytes ≡ Ok c

reaches_same : (t : Table) (d : Draft) (bytes : List ℕ) (x y : Content) → x ≡ y → Reaches t d bytes x → Reaches t d bytes y
reaches_same t d bytes x y e r = λ at. r at ∙ ap says e

-- ── a line ──

pub line_is_read : (t : Table) (d : Draft) (at : ℕ) (before line rest : List ℕ) → Lacks 10 line
    → read_from t d at before (line ++ 10 ∷ rest) ≡ go_on at (with_line t d (before ++ line)) (λ next. read_from t next (at + length (before ++ line) + 1) [] rest)
line_is_read t d at before [] rest h =
    ap (λ (l : List ℕ). go_on at (with_line t d l) (λ next. read_from t next (at + length l + 1) [] rest)) (sym (append-nil before))
line_is_read t d at before (b ∷ line) rest h =
    if_false (nat_eq b 10) (go_on at (with_line t d before) (λ next. read_from t next (at + length before + 1) [] (line ++ 10 ∷ rest)))
    (read_from t d at (before ++ b ∷ []) (line ++ 10 ∷ rest)) h.0
    ∙ line_is_read t d at (before ++ b ∷ []) line rest h.1
    ∙ ap (λ (l : List ℕ). go_on at (with_line t d l) (λ next. read_from t next (at + length l + 1) [] rest)) (append_assoc before (b ∷ []) line)

takes_line : (t : Table) (d next : Draft) (line rest : List ℕ) (c : Content) → Lacks 10 line → with_line t d line ≡ Some next → Reaches t next rest c → Reaches t d
    ((line ++ 10 ∷ []) ++ rest) c
takes_line t d next line rest c lacks e r = λ at.
    ap (read_from t d at []) (append_assoc line (10 ∷ []) rest) ∙ line_is_read t d at [] line rest lacks
    ∙ ap (λ (o : Option Draft). go_on at o (λ z. read_from t z (at + length line + 1) [] rest)) e ∙ r (at + length line + 1)

-- ── steps and the end ──

abbrev IsOpen : Stage → Type 0
IsOpen stage.Uses = Unit {0}
IsOpen stage.Steps = Unit {0}
IsOpen _ = ⊥

abbrev draft : Stage → Content → Draft
draft s c = record { stage = s; content = c }

abbrev with_steps : Content → List Step → Content
with_steps c steps = record { class = c.class; body = c.body; declared = c.declared; uses = c.uses; steps = steps }

abbrev with_uses : Content → List Used → Content
with_uses c uses = record { class = c.class; body = c.body; declared = c.declared; uses = uses; steps = c.steps }

step_follows : (t : Table) (s : Stage) (c : Content) (line : List ℕ) (x : Step) → IsOpen s → use_in t line ≡ None → step_in t line ≡ Some x → with_line_at t s c line ≡ Some (with_step c x)
step_follows t stage.Head c line x o n e = absurd o
step_follows t stage.Uses c line x o n e = ap (use_or_more t c line) n ∙ ap (step_or_end c line) e
step_follows t stage.Steps c line x o n e = ap (step_or_end c line) e
step_follows t stage.Ended c line x o n e = absurd o

end_follows : (t : Table) (s : Stage) (c : Content) → IsOpen s → with_line_at t s c (codes "end") ≡ Some (draft stage.Ended c)
end_follows t stage.Head c o = absurd o
end_follows t stage.Uses c o = refl
end_follows t stage.Steps c o = refl
end_follows t stage.Ended c o = absurd o

module _ (t : Table) (program : IsProgram t) (small : HasSmallPlaces t) where
  steps_read : (s : Stage) (c : Content) (steps : List Step) → IsOpen s → All (IsStepIn t) steps → All (IsOfExpression t) steps
      → Reaches t (draft s c) (flat_map (step_line t) steps ++ codes "end\n") (with_steps c (c.steps ++ map (first_step t) steps))
  steps_read s c [] o h e =
      takes_line t (draft s c) (draft stage.Ended c) (codes "end") [] (with_steps c (c.steps ++ [])) (refl, (refl, (refl, tt))) (end_follows t s c o)
      (λ at. ap (λ (steps : List Step). says (with_steps c steps)) (sym (append-nil c.steps)))
  steps_read s c (x ∷ steps) o h e =
      let fits = All-head (IsStepIn t) x steps h in
      let expr = All-head (IsOfExpression t) x steps e in
      let d = with_step c (first_step t x) in
      λ at. ap (read_from t (draft s c) at []) (append_assoc (step_line t x) (flat_map (step_line t) steps) (codes "end\n"))
      ∙ takes_line t (draft s c) d (step_words t x) (flat_map (step_line t) steps ++ codes "end\n") (with_steps c (c.steps ++ first_step t x ∷ map (first_step t) steps))
      (step_ends t program small x fits expr) (step_follows t s c (step_words t x) (first_step t x) o refl (step_read t program small x fits expr))
      (reaches_same t d (flat_map (step_line t) steps ++ codes "end\n") (with_steps c ((c.steps ++ first_step t x ∷ []) ++ map (first_step t) steps))
      (with_steps c (c.steps ++ first_step t x ∷ map (first_step t) steps))
      (ap (with_steps c) (append_assoc c.steps (first_step t x ∷ []) (map (first_step t) steps)))
      (steps_read stage.Steps d.content steps tt (All-tail (IsStepIn t) x steps h) (All-tail (IsOfExpression t) x steps e))) at

  -- ── uses ──

  uses_read : (c : Content) (uses : List Used) (rest : List ℕ) (d : Content) → All (IsUseIn t) uses
      → Reaches t (draft stage.Uses (with_uses c (c.uses ++ map (first_use t) uses))) rest d → Reaches t (draft stage.Uses c) (flat_map (use_line t) uses ++ rest) d
  uses_read c [] rest d h r = subst (λ (uses : List Used). Reaches t (draft stage.Uses (with_uses c uses)) rest d) (append-nil c.uses) r
  uses_read c (u ∷ uses) rest d h r =
      let fits = All-head (IsUseIn t) u uses h in
      let next = with_use c (first_use t u) in
      λ at. ap (read_from t (draft stage.Uses c) at []) (append_assoc (use_line t u) (flat_map (use_line t) uses) rest)
      ∙ takes_line t (draft stage.Uses c) next (use_words t u) (flat_map (use_line t) uses ++ rest) d
      (use_ends t program small u fits) (ap (use_or_more t c (use_words t u)) (use_read t program small u fits))
      (uses_read next.content uses rest d (All-tail (IsUseIn t) u uses h)
      (subst (λ (l : List Used). Reaches t (draft stage.Uses (with_uses c l)) rest d) (sym (append_assoc c.uses (first_use t u ∷ []) (map (first_use t) uses))) r)) at

  -- ── a whole text ──

  pub written_is_read : (c : Content) → IsSayable t c → read_of t (text_of t c) ≡ Ok (first_of t c)
  written_is_read c h =
      let uses = flat_map (use_line t) c.uses in
      let steps = flat_map (step_line t) c.steps in
      let head = head_words t c.class c.body c.declared in
      let line : Head = record { class = c.class; body = first_body t c.body; declared = first_type t c.declared } in
      let next = begun nothing.content line in
      ap (read_of t) (append_assoc (head_line t c.class c.body c.declared ++ uses) steps (codes "end\n") ∙ append_assoc (head_line t c.class c.body c.declared) uses (steps ++ codes "end\n")
      ∙ ap (λ (l : List ℕ). l ++ (uses ++ (steps ++ codes "end\n"))) (head_ends t c.class c.body c.declared))
      ∙ takes_line t nothing next head (uses ++ (steps ++ codes "end\n")) (first_of t c) (head_ends_once t program small c.class c.body c.declared h.fits.class h.fits.body h.fits.declared)
      (ap (option_map (begun nothing.content)) (head_read t program small c.class c.body c.declared h.fits.class h.fits.body h.fits.declared))
      (uses_read next.content c.uses (steps ++ codes "end\n") (first_of t c) h.fits.uses
      (steps_read stage.Uses (with_uses next.content (map (first_use t) c.uses)) c.steps tt h.fits.steps h.steps)) 0

  -- where places are apart, it is the same that is read

  same_uses : HasPlacesApart t → (uses : List Used) → All (IsUseIn t) uses → map (first_use t) uses ≡ uses
  same_uses apart [] h = refl
  same_uses apart (u ∷ uses) h =
      ap (λ (site : ℕ). record { class = u.class; name = u.name; site = record { 0 = site } } ∷ map (first_use t) uses)
      (same_type t small program u.site.0 apart (All-head (IsUseIn t) u uses h).site)
      ∙ ap (λ (l : List Used). u ∷ l) (same_uses apart uses (All-tail (IsUseIn t) u uses h))

  same_steps : HasPlacesApart t → (steps : List Step) → All (IsOfExpression t) steps → map (first_step t) steps ≡ steps
  same_steps apart [] h = refl
  same_steps apart (s ∷ steps) h =
      ap (λ (id : ℕ). record { node = record { 0 = id }; ty = s.ty } ∷ map (first_step t) steps) (same_expr t small s.node.0 apart (All-head (IsOfExpression t) s steps h))
      ∙ ap (λ (l : List Step). s ∷ l) (same_steps apart steps (All-tail (IsOfExpression t) s steps h))

  pub same_is_read : HasPlacesApart t → (c : Content) → IsSayable t c → read_of t (text_of t c) ≡ Ok c
  same_is_read apart c h =
      written_is_read c h
      ∙ ap (λ (n : ℕ). says (record { class = c.class; body = n; declared = first_type t c.declared; uses = map (first_use t) c.uses; steps = map (first_step t) c.steps }))
      (same_body t small program c.body apart h.fits.body)
      ∙ ap (λ (n : ℕ). says (record { class = c.class; body = c.body; declared = n; uses = map (first_use t) c.uses; steps = map (first_step t) c.steps }))
      (same_type t small program c.declared apart h.fits.declared)
      ∙ ap (λ (l : List Used). says (record { class = c.class; body = c.body; declared = c.declared; uses = l; steps = map (first_step t) c.steps })) (same_uses apart c.uses h.fits.uses)
      ∙ ap (λ (l : List Step). says (record { class = c.class; body = c.body; declared = c.declared; uses = c.uses; steps = l })) (same_steps apart c.steps h.steps)
