-- Texts of derivations verified one after another.
use Rattle.std.proofs.Common.{◌≡◌, ◌⊎◌, inl, inr, ℕ, ◌+◌, ◌<◌, ◌≤◌, List, [], ◌∷◌, ◌++◌, length, take, drop, Bool, true, false, refl, sym, ap, ◌∙◌, subst, append-nil, arith}
use Rattle.std.proofs.Math.ListN.{drop_of_length-le}
use Rattle.std.proofs.Math.Seq.{take-add}
use Rattle.std.proofs.lemmas.List.{take-append-drop, length-take-le, take_all}
use Rattle.std.proofs.lemmas.List.Elements.{All-push}
use Rattle.std.proofs.lemmas.List.Folds.{list_all-append}
use Rattle.std.proofs.lemmas.Grind.{flat_map-append}
use Rattle.std.specs.Prelude.{Err, ◌&&◌}
use Rattle.std.specs.List.{flat_map, list_all}
use Rattle.hb_tree.specs.Table.{Table}
use Rattle.hb_tree.specs.Program.{IsProgram}
use Rattle.hb_deriv.specs.Derivation.{Content}
use Rattle.hb_deriv_text.specs.Text.{text_of}
use Rattle.hb_deriv_text.specs.Reading.{read_of}
use Rattle.hb_deriv_text.specs.Reads.{IsReadAs}
use Rattle.hb_deriv_text.specs.Written.{HasSmallPlaces, IsSayable}
use Rattle.hb_deriv_text.specs.Faults.{IsFault}
use Rattle.hb_deriv_text.proofs.ReadLemmas.{read_is_written}
use Rattle.hb_deriv_text.proofs.FaultLemmas.{refused_at_fault}
use Rattle.hb_bundle.specs.Bundle.{AreTexts, texts_of}
use Rattle.hb_bundle.specs.Lines.{IsEnded, IsUnended, IsUpToEnd}
use Rattle.hb_bundle.specs.Verdicts.{verdict_line, is_good}
use Rattle.hb_bundle.specs.Told.{Adds}
use Rattle.hb_bundle.specs.Verifies.{AreVerified, VerifiesOne}
use Rattle.hb_bundle.specs.declared.verdicts.Verdicts.{Verdicts}
use Rattle.hb_bundle.proofs.FaultLemmas.{fault_of_first, fault_behind}

-- ── the first text ──

pub one_verified : (t : Table) (bytes : List ℕ) (n : ℕ) (old new : Verdicts) (d : Content) → 0 < n → n ≤ length bytes → IsReadAs t (take n bytes) d → Adds t d old new → VerifiesOne t bytes n old new
one_verified t bytes n old new d some within read added = record {
  some = some;
  within = within;
  content = d;
  sayable = read.sayable;
  written = read_is_written t (take n bytes) d read.says;
  added = added;
}

up_to : (bytes : List ℕ) (n : ℕ) → IsUpToEnd bytes n → IsEnded (take n bytes) ⊎ ((drop n bytes ≡ []) × IsUnended (take n bytes))
up_to bytes n (inl h) = inl h
up_to bytes n (inr h) = inr (drop_of_length-le bytes (omega (arith, h.0)), subst IsUnended (sym (take_all n bytes (omega (arith, h.0)))) h.1)

pub first_fault : (t : Table) (bytes : List ℕ) (n at : ℕ) → IsProgram t → HasSmallPlaces t → 0 < length bytes → IsUpToEnd bytes n
    → read_of t (take n bytes) ≡ Err at → IsFault (AreTexts t) bytes at
first_fault t bytes n at program small some up h =
    subst (λ (l : List ℕ). IsFault (AreTexts t) l at) (take-append-drop n bytes)
    (fault_of_first t program small (take n bytes) (drop n bytes) at (up_to bytes n up) none (refused_at_fault t program small (take n bytes) at h))
  where
    none : take n bytes ++ drop n bytes ≡ [] → ⊥
    none e = let empty = ap length (sym (take-append-drop n bytes) ∙ e) in absurd (omega (arith, empty, some))

-- ── all texts ──

pub more_verified : (t : Table) (bytes : List ℕ) (at n : ℕ) (old new : Verdicts) → AreVerified t (take at bytes) old.lines.items old.all_good
    → VerifiesOne t (drop at bytes) n old new → AreVerified t (take (at + n) bytes) new.lines.items new.all_good
more_verified t bytes at n old new before one = record {
  contents = before.contents ++ one.content ∷ [];
  sayable = All-push (IsSayable t) before.contents one.content before.sayable one.sayable;
  written =
      flat_map-append (text_of t) before.contents (one.content ∷ []) ∙ ap (λ (l : List ℕ). texts_of t before.contents ++ l) (append-nil (text_of t one.content))
      ∙ ap (λ (l : List ℕ). l ++ text_of t one.content) before.written ∙ ap (λ (l : List ℕ). take at bytes ++ l) one.written ∙ sym (take-add at n bytes);
  told =
      one.added.line ∙ ap (λ (l : List ℕ). l ++ verdict_line t one.content) before.told
      ∙ ap (λ (l : List ℕ). flat_map (verdict_line t) before.contents ++ l) (sym (append-nil (verdict_line t one.content)))
      ∙ sym (flat_map-append (verdict_line t) before.contents (one.content ∷ []));
  all =
      one.added.good ∙ ap (λ (b : Bool). b && is_good t one.content) before.all ∙ ap (λ (b : Bool). list_all (is_good t) before.contents && b) (sym (and_true (is_good t one.content)))
      ∙ sym (list_all-append (is_good t) before.contents (one.content ∷ []));
}
  where
    and_true : (b : Bool) → (b && true) ≡ b
    and_true true = refl
    and_true false = refl

pub fault_further : (t : Table) (bytes lines : List ℕ) (good : Bool) (at further : ℕ) → IsProgram t → HasSmallPlaces t → at ≤ length bytes
    → AreVerified t (take at bytes) lines good → IsFault (AreTexts t) (drop at bytes) further → IsFault (AreTexts t) bytes (at + further)
fault_further t bytes lines good at further program small within before f =
    subst (λ (n : ℕ). IsFault (AreTexts t) bytes (n + further)) (length-take-le at bytes within)
    (subst (λ (l : List ℕ). IsFault (AreTexts t) l (length (take at bytes) + further)) (take-append-drop at bytes)
    (subst (λ (l : List ℕ). IsFault (AreTexts t) (l ++ drop at bytes) (length l + further)) before.written
    (fault_behind t program small before.contents before.sayable (drop at bytes) further f)))
