-- What is kept of a check that a call made.
use Rattle.std.specs.Prelude.{◌≡◌, ℕ, ◌<◌, ◌≤◌, ◌==◌, List, [], ◌∷◌, ◌++◌, length, map, Option, Some, None, if◌then◌else◌}
use Rattle.hb_types.specs.declared.ids.KeyId.{KeyId}
use Rattle.hb_deriv.specs.declared.raw.Derivation.{Derivation}
use Rattle.hb_deriv.specs.Derivation.{IsCopy}
use Rattle.hb_cache.specs.declared.{kept.Kept.Kept, kept.Seen.Seen}
use Rattle.hb_cache.specs.Kept.{kept_at}
use Rattle.hb_tables.specs.declared.desk.Held.{Held}
use Rattle.hb_call.specs.declared.{answers.Answer.Answer, share.TheConstants.COLLECTED_MAX}

-- what is kept of an answer
abbrev pub seen_of : Answer → Seen
seen_of a = record { key = a.key; site = a.held.ty; changes = a.held.changes }

-- The check of the key was put where nothing else of it is kept.
pub record IsPut (key : KeyId) (own : Held) (answers : List Answer) (d : Derivation) (old new : List (Option Kept)) : Type 0 where
  pub kept : Kept
  pub key_is : kept.key ≡ key
  pub changes : kept.changes ≡ own.changes
  pub counts : kept.counts.items ≡ map seen_of answers
  pub derivation : kept.derivation ≡ d
  pub put : (k : ℕ) → kept_at new k ≡ (if kept.key.0 == k then Some kept else kept_at old k)

-- a copy of the derivation goes last, where fewer were collected than may be
abbrev pub Shares : Derivation → Option (List Derivation) → Option (List Derivation) → Type 0
Shares d None new = new ≡ None
Shares d (Some old) new = (length old < COLLECTED_MAX → (copy : Derivation) × IsCopy d copy × (new ≡ Some (old ++ copy ∷ []))) × (COLLECTED_MAX ≤ length old → new ≡ Some old)
