-- What a check of a body answers.
use Rattle.std.specs.Prelude.{◌≡◌, ℕ, List, ◌++◌, map, Option, Some, None, Result, Ok, Err}
use Rattle.hb_tree.specs.Table.{Table}
use Rattle.hb_deriv.specs.{Judgement.IsJudged, Faults.BodyFails, Events.looks, Derivation.content_of}
use Rattle.hb_deriv.specs.declared.raw.Derivation.{Derivation}
use Rattle.hb_deriv.specs.{Judge.Key, Judge.Types, Judge.Subject, Programs.IsFor, Programs.sites_of, Programs.subject_of}
use Rattle.hb_check.specs.declared.{bodies.Checked.Checked, lookup.LookFail.LookFail}
use Rattle.hb_check.specs.declared.bodies.Checked.TheVariants as checked
use Rattle.hb_check.specs.Asked.{Asked, Refusal, Declared, Agrees, answer_of, types_in}
use Rattle.hb_check.specs.Runs.{IsCause, IsOnce, keys_asked}

-- A good body is judged, and a bad one has this first fault; the keys asked are the looks. Else they are a front of the
-- looks.
abbrev pub Tells : Types → Subject → List Key → Result Checked LookFail → Type 0
Tells types s keys (Ok (checked.Good d)) = IsJudged types s × (keys ≡ looks types s)
Tells types s keys (Ok (checked.Bad ill)) = BodyFails types s ill × (keys ≡ looks types s)
Tells types s keys (Err cause) = (rest : List Key) × (looks types s ≡ keys ++ rest)

-- the lookup refused nothing, or this is why the check has no answer
abbrev pub HasCause : Option Refusal → Result Checked LookFail → Type 0
HasCause refused (Ok found) = refused ≡ None
HasCause refused (Err cause) = IsCause cause refused

-- the derivation is for the program, of this body with self of this class at this declared type, and its uses are the answers
pub record IsDerivation (t : Table) (class body declared : ℕ) (answers : List Asked) (d : Derivation) : Type 0 where
  pub class_is : d.class.0 ≡ class
  pub body_is : d.body.0 ≡ body
  pub declared_is : d.declared.0 ≡ declared
  pub uses : answers ≡ map answer_of d.uses.items
  pub good : IsFor t (content_of d)

abbrev pub HasDerivation : Table → (class body declared : ℕ) → List Asked → Result Checked LookFail → Type 0
HasDerivation t class body declared answers (Ok (checked.Good d)) = IsDerivation t class body declared answers d
HasDerivation t class body declared answers _ = Unit {0}

-- The answer for this body, with self of this class, at this declared type. The lookup answered and refused this.
pub record Answers (t : Table) (class body declared : ℕ) (answers : List Asked) (refused : Option Refusal) (result : Result Checked LookFail) : Type 0 where
  pub subject : Subject
  pub subject_is : subject_of t class body declared ≡ Some subject
  -- in each type table that has the lookup's answers
  pub tells : (table : Declared) → Agrees answers table → Tells (types_in (sites_of t) table) subject (keys_asked answers refused) result
  -- no key was asked twice
  pub once : IsOnce (keys_asked answers refused)
  pub cause : HasCause refused result
  pub derivation : HasDerivation t class body declared answers result
