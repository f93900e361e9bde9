-- What a call comes to by a check of its body, or by a kept one.
use Rattle.std.proofs.Common.{◌≡◌, ℕ, Bool, true, false, eqb, List, [], ◌∷◌, ◌++◌, Some, None, Ok, refl, sym, ap, ◌∙◌, subst}
use Rattle.std.proofs.lemmas.Bool.{eqb-true}
use Rattle.std.proofs.lemmas.Option.{none-some}
use Rattle.std.specs.Prelude.{Option, if◌then◌else◌}
use Rattle.hb_types.specs.declared.ids.KeyId.{KeyId}
use Rattle.hb_types.specs.declared.ids.BodySite.{BodySite}
use Rattle.hb_types.specs.declared.ids.TypeSite.{TypeSite}
use Rattle.hb_types.specs.declared.types.Ty.{Ty}
use Rattle.hb_types.specs.declared.types.MethodTy.{MethodTy}
use Rattle.hb_tree.specs.declared.parts.Body.{Body}
use Rattle.hb_tree.specs.Table.{Table}
use Rattle.hb_deriv.specs.Programs.{sites_of}
use Rattle.hb_cache.specs.declared.kept.Kept.{Kept}
use Rattle.hb_cache.specs.Kept.{of_body}
use Rattle.hb_check.specs.declared.bodies.Checked.{Checked}
use Rattle.hb_check.specs.declared.bodies.Checked.TheVariants as checked
use Rattle.hb_check.specs.Asked.{Refusal}
use Rattle.hb_check.specs.Checking.{Answers, IsDerivation}
use Rattle.hb_tables.specs.declared.entry.Act.{Act}
use Rattle.hb_tables.specs.declared.entry.Entry.{Entry}
use Rattle.hb_tables.specs.declared.entry.Verdict.{Verdict}
use Rattle.hb_tables.specs.declared.entry.Verdict.TheVariants as verdict
use Rattle.hb_tables.specs.declared.entry.By.TheVariants as by
use Rattle.hb_tables.specs.Rows.{body_at, kinds_of}
use Rattle.hb_tables.specs.Verdicts.{takes}
use Rattle.hb_call.specs.declared.answers.Answer.{Answer}
use Rattle.hb_call.specs.declared.ruling.Ruling.TheVariants as ruling
use Rattle.hb_call.specs.Calling.{Given, IsCalling, Moment, answers_of}
use Rattle.hb_call.specs.Comparing.{HasAgreed, HasDiffered, TakesArgs}
use Rattle.hb_call.specs.Deciding.{AreNext, IsVerdictBy, IsRuledAt, told, type_declared}
use Rattle.hb_call.specs.Own.{brings}
use Rattle.hb_call.specs.Rules.{IsRightWay}
use Rattle.hb_call.proofs.DecidingLemmas.{found_by}
use Rattle.hb_call.proofs.LookingLemmas.{true_front}

-- the type at the site that is declared for the own key
pub takes_at : (g : Given) (t : TakesArgs g) (declared : TypeSite) → g.own.ty ≡ Some declared → sites_of g.t declared.0 ≡ Some t.ty
takes_at g t declared own = let same : t.declared ≡ declared = let e : Some t.declared ≡ Some declared = sym t.typed ∙ own in cc e in subst (λ (s : TypeSite). sites_of g.t s.0 ≡ Some t.ty) same t.is

pub same_site : (a b : BodySite) → a.0 ≡ b.0 → a ≡ b
same_site a b e = ap (λ (n : ℕ). record { 0 = n }) e

-- by a check of the body
pub ruled_by : (g : Given) (m : Moment) (held : List KeyId) (compared answers : List Answer) (body : BodySite) (declared : TypeSite) (refused : Option Refusal) (found : Checked) (t : TakesArgs g) → g.own.ty ≡ Some declared → Answers g.t g.class.0 body.0 declared.0 (answers_of answers) refused (Ok found) → HasDiffered g body compared
    → IsCalling g.t g.door g.q.0 m.known m.asked m.log g.key g.own held (compared ++ answers) → IsRuledAt g m held answers (Some body) (told body found)
ruled_by g m held compared answers body declared refused (checked.Good d) t own a differs calling = record {
  is = ap Some (same_site body d.body (sym a.derivation.body_is));
  compared = compared;
  answers = answers;
  calling = calling;
  ruled = record {
    verdict = subst (λ (o : Option TypeSite). IsVerdictBy g.t g.class.0 (Some body) o (kinds_of g.args) (answers_of answers) (verdict.Enter by.Fresh)) (sym own) (found_by g.t g.class.0 body declared t.ty (kinds_of g.args) (answers_of answers) refused (checked.Good d) (takes_at g t declared own) t.fits a);
    next = differs.next;
    way = λ names asked past log kept site own told. differs.none names asked past log kept site own (true_front g.t names log (g.door.caller, g.q.0) compared answers told);
  };
  shows = (refl, record { declared = declared; typed = own; shown = subst (λ (n : ℕ). IsDerivation g.t g.class.0 n declared.0 (answers_of answers) d) (sym a.derivation.body_is) a.derivation });
}
ruled_by g m held compared answers body declared refused (checked.Bad ill) t own a differs calling = record {
  is = refl;
  compared = compared;
  answers = answers;
  calling = calling;
  ruled = record {
    verdict = subst (λ (o : Option TypeSite). IsVerdictBy g.t g.class.0 (Some body) o (kinds_of g.args) (answers_of answers) (verdict.IllTyped ill)) (sym own) (found_by g.t g.class.0 body declared t.ty (kinds_of g.args) (answers_of answers) refused (checked.Bad ill) (takes_at g t declared own) t.fits a);
    next = differs.next;
    way = λ names asked past log kept site own told. tt;
  };
  shows = refl;
}

-- nothing was compared
pub none_next : (g : Given) (site : Option BodySite) → AreNext g site []
none_next g site [] rest a e D agree = absurd (cc e)
none_next g site (x ∷ first) rest a e D agree = absurd (cc e)

-- by a check that is kept
pub ruled_kept : (g : Given) (m : Moment) (held : List KeyId) (said : List Answer) (body : BodySite) → HasAgreed g m held body → IsRuledAt g m held said (Some body) (ruling.Kept body)
ruled_kept g m held said body h = record {
  is = refl;
  compared = [];
  answers = h.answers;
  calling = h.calling;
  ruled = record { verdict = h.rests; next = none_next g (Some body); way = h.way };
  shows = tt;
}

-- a kept check that was found
pub found_kept : (n : ℕ) (o : Option Kept) (kept : Kept) → Some kept ≡ of_body n o → (o ≡ Some kept) × (kept.derivation.body.0 ≡ n)
found_kept n None kept e = absurd (none-some kept (sym e))
found_kept n (Some x) kept e = go (eqb x.derivation.body.0 n) refl e
  where
    go : (b : Bool) → eqb x.derivation.body.0 n ≡ b → Some kept ≡ (if b then Some x else None) → (Some x ≡ Some kept) × (kept.derivation.body.0 ≡ n)
    go true is e = (sym e, let a : kept ≡ x = cc e in ap (λ (y : Kept). y.derivation.body.0) a ∙ eqb-true x.derivation.body.0 n is)
    go false is e = absurd (none-some kept (sym e))

-- ── where no check is asked ──

pub no_body : (t : Table) (class : ℕ) (site : Option BodySite) (own : Option TypeSite) (kinds : List Ty) → body_at t site ≡ None → IsVerdictBy t class site own kinds [] verdict.NoBody
no_body t class site own kinds e D agree = rw e (refl, refl)

pub no_type : (t : Table) (class : ℕ) (site : Option BodySite) (own : Option TypeSite) (kinds : List Ty) (b : Body) → body_at t site ≡ Some b → type_declared t own ≡ None → IsVerdictBy t class site own kinds [] verdict.NoType
no_type t class site own kinds b e f D agree = rw (e, f) (refl, refl)

pub bad_args : (t : Table) (class : ℕ) (site : Option BodySite) (own : Option TypeSite) (kinds : List Ty) (b : Body) (m : MethodTy) → body_at t site ≡ Some b → type_declared t own ≡ Some m → takes m kinds ≡ false → IsVerdictBy t class site own kinds [] verdict.BadArgs
bad_args t class site own kinds b m e f fits D agree = rw (e, f, fits) (refl, refl)

-- a call that may not run its body, whatever is kept
pub ruled_early : (g : Given) (m : Moment) (held : List KeyId) (said answers : List Answer) (site : Option BodySite) (v : Verdict) → IsVerdictBy g.t g.class.0 site g.own.ty (kinds_of g.args) [] v → ((c : ℕ) (past : List Act) (k : ℕ) (log : List Entry) → IsRightWay c past k log v) → brings v ≡ false → answers ≡ [] → IsCalling g.t g.door g.q.0 m.known m.asked m.log g.key g.own held answers → IsRuledAt g m held said site (ruling.Refused site v)
ruled_early g m held said answers site v by way refuses none calling = record {
  is = refl;
  compared = [];
  answers = [];
  calling = subst (λ (l : List Answer). IsCalling g.t g.door g.q.0 m.known m.asked m.log g.key g.own held l) none calling;
  ruled = record { verdict = by; next = none_next g site; way = λ names asked past log kept is own told. way g.door.caller past g.key.0 log };
  shows = refuses;
}
