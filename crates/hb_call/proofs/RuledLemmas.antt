-- The decision of a call by its ruling, and what is kept behind it.
use Rattle.std.proofs.Common.{◌≡◌, ℕ, List, [], ◌∷◌, ◌++◌, Some, Ok, refl, sym, ap, ◌∙◌, subst}
use Rattle.std.proofs.lemmas.List.{append-nil}
use Rattle.std.specs.Prelude.{Option, false, Result, Err, IsErrAnd}
use Rattle.hb_types.specs.declared.ids.KeyId.{KeyId}
use Rattle.hb_types.specs.declared.ids.BodySite.{BodySite}
use Rattle.hb_names.specs.Names.{Name, place}
use Rattle.hb_tables.specs.declared.entry.Entry.{Entry}
use Rattle.hb_tables.specs.declared.entry.Verdict.{Verdict}
use Rattle.hb_tables.specs.declared.entry.Act.{Act}
use Rattle.hb_tables.specs.declared.entry.Act.TheVariants.{Call}
use Rattle.hb_tables.specs.declared.entry.Verdict.TheVariants as verdict
use Rattle.hb_tables.specs.declared.entry.By.TheVariants as by
use Rattle.hb_tables.specs.History.{spot, journal, entry, Adds, IsLegal}
use Rattle.hb_tables.specs.Rows.{IsDecided, kinds_of}
use Rattle.hb_tables.proofs.DeskLemmas.{adds_prefix, learns_acts}
use Rattle.hb_tables.proofs.FrontLemmas.{adds_act}
use Rattle.hb_tables.proofs.HistoryLemmas.{legal_prefix}
use Rattle.hb_call.specs.declared.answers.Answer.{Answer}
use Rattle.hb_call.specs.declared.frame.CallFail.{CallFail}
use Rattle.hb_call.specs.declared.ruling.Ruling.{Ruling}
use Rattle.hb_call.specs.declared.ruling.Ruling.TheVariants as ruling
use Rattle.hb_call.specs.Calling.{Given, IsCalling}
use Rattle.hb_call.specs.Deciding.{IsOwnBehind, IsRuled, IsShown, Shows, site_by, verdict_by}
use Rattle.hb_call.specs.GrowthLaws.{prefix_itself}
use Rattle.hb_call.specs.Own.{brings}
use Rattle.hb_call.specs.OwnCache.{IsOwnCache}
use Rattle.hb_call.specs.OwnLaws.{own_stays}
use Rattle.hb_call.specs.Growth.{EachNew}
use Rattle.hb_call.specs.Rules.{EntersBy}
use Rattle.hb_call.proofs.GrowthLemmas.{each_adds}
use Rattle.hb_call.proofs.DecidingLemmas.{learned, row_here}
use Rattle.hb_call.proofs.NarrowLemmas.{narrow}

module _ (g : Given) (known asked : List Name) (log : List Entry) (held : List KeyId) (compared answers : List Answer) (h : IsCalling g.t g.door g.q.0 known asked log g.key g.own held (compared ++ answers))
    (new : List Entry) (site : Option BodySite) (v : Verdict) (between : List Entry) (is : new ≡ (log ++ between) ++ entry g.door.caller (Call g.key g.q site g.args v) ∷ []) (none : journal g.door.caller between ≡ []) (legal : IsLegal g.door.limit new)
    (ruled : IsRuled g site compared answers v) (bytes : List ℕ) (named : place known (g.class.0, bytes) ≡ Some g.key.0) (defined : site ≡ (spot g.key.0 (log ++ between)).body) where
  abbrev here : List Entry
  here = log ++ between

  calling_here : IsCalling g.t g.door g.q.0 known asked here g.key g.own held (compared ++ answers)
  calling_here = learned g.t g.door g.q known asked log g.key g.own held (compared ++ answers) h here (between, refl, none) (legal_prefix g.door.limit here new (entry g.door.caller (Call g.key g.q site g.args v) ∷ [], sym is) legal)

  narrow_here : IsCalling g.t g.door g.q.0 known asked here g.key g.own held answers
  narrow_here = narrow g known asked here held compared answers calling_here site v ruled

  -- the call is decided as its row says
  pub ruled_row : IsDecided g.t known here (g.door.caller, g.q.0) g.key.0 site (kinds_of g.args) v
  ruled_row = row_here g.t g.door g.q known asked here g.key g.own held answers narrow_here g.class.0 bytes site (kinds_of g.args) v named defined ruled.verdict

  own_here : (past : Option (List Act)) → IsOwnCache g.t known asked g.door.caller past log g.cache → IsOwnCache g.t known asked g.door.caller past here g.cache
  own_here past own = own_stays g.t known known asked asked g.door.caller past log here g.cache (prefix_itself known) (prefix_itself asked) own [] (between, refl) (learns_acts g.door.caller log here (between, refl, none) ∙ sym (append-nil _)) tt

  abbrev adds : Adds g.door.caller log new (Call g.key g.q site g.args v)
  adds = (between, is, none)

  -- and enters by the right check
  pub ruled_ways : (past : List Act) → IsOwnCache g.t known asked g.door.caller (Some past) log g.cache → EachNew (EntersBy g.door.caller past) g.door.caller log new
  ruled_ways past own = each_adds (EntersBy g.door.caller past) g.door.caller log new (Call g.key g.q site g.args v) adds (ruled.way known asked past here (own_here (Some past) own) defined calling_here.own_is calling_here.answered)

  own_call : (past : Option (List Act)) → IsOwnCache g.t known asked g.door.caller past log g.cache → brings v ≡ false → IsOwnCache g.t known asked g.door.caller past new g.cache
  own_call past own old = own_stays g.t known known asked asked g.door.caller past log new g.cache (prefix_itself known) (prefix_itself asked) own (Call g.key g.q site g.args v ∷ []) (adds_prefix g.door.caller log new (Call g.key g.q site g.args v) adds) (adds_act g.door.caller log new (Call g.key g.q site g.args v) adds) (old, tt)

  -- what is kept is true, and its machine's own, behind the Call, or was before that of a fresh check
  pub ruled_own : (past : Option (List Act)) → IsOwnCache g.t known asked g.door.caller past log g.cache → (said : List Answer) (r : Ruling) → v ≡ verdict_by r → site ≡ site_by r → Shows g said answers r → IsOwnBehind g past known asked new held said (Ok r)
  ruled_own past own said (ruling.Kept body) e f shows = own_call past own (ap brings e)
  ruled_own past own said (ruling.Checked d) e f shows = record {
    before = here;
    is = is ∙ ap (λ (o : Option BodySite). here ++ entry g.door.caller (Call g.key g.q o g.args v) ∷ []) f ∙ ap (λ (w : Verdict). here ++ entry g.door.caller (Call g.key g.q (Some d.body) g.args w) ∷ []) e;
    named = (bytes, named);
    calling = subst (λ (l : List Answer). IsCalling g.t g.door g.q.0 known asked here g.key g.own held l) shows.0 narrow_here;
    shown = subst (λ (l : List Answer). IsShown g l d) shows.0 shows.1;
    kept = own_here past own;
  }
  ruled_own past own said (ruling.Refused other w) e f shows = own_call past own (ap brings e ∙ shows)

-- no derivation is shared
pub ruled_unshared : (g : Given) (said answers : List Answer) (v : Verdict) (r : Ruling) → v ≡ verdict_by r → Shows g said answers r → v ≡ verdict.Enter by.Shared → ⊥
ruled_unshared g said answers v (ruling.Kept body) e shows f = let h = sym e ∙ f in absurd (cc h)
ruled_unshared g said answers v (ruling.Checked d) e shows f = let h = sym e ∙ f in absurd (cc h)
ruled_unshared g said answers v (ruling.Refused site w) e shows f = let h : false ≡ brings (verdict.Enter by.Shared) = sym shows ∙ ap brings (sym e ∙ f) in absurd (cc h)

-- a call that was not decided leaves what is kept
pub own_stopped : (g : Given) (past : Option (List Act)) (known asked : List Name) (new : List Entry) (held : List KeyId) (said : List Answer) (r : Result Ruling CallFail) (cause : CallFail) → IsErrAnd r (λ x. x ≡ cause) → IsOwnCache g.t known asked g.door.caller past new g.cache → IsOwnBehind g past known asked new held said r
own_stopped g past known asked new held said (Ok r) cause e own = absurd e
own_stopped g past known asked new held said (Err x) cause e own = own
