-- What is due for a text that is refused, or whose turns are fixed, is one.
use Rattle.std.proofs.Common.{◌≡◌, ◌⊎◌, inl, inr, ℕ, List, Option, Some, Bool, true, false, sym, ap, ◌∙◌, arith, length, subst}
use Rattle.std.specs.Prelude.{if◌then◌else◌}
use Rattle.std.specs.List.{list_all}
use Rattle.hb_lex.specs.declared.faults.LexFail.{LexFail}
use Rattle.hb_lex.specs.declared.spans.Token.{Token}
use Rattle.hb_lex.specs.Text.{HasFault, HasTokens}
use Rattle.hb_build.specs.declared.faults.ParseFail.{ParseFail}
use Rattle.hb_build.specs.Said.{Said, said_in}
use Rattle.hb_eval.specs.Told.{Told, is_done}
use Rattle.hb_jobs.specs.Jobs.{Options}
use Rattle.hb_draft.specs.Laid.{IsLaid}
use Rattle.hb_tree.specs.Program.{IsProgram}
use Rattle.hb_parse.specs.Text.{IsFault, IsProgramOf, Says}
use Rattle.hb_top.specs.Answers.{HasFixedTurns, IsBundle, IsDeriveOf, IsOne, IsReadAs, IsReport, IsRunOf, IsTextOf, IsWhole, IsWithin}
use Rattle.hb_top.specs.Derived.{IsDerived}
use Rattle.hb_top.specs.Faults.{Fault, IsFirstFault, fault_line, lex_fault, parse_fault}
use Rattle.hb_top.specs.Outcomes.{Outcome, faulty}
use Rattle.hb_top.specs.Reports.{AreFixed, IsReported, ending_of}
use Rattle.hb_tree.specs.Table.{Table}
use Rattle.hb_top.specs.declared.due.Ending.TheVariants.{Done, Stopped, TextRefused}
use Rattle.hb_top.specs.declared.top.TheConstants.{LIMIT}

-- a text says one program or has one first fault
pub record OneText : Type 0 where
  pub tokens : (text : List ℕ) (xs ys : List Token) → HasTokens text xs → HasTokens text ys → xs ≡ ys
  pub lex_apart : (text : List ℕ) (tokens : List Token) (fault : LexFail) → HasTokens text tokens → HasFault text fault → ⊥
  pub lex_fault : (text : List ℕ) (e f : LexFail) → HasFault text e → HasFault text f → e ≡ f
  pub said : (text : List ℕ) (tokens : List Token) (a b : Said) → Says text tokens a → Says text tokens b → a ≡ b
  pub parse_apart : (text : List ℕ) (tokens : List Token) (said : Said) (fault : ParseFail) → Says text tokens said → IsFault text tokens fault → ⊥
  pub parse_fault : (text : List ℕ) (tokens : List Token) (e f : ParseFail) → IsFault text tokens e → IsFault text tokens f → e ≡ f
  pub program : (text : List ℕ) (tokens : List Token) (a b : Table) → HasTokens text tokens → IsProgram a → IsProgram b → IsLaid a → IsLaid b
      → IsProgramOf text tokens a → IsProgramOf text tokens b → a ≡ b
  pub report : (t : Table) (options : Options) (len : ℕ) (a b : Outcome) → AreFixed t options.order → IsReported t options len a → IsReported t options len b → a ≡ b

same-told : {X : Type 0} (tell : X → Option Fault) (e f : X) (a b : Fault) → e ≡ f → tell e ≡ Some a → tell f ≡ Some b → a ≡ b
same-told tell e f a b same x y =
    let s : Some a ≡ Some b = sym x ∙ ap tell same ∙ y in
    cc

one-fault : OneText → (text : List ℕ) (a b : Fault) → IsFirstFault text a → IsFirstFault text b → a ≡ b
one-fault one text a b (inl x) (inl y) = same-told lex_fault x.cause y.cause a b (one.lex_fault text _ _ x.first y.first) x.is_told y.is_told
one-fault one text a b (inl x) (inr y) = absurd (one.lex_apart text _ _ y.read x.first)
one-fault one text a b (inr x) (inl y) = absurd (one.lex_apart text _ _ x.read y.first)
one-fault one text a b (inr x) (inr y) =
    let tokens = one.tokens text x.tokens y.tokens x.read y.read in
    let first : IsFault text y.tokens x.cause = subst (λ (z : List Token). IsFault text z x.cause) tokens x.first in
    same-told parse_fault x.cause y.cause a b (one.parse_fault text _ _ _ first y.first) x.is_told y.is_told

-- a program has none
pub said-fault : OneText → (text : List ℕ) (program : Table) (fault : Fault) → IsTextOf text program → IsFirstFault text fault → ⊥
said-fault one text program fault said (inl x) = one.lex_apart text _ _ said.read x.first
said-fault one text program fault said (inr x) =
    let tokens = one.tokens text x.tokens said.tokens x.read said.read in
    one.parse_apart text said.tokens (said_in program) x.cause said.says (subst (λ (z : List Token). IsFault text z x.cause) tokens x.first)

-- a text says one program
pub one-said : OneText → (text : List ℕ) (a b : Table) → IsTextOf text a → IsTextOf text b → IsProgram a → IsProgram b → a ≡ b
one-said one text a b x y is_a is_b =
    let tokens : x.tokens ≡ y.tokens = one.tokens text x.tokens y.tokens x.read y.read in
    let of : IsProgramOf text y.tokens a = subst (λ (z : List Token). IsProgramOf text z a) tokens x.says in
    one.program text y.tokens a b y.read is_a is_b x.laid y.laid of y.says

-- nor has it another outcome, where what the program comes to is one
one-whole : OneText → (Comes : Table → Outcome → Type 0) (text : List ℕ) (a b : Outcome) → ((t : Table) → IsTextOf text t → Comes t a → Comes t b → a ≡ b)
    → IsWhole Comes text a → IsWhole Comes text b → a ≡ b
one-whole one Comes text a b same x y =
    let programs : x.program ≡ y.program = one-said one text x.program y.program x.said y.said x.is y.is in
    same y.program y.said (subst (λ (t : Table). Comes t a) programs x.comes) y.comes

one-read : OneText → (Comes : Table → Outcome → Type 0) (text : List ℕ) (takes : ℕ) (a b : Outcome) → ((t : Table) → IsTextOf text t → Comes t a → Comes t b → a ≡ b)
    → IsReadAs Comes text takes a → IsReadAs Comes text takes b → a ≡ b
one-read one Comes text takes a b same (inl x) (inl y) =
    x.same ∙ ap (λ (z : Fault). faulty (fault_line text z) takes) (one-fault one text x.fault y.fault x.first y.first) ∙ sym y.same
one-read one Comes text takes a b same (inl x) (inr y) = absurd (said-fault one text y.program x.fault y.said x.first)
one-read one Comes text takes a b same (inr x) (inl y) = absurd (said-fault one text x.program y.fault x.said y.first)
one-read one Comes text takes a b same (inr x) (inr y) = one-whole one Comes text a b same x y

one-within : (limit : ℕ) (Comes : List ℕ → Outcome → Type 0) (text : List ℕ) (a b : Outcome) → (Comes text a → Comes text b → a ≡ b)
    → IsWithin limit Comes text a → IsWithin limit Comes text b → a ≡ b
one-within limit Comes text a b same (inl r) (inl s) = r.1 ∙ sym s.1
one-within limit Comes text a b same (inl r) (inr s) = absurd (omega (arith, r.0, s.0))
one-within limit Comes text a b same (inr r) (inl s) = absurd (omega (arith, r.0, s.0))
one-within limit Comes text a b same (inr r) (inr s) = same r.1 s.1

-- how runs end is no refusal, nor is a report
pub ends-not_refused : (done : Bool) → (if done then Done else Stopped) ≡ TextRefused → ⊥
ends-not_refused true e = cc
ends-not_refused false e = cc

pub runs-not_refused : (runs : List Told) (o : Outcome) → o.ending ≡ ending_of runs → o.ending ≡ TextRefused → ⊥
runs-not_refused runs o same refused = ends-not_refused (list_all (λ r. is_done r.outcome) runs) (sym same ∙ refused)

pub reported-not_refused : (t : Table) (options : Options) (len : ℕ) (o : Outcome) → IsReported t options len o → o.ending ≡ TextRefused → ⊥
reported-not_refused t options len o told refused = runs-not_refused told.runs o (ap (λ (x : Outcome). x.ending) told.same) refused

one-reported : OneText → (options : Options) (text : List ℕ) (a b : Outcome) → (a.ending ≡ TextRefused) ⊎ HasFixedTurns options text
    → (t : Table) → IsTextOf text t → IsReported t options (length text) a → IsReported t options (length text) b → a ≡ b
one-reported one options text a b (inl refused) t said x y = absurd (reported-not_refused t options (length text) a x refused)
one-reported one options text a b (inr fixed) t said x y = one.report t options (length text) a b (fixed t said) x y

pub one-due : OneText → (options : Options) (text : List ℕ) (a b : Outcome) → IsRunOf options text a → IsRunOf options text b → IsOne options text a b
one-due one options text a b x y = λ cause.
    one-within LIMIT (IsReport options) text a b (one-read one (λ t. IsReported t options (length text)) text (length text) a b (one-reported one options text a b cause)) x y

-- what a program's derivations come to is one
abbrev pub HaveOneBundle : Type 0
HaveOneBundle = (t : Table) (text : List ℕ) (a b : Outcome) → IsDerived t text a → IsDerived t text b → a ≡ b

pub one-bundle : OneText → HaveOneBundle → (text : List ℕ) (a b : Outcome) → IsDeriveOf text a → IsDeriveOf text b → a ≡ b
one-bundle one derived text a b x y =
    one-within LIMIT IsBundle text a b (one-read one (λ t. IsDerived t text) text (length text) a b (λ t said. derived t text a b)) x y
