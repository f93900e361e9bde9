-- What a text is read as.
use Rattle.std.proofs.Common.{◌≡◌, ◌∙◌, ◌⊎◌, inl, inr, List, ℕ, Some, None, Ok, Err, refl, sym, ap}
use Rattle.std.specs.Prelude.{IfOk}
use Rattle.std.specs.declared.option.Option.{Option}
use Rattle.std.specs.declared.result.Result.{Result}
use Rattle.hb_lex.specs.declared.faults.LexFail.{LexFail}
use Rattle.hb_lex.specs.declared.faults.LexFail.TheVariants as lex
use Rattle.hb_lex.specs.declared.spans.Token.{Token}
use Rattle.hb_lex.specs.Text.{HasFault, HasTokens}
use Rattle.hb_build.specs.declared.faults.ParseFail.{ParseFail}
use Rattle.hb_build.specs.declared.faults.ParseFail.TheVariants as parse
use Rattle.hb_parse.specs.Text.{IsFault}
use Rattle.hb_top.specs.Faults.{Fault, IsFirstFault, lex_fault, parse_fault}
use Rattle.hb_top.specs.Texts.{IsReading, IsRefusal}
use Rattle.hb_top.specs.declared.texts.Reading.{Reading}
use Rattle.hb_top.specs.declared.texts.Reading.TheVariants as reading

refusal-reading : {E : Type 0} (text : List ℕ) (found : Option Fault) (r : Result Reading E) → ((fault : Fault) → found ≡ Some fault → IsFirstFault text fault)
    → IfOk r (λ reading. IsRefusal text found reading) → IfOk r (IsReading text)
refusal-reading text found (Err e) first is = tt
refusal-reading text found (Ok (reading.Program program)) first is = absurd is
refusal-reading text None (Ok (reading.Refused due)) first is = absurd is
refusal-reading text (Some fault) (Ok (reading.Refused due)) first is = (fault, first fault refl, is)

pub lex-reading : {E : Type 0} (text : List ℕ) (fail : LexFail) (found : Option Fault) (r : Result Reading E) → (fail ≡ lex.NoMemory) ⊎ HasFault text fail
    → found ≡ lex_fault fail → IfOk r (λ reading. IsRefusal text found reading) → IfOk r (IsReading text)
lex-reading text fail found r (inl memory) told is =
    refusal-reading text found r (λ fault e. let some : None ≡ Some fault = sym (ap lex_fault memory) ∙ sym told ∙ e in absurd cc) is
lex-reading text fail found r (inr first) told is =
    refusal-reading text found r (λ fault e. inl (record { cause = fail; first = first; is_told = sym told ∙ e })) is

pub parse-reading : {E : Type 0} (text : List ℕ) (tokens : List Token) (fail : ParseFail) (found : Option Fault) (r : Result Reading E) → HasTokens text tokens
    → IsFault text tokens fail ⊎ (fail ≡ parse.NoMemory) → found ≡ parse_fault fail → IfOk r (λ reading. IsRefusal text found reading) → IfOk r (IsReading text)
parse-reading text tokens fail found r read (inl first) told is =
    refusal-reading text found r (λ fault e. inr (record { tokens = tokens; read = read; cause = fail; first = first; is_told = sym told ∙ e })) is
parse-reading text tokens fail found r read (inr memory) told is =
    refusal-reading text found r (λ fault e. let some : None ≡ Some fault = sym (ap parse_fault memory) ∙ sym told ∙ e in absurd cc) is
