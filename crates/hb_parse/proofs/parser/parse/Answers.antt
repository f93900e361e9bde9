use Rattle.std.proofs.Common.{arith, ◌≡◌, inl, inr, List, ℕ, length, refl, sym, ◌∙◌, ap, ap₂, subst, slice_get}
use Rattle.std.specs.Prelude.{All}
use Rattle.std.proofs.lemmas.Result.{err_from_is_err_and}
use Rattle.hb_lex.specs.declared.spans.Token.{Token}
use Rattle.hb_lex.specs.Tokens.{AreInOrder, Stands}
use Rattle.hb_tree.proofs.CanonLemmas.{canon-short}
use Rattle.hb_grammar.specs.Course.{ComesTo, StopsAt}
use Rattle.hb_build.specs.declared.held.Spot.{Spot}
use Rattle.hb_build.specs.declared.faults.ParseFail.TheVariants as fail
use Rattle.hb_build.specs.Acts.{Fails}
use Rattle.hb_build.specs.Acts.{act as perform}
use Rattle.hb_build.specs.Said.{Said}
use Rattle.hb_build.specs.Sound.{work_of}
use Rattle.hb_build.specs.Follow.{bytes_in, first_byte, last_of}
use Rattle.hb_build.proofs.ReadyLemmas.{ready-needed, ready-found, ready-names}
use Rattle.hb_parse.specs.Text.{Says, IsFault, byte_of}
use Rattle.hb_parse.proofs.CourseLemmas.{Kept, kept-start, kept-next, ready-here, at-the-end, at-a-miss, at-a-fault, few-tokens, last-stands, byte-within, spot-here, bytes-here, at-order, new-within}
use Rattle.hb_parse.proofs.parser.parse.Goals as goal

pub last_of-token-requires : goal.last_of-token-requires
last_of-token-requires c =
    let k = c.loop-builder.invariant in
    let comes : ComesTo c.loop-builder.course c.in-Act.action c.next_step.new.self = rw c.in-Act.is at c.in_ok-action.ensures.comes in
    omega (arith, c.read.ensures, new-within c.as_slice-tokens.result.now c.loop-builder.course c.next_step.new.self c.in-Act.action k.same comes)

pub spot_behind-spot-requires-clause-order : goal.spot_behind-spot-requires-clause-order
spot_behind-spot-requires-clause-order c =
    let k = c.loop-builder.invariant in
    let comes : ComesTo c.loop-builder.course c.in-Act.action c.next_step.new.self = rw c.in-Act.is at c.in_ok-action.ensures.comes in
    let standing : All (Stands c.args.text.now) c.as_slice-tokens.result.now = subst (λ (x : List Token). All (Stands c.args.text.now) x) (sym c.as_slice-tokens.ensures) (c.tokens_stand.ensures.standing c.args.text.now c.args.tokens.now c.requires.tokens) in
    let ordered : AreInOrder 0 c.as_slice-tokens.result.now = subst (λ (x : List Token). AreInOrder 0 x) (sym c.as_slice-tokens.ensures) (c.tokens_stand.ensures.ordered c.args.text.now c.args.tokens.now c.requires.tokens) in
    let order = at-order c.args.text.now c.as_slice-tokens.result.now c.loop-builder.course c.next_step.new.self c.in-Act.action c.loop-builder.builder c.loop-builder.spot k ordered standing comes in
    let here : c.first_byte.result ≡ first_byte (last_of c.as_slice-tokens.result.now c.next_step.new.self.read) = c.first_byte.ensures ∙ ap first_byte (c.last_of-token.ensures ∙ ap (last_of c.as_slice-tokens.result.now) c.read.ensures) in
    omega (arith, order, here)

pub spot_behind-spot-requires-clause-within : goal.spot_behind-spot-requires-clause-within
spot_behind-spot-requires-clause-within c =
    let k = c.loop-builder.invariant in
    let comes : ComesTo c.loop-builder.course c.in-Act.action c.next_step.new.self = rw c.in-Act.is at c.in_ok-action.ensures.comes in
    let standing : All (Stands c.args.text.now) c.as_slice-tokens.result.now = subst (λ (x : List Token). All (Stands c.args.text.now) x) (sym c.as_slice-tokens.ensures) (c.tokens_stand.ensures.standing c.args.text.now c.args.tokens.now c.requires.tokens) in
    let ordered : AreInOrder 0 c.as_slice-tokens.result.now = subst (λ (x : List Token). AreInOrder 0 x) (sym c.as_slice-tokens.ensures) (c.tokens_stand.ensures.ordered c.args.text.now c.args.tokens.now c.requires.tokens) in
    let most = byte-within c.args.text.now c.as_slice-tokens.result.now c.next_step.new.self.read standing (new-within c.as_slice-tokens.result.now c.loop-builder.course c.next_step.new.self c.in-Act.action k.same comes) in
    let here : c.first_byte.result ≡ first_byte (last_of c.as_slice-tokens.result.now c.next_step.new.self.read) = c.first_byte.ensures ∙ ap first_byte (c.last_of-token.ensures ∙ ap (last_of c.as_slice-tokens.result.now) c.read.ensures) in
    omega (arith, most, here)

pub spot_behind-spot-requires-clause-known : goal.spot_behind-spot-requires-clause-known
spot_behind-spot-requires-clause-known c =
    let k = c.loop-builder.invariant in
    rw k.spot_is refl

pub bytes_in-requires : goal.bytes_in-requires
bytes_in-requires c =
    let k = c.loop-builder.invariant in
    let comes : ComesTo c.loop-builder.course c.in-Act.action c.next_step.new.self = rw c.in-Act.is at c.in_ok-action.ensures.comes in
    let standing : All (Stands c.args.text.now) c.as_slice-tokens.result.now = subst (λ (x : List Token). All (Stands c.args.text.now) x) (sym c.as_slice-tokens.ensures) (c.tokens_stand.ensures.standing c.args.text.now c.args.tokens.now c.requires.tokens) in
    let ordered : AreInOrder 0 c.as_slice-tokens.result.now = subst (λ (x : List Token). AreInOrder 0 x) (sym c.as_slice-tokens.ensures) (c.tokens_stand.ensures.ordered c.args.text.now c.args.tokens.now c.requires.tokens) in
    rw c.last_of-token.ensures (rw c.read.ensures (last-stands c.args.text.now c.as_slice-tokens.result.now c.next_step.new.self.read standing (new-within c.as_slice-tokens.result.now c.loop-builder.course c.next_step.new.self c.in-Act.action k.same comes)))

pub act-requires-clause-fits : goal.act-requires-clause-fits
act-requires-clause-fits c =
    let k = c.loop-builder.invariant in
    let comes : ComesTo c.loop-builder.course c.in-Act.action c.next_step.new.self = rw c.in-Act.is at c.in_ok-action.ensures.comes in
    let standing : All (Stands c.args.text.now) c.as_slice-tokens.result.now = subst (λ (x : List Token). All (Stands c.args.text.now) x) (sym c.as_slice-tokens.ensures) (c.tokens_stand.ensures.standing c.args.text.now c.args.tokens.now c.requires.tokens) in
    let ordered : AreInOrder 0 c.as_slice-tokens.result.now = subst (λ (x : List Token). AreInOrder 0 x) (sym c.as_slice-tokens.ensures) (c.tokens_stand.ensures.ordered c.args.text.now c.args.tokens.now c.requires.tokens) in
    let ready = ready-here c.args.text.now c.as_slice-tokens.result.now standing (work_of c.loop-builder.builder) c.loop-builder.course c.next_step.new.self c.in-Act.action k.same k.within comes k.ready in
    (k.sound, ready-found c.in-Act.action c.next_step.new.self.ahead c.spot_behind-spot.result c.bytes_in.result.now c.next_step.new.self.read (work_of c.loop-builder.builder) (rw (bytes-here c.args.text.now c.as_slice-tokens.result.now c.bytes_in.result.now c.last_of-token.result c.read.result c.next_step.new.self.read c.bytes_in.ensures c.last_of-token.ensures c.read.ensures) ready))

pub act-requires-clause-token : goal.act-requires-clause-token
act-requires-clause-token c =
    let k = c.loop-builder.invariant in
    let comes : ComesTo c.loop-builder.course c.in-Act.action c.next_step.new.self = rw c.in-Act.is at c.in_ok-action.ensures.comes in
    let standing : All (Stands c.args.text.now) c.as_slice-tokens.result.now = subst (λ (x : List Token). All (Stands c.args.text.now) x) (sym c.as_slice-tokens.ensures) (c.tokens_stand.ensures.standing c.args.text.now c.args.tokens.now c.requires.tokens) in
    let ordered : AreInOrder 0 c.as_slice-tokens.result.now = subst (λ (x : List Token). AreInOrder 0 x) (sym c.as_slice-tokens.ensures) (c.tokens_stand.ensures.ordered c.args.text.now c.args.tokens.now c.requires.tokens) in
    let ready = ready-here c.args.text.now c.as_slice-tokens.result.now standing (work_of c.loop-builder.builder) c.loop-builder.course c.next_step.new.self c.in-Act.action k.same k.within comes k.ready in
    rw (bytes-here c.args.text.now c.as_slice-tokens.result.now c.bytes_in.result.now c.last_of-token.result c.read.result c.next_step.new.self.read c.bytes_in.ensures c.last_of-token.ensures c.read.ensures) (ready-needed c.in-Act.action c.next_step.new.self.ahead c.spot_behind-spot.result (bytes_in c.args.text.now (last_of c.as_slice-tokens.result.now c.next_step.new.self.read)) c.next_step.new.self.read (work_of c.loop-builder.builder) ready)

pub act-requires-clause-room : goal.act-requires-clause-room
act-requires-clause-room c =
    let k = c.loop-builder.invariant in
    let standing : All (Stands c.args.text.now) c.as_slice-tokens.result.now = subst (λ (x : List Token). All (Stands c.args.text.now) x) (sym c.as_slice-tokens.ensures) (c.tokens_stand.ensures.standing c.args.text.now c.args.tokens.now c.requires.tokens) in
    let ordered : AreInOrder 0 c.as_slice-tokens.result.now = subst (λ (x : List Token). AreInOrder 0 x) (sym c.as_slice-tokens.ensures) (c.tokens_stand.ensures.ordered c.args.text.now c.args.tokens.now c.requires.tokens) in
    let names = ready-names c.loop-builder.course.ahead _ c.loop-builder.course.read (work_of c.loop-builder.builder) k.ready in
    let few = few-tokens c.args.text.now c.as_slice-tokens.result.now ordered standing in
    omega (arith, names, few, k.within, ap length k.same, c.requires.size)

pub returns-in_err-act-in-Act-clause-answer : goal.returns-in_err-act-in-Act-clause-answer
returns-in_err-act-in-Act-clause-answer c =
    let k = c.loop-builder.invariant in
    let comes : ComesTo c.loop-builder.course c.in-Act.action c.next_step.new.self = rw c.in-Act.is at c.in_ok-action.ensures.comes in
    let fault = err_from_is_err_and c.from_residual-in_err-act-in-Act.result c.from_residual-in_err-act-in-Act.ensures.1 in
    let same = ap₂ (λ (x : Spot) (bs : List ℕ). perform c.in-Act.action x bs (work_of c.loop-builder.builder)) (sym (spot-here c.args.text.now c.as_slice-tokens.result.now c.spot_behind-spot.result c.first_byte.result c.last_of-token.result c.read.result c.next_step.new.self.read c.spot_behind-spot.ensures c.first_byte.ensures c.last_of-token.ensures c.read.ensures)) (sym (bytes-here c.args.text.now c.as_slice-tokens.result.now c.bytes_in.result.now c.last_of-token.result c.read.result c.next_step.new.self.read c.bytes_in.ensures c.last_of-token.ensures c.read.ensures)) in
    rw fault.1 (elim c.in_err-act-in-Act.ensures [
      | inl fails ↦ inl (subst (λ (x : List Token). IsFault c.args.text.now x fault.0) c.as_slice-tokens.ensures
          (inl (at-a-fault c.args.text.now c.as_slice-tokens.result.now c.loop-builder.course c.next_step.new.self c.in-Act.action c.loop-builder.builder c.loop-builder.spot k fault.0 comes
          (same ∙ fails ∙ ap Fails (sym fault.2)))))
      | inr none ↦ inr (fault.2 ∙ none)
    ])

pub returns-in-Done-clause-answer : goal.returns-in-Done-clause-answer
returns-in-Done-clause-answer c =
    let k = c.loop-builder.invariant in
    let does = rw c.in-Done.is at c.in_ok-action.ensures.comes in
    let says = at-the-end c.args.text.now c.as_slice-tokens.result.now c.loop-builder.course c.loop-builder.builder c.loop-builder.spot k does in
    subst (λ (x : Said). Says c.args.text.now c.args.tokens.now x) (sym c.in_ok-finish-in-Done.ensures.said) (subst (λ (x : List Token). Says c.args.text.now x (work_of c.loop-builder.builder).said) c.as_slice-tokens.ensures says)

pub returns-in-Done-clause-short : goal.returns-in-Done-clause-short
returns-in-Done-clause-short c = canon-short _ c.in_ok-finish-in-Done.ensures.program c.in_ok-finish-in-Done.ensures.once

pub returns-in-Missed-clause-answer : goal.returns-in-Missed-clause-answer
returns-in-Missed-clause-answer c =
    let k = c.loop-builder.invariant in
    let stops : StopsAt c.loop-builder.course c.in-Missed.wanted c.next_step.new.self = rw c.in-Missed.is at c.in_ok-action.ensures.comes in
    let actions = at-a-miss c.args.text.now c.as_slice-tokens.result.now c.loop-builder.course c.next_step.new.self c.loop-builder.builder c.loop-builder.spot c.in-Missed.wanted k stops in
    let byte : c.byte_of.result ≡ byte_of c.args.text.now (slice_get c.as_slice-tokens.result.now c.next_step.new.self.read) = c.byte_of.ensures ∙ ap (λ (n : ℕ). byte_of c.args.text.now (slice_get c.as_slice-tokens.result.now n)) c.read-in-Missed.ensures in
    inl (subst (λ (x : List Token). IsFault c.args.text.now x (fail.Expected c.in-Missed.wanted c.byte_of.result)) c.as_slice-tokens.ensures
    (inr (record {
      at = c.next_step.new.self.read;
      wanted = c.in-Missed.wanted;
      done = k.done;
      actions = actions;
      work = work_of c.loop-builder.builder;
      built = k.built;
      fault_is = ap (λ (n : ℕ). fail.Expected c.in-Missed.wanted n) byte;
    })))

pub loop-builder-preserved : goal.loop-builder-preserved
loop-builder-preserved c =
    let k = c.loop-builder.invariant in
    let comes : ComesTo c.loop-builder.course c.in-Act.action c.next_step.new.self = rw c.in-Act.is at c.in_ok-action.ensures.comes in
    let standing : All (Stands c.args.text.now) c.as_slice-tokens.result.now = subst (λ (x : List Token). All (Stands c.args.text.now) x) (sym c.as_slice-tokens.ensures) (c.tokens_stand.ensures.standing c.args.text.now c.args.tokens.now c.requires.tokens) in
    let ordered : AreInOrder 0 c.as_slice-tokens.result.now = subst (λ (x : List Token). AreInOrder 0 x) (sym c.as_slice-tokens.ensures) (c.tokens_stand.ensures.ordered c.args.text.now c.args.tokens.now c.requires.tokens) in
    let same = ap₂ (λ (x : Spot) (bs : List ℕ). perform c.in-Act.action x bs (work_of c.loop-builder.builder)) (sym (spot-here c.args.text.now c.as_slice-tokens.result.now c.spot_behind-spot.result c.first_byte.result c.last_of-token.result c.read.result c.next_step.new.self.read c.spot_behind-spot.ensures c.first_byte.ensures c.last_of-token.ensures c.read.ensures)) (sym (bytes-here c.args.text.now c.as_slice-tokens.result.now c.bytes_in.result.now c.last_of-token.result c.read.result c.next_step.new.self.read c.bytes_in.ensures c.last_of-token.ensures c.read.ensures)) in
    let next = kept-next c.args.text.now c.as_slice-tokens.result.now c.loop-builder.course c.next_step.new.self c.in-Act.action c.loop-builder.builder c.act.new.self c.loop-builder.spot k standing comes (same ∙ c.in_ok-act-in-Act.ensures.0) c.in_ok-act-in-Act.ensures.1 in
    subst (λ (x : Spot). Kept c.args.text.now c.as_slice-tokens.result.now c.next_step.new.self c.act.new.self x) (sym (spot-here c.args.text.now c.as_slice-tokens.result.now c.spot_behind-spot.result c.first_byte.result c.last_of-token.result c.read.result c.next_step.new.self.read c.spot_behind-spot.ensures c.first_byte.ensures c.last_of-token.ensures c.read.ensures)) next

pub loop-builder-smaller : goal.loop-builder-smaller
loop-builder-smaller c = rw c.in-Act.is at c.in_ok-action.ensures.nearer

pub loop-builder-init : goal.loop-builder-init
loop-builder-init c =
    kept-start c.args.text.now c.as_slice-tokens.result.now c.new-builder.result c.in_ok-course.course (record { at = 0; line = 1; column = 1 }) c.in_ok-course.ensures c.new-builder.ensures.sound c.new-builder.ensures.work refl
