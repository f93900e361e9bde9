use Rattle.std.proofs.Common.{◌≡◌, List, Bool, length, reverse, refl, sym, ap, ◌∙◌, arith, subst}
use Rattle.std.proofs.lemmas.List.{length-reverse}
use Rattle.hb_types.specs.declared.{types.Ty.Ty, types.MethodTy.MethodTy}
use Rattle.hb_tree.specs.Program.{IsMethodTyIn}
use Rattle.hb_draft.specs.Unfinished.{in_hand}
use Rattle.hb_build.proofs.{TakeLemmas.top-type, ParameterLemmas.few-types-on, PushLemmas.KeepsRest}
use Rattle.hb_build.specs.declared.{builder.Builder.Builder, held.Held.Held}
use Rattle.hb_build.specs.{Answers.Answers, Pile.Slot, Pile.types_on, Pile.below_types}
use Rattle.hb_build.specs.Sound.{work_of, things_of, pile_of, parameter_types_of}
use Rattle.hb_build.specs.Acts.{Work, Answer, with_type, declare, method_ty}
use Rattle.hb_build.proofs.SignatureLemmas.{IsSigned, signed, few-signed, method-signed, sound-signed, declare-there, named-there, computed-there}
use Rattle.hb_build.proofs.builder.Builder.put_declare.Goals as goal

-- the action over what lies on top
abbrev go : Bool → Work → Ty → List Slot → Answer
go asks w y pile = declare (method_ty (types_on pile) y) asks (below_types pile) w

pub take_type-result-requires : goal.take_type-result-requires
take_type-result-requires c =
    let t = top-type (things_of c.args.self.now) (in_hand c.args.self.now.draft) (go c.args.asks (work_of c.args.self.now)) c.requires.fits.1 in
    (t.1, t.0, t.2)

-- the types that are taken off are those on top
types-are : (held items : List Held) (types : List Ty) → types ≡ parameter_types_of (reverse held) → held ≡ items → types ≡ parameter_types_of (reverse items)
types-are held items types is same = is ∙ ap (λ xs. parameter_types_of (reverse xs)) same

pub overflow_sub-len : goal.overflow_sub-len
overflow_sub-len c =
    let types = types-are c.deref.result.now c.take_type-result.new.held.items c.in_ok-types.types.items c.in_ok-types.ensures c.deref.ensures.value in
    omega (arith, ap length types, few-types-on (reverse c.take_type-result.new.held.items), length-reverse c.take_type-result.new.held.items)

pub method_ty-ty-requires : goal.method_ty-ty-requires
method_ty-ty-requires c =
    let old : Builder = c.args.self.now in
    let new : Builder = record old { held = c.truncate.new.self } in
    let taken = c.take_type-result.new.held.items in
    let types = types-are c.deref.result.now taken c.in_ok-types.types.items c.in_ok-types.ensures c.deref.ensures.value in
    let long : c.len.result ≡ length taken = omega arith in
    let count : c.len-2.result ≡ length c.in_ok-types.types.items = omega arith in
    let keeps : KeepsRest old new = record { draft = refl; outer = refl; declaring = refl; scripts = refl } in
    let s : IsSigned old new c.take_type-result.result (reverse taken) =
    signed old new c.take_type-result.result taken c.in_ok-types.types.items c.len.result c.len-2.result c.take_type-result.ensures types count long c.truncate.ensures.items keeps refl in
    omega (arith, few-signed old new c.take_type-result.result (reverse taken) s c.requires.fits.0, ap length types, ap length c.deref-2.ensures.value)

pub declare-requires-clause-sound : goal.declare-requires-clause-sound
declare-requires-clause-sound c =
    let old : Builder = c.args.self.now in
    let new : Builder = record old { held = c.truncate.new.self } in
    let taken = c.take_type-result.new.held.items in
    let types = types-are c.deref.result.now taken c.in_ok-types.types.items c.in_ok-types.ensures c.deref.ensures.value in
    let long : c.len.result ≡ length taken = omega arith in
    let count : c.len-2.result ≡ length c.in_ok-types.types.items = omega arith in
    let keeps : KeepsRest old new = record { draft = refl; outer = refl; declaring = refl; scripts = refl } in
    let s : IsSigned old new c.take_type-result.result (reverse taken) =
    signed old new c.take_type-result.result taken c.in_ok-types.types.items c.len.result c.len-2.result c.take_type-result.ensures types count long c.truncate.ensures.items keeps refl in
    sound-signed old new c.take_type-result.result (reverse taken) s c.requires.fits.0

pub declare-requires-clause-ty : goal.declare-requires-clause-ty
declare-requires-clause-ty c =
    let old : Builder = c.args.self.now in
    let new : Builder = record old { held = c.truncate.new.self } in
    let taken = c.take_type-result.new.held.items in
    let types = types-are c.deref.result.now taken c.in_ok-types.types.items c.in_ok-types.ensures c.deref.ensures.value in
    let long : c.len.result ≡ length taken = omega arith in
    let count : c.len-2.result ≡ length c.in_ok-types.types.items = omega arith in
    let keeps : KeepsRest old new = record { draft = refl; outer = refl; declaring = refl; scripts = refl } in
    let s : IsSigned old new c.take_type-result.result (reverse taken) =
    signed old new c.take_type-result.result taken c.in_ok-types.types.items c.len.result c.len-2.result c.take_type-result.ensures types count long c.truncate.ensures.items keeps refl in
    let type : c.method_ty-ty.result ≡ method_ty (parameter_types_of (reverse taken)) c.take_type-result.result =
    c.method_ty-ty.ensures ∙ ap (λ (ys : List Ty). method_ty ys c.take_type-result.result) (c.deref-2.ensures.value ∙ types) in
    subst (IsMethodTyIn old.draft.table) (sym type) (method-signed old new c.take_type-result.result (reverse taken) s c.requires.fits.0)

pub declare-requires-clause-top : goal.declare-requires-clause-top
declare-requires-clause-top c =
    let old : Builder = c.args.self.now in
    let new : Builder = record old { held = c.truncate.new.self } in
    let taken = c.take_type-result.new.held.items in
    let types = types-are c.deref.result.now taken c.in_ok-types.types.items c.in_ok-types.ensures c.deref.ensures.value in
    let long : c.len.result ≡ length taken = omega arith in
    let count : c.len-2.result ≡ length c.in_ok-types.types.items = omega arith in
    let keeps : KeepsRest old new = record { draft = refl; outer = refl; declaring = refl; scripts = refl } in
    let s : IsSigned old new c.take_type-result.result (reverse taken) =
    signed old new c.take_type-result.result taken c.in_ok-types.types.items c.len.result c.len-2.result c.take_type-result.ensures types count long c.truncate.ensures.items keeps refl in
    let there = declare-there old new c.take_type-result.result (reverse taken) s c.args.asks c.deref-2.result.now (work_of old) (c.deref-2.ensures.value ∙ types) in
    let answer : with_type (pile_of old) (go c.args.asks (work_of old)) ≡ declare c.method_ty-ty.result c.args.asks (pile_of new) (work_of old) =
    there ∙ ap (λ (type : MethodTy). declare type c.args.asks (pile_of new) (work_of old)) (sym c.method_ty-ty.ensures) in
    named-there new c.method_ty-ty.result c.args.asks (work_of old) (λ lost. c.requires.fits.1 (answer ∙ lost)) c.deref-3.result.now c.deref-3.ensures.value c.has_name.result c.has_name.ensures c.if-has_name.true

pub returns-then-has_name : goal.returns-then-has_name
returns-then-has_name c =
    let old : Builder = c.args.self.now in
    let new : Builder = record old { held = c.truncate.new.self } in
    let taken = c.take_type-result.new.held.items in
    let types = types-are c.deref.result.now taken c.in_ok-types.types.items c.in_ok-types.ensures c.deref.ensures.value in
    let long : c.len.result ≡ length taken = omega arith in
    let count : c.len-2.result ≡ length c.in_ok-types.types.items = omega arith in
    let keeps : KeepsRest old new = record { draft = refl; outer = refl; declaring = refl; scripts = refl } in
    let s : IsSigned old new c.take_type-result.result (reverse taken) =
    signed old new c.take_type-result.result taken c.in_ok-types.types.items c.len.result c.len-2.result c.take_type-result.ensures types count long c.truncate.ensures.items keeps refl in
    let there = declare-there old new c.take_type-result.result (reverse taken) s c.args.asks c.deref-2.result.now (work_of old) (c.deref-2.ensures.value ∙ types) in
    let answer : with_type (pile_of old) (go c.args.asks (work_of old)) ≡ declare c.method_ty-ty.result c.args.asks (pile_of new) (work_of old) =
    there ∙ ap (λ (type : MethodTy). declare type c.args.asks (pile_of new) (work_of old)) (sym c.method_ty-ty.ensures) in
    subst (λ (a : Answer). Answers a c.declare.result c.declare.new.self) (sym answer) c.declare.ensures

pub declare_computed-requires-clause-sound : goal.declare_computed-requires-clause-sound
declare_computed-requires-clause-sound c =
    let old : Builder = c.args.self.now in
    let new : Builder = record old { held = c.truncate.new.self } in
    let taken = c.take_type-result.new.held.items in
    let types = types-are c.deref.result.now taken c.in_ok-types.types.items c.in_ok-types.ensures c.deref.ensures.value in
    let long : c.len.result ≡ length taken = omega arith in
    let count : c.len-2.result ≡ length c.in_ok-types.types.items = omega arith in
    let keeps : KeepsRest old new = record { draft = refl; outer = refl; declaring = refl; scripts = refl } in
    let s : IsSigned old new c.take_type-result.result (reverse taken) =
    signed old new c.take_type-result.result taken c.in_ok-types.types.items c.len.result c.len-2.result c.take_type-result.ensures types count long c.truncate.ensures.items keeps refl in
    sound-signed old new c.take_type-result.result (reverse taken) s c.requires.fits.0

pub declare_computed-requires-clause-ty : goal.declare_computed-requires-clause-ty
declare_computed-requires-clause-ty c =
    let old : Builder = c.args.self.now in
    let new : Builder = record old { held = c.truncate.new.self } in
    let taken = c.take_type-result.new.held.items in
    let types = types-are c.deref.result.now taken c.in_ok-types.types.items c.in_ok-types.ensures c.deref.ensures.value in
    let long : c.len.result ≡ length taken = omega arith in
    let count : c.len-2.result ≡ length c.in_ok-types.types.items = omega arith in
    let keeps : KeepsRest old new = record { draft = refl; outer = refl; declaring = refl; scripts = refl } in
    let s : IsSigned old new c.take_type-result.result (reverse taken) =
    signed old new c.take_type-result.result taken c.in_ok-types.types.items c.len.result c.len-2.result c.take_type-result.ensures types count long c.truncate.ensures.items keeps refl in
    let type : c.method_ty-ty.result ≡ method_ty (parameter_types_of (reverse taken)) c.take_type-result.result =
    c.method_ty-ty.ensures ∙ ap (λ (ys : List Ty). method_ty ys c.take_type-result.result) (c.deref-2.ensures.value ∙ types) in
    subst (IsMethodTyIn old.draft.table) (sym type) (method-signed old new c.take_type-result.result (reverse taken) s c.requires.fits.0)

pub declare_computed-requires-clause-top : goal.declare_computed-requires-clause-top
declare_computed-requires-clause-top c =
    let old : Builder = c.args.self.now in
    let new : Builder = record old { held = c.truncate.new.self } in
    let taken = c.take_type-result.new.held.items in
    let types = types-are c.deref.result.now taken c.in_ok-types.types.items c.in_ok-types.ensures c.deref.ensures.value in
    let long : c.len.result ≡ length taken = omega arith in
    let count : c.len-2.result ≡ length c.in_ok-types.types.items = omega arith in
    let keeps : KeepsRest old new = record { draft = refl; outer = refl; declaring = refl; scripts = refl } in
    let s : IsSigned old new c.take_type-result.result (reverse taken) =
    signed old new c.take_type-result.result taken c.in_ok-types.types.items c.len.result c.len-2.result c.take_type-result.ensures types count long c.truncate.ensures.items keeps refl in
    let there = declare-there old new c.take_type-result.result (reverse taken) s c.args.asks c.deref-2.result.now (work_of old) (c.deref-2.ensures.value ∙ types) in
    let answer : with_type (pile_of old) (go c.args.asks (work_of old)) ≡ declare c.method_ty-ty.result c.args.asks (pile_of new) (work_of old) =
    there ∙ ap (λ (type : MethodTy). declare type c.args.asks (pile_of new) (work_of old)) (sym c.method_ty-ty.ensures) in
    computed-there new c.method_ty-ty.result c.args.asks (work_of old) (λ lost. c.requires.fits.1 (answer ∙ lost)) c.deref-3.result.now c.deref-3.ensures.value c.has_name.result c.has_name.ensures c.if-has_name.false

pub returns : goal.returns
returns c =
    let old : Builder = c.args.self.now in
    let new : Builder = record old { held = c.truncate.new.self } in
    let taken = c.take_type-result.new.held.items in
    let types = types-are c.deref.result.now taken c.in_ok-types.types.items c.in_ok-types.ensures c.deref.ensures.value in
    let long : c.len.result ≡ length taken = omega arith in
    let count : c.len-2.result ≡ length c.in_ok-types.types.items = omega arith in
    let keeps : KeepsRest old new = record { draft = refl; outer = refl; declaring = refl; scripts = refl } in
    let s : IsSigned old new c.take_type-result.result (reverse taken) =
    signed old new c.take_type-result.result taken c.in_ok-types.types.items c.len.result c.len-2.result c.take_type-result.ensures types count long c.truncate.ensures.items keeps refl in
    let there = declare-there old new c.take_type-result.result (reverse taken) s c.args.asks c.deref-2.result.now (work_of old) (c.deref-2.ensures.value ∙ types) in
    let answer : with_type (pile_of old) (go c.args.asks (work_of old)) ≡ declare c.method_ty-ty.result c.args.asks (pile_of new) (work_of old) =
    there ∙ ap (λ (type : MethodTy). declare type c.args.asks (pile_of new) (work_of old)) (sym c.method_ty-ty.ensures) in
    subst (λ (a : Answer). Answers a c.declare_computed.result c.declare_computed.new.self) (sym answer) c.declare_computed.ensures
