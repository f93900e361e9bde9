-- Notes that go on with what comes.
use Rattle.std.proofs.Common.{◌≡◌, ℕ, List, [], ◌∷◌, ◌++◌, Bool, true, false, Option, None, Some, Result, Ok, Err, OnOk, Vec, Global, sym, ap, ◌∙◌, subst, append_assoc}
use Rattle.std.specs.Prelude.{is_some}
use Rattle.std.proofs.lemmas.List.{append_cancel_left, map-append}
use Rattle.hb_types.specs.declared.ids.CallerId.{CallerId}
use Rattle.hb_tree.specs.Table.{Table}
use Rattle.hb_tables.specs.declared.entry.Entry.{Entry}
use Rattle.hb_tables.specs.declared.entry.Act.{Act}
use Rattle.hb_tables.specs.Answers.{Fixed}
use Rattle.hb_tables.specs.Frames.{acts}
use Rattle.hb_tables.specs.History.{Adds, Learns}
use Rattle.hb_tables.proofs.DeskLemmas.{learns_acts}
use Rattle.hb_tables.proofs.FrontLemmas.{adds_act}
use Rattle.hb_names.specs.Names.{Name}
use Rattle.hb_eval.specs.declared.machine.Machine.{Machine}
use Rattle.hb_eval.specs.Machines.{Advances, NotesOn, keeps}
use Rattle.hb_eval.specs.Noting.{HasNoted, IsJournal, entries}
use Rattle.hb_eval.specs.Staying.{Stays}

-- one act comes, and is noted
pub noted_adds : (caller : CallerId) (door later : Fixed) (old new : List Entry) (a : Act) (before was now : List Entry) (missed left : Bool)
    → later ≡ door → Adds door.caller old new a → HasNoted caller (acts door.caller old) before was missed
    → (left ≡ false → (missed ≡ false) × (now ≡ was ++ record { caller = caller; act = a } ∷ []))
    → HasNoted caller (acts later.caller new) before now left
noted_adds caller door later old new a before was now missed left same adds noted note none =
    let e : Entry = record { caller = caller; act = a } in
    let n = note none in
    ap (λ (d : Fixed). entries caller (acts d.caller new)) same
    ∙ ap (entries caller) (adds_act door.caller old new a adds)
    ∙ map-append (λ (x : Act). record { caller = caller; act = x }) (acts door.caller old) (a ∷ [])
    ∙ ap (λ l. l ++ e ∷ []) (noted n.0)
    ∙ append_assoc before was (e ∷ [])
    ∙ ap (λ l. before ++ l) (sym n.1)

-- none of the caller's own comes
pub noted_learns : (caller : CallerId) (door later : Fixed) (old new : List Entry) (before notes : List Entry) (missed : Bool)
    → later ≡ door → Learns door.caller old new → HasNoted caller (acts door.caller old) before notes missed → HasNoted caller (acts later.caller new) before notes missed
noted_learns caller door later old new before notes missed same learns noted none =
    ap (λ (d : Fixed). entries caller (acts d.caller new)) same ∙ ap (entries caller) (learns_acts door.caller old new learns) ∙ noted none

-- ── a door that is lent ──

abbrev pub lent : ℕ → Fixed → Fixed
lent name f = record { caller = f.caller; limit = f.limit; made_with = name ∷ f.made_with }

head : List ℕ → ℕ
head [] = 0
head (n ∷ ns) = n

tail : List ℕ → List ℕ
tail [] = []
tail (n ∷ ns) = ns

returned : Fixed → Fixed
returned f = record { caller = f.caller; limit = f.limit; made_with = tail f.made_with }

-- what is lent is the same door, and comes back
pub lent_same : (name other : ℕ) (f g : Fixed) → lent name f ≡ lent other g → (name ≡ other) × (f ≡ g)
unfolding head tail returned
lent_same name other f g e = (ap (λ (x : Fixed). head x.made_with) e, ap returned e)

-- so what stays of it stays of the door
pub lent_stays : (name other : ℕ) (f g : Fixed) (was now : List Entry) (names known : List Name) → Stays (lent name f) (lent other g) was now names known → Stays f g was now names known
lent_stays name other f g was now names known s =
    record { fixed = (lent_same other name g f s.fixed).1; kept = s.kept; legal = s.legal; named = s.named; few = s.few; differ = s.differ }

-- what holds in any case holds where it went well
pub noted_ok : {T E A : Type 0} (r : Result T E) → A → OnOk r A
noted_ok (Ok x) a = a
noted_ok (Err e) a = tt

-- ── what is noted goes into the journal ──

-- a journal is no part of what a machine does
pub advances_noted : (t : Table) (c : ℕ) (names known was asked : List Name) (past now : List Entry) (old m new : Machine) (kept : Option (Vec Entry Global)) → new ≡ record m { journal = kept } → Advances t c names known was asked past now old m → Advances t c names known was asked past now old new
advances_noted t c names known was asked past now old m new kept same a =
    let f = a.fine in
    let noted : Advances t c names known was asked past now old (record m { journal = kept }) =
    record {
      reads = a.reads;
      fine = record {
        conts = f.conts;
        step = f.step;
        operands = f.operands;
        frames = f.frames;
        calls = f.calls;
        decided = f.decided;
        entered = f.entered;
        based = f.based;
        known = f.known;
        time = f.time;
      };
      grown = a.grown;
      own = a.own;
    } in
    subst (Advances t c names known was asked past now old) (sym same) noted

-- the notes are the entries with the acts that came
pub noted_more : (caller : CallerId) (before now more : List Act) (notes : List Entry) → now ≡ before ++ more → entries caller now ≡ entries caller before ++ notes → notes ≡ entries caller more
noted_more caller before now more notes came noted =
    append_cancel_left (entries caller before) notes (entries caller more) (sym noted ∙ ap (entries caller) came ∙ map-append (λ (a : Act). record { caller = caller; act = a }) before more)

-- ── no journal is kept ──

unkept : (caller : CallerId) (kept : Option (Vec Entry Global)) (l : List Act) → is_some kept ≡ false → IsJournal caller kept l
unkept caller None l none = tt
unkept caller (Some kept) l none = absurd (let no : true ≡ false = none in cc no)

-- where none is kept, there is nothing to note
pub none_noted : (c : ℕ) (past now : List Entry) (old new : Machine) → keeps old ≡ false → new.journal ≡ old.journal → NotesOn c past now old new
none_noted c past now old new none same more done came was =
    subst (λ (j : Option (Vec Entry Global)). IsJournal new.caller j (done ++ more)) (sym same) (unkept new.caller old.journal (done ++ more) none)
