use Rattle.std.proofs.Common.{ap}
use Rattle.hb_draft.specs.Made.{Made}
use Rattle.hb_draft.proofs.OneTable.{one-table}
use Rattle.hb_draft.proofs.laws.one_table.Goals as goal

pub returns : goal.returns
returns c = λ t u program other laid likewise whole same. one-table t u program other laid likewise (ap (λ (m : Made). m.classes) same) (ap (λ (m : Made). m.names) same) (ap (λ (m : Made). m.texts) same)
    (ap (λ (m : Made). m.places) same) (ap (λ (m : Made). m.bodies) same) (ap (λ (m : Made). m.types) same) (ap (λ (m : Made). m.setup) same) (ap (λ (m : Made). m.scripts) same) whole
