-- Nothing was declared or built yet.
use Rattle.std.proofs.Common.{[], None, refl, lit<, arith}
use Rattle.std.specs.List.{IsDistinct}
use Rattle.std.proofs.lemmas.Option.{none-some}
use Rattle.hb_tree.specs.Table.{Table}
use Rattle.hb_tree.specs.declared.node.Node.TheVariants as node
use Rattle.hb_draft.specs.Kept.{IsDraft}

abbrev pub nothing : Table
nothing = record { classes = []; names = []; texts = []; nodes = []; items = []; bodies = []; types = []; setup = None; scripts = [] }

pub nothing_draft : IsDraft nothing []
unfolding IsDistinct
nothing_draft = record {
  program = record {
    limits = record { classes = omega arith; names = lit< tt; nodes = omega arith; types = omega arith; scripts = omega arith };
    spelled = record { classes = tt; classes_apart = tt; names = tt; names_apart = tt; texts = tt };
    nodes = λ id n e. absurd (none-some n e);
    apart = tt;
    items = tt;
    bodies = λ site b e. absurd (none-some b e);
    types = λ site y e. absurd (none-some y e);
    setup = tt;
    scripts = tt;
  };
  within = tt;
  apart = tt;
  few_items = omega arith;
  few_texts = omega arith;
  few_bodies = omega arith;
  laid = record { blocks = λ id first count e. absurd (none-some (node.Block first count) e); items = refl; bodies = tt };
}
