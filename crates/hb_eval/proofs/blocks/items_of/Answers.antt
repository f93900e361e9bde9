use Rattle.hb_eval.proofs.BlockLemmas.{few_items}
use Rattle.hb_eval.proofs.blocks.items_of.Goals as goal

pub counted-requires : goal.counted-requires
counted-requires c = few_items _ _ _ _ _ c.in-Block.ensures.tree c.items.ensures.tree
