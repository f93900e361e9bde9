use Rattle.hb_types.proofs.Below.{is_below_of, is_below_from}
use Rattle.hb_types.proofs.MapLemmas.{get_set, get_join, keeps_get, keeps_of, set_map, join_map}
use Rattle.hb_types.proofs.laws.variables_are_maps.Goals as goal

pub returns : goal.returns
returns c = record {
  set = get_set;
  join = get_join;
  keeps = λ G H k x t h. let p = keeps_get G H k x t h in (p.0, p.1, is_below_from p.0 t p.2);
  kept = λ G H m k. keeps_of G H m (λ x t h. let p = k x t h in (p.0, p.1, is_below_of p.0 t p.2));
  set_map = set_map;
  join_map = join_map;
}
