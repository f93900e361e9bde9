use Rattle.std.proofs.Common.{◌≡◌, ◌+◌, ◌-◌, ◌≤◌, ◌++◌, length, map, take, drop, min, vec_len, vec_capacity}
use Rattle.hb_types.specs.declared.ids.NameId.{NameId}
use Rattle.hb_eval.specs.Calls.{bindings}
use Rattle.hb_eval.proofs.calls.bind.Given as goal

abbrev pub invariant-loop-i : goal.invariant-loop-i
invariant-loop-i l = record {
  bound : l.vars.items ++ bindings (map (λ (x : NameId). x.0) (drop l.i l.params)) (drop (l.from + l.i) l.operands.items) ≡ l.fn.vars.items
      ++ bindings (map (λ (x : NameId). x.0) l.params) (drop l.from l.fn.operands.items);
  below : take l.from l.operands.items ≡ take l.from l.fn.operands.items;
  size : length l.operands.items ≡ length l.fn.operands.items;
  room : vec_len l.vars + min (length l.params) (length l.fn.operands.items - l.from) ≤ vec_capacity l.vars + l.i;
}
