-- Two histories of a program of at most one script differ in the order of their names at most.
use Rattle.std.proofs.Common.{◌≡◌, ℕ, ◌≤◌, List, length, sym, ap, ◌∙◌}
use Rattle.std.specs.Prelude.{is_some}
use Rattle.hb_tree.specs.Table.{Table}
use Rattle.hb_names.specs.Names.{Name, place}
use Rattle.hb_tables.specs.declared.entry.Entry.{Entry}
use Rattle.hb_eval.specs.Told.{Told}
use Rattle.hb_run.specs.History.{IsHistory}
use Rattle.hb_renamed.specs.Renaming.{DifferInOrder, HaveSameNames, moved, renamed}
use Rattle.hb_renamed.proofs.ActLemmas.{back, renamed_along}
use Rattle.hb_renamed.proofs.FirstUseLemmas.{asked_in_order, history_in_order, in_order, same_names, they_differ}
use Rattle.hb_renamed.proofs.OneScriptLemmas.{one_list, one_log, one_telling}
use Rattle.hb_renamed.proofs.OrderLemmas.{as_many, back_to, moved_on, stands_at}

module _ (t : Table) (limit steps : ℕ) (names others : List Name) (log second : List Entry) (runs told : List Told) (single : length t.scripts ≤ 1)
    (h : IsHistory t limit steps names log runs) (k : IsHistory t limit steps others second told) where
  -- the names of each history in the order in which its acts ask for them
  abbrev first_names : List Name
  first_names = in_order t limit steps names log runs h

  abbrev second_names : List Name
  second_names = in_order t limit steps others second told k

  abbrev first_log : List Entry
  first_log = renamed (moved names first_names) log

  abbrev second_log : List Entry
  second_log = renamed (moved others second_names) second

  first : IsHistory t limit steps first_names first_log runs
  first = history_in_order t limit steps names log runs h

  next : IsHistory t limit steps second_names second_log told
  next = history_in_order t limit steps others second told k

  lists : first_names ≡ second_names
  lists = one_list t limit steps first_names second_names first_log second_log runs told single first next (asked_in_order t limit steps names log runs h)
      (asked_in_order t limit steps others second told k)

  logs : first_log ≡ second_log
  logs = one_log t limit steps first_names second_names first_log second_log runs told single first next (asked_in_order t limit steps names log runs h)
      (asked_in_order t limit steps others second told k)

  tellings : runs ≡ told
  tellings = one_telling t limit steps first_names second_names first_log second_log runs told single first next (asked_in_order t limit steps names log runs h)
      (asked_in_order t limit steps others second told k)

  alike : HaveSameNames names others
  alike p = same_names t limit steps names log runs h p ∙ ap (λ l. is_some (place l p)) lists ∙ sym (same_names t limit steps others second told k p)

  -- from the first names over those in order to the others
  over : (j : ℕ) → moved second_names others (moved names first_names j) ≡ moved names others j
  over j = ap (λ l. moved l others (moved names first_names j)) (sym lists)
      ∙ moved_on names first_names others h.differ (they_differ t limit steps names log runs h) (same_names t limit steps names log runs h) alike j

  entries : second ≡ renamed (moved names others) log
  entries = sym (back (moved others second_names) (moved second_names others)
      (back_to others second_names k.differ (same_names t limit steps others second told k) (they_differ t limit steps others second told k)) second)
      ∙ ap (renamed (moved second_names others)) (sym logs)
      ∙ renamed_along (moved names first_names) (moved second_names others) (moved names others) over log

  pub differ_in_order : DifferInOrder names others log second runs told
  differ_in_order = record {
    reordered = record { many = as_many names others h.differ k.differ alike; same = alike };
    places = stands_at names others h.differ alike k.differ;
    entries = entries;
    one = tellings;
  }
