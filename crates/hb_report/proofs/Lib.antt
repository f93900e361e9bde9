mod JournalLemmas
