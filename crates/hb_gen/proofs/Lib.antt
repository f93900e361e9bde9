mod NumberLemmas
mod ShortLemmas
