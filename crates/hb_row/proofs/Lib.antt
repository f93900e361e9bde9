mod EndLemmas
mod ListLemmas
mod NoteLemmas
mod PackingLemmas
mod PlacingLemmas
mod SeatLemmas
mod SittingLemmas
