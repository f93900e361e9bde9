pub mod Lists
pub mod Trees
pub mod Known
pub mod Growth
pub mod Sites
pub mod Heights
pub mod Pages
pub mod Above
pub mod FormLemmas
mod CanonRows
pub mod Reached
pub mod Weights
pub mod CanonLemmas
