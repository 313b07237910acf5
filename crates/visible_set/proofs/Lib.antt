mod ConfigLemmas
mod OfferLemmas
mod Partings
