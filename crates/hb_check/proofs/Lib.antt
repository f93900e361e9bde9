mod BodyLemmas
mod LookLemmas
mod ParameterLemmas
mod PartLemmas
mod RuleLemmas
mod RunLemmas
