pub mod RoomLemmas
pub mod RuleLemmas
pub mod FollowLemmas
pub mod ParameterLemmas
pub mod CountLemmas
pub mod AnswerLemmas
pub mod BodyLemmas
