pub mod QueueLaws
pub mod Pairs
pub mod PairLawProofs
pub mod AnswerLaws
pub mod Courses
pub mod TurnLaws
pub mod Examples
