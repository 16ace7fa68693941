pub mod FollowLemmas
pub mod CountLemmas
