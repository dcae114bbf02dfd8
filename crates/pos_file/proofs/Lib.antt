pub mod Common
pub mod CourseLemmas
pub mod FollowsLemmas
