mod Bounded
mod Differences
mod Counts
pub mod OneJudgement
pub mod OneFlatJudgement
pub mod OneStarJudgement
pub mod Judging
mod Passing
pub mod Lefts
pub mod Refusing
pub mod Following
